-- Where a row stands, as tests.
use Rattle.std.proofs.Common.{◌≡◌, ◌∙◌, ℕ, ◌==◌, ◌≤◌, nat_le, true, Option, Some, None, refl, sym, ap, arith}
use Rattle.std.proofs.lemmas.Bool.Decides.{nat_tests}
use Rattle.gx_ids.specs.declared.ids.Node.{Node}
use Rattle.gx_ids.specs.declared.ids.Table.{Table}
use Rattle.gx_lemmas.proofs.Numbers.{eqb-of, same-of}
use Rattle.gx_legal.specs.Late.{is_written_at, is_written_in}
use Rattle.gx_legal.proofs.Decided.{no_more}

node-same : (m n : Node) → (m.0 == n.0) ≡ true → m ≡ n
node-same m n e = ap (λ (k : ℕ). let x : Node = record { 0 = k } in x) (same-of m.0 n.0 e)

pub table-same : (t u : Table) → (t.0 == u.0) ≡ true → t ≡ u
table-same t u e = ap (λ (k : ℕ). let x : Table = record { 0 = k } in x) (same-of t.0 u.0 e)

pub same-table : (t u : Table) → u ≡ t → (t.0 == u.0) ≡ true
same-table t u e = eqb-of t.0 u.0 (ap (λ (x : Table). x.0) (sym e))

pub at-least : (m n : ℕ) → nat_le m n ≡ true → m ≤ n
at-least m n e = grind (arith, nat_tests)

pub is-at-least : (m n : ℕ) → m ≤ n → nat_le m n ≡ true
is-at-least m n e = grind (arith, nat_tests)

pub written-is : (first : Option Node) (node : Node) → is_written_at first node ≡ true → first ≡ Some node
written-is None node e = no_more _ e
written-is (Some first) node e = ap Some (node-same first node e)

pub is-written : (first : Option Node) (node : Node) → first ≡ Some node → is_written_at first node ≡ true
is-written first node e = ap (λ o. is_written_at o node) e ∙ eqb-of node.0 node.0 refl

pub within-is : (first : Option Table) (table : Table) → is_written_in first table ≡ true → first ≡ Some table
within-is None table e = no_more _ e
within-is (Some first) table e = ap Some (table-same first table e)

pub is-within : (first : Option Table) (table : Table) → first ≡ Some table → is_written_in first table ≡ true
is-within first table e = ap (λ o. is_written_in o table) e ∙ eqb-of table.0 table.0 refl
