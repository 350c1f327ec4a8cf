-- Each row stands at one node, and is of one table.
use Rattle.std.proofs.Common.{◌≡◌, ◌==◌, List, [], ◌∷◌, Option, Some, None, Bool, true, false, refl, subst, ap, ◌∙◌, if◌then◌else◌, arith}
use Rattle.std.proofs.lemmas.Bool.Decides.{nat_tests}
use Rattle.gx_ids.specs.declared.ids.Node.{Node}
use Rattle.gx_ids.specs.declared.ids.Table.{Table}
use Rattle.gx_ids.specs.declared.rid.Rid.{Rid}
use Rattle.gx_tree.specs.declared.value.Value.{Value}
use Rattle.gx_lemmas.proofs.Options.{some-same}
use Rattle.gx_lemmas.proofs.Tests.{true-false}
use Rattle.gx_script.specs.declared.Script.{Script}
use Rattle.gx_store.proofs.Rows.{same_rid}
use Rattle.gx_store.specs.declared.mark.Mark.{Mark}
use Rattle.gx_store.specs.declared.mark.Mark.TheVariants as mark
use Rattle.gx_store.specs.Journals.{is_same_node}
use Rattle.gx_store.specs.Marks.{is_same_rid, node_of}
use Rattle.gx_law_order.specs.Lists.{Each}
use Rattle.gx_law_reads.specs.Sights.{IsOnlyAt}
use Rattle.gx_law_writes.proofs.Never.{IsOfTable}
use Rattle.gx_law_writes.proofs.SelectedRows.{HaveHomes}
use Rattle.gx_law_writes.specs.Homes.{IsPlaced, IsPlacedMark}
use Rattle.gx_law_writes.proofs.Placed.{one-row, same-place}

module _ (script : Script) (all : List Mark) (rid : Rid) where
  -- one of its writes
  pub record Stands : Type 0 where
    pub node : Node
    pub table : Table
    pub image : Option (List Value)
    pub placed : IsPlaced script all node table rid image

  at-rid : (n : Node) (t : Table) (r : Rid) (x : Option (List Value)) → is_same_rid r rid ≡ true → IsPlaced script all n t r x → IsPlaced script all n t rid x
  at-rid n t r x e p = subst (λ q. IsPlaced script all n t q x) (same_rid r rid e) p

  -- the first write
  first-write : (ms : List Mark) (first : Node) → Each (IsPlacedMark script all) ms → node_of ms rid ≡ Some first → (s : Stands) × (s.node ≡ first)
  first-write [] first e f = absurd (cc)
  first-write (mark.Write g c n t r x ∷ ms) first e f = by_test (is_same_rid r rid) refl f (first-write ms first e.1)
    where
      by_test : (b : Bool) → is_same_rid r rid ≡ b → (if b then Some n else node_of ms rid) ≡ Some first → (node_of ms rid ≡ Some first → (s : Stands) × (s.node ≡ first)) → (s : Stands) × (s.node ≡ first)
      by_test true q z more = (record { node = n; table = t; image = x; placed = at-rid n t r x q e.0 }, some-same n first z)
      by_test false q z more = more z
  first-write (m ∷ ms) first e f = first-write ms first e.1 f

  node-self : (n : Node) → is_same_node n n ≡ true
  node-self n = grind (arith, nat_tests)

  table-self : (t : Table) → (t.0 == t.0) ≡ true
  table-self t = grind (arith, nat_tests)

  -- all stand where one does
  only-there : (s : Stands) (ms : List Mark) → Each (IsPlacedMark script all) ms → IsOnlyAt s.node rid ms
  only-there s [] e = tt
  only-there s (mark.Write g c n t r x ∷ ms) e = (
    λ q. ap (λ k. is_same_node k s.node) (same-place script all s.node n s.table t rid s.image x s.placed (at-rid n t r x q e.0)) ∙ node-self s.node,
    only-there s ms e.1,
  )
  only-there s (m ∷ ms) e = only-there s ms e.1

  of-that : (s : Stands) (ms : List Mark) → Each (IsPlacedMark script all) ms → IsOfTable s.table rid ms
  of-that s [] e = tt
  of-that s (mark.Write g c n t r x ∷ ms) e = (
    λ q. let p = at-rid n t r x q e.0 in ap (λ (u : Table). u.0 == s.table.0) (one-row script all rid t s.table p.values s.placed.values p.row_of s.placed.row_of).0 ∙ table-self s.table,
    of-that s ms e.1,
  )
  of-that s (m ∷ ms) e = of-that s ms e.1

  -- a row that was never written is of any table
  of-any : (table : Table) (ms : List Mark) → node_of ms rid ≡ None → IsOfTable table rid ms
  of-any table [] f = tt
  of-any table (mark.Write g c n t r x ∷ ms) f = by_test (is_same_rid r rid) refl f (of-any table ms)
    where
      by_test : (b : Bool) → is_same_rid r rid ≡ b → (if b then Some n else node_of ms rid) ≡ None → (node_of ms rid ≡ None → IsOfTable table rid ms) → (is_same_rid r rid ≡ true → (t.0 == table.0) ≡ true) × IsOfTable table rid ms
      by_test true q z more = absurd (cc)
      by_test false q z more = (λ same. absurd (true-false (is_same_rid r rid) same q), more z)
  of-any table (m ∷ ms) f = of-any table ms f

pub have-homes : (script : Script) (ms : List Mark) → Each (IsPlacedMark script ms) ms → HaveHomes ms
have-homes script ms placed =
    record {
      nodes = λ rid first e. let s = first-write script ms rid ms first placed e in subst (λ n. IsOnlyAt n rid ms) s.1 (only-there script ms rid s.0 ms placed);
      tables = λ rid. by_node rid (node_of ms rid) refl;
    }
  where
    by_node : (rid : Rid) (o : Option Node) → node_of ms rid ≡ o → (table : Table) × IsOfTable table rid ms
    by_node rid None e = (record { 0 = 0 }, of-any script ms rid (record { 0 = 0 }) ms e)
    by_node rid (Some first) e = let s = first-write script ms rid ms first placed e in (s.0.table, of-that script ms rid s.0 ms placed)
