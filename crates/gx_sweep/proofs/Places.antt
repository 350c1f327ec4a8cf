-- Two places of the index.
use Rattle.std.proofs.Common.{◌≡◌, ◌≢◌, ◌⊎◌, inl, inr, ⊎_elim, ℕ, Bool, ◌&&◌, ap, sym, refl, subst, ◌∙◌, true, false, eqb}
use Rattle.std.proofs.lemmas.Bool.{and_parts}
use Rattle.std.proofs.lemmas.Bool.Decides.{Decides-eqb, Decides-int_eq}
use Rattle.std.proofs.lemmas.Cmp.{int_eq_equiv, nat_eq_equiv, nat_list_eq_equiv}
use Rattle.std.proofs.lemmas.Slice.Eq.{slice_eq-Decides}
use Rattle.gx_ids.specs.declared.ids.Table.{Table}
use Rattle.gx_tree.specs.contracts.value.ValuePartialEq.TheImpl as value
use Rattle.gx_tree.specs.declared.value.Value.{Value}
use Rattle.gx_tree.specs.declared.value.Value.TheVariants.{Int, Text}
use Rattle.gx_sweep.specs.declared.table_key.TableKey.{TableKey}
use Rattle.gx_sweep.specs.contracts.table_key.TableKeyPartialEq.TheImpl as block

same_value : (a b : Value) → value.ghosts.eq a b ≡ true → a ≡ b
same_value (Int m) (Int n) e = ap Int ((Decides-int_eq m n).0 e)
same_value (Text s) (Text t) e = ap Text ((slice_eq-Decides Decides-eqb s t (value.ghosts.eq (Text s) (Text t)) refl).0 e)
same_value (Int m) (Text t) e = cc
same_value (Text s) (Int n) e = cc

value_itself : (a : Value) → value.ghosts.eq a a ≡ true
value_itself (Int m) = int_eq_equiv.refl m
value_itself (Text s) = nat_list_eq_equiv.refl s

eq_is : (t u : Table) (a b : Value) → block.ghosts.eq (record { table = t; key = a }) (record { table = u; key = b }) ≡ (eqb t.0 u.0 && value.ghosts.eq a b)
eq_is t u (Int m) (Int n) = refl
eq_is t u (Text s) (Text r) = refl
eq_is t u (Int m) (Text r) = refl
eq_is t u (Text s) (Int n) = refl

pub same_place : (p q : TableKey) → block.ghosts.eq p q ≡ true → p ≡ q
same_place p q e =
    let parts = and_parts (eqb p.table.0 q.table.0) (value.ghosts.eq p.key q.key) (sym (eq_is p.table q.table p.key q.key) ∙ e) in
    ap (λ (n : ℕ). let r : TableKey = record { table = record { 0 = n }; key = p.key } in r) ((Decides-eqb p.table.0 q.table.0).0 parts.0)
    ∙ ap (λ (v : Value). let r : TableKey = record { table = q.table; key = v } in r) (same_value p.key q.key parts.1)

-- a place is another one, or the same
pub place_cases : (p q : TableKey) → (p ≡ q) ⊎ (block.ghosts.eq p q ≡ false)
place_cases p q = by_test (block.ghosts.eq p q) refl
  where
    by_test : (b : Bool) → block.ghosts.eq p q ≡ b → (p ≡ q) ⊎ (block.ghosts.eq p q ≡ false)
    by_test true e = inl (same_place p q e)
    by_test false e = inr e

pub elsewhere_than : (p q : TableKey) → q ≢ p → block.ghosts.eq p q ≡ false
elsewhere_than p q other = ⊎_elim (λ (e : p ≡ q). absurd (other (sym e))) (λ (e : block.ghosts.eq p q ≡ false). e) (place_cases p q)

apart : (p q : TableKey) → block.ghosts.eq p q ≡ false → p ≢ q
apart p q e same = absurd (differ (sym (subst (λ (r : TableKey). block.ghosts.eq p r ≡ false) (sym same) e) ∙ at_itself p))
  where
    differ : false ≡ true → ⊥
    differ e = cc

    at_itself : (p : TableKey) → block.ghosts.eq p p ≡ true
    at_itself p = eq_is p.table p.table p.key p.key ∙ ap (λ (b : Bool). b && value.ghosts.eq p.key p.key) (nat_eq_equiv.refl p.table.0) ∙ value_itself p.key

pub same_or_other : (p q : TableKey) → (p ≡ q) ⊎ (p ≢ q)
same_or_other p q = ⊎_elim (λ (e : p ≡ q). inl e) (λ (e : block.ghosts.eq p q ≡ false). inr (apart p q e)) (place_cases p q)
