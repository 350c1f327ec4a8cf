-- Where a row's writes stand, each is at one node alone.
use Rattle.std.proofs.Common.{◌≡◌, List, [], ◌∷◌, Option, Some, Bool, true, false, refl, subst, ap, if◌then◌else◌}
use Rattle.gx_lemmas.proofs.Numbers.{eqb-of}
use Rattle.gx_lemmas.proofs.Options.{some-same}
use Rattle.gx_ids.specs.declared.ids.Node.{Node}
use Rattle.gx_ids.specs.declared.ids.Table.{Table}
use Rattle.gx_ids.specs.declared.rid.Rid.{Rid}
use Rattle.gx_tree.specs.declared.value.Value.{Value}
use Rattle.gx_script.specs.declared.Script.{Script}
use Rattle.gx_store.specs.declared.mark.Mark.{Mark}
use Rattle.gx_store.specs.declared.mark.Mark.TheVariants as mark
use Rattle.gx_store.specs.Marks.{is_same_rid, node_of}
use Rattle.gx_store.proofs.Rows.{same_rid}
use Rattle.gx_law_order.specs.Lists.{Each}
use Rattle.gx_law_reads.specs.Sights.{IsOnlyAt}
use Rattle.gx_law_writes.specs.Homes.{IsPlaced, IsPlacedMark}
use Rattle.gx_law_writes.proofs.Placed.{same-place}

module _ (script : Script) (all : List Mark) (node : Node) (rid : Rid) where
  -- a write of the row at the node
  pub record IsAt : Type 0 where
    pub t : Table
    pub x : Option (List Value)
    pub placed : IsPlaced script all node t rid x

  pub first-at : (ms : List Mark) → Each (IsPlacedMark script all) ms → node_of ms rid ≡ Some node → IsAt
  first-at [] e f = absurd (cc)
  first-at (mark.Write g c n t r x ∷ ms) e f = by_test (is_same_rid r rid) refl f (first-at ms e.1)
    where
      by_test : (b : Bool) → is_same_rid r rid ≡ b → (if b then Some n else node_of ms rid) ≡ Some node → (node_of ms rid ≡ Some node → IsAt) → IsAt
      by_test true s q more =
          record { t = t; x = x; placed = subst (λ k. IsPlaced script all k t rid x) (some-same n node q) (subst (λ k. IsPlaced script all n t k x) (same_rid r rid s) e.0) }
      by_test false s q more = more q
  first-at (m ∷ ms) e f = first-at ms e.1 f

  only-rest : IsAt → (ms : List Mark) → Each (IsPlacedMark script all) ms → IsOnlyAt node rid ms
  only-rest a [] e = tt
  only-rest a (mark.Write g c n t r x ∷ ms) e = (λ s. eqb-of n.0 node.0 (ap (λ (k : Node). k.0) (same-place script all node n a.t t rid a.x x a.placed (subst (λ k. IsPlaced script all n t k x) (same_rid r rid s) e.0))), only-rest a ms e.1)
  only-rest a (m ∷ ms) e = only-rest a ms e.1

  pub only-at : (ms : List Mark) → Each (IsPlacedMark script all) ms → node_of ms rid ≡ Some node → IsOnlyAt node rid ms
  only-at ms e f = only-rest (first-at ms e f) ms e
