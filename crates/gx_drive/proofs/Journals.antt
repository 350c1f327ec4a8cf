-- Journals before anything was done.
use Rattle.std.proofs.Common.{◌≡◌, ◌≤◌, ℕ, zero, suc, ◌+◌, List, [], ◌∷◌, Some, inl, sym, ap, ◌∙◌, subst, arith, length}
use Rattle.std.proofs.lemmas.List.{length-map}
use Rattle.std.proofs.lemmas.List.Elements.{recursion_from_All}
use Rattle.std.specs.List.{AllByRecursion}
use Rattle.std.specs.Prelude.{map, slice_get}
use Rattle.gx_outside.specs.Shelves.{Shelf, AreEmpty}
use Rattle.gx_store.specs.Refusals.{the_coordinator}
use Rattle.gx_drive.specs.Ordered.{AreFailuresFew, AreHeld, AreHeldSoFar}

same-some : (a b : Shelf) → Some a ≡ Some b → a ≡ b
same-some a b e = cc

empty-there : (shelves : List Shelf) (k : ℕ) (s : Shelf) → AllByRecursion (λ shelf. shelf.items ≡ []) shelves → slice_get shelves k ≡ Some s → s.items ≡ []
empty-there [] k s all e = absurd (cc)
empty-there (x ∷ shelves) zero s all e = ap (λ (x : Shelf). x.items) (sym (same-some x s e)) ∙ all.0
empty-there (x ∷ shelves) (suc k) s all e = empty-there shelves k s all.1 e

-- they hold what no step stands for
pub none-held : (shelves : List Shelf) → AreEmpty shelves → AreHeld [] shelves
none-held shelves all node s there = empty-there shelves node.0 s (recursion_from_All (λ (shelf : Shelf). shelf.items ≡ []) shelves all) there

pub none-held-so-far : (shelves : List Shelf) → AreEmpty shelves → AreHeldSoFar [] shelves
none-held-so-far shelves all =
    record { last = the_coordinator; own = λ s there. inl (none-held shelves all the_coordinator s there); others = λ node s apart there. none-held shelves all node s there }

-- and none has failed
pub none-failed : (shelves : List Shelf) → AreFailuresFew [] shelves shelves
none-failed shelves node b a was now = subst (λ (x : Shelf). 0 + b.faults ≤ x.faults) (same-some b a (sym was ∙ now)) (least b.faults)
  where
    least : (n : ℕ) → 0 + n ≤ n
    least n = omega arith

-- as many shelves as journals
pub as-many : {A : Type 0} (f : A → Shelf) (js : List A) (n : ℕ) → length js ≡ n → length (map f js) ≡ n
as-many f js n e = length-map js f ∙ e
