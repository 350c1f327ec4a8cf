-- How a `Boxed` stores the one value that it holds, so that a type may reach itself through it: the value is the
-- hole, and the pointer and the allocator are the shape round it.
use mathlib.Core.Path.{refl}
use mathlib.Core.Former.{Former, this, const, pair, via}
use base.Stored.{gnil}
use base.Fml.{ftrue}
use denote.RattleType.{RattleType}
use denote.Memory.{part_of}
use denote.RawPtr.{Ptr}
use denote.Sharing.{nothing}
use denote.HoleLaws.{Alike}
use denote.HolePlaces.{Recodes, struct_places, laid, one_value}
use denote.Hole.Fix.{over}
use denote.Param.Weighed.{Weighed}
use denote.Model.Placed.{view_places}
use Rattle.std.specs.declared.boxed.Box.{Box}
use Rattle.std.specs.contracts.boxed.Box as box
use Rattle.std.specs.declared.alloc.Global.{Global}
use Rattle.std.specs.contracts.alloc.Global as heap
use Rattle.std.specs.contracts.impls.GlobalAllocator.TheImpl.{ghosts}
use Rattle.gx_ids.specs.declared.boxed.Boxed.TheInside.{Inside}
use Rattle.gx_ids.specs.declared.boxed.Boxed.TheView.{view, invariant}
use Rattle.gx_ids.specs.contracts.boxed.Boxed as boxed
use Rattle.gx_ids.specs.contracts.boxed.Boxed.TheInside as inside

-- contracts see the value alone, so what it holds is what its value holds
abbrev pub the_former : Former {0} → Former {0}
the_former held = held

abbrev pub the_weighed : {held : Former {0}} → Weighed held → Weighed (the_former held)
the_weighed weight = weight

-- the fields, taken apart into the shape and the value
abbrev shape_and_value : Former {0}
shape_and_value = via (pair (const (Ptr × Global)) this) Inside
    (λ X b. ((b.inner.ptr, b.inner.alloc), b.inner.value))
    (λ X parts. record { inner = record { ptr = parts.0.0; alloc = parts.0.1; value = parts.1 } })
    (λ X b. refl) (λ X parts. refl)

-- the same box round another value
abbrev holding : {X Y : Type 0} → Box X Global → Y → Box Y Global
holding b y = record { ptr = b.ptr; alloc = b.alloc; value = y }

abbrev box_row : RattleType → RattleType
box_row R = box.the_row R heap.the_row ghosts

module _ (R S : RattleType) (along : R.Denot → S.Denot) where
  boxes_alike : Alike R S along → Alike (box_row R) (box_row S) (λ b. holding b (along b.value))
  unfolding part_of
  boxes_alike a = record {
    mir_same = λ i. (box_row (one_value R (a.mir_same i) (λ _. ftrue) (λ _ _. nothing) gnil)).mir;
    own_same = λ b i. (box_row (one_value R (a.mir_same i) (a.own_same b.value i) (a.shr_same b.value i) gnil)).own_val (holding b tt);
    shr_same = λ b i. (box_row (one_value R (a.mir_same i) (a.own_same b.value i) (a.shr_same b.value i) gnil)).shr_at (holding b tt);
  }

  pub the_places : Alike R S along → Alike (boxed.the_row R) (boxed.the_row S) ((the_former this).map R.Denot S.Denot along)
  the_places a = view_places shape_and_value this view (λ X Y k u. refl) (λ X u. refl) R.Denot S.Denot along
      (boxed.the_row R).coded (boxed.the_row S).coded (invariant R.Denot) (invariant S.Denot)
      (λ u p q. refl) (λ u p q. refl) (λ u e. tt) (λ u e. tt) (over (inside.the_row R)) (over (inside.the_row S))
      (struct_places (inside.the_type R) (inside.the_type S) ((λ b. holding b (along b.value)), tt) _ (λ d. refl) refl (laid _ _ _ (boxes_alike a), tt))

  pub the_codes_placed : Recodes R S along → Recodes (boxed.the_row R) (boxed.the_row S) ((the_former this).map R.Denot S.Denot along)
  the_codes_placed same d = same d
