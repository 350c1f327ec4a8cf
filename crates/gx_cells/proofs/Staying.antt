-- The cells of all nodes stay those of one script, joined by their links.
use Rattle.std.proofs.Common.{◌≡◌, ℕ, zero, suc, ◌+◌, List, [], ◌∷◌, Option, Some, None, refl, sym, subst, ap, ◌∙◌, length}
use Rattle.std.specs.Prelude.{map, slice_get, slice_set}
use Rattle.gx_lemmas.proofs.Lists.{length-set}
use Rattle.gx_lemmas.proofs.Options.{some-same}
use Rattle.gx_cells.specs.Closed.{AreClosed, firsts_of, inbox_of, out_of}
use Rattle.gx_cells.specs.CoordActs.{links_of}
use Rattle.gx_cells.specs.CoordReceipts.{links_in}
use Rattle.gx_cells.specs.CoordViews.{CoordView, IsSameCoord, IsSameNode}
use Rattle.gx_cells.specs.Done.{CellsView, HasDoneAt, HasDoneBy, IsSpentAt, IsSpentBy}
use Rattle.gx_cells.specs.Views.{IsSameCell, SegmentView}
use Rattle.gx_cells.specs.declared.action.Action.{Action}
use Rattle.gx_cells.specs.declared.looked.Looked.{Looked}
use Rattle.gx_cells.proofs.Inboxes.{add-one}

pub same-node : (old new : CoordView) → IsSameCoord old new → IsSameNode old new
same-node old new s = record { script = s.script; first = s.first; outs = s.outs; ins = ap links_in s.inboxes }

pub closed-here : (old new : CoordView) (segments : List SegmentView) → AreClosed old segments → IsSameNode old new → AreClosed new segments
closed-here old new segments c s =
    record {
      count = c.count ∙ ap (λ x. x.segments) (sym s.script);
      each = λ k v at. ((c.each k v at).0 ∙ sym s.script, (c.each k v at).1);
      forth = s.outs ∙ c.forth;
      back = c.back ∙ sym s.ins;
    }

-- what is so of each stays so where one is put that is like the one before
each-put : (P : ℕ → SegmentView → Type 0) (xs : List SegmentView) (p : ℕ) (was is : SegmentView) → slice_get xs p ≡ Some was → (P p was → P p is) → ((k : ℕ) (x : SegmentView) → slice_get xs k ≡ Some x → P k x)
    → (k : ℕ) (x : SegmentView) → slice_get (slice_set xs p is) k ≡ Some x → P k x
each-put P [] p was is there like all k x at = absurd (cc)
each-put P (y ∷ xs) zero was is there like all zero x at = subst (P 0) (some-same is x at) (like (all 0 was there))
each-put P (y ∷ xs) zero was is there like all (suc k) x at = all (suc k) x at
each-put P (y ∷ xs) (suc p) was is there like all zero x at = all zero x at
each-put P (y ∷ xs) (suc p) was is there like all (suc k) x at = each-put (λ j. P (suc j)) xs p was is there like (λ j z e. all (suc j) z e) k x at

ins-put : (xs : List SegmentView) (p : ℕ) (was is : SegmentView) → slice_get xs p ≡ Some was → is.source.link ≡ was.source.link → links_in (map inbox_of (slice_set xs p is)) ≡ links_in (map inbox_of xs)
ins-put [] p was is at same = refl
ins-put (y ∷ xs) zero was is at same = ap (λ l. l ∷ links_in (map inbox_of xs)) (same ∙ ap (λ (v : SegmentView). v.source.link) (sym (some-same y was at)))
ins-put (y ∷ xs) (suc p) was is at same = ap (λ ls. y.source.link ∷ ls) (ins-put xs p was is at same)

outs-put : (xs : List SegmentView) (p : ℕ) (was is : SegmentView) → slice_get xs p ≡ Some was → is.out.link ≡ was.out.link → links_of (map out_of (slice_set xs p is)) ≡ links_of (map out_of xs)
outs-put [] p was is at same = refl
outs-put (y ∷ xs) zero was is at same = ap (λ l. l ∷ links_of (map out_of xs)) (same ∙ ap (λ (v : SegmentView). v.out.link) (sym (some-same y was at)))
outs-put (y ∷ xs) (suc p) was is at same = ap (λ ls. y.out.link ∷ ls) (outs-put xs p was is at same)

pub closed-there : (coord : CoordView) (segments : List SegmentView) (k : ℕ) (was is : SegmentView) → AreClosed coord segments → slice_get segments k ≡ Some was → IsSameCell was is → AreClosed coord (slice_set segments k is)
closed-there coord segments k was is c at s =
    record {
      count = length-set segments k is ∙ c.count;
      each = each-put (λ j v. (v.script ≡ coord.script) × (v.node.0 ≡ j + 1)) segments k was is at (λ h. (s.script ∙ h.0, ap (λ n. n.0) s.node ∙ h.1)) c.each;
      forth = c.forth ∙ sym (ins-put segments k was is at s.source);
      back = outs-put segments k was is at s.out ∙ c.back;
    }

-- the segment of a node's number does it
pub done-by : (action : Action) (n place : ℕ) (old new : CellsView) (looked : Looked) (was : SegmentView) → n ≡ place + 1 → slice_get old.segments place ≡ Some was → HasDoneBy action place old new looked (Some was) → HasDoneAt action n old new looked
done-by action n place old new looked was number at h = subst (λ k. HasDoneAt action k old new looked) (sym (number ∙ add-one place)) (subst (HasDoneBy action place old new looked) (sym at) h)

-- or is spent by it
pub spent-by : (n place : ℕ) (old new : CellsView) (was : SegmentView) → n ≡ place + 1 → slice_get old.segments place ≡ Some was → IsSpentBy place old new (Some was) → IsSpentAt n old new
spent-by n place old new was number at h = subst (λ k. IsSpentAt k old new) (sym (number ∙ add-one place)) (subst (IsSpentBy place old new) (sym at) h)

-- how often journals had failed at first stays
pub same-firsts : (coord : CoordView) (xs : List SegmentView) (p : ℕ) (was is : SegmentView) → slice_get xs p ≡ Some was → is.first ≡ was.first → firsts_of coord (slice_set xs p is) ≡ firsts_of coord xs
same-firsts coord xs p was is at same = ap (λ ns. coord.first ∷ ns) (put xs p at)
  where
    put : (ys : List SegmentView) (k : ℕ) → slice_get ys k ≡ Some was → map (λ s. s.first) (slice_set ys k is) ≡ map (λ s. s.first) ys
    put [] k there = refl
    put (y ∷ ys) zero there = ap (λ n. n ∷ map (λ (s : SegmentView). s.first) ys) (same ∙ ap (λ (s : SegmentView). s.first) (sym (some-same y was there)))
    put (y ∷ ys) (suc k) there = ap (λ ns. y.first ∷ ns) (put ys k there)
