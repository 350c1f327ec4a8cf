-- What stays of a cell whatever it does; and that cells which belong to a closed set are closed.
use Rattle.std.proofs.Common.{◌≡◌, ℕ, zero, suc, ◌+◌, ◌-◌, List, [], ◌∷◌, ◌++◌, Option, Some, length, get_or, All, refl, sym, subst, ap, ◌∙◌, arith}
use Rattle.std.specs.Prelude.{map, slice_get}
use Rattle.std.proofs.lemmas.List.Elements.{All-append}
use Rattle.std.proofs.lemmas.List.{length-map}
use Rattle.std.proofs.lemmas.Option.{slice_get-get_or, get_or_from_slice_get}
use Rattle.gx_lemmas.proofs.Lists.{place-below}
use Rattle.gx_lemmas.proofs.Options.{some-same}
use Rattle.gx_cells.specs.Closed.{AreClosed, inbox_of, out_of}
use Rattle.gx_cells.specs.CoordActs.{links_of}
use Rattle.gx_cells.specs.CoordReceipts.{links_in}
use Rattle.gx_cells.specs.CoordViews.{CoordView, IsSameNode}
use Rattle.gx_cells.specs.Views.{IsSameCell, SegmentView}
use Rattle.gx_threads.specs.Sets.{AreInOrder, CoordId, IsItsCoordinator, IsItsSegment, IsSameSet, SegmentId, coord_id, segment_id}

-- WHAT STAYS
pub coord-stays : (old new : CoordView) → IsSameNode old new → coord_id new ≡ coord_id old
coord-stays old new same = λ i. record { script = same.script i; first = same.first i; outs = same.outs i; ins = same.ins i }

pub segment-stays : (old new : SegmentView) → IsSameCell old new → segment_id new ≡ segment_id old
segment-stays old new same = λ i. record { script = same.script i; node = same.node i; first = same.first i; out = same.out i; source = same.source i }

pub coordinator-stays : (coordinator : Option CoordId) (old new : CoordView) → IsItsCoordinator coordinator old → IsSameNode old new → IsItsCoordinator coordinator new
coordinator-stays coordinator old new of same = of ∙ ap Some (sym (coord-stays old new same))

pub its-segment-stays : (segments : List SegmentId) (old new : SegmentView) → IsItsSegment segments old → IsSameCell old new → IsItsSegment segments new
its-segment-stays segments old new of same = ap (λ n. slice_get segments (n.0 - 1)) same.node ∙ of ∙ ap Some (sym (segment-stays old new same))

-- LISTS
pub get-mapped : {A B : Type 0} (f : A → B) (xs : List A) (k : ℕ) (x : A) → slice_get xs k ≡ Some x → slice_get (map f xs) k ≡ Some (f x)
get-mapped f [] k x at = absurd (cc)
get-mapped f (y ∷ ys) zero x at = ap (λ z. Some (f z)) (some-same y x at)
get-mapped f (y ∷ ys) (suc k) x at = get-mapped f ys k x at

pub mapped-from : {A B : Type 0} (f : A → B) (xs : List A) (k : ℕ) (y : B) → slice_get (map f xs) k ≡ Some y → (x : A) × (slice_get xs k ≡ Some x) × (f x ≡ y)
mapped-from f [] k y at = absurd (cc)
mapped-from f (x ∷ xs) zero y at = (x, refl, some-same (f x) y at)
mapped-from f (x ∷ xs) (suc k) y at = mapped-from f xs k y at

pub map-twice : {A B C : Type 0} (f : B → C) (g : A → B) (xs : List A) → map f (map g xs) ≡ map (λ x. f (g x)) xs
map-twice f g [] = refl
map-twice f g (x ∷ xs) = ap (λ l. f (g x) ∷ l) (map-twice f g xs)

-- the items from one place on are those of a list, place by place
same-mapped : (ids : List SegmentId) (ss : List SegmentView) → length ss ≡ length ids → ((k : ℕ) (s : SegmentView) → slice_get ss k ≡ Some s → slice_get ids k ≡ Some (segment_id s))
    → map segment_id ss ≡ ids
same-mapped [] [] count each = refl
same-mapped [] (s ∷ ss) count each = absurd (omega (arith, count))
same-mapped (i ∷ ids) [] count each = absurd (omega (arith, count))
same-mapped (i ∷ ids) (s ∷ ss) count each = λ j. sym (some-same i (segment_id s) (each 0 s refl)) j ∷ same-mapped ids ss (fewer (length ss) (length ids) count) (λ k t at. each (suc k) t at) j
  where
    fewer : (n m : ℕ) → suc n ≡ suc m → n ≡ m
    fewer n m e = omega (arith, e)

-- OPENING
pub opens : (coord : CoordView) (segments : List SegmentView) → AreClosed coord segments → All (IsItsSegment (map segment_id segments)) segments
opens coord segments closed k other inside =
    let s = get_or segments k other in
    let at : slice_get segments k ≡ Some s = slice_get-get_or segments k other inside in
    let node : s.node.0 ≡ k + 1 = (closed.each k s at).1 in
    subst (λ n. slice_get (map segment_id segments) n ≡ Some (segment_id s)) (before k s.node.0 node) (get-mapped segment_id segments k s at)
  where
    before : (k n : ℕ) → n ≡ k + 1 → k ≡ n - 1
    before k n e = omega (arith, e)

-- CLOSING AGAIN
same-ids : (ids : List SegmentId) (ss : List SegmentView) → length ss ≡ length ids → AreInOrder ss → All (IsItsSegment ids) ss → map segment_id ss ≡ ids
same-ids ids ss count order all = same-mapped ids ss count (λ k s at. each k s at)
  where
    after : (k n : ℕ) → n ≡ k + 1 → n - 1 ≡ k
    after k n e = omega (arith, e)

    each : (k : ℕ) (s : SegmentView) → slice_get ss k ≡ Some s → slice_get ids k ≡ Some (segment_id s)
    each k s at =
        let held : IsItsSegment ids (get_or ss k s) = all k s (place-below ss k s at) in
        let own : IsItsSegment ids s = subst (IsItsSegment ids) (get_or_from_slice_get ss k s s at) held in
        subst (λ n. slice_get ids n ≡ Some (segment_id s)) (after k s.node.0 (order k s at)) own

sources : (ss : List SegmentView) → links_in (map inbox_of ss) ≡ map (λ i. i.source) (map segment_id ss)
sources ss = map-twice (λ inbox. inbox.source.link) inbox_of ss ∙ sym (map-twice (λ (i : SegmentId). i.source) segment_id ss)

outs : (ss : List SegmentView) → links_of (map out_of ss) ≡ map (λ i. i.out) (map segment_id ss)
outs ss = map-twice (λ out. out.link) out_of ss ∙ sym (map-twice (λ (i : SegmentId). i.out) segment_id ss)

pub closed-of-ids : (c d : CoordView) (ss ts : List SegmentView) → coord_id c ≡ coord_id d → map segment_id ss ≡ map segment_id ts → length ss ≡ length ts → AreClosed d ts → AreClosed c ss
closed-of-ids c d ss ts coords ids count closed =
    record {
      count = count ∙ closed.count ∙ ap (λ (i : CoordId). i.script.segments) (sym coords);
      each = each;
      forth = ap (λ (i : CoordId). i.outs) coords ∙ closed.forth ∙ sources ts ∙ ap (map (λ (i : SegmentId). i.source)) (sym ids) ∙ sym (sources ss);
      back = outs ss ∙ ap (map (λ (i : SegmentId). i.out)) ids ∙ sym (outs ts) ∙ closed.back ∙ ap (λ (i : CoordId). i.ins) (sym coords);
    }
  where
    each : (k : ℕ) (s : SegmentView) → slice_get ss k ≡ Some s → (s.script ≡ c.script) × (s.node.0 ≡ k + 1)
    each k s at =
        let t = mapped-from segment_id ts k (segment_id s) (subst (λ l. slice_get l k ≡ Some (segment_id s)) ids (get-mapped segment_id ss k s at)) in
        let was = closed.each k t.0 t.1 in (
          ap (λ (i : SegmentId). i.script) (sym t.2) ∙ was.0 ∙ ap (λ (i : CoordId). i.script) (sym coords),
          ap (λ (i : SegmentId). i.node.0) (sym t.2) ∙ was.1,
        )

pub closes-again : (c d : CoordView) (ss ts : List SegmentView) → AreClosed d ts → IsItsCoordinator (Some (coord_id d)) c → All (IsItsSegment (map segment_id ts)) ss → length ss ≡ length ts → AreInOrder ss
    → AreClosed c ss × IsSameSet d ts c ss
closes-again c d ss ts closed coords all count order =
    let coord : coord_id c ≡ coord_id d = sym (some-same (coord_id d) (coord_id c) coords) in
    let ids : map segment_id ss ≡ map segment_id ts = same-ids (map segment_id ts) ss (count ∙ sym (length-map ts segment_id)) order all in
    (closed-of-ids c d ss ts coord ids count closed, record { coordinator = coord; segments = ids })

-- LISTS THAT ARE TAKEN ONE BY ONE
pub all-head : {A : Type 0} (P : A → Type 0) (xs rest : List A) (x : A) → xs ≡ x ∷ rest → All P xs → P x
all-head P xs rest x e h = (subst (All P) e h) 0 x (omega arith)

pub all-rest : {A : Type 0} (P : A → Type 0) (xs rest : List A) (x : A) → xs ≡ x ∷ rest → All P xs → All P rest
all-rest P xs rest x e h = λ k d w. (subst (All P) e h) (suc k) d (omega (arith, w))

pub all-end : {A : Type 0} (P : A → Type 0) (xs ys : List A) (x : A) → ys ≡ xs ++ x ∷ [] → All P xs → P x → All P ys
all-end P xs ys x e h p = subst (All P) (sym e) (All-append P xs (x ∷ []) h (one P x p))
  where
    one : {A : Type 0} (P : A → Type 0) (x : A) → P x → All P (x ∷ [])
    one P x p zero d w = p
    one P x p (suc k) d w = absurd (omega (arith, w))

pub same-then : (a b c : CoordView) (xs ys zs : List SegmentView) → IsSameSet a xs b ys → IsSameSet b ys c zs → IsSameSet a xs c zs
same-then a b c xs ys zs first second = record { coordinator = second.coordinator ∙ first.coordinator; segments = second.segments ∙ first.segments }
