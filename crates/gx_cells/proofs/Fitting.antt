-- Histories of cells that are closed fit together.
use Rattle.std.proofs.Common.{◌≡◌, ◌≤◌, ◌<◌, ℕ, zero, suc, ◌+◌, List, [], ◌∷◌, Option, Some, None, Bool, true, false, if◌then◌else◌, refl, sym, subst, ap, ◌∙◌, arith, length, get_or}
use Rattle.std.specs.Prelude.{map, slice_get}
use Rattle.std.proofs.lemmas.List.{length-map}
use Rattle.gx_lemmas.proofs.Lists.{place-below}
use Rattle.gx_lemmas.proofs.Numbers.{same-of}
use Rattle.gx_lemmas.proofs.Options.{some-same}
use Rattle.gx_ids.specs.declared.ids.Node.{Node}
use Rattle.gx_msg.specs.ItemBytes.{bytes_of_item}
use Rattle.gx_msg.specs.declared.message.Envelope.{Envelope}
use Rattle.gx_outside.specs.Shelves.{Shelf}
use Rattle.gx_script.specs.declared.Script.{Script}
use Rattle.gx_store.specs.Journals.{is_same_node}
use Rattle.gx_store.specs.Ordered.{IsSegment}
use Rattle.gx_store.specs.Refusals.{the_coordinator}
use Rattle.gx_store.specs.declared.run.Step.{Step}
use Rattle.gx_rules.specs.Coordinators.{new_coordinator}
use Rattle.gx_rules.specs.Segments.{new_segment}
use Rattle.gx_law_merge.proofs.Longer.{same-by}
use Rattle.gx_law_merge.proofs.Places.{place-kept}
use Rattle.gx_law_merge.specs.Apart.{DoesFollow, HasMore, IsSameBy, at_place, coordinators_rule, holds_after, segments_rule, sent_to, takes_in}
use Rattle.gx_law_merge.specs.Merge.{DoFit, coordinator_in, history_of, posted_in, segment_in}
use Rattle.gx_cells.specs.Closed.{AreBegun, AreClosed, DoHoldItems, IsBegun, IsCoordKept, IsSegmentKept, histories_of, inbox_of, items_at, out_of}
use Rattle.gx_cells.specs.CoordKept.{from_segment, heard_in, post_at_coordinator}
use Rattle.gx_cells.specs.CoordViews.{CoordView, coord_data}
use Rattle.gx_cells.specs.Kept.{post_at_segment}
use Rattle.gx_cells.specs.Views.{SegmentView, data_of}
use Rattle.gx_cells.specs.declared.inbox.Inbox.{Inbox}
use Rattle.gx_cells.proofs.Inboxes.{add-one}

-- LISTS
get-mapped : {A B : Type 0} (f : A → B) (xs : List A) (k : ℕ) (x : A) → slice_get xs k ≡ Some x → slice_get (map f xs) k ≡ Some (f x)
get-mapped f [] k x at = absurd (cc)
get-mapped f (y ∷ ys) zero x at = ap (λ z. Some (f z)) (some-same y x at)
get-mapped f (y ∷ ys) (suc k) x at = get-mapped f ys k x at

or-mapped : {A B : Type 0} (f : A → B) (xs : List A) (k : ℕ) (x : A) (other : B) → slice_get xs k ≡ Some x → get_or (map f xs) k other ≡ f x
or-mapped f [] k x other at = absurd (cc)
or-mapped f (y ∷ ys) zero x other at = ap f (some-same y x at)
or-mapped f (y ∷ ys) (suc k) x other at = or-mapped f ys k x other at

stands : {A : Type 0} (xs : List A) (k : ℕ) → k < length xs → (x : A) × (slice_get xs k ≡ Some x)
stands [] k inside = absurd (omega (arith, inside))
stands (x ∷ xs) zero inside = (x, refl)
stands (x ∷ xs) (suc k) inside = stands xs k (below k (length xs) inside)
  where
    below : (k n : ℕ) → suc k < suc n → k < n
    below k n h = omega (arith, h)

nothing-there : (place : ℕ) (e : Envelope) → at_place [] place ≡ Some e → ⊥
nothing-there zero e at = absurd (cc)
nothing-there (suc k) e at = absurd (cc)

node-of : (n m : Node) → n.0 ≡ m.0 → n ≡ m
node-of n m e = ap (λ k. record { 0 = k }) e

-- THE CLOSED SET
module _ (coord : CoordView) (segments : List SegmentView) (closed : AreClosed coord segments) (kept : IsCoordKept coord) (all : (k : ℕ) (s : SegmentView) → slice_get segments k ≡ Some s → IsSegmentKept s) where
  abbrev histories : List (List Step)
  histories = histories_of coord segments

  segment-at : (k : ℕ) → k < coord.script.segments → (s : SegmentView) × (slice_get segments k ≡ Some s)
  segment-at k inside = stands segments k (subst (λ n. k < n) (sym closed.count) inside)

  history-at : (k : ℕ) (s : SegmentView) → slice_get segments k ≡ Some s → get_or histories (suc k) [] ≡ s.steps
  history-at k s at = or-mapped (λ (v : SegmentView). v.steps) segments k s [] at

  -- WHAT HAS COME TO THE COORDINATOR
  module _ (back : AreBegun (map out_of segments) coord.inboxes) where
    come-here : (k : ℕ) (place : ℕ) (e : Envelope) (o : Option Inbox) → slice_get coord.inboxes k ≡ o → at_place (heard_in o) place ≡ Some e → at_place (sent_to the_coordinator (get_or histories (suc k) [])) place ≡ Some e
    come-here k place e None is at = absurd (nothing-there place e at)
    come-here k place e (Some inbox) is at =
        let s = segment-at k (subst (λ n. k < n) kept.ins (place-below coord.inboxes k inbox is)) in
        let begun : IsBegun s.0.out inbox = back k s.0.out inbox (get-mapped out_of segments k s.0 s.1) is in
        subst (λ es. at_place es place ≡ Some e) (sym begun.1 ∙ (all k s.0 s.1).sent ∙ sym (ap (sent_to the_coordinator) (history-at k s.0 s.1))) (place-kept inbox.source.received begun.0 place e at)

    posted-here : HasMore (post_at_coordinator coord.inboxes) (posted_in histories)
    posted-here from to place e at = by (is_same_node to the_coordinator) from.0 refl refl at
      where
        by : (b : Bool) (n : ℕ) → is_same_node to the_coordinator ≡ b → from.0 ≡ n → (if b then at_place (from_segment coord.inboxes n) place else None) ≡ Some e → at_place (sent_to to (get_or histories from.0 [])) place ≡ Some e
        by false n same is h = absurd (cc)
        by true zero same is h = absurd (nothing-there place e h)
        by true (suc k) same is h =
            subst (λ (t : Node). at_place (sent_to t (get_or histories from.0 [])) place ≡ Some e) (sym (node-of to the_coordinator (same-of to.0 0 same)))
            (subst (λ n. at_place (sent_to the_coordinator (get_or histories n [])) place ≡ Some e) (sym is) (come-here k place e (slice_get coord.inboxes k) refl h))

    same-here : IsSameBy (coordinators_rule coord.script) the_coordinator (post_at_coordinator coord.inboxes) (posted_in histories) new_coordinator coord.steps
    same-here = same-by (post_at_coordinator coord.inboxes) (posted_in histories) posted-here (coordinators_rule coord.script) the_coordinator new_coordinator coord.steps kept.steps.follows

    pub holds-here : coordinator_in coord.script histories ≡ coord_data coord
    holds-here = same-here.holds

    pub items-here : coord.shelf.items ≡ map bytes_of_item (items_at coord.script histories 0)
    items-here = kept.steps.items ∙ ap (map bytes_of_item) (sym same-here.takes)

  -- WHAT HAS COME TO A SEGMENT
  module _ (forth : AreBegun coord.outs (map inbox_of segments)) (k : ℕ) (s : SegmentView) (at : slice_get segments k ≡ Some s) where
    the-node : s.node ≡ record { 0 = k + 1 }
    the-node = node-of s.node (record { 0 = k + 1 }) (closed.each k s at).1

    come-there : (place : ℕ) (e : Envelope) → at_place s.source.received place ≡ Some e → at_place (sent_to s.node coord.steps) place ≡ Some e
    come-there place e h =
        let out = stands coord.outs k (subst (λ n. k < n) (closed.count ∙ sym kept.outs) (place-below segments k s at)) in
        let begun : IsBegun out.0 (inbox_of s) = forth k out.0 (inbox_of s) out.1 (get-mapped inbox_of segments k s at) in
        subst (λ es. at_place es place ≡ Some e) (sym begun.1 ∙ kept.sent k out.0 out.1 ∙ ap (λ n. sent_to n coord.steps) (sym the-node)) (place-kept s.source.received begun.0 place e h)

    posted-there : HasMore (post_at_segment s.node s.source.received) (posted_in histories)
    posted-there from to place e h = by (is_same_node to s.node) (is_same_node from the_coordinator) refl refl h
      where
        by : (a b : Bool) → is_same_node to s.node ≡ a → is_same_node from the_coordinator ≡ b → (if a then at_place (if b then s.source.received else []) place else None) ≡ Some e
            → at_place (sent_to to (get_or histories from.0 [])) place ≡ Some e
        by false b there here g = absurd (cc)
        by true false there here g = absurd (nothing-there place e g)
        by true true there here g =
            subst (λ (t : Node). at_place (sent_to t (get_or histories from.0 [])) place ≡ Some e) (sym (node-of to s.node (same-of to.0 s.node.0 there)))
            (subst (λ n. at_place (sent_to s.node (get_or histories n [])) place ≡ Some e) (sym (same-of from.0 0 here)) (come-there place e g))

    same-there : IsSameBy (segments_rule s.script) s.node (post_at_segment s.node s.source.received) (posted_in histories) (new_segment s.node) s.steps
    same-there = same-by (post_at_segment s.node s.source.received) (posted_in histories) posted-there (segments_rule s.script) s.node (new_segment s.node) s.steps (all k s at).steps.follows

    follows-there : DoesFollow (segments_rule coord.script) s.node (posted_in histories) (new_segment s.node) (get_or histories (suc k) [])
    follows-there =
        subst (λ ss. DoesFollow (segments_rule coord.script) s.node (posted_in histories) (new_segment s.node) ss) (sym (history-at k s at))
        (subst (λ (x : Script). DoesFollow (segments_rule x) s.node (posted_in histories) (new_segment s.node) s.steps) (closed.each k s at).0 same-there.follows)

    pub holds-there : segment_in coord.script histories (record { 0 = k + 1 }) ≡ data_of s
    holds-there =
        same-so coord.script s.script (record { 0 = k + 1 }) s.node (get_or histories (k + 1) []) s.steps (sym (closed.each k s at).0) (sym the-node) (ap (λ i. get_or histories i []) (add-one k) ∙ history-at k s at) ∙ same-there.holds
      where
        same-so : (x y : Script) (n m : Node) (ss ts : List Step) → x ≡ y → n ≡ m → ss ≡ ts → holds_after (segments_rule x) (posted_in histories) (new_segment n) ss ≡ holds_after (segments_rule y) (posted_in histories) (new_segment m) ts
        same-so x y n m ss ts a b c = cc

    items-there : s.shelf.items ≡ map bytes_of_item (items_at coord.script histories (suc k))
    items-there =
        (all k s at).steps.items ∙ ap (map bytes_of_item)
        (sym same-there.takes ∙ takes-so s.script coord.script s.node (record { 0 = suc k }) s.steps (get_or histories (suc k) []) (closed.each k s at).0 (the-node ∙ ap (λ n. record { 0 = n }) (add-one k)) (sym (history-at k s at)))
      where
        takes-so : (x y : Script) (n m : Node) (ss ts : List Step) → x ≡ y → n ≡ m → ss ≡ ts → takes_in (segments_rule x) (posted_in histories) (new_segment n) ss ≡ takes_in (segments_rule y) (posted_in histories) (new_segment m) ts
        takes-so x y n m ss ts a b c = cc

  module _ (forth : AreBegun coord.outs (map inbox_of segments)) (back : AreBegun (map out_of segments) coord.inboxes) where
    follow : (node : Node) (n : ℕ) → node.0 ≡ n → IsSegment coord.script node → DoesFollow (segments_rule coord.script) node (posted_in histories) (new_segment node) (history_of histories node)
    follow node zero is place = absurd (none (node.0) is place.0)
      where
        none : (a : ℕ) → a ≡ 0 → 1 ≤ a → ⊥
        none a e l = omega (arith, e, l)
    follow node (suc k) is place =
        let s = segment-at k (below node.0 k coord.script.segments is place.1) in
        let same : s.0.node ≡ node = node-of s.0.node node ((closed.each k s.0 s.1).1 ∙ add-one k ∙ sym is) in
        subst (λ ss. DoesFollow (segments_rule coord.script) node (posted_in histories) (new_segment node) ss) (ap (λ i. get_or histories i []) (sym is))
        (subst (λ (t : Node). DoesFollow (segments_rule coord.script) t (posted_in histories) (new_segment t) (get_or histories (suc k) [])) same (follows-there forth k s.0 s.1))
      where
        below : (a k n : ℕ) → a ≡ suc k → a ≤ n → k < n
        below a k n e l = omega (arith, e, l)

    pub fits : DoFit coord.script histories
    fits =
        record {
          count = ap suc (length-map segments (λ (s : SegmentView). s.steps)) ∙ ap suc closed.count ∙ sym (add-one coord.script.segments);
          coordinator = (same-here back).follows;
          segments = λ node place. follow node node.0 refl place;
        }

    pub hold-items : (shelves : List Shelf) → shelves ≡ coord.shelf ∷ map (λ s. s.shelf) segments → DoHoldItems coord.script histories shelves
    hold-items shelves are k shelf at = by k (subst (λ xs. slice_get xs k ≡ Some shelf) are at)
      where
        by : (k : ℕ) → slice_get (coord.shelf ∷ map (λ s. s.shelf) segments) k ≡ Some shelf → shelf.items ≡ map bytes_of_item (items_at coord.script histories k)
        by zero e = ap (λ (x : Shelf). x.items) (sym (some-same coord.shelf shelf e)) ∙ items-here back
        by (suc j) e =
            let s = stands segments j (subst (λ n. j < n) (length-map segments (λ (v : SegmentView). v.shelf)) (place-below (map (λ (v : SegmentView). v.shelf) segments) j shelf e)) in
            ap (λ (x : Shelf). x.items) (sym (some-same s.0.shelf shelf (sym (get-mapped (λ (v : SegmentView). v.shelf) segments j s.0 s.1) ∙ e))) ∙ items-there forth j s.0 s.1
