-- What all cells leave when their links are closed.
use Rattle.std.proofs.Common.{◌≡◌, ◌≤◌, ◌+◌, ◌∙◌, List, ◌∷◌, ℕ, Some, ap, sym, subst}
use Rattle.std.specs.Prelude.{map, slice_get}
use Rattle.gx_ids.specs.declared.ids.Node.{Node}
use Rattle.gx_links.specs.Ends.{OutEnd}
use Rattle.gx_outside.specs.Shelves.{Shelf}
use Rattle.gx_store.specs.Points.{marks_in}
use Rattle.gx_store.specs.Refusals.{the_coordinator}
use Rattle.gx_law_runs.specs.Failures.{failures_in}
use Rattle.gx_law_merge.specs.Merge.{DoFit}
use Rattle.gx_merge.specs.declared.merging.NodeHistory.{NodeHistory}
use Rattle.gx_cells.specs.Closed.{AreBegun, AreClosed, AreFailuresCounted, AreHeldThere, AreUnspent, DoHoldItems, IsCoordKept, IsSegmentKept, histories_of, inbox_of, out_of}
use Rattle.gx_cells.specs.CoordActs.{links_of}
use Rattle.gx_cells.specs.CoordReceipts.{links_in}
use Rattle.gx_cells.specs.CoordViews.{CoordView}
use Rattle.gx_cells.specs.Views.{SegmentView}
use Rattle.gx_cells.specs.declared.inbox.Inbox.{Inbox}
use Rattle.gx_cells.proofs.Fitting.{fits, hold-items, holds-here, holds-there}
use Rattle.gx_cells.proofs.LinkPairs.{AreTaken}

module _ (coord : CoordView) (segments given : List SegmentView) (histories : List NodeHistory) (shelves : List Shelf) (outs : List OutEnd) (inboxes : List Inbox) (closed : AreClosed coord segments) (taken : AreTaken coord given histories shelves outs inboxes) (whole : segments ≡ given) where
  pub ended-forth : (sent : List OutEnd) → sent ≡ coord.outs → links_of sent ≡ links_in inboxes
  ended-forth sent is = ap links_of is ∙ closed.forth ∙ ap (λ vs. links_in (map inbox_of vs)) whole ∙ ap links_in (sym taken.hears)

  pub ended-back : (heard : List Inbox) → heard ≡ coord.inboxes → links_of outs ≡ links_in heard
  ended-back heard is = ap links_of taken.sends ∙ ap (λ vs. links_of (map out_of vs)) (sym whole) ∙ closed.back ∙ ap links_in (sym is)

  pub ended-histories : map (λ h. h.steps) histories ≡ histories_of coord segments
  ended-histories = taken.steps ∙ ap (histories_of coord) (sym whole)

  pub ended-nodes : map (λ h. h.node) histories ≡ the_coordinator ∷ map (λ s. s.node) segments
  ended-nodes = taken.nodes ∙ ap (λ vs. the_coordinator ∷ map (λ (s : SegmentView). s.node) vs) (sym whole)

  pub ended-shelves : shelves ≡ coord.shelf ∷ map (λ s. s.shelf) segments
  ended-shelves = taken.shelved ∙ ap (λ vs. coord.shelf ∷ map (λ (s : SegmentView). s.shelf) vs) (sym whole)

  all-kept : (k : ℕ) (s : SegmentView) → slice_get segments k ≡ Some s → IsSegmentKept s
  all-kept k s at = taken.kept k s (ap (λ vs. slice_get vs k) (sym whole) ∙ at)

  module _ (kept : IsCoordKept coord) (sent : List OutEnd) (sent-is : sent ≡ coord.outs) (forth : AreBegun sent inboxes) (heard : List Inbox) (heard-is : heard ≡ coord.inboxes) (back : AreBegun outs heard) where
    forth-there : AreBegun coord.outs (map inbox_of segments)
    forth-there = subst (λ os. AreBegun os (map inbox_of segments)) sent-is (subst (AreBegun sent) (taken.hears ∙ ap (map inbox_of) (sym whole)) forth)

    back-there : AreBegun (map out_of segments) coord.inboxes
    back-there = subst (AreBegun (map out_of segments)) heard-is (subst (λ os. AreBegun os heard) (taken.sends ∙ ap (map out_of) (sym whole)) back)

    pub ended-fit : DoFit coord.script (map (λ h. h.steps) histories)
    ended-fit = subst (DoFit coord.script) (sym ended-histories) (fits coord segments closed kept all-kept forth-there back-there)

    pub ended-items : DoHoldItems coord.script (histories_of coord segments) shelves
    ended-items = hold-items coord segments closed kept all-kept forth-there back-there shelves ended-shelves

    pub ended-holds : AreHeldThere coord segments
    ended-holds =
        record {
          coordinator = holds-here coord segments closed kept all-kept back-there;
          count = closed.count;
          each = holds-there coord segments closed kept all-kept forth-there;
        }

  pub ended-unspent : IsCoordKept coord → AreUnspent coord segments
  ended-unspent kept = (kept.unspent, λ k s at. (all-kept k s at).unspent)

  pub ended-counted : IsCoordKept coord → AreFailuresCounted coord segments
  ended-counted kept = (
    kept.steps.failures,
    λ k s at. subst (λ (n : Node). s.first + failures_in n (marks_in s.steps) ≤ s.shelf.faults) (ap (λ i. record { 0 = i }) (closed.each k s at).1) (all-kept k s at).steps.failures,
  )
