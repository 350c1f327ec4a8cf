-- A blocked set of waits stays blocked until one of its transactions aborts.
use Rattle.std.specs.Prelude.{◌≡◌, false, List, ◌++◌, All}
use Rattle.gx_waits.specs.declared.placed_edge.PlacedEdge.{PlacedEdge}
use Rattle.gx_store.specs.declared.mark.Mark.{Mark}
use Rattle.gx_store.specs.Marks.{is_aborted, is_committed}
use Rattle.gx_store.specs.Rounds.{IsBlocked}

-- no transaction that the edges name has an Abort mark, or a Commit mark, among these
abbrev pub NoneAborts : List Mark → List PlacedEdge → Type 0
NoneAborts marks edges = All (λ placed. (is_aborted marks placed.edge.waiter ≡ false) × (is_aborted marks placed.edge.holder ≡ false)) edges

abbrev pub NoneCommits : List Mark → List PlacedEdge → Type 0
NoneCommits marks edges = All (λ placed. (is_committed marks placed.edge.waiter ≡ false) × (is_committed marks placed.edge.holder ≡ false)) edges

-- Edges that are blocked at a point of these marks are so at each later one, and nobody of them has committed by then, if nobody of
-- them aborts between the two.
abbrev pub DoStayBlocked : List Mark → Type 0
DoStayBlocked marks =
    (before between later : List Mark) (edges : List PlacedEdge)
    → marks ≡ before ++ between ++ later → IsBlocked before edges → NoneAborts between edges → IsBlocked (before ++ between) edges × NoneCommits (before ++ between) edges
