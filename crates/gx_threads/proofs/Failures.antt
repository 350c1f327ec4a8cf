-- How often the journals had failed at first stays.
use Rattle.std.proofs.Common.{◌≡◌, List, ◌∷◌, sym, ap, ◌∙◌}
use Rattle.std.specs.Prelude.{map}
use Rattle.gx_cells.specs.Closed.{firsts_of}
use Rattle.gx_cells.specs.CoordViews.{CoordView}
use Rattle.gx_cells.specs.Views.{SegmentView}
use Rattle.gx_threads.proofs.Closing.{map-twice}
use Rattle.gx_threads.specs.Sets.{IsSameSet, SegmentId, segment_id}

pub same-firsts : (coord later : CoordView) (olds news : List SegmentView) → IsSameSet coord olds later news → firsts_of later news ≡ firsts_of coord olds
same-firsts coord later olds news same =
    ap (λ l. later.first ∷ l) (sym (map-twice (λ (i : SegmentId). i.first) segment_id news))
    ∙ (λ i. (same.coordinator i).first ∷ map (λ (x : SegmentId). x.first) (same.segments i))
    ∙ ap (λ l. coord.first ∷ l) (map-twice (λ (i : SegmentId). i.first) segment_id olds)
