-- A set of cells, by what stays of each whatever the nodes do.
use Rattle.std.specs.Prelude.{◌≡◌, ◌+◌, ◌-◌, ℕ, List, map, slice_get, Some}
use Rattle.std.specs.declared.option.Option.{Option}
use Rattle.atomic_blocks.specs.Laid.{WebId}
use Rattle.gx_ids.specs.declared.ids.Node.{Node}
use Rattle.gx_script.specs.declared.Script.{Script}
use Rattle.gx_cells.specs.CoordActs.{links_of}
use Rattle.gx_cells.specs.CoordReceipts.{links_in}
use Rattle.gx_cells.specs.CoordViews.{CoordView}
use Rattle.gx_cells.specs.Views.{SegmentView}

-- of the coordinator's: its script, how often its journal had failed before, and its links to and from the segments
pub record CoordId : Type 0 where
  pub script : Script
  pub first : ℕ
  pub outs : List WebId
  pub ins : List WebId

abbrev pub coord_id : CoordView → CoordId
coord_id v = record { script = v.script; first = v.first; outs = links_of v.outs; ins = links_in v.inboxes }

-- of a segment's: its node too, and its links to and from the coordinator
pub record SegmentId : Type 0 where
  pub script : Script
  pub node : Node
  pub first : ℕ
  pub out : WebId
  pub source : WebId

abbrev pub segment_id : SegmentView → SegmentId
segment_id v = record { script = v.script; node = v.node; first = v.first; out = v.out.link; source = v.source.link }

-- the set's coordinator is this one
abbrev pub IsItsCoordinator : Option CoordId → CoordView → Type 0
IsItsCoordinator coordinator v = coordinator ≡ Some (coord_id v)

-- the set's segment at the place of its number is this one
abbrev pub IsItsSegment : List SegmentId → SegmentView → Type 0
IsItsSegment segments v = slice_get segments (v.node.0 - 1) ≡ Some (segment_id v)

-- the segments stand in the order of their numbers, from 1 on
abbrev pub AreInOrder : List SegmentView → Type 0
AreInOrder segments = (k : ℕ) (s : SegmentView) → slice_get segments k ≡ Some s → s.node.0 ≡ k + 1

-- a set whose cells have gone on: the same nodes, in the same order, on the same links
pub record IsSameSet (coord : CoordView) (olds : List SegmentView) (later : CoordView) (news : List SegmentView) : Type 0 where
  pub coordinator : coord_id later ≡ coord_id coord
  pub segments : map segment_id news ≡ map segment_id olds
