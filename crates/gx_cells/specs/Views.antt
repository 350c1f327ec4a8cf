-- What is seen of a segment apart.
use Rattle.std.specs.Prelude.{◌≡◌, ℕ, Bool, List}
use Rattle.std.specs.declared.option.Option.{Option}
use Rattle.gx_ids.specs.declared.ids.Node.{Node}
use Rattle.gx_msg.specs.declared.message.Envelope.{Envelope}
use Rattle.gx_links.specs.Ends.{InEnd, OutEnd}
use Rattle.gx_outside.specs.Shelves.{Shelf}
use Rattle.gx_script.specs.declared.Script.{Script}
use Rattle.gx_store.specs.declared.run.Step.{Step}
use Rattle.gx_ids.specs.declared.ids.Table.{Table}
use Rattle.gx_tree.specs.declared.row.KeyedRow.{KeyedRow}
use Rattle.gx_dsnap.specs.declared.snapshot.Snapshot.{Snapshot}
use Rattle.gx_rules.specs.Segments.{Seg}
use Rattle.gx_rules.specs.Shown.{shown}
use Rattle.gx_segment.specs.Steps.{nobody, no_command}
use Rattle.gx_cells.specs.Kept.{segment_by}
use Rattle.gx_cells.specs.Receipts.{Sight}

-- Its script, its node and its steps; its links, with what was sent and what has come, and the envelope that is to come once more;
-- what its journal holds, and how often that had failed before. Once memory has run out it is spent.
pub record SegmentView : Type 0 where
  pub script : Script
  pub node : Node
  pub spent : Bool
  pub first : ℕ
  pub steps : List Step
  pub out : OutEnd
  pub source : InEnd
  pub again : Option Envelope
  pub shelf : Shelf

-- the rule's data at the end of its history
abbrev pub data_of : SegmentView → Seg
data_of v = segment_by v.script v.node v.steps v.source.received

-- the rows of a table that it shows to nobody's transaction
abbrev pub rows_of : Snapshot → Table → SegmentView → List KeyedRow
rows_of snapshot table v = shown (data_of v) snapshot nobody no_command table

abbrev pub sight_of : SegmentView → Sight
sight_of v = record { heard = v.source.received; again = v.again; steps = v.steps }

-- what no action changes
pub record IsSameCell (old new : SegmentView) : Type 0 where
  pub script : new.script ≡ old.script
  pub node : new.node ≡ old.node
  pub first : new.first ≡ old.first
  pub out : new.out.link ≡ old.out.link
  pub source : new.source.link ≡ old.source.link
