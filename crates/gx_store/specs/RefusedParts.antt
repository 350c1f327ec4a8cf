-- What the small runs that are refused have in common. In each of them all but one thing is right; of messages only those stand in
-- them that matter.
use Rattle.std.specs.Prelude.{ℕ, List, [], ◌∷◌}
use Rattle.gx_ids.specs.declared.ids.Cid.{Cid}
use Rattle.gx_ids.specs.declared.ids.Gxid.{Gxid}
use Rattle.gx_ids.specs.declared.ids.Node.{Node}
use Rattle.gx_ids.specs.declared.ids.SessionId.{SessionId}
use Rattle.gx_ids.specs.declared.rid.Rid.{Rid}
use Rattle.gx_tree.specs.declared.stmt.Level.TheVariants.{ReadCommitted}
use Rattle.gx_tree.specs.declared.stmt.Stmt.{Stmt}
use Rattle.gx_tree.specs.declared.stmt.Stmt.TheVariants as stmt
use Rattle.gx_script.specs.declared.Line.{Line}
use Rattle.gx_script.specs.declared.Script.{Script}
use Rattle.gx_waits.specs.declared.graph.LocalGraph.{LocalGraph}
use Rattle.gx_store.specs.declared.answer.StmtAnswer.TheVariants as answer
use Rattle.gx_store.specs.declared.event.Event.{Event}
use Rattle.gx_store.specs.declared.event.Event.TheVariants as event
use Rattle.gx_store.specs.declared.mark.Mark.{Mark}
use Rattle.gx_store.specs.declared.mark.Mark.TheVariants as mark
use Rattle.gx_store.specs.declared.run.Step.{Step}
use Rattle.gx_store.specs.Refusals.{the_coordinator}

abbrev pub the_segment : Node
the_segment = record { 0 = 1 }

abbrev pub other_segment : Node
other_segment = record { 0 = 2 }

abbrev pub anna : SessionId
anna = record { 0 = 0 }

abbrev pub bert : SessionId
bert = record { 0 = 1 }

abbrev pub first_txn : Gxid
first_txn = record { 0 = 1 }

abbrev pub second_txn : Gxid
second_txn = record { 0 = 2 }

abbrev pub third_txn : Gxid
third_txn = record { 0 = 3 }

abbrev pub first_cid : Cid
first_cid = record { 0 = 1 }

-- a row of a transaction's first command, and the first of them
abbrev pub nth_row : Gxid → ℕ → Rid
nth_row g ordinal = record { gxid = g; cid = first_cid; ordinal = ordinal }

abbrev pub row_of : Gxid → Rid
row_of g = nth_row g 1

-- a script of these lines, with one segment or with two
abbrev pub with_lines : Script → List Line → Script
with_lines script lines = record script { segments = 1; lines = lines }

abbrev pub with_two : Script → List Line → Script
with_two script lines = record script { segments = 2; lines = lines }

abbrev pub line_of : SessionId → ℕ → Stmt → Line
line_of session number stmt = record { session = session; number = number; stmt = stmt }

abbrev pub step_at : Node → ℕ → Event → List Mark → Step
step_at node clock event marks = record { stamp = record { clock = clock; node = node }; event = event; marks = marks }

abbrev pub no_edges : Node → LocalGraph
no_edges node = record { node = node; edges = [] }

-- a block
abbrev pub empty_block : Script → Script
empty_block script = with_lines script (line_of anna 1 (stmt.Begin ReadCommitted) ∷ line_of anna 2 stmt.Commit ∷ [])

abbrev pub block_begins : Step
block_begins = step_at the_coordinator 1 (event.Start anna) (mark.Start first_txn anna ∷ mark.Answer anna 1 answer.Begin ∷ [])
