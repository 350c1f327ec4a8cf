-- Small runs in which rounds of the detector begin, and what they come to.
use Rattle.std.specs.Prelude.{◌≡◌, ℕ, Bool, true, false, List, [], ◌∷◌, ◌++◌, Some, None}
use Rattle.gx_ids.specs.declared.ids.Gxid.{Gxid}
use Rattle.gx_tree.specs.declared.stmt.Level.TheVariants.{ReadCommitted}
use Rattle.gx_tree.specs.declared.stmt.Stmt.TheVariants as stmt
use Rattle.gx_modes.specs.declared.modes.Mode.TheVariants.{Exclusive, RowExclusive}
use Rattle.gx_msg.specs.declared.message.Message.TheVariants as message
use Rattle.gx_script.specs.declared.Line.{Line}
use Rattle.gx_script.specs.declared.Script.{Script}
use Rattle.gx_store.specs.declared.answer.Refused.TheVariants as refused
use Rattle.gx_store.specs.declared.answer.StmtAnswer.TheVariants as told
use Rattle.gx_store.specs.declared.event.Event.{Event}
use Rattle.gx_store.specs.declared.event.Event.TheVariants as event
use Rattle.gx_store.specs.declared.mark.Mark.{Mark}
use Rattle.gx_store.specs.declared.mark.Mark.TheVariants as mark
use Rattle.gx_store.specs.declared.node.NodeEvent.TheVariants.{Deliver}
use Rattle.gx_waits.specs.declared.edge.Edge.{Edge}
use Rattle.gx_waits.specs.declared.graph.LocalGraph.{LocalGraph}
use Rattle.gx_waits.specs.declared.object.Object.TheVariants.{Relation}
use Rattle.gx_waits.specs.declared.placed_edge.PlacedEdge.{PlacedEdge}
use Rattle.gx_waits.specs.declared.verdict.Verdict.TheVariants.{Dropped, Nothing, Victims}
use Rattle.gx_detect.specs.Verdicts.{verdict_of}
use Rattle.gx_dtx.specs.Rules.{on_commit}
use Rattle.gx_rules.specs.AtCoordinator.{coord_rule}
use Rattle.gx_rules.specs.Coordinators.{Coord, CoordTurn}
use Rattle.gx_rules.specs.Expected.{gxid, node}
use Rattle.gx_rules.specs.Machine.{World, can, new_world, world_of}
use Rattle.gx_rules.specs.Rows.{answers_of, at_two, c, drives, last_marks, line, never, r, session, start, the_table, two_columns}
use Rattle.gx_rules.specs.WaitRuns.{answer, hears, share_lock, waiting_run}

-- WHAT IS LOOKED AT
-- the line of a session begins a block, or locks a table
abbrev pub begins : ℕ → Line
begins s = line s 1 (stmt.Begin ReadCommitted)

abbrev pub locks_table : ℕ → ℕ → ℕ → Line
locks_table s number t = line s number (stmt.Lock (record { 0 = t }) Exclusive)

-- one waits for the other, until that one ends
abbrev pub edge : ℕ → ℕ → Edge
edge g h = record { waiter = gxid g; holder = gxid h; dotted = false }

-- the same, until the holder has nothing left to wait for at the edge's node
abbrev pub dotted_edge : ℕ → ℕ → Edge
dotted_edge g h = record { waiter = gxid g; holder = gxid h; dotted = true }

abbrev pub graph : ℕ → List Edge → LocalGraph
graph at edges = record { node = node at; edges = edges }

-- a victim wholly: it aborts, its third line is refused, its wait is dropped and its table given back, and segment 1 is told
abbrev pub is_cancelled : ℕ → ℕ → ℕ → ℕ → ℕ → List Mark
is_cancelled g s awaited held number =
    mark.Abort (gxid g) ∷ answer s 3 (told.Refused (refused.Victim 1))
    ∷ mark.Release (node 0) (gxid g) (Relation (record { 0 = awaited })) Exclusive
    ∷ mark.Release (node 0) (gxid g) (Relation (record { 0 = held })) Exclusive
    ∷ mark.Sent (node 1) number (message.Abort (gxid g)) ∷ []

-- TWO BLOCKS CROSSWISE
-- over one segment: each of two blocks locks a table, and then asks for the other's
abbrev pub crossed : Script
crossed =
    record (at_two 2
    (begins 0 ∷ begins 1 ∷ locks_table 0 2 0 ∷ locks_table 1 2 1 ∷ locks_table 0 3 1 ∷ locks_table 1 3 0 ∷ line 0 4 stmt.Commit ∷ line 1 4 stmt.Rollback ∷ [])
    []) { segments = 1; tables = two_columns ∷ two_columns ∷ [] }

abbrev pub crossed_at : ℕ → World
crossed_at steps = drives steps crossed never new_world

-- The round finds the younger at its recheck, in the coordinator's own graph, and the elder goes on.
pub record CancelsYounger : Type 0 where
  pub begun : last_marks (crossed_at 11) ≡ mark.Sent (node 1) 3 (message.Collect 1) ∷ []
  pub reported : last_marks (crossed_at 12) ≡ mark.Report (node 1) 1 (graph 1 []) ∷ mark.Sent (node 0) 3 (message.Graph 1 (graph 1 [])) ∷ []
  pub decided : last_marks (crossed_at 13) ≡ mark.Recheck 1 (graph 0 (edge 1 2 ∷ edge 2 1 ∷ [])) (Victims (gxid 2 ∷ [])) ∷ is_cancelled 2 1 0 1 4
  pub answers : answers_of (crossed_at 40)
      ≡ (session 0, 1, told.Begin) ∷ (session 1, 1, told.Begin) ∷ (session 0, 2, told.Locked) ∷ (session 1, 2, told.Locked)
      ∷ (session 1, 3, told.Refused (refused.Victim 1)) ∷ (session 0, 3, told.Locked) ∷ (session 0, 4, told.Commit) ∷ (session 1, 4, told.Rollback) ∷ []

-- TWO PAIRS OF BLOCKS
-- the same twice, with four sessions and four tables
abbrev pub pairs : Script
pairs =
    record (at_two 4
    (begins 0 ∷ begins 1 ∷ begins 2 ∷ begins 3
    ∷ locks_table 0 2 0 ∷ locks_table 1 2 1 ∷ locks_table 2 2 2 ∷ locks_table 3 2 3
    ∷ locks_table 0 3 1 ∷ locks_table 1 3 0 ∷ locks_table 2 3 3 ∷ locks_table 3 3 2 ∷ [])
    []) { segments = 1; tables = two_columns ∷ two_columns ∷ two_columns ∷ two_columns ∷ [] }

abbrev pub pairs_at : ℕ → World
pairs_at steps = drives steps pairs never new_world

-- Both victims are cancelled in the recheck's step, the younger wholly before the other.
pub record CancelsBoth : Type 0 where
  pub decided : last_marks (pairs_at 23)
      ≡ mark.Recheck 1 (graph 0 (edge 1 2 ∷ edge 2 1 ∷ edge 3 4 ∷ edge 4 3 ∷ [])) (Victims (gxid 4 ∷ gxid 2 ∷ []))
      ∷ is_cancelled 4 3 2 3 6 ++ is_cancelled 2 1 0 1 7

-- SOMEBODY WAITS ALONE
abbrev pub round : Event × Bool
round = (event.Round, false)

-- an INSERT waits for a block that goes on, a round begins, and the segment has reported in it
abbrev pub until_report : List (Event × Bool)
until_report = start 0 ∷ start 0 ∷ r 1 1 ∷ c 1 1 ∷ start 1 ∷ round ∷ r 1 2 ∷ []

abbrev pub alone : List (Event × Bool) → World
alone events = world_of share_lock (until_report ++ events)

pub record FindsNobody : Type 0 where
  pub decided : last_marks (alone (c 1 2 ∷ [])) ≡ mark.Recheck 1 (graph 0 (edge 2 1 ∷ [])) Nothing ∷ []
  pub over : (alone (c 1 2 ∷ [])).coord.reports ≡ None

-- A SECOND ROUND
-- that run, where the first round is over and the next has begun
abbrev pub second : List (Event × Bool) → World
second events = alone (c 1 2 ∷ round ∷ events)

abbrev pub asks_again : Event
asks_again = event.Resend (node 1) None

-- The old graph comes again and changes nothing. The segment answers the round before with what it kept, and nothing to an older
-- one. One round runs at a time, and COLLECT is sent again while its graph is awaited, and then no more.
pub record TakesItsOwnGraphs : Type 0 where
  pub late : last_marks (second (c 1 2 ∷ [])) ≡ []
  pub awaited : (second (c 1 2 ∷ [])).coord.reports ≡ Some (None ∷ [])
  pub kept : last_marks (second (r 1 2 ∷ [])) ≡ mark.Sent (node 0) 3 (message.Graph 1 (graph 1 [])) ∷ []
  pub older : last_marks (second (r 1 3 ∷ r 1 2 ∷ [])) ≡ []
  pub one_round : can share_lock (second []) event.Round ≡ false
  pub again : last_marks (second ((asks_again, false) ∷ [])) ≡ mark.Sent (node 1) 4 (message.Collect 2) ∷ []
  pub decided : last_marks (second (r 1 3 ∷ c 1 3 ∷ [])) ≡ mark.Recheck 2 (graph 0 (edge 2 1 ∷ [])) Nothing ∷ []
  pub no_more : can share_lock (second (r 1 3 ∷ c 1 3 ∷ [])) asks_again ≡ false

-- TWO SEGMENTS
-- the same wait over two segments, where the first of them has reported and the coordinator has it
abbrev pub over_two : Script
over_two = record share_lock { segments = 2 }

abbrev pub until_first : List (Event × Bool)
until_first = start 0 ∷ start 0 ∷ r 1 1 ∷ r 2 1 ∷ c 1 1 ∷ c 2 1 ∷ start 1 ∷ round ∷ r 1 2 ∷ c 1 2 ∷ []

abbrev pub half : List (Event × Bool) → World
half events = world_of over_two (until_first ++ events)

abbrev pub hears_at : Coord → ℕ → ℕ → LocalGraph → CoordTurn
hears_at at i number told = coord_rule over_two at (Deliver (node i) (record { number = 2; clock = 0; incarnation = 1; message = message.Graph number told })) false

abbrev pub hears_graph : ℕ → ℕ → LocalGraph → CoordTurn
hears_graph i number told = hears_at (half []).coord i number told

-- One report isn't all: nothing follows until the other segment's. The same one again, a later round's, and one of another segment
-- than the sender change nothing.
pub record AwaitsEach : Type 0 where
  pub first : last_marks (half []) ≡ []
  pub noted : (half []).coord.reports ≡ Some (Some (graph 1 []) ∷ None ∷ [])
  pub awaits_other : can over_two (half []) (event.Resend (node 2) None) ≡ true
  pub has_first : can over_two (half []) (event.Resend (node 1) None) ≡ false
  pub again : (hears_graph 1 1 (graph 1 (edge 2 1 ∷ []))).coord.reports ≡ Some (Some (graph 1 []) ∷ None ∷ [])
  pub later : (hears_graph 2 2 (graph 2 [])).coord.reports ≡ Some (Some (graph 1 []) ∷ None ∷ [])
  pub other_place : (hears_graph 2 1 (graph 1 [])).coord.reports ≡ Some (Some (graph 1 []) ∷ None ∷ [])
  pub decided : last_marks (half (r 2 2 ∷ c 2 2 ∷ [])) ≡ mark.Recheck 1 (graph 0 (edge 2 1 ∷ [])) Nothing ∷ []

-- over reports with edges: who waits for each other across two nodes, and the younger of them; nobody where the segment's edge is
-- dotted, since its holder waits for nothing there
pub record GathersReports : Type 0 where
  pub marks : (hears_graph 2 1 (graph 2 (edge 1 2 ∷ []))).marks
      ≡ mark.Recheck 1 (graph 0 (edge 2 1 ∷ [])) (Victims (gxid 2 ∷ []))
      ∷ mark.Abort (gxid 2) ∷ answer 1 1 (told.Refused (refused.Victim 1)) ∷ mark.Release (node 0) (gxid 2) (Relation the_table) RowExclusive ∷ []
  pub over : (hears_graph 2 1 (graph 2 (edge 1 2 ∷ []))).coord.reports ≡ None
  pub dotted : (hears_graph 2 1 (graph 2 (dotted_edge 1 2 ∷ []))).marks ≡ mark.Recheck 1 (graph 0 (edge 2 1 ∷ [])) Nothing ∷ []

-- the same, where the elder has been told to commit: the round is dropped
abbrev pub committing : Coord
committing = record (half []).coord { table = (on_commit (half []).coord.table (gxid 1) (node 1 ∷ [])).table }

pub record DropsTheRound : Type 0 where
  pub marks : (hears_at committing 2 1 (graph 2 (edge 1 2 ∷ []))).marks ≡ mark.Recheck 1 (graph 0 (edge 2 1 ∷ [])) (Dropped (gxid 1)) ∷ []

-- A SLICE THAT WAITS
-- where a slice waits at a segment, its report has the edge, and keeps it
pub record ReportsItsWait : Type 0 where
  pub marks : (hears waiting_run (message.Collect 1)).marks
      ≡ mark.Report (node 2) 1 (graph 2 (edge 2 1 ∷ [])) ∷ mark.Sent (node 0) 2 (message.Graph 1 (graph 2 (edge 2 1 ∷ []))) ∷ []
  pub round : (hears waiting_run (message.Collect 1)).seg.round ≡ 1
  pub graph : (hears waiting_run (message.Collect 1)).seg.graph ≡ Some (graph 2 (edge 2 1 ∷ []))

-- VERDICTS OVER GIVEN EDGES
abbrev pub solid : ℕ → ℕ → ℕ → PlacedEdge
solid at g h = record { node = node at; edge = edge g h }

abbrev pub dotted : ℕ → ℕ → ℕ → PlacedEdge
dotted at g h = record { node = node at; edge = dotted_edge g h }

abbrev pub all : List Gxid
all = gxid 2 ∷ gxid 3 ∷ gxid 4 ∷ gxid 5 ∷ gxid 6 ∷ []

-- A dotted edge goes where its holder is free on the edge's node, and stays where it waits there, also beside a cycle that is no
-- deadlock. Who waits for a deadlock and is waited for by nobody isn't chosen. A round is dropped for the least who can't be cancelled.
pub record DecidesOver : Type 0 where
  pub freed : verdict_of (dotted 1 2 3 ∷ solid 2 3 2 ∷ []) all ≡ Nothing
  pub held_up : verdict_of (dotted 1 2 3 ∷ solid 1 3 2 ∷ []) all ≡ Victims (gxid 3 ∷ [])
  pub outside : verdict_of (solid 1 2 3 ∷ solid 2 3 2 ∷ solid 1 4 2 ∷ []) all ≡ Victims (gxid 3 ∷ [])
  pub beside : verdict_of (dotted 1 2 6 ∷ solid 1 3 2 ∷ dotted 1 4 3 ∷ solid 1 6 5 ∷ solid 2 3 4 ∷ solid 2 5 6 ∷ []) all ≡ Victims (gxid 6 ∷ [])
  pub elsewhere : verdict_of (dotted 1 2 4 ∷ solid 1 4 3 ∷ solid 2 3 2 ∷ []) all ≡ Victims (gxid 4 ∷ [])
  pub dropped : verdict_of (solid 1 2 3 ∷ solid 2 3 2 ∷ []) (gxid 4 ∷ []) ≡ Dropped (gxid 2)
