-- The lines of marks.
use Rattle.std.specs.Prelude.{◌≢◌, ℕ, ◌^◌, ◌<◌, ◌==◌, if◌then◌else◌, List, [], ◌∷◌, ◌++◌, All, Option, Some, None, option_and_then, codes}
use Rattle.std.specs.List.{flat_map}
use Rattle.std.specs.Fmt.{decimal}
use Rattle.gx_dsnap.specs.declared.snapshot.Snapshot.{Snapshot}
use Rattle.gx_ids.specs.declared.ids.Cid.{Cid}
use Rattle.gx_ids.specs.declared.ids.Gxid.{Gxid}
use Rattle.gx_ids.specs.declared.ids.Node.{Node}
use Rattle.gx_ids.specs.declared.ids.SessionId.{SessionId}
use Rattle.gx_ids.specs.declared.ids.Table.{Table}
use Rattle.gx_ids.specs.declared.rid.Rid.{Rid}
use Rattle.gx_modes.specs.declared.modes.Mode.{Mode}
use Rattle.gx_report.specs.LockText.{edge_text, verdict_text}
use Rattle.gx_report.specs.Words.{number_text, words_text}
use Rattle.gx_script.specs.declared.Script.{Script}
use Rattle.gx_store.specs.Refusals.{the_coordinator}
use Rattle.gx_store.specs.declared.mark.Mark.{Mark}
use Rattle.gx_store.specs.declared.mark.Mark.TheVariants as mark
use Rattle.gx_tree.specs.declared.value.Value.{Value}
use Rattle.gx_waits.specs.declared.edge.Edge.{Edge}
use Rattle.gx_waits.specs.declared.graph.LocalGraph.{LocalGraph}
use Rattle.gx_waits.specs.declared.object.Object.{Object}
use Rattle.gx_waits.specs.declared.verdict.Verdict.{Verdict}
use Rattle.gx_waits.specs.declared.verdict.Verdict.TheVariants as verdict
use Rattle.gx_trace.specs.Fields.{cid, count, gxid, node, rid}
use Rattle.gx_trace.specs.Lawful.{IsGraph, IsSeenMark, IsVerdict}
use Rattle.gx_trace.specs.Lists.{edges, gxids}
use Rattle.gx_trace.specs.Names.{session, table}
use Rattle.gx_trace.specs.Objects.{mode, object}
use Rattle.gx_trace.specs.Readers.{Front, behind, both, made, number_below, word}
use Rattle.gx_trace.specs.ShownText.{seen_mark_text}
use Rattle.gx_trace.specs.Values.{image}
use Rattle.gx_trace.specs.declared.seen.SeenMark.{SeenMark}
use Rattle.gx_trace.specs.declared.seen.SeenMark.TheVariants as seen
use Rattle.gx_trace_lines.specs.Choices.{just, nothing, on}
use Rattle.gx_trace_lines.specs.Edges.{are_in_order}
use Rattle.gx_trace_lines.specs.Messages.{message}
use Rattle.gx_trace_lines.specs.Snapshots.{snapshot}
use Rattle.gx_trace_lines.specs.declared.marks.MarkLine.{MarkLine}
use Rattle.gx_trace_lines.specs.declared.marks.MarkLine.TheVariants.{Alone, Own, Ended}

-- PRINTED
-- a mark on one line, or one of the two lines of a recheck
abbrev pub mark_line_text : Script → MarkLine → List ℕ
mark_line_text script (Alone mark) = seen_mark_text script mark
mark_line_text script (Own round graph) = words_text (codes "report") (0 ∷ round ∷ []) ++ (codes ":" ++ flat_map edge_text graph)
mark_line_text script (Ended round verdict) = words_text (codes "recheck") (round ∷ []) ++ (codes ":" ++ verdict_text verdict)

abbrev pub IsAlone : Script → SeenMark → Type 0
IsAlone script (seen.Whole (mark.Recheck round own verdict)) = ⊥
IsAlone script mark = IsSeenMark script mark

abbrev pub own_graph : List Edge → LocalGraph
own_graph edges = record { node = the_coordinator; edges = edges }

abbrev pub IsMarkLine : Script → MarkLine → Type 0
IsMarkLine script (Alone mark) = IsAlone script mark
IsMarkLine script (Own round edges) = (round < 2 ^ 64) × IsGraph the_coordinator (own_graph edges)
IsMarkLine script (Ended round verdict) = (round < 2 ^ 64) × IsVerdict verdict

-- OF TRANSACTIONS
abbrev pub whole : Mark → MarkLine
whole mark = Alone (seen.Whole mark)

abbrev pub begin_of : Gxid × SessionId → MarkLine
begin_of x = whole (mark.Start x.0 x.1)

abbrev pub commit_of : Gxid → MarkLine
commit_of g = whole (mark.Commit g)

abbrev pub abort_of : Gxid → MarkLine
abort_of g = whole (mark.Abort g)

abbrev pub decided_of : Gxid → MarkLine
decided_of g = whole (mark.Decided g)

abbrev pub prepared_of : Node × Gxid → MarkLine
prepared_of x = whole (mark.Prepared x.0 x.1)

abbrev pub local_of : Node × Gxid → MarkLine
local_of x = whole (mark.LocalCommit x.0 x.1)

abbrev pub journal_of : Node × Gxid → MarkLine
journal_of x = whole (mark.JournalFailed x.0 x.1)

abbrev pub restart_of : Node → MarkLine
restart_of n = whole (mark.Restart n)

abbrev pub answer_of : SessionId × ℕ → MarkLine
answer_of x = Alone (seen.Answer x.0 x.1)

abbrev pub sent_of : (Node × ℕ) × List ℕ → MarkLine
sent_of x = Alone (seen.Sent x.0.0 x.0.1 x.1)

abbrev pub begin : Script → List ℕ → Front MarkLine
begin script bytes = made begin_of (both gxid (session script) bytes)

abbrev pub of_gxid : (Gxid → MarkLine) → List ℕ → Front MarkLine
of_gxid f bytes = made f (gxid bytes)

abbrev pub node_and_gxid : List ℕ → Front (Node × Gxid)
node_and_gxid = both node gxid

abbrev pub at_node : (Node × Gxid → MarkLine) → List ℕ → Front MarkLine
at_node f bytes = made f (node_and_gxid bytes)

abbrev pub restarted : List ℕ → Front MarkLine
restarted bytes = made restart_of (node bytes)

abbrev pub answered : Script → List ℕ → Front MarkLine
answered script bytes = made answer_of (both (session script) (behind (codes ".") (number_below (2 ^ 32))) bytes)

abbrev pub addressed : List ℕ → Front (Node × ℕ)
addressed = both node count

abbrev pub sent : List ℕ → Front MarkLine
sent bytes = made sent_of (both addressed message bytes)

-- OF ROWS
abbrev pub command : List ℕ → Front (Gxid × Cid)
command = both gxid cid

abbrev pub snap_of : (Gxid × Cid) × Snapshot → MarkLine
snap_of x = whole (mark.Snap x.0.0 x.0.1 x.1)

abbrev pub snapped : List ℕ → Front MarkLine
snapped bytes = made snap_of (both command snapshot bytes)

abbrev pub spot : Script → List ℕ → Front (Node × (Table × Rid))
spot script = both node (both (table script) rid)

abbrev pub command_at : Script → List ℕ → Front ((Gxid × Cid) × (Node × (Table × Rid)))
command_at script = both command (spot script)

abbrev pub command_on : List ℕ → Front ((Gxid × Cid) × Rid)
command_on = both command rid

abbrev pub write_of : ((Gxid × Cid) × (Node × (Table × Rid))) × Option (List Value) → MarkLine
write_of x = whole (mark.Write x.0.0.0 x.0.0.1 x.0.1.0 x.0.1.1.0 x.0.1.1.1 x.1)

abbrev pub skip_of : (Gxid × Cid) × Rid → MarkLine
skip_of x = whole (mark.Skip x.0.0 x.0.1 x.1)

abbrev pub fault_of : ((Gxid × Cid) × Rid) × Option (List Value) → MarkLine
fault_of x = whole (mark.Fault x.0.0.0 x.0.0.1 x.0.1 x.1)

abbrev pub write : Script → List ℕ → Front MarkLine
write script bytes = made write_of (both (command_at script) image bytes)

abbrev pub skipped : List ℕ → Front MarkLine
skipped bytes = made skip_of (command_on bytes)

abbrev pub fault : List ℕ → Front MarkLine
fault bytes = made fault_of (both command_on image bytes)

-- OF LOCKS
abbrev pub Locked : Type 0
Locked = Node × (Gxid × (Object × Mode))

abbrev pub hold_of : Locked → MarkLine
hold_of x = whole (mark.Hold x.0 x.1.0 x.1.1.0 x.1.1.1)

abbrev pub wait_of : Locked → MarkLine
wait_of x = whole (mark.Wait x.0 x.1.0 x.1.1.0 x.1.1.1)

abbrev pub release_of : Locked → MarkLine
release_of x = whole (mark.Release x.0 x.1.0 x.1.1.0 x.1.1.1)

abbrev pub locked : Script → List ℕ → Front Locked
locked script = both node (both gxid (both (object script) mode))

abbrev pub lock : Script → (Locked → MarkLine) → List ℕ → Front MarkLine
lock script f bytes = made f (locked script bytes)

-- OF THE DETECTOR
abbrev pub kept_order : List Edge × List ℕ → Front (List Edge)
kept_order x = if are_in_order x.0 then Some x else None

-- edges in their order, to the end
abbrev pub graph : List ℕ → Front (List Edge)
graph bytes = option_and_then kept_order (edges bytes)

-- the coordinator's is the first line of a recheck
abbrev pub report_of : (Node × ℕ) × List Edge → MarkLine
report_of x = if x.0.0.0 == 0 then Own x.0.1 x.1 else whole (mark.Report x.0.0 x.0.1 (record { node = x.0.0; edges = x.1 }))

abbrev pub colon_of : ℕ × Unit {0} → ℕ
colon_of x = x.0

-- a round, and a colon
abbrev pub round : List ℕ → Front ℕ
round bytes = made colon_of (both count (word (codes ":")) bytes)

abbrev pub reported : List ℕ → Front (Node × ℕ)
reported = both node round

abbrev pub report : List ℕ → Front MarkLine
report bytes = made report_of (both reported graph bytes)

abbrev pub dropped_of : Gxid → Verdict
dropped_of g = verdict.Dropped g

abbrev pub victims_of : List Gxid → Verdict
victims_of gs = verdict.Victims gs

abbrev pub dropped : List ℕ → Front Verdict
dropped bytes = made dropped_of (gxid bytes)

abbrev pub victims : List ℕ → Front Verdict
victims bytes = made victims_of (gxids bytes)

abbrev pub verdict_at : List ℕ → Front Verdict
verdict_at = on (codes " nothing") (just verdict.Nothing) (on (codes " dropped") dropped (on (codes " victims") victims nothing))

abbrev pub ended_of : ℕ × Verdict → MarkLine
ended_of x = Ended x.0 x.1

abbrev pub recheck : List ℕ → Front MarkLine
recheck bytes = made ended_of (both round verdict_at bytes)

-- BY ITS WORD
abbrev pub detector_mark : List ℕ → Front MarkLine
detector_mark = on (codes "report") report (on (codes "recheck") recheck (on (codes "snap") snapped (on (codes "restart") restarted nothing)))

abbrev pub lock_mark : Script → List ℕ → Front MarkLine
lock_mark script = on (codes "hold") (lock script hold_of) (on (codes "wait") (lock script wait_of) (on (codes "release") (lock script release_of) detector_mark))

abbrev pub row_mark : Script → List ℕ → Front MarkLine
row_mark script = on (codes "write") (write script) (on (codes "skip") skipped (on (codes "fault") fault (lock_mark script)))

abbrev pub end_mark : Script → List ℕ → Front MarkLine
end_mark script =
    on (codes "decided") (of_gxid decided_of)
    (on (codes "prepared") (at_node prepared_of)
    (on (codes "local") (at_node local_of) (on (codes "journal") (at_node journal_of) (on (codes "send") sent (row_mark script)))))

abbrev pub mark_line : Script → List ℕ → Front MarkLine
mark_line script =
    on (codes "begin") (begin script)
    (on (codes "commit") (of_gxid commit_of) (on (codes "abort") (of_gxid abort_of) (on (codes "answer") (answered script) (end_mark script))))
