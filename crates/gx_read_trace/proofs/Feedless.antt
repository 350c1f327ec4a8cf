-- No printed line has a line feed in it.
use Rattle.std.proofs.Common.{ℕ, ◌^◌, ◌<◌, Bool, true, false, if◌then◌else◌, List, [], ◌∷◌, ◌++◌, length, map, codes, Option, Some, None, refl, sym, subst, arith}
use Rattle.std.specs.Prelude.{All}
use Rattle.std.specs.List.{flat_map}
use Rattle.std.specs.Fmt.{decimal}
use Rattle.std.proofs.lemmas.List.Elements.{All-append, All-cons, All-head, All-nil, All-tail}
use Rattle.gx_ids.specs.declared.ids.Cid.{Cid}
use Rattle.gx_ids.specs.declared.ids.Gxid.{Gxid}
use Rattle.gx_ids.specs.declared.ids.Node.{Node}
use Rattle.gx_ids.specs.declared.ids.SessionId.{SessionId}
use Rattle.gx_ids.specs.declared.rid.Rid.{Rid}
use Rattle.gx_meaning.specs.Aggregates.{cell_of}
use Rattle.gx_meaning.specs.Order.{in_order}
use Rattle.gx_modes.specs.Table.{number_of}
use Rattle.gx_modes.specs.declared.modes.Mode.{Mode}
use Rattle.gx_modes.specs.declared.modes.Mode.TheVariants as mode
use Rattle.gx_msg.specs.ItemBytes.{bytes_of_image, bytes_of_value}
use Rattle.gx_msg.specs.ItemBytes.{behind_bar as value_behind_bar}
use Rattle.gx_msg.specs.MessageText.{text_of_message}
use Rattle.gx_msg.specs.declared.message.Message.{Message}
use Rattle.gx_msg.specs.declared.message.Message.TheVariants as message
use Rattle.gx_msg.specs.declared.reply.Reply.{Reply}
use Rattle.gx_msg.specs.declared.reply.Reply.TheVariants as reply
use Rattle.gx_report.specs.EventText.{event_text}
use Rattle.gx_report.specs.LockText.{edge_order, edge_text, object_text, verdict_text}
use Rattle.gx_report.specs.Text.{behind_bar, cell_text, cells_text}
use Rattle.gx_report.specs.Words.{gxid_text, session_name}
use Rattle.gx_report.specs.Words.{table_name as table_name_of}
use Rattle.gx_script.specs.declared.Script.{Script}
use Rattle.gx_store.specs.Language.{table_name}
use Rattle.gx_store.specs.declared.answer.Refused.{Refused}
use Rattle.gx_store.specs.declared.answer.Refused.TheVariants as refused
use Rattle.gx_store.specs.declared.answer.StmtAnswer.{StmtAnswer}
use Rattle.gx_store.specs.declared.answer.StmtAnswer.TheVariants as answer
use Rattle.gx_store.specs.declared.event.Event.{Event}
use Rattle.gx_store.specs.declared.event.Event.TheVariants as event
use Rattle.gx_store.specs.declared.mark.Mark.TheVariants as mark
use Rattle.gx_tree.specs.declared.cell.Cell.{Cell}
use Rattle.gx_tree.specs.declared.cell.Cell.TheVariants as cell
use Rattle.gx_tree.specs.declared.schema.Schema.{Schema}
use Rattle.gx_tree.specs.declared.value.Value.{Value}
use Rattle.gx_tree.specs.declared.value.Value.TheVariants as value
use Rattle.gx_waits.specs.declared.edge.Edge.{Edge}
use Rattle.gx_waits.specs.declared.object.Object.{Object}
use Rattle.gx_waits.specs.declared.object.Object.TheVariants as object
use Rattle.gx_waits.specs.declared.verdict.Verdict.{Verdict}
use Rattle.gx_waits.specs.declared.verdict.Verdict.TheVariants as verdict
use Rattle.gx_trace.specs.Lawful.{IsAnswer, IsCell, IsEdge, IsEvent, IsGxid, IsImage, IsLine, IsLockMark, IsMessage, IsObject, IsOutRow, IsRefused, IsReply, IsRid, IsSeenMark, IsSession, IsValue, IsVerdict}
use Rattle.gx_trace.specs.Shown.{AreTables, IsRowOf, IsSeenStep, IsShown, all_places, place_of}
use Rattle.gx_trace.specs.declared.seen.Seen.{Seen}
use Rattle.gx_trace.specs.declared.seen.SeenAnswer.{SeenAnswer}
use Rattle.gx_trace.specs.declared.seen.SeenMark.{SeenMark}
use Rattle.gx_trace.specs.declared.seen.SeenMark.TheVariants as seen
use Rattle.gx_trace.specs.declared.seen.SeenStep.{SeenStep}
use Rattle.gx_trace_lines.specs.Answers.{answer_head_text}
use Rattle.gx_trace_lines.specs.Cells.{out_row_text}
use Rattle.gx_trace_lines.specs.Events.{moment_text}
use Rattle.gx_trace_lines.specs.Heads.{head_text, refused_text, said_text}
use Rattle.gx_trace_lines.specs.Tables.{table_head_text, table_row_text}
use Rattle.gx_trace_lines.specs.declared.heads.AnswerHead.TheVariants.{Rows}
use Rattle.gx_read_trace.specs.Lines.{answer_lines, lines_of_answer, lines_of_table, lines_of_tables, mark_lines, moment_of_step, run_line, seen_lines, step_lines}
use Rattle.gx_read_trace.proofs.Plain.{Plain, cat, each-in, from-test, lit, mapped, named, named-table, among, nil, num, number, of-32, of-8, signed, text, wider}

-- FIELDS
abbrev of-gxid : (g : Gxid) → IsGxid g → Plain
of-gxid g is = number g.0 is

abbrev of-cid : (c : Cid) → c.0 < 2 ^ 32 → Plain
of-cid c is = number c.0 (of-32 c.0 is)

abbrev of-node : (k : Node) → k.0 < 2 ^ 8 → Plain
of-node k is = number k.0 (of-8 k.0 is)

abbrev one : Plain → Plain → Plain
one w a = cat w (cat a nil)

abbrev two : Plain → Plain → Plain → Plain
two w a b = cat w (cat a (cat b nil))

abbrev three : Plain → Plain → Plain → Plain → Plain
three w a b c = cat w (cat a (cat b (cat c nil)))

abbrev of-word : Plain → Plain
of-word a = cat (lit (codes " ") refl) a

abbrev dot : Plain
dot = lit (codes ".") refl

abbrev of-rid : (r : Rid) → IsRid r → Plain
of-rid r is = cat (cat (cat (cat (num r.gxid.0 is.gxid) dot) (num r.cid.0 (of-32 r.cid.0 is.cid))) dot) (num r.ordinal (of-32 r.ordinal is.ordinal))

-- ROWS
value-plain : (v : Value) → IsValue v → IsLine (bytes_of_value v)
value-plain (value.Int z) is = signed z (wider z is)
value-plain (value.Text t) is = (text t is).1

image-plain : (image : Option (List Value)) → IsImage image → IsLine (bytes_of_image image)
image-plain None is = from-test (codes "gone") refl
image-plain (Some []) is = absurd is
image-plain (Some (v ∷ vs)) is =
    (cat (bytes_of_value v, value-plain v (All-head IsValue v vs is))
    (flat_map value_behind_bar vs, each-in IsValue value_behind_bar (λ x all. (cat (lit (codes "|") refl) (bytes_of_value x, value-plain x all)).1) vs (All-tail IsValue v vs is))).1

abbrev of-image : (r : Rid) (image : Option (List Value)) → IsRid r → IsImage image → Plain
of-image r image is lawful = cat (of-word (of-rid r is)) (of-word (bytes_of_image image, image-plain image lawful))

abbrev IsPlainCell : Cell → Type 0
IsPlainCell c = IsLine (cell_text c)

cell-plain : (c : Cell) → IsCell c → IsPlainCell c
cell-plain (cell.Int z) is = signed z is
cell-plain (cell.Text t) is = (text t is).1
cell-plain cell.Null is = from-test (codes "null") refl

value-cell : (v : Value) → IsValue v → IsPlainCell (cell_of v)
value-cell (value.Int z) is = signed z (wider z is)
value-cell (value.Text t) is = (text t is).1

cells-plain : (cs : List Cell) → All IsPlainCell cs → IsLine (codes "  " ++ cells_text cs)
cells-plain [] all = from-test (codes "  ") refl
cells-plain (c ∷ cs) all =
    (cat (lit (codes "  ") refl) (cat (cell_text c, All-head IsPlainCell c cs all)
    (flat_map behind_bar cs, each-in IsPlainCell behind_bar (λ x is. (cat (lit (codes "|") refl) (cell_text x, is)).1) cs (All-tail IsPlainCell c cs all)))).1

each-cell : (cs : List Cell) → All IsCell cs → All IsPlainCell cs
each-cell [] all = All-nil IsPlainCell
each-cell (c ∷ cs) all = All-cons IsPlainCell c cs (cell-plain c (All-head IsCell c cs all)) (each-cell cs (All-tail IsCell c cs all))

out-row-plain : (row : List Cell) → IsOutRow row → IsLine (out_row_text row)
out-row-plain [] is = absurd is
out-row-plain (c ∷ cs) is = cells-plain (c ∷ cs) (each-cell (c ∷ cs) is)

table-row-plain : (s : Schema) (row : List Value) → IsRowOf s row → IsLine (table_row_text row)
table-row-plain s row is = cells-plain (map cell_of row) (mapped IsValue IsPlainCell cell_of value-cell row is.values)

-- ANSWERS
refused-plain : (why : Refused) → IsRefused why → IsLine (refused_text why)
refused-plain (refused.Serialization rid newer) is = (cat (lit (codes "ERROR 1 serialization row") refl) (cat (of-word (of-rid rid is.0)) (cat (lit (codes " changed by") refl) (of-gxid newer is.1)))).1
refused-plain (refused.Victim round) is = (cat (lit (codes "ERROR 2 victim of round") refl) (number round is)).1
refused-plain refused.Overflow is = from-test (codes "ERROR 3 overflow") refl
refused-plain refused.DivisionByZero is = from-test (codes "ERROR 4 division by zero") refl
refused-plain refused.InFailedBlock is = from-test (codes "ERROR 5 block has failed") refl
refused-plain (refused.JournalFault node) is = (cat (lit (codes "ERROR 6 journal of node") refl) (cat (number node.0 (of-8 node.0 is)) (lit (codes " failed") refl))).1
refused-plain refused.NotInBlock is = from-test (codes "ERROR 7 not in a block") refl
refused-plain (refused.Restarted node) is = (cat (lit (codes "ERROR 8 segment") refl) (cat (number node.0 (of-8 node.0 is)) (lit (codes " restarted") refl))).1

abbrev of-name : (w : Plain) (name : List ℕ) → IsLine name → Plain
of-name w name line = cat w (of-word (name, line))

-- EVENTS
event-plain : (script : Script) (e : Event) → IsEvent script e → IsLine (event_text script e)
event-plain script (event.Receive from to n) is = (three (lit (codes "recv") refl) (of-node from is.0) (of-node to is.1) (number n is.2)).1
event-plain script (event.Resume node gxid) is = (two (lit (codes "resume") refl) (of-node node is.0) (of-gxid gxid is.1)).1
event-plain script (event.Start session) is = (cat (lit (codes "start") refl) (of-word (session_name script session, named script.sessions session.0 is))).1
event-plain script (event.End session) is = (cat (lit (codes "end") refl) (of-word (session_name script session, named script.sessions session.0 is))).1
event-plain script (event.Resend segment (Some gxid)) is = (two (lit (codes "resend") refl) (of-node segment is.0) (of-gxid gxid is.1)).1
event-plain script (event.Resend segment None) is = (cat (one (lit (codes "resend") refl) (of-node segment is)) (lit (codes " round") refl)).1
event-plain script event.Round is = from-test (codes "round") refl
event-plain script (event.Restart node) is = (one (lit (codes "restart") refl) (of-node node is)).1

moment-plain : (script : Script) (step : SeenStep) → IsSeenStep script step → IsLine (moment_text script (moment_of_step step))
moment-plain script step is =
    (cat (cat (num step.stamp.clock is.clock) (cat dot (num step.stamp.node.0 (of-8 step.stamp.node.0 is.node)))) (of-word (event_text script step.event, event-plain script step.event is.event))).1

-- MESSAGES
abbrev of-named : Plain → (g : ℕ) → g < 2 ^ 64 → Plain
of-named w g is = cat (cat w (lit (codes " ") refl)) (num g is)

reply-plain : (g : Gxid) (r : Reply) → IsGxid g → IsReply r → IsLine (text_of_message (message.Answer g r))
reply-plain g (reply.Done cid wrote count part) is more = (of-named (of-named (lit (codes "done") refl) g.0 is) cid.0 (of-32 cid.0 more)).1
reply-plain g (reply.Failed cid cause) is more = (of-named (of-named (lit (codes "failed") refl) g.0 is) cid.0 (of-32 cid.0 more)).1
reply-plain g reply.Prepared is more = (of-named (lit (codes "prepared") refl) g.0 is).1
reply-plain g reply.Committed is more = (of-named (lit (codes "committed") refl) g.0 is).1
reply-plain g reply.Jfault is more = (of-named (lit (codes "jfault") refl) g.0 is).1
reply-plain g reply.Again is more = (of-named (lit (codes "again") refl) g.0 is).1
reply-plain g reply.Aborted is more = (of-named (lit (codes "aborted") refl) g.0 is).1
reply-plain g reply.Forgotten is more = (of-named (lit (codes "forgotten") refl) g.0 is).1
reply-plain g reply.Restarted is more = (of-named (lit (codes "restarted") refl) g.0 is).1

message-plain : (m : Message) → IsMessage m → IsLine (text_of_message m)
message-plain (message.Exec g cid level snapshot horizon slice) is = (of-named (of-named (lit (codes "exec") refl) g.0 is.0) cid.0 (of-32 cid.0 is.1)).1
message-plain (message.Prepare g) is = (of-named (lit (codes "prepare") refl) g.0 is).1
message-plain (message.Commit g) is = (of-named (lit (codes "commit") refl) g.0 is).1
message-plain (message.CommitPrepared g) is = (of-named (lit (codes "commit prepared") refl) g.0 is).1
message-plain (message.Abort g) is = (of-named (lit (codes "abort") refl) g.0 is).1
message-plain (message.Forget g) is = (of-named (lit (codes "forget") refl) g.0 is).1
message-plain (message.Collect round) is = (of-named (lit (codes "collect") refl) round is).1
message-plain (message.Answer g r) is = reply-plain g r is.0 is.1
message-plain (message.Graph round graph) is = (of-named (lit (codes "graph") refl) round is).1
message-plain message.Up is = from-test (codes "up") refl

-- LOCKS
mode-small : (m : Mode) → number_of m < 2 ^ 64
mode-small mode.AccessShare = omega arith
mode-small mode.RowShare = omega arith
mode-small mode.RowExclusive = omega arith
mode-small mode.ShareUpdateExclusive = omega arith
mode-small mode.Share = omega arith
mode-small mode.ShareRowExclusive = omega arith
mode-small mode.Exclusive = omega arith
mode-small mode.AccessExclusive = omega arith

object-plain : (script : Script) (o : Object) → IsObject script o → IsLine (object_text script o)
object-plain script (object.Relation t) is = (cat (lit (codes " relation") refl) (of-word (table_name_of script t, named-table script.tables t.0 is))).1
object-plain script (object.Tuple rid) is = (cat (lit (codes " tuple") refl) (of-word (of-rid rid is))).1
object-plain script (object.Transaction g) is = (one (lit (codes " transaction") refl) (of-gxid g is)).1

abbrev of-lock : (script : Script) → Plain → (k : Node) (g : Gxid) (o : Object) (m : Mode) → IsLockMark script k g o → Plain
of-lock script w k g o m is = cat (two w (of-node k is.0) (of-gxid g is.1)) (cat (object_text script o, object-plain script o is.2) (number (number_of m) (mode-small m)))

edge-plain : (e : Edge) → IsEdge e → IsLine (edge_text e)
edge-plain e is = by e.dotted
  where
    by : (c : Bool) → IsLine (gxid_text e.waiter ++ codes ">" ++ decimal e.holder.0 ++ (if c then codes "~" else []))
    by true = (cat (cat (cat (of-gxid e.waiter is.0) (lit (codes ">") refl)) (num e.holder.0 is.1)) (lit (codes "~") refl)).1
    by false = (cat (cat (cat (of-gxid e.waiter is.0) (lit (codes ">") refl)) (num e.holder.0 is.1)) nil).1

abbrev colon : Plain
colon = lit (codes ":") refl

verdict-plain : (v : Verdict) → IsVerdict v → IsLine (verdict_text v)
verdict-plain verdict.Nothing is = from-test (codes " nothing") refl
verdict-plain (verdict.Dropped g) is = (one (lit (codes " dropped") refl) (of-gxid g is)).1
verdict-plain (verdict.Victims gs) is = (cat (lit (codes " victims") refl) (flat_map gxid_text gs, each-in IsGxid gxid_text (λ g small. (of-gxid g small).1) gs is)).1

-- MARKS
abbrev blank : Plain → Plain
blank a = cat (lit (codes "  ") refl) a

sole : (line : List ℕ) → IsLine line → All IsLine (line ∷ [])
sole line is = All-cons IsLine line [] is (All-nil IsLine)

pair : (a b : Plain) → All IsLine (a.0 ∷ b.0 ∷ [])
pair a b = All-cons IsLine a.0 (b.0 ∷ []) a.1 (sole b.0 b.1)

module _ (script : Script) where
  abbrev of-session : (s : SessionId) → IsSession script s → Plain
  of-session s is = (session_name script s, named script.sessions s.0 is)

  mark-plain : (m : SeenMark) → IsSeenMark script m → All IsLine (mark_lines script m)
  mark-plain (seen.Whole (mark.Start g who)) is = sole _ (blank (cat (one (lit (codes "begin") refl) (of-gxid g is.0)) (of-word (of-session who is.1)))).1
  mark-plain (seen.Whole (mark.Snap g c shot)) is = sole _ (blank
      (cat (cat (cat (cat (two (lit (codes "snap") refl) (of-gxid g is.0) (of-cid c is.1)) (one (lit (codes " xmin") refl) (of-gxid shot.xmin is.2.0))) (one (lit (codes " xmax") refl) (of-gxid shot.xmax is.2.1)))
      (lit (codes " running") refl)) (flat_map gxid_text shot.running, each-in IsGxid gxid_text (λ x small. (of-gxid x small).1) shot.running is.2.2))).1
  mark-plain (seen.Whole (mark.Write g c k t r i)) is = sole _ (blank
      (cat (cat (three (lit (codes "write") refl) (of-gxid g is.0) (of-cid c is.1) (of-node k is.2)) (of-word (table_name_of script t, named-table script.tables t.0 is.3))) (of-image r i is.4 is.5))).1
  mark-plain (seen.Whole (mark.Skip g c r)) is = sole _ (blank (cat (two (lit (codes "skip") refl) (of-gxid g is.0) (of-cid c is.1)) (of-word (of-rid r is.2)))).1
  mark-plain (seen.Whole (mark.Fault g c r i)) is = sole _ (blank (cat (two (lit (codes "fault") refl) (of-gxid g is.0) (of-cid c is.1)) (of-image r i is.2 is.3))).1
  mark-plain (seen.Whole (mark.Commit g)) is = sole _ (blank (one (lit (codes "commit") refl) (of-gxid g is))).1
  mark-plain (seen.Whole (mark.Abort g)) is = sole _ (blank (one (lit (codes "abort") refl) (of-gxid g is))).1
  mark-plain (seen.Whole (mark.Hold k g o m)) is = sole _ (blank (of-lock script (lit (codes "hold") refl) k g o m is)).1
  mark-plain (seen.Whole (mark.Wait k g o m)) is = sole _ (blank (of-lock script (lit (codes "wait") refl) k g o m is)).1
  mark-plain (seen.Whole (mark.Release k g o m)) is = sole _ (blank (of-lock script (lit (codes "release") refl) k g o m is)).1
  mark-plain (seen.Whole (mark.Prepared k g)) is = sole _ (blank (two (lit (codes "prepared") refl) (of-node k is.0) (of-gxid g is.1))).1
  mark-plain (seen.Whole (mark.LocalCommit k g)) is = sole _ (blank (two (lit (codes "local") refl) (of-node k is.0) (of-gxid g is.1))).1
  mark-plain (seen.Whole (mark.Decided g)) is = sole _ (blank (one (lit (codes "decided") refl) (of-gxid g is))).1
  mark-plain (seen.Whole (mark.JournalFailed k g)) is = sole _ (blank (two (lit (codes "journal") refl) (of-node k is.0) (of-gxid g is.1))).1
  mark-plain (seen.Whole (mark.Restart k)) is = sole _ (blank (one (lit (codes "restart") refl) (of-node k is))).1
  mark-plain (seen.Whole (mark.Report k r graph)) is = sole _ (blank (cat (cat (two (lit (codes "report") refl) (of-node k is.0) (number r is.2)) colon)
      (flat_map edge_text (in_order edge_order graph.edges), each-in IsEdge edge_text edge-plain (in_order edge_order graph.edges) (subst (All IsEdge) (sym is.3.order) is.3.edges)))).1
  mark-plain (seen.Whole (mark.Answer session n said)) is = absurd is
  mark-plain (seen.Whole (mark.Sent to n message)) is = absurd is
  mark-plain (seen.Sent to n said) is = sole _ (blank (cat (two (lit (codes "send") refl) (of-node to is.0) (number n is.1)) (of-word (said, subst IsLine (sym is.2.2) (message-plain is.2.0 is.2.1))))).1
  mark-plain (seen.Answer session n) is = sole _ (blank (cat (cat (cat (lit (codes "answer") refl) (of-word (of-session session is.0))) dot) (num n (of-32 n is.1)))).1
  mark-plain (seen.Whole (mark.Recheck round own v)) is =
      pair (blank (cat (two (lit (codes "report") refl) (number 0 (omega arith)) (number round is.0)) (cat colon (flat_map edge_text own.edges, each-in IsEdge edge_text edge-plain own.edges is.1.edges))))
      (blank (cat (one (lit (codes "recheck") refl) (number round is.0)) (cat colon (verdict_text v, verdict-plain v is.2))))

  marks-plain : (ms : List SeenMark) → All (IsSeenMark script) ms → All IsLine (flat_map (mark_lines script) ms)
  marks-plain [] all = All-nil IsLine
  marks-plain (m ∷ ms) all = All-append IsLine (mark_lines script m) (flat_map (mark_lines script) ms) (mark-plain m (All-head (IsSeenMark script) m ms all)) (marks-plain ms (All-tail (IsSeenMark script) m ms all))

  steps-plain : (steps : List SeenStep) → All (IsSeenStep script) steps → All IsLine (flat_map (step_lines script) steps)
  steps-plain [] all = All-nil IsLine
  steps-plain (step ∷ steps) all =
      let is = All-head (IsSeenStep script) step steps all in
      All-append IsLine (step_lines script step) (flat_map (step_lines script) steps)
      (All-cons IsLine (moment_text script (moment_of_step step)) (flat_map (mark_lines script) step.marks) (moment-plain script step is) (marks-plain step.marks is.marks))
      (steps-plain steps (All-tail (IsSeenStep script) step steps all))

  -- ANSWERS
  lone : (name : List ℕ) (n : ℕ) (h : List ℕ) → IsLine name → n < 2 ^ 32 → IsLine h → IsLine (name ++ (codes "." ++ (decimal n ++ (codes " " ++ h))))
  lone name n h line small is = (cat (name, line) (cat dot (cat (num n (of-32 n small)) (of-word (h, is))))).1

  answer-plain : (name : List ℕ) (n : ℕ) (said : StmtAnswer) → IsLine name → n < 2 ^ 32 → IsAnswer said → All IsLine (lines_of_answer name n said)
  answer-plain name n answer.Begin line small is = sole _ (lone name n (codes "BEGIN") line small (from-test (codes "BEGIN") refl))
  answer-plain name n answer.Commit line small is = sole _ (lone name n (codes "COMMIT") line small (from-test (codes "COMMIT") refl))
  answer-plain name n answer.Rollback line small is = sole _ (lone name n (codes "ROLLBACK") line small (from-test (codes "ROLLBACK") refl))
  answer-plain name n answer.Locked line small is = sole _ (lone name n (codes "LOCK TABLE") line small (from-test (codes "LOCK TABLE") refl))
  answer-plain name n (answer.Inserted k) line small is = sole _ (lone name n (said_text (answer.Inserted k)) line small (cat (lit (codes "INSERT") refl) (number k is)).1)
  answer-plain name n (answer.Updated k) line small is = sole _ (lone name n (said_text (answer.Updated k)) line small (cat (lit (codes "UPDATE") refl) (number k is)).1)
  answer-plain name n (answer.Deleted k) line small is = sole _ (lone name n (said_text (answer.Deleted k)) line small (cat (lit (codes "DELETE") refl) (number k is)).1)
  answer-plain name n (answer.Refused why) line small is = sole _ (lone name n (refused_text why) line small (refused-plain why is))
  answer-plain name n (answer.Rows rows) line small is =
      All-cons IsLine (answer_head_text name n (Rows (length rows))) (map out_row_text rows)
      (lone name n (head_text (Rows (length rows))) line small (cat (lit (codes "SELECT") refl) (number (length rows) is.0)).1)
      (mapped IsOutRow IsLine out_row_text out-row-plain rows is.1)

  answers-plain : All IsLine script.sessions → (xs : List SeenAnswer) → All (λ (p : ℕ × ℕ). p.1 < 2 ^ 32) (map place_of xs) → All (λ (said : SeenAnswer). IsAnswer said.answer) xs
      → All IsLine (flat_map (answer_lines script) xs)
  answers-plain names [] small all = All-nil IsLine
  answers-plain names (a ∷ xs) small all =
      let P : ℕ × ℕ → Type 0 = λ p. p.1 < 2 ^ 32 in
      let Q : SeenAnswer → Type 0 = λ said. IsAnswer said.answer in
      All-append IsLine (answer_lines script a) (flat_map (answer_lines script) xs)
      (answer-plain (session_name script a.session) a.number a.answer (among script.sessions a.session.0 names) (All-head P (place_of a) (map place_of xs) small) (All-head Q a xs all))
      (answers-plain names xs (All-tail P (place_of a) (map place_of xs) small) (All-tail Q a xs all))

  -- TABLES
  tables-plain : (ss : List Schema) (tables : List (List (List Value))) → All IsLine (map table_name ss) → AreTables ss tables → All IsLine (lines_of_tables ss tables)
  tables-plain [] tables names are = All-nil IsLine
  tables-plain (s ∷ ss) [] names are = All-nil IsLine
  tables-plain (s ∷ ss) (rows ∷ tables) names are =
      All-append IsLine (lines_of_table s.name rows) (lines_of_tables ss tables)
      (All-cons IsLine (table_head_text s.name (length rows)) (map table_row_text rows)
      (cat (lit (codes "table ") refl) (cat (s.name, All-head IsLine (table_name s) (map table_name ss) names) (number (length rows) are.0))).1
      (mapped (IsRowOf s) IsLine table_row_text (table-row-plain s) rows are.1))
      (tables-plain ss tables (All-tail IsLine (table_name s) (map table_name ss) names) are.2)

  pub lines-plain : (s : Seen) → All IsLine script.sessions → All IsLine (map table_name script.tables) → All (λ (p : ℕ × ℕ). p.1 < 2 ^ 32) (all_places script.lines 0 script.sessions) → IsShown script s
      → All IsLine (seen_lines script s)
  lines-plain s sessions tables small is =
      let P : List (ℕ × ℕ) → Type 0 = All (λ (p : ℕ × ℕ). p.1 < 2 ^ 32) in
      All-append IsLine (flat_map (answer_lines script) s.answers) (lines_of_tables script.tables s.tables ++ (run_line (length s.steps) ∷ flat_map (step_lines script) s.steps))
      (answers-plain sessions s.answers (subst P (sym is.whole) small) is.answers)
      (All-append IsLine (lines_of_tables script.tables s.tables) (run_line (length s.steps) ∷ flat_map (step_lines script) s.steps) (tables-plain script.tables s.tables tables is.tables)
      (All-cons IsLine (run_line (length s.steps)) (flat_map (step_lines script) s.steps) (cat (lit (codes "run") refl) (number (length s.steps) is.count)).1 (steps-plain s.steps is.steps)))
