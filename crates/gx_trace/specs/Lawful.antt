-- Which numbers, names, rows and marks a printed line may show: numbers of their types, names of the script, texts of one line.
use Rattle.std.specs.Prelude.{◌≡◌, ◌≢◌, ℕ, ◌^◌, ◌<◌, ℤ, pos, negsuc, List, [], ◌∷◌, length, All, Option, Some, None, slice_get}
use Rattle.gx_ids.specs.declared.ids.Cid.{Cid}
use Rattle.gx_ids.specs.declared.ids.Gxid.{Gxid}
use Rattle.gx_ids.specs.declared.ids.Node.{Node}
use Rattle.gx_ids.specs.declared.ids.SessionId.{SessionId}
use Rattle.gx_ids.specs.declared.ids.Table.{Table}
use Rattle.gx_ids.specs.declared.rid.Rid.{Rid}
use Rattle.gx_dsnap.specs.declared.snapshot.Snapshot.{Snapshot}
use Rattle.gx_tree.specs.declared.cell.Cell.{Cell}
use Rattle.gx_tree.specs.declared.cell.Cell.TheVariants as cell
use Rattle.gx_tree.specs.declared.schema.Schema.{Schema}
use Rattle.gx_tree.specs.declared.value.Value.{Value}
use Rattle.gx_tree.specs.declared.value.Value.TheVariants as value
use Rattle.gx_lex.specs.Lexing.{every}
use Rattle.gx_waits.specs.declared.edge.Edge.{Edge}
use Rattle.gx_waits.specs.declared.graph.LocalGraph.{LocalGraph}
use Rattle.gx_waits.specs.declared.object.Object.{Object}
use Rattle.gx_waits.specs.declared.object.Object.TheVariants as object
use Rattle.gx_waits.specs.declared.verdict.Verdict.{Verdict}
use Rattle.gx_waits.specs.declared.verdict.Verdict.TheVariants as verdict
use Rattle.gx_meaning.specs.Order.{in_order}
use Rattle.gx_msg.specs.MessageText.{text_of_message}
use Rattle.gx_msg.specs.declared.message.Message.{Message}
use Rattle.gx_msg.specs.declared.message.Message.TheVariants as message
use Rattle.gx_msg.specs.declared.reply.Reply.{Reply}
use Rattle.gx_msg.specs.declared.reply.Reply.TheVariants as reply
use Rattle.gx_script.specs.declared.Script.{Script}
use Rattle.gx_store.specs.Language.{table_name}
use Rattle.gx_store.specs.Limits.{is_name_byte}
use Rattle.gx_store.specs.Refusals.{the_coordinator}
use Rattle.gx_store.specs.declared.answer.Refused.{Refused}
use Rattle.gx_store.specs.declared.answer.Refused.TheVariants as refused
use Rattle.gx_store.specs.declared.answer.StmtAnswer.{StmtAnswer}
use Rattle.gx_store.specs.declared.answer.StmtAnswer.TheVariants as answer
use Rattle.gx_store.specs.declared.event.Event.{Event}
use Rattle.gx_store.specs.declared.event.Event.TheVariants as event
use Rattle.gx_store.specs.declared.mark.Mark.{Mark}
use Rattle.gx_store.specs.declared.mark.Mark.TheVariants as mark
use Rattle.gx_report.specs.LockText.{edge_order}
use Rattle.gx_trace.specs.declared.seen.SeenMark.{SeenMark}
use Rattle.gx_trace.specs.declared.seen.SeenMark.TheVariants.{Whole, Sent, Answer}

-- NUMBERS
abbrev pub IsGxid : Gxid → Type 0
IsGxid gxid = gxid.0 < 2 ^ 64

abbrev pub IsCid : Cid → Type 0
IsCid cid = cid.0 < 2 ^ 32

abbrev pub IsNode : Node → Type 0
IsNode node = node.0 < 2 ^ 8

pub record IsRid (rid : Rid) : Type 0 where
  pub gxid : IsGxid rid.gxid
  pub cid : IsCid rid.cid
  pub ordinal : rid.ordinal < 2 ^ 32

-- NAMES
-- The place is that of a name that is written in small letters, digits and underscores, and that no earlier place has. In a lawful script each
-- place of a table or a session is.
pub record IsNamed (names : List (List ℕ)) (place : ℕ) : Type 0 where
  pub name : List ℕ
  pub here : slice_get names place ≡ Some name
  pub letters : every is_name_byte name
  pub first : (earlier : ℕ) → earlier < place → slice_get names earlier ≢ Some name
  pub small : place < 2 ^ 8

abbrev pub names_of : List Schema → List (List ℕ)
names_of [] = []
names_of (s ∷ ss) = table_name s ∷ names_of ss

abbrev pub IsSession : Script → SessionId → Type 0
IsSession script session = IsNamed script.sessions session.0

abbrev pub IsTable : Script → Table → Type 0
IsTable script table = IsNamed (names_of script.tables) table.0

-- ROWS
-- a text stands on one line
abbrev pub IsLine : List ℕ → Type 0
IsLine text = All (λ byte. byte ≢ 10) text

-- of so many bits
abbrev pub IsSigned : ℕ → ℤ → Type 0
IsSigned bits (pos n) = n < 2 ^ bits
IsSigned bits (negsuc n) = n < 2 ^ bits

abbrev pub IsValue : Value → Type 0
IsValue (value.Int number) = IsSigned 63 number
IsValue (value.Text text) = IsLine text

-- a row has a value
abbrev pub IsImage : Option (List Value) → Type 0
IsImage None = Unit {0}
IsImage (Some []) = ⊥
IsImage (Some (v ∷ vs)) = All IsValue (v ∷ vs)

abbrev pub IsCell : Cell → Type 0
IsCell (cell.Int number) = IsSigned 127 number
IsCell (cell.Text text) = IsLine text
IsCell cell.Null = Unit {0}

abbrev pub IsOutRow : List Cell → Type 0
IsOutRow [] = ⊥
IsOutRow (c ∷ cs) = All IsCell (c ∷ cs)

-- ANSWERS
abbrev pub IsRefused : Refused → Type 0
IsRefused (refused.Serialization rid newer) = IsRid rid × IsGxid newer
IsRefused (refused.Victim round) = round < 2 ^ 64
IsRefused (refused.JournalFault node) = IsNode node
IsRefused (refused.Restarted segment) = IsNode segment
IsRefused _ = Unit {0}

-- counts are below 2 ^ 64
abbrev pub IsAnswer : StmtAnswer → Type 0
IsAnswer (answer.Inserted n) = n < 2 ^ 64
IsAnswer (answer.Updated n) = n < 2 ^ 64
IsAnswer (answer.Deleted n) = n < 2 ^ 64
IsAnswer (answer.Rows rows) = (length rows < 2 ^ 64) × All IsOutRow rows
IsAnswer (answer.Refused why) = IsRefused why
IsAnswer _ = Unit {0}

-- EVENTS
abbrev pub IsEvent : Script → Event → Type 0
IsEvent script (event.Receive from to number) = IsNode from × IsNode to × (number < 2 ^ 64)
IsEvent script (event.Resume node gxid) = IsNode node × IsGxid gxid
IsEvent script (event.Start session) = IsSession script session
IsEvent script (event.End session) = IsSession script session
IsEvent script (event.Resend segment (Some gxid)) = IsNode segment × IsGxid gxid
IsEvent script (event.Resend segment None) = IsNode segment
IsEvent script event.Round = Unit {0}
IsEvent script (event.Restart segment) = IsNode segment

-- MARKS
-- its own conditions (who runs rises, below its bounds) are the type's
abbrev pub IsSnapshot : Snapshot → Type 0
IsSnapshot snapshot = IsGxid snapshot.xmin × IsGxid snapshot.xmax × All IsGxid snapshot.running

abbrev pub IsObject : Script → Object → Type 0
IsObject script (object.Relation table) = IsTable script table
IsObject script (object.Tuple rid) = IsRid rid
IsObject script (object.Transaction gxid) = IsGxid gxid

abbrev pub IsEdge : Edge → Type 0
IsEdge edge = IsGxid edge.waiter × IsGxid edge.holder

-- a node's graph, whose edges stand as they are printed: by waiter, then by holder, and solid before dotted
pub record IsGraph (node : Node) (graph : LocalGraph) : Type 0 where
  pub here : graph.node ≡ node
  pub edges : All IsEdge graph.edges
  pub order : in_order edge_order graph.edges ≡ graph.edges

abbrev pub IsVerdict : Verdict → Type 0
IsVerdict verdict.Nothing = Unit {0}
IsVerdict (verdict.Dropped gxid) = IsGxid gxid
IsVerdict (verdict.Victims gxids) = All IsGxid gxids

abbrev pub IsReply : Reply → Type 0
IsReply (reply.Done cid wrote count part) = IsCid cid
IsReply (reply.Failed cid cause) = IsCid cid
IsReply _ = Unit {0}

-- the numbers of a message that are printed
abbrev pub IsMessage : Message → Type 0
IsMessage (message.Exec gxid cid level snapshot horizon slice) = IsGxid gxid × IsCid cid
IsMessage (message.Prepare gxid) = IsGxid gxid
IsMessage (message.Commit gxid) = IsGxid gxid
IsMessage (message.CommitPrepared gxid) = IsGxid gxid
IsMessage (message.Abort gxid) = IsGxid gxid
IsMessage (message.Forget gxid) = IsGxid gxid
IsMessage (message.Collect round) = round < 2 ^ 64
IsMessage (message.Answer gxid reply) = IsGxid gxid × IsReply reply
IsMessage (message.Graph round graph) = round < 2 ^ 64
IsMessage message.Up = Unit {0}

-- a message's name and numbers, as printed
abbrev pub IsMessageText : List ℕ → Type 0
IsMessageText text = (m : Message) × IsMessage m × (text ≡ text_of_message m)

-- a lock's mark
abbrev pub IsLockMark : Script → Node → Gxid → Object → Type 0
IsLockMark script node gxid object = IsNode node × IsGxid gxid × IsObject script object

-- a mark that is shown whole; reports are those of segments, since the coordinator's own graph is a part of its recheck
abbrev pub IsWhole : Script → Mark → Type 0
IsWhole script (mark.Start gxid session) = IsGxid gxid × IsSession script session
IsWhole script (mark.Snap gxid cid snapshot) = IsGxid gxid × IsCid cid × IsSnapshot snapshot
IsWhole script (mark.Write gxid cid node table rid image) = IsGxid gxid × IsCid cid × IsNode node × IsTable script table × IsRid rid × IsImage image
IsWhole script (mark.Skip gxid cid rid) = IsGxid gxid × IsCid cid × IsRid rid
IsWhole script (mark.Fault gxid cid rid image) = IsGxid gxid × IsCid cid × IsRid rid × IsImage image
IsWhole script (mark.Commit gxid) = IsGxid gxid
IsWhole script (mark.Abort gxid) = IsGxid gxid
IsWhole script (mark.Answer session number said) = ⊥
IsWhole script (mark.Hold node gxid object mode) = IsLockMark script node gxid object
IsWhole script (mark.Wait node gxid object mode) = IsLockMark script node gxid object
IsWhole script (mark.Release node gxid object mode) = IsLockMark script node gxid object
IsWhole script (mark.Prepared node gxid) = IsNode node × IsGxid gxid
IsWhole script (mark.LocalCommit node gxid) = IsNode node × IsGxid gxid
IsWhole script (mark.Decided gxid) = IsGxid gxid
IsWhole script (mark.JournalFailed node gxid) = IsNode node × IsGxid gxid
IsWhole script (mark.Restart node) = IsNode node
IsWhole script (mark.Sent to number message) = ⊥
IsWhole script (mark.Report node round graph) = IsNode node × (node ≢ the_coordinator) × (round < 2 ^ 64) × IsGraph node graph
IsWhole script (mark.Recheck round own verdict) = (round < 2 ^ 64) × IsGraph the_coordinator own × IsVerdict verdict

abbrev pub IsSeenMark : Script → SeenMark → Type 0
IsSeenMark script (Whole mark) = IsWhole script mark
IsSeenMark script (Sent to number message) = IsNode to × (number < 2 ^ 64) × IsMessageText message
IsSeenMark script (Answer session number) = IsSession script session × (number < 2 ^ 32)
