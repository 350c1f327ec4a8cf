-- A history by its coordinator and its segments: what the coordinator alone doesn't decide of a mark is what segments do of
-- rows, what they refuse, and what the answers of commands that succeeded say.
use Rattle.std.specs.Prelude.{◌≡◌, Bool, true, false, List, [], ◌∷◌, ◌++◌}
use Rattle.gx_ids.specs.declared.ids.Cid.{Cid}
use Rattle.gx_ids.specs.declared.ids.Gxid.{Gxid}
use Rattle.gx_ids.specs.declared.ids.Node.{Node}
use Rattle.gx_ids.specs.declared.ids.SessionId.{SessionId}
use Rattle.gx_tree.specs.declared.stmt.Level.{Level}
use Rattle.gx_tree.specs.declared.stmt.Stmt.{Stmt}
use Rattle.gx_script.specs.declared.Script.{Script}
use Rattle.gx_msg.specs.declared.message.Message.TheVariants as message
use Rattle.gx_msg.specs.declared.reply.Cause.{Cause}
use Rattle.gx_msg.specs.declared.reply.Reply.TheVariants as reply
use Rattle.gx_store.specs.declared.answer.Refused.{Refused}
use Rattle.gx_store.specs.declared.answer.Refused.TheVariants as refused
use Rattle.gx_store.specs.declared.answer.StmtAnswer.{StmtAnswer}
use Rattle.gx_store.specs.declared.answer.StmtAnswer.TheVariants as told
use Rattle.gx_store.specs.declared.event.Event.{Event}
use Rattle.gx_store.specs.declared.event.Event.TheVariants as event
use Rattle.gx_store.specs.declared.mark.Mark.{Mark}
use Rattle.gx_store.specs.declared.mark.Mark.TheVariants as mark
use Rattle.gx_store.specs.declared.run.Step.{Step}
use Rattle.gx_store.specs.Answers.{Tells}
use Rattle.gx_store.specs.Commands.{RunsCommand}
use Rattle.gx_store.specs.Faults.{LegalFault}
use Rattle.gx_store.specs.Journals.{is_same_node}
use Rattle.gx_store.specs.Legal.{LegalEvent, LegalVerdict}
use Rattle.gx_store.specs.Messages.{Receives}
use Rattle.gx_store.specs.Points.{Point, before}
use Rattle.gx_store.specs.Refusals.{IsCause, the_coordinator}
use Rattle.gx_store.specs.Writes.{LegalSkip, LegalWrite}
use Rattle.gx_rules.specs.AtCoordinator.{reason_of}
use Rattle.gx_law_order.specs.Gathering.{IsGathered}

-- this holds of each mark of a step at its point
abbrev pub EachMark : (Point → Mark → Type 0) → List Step → Event → List Mark → List Mark → List Mark → Type 0
EachMark P steps event earlier [] later = Unit {0}
EachMark P steps event earlier (m ∷ ms) later =
    P (record { steps = steps; event = event; earlier = earlier; later = ms ++ later }) m × EachMark P steps event (earlier ++ m ∷ []) ms later

-- the command under way at the point has done what its answer says, which is gathered from the answers of its segments
abbrev pub IsTold : Script → Point → SessionId → StmtAnswer → Type 0
IsTold script point session answer =
    (stmt : Stmt) (level : Level) (g : Gxid) (c : Cid) → RunsCommand script point session stmt level g c → IsGathered script point g c stmt answer → Tells script (before point) level g c stmt answer

-- the command under way at the point is refused for its cause, in the step that receives a segment's word of it
abbrev pub IsCaused : Script → Point → SessionId → Refused → Type 0
IsCaused script point session reason =
    (stmt : Stmt) (level : Level) (g : Gxid) (c : Cid) (segment : Node) (cause : Cause) → RunsCommand script point session stmt level g c
    → Receives point.steps point.event segment the_coordinator (message.Answer g (reply.Failed c cause))
    → reason ≡ reason_of cause → IsCause point stmt level g c reason

-- the event starts no line and ends no session
abbrev pub StartsNothing : Event → Type 0
StartsNothing (event.Start session) = ⊥
StartsNothing (event.End session) = ⊥
StartsNothing _ = Unit {0}

-- a command may go out in this event, at the coordinator: its line starts, or it has waited
abbrev pub is_going_out : Event → Bool
is_going_out (event.Start session) = true
is_going_out (event.Resume node g) = is_same_node node the_coordinator
is_going_out _ = false

abbrev pub unless : Bool → Type 0 → Type 0
unless true A = Unit {0}
unless false A = A

-- constants fault in the step in which their command goes out
abbrev pub UnlessStart : Event → Type 0 → Type 0
UnlessStart e A = unless (is_going_out e) A

abbrev pub RestRefusal : Script → Point → SessionId → Refused → Type 0
RestRefusal script point session (refused.JournalFault node) = Unit {0}
RestRefusal script point session (refused.Victim round) = Unit {0}
RestRefusal script point session refused.InFailedBlock = Unit {0}
RestRefusal script point session refused.NotInBlock = Unit {0}
RestRefusal script point session reason = UnlessStart point.event (IsCaused script point session reason)

abbrev pub RestAnswer : Script → Point → SessionId → StmtAnswer → Type 0
RestAnswer script point session told.Begin = Unit {0}
RestAnswer script point session told.Commit = Unit {0}
RestAnswer script point session told.Rollback = Unit {0}
RestAnswer script point session (told.Refused reason) = RestRefusal script point session reason
RestAnswer script point session answer = IsTold script point session answer

abbrev pub Rest : Script → Point → Mark → Type 0
Rest script point (mark.Write g c node table rid image) = LegalWrite script point g c node table rid image
Rest script point (mark.Skip g c rid) = LegalSkip script point g c rid
Rest script point (mark.Fault g c rid image) = UnlessStart point.event (LegalFault script point g c rid image)
Rest script point (mark.Answer s n a) = RestAnswer script point s a
Rest script point (mark.Recheck round own verdict) = LegalVerdict point round verdict
Rest script point _ = Unit {0}

-- the rest holds of each mark of these steps behind those before
abbrev pub AreRestLegal : Script → List Step → List Step → Type 0
AreRestLegal script before [] = Unit {0}
AreRestLegal script before (s ∷ ss) = EachMark (Rest script) before s.event [] s.marks [] × AreRestLegal script (before ++ s ∷ []) ss

-- the events of these steps may stand behind those before
abbrev pub AreEventsLegal : Script → List Step → List Step → Type 0
AreEventsLegal script before [] = Unit {0}
AreEventsLegal script before (s ∷ ss) = LegalEvent script before s.event s.marks × AreEventsLegal script (before ++ s ∷ []) ss
