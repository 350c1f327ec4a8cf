-- What is left to show of the machine for its runs to be legal histories: what the marks of segments' steps say of rows, of a
-- command that was gathered, or that a segment failed, what its answer says, and of a recheck that whom it names is cancelled.
use Rattle.std.specs.Prelude.{◌≡◌, Bool, true, List, [], ◌∷◌, ◌++◌, Some}
use Rattle.gx_ids.specs.declared.ids.Cid.{Cid}
use Rattle.gx_ids.specs.declared.ids.Gxid.{Gxid}
use Rattle.gx_ids.specs.declared.ids.Node.{Node}
use Rattle.gx_ids.specs.declared.ids.SessionId.{SessionId}
use Rattle.gx_tree.specs.declared.stmt.Level.{Level}
use Rattle.gx_tree.specs.declared.stmt.Stmt.{Stmt}
use Rattle.gx_msg.specs.declared.message.Message.TheVariants as message
use Rattle.gx_msg.specs.declared.reply.Cause.{Cause}
use Rattle.gx_msg.specs.declared.reply.Reply.TheVariants as reply
use Rattle.gx_script.specs.declared.Script.{Script}
use Rattle.gx_store.specs.declared.answer.StmtAnswer.{StmtAnswer}
use Rattle.gx_store.specs.declared.event.Event.{Event}
use Rattle.gx_store.specs.declared.mark.Mark.{Mark}
use Rattle.gx_store.specs.declared.mark.Mark.TheVariants as mark
use Rattle.gx_store.specs.declared.node.NodeEvent.{NodeEvent}
use Rattle.gx_store.specs.declared.run.Step.{Step}
use Rattle.gx_store.specs.Answers.{Tells}
use Rattle.gx_store.specs.Commands.{RunsCommand}
use Rattle.gx_store.specs.Legal.{LegalVerdict}
use Rattle.gx_store.specs.Messages.{Receives}
use Rattle.gx_store.specs.Ordered.{IsSegment}
use Rattle.gx_store.specs.Points.{Point, before, starts_by}
use Rattle.gx_store.specs.Refusals.{IsCause, the_coordinator}
use Rattle.gx_rules.specs.AtCoordinator.{reason_of}
use Rattle.gx_rules.specs.AtSegment.{seg_rule}
use Rattle.gx_rules.specs.Machine.{World, at_node, node_of, seg_can, world_of}
use Rattle.gx_law_order.specs.Gathering.{IsGathered}
use Rattle.gx_law_order.specs.Rest.{EachMark, Rest}

abbrev pub point_at : List Step → Event → List Mark → List Mark → Point
point_at steps e earlier later = record { steps = steps; event = e; earlier = earlier; later = later }

-- Behind these steps, in an event that starts no line of its session, a command that runs and was gathered tells what its answer
-- says, in its block or behind the Commit mark of its transaction; and one that a segment failed has that cause, behind the Abort
-- mark.
pub record AreCommandsTold (script : Script) (steps : List Step) : Type 0 where
  pub told : (e : Event) (later : List Mark) (session : SessionId) (stmt : Stmt) (level : Level) (g : Gxid) (c : Cid) (answer : StmtAnswer)
      → starts_by session e ≡ 0 → RunsCommand script (point_at steps e [] later) session stmt level g c
      → IsGathered script (point_at steps e [] later) g c stmt answer
      → Tells script (before (point_at steps e [] later)) level g c stmt answer
  pub committed : (e : Event) (later : List Mark) (session : SessionId) (stmt : Stmt) (level : Level) (g : Gxid) (c : Cid) (answer : StmtAnswer)
      → starts_by session e ≡ 0 → RunsCommand script (point_at steps e (mark.Commit g ∷ []) later) session stmt level g c
      → IsGathered script (point_at steps e (mark.Commit g ∷ []) later) g c stmt answer
      → Tells script (before (point_at steps e (mark.Commit g ∷ []) later)) level g c stmt answer
  pub refused : (e : Event) (later : List Mark) (session : SessionId) (stmt : Stmt) (level : Level) (g : Gxid) (c : Cid) (segment : Node)
      (cause : Cause) → starts_by session e ≡ 0 → RunsCommand script (point_at steps e (mark.Abort g ∷ []) later) session stmt level g c
      → Receives steps e segment the_coordinator (message.Answer g (reply.Failed c cause))
      → IsCause (point_at steps e (mark.Abort g ∷ []) later) stmt level g c (reason_of cause)

-- in a world of the machine, the marks of a segment's step in an event that is admitted there
abbrev pub AreSegmentsLegal : Script → World → Type 0
AreSegmentsLegal script w =
    (e : Event) (x : NodeEvent) (fails : Bool) → IsSegment script (node_of e) → at_node w e ≡ Some x → seg_can script (w.segs (node_of e).0) x ≡ true
    → EachMark (Rest script) w.steps e [] (seg_rule script (w.segs (node_of e).0) x fails).marks []

-- whoever a recheck names is cancelled in its step
abbrev pub IsVerdictLegal : Point → Mark → Type 0
IsVerdictLegal point (mark.Recheck round own verdict) = LegalVerdict point round verdict
IsVerdictLegal point _ = Unit {0}

abbrev pub AreVerdictsLegal : List Step → List Step → Type 0
AreVerdictsLegal before [] = Unit {0}
AreVerdictsLegal before (s ∷ ss) = EachMark IsVerdictLegal before s.event [] s.marks [] × AreVerdictsLegal (before ++ s ∷ []) ss

-- what is left, for every list of events
pub record IsRestShown (script : Script) : Type 0 where
  pub commands : (events : List (Event × Bool)) → AreCommandsTold script (world_of script events).steps
  pub segments : (events : List (Event × Bool)) → AreSegmentsLegal script (world_of script events)
  pub verdicts : (events : List (Event × Bool)) → AreVerdictsLegal [] (world_of script events).steps
