-- A command that has gone out holds its table at the coordinator until it is answered.
use Rattle.std.specs.Prelude.{◌≡◌, ◌⊎◌, true, false, List, [], ◌∷◌, ◌++◌, Some}
use Rattle.std.specs.List.{list_any}
use Rattle.gx_ids.specs.declared.ids.Cid.{Cid}
use Rattle.gx_ids.specs.declared.ids.Gxid.{Gxid}
use Rattle.gx_ids.specs.declared.ids.SessionId.{SessionId}
use Rattle.gx_tree.specs.declared.stmt.Level.{Level}
use Rattle.gx_tree.specs.declared.stmt.Stmt.{Stmt}
use Rattle.gx_waits.specs.Claim.{same_claim}
use Rattle.gx_waits.specs.declared.claim.Claim.{Claim}
use Rattle.gx_msg.specs.declared.message.Message.{Message}
use Rattle.gx_msg.specs.declared.message.Message.TheVariants as message
use Rattle.gx_script.specs.declared.Script.{Script}
use Rattle.gx_store.specs.declared.event.Event.{Event}
use Rattle.gx_store.specs.declared.mark.Mark.{Mark}
use Rattle.gx_store.specs.declared.mark.Mark.TheVariants.{Answer, Release, Sent, Start}
use Rattle.gx_store.specs.declared.run.Step.{Step}
use Rattle.gx_store.specs.Commands.{RunsCommand}
use Rattle.gx_store.specs.Locks.{HoldsAtAnswer, HoldsTable, LocksWhileReading, table_lock}
use Rattle.gx_store.specs.Marks.{is_same_gxid, is_same_session, is_snapped}
use Rattle.gx_store.specs.Points.{Point, marks_in, starts_by}
use Rattle.gx_store.specs.Refusals.{the_coordinator}
use Rattle.gx_store.specs.Waits.{waits_at}
use Rattle.gx_law_order.specs.Rest.{EachMark}

-- the mark starts or answers no line of the session, and gives back nothing of the transaction
abbrev pub LeavesAlone : SessionId → Gxid → Mark → Type 0
LeavesAlone session g (Start h s) = is_same_session s session ≡ false
LeavesAlone session g (Answer s number answer) = is_same_session s session ≡ false
LeavesAlone session g (Release n h object mode) = is_same_gxid g h ≡ false
LeavesAlone session g _ = Unit {0}

abbrev pub AreLeftAlone : SessionId → Gxid → List Mark → Type 0
AreLeftAlone session g [] = Unit {0}
AreLeftAlone session g (m ∷ ms) = LeavesAlone session g m × AreLeftAlone session g ms

-- the transaction waits at the coordinator for the lock that the statement takes on its table
pub record AwaitsTable (script : Script) (marks : List Mark) (g : Gxid) (line : Stmt) : Type 0 where
  pub wanted : Claim
  pub takes : table_lock script g line ≡ Some wanted
  pub stands : list_any (same_claim wanted) (waits_at marks the_coordinator) ≡ true

-- the message is no sending of the command
abbrev pub IsOther : Gxid → Cid → Message → Type 0
IsOther g c (message.Exec h d level snapshot horizon slice) = (h ≡ g) × (d ≡ c) → ⊥
IsOther g c _ = Unit {0}

-- none of these marks sends it
abbrev pub AreUnsent : Gxid → Cid → List Mark → Type 0
AreUnsent g c [] = Unit {0}
AreUnsent g c (Sent to number told ∷ ms) = IsOther g c told × AreUnsent g c ms
AreUnsent g c (m ∷ ms) = Unit {0} × AreUnsent g c ms

-- it hasn't gone out: it has no snapshot of its own, and was sent to nobody
pub record HasNotGoneOut (marks : List Mark) (g : Gxid) (c : Cid) : Type 0 where
  pub unsnapped : is_snapped marks g c ≡ false
  pub unsent : AreUnsent g c marks

-- Behind the steps, and at each point of a step that starts no line of its session, before the marks of its own answer and what
-- it gives back, the command under way holds its table, or it waits for it and hadn't gone out before the step. (That it always
-- holds it is true only where nobody waits.) At its own answer's point a command that succeeds holds it.
abbrev pub DoCommandsHold : Script → List Step → Type 0
DoCommandsHold script steps =
    (event : Event) (earlier later : List Mark) (session : SessionId) (line : Stmt) (level : Level) (g : Gxid) (c : Cid)
    → starts_by session event ≡ 0 → AreLeftAlone session g earlier
    → RunsCommand script (record { steps = steps; event = event; earlier = earlier; later = later }) session line level g c
    → HoldsTable script (marks_in steps ++ earlier) g line ⊎ (AwaitsTable script (marks_in steps ++ earlier) g line × HasNotGoneOut (marks_in steps) g c)

-- a command that succeeds holds its table at its answer's point
abbrev pub AnswerHolds : Script → Point → Mark → Type 0
AnswerHolds script point (Answer session number answer) = HoldsAtAnswer script point session answer
AnswerHolds script point _ = Unit {0}

abbrev pub AreAnswersHeld : Script → List Step → List Step → Type 0
AreAnswersHeld script before [] = Unit {0}
AreAnswersHeld script before (s ∷ ss) = EachMark (AnswerHolds script) before s.event [] s.marks [] × AreAnswersHeld script (before ++ s ∷ []) ss

-- at each point of a step, also behind its last mark
abbrev pub EachPoint : (Point → Type 0) → List Step → Event → List Mark → List Mark → Type 0
EachPoint P steps event earlier [] = P (record { steps = steps; event = event; earlier = earlier; later = [] })
EachPoint P steps event earlier (m ∷ ms) = P (record { steps = steps; event = event; earlier = earlier; later = ms }) × EachPoint P steps event (earlier ++ m ∷ []) ms

-- from its own snapshot, or from its first sending, to its answer, a command holds its table
abbrev pub AreReadsHeld : Script → List Step → List Step → Type 0
AreReadsHeld script before [] = Unit {0}
AreReadsHeld script before (s ∷ ss) = EachPoint (LocksWhileReading script) before s.event [] s.marks × AreReadsHeld script (before ++ s ∷ []) ss
