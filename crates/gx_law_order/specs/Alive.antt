-- Whether the command of an EXEC is still under way, and that it was.
use Rattle.std.specs.Prelude.{◌≡◌, ◌⊎◌, ℕ, Bool, true, List, [], ◌∷◌, slice_get, take, Some}
use Rattle.gx_ids.specs.declared.ids.Cid.{Cid}
use Rattle.gx_ids.specs.declared.ids.Gxid.{Gxid}
use Rattle.gx_ids.specs.declared.ids.Node.{Node}
use Rattle.gx_ids.specs.declared.ids.SessionId.{SessionId}
use Rattle.gx_tree.specs.declared.part.Part.{Part}
use Rattle.gx_tree.specs.declared.stmt.Level.{Level}
use Rattle.gx_tree.specs.declared.stmt.Stmt.{Stmt}
use Rattle.gx_msg.specs.declared.message.Message.{Message}
use Rattle.gx_msg.specs.declared.message.Message.TheVariants as message
use Rattle.gx_msg.specs.declared.reply.Reply.TheVariants as reply
use Rattle.gx_script.specs.declared.Script.{Script}
use Rattle.gx_store.specs.declared.event.Event.{Event}
use Rattle.gx_store.specs.declared.mark.Mark.{Mark}
use Rattle.gx_store.specs.declared.mark.Mark.TheVariants as mark
use Rattle.gx_store.specs.declared.run.Step.{Step}
use Rattle.gx_store.specs.Commands.{IsUnderWay}
use Rattle.gx_store.specs.Marks.{is_aborted}
use Rattle.gx_store.specs.Messages.{Receives}
use Rattle.gx_store.specs.Points.{IsPointOf, Point, marks_in, starts_by}
use Rattle.gx_store.specs.Refusals.{the_coordinator}
use Rattle.gx_rules.specs.Machine.{Letter, World}
use Rattle.gx_store.specs.Language.{AreLinesNumbered}
use Rattle.gx_law_order.specs.Scanned.{stmt_of_command}

-- marks that tell nothing of any session, snapshot or end
abbrev pub IsSilent : Mark → Type 0
IsSilent (mark.Start g s) = ⊥
IsSilent (mark.Snap g c x) = ⊥
IsSilent (mark.Commit g) = ⊥
IsSilent (mark.Abort g) = ⊥
IsSilent (mark.Answer s n a) = ⊥
IsSilent _ = Unit {0}

abbrev pub AreSilent : List Mark → Type 0
AreSilent [] = Unit {0}
AreSilent (m ∷ ms) = IsSilent m × AreSilent ms

-- a step received this message
pub record IsHeard (steps : List Step) (from : Node) (m : Message) : Type 0 where
  pub place : ℕ
  pub step : Step
  pub at : slice_get steps place ≡ Some step
  pub is : Receives (take place steps) step.event from the_coordinator m

-- the node's answer to a command was received
abbrev pub HasAnswered : (Node → Message → Type 0) → Node → Gxid → Cid → Type 0
HasAnswered Heard node g c = (wrote : Bool) × ((count : ℕ) × ((part : Part) × Heard node (message.Answer g (reply.Done c wrote count part))))

-- behind the steps, and at each point of a step that starts no line of its session and tells no session anything, the command
-- is under way, with this statement
pub record IsUnderWayBehind (script : Script) (steps : List Step) (level : Level) (g : Gxid) (c : Cid) : Type 0 where
  pub session : SessionId
  pub line : Stmt
  pub of : AreLinesNumbered [] script.lines → stmt_of_command script (marks_in steps) g c ≡ Some line
  pub runs : (e : Event) (earlier later : List Mark) → starts_by session e ≡ 0 → AreSilent earlier
      → IsUnderWay script (record { steps = steps; event = e; earlier = earlier; later = later }) session line level g c

-- The command of an EXEC that was sent to a node is under way, or the node's answer to it was received, or the transaction
-- has aborted.
abbrev pub IsAlive : Script → World → Node → Message → Type 0
IsAlive script w node (message.Exec g c level snapshot horizon slice) =
    IsUnderWayBehind script w.steps level g c ⊎ HasAnswered (IsHeard w.steps) node g c ⊎ (is_aborted (marks_in w.steps) g ≡ true)
IsAlive script w node _ = Unit {0}

abbrev pub AreAlive : Script → World → List Letter → Type 0
AreAlive script w [] = Unit {0}
AreAlive script w (l ∷ ls) = (l.from ≡ the_coordinator → IsAlive script w l.to l.envelope.message) × AreAlive script w ls

abbrev pub AreOrdersAlive : Script → World → Type 0
AreOrdersAlive script w = AreAlive script w w.sent

-- at a point of these steps the command was under way, with the statement that its number says
pub record WasUnderWay (script : Script) (steps : List Step) (g : Gxid) (c : Cid) : Type 0 where
  pub line : Stmt
  pub of : AreLinesNumbered [] script.lines → stmt_of_command script (marks_in steps) g c ≡ Some line
  pub point : Point
  pub among : IsPointOf steps point
  pub session : SessionId
  pub level : Level
  pub ran : IsUnderWay script point session line level g c

-- the command of each EXEC that the coordinator ever sent was
abbrev pub HasRun : Script → List Step → Message → Type 0
HasRun script steps (message.Exec g c level snapshot horizon slice) = WasUnderWay script steps g c
HasRun script steps _ = Unit {0}

abbrev pub HaveRun : Script → List Step → List Letter → Type 0
HaveRun script steps [] = Unit {0}
HaveRun script steps (l ∷ ls) = (l.from ≡ the_coordinator → HasRun script steps l.envelope.message) × HaveRun script steps ls

abbrev pub HaveOrdersRun : Script → World → Type 0
HaveOrdersRun script w = HaveRun script w.steps w.sent
