-- The causes of refusals, with a segment's note asked for and without.
use Rattle.std.proofs.Common.{◌↔◌, Bool, true, false, IsTrue}
use Rattle.gx_ids.specs.declared.ids.Cid.{Cid}
use Rattle.gx_ids.specs.declared.ids.Gxid.{Gxid}
use Rattle.gx_store.specs.declared.answer.Refused.{Refused}
use Rattle.gx_store.specs.declared.answer.Refused.TheVariants as why
use Rattle.gx_meaning.specs.declared.fault.ArithFault.TheVariants as arith
use Rattle.gx_msg.specs.declared.reply.Cause.TheVariants as cause
use Rattle.gx_store.specs.Parts.{IsReason}
use Rattle.gx_store.specs.Points.{Point}
use Rattle.gx_store.specs.Refusals.{IsCause}
use Rattle.gx_tree.specs.declared.stmt.Level.{Level}
use Rattle.gx_tree.specs.declared.stmt.Stmt.{Stmt}
use Rattle.gx_legal.proofs.Faulting.{faulted-so}
use Rattle.gx_legal.specs.Causes.{IsCauseBy}

same : {A : Type 0} → A ↔ A
same = (λ x. x, λ x. x)

module _ (point : Point) (line : Stmt) (level : Level) (g : Gxid) (c : Cid) where
  cause-same : (reason : Refused) → IsCauseBy true point line level g c reason ↔ IsCause point line level g c reason
  cause-same (why.Serialization rid h) = same
  cause-same (why.Victim round) = same
  cause-same why.Overflow = same
  cause-same why.DivisionByZero = same
  cause-same (why.JournalFault node) = same
  cause-same why.InFailedBlock = same
  cause-same why.NotInBlock = same
  cause-same (why.Restarted node) = same

  reason-same : (reason : Refused) → IsCauseBy false point line level g c reason ↔ IsReason point line level g c reason
  reason-same (why.Serialization rid h) = same
  reason-same (why.Victim round) = same
  reason-same why.Overflow = same
  reason-same why.DivisionByZero = same
  reason-same (why.JournalFault node) = same
  reason-same why.InFailedBlock = same
  reason-same why.NotInBlock = same
  reason-same (why.Restarted node) = same

  pub cause-is : (reason : Refused) (b : Bool) → IsTrue b ↔ IsCauseBy true point line level g c reason → IsTrue b ↔ IsCause point line level g c reason
  cause-is reason b is = (λ t. (cause-same reason).0 (is.0 t), λ by. is.1 ((cause-same reason).1 by))

  pub reason-is : (reason : Refused) (b : Bool) → IsTrue b ↔ IsCauseBy false point line level g c reason → IsTrue b ↔ IsReason point line level g c reason
  reason-is reason b is = (λ t. (reason-same reason).0 (is.0 t), λ by. is.1 ((reason-same reason).1 by))

  -- a cause as a segment has noted it is one whoever has
  pub reason-of : (reason : Refused) → IsCause point line level g c reason → IsReason point line level g c reason
  reason-of (why.Serialization rid h) is = is
  reason-of (why.Victim round) is = is
  reason-of why.Overflow is = faulted-so point line level g c arith.Overflow cause.Overflow is
  reason-of why.DivisionByZero is = faulted-so point line level g c arith.DivisionByZero cause.DivisionByZero is
  reason-of (why.JournalFault node) is = is
  reason-of why.InFailedBlock is = is
  reason-of why.NotInBlock is = is
  reason-of (why.Restarted node) is = is
