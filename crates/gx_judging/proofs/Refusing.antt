-- What is asked of an answer, by whether it is a refusal.
use Rattle.std.proofs.Common.{◌≡◌, ◌↔◌, Bool, IsTrue, Some, None, sym, subst}
use Rattle.gx_lemmas.proofs.Options.{some-same}
use Rattle.gx_ids.specs.declared.ids.SessionId.{SessionId}
use Rattle.gx_script.specs.declared.Script.{Script}
use Rattle.gx_store.specs.declared.answer.Refused.{Refused as Reason}
use Rattle.gx_store.specs.declared.answer.StmtAnswer.{StmtAnswer}
use Rattle.gx_store.specs.declared.answer.StmtAnswer.TheVariants.{Refused}
use Rattle.gx_store.specs.Parts.{HasCause, HasReturned}
use Rattle.gx_store.specs.Points.{Point}
use Rattle.gx_legal.specs.Answers.{refusal_in}
use Rattle.gx_judging.specs.Parts.{HasCauseFor, HasReturnedFor}

module _ (script : Script) (point : Point) (session : SessionId) where
  pub returned-some : (reply : StmtAnswer) (reason : Reason) → refusal_in reply ≡ Some reason → HasReturnedFor script point session reply
  returned-some (Refused other) reason e = tt
  returned-some reply reason e = absurd (cc)

  pub returned-none : (reply : StmtAnswer) (b : Bool) → refusal_in reply ≡ None → IsTrue b ↔ HasReturned script point session → IsTrue b ↔ HasReturnedFor script point session reply
  returned-none (Refused other) b e is = absurd (cc)
  returned-none reply b e is = is

  pub caused-some : (reply : StmtAnswer) (reason : Reason) (b : Bool) → refusal_in reply ≡ Some reason → IsTrue b ↔ HasCause script point session reason → IsTrue b ↔ HasCauseFor script point session reply
  caused-some (Refused other) reason b e is = subst (λ r. IsTrue b ↔ HasCause script point session r) (sym (some-same other reason e)) is
  caused-some reply reason b e is = absurd (cc)

  pub caused-none : (reply : StmtAnswer) → refusal_in reply ≡ None → HasCauseFor script point session reply
  caused-none (Refused other) e = absurd (cc)
  caused-none reply e = tt
