-- What is legal of a mark is its four parts together.
use Rattle.std.proofs.Common.{◌≡◌, ◌↔◌, ℕ, Bool, true, false, IsTrue, Some, None, refl, sym, ◌∙◌, subst}
use Rattle.gx_ids.specs.declared.ids.Gxid.{Gxid}
use Rattle.gx_ids.specs.declared.ids.Node.{Node}
use Rattle.gx_ids.specs.declared.ids.SessionId.{SessionId}
use Rattle.gx_lemmas.proofs.Options.{some-same}
use Rattle.gx_script.specs.declared.Script.{Script}
use Rattle.gx_store.specs.declared.answer.Refused.{Refused as Reason}
use Rattle.gx_store.specs.declared.answer.Refused.TheVariants.{InFailedBlock, NotInBlock}
use Rattle.gx_store.specs.declared.answer.StmtAnswer.{StmtAnswer}
use Rattle.gx_store.specs.declared.answer.StmtAnswer.TheVariants.{Begin, Commit, Rollback, Refused}
use Rattle.gx_store.specs.declared.mark.Mark.{Mark}
use Rattle.gx_store.specs.declared.mark.Mark.TheVariants as mark
use Rattle.gx_store.specs.Answers.{GoesTo, IsAnswer, IsDone}
use Rattle.gx_store.specs.Commands.{RunsLine, state_at}
use Rattle.gx_store.specs.Legal.{LegalAnswer, LegalMark}
use Rattle.gx_store.specs.Lines.{BlockState, Failed, InBlock, Outside, cid_of, is_command, level_of, transaction_of}
use Rattle.gx_store.specs.Parts.{HasCause, HasReturned, HasSucceeded, IsAnswerBeside, IsAnswerRefused, IsLegalBeside, IsLegalRefusal, IsLegalRefused, IsLegalReply, IsLegalRow, IsLegalStatement, IsRefused, IsRefusedFor, IsReply}
use Rattle.gx_store.specs.Points.{Point, before}
use Rattle.gx_store.specs.Protocol.{IsReturned}
use Rattle.gx_store.specs.Refusals.{IsCause, IsRefusal, may_refuse}
use Rattle.gx_tree.specs.declared.stmt.Stmt.{Stmt}
use Rattle.gx_tree.specs.declared.stmt.Stmt.TheVariants as stmt
use Rattle.gx_legal.specs.Answers.{is_refusal, refusal_in}
use Rattle.gx_legal.proofs.Reasons.{reason-of}

module _ (script : Script) (point : Point) (session : SessionId) where
  -- where the session stands so and its line is this one
  abbrev Back : BlockState → Stmt → Type 0
  Back state line = is_command state line ≡ true → (g : Gxid) → transaction_of state session (before point) ≡ Some g → (node : Node) → GoesTo script g (cid_of state) line node → IsReturned point g (cid_of state) node

  abbrev Caused : BlockState → Stmt → Reason → Type 0
  Caused state line reason = may_refuse state line reason ≡ true → (g : Gxid) → transaction_of state session (before point) ≡ Some g → IsCause point line (level_of state) g (cid_of state) reason

  -- AN ANSWER THAT IS NO REFUSAL
  abbrev IsBackFor : BlockState → Stmt → StmtAnswer → Type 0
  IsBackFor state line (Refused reason) = Unit {0}
  IsBackFor state line reply = Back state line

  done-back : (state : BlockState) (line : Stmt) (reply : StmtAnswer) → IsDone script point session state line reply → Back state line
  done-back state line reply done command g transaction = subst (λ h. (node : Node) → GoesTo script h (cid_of state) line node → IsReturned point h (cid_of state) node) (some-same done.g g (sym done.transaction ∙ transaction)) done.back

  done-succeeded : (state : BlockState) (line : Stmt) (reply : StmtAnswer) → IsDone script point session state line reply → HasSucceeded script point session state line reply
  done-succeeded state line reply done = record { command = done.command; g = done.g; transaction = done.transaction; end = done.end; told = done.told }

  succeeded-done : (state : BlockState) (line : Stmt) (reply : StmtAnswer) → HasSucceeded script point session state line reply → Back state line → IsDone script point session state line reply
  succeeded-done state line reply has back = record { command = has.command; g = has.g; transaction = has.transaction; end = has.end; told = has.told; back = back has.command has.g has.transaction }

  reply-of : (state : BlockState) (line : Stmt) (reply : StmtAnswer) → IsAnswer script point session state line reply → IsReply script point session state line reply
  reply-of state line (Refused reason) h = tt
  reply-of Outside (stmt.Begin l) Begin h = h
  reply-of Outside (stmt.Begin l) reply h = done-succeeded Outside (stmt.Begin l) reply h
  reply-of Outside stmt.Commit Commit h = h
  reply-of Outside stmt.Commit reply h = done-succeeded Outside stmt.Commit reply h
  reply-of Outside stmt.Rollback Rollback h = h
  reply-of Outside stmt.Rollback reply h = done-succeeded Outside stmt.Rollback reply h
  reply-of Outside (stmt.Select query) reply h = done-succeeded Outside (stmt.Select query) reply h
  reply-of Outside (stmt.Insert table tuples) reply h = done-succeeded Outside (stmt.Insert table tuples) reply h
  reply-of Outside (stmt.Update table assigns found) reply h = done-succeeded Outside (stmt.Update table assigns found) reply h
  reply-of Outside (stmt.Delete table found) reply h = done-succeeded Outside (stmt.Delete table found) reply h
  reply-of Outside (stmt.Lock table mode) reply h = done-succeeded Outside (stmt.Lock table mode) reply h
  reply-of (InBlock level commands) (stmt.Begin l) Begin h = h
  reply-of (InBlock level commands) (stmt.Begin l) reply h = done-succeeded (InBlock level commands) (stmt.Begin l) reply h
  reply-of (InBlock level commands) stmt.Commit Commit h = h
  reply-of (InBlock level commands) stmt.Commit reply h = done-succeeded (InBlock level commands) stmt.Commit reply h
  reply-of (InBlock level commands) stmt.Rollback Rollback h = h
  reply-of (InBlock level commands) stmt.Rollback reply h = done-succeeded (InBlock level commands) stmt.Rollback reply h
  reply-of (InBlock level commands) (stmt.Select query) reply h = done-succeeded (InBlock level commands) (stmt.Select query) reply h
  reply-of (InBlock level commands) (stmt.Insert table tuples) reply h = done-succeeded (InBlock level commands) (stmt.Insert table tuples) reply h
  reply-of (InBlock level commands) (stmt.Update table assigns found) reply h = done-succeeded (InBlock level commands) (stmt.Update table assigns found) reply h
  reply-of (InBlock level commands) (stmt.Delete table found) reply h = done-succeeded (InBlock level commands) (stmt.Delete table found) reply h
  reply-of (InBlock level commands) (stmt.Lock table mode) reply h = done-succeeded (InBlock level commands) (stmt.Lock table mode) reply h
  reply-of Failed (stmt.Begin l) reply h = absurd h
  reply-of Failed stmt.Commit Rollback h = h
  reply-of Failed stmt.Commit reply h = absurd h
  reply-of Failed stmt.Rollback Rollback h = h
  reply-of Failed stmt.Rollback reply h = absurd h
  reply-of Failed (stmt.Select query) reply h = absurd h
  reply-of Failed (stmt.Insert table tuples) reply h = absurd h
  reply-of Failed (stmt.Update table assigns found) reply h = absurd h
  reply-of Failed (stmt.Delete table found) reply h = absurd h
  reply-of Failed (stmt.Lock table mode) reply h = absurd h

  back-of : (state : BlockState) (line : Stmt) (reply : StmtAnswer) → IsAnswer script point session state line reply → IsBackFor state line reply
  back-of state line (Refused reason) h = tt
  back-of Outside (stmt.Begin l) Begin h = λ command. absurd (cc)
  back-of Outside (stmt.Begin l) reply h = done-back Outside (stmt.Begin l) reply h
  back-of Outside stmt.Commit Commit h = λ command. absurd (cc)
  back-of Outside stmt.Commit reply h = done-back Outside stmt.Commit reply h
  back-of Outside stmt.Rollback Rollback h = λ command. absurd (cc)
  back-of Outside stmt.Rollback reply h = done-back Outside stmt.Rollback reply h
  back-of Outside (stmt.Select query) reply h = done-back Outside (stmt.Select query) reply h
  back-of Outside (stmt.Insert table tuples) reply h = done-back Outside (stmt.Insert table tuples) reply h
  back-of Outside (stmt.Update table assigns found) reply h = done-back Outside (stmt.Update table assigns found) reply h
  back-of Outside (stmt.Delete table found) reply h = done-back Outside (stmt.Delete table found) reply h
  back-of Outside (stmt.Lock table mode) reply h = done-back Outside (stmt.Lock table mode) reply h
  back-of (InBlock level commands) (stmt.Begin l) Begin h = λ command. absurd (cc)
  back-of (InBlock level commands) (stmt.Begin l) reply h = done-back (InBlock level commands) (stmt.Begin l) reply h
  back-of (InBlock level commands) stmt.Commit Commit h = λ command. absurd (cc)
  back-of (InBlock level commands) stmt.Commit reply h = done-back (InBlock level commands) stmt.Commit reply h
  back-of (InBlock level commands) stmt.Rollback Rollback h = λ command. absurd (cc)
  back-of (InBlock level commands) stmt.Rollback reply h = done-back (InBlock level commands) stmt.Rollback reply h
  back-of (InBlock level commands) (stmt.Select query) reply h = done-back (InBlock level commands) (stmt.Select query) reply h
  back-of (InBlock level commands) (stmt.Insert table tuples) reply h = done-back (InBlock level commands) (stmt.Insert table tuples) reply h
  back-of (InBlock level commands) (stmt.Update table assigns found) reply h = done-back (InBlock level commands) (stmt.Update table assigns found) reply h
  back-of (InBlock level commands) (stmt.Delete table found) reply h = done-back (InBlock level commands) (stmt.Delete table found) reply h
  back-of (InBlock level commands) (stmt.Lock table mode) reply h = done-back (InBlock level commands) (stmt.Lock table mode) reply h
  back-of Failed (stmt.Begin l) reply h = absurd h
  back-of Failed stmt.Commit Rollback h = λ command. absurd (cc)
  back-of Failed stmt.Commit reply h = absurd h
  back-of Failed stmt.Rollback Rollback h = λ command. absurd (cc)
  back-of Failed stmt.Rollback reply h = absurd h
  back-of Failed (stmt.Select query) reply h = absurd h
  back-of Failed (stmt.Insert table tuples) reply h = absurd h
  back-of Failed (stmt.Update table assigns found) reply h = absurd h
  back-of Failed (stmt.Delete table found) reply h = absurd h
  back-of Failed (stmt.Lock table mode) reply h = absurd h

  reply-answers : (state : BlockState) (line : Stmt) (reply : StmtAnswer) → is_refusal reply ≡ false → IsReply script point session state line reply → Back state line → IsAnswer script point session state line reply
  reply-answers state line (Refused reason) plain h back = absurd (cc)
  reply-answers Outside (stmt.Begin l) Begin plain h back = h
  reply-answers Outside (stmt.Begin l) reply plain h back = succeeded-done Outside (stmt.Begin l) reply h back
  reply-answers Outside stmt.Commit Commit plain h back = h
  reply-answers Outside stmt.Commit reply plain h back = succeeded-done Outside stmt.Commit reply h back
  reply-answers Outside stmt.Rollback Rollback plain h back = h
  reply-answers Outside stmt.Rollback reply plain h back = succeeded-done Outside stmt.Rollback reply h back
  reply-answers Outside (stmt.Select query) reply plain h back = succeeded-done Outside (stmt.Select query) reply h back
  reply-answers Outside (stmt.Insert table tuples) reply plain h back = succeeded-done Outside (stmt.Insert table tuples) reply h back
  reply-answers Outside (stmt.Update table assigns found) reply plain h back = succeeded-done Outside (stmt.Update table assigns found) reply h back
  reply-answers Outside (stmt.Delete table found) reply plain h back = succeeded-done Outside (stmt.Delete table found) reply h back
  reply-answers Outside (stmt.Lock table mode) reply plain h back = succeeded-done Outside (stmt.Lock table mode) reply h back
  reply-answers (InBlock level commands) (stmt.Begin l) Begin plain h back = h
  reply-answers (InBlock level commands) (stmt.Begin l) reply plain h back = succeeded-done (InBlock level commands) (stmt.Begin l) reply h back
  reply-answers (InBlock level commands) stmt.Commit Commit plain h back = h
  reply-answers (InBlock level commands) stmt.Commit reply plain h back = succeeded-done (InBlock level commands) stmt.Commit reply h back
  reply-answers (InBlock level commands) stmt.Rollback Rollback plain h back = h
  reply-answers (InBlock level commands) stmt.Rollback reply plain h back = succeeded-done (InBlock level commands) stmt.Rollback reply h back
  reply-answers (InBlock level commands) (stmt.Select query) reply plain h back = succeeded-done (InBlock level commands) (stmt.Select query) reply h back
  reply-answers (InBlock level commands) (stmt.Insert table tuples) reply plain h back = succeeded-done (InBlock level commands) (stmt.Insert table tuples) reply h back
  reply-answers (InBlock level commands) (stmt.Update table assigns found) reply plain h back = succeeded-done (InBlock level commands) (stmt.Update table assigns found) reply h back
  reply-answers (InBlock level commands) (stmt.Delete table found) reply plain h back = succeeded-done (InBlock level commands) (stmt.Delete table found) reply h back
  reply-answers (InBlock level commands) (stmt.Lock table mode) reply plain h back = succeeded-done (InBlock level commands) (stmt.Lock table mode) reply h back
  reply-answers Failed (stmt.Begin l) reply plain h back = absurd h
  reply-answers Failed stmt.Commit Rollback plain h back = h
  reply-answers Failed stmt.Commit reply plain h back = absurd h
  reply-answers Failed stmt.Rollback Rollback plain h back = h
  reply-answers Failed stmt.Rollback reply plain h back = absurd h
  reply-answers Failed (stmt.Select query) reply plain h back = absurd h
  reply-answers Failed (stmt.Insert table tuples) reply plain h back = absurd h
  reply-answers Failed (stmt.Update table assigns found) reply plain h back = absurd h
  reply-answers Failed (stmt.Delete table found) reply plain h back = absurd h
  reply-answers Failed (stmt.Lock table mode) reply plain h back = absurd h

  -- A REFUSAL
  refusal-caused : (state : BlockState) (line : Stmt) (reason : Reason) → IsRefusal script point session state line reason → Caused state line reason
  refusal-caused state line reason is may g transaction = subst (λ h. IsCause point line (level_of state) h (cid_of state) reason) (some-same is.g g (sym is.transaction ∙ transaction)) is.cause

  refusal-for : (state : BlockState) (line : Stmt) (reason : Reason) → IsRefusal script point session state line reason → IsRefusedFor point session state line reason
  refusal-for state line reason is = record { kind = is.kind; g = is.g; transaction = is.transaction; aborted = is.aborted; why = reason-of point line (level_of state) is.g (cid_of state) reason is.cause }

  for-refusal : (state : BlockState) (line : Stmt) (reason : Reason) → IsRefusedFor point session state line reason → Caused state line reason → IsRefusal script point session state line reason
  for-refusal state line reason is caused = record { kind = is.kind; g = is.g; transaction = is.transaction; aborted = is.aborted; cause = caused is.kind is.g is.transaction }

  refused-of : (state : BlockState) (line : Stmt) (reason : Reason) → IsAnswer script point session state line (Refused reason) → IsRefused point session state line reason
  refused-of Outside (stmt.Begin l) reason h = refusal-for Outside (stmt.Begin l) reason h
  refused-of Outside stmt.Commit reason h = refusal-for Outside stmt.Commit reason h
  refused-of Outside stmt.Rollback reason h = refusal-for Outside stmt.Rollback reason h
  refused-of Outside (stmt.Select query) reason h = refusal-for Outside (stmt.Select query) reason h
  refused-of Outside (stmt.Insert table tuples) reason h = refusal-for Outside (stmt.Insert table tuples) reason h
  refused-of Outside (stmt.Update table assigns found) reason h = refusal-for Outside (stmt.Update table assigns found) reason h
  refused-of Outside (stmt.Delete table found) reason h = refusal-for Outside (stmt.Delete table found) reason h
  refused-of Outside (stmt.Lock table mode) NotInBlock h = h
  refused-of Outside (stmt.Lock table mode) reason h = refusal-for Outside (stmt.Lock table mode) reason h
  refused-of (InBlock level commands) (stmt.Begin l) reason h = refusal-for (InBlock level commands) (stmt.Begin l) reason h
  refused-of (InBlock level commands) stmt.Commit reason h = refusal-for (InBlock level commands) stmt.Commit reason h
  refused-of (InBlock level commands) stmt.Rollback reason h = refusal-for (InBlock level commands) stmt.Rollback reason h
  refused-of (InBlock level commands) (stmt.Select query) reason h = refusal-for (InBlock level commands) (stmt.Select query) reason h
  refused-of (InBlock level commands) (stmt.Insert table tuples) reason h = refusal-for (InBlock level commands) (stmt.Insert table tuples) reason h
  refused-of (InBlock level commands) (stmt.Update table assigns found) reason h = refusal-for (InBlock level commands) (stmt.Update table assigns found) reason h
  refused-of (InBlock level commands) (stmt.Delete table found) reason h = refusal-for (InBlock level commands) (stmt.Delete table found) reason h
  refused-of (InBlock level commands) (stmt.Lock table mode) reason h = refusal-for (InBlock level commands) (stmt.Lock table mode) reason h
  refused-of Failed (stmt.Begin l) InFailedBlock h = h
  refused-of Failed (stmt.Begin l) reason h = absurd h
  refused-of Failed stmt.Commit reason h = absurd h
  refused-of Failed stmt.Rollback reason h = absurd h
  refused-of Failed (stmt.Select query) InFailedBlock h = h
  refused-of Failed (stmt.Select query) reason h = absurd h
  refused-of Failed (stmt.Insert table tuples) InFailedBlock h = h
  refused-of Failed (stmt.Insert table tuples) reason h = absurd h
  refused-of Failed (stmt.Update table assigns found) InFailedBlock h = h
  refused-of Failed (stmt.Update table assigns found) reason h = absurd h
  refused-of Failed (stmt.Delete table found) InFailedBlock h = h
  refused-of Failed (stmt.Delete table found) reason h = absurd h
  refused-of Failed (stmt.Lock table mode) InFailedBlock h = h
  refused-of Failed (stmt.Lock table mode) reason h = absurd h

  caused-of : (state : BlockState) (line : Stmt) (reason : Reason) → IsAnswer script point session state line (Refused reason) → Caused state line reason
  caused-of Outside (stmt.Begin l) reason h = refusal-caused Outside (stmt.Begin l) reason h
  caused-of Outside stmt.Commit reason h = refusal-caused Outside stmt.Commit reason h
  caused-of Outside stmt.Rollback reason h = refusal-caused Outside stmt.Rollback reason h
  caused-of Outside (stmt.Select query) reason h = refusal-caused Outside (stmt.Select query) reason h
  caused-of Outside (stmt.Insert table tuples) reason h = refusal-caused Outside (stmt.Insert table tuples) reason h
  caused-of Outside (stmt.Update table assigns found) reason h = refusal-caused Outside (stmt.Update table assigns found) reason h
  caused-of Outside (stmt.Delete table found) reason h = refusal-caused Outside (stmt.Delete table found) reason h
  caused-of Outside (stmt.Lock table mode) NotInBlock h = λ may. absurd (cc)
  caused-of Outside (stmt.Lock table mode) reason h = refusal-caused Outside (stmt.Lock table mode) reason h
  caused-of (InBlock level commands) (stmt.Begin l) reason h = refusal-caused (InBlock level commands) (stmt.Begin l) reason h
  caused-of (InBlock level commands) stmt.Commit reason h = refusal-caused (InBlock level commands) stmt.Commit reason h
  caused-of (InBlock level commands) stmt.Rollback reason h = refusal-caused (InBlock level commands) stmt.Rollback reason h
  caused-of (InBlock level commands) (stmt.Select query) reason h = refusal-caused (InBlock level commands) (stmt.Select query) reason h
  caused-of (InBlock level commands) (stmt.Insert table tuples) reason h = refusal-caused (InBlock level commands) (stmt.Insert table tuples) reason h
  caused-of (InBlock level commands) (stmt.Update table assigns found) reason h = refusal-caused (InBlock level commands) (stmt.Update table assigns found) reason h
  caused-of (InBlock level commands) (stmt.Delete table found) reason h = refusal-caused (InBlock level commands) (stmt.Delete table found) reason h
  caused-of (InBlock level commands) (stmt.Lock table mode) reason h = refusal-caused (InBlock level commands) (stmt.Lock table mode) reason h
  caused-of Failed (stmt.Begin l) InFailedBlock h = λ may. absurd (cc)
  caused-of Failed (stmt.Begin l) reason h = absurd h
  caused-of Failed stmt.Commit reason h = absurd h
  caused-of Failed stmt.Rollback reason h = absurd h
  caused-of Failed (stmt.Select query) InFailedBlock h = λ may. absurd (cc)
  caused-of Failed (stmt.Select query) reason h = absurd h
  caused-of Failed (stmt.Insert table tuples) InFailedBlock h = λ may. absurd (cc)
  caused-of Failed (stmt.Insert table tuples) reason h = absurd h
  caused-of Failed (stmt.Update table assigns found) InFailedBlock h = λ may. absurd (cc)
  caused-of Failed (stmt.Update table assigns found) reason h = absurd h
  caused-of Failed (stmt.Delete table found) InFailedBlock h = λ may. absurd (cc)
  caused-of Failed (stmt.Delete table found) reason h = absurd h
  caused-of Failed (stmt.Lock table mode) InFailedBlock h = λ may. absurd (cc)
  caused-of Failed (stmt.Lock table mode) reason h = absurd h

  refused-answers : (state : BlockState) (line : Stmt) (reason : Reason) → IsRefused point session state line reason → Caused state line reason → IsAnswer script point session state line (Refused reason)
  refused-answers Outside (stmt.Begin l) reason h caused = for-refusal Outside (stmt.Begin l) reason h caused
  refused-answers Outside stmt.Commit reason h caused = for-refusal Outside stmt.Commit reason h caused
  refused-answers Outside stmt.Rollback reason h caused = for-refusal Outside stmt.Rollback reason h caused
  refused-answers Outside (stmt.Select query) reason h caused = for-refusal Outside (stmt.Select query) reason h caused
  refused-answers Outside (stmt.Insert table tuples) reason h caused = for-refusal Outside (stmt.Insert table tuples) reason h caused
  refused-answers Outside (stmt.Update table assigns found) reason h caused = for-refusal Outside (stmt.Update table assigns found) reason h caused
  refused-answers Outside (stmt.Delete table found) reason h caused = for-refusal Outside (stmt.Delete table found) reason h caused
  refused-answers Outside (stmt.Lock table mode) NotInBlock h caused = h
  refused-answers Outside (stmt.Lock table mode) reason h caused = for-refusal Outside (stmt.Lock table mode) reason h caused
  refused-answers (InBlock level commands) (stmt.Begin l) reason h caused = for-refusal (InBlock level commands) (stmt.Begin l) reason h caused
  refused-answers (InBlock level commands) stmt.Commit reason h caused = for-refusal (InBlock level commands) stmt.Commit reason h caused
  refused-answers (InBlock level commands) stmt.Rollback reason h caused = for-refusal (InBlock level commands) stmt.Rollback reason h caused
  refused-answers (InBlock level commands) (stmt.Select query) reason h caused = for-refusal (InBlock level commands) (stmt.Select query) reason h caused
  refused-answers (InBlock level commands) (stmt.Insert table tuples) reason h caused = for-refusal (InBlock level commands) (stmt.Insert table tuples) reason h caused
  refused-answers (InBlock level commands) (stmt.Update table assigns found) reason h caused = for-refusal (InBlock level commands) (stmt.Update table assigns found) reason h caused
  refused-answers (InBlock level commands) (stmt.Delete table found) reason h caused = for-refusal (InBlock level commands) (stmt.Delete table found) reason h caused
  refused-answers (InBlock level commands) (stmt.Lock table mode) reason h caused = for-refusal (InBlock level commands) (stmt.Lock table mode) reason h caused
  refused-answers Failed (stmt.Begin l) InFailedBlock h caused = h
  refused-answers Failed (stmt.Begin l) reason h caused = absurd h
  refused-answers Failed stmt.Commit reason h caused = absurd h
  refused-answers Failed stmt.Rollback reason h caused = absurd h
  refused-answers Failed (stmt.Select query) InFailedBlock h caused = h
  refused-answers Failed (stmt.Select query) reason h caused = absurd h
  refused-answers Failed (stmt.Insert table tuples) InFailedBlock h caused = h
  refused-answers Failed (stmt.Insert table tuples) reason h caused = absurd h
  refused-answers Failed (stmt.Update table assigns found) InFailedBlock h caused = h
  refused-answers Failed (stmt.Update table assigns found) reason h caused = absurd h
  refused-answers Failed (stmt.Delete table found) InFailedBlock h caused = h
  refused-answers Failed (stmt.Delete table found) reason h caused = absurd h
  refused-answers Failed (stmt.Lock table mode) InFailedBlock h caused = h
  refused-answers Failed (stmt.Lock table mode) reason h caused = absurd h

  -- AN ANSWER
  same-line : (line other : Stmt) → RunsLine script point session line → RunsLine script point session other → line ≡ other
  same-line line other runs too = some-same line other (sym runs.line ∙ too.line)

  answer-reply : (number : ℕ) (reply : StmtAnswer) → LegalAnswer script point session number reply → IsLegalReply script point session number reply
  answer-reply number reply h = record { order = h.order; line = h.line; runs = h.runs; is = reply-of (state_at script session point) h.line reply h.is }

  answer-refused : (number : ℕ) (reason : Reason) → LegalAnswer script point session number (Refused reason) → IsLegalRefused script point session reason
  answer-refused number reason h = record { line = h.line; runs = h.runs; is = refused-of (state_at script session point) h.line reason h.is }

  answer-caused : (number : ℕ) (reason : Reason) → LegalAnswer script point session number (Refused reason) → HasCause script point session reason
  answer-caused number reason h line runs = subst (λ l. Caused (state_at script session point) l reason) (same-line h.line line h.runs runs) (caused-of (state_at script session point) h.line reason h.is)

  is-back : (state : BlockState) (line : Stmt) (reply : StmtAnswer) → is_refusal reply ≡ false → IsBackFor state line reply → Back state line
  is-back state line (Refused reason) plain h = absurd (cc)
  is-back state line reply plain h = h

  answer-back : (number : ℕ) (reply : StmtAnswer) → is_refusal reply ≡ false → LegalAnswer script point session number reply → HasReturned script point session
  answer-back number reply plain h line runs = subst (λ l. Back (state_at script session point) l) (same-line h.line line h.runs runs)
      (is-back (state_at script session point) h.line reply plain (back-of (state_at script session point) h.line reply h.is))

  legal-refused : (number : ℕ) (reason : Reason) → IsLegalReply script point session number (Refused reason) → IsLegalRefused script point session reason → HasCause script point session reason → LegalAnswer script point session number (Refused reason)
  legal-refused number reason reply refused caused = record { order = reply.order; line = refused.line; runs = refused.runs; is = refused-answers (state_at script session point) refused.line reason refused.is (caused refused.line refused.runs) }

  legal-reply : (number : ℕ) (reply : StmtAnswer) → is_refusal reply ≡ false → IsLegalReply script point session number reply → HasReturned script point session → LegalAnswer script point session number reply
  legal-reply number reply plain is back = record { order = is.order; line = is.line; runs = is.runs; is = reply-answers (state_at script session point) is.line reply plain is.is (back is.line is.runs) }

-- BY WHETHER AN ANSWER IS A REFUSAL
module _ (script : Script) (point : Point) (session : SessionId) where
  pub refused-some : (reply : StmtAnswer) (reason : Reason) (b : Bool) → refusal_in reply ≡ Some reason → IsTrue b ↔ IsLegalRefused script point session reason → IsTrue b ↔ IsAnswerRefused script point session reply
  refused-some (Refused other) reason b e is = subst (λ r. IsTrue b ↔ IsLegalRefused script point session r) (sym (some-same other reason e)) is
  refused-some reply reason b e is = absurd (cc)

  pub refused-none : (reply : StmtAnswer) → refusal_in reply ≡ None → IsAnswerRefused script point session reply
  refused-none (Refused other) e = absurd (cc)
  refused-none reply e = tt

  pub beside-some : (reply : StmtAnswer) (reason : Reason) (b : Bool) → refusal_in reply ≡ Some reason → IsTrue b ↔ HasCause script point session reason → IsTrue b ↔ IsAnswerBeside script point session reply
  beside-some (Refused other) reason b e is = subst (λ r. IsTrue b ↔ HasCause script point session r) (sym (some-same other reason e)) is
  beside-some reply reason b e is = absurd (cc)

  pub beside-none : (reply : StmtAnswer) (b : Bool) → refusal_in reply ≡ None → IsTrue b ↔ HasReturned script point session → IsTrue b ↔ IsAnswerBeside script point session reply
  beside-none (Refused other) b e is = absurd (cc)
  beside-none reply b e is = is

abbrev pub Parts : Script → Point → Mark → Type 0
Parts script point m = IsLegalRow script point m × IsLegalStatement script point m × IsLegalRefusal script point m × IsLegalBeside script point m

pub parts-of : (script : Script) (point : Point) (m : Mark) → LegalMark script point m → Parts script point m
parts-of script point (mark.Start g s) h = (tt, h, tt, tt)
parts-of script point (mark.Snap g c s) h = (tt, h, tt, tt)
parts-of script point (mark.Write g c node table rid image) h = (h, tt, tt, tt)
parts-of script point (mark.Skip g c rid) h = (h, tt, tt, tt)
parts-of script point (mark.Fault g c rid image) h = (tt, tt, h, tt)
parts-of script point (mark.Commit g) h = (tt, h, tt, tt)
parts-of script point (mark.Abort g) h = (tt, h, tt, tt)
parts-of script point (mark.Answer s n (Refused reason)) h = (tt, answer-reply script point s n (Refused reason) h, answer-refused script point s n reason h, answer-caused script point s n reason h)
parts-of script point (mark.Answer s n reply) h = (tt, answer-reply script point s n reply h, tt, answer-back script point s n reply refl h)
parts-of script point (mark.Recheck round own verdict) h = (tt, tt, tt, h)
parts-of script point m h = (tt, tt, tt, tt)

pub of-parts : (script : Script) (point : Point) (m : Mark) → Parts script point m → LegalMark script point m
of-parts script point (mark.Start g s) p = p.1
of-parts script point (mark.Snap g c s) p = p.1
of-parts script point (mark.Write g c node table rid image) p = p.0
of-parts script point (mark.Skip g c rid) p = p.0
of-parts script point (mark.Fault g c rid image) p = p.2
of-parts script point (mark.Commit g) p = p.1
of-parts script point (mark.Abort g) p = p.1
of-parts script point (mark.Answer s n (Refused reason)) p = legal-refused script point s n reason p.1 p.2 p.3
of-parts script point (mark.Answer s n reply) p = legal-reply script point s n reply refl p.1 p.3
of-parts script point (mark.Recheck round own verdict) p = p.3
of-parts script point m p = tt
