-- A line is answered: its session's transaction stays open, or has ended.
use Rattle.std.proofs.Common.{◌≡◌, ◌⊎◌, inl, inr, Bool, true, false, cond, ◌||◌, List, Option, Some, None, refl, sym, ap, ◌∙◌, subst}
use Rattle.gx_ids.specs.declared.ids.Gxid.{Gxid}
use Rattle.gx_ids.specs.declared.ids.SessionId.{SessionId}
use Rattle.gx_tree.specs.declared.stmt.Stmt.{Stmt}
use Rattle.gx_tree.specs.declared.stmt.Stmt.TheVariants as stmt
use Rattle.gx_script.specs.declared.Script.{Script}
use Rattle.gx_store.specs.declared.answer.Refused.{Refused}
use Rattle.gx_store.specs.declared.answer.StmtAnswer.{StmtAnswer}
use Rattle.gx_store.specs.declared.answer.StmtAnswer.TheVariants as answer
use Rattle.gx_store.specs.declared.mark.Mark.{Mark}
use Rattle.gx_store.specs.Answers.{HasAborted, HasCommitted, IsAnswer, IsDone}
use Rattle.gx_store.specs.Groups.{draws_next}
use Rattle.gx_store.specs.Lines.{BlockState, Failed, InBlock, Outside, state_after, transaction_of}
use Rattle.gx_store.specs.Marks.{is_aborted, is_begun, is_committed, is_ended, started_after}
use Rattle.gx_store.specs.Points.{Point, before, marks_in}
use Rattle.gx_store.specs.Refusals.{IsRefusal}
use Rattle.gx_store.proofs.Marks.{is_aborted-append, is_committed-append}
use Rattle.gx_law_groups.proofs.Tidy.{held}

-- behind the answer the session has the transaction that it had, or none, where the one that it had has ended
abbrev pub Outcome : Bool → Option Gxid → (Gxid → Bool) → BlockState → BlockState → Type 0
Outcome begun g ended old new = (held new false g ≡ held old begun g) ⊎ ((held new false g ≡ None) × ((h : Gxid) → held old begun g ≡ Some h → ended h ≡ true))

module _ (script : Script) (point : Point) (s : SessionId) (g : Option Gxid) where
  abbrev marks : List Mark
  marks = before point

  pub whose : (st : BlockState) → started_after s None marks ≡ g → transaction_of st s marks ≡ held st (is_begun s marks) g
  whose Outside e = ap (λ o. cond (is_begun s marks) o None) e
  whose (InBlock level commands) e = e
  whose Failed e = refl

  committed-here : (h : Gxid) → is_committed point.earlier h ≡ true → is_ended marks h ≡ true
  committed-here h e = ap (λ b. b || is_aborted marks h) (is_committed-append (marks_in point.steps) point.earlier h ∙ ap (λ b. is_committed (marks_in point.steps) h || b) e ∙ or-true (is_committed (marks_in point.steps) h))
    where
      or-true : (b : Bool) → (b || true) ≡ true
      or-true true = refl
      or-true false = refl

  aborted-here : (h : Gxid) → is_aborted point.earlier h ≡ true → is_ended marks h ≡ true
  aborted-here h e = ap (λ b. is_committed marks h || b) (is_aborted-append (marks_in point.steps) point.earlier h ∙ ap (λ b. is_aborted (marks_in point.steps) h || b) e ∙ or-true (is_aborted (marks_in point.steps) h))
      ∙ or-true (is_committed marks h)
    where
      or-true : (b : Bool) → (b || true) ≡ true
      or-true true = refl
      or-true false = refl

  module _ (is-g : started_after s None marks ≡ g) where
    abbrev EndsAll : BlockState → Type 0
    EndsAll st = (h : Gxid) → held st (is_begun s marks) g ≡ Some h → is_ended marks h ≡ true

    one : (st : BlockState) (x h : Gxid) → transaction_of st s marks ≡ Some x → held st (is_begun s marks) g ≡ Some h → is_ended marks x ≡ true → is_ended marks h ≡ true
    one st x h e f ended = let both : Some x ≡ Some h = sym e ∙ whose st is-g ∙ f in let is : x ≡ h = cc in subst (λ (y : Gxid). is_ended marks y ≡ true) is ended

    by-commit : (st : BlockState) → HasCommitted point s st → EndsAll st
    by-commit st c h f = one st c.g h c.transaction f (committed-here c.g c.committed)

    by-abort : (st : BlockState) → HasAborted point s st → EndsAll st
    by-abort st c h f = one st c.g h c.transaction f (aborted-here c.g c.aborted)

    by-refusal : (st : BlockState) (line : Stmt) (reason : Refused) → IsRefusal script point s st line reason → EndsAll st
    by-refusal st line reason r h f = one st r.g h r.transaction f (aborted-here r.g r.aborted)

    by-done : (line : Stmt) (reply : StmtAnswer) → IsDone script point s Outside line reply → EndsAll Outside
    by-done line reply d h f = one Outside d.g h d.transaction f (committed-here d.g d.end)

    -- a line that begins no transaction is none of one that has begun one
    none-begun : (line : Stmt) → draws_next Outside (Some line) ≡ false → (is_begun s marks ≡ true → draws_next Outside (Some line) ≡ true) → EndsAll Outside
    none-begun line off on h f = by_test (is_begun s marks) refl
      where
        by_test : (b : Bool) → is_begun s marks ≡ b → is_ended marks h ≡ true
        by_test true e = let x = on e in absurd (cc)
        by_test false e = let x : held Outside false g ≡ Some h = subst (λ b. held Outside b g ≡ Some h) e f in absurd (cc)

    abbrev Goes : BlockState → BlockState → Type 0
    Goes st su = Outcome (is_begun s marks) g (is_ended marks) st su

    pub outcome : (st : BlockState) (line : Stmt) (reply : StmtAnswer) → IsAnswer script point s st line reply → (st ≡ Outside → is_begun s marks ≡ true → draws_next Outside (Some line) ≡ true) → Goes st (state_after st line reply)
    outcome Outside (stmt.Begin l) answer.Begin is on = inl (sym (ap (λ b. cond b g None) is))
    outcome Outside (stmt.Begin l) (answer.Refused reason) is on = absurd (let k = is.kind in cc)
    outcome Outside (stmt.Begin l) _ is on = absurd (let k = is.command in cc)
    outcome Outside stmt.Commit reply is on = inr (refl, none-begun stmt.Commit refl (on refl))
    outcome Outside stmt.Rollback reply is on = inr (refl, none-begun stmt.Rollback refl (on refl))
    outcome Outside (stmt.Lock table mode) reply is on = inr (refl, none-begun (stmt.Lock table mode) refl (on refl))
    outcome Outside (stmt.Select query) (answer.Refused reason) is on = inr (refl, by-refusal Outside (stmt.Select query) reason is)
    outcome Outside (stmt.Select query) reply is on = inr (refl, by-done (stmt.Select query) reply is)
    outcome Outside (stmt.Insert table tuples) (answer.Refused reason) is on = inr (refl, by-refusal Outside (stmt.Insert table tuples) reason is)
    outcome Outside (stmt.Insert table tuples) reply is on = inr (refl, by-done (stmt.Insert table tuples) reply is)
    outcome Outside (stmt.Update table assigns cond_) (answer.Refused reason) is on = inr (refl, by-refusal Outside (stmt.Update table assigns cond_) reason is)
    outcome Outside (stmt.Update table assigns cond_) reply is on = inr (refl, by-done (stmt.Update table assigns cond_) reply is)
    outcome Outside (stmt.Delete table cond_) (answer.Refused reason) is on = inr (refl, by-refusal Outside (stmt.Delete table cond_) reason is)
    outcome Outside (stmt.Delete table cond_) reply is on = inr (refl, by-done (stmt.Delete table cond_) reply is)
    outcome (InBlock level commands) (stmt.Begin l) reply is on = inl refl
    outcome (InBlock level commands) stmt.Commit answer.Commit is on = inr (refl, by-commit (InBlock level commands) is)
    outcome (InBlock level commands) stmt.Commit (answer.Refused reason) is on = inr (refl, by-refusal (InBlock level commands) stmt.Commit reason is)
    outcome (InBlock level commands) stmt.Commit _ is on = absurd (let k = is.command in cc)
    outcome (InBlock level commands) stmt.Rollback answer.Rollback is on = inr (refl, by-abort (InBlock level commands) is)
    outcome (InBlock level commands) stmt.Rollback (answer.Refused reason) is on = absurd (let k = is.kind in cc)
    outcome (InBlock level commands) stmt.Rollback _ is on = absurd (let k = is.command in cc)
    outcome (InBlock level commands) (stmt.Lock table mode) (answer.Refused reason) is on = inr (refl, by-refusal (InBlock level commands) (stmt.Lock table mode) reason is)
    outcome (InBlock level commands) (stmt.Lock table mode) _ is on = inl refl
    outcome (InBlock level commands) (stmt.Select query) (answer.Refused reason) is on = inr (refl, by-refusal (InBlock level commands) (stmt.Select query) reason is)
    outcome (InBlock level commands) (stmt.Select query) _ is on = inl refl
    outcome (InBlock level commands) (stmt.Insert table tuples) (answer.Refused reason) is on = inr (refl, by-refusal (InBlock level commands) (stmt.Insert table tuples) reason is)
    outcome (InBlock level commands) (stmt.Insert table tuples) _ is on = inl refl
    outcome (InBlock level commands) (stmt.Update table assigns cond_) (answer.Refused reason) is on = inr (refl, by-refusal (InBlock level commands) (stmt.Update table assigns cond_) reason is)
    outcome (InBlock level commands) (stmt.Update table assigns cond_) _ is on = inl refl
    outcome (InBlock level commands) (stmt.Delete table cond_) (answer.Refused reason) is on = inr (refl, by-refusal (InBlock level commands) (stmt.Delete table cond_) reason is)
    outcome (InBlock level commands) (stmt.Delete table cond_) _ is on = inl refl
    outcome Failed stmt.Commit reply is on = inr (refl, λ h f. absurd (cc))
    outcome Failed stmt.Rollback reply is on = inr (refl, λ h f. absurd (cc))
    outcome Failed _ reply is on = inr (refl, λ h f. absurd (cc))
