-- What an answer or a refusal that is judged so has to meet is what the definition asks of it.
use Rattle.std.proofs.Common.{◌≡◌, ◌↔◌, ◌∙◌, Bool, true, false, IsTrue, List, sym, subst, ap}
use Rattle.gx_ids.specs.declared.ids.SessionId.{SessionId}
use Rattle.gx_script.specs.declared.Script.{Script}
use Rattle.gx_store.specs.declared.answer.Refused.{Refused as Reason}
use Rattle.gx_store.specs.declared.answer.Refused.TheVariants.{InFailedBlock, NotInBlock}
use Rattle.gx_store.specs.declared.answer.StmtAnswer.{StmtAnswer}
use Rattle.gx_store.specs.declared.answer.StmtAnswer.TheVariants.{Begin, Commit, Rollback, Refused}
use Rattle.gx_store.specs.declared.mark.Mark.{Mark}
use Rattle.gx_store.specs.Parts.{IsRefused, IsReply}
use Rattle.gx_store.specs.Commands.{state_at}
use Rattle.gx_store.specs.Lines.{BlockState, Outside, InBlock, Failed, state_of}
use Rattle.gx_store.specs.Points.{Point, before}
use Rattle.gx_tree.specs.declared.stmt.Stmt.{Stmt}
use Rattle.gx_tree.specs.declared.stmt.Stmt.TheVariants as stmt
use Rattle.gx_legal.specs.Answers.{Meets, MeetsAs, is_refusal, judged, judged_refusal}
use Rattle.gx_legal.specs.declared.judgement.Judgement.{Judgement}

same : {A : Type 0} → A ↔ A
same = (λ x. x, λ x. x)

module _ (script : Script) (point : Point) (session : SessionId) where
  judged-is : (state : BlockState) (line : Stmt) (reply : StmtAnswer) → is_refusal reply ≡ false → Meets script point session state line reply (judged state line reply) ↔ IsReply script point session state line reply
  judged-is state line (Refused reason) e = absurd cc
  judged-is Outside (stmt.Begin l) Begin e = same
  judged-is Outside (stmt.Begin l) reply e = same
  judged-is Outside stmt.Commit Commit e = same
  judged-is Outside stmt.Commit reply e = same
  judged-is Outside stmt.Rollback Rollback e = same
  judged-is Outside stmt.Rollback reply e = same
  judged-is Outside (stmt.Select query) reply e = same
  judged-is Outside (stmt.Insert table tuples) reply e = same
  judged-is Outside (stmt.Update table assigns found) reply e = same
  judged-is Outside (stmt.Delete table found) reply e = same
  judged-is Outside (stmt.Lock table mode) reply e = same
  judged-is (InBlock level commands) (stmt.Begin l) Begin e = same
  judged-is (InBlock level commands) (stmt.Begin l) reply e = same
  judged-is (InBlock level commands) stmt.Commit Commit e = same
  judged-is (InBlock level commands) stmt.Commit reply e = same
  judged-is (InBlock level commands) stmt.Rollback Rollback e = same
  judged-is (InBlock level commands) stmt.Rollback reply e = same
  judged-is (InBlock level commands) (stmt.Select query) reply e = same
  judged-is (InBlock level commands) (stmt.Insert table tuples) reply e = same
  judged-is (InBlock level commands) (stmt.Update table assigns found) reply e = same
  judged-is (InBlock level commands) (stmt.Delete table found) reply e = same
  judged-is (InBlock level commands) (stmt.Lock table mode) reply e = same
  judged-is Failed (stmt.Begin l) reply e = same
  judged-is Failed stmt.Commit Rollback e = same
  judged-is Failed stmt.Commit reply e = same
  judged-is Failed stmt.Rollback Rollback e = same
  judged-is Failed stmt.Rollback reply e = same
  judged-is Failed (stmt.Select query) reply e = same
  judged-is Failed (stmt.Insert table tuples) reply e = same
  judged-is Failed (stmt.Update table assigns found) reply e = same
  judged-is Failed (stmt.Delete table found) reply e = same
  judged-is Failed (stmt.Lock table mode) reply e = same

  refusal-is : (state : BlockState) (line : Stmt) (reason : Reason) → MeetsAs point session state line reason (judged_refusal state line reason) ↔ IsRefused point session state line reason
  refusal-is Outside (stmt.Lock table mode) NotInBlock = same
  refusal-is Failed stmt.Commit reason = same
  refusal-is Failed stmt.Rollback reason = same
  refusal-is Failed line InFailedBlock = same
  refusal-is Failed line reason = same
  refusal-is state line reason = same

  at-point : (state : BlockState) (marks : List Mark) → state ≡ state_of script session marks → marks ≡ before point → state ≡ state_at script session point
  at-point state marks stands whole = stands ∙ ap (state_of script session) whole

  pub reply-is : (state : BlockState) (marks : List Mark) (line : Stmt) (reply : StmtAnswer) (judgement : Judgement) (b : Bool) → state ≡ state_of script session marks → marks ≡ before point
      → is_refusal reply ≡ false → judgement ≡ judged state line reply
      → IsTrue b ↔ Meets script point session (state_at script session point) line reply judgement → IsTrue b ↔ IsReply script point session (state_at script session point) line reply
  reply-is state marks line reply judgement b stands whole plain is meets = (λ t. here.0 (meets.0 t), λ answers. meets.1 (here.1 answers))
    where
      here : Meets script point session (state_at script session point) line reply judgement ↔ IsReply script point session (state_at script session point) line reply
      here = subst (λ j. Meets script point session (state_at script session point) line reply j ↔ IsReply script point session (state_at script session point) line reply)
          (sym (is ∙ ap (λ s. judged s line reply) (at-point state marks stands whole))) (judged-is (state_at script session point) line reply plain)

  pub refused-is : (state : BlockState) (marks : List Mark) (line : Stmt) (reason : Reason) (judgement : Judgement) (b : Bool) → state ≡ state_of script session marks → marks ≡ before point
      → judgement ≡ judged_refusal state line reason
      → IsTrue b ↔ MeetsAs point session (state_at script session point) line reason judgement → IsTrue b ↔ IsRefused point session (state_at script session point) line reason
  refused-is state marks line reason judgement b stands whole is meets = (λ t. here.0 (meets.0 t), λ answers. meets.1 (here.1 answers))
    where
      here : MeetsAs point session (state_at script session point) line reason judgement ↔ IsRefused point session (state_at script session point) line reason
      here = subst (λ j. MeetsAs point session (state_at script session point) line reason j ↔ IsRefused point session (state_at script session point) line reason)
          (sym (is ∙ ap (λ s. judged_refusal s line reason) (at-point state marks stands whole))) (refusal-is (state_at script session point) line reason)

  pub refusal-replies : (state : BlockState) (line : Stmt) (reply : StmtAnswer) → is_refusal reply ≡ true → IsReply script point session state line reply
  refusal-replies state line (Refused reason) e = tt
  refusal-replies state line reply e = absurd cc
