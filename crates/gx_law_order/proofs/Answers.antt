-- What answers say, by the block and the line.
use Rattle.std.proofs.Common.{◌≡◌, ℕ, ◌+◌, true, false, not, refl, ap}
use Rattle.gx_lemmas.proofs.Tests.{false-true}
use Rattle.gx_ids.specs.declared.ids.SessionId.{SessionId}
use Rattle.gx_tree.specs.declared.stmt.Stmt.{Stmt}
use Rattle.gx_tree.specs.declared.stmt.Stmt.TheVariants as stmt
use Rattle.gx_script.specs.declared.Script.{Script}
use Rattle.gx_store.specs.declared.answer.Refused.{Refused}
use Rattle.gx_store.specs.declared.answer.StmtAnswer.{StmtAnswer}
use Rattle.gx_store.specs.declared.answer.StmtAnswer.TheVariants as told
use Rattle.gx_store.specs.Answers.{IsAnswer, IsDone}
use Rattle.gx_store.specs.Legal.{may_abort}
use Rattle.gx_store.specs.Lines.{BlockState, Outside, InBlock, Failed, is_command, is_on_rows, state_after}
use Rattle.gx_store.specs.Points.{Point}
use Rattle.gx_store.specs.Refusals.{IsRefusal, is_journal, may_refuse}
use Rattle.gx_rules.specs.AtCoordinator.{command_answer}
use Rattle.gx_rules.specs.Coordinators.{Command}
use Rattle.gx_law_order.specs.Rest.{IsTold, RestAnswer}

-- a command may be refused for what isn't a journal
pub command-refusable : (b : BlockState) (line : Stmt) (reason : Refused) → is_command b line ≡ true → is_journal reason ≡ false → may_refuse b line reason ≡ true
command-refusable Outside line reason e j = e
command-refusable (InBlock l c) stmt.Commit reason e j = absurd (false-true e)
command-refusable (InBlock l c) (stmt.Begin level) reason e j = absurd (false-true e)
command-refusable (InBlock l c) stmt.Rollback reason e j = absurd (false-true e)
command-refusable (InBlock l c) (stmt.Select q) reason e j = ap not j
command-refusable (InBlock l c) (stmt.Insert t x) reason e j = ap not j
command-refusable (InBlock l c) (stmt.Update t x y) reason e j = ap not j
command-refusable (InBlock l c) (stmt.Delete t x) reason e j = ap not j
command-refusable (InBlock l c) (stmt.Lock t m) reason e j = ap not j
command-refusable Failed line reason e j = e

module _ (script : Script) (point : Point) (k : SessionId) where
  pub refused-is : (b : BlockState) (line : Stmt) (reason : Refused) → may_refuse b line reason ≡ true → IsRefusal script point k b line reason → IsAnswer script point k b line (told.Refused reason)
  refused-is Outside (stmt.Select q) reason e h = h
  refused-is Outside (stmt.Insert t x) reason e h = h
  refused-is Outside (stmt.Update t x y) reason e h = h
  refused-is Outside (stmt.Delete t x) reason e h = h
  refused-is Outside (stmt.Begin level) reason e h = absurd (false-true e)
  refused-is Outside stmt.Commit reason e h = absurd (false-true e)
  refused-is Outside stmt.Rollback reason e h = absurd (false-true e)
  refused-is Outside (stmt.Lock t m) reason e h = absurd (false-true e)
  refused-is (InBlock l c) (stmt.Select q) reason e h = h
  refused-is (InBlock l c) (stmt.Insert t x) reason e h = h
  refused-is (InBlock l c) (stmt.Update t x y) reason e h = h
  refused-is (InBlock l c) (stmt.Delete t x) reason e h = h
  refused-is (InBlock l c) (stmt.Lock t m) reason e h = h
  refused-is (InBlock l c) stmt.Commit reason e h = h
  refused-is (InBlock l c) (stmt.Begin level) reason e h = absurd (false-true e)
  refused-is (InBlock l c) stmt.Rollback reason e h = absurd (false-true e)
  refused-is Failed line reason e h = absurd (false-true e)

  pub done-is : (b : BlockState) (line : Stmt) (m : Command) → is_command b line ≡ true → IsDone script point k b line (command_answer m line) → IsAnswer script point k b line (command_answer m line)
  done-is Outside (stmt.Select q) m e h = h
  done-is Outside (stmt.Insert t x) m e h = h
  done-is Outside (stmt.Update t x y) m e h = h
  done-is Outside (stmt.Delete t x) m e h = h
  done-is Outside (stmt.Begin level) m e h = absurd (false-true e)
  done-is Outside stmt.Commit m e h = absurd (false-true e)
  done-is Outside stmt.Rollback m e h = absurd (false-true e)
  done-is Outside (stmt.Lock t x) m e h = absurd (false-true e)
  done-is (InBlock l c) (stmt.Select q) m e h = h
  done-is (InBlock l c) (stmt.Insert t x) m e h = h
  done-is (InBlock l c) (stmt.Update t x y) m e h = h
  done-is (InBlock l c) (stmt.Delete t x) m e h = h
  done-is (InBlock l c) (stmt.Lock t x) m e h = h
  done-is (InBlock l c) (stmt.Begin level) m e h = absurd (false-true e)
  done-is (InBlock l c) stmt.Commit m e h = absurd (false-true e)
  done-is (InBlock l c) stmt.Rollback m e h = absurd (false-true e)
  done-is Failed line m e h = absurd (false-true e)

  pub told-is : (b : BlockState) (line : Stmt) (m : Command) → is_command b line ≡ true → RestAnswer script point k (command_answer m line) → IsTold script point k (command_answer m line)
  told-is b (stmt.Select q) m e h = h
  told-is b (stmt.Insert t x) m e h = h
  told-is b (stmt.Update t x y) m e h = h
  told-is b (stmt.Delete t x) m e h = h
  told-is b (stmt.Lock t x) m e h = h
  told-is Outside (stmt.Begin level) m e h = absurd (false-true e)
  told-is Outside stmt.Commit m e h = absurd (false-true e)
  told-is Outside stmt.Rollback m e h = absurd (false-true e)
  told-is (InBlock l c) (stmt.Begin level) m e h = absurd (false-true e)
  told-is (InBlock l c) stmt.Commit m e h = absurd (false-true e)
  told-is (InBlock l c) stmt.Rollback m e h = absurd (false-true e)
  told-is Failed (stmt.Begin level) m e h = absurd (false-true e)
  told-is Failed stmt.Commit m e h = absurd (false-true e)
  told-is Failed stmt.Rollback m e h = absurd (false-true e)

  pub rest-is : (line : Stmt) (m : Command) → IsTold script point k (command_answer m line) → RestAnswer script point k (command_answer m line)
  rest-is (stmt.Select q) m h = h
  rest-is (stmt.Insert t x) m h = h
  rest-is (stmt.Update t x y) m h = h
  rest-is (stmt.Delete t x) m h = h
  rest-is (stmt.Lock t x) m h = h
  rest-is (stmt.Begin level) m h = h
  rest-is stmt.Commit m h = h
  rest-is stmt.Rollback m h = h

-- WHERE THE SESSION STANDS THEN
pub done-outside : (line : Stmt) (r : StmtAnswer) → is_on_rows line ≡ true → state_after Outside line r ≡ Outside
done-outside (stmt.Select q) r e = refl
done-outside (stmt.Insert t x) r e = refl
done-outside (stmt.Update t x y) r e = refl
done-outside (stmt.Delete t x) r e = refl
done-outside (stmt.Begin level) r e = absurd (false-true e)
done-outside stmt.Commit r e = refl
done-outside stmt.Rollback r e = refl
done-outside (stmt.Lock t m) r e = refl

pub done-inside : (l : Rattle.gx_tree.specs.declared.stmt.Level.Level) (n : ℕ) (line : Stmt) (m : Command) → is_command (InBlock l n) line ≡ true → state_after (InBlock l n) line (command_answer m line) ≡ InBlock l (n + 1)
done-inside l n (stmt.Select q) m e = refl
done-inside l n (stmt.Insert t x) m e = refl
done-inside l n (stmt.Update t x y) m e = refl
done-inside l n (stmt.Delete t x) m e = refl
done-inside l n (stmt.Lock t x) m e = refl
done-inside l n (stmt.Begin level) m e = absurd (false-true e)
done-inside l n stmt.Commit m e = absurd (false-true e)
done-inside l n stmt.Rollback m e = absurd (false-true e)

pub refused-inside : (l : Rattle.gx_tree.specs.declared.stmt.Level.Level) (n : ℕ) (line : Stmt) (reason : Refused) → is_command (InBlock l n) line ≡ true → state_after (InBlock l n) line (told.Refused reason) ≡ Failed
refused-inside l n (stmt.Select q) r e = refl
refused-inside l n (stmt.Insert t x) r e = refl
refused-inside l n (stmt.Update t x y) r e = refl
refused-inside l n (stmt.Delete t x) r e = refl
refused-inside l n (stmt.Lock t x) r e = refl
refused-inside l n (stmt.Begin level) r e = absurd (false-true e)
refused-inside l n stmt.Commit r e = absurd (false-true e)
refused-inside l n stmt.Rollback r e = absurd (false-true e)

pub may-abort-refusable : (b : BlockState) (line : Stmt) (reason : Refused) → may_refuse b line reason ≡ true → may_abort b line ≡ true
may-abort-refusable Outside line reason e = e
may-abort-refusable (InBlock l c) stmt.Commit reason e = refl
may-abort-refusable (InBlock l c) stmt.Rollback reason e = refl
may-abort-refusable (InBlock l c) (stmt.Begin level) reason e = absurd (false-true e)
may-abort-refusable (InBlock l c) (stmt.Select q) reason e = refl
may-abort-refusable (InBlock l c) (stmt.Insert t x) reason e = refl
may-abort-refusable (InBlock l c) (stmt.Update t x y) reason e = refl
may-abort-refusable (InBlock l c) (stmt.Delete t x) reason e = refl
may-abort-refusable (InBlock l c) (stmt.Lock t m) reason e = refl
may-abort-refusable Failed line reason e = e
