-- A line that draws a transaction draws it in the step that starts it.
use Rattle.std.proofs.Common.{◌≡◌, inl, inr, ℕ, List, [], ◌∷◌, ◌++◌, Some, None, Bool, true, false, refl, sym, subst, ◌∙◌, if◌then◌else◌}
use Rattle.std.specs.Prelude.{IsSome}
use Rattle.gx_lemmas.proofs.Numbers.{eqb-self}
use Rattle.gx_lemmas.proofs.Options.{some-same}
use Rattle.gx_lemmas.proofs.Tests.{false-true}
use Rattle.gx_ids.specs.declared.ids.Gxid.{Gxid}
use Rattle.gx_ids.specs.declared.ids.SessionId.{SessionId}
use Rattle.gx_tree.specs.declared.stmt.Level.TheVariants.{ReadCommitted}
use Rattle.gx_tree.specs.declared.stmt.Stmt.{Stmt}
use Rattle.gx_tree.specs.declared.stmt.Stmt.TheVariants as stmt
use Rattle.gx_script.specs.declared.Script.{Script}
use Rattle.gx_script.specs.Session.{line_step}
use Rattle.gx_script.specs.declared.line_step.LineStep.{LineStep}
use Rattle.gx_script.specs.declared.line_step.LineStep.TheVariants as step
use Rattle.gx_script.specs.declared.state.Block.{Block}
use Rattle.gx_script.specs.declared.state.Block.TheVariants as block
use Rattle.gx_store.specs.declared.answer.StmtAnswer.TheVariants as told
use Rattle.gx_store.specs.declared.event.Event.TheVariants as event
use Rattle.gx_store.specs.declared.mark.Mark.{Mark}
use Rattle.gx_store.specs.declared.mark.Mark.TheVariants as mark
use Rattle.gx_store.specs.declared.run.Step.{Step}
use Rattle.gx_store.specs.Legal.{IsDrawn, draws}
use Rattle.gx_store.specs.Lines.{next_stmt, state_of}
use Rattle.gx_store.specs.Marks.{is_same_session, started_after}
use Rattle.gx_store.specs.Points.{marks_in}
use Rattle.gx_rules.specs.AtCoordinator.{answers_at_once, begins, dispatches, next_line, on_line, starts, starts_line}
use Rattle.gx_rules.specs.Coordinators.{Coord, session_of}
use Rattle.gx_law_order.specs.Standing.{IsSession, state_in}

started-on : (s : SessionId) (g : Gxid) (ms : List Mark) → IsSome (started_after s (Some g) ms)
started-on s g [] = refl
started-on s g (mark.Start h t ∷ ms) = by_test (is_same_session t s) (started-on s h ms) (started-on s g ms)
  where
    by_test : (b : Bool) → IsSome (started_after s (Some h) ms) → IsSome (started_after s (Some g) ms) → IsSome (started_after s (if b then Some h else Some g) ms)
    by_test true x y = x
    by_test false x y = y
started-on s g (_ ∷ ms) = started-on s g ms

started-first : (s : SessionId) (g : Gxid) (ms : List Mark) → IsSome (started_after s None (mark.Start g s ∷ ms))
started-first s g ms = subst (λ b. IsSome (started_after s (if b then Some g else None) ms)) (sym (eqb-self s.0)) (started-on s g ms)

module _ (script : Script) (c : Coord) (s : SessionId) (sent : List Mark) where
  abbrev StartsIn : Block → Stmt → Type 0
  StartsIn b line = IsSome (started_after s None ((on_line script (starts_line c s (line_step b line)) s line (line_step b line)).marks ++ sent))

  abbrev begun : LineStep → Gxid
  begun asked = (starts_line c s asked).table.next

  -- a command outside a block
  alone : (line : Stmt) → IsSome (started_after s None ((on_line script (starts_line c s (step.Command true)) s line (step.Command true)).marks ++ sent))
  alone line = started-first s (begun (step.Command true)) ((dispatches script (begins (starts_line c s (step.Command true)) s ReadCommitted) (begun (step.Command true)) line).marks ++ sent)

  by-line : (b : Block) (commands : ℕ) (line : Stmt) → draws (state_in b commands) line ≡ true → StartsIn b line
  by-line block.Outside n (stmt.Begin level) d = started-first s (begun (step.BeginBlock level)) ((answers_at_once (begins (starts_line c s (step.BeginBlock level)) s level) s told.Begin).marks ++ sent)
  by-line block.Outside n (stmt.Select q) d = alone (stmt.Select q)
  by-line block.Outside n (stmt.Insert t x) d = alone (stmt.Insert t x)
  by-line block.Outside n (stmt.Update t x y) d = alone (stmt.Update t x y)
  by-line block.Outside n (stmt.Delete t x) d = alone (stmt.Delete t x)
  by-line block.Outside n (stmt.Lock t m) d = absurd (false-true d)
  by-line block.Outside n stmt.Commit d = absurd (false-true d)
  by-line block.Outside n stmt.Rollback d = absurd (false-true d)
  by-line (block.Open level) n line d = absurd (false-true d)
  by-line block.Failed n line d = absurd (false-true d)

pub drawn-at : (script : Script) (steps : List Step) (c : Coord) (s : SessionId) → IsSession script s steps c → (line : Stmt) → next_line script c s ≡ Some line → next_stmt s script (marks_in steps) ≡ Some line → (sent : List Mark) → IsDrawn script steps (event.Start s) ((starts script c s (Some line)).marks ++ sent)
drawn-at script steps c s session line e same sent other its drawing = by_standing session.stands
  where
    here : draws (state_of script s (marks_in steps)) line ≡ true
    here = subst (λ l. draws (state_of script s (marks_in steps)) l ≡ true) (some-same other line (sym its ∙ same)) drawing

    by_standing : Rattle.gx_law_order.specs.Standing.IsStanding script s (marks_in steps) c.table.next.0 (session_of c s).state.block (session_of c s).state.pending (session_of c s).lines (session_of c s).transaction (Rattle.gx_rules.specs.Coordinators.work_of c (session_of c s).transaction) (Rattle.gx_store.specs.Points.ends_in s steps) → IsSome (started_after s None ((starts script c s (Some line)).marks ++ sent))
    by_standing (inl z) = by-line script c s sent (session_of c s).state.block z.1.commands line (subst (λ b. draws b line ≡ true) z.1.state here)
    by_standing (inr z) = absurd (none-some (sym z.1.none ∙ e))
      where
        none-some : None ≡ Some line → ⊥
        none-some q = cc
