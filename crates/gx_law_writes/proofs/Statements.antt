-- The command under way at a point of a step that receives: its statement and its level are those of its transaction's command.
use Rattle.std.proofs.Common.{◌≡◌, inl, inr, ℕ, ◌+◌, List, [], ◌++◌, Some, None, true, false, refl, sym, subst, ap, ◌∙◌, if◌then◌else◌, arith}
use Rattle.gx_lemmas.proofs.Options.{some-same}
use Rattle.gx_ids.specs.declared.ids.Cid.{Cid}
use Rattle.gx_ids.specs.declared.ids.Gxid.{Gxid}
use Rattle.gx_ids.specs.declared.ids.SessionId.{SessionId}
use Rattle.gx_tree.specs.declared.stmt.Level.{Level}
use Rattle.gx_tree.specs.declared.stmt.Level.TheVariants.{ReadCommitted}
use Rattle.gx_tree.specs.declared.stmt.Stmt.{Stmt}
use Rattle.gx_tree.specs.declared.stmt.Stmt.TheVariants as statement
use Rattle.gx_script.specs.declared.Script.{Script}
use Rattle.gx_script.specs.declared.state.Block.{Block}
use Rattle.gx_script.specs.declared.state.Block.TheVariants as block
use Rattle.gx_script.specs.declared.state.Pending.{Pending}
use Rattle.gx_script.specs.declared.state.Pending.TheVariants as pending
use Rattle.gx_store.specs.declared.mark.Mark.{Mark}
use Rattle.gx_store.specs.Commands.{RunsCommand}
use Rattle.gx_store.specs.Lines.{BlockState, Outside, InBlock, Failed, cid_of, is_command, is_on_rows, level_of, state_of, stmt_of, transaction_of}
use Rattle.gx_store.specs.Marks.{answer_count, is_begun, is_ended, started_after}
use Rattle.gx_store.specs.Points.{ends_in, marks_in, starts_in, starts_by}
use Rattle.gx_rules.specs.Coordinators.{Work, session_of, work_of}
use Rattle.gx_rules.specs.Machine.{World}
use Rattle.gx_law_order.specs.Lists.{Each}
use Rattle.gx_law_order.specs.Scanned.{began_from, command_at, stmt_of_command}
use Rattle.gx_law_order.specs.Finish.{point_at}
use Rattle.gx_law_order.specs.Orders.{level_by, level_of_began}
use Rattle.gx_store.specs.Language.{AreLinesNumbered}
use Rattle.gx_law_order.specs.Standing.{AreSessions, IsFirst, IsLineOf, IsStanding, Owns, Roots, Stands, is_alone, is_busy, state_in}
use Rattle.gx_law_order.proofs.Said.{CalmFor, Said, said-calm}
use Rattle.gx_store.specs.declared.event.Event.{Event}

-- what the marks before the step tell of a command that runs
pub record IsOf (script : Script) (ms : List Mark) (stmt : Stmt) (level : Level) (g : Gxid) (c : Cid) : Type 0 where
  pub of : stmt_of_command script ms g c ≡ Some stmt
  pub level_is : level ≡ level_of_began script (began_from [] ms g)
  pub running : is_ended ms g ≡ false

one-zero : (n : ℕ) → n ≡ n + 1 → ⊥
one-zero n e = omega (arith, e)

none-zero : (n l : ℕ) → n + 0 ≡ l → l ≡ n + 1 → ⊥
none-zero n l e f = omega (arith, e, f)

on-rows : (line : Stmt) → is_on_rows line ≡ true → level_by (Some line) ≡ ReadCommitted
on-rows (statement.Begin l) e = absurd (cc)
on-rows statement.Commit e = refl
on-rows statement.Rollback e = refl
on-rows (statement.Select q) e = refl
on-rows (statement.Insert t v) e = refl
on-rows (statement.Update t a d) e = refl
on-rows (statement.Delete t d) e = refl
on-rows (statement.Lock t m) e = refl

module _ (script : Script) (numbered : AreLinesNumbered [] script.lines) (k : SessionId) (ms : List Mark) (next lines : ℕ) (stmt : Stmt) (level : Level) (g : Gxid) (c : Cid) (lines-are : lines ≡ answer_count k ms + 1) (line : stmt_of k lines script.lines ≡ Some stmt) (command : is_command (state_of script k ms) stmt ≡ true) (transaction : transaction_of (state_of script k ms) k ms ≡ Some g) (number : c ≡ cid_of (state_of script k ms)) (isolation : level ≡ level_of (state_of script k ms)) where
  its-level : (b : Block) (commands first : ℕ) → is_busy b pending.Command ≡ true → is_command (state_in b commands) stmt ≡ true → IsFirst script k lines b first → level_of (state_in b commands) ≡ level_by (stmt_of k first script.lines)
  its-level (block.Open l) commands first busy asks f = sym (ap level_by f)
  its-level block.Outside commands first busy asks f = sym (ap (λ n. level_by (stmt_of k n script.lines)) f ∙ ap level_by line ∙ on-rows stmt asks)
  its-level block.Failed commands first busy asks f = absurd (cc)

  its-gxid : (b : Block) (commands : ℕ) (h : Gxid) → is_busy b pending.Command ≡ true → is_begun k ms ≡ is_alone b pending.Command → started_after k None ms ≡ Some h → transaction_of (state_in b commands) k ms ≡ Some g → h ≡ g
  its-gxid (block.Open l) commands h busy begun s t = some-same h g (sym s ∙ t)
  its-gxid block.Outside commands h busy begun s t = some-same h g (sym s ∙ sym (ap (λ b. if b then started_after k None ms else None) begun) ∙ t)
  its-gxid block.Failed commands h busy begun s t = absurd (cc)

  from-owns : (b : Block) (h : Gxid) (w : Work) (s : Stands script k ms next b pending.Command lines h w) → is_busy b pending.Command ≡ true → Owns k s.commands ms next b h w → IsLineOf script k lines b s.commands w pending.Command → Roots script k ms b pending.Command lines h w → IsOf script ms stmt level g c
  from-owns b h w s busy o (inr l) r =
      record {
        of = subst (λ y. stmt_of_command script ms y c ≡ Some stmt) same (ap (λ z. command_at script z c.0) r.began ∙ ap (command_at script (Some (k, r.first))) cid-is ∙ (r.now numbered).1 l.0 l.1 ∙ ap Some (some-same l.0 stmt (sym l.3 ∙ line)));
        level_is = isolation ∙ ap level_of s.state ∙ its-level b s.commands r.first busy (sym (ap (λ z. is_command z stmt) s.state) ∙ command) r.opening ∙ sym (ap (level_of_began script) r.began) ∙ ap (λ y. level_of_began script (began_from [] ms y)) same;
        running = ap (is_ended ms) (sym same) ∙ o.running;
      }
    where
      same : h ≡ g
      same = its-gxid b s.commands h busy s.begun o.started (sym (ap (λ z. transaction_of z k ms) s.state) ∙ transaction)

      -- the number that it will have
      cid-is : c.0 ≡ w.last + 1
      cid-is = ap (λ (d : Cid). d.0) (number ∙ ap cid_of s.state) ∙ l.5
  from-owns b h w s busy o (inl l) r =
      record {
        of = subst (λ y. stmt_of_command script ms y c ≡ Some stmt) same (ap (λ z. command_at script z c.0) r.began ∙ ap (command_at script (Some (k, r.first))) cid-is ∙ (r.now numbered).0 l.0 l.1 ∙ ap Some (some-same l.0.stmt stmt (sym l.2 ∙ line)));
        level_is = isolation ∙ ap level_of s.state ∙ its-level b s.commands r.first busy (sym (ap (λ z. is_command z stmt) s.state) ∙ command) r.opening ∙ sym (ap (level_of_began script) r.began) ∙ ap (λ y. level_of_began script (began_from [] ms y)) same;
        running = ap (is_ended ms) (sym same) ∙ o.running;
      }
    where
      same : h ≡ g
      same = its-gxid b s.commands h busy s.begun o.started (sym (ap (λ z. transaction_of z k ms) s.state) ∙ transaction)

      cid-is : c.0 ≡ l.0.cid.0
      cid-is = ap (λ (d : Cid). d.0) (number ∙ ap cid_of s.state ∙ sym l.4)

  no-commit : (b : Block) (commands : ℕ) → is_busy b pending.Commit ≡ true → is_command (state_in b commands) statement.Commit ≡ true → ⊥
  no-commit (block.Open l) commands busy e = cc
  no-commit block.Outside commands busy e = cc
  no-commit block.Failed commands busy e = cc

  commit-busy : (b : Block) → Rattle.gx_law_order.specs.Standing.is_sound b pending.Commit ≡ true → is_busy b pending.Commit ≡ true
  commit-busy (block.Open l) e = refl
  commit-busy block.Outside e = cc
  commit-busy block.Failed e = cc

  command-busy : (b : Block) → Rattle.gx_law_order.specs.Standing.is_sound b pending.Command ≡ true → is_busy b pending.Command ≡ true
  command-busy (block.Open l) e = refl
  command-busy block.Outside e = refl
  command-busy block.Failed e = cc

  from-stands : (b : Block) (p : Pending) (h : Gxid) (w : Work) → Stands script k ms next b p lines h w → IsOf script ms stmt level g c
  from-stands b pending.Nothing h w s = absurd (none-zero (answer_count k ms) lines s.answered lines-are)
  from-stands b pending.Command h w s =
      let busy = command-busy b s.sound in
      let o = s.owns busy in
      from-owns b h w s busy o.0 o.1 o.2
  from-stands b pending.Commit h w s =
      let busy = commit-busy b s.sound in
      let o = s.owns busy in
      absurd (no-commit b s.commands busy (sym (ap (λ z. is_command (state_in b s.commands) z) (some-same stmt statement.Commit (sym line ∙ o.1.1))) ∙ sym (ap (λ z. is_command z stmt) s.state) ∙ command))

  pub from-standing : (b : Block) (p : Pending) (h : Gxid) (w : Work) (ends : ℕ) → IsStanding script k ms next b p lines h w ends → IsOf script ms stmt level g c
  from-standing b p h w ends (inl s) = from-stands b p h w s.1
  from-standing b p h w ends (inr o) = absurd (one-zero (answer_count k ms) (o.1.answered ∙ lines-are))

pub command-is : (script : Script) (numbered : AreLinesNumbered [] script.lines) (w : World) (sessions : AreSessions script w) (now : Event) (earlier later : List Mark) (k : SessionId) (stmt : Stmt) (level : Level) (g : Gxid) (c : Cid) → starts_by k now ≡ 0 → Each (CalmFor k) earlier → RunsCommand script (point_at w.steps now earlier later) k stmt level g c → IsOf script (marks_in w.steps) stmt level g c
command-is script numbered w sessions now earlier later k stmt level g c none calm r =
    from-standing script numbered k ms w.coord.table.next.0 (session_of w.coord k).lines stmt level g c lines-are line
    (sym (ap (λ z. is_command z stmt) said.state) ∙ r.command)
    (transaction (state_of script k (ms ++ earlier)) (state_of script k ms) said.state r.transaction)
    (r.number ∙ ap cid_of said.state)
    (r.isolation ∙ ap level_of said.state)
    (session_of w.coord k).state.block (session_of w.coord k).state.pending (session_of w.coord k).transaction (work_of w.coord (session_of w.coord k).transaction) (ends_in k w.steps) (sessions k).stands
  where
    ms : List Mark
    ms = marks_in w.steps

    said : Said script k (ms ++ earlier) (answer_count k ms) (state_of script k ms) (is_begun k ms) (started_after k None ms)
    said = said-calm script k ms earlier (answer_count k ms) (state_of script k ms) (is_begun k ms) (started_after k None ms) (record { answered = refl; state = refl; begun = refl; started = refl }) calm

    plus-none : (a b n : ℕ) → a ≡ b → b + 0 ≡ n + 1 → a ≡ n + 1
    plus-none a b n e f = omega (arith, e, f)

    lines-are : (session_of w.coord k).lines ≡ answer_count k ms + 1
    lines-are = plus-none (session_of w.coord k).lines (starts_in k w.steps) (answer_count k ms) (sym (sessions k).starts) (ap (λ z. starts_in k w.steps + z) (sym none) ∙ r.line.started ∙ ap (λ z. z + 1) said.answered)

    line : stmt_of k (session_of w.coord k).lines script.lines ≡ Some stmt
    line = ap (λ z. stmt_of k z script.lines) (lines-are ∙ ap (λ z. z + 1) (sym said.answered)) ∙ r.line.line

    transaction : (a b : BlockState) → a ≡ b → transaction_of a k (ms ++ earlier) ≡ Some g → transaction_of b k ms ≡ Some g
    transaction a b e t = same b ∙ (ap (λ z. transaction_of z k (ms ++ earlier)) (sym e) ∙ t)
      where
        same : (b : BlockState) → transaction_of b k ms ≡ transaction_of b k (ms ++ earlier)
        same Outside = ap (λ z. if z then started_after k None ms else None) (sym said.begun) ∙ ap (λ z. if is_begun k (ms ++ earlier) then z else None) (sym said.started)
        same (InBlock l n) = sym said.started
        same Failed = refl
