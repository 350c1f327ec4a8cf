-- Which sessions are idle, which lines are next, and which sessions are to be ended, by what the coordinator knows of them.
use Rattle.std.proofs.Common.{◌≡◌, inl, inr, ℕ, ◌+◌, List, [], ◌∷◌, Option, Some, Bool, true, false, refl, sym, subst, ap, ◌∙◌, if◌then◌else◌, ◌&&◌, ◌||◌, not, arith}
use Rattle.std.proofs.lemmas.Bool.{eqb-true}
use Rattle.std.proofs.lemmas.Bool.Decides.{nat_tests}
use Rattle.std.specs.Prelude.{is_some, ◌==◌}
use Rattle.std.specs.List.{list_any}
use Rattle.gx_lemmas.proofs.Tests.{true-false}
use Rattle.gx_ids.specs.declared.ids.SessionId.{SessionId}
use Rattle.gx_tree.specs.declared.stmt.Stmt.{Stmt}
use Rattle.gx_script.specs.declared.Line.{Line}
use Rattle.gx_script.specs.declared.Script.{Script}
use Rattle.gx_script.specs.declared.state.Block.{Block}
use Rattle.gx_script.specs.declared.state.Block.TheVariants as block
use Rattle.gx_script.specs.declared.state.Pending.{Pending}
use Rattle.gx_script.specs.declared.state.Pending.TheVariants as pending
use Rattle.gx_store.specs.declared.node.NodeEvent.TheVariants as here
use Rattle.gx_store.specs.declared.run.Step.{Step}
use Rattle.gx_store.specs.Legal as legal
use Rattle.gx_store.specs.Lines.{state_of, stmt_of}
use Rattle.gx_store.specs.Marks.{answer_count, is_same_session}
use Rattle.gx_store.specs.Points.{ends_in, marks_in, starts_in}
use Rattle.gx_store.specs.Schedule as schedule
use Rattle.gx_rules.specs.AtCoordinator.{coord_can, is_idle, is_in_block, is_nothing}
use Rattle.gx_rules.specs.Coordinators.{Coord, session_of}
use Rattle.gx_law_order.specs.Standing.{IsSession, IsStanding, Stands, state_in, waits}

-- a line is under way where one more was started than answered
idle-of : (p : Pending) (started lines count : ℕ) → started ≡ lines → count + waits p ≡ lines → (started == count) ≡ is_nothing p
idle-of pending.Nothing started lines count a b = grind (arith, nat_tests)
idle-of pending.Command started lines count a b = grind (arith, nat_tests)
idle-of pending.Commit started lines count a b = grind (arith, nat_tests)

count-of : (p : Pending) (count lines : ℕ) → is_nothing p ≡ true → count + waits p ≡ lines → count ≡ lines
count-of pending.Nothing count lines e h = grind arith
count-of pending.Command count lines e h = absurd (cc)
count-of pending.Commit count lines e h = absurd (cc)

block-of : (b : Block) (commands : ℕ) → legal.is_in_block (state_in b commands) ≡ is_in_block b
block-of block.Outside commands = refl
block-of (block.Open level) commands = refl
block-of block.Failed commands = refl

under : (q x y : Bool) → (q ≡ true → x ≡ y) → (q && x) ≡ (q && y)
under true x y f = f refl
under false x y f = refl

module _ (script : Script) (k : SessionId) (steps : List Step) (c : Coord) (s : IsSession script k steps c) where
  abbrev p : Pending
  p = (session_of c k).state.pending

  abbrev b : Block
  b = (session_of c k).state.block

  abbrev lines : ℕ
  lines = (session_of c k).lines

  abbrev answered : ℕ
  answered = answer_count k (marks_in steps)

  pub idle-alike : schedule.is_idle steps k ≡ is_idle (session_of c k)
  idle-alike = by s.stands
    where
      by : IsStanding script k (marks_in steps) c.table.next.0 (session_of c k).state.block (session_of c k).state.pending (session_of c k).lines (session_of c k).transaction (c.works (session_of c k).transaction.0) (ends_in k steps) → schedule.is_idle steps k ≡ is_idle (session_of c k)
      by (inl h) = idle-of (session_of c k).state.pending (starts_in k steps) (session_of c k).lines (answer_count k (marks_in steps)) s.starts h.1.answered
      by (inr h) = over (starts_in k steps) (session_of c k).lines (answer_count k (marks_in steps)) s.starts h.1.answered ∙ sym (ap is_nothing h.1.idle)
        where
          over : (a l n : ℕ) → a ≡ l → n ≡ l → (a == n) ≡ true
          over a l n e f = grind (arith, nat_tests)

  pub next-alike : (line : Line) → line.session ≡ k → schedule.is_next steps line ≡ (is_idle (session_of c k) && (line.number == lines + 1))
  next-alike line e =
      subst (λ x. (schedule.is_idle steps x && (line.number == starts_in x steps + 1)) ≡ (is_idle (session_of c k) && (line.number == lines + 1))) (sym e)
      (ap (λ q. q && (line.number == starts_in k steps + 1)) idle-alike ∙ ap (λ n. is_idle (session_of c k) && (line.number == n + 1)) s.starts)

  -- who stands in a block there stands in one by the steps
  pub block-alike : is_in_block (session_of c k).state.block ≡ true → legal.is_in_block (state_of script k (marks_in steps)) ≡ true
  block-alike there = by s.stands
    where
      by : IsStanding script k (marks_in steps) c.table.next.0 b p lines (session_of c k).transaction (c.works (session_of c k).transaction.0) (ends_in k steps) → legal.is_in_block (state_of script k (marks_in steps)) ≡ true
      by (inl h) = ap legal.is_in_block h.1.state ∙ block-of b h.1.commands ∙ there
      by (inr h) = absurd (true-false (is_in_block b) there (ap is_in_block h.1.outside))

  pub end-alike : schedule.is_to_end script steps k ≡ coord_can script c (here.End k)
  end-alike = ap (λ q. q && rest answered) idle-alike ∙ by s.stands
    where
      rest : ℕ → Bool
      rest n = not (is_some (stmt_of k (n + 1) script.lines)) && (legal.is_in_block (state_of script k (marks_in steps)) && (ends_in k steps == 0))

      none-ended : (x : Bool) (n : ℕ) → n ≡ 0 → (x && (n == 0)) ≡ x
      none-ended true n e = grind (arith, nat_tests)
      none-ended false n e = refl

      ended : (q x y : Bool) (n : ℕ) → n ≡ 1 → (q && (x && (y && (n == 0)))) ≡ (q && (x && false))
      ended q x y n e = grind (arith, nat_tests)

      standing : ends_in k steps ≡ 0 → Stands script k (marks_in steps) c.table.next.0 b p lines (session_of c k).transaction (c.works (session_of c k).transaction.0) → rest lines ≡ (not (is_some (stmt_of k (lines + 1) script.lines)) && is_in_block b)
      standing none h =
          ap (λ x. not (is_some (stmt_of k (lines + 1) script.lines)) && x)
          (none-ended (legal.is_in_block (state_of script k (marks_in steps))) (ends_in k steps) none ∙ ap legal.is_in_block h.state ∙ block-of b h.commands)

      by : IsStanding script k (marks_in steps) c.table.next.0 b p lines (session_of c k).transaction (c.works (session_of c k).transaction.0) (ends_in k steps) → (is_idle (session_of c k) && rest answered) ≡ coord_can script c (here.End k)
      by (inl h) =
          under (is_idle (session_of c k)) (rest answered) (not (is_some (stmt_of k (lines + 1) script.lines)) && is_in_block b)
          (λ q. ap rest (count-of p answered lines q h.1.answered) ∙ standing h.0 h.1)
      by (inr h) =
          ended (is_idle (session_of c k)) (not (is_some (stmt_of k (answered + 1) script.lines))) (legal.is_in_block (state_of script k (marks_in steps))) (ends_in k steps) h.0
          ∙ ap (λ n. is_idle (session_of c k) && (not (is_some (stmt_of k (n + 1) script.lines)) && false)) h.1.answered
          ∙ ap (λ x. is_idle (session_of c k) && (not (is_some (stmt_of k (lines + 1) script.lines)) && x)) (sym (ap is_in_block h.1.outside))

  -- some line is next exactly where the coordinator admits the session's start
  start-in : (ls : List Line) → list_any (λ line. is_same_session line.session k && schedule.is_next steps line) ls ≡ (is_idle (session_of c k) && is_some (stmt_of k (lines + 1) ls))
  start-in [] = none (is_idle (session_of c k))
    where
      none : (q : Bool) → false ≡ (q && false)
      none true = refl
      none false = refl
  start-in (l ∷ ls) =
      ap (λ x. x || list_any (λ line. is_same_session line.session k && schedule.is_next steps line) ls) (by_session (is_same_session l.session k) refl)
      ∙ ap (λ x. (is_idle (session_of c k) && (is_same_session l.session k && (l.number == lines + 1))) || x) (start-in ls)
      ∙ joined (is_idle (session_of c k)) (is_same_session l.session k && (l.number == lines + 1)) (stmt_of k (lines + 1) ls)
    where
      joined : (q t : Bool) (o : Option Stmt) → ((q && t) || (q && is_some o)) ≡ (q && is_some (if t then Some l.stmt else o))
      joined true true o = refl
      joined true false o = refl
      joined false t o = refl

      out : (q x : Bool) → false ≡ (q && (false && x))
      out true x = refl
      out false x = refl

      same : (a b : SessionId) → is_same_session a b ≡ true → a ≡ b
      same a b e = ap (λ n. let x : SessionId = record { 0 = n } in x) (eqb-true a.0 b.0 e)

      by_session : (t : Bool) → is_same_session l.session k ≡ t → (t && schedule.is_next steps l) ≡ (is_idle (session_of c k) && (t && (l.number == lines + 1)))
      by_session true e = next-alike l (same l.session k e)
      by_session false e = out (is_idle (session_of c k)) (l.number == lines + 1)

  pub start-alike : list_any (λ line. is_same_session line.session k && schedule.is_next steps line) script.lines ≡ coord_can script c (here.Start k)
  start-alike = start-in script.lines
