-- A session is unfinished by the steps where it is by what the coordinator holds of it.
use Rattle.std.proofs.Common.{◌≡◌, ◌≤◌, ◌⊎◌, inl, inr, ℕ, ◌+◌, ◌==◌, List, [], Bool, true, false, refl, sym, subst, ap, ◌∙◌, ◌&&◌, ◌||◌, not, nat_lt, arith}
use Rattle.std.proofs.lemmas.Bool.Decides.{nat_tests}
use Rattle.gx_ids.specs.declared.ids.SessionId.{SessionId}
use Rattle.gx_script.specs.declared.Script.{Script}
use Rattle.gx_script.specs.declared.state.Block.{Block}
use Rattle.gx_script.specs.declared.state.Block.TheVariants as block
use Rattle.gx_script.specs.declared.state.Pending.{Pending}
use Rattle.gx_script.specs.declared.state.Pending.TheVariants as pending
use Rattle.gx_store.specs.declared.run.Step.{Step}
use Rattle.gx_store.specs.Legal as legal
use Rattle.gx_store.specs.Lines.{BlockState, Outside, InBlock, Failed, line_count, state_of}
use Rattle.gx_store.specs.Marks.{answer_count}
use Rattle.gx_store.specs.Points.{ends_in, marks_in, starts_in}
use Rattle.gx_rules.specs.AtCoordinator.{is_in_block, is_nothing, is_unfinished_there}
use Rattle.gx_rules.specs.Coordinators.{Coord, session_of, work_of}
use Rattle.gx_store.specs.Language.{AreLinesNumbered}
use Rattle.gx_law_order.specs.Standing.{IsSession, IsStanding, state_in, waits}
use Rattle.gx_store.specs.Schedule.{is_unfinished}
use Rattle.gx_law_runs.proofs.Lines.{left-counted}

block-of : (b : Block) (commands : ℕ) → legal.is_in_block (state_in b commands) ≡ is_in_block b
block-of block.Outside commands = refl
block-of (block.Open level) commands = refl
block-of block.Failed commands = refl

-- all was answered where nothing is under way and nothing left
nothing-left : (p : Pending) (count total lines : ℕ) (x : Bool) → count + waits p ≡ lines → lines ≤ total → (not (count == total) || x) ≡ (not (is_nothing p) || (x || nat_lt lines total))
nothing-left pending.Nothing count total lines x e h = grind (arith, nat_tests)
nothing-left pending.Command count total lines x e h = grind (arith, nat_tests)
nothing-left pending.Commit count total lines x e h = grind (arith, nat_tests)

module _ (script : Script) (k : SessionId) (steps : List Step) (c : Coord) (s : IsSession script k steps c) where
  abbrev b : Block
  b = (session_of c k).state.block

  abbrev p : Pending
  p = (session_of c k).state.pending

  abbrev lines : ℕ
  lines = (session_of c k).lines

  abbrev answered : ℕ
  answered = answer_count k (marks_in steps)

  abbrev state : BlockState
  state = state_of script k (marks_in steps)

  abbrev Here : Type 0
  Here = IsStanding script k (marks_in steps) c.table.next.0 b p lines (session_of c k).transaction (work_of c (session_of c k).transaction) (ends_in k steps)

  answers-counted : answered + waits p ≡ lines
  answers-counted = by s.stands
    where
      idle : (q : Pending) → q ≡ pending.Nothing → (n : ℕ) → n ≡ lines → n + waits q ≡ lines
      idle pending.Nothing e n f = omega (arith, f)
      idle pending.Command e n f = absurd (cc)
      idle pending.Commit e n f = absurd (cc)

      by : Here → answered + waits p ≡ lines
      by (inl h) = h.1.answered
      by (inr h) = idle p h.1.idle answered h.1.answered

  block-alike : (legal.is_in_block state && (ends_in k steps == 0)) ≡ is_in_block b
  block-alike = by s.stands
    where
      open-still : (x : Bool) (n : ℕ) → n ≡ 0 → (x && (n == 0)) ≡ x
      open-still true n e = grind (arith, nat_tests)
      open-still false n e = refl

      ended : (x : Bool) (n : ℕ) → n ≡ 1 → (x && (n == 0)) ≡ false
      ended x n e = grind (arith, nat_tests)

      by : Here → (legal.is_in_block state && (ends_in k steps == 0)) ≡ is_in_block b
      by (inl h) = open-still (legal.is_in_block state) (ends_in k steps) h.0 ∙ ap legal.is_in_block h.1.state ∙ block-of b h.1.commands
      by (inr h) = ended (legal.is_in_block state) (ends_in k steps) h.0 ∙ sym (ap is_in_block h.1.outside)

  pub unfinished-alike : AreLinesNumbered [] script.lines → starts_in k steps ≤ line_count k script.lines → is_unfinished script steps k ≡ is_unfinished_there script c k
  unfinished-alike numbered most =
      ap (λ x. not (answered == line_count k script.lines) || x) block-alike
      ∙ nothing-left p answered (line_count k script.lines) lines (is_in_block b) answers-counted (subst (λ n. n ≤ line_count k script.lines) s.starts most)
      ∙ ap (λ x. not (is_nothing p) || (is_in_block b || x)) (sym (left-counted k script.lines lines numbered))

  -- no answer comes before its line
  pub answers-room : answer_count k (marks_in steps) ≤ starts_in k steps
  answers-room = fewer answered (waits p) lines (starts_in k steps) answers-counted s.starts
    where
      fewer : (a q n m : ℕ) → a + q ≡ n → m ≡ n → a ≤ m
      fewer a q n m e f = omega (arith, e, f)

  -- a session that is finished has closed its block, or was ended in it
  pub closed-if : is_unfinished script steps k ≡ false → (state_of script k (marks_in steps) ≡ Outside) ⊎ (ends_in k steps ≡ 1)
  closed-if f = by s.stands
    where
      outside : (x : BlockState) (n : ℕ) (t : Bool) → n ≡ 0 → (t || (legal.is_in_block x && (n == 0))) ≡ false → x ≡ Outside
      outside Outside n t e q = refl
      outside (InBlock level commands) n t e q = grind (arith, nat_tests)
      outside Failed n t e q = grind (arith, nat_tests)

      by : Here → (state ≡ Outside) ⊎ (ends_in k steps ≡ 1)
      by (inl h) = inl (outside state (ends_in k steps) (not (answered == line_count k script.lines)) h.0 f)
      by (inr h) = inr h.0
