-- The commands that are under way in a legal history of transfers.
use Rattle.std.proofs.Common.{◌≡◌, ◌⊎◌, inl, inr, ◌≤◌, ℕ, zero, suc, ◌+◌, ◌*◌, Bool, true, false, if◌then◌else◌, List, Option, Some, None, refl, sym, ap, ◌∙◌, subst, arith}
use Rattle.gx_ids.specs.declared.ids.Cid.{Cid}
use Rattle.gx_ids.specs.declared.ids.Gxid.{Gxid}
use Rattle.gx_ids.specs.declared.ids.SessionId.{SessionId}
use Rattle.gx_tree.specs.declared.stmt.Level.{Level}
use Rattle.gx_tree.specs.declared.stmt.Level.TheVariants.{RepeatableRead}
use Rattle.gx_tree.specs.declared.stmt.Stmt.{Stmt}
use Rattle.gx_script.specs.declared.Script.{Script}
use Rattle.gx_work.specs.declared.transfer.Transfer.{Transfer}
use Rattle.gx_lemmas.proofs.Options.{some-same}
use Rattle.gx_lemmas.proofs.Tests.{false-true}
use Rattle.gx_store.specs.declared.mark.Mark.{Mark}
use Rattle.gx_store.specs.Commands.{IsUnderWay}
use Rattle.gx_store.specs.Lines.{BlockState, Outside, InBlock, Failed, cid_of, is_command, level_of, state_of, stmt_of, transaction_of}
use Rattle.gx_store.specs.Marks.{answer_count, is_begun, started_after}
use Rattle.gx_store.specs.Points.{Point, before}
use Rattle.gx_work.specs.Work.{giving, loading, taking}
use Rattle.gx_law_sums.specs.Transfers.{AreTransfers, loader}
use Rattle.gx_law_sums.proofs.Standing.{IsPlaced, Standing, is-ending, is-giving, is-opened, is-taking}

-- which of its two updates a transfer is at
abbrev pub IsUpdateOf : Transfer → ℕ → Stmt → Type 0
IsUpdateOf t k line = ((k ≡ 0) × (line ≡ taking t)) ⊎ ((k ≡ 1) × (line ≡ giving t))

-- the session is in the block of this transfer, behind so many of its commands, and this is its transaction
pub record IsIn (script : Script) (transfer : ℕ → ℕ → Option Transfer) (N : List Mark) (g : Gxid) (t : Transfer) (k : ℕ) : Type 0 where
  pub session : SessionId
  pub other : 1 ≤ session.0
  pub place : ℕ
  pub of : transfer session.0 place ≡ Some t
  pub state : state_of script session N ≡ InBlock RepeatableRead k
  pub own : started_after session None N ≡ Some g
  pub count : answer_count session N ≡ 4 * place + 1 + k
  pub few : k ≤ 2

pub record IsUpdating (script : Script) (transfer : ℕ → ℕ → Option Transfer) (N : List Mark) (g : Gxid) (c : Cid) (level : Level) (line : Stmt) : Type 0 where
  pub t : Transfer
  pub k : ℕ
  pub within : IsIn script transfer N g t k
  pub level_is : level ≡ RepeatableRead
  pub command : c ≡ record { 0 = k + 1 }
  pub update : IsUpdateOf t k line

pub record IsLoading (N : List Mark) (g : Gxid) (c : Cid) (line : Stmt) : Type 0 where
  pub own : started_after loader None N ≡ Some g
  pub command : c ≡ record { 0 = 1 }
  pub load : line ≡ loading

module _ (script : Script) (transfer : ℕ → ℕ → Option Transfer) (are : AreTransfers script transfer) where
  none-is : {A : Type 0} (o : Option A) (x : A) → o ≡ None → o ≡ Some x → ⊥
  none-is o x e f = cc

  if-some : (b : Bool) (o : Option Gxid) (g : Gxid) → (if b then o else None) ≡ Some g → o ≡ Some g
  if-some true o g e = e
  if-some false o g e = absurd (none-is None g refl e)

  -- the loader's line is the load
  pub is-loading : (a : ℕ) (line : Stmt) → a ≤ 1 → stmt_of loader (a + 1) script.lines ≡ Some line → (a ≡ 0) × (line ≡ loading)
  is-loading zero line l e = (refl, some-same line loading (sym e ∙ are.load))
  is-loading (suc zero) line l e = absurd (none-is (stmt_of loader 2 script.lines) line are.once e)
  is-loading (suc (suc a)) line l e = absurd (many a l)
    where
      many : (a : ℕ) → suc (suc a) ≤ 1 → ⊥
      many a l = omega arith

  loader-is : (s : SessionId) → s.0 ≡ 0 → s ≡ loader
  loader-is s e = ap (λ n. let x : SessionId = record { 0 = n } in x) e

  module _ (point : Point) (known : Standing script transfer (before point)) where
    abbrev N : List Mark
    N = before point

    module _ (s : SessionId) (line : Stmt) (level : Level) (g : Gxid) (c : Cid) (u : IsUnderWay script point s line level g c) (other : 1 ≤ s.0) where
      two : (a b k : ℕ) → a ≡ 4 * b + 1 + k → k ≡ 0 → a + 1 ≡ 4 * b + 2
      two a b k e f = omega arith

      three : (a b k : ℕ) → a ≡ 4 * b + 1 + k → k ≡ 1 → a + 1 ≡ 4 * b + 3
      three a b k e f = omega arith

      four : (a b k : ℕ) → a ≡ 4 * b + 1 + k → k ≡ 2 → a + 1 ≡ 4 * b + 4
      four a b k e f = omega arith

      one : (a b : ℕ) → a ≡ 4 * b → a + 1 ≡ 4 * b + 1
      one a b e = omega arith

      by_state : (state : BlockState) → state_of script s N ≡ state → IsPlaced transfer s state (answer_count s N) → is_command state line ≡ true → transaction_of state s N ≡ Some g → c ≡ cid_of state → level ≡ level_of state
          → IsUpdating script transfer N g c level line
      by_state Outside is p command own number isolation =
          let x = is-opened script transfer are s other line p.0 (answer_count s N + 1) (one (answer_count s N) p.0 p.1) u.runs.line.line in
          absurd (false-true (subst (λ l. is_command Outside l ≡ true) x.2 command))
      by_state (InBlock lv zero) is p command own number isolation = record {
        t = p.1;
        k = 0;
        within = record { session = s; other = other; place = p.0; of = p.2; state = is ∙ ap (λ x. InBlock x 0) p.3; own = own; count = p.4; few = omega arith };
        level_is = isolation ∙ p.3;
        command = number;
        update = inl (refl, is-taking script transfer are s other line p.0 (answer_count s N + 1) p.1 p.2 u.runs.line.line (two (answer_count s N) p.0 0 p.4 refl));
      }
      by_state (InBlock lv (suc zero)) is p command own number isolation = record {
        t = p.1;
        k = 1;
        within = record { session = s; other = other; place = p.0; of = p.2; state = is ∙ ap (λ x. InBlock x 1) p.3; own = own; count = p.4; few = omega arith };
        level_is = isolation ∙ p.3;
        command = number;
        update = inr (refl, is-giving script transfer are s other line p.0 (answer_count s N + 1) p.1 p.2 u.runs.line.line (three (answer_count s N) p.0 1 p.4 refl));
      }
      by_state (InBlock lv (suc (suc zero))) is p command own number isolation =
          absurd (false-true (subst (λ l. is_command (InBlock lv 2) l ≡ true) (is-ending script transfer are s other line p.0 (answer_count s N + 1) p.1 p.2 u.runs.line.line (four (answer_count s N) p.0 2 p.4 refl)) command))
      by_state (InBlock lv (suc (suc (suc k)))) is p command own number isolation = absurd (many k p.5)
        where
          many : (k : ℕ) → suc (suc (suc k)) ≤ 2 → ⊥
          many k l = omega arith
      by_state Failed is p command own number isolation = absurd (false-true command)

    -- what is under way is the load, or an update of a transfer
    pub under-way : (s : SessionId) (line : Stmt) (level : Level) (g : Gxid) (c : Cid) → IsUnderWay script point s line level g c → IsLoading N g c line ⊎ IsUpdating script transfer N g c level line
    under-way s line level g c u = by_session s.0 refl
      where
        load : s ≡ loader → IsLoading N g c line
        load e =
            let state : state_of script s N ≡ Outside = subst (λ x. state_of script x N ≡ Outside) (sym e) known.placed.load.0 in
            record {
              own = subst (λ x. started_after x None N ≡ Some g) e (if-some (is_begun s N) (started_after s None N) g (subst (λ b. transaction_of b s N ≡ Some g) state u.runs.transaction));
              command = u.runs.number ∙ ap cid_of state;
              load = (is-loading (answer_count loader N) line known.placed.load.1 (subst (λ x. stmt_of x (answer_count x N + 1) script.lines ≡ Some line) e u.runs.line.line)).1;
            }

        by_session : (n : ℕ) → s.0 ≡ n → IsLoading N g c line ⊎ IsUpdating script transfer N g c level line
        by_session zero e = inl (load (loader-is s e))
        by_session (suc n) e =
            let other : 1 ≤ s.0 = some s.0 n e in
            inr (by_state s line level g c u other (state_of script s N) refl (known.placed.sessions s other) u.runs.command u.runs.transaction u.runs.number u.runs.isolation)
          where
            some : (a n : ℕ) → a ≡ suc n → 1 ≤ a
            some a n e = omega arith
