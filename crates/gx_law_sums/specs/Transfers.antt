-- A script whose sessions do nothing but transfer, beside the one that loads the accounts.
use Rattle.std.specs.Prelude.{◌≡◌, ℕ, ◌+◌, ◌*◌, ◌≤◌, ◌<◌, Some, None}
use Rattle.std.specs.declared.option.Option.{Option}
use Rattle.gx_ids.specs.declared.ids.SessionId.{SessionId}
use Rattle.gx_tree.specs.declared.stmt.Stmt.{Stmt}
use Rattle.gx_script.specs.declared.Script.{Script}
use Rattle.gx_store.specs.Lines.{stmt_of}
use Rattle.gx_work.specs.declared.transfer.Transfer.{Transfer}
use Rattle.gx_work.specs.Work.{ending, giving, loading, opening, taking}

-- the session that loads the accounts
abbrev pub loader : SessionId
loader = record { 0 = 0 }

-- what a transfer does, if there is one
abbrev pub does_in : (Transfer → Stmt) → Option Transfer → Option Stmt
does_in does None = None
does_in does (Some t) = Some (does t)

-- The first session loads the accounts in its one line. Of each other one every four lines are a transfer, this one.
pub record AreTransfers (script : Script) (transfer : ℕ → ℕ → Option Transfer) : Type 0 where
  pub load : stmt_of loader 1 script.lines ≡ Some loading
  pub once : stmt_of loader 2 script.lines ≡ None
  pub opens : (s : SessionId) (b : ℕ) → 1 ≤ s.0 → stmt_of s (4 * b + 1) script.lines ≡ does_in opening (transfer s.0 b)
  pub takes : (s : SessionId) (b : ℕ) → 1 ≤ s.0 → stmt_of s (4 * b + 2) script.lines ≡ does_in taking (transfer s.0 b)
  pub gives : (s : SessionId) (b : ℕ) → 1 ≤ s.0 → stmt_of s (4 * b + 3) script.lines ≡ does_in giving (transfer s.0 b)
  pub ends : (s : SessionId) (b : ℕ) → 1 ≤ s.0 → stmt_of s (4 * b + 4) script.lines ≡ does_in ending (transfer s.0 b)
  pub accounts : (s b : ℕ) (t : Transfer) → transfer s b ≡ Some t → (t.from < 64) × (t.to < 64)
