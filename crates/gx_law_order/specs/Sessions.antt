-- What ties a transaction, what the coordinator knows of it, its session, and its wait.
use Rattle.std.specs.Prelude.{◌≡◌, ◌⊎◌, ℕ, List, [], ◌∷◌, filter, is_some, Some, None, Bool, true, false}
use Rattle.std.specs.declared.option.Option.{Option}
use Rattle.gx_ids.specs.declared.ids.Gxid.{Gxid}
use Rattle.gx_tree.specs.declared.stmt.Stmt.{Stmt}
use Rattle.gx_waits.specs.declared.claim.Claim.{Claim}
use Rattle.gx_script.specs.declared.Script.{Script}
use Rattle.gx_script.specs.declared.state.Block.{Block}
use Rattle.gx_script.specs.declared.state.Block.TheVariants.{Outside, Open}
use Rattle.gx_script.specs.declared.state.Pending.{Pending}
use Rattle.gx_script.specs.declared.state.Pending.TheVariants as pending
use Rattle.gx_waits.specs.Claims.{is_of}
use Rattle.gx_store.specs.Locks.{table_lock}
use Rattle.gx_rules.specs.Coordinators.{Command, Coord, Session, Work}
use Rattle.gx_law_order.specs.Stages.{IsWhole, Stage, stage_of}
use Rattle.gx_law_order.specs.Stages.Stage.{Live, Closing}
use Rattle.gx_law_order.specs.Standings.{gx}

-- where a session stands
abbrev pub is_open_in : Block → Bool
is_open_in (Open level) = true
is_open_in _ = false

abbrev pub is_nothing_in : Pending → Bool
is_nothing_in pending.Nothing = true
is_nothing_in _ = false

abbrev pub is_working_in : Pending → Bool
is_working_in pending.Command = true
is_working_in _ = false

abbrev pub is_live_in : Block → Pending → Bool
is_live_in (Open level) pending.Nothing = true
is_live_in (Open level) pending.Command = true
is_live_in Outside pending.Command = true
is_live_in _ _ = false

abbrev pub is_closing_in : Block → Pending → Bool
is_closing_in (Open level) pending.Commit = true
is_closing_in Outside pending.Command = true
is_closing_in _ _ = false

abbrev pub is_said : Stage → Bool
is_said Live = true
is_said Closing = true
is_said _ = false

-- What a transaction's stage says of its session; what a command that is awaited, or under way, says of both; and a statement that
-- waits: its transaction is live, has no command under way, and its session has it as its line under way.
pub record Tied (a : Stage) (g : ℕ) (w : Work) (x : Session) : Type 0 where
  pub live : a ≡ Live → (x.transaction.0 ≡ g) × (is_live_in x.state.block x.state.pending ≡ true)
  pub closing : a ≡ Closing → (x.transaction.0 ≡ g) × (is_closing_in x.state.block x.state.pending ≡ true)
  pub awaits : (k : Command) → w.command ≡ Some k → (k.awaited ≡ [] → ⊥) → (a ≡ Live) × (is_working_in x.state.pending ≡ true)
  pub busy : (k : Command) → w.command ≡ Some k → (is_said a ≡ true) × (is_working_in x.state.pending ≡ true)
  pub waits : (line : Stmt) → w.waiting ≡ Some line → (a ≡ Live) × (w.command ≡ None) × (is_working_in x.state.pending ≡ true)

-- what an open block says of its transaction
pub record Placed (s : ℕ) (x : Session) (a : Stage) (w : Work) : Type 0 where
  pub stands : is_open_in x.state.block ≡ true → ((a ≡ Live) ⊎ (a ≡ Closing)) × (w.session.0 ≡ s)
  pub free : is_open_in x.state.block ≡ true → is_nothing_in x.state.pending ≡ true → a ≡ Live

abbrev pub listed : Option Claim → List Claim
listed None = []
listed (Some claim) = claim ∷ []

-- what a statement that waits has among the waits
abbrev pub claims_for : Script → Gxid → Option Stmt → List Claim
claims_for script g None = []
claims_for script g (Some line) = listed (table_lock script g line)

-- of a transaction: the statement of it that waits, and its waits
pub record IsQueued (script : Script) (g : ℕ) (waiting : Option Stmt) (waits : List Claim) : Type 0 where
  pub claims : filter (is_of (gx g)) waits ≡ claims_for script (gx g) waiting
  pub locks : (line : Stmt) → waiting ≡ Some line → is_some (table_lock script (gx g) line) ≡ true

pub record Kept (script : Script) (c : Coord) : Type 0 where
  pub whole : IsWhole c.table
  pub tied : (g : ℕ) → Tied (stage_of c g) g (c.works g) (c.sessions (c.works g).session.0)
  pub placed : (s : ℕ) → Placed s (c.sessions s) (stage_of c (c.sessions s).transaction.0) (c.works (c.sessions s).transaction.0)
  pub queued : (g : ℕ) → IsQueued script g (c.works g).waiting c.locks.waits
