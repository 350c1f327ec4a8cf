-- Where each session stands at the coordinator, by the marks of a run.
use Rattle.std.specs.Prelude.{◌≡◌, ◌⊎◌, ℕ, ◌+◌, ◌<◌, ◌≤◌, Bool, true, false, List, [], slice_get, Some, None}
use Rattle.std.specs.declared.option.Option.{Option}
use Rattle.gx_ids.specs.declared.ids.Cid.{Cid}
use Rattle.gx_ids.specs.declared.ids.Gxid.{Gxid}
use Rattle.gx_ids.specs.declared.ids.SessionId.{SessionId}
use Rattle.gx_tree.specs.declared.stmt.Level.{Level}
use Rattle.gx_tree.specs.declared.stmt.Level.TheVariants.{ReadCommitted, RepeatableRead}
use Rattle.gx_tree.specs.declared.stmt.Stmt.{Stmt}
use Rattle.gx_tree.specs.declared.stmt.Stmt.TheVariants as stmt
use Rattle.gx_dsnap.specs.declared.snapshot.Snapshot.{Snapshot}
use Rattle.gx_script.specs.declared.Script.{Script}
use Rattle.gx_script.specs.declared.state.Block.{Block}
use Rattle.gx_script.specs.declared.state.Block.TheVariants as block
use Rattle.gx_script.specs.declared.state.Pending.{Pending}
use Rattle.gx_script.specs.declared.state.Pending.TheVariants as pending
use Rattle.gx_store.specs.declared.mark.Mark.{Mark}
use Rattle.gx_store.specs.declared.mark.Mark.TheVariants as mark
use Rattle.gx_store.specs.declared.run.Step.{Step}
use Rattle.gx_store.specs.Lines.{BlockState, Outside, InBlock, Failed, cid_of, is_command, state_of, stmt_of}
use Rattle.gx_store.specs.Marks.{answer_count, has_snapshot, is_begun, is_ended, is_snapped, started_after}
use Rattle.gx_store.specs.Points.{ends_in, marks_in, starts_in}
use Rattle.gx_rules.specs.Coordinators.{Command, Coord, Work, session_of, work_of}
use Rattle.gx_rules.specs.Machine.{World}
use Rattle.gx_store.specs.Language.{AreLinesNumbered}
use Rattle.gx_law_order.specs.Scanned.{began_from, command_at, nth_command}

-- the block of a session after so many of its commands
abbrev pub state_in : Block → ℕ → BlockState
state_in block.Outside commands = Outside
state_in (block.Open level) commands = InBlock level commands
state_in block.Failed commands = Failed

abbrev pub level_in : Block → Level
level_in (block.Open level) = level
level_in _ = ReadCommitted

-- a line is under way, which is the last that was started
abbrev pub waits : Pending → ℕ
waits pending.Nothing = 0
waits _ = 1

-- the line under way is a command outside a block
abbrev pub is_alone : Block → Pending → Bool
is_alone block.Outside pending.Command = true
is_alone _ _ = false

-- the session has a transaction that runs
abbrev pub is_busy : Block → Pending → Bool
is_busy (block.Open level) p = true
is_busy block.Outside pending.Command = true
is_busy _ _ = false

-- only commands are awaited outside a block, and nothing is in a failed one
abbrev pub is_sound : Block → Pending → Bool
is_sound block.Failed pending.Command = false
is_sound block.Failed pending.Commit = false
is_sound block.Outside pending.Commit = false
is_sound _ _ = true

abbrev pub under_way : Option Command → ℕ
under_way None = 0
under_way (Some m) = 1

-- a statement that waits for its table's lock has no number yet, and will have the next one
abbrev pub held_up : Option Stmt → ℕ
held_up None = 0
held_up (Some line) = 1

-- the line under way is a command that has gone out
abbrev pub IsOut : Script → SessionId → ℕ → BlockState → Work → Type 0
IsOut script k lines b w = (m : Command) × (w.command ≡ Some m) × (stmt_of k lines script.lines ≡ Some m.stmt) × (is_command b m.stmt ≡ true) × (m.cid ≡ cid_of b)

-- or one that waits to go out
abbrev pub IsHeldUp : Script → SessionId → ℕ → BlockState → Work → Type 0
IsHeldUp script k lines b w =
    (line : Stmt) × (w.waiting ≡ Some line) × (w.command ≡ None) × (stmt_of k lines script.lines ≡ Some line) × (is_command b line ≡ true) × ((cid_of b).0 ≡ w.last + 1)

-- the line under way, where there is one
abbrev pub IsLineOf : Script → SessionId → ℕ → Block → ℕ → Work → Pending → Type 0
IsLineOf script k lines b commands w pending.Nothing = w.command ≡ None
IsLineOf script k lines b commands w pending.Command = IsOut script k lines (state_in b commands) w ⊎ IsHeldUp script k lines (state_in b commands) w
IsLineOf script k lines b commands w pending.Commit = (w.command ≡ None) × (stmt_of k lines script.lines ≡ Some stmt.Commit)

-- among the marks is the taking of this snapshot
pub record IsTaken (marks : List Mark) (g : Gxid) (snapshot : Snapshot) : Type 0 where
  pub place : ℕ
  pub d : Cid
  pub taken : slice_get marks place ≡ Some (mark.Snap g d snapshot)

-- a repeatable-read block keeps the one snapshot of its transaction
abbrev pub HasSnapshot : Level → List Mark → Gxid → Option Snapshot → Type 0
HasSnapshot ReadCommitted marks g snapshot = snapshot ≡ None
HasSnapshot RepeatableRead marks g None = has_snapshot marks g ≡ false
HasSnapshot RepeatableRead marks g (Some snapshot) = IsTaken marks g snapshot

abbrev pub is_open : Block → Bool
is_open (block.Open level) = true
is_open _ = false

-- What is known of the transaction g that a session has: its work, and that it hasn't ended. A command's number counts, and its
-- snapshot may be taken, once it goes out.
pub record Owns (k : SessionId) (commands : ℕ) (marks : List Mark) (next : ℕ) (b : Block) (g : Gxid) (w : Work) : Type 0 where
  pub home : w.session ≡ k
  pub started : started_after k None marks ≡ Some g
  pub level : w.level ≡ level_in b
  pub drawn : g.0 < next
  pub running : is_ended marks g ≡ false
  pub counted : is_open b ≡ true → commands + under_way w.command ≡ w.last
  pub unsnapped : (c : Cid) → w.last < c.0 → is_snapped marks g c ≡ false
  pub snapshot : HasSnapshot w.level marks g w.snapshot

-- the line of this number began the transaction: BEGIN, or the line under way
abbrev pub IsFirst : Script → SessionId → ℕ → Block → ℕ → Type 0
IsFirst script k lines (block.Open level) first = stmt_of k first script.lines ≡ Some (stmt.Begin level)
IsFirst script k lines _ first = first ≡ lines

-- the commands of the block behind its last are those of the lines that weren't started
abbrev pub AreLeft : Script → SessionId → ℕ → Work → Block → Pending → ℕ → Type 0
AreLeft script k lines w block.Outside p first = Unit {0}
AreLeft script k lines w block.Failed p first = Unit {0}
AreLeft script k lines w (block.Open level) pending.Commit first = Unit {0}
AreLeft script k lines w (block.Open level) p first =
    (c : ℕ) → 1 ≤ c → nth_command k (first + 1) (w.last + held_up w.waiting + c) script.lines ≡ nth_command k (lines + 1) c script.lines

-- the command under way is the transaction's command of its number, and the statement that waits is the one of the next number
abbrev pub IsNow : Script → SessionId → Work → Pending → ℕ → Type 0
IsNow script k w pending.Command first =
    ((m : Command) → w.command ≡ Some m → command_at script (Some (k, first)) m.cid.0 ≡ Some m.stmt)
    × ((line : Stmt) → w.waiting ≡ Some line → command_at script (Some (k, first)) (w.last + 1) ≡ Some line)
IsNow script k w _ first = Unit {0}

-- where the transaction began, and which of its commands are left, if the script's lines are numbered
pub record Roots (script : Script) (k : SessionId) (marks : List Mark) (b : Block) (p : Pending) (lines : ℕ) (g : Gxid) (w : Work) : Type 0 where
  pub first : ℕ
  pub began : began_from [] marks g ≡ Some (k, first)
  pub opening : IsFirst script k lines b first
  pub left : AreLinesNumbered [] script.lines → AreLeft script k lines w b p first
  pub now : AreLinesNumbered [] script.lines → IsNow script k w p first

-- A session that isn't over, in this block and with this pending: so many of its lines were started, and so many of its
-- block's commands were answered.
pub record Stands (script : Script) (k : SessionId) (marks : List Mark) (next : ℕ) (b : Block) (p : Pending) (lines : ℕ) (g : Gxid) (w : Work) : Type 0 where
  pub commands : ℕ
  pub answered : answer_count k marks + waits p ≡ lines
  pub state : state_of script k marks ≡ state_in b commands
  pub begun : is_begun k marks ≡ is_alone b p
  pub sound : is_sound b p ≡ true
  pub owns : is_busy b p ≡ true → Owns k commands marks next b g w × IsLineOf script k lines b commands w p × Roots script k marks b p lines g w

-- a session that was ended in its block
pub record IsOver (script : Script) (k : SessionId) (marks : List Mark) (b : Block) (p : Pending) (lines : ℕ) : Type 0 where
  pub outside : b ≡ block.Outside
  pub idle : p ≡ pending.Nothing
  pub answered : answer_count k marks ≡ lines
  pub none : stmt_of k (lines + 1) script.lines ≡ None

abbrev pub IsStanding : Script → SessionId → List Mark → ℕ → Block → Pending → ℕ → Gxid → Work → ℕ → Type 0
IsStanding script k marks next b p lines g w ends = ((ends ≡ 0) × Stands script k marks next b p lines g w) ⊎ ((ends ≡ 1) × IsOver script k marks b p lines)

-- the steps tell what the coordinator knows of a session
pub record IsSession (script : Script) (k : SessionId) (steps : List Step) (c : Coord) : Type 0 where
  pub starts : starts_in k steps ≡ (session_of c k).lines
  pub stands : IsStanding script k (marks_in steps) c.table.next.0 (session_of c k).state.block (session_of c k).state.pending (session_of c k).lines
      (session_of c k).transaction (work_of c (session_of c k).transaction) (ends_in k steps)

abbrev pub AreSessions : Script → World → Type 0
AreSessions script w = (k : SessionId) → IsSession script k w.steps w.coord
