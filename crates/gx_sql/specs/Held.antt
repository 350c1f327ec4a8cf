-- What the reader holds, seen as what the lines have said.
use Rattle.std.specs.Prelude.{◌≡◌, ℕ, ◌≤◌, ◌<◌, nat_le, false, not, ◌&&◌, List, [], ◌∷◌, map, length, vec_len, Option, Some, None, Result, Ok, Err}
use Rattle.std.specs.Option.{ForSome}
use Rattle.std.specs.declared.vec.Vec.{Vec}
use Rattle.std.specs.declared.alloc.Global.{Global}
use Rattle.gx_tree.specs.declared.schema.Schema.{Schema}
use Rattle.gx_lines.specs.declared.syn.LineSyn.{LineSyn}
use Rattle.gx_lines.specs.declared.syn.LineSyn.TheVariants as line_syn
use Rattle.gx_sql.specs.declared.refusal.Limit.{Limit}
use Rattle.gx_sql.specs.declared.refusal.LineFault.{LineFault}
use Rattle.gx_sql.specs.declared.refusal.LineError.{LineError}
use Rattle.gx_sql.specs.declared.refusal.LineError.TheVariants as error
use Rattle.gx_sql.specs.declared.progress.Progress.{Progress}
use Rattle.gx_sql.specs.Counts.{is_session}
use Rattle.gx_sql.specs.Progress as said

-- the sessions' names, each with a number
abbrev pub named : List (Vec ℕ Global × ℕ) → List (List ℕ × ℕ)
named entries = map (λ e. (e.0.items, e.1)) entries

abbrev pub schemas : List (Vec ℕ Global × Schema) → List Schema
schemas entries = map (λ e. e.1) entries

-- what the lines have said
abbrev pub progress_of : Progress → said.Progress
progress_of p = record { segments = p.segments; detector = p.detector; tables = schemas p.tables.entries; sessions = named p.sessions.entries; lines = p.lines.items; faults = p.faults.keys; groups = p.groups.items; members = named p.members.entries }

-- each table stands at its own name, and isn't too wide for places of columns
abbrev pub AreTables : List (Vec ℕ Global × Schema) → Type 0
AreTables [] = Unit {0}
AreTables (e ∷ es) = (e.0.items ≡ e.1.name) × (length e.1.columns ≤ 32) × AreTables es

-- no count is above this number
abbrev pub AreCounts : ℕ → List (Vec ℕ Global × ℕ) → Type 0
AreCounts n [] = Unit {0}
AreCounts n (e ∷ es) = (e.1 ≤ n) × AreCounts n es

pub record IsHeld (p : Progress) : Type 0 where
  pub segments : ForSome p.segments (λ n. (1 ≤ n) × (n ≤ 16))
  pub tables : AreTables p.tables.entries
  pub few_tables : length p.tables.entries ≤ 64
  pub few_groups : length p.groups.items ≤ 64
  pub few_sessions : length p.sessions.entries ≤ 64
  pub counts : AreCounts (vec_len p.lines) p.sessions.entries

-- where there are so many tables and groups and these sessions, there is room for the line
abbrev pub HasRoom : ℕ → ℕ → List (List ℕ × ℕ) → LineSyn → Type 0
HasRoom tables groups sessions (line_syn.Table t) = (tables < 64) × (length t.columns ≤ 32)
HasRoom tables groups sessions (line_syn.Link l) = l.segment ≤ 16
HasRoom tables groups sessions (line_syn.Group g) = groups < 64
HasRoom tables groups sessions (line_syn.Session name s) = (nat_le 64 (length sessions) && not (is_session name sessions)) ≡ false
HasRoom tables groups sessions _ = Unit {0}

-- a result with what it left is this answer
abbrev pub Ends : {X : Type 0} → Result (Unit {0}) LineError → X → Result X LineFault → Type 0
Ends (Ok _) x answer = answer ≡ Ok x
Ends (Err (error.Fault f)) x answer = answer ≡ Err f
Ends (Err error.OutOfMemory) x answer = Unit {0}

-- a result is this answer
abbrev pub Gives : {X : Type 0} → Result X LineError → Result X LineFault → Type 0
Gives (Ok x) answer = answer ≡ Ok x
Gives (Err (error.Fault f)) answer = answer ≡ Err f
Gives (Err error.OutOfMemory) answer = Unit {0}

-- a result with what it left may be answered
abbrev pub Stands : {X : Type 0} → (Result X LineFault → Type 0) → Result (Unit {0}) LineError → X → Type 0
Stands may (Ok _) x = may (Ok x)
Stands may (Err (error.Fault f)) x = may (Err f)
Stands may (Err error.OutOfMemory) x = Unit {0}

-- so where there is a fault
abbrev pub OnFault : {X : Type 0} → Result X LineError → Type 0 → Type 0
OnFault (Ok x) P = Unit {0}
OnFault (Err (error.Fault f)) P = P
OnFault (Err error.OutOfMemory) P = Unit {0}

-- a limit of these, where there is one
abbrev pub Finds : (Limit → Type 0) → Option Limit → Type 0
Finds P (Some l) = P l
Finds P None = (l : Limit) → P l → ⊥
