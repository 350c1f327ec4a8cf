-- The stages of a transaction at the coordinator, and which tables of transactions are whole.
use Rattle.std.specs.Prelude.{◌≡◌, ◌≤◌, ◌<◌, ◌==◌, ℕ, List, [], ◌∷◌, Some, None, Bool, true, false}
use Rattle.std.specs.declared.option.Option.{Option}
use Rattle.gx_ids.specs.declared.ids.Gxid.{Gxid}
use Rattle.gx_dtx.specs.Table.{Table, find_txn}
use Rattle.gx_dtx.specs.declared.phase.Phase.{Phase}
use Rattle.gx_dtx.specs.declared.phase.Phase.TheVariants.{Active, Preparing, CommittingOne, CommittingTwo, Ended, Aborting}
use Rattle.gx_dtx.specs.declared.txn.Txn.{Txn}
use Rattle.gx_rules.specs.Coordinators.{Coord}
use Rattle.gx_law_order.specs.Lists.{Each}
use Rattle.gx_law_order.specs.Standings.{gx}

-- unknown or ended, running its commands, on its way to a commit, committed and not forgotten by all, on its way to an abort
pub data Stage : Type 0 where
  Absent : Stage
  Live : Stage
  Closing : Stage
  Finished : Stage
  Dropped : Stage

abbrev pub stage_in : Phase → Stage
stage_in Active = Live
stage_in (Preparing a b) = Closing
stage_in (CommittingOne a) = Closing
stage_in (CommittingTwo a) = Closing
stage_in (Ended a) = Finished
stage_in (Aborting a) = Dropped

abbrev pub stage : Option Txn → Stage
stage None = Absent
stage (Some t) = stage_in t.phase

abbrev pub stage_of : Coord → ℕ → Stage
stage_of c g = stage (find_txn c.table (gx g))

abbrev pub is_running : Stage → Bool
is_running Absent = false
is_running Live = true
is_running Closing = true
is_running Finished = false
is_running Dropped = true

-- THE TABLE IS WHOLE
abbrev pub Txns : Type 0
Txns = List (Gxid × Txn)

-- each key is another
abbrev pub Apart : Txns → Type 0
Apart [] = Unit {0}
Apart (e ∷ es) = Each (λ (x : Gxid × Txn). (e.0.0 == x.0.0) ≡ false) es × Apart es

-- each key was drawn
abbrev pub Below : ℕ → Txns → Type 0
Below next es = Each (λ (x : Gxid × Txn). (1 ≤ x.0.0) × (x.0.0 < next)) es

pub record IsWhole (d : Table) : Type 0 where
  pub first : 1 ≤ d.next.0
  pub apart : Apart d.txns
  pub drawn : Below d.next.0 d.txns
