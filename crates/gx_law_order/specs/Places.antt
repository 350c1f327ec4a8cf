-- The coordinator knows of segments alone: where its transactions take part, are awaited and are told things.
use Rattle.std.specs.Prelude.{◌≤◌, ℕ, List, Some, None}
use Rattle.std.specs.declared.option.Option.{Option}
use Rattle.gx_ids.specs.declared.ids.Node.{Node}
use Rattle.gx_msg.specs.declared.message.Out.{Out}
use Rattle.gx_detect.specs.Rounds.{AreOfSegments}
use Rattle.gx_dtx.specs.Table.{Table}
use Rattle.gx_dtx.specs.declared.phase.Phase.{Phase}
use Rattle.gx_dtx.specs.declared.phase.Phase.TheVariants.{Active, Preparing, CommittingOne, CommittingTwo, Ended, Aborting}
use Rattle.gx_dtx.specs.declared.txn.Txn.{Txn}
use Rattle.gx_script.specs.declared.Script.{Script}
use Rattle.gx_rules.specs.Coordinators.{Command, Coord, Work}
use Rattle.gx_law_order.specs.Lists.{Each}

-- one of n segments
abbrev pub IsOneOf : ℕ → Node → Type 0
IsOneOf n node = (1 ≤ node.0) × (node.0 ≤ n)

abbrev pub AreIn : ℕ → List Node → Type 0
AreIn n nodes = Each (IsOneOf n) nodes

abbrev pub OutIn : ℕ → Out → Type 0
OutIn n o = IsOneOf n o.node

abbrev pub PhaseIn : ℕ → Phase → Type 0
PhaseIn n Active = Unit {0}
PhaseIn n (Preparing writers awaited) = AreIn n writers × AreIn n awaited
PhaseIn n (CommittingOne w) = IsOneOf n w
PhaseIn n (CommittingTwo awaited) = AreIn n awaited
PhaseIn n (Ended awaited) = AreIn n awaited
PhaseIn n (Aborting awaited) = AreIn n awaited

pub record TxnIn (n : ℕ) (t : Txn) : Type 0 where
  pub participants : AreIn n t.participants
  pub phase : PhaseIn n t.phase

abbrev pub TableIn : ℕ → Table → Type 0
TableIn n d = Each (λ e. TxnIn n e.1) d.txns

pub record CommandIn (n : ℕ) (k : Command) : Type 0 where
  pub orders : Each (OutIn n) k.orders
  pub awaited : AreIn n k.awaited

abbrev pub UnderWay : ℕ → Option Command → Type 0
UnderWay n None = Unit {0}
UnderWay n (Some k) = CommandIn n k

pub record WorkIn (n : ℕ) (w : Work) : Type 0 where
  pub writers : AreIn n w.writers
  pub command : UnderWay n w.command

pub record CoordIn (script : Script) (c : Coord) : Type 0 where
  pub table : TableIn script.segments c.table
  pub works : (g : ℕ) → WorkIn script.segments (c.works g)
  pub reports : AreOfSegments script.segments c.reports
