-- What a change may do to a transaction.
use Rattle.std.specs.Prelude.{◌≡◌, Bool, true, false, ◌&&◌, not, Option, None, Some}
use Rattle.gx_dtx.specs.declared.change.Change.{Change}
use Rattle.gx_dtx.specs.declared.change.Step.{Step}
use Rattle.gx_dtx.specs.declared.change.Step.TheVariants.{Stays, GoesTo, Leaves}
use Rattle.gx_dtx.specs.declared.txn.Txn.{Txn}
use Rattle.gx_dtx.specs.Table.{is_running, runs}
use Rattle.gx_dtx.specs.Rules.{ends}

-- whether the transaction runs after the step
abbrev pub runs_after : Step → Option Txn → Bool
runs_after Stays o = runs o
runs_after (GoesTo p) None = false
runs_after (GoesTo p) (Some t) = is_running p
runs_after Leaves o = false

-- only a transaction that runs ends, and then it doesn't run any more; else it runs if it did
pub record Fits (o : Option Txn) (c : Change) : Type 0 where
  pub ran : ends c.out.outcome ≡ true → runs o ≡ true
  pub after : runs_after c.step o ≡ (runs o && not (ends c.out.outcome))
