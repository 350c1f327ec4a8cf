-- What the detector's rounds are and do, in one.
use Rattle.std.specs.Prelude.{List, []}
use Rattle.gx_script.specs.declared.Script.{Script}
use Rattle.gx_store.specs.Cancelled.{AreNamedRightly, DoStuckStand, EachRecheck}
use Rattle.gx_store.specs.declared.run.Step.{Step}
use Rattle.gx_store.specs.Rounds.{AreRounds}

-- Who is asked, what is reported and what each round decides is as defined; where a round names somebody, its stuck waits stand; and
-- whoever it names is the youngest of those who can't go on.
pub record AreRoundsLegal (script : Script) (steps : List Step) : Type 0 where
  pub rounds : AreRounds script [] steps
  pub stand : EachRecheck (DoStuckStand script) [] steps
  pub named : EachRecheck (AreNamedRightly script) [] steps
