-- Laws of every step of a run, each given the steps before it.
use Rattle.std.specs.Prelude.{List, [], ◌∷◌, ◌++◌}
use Rattle.gx_script.specs.declared.Script.{Script}
use Rattle.gx_store.specs.declared.run.Step.{Step}
use Rattle.gx_store.specs.Points.{marks_in}
use Rattle.gx_store.specs.Rounds.{AreRechecksIn, AreReports, Asks, SendNoted}

abbrev pub EachStep : (List Step → Step → Type 0) → List Step → List Step → Type 0
EachStep P steps [] = Unit {0}
EachStep P steps (s ∷ ss) = P steps s × EachStep P (steps ++ s ∷ []) ss

abbrev pub StepAsks : Script → List Step → Step → Type 0
StepAsks script steps s = Asks script steps s.event s.marks

abbrev pub SendsNoted : List Step → Step → Type 0
SendsNoted steps s = SendNoted s.stamp.node (marks_in steps) s.marks

abbrev pub StepReports : List Step → Step → Type 0
StepReports steps s = AreReports steps s.event [] s.marks

abbrev pub StepRechecks : Script → List Step → Step → Type 0
StepRechecks script steps s = AreRechecksIn script steps s.event [] s.marks
