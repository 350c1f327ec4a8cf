-- What holds when a run is over.
use Rattle.gx_script.specs.declared.Script.{Script}
use Rattle.gx_store.specs.declared.run.Run.{Run}
use Rattle.gx_store.specs.Lines.{AreAllAnswered}
use Rattle.gx_store.specs.Points.{marks_of}
use Rattle.gx_store.specs.Runs.{AreAllClosed, AreAllEnded}

-- every line was answered, every block is closed, and every transaction has ended
pub record IsFinished (script : Script) (run : Run) : Type 0 where
  pub whole : AreAllAnswered script (marks_of run)
  pub closed : AreAllClosed script run
  pub ended : AreAllEnded (marks_of run)
