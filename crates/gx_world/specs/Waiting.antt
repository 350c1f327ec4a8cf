-- At which segments somebody waits.
use Rattle.std.specs.Prelude.{◌==◌, Bool, not, List, length}
use Rattle.gx_ids.specs.declared.ids.Node.{Node}
use Rattle.gx_script.specs.declared.Script.{Script}
use Rattle.gx_store.specs.declared.run.Step.{Step}
use Rattle.gx_law_runs.specs.Replays.{segment_after}

-- whether some transaction waits there
abbrev pub waits_there : Script → List Step → Node → Bool
waits_there script steps segment = not (length (segment_after script segment steps).locks.waits == 0)
