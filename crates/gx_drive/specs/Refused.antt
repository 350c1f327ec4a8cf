-- Ends that no run has.
use Rattle.std.specs.Prelude.{◌≡◌, List, length}
use Rattle.gx_script.specs.declared.Script.{Script}
use Rattle.gx_store.specs.declared.run.Step.{Step}
use Rattle.gx_drive.specs.Ends.{IsEnd}
use Rattle.gx_drive.specs.declared.end.End.{End}

-- a run of ten steps ends where nine turns may be taken
pub record HasEndedLate (script : Script) (steps : List Step) (end : End) : Type 0 where
  pub ten : length steps ≡ 10
  pub nine : IsEnd script steps 9 end
