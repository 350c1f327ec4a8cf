-- A run that can't go on has no detector.
use Rattle.std.proofs.Common.{◌≡◌, ◌<◌, List, [], Bool, true, false, refl, length}
use Rattle.gx_ids.specs.declared.ids.SessionId.{SessionId}
use Rattle.gx_script.specs.declared.Script.{Script}
use Rattle.gx_store.specs.Language.{IsScript}
use Rattle.gx_store.specs.Groups.{enabled_in, lets}
use Rattle.gx_store.specs.Schedule.{is_any_unfinished}
use Rattle.gx_store.specs.Whole.{AreInsertsWhole}
use Rattle.gx_store.specs.declared.run.Step.{Step}
use Rattle.gx_rules.specs.AtCoordinator.{is_unfinished_there}
use Rattle.gx_lemmas.proofs.Tests.{true-false}
use Rattle.gx_law_runs.specs.Reached.{IsReached}
use Rattle.gx_law_runs.specs.Replays.{coordinator_after}
use Rattle.gx_law_lone.specs.Victims.{AreLet}
use Rattle.gx_law_lone.proofs.NeverStuck.{stuck-beside-groups}
use Rattle.gx_drive.proofs.Unfinished.{unfinished-none}

-- with a detector a run that is reached goes on until no session is unfinished
pub no-detector : (script : Script) (steps : List Step) → IsScript script → AreInsertsWhole script.tables script.lines → IsReached script steps → AreLet script (lets script) [] steps
    → is_any_unfinished script steps ≡ true → enabled_in script steps ≡ [] → script.detector ≡ false
no-detector script steps language inserts is let_in unfinished nothing = by_test script.detector refl
  where
    over : script.detector ≡ true → (session : SessionId) → session.0 < length script.sessions → (b : Bool) → is_unfinished_there script (coordinator_after script steps) session ≡ b → b ≡ false
    over on session inside false e = refl
    over on session inside true e = absurd (true-false script.detector on (stuck-beside-groups script steps session language inserts is let_in inside e nothing))

    by_test : (b : Bool) → script.detector ≡ b → b ≡ false
    by_test false e = refl
    by_test true e =
        absurd (true-false (is_any_unfinished script steps) unfinished
        (unfinished-none script language steps is (λ session inside. over e session inside (is_unfinished_there script (coordinator_after script steps) session) refl)))
