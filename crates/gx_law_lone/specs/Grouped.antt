-- Who asks for a slot of a group is about to open a transaction.
use Rattle.std.specs.Prelude.{◌≡◌, ◌<◌, true, List, length}
use Rattle.gx_groups.specs.Table.{asks}
use Rattle.gx_ids.specs.declared.ids.SessionId.{SessionId}
use Rattle.gx_script.specs.declared.Script.{Script}
use Rattle.gx_store.specs.Groups.{AreStartsLet, is_to_open, slots_after}
use Rattle.gx_store.specs.declared.run.Step.{Step}
use Rattle.gx_law_runs.specs.Reached.{IsReached}

-- in each run that is reached and whose starts were let
abbrev pub DoAskersOpen : Script → Type 0
DoAskersOpen script =
    (steps : List Step) (session : SessionId) → IsReached script steps → AreStartsLet script steps → session.0 < length script.sessions → asks (slots_after script steps) session ≡ true → is_to_open script steps session ≡ true
