-- What a whole run is.
use Rattle.std.specs.Prelude.{◌≡◌, ◌⊎◌, ◌≤◌, true, List, []}
use Rattle.gx_ids.specs.declared.ids.Gxid.{Gxid}
use Rattle.gx_ids.specs.declared.ids.SessionId.{SessionId}
use Rattle.gx_script.specs.declared.Script.{Script}
use Rattle.gx_store.specs.declared.mark.Mark.{Mark}
use Rattle.gx_store.specs.declared.run.Run.{Run}
use Rattle.gx_store.specs.Legal.{AreLegalSteps}
use Rattle.gx_store.specs.Lines.{Outside, state_of}
use Rattle.gx_store.specs.Marks.{is_ended, start_count}
use Rattle.gx_store.specs.Points.{ends_in, marks_of}

-- the run is a history of one store without segments
abbrev pub IsLegalHistory : Script → Run → Type 0
IsLegalHistory script run = AreLegalSteps script [] run.steps

-- every session's block is closed, by a line or at the end of the session
abbrev pub AreAllClosed : Script → Run → Type 0
AreAllClosed script run = (session : SessionId) → (state_of script session (marks_of run) ≡ Outside) ⊎ (ends_in session run.steps ≡ 1)

-- every transaction has committed or aborted
abbrev pub AreAllEnded : List Mark → Type 0
AreAllEnded marks = (g : Gxid) → 1 ≤ g.0 → g.0 ≤ start_count marks → is_ended marks g ≡ true
