-- Whoever asks for a slot of a group is about to open a transaction, in every run of a script that was let.
use Rattle.std.proofs.Common.{◌≡◌, List, [], ◌∷◌, sym, ◌∙◌, length, All}
use Rattle.std.proofs.lemmas.List.Elements.{All-from_recursion, recursion_from_All}
use Rattle.std.specs.List.{AllByRecursion}
use Rattle.std.specs.Prelude.{◌<◌, ℕ}
use Rattle.gx_script.specs.declared.Line.{Line}
use Rattle.gx_script.specs.declared.Script.{Script}
use Rattle.gx_tree.specs.declared.schema.Schema.{Schema}
use Rattle.gx_store.specs.Groups.{lets}
use Rattle.gx_store.specs.Language.{IsLine, IsScript}
use Rattle.gx_store.specs.Legal.{AreLegalSteps}
use Rattle.gx_store.specs.Whole.{AreInsertsWhole}
use Rattle.gx_store.specs.declared.run.Step.{Step}
use Rattle.gx_law_answers.proofs.Join.{legal}
use Rattle.gx_law_answers.proofs.Snaps.{snapshots-one}
use Rattle.gx_law_answers.proofs.Whole.{filled, keyed}
use Rattle.gx_law_groups.proofs.Runs.{bound-after}
use Rattle.gx_law_locks.proofs.EachVictim.{world-cancels}
use Rattle.gx_law_locks.proofs.Whole.{world-rounds}
use Rattle.gx_law_runs.proofs.Reaching.{by-events}
use Rattle.gx_law_runs.specs.Reached.{IsReached}
use Rattle.gx_law_lone.specs.Grouped.{DoAskersOpen}
use Rattle.gx_law_lone.specs.Victims.{AreLet, DoLoneRoundsFindVictims, HoldsUpOpenings}
use Rattle.gx_law_lone.proofs.FindsVictims.{find-victims}
use Rattle.gx_law_lone.proofs.Grouped.{groups-hold}

-- a run that is reached is a legal history
pub legal-steps : (script : Script) → IsScript script → AreInsertsWhole script.tables script.lines → (steps : List Step) → IsReached script steps → AreLegalSteps script [] steps
legal-steps script language inserts steps is =
    by-events script steps is (AreLegalSteps script [])
    (legal script language.some_segments language.numbers (keyed script inserts) (snapshots-one script language.some_segments) (filled script inserts) (world-cancels script language.some_segments (world-rounds script language.some_segments)))

pub askers-open : (script : Script) → IsScript script → AreInsertsWhole script.tables script.lines → DoAskersOpen script
askers-open script language inserts steps session is starts there a = sym ((bound-after script language steps (legal-steps script language inserts steps is) starts).slotted.who_asks session there) ∙ a

sessions-there : (tables : List Schema) (n : ℕ) (ls : List Line) → AllByRecursion (IsLine tables n) ls → AllByRecursion (λ line. line.session.0 < n) ls
sessions-there tables n [] all = tt
sessions-there tables n (l ∷ ls) all = (all.0.0, sessions-there tables n ls all.1)

pub lines-inside : (script : Script) → IsScript script → All (λ line. line.session.0 < length script.sessions) script.lines
lines-inside script language =
    All-from_recursion (λ line. line.session.0 < length script.sessions) script.lines
    (sessions-there script.tables (length script.sessions) script.lines (recursion_from_All (IsLine script.tables (length script.sessions)) script.lines language.lines))

pub groups-open : (script : Script) → IsScript script → AreInsertsWhole script.tables script.lines → HoldsUpOpenings script (lets script)
groups-open script language inserts = groups-hold script (lines-inside script language) (askers-open script language inserts)

-- so where a round is all that the groups leave to choose, it finds victims
pub grouped-victims : (script : Script) → IsScript script → AreInsertsWhole script.tables script.lines → (steps : List Step) → IsReached script steps → AreLet script (lets script) [] steps → DoLoneRoundsFindVictims script (lets script) [] steps
grouped-victims script language inserts steps is a =
    find-victims script language.some_segments language.numbers (lines-inside script language) inserts (lets script) (groups-open script language inserts) steps is a
