-- What a trace has to meet to be legal, one definition behind the other, and by which number each is told.
use Rattle.std.specs.Prelude.{ℕ, [], List}
use Rattle.gx_script.specs.declared.Script.{Script}
use Rattle.gx_store.specs.Ordered.{AreOrdered}
use Rattle.gx_store.specs.Points.{marks_in}
use Rattle.gx_trace.specs.declared.seen.Seen.{Seen}
use Rattle.gx_judging.specs.declared.parts.Part.TheVariants as part
use Rattle.gx_judging.specs.declared.verdicts.Definition.{Definition}
use Rattle.gx_judging.specs.declared.verdicts.Definition.TheVariants.{Rows, Statements, Refusals, Order, Victims}
use Rattle.gx_judging.specs.declared.verdicts.Verdict.{Verdict}
use Rattle.gx_judging.specs.declared.verdicts.Verdict.TheVariants.{Legal, NotLegal}
use Rattle.gx_judging.specs.Filled.{filled}
use Rattle.gx_judging.specs.Parts.{AreLegalIn}
use Rattle.gx_judging.specs.Shown.{AreAnswered, AreTablesShown}
use Rattle.gx_judging.specs.Victims.{NameRightly}

-- the numbers that the program prints
abbrev pub number_of : Definition → ℕ
number_of Rows = 8
number_of Statements = 9
number_of Refusals = 10
number_of Order = 11
number_of Victims = 13

-- the statements of the run, its answers, and its tables
pub record AreStatements (script : Script) (shown : Seen) : Type 0 where
  pub statements : AreLegalIn part.Statements script [] (filled shown)
  pub answers : AreAnswered script shown.answers (marks_in (filled shown))
  pub tables : AreTablesShown script (marks_in (filled shown)) shown.tables

abbrev pub Meets : Definition → Script → Seen → Type 0
Meets Rows script shown = AreLegalIn part.Rows script [] (filled shown)
Meets Statements script shown = AreStatements script shown
Meets Refusals script shown = AreLegalIn part.Refusals script [] (filled shown)
Meets Order script shown = AreOrdered script [] (filled shown)
Meets Victims script shown = NameRightly script [] (marks_in (filled shown))

-- all that come before it
abbrev pub MeetsBefore : Definition → Script → Seen → Type 0
MeetsBefore Rows script shown = Unit {0}
MeetsBefore Statements script shown = Meets Rows script shown
MeetsBefore Refusals script shown = Meets Rows script shown × Meets Statements script shown
MeetsBefore Order script shown = Meets Rows script shown × Meets Statements script shown × Meets Refusals script shown
MeetsBefore Victims script shown = Meets Rows script shown × Meets Statements script shown × Meets Refusals script shown × Meets Order script shown

abbrev pub MeetsAll : Script → Seen → Type 0
MeetsAll script shown = Meets Rows script shown × Meets Statements script shown × Meets Refusals script shown × Meets Order script shown × Meets Victims script shown

-- it meets them all, or the definition is the first that it doesn't meet
abbrev pub IsVerdictOf : Script → Seen → Verdict → Type 0
IsVerdictOf script shown Legal = MeetsAll script shown
IsVerdictOf script shown (NotLegal definition) = MeetsBefore definition script shown × (Meets definition script shown → ⊥)
