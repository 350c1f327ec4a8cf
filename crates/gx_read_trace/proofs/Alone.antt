-- A mark that has a line of its own.
use Rattle.std.proofs.Common.{◌≡◌, [], ◌∷◌, refl}
use Rattle.gx_script.specs.declared.Script.{Script}
use Rattle.gx_store.specs.declared.mark.Mark.TheVariants as mark
use Rattle.gx_trace.specs.Lawful.{IsSeenMark}
use Rattle.gx_trace.specs.declared.seen.SeenMark.{SeenMark}
use Rattle.gx_trace.specs.declared.seen.SeenMark.TheVariants as seen
use Rattle.gx_trace_lines.specs.Marks.{IsAlone, mark_line_text}
use Rattle.gx_trace_lines.specs.declared.marks.MarkLine.TheVariants.{Alone}
use Rattle.gx_read_trace.specs.Lines.{blank_line, mark_lines}

pub alone : (script : Script) (m : SeenMark) → IsAlone script m → IsSeenMark script m × (mark_lines script m ≡ blank_line (mark_line_text script (Alone m)) ∷ [])
alone script (seen.Whole (mark.Start g who)) is = (is, refl)
alone script (seen.Whole (mark.Snap g c shot)) is = (is, refl)
alone script (seen.Whole (mark.Write g c k t r i)) is = (is, refl)
alone script (seen.Whole (mark.Skip g c r)) is = (is, refl)
alone script (seen.Whole (mark.Fault g c r i)) is = (is, refl)
alone script (seen.Whole (mark.Commit g)) is = (is, refl)
alone script (seen.Whole (mark.Abort g)) is = (is, refl)
alone script (seen.Whole (mark.Hold k g o m)) is = (is, refl)
alone script (seen.Whole (mark.Wait k g o m)) is = (is, refl)
alone script (seen.Whole (mark.Release k g o m)) is = (is, refl)
alone script (seen.Whole (mark.Prepared k g)) is = (is, refl)
alone script (seen.Whole (mark.LocalCommit k g)) is = (is, refl)
alone script (seen.Whole (mark.Decided g)) is = (is, refl)
alone script (seen.Whole (mark.JournalFailed k g)) is = (is, refl)
alone script (seen.Whole (mark.Restart k)) is = (is, refl)
alone script (seen.Whole (mark.Report k r graph)) is = (is, refl)
alone script (seen.Whole (mark.Answer session number said)) is = absurd is
alone script (seen.Whole (mark.Sent to number message)) is = absurd is
alone script (seen.Sent to number message) is = (is, refl)
alone script (seen.Answer session number) is = (is, refl)
alone script (seen.Whole (mark.Recheck round own v)) is = absurd is
