-- The text of a trace: how many steps there are, then each step's moment and event, with its marks on lines below.
use Rattle.std.specs.Prelude.{ℕ, List, ◌++◌, codes, length}
use Rattle.std.specs.List.{flat_map}
use Rattle.std.specs.Fmt.{decimal}
use Rattle.gx_script.specs.declared.Script.{Script}
use Rattle.gx_store.specs.declared.mark.Mark.{Mark}
use Rattle.gx_store.specs.declared.run.Run.{Run}
use Rattle.gx_store.specs.declared.run.Step.{Step}
use Rattle.gx_report.specs.EventText.{event_text}
use Rattle.gx_report.specs.MarkText.{mark_text}
use Rattle.gx_report.specs.Words.{number_text, word_text}

abbrev pub mark_line : Script → Mark → List ℕ
mark_line script mark = codes "  " ++ mark_text script mark ++ codes "\n"

abbrev pub event_line : Script → Step → List ℕ
event_line script step = decimal step.stamp.clock ++ codes "." ++ decimal step.stamp.node.0 ++ word_text (event_text script step.event) ++ codes "\n"

abbrev pub step_lines : Script → Step → List ℕ
step_lines script step = event_line script step ++ flat_map (mark_line script) step.marks

abbrev pub trace_of : Script → Run → List ℕ
trace_of script run = codes "run" ++ number_text (length run.steps) ++ codes "\n" ++ flat_map (step_lines script) run.steps
