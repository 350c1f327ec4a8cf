-- What the parts of the bytes are: what stands before the trace, and the trace.
use Rattle.std.specs.Prelude.{◌≡◌, ⊤, ℕ, List, ◌++◌, Result, Ok, Err, Some, codes}
use Rattle.std.specs.Fmt.{decimal}
use Rattle.std.specs.declared.alloc.Global.{Global}
use Rattle.std.specs.declared.vec.Vec.{Vec}
use Rattle.gx_script.specs.declared.Script.{Script}
use Rattle.gx_sql.specs.declared.refusal.Refusal.{Refusal}
use Rattle.gx_sql.specs.Script.{Reads}
use Rattle.gx_store.specs.Language.{IsScript}
use Rattle.gx_refusals.specs.Refused.{refusal_text}
use Rattle.gx_trace.specs.Shown.{IsShown}
use Rattle.gx_trace.specs.ShownText.{shown_text}
use Rattle.gx_trace.specs.declared.seen.Seen.{Seen}
use Rattle.gx_read_trace.specs.FirstBad.{IsFirstBad}
use Rattle.gx_judging.specs.Verdicts.{IsVerdictOf, number_of}
use Rattle.gx_judging.specs.declared.verdicts.Definition.{Definition}
use Rattle.gx_judging.specs.declared.verdicts.Verdict.{Verdict}
use Rattle.gx_judging.specs.declared.verdicts.Verdict.TheVariants as verdict
use Rattle.gx_check.specs.declared.attempt.Attempt.{Attempt}
use Rattle.gx_check.specs.declared.attempt.Attempt.TheVariants.{Legal, Refused, NotATrace, NotLegal, OutOfMemory}

-- TEXTS
abbrev pub no_trace_text : ℕ → List ℕ
no_trace_text line = codes "not a trace line " ++ decimal line ++ codes "\n"

abbrev pub not_legal_text : Definition → List ℕ
not_legal_text least = codes "not legal " ++ decimal (number_of least) ++ codes "\n"

-- that this line is none of a trace, or this definition isn't met, is told by its text
abbrev pub IsNoTraceAt : ℕ → Attempt → Type 0
IsNoTraceAt line (NotATrace text) = text.items ≡ no_trace_text line
IsNoTraceAt line OutOfMemory = ⊤
IsNoTraceAt line _ = ⊥

abbrev pub IsNotLegalBy : Definition → Attempt → Type 0
IsNotLegalBy least (NotLegal text) = text.items ≡ not_legal_text least
IsNotLegalBy least OutOfMemory = ⊤
IsNotLegalBy least _ = ⊥

-- PARTS
-- what is shown of a run, and the verdict on it
abbrev pub IsJudged : Script → List ℕ → Verdict → Type 0
IsJudged script trace said = (seen : Seen) × IsShown script seen × (trace ≡ shown_text script seen) × IsVerdictOf script seen said

abbrev pub IsOfTrace : Script → List ℕ → Attempt → Type 0
IsOfTrace script trace Legal = IsJudged script trace verdict.Legal
IsOfTrace script trace (NotLegal text) = (least : Definition) × IsJudged script trace (verdict.NotLegal least) × (text.items ≡ not_legal_text least)
IsOfTrace script trace (NotATrace text) = (line : ℕ) × IsFirstBad script trace line × (text.items ≡ no_trace_text line)
IsOfTrace script trace OutOfMemory = ⊤
IsOfTrace script trace _ = ⊥

-- bytes that are no script
abbrev pub IsRefusal : List ℕ → Attempt → Type 0
IsRefusal front (Refused text) = (refusal : Refusal) × Reads front (Err refusal) × (refusal_text refusal ≡ Some text.items)
IsRefusal front OutOfMemory = ⊤
IsRefusal front _ = ⊥

abbrev pub IsScriptOf : List ℕ → Result Script Attempt → Type 0
IsScriptOf front (Ok script) = Reads front (Ok script) × IsScript script
IsScriptOf front (Err attempt) = IsRefusal front attempt

-- of a script with a trace
abbrev pub IsOfParts : List ℕ → List ℕ → Attempt → Type 0
IsOfParts front trace (Refused text) = IsRefusal front (Refused text)
IsOfParts front trace OutOfMemory = ⊤
IsOfParts front trace attempt = (script : Script) × Reads front (Ok script) × IsOfTrace script trace attempt

-- of bytes in which no trace begins
abbrev pub IsOfFront : List ℕ → Attempt → Type 0
IsOfFront front (NotATrace text) = (script : Script) × Reads front (Ok script) × (text.items ≡ no_trace_text 0)
IsOfFront front attempt = IsRefusal front attempt

abbrev pub refused_as : {E : Type 0} → Result (Vec ℕ Global) E → Attempt
refused_as (Ok text) = Refused text
refused_as (Err e) = OutOfMemory
