-- What whole bytes are read as.
use Rattle.std.proofs.Common.{◌≡◌, ℕ, zero, ◌^◌, ◌<◌, List, [], Some, sym, ◌∙◌, ap, arith}
use Rattle.std.specs.Prelude.{All, Result, Ok, Err}
use Rattle.gx_script.specs.declared.Script.{Script}
use Rattle.gx_store.specs.Language.{IsScript, IsTable, table_name}
use Rattle.gx_trace.specs.Lawful.{IsLine}
use Rattle.gx_trace.specs.Shown.{all_places}
use Rattle.gx_trace.specs.declared.seen.Seen.{Seen}
use Rattle.gx_read_trace.specs.GoingOn.{GoesOn, IsMeant, IsReading, at_steps, goes}
use Rattle.gx_read_trace.specs.Machine.{Mid}
use Rattle.gx_read_trace.specs.ReadText.{read_text}
use Rattle.gx_read_trace.specs.Reading.{HasPlainNames}
use Rattle.gx_read_trace.specs.Rests.{IsEnded, Rest}
use Rattle.gx_read_trace.specs.declared.fault.TraceFault.{TraceFault}
use Rattle.gx_read_trace.specs.declared.fault.TraceFault.TheVariants.{NotATrace, OutOfMemory}
use Rattle.gx_read_trace.proofs.Deciding.{bad-is, seen-is}
use Rattle.gx_read_trace.proofs.Places.{few-places}
use Rattle.gx_read_trace.proofs.Plain.{mapped, name-plain, names-plain}
use Rattle.gx_read_trace.proofs.Stepping.{ends_bad, ends_ok}

-- a fault of a part is one of the whole
pub part_fails : {A : Type 0} (script : Script) (old : Rest) (from : Mid) (new : Rest) (to : A → Mid) (f : TraceFault) (read : Result Seen ℕ)
    → read ≡ goes script old (Some from) → GoesOn script old from new to (Err f) → IsReading (Err f) read
part_fails script old from new to (NotATrace n) read e is = e ∙ is
part_fails script old from new to OutOfMemory read e is = tt

pub end_fails : (script : Script) (s : Seen) (rest : Rest) (f : TraceFault) (read : Result Seen ℕ) → read ≡ goes script rest (Some (at_steps s zero)) → IsEnded (Err f) rest → IsReading (Err f) read
end_fails script s rest (NotATrace n) read e is = e ∙ ends_bad script s rest is.0 ∙ ap Err (sym is.1)
end_fails script s rest OutOfMemory read e is = absurd is

pub end_reads : (script : Script) (s : Seen) (rest : Rest) (read : Result Seen ℕ) → read ≡ goes script rest (Some (at_steps s zero)) → rest.left ≡ [] → IsReading (Ok s) read
end_reads script s rest read e none = e ∙ ends_ok script s rest none

plain-names : (script : Script) → IsScript script → HasPlainNames script
plain-names script is =
    record {
      sessions = names-plain script.sessions is.sessions;
      tables = mapped IsTable IsLine table_name (λ table of_language. name-plain table.name of_language.name) script.tables is.tables;
    }

few : (script : Script) → IsScript script → All (λ (p : ℕ × ℕ). p.1 < 2 ^ 32) (all_places script.lines 0 script.sessions)
few script is = few-places script.lines 0 script.sessions (2 ^ 32) (omega (arith, is.few_lines))

pub meant : (script : Script) (bytes : List ℕ) (r : Result Seen TraceFault) → IsScript script → IsReading r (read_text script bytes) → IsMeant script bytes r
meant script bytes (Ok s) is e = seen-is script (plain-names script is) (few script is) bytes s e
meant script bytes (Err (NotATrace n)) is e = bad-is script (plain-names script is) (few script is) bytes n e
meant script bytes (Err OutOfMemory) is e = tt
