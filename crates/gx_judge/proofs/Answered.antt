-- What is said of bytes that are a script.
use Rattle.std.proofs.Common.{ℕ, List, Ok}
use Rattle.gx_script.specs.declared.Script.{Script}
use Rattle.gx_sql.specs.Script.{Reads}
use Rattle.gx_judge.specs.Judged.{IsJudged, IsOfBytes}
use Rattle.gx_judge.specs.declared.asked.Asked.{Asked}
use Rattle.gx_judge.specs.declared.verdict.Verdict.{Verdict}
use Rattle.gx_judge.specs.declared.verdict.Verdict.TheVariants.{Legal, NotLegal, NoRun, OutOfMemory}

-- bytes are read as a script of whose run this is said
pub of-script : (bytes : List ℕ) (script : Script) (asked : Asked) (verdict : Verdict) → Reads bytes (Ok script) → IsJudged script asked verdict → IsOfBytes bytes asked verdict
of-script bytes script asked (Legal text) reads is = (script, reads, is)
of-script bytes script asked (NotLegal text) reads is = (script, reads, is)
of-script bytes script asked NoRun reads is = absurd is.said
of-script bytes script asked OutOfMemory reads is = absurd is.said
