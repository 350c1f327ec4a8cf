-- What is said of bytes that are a script, of a run of nodes apart.
use Rattle.std.proofs.Common.{◌≡◌, ◌∙◌, ℕ, List, None, Ok, ap, is_some, false, sym, true}
use Rattle.gx_script.specs.declared.Script.{Script}
use Rattle.gx_sql.specs.Script.{Reads}
use Rattle.gx_words.specs.declared.options.Options.{Options}
use Rattle.gx_judge.specs.Apart.{IsApartOfBytes, IsJudgedApart}
use Rattle.gx_judge.specs.declared.verdict.Verdict.{Verdict}
use Rattle.gx_judge.specs.declared.verdict.Verdict.TheVariants.{Legal, NotLegal, NoRun, OutOfMemory}

-- bytes are read as a script of whose run this is said
pub of-script-apart : (bytes : List ℕ) (script : Script) (options : Options) (verdict : Verdict) → Reads bytes (Ok script) → IsJudgedApart script options verdict → IsApartOfBytes bytes options verdict
of-script-apart bytes script options (Legal text) reads is = (script, reads, is)
of-script-apart bytes script options (NotLegal text) reads is = (script, reads, is)
of-script-apart bytes script options NoRun reads is = absurd is.said
of-script-apart bytes script options OutOfMemory reads is = absurd is.said

-- options with a seed are none without one
pub has-seed : (options others : Options) → is_some options.seed ≡ true → others ≡ options → others.seed ≡ None → ⊥
has-seed options others some same none = absurd (none-some (sym (ap (λ (o : Options). is_some o.seed) same) ∙ ap is_some none) some)
  where
    none-some : is_some options.seed ≡ false → is_some options.seed ≡ true → ⊥
    none-some f t = absurd (cc)
