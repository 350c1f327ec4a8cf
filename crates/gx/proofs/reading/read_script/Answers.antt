use Rattle.std.proofs.Common.{◌≡◌, ℕ, List, Ok, Err, ap, subst}
use Rattle.std.proofs.lemmas.Result.{IfErr-weaker, IfOk-weaker}
use Rattle.std.specs.Prelude.{IfErr, IfOk}
use Rattle.gx_script.specs.declared.Script.{Script}
use Rattle.gx_sql.specs.Script.{Reads}
use Rattle.gx_words.specs.declared.options.Options.{Options}
use Rattle.gx.specs.Top.{IsNoScript}
use Rattle.gx.proofs.Attempts.{none-given, none-of-none, script-given}
use Rattle.gx.proofs.reading.read_script.Goals as goal

pub returns-in-Err-Usage-clause-is : goal.returns-in-Err-Usage-clause-is
returns-in-Err-Usage-clause-is g c = c.in-Err-Usage.ensures.refused (ap Err c.in-Err-Usage.field-0-is)

pub returns-in-Ok-script_bytes-clause-given : goal.returns-in-Ok-script_bytes-clause-given
returns-in-Ok-script_bytes-clause-given g c =
    let has = c.in-Ok-script_bytes.ensures.has in
    IfOk-weaker c.script_of.result _ _ (script-given _ _ _ _ _ c.in-Ok.options c.in-Ok.ensures.read _ has.0 has.1 has.2)
    (subst (λ (bytes : List ℕ). IfOk c.script_of.result (λ (r : Options × Script). (r.0 ≡ c.in-Ok.options) × Reads bytes (Ok r.1))) c.as_slice.ensures.value c.script_of.ensures.ok)

pub returns-in-Ok-script_bytes-clause-is : goal.returns-in-Ok-script_bytes-clause-is
returns-in-Ok-script_bytes-clause-is g c =
    let has = c.in-Ok-script_bytes.ensures.has in
    IfErr-weaker c.script_of.result _ _ (none-given _ _ _ _ _ c.in-Ok.options c.in-Ok.ensures.read _ has.0 has.1 has.2)
    (subst (λ (bytes : List ℕ). IfErr c.script_of.result (IsNoScript bytes)) c.as_slice.ensures.value c.script_of.ensures.err)

pub returns-in-Ok-script_bytes-clause-none : goal.returns-in-Ok-script_bytes-clause-none
returns-in-Ok-script_bytes-clause-none g c = IfErr-weaker c.script_of.result _ _ (none-of-none _) c.script_of.ensures.err

pub returns-in-Ok-script_bytes-clause-unread : goal.returns-in-Ok-script_bytes-clause-unread
returns-in-Ok-script_bytes-clause-unread g c =
    λ none. c.script_bytes.ensures.unread (λ plain. none (record { options = c.in-Ok.options; asked = c.in-Ok.ensures.read; plain = plain }))

pub returns-in-Err-ReadFault-clause-unread : goal.returns-in-Err-ReadFault-clause-unread
returns-in-Err-ReadFault-clause-unread g c =
    λ none. c.script_bytes.ensures.unread (λ plain. none (record { options = c.in-Ok.options; asked = c.in-Ok.ensures.read; plain = plain }))

pub returns-in-Err-TooLarge-clause-unread : goal.returns-in-Err-TooLarge-clause-unread
returns-in-Err-TooLarge-clause-unread g c =
    λ none. c.script_bytes.ensures.unread (λ plain. none (record { options = c.in-Ok.options; asked = c.in-Ok.ensures.read; plain = plain }))

pub returns-in-Err-OutOfMemory-script_bytes-clause-unread : goal.returns-in-Err-OutOfMemory-script_bytes-clause-unread
returns-in-Err-OutOfMemory-script_bytes-clause-unread g c =
    λ none. c.script_bytes.ensures.unread (λ plain. none (record { options = c.in-Ok.options; asked = c.in-Ok.ensures.read; plain = plain }))
