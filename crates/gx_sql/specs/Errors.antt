-- What a line's error is, by the error of the stage that found it.
use Rattle.std.specs.Prelude.{◌≡◌}
use Rattle.gx_grammar.specs.declared.fault.ReadError.{ReadError}
use Rattle.gx_grammar.specs.declared.fault.ReadError.TheVariants as read
use Rattle.gx_resolve.specs.declared.fault.ResolveError.{ResolveError}
use Rattle.gx_resolve.specs.declared.fault.ResolveError.TheVariants as resolve
use Rattle.gx_sql.specs.declared.refusal.LineError.{LineError}
use Rattle.gx_sql.specs.declared.refusal.LineError.TheVariants as error
use Rattle.gx_sql.specs.Progress.{fault_of}
use Rattle.gx_sql.specs.Script.{fault_of_tokens}

abbrev pub IsOfNames : ResolveError → LineError → Type 0
IsOfNames (resolve.Fault f) e = e ≡ error.Fault (fault_of f)
IsOfNames resolve.OutOfMemory e = e ≡ error.OutOfMemory

abbrev pub IsOfTokens : ReadError → LineError → Type 0
IsOfTokens (read.Fault f left) e = e ≡ error.Fault (fault_of_tokens f)
IsOfTokens read.OutOfMemory e = e ≡ error.OutOfMemory
