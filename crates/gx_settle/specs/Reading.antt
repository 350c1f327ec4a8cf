-- Why an input isn't read.
use Rattle.std.specs.Prelude.{⊤, ℕ, List}
use Rattle.gx_settle.specs.declared.reading.ReadRefusal.{ReadRefusal}
use Rattle.gx_settle.specs.declared.reading.ReadRefusal.TheVariants.{Line, OutOfMemory}
use Rattle.gx_settle.specs.Commands.{IsFirstOther, lines_of}

abbrev pub IsReadRefused : List ℕ → ReadRefusal → Type 0
IsReadRefused bytes (Line number) = IsFirstOther (lines_of bytes) number
IsReadRefused bytes OutOfMemory = ⊤
