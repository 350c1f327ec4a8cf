-- The line that tells why bytes are no script, as `gx` tells it, and the line of the script that it names.
use Rattle.std.specs.Prelude.{ℕ, List, ◌++◌, codes}
use Rattle.std.specs.Fmt.{decimal}
use Rattle.gx_sql.specs.declared.refusal.Limit.{Limit}
use Rattle.gx_sql.specs.declared.refusal.Limit.TheVariants as limit
use Rattle.gx_sql.specs.declared.refusal.LineFault.{LineFault}
use Rattle.gx_sql.specs.declared.refusal.LineFault.TheVariants as fault

abbrev pub limit_name : Limit → List ℕ
limit_name limit.Segments = codes "segments"
limit_name limit.Sessions = codes "sessions"
limit_name limit.Tables = codes "tables"
limit_name limit.Groups = codes "groups"
limit_name limit.Columns = codes "columns"
limit_name limit.Lines = codes "lines"
limit_name limit.Name = codes "name"
limit_name limit.Text = codes "text"
limit_name limit.Depth = codes "depth"

-- the line of the script, counted from 1
abbrev pub at_line : ℕ → List ℕ
at_line number = codes " line " ++ decimal number ++ codes "\n"

-- what is wrong with a line
abbrev pub fault_name : LineFault → List ℕ
fault_name fault.Syntax = codes "1 syntax"
fault_name fault.UnknownTable = codes "2 unknown table"
fault_name fault.UnknownColumn = codes "3 unknown column"
fault_name fault.TableExists = codes "4 table exists"
fault_name fault.TypeMismatch = codes "5 type mismatch"
fault_name fault.KeyUpdate = codes "6 key update"
fault_name (fault.TooMany l) = codes "7 too many " ++ limit_name l

abbrev pub reason_at : ℕ → LineFault → List ℕ
reason_at number f = codes "refused " ++ fault_name f ++ at_line number

abbrev pub reason_utf8 : ℕ → List ℕ
reason_utf8 place = codes "refused 8 not utf-8 byte " ++ decimal place ++ codes "\n"
