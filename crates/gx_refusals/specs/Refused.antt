-- The one line that tells why bytes are no script.
use Rattle.std.specs.Prelude.{ℕ, List, ◌++◌, Some, None, codes}
use Rattle.std.specs.Fmt.{decimal}
use Rattle.std.specs.declared.option.Option.{Option}
use Rattle.gx_sql.specs.declared.refusal.Limit.{Limit}
use Rattle.gx_sql.specs.declared.refusal.Limit.TheVariants as limit
use Rattle.gx_sql.specs.declared.refusal.Refusal.{Refusal}
use Rattle.gx_sql.specs.declared.refusal.Refusal.TheVariants as refusal

abbrev pub limit_name : Limit → List ℕ
limit_name limit.Segments = codes "segments"
limit_name limit.Sessions = codes "sessions"
limit_name limit.Tables = codes "tables"
limit_name limit.Groups = codes "groups"
limit_name limit.Columns = codes "columns"
limit_name limit.Lines = codes "lines"
limit_name limit.Name = codes "name"
limit_name limit.Text = codes "text"
limit_name limit.Depth = codes "depth"

-- the line of the script, counted from 1
abbrev pub at_line : ℕ → List ℕ
at_line number = codes " line " ++ decimal number ++ codes "\n"

-- want of memory says nothing about the bytes, and has no text
abbrev pub refusal_text : Refusal → Option (List ℕ)
refusal_text (refusal.Syntax number) = Some (codes "refused 1 syntax" ++ at_line number)
refusal_text (refusal.UnknownTable number) = Some (codes "refused 2 unknown table" ++ at_line number)
refusal_text (refusal.UnknownColumn number) = Some (codes "refused 3 unknown column" ++ at_line number)
refusal_text (refusal.TableExists number) = Some (codes "refused 4 table exists" ++ at_line number)
refusal_text (refusal.TypeMismatch number) = Some (codes "refused 5 type mismatch" ++ at_line number)
refusal_text (refusal.KeyUpdate number) = Some (codes "refused 6 key update" ++ at_line number)
refusal_text (refusal.TooMany number l) = Some (codes "refused 7 too many " ++ limit_name l ++ at_line number)
refusal_text (refusal.NotUtf8 place) = Some (codes "refused 8 not utf-8 byte " ++ decimal place ++ codes "\n")
refusal_text refusal.OutOfMemory = None
