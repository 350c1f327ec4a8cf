-- Names of a script, found by their letters.
use Rattle.std.specs.Prelude.{ℕ, ◌+◌, ◌^◌, nat_eq, nat_lt, if◌then◌else◌, List, [], ◌∷◌, take, drop, Option, Some, None, option_and_then, codes, slice_get, unwrap_or}
use Rattle.std.specs.List.{prefix_len}
use Rattle.std.specs.Cmp.Lexicographic.{pointwise}
use Rattle.gx_ids.specs.declared.ids.SessionId.{SessionId}
use Rattle.gx_ids.specs.declared.ids.Table.{Table}
use Rattle.gx_script.specs.declared.Script.{Script}
use Rattle.gx_store.specs.Limits.{is_name_byte}
use Rattle.gx_trace.specs.Lawful.{names_of}
use Rattle.gx_trace.specs.Readers.{Front, behind, made}

-- the place of a name, from this one on
abbrev pub found : ℕ → List (List ℕ) → List ℕ → Option ℕ
found place [] name = None
found place (n ∷ ns) name = if pointwise nat_eq n name then Some place else found (place + 1) ns name

abbrev pub kept_small : List ℕ → ℕ → Front ℕ
kept_small left place = if nat_lt place (2 ^ 8) then Some (place, left) else None

-- the place of the name that stands here
abbrev pub named : List (List ℕ) → List ℕ → Front ℕ
named names bytes = option_and_then (kept_small (drop (prefix_len is_name_byte bytes) bytes)) (found 0 names (take (prefix_len is_name_byte bytes) bytes))

abbrev pub name_at : List (List ℕ) → ℕ → List ℕ
name_at names place = unwrap_or (slice_get names place) []

abbrev pub session_of : ℕ → SessionId
session_of n = record { 0 = n }

abbrev pub table_of : ℕ → Table
table_of n = record { 0 = n }

abbrev pub session : Script → List ℕ → Front SessionId
session script bytes = made session_of (behind (codes " ") (named script.sessions) bytes)

abbrev pub table : Script → List ℕ → Front Table
table script bytes = made table_of (behind (codes " ") (named (names_of script.tables)) bytes)
