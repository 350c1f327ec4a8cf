-- Where in a refused line its fault is.
use Rattle.std.specs.Prelude.{◌≡◌, ◌⊎◌, ℕ, ◌+◌, ◌==◌, Bool, true, false, not, if◌then◌else◌, List, [], ◌∷◌, ◌++◌, length, drop, Option, Some, None, Result, Ok, Err, is_ok, is_none}
use Rattle.std.specs.List.{prefix_len}
use Rattle.std.specs.Option.{option_and_then}
use Rattle.gx_ids.specs.declared.ids.Table.{Table}
use Rattle.gx_lex.specs.declared.token.Token.{Token}
use Rattle.gx_lex.specs.declared.word.Word.TheVariants as word
use Rattle.gx_grammar.specs.declared.fault.Limits.{Limits}
use Rattle.gx_grammar.specs.declared.fault.Fault.{Fault}
use Rattle.gx_grammar.specs.declared.fault.ReadError.{ReadError}
use Rattle.gx_grammar.specs.declared.fault.ReadError.TheVariants as errors
use Rattle.gx_grammar.specs.Rules.{Stops}
use Rattle.gx_lines.specs.declared.classes.Size.{Size}
use Rattle.gx_lines.specs.declared.syn.ItemSyn.{ItemSyn}
use Rattle.gx_lines.specs.declared.syn.ItemSyn.TheVariants as item_syn
use Rattle.gx_lines.specs.declared.syn.ItemsSyn.{ItemsSyn}
use Rattle.gx_lines.specs.declared.syn.ItemsSyn.TheVariants as items_syn
use Rattle.gx_lines.specs.declared.syn.TupleSyn.{TupleSyn}
use Rattle.gx_lines.specs.declared.syn.AssignSyn.{AssignSyn}
use Rattle.gx_lines.specs.declared.syn.KeySyn.{KeySyn}
use Rattle.gx_lines.specs.declared.syn.SelectSyn.{SelectSyn}
use Rattle.gx_lines.specs.declared.syn.StmtSyn.{StmtSyn}
use Rattle.gx_lines.specs.declared.syn.StmtSyn.TheVariants as stmt_syn
use Rattle.gx_lines.specs.declared.syn.GroupSyn.{GroupSyn}
use Rattle.gx_lines.specs.declared.syn.LineSyn.{LineSyn}
use Rattle.gx_lines.specs.declared.syn.LineSyn.TheVariants as line_syn
use Rattle.gx_lines.specs.Heads.{segments, head_line, session_line}
use Rattle.gx_script.specs.declared.Line.{Line}
use Rattle.gx_tree.specs.declared.schema.Column.{Column}
use Rattle.gx_tree.specs.declared.schema.Dist.{Dist}
use Rattle.gx_tree.specs.declared.schema.Dist.TheVariants as dist
use Rattle.gx_tree.specs.declared.schema.Schema.{Schema}
use Rattle.gx_tree.specs.declared.stmt.Assign.{Assign}
use Rattle.gx_resolve.specs.Results.{Answer}
use Rattle.gx_resolve.specs.Naming.{is_among, group_names}
use Rattle.gx_resolve.specs.Kinding.{tuple_as, assign_as}
use Rattle.gx_resolve.specs.Selecting.{item_as, is_grouped}
use Rattle.gx_resolve.specs.Resolving.{table_after, table_named}
use Rattle.gx_sql.specs.declared.groups.GroupHead.{GroupHead}
use Rattle.gx_sql.specs.declared.refusal.Limit.TheVariants as limit
use Rattle.gx_sql.specs.declared.refusal.LineFault.{LineFault}
use Rattle.gx_sql.specs.declared.refusal.LineFault.TheVariants as fault
use Rattle.gx_sql.specs.Groups.{before_standing, is_group}
use Rattle.gx_sql.specs.Progress.{Progress}
use Rattle.gx_sql.specs.Script.{the_limits}
use Rattle.gx_explain.specs.Parts.{before_word, before_part, before_table, before_unknown, before_repeated}

-- BY THE GRAMMAR
-- the token behind so many others is the first that no line of this rule goes on with, or none within the limits; or the line ends there too early
abbrev pub IsStopped : {X : Type 0} → (Limits → X → List Token → Type 0) → List Token → ℕ → Type 0
IsStopped rule ts place = (us : List Token) × (rest : List Token) × (f : Fault) × (ts ≡ us ++ rest) × (length us ≡ place) × Stops rule the_limits us rest f

-- BY COUNTS
-- a further session is told by the first token, a further table or group by its name, a further column by the name of a 33rd, a further line by its front
abbrev pub counted : LineFault → Option ℕ
counted (fault.TooMany limit.Sessions) = Some 0
counted (fault.TooMany limit.Tables) = Some 1
counted (fault.TooMany limit.Groups) = Some 1
counted (fault.TooMany limit.Columns) = Some 99
counted (fault.TooMany limit.Lines) = Some 0
counted _ = None

-- BY KINDS
-- the first part of a statement that isn't of its kind, with how many tokens stand before it
abbrev pub before_where : List Token → ℕ
before_where ts = before_word word.Where ts + 1

-- behind the name of the session, the colon and SELECT
abbrev pub before_item : ℕ → List Token → ℕ
before_item k ts = 3 + before_part k 0 (drop 3 ts)

-- behind the name of the session, the colon and INSERT INTO NAME VALUES
abbrev pub before_tuple : ℕ → List Token → ℕ
before_tuple k ts = 6 + before_part k 0 (drop 6 ts)

-- behind the name of the session, the colon and UPDATE NAME SET
abbrev pub before_assignment : ℕ → List Token → ℕ
before_assignment k ts = 5 + before_part k 0 (drop 5 ts)

-- an item of a grouped query is an aggregate or a GROUP BY column
abbrev pub may_group : List (List ℕ) → ItemSyn → Bool
may_group names (item_syn.Column name) = is_among names name
may_group names _ = true

-- how many of the items stand before the first that is wrong by itself
abbrev pub good_items : List Column → List ItemSyn → ℕ
good_items columns items = prefix_len (λ item. is_ok (item_as columns item)) items

abbrev pub is_too_large : Option Size → Bool
is_too_large None = false
is_too_large (Some size) = is_none size.0

-- how many keys stand before the first that is no GROUP BY column
abbrev pub good_keys : List (List ℕ) → List KeySyn → ℕ
good_keys names keys = prefix_len (λ key. is_among names key.column) keys

-- so many, where that isn't all
abbrev pub among : ℕ → ℕ → Option ℕ
among n all = if n == all then None else Some n

-- the first item that is wrong by itself
abbrev pub wrong_item : List Column → ItemsSyn → Option ℕ
wrong_item columns items_syn.All = None
wrong_item columns (items_syn.These items) = among (good_items columns items) (length items)

-- the first item that may not stand in a grouped query
abbrev pub plain_item : List (List ℕ) → ItemsSyn → Option ℕ
plain_item names items_syn.All = Some 0
plain_item names (items_syn.These items) = among (prefix_len (may_group names) items) (length items)

-- the first key that is no GROUP BY column
abbrev pub plain_key : List (List ℕ) → Option (List KeySyn) → Option ℕ
plain_key names None = None
plain_key names (Some keys) = among (good_keys names keys) (length keys)

-- behind ORDER BY
abbrev pub before_key : ℕ → List Token → ℕ
before_key k ts = before_word word.Order ts + 2 + before_part k 0 (drop (before_word word.Order ts + 2) ts)

-- the key that isn't a GROUP BY column, where there is one; else the condition
abbrev pub key_place : Option ℕ → List Token → ℕ
key_place (Some k) ts = before_key k ts
key_place None ts = before_where ts

abbrev pub group_place : SelectSyn → Option ℕ → List Token → ℕ
group_place s (Some k) ts = before_item k ts
group_place s None ts = key_place (plain_key (group_names s.group) s.order) ts

-- The item that is wrong by itself, where there is one; else a limit that is too large; else the part that breaks the rules of groups; else the
-- condition.
abbrev pub select_place : SelectSyn → Option ℕ → List Token → ℕ
select_place s (Some k) ts = before_item k ts
select_place s None ts = if is_too_large s.limit then before_word word.Limit ts + 1
    else if is_grouped s then group_place s (plain_item (group_names s.group) s.items) ts else before_where ts

-- the first assignment that is wrong; else the condition
abbrev pub update_place : Option ℕ → List Token → ℕ
update_place (Some k) ts = before_assignment k ts
update_place None ts = before_where ts

abbrev pub good_tuples : List Column → List TupleSyn → ℕ
good_tuples columns tuples = prefix_len (λ tuple. is_ok (tuple_as columns tuple)) tuples

abbrev pub good_assigns : List Column → List AssignSyn → ℕ
good_assigns columns assigns = prefix_len (λ assign. is_ok (assign_as columns assign)) assigns

-- the first part of a statement that is wrong by its kinds, counts and ranges
abbrev pub mismatch_place : List Column → StmtSyn → List Token → ℕ
mismatch_place columns (stmt_syn.Select select) ts = select_place select (wrong_item columns select.items) ts
mismatch_place columns (stmt_syn.Insert table tuples) ts = before_tuple (good_tuples columns tuples) ts
mismatch_place columns (stmt_syn.Update table assigns cond) ts = update_place (among (good_assigns columns assigns) (length assigns)) ts
mismatch_place columns (stmt_syn.Delete table cond) ts = before_where ts
mismatch_place columns _ ts = 0

abbrev pub sets : ℕ → Answer Assign → Bool
sets key (Ok assign) = assign.col == key
sets key (Err e) = false

-- how many assignments stand before the one that sets the column at this place
abbrev pub other_assigns : List Column → ℕ → List AssignSyn → ℕ
other_assigns columns key assigns = prefix_len (λ assign. not (sets key (assign_as columns assign))) assigns

-- the assignment that sets the distribution column
abbrev pub key_set_place : List Column → ℕ → StmtSyn → List Token → ℕ
key_set_place columns key (stmt_syn.Update table assigns cond) ts = before_assignment (other_assigns columns key assigns) ts
key_set_place columns key _ ts = 0

abbrev pub key_update_place : List Column → Dist → StmtSyn → List Token → ℕ
key_update_place columns (dist.By key) written ts = key_set_place columns key written ts
key_update_place columns dist.Randomly written ts = 0

-- BY NAMES
-- the name of the table; the name that is no column; the column that SET assigns once more; and by kinds
abbrev pub session_place : Schema → StmtSyn → LineFault → List Token → ℕ
session_place schema written fault.Syntax ts = before_repeated true [] false ts
session_place schema written fault.UnknownColumn ts = 1 + before_unknown schema.columns false (drop 1 ts)
session_place schema written fault.TypeMismatch ts = mismatch_place schema.columns written ts
session_place schema written fault.KeyUpdate ts = key_update_place schema.columns schema.dist written ts
session_place schema written _ ts = 0

abbrev pub found_place : Option (Table × Schema) → StmtSyn → LineFault → List Token → ℕ
found_place None written f ts = before_table ts
found_place (Some found) written f ts = session_place found.1 written f ts

-- the name of the table; the column that is declared once more; the name of the distribution column
abbrev pub table_place : LineFault → List Token → ℕ
table_place fault.Syntax ts = before_repeated false [] false ts
table_place fault.UnknownColumn ts = before_word word.By ts + 2
table_place _ ts = 1

-- behind the word, the name of the group, LIMIT, its number and IN
abbrev pub before_member : ℕ → List Token → ℕ
before_member k ts = 5 + before_part k 0 (drop 5 ts)

-- the name of the group, where it is known; else the session that stands in a group already, or before in the line
abbrev pub told_place : List GroupHead → List (List ℕ × ℕ) → GroupSyn → List Token → ℕ
told_place groups members g ts = if is_group g.name groups then 1 else before_member (before_standing (length groups) members g.sessions) ts

-- a second line on the detector is wrong from its first token on
abbrev pub written_place : List GroupHead → List (List ℕ × ℕ) → List Schema → LineSyn → LineFault → List Token → ℕ
written_place groups members tables (line_syn.Detector s) f ts = 0
written_place groups members tables (line_syn.Table t) f ts = table_place f ts
written_place groups members tables (line_syn.Link l) f ts = 0
written_place groups members tables (line_syn.Group g) f ts = told_place groups members g ts
written_place groups members tables (line_syn.Session name written) f ts = found_place (option_and_then (λ table. table_after 0 table tables) (table_named written)) written f ts

-- of tokens that were read so: by what is wrong with the line, or before those that are left
abbrev pub IsPlaceOf : List GroupHead → List (List ℕ × ℕ) → List Schema → LineFault → List Token → Result LineSyn ReadError → ℕ → Type 0
IsPlaceOf groups members tables f ts (Ok x) place = place ≡ written_place groups members tables x f ts
IsPlaceOf groups members tables f ts (Err (errors.Fault g left)) place = place + left ≡ length ts
IsPlaceOf groups members tables f ts (Err errors.OutOfMemory) place = ⊥

-- by the rule of a line, or by what is wrong with a line that is written by it
abbrev pub IsPlaceBy : (Limits → LineSyn → List Token → Type 0) → List GroupHead → List (List ℕ × ℕ) → List Schema → LineFault → List Token → ℕ → Type 0
IsPlaceBy rule groups members tables f ts place = IsStopped rule ts place ⊎ ((x : LineSyn) × rule the_limits x ts × (place ≡ written_place groups members tables x f ts))

-- the first line tells the segments; where so many were told a head may stand where no session's line came before
abbrev pub IsPlaceIn : Option ℕ → List Line → List GroupHead → List (List ℕ × ℕ) → List Schema → LineFault → List Token → ℕ → Type 0
IsPlaceIn None lines groups members tables f ts place = IsStopped segments ts place
IsPlaceIn (Some n) [] groups members tables f ts place = IsPlaceBy (head_line n) groups members tables f ts place
IsPlaceIn (Some n) (_ ∷ _) groups members tables f ts place = IsPlaceBy session_line groups members tables f ts place

-- by its count, where one is passed; else as what the lines before said lets it stand
abbrev pub IsPlaceBehind : Option ℕ → Progress → LineFault → List Token → ℕ → Type 0
IsPlaceBehind (Some count) p f ts place = place ≡ count
IsPlaceBehind None p f ts place = IsPlaceIn p.segments p.lines p.groups p.members p.tables f ts place

-- what the lines before said, what is wrong with a line, its tokens, and how many of them stand before the faulty one
abbrev pub IsPlace : Progress → LineFault → List Token → ℕ → Type 0
IsPlace p f ts place = IsPlaceBehind (counted f) p f ts place
