-- Whether a command has done what its answer says, as tests.
use Rattle.std.specs.Prelude.{ℕ, zero, suc, ◌+◌, ◌==◌, nat_eq, Bool, true, false, not, ◌&&◌, ◌||◌, List, [], ◌∷◌, length, filter, take, Some, None, if◌then◌else◌}
use Rattle.std.specs.BTreeSet.{BTreeSet, contains}
use Rattle.std.specs.Cmp.Lexicographic.{pointwise}
use Rattle.std.specs.List.{list_all, list_any, zip}
use Rattle.std.specs.Ordering.{int_eq, nat_cmp}
use Rattle.std.specs.declared.option.Option.{Option}
use Rattle.gx_ids.specs.declared.ids.Gxid.{Gxid}
use Rattle.gx_ids.specs.declared.ids.Cid.{Cid}
use Rattle.gx_ids.specs.declared.ids.Table.{Table}
use Rattle.gx_ids.specs.declared.rid.Rid.{Rid}
use Rattle.gx_modes.specs.declared.modes.Mode.{Mode}
use Rattle.gx_tree.specs.declared.cell.Cell.{Cell}
use Rattle.gx_tree.specs.declared.cell.Cell.TheVariants.{Int, Text, Null}
use Rattle.gx_tree.specs.declared.cond.Cond.{Cond}
use Rattle.gx_tree.specs.declared.expr.Expr.{Expr}
use Rattle.gx_tree.specs.declared.query.Query.{Query}
use Rattle.gx_tree.specs.declared.row.KeyedRow.{KeyedRow}
use Rattle.gx_tree.specs.declared.stmt.Level.{Level}
use Rattle.gx_tree.specs.declared.stmt.Stmt.{Stmt}
use Rattle.gx_tree.specs.declared.stmt.Stmt.TheVariants.{Select, Insert, Update, Delete, Lock}
use Rattle.gx_meaning.specs.Answer.{part_of}
use Rattle.gx_meaning.specs.Merged.{merged_answer}
use Rattle.gx_script.specs.declared.Script.{Script}
use Rattle.gx_waits.specs.declared.claim.Claim.{Claim}
use Rattle.gx_waits.specs.declared.object.Object.TheVariants.{Relation}
use Rattle.gx_waits.specs.Claim.{same_claim}
use Rattle.gx_store.specs.declared.answer.StmtAnswer.{StmtAnswer}
use Rattle.gx_store.specs.declared.answer.StmtAnswer.TheVariants.{Locked, Inserted, Updated, Deleted, Rows}
use Rattle.gx_store.specs.declared.mark.Mark.{Mark}
use Rattle.gx_store.specs.declared.mark.Mark.TheVariants.{Hold, Release}
use Rattle.gx_store.specs.Commands.{condition_on, has_own_snapshot}
use Rattle.gx_store.specs.Marks.{is_processed}
use Rattle.gx_waits.specs.Claims.{claim}
use Rattle.gx_legal.specs.RowsDone.{faults_on_none, has_changed}
use Rattle.gx_legal.specs.Faulted.{are_whole}
use Rattle.gx_legal.specs.Places.{snapshots}
use Rattle.gx_legal.specs.Selected.{is_met}
use Rattle.gx_legal.specs.Viewed.{view_rows}

-- SELECT
abbrev pub is_same_cell : Cell → Cell → Bool
is_same_cell (Int m) (Int n) = int_eq m n
is_same_cell (Int m) (Text t) = false
is_same_cell (Int m) Null = false
is_same_cell (Text s) (Int n) = false
is_same_cell (Text s) (Text t) = pointwise nat_eq s t
is_same_cell (Text s) Null = false
is_same_cell Null (Int n) = false
is_same_cell Null (Text t) = false
is_same_cell Null Null = true

abbrev pub are_same_cells : List Cell → List Cell → Bool
are_same_cells cells others = pointwise is_same_cell cells others

abbrev pub is_same_answer : List (List Cell) → List (List Cell) → Bool
is_same_answer rows others = (length rows == length others) && list_all (λ p. are_same_cells p.0 p.1) (zip rows others)

-- the rows on which the condition is true
abbrev pub met_rows : Option Cond → List KeyedRow → List KeyedRow
met_rows cond rows = filter (λ row. is_met (condition_on cond row.row)) rows

-- what a query answers on these rows, as if one segment had sent them
abbrev pub whole_answer : Query → List KeyedRow → List (List Cell)
whole_answer query rows = merged_answer query (part_of query (met_rows query.cond rows) ∷ [])

abbrev pub is_shown_by : Query → List (List Cell) → List KeyedRow → Bool
is_shown_by query answer rows = faults_on_none query.cond rows && is_same_answer answer (whole_answer query rows)

-- the same on the rows that the command sees by the snapshot at this place
abbrev pub is_shown_at : List Mark → Gxid → Cid → Query → List (List Cell) → ℕ → Bool
is_shown_at marks g c query answer place = is_shown_by query answer (view_rows marks (take place marks) (Some (g, c)) query.table)

abbrev pub has_shown : List Mark → Level → Gxid → Cid → Query → List (List Cell) → Bool
has_shown marks level g c query answer =
    list_any (is_shown_at marks g c query answer) (snapshots marks level g c)

-- INSERT
-- the command's own row that has so many before it
abbrev pub own_row : Gxid → Cid → ℕ → Rid
own_row g c place = record { gxid = g; cid = c; ordinal = place + 1 }

-- the row of each tuple is done, where the first has so many before it
abbrev pub are_own_done : List Mark → Gxid → Cid → ℕ → List (List Expr) → Bool
are_own_done marks g c place [] = true
are_own_done marks g c place (tuple ∷ tuples) = is_processed marks g c (own_row g c place) && are_own_done marks g c (place + 1) tuples

-- the ordinal of each tuple's row is in the set
abbrev pub are_ordinals_in : BTreeSet ℕ → ℕ → List (List Expr) → Bool
are_ordinals_in ordinals place [] = true
are_ordinals_in ordinals place (tuple ∷ tuples) = contains nat_cmp ordinals (place + 1) && are_ordinals_in ordinals (place + 1) tuples

abbrev pub has_inserted : List Mark → Level → Gxid → Cid → List (List Expr) → ℕ → Bool
has_inserted marks level g c tuples n = (n == length tuples) && (has_own_snapshot level marks g c && (are_whole tuples && are_own_done marks g c 0 tuples))

-- LOCK
-- whether a claim is held at a node after a mark, and after marks, from whether it was before
abbrev pub held_after : ℕ → Claim → Bool → Mark → Bool
held_after node wanted held (Hold n g object mode) = held || ((n.0 == node) && same_claim wanted (claim g object mode))
held_after node wanted held (Release n g object mode) = held && not ((n.0 == node) && same_claim (claim g object mode) wanted)
held_after node wanted held _ = held

abbrev pub held_from : ℕ → Claim → Bool → List Mark → Bool
held_from node wanted held [] = held
held_from node wanted held (m ∷ ms) = held_from node wanted (held_after node wanted held m) ms

-- whether it is held at the node by what one mark does to it there, if it does anything to it
abbrev pub held_by : ℕ → Claim → Mark → Option Bool
held_by node wanted (Hold n g object mode) = if (n.0 == node) && same_claim wanted (claim g object mode) then Some true else None
held_by node wanted (Release n g object mode) = if (n.0 == node) && same_claim (claim g object mode) wanted then Some false else None
held_by node wanted _ = None

-- it is held at each of the first nodes
abbrev pub is_held_below : List Mark → Claim → ℕ → Bool
is_held_below marks wanted zero = true
is_held_below marks wanted (suc node) = is_held_below marks wanted node && held_from node wanted false marks

abbrev pub has_locked : List Mark → ℕ → Gxid → Table → Mode → Bool
has_locked marks segments g table mode = is_held_below marks (claim g (Relation table) mode) (segments + 1)

-- EACH STATEMENT
abbrev pub tells_rows : List Mark → Level → Gxid → Cid → Query → StmtAnswer → Bool
tells_rows marks level g c query (Rows rows) = has_shown marks level g c query rows
tells_rows marks level g c query _ = false

abbrev pub tells_inserted : List Mark → Level → Gxid → Cid → List (List Expr) → StmtAnswer → Bool
tells_inserted marks level g c tuples (Inserted n) = has_inserted marks level g c tuples n
tells_inserted marks level g c tuples _ = false

abbrev pub tells_updated : List Mark → Level → Gxid → Cid → Table → Option Cond → StmtAnswer → Bool
tells_updated marks level g c table cond (Updated n) = has_changed marks level g c table cond n
tells_updated marks level g c table cond _ = false

abbrev pub tells_deleted : List Mark → Level → Gxid → Cid → Table → Option Cond → StmtAnswer → Bool
tells_deleted marks level g c table cond (Deleted n) = has_changed marks level g c table cond n
tells_deleted marks level g c table cond _ = false

abbrev pub tells_locked : List Mark → ℕ → Gxid → Table → Mode → StmtAnswer → Bool
tells_locked marks segments g table mode Locked = has_locked marks segments g table mode
tells_locked marks segments g table mode _ = false

abbrev pub has_told : Script → List Mark → Level → Gxid → Cid → Stmt → StmtAnswer → Bool
has_told script marks level g c (Select query) answer = tells_rows marks level g c query answer
has_told script marks level g c (Insert table tuples) answer = tells_inserted marks level g c tuples answer
has_told script marks level g c (Update table assigns cond) answer = tells_updated marks level g c table cond answer
has_told script marks level g c (Delete table cond) answer = tells_deleted marks level g c table cond answer
has_told script marks level g c (Lock table mode) answer = tells_locked marks script.segments g table mode answer
has_told script marks level g c _ answer = false
