-- The pieces of a command: its slice for each segment that it concerns, by segment.
use Rattle.std.specs.Prelude.{slice_set, slice_index_or, ◌-◌, ◌++◌, ℕ, zero, suc, ◌+◌, ◌==◌, ◌<◌, ◌^◌, List, [], ◌∷◌, length, map, filter, Result, Ok, All}
use Rattle.std.specs.List.{flat_map}
use Rattle.gx_ids.specs.declared.ids.Gxid.{Gxid}
use Rattle.gx_ids.specs.declared.ids.Cid.{Cid}
use Rattle.gx_ids.specs.declared.ids.Node.{Node}
use Rattle.gx_ids.specs.declared.ids.Table.{Table}
use Rattle.gx_tree.specs.declared.row.KeyedRow.{KeyedRow}
use Rattle.gx_tree.specs.declared.schema.Dist.{Dist}
use Rattle.gx_tree.specs.declared.slice.Slice.{Slice}
use Rattle.gx_tree.specs.declared.slice.Slice.TheVariants as slice
use Rattle.gx_tree.specs.declared.stmt.Stmt.{Stmt}
use Rattle.gx_tree.specs.declared.stmt.Stmt.TheVariants.{Select, Insert, Update, Delete, Lock}
use Rattle.gx_meaning.specs.declared.fault.ArithFault.{ArithFault}
use Rattle.gx_meaning.specs.Expressions.{and_then}
use Rattle.gx_meaning.specs.Place.{row_place}
use Rattle.gx_meaning.specs.Target.{target_of}
use Rattle.gx_meaning.specs.declared.target.Target.{Target}
use Rattle.gx_meaning.specs.declared.target.Target.TheVariants.{One, All as AllOfThem}
use Rattle.gx_meaning.specs.Constants.{rows_of, IsTuple}
use Rattle.gx_meaning.specs.declared.piece.Piece.{Piece}

-- so many segments from a number on
abbrev pub nodes_from : ℕ → ℕ → List Node
nodes_from node zero = []
nodes_from node (suc count) = record { 0 = node } ∷ nodes_from (node + 1) count

-- the segments of a target among n segments
abbrev pub nodes_of : ℕ → Target → List Node
nodes_of n (One node) = node ∷ []
nodes_of n AllOfThem = nodes_from 1 n

abbrev pub piece : Slice → Node → Piece
piece s node = record { node = node; slice = s }

-- the same slice for each segment of a target
abbrev pub pieces : ℕ → Target → Slice → List Piece
pieces n target s = map (piece s) (nodes_of n target)

-- the rows that are placed at a segment, in their order
abbrev pub rows_at : ℕ → Dist → List KeyedRow → ℕ → List KeyedRow
rows_at n dist rows node = filter (λ row. row_place n dist row.row row.rid == node) rows

-- an INSERT sends a segment the rows that are placed there, if there are any
abbrev pub row_pieces : Table → Node → List KeyedRow → List Piece
row_pieces table node [] = []
row_pieces table node (row ∷ rows) = piece (slice.Insert table (row ∷ rows)) node ∷ []

abbrev pub insert_pieces : ℕ → Dist → Table → List KeyedRow → List Piece
insert_pieces n dist table rows = flat_map (λ node. row_pieces table node (rows_at n dist rows node.0)) (nodes_from 1 n)

-- the rows of each segment, by segment
abbrev pub dealt : ℕ → Dist → List KeyedRow → List (List KeyedRow)
dealt n dist rows = map (λ node. rows_at n dist rows node.0) (nodes_from 1 n)

-- a row put behind those of its segment
abbrev pub put_at : List (List KeyedRow) → ℕ → KeyedRow → List (List KeyedRow)
put_at buckets place row = slice_set buckets (place - 1) (slice_index_or buckets (place - 1) [] ++ row ∷ [])

-- the pieces of an INSERT, from the rows of each segment from a number on
abbrev pub bucket_pieces : Table → ℕ → List (List KeyedRow) → List Piece
bucket_pieces table node [] = []
bucket_pieces table node (rows ∷ buckets) = row_pieces table (record { 0 = node }) rows ++ bucket_pieces table (node + 1) buckets

-- the pieces of a command on a table that is distributed so among n segments, or the first fault of its constants
abbrev pub plan_of : ℕ → Dist → Gxid → Cid → Stmt → Result (List Piece) ArithFault
plan_of n dist g c (Select query) = Ok (pieces n (target_of n dist query.cond) (slice.Select query))
plan_of n dist g c (Insert table tuples) = and_then (rows_of g c tuples) (λ rows. Ok (insert_pieces n dist table rows))
plan_of n dist g c (Update table assigns cond) = Ok (pieces n (target_of n dist cond) (slice.Update table assigns cond))
plan_of n dist g c (Delete table cond) = Ok (pieces n (target_of n dist cond) (slice.Delete table cond))
plan_of n dist g c (Lock table mode) = Ok (pieces n AllOfThem (slice.Lock table mode))
plan_of n dist g c _ = Ok []

-- the statement is a command, whose tuples, if it has any, are of constants with a key, and fewer than 2^32
abbrev pub IsCommand : Dist → Stmt → Type 0
IsCommand dist (Select query) = Unit {0}
IsCommand dist (Insert table tuples) = (length tuples < 2 ^ 32) × All (IsTuple dist) tuples
IsCommand dist (Update table assigns cond) = Unit {0}
IsCommand dist (Delete table cond) = Unit {0}
IsCommand dist (Lock table mode) = Unit {0}
IsCommand dist _ = ⊥

-- the command sends the same slice wherever it goes
abbrev pub IsSame : Stmt → Type 0
IsSame (Select query) = Unit {0}
IsSame (Update table assigns cond) = Unit {0}
IsSame (Delete table cond) = Unit {0}
IsSame (Lock table mode) = Unit {0}
IsSame _ = ⊥
