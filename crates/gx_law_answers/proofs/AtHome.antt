-- Each row is written at one segment alone, so that what the segments show at the end are the final tables.
use Rattle.std.proofs.Common.{◌≡◌, ◌≤◌, ℕ, List, Option, Some, None, refl, sym, subst, arith, pos, negsuc, []}
use Rattle.std.specs.Prelude.{slice_get}
use Rattle.gx_ids.specs.declared.ids.Node.{Node}
use Rattle.gx_ids.specs.declared.rid.Rid.{Rid}
use Rattle.gx_tree.specs.declared.schema.Dist.{Dist}
use Rattle.gx_tree.specs.declared.schema.Dist.TheVariants.{By, Randomly}
use Rattle.gx_tree.specs.declared.value.Value.{Value}
use Rattle.gx_tree.specs.declared.value.Value.TheVariants.{Int, Text}
use Rattle.gx_meaning.specs.Place.{key_place, row_place, value_place}
use Rattle.gx_script.specs.declared.Script.{Script}
use Rattle.gx_store.specs.Marks.{node_of}
use Rattle.gx_store.specs.Points.{marks_in}
use Rattle.gx_rules.specs.Machine.{world_of}
use Rattle.gx_store.specs.Language.{AreLinesNumbered}
use Rattle.gx_law_reads.specs.Sights.{AreAtHome, IsOnlyAt}
use Rattle.gx_law_writes.proofs.World as writes
use Rattle.gx_law_answers.specs.Earned.{Events}
use Rattle.gx_law_writes.proofs.Shown.{never-only}
use Rattle.gx_law_answers.proofs.Shown.{first-at, only-at}

value_place-least : (n : ℕ) (v : Value) → 1 ≤ value_place n v
value_place-least n (Int (pos k)) = omega arith
value_place-least n (Int (negsuc k)) = omega arith
value_place-least n (Text t) = omega arith

key_place-least : (n : ℕ) (v : Option Value) → 1 ≤ key_place n v
key_place-least n None = omega arith
key_place-least n (Some v) = value_place-least n v

row_place-least : (n : ℕ) (dist : Dist) (row : List Value) (rid : Rid) → 1 ≤ row_place n dist row rid
row_place-least n (By column) row rid = key_place-least n (slice_get row column)
row_place-least n Randomly row rid = omega arith

pub at-home : (script : Script) → 1 ≤ script.segments → AreLinesNumbered [] script.lines → (es : Events) → AreAtHome (marks_in (world_of script es).steps)
at-home script some numbered es rid = by_node (node_of (marks_in (world_of script es).steps) rid) refl
  where
    by_node : (o : Option Node) → node_of (marks_in (world_of script es).steps) rid ≡ o → (node : Node) × (1 ≤ node.0) × IsOnlyAt node rid (marks_in (world_of script es).steps)
    by_node None q = (record { 0 = 1 }, omega arith, never-only (record { 0 = 1 }) rid (marks_in (world_of script es).steps) q)
    by_node (Some node) q =
        let placed = writes.world-placed script some numbered es in
        let a = first-at script (marks_in (world_of script es).steps) node rid (marks_in (world_of script es).steps) placed q in
        (node, subst (λ k. 1 ≤ k) (sym a.placed.place) (row_place-least script.segments _ a.placed.values rid), only-at script (marks_in (world_of script es).steps) node rid (marks_in (world_of script es).steps) placed q)
