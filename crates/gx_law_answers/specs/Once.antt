-- The snapshot of a command.
use Rattle.std.specs.Prelude.{◌≡◌, ℕ, Bool, List, []}
use Rattle.gx_ids.specs.declared.ids.Cid.{Cid}
use Rattle.gx_ids.specs.declared.ids.Gxid.{Gxid}
use Rattle.gx_tree.specs.declared.stmt.Level.TheVariants.{RepeatableRead}
use Rattle.gx_script.specs.declared.Script.{Script}
use Rattle.gx_store.specs.declared.event.Event.{Event}
use Rattle.gx_store.specs.declared.mark.Mark.{Mark}
use Rattle.gx_store.specs.Commands.{IsSnapshotAt}
use Rattle.gx_store.specs.Points.{marks_in}
use Rattle.gx_law_order.specs.Scanned.{began_from}
use Rattle.gx_law_order.specs.Orders.{level_of_began}
use Rattle.gx_rules.specs.Machine.{world_of}

-- one snapshot serves a command: its own, or that of its transaction
abbrev pub IsOneSnapshot : Script → List Mark → Type 0
IsOneSnapshot script marks =
    (g : Gxid) (c : Cid) (p q : ℕ) → IsSnapshotAt marks (level_of_began script (began_from [] marks g)) g c p → IsSnapshotAt marks (level_of_began script (began_from [] marks g)) g c q → p ≡ q

-- a repeatable-read transaction takes one snapshot
abbrev pub AreSnapshotsOne : Script → Type 0
AreSnapshotsOne script =
    (events : List (Event × Bool)) (g : Gxid) (p q : ℕ)
    → level_of_began script (began_from [] (marks_in (world_of script events).steps) g) ≡ RepeatableRead
    → IsSnapshotAt (marks_in (world_of script events).steps) RepeatableRead g (record { 0 = 1 }) p
    → IsSnapshotAt (marks_in (world_of script events).steps) RepeatableRead g (record { 0 = 1 }) q → p ≡ q
