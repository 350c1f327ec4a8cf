use Rattle.std.proofs.Common.{◌≡◌, ℕ, suc, ◌+◌, [], ◌∷◌, Some, None, refl, ap, sym, subst, pos, Result, Ok, List}
use Rattle.gx_ids.specs.declared.ids.Gxid.{Gxid}
use Rattle.gx_tree.specs.declared.row.KeyedRow.{KeyedRow}
use Rattle.gx_tree.specs.declared.schema.Dist.TheVariants.{By}
use Rattle.gx_tree.specs.declared.value.Value.TheVariants as value
use Rattle.gx_modes.specs.declared.modes.Mode.TheVariants.{RowExclusive}
use Rattle.gx_meaning.specs.Constants.{keyed}
use Rattle.gx_meaning.specs.Expressions.{and_then}
use Rattle.gx_meaning.specs.Plan.{insert_pieces, plan_of}
use Rattle.gx_meaning.specs.declared.fault.ArithFault.{ArithFault}
use Rattle.gx_meaning.specs.declared.piece.Piece.{Piece}
use Rattle.gx_store.specs.declared.event.Event.TheVariants as event
use Rattle.gx_store.specs.Refusals.{the_coordinator}
use Rattle.gx_waits.specs.Claims.{claim}
use Rattle.gx_waits.specs.declared.claim.Claim.{Claim}
use Rattle.gx_locks.specs.Locks.{resumed}
use Rattle.gx_rules.specs.AtCoordinator.{behind, coord_sends, goes, reads_for}
use Rattle.gx_rules.specs.Coordinators.{Coord, with_work, work_of}
use Rattle.gx_rules.specs.Expected.{table}
use Rattle.gx_rules.specs.Locks.{hold_mark}
use Rattle.gx_rules.specs.Machine.{World, coord_did, new_world}
use Rattle.gx_rules.specs.Rows.{drives, insert, never, the_table, tuple}
use Rattle.gx_rules.specs.WaitRuns.{GivesBackInOrder, IsHeldUp, WaitsForForget, WaitsForShare, lost_forget_run, share_lock, share_lock_run, waiting_run}
use Rattle.gx_rules.proofs.Runs.{c1, each-next, values_of-tuple}

-- THE INSERT'S PLAN
abbrev g2 : Gxid
g2 = record { 0 = 2 }

abbrev the_row : KeyedRow
the_row = keyed g2 c1 1 (value.Int (pos 1) ∷ value.Int (pos 1) ∷ [])

abbrev the_pieces : List Piece
the_pieces = insert_pieces 1 (By 0) the_table (the_row ∷ [])

plan-row : plan_of 1 (By 0) g2 c1 (insert (tuple 1 1 ∷ [])) ≡ Ok the_pieces
plan-row = ap (λ r. and_then r (λ rows. Ok (insert_pieces 1 (By 0) the_table rows))) (each-next g2 c1 1 (tuple 1 1) [] _ [] (values_of-tuple 1 1) refl)

-- THE WORLD AFTER ITS RESUME
abbrev blocked_world : World
blocked_world = drives 11 share_lock never new_world

abbrev wanted : Claim
wanted = claim g2 table RowExclusive

abbrev freed : Coord
freed = with_work (record blocked_world.coord { locks = resumed blocked_world.coord.locks g2 (Some wanted) }) g2 (record (work_of blocked_world.coord g2) { waiting = None })

abbrev resumed_world : Result (List Piece) ArithFault → World
resumed_world plan =
    coord_did blocked_world (event.Resume the_coordinator g2)
    (coord_sends (blocked_world.coord.clock + 1) (behind (hold_mark the_coordinator wanted ∷ []) (goes g2 c1 (insert (tuple 1 1 ∷ [])) (reads_for freed g2 c1 (work_of freed g2) (insert (tuple 1 1 ∷ []))) plan)))

drives-share : (n : ℕ) → drives (suc (suc (suc (suc (suc (suc (suc (suc (suc (suc (suc (suc n)))))))))))) share_lock never new_world ≡ drives n share_lock never (resumed_world (Ok the_pieces))
drives-share n = ap (λ plan. drives n share_lock never (resumed_world plan)) plan-row

-- WHAT THE RUNS COME TO
pub waits_for_share : WaitsForShare share_lock_run
waits_for_share = subst WaitsForShare (sym (drives-share 28)) (record { story = refl; resumed = refl; snapshots = refl; marks = refl })

pub waits_for_forget : WaitsForForget lost_forget_run
waits_for_forget = record { story = refl; resumed = refl; snapshots = refl }

pub is_held_up : IsHeldUp waiting_run
is_held_up = record { blocked = refl; again = refl; next = refl; promise = refl; commit = refl; abort = refl; dropped = refl }

pub gives_back_in_order : GivesBackInOrder
gives_back_in_order = record { marks = refl }
