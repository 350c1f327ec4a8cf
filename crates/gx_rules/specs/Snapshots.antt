-- The snapshot that the coordinator takes of its transactions.
use Rattle.std.proofs.Math.Nat.{add_comm}
use Rattle.std.specs.Prelude.{◌≡◌, ℕ, ◌+◌, List, filter, None, Some, refl}
use Rattle.std.specs.declared.option.Option.{Option}
use Rattle.gx_ids.specs.declared.ids.Gxid.{Gxid}
use Rattle.gx_dsnap.specs.Gxids.{after_ended, first_or}
use Rattle.gx_dsnap.specs.declared.snapshot.Snapshot.{Snapshot}
use Rattle.gx_dtx.specs.Table.{Table, find_txn, runs}
use Rattle.gx_rules.specs.Gxids.{filter-rising, filter-under, gxids_from}

-- the number of the greatest ended gxid, or 0 where none has ended
abbrev pub latest_number : Option Gxid → ℕ
latest_number None = 0
latest_number (Some g) = g.0

-- the running gxids up to the greatest ended one, rising
abbrev pub running_below : Table → Option Gxid → List Gxid
running_below d latest = filter (λ g. runs (find_txn d g)) (gxids_from 1 (latest_number latest))

pub after_latest : (latest : Option Gxid) → 1 + latest_number latest ≡ (after_ended latest).0
after_latest None = refl
after_latest (Some g) = add_comm 1 g.0

-- xmax is one more than the greatest ended gxid, running the list of those below it that run, and xmin the least of these
abbrev pub snapshot_of : Table → Snapshot
snapshot_of d =
    record {
      xmin = first_or (running_below d d.latest_ended) (after_ended d.latest_ended);
      xmax = after_ended d.latest_ended;
      running = running_below d d.latest_ended;
      rising = filter-rising (λ g. runs (find_txn d g)) 1 (latest_number d.latest_ended);
      below = filter-under (λ g. runs (find_txn d g)) 1 (latest_number d.latest_ended) (after_ended d.latest_ended).0 (after_latest d.latest_ended);
      least = refl;
    }
