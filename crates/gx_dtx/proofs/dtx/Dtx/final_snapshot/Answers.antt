use Rattle.std.proofs.Common.{◌≡◌, ◌∙◌, ap, subst, filter}
use Rattle.gx_ids.specs.declared.ids.Gxid.{Gxid}
use Rattle.gx_dsnap.specs.Gxids.{is_below}
use Rattle.gx_dsnap.specs.Snapshot.{sees}
use Rattle.gx_dtx.specs.Table.{Table, has_ended, running_of}
use Rattle.gx_dtx.proofs.Sees.{sees-ended}
use Rattle.gx_dtx.proofs.dtx.Dtx.final_snapshot.Goals as goal

abbrev table : goal.In_ok-snapshot → Table
table c = record { next = c.self.inside.next; latest_ended = c.self.inside.latest_ended; txns = c.self.inside.txns }

pub returns-clause-seen : goal.returns-clause-seen
returns-clause-seen c = λ g first.
    let e = c.in_ok-snapshot.ensures in
    subst (λ (d : Table). sees c.in_ok-snapshot.snapshot g ≡ has_ended d g) c.self.view_is (sees-ended (table c) c.in_ok-snapshot.snapshot g c.self.invariant e.xmax (e.running ∙ ap (λ (x : Gxid). filter (is_below x) (running_of (table c))) e.xmax) first)
