use Rattle.std.proofs.Common.{◌≡◌, ◌∙◌, ap, subst, filter}
use Rattle.std.specs.Prelude.{Some}
use Rattle.gx_ids.specs.declared.ids.Gxid.{Gxid}
use Rattle.gx_dsnap.specs.Gxids.{is_below}
use Rattle.gx_dsnap.specs.Snapshot.{sees}
use Rattle.gx_dtx.specs.Table.{Table, has_ended, running_of}
use Rattle.gx_dtx.proofs.Made.{IsWhole-live}
use Rattle.gx_dtx.proofs.Sees.{sees-ended}
use Rattle.gx_dtx.proofs.dtx.Dtx.snapshot.Goals as goal

abbrev table : goal.After-set_live → Table
table c = record { next = c.self.inside.next; latest_ended = c.self.inside.latest_ended; txns = c.self.inside.txns }

pub invariant_of-self : goal.invariant_of-self
invariant_of-self c = IsWhole-live (table c) c.args.gxid (Some c.in_ok-snapshot.snapshot.xmin) c.set_live.new.self c.set_live.ensures c.self.invariant

pub returns-clause-seen : goal.returns-clause-seen
returns-clause-seen c = λ g first.
    let e = c.in_ok-snapshot.ensures in
    subst (λ (d : Table). sees c.in_ok-snapshot.snapshot g ≡ has_ended d g) c.self.view_is (sees-ended (table c) c.in_ok-snapshot.snapshot g c.self.invariant e.xmax (e.running ∙ ap (λ (x : Gxid). filter (is_below x) (running_of (table c))) e.xmax) first)
