use Rattle.std.proofs.Common.{◌≡◌, length}
use Rattle.std.specs.BTreeMap.{get}
use Rattle.std.specs.Prelude.{unwrap_or}
use Rattle.gx_dsnap.specs.Gxids.{gxid_cmp}
use Rattle.gx_legal.proofs.OwnRows.{from-inside, own-from}
use Rattle.gx_legal.proofs.own.own_marks.Goals as goal

pub rest-requires : goal.rest-requires
rest-requires c =
    let m = c.args.moment.now in
    let first = get gxid_cmp m.tally.now.firsts c.args.gxid in
    let place : c.first_or-first.result ≡ unwrap_or first (length m.before.now) = c.first_or-first.ensures in
    from-inside c.args.gxid m.before.now first c.first_or-first.result (m.told.firsts c.args.gxid) place

pub returns : goal.returns
returns c =
    let m = c.args.moment.now in
    let first = get gxid_cmp m.tally.now.firsts c.args.gxid in
    let place : c.first_or-first.result ≡ unwrap_or first (length m.before.now) = c.first_or-first.ensures in
    own-from c.args.gxid m.before.now first c.first_or-first.result c.rest.result.now (m.told.firsts c.args.gxid) place c.rest.ensures
