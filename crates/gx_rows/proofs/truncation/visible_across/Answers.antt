use Rattle.std.proofs.Common.{◌∙◌, sym}
use Rattle.gx_rows.proofs.Dropped.{counts-truncated}
use Rattle.gx_rows.proofs.truncation.visible_across.Goals as goal

pub returns-clause-same : goal.returns-clause-same
returns-clause-same c =
    c.visible.ensures
    ∙ counts-truncated c.args.v.now c.args.map.now c.truncate.new.self c.args.horizon c.args.snap.now c.args.own c.args.cid c.truncate.ensures c.requires
    ∙ sym c.visible-before.ensures
