use Rattle.std.proofs.Common.{◌∙◌, sym}
use Rattle.gx_rows.proofs.Dropped.{shown_of-truncated}
use Rattle.gx_rows.proofs.truncation.shown_across.Goals as goal

pub returns-clause-same : goal.returns-clause-same
returns-clause-same c =
    c.shown.ensures
    ∙ shown_of-truncated c.args.list.now c.args.map.now c.truncate.new.self c.args.horizon c.args.snap.now c.args.own c.args.cid c.truncate.ensures c.requires
    ∙ sym c.shown-before.ensures
