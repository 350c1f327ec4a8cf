use Rattle.std.proofs.Common.{◌∙◌, sym}
use Rattle.std.proofs.lemmas.Bool.{and_parts}
use Rattle.gx_dtx.specs.Table.{find_txn}
use Rattle.gx_rules.specs.AtCoordinator.{is_under_way}
use Rattle.gx_rules.specs.Rounds.{is_live}
use Rattle.gx_coord.specs.Books.{coord_of}
use Rattle.gx_coord.proofs.Facts.{live-is-active, under_way-busy}
use Rattle.gx_coord.proofs.cancelling.cancel.Goals as goal

pub refuse-requires-clause-active : goal.refuse-requires-clause-active
refuse-requires-clause-active c =
    let t = find_txn c.args.coord.now.dtx c.args.gxid in
    live-is-active t (and_parts (is_live t) (is_under_way ((coord_of c.args.coord.now).works c.args.gxid.0)) (sym c.may_cancel.ensures ∙ c.if-may_cancel.true)).0

pub refuse-requires-clause-busy : goal.refuse-requires-clause-busy
refuse-requires-clause-busy c =
    let k = coord_of c.args.coord.now in
    under_way-busy k c.requires.kept c.args.gxid.0 (and_parts (is_live (find_txn k.table c.args.gxid)) (is_under_way (k.works c.args.gxid.0)) (sym c.may_cancel.ensures ∙ c.if-may_cancel.true)).1
