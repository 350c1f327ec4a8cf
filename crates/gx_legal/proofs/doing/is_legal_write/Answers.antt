use Rattle.gx_legal.proofs.Doings.{write-either}
use Rattle.gx_legal.proofs.Oks.{if_ok}
use Rattle.gx_legal.specs.Moments.{point_of}
use Rattle.gx_legal.proofs.doing.is_legal_write.Goals as goal

pub returns : goal.returns
returns c =
    let e = write-either c.args.moment.now.script.now (point_of c.args.moment.now) c.args.command.0 c.args.command.1 (record { node = c.args.row.0; table = c.args.row.1; rid = c.args.row.2 }) c.args.image in
    if_ok c.is_by_either.result (λ b h. (λ t. e.0 (h.0 t), λ l. h.1 (e.1 l))) c.is_by_either.ensures
