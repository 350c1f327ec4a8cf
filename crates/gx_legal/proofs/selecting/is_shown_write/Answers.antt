use Rattle.std.proofs.Common.{◌∙◌, List, None, Option, Some, ap}
use Rattle.gx_store.specs.declared.mark.Mark.{Mark}
use Rattle.gx_store.specs.Writes.{Written, last_write}
use Rattle.gx_legal.specs.Selected.{is_write}
use Rattle.gx_legal.specs.Written.{counts_for, written_of}
use Rattle.gx_legal.proofs.selecting.is_shown_write.Goals as goal

pub returns : goal.returns
returns c =
    let k = c.args.choice in
    c.is_write.ensures
    ∙ ap (λ (o : Option Written). is_write o (written_of c.args.write))
    (c.last_write.ensures ∙ ap (λ (bs : List Mark). last_write (counts_for (Some (k.command.gxid, k.command.cid)) bs) k.rid 0 None c.args.marks.now) c.before-2.ensures)
