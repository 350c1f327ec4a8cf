use Rattle.std.proofs.Common.{◌<◌, length, ◌∙◌, ap, arith}
use Rattle.gx_sql.specs.Held.{named}
use Rattle.gx_sql.proofs.Held.{named_set}
use Rattle.gx_sql.proofs.progress.note_count.Goals as goal

pub returns-then-place-len-clause-counted : goal.returns-then-place-len-clause-counted
returns-then-place-len-clause-counted c =
    let less = c.if-place-len.true in
    let len = c.len.ensures.len in
    let within : c.args.place < length c.args.sessions.now.entries = omega arith in
    ap named c.set_count.ensures ∙ named_set c.args.name.now c.args.count c.args.sessions.now.entries c.args.place c.requires within
