use Rattle.std.proofs.lemmas.List.{take_rest}
use Rattle.gx_legal.proofs.own.rest.Goals as goal

pub returns : goal.returns
returns c = take_rest c.args.marks.now c.args.first
