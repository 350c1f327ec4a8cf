use Rattle.std.proofs.Common.{◌∙◌, false, ap, sym}
use Rattle.gx_coord.specs.Books.{coord_of}
use Rattle.gx_coord.specs.declared.statuses.Turned.{Turned}
use Rattle.gx_coord.proofs.Quiet.{own-nobody, own-quiet}
use Rattle.gx_coord.proofs.event.take_alone.Goals as goal

pub returns-clause-item : goal.returns-clause-item
returns-clause-item c = own-quiet c.args.script.now (coord_of c.args.coord.now) c.args.event false c.requires.own

pub returns-clause-victims : goal.returns-clause-victims
returns-clause-victims c = ap (λ (t : Turned). t.victims) c.plain.ensures ∙ sym (own-nobody (coord_of c.args.coord.now) c.args.event c.requires.own)
