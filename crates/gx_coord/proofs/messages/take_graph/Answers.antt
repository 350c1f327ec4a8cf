use Rattle.std.proofs.Common.{◌∙◌, sym}
use Rattle.gx_coord.specs.Books.{coord_of}
use Rattle.gx_coord.proofs.Graphs.{graph-quiet}
use Rattle.gx_coord.proofs.messages.take_graph.Goals as goal

pub returns-clause-outs : goal.returns-clause-outs
returns-clause-outs c = c.new.ensures ∙ sym (graph-quiet (coord_of c.args.coord.now) c.args.from c.args.round c.args.graph.now).0

pub returns-clause-item : goal.returns-clause-item
returns-clause-item c = (graph-quiet (coord_of c.args.coord.now) c.args.from c.args.round c.args.graph.now).1
