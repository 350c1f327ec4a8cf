use Rattle.std.proofs.Common.{◌∙◌, ap}
use Rattle.gx_locks.specs.declared.key.Key.TheVariants.{Of}
use Rattle.gx_locks.proofs.Tidy.{tidy_but}
use Rattle.gx_locks.proofs.index.Index.take_of.Goals as goal

pub returns-clause-there : goal.returns-clause-there
returns-clause-there c = ap (λ rack. rack.holds) (c.free_idle.ensures.same (Of c.args.gxid) ∙ c.take_there-holds.ensures.there)

pub returns-clause-places_there : goal.returns-clause-places_there
returns-clause-places_there c = ap (λ rack. rack.places) (c.free_idle.ensures.same (Of c.args.gxid) ∙ c.take_there-holds.ensures.there)

pub returns-clause-tidy : goal.returns-clause-tidy
returns-clause-tidy c = λ was. c.free_idle.ensures.tidy (tidy_but (Of c.args.gxid) c.args.self.now c.take_there-holds.new.self c.take_there-holds.ensures.left was)
