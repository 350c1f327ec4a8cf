use Rattle.gx_world.proofs.tables.shown_at.Goals as goal

pub shown_there-requires : goal.shown_there-requires
shown_there-requires c = (c.requires.inside, λ segment there. ((c.requires.is.stands c.requires.usable).segments c.args.place segment there).is)
