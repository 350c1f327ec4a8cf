use Rattle.gx_store.proofs.refused_rounds.round_that_never_ends.Goals as goal

pub returns : goal.returns
returns c = λ script h. let e = h.5.5.4 in cc
