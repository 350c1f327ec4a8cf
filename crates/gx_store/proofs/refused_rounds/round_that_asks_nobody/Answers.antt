use Rattle.gx_store.proofs.refused_rounds.round_that_asks_nobody.Goals as goal

pub returns : goal.returns
returns c = λ script h. let e = h.0.2 in cc
