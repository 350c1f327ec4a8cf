use Rattle.gx_store.proofs.refused_rounds.two_rounds_at_once.Goals as goal

pub returns : goal.returns
returns c = λ script h. let e = h.5.0.1 in cc
