use Rattle.gx_store.proofs.refused_rounds.round_without_a_detector.Goals as goal

pub returns : goal.returns
returns c = λ script h. let e = h.0.0 in cc
