use Rattle.gx_store.proofs.refused_rounds.graph_asked_by_a_start.Goals as goal

pub returns : goal.returns
returns c = λ script h. let e = h.0 in cc
