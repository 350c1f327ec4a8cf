use Rattle.std.proofs.Common.{◌∷◌, ◌∙◌, ap, subst}
use Rattle.gx_waits.specs.LocalGraph.{edges_of}
use Rattle.gx_waits.specs.Victims.{IsVerdict}
use Rattle.gx_detect.specs.Rounds.{Rounds, gathered, graphs_in}
use Rattle.gx_detect.proofs.Computed.{no_other}
use Rattle.gx_detect.proofs.detector.Detector.recheck.Goals as goal

pub returns-clause-verdict : goal.returns-clause-verdict
returns-clause-verdict c =
    subst (λ graphs. IsVerdict (edges_of graphs) c.args.active.now c.in_ok-verdict.verdict)
    (c.as_slice.ensures.value ∙ c.in_ok-graphs.ensures
    ∙ ap (λ (d : Rounds). c.args.own ∷ graphs_in d.reports) c.self.view_is) c.in_ok-verdict.ensures.verdict

pub returns-clause-computed : goal.returns-clause-computed
returns-clause-computed c =
    no_other (gathered c.args.self.now c.args.own) c.args.active.now c.in_ok-verdict.verdict (returns-clause-verdict c)
