use Rattle.std.proofs.Common.{◌∙◌, ◌∷◌, ◌++◌, [], ap}
use Rattle.std.proofs.lemmas.List.{replicate_more}
use Rattle.std.specs.Prelude.{None}
use Rattle.gx_detect.proofs.reports.no_graphs.Goals as goal

pub loop-segment-preserved : goal.loop-segment-preserved
loop-segment-preserved c =
    c.in_ok-push.ensures.items ∙ ap (λ graphs. graphs ++ None ∷ []) c.loop-segment.invariant ∙ replicate_more c.loop-segment._segment None
