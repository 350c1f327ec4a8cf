use Rattle.std.proofs.Common.{rules, ap, ◌∙◌}
use Rattle.std.proofs.lemmas.Fn.{filter_same}
use Rattle.gx_waits.specs.Claims.{without_claim}
use Rattle.gx_agenda.proofs.waits.without_claim.Goals as goal

pub returns : goal.returns
returns c = c.from_vec.ensures ∙ filter_same _ _ _ (λ x b f' k. search rules) _ _ c.retain.ensures.filtered ∙ ap (without_claim c.args.claim.now) c.into_vec-left.ensures
