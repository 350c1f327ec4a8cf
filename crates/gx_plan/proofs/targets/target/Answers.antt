use Rattle.std.proofs.Common.{◌≡◌, rules, subst, sym}
use Rattle.std.specs.Option.{option_copied}
use Rattle.gx_meaning.specs.Target.{IsFalseOutside, target_of}
use Rattle.gx_plan.proofs.Outside.{target_of-outside}
use Rattle.gx_plan.proofs.targets.target.Goals as goal

pub returns-in-By-Some-clause-outside : goal.returns-in-By-Some-clause-outside
returns-in-By-Some-clause-outside c =
    let is : c.key_target.result ≡ target_of c.args.n c.args.schema.now.dist (option_copied c.args.cond) = search rules in
    subst (IsFalseOutside c.args.n c.args.schema.now.dist (option_copied c.args.cond)) (sym is) (target_of-outside c.args.n c.args.schema.now.dist (option_copied c.args.cond))
