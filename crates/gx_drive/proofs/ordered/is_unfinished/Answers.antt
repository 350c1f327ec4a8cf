use Rattle.std.proofs.Common.{Bool, true, false, ◌≡◌, refl, sym}
use Rattle.gx_store.specs.Schedule.{is_any_unfinished}
use Rattle.gx_drive.proofs.Unfinished.{unfinished-none, unfinished-some}
use Rattle.gx_drive.proofs.ordered.is_unfinished.Goals as goal

pub returns : goal.returns
returns c = by c.unfinished.result refl
  where
    by : (b : Bool) → c.unfinished.result ≡ b → b ≡ is_any_unfinished c.args.world.now.script c.args.world.now.run.steps
    by true e = sym (unfinished-some c.args.world.now.script c.script-script.ensures.language c.args.world.now.run.steps c.requires.reached (c.unfinished.ensures.some c.requires.usable e))
    by false e = sym (unfinished-none c.args.world.now.script c.script-script.ensures.language c.args.world.now.run.steps c.requires.reached (c.unfinished.ensures.none c.requires.usable e))
