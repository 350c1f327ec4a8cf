use Rattle.std.proofs.Common.{ap, arith, length}
use Rattle.gx_script.specs.declared.Script.{Script}
use Rattle.gx_store.specs.Schedule.{is_to_end}
use Rattle.gx_drive.proofs.Pushed.{sessions-all, sessions-push}
use Rattle.gx_drive.proofs.listing.push_ends.Goals as goal

pub loop-place-preserved : goal.loop-place-preserved
loop-place-preserved c =
    sessions-push (is_to_end c.args.world.now.script c.args.world.now.run.steps) c.loop-place.place (length c.args.world.now.script.sessions) _ _ _
    (omega (arith, c.loop-place.auto.place-end, c.len-place-end.ensures, ap (λ (s : Script). length s.sessions) c.script.ensures.value)) c.in_ok-push_end.ensures c.loop-place.invariant

pub returns : goal.returns
returns c =
    sessions-all (is_to_end c.args.world.now.script c.args.world.now.run.steps) c.loop-place.place (length c.args.world.now.script.sessions) _ _
    (omega (arith, c.loop-place.auto.place-end, c.len-place-end.ensures, ap (λ (s : Script). length s.sessions) c.script.ensures.value)) c.loop-place.invariant
