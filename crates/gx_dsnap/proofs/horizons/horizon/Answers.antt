use Rattle.std.proofs.Common.{◌++◌, ◌∷◌, [], ◌≤◌, subst, sym}
use Rattle.std.specs.Prelude.{All, Contains}
use Rattle.gx_ids.specs.declared.ids.Gxid.{Gxid}
use Rattle.gx_dsnap.proofs.Least.{least_of-three, least_of-le_all, Contains-least_of}
use Rattle.gx_dsnap.proofs.horizons.horizon.Goals as goal

pub returns-clause-value : goal.returns-clause-value
returns-clause-value c =
    least_of-three c.args.running.now c.args.unforgotten.now c.args.live_xmins.now c.args.next c.least.result c.least-2.result c.least-3.result c.least-3.ensures c.least-2.ensures c.least.ensures

pub returns-clause-lowest : goal.returns-clause-lowest
returns-clause-lowest c =
    let all = c.args.running.now ++ c.args.unforgotten.now ++ c.args.live_xmins.now in
    subst (λ (least : Gxid). All (λ g. least.0 ≤ g.0) (all ++ c.args.next ∷ [])) (sym (returns-clause-value c)) (least_of-le_all all c.args.next)

pub returns-clause-among : goal.returns-clause-among
returns-clause-among c =
    let all = c.args.running.now ++ c.args.unforgotten.now ++ c.args.live_xmins.now in
    subst (Contains (all ++ c.args.next ∷ [])) (sym (returns-clause-value c)) (Contains-least_of all c.args.next)
