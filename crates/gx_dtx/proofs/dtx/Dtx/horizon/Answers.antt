use Rattle.std.proofs.Common.{◌≡◌, ◌∙◌, ◌++◌, ◌∷◌, [], ◌≤◌, ap, subst, sym}
use Rattle.std.specs.Prelude.{All, Contains}
use Rattle.std.specs.List.{flat_map}
use Rattle.gx_ids.specs.declared.ids.Gxid.{Gxid}
use Rattle.gx_dtx.specs.Table.{holds_back, horizon_of}
use Rattle.gx_dtx.proofs.Least.{least_of-le_all, Contains-least_of}
use Rattle.gx_dtx.proofs.dtx.Dtx.horizon.Goals as goal

value : (c : goal.After-horizon) → c.horizon.result ≡ horizon_of c.args.self.now
value c = c.horizon.ensures ∙ ap horizon_of c.self.view_is

pub returns-clause-lowest : goal.returns-clause-lowest
returns-clause-lowest c =
    subst (λ (least : Gxid). All (λ g. least.0 ≤ g.0) (flat_map holds_back c.args.self.now.txns ++ c.args.self.now.next ∷ [])) (sym (value c)) (least_of-le_all (flat_map holds_back c.args.self.now.txns) c.args.self.now.next)

pub returns-clause-among : goal.returns-clause-among
returns-clause-among c =
    subst (Contains (flat_map holds_back c.args.self.now.txns ++ c.args.self.now.next ∷ [])) (sym (value c)) (Contains-least_of (flat_map holds_back c.args.self.now.txns) c.args.self.now.next)
