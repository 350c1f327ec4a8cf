-- A command goes out from where its transaction has begun.
use Rattle.std.proofs.Common.{◌≡◌, ◌∙◌, ap}
use Rattle.gx_ids.specs.declared.ids.Gxid.{Gxid}
use Rattle.gx_script.specs.declared.Script.{Script}
use Rattle.gx_rules.specs.AtCoordinator.{dispatches}
use Rattle.gx_rules.specs.Coordinators as rule
use Rattle.gx_coord.specs.Books.{stmt_at}

pub dispatches-from : (p q : Script) (c d : rule.Coord) (g h : Gxid) (place : _) → p ≡ q → c ≡ d → g ≡ h → dispatches p c g (stmt_at p.lines place) ≡ dispatches q d h (stmt_at q.lines place)
dispatches-from p q c d g h place e f i =
    ap (λ (x : Script). dispatches x c g (stmt_at x.lines place)) e
    ∙ ap (λ (x : rule.Coord). dispatches q x g (stmt_at q.lines place)) f
    ∙ ap (λ (x : Gxid). dispatches q d x (stmt_at q.lines place)) i
