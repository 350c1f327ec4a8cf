-- A request for a table's lock, and what follows it.
use Rattle.std.proofs.Common.{◌≡◌, ◌++◌, ◌∙◌, ℕ, List, [], ◌∷◌, Result, Ok, Err, OnOk, IfOk, Option, Some, Bool, true, false, ap, subst, sym}
use Rattle.gx_ids.specs.declared.ids.Gxid.{Gxid}
use Rattle.gx_waits.specs.Claims.{is_clear}
use Rattle.gx_waits.specs.declared.claim.Claim.{Claim}
use Rattle.gx_tree.specs.declared.stmt.Stmt.{Stmt}
use Rattle.gx_msg.specs.declared.message.Out.{Out}
use Rattle.gx_script.specs.declared.Script.{Script}
use Rattle.gx_store.specs.declared.mark.Mark.{Mark}
use Rattle.gx_rules.specs.AtCoordinator.{dispatches, goes_on_locked, if_granted, requests}
use Rattle.gx_store.specs.Locks.{table_lock}
use Rattle.gx_rules.specs.Coordinators as rule
use Rattle.gx_coord.specs.Books.{IsFramed, coord_of, stmt_at}
use Rattle.gx_store.specs.Refusals.{the_coordinator}
use Rattle.gx_node.specs.Locking.{asked_mark}
use Rattle.gx_coord.specs.Locking.{asked}
use Rattle.gx_coord.specs.Turns.{IsTurn}
use Rattle.gx_coord.specs.declared.coord.Coord.{Coord}
use Rattle.gx_coord.proofs.Turned.{behind-turn, framed-trans}

-- it is granted
pub granted-turn : {A B : Type 0} (r : Result A B) (old mid new : Coord) (before middle after : List Mark) (g : Gxid) (s p : Script) (place : ℕ) (wanted : Claim) (granted : Bool) → IsFramed old mid → p ≡ s → granted ≡ true → granted ≡ is_clear old.locks.holds old.locks.waits wanted → coord_of mid ≡ asked (coord_of old) wanted granted → middle ≡ before ++ asked_mark the_coordinator wanted granted ∷ [] → OnOk r (IsTurn mid new middle after (goes_on_locked p (coord_of mid) g (stmt_at p.lines place))) → OnOk r (IsTurn old new before after (requests s (coord_of old) g (stmt_at s.lines place) (Some wanted)))
granted-turn (Ok x) old mid new before middle after g s p place wanted granted f same so free e m h =
    let line : Stmt = stmt_at s.lines place in
    subst (λ b. IsTurn old new before after (if_granted s (coord_of old) g line wanted b)) (sym so ∙ free)
    (behind-turn old mid new before middle after (asked_mark the_coordinator wanted true ∷ []) (goes_on_locked p (coord_of mid) g (stmt_at p.lines place)) (goes_on_locked s (asked (coord_of old) wanted true) g line) f
    (ap (λ (q : Script). goes_on_locked q (coord_of mid) g (stmt_at q.lines place)) same ∙ ap (λ (c : rule.Coord). goes_on_locked s c g line) (e ∙ ap (asked (coord_of old) wanted) so))
    (m ∙ ap (λ b. before ++ asked_mark the_coordinator wanted b ∷ []) so) h)
granted-turn (Err x) old mid new before middle after g s p place wanted granted f same so free e m h = tt

pub granted-outs : {B : Type 0} (r : Result (List Out) B) (old mid : Coord) (g : Gxid) (s p : Script) (place : ℕ) (wanted : Claim) (granted : Bool) → p ≡ s → granted ≡ true → granted ≡ is_clear old.locks.holds old.locks.waits wanted → coord_of mid ≡ asked (coord_of old) wanted granted → IfOk r (λ outs. outs ≡ (goes_on_locked p (coord_of mid) g (stmt_at p.lines place)).outs) → IfOk r (λ outs. outs ≡ (requests s (coord_of old) g (stmt_at s.lines place) (Some wanted)).outs)
granted-outs (Ok x) old mid g s p place wanted granted same so free e h =
    let line : Stmt = stmt_at s.lines place in
    h ∙ ap (λ (q : Script). (goes_on_locked q (coord_of mid) g (stmt_at q.lines place)).outs) same
    ∙ ap (λ (c : rule.Coord). (goes_on_locked s c g line).outs) (e ∙ ap (asked (coord_of old) wanted) so)
    ∙ ap (λ b. (if_granted s (coord_of old) g line wanted b).outs) (sym so ∙ free)
granted-outs (Err x) old mid g s p place wanted granted same so free e h = tt

-- it waits
pub waits-turn : (old mid new : Coord) (before middle : List Mark) (g : Gxid) (s p : Script) (place : ℕ) (wanted : Claim) (granted : Bool) → IsFramed old mid → p ≡ s → granted ≡ false → granted ≡ is_clear old.locks.holds old.locks.waits wanted → coord_of mid ≡ asked (coord_of old) wanted granted → middle ≡ before ++ asked_mark the_coordinator wanted granted ∷ [] → IsFramed mid new → coord_of new ≡ rule.with_work (coord_of mid) g (record ((coord_of mid).works g.0) { waiting = Some (stmt_at p.lines place) }) → IsTurn old new before middle (requests s (coord_of old) g (stmt_at s.lines place) (Some wanted))
waits-turn old mid new before middle g s p place wanted granted f same no_ free e m w h =
    let line : Stmt = stmt_at s.lines place in
    subst (λ b. IsTurn old new before middle (if_granted s (coord_of old) g line wanted b)) (sym no_ ∙ free)
    (record {
      framed = framed-trans old mid new f w;
      coord = h ∙ ap (λ (q : Script). rule.with_work (coord_of mid) g (record ((coord_of mid).works g.0) { waiting = Some (stmt_at q.lines place) })) same
          ∙ ap (λ (c : rule.Coord). rule.with_work c g (record (c.works g.0) { waiting = Some line })) (e ∙ ap (asked (coord_of old) wanted) no_);
      marks = m ∙ ap (λ b. before ++ asked_mark the_coordinator wanted b ∷ []) no_;
    })

pub waits-outs : (old : Coord) (g : Gxid) (s : Script) (line : Stmt) (wanted : Claim) (granted : Bool) → granted ≡ false → granted ≡ is_clear old.locks.holds old.locks.waits wanted → [] ≡ (requests s (coord_of old) g line (Some wanted)).outs
waits-outs old g s line wanted granted no_ free = ap (λ b. (if_granted s (coord_of old) g line wanted b).outs) (sym no_ ∙ free)

-- by what it asks for
pub dispatched-by : (s : Script) (c : rule.Coord) (g : Gxid) (line : Stmt) (o : Option Claim) → o ≡ table_lock s g line → requests s c g line o ≡ dispatches s c g line
dispatched-by s c g line o e = ap (requests s c g line) e
