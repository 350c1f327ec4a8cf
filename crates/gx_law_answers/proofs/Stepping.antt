-- What every step of the machine keeps holds of every run: a step that changes nothing, one of the coordinator, or one of a segment,
-- by what it does in its turn.
use Rattle.std.proofs.Common.{◌≡◌, ◌≤◌, ℕ, [], ◌∷◌, ◌++◌, Bool, true, sym, subst, append_assoc, append-nil}
use Rattle.gx_ids.specs.declared.ids.Node.{Node}
use Rattle.gx_script.specs.declared.Script.{Script}
use Rattle.gx_store.specs.declared.event.Event.{Event}
use Rattle.gx_store.specs.declared.event.Event.TheVariants as event
use Rattle.gx_store.specs.declared.node.NodeEvent.{NodeEvent}
use Rattle.gx_store.specs.declared.node.NodeEvent.TheVariants as here
use Rattle.gx_store.specs.Language.{AreLinesNumbered}
use Rattle.gx_store.specs.Ordered.{IsSegment}
use Rattle.gx_rules.specs.AtCoordinator.{coord_rule}
use Rattle.gx_rules.specs.Machine.{World, coord_did, new_world, seg_can, world_of}
use Rattle.gx_law_order.proofs.Induction.{IsThere, happens-ways}
use Rattle.gx_law_order.proofs.Ordered.{world_well}
use Rattle.gx_law_order.proofs.Sent.{at}
use Rattle.gx_law_order.proofs.Legality.{after-last}
use Rattle.gx_law_answers.specs.Earned.{Events}
use Rattle.gx_law_answers.proofs.Arrivals.{message-does, received-late}
use Rattle.gx_law_answers.proofs.Resumptions.{resumed-late, resumption-does}
use Rattle.gx_law_answers.proofs.Running.{Doings, IsLate}

module _ (script : Script) (some : 1 ≤ script.segments) (numbered : AreLinesNumbered [] script.lines) (P : Events → Type 0) where
  -- kept by each step
  pub record Kept : Type 0 where
    pub still : (es : Events) (e : Event) (fails : Bool) → world_of script (es ++ (e, fails) ∷ []) ≡ world_of script es → P es → P (es ++ (e, fails) ∷ [])
    pub coord : (es : Events) (e : Event) (fails : Bool) (x : NodeEvent) → world_of script (es ++ (e, fails) ∷ []) ≡ coord_did (world_of script es) e (coord_rule script (world_of script es).coord x fails) → P es → P (es ++ (e, fails) ∷ [])
    pub seg : (es : Events) (to : Node) (e : Event) (fails : Bool) (x : NodeEvent) → IsSegment script to → IsLate script es to e fails x → Doings script es to e fails x → P es → P (es ++ (e, fails) ∷ [])

  module _ (kept : Kept) (es : Events) (p : P es) (e : Event) (fails : Bool) where
    -- behind the world that the event leads to
    abbrev IsNext : World → Type 0
    IsNext v = world_of script (es ++ (e, fails) ∷ []) ≡ v → P (es ++ (e, fails) ∷ [])

    serve : (x : NodeEvent) (i : ℕ) → IsSegment script (at i) → IsThere script (world_of script es) e (at i) x → seg_can script ((world_of script es).segs i) x ≡ true → P (es ++ (e, fails) ∷ [])
    serve (here.Deliver from envelope) i place t ok =
        subst (λ q. P (es ++ (q, fails) ∷ [])) (sym t.event)
        (kept.seg es (at i) (event.Receive from (at i) t.number) fails (here.Deliver from envelope) place (received-late script some numbered es from (at i) t.number envelope fails place t.found)
        (message-does script some numbered es from (at i) t.number envelope fails place t.found) p)
    serve (here.Resume g) i place t ok =
        subst (λ q. P (es ++ (q, fails) ∷ [])) (sym t)
        (kept.seg es (at i) (event.Resume (at i) g) fails (here.Resume g) place (resumed-late script some numbered es (at i) g fails place ok) (resumption-does script some numbered es (at i) g fails place ok) p)
    serve (here.Start s) i place t ok = absurd (cc)
    serve (here.End s) i place t ok = absurd (cc)
    serve (here.Resend j g) i place t ok = absurd (cc)
    serve here.Round i place t ok = absurd (cc)

    one-keeps : P (es ++ (e, fails) ∷ [])
    one-keeps =
        happens-ways script (world_of script es) (world_well script some es) e fails IsNext (λ is. kept.still es e fails is p) (λ x t ok is. kept.coord es e fails x is p)
        (λ x i place t ok is. serve x i place t ok) (after-last script some new_world es (e, fails))

  pub all-keep : Kept → (done es : Events) → P done → P (done ++ es)
  all-keep kept done [] p = subst P (sym (append-nil done)) p
  all-keep kept done (x ∷ es) p = subst P (append_assoc done (x ∷ []) es) (all-keep kept (done ++ x ∷ []) es (one-keeps kept done p x.0 x.1))
