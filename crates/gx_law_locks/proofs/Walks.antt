-- A law of every step: what each event keeps, whatever came before it.
use Rattle.std.proofs.Common.{◌≡◌, ◌≤◌, ℕ, true, List, [], ◌∷◌, ◌++◌, Bool, refl, sym, subst, append-nil}
use Rattle.std.proofs.lemmas.List.{append_assoc}
use Rattle.gx_script.specs.declared.Script.{Script}
use Rattle.gx_store.specs.declared.event.Event.{Event}
use Rattle.gx_store.specs.declared.node.NodeEvent.{NodeEvent}
use Rattle.gx_store.specs.declared.run.Step.{Step}
use Rattle.gx_store.specs.Ordered.{AreOrdered, IsSegment}
use Rattle.gx_store.specs.Refusals.{the_coordinator}
use Rattle.gx_rules.specs.AtCoordinator.{coord_can, coord_rule}
use Rattle.gx_rules.specs.AtSegment.{seg_rule}
use Rattle.gx_rules.specs.Machine.{World, after, coord_did, happens, new_world, seg_can, seg_did, world_of}
use Rattle.gx_law_order.proofs.Induction.{IsThere, happens-ways}
use Rattle.gx_law_order.proofs.Ordered.{Well, happens_well, world_well}
use Rattle.gx_law_order.proofs.Sent.{at}
use Rattle.gx_law_locks.specs.Steps.{EachStep}
use Rattle.gx_law_locks.proofs.Rounded.{Rounded}
use Rattle.gx_law_locks.proofs.RoundsInRuns.{world-rounded}

pub each-step-last : (P : List Step → Step → Type 0) (before ss : List Step) (s : Step) → EachStep P before ss → P (before ++ ss) s → EachStep P before (ss ++ s ∷ [])
each-step-last P before [] s e p = (subst (λ q. P q s) (append-nil before) p, tt)
each-step-last P before (x ∷ ss) s e p = (e.0, each-step-last P (before ++ x ∷ []) ss s e.1 (subst (λ q. P q s) (sym (append_assoc before (x ∷ []) ss)) p))

-- the step of the coordinator in an event, with those of its victims, and the step of a segment
abbrev pub coord_step : Script → World → Event → NodeEvent → Bool → Step
coord_step script w e x fails =
    record { stamp = record { clock = (coord_rule script w.coord x fails).coord.clock; node = the_coordinator }; event = e; marks = (coord_rule script w.coord x fails).marks }

abbrev pub seg_step : Script → World → Event → NodeEvent → Bool → ℕ → Step
seg_step script w e x fails i =
    record { stamp = record { clock = (seg_rule script (w.segs i) x fails).seg.clock; node = at i }; event = e; marks = (seg_rule script (w.segs i) x fails).marks }

after-last : (script : Script) (w : World) (es : List (Event × Bool)) (e : Event × Bool) → after script w (es ++ e ∷ []) ≡ happens script (after script w es) e.0 e.1
after-last script w [] e = refl
after-last script w (x ∷ es) e = after-last script (happens script w x.0 x.1) es e

-- what the coordinator's and a segment's step keep holds in every world of the machine, of which something is known
module _ (script : Script) (some : 1 ≤ script.segments) (K Q : World → Type 0) (known : (es : List (Event × Bool)) → K (world_of script es)) (start : Q new_world)
    (turn : (w : World) → Well script w → Rounded script w → K w → Q w → (e : Event) (x : NodeEvent) (fails : Bool) → IsThere script w e the_coordinator x → coord_can script w.coord x ≡ true
    → Well script (coord_did w e (coord_rule script w.coord x fails)) → Q (coord_did w e (coord_rule script w.coord x fails)))
    (serve : (w : World) → Well script w → Rounded script w → K w → Q w → (e : Event) (x : NodeEvent) (fails : Bool) (i : ℕ) → IsSegment script (at i) → IsThere script w e (at i) x → seg_can script (w.segs i) x ≡ true
    → Q (seg_did w (at i) e (seg_rule script (w.segs i) x fails)))
  where
    one-more : (done : List (Event × Bool)) (e : Event × Bool) → Q (world_of script done) → Q (world_of script (done ++ e ∷ []))
    one-more done e q =
        subst Q (sym (after-last script new_world done e))
        (happens-ways script (world_of script done) (world_well script some done) e.0 e.1 (λ v. Well script v → Q v) (λ well. q)
        (λ x t ok well. turn (world_of script done) (world_well script some done) (world-rounded script some done) (known done) q e.0 x e.1 t ok well)
        (λ x i place t ok well. serve (world_of script done) (world_well script some done) (world-rounded script some done) (known done) q e.0 x e.1 i place t ok)
        (happens_well script some (world_of script done) e.0 e.1 (world_well script some done)))

    all-more : (done es : List (Event × Bool)) → Q (world_of script done) → Q (world_of script (done ++ es))
    all-more done [] q = subst (λ k. Q (world_of script k)) (sym (append-nil done)) q
    all-more done (e ∷ es) q = subst (λ k. Q (world_of script k)) (append_assoc done (e ∷ []) es) (all-more (done ++ e ∷ []) es (one-more done e q))

    pub at-each : (es : List (Event × Bool)) → Q (world_of script es)
    at-each es = all-more [] es start

-- a law of every step, by what each step keeps
module _ (script : Script) (some : 1 ≤ script.segments) (K : World → Type 0) (known : (es : List (Event × Bool)) → K (world_of script es)) (P : List Step → Step → Type 0)
    (turn : (w : World) → Well script w → Rounded script w → K w → (e : Event) (x : NodeEvent) (fails : Bool) → IsThere script w e the_coordinator x → coord_can script w.coord x ≡ true
    → AreOrdered script [] (w.steps ++ coord_step script w e x fails ∷ []) → P w.steps (coord_step script w e x fails))
    (serve : (w : World) → Well script w → Rounded script w → K w → (e : Event) (x : NodeEvent) (fails : Bool) (i : ℕ) → IsSegment script (at i) → IsThere script w e (at i) x → seg_can script (w.segs i) x ≡ true
    → P w.steps (seg_step script w e x fails i))
  where
    pub at-steps : (es : List (Event × Bool)) → EachStep P [] (world_of script es).steps
    at-steps =
        at-each script some K (λ w. EachStep P [] w.steps) known tt
        (λ w good r k q e x fails t ok well. each-step-last P [] w.steps (coord_step script w e x fails) q (turn w good r k e x fails t ok well.steps))
        (λ w good r k q e x fails i place t ok. each-step-last P [] w.steps (seg_step script w e x fails i) q (serve w good r k e x fails i place t ok))
