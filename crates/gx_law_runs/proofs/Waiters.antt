-- Who waits and who resumes, told by what the nodes hold after a run that is reached.
use Rattle.std.proofs.Common.{◌≡◌, ◌≤◌, ℕ, List, [], ◌∷◌, Bool, true, false, refl, sym, subst, ap, ◌∙◌, if◌then◌else◌, ◌&&◌, ◌||◌, not, length, arith}
use Rattle.std.proofs.lemmas.Bool.Decides.{nat_tests}
use Rattle.std.specs.Prelude.{◌==◌, nat_le}
use Rattle.std.specs.List.{list_any}
use Rattle.gx_ids.specs.declared.ids.Gxid.{Gxid}
use Rattle.gx_ids.specs.declared.ids.Node.{Node}
use Rattle.gx_locks.specs.Locks.{may_take}
use Rattle.gx_script.specs.declared.Script.{Script}
use Rattle.gx_store.specs.declared.event.Event.{Event}
use Rattle.gx_store.specs.declared.event.Event.TheVariants.{Resume}
use Rattle.gx_store.specs.declared.run.Step.{Step}
use Rattle.gx_store.specs.Journals.{is_same_node}
use Rattle.gx_store.specs.Points.{marks_in}
use Rattle.gx_store.specs.Refusals.{the_coordinator}
use Rattle.gx_store.specs.Schedule.{is_any_wait, resumptions, segments_of}
use Rattle.gx_rules.specs.AtCoordinator.{is_segment}
use Rattle.gx_rules.specs.Coordinators.{Coord}
use Rattle.gx_rules.specs.Machine.{can}
use Rattle.gx_rules.specs.Segments.{Seg}
use Rattle.gx_law_order.proofs.Lists.{each_weaker}
use Rattle.gx_law_order.specs.Lists.{Each}
use Rattle.gx_law_order.proofs.Ordered.{world_well}
use Rattle.gx_law_runs.proofs.Enabled.{any-each, any-same, resumes-here-admitted, resumes-there-admitted, segments-first}
use Rattle.gx_law_runs.specs.Reached.{IsReached}
use Rattle.gx_law_runs.specs.Replays.{coordinator_after, is_admitted, segment_after}
use Rattle.gx_law_runs.proofs.Reaching.{replayed, w}
use Rattle.gx_law_runs.proofs.Telling.{can-told}

module _ (script : Script) (steps : List Step) (some : 1 ≤ script.segments) (is : IsReached script steps) where
  -- WHO WAITS
  pub waits-now : is_any_wait script (marks_in steps) ≡ (not (length (coordinator_after script steps).locks.waits == 0) || list_any (λ segment. not (length (segment_after script segment steps).locks.waits == 0)) (segments_of script))
  waits-now =
      ap (λ ss. is_any_wait script (marks_in ss)) (sym is.is) ∙ any-same script some is.events
      ∙ ap (λ (c : Coord). not (length c.locks.waits == 0) || list_any (λ segment. not (length ((w script steps is).segs segment.0).locks.waits == 0)) (segments_of script)) (replayed script steps is).coordinator
      ∙ ap (λ b. not (length (coordinator_after script steps).locks.waits == 0) || b)
      (any-each (λ segment. not (length ((w script steps is).segs segment.0).locks.waits == 0)) (λ segment. not (length (segment_after script segment steps).locks.waits == 0)) (segments_of script)
      (each_weaker (λ (i : Node). 1 ≤ i.0) (λ i. not (length ((w script steps is).segs i.0).locks.waits == 0) ≡ not (length (segment_after script i steps).locks.waits == 0))
      (λ i one. ap (λ (s : Seg). not (length s.locks.waits == 0)) ((replayed script steps is).segments i.0 one)) (segments_of script) (segments-first script some is.events)))

  -- WHO MAY RESUME
  pub may-resume-here : (g : Gxid) → is_admitted script steps (Resume the_coordinator g) ≡ may_take (coordinator_after script steps).locks g
  may-resume-here g = refl

  pub may-resume-there : (segment : Node) → 1 ≤ segment.0 → (g : Gxid)
      → is_admitted script steps (Resume segment g) ≡ (is_segment script segment && may_take (segment_after script segment steps).locks g)
  may-resume-there segment one g =
      ap (λ (b : Bool). if b then may_take (coordinator_after script steps).locks g else is_segment script s.node && may_take s.locks g) (away segment.0 one)
      ∙ ap (λ n. is_segment script n && may_take s.locks g) (ap (λ (x : Seg). x.node) (sym ((replayed script steps is).segments segment.0 one)) ∙ (world_well script some is.events).names segment.0)
    where
      s : Seg
      s = segment_after script segment steps

      away : (a : ℕ) → 1 ≤ a → (a == 0) ≡ false
      away a one = grind (arith, nat_tests)

  -- who resumes is admitted
  told : (e : Event) → can script (w script steps is) e ≡ is_admitted script steps e
  told = can-told script steps (w script steps is) (replayed script steps is) is.is

  pub who-resumes-may : (node : Node) (g : Gxid) → node.0 ≤ script.segments → resumptions (marks_in steps) node ≡ Resume node g ∷ [] → is_admitted script steps (Resume node g) ≡ true
  who-resumes-may node g place resumes = sym (told (Resume node g)) ∙ by_node (is_same_node node the_coordinator) refl
    where
      now : resumptions (marks_in (w script steps is).steps) node ≡ Resume node g ∷ []
      now = ap (λ ss. resumptions (marks_in ss) node) is.is ∙ resumes

      here : is_same_node node the_coordinator ≡ true → the_coordinator ≡ node
      here e = grind (arith, nat_tests)

      there : is_same_node node the_coordinator ≡ false → is_segment script node ≡ true
      there e = between node.0 script.segments e place
        where
          between : (a k : ℕ) → (a == 0) ≡ false → a ≤ k → (nat_le 1 a && nat_le a k) ≡ true
          between a k e h = grind (arith, nat_tests)

      first : Each (λ e. can script (w script steps is) e ≡ true) (resumptions (marks_in (w script steps is).steps) node) → can script (w script steps is) (Resume node g) ≡ true
      first each = (subst (Each (λ e. can script (w script steps is) e ≡ true)) now each).0

      by_node : (b : Bool) → is_same_node node the_coordinator ≡ b → can script (w script steps is) (Resume node g) ≡ true
      by_node true e = first (subst (λ n. Each (λ e. can script (w script steps is) e ≡ true) (resumptions (marks_in (w script steps is).steps) n)) (here e) (resumes-here-admitted script some is.events))
      by_node false e = first (resumes-there-admitted script some is.events node (there e))
