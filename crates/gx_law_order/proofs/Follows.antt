-- Each node's steps alone follow its rule.
use Rattle.std.proofs.Common.{◌≡◌, ◌≤◌, ℕ, inl, inr, List, [], ◌∷◌, ◌++◌, Bool, true, false, refl, sym, subst, ap, ◌∙◌, arith, append-nil}
use Rattle.std.proofs.lemmas.Bool.Decides.{nat_tests}
use Rattle.std.proofs.lemmas.List.{append_assoc}
use Rattle.gx_ids.specs.declared.ids.Node.{Node}
use Rattle.gx_msg.specs.declared.message.Envelope.{Envelope}
use Rattle.gx_script.specs.declared.Script.{Script}
use Rattle.gx_store.specs.declared.event.Event.{Event}
use Rattle.gx_store.specs.declared.node.NodeEvent.{NodeEvent}
use Rattle.gx_store.specs.declared.node.NodeEvent.TheVariants as here
use Rattle.gx_store.specs.declared.run.Step.{Step}
use Rattle.gx_store.specs.Journals.{is_same_node}
use Rattle.gx_store.specs.Messages.{IsSending}
use Rattle.gx_store.specs.Ordered.{IsSegment}
use Rattle.gx_store.specs.Refusals.{the_coordinator}
use Rattle.gx_rules.specs.AtCoordinator.{coord_can, coord_rule}
use Rattle.gx_rules.specs.AtSegment.{seg_rule}
use Rattle.gx_rules.specs.Coordinators.{Coord, new_coordinator}
use Rattle.gx_rules.specs.Machine.{World, after, coord_did, happens, new_world, run_of, seg_can, seg_did, world_of}
use Rattle.gx_rules.specs.Segments.{Seg, new_segment}
use Rattle.gx_rules.specs.System.{AreAtNodes, DoesCoordFollow, DoesSegFollow, Either, IsCoordStep, IsHere, IsNode, IsPosted, IsSegStep, IsSystemRun}
use Rattle.gx_law_order.proofs.Letters.{IsFound, IsLetter, found_is}
use Rattle.gx_law_order.proofs.Induction.{IsThere, happens-ways}
use Rattle.gx_law_order.proofs.Ordered.{Well, apart-back, apart-two, at-both, happens_well, new_well, test-self}
use Rattle.gx_law_order.proofs.Sent.{at}

either_map : (b : Bool) (A B C D : Type 0) → (A → C) → (B → D) → Either b A B → Either b C D
either_map true A B C D f g e = f e
either_map false A B C D f g e = g e

either_true : (b : Bool) (A B : Type 0) → b ≡ true → A → Either b A B
either_true true A B e a = a
either_true false A B e a = grind arith

either_false : (b : Bool) (A B : Type 0) → b ≡ false → B → Either b A B
either_false true A B e a = grind arith
either_false false A B e a = a

-- THE COORDINATOR
-- its steps among these follow its rule, and lead to this data
abbrev CoordTo : Script → Coord → List Step → List Step → Coord → Type 0
CoordTo script c before [] d = d ≡ c
CoordTo script c before (s ∷ ss) d =
    Either (is_same_node s.stamp.node the_coordinator)
    ((is : IsCoordStep script before c s) × CoordTo script (coord_rule script c is.here is.fails).coord (before ++ s ∷ []) ss d)
    (CoordTo script c (before ++ s ∷ []) ss d)

coord_follows : (script : Script) (c : Coord) (before ss : List Step) (d : Coord) → CoordTo script c before ss d → DoesCoordFollow script c before ss
coord_follows script c before [] d f = tt
coord_follows script c before (s ∷ ss) d f =
    either_map (is_same_node s.stamp.node the_coordinator) _ _ _ _
    (λ (a : (is : IsCoordStep script before c s) × CoordTo script (coord_rule script c is.here is.fails).coord (before ++ s ∷ []) ss d). (a.0, coord_follows script (coord_rule script c a.0.here a.0.fails).coord (before ++ s ∷ []) ss d a.1))
    (λ a. coord_follows script c (before ++ s ∷ []) ss d a) f

coord_own : (script : Script) (c : Coord) (before ss : List Step) (d : Coord) (s : Step) → CoordTo script c before ss d → is_same_node s.stamp.node the_coordinator ≡ true → (is : IsCoordStep script (before ++ ss) d s) → CoordTo script c before (ss ++ s ∷ []) (coord_rule script d is.here is.fails).coord
coord_own script c before [] d s f own is =
    either_true (is_same_node s.stamp.node the_coordinator) _ _ own
    (moved c (sym f))
  where
    moved : (x : Coord) → c ≡ d → (is2 : IsCoordStep script before c s) × ((coord_rule script d is.here is.fails).coord ≡ (coord_rule script c is2.here is2.fails).coord)
    moved x e = (
      record {
        here = is.here;
        fails = is.fails;
        is = subst (λ b. IsHere b s.event is.here) (append-nil before) is.is;
        admitted = subst (λ y. coord_can script y is.here ≡ true) (sym e) is.admitted;
        marks = subst (λ y. s.marks ≡ (coord_rule script y is.here is.fails).marks) (sym e) is.marks;
        clock = subst (λ y. s.stamp.clock ≡ (coord_rule script y is.here is.fails).coord.clock) (sym e) is.clock;
      },
      ap (λ y. (coord_rule script y is.here is.fails).coord) (sym e),
    )
coord_own script c before (x ∷ ss) d s f own is =
    let is2 : IsCoordStep script (before ++ x ∷ [] ++ ss) d s = record { here = is.here; fails = is.fails; is = subst (λ b. IsHere b s.event is.here) (sym (append_assoc before (x ∷ []) ss)) is.is; admitted = is.admitted; marks = is.marks; clock = is.clock } in
    either_map (is_same_node x.stamp.node the_coordinator) _ _ _ _
    (λ (a : (at : IsCoordStep script before c x) × CoordTo script (coord_rule script c at.here at.fails).coord (before ++ x ∷ []) ss d). (a.0, coord_own script (coord_rule script c a.0.here a.0.fails).coord (before ++ x ∷ []) ss d s a.1 own is2))
    (λ a. coord_own script c (before ++ x ∷ []) ss d s a own is2) f

coord_other : (script : Script) (c : Coord) (before ss : List Step) (d : Coord) (s : Step) → CoordTo script c before ss d → is_same_node s.stamp.node the_coordinator ≡ false → CoordTo script c before (ss ++ s ∷ []) d
coord_other script c before [] d s f other = either_false (is_same_node s.stamp.node the_coordinator) _ _ other f
coord_other script c before (x ∷ ss) d s f other =
    either_map (is_same_node x.stamp.node the_coordinator) _ _ _ _
    (λ (a : (at : IsCoordStep script before c x) × CoordTo script (coord_rule script c at.here at.fails).coord (before ++ x ∷ []) ss d). (a.0, coord_other script (coord_rule script c a.0.here a.0.fails).coord (before ++ x ∷ []) ss d s a.1 other))
    (λ a. coord_other script c (before ++ x ∷ []) ss d s a other) f

-- A SEGMENT
abbrev SegTo : Script → Seg → List Step → List Step → Seg → Type 0
SegTo script c before [] d = d ≡ c
SegTo script c before (s ∷ ss) d =
    Either (is_same_node s.stamp.node c.node)
    ((is : IsSegStep script before c s) × SegTo script (seg_rule script c is.here is.fails).seg (before ++ s ∷ []) ss d)
    (SegTo script c (before ++ s ∷ []) ss d)

seg_follows : (script : Script) (c : Seg) (before ss : List Step) (d : Seg) → SegTo script c before ss d → DoesSegFollow script c before ss
seg_follows script c before [] d f = tt
seg_follows script c before (s ∷ ss) d f =
    either_map (is_same_node s.stamp.node c.node) _ _ _ _
    (λ (a : (is : IsSegStep script before c s) × SegTo script (seg_rule script c is.here is.fails).seg (before ++ s ∷ []) ss d). (a.0, seg_follows script (seg_rule script c a.0.here a.0.fails).seg (before ++ s ∷ []) ss d a.1))
    (λ a. seg_follows script c (before ++ s ∷ []) ss d a) f

seg_own : (script : Script) (c : Seg) (before ss : List Step) (d : Seg) (s : Step) → SegTo script c before ss d → is_same_node s.stamp.node d.node ≡ true → (is : IsSegStep script (before ++ ss) d s) → SegTo script c before (ss ++ s ∷ []) (seg_rule script d is.here is.fails).seg
seg_own script c before [] d s f own is =
    either_true (is_same_node s.stamp.node c.node) _ _ (subst (λ y. is_same_node s.stamp.node y.node ≡ true) f own)
    (moved c (sym f))
  where
    moved : (x : Seg) → c ≡ d → (is2 : IsSegStep script before c s) × ((seg_rule script d is.here is.fails).seg ≡ (seg_rule script c is2.here is2.fails).seg)
    moved x e = (
      record {
        here = is.here;
        fails = is.fails;
        is = subst (λ b. IsHere b s.event is.here) (append-nil before) is.is;
        admitted = subst (λ y. seg_can script y is.here ≡ true) (sym e) is.admitted;
        marks = subst (λ y. s.marks ≡ (seg_rule script y is.here is.fails).marks) (sym e) is.marks;
        clock = subst (λ y. s.stamp.clock ≡ (seg_rule script y is.here is.fails).seg.clock) (sym e) is.clock;
      },
      ap (λ y. (seg_rule script y is.here is.fails).seg) (sym e),
    )
seg_own script c before (x ∷ ss) d s f own is =
    let is2 : IsSegStep script (before ++ x ∷ [] ++ ss) d s = record { here = is.here; fails = is.fails; is = subst (λ b. IsHere b s.event is.here) (sym (append_assoc before (x ∷ []) ss)) is.is; admitted = is.admitted; marks = is.marks; clock = is.clock } in
    either_map (is_same_node x.stamp.node c.node) _ _ _ _
    (λ (a : (at : IsSegStep script before c x) × SegTo script (seg_rule script c at.here at.fails).seg (before ++ x ∷ []) ss d). (a.0, seg_own script (seg_rule script c a.0.here a.0.fails).seg (before ++ x ∷ []) ss d s a.1 own is2))
    (λ a. seg_own script c (before ++ x ∷ []) ss d s a own is2) f

seg_other : (script : Script) (c : Seg) (before ss : List Step) (d : Seg) (s : Step) → SegTo script c before ss d → is_same_node s.stamp.node d.node ≡ false → SegTo script c before (ss ++ s ∷ []) d
seg_other script c before [] d s f other = either_false (is_same_node s.stamp.node c.node) _ _ (subst (λ y. is_same_node s.stamp.node y.node ≡ false) f other) f
seg_other script c before (x ∷ ss) d s f other =
    either_map (is_same_node x.stamp.node c.node) _ _ _ _
    (λ (a : (at : IsSegStep script before c x) × SegTo script (seg_rule script c at.here at.fails).seg (before ++ x ∷ []) ss d). (a.0, seg_other script (seg_rule script c a.0.here a.0.fails).seg (before ++ x ∷ []) ss d s a.1 other))
    (λ a. seg_other script c (before ++ x ∷ []) ss d s a other) f

-- THE MACHINE
at_nodes-last : (script : Script) (ss : List Step) (s : Step) → AreAtNodes script ss → IsNode script s.stamp.node → AreAtNodes script (ss ++ s ∷ [])
at_nodes-last script [] s e h = (h, tt)
at_nodes-last script (x ∷ ss) s e h = (e.0, at_nodes-last script ss s e.1 h)

pub record Follows (script : Script) (w : World) : Type 0 where
  pub well : Well script w
  pub nodes : AreAtNodes script w.steps
  pub coordinator : CoordTo script new_coordinator [] w.steps w.coord
  pub segments : (i : ℕ) → 1 ≤ i → SegTo script (new_segment (at i)) [] w.steps (w.segs i)

posted_is : (script : Script) (w : World) (from to : Node) (number : ℕ) (envelope : Envelope) → IsFound (IsLetter script w.steps) from to number envelope → IsPosted w.steps from to number envelope
posted_is script w from to number envelope f =
    record {
      step = f.is.step;
      mark = f.is.mark;
      sending =
          subst (λ a. IsSending w.steps f.is.step f.is.mark a to number envelope.message) f.source
          (subst (λ a. IsSending w.steps f.is.step f.is.mark f.letter.from a number envelope.message) f.target
          (subst (λ a. IsSending w.steps f.is.step f.is.mark f.letter.from f.letter.to a envelope.message) f.counted
          (subst (λ (a : Envelope). IsSending w.steps f.is.step f.is.mark f.letter.from f.letter.to f.letter.envelope.number a.message) f.told f.is.sending)));
      counted = ap (λ (a : Envelope). a.number) (sym f.told) ∙ f.counted;
      clock = ap (λ (a : Envelope). a.clock) (sym f.told) ∙ sym f.is.clock;
      incarnation = ap (λ (a : Envelope). a.incarnation) (sym f.told) ∙ f.is.incarnation;
    }

module _ (script : Script) where
  -- the facts of a step, where the machine stays well formed
  coord_kept : (w : World) (e : Event) (x : NodeEvent) (fails : Bool) → Follows script w → Well script (coord_did w e (coord_rule script w.coord x fails)) → IsHere w.steps e x → coord_can script w.coord x ≡ true → Follows script (coord_did w e (coord_rule script w.coord x fails))
  coord_kept w e x fails f n h ok =
      record {
        well = n;
        nodes = at_nodes-last script w.steps _ f.nodes (inl refl);
        coordinator = coord_own script new_coordinator [] w.steps w.coord _ f.coordinator refl (record { here = x; fails = fails; is = h; admitted = ok; marks = refl; clock = refl });
        segments = λ i k. seg_other script (new_segment (at i)) [] w.steps (w.segs i) _ (f.segments i k) (subst (λ m. is_same_node the_coordinator m ≡ false) (sym (f.well.names i)) (away i k));
      }
    where
      away : (i : ℕ) → 1 ≤ i → is_same_node the_coordinator (at i) ≡ false
      away i k = grind (arith, nat_tests)

  seg_kept : (w : World) (e : Event) (x : NodeEvent) (fails : Bool) (i : ℕ) → IsSegment script (at i) → Follows script w → Well script (seg_did w (at i) e (seg_rule script (w.segs i) x fails)) → IsHere w.steps e x → seg_can script (w.segs i) x ≡ true → Follows script (seg_did w (at i) e (seg_rule script (w.segs i) x fails))
  seg_kept w e x fails i place f n h ok =
      record {
        well = n;
        nodes = at_nodes-last script w.steps step f.nodes (inr place);
        coordinator = coord_other script new_coordinator [] w.steps w.coord _ f.coordinator (apart-back i place.0);
        segments = at-both (λ j (t : Seg). 1 ≤ j → SegTo script (new_segment (at j)) [] (w.steps ++ step ∷ []) t) w.segs i (seg_rule script (w.segs i) x fails).seg
            (λ k. seg_own script (new_segment (at i)) [] w.steps (w.segs i) step (f.segments i k) (subst (λ m. is_same_node (at i) m ≡ true) (sym (f.well.names i)) (test-self i)) (record { here = x; fails = fails; is = h; admitted = ok; marks = refl; clock = refl }))
            (λ j away k. seg_other script (new_segment (at j)) [] w.steps (w.segs j) step (f.segments j k) (subst (λ m. is_same_node (at i) m ≡ false) (sym (f.well.names j)) (apart-two i j away)));
      }
    where
      step : Step
      step = record { stamp = record { clock = (seg_rule script (w.segs i) x fails).seg.clock; node = at i }; event = e; marks = (seg_rule script (w.segs i) x fails).marks }

  -- what comes is the step's event
  is-here : (w : World) (good : Well script w) (e : Event) (n : Node) (x : NodeEvent) → IsThere script w e n x → IsHere w.steps e x
  is-here w good e n (here.Deliver from envelope) t =
      subst (λ d. IsHere w.steps d (here.Deliver from envelope)) (sym t.event) (refl, posted_is script w from n t.number envelope (found_is (IsLetter script w.steps) from n t.number w.sent envelope good.letters t.found))
  is-here w good e n (here.Resume g) t = subst (λ d. IsHere w.steps d (here.Resume g)) (sym t) refl
  is-here w good e n (here.Start s) t = subst (λ d. IsHere w.steps d (here.Start s)) (sym t) refl
  is-here w good e n (here.End s) t = subst (λ d. IsHere w.steps d (here.End s)) (sym t) refl
  is-here w good e n (here.Resend i g) t = subst (λ d. IsHere w.steps d (here.Resend i g)) (sym t) (refl, refl)
  is-here w good e n here.Round t = subst (λ d. IsHere w.steps d here.Round) (sym t) tt

module _ (script : Script) (some : 1 ≤ script.segments) where
  happens_follows : (w : World) (e : Event) (fails : Bool) → Follows script w → Follows script (happens script w e fails)
  happens_follows w e fails f =
      happens-ways script w f.well e fails (λ v. Well script v → Follows script v) (λ n. f)
      (λ x t ok n. coord_kept script w e x fails f n (is-here script w f.well e the_coordinator x t) ok)
      (λ x i place t ok n. seg_kept script w e x fails i place f n (is-here script w f.well e (at i) x t) ok)
      (happens_well script some w e fails f.well)

  after_follows : (es : List (Event × Bool)) (w : World) → Follows script w → Follows script (after script w es)
  after_follows [] w f = f
  after_follows (e ∷ es) w f = after_follows es (happens script w e.0 e.1) (happens_follows w e.0 e.1 f)

  pub world_follows : (es : List (Event × Bool)) → IsSystemRun script (run_of (world_of script es))
  world_follows es =
      let f = after_follows es new_world (record { well = new_well script some; nodes = tt; coordinator = refl; segments = λ i k. refl }) in
      record {
        ordered = f.well.steps;
        nodes = f.nodes;
        coordinator = coord_follows script new_coordinator [] (world_of script es).steps (world_of script es).coord f.coordinator;
        segments = λ node place. seg_follows script (new_segment node) [] (world_of script es).steps ((world_of script es).segs node.0) (f.segments node.0 place.0);
      }
