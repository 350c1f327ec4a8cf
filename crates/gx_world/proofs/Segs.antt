-- A segment's step, as its code does it, is one of the machine.
use Rattle.std.proofs.Common.{◌≡◌, ◌≤◌, ◌<◌, ◌⊎◌, inl, inr, ⊎_elim, ℕ, zero, suc, ◌+◌, ◌-◌, List, [], ◌∷◌, Some, Bool, true, false, eqb, refl, sym, subst, ap, ◌∙◌, if◌then◌else◌, arith, length, slice_index_or, All}
use Rattle.std.proofs.lemmas.Bool.Decides.{nat_tests}
use Rattle.std.proofs.lemmas.Option.{slice_get_read}
use Rattle.std.specs.Prelude.{slice_get, slice_set}
use Rattle.gx_lemmas.proofs.Numbers.{eqb-self}
use Rattle.gx_lemmas.proofs.Lists.{length-set}
use Rattle.gx_lemmas.proofs.Options.{some-same}
use Rattle.gx_ids.specs.declared.ids.Node.{Node}
use Rattle.gx_outside.specs.Shelves.{Shelf}
use Rattle.gx_node.specs.Orders.{IsLaterBy, Took}
use Rattle.gx_script.specs.declared.Script.{Script}
use Rattle.gx_store.specs.declared.event.Event.{Event}
use Rattle.gx_store.specs.declared.mark.Mark.{Mark}
use Rattle.gx_store.specs.declared.node.NodeEvent.{NodeEvent}
use Rattle.gx_store.specs.declared.run.Step.{Step}
use Rattle.gx_store.specs.Journals.{is_same_node}
use Rattle.gx_store.specs.Refusals.{the_coordinator}
use Rattle.gx_rules.specs.AtCoordinator.{coord_rule}
use Rattle.gx_rules.specs.AtSegment.{seg_rule}
use Rattle.gx_rules.specs.Machine as machine
use Rattle.gx_rules.specs.Machine.{coord_did, does, noted, seg_did, seg_can}
use Rattle.gx_rules.specs.Maps.{with_at}
use Rattle.gx_rules.specs.Segments.{Seg}
use Rattle.gx_law_order.specs.Journals.{item_at}
use Rattle.gx_segment.specs.declared.segment.Segment.{Segment}
use Rattle.gx_segment.specs.Steps as segment
use Rattle.gx_world.specs.Links.{IsAddressed}
use Rattle.gx_world.specs.declared.network.Network.{Network}
use Rattle.gx_world.specs.Turns.{HasSteppedAt, IsFit, IsLaterAt, IsNext}
use Rattle.gx_world.specs.Networks.{HasTurned, IsAt, Stands}
use Rattle.gx_world.proofs.Turned.{AreKept, IsPushed, addressed, are-kept, made}

-- a place in a list with one changed
pub get-set : {A : Type 0} (xs : List A) (i k : ℕ) (y x : A) → slice_get (slice_set xs i y) k ≡ Some x → ((k ≡ i) × (x ≡ y)) ⊎ ((k ≡ i → ⊥) × (slice_get xs k ≡ Some x))
get-set [] i k y x e = absurd (cc)
get-set (z ∷ xs) zero zero y x e = inl (refl, sym (some-same y x e))
get-set (z ∷ xs) zero (suc k) y x e = inr (λ h. absurd (omega (arith, h)), e)
get-set (z ∷ xs) (suc i) zero y x e = inr (λ h. absurd (omega (arith, h)), e)
get-set (z ∷ xs) (suc i) (suc k) y x e = ⊎_elim (λ (h : (k ≡ i) × (x ≡ y)). inl (ap suc h.0, h.1)) (λ (h : (k ≡ i → ⊥) × (slice_get xs k ≡ Some x)). inr (λ same. h.0 (omega (arith, same)), h.1)) (get-set xs i k y x e)

below : (a n : ℕ) → 1 ≤ a → a ≤ n → a - 1 < n
below a n l m = omega (arith, l, m)

-- the segment that is read by its number
pub segment-read : (xs : List Segment) (a b : ℕ) (x : Segment) → b ≡ a → 1 ≤ a → a ≤ length xs → x ≡ slice_index_or xs (b - 1) x → slice_get xs (a - 1) ≡ Some x
segment-read xs a b x same l m e = slice_get_read xs (length xs) (a - 1) x refl (below a (length xs) l m) (subst (λ n. x ≡ slice_index_or xs (n - 1) x) same e)

one-back : (i : ℕ) → 1 ≤ i → i - 1 + 1 ≡ i
one-back i h = omega arith

here-at : {A : Type 0} (f : ℕ → A) (i : ℕ) (x : A) → with_at f i x i ≡ x
here-at f i x = ap (λ (b : Bool). if b then x else f i) (eqb-self i)

elsewhere-at : {A : Type 0} (f : ℕ → A) (i : ℕ) (x : A) (j : ℕ) → (j ≡ i → ⊥) → with_at f i x j ≡ f j
elsewhere-at f i x j differ = ap (λ (b : Bool). if b then x else f j) (apart j i differ)
  where
    apart : (a b : ℕ) → (a ≡ b → ⊥) → eqb a b ≡ false
    apart a b h = grind (arith, nat_tests)

-- the step of a segment that has done an event
pub stepped-at : {was now : Segment} {s : Seg} {here : NodeEvent} {before after : Shelf} {marks : List Mark} {at : Node} {event : Event} {step : Step} (old new : List Segment)
    → slice_get old (at.0 - 1) ≡ Some was → new ≡ slice_set old (at.0 - 1) now → step ≡ made at event now.clock marks → segment.HasStepped was now s here before after marks → HasSteppedAt at event old new s here before after step
stepped-at {was = was} {now = now} {s = s} {here = here} {before = before} {after = after} {at = at} {event = event} old new there all is h =
    let same = ap (λ (x : Step). x.marks) is in
    record {
      was = was;
      there = there;
      now = now;
      all = all;
      stepped = subst (λ (ms : List Mark). segment.HasStepped was now s here before after ms) (sym same) h;
      is = is ∙ ap (made at event now.clock) (sym same);
    }

module _ (script : Script) (w : machine.World) (old : Network) (stands : Stands script w old) (at : Node) (some : 1 ≤ at.0) where
  pub seg-usable : (s : Segment) → slice_get old.segments.items (at.0 - 1) ≡ Some s → s.spent ≡ false
  seg-usable s e = (stands.segments (at.0 - 1) s e).usable

  pub seg-is : (s : Segment) → slice_get old.segments.items (at.0 - 1) ≡ Some s → segment.IsSegment s (w.segs at.0)
  seg-is s e = subst (λ k. segment.IsSegment s (w.segs k)) (one-back at.0 some) (stands.segments (at.0 - 1) s e).is

  pub seg-may : (here : NodeEvent) → seg_can script (w.segs at.0) here ≡ true → (s : Segment) → slice_get old.segments.items (at.0 - 1) ≡ Some s → seg_can s.script.value (w.segs at.0) here ≡ true
  seg-may here ok s e = subst (λ q. seg_can q (w.segs at.0) here ≡ true) (sym (stands.segments (at.0 - 1) s e).of) ok

  pub seg-inside : at.0 ≤ script.segments → at.0 ≤ length old.segments.items
  seg-inside few = omega (arith, few, stands.count)

  away : is_same_node at the_coordinator ≡ false
  away = not_zero at some
    where
      not_zero : (n : Node) → 1 ≤ n.0 → is_same_node n the_coordinator ≡ false
      not_zero n h = grind (arith, nat_tests)

  pub seg-later : (here : NodeEvent) {before after : Shelf} → IsLaterAt at old.segments.items (w.segs at.0) here before after → IsLaterBy before after (item_at script w at false (Some here))
  seg-later here {before = before} {after = after} h =
      subst (λ (b : Bool). IsLaterBy before after (if b then (coord_rule script w.coord here false).item else (seg_rule script (w.segs at.0) here false).item)) (sym away)
      (subst (λ q. IsLaterBy before after (seg_rule q (w.segs at.0) here false).item) (stands.segments (at.0 - 1) h.was h.there).of h.later)

  module _ (event : Event) (here : NodeEvent) (before after : Shelf) (step : Step) (items : List Segment) (next : IsNext script w event at here) (h : HasSteppedAt at event old.segments.items items (w.segs at.0) here before after step) where
    abbrev turn : Bool → Rattle.gx_rules.specs.Segments.SegTurn
    turn fails = seg_rule script (w.segs at.0) here fails

    abbrev segs : ℕ → Seg
    segs = with_at w.segs at.0 (turn h.stepped.fails).seg

    was_script : h.was.script.value ≡ script
    was_script = (stands.segments (at.0 - 1) h.was h.there).of

    seg_marks : step.marks ≡ (turn h.stepped.fails).marks
    seg_marks = subst (λ x. step.marks ≡ (seg_rule x (w.segs at.0) here h.stepped.fails).marks) was_script h.stepped.told

    seg_now : segment.IsSegment h.now (turn h.stepped.fails).seg
    seg_now = subst (λ x. segment.IsSegment h.now (seg_rule x (w.segs at.0) here h.stepped.fails).seg) was_script h.stepped.is

    abbrev after_turn : Bool → machine.World
    after_turn b = if b then coord_did w event (coord_rule script w.coord here h.stepped.fails) else seg_did w at event (turn h.stepped.fails)

    seg_fit : IsFit script w.steps at (turn h.stepped.fails).marks
    seg_fit = next h.stepped.fails (record { stamp = record { clock = (turn h.stepped.fails).seg.clock; node = at }; event = event; marks = (turn h.stepped.fails).marks }) (ap (λ (b : Bool). (after_turn b).steps) away)

    pub seg-addressed : All (IsAddressed script.segments step.stamp.node) step.marks
    seg-addressed =
        subst (λ (node : Node). All (IsAddressed script.segments node) step.marks) (sym (ap (λ (s : Step). s.stamp.node) h.is))
        (subst (All (IsAddressed script.segments at)) (sym seg_marks) (addressed script at _ seg_fit.at))

    pub seg-turned : (new : Network) → IsPushed script old new step → new.segments.items ≡ items → new.coord ≡ old.coord → new.script ≡ old.script → new.spent ≡ old.spent → HasTurned script w event at here new before after
    seg-turned new pushed same_segments same_coord same_script same_spent =
        record {
          fails = h.stepped.fails;
          is = subst (λ v. Stands script v new) (sym (ap after_turn away)) stands_now;
          took = subst (λ x. Took before after h.stepped.fails x) (sym (ap (λ (b : Bool). if b then (coord_rule script w.coord here h.stepped.fails).item else (turn h.stepped.fails).item) away))
              (subst (λ x. Took before after h.stepped.fails (seg_rule x (w.segs at.0) here h.stepped.fails).item) was_script h.stepped.took);
        }
      where
        kept : AreKept (noted w at (turn h.stepped.fails).seg.clock event (turn h.stepped.fails).marks) new
        kept =
            are-kept script w old new stands at event step _ _ (h.is ∙ ap (λ k. made at event k step.marks) seg_now.clock ∙ ap (made at event (turn h.stepped.fails).seg.clock) seg_marks) seg_fit pushed

        next_after : {k : ℕ} → k ≡ at.0 - 1 → k + 1 ≡ at.0
        next_after e = omega (arith, e, some)

        not_after : {k : ℕ} → (k ≡ at.0 - 1 → ⊥) → k + 1 ≡ at.0 → ⊥
        not_after differ e = differ (omega (arith, e, some))

        one : (k : ℕ) (s : Segment) → ((k ≡ at.0 - 1) × (s ≡ h.now)) ⊎ ((k ≡ at.0 - 1 → ⊥) × (slice_get old.segments.items k ≡ Some s)) → IsAt script (seg_did w at event (turn h.stepped.fails)) (k + 1) s
        one k s (inl e) =
            record {
              is = subst (λ (x : Segment). segment.IsSegment x (segs (k + 1))) (sym e.1) (subst (λ j. segment.IsSegment h.now (segs j)) (sym (next_after e.0)) (subst (segment.IsSegment h.now) (sym (here-at w.segs at.0 (turn h.stepped.fails).seg)) seg_now));
              of = ap (λ (x : Segment). x.script.value) e.1 ∙ ap (λ a. a.value) h.stepped.script ∙ was_script;
              usable = ap (λ (x : Segment). x.spent) e.1 ∙ h.stepped.usable;
            }
        one k s (inr e) =
            let a = stands.segments k s e.1 in
            record {
              is = subst (segment.IsSegment s) (sym (elsewhere-at w.segs at.0 (turn h.stepped.fails).seg (k + 1) (not_after e.0))) a.is;
              of = a.of;
              usable = a.usable;
            }

        stands_now : Stands script (seg_did w at event (turn h.stepped.fails)) new
        stands_now =
            record {
              language = stands.language;
              of = ap (λ a. a.value) same_script ∙ stands.of;
              coord = subst (λ x. Rattle.gx_coord.specs.Steps.IsCoord x w.coord) (sym same_coord) stands.coord;
              coord_script = ap (λ x. x.script.value) same_coord ∙ stands.coord_script;
              coord_usable = ap (λ x. x.spent) same_coord ∙ stands.coord_usable;
              count = ap length (same_segments ∙ h.all) ∙ length-set old.segments.items (at.0 - 1) h.now ∙ stands.count;
              segments = λ k s e. one k s (get-set old.segments.items (at.0 - 1) k h.now s (subst (λ xs. slice_get xs k ≡ Some s) (same_segments ∙ h.all) e));
              run = kept.run;
              long = pushed.long;
              letters = kept.letters;
              placed = kept.placed;
              usable = same_spent ∙ stands.usable;
            }
