-- Where no node does anything by itself all that is awaited may be sent again.
use Rattle.std.proofs.Common.{◌≡◌, ◌≤◌, inl, inr, ℕ, ◌-◌, ◌==◌, List, [], ◌∷◌, ◌++◌, Option, Some, None, Bool, true, false, if◌then◌else◌, ◌&&◌, refl, sym, ap, ◌∙◌, subst, arith, length}
use Rattle.std.proofs.lemmas.Bool.{eqb-true}
use Rattle.std.proofs.lemmas.List.Elements.{recursion_from_All}
use Rattle.std.specs.List.{AllByRecursion, flat_map, list_any}
use Rattle.std.specs.Prelude.{is_some}
use Rattle.gx_ids.specs.declared.ids.Gxid.{Gxid}
use Rattle.gx_ids.specs.declared.ids.Node.{Node}
use Rattle.gx_msg.specs.declared.message.Message.{Message}
use Rattle.gx_script.specs.declared.Script.{Script}
use Rattle.gx_store.specs.declared.event.Event.{Event}
use Rattle.gx_store.specs.declared.event.Event.TheVariants as event
use Rattle.gx_store.specs.declared.mark.Mark.{Mark}
use Rattle.gx_store.specs.declared.mark.Mark.TheVariants as mark
use Rattle.gx_store.specs.declared.run.Step.{Step}
use Rattle.gx_store.specs.Journals.{is_same_node}
use Rattle.gx_store.specs.Marks.{is_same_gxid}
use Rattle.gx_store.specs.Ordered.{AreOrdered, IsAtNode, IsLink, IsSegment}
use Rattle.gx_store.specs.Points.{marks_in}
use Rattle.gx_store.specs.Refusals.{the_coordinator}
use Rattle.gx_store.specs.Schedule.{asked, asked_by, asked_from, at_segment, first_of, gxids_of, is_about, is_quiet, left_on, resumptions, segments_of, unless_answered}
use Rattle.gx_rules.specs.AtCoordinator.{awaited}
use Rattle.gx_rules.specs.Machine.{world_of}
use Rattle.gx_law_order.proofs.Ordered.{world_well}
use Rattle.gx_law_runs.proofs.Awaited.{world-asks}
use Rattle.gx_law_runs.proofs.Enabled.{unknown-none}
use Rattle.gx_law_runs.specs.Reached.{IsReached}
use Rattle.gx_law_runs.proofs.Reaching.{by-events}
use Rattle.gx_agenda.specs.Awaited.{AreResendable, IsResendable}
use Rattle.gx_drive.specs.Agrees.{moves_of}
use Rattle.gx_drive.proofs.Firsts.{first-none, none-left, none-right, nodes-none}

-- WHO IS ASKED
module _ (script : Script) (segment : Node) (g : Gxid) where
  -- whatever is awaited is awaited of a segment
  abbrev IsFrom : Option Message → Type 0
  IsFrom was = is_some was ≡ true → IsSegment script segment

  to-segment : (to : Node) → IsLink script the_coordinator to → IsSegment script to
  to-segment to (inl h) = h.1
  to-segment to (inr h) = absurd (omega (arith, h.0.0))

  is-segment : (to : Node) → IsLink script the_coordinator to → is_same_node to segment ≡ true → IsSegment script segment
  is-segment to h same = subst (λ (k : ℕ). (1 ≤ k) × (k ≤ script.segments)) (eqb-true to.0 segment.0 same) (to-segment to h)

  by-mark : (to : Node) (told : Message) (was : Option Message) (b c : Bool) → is_same_node to segment ≡ b → IsLink script the_coordinator to → IsFrom was → IsFrom (if b && c then Some told else was)
  by-mark to told was true true same link h = λ some. is-segment to link same
  by-mark to told was true false same link h = h
  by-mark to told was false c same link h = h

  by-marks : (ms : List Mark) (was : Option Message) → AllByRecursion (IsAtNode script the_coordinator) ms → IsFrom was → IsFrom (asked_by segment g was ms)
  by-marks [] was all h = h
  by-marks (mark.Sent to number told ∷ ms) was all h = by-marks ms _ all.1 (by-mark to told was (is_same_node to segment) (is_about g told) refl all.0 h)
  by-marks (m ∷ ms) was all h = by-marks ms was all.1 h

  by-event : (before : List Step) (was : Option Message) (e : Event) → IsFrom was → IsFrom (unless_answered before segment g was e)
  by-event before was (event.Receive from to number) h = by _
    where
      by : (b : Bool) → IsFrom (if b then None else was)
      by true = λ some. absurd (cc)
      by false = h
  by-event before was e h = h

  by-steps : (before ss : List Step) (was : Option Message) → AreOrdered script before ss → IsFrom was → IsFrom (asked_from before segment g was ss)
  by-steps before [] was ordered h = h
  by-steps before (s ∷ ss) was ordered h = by-steps (before ++ s ∷ []) ss _ ordered.1 (by (is_same_node s.stamp.node the_coordinator) refl)
    where
      at : is_same_node s.stamp.node the_coordinator ≡ true → AllByRecursion (IsAtNode script the_coordinator) s.marks
      at same =
          subst (λ (n : Node). AllByRecursion (IsAtNode script n) s.marks) (ap (λ (k : ℕ). let n : Node = record { 0 = k } in n) (eqb-true s.stamp.node.0 0 same))
          (recursion_from_All (IsAtNode script s.stamp.node) s.marks ordered.0.marks)

      by : (b : Bool) → is_same_node s.stamp.node the_coordinator ≡ b → IsFrom (if b then asked_by segment g (unless_answered before segment g was s.event) s.marks else was)
      by true same = by-marks s.marks _ (at same) (by-event before was s.event h)
      by false same = h

-- WHAT MAY BE SENT AGAIN
module _ (script : Script) (some : 1 ≤ script.segments) (steps : List Step) (is : IsReached script steps) where
  begun : (segment : Node) (g : Gxid) → is_some (asked steps segment g) ≡ true → list_any (λ h. is_same_gxid h g) (gxids_of (marks_in steps)) ≡ true
  begun segment g =
      by-events script steps is (λ ss. is_some (asked ss segment g) ≡ true → list_any (λ h. is_same_gxid h g) (gxids_of (marks_in ss)) ≡ true)
      (λ es h. by es (list_any (λ x. is_same_gxid x g) (gxids_of (marks_in (world_of script es).steps))) refl (sym (ap is_some ((world-asks script some es).asks segment g.0)) ∙ h))
    where
      by : (es : List (Event × Bool)) (b : Bool) → list_any (λ x. is_same_gxid x g) (gxids_of (marks_in (world_of script es).steps)) ≡ b → is_some (awaited (world_of script es).coord g segment) ≡ true → b ≡ true
      by es true known h = refl
      by es false known h = absurd (not-none _ (unknown-none script some es segment g known) h)
        where
          not-none : (o : Option Message) → o ≡ None → is_some o ≡ true → ⊥
          not-none o e h = cc

  -- where nothing is left on a segment's links
  pub resendable-at : (segment : Node) → is_quiet script steps segment ≡ true → IsResendable script steps segment
  resendable-at segment quiet =
      record {
        quiet = quiet;
        begun = begun segment;
      }

  module _ (none : first_of (moves_of script steps) ≡ []) where
    abbrev from : List Event
    from = flat_map (λ segment. first_of (left_on script steps segment the_coordinator)) (segments_of script)

    none-there : from ++ flat_map (at_segment script steps) (segments_of script) ≡ []
    none-there = none-left (from ++ flat_map (at_segment script steps) (segments_of script)) (resumptions (marks_in steps) the_coordinator) (first-none (moves_of script steps) none)

    none-from : from ≡ []
    none-from = none-left from (flat_map (at_segment script steps) (segments_of script)) none-there

    none-at : flat_map (at_segment script steps) (segments_of script) ≡ []
    none-at = none-right from (flat_map (at_segment script steps) (segments_of script)) none-there

    at : (f : Node → List Event) → flat_map f (segments_of script) ≡ [] → (segment : Node) → IsSegment script segment → f segment ≡ []
    at f e segment within = subst (λ (k : ℕ). f (record { 0 = k }) ≡ []) (omega (arith, within.0)) (nodes-none f 1 script.segments e (segment.0 - 1) (omega (arith, within.0, within.1)))

    both-empty : (xs ys : List Event) → xs ≡ [] → ys ≡ [] → ((length xs == 0) && (length ys == 0)) ≡ true
    both-empty xs ys e f = ap (λ (zs : List Event). (length zs == 0) && (length ys == 0)) e ∙ ap (λ (zs : List Event). length zs == 0) f

    pub resendable : AreResendable script steps
    resendable =
        record {
          each = λ segment within.
              resendable-at segment
              (both-empty (left_on script steps the_coordinator segment) (left_on script steps segment the_coordinator)
              (first-none _ (none-right (resumptions (marks_in steps) segment) (first_of (left_on script steps the_coordinator segment)) (first-none _ (at (at_segment script steps) none-at segment within))))
              (first-none _ (at (λ i. first_of (left_on script steps i the_coordinator)) none-from segment within)));
          there = λ segment g. by-steps script segment g [] steps None (by-events script steps is (AreOrdered script []) (λ es. (world_well script some es).steps)) (λ h. absurd (cc));
        }
