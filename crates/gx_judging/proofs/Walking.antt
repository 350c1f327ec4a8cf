-- The marks of a step, and the steps of a run, one by one, in a part of what is legal.
use Rattle.std.proofs.Common.{◌≡◌, ◌↔◌, ◌<◌, ◌≤◌, ◌+◌, ℕ, List, [], ◌∷◌, ◌++◌, length, take, drop, get_or, sym, subst, ap, ◌∙◌}
use Rattle.std.proofs.lemmas.List.{drop_all, drop_more, take_more}
use Rattle.gx_script.specs.declared.Script.{Script}
use Rattle.gx_store.specs.declared.event.Event.{Event}
use Rattle.gx_store.specs.declared.mark.Mark.{Mark}
use Rattle.gx_store.specs.declared.run.Step.{Step}
use Rattle.gx_store.specs.Points.{Point}
use Rattle.gx_judging.specs.declared.parts.Part.{Part}
use Rattle.gx_judging.specs.Parts.{AreLegalIn, AreLegalMarksIn, IsLegalIn, IsLegalStepIn}

module _ (part : Part) (script : Script) (steps : List Step) (event : Event) (marks : List Mark) (k : ℕ) (m : Mark) (inside : k < length marks) (is : m ≡ get_or marks k m) where
  abbrev at : List Mark → Point
  at later = record { steps = steps; event = event; earlier = take k marks; later = later }

  left : drop k marks ≡ m ∷ drop (k + 1) marks
  left = drop_more marks k m inside ∙ ap (λ x. x ∷ drop (k + 1) marks) (sym is)

  next : take k marks ++ m ∷ [] ≡ take (k + 1) marks
  next = ap (λ x. take k marks ++ x ∷ []) is ∙ sym (take_more marks k m inside)

  marks-to : AreLegalMarksIn part script steps event (take k marks) (drop k marks) → IsLegalIn part script (at (drop (k + 1) marks)) m × AreLegalMarksIn part script steps event (take (k + 1) marks) (drop (k + 1) marks)
  marks-to h =
      let parts = subst (AreLegalMarksIn part script steps event (take k marks)) left h in
      (parts.0, subst (λ ms. AreLegalMarksIn part script steps event ms (drop (k + 1) marks)) next parts.1)

  marks-from : IsLegalIn part script (at (drop (k + 1) marks)) m → AreLegalMarksIn part script steps event (take (k + 1) marks) (drop (k + 1) marks) → AreLegalMarksIn part script steps event (take k marks) (drop k marks)
  marks-from legal h =
      subst (AreLegalMarksIn part script steps event (take k marks)) (sym left) (legal, subst (λ ms. AreLegalMarksIn part script steps event ms (drop (k + 1) marks)) (sym next) h)

  -- behind a legal mark the others decide, behind another nothing does
  pub marks-next : {W : Type 0} → IsLegalIn part script (at (drop (k + 1) marks)) m → AreLegalMarksIn part script steps event (take k marks) (drop k marks) ↔ W
      → AreLegalMarksIn part script steps event (take (k + 1) marks) (drop (k + 1) marks) ↔ W
  marks-next legal w = (λ h. w.0 (marks-from legal h), λ x. (marks-to (w.1 x)).1)

  pub marks-stop : {W : Type 0} → (IsLegalIn part script (at (drop (k + 1) marks)) m → ⊥) → AreLegalMarksIn part script steps event (take k marks) (drop k marks) ↔ W → W → ⊥
  marks-stop illegal w x = illegal (marks-to (w.1 x)).0

pub marks-end : (part : Part) (script : Script) (steps : List Step) (event : Event) (marks : List Mark) (k : ℕ) {W : Type 0} → length marks ≤ k
    → AreLegalMarksIn part script steps event (take k marks) (drop k marks) ↔ W → W
marks-end part script steps event marks k past w = w.0 (subst (AreLegalMarksIn part script steps event (take k marks)) (sym (drop_all k marks past)) tt)

module _ (part : Part) (script : Script) (steps : List Step) (k : ℕ) (s : Step) (inside : k < length steps) (is : s ≡ get_or steps k s) where
  left-steps : drop k steps ≡ s ∷ drop (k + 1) steps
  left-steps = drop_more steps k s inside ∙ ap (λ x. x ∷ drop (k + 1) steps) (sym is)

  next-steps : take k steps ++ s ∷ [] ≡ take (k + 1) steps
  next-steps = ap (λ x. take k steps ++ x ∷ []) is ∙ sym (take_more steps k s inside)

  steps-to : AreLegalIn part script (take k steps) (drop k steps) → IsLegalStepIn part script (take k steps) s.event s.marks × AreLegalIn part script (take (k + 1) steps) (drop (k + 1) steps)
  steps-to h =
      let parts = subst (AreLegalIn part script (take k steps)) left-steps h in
      (parts.0, subst (λ ss. AreLegalIn part script ss (drop (k + 1) steps)) next-steps parts.1)

  steps-from : IsLegalStepIn part script (take k steps) s.event s.marks → AreLegalIn part script (take (k + 1) steps) (drop (k + 1) steps) → AreLegalIn part script (take k steps) (drop k steps)
  steps-from legal h = subst (AreLegalIn part script (take k steps)) (sym left-steps) (legal, subst (λ ss. AreLegalIn part script ss (drop (k + 1) steps)) (sym next-steps) h)

  pub steps-next : {W : Type 0} → IsLegalStepIn part script (take k steps) s.event s.marks → AreLegalIn part script (take k steps) (drop k steps) ↔ W → AreLegalIn part script (take (k + 1) steps) (drop (k + 1) steps) ↔ W
  steps-next legal w = (λ h. w.0 (steps-from legal h), λ x. (steps-to (w.1 x)).1)

  pub steps-stop : {W : Type 0} → (IsLegalStepIn part script (take k steps) s.event s.marks → ⊥) → AreLegalIn part script (take k steps) (drop k steps) ↔ W → W → ⊥
  steps-stop illegal w x = illegal (steps-to (w.1 x)).0

pub steps-end : (part : Part) (script : Script) (steps : List Step) (k : ℕ) {W : Type 0} → length steps ≤ k → AreLegalIn part script (take k steps) (drop k steps) ↔ W → W
steps-end part script steps k past w = w.0 (subst (AreLegalIn part script (take k steps)) (sym (drop_all k steps past)) tt)

-- the marks of the step, as they were given
pub follow-is : (part : Part) (script : Script) (steps : List Step) (step : Step) (marks : List Mark) → marks ≡ step.marks
    → IsLegalStepIn part script steps step.event marks ↔ IsLegalStepIn part script steps step.event step.marks
follow-is part script steps step marks e = (
  λ h. subst (λ (ms : List Mark). IsLegalStepIn part script steps step.event ms) e h,
  λ h. subst (λ (ms : List Mark). IsLegalStepIn part script steps step.event ms) (sym e) h,
)
