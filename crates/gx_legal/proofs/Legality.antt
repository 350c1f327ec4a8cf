-- The marks of a step, and the steps of a run, one by one.
use Rattle.std.proofs.Common.{◌≡◌, ◌↔◌, ◌<◌, ◌≤◌, ◌+◌, ℕ, List, [], ◌∷◌, ◌++◌, length, take, drop, get_or, sym, subst, ap, ◌∙◌}
use Rattle.std.proofs.lemmas.List.{append-nil, drop_all, drop_more, take_more}
use Rattle.gx_script.specs.declared.Script.{Script}
use Rattle.gx_store.specs.declared.event.Event.{Event}
use Rattle.gx_store.specs.declared.mark.Mark.{Mark}
use Rattle.gx_store.specs.declared.run.Step.{Step}
use Rattle.gx_store.specs.Legal.{AreLegalMarks, AreLegalSteps, IsLegalStep, LegalMark}
use Rattle.gx_store.specs.Points.{Point}

module _ (script : Script) (steps : List Step) (event : Event) (marks : List Mark) (k : ℕ) (m : Mark) (inside : k < length marks) (is : m ≡ get_or marks k m) where
  abbrev at : List Mark → Point
  at later = record { steps = steps; event = event; earlier = take k marks; later = later }

  pub marks-left : AreLegalMarks script steps event (take k marks) (drop k marks) [] ↔
      (LegalMark script (at (drop (k + 1) marks)) m × AreLegalMarks script steps event (take (k + 1) marks) (drop (k + 1) marks) [])
  marks-left = (λ h. cut (subst (λ ms. AreLegalMarks script steps event (take k marks) ms []) left h), λ h. subst (λ ms. AreLegalMarks script steps event (take k marks) ms []) (sym left) (join h))
    where
      left : drop k marks ≡ m ∷ drop (k + 1) marks
      left = drop_more marks k m inside ∙ ap (λ x. x ∷ drop (k + 1) marks) (sym is)

      next : take k marks ++ m ∷ [] ≡ take (k + 1) marks
      next = ap (λ x. take k marks ++ x ∷ []) is ∙ sym (take_more marks k m inside)

      cut : AreLegalMarks script steps event (take k marks) (m ∷ drop (k + 1) marks) []
          → LegalMark script (at (drop (k + 1) marks)) m × AreLegalMarks script steps event (take (k + 1) marks) (drop (k + 1) marks) []
      cut h = (subst (λ ms. LegalMark script (at ms) m) (append-nil (drop (k + 1) marks)) h.0, subst (λ ms. AreLegalMarks script steps event ms (drop (k + 1) marks) []) next h.1)

      join : LegalMark script (at (drop (k + 1) marks)) m × AreLegalMarks script steps event (take (k + 1) marks) (drop (k + 1) marks) []
          → AreLegalMarks script steps event (take k marks) (m ∷ drop (k + 1) marks) []
      join h = (subst (λ ms. LegalMark script (at ms) m) (sym (append-nil (drop (k + 1) marks))) h.0, subst (λ ms. AreLegalMarks script steps event ms (drop (k + 1) marks) []) (sym next) h.1)

  -- behind a legal mark the others decide, behind another nothing does
  pub marks-next : {W : Type 0} → LegalMark script (at (drop (k + 1) marks)) m → AreLegalMarks script steps event (take k marks) (drop k marks) [] ↔ W
      → AreLegalMarks script steps event (take (k + 1) marks) (drop (k + 1) marks) [] ↔ W
  marks-next legal left = (λ h. left.0 (marks-left.1 (legal, h)), λ w. (marks-left.0 (left.1 w)).1)

  pub marks-stop : {W : Type 0} → (LegalMark script (at (drop (k + 1) marks)) m → ⊥) → AreLegalMarks script steps event (take k marks) (drop k marks) [] ↔ W → W → ⊥
  marks-stop illegal left w = illegal (marks-left.0 (left.1 w)).0

pub marks-end : (script : Script) (steps : List Step) (event : Event) (marks : List Mark) (k : ℕ) {W : Type 0} → length marks ≤ k
    → AreLegalMarks script steps event (take k marks) (drop k marks) [] ↔ W → W
marks-end script steps event marks k past left = left.0 (subst (λ ms. AreLegalMarks script steps event (take k marks) ms []) (sym (drop_all k marks past)) tt)

module _ (script : Script) (steps : List Step) (k : ℕ) (s : Step) (inside : k < length steps) (is : s ≡ get_or steps k s) where
  pub steps-left : AreLegalSteps script (take k steps) (drop k steps) ↔ (IsLegalStep script (take k steps) s × AreLegalSteps script (take (k + 1) steps) (drop (k + 1) steps))
  steps-left = (λ h. cut (subst (λ ss. AreLegalSteps script (take k steps) ss) left h), λ h. subst (λ ss. AreLegalSteps script (take k steps) ss) (sym left) (join h))
    where
      left : drop k steps ≡ s ∷ drop (k + 1) steps
      left = drop_more steps k s inside ∙ ap (λ x. x ∷ drop (k + 1) steps) (sym is)

      next : take k steps ++ s ∷ [] ≡ take (k + 1) steps
      next = ap (λ x. take k steps ++ x ∷ []) is ∙ sym (take_more steps k s inside)

      cut : AreLegalSteps script (take k steps) (s ∷ drop (k + 1) steps) → IsLegalStep script (take k steps) s × AreLegalSteps script (take (k + 1) steps) (drop (k + 1) steps)
      cut h = (h.0, subst (λ ss. AreLegalSteps script ss (drop (k + 1) steps)) next h.1)

      join : IsLegalStep script (take k steps) s × AreLegalSteps script (take (k + 1) steps) (drop (k + 1) steps) → AreLegalSteps script (take k steps) (s ∷ drop (k + 1) steps)
      join h = (h.0, subst (λ ss. AreLegalSteps script ss (drop (k + 1) steps)) (sym next) h.1)

  pub steps-next : {W : Type 0} → IsLegalStep script (take k steps) s → AreLegalSteps script (take k steps) (drop k steps) ↔ W → AreLegalSteps script (take (k + 1) steps) (drop (k + 1) steps) ↔ W
  steps-next legal left = (λ h. left.0 (steps-left.1 (legal, h)), λ w. (steps-left.0 (left.1 w)).1)

  pub steps-stop : {W : Type 0} → (IsLegalStep script (take k steps) s → ⊥) → AreLegalSteps script (take k steps) (drop k steps) ↔ W → W → ⊥
  steps-stop illegal left w = illegal (steps-left.0 (left.1 w)).0

pub steps-end : (script : Script) (steps : List Step) (k : ℕ) {W : Type 0} → length steps ≤ k → AreLegalSteps script (take k steps) (drop k steps) ↔ W → W
steps-end script steps k past left = left.0 (subst (AreLegalSteps script (take k steps)) (sym (drop_all k steps past)) tt)
