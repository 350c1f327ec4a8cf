-- What each mark of a legal history keeps holds before each of its marks, and at its end.
use Rattle.std.proofs.Common.{◌≡◌, List, [], ◌∷◌, ◌++◌, sym, ap, ◌∙◌, subst, append_assoc, append-nil}
use Rattle.std.proofs.lemmas.Grind.{flat_map-append}
use Rattle.gx_script.specs.declared.Script.{Script}
use Rattle.gx_store.specs.declared.event.Event.{Event}
use Rattle.gx_store.specs.declared.mark.Mark.{Mark}
use Rattle.gx_store.specs.declared.run.Step.{Step}
use Rattle.gx_store.specs.Legal.{AreLegalMarks, AreLegalSteps, LegalMark}
use Rattle.gx_store.specs.Points.{marks_in}

module _ (script : Script) (P : List Mark → Type 0)
    (next : (steps : List Step) (e : Event) (earlier : List Mark) (m : Mark) (ms : List Mark)
    → LegalMark script (record { steps = steps; event = e; earlier = earlier; later = ms ++ [] }) m → AreLegalMarks script steps e (earlier ++ m ∷ []) ms []
    → P (marks_in steps ++ earlier) → P ((marks_in steps ++ earlier) ++ m ∷ [])) where
  pub through-marks : (steps : List Step) (e : Event) (earlier ms : List Mark) → AreLegalMarks script steps e earlier ms [] → P (marks_in steps ++ earlier) → P (marks_in steps ++ (earlier ++ ms))
  through-marks steps e earlier [] legal p = subst (λ x. P (marks_in steps ++ x)) (sym (append-nil earlier)) p
  through-marks steps e earlier (m ∷ ms) legal p =
      subst (λ x. P (marks_in steps ++ x)) (append_assoc earlier (m ∷ []) ms)
      (through-marks steps e (earlier ++ m ∷ []) ms legal.1 (subst P (append_assoc (marks_in steps) earlier (m ∷ [])) (next steps e earlier m ms legal.0 legal.1 p)))

  marks-more : (before : List Step) (s : Step) → marks_in (before ++ s ∷ []) ≡ marks_in before ++ s.marks
  marks-more before s = flat_map-append (λ (x : Step). x.marks) before (s ∷ []) ∙ ap (λ x. marks_in before ++ x) (append-nil s.marks)

  pub through : (before steps : List Step) → AreLegalSteps script before steps → P (marks_in before) → P (marks_in (before ++ steps))
  through before [] legal p = subst (λ x. P (marks_in x)) (sym (append-nil before)) p
  through before (s ∷ ss) legal p =
      subst (λ x. P (marks_in x)) (append_assoc before (s ∷ []) ss)
      (through (before ++ s ∷ []) ss legal.1 (subst P (sym (marks-more before s)) (through-marks before s.event [] s.marks legal.0.marks (subst P (sym (append-nil (marks_in before))) p))))
