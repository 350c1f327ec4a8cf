-- A step in its place among all marks of a run.
use Rattle.std.proofs.Common.{◌≡◌, ◌↔◌, ◌≤◌, ◌+◌, ◌-◌, ◌++◌, ◌∙◌, ℕ, List, Some, length, take, slice_get, sym, subst, ap, arith, length-append}
use Rattle.std.proofs.lemmas.List.{take_all}
use Rattle.gx_script.specs.declared.Script.{Script}
use Rattle.gx_store.specs.declared.mark.Mark.{Mark}
use Rattle.gx_store.specs.declared.run.Step.{Step}
use Rattle.gx_store.specs.Legal.{IsLegalStep}
use Rattle.gx_store.specs.Points.{marks_in}
use Rattle.gx_legal.proofs.MarkPlaces.{part-whole, step-inside, step-whole}
use Rattle.gx_legal.specs.Stretches.{MayFollow}

module _ (steps : List Step) (k : ℕ) (step : Step) (earlier all marks : List Mark) (start : ℕ) (at : slice_get steps k ≡ Some step) (whole : all ≡ marks_in steps ++ earlier)
    (begins : start ≡ length (marks_in (take k steps))) (is : marks ≡ step.marks) where
  ends : start + length marks ≡ length (marks_in (take k steps)) + length step.marks
  ends = ap (λ n. n + length marks) begins ∙ ap (λ (ms : List Mark). length (marks_in (take k steps)) + length ms) is

  pub stretch-among : take (start + length marks) all ≡ marks_in (take k steps) ++ marks
  stretch-among = step-whole steps k step earlier all (start + length marks) at whole ends ∙ ap (λ ms. marks_in (take k steps) ++ ms) (sym is)

  pub stretch-inside : start + length marks ≤ length all
  stretch-inside = step-inside steps k step earlier all (start + length marks) at whole ends

-- the step of a point, up to it
module _ (all earlier before : List Mark) (whole : before ≡ all ++ earlier) where
  pub own-begins : length before - length earlier ≡ length all
  own-begins = left (length all) (length earlier) (length before) (ap length whole ∙ length-append all earlier)
    where
      left : (a b d : ℕ) → d ≡ a + b → d - b ≡ a
      left a b d f = omega arith

  pub own-among : take (length before - length earlier + length earlier) before ≡ all ++ earlier
  own-among = part-whole all earlier before (length earlier) whole ∙ ap (λ ms. all ++ ms) (take_all (length earlier) earlier (omega arith))

pub follow-is : (script : Script) (steps : List Step) (step : Step) (marks : List Mark) → marks ≡ step.marks → MayFollow script steps step.event marks ↔ IsLegalStep script steps step
follow-is script steps step marks e = (
  λ h. to (subst (MayFollow script steps step.event) e h),
  λ h. subst (MayFollow script steps step.event) (sym e) ((h.event, h.drawn), h.marks),
)
  where
    to : MayFollow script steps step.event step.marks → IsLegalStep script steps step
    to h = record { event = h.0.0; drawn = h.0.1; marks = h.1 }
