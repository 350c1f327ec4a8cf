-- Whom a round cancels.
use Rattle.std.proofs.Common.{◌≡◌, ◌↔◌, ◌&&◌, ◌∙◌, ℕ, zero, suc, Bool, true, false, IsTrue, List, [], ◌∷◌, Some, inl, inr, refl, sym, subst, arith}
use Rattle.std.specs.Prelude.{Contains}
use Rattle.gx_ids.specs.declared.ids.Gxid.{Gxid}
use Rattle.gx_ids.specs.declared.ids.SessionId.{SessionId}
use Rattle.gx_lemmas.proofs.Options.{some-same}
use Rattle.gx_lemmas.proofs.Tests.{and-first, and-second, false-true}
use Rattle.gx_store.specs.declared.answer.Refused.TheVariants.{Victim}
use Rattle.gx_store.specs.declared.answer.StmtAnswer.TheVariants.{Refused}
use Rattle.gx_store.specs.declared.mark.Mark.{Mark}
use Rattle.gx_store.specs.declared.mark.Mark.TheVariants.{Answer}
use Rattle.gx_store.specs.Legal.{IsCancelled}
use Rattle.gx_store.specs.Marks.{is_aborted, session_of}
use Rattle.gx_store.specs.Points.{Point, before}
use Rattle.gx_legal.specs.Verdicts.{HasRefusal}

pub refusal-among : (session : SessionId) (round : ℕ) (ms : List Mark) → HasRefusal session round ms → (number : ℕ) × Contains ms (Answer session number (Refused (Victim round)))
refusal-among session round [] h = absurd h
refusal-among session round (m ∷ ms) (inl is) = (is.0, (0, omega arith, is.1))
refusal-among session round (m ∷ ms) (inr h) = let r = refusal-among session round ms h in (r.0, (suc r.1.0, omega (arith, r.1.1), r.1.2))

pub among-refusal : (session : SessionId) (round number : ℕ) (ms : List Mark) → Contains ms (Answer session number (Refused (Victim round))) → HasRefusal session round ms
among-refusal session round number [] h = absurd (omega (arith, h.1))
among-refusal session round number (m ∷ ms) (zero, inside, is) = inl (number, is)
among-refusal session round number (m ∷ ms) (suc i, inside, is) = inr (among-refusal session round number ms (i, omega (arith, inside), is))

module _ (point : Point) (round : ℕ) (g : Gxid) (marks : List Mark) (same : marks ≡ before point) where
  pub cancelled-is : (session : SessionId) (aborted refused : Bool) → session_of marks g ≡ Some session → aborted ≡ is_aborted point.later g → IsTrue refused ↔ HasRefusal session round point.later
      → IsTrue (aborted && refused) ↔ IsCancelled point round g
  cancelled-is session aborted refused of a h = (to, back)
    where
      here : session_of (before point) g ≡ Some session
      here = subst (λ ms. session_of ms g ≡ Some session) same of

      to : IsTrue (aborted && refused) → IsCancelled point round g
      to t = let r = refusal-among session round point.later (h.0 (and-second aborted refused t)) in
          record { aborted = sym a ∙ and-first aborted refused t; session = session; number = r.0; of = here; refused = r.1 }

      both : (x y : Bool) → x ≡ true → y ≡ true → (x && y) ≡ true
      both true true e f = refl
      both false y e f = absurd (false-true e)
      both true false e f = absurd (false-true f)

      back : IsCancelled point round g → IsTrue (aborted && refused)
      back is = let s : session ≡ is.session = some-same session is.session (sym here ∙ is.of) in
          both aborted refused (a ∙ is.aborted) (h.1 (among-refusal session round is.number point.later
          (subst (λ (x : SessionId). Contains point.later (Answer x is.number (Refused (Victim round)))) (sym s) is.refused)))
