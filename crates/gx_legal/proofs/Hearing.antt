-- What was heard by a point.
use Rattle.std.proofs.Common.{◌≡◌, ◌↔◌, ◌≤◌, ◌<◌, ◌+◌, ◌-◌, ◌∙◌, ℕ, zero, suc, eqb, Bool, true, false, IsTrue, List, [], ◌∷◌, Some, length, take, drop, slice_get, inl, inr, refl, sym, subst, ap, arith}
use Rattle.std.proofs.lemmas.Bool.{eqb-true}
use Rattle.gx_ids.specs.declared.ids.Gxid.{Gxid}
use Rattle.gx_ids.specs.declared.ids.Node.{Node}
use Rattle.gx_lemmas.proofs.Numbers.{eqb-turned, le-apart, none-plus}
use Rattle.gx_store.specs.declared.mark.Mark.TheVariants.{Sent}
use Rattle.gx_store.specs.declared.run.Step.{Step}
use Rattle.gx_store.specs.Points.{Point}
use Rattle.gx_legal.specs.Words.{Delivers, HasHeard, HasHeardBefore, IsHeardSince}
use Rattle.gx_legal.specs.declared.word.Word.{Word}

-- PLACES
get-drop : {A : Type 0} (xs : List A) (n i : ℕ) → slice_get (drop n xs) i ≡ slice_get xs (n + i)
get-drop xs zero i = ap (slice_get xs) (sym (none-plus i))
get-drop [] (suc n) i = refl
get-drop (x ∷ xs) (suc n) i = get-drop xs n i ∙ ap (slice_get (x ∷ xs)) (next n i)
  where
    next : (a b : ℕ) → suc (a + b) ≡ suc a + b
    next a b = omega arith

pub get-take : {A : Type 0} (xs : List A) (n i : ℕ) (x : A) → slice_get (take n xs) i ≡ Some x → slice_get xs i ≡ Some x
get-take xs zero i x e = absurd (cc)
get-take [] (suc n) i x e = e
get-take (y ∷ ys) (suc n) zero x e = e
get-take (y ∷ ys) (suc n) (suc i) x e = get-take ys n i x e

pub get-taken : {A : Type 0} (xs : List A) (n i : ℕ) (x : A) → i < n → slice_get xs i ≡ Some x → slice_get (take n xs) i ≡ Some x
get-taken xs zero i x l e = absurd (omega (arith, l))
get-taken [] (suc n) i x l e = absurd (cc)
get-taken (y ∷ ys) (suc n) zero x l e = e
get-taken (y ∷ ys) (suc n) (suc i) x l e = get-taken ys n i x (omega (arith, l)) e

pub taken-below : {A : Type 0} (xs : List A) (n i : ℕ) (x : A) → slice_get (take n xs) i ≡ Some x → i < n
taken-below xs zero i x e = absurd (cc)
taken-below [] (suc n) i x e = absurd (cc)
taken-below (y ∷ ys) (suc n) zero x e = omega arith
taken-below (y ∷ ys) (suc n) (suc i) x e = let l = taken-below ys n i x e in omega (arith, l)

-- none from a number on, and not the one before it
pub none-from : (P : ℕ → Type 0) (k : ℕ) → ((i : ℕ) → k + 1 ≤ i → P i → ⊥) → (P k → ⊥) → (i : ℕ) → k ≤ i → P i → ⊥
none-from P k above here i inside p = by_test (eqb i k) refl
  where
    by_test : (b : Bool) → eqb i k ≡ b → ⊥
    by_test true e = here (subst P (eqb-true i k e) p)
    by_test false e = above i (le-apart k i inside (eqb-turned i k e)) p

-- WORDS
module _ (g : Gxid) (said : Word) (from to : Node) (steps : List Step) where
  pub heard-since : (place : ℕ) → IsHeardSince g said from to steps place → HasHeardBefore g said from to steps
  heard-since place (sender, at, (node, (m, (mark, there, (number, (told, is, says), (p, (receiver, arrives, receives))))))) = (
    place + 1 + p,
    receiver,
    sym (get-drop steps (place + 1) p) ∙ arrives,
    (
      told,
      says,
      record {
        number = number;
        is = receives;
        sent = record {
          step = place;
          mark = m;
          sending = record { sender = sender; at = get-taken steps (place + 1 + p) place sender (omega arith) at; node = node; sent = there ∙ ap Some is };
        };
      },
    ),
  )

  pub since-heard : HasHeardBefore g said from to steps → (place : ℕ) × IsHeardSince g said from to steps place
  since-heard (k, receiver, arrives, (told, says, r)) =
      let s = r.sent in
      let d = s.sending in
      let l : s.step < k = taken-below steps k s.step d.sender d.at in
      let far : k ≡ s.step + 1 + (k - (s.step + 1)) = omega (arith, l) in
      let behind : slice_get (drop (s.step + 1) steps) (k - (s.step + 1)) ≡ Some receiver = get-drop steps (s.step + 1) (k - (s.step + 1)) ∙ ap (slice_get steps) (sym far) ∙ arrives in
      (s.step, (d.sender, get-take steps k s.step d.sender d.at, (d.node, (s.mark, (Sent to r.number told, d.sent, (r.number, (told, refl, says), (k - (s.step + 1), (receiver, behind, r.is))))))))

pub heard-before : (g : Gxid) (said : Word) (from to : Node) (point : Point) (b : Bool) → (Delivers g said from to point.steps point.event → ⊥) → IsTrue b ↔ HasHeardBefore g said from to point.steps
    → IsTrue b ↔ HasHeard g said from to point
heard-before g said from to point b none is = (λ t. let h = is.0 t in (h.3.0, h.3.1, (h.0, inl (h.1, h.2, h.3.2))), back)
  where
    back : HasHeard g said from to point → IsTrue b
    back (told, says, (k, inl at)) = is.1 (k, at.0, at.1, (told, says, at.2))
    back (told, says, (k, inr at)) = absurd (none (told, says, at.1))

pub heard-now : (g : Gxid) (said : Word) (from to : Node) (point : Point) (b : Bool) → b ≡ true → IsTrue b ↔ Delivers g said from to point.steps point.event → IsTrue b ↔ HasHeard g said from to point
heard-now g said from to point b e is = (λ t. let d = is.0 t in (d.0, d.1, (length point.steps, inr (refl, d.2))), λ heard. e)
