-- An entry where it stands: what is read there, and what an edit there does.
use Rattle.std.proofs.Common.{◌≡◌, ◌<◌, ◌∙◌, ℕ, zero, suc, Bool, true, false, cond, List, Option, [], ◌∷◌, ◌++◌, Some, None, length, get_or, slice_set, refl, sym, ap, arith}
use Rattle.std.proofs.lemmas.Map.{NonePasses}
use Rattle.std.specs.List.{remove}
use Rattle.std.specs.Map.{lookup, remove_entry, set_value}
use Rattle.std.specs.Prelude.{take}
use Rattle.gx_entries.specs.Standing.{StandsAt}

module _ {K X : Type 0} (test : K → Bool) where
  pub inside : (es : List (K × X)) (p : ℕ) → StandsAt test es p → p < length es
  inside [] p s = absurd s
  inside (e ∷ es) zero s = omega arith
  inside (e ∷ es) (suc p) s = omega (arith, inside es p s.1)

  pub found-there : (es : List (K × X)) (p : ℕ) (d : K × X) → StandsAt test es p → lookup test es ≡ Some (get_or es p d).1
  found-there [] p d s = absurd s
  found-there (e ∷ es) zero d s = ap (λ b. cond b (Some e.1) (lookup test es)) s
  found-there (e ∷ es) (suc p) d s = ap (λ b. cond b (Some e.1) (lookup test es)) s.0 ∙ found-there es p d s.1

  pub set-there : (es : List (K × X)) (p : ℕ) (d : K × X) (w : X) → StandsAt test es p → slice_set es p ((get_or es p d).0, w) ≡ set_value test es w
  set-there [] p d w s = absurd s
  set-there (e ∷ es) zero d w s = sym (ap (λ b. cond b ((e.0, w) ∷ es) (e ∷ set_value test es w)) s)
  set-there (e ∷ es) (suc p) d w s = ap (λ xs. e ∷ xs) (set-there es p d w s.1) ∙ sym (ap (λ b. cond b ((e.0, w) ∷ es) (e ∷ set_value test es w)) s.0)

  pub removed-there : (es : List (K × X)) (p : ℕ) → StandsAt test es p → remove es p ≡ remove_entry test es
  removed-there [] p s = absurd s
  removed-there (e ∷ es) zero s = sym (ap (λ b. cond b es (e ∷ remove_entry test es)) s)
  removed-there (e ∷ es) (suc p) s = ap (λ xs. e ∷ xs) (removed-there es p s.1) ∙ sym (ap (λ b. cond b es (e ∷ remove_entry test es)) s.0)

  pub set-same : (es : List (K × X)) (p : ℕ) (d : K × X) (w : X) → StandsAt test es p → lookup test (slice_set es p ((get_or es p d).0, w)) ≡ Some w
  set-same [] p d w s = absurd s
  set-same (e ∷ es) zero d w s = ap (λ b. cond b (Some w) (lookup test es)) s
  set-same (e ∷ es) (suc p) d w s = ap (λ b. cond b (Some e.1) (lookup test (slice_set es p ((get_or es p d).0, w)))) s.0 ∙ set-same es p d w s.1

  -- where nothing is found, the first doesn't pass
  past-first : (e : K × X) (rest : Option X) → cond (test e.0) (Some e.1) rest ≡ None → (test e.0 ≡ false) × (rest ≡ None)
  past-first e rest none = by (test e.0) none
    where
      by : (b : Bool) → cond b (Some e.1) rest ≡ None → (b ≡ false) × (rest ≡ None)
      by true h = absurd (cc)
      by false h = (refl, h)

  pub pushed-same : (es : List (K × X)) (k : K) (w : X) → lookup test es ≡ None → test k ≡ true → lookup test (es ++ (k, w) ∷ []) ≡ Some w
  pushed-same [] k w none here = ap (λ b. cond b (Some w) None) here
  pushed-same (e ∷ es) k w none here =
      let past = past-first e (lookup test es) none in
      ap (λ b. cond b (Some e.1) (lookup test (es ++ (k, w) ∷ []))) past.0 ∙ pushed-same es k w past.1 here

  -- one more that doesn't pass
  pub past-next : (es : List (K × X)) (p : ℕ) (d : K × X) → lookup test (take p es) ≡ None → p < length es → test (get_or es p d).0 ≡ false → lookup test (take (suc p) es) ≡ None
  past-next [] p d none under here = refl
  past-next (e ∷ es) zero d none under here = ap (λ b. cond b (Some e.1) None) here
  past-next (e ∷ es) (suc p) d none under here =
      let past = past-first e (lookup test (take p es)) none in
      ap (λ b. cond b (Some e.1) (lookup test (take (suc p) es))) past.0 ∙ past-next es p d past.1 (omega (arith, under)) here

  -- the first that passes behind others that don't
  pub stands-behind : (es : List (K × X)) (p : ℕ) (d : K × X) → lookup test (take p es) ≡ None → p < length es → test (get_or es p d).0 ≡ true → StandsAt test es p
  stands-behind [] p d none under here = absurd (omega (arith, under))
  stands-behind (e ∷ es) zero d none under here = here
  stands-behind (e ∷ es) (suc p) d none under here =
      let past = past-first e (lookup test (take p es)) none in
      (past.0, stands-behind es p d past.1 (omega (arith, under)) here)

  -- what another test finds
  module _ (other : K → Bool) (apart : (k : K) → test k ≡ true → other k ≡ false) where
    pub set-apart : (es : List (K × X)) (p : ℕ) (d : K × X) (w : X) → StandsAt test es p → lookup other (slice_set es p ((get_or es p d).0, w)) ≡ lookup other es
    set-apart [] p d w s = absurd s
    set-apart (e ∷ es) zero d w s = ap (λ b. cond b (Some w) (lookup other es)) (apart e.0 s) ∙ sym (ap (λ b. cond b (Some e.1) (lookup other es)) (apart e.0 s))
    set-apart (e ∷ es) (suc p) d w s = ap (λ o. cond (other e.0) (Some e.1) o) (set-apart es p d w s.1)

    pub removed-apart : (es : List (K × X)) (p : ℕ) → StandsAt test es p → lookup other (remove es p) ≡ lookup other es
    removed-apart [] p s = absurd s
    removed-apart (e ∷ es) zero s = sym (ap (λ b. cond b (Some e.1) (lookup other es)) (apart e.0 s))
    removed-apart (e ∷ es) (suc p) s = ap (λ o. cond (other e.0) (Some e.1) o) (removed-apart es p s.1)

    pub pushed-apart : (es : List (K × X)) (k : K) (w : X) → test k ≡ true → lookup other (es ++ (k, w) ∷ []) ≡ lookup other es
    pushed-apart [] k w here = ap (λ b. cond b (Some w) None) (apart k here)
    pushed-apart (e ∷ es) k w here = ap (λ o. cond (other e.0) (Some e.1) o) (pushed-apart es k w here)
