-- Links, one after the other.
use Rattle.std.proofs.Common.{◌≡◌, ◌≤◌, ◌<◌, ◌⊎◌, inl, inr, ⊎_elim, ℕ, zero, suc, ◌+◌, List, [], ◌∷◌, ◌++◌, Some, refl, sym, subst, ap, ◌∙◌, arith, length, slice_index_or}
use Rattle.std.specs.Prelude.{slice_get, slice_set}
use Rattle.std.proofs.lemmas.List.{length-map}
use Rattle.std.proofs.lemmas.Option.{slice_get_read}
use Rattle.gx_lemmas.proofs.Lists.{place-below}
use Rattle.gx_lemmas.proofs.Options.{some-same}
use Rattle.gx_links.specs.Ends.{OutEnd}
use Rattle.gx_store.specs.declared.mark.Mark.{Mark}
use Rattle.gx_law_merge.specs.Apart.{sent_in_step}
use Rattle.gx_cells.specs.CoordActs.{AreSentOn, HasSentOn, links_of}

get-set : {A : Type 0} (xs : List A) (i k : ℕ) (y x : A) → slice_get (slice_set xs i y) k ≡ Some x → ((k ≡ i) × (x ≡ y)) ⊎ ((k ≡ i → ⊥) × (slice_get xs k ≡ Some x))
get-set [] i k y x e = absurd (cc)
get-set (z ∷ xs) zero zero y x e = inl (refl, sym (some-same y x e))
get-set (z ∷ xs) zero (suc k) y x e = inr (λ h. absurd (omega (arith, h)), e)
get-set (z ∷ xs) (suc i) zero y x e = inr (λ h. absurd (omega (arith, h)), e)
get-set (z ∷ xs) (suc i) (suc k) y x e = ⊎_elim (λ (h : (k ≡ i) × (x ≡ y)). inl (ap suc h.0, h.1)) (λ (h : (k ≡ i → ⊥) × (slice_get xs k ≡ Some x)). inr (λ same. h.0 (omega (arith, same)), h.1)) (get-set xs i k y x e)

-- the first so many have been sent on, and the others are as they were
pub record AreSpread (clock : ℕ) (marks : List Mark) (olds : List OutEnd) (count : ℕ) (now : List OutEnd) : Type 0 where
  pub links : links_of now ≡ links_of olds
  pub done : (k : ℕ) (x : OutEnd) → k < count → slice_get now k ≡ Some x → HasSentOn k clock marks olds x
  pub rest : (k : ℕ) (x : OutEnd) → count ≤ k → slice_get now k ≡ Some x → slice_get olds k ≡ Some x

pub spread-next : (clock : ℕ) (marks : List Mark) (olds now now' : List OutEnd) (p : ℕ) (was new : OutEnd) → AreSpread clock marks olds p now → slice_get now p ≡ Some was
    → new.sent ≡ was.sent ++ sent_in_step (record { 0 = p + 1 }) clock marks → links_of now' ≡ links_of now → now' ≡ slice_set now p new → AreSpread clock marks olds (p + 1) now'
spread-next clock marks olds now now' p was new a at sent links is =
    record {
      links = links ∙ a.links;
      done = λ k x low there. by-done k x low (get-set now p k new x (subst (λ os. slice_get os k ≡ Some x) is there));
      rest = λ k x high there. by-rest k x high (get-set now p k new x (subst (λ os. slice_get os k ≡ Some x) is there));
    }
  where
    by-done : (k : ℕ) (x : OutEnd) → k < p + 1 → ((k ≡ p) × (x ≡ new)) ⊎ ((k ≡ p → ⊥) × (slice_get now k ≡ Some x)) → HasSentOn k clock marks olds x
    by-done k x low (inl e) = subst (λ n. HasSentOn n clock marks olds x) (sym e.0) (was, a.rest p was (least p) at, ap (λ (o : OutEnd). o.sent) e.1 ∙ sent)
      where
        least : (n : ℕ) → n ≤ n
        least n = omega arith
    by-done k x low (inr e) = a.done k x (below k p low e.0) e.1
      where
        below : (k p : ℕ) → k < p + 1 → (k ≡ p → ⊥) → k < p
        below k p l h = grind (arith, l, h)

    by-rest : (k : ℕ) (x : OutEnd) → p + 1 ≤ k → ((k ≡ p) × (x ≡ new)) ⊎ ((k ≡ p → ⊥) × (slice_get now k ≡ Some x)) → slice_get olds k ≡ Some x
    by-rest k x high (inl e) = absurd (apart k p e.0 high)
      where
        apart : (k p : ℕ) → k ≡ p → p + 1 ≤ k → ⊥
        apart k p h l = omega (arith, h, l)
    by-rest k x high (inr e) = a.rest k x (above k p high) e.1
      where
        above : (k p : ℕ) → p + 1 ≤ k → p ≤ k
        above k p l = omega (arith, l)

same-length : (xs ys : List OutEnd) → links_of xs ≡ links_of ys → length xs ≡ length ys
same-length xs ys e = sym (length-map xs (λ (o : OutEnd). o.link)) ∙ ap length e ∙ length-map ys (λ (o : OutEnd). o.link)

-- the link that is read
pub link-read : (now olds : List OutEnd) (p : ℕ) (was : OutEnd) → links_of now ≡ links_of olds → p < length olds → was ≡ slice_index_or now p was → slice_get now p ≡ Some was
link-read now olds p was same inside at = slice_get_read now (length now) p was refl (subst (λ n. p < n) (sym (same-length now olds same)) inside) at

-- all have been sent on
pub all-spread : (clock : ℕ) (marks : List Mark) (olds now : List OutEnd) (count : ℕ) → AreSpread clock marks olds count now → length olds ≤ count → AreSentOn clock marks olds now
all-spread clock marks olds now count a all k x at = a.done k x (within k (length now) (length olds) count (place-below now k x at) (same-length now olds a.links) all) at
  where
    within : (k a b n : ℕ) → k < a → a ≡ b → b ≤ n → k < n
    within k a b n l e h = omega (arith, l, e, h)
