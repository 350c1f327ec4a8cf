-- The words of a seed, one behind the other.
use Rattle.std.proofs.Common.{◌≡◌, ℕ, suc, ◌+◌, ◌%◌, List, true, Option, Some, refl, sym, ap, ◌∙◌, subst, add-one, length, slice_get}
use Rattle.std.specs.Prelude.{IfSome}
use Rattle.rand_xoshiro.specs.Xoshiro256.{plus_plus}
use Rattle.gx_script.specs.declared.Script.{Script}
use Rattle.gx_store.specs.declared.event.Event.{Event}
use Rattle.gx_store.specs.declared.run.Step.{Step}
use Rattle.gx_store.specs.Groups.{enabled_in}
use Rattle.gx_store.specs.Schedule.{is_any_unfinished}
use Rattle.gx_drive.specs.Seeded.{IsDrawn, behind, seeded}

behind-suc : (n : ℕ) (generator : List ℕ) → behind (suc n) generator ≡ (plus_plus (behind n generator)).1
unfolding behind
behind-suc n generator = refl

pub behind-none : (generator : List ℕ) → generator ≡ behind 0 generator
unfolding behind
behind-none generator = refl

-- the generator behind one word more
pub behind-next : (n word : ℕ) (start old new : List ℕ) → (word, new) ≡ plus_plus old → old ≡ behind n start → new ≡ behind (n + 1) start
behind-next n word start old new drawn is = ap (λ (p : ℕ × List ℕ). p.1) drawn ∙ ap (λ g. (plus_plus g).1) is ∙ sym (behind-suc n start) ∙ ap (λ k. behind k start) (sym (add-one n))

-- what a word draws is what the seed draws
pub word-draws : (script : Script) (seed n word : ℕ) (steps : List Step) (event : Event) (picked : Option Event) (old new : List ℕ) → length steps ≡ n → (word, new) ≡ plus_plus old
    → old ≡ behind n (seeded seed) → is_any_unfinished script steps ≡ true → picked ≡ Some event
    → IfSome picked (λ e. slice_get (enabled_in script steps) (word % length (enabled_in script steps)) ≡ Some e) → IsDrawn script seed steps event
word-draws script seed n word steps event picked old new count drawn is unfinished same there =
    record {
      unfinished = unfinished;
      drawn = subst (λ w. slice_get (enabled_in script steps) (w % length (enabled_in script steps)) ≡ Some event)
          (ap (λ (p : ℕ × List ℕ). p.0) drawn ∙ ap (λ g. (plus_plus g).0) (is ∙ ap (λ k. behind k (seeded seed)) (sym count)))
          (subst (λ o. IfSome o (λ e. slice_get (enabled_in script steps) (word % length (enabled_in script steps)) ≡ Some e)) same there);
    }
