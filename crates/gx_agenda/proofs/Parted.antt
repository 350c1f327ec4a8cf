-- What is found in one of two maps, where both change at the same keys.
use Rattle.std.proofs.Common.{◌≡◌, Bool, true, false, cond, ap, refl, ◌∙◌}
use Rattle.std.specs.Option.{option_or}
use Rattle.std.specs.Prelude.{Option, Some, None}

or-none : {X : Type 0} (b : Bool) (d h d1 h1 : Option X) → d1 ≡ cond b None d → h1 ≡ cond b None h → option_or d1 h1 ≡ cond b None (option_or d h)
or-none true d h d1 h1 e f = ap (λ o. option_or o h1) e ∙ f
or-none false d h d1 h1 e f = ap (λ o. option_or o h1) e ∙ ap (option_or d) f

or-first : {X : Type 0} (x : X) (b : Bool) (d h d1 h1 : Option X) → d1 ≡ cond b (Some x) d → h1 ≡ cond b None h → option_or d1 h1 ≡ cond b (Some x) (option_or d h)
or-first x true d h d1 h1 e f = ap (λ o. option_or o h1) e
or-first x false d h d1 h1 e f = ap (λ o. option_or o h1) e ∙ ap (option_or d) f

or-second : {X : Type 0} (x : X) (b : Bool) (d h d1 h1 : Option X) → d1 ≡ cond b None d → h1 ≡ cond b (Some x) h → option_or d1 h1 ≡ cond b (Some x) (option_or d h)
or-second x true d h d1 h1 e f = ap (λ o. option_or o h1) e ∙ f
or-second x false d h d1 h1 e f = ap (λ o. option_or o h1) e ∙ ap (option_or d) f

module _ {K X : Type 0} (at : K → Bool) (d h d1 h1 : K → Option X) where
  -- it is taken out of both
  pub taken-out : ((k : K) → d1 k ≡ cond (at k) None (d k)) → ((k : K) → h1 k ≡ cond (at k) None (h k)) → (k : K) → option_or (d1 k) (h1 k) ≡ cond (at k) None (option_or (d k) (h k))
  taken-out e f k = or-none (at k) (d k) (h k) (d1 k) (h1 k) (e k) (f k)

-- where nothing is found, nothing is in the first
pub none-first : {X : Type 0} (d h : Option X) → option_or d h ≡ None → d ≡ None
none-first None h e = refl
none-first (Some x) h e = absurd (cc)
