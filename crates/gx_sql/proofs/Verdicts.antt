-- A line gets one verdict.
use Rattle.std.proofs.Common.{◌≡◌, ◌⊎◌, inl, inr, List, [], ◌∷◌, ◌++◌, refl, sym, ◌∙◌, ap, subst, append_assoc, append-nil, Err}
use Rattle.gx_lex.specs.declared.token.Token.{Token}
use Rattle.gx_grammar.specs.declared.fault.Limits.{Limits}
use Rattle.gx_grammar.specs.declared.fault.LineLimit.{LineLimit}
use Rattle.gx_grammar.specs.declared.fault.LineLimit.TheVariants.{Segments, Name, Text, Depth}
use Rattle.gx_grammar.specs.declared.fault.Fault.{Fault}
use Rattle.gx_grammar.specs.declared.fault.Fault.TheVariants.{Syntax, TooMany}
use Rattle.gx_grammar.specs.Limiting.{Keeps, KeepsBefore}
use Rattle.gx_grammar.specs.Rules.{CanGo, CannotGo, Verdict}

-- one list is taken apart in two ways: the first front is the shorter, or they are one
abbrev Shorter : {X : Type 0} → List X → List X → List X → List X → Type 0
Shorter {X = X} us rest vs more = (z : X) × (zs : List X) × (vs ≡ us ++ z ∷ zs) × (rest ≡ z ∷ (zs ++ more))

abbrev tail_of : {X : Type 0} → List X → List X
tail_of [] = []
tail_of (x ∷ xs) = xs

fronts : {X : Type 0} (us rest vs more : List X) → us ++ rest ≡ vs ++ more → Shorter us rest vs more ⊎ (((us ≡ vs) × (rest ≡ more)) ⊎ Shorter vs more us rest)
fronts [] rest [] more e = inr (inl (refl, e))
fronts [] rest (v ∷ vs) more e = inl (v, vs, refl, e)
fronts (u ∷ us) rest [] more e = inr (inr (u, us, refl, sym e))
fronts (u ∷ us) rest (v ∷ vs) more e = step (fronts us rest vs more (ap tail_of e))
  where
    head : u ≡ v
    head = cc

    step : Shorter us rest vs more ⊎ (((us ≡ vs) × (rest ≡ more)) ⊎ Shorter vs more us rest) → Shorter (u ∷ us) rest (v ∷ vs) more ⊎ (((u ∷ us ≡ v ∷ vs) × (rest ≡ more)) ⊎ Shorter (v ∷ vs) more (u ∷ us) rest)
    step (inl (z, zs, p, q)) = inl (z, zs, cc, q)
    step (inr (inl (p, q))) = inr (inl (cc, q))
    step (inr (inr (z, zs, p, q))) = inr (inr (z, zs, cc, q))

keeps_self : (l : LineLimit) (d : Limits) → Keeps l d d
keeps_self Segments d = refl
keeps_self Name d = refl
keeps_self Text d = refl
keeps_self Depth d = (refl, refl)

-- of two limits one is the first
abbrev First : LineLimit → LineLimit → Type 0
First l m = (d e : Limits) → KeepsBefore m d e → Keeps l d e

which : (l m : LineLimit) → (l ≡ m) ⊎ (First l m ⊎ First m l)
which Segments Segments = inl refl
which Segments Name = inr (inl (λ d e k. k))
which Segments Text = inr (inl (λ d e k. k.0))
which Segments Depth = inr (inl (λ d e k. k.0))
which Name Segments = inr (inr (λ d e k. k))
which Name Name = inl refl
which Name Text = inr (inl (λ d e k. k.1))
which Name Depth = inr (inl (λ d e k. k.1))
which Text Segments = inr (inr (λ d e k. k.0))
which Text Name = inr (inr (λ d e k. k.1))
which Text Text = inl refl
which Text Depth = inr (inl (λ d e k. k.2))
which Depth Segments = inr (inr (λ d e k. k.0))
which Depth Name = inr (inr (λ d e k. k.1))
which Depth Text = inr (inr (λ d e k. k.2))
which Depth Depth = inl refl

module _ {X : Type 0} (g : Limits → X → List Token → Type 0) (d : Limits) where
  front_goes : (e : Limits) (us : List Token) (z : Token) (zs : List Token) → CanGo (g e) (us ++ z ∷ zs) → CanGo (g e) (us ++ z ∷ [])
  front_goes e us z zs (more, x, q) = (zs ++ more, x, subst (λ (t : List Token). g e x t) (append_assoc us (z ∷ zs) more ∙ sym (append_assoc us (z ∷ []) (zs ++ more))) q)

  whole_goes : (e : Limits) (us : List Token) (z : Token) (zs : List Token) (x : X) → g e x (us ++ z ∷ zs) → CanGo (g e) (us ++ z ∷ [])
  whole_goes e us z zs x q = (zs, x, subst (λ (t : List Token). g e x t) (sym (append_assoc us (z ∷ []) zs)) q)

  syntax_read : (ts us rest : List Token) (x : X) → g d x ts → ts ≡ us ++ rest → CannotGo g us rest → ⊥
  syntax_read ts us [] x q e c = c d x (subst (λ (t : List Token). g d x t) (e ∙ append-nil us) q)
  syntax_read ts us (z ∷ zs) x q e c = c d (whole_goes d us z zs x (subst (λ (t : List Token). g d x t) e q))

  -- what is read has no fault
  pub read_fault : (ts : List Token) (x : X) (f : Fault) → g d x ts → Verdict g d ts (Err f) → ⊥
  read_fault ts x Syntax q (us, rest, e, c, n) = syntax_read ts us rest x q e n
  read_fault ts x (TooMany l) q (us, y, rest, e, c, n, m) = n d (keeps_self l d) (whole_goes d us y rest x (subst (λ (t : List Token). g d x t) e q))

  syntax_passes : (us rest vs more : List Token) (y : Token) (l : LineLimit) → us ++ rest ≡ vs ++ y ∷ more → CanGo (g d) us → CannotGo g us rest → CanGo (g d) vs
      → ((e : Limits) → Keeps l d e → CanGo (g e) (vs ++ y ∷ []) → ⊥) → ((e : Limits) × CanGo (g e) (vs ++ y ∷ [])) → ⊥
  syntax_passes us rest vs more y l e p c q n m = cases (fronts us rest vs (y ∷ more) e)
    where
      cases : Shorter us rest vs (y ∷ more) ⊎ (((us ≡ vs) × (rest ≡ y ∷ more)) ⊎ Shorter vs (y ∷ more) us rest) → ⊥
      cases (inl (z, zs, a, b)) = subst (λ (t : List Token). CannotGo g us t) b c d (front_goes d us z zs (subst (λ (t : List Token). CanGo (g d) t) a q))
      cases (inr (inl (a, b))) = subst (λ (t : List Token). CannotGo g us t) b c m.0 (subst (λ (t : List Token). CanGo (g m.0) (t ++ y ∷ [])) (sym a) m.1)
      cases (inr (inr (z, zs, a, b))) =
          let same : z ≡ y = cc in
          n d (keeps_self l d) (subst (λ (t : Token). CanGo (g d) (vs ++ t ∷ [])) same (front_goes d vs z zs (subst (λ (t : List Token). CanGo (g d) t) a p)))

  at_one : (vs : List Token) (y : Token) (l m : LineLimit) → ((e : Limits) → Keeps l d e → CanGo (g e) (vs ++ y ∷ []) → ⊥) → ((e : Limits) × KeepsBefore l d e × CanGo (g e) (vs ++ y ∷ []))
      → ((e : Limits) → Keeps m d e → CanGo (g e) (vs ++ y ∷ []) → ⊥) → ((e : Limits) × KeepsBefore m d e × CanGo (g e) (vs ++ y ∷ [])) → l ≡ m
  at_one vs y l m n a p b = cases (which l m)
    where
      cases : (l ≡ m) ⊎ (First l m ⊎ First m l) → l ≡ m
      cases (inl e) = e
      cases (inr (inl f)) = absurd (n b.0 (f d b.0 b.1) b.2)
      cases (inr (inr f)) = absurd (p a.0 (f d a.0 a.1) a.2)

  passes_one : (us rest vs more : List Token) (y z : Token) (l m : LineLimit) → us ++ y ∷ rest ≡ vs ++ z ∷ more → CanGo (g d) us → CanGo (g d) vs
      → ((e : Limits) → Keeps l d e → CanGo (g e) (us ++ y ∷ []) → ⊥) → ((e : Limits) × KeepsBefore l d e × CanGo (g e) (us ++ y ∷ []))
      → ((e : Limits) → Keeps m d e → CanGo (g e) (vs ++ z ∷ []) → ⊥) → ((e : Limits) × KeepsBefore m d e × CanGo (g e) (vs ++ z ∷ [])) → l ≡ m
  passes_one us rest vs more y z l m e p q n a k b = cases (fronts us (y ∷ rest) vs (z ∷ more) e)
    where
      cases : Shorter us (y ∷ rest) vs (z ∷ more) ⊎ (((us ≡ vs) × (y ∷ rest ≡ z ∷ more)) ⊎ Shorter vs (z ∷ more) us (y ∷ rest)) → l ≡ m
      cases (inl (w, ws, s, t)) =
          let same : w ≡ y = cc in
          absurd (n d (keeps_self l d) (subst (λ (t : Token). CanGo (g d) (us ++ t ∷ [])) same (front_goes d us w ws (subst (λ (t : List Token). CanGo (g d) t) s q))))
      cases (inr (inl (s, t))) =
          let same : z ≡ y = cc in
          let one : vs ++ z ∷ [] ≡ us ++ y ∷ [] = ap (λ (w : Token). vs ++ w ∷ []) same ∙ ap (λ (v : List Token). v ++ y ∷ []) (sym s) in
          at_one us y l m n a (λ f h c. k f h (subst (λ (t : List Token). CanGo (g f) t) (sym one) c)) (b.0, b.1, subst (λ (t : List Token). CanGo (g b.0) t) one b.2)
      cases (inr (inr (w, ws, s, t))) =
          let same : w ≡ z = cc in
          absurd (k d (keeps_self m d) (subst (λ (t : Token). CanGo (g d) (vs ++ t ∷ [])) same (front_goes d vs w ws (subst (λ (t : List Token). CanGo (g d) t) s p))))

  -- a line has one fault
  pub one_fault : (ts : List Token) (a b : Fault) → Verdict g d ts (Err a) → Verdict g d ts (Err b) → a ≡ b
  one_fault ts Syntax Syntax p q = refl
  one_fault ts Syntax (TooMany l) (us, rest, e, p, c) (vs, y, more, f, q, n, m) = absurd (syntax_passes us rest vs more y l (sym e ∙ f) p c q n (m.0, m.2))
  one_fault ts (TooMany l) Syntax (vs, y, more, f, q, n, m) (us, rest, e, p, c) = absurd (syntax_passes us rest vs more y l (sym e ∙ f) p c q n (m.0, m.2))
  one_fault ts (TooMany l) (TooMany k) (us, y, rest, e, p, n, a) (vs, z, more, f, q, h, b) = ap TooMany (passes_one us rest vs more y z l k (sym e ∙ f) p q n a h b)
