-- The reader of one of two rules, by the first token.
use Rattle.std.proofs.Common.{◌≡◌, inl, inr, Bool, true, false, if◌then◌else◌, List, [], ◌∷◌, ◌++◌, refl, sym, ◌∙◌, ap, Ok, Err}
use Rattle.gx_lex.specs.declared.token.Token.{Token}
use Rattle.gx_grammar.specs.declared.fault.Limits.{Limits}
use Rattle.gx_grammar.specs.Limiting.{Below}
use Rattle.gx_grammar.specs.Rules.{Reading, either, either_at, starts, Same, CanGo}
use Rattle.gx_grammar.proofs.Good.{Good, Tells, if_stays, raised_as}

module _ {A : Type 0} (begins : Token → Bool) (g h : Limits → A → List Token → Type 0) (ends : List Token → Type 0) (r s : Limits → List Token → Reading A) (R : Good g ends r) (S : Good h ends s) where
  left : (d : Limits) (us : List Token) → CanGo (g d) us → CanGo (either (g d) (h d)) us
  left d us (more, a, q) = (more, a, inl q)

  right : (d : Limits) (us : List Token) → CanGo (h d) us → CanGo (either (g d) (h d)) us
  right d us (more, a, q) = (more, a, inr q)

  -- the choice is the same for what begins with the same token
  same_starts : (ts others : List Token) → Same ts others → starts begins ts ≡ starts begins others
  same_starts [] [] z = refl
  same_starts [] (y ∷ ys) z = absurd z
  same_starts (y ∷ ys) [] z = absurd z
  same_starts (y ∷ ys) (x ∷ xs) z = ap begins z

  front_starts : (ts us rest others : List Token) → ts ≡ us ++ rest → Same rest others → starts begins ts ≡ starts begins (us ++ others)
  front_starts ts [] rest others e z = ap (starts begins) e ∙ same_starts rest others z
  front_starts ts (y ∷ us) rest others e z = ap (starts begins) e

  chosen : (d : Limits) (b : Bool) (ts us rest others : List Token) (a : Reading A) → starts begins ts ≡ b → ts ≡ us ++ rest → Same rest others → (if b then r d (us ++ others) else s d (us ++ others)) ≡ a → either_at begins (r d) (s d) (us ++ others) ≡ a
  chosen d b ts us rest others a q e z w = ap (λ (c : Bool). if c then r d (us ++ others) else s d (us ++ others)) (sym (front_starts ts us rest others e z) ∙ q) ∙ w

  tells_left : (d : Limits) (ts : List Token) (a : Reading A) → starts begins ts ≡ true → Tells g d (r d) ts a → Tells (λ d. either (g d) (h d)) d (either_at begins (r d) (s d)) ts a
  tells_left d ts (Ok (a, rest)) b (us, e, q, f) = (us, e, inl q, λ others z. chosen d true ts us rest others (Ok (a, others)) b e z (f others z))
  tells_left d ts (Err (a, rest)) b (us, e, q, k, f) = (us, e, left d us q, raised_as g (λ d. either (g d) (h d)) d a us us rest (λ e ws l c. left e (us ++ ws) c) k, λ others z. chosen d true ts us rest others (Err (a, others)) b e z (f others z))

  tells_right : (d : Limits) (ts : List Token) (a : Reading A) → starts begins ts ≡ false → Tells h d (s d) ts a → Tells (λ d. either (g d) (h d)) d (either_at begins (r d) (s d)) ts a
  tells_right d ts (Ok (a, rest)) b (us, e, q, f) = (us, e, inr q, λ others z. chosen d false ts us rest others (Ok (a, others)) b e z (f others z))
  tells_right d ts (Err (a, rest)) b (us, e, q, k, f) = (us, e, right d us q, raised_as h (λ d. either (g d) (h d)) d a us us rest (λ e ws l c. right e (us ++ ws) c) k, λ others z. chosen d false ts us rest others (Err (a, others)) b e z (f others z))

  told : (d : Limits) (ts : List Token) (b : Bool) → starts begins ts ≡ b → Tells (λ d. either (g d) (h d)) d (either_at begins (r d) (s d)) ts (if b then r d ts else s d ts)
  told d ts true b = tells_left d ts (r d ts) b (R.tells d ts)
  told d ts false b = tells_right d ts (s d ts) b (S.tells d ts)

  either_more : (d e : Limits) (x : A) (us : List Token) → Below d e → either (g d) (h d) x us → either (g e) (h e) x us
  either_more d e x us l (inl q) = inl (R.more d e x us l q)
  either_more d e x us l (inr q) = inr (S.more d e x us l q)

  read : (d : Limits) (x : A) (us rest : List Token) → ((x : A) → g d x us → starts begins (us ++ rest) ≡ true) → ((x : A) → h d x us → starts begins (us ++ rest) ≡ false) → either (g d) (h d) x us → ends rest → either_at begins (r d) (s d) (us ++ rest) ≡ Ok (x, rest)
  read d x us rest p q (inl w) n = ap (λ (c : Bool). if c then r d (us ++ rest) else s d (us ++ rest)) (p x w) ∙ R.complete d x us rest w n
  read d x us rest p q (inr w) n = ap (λ (c : Bool). if c then r d (us ++ rest) else s d (us ++ rest)) (q x w) ∙ S.complete d x us rest w n

  pub either_good : ((d : Limits) (x : A) (us rest : List Token) → g d x us → starts begins (us ++ rest) ≡ true) → ((d : Limits) (x : A) (us rest : List Token) → h d x us → ends rest → starts begins (us ++ rest) ≡ false) → Good (λ d. either (g d) (h d)) ends (λ d. either_at begins (r d) (s d))
  either_good p q = record {
    sample = λ d. left d [] (R.sample d);
    more = either_more;
    tells = λ d ts. told d ts (starts begins ts) refl;
    complete = λ d x us rest w n. read d x us rest (λ x w. p d x us rest w) (λ x w. q d x us rest w n) w n;
    stays = λ d e ts l. if_stays d e (starts begins ts) (r d ts) (r e ts) (s d ts) (s e ts) (R.stays d e ts l) (S.stays d e ts l);
  }
