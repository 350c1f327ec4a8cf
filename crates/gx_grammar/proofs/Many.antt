-- The reader of as many parts as there are.
use Rattle.std.proofs.Common.{◌≡◌, ℕ, ◌+◌, ◌<◌, ◌≤◌, Bool, true, false, if◌then◌else◌, List, [], ◌∷◌, ◌++◌, length, refl, sym, ◌∙◌, ap, subst, arith, append_assoc, append-nil, length-append, zero, suc, Ok, Err}
use Rattle.gx_lex.specs.declared.token.Token.{Token}
use Rattle.gx_grammar.specs.declared.fault.Limits.{Limits}
use Rattle.gx_grammar.specs.declared.fault.Fault.{Fault}
use Rattle.gx_grammar.specs.declared.fault.ReadError.{ReadError}
use Rattle.gx_grammar.specs.declared.fault.ReadError.TheVariants as errors
use Rattle.gx_grammar.specs.Limiting.{Below}
use Rattle.gx_grammar.specs.Code.{Fails}
use Rattle.gx_grammar.specs.Rules.{many, Reading, ◌>>=◌, both_at, many_on, many_at, made_at, starts as heads_with, Same, CanGo}
use Rattle.gx_grammar.proofs.Good.{Good, Tells, Raised, Stays, if_stays, raised_as, bind_stays, same_through, Heads, NotHeads}
use Rattle.gx_grammar.proofs.Parts.{front, begun, same_not_heads}

module _ {A : Type 0} (begins : Token → Bool) (g : Limits → A → List Token → Type 0) (starts : List Token → Type 0) (r : Limits → List Token → Reading A) (R : Good g starts r) (heads : (d : Limits) (a : A) (us : List Token) → g d a us → Heads begins us) where
  -- the first token is of the class
  some_heads : (us : List Token) → Heads begins us → 1 ≤ length us
  some_heads [] q = absurd q
  some_heads (y ∷ ys) q = grind arith

  many_hit : (d : Limits) (n : ℕ) (s : List A) (t : List Token) (a : Reading A) → Heads begins t → r d t ≡ a → many_on begins (r d) (suc n) s t ≡ (a >>= λ a. many_on begins (r d) n (s ++ a.0 ∷ []) a.1)
  many_hit d n s [] a q e = absurd q
  many_hit d n s (y ∷ ys) a q e = ap (λ (b : Bool). if b then (r d (y ∷ ys) >>= λ a. many_on begins (r d) n (s ++ a.0 ∷ []) a.1) else Ok (s, y ∷ ys)) q ∙ ap (λ (x : Reading A). x >>= λ a. many_on begins (r d) n (s ++ a.0 ∷ []) a.1) e

  -- the same at any count that is enough
  many_hits : (d : Limits) (n : ℕ) (s : List A) (t : List Token) (a b : Reading A) (c : Reading (List A)) → Heads begins t → length t ≤ n → r d t ≡ a → ((m : ℕ) → n ≡ suc m → (a >>= λ a. many_on begins (r d) m (s ++ a.0 ∷ []) a.1) ≡ c) → many_on begins (r d) n s t ≡ c
  many_hits d zero s t a b c q l e f = absurd (let z = some_heads t q in omega arith)
  many_hits d (suc n) s t a b c q l e f = many_hit d n s t a q e ∙ f n refl

  many_miss : (d : Limits) (n : ℕ) (s : List A) (t : List Token) → NotHeads begins t → many_on begins (r d) n s t ≡ Ok (s, t)
  many_miss d zero s t q = refl
  many_miss d (suc n) s [] q = refl
  many_miss d (suc n) s (y ∷ ys) q = ap (λ (b : Bool). if b then (r d (y ∷ ys) >>= λ a. many_on begins (r d) n (s ++ a.0 ∷ []) a.1) else Ok (s, y ∷ ys)) q

  abbrev ManyTells : Limits → List A → List Token → Reading (List A) → Type 0
  ManyTells d s ts (Ok a) = (used : List Token) × (extra : List A) × (ts ≡ used ++ a.1) × (a.0 ≡ s ++ extra) × many (g d) extra used × ((others : List Token) (n : ℕ) → Same a.1 others → length (used ++ others) ≤ n → many_on begins (r d) n s (used ++ others) ≡ Ok (a.0, others))
  ManyTells d s ts (Err a) = (used : List Token) × (ts ≡ used ++ a.1) × CanGo (many (g d)) used × Raised (λ d. many (g d)) d a.0 used a.1 × ((others : List Token) (n : ℕ) → Same a.1 others → length (used ++ others) ≤ n → many_on begins (r d) n s (used ++ others) ≡ Err (a.0, others))

  go_one : (d : Limits) (us : List Token) → CanGo (g d) us → CanGo (many (g d)) us
  go_one d us (more, a, q) = (more, a ∷ [], (us ++ more, [], q, refl, sym (append-nil (us ++ more))))

  raised_one : (d : Limits) (us rest : List Token) (k : Fault) → Raised g d k us rest → Raised (λ d. many (g d)) d k us rest
  raised_one d us rest k w = raised_as g (λ d. many (g d)) d k us us rest (λ e ws l c. go_one e (us ++ ws) c) w

  go_many : (d : Limits) (a : A) (us vs : List Token) → g d a us → CanGo (many (g d)) vs → CanGo (many (g d)) (us ++ vs)
  go_many d a us vs q (more, x, w) = (more, a ∷ x, (us, vs ++ more, q, w, append_assoc us vs more))

  raised_many : (d : Limits) (a : A) (us vs rest : List Token) (k : Fault) → g d a us → Raised (λ d. many (g d)) d k vs rest → Raised (λ d. many (g d)) d k (us ++ vs) rest
  raised_many d a us vs rest k q w = raised_as (λ d. many (g d)) (λ d. many (g d)) d k vs (us ++ vs) rest (λ e ws l c. subst (λ (t : List Token). CanGo (many (g e)) t) (sym (append_assoc us vs ws)) (go_many e a us (vs ++ ws) (R.more d e a us l q) c)) w

  joined : (d : Limits) (s : List A) (ts mid us : List Token) (a : A) (b : Reading (List A)) → ts ≡ us ++ mid → g d a us → ((others : List Token) → Same mid others → r d (us ++ others) ≡ Ok (a, others)) → ManyTells d (s ++ a ∷ []) mid b → ManyTells d s ts b
  joined d s ts mid us a (Ok (t, rest)) e q f (vs, extra, e2, q2, w2, f2) = (
    us ++ vs,
    a ∷ extra,
    e ∙ ap (λ (t : List Token). us ++ t) e2 ∙ sym (append_assoc us vs rest),
    q2 ∙ append_assoc s (a ∷ []) extra,
    (us, vs, q, w2, refl),
    λ others n z l.
        let k : length ((us ++ vs) ++ others) ≡ length (us ++ (vs ++ others)) = ap length (append_assoc us vs others) in
        let p = length-append us (vs ++ others) in
        let h = some_heads us (heads d a us q) in
        ap (λ (t : List Token). many_on begins (r d) n s t) (append_assoc us vs others)
        ∙ many_hits d n s (us ++ (vs ++ others)) (Ok (a, vs ++ others)) (Ok (a, vs ++ others)) (Ok (t, others)) (front begins g starts r R heads us (vs ++ others) (heads d a us q)) (omega arith) (f (vs ++ others) (same_through mid vs rest others e2 z))
        (λ m y. f2 others m z (omega arith)),
  )
  joined d s ts mid us a (Err (t, rest)) e q f (vs, e2, w2, k2, f2) = (
    us ++ vs,
    e ∙ ap (λ (t : List Token). us ++ t) e2 ∙ sym (append_assoc us vs rest),
    go_many d a us vs q w2,
    raised_many d a us vs rest t q k2,
    λ others n z l.
        let k : length ((us ++ vs) ++ others) ≡ length (us ++ (vs ++ others)) = ap length (append_assoc us vs others) in
        let p = length-append us (vs ++ others) in
        let h = some_heads us (heads d a us q) in
        ap (λ (t : List Token). many_on begins (r d) n s t) (append_assoc us vs others)
        ∙ many_hits d n s (us ++ (vs ++ others)) (Ok (a, vs ++ others)) (Ok (a, vs ++ others)) (Err (t, others)) (front begins g starts r R heads us (vs ++ others) (heads d a us q)) (omega arith) (f (vs ++ others) (same_through mid vs rest others e2 z))
        (λ m y. f2 others m z (omega arith)),
  )

  many_step : (d : Limits) (n : ℕ) (s : List A) (ts : List Token) (a : Reading A) → Tells g d (r d) ts a → Heads begins ts → length ts ≤ suc n → ((s : List A) (ts : List Token) → length ts ≤ n → ManyTells d s ts (many_on begins (r d) n s ts)) → ManyTells d s ts (a >>= λ a. many_on begins (r d) n (s ++ a.0 ∷ []) a.1)
  many_step d n s ts (Ok (a, mid)) (us, e, w, f) q l ih =
      let k : length ts ≡ length (us ++ mid) = ap length e in
      let p = length-append us mid in
      let h = some_heads us (heads d a us w) in
      joined d s ts mid us a (many_on begins (r d) n (s ++ a ∷ []) mid) e w f (ih (s ++ a ∷ []) mid (omega arith))
  many_step d n s ts (Err (a, rest)) (us, e, (more, x, w), k, f) q l ih = (
    us,
    e,
    go_one d us (more, x, w),
    raised_one d us rest a k,
    λ others m z b.
        many_hits d m s (us ++ others) (Err (a, others)) (Err (a, others)) (Err (a, others)) (begun begins g starts r R heads ts us rest others e q z) b (f others z) (λ m y. refl),
  )

  many_turn : (d : Limits) (n : ℕ) (s : List A) (y : Token) (ys : List Token) (b : Bool) → begins y ≡ b → length (y ∷ ys) ≤ suc n → ((s : List A) (ts : List Token) → length ts ≤ n → ManyTells d s ts (many_on begins (r d) n s ts))
      → ManyTells d s (y ∷ ys) (if b then (r d (y ∷ ys) >>= λ a. many_on begins (r d) n (s ++ a.0 ∷ []) a.1) else Ok (s, y ∷ ys))
  many_turn d n s y ys true e l ih = many_step d n s (y ∷ ys) (r d (y ∷ ys)) (R.tells d (y ∷ ys)) e l ih
  many_turn d n s y ys false e l ih = ([], [], refl, sym (append-nil s), refl, λ others m z b. many_miss d m s others (same_not_heads begins g starts r R heads (y ∷ ys) others z e))

  many_told : (d : Limits) (n : ℕ) (s : List A) (ts : List Token) → length ts ≤ n → ManyTells d s ts (many_on begins (r d) n s ts)
  many_told d zero s [] l = ([], [], refl, sym (append-nil s), refl, λ others m z b. many_miss d m s others (same_not_heads begins g starts r R heads [] others z tt))
  many_told d zero s (y ∷ ys) l = absurd (grind arith)
  many_told d (suc n) s [] l = ([], [], refl, sym (append-nil s), refl, λ others m z b. many_miss d m s others (same_not_heads begins g starts r R heads [] others z tt))
  many_told d (suc n) s (y ∷ ys) l = many_turn d n s y ys (begins y) refl l (λ s ts l. many_told d n s ts l)

  many_tells : (d : Limits) (ts : List Token) (a : Reading (List A)) → ManyTells d [] ts a → Tells (λ d. many (g d)) d (many_at begins (r d)) ts a
  many_tells d ts (Ok (t, rest)) (us, extra, e, q, w, f) = (us, e, subst (λ (x : List A). many (g d) x us) (sym q) w, λ others s. f others (length (us ++ others)) s (omega arith))
  many_tells d ts (Err (t, rest)) (us, e, w, k, f) = (us, e, w, k, λ others s. f others (length (us ++ others)) s (omega arith))

  many_follows : (d : Limits) (x : List A) (us rest : List Token) → ((us : List Token) → Heads begins us → starts us) → many (g d) x us → starts rest → starts (us ++ rest)
  many_follows d [] us rest link q z = subst (λ (t : List Token). starts (t ++ rest)) (sym q) z
  many_follows d (a ∷ x) us rest link (vs, ws, q, w, e) z = link (us ++ rest) (subst (λ (t : List Token). Heads begins (t ++ rest)) (sym e) (front begins g starts r R heads (vs ++ ws) rest (front begins g starts r R heads vs ws (heads d a vs q))))

  many_complete : (d : Limits) (n : ℕ) (s x : List A) (us rest : List Token) → ((us : List Token) → Heads begins us → starts us) → many (g d) x us → starts rest × NotHeads begins rest → length (us ++ rest) ≤ n → many_on begins (r d) n s (us ++ rest) ≡ Ok (s ++ x, rest)
  many_complete d n s [] us rest link q z l = ap (λ (t : List Token). many_on begins (r d) n s (t ++ rest)) q ∙ many_miss d n s rest z.1 ∙ ap (λ (x : List A). Ok (x, rest)) (sym (append-nil s))
  many_complete d n s (a ∷ x) us rest link (vs, ws, q, w, e) z l =
      let k : length (us ++ rest) ≡ length (vs ++ (ws ++ rest)) = ap length (ap (λ (t : List Token). t ++ rest) e ∙ append_assoc vs ws rest) in
      let p = length-append vs (ws ++ rest) in
      let h = some_heads vs (heads d a vs q) in
      ap (λ (t : List Token). many_on begins (r d) n s t) (ap (λ (t : List Token). t ++ rest) e ∙ append_assoc vs ws rest)
      ∙ many_hits d n s (vs ++ (ws ++ rest)) (Ok (a, ws ++ rest)) (Ok (a, ws ++ rest)) (Ok (s ++ a ∷ x, rest)) (front begins g starts r R heads vs (ws ++ rest) (heads d a vs q)) (omega arith) (R.complete d a vs (ws ++ rest) q (many_follows d x ws rest link w z.0))
      (λ m y. many_complete d m (s ++ a ∷ []) x ws rest link w z (omega arith) ∙ ap (λ (x : List A). Ok (x, rest)) (append_assoc s (a ∷ []) x))

  many_more : (d e : Limits) (x : List A) (us : List Token) → Below d e → many (g d) x us → many (g e) x us
  many_more d e [] us l q = q
  many_more d e (a ∷ x) us l (vs, ws, q, w, z) = (vs, ws, R.more d e a vs l q, many_more d e x ws l w, z)

  many_stays : (d e : Limits) (n : ℕ) (s : List A) (ts : List Token) → Below d e → Stays {X = List A} d e (many_on begins (r d) n s ts) (many_on begins (r e) n s ts)
  many_stays d e zero s ts l = refl
  many_stays d e (suc n) s [] l = refl
  many_stays d e (suc n) s (y ∷ ys) l = if_stays d e (begins y) (r d (y ∷ ys) >>= λ a. many_on begins (r d) n (s ++ a.0 ∷ []) a.1) (r e (y ∷ ys) >>= λ a. many_on begins (r e) n (s ++ a.0 ∷ []) a.1) (Ok (s, y ∷ ys)) (Ok (s, y ∷ ys))
      (bind_stays d e (λ a. many_on begins (r d) n (s ++ a.0 ∷ []) a.1) (λ a. many_on begins (r e) n (s ++ a.0 ∷ []) a.1) (r d (y ∷ ys)) (r e (y ∷ ys)) (λ a. many_stays d e n (s ++ a.0 ∷ []) a.1 l) (R.stays d e (y ∷ ys) l)) refl

  pub many_good : ((us : List Token) → Heads begins us → starts us) → Good (λ d. many (g d)) (λ rest. starts rest × NotHeads begins rest) (λ d. many_at begins (r d))
  many_good link = record {
    sample = λ d. ([], [], refl);
    more = many_more;
    tells = λ d ts. many_tells d ts (many_at begins (r d) ts) (many_told d (length ts) [] ts (omega arith));
    complete = λ d x us rest q n. many_complete d (length (us ++ rest)) [] x us rest link q n (omega arith);
    stays = λ d e ts l. many_stays d e (length ts) [] ts l;
  }

-- LOOPS of the code
module _ {A : Type 0} (is : Token → Bool) (r : List Token → Reading A) where
  pub turn_more : (n m : ℕ) (s : List A) (ts rest : List Token) (x : A) → n ≡ m + 1 → heads_with is ts ≡ true → r ts ≡ Ok (x, rest) → many_on is r n s ts ≡ many_on is r m (s ++ x ∷ []) rest
  turn_more n m s [] rest x e b h = absurd (cc)
  turn_more zero m s (y ∷ ys) rest x e b h = absurd (omega arith)
  turn_more (suc n) m s (y ∷ ys) rest x e b h = let same : n ≡ m = omega arith in rw (b, h, same) refl

  pub turn_end : (n : ℕ) (s : List A) (ts : List Token) → heads_with is ts ≡ false → many_on is r n s ts ≡ Ok (s, ts)
  turn_end zero s ts b = refl
  turn_end (suc n) s [] b = refl
  turn_end (suc n) s (y ∷ ys) b = rw b refl

  pub turn_over : (n : ℕ) (s : List A) (ts : List Token) → n ≡ 0 → many_on is r n s ts ≡ Ok (s, ts)
  turn_over n s ts e = rw e refl

  pub turn_stop : (e : ReadError) (n : ℕ) (s : List A) (ts : List Token) (answer : Reading (List A)) → 0 < n → heads_with is ts ≡ true → many_on is r n s ts ≡ answer → Fails e (r ts) → Fails e answer
  turn_stop errors.OutOfMemory n s ts answer l b q h = tt
  turn_stop (errors.Fault f left) zero s ts answer l b q h = absurd (omega arith)
  turn_stop (errors.Fault f left) (suc n) s [] answer l b q h = absurd (cc)
  turn_stop (errors.Fault f left) (suc n) s (y ∷ ys) answer l b q h = (h.0, sym q ∙ rw (b, h.1) refl, h.2)

  onto_bind : (n : ℕ) (x : A) (s : List A) (a : Reading A) → ((s : List A) (ts : List Token) → many_on is r n (x ∷ s) ts ≡ (many_on is r n s ts >>= λ a. Ok (x ∷ a.0, a.1)))
      → (a >>= λ a. many_on is r n ((x ∷ s) ++ a.0 ∷ []) a.1) ≡ ((a >>= λ a. many_on is r n (s ++ a.0 ∷ []) a.1) >>= λ a. Ok (x ∷ a.0, a.1))
  onto_bind n x s (Ok (a, rest)) ih = ih (s ++ a ∷ []) rest
  onto_bind n x s (Err e) ih = refl

  onto_if : (b : Bool) (x : A) (p q : Reading (List A)) (s : List A) (ts : List Token) → p ≡ (q >>= λ a. Ok (x ∷ a.0, a.1)) → (if b then p else Ok (x ∷ s, ts)) ≡ ((if b then q else Ok (s, ts)) >>= λ a. Ok (x ∷ a.0, a.1))
  onto_if true x p q s ts e = e
  onto_if false x p q s ts e = refl

  -- a list that began with an item goes on as one that began with none
  pub onto : (n : ℕ) (x : A) (s : List A) (ts : List Token) → many_on is r n (x ∷ s) ts ≡ (many_on is r n s ts >>= λ a. Ok (x ∷ a.0, a.1))
  onto zero x s ts = refl
  onto (suc n) x s [] = refl
  onto (suc n) x s (y ∷ ys) = onto_if (is y) x _ _ s (y ∷ ys) (onto_bind n x s (r (y ∷ ys)) (λ s ts. onto n x s ts))

  abbrev paired : A → Reading (List A) → Reading (A × List A)
  paired x z = z >>= λ b. Ok ((x, b.0), b.1)

  abbrev as_list : Reading (A × List A) → Reading (List A)
  as_list z = z >>= λ p. Ok (p.0.0 ∷ p.0.1, p.1)

  listed_bind : (x : A) (z : Reading (List A)) → as_list (paired x z) ≡ (z >>= λ b. Ok (x ∷ b.0, b.1))
  listed_bind x (Ok z) = refl
  listed_bind x (Err z) = refl

  -- a list is read by a loop that begins with the first item
  pub listed_same : (f : List Token → Reading A) (x : A) (ts mid : List Token) → f ts ≡ Ok (x, mid) → made_at (λ p. p.0 ∷ p.1) (both_at f (many_at is r)) ts ≡ many_on is r (length mid) (x ∷ []) mid
  listed_same f x ts mid e = ap (λ (a : Reading A). as_list (a >>= λ a. paired a.0 (many_at is r a.1))) e ∙ listed_bind x (many_at is r mid) ∙ sym (onto (length mid) x [] mid)

  pub listed_fails : (e : ReadError) (f : List Token → Reading A) (x : A) (ts mid : List Token) → f ts ≡ Ok (x, mid) → Fails e (many_on is r (length mid) (x ∷ []) mid) → Fails e (made_at (λ p. p.0 ∷ p.1) (both_at f (many_at is r)) ts)
  listed_fails errors.OutOfMemory f x ts mid q h = tt
  listed_fails (errors.Fault k left) f x ts mid q h = (h.0, listed_same f x ts mid q ∙ h.1, h.2)
