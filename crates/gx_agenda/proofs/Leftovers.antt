-- The first of some numbers in a row that passes a test.
use Rattle.std.proofs.Common.{◌≡◌, ◌≢◌, ◌⊎◌, inl, inr, ℕ, suc, zero, ◌+◌, ◌<◌, ◌≤◌, Bool, true, false, not, eqb, length, cond, map, refl, sym, ap, ◌∙◌, subst, List, [], ◌∷◌, take, arith}
use Rattle.std.proofs.lemmas.Bool.Decides.{nat_tests}
use Rattle.std.proofs.lemmas.List.{take-map}
use Rattle.std.specs.List.{filter, range_with_len}
use Rattle.gx_ids.specs.declared.ids.Node.{Node}
use Rattle.gx_store.specs.declared.event.Event.TheVariants.{Receive}
use Rattle.gx_agenda.proofs.Numbers.{three}

pub none_passes : (p : ℕ → Bool) (a len : ℕ) → ((n : ℕ) → a ≤ n → n < a + len → p n ≡ false) → filter p (range_with_len a len) ≡ []
none_passes p a zero none = refl
none_passes p a (suc len) none =
    rw (none a (omega arith) (omega arith)) (none_passes p (a + 1) len (λ n low high. none n (omega arith) (omega arith)))

pub first_passes : (p : ℕ → Bool) (a len skip : ℕ) → ((n : ℕ) → a ≤ n → n < a + skip → p n ≡ false) → p (a + skip) ≡ true → skip < len → take 1 (filter p (range_with_len a len)) ≡ (a + skip) ∷ []
first_passes p a zero skip none is within = absurd (omega arith)
first_passes p a (suc len) zero none is within =
    let e : a + 0 ≡ a = omega arith in
    rw (subst (λ n. p n ≡ true) e is) (ap (λ n. n ∷ []) (sym e))
first_passes p a (suc len) (suc skip) none is within =
    let e : a + 1 + skip ≡ a + suc skip = omega arith in
    rw (none a (omega arith) (omega arith)) (first_passes p (a + 1) len skip (λ n low high. none n (omega arith) (omega arith)) (subst (λ n. p n ≡ true) (sym e) is) (omega arith) ∙ ap (λ n. n ∷ []) e)

pub record Passes (p : ℕ → Bool) (a len n : ℕ) : Type 0 where
  pub is : p n ≡ true
  pub low : a ≤ n
  pub high : n < a + len

first_of_two : (p : ℕ → Bool) (a len n : ℕ) (b : Bool) → p a ≡ b → take 1 (cond b (a ∷ filter p (range_with_len (a + 1) len)) (filter p (range_with_len (a + 1) len))) ≡ n ∷ [] → ((take 1 (filter p (range_with_len (a + 1) len)) ≡ n ∷ []) → Passes p (a + 1) len n) → Passes p a (suc len) n
first_of_two p a len n true is found rest =
    let e : a ≡ n = cc in
    record { is = subst (λ m. p m ≡ true) e is; low = omega arith; high = omega arith }
first_of_two p a len n false is found rest = let r = rest found in record { is = r.is; low = let h = r.low in omega arith; high = let h = r.high in omega arith }

pub passes_first : (p : ℕ → Bool) (a len n : ℕ) → take 1 (filter p (range_with_len a len)) ≡ n ∷ [] → Passes p a len n
passes_first p a zero n found = absurd (cc)
passes_first p a (suc len) n found = first_of_two p a len n (p a) refl found (passes_first p (a + 1) len n)

-- the first message of a link that is left, where those below it are not
pub first_left : {X : Type 0} (f : ℕ → X) (p : ℕ → Bool) (sent done : ℕ) → ((n : ℕ) → 0 < n → n ≤ done → p n ≡ false) → p (done + 1) ≡ true → done < sent → take 1 (map f (filter p (range_with_len 1 sent))) ≡ f (done + 1) ∷ []
first_left f p sent done none is within =
    let e : 1 + done ≡ done + 1 = omega arith in
    take-map f 1 (filter p (range_with_len 1 sent))
    ∙ ap (map f) (first_passes p 1 sent done (λ n low high. none n (omega arith) (omega arith)) (subst (λ n. p n ≡ true) (sym e) is) within ∙ ap (λ n. n ∷ []) e)

pub none_left : {X : Type 0} (f : ℕ → X) (p : ℕ → Bool) (sent done : ℕ) → ((n : ℕ) → 0 < n → n ≤ done → p n ≡ false) → sent ≤ done → take 1 (map f (filter p (range_with_len 1 sent))) ≡ []
none_left f p sent done none within = ap (λ ns. take 1 (map f ns)) (none_passes p 1 sent (λ n low high. none n (omega arith) (omega arith)))

-- the first that is left is the one
pub left_first : (p : ℕ → Bool) (sent done number : ℕ) → ((n : ℕ) → 0 < n → n ≤ done → p n ≡ false) → take 1 (filter p (range_with_len 1 sent)) ≡ number ∷ [] → (done + 1 ≤ number → p (done + 1) ≡ true) → number ≡ done + 1
left_first p sent done number none found is = by_place (three number done)
  where
    there : Passes p 1 sent number
    there = passes_first p 1 sent number found

    at_next : done + 1 ≤ number → number ≡ done + 1
    at_next far =
        let e : 1 + done ≡ done + 1 = omega arith in
        let first : take 1 (filter p (range_with_len 1 sent)) ≡ (1 + done) ∷ [] = first_passes p 1 sent done (λ n low high. none n (omega arith) (omega arith)) (subst (λ n. p n ≡ true) (sym e) (is far)) (let h = there.high in omega arith) in
        let same : number ∷ [] ≡ (1 + done) ∷ [] = sym found ∙ first in
        let n : number ≡ 1 + done = cc in
        n ∙ e

    by_place : (number ≤ done) ⊎ ((number ≡ done + 1) ⊎ (done + 1 < number)) → number ≡ done + 1
    by_place (inl old) =
        let yes_left : p number ≡ true = there.is in
        let not_left : p number ≡ false = none number there.low old in
        absurd (cc)
    by_place (inr (inl e)) = e
    by_place (inr (inr far)) = at_next (omega arith)

-- the number of the first event is the first number
pub first_number : (from to : Node) (number : ℕ) (ns : List ℕ) → take 1 (map (Receive from to) ns) ≡ Receive from to number ∷ [] → take 1 ns ≡ number ∷ []
first_number from to number [] e = absurd (cc)
first_number from to number (n ∷ ns) e = let same : n ≡ number = cc in ap (λ k. k ∷ []) same

-- nothing is left where there is no first
pub some_left : {X : Type 0} (xs : List X) (x : X) → x ∷ [] ≡ take 1 xs → true ≡ not (eqb (length xs) 0)
some_left [] x e = absurd (cc)
some_left (y ∷ ys) x e = let n : length (y ∷ ys) ≢ 0 = omega arith in grind (arith, nat_tests)

pub nothing_left : {X : Type 0} (xs : List X) → [] ≡ take 1 xs → false ≡ not (eqb (length xs) 0)
nothing_left [] e = refl
nothing_left (y ∷ ys) e = absurd (cc)
