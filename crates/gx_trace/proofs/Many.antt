-- Readers of what stands one behind the other, to the end.
use Rattle.std.proofs.Common.{◌≡◌, ℕ, zero, suc, ◌+◌, ◌-◌, ◌<◌, ◌≤◌, ◌==◌, true, false, List, [], ◌∷◌, ◌++◌, length, Option, Some, None, refl, sym, ◌∙◌, ap, subst, arith, append_assoc, append-nil}
use Rattle.std.specs.Prelude.{option_and_then, All}
use Rattle.std.specs.Option.{option_map}
use Rattle.std.specs.List.{flat_map}
use Rattle.std.proofs.lemmas.List.{length-append}
use Rattle.std.proofs.lemmas.List.Elements.{All-nil, All-cons, All-head, All-tail}
use Rattle.std.proofs.lemmas.Option.{none-some, same_Some, some_pair_parts, option_and_then_some}
use Rattle.gx_trace.specs.Readers.{Front, made, many, to_end, IsEnd, IsReaderOf}

module _ {A : Type 0} (read : List ℕ → Front A) where
  -- what is read goes behind what was read
  abbrev pub onto : List A → Option (List A) → Option (List A)
  onto done o = option_map (λ xs. done ++ xs) o

  pub onto-none : (o : Option (List A)) → onto [] o ≡ o
  onto-none None = refl
  onto-none (Some xs) = refl

  onto-more : (done : List A) (x : A) (o : Option (List A)) → onto done (option_map (λ xs. x ∷ xs) o) ≡ onto (done ++ x ∷ []) o
  onto-more done x None = refl
  onto-more done x (Some xs) = ap Some (sym (append_assoc done (x ∷ []) xs))

  step : (n : ℕ) (done : List A) (left behind : List ℕ) (x : A) → (length left == 0) ≡ false → read left ≡ Some (x, behind) → onto done (many (suc n) read left) ≡ onto (done ++ x ∷ []) (many n read behind)
  step n done [] behind x some e = absurd (grind (arith, some))
  step n done (b ∷ bs) behind x some e =
      ap (λ o. onto done (option_and_then (λ y. option_map (λ xs. y.0 ∷ xs) (many n read y.1)) o)) e ∙ onto-more done x (many n read behind)

  fails : (n : ℕ) (left : List ℕ) → (length left == 0) ≡ false → read left ≡ None → many (suc n) read left ≡ None
  fails n [] some e = absurd (grind (arith, some))
  fails n (b ∷ bs) some e = ap (option_and_then (λ y. option_map (λ xs. y.0 ∷ xs) (many n read y.1))) e

  -- one step of a loop that counts up to the most
  pub many-more : (most at : ℕ) (done : List A) (left behind : List ℕ) (x : A) → at < most → (length left == 0) ≡ false → read left ≡ Some (x, behind)
      → onto done (many (most - at) read left) ≡ onto (done ++ x ∷ []) (many (most - (at + 1)) read behind)
  many-more most at done left behind x below some e =
      let n : most - at ≡ suc (most - (at + 1)) = omega arith in
      ap (λ k. onto done (many k read left)) n ∙ step (most - (at + 1)) done left behind x some e

  pub many-fails : (most at : ℕ) (done : List A) (left : List ℕ) → at < most → (length left == 0) ≡ false → read left ≡ None → onto done (many (most - at) read left) ≡ None
  many-fails most at done left below some e =
      let n : most - at ≡ suc (most - (at + 1)) = omega arith in
      ap (onto done) (ap (λ k. many k read left) n ∙ fails (most - (at + 1)) left some e)

  pub many-done : (n : ℕ) (done : List A) (left : List ℕ) → (length left == 0) ≡ true → onto done (many n read left) ≡ Some done
  many-done n done [] none = ap Some (append-nil done)
  many-done n done (b ∷ bs) none = absurd (grind (arith, none))

  pub many-left : (n : ℕ) (done : List A) (left : List ℕ) → n ≡ 0 → (length left == 0) ≡ false → onto done (many n read left) ≡ None
  many-left n done [] none some = absurd (grind (arith, some))
  many-left n done (b ∷ bs) none some = ap (λ k. onto done (many k read (b ∷ bs))) none

-- A loop that goes on behind what it was given, as its returns have it.
module _ {A : Type 0} (read : List ℕ → Front A) (start : List A) (bytes counted : List ℕ) (same : counted ≡ bytes) where
  made-done : (done : List A) (o : Option (List A)) → onto read start o ≡ Some done → made (λ (others : List A). start ++ others) (option_map (λ (xs : List A). let x : List A × List ℕ = (xs, []) in x) o) ≡ Some (done, [])
  made-done done None e = absurd (none-some done e)
  made-done done (Some xs) e = ap (λ z. Some (z, [])) (same_Some (start ++ xs) done e)

  made-none : (o : Option (List A)) → onto read start o ≡ None → made (λ (others : List A). start ++ others) (option_map (λ (xs : List A). let x : List A × List ℕ = (xs, []) in x) o) ≡ None
  made-none None e = refl
  made-none (Some xs) e = absurd (none-some (start ++ xs) (sym e))

  nothing-left : (left : List ℕ) → (length left == 0) ≡ true → [] ≡ left
  nothing-left [] none = refl
  nothing-left (b ∷ bs) none = absurd (grind (arith, none))

  from-here : {o : Option (List A)} → o ≡ onto read start (many (length counted) read bytes) → onto read start (many (length bytes) read bytes) ≡ o
  from-here e = ap (λ b. onto read start (many (length b) read bytes)) (sym same) ∙ sym e

  pub all-read : (n : ℕ) (done : List A) (left : List ℕ) → onto read done (many n read left) ≡ onto read start (many (length counted) read bytes) → (length left == 0) ≡ true
      → made (λ (others : List A). start ++ others) (to_end read bytes) ≡ Some (done, left)
  all-read n done left kept none = made-done done (many (length bytes) read bytes) (from-here kept ∙ many-done read n done left none) ∙ ap (λ z. Some (done, z)) (nothing-left left none)

  pub none-read : (at : ℕ) (done : List A) (left : List ℕ) → onto read done (many (length counted - at) read left) ≡ onto read start (many (length counted) read bytes) → at < length counted → (length left == 0) ≡ false
      → read left ≡ None → made (λ (others : List A). start ++ others) (to_end read bytes) ≡ None
  none-read at done left kept below some fails = made-none (many (length bytes) read bytes) (from-here kept ∙ many-fails read (length counted) at done left below some fails)

  pub rest-left : (n : ℕ) (done : List A) (left : List ℕ) → onto read done (many n read left) ≡ onto read start (many (length counted) read bytes) → n ≡ 0 → (length left == 0) ≡ false
      → made (λ (others : List A). start ++ others) (to_end read bytes) ≡ None
  rest-left n done left kept none some = made-none (many (length bytes) read bytes) (from-here kept ∙ many-left read n done left none some)

-- each has a first byte, and what comes next ends it
pub record AreApart {A : Type 0} (text : A → List ℕ) (Is : A → Type 0) (Ends : List ℕ → Type 0) : Type 0 where
  pub begins : (a : A) → Is a → 0 < length (text a)
  pub follows : (a : A) (rest : List ℕ) → Is a → Ends (text a ++ rest)
  pub last : Ends []

module _ {A : Type 0} {text : A → List ℕ} {Is : A → Type 0} {Ends : List ℕ → Type 0} {read : List ℕ → Front A} (r : IsReaderOf text Is Ends read) (apart : AreApart text Is Ends) where
  behind-one : (xs : List A) → All Is xs → Ends (flat_map text xs)
  behind-one [] all = apart.last
  behind-one (x ∷ xs) all = apart.follows x (flat_map text xs) (All-head Is x xs all)

  feed : (n : ℕ) (x : A) (xs : List A) (bytes : List ℕ) → bytes ≡ text x ++ flat_map text xs → 0 < length bytes → read bytes ≡ Some (x, flat_map text xs) → many n read (flat_map text xs) ≡ Some xs → many (suc n) read bytes ≡ Some (x ∷ xs)
  feed n x xs [] is some e rest = absurd (omega (arith, some))
  feed n x xs (b ∷ bs) is some e rest = ap (option_and_then (λ y. option_map (λ ys. y.0 ∷ ys) (many n read y.1))) e ∙ ap (option_map (λ ys. x ∷ ys)) rest

  again : (xs : List A) (n : ℕ) → All Is xs → length (flat_map text xs) ≤ n → many n read (flat_map text xs) ≡ Some xs
  again [] n all few = refl
  again (x ∷ xs) zero all few = absurd (omega (arith, few, length-append (text x) (flat_map text xs), apart.begins x (All-head Is x xs all)))
  again (x ∷ xs) (suc n) all few =
      let is = All-head Is x xs all in
      let more = length-append (text x) (flat_map text xs) in
      let some = apart.begins x is in
      feed n x xs (text x ++ flat_map text xs) refl (omega (arith, more, some)) (r.again x (flat_map text xs) is (behind-one xs (All-tail Is x xs all))) (again xs n (All-tail Is x xs all) (omega (arith, more, some, few)))

  abbrev AreStanding : List A → List ℕ → Type 0
  AreStanding xs bytes = All Is xs × (bytes ≡ flat_map text xs)

  one-more : (y : A) (left bytes : List ℕ) (o : Option (List A)) (xs : List A) → read bytes ≡ Some (y, left) → ((ys : List A) → o ≡ Some ys → AreStanding ys left) → option_map (λ ys. y ∷ ys) o ≡ Some xs → AreStanding xs bytes
  one-more y left bytes None xs is ih e = absurd (none-some xs e)
  one-more y left bytes (Some ys) xs is ih e =
      let (lawful, stands) = r.sound bytes left y is in
      let (all, others) = ih ys refl in
      subst (λ zs. AreStanding zs bytes) (same_Some (y ∷ ys) xs e) (All-cons Is y ys lawful all, stands ∙ ap (λ z. text y ++ z) others)

  sound : (n : ℕ) (bytes : List ℕ) (xs : List A) → many n read bytes ≡ Some xs → AreStanding xs bytes
  sound n [] xs e = subst (λ ys. AreStanding ys []) (same_Some [] xs e) (All-nil Is, refl)
  sound zero (b ∷ bs) xs e = absurd (none-some xs e)
  sound (suc n) (b ∷ bs) xs e =
      option_and_then_some (λ y. option_map (λ ys. y.0 ∷ ys) (many n read y.1)) (read (b ∷ bs)) xs e (λ y is more.
      one-more y.0 y.1 (b ∷ bs) (many n read y.1) xs is (λ ys f. sound n y.1 ys f) more)

  ended : (bytes rest : List ℕ) (xs : List A) (o : Option (List A)) → many (length bytes) read bytes ≡ o → ◌≡◌ {A = Front (List A)} (option_map (λ ys. (ys, [])) o) (Some (xs, rest)) → All Is xs × (bytes ≡ flat_map text xs ++ rest)
  ended bytes rest xs None is e = absurd (none-some _ e)
  ended bytes rest xs (Some ys) is e =
      let (p, q) = some_pair_parts ys xs [] rest e in
      let (all, stands) = subst (λ zs. AreStanding zs bytes) p (sound (length bytes) bytes ys is) in
      (all, stands ∙ sym (append-nil (flat_map text xs)) ∙ ap (λ z. flat_map text xs ++ z) q)

  pub ends-read : IsReaderOf (flat_map text) (All Is) IsEnd (to_end read)
  ends-read = record {
    again = λ xs rest all end.
        let stands : flat_map text xs ++ rest ≡ flat_map text xs = ap (λ z. flat_map text xs ++ z) end ∙ append-nil (flat_map text xs) in
        ap (to_end read) stands ∙ ap (option_map (λ ys. (ys, []))) (again xs (length (flat_map text xs)) all (omega arith)) ∙ ap (λ z. Some (xs, z)) (sym end);
    sound = λ bytes rest xs e. ended bytes rest xs (many (length bytes) read bytes) refl e;
  }
