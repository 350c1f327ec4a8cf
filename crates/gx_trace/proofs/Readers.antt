-- Readers made of readers.
use Rattle.std.proofs.Common.{◌≡◌, ℕ, ◌+◌, ◌^◌, ◌<◌, nat_lt, Bool, true, false, if◌then◌else◌, List, ◌++◌, Some, None, refl, sym, ◌∙◌, ap, subst, arith, append_assoc}
use Rattle.std.specs.Prelude.{option_and_then}
use Rattle.std.specs.Fmt.{decimal}
use Rattle.std.proofs.lemmas.Option.{none-some, some_pair_parts, option_and_then_some}
use Rattle.gx_trace.specs.Readers.{Front, number, word, both, with_first, made, behind, kept_below, number_below, EndsNumber, IsReaderOf}
use Rattle.gx_trace.proofs.Words.{if-true, word-again, word-sound}
use Rattle.gx_trace.proofs.Digits.{number-again, number-sound}

lt-of : (a b : ℕ) → nat_lt a b ≡ true → a < b
lt-of a b e = grind arith

of-lt : (a b : ℕ) → a < b → nat_lt a b ≡ true
of-lt a b e = grind arith

kept-by : (limit n m : ℕ) (rest left : List ℕ) (c : Bool) → nat_lt n limit ≡ c → ◌≡◌ {A = Front ℕ} (if c then Some (n, left) else None) (Some (m, rest)) → (n < limit) × (n ≡ m) × (left ≡ rest)
kept-by limit n m rest left true c e = let (a, b) = some_pair_parts n m left rest e in (lt-of n limit c, a, b)
kept-by limit n m rest left false c e = absurd (none-some _ e)

pub numbers-below : (limit : ℕ) → limit < 2 ^ 64 + 1 → IsReaderOf decimal (λ n. n < limit) EndsNumber (number_below limit)
numbers-below limit small = record {
  again = λ n rest is ends. ap (option_and_then (kept_below limit)) (number-again (2 ^ 64) (omega arith) (omega arith) n rest (omega arith) ends) ∙ if-true (nat_lt n limit) (Some (n, rest)) None (of-lt n limit is);
  sound = λ bytes rest n e. option_and_then_some (kept_below limit) (number bytes) (n, rest) e (λ x is kept.
      let (a, b, c) = kept-by limit x.0 n rest x.1 (nat_lt x.0 limit) refl kept in
      let (fits, stands) = number-sound (2 ^ 64) (omega arith) (omega arith) bytes x.1 x.0 is in
      (omega (arith, a, b), stands ∙ (λ i. decimal (b i) ++ c i)));
}

pub behind-word : {A : Type 0} {text : A → List ℕ} {Is : A → Type 0} {Ends : List ℕ → Type 0} {read : List ℕ → Front A} (w : List ℕ)
    → IsReaderOf text Is Ends read → IsReaderOf (λ a. w ++ text a) Is Ends (behind w read)
behind-word {text = text} {read = read} w r = record {
  again = λ a rest is ends. ap (λ x. behind w read x) (append_assoc w (text a) rest) ∙ ap (option_and_then (λ x. read x.1)) (word-again w (text a ++ rest)) ∙ r.again a rest is ends;
  sound = λ bytes rest a e. option_and_then_some (λ x. read x.1) (word w bytes) (a, rest) e (λ x stands is.
      let (lawful, text_is) = r.sound x.1 rest a is in
      (lawful, word-sound w bytes x.1 stands ∙ ap (λ y. w ++ y) text_is ∙ sym (append_assoc w (text a) rest)));
}

pub one-behind-other : {A B : Type 0} {ta : A → List ℕ} {IsA : A → Type 0} {EndsA : List ℕ → Type 0} {ra : List ℕ → Front A}
    {tb : B → List ℕ} {IsB : B → Type 0} {EndsB : List ℕ → Type 0} {rb : List ℕ → Front B}
    → IsReaderOf ta IsA EndsA ra → IsReaderOf tb IsB EndsB rb → ((b : B) (rest : List ℕ) → IsB b → EndsB rest → EndsA (tb b ++ rest))
    → IsReaderOf (λ x. ta x.0 ++ tb x.1) (λ x. IsA x.0 × IsB x.1) EndsB (both ra rb)
one-behind-other {ta = ta} {IsA = IsA} {ra = ra} {tb = tb} {IsB = IsB} {rb = rb} a b joins = record {
  again = λ x rest is ends.
      ap (both ra rb) (append_assoc (ta x.0) (tb x.1) rest)
      ∙ ap (option_and_then (λ y. option_and_then (λ z. with_first y.0 z) (rb y.1))) (a.again x.0 (tb x.1 ++ rest) is.0 (joins x.1 rest is.1 ends))
      ∙ ap (option_and_then (λ z. with_first x.0 z)) (b.again x.1 rest is.1 ends);
  sound = λ bytes rest x e. option_and_then_some (λ y. option_and_then (λ z. with_first y.0 z) (rb y.1)) (ra bytes) (x, rest) e (λ y first others.
      option_and_then_some (λ z. with_first y.0 z) (rb y.1) (x, rest) others (λ z second e2.
      let (p, q) = some_pair_parts (y.0, z.0) x z.1 rest e2 in
      let (is_a, text_a) = a.sound bytes y.1 y.0 first in
      let (is_b, text_b) = b.sound y.1 z.1 z.0 second in
      ((subst (λ v. IsA v.0 × IsB v.1) p (is_a, is_b)), text_a ∙ ap (λ v. ta y.0 ++ v) text_b ∙ (λ i. ta (p i).0 ++ (tb (p i).1 ++ q i)) ∙ sym (append_assoc (ta x.0) (tb x.1) rest))));
}

-- what is read as one thing and made into another
pub made-into : {A B : Type 0} {ta : A → List ℕ} {IsA : A → Type 0} {Ends : List ℕ → Type 0} {ra : List ℕ → Front A}
    (tb : B → List ℕ) (IsB : B → Type 0) (f : A → B)
    → IsReaderOf ta IsA Ends ra → ((b : B) → IsB b → (a : A) × (f a ≡ b) × IsA a) → ((a : A) → IsA a → IsB (f a) × (tb (f a) ≡ ta a))
    → IsReaderOf tb IsB Ends (λ bytes. made f (ra bytes))
made-into {A = A} {B = B} {ta = ta} {IsA = IsA} {ra = ra} tb IsB f a parts whole = record {
  again = λ b rest is ends.
      let (x, same, lawful) = parts b is in
      let text : tb b ≡ ta x = ap tb (sym same) ∙ (whole x lawful).1 in
      ap (λ y. made f (ra (y ++ rest))) text ∙ ap (made f) (a.again x rest lawful ends) ∙ ap (λ y. Some (y, rest)) same;
  sound = λ bytes rest b e. made-by bytes rest b (ra bytes) refl e;
}
  where
    made-by : (bytes rest : List ℕ) (b : B) (o : Front A) → ra bytes ≡ o → made f o ≡ Some (b, rest) → IsB b × (bytes ≡ tb b ++ rest)
    made-by bytes rest b None is e = absurd (none-some _ e)
    made-by bytes rest b (Some x) is e =
        let (p, q) = some_pair_parts (f x.0) b x.1 rest e in
        let (lawful, text) = a.sound bytes x.1 x.0 is in
        let (good, same) = whole x.0 lawful in
        (subst IsB p good, text ∙ ap (λ y. y ++ x.1) (sym same) ∙ (λ i. tb (p i) ++ q i))
