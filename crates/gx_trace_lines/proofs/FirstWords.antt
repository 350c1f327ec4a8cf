-- Readers that go by the word that stands first.
use Rattle.std.proofs.Common.{◌≡◌, ℕ, Bool, true, false, List, [], ◌∷◌, ◌++◌, Option, Some, None, refl, sym, ◌∙◌, ap, subst, arith, append_assoc}
use Rattle.std.proofs.lemmas.Option.{none-some, some_pair_parts}
use Rattle.gx_trace.specs.Readers.{Front, made, word, IsEnd, IsReaderOf}
use Rattle.gx_trace.proofs.Words.{word-sound}
use Rattle.gx_trace_lines.specs.Choices.{IsSkipped, just, nothing, on, on_by}

-- what is read is lawful, and stands there behind the front
abbrev pub IsSoundBehind : {A : Type 0} → List ℕ → (A → List ℕ) → (A → Type 0) → (List ℕ → Front A) → Type 0
IsSoundBehind {A = A} front text Is read = (bytes rest : List ℕ) (a : A) → read bytes ≡ Some (a, rest) → Is a × (front ++ bytes ≡ text a ++ rest)

pub nothing-sound : {A : Type 0} (text : A → List ℕ) (Is : A → Type 0) → IsSoundBehind [] text Is nothing
nothing-sound text Is bytes rest a e = absurd (none-some _ e)

pub as-sound : {A : Type 0} (text : A → List ℕ) (Is : A → Type 0) (x : A) → Is x → IsSoundBehind (text x) text Is (just x)
as-sound text Is x is bytes rest a e = let (p, q) = some_pair_parts x a bytes rest e in (subst Is p is, (λ i. text (p i) ++ q i))

pub on-sound : {A : Type 0} (text : A → List ℕ) (Is : A → Type 0) (w : List ℕ) {read other : List ℕ → Front A}
    → IsSoundBehind w text Is read → IsSoundBehind [] text Is other → IsSoundBehind [] text Is (on w read other)
on-sound {A = A} text Is w {read = read} {other = other} first second bytes rest a e = by (word w bytes) refl e
  where
    by : (o : Front (Unit {0})) → word w bytes ≡ o → on_by read (other bytes) o ≡ Some (a, rest) → Is a × (bytes ≡ text a ++ rest)
    by None stands e = second bytes rest a e
    by (Some x) stands e = let (is, t) = first x.1 rest a e in (is, word-sound w bytes x.1 stands ∙ t)

-- what is read as one thing, made into another behind a word
pub made-sound : {A B : Type 0} {ta : A → List ℕ} {IsA : A → Type 0} {Ends : List ℕ → Type 0} {ra : List ℕ → Front A} (w : List ℕ) (tb : B → List ℕ) (IsB : B → Type 0) (f : A → B)
    → IsReaderOf ta IsA Ends ra → ((a : A) → IsA a → IsB (f a) × (tb (f a) ≡ w ++ ta a)) → IsSoundBehind w tb IsB (λ bytes. made f (ra bytes))
made-sound {A = A} {ta = ta} {IsA = IsA} {ra = ra} w tb IsB f r whole bytes rest b e = by (ra bytes) refl e
  where
    by : (o : Front A) → ra bytes ≡ o → made f o ≡ Some (b, rest) → IsB b × (w ++ bytes ≡ tb b ++ rest)
    by None is e = absurd (none-some _ e)
    by (Some x) is e =
        let (p, q) = some_pair_parts (f x.0) b x.1 rest e in
        let (lawful, text) = r.sound bytes x.1 x.0 is in
        let (good, same) = whole x.0 lawful in
        (subst IsB p good, ap (λ y. w ++ y) text ∙ sym (append_assoc w (ta x.0) x.1) ∙ ap (λ y. y ++ x.1) (sym same) ∙ (λ i. tb (p i) ++ q i))

-- the same, read back; the reader of all is at the word's place what is made
pub made-again : {A B : Type 0} {ta : A → List ℕ} {IsA : A → Type 0} {Ends : List ℕ → Type 0} {ra : List ℕ → Front A} (tb : B → List ℕ) (read : List ℕ → Front B) (w : List ℕ) (f : A → B)
    → IsReaderOf ta IsA Ends ra → ((bytes : List ℕ) → read (w ++ bytes) ≡ made f (ra bytes))
    → (a : A) (rest : List ℕ) → IsA a → Ends rest → tb (f a) ≡ w ++ ta a → read (tb (f a) ++ rest) ≡ Some (f a, rest)
made-again {ta = ta} tb read w f r here a rest is ends same =
    ap (λ y. read (y ++ rest)) same ∙ ap read (append_assoc w (ta a) rest) ∙ here (ta a ++ rest) ∙ ap (made f) (r.again a rest is ends)

-- A word that wasn't skipped doesn't stand there, and nothing was skipped.
pub fails : (b : Bool) (left w bytes : List ℕ) → b ≡ false → IsSkipped b left w bytes → (word w bytes ≡ None) × (left ≡ bytes)
fails true left w bytes e is = absurd (grind (arith, e))
fails false left w bytes e is = is

pub on-other : {A : Type 0} (w : List ℕ) (read other : List ℕ → Front A) (bytes left : List ℕ) → (word w bytes ≡ None) × (left ≡ bytes) → on w read other bytes ≡ other left
on-other w read other bytes left h = ap (on_by read (other bytes)) h.0 ∙ ap other (sym h.1)
