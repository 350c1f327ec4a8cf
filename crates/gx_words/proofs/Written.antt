-- What a word is that may stand in a command.
use Rattle.std.proofs.Common.{◌≡◌, ◌∙◌, ℕ, ◌||◌, ◌&&◌, Bool, true, false, List, [], ◌∷◌, ◌++◌, map, length, take, drop, refl, sym, ap, inl, inr, ◌⊎◌, true≢false, codes}
use Rattle.std.proofs.lemmas.List.{take-append-drop}
use Rattle.std.proofs.lemmas.Slice.Eq.{bytes_eq-Decides}
use Rattle.std.specs.List.{flat_map, list_all}
use Rattle.std.specs.Option.{is_some}
use Rattle.std.specs.Str.{bytes_eq}
use Rattle.gx_words.specs.Words.{Flag, Name, Part, seed, turns, gen, flag, trace, threads, apart, joined, flag_text, is_numbered, name_text, number_of, words_of}
use Rattle.gx_words.specs.Command.{is_joined, is_known, is_option}

pub data Kind : Type 0 where
  bare : Flag → Kind
  name : Name → Kind
  whole : Name → List ℕ → Kind
  number : List ℕ → Kind

abbrev pub text_of : Kind → List ℕ
text_of (bare f) = codes "--" ++ flag_text f
text_of (name n) = codes "--" ++ name_text n
text_of (whole n t) = codes "--" ++ name_text n ++ codes "=" ++ t
text_of (number t) = t

abbrev pub is_fit : Kind → Bool
is_fit (bare f) = true
is_fit (name n) = true
is_fit (whole n t) = is_some (number_of t)
is_fit (number t) = is_some (number_of t)

or-true : (a b : Bool) → (a || b) ≡ true → (a ≡ true) ⊎ (b ≡ true)
or-true true b e = inl refl
or-true false b e = inr e

or-right : (a b : Bool) → b ≡ true → (a || b) ≡ true
or-right true b e = refl
or-right false b e = e

pub and-true : (a b : Bool) → (a && b) ≡ true → (a ≡ true) × (b ≡ true)
and-true true b e = (refl, e)
and-true false b e = absurd (true≢false (sym e))

and-both : (a b : Bool) → a ≡ true → b ≡ true → (a && b) ≡ true
and-both true b e f = f
and-both false b e f = absurd (true≢false (sym e))

pub record IsWord (w : List ℕ) : Type 0 where
  pub kind : Kind
  pub written : w ≡ text_of kind
  pub fits : is_fit kind ≡ true

behind-text : (text w : List ℕ) → bytes_eq (take (length text) w) text ≡ true → w ≡ text ++ drop (length text) w
behind-text text w e = sym (take-append-drop (length text) w)
    ∙ ap (λ (l : List ℕ). l ++ drop (length text) w) ((bytes_eq-Decides (take (length text) w) text).0 e)

option-word : (n : Name) (alone before w : List ℕ) → alone ≡ text_of (name n) → ((t : List ℕ) → before ++ t ≡ text_of (whole n t))
    → is_option alone before w ≡ true → IsWord w
option-word n alone before w is joins e = elim (or-true (bytes_eq w alone) (is_joined before w) e) [
  | inl same ↦ record { kind = name n; written = (bytes_eq-Decides w alone).0 same ∙ is; fits = refl }
  | inr more ↦ let both = and-true (bytes_eq (take (length before) w) before) (is_some (number_of (drop (length before) w))) more in
      record { kind = whole n (drop (length before) w); written = behind-text before w both.0 ∙ joins (drop (length before) w); fits = both.1 }
]

pub is-word : (w : List ℕ) → is_known w ≡ true → IsWord w
is-word w e = elim (or-true _ _ e) [
  | inl same ↦ record { kind = bare trace; written = (bytes_eq-Decides w (codes "--trace")).0 same; fits = refl }
  | inr e ↦ elim (or-true _ _ e) [
    | inl same ↦ record { kind = bare threads; written = (bytes_eq-Decides w (codes "--threads")).0 same; fits = refl }
    | inr e ↦ elim (or-true _ _ e) [
      | inl of ↦ option-word seed (codes "--seed") (codes "--seed=") w refl (λ t. refl) of
      | inr e ↦ elim (or-true _ _ e) [
        | inl of ↦ option-word turns (codes "--turns") (codes "--turns=") w refl (λ t. refl) of
        | inr e ↦ elim (or-true _ _ e) [
          | inl of ↦ option-word gen (codes "--gen") (codes "--gen=") w refl (λ t. refl) of
          | inr e ↦ record { kind = number w; written = refl; fits = e }
        ]
      ]
    ]
  ]
]

pub record AreWords (ws : List (List ℕ)) : Type 0 where
  pub kinds : List Kind
  pub written : ws ≡ map text_of kinds
  pub fit : list_all is_fit kinds ≡ true

words-more : (w : List ℕ) (ws : List (List ℕ)) → IsWord w → AreWords ws → AreWords (w ∷ ws)
words-more w ws first rest = record {
  kinds = first.kind ∷ rest.kinds;
  written = ap (λ (x : List ℕ). x ∷ ws) first.written ∙ ap (λ (l : List (List ℕ)). text_of first.kind ∷ l) rest.written;
  fit = and-both (is_fit first.kind) (list_all is_fit rest.kinds) first.fits rest.fit;
}

pub are-words : (ws : List (List ℕ)) → list_all is_known ws ≡ true → AreWords ws
are-words [] e = record { kinds = []; written = refl; fit = refl }
are-words (w ∷ ws) e =
    let both = and-true (is_known w) (list_all is_known ws) e in
    words-more w ws (is-word w both.0) (are-words ws both.1)

-- ---- the other way round

or-last : (a b d f g e : Bool) → e ≡ true → (a || (b || (d || (f || (g || e))))) ≡ true
or-last a b d f g e is =
    or-right a (b || (d || (f || (g || e)))) (or-right b (d || (f || (g || e))) (or-right d (f || (g || e)) (or-right f (g || e) (or-right g e is))))

known-number : (t : List ℕ) → is_some (number_of t) ≡ true → is_known t ≡ true
known-number t e =
    or-last (bytes_eq t (codes "--trace")) (bytes_eq t (codes "--threads")) (is_option (codes "--seed") (codes "--seed=") t) (is_option (codes "--turns") (codes "--turns=") t)
    (is_option (codes "--gen") (codes "--gen=") t)
    (is_some (number_of t)) e

known-flag : (f : Flag) → is_known (text_of (bare f)) ≡ true
known-flag trace = refl
known-flag threads = refl

known-name : (n : Name) → is_known (text_of (name n)) ≡ true
known-name seed = refl
known-name turns = refl
known-name gen = refl

known-whole : (n : Name) (t : List ℕ) → is_some (number_of t) ≡ true → is_known (text_of (whole n t)) ≡ true
known-whole seed t e = rw e refl
known-whole turns t e = rw e refl
known-whole gen t e = rw e refl

pub parts-known : (ps : List Part) → list_all is_numbered ps ≡ true → list_all is_known (flat_map words_of ps) ≡ true
parts-known [] e = refl
parts-known (flag f ∷ ps) e = and-both (is_known (text_of (bare f))) _ (known-flag f) (parts-known ps e)
parts-known (apart n t ∷ ps) e =
    let both = and-true (is_some (number_of t)) (list_all is_numbered ps) e in
    and-both (is_known (text_of (name n))) _ (known-name n) (and-both (is_known t) _ (known-number t both.0) (parts-known ps both.1))
parts-known (joined n t ∷ ps) e =
    let both = and-true (is_some (number_of t)) (list_all is_numbered ps) e in
    and-both (is_known (text_of (whole n t))) _ (known-whole n t both.0) (parts-known ps both.1)
