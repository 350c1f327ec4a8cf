-- Words in which a parse finds no fault are those of options, each at most once; and of such words a parse finds the options.
use Rattle.std.proofs.Common.{◌≡◌, ◌∙◌, ℕ, ◌&&◌, Bool, true, false, not, List, [], ◌∷◌, ◌++◌, map, refl, sym, ap, append_assoc, append-nil, true≢false}
use Rattle.std.specs.List.{flat_map, list_all, list_any}
use Rattle.std.specs.Option.{is_some}
use Rattle.clap.specs.Kinds.{Kinds, or_else}
use Rattle.clap.specs.Walk.{Held, Row, idle, nothing_held}
use Rattle.clap.specs.Simple.{matches_of}
use Rattle.clap.specs.Faults.{fault_of, use_fault}
use Rattle.clap.specs.declared.error.kind.ErrorKind.{ErrorKind}
use Rattle.clap.proofs.FaultLemmas.{leaf_fault}
use Rattle.gx_words.specs.Words.{Name, Part, flag, apart, joined, are_once, has_label, is_numbered, label, name_text, number_of, words_of}
use Rattle.gx_words.specs.Command.{command, is_known}
use Rattle.gx_words.proofs.Written.{AreWords, Kind, and-true, are-words, bare, is_fit, name, number, text_of, whole}
use Rattle.gx_words.proofs.Numbers.{number-first}
use Rattle.gx_words.specs.Found.{flag_rule, found_of_parts, row, rule, with_flags}
use Rattle.gx_words.proofs.Rows.{is-new}
use Rattle.gx_words.proofs.Standing.{IsBehind, behind, behind-next, use-fine}
use Rattle.gx_words.proofs.Turns.{behind_apart, IsPlain, due, due-apart, due-opened, fault, fault-end, fault-flag, fault-flag_awaited, fault-joined, fault-joined_awaited, fault-number, fault-open, fault-option, fault-option_awaited, fault-stray, found, found-apart, found-end, found-flag, found-joined, opened, plain-word, rows}

or_else-left : (a b : Kinds) → or_else a b ≡ [] → a ≡ []
or_else-left [] b e = refl
or_else-left (k ∷ ks) b e = absurd (cc)

or_else-right : (a b : Kinds) → or_else a b ≡ [] → b ≡ []
or_else-right [] b e = e
or_else-right (k ∷ ks) b e = absurd (cc)

or_else-none : (a b : Kinds) → a ≡ [] → b ≡ [] → or_else a b ≡ []
or_else-none [] b e f = f
or_else-none (k ∷ ks) b e f = absurd (cc)

not-false : (b : Bool) → not b ≡ true → b ≡ false
not-false false e = refl
not-false true e = absurd (true≢false (sym e))

pub record IsSplit (before : List Part) (ks : List Kind) : Type 0 where
  pub parts : List Part
  pub written : map text_of ks ≡ flat_map words_of parts
  pub once : are_once before parts ≡ true
  pub numbered : list_all is_numbered parts ≡ true

-- what stands before words without a fault is fine
number-plain : (t : List ℕ) → is_some (number_of t) ≡ true → IsPlain t
number-plain [] e = absurd (true≢false (sym e))
number-plain (d ∷ ds) e = plain-word d ds (number-first d ds e)

some-kind : (k : ErrorKind) → k ∷ [] ≡ [] → ⊥
some-kind k bad = absurd (cc)

due-first : (ks : List Kind) (h : Held) → list_all is_fit ks ≡ true → fault idle h (map text_of ks) ≡ [] → due h ≡ []
due-first [] h fit e = sym (fault-end h) ∙ e
due-first (bare f ∷ ks) h fit e = or_else-left (due h) _ (sym (fault-flag f h (map text_of ks)) ∙ e)
due-first (name n ∷ ks) h fit e = or_else-left (due h) _ (sym (fault-option n h (map text_of ks)) ∙ e)
due-first (whole n t ∷ ks) h fit e = or_else-left (due h) _ (sym (fault-joined n t h (map text_of ks)) ∙ e)
due-first (number t ∷ ks) h fit e =
    absurd (some-kind _ (sym (fault-stray t h (map text_of ks) (number-plain t (and-true (is_some (number_of t)) (list_all is_fit ks) fit).0)) ∙ e))

-- an option more in front
one-more : (p : Part) (before : List Part) (h : Held) (ks new : List Kind) → list_any (has_label (label p)) before ≡ false → is_numbered p ≡ true
    → map text_of new ≡ words_of p ++ map text_of ks → IsSplit (before ++ p ∷ []) ks → IsSplit before new
one-more p before h ks new none has is rest = record {
  parts = p ∷ rest.parts;
  written = is ∙ ap (λ (l : List (List ℕ)). words_of p ++ l) rest.written;
  once = ap (λ (b : Bool). not b && are_once (before ++ p ∷ []) rest.parts) none ∙ rest.once;
  numbered = ap (λ (b : Bool). b && list_all is_numbered rest.parts) has ∙ rest.numbered;
}

-- what an option that awaits its number has pending
awaits : (n : Name) (h : Held) (b : Kinds) → or_else (due (opened n h)) b ≡ [] → ⊥
awaits n h b none = some-kind _ (sym (due-opened n h) ∙ or_else-left (due (opened n h)) b none)

split : (ks : List Kind) (before : List Part) (h : Held) → IsBehind before h → list_all is_fit ks ≡ true → fault idle h (map text_of ks) ≡ []
    → IsSplit before ks
split [] before h is fit e = record { parts = []; written = refl; once = refl; numbered = refl }
split (bare f ∷ ks) before h is fit e =
    let used = or_else-right (due h) _ (sym (fault-flag f h (map text_of ks)) ∙ e) in
    let none = is-new (flag f) (rows h) before is.given (or_else-left (use_fault false (flag_rule f) [] (rows h)) _ used) in
    one-more (flag f) before h ks (bare f ∷ ks) none refl refl
    (split ks (before ++ flag f ∷ []) (behind (flag f) h) (behind-next (flag f) before h is none) fit
    (or_else-right (use_fault false (flag_rule f) [] (rows h)) _ used))
split (whole n t ∷ ks) before h is fit e =
    let fits = and-true (is_some (number_of t)) (list_all is_fit ks) fit in
    let used = or_else-right (due h) _ (sym (fault-joined n t h (map text_of ks)) ∙ e) in
    let none = is-new (joined n t) (rows h) before is.given (or_else-left (use_fault false (rule n) (t ∷ []) (rows h)) _ used) in
    one-more (joined n t) before h ks (whole n t ∷ ks) none fits.0 refl
    (split ks (before ++ joined n t ∷ []) (behind (joined n t) h) (behind-next (joined n t) before h is none) fits.1
    (or_else-right (use_fault false (rule n) (t ∷ []) (rows h)) _ used))
split (number t ∷ ks) before h is fit e =
    absurd (some-kind _ (sym (fault-stray t h (map text_of ks) (number-plain t (and-true (is_some (number_of t)) (list_all is_fit ks) fit).0)) ∙ e))
split (name n ∷ []) before h is fit e = absurd (some-kind _ (sym (fault-open n h) ∙ or_else-right (due h) _ (sym (fault-option n h []) ∙ e)))
split (name n ∷ bare f ∷ ks) before h is fit e =
    absurd (awaits n h _
    (sym (fault-flag_awaited f (name_text n) (opened n h) (map text_of ks))
    ∙ or_else-right (due h) _ (sym (fault-option n h (text_of (bare f) ∷ map text_of ks)) ∙ e)))
split (name n ∷ name m ∷ ks) before h is fit e =
    absurd (awaits n h _
    (sym (fault-option_awaited m (name_text n) (opened n h) (map text_of ks))
    ∙ or_else-right (due h) _ (sym (fault-option n h (text_of (name m) ∷ map text_of ks)) ∙ e)))
split (name n ∷ whole m t ∷ ks) before h is fit e =
    absurd (awaits n h _
    (sym (fault-joined_awaited m t (name_text n) (opened n h) (map text_of ks))
    ∙ or_else-right (due h) _ (sym (fault-option n h (text_of (whole m t) ∷ map text_of ks)) ∙ e)))
split (name n ∷ number t ∷ ks) before h is fit e =
    let fits = and-true (is_some (number_of t)) (list_all is_fit ks) fit in
    let awaited = or_else-right (due h) _ (sym (fault-option n h (t ∷ map text_of ks)) ∙ e) in
    let fine = sym (fault-number n t h (map text_of ks) (number-plain t fits.0)) ∙ awaited in
    let used = sym (due-apart n t h) ∙ due-first ks (behind_apart n t h) fits.1 fine in
    let none = is-new (apart n t) (rows h) before is.given used in
    one-more (apart n t) before h ks (name n ∷ number t ∷ ks) none fits.0 refl
    (split ks (before ++ apart n t ∷ []) (behind (apart n t) h) (behind-next (apart n t) before h is none) fits.1 fine)

-- ---- and back

-- no fault in the words of options, and their rows are found
pub record IsFound (before ps : List Part) (h : Held) : Type 0 where
  pub fine : fault idle h (flat_map words_of ps) ≡ []
  pub rows : found idle h (flat_map words_of ps) ≡ with_flags (map row (before ++ ps))

seamed : (p : Part) (before ps : List Part)
    → with_flags (map row ((before ++ p ∷ []) ++ ps)) ≡ with_flags (map row (before ++ p ∷ ps))
seamed p before ps = ap (λ (l : List Part). with_flags (map row l)) (append_assoc before (p ∷ []) ps)

take-in : (ps before : List Part) (h : Held) → IsBehind before h → are_once before ps ≡ true → list_all is_numbered ps ≡ true → IsFound before ps h
take-in [] before h is once numbers = record {
  fine = fault-end h ∙ is.fine;
  rows = found-end h ∙ ap (λ (rs : List Row). with_flags rs) (is.given ∙ ap (map row) (sym (append-nil before)));
}
take-in (flag f ∷ ps) before h is once numbers =
    let onces = and-true (not (list_any (has_label (label (flag f))) before)) (are_once (before ++ flag f ∷ []) ps) once in
    let none = not-false (list_any (has_label (label (flag f))) before) onces.0 in
    let rest : IsFound (before ++ flag f ∷ []) ps (behind (flag f) h) =
    take-in ps (before ++ flag f ∷ []) (behind (flag f) h) (behind-next (flag f) before h is none) onces.1 numbers in
    record {
      fine = fault-flag f h (flat_map words_of ps) ∙ or_else-none _ _ is.fine (or_else-none _ _ (use-fine (flag f) before h is none) rest.fine);
      rows = found-flag f h (flat_map words_of ps) ∙ rest.rows ∙ seamed (flag f) before ps;
    }
take-in (joined n t ∷ ps) before h is once numbers =
    let has = and-true (is_some (number_of t)) (list_all is_numbered ps) numbers in
    let onces = and-true (not (list_any (has_label (name_text n)) before)) (are_once (before ++ joined n t ∷ []) ps) once in
    let none = not-false (list_any (has_label (name_text n)) before) onces.0 in
    let rest : IsFound (before ++ joined n t ∷ []) ps (behind (joined n t) h) =
    take-in ps (before ++ joined n t ∷ []) (behind (joined n t) h) (behind-next (joined n t) before h is none) onces.1 has.1 in
    record {
      fine = fault-joined n t h (flat_map words_of ps)
          ∙ or_else-none _ _ is.fine (or_else-none _ _ (use-fine (joined n t) before h is none) rest.fine);
      rows = found-joined n t h (flat_map words_of ps) ∙ rest.rows ∙ seamed (joined n t) before ps;
    }
take-in (apart n t ∷ ps) before h is once numbers =
    let has = and-true (is_some (number_of t)) (list_all is_numbered ps) numbers in
    let onces = and-true (not (list_any (has_label (name_text n)) before)) (are_once (before ++ apart n t ∷ []) ps) once in
    let none = not-false (list_any (has_label (name_text n)) before) onces.0 in
    let plain = number-plain t has.0 in
    let rest : IsFound (before ++ apart n t ∷ []) ps (behind (apart n t) h) =
    take-in ps (before ++ apart n t ∷ []) (behind (apart n t) h) (behind-next (apart n t) before h is none) onces.1 has.1 in
    record {
      fine = fault-option n h (t ∷ flat_map words_of ps) ∙ or_else-none _ _ is.fine (fault-number n t h (flat_map words_of ps) plain ∙ rest.fine);
      rows = found-apart n t h (flat_map words_of ps) plain ∙ rest.rows ∙ seamed (apart n t) before ps;
    }

-- ---- the command

starting : IsBehind [] nothing_held
starting = record { fine = refl; given = refl }

fault-is : (ws : List (List ℕ)) → fault_of command ws ≡ fault idle nothing_held ws
fault-is ws = leaf_fault _ nothing_held ws refl

pub record AreParts (ws : List (List ℕ)) : Type 0 where
  pub parts : List Part
  pub written : ws ≡ flat_map words_of parts
  pub once : are_once [] parts ≡ true
  pub numbered : list_all is_numbered parts ≡ true

pub are-parts : (ws : List (List ℕ)) → list_all is_known ws ≡ true → fault_of command ws ≡ [] → AreParts ws
are-parts ws known none = record { parts = cut.parts; written = words.written ∙ cut.written; once = cut.once; numbered = cut.numbered }
  where
    words : AreWords ws
    words = are-words ws known

    cut : IsSplit [] words.kinds
    cut = split words.kinds [] nothing_held starting words.fit (ap (fault idle nothing_held) (sym words.written) ∙ sym (fault-is ws) ∙ none)

pub parts-fine : (ps : List Part) → are_once [] ps ≡ true → list_all is_numbered ps ≡ true → fault_of command (flat_map words_of ps) ≡ []
parts-fine ps once numbers = fault-is (flat_map words_of ps) ∙ (take-in ps [] nothing_held starting once numbers).fine

pub parts-found : (ps : List Part) → are_once [] ps ≡ true → list_all is_numbered ps ≡ true
    → matches_of command (flat_map words_of ps) ≡ found_of_parts ps
parts-found ps once numbers = (take-in ps [] nothing_held starting once numbers).rows
