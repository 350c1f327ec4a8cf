-- The values of options among what a parse finds.
use Rattle.std.proofs.Common.{◌≡◌, ◌∙◌, ℕ, ◌||◌, Bool, true, false, cond, List, [], ◌∷◌, ◌++◌, map, Option, Some, None, refl, sym, ap, true≢false, codes}
use Rattle.std.proofs.lemmas.List.Folds.{find-append}
use Rattle.std.specs.List.{find}
use Rattle.std.specs.Option.{is_some, option_map, option_or}
use Rattle.std.specs.Prelude.{option_and_then, slice_get}
use Rattle.std.specs.Str.{bytes_eq}
use Rattle.clap.specs.Walk.{Row, first_of, has_row, more_values, one_of, row_text, with_default}
use Rattle.clap.specs.declared.parser.matches.ValueSource.TheVariants.{DefaultValue}
use Rattle.clap.proofs.WalkLemmas.{find-map}
use Rattle.gx_words.specs.Words.{Flag, Name, Part, seed, turns, gen, flag, trace, threads, apart, joined, flag_text, has_label, is_given, name_text, number_given, number_in, number_of}
use Rattle.gx_words.specs.Found.{flag_rule, found_of_parts, row, text_in, with_flags}
use Rattle.gx_words.proofs.Rows.{at_row-missing}

abbrev is_row : List ℕ → Row → Bool
is_row id r = bytes_eq r.id id

-- the row that a flag has where it wasn't given
abbrev unset : Flag → List Row
unset f = with_default [] (flag_rule f)

find-row : (id : List ℕ) (parts : List Part) → find (is_row id) (map row parts) ≡ option_map row (find (has_label id) parts)
find-row id parts = sym (find-map (is_row id) row parts)

has-find : (id : List ℕ) (rs : List Row) → has_row id rs ≡ is_some (find (is_row id) rs)
has-find id [] = refl
has-find id (r ∷ rs) = at (bytes_eq r.id id) (has-find id rs)
  where
    at : (b : Bool) → has_row id rs ≡ is_some (find (is_row id) rs) → (b || has_row id rs) ≡ is_some (cond b (Some r) (find (is_row id) rs))
    at true rest = refl
    at false rest = rest

or-none : {X : Type 0} (o : Option X) → option_or o None ≡ o
or-none None = refl
or-none (Some x) = refl

or-some : {X : Type 0} (o other : Option X) → is_some o ≡ true → o ≡ option_or o other
or-some None other e = absurd (true≢false (sym e))
or-some (Some x) other e = refl

-- a flag has its own row, or else that of a flag which wasn't given
own : (f : Flag) (rs : List Row) → find (is_row (flag_text f)) (with_default rs (flag_rule f)) ≡ option_or (find (is_row (flag_text f)) rs) (find (is_row (flag_text f)) (unset f))
own f rs = at (has_row (flag_text f) rs) refl
  where
    at : (b : Bool) → has_row (flag_text f) rs ≡ b
        → find (is_row (flag_text f)) (with_default rs (flag_rule f)) ≡ option_or (find (is_row (flag_text f)) rs) (find (is_row (flag_text f)) (unset f))
    at true e =
        ap (find (is_row (flag_text f))) (rw e refl)
        ∙ or-some (find (is_row (flag_text f)) rs) (find (is_row (flag_text f)) (unset f)) (sym (has-find (flag_text f) rs) ∙ e)
    at false e =
        ap (find (is_row (flag_text f))) (rw e (at_row-missing (flag_text f) (more_values DefaultValue (codes "false" ∷ [])) (unset f) rs e))
        ∙ find-append (is_row (flag_text f)) rs (unset f)

-- and others have theirs
other : (id : List ℕ) (f : Flag) (rs : List Row) → bytes_eq (flag_text f) id ≡ false → find (is_row id) (with_default rs (flag_rule f)) ≡ find (is_row id) rs
other id f rs differs = at (has_row (flag_text f) rs) refl
  where
    unset-other : find (is_row id) (unset f) ≡ None
    unset-other = rw differs refl

    at : (b : Bool) → has_row (flag_text f) rs ≡ b → find (is_row id) (with_default rs (flag_rule f)) ≡ find (is_row id) rs
    at true e = ap (find (is_row id)) (rw e refl)
    at false e =
        ap (find (is_row id)) (rw e (at_row-missing (flag_text f) (more_values DefaultValue (codes "false" ∷ [])) (unset f) rs e))
        ∙ find-append (is_row id) rs (unset f)
        ∙ ap (option_or (find (is_row id) rs)) unset-other
        ∙ or-none (find (is_row id) rs)

-- ---- numbers

-- a name that is no flag's
abbrev pub IsNoFlag : List ℕ → Type 0
IsNoFlag id = (f : Flag) → bytes_eq (flag_text f) id ≡ false

pub no-flag : (n : Name) → IsNoFlag (name_text n)
no-flag seed trace = refl
no-flag seed threads = refl
no-flag turns trace = refl
no-flag turns threads = refl
no-flag gen trace = refl
no-flag gen threads = refl

first-text : (o : Option Part) → option_and_then (λ r. slice_get r.values 0) (option_map row o) ≡ option_map text_in o
first-text None = refl
first-text (Some p) = refl

find-all : (id : List ℕ) (parts : List Part) → IsNoFlag id → find (is_row id) (found_of_parts parts) ≡ option_map row (find (has_label id) parts)
find-all id parts differs =
    other id threads (with_default (map row parts) (flag_rule trace)) (differs threads) ∙ other id trace (map row parts) (differs trace) ∙ find-row id parts

pub first-part : (id : List ℕ) (parts : List Part) → IsNoFlag id → first_of id (found_of_parts parts) ≡ option_map text_in (find (has_label id) parts)
first-part id parts differs = ap (option_and_then (λ (r : Row). slice_get r.values 0)) (find-all id parts differs)
    ∙ first-text (find (has_label id) parts)

number-text : (o : Option Part) → option_and_then number_of (option_map text_in o) ≡ option_and_then number_in o
number-text None = refl
number-text (Some (flag f)) = refl
number-text (Some (apart n t)) = refl
number-text (Some (joined n t)) = refl

pub number-part : (id : List ℕ) (parts : List Part) → IsNoFlag id → option_and_then number_of (first_of id (found_of_parts parts)) ≡ number_given id parts
number-part id parts differs = ap (option_and_then number_of) (first-part id parts differs) ∙ number-text (find (has_label id) parts)

-- ---- flags

name-differs : (n : Name) (f : Flag) → bytes_eq (name_text n) (flag_text f) ≡ false
name-differs seed trace = refl
name-differs seed threads = refl
name-differs turns trace = refl
name-differs turns threads = refl
name-differs gen trace = refl
name-differs gen threads = refl

abbrev pub flag_value : Bool → List ℕ
flag_value true = codes "true"
flag_value false = codes "false"

find-flag : (f : Flag) (rs : List Row) → find (is_row (flag_text f)) (with_flags rs) ≡ option_or (find (is_row (flag_text f)) rs) (find (is_row (flag_text f)) (unset f))
find-flag trace rs = other (flag_text trace) threads (with_default rs (flag_rule trace)) refl ∙ own trace rs
find-flag threads rs =
    own threads (with_default rs (flag_rule trace))
    ∙ ap (λ (o : Option Row). option_or o (find (is_row (flag_text threads)) (unset threads))) (other (flag_text threads) trace rs refl)

value : (f : Flag) (parts : List Part)
    → option_and_then row_text (option_or (option_map row (find (has_label (flag_text f)) parts)) (find (is_row (flag_text f)) (unset f))) ≡ Some (flag_value (is_given f parts))
value trace [] = refl
value threads [] = refl
value trace (flag trace ∷ parts) = refl
value trace (flag threads ∷ parts) = value trace parts
value threads (flag trace ∷ parts) = value threads parts
value threads (flag threads ∷ parts) = refl
value f (apart n t ∷ parts) = rw (name-differs n f) (value f parts)
value f (joined n t ∷ parts) = rw (name-differs n f) (value f parts)

pub flag-part : (f : Flag) (parts : List Part) → one_of (flag_text f) (found_of_parts parts) ≡ Some (flag_value (is_given f parts))
flag-part f parts =
    ap (option_and_then row_text)
    (find-flag f (map row parts) ∙ ap (λ (o : Option Row). option_or o (find (is_row (flag_text f)) (unset f))) (find-row (flag_text f) parts))
    ∙ value f parts
