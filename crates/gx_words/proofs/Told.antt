-- The options that a parse tells.
use Rattle.std.proofs.Common.{◌≡◌, ◌∙◌, ℕ, ◌&&◌, ◌||◌, Bool, true, false, List, Option, Some, refl, sym, ap, true≢false, codes}
use Rattle.std.specs.Prelude.{is_some, option_and_then, unwrap_or}
use Rattle.clap.specs.Walk.{first_of, one_of, rows_of}
use Rattle.clap.specs.Matches.{first_value, one_text}
use Rattle.clap.specs.declared.parser.matches.Found.{Found}
use Rattle.clap.proofs.WalkLemmas.{first_value-rows, one_text-rows}
use Rattle.gx_words.specs.Words.{Flag, Part, are_mixed, flag_text, gen, is_given, number_given, number_of, options_of, seed, threads, trace, turns}
use Rattle.gx_words.specs.Found.{found_of_parts}
use Rattle.gx_words.specs.declared.options.Options.{Options}
use Rattle.gx_words.proofs.Lookups.{IsNoFlag, flag-part, flag_value, no-flag, number-part}

pub number-told : (f : Found) (id : List ℕ) (parts : List Part) (n : Option ℕ) → IsNoFlag id → rows_of f ≡ found_of_parts parts
    → n ≡ option_and_then number_of (first_value f id) → n ≡ number_given id parts
number-told f id parts n other rows is = is ∙ ap (option_and_then number_of) (first_value-rows f id ∙ ap (first_of id) rows)
    ∙ number-part id parts other

-- what is said of a flag, given or not
pub record IsSaidOf (f : Found) (name : List ℕ) (said : Bool) : Type 0 where
  pub set : one_text f name ≡ Some (codes "true") → said ≡ true
  pub unset : one_text f name ≡ Some (codes "false") → said ≡ false

pub flag-told : (f : Found) (name : Flag) (parts : List Part) (said : Bool) → rows_of f ≡ found_of_parts parts → IsSaidOf f (flag_text name) said → said ≡ is_given name parts
flag-told f name parts said rows is = at (is_given name parts) refl
  where
    text : one_text f (flag_text name) ≡ Some (flag_value (is_given name parts))
    text = one_text-rows f (flag_text name) ∙ ap (one_of (flag_text name)) rows ∙ flag-part name parts

    at : (b : Bool) → is_given name parts ≡ b → said ≡ b
    at true e = is.set (text ∙ ap (λ (x : Bool). Some (flag_value x)) e)
    at false e = is.unset (text ∙ ap (λ (x : Bool). Some (flag_value x)) e)

pub mixed-told : (f : Found) (a b : Option ℕ) (t : Bool) → IsSaidOf f (codes "threads") t → a ≡ option_and_then number_of (first_value f (codes "seed"))
    → b ≡ option_and_then number_of (first_value f (codes "turns")) → (parts : List Part) → rows_of f ≡ found_of_parts parts
    → (t && (is_some a || is_some b)) ≡ are_mixed parts
mixed-told f a b t says seeds asks parts rows =
    ap (λ (x : Bool). x && (is_some a || is_some b)) (flag-told f threads parts t rows says)
    ∙ ap (λ (o : Option ℕ). is_given threads parts && (is_some o || is_some b)) (number-told f (codes "seed") parts a (no-flag seed) rows seeds)
    ∙ ap (λ (o : Option ℕ). is_given threads parts && (is_some (number_given (codes "seed") parts) || is_some o)) (number-told f (codes "turns") parts b (no-flag turns) rows asks)

-- the options with these fields
abbrev options : Option ℕ → Bool → Bool → ℕ → Option ℕ → Options
options s h t n w = record { seed = s; threads = h; trace = t; turns = n; work = w }

pub told : (f : Found) (s : Option ℕ) (h t : Bool) (asked w : Option ℕ) (n : ℕ)
    → s ≡ option_and_then number_of (first_value f (codes "seed"))
    → IsSaidOf f (codes "threads") h → IsSaidOf f (codes "trace") t
    → asked ≡ option_and_then number_of (first_value f (codes "turns")) → w ≡ option_and_then number_of (first_value f (codes "gen"))
    → n ≡ unwrap_or asked 1000000
    → (parts : List Part) → rows_of f ≡ found_of_parts parts → options s h t n w ≡ options_of parts
told f s h t asked w n seeds says tells asks works most parts rows =
    ap (λ (x : Option ℕ). options x h t n w) (number-told f (codes "seed") parts s (no-flag seed) rows seeds)
    ∙ ap (λ (x : Bool). options (number_given (codes "seed") parts) x t n w) (flag-told f threads parts h rows says)
    ∙ ap (λ (x : Bool). options (number_given (codes "seed") parts) (is_given threads parts) x n w) (flag-told f trace parts t rows tells)
    ∙ ap (λ (x : ℕ). options (number_given (codes "seed") parts) (is_given threads parts) (is_given trace parts) x w)
    (most ∙ ap (λ (x : Option ℕ). unwrap_or x 1000000) (number-told f (codes "turns") parts asked (no-flag turns) rows asks))
    ∙ ap (λ (x : Option ℕ). record (options_of parts) { work = x }) (number-told f (codes "gen") parts w (no-flag gen) rows works)

-- ---- tests, one after the other

pub is-first : (t x y r : Bool) → t ≡ true → r ≡ x → r ≡ true → r ≡ (t && (x || y))
is-first true true y r on is e = is
is-first true false y r on is e = absurd (true≢false (sym e ∙ is))
is-first false x y r on is e = absurd (true≢false (sym on))

pub is-second : (t x y p r : Bool) → t ≡ true → p ≡ x → p ≡ false → r ≡ y → r ≡ (t && (x || y))
is-second true false y p r on is e last = last
is-second true true y p r on is e last = absurd (true≢false (sym is ∙ e))
is-second false x y p r on is e last = absurd (true≢false (sym on))

pub is-neither : (t z : Bool) → t ≡ false → t ≡ (t && z)
is-neither false z e = refl
is-neither true z e = absurd (true≢false e)
