-- What is found for options that were given.
use Rattle.std.proofs.Common.{◌≡◌, ◌∙◌, ℕ, ◌||◌, ◌&&◌, Bool, true, false, cond, List, [], ◌∷◌, ◌++◌, map, Some, None, refl, sym, ap, append-nil, codes}
use Rattle.std.specs.Str.{bytes_eq}
use Rattle.std.specs.List.{list_any}
use Rattle.clap.specs.Kinds.{Kinds, or_else}
use Rattle.clap.specs.Walk.{Row, at_row, has_row, more_values, reading_by, used, with_values, without}
use Rattle.clap.specs.declared.builder.value_parser.Reading.{Reading}
use Rattle.clap.specs.declared.error.kind.ErrorKind.TheVariants.{ArgumentConflict}
use Rattle.clap.specs.declared.parser.matches.ValueSource.TheVariants.{CommandLine}
use Rattle.clap.specs.Faults.{use_fault}
use Rattle.clap.proofs.WalkLemmas.{list_any-map}
use Rattle.gx_words.specs.Words.{Part, flag, trace, threads, apart, joined, flag_text, label, has_label, name_text}
use Rattle.gx_words.specs.Found.{flag_rule, row, rule, rule_in, values_in}

-- ---- rows

or-false : (a b : Bool) → (a || b) ≡ false → (a ≡ false) × (b ≡ false)
or-false false b e = (refl, e)
or-false true b e = absurd (cc)

pub at_row-missing : (id : List ℕ) (change : Row → List Row) (missing rs : List Row) → has_row id rs ≡ false
    → at_row id change missing rs ≡ rs ++ missing
at_row-missing id change missing [] e = refl
at_row-missing id change missing (r ∷ rs) e =
    let both = or-false (bytes_eq r.id id) (has_row id rs) e in
    ap (λ (b : Bool). cond b (change r ++ rs) (r ∷ at_row id change missing rs)) both.0
    ∙ ap (λ (l : List Row). r ∷ l) (at_row-missing id change missing rs both.1)

-- an option that wasn't given before is found behind the others
placed : (id : List ℕ) (how : Reading) (values : List (List ℕ)) (rs : List Row) → has_row id rs ≡ false
    → with_values id how CommandLine values (without id rs) ≡ rs
    ++ record { id = id; values = values; count = None; source = Some CommandLine; reading = how } ∷ []
placed id how values rs e =
    ap (with_values id how CommandLine values) (at_row-missing id (λ _. []) [] rs e ∙ append-nil rs)
    ∙ at_row-missing id (more_values CommandLine values)
    (record { id = id; values = values; count = None; source = Some CommandLine; reading = how } ∷ []) rs e

pub used-part : (p : Part) (rs : List Row) → has_row (label p) rs ≡ false → used (rule_in p) (values_in p) rs ≡ rs ++ row p ∷ []
used-part (flag f) rs e = placed (flag_text f) (reading_by (flag_rule f)) (codes "true" ∷ []) rs e
used-part (apart name t) rs e = placed (name_text name) (reading_by (rule name)) (t ∷ []) rs e
used-part (joined name t) rs e = placed (name_text name) (reading_by (rule name)) (t ∷ []) rs e

-- ---- faults of a use

-- a use is refused where the option has a row
repeated : Bool → Kinds
repeated again = or_else (cond (again && true) (ArgumentConflict ∷ []) []) []

use-is : (p : Part) (rs : List Row) → use_fault false (rule_in p) (values_in p) rs ≡ repeated (has_row (label p) rs)
unfolding repeated
use-is (flag f) rs = refl
use-is (apart name t) rs = refl
use-is (joined name t) rs = refl

repeated-new : repeated false ≡ []
unfolding repeated
repeated-new = refl

repeated-again : repeated true ≡ ArgumentConflict ∷ []
unfolding repeated
repeated-again = refl

pub use-new : (p : Part) (rs : List Row) → has_row (label p) rs ≡ false → use_fault false (rule_in p) (values_in p) rs ≡ []
use-new p rs e = use-is p rs ∙ ap repeated e ∙ repeated-new

use-again : (p : Part) (rs : List Row) → has_row (label p) rs ≡ true → use_fault false (rule_in p) (values_in p) rs ≡ [] → ⊥
use-again p rs e none = some-kind (sym repeated-again ∙ sym (ap repeated e) ∙ sym (use-is p rs) ∙ none)
  where
    some-kind : ArgumentConflict ∷ [] ≡ [] → ⊥
    some-kind bad = absurd (cc)

-- ---- rows of options

pub has-part : (name : List ℕ) (ps : List Part) → has_row name (map row ps) ≡ list_any (has_label name) ps
has-part name ps = sym (list_any-map (λ (r : Row). bytes_eq r.id name) row ps)

-- an option that was given before is refused
pub is-new : (p : Part) (rs : List Row) (before : List Part) → rs ≡ map row before → use_fault false (rule_in p) (values_in p) rs ≡ []
    → list_any (has_label (label p)) before ≡ false
is-new p rs before same none = at (list_any (has_label (label p)) before) refl
  where
    at : (b : Bool) → list_any (has_label (label p)) before ≡ b → b ≡ false
    at false e = refl
    at true e = absurd (use-again p rs (ap (has_row (label p)) same ∙ has-part (label p) before ∙ e) none)
