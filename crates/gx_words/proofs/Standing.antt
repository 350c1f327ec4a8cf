-- Between two options: which options were given, and that nothing is wrong so far.
use Rattle.std.proofs.Common.{◌≡◌, ◌∙◌, false, List, [], ◌∷◌, ◌++◌, map, refl, sym, ap}
use Rattle.std.proofs.lemmas.List.{map-append}
use Rattle.std.specs.List.{list_any}
use Rattle.clap.specs.Walk.{Held, Row, has_row, used}
use Rattle.clap.specs.Faults.{use_fault}
use Rattle.gx_words.specs.Words.{Part, seed, turns, gen, flag, trace, threads, apart, joined, label, has_label}
use Rattle.gx_words.proofs.Turns.{behind_apart, behind_flag, behind_joined, due, due-apart, rows}
use Rattle.gx_words.specs.Found.{row, rule_in, values_in}
use Rattle.gx_words.proofs.Rows.{has-part, use-new, used-part}

pub record IsBehind (before : List Part) (h : Held) : Type 0 where
  pub fine : due h ≡ []
  pub given : rows h ≡ map row before

abbrev pub behind : Part → Held → Held
behind (flag f) h = behind_flag f h
behind (apart name t) h = behind_apart name t h
behind (joined name t) h = behind_joined name t h

rows-behind : (p : Part) (h : Held) → rows (behind p h) ≡ used (rule_in p) (values_in p) (rows h)
rows-behind (flag trace) h = refl
rows-behind (flag threads) h = refl
rows-behind (apart seed t) h = refl
rows-behind (apart turns t) h = refl
rows-behind (apart gen t) h = refl
rows-behind (joined name t) h = refl

due-behind : (p : Part) (h : Held) → use_fault false (rule_in p) (values_in p) (rows h) ≡ [] → due (behind p h) ≡ []
due-behind (flag f) h e = refl
due-behind (apart name t) h e = due-apart name t h ∙ e
due-behind (joined name t) h e = refl

none-before : (p : Part) (before : List Part) (h : Held) → IsBehind before h → list_any (has_label (label p)) before ≡ false
    → has_row (label p) (rows h) ≡ false
none-before p before h is e = ap (has_row (label p)) is.given ∙ has-part (label p) before ∙ e

pub use-fine : (p : Part) (before : List Part) (h : Held) → IsBehind before h → list_any (has_label (label p)) before ≡ false → use_fault false (rule_in p) (values_in p) (rows h) ≡ []
use-fine p before h is e = use-new p (rows h) (none-before p before h is e)

-- one option more
pub behind-next : (p : Part) (before : List Part) (h : Held) → IsBehind before h → list_any (has_label (label p)) before ≡ false
    → IsBehind (before ++ p ∷ []) (behind p h)
behind-next p before h is e = record {
  fine = due-behind p h (use-fine p before h is e);
  given =
      rows-behind p h
      ∙ used-part p (rows h) (none-before p before h is e)
      ∙ ap (λ (rs : List Row). rs ++ row p ∷ []) is.given
      ∙ sym (map-append row before (p ∷ []));
}
