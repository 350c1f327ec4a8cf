-- The readers of heads and lines read their rules.
use Rattle.std.proofs.Common.{◌≡◌, inl, ℕ, ◌≤◌, Bool, true, false, List, [], ◌∷◌, ◌++◌, Option, Some, None, refl, sym, subst, arith}
use Rattle.gx_lex.specs.declared.word.Word.TheVariants as word
use Rattle.gx_lex.specs.declared.symbol.Symbol.TheVariants as symbol
use Rattle.gx_lex.specs.declared.token.Token.{Token}
use Rattle.gx_lex.specs.declared.token.Token.TheVariants as token
use Rattle.gx_grammar.specs.declared.fault.Limits.{Limits}
use Rattle.gx_grammar.specs.Rules.{one, both, maybe, made, either, behind, marked, Reading, one_at, both_at, made_at, either_at, behind_at}
use Rattle.gx_grammar.specs.Tokens.{is_word, is_sign, name_of, listed, listed_at, enclosed, enclosed_at}
use Rattle.gx_grammar.proofs.Good.{Good, Always, Heads, NotHeads}
use Rattle.gx_grammar.proofs.Parts.{one_good, both_good, made_good, behind_good, marked_class, maybe_good}
use Rattle.gx_grammar.proofs.Either.{either_good}
use Rattle.gx_lines.specs.declared.syn.ColumnSyn.{ColumnSyn}
use Rattle.gx_lines.specs.declared.syn.DistSyn.{DistSyn}
use Rattle.gx_lines.specs.declared.syn.DistSyn.TheVariants as dist_syn
use Rattle.gx_lines.specs.declared.syn.StmtSyn.{StmtSyn}
use Rattle.gx_lines.specs.declared.syn.LineSyn.{LineSyn}
use Rattle.gx_lines.specs.declared.syn.LineSyn.TheVariants as line_syn
use Rattle.gx_lines.specs.Classes.{switch_of, kind_of, fate_of, way_of, segments_of, number_in}
use Rattle.gx_lines.specs.Queries.{name, name_at}
use Rattle.gx_lines.specs.Statements.{stmt, stmt_at}
use Rattle.gx_lines.specs.Heads.{segments, segments_at, detector, detector_at, to_column, column, column_at, dist, dist_at, to_table, table, table_at, to_link, link, link_at, is_fate, to_group, group, group_at, to_session, session_line, session_at, end_at, head_line, head_at}
use Rattle.gx_lines.proofs.Told.{word_is, sign_is}
use Rattle.gx_lines.proofs.Classing.{name_first, switch_class, kind_class, fate_class, way_class, segments_class, number_class, fate_first}
use Rattle.gx_lines.proofs.Follow.{OneOf, Next, First, first_starts, first_one, first_both, first_made, first_behind, first_either, marked_true, under, anywhere, first_next, listed_good, enclosed_good}
use Rattle.gx_lines.proofs.QueryGood.{name_good, enclosed_name_good, at_end}
use Rattle.gx_lines.proofs.StmtGood.{stmt_good}

pub segments_good : Good segments Always segments_at
segments_good = behind_good (is_word word.Segments) (token.Word word.Segments) refl (λ d. one (segments_of d)) Always (λ d. one_at (segments_of d)) (one_good segments_of segments_class)

detector_good : Good (λ d. detector) Always (λ d. detector_at)
detector_good = made_good line_syn.Detector (λ d. behind (is_word word.Detector) (one switch_of)) Always (λ d. behind_at (is_word word.Detector) (one_at switch_of)) (behind_good (is_word word.Detector) (token.Word word.Detector) refl (λ d. one switch_of) Always (λ d. one_at switch_of) (one_good (λ d. switch_of) switch_class))

column_good : Good column Always column_at
column_good = made_good to_column (λ d. both (name d) (one kind_of)) Always (λ d. both_at (name_at d) (one_at kind_of)) (both_good name (λ d. one kind_of) Always Always name_at (λ d. one_at kind_of) name_good (one_good (λ d. kind_of) kind_class) (λ d b us rest q n. tt))

abbrev by_rule : Limits → DistSyn → List Token → Type 0
by_rule d = made dist_syn.By (behind (is_word word.By) (enclosed (name d)))

abbrev randomly_rule : Limits → DistSyn → List Token → Type 0
randomly_rule d = made (λ _. dist_syn.Randomly) (one (marked (is_word word.Randomly)))

by_head : (P : Token → Type 0) → P (token.Word word.By) → (d : Limits) (x : DistSyn) (us : List Token) → by_rule d x us → First P us
by_head P e d x us q = first_made dist_syn.By (behind (is_word word.By) (enclosed (name d))) P x us (λ a vs w. first_behind (is_word word.By) (enclosed (name d)) P a vs (λ y k. subst P (sym (word_is word.By y k)) e) w) q

randomly_head : (P : Token → Type 0) → P (token.Word word.Randomly) → (d : Limits) (x : DistSyn) (us : List Token) → randomly_rule d x us → First P us
randomly_head P e d x us q = first_made (λ (u : Unit {0}). dist_syn.Randomly) (one (marked (is_word word.Randomly))) P x us (λ a vs w. first_one (marked (is_word word.Randomly)) P a vs (λ y k. subst P (sym (word_is word.Randomly y (marked_true (is_word word.Randomly) y a k))) e) w) q

dist_good : Good dist Always dist_at
dist_good = either_good (is_word word.By) by_rule randomly_rule Always (λ d. made_at dist_syn.By (behind_at (is_word word.By) (enclosed_at (name_at d)))) (λ d. made_at (λ _. dist_syn.Randomly) (one_at (marked (is_word word.Randomly))))
    (made_good dist_syn.By (λ d. behind (is_word word.By) (enclosed (name d))) Always (λ d. behind_at (is_word word.By) (enclosed_at (name_at d))) (behind_good (is_word word.By) (token.Word word.By) refl (λ d. enclosed (name d)) Always (λ d. enclosed_at (name_at d)) enclosed_name_good))
    (made_good (λ (u : Unit {0}). dist_syn.Randomly) (λ d. one (marked (is_word word.Randomly))) Always (λ d. one_at (marked (is_word word.Randomly))) (one_good (λ d. marked (is_word word.Randomly)) (marked_class (is_word word.Randomly) (token.Word word.Randomly) refl)))
    (λ d x us rest q. first_starts (is_word word.By) true us rest (by_head (λ y. is_word word.By y ≡ true) refl d x us q))
    (λ d x us rest q n. first_starts (is_word word.By) false us rest (randomly_head (λ y. is_word word.By y ≡ false) refl d x us q))

abbrev columns_rule : Limits → List ColumnSyn → List Token → Type 0
columns_rule d = enclosed (listed (column d))

columns_good : Good columns_rule Always (λ d. enclosed_at (listed_at (column_at d)))
columns_good = enclosed_good (λ d. listed (column d)) (λ d. listed_at (column_at d)) (listed_good column column_at (token.Symbol symbol.Close ∷ []) (anywhere column column_at (Next (token.Symbol symbol.Comma ∷ token.Symbol symbol.Close ∷ [])) column_good) (refl, tt))

abbrev dist_part : Limits → DistSyn → List Token → Type 0
dist_part d = behind (is_word word.Distributed) (dist d)

table_good : Good table Always table_at
table_good = made_good to_table (λ d. both (behind (is_word word.Table) (name d)) (both (columns_rule d) (dist_part d))) Always (λ d. both_at (behind_at (is_word word.Table) (name_at d)) (both_at (enclosed_at (listed_at (column_at d))) (behind_at (is_word word.Distributed) (dist_at d))))
    (both_good (λ d. behind (is_word word.Table) (name d)) (λ d. both (columns_rule d) (dist_part d)) Always Always (λ d. behind_at (is_word word.Table) (name_at d)) (λ d. both_at (enclosed_at (listed_at (column_at d))) (behind_at (is_word word.Distributed) (dist_at d)))
    (behind_good (is_word word.Table) (token.Word word.Table) refl name Always name_at name_good)
    (both_good columns_rule dist_part Always Always (λ d. enclosed_at (listed_at (column_at d))) (λ d. behind_at (is_word word.Distributed) (dist_at d)) columns_good (behind_good (is_word word.Distributed) (token.Word word.Distributed) refl dist Always dist_at dist_good) (λ d b us rest q n. tt))
    (λ d b us rest q n. tt))

-- a message of a link between n segments and the coordinator
module _ (n : ℕ) (some : 1 ≤ n) where
  number_part : Good (λ d. behind (is_word word.Number) (one (number_in 1 18446744073709551615))) Always (λ d. behind_at (is_word word.Number) (one_at (number_in 1 18446744073709551615)))
  number_part = behind_good (is_word word.Number) (token.Word word.Number) refl (λ d. one (number_in 1 18446744073709551615)) Always (λ d. one_at (number_in 1 18446744073709551615)) (one_good (λ d. number_in 1 18446744073709551615) (number_class 1 18446744073709551615 (omega arith)))

  segment_part : Good (λ d. both (one (number_in 1 n)) (behind (is_word word.Number) (one (number_in 1 18446744073709551615)))) Always (λ d. both_at (one_at (number_in 1 n)) (behind_at (is_word word.Number) (one_at (number_in 1 18446744073709551615))))
  segment_part = both_good (λ d. one (number_in 1 n)) (λ d. behind (is_word word.Number) (one (number_in 1 18446744073709551615))) Always Always (λ d. one_at (number_in 1 n)) (λ d. behind_at (is_word word.Number) (one_at (number_in 1 18446744073709551615))) (one_good (λ d. number_in 1 n) (number_class 1 n some)) number_part (λ d b us rest q n. tt)

  way_part : Good (λ d. both (one way_of) (both (one (number_in 1 n)) (behind (is_word word.Number) (one (number_in 1 18446744073709551615))))) Always (λ d. both_at (one_at way_of) (both_at (one_at (number_in 1 n)) (behind_at (is_word word.Number) (one_at (number_in 1 18446744073709551615)))))
  way_part = both_good (λ d. one way_of) (λ d. both (one (number_in 1 n)) (behind (is_word word.Number) (one (number_in 1 18446744073709551615)))) Always Always (λ d. one_at way_of) (λ d. both_at (one_at (number_in 1 n)) (behind_at (is_word word.Number) (one_at (number_in 1 18446744073709551615)))) (one_good (λ d. way_of) way_class) segment_part (λ d b us rest q n. tt)

  link_good : Good (λ d. link n) Always (λ d. link_at n)
  link_good = made_good to_link (λ d. both (one fate_of) (both (one way_of) (both (one (number_in 1 n)) (behind (is_word word.Number) (one (number_in 1 18446744073709551615)))))) Always (λ d. both_at (one_at fate_of) (both_at (one_at way_of) (both_at (one_at (number_in 1 n)) (behind_at (is_word word.Number) (one_at (number_in 1 18446744073709551615))))))
      (both_good (λ d. one fate_of) (λ d. both (one way_of) (both (one (number_in 1 n)) (behind (is_word word.Number) (one (number_in 1 18446744073709551615))))) Always Always (λ d. one_at fate_of) (λ d. both_at (one_at way_of) (both_at (one_at (number_in 1 n)) (behind_at (is_word word.Number) (one_at (number_in 1 18446744073709551615))))) (one_good (λ d. fate_of) fate_class) way_part (λ d b us rest q n. tt))

-- GROUPS
abbrev names_rule : Limits → List (List ℕ) → List Token → Type 0
names_rule d = behind (is_word word.In) (listed (name d))

names_good : Good names_rule (Next []) (λ d. behind_at (is_word word.In) (listed_at (name_at d)))
names_good = behind_good (is_word word.In) (token.Word word.In) refl (λ d. listed (name d)) (Next []) (λ d. listed_at (name_at d))
    (listed_good name name_at [] (anywhere name name_at (Next (token.Symbol symbol.Comma ∷ [])) name_good) tt)

abbrev limit_rule : ℕ → List Token → Type 0
limit_rule = behind (is_word word.Limit) (one (number_in 1 18446744073709551615))

limit_good : Good (λ d. limit_rule) Always (λ d. behind_at (is_word word.Limit) (one_at (number_in 1 18446744073709551615)))
limit_good = behind_good (is_word word.Limit) (token.Word word.Limit) refl (λ d. one (number_in 1 18446744073709551615)) Always (λ d. one_at (number_in 1 18446744073709551615)) (one_good (λ d. number_in 1 18446744073709551615) (number_class 1 18446744073709551615 (omega arith)))

group_good : Good group (Next []) group_at
group_good = made_good to_group (λ d. both (behind (is_word word.Group) (name d)) (both limit_rule (names_rule d))) (Next []) (λ d. both_at (behind_at (is_word word.Group) (name_at d)) (both_at (behind_at (is_word word.Limit) (one_at (number_in 1 18446744073709551615))) (behind_at (is_word word.In) (listed_at (name_at d)))))
    (both_good (λ d. behind (is_word word.Group) (name d)) (λ d. both limit_rule (names_rule d)) Always (Next []) (λ d. behind_at (is_word word.Group) (name_at d)) (λ d. both_at (behind_at (is_word word.Limit) (one_at (number_in 1 18446744073709551615))) (behind_at (is_word word.In) (listed_at (name_at d))))
    (behind_good (is_word word.Group) (token.Word word.Group) refl name Always name_at name_good)
    (both_good (λ d. limit_rule) names_rule Always (Next []) (λ d. behind_at (is_word word.Limit) (one_at (number_in 1 18446744073709551615))) (λ d. behind_at (is_word word.In) (listed_at (name_at d))) limit_good names_good (λ d b us rest q n. tt))
    (λ d b us rest q n. tt))

-- SESSIONS' LINES
abbrev end_rule : Option (Unit {0}) → List Token → Type 0
end_rule = maybe (one (marked (is_sign symbol.Semicolon)))

first_heads : (is : Token → Bool) (us : List Token) → First (λ y. is y ≡ true) us → Heads is us
first_heads is [] h = absurd h
first_heads is (y ∷ us) h = h

-- nothing follows
abbrev pub Nothing : List Token → Type 0
Nothing [] = Unit {0}
Nothing (y ∷ ys) = ⊥

nothing_not : (is : Token → Bool) (rest : List Token) → Nothing rest → NotHeads is rest
nothing_not is [] n = tt
nothing_not is (y ∷ ys) n = absurd n

semicolon_heads : (x : Unit {0}) (us : List Token) → one (marked (is_sign symbol.Semicolon)) x us → Heads (is_sign symbol.Semicolon) us
semicolon_heads x us q = first_heads (is_sign symbol.Semicolon) us (first_one (marked (is_sign symbol.Semicolon)) (λ y. is_sign symbol.Semicolon y ≡ true) x us (λ y k. marked_true (is_sign symbol.Semicolon) y x k) q)

end_good : Good (λ d. end_rule) Nothing (λ d. end_at)
end_good = under (λ d. end_rule) (λ d. end_at) (λ rest. Always rest × NotHeads (is_sign symbol.Semicolon) rest) Nothing
    (maybe_good (is_sign symbol.Semicolon) (λ d. one (marked (is_sign symbol.Semicolon))) Always (λ d. one_at (marked (is_sign symbol.Semicolon))) (one_good (λ d. marked (is_sign symbol.Semicolon)) (marked_class (is_sign symbol.Semicolon) (token.Symbol symbol.Semicolon) refl)) (λ d a us q. semicolon_heads a us q))
    (λ rest n. (tt, nothing_not (is_sign symbol.Semicolon) rest n))

nothing_next : (ts rest : List Token) → Nothing rest → Next ts rest
nothing_next ts [] n = tt
nothing_next ts (y ∷ ys) n = absurd n

end_next : (d : Limits) (x : Option (Unit {0})) (us rest : List Token) → end_rule x us → Nothing rest → Next at_end (us ++ rest)
end_next d None us rest q n = subst (λ (t : List Token). Next at_end (t ++ rest)) (sym q) (nothing_next at_end rest n)
end_next d (Some a) us rest q n = first_next at_end us rest (first_one (marked (is_sign symbol.Semicolon)) (λ y. OneOf at_end y) a us (λ y k. inl (sign_is symbol.Semicolon y (marked_true (is_sign symbol.Semicolon) y a k))) q)

abbrev colon_part : Limits → StmtSyn → List Token → Type 0
colon_part d = behind (is_sign symbol.Colon) (stmt d)

pub session_good : Good session_line Nothing session_at
session_good = made_good to_session (λ d. both (name d) (both (colon_part d) end_rule)) Nothing (λ d. both_at (name_at d) (both_at (behind_at (is_sign symbol.Colon) (stmt_at d)) end_at))
    (both_good name (λ d. both (colon_part d) end_rule) Always Nothing name_at (λ d. both_at (behind_at (is_sign symbol.Colon) (stmt_at d)) end_at) name_good
    (both_good colon_part (λ d. end_rule) (Next at_end) Nothing (λ d. behind_at (is_sign symbol.Colon) (stmt_at d)) (λ d. end_at) (behind_good (is_sign symbol.Colon) (token.Symbol symbol.Colon) refl stmt (Next at_end) stmt_at stmt_good) end_good end_next)
    (λ d b us rest q n. tt))

-- HEADS OR LINES
session_head : (P : Token → Type 0) → ((n : List ℕ) → P (token.Name n)) → (d : Limits) (x : LineSyn) (us : List Token) → session_line d x us → First P us
session_head P f d x us q = first_made to_session (both (name d) (both (colon_part d) end_rule)) P x us (λ p vs w. first_both (name d) (both (colon_part d) end_rule) P p vs (λ a ws z. first_one (name_of d) P a ws (λ y e. name_first P f d y a e) z) w) q

link_head : (P : Token → Type 0) → P (token.Word word.Lose) → P (token.Word word.Repeat) → (n : ℕ) (x : LineSyn) (us : List Token) → link n x us → First P us
link_head P a b n x us q = first_made to_link (both (one fate_of) (both (one way_of) (both (one (number_in 1 n)) (behind (is_word word.Number) (one (number_in 1 18446744073709551615)))))) P x us (λ p vs w. first_both (one fate_of) (both (one way_of) (both (one (number_in 1 n)) (behind (is_word word.Number) (one (number_in 1 18446744073709551615))))) P p vs (λ s ws z. first_one fate_of P s ws (λ y e. fate_first P a b y s e) z) w) q

group_head : (P : Token → Type 0) → P (token.Word word.Group) → (d : Limits) (x : LineSyn) (us : List Token) → group d x us → First P us
group_head P e d x us q = first_made to_group (both (behind (is_word word.Group) (name d)) (both limit_rule (names_rule d))) P x us (λ p vs w. first_both (behind (is_word word.Group) (name d)) (both limit_rule (names_rule d)) P p vs (λ a ws z. first_behind (is_word word.Group) (name d) P a ws (λ y k. subst P (sym (word_is word.Group y k)) e) z) w) q

table_head : (P : Token → Type 0) → P (token.Word word.Table) → (d : Limits) (x : LineSyn) (us : List Token) → table d x us → First P us
table_head P e d x us q = first_made to_table (both (behind (is_word word.Table) (name d)) (both (columns_rule d) (dist_part d))) P x us (λ p vs w. first_both (behind (is_word word.Table) (name d)) (both (columns_rule d) (dist_part d)) P p vs (λ a ws z. first_behind (is_word word.Table) (name d) P a ws (λ y k. subst P (sym (word_is word.Table y k)) e) z) w) q

detector_head : (P : Token → Type 0) → P (token.Word word.Detector) → (x : LineSyn) (us : List Token) → detector x us → First P us
detector_head P e x us q = first_made line_syn.Detector (behind (is_word word.Detector) (one switch_of)) P x us (λ a vs w. first_behind (is_word word.Detector) (one switch_of) P a vs (λ y k. subst P (sym (word_is word.Detector y k)) e) w) q

abbrev group_or : Limits → LineSyn → List Token → Type 0
group_or d = either (group d) (session_line d)

abbrev group_or_at : Limits → List Token → Reading LineSyn
group_or_at d = either_at (is_word word.Group) (group_at d) (session_at d)

group_or_good : Good group_or Nothing group_or_at
group_or_good = either_good (is_word word.Group) group session_line Nothing group_at session_at (under group group_at (Next []) Nothing group_good (λ rest n. nothing_next [] rest n)) session_good
    (λ d x us rest q. first_starts (is_word word.Group) true us rest (group_head (λ y. is_word word.Group y ≡ true) refl d x us q))
    (λ d x us rest q z. first_starts (is_word word.Group) false us rest (session_head (λ y. is_word word.Group y ≡ false) (λ m. refl) d x us q))

group_or_head : (P : Token → Type 0) → P (token.Word word.Group) → ((m : List ℕ) → P (token.Name m)) → (d : Limits) (x : LineSyn) (us : List Token) → group_or d x us → First P us
group_or_head P e f d x us q = first_either (group d) (session_line d) P x us (group_head P e d x us) (session_head P f d x us) q

module _ (n : ℕ) (some : 1 ≤ n) where
  abbrev link_or : Limits → LineSyn → List Token → Type 0
  link_or d = either (link n) (group_or d)

  abbrev link_or_at : Limits → List Token → Reading LineSyn
  link_or_at d = either_at is_fate (link_at n) (group_or_at d)

  link_or_good : Good link_or Nothing link_or_at
  link_or_good = either_good is_fate (λ d. link n) group_or Nothing (λ d. link_at n) group_or_at (anywhere (λ d. link n) (λ d. link_at n) Nothing (link_good n some)) group_or_good
      (λ d x us rest q. first_starts is_fate true us rest (link_head (λ y. is_fate y ≡ true) refl refl n x us q))
      (λ d x us rest q z. first_starts is_fate false us rest (group_or_head (λ y. is_fate y ≡ false) refl (λ m. refl) d x us q))

  link_or_head : (P : Token → Type 0) → P (token.Word word.Lose) → P (token.Word word.Repeat) → P (token.Word word.Group) → ((m : List ℕ) → P (token.Name m)) → (d : Limits) (x : LineSyn) (us : List Token) → link_or d x us → First P us
  link_or_head P a b e f d x us q = first_either (link n) (group_or d) P x us (link_head P a b n x us) (group_or_head P e f d x us) q

  abbrev table_or : Limits → LineSyn → List Token → Type 0
  table_or d = either (table d) (link_or d)

  abbrev table_or_at : Limits → List Token → Reading LineSyn
  table_or_at d = either_at (is_word word.Table) (table_at d) (link_or_at d)

  table_or_good : Good table_or Nothing table_or_at
  table_or_good = either_good (is_word word.Table) table link_or Nothing table_at link_or_at (anywhere table table_at Nothing table_good) link_or_good
      (λ d x us rest q. first_starts (is_word word.Table) true us rest (table_head (λ y. is_word word.Table y ≡ true) refl d x us q))
      (λ d x us rest q z. first_starts (is_word word.Table) false us rest (link_or_head (λ y. is_word word.Table y ≡ false) refl refl refl (λ m. refl) d x us q))

  pub head_good : Good (head_line n) Nothing (head_at n)
  head_good = either_good (is_word word.Detector) (λ d. detector) table_or Nothing (λ d. detector_at) table_or_at (anywhere (λ d. detector) (λ d. detector_at) Nothing detector_good) table_or_good
      (λ d x us rest q. first_starts (is_word word.Detector) true us rest (detector_head (λ y. is_word word.Detector y ≡ true) refl x us q))
      (λ d x us rest q z. first_starts (is_word word.Detector) false us rest (first_either (table d) (link_or d) (λ y. is_word word.Detector y ≡ false) x us (table_head (λ y. is_word word.Detector y ≡ false) refl d x us) (link_or_head (λ y. is_word word.Detector y ≡ false) refl refl refl (λ m. refl) d x us) q))
