-- The readers of statements read their rules.
use Rattle.std.proofs.Common.{◌≡◌, inl, inr, ℕ, Bool, true, List, [], ◌∷◌, ◌++◌, Option, refl}
use Rattle.gx_lex.specs.declared.word.Word.{Word}
use Rattle.gx_lex.specs.declared.word.Word.TheVariants as word
use Rattle.gx_lex.specs.declared.symbol.Symbol.TheVariants as symbol
use Rattle.gx_lex.specs.declared.token.Token.{Token}
use Rattle.gx_lex.specs.declared.token.Token.TheVariants as token
use Rattle.gx_tree.specs.declared.stmt.Level.{Level}
use Rattle.gx_tree.specs.declared.stmt.Level.TheVariants as level
use Rattle.gx_modes.specs.declared.modes.Mode.{Mode}
use Rattle.gx_modes.specs.declared.modes.Mode.TheVariants as mode
use Rattle.gx_grammar.specs.declared.fault.Limits.{Limits}
use Rattle.gx_grammar.specs.declared.syn.Syn.{Syn}
use Rattle.gx_grammar.specs.Rules.{one, both, maybe, made, either, behind, marked, one_at, both_at, maybe_at, made_at, either_at, behind_at}
use Rattle.gx_grammar.specs.Tokens.{is_word, is_sign, listed, listed_at, enclosed, enclosed_at}
use Rattle.gx_grammar.specs.Grammar.{expr}
use Rattle.gx_grammar.specs.Machine.{expr_at}
use Rattle.gx_grammar.proofs.Good.{Good, Always, Heads, NotHeads}
use Rattle.gx_grammar.proofs.Parts.{one_good, both_good, made_good, behind_good, marked_class, maybe_good}
use Rattle.gx_lines.specs.declared.syn.AssignSyn.{AssignSyn}
use Rattle.gx_lines.specs.declared.syn.StmtSyn.{StmtSyn}
use Rattle.gx_lines.specs.declared.syn.StmtSyn.TheVariants as stmt_syn
use Rattle.gx_lines.specs.Classes.{strength_of}
use Rattle.gx_lines.specs.Queries.{name, name_at, items, where_part, where_at, to_select, select, select_at}
use Rattle.gx_lines.specs.Statements.{level_words, level_at, level_or, isolation_at, begin, begin_at, commit, commit_at, rollback, rollback_at, to_tuple, tuple, tuple_at, to_insert, insert, insert_at, to_assign, assign, assign_at, to_update, update, update_at, to_delete, delete, delete_at, access, access_at, row, row_at, share_or, share_end, share_end_at, begins_share_end, share_at, exclusive_at, mode_words, mode_at, to_lock, lock, lock_at, stmt, stmt_at}
use Rattle.gx_lines.proofs.Told.{word_is}
use Rattle.gx_lines.proofs.Classing.{strength_class}
use Rattle.gx_lines.proofs.Follow.{OneOf, Next, First, each_of, first_as, first_one, first_both, first_made, first_behind, first_either, marked_true, under, anywhere, next_not, first_next, listed_good, enclosed_good, maybe_word_good, maybe_word_next, choice_good, choice_first}
use Rattle.gx_lines.proofs.QueryGood.{name_good, expr_before, where_good, select_good, at_end, from_end}

-- a word alone, and what it begins with
word_good : (w : Word) → is_word w (token.Word w) ≡ true → Good (λ d. one (marked (is_word w))) Always (λ d. one_at (marked (is_word w)))
word_good w e = one_good (λ d. marked (is_word w)) (marked_class (is_word w) (token.Word w) e)

abbrev Begins : Word → List Token → Type 0
Begins w us = First (λ y. y ≡ token.Word w) us

word_begins : (w : Word) (x : Unit {0}) (us : List Token) → one (marked (is_word w)) x us → Begins w us
word_begins w x us q = first_one (marked (is_word w)) (λ y. y ≡ token.Word w) x us (λ y k. word_is w y (marked_true (is_word w) y x k)) q

behind_begins : {A : Type 0} (w : Word) (g : A → List Token → Type 0) (x : A) (us : List Token) → behind (is_word w) g x us → Begins w us
behind_begins w g x us q = first_behind (is_word w) g (λ y. y ≡ token.Word w) x us (λ y k. word_is w y k) q

made_begins : {A B : Type 0} (w : Word) (f : A → B) (g : A → List Token → Type 0) → ((a : A) (us : List Token) → g a us → Begins w us) → (b : B) (us : List Token) → made f g b us → Begins w us
made_begins w f g h b us q = first_made f g (λ y. y ≡ token.Word w) b us h q

both_begins : {A B : Type 0} (w : Word) (g : A → List Token → Type 0) (h : B → List Token → Type 0) → ((a : A) (us : List Token) → g a us → Begins w us) → (p : A × B) (us : List Token) → both g h p us → Begins w us
both_begins w g h f p us q = first_both g h (λ y. y ≡ token.Word w) p us f q

-- a last alternative
one_of : (w : Word) (us : List Token) → Begins w us → First (λ y. OneOf (token.Word w ∷ []) y) us
one_of w us b = first_as (λ y. y ≡ token.Word w) (λ y. OneOf (token.Word w ∷ []) y) us (λ y e. inl e) b

-- LEVELS
abbrev read_rule : Level → List Token → Type 0
read_rule = made (λ _. level.ReadCommitted) (behind (is_word word.Read) (one (marked (is_word word.Committed))))

abbrev repeatable_rule : Level → List Token → Type 0
repeatable_rule = made (λ _. level.RepeatableRead) (behind (is_word word.Repeatable) (one (marked (is_word word.Read))))

level_good : Good (λ d. level_words) Always (λ d. level_at)
level_good = choice_good word.Read (token.Word word.Repeatable ∷ []) (λ d. read_rule) (λ d. repeatable_rule) Always (λ d. made_at (λ _. level.ReadCommitted) (behind_at (is_word word.Read) (one_at (marked (is_word word.Committed))))) (λ d. made_at (λ _. level.RepeatableRead) (behind_at (is_word word.Repeatable) (one_at (marked (is_word word.Read))))) (refl, tt)
    (made_good (λ (u : Unit {0}). level.ReadCommitted) (λ d. behind (is_word word.Read) (one (marked (is_word word.Committed)))) Always (λ d. behind_at (is_word word.Read) (one_at (marked (is_word word.Committed)))) (behind_good (is_word word.Read) (token.Word word.Read) refl (λ d. one (marked (is_word word.Committed))) Always (λ d. one_at (marked (is_word word.Committed))) (word_good word.Committed refl)))
    (made_good (λ (u : Unit {0}). level.RepeatableRead) (λ d. behind (is_word word.Repeatable) (one (marked (is_word word.Read)))) Always (λ d. behind_at (is_word word.Repeatable) (one_at (marked (is_word word.Read)))) (behind_good (is_word word.Repeatable) (token.Word word.Repeatable) refl (λ d. one (marked (is_word word.Read))) Always (λ d. one_at (marked (is_word word.Read))) (word_good word.Read refl)))
    (λ d x us q. made_begins word.Read (λ (u : Unit {0}). level.ReadCommitted) (behind (is_word word.Read) (one (marked (is_word word.Committed)))) (behind_begins word.Read (one (marked (is_word word.Committed)))) x us q)
    (λ d x us q. one_of word.Repeatable us (made_begins word.Repeatable (λ (u : Unit {0}). level.RepeatableRead) (behind (is_word word.Repeatable) (one (marked (is_word word.Read)))) (behind_begins word.Repeatable (one (marked (is_word word.Read)))) x us q)) refl

abbrev isolation : Limits → Level → List Token → Type 0
isolation d = behind (is_word word.Level) level_words

isolation_good : Good (λ d. maybe (behind (is_word word.Isolation) (isolation d))) (Next at_end) (λ d. isolation_at)
isolation_good = maybe_word_good word.Isolation isolation (λ d. behind_at (is_word word.Level) level_at) at_end (refl, tt)
    (behind_good (is_word word.Isolation) (token.Word word.Isolation) refl isolation (Next at_end) (λ d. behind_at (is_word word.Level) level_at)
    (behind_good (is_word word.Level) (token.Word word.Level) refl (λ d. level_words) (Next at_end) (λ d. level_at) (anywhere (λ d. level_words) (λ d. level_at) (Next at_end) level_good)))

-- STATEMENTS, each with the word that it begins with
begin_good : Good (λ d. begin) (Next at_end) (λ d. begin_at)
begin_good = made_good level_or (λ d. behind (is_word word.Begin) (maybe (behind (is_word word.Isolation) (isolation d)))) (Next at_end) (λ d. behind_at (is_word word.Begin) isolation_at)
    (behind_good (is_word word.Begin) (token.Word word.Begin) refl (λ d. maybe (behind (is_word word.Isolation) (isolation d))) (Next at_end) (λ d. isolation_at) isolation_good)

begin_begins : (x : StmtSyn) (us : List Token) → begin x us → Begins word.Begin us
begin_begins = made_begins word.Begin level_or (behind (is_word word.Begin) (maybe (behind (is_word word.Isolation) (behind (is_word word.Level) level_words)))) (behind_begins word.Begin (maybe (behind (is_word word.Isolation) (behind (is_word word.Level) level_words))))

commit_good : Good (λ d. commit) (Next at_end) (λ d. commit_at)
commit_good = anywhere (λ d. commit) (λ d. commit_at) (Next at_end) (made_good (λ (u : Unit {0}). stmt_syn.Commit) (λ d. one (marked (is_word word.Commit))) Always (λ d. one_at (marked (is_word word.Commit))) (word_good word.Commit refl))

commit_begins : (x : StmtSyn) (us : List Token) → commit x us → Begins word.Commit us
commit_begins = made_begins word.Commit (λ (u : Unit {0}). stmt_syn.Commit) (one (marked (is_word word.Commit))) (word_begins word.Commit)

rollback_good : Good (λ d. rollback) (Next at_end) (λ d. rollback_at)
rollback_good = anywhere (λ d. rollback) (λ d. rollback_at) (Next at_end) (made_good (λ (u : Unit {0}). stmt_syn.Rollback) (λ d. one (marked (is_word word.Rollback))) Always (λ d. one_at (marked (is_word word.Rollback))) (word_good word.Rollback refl))

rollback_begins : (x : StmtSyn) (us : List Token) → rollback x us → Begins word.Rollback us
rollback_begins = made_begins word.Rollback (λ (u : Unit {0}). stmt_syn.Rollback) (one (marked (is_word word.Rollback))) (word_begins word.Rollback)

selection_good : Good (λ d. made stmt_syn.Select (select d)) (Next at_end) (λ d. made_at stmt_syn.Select (select_at d))
selection_good = made_good stmt_syn.Select select (Next at_end) select_at select_good

selection_begins : (d : Limits) (x : StmtSyn) (us : List Token) → made stmt_syn.Select (select d) x us → Begins word.Select us
selection_begins d = made_begins word.Select stmt_syn.Select (select d) (λ a us q. first_made to_select (both (behind (is_word word.Select) (items d)) (from_end d)) (λ y. y ≡ token.Word word.Select) a us (λ p vs w. first_both (behind (is_word word.Select) (items d)) (from_end d) (λ y. y ≡ token.Word word.Select) p vs (behind_begins word.Select (items d)) w) q)

abbrev close_only : List Token
close_only = token.Symbol symbol.Close ∷ []

tuple_good : Good tuple Always tuple_at
tuple_good = made_good to_tuple (λ d. enclosed (listed (expr d))) Always (λ d. enclosed_at (listed_at (expr_at d)))
    (enclosed_good (λ d. listed (expr d)) (λ d. listed_at (expr_at d)) (listed_good expr expr_at close_only (expr_before (token.Symbol symbol.Comma ∷ close_only) (refl, (refl, tt))) (refl, tt)))

abbrev into : Limits → List ℕ → List Token → Type 0
into d = behind (is_word word.Insert) (behind (is_word word.Into) (name d))

into_good : Good into Always (λ d. behind_at (is_word word.Insert) (behind_at (is_word word.Into) (name_at d)))
into_good = behind_good (is_word word.Insert) (token.Word word.Insert) refl (λ d. behind (is_word word.Into) (name d)) Always (λ d. behind_at (is_word word.Into) (name_at d)) (behind_good (is_word word.Into) (token.Word word.Into) refl name Always name_at name_good)

insert_good : Good insert (Next at_end) insert_at
insert_good = made_good to_insert (λ d. both (into d) (behind (is_word word.Values) (listed (tuple d)))) (Next at_end) (λ d. both_at (behind_at (is_word word.Insert) (behind_at (is_word word.Into) (name_at d))) (behind_at (is_word word.Values) (listed_at (tuple_at d))))
    (both_good into (λ d. behind (is_word word.Values) (listed (tuple d))) Always (Next at_end) (λ d. behind_at (is_word word.Insert) (behind_at (is_word word.Into) (name_at d))) (λ d. behind_at (is_word word.Values) (listed_at (tuple_at d))) into_good
    (behind_good (is_word word.Values) (token.Word word.Values) refl (λ d. listed (tuple d)) (Next at_end) (λ d. listed_at (tuple_at d)) (listed_good tuple tuple_at at_end (anywhere tuple tuple_at (Next (token.Symbol symbol.Comma ∷ at_end)) tuple_good) (refl, tt)))
    (λ d b us rest q n. tt))

insert_begins : (d : Limits) (x : StmtSyn) (us : List Token) → insert d x us → Begins word.Insert us
insert_begins d = made_begins word.Insert to_insert (both (into d) (behind (is_word word.Values) (listed (tuple d)))) (both_begins word.Insert (into d) (behind (is_word word.Values) (listed (tuple d))) (behind_begins word.Insert (behind (is_word word.Into) (name d))))

abbrev at_where : List Token
at_where = token.Word word.Where ∷ at_end

assign_good : Good assign (Next (token.Symbol symbol.Comma ∷ at_where)) assign_at
assign_good = made_good to_assign (λ d. both (name d) (behind (is_sign symbol.Equal) (expr d))) (Next (token.Symbol symbol.Comma ∷ at_where)) (λ d. both_at (name_at d) (behind_at (is_sign symbol.Equal) (expr_at d)))
    (both_good name (λ d. behind (is_sign symbol.Equal) (expr d)) Always (Next (token.Symbol symbol.Comma ∷ at_where)) name_at (λ d. behind_at (is_sign symbol.Equal) (expr_at d)) name_good
    (behind_good (is_sign symbol.Equal) (token.Symbol symbol.Equal) refl expr (Next (token.Symbol symbol.Comma ∷ at_where)) expr_at (expr_before (token.Symbol symbol.Comma ∷ at_where) (refl, (refl, (refl, tt)))))
    (λ d b us rest q n. tt))

where_end_good : Good where_part (Next at_end) where_at
where_end_good = where_good at_end (refl, tt) (refl, tt)

where_next : (d : Limits) (x : Option Syn) (us rest : List Token) → where_part d x us → Next at_end rest → Next at_where (us ++ rest)
where_next = maybe_word_next word.Where expr expr_at at_end (refl, tt)

abbrev set_part : Limits → List AssignSyn → List Token → Type 0
set_part d = behind (is_word word.Set) (listed (assign d))

set_good : Good set_part (Next at_where) (λ d. behind_at (is_word word.Set) (listed_at (assign_at d)))
set_good = behind_good (is_word word.Set) (token.Word word.Set) refl (λ d. listed (assign d)) (Next at_where) (λ d. listed_at (assign_at d)) (listed_good assign assign_at at_where assign_good (refl, (refl, tt)))

update_good : Good update (Next at_end) update_at
update_good = made_good to_update (λ d. both (behind (is_word word.Update) (name d)) (both (set_part d) (where_part d))) (Next at_end) (λ d. both_at (behind_at (is_word word.Update) (name_at d)) (both_at (behind_at (is_word word.Set) (listed_at (assign_at d))) (where_at d)))
    (both_good (λ d. behind (is_word word.Update) (name d)) (λ d. both (set_part d) (where_part d)) Always (Next at_end) (λ d. behind_at (is_word word.Update) (name_at d)) (λ d. both_at (behind_at (is_word word.Set) (listed_at (assign_at d))) (where_at d))
    (behind_good (is_word word.Update) (token.Word word.Update) refl name Always name_at name_good)
    (both_good set_part where_part (Next at_where) (Next at_end) (λ d. behind_at (is_word word.Set) (listed_at (assign_at d))) where_at set_good where_end_good where_next)
    (λ d b us rest q n. tt))

update_begins : (d : Limits) (x : StmtSyn) (us : List Token) → update d x us → Begins word.Update us
update_begins d = made_begins word.Update to_update (both (behind (is_word word.Update) (name d)) (both (set_part d) (where_part d))) (both_begins word.Update (behind (is_word word.Update) (name d)) (both (set_part d) (where_part d)) (behind_begins word.Update (name d)))

abbrev from_part : Limits → List ℕ → List Token → Type 0
from_part d = behind (is_word word.Delete) (behind (is_word word.From) (name d))

from_good : Good from_part Always (λ d. behind_at (is_word word.Delete) (behind_at (is_word word.From) (name_at d)))
from_good = behind_good (is_word word.Delete) (token.Word word.Delete) refl (λ d. behind (is_word word.From) (name d)) Always (λ d. behind_at (is_word word.From) (name_at d)) (behind_good (is_word word.From) (token.Word word.From) refl name Always name_at name_good)

delete_good : Good delete (Next at_end) delete_at
delete_good = made_good to_delete (λ d. both (from_part d) (where_part d)) (Next at_end) (λ d. both_at (behind_at (is_word word.Delete) (behind_at (is_word word.From) (name_at d))) (where_at d))
    (both_good from_part where_part Always (Next at_end) (λ d. behind_at (is_word word.Delete) (behind_at (is_word word.From) (name_at d))) where_at from_good where_end_good (λ d b us rest q n. tt))

delete_begins : (d : Limits) (x : StmtSyn) (us : List Token) → delete d x us → Begins word.Delete us
delete_begins d = made_begins word.Delete to_delete (both (from_part d) (where_part d)) (both_begins word.Delete (from_part d) (where_part d) (behind_begins word.Delete (behind (is_word word.From) (name d))))

-- MODES
abbrev at_mode : List Token
at_mode = token.Word word.Mode ∷ []

abbrev access_rule : Mode → List Token → Type 0
access_rule = made access (behind (is_word word.Access) (one strength_of))

abbrev row_rule : Mode → List Token → Type 0
row_rule = made row (behind (is_word word.Row) (one strength_of))

abbrev share_rule : Mode → List Token → Type 0
share_rule = made share_or (behind (is_word word.Share) (maybe share_end))

abbrev exclusive_rule : Mode → List Token → Type 0
exclusive_rule = made (λ _. mode.Exclusive) (one (marked (is_word word.Exclusive)))

strength_good : Good (λ d. one strength_of) (Next at_mode) (λ d. one_at strength_of)
strength_good = anywhere (λ d. one strength_of) (λ d. one_at strength_of) (Next at_mode) (one_good (λ d. strength_of) strength_class)

access_good : Good (λ d. access_rule) (Next at_mode) (λ d. access_at)
access_good = made_good access (λ d. behind (is_word word.Access) (one strength_of)) (Next at_mode) (λ d. behind_at (is_word word.Access) (one_at strength_of)) (behind_good (is_word word.Access) (token.Word word.Access) refl (λ d. one strength_of) (Next at_mode) (λ d. one_at strength_of) strength_good)

row_good : Good (λ d. row_rule) (Next at_mode) (λ d. row_at)
row_good = made_good row (λ d. behind (is_word word.Row) (one strength_of)) (Next at_mode) (λ d. behind_at (is_word word.Row) (one_at strength_of)) (behind_good (is_word word.Row) (token.Word word.Row) refl (λ d. one strength_of) (Next at_mode) (λ d. one_at strength_of) strength_good)

exclusive_good : Good (λ d. exclusive_rule) (Next at_mode) (λ d. exclusive_at)
exclusive_good = anywhere (λ d. exclusive_rule) (λ d. exclusive_at) (Next at_mode) (made_good (λ (u : Unit {0}). mode.Exclusive) (λ d. one (marked (is_word word.Exclusive))) Always (λ d. one_at (marked (is_word word.Exclusive))) (word_good word.Exclusive refl))

abbrev update_end : Mode → List Token → Type 0
update_end = made (λ _. mode.ShareUpdateExclusive) (behind (is_word word.Update) (one (marked (is_word word.Exclusive))))

abbrev row_end : Mode → List Token → Type 0
row_end = made (λ _. mode.ShareRowExclusive) (behind (is_word word.Row) (one (marked (is_word word.Exclusive))))

update_end_begins : (x : Mode) (us : List Token) → update_end x us → Begins word.Update us
update_end_begins = made_begins word.Update (λ (u : Unit {0}). mode.ShareUpdateExclusive) (behind (is_word word.Update) (one (marked (is_word word.Exclusive)))) (behind_begins word.Update (one (marked (is_word word.Exclusive))))

row_end_begins : (x : Mode) (us : List Token) → row_end x us → Begins word.Row us
row_end_begins = made_begins word.Row (λ (u : Unit {0}). mode.ShareRowExclusive) (behind (is_word word.Row) (one (marked (is_word word.Exclusive)))) (behind_begins word.Row (one (marked (is_word word.Exclusive))))

share_end_good : Good (λ d. share_end) Always (λ d. share_end_at)
share_end_good = choice_good word.Update (token.Word word.Row ∷ []) (λ d. update_end) (λ d. row_end) Always (λ d. made_at (λ _. mode.ShareUpdateExclusive) (behind_at (is_word word.Update) (one_at (marked (is_word word.Exclusive))))) (λ d. made_at (λ _. mode.ShareRowExclusive) (behind_at (is_word word.Row) (one_at (marked (is_word word.Exclusive))))) (refl, tt)
    (made_good (λ (u : Unit {0}). mode.ShareUpdateExclusive) (λ d. behind (is_word word.Update) (one (marked (is_word word.Exclusive)))) Always (λ d. behind_at (is_word word.Update) (one_at (marked (is_word word.Exclusive)))) (behind_good (is_word word.Update) (token.Word word.Update) refl (λ d. one (marked (is_word word.Exclusive))) Always (λ d. one_at (marked (is_word word.Exclusive))) (word_good word.Exclusive refl)))
    (made_good (λ (u : Unit {0}). mode.ShareRowExclusive) (λ d. behind (is_word word.Row) (one (marked (is_word word.Exclusive)))) Always (λ d. behind_at (is_word word.Row) (one_at (marked (is_word word.Exclusive)))) (behind_good (is_word word.Row) (token.Word word.Row) refl (λ d. one (marked (is_word word.Exclusive))) Always (λ d. one_at (marked (is_word word.Exclusive))) (word_good word.Exclusive refl)))
    (λ d x us q. update_end_begins x us q) (λ d x us q. one_of word.Row us (row_end_begins x us q)) refl

first_heads : (is : Token → Bool) (us : List Token) → First (λ y. is y ≡ true) us → Heads is us
first_heads is [] h = absurd h
first_heads is (y ∷ us) h = h

share_end_first : (x : Mode) (us : List Token) → share_end x us → First (λ y. OneOf (token.Word word.Update ∷ token.Word word.Row ∷ []) y) us
share_end_first x us q = first_either update_end row_end (λ y. OneOf (token.Word word.Update ∷ token.Word word.Row ∷ []) y) x us
    (λ w. first_as (λ y. y ≡ token.Word word.Update) (λ y. OneOf (token.Word word.Update ∷ token.Word word.Row ∷ []) y) us (λ y e. inl e) (update_end_begins x us w))
    (λ w. first_as (λ y. y ≡ token.Word word.Row) (λ y. OneOf (token.Word word.Update ∷ token.Word word.Row ∷ []) y) us (λ y e. inr (inl e)) (row_end_begins x us w)) q

share_end_heads : (x : Mode) (us : List Token) → share_end x us → Heads begins_share_end us
share_end_heads x us q = first_heads begins_share_end us (first_as (λ y. OneOf (token.Word word.Update ∷ token.Word word.Row ∷ []) y) (λ y. begins_share_end y ≡ true) us (λ y o. each_of (λ y. begins_share_end y ≡ true) (token.Word word.Update ∷ token.Word word.Row ∷ []) y (refl, (refl, tt)) o) (share_end_first x us q))

share_good : Good (λ d. share_rule) (Next at_mode) (λ d. share_at)
share_good = made_good share_or (λ d. behind (is_word word.Share) (maybe share_end)) (Next at_mode) (λ d. behind_at (is_word word.Share) (maybe_at begins_share_end share_end_at))
    (behind_good (is_word word.Share) (token.Word word.Share) refl (λ d. maybe share_end) (Next at_mode) (λ d. maybe_at begins_share_end share_end_at)
    (under (λ d. maybe share_end) (λ d. maybe_at begins_share_end share_end_at) (λ rest. Always rest × NotHeads begins_share_end rest) (Next at_mode)
    (maybe_good begins_share_end (λ d. share_end) Always (λ d. share_end_at) share_end_good (λ d a us q. share_end_heads a us q))
    (λ rest n. (tt, next_not begins_share_end at_mode (refl, tt) rest n))))

access_begins : (x : Mode) (us : List Token) → access_rule x us → Begins word.Access us
access_begins = made_begins word.Access access (behind (is_word word.Access) (one strength_of)) (behind_begins word.Access (one strength_of))

row_begins : (x : Mode) (us : List Token) → row_rule x us → Begins word.Row us
row_begins = made_begins word.Row row (behind (is_word word.Row) (one strength_of)) (behind_begins word.Row (one strength_of))

share_begins : (x : Mode) (us : List Token) → share_rule x us → Begins word.Share us
share_begins = made_begins word.Share share_or (behind (is_word word.Share) (maybe share_end)) (behind_begins word.Share (maybe share_end))

exclusive_begins : (x : Mode) (us : List Token) → exclusive_rule x us → Begins word.Exclusive us
exclusive_begins = made_begins word.Exclusive (λ (u : Unit {0}). mode.Exclusive) (one (marked (is_word word.Exclusive))) (word_begins word.Exclusive)

abbrev mode1 : Mode → List Token → Type 0
mode1 = either share_rule exclusive_rule

abbrev mode2 : Mode → List Token → Type 0
mode2 = either row_rule mode1

abbrev first1 : List Token
first1 = token.Word word.Exclusive ∷ []

abbrev first2 : List Token
first2 = token.Word word.Share ∷ first1

abbrev first3 : List Token
first3 = token.Word word.Row ∷ first2

begins1 : (d : Limits) (x : Mode) (us : List Token) → exclusive_rule x us → First (λ y. OneOf first1 y) us
begins1 d x us q = one_of word.Exclusive us (exclusive_begins x us q)

begins2 : (d : Limits) (x : Mode) (us : List Token) → mode1 x us → First (λ y. OneOf first2 y) us
begins2 = choice_first word.Share first1 (λ d. share_rule) (λ d. exclusive_rule) Always (λ d. share_at) (λ d. exclusive_at) (refl, tt) (λ d. share_begins) begins1

begins3 : (d : Limits) (x : Mode) (us : List Token) → mode2 x us → First (λ y. OneOf first3 y) us
begins3 = choice_first word.Row first2 (λ d. row_rule) (λ d. mode1) Always (λ d. row_at) (λ d. either_at (is_word word.Share) share_at exclusive_at) (refl, (refl, tt)) (λ d. row_begins) begins2

mode_good : Good (λ d. mode_words) (Next at_mode) (λ d. mode_at)
mode_good = choice_good word.Access first3 (λ d. access_rule) (λ d. mode2) (Next at_mode) (λ d. access_at) (λ d. either_at (is_word word.Row) row_at (either_at (is_word word.Share) share_at exclusive_at)) (refl, (refl, (refl, tt))) access_good
    (choice_good word.Row first2 (λ d. row_rule) (λ d. mode1) (Next at_mode) (λ d. row_at) (λ d. either_at (is_word word.Share) share_at exclusive_at) (refl, (refl, tt)) row_good
    (choice_good word.Share first1 (λ d. share_rule) (λ d. exclusive_rule) (Next at_mode) (λ d. share_at) (λ d. exclusive_at) (refl, tt) share_good exclusive_good (λ d. share_begins) begins1 refl)
    (λ d. row_begins) begins2 refl)
    (λ d. access_begins) begins3 refl

abbrev lock_part : Limits → List ℕ → List Token → Type 0
lock_part d = behind (is_word word.Lock) (behind (is_word word.Table) (name d))

abbrev in_part : Limits → Mode × Unit {0} → List Token → Type 0
in_part d = both (behind (is_word word.In) mode_words) (one (marked (is_word word.Mode)))

in_good : Good in_part Always (λ d. both_at (behind_at (is_word word.In) mode_at) (one_at (marked (is_word word.Mode))))
in_good = both_good (λ d. behind (is_word word.In) mode_words) (λ d. one (marked (is_word word.Mode))) (Next at_mode) Always (λ d. behind_at (is_word word.In) mode_at) (λ d. one_at (marked (is_word word.Mode)))
    (behind_good (is_word word.In) (token.Word word.In) refl (λ d. mode_words) (Next at_mode) (λ d. mode_at) mode_good) (word_good word.Mode refl)
    (λ d b us rest q n. first_next at_mode us rest (one_of word.Mode us (word_begins word.Mode b us q)))

lock_good : Good lock (Next at_end) lock_at
lock_good = anywhere lock lock_at (Next at_end) (made_good to_lock (λ d. both (lock_part d) (in_part d)) Always (λ d. both_at (behind_at (is_word word.Lock) (behind_at (is_word word.Table) (name_at d))) (both_at (behind_at (is_word word.In) mode_at) (one_at (marked (is_word word.Mode)))))
    (both_good lock_part in_part Always Always (λ d. behind_at (is_word word.Lock) (behind_at (is_word word.Table) (name_at d))) (λ d. both_at (behind_at (is_word word.In) mode_at) (one_at (marked (is_word word.Mode))))
    (behind_good (is_word word.Lock) (token.Word word.Lock) refl (λ d. behind (is_word word.Table) (name d)) Always (λ d. behind_at (is_word word.Table) (name_at d)) (behind_good (is_word word.Table) (token.Word word.Table) refl name Always name_at name_good))
    in_good (λ d b us rest q n. tt)))

lock_begins : (d : Limits) (x : StmtSyn) (us : List Token) → lock d x us → Begins word.Lock us
lock_begins d = made_begins word.Lock to_lock (both (lock_part d) (in_part d)) (both_begins word.Lock (lock_part d) (in_part d) (behind_begins word.Lock (behind (is_word word.Table) (name d))))

-- THE CHOICE
abbrev stmt1 : Limits → StmtSyn → List Token → Type 0
stmt1 d = either (delete d) (lock d)

abbrev stmt2 : Limits → StmtSyn → List Token → Type 0
stmt2 d = either (update d) (stmt1 d)

abbrev stmt3 : Limits → StmtSyn → List Token → Type 0
stmt3 d = either (insert d) (stmt2 d)

abbrev stmt4 : Limits → StmtSyn → List Token → Type 0
stmt4 d = either (made stmt_syn.Select (select d)) (stmt3 d)

abbrev stmt5 : Limits → StmtSyn → List Token → Type 0
stmt5 d = either rollback (stmt4 d)

abbrev stmt6 : Limits → StmtSyn → List Token → Type 0
stmt6 d = either commit (stmt5 d)

abbrev words1 : List Token
words1 = token.Word word.Lock ∷ []

abbrev words2 : List Token
words2 = token.Word word.Delete ∷ words1

abbrev words3 : List Token
words3 = token.Word word.Update ∷ words2

abbrev words4 : List Token
words4 = token.Word word.Insert ∷ words3

abbrev words5 : List Token
words5 = token.Word word.Select ∷ words4

abbrev words6 : List Token
words6 = token.Word word.Rollback ∷ words5

abbrev words7 : List Token
words7 = token.Word word.Commit ∷ words6

heads1 : (d : Limits) (x : StmtSyn) (us : List Token) → lock d x us → First (λ y. OneOf words1 y) us
heads1 d x us q = one_of word.Lock us (lock_begins d x us q)

heads2 : (d : Limits) (x : StmtSyn) (us : List Token) → stmt1 d x us → First (λ y. OneOf words2 y) us
heads2 = choice_first word.Delete words1 delete lock Always delete_at lock_at (refl, tt) delete_begins heads1

heads3 : (d : Limits) (x : StmtSyn) (us : List Token) → stmt2 d x us → First (λ y. OneOf words3 y) us
heads3 = choice_first word.Update words2 update stmt1 Always update_at lock_at (refl, (refl, tt)) update_begins heads2

heads4 : (d : Limits) (x : StmtSyn) (us : List Token) → stmt3 d x us → First (λ y. OneOf words4 y) us
heads4 = choice_first word.Insert words3 insert stmt2 Always insert_at lock_at (refl, (refl, (refl, tt))) insert_begins heads3

heads5 : (d : Limits) (x : StmtSyn) (us : List Token) → stmt4 d x us → First (λ y. OneOf words5 y) us
heads5 = choice_first word.Select words4 (λ d. made stmt_syn.Select (select d)) stmt3 Always lock_at lock_at (refl, (refl, (refl, (refl, tt)))) selection_begins heads4

heads6 : (d : Limits) (x : StmtSyn) (us : List Token) → stmt5 d x us → First (λ y. OneOf words6 y) us
heads6 = choice_first word.Rollback words5 (λ d. rollback) stmt4 Always lock_at lock_at (refl, (refl, (refl, (refl, (refl, tt))))) (λ d. rollback_begins) heads5

heads7 : (d : Limits) (x : StmtSyn) (us : List Token) → stmt6 d x us → First (λ y. OneOf words7 y) us
heads7 = choice_first word.Commit words6 (λ d. commit) stmt5 Always lock_at lock_at (refl, (refl, (refl, (refl, (refl, (refl, tt)))))) (λ d. commit_begins) heads6

good1 : Good stmt1 (Next at_end) (λ d. either_at (is_word word.Delete) (delete_at d) (lock_at d))
good1 = choice_good word.Delete words1 delete lock (Next at_end) delete_at lock_at (refl, tt) delete_good lock_good delete_begins heads1 refl

good2 : Good stmt2 (Next at_end) (λ d. either_at (is_word word.Update) (update_at d) (either_at (is_word word.Delete) (delete_at d) (lock_at d)))
good2 = choice_good word.Update words2 update stmt1 (Next at_end) update_at (λ d. either_at (is_word word.Delete) (delete_at d) (lock_at d)) (refl, (refl, tt)) update_good good1 update_begins heads2 refl

good3 : Good stmt3 (Next at_end) (λ d. either_at (is_word word.Insert) (insert_at d) (either_at (is_word word.Update) (update_at d) (either_at (is_word word.Delete) (delete_at d) (lock_at d))))
good3 = choice_good word.Insert words3 insert stmt2 (Next at_end) insert_at (λ d. either_at (is_word word.Update) (update_at d) (either_at (is_word word.Delete) (delete_at d) (lock_at d))) (refl, (refl, (refl, tt))) insert_good good2 insert_begins heads3 refl

good4 : Good stmt4 (Next at_end) (λ d. either_at (is_word word.Select) (made_at stmt_syn.Select (select_at d)) (either_at (is_word word.Insert) (insert_at d) (either_at (is_word word.Update) (update_at d) (either_at (is_word word.Delete) (delete_at d) (lock_at d)))))
good4 = choice_good word.Select words4 (λ d. made stmt_syn.Select (select d)) stmt3 (Next at_end) (λ d. made_at stmt_syn.Select (select_at d)) (λ d. either_at (is_word word.Insert) (insert_at d) (either_at (is_word word.Update) (update_at d) (either_at (is_word word.Delete) (delete_at d) (lock_at d)))) (refl, (refl, (refl, (refl, tt)))) selection_good good3 selection_begins heads4 refl

good5 : Good stmt5 (Next at_end) (λ d. either_at (is_word word.Rollback) rollback_at (either_at (is_word word.Select) (made_at stmt_syn.Select (select_at d)) (either_at (is_word word.Insert) (insert_at d) (either_at (is_word word.Update) (update_at d) (either_at (is_word word.Delete) (delete_at d) (lock_at d))))))
good5 = choice_good word.Rollback words5 (λ d. rollback) stmt4 (Next at_end) (λ d. rollback_at) (λ d. either_at (is_word word.Select) (made_at stmt_syn.Select (select_at d)) (either_at (is_word word.Insert) (insert_at d) (either_at (is_word word.Update) (update_at d) (either_at (is_word word.Delete) (delete_at d) (lock_at d))))) (refl, (refl, (refl, (refl, (refl, tt))))) rollback_good good4 (λ d. rollback_begins) heads5 refl

good6 : Good stmt6 (Next at_end) (λ d. either_at (is_word word.Commit) commit_at (either_at (is_word word.Rollback) rollback_at (either_at (is_word word.Select) (made_at stmt_syn.Select (select_at d)) (either_at (is_word word.Insert) (insert_at d) (either_at (is_word word.Update) (update_at d) (either_at (is_word word.Delete) (delete_at d) (lock_at d)))))))
good6 = choice_good word.Commit words6 (λ d. commit) stmt5 (Next at_end) (λ d. commit_at) (λ d. either_at (is_word word.Rollback) rollback_at (either_at (is_word word.Select) (made_at stmt_syn.Select (select_at d)) (either_at (is_word word.Insert) (insert_at d) (either_at (is_word word.Update) (update_at d) (either_at (is_word word.Delete) (delete_at d) (lock_at d)))))) (refl, (refl, (refl, (refl, (refl, (refl, tt)))))) commit_good good5 (λ d. commit_begins) heads6 refl

pub stmt_good : Good stmt (Next at_end) stmt_at
stmt_good = choice_good word.Begin words7 (λ d. begin) stmt6 (Next at_end) (λ d. begin_at) (λ d. either_at (is_word word.Commit) commit_at (either_at (is_word word.Rollback) rollback_at (either_at (is_word word.Select) (made_at stmt_syn.Select (select_at d)) (either_at (is_word word.Insert) (insert_at d) (either_at (is_word word.Update) (update_at d) (either_at (is_word word.Delete) (delete_at d) (lock_at d))))))) (refl, (refl, (refl, (refl, (refl, (refl, (refl, tt))))))) begin_good good6 (λ d. begin_begins) heads7 refl
