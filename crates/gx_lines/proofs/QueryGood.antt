-- The reader of SELECT reads its rule.
use Rattle.std.proofs.Common.{◌≡◌, inl, ℕ, Bool, true, false, List, [], ◌∷◌, ◌++◌, Option, None, refl, sym, subst}
use Rattle.gx_lex.specs.declared.word.Word.TheVariants as word
use Rattle.gx_lex.specs.declared.symbol.Symbol.TheVariants as symbol
use Rattle.gx_lex.specs.declared.token.Token.{Token}
use Rattle.gx_lex.specs.declared.token.Token.TheVariants as token
use Rattle.gx_grammar.specs.declared.fault.Limits.{Limits}
use Rattle.gx_grammar.specs.declared.syn.Syn.{Syn}
use Rattle.gx_grammar.specs.Rules.{one, both, maybe, many, made, either, behind, marked, one_at, both_at, maybe_at, made_at, either_at, behind_at}
use Rattle.gx_grammar.specs.Tokens.{is_word, is_sign, is_comma, name_of, listed, listed_at, enclosed, enclosed_at}
use Rattle.gx_grammar.specs.Grammar.{expr}
use Rattle.gx_grammar.specs.Machine.{op_of, expr_at}
use Rattle.gx_grammar.proofs.Complete.{Ends}
use Rattle.gx_grammar.proofs.Good.{Good, Always, Heads, NotHeads}
use Rattle.gx_grammar.proofs.Parts.{one_good, both_good, made_good, behind_good, marked_class, maybe_good}
use Rattle.gx_grammar.proofs.Either.{either_good}
use Rattle.gx_grammar.proofs.ExprGood.{expr_good}
use Rattle.gx_lines.specs.declared.classes.Size.{Size}
use Rattle.gx_lines.specs.declared.syn.ItemSyn.{ItemSyn}
use Rattle.gx_lines.specs.declared.syn.ItemSyn.TheVariants as item_syn
use Rattle.gx_lines.specs.declared.syn.ItemsSyn.TheVariants as items_syn
use Rattle.gx_lines.specs.declared.syn.KeySyn.{KeySyn}
use Rattle.gx_lines.specs.Classes.{agg_of, direction_of, size_of}
use Rattle.gx_lines.specs.Queries.{name, name_at, star, star_at, count, count_at, to_agg, agg, agg_at, is_agg, item, item_at, items, items_at, to_key, key, key_at, is_direction, where_part, where_at, group_part, group_at, order_part, order_at, limit_part, limit_at, to_select, select, select_at}
use Rattle.gx_lines.proofs.Told.{word_is}
use Rattle.gx_lines.proofs.Classing.{agg_class, direction_class, size_class, name_class, agg_first, direction_first, name_first}
use Rattle.gx_lines.proofs.Follow.{OneOf, Next, Each, First, each_of, first_starts, first_one, first_both, first_made, first_behind, first_either, marked_true, under, anywhere, next_not, listed_good, enclosed_good, maybe_word_good, maybe_word_next, both_next}

pub name_good : Good name Always name_at
name_good = one_good name_of name_class

star_good : Good (λ d. star) Always (λ d. star_at)
star_good = one_good (λ d. marked (is_sign symbol.Star)) (marked_class (is_sign symbol.Star) (token.Symbol symbol.Star) refl)

pub enclosed_name_good : Good (λ d. enclosed (name d)) Always (λ d. enclosed_at (name_at d))
enclosed_name_good = enclosed_good name name_at (anywhere name name_at (Next (token.Symbol symbol.Close ∷ [])) name_good)

count_good : Good (λ d. count) Always (λ d. count_at)
count_good = made_good (λ (p : Unit {0}). item_syn.Count) (λ d. behind (is_word word.Count) (enclosed star)) Always (λ d. behind_at (is_word word.Count) (enclosed_at star_at))
    (behind_good (is_word word.Count) (token.Word word.Count) refl (λ d. enclosed star) Always (λ d. enclosed_at star_at) (enclosed_good (λ d. star) (λ d. star_at) (anywhere (λ d. star) (λ d. star_at) (Next (token.Symbol symbol.Close ∷ [])) star_good)))

agg_good : Good agg Always agg_at
agg_good = made_good to_agg (λ d. both (one agg_of) (enclosed (name d))) Always (λ d. both_at (one_at agg_of) (enclosed_at (name_at d)))
    (both_good (λ d. one agg_of) (λ d. enclosed (name d)) Always Always (λ d. one_at agg_of) (λ d. enclosed_at (name_at d)) (one_good (λ d. agg_of) agg_class) enclosed_name_good (λ d b us rest q n. tt))

column_good : Good (λ d. made item_syn.Column (name d)) Always (λ d. made_at item_syn.Column (name_at d))
column_good = made_good item_syn.Column name Always name_at name_good

count_head : (P : Token → Type 0) → P (token.Word word.Count) → (x : ItemSyn) (us : List Token) → count x us → First P us
count_head P e x us q = first_made (λ (p : Unit {0}). item_syn.Count) (behind (is_word word.Count) (enclosed star)) P x us (λ a vs w. first_behind (is_word word.Count) (enclosed star) P a vs (λ y k. subst P (sym (word_is word.Count y k)) e) w) q

agg_head : (P : Token → Type 0) → P (token.Word word.Sum) → P (token.Word word.Min) → P (token.Word word.Max) → (d : Limits) (x : ItemSyn) (us : List Token) → agg d x us → First P us
agg_head P a b c d x us q = first_made to_agg (both (one agg_of) (enclosed (name d))) P x us (λ p vs w. first_both (one agg_of) (enclosed (name d)) P p vs (λ s ws z. first_one agg_of P s ws (λ y e. agg_first P a b c y s e) z) w) q

column_head : (P : Token → Type 0) → ((n : List ℕ) → P (token.Name n)) → (d : Limits) (x : ItemSyn) (us : List Token) → made item_syn.Column (name d) x us → First P us
column_head P f d x us q = first_made item_syn.Column (name d) P x us (λ n vs w. first_one (name_of d) P n vs (λ y e. name_first P f d y n e) w) q

item_head : (P : Token → Type 0) → P (token.Word word.Count) → P (token.Word word.Sum) → P (token.Word word.Min) → P (token.Word word.Max) → ((n : List ℕ) → P (token.Name n)) → (d : Limits) (x : ItemSyn) (us : List Token) → item d x us → First P us
item_head P o a b c f d x us q = first_either count (either (agg d) (made item_syn.Column (name d))) P x us (count_head P o x us) (λ w. first_either (agg d) (made item_syn.Column (name d)) P x us (agg_head P a b c d x us) (column_head P f d x us) w) q

rest_good : Good (λ d. either (agg d) (made item_syn.Column (name d))) Always (λ d. either_at is_agg (agg_at d) (made_at item_syn.Column (name_at d)))
rest_good = either_good is_agg agg (λ d. made item_syn.Column (name d)) Always agg_at (λ d. made_at item_syn.Column (name_at d)) agg_good column_good
    (λ d x us rest q. first_starts is_agg true us rest (agg_head (λ y. is_agg y ≡ true) refl refl refl d x us q))
    (λ d x us rest q n. first_starts is_agg false us rest (column_head (λ y. is_agg y ≡ false) (λ n. refl) d x us q))

item_good : Good item Always item_at
item_good = either_good (is_word word.Count) (λ d. count) (λ d. either (agg d) (made item_syn.Column (name d))) Always (λ d. count_at) (λ d. either_at is_agg (agg_at d) (made_at item_syn.Column (name_at d))) count_good rest_good
    (λ d x us rest q. first_starts (is_word word.Count) true us rest (count_head (λ y. is_word word.Count y ≡ true) refl x us q))
    (λ d x us rest q n. first_starts (is_word word.Count) false us rest (first_either (agg d) (made item_syn.Column (name d)) (λ y. is_word word.Count y ≡ false) x us (agg_head (λ y. is_word word.Count y ≡ false) refl refl refl d x us) (column_head (λ y. is_word word.Count y ≡ false) (λ n. refl) d x us) q))

abbrev from_only : List Token
from_only = token.Word word.From ∷ []

items_good : Good items (Next from_only) items_at
items_good = either_good (is_sign symbol.Star) (λ d. made (λ _. items_syn.All) star) (λ d. made items_syn.These (listed (item d))) (Next from_only) (λ d. made_at (λ _. items_syn.All) star_at) (λ d. made_at items_syn.These (listed_at (item_at d)))
    (anywhere (λ d. made (λ _. items_syn.All) star) (λ d. made_at (λ _. items_syn.All) star_at) (Next from_only) (made_good (λ (p : Unit {0}). items_syn.All) (λ d. star) Always (λ d. star_at) star_good))
    (made_good items_syn.These (λ d. listed (item d)) (Next from_only) (λ d. listed_at (item_at d)) (listed_good item item_at from_only (anywhere item item_at (Next (token.Symbol symbol.Comma ∷ from_only)) item_good) (refl, tt)))
    (λ d x us rest q. first_starts (is_sign symbol.Star) true us rest (first_made (λ (p : Unit {0}). items_syn.All) star (λ y. is_sign symbol.Star y ≡ true) x us (λ a vs w. first_one (marked (is_sign symbol.Star)) (λ y. is_sign symbol.Star y ≡ true) a vs (λ y e. marked_true (is_sign symbol.Star) y a e) w) q))
    (λ d x us rest q n. first_starts (is_sign symbol.Star) false us rest (first_made items_syn.These (listed (item d)) (λ y. is_sign symbol.Star y ≡ false) x us
    (λ s vs w. first_made (λ (p : ItemSyn × List ItemSyn). p.0 ∷ p.1) (both (item d) (many (behind is_comma (item d)))) (λ y. is_sign symbol.Star y ≡ false) s vs
    (λ p ws z. first_both (item d) (many (behind is_comma (item d))) (λ y. is_sign symbol.Star y ≡ false) p ws (λ a ys k. item_head (λ y. is_sign symbol.Star y ≡ false) refl refl refl refl (λ n. refl) d a ys k) z) w) q))

-- keys
first_heads : (is : Token → Bool) (us : List Token) → First (λ y. is y ≡ true) us → Heads is us
first_heads is [] h = absurd h
first_heads is (y ∷ us) h = h

key_good : (ts : List Token) → Each (λ y. is_direction y ≡ false) ts → Good key (Next ts) key_at
key_good ts e = made_good to_key (λ d. both (name d) (maybe (one direction_of))) (Next ts) (λ d. both_at (name_at d) (maybe_at is_direction (one_at direction_of)))
    (both_good name (λ d. maybe (one direction_of)) Always (Next ts) name_at (λ d. maybe_at is_direction (one_at direction_of)) name_good
    (under (λ d. maybe (one direction_of)) (λ d. maybe_at is_direction (one_at direction_of)) (λ rest. Always rest × NotHeads is_direction rest) (Next ts)
    (maybe_good is_direction (λ d. one direction_of) Always (λ d. one_at direction_of) (one_good (λ d. direction_of) direction_class)
    (λ d a us q. first_heads is_direction us (first_one direction_of (λ y. is_direction y ≡ true) a us (λ y k. direction_first (λ y. is_direction y ≡ true) refl refl y a k) q)))
    (λ rest n. (tt, next_not is_direction ts e rest n)))
    (λ d b us rest q n. tt))

-- the parts of SELECT
next_ends : (ts : List Token) → Each (λ y. op_of y ≡ None) ts → (rest : List Token) → Next ts rest → Ends rest
next_ends ts e [] n = tt
next_ends ts e (y ∷ ys) n = each_of (λ y. op_of y ≡ None) ts y e n

pub expr_before : (ts : List Token) → Each (λ y. op_of y ≡ None) ts → Good expr (Next ts) expr_at
expr_before ts e = under expr expr_at Ends (Next ts) expr_good (next_ends ts e)

pub where_good : (ts : List Token) → Each (λ y. op_of y ≡ None) ts → Each (λ y. is_word word.Where y ≡ false) ts → Good where_part (Next ts) where_at
where_good ts e f = maybe_word_good word.Where expr expr_at ts f (behind_good (is_word word.Where) (token.Word word.Where) refl expr (Next ts) expr_at (expr_before ts e))

abbrev pub at_end : List Token
at_end = token.Symbol symbol.Semicolon ∷ []

abbrev at_limit : List Token
at_limit = token.Word word.Limit ∷ at_end

abbrev at_order : List Token
at_order = token.Word word.Order ∷ at_limit

abbrev at_group : List Token
at_group = token.Word word.Group ∷ at_order

limit_good : Good (λ d. limit_part) (Next at_end) (λ d. limit_at)
limit_good = maybe_word_good word.Limit (λ d. one size_of) (λ d. one_at size_of) at_end (refl, tt) (behind_good (is_word word.Limit) (token.Word word.Limit) refl (λ d. one size_of) (Next at_end) (λ d. one_at size_of) (anywhere (λ d. one size_of) (λ d. one_at size_of) (Next at_end) (one_good (λ d. size_of) size_class)))

limit_next : (d : Limits) (x : Option Size) (us rest : List Token) → limit_part x us → Next at_end rest → Next at_limit (us ++ rest)
limit_next = maybe_word_next word.Limit (λ d. one size_of) (λ d. one_at size_of) at_end (refl, tt)

abbrev keys : Limits → List KeySyn → List Token → Type 0
keys d = behind (is_word word.By) (listed (key d))

order_good : Good order_part (Next at_limit) order_at
order_good = maybe_word_good word.Order keys (λ d. behind_at (is_word word.By) (listed_at (key_at d))) at_limit (refl, (refl, tt))
    (behind_good (is_word word.Order) (token.Word word.Order) refl keys (Next at_limit) (λ d. behind_at (is_word word.By) (listed_at (key_at d)))
    (behind_good (is_word word.By) (token.Word word.By) refl (λ d. listed (key d)) (Next at_limit) (λ d. listed_at (key_at d))
    (listed_good key key_at at_limit (key_good (token.Symbol symbol.Comma ∷ at_limit) (refl, (refl, (refl, tt)))) (refl, (refl, tt)))))

order_next : (d : Limits) (x : Option (List KeySyn)) (us rest : List Token) → order_part d x us → Next at_limit rest → Next at_order (us ++ rest)
order_next = maybe_word_next word.Order keys (λ d. behind_at (is_word word.By) (listed_at (key_at d))) at_limit (refl, (refl, tt))

abbrev names : Limits → List (List ℕ) → List Token → Type 0
names d = behind (is_word word.By) (listed (name d))

group_good : Good group_part (Next at_order) group_at
group_good = maybe_word_good word.Group names (λ d. behind_at (is_word word.By) (listed_at (name_at d))) at_order (refl, (refl, (refl, tt)))
    (behind_good (is_word word.Group) (token.Word word.Group) refl names (Next at_order) (λ d. behind_at (is_word word.By) (listed_at (name_at d)))
    (behind_good (is_word word.By) (token.Word word.By) refl (λ d. listed (name d)) (Next at_order) (λ d. listed_at (name_at d))
    (listed_good name name_at at_order (anywhere name name_at (Next (token.Symbol symbol.Comma ∷ at_order)) name_good) (refl, (refl, (refl, tt))))))

group_next : (d : Limits) (x : Option (List (List ℕ))) (us rest : List Token) → group_part d x us → Next at_order rest → Next at_group (us ++ rest)
group_next = maybe_word_next word.Group names (λ d. behind_at (is_word word.By) (listed_at (name_at d))) at_order (refl, (refl, (refl, tt)))

abbrev pub order_limit : Limits → Option (List KeySyn) × Option Size → List Token → Type 0
order_limit d = both (order_part d) limit_part

order_limit_good : Good order_limit (Next at_end) (λ d. both_at (order_at d) limit_at)
order_limit_good = both_good order_part (λ d. limit_part) (Next at_limit) (Next at_end) order_at (λ d. limit_at) order_good limit_good limit_next

order_limit_next : (d : Limits) (p : Option (List KeySyn) × Option Size) (us rest : List Token) → order_limit d p us → Next at_end rest → Next at_order (us ++ rest)
order_limit_next d = both_next (order_part d) limit_part at_order at_limit at_end (order_next d) (limit_next d)

abbrev pub group_end : Limits → Option (List (List ℕ)) × (Option (List KeySyn) × Option Size) → List Token → Type 0
group_end d = both (group_part d) (order_limit d)

group_end_good : Good group_end (Next at_end) (λ d. both_at (group_at d) (both_at (order_at d) limit_at))
group_end_good = both_good group_part order_limit (Next at_order) (Next at_end) group_at (λ d. both_at (order_at d) limit_at) group_good order_limit_good order_limit_next

group_end_next : (d : Limits) (p : Option (List (List ℕ)) × (Option (List KeySyn) × Option Size)) (us rest : List Token) → group_end d p us → Next at_end rest → Next at_group (us ++ rest)
group_end_next d = both_next (group_part d) (order_limit d) at_group at_order at_end (group_next d) (order_limit_next d)

abbrev pub where_end : Limits → Option Syn × (Option (List (List ℕ)) × (Option (List KeySyn) × Option Size)) → List Token → Type 0
where_end d = both (where_part d) (group_end d)

where_end_good : Good where_end (Next at_end) (λ d. both_at (where_at d) (both_at (group_at d) (both_at (order_at d) limit_at)))
where_end_good = both_good where_part group_end (Next at_group) (Next at_end) where_at (λ d. both_at (group_at d) (both_at (order_at d) limit_at)) (where_good at_group (refl, (refl, (refl, (refl, tt)))) (refl, (refl, (refl, (refl, tt))))) group_end_good group_end_next

abbrev pub from_end : Limits → List ℕ × (Option Syn × (Option (List (List ℕ)) × (Option (List KeySyn) × Option Size))) → List Token → Type 0
from_end d = both (behind (is_word word.From) (name d)) (where_end d)

from_end_good : Good from_end (Next at_end) (λ d. both_at (behind_at (is_word word.From) (name_at d)) (both_at (where_at d) (both_at (group_at d) (both_at (order_at d) limit_at))))
from_end_good = both_good (λ d. behind (is_word word.From) (name d)) where_end Always (Next at_end) (λ d. behind_at (is_word word.From) (name_at d)) (λ d. both_at (where_at d) (both_at (group_at d) (both_at (order_at d) limit_at)))
    (behind_good (is_word word.From) (token.Word word.From) refl name Always name_at name_good) where_end_good (λ d b us rest q n. tt)

from_next : (d : Limits) (p : List ℕ × (Option Syn × (Option (List (List ℕ)) × (Option (List KeySyn) × Option Size)))) (us rest : List Token) → from_end d p us → Next at_end rest → Next from_only (us ++ rest)
from_next d p us rest q n = first_next_of us rest (first_both (behind (is_word word.From) (name d)) (where_end d) (λ y. OneOf from_only y) p us (λ a vs w. first_behind (is_word word.From) (name d) (λ y. OneOf from_only y) a vs (λ y k. inl (word_is word.From y k)) w) q) where
  first_next_of : (us rest : List Token) → First (λ y. OneOf from_only y) us → Next from_only (us ++ rest)
  first_next_of [] rest h = absurd h
  first_next_of (y ∷ us) rest h = h

pub select_good : Good select (Next at_end) select_at
select_good = made_good to_select (λ d. both (behind (is_word word.Select) (items d)) (from_end d)) (Next at_end) (λ d. both_at (behind_at (is_word word.Select) (items_at d)) (both_at (behind_at (is_word word.From) (name_at d)) (both_at (where_at d) (both_at (group_at d) (both_at (order_at d) limit_at)))))
    (both_good (λ d. behind (is_word word.Select) (items d)) from_end (Next from_only) (Next at_end) (λ d. behind_at (is_word word.Select) (items_at d)) (λ d. both_at (behind_at (is_word word.From) (name_at d)) (both_at (where_at d) (both_at (group_at d) (both_at (order_at d) limit_at))))
    (behind_good (is_word word.Select) (token.Word word.Select) refl items (Next from_only) items_at items_good) from_end_good from_next)
