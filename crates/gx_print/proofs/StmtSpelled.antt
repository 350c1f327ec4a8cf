-- The printed tokens of a statement within the limits are spelled by the rules of the language.
use Rattle.std.proofs.Common.{◌≡◌, inl, inr, ℕ, Bool, true, if◌then◌else◌, List, [], ◌∷◌, ◌++◌, length, Option, Some, None, refl, arith}
use Rattle.std.specs.List.{flat_map}
use Rattle.gx_lex.specs.declared.word.Word.TheVariants as word
use Rattle.gx_lex.specs.declared.symbol.Symbol.TheVariants as symbol
use Rattle.gx_lex.specs.declared.token.Token.{Token}
use Rattle.gx_lex.specs.declared.token.Token.TheVariants as token
use Rattle.gx_tree.specs.declared.stmt.Level.{Level}
use Rattle.gx_tree.specs.declared.stmt.Level.TheVariants as level
use Rattle.gx_modes.specs.declared.modes.Mode.{Mode}
use Rattle.gx_modes.specs.declared.modes.Mode.TheVariants as mode
use Rattle.gx_grammar.specs.declared.fault.Limits.{Limits}
use Rattle.gx_grammar.specs.declared.fault.LineLimit.TheVariants as limit
use Rattle.gx_grammar.specs.declared.syn.Syn.{Syn}
use Rattle.gx_grammar.specs.Rules.{Is, Isnt, Passes, one, maybe, many, marked, behind}
use Rattle.gx_grammar.specs.Tokens.{is_word, is_sign, is_comma, listed, enclosed}
use Rattle.gx_grammar.specs.Grammar.{expr}
use Rattle.gx_lines.specs.declared.classes.Agg.{Agg}
use Rattle.gx_lines.specs.declared.classes.Agg.TheVariants as agg
use Rattle.gx_lines.specs.declared.classes.Direction.{Direction}
use Rattle.gx_lines.specs.declared.classes.Direction.TheVariants as direction
use Rattle.gx_lines.specs.declared.classes.Strength.TheVariants as strength
use Rattle.gx_lines.specs.declared.classes.Size.{Size}
use Rattle.gx_lines.specs.declared.syn.ItemSyn.{ItemSyn}
use Rattle.gx_lines.specs.declared.syn.ItemSyn.TheVariants as item
use Rattle.gx_lines.specs.declared.syn.ItemsSyn.{ItemsSyn}
use Rattle.gx_lines.specs.declared.syn.ItemsSyn.TheVariants as items
use Rattle.gx_lines.specs.declared.syn.KeySyn.{KeySyn}
use Rattle.gx_lines.specs.declared.syn.SelectSyn.{SelectSyn}
use Rattle.gx_lines.specs.declared.syn.TupleSyn.{TupleSyn}
use Rattle.gx_lines.specs.declared.syn.AssignSyn.{AssignSyn}
use Rattle.gx_lines.specs.declared.syn.StmtSyn.{StmtSyn}
use Rattle.gx_lines.specs.declared.syn.StmtSyn.TheVariants as stmt
use Rattle.gx_lines.specs.Classes.{agg_of, direction_of, strength_of, size_of}
use Rattle.gx_lines.specs.Queries as query
use Rattle.gx_lines.specs.Statements as rule
use Rattle.gx_print.specs.Forms.{IsShallow}
use Rattle.gx_print.specs.Statements.{expr_tokens, name_token, list_tokens, part_tokens, in_parens, agg_word, item_tokens, items_tokens, direction_tokens, key_tokens, where_tokens, group_tokens, order_tokens, size_tokens, limit_tokens, select_tokens, tuple_tokens, assign_tokens, begin_tokens, mode_tokens, stmt_tokens}
use Rattle.gx_print.specs.Limited.{Each, Some_each, Maybe, IsShort, ItemWithin, ItemsWithin, KeyWithin, SelectWithin, TupleWithin, AssignWithin, IsWithin}
use Rattle.gx_print.proofs.Levels.{by_le}
use Rattle.gx_print.proofs.Formed.{expr_spelled}

-- RULES
by_true : {A : Type 0} (c : Bool) (x y : A) → c ≡ true → (if c then x else y) ≡ x
by_true c x y e = grind arith

-- a word or a sign
mark : (is : Token → Bool) (y : Token) → is y ≡ true → one (marked is) tt (y ∷ [])
mark is y e = (y, by_true (is y) (Is tt) Isnt e, refl)

led : {A : Type 0} (is : Token → Bool) (g : A → List Token → Type 0) (y : Token) (a : A) (vs : List Token) → is y ≡ true → g a vs → behind is g a (y ∷ vs)
led is g y a vs e w = ((tt, a), refl, (y ∷ [], vs, mark is y e, w, refl))

more : {A : Type 0} (P : A → Type 0) (g : A → List Token → Type 0) (f : A → List Token) → ((x : A) → P x → g x (f x)) → (xs : List A) → Each P xs → many (behind is_comma g) xs (flat_map (λ x. token.Symbol symbol.Comma ∷ f x) xs)
more P g f h [] e = refl
more P g f h (x ∷ xs) e = (token.Symbol symbol.Comma ∷ f x, flat_map (λ x. token.Symbol symbol.Comma ∷ f x) xs, led is_comma g (token.Symbol symbol.Comma) x (f x) refl (h x e.0), more P g f h xs e.1, refl)

list_spelled : {A : Type 0} (P : A → Type 0) (g : A → List Token → Type 0) (f : A → List Token) → ((x : A) → P x → g x (f x)) → (xs : List A) → Some_each P xs → listed g xs (list_tokens f xs)
list_spelled P g f h [] e = absurd e
list_spelled P g f h (x ∷ xs) e = ((x, xs), refl, (f x, flat_map (λ x. token.Symbol symbol.Comma ∷ f x) xs, h x e.0, more P g f h xs e.1, refl))

parens_spelled : {A : Type 0} (g : A → List Token → Type 0) (a : A) (ts : List Token) → g a ts → enclosed g a (in_parens ts)
parens_spelled g a ts w = ((a, tt), refl, (token.Symbol symbol.Open ∷ ts, token.Symbol symbol.Close ∷ [], led (is_sign symbol.Open) g (token.Symbol symbol.Open) a ts refl w, mark (is_sign symbol.Close) (token.Symbol symbol.Close) refl, refl))

part_spelled : {A : Type 0} (P : A → Type 0) (g : A → List Token → Type 0) (us : List Token) (f : A → List Token) → ((x : A) → P x → g x (us ++ f x)) → (o : Option A) → Maybe P o → maybe g o (part_tokens us f o)
part_spelled P g us f h None e = refl
part_spelled P g us f h (Some x) e = h x e

name_spelled : (d : Limits) (n : List ℕ) → IsShort d n → query.name d n (name_token n)
name_spelled d n l = (token.Name n, by_le (length n) d.name (Is n) (Passes limit.Name) l, refl)

-- QUERIES
star_spelled : query.star tt (token.Symbol symbol.Star ∷ [])
star_spelled = mark (is_sign symbol.Star) (token.Symbol symbol.Star) refl

agg_spelled : (a : Agg) → one agg_of a (token.Word (agg_word a) ∷ [])
agg_spelled agg.Sum = (token.Word word.Sum, refl, refl)
agg_spelled agg.Min = (token.Word word.Min, refl, refl)
agg_spelled agg.Max = (token.Word word.Max, refl, refl)

item_spelled : (d : Limits) (x : ItemSyn) → ItemWithin d x → query.item d x (item_tokens x)
item_spelled d (item.Column c) w = inr (inr (c, refl, name_spelled d c w))
item_spelled d item.Count w = inl (tt, refl, led (is_word word.Count) (enclosed query.star) (token.Word word.Count) tt (in_parens (token.Symbol symbol.Star ∷ [])) refl (parens_spelled query.star tt (token.Symbol symbol.Star ∷ []) star_spelled))
item_spelled d (item.Agg a c) w = inr (inl ((a, c), refl, (token.Word (agg_word a) ∷ [], in_parens (name_token c), agg_spelled a, parens_spelled (query.name d) c (name_token c) (name_spelled d c w), refl)))

items_spelled : (d : Limits) (x : ItemsSyn) → ItemsWithin d x → query.items d x (items_tokens x)
items_spelled d items.All w = inl (tt, refl, star_spelled)
items_spelled d (items.These xs) w = inr (xs, refl, list_spelled (ItemWithin d) (query.item d) item_tokens (item_spelled d) xs w)

direction_spelled : (o : Option Direction) → maybe (one direction_of) o (direction_tokens o)
direction_spelled None = refl
direction_spelled (Some direction.Asc) = (token.Word word.Asc, refl, refl)
direction_spelled (Some direction.Desc) = (token.Word word.Desc, refl, refl)

key_spelled : (d : Limits) (k : KeySyn) → KeyWithin d k → query.key d k (key_tokens k)
key_spelled d k w = ((k.column, k.direction), refl, (name_token k.column, direction_tokens k.direction, name_spelled d k.column w, direction_spelled k.direction, refl))

where_spelled : (d : Limits) (o : Option Syn) → Maybe (IsShallow d) o → query.where_part d o (where_tokens o)
where_spelled d = part_spelled (IsShallow d) (behind (is_word word.Where) (expr d)) (token.Word word.Where ∷ []) expr_tokens (λ t w. led (is_word word.Where) (expr d) (token.Word word.Where) t (expr_tokens t) refl (expr_spelled d t w))

names_spelled : (d : Limits) (ns : List (List ℕ)) → Some_each (IsShort d) ns → listed (query.name d) ns (list_tokens name_token ns)
names_spelled d = list_spelled (IsShort d) (query.name d) name_token (name_spelled d)

keys_spelled : (d : Limits) (ks : List KeySyn) → Some_each (KeyWithin d) ks → listed (query.key d) ks (list_tokens key_tokens ks)
keys_spelled d = list_spelled (KeyWithin d) (query.key d) key_tokens (key_spelled d)

by_spelled : {A : Type 0} (g : A → List Token → Type 0) (a : A) (ts : List Token) → g a ts → behind (is_word word.By) g a (token.Word word.By ∷ ts)
by_spelled g a ts w = led (is_word word.By) g (token.Word word.By) a ts refl w

group_spelled : (d : Limits) (o : Option (List (List ℕ))) → Maybe (Some_each (IsShort d)) o → query.group_part d o (group_tokens o)
group_spelled d = part_spelled (Some_each (IsShort d)) (behind (is_word word.Group) (behind (is_word word.By) (listed (query.name d)))) (token.Word word.Group ∷ token.Word word.By ∷ []) (list_tokens name_token)
    (λ ns w. led (is_word word.Group) (behind (is_word word.By) (listed (query.name d))) (token.Word word.Group) ns (token.Word word.By ∷ list_tokens name_token ns) refl (by_spelled (listed (query.name d)) ns (list_tokens name_token ns) (names_spelled d ns w)))

order_spelled : (d : Limits) (o : Option (List KeySyn)) → Maybe (Some_each (KeyWithin d)) o → query.order_part d o (order_tokens o)
order_spelled d = part_spelled (Some_each (KeyWithin d)) (behind (is_word word.Order) (behind (is_word word.By) (listed (query.key d)))) (token.Word word.Order ∷ token.Word word.By ∷ []) (list_tokens key_tokens)
    (λ ks w. led (is_word word.Order) (behind (is_word word.By) (listed (query.key d))) (token.Word word.Order) ks (token.Word word.By ∷ list_tokens key_tokens ks) refl (by_spelled (listed (query.key d)) ks (list_tokens key_tokens ks) (keys_spelled d ks w)))

limit_spelled : (o : Option Size) → query.limit_part o (limit_tokens o)
limit_spelled None = refl
limit_spelled (Some n) = led (is_word word.Limit) (one size_of) (token.Word word.Limit) n (size_tokens n) refl (token.Number n.0, refl, refl)

select_spelled : (d : Limits) (q : SelectSyn) → SelectWithin d q → query.select d q (select_tokens q)
select_spelled d q w = (
  (q.items, (q.table, (q.cond, (q.group, (q.order, q.limit))))),
  refl,
  (
    token.Word word.Select ∷ items_tokens q.items,
    token.Word word.From ∷ token.Name q.table ∷ (where_tokens q.cond ++ (group_tokens q.group ++ (order_tokens q.order ++ limit_tokens q.limit))),
    led (is_word word.Select) (query.items d) (token.Word word.Select) q.items (items_tokens q.items) refl (items_spelled d q.items w.items),
    (
      token.Word word.From ∷ name_token q.table,
      where_tokens q.cond ++ (group_tokens q.group ++ (order_tokens q.order ++ limit_tokens q.limit)),
      led (is_word word.From) (query.name d) (token.Word word.From) q.table (name_token q.table) refl (name_spelled d q.table w.table),
      (
        where_tokens q.cond,
        group_tokens q.group ++ (order_tokens q.order ++ limit_tokens q.limit),
        where_spelled d q.cond w.cond,
        (group_tokens q.group, order_tokens q.order ++ limit_tokens q.limit, group_spelled d q.group w.group, (order_tokens q.order, limit_tokens q.limit, order_spelled d q.order w.order, limit_spelled q.limit, refl), refl),
        refl,
      ),
      refl,
    ),
    refl,
  ),
)

-- STATEMENTS
exprs_spelled : (d : Limits) (ts : List Syn) → Some_each (IsShallow d) ts → listed (expr d) ts (list_tokens expr_tokens ts)
exprs_spelled d = list_spelled (IsShallow d) (expr d) expr_tokens (expr_spelled d)

tuple_spelled : (d : Limits) (t : TupleSyn) → TupleWithin d t → rule.tuple d t (tuple_tokens t)
tuple_spelled d t w = (t.values, refl, parens_spelled (listed (expr d)) t.values (list_tokens expr_tokens t.values) (exprs_spelled d t.values w))

assign_spelled : (d : Limits) (a : AssignSyn) → AssignWithin d a → rule.assign d a (assign_tokens a)
assign_spelled d a w = ((a.column, a.value), refl, (name_token a.column, token.Symbol symbol.Equal ∷ expr_tokens a.value, name_spelled d a.column w.0, led (is_sign symbol.Equal) (expr d) (token.Symbol symbol.Equal) a.value (expr_tokens a.value) refl (expr_spelled d a.value w.1), refl))

-- one word behind another
pair : (v w : Token) (is : Token → Bool) (so : Token → Bool) → is v ≡ true → so w ≡ true → behind is (one (marked so)) tt (v ∷ w ∷ [])
pair v w is so e f = led is (one (marked so)) v tt (w ∷ []) e (mark so w f)

begin_spelled : (l : Level) → rule.begin (stmt.Begin l) (token.Word word.Begin ∷ begin_tokens l)
begin_spelled level.ReadCommitted = (None, refl, led (is_word word.Begin) (maybe (behind (is_word word.Isolation) (behind (is_word word.Level) rule.level_words))) (token.Word word.Begin) None [] refl refl)
begin_spelled level.RepeatableRead = (
  Some level.RepeatableRead,
  refl,
  led (is_word word.Begin) (maybe (behind (is_word word.Isolation) (behind (is_word word.Level) rule.level_words))) (token.Word word.Begin) (Some level.RepeatableRead) (begin_tokens level.RepeatableRead) refl
      (led (is_word word.Isolation) (behind (is_word word.Level) rule.level_words) (token.Word word.Isolation) level.RepeatableRead (token.Word word.Level ∷ token.Word word.Repeatable ∷ token.Word word.Read ∷ []) refl
      (led (is_word word.Level) rule.level_words (token.Word word.Level) level.RepeatableRead (token.Word word.Repeatable ∷ token.Word word.Read ∷ []) refl
      (inr (tt, refl, pair (token.Word word.Repeatable) (token.Word word.Read) (is_word word.Repeatable) (is_word word.Read) refl refl)))),
)

insert_spelled : (d : Limits) (t : List ℕ) (tuples : List TupleSyn) → IsWithin d (stmt.Insert t tuples) → rule.insert d (stmt.Insert t tuples) (stmt_tokens (stmt.Insert t tuples))
insert_spelled d t tuples w = (
  (t, tuples),
  refl,
  (
    token.Word word.Insert ∷ token.Word word.Into ∷ name_token t,
    token.Word word.Values ∷ list_tokens tuple_tokens tuples,
    led (is_word word.Insert) (behind (is_word word.Into) (query.name d)) (token.Word word.Insert) t (token.Word word.Into ∷ name_token t) refl (led (is_word word.Into) (query.name d) (token.Word word.Into) t (name_token t) refl (name_spelled d t w.0)),
    led (is_word word.Values) (listed (rule.tuple d)) (token.Word word.Values) tuples (list_tokens tuple_tokens tuples) refl (list_spelled (TupleWithin d) (rule.tuple d) tuple_tokens (tuple_spelled d) tuples w.1),
    refl,
  ),
)

update_spelled : (d : Limits) (t : List ℕ) (assigns : List AssignSyn) (cond : Option Syn) → IsWithin d (stmt.Update t assigns cond) → rule.update d (stmt.Update t assigns cond) (stmt_tokens (stmt.Update t assigns cond))
update_spelled d t assigns cond w = (
  (t, (assigns, cond)),
  refl,
  (
    token.Word word.Update ∷ name_token t,
    token.Word word.Set ∷ (list_tokens assign_tokens assigns ++ where_tokens cond),
    led (is_word word.Update) (query.name d) (token.Word word.Update) t (name_token t) refl (name_spelled d t w.0),
    (
      token.Word word.Set ∷ list_tokens assign_tokens assigns,
      where_tokens cond,
      led (is_word word.Set) (listed (rule.assign d)) (token.Word word.Set) assigns (list_tokens assign_tokens assigns) refl (list_spelled (AssignWithin d) (rule.assign d) assign_tokens (assign_spelled d) assigns w.1),
      where_spelled d cond w.2,
      refl,
    ),
    refl,
  ),
)

delete_spelled : (d : Limits) (t : List ℕ) (cond : Option Syn) → IsWithin d (stmt.Delete t cond) → rule.delete d (stmt.Delete t cond) (stmt_tokens (stmt.Delete t cond))
delete_spelled d t cond w = (
  (t, cond),
  refl,
  (
    token.Word word.Delete ∷ token.Word word.From ∷ name_token t,
    where_tokens cond,
    led (is_word word.Delete) (behind (is_word word.From) (query.name d)) (token.Word word.Delete) t (token.Word word.From ∷ name_token t) refl (led (is_word word.From) (query.name d) (token.Word word.From) t (name_token t) refl (name_spelled d t w.0)),
    where_spelled d cond w.1,
    refl,
  ),
)

share_spelled : one strength_of strength.Share (token.Word word.Share ∷ [])
share_spelled = (token.Word word.Share, refl, refl)

exclusive_spelled : one strength_of strength.Exclusive (token.Word word.Exclusive ∷ [])
exclusive_spelled = (token.Word word.Exclusive, refl, refl)

mode_spelled : (m : Mode) → rule.mode_words m (mode_tokens m)
mode_spelled mode.AccessShare = inl (strength.Share, refl, led (is_word word.Access) (one strength_of) (token.Word word.Access) strength.Share (token.Word word.Share ∷ []) refl share_spelled)
mode_spelled mode.RowShare = inr (inl (strength.Share, refl, led (is_word word.Row) (one strength_of) (token.Word word.Row) strength.Share (token.Word word.Share ∷ []) refl share_spelled))
mode_spelled mode.RowExclusive = inr (inl (strength.Exclusive, refl, led (is_word word.Row) (one strength_of) (token.Word word.Row) strength.Exclusive (token.Word word.Exclusive ∷ []) refl exclusive_spelled))
mode_spelled mode.ShareUpdateExclusive = inr (inr (inl (Some mode.ShareUpdateExclusive, refl, led (is_word word.Share) (maybe rule.share_end) (token.Word word.Share) (Some mode.ShareUpdateExclusive) (token.Word word.Update ∷ token.Word word.Exclusive ∷ []) refl (inl (tt, refl, pair (token.Word word.Update) (token.Word word.Exclusive) (is_word word.Update) (is_word word.Exclusive) refl refl)))))
mode_spelled mode.Share = inr (inr (inl (None, refl, led (is_word word.Share) (maybe rule.share_end) (token.Word word.Share) None [] refl refl)))
mode_spelled mode.ShareRowExclusive = inr (inr (inl (Some mode.ShareRowExclusive, refl, led (is_word word.Share) (maybe rule.share_end) (token.Word word.Share) (Some mode.ShareRowExclusive) (token.Word word.Row ∷ token.Word word.Exclusive ∷ []) refl (inr (tt, refl, pair (token.Word word.Row) (token.Word word.Exclusive) (is_word word.Row) (is_word word.Exclusive) refl refl)))))
mode_spelled mode.Exclusive = inr (inr (inr (tt, refl, mark (is_word word.Exclusive) (token.Word word.Exclusive) refl)))
mode_spelled mode.AccessExclusive = inl (strength.Exclusive, refl, led (is_word word.Access) (one strength_of) (token.Word word.Access) strength.Exclusive (token.Word word.Exclusive ∷ []) refl exclusive_spelled)

lock_spelled : (d : Limits) (t : List ℕ) (m : Mode) → IsShort d t → rule.lock d (stmt.Lock t m) (stmt_tokens (stmt.Lock t m))
lock_spelled d t m w = (
  (t, (m, tt)),
  refl,
  (
    token.Word word.Lock ∷ token.Word word.Table ∷ name_token t,
    token.Word word.In ∷ (mode_tokens m ++ token.Word word.Mode ∷ []),
    led (is_word word.Lock) (behind (is_word word.Table) (query.name d)) (token.Word word.Lock) t (token.Word word.Table ∷ name_token t) refl (led (is_word word.Table) (query.name d) (token.Word word.Table) t (name_token t) refl (name_spelled d t w)),
    (token.Word word.In ∷ mode_tokens m, token.Word word.Mode ∷ [], led (is_word word.In) rule.mode_words (token.Word word.In) m (mode_tokens m) refl (mode_spelled m), mark (is_word word.Mode) (token.Word word.Mode) refl, refl),
    refl,
  ),
)

-- a statement within the limits is spelled by its printed tokens
pub stmt_spelled : (d : Limits) (s : StmtSyn) → IsWithin d s → rule.stmt d s (stmt_tokens s)
stmt_spelled d (stmt.Begin l) w = inl (begin_spelled l)
stmt_spelled d stmt.Commit w = inr (inl (tt, refl, mark (is_word word.Commit) (token.Word word.Commit) refl))
stmt_spelled d stmt.Rollback w = inr (inr (inl (tt, refl, mark (is_word word.Rollback) (token.Word word.Rollback) refl)))
stmt_spelled d (stmt.Select q) w = inr (inr (inr (inl (q, refl, select_spelled d q w))))
stmt_spelled d (stmt.Insert t tuples) w = inr (inr (inr (inr (inl (insert_spelled d t tuples w)))))
stmt_spelled d (stmt.Update t assigns cond) w = inr (inr (inr (inr (inr (inl (update_spelled d t assigns cond w))))))
stmt_spelled d (stmt.Delete t cond) w = inr (inr (inr (inr (inr (inr (inl (delete_spelled d t cond w)))))))
stmt_spelled d (stmt.Lock t m) w = inr (inr (inr (inr (inr (inr (inr (lock_spelled d t m w)))))))
