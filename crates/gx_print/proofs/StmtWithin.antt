-- A statement that was read within the limits is within them as it is printed.
use Rattle.std.proofs.Common.{◌≡◌, inl, inr, ℕ, Bool, List, [], ◌∷◌, length, Option, Some, None, sym, subst}
use Rattle.gx_lex.specs.declared.word.Word.TheVariants as word
use Rattle.gx_lex.specs.declared.symbol.Symbol.TheVariants as symbol
use Rattle.gx_lex.specs.declared.token.Token.{Token}
use Rattle.gx_lex.specs.declared.token.Token.TheVariants as token
use Rattle.gx_tree.specs.declared.stmt.Level.{Level}
use Rattle.gx_grammar.specs.declared.fault.Limits.{Limits}
use Rattle.gx_grammar.specs.declared.fault.LineLimit.TheVariants as limit
use Rattle.gx_grammar.specs.declared.syn.Syn.{Syn}
use Rattle.gx_grammar.specs.Rules.{Pick, Is, Passes, maybe, many, behind}
use Rattle.gx_grammar.specs.Tokens.{is_word, is_sign, name_of, is_comma, listed, enclosed}
use Rattle.gx_grammar.specs.Grammar.{expr}
use Rattle.gx_lines.specs.declared.syn.ItemSyn.{ItemSyn}
use Rattle.gx_lines.specs.declared.syn.ItemsSyn.{ItemsSyn}
use Rattle.gx_lines.specs.declared.syn.KeySyn.{KeySyn}
use Rattle.gx_lines.specs.declared.syn.SelectSyn.{SelectSyn}
use Rattle.gx_lines.specs.declared.syn.TupleSyn.{TupleSyn}
use Rattle.gx_lines.specs.declared.syn.AssignSyn.{AssignSyn}
use Rattle.gx_lines.specs.declared.syn.StmtSyn.{StmtSyn}
use Rattle.gx_lines.specs.Queries as query
use Rattle.gx_lines.specs.Statements as rule
use Rattle.gx_print.specs.Forms.{IsShallow}
use Rattle.gx_print.specs.Limited.{Each, Some_each, Maybe, IsShort, ItemWithin, ItemsWithin, KeyWithin, SelectWithin, TupleWithin, AssignWithin, IsWithin}
use Rattle.gx_print.proofs.Levels.{pick_le}
use Rattle.gx_print.proofs.Shallow.{expr_shallow}

-- RULES
behind_has : {A : Type 0} (is : Token → Bool) (g : A → List Token → Type 0) (P : A → Type 0) → ((a : A) (ts : List Token) → g a ts → P a) → (a : A) (ts : List Token) → behind is g a ts → P a
behind_has is g P f a ts (p, e, (us, vs, m, w, k)) = subst P (sym e) (f p.1 vs w)

many_have : {A : Type 0} (g : A → List Token → Type 0) (P : A → Type 0) → ((a : A) (ts : List Token) → g a ts → P a) → (xs : List A) (ts : List Token) → many g xs ts → Each P xs
many_have g P f [] ts w = tt
many_have g P f (x ∷ xs) ts (us, vs, a, m, k) = (f x us a, many_have g P f xs vs m)

list_has : {A : Type 0} (g : A → List Token → Type 0) (P : A → Type 0) → ((a : A) (ts : List Token) → g a ts → P a) → (xs : List A) (ts : List Token) → listed g xs ts → Some_each P xs
list_has g P f xs ts (p, e, (us, vs, a, m, k)) = subst (Some_each P) (sym e) (f p.0 us a, many_have (behind is_comma g) P (behind_has is_comma g P f) p.1 vs m)

parens_have : {A : Type 0} (g : A → List Token → Type 0) (P : A → Type 0) → ((a : A) (ts : List Token) → g a ts → P a) → (a : A) (ts : List Token) → enclosed g a ts → P a
parens_have g P f a ts (p, e, (us, vs, w, m, k)) = subst P (sym e) (behind_has (is_sign symbol.Open) g P f p.0 us w)

maybe_has : {A : Type 0} (g : A → List Token → Type 0) (P : A → Type 0) → ((a : A) (ts : List Token) → g a ts → P a) → (o : Option A) (ts : List Token) → maybe g o ts → Maybe P o
maybe_has g P f None ts w = tt
maybe_has g P f (Some a) ts w = f a ts w

is_same : (n m : List ℕ) → Is n ≡ Is m → n ≡ m
is_same n m e = cc

name_is : (d : Limits) (n : List ℕ) (y : Token) → name_of d y ≡ Is n → IsShort d n
name_is d n (token.Name m) e = pick_le (λ (x : Pick (List ℕ)). x ≡ Is n → IsShort d n) (length m) d.name (Is m) (Passes limit.Name) (λ l e. subst (IsShort d) (is_same m n e) l) (λ l e. absurd (cc)) e
name_is d n (token.Word w) e = absurd (cc)
name_is d n (token.Number w) e = absurd (cc)
name_is d n (token.Text w) e = absurd (cc)
name_is d n (token.Symbol w) e = absurd (cc)
name_is d n token.Bad e = absurd (cc)

pub name_short : (d : Limits) (n : List ℕ) (ts : List Token) → query.name d n ts → IsShort d n
name_short d n ts (y, e, k) = name_is d n y e

-- QUERIES
item_within : (d : Limits) (x : ItemSyn) (ts : List Token) → query.item d x ts → ItemWithin d x
item_within d x ts (inl (u, e, w)) = subst (ItemWithin d) (sym e) tt
item_within d x ts (inr (inl (p, e, (us, vs, a, w, k)))) = subst (ItemWithin d) (sym e) (parens_have (query.name d) (IsShort d) (name_short d) p.1 vs w)
item_within d x ts (inr (inr (c, e, w))) = subst (ItemWithin d) (sym e) (name_short d c ts w)

items_within : (d : Limits) (x : ItemsSyn) (ts : List Token) → query.items d x ts → ItemsWithin d x
items_within d x ts (inl (u, e, w)) = subst (ItemsWithin d) (sym e) tt
items_within d x ts (inr (xs, e, w)) = subst (ItemsWithin d) (sym e) (list_has (query.item d) (ItemWithin d) (item_within d) xs ts w)

key_within : (d : Limits) (k : KeySyn) (ts : List Token) → query.key d k ts → KeyWithin d k
key_within d k ts (p, e, (us, vs, w, m, q)) = subst (KeyWithin d) (sym e) (name_short d p.0 us w)

where_within : (d : Limits) (o : Option Syn) (ts : List Token) → query.where_part d o ts → Maybe (IsShallow d) o
where_within d = maybe_has (behind (is_word word.Where) (expr d)) (IsShallow d) (behind_has (is_word word.Where) (expr d) (IsShallow d) (expr_shallow d))

names_within : (d : Limits) (ns : List (List ℕ)) (ts : List Token) → listed (query.name d) ns ts → Some_each (IsShort d) ns
names_within d = list_has (query.name d) (IsShort d) (name_short d)

keys_within : (d : Limits) (ks : List KeySyn) (ts : List Token) → listed (query.key d) ks ts → Some_each (KeyWithin d) ks
keys_within d = list_has (query.key d) (KeyWithin d) (key_within d)

group_within : (d : Limits) (o : Option (List (List ℕ))) (ts : List Token) → query.group_part d o ts → Maybe (Some_each (IsShort d)) o
group_within d = maybe_has (behind (is_word word.Group) (behind (is_word word.By) (listed (query.name d)))) (Some_each (IsShort d)) (behind_has (is_word word.Group) (behind (is_word word.By) (listed (query.name d))) (Some_each (IsShort d)) (behind_has (is_word word.By) (listed (query.name d)) (Some_each (IsShort d)) (names_within d)))

order_within : (d : Limits) (o : Option (List KeySyn)) (ts : List Token) → query.order_part d o ts → Maybe (Some_each (KeyWithin d)) o
order_within d = maybe_has (behind (is_word word.Order) (behind (is_word word.By) (listed (query.key d)))) (Some_each (KeyWithin d)) (behind_has (is_word word.Order) (behind (is_word word.By) (listed (query.key d))) (Some_each (KeyWithin d)) (behind_has (is_word word.By) (listed (query.key d)) (Some_each (KeyWithin d)) (keys_within d)))

select_within : (d : Limits) (q : SelectSyn) (ts : List Token) → query.select d q ts → SelectWithin d q
select_within d q ts (p, e, (us, vs, items, (us1, vs1, table, (us2, vs2, cond, (us3, vs3, group, (us4, vs4, order, limit, k4), k3), k2), k1), k)) = subst (SelectWithin d) (sym e) (record {
  items = behind_has (is_word word.Select) (query.items d) (ItemsWithin d) (items_within d) p.0 us items;
  table = behind_has (is_word word.From) (query.name d) (IsShort d) (name_short d) p.1.0 us1 table;
  cond = where_within d p.1.1.0 us2 cond;
  group = group_within d p.1.1.1.0 us3 group;
  order = order_within d p.1.1.1.1.0 us4 order;
})

-- STATEMENTS
tuple_within : (d : Limits) (t : TupleSyn) (ts : List Token) → rule.tuple d t ts → TupleWithin d t
tuple_within d t ts (values, e, w) = subst (TupleWithin d) (sym e) (parens_have (listed (expr d)) (Some_each (IsShallow d)) (list_has (expr d) (IsShallow d) (expr_shallow d)) values ts w)

assign_within : (d : Limits) (a : AssignSyn) (ts : List Token) → rule.assign d a ts → AssignWithin d a
assign_within d a ts (p, e, (us, vs, w, v, k)) = subst (AssignWithin d) (sym e) (name_short d p.0 us w, behind_has (is_sign symbol.Equal) (expr d) (IsShallow d) (expr_shallow d) p.1 vs v)

begin_within : (d : Limits) (o : Option Level) → IsWithin d (rule.level_or o)
begin_within d None = tt
begin_within d (Some l) = tt

-- a statement that was read within the limits is printed within them
pub stmt_within : (d : Limits) (s : StmtSyn) (ts : List Token) → rule.stmt d s ts → IsWithin d s
stmt_within d s ts (inl (o, e, w)) = subst (IsWithin d) (sym e) (begin_within d o)
stmt_within d s ts (inr (inl (u, e, w))) = subst (IsWithin d) (sym e) tt
stmt_within d s ts (inr (inr (inl (u, e, w)))) = subst (IsWithin d) (sym e) tt
stmt_within d s ts (inr (inr (inr (inl (q, e, w))))) = subst (IsWithin d) (sym e) (select_within d q ts w)
stmt_within d s ts (inr (inr (inr (inr (inl (p, e, (us, vs, t, v, k))))))) = subst (IsWithin d) (sym e) (
  behind_has (is_word word.Insert) (behind (is_word word.Into) (query.name d)) (IsShort d) (behind_has (is_word word.Into) (query.name d) (IsShort d) (name_short d)) p.0 us t,
  behind_has (is_word word.Values) (listed (rule.tuple d)) (Some_each (TupleWithin d)) (list_has (rule.tuple d) (TupleWithin d) (tuple_within d)) p.1 vs v,
)
stmt_within d s ts (inr (inr (inr (inr (inr (inl (p, e, (us, vs, t, (us1, vs1, a, c, k1), k)))))))) = subst (IsWithin d) (sym e) (
  behind_has (is_word word.Update) (query.name d) (IsShort d) (name_short d) p.0 us t,
  behind_has (is_word word.Set) (listed (rule.assign d)) (Some_each (AssignWithin d)) (list_has (rule.assign d) (AssignWithin d) (assign_within d)) p.1.0 us1 a,
  where_within d p.1.1 vs1 c,
)
stmt_within d s ts (inr (inr (inr (inr (inr (inr (inl (p, e, (us, vs, t, c, k))))))))) = subst (IsWithin d) (sym e) (
  behind_has (is_word word.Delete) (behind (is_word word.From) (query.name d)) (IsShort d) (behind_has (is_word word.From) (query.name d) (IsShort d) (name_short d)) p.0 us t,
  where_within d p.1 vs c,
)
stmt_within d s ts (inr (inr (inr (inr (inr (inr (inr (p, e, (us, vs, t, v, k))))))))) = subst (IsWithin d) (sym e) (behind_has (is_word word.Lock) (behind (is_word word.Table) (query.name d)) (IsShort d) (behind_has (is_word word.Table) (query.name d) (IsShort d) (name_short d)) p.0 us t)
