-- A statement is printed in one line.
use Rattle.std.proofs.Common.{◌≡◌, ℕ, Bool, true, false, ◌&&◌, List, [], ◌∷◌, ◌++◌, Option, Some, None, refl, ap, subst, arith}
use Rattle.std.specs.Prelude.{codes}
use Rattle.std.specs.Fmt.{decimal}
use Rattle.std.specs.List.{flat_map}
use Rattle.gx_lex.specs.Lexing.{is_digit, every, doubled}
use Rattle.gx_tree.specs.declared.stmt.Level.{Level}
use Rattle.gx_tree.specs.declared.stmt.Level.TheVariants as level
use Rattle.gx_modes.specs.declared.modes.Mode.{Mode}
use Rattle.gx_modes.specs.declared.modes.Mode.TheVariants as mode
use Rattle.gx_grammar.specs.declared.syn.Op.{Op}
use Rattle.gx_grammar.specs.declared.syn.Op.TheVariants.{Or, And, Equal, NotEqual, Less, LessEqual, Greater, GreaterEqual, Add, Sub, Mul, Div, Rem}
use Rattle.gx_grammar.specs.declared.syn.Syn.{Syn}
use Rattle.gx_grammar.specs.Grammar.{Shape, digits, minus_digits, text, column, parens, minus, negated, both}
use Rattle.gx_lines.specs.declared.classes.Agg.{Agg}
use Rattle.gx_lines.specs.declared.classes.Agg.TheVariants as agg
use Rattle.gx_lines.specs.declared.classes.Direction.{Direction}
use Rattle.gx_lines.specs.declared.classes.Direction.TheVariants as direction
use Rattle.gx_lines.specs.declared.classes.Size.{Size}
use Rattle.gx_lines.specs.declared.syn.ItemSyn.{ItemSyn}
use Rattle.gx_lines.specs.declared.syn.ItemSyn.TheVariants as item
use Rattle.gx_lines.specs.declared.syn.ItemsSyn.{ItemsSyn}
use Rattle.gx_lines.specs.declared.syn.ItemsSyn.TheVariants as items
use Rattle.gx_lines.specs.declared.syn.KeySyn.{KeySyn}
use Rattle.gx_lines.specs.declared.syn.SelectSyn.{SelectSyn}
use Rattle.gx_lines.specs.declared.syn.TupleSyn.{TupleSyn}
use Rattle.gx_lines.specs.declared.syn.AssignSyn.{AssignSyn}
use Rattle.gx_lines.specs.declared.syn.StmtSyn.{StmtSyn}
use Rattle.gx_lines.specs.declared.syn.StmtSyn.TheVariants as stmt
use Rattle.gx_sql.specs.Cutting.{is_within}
use Rattle.gx_text.specs.Quoted.{quoted}
use Rattle.gx_print.specs.Shapes.{IsName, IsNumber, IsClear, is_name_byte, number_text, op_text, shape_text}
use Rattle.gx_print.specs.Forms.{shape_of}
use Rattle.gx_print.specs.Limited.{Each, Some_each, Maybe, SynClear, ItemClear, ItemsClear, KeyClear, SizeClear, SelectClear, TupleClear, AssignClear, StmtClear}
use Rattle.gx_print.specs.Statements.{expr_text, list_text, part_text, agg_text, item_text, items_text, direction_text, key_text, where_text, group_text, order_text, size_text, limit_text, select_text, tuple_text, assign_text, begin_text, mode_text, stmt_text}
use Rattle.gx_print.specs.OneLine.{IsOneLine}
use Rattle.gx_print.proofs.Cuts.{decimal_digits, doubled-quoted}
use Rattle.gx_print.proofs.Coded.{is_low, every_as, low_one, nothing_one, one_append, doubled_one}
use Rattle.gx_print.proofs.OneLine.{all_name_bytes}
use Rattle.gx_print.proofs.ShapeTexts.{TextsOne}
use Rattle.gx_print.proofs.Texts.{SynOne, TupleOne, AssignOne, StmtOne}

-- WORDS
-- ASCII without a line feed
abbrev are_plain : List ℕ → Bool
are_plain [] = true
are_plain (b ∷ bs) = (is_low b && is_within b) && are_plain bs

all_of : (a b : Bool) → (a && b) ≡ true → (a ≡ true) × (b ≡ true)
all_of true b e = (refl, e)
all_of false b e = absurd cc

lows : (bs : List ℕ) → are_plain bs ≡ true → every is_low bs
lows [] e = tt
lows (b ∷ bs) e =
    let here = all_of (is_low b && is_within b) (are_plain bs) e in
    let byte = all_of (is_low b) (is_within b) here.0 in
    (byte.0, lows bs here.1)

withins : (bs : List ℕ) → are_plain bs ≡ true → every is_within bs
withins [] e = tt
withins (b ∷ bs) e =
    let here = all_of (is_low b && is_within b) (are_plain bs) e in
    let byte = all_of (is_low b) (is_within b) here.0 in
    (byte.1, withins bs here.1)

plain_one : (bs : List ℕ) → are_plain bs ≡ true → IsOneLine bs
plain_one bs e = low_one bs (lows bs e) (withins bs e)

led : (xs bs : List ℕ) → are_plain xs ≡ true → IsOneLine bs → IsOneLine (xs ++ bs)
led xs bs e o = one_append xs bs (plain_one xs e) o

ended : (xs bs : List ℕ) → IsOneLine xs → are_plain bs ≡ true → IsOneLine (xs ++ bs)
ended xs bs o e = one_append xs bs o (plain_one bs e)

-- NAMES, NUMBERS AND TEXTS
name_low : (b : ℕ) → is_name_byte b ≡ true → is_low b ≡ true
name_low b e = grind arith

name_within : (b : ℕ) → is_name_byte b ≡ true → is_within b ≡ true
name_within b e = grind arith

name_one : (n : List ℕ) → IsName n → IsOneLine n
name_one n i = let bytes = all_name_bytes n i in low_one n (every_as is_name_byte is_low name_low n bytes) (every_as is_name_byte is_within name_within n bytes)

digit_low : (b : ℕ) → is_digit b ≡ true → is_low b ≡ true
digit_low b e = grind arith

digit_within : (b : ℕ) → is_digit b ≡ true → is_within b ≡ true
digit_within b e = grind arith

number_one : (n : Option ℕ) → IsNumber n → IsOneLine (number_text n)
number_one None i = absurd i
number_one (Some n) i = let ds = decimal_digits n (omega (arith, i)) in low_one (decimal n) (every_as is_digit is_low digit_low (decimal n) ds) (every_as is_digit is_within digit_within (decimal n) ds)

quoted_one : (t : List ℕ) → IsOneLine t → IsOneLine (quoted t)
quoted_one t o = subst IsOneLine (ap (λ (l : List ℕ). 39 ∷ (l ++ 39 ∷ [])) (doubled-quoted t)) (led (39 ∷ []) (doubled t ++ 39 ∷ []) refl (ended (doubled t) (39 ∷ []) (doubled_one t o) refl))

-- EXPRESSIONS
op_plain : (o : Op) → are_plain (op_text o) ≡ true
op_plain Or = refl
op_plain And = refl
op_plain Equal = refl
op_plain NotEqual = refl
op_plain Less = refl
op_plain LessEqual = refl
op_plain Greater = refl
op_plain GreaterEqual = refl
op_plain Add = refl
op_plain Sub = refl
op_plain Mul = refl
op_plain Div = refl
op_plain Rem = refl

shape_line : (s : Shape) → IsClear s → TextsOne s → IsOneLine (shape_text s)
shape_line (digits n) c h = number_one n c
shape_line (minus_digits n) c h = led (codes "-") (number_text n) refl (number_one n c)
shape_line (text t) c h = quoted_one t h
shape_line (column n) c h = name_one n c
shape_line (parens s) c h = led (codes "(") (shape_text s ++ codes ")") refl (ended (shape_text s) (codes ")") (shape_line s c h) refl)
shape_line (minus s) c h = led (codes "-") (shape_text s) refl (shape_line s c h)
shape_line (negated s) c h = led (codes "NOT ") (shape_text s) refl (shape_line s c h)
shape_line (both o a b) c h =
    one_append (shape_text a) (codes " " ++ (op_text o ++ (codes " " ++ shape_text b))) (shape_line a c.0 h.0)
    (led (codes " ") (op_text o ++ (codes " " ++ shape_text b)) refl (led (op_text o) (codes " " ++ shape_text b) (op_plain o) (led (codes " ") (shape_text b) refl (shape_line b c.1 h.1))))

expr_line : (t : Syn) → SynClear t → SynOne t → IsOneLine (expr_text t)
expr_line t c h = shape_line (shape_of t) c h

-- LISTS AND PARTS
module _ {A : Type 0} (P Q : A → Type 0) (f : A → List ℕ) (line : (x : A) → P x → Q x → IsOneLine (f x)) where
  others_line : (xs : List A) → Each P xs → Each Q xs → IsOneLine (flat_map (λ y. codes ", " ++ f y) xs)
  others_line [] e h = nothing_one
  others_line (x ∷ xs) e h = one_append (codes ", " ++ f x) (flat_map (λ y. codes ", " ++ f y) xs) (led (codes ", ") (f x) refl (line x e.0 h.0)) (others_line xs e.1 h.1)

  list_line : (xs : List A) → Some_each P xs → Each Q xs → IsOneLine (list_text f xs)
  list_line [] e h = absurd e
  list_line (x ∷ xs) e h = one_append (f x) (flat_map (λ y. codes ", " ++ f y) xs) (line x e.0 h.0) (others_line xs e.1 h.1)

  part_line : (words : List ℕ) → are_plain words ≡ true → (o : Option A) → Maybe P o → Maybe Q o → IsOneLine (part_text words f o)
  part_line words e None c h = nothing_one
  part_line words e (Some x) c h = led words (f x) e (line x c h)

abbrev Any : {A : Type 0} → A → Type 0
Any x = Unit {0}

each_any : {A : Type 0} (xs : List A) → Each Any xs
each_any [] = tt
each_any (x ∷ xs) = (tt, each_any xs)

maybe_any : {A : Type 0} (o : Option A) → Maybe Any o
maybe_any None = tt
maybe_any (Some x) = tt

-- QUERIES
agg_plain : (a : Agg) → are_plain (agg_text a) ≡ true
agg_plain agg.Sum = refl
agg_plain agg.Min = refl
agg_plain agg.Max = refl

item_line : (x : ItemSyn) → ItemClear x → Any x → IsOneLine (item_text x)
item_line (item.Column c) i h = name_one c i
item_line item.Count i h = plain_one (codes "COUNT(*)") refl
item_line (item.Agg a c) i h = led (agg_text a) (codes "(" ++ (c ++ codes ")")) (agg_plain a) (led (codes "(") (c ++ codes ")") refl (ended c (codes ")") (name_one c i) refl))

items_line : (x : ItemsSyn) → ItemsClear x → IsOneLine (items_text x)
items_line items.All i = plain_one (codes "*") refl
items_line (items.These xs) i = list_line ItemClear Any item_text item_line xs i (each_any xs)

direction_plain : (o : Option Direction) → are_plain (direction_text o) ≡ true
direction_plain None = refl
direction_plain (Some direction.Asc) = refl
direction_plain (Some direction.Desc) = refl

key_line : (k : KeySyn) → KeyClear k → Any k → IsOneLine (key_text k)
key_line k i h = ended k.column (direction_text k.direction) (name_one k.column i) (direction_plain k.direction)

where_line : (o : Option Syn) → Maybe SynClear o → Maybe SynOne o → IsOneLine (where_text o)
where_line = part_line SynClear SynOne expr_text expr_line (codes " WHERE ") refl

group_line : (o : Option (List (List ℕ))) → Maybe (Some_each IsName) o → IsOneLine (group_text o)
group_line o c = part_line (Some_each IsName) Any (list_text (λ n. n)) (λ ns e h. list_line IsName Any (λ n. n) (λ n i h. name_one n i) ns e (each_any ns)) (codes " GROUP BY ") refl o c (maybe_any o)

order_line : (o : Option (List KeySyn)) → Maybe (Some_each KeyClear) o → IsOneLine (order_text o)
order_line o c = part_line (Some_each KeyClear) Any (list_text key_text) (λ ks e h. list_line KeyClear Any key_text key_line ks e (each_any ks)) (codes " ORDER BY ") refl o c (maybe_any o)

limit_line : (o : Option Size) → Maybe SizeClear o → IsOneLine (limit_text o)
limit_line o c = part_line SizeClear Any size_text (λ n i h. number_one n.0 i) (codes " LIMIT ") refl o c (maybe_any o)

select_line : (q : SelectSyn) → SelectClear q → Maybe SynOne q.cond → IsOneLine (select_text q)
select_line q c h =
    let limit = limit_line q.limit c.limit in
    let order = one_append (order_text q.order) (limit_text q.limit) (order_line q.order c.order) limit in
    let group = one_append (group_text q.group) (order_text q.order ++ limit_text q.limit) (group_line q.group c.group) order in
    let cond = one_append (where_text q.cond) (group_text q.group ++ (order_text q.order ++ limit_text q.limit)) (where_line q.cond c.cond h) group in
    let parts : List ℕ = where_text q.cond ++ (group_text q.group ++ (order_text q.order ++ limit_text q.limit)) in
    let table = one_append q.table parts (name_one q.table c.table) cond in
    let from = led (codes " FROM ") (q.table ++ parts) refl table in
    led (codes "SELECT ") (items_text q.items ++ (codes " FROM " ++ (q.table ++ parts))) refl (one_append (items_text q.items) (codes " FROM " ++ (q.table ++ parts)) (items_line q.items c.items) from)

-- STATEMENTS
tuple_line : (t : TupleSyn) → TupleClear t → TupleOne t → IsOneLine (tuple_text t)
tuple_line t c h = led (codes "(") (list_text expr_text t.values ++ codes ")") refl (ended (list_text expr_text t.values) (codes ")") (list_line SynClear SynOne expr_text expr_line t.values c h) refl)

assign_line : (a : AssignSyn) → AssignClear a → AssignOne a → IsOneLine (assign_text a)
assign_line a c h = one_append a.column (codes " = " ++ expr_text a.value) (name_one a.column c.0) (led (codes " = ") (expr_text a.value) refl (expr_line a.value c.1 h))

begin_plain : (l : Level) → are_plain (begin_text l) ≡ true
begin_plain level.ReadCommitted = refl
begin_plain level.RepeatableRead = refl

mode_plain : (m : Mode) → are_plain (mode_text m) ≡ true
mode_plain mode.AccessShare = refl
mode_plain mode.RowShare = refl
mode_plain mode.RowExclusive = refl
mode_plain mode.ShareUpdateExclusive = refl
mode_plain mode.Share = refl
mode_plain mode.ShareRowExclusive = refl
mode_plain mode.Exclusive = refl
mode_plain mode.AccessExclusive = refl

-- a statement whose texts may stand in a line is printed in one
pub stmt_line : (s : StmtSyn) → StmtClear s → StmtOne s → IsOneLine (stmt_text s)
stmt_line (stmt.Begin l) c h = plain_one (begin_text l) (begin_plain l)
stmt_line stmt.Commit c h = plain_one (codes "COMMIT") refl
stmt_line stmt.Rollback c h = plain_one (codes "ROLLBACK") refl
stmt_line (stmt.Select q) c h = select_line q c h
stmt_line (stmt.Insert t tuples) c h =
    let rows = list_line TupleClear TupleOne tuple_text tuple_line tuples c.1 h in
    led (codes "INSERT INTO ") (t ++ (codes " VALUES " ++ list_text tuple_text tuples)) refl
    (one_append t (codes " VALUES " ++ list_text tuple_text tuples) (name_one t c.0) (led (codes " VALUES ") (list_text tuple_text tuples) refl rows))
stmt_line (stmt.Update t assigns cond) c h =
    let set = one_append (list_text assign_text assigns) (where_text cond) (list_line AssignClear AssignOne assign_text assign_line assigns c.1 h.0) (where_line cond c.2 h.1) in
    led (codes "UPDATE ") (t ++ (codes " SET " ++ (list_text assign_text assigns ++ where_text cond))) refl
    (one_append t (codes " SET " ++ (list_text assign_text assigns ++ where_text cond)) (name_one t c.0) (led (codes " SET ") (list_text assign_text assigns ++ where_text cond) refl set))
stmt_line (stmt.Delete t cond) c h = led (codes "DELETE FROM ") (t ++ where_text cond) refl (one_append t (where_text cond) (name_one t c.0) (where_line cond c.1 h))
stmt_line (stmt.Lock t m) c h =
    led (codes "LOCK TABLE ") (t ++ (codes " IN " ++ (mode_text m ++ codes " MODE"))) refl
    (one_append t (codes " IN " ++ (mode_text m ++ codes " MODE")) (name_one t c) (led (codes " IN ") (mode_text m ++ codes " MODE") refl (led (mode_text m) (codes " MODE") (mode_plain m) (plain_one (codes " MODE") refl))))
