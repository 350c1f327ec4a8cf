-- The bytes of a statement are cut into its tokens.
use Rattle.std.specs.List.{flat_map}
use Rattle.std.proofs.Common.{ℕ, List, [], ◌∷◌, ◌++◌, codes, Option, Some, None, refl, subst, append-nil}
use Rattle.gx_lex.specs.declared.word.Word.TheVariants as word
use Rattle.gx_lex.specs.declared.symbol.Symbol.TheVariants as symbol
use Rattle.gx_lex.specs.declared.token.Token.{Token}
use Rattle.gx_lex.specs.declared.token.Token.TheVariants as token
use Rattle.gx_lex.specs.Lexing.{Lexes}
use Rattle.gx_tree.specs.declared.stmt.Level.{Level}
use Rattle.gx_tree.specs.declared.stmt.Level.TheVariants as level
use Rattle.gx_modes.specs.declared.modes.Mode.{Mode}
use Rattle.gx_modes.specs.declared.modes.Mode.TheVariants as mode
use Rattle.gx_grammar.specs.declared.syn.Syn.{Syn}
use Rattle.gx_lines.specs.declared.classes.Agg.{Agg}
use Rattle.gx_lines.specs.declared.classes.Agg.TheVariants as agg
use Rattle.gx_lines.specs.declared.classes.Direction.{Direction}
use Rattle.gx_lines.specs.declared.classes.Direction.TheVariants as direction
use Rattle.gx_lines.specs.declared.classes.Size.{Size}
use Rattle.gx_lines.specs.declared.syn.ItemSyn.{ItemSyn}
use Rattle.gx_lines.specs.declared.syn.ItemSyn.TheVariants as item
use Rattle.gx_lines.specs.declared.syn.ItemsSyn.{ItemsSyn}
use Rattle.gx_lines.specs.declared.syn.ItemsSyn.TheVariants as items
use Rattle.gx_lines.specs.declared.syn.KeySyn.{KeySyn}
use Rattle.gx_lines.specs.declared.syn.SelectSyn.{SelectSyn}
use Rattle.gx_lines.specs.declared.syn.TupleSyn.{TupleSyn}
use Rattle.gx_lines.specs.declared.syn.AssignSyn.{AssignSyn}
use Rattle.gx_lines.specs.declared.syn.StmtSyn.{StmtSyn}
use Rattle.gx_lines.specs.declared.syn.StmtSyn.TheVariants as stmt
use Rattle.gx_print.specs.Shapes.{IsName}
use Rattle.gx_print.specs.Forms.{shape_of}
use Rattle.gx_print.specs.Statements.{expr_tokens, name_token, list_tokens, part_tokens, agg_word, item_tokens, items_tokens, direction_tokens, key_tokens, where_tokens, group_tokens, order_tokens, size_tokens, limit_tokens, select_tokens, tuple_tokens, assign_tokens, begin_tokens, mode_tokens, stmt_tokens, expr_text, list_text, part_text, agg_text, item_text, items_text, direction_text, key_text, where_text, group_text, order_text, size_text, limit_text, select_text, tuple_text, assign_text, begin_text, mode_text, stmt_text}
use Rattle.gx_print.specs.Limited.{Each, Some_each, Maybe, SynClear, ItemClear, ItemsClear, KeyClear, SizeClear, SelectClear, TupleClear, AssignClear, StmtClear}
use Rattle.gx_print.proofs.Cuts.{Cuts, Follows, behind, also, nothing, spaced, comma, enclosed, called, lone, keyword, name_cuts, number_cuts}
use Rattle.gx_print.proofs.ShapeCut.{shape_cuts}

-- PARTS
rest_follows : {A : Type 0} (P : A → Type 0) (f : A → List Token) (g : A → List ℕ) → ((x : A) → P x → Cuts (f x) (g x)) → (xs : List A) → Each P xs → Follows (flat_map (λ x. token.Symbol symbol.Comma ∷ f x) xs) (flat_map (λ x. 44 ∷ 32 ∷ g x) xs)
rest_follows P f g h [] e = nothing
rest_follows P f g h (x ∷ xs) e = also (comma (h x e.0)) (rest_follows P f g h xs e.1)

list_cuts : {A : Type 0} (P : A → Type 0) (f : A → List Token) (g : A → List ℕ) → ((x : A) → P x → Cuts (f x) (g x)) → (xs : List A) → Some_each P xs → Cuts (list_tokens f xs) (list_text g xs)
list_cuts P f g h [] e = absurd e
list_cuts P f g h (x ∷ xs) e = behind (h x e.0) (rest_follows P f g h xs e.1)

part_follows : {A : Type 0} (P : A → Type 0) (us : List Token) (bs : List ℕ) (f : A → List Token) (g : A → List ℕ) → ((x : A) → P x → Follows (us ++ f x) (bs ++ g x)) → (o : Option A) → Maybe P o → Follows (part_tokens us f o) (part_text bs g o)
part_follows P us bs f g h None e = nothing
part_follows P us bs f g h (Some x) e = h x e

expr_cuts : (t : Syn) → SynClear t → Cuts (expr_tokens t) (expr_text t)
expr_cuts t c = shape_cuts (shape_of t) c

names_cut : (n : List ℕ) → IsName n → Cuts (name_token n) n
names_cut n i = name_cuts n i

-- behind a space
next : {us vs : List Token} {bs cs : List ℕ} → Cuts us bs → Follows vs cs → Follows (us ++ vs) (32 ∷ (bs ++ cs))
next f g = spaced (behind f g)

-- QUERIES
agg_cuts : (a : Agg) → Cuts (token.Word (agg_word a) ∷ []) (agg_text a)
agg_cuts agg.Sum = keyword word.Sum (codes "SUM") refl refl
agg_cuts agg.Min = keyword word.Min (codes "MIN") refl refl
agg_cuts agg.Max = keyword word.Max (codes "MAX") refl refl

star_cuts : Cuts (token.Symbol symbol.Star ∷ []) (codes "*")
star_cuts = lone symbol.Star (codes "*") (λ rest b. tt) refl

item_cuts : (x : ItemSyn) → ItemClear x → Cuts (item_tokens x) (item_text x)
item_cuts (item.Column c) i = name_cuts c i
item_cuts item.Count i = behind (keyword word.Count (codes "COUNT") refl refl) (called star_cuts)
item_cuts (item.Agg a c) i = behind (agg_cuts a) (called (name_cuts c i))

items_cut : (x : ItemsSyn) → ItemsClear x → Cuts (items_tokens x) (items_text x)
items_cut items.All i = star_cuts
items_cut (items.These xs) i = list_cuts ItemClear item_tokens item_text item_cuts xs i

direction_follows : (o : Option Direction) → Follows (direction_tokens o) (direction_text o)
direction_follows None = nothing
direction_follows (Some direction.Asc) = spaced (keyword word.Asc (codes "ASC") refl refl)
direction_follows (Some direction.Desc) = spaced (keyword word.Desc (codes "DESC") refl refl)

key_cuts : (k : KeySyn) → KeyClear k → Cuts (key_tokens k) (key_text k)
key_cuts k i = behind (name_cuts k.column i) (direction_follows k.direction)

where_follows : (o : Option Syn) → Maybe SynClear o → Follows (where_tokens o) (where_text o)
where_follows = part_follows SynClear (token.Word word.Where ∷ []) (codes " WHERE ") expr_tokens expr_text (λ t c. next (keyword word.Where (codes "WHERE") refl refl) (spaced (expr_cuts t c)))

by_follows : {us : List Token} {bs : List ℕ} → Cuts us bs → Follows (token.Word word.By ∷ us) (codes " BY " ++ bs)
by_follows f = next (keyword word.By (codes "BY") refl refl) (spaced f)

group_follows : (o : Option (List (List ℕ))) → Maybe (Some_each IsName) o → Follows (group_tokens o) (group_text o)
group_follows = part_follows (Some_each IsName) (token.Word word.Group ∷ token.Word word.By ∷ []) (codes " GROUP BY ") (list_tokens name_token) (list_text (λ n. n)) (λ ns c. next (keyword word.Group (codes "GROUP") refl refl) (by_follows (list_cuts IsName name_token (λ n. n) names_cut ns c)))

order_follows : (o : Option (List KeySyn)) → Maybe (Some_each KeyClear) o → Follows (order_tokens o) (order_text o)
order_follows = part_follows (Some_each KeyClear) (token.Word word.Order ∷ token.Word word.By ∷ []) (codes " ORDER BY ") (list_tokens key_tokens) (list_text key_text) (λ ks c. next (keyword word.Order (codes "ORDER") refl refl) (by_follows (list_cuts KeyClear key_tokens key_text key_cuts ks c)))

limit_follows : (o : Option Size) → Maybe SizeClear o → Follows (limit_tokens o) (limit_text o)
limit_follows = part_follows SizeClear (token.Word word.Limit ∷ []) (codes " LIMIT ") size_tokens size_text (λ n c. next (keyword word.Limit (codes "LIMIT") refl refl) (spaced (number_cuts n.0 c)))

select_cuts : (q : SelectSyn) → SelectClear q → Cuts (select_tokens q) (select_text q)
select_cuts q c =
    let ends = also (where_follows q.cond c.cond) (also (group_follows q.group c.group) (also (order_follows q.order c.order) (limit_follows q.limit c.limit))) in
    let from = next (keyword word.From (codes "FROM") refl refl) (next (name_cuts q.table c.table) ends) in
    behind (keyword word.Select (codes "SELECT") refl refl) (next (items_cut q.items c.items) from)

-- STATEMENTS
tuple_cuts : (t : TupleSyn) → TupleClear t → Cuts (tuple_tokens t) (tuple_text t)
tuple_cuts t c = enclosed (list_cuts SynClear expr_tokens expr_text expr_cuts t.values c)

assign_cuts : (a : AssignSyn) → AssignClear a → Cuts (assign_tokens a) (assign_text a)
assign_cuts a c = behind (name_cuts a.column c.0) (next (lone symbol.Equal (codes "=") (λ rest b. tt) refl) (spaced (expr_cuts a.value c.1)))

begin_cuts : (l : Level) → Cuts (token.Word word.Begin ∷ begin_tokens l) (begin_text l)
begin_cuts level.ReadCommitted = keyword word.Begin (codes "BEGIN") refl refl
begin_cuts level.RepeatableRead = behind (keyword word.Begin (codes "BEGIN") refl refl)
    (next (keyword word.Isolation (codes "ISOLATION") refl refl)
    (next (keyword word.Level (codes "LEVEL") refl refl)
    (next (keyword word.Repeatable (codes "REPEATABLE") refl refl)
    (spaced (keyword word.Read (codes "READ") refl refl)))))

access : Cuts (token.Word word.Access ∷ []) (codes "ACCESS")
access = keyword word.Access (codes "ACCESS") refl refl

row : Cuts (token.Word word.Row ∷ []) (codes "ROW")
row = keyword word.Row (codes "ROW") refl refl

share : Cuts (token.Word word.Share ∷ []) (codes "SHARE")
share = keyword word.Share (codes "SHARE") refl refl

exclusive : Cuts (token.Word word.Exclusive ∷ []) (codes "EXCLUSIVE")
exclusive = keyword word.Exclusive (codes "EXCLUSIVE") refl refl

mode_cuts : (m : Mode) → Cuts (mode_tokens m) (mode_text m)
mode_cuts mode.AccessShare = behind access (spaced share)
mode_cuts mode.RowShare = behind row (spaced share)
mode_cuts mode.RowExclusive = behind row (spaced exclusive)
mode_cuts mode.ShareUpdateExclusive = behind share (next (keyword word.Update (codes "UPDATE") refl refl) (spaced exclusive))
mode_cuts mode.Share = share
mode_cuts mode.ShareRowExclusive = behind share (next row (spaced exclusive))
mode_cuts mode.Exclusive = exclusive
mode_cuts mode.AccessExclusive = behind access (spaced exclusive)

pub stmt_cuts : (s : StmtSyn) → StmtClear s → Cuts (stmt_tokens s) (stmt_text s)
stmt_cuts (stmt.Begin l) c = begin_cuts l
stmt_cuts stmt.Commit c = keyword word.Commit (codes "COMMIT") refl refl
stmt_cuts stmt.Rollback c = keyword word.Rollback (codes "ROLLBACK") refl refl
stmt_cuts (stmt.Select q) c = select_cuts q c
stmt_cuts (stmt.Insert t tuples) c =
    let values = next (keyword word.Values (codes "VALUES") refl refl) (spaced (list_cuts TupleClear tuple_tokens tuple_text tuple_cuts tuples c.1)) in
    behind (keyword word.Insert (codes "INSERT") refl refl) (next (keyword word.Into (codes "INTO") refl refl) (next (name_cuts t c.0) values))
stmt_cuts (stmt.Update t assigns cond) c =
    let parts = next (list_cuts AssignClear assign_tokens assign_text assign_cuts assigns c.1) (where_follows cond c.2) in
    behind (keyword word.Update (codes "UPDATE") refl refl) (next (name_cuts t c.0) (next (keyword word.Set (codes "SET") refl refl) parts))
stmt_cuts (stmt.Delete t cond) c = behind (keyword word.Delete (codes "DELETE") refl refl) (next (keyword word.From (codes "FROM") refl refl) (next (name_cuts t c.0) (where_follows cond c.1)))
stmt_cuts (stmt.Lock t m) c =
    let ends = next (mode_cuts m) (spaced (keyword word.Mode (codes "MODE") refl refl)) in
    let kept = next (keyword word.In (codes "IN") refl refl) ends in
    behind (keyword word.Lock (codes "LOCK") refl refl) (next (keyword word.Table (codes "TABLE") refl refl) (next (name_cuts t c) kept))

whole : (us : List Token) (bs : List ℕ) → Cuts us bs → Lexes (us ++ []) (bs ++ [])
whole us bs f = f.holds [] [] tt tt

-- a statement's bytes are cut into its tokens
pub stmt_cut : (s : StmtSyn) → StmtClear s → Lexes (stmt_tokens s) (stmt_text s)
stmt_cut s c = subst (λ (x : List Token). Lexes x (stmt_text s)) (append-nil (stmt_tokens s)) (subst (λ (y : List ℕ). Lexes (stmt_tokens s ++ []) y) (append-nil (stmt_text s)) (whole (stmt_tokens s) (stmt_text s) (stmt_cuts s c)))
