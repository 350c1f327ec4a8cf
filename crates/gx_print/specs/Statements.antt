-- The printed form of a statement as it is written: its tokens and its bytes.
use Rattle.std.specs.Prelude.{ℕ, List, [], ◌∷◌, ◌++◌, codes, Option, Some, None}
use Rattle.std.specs.List.{join_by}
use Rattle.gx_lex.specs.declared.word.Word.{Word}
use Rattle.gx_lex.specs.declared.word.Word.TheVariants as word
use Rattle.gx_lex.specs.declared.symbol.Symbol.TheVariants as symbol
use Rattle.gx_lex.specs.declared.token.Token.{Token}
use Rattle.gx_lex.specs.declared.token.Token.TheVariants as token
use Rattle.gx_tree.specs.declared.stmt.Level.{Level}
use Rattle.gx_tree.specs.declared.stmt.Level.TheVariants as level
use Rattle.gx_modes.specs.declared.modes.Mode.{Mode}
use Rattle.gx_modes.specs.declared.modes.Mode.TheVariants as mode
use Rattle.gx_grammar.specs.declared.syn.Syn.{Syn}
use Rattle.gx_grammar.specs.Grammar.{tokens_of}
use Rattle.gx_lines.specs.declared.classes.Agg.{Agg}
use Rattle.gx_lines.specs.declared.classes.Agg.TheVariants as agg
use Rattle.gx_lines.specs.declared.classes.Direction.{Direction}
use Rattle.gx_lines.specs.declared.classes.Direction.TheVariants as direction
use Rattle.gx_lines.specs.declared.classes.Size.{Size}
use Rattle.gx_lines.specs.declared.syn.ItemSyn.{ItemSyn}
use Rattle.gx_lines.specs.declared.syn.ItemSyn.TheVariants as item
use Rattle.gx_lines.specs.declared.syn.ItemsSyn.{ItemsSyn}
use Rattle.gx_lines.specs.declared.syn.ItemsSyn.TheVariants as items
use Rattle.gx_lines.specs.declared.syn.KeySyn.{KeySyn}
use Rattle.gx_lines.specs.declared.syn.SelectSyn.{SelectSyn}
use Rattle.gx_lines.specs.declared.syn.TupleSyn.{TupleSyn}
use Rattle.gx_lines.specs.declared.syn.AssignSyn.{AssignSyn}
use Rattle.gx_lines.specs.declared.syn.StmtSyn.{StmtSyn}
use Rattle.gx_lines.specs.declared.syn.StmtSyn.TheVariants as stmt
use Rattle.gx_print.specs.Shapes.{shape_text, number_text}
use Rattle.gx_print.specs.Forms.{shape_of}

-- THE TOKENS
abbrev pub expr_tokens : Syn → List Token
expr_tokens syn = tokens_of (shape_of syn)

abbrev pub name_token : List ℕ → List Token
name_token n = token.Name n ∷ []

-- with a comma between
abbrev pub list_tokens : {A : Type 0} → (A → List Token) → List A → List Token
list_tokens f xs = join_by f (token.Symbol symbol.Comma ∷ []) xs

-- behind words, where there is something
abbrev pub part_tokens : {A : Type 0} → List Token → (A → List Token) → Option A → List Token
part_tokens words f None = []
part_tokens words f (Some a) = words ++ f a

abbrev pub in_parens : List Token → List Token
in_parens ts = token.Symbol symbol.Open ∷ (ts ++ token.Symbol symbol.Close ∷ [])

abbrev pub agg_word : Agg → Word
agg_word agg.Sum = word.Sum
agg_word agg.Min = word.Min
agg_word agg.Max = word.Max

abbrev pub item_tokens : ItemSyn → List Token
item_tokens (item.Column c) = name_token c
item_tokens item.Count = token.Word word.Count ∷ in_parens (token.Symbol symbol.Star ∷ [])
item_tokens (item.Agg a c) = token.Word (agg_word a) ∷ in_parens (name_token c)

abbrev pub items_tokens : ItemsSyn → List Token
items_tokens items.All = token.Symbol symbol.Star ∷ []
items_tokens (items.These xs) = list_tokens item_tokens xs

abbrev pub direction_word : Direction → Word
direction_word direction.Asc = word.Asc
direction_word direction.Desc = word.Desc

abbrev pub direction_tokens : Option Direction → List Token
direction_tokens None = []
direction_tokens (Some d) = token.Word (direction_word d) ∷ []

abbrev pub key_tokens : KeySyn → List Token
key_tokens k = token.Name k.column ∷ direction_tokens k.direction

abbrev pub where_tokens : Option Syn → List Token
where_tokens = part_tokens (token.Word word.Where ∷ []) expr_tokens

abbrev pub group_tokens : Option (List (List ℕ)) → List Token
group_tokens = part_tokens (token.Word word.Group ∷ token.Word word.By ∷ []) (list_tokens name_token)

abbrev pub order_tokens : Option (List KeySyn) → List Token
order_tokens = part_tokens (token.Word word.Order ∷ token.Word word.By ∷ []) (list_tokens key_tokens)

abbrev pub size_tokens : Size → List Token
size_tokens n = token.Number n.0 ∷ []

abbrev pub limit_tokens : Option Size → List Token
limit_tokens = part_tokens (token.Word word.Limit ∷ []) size_tokens

abbrev pub select_tokens : SelectSyn → List Token
select_tokens q = token.Word word.Select ∷ (items_tokens q.items ++ token.Word word.From ∷ token.Name q.table
    ∷ (where_tokens q.cond ++ (group_tokens q.group ++ (order_tokens q.order ++ limit_tokens q.limit))))

abbrev pub tuple_tokens : TupleSyn → List Token
tuple_tokens t = in_parens (list_tokens expr_tokens t.values)

abbrev pub assign_tokens : AssignSyn → List Token
assign_tokens a = token.Name a.column ∷ token.Symbol symbol.Equal ∷ expr_tokens a.value

abbrev pub begin_tokens : Level → List Token
begin_tokens level.ReadCommitted = []
begin_tokens level.RepeatableRead = token.Word word.Isolation ∷ token.Word word.Level ∷ token.Word word.Repeatable ∷ token.Word word.Read ∷ []

abbrev pub mode_tokens : Mode → List Token
mode_tokens mode.AccessShare = token.Word word.Access ∷ token.Word word.Share ∷ []
mode_tokens mode.RowShare = token.Word word.Row ∷ token.Word word.Share ∷ []
mode_tokens mode.RowExclusive = token.Word word.Row ∷ token.Word word.Exclusive ∷ []
mode_tokens mode.ShareUpdateExclusive = token.Word word.Share ∷ token.Word word.Update ∷ token.Word word.Exclusive ∷ []
mode_tokens mode.Share = token.Word word.Share ∷ []
mode_tokens mode.ShareRowExclusive = token.Word word.Share ∷ token.Word word.Row ∷ token.Word word.Exclusive ∷ []
mode_tokens mode.Exclusive = token.Word word.Exclusive ∷ []
mode_tokens mode.AccessExclusive = token.Word word.Access ∷ token.Word word.Exclusive ∷ []

abbrev pub stmt_tokens : StmtSyn → List Token
stmt_tokens (stmt.Begin l) = token.Word word.Begin ∷ begin_tokens l
stmt_tokens stmt.Commit = token.Word word.Commit ∷ []
stmt_tokens stmt.Rollback = token.Word word.Rollback ∷ []
stmt_tokens (stmt.Select q) = select_tokens q
stmt_tokens (stmt.Insert t tuples) = token.Word word.Insert ∷ token.Word word.Into ∷ token.Name t ∷ token.Word word.Values ∷ list_tokens tuple_tokens tuples
stmt_tokens (stmt.Update t assigns cond) = token.Word word.Update ∷ token.Name t ∷ token.Word word.Set ∷ (list_tokens assign_tokens assigns ++ where_tokens cond)
stmt_tokens (stmt.Delete t cond) = token.Word word.Delete ∷ token.Word word.From ∷ token.Name t ∷ where_tokens cond
stmt_tokens (stmt.Lock t m) = token.Word word.Lock ∷ token.Word word.Table ∷ token.Name t ∷ token.Word word.In ∷ (mode_tokens m ++ token.Word word.Mode ∷ [])

-- THE BYTES: keywords in capitals, one space between tokens, none behind "(" and before ")" and ","
abbrev pub expr_text : Syn → List ℕ
expr_text syn = shape_text (shape_of syn)

abbrev pub list_text : {A : Type 0} → (A → List ℕ) → List A → List ℕ
list_text f xs = join_by f (codes ", ") xs

abbrev pub part_text : {A : Type 0} → List ℕ → (A → List ℕ) → Option A → List ℕ
part_text words f None = []
part_text words f (Some a) = words ++ f a

abbrev pub agg_text : Agg → List ℕ
agg_text agg.Sum = codes "SUM"
agg_text agg.Min = codes "MIN"
agg_text agg.Max = codes "MAX"

abbrev pub item_text : ItemSyn → List ℕ
item_text (item.Column c) = c
item_text item.Count = codes "COUNT(*)"
item_text (item.Agg a c) = agg_text a ++ (codes "(" ++ (c ++ codes ")"))

abbrev pub items_text : ItemsSyn → List ℕ
items_text items.All = codes "*"
items_text (items.These xs) = list_text item_text xs

abbrev pub direction_text : Option Direction → List ℕ
direction_text None = []
direction_text (Some direction.Asc) = codes " ASC"
direction_text (Some direction.Desc) = codes " DESC"

abbrev pub key_text : KeySyn → List ℕ
key_text k = k.column ++ direction_text k.direction

abbrev pub where_text : Option Syn → List ℕ
where_text = part_text (codes " WHERE ") expr_text

abbrev pub group_text : Option (List (List ℕ)) → List ℕ
group_text = part_text (codes " GROUP BY ") (list_text (λ n. n))

abbrev pub order_text : Option (List KeySyn) → List ℕ
order_text = part_text (codes " ORDER BY ") (list_text key_text)

abbrev pub size_text : Size → List ℕ
size_text n = number_text n.0

abbrev pub limit_text : Option Size → List ℕ
limit_text = part_text (codes " LIMIT ") size_text

abbrev pub select_text : SelectSyn → List ℕ
select_text q = codes "SELECT " ++ (items_text q.items ++ (codes " FROM " ++ (q.table ++ (where_text q.cond ++ (group_text q.group ++ (order_text q.order ++ limit_text q.limit))))))

abbrev pub tuple_text : TupleSyn → List ℕ
tuple_text t = codes "(" ++ (list_text expr_text t.values ++ codes ")")

abbrev pub assign_text : AssignSyn → List ℕ
assign_text a = a.column ++ (codes " = " ++ expr_text a.value)

abbrev pub begin_text : Level → List ℕ
begin_text level.ReadCommitted = codes "BEGIN"
begin_text level.RepeatableRead = codes "BEGIN ISOLATION LEVEL REPEATABLE READ"

abbrev pub mode_text : Mode → List ℕ
mode_text mode.AccessShare = codes "ACCESS SHARE"
mode_text mode.RowShare = codes "ROW SHARE"
mode_text mode.RowExclusive = codes "ROW EXCLUSIVE"
mode_text mode.ShareUpdateExclusive = codes "SHARE UPDATE EXCLUSIVE"
mode_text mode.Share = codes "SHARE"
mode_text mode.ShareRowExclusive = codes "SHARE ROW EXCLUSIVE"
mode_text mode.Exclusive = codes "EXCLUSIVE"
mode_text mode.AccessExclusive = codes "ACCESS EXCLUSIVE"

abbrev pub stmt_text : StmtSyn → List ℕ
stmt_text (stmt.Begin l) = begin_text l
stmt_text stmt.Commit = codes "COMMIT"
stmt_text stmt.Rollback = codes "ROLLBACK"
stmt_text (stmt.Select q) = select_text q
stmt_text (stmt.Insert t tuples) = codes "INSERT INTO " ++ (t ++ (codes " VALUES " ++ list_text tuple_text tuples))
stmt_text (stmt.Update t assigns cond) = codes "UPDATE " ++ (t ++ (codes " SET " ++ (list_text assign_text assigns ++ where_text cond)))
stmt_text (stmt.Delete t cond) = codes "DELETE FROM " ++ (t ++ where_text cond)
stmt_text (stmt.Lock t m) = codes "LOCK TABLE " ++ (t ++ (codes " IN " ++ (mode_text m ++ codes " MODE")))
