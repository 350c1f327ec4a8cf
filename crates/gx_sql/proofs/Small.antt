-- A statement that was read within the limits: its lists have parts, and its expressions keep the limits over whatever columns.
use Rattle.std.proofs.Common.{inl, inr, Option, Some, None, sym, subst}
use Rattle.std.specs.List.{AllByRecursion}
use Rattle.gx_lex.specs.declared.word.Word.TheVariants as word
use Rattle.gx_lex.specs.declared.symbol.Symbol.TheVariants as symbol
use Rattle.gx_tree.specs.declared.stmt.Level.{Level}
use Rattle.gx_grammar.specs.declared.syn.Syn.{Syn}
use Rattle.gx_grammar.specs.Rules.{behind}
use Rattle.gx_grammar.specs.Tokens.{is_word, is_sign, listed}
use Rattle.gx_grammar.specs.Grammar.{expr}
use Rattle.gx_lines.specs.declared.syn.ItemsSyn.{ItemsSyn}
use Rattle.gx_lines.specs.declared.syn.ItemsSyn.TheVariants as items
use Rattle.gx_lines.specs.declared.syn.SelectSyn.{SelectSyn}
use Rattle.gx_lines.specs.declared.syn.TupleSyn.{TupleSyn}
use Rattle.gx_lines.specs.declared.syn.AssignSyn.{AssignSyn}
use Rattle.gx_lines.specs.declared.syn.StmtSyn.{StmtSyn}
use Rattle.gx_lines.specs.declared.syn.StmtSyn.TheVariants as stmt
use Rattle.gx_lines.specs.Queries as query
use Rattle.gx_lines.specs.Statements as rule
use Rattle.gx_sql.specs.Script.{the_limits}
use Rattle.gx_sql.proofs.Extents.{IsSmall, expr-small}
use Rattle.gx_sql.proofs.Having.{AreProper, Has, HasOne, AreSome, Maybe, front, back, behind_has, list_has, parens_have, maybe_has}

abbrev pub IsSmallWhere : Option Syn → Type 0
IsSmallWhere cond = Maybe IsSmall cond

abbrev pub HaveItem : ItemsSyn → Type 0
HaveItem items.All = Unit {0}
HaveItem (items.These xs) = HasOne xs

abbrev pub IsSmallSelect : SelectSyn → Type 0
IsSmallSelect q = HaveItem q.items × IsSmallWhere q.cond × Maybe HasOne q.group

abbrev pub IsSmallTuple : TupleSyn → Type 0
IsSmallTuple t = AllByRecursion IsSmall t.values

abbrev pub IsSmallAssign : AssignSyn → Type 0
IsSmallAssign a = IsSmall a.value

abbrev pub IsSmallStmt : StmtSyn → Type 0
IsSmallStmt (stmt.Select q) = IsSmallSelect q
IsSmallStmt (stmt.Insert t tuples) = AreSome IsSmallTuple tuples
IsSmallStmt (stmt.Update t assigns cond) = AreSome IsSmallAssign assigns × IsSmallWhere cond
IsSmallStmt (stmt.Delete t cond) = IsSmallWhere cond
IsSmallStmt _ = Unit {0}

-- BY THE RULES
expr_small : Has (expr the_limits) IsSmall
expr_small t ts e w = expr-small t ts w

where_small : Has (query.where_part the_limits) IsSmallWhere
where_small = maybe_has (behind (is_word word.Where) (expr the_limits)) IsSmall (behind_has (is_word word.Where) (expr the_limits) IsSmall expr_small)

-- anything is so
abbrev Anything : {A : Type 0} → A → Type 0
Anything a = Unit {0}

item_any : Has (query.item the_limits) Anything
item_any x ts e w = tt

name_any : Has (query.name the_limits) Anything
name_any x ts e w = tt

items_small : Has (query.items the_limits) HaveItem
items_small x ts e (inl (u, k, w)) = subst HaveItem (sym k) tt
items_small x ts e (inr (xs, k, w)) = subst HaveItem (sym k) (list_has (query.item the_limits) Anything item_any xs ts e w).0

names_some : Has (listed (query.name the_limits)) HasOne
names_some ns ts e w = (list_has (query.name the_limits) Anything name_any ns ts e w).0

group_small : Has (query.group_part the_limits) (Maybe HasOne)
group_small = maybe_has (behind (is_word word.Group) (behind (is_word word.By) (listed (query.name the_limits)))) HasOne
    (behind_has (is_word word.Group) (behind (is_word word.By) (listed (query.name the_limits))) HasOne (behind_has (is_word word.By) (listed (query.name the_limits)) HasOne names_some))

select_small : Has (query.select the_limits) IsSmallSelect
select_small q ts e (p, k, (us, vs, items, (us1, vs1, table, (us2, vs2, cond, (us3, vs3, group, rest, k3), k2), k1), k0)) =
    let all = subst AreProper k0 e in
    let one = subst AreProper k1 (back us vs all) in
    let two = subst AreProper k2 (back us1 vs1 one) in
    let three = subst AreProper k3 (back us2 vs2 two) in
    subst IsSmallSelect (sym k) (
      behind_has (is_word word.Select) (query.items the_limits) HaveItem items_small p.0 us (front us vs all) items,
      where_small p.1.1.0 us2 (front us2 vs2 two) cond,
      group_small p.1.1.1.0 us3 (front us3 vs3 three) group,
    )

tuple_small : Has (rule.tuple the_limits) IsSmallTuple
tuple_small t ts e (values, k, w) = subst IsSmallTuple (sym k) (parens_have (listed (expr the_limits)) (AreSome IsSmall) (list_has (expr the_limits) IsSmall expr_small) values ts e w).1

assign_small : Has (rule.assign the_limits) IsSmallAssign
assign_small a ts e (p, k, (us, vs, w, v, all)) =
    subst IsSmallAssign (sym k) (behind_has (is_sign symbol.Equal) (expr the_limits) IsSmall expr_small p.1 vs (back us vs (subst AreProper all e)) v)

begin_small : (o : Option Level) → IsSmallStmt (rule.level_or o)
begin_small None = tt
begin_small (Some l) = tt

pub stmt_small : Has (rule.stmt the_limits) IsSmallStmt
stmt_small s ts e (inl (o, k, w)) = subst IsSmallStmt (sym k) (begin_small o)
stmt_small s ts e (inr (inl (u, k, w))) = subst IsSmallStmt (sym k) tt
stmt_small s ts e (inr (inr (inl (u, k, w)))) = subst IsSmallStmt (sym k) tt
stmt_small s ts e (inr (inr (inr (inl (q, k, w))))) = subst IsSmallStmt (sym k) (select_small q ts e w)
stmt_small s ts e (inr (inr (inr (inr (inl (p, k, (us, vs, t, v, all))))))) =
    subst IsSmallStmt (sym k) (behind_has (is_word word.Values) (listed (rule.tuple the_limits)) (AreSome IsSmallTuple) (list_has (rule.tuple the_limits) IsSmallTuple tuple_small) p.1 vs (back us vs (subst AreProper all e)) v)
stmt_small s ts e (inr (inr (inr (inr (inr (inl (p, k, (us, vs, t, (us1, vs1, a, c, k1), all)))))))) =
    let rest = subst AreProper k1 (back us vs (subst AreProper all e)) in
    subst IsSmallStmt (sym k) (
      behind_has (is_word word.Set) (listed (rule.assign the_limits)) (AreSome IsSmallAssign) (list_has (rule.assign the_limits) IsSmallAssign assign_small) p.1.0 us1 (front us1 vs1 rest) a,
      where_small p.1.1 vs1 (back us1 vs1 rest) c,
    )
stmt_small s ts e (inr (inr (inr (inr (inr (inr (inl (p, k, (us, vs, t, c, all))))))))) =
    subst IsSmallStmt (sym k) (where_small p.1 vs (back us vs (subst AreProper all e)) c)
stmt_small s ts e (inr (inr (inr (inr (inr (inr (inr (p, k, w)))))))) = subst IsSmallStmt (sym k) tt
