-- A written statement as it is printed: `*` as its columns, ASC left out, and no sign at a zero.
use Rattle.std.specs.Prelude.{ℕ, zero, Bool, true, false, List, map, Option, Some, None}
use Rattle.std.specs.Option.{option_map}
use Rattle.gx_tree.specs.declared.schema.Column.{Column}
use Rattle.gx_grammar.specs.declared.syn.Syn.{Syn}
use Rattle.gx_grammar.specs.declared.syn.Syn.TheVariants as syn
use Rattle.gx_grammar.specs.declared.syn.Syn.TheOpen.{Syn-F}
use Rattle.gx_grammar.specs.declared.syn.Syn.TheFolds.{fold-Syn}
use Rattle.gx_lines.specs.declared.classes.Direction.{Direction}
use Rattle.gx_lines.specs.declared.classes.Direction.TheVariants as direction
use Rattle.gx_lines.specs.declared.syn.ItemSyn.{ItemSyn}
use Rattle.gx_lines.specs.declared.syn.ItemSyn.TheVariants as item
use Rattle.gx_lines.specs.declared.syn.ItemsSyn.{ItemsSyn}
use Rattle.gx_lines.specs.declared.syn.ItemsSyn.TheVariants as items
use Rattle.gx_lines.specs.declared.syn.KeySyn.{KeySyn}
use Rattle.gx_lines.specs.declared.syn.SelectSyn.{SelectSyn}
use Rattle.gx_lines.specs.declared.syn.TupleSyn.{TupleSyn}
use Rattle.gx_lines.specs.declared.syn.AssignSyn.{AssignSyn}
use Rattle.gx_lines.specs.declared.syn.StmtSyn.{StmtSyn}
use Rattle.gx_lines.specs.declared.syn.StmtSyn.TheVariants as stmt

abbrev pub tidy_number : Bool → Option ℕ → Syn
tidy_number true (Some zero) = syn.Number false (Some zero)
tidy_number negative n = syn.Number negative n

abbrev pub tidy_step : Syn-F Syn → Syn
tidy_step (Syn-F.Number negative n) = tidy_number negative n
tidy_step (Syn-F.Text t) = syn.Text t
tidy_step (Syn-F.Column c) = syn.Column c
tidy_step (Syn-F.Neg t) = syn.Neg t
tidy_step (Syn-F.Not t) = syn.Not t
tidy_step (Syn-F.Bin o s t) = syn.Bin o s t

abbrev pub tidy : Syn → Syn
tidy t = fold-Syn Syn tidy_step t

abbrev pub tidy_direction : Option Direction → Option Direction
tidy_direction (Some direction.Desc) = Some direction.Desc
tidy_direction _ = None

abbrev pub tidy_key : KeySyn → KeySyn
tidy_key k = record { column = k.column; direction = tidy_direction k.direction }

abbrev pub column_item : Column → ItemSyn
column_item c = item.Column c.name

abbrev pub tidy_items : List Column → ItemsSyn → ItemsSyn
tidy_items columns items.All = items.These (map column_item columns)
tidy_items columns (items.These xs) = items.These xs

abbrev pub tidy_select : List Column → SelectSyn → SelectSyn
tidy_select columns q = record { items = tidy_items columns q.items; table = q.table; cond = option_map tidy q.cond; group = q.group; order = option_map (map tidy_key) q.order; limit = q.limit }

abbrev pub tidy_tuple : TupleSyn → TupleSyn
tidy_tuple t = record { values = map tidy t.values }

abbrev pub tidy_assign : AssignSyn → AssignSyn
tidy_assign a = record { column = a.column; value = tidy a.value }

-- over the columns of its table
abbrev pub tidied : List Column → StmtSyn → StmtSyn
tidied columns (stmt.Select q) = stmt.Select (tidy_select columns q)
tidied columns (stmt.Insert t tuples) = stmt.Insert t (map tidy_tuple tuples)
tidied columns (stmt.Update t assigns cond) = stmt.Update t (map tidy_assign assigns) (option_map tidy cond)
tidied columns (stmt.Delete t cond) = stmt.Delete t (option_map tidy cond)
tidied columns s = s
