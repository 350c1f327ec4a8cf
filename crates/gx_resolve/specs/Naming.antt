-- The names of a statement from left to right, each with what it must be, and the first that is wrong.
use Rattle.std.specs.Prelude.{ℕ, nat_eq, Bool, if◌then◌else◌, List, [], ◌∷◌, ◌++◌, map, Option, Some, None, Ok, Err}
use Rattle.std.specs.List.{list_any, flat_map}
use Rattle.std.specs.Cmp.Lexicographic.{pointwise}
use Rattle.gx_tree.specs.declared.schema.Column.{Column}
use Rattle.gx_grammar.specs.declared.syn.Syn.{Syn}
use Rattle.gx_grammar.specs.declared.syn.Syn.TheOpen.{Syn-F}
use Rattle.gx_grammar.specs.declared.syn.Syn.TheFolds.{fold-Syn}
use Rattle.gx_lines.specs.declared.syn.ItemSyn.{ItemSyn}
use Rattle.gx_lines.specs.declared.syn.ItemSyn.TheVariants as item_syn
use Rattle.gx_lines.specs.declared.syn.ItemsSyn.{ItemsSyn}
use Rattle.gx_lines.specs.declared.syn.ItemsSyn.TheVariants as items_syn
use Rattle.gx_lines.specs.declared.syn.KeySyn.{KeySyn}
use Rattle.gx_lines.specs.declared.syn.SelectSyn.{SelectSyn}
use Rattle.gx_lines.specs.declared.syn.TupleSyn.{TupleSyn}
use Rattle.gx_lines.specs.declared.syn.AssignSyn.{AssignSyn}
use Rattle.gx_lines.specs.declared.syn.StmtSyn.{StmtSyn}
use Rattle.gx_lines.specs.declared.syn.StmtSyn.TheVariants as stmt_syn
use Rattle.gx_resolve.specs.declared.fault.NameFault.TheVariants.{Syntax, UnknownColumn}
use Rattle.gx_resolve.specs.Results.{Answer}

-- a column's name: of one that is used, or of one that SET gives a value
pub data Name : Type 0 where
  Used : List ℕ → Name
  Given : List ℕ → Name

-- THE NAMES, FROM LEFT TO RIGHT
-- the names in an expression, by one node of the tree with those of its parts
abbrev pub names_step : Syn-F (List (List ℕ)) → List (List ℕ)
names_step (Syn-F.Number negative size) = []
names_step (Syn-F.Text text) = []
names_step (Syn-F.Column name) = name ∷ []
names_step (Syn-F.Neg inner) = inner
names_step (Syn-F.Not inner) = inner
names_step (Syn-F.Bin op left right) = left ++ right

abbrev pub names_in : Syn → List (List ℕ)
names_in syn = fold-Syn (List (List ℕ)) names_step syn

abbrev pub item_names : ItemSyn → List (List ℕ)
item_names (item_syn.Column name) = name ∷ []
item_names item_syn.Count = []
item_names (item_syn.Agg agg name) = name ∷ []

abbrev pub items_names : ItemsSyn → List (List ℕ)
items_names items_syn.All = []
items_names (items_syn.These items) = flat_map item_names items

abbrev pub where_names : Option Syn → List (List ℕ)
where_names None = []
where_names (Some syn) = names_in syn

abbrev pub group_names : Option (List (List ℕ)) → List (List ℕ)
group_names None = []
group_names (Some names) = names

abbrev pub key_name : KeySyn → List ℕ
key_name key = key.column

abbrev pub order_names : Option (List KeySyn) → List (List ℕ)
order_names None = []
order_names (Some keys) = map key_name keys

abbrev pub select_names : SelectSyn → List (List ℕ)
select_names s = items_names s.items ++ where_names s.cond ++ group_names s.group ++ order_names s.order

abbrev pub tuple_names : TupleSyn → List (List ℕ)
tuple_names tuple = flat_map names_in tuple.values

abbrev pub assign_column : AssignSyn → List ℕ
assign_column assign = assign.column

abbrev pub assign_names : AssignSyn → List Name
assign_names assign = Given assign.column ∷ map Used (names_in assign.value)

abbrev pub update_names : List AssignSyn → Option Syn → List Name
update_names assigns cond = flat_map assign_names assigns ++ map Used (where_names cond)

-- the columns' names in a statement
abbrev pub names_of : StmtSyn → List Name
names_of (stmt_syn.Select select) = map Used (select_names select)
names_of (stmt_syn.Insert table tuples) = map Used (flat_map tuple_names tuples)
names_of (stmt_syn.Update table assigns cond) = update_names assigns cond
names_of (stmt_syn.Delete table cond) = map Used (where_names cond)
names_of _ = []

-- WHAT THEY MUST BE
-- a column of the table has this name
abbrev pub is_column : List Column → List ℕ → Bool
is_column columns name = list_any (λ c. pointwise nat_eq c.name name) columns

-- this name is among those
abbrev pub is_among : List (List ℕ) → List ℕ → Bool
is_among names name = list_any (λ n. pointwise nat_eq n name) names

-- each name is a column's, and none is given a value twice; the first that is wrong gives the fault. With the names that were
-- given values before.
abbrev pub names_right : List Column → List (List ℕ) → List Name → Answer (Unit {0})
names_right columns given [] = Ok tt
names_right columns given (Used name ∷ names) = if is_column columns name then names_right columns given names else Err UnknownColumn
names_right columns given (Given name ∷ names) = if is_among given name then Err Syntax else if is_column columns name then names_right columns (given ++ name ∷ []) names else Err UnknownColumn

-- an assignment by itself: whether its column was given a value before, and whether all its names are columns
abbrev pub assign_right : Bool → Bool → Answer (Unit {0})
assign_right again all = if again then Err Syntax else if all then Ok tt else Err UnknownColumn
