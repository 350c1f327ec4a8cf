-- SELECT over the columns of a table: its items and keys, and the rules of groups.
use Rattle.std.specs.Prelude.{ℕ, ◌+◌, ◌==◌, Bool, true, false, not, ◌&&◌, ◌||◌, if◌then◌else◌, List, [], ◌∷◌, Option, Some, None, is_some, is_none, Ok, Err}
use Rattle.std.specs.List.{list_any, list_all}
use Rattle.gx_ids.specs.declared.ids.Table.{Table}
use Rattle.gx_tree.specs.declared.schema.Column.{Column}
use Rattle.gx_tree.specs.declared.schema.Kind.{Kind}
use Rattle.gx_tree.specs.declared.schema.Kind.TheVariants as kind
use Rattle.gx_tree.specs.declared.query.Item.{Item}
use Rattle.gx_tree.specs.declared.query.Item.TheVariants as item
use Rattle.gx_tree.specs.declared.query.Key.{Key}
use Rattle.gx_tree.specs.declared.query.Query.{Query}
use Rattle.gx_lines.specs.declared.classes.Agg.{Agg}
use Rattle.gx_lines.specs.declared.classes.Agg.TheVariants as agg
use Rattle.gx_lines.specs.declared.classes.Direction.{Direction}
use Rattle.gx_lines.specs.declared.classes.Direction.TheVariants as direction
use Rattle.gx_lines.specs.declared.classes.Size.{Size}
use Rattle.gx_lines.specs.declared.syn.ItemSyn.{ItemSyn}
use Rattle.gx_lines.specs.declared.syn.ItemSyn.TheVariants as item_syn
use Rattle.gx_lines.specs.declared.syn.ItemsSyn.{ItemsSyn}
use Rattle.gx_lines.specs.declared.syn.ItemsSyn.TheVariants as items_syn
use Rattle.gx_lines.specs.declared.syn.KeySyn.{KeySyn}
use Rattle.gx_lines.specs.declared.syn.SelectSyn.{SelectSyn}
use Rattle.gx_resolve.specs.declared.fault.NameFault.TheVariants.{TypeMismatch}
use Rattle.gx_resolve.specs.Results.{Answer, ◌>>=◌, each}
use Rattle.gx_resolve.specs.Kinding.{column_at, where_as}

-- SUM is over a bigint column
abbrev pub agg_as : Agg → ℕ → Kind → Answer Item
agg_as agg.Sum place kind.Int = Ok (item.Sum place)
agg_as agg.Sum place kind.Text = Err TypeMismatch
agg_as agg.Min place _ = Ok (item.Min place)
agg_as agg.Max place _ = Ok (item.Max place)

abbrev pub item_as : List Column → ItemSyn → Answer Item
item_as columns (item_syn.Column name) = do
  column ← column_at columns name
  Ok (item.Col column.0)
item_as columns item_syn.Count = Ok item.Count
item_as columns (item_syn.Agg agg name) = do
  column ← column_at columns name
  agg_as agg column.0 column.1

-- a column after another, from a place on
abbrev pub columns_from : ℕ → List Column → List Item
columns_from place [] = []
columns_from place (c ∷ cs) = item.Col place ∷ columns_from (place + 1) cs

-- `*` gives the columns in order
abbrev pub items_as : List Column → ItemsSyn → Answer (List Item)
items_as columns items_syn.All = Ok (columns_from 0 columns)
items_as columns (items_syn.These items) = each (item_as columns) items

abbrev pub name_as : List Column → List ℕ → Answer ℕ
name_as columns name = do
  column ← column_at columns name
  Ok column.0

abbrev pub group_as : List Column → Option (List (List ℕ)) → Answer (List ℕ)
group_as columns None = Ok []
group_as columns (Some names) = each (name_as columns) names

-- ASC is left out
abbrev pub descends : Option Direction → Bool
descends (Some direction.Desc) = true
descends _ = false

abbrev pub key_as : List Column → KeySyn → Answer Key
key_as columns key = do
  column ← column_at columns key.column
  Ok (record { col = column.0; desc = descends key.direction })

abbrev pub order_as : List Column → Option (List KeySyn) → Answer (List Key)
order_as columns None = Ok []
order_as columns (Some keys) = each (key_as columns) keys

-- a limit above 18446744073709551615 has no size
abbrev pub size_as : Option ℕ → Answer (Option ℕ)
size_as None = Err TypeMismatch
size_as (Some n) = Ok (Some n)

abbrev pub limit_as : Option Size → Answer (Option ℕ)
limit_as None = Ok None
limit_as (Some size) = size_as size.0

abbrev pub is_aggregate : ItemSyn → Bool
is_aggregate (item_syn.Column name) = false
is_aggregate _ = true

abbrev pub has_aggregate : ItemsSyn → Bool
has_aggregate items_syn.All = false
has_aggregate (items_syn.These items) = list_any is_aggregate items

-- an aggregate or GROUP BY stands
abbrev pub is_grouped : SelectSyn → Bool
is_grouped s = has_aggregate s.items || is_some s.group

abbrev pub is_listed : ItemsSyn → Bool
is_listed items_syn.All = false
is_listed (items_syn.These items) = true

abbrev pub is_in : List ℕ → ℕ → Bool
is_in places place = list_any (λ p. p == place) places

-- a plain item is a GROUP BY column
abbrev pub is_group_item : List ℕ → Item → Bool
is_group_item group (item.Col place) = is_in group place
is_group_item group _ = true

abbrev pub is_group_key : List ℕ → Key → Bool
is_group_key group key = is_in group key.col

-- plain items and keys are GROUP BY columns, `*` isn't used, and there is no ORDER BY without GROUP BY
abbrev pub are_group_parts : SelectSyn → List Item → List ℕ → List Key → Bool
are_group_parts s items group order = is_listed s.items && list_all (is_group_item group) items && list_all (is_group_key group) order && (is_some s.group || is_none s.order)

-- where an aggregate or GROUP BY stands
abbrev pub keeps_groups : SelectSyn → List Item → List ℕ → List Key → Bool
keeps_groups s items group order = not (is_grouped s) || are_group_parts s items group order

abbrev pub groups_kept : Bool → Answer (Unit {0})
groups_kept kept = if kept then Ok tt else Err TypeMismatch

abbrev pub query_as : Table → List Column → SelectSyn → Answer Query
query_as table columns s = do
  items ← items_as columns s.items
  group ← group_as columns s.group
  order ← order_as columns s.order
  limit ← limit_as s.limit
  kept ← groups_kept (keeps_groups s items group order)
  cond ← where_as columns s.cond
  Ok (record { table = table; items = items; cond = cond; group = group; grouped = is_grouped s; order = order; limit = limit })
