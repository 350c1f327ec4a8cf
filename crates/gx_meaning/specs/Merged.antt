-- A query's answer, from the parts of the segments.
use Rattle.std.specs.Prelude.{ℕ, if◌then◌else◌, List, [], ◌∷◌, map, unwrap_or}
use Rattle.std.specs.List.{flat_map}
use Rattle.gx_tree.specs.declared.cell.Cell.{Cell}
use Rattle.gx_tree.specs.declared.part.Group.{Group}
use Rattle.gx_tree.specs.declared.part.Part.{Part}
use Rattle.gx_tree.specs.declared.query.Query.{Query}
use Rattle.gx_tree.specs.declared.value.Value.{Value}
use Rattle.gx_meaning.specs.Answer.{group_keys, groups_in, limited, plain_answer, rows_in}
use Rattle.gx_meaning.specs.Groups.{is_same_key, once}
use Rattle.gx_meaning.specs.Order.{group_order, in_order}
use Rattle.gx_meaning.specs.Tallies.{out_row, tally, total_at}

-- each key of the groups once; without GROUP BY there is one group
abbrev pub keys_in : List ℕ → List Group → List (List Value)
keys_in [] groups = [] ∷ []
keys_in (column ∷ columns) groups = once is_same_key (map (λ group. group.key) groups)

-- the groups of one key together
abbrev pub merged_group : Query → List Group → List Value → Group
merged_group query groups key = record { key = key; cells = unwrap_or (tally query.items key (total_at query [] key) groups) [] }

abbrev pub merged_groups : Query → List Group → List (List Cell)
merged_groups query groups =
    map (λ key. out_row query (merged_group query groups key)) (in_order (group_order (group_keys query.group query.order)) (keys_in query.group groups))

abbrev pub merged_answer : Query → List Part → List (List Cell)
merged_answer query parts =
    limited query.limit (if query.grouped then merged_groups query (flat_map groups_in parts) else plain_answer query (flat_map rows_in parts))
