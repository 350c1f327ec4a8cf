-- The groups that are answered.
use Rattle.std.specs.Prelude.{ℕ, ◌==◌, Bool, not, ◌||◌, List, length, map}
use Rattle.gx_tree.specs.declared.part.Group.{Group}
use Rattle.gx_tree.specs.declared.query.Query.{Query}
use Rattle.gx_tree.specs.declared.value.Value.{Value}
use Rattle.gx_meaning.specs.Answer.{group_keys}
use Rattle.gx_meaning.specs.Order.{group_order, in_order}
use Rattle.gx_meaning.specs.Merged.{keys_in, merged_group}

-- without GROUP BY only the group without values is one of the query's
abbrev pub is_answered : List ℕ → List Value → Bool
is_answered columns key = not (length columns == 0) || length key == 0

-- the group of each key, in the order of the answer
abbrev pub ordered_groups : Query → List Group → List Group
ordered_groups query groups = map (merged_group query groups) (in_order (group_order (group_keys query.group query.order)) (keys_in query.group groups))
