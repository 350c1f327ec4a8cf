-- How often journals failed.
use Rattle.std.specs.Prelude.{ℕ, ◌+◌, if◌then◌else◌, List, [], ◌∷◌}
use Rattle.gx_ids.specs.declared.ids.Node.{Node}
use Rattle.gx_store.specs.declared.mark.Mark.{Mark}
use Rattle.gx_store.specs.declared.mark.Mark.TheVariants.{JournalFailed}
use Rattle.gx_store.specs.Journals.{is_same_node}

-- how many appends to the node's journal have failed in these marks
abbrev pub failures_in : Node → List Mark → ℕ
failures_in node [] = 0
failures_in node (JournalFailed at g ∷ ms) = if is_same_node at node then failures_in node ms + 1 else failures_in node ms
failures_in node (_ ∷ ms) = failures_in node ms
