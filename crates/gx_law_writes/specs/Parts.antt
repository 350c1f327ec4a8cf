-- What a node has of the rows that a command sees.
use Rattle.std.specs.Prelude.{◌≡◌, if◌then◌else◌, Bool, false, List, Some, None}
use Rattle.std.specs.declared.option.Option.{Option}
use Rattle.gx_ids.specs.declared.ids.Cid.{Cid}
use Rattle.gx_ids.specs.declared.ids.Gxid.{Gxid}
use Rattle.gx_ids.specs.declared.ids.Node.{Node}
use Rattle.gx_ids.specs.declared.ids.Table.{Table}
use Rattle.gx_ids.specs.declared.rid.Rid.{Rid}
use Rattle.gx_tree.specs.declared.row.KeyedRow.{KeyedRow}
use Rattle.gx_meaning.specs.Answer.{AreRising}
use Rattle.gx_store.specs.declared.mark.Mark.{Mark}
use Rattle.gx_store.specs.Journals.{is_same_node}
use Rattle.gx_store.specs.Marks.{node_of}
use Rattle.gx_store.specs.Rows.{row_at}
use Rattle.gx_store.specs.View.{image}

-- the node of the row's first write
abbrev pub is_home : Option Node → Node → Bool
is_home None node = false
is_home (Some first) node = is_same_node first node

-- Of the rows of the command's view, whose snapshot was taken behind the marks before, those that were written at the node.
pub record IsPartOf (marks before : List Mark) (node : Node) (g : Gxid) (c : Cid) (table : Table) (rows : List KeyedRow) : Type 0 where
  pub rising : AreRising rows
  pub images : (rid : Rid) → row_at rows rid ≡ (if is_home (node_of marks rid) node then image marks before (Some (g, c)) table rid else None)
