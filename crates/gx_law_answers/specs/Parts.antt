-- What a node has of the rows that the command sees, and answers to a query of them.
use Rattle.std.specs.Prelude.{◌≡◌, List, filter}
use Rattle.std.specs.declared.option.Option.{Option}
use Rattle.gx_ids.specs.declared.ids.Cid.{Cid}
use Rattle.gx_ids.specs.declared.ids.Gxid.{Gxid}
use Rattle.gx_ids.specs.declared.ids.Node.{Node}
use Rattle.gx_ids.specs.declared.ids.Table.{Table}
use Rattle.gx_tree.specs.declared.cond.Cond.{Cond}
use Rattle.gx_tree.specs.declared.part.Part.{Part}
use Rattle.gx_tree.specs.declared.query.Query.{Query}
use Rattle.gx_tree.specs.declared.row.KeyedRow.{KeyedRow}
use Rattle.gx_meaning.specs.Answer.{keeps, part_of}
use Rattle.gx_store.specs.declared.mark.Mark.{Mark}
use Rattle.gx_store.specs.Answers.{FaultsOnNone}
use Rattle.gx_law_writes.specs.Parts.{IsPartOf}

-- the node's rows of what the command sees, on none of which the condition faults
pub record HasItsPart (marks before : List Mark) (node : Node) (g : Gxid) (c : Cid) (table : Table) (cond : Option Cond) : Type 0 where
  pub rows : List KeyedRow
  pub of : IsPartOf marks before node g c table rows
  pub whole : FaultsOnNone cond rows

-- the part that a node answers to a query is of its rows, and the condition faults on none of them
pub record SaysItsPart (marks before : List Mark) (node : Node) (g : Gxid) (c : Cid) (query : Query) (part : Part) : Type 0 where
  pub rows : List KeyedRow
  pub of : IsPartOf marks before node g c query.table rows
  pub whole : FaultsOnNone query.cond rows
  pub said : part ≡ part_of query (filter (keeps query.cond) rows)
