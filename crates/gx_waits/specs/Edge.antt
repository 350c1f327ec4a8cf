use Rattle.std.specs.Prelude.{Bool, ◌==◌, ◌||◌}
use Rattle.gx_ids.specs.declared.ids.Gxid.{Gxid}
use Rattle.gx_waits.specs.declared.edge.Edge.{Edge}

-- the transaction is the edge's waiter or its holder
abbrev pub names : Gxid → Edge → Bool
names v edge = (edge.waiter.0 == v.0) || (edge.holder.0 == v.0)
