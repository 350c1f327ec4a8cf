-- The order of transactions.
use Rattle.std.specs.declared.cmp.Ordering.{Ordering}
use Rattle.std.specs.Ordering.{nat_cmp}
use Rattle.gx_ids.specs.declared.ids.Gxid.{Gxid}

-- by number
abbrev pub gxid_cmp : Gxid → Gxid → Ordering
gxid_cmp g h = nat_cmp g.0 h.0
