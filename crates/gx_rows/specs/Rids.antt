-- The order of row identities.
use Rattle.std.specs.declared.cmp.Ordering.{Ordering}
use Rattle.std.specs.Ordering.{nat_cmp, ordering_then}
use Rattle.gx_ids.specs.declared.rid.Rid.{Rid}

-- by gxid, then by command, then by ordinal
abbrev pub rid_cmp : Rid → Rid → Ordering
rid_cmp r q = ordering_then (nat_cmp r.gxid.0 q.gxid.0) (ordering_then (nat_cmp r.cid.0 q.cid.0) (nat_cmp r.ordinal q.ordinal))
