-- The fields of a line of a trace, each behind a blank.
use Rattle.std.specs.Prelude.{ℕ, ◌^◌, List, codes}
use Rattle.gx_ids.specs.declared.ids.Cid.{Cid}
use Rattle.gx_ids.specs.declared.ids.Gxid.{Gxid}
use Rattle.gx_ids.specs.declared.ids.Node.{Node}
use Rattle.gx_ids.specs.declared.rid.Rid.{Rid}
use Rattle.gx_trace.specs.Readers.{Front, behind, both, made, number_below}

abbrev pub count : List ℕ → Front ℕ
count = behind (codes " ") (number_below (2 ^ 64))

abbrev pub dotted : List ℕ → Front ℕ
dotted = behind (codes ".") (number_below (2 ^ 32))

abbrev pub gxid_of : ℕ → Gxid
gxid_of n = record { 0 = n }

abbrev pub cid_of : ℕ → Cid
cid_of n = record { 0 = n }

abbrev pub node_of : ℕ → Node
node_of n = record { 0 = n }

abbrev pub gxid : List ℕ → Front Gxid
gxid bytes = made gxid_of (count bytes)

abbrev pub cid : List ℕ → Front Cid
cid bytes = made cid_of (behind (codes " ") (number_below (2 ^ 32)) bytes)

abbrev pub node : List ℕ → Front Node
node bytes = made node_of (behind (codes " ") (number_below (2 ^ 8)) bytes)

abbrev pub rid_of : ℕ × (ℕ × ℕ) → Rid
rid_of x = record { gxid = gxid_of x.0; cid = cid_of x.1.0; ordinal = x.1.1 }

abbrev pub rid : List ℕ → Front Rid
rid bytes = made rid_of (both count (both dotted dotted) bytes)
