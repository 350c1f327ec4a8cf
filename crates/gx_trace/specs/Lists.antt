-- Transactions and edges, one behind the other.
use Rattle.std.specs.Prelude.{ℕ, ◌^◌, Bool, true, false, List, Some, codes}
use Rattle.gx_ids.specs.declared.ids.Gxid.{Gxid}
use Rattle.gx_waits.specs.declared.edge.Edge.{Edge}
use Rattle.gx_trace.specs.Fields.{gxid, gxid_of}
use Rattle.gx_trace.specs.Readers.{Front, behind, both, either, made, number_below, to_end, word}

abbrev pub gxids : List ℕ → Front (List Gxid)
gxids = to_end gxid

abbrev pub is_dotted : Unit {0} → Bool
is_dotted x = true

-- whether a dotted edge's sign stands here
abbrev pub dotting : List ℕ → Front Bool
dotting bytes = either (made is_dotted (word (codes "~") bytes)) (Some (false, bytes))

abbrev pub edge_of : Gxid × (ℕ × Bool) → Edge
edge_of x = record { waiter = x.0; holder = gxid_of x.1.0; dotted = x.1.1 }

abbrev pub edge : List ℕ → Front Edge
edge bytes = made edge_of (both gxid (both (behind (codes ">") (number_below (2 ^ 64))) dotting) bytes)

abbrev pub edges : List ℕ → Front (List Edge)
edges = to_end edge
