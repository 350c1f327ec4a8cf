-- Who has still to run a command at a node, where it is new there and where its slice waits there.
use Rattle.std.proofs.Common.{◌≡◌, ◌<◌, inl, inr, Some, false, refl, sym, subst}
use Rattle.gx_ids.specs.declared.ids.Cid.{Cid}
use Rattle.gx_ids.specs.declared.ids.Gxid.{Gxid}
use Rattle.gx_ids.specs.declared.ids.Node.{Node}
use Rattle.gx_script.specs.declared.Script.{Script}
use Rattle.gx_store.specs.Marks.{is_aborted}
use Rattle.gx_store.specs.Points.{marks_in}
use Rattle.gx_rules.specs.Machine.{World}
use Rattle.gx_rules.specs.Segments.{Suspended, local_of}
use Rattle.gx_law_order.proofs.Ordered.{Well}
use Rattle.gx_law_reads.specs.Horizons.{IsToRun, IsWaitingAs}

pub new-to-run : (w : World) (node : Node) (g : Gxid) (c : Cid) → is_aborted (marks_in w.steps) g ≡ false → (local_of (w.segs node.0) g).last < c.0 → IsToRun w node g c
new-to-run w node g c a l = record { unaborted = a; new = inl l }

pub waits-to-run : (script : Script) (w : World) → Well script w → (node : Node) (g : Gxid) (x : Suspended) → (local_of (w.segs node.0) g).suspended ≡ Some x → is_aborted (marks_in w.steps) g ≡ false → IsToRun w node g x.cid
waits-to-run script w good node g x e a = record { unaborted = a; new = inr (subst (IsWaitingAs x.cid) (sym e) refl) }
