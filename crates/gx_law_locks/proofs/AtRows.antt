-- Whoever waits at a row holds its slice's table.
use Rattle.std.proofs.Common.{◌≡◌, List, Option, Some, None, Bool, true, false, refl, sym, subst, if◌then◌else◌, eqb}
use Rattle.gx_ids.specs.declared.ids.Gxid.{Gxid}
use Rattle.gx_ids.specs.declared.ids.Node.{Node}
use Rattle.gx_ids.specs.declared.rid.Rid.{Rid}
use Rattle.gx_waits.specs.declared.claim.Claim.{Claim}
use Rattle.gx_script.specs.declared.Script.{Script}
use Rattle.gx_store.specs.Locks.{slice_lock}
use Rattle.gx_rules.specs.Segments.{Local, Seg, Suspended, local_of, with_local}
use Rattle.gx_law_locks.specs.Lasting.{IsLasting}
use Rattle.gx_law_locks.proofs.Claims.{gxid-of}
use Rattle.gx_law_locks.proofs.Lasting.{IsIn}
use Rattle.gx_law_locks.proofs.Tables.{own-gxid, slice-lasts}

abbrev pub HoldsAtRow : Script → Gxid → List Claim → Suspended → Option Rid → Type 0
HoldsAtRow script g holds x None = Unit {0}
HoldsAtRow script g holds x (Some rid) = IsIn holds (slice_lock script g x.slice)

abbrev pub HoldsWaiting : Script → Gxid → List Claim → Option Suspended → Type 0
HoldsWaiting script g holds None = Unit {0}
HoldsWaiting script g holds (Some x) = HoldsAtRow script g holds x x.row

-- with these holds, each that waits at a segment
abbrev pub AtRows : Script → Seg → List Claim → Type 0
AtRows script s holds = (h : Gxid) → HoldsWaiting script h holds (local_of s h).suspended

-- where no lasting lock of its transaction is lost
pub waiting-later : (script : Script) (node : Node) (g : Gxid) (holds more : List Claim) → ((c : Claim) → c.gxid ≡ g → IsLasting node c → IsIn holds c → IsIn more c)
    → (o : Option Suspended) → HoldsWaiting script g holds o → HoldsWaiting script g more o
waiting-later script node g holds more f None e = tt
waiting-later script node g holds more f (Some x) e = by_row x.row e
  where
    by_row : (row : Option Rid) → HoldsAtRow script g holds x row → HoldsAtRow script g more x row
    by_row None e = tt
    by_row (Some rid) e = f (slice_lock script g x.slice) (own-gxid script g x.slice) (slice-lasts script node g x.slice) e

pub rows-later : (script : Script) (node : Node) (s : Seg) (holds more : List Claim) → ((c : Claim) → IsLasting node c → IsIn holds c → IsIn more c) → AtRows script s holds → AtRows script s more
rows-later script node s holds more f e h = waiting-later script node h holds more (λ c is l i. f c l i) (local_of s h).suspended (e h)

-- one transaction's record changes
pub rows-with : (script : Script) (s : Seg) (g : Gxid) (l : Local) (holds : List Claim) → HoldsWaiting script g holds l.suspended → AtRows script s holds → AtRows script (with_local s g l) holds
rows-with script s g l holds own e h = by_test (eqb h.0 g.0) refl
  where
    by_test : (b : Bool) → eqb h.0 g.0 ≡ b → HoldsWaiting script h holds (if b then l else s.locals h.0).suspended
    by_test true q = subst (λ k. HoldsWaiting script k holds l.suspended) (sym (gxid-of h g q)) own
    by_test false q = e h
