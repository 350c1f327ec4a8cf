-- Who waits. A slice that waits at a segment: where it came from, how its transaction stands there meanwhile, and what it does when
-- it goes on. A statement that waits at the coordinator, and how its transaction and its session stand meanwhile.
use Rattle.std.proofs.Common.{◌≡◌, ◌⊎◌, inl, inr, ℕ, List, [], ◌∷◌, Option, Some, None, true, false, refl, sym, subst, ap, ◌∙◌, ◌&&◌, ◌≤◌, not, nat_lt, arith}
use Rattle.std.specs.Prelude.{filter}
use Rattle.std.proofs.lemmas.Bool.Decides.{nat_tests}
use Rattle.gx_lemmas.proofs.Options.{none-some, some-same}
use Rattle.gx_lemmas.proofs.Tests.{and-second}
use Rattle.gx_ids.specs.declared.ids.Gxid.{Gxid}
use Rattle.gx_ids.specs.declared.rid.Rid.{Rid}
use Rattle.gx_tree.specs.declared.slice.Slice.{Slice}
use Rattle.gx_tree.specs.declared.slice.Slice.TheVariants as slice
use Rattle.gx_tree.specs.declared.stmt.Stmt.{Stmt}
use Rattle.gx_waits.specs.declared.claim.Claim.{Claim}
use Rattle.gx_waits.specs.Claims.{is_clear, is_of}
use Rattle.gx_locks.specs.Locks.{is_ready, may_take, resumed, wait_of}
use Rattle.gx_script.specs.declared.Script.{Script}
use Rattle.gx_store.specs.declared.node.NodeEvent.TheVariants as event
use Rattle.gx_rules.specs.AtCoordinator.{coord_can, is_segment}
use Rattle.gx_store.specs.Locks.{slice_lock, table_lock}
use Rattle.gx_rules.specs.AtSegment.{resumes}
use Rattle.gx_rules.specs.Changes.{Change, change_of, goes_on_at, goes_through}
use Rattle.gx_rules.specs.Coordinators.{Coord, session_of, work_of}
use Rattle.gx_rules.specs.Fits.{holds_locks}
use Rattle.gx_rules.specs.Locks.{hold_mark}
use Rattle.gx_rules.specs.Machine.{World, seg_can}
use Rattle.gx_rules.specs.Running.{goes_on, is_granted, runs_slice}
use Rattle.gx_rules.specs.Segments.{Phase, Seg, SegTurn, Suspended, after_marks, has_ended, local_of, with_local}
use Rattle.gx_rules.specs.Segments.Phase.{Aborted, Committed, Forgotten, Prepared, Reading, Writing}
use Rattle.gx_rules.specs.Slices.{Moved}
use Rattle.gx_law_order.proofs.Changing.{IsAtRow}
use Rattle.gx_law_order.proofs.Ordered.{Well}
use Rattle.gx_law_order.specs.Sessions.{Kept, claims_for, is_working_in, listed}
use Rattle.gx_law_order.specs.Stages.{stage_of}
use Rattle.gx_law_order.proofs.Queued.{WaitsFor, waits-for}
use Rattle.gx_law_order.specs.Standings.{gx}
use Rattle.gx_law_order.specs.Stages.Stage.{Live}
use Rattle.gx_law_order.proofs.Suspended.{AreWaits, HasDoneAt, IsWantedAt, find-filter, waits-there}
use Rattle.gx_law_order.proofs.Suspensions.{closed-rests}
use Rattle.gx_law_order.proofs.World.{Knows}
pub use Rattle.gx_law_order.proofs.Suspended.{HasCome, HasDone, IsAmong, IsWanted, Waits, each-among, is_open_phase}

-- a slice that goes on: it waits, and nothing is in its way (GoesOnSo says how)
pub record GoesOn (script : Script) (w : World) (i : ℕ) (g : Gxid) : Type 0 where
  pub slice : Suspended
  pub is : (local_of (w.segs i) g).suspended ≡ Some slice
  pub waits : Waits script w i g slice
  pub wanted : Claim
  pub claims : wait_of (w.segs i).locks g ≡ Some wanted
  pub lock : IsWanted script g slice wanted
  pub free : is_clear (w.segs i).locks.holds (w.segs i).locks.waits wanted ≡ true

-- a wait in the locks of a segment: the slice that waits for it, whose lock it is; its transaction has no other
pub record HasSlice (script : Script) (s : Seg) (g : Gxid) (wanted : Claim) : Type 0 where
  pub slice : Suspended
  pub is : (local_of s g).suspended ≡ Some slice
  pub lock : IsWanted script g slice wanted
  pub once : filter (is_of g) s.locks.waits ≡ wanted ∷ []

-- who waits at a segment does so by these words
pub waiting : (script : Script) (w : World) → Well script w → (i : ℕ) (g : Gxid) (x : Suspended) → (local_of (w.segs i) g).suspended ≡ Some x → Waits script w i g x
waiting script w good i g x e = waits-there script w i (good.waiting i) g x e

-- and counts among those who hold locks there, at and above whose gxids horizons stay
pub holds-there : (script : Script) (w : World) (i : ℕ) (g : Gxid) (x : Suspended) → Waits script w i g x → holds_locks (local_of (w.segs i) g) ≡ true
holds-there script w i g x a = by_phase (local_of (w.segs i) g).last x.cid.0 (local_of (w.segs i) g).phase a.last a.numbered a.opens
  where
    begun : (a b : ℕ) → a ≡ b → 1 ≤ b → nat_lt 0 a ≡ true
    begun a b e f = grind (arith, nat_tests)

    by_phase : (a b : ℕ) (p : Phase) → a ≡ b → 1 ≤ b → is_open_phase p ≡ true → (nat_lt 0 a && not (has_ended p)) ≡ true
    by_phase a b Reading e f o = ap (λ q. q && true) (begun a b e f)
    by_phase a b Writing e f o = ap (λ q. q && true) (begun a b e f)
    by_phase a b Prepared e f o = absurd (cc)
    by_phase a b Committed e f o = absurd (cc)
    by_phase a b (Forgotten q) e f o = absurd (cc)
    by_phase a b Aborted e f o = absurd (cc)

-- who has a wait in the locks there has a slice that waits for it, and no other wait
pub has-slice : (script : Script) (w : World) → Well script w → (i : ℕ) (g : Gxid) (wanted : Claim) → wait_of (w.segs i).locks g ≡ Some wanted → HasSlice script (w.segs i) g wanted
has-slice script w good i g wanted e = by_slice (local_of s g).suspended refl ((good.waiting i).own g.0)
  where
    s : Seg
    s = w.segs i

    those : List Claim
    those = filter (is_of g) s.locks.waits

    by_slice : (o : Option Suspended) → (local_of s g).suspended ≡ o → AreWaits script g o those → HasSlice script s g wanted
    by_slice None is none = absurd (none-some _ wanted (find-filter (is_of g) s.locks.waits [] none) e)
    by_slice (Some x) is own =
        let same : own.wanted ≡ wanted = some-same own.wanted wanted (sym (find-filter (is_of g) s.locks.waits (own.wanted ∷ []) own.alone) ∙ e) in
        record { slice = x; is = is; lock = subst (IsWanted script g x) same own.lock; once = own.alone ∙ ap (λ claim. claim ∷ []) same }

-- and whose slices don't wait there has none
pub no-wait : (script : Script) (w : World) → Well script w → (i : ℕ) (g : Gxid) → (local_of (w.segs i) g).suspended ≡ None → filter (is_of g) (w.segs i).locks.waits ≡ []
no-wait script w good i g e = subst (λ o. AreWaits script g o (filter (is_of g) (w.segs i).locks.waits)) e ((good.waiting i).own g.0)

-- of who has promised, committed or ended there none waits
pub no-slice : (script : Script) (w : World) → Well script w → (i : ℕ) (g : Gxid) → is_open_phase (local_of (w.segs i) g).phase ≡ false → (local_of (w.segs i) g).suspended ≡ None
no-slice script w good i g e = closed-rests script (HasCome w i) (w.segs i).horizon g.0 (local_of (w.segs i) g) ((good.waiting i).each g.0) e

-- who is admitted to go on waits, and nothing is in its way
pub going-on : (script : Script) (w : World) → Well script w → (i : ℕ) (g : Gxid) → seg_can script (w.segs i) (event.Resume g) ≡ true → GoesOn script w i g
going-on script w good i g ok = by_wait (wait_of s.locks g) refl (and-second (is_segment script s.node) (may_take s.locks g) ok)
  where
    s : Seg
    s = w.segs i

    by_wait : (o : Option Claim) → wait_of s.locks g ≡ o → is_ready s.locks o ≡ true → GoesOn script w i g
    by_wait None e f = absurd (cc)
    by_wait (Some wanted) e f =
        let has = has-slice script w good i g wanted e in
        record { slice = has.slice; is = has.is; waits = waiting script w good i g has.slice has.is; wanted = wanted; claims = e; lock = has.lock; free = f }

-- what it does then
pub goes-on-is : (s : Seg) (g : Gxid) (wanted : Claim) (x : Suspended) → wait_of s.locks g ≡ Some wanted → (local_of s g).suspended ≡ Some x → resumes s g (wait_of s.locks g) (local_of s g).suspended ≡ resumes s g (Some wanted) (Some x)
goes-on-is s g wanted x e f = cc

-- WHERE IT WAITS
-- for its table: nothing of it is done yet
pub record IsAtTable (script : Script) (g : Gxid) (x : Suspended) (wanted : Claim) : Type 0 where
  pub row : x.row ≡ None
  pub count : x.count ≡ 0
  pub rows : x.rows ≡ []
  pub lock : slice_lock script g x.slice ≡ wanted

-- at a row: its command changes rows
pub record IsAtARow (g : Gxid) (x : Suspended) (wanted : Claim) : Type 0 where
  pub rid : Rid
  pub row : x.row ≡ Some rid
  pub change : Change
  pub changes : change_of x.cid x.level x.snapshot x.slice ≡ Some change
  pub lock : IsAtRow g rid wanted

pub waits-where : (script : Script) (g : Gxid) (x : Suspended) (wanted : Claim) → HasDone x → IsWanted script g x wanted → IsAtTable script g x wanted ⊎ IsAtARow g x wanted
waits-where script g x wanted done lock = by_row x.row refl done lock
  where
    by_row : (row : Option Rid) → x.row ≡ row → HasDoneAt row x → IsWantedAt script g x.slice row wanted → IsAtTable script g x wanted ⊎ IsAtARow g x wanted
    by_row None e d l = inl (record { row = e; count = d.0; rows = d.1; lock = l })
    by_row (Some rid) e d l = inr (record { rid = rid; row = e; change = d.change; changes = d.is; lock = l })

-- the segment without its wait, and with the lock
abbrev pub freed : Seg → Gxid → Claim → Seg
freed s g wanted = record (with_local s g (record (local_of s g) { suspended = None })) { locks = resumed s.locks g (Some wanted) }

-- With its table's lock it runs from the start.
pub record RunsNow (script : Script) (s : Seg) (g : Gxid) (x : Suspended) (wanted : Claim) (turn : SegTurn) : Type 0 where
  pub at : IsAtTable script g x wanted
  pub is : turn ≡ after_marks (hold_mark s.node wanted ∷ []) (runs_slice (freed s g wanted) g x.cid x.level x.snapshot x.slice)

-- With a row's lock, or at its writer's end, it goes on at that row.
pub record GoesOnAtRow (s : Seg) (g : Gxid) (x : Suspended) (wanted : Claim) (turn : SegTurn) : Type 0 where
  pub at : IsAtARow g x wanted
  pub is : turn ≡ goes_through g at.change (at.rid ∷ x.rows) (is_granted s g wanted) x.count

abbrev pub GoesOnSo : Script → Seg → Gxid → Suspended → Claim → SegTurn → Type 0
GoesOnSo script s g x wanted turn = RunsNow script s g x wanted turn ⊎ GoesOnAtRow s g x wanted turn

granted-table : (script : Script) (s : Seg) (g : Gxid) (y : Slice)
    → is_granted s g (slice_lock script g y) ≡ record { seg = freed s g (slice_lock script g y); marks = hold_mark s.node (slice_lock script g y) ∷ [] }
granted-table script s g (slice.Select query) = refl
granted-table script s g (slice.Insert table rows) = refl
granted-table script s g (slice.Update table assigns cond) = refl
granted-table script s g (slice.Delete table cond) = refl
granted-table script s g (slice.Lock table mode) = refl

pub goes-on-ways : (script : Script) (s : Seg) (g : Gxid) (x : Suspended) (wanted : Claim) → HasDone x → IsWanted script g x wanted → GoesOnSo script s g x wanted (resumes s g (Some wanted) (Some x))
goes-on-ways script s g x wanted done lock = by_place (waits-where script g x wanted done lock)
  where
    by_place : IsAtTable script g x wanted ⊎ IsAtARow g x wanted → GoesOnSo script s g x wanted (resumes s g (Some wanted) (Some x))
    by_place (inl t) =
        inl (record {
          at = t;
          is = ap (goes_on (is_granted s g wanted) g x) t.row
              ∙ ap (λ (m : Moved). after_marks m.marks (runs_slice m.seg g x.cid x.level x.snapshot x.slice))
              (subst (λ c. is_granted s g c ≡ record { seg = freed s g c; marks = hold_mark s.node c ∷ [] }) t.lock (granted-table script s g x.slice));
        })
    by_place (inr t) = inr (record { at = t; is = ap (goes_on (is_granted s g wanted) g x) t.row ∙ ap (λ o. goes_on_at (is_granted s g wanted) g o t.rid x) t.changes })

-- who is admitted to go on does so in one of these ways
pub going-ways : (script : Script) (w : World) (i : ℕ) (g : Gxid) (o : GoesOn script w i g)
    → GoesOnSo script (w.segs i) g o.slice o.wanted (resumes (w.segs i) g (wait_of (w.segs i).locks g) (local_of (w.segs i) g).suspended)
going-ways script w i g o =
    subst (GoesOnSo script (w.segs i) g o.slice o.wanted) (sym (goes-on-is (w.segs i) g o.wanted o.slice o.claims o.is)) (goes-on-ways script (w.segs i) g o.slice o.wanted o.waits.done o.lock)

-- AT THE COORDINATOR
-- A statement that goes out behind a wait: it waits for its table's lock, and nothing is in its way; its transaction is live and has no command
-- under way; and it is its session's line under way.
pub record GoesOut (script : Script) (c : Coord) (g : Gxid) : Type 0 where
  pub line : Stmt
  pub is : (work_of c g).waiting ≡ Some line
  pub wanted : Claim
  pub claims : wait_of c.locks g ≡ Some wanted
  pub lock : table_lock script g line ≡ Some wanted
  pub free : is_clear c.locks.holds c.locks.waits wanted ≡ true
  pub idle : (work_of c g).command ≡ None
  pub live : stage_of c g.0 ≡ Live
  pub home : (session_of c (work_of c g).session).transaction ≡ g
  pub working : is_working_in (session_of c (work_of c g).session).state.pending ≡ true

-- whoever has a wait at the coordinator has a statement that waits for it, and no other wait
pub record HasStatement (script : Script) (c : Coord) (g : Gxid) (wanted : Claim) : Type 0 where
  pub line : Stmt
  pub is : (work_of c g).waiting ≡ Some line
  pub once : filter (is_of g) c.locks.waits ≡ wanted ∷ []
  pub lock : table_lock script g line ≡ Some wanted
  pub idle : (work_of c g).command ≡ None
  pub live : stage_of c g.0 ≡ Live
  pub home : (session_of c (work_of c g).session).transaction ≡ g
  pub working : is_working_in (session_of c (work_of c g).session).state.pending ≡ true

pub statement-of : {script : Script} (c : Coord) → Kept script c → (g : Gxid) (wanted : Claim) → wait_of c.locks g ≡ Some wanted → HasStatement script c g wanted
statement-of {script = script} c k g wanted e = by_line (waits-for g.0 (work_of c g).waiting c.locks (k.queued g.0) wanted e)
  where
    by_line : WaitsFor script g.0 (work_of c g).waiting wanted → HasStatement script c g wanted
    by_line f =
        let t = (k.tied g.0).waits f.line f.is in
        let l = (k.tied g.0).live t.0 in
        record { line = f.line; is = f.is; once = (k.queued g.0).claims ∙ ap (claims_for script g) f.is ∙ ap listed f.lock; lock = f.lock; idle = t.1; live = t.0; home = ap gx l.0; working = t.2 }

pub has-statement : (script : Script) (w : World) → Knows script w → (g : Gxid) (wanted : Claim) → wait_of w.coord.locks g ≡ Some wanted → HasStatement script w.coord g wanted
has-statement script w n g wanted e = statement-of w.coord n.kept g wanted e

-- who is admitted to go out is one of these
pub going-out : (script : Script) (w : World) → Knows script w → (g : Gxid) → coord_can script w.coord (event.Resume g) ≡ true → GoesOut script w.coord g
going-out script w n g ok = by_wait (wait_of w.coord.locks g) refl ok
  where
    line-waits : (wanted : Claim) → wait_of w.coord.locks g ≡ Some wanted → is_clear w.coord.locks.holds w.coord.locks.waits wanted ≡ true → HasStatement script w.coord g wanted → GoesOut script w.coord g
    line-waits wanted e free f = record { line = f.line; is = f.is; wanted = wanted; claims = e; lock = f.lock; free = free; idle = f.idle; live = f.live; home = f.home; working = f.working }

    by_wait : (o : Option Claim) → wait_of w.coord.locks g ≡ o → is_ready w.coord.locks o ≡ true → GoesOut script w.coord g
    by_wait None e f = absurd (cc)
    by_wait (Some wanted) e f = line-waits wanted e f (has-statement script w n g wanted e)
