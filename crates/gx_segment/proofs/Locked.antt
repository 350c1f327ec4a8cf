-- A slice that has asked for its table's lock, and one that has got what it has waited for.
use Rattle.std.proofs.Common.{◌≡◌, ◌<◌, ◌+◌, ◌^◌, Bool, true, false, if◌then◌else◌, List, [], ◌∷◌, ◌++◌, Option, Some, None, length, refl, sym, ap, ◌∙◌, subst, arith}
use Rattle.std.specs.List.{list_all, list_any}
use Rattle.std.specs.Prelude.{option_map}
use Rattle.gx_ids.specs.declared.ids.Cid.{Cid}
use Rattle.gx_ids.specs.declared.ids.Gxid.{Gxid}
use Rattle.gx_ids.specs.declared.ids.Node.{Node}
use Rattle.gx_ids.specs.declared.rid.Rid.{Rid}
use Rattle.gx_tree.specs.declared.schema.Schema.{Schema}
use Rattle.gx_tree.specs.declared.slice.Slice.{Slice}
use Rattle.gx_dsnap.specs.declared.snapshot.Snapshot.{Snapshot}
use Rattle.gx_waits.specs.declared.claim.Claim.{Claim}
use Rattle.gx_waits.specs.declared.object.Object.{Object}
use Rattle.gx_waits.specs.declared.object.Object.TheVariants.{Relation, Transaction, Tuple}
use Rattle.gx_waits.specs.Claims.{is_clear, is_of}
use Rattle.gx_locks.specs.Locks.{Locks, is_ready, may_take, resumed, wait_of}
use Rattle.gx_node.specs.Locking as code_of
use Rattle.gx_node.specs.Locking.{asked_locks, asked_mark, granted_locks, granted_marks, is_on_transaction, marks_on_end}
use Rattle.gx_node.specs.Phases.{suspended_of}
use Rattle.gx_node.specs.declared.local.Suspended as code
use Rattle.gx_store.specs.declared.mark.Mark.{Mark}
use Rattle.gx_rules.specs.AtSegment.{resumes}
use Rattle.gx_rules.specs.Locks.{hold_mark, with_hold, with_wait}
use Rattle.gx_rules.specs.Segments.{Seg, SegTurn, Suspended, after_marks, local_of, with_local}
use Rattle.gx_rules.specs.Running.{goes_on, requests, runs_locked, runs_slice, suspended_slice, suspends, unless_end}
use Rattle.gx_rules.specs.Slices.{Moved}
use Rattle.gx_slices.specs.Agrees.{AreWriters, IsHeld}
use Rattle.gx_slices.specs.Ran.{MayGoOn, MayRun}
use Rattle.gx_slices.specs.Suspensions.{HasSuspended, HasWoken}
use Rattle.gx_slices.specs.Owning.{is_own}
use Rattle.gx_slices.specs.Waiting.{AreWaits}
use Rattle.gx_slices.specs.declared.held.Held.{Held}
use Rattle.gx_slices.proofs.OwnMoves.{AreWriters-held}
use Rattle.gx_slices.proofs.Owning.{AreOwn-held, is_own-unless}
use Rattle.gx_slices.proofs.Waiting.{AreWaits-hold}
use Rattle.gx_slices.proofs.Wakes.{IsHeld-suspended, suspended-woken}
use Rattle.gx_segment.specs.Done.{Came, HasDone, IsQuiet}
use Rattle.gx_segment.specs.Waking.{awakened}

-- a turn is another one
pub HasDone-same : (tables : List Schema) (held : Held) (horizon : Gxid) (done : Came) (turn turn' : SegTurn) → turn ≡ turn' → HasDone tables held horizon done turn → HasDone tables held horizon done turn'
HasDone-same tables held horizon done turn turn' e is = subst (HasDone tables held horizon done) e is

pub IsQuiet-same : (failed : Bool) (turn turn' : SegTurn) → turn ≡ turn' → IsQuiet failed turn → IsQuiet failed turn'
IsQuiet-same failed turn turn' e is = subst (IsQuiet failed) e is

module _ (tables : List Schema) (held : Held) (s : Seg) (g : Gxid) (c : Cid) (snapshot : Option Snapshot) (slice : Slice) (wanted : Claim) (is : IsHeld tables held s) (may : MayRun tables s g c snapshot slice) (own : wanted.gxid ≡ g) where
  -- it asks once
  pub waits-for-nothing : list_any (is_of wanted.gxid) held.locks.waits ≡ false
  waits-for-nothing = ap (λ (l : Locks). list_any (is_of wanted.gxid) l.waits) is.locks ∙ ap (λ (k : Gxid). list_any (is_of k) s.locks.waits) own ∙ is.waits.standing g ∙ may.free

-- a command that hasn't run yet
abbrev pub IsFresh : code.Suspended → Type 0
IsFresh w = suspended_of w ≡ suspended_slice w.cid w.level w.snapshot w.slice

pub MayGoOn-fresh : (tables : List Schema) (s : Seg) (g : Gxid) (w : code.Suspended) → MayRun tables s g w.cid w.snapshot w.slice → IsFresh w → MayGoOn tables s g (suspended_of w)
MayGoOn-fresh tables s g w may fresh = record {
  may = may;
  room = subst (λ (x : Suspended). x.count + length x.rows + 1 < 2 ^ 64) (sym fresh) (omega arith);
}

-- IT HAS THE LOCK
module _ (tables : List Schema) (held : Held) (s : Seg) (wanted : Claim) (is : IsHeld tables held s) (granted : Bool) (now : Locks) (yes_it_is : granted ≡ true) (asked : now ≡ asked_locks held.locks wanted granted) where
  now-holds : now ≡ with_hold s.locks wanted
  now-holds = asked ∙ ap (asked_locks held.locks wanted) yes_it_is ∙ ap (λ (l : Locks). with_hold l wanted) is.locks

  waits-locked : AreWaits tables (record s { locks = now })
  waits-locked = subst (λ (l : Locks). AreWaits tables (record s { locks = l })) (sym now-holds) (AreWaits-hold tables s wanted is.waits)

  pub IsHeld-locked : is_on_transaction wanted.object ≡ false → IsHeld tables (record held { locks = now }) (record s { locks = now })
  IsHeld-locked on_table = record {
    horizon = is.horizon;
    locals = is.locals;
    kept = is.kept;
    dropped = is.dropped;
    holders = is.holders;
    writes = is.writes;
    wrote = is.wrote;
    committed = is.committed;
    unaborted = is.unaborted;
    came = is.came;
    writers = subst (λ (l : Locks). AreWriters (record s { locks = l })) (sym now-holds) (AreWriters-held s is.writers wanted s.locks.waits on_table);
    typed = is.typed;
    locks = refl;
    owned = ap (λ (l : Locks). list_all is_own l.holds) now-holds ∙ AreOwn-held s.locks.holds wanted (is_own-unless wanted.gxid wanted.object on_table) is.owned;
    waits = waits-locked;
  }

  module _ (g : Gxid) (w : code.Suspended) (fresh : IsFresh w) (free : granted ≡ is_clear held.locks.holds held.locks.waits wanted) (node : Node) (n : node ≡ s.node) (marks : List Mark) (told : marks ≡ [] ++ asked_mark node wanted granted ∷ []) where
    abbrev behind : List Mark → Locks → SegTurn
    behind ms l = after_marks ms (runs_slice (record s { locks = l }) g w.cid w.level w.snapshot w.slice)

    pub MayGoOn-locked : MayRun tables s g w.cid w.snapshot w.slice → MayGoOn tables (record s { locks = now }) g (suspended_of w)
    MayGoOn-locked may = MayGoOn-fresh tables (record s { locks = now }) g w (record { alive = may.alive; open_here = may.open_here; free = may.free; reads = may.reads; right = may.right; new = may.new }) fresh

    pub turn-locked : goes_on (record { seg = record s { locks = now }; marks = marks }) g (suspended_of w) w.row ≡ requests s g w.cid w.level w.snapshot w.slice wanted
    turn-locked =
        ap (λ (o : Option Rid). goes_on (record { seg = record s { locks = now }; marks = marks }) g (suspended_of w) o) (ap (λ (x : Suspended). x.row) fresh)
        ∙ ap (λ (ms : List Mark). behind ms now) (told ∙ ap (λ (b : Bool). asked_mark node wanted b ∷ []) yes_it_is ∙ ap (λ (i : Node). hold_mark i wanted ∷ []) n)
        ∙ ap (behind (hold_mark s.node wanted ∷ [])) now-holds
        ∙ ap (λ (b : Bool). if b then runs_locked s g w.cid w.level w.snapshot w.slice wanted else suspends s g w.cid w.level w.snapshot w.slice wanted)
        (sym (ap (λ (l : Locks). is_clear l.holds l.waits wanted) (sym is.locks) ∙ sym free ∙ yes_it_is))

-- IT WAITS
module _ (tables : List Schema) (held new : Held) (s : Seg) (g : Gxid) (w : code.Suspended) (wanted : Claim) (granted : Bool) (now : Locks) (node : Node) (marks : List Mark) (done : Came) (is : IsHeld tables held s) (may : MayRun tables s g w.cid w.snapshot w.slice) (fresh : IsFresh w) (own : wanted.gxid ≡ g) (no_it_isnt : granted ≡ false) (asked : now ≡ asked_locks held.locks wanted granted) (free : granted ≡ is_clear held.locks.holds held.locks.waits wanted) (n : node ≡ s.node) (told : marks ≡ [] ++ asked_mark node wanted granted ∷ []) (did : HasSuspended (record held { locks = now }) new g w) (d : done ≡ record { marks = marks; answer = None; fails = false }) where
  turn-waits : suspends s g w.cid w.level w.snapshot w.slice wanted ≡ requests s g w.cid w.level w.snapshot w.slice wanted
  turn-waits =
      ap (λ (b : Bool). if b then runs_locked s g w.cid w.level w.snapshot w.slice wanted else suspends s g w.cid w.level w.snapshot w.slice wanted)
      (sym (ap (λ (l : Locks). is_clear l.holds l.waits wanted) (sym is.locks) ∙ sym free ∙ no_it_isnt))

  abbrev waiting : Suspended → Seg
  waiting x = record (with_local s g (record (local_of s g) { last = w.cid.0; answer = None; suspended = Some x })) { locks = with_wait s.locks wanted }

  held-waits : IsHeld tables new (waiting (suspended_slice w.cid w.level w.snapshot w.slice))
  held-waits =
      subst (λ (x : Suspended). IsHeld tables new (waiting x)) fresh
      (IsHeld-suspended tables held (record held { locks = now }) new s g w wanted is (MayGoOn-fresh tables s g w may fresh) own refl refl refl
      (asked ∙ ap (asked_locks held.locks wanted) no_it_isnt ∙ ap (λ (l : Locks). asked_locks l wanted false) is.locks) did)

  pub HasDone-waits : HasDone tables new s.horizon done (requests s g w.cid w.level w.snapshot w.slice wanted)
  HasDone-waits =
      HasDone-same tables new s.horizon done _ _ turn-waits (subst (λ (x : Came). HasDone tables new s.horizon x (suspends s g w.cid w.level w.snapshot w.slice wanted)) (sym d) (record {
        held = held-waits;
        horizon = refl;
        marks = told ∙ ap (λ (b : Bool). asked_mark node wanted b ∷ []) no_it_isnt ∙ ap (λ (i : Node). asked_mark i wanted false ∷ []) n;
        outs = refl;
      }))

-- IT HAS WAITED
module _ (s : Seg) (g : Gxid) where
  abbrev with_wait_of : Option Claim → Seg
  with_wait_of o = record (with_local s g (record (local_of s g) { suspended = None })) { locks = granted_locks s.locks g o }

  abbrev moved_by : Claim → Object → Moved
  moved_by wanted o = record {
    seg = record (with_local s g (record (local_of s g) { suspended = None })) { locks = code_of.unless_end wanted o (resumed s.locks g (Some wanted)) };
    marks = hold_mark s.node wanted ∷ marks_on_end s.node wanted o;
  }

  by-object : (wanted : Claim) (o : Object) → moved_by wanted o ≡ unless_end wanted o (record { seg = record (with_local s g (record (local_of s g) { suspended = None })) { locks = resumed s.locks g (Some wanted) }; marks = hold_mark s.node wanted ∷ [] })
  by-object wanted (Relation table) = refl
  by-object wanted (Tuple rid) = refl
  by-object wanted (Transaction other) = refl

  by-wait : (w : Suspended) (o : Option Claim) → is_ready s.locks o ≡ true → goes_on (record { seg = with_wait_of o; marks = granted_marks s.node o }) g w w.row ≡ resumes s g o (Some w)
  by-wait w None e = absurd (cc)
  by-wait w (Some wanted) e = ap (λ (m : Moved). goes_on m g w w.row) (by-object wanted wanted.object)

module _ (tables : List Schema) (held woke : Held) (s : Seg) (g : Gxid) (found : Option code.Suspended) (is : IsHeld tables held s) (ready : may_take s.locks g ≡ true) (did : HasWoken held woke g found) where
  pub ready-still : may_take woke.locks g ≡ true
  ready-still = ap (λ (l : Locks). may_take l g) (did.locks ∙ is.locks) ∙ ready

  pub turn-resumed : (w : code.Suspended) → found ≡ Some w → (node : Node) (marks : List Mark) → node ≡ s.node → marks ≡ [] ++ granted_marks node (wait_of woke.locks g) → goes_on (record { seg = awakened s g; marks = marks }) g (suspended_of w) w.row ≡ resumes s g (wait_of s.locks g) (local_of s g).suspended
  turn-resumed w some node marks n told =
      ap (λ (ms : List Mark). goes_on (record { seg = awakened s g; marks = ms }) g (suspended_of w) w.row)
      (told ∙ ap (λ (i : Node). granted_marks i (wait_of woke.locks g)) n ∙ ap (λ (l : Locks). granted_marks s.node (wait_of l g)) (did.locks ∙ is.locks))
      ∙ by-wait s g (suspended_of w) (wait_of s.locks g) ready
      ∙ ap (resumes s g (wait_of s.locks g)) (sym (ap (option_map suspended_of) some) ∙ suspended-woken tables held woke s g found is ready did)
