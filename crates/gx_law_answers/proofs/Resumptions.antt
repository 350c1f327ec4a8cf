-- A segment's turn when a slice goes on.
use Rattle.std.proofs.Common.{◌≡◌, ◌≤◌, inl, inr, ℕ, List, [], ◌∷◌, Option, Some, None, Bool, true, false, refl, sym, subst, ap, ◌∙◌, if◌then◌else◌, cond, ◌==◌, ◌&&◌, ◌||◌, nat_lt, eqb, arith}
use Rattle.std.proofs.lemmas.Bool.{eqb-true}
use Rattle.std.proofs.lemmas.Bool.Decides.{nat_tests}
use Rattle.std.specs.Prelude.{filter}
use Rattle.gx_ids.specs.declared.ids.Cid.{Cid}
use Rattle.gx_ids.specs.declared.ids.Gxid.{Gxid}
use Rattle.gx_ids.specs.declared.ids.Node.{Node}
use Rattle.gx_ids.specs.declared.ids.Table.{Table}
use Rattle.gx_ids.specs.declared.rid.Rid.{Rid}
use Rattle.gx_dsnap.specs.Gxids.{is_below}
use Rattle.gx_dsnap.specs.Snapshot.{sees}
use Rattle.gx_dsnap.specs.declared.snapshot.Snapshot.{Snapshot}
use Rattle.gx_locks.specs.Locks.{resumed, wait_of}
use Rattle.gx_msg.specs.declared.message.Message.TheVariants as message
use Rattle.gx_msg.specs.declared.reply.Reply.{Reply}
use Rattle.gx_script.specs.declared.Script.{Script}
use Rattle.gx_store.specs.declared.event.Event.TheVariants as event
use Rattle.gx_store.specs.declared.node.NodeEvent.TheVariants as here
use Rattle.gx_store.specs.Language.{AreLinesNumbered}
use Rattle.gx_store.specs.Marks.{is_same_gxid}
use Rattle.gx_store.specs.Ordered.{IsSegment}
use Rattle.gx_store.specs.Rows.{row_at}
use Rattle.gx_rules.specs.AtCoordinator.{coord_can, coord_rule}
use Rattle.gx_rules.specs.AtSegment.{raised, resumes, seg_rule}
use Rattle.gx_rules.specs.Changes.{Change, change_of}
use Rattle.gx_rules.specs.Locks.{hold_mark}
use Rattle.gx_rules.specs.Machine.{World, coord_did, new_world, seg_can, seg_did, world_of}
use Rattle.gx_rules.specs.Segments.{Phase, Seg, SegTurn, Version, after_marks, has_committed, local_of, reply as reply_out, with_local}
use Rattle.gx_rules.specs.Shown.{last_images, rows_in, shown}
use Rattle.gx_rules.specs.Running.{runs_slice}
use Rattle.gx_law_order.proofs.Ordered.{world_well}
use Rattle.gx_law_order.proofs.Suspended.{IsWantedAt}
use Rattle.gx_law_order.proofs.Waiting.{GoesOn, GoesOnAtRow, GoesOnSo, RunsNow, goes-on-is, going-on, going-ways}
use Rattle.gx_law_order.proofs.Legality.{after-last}
use Rattle.gx_law_reads.proofs.Waiting.{waits-to-run}
use Rattle.gx_law_writes.proofs.Changes.{later-turns-true}
use Rattle.gx_law_writes.proofs.Next.{next_command, waits-next}
use Rattle.gx_law_writes.proofs.Waiting.{waits-untold}
use Rattle.gx_law_answers.specs.Earned.{Events, RunsBehindWait, WaitsFor}
use Rattle.gx_law_answers.proofs.Posts.{Came, came-before}
use Rattle.gx_law_writes.specs.Changes.{IsTrueTurn}
use Rattle.gx_law_answers.proofs.Running.{AtItsRow, Doings, IsLate, Runs}

-- WHERE A SLICE NO LONGER WAITS
-- the segment without the wait of the transaction's slice
abbrev pub unsuspended : Seg → Gxid → Seg
unsuspended s g = with_local s g (record (local_of s g) { suspended = None })

-- nothing else changes
module _ (s : Seg) (g : Gxid) where
  pub answer-of : (h : ℕ) → ((unsuspended s g).locals h).answer ≡ (s.locals h).answer
  answer-of h = by_test (eqb h g.0) refl
    where
      by_test : (b : Bool) → eqb h g.0 ≡ b → (if b then record (local_of s g) { suspended = None } else s.locals h).answer ≡ (s.locals h).answer
      by_test true e = ap (λ j. (s.locals j).answer) (sym (eqb-true h g.0 e))
      by_test false e = refl

  phase-of : (h : ℕ) → ((unsuspended s g).locals h).phase ≡ (s.locals h).phase
  phase-of h = by_test (eqb h g.0) refl
    where
      by_test : (b : Bool) → eqb h g.0 ≡ b → (if b then record (local_of s g) { suspended = None } else s.locals h).phase ≡ (s.locals h).phase
      by_test true e = ap (λ j. (s.locals j).phase) (sym (eqb-true h g.0 e))
      by_test false e = refl

filter-by : {A : Type 0} (p q : A → Bool) → ((x : A) → p x ≡ q x) → (xs : List A) → filter p xs ≡ filter q xs
filter-by p q e [] = refl
filter-by p q e (x ∷ xs) = ap (λ b. cond b (x ∷ filter p xs) (filter p xs)) (e x) ∙ ap (λ ys. cond (q x) (x ∷ ys) ys) (filter-by p q e xs)

shown-still : (s : Seg) (g : Gxid) (horizon : Gxid) (x : Snapshot) (c : Cid) (table : Table) → shown (raised (unsuspended s g) horizon) x g c table ≡ shown (raised s horizon) x g c table
shown-still s g horizon x c table =
    ap (λ vs. rows_in (last_images vs))
    (filter-by _ _
    (λ (v : Version). ap (λ (p : Phase). (v.table.0 == table.0) && ((is_same_gxid v.gxid g && nat_lt v.cid.0 c.0) || (has_committed p && (is_below (raised s horizon).horizon v.gxid || sees x v.gxid)))) (phase-of s g v.gxid.0))
    s.versions)

raised-same : (s : Seg) (h : Gxid) → h.0 ≤ s.horizon.0 → raised s h ≡ s
raised-same s h l = ap (λ b. let t : Seg = record s { horizon = if b then h else s.horizon } in t) (not-above s.horizon.0 h.0 l)
  where
    not-above : (a b : ℕ) → b ≤ a → nat_lt a b ≡ false
    not-above a b l = grind (arith, nat_tests)

not-here : (n : ℕ) → 1 ≤ n → eqb n 0 ≡ false
not-here n l = grind (arith, nat_tests)

-- ITS TURN
module _ (script : Script) (some : 1 ≤ script.segments) (numbered_lines : AreLinesNumbered [] script.lines) (es : Events) (to : Node) (g : Gxid) (fails : Bool) (place : IsSegment script to) (ok : seg_can script ((world_of script es).segs to.0) (here.Resume g) ≡ true) where
  abbrev w : World
  w = world_of script es

  abbrev s : Seg
  s = (world_of script es).segs to.0

  abbrev turn : SegTurn
  turn = resumes s g (wait_of s.locks g) (local_of s g).suspended

  pub resumed-late : IsLate script es to (event.Resume to g) fails (here.Resume g)
  resumed-late =
      after-last script some new_world es (event.Resume to g, fails)
      ∙ ap (λ b. if (if b then coord_can script w.coord (here.Resume g) else seg_can script s (here.Resume g)) then (if b then coord_did w (event.Resume to g) (coord_rule script w.coord (here.Resume g) fails) else late) else w) (not-here to.0 place.0)
      ∙ ap (λ b. if b then late else w) ok
    where
      late : World
      late = seg_did (world_of script es) to (event.Resume to g) (seg_rule script ((world_of script es).segs to.0) (here.Resume g) fails)

  o : GoesOn script w to.0 g
  o = going-on script w (world_well script some es) to.0 g ok

  its : Came script es to (message.Exec g o.slice.cid o.slice.level o.slice.snapshot o.waits.horizon o.slice.slice)
  its = came-before script some es to _ o.waits.come

  still-next : next_command (local_of s g) ≤ o.slice.cid.0
  still-next = waits-next (local_of s g) o.slice o.is o.waits.last

  its-turn : (k : Change) → change_of o.slice.cid o.slice.level o.slice.snapshot o.slice.slice ≡ Some k → IsTrueTurn script w (event.Resume to g) to g k turn
  its-turn k changes = later-turns-true script some numbered_lines es to g o.slice k ok o.is changes

  waits-for : (row : Option Rid) → IsWantedAt script g o.slice.slice row o.wanted → WaitsFor script g o.slice.slice row o.wanted
  waits-for None l = l
  waits-for (Some rid) (inl l) = inl l
  waits-for (Some rid) (inr l) = inr (l.writer, l.is)

  waited : (r : Reply) → turn.outs ≡ reply_out g r ∷ [] → RunsBehindWait script w (event.Resume to g) to g o.slice.cid o.slice.level o.slice.snapshot o.slice.slice r
  waited r given =
      record {
        is = refl;
        waiting = o.slice;
        waits = o.is;
        command = refl;
        level_is = refl;
        snapshot_is = refl;
        slice_is = refl;
        horizon = o.waits.horizon;
        came = record { place = o.waits.come.place; step = o.waits.come.step; at = o.waits.come.stands; there = o.waits.come.node; received = o.waits.come.received };
        last = o.waits.last;
        unanswered = o.waits.unanswered;
        wanted = o.wanted;
        wants = o.claims;
        lock = waits-for o.slice.row o.lock;
        free = o.free;
        ran = goes-on-is s g o.wanted o.slice o.claims o.is;
        given = given;
      }

  behind-wait : RunsNow script s g o.slice o.wanted turn → Runs script es to (event.Resume to g) fails (here.Resume g) o.slice.slice
  behind-wait now =
      record {
        g = g;
        c = o.slice.cid;
        level = o.slice.level;
        snapshot = o.slice.snapshot;
        reads = o.waits.reads;
        horizon = o.waits.horizon;
        came = its;
        untold = λ n k wrote count part. waits-untold script some numbered_lines es to place.0 g o.slice n k wrote count part o.is;
        next = still-next;
        like = unsuspended s g;
        named = refl;
        versions = refl;
        answers = λ h. answer-of s g h;
        sight = λ unaborted v same k d taken table rid only. ap (λ rows. row_at rows rid) (shown-still s g o.waits.horizon v o.slice.cid table) ∙ (subst (λ z. Came script es to (message.Exec g o.slice.cid o.slice.level z o.waits.horizon o.slice.slice)) same its).view_is place.0 (waits-to-run script w (world_well script some es) to g o.slice o.is unaborted) k d taken table rid only;
        locks = resumed s.locks g (Some o.wanted);
        wanted = o.wanted;
        lock = now.at.lock;
        ran = now.is ∙ ap (λ (t : Seg). after_marks (hold_mark s.node o.wanted ∷ []) (runs_slice (record t { locks = resumed s.locks g (Some o.wanted) }) g o.slice.cid o.slice.level o.slice.snapshot o.slice.slice)) (sym (raised-same (unsuspended s g) o.waits.horizon o.waits.raised));
        turned = its-turn;
        given = λ r given. inr (waited r given);
      }

  at-row : GoesOnAtRow s g o.slice o.wanted turn → AtItsRow script es to (event.Resume to g) fails (here.Resume g)
  at-row now = record { g = g; on = o; goes = now; came = its; next = still-next; turned = its-turn; given = waited }

  pub resumption-does : Doings script es to (event.Resume to g) fails (here.Resume g)
  resumption-does = by_way (going-ways script w to.0 g o)
    where
      by_way : GoesOnSo script s g o.slice o.wanted turn → Doings script es to (event.Resume to g) fails (here.Resume g)
      by_way (inl now) = inr (inr (inl (o.slice.slice, behind-wait now)))
      by_way (inr now) = inr (inr (inr (at-row now)))
