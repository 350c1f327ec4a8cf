-- A segment's turn when a message comes.
use Rattle.std.proofs.Common.{◌≡◌, ◌≤◌, ◌<◌, ◌⊎◌, inl, inr, ℕ, [], ◌∷◌, Option, Some, None, Bool, true, false, refl, sym, subst, ap, ◌∙◌, if◌then◌else◌, ◌||◌, eqb, arith}
use Rattle.std.proofs.lemmas.Bool.Decides.{nat_tests}
use Rattle.std.specs.Prelude.{is_some}
use Rattle.gx_ids.specs.declared.ids.Cid.{Cid}
use Rattle.gx_ids.specs.declared.ids.Gxid.{Gxid}
use Rattle.gx_ids.specs.declared.ids.Node.{Node}
use Rattle.gx_tree.specs.declared.slice.Slice.{Slice}
use Rattle.gx_tree.specs.declared.slice.Slice.TheVariants as slice
use Rattle.gx_tree.specs.declared.stmt.Level.{Level}
use Rattle.gx_dsnap.specs.declared.snapshot.Snapshot.{Snapshot}
use Rattle.gx_waits.specs.declared.claim.Claim.{Claim}
use Rattle.gx_locks.specs.Locks.{Locks}
use Rattle.gx_msg.specs.declared.message.Envelope.{Envelope}
use Rattle.gx_msg.specs.declared.message.Message.TheVariants as message
use Rattle.gx_script.specs.declared.Script.{Script}
use Rattle.gx_store.specs.declared.event.Event.TheVariants as event
use Rattle.gx_store.specs.declared.node.NodeEvent.TheVariants as here
use Rattle.gx_store.specs.Language.{AreLinesNumbered}
use Rattle.gx_store.specs.Ordered.{IsSegment}
use Rattle.gx_rules.specs.AtCoordinator.{coord_can, coord_rule}
use Rattle.gx_store.specs.Locks.{slice_lock}
use Rattle.gx_rules.specs.AtSegment.{on_message, seg_rule}
use Rattle.gx_rules.specs.Fits.{reads_nothing}
use Rattle.gx_rules.specs.Changes.{Change, change_of, changes_rows}
use Rattle.gx_rules.specs.Locks.{hold_mark, with_hold}
use Rattle.gx_rules.specs.Machine.{World, can_here, coord_did, delivered, does, found, new_world, seg_did, world_of}
use Rattle.gx_rules.specs.Segments.{Seg, SegTurn, after_marks, local_of}
use Rattle.gx_rules.specs.Running.{runs_slice, suspended_slice}
use Rattle.gx_law_order.specs.Lists.{Each}
use Rattle.gx_law_order.proofs.Ordered.{world_well}
use Rattle.gx_law_order.proofs.Legality.{after-last}
use Rattle.gx_law_reads.proofs.Waiting.{new-to-run}
use Rattle.gx_law_writes.proofs.Changes.{new-turns-true}
use Rattle.gx_law_writes.proofs.Next.{new-next}
use Rattle.gx_law_writes.proofs.Turns.{NoRow, base}
use Rattle.gx_law_writes.proofs.Waiting.{Waited, Ways, message-ways, new-untold}
use Rattle.gx_law_answers.specs.Earned.{Events}
use Rattle.gx_law_answers.proofs.Posts.{Came, came-now}
use Rattle.gx_law_answers.proofs.Running.{Doings, Idle, IsLate, Runs}

or-true : (b : Bool) → (b || true) ≡ true
or-true true = refl
or-true false = refl

not-here : (n : ℕ) → 1 ≤ n → eqb n 0 ≡ false
not-here n l = grind (arith, nat_tests)

-- a slice that changes rows runs as the change that it is
pub change-runs : (b : Seg) (g : Gxid) (c : Cid) (level : Level) (v : Snapshot) (y : Slice) (k : Change) → change_of c level (Some v) y ≡ Some k → runs_slice b g c level (Some v) y ≡ changes_rows b g (Some k)
change-runs b g c level v (slice.Update t a d) k e = ap (changes_rows b g) e
change-runs b g c level v (slice.Delete t d) k e = ap (changes_rows b g) e
change-runs b g c level v (slice.Select q) k e = absurd (cc)
change-runs b g c level v (slice.Insert t rows) k e = absurd (cc)
change-runs b g c level v (slice.Lock t m) k e = absurd (cc)

module _ (script : Script) (some : 1 ≤ script.segments) (numbered_lines : AreLinesNumbered [] script.lines) (es : Events) (from to : Node) (number : ℕ) (envelope : Envelope) (fails : Bool) (place : IsSegment script to) (is_found : found from to number (world_of script es).sent ≡ Some envelope) where
  abbrev w : World
  w = world_of script es

  abbrev s : Seg
  s = (world_of script es).segs to.0

  abbrev turn : SegTurn
  turn = on_message script ((world_of script es).segs to.0) fails envelope.message

  pub received-late : IsLate script es to (event.Receive from to number) fails (here.Deliver from envelope)
  received-late =
      after-last script some new_world es (event.Receive from to number, fails)
      ∙ ap (λ o. if (can_of o) then does script w (event.Receive from to number) to fails (delivered from o) else w) is_found
      ∙ ap (λ b. if (if b then coord_can script w.coord (here.Deliver from envelope) else true) then (if b then coord_did w (event.Receive from to number) (coord_rule script w.coord (here.Deliver from envelope) fails) else late) else w) (not-here to.0 place.0)
    where
      can_of : Option Envelope → Bool
      can_of o = can_here script w to (delivered from o)

      late : World
      late = seg_did (world_of script es) to (event.Receive from to number) (seg_rule script ((world_of script es).segs to.0) (here.Deliver from envelope) fails)

  at-once : (g : Gxid) (c : Cid) (level : Level) (q : Option Snapshot) (horizon : Gxid) (y : Slice) → (is_some q || reads_nothing y) ≡ true → envelope.message ≡ message.Exec g c level q horizon y → (s.locals g.0).last < c.0 → (s.locals g.0).suspended ≡ None → (locks : Locks) (wanted : Claim) → slice_lock script g y ≡ wanted → turn ≡ after_marks (hold_mark s.node wanted ∷ []) (runs_slice (base s horizon locks) g c level q y)
      → Runs script es to (event.Receive from to number) fails (here.Deliver from envelope) y
  at-once g c level q horizon y reads told fresh alone locks wanted lock ran =
      record {
        g = g;
        c = c;
        level = level;
        snapshot = q;
        reads = reads;
        horizon = horizon;
        came = its;
        untold = λ n k wrote count part. new-untold script some numbered_lines es to place.0 g c n k wrote count part fresh;
        next = new-next (s.locals g.0) c.0 alone fresh;
        like = s;
        named = refl;
        versions = refl;
        answers = λ h. refl;
        sight = λ unaborted v same. (subst (λ z. Came script es to (message.Exec g c level z horizon y)) same its).view_is place.0 (new-to-run w to g c unaborted fresh);
        locks = locks;
        wanted = wanted;
        lock = lock;
        ran = ran;
        turned = λ k changes. new-turns-true script some numbered_lines es from to number envelope fails g c level q horizon y k place is_found told changes fresh;
        given = λ r o. inl (record { from = from; number = number; is = refl; envelope = envelope; posted = is_found; horizon = horizon; told = told; new = fresh; locks = locks; wanted = wanted; lock = lock; ran = ran; given = o });
      }
    where
      its : Came script es to (message.Exec g c level q horizon y)
      its = subst (Came script es to) told (came-now script some es from to number envelope place is_found)

  idle : Waited script s envelope.message turn → Idle script es to (event.Receive from to number) fails (here.Deliver from envelope)
  idle z =
      record {
        marks = subst (λ (t : SegTurn). Each NoRow t.marks) (sym z.ran) (tt, tt);
        kept = λ h. subst (λ (t : SegTurn). ((t.seg.locals h).answer ≡ None) ⊎ ((t.seg.locals h).answer ≡ (s.locals h).answer)) (sym z.ran) (by_test h (eqb h z.g.0));
        outs = ap (λ (t : SegTurn). t.outs) z.ran;
      }
    where
      by_test : (h : ℕ) (b : Bool)
          → ((if b then record (local_of s z.g) { last = z.c.0; answer = None; suspended = Some (suspended_slice z.c z.level z.snapshot z.slice) } else s.locals h).answer ≡ None)
          ⊎ ((if b then record (local_of s z.g) { last = z.c.0; answer = None; suspended = Some (suspended_slice z.c z.level z.snapshot z.slice) } else s.locals h).answer ≡ (s.locals h).answer)
      by_test h true = inl refl
      by_test h false = inr refl

  pub message-does : Doings script es to (event.Receive from to number) fails (here.Deliver from envelope)
  message-does = by_way (message-ways script w (world_well script some es) to.0 fails envelope.message)
    where
      by_way : Ways script s envelope.message turn → Doings script es to (event.Receive from to number) fails (here.Deliver from envelope)
      by_way (inl q) = inl q
      by_way (inr (inl z)) = inr (inr (inl (slice.Select z.query, at-once z.g z.c z.level (Some z.snapshot) z.horizon (slice.Select z.query) refl z.is z.fresh z.alone z.locks z.wanted z.locked z.ran)))
      by_way (inr (inr (inl z))) = inr (inr (inl (slice.Insert z.table z.rows, at-once z.g z.c z.level (Some z.snapshot) z.horizon (slice.Insert z.table z.rows) refl z.is z.fresh z.alone z.locks z.wanted z.locked z.ran)))
      by_way (inr (inr (inr (inl z)))) = inr (inl (idle z))
      by_way (inr (inr (inr (inr (inl z))))) = inr (inr (inl (slice.Lock z.table z.mode, at-once z.g z.c z.level z.snapshot z.horizon (slice.Lock z.table z.mode) (or-true (is_some z.snapshot)) z.is z.fresh z.alone z.locks z.wanted z.locked z.ran)))
      by_way (inr (inr (inr (inr (inr z))))) =
          inr (inr (inl (
            z.change.slice,
            at-once z.g z.change.cid z.change.level (Some z.change.snapshot) z.horizon z.change.slice refl z.is z.fresh z.alone (with_hold s.locks z.wanted) z.wanted z.locked
                (z.ran ∙ ap (after_marks (hold_mark s.node z.wanted ∷ [])) (sym (change-runs (base s z.horizon (with_hold s.locks z.wanted)) z.g z.change.cid z.change.level z.change.snapshot z.change.slice z.change z.changes))),
          )))
