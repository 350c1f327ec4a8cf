-- In every run the turns of UPDATEs and DELETEs are legal and say what is so, and what they have counted stays.
use Rattle.std.proofs.Common.{◌≡◌, ◌≤◌, ◌<◌, ◌⊎◌, inl, inr, ℕ, List, [], ◌∷◌, ◌++◌, Option, Some, None, Bool, true, false, not, refl, sym, subst, ap, ◌∙◌, if◌then◌else◌, ◌==◌, ◌&&◌, ◌||◌, arith, eqb}
use Rattle.std.proofs.lemmas.Bool.Decides.{nat_tests}
use Rattle.std.specs.Prelude.{is_some, nat_le, nat_lt}
use Rattle.gx_lemmas.proofs.Options.{some-same}
use Rattle.gx_ids.specs.declared.ids.Cid.{Cid}
use Rattle.gx_ids.specs.declared.ids.Gxid.{Gxid}
use Rattle.gx_ids.specs.declared.ids.Node.{Node}
use Rattle.gx_ids.specs.declared.ids.Table.{Table}
use Rattle.gx_modes.specs.declared.modes.Mode.{Mode}
use Rattle.gx_tree.specs.declared.query.Query.{Query}
use Rattle.gx_tree.specs.declared.row.KeyedRow.{KeyedRow}
use Rattle.gx_tree.specs.declared.slice.Slice.{Slice}
use Rattle.gx_tree.specs.declared.slice.Slice.TheVariants as slice
use Rattle.gx_tree.specs.declared.stmt.Level.{Level}
use Rattle.gx_dsnap.specs.Gxids.{is_below}
use Rattle.gx_dsnap.specs.declared.snapshot.Snapshot.{Snapshot}
use Rattle.gx_locks.specs.Locks.{wait_of}
use Rattle.gx_waits.specs.Claims.{is_clear}
use Rattle.gx_msg.specs.declared.message.Message.{Message}
use Rattle.gx_msg.specs.declared.message.Message.TheVariants as message
use Rattle.gx_msg.specs.declared.reply.Reply.TheVariants as reply
use Rattle.gx_script.specs.declared.Script.{Script}
use Rattle.gx_store.specs.declared.event.Event.{Event}
use Rattle.gx_store.specs.declared.event.Event.TheVariants as event
use Rattle.gx_store.specs.declared.mark.Mark.{Mark}
use Rattle.gx_store.specs.declared.mark.Mark.TheVariants as mark
use Rattle.gx_store.specs.declared.run.Step.{Step}
use Rattle.gx_store.specs.Language.{AreLinesNumbered}
use Rattle.gx_store.specs.Ordered.{IsSegment}
use Rattle.gx_store.specs.Points.{marks_in}
use Rattle.gx_rules.specs.AtSegment.{if_fits, on_exec, on_message, raised, repeats, resumes, takes}
use Rattle.gx_rules.specs.Changes.{Change, change_of}
use Rattle.gx_rules.specs.Fits.{fits_exec, holds_locks, is_right_slice, reads_nothing}
use Rattle.gx_rules.specs.Machine.{World, after, world_of}
use Rattle.gx_rules.specs.Maps.{each_below}
use Rattle.gx_rules.specs.Running.{runs_locked, starts_slice, suspends}
use Rattle.gx_store.specs.Locks.{slice_lock}
use Rattle.gx_rules.specs.Segments.{Phase, Seg, SegTurn, Suspended, local_of, stays}
use Rattle.gx_rules.specs.Segments.Phase.{Aborted, Committed, Forgotten, Prepared, Reading, Writing}
use Rattle.gx_law_order.specs.Lists.{Each}
use Rattle.gx_law_order.proofs.Ordered.{resumes_there, world_well}
use Rattle.gx_law_order.proofs.Waiting.{GoesOn, going-on}
use Rattle.gx_law_order.specs.Rest.{EachMark}
use Rattle.gx_law_order.proofs.Legality as histories
use Rattle.gx_law_order.specs.Pairs.{is_open}
use Rattle.gx_law_order.specs.Standings.{at}
use Rattle.gx_law_order.proofs.Whole.{world-both}
use Rattle.gx_law_locks.proofs.HoldsInRuns.{world-locked}
use Rattle.gx_law_reads.proofs.Ends.{world-facts}
use Rattle.gx_law_order.proofs.Journals.{world-hold}
use Rattle.gx_law_writes.specs.Changes.{AreLaterTurnsTrue, AreNewTurnsTrue, DoCountsStay, FaultLegal, IsTrueTurn}
use Rattle.gx_law_writes.proofs.Told.{sending-told}
use Rattle.gx_law_writes.proofs.Turns.{Changed, Continues, NoRow, resumption-turns}
use Rattle.gx_law_writes.proofs.World.{counts-stay, exec-true, locals_in, row-true, table-true, world-holds}

-- A NEW COMMAND
-- the turn says nothing, and does nothing to rows
pub record IsSilent (turn : SegTurn) : Type 0 where
  pub outs : turn.outs ≡ []
  pub marks : Each NoRow turn.marks

no-row-fault : (script : Script) (steps : List Step) (e : Event) (earlier ms later : List Mark) → Each NoRow ms → EachMark (FaultLegal script) steps e earlier ms later
no-row-fault script steps e earlier [] later n = tt
no-row-fault script steps e earlier (mark.Fault g c r x ∷ ms) later n = absurd n.0
no-row-fault script steps e earlier (m ∷ ms) later n = (tt, no-row-fault script steps e (earlier ++ m ∷ []) ms later n.1)

pub silent-true : (script : Script) (w : World) (e : Event) (node : Node) (g : Gxid) (k : Change) (turn : SegTurn) → IsSilent turn → IsTrueTurn script w e node g k turn
silent-true script w e node g k turn q = record { faults = λ later. no-row-fault script w.steps e [] turn.marks later q.marks; says = inr (inr (inr (inr q.outs))) }

-- it runs at once, with its table's lock
pub record RunsNow (script : Script) (s : Seg) (m : Message) (g : Gxid) (k : Change) (turn : SegTurn) : Type 0 where
  pub changed : Changed script s m turn
  pub own : changed.g ≡ g
  pub its : changed.change ≡ k

module _ (script : Script) (s : Seg) (g : Gxid) (c : Cid) (level : Level) (snapshot : Option Snapshot) (h : Gxid) (y : Slice) (k : Change) (changes : change_of c level snapshot y ≡ Some k) (fresh : (s.locals g.0).last < c.0) where
  abbrev its : Message
  its = message.Exec g c level snapshot h y

  abbrev Ways : SegTurn → Type 0
  Ways turn = IsSilent turn ⊎ RunsNow script s its g k turn

  rests : Ways (stays s)
  rests = inl (record { outs = refl; marks = tt })

  above : nat_lt (s.locals g.0).last c.0 ≡ true
  above = less (s.locals g.0).last c.0 fresh
    where
      less : (a b : ℕ) → a < b → nat_lt a b ≡ true
      less a b l = grind (arith, nat_tests)

  not-last : (c.0 == (s.locals g.0).last) ≡ false
  not-last = apart c.0 (s.locals g.0).last fresh
    where
      apart : (a b : ℕ) → b < a → eqb a b ≡ false
      apart a b l = grind (arith, nat_tests)

  repeated : Ways (repeats s g c (s.locals g.0))
  repeated = subst (λ b. Ways (if b then Rattle.gx_rules.specs.Segments.tells_kept s g (s.locals g.0).answer else stays s)) (sym not-last) rests

  module _ (alone : (s.locals g.0).suspended ≡ None) (opened : is_open (s.locals g.0).phase ≡ true) where
    runs : (snapshot : Option Snapshot) (y : Slice) → change_of c level snapshot y ≡ Some k → RunsNow script s (message.Exec g c level snapshot h y) g k (runs_locked (raised s h) g c level snapshot y (slice_lock script g y))
    runs (Some x) (slice.Update t a d) e =
        record {
          changed = record {
            g = g;
            horizon = h;
            change = record { cid = c; level = level; snapshot = x; slice = slice.Update t a d; table = t; set = Some a; cond = d };
            is = refl;
            changes = refl;
            opened = opened;
            fresh = fresh;
            alone = alone;
            wanted = slice_lock script g (slice.Update t a d);
            locked = refl;
            ran = refl;
          };
          own = refl;
          its = some-same _ k e;
        }
    runs (Some x) (slice.Delete t d) e =
        record {
          changed = record {
            g = g;
            horizon = h;
            change = record { cid = c; level = level; snapshot = x; slice = slice.Delete t d; table = t; set = None; cond = d };
            is = refl;
            changes = refl;
            opened = opened;
            fresh = fresh;
            alone = alone;
            wanted = slice_lock script g (slice.Delete t d);
            locked = refl;
            ran = refl;
          };
          own = refl;
          its = some-same _ k e;
        }
    runs (Some x) (slice.Select q) e = absurd (cc)
    runs (Some x) (slice.Insert t rows) e = absurd (cc)
    runs (Some x) (slice.Lock t m) e = absurd (cc)
    runs None (slice.Update t a d) e = absurd (cc)
    runs None (slice.Delete t d) e = absurd (cc)
    runs None (slice.Select q) e = absurd (cc)
    runs None (slice.Insert t rows) e = absurd (cc)
    runs None (slice.Lock t m) e = absurd (cc)

    started : Ways (starts_slice script (raised s h) g c level snapshot y)
    started = by_test (is_clear s.locks.holds s.locks.waits (slice_lock script g y))
      where
        by_test : (b : Bool) → Ways (if b then runs_locked (raised s h) g c level snapshot y (slice_lock script g y) else suspends (raised s h) g c level snapshot y (slice_lock script g y))
        by_test true = inr (runs snapshot y changes)
        by_test false = inl (record { outs = refl; marks = (tt, tt) })

    taken : Ways (takes script s g c level snapshot h y (s.locals g.0))
    taken = subst (λ b. Ways (if b then starts_slice script (raised s h) g c level snapshot y else repeats s g c (s.locals g.0))) (sym above) started

  fit-alone : fits_exec script s g c snapshot h y ≡ true → (s.locals g.0).suspended ≡ None
  fit-alone e = from (nat_le h.0 g.0) (each_below h.0 (λ j. not (holds_locks (s.locals j)))) (is_some snapshot || reads_nothing y) (is_right_slice script g c y) (nat_lt (s.locals g.0).last c.0) (s.locals g.0).suspended e above
    where
      clash : (a b c d later : Bool) → (a && (b && (c && (d && not (later && true))))) ≡ true → later ≡ true → ⊥
      clash a b c d later e q = grind arith

      from : (a b c d later : Bool) (o : Option Suspended) → (a && (b && (c && (d && not (later && is_some o))))) ≡ true → later ≡ true → o ≡ None
      from a b c d later None e q = refl
      from a b c d later (Some x) e q = absurd (clash a b c d later e q)

  by-phase : (s.locals g.0).suspended ≡ None → (p : Phase) → (s.locals g.0).phase ≡ p → Ways (on_exec script s g c level snapshot h y (s.locals g.0) p)
  by-phase alone Reading e = taken alone (ap is_open e)
  by-phase alone Writing e = taken alone (ap is_open e)
  by-phase alone Prepared e = repeated
  by-phase alone Committed e = repeated
  by-phase alone (Forgotten b) e = rests
  by-phase alone Aborted e = rests

  pub new-ways : (fails : Bool) → IsSilent (on_message script s fails (message.Exec g c level snapshot h y)) ⊎ RunsNow script s (message.Exec g c level snapshot h y) g k (on_message script s fails (message.Exec g c level snapshot h y))
  new-ways fails = by_below (is_below s.horizon g)
    where
      by_fits : (b : Bool) → fits_exec script s g c snapshot h y ≡ b → Ways (if_fits s b (on_exec script s g c level snapshot h y (local_of s g) (local_of s g).phase))
      by_fits true e = by-phase (fit-alone e) (local_of s g).phase refl
      by_fits false e = rests

      by_below : (b : Bool) → Ways (if b then stays s else if_fits s (fits_exec script s g c snapshot h y) (on_exec script s g c level snapshot h y (local_of s g) (local_of s g).phase))
      by_below true = rests
      by_below false = by_fits (fits_exec script s g c snapshot h y) refl

-- IN EVERY RUN
module _ (script : Script) (some : 1 ≤ script.segments) (numbered : AreLinesNumbered [] script.lines) (es : List (Event × Bool)) where
  abbrev w : World
  w = world_of script es

  pub new-turns-true : AreNewTurnsTrue script (world_of script es)
  new-turns-true from to number envelope fails g c level snapshot horizon y k place f is changes fresh =
      subst (λ (m : Message). IsTrueTurn script w (event.Receive from to number) to g k (on_message script (w.segs to.0) fails m)) (sym is)
      (by_way (new-ways script (w.segs to.0) g c level snapshot horizon y k changes fresh fails))
    where
      its : Message
      its = message.Exec g c level snapshot horizon y

      turn : SegTurn
      turn = on_message script (w.segs to.0) fails its

      by_way : IsSilent turn ⊎ RunsNow script (w.segs to.0) its g k turn → IsTrueTurn script w (event.Receive from to number) to g k turn
      by_way (inl q) = silent-true script w (event.Receive from to number) to g k turn q
      by_way (inr r) =
          subst (λ z. IsTrueTurn script w (event.Receive from to number) to z k turn) r.own
          (subst (λ z. IsTrueTurn script w (event.Receive from to number) to r.changed.g z turn) r.its
          (exec-true script some numbered w (world-both script some es) (histories.world-holds script some es) (world-hold script some es) (world-facts script some es) (world-locked script some es) (world-holds script some numbered es) from to number envelope fails place f its is turn r.changed))

  pub later-turns-true : AreLaterTurnsTrue script (world_of script es)
  later-turns-true node g x k ok waits changes = by_way (resumption-turns script w node.0 g o)
    where
      o : GoesOn script w node.0 g
      o = going-on script w (world_well script some es) node.0 g ok

      place : IsSegment script (at node.0)
      place = resumes_there script w node g (world_well script some es) ok

      turn : SegTurn
      turn = resumes (w.segs node.0) g (wait_of (w.segs node.0).locks g) (local_of (w.segs node.0) g).suspended

      same : x ≡ o.slice
      same = some-same x o.slice (sym waits ∙ o.is)

      its : change_of o.slice.cid o.slice.level o.slice.snapshot o.slice.slice ≡ Some k
      its = subst (λ (z : Suspended). change_of z.cid z.level z.snapshot z.slice ≡ Some k) same changes

      none-reads : (c : Cid) (level : Level) (snapshot : Option Snapshot) (y : Slice) → change_of c level snapshot y ≡ Some k → ((q : Query) → y ≡ slice.Select q → ⊥) × ((t : Table) (rows : List KeyedRow) → y ≡ slice.Insert t rows → ⊥) × ((t : Table) (m : Mode) → y ≡ slice.Lock t m → ⊥)
      none-reads c level snapshot y e = ((λ q z. no-select snapshot q (subst (λ a. change_of c level snapshot a ≡ Some k) z e)), (λ t rows z. no-insert snapshot t rows (subst (λ a. change_of c level snapshot a ≡ Some k) z e)), λ t m z. no-lock snapshot t m (subst (λ a. change_of c level snapshot a ≡ Some k) z e))
        where
          no-select : (snapshot : Option Snapshot) (q : Query) → change_of c level snapshot (slice.Select q) ≡ Some k → ⊥
          no-select (Some v) q z = cc
          no-select None q z = cc

          no-insert : (snapshot : Option Snapshot) (t : Table) (rows : List KeyedRow) → change_of c level snapshot (slice.Insert t rows) ≡ Some k → ⊥
          no-insert (Some v) t rows z = cc
          no-insert None t rows z = cc

          no-lock : (snapshot : Option Snapshot) (t : Table) (m : Mode) → change_of c level snapshot (slice.Lock t m) ≡ Some k → ⊥
          no-lock (Some v) t m z = cc
          no-lock None t m z = cc

      by_way : Continues (w.segs node.0) g o.slice turn → IsTrueTurn script w (event.Resume node g) node g k turn
      by_way (inl q) = absurd ((none-reads o.slice.cid o.slice.level o.slice.snapshot o.slice.slice its).0 q.query q.is)
      by_way (inr (inl q)) = absurd ((none-reads o.slice.cid o.slice.level o.slice.snapshot o.slice.slice its).1 q.table q.rows q.is)
      by_way (inr (inr (inl q))) = absurd ((none-reads o.slice.cid o.slice.level o.slice.snapshot o.slice.slice its).2 q.table q.mode q.is)
      by_way (inr (inr (inr (inl q)))) =
          subst (λ z. IsTrueTurn script w (event.Resume node g) node g z turn) (some-same q.change k (sym q.changes ∙ its))
          (table-true script some numbered w (world-both script some es) (histories.world-holds script some es) (world-hold script some es) (world-facts script some es) (world-locked script some es) (world-holds script some numbered es) node.0 g place o turn q)
      by_way (inr (inr (inr (inr q)))) =
          subst (λ z. IsTrueTurn script w (event.Resume node g) node g z turn) (some-same q.goes.at.change k (sym q.goes.at.changes ∙ its))
          (row-true script some numbered w (world-both script some es) (histories.world-holds script some es) (world-hold script some es) (world-facts script some es) (world-locked script some es) (world-holds script some numbered es) node.0 g place o turn q)

  pub counts-kept : (later : List (Event × Bool)) → DoCountsStay (world_of script es) (after script (world_of script es) later)
  counts-kept later node to number g c wrote count part one sent =
      (counts-stay script some numbered es later node g c
      (sending-told script (marks_in w.steps) (locals_in w.segs) w.steps sent.step sent.mark node to number (message.Answer g (reply.Done c wrote count part)) one (world-holds script some numbered es).told sent.sending).0).0
