-- What a slice leaves as it was, and what it sends.
use Rattle.std.proofs.Common.{◌≡◌, ℕ, List, [], ◌∷◌, Option, Some, None, Bool, true, false, refl, sym, subst, ap, ◌∙◌, if◌then◌else◌}
use Rattle.std.specs.Prelude.{fold}
use Rattle.gx_ids.specs.declared.ids.Cid.{Cid}
use Rattle.gx_ids.specs.declared.ids.Gxid.{Gxid}
use Rattle.gx_ids.specs.declared.ids.Table.{Table}
use Rattle.gx_ids.specs.declared.rid.Rid.{Rid}
use Rattle.gx_tree.specs.declared.part.Part.{Part}
use Rattle.gx_tree.specs.declared.query.Query.{Query}
use Rattle.gx_tree.specs.declared.row.KeyedRow.{KeyedRow}
use Rattle.gx_tree.specs.declared.slice.Slice.{Slice}
use Rattle.gx_tree.specs.declared.slice.Slice.TheVariants as slice
use Rattle.gx_tree.specs.declared.stmt.Level.{Level}
use Rattle.gx_tree.specs.declared.value.Value.{Value}
use Rattle.gx_dsnap.specs.declared.snapshot.Snapshot.{Snapshot}
use Rattle.gx_waits.specs.declared.claim.Claim.{Claim}
use Rattle.gx_waits.specs.declared.object.Object.{Object}
use Rattle.gx_waits.specs.declared.object.Object.TheVariants.{Relation, Transaction, Tuple}
use Rattle.gx_waits.specs.Claims.{is_clear}
use Rattle.gx_meaning.specs.declared.fault.ArithFault.{ArithFault}
use Rattle.gx_msg.specs.declared.message.Out.{Out}
use Rattle.gx_msg.specs.declared.reply.Cause.{Cause}
use Rattle.gx_msg.specs.declared.reply.Reply.TheVariants.{Done, Failed}
use Rattle.gx_rules.specs.AtSegment.{resumes}
use Rattle.gx_rules.specs.Changes.{Change, RowTurn, change_of, changes_rows, goes_on_at, suspended_at, suspends_at}
use Rattle.gx_rules.specs.Locks.{with_hold}
use Rattle.gx_rules.specs.Running.{goes_on, is_granted, requests, runs_locked, runs_slice, suspends, unless_end}
use Rattle.gx_rules.specs.Segments.{Phase, Seg, SegTurn, Suspended, local_of, reply}
use Rattle.gx_rules.specs.Segments.Phase.{Aborted, Committed, Forgotten, Prepared, Reading, Writing}
use Rattle.gx_rules.specs.Shown.{shown}
use Rattle.gx_rules.specs.Slices.{Moved, fails_on, first_fault, inserts_row, selects, starts_from, takes_own, writes_row}
use Rattle.gx_rules.specs.Visits.{DidStop}
use Rattle.gx_rules.proofs.Moving.{Ends, Keeps}
use Rattle.gx_law_order.proofs.Changing.{change-parts, row-goes-on, rows-change, stop-keeps}
use Rattle.gx_law_order.specs.Lists.{Each}

-- The horizon stays, and this holds of what is sent.
pub record Leaves (P : Out → Type 0) (h : Gxid) (turn : SegTurn) : Type 0 where
  pub horizon : turn.seg.horizon ≡ h
  pub outs : Each P turn.outs

-- ROW BY ROW
own-horizon : (g : Gxid) (phase : Phase) (m : Moved) → (takes_own g phase m).seg.horizon ≡ m.seg.horizon
own-horizon g Reading m = refl
own-horizon g Writing m = refl
own-horizon g Prepared m = refl
own-horizon g Committed m = refl
own-horizon g (Forgotten b) m = refl
own-horizon g Aborted m = refl

writes-horizon : (g : Gxid) (c : Cid) (table : Table) (m : Moved) (rid : Rid) (image : Option (List Value)) → (writes_row g c table m rid image).seg.horizon ≡ m.seg.horizon
writes-horizon g c table m rid image = own-horizon g (local_of m.seg g).phase _

rows-horizon : (g : Gxid) (c : Cid) (table : Table) (rows : List KeyedRow) (m : Moved) → (fold (inserts_row g c table) m rows).seg.horizon ≡ m.seg.horizon
rows-horizon g c table [] m = refl
rows-horizon g c table (r ∷ rs) m = rows-horizon g c table rs (inserts_row g c table m r) ∙ writes-horizon g c table m r.rid (Some r.row)

horizon-keeps : (g : Gxid) (change : Change) (h : Gxid) → Keeps g change (λ m. m.seg.horizon ≡ h)
horizon-keeps g change h =
    record {
      takes = λ m rid free e. e;
      gives = λ m rid held e. e;
      writes = λ m rid image why e. writes-horizon g change.cid change.table m rid image ∙ e;
      skips = λ m rid why e. e;
      faults = λ m rid image e. e;
    }

granted-horizon : (wanted : Claim) (o : Object) (m : Moved) → (unless_end wanted o m).seg.horizon ≡ m.seg.horizon
granted-horizon wanted (Transaction other) m = refl
granted-horizon wanted (Relation table) m = refl
granted-horizon wanted (Tuple rid) m = refl

-- ALL SLICES
-- what a slice sends is its command's answer, or nothing
module _ (g : Gxid) (c : Cid) (P : Out → Type 0) (done : (wrote : Bool) (count : ℕ) (part : Part) → P (reply g (Done c wrote count part))) (failed : (cause : Cause) → P (reply g (Failed c cause))) where
  module _ (change : Change) (own : change.cid ≡ c) where
    own-done : (wrote : Bool) (count : ℕ) (part : Part) → P (reply g (Done change.cid wrote count part))
    own-done wrote count part = subst (λ d. P (reply g (Done d wrote count part))) (sym own) (done wrote count part)

    own-failed : (cause : Cause) → P (reply g (Failed change.cid cause))
    own-failed cause = subst (λ d. P (reply g (Failed d cause))) (sym own) (failed cause)

    stop-leaves : (h : Gxid) (m : Moved) (rid : Rid) (rest : List Rid) (count : ℕ) (turn : RowTurn) (stop : DidStop m g change rid turn) → m.seg.horizon ≡ h
        → Leaves P h (suspends_at stop.stopped g change (suspended_at change rid rest count))
    stop-leaves h m rid rest count turn stop e =
        let it = stop-keeps g change (λ m. m.seg.horizon ≡ h) (horizon-keeps g change h) m rid turn stop e in
        record { horizon = ap (λ (m : Moved). m.seg.horizon) (sym it.is) ∙ it.kept; outs = tt }

    row-ends : (h : Gxid) → Ends g change (λ m. m.seg.horizon ≡ h) (Leaves P h)
    row-ends h =
        record {
          done = λ m count e. record { horizon = e; outs = (own-done _ _ _, tt) };
          stopped = stop-leaves h;
          failed = λ m cause e. record { horizon = e; outs = (own-failed cause, tt) };
        }

    fault-leaves : (s : Seg) (f : KeyedRow × ArithFault) → Leaves P s.horizon (fails_on s g change.cid f)
    fault-leaves s f = record { horizon = refl; outs = (own-failed _, tt) }

    rows-leave : (s : Seg) → Leaves P s.horizon (changes_rows s g (Some change))
    rows-leave s = rows-change g change (λ m. m.seg.horizon ≡ s.horizon) (Leaves P s.horizon) (horizon-keeps g change s.horizon) (row-ends s.horizon) s refl (fault-leaves s)

    row-leaves : (m : Moved) (rid : Rid) (x : Suspended) → Leaves P m.seg.horizon (goes_on_at m g (Some change) rid x)
    row-leaves m rid x =
        row-goes-on g change (λ n. n.seg.horizon ≡ m.seg.horizon) (Leaves P m.seg.horizon) (horizon-keeps g change m.seg.horizon) (row-ends m.seg.horizon) m rid x refl

  changes-leave : (s : Seg) (o : Option Change) → ((change : Change) → o ≡ Some change → change.cid ≡ c) → Leaves P s.horizon (changes_rows s g o)
  changes-leave s None own = record { horizon = refl; outs = tt }
  changes-leave s (Some change) own = rows-leave change (own change refl) s

  goes-on-leaves : (m : Moved) (o : Option Change) (rid : Rid) (x : Suspended) → ((change : Change) → o ≡ Some change → change.cid ≡ c) → Leaves P m.seg.horizon (goes_on_at m g o rid x)
  goes-on-leaves m None rid x own = record { horizon = refl; outs = tt }
  goes-on-leaves m (Some change) rid x own = row-leaves change (own change refl) m rid x

  select : (s : Seg) (q : Query) (rows : List KeyedRow) (f : Option (KeyedRow × ArithFault)) → Leaves P s.horizon (selects s g c q rows f)
  select s q rows None = record { horizon = refl; outs = (done _ _ _, tt) }
  select s q rows (Some f) = record { horizon = refl; outs = (failed _, tt) }

  slice-leaves : (s : Seg) (level : Level) (snapshot : Option Snapshot) (x : Slice) → Leaves P s.horizon (runs_slice s g c level snapshot x)
  slice-leaves s level (Some snapshot) (slice.Select q) = select s q (shown s snapshot g c q.table) (first_fault q.cond (shown s snapshot g c q.table))
  slice-leaves s level (Some snapshot) (slice.Insert table rows) = record { horizon = rows-horizon g c table rows (starts_from s); outs = (done _ _ _, tt) }
  slice-leaves s level None (slice.Select q) = record { horizon = refl; outs = tt }
  slice-leaves s level None (slice.Insert table rows) = record { horizon = refl; outs = tt }
  slice-leaves s level snapshot (slice.Lock table mode) = record { horizon = refl; outs = (done _ _ _, tt) }
  slice-leaves s level snapshot (slice.Update table assigns cond) =
      changes-leave s (change_of c level snapshot (slice.Update table assigns cond)) (λ change e. (change-parts c level snapshot (slice.Update table assigns cond) change e).cid)
  slice-leaves s level snapshot (slice.Delete table cond) =
      changes-leave s (change_of c level snapshot (slice.Delete table cond)) (λ change e. (change-parts c level snapshot (slice.Delete table cond) change e).cid)

  -- with its table's lock, or a wait for it
  pub request-leaves : (s : Seg) (level : Level) (snapshot : Option Snapshot) (x : Slice) (wanted : Claim) → Leaves P s.horizon (requests s g c level snapshot x wanted)
  request-leaves s level snapshot x wanted = by_free (is_clear s.locks.holds s.locks.waits wanted)
    where
      by_free : (b : Bool) → Leaves P s.horizon (if b then runs_locked s g c level snapshot x wanted else suspends s g c level snapshot x wanted)
      by_free true = let run = slice-leaves (record s { locks = with_hold s.locks wanted }) level snapshot x in record { horizon = run.horizon; outs = run.outs }
      by_free false = record { horizon = refl; outs = tt }

-- one that has waited goes on
module _ (g : Gxid) (x : Suspended) (P : Out → Type 0) (done : (wrote : Bool) (count : ℕ) (part : Part) → P (reply g (Done x.cid wrote count part)))
    (failed : (cause : Cause) → P (reply g (Failed x.cid cause))) where
  moved-leaves : (m : Moved) (row : Option Rid) → Leaves P m.seg.horizon (goes_on m g x row)
  moved-leaves m None = let run = slice-leaves g x.cid P done failed m.seg x.level x.snapshot x.slice in record { horizon = run.horizon; outs = run.outs }
  moved-leaves m (Some rid) =
      goes-on-leaves g x.cid P done failed m (change_of x.cid x.level x.snapshot x.slice) rid x (λ change e. (change-parts x.cid x.level x.snapshot x.slice change e).cid)

  pub resumed-leaves : (s : Seg) (wanted : Claim) → Leaves P s.horizon (resumes s g (Some wanted) (Some x))
  resumed-leaves s wanted =
      let on = moved-leaves (is_granted s g wanted) x.row in
      record { horizon = on.horizon ∙ granted-horizon wanted wanted.object _; outs = on.outs }
