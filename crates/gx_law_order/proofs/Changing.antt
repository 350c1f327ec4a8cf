-- Commands that change rows: their parts, the locks that they wait for at a row, and what their loop keeps.
use Rattle.std.proofs.Common.{◌≡◌, ◌⊎◌, inl, inr, Bool, true, false, List, ◌∷◌, Option, Some, None, refl, sym, subst, ◌||◌}
use Rattle.gx_lemmas.proofs.Options.{some-same}
use Rattle.gx_ids.specs.declared.ids.Cid.{Cid}
use Rattle.gx_ids.specs.declared.ids.Gxid.{Gxid}
use Rattle.gx_ids.specs.declared.rid.Rid.{Rid}
use Rattle.gx_tree.specs.declared.row.KeyedRow.{KeyedRow}
use Rattle.gx_tree.specs.declared.slice.Slice.{Slice}
use Rattle.gx_tree.specs.declared.slice.Slice.TheVariants as slice
use Rattle.gx_tree.specs.declared.stmt.Level.{Level}
use Rattle.gx_dsnap.specs.declared.snapshot.Snapshot.{Snapshot}
use Rattle.gx_waits.specs.declared.claim.Claim.{Claim}
use Rattle.gx_waits.specs.declared.object.Object.{Object}
use Rattle.gx_waits.specs.declared.object.Object.TheVariants.{Relation, Transaction}
use Rattle.gx_meaning.specs.declared.fault.ArithFault.{ArithFault}
use Rattle.gx_script.specs.declared.Script.{Script}
use Rattle.gx_store.specs.Locks.{changing_mode, slice_lock}
use Rattle.gx_store.specs.Marks.{is_same_gxid}
use Rattle.gx_waits.specs.Claims.{claim}
use Rattle.gx_rules.specs.Changes.{Change, RowTurn, change_of, changes_rows, end_lock, goes_on_at, shown_to, tuple_lock, unless_fault, waits}
use Rattle.gx_rules.specs.Segments.{Seg, SegTurn, Suspended}
use Rattle.gx_rules.specs.Slices.{Moved, fails_on, first_fault, starts_from, takes_lock}
use Rattle.gx_rules.specs.Visits.{DidStop, WaitsAt}
use Rattle.gx_rules.proofs.Moving.{Ends, Keeps, loop-keeps}

-- THE COMMAND
-- its parts, and the lock of its table
pub record IsChangeOf (c : Cid) (at : Level) (seen : Option Snapshot) (x : Slice) (k : Change) : Type 0 where
  pub cid : k.cid ≡ c
  pub level : k.level ≡ at
  pub snapshot : Some k.snapshot ≡ seen
  pub slice : k.slice ≡ x
  pub lock : (script : Script) (g : Gxid) → slice_lock script g x ≡ claim g (Relation k.table) (changing_mode script)
  pub again : change_of k.cid k.level (Some k.snapshot) k.slice ≡ Some k

pub change-parts : (c : Cid) (level : Level) (snapshot : Option Snapshot) (x : Slice) (k : Change) → change_of c level snapshot x ≡ Some k → IsChangeOf c level snapshot x k
change-parts c level (Some s) (slice.Update table assigns cond) k e =
    subst (IsChangeOf c level (Some s) (slice.Update table assigns cond)) (some-same _ k e) (record { cid = refl; level = refl; snapshot = refl; slice = refl; lock = λ script g. refl; again = refl })
change-parts c level (Some s) (slice.Delete table cond) k e =
    subst (IsChangeOf c level (Some s) (slice.Delete table cond)) (some-same _ k e) (record { cid = refl; level = refl; snapshot = refl; slice = refl; lock = λ script g. refl; again = refl })
change-parts c level (Some s) (slice.Select query) k e = absurd (cc)
change-parts c level (Some s) (slice.Insert table rows) k e = absurd (cc)
change-parts c level (Some s) (slice.Lock table mode) k e = absurd (cc)
change-parts c level None (slice.Update table assigns cond) k e = absurd (cc)
change-parts c level None (slice.Delete table cond) k e = absurd (cc)
change-parts c level None (slice.Select query) k e = absurd (cc)
change-parts c level None (slice.Insert table rows) k e = absurd (cc)
change-parts c level None (slice.Lock table mode) k e = absurd (cc)

-- WHERE IT STOPS
-- a lock that is free when another transaction has ended at the segment
pub record IsEndLock (g : Gxid) (wanted : Claim) : Type 0 where
  pub writer : Gxid
  pub other : is_same_gxid writer g ≡ false
  pub is : end_lock g writer ≡ wanted

-- at a row it waits for the row's lock, or for the end of who has written the row
abbrev pub IsAtRow : Gxid → Rid → Claim → Type 0
IsAtRow g rid wanted = (tuple_lock g rid ≡ wanted) ⊎ IsEndLock g wanted

-- no transaction's end but this one's
abbrev pub IsEndOf : Gxid → Object → Type 0
IsEndOf writer (Transaction h) = h ≡ writer
IsEndOf writer _ = Unit {0}

-- where it stops, at a row of that writer, it adds one wait, and has written nothing more
pub record Stops (P : Moved → Type 0) (g : Gxid) (rid : Rid) (m : Moved) (writer : Gxid) (stopped : Moved) : Type 0 where
  pub before : Moved
  pub kept : P before
  pub versions : before.seg.versions ≡ m.seg.versions
  pub wanted : Claim
  pub lock : IsAtRow g rid wanted
  pub end : IsEndOf writer wanted.object
  pub is : (waits wanted before).moved ≡ stopped

or-first : (a b : Bool) → (a || b) ≡ false → a ≡ false
or-first true b e = absurd (cc)
or-first false b e = refl

module _ (g : Gxid) (k : Change) (P : Moved → Type 0) (keeps : Keeps g k P) where
  stops-at : (m : Moved) (rid : Rid) (writer : Gxid) (stopped : Moved) → is_same_gxid writer g ≡ false → P m → WaitsAt m g rid writer stopped → Stops P g rid m writer stopped
  stops-at m rid writer stopped o p (inl h) = record { before = m; kept = p; versions = refl; wanted = end_lock g writer; lock = inr (record { writer = writer; other = o; is = refl }); end = refl; is = sym h.1 }
  stops-at m rid writer stopped o p (inr (inl h)) =
      record {
        before = takes_lock (tuple_lock g rid) m;
        kept = keeps.takes m rid h.0 p;
        versions = refl;
        wanted = end_lock g writer;
        lock = inr (record { writer = writer; other = o; is = refl });
        end = refl;
        is = sym h.1;
      }
  stops-at m rid writer stopped o p (inr (inr h)) = record { before = m; kept = p; versions = refl; wanted = tuple_lock g rid; lock = inl refl; end = tt; is = sym h.1 }

  pub stop-keeps : (m : Moved) (rid : Rid) (t : RowTurn) (stop : DidStop m g k rid t) → P m → Stops P g rid m stop.version.gxid stop.stopped
  stop-keeps m rid t stop p = stops-at m rid stop.version.gxid stop.stopped (or-first _ _ stop.unsettled) p stop.how

-- ALL OF IT
-- what holds of the ends of the loop, and of a fault before it, holds of the command, from its start or from a row on
module _ (g : Gxid) (k : Change) (P : Moved → Type 0) (Q : SegTurn → Type 0) (keeps : Keeps g k P) (ends : Ends g k P Q) where
  faults-or-goes : (s : Seg) (rows : List KeyedRow) (o : Option (KeyedRow × ArithFault)) → P (starts_from s) → ((f : KeyedRow × ArithFault) → Q (fails_on s g k.cid f)) → Q (unless_fault s g k rows o)
  faults-or-goes s rows None p faulted = loop-keeps g k P Q keeps ends _ (starts_from s) 0 p
  faults-or-goes s rows (Some f) p faulted = faulted f

  pub rows-change : (s : Seg) → P (starts_from s) → ((f : KeyedRow × ArithFault) → Q (fails_on s g k.cid f)) → Q (changes_rows s g (Some k))
  rows-change s p faulted = faults-or-goes s (shown_to s g k) (first_fault k.cond (shown_to s g k)) p faulted

  pub row-goes-on : (m : Moved) (rid : Rid) (x : Suspended) → P m → Q (goes_on_at m g (Some k) rid x)
  row-goes-on m rid x p = loop-keeps g k P Q keeps ends (rid ∷ x.rows) m x.count p

-- two things that the moves keep
pub keeps-both : (g : Gxid) (k : Change) (P R : Moved → Type 0) → Keeps g k P → Keeps g k R → Keeps g k (λ m. P m × R m)
keeps-both g k P R a b =
    record {
      takes = λ m rid free p. (a.takes m rid free p.0, b.takes m rid free p.1);
      gives = λ m rid held p. (a.gives m rid held p.0, b.gives m rid held p.1);
      writes = λ m rid image why p. (a.writes m rid image why p.0, b.writes m rid image why p.1);
      skips = λ m rid why p. (a.skips m rid why p.0, b.skips m rid why p.1);
      faults = λ m rid image p. (a.faults m rid image p.0, b.faults m rid image p.1);
    }
