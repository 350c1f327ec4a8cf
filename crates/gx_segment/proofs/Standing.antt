-- What no slice changes of a segment: its node, its horizon, what it has told the last round, and how many messages it has sent
-- before.
use Rattle.std.proofs.Common.{◌≡◌, inl, inr, ℕ, Bool, true, false, if◌then◌else◌, Option, Some, None, List, [], ◌∷◌, ◌++◌, refl, sym, ◌∙◌, subst}
use Rattle.std.specs.Prelude.{fold}
use Rattle.gx_ids.specs.declared.ids.Cid.{Cid}
use Rattle.gx_ids.specs.declared.ids.Gxid.{Gxid}
use Rattle.gx_ids.specs.declared.ids.Node.{Node}
use Rattle.gx_ids.specs.declared.ids.Table.{Table}
use Rattle.gx_ids.specs.declared.rid.Rid.{Rid}
use Rattle.gx_tree.specs.declared.query.Query.{Query}
use Rattle.gx_tree.specs.declared.row.KeyedRow.{KeyedRow}
use Rattle.gx_tree.specs.declared.slice.Slice.{Slice}
use Rattle.gx_tree.specs.declared.slice.Slice.TheVariants as slice
use Rattle.gx_tree.specs.declared.stmt.Level.{Level}
use Rattle.gx_tree.specs.declared.value.Value.{Value}
use Rattle.gx_dsnap.specs.declared.snapshot.Snapshot.{Snapshot}
use Rattle.gx_waits.specs.declared.claim.Claim.{Claim}
use Rattle.gx_waits.specs.declared.object.Object.{Object}
use Rattle.gx_waits.specs.declared.object.Object.TheVariants.{Relation, Transaction, Tuple}
use Rattle.gx_locks.specs.Locks.{resumed}
use Rattle.gx_waits.specs.Claims.{is_clear}
use Rattle.gx_meaning.specs.declared.fault.ArithFault.{ArithFault}
use Rattle.gx_script.specs.declared.Script.{Script}
use Rattle.gx_store.specs.declared.mark.Mark.TheVariants as mark
use Rattle.gx_rules.specs.AtSegment.{resumes}
use Rattle.gx_rules.specs.Changes.{Change, change_of, changes_rows, goes_on_at, goes_through, selected, shown_to, unless_fault}
use Rattle.gx_rules.specs.Locks.{hold_mark, with_hold}
use Rattle.gx_rules.specs.Running.{goes_on, is_granted, runs_locked, runs_slice, starts_slice, suspends, unless_end}
use Rattle.gx_store.specs.Locks.{slice_lock}
use Rattle.gx_rules.specs.Segments.{Phase, Reading, Writing, Prepared, Committed, Forgotten, Aborted, Seg, Suspended, local_of, with_local}
use Rattle.gx_rules.specs.Shown.{shown}
use Rattle.gx_rules.specs.Slices.{Moved, adds_version, first_fault, inserts_row, selects, starts_from, takes_own, version, writes_row}
use Rattle.gx_rules.specs.Visits.{WaitsAt}
use Rattle.gx_rules.proofs.Moving.{Ends, Keeps, loop-keeps}
use Rattle.gx_segment.specs.Reports.{report_in}
use Rattle.gx_segment.specs.declared.collecting.LastReport.{LastReport}

-- what a segment keeps in each slice
pub record Fixed : Type 0 where
  pub node : Node
  pub horizon : Gxid
  pub report : LastReport
  pub sent : ℕ

abbrev pub fixed_in : Seg → Fixed
fixed_in s = record { node = s.node; horizon = s.horizon; report = report_in s; sent = s.sent }

abbrev pub Stands : Seg → Seg → Type 0
Stands s now = fixed_in now ≡ fixed_in s

-- ROW BY ROW
-- a transaction's own lock, and a row that is written
own-stands : (g : Gxid) (p : Phase) (m : Moved) → Stands m.seg (takes_own g p m).seg
own-stands g Reading m = refl
own-stands g Writing m = refl
own-stands g Prepared m = refl
own-stands g Committed m = refl
own-stands g (Forgotten committed) m = refl
own-stands g Aborted m = refl

write-stands : (g : Gxid) (c : Cid) (table : Table) (m : Moved) (rid : Rid) (image : Option (List Value)) → Stands m.seg (writes_row g c table m rid image).seg
write-stands g c table m rid image =
    let marked : Moved = record { seg = adds_version m.seg g (version g c table rid image); marks = m.marks ++ mark.Write g c m.seg.node table rid image ∷ [] } in
    own-stands g (local_of m.seg g).phase marked

rows-stand : (g : Gxid) (c : Cid) (table : Table) (rows : List KeyedRow) (m : Moved) → Stands m.seg (fold (inserts_row g c table) m rows).seg
rows-stand g c table [] m = refl
rows-stand g c table (row ∷ rows) m = rows-stand g c table rows (inserts_row g c table m row) ∙ write-stands g c table m row.rid (Some row.row)

-- ROWS THAT ARE CHANGED
module _ (s : Seg) (g : Gxid) (k : Change) where
  stop-stands : (m stopped : Moved) (rid : Rid) (writer : Gxid) → Stands s m.seg → WaitsAt m g rid writer stopped → Stands s stopped.seg
  stop-stands m stopped rid writer p (inl h) = subst (λ (n : Moved). Stands s n.seg) (sym h.1) p
  stop-stands m stopped rid writer p (inr (inl h)) = subst (λ (n : Moved). Stands s n.seg) (sym h.1) p
  stop-stands m stopped rid writer p (inr (inr h)) = subst (λ (n : Moved). Stands s n.seg) (sym h.1) p

  moves-stand : Keeps g k (λ m. Stands s m.seg)
  moves-stand = record {
    takes = λ m rid free p. p;
    gives = λ m rid held p. p;
    writes = λ m rid image why p. write-stands g k.cid k.table m rid image ∙ p;
    skips = λ m rid why p. p;
    faults = λ m rid image p. p;
  }

  ends-stand : Ends g k (λ m. Stands s m.seg) (λ turn. Stands s turn.seg)
  ends-stand = record {
    done = λ m count p. p;
    stopped = λ m rid rest count t stop p. stop-stands m stop.stopped rid stop.version.gxid p stop.how;
    failed = λ m cause p. p;
  }

  through-stands : (rids : List Rid) (m : Moved) (count : ℕ) → Stands s m.seg → Stands s (goes_through g k rids m count).seg
  through-stands = loop-keeps g k (λ m. Stands s m.seg) (λ turn. Stands s turn.seg) moves-stand ends-stand

  fault-stands : (rows : List KeyedRow) (fault : Option (KeyedRow × ArithFault)) → Stands s (unless_fault s g k rows fault).seg
  fault-stands rows None = through-stands (selected k.cond rows) (starts_from s) 0 refl
  fault-stands rows (Some fault) = refl

changes-stand : (s : Seg) (g : Gxid) (k : Option Change) → Stands s (changes_rows s g k).seg
changes-stand s g None = refl
changes-stand s g (Some k) = fault-stands s g k (shown_to s g k) (first_fault k.cond (shown_to s g k))

at-row-stands : (m : Moved) (g : Gxid) (k : Option Change) (rid : Rid) (w : Suspended) → Stands m.seg (goes_on_at m g k rid w).seg
at-row-stands m g None rid w = refl
at-row-stands m g (Some k) rid w = through-stands m.seg g k (rid ∷ w.rows) m w.count refl

-- SLICES
selects-stand : (s : Seg) (g : Gxid) (c : Cid) (query : Query) (rows : List KeyedRow) (fault : Option (KeyedRow × ArithFault)) → Stands s (selects s g c query rows fault).seg
selects-stand s g c query rows None = refl
selects-stand s g c query rows (Some fault) = refl

slice-stands : (s : Seg) (g : Gxid) (c : Cid) (level : Level) (snapshot : Option Snapshot) (sl : Slice) → Stands s (runs_slice s g c level snapshot sl).seg
slice-stands s g c level None (slice.Select query) = refl
slice-stands s g c level (Some snapshot) (slice.Select query) =
    selects-stand s g c query (shown s snapshot g c query.table) (first_fault query.cond (shown s snapshot g c query.table))
slice-stands s g c level None (slice.Insert table rows) = refl
slice-stands s g c level (Some snapshot) (slice.Insert table rows) = rows-stand g c table rows (starts_from s)
slice-stands s g c level snapshot (slice.Update table assigns cond) = changes-stand s g (change_of c level snapshot (slice.Update table assigns cond))
slice-stands s g c level snapshot (slice.Delete table cond) = changes-stand s g (change_of c level snapshot (slice.Delete table cond))
slice-stands s g c level snapshot (slice.Lock table mode) = refl

-- from its start or from a row on
pub goes_on-stands : (m : Moved) (g : Gxid) (w : Suspended) (row : Option Rid) → Stands m.seg (goes_on m g w row).seg
goes_on-stands m g w None = slice-stands m.seg g w.cid w.level w.snapshot w.slice
goes_on-stands m g w (Some rid) = at-row-stands m g (change_of w.cid w.level w.snapshot w.slice) rid w

-- with the table's lock, or without it
wanted-stands : (s : Seg) (g : Gxid) (c : Cid) (level : Level) (snapshot : Option Snapshot) (sl : Slice) (wanted : Claim) (b : Bool) → Stands s (if b then runs_locked s g c level snapshot sl wanted else suspends s g c level snapshot sl wanted).seg
wanted-stands s g c level snapshot sl wanted true = slice-stands (record s { locks = with_hold s.locks wanted }) g c level snapshot sl
wanted-stands s g c level snapshot sl wanted false = refl

pub starts-stand : (script : Script) (s : Seg) (g : Gxid) (c : Cid) (level : Level) (snapshot : Option Snapshot) (sl : Slice) → Stands s (starts_slice script s g c level snapshot sl).seg
starts-stand script s g c level snapshot sl = let wanted = slice_lock script g sl in wanted-stands s g c level snapshot sl wanted (is_clear s.locks.holds s.locks.waits wanted)

-- what it has waited for is granted, and it goes on
module _ (s : Seg) (g : Gxid) (wanted : Claim) where
  abbrev granted : Moved
  granted = record { seg = record (with_local s g (record (local_of s g) { suspended = None })) { locks = resumed s.locks g (Some wanted) }; marks = hold_mark s.node wanted ∷ [] }

  end-stands : (o : Object) → Stands s (unless_end wanted o granted).seg
  end-stands (Relation table) = refl
  end-stands (Tuple rid) = refl
  end-stands (Transaction other) = refl

  granted-stands : Stands s (is_granted s g wanted).seg
  granted-stands = end-stands wanted.object

pub resumes-stand : (s : Seg) (g : Gxid) (wait : Option Claim) (waiting : Option Suspended) → Stands s (resumes s g wait waiting).seg
resumes-stand s g None waiting = refl
resumes-stand s g (Some wait) None = refl
resumes-stand s g (Some wait) (Some waiting) =
    goes_on-stands (is_granted s g wait) g waiting waiting.row ∙ granted-stands s g wait
