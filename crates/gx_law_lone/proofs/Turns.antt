-- Whatever happens at a segment, who holds a row's lock there waits at that row, or its last command has failed.
use Rattle.std.proofs.Common.{◌≡◌, ◌⊎◌, inl, inr, ℕ, ◌+◌, List, [], ◌∷◌, Option, Some, None, Bool, true, false, not, refl, sym, subst, ap, ◌∙◌, if◌then◌else◌, ◌&&◌, ◌||◌, eqb}
use Rattle.std.proofs.lemmas.Bool.{eqb-true}
use Rattle.std.specs.Prelude.{fold, is_some}
use Rattle.gx_lemmas.proofs.Numbers.{eqb-self}
use Rattle.gx_lemmas.proofs.Options.{some-same}
use Rattle.gx_lemmas.proofs.Tests.{true-false}
use Rattle.gx_ids.specs.declared.ids.Cid.{Cid}
use Rattle.gx_ids.specs.declared.ids.Gxid.{Gxid}
use Rattle.gx_ids.specs.declared.ids.Table.{Table}
use Rattle.gx_ids.specs.declared.rid.Rid.{Rid}
use Rattle.gx_tree.specs.declared.part.Part.{Part}
use Rattle.gx_tree.specs.declared.query.Query.{Query}
use Rattle.gx_tree.specs.declared.row.KeyedRow.{KeyedRow}
use Rattle.gx_tree.specs.declared.slice.Slice.{Slice}
use Rattle.gx_tree.specs.declared.slice.Slice.TheVariants as slice
use Rattle.gx_tree.specs.declared.stmt.Level.{Level}
use Rattle.gx_tree.specs.declared.value.Value.{Value}
use Rattle.gx_dsnap.specs.declared.snapshot.Snapshot.{Snapshot}
use Rattle.gx_waits.specs.Claim.{same_claim}
use Rattle.gx_waits.specs.declared.claim.Claim.{Claim}
use Rattle.gx_locks.specs.Locks.{Locks}
use Rattle.gx_meaning.specs.declared.fault.ArithFault.{ArithFault}
use Rattle.gx_msg.specs.declared.message.Message.{Message}
use Rattle.gx_msg.specs.declared.message.Message.TheVariants as message
use Rattle.gx_msg.specs.declared.message.Out.{Out}
use Rattle.gx_msg.specs.declared.reply.Cause.{Cause}
use Rattle.gx_msg.specs.declared.reply.Reply.{Reply}
use Rattle.gx_msg.specs.declared.reply.Reply.TheVariants as answer
use Rattle.gx_store.specs.declared.mark.Mark.{Mark}
use Rattle.gx_store.specs.declared.mark.Mark.TheVariants as mark
use Rattle.gx_rules.specs.Changes.{Change, RowTurn, after_row, change_of, changes_rows, does_row, gives_back_if_held, goes_through, selected, shown_to, suspended_at, tuple_lock, unless_fault}
use Rattle.gx_rules.specs.Fits.{reads_nothing}
use Rattle.gx_rules.specs.Running.{runs_slice}
use Rattle.gx_rules.specs.Segments.{Local, Phase, Seg, SegTurn, Suspended, after_marks, local_of, with_local}
use Rattle.gx_rules.specs.Segments.Phase.{Aborted, Committed, Forgotten, Prepared, Reading, Writing}
use Rattle.gx_rules.specs.Shown.{shown}
use Rattle.gx_rules.specs.Slices.{Moved, answers, cause_of, fails_on, first_fault, gives_back, inserted, inserts_row, is_holding, noted, own_lock, selects, starts_from, takes_lock, takes_own, writes_row}
use Rattle.gx_rules.specs.Visits.{Does, WaitsAt}
use Rattle.gx_rules.proofs.RowEnds.{does}
use Rattle.gx_law_order.proofs.Suspended.{is_open_phase}
use Rattle.gx_law_order.specs.Lists.{Each}
use Rattle.gx_law_order.specs.Standings.{gx}
use Rattle.gx_law_lone.specs.Rows.{has_failed}
use Rattle.gx_law_lone.proofs.Strays.{is_stray, stray-itself, stray-no-row, stray-other, strays, strays-back, strays-left, strays-none, strays-unheld, strays-with}

abbrev pub row_of : Option Suspended → Option Rid
row_of None = None
row_of (Some x) = x.row

-- its last command has failed there, and it has neither promised anything nor ended there
abbrev pub is_failing : Local → Bool
is_failing l = has_failed l.answer && is_open_phase l.phase

-- DONE isn't among the answers to PREPARE and COMMIT
abbrev pub IsVoted : Option Reply → Type 0
IsVoted (Some (answer.Done c wrote count part)) = ⊥
IsVoted _ = Unit {0}

-- DONE is told where it is what is kept
abbrev pub TellsSo : Local → Message → Type 0
TellsSo l (message.Answer h (answer.Done c wrote count part)) = has_failed l.answer ≡ false
TellsSo l _ = Unit {0}

-- `A h`: the transaction has aborted
module _ (A : ℕ → Bool) where
  -- of one transaction among these holds
  abbrev pub RowsOf : ℕ → Local → List Claim → Type 0
  RowsOf h l holds = A h ≡ false → is_failing l ≡ false → strays (gx h) (row_of l.suspended) holds ≡ false

  -- whoever hasn't aborted, and hasn't failed there, holds no row's lock but at the row where it waits
  abbrev pub Rows : Seg → Type 0
  Rows s = (h : ℕ) → RowsOf h (s.locals h) s.locks.holds

  -- A turn of a transaction: `Ran c` says that its command c was run.
  module _ (old : Local) (g : Gxid) (Ran : ℕ → Type 0) where
    abbrev pub WasSo : Local → Type 0
    WasSo now = ((has_failed old.answer ≡ true) × (is_open_phase old.phase ≡ true) × (now.last ≡ old.last)) ⊎ Ran now.last

    pub record Did (turn : SegTurn) : Type 0 where
      pub rows : Rows turn.seg
      pub failed : has_failed (turn.seg.locals g.0).answer ≡ true → is_open_phase (turn.seg.locals g.0).phase ≡ true → WasSo (turn.seg.locals g.0)
      pub outs : Each (λ (o : Out). TellsSo (turn.seg.locals g.0) o.message) turn.outs

    abbrev OthersOf : Seg → List Claim → Type 0
    OthersOf s holds = (h : ℕ) → eqb h g.0 ≡ false → RowsOf h (s.locals h) holds

    -- a transaction's record changes
    self : (s : Seg) (l : Local) → (with_local s g l).locals g.0 ≡ l
    self s l = ap (λ b. if b then l else s.locals g.0) (eqb-self g.0)

    changed : (s : Seg) (l : Local) (holds : List Claim) → OthersOf s holds → RowsOf g.0 l holds → (h : ℕ) → RowsOf h ((with_local s g l).locals h) holds
    changed s l holds others own h = by_test (eqb h g.0) refl
      where
        by_test : (b : Bool) → eqb h g.0 ≡ b → RowsOf h (if b then l else s.locals h) holds
        by_test true e = subst (λ j. RowsOf j l holds) (sym (eqb-true h g.0 e)) own
        by_test false e = others h e

    -- what the moves so far have made of the segment: of this one no row's lock is held but at this row
    pub record Goes (row : Option Rid) (m : Moved) : Type 0 where
      pub others : OthersOf m.seg m.seg.locks.holds
      pub own : A g.0 ≡ false → strays g row m.seg.locks.holds ≡ false
      pub rests : (local_of m.seg g).suspended ≡ None
      pub opens : is_open_phase (local_of m.seg g).phase ≡ true

    -- it holds more, or less
    with-goes : (row : Option Rid) (wanted : Claim) (m : Moved) → wanted.gxid ≡ g → is_stray g row wanted ≡ false → Goes row m → Goes row (takes_lock wanted m)
    with-goes row wanted m owner none e =
        record {
          others = λ h n a f. strays-with (gx h) (row_of (m.seg.locals h).suspended) wanted m.seg.locks.holds (stray-other (gx h) g (row_of (m.seg.locals h).suspended) wanted owner n) (e.others h n a f);
          own = λ a. strays-with g row wanted m.seg.locks.holds none (e.own a);
          rests = e.rests;
          opens = e.opens;
        }

    pub back-goes : (row : Option Rid) (old : Claim) (m : Moved) → Goes row m → Goes row (gives_back old m)
    back-goes row old m e =
        record {
          others = λ h n a f. strays-left (gx h) (row_of (m.seg.locals h).suspended) (λ other. not (same_claim old other)) m.seg.locks.holds (e.others h n a f);
          own = λ a. strays-left g row (λ other. not (same_claim old other)) m.seg.locks.holds (e.own a);
          rests = e.rests;
          opens = e.opens;
        }

    note-goes : (row : Option Rid) (m : Moved) (told : Mark) → Goes row m → Goes row (noted m told)
    note-goes row m told e = record { others = e.others; own = e.own; rests = e.rests; opens = e.opens }

    own-goes : (row : Option Rid) (p : Phase) (m : Moved) → Goes row m → Goes row (takes_own g p m)
    own-goes row Reading m e = with-goes row (own_lock g) m refl (stray-no-row g row (own_lock g) refl) e
    own-goes row Writing m e = e
    own-goes row Prepared m e = e
    own-goes row Committed m e = e
    own-goes row (Forgotten b) m e = e
    own-goes row Aborted m e = e

    write-goes : (row : Option Rid) (c : Cid) (table : Table) (m : Moved) (rid : Rid) (image : Option (List Value)) → Goes row m → Goes row (writes_row g c table m rid image)
    write-goes row c table m rid image e =
        own-goes row (local_of m.seg g).phase _
        (record { others = λ h n. subst (λ (l : Local). RowsOf h l m.seg.locks.holds) (sym (away h n)) (e.others h n); own = e.own; rests = ap (λ (l : Local). l.suspended) (self m.seg now) ∙ e.rests; opens = ap (λ (l : Local). is_open_phase l.phase) (self m.seg now) })
      where
        now : Local
        now = record (local_of m.seg g) { phase = Writing }

        away : (h : ℕ) → eqb h g.0 ≡ false → (with_local m.seg g now).locals h ≡ m.seg.locals h
        away h n = ap (λ b. if b then now else m.seg.locals h) n

    insert-rows : (c : Cid) (table : Table) (rows : List KeyedRow) (m : Moved) → Goes None m → Goes None (fold (inserts_row g c table) m rows)
    insert-rows c table [] m e = e
    insert-rows c table (r ∷ rs) m e = insert-rows c table rs (inserts_row g c table m r) (write-goes None c table m r.rid (Some r.row) e)

    -- a row that is done gives its lock back
    given : (rid : Rid) (m : Moved) → Goes (Some rid) m → Goes None (gives_back_if_held (tuple_lock g rid) m)
    given rid m e = by_test (is_holding m (tuple_lock g rid)) refl
      where
        by_test : (b : Bool) → is_holding m (tuple_lock g rid) ≡ b → Goes None (if b then gives_back (tuple_lock g rid) m else m)
        by_test true q = record { others = (back-goes (Some rid) (tuple_lock g rid) m e).others; own = λ a. strays-back g rid m.seg.locks.holds (e.own a); rests = e.rests; opens = e.opens }
        by_test false q = record { others = e.others; own = λ a. strays-unheld g rid m.seg.locks.holds q (e.own a); rests = e.rests; opens = e.opens }

    any-row : (row : Option Rid) (m : Moved) → Goes None m → Goes row m
    any-row row m e = record { others = e.others; own = λ a. strays-none g row m.seg.locks.holds (e.own a); rests = e.rests; opens = e.opens }

    -- THE ENDS OF A COMMAND
    is-failed : (c : Cid) (m : Moved) (row : Option Rid) (cause : Cause) → Ran c.0 → Goes row m → Did (answers m.seg g c m.marks (answer.Failed c cause))
    is-failed c m row cause ran e =
        record {
          rows = changed m.seg now m.seg.locks.holds e.others (λ a f. absurd (true-false (is_open_phase (local_of m.seg g).phase) e.opens f));
          failed = λ x y. inr (subst (λ (l : Local). Ran l.last) (sym (self m.seg now)) ran);
          outs = (tt, tt);
        }
      where
        now : Local
        now = record (local_of m.seg g) { last = c.0; answer = Some (answer.Failed c cause) }

    no-failure : (l : Local) (now : Local) (X : Type 0) → l ≡ now → has_failed now.answer ≡ false → has_failed l.answer ≡ true → X
    no-failure l now X e f t = absurd (true-false (has_failed now.answer) (subst (λ (x : Local). has_failed x.answer ≡ true) e t) f)

    done : (c : Cid) (m : Moved) (wrote : Bool) (count : ℕ) (part : Part) → Goes None m → Did (answers m.seg g c m.marks (answer.Done c wrote count part))
    done c m wrote count part e =
        record {
          rows = changed m.seg now m.seg.locks.holds e.others (λ a f. subst (λ o. strays g (row_of o) m.seg.locks.holds ≡ false) (sym e.rests) (e.own a));
          failed = λ x y. no-failure _ now _ (self m.seg now) refl x;
          outs = (ap (λ (l : Local). has_failed l.answer) (self m.seg now), tt);
        }
      where
        now : Local
        now = record (local_of m.seg g) { last = c.0; answer = Some (answer.Done c wrote count part) }

    -- it waits, at the row whose lock it may hold
    pub suspended : (s : Seg) (locks : Locks) (marks : List Mark) (c : ℕ) (x : Suspended) → OthersOf s locks.holds → (A g.0 ≡ false → strays g x.row locks.holds ≡ false)
        → Did (record { seg = record (with_local s g (record (local_of s g) { last = c; answer = None; suspended = Some x })) { locks = locks }; marks = marks; outs = []; item = None })
    suspended s locks marks c x others own =
        record { rows = changed s now locks.holds others (λ a f. own a); failed = λ y z. no-failure _ now _ (self s now) refl y; outs = tt }
      where
        now : Local
        now = record (local_of s g) { last = c; answer = None; suspended = Some x }

    -- ROWS
    module _ (k : Change) (ran : Ran k.cid.0) where
      abbrev pub GoesFor : List Rid → Moved → Type 0
      GoesFor [] m = Goes None m
      GoesFor (rid ∷ rids) m = Goes (Some rid) m

      for-all : (rids : List Rid) (m : Moved) → Goes None m → GoesFor rids m
      for-all [] m e = e
      for-all (rid ∷ rids) m e = any-row (Some rid) m e

      stop-goes : (m : Moved) (rid : Rid) (writer : Gxid) (stopped : Moved) → Goes (Some rid) m → WaitsAt m g rid writer stopped → Goes (Some rid) stopped
      stop-goes m rid writer stopped e (inl h) = subst (Goes (Some rid)) (sym h.1) (record { others = e.others; own = e.own; rests = e.rests; opens = e.opens })
      stop-goes m rid writer stopped e (inr (inl h)) =
          let a = with-goes (Some rid) (tuple_lock g rid) m refl (stray-itself g rid) e in
          subst (Goes (Some rid)) (sym h.1) (record { others = a.others; own = a.own; rests = a.rests; opens = a.opens })
      stop-goes m rid writer stopped e (inr (inr h)) = subst (Goes (Some rid)) (sym h.1) (record { others = e.others; own = e.own; rests = e.rests; opens = e.opens })

      module _ (rid : Rid) (rids : List Rid) (m : Moved) (count : ℕ) (e : Goes (Some rid) m) (behind : (n : Moved) (now : ℕ) → GoesFor rids n → Did (goes_through g k rids n now)) where
        abbrev Row : RowTurn → Type 0
        Row t = Did (after_row (goes_through g k rids) g k rid rids count t.moved t.end)

        by-row : (t : RowTurn) → Does m g k rid t → Row t
        by-row t (inl h) = subst Row (sym h.is) (behind _ (count + 1) (for-all rids _ (given rid _ (write-goes (Some rid) k.cid k.table m rid h.image e))))
        by-row t (inr (inl h)) = subst Row (sym h.is) (behind _ count (for-all rids _ (given rid _ (note-goes (Some rid) m (mark.Skip g k.cid rid) e))))
        by-row t (inr (inr (inl h))) = subst Row (sym h.is) (is-failed k.cid _ (Some rid) (cause_of h.fault) ran (note-goes (Some rid) m (mark.Fault g k.cid rid h.image) e))
        by-row t (inr (inr (inr (inl h)))) = subst Row (sym h.is) (is-failed k.cid m (Some rid) _ ran e)
        by-row t (inr (inr (inr (inr h)))) =
            let a = stop-goes m rid h.version.gxid h.stopped e h.how in
            subst Row (sym h.is) (suspended h.stopped.seg h.stopped.seg.locks h.stopped.marks k.cid.0 (suspended_at k rid rids count) a.others a.own)

      pub loop : (rids : List Rid) (m : Moved) (count : ℕ) → GoesFor rids m → Did (goes_through g k rids m count)
      loop [] m count e = done k.cid m _ count _ e
      loop (rid ∷ rids) m count e = by-row rid rids m count e (loop rids) (does_row m g k rid) (does m g k rid)

      faults-or-goes : (s : Seg) (rows : List KeyedRow) (o : Option (KeyedRow × ArithFault)) → Goes None (starts_from s) → Did (unless_fault s g k rows o)
      faults-or-goes s rows None e = loop (selected k.cond rows) (starts_from s) 0 (for-all (selected k.cond rows) (starts_from s) e)
      faults-or-goes s rows (Some f) e = failed-row s k.cid f ran e
        where
          failed-row : (s : Seg) (c : Cid) (f : KeyedRow × ArithFault) → Ran c.0 → Goes None (starts_from s) → Did (fails_on s g c f)
          failed-row s c f ran e = is-failed c (record { seg = s; marks = mark.Fault g c f.0.rid (Some f.0.row) ∷ [] }) None (cause_of f.1) ran (record { others = e.others; own = e.own; rests = e.rests; opens = e.opens })

    change-rows : (s : Seg) (o : Option Change) → is_some o ≡ true → ((k : Change) → o ≡ Some k → Ran k.cid.0) → Goes None (starts_from s) → Did (changes_rows s g o)
    change-rows s None is ran e = absurd (cc)
    change-rows s (Some k) is ran e = faults-or-goes k (ran k refl) s (shown_to s g k) (first_fault k.cond (shown_to s g k)) e

    -- SLICES
    select : (s : Seg) (c : Cid) (q : Query) (rows : List KeyedRow) (f : Option (KeyedRow × ArithFault)) → Ran c.0 → Goes None (starts_from s) → Did (selects s g c q rows f)
    select s c q rows None ran e = done c (starts_from s) _ 0 _ e
    select s c q rows (Some f) ran e = is-failed c (record { seg = s; marks = mark.Fault g c f.0.rid (Some f.0.row) ∷ [] }) None (cause_of f.1) ran (record { others = e.others; own = e.own; rests = e.rests; opens = e.opens })

    pub slice-runs : (s : Seg) (c : Cid) (level : Level) (snapshot : Option Snapshot) (x : Slice) → (is_some snapshot || reads_nothing x) ≡ true → Ran c.0 → Goes None (starts_from s) → Did (runs_slice s g c level snapshot x)
    slice-runs s c level (Some snapshot) (slice.Select q) r ran e = select s c q (shown s snapshot g c q.table) (first_fault q.cond (shown s snapshot g c q.table)) ran e
    slice-runs s c level (Some snapshot) (slice.Insert table rows) r ran e = done c (inserted s g c table rows) _ _ _ (insert-rows c table rows (starts_from s) e)
    slice-runs s c level None (slice.Select q) r ran e = absurd (cc)
    slice-runs s c level None (slice.Insert table rows) r ran e = absurd (cc)
    slice-runs s c level None (slice.Update table assigns cond) r ran e = absurd (cc)
    slice-runs s c level None (slice.Delete table cond) r ran e = absurd (cc)
    slice-runs s c level (Some snapshot) (slice.Update table assigns cond) r ran e =
        change-rows s (change_of c level (Some snapshot) (slice.Update table assigns cond)) refl (λ k q. subst (λ (z : Change). Ran z.cid.0) (some-same _ k q) ran) e
    slice-runs s c level (Some snapshot) (slice.Delete table cond) r ran e =
        change-rows s (change_of c level (Some snapshot) (slice.Delete table cond)) refl (λ k q. subst (λ (z : Change). Ran z.cid.0) (some-same _ k q) ran) e
    slice-runs s c level snapshot (slice.Lock table mode) r ran e = done c (starts_from s) _ 0 _ e

    -- what stands before marks changes nothing
    pub behind-marks : (marks : List Mark) (turn : SegTurn) → Did turn → Did (after_marks marks turn)
    behind-marks marks turn e = record { rows = e.rows; failed = e.failed; outs = e.outs }
