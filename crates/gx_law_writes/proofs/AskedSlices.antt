-- What a slice asks for at its segment, mark by mark: its table's lock, locks on rows and on their writers' ends, and a writer's own.
use Rattle.std.proofs.Common.{◌≡◌, ◌⊎◌, ◌||◌, inl, inr, ℕ, ◌+◌, List, [], ◌∷◌, ◌++◌, Option, Some, None, Bool, true, false, not, refl, sym, subst, ap, ◌∙◌, append_assoc, arith, if◌then◌else◌}
use Rattle.std.specs.List.{list_any}
use Rattle.std.specs.Prelude.{fold}
use Rattle.gx_ids.specs.declared.ids.Cid.{Cid}
use Rattle.gx_ids.specs.declared.ids.Gxid.{Gxid}
use Rattle.gx_ids.specs.declared.ids.Node.{Node}
use Rattle.gx_ids.specs.declared.ids.Table.{Table}
use Rattle.gx_ids.specs.declared.rid.Rid.{Rid}
use Rattle.gx_tree.specs.declared.expr.Expr.{Expr}
use Rattle.gx_tree.specs.declared.query.Query.{Query}
use Rattle.gx_tree.specs.declared.row.KeyedRow.{KeyedRow}
use Rattle.gx_tree.specs.declared.slice.Slice.{Slice}
use Rattle.gx_tree.specs.declared.slice.Slice.TheVariants as slice
use Rattle.gx_tree.specs.declared.stmt.Assign.{Assign}
use Rattle.gx_tree.specs.declared.stmt.Level.{Level}
use Rattle.gx_tree.specs.declared.stmt.Stmt.{Stmt}
use Rattle.gx_tree.specs.declared.stmt.Stmt.TheVariants as stmt
use Rattle.gx_tree.specs.declared.value.Value.{Value}
use Rattle.gx_dsnap.specs.declared.snapshot.Snapshot.{Snapshot}
use Rattle.gx_modes.specs.declared.modes.Mode.{Mode}
use Rattle.gx_modes.specs.declared.modes.Mode.TheVariants.{Exclusive}
use Rattle.gx_msg.specs.declared.reply.Cause.{Cause}
use Rattle.gx_waits.specs.Claim.{same_claim}
use Rattle.gx_waits.specs.declared.claim.Claim.{Claim}
use Rattle.gx_waits.specs.declared.object.Object.{Object}
use Rattle.gx_waits.specs.declared.object.Object.TheVariants.{Relation, Tuple}
use Rattle.gx_meaning.specs.declared.fault.ArithFault.{ArithFault}
use Rattle.gx_script.specs.declared.Script.{Script}
use Rattle.gx_store.specs.Asking.{GoesThroughRows, LocksItself, Needs, NeedsAt, NeedsTable}
use Rattle.gx_store.specs.Marks.{is_same_gxid}
use Rattle.gx_store.specs.Waits.{is_held, waits_at}
use Rattle.gx_waits.specs.Claims.{claim}
use Rattle.gx_store.specs.declared.mark.Mark.{Mark}
use Rattle.gx_store.specs.declared.mark.Mark.TheVariants as mark
use Rattle.gx_rules.specs.Changes.{Change, RowTurn, change_of, changes_rows, does_row, end_lock, ended as row_ended, gives_back_if_held, goes_through, is_settled, selected, shown_to, suspended_at, suspends_at, tuple_lock, unless_fault, waits}
use Rattle.gx_rules.specs.Changes.RowEnd.{Failing, Skipped, Waiting, Written}
use Rattle.gx_rules.specs.Locks.{hold_mark, release_mark, wait_mark}
use Rattle.gx_rules.specs.Running.{is_granted, runs_slice}
use Rattle.gx_store.specs.Locks.{slice_lock}
use Rattle.gx_rules.specs.Segments.{Phase, Seg, SegTurn, local_of}
use Rattle.gx_rules.specs.Segments.Phase.{Aborted, Committed, Forgotten, Prepared, Reading, Writing}
use Rattle.gx_rules.specs.Shown.{shown}
use Rattle.gx_rules.specs.Slices.{Moved, adds_version, first_fault, gives_back, inserts_row, is_holding, noted, own_lock, selects, starts_from, takes_lock, takes_own, version, writes_row}
use Rattle.gx_rules.specs.Visits.{DidStop, Does, GoesThrough, IsPath, Visit, WaitsAt, end_of, written_in}
use Rattle.gx_rules.proofs.Loop.{goes}
use Rattle.gx_rules.proofs.RowEnds.{does}
use Rattle.gx_law_order.proofs.Changing.{IsAtRow}
use Rattle.gx_law_locks.specs.Waiting.{EachBehind}
use Rattle.gx_law_locks.proofs.Lasting.{in-new}
use Rattle.gx_law_locks.proofs.Lets.{behind-append}
use Rattle.gx_law_writes.proofs.Changing.{change-line}
use Rattle.gx_law_writes.proofs.Frames.{held-other}
use Rattle.gx_law_writes.proofs.NeedsRows.{AreHoldsTold, NeedsThere, Stops, told-taken}
use Rattle.gx_law_writes.proofs.Pieces.{IsSliceOf}
use Rattle.gx_law_writes.specs.Says.{changing_stmt, stmt_of_change}

-- A SLICE OF A STATEMENT
-- an INSERT's is of its table
abbrev pub IsInsertOf : Stmt → Slice → Type 0
IsInsertOf line (slice.Insert table rows) = (tuples : List (List Expr)) × (line ≡ stmt.Insert table tuples)
IsInsertOf line _ = Unit {0}

-- the lock of a slice is the one that its statement needs
insert-needs : (script : Script) (g : Gxid) (line : Stmt) (t : Table) (rows : List KeyedRow) → IsInsertOf line (slice.Insert t rows) → NeedsTable script g line (slice_lock script g (slice.Insert t rows)).object (slice_lock script g (slice.Insert t rows)).mode
insert-needs script g line t rows e = subst (λ l. NeedsTable script g l (slice_lock script g (slice.Insert t rows)).object (slice_lock script g (slice.Insert t rows)).mode) (sym e.1) refl

pub slice-needs : (script : Script) (g : Gxid) (line : Stmt) (x : Slice) → IsSliceOf line x → IsInsertOf line x → NeedsTable script g line (slice_lock script g x).object (slice_lock script g x).mode
slice-needs script g (stmt.Select q) x e i = subst (λ y. NeedsTable script g (stmt.Select q) (slice_lock script g y).object (slice_lock script g y).mode) (sym e) refl
slice-needs script g (stmt.Update t a d) x e i = subst (λ y. NeedsTable script g (stmt.Update t a d) (slice_lock script g y).object (slice_lock script g y).mode) (sym e) refl
slice-needs script g (stmt.Delete t d) x e i = subst (λ y. NeedsTable script g (stmt.Delete t d) (slice_lock script g y).object (slice_lock script g y).mode) (sym e) refl
slice-needs script g (stmt.Lock t m) x e i = subst (λ y. NeedsTable script g (stmt.Lock t m) (slice_lock script g y).object (slice_lock script g y).mode) (sym e) refl
slice-needs script g (stmt.Insert t tuples) (slice.Insert u rows) e i = insert-needs script g (stmt.Insert t tuples) u rows i
slice-needs script g (stmt.Insert t tuples) (slice.Select q) e i = absurd e
slice-needs script g (stmt.Insert t tuples) (slice.Update u a d) e i = absurd e
slice-needs script g (stmt.Insert t tuples) (slice.Delete u d) e i = absurd e
slice-needs script g (stmt.Insert t tuples) (slice.Lock u m) e i = absurd e
slice-needs script g (stmt.Begin level) x e i = absurd e
slice-needs script g stmt.Commit x e i = absurd e
slice-needs script g stmt.Rollback x e i = absurd e

-- the table on which a slice is
abbrev pub table_in : Slice → Table
table_in (slice.Select q) = q.table
table_in (slice.Insert t rows) = t
table_in (slice.Update t a d) = t
table_in (slice.Delete t d) = t
table_in (slice.Lock t m) = t

pub lock-object : (script : Script) (g : Gxid) (x : Slice) → (slice_lock script g x).object ≡ Relation (table_in x)
lock-object script g (slice.Select q) = refl
lock-object script g (slice.Insert t rows) = refl
lock-object script g (slice.Update t a d) = refl
lock-object script g (slice.Delete t d) = refl
lock-object script g (slice.Lock t m) = refl

-- an UPDATE or DELETE goes through rows by the condition of its slice
changes-through : (k : Change) → GoesThroughRows (stmt_of_change k) k.table k.cond
changes-through k = by_set k.set
  where
    by_set : (set : Option (List Assign)) → GoesThroughRows (changing_stmt k.table k.cond set) k.table k.cond
    by_set (Some assigns) = (refl, refl)
    by_set None = (refl, refl)

pub change-goes : (line : Stmt) (c : Cid) (level : Level) (snapshot : Option Snapshot) (x : Slice) (k : Change) → change_of c level snapshot x ≡ Some k → IsSliceOf line x → GoesThroughRows line k.table k.cond
change-goes line c level snapshot x k e is = subst (λ q. GoesThroughRows q k.table k.cond) (sym (change-line c level snapshot x k e line is)) (changes-through k)

pub change-changing : (c : Cid) (level : Level) (snapshot : Option Snapshot) (x : Slice) (k : Change) → change_of c level snapshot x ≡ Some k → (k.level ≡ level) × (k.cid ≡ c) × (k.table ≡ table_in x)
change-changing c level (Some s) (slice.Update t a d) k e = (ap (λ (y : Change). y.level) (sym (same k e)), ap (λ (y : Change). y.cid) (sym (same k e)), ap (λ (y : Change). y.table) (sym (same k e)))
  where
    same : {z : Change} (k : Change) → Some z ≡ Some k → z ≡ k
    same k e = cc
change-changing c level (Some s) (slice.Delete t d) k e = (ap (λ (y : Change). y.level) (sym (same k e)), ap (λ (y : Change). y.cid) (sym (same k e)), ap (λ (y : Change). y.table) (sym (same k e)))
  where
    same : {z : Change} (k : Change) → Some z ≡ Some k → z ≡ k
    same k e = cc
change-changing c level (Some s) (slice.Select q) k e = absurd (cc)
change-changing c level (Some s) (slice.Insert t rows) k e = absurd (cc)
change-changing c level (Some s) (slice.Lock t m) k e = absurd (cc)
change-changing c level None (slice.Update t a d) k e = absurd (cc)
change-changing c level None (slice.Delete t d) k e = absurd (cc)
change-changing c level None (slice.Select q) k e = absurd (cc)
change-changing c level None (slice.Insert t rows) k e = absurd (cc)
change-changing c level None (slice.Lock t m) k e = absurd (cc)

-- MARKS OF A SLICE
-- each is of the one command at the node, which needs what it asks for or has waited for it, and writes its slice's table
module _ (script : Script) (ms : List Mark) (node : Node) (level : Level) (g : Gxid) (c : Cid) (line : Stmt) (t : Table) where
  abbrev pub IsWaited : List Mark → Object → Mode → Type 0
  IsWaited earlier object mode = list_any (same_claim (claim g object mode)) (waits_at (ms ++ earlier) node) ≡ true

  abbrev pub Right : List Mark → Mark → Type 0
  Right earlier (mark.Hold n h object mode) = (n ≡ node) × (h ≡ g) × (Needs script (ms ++ earlier) node level g c line object mode ⊎ IsWaited earlier object mode ⊎ LocksItself earlier n h object mode)
  Right earlier (mark.Wait n h object mode) = (n ≡ node) × (h ≡ g) × Needs script (ms ++ earlier) node level g c line object mode
  Right earlier (mark.Write h d n table r x) = (n ≡ node) × (h ≡ g) × (d ≡ c) × (table ≡ t)
  Right earlier (mark.Release n h object mode) = Unit {0}
  Right earlier (mark.Skip h d r) = Unit {0}
  Right earlier (mark.Fault h d r x) = Unit {0}
  Right earlier _ = ⊥

  -- behind these marks of the step
  module _ (lead : List Mark) where
    pub record Gone (m : Moved) : Type 0 where
      pub there : m.seg.node ≡ node
      pub right : EachBehind Right lead m.marks

    abbrev pub IsRight : SegTurn → Type 0
    IsRight turn = EachBehind Right lead turn.marks

    -- one mark more
    takes : (wanted : Claim) (m : Moved) → wanted.gxid ≡ g → Needs script (ms ++ (lead ++ m.marks)) node level g c line wanted.object wanted.mode → Gone m → Gone (takes_lock wanted m)
    takes wanted m owner needs f =
        record { there = f.there; right = behind-append Right lead m.marks (hold_mark m.seg.node wanted ∷ []) f.right ((f.there, owner, inl needs), tt) }

    notes : (m : Moved) (told : Mark) → Right (lead ++ m.marks) told → Gone m → Gone (noted m told)
    notes m told r f = record { there = f.there; right = behind-append Right lead m.marks (told ∷ []) f.right (r, tt) }

    gives : (old : Claim) (m : Moved) → Gone m → Gone (gives_back old m)
    gives old m f = record { there = f.there; right = behind-append Right lead m.marks (release_mark m.seg.node old ∷ []) f.right (tt, tt) }

    -- a row is written, and its writer locks itself
    wrote : (d : Cid) (table : Table) (m : Moved) (rid : Rid) (image : Option (List Value)) → d ≡ c → table ≡ t → Gone m → Gone (writes_row g d table m rid image)
    wrote d table m rid image same on f = by_phase (local_of m.seg g).phase
      where
        w : Mark
        w = mark.Write g d m.seg.node table rid image

        m1 : Moved
        m1 = record { seg = adds_version m.seg g (version g d table rid image); marks = m.marks ++ mark.Write g d m.seg.node table rid image ∷ [] }

        written : Gone m1
        written =
            record { there = f.there; right = behind-append Right lead m.marks (w ∷ []) f.right ((f.there, refl, same, on), tt) }

        locked : Gone (takes_lock (own_lock g) m1)
        locked =
            record {
              there = f.there;
              right = behind-append Right lead m1.marks (hold_mark m.seg.node (own_lock g) ∷ []) written.right
                  ((f.there, refl, inr (inr (record { own = (refl, refl); front = lead ++ m.marks; cid = d; table = table; rid = rid; image = image; behind = sym (append_assoc lead m.marks (w ∷ [])) }))), tt);
            }

        by_phase : (p : Phase) → Gone (takes_own g p m1)
        by_phase Reading = locked
        by_phase Writing = written
        by_phase Prepared = written
        by_phase Committed = written
        by_phase (Forgotten b) = written
        by_phase Aborted = written

    -- ROWS THAT ARE CHANGED
    module _ (k : Change) (goes-on : GoesThroughRows line k.table k.cond) (at-level : k.level ≡ level) (same : k.cid ≡ c) (on : k.table ≡ t) where
      -- a row that is done gives its lock back
      back : (m : Moved) (rid : Rid) → Gone m → Gone (gives_back_if_held (tuple_lock g rid) m)
      back m rid f = by_test (is_holding m (tuple_lock g rid))
        where
          by_test : (b : Bool) → Gone (if b then gives_back (tuple_lock g rid) m else m)
          by_test true = gives (tuple_lock g rid) m f
          by_test false = f

      by-does : (m : Moved) (rid : Rid) (turn : RowTurn) (n : Moved) (wrote-it : Bool) → Gone m → Does m g k rid turn → turn ≡ row_ended n (end_of wrote-it) → Gone n
      by-does m rid turn n wrote-it f (inl h) e = subst Gone (ap (λ (x : RowTurn). x.moved) (sym h.is ∙ e)) (back _ rid (wrote k.cid k.table m rid h.image same on f))
      by-does m rid turn n wrote-it f (inr (inl h)) e = subst Gone (ap (λ (x : RowTurn). x.moved) (sym h.is ∙ e)) (back _ rid (notes m (mark.Skip g k.cid rid) tt f))
      by-does m rid turn n wrote-it f (inr (inr (inl h))) e = absurd (not-done wrote-it (ap (λ (x : RowTurn). x.end) (sym h.is ∙ e)))
        where
          not-done : {cause : Cause} (b : Bool) → Failing cause ≡ end_of b → ⊥
          not-done true q = cc
          not-done false q = cc
      by-does m rid turn n wrote-it f (inr (inr (inr (inl h)))) e = absurd (not-done wrote-it (ap (λ (x : RowTurn). x.end) (sym h.is ∙ e)))
        where
          not-done : {cause : Cause} (b : Bool) → Failing cause ≡ end_of b → ⊥
          not-done true q = cc
          not-done false q = cc
      by-does m rid turn n wrote-it f (inr (inr (inr (inr h)))) e = absurd (not-done wrote-it (ap (λ (x : RowTurn). x.end) (sym h.is ∙ e)))
        where
          not-done : (b : Bool) → Waiting ≡ end_of b → ⊥
          not-done true q = cc
          not-done false q = cc

      path : (m : Moved) (visits : List Visit) (last : Moved) → Gone m → IsPath g k m visits last → Gone last
      path m [] last f e = subst Gone e f
      path m (v ∷ vs) last f e = path v.after vs last (by-does m v.rid (does_row m g k v.rid) v.after v.wrote f (does m g k v.rid) e.1) e.2

      -- it begins to wait at a row
      waits-so : (rid : Rid) (rest : List Rid) (count : ℕ) (wanted : Claim) (m : Moved) → wanted.gxid ≡ g → Needs script (ms ++ (lead ++ m.marks)) node level g c line wanted.object wanted.mode → Gone m → IsRight (suspends_at (waits wanted m).moved g k (suspended_at k rid rest count))
      waits-so rid rest count wanted m owner needs f = behind-append Right lead m.marks (wait_mark m.seg.node wanted ∷ []) f.right ((f.there, owner, needs), tt)

      -- what it needs at a row at which it stops
      abbrev Needed : Moved → Rid → Type 0
      Needed m rid = NeedsThere (ms ++ lead) node g k m rid

      needed-at : (m : Moved) (rid : Rid) (h : Gxid) → NeedsAt ((ms ++ lead) ++ m.marks) node k.level g k.cid k.table k.cond rid h → NeedsAt (ms ++ (lead ++ m.marks)) node level g c k.table k.cond rid h
      needed-at m rid h n =
          subst (λ b. NeedsAt b node level g c k.table k.cond rid h) (append_assoc ms lead m.marks)
          (subst (λ l. NeedsAt ((ms ++ lead) ++ m.marks) node l g c k.table k.cond rid h) at-level (subst (λ d. NeedsAt ((ms ++ lead) ++ m.marks) node k.level g d k.table k.cond rid h) same n))

      -- with the row's lock it is still another's
      still-unsettled : (m : Moved) (rid : Rid) (h : Gxid) → is_settled m g h ≡ false → is_settled (takes_lock (tuple_lock g rid) m) g h ≡ false
      still-unsettled m rid h e =
          ap (λ b. is_same_gxid h g || not b) (held-other (tuple_lock g rid) (own_lock h) m.seg.locks.holds (first (is_same_gxid h g) _ e)) ∙ e
        where
          first : (a b : Bool) → (a || b) ≡ false → a ≡ false
          first a b e = grind arith

      -- what it holds there by the marks
      holds-row : (n : Moved) (rid : Rid) → AreHoldsTold (ms ++ lead) node n → is_holding n (tuple_lock g rid) ≡ true → is_held (ms ++ (lead ++ n.marks)) node g (Tuple rid) Exclusive ≡ true
      holds-row n rid told h =
          ap (λ b. is_held b node g (Tuple rid) Exclusive) (sym (append_assoc ms lead n.marks)) ∙ ap (λ hs. list_any (same_claim (tuple_lock g rid)) hs) (sym told.1) ∙ h

      stops : (m : Moved) (rid : Rid) (rest : List Rid) (count : ℕ) (turn : RowTurn) (stop : DidStop m g k rid turn) → Needed m rid × Needed (takes_lock (tuple_lock g rid) m) rid × AreHoldsTold (ms ++ lead) node m → Gone m → IsRight (suspends_at stop.stopped g k (suspended_at k rid rest count))
      stops m rid rest count turn stop needed f = by_how stop.stopped stop.how
        where
          row : NeedsAt (ms ++ (lead ++ m.marks)) node level g c k.table k.cond rid stop.version.gxid
          row = needed-at m rid stop.version.gxid (needed.0 stop.version stop.current stop.unsettled)

          with-lock : NeedsAt (ms ++ (lead ++ (takes_lock (tuple_lock g rid) m).marks)) node level g c k.table k.cond rid stop.version.gxid
          with-lock = needed-at (takes_lock (tuple_lock g rid) m) rid stop.version.gxid (needed.1 stop.version stop.current (still-unsettled m rid stop.version.gxid stop.unsettled))

          for-end : (n : Moved) → is_held (ms ++ (lead ++ n.marks)) node g (Tuple rid) Exclusive ≡ true → NeedsAt (ms ++ (lead ++ n.marks)) node level g c k.table k.cond rid stop.version.gxid
              → Needs script (ms ++ (lead ++ n.marks)) node level g c line (end_lock g stop.version.gxid).object (end_lock g stop.version.gxid).mode
          for-end n held need = inr (k.table, k.cond, goes-on, (refl, (rid, held, need)))

          own : is_held (ms ++ (lead ++ (takes_lock (tuple_lock g rid) m).marks)) node g (Tuple rid) Exclusive ≡ true
          own = holds-row (takes_lock (tuple_lock g rid) m) rid (told-taken (ms ++ lead) node m (tuple_lock g rid) needed.2) (in-new (tuple_lock g rid) m.seg.locks.holds)

          for-row : Needs script (ms ++ (lead ++ m.marks)) node level g c line (tuple_lock g rid).object (tuple_lock g rid).mode
          for-row = inr (k.table, k.cond, goes-on, (refl, (stop.version.gxid, row)))

          Stopped : Moved → Type 0
          Stopped n = IsRight (suspends_at n g k (suspended_at k rid rest count))

          by_how : (n : Moved) → WaitsAt m g rid stop.version.gxid n → Stopped n
          by_how n (inl h) = subst Stopped (sym h.1) (waits-so rid rest count (end_lock g stop.version.gxid) m refl (for-end m (holds-row m rid needed.2 h.0) row) f)
          by_how n (inr (inl h)) =
              subst Stopped (sym h.1)
              (waits-so rid rest count (end_lock g stop.version.gxid) (takes_lock (tuple_lock g rid) m) refl (for-end (takes_lock (tuple_lock g rid) m) own with-lock) (takes (tuple_lock g rid) m refl for-row f))
          by_how n (inr (inr h)) = subst Stopped (sym h.1) (waits-so rid rest count (tuple_lock g rid) m refl for-row f)

      by-stop : (m : Moved) (rid : Rid) (rest : List Rid) (count : ℕ) (turn : RowTurn) (stopped : Moved) → Needed m rid × Needed (takes_lock (tuple_lock g rid) m) rid × AreHoldsTold (ms ++ lead) node m → Gone m → Does m g k rid turn → turn ≡ row_ended stopped Waiting → IsRight (suspends_at stopped g k (suspended_at k rid rest count))
      by-stop m rid rest count turn stopped needed f (inl h) e = absurd (no (ap (λ (x : RowTurn). x.end) (sym h.is ∙ e)))
        where
          no : Written ≡ Waiting → ⊥
          no q = cc
      by-stop m rid rest count turn stopped needed f (inr (inl h)) e = absurd (no (ap (λ (x : RowTurn). x.end) (sym h.is ∙ e)))
        where
          no : Skipped ≡ Waiting → ⊥
          no q = cc
      by-stop m rid rest count turn stopped needed f (inr (inr (inl h))) e = absurd (no (ap (λ (x : RowTurn). x.end) (sym h.is ∙ e)))
        where
          no : {cause : Cause} → Failing cause ≡ Waiting → ⊥
          no q = cc
      by-stop m rid rest count turn stopped needed f (inr (inr (inr (inl h)))) e = absurd (no (ap (λ (x : RowTurn). x.end) (sym h.is ∙ e)))
        where
          no : {cause : Cause} → Failing cause ≡ Waiting → ⊥
          no q = cc
      by-stop m rid rest count turn stopped needed f (inr (inr (inr (inr h)))) e = subst (λ n. IsRight (suspends_at n g k (suspended_at k rid rest count))) (ap (λ (x : RowTurn). x.moved) (sym h.is ∙ e)) (stops m rid rest count turn h needed f)

      by-fail : (m : Moved) (rid : Rid) (turn : RowTurn) (n : Moved) (cause : Cause) → Gone m → Does m g k rid turn → turn ≡ row_ended n (Failing cause) → Gone n
      by-fail m rid turn n cause f (inl h) e = absurd (no (ap (λ (x : RowTurn). x.end) (sym h.is ∙ e)))
        where
          no : Written ≡ Failing cause → ⊥
          no q = cc
      by-fail m rid turn n cause f (inr (inl h)) e = absurd (no (ap (λ (x : RowTurn). x.end) (sym h.is ∙ e)))
        where
          no : Skipped ≡ Failing cause → ⊥
          no q = cc
      by-fail m rid turn n cause f (inr (inr (inl h))) e = subst Gone (ap (λ (x : RowTurn). x.moved) (sym h.is ∙ e)) (notes m (mark.Fault g k.cid rid h.image) tt f)
      by-fail m rid turn n cause f (inr (inr (inr (inl h)))) e = subst Gone (ap (λ (x : RowTurn). x.moved) (sym h.is ∙ e)) f
      by-fail m rid turn n cause f (inr (inr (inr (inr h)))) e = absurd (no (ap (λ (x : RowTurn). x.end) (sym h.is ∙ e)))
        where
          no : Waiting ≡ Failing cause → ⊥
          no q = cc

      by-end : (rids : List Rid) (m : Moved) (count : ℕ) (turn : SegTurn) → Stops (ms ++ lead) node g k rids m → Gone m → GoesThrough g k rids m count turn → IsRight turn
      by-end rids m count turn at f (inl h) = subst IsRight (sym h.is) (path m h.visits h.last f h.path).right
      by-end rids m count turn at f (inr (inl h)) = subst IsRight (sym h.is) (by-stop h.last h.rid h.rest (count + written_in h.visits) (does_row h.last g k h.rid) h.stopped (at h.visits h.last h.rid h.rest h.split h.path) (path m h.visits h.last f h.path) (does h.last g k h.rid) h.waits)
      by-end rids m count turn at f (inr (inr h)) = subst IsRight (sym h.is) (by-fail h.last h.rid (does_row h.last g k h.rid) h.failed h.cause (path m h.visits h.last f h.path) (does h.last g k h.rid) h.fails).right

      -- from a row on
      pub went-on : (rids : List Rid) (count : ℕ) (m : Moved) → Stops (ms ++ lead) node g k rids m → Gone m → IsRight (goes_through g k rids m count)
      went-on rids count m at f = by-end rids m count (goes_through g k rids m count) at f (goes g k rids m count)

      changed : (s : Seg) → Stops (ms ++ lead) node g k (selected k.cond (shown_to s g k)) (starts_from s) → Gone (starts_from s) → IsRight (changes_rows s g (Some k))
      changed s at f = by_fault (first_fault k.cond (shown_to s g k))
        where
          by_fault : (o : Option (KeyedRow × ArithFault)) → IsRight (unless_fault s g k (shown_to s g k) o)
          by_fault None = went-on (selected k.cond (shown_to s g k)) 0 (starts_from s) at f
          by_fault (Some x) = (tt, tt)

    inserts : (d : Cid) (table : Table) (rows : List KeyedRow) (m : Moved) → d ≡ c → table ≡ t → Gone m → Gone (fold (inserts_row g d table) m rows)
    inserts d table [] m same on f = f
    inserts d table (r ∷ rs) m same on f = inserts d table rs (inserts_row g d table m r) same on (wrote d table m r.rid (Some r.row) same on f)

    select : (s : Seg) (q : Query) (rows : List KeyedRow) (f : Option (KeyedRow × ArithFault)) → IsRight (selects s g c q rows f)
    select s q rows None = tt
    select s q rows (Some f) = (tt, tt)

    start : (s : Seg) → s.node ≡ node → Gone (starts_from s)
    start s n = record { there = n; right = tt }

    -- what is known of a slice that changes rows
    pub record Changing (s : Seg) (k : Change) : Type 0 where
      pub through : GoesThroughRows line k.table k.cond
      pub isolation : k.level ≡ level
      pub number : k.cid ≡ c
      pub on : k.table ≡ t
      pub stops : Stops (ms ++ lead) node g k (selected k.cond (shown_to s g k)) (starts_from s)

    change : (s : Seg) → Gone (starts_from s) → (o : Option Change) → ((k : Change) → o ≡ Some k → Changing s k) → IsRight (changes_rows s g o)
    change s f None h = tt
    change s f (Some k) h = let z = h k refl in changed k z.through z.isolation z.number z.on s z.stops f

    -- ALL SLICES
    pub slice-right : (s : Seg) → s.node ≡ node → (snapshot : Option Snapshot) (x : Slice) → table_in x ≡ t → ((k : Change) → change_of c level snapshot x ≡ Some k → Changing s k) → IsRight (runs_slice s g c level snapshot x)
    slice-right s n (Some seen) (slice.Select q) on f = select s q (shown s seen g c q.table) (first_fault q.cond (shown s seen g c q.table))
    slice-right s n (Some seen) (slice.Insert table rows) on f = (inserts c table rows (starts_from s) refl on (start s n)).right
    slice-right s n None (slice.Select q) on f = tt
    slice-right s n None (slice.Insert table rows) on f = tt
    slice-right s n snapshot (slice.Lock table mode) on f = tt
    slice-right s n snapshot (slice.Update table assigns cond) on f = change s (start s n) (change_of c level snapshot (slice.Update table assigns cond)) f
    slice-right s n snapshot (slice.Delete table cond) on f = change s (start s n) (change_of c level snapshot (slice.Delete table cond)) f

  -- what it has waited for at a row is granted
  pub granted : (s : Seg) (rid : Rid) (wanted : Claim) → s.node ≡ node → list_any (same_claim wanted) (waits_at (ms ++ []) node) ≡ true → IsAtRow g rid wanted → Gone [] (is_granted s g wanted)
  granted s rid wanted n waited (inl e) =
      subst (λ x. Gone [] (is_granted s g x)) e
      (record { there = n; right = ((n, refl, inr (inl (subst (λ x. list_any (same_claim x) (waits_at (ms ++ []) node) ≡ true) (sym e) waited))), tt) })
  granted s rid wanted n waited (inr e) =
      subst (λ x. Gone [] (is_granted s g x)) e.is
      (record { there = n; right = ((n, refl, inr (inl (subst (λ x. list_any (same_claim x) (waits_at (ms ++ []) node) ≡ true) (sym e.is) waited))), (tt, tt)) })
