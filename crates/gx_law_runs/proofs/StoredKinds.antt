-- In every run, each row that a segment has stored is of its table's kinds.
use Rattle.std.proofs.Common.{◌≡◌, ◌≤◌, inl, inr, ℕ, ◌+◌, List, [], ◌∷◌, ◌++◌, Option, Some, None, Result, Ok, Err, Bool, true, false, refl, sym, subst, ◌∙◌, if◌then◌else◌, ◌&&◌, ◌==◌, nat_lt, arith, eqb, slice_get}
use Rattle.std.proofs.lemmas.Bool.{and_parts}
use Rattle.std.proofs.lemmas.Bool.Decides.{nat_tests}
use Rattle.std.specs.List.{AllByRecursion, list_all}
use Rattle.std.specs.Prelude.{fold}
use Rattle.gx_ids.specs.declared.ids.Cid.{Cid}
use Rattle.gx_ids.specs.declared.ids.Gxid.{Gxid}
use Rattle.gx_ids.specs.declared.ids.Table.{Table}
use Rattle.gx_ids.specs.declared.rid.Rid.{Rid}
use Rattle.gx_tree.specs.declared.query.Query.{Query}
use Rattle.gx_tree.specs.declared.row.KeyedRow.{KeyedRow}
use Rattle.gx_tree.specs.declared.schema.Schema.{Schema}
use Rattle.gx_tree.specs.declared.slice.Slice.{Slice}
use Rattle.gx_tree.specs.declared.slice.Slice.TheVariants as slice
use Rattle.gx_tree.specs.declared.stmt.Assign.{Assign}
use Rattle.gx_tree.specs.declared.stmt.Level.{Level}
use Rattle.gx_tree.specs.declared.value.Value.{Value}
use Rattle.gx_dsnap.specs.Gxids.{is_below}
use Rattle.gx_dsnap.specs.declared.snapshot.Snapshot.{Snapshot}
use Rattle.gx_waits.specs.Claims.{is_clear}
use Rattle.gx_waits.specs.declared.claim.Claim.{Claim}
use Rattle.gx_waits.specs.declared.object.Object.{Object}
use Rattle.gx_waits.specs.declared.object.Object.TheVariants.{Relation, Transaction, Tuple}
use Rattle.gx_locks.specs.Locks.{wait_of}
use Rattle.gx_meaning.specs.Expressions.{and_then}
use Rattle.gx_meaning.specs.declared.fault.ArithFault.{ArithFault}
use Rattle.gx_msg.specs.declared.message.Message.{Message}
use Rattle.gx_msg.specs.declared.message.Message.TheVariants as message
use Rattle.gx_msg.specs.declared.reply.Reply.{Reply}
use Rattle.gx_script.specs.declared.Script.{Script}
use Rattle.gx_store.specs.Locks.{slice_lock}
use Rattle.gx_store.specs.Writes.{set_row}
use Rattle.gx_store.specs.declared.event.Event.{Event}
use Rattle.gx_store.specs.declared.node.NodeEvent.{NodeEvent}
use Rattle.gx_store.specs.declared.node.NodeEvent.TheVariants as here
use Rattle.gx_rules.specs.AtSegment as segment
use Rattle.gx_rules.specs.AtSegment.{if_fits, on_exec, on_message, raised, repeats, resumes, seg_rule, takes}
use Rattle.gx_rules.specs.Changes.{Change, change_of, changes_rows, goes_through, new_image, selected, shown_to, unless_fault}
use Rattle.gx_rules.specs.Fits.{fits_exec, is_rid_of, is_right_assign, is_right_cond, is_right_on, is_right_row, is_right_slice, kinds_in}
use Rattle.gx_rules.specs.Locks.{hold_mark}
use Rattle.gx_rules.specs.Machine.{World, seg_can, world_of}
use Rattle.gx_rules.specs.Running.{is_granted, runs_locked, runs_slice, starts_slice, suspends, unless_end}
use Rattle.gx_rules.specs.Segments.{Phase, Seg, SegTurn, Version, local_of, stays, tells_kept}
use Rattle.gx_rules.specs.Segments.Phase.{Aborted, Committed, Forgotten, Prepared, Reading, Writing}
use Rattle.gx_rules.specs.Shown.{is_current, shown}
use Rattle.gx_rules.specs.Slices.{Moved, first_fault, inserted, inserts_row, selects, starts_from, takes_own, version, writes_row}
use Rattle.gx_rules.specs.Visits.{WritesIt}
use Rattle.gx_rules.proofs.Moving.{Ends, Keeps, loop-keeps}
use Rattle.gx_rules.proofs.RightRows.{kinds_are, right-set}
use Rattle.gx_law_order.specs.Standings.{at}
use Rattle.gx_law_order.proofs.Induction.{at-events}
use Rattle.gx_law_order.proofs.Suspensions.{fits-new}
use Rattle.gx_law_order.proofs.Waiting.{GoesOn, GoesOnSo, freed, going-on, going-ways}
use Rattle.gx_law_order.proofs.World.{Knows, moves_knows}
use Rattle.gx_law_writes.proofs.Newest.{find-reverse, newest}
use Rattle.gx_law_writes.proofs.Turns.{Turns, message-turns}
use Rattle.gx_law_runs.specs.Stored.{AreRowsOfTables, IsImageOf, IsStoredRightly}

-- a message that is no EXEC
abbrev NoExec : Message → Type 0
NoExec (message.Exec g c level snapshot horizon x) = ⊥
NoExec _ = Unit {0}

-- LISTS
all-append : {A : Type 0} (P : A → Type 0) (xs ys : List A) → AllByRecursion P xs → AllByRecursion P ys → AllByRecursion P (xs ++ ys)
all-append P [] ys e f = f
all-append P (x ∷ xs) ys e f = (e.0, all-append P xs ys e.1 f)

some-same : {A : Type 0} (a b : A) → Some a ≡ Some b → a ≡ b
some-same a b e = cc

ok-same : {A : Type 0} (a b : A) → (let r : Result A ArithFault = Ok a in r) ≡ Ok b → a ≡ b
ok-same a b e = cc

newest-all : (P : Version → Type 0) (p : Version → Bool) (old : Option Version) (vs : List Version) (v : Version) → AllByRecursion P vs → (old ≡ Some v → P v × (p v ≡ true)) → newest p old vs ≡ Some v → P v × (p v ≡ true)
newest-all P p old [] v e start new = start new
newest-all P p old (u ∷ us) v e start new = newest-all P p (if p u then Some u else old) us v e.1 (by_test (p u) refl) new
  where
    by_test : (b : Bool) → p u ≡ b → (if b then Some u else old) ≡ Some v → P v × (p v ≡ true)
    by_test true f is = let same : u ≡ v = some-same u v is in (subst P same e.0, subst (λ w. p w ≡ true) same f)
    by_test false f is = start is

same-table : (a b : Table) → (a.0 == b.0) ≡ true → a ≡ b
same-table a b e = grind (arith, nat_tests)

module _ (script : Script) where
  abbrev Right : Seg → Type 0
  Right s = AllByRecursion (IsStoredRightly script) s.versions

  -- ONE ROW MORE
  own-right : (g : Gxid) (phase : Phase) (m : Moved) → Right m.seg → Right (takes_own g phase m).seg
  own-right g Reading m r = r
  own-right g Writing m r = r
  own-right g Prepared m r = r
  own-right g Committed m r = r
  own-right g (Forgotten b) m r = r
  own-right g Aborted m r = r

  write-right : (g : Gxid) (c : Cid) (table : Table) (m : Moved) (rid : Rid) (image : Option (List Value)) → IsImageOf script.tables table image → Right m.seg → Right (writes_row g c table m rid image).seg
  write-right g c table m rid image is r =
      own-right g (local_of m.seg g).phase _ (all-append (IsStoredRightly script) m.seg.versions (version g c table rid image ∷ []) r (is, tt))

  -- AN UPDATE OR DELETE
  pub record IsRightFor (k : Change) : Type 0 where
    pub schema : Schema
    pub at : slice_get script.tables k.table.0 ≡ Some schema
    pub assigns : (list : List Assign) → k.set ≡ Some list → list_all (is_right_assign (kinds_in schema)) list ≡ true

  -- a row that it makes of a row of the table is of the table
  module _ (k : Change) (right : IsRightFor k) where
    old-right : (old : List Value) → IsImageOf script.tables k.table (Some old) → is_right_row (kinds_in right.schema) old ≡ true
    old-right old is = subst (λ (s : Schema). is_right_row (kinds_in s) old ≡ true) (some-same is.0 right.schema (sym is.1 ∙ right.at)) is.2

    made-right : (old : List Value) (image : Option (List Value)) → IsImageOf script.tables k.table (Some old) → new_image k.set old ≡ Ok image → IsImageOf script.tables k.table image
    made-right old image is made = by_set k.set refl made
      where
        by_row : (assigns : List Assign) → k.set ≡ Some assigns → (r : Result (List Value) ArithFault) → set_row assigns old ≡ r → and_then r (λ new. Ok (Some new)) ≡ Ok image → IsImageOf script.tables k.table image
        by_row assigns set (Err fault) e f = absurd (cc)
        by_row assigns set (Ok new) e f =
            subst (IsImageOf script.tables k.table) (ok-same (Some new) image f)
            (right.schema, right.at, right-set (kinds_in right.schema) old (kinds_are (kinds_in right.schema) old (old-right old is)) assigns old new (old-right old is) (right.assigns assigns set) e)

        by_set : (set : Option (List Assign)) → k.set ≡ set → new_image set old ≡ Ok image → IsImageOf script.tables k.table image
        by_set None set f = subst (IsImageOf script.tables k.table) (ok-same None image f) tt
        by_set (Some assigns) set f = by_row assigns set (set_row assigns old) refl f

    writes-right : (g : Gxid) (m : Moved) (rid : Rid) (image : Option (List Value)) → WritesIt m g k rid image → Right m.seg → Right (writes_row g k.cid k.table m rid image).seg
    writes-right g m rid image why r = write-right g k.cid k.table m rid image (made-right why.old image old why.made) r
      where
        none : None ≡ Some why.version → ⊥
        none e = cc

        found : IsStoredRightly script why.version × (is_current m.seg k.table rid why.version ≡ true)
        found = newest-all (IsStoredRightly script) (is_current m.seg k.table rid) None m.seg.versions why.version r (λ z. absurd (none z)) (sym (find-reverse (is_current m.seg k.table rid) m.seg.versions) ∙ why.settled.current)

        first : (a b : Bool) → (a && b) ≡ true → a ≡ true
        first a b e = grind arith

        old : IsImageOf script.tables k.table (Some why.old)
        old =
            subst (λ t. IsImageOf script.tables t (Some why.old)) (same-table why.version.table k.table (first (why.version.table.0 == k.table.0) _ found.1))
            (subst (IsImageOf script.tables why.version.table) why.before found.0)

    keeps-right : (g : Gxid) → Keeps g k (λ (m : Moved). Right m.seg)
    keeps-right g = record { takes = λ m rid free r. r; gives = λ m rid held r. r; writes = λ m rid image why r. writes-right g m rid image why r; skips = λ m rid why r. r; faults = λ m rid image r. r }

    stop-right : (g : Gxid) (m : Moved) (rid : Rid) (writer : Gxid) (stopped : Moved) → Rattle.gx_rules.specs.Visits.WaitsAt m g rid writer stopped → Right m.seg → Right stopped.seg
    stop-right g m rid writer stopped (inl h) r = subst (λ (n : Moved). Right n.seg) (sym h.1) r
    stop-right g m rid writer stopped (inr (inl h)) r = subst (λ (n : Moved). Right n.seg) (sym h.1) r
    stop-right g m rid writer stopped (inr (inr h)) r = subst (λ (n : Moved). Right n.seg) (sym h.1) r

    ends-right : (g : Gxid) → Ends g k (λ (m : Moved). Right m.seg) (λ (turn : SegTurn). Right turn.seg)
    ends-right g = record { done = λ m count r. r; stopped = λ m rid rest count t stop r. stop-right g m rid stop.version.gxid stop.stopped stop.how r; failed = λ m cause r. r }

    loop-right : (g : Gxid) (rids : List Rid) (m : Moved) (count : ℕ) → Right m.seg → Right (goes_through g k rids m count).seg
    loop-right g rids m count r = loop-keeps g k (λ (m : Moved). Right m.seg) (λ (turn : SegTurn). Right turn.seg) (keeps-right g) (ends-right g) rids m count r

  change-right : (g : Gxid) (c : Cid) (level : Level) (snapshot : Option Snapshot) (x : Slice) (k : Change) → change_of c level snapshot x ≡ Some k → is_right_slice script g c x ≡ true → IsRightFor k
  change-right g c level (Some s) (slice.Update t a d) k e right = subst IsRightFor (some-same _ k e) (by_schema (slice_get script.tables t.0) refl right)
    where
      its : Change
      its = record { cid = c; level = level; snapshot = s; slice = slice.Update t a d; table = t; set = Some a; cond = d }

      by_schema : (o : Option Schema) → slice_get script.tables t.0 ≡ o → is_right_on g c o (slice.Update t a d) ≡ true → IsRightFor its
      by_schema None at f = absurd (cc)
      by_schema (Some schema) at f =
          record { schema = schema; at = at; assigns = λ list same. subst (λ l. list_all (is_right_assign (kinds_in schema)) l ≡ true) (some-same a list same) (and_parts (list_all (is_right_assign (kinds_in schema)) a) (is_right_cond (kinds_in schema) d) f).0 }
  change-right g c level (Some s) (slice.Delete t d) k e right = subst IsRightFor (some-same _ k e) (by_schema (slice_get script.tables t.0) refl right)
    where
      its : Change
      its = record { cid = c; level = level; snapshot = s; slice = slice.Delete t d; table = t; set = None; cond = d }

      none : (list : List Assign) → None ≡ Some list → ⊥
      none list e = cc

      by_schema : (o : Option Schema) → slice_get script.tables t.0 ≡ o → is_right_on g c o (slice.Delete t d) ≡ true → IsRightFor its
      by_schema None at f = absurd (cc)
      by_schema (Some schema) at f = record { schema = schema; at = at; assigns = λ list same. absurd (none list same) }
  change-right g c level (Some s) (slice.Select q) k e right = absurd (cc)
  change-right g c level (Some s) (slice.Insert t rows) k e right = absurd (cc)
  change-right g c level (Some s) (slice.Lock t m) k e right = absurd (cc)
  change-right g c level None (slice.Update t a d) k e right = absurd (cc)
  change-right g c level None (slice.Delete t d) k e right = absurd (cc)
  change-right g c level None (slice.Select q) k e right = absurd (cc)
  change-right g c level None (slice.Insert t rows) k e right = absurd (cc)
  change-right g c level None (slice.Lock t m) k e right = absurd (cc)

  -- AN INSERT
  module _ (g : Gxid) (c : Cid) (table : Table) where
    insert-right : (schema : Schema) → slice_get script.tables table.0 ≡ Some schema → (rows : List KeyedRow) → list_all (λ (row : KeyedRow). is_rid_of g c row.rid && is_right_row (kinds_in schema) row.row) rows ≡ true → (m : Moved) → Right m.seg
        → Right (fold (inserts_row g c table) m rows).seg
    insert-right schema at [] e m r = r
    insert-right schema at (row ∷ rows) e m r =
        let parts = and_parts (is_rid_of g c row.rid && is_right_row (kinds_in schema) row.row) (list_all (λ (row : KeyedRow). is_rid_of g c row.rid && is_right_row (kinds_in schema) row.row) rows) e in
        insert-right schema at rows parts.1 (inserts_row g c table m row)
        (write-right g c table m row.rid (Some row.row) (schema, at, (and_parts (is_rid_of g c row.rid) (is_right_row (kinds_in schema) row.row) parts.0).1) r)

    rows-right : (rows : List KeyedRow) → is_right_slice script g c (slice.Insert table rows) ≡ true → (s : Seg) → Right s → Right (inserted s g c table rows).seg
    rows-right rows right s r = by_schema (slice_get script.tables table.0) refl right
      where
        by_schema : (o : Option Schema) → slice_get script.tables table.0 ≡ o → is_right_on g c o (slice.Insert table rows) ≡ true → Right (inserted s g c table rows).seg
        by_schema None at f = absurd (cc)
        by_schema (Some schema) at f = insert-right schema at rows f (starts_from s) r

  -- ALL SLICES
  select-right : (s : Seg) (g : Gxid) (c : Cid) (q : Query) (rows : List KeyedRow) (f : Option (KeyedRow × ArithFault)) → Right s → Right (selects s g c q rows f).seg
  select-right s g c q rows None r = r
  select-right s g c q rows (Some f) r = r

  fault-right : (s : Seg) (g : Gxid) (k : Change) → IsRightFor k → (rows : List KeyedRow) (f : Option (KeyedRow × ArithFault)) → Right s → Right (unless_fault s g k rows f).seg
  fault-right s g k right rows None r = loop-right k right g (selected k.cond rows) (starts_from s) 0 r
  fault-right s g k right rows (Some f) r = r

  changed-right : (s : Seg) (g : Gxid) (o : Option Change) → ((k : Change) → o ≡ Some k → IsRightFor k) → Right s → Right (changes_rows s g o).seg
  changed-right s g None f r = r
  changed-right s g (Some k) f r = fault-right s g k (f k refl) (shown_to s g k) (first_fault k.cond (shown_to s g k)) r

  slice-right : (s : Seg) (g : Gxid) (c : Cid) (level : Level) (snapshot : Option Snapshot) (x : Slice) → is_right_slice script g c x ≡ true → Right s → Right (runs_slice s g c level snapshot x).seg
  slice-right s g c level None (slice.Select q) right r = r
  slice-right s g c level (Some seen) (slice.Select q) right r = select-right s g c q (shown s seen g c q.table) (first_fault q.cond (shown s seen g c q.table)) r
  slice-right s g c level None (slice.Insert t rows) right r = r
  slice-right s g c level (Some seen) (slice.Insert t rows) right r = rows-right g c t rows right s r
  slice-right s g c level snapshot (slice.Update t a d) right r = changed-right s g (change_of c level snapshot (slice.Update t a d)) (λ k e. change-right g c level snapshot (slice.Update t a d) k e right) r
  slice-right s g c level snapshot (slice.Delete t d) right r = changed-right s g (change_of c level snapshot (slice.Delete t d)) (λ k e. change-right g c level snapshot (slice.Delete t d) k e right) r
  slice-right s g c level snapshot (slice.Lock t m) right r = r

  -- MESSAGES
  either-right : (b : Bool) (x y : SegTurn) → Right x.seg → Right y.seg → Right (if b then x else y).seg
  either-right true x y r q = r
  either-right false x y r q = q

  kept-right : (s : Seg) (g : Gxid) (o : Option Reply) → Right s → Right (tells_kept s g o).seg
  kept-right s g None r = r
  kept-right s g (Some x) r = r

  module _ (s : Seg) (r : Right s) (g : Gxid) (c : Cid) (level : Level) (snapshot : Option Snapshot) (horizon : Gxid) (x : Slice) (right : is_right_slice script g c x ≡ true) where
    repeat-right : Right (repeats s g c (local_of s g)).seg
    repeat-right = either-right (c.0 == (local_of s g).last) _ _ (kept-right s g (local_of s g).answer r) r

    take-right : Right (takes script s g c level snapshot horizon x (local_of s g)).seg
    take-right =
        either-right (nat_lt (local_of s g).last c.0) (starts_slice script (raised s horizon) g c level snapshot x) (repeats s g c (local_of s g))
        (either-right (is_clear s.locks.holds s.locks.waits (slice_lock script g x)) (runs_locked (raised s horizon) g c level snapshot x (slice_lock script g x)) (suspends (raised s horizon) g c level snapshot x (slice_lock script g x))
        (slice-right _ g c level snapshot x right r) r)
        repeat-right

    exec-right : (p : Phase) → Right (on_exec script s g c level snapshot horizon x (local_of s g) p).seg
    exec-right Reading = take-right
    exec-right Writing = take-right
    exec-right Prepared = repeat-right
    exec-right Committed = repeat-right
    exec-right (Forgotten b) = r
    exec-right Aborted = r

  order-right : (s : Seg) (fails : Bool) → Right s → (g : Gxid) (c : Cid) (level : Level) (snapshot : Option Snapshot) (horizon : Gxid) (x : Slice) → Right (on_message script s fails (message.Exec g c level snapshot horizon x)).seg
  order-right s fails r g c level snapshot horizon x = either-right (is_below s.horizon g) (stays s) _ r (by_fit (fits_exec script s g c snapshot horizon x) refl)
    where
      by_fit : (b : Bool) → fits_exec script s g c snapshot horizon x ≡ b → Right (if_fits s b (on_exec script s g c level snapshot horizon x (local_of s g) (local_of s g).phase)).seg
      by_fit true fit = exec-right s r g c level snapshot horizon x (fits-new script s g c snapshot horizon x fit).right (local_of s g).phase
      by_fit false fit = r

  -- who runs no slice writes nothing
  other-right : (s : Seg) (m : Message) (turn : SegTurn) → NoExec m → Turns script s m turn → Right s → Right turn.seg
  other-right s m turn n (inl q) r = subst (AllByRecursion (IsStoredRightly script)) (sym q.versions) r
  other-right s m turn n (inr (inl z)) r = absurd (subst NoExec z.is n)
  other-right s m turn n (inr (inr (inl z))) r = absurd (subst NoExec z.is n)
  other-right s m turn n (inr (inr (inr (inl z)))) r = absurd (subst NoExec z.is n)
  other-right s m turn n (inr (inr (inr (inr (inl z))))) r = absurd (subst NoExec z.is n)
  other-right s m turn n (inr (inr (inr (inr (inr z))))) r = absurd (subst NoExec z.is n)

  message-right : (s : Seg) (fails : Bool) → Right s → (m : Message) → Right (on_message script s fails m).seg
  message-right s fails r (message.Exec g c level snapshot horizon x) = order-right s fails r g c level snapshot horizon x
  message-right s fails r (message.Prepare g) = other-right s (message.Prepare g) _ tt (message-turns script s fails (message.Prepare g)) r
  message-right s fails r (message.Commit g) = other-right s (message.Commit g) _ tt (message-turns script s fails (message.Commit g)) r
  message-right s fails r (message.CommitPrepared g) = other-right s (message.CommitPrepared g) _ tt (message-turns script s fails (message.CommitPrepared g)) r
  message-right s fails r (message.Abort g) = other-right s (message.Abort g) _ tt (message-turns script s fails (message.Abort g)) r
  message-right s fails r (message.Forget g) = other-right s (message.Forget g) _ tt (message-turns script s fails (message.Forget g)) r
  message-right s fails r (message.Collect round) = other-right s (message.Collect round) _ tt (message-turns script s fails (message.Collect round)) r
  message-right s fails r (message.Answer g a) = r
  message-right s fails r (message.Graph round graph) = r
  message-right s fails r message.Up = r

  -- A SLICE GOES ON
  granted-right : (s : Seg) (g : Gxid) (wanted : Claim) → Right s → Right (is_granted s g wanted).seg
  granted-right s g wanted r = by_object wanted.object
    where
      held : Moved
      held = record { seg = freed s g wanted; marks = hold_mark s.node wanted ∷ [] }

      by_object : (o : Object) → Right (unless_end wanted o held).seg
      by_object (Transaction other) = r
      by_object (Relation table) = r
      by_object (Tuple rid) = r

  resume-right : (w : World) (i : ℕ) (g : Gxid) (o : GoesOn script w i g) → Right (w.segs i) → Right (resumes (w.segs i) g (wait_of (w.segs i).locks g) (local_of (w.segs i) g).suspended).seg
  resume-right w i g o r = by_way (going-ways script w i g o)
    where
      by_way : GoesOnSo script (w.segs i) g o.slice o.wanted (resumes (w.segs i) g (wait_of (w.segs i).locks g) (local_of (w.segs i) g).suspended) → Right (resumes (w.segs i) g (wait_of (w.segs i).locks g) (local_of (w.segs i) g).suspended).seg
      by_way (inl d) = subst (λ (t : SegTurn). Right t.seg) (sym d.is) (slice-right (freed (w.segs i) g o.wanted) g o.slice.cid o.slice.level o.slice.snapshot o.slice.slice o.waits.right r)
      by_way (inr d) =
          subst (λ (t : SegTurn). Right t.seg) (sym d.is)
          (loop-right d.at.change (change-right g o.slice.cid o.slice.level o.slice.snapshot o.slice.slice d.at.change d.at.changes o.waits.right) g (d.at.rid ∷ o.slice.rows) (is_granted (w.segs i) g o.wanted) o.slice.count (granted-right (w.segs i) g o.wanted r))

  -- EVERY RUN
  event-right : (w : World) → Knows script w → (i : ℕ) (x : NodeEvent) (fails : Bool) → seg_can script (w.segs i) x ≡ true → Right (w.segs i) → Right (seg_rule script (w.segs i) x fails).seg
  event-right w n i (here.Deliver from envelope) fails ok r = message-right (w.segs i) fails r envelope.message
  event-right w n i (here.Resume g) fails ok r = resume-right w i g (going-on script w n.well i g ok) r
  event-right w n i (here.Start t) fails ok r = absurd (cc)
  event-right w n i (here.End t) fails ok r = absurd (cc)
  event-right w n i (here.Resend j g) fails ok r = absurd (cc)
  event-right w n i here.Round fails ok r = absurd (cc)

  pub world-stored : (es : List (Event × Bool)) → 1 ≤ script.segments → AreRowsOfTables script (world_of script es)
  world-stored es some =
      at-events script some (Knows script) (AreRowsOfTables script) (moves_knows script some) (λ i. tt) (λ w n p e x fails t ok next. p) (λ w n p g a next. p)
      (λ w n p e x fails i place t ok next j. by_node w (eqb j i) p (seg_rule script (w.segs i) x fails).seg (event-right w n i x fails ok (p i)) j) es
    where
      by_node : (w : World) (b : Bool) → AreRowsOfTables script w → (s : Seg) → Right s → (j : ℕ) → Right (if b then s else w.segs j)
      by_node w true p s r j = r
      by_node w false p s r j = p j
