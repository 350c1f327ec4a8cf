-- The rows that a segment's turn tells of were written there: those that it goes through are shown there, or it has waited with them.
use Rattle.std.proofs.Common.{◌≡◌, ◌⊎◌, ◌==◌, inl, inr, ℕ, ◌+◌, List, [], ◌∷◌, ◌++◌, Option, Some, None, Bool, true, false, refl, sym, subst, ap, if◌then◌else◌, ◌&&◌, ◌||◌, arith, eqb}
use Rattle.std.proofs.lemmas.Bool.Decides.{nat_tests}
use Rattle.std.proofs.lemmas.List.{append_assoc}
use Rattle.std.specs.Prelude.{Result, Ok, Err, fold, filter}
use Rattle.std.specs.Ordering.{is_lt}
use Rattle.gx_ids.specs.declared.ids.Cid.{Cid}
use Rattle.gx_ids.specs.declared.ids.Gxid.{Gxid}
use Rattle.gx_ids.specs.declared.ids.Node.{Node}
use Rattle.gx_ids.specs.declared.ids.Table.{Table}
use Rattle.gx_ids.specs.declared.rid.Rid.{Rid}
use Rattle.gx_tree.specs.declared.cond.Cond.{Cond}
use Rattle.gx_tree.specs.declared.query.Query.{Query}
use Rattle.gx_tree.specs.declared.row.KeyedRow.{KeyedRow}
use Rattle.gx_tree.specs.declared.value.Value.{Value}
use Rattle.gx_dsnap.specs.declared.snapshot.Snapshot.{Snapshot}
use Rattle.gx_meaning.specs.Answer.{keeps}
use Rattle.gx_meaning.specs.Order.{rid_order}
use Rattle.gx_meaning.specs.declared.fault.ArithFault.{ArithFault}
use Rattle.gx_meaning.specs.declared.fault.ArithFault.TheVariants as arith_fault
use Rattle.gx_msg.specs.declared.item.Kept.{Kept}
use Rattle.gx_msg.specs.declared.message.Message.{Message}
use Rattle.gx_msg.specs.declared.message.Message.TheVariants as message
use Rattle.gx_msg.specs.declared.message.Out.{Out}
use Rattle.gx_msg.specs.declared.reply.Cause.{Cause}
use Rattle.gx_msg.specs.declared.reply.Cause.TheVariants as cause
use Rattle.gx_msg.specs.declared.reply.Reply.{Reply}
use Rattle.gx_msg.specs.declared.reply.Reply.TheVariants as reply
use Rattle.gx_store.specs.declared.mark.Mark.{Mark}
use Rattle.gx_store.specs.declared.mark.Mark.TheVariants as mark
use Rattle.gx_store.specs.Commands.{condition_on}
use Rattle.gx_store.specs.Journals.{is_same_node, kept_with}
use Rattle.gx_store.specs.Marks.{is_same_rid}
use Rattle.gx_store.specs.Refusals.{the_coordinator}
use Rattle.gx_rules.specs.Changes.{Change, RowTurn, after_row, changes_rows, does_row, end_lock, gives_back_if_held, goes_through, selected, shown_to, suspended_at, suspends_at, tuple_lock, unless_fault, waits}
use Rattle.gx_rules.specs.Locks.{hold_mark, release_mark, wait_mark, with_wait}
use Rattle.gx_rules.specs.Segments.{Local, Phase, Seg, SegTurn, Suspended, Version, after_marks, local_of}
use Rattle.gx_rules.specs.Segments.Phase.{Aborted, Committed, Forgotten, Prepared, Reading, Writing}
use Rattle.gx_rules.specs.Shown.{counts, kept_one, last_images, row_in, shown}
use Rattle.gx_rules.specs.Slices.{Moved, adds_version, answers, cause_of, fails_on, first_fault, gives_back, inserts_row, is_holding, noted, or_fault, own_lock, selects, starts_from, takes_lock, takes_own, version, writes_row}
use Rattle.gx_rules.specs.Visits.{Does, WaitsAt}
use Rattle.gx_rules.proofs.RowEnds.{does}
use Rattle.gx_law_order.specs.Lists.{Each}
use Rattle.gx_law_order.proofs.Lists.{each_filter, each_flat, each_map, each_weaker}
use Rattle.gx_law_locks.specs.Waiting.{EachBehind}
use Rattle.gx_law_locks.proofs.Lets.{behind-append}

-- WRITTEN AT THE NODE
abbrev pub is_at : Node → Rid → List Mark → Bool
is_at node rid [] = false
is_at node rid (mark.Write g c n t r x ∷ ms) = (is_same_node n node && is_same_rid r rid) || is_at node rid ms
is_at node rid (_ ∷ ms) = is_at node rid ms

abbrev pub IsHere : List Mark → Node → Rid → Type 0
IsHere ms node rid = is_at node rid ms ≡ true

or-on : (b p q : Bool) → (b || p) ≡ true → (p ≡ true → q ≡ true) → (b || q) ≡ true
or-on true p q e f = refl
or-on false p q e f = f e

pub here-on : (xs ys : List Mark) (node : Node) (rid : Rid) → IsHere xs node rid → IsHere (xs ++ ys) node rid
here-on [] ys node rid e = absurd (cc)
here-on (mark.Write g c n t r x ∷ xs) ys node rid e = or-on (is_same_node n node && is_same_rid r rid) (is_at node rid xs) (is_at node rid (xs ++ ys)) e (here-on xs ys node rid)
here-on (m ∷ xs) ys node rid e = here-on xs ys node rid e

pub here-front : (b : Bool) (node : Node) (rid : Rid) (ms : List Mark) → IsHere ms node rid → (b || is_at node rid ms) ≡ true
here-front true node rid ms e = refl
here-front false node rid ms e = e

pub here-self : (node : Node) (rid : Rid) → (is_same_node node node && is_same_rid rid rid) ≡ true
here-self node rid = all (node.0 == node.0) _ _ _ (itself node.0) (itself rid.gxid.0) (itself rid.cid.0) (itself rid.ordinal)
  where
    itself : (a : ℕ) → (a == a) ≡ true
    itself a = grind (arith, nat_tests)

    all : (a b c d : Bool) → a ≡ true → b ≡ true → c ≡ true → d ≡ true → (a && (b && (c && d))) ≡ true
    all a b c d p q r s = grind arith

-- WHAT IS TOLD, AND KEPT
abbrev pub CauseHere : List Mark → Node → Cause → Type 0
CauseHere ms node (cause.Serialization rid h) = IsHere ms node rid
CauseHere ms node _ = Unit {0}

abbrev pub ReplyHere : List Mark → Node → Reply → Type 0
ReplyHere ms node (reply.Failed c x) = CauseHere ms node x
ReplyHere ms node _ = Unit {0}

abbrev pub AnswerHere : List Mark → Node → Option Reply → Type 0
AnswerHere ms node None = Unit {0}
AnswerHere ms node (Some r) = ReplyHere ms node r

abbrev pub MessageHere : List Mark → Node → Message → Type 0
MessageHere ms node (message.Answer g r) = ReplyHere ms node r
MessageHere ms node _ = Unit {0}

abbrev pub RowHere : List Mark → Node → Option Rid → Type 0
RowHere ms node None = Unit {0}
RowHere ms node (Some rid) = IsHere ms node rid

abbrev pub SliceHere : List Mark → Node → Option Suspended → Type 0
SliceHere ms node None = Unit {0}
SliceHere ms node (Some x) = RowHere ms node x.row × Each (IsHere ms node) x.rows

abbrev pub LocalHere : List Mark → Node → Local → Type 0
LocalHere ms node l = AnswerHere ms node l.answer × SliceHere ms node l.suspended

abbrev pub MarkHere : Node → List Mark → Mark → Type 0
MarkHere node before (mark.Skip g c rid) = IsHere before node rid
MarkHere node before (mark.Fault g c rid image) = ((node ≡ the_coordinator) × (image ≡ None)) ⊎ IsHere before node rid
MarkHere node before _ = Unit {0}

-- a fault names no row
fault-cause : (ms : List Mark) (node : Node) (f : ArithFault) → CauseHere ms node (cause_of f)
fault-cause ms node arith_fault.Overflow = tt
fault-cause ms node arith_fault.DivisionByZero = tt

-- MORE MARKS
module _ (xs ys : List Mark) (node : Node) where
  cause-on : (x : Cause) → CauseHere xs node x → CauseHere (xs ++ ys) node x
  cause-on (cause.Serialization rid h) e = here-on xs ys node rid e
  cause-on cause.Overflow e = tt
  cause-on cause.DivisionByZero e = tt

  reply-on : (r : Reply) → ReplyHere xs node r → ReplyHere (xs ++ ys) node r
  reply-on (reply.Failed c x) e = cause-on x e
  reply-on (reply.Done c w n p) e = tt
  reply-on reply.Prepared e = tt
  reply-on reply.Committed e = tt
  reply-on reply.Jfault e = tt
  reply-on reply.Again e = tt
  reply-on reply.Restarted e = tt
  reply-on reply.Aborted e = tt
  reply-on reply.Forgotten e = tt

  answer-on : (o : Option Reply) → AnswerHere xs node o → AnswerHere (xs ++ ys) node o
  answer-on None e = tt
  answer-on (Some r) e = reply-on r e

  pub rows-on : (rids : List Rid) → Each (IsHere xs node) rids → Each (IsHere (xs ++ ys) node) rids
  rows-on rids e = each_weaker (IsHere xs node) (IsHere (xs ++ ys) node) (λ rid k. here-on xs ys node rid k) rids e

  row-on : (o : Option Rid) → RowHere xs node o → RowHere (xs ++ ys) node o
  row-on None e = tt
  row-on (Some rid) e = here-on xs ys node rid e

  slice-on : (o : Option Suspended) → SliceHere xs node o → SliceHere (xs ++ ys) node o
  slice-on None e = tt
  slice-on (Some x) e = (row-on x.row e.0, rows-on x.rows e.1)

  pub local-on : (l : Local) → LocalHere xs node l → LocalHere (xs ++ ys) node l
  local-on l e = (answer-on l.answer e.0, slice-on l.suspended e.1)

  pub message-on : (m : Message) → MessageHere xs node m → MessageHere (xs ++ ys) node m
  message-on (message.Answer g r) e = reply-on r e
  message-on (message.Exec g c l x y z) e = tt
  message-on (message.Prepare g) e = tt
  message-on (message.Commit g) e = tt
  message-on (message.CommitPrepared g) e = tt
  message-on (message.Abort g) e = tt
  message-on (message.Forget g) e = tt
  message-on (message.Collect round) e = tt
  message-on (message.Graph round graph) e = tt
  message-on message.Up e = tt

-- ROWS THAT ARE SHOWN
module _ (P : Rid → Type 0) where
  abbrev OfRow : KeyedRow → Type 0
  OfRow row = P row.rid

  kept-each : (new : Kept) (ks : List Kept) → P new.rid → Each (λ (k : Kept). P k.rid) ks → Each (λ (k : Kept). P k.rid) (kept_with new ks)
  kept-each new [] p e = (p, tt)
  kept-each new (k ∷ ks) p e = by_tests (is_same_rid k.rid new.rid) (is_lt (rid_order new.rid k.rid)) (kept-each new ks p e.1)
    where
      by_tests : (a b : Bool) → Each (λ (k : Kept). P k.rid) (kept_with new ks) → Each (λ (k : Kept). P k.rid) (if a then new ∷ ks else (if b then new ∷ k ∷ ks else k ∷ kept_with new ks))
      by_tests true b more = (p, e.1)
      by_tests false true more = (p, e)
      by_tests false false more = (e.0, more)

  images-each : (vs : List Version) (ks : List Kept) → Each (λ (v : Version). P v.rid) vs → Each (λ (k : Kept). P k.rid) ks → Each (λ (k : Kept). P k.rid) (fold kept_one ks vs)
  images-each [] ks e f = f
  images-each (v ∷ vs) ks e f = images-each vs (kept_one ks v) e.1 (kept-each (record { rid = v.rid; table = v.table; image = v.image }) ks e.0 f)

  row-each : (rid : Rid) (image : Option (List Value)) → P rid → Each OfRow (row_in rid image)
  row-each rid None p = tt
  row-each rid (Some row) p = (p, tt)

  pub shown-each : (s : Seg) (snapshot : Snapshot) (g : Gxid) (c : Cid) (table : Table) → Each (λ (v : Version). P v.rid) s.versions → Each OfRow (shown s snapshot g c table)
  shown-each s snapshot g c table e =
      let those : List Version = filter (λ v. (v.table.0 == table.0) && counts s snapshot g c v) s.versions in
      each_flat OfRow (λ k. row_in k.rid k.image) (last_images those)
      (each_weaker (λ (k : Kept). P k.rid) (λ (k : Kept). Each OfRow (row_in k.rid k.image)) (λ k p. row-each k.rid k.image p) (last_images those)
      (images-each those [] (each_filter (λ (v : Version). P v.rid) (λ v. (v.table.0 == table.0) && counts s snapshot g c v) s.versions e) tt))

  selected-each : (cond : Option Cond) (rows : List KeyedRow) → Each OfRow rows → Each P (selected cond rows)
  selected-each cond rows e = each_map P (λ (row : KeyedRow). row.rid) (filter (keeps cond) rows) (each_filter OfRow (keeps cond) rows e)

  -- the first on which the condition faults
  abbrev OfFault : Option (KeyedRow × ArithFault) → Type 0
  OfFault None = Unit {0}
  OfFault (Some f) = P f.0.rid

  or-each : (row : KeyedRow) (truth : Result Bool ArithFault) (later : Option (KeyedRow × ArithFault)) → P row.rid → OfFault later → OfFault (or_fault row truth later)
  or-each row (Ok b) later p e = e
  or-each row (Err f) later p e = p

  fault-each : (cond : Option Cond) (rows : List KeyedRow) → Each OfRow rows → OfFault (first_fault cond rows)
  fault-each cond [] e = tt
  fault-each cond (row ∷ rows) e = or-each row (condition_on cond row.row) (first_fault cond rows) e.0 (fault-each cond rows e.1)

-- A SLICE AT THE NODE, BEHIND THESE MARKS
module _ (node : Node) (base : List Mark) where
  pub record Good (m : Moved) : Type 0 where
    pub told : EachBehind (MarkHere node) base m.marks
    pub locals : (h : ℕ) → LocalHere (base ++ m.marks) node (m.seg.locals h)

  pub record Told (turn : SegTurn) : Type 0 where
    pub told : EachBehind (MarkHere node) base turn.marks
    pub outs : Each (λ (o : Out). MessageHere (base ++ turn.marks) node o.message) turn.outs
    pub locals : (h : ℕ) → LocalHere (base ++ turn.marks) node (turn.seg.locals h)

  pub start : (s : Seg) → ((h : ℕ) → LocalHere base node (s.locals h)) → Good (starts_from s)
  start s locals = record { told = tt; locals = λ h. local-on base [] node (s.locals h) (locals h) }

  -- one mark more, and one transaction's phase at most
  pub marked : (m : Moved) (t : Seg) (x : Mark) → MarkHere node (base ++ m.marks) x → ((h : ℕ) → ((t.locals h).answer ≡ (m.seg.locals h).answer) × ((t.locals h).suspended ≡ (m.seg.locals h).suspended)) → Good m → Good (record { seg = t; marks = m.marks ++ x ∷ [] })
  marked m t x p same f =
      record {
        told = behind-append (MarkHere node) base m.marks (x ∷ []) f.told (p, tt);
        locals = λ h.
            subst (λ ms. LocalHere ms node (t.locals h)) (append_assoc base m.marks (x ∷ []))
            (let old = local-on (base ++ m.marks) (x ∷ []) node (m.seg.locals h) (f.locals h) in
            (subst (AnswerHere ((base ++ m.marks) ++ x ∷ []) node) (sym (same h).0) old.0, subst (SliceHere ((base ++ m.marks) ++ x ∷ []) node) (sym (same h).1) old.1));
      }

  wrote : (g : Gxid) (c : Cid) (table : Table) (m : Moved) (rid : Rid) (image : Option (List Value)) → Good m → Good (writes_row g c table m rid image)
  wrote g c table m rid image f = by_phase (local_of m.seg g).phase
    where
      m1 : Moved
      m1 = record { seg = adds_version m.seg g (version g c table rid image); marks = m.marks ++ mark.Write g c m.seg.node table rid image ∷ [] }

      same : (h : ℕ) → (((m1.seg.locals h).answer ≡ (m.seg.locals h).answer) × ((m1.seg.locals h).suspended ≡ (m.seg.locals h).suspended))
      same h = by_test (eqb h g.0) refl
        where
          here : (h : ℕ) → eqb h g.0 ≡ true → g.0 ≡ h
          here h e = grind (arith, nat_tests)

          by_test : (b : Bool) → eqb h g.0 ≡ b
              → (((if b then record (m.seg.locals g.0) { phase = Writing } else m.seg.locals h).answer ≡ (m.seg.locals h).answer) × ((if b then record (m.seg.locals g.0) { phase = Writing } else m.seg.locals h).suspended ≡ (m.seg.locals h).suspended))
          by_test true e = (ap (λ j. (m.seg.locals j).answer) (here h e), ap (λ j. (m.seg.locals j).suspended) (here h e))
          by_test false e = (refl, refl)

      written : Good m1
      written = marked m m1.seg (mark.Write g c m.seg.node table rid image) tt same f

      by_phase : (p : Phase) → Good (takes_own g p m1)
      by_phase Reading = marked m1 _ (hold_mark m.seg.node (own_lock g)) tt (λ h. (refl, refl)) written
      by_phase Writing = written
      by_phase Prepared = written
      by_phase Committed = written
      by_phase (Forgotten b) = written
      by_phase Aborted = written

  pub inserted-rows : (g : Gxid) (c : Cid) (table : Table) (rows : List KeyedRow) (m : Moved) → Good m → Good (fold (inserts_row g c table) m rows)
  inserted-rows g c table [] m f = f
  inserted-rows g c table (r ∷ rs) m f = inserted-rows g c table rs (inserts_row g c table m r) (wrote g c table m r.rid (Some r.row) f)

  -- it answers, or is suspended
  now-kept : (g : Gxid) (l : Local) (m : Moved) → LocalHere (base ++ m.marks) node l → Good m → (h : ℕ) → LocalHere (base ++ m.marks) node (if eqb h g.0 then l else m.seg.locals h)
  now-kept g l m e f h = by_test (eqb h g.0)
    where
      by_test : (b : Bool) → LocalHere (base ++ m.marks) node (if b then l else m.seg.locals h)
      by_test true = e
      by_test false = f.locals h

  pub answered : (m : Moved) (g : Gxid) (c : Cid) (r : Reply) → ReplyHere (base ++ m.marks) node r → Good m → Told (answers m.seg g c m.marks r)
  answered m g c r e f = record { told = f.told; outs = (e, tt); locals = now-kept g (record (local_of m.seg g) { last = c.0; answer = Some r }) m (e, (f.locals g.0).1) f }

  halted : (m : Moved) (g : Gxid) (k : Change) (x : Suspended) → SliceHere (base ++ m.marks) node (Some x) → Good m → Told (suspends_at m g k x)
  halted m g k x e f = record { told = f.told; outs = tt; locals = now-kept g (record (local_of m.seg g) { last = k.cid.0; answer = None; suspended = Some x }) m (tt, e) f }

  -- SELECT
  failed : (s : Seg) (g : Gxid) (c : Cid) (x : KeyedRow × ArithFault) → IsHere base node x.0.rid → ((h : ℕ) → LocalHere base node (s.locals h)) → Told (fails_on s g c x)
  failed s g c x e locals =
      let m : Moved = record { seg = s; marks = mark.Fault g c x.0.rid (Some x.0.row) ∷ [] } in
      answered m g c (reply.Failed c (cause_of x.1)) (fault-cause (base ++ m.marks) node x.1)
      (record { told = (inr e, tt); locals = λ h. local-on base m.marks node (s.locals h) (locals h) })

  pub selects-here : (s : Seg) (g : Gxid) (c : Cid) (q : Query) (rows : List KeyedRow) → Each (λ (row : KeyedRow). IsHere base node row.rid) rows → ((h : ℕ) → LocalHere base node (s.locals h)) → Told (selects s g c q rows (first_fault q.cond rows))
  selects-here s g c q rows e locals = by_fault (first_fault q.cond rows) (fault-each (IsHere base node) q.cond rows e)
    where
      by_fault : (o : Option (KeyedRow × ArithFault)) → OfFault (IsHere base node) o → Told (selects s g c q rows o)
      by_fault None p = answered (starts_from s) g c _ tt (start s locals)
      by_fault (Some x) p = failed s g c x p locals

  -- UPDATE AND DELETE
  module _ (g : Gxid) (k : Change) where
    back : (m : Moved) (rid : Rid) → Good m → Good (gives_back_if_held (tuple_lock g rid) m)
    back m rid f = by_test (is_holding m (tuple_lock g rid))
      where
        by_test : (b : Bool) → Good (if b then gives_back (tuple_lock g rid) m else m)
        by_test true = marked m _ (release_mark m.seg.node (tuple_lock g rid)) tt (λ h. (refl, refl)) f
        by_test false = f

    notes : (m : Moved) (x : Mark) → MarkHere node (base ++ m.marks) x → Good m → Good (noted m x)
    notes m x p f = marked m m.seg x p (λ h. (refl, refl)) f

    stopped : (m : Moved) (rid : Rid) (rids : List Rid) (count : ℕ) (wanted : _) → IsHere base node rid → Each (IsHere base node) rids → Good m → Told (suspends_at (waits wanted m).moved g k (suspended_at k rid rids count))
    stopped m rid rids count wanted e r f =
        let n : Moved = (waits wanted m).moved in
        halted n g k (suspended_at k rid rids count) (here-on base n.marks node rid e, rows-on base n.marks node rids r)
        (marked m (record m.seg { locks = with_wait m.seg.locks wanted }) (wait_mark m.seg.node wanted) tt (λ h. (refl, refl)) f)

    module _ (rid : Rid) (rids : List Rid) (e : IsHere base node rid) (r : Each (IsHere base node) rids) (next : (n : Moved) (count : ℕ) → Good n → Told (goes_through g k rids n count)) where
      abbrev Comes : ℕ → RowTurn → Type 0
      Comes count t = Told (after_row (goes_through g k rids) g k rid rids count t.moved t.end)

      stops : (m : Moved) (writer : Gxid) (n : Moved) (count : ℕ) → WaitsAt m g rid writer n → Good m → Told (suspends_at n g k (suspended_at k rid rids count))
      stops m writer n count (inl h) f = subst (λ z. Told (suspends_at z g k (suspended_at k rid rids count))) (sym h.1) (stopped m rid rids count (end_lock g writer) e r f)
      stops m writer n count (inr (inl h)) f =
          subst (λ z. Told (suspends_at z g k (suspended_at k rid rids count))) (sym h.1)
          (stopped (takes_lock (tuple_lock g rid) m) rid rids count (end_lock g writer) e r (marked m _ (hold_mark m.seg.node (tuple_lock g rid)) tt (λ h. (refl, refl)) f))
      stops m writer n count (inr (inr h)) f = subst (λ z. Told (suspends_at z g k (suspended_at k rid rids count))) (sym h.1) (stopped m rid rids count (tuple_lock g rid) e r f)

      row-comes : (m : Moved) (count : ℕ) → Good m → (t : RowTurn) → Does m g k rid t → Comes count t
      row-comes m count f t (inl h) = subst (Comes count) (sym h.is) (next _ (count + 1) (back _ rid (wrote g k.cid k.table m rid h.image f)))
      row-comes m count f t (inr (inl h)) = subst (Comes count) (sym h.is) (next _ count (back _ rid (notes m (mark.Skip g k.cid rid) (here-on base m.marks node rid e) f)))
      row-comes m count f t (inr (inr (inl h))) =
          subst (Comes count) (sym h.is)
          (answered (noted m (mark.Fault g k.cid rid h.image)) g k.cid (reply.Failed k.cid (cause_of h.fault)) (fault-cause (base ++ (noted m (mark.Fault g k.cid rid h.image)).marks) node h.fault) (notes m (mark.Fault g k.cid rid h.image) (inr (here-on base m.marks node rid e)) f))
      row-comes m count f t (inr (inr (inr (inl h)))) = subst (Comes count) (sym h.is) (answered m g k.cid (reply.Failed k.cid (cause.Serialization rid h.writer)) (here-on base m.marks node rid e) f)
      row-comes m count f t (inr (inr (inr (inr h)))) = subst (Comes count) (sym h.is) (stops m h.version.gxid h.stopped count h.how f)

    -- from a row on
    pub through : (rids : List Rid) → Each (IsHere base node) rids → (m : Moved) (count : ℕ) → Good m → Told (goes_through g k rids m count)
    through [] e m count f = answered m g k.cid _ tt f
    through (r ∷ rs) e m count f = row-comes r rs e.0 e.1 (λ n c p. through rs e.1 n c p) m count f (does_row m g k r) (does m g k r)

    -- from the start
    pub changes-here : (s : Seg) → Each (λ (v : Version). IsHere base node v.rid) s.versions → ((h : ℕ) → LocalHere base node (s.locals h)) → Told (changes_rows s g (Some k))
    changes-here s e locals = by_fault (first_fault k.cond (shown_to s g k)) (fault-each (IsHere base node) k.cond (shown_to s g k) rows)
      where
        rows : Each (λ (row : KeyedRow). IsHere base node row.rid) (shown_to s g k)
        rows = shown-each (IsHere base node) s k.snapshot g k.cid k.table e

        by_fault : (o : Option (KeyedRow × ArithFault)) → OfFault (IsHere base node) o → Told (unless_fault s g k (shown_to s g k) o)
        by_fault None p = through (selected k.cond (shown_to s g k)) (selected-each (IsHere base node) k.cond (shown_to s g k) rows) (starts_from s) 0 (start s locals)
        by_fault (Some x) p = failed s g k.cid x p locals

-- behind a mark before its own
pub behind-one : (node : Node) (ms : List Mark) (x : Mark) (turn : SegTurn) → MarkHere node ms x → Told node (ms ++ x ∷ []) turn → Told node ms (after_marks (x ∷ []) turn)
behind-one node ms x turn p t =
    record {
      told = (p, t.told);
      outs = subst (λ all. Each (λ (o : Out). MessageHere all node o.message) turn.outs) (append_assoc ms (x ∷ []) turn.marks) t.outs;
      locals = λ h. subst (λ all. LocalHere all node (turn.seg.locals h)) (append_assoc ms (x ∷ []) turn.marks) (t.locals h);
    }
