-- What a segment's turn keeps: its writes are placed and legal, and what it tells of commands is so.
use Rattle.std.proofs.Common.{◌≡◌, ◌≤◌, ◌<◌, ◌⊎◌, inl, inr, ℕ, ◌+◌, List, [], ◌∷◌, ◌++◌, Option, Some, None, Bool, true, false, refl, sym, subst, ap, ◌∙◌, if◌then◌else◌, arith, eqb, append-nil}
use Rattle.std.proofs.lemmas.List.{append_assoc}
use Rattle.std.proofs.lemmas.Bool.{eqb-true}
use Rattle.std.specs.Prelude.{fold, length}
use Rattle.gx_lemmas.proofs.Options.{some-same}
use Rattle.gx_lemmas.proofs.Numbers.{eqb-self}
use Rattle.gx_ids.specs.declared.ids.Cid.{Cid}
use Rattle.gx_ids.specs.declared.ids.Gxid.{Gxid}
use Rattle.gx_ids.specs.declared.ids.Node.{Node}
use Rattle.gx_ids.specs.declared.ids.SessionId.{SessionId}
use Rattle.gx_ids.specs.declared.ids.Table.{Table}
use Rattle.gx_ids.specs.declared.rid.Rid.{Rid}
use Rattle.gx_tree.specs.declared.query.Query.{Query}
use Rattle.gx_tree.specs.declared.row.KeyedRow.{KeyedRow}
use Rattle.gx_tree.specs.declared.slice.Slice.{Slice}
use Rattle.gx_tree.specs.declared.slice.Slice.TheVariants as slice
use Rattle.gx_tree.specs.declared.stmt.Level.{Level}
use Rattle.gx_tree.specs.declared.stmt.Stmt.TheVariants as stmt
use Rattle.gx_dsnap.specs.declared.snapshot.Snapshot.{Snapshot}
use Rattle.gx_modes.specs.declared.modes.Mode.{Mode}
use Rattle.gx_waits.specs.declared.claim.Claim.{Claim}
use Rattle.gx_locks.specs.Locks.{Locks}
use Rattle.gx_meaning.specs.declared.fault.ArithFault.{ArithFault}
use Rattle.gx_msg.specs.declared.message.Message.{Message}
use Rattle.gx_msg.specs.declared.message.Message.TheVariants as message
use Rattle.gx_msg.specs.declared.message.Out.{Out}
use Rattle.gx_msg.specs.declared.reply.Cause.{Cause}
use Rattle.gx_msg.specs.declared.reply.Reply.{Reply}
use Rattle.gx_msg.specs.declared.reply.Reply.TheVariants as reply
use Rattle.gx_script.specs.declared.Script.{Script}
use Rattle.gx_store.specs.declared.event.Event.{Event}
use Rattle.gx_store.specs.declared.mark.Mark.{Mark}
use Rattle.gx_store.specs.declared.mark.Mark.TheVariants as mark
use Rattle.gx_store.specs.declared.run.Step.{Step}
use Rattle.gx_store.specs.Marks.{is_written}
use Rattle.gx_store.specs.Points.{marks_in, starts_by}
use Rattle.gx_rules.specs.AtSegment.{raised}
use Rattle.gx_rules.specs.Locks.{wait_mark, with_wait}
use Rattle.gx_rules.specs.Changes.{Change, RowTurn, change_of, changes_rows, goes_through, is_done, suspended_at, suspends_at, waits}
use Rattle.gx_rules.specs.Machine.{World}
use Rattle.gx_rules.specs.Segments.{Local, Seg, SegTurn, Suspended, after_marks, local_of, reply as reply_out, with_local}
use Rattle.gx_rules.specs.Running.{suspended_slice}
use Rattle.gx_rules.specs.Slices.{Moved, answers, cause_of, fails_on, inserted, inserts, inserts_row, locks as locks_only, noted, selects, starts_from}
use Rattle.gx_rules.specs.Visits.{DidStop}
use Rattle.gx_rules.proofs.Moving.{Ends, loop-keeps}
use Rattle.gx_law_order.proofs.Changing.{rows-change, stop-keeps}
use Rattle.gx_law_order.proofs.Lists.{each_append, each_weaker}
use Rattle.gx_law_order.specs.Lists.{Each}
use Rattle.gx_law_order.proofs.Waiting.{freed}
use Rattle.gx_law_order.specs.Orders.{IsOrder}
use Rattle.gx_law_order.specs.Scanned.{stmt_of_command}
use Rattle.gx_store.specs.Language.{AreLinesNumbered}
use Rattle.gx_law_order.specs.Rest.{EachMark}
use Rattle.gx_law_order.proofs.Given.{marks-append}
use Rattle.gx_law_order.specs.Pairs.{IsVote}
use Rattle.gx_law_order.specs.Standings.{at, gx}
use Rattle.gx_law_writes.specs.Rows.{IsRowPiece}
use Rattle.gx_law_writes.specs.Writes.{WriteLegal}
use Rattle.gx_law_writes.proofs.Next.{new-next, next-above, next_by, next_command}
use Rattle.gx_law_writes.specs.Homes.{AreRowsHome, IsPlacedMark}
use Rattle.gx_law_writes.proofs.Homes.{homes-append, no-writes-home, row-home}
use Rattle.gx_law_writes.proofs.Alive.{Late, Live}
use Rattle.gx_law_writes.proofs.Legal.{Behind, IsPastHere, IsPastMark, fresh-row, no-writes-legal, row-legal}
use Rattle.gx_law_writes.proofs.Placed.{IsPlacedRow, Rising, piece-rows, row-placed}
use Rattle.gx_law_writes.proofs.Changing.{ChangedSoFar, change-line, none-changed, rows-kept, stmt_of_change}
use Rattle.gx_law_writes.proofs.Pieces.{order-slice}
use Rattle.gx_law_writes.proofs.Plans.{row-piece, rows-are}
use Rattle.gx_law_writes.proofs.Rows.{IsLegalSoFar, IsOwnRow, IsStillAt, MayFollow, SoFar, behind-wrote, inserted-written, legal-wrote, marked-so-far, no-write-follows, none-so-far, so-far-later, still-itself, still-locked, wrote-so-far}
use Rattle.gx_law_writes.proofs.Told.{IsAnswerOf, IsDoneSlice, IsToldOf, IsWritten, answer-more, may_fail, order-later, told-more}
use Rattle.gx_law_writes.proofs.Versions.{IsHomeVersion}
use Rattle.gx_law_writes.proofs.Turns.{IsOldReply, IsOldWord, NoRow, NoWrite, Quiet, Waited, base}

-- what is told by the segment, as it stands then
abbrev pub IsOutOf : Script → List Mark → (ℕ → ℕ) → Node → Message → Type 0
IsOutOf script ms nexts node (message.Answer g r) = IsToldOf script ms (nexts g.0) node g r
IsOutOf script ms nexts node m = Unit {0}

pub record Move (script : Script) (ms : List Mark) (steps : List Step) (e : Event) (node : Node) (s : Seg) (turn : SegTurn) : Type 0 where
  pub nexts : (h : ℕ) → next_command (s.locals h) ≤ next_command (turn.seg.locals h)
  pub homes : AreRowsHome script ms ms turn.marks
  pub past : Each (IsPastHere (λ h. next_command (turn.seg.locals h)) node) turn.marks
  pub kept : (h : ℕ) → IsAnswerOf script (ms ++ turn.marks) (next_command (turn.seg.locals h)) node (gx h) (turn.seg.locals h).answer
  pub outs : Each (λ (o : Out). IsOutOf script (ms ++ turn.marks) (λ h. next_command (turn.seg.locals h)) node o.message) turn.outs
  pub legal : (later : List Mark) → EachMark (WriteLegal script) steps e [] turn.marks later

no-write-here : (nexts : ℕ → ℕ) (node : Node) (m : Mark) → NoWrite m → IsPastHere nexts node m
no-write-here nexts node (mark.Write g c n t r x) e = absurd e
no-write-here nexts node m e = tt

same-le : {a b : ℕ} → b ≡ a → a ≤ b
same-le e = omega arith

le-next : {a b c d : ℕ} → a ≤ b → b ≤ c → d ≡ c → a ≤ d
le-next e f h = omega arith

lt-next : {a b : ℕ} → b ≡ a + 1 → a < b
lt-next e = omega arith

-- A segment on which a slice of the transaction runs: none of it waits there, and the others stand as they stood.
pub record IsBase (s : Seg) (g : Gxid) (b : Seg) : Type 0 where
  pub node : b.node ≡ s.node
  pub versions : b.versions ≡ s.versions
  pub alone : (b.locals g.0).suspended ≡ None
  pub others : (h : ℕ) → eqb h g.0 ≡ false → b.locals h ≡ s.locals h

pub started-base : (s : Seg) (g horizon : Gxid) (locks : Locks) → (s.locals g.0).suspended ≡ None → IsBase s g (base s horizon locks)
started-base s g horizon locks e = record { node = refl; versions = refl; alone = e; others = λ h q. refl }

pub freed-base : (s : Seg) (g : Gxid) (wanted : Claim) → IsBase s g (freed s g wanted)
freed-base s g wanted =
    let free : Local = record (s.locals g.0) { suspended = None } in
    record { node = refl; versions = refl; alone = ap (λ q. (if q then free else s.locals g.0).suspended) (eqb-self g.0); others = λ h e. ap (λ q. if q then free else s.locals h) e }

-- which commands have still to run there once this one has stopped, with an answer or in a wait
abbrev pub stop_nexts : Seg → Gxid → Cid → Option Suspended → ℕ → ℕ
stop_nexts s g c o h = if eqb h g.0 then next_by o c.0 else next_command (s.locals h)

-- what it sends then
abbrev pub answer_out : Gxid → Option Reply → List Out
answer_out g None = []
answer_out g (Some r) = reply_out g r ∷ []

module _ (script : Script) (numbered : AreLinesNumbered [] script.lines) (ms : List Mark) (steps : List Step) (e : Event) (i : ℕ) (s : Seg) (kept : (h : ℕ) → IsAnswerOf script ms (next_command (s.locals h)) (at i) (gx h) (s.locals h).answer) where
  abbrev Moves : SegTurn → Type 0
  Moves turn = Move script ms steps e (at i) s turn

  -- IT WRITES NOTHING AND REPEATS
  module _ (votes : (h : ℕ) → IsVote (s.locals h).phase (s.locals h).vote) (turn : SegTurn) (q : Quiet s turn) where
    old-told : (g : Gxid) (r : Reply) → IsOldReply s g r → IsToldOf script (ms ++ turn.marks) (next_command (turn.seg.locals g.0)) (at i) g r
    old-told g (reply.Done c w n p) (inl o) =
        told-more script numbered ms turn.marks (next_command (s.locals g.0)) (next_command (turn.seg.locals g.0)) (at i) g (reply.Done c w n p) (q.nexts g.0) (subst (IsAnswerOf script ms (next_command (s.locals g.0)) (at i) g) o (kept g.0))
    old-told g (reply.Done c w n p) (inr o) = absurd (subst (IsVote (s.locals g.0).phase) o (votes g.0))
    old-told g (reply.Failed c x) (inl o) =
        told-more script numbered ms turn.marks (next_command (s.locals g.0)) (next_command (turn.seg.locals g.0)) (at i) g (reply.Failed c x) (q.nexts g.0) (subst (IsAnswerOf script ms (next_command (s.locals g.0)) (at i) g) o (kept g.0))
    old-told g (reply.Failed c x) (inr o) = absurd (subst (IsVote (s.locals g.0).phase) o (votes g.0))
    old-told g reply.Prepared o = tt
    old-told g reply.Committed o = tt
    old-told g reply.Jfault o = tt
    old-told g reply.Again o = tt
    old-told g reply.Restarted o = tt
    old-told g reply.Aborted o = tt
    old-told g reply.Forgotten o = tt

    old-out : (m : Message) → IsOldWord s m → IsOutOf script (ms ++ turn.marks) (λ h. next_command (turn.seg.locals h)) (at i) m
    old-out (message.Answer g r) o = old-told g r o
    old-out (message.Exec g c l x y z) o = tt
    old-out (message.Prepare g) o = tt
    old-out (message.Commit g) o = tt
    old-out (message.CommitPrepared g) o = tt
    old-out (message.Abort g) o = tt
    old-out (message.Forget g) o = tt
    old-out (message.Collect round) o = tt
    old-out (message.Graph round graph) o = tt
    old-out message.Up o = tt

    no-row-write : (m : Mark) → NoRow m → NoWrite m
    no-row-write (mark.Write g c n t r x) k = absurd k
    no-row-write (mark.Skip g c r) k = absurd k
    no-row-write m k = tt

    writes-none : Each NoWrite turn.marks
    writes-none = each_weaker NoRow NoWrite no-row-write turn.marks q.marks

    pub quiet-move : Moves turn
    quiet-move =
        record {
          nexts = q.nexts;
          homes = no-writes-home script ms ms turn.marks writes-none;
          past = each_weaker NoWrite (IsPastHere (λ h. next_command (turn.seg.locals h)) (at i)) (λ m n. no-write-here (λ h. next_command (turn.seg.locals h)) (at i) m n) turn.marks writes-none;
          kept = λ h. subst (IsAnswerOf script (ms ++ turn.marks) (next_command (turn.seg.locals h)) (at i) (gx h)) (sym (q.answers h)) (answer-more script numbered ms turn.marks (next_command (s.locals h)) (next_command (turn.seg.locals h)) (at i) (gx h) (s.locals h).answer (q.nexts h) (kept h));
          outs = each_weaker (λ (o : Out). IsOldWord s o.message) (λ (o : Out). IsOutOf script (ms ++ turn.marks) (λ h. next_command (turn.seg.locals h)) (at i) o.message) (λ o k. old-out o.message k) turn.outs q.outs;
          legal = λ later. no-writes-legal script steps e [] turn.marks later writes-none;
        }

  -- A SLICE STOPS
  -- it runs on a segment, behind marks that write nothing, up to its answer or a wait
  module _ (g : Gxid) (c : Cid) (fresh : next_command (s.locals g.0) ≤ c.0) (b : Seg) (on : IsBase s g b) (named : s.node ≡ at i) (lead : List Mark) (silent : Each NoWrite lead) where
    abbrev RowsSoFar : Option Suspended → Moved → Type 0
    RowsSoFar o m = SoFar script ms b g (stop_nexts s g c o) lead m

    nothing : (o : Option Suspended) → RowsSoFar o (starts_from b)
    nothing o = none-so-far script ms b g (stop_nexts s g c o) lead

    -- a mark that writes nothing
    marked : (o : Option Suspended) (t : Seg) (x : Mark) → IsStillAt b g t → NoWrite x → RowsSoFar o (record { seg = t; marks = x ∷ [] })
    marked o t x still none = marked-so-far script ms b g (stop_nexts s g c o) lead (starts_from b) t x (nothing o) still (no-write-follows script ms b g (stop_nexts s g c o) lead (starts_from b) x none)

    -- the marks of its turn are legal, whatever comes behind them
    abbrev pub AreLegal : List Mark → Type 0
    AreLegal xs = (later : List Mark) → EachMark (WriteLegal script) steps e [] (lead ++ xs) later

    silent-legal : (xs : List Mark) → Each NoWrite xs → AreLegal xs
    silent-legal xs none later = no-writes-legal script steps e [] (lead ++ xs) later (each_append NoWrite lead xs silent none)

    module _ (m : Moved) (y : Local) (r : Option Reply) (o : Option Suspended) (last : y.last ≡ c.0) (answer : y.answer ≡ r) (waits : y.suspended ≡ o) (rows : RowsSoFar o m) (told : IsAnswerOf script (ms ++ (lead ++ m.marks)) (next_by o c.0) (at i) g r) (legal : AreLegal m.marks) where
      abbrev turn : SegTurn
      turn = after_marks lead (record { seg = with_local m.seg g y; marks = m.marks; outs = answer_out g r; item = None })

      abbrev nexts : ℕ → ℕ
      nexts h = next_command (turn.seg.locals h)

      here : turn.seg.locals g.0 ≡ y
      here = ap (λ q. if q then y else m.seg.locals g.0) (eqb-self g.0)

      others : (h : ℕ) → eqb h g.0 ≡ false → turn.seg.locals h ≡ s.locals h
      others h q = ap (λ z. if z then y else m.seg.locals h) q ∙ rows.still.others h q ∙ on.others h q

      next-here : nexts g.0 ≡ next_by o c.0
      next-here = ap next_command here ∙ ap (λ z. next_by z y.last) waits ∙ ap (next_by o) last

      -- what holds of it and of the others holds of all
      all : (R : ℕ → Type 0) → R g.0 → ((h : ℕ) → eqb h g.0 ≡ false → R h) → (h : ℕ) → R h
      all R own rest h = by_test (eqb h g.0) refl
        where
          by_test : (q : Bool) → eqb h g.0 ≡ q → R h
          by_test true q = subst R (sym (eqb-true h g.0 q)) own
          by_test false q = rest h q

      nexts-are : (h : ℕ) → stop_nexts s g c o h ≡ nexts h
      nexts-are =
          all (λ h. stop_nexts s g c o h ≡ nexts h) (ap (λ q. if q then next_by o c.0 else next_command (s.locals g.0)) (eqb-self g.0) ∙ sym next-here)
          (λ h q. ap (λ z. if z then next_by o c.0 else next_command (s.locals h)) q ∙ sym (ap next_command (others h q)))

      nexts-rise : (h : ℕ) → next_command (s.locals h) ≤ nexts h
      nexts-rise = all (λ h. next_command (s.locals h) ≤ nexts h) (le-next fresh (next-above o c.0) next-here) (λ h q. same-le (ap next_command (others h q)))

      kept-now : (h : ℕ) → IsAnswerOf script (ms ++ turn.marks) (nexts h) (at i) (gx h) (turn.seg.locals h).answer
      kept-now =
          all (λ h. IsAnswerOf script (ms ++ turn.marks) (nexts h) (at i) (gx h) (turn.seg.locals h).answer)
          (subst (IsAnswerOf script (ms ++ turn.marks) (nexts g.0) (at i) g) (sym (ap (λ (l : Local). l.answer) here ∙ answer)) (subst (λ n. IsAnswerOf script (ms ++ turn.marks) n (at i) g r) (sym next-here) told))
          (λ h q.
          subst (λ (l : Local). IsAnswerOf script (ms ++ turn.marks) (next_command l) (at i) (gx h) l.answer) (sym (others h q))
          (answer-more script numbered ms turn.marks (next_command (s.locals h)) (next_command (s.locals h)) (at i) (gx h) (s.locals h).answer (same-le refl) (kept h)))

      outs-now : (a : Option Reply) → IsAnswerOf script (ms ++ turn.marks) (nexts g.0) (at i) g a → Each (λ (x : Out). IsOutOf script (ms ++ turn.marks) nexts (at i) x.message) (answer_out g a)
      outs-now None d = tt
      outs-now (Some a) d = (d, tt)

      past-now : (x : Mark) → IsPastHere (stop_nexts s g c o) b.node x → IsPastHere nexts (at i) x
      past-now (mark.Write h d n t x z) p = (p.0 ∙ on.node ∙ named, subst (λ k. x.cid.0 < k) (nexts-are x.gxid.0) p.1)
      past-now x p = tt

      pub stopped-move : Moves (after_marks lead (record { seg = with_local m.seg g y; marks = m.marks; outs = answer_out g r; item = None }))
      stopped-move =
          record {
            nexts = nexts-rise;
            homes = homes-append script ms ms lead m.marks (no-writes-home script ms ms lead silent) rows.homes;
            past = each_append (IsPastHere nexts (at i)) lead m.marks (each_weaker NoWrite (IsPastHere nexts (at i)) (no-write-here nexts (at i)) lead silent) (each_weaker (IsPastHere (stop_nexts s g c o) b.node) (IsPastHere nexts (at i)) past-now m.marks rows.past);
            kept = kept-now;
            outs = outs-now r (subst (λ n. IsAnswerOf script (ms ++ turn.marks) n (at i) g r) (sym next-here) told);
            legal = legal;
          }

    -- with an answer
    pub answered-move : (m : Moved) → RowsSoFar None m → AreLegal m.marks → (r : Reply) → IsToldOf script (ms ++ (lead ++ m.marks)) (c.0 + 1) (at i) g r → Moves (after_marks lead (answers m.seg g c m.marks r))
    answered-move m rows legal r told = stopped-move m (record (local_of m.seg g) { last = c.0; answer = Some r }) (Some r) None refl refl (rows.still.suspended ∙ on.alone) rows told legal

    -- a SELECT
    pub select-move : (level : Level) (snapshot : Option Snapshot) (query : Query) → IsOrder script ms (at i) g c level snapshot (slice.Select query) → (rows : List KeyedRow) (f : Option (KeyedRow × ArithFault)) → Moves (after_marks lead (selects b g c query rows f))
    select-move level snapshot query order rows None =
        answered-move (starts_from b) (nothing None) (silent-legal [] tt) _
        (lt-next refl, record { level = level; snapshot = snapshot; slice = slice.Select query; order = order-later script numbered ms _ (at i) g c level snapshot (slice.Select query) order; done = tt })
    select-move level snapshot query order rows (Some f) =
        answered-move (record { seg = b; marks = mark.Fault g c f.0.rid (Some f.0.row) ∷ [] }) (marked None b _ (still-itself b g) tt) (silent-legal (mark.Fault g c f.0.rid (Some f.0.row) ∷ []) (tt, tt)) _
        (lt-next refl, record { level = level; snapshot = snapshot; slice = slice.Select query; order = order-later script numbered ms _ (at i) g c level snapshot (slice.Select query) order; kind = refl })

    -- a LOCK TABLE
    pub lock-move : (level : Level) (snapshot : Option Snapshot) (table : Table) (mode : Mode) → IsOrder script ms (at i) g c level snapshot (slice.Lock table mode) → Moves (after_marks lead (locks_only b g c))
    lock-move level snapshot table mode order =
        answered-move (starts_from b) (nothing None) (silent-legal [] tt) _
        (lt-next refl, record { level = level; snapshot = snapshot; slice = slice.Lock table mode; order = order-later script numbered ms _ (at i) g c level snapshot (slice.Lock table mode) order; done = tt })

  -- or in a wait for its table's lock
  pub waited-move : s.node ≡ at i → (m : Message) (turn : SegTurn) → Waited script s m turn → Moves turn
  waited-move named m turn x =
      subst Moves (sym x.ran)
      (stopped-move x.g x.c fresh (raised s x.horizon) on named [] tt (record { seg = waiting; marks = wait_mark s.node x.wanted ∷ [] }) now None (Some slice-waits) refl refl refl
      (marked x.g x.c fresh (raised s x.horizon) on named [] tt (Some slice-waits) waiting (wait_mark s.node x.wanted) (still-locked (raised s x.horizon) x.g (raised s x.horizon) _ (still-itself (raised s x.horizon) x.g)) tt) tt
      (silent-legal x.g x.c fresh (raised s x.horizon) on named [] tt (wait_mark s.node x.wanted ∷ []) (tt, tt)))
    where
      fresh : next_command (s.locals x.g.0) ≤ x.c.0
      fresh = new-next (s.locals x.g.0) x.c.0 x.alone x.fresh

      on : IsBase s x.g (raised s x.horizon)
      on = record { node = refl; versions = refl; alone = x.alone; others = λ h q. refl }

      slice-waits : Suspended
      slice-waits = suspended_slice x.c x.level x.snapshot x.slice

      now : Local
      now = record (s.locals x.g.0) { last = x.c.0; answer = None; suspended = Some slice-waits }

      waiting : Seg
      waiting = record (raised s x.horizon) { locks = with_wait s.locks x.wanted }

-- AN UPDATE OR DELETE
-- what is known of its slice
pub change-done : (ms : List Mark) (k : Change) → change_of k.cid k.level (Some k.snapshot) k.slice ≡ Some k → (count : ℕ) → IsDoneSlice ms k.slice count
change-done ms k e count = by_slice k.slice e
  where
    by_slice : (x : Slice) → change_of k.cid k.level (Some k.snapshot) x ≡ Some k → IsDoneSlice ms x count
    by_slice (slice.Update t a d) e = tt
    by_slice (slice.Delete t d) e = tt
    by_slice (slice.Select q) e = absurd (cc)
    by_slice (slice.Insert t rows) e = absurd (cc)
    by_slice (slice.Lock t m) e = absurd (cc)

pub change-fails : (k : Change) → change_of k.cid k.level (Some k.snapshot) k.slice ≡ Some k → may_fail k.slice ≡ true
change-fails k e = by_slice k.slice e
  where
    by_slice : (x : Slice) → change_of k.cid k.level (Some k.snapshot) x ≡ Some k → may_fail x ≡ true
    by_slice (slice.Update t a d) e = refl
    by_slice (slice.Delete t d) e = refl
    by_slice (slice.Select q) e = absurd (cc)
    by_slice (slice.Insert t rows) e = absurd (cc)
    by_slice (slice.Lock t m) e = absurd (cc)

module _ (script : Script) (numbered : AreLinesNumbered [] script.lines) (ms : List Mark) (steps : List Step) (e : Event) (i : ℕ) (s : Seg) (kept : (h : ℕ) → IsAnswerOf script ms (next_command (s.locals h)) (at i) (gx h) (s.locals h).answer) (named : s.node ≡ at i)
    (g : Gxid) (k : Change) (changes : change_of k.cid k.level (Some k.snapshot) k.slice ≡ Some k) (order : IsOrder script ms (at i) g k.cid k.level (Some k.snapshot) k.slice) (fresh : next_command (s.locals g.0) ≤ k.cid.0) (b : Seg) (on : IsBase s g b) (lead : List Mark)
    (silent : Each NoWrite lead) where
  abbrev pub old : ℕ → ℕ
  old h = next_command (s.locals h)

  pub its-line : stmt_of_command script ms g k.cid ≡ Some (stmt_of_change k)
  its-line = order.of ∙ ap (λ line. Some line) (change-line k.cid k.level (Some k.snapshot) k.slice k changes order.line (order-slice script ms (at i) g k.cid k.level (Some k.snapshot) k.slice order))

  abbrev pub ChangedHere : Moved → Type 0
  ChangedHere m = ChangedSoFar script ms (at i) old g k its-line b (on.node ∙ named) lead m

  abbrev pub IsLegalTurn : List Mark → Type 0
  IsLegalTurn xs = (later : List Mark) → EachMark (WriteLegal script) steps e [] (lead ++ xs) later

  -- a turn with legal marks, behind the first ones
  abbrev pub MovesIf : SegTurn → Type 0
  MovesIf turn = IsLegalTurn turn.marks → Move script ms steps e (at i) s (after_marks lead turn)

  later-nexts : (o : Option Suspended) (h : ℕ) → old h ≤ stop_nexts s g k.cid o h
  later-nexts o h = by_test (eqb h g.0) refl
    where
      le-trans : {a b c : ℕ} → a ≤ b → b ≤ c → a ≤ c
      le-trans x y = omega arith

      by_test : (q : Bool) → eqb h g.0 ≡ q → old h ≤ (if q then next_by o k.cid.0 else old h)
      by_test true q = le-trans (subst (λ j. old j ≤ k.cid.0) (sym (eqb-true h g.0 q)) fresh) (next-above o k.cid.0)
      by_test false q = same-le refl

  at-stop : (o : Option Suspended) (m : Moved) → SoFar script ms b g old lead m → SoFar script ms b g (stop_nexts s g k.cid o) lead m
  at-stop o m f = so-far-later script ms b g old (stop_nexts s g k.cid o) lead (later-nexts o) m f

  order-now : (xs : List Mark) → IsOrder script (ms ++ xs) (at i) g k.cid k.level (Some k.snapshot) k.slice
  order-now xs = order-later script numbered ms xs (at i) g k.cid k.level (Some k.snapshot) k.slice order

  done-move : (m : Moved) (count : ℕ) → ChangedHere m → MovesIf (is_done m g k.cid count)
  done-move m count f legal =
      answered-move script numbered ms steps e i s kept g k.cid fresh b on named lead silent m (at-stop None m f.rows) legal _ (
        lt-next refl,
        record { level = k.level; snapshot = Some k.snapshot; slice = k.slice; order = order-now (lead ++ m.marks); done = change-done (ms ++ (lead ++ m.marks)) k changes count },
      )

  failed-move : (m : Moved) (cause : Cause) → SoFar script ms b g old lead m → MovesIf (answers m.seg g k.cid m.marks (reply.Failed k.cid cause))
  failed-move m cause f legal =
      answered-move script numbered ms steps e i s kept g k.cid fresh b on named lead silent m (at-stop None m f) legal _
      (lt-next refl, record { level = k.level; snapshot = Some k.snapshot; slice = k.slice; order = order-now (lead ++ m.marks); kind = change-fails k changes })

  halted-move : (m : Moved) (wanted : Claim) (x : Suspended) → SoFar script ms b g old lead m → MovesIf (suspends_at (waits wanted m).moved g k x)
  halted-move m wanted x f legal =
      stopped-move script numbered ms steps e i s kept g k.cid fresh b on named lead silent waiting (record (local_of waiting.seg g) { last = k.cid.0; answer = None; suspended = Some x }) None (Some x) refl refl refl
      (at-stop (Some x) waiting
      (marked-so-far script ms b g old lead m waiting.seg (wait_mark m.seg.node wanted) f (still-locked b g m.seg _ f.still) (no-write-follows script ms b g old lead m (wait_mark m.seg.node wanted) tt)))
      tt legal
    where
      waiting : Moved
      waiting = (waits wanted m).moved

  halts : (m : Moved) (rid : Rid) (rest : List Rid) (count : ℕ) (t : RowTurn) (stop : DidStop m g k rid t) → ChangedHere m → MovesIf (suspends_at stop.stopped g k (suspended_at k rid rest count))
  halts m rid rest count t stop f =
      let it = stop-keeps g k ChangedHere (rows-kept script ms (at i) old g k its-line b (on.node ∙ named) lead) m rid t stop f in
      subst (λ (n : Moved). MovesIf (suspends_at n g k (suspended_at k rid rest count))) it.is (halted-move it.before it.wanted (suspended_at k rid rest count) it.kept.rows)

  ends-so : Ends g k ChangedHere MovesIf
  ends-so = record { done = done-move; stopped = halts; failed = λ m cause f. failed-move m cause f.rows }

  fault-move : (f : KeyedRow × ArithFault) → MovesIf (fails_on b g k.cid f)
  fault-move f = failed-move (noted (starts_from b) (mark.Fault g k.cid f.0.rid (Some f.0.row))) (cause_of f.1)
      (marked-so-far script ms b g old lead (starts_from b) b (mark.Fault g k.cid f.0.rid (Some f.0.row)) (none-so-far script ms b g old lead) (still-itself b g) (record { home = tt; past = tt }))

  -- from the start
  module _ (homes : Each (IsHomeVersion script ms (at i) old ms) s.versions) where
    begun : ChangedHere (starts_from b)
    begun = none-changed script ms (at i) old g k its-line b (on.node ∙ named) lead (subst (Each (IsHomeVersion script ms (at i) old ms)) (sym on.versions) homes)

    pub change-move : MovesIf (changes_rows b g (Some k))
    change-move = rows-change g k ChangedHere MovesIf (rows-kept script ms (at i) old g k its-line b (on.node ∙ named) lead) ends-so b begun fault-move

    -- from a row on, behind marks of locks
    pub rows-move : (m : Moved) → (ChangedHere (starts_from b) → ChangedHere m) → (rids : List Rid) (count : ℕ) → MovesIf (goes_through g k rids m count)
    rows-move m so rids count = loop-keeps g k ChangedHere MovesIf (rows-kept script ms (at i) old g k its-line b (on.node ∙ named) lead) ends-so rids m count (so begun)

-- an INSERT's rows have the command's identity
pub own-rows : (script : Script) (ms : List Mark) (node : Node) (g : Gxid) (c : Cid) (table : Table) (rows : List KeyedRow) → IsRowPiece script ms node g c table rows → Each (IsOwnRow g c) rows
own-rows script ms node g c table rows piece =
    each_weaker (IsPlacedRow script g c node table piece.tuples) (IsOwnRow g c) (λ r p. p.row_is.own) rows
    (piece-rows script g c node table piece.tuples piece.all rows (rows-are g c 1 piece.tuples piece.all piece.planned) piece.here).0

module _ (script : Script) (numbered : AreLinesNumbered [] script.lines) (w : World) (e : Event) (quiet : (s : SessionId) → starts_by s e ≡ 0) (i : ℕ) (s : Seg) (named : s.node ≡ at i) (kept : (h : ℕ) → IsAnswerOf script (marks_in w.steps) (next_command (s.locals h)) (at i) (gx h) (s.locals h).answer) (nexts : ℕ → ℕ → ℕ) (here : (h : ℕ) → nexts i h ≡ next_command (s.locals h)) (placed : Each (IsPlacedMark script (marks_in w.steps)) (marks_in w.steps)) (past : Each (IsPastMark nexts) (marks_in w.steps)) where
  abbrev ms : List Mark
  ms = marks_in w.steps

  module _ (g : Gxid) (c : Cid) (level : Level) (snapshot : Option Snapshot) (table : Table) (rows : List KeyedRow) (order : IsOrder script ms (at i) g c level snapshot (slice.Insert table rows)) where
    pub piece : IsRowPiece script ms (at i) g c table rows
    piece = row-piece script ms (at i) g c level snapshot table rows order

    pub line-of : order.line ≡ stmt.Insert table piece.tuples
    line-of = some-same order.line (stmt.Insert table piece.tuples) (sym order.of ∙ piece.of)

    -- the command is under way, or its transaction has aborted
    abbrev pub How : Type 0
    How = Live script w g.0 c (stmt.Insert table piece.tuples) level ⊎ Late script w g.0 c

    rows-ok : Each (IsPlacedRow script g c (at i) table piece.tuples) rows × Rattle.gx_law_writes.proofs.Placed.Rising 1 rows
    rows-ok = piece-rows script g c (at i) table piece.tuples piece.all rows (rows-are g c 1 piece.tuples piece.all piece.planned) piece.here

    module _ (fresh : next_command (s.locals g.0) ≤ c.0) (b : Seg) (on : IsBase s g b) (lead : List Mark) (silent : Each NoWrite lead) (behind : Behind g c 1 lead) where
      still-to-run : (rid : Rid) → (rid.gxid ≡ g) × (rid.cid ≡ c) → nexts i rid.gxid.0 ≤ rid.cid.0
      still-to-run rid own = subst (λ (h : Gxid). nexts i h.0 ≤ rid.cid.0) (sym own.0) (subst (λ (d : Cid). nexts i g.0 ≤ d.0) (sym own.1) (subst (λ n. n ≤ c.0) (sym (here g.0)) fresh))

      -- no row of it is written yet
      unwritten : (row : KeyedRow) → IsPlacedRow script g c (at i) table piece.tuples row → is_written ms row.rid ≡ false
      unwritten row p = fresh-row script ms nexts (at i) table row.rid (Some row.row) (row-placed script ms g c (at i) table piece.tuples row piece.of p) (still-to-run row.rid p.row_is.own) ms placed past

      abbrev InsertedSoFar : Moved → Type 0
      InsertedSoFar m = SoFar script ms b g (stop_nexts s g c None) lead m × IsLegalSoFar script w.steps e lead m

      has-run : (rid : Rid) → (rid.gxid ≡ g) × (rid.cid ≡ c) → rid.cid.0 < stop_nexts s g c None rid.gxid.0
      has-run rid own = subst (λ (h : Gxid). rid.cid.0 < stop_nexts s g c None h.0) (sym own.0) (subst (λ (d : Cid). d.0 < stop_nexts s g c None g.0) (sym own.1) (lt-next (ap (λ q. if q then c.0 + 1 else next_command (s.locals g.0)) (eqb-self g.0))))

      -- one of its rows may follow
      row-follows : (m : Moved) (row : KeyedRow) → InsertedSoFar m → IsPlacedRow script g c (at i) table piece.tuples row → MayFollow script ms b g (stop_nexts s g c None) lead m (mark.Write g c m.seg.node table row.rid (Some row.row))
      row-follows m row f p =
          subst (λ n. MayFollow script ms b g (stop_nexts s g c None) lead m (mark.Write g c n table row.rid (Some row.row))) (sym (f.0.still.node ∙ on.node ∙ named))
          (record { home = row-home script ms g c (at i) table piece.tuples piece.of ((ms ++ lead) ++ m.marks) row p; past = (sym (on.node ∙ named), has-run row.rid p.row_is.own) })

      row-fits : How → (k : ℕ) (m : Moved) (row : KeyedRow) → InsertedSoFar m → Behind g c k (lead ++ m.marks) → IsPlacedRow script g c (at i) table piece.tuples row → k ≤ row.rid.ordinal
          → (later : List Mark) → WriteLegal script (record { steps = w.steps; event = e; earlier = lead ++ m.marks; later = later }) (mark.Write g c m.seg.node table row.rid (Some row.row))
      row-fits how k m row f before p l later =
          subst (λ n. WriteLegal script (record { steps = w.steps; event = e; earlier = lead ++ m.marks; later = later }) (mark.Write g c n table row.rid (Some row.row))) (sym (f.0.still.node ∙ on.node ∙ named))
          (row-legal script numbered w g.0 c (at i) table piece.tuples level e quiet piece.of how (lead ++ m.marks) later k row p before l (unwritten row p))

      rows-follow : How → (rows : List KeyedRow) (k : ℕ) (m : Moved) → Each (IsPlacedRow script g c (at i) table piece.tuples) rows → Rising k rows → InsertedSoFar m → Behind g c k (lead ++ m.marks) → InsertedSoFar (fold (inserts_row g c table) m rows)
      rows-follow how [] k m p o f before = f
      rows-follow how (r ∷ rs) k m p o f before =
          rows-follow how rs (r.rid.ordinal + 1) (inserts_row g c table m r) p.1 o.1 (
            wrote-so-far script ms b g (stop_nexts s g c None) lead c table m r.rid (Some r.row) f.0 (row-follows m r f p.0),
            legal-wrote script w.steps e lead g c table m r.rid (Some r.row) f.1 (row-fits how k m r f before p.0 o.0),
          )
          (behind-wrote g c k lead table m r before o.0)

      pub insert-move : How → Move script ms w.steps e (at i) s (after_marks lead (inserts g c (length rows) (inserted b g c table rows)))
      insert-move how =
          let f = rows-follow how rows 1 (starts_from b) rows-ok.0 rows-ok.1 (none-so-far script ms b g (stop_nexts s g c None) lead, λ later. tt) (subst (Behind g c 1) (sym (append-nil lead)) behind) in
          answered-move script numbered ms w.steps e i s kept g c fresh b on named lead silent m f.0
          (λ later. marks-append (WriteLegal script) w.steps e [] lead m.marks later (no-writes-legal script w.steps e [] lead (m.marks ++ later) silent) (f.1 later)) _ (
            lt-next refl,
            record {
              level = level;
              snapshot = snapshot;
              slice = slice.Insert table rows;
              order = order-later script numbered ms (lead ++ m.marks) (at i) g c level snapshot (slice.Insert table rows) order;
              done = (refl, written);
            },
          )
        where
          m : Moved
          m = inserted b g c table rows

          written : Each (IsWritten (ms ++ (lead ++ m.marks))) rows
          written = subst (λ ns. Each (IsWritten ns) rows) (append_assoc ms lead m.marks) (inserted-written (ms ++ lead) b g c table rows (own-rows script ms (at i) g c table rows piece))
