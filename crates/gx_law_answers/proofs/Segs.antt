-- The marks of a segment's step may stand there.
use Rattle.std.proofs.Common.{◌≡◌, ◌≤◌, ◌⊎◌, inl, inr, ℕ, List, [], ◌∷◌, ◌++◌, Option, Some, None, Bool, true, false, refl, sym, subst, ap, ◌∙◌, arith, append_assoc, append-nil, ◌||◌}
use Rattle.gx_lemmas.proofs.Options.{some-same}
use Rattle.gx_ids.specs.declared.ids.Gxid.{Gxid}
use Rattle.gx_ids.specs.declared.ids.Node.{Node}
use Rattle.gx_ids.specs.declared.ids.SessionId.{SessionId}
use Rattle.gx_tree.specs.declared.query.Query.{Query}
use Rattle.gx_tree.specs.declared.row.KeyedRow.{KeyedRow}
use Rattle.gx_tree.specs.declared.slice.Slice.{Slice}
use Rattle.gx_tree.specs.declared.slice.Slice.TheVariants as slice
use Rattle.gx_dsnap.specs.declared.snapshot.Snapshot.{Snapshot}
use Rattle.gx_tree.specs.declared.stmt.Stmt.TheVariants as stmt
use Rattle.gx_meaning.specs.declared.fault.ArithFault.{ArithFault}
use Rattle.gx_msg.specs.declared.message.Envelope.{Envelope}
use Rattle.gx_script.specs.declared.Script.{Script}
use Rattle.gx_store.specs.declared.event.Event.{Event}
use Rattle.gx_store.specs.declared.event.Event.TheVariants as event
use Rattle.gx_store.specs.declared.mark.Mark.{Mark}
use Rattle.gx_store.specs.declared.mark.Mark.TheVariants as mark
use Rattle.gx_store.specs.declared.node.NodeEvent.{NodeEvent}
use Rattle.gx_store.specs.declared.node.NodeEvent.TheVariants as here
use Rattle.gx_store.specs.declared.run.Step.{Step}
use Rattle.gx_store.specs.Commands.{IsUnderWay}
use Rattle.gx_store.specs.Faults.{IsFaultOf, LegalFault}
use Rattle.gx_store.specs.Marks.{is_aborted}
use Rattle.gx_store.specs.Ordered.{IsSegment}
use Rattle.gx_store.specs.Points.{Point, marks_in, starts_by}
use Rattle.gx_store.specs.Refusals.{the_coordinator}
use Rattle.gx_rules.specs.AtSegment.{on_event, raised, seg_rule}
use Rattle.gx_rules.specs.Machine.{World, delivered, found, world_of, seg_can}
use Rattle.gx_rules.specs.Changes.{change_of}
use Rattle.gx_rules.specs.Locks.{hold_mark}
use Rattle.gx_rules.specs.Segments.{Seg, SegTurn, after_marks}
use Rattle.gx_rules.specs.Sending.{numbered}
use Rattle.gx_rules.specs.Shown.{shown}
use Rattle.gx_rules.specs.Slices.{adds, first_fault, selects}
use Rattle.gx_law_order.proofs.AtSegments.{PlainAt, seg_stays}
use Rattle.gx_law_order.specs.Lists.{Each}
use Rattle.gx_law_order.specs.Scanned.{stmt_of_command}
use Rattle.gx_law_order.specs.Alive.{HasAnswered, IsHeard, IsUnderWayBehind, WasUnderWay}
use Rattle.gx_law_order.specs.Finish.{AreSegmentsLegal}
use Rattle.gx_store.specs.Language.{AreLinesNumbered}
use Rattle.gx_law_order.specs.Rest.{EachMark, Rest, UnlessStart, is_going_out, unless}
use Rattle.gx_law_order.proofs.Given.{marks-append, sent-rest}
use Rattle.gx_law_order.proofs.Whole.{world-both}
use Rattle.gx_law_writes.specs.Changes.{FaultLegal}
use Rattle.gx_law_writes.specs.Writes.{AreWritesLegal, WriteLegal}
use Rattle.gx_law_writes.proofs.Rows.{inserted-no-fault}
use Rattle.gx_law_writes.proofs.Told.{take-get}
use Rattle.gx_law_writes.proofs.Turns.{NoFault, base, row-no-fault}
use Rattle.gx_law_writes.proofs.World as writes
use Rattle.gx_store.proofs.Marks.{is_aborted-append}
use Rattle.gx_law_answers.specs.Earned.{Events}
use Rattle.gx_law_answers.proofs.Running.{Doings, IsLate, Runs, snapshot-of}
use Rattle.gx_law_answers.proofs.Arrivals.{message-does, received-late}
use Rattle.gx_law_answers.proofs.Resumptions.{resumed-late, resumption-does}
use Rattle.gx_law_answers.proofs.Origins.{rows-part, select-is, select-order, select-ran, snapshot-at}
use Rattle.gx_law_answers.proofs.Truths.{part-more, seen-fault, snapshot-more}

-- ---- lists of marks
front : (P : Point → Mark → Type 0) (steps : List Step) (e : Event) (earlier xs ys later : List Mark) → EachMark P steps e earlier (xs ++ ys) later → EachMark P steps e earlier xs (ys ++ later)
front P steps e earlier [] ys later h = tt
front P steps e earlier (x ∷ xs) ys later h =
    (subst (λ b. P (record { steps = steps; event = e; earlier = earlier; later = b }) x) (append_assoc xs ys later) h.0, front P steps e (earlier ++ x ∷ []) xs ys later h.1)

last-legal : (script : Script) (before ss : List Step) (s : Step) → AreWritesLegal script before (ss ++ s ∷ []) → EachMark (WriteLegal script) (before ++ ss) s.event [] s.marks []
last-legal script before [] s h = subst (λ b. EachMark (WriteLegal script) b s.event [] s.marks []) (sym (append-nil before)) h.0
last-legal script before (x ∷ ss) s h = subst (λ b. EachMark (WriteLegal script) b s.event [] s.marks []) (append_assoc before (x ∷ []) ss) (last-legal script (before ++ x ∷ []) ss s h.1)

-- a fault that may stand there may stand in any event
unless-not : (e : Event) (A : Type 0) → A → UnlessStart e A
unless-not e A a = by_test (is_going_out e)
  where
    by_test : (b : Bool) → unless b A
    by_test true = tt
    by_test false = a

module _ (script : Script) (steps : List Step) (to : Node) (e : Event) (one : 1 ≤ to.0) where
  no-coordinator : to ≡ the_coordinator → ⊥
  no-coordinator q = zero-one to.0 one (ap (λ (n : Node). n.0) q)
    where
      zero-one : (n : ℕ) → 1 ≤ n → n ≡ 0 → ⊥
      zero-one n l z = omega (arith, l, z)

  one-rest : (point : Point) (m : Mark) → WriteLegal script point m → FaultLegal script point m → PlainAt script to m → Rest script point m
  one-rest point (mark.Write g c n t r x) a b p = a
  one-rest point (mark.Skip g c r) a b p = a
  one-rest point (mark.Fault g c r x) a b p = unless-not point.event (LegalFault script point g c r x) b
  one-rest point (mark.Answer s n a') a b p = absurd (no-coordinator p)
  one-rest point (mark.Recheck x y z) a b p = absurd (no-coordinator p)
  one-rest point (mark.Start a' t) a b p = tt
  one-rest point (mark.Snap a' d x) a b p = tt
  one-rest point (mark.Commit a') a b p = tt
  one-rest point (mark.Abort a') a b p = tt
  one-rest point (mark.Hold n a' x m) a b p = tt
  one-rest point (mark.Wait n a' x m) a b p = tt
  one-rest point (mark.Release n a' x m) a b p = tt
  one-rest point (mark.Prepared n a') a b p = tt
  one-rest point (mark.LocalCommit n a') a b p = tt
  one-rest point (mark.Decided a') a b p = tt
  one-rest point (mark.JournalFailed n a') a b p = tt
  one-rest point (mark.Restart n) a b p = tt
  one-rest point (mark.Sent a' c d) a b p = tt
  one-rest point (mark.Report n x y) a b p = tt

  all-rest : (earlier xs later : List Mark) → EachMark (WriteLegal script) steps e earlier xs later → EachMark (FaultLegal script) steps e earlier xs later → Each (PlainAt script to) xs → EachMark (Rest script) steps e earlier xs later
  all-rest earlier [] later a b p = tt
  all-rest earlier (x ∷ xs) later a b p = (one-rest (record { steps = steps; event = e; earlier = earlier; later = xs ++ later }) x a.0 b.0 p.0, all-rest (earlier ++ x ∷ []) xs later a.1 b.1 p.1)

  no-faults : (earlier xs later : List Mark) → Each NoFault xs → EachMark (FaultLegal script) steps e earlier xs later
  no-faults earlier [] later h = tt
  no-faults earlier (mark.Fault g c r x ∷ xs) later h = absurd h.0
  no-faults earlier (m ∷ xs) later h = (tt, no-faults (earlier ++ m ∷ []) xs later h.1)

-- ---- a segment's step
module _ (script : Script) (some : 1 ≤ script.segments) (numbered_lines : AreLinesNumbered [] script.lines) (es : Events) where
  abbrev w : World
  w = world_of script es

  abbrev ms : List Mark
  ms = marks_in (world_of script es).steps

  module _ (to : Node) (e : Event) (fails : Bool) (x : NodeEvent) (place : IsSegment script to) (is-late : IsLate script es to e fails x) (starts : (k : SessionId) → starts_by k e ≡ 0) (does-it : Doings script es to e fails x) where
    abbrev s : Seg
    s = (world_of script es).segs to.0

    abbrev turn : SegTurn
    turn = on_event script ((world_of script es).segs to.0) x fails

    module _ (query : Query) (z : Runs script es to e fails x (slice.Select query)) (v : Snapshot) (has_it : z.snapshot ≡ Some v) where
      abbrev rows : List KeyedRow
      rows = shown (raised z.like z.horizon) v z.g z.c query.table

      the-line : stmt_of_command script ms z.g z.c ≡ Some (stmt.Select query)
      the-line = (select-order script some numbered_lines es to e fails x place is-late query z v has_it).of ∙ ap Some (select-is script some numbered_lines es to e fails x place is-late query z v has_it)

      abbrev hold : Mark
      hold = hold_mark s.node z.wanted

      -- no answer of its command was received
      unheard : HasAnswered (IsHeard (world_of script es).steps) to z.g z.c → ⊥
      unheard h =
          z.untold the_coordinator h.1.1.1.is.number h.0 h.1.0 h.1.1.0
          (record {
            step = h.1.1.1.is.sent.step;
            mark = h.1.1.1.is.sent.mark;
            sending = record {
              sender = h.1.1.1.is.sent.sending.sender;
              at = take-get h.1.1.1.place (world_of script es).steps h.1.1.1.is.sent.step h.1.1.1.is.sent.sending.sender h.1.1.1.is.sent.sending.at;
              node = h.1.1.1.is.sent.sending.node;
              sent = h.1.1.1.is.sent.sending.sent;
            };
          })

      fault-legal : (fault : KeyedRow × ArithFault) (later : List Mark) → first_fault query.cond rows ≡ Some fault → LegalFault script (record { steps = (world_of script es).steps; event = e; earlier = hold ∷ []; later = later }) z.g z.c fault.0.rid (Some fault.0.row)
      fault-legal fault later q = by_abort (is_aborted ms z.g) refl z.came.alive
        where
          or-none : (a b : Bool) → a ≡ b → (a || false) ≡ b
          or-none a b e = grind arith

          aborted-still : (b : Bool) → is_aborted ms z.g ≡ b → is_aborted (ms ++ hold ∷ []) z.g ≡ b
          aborted-still b e = is_aborted-append ms (hold ∷ []) z.g ∙ or-none (is_aborted ms z.g) b e

          late : is_aborted ms z.g ≡ true → LegalFault script (record { steps = (world_of script es).steps; event = e; earlier = hold ∷ []; later = later }) z.g z.c fault.0.rid (Some fault.0.row)
          late a =
              inr (record {
                stmt = stmt.Select query;
                late = record {
                  aborted = aborted-still true a;
                  early = was.point;
                  earlier = inl was.among;
                  session = was.session;
                  level = was.level;
                  ran = subst (λ q. IsUnderWay script was.point was.session q was.level z.g z.c) (some-same was.line (stmt.Select query) (sym (was.of numbered_lines) ∙ the-line)) was.ran;
                };
                kind = refl;
              })
            where
              was : WasUnderWay script (world_of script es).steps z.g z.c
              was = z.came.was

          by_abort : (b : Bool) → is_aborted ms z.g ≡ b → IsUnderWayBehind script (world_of script es).steps z.level z.g z.c ⊎ HasAnswered (IsHeard (world_of script es).steps) to z.g z.c ⊎ (is_aborted ms z.g ≡ true) → LegalFault script (record { steps = (world_of script es).steps; event = e; earlier = hold ∷ []; later = later }) z.g z.c fault.0.rid (Some fault.0.row)
          by_abort true a k = late a
          by_abort false a (inr (inr k)) = late k
          by_abort false a (inr (inl k)) = absurd (unheard k)
          by_abort false a (inl u) =
              inl (record {
                session = u.session;
                stmt = u.line;
                level = z.level;
                fault = fault.1;
                runs = u.runs e (hold ∷ []) later (starts u.session) (tt, tt);
                faults = let taken = snapshot-at script some numbered_lines es to e fails x place is-late query z v has_it in
                    subst (λ l. IsFaultOf (ms ++ hold ∷ []) z.level z.g z.c l fault.0.rid (Some fault.0.row) fault.1) (some-same (stmt.Select query) u.line (sym the-line ∙ u.of numbered_lines))
                    (seen-fault (ms ++ hold ∷ []) to z.level z.g z.c _ (snapshot-more ms (hold ∷ []) z.level z.g z.c _ taken) query rows (part-more ms (hold ∷ []) (tt, tt) z.level z.g z.c _ taken to query.table rows (rows-part script some numbered_lines es to e fails x place is-late query z v has_it a)) fault q);
              })

      select-faults : (later : List Mark) (o : Option (KeyedRow × ArithFault)) → first_fault query.cond rows ≡ o → turn ≡ after_marks (hold ∷ []) (selects (base z.like z.horizon z.locks) z.g z.c query rows o) → EachMark (FaultLegal script) (world_of script es).steps e [] turn.marks later
      select-faults later None q ran = subst (λ (t : SegTurn). EachMark (FaultLegal script) (world_of script es).steps e [] t.marks later) (sym ran) (tt, tt)
      select-faults later (Some fault) q ran = subst (λ (t : SegTurn). EachMark (FaultLegal script) (world_of script es).steps e [] t.marks later) (sym ran) (tt, (fault-legal fault later q, tt))

    quiet-faults : (later : List Mark) → Each NoFault turn.marks → EachMark (FaultLegal script) (world_of script es).steps e [] turn.marks later
    quiet-faults later h = no-faults script (world_of script es).steps to e place.0 [] turn.marks later h

    slice-faults : (later : List Mark) (y : Slice) → Runs script es to e fails x y → EachMark (FaultLegal script) (world_of script es).steps e [] turn.marks later
    slice-faults later (slice.Select query) z = let o = snapshot-of z.snapshot z.reads in select-faults query z o.0 o.1 later (first_fault query.cond (rows query z o.0 o.1)) refl (select-ran script some numbered_lines es to e fails x place is-late query z o.0 o.1)
    slice-faults later (slice.Insert table tuples) z =
        quiet-faults later
        (subst (λ (t : SegTurn). Each NoFault t.marks) (sym (z.ran ∙ ap (λ o. after_marks (hold_mark s.node z.wanted ∷ []) (adds (base z.like z.horizon z.locks) z.g z.c table tuples o)) (snapshot-of z.snapshot z.reads).1)) (tt, inserted-no-fault (base z.like z.horizon z.locks) z.g z.c table tuples))
    slice-faults later (slice.Update t a d) z = (z.turned _ (ap (λ q. change_of z.c z.level q (slice.Update t a d)) (snapshot-of z.snapshot z.reads).1)).faults later
    slice-faults later (slice.Delete t d) z = (z.turned _ (ap (λ q. change_of z.c z.level q (slice.Delete t d)) (snapshot-of z.snapshot z.reads).1)).faults later
    slice-faults later (slice.Lock t m) z = quiet-faults later (subst (λ (t : SegTurn). Each NoFault t.marks) (sym z.ran) (tt, tt))

    faults : (later : List Mark) → Doings script es to e fails x → EachMark (FaultLegal script) (world_of script es).steps e [] turn.marks later
    faults later (inl q) = quiet-faults later (row-no-fault turn.marks q.marks)
    faults later (inr (inl q)) = quiet-faults later (row-no-fault turn.marks q.marks)
    faults later (inr (inr (inl z))) = slice-faults later z.0 z.1
    faults later (inr (inr (inr z))) = (z.turned z.goes.at.change z.goes.at.changes).faults later

    plain : Each (PlainAt script to) turn.marks
    plain = subst (λ node. Each (PlainAt script node) turn.marks) ((world-both script some es).knows.well.names to.0) (seg_stays script s (subst (IsSegment script) (sym ((world-both script some es).knows.well.names to.0)) place) x fails).marks

    abbrev sent : List Mark
    sent = numbered (λ node. turn.seg.sent) turn.outs

    step-writes : EachMark (WriteLegal script) (world_of script es).steps e [] (turn.marks ++ sent) []
    step-writes = last-legal script [] (world_of script es).steps _ (subst (λ (v : World). AreWritesLegal script [] v.steps) is-late (writes.world-holds script some numbered_lines (es ++ (e, fails) ∷ [])).legal)

    step-rest : EachMark (Rest script) (world_of script es).steps e [] (seg_rule script ((world_of script es).segs to.0) x fails).marks []
    step-rest =
        marks-append (Rest script) (world_of script es).steps e [] turn.marks sent []
        (all-rest script (world_of script es).steps to e place.0 [] turn.marks (sent ++ []) (front (WriteLegal script) (world_of script es).steps e [] turn.marks sent [] step-writes) (faults (sent ++ []) does-it) plain)
        (sent-rest script (world_of script es).steps e (λ node. turn.seg.sent) turn.outs turn.marks [])

  zero-one : {A : Type 0} → 1 ≤ 0 → A
  zero-one l = absurd (omega (arith, l))

  abbrev IsRest : Event → Node → NodeEvent → Bool → Type 0
  IsRest e i x fails = EachMark (Rest script) (world_of script es).steps e [] (seg_rule script ((world_of script es).segs i.0) x fails).marks []

  received : (from to : Node) (number : ℕ) (envelope : Envelope) (fails : Bool) → IsSegment script to → found from to number (world_of script es).sent ≡ Some envelope → IsRest (event.Receive from to number) to (here.Deliver from envelope) fails
  received from to number envelope fails place f =
      step-rest to (event.Receive from to number) fails (here.Deliver from envelope) place (received-late script some numbered_lines es from to number envelope fails place f) (λ k. refl)
      (message-does script some numbered_lines es from to number envelope fails place f)

  resumed : (n : Node) (g : Gxid) (fails : Bool) → IsSegment script n → seg_can script ((world_of script es).segs n.0) (here.Resume g) ≡ true → IsRest (event.Resume n g) n (here.Resume g) fails
  resumed n g fails place ok =
      step-rest n (event.Resume n g) fails (here.Resume g) place (resumed-late script some numbered_lines es n g fails place ok) (λ k. refl) (resumption-does script some numbered_lines es n g fails place ok)

  pub segments-legal : AreSegmentsLegal script (world_of script es)
  segments-legal (event.Receive from to number) x fails place is ok = by_found (found from to number (world_of script es).sent) refl is
    where
      by_found : (o : Option Envelope) → found from to number (world_of script es).sent ≡ o → delivered from o ≡ Some x → IsRest (event.Receive from to number) to x fails
      by_found None f q = absurd (cc)
      by_found (Some envelope) f q = subst (λ y. IsRest (event.Receive from to number) to y fails) (some-same (here.Deliver from envelope) x q) (received from to number envelope fails place f)
  segments-legal (event.Resume n g) x fails place is ok =
      let same = some-same (here.Resume g) x is in
      subst (λ y. IsRest (event.Resume n g) n y fails) same (resumed n g fails place (subst (λ y. seg_can script ((world_of script es).segs n.0) y ≡ true) (sym same) ok))
  segments-legal (event.Restart n) x fails place is ok = absurd (cc)
  segments-legal (event.Start s) x fails place is ok = zero-one place.0
  segments-legal (event.End s) x fails place is ok = zero-one place.0
  segments-legal (event.Resend i g) x fails place is ok = zero-one place.0
  segments-legal event.Round x fails place is ok = zero-one place.0
