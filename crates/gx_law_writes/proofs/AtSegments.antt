-- A step of a segment: what it writes is legal, what it tells is so, and no more rows are written of a command that has run there.
use Rattle.std.proofs.Common.{◌≡◌, ◌≤◌, ◌<◌, ◌⊎◌, inl, inr, ℕ, ◌+◌, ◌||◌, List, [], ◌∷◌, ◌++◌, Option, Some, None, Bool, true, false, refl, sym, subst, ap, ◌∙◌, ◌==◌, if◌then◌else◌, arith, eqb}
use Rattle.std.proofs.lemmas.Bool.{eqb-true}
use Rattle.std.proofs.lemmas.Bool.Decides.{nat_tests}
use Rattle.std.proofs.lemmas.List.{append_assoc}
use Rattle.std.specs.Prelude.{length, slice_get, take}
use Rattle.gx_lemmas.proofs.Numbers.{eqb-self, none-plus}
use Rattle.gx_lemmas.proofs.Options.{some-same}
use Rattle.gx_ids.specs.declared.ids.Cid.{Cid}
use Rattle.gx_ids.specs.declared.ids.Gxid.{Gxid}
use Rattle.gx_ids.specs.declared.ids.Node.{Node}
use Rattle.gx_ids.specs.declared.ids.SessionId.{SessionId}
use Rattle.gx_ids.specs.declared.ids.Table.{Table}
use Rattle.gx_ids.specs.declared.rid.Rid.{Rid}
use Rattle.gx_tree.specs.declared.expr.Expr.{Expr}
use Rattle.gx_modes.specs.declared.modes.Mode.{Mode}
use Rattle.gx_tree.specs.declared.query.Query.{Query}
use Rattle.gx_tree.specs.declared.row.KeyedRow.{KeyedRow}
use Rattle.gx_tree.specs.declared.slice.Slice.{Slice}
use Rattle.gx_tree.specs.declared.slice.Slice.TheVariants as slice
use Rattle.gx_tree.specs.declared.stmt.Level.{Level}
use Rattle.gx_tree.specs.declared.stmt.Stmt.{Stmt}
use Rattle.gx_tree.specs.declared.stmt.Stmt.TheVariants as stmt
use Rattle.gx_dsnap.specs.Gxids.{is_below}
use Rattle.gx_dsnap.specs.Snapshot.{sees}
use Rattle.gx_dsnap.specs.declared.snapshot.Snapshot.{Snapshot}
use Rattle.gx_waits.specs.declared.claim.Claim.{Claim}
use Rattle.gx_waits.specs.Claims.{with_claim}
use Rattle.gx_store.proofs.Exclusive.{holds_from-append}
use Rattle.gx_store.specs.Waits.{holds_at}
use Rattle.gx_meaning.specs.declared.fault.ArithFault.{ArithFault}
use Rattle.gx_msg.specs.declared.message.Message.{Message}
use Rattle.gx_msg.specs.declared.message.Message.TheVariants as message
use Rattle.gx_msg.specs.declared.message.Out.{Out}
use Rattle.gx_msg.specs.declared.reply.Reply.TheVariants as reply
use Rattle.gx_script.specs.declared.Script.{Script}
use Rattle.gx_store.specs.declared.event.Event.{Event}
use Rattle.gx_store.specs.declared.mark.Mark.{Mark}
use Rattle.gx_store.specs.declared.mark.Mark.TheVariants as mark
use Rattle.gx_store.specs.declared.node.NodeEvent.{NodeEvent}
use Rattle.gx_store.specs.declared.run.Step.{Step}
use Rattle.gx_store.specs.Lines.{is_on_rows}
use Rattle.gx_store.specs.Ordered.{IsSegment}
use Rattle.gx_store.specs.Marks.{is_aborted}
use Rattle.gx_store.specs.Points.{Point, marks_in, starts_by}
use Rattle.gx_store.specs.Refusals.{the_coordinator}
use Rattle.gx_store.specs.Rows.{row_at}
use Rattle.gx_store.specs.View.{image}
use Rattle.gx_rules.specs.AtSegment as segment
use Rattle.gx_rules.specs.AtSegment.{raised, seg_rule}
use Rattle.gx_rules.specs.Changes.{Change, change_of, changes_rows, goes_through, selected, shown_to}
use Rattle.gx_rules.specs.Locks.{hold_mark, with_hold}
use Rattle.gx_rules.specs.Running.{is_granted}
use Rattle.gx_rules.specs.Machine.{World, after, does, seg_did}
use Rattle.gx_rules.specs.Maps.{with_at}
use Rattle.gx_rules.specs.Segments.{Phase, Seg, SegTurn, Suspended, after_marks, local_of}
use Rattle.gx_rules.specs.Sending.{clock_after, counted, numbered}
use Rattle.gx_rules.specs.Shown.{shown}
use Rattle.gx_rules.specs.Slices.{first_fault, inserted, inserts, locks as locks_only, selects, starts_from}
use Rattle.gx_law_order.proofs.AtSegments.{PlainAt, seg_stays}
use Rattle.gx_law_order.proofs.Lists.{each_append, each_weaker}
use Rattle.gx_law_order.specs.Lists.{Each}
use Rattle.gx_law_order.proofs.Changing.{IsChangeOf, change-parts}
use Rattle.gx_law_order.proofs.Journals.{Hold}
use Rattle.gx_law_order.proofs.Waiting.{GoesOn, freed, is_open_phase}
use Rattle.gx_law_reads.specs.Horizons.{IsSeenBelow, IsToRun}
use Rattle.gx_law_reads.specs.Sights.{DoViewsStay, IsOnlyAt, IsShownView}
use Rattle.gx_law_reads.proofs.Ends.{Facts}
use Rattle.gx_law_reads.proofs.Waiting.{new-to-run, waits-to-run}
use Rattle.gx_law_locks.proofs.HoldsInRuns.{Locked}
use Rattle.gx_law_writes.specs.Says.{Says, count_at, stmt_of_change}
use Rattle.gx_law_writes.proofs.Bases.{freed-on, started-on}
use Rattle.gx_law_writes.proofs.Comes.{legals-each}
use Rattle.gx_law_writes.proofs.Half.{IsHalf, IsHalfAt, IsHalfDone}
use Rattle.gx_law_writes.proofs.Locks.{legals-here}
use Rattle.gx_law_writes.proofs.Path.{Legals}
use Rattle.gx_law_writes.proofs.Points.{IsLegalChange, IsOfHere, Ok}
use Rattle.gx_law_writes.proofs.SelectedRows.{HaveHomes}
use Rattle.gx_law_writes.proofs.VersionsTold.{IsOn, Known}
use Rattle.gx_law_writes.proofs.Undone.{IsBegun, undone, undone-drops}
use Rattle.gx_law_order.proofs.More.{marks-last}
use Rattle.gx_store.specs.Language.{AreLinesNumbered}
use Rattle.gx_law_order.specs.Alive.{HasRun, WasUnderWay}
use Rattle.gx_law_order.specs.Orders.{IsOrder, IsServed}
use Rattle.gx_law_order.specs.Rest.{EachMark}
use Rattle.gx_law_order.specs.Scanned.{stmt_of_command}
use Rattle.gx_law_order.proofs.Given.{marks-append}
use Rattle.gx_law_order.proofs.Outs.{MessageIs}
use Rattle.gx_law_order.proofs.Stepping as stepping
use Rattle.gx_law_order.specs.Pairs.{is_open}
use Rattle.gx_law_order.specs.Standings.{at, gx}
use Rattle.gx_law_order.proofs.Complete.{IsBack, SentBack}
use Rattle.gx_law_order.proofs.Ways.{CommandOf}
use Rattle.gx_law_order.proofs.Whole.{Both}
use Rattle.gx_law_writes.specs.Changes.{FaultLegal}
use Rattle.gx_law_writes.specs.Homes.{AreRowsHome, IsPlacedMark}
use Rattle.gx_law_writes.specs.Writes.{WriteLegal}
use Rattle.gx_law_writes.proofs.Homes.{homes-append, homes-placed, no-writes-home}
use Rattle.gx_law_writes.proofs.Alive.{Late, Live, order-live, read-by}
use Rattle.gx_law_writes.proofs.ChangeWorks.{change-works}
use Rattle.gx_law_writes.proofs.Changing.{change-line, change-on-rows, granted-changed}
use Rattle.gx_law_writes.proofs.Counting.{count-append, no-write-count, none-counted}
use Rattle.gx_law_writes.proofs.Going.{Result, homes-more as homes-behind, on-it, row-legal as goes-legal, row-result, row-stops, row-work, start-legal, start-result, start-stops, start-work, undone_in}
use Rattle.gx_law_writes.proofs.Legal.{Behind, IsPastHere, IsPastMark, behind-hold, behind-none, no-writes-legal, sent-no-write}
use Rattle.gx_law_writes.proofs.Live.{running}
use Rattle.gx_law_writes.proofs.Moves.{IsBase, IsOutOf, Move, change-move, freed-base, insert-move, line-of, lock-move, piece, quiet-move, rows-move, select-move, started-base, waited-move}
use Rattle.gx_law_writes.proofs.NeedsRows.{Stops}
use Rattle.gx_law_writes.proofs.Next.{new-next, next_command, waits-next}
use Rattle.gx_law_writes.proofs.Told.{IsAnswerOf, IsToldOf, IsWordOf, SentTold, StepTold, answer-more, steps-more, taken-told, told-more}
use Rattle.gx_law_writes.proofs.Pieces.{order-slice}
use Rattle.gx_law_writes.proofs.SegHalves.{half-away, half-here, its-all}
use Rattle.gx_law_writes.proofs.Turns.{Changed, Continues, NoWrite, Turns, base}
use Rattle.gx_law_writes.proofs.Versions.{IsHomeVersion, home-versions}
use Rattle.gx_law_writes.proofs.Works.{IsIts, Works, insert-works, lock-works, new-undone, quiet-works, select-works, table-undone, waited-works}
use Rattle.gx_law_writes.proofs.Steps.{CountsStay, Holds, counts-by, le-same, legal-push, locals_in, lt-le, nexts_in, no-write-begun, no-write-past, one-more}

le-next : {a b : ℕ} → a ≤ b → a ≤ b + 1
le-next l = omega arith

-- what is legal of a change's marks is of all writes
change-write : (script : Script) (point : Point) (m : Mark) → IsLegalChange script point m → WriteLegal script point m
change-write script point (mark.Write g c n t r x) l = l
change-write script point (mark.Skip g c r) l = l
change-write script point m l = tt

change-fault : (script : Script) (point : Point) (m : Mark) → IsLegalChange script point m → FaultLegal script point m
change-fault script point (mark.Fault g c r x) l = l
change-fault script point m l = tt

pub changes-faults : (script : Script) (steps : List Step) (e : Event) (earlier ms later : List Mark) → EachMark (IsLegalChange script) steps e earlier ms later → EachMark (FaultLegal script) steps e earlier ms later
changes-faults script steps e earlier [] later l = tt
changes-faults script steps e earlier (m ∷ ms) later l = (change-fault script (record { steps = steps; event = e; earlier = earlier; later = ms ++ later }) m l.0, changes-faults script steps e (earlier ++ m ∷ []) ms later l.1)

changes-writes : (script : Script) (steps : List Step) (e : Event) (earlier ms later : List Mark) → EachMark (IsLegalChange script) steps e earlier ms later → EachMark (WriteLegal script) steps e earlier ms later
changes-writes script steps e earlier [] later l = tt
changes-writes script steps e earlier (m ∷ ms) later l = (change-write script (record { steps = steps; event = e; earlier = earlier; later = ms ++ later }) m l.0, changes-writes script steps e (earlier ++ m ∷ []) ms later l.1)

module _ (script : Script) (some : 1 ≤ script.segments) (numbered_lines : AreLinesNumbered [] script.lines) where
  -- A STEP OF A SEGMENT
  module _ (w : World) (b : Both script some w) (k : stepping.Holds script w) (hold : Hold w) (facts : Facts w) (locked : Locked script w) (h : Holds script w.segs w.steps) (e : Event) (quiet-event : (t : SessionId) → starts_by t e ≡ 0) (x : NodeEvent) (fails : Bool) (i : ℕ) (place : IsSegment script (at i)) where
    abbrev pub ms : List Mark
    ms = marks_in w.steps

    abbrev pub s : Seg
    s = w.segs i

    abbrev pub turn : SegTurn
    turn = segment.on_event script (w.segs i) x fails

    abbrev pub sent : List Mark
    sent = numbered (λ node. turn.seg.sent) turn.outs

    abbrev pub step : Step
    step = record { stamp = record { clock = clock_after s.clock x; node = at i }; event = e; marks = turn.marks ++ sent }

    abbrev pub next : ℕ → Seg
    next = with_at w.segs i (seg_rule script (w.segs i) x fails).seg

    abbrev pub Moves : SegTurn → Type 0
    Moves = Move script ms w.steps e (at i) s

    placed : Each (IsPlacedMark script ms) ms
    placed = homes-placed script ms [] ms h.homes

    -- a command that has still to run there is under way, or its transaction has aborted
    alive : (g : Gxid) (c : Cid) (level : Level) (snapshot : Option Snapshot) (y : Slice) → next_command (s.locals g.0) ≤ c.0 → (order : IsOrder script ms (at i) g c level snapshot y) → (line : Stmt) → order.line ≡ line → is_on_rows line ≡ true
        → WasUnderWay script w.steps g c → IsBack w.coord w.steps i g.0 c.0 → Live script w g.0 c line level ⊎ Late script w g.0 c
    alive g c level snapshot y fresh order line of on was (inl z) =
        let r = running script w k.sessions g.0 b.knows.kept i z.0 in
        inl (order-live script numbered_lines w g.0 c (at i) level snapshot y line r (z.1 ∙ sym (subst (CommandOf g.0 (w.coord.works g.0).last) r.has_it (b.holds.stands.works g.0).command).0) order of on)
    alive g c level snapshot y fresh order line of on was (inr (inl z)) = absurd (beyond _ _ fresh (taken-told script ms (locals_in w.segs) w.steps z.place z.received.sent.step z.received.sent.mark (at i) the_coordinator z.received.number (message.Answer (gx g.0) (reply.Done (record { 0 = c.0 }) z.wrote z.count z.part)) place.0 h.told z.received.sent.sending).0)
      where
        beyond : (m n : ℕ) → m ≤ n → n < m → ⊥
        beyond m n p q = omega arith
    alive g c level snapshot y fresh order line of on was (inr (inr z)) = inr (record { aborted = z; was = was })

    -- a slice runs that came with this EXEC, which the coordinator sent
    module _ (g : Gxid) (c : Cid) (level : Level) (snapshot : Option Snapshot) (fresh : next_command (s.locals g.0) ≤ c.0) (base : Seg) (on : IsBase s g base) (wanted : Claim) where
      behind : Behind g c 1 (hold_mark s.node wanted ∷ [])
      behind = behind-hold g c 1 [] s.node wanted (behind-none g c)

      select-runs : (query : Query) → IsOrder script ms (at i) g c level snapshot (slice.Select query) → (rows : List KeyedRow) (f : Option (KeyedRow × ArithFault)) → Moves (after_marks (hold_mark s.node wanted ∷ []) (selects base g c query rows f))
      select-runs query order = select-move script numbered_lines ms w.steps e i s (h.kept i) g c fresh base on (b.knows.well.names i) (hold_mark s.node wanted ∷ []) (tt, tt) level snapshot query order

      lock-runs : (table : Table) (mode : Mode) → IsOrder script ms (at i) g c level snapshot (slice.Lock table mode) → Moves (after_marks (hold_mark s.node wanted ∷ []) (locks_only base g c))
      lock-runs table mode order = lock-move script numbered_lines ms w.steps e i s (h.kept i) g c fresh base on (b.knows.well.names i) (hold_mark s.node wanted ∷ []) (tt, tt) level snapshot table mode order

      insert-runs : (table : Table) (rows : List KeyedRow) → IsOrder script ms (at i) g c level snapshot (slice.Insert table rows) → WasUnderWay script w.steps g c → IsBack w.coord w.steps i g.0 c.0 → Moves (after_marks (hold_mark s.node wanted ∷ []) (inserts g c (length rows) (inserted base g c table rows)))
      insert-runs table rows order was back =
          insert-move script numbered_lines w e quiet-event i s (b.knows.well.names i) (h.kept i) (nexts_in w.segs) (λ j. refl) placed h.past g c level snapshot table rows order fresh base on (hold_mark s.node wanted ∷ []) (tt, tt) behind
          (alive g c level snapshot (slice.Insert table rows) fresh order (stmt.Insert table tuples) line refl was back)
        where
          tuples : List (List Expr)
          tuples = (piece script numbered_lines w e quiet-event i s (b.knows.well.names i) (h.kept i) (nexts_in w.segs) (λ j. refl) placed h.past g c level snapshot table rows order).tuples

          line : order.line ≡ stmt.Insert table tuples
          line = line-of script numbered_lines w e quiet-event i s (b.knows.well.names i) (h.kept i) (nexts_in w.segs) (λ j. refl) placed h.past g c level snapshot table rows order

    -- AN UPDATE OR DELETE
    -- the versions there are the writes of marks, each at home
    homes-here : Each (IsHomeVersion script ms (at i) (λ j. next_command (s.locals j)) ms) s.versions
    homes-here = subst (Each (IsHomeVersion script ms (at i) (λ j. next_command (s.locals j)) ms)) (sym (hold i place.0).versions) (home-versions script ms (at i) (nexts_in w.segs) ms placed h.past)

    abbrev pub known : Known script w
    known = record { knows = b.knows; holds = b.holds; facts = facts; hold = hold; locked = locked }

    -- a turn's writes are legal, and what it does to rows is known
    abbrev pub Goes : SegTurn → Type 0
    Goes y = Moves y × Works ms (at i) s y

    -- what it does to rows is legal, whatever comes behind its turn
    abbrev pub IsLegalTurn : SegTurn → Type 0
    IsLegalTurn y = (later : List Mark) → EachMark (WriteLegal script) w.steps e [] y.marks later

    module _ (g : Gxid) (q : Change) (changes : change_of q.cid q.level (Some q.snapshot) q.slice ≡ Some q) (order : IsOrder script ms (at i) g q.cid q.level (Some q.snapshot) q.slice) (fresh : next_command (s.locals g.0) ≤ q.cid.0) where
      -- it is under way, or its transaction has aborted
      change-alive : WasUnderWay script w.steps g q.cid → IsBack w.coord w.steps i g.0 q.cid.0 → Live script w g.0 q.cid (stmt_of_change q) q.level ⊎ Late script w g.0 q.cid
      change-alive was back =
          alive g q.cid q.level (Some q.snapshot) q.slice fresh order (stmt_of_change q) (change-line q.cid q.level (Some q.snapshot) q.slice q changes order.line (order-slice script ms (at i) g q.cid q.level (Some q.snapshot) q.slice order)) (change-on-rows q) was back

      line-is : order.line ≡ stmt_of_change q
      line-is = change-line q.cid q.level (Some q.snapshot) q.slice q changes order.line (order-slice script ms (at i) g q.cid q.level (Some q.snapshot) q.slice order)

      its-line : stmt_of_command script ms g q.cid ≡ Some (stmt_of_change q)
      its-line = order.of ∙ ap Some line-is

      its-served : IsServed ms q.level g q.cid q.snapshot
      its-served =
          let r = read-by ms q.level g q.cid order.line (Some q.snapshot) (ap is_on_rows line-is ∙ change-on-rows q) order.read in
          subst (IsServed ms q.level g q.cid) (sym (some-same q.snapshot r.0 r.1)) r.2

      -- from the start, on a segment with a horizon and its table's lock
      module _ (horizon : Gxid) (c : Seg) (onit : IsOn s g horizon c) (on : IsBase s g c) (wanted : Claim) (opens : is_open (local_of c g).phase ≡ true) (undone-yet : undone (s.locals g.0) ≤ q.cid.0)
          (below : is_aborted ms g ≡ false → (u : Gxid) → 1 ≤ u.0 → (is_below (raised s horizon).horizon u || sees q.snapshot u) ≡ sees q.snapshot u)
          (seen : is_aborted ms g ≡ false → (place : ℕ) (d : Cid) → slice_get ms place ≡ Some (mark.Snap g d q.snapshot) → (table : Table) (rid : Rid) → IsOnlyAt (at i) rid ms
          → row_at (shown (raised s horizon) q.snapshot g q.cid table) rid ≡ image ms (take place ms) (Some (g, q.cid)) table rid)
          (how : Live script w g.0 q.cid (stmt_of_change q) q.level ⊎ Late script w g.0 q.cid) where
        abbrev pre : List Mark
        pre = hold_mark s.node wanted ∷ []

        abbrev goes : SegTurn
        goes = changes_rows c g (Some q)

        so-legal : Legals (Ok script w.steps e c.node) (hold_mark s.node wanted ∷ []) (changes_rows c g (Some q)).marks
        so-legal = start-legal script numbered_lines w known e quiet-event i place.0 placed h.begun g q changes its-line horizon c onit pre (tt, tt) (le-next undone-yet) on.alone opens undone-yet below its-served seen how

        pub start-all : (later : List Mark) → EachMark (IsLegalChange script) w.steps e [] (hold_mark s.node wanted ∷ (changes_rows c g (Some q)).marks) later
        start-all later = (tt, legals-each script w.steps e c.node pre goes.marks later so-legal)

        -- where it stops it needs what it asks for
        pub there-stops : wanted.gxid ≡ g → c.locks.holds ≡ with_claim wanted (w.segs i).locks.holds → Stops (marks_in w.steps ++ hold_mark (w.segs i).node wanted ∷ []) c.node g q (selected q.cond (shown_to c g q)) (starts_from c)
        there-stops owner held =
            start-stops script numbered_lines w known e quiet-event i place.0 placed h.begun g q changes its-line horizon c onit pre (tt, tt) (le-next undone-yet) on.alone opens undone-yet below its-served seen (owner, tt) (held ∙ told-with) how
          where
            self : (a : ℕ) → (a == a) ≡ true
            self a = grind (arith, nat_tests)

            named : s.node ≡ at i
            named = b.knows.well.names i

            told-with : with_claim wanted s.locks.holds ≡ holds_at (ms ++ hold_mark s.node wanted ∷ []) c.node
            told-with =
                ap (λ hs. with_claim wanted hs) ((locked.marked.segments i place.0).holds ∙ ap (λ q. holds_at ms q) (sym (onit.node ∙ named)))
                ∙ sym (holds_from-append c.node [] ms (hold_mark s.node wanted ∷ []) ∙ ap (λ q. if q then with_claim wanted (holds_at ms c.node) else holds_at ms c.node) (ap (λ (q : Node). s.node.0 == q.0) onit.node ∙ self s.node.0))

        start-moves : Moves (after_marks (hold_mark s.node wanted ∷ []) (changes_rows c g (Some q)))
        start-moves = change-move script numbered_lines ms w.steps e i s (h.kept i) (b.knows.well.names i) g q changes its-order fresh c on pre (tt, tt) homes-here (λ later. changes-writes script w.steps e [] (pre ++ goes.marks) later (start-all later))
          where
            its-order : IsOrder script ms (at i) g q.cid q.level (Some q.snapshot) q.slice
            its-order = order

        start-so : Result script numbered_lines w known e quiet-event i place.0 placed h.begun g q changes its-line horizon c onit (hold_mark s.node wanted ∷ []) (tt, tt) (le-next undone-yet) (changes_rows c g (Some q))
        start-so = start-result script numbered_lines w known e quiet-event i place.0 placed h.begun g q changes its-line horizon c onit pre (tt, tt) (le-next undone-yet) on.alone opens undone-yet below its-served seen how (homes-placed script ms ms (pre ++ goes.marks) start-moves.homes)

        pub start-says : Says ms (at i) g q (after_marks (hold_mark s.node wanted ∷ []) (changes_rows c g (Some q)))
        start-says = start-so.says

        start-works : Works ms (at i) s (after_marks (hold_mark s.node wanted ∷ []) (changes_rows c g (Some q)))
        start-works =
            change-works ms (at i) s g q.cid q.table c (onit.node ∙ b.knows.well.names i) onit.versions on.others (le-next undone-yet) fresh pre (tt, tt) goes
            (start-work script numbered_lines w known e quiet-event i place.0 placed h.begun g q changes its-line horizon c onit pre (tt, tt) (le-next undone-yet) on.alone opens undone-yet below its-served seen)
            (subst (λ n. Each (IsOfHere n (ms ++ (pre ++ goes.marks))) goes.marks) (onit.node ∙ b.knows.well.names i) (legals-here script w.steps e c.node pre goes.marks so-legal)) start-so.half

        pub start-goes : Goes (after_marks (hold_mark s.node wanted ∷ []) (changes_rows c g (Some q)))
        start-goes = (start-moves, start-works)

      -- from a row on
      module _ (horizon : Gxid) (low : horizon.0 ≤ s.horizon.0) (opens : is_open (local_of s g).phase ≡ true) (wanted : Claim) (owner : wanted.gxid ≡ g) (upto : undone (s.locals g.0) ≤ q.cid.0 + 1)
          (below : is_aborted ms g ≡ false → (u : Gxid) → 1 ≤ u.0 → (is_below (raised s horizon).horizon u || sees q.snapshot u) ≡ sees q.snapshot u) (rids : List Rid) (count : ℕ) (half : is_aborted ms g ≡ false → IsHalfDone ms s.versions (at i) g q rids count)
          (how : Live script w g.0 q.cid (stmt_of_change q) q.level ⊎ Late script w g.0 q.cid) where
        abbrev from-row : SegTurn
        from-row = goes_through g q rids (is_granted s g wanted) count

        row-so : Legals (Ok script w.steps e s.node) [] (goes_through g q rids (is_granted s g wanted) count).marks
        row-so = goes-legal script numbered_lines w known e quiet-event i place.0 placed h.begun g q changes its-line horizon low upto opens wanted owner below rids count half how

        pub row-all : (later : List Mark) → EachMark (IsLegalChange script) w.steps e [] (goes_through g q rids (is_granted s g wanted) count).marks later
        row-all later = legals-each script w.steps e s.node [] from-row.marks later row-so

        pub here-stops : Stops (marks_in w.steps ++ []) (w.segs i).node g q rids (is_granted (w.segs i) g wanted)
        here-stops = row-stops script numbered_lines w known e quiet-event i place.0 placed h.begun g q changes its-line horizon low upto opens wanted owner below rids count half how

        row-moves : Moves (goes_through g q rids (is_granted s g wanted) count)
        row-moves =
            rows-move script numbered_lines ms w.steps e i s (h.kept i) (b.knows.well.names i) g q changes order fresh (freed s g wanted) (freed-base s g wanted) [] tt homes-here (is_granted s g wanted)
            (granted-changed script ms (at i) (λ j. next_command (s.locals j)) g q _ s wanted ((freed-base s g wanted).node ∙ b.knows.well.names i)) rids count (λ later. changes-writes script w.steps e [] from-row.marks later (row-all later))

        row-gives : Result script numbered_lines w known e quiet-event i place.0 placed h.begun g q changes its-line horizon s (on-it script numbered_lines w known e quiet-event i place.0 placed h.begun g q changes its-line horizon low upto opens wanted owner below rids count half) [] tt upto (goes_through g q rids (is_granted s g wanted) count)
        row-gives = row-result script numbered_lines w known e quiet-event i place.0 placed h.begun g q changes its-line horizon low upto opens wanted owner below rids count half how (homes-placed script ms ms from-row.marks row-moves.homes)

        pub row-says : Says ms (at i) g q (goes_through g q rids (is_granted s g wanted) count)
        row-says = row-gives.says

        row-works : Works ms (at i) s (goes_through g q rids (is_granted s g wanted) count)
        row-works =
            change-works ms (at i) s g q.cid q.table s (b.knows.well.names i) refl (λ j z. refl) upto fresh [] tt from-row
            (row-work script numbered_lines w known e quiet-event i place.0 placed h.begun g q changes its-line horizon low upto opens wanted owner below rids count half)
            (subst (λ n. Each (IsOfHere n (ms ++ from-row.marks)) from-row.marks) (b.knows.well.names i) (legals-here script w.steps e s.node [] from-row.marks row-so)) row-gives.half

        pub row-goes : Goes (goes_through g q rids (is_granted s g wanted) count)
        row-goes = (row-moves, row-works)

    -- what the coordinator's message to the segment is known to be
    abbrev pub Sees : Message → Type 0
    Sees m = IsSeenBelow w (at i) m × IsShownView w (at i) m

    -- an EXEC of it has come, and it has its table's lock
    module _ (m : Message) (number : ℕ) (order : MessageIs script ms (at i) m) (ran : HasRun script w.steps m) (back : SentBack w.coord w.steps the_coordinator (mark.Sent (at i) number m)) (sees-it : IsSeenBelow w (at i) m × IsShownView w (at i) m) (y : SegTurn) (z : Changed script s m y) where
      its-order : IsOrder script ms (at i) z.g z.change.cid z.change.level (Some z.change.snapshot) z.change.slice
      its-order = subst (λ (a : Message). MessageIs script ms (at i) a) z.is order numbered_lines

      still-fresh : next_command (s.locals z.g.0) ≤ z.change.cid.0
      still-fresh = new-next (s.locals z.g.0) z.change.cid.0 z.alone z.fresh

      how-it-is : Live script w z.g.0 z.change.cid (stmt_of_change z.change) z.change.level ⊎ Late script w z.g.0 z.change.cid
      how-it-is = change-alive z.g z.change z.changes its-order still-fresh (subst (HasRun script w.steps) z.is ran) (subst (λ (a : Message). SentBack w.coord w.steps the_coordinator (mark.Sent (at i) number a)) z.is back refl)

      seen-so : Sees (message.Exec z.g z.change.cid z.change.level (Some z.change.snapshot) z.horizon z.change.slice)
      seen-so = subst Sees z.is sees-it

      to-run : is_aborted ms z.g ≡ false → IsToRun w (at i) z.g z.change.cid
      to-run unaborted = new-to-run w (at i) z.g z.change.cid unaborted z.fresh

      abbrev started : Seg
      started = base s z.horizon (with_hold s.locks z.wanted)

      owner-is : z.wanted.gxid ≡ z.g
      owner-is = ap (λ (c : Claim). c.gxid) (sym z.locked ∙ (change-parts z.change.cid z.change.level (Some z.change.snapshot) z.change.slice z.change z.changes).lock script z.g)

      pub exec-all : (later : List Mark) → EachMark (IsLegalChange script) w.steps e [] y.marks later
      exec-all later =
          subst (λ (t : SegTurn). EachMark (IsLegalChange script) w.steps e [] t.marks later) (sym z.ran)
          (start-all z.g z.change z.changes its-order still-fresh z.horizon started (started-on s z.g z.horizon z.wanted owner-is) (started-base s z.g z.horizon (with_hold s.locks z.wanted) z.alone) z.wanted z.opened (new-undone (s.locals z.g.0) z.change.cid.0 z.alone z.fresh)
          (λ unaborted. seen-so.0 (to-run unaborted)) (λ unaborted. seen-so.1 place.0 (to-run unaborted)) how-it-is later)

      pub exec-stops : Stops (marks_in w.steps ++ hold_mark (w.segs i).node z.wanted ∷ []) (base (w.segs i) z.horizon (with_hold (w.segs i).locks z.wanted)).node z.g z.change
          (selected z.change.cond (shown_to (base (w.segs i) z.horizon (with_hold (w.segs i).locks z.wanted)) z.g z.change)) (starts_from (base (w.segs i) z.horizon (with_hold (w.segs i).locks z.wanted)))
      exec-stops =
          there-stops z.g z.change z.changes its-order still-fresh z.horizon started (started-on s z.g z.horizon z.wanted owner-is) (started-base s z.g z.horizon (with_hold s.locks z.wanted) z.alone) z.wanted z.opened (new-undone (s.locals z.g.0) z.change.cid.0 z.alone z.fresh)
          (λ unaborted. seen-so.0 (to-run unaborted)) (λ unaborted. seen-so.1 place.0 (to-run unaborted)) how-it-is owner-is refl

      pub exec-says : Says ms (at i) z.g z.change y
      exec-says =
          subst (Says ms (at i) z.g z.change) (sym z.ran)
          (start-says z.g z.change z.changes its-order still-fresh z.horizon started (started-on s z.g z.horizon z.wanted owner-is) (started-base s z.g z.horizon (with_hold s.locks z.wanted) z.alone) z.wanted z.opened (new-undone (s.locals z.g.0) z.change.cid.0 z.alone z.fresh)
          (λ unaborted. seen-so.0 (to-run unaborted)) (λ unaborted. seen-so.1 place.0 (to-run unaborted)) how-it-is)

      exec-goes : Goes y
      exec-goes =
          subst Goes (sym z.ran)
          (start-goes z.g z.change z.changes its-order still-fresh z.horizon started (started-on s z.g z.horizon z.wanted owner-is) (started-base s z.g z.horizon (with_hold s.locks z.wanted) z.alone) z.wanted z.opened (new-undone (s.locals z.g.0) z.change.cid.0 z.alone z.fresh)
          (λ unaborted. seen-so.0 (to-run unaborted)) (λ unaborted. seen-so.1 place.0 (to-run unaborted)) how-it-is)

    -- by a message of the coordinator
    pub message-goes : (m : Message) (number : ℕ) → MessageIs script ms (at i) m → HasRun script w.steps m → SentBack w.coord w.steps the_coordinator (mark.Sent (at i) number m) → IsSeenBelow w (at i) m × IsShownView w (at i) m → (y : SegTurn) → Turns script s m y → Goes y
    message-goes m number order ran back sees-it y (inl q) = (quiet-move script numbered_lines ms w.steps e i s (h.kept i) (λ g. (b.holds.stands.pairs i g).vote) y q, quiet-works ms (at i) s y q)
    message-goes m number order ran back sees-it y (inr (inl z)) =
        subst Goes (sym z.ran) (
          select-runs z.g z.c z.level (Some z.snapshot) (new-next (s.locals z.g.0) z.c.0 z.alone z.fresh) (base s z.horizon z.locks) (started-base s z.g z.horizon z.locks z.alone) z.wanted z.query (subst (λ (a : Message). MessageIs script ms (at i) a) z.is order numbered_lines)
              (shown (raised s z.horizon) z.snapshot z.g z.c z.query.table) (first_fault z.query.cond (shown (raised s z.horizon) z.snapshot z.g z.c z.query.table)),
          select-works ms (at i) s (b.knows.well.names i) z.g z.c (new-undone (s.locals z.g.0) z.c.0 z.alone z.fresh) (new-next (s.locals z.g.0) z.c.0 z.alone z.fresh) (base s z.horizon z.locks) (started-base s z.g z.horizon z.locks z.alone) (hold_mark s.node z.wanted ∷ []) (tt, tt) z.query
              (shown (raised s z.horizon) z.snapshot z.g z.c z.query.table) (first_fault z.query.cond (shown (raised s z.horizon) z.snapshot z.g z.c z.query.table)),
        )
    message-goes m number order ran back sees-it y (inr (inr (inl z))) =
        subst Goes (sym z.ran) (
          insert-runs z.g z.c z.level (Some z.snapshot) (new-next (s.locals z.g.0) z.c.0 z.alone z.fresh) (base s z.horizon z.locks) (started-base s z.g z.horizon z.locks z.alone) z.wanted z.table z.rows (subst (λ (a : Message). MessageIs script ms (at i) a) z.is order numbered_lines)
              (subst (HasRun script w.steps) z.is ran) (subst (λ (a : Message). SentBack w.coord w.steps the_coordinator (mark.Sent (at i) number a)) z.is back refl),
          insert-works ms (at i) s (b.knows.well.names i) z.g z.c (new-undone (s.locals z.g.0) z.c.0 z.alone z.fresh) (new-next (s.locals z.g.0) z.c.0 z.alone z.fresh) (base s z.horizon z.locks) (started-base s z.g z.horizon z.locks z.alone) (hold_mark s.node z.wanted ∷ []) (tt, tt) z.table z.rows,
        )
    message-goes m number order ran back sees-it y (inr (inr (inr (inl z)))) = (waited-move script numbered_lines ms w.steps e i s (h.kept i) (b.knows.well.names i) m y z, waited-works script ms (at i) s (b.knows.well.names i) m y z)
    message-goes m number order ran back sees-it y (inr (inr (inr (inr (inl z))))) =
        subst Goes (sym z.ran) (
          lock-runs z.g z.c z.level z.snapshot (new-next (s.locals z.g.0) z.c.0 z.alone z.fresh) (base s z.horizon z.locks) (started-base s z.g z.horizon z.locks z.alone) z.wanted z.table z.mode (subst (λ (a : Message). MessageIs script ms (at i) a) z.is order numbered_lines),
          lock-works ms (at i) s (b.knows.well.names i) z.g z.c (new-undone (s.locals z.g.0) z.c.0 z.alone z.fresh) (new-next (s.locals z.g.0) z.c.0 z.alone z.fresh) (base s z.horizon z.locks) (started-base s z.g z.horizon z.locks z.alone) (hold_mark s.node z.wanted ∷ []) (tt, tt),
        )
    message-goes m number order ran back sees-it y (inr (inr (inr (inr (inr z))))) = exec-goes m number order ran back sees-it y z

    -- by the end of a wait
    module _ (g : Gxid) (o : GoesOn script w i g) where
      abbrev pub z : Suspended
      z = o.slice

      abbrev pub came : Message
      came = message.Exec g z.cid z.level z.snapshot o.waits.horizon z.slice

      abbrev pub IsSo : Type 0
      IsSo = MessageIs script ms (at i) came × HasRun script w.steps came × SentBack w.coord w.steps the_coordinator (mark.Sent (at i) o.waits.come.letter.envelope.number came) × IsSeenBelow w (at i) came × IsShownView w (at i) came

      still : next_command (s.locals g.0) ≤ z.cid.0
      still = waits-next (s.locals g.0) z o.is o.waits.last

      opens-so : is_open (local_of s g).phase ≡ true
      opens-so = by_phase (local_of s g).phase o.waits.opens
        where
          by_phase : (p : Phase) → is_open_phase p ≡ true → is_open p ≡ true
          by_phase p q = grind arith

      -- a command that changes rows, by its parts
      module _ (q : Change) (changes : change_of z.cid z.level z.snapshot z.slice ≡ Some q) (sent : IsSo) where
        parts : IsChangeOf z.cid z.level z.snapshot z.slice q
        parts = change-parts z.cid z.level z.snapshot z.slice q changes

        by-parts : (P : Cid → Level → Option Snapshot → Slice → Type 0) → P z.cid z.level z.snapshot z.slice → P q.cid q.level (Some q.snapshot) q.slice
        by-parts P p =
            subst (λ c. P c q.level (Some q.snapshot) q.slice) (sym parts.cid)
            (subst (λ l. P z.cid l (Some q.snapshot) q.slice) (sym parts.level) (subst (λ x. P z.cid z.level x q.slice) (sym parts.snapshot) (subst (P z.cid z.level z.snapshot) (sym parts.slice) p)))

        later-order : IsOrder script ms (at i) g q.cid q.level (Some q.snapshot) q.slice
        later-order = by-parts (λ c level snapshot y. IsOrder script ms (at i) g c level snapshot y) (sent.0 numbered_lines)

        its-next : next_command (s.locals g.0) ≤ q.cid.0
        its-next = by-parts (λ c level snapshot y. next_command (s.locals g.0) ≤ c.0) still

        still-alive : Live script w g.0 q.cid (stmt_of_change q) q.level ⊎ Late script w g.0 q.cid
        still-alive =
            change-alive g q parts.again later-order its-next (by-parts (λ c level snapshot y. WasUnderWay script w.steps g c) sent.1)
            (by-parts (λ c level snapshot y. IsBack w.coord w.steps i g.0 c.0) (sent.2 refl))

        still-sees : Sees (message.Exec g q.cid q.level (Some q.snapshot) o.waits.horizon q.slice)
        still-sees = by-parts (λ c level snapshot y. Sees (message.Exec g c level snapshot o.waits.horizon y)) (sent.3, sent.4)

        still-to-run : is_aborted ms g ≡ false → IsToRun w (at i) g q.cid
        still-to-run unaborted = by-parts (λ c level snapshot y. IsToRun w (at i) g c) (waits-to-run script w b.knows.well (at i) g z o.is unaborted)

        -- for its table
        module _ (wanted : Claim) (owner : wanted.gxid ≡ g) (row : z.row ≡ None) where
          abbrev rests : Seg
          rests = freed s g wanted

          rests-on-it : IsOn s g o.waits.horizon (freed s g wanted)
          rests-on-it = freed-on s g o.waits.horizon wanted owner o.waits.raised

          rests-open : is_open (local_of (freed s g wanted) g).phase ≡ true
          rests-open = ap is_open (rests-on-it.phases g) ∙ opens-so

          rests-undone : undone (s.locals g.0) ≤ q.cid.0
          rests-undone = by-parts (λ c level snapshot y. undone (s.locals g.0) ≤ c.0) (table-undone (s.locals g.0) z o.is row o.waits.last)

          pub table-all : (later : List Mark) → EachMark (IsLegalChange script) w.steps e [] (hold_mark s.node wanted ∷ (changes_rows (freed s g wanted) g (Some q)).marks) later
          table-all =
              start-all g q parts.again later-order its-next o.waits.horizon rests rests-on-it (freed-base s g wanted) wanted rests-open rests-undone (λ unaborted. still-sees.0 (still-to-run unaborted)) (λ unaborted. still-sees.1 place.0 (still-to-run unaborted)) still-alive

          pub table-stops : Stops (marks_in w.steps ++ hold_mark (w.segs i).node wanted ∷ []) (freed (w.segs i) g wanted).node g q (selected q.cond (shown_to (freed (w.segs i) g wanted) g q)) (starts_from (freed (w.segs i) g wanted))
          table-stops =
              there-stops g q parts.again later-order its-next o.waits.horizon rests rests-on-it (freed-base s g wanted) wanted rests-open rests-undone (λ unaborted. still-sees.0 (still-to-run unaborted)) (λ unaborted. still-sees.1 place.0 (still-to-run unaborted)) still-alive owner refl

          pub table-says : Says ms (at i) g q (after_marks (hold_mark s.node wanted ∷ []) (changes_rows (freed s g wanted) g (Some q)))
          table-says =
              start-says g q parts.again later-order its-next o.waits.horizon rests rests-on-it (freed-base s g wanted) wanted rests-open rests-undone (λ unaborted. still-sees.0 (still-to-run unaborted)) (λ unaborted. still-sees.1 place.0 (still-to-run unaborted)) still-alive

          table-goes : Goes (after_marks (hold_mark s.node wanted ∷ []) (changes_rows (freed s g wanted) g (Some q)))
          table-goes =
              start-goes g q parts.again later-order its-next o.waits.horizon rests rests-on-it (freed-base s g wanted) wanted rests-open rests-undone (λ unaborted. still-sees.0 (still-to-run unaborted)) (λ unaborted. still-sees.1 place.0 (still-to-run unaborted)) still-alive

        -- at a row
        module _ (wanted : Claim) (owner : wanted.gxid ≡ g) (rid : Rid) (row : z.row ≡ Some rid) where
          its-half : is_aborted ms g ≡ false → IsHalfDone ms s.versions (at i) g q (rid ∷ z.rows) z.count
          its-half unaborted = subst (IsHalfAt ms s.versions (at i) g z) row (subst (IsHalf ms s.versions (at i) g) o.is (h.halves i g.0 place.0)) q changes unaborted

          row-upto : undone (s.locals g.0) ≤ q.cid.0 + 1
          row-upto = by-parts (λ c level snapshot y. undone (s.locals g.0) ≤ c.0 + 1) (subst (λ n. undone (s.locals g.0) ≤ n + 1) o.waits.last (undone-drops (s.locals g.0).suspended (s.locals g.0).last))

          pub at-row-all : (later : List Mark) → EachMark (IsLegalChange script) w.steps e [] (goes_through g q (rid ∷ z.rows) (is_granted s g wanted) z.count).marks later
          at-row-all = row-all g q parts.again later-order its-next o.waits.horizon o.waits.raised opens-so wanted owner row-upto (λ unaborted. still-sees.0 (still-to-run unaborted)) (rid ∷ z.rows) z.count its-half still-alive

          pub at-row-stops : Stops (marks_in w.steps ++ []) (w.segs i).node g q (rid ∷ z.rows) (is_granted (w.segs i) g wanted)
          at-row-stops = here-stops g q parts.again later-order its-next o.waits.horizon o.waits.raised opens-so wanted owner row-upto (λ unaborted. still-sees.0 (still-to-run unaborted)) (rid ∷ z.rows) z.count its-half still-alive

          pub at-row-says : Says ms (at i) g q (goes_through g q (rid ∷ z.rows) (is_granted s g wanted) z.count)
          at-row-says = row-says g q parts.again later-order its-next o.waits.horizon o.waits.raised opens-so wanted owner row-upto (λ unaborted. still-sees.0 (still-to-run unaborted)) (rid ∷ z.rows) z.count its-half still-alive

          at-row-goes : Goes (goes_through g q (rid ∷ z.rows) (is_granted s g wanted) z.count)
          at-row-goes = row-goes g q parts.again later-order its-next o.waits.horizon o.waits.raised opens-so wanted owner row-upto (λ unaborted. still-sees.0 (still-to-run unaborted)) (rid ∷ z.rows) z.count its-half still-alive

      pub resumption-goes : IsSo → (y : SegTurn) → Continues s g z y → Goes y
      resumption-goes sent y (inl q) =
          subst Goes (sym q.ran) (
            select-runs g z.cid z.level z.snapshot still (freed s g q.wanted) (freed-base s g q.wanted) q.wanted q.query (subst (IsOrder script ms (at i) g z.cid z.level z.snapshot) q.is (sent.0 numbered_lines))
                (shown (freed s g q.wanted) q.snapshot g z.cid q.query.table) (first_fault q.query.cond (shown (freed s g q.wanted) q.snapshot g z.cid q.query.table)),
            select-works ms (at i) s (b.knows.well.names i) g z.cid (table-undone (s.locals g.0) z o.is q.row o.waits.last) still (freed s g q.wanted) (freed-base s g q.wanted) (hold_mark s.node q.wanted ∷ []) (tt, tt) q.query
                (shown (freed s g q.wanted) q.snapshot g z.cid q.query.table) (first_fault q.query.cond (shown (freed s g q.wanted) q.snapshot g z.cid q.query.table)),
          )
      resumption-goes sent y (inr (inl q)) =
          subst Goes (sym q.ran) (
            insert-runs g z.cid z.level z.snapshot still (freed s g q.wanted) (freed-base s g q.wanted) q.wanted q.table q.rows (subst (IsOrder script ms (at i) g z.cid z.level z.snapshot) q.is (sent.0 numbered_lines)) sent.1 (sent.2 refl),
            insert-works ms (at i) s (b.knows.well.names i) g z.cid (table-undone (s.locals g.0) z o.is q.row o.waits.last) still (freed s g q.wanted) (freed-base s g q.wanted) (hold_mark s.node q.wanted ∷ []) (tt, tt) q.table q.rows,
          )
      resumption-goes sent y (inr (inr (inl q))) =
          subst Goes (sym q.ran) (
            lock-runs g z.cid z.level z.snapshot still (freed s g q.wanted) (freed-base s g q.wanted) q.wanted q.table q.mode (subst (IsOrder script ms (at i) g z.cid z.level z.snapshot) q.is (sent.0 numbered_lines)),
            lock-works ms (at i) s (b.knows.well.names i) g z.cid (table-undone (s.locals g.0) z o.is q.row o.waits.last) still (freed s g q.wanted) (freed-base s g q.wanted) (hold_mark s.node q.wanted ∷ []) (tt, tt),
          )
      resumption-goes sent y (inr (inr (inr (inl q)))) = subst Goes (sym q.ran) (table-goes q.change q.changes sent q.wanted q.owner q.row)
      resumption-goes sent y (inr (inr (inr (inr q)))) = subst Goes (sym q.goes.is) (at-row-goes q.goes.at.change q.goes.at.changes sent q.wanted q.owner q.goes.at.rid q.goes.at.row)

    pub seg-leads : Moves turn × Works ms (at i) s turn → DoViewsStay w (seg_did w (at i) e (seg_rule script (w.segs i) x fails)) → Holds script next (w.steps ++ step ∷ []) × CountsStay w (seg_did w (at i) e (seg_rule script (w.segs i) x fails))
    seg-leads v stay = (from-move v.0 v.1 stay, counts v.0 v.1 stay)
      where
        quiet : Each NoWrite (numbered (λ node. turn.seg.sent) turn.outs)
        quiet = sent-no-write (λ node. turn.seg.sent) turn.outs

        late-nexts : Move script ms w.steps e (at i) s turn → (j g : ℕ) → nexts_in w.segs j g ≤ nexts_in next j g
        late-nexts v j g = by_test (eqb j i) refl
          where
            by_test : (q : Bool) → eqb j i ≡ q → next_command ((w.segs j).locals g) ≤ next_command ((if q then (seg_rule script (w.segs i) x fails).seg else w.segs j).locals g)
            by_test true q = subst (λ a. next_command ((w.segs a).locals g) ≤ next_command (turn.seg.locals g)) (sym (eqb-true j i q)) (v.nexts g)
            by_test false q = le-same (next_command ((w.segs j).locals g))

        next-here : (g : ℕ) → nexts_in next i g ≡ next_command (turn.seg.locals g)
        next-here g = ap (λ q. next_command ((if q then (seg_rule script (w.segs i) x fails).seg else w.segs i).locals g)) (eqb-self i)

        past-one : (m : Mark) → IsPastHere (λ g. next_command (turn.seg.locals g)) (at i) m → IsPastMark (nexts_in next) m
        past-one (mark.Write g c n t r x) p = subst (λ (a : Node). r.cid.0 < nexts_in next a.0 r.gxid.0) (sym p.0) (subst (λ a. r.cid.0 < a) (sym (next-here r.gxid.0)) p.1)
        past-one m p = tt

        word-one : (ns : List Mark) (m : Message) → IsOutOf script ns (λ g. next_command (turn.seg.locals g)) (at i) m → IsWordOf script ns (locals_in next) (at i) m
        word-one ns (message.Answer g r) d = subst (λ n. IsToldOf script ns n (at i) g r) (sym (next-here g.0)) d
        word-one ns (message.Exec g c l x y z) d = tt
        word-one ns (message.Prepare g) d = tt
        word-one ns (message.Commit g) d = tt
        word-one ns (message.CommitPrepared g) d = tt
        word-one ns (message.Abort g) d = tt
        word-one ns (message.Forget g) d = tt
        word-one ns (message.Collect round) d = tt
        word-one ns (message.Graph round graph) d = tt
        word-one ns message.Up d = tt

        sent-told : (ns : List Mark) (f : ℕ → ℕ) (outs : List Out) → Each (λ (o : Out). IsOutOf script ns (λ g. next_command (turn.seg.locals g)) (at i) o.message) outs → Each (SentTold script ns (locals_in next) (at i)) (numbered f outs)
        sent-told ns f [] d = tt
        sent-told ns f (o ∷ outs) d = (word-one ns o.message d.0, sent-told ns (counted f o) outs d.1)

        -- the turn's own marks send nothing
        plain-told : (ns xs : List Mark) → Each (PlainAt script (at i)) xs → Each (SentTold script ns (locals_in next) (at i)) xs
        plain-told ns [] d = tt
        plain-told ns (mark.Sent to number told ∷ xs) d = absurd d.0
        plain-told ns (m ∷ xs) d = (tt, plain-told ns xs d.1)

        plain : Each (PlainAt script (at i)) turn.marks
        plain = subst (λ node. Each (PlainAt script node) turn.marks) (b.knows.well.names i) (seg_stays script (w.segs i) (subst (IsSegment script) (sym (b.knows.well.names i)) place) x fails).marks

        out-more : (m : Message) → IsOutOf script (ms ++ turn.marks) (λ g. next_command (turn.seg.locals g)) (at i) m → IsOutOf script (ms ++ (turn.marks ++ sent)) (λ g. next_command (turn.seg.locals g)) (at i) m
        out-more (message.Answer g r) d = subst (λ ns. IsToldOf script ns (next_command (turn.seg.locals g.0)) (at i) g r) (append_assoc ms turn.marks sent) (told-more script numbered_lines (ms ++ turn.marks) sent _ _ (at i) g r (le-same (next_command (turn.seg.locals g.0))) d)
        out-more (message.Exec g c l x y z) d = tt
        out-more (message.Prepare g) d = tt
        out-more (message.Commit g) d = tt
        out-more (message.CommitPrepared g) d = tt
        out-more (message.Abort g) d = tt
        out-more (message.Forget g) d = tt
        out-more (message.Collect round) d = tt
        out-more (message.Graph round graph) d = tt
        out-more message.Up d = tt

        undone-here : (g : ℕ) → undone_in next i g ≡ undone (turn.seg.locals g)
        undone-here g = ap (λ q. undone ((if q then (seg_rule script (w.segs i) x fails).seg else w.segs i).locals g)) (eqb-self i)

        late-undone : Works ms (at i) s turn → (j g : ℕ) → undone_in w.segs j g ≤ undone_in next j g
        late-undone z j g = by_test (eqb j i) refl
          where
            by_test : (q : Bool) → eqb j i ≡ q → undone ((w.segs j).locals g) ≤ undone ((if q then (seg_rule script (w.segs i) x fails).seg else w.segs j).locals g)
            by_test true q = subst (λ a. undone ((w.segs a).locals g) ≤ undone (turn.seg.locals g)) (sym (eqb-true j i q)) (z.rises g)
            by_test false q = le-same (undone ((w.segs j).locals g))

        its-begun : (all : List Mark) (actor : Gxid) (m : Mark) → IsIts all (at i) actor (undone (turn.seg.locals actor.0)) m → IsBegun all (undone_in next) m
        its-begun all actor (mark.Write g c n t r z) q =
            subst (λ (a : Node). c.0 < undone_in next a.0 g.0) (sym q.2) (subst (λ a. c.0 < a) (sym (undone-here g.0)) (subst (λ (a : Gxid). c.0 < undone (turn.seg.locals a.0)) (sym q.0) q.1))
        its-begun all actor (mark.Skip g c r) q =
            λ unaborted. record { node = at i; home = q.2 unaborted; begun = subst (λ a. c.0 < a) (sym (undone-here g.0)) (subst (λ (a : Gxid). c.0 < undone (turn.seg.locals a.0)) (sym q.0) q.1) }
        its-begun all actor m q = tt

        stand-so : Move script ms w.steps e (at i) s turn → HaveHomes (ms ++ (turn.marks ++ sent))
        stand-so v = homes-behind script ms (turn.marks ++ sent) placed (homes-placed script ms ms (turn.marks ++ sent) (homes-append script ms ms turn.marks sent v.homes (no-writes-home script ms (ms ++ turn.marks) sent quiet)))

        counts : Move script ms w.steps e (at i) s turn → Works ms (at i) s turn → DoViewsStay w (seg_did w (at i) e (seg_rule script (w.segs i) x fails)) → CountsStay w (seg_did w (at i) e (seg_rule script (w.segs i) x fails))
        counts v z stay node g c ran = (
          counts-by ms (turn.marks ++ sent) (marks_in (w.steps ++ step ∷ [])) node g c (marks-last w.steps step)
              (count-append node g c turn.marks sent
              ∙ ap (λ n. n + count_at node g c sent) (none-counted (ms ++ (turn.marks ++ sent)) i z.actor (undone (turn.seg.locals z.actor.0)) (nexts_in w.segs) node g c ran turn.marks (its-all script w (seg_did w (at i) e (seg_rule script (w.segs i) x fails)) b.knows.well stay i turn sent quiet (marks-last w.steps step) z (stand-so v)) z.starts)
              ∙ none-plus (count_at node g c sent)
              ∙ no-write-count node g c sent quiet),
          lt-le ran (late-nexts v node.0 g.0),
        )

        from-move : Move script ms w.steps e (at i) s turn → Works ms (at i) s turn → DoViewsStay w (seg_did w (at i) e (seg_rule script (w.segs i) x fails)) → Holds script next (w.steps ++ step ∷ [])
        from-move v z stay =
            one-more script numbered_lines w.segs next w.steps (w.steps ++ step ∷ []) step.marks (marks-last w.steps step) (late-nexts v) (late-undone z) h homes past
            (each_append (StepTold script (ms ++ step.marks) (locals_in next)) w.steps (step ∷ []) (steps-more script numbered_lines ms step.marks (locals_in w.segs) (locals_in next) (late-nexts v) w.steps h.told) (told, tt)) kept
            (legal-push script [] w.steps step h.legal legal) begun halves
          where
            after : World
            after = seg_did w (at i) e (seg_rule script (w.segs i) x fails)

            stand : HaveHomes (ms ++ (turn.marks ++ sent))
            stand = stand-so v

            begun : Each (IsBegun (ms ++ (turn.marks ++ sent)) (undone_in next)) (turn.marks ++ sent)
            begun = each_append (IsBegun (ms ++ (turn.marks ++ sent)) (undone_in next)) turn.marks sent
                (each_weaker (IsIts (ms ++ (turn.marks ++ sent)) (at i) z.actor (undone (turn.seg.locals z.actor.0))) (IsBegun (ms ++ (turn.marks ++ sent)) (undone_in next)) (λ m q. its-begun (ms ++ (turn.marks ++ sent)) z.actor m q) turn.marks
                (its-all script w after b.knows.well stay i turn sent quiet (marks-last w.steps step) z stand))
                (each_weaker NoWrite (IsBegun (ms ++ (turn.marks ++ sent)) (undone_in next)) (λ m q. no-write-begun (ms ++ (turn.marks ++ sent)) (undone_in next) m q) sent quiet)

            halves : (j g : ℕ) → 1 ≤ j → IsHalf (ms ++ (turn.marks ++ sent)) (next j).versions (at j) (gx g) ((next j).locals g).suspended
            halves j g one = by_test (eqb j i) refl
              where
                by_test : (q : Bool) → eqb j i ≡ q
                    → IsHalf (ms ++ (turn.marks ++ sent)) (if q then (seg_rule script (w.segs i) x fails).seg else w.segs j).versions (at j) (gx g) ((if q then (seg_rule script (w.segs i) x fails).seg else w.segs j).locals g).suspended
                by_test true q =
                    subst (λ a. IsHalf (ms ++ (turn.marks ++ sent)) turn.seg.versions (at a) (gx g) (turn.seg.locals g).suspended) (sym (eqb-true j i q))
                    (half-here script w after b.knows.well stay i turn sent quiet (marks-last w.steps step) z stand g (h.halves i g place.0))
                by_test false q = half-away script w after b.knows.well stay i turn sent quiet (marks-last w.steps step) z stand j g q (h.halves j g one)

            homes : AreRowsHome script ms ms (turn.marks ++ sent)
            homes = homes-append script ms ms turn.marks sent v.homes (no-writes-home script ms (ms ++ turn.marks) sent quiet)

            past : Each (IsPastMark (nexts_in next)) (turn.marks ++ sent)
            past = each_append (IsPastMark (nexts_in next)) turn.marks sent (each_weaker (IsPastHere (λ g. next_command (turn.seg.locals g)) (at i)) (IsPastMark (nexts_in next)) past-one turn.marks v.past) (each_weaker NoWrite (IsPastMark (nexts_in next)) (λ m q. no-write-past (nexts_in next) m q) sent quiet)

            told : StepTold script (ms ++ (turn.marks ++ sent)) (locals_in next) step
            told one =
                each_append (SentTold script (ms ++ (turn.marks ++ sent)) (locals_in next) (at i)) turn.marks sent (plain-told (ms ++ (turn.marks ++ sent)) turn.marks plain)
                (sent-told (ms ++ (turn.marks ++ sent)) (λ node. turn.seg.sent) turn.outs
                (each_weaker (λ (o : Out). IsOutOf script (ms ++ turn.marks) (λ g. next_command (turn.seg.locals g)) (at i) o.message) (λ (o : Out). IsOutOf script (ms ++ (turn.marks ++ sent)) (λ g. next_command (turn.seg.locals g)) (at i) o.message) (λ o d. out-more o.message d) turn.outs v.outs))

            kept : (j g : ℕ) → IsAnswerOf script (ms ++ (turn.marks ++ sent)) (next_command ((next j).locals g)) (at j) (gx g) ((next j).locals g).answer
            kept j g = by_test (eqb j i) refl
              where
                by_test : (q : Bool) → eqb j i ≡ q → IsAnswerOf script (ms ++ (turn.marks ++ sent)) (next_command ((if q then (seg_rule script (w.segs i) x fails).seg else w.segs j).locals g)) (at j) (gx g) ((if q then (seg_rule script (w.segs i) x fails).seg else w.segs j).locals g).answer
                by_test true q =
                    subst (λ a. IsAnswerOf script (ms ++ (turn.marks ++ sent)) (next_command (turn.seg.locals g)) (at a) (gx g) (turn.seg.locals g).answer) (sym (eqb-true j i q))
                    (subst (λ ns. IsAnswerOf script ns (next_command (turn.seg.locals g)) (at i) (gx g) (turn.seg.locals g).answer) (append_assoc ms turn.marks sent) (answer-more script numbered_lines (ms ++ turn.marks) sent _ _ (at i) (gx g) (turn.seg.locals g).answer (le-same (next_command (turn.seg.locals g))) (v.kept g)))
                by_test false q = answer-more script numbered_lines ms (turn.marks ++ sent) _ _ (at j) (gx g) ((w.segs j).locals g).answer (le-same (next_command ((w.segs j).locals g))) (h.kept j g)

            legal : EachMark (WriteLegal script) w.steps e [] (turn.marks ++ sent) []
            legal = marks-append (WriteLegal script) w.steps e [] turn.marks sent [] (v.legal (sent ++ [])) (no-writes-legal script w.steps e turn.marks sent [] quiet)
