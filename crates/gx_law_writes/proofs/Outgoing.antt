-- Over every run of the machine, an INSERT goes out only where its constants have values.
use Rattle.std.proofs.Common.{◌≡◌, ◌≤◌, inl, inr, ℕ, ◌+◌, List, [], ◌∷◌, ◌++◌, Option, Some, None, Result, Ok, Err, Bool, true, false, refl, sym, subst, ap, ◌∙◌, if◌then◌else◌, append_assoc, append-nil, arith}
use Rattle.std.specs.Prelude.{All}
use Rattle.gx_lemmas.proofs.Options.{some-same}
use Rattle.gx_ids.specs.declared.ids.Cid.{Cid}
use Rattle.gx_ids.specs.declared.ids.Gxid.{Gxid}
use Rattle.gx_ids.specs.declared.ids.Node.{Node}
use Rattle.gx_ids.specs.declared.ids.SessionId.{SessionId}
use Rattle.gx_ids.specs.declared.ids.Table.{Table}
use Rattle.gx_tree.specs.declared.expr.Expr.{Expr}
use Rattle.gx_tree.specs.declared.row.KeyedRow.{KeyedRow}
use Rattle.gx_tree.specs.declared.schema.Dist.{Dist}
use Rattle.gx_tree.specs.declared.slice.Slice.{Slice}
use Rattle.gx_tree.specs.declared.stmt.Level.{Level}
use Rattle.gx_tree.specs.declared.stmt.Stmt.{Stmt}
use Rattle.gx_tree.specs.declared.stmt.Stmt.TheVariants as stmt
use Rattle.gx_dsnap.specs.declared.snapshot.Snapshot.{Snapshot}
use Rattle.gx_meaning.specs.Constants.{rows_of}
use Rattle.gx_meaning.specs.Expressions.{and_then}
use Rattle.gx_meaning.specs.Plan.{insert_pieces, plan_of}
use Rattle.gx_meaning.specs.declared.fault.ArithFault.{ArithFault}
use Rattle.gx_meaning.specs.declared.piece.Piece.{Piece}
use Rattle.gx_msg.specs.declared.message.Message.{Message}
use Rattle.gx_msg.specs.declared.message.Message.TheVariants as message
use Rattle.gx_msg.specs.declared.message.Out.{Out}
use Rattle.gx_script.specs.declared.Script.{Script}
use Rattle.gx_store.specs.declared.event.Event.{Event}
use Rattle.gx_store.specs.declared.event.Event.TheVariants as event
use Rattle.gx_store.specs.declared.mark.Mark.{Mark}
use Rattle.gx_store.specs.declared.mark.Mark.TheVariants as mark
use Rattle.gx_store.specs.declared.node.NodeEvent.{NodeEvent}
use Rattle.gx_store.specs.declared.run.Step.{Step}
use Rattle.gx_store.specs.Answers.{HasValues}
use Rattle.gx_store.specs.Commands.{RunsCommand}
use Rattle.gx_store.specs.Language.{AreLinesNumbered}
use Rattle.gx_store.specs.Lines.{BlockState, Outside, InBlock, Failed, cid_of, is_command, level_of, state_of, stmt_of, transaction_of}
use Rattle.gx_store.specs.Marks.{answer_count, is_begun, started_after}
use Rattle.gx_store.specs.Ordered.{IsSegment}
use Rattle.gx_store.specs.Points.{Point, before, marks_in, starts_in, starts_by}
use Rattle.gx_store.specs.Refusals.{the_coordinator}
use Rattle.gx_store.specs.Writes.{dist_of}
use Rattle.gx_rules.specs.AtCoordinator.{table_of, cancel_turn, cancels, coord_can, coord_turn, on_event}
use Rattle.gx_store.specs.Outgoing.{AreMarksWhole, AreSentWhole, IsWhole}
use Rattle.gx_rules.specs.AtSegment as segment
use Rattle.gx_rules.specs.AtSegment.{seg_rule}
use Rattle.gx_rules.specs.Coordinators.{CoordTurn}
use Rattle.gx_rules.specs.Machine.{Letter, World, and_cancelled, coord_did, posted, seg_can, seg_did, with_more, world_of}
use Rattle.gx_rules.specs.Segments.{SegTurn}
use Rattle.gx_rules.specs.Sending.{clock_after, counted, numbered}
use Rattle.gx_rules.proofs.Turns.{with_more-last}
use Rattle.gx_law_order.specs.Finish.{point_at}
use Rattle.gx_law_order.specs.Moves.{Move, world_by}
use Rattle.gx_law_order.specs.Orders.{IsOrder}
use Rattle.gx_law_order.specs.Said.{is_answer}
use Rattle.gx_law_order.specs.Standings.{at}
use Rattle.gx_law_order.proofs.Always.{by-heard, heard-at}
use Rattle.gx_law_order.proofs.AtCoordinators.{cancel_stays, coord_stays}
use Rattle.gx_law_order.proofs.AtSegments.{PlainAt, seg_stays}
use Rattle.gx_law_order.proofs.Complete.{starts-last}
use Rattle.gx_law_order.proofs.Induction.{IsThere, at-events}
use Rattle.gx_law_order.proofs.Legality as histories
use Rattle.gx_law_order.specs.Lists.{Each}
use Rattle.gx_law_order.proofs.More.{marks-last}
use Rattle.gx_law_order.proofs.Moves.{HasNamed}
use Rattle.gx_law_order.proofs.Raised.{OfHorizon, message_keeps, resume_keeps}
use Rattle.gx_law_order.proofs.Said.{CalmFor, Said, said-calm}
use Rattle.gx_law_order.proofs.Sendings.{IsOrderLetter}
use Rattle.gx_law_order.proofs.Stepping as stepping
use Rattle.gx_law_order.proofs.Suspended.{IsAmong, among-posted, each-among}
use Rattle.gx_law_order.proofs.Whole.{Both, moves-both}
use Rattle.gx_law_writes.proofs.Plans.{rows-are}
use Rattle.gx_law_writes.proofs.Progress.{rows-values}
use Rattle.gx_law_writes.proofs.Statements.{IsOf, command-is}

-- WHAT WAS PLANNED HAS VALUES
plan-values : (n : ℕ) (dist : Dist) (g : Gxid) (c : Cid) (table : Table) (tuples : List (List Expr)) (pieces : List Piece) → plan_of n dist g c (stmt.Insert table tuples) ≡ Ok pieces → All HasValues tuples
plan-values n dist g c table tuples pieces e = by_rows (rows_of g c tuples) refl e
  where
    by_rows : (o : Result (List KeyedRow) ArithFault) → rows_of g c tuples ≡ o → and_then o (λ rows. Ok (insert_pieces n dist table rows)) ≡ Ok pieces → All HasValues tuples
    by_rows (Ok rows) is e = rows-values g c 1 tuples rows (rows-are g c 1 tuples rows is)
    by_rows (Err fault) is e = absurd (cc)

order-values : (script : Script) (marks : List Mark) (node : Node) (g : Gxid) (c : Cid) (level : Level) (x : Option Snapshot) (y : Slice) (table : Table) (tuples : List (List Expr)) (o : IsOrder script marks node g c level x y) → o.line ≡ stmt.Insert table tuples → All HasValues tuples
order-values script marks node g c level x y table tuples o same =
    plan-values script.segments (dist_of script.tables (table_of (stmt.Insert table tuples))) g c table tuples o.pieces
    (subst (λ line. plan_of script.segments (dist_of script.tables (table_of line)) g c line ≡ Ok o.pieces) same o.plan)

-- WHOSE LINE IS UNDER WAY
-- A command under way at a point behind which nothing is started or answered in its step is so behind the step.
module _ (script : Script) (steps : List Step) (s : Step) (earlier rest : List Mark) (is : s.marks ≡ earlier ++ rest) (k : SessionId) (calm : Each (CalmFor k) rest) where
  abbrev here : List Mark
  here = marks_in steps ++ earlier

  abbrev behind : List Mark
  behind = marks_in (steps ++ s ∷ []) ++ []

  all : behind ≡ here ++ rest
  all = append-nil (marks_in (steps ++ s ∷ [])) ∙ marks-last steps s ∙ ap (λ ms. marks_in steps ++ ms) is ∙ sym (append_assoc (marks_in steps) earlier rest)

  said : Said script k behind (answer_count k here) (state_of script k here) (is_begun k here) (started_after k None here)
  said =
      subst (λ ms. Said script k ms (answer_count k here) (state_of script k here) (is_begun k here) (started_after k None here)) (sym all)
      (said-calm script k here rest (answer_count k here) (state_of script k here) (is_begun k here) (started_after k None here) (record { answered = refl; state = refl; begun = refl; started = refl }) calm)

  same : (b : BlockState) → transaction_of b k behind ≡ transaction_of b k here
  same Outside = ap (λ z. if z then started_after k None behind else None) said.begun ∙ ap (λ z. if is_begun k here then z else None) said.started
  same (InBlock l n) = said.started
  same Failed = refl

  plus-none : (a : ℕ) → a + 0 ≡ a
  plus-none a = omega arith

  runs-on : (line : Stmt) (level : Level) (g : Gxid) (c : Cid) → RunsCommand script (record { steps = steps; event = s.event; earlier = earlier; later = [] }) k line level g c → RunsCommand script (point_at (steps ++ s ∷ []) event.Round [] []) k line level g c
  runs-on line level g c r =
      record {
        line = record {
          started = plus-none (starts_in k (steps ++ s ∷ [])) ∙ starts-last k steps s ∙ r.line.started ∙ ap (λ n. n + 1) (sym said.answered);
          line = ap (λ n. stmt_of k (n + 1) script.lines) said.answered ∙ r.line.line;
        };
        command = ap (λ b. is_command b line) said.state ∙ r.command;
        transaction = ap (λ b. transaction_of b k behind) said.state ∙ same (state_of script k here) ∙ r.transaction;
        number = r.number ∙ ap cid_of (sym said.state);
        isolation = r.isolation ∙ ap level_of (sym said.state);
      }

-- MARKS BEHIND ONE ANOTHER
whole-append : (script : Script) (steps : List Step) (e : Event) (earlier xs ys : List Mark) → AreMarksWhole script steps e earlier xs → AreMarksWhole script steps e (earlier ++ xs) ys → AreMarksWhole script steps e earlier (xs ++ ys)
whole-append script steps e earlier [] ys f h = subst (λ b. AreMarksWhole script steps e b ys) (append-nil earlier) h
whole-append script steps e earlier (x ∷ xs) ys f h = (f.0, whole-append script steps e (earlier ++ x ∷ []) xs ys f.1 (subst (λ b. AreMarksWhole script steps e b ys) (sym (append_assoc earlier (x ∷ []) xs)) h))

plain-whole : (script : Script) (node : Node) (steps : List Step) (e : Event) (earlier ms : List Mark) → Each (PlainAt script node) ms → AreMarksWhole script steps e earlier ms
plain-whole script node steps e earlier [] p = tt
plain-whole script node steps e earlier (mark.Sent to number told ∷ ms) p = absurd p.0
plain-whole script node steps e earlier (m ∷ ms) p = (tt, plain-whole script node steps e (earlier ++ m ∷ []) ms p.1)

answers-whole : (script : Script) (steps : List Step) (e : Event) (earlier : List Mark) (f : ℕ → ℕ) (outs : List Out) → Each (λ (o : Out). is_answer o.message ≡ true) outs → AreMarksWhole script steps e earlier (numbered f outs)
answers-whole script steps e earlier f [] a = tt
answers-whole script steps e earlier f (o ∷ outs) a = (one o.message a.0, answers-whole script steps e (earlier ++ mark.Sent o.node (f o.node.0 + 1) o.message ∷ []) (counted f o) outs a.1)
  where
    one : (m : Message) → is_answer m ≡ true → IsWhole script (record { steps = steps; event = e; earlier = earlier; later = [] }) (mark.Sent o.node (f o.node.0 + 1) m)
    one (message.Exec g c level x h y) q = absurd (cc)
    one m q = tt

-- STEPS BEHIND ONE ANOTHER
whole-push : (script : Script) (before ss : List Step) (s : Step) → AreSentWhole script before ss → AreMarksWhole script (before ++ ss) s.event [] s.marks → AreSentWhole script before (ss ++ s ∷ [])
whole-push script before [] s e f = (subst (λ b. AreMarksWhole script b s.event [] s.marks) (append-nil before) f, tt)
whole-push script before (x ∷ ss) s e f = (e.0, whole-push script (before ++ x ∷ []) ss s e.1 (subst (λ b. AreMarksWhole script b s.event [] s.marks) (sym (append_assoc before (x ∷ []) ss)) f))

whole-more : (script : Script) (before ss : List Step) (s : Step) (more : List Mark) → AreMarksWhole script (before ++ ss) s.event s.marks more → AreSentWhole script before (ss ++ s ∷ []) → AreSentWhole script before (ss ++ record s { marks = s.marks ++ more } ∷ [])
whole-more script before [] s more n e = (whole-append script before s.event [] s.marks more e.0 (subst (λ b. AreMarksWhole script b s.event s.marks more) (append-nil before) n), tt)
whole-more script before (x ∷ ss) s more n e = (e.0, whole-more script (before ++ x ∷ []) ss s more (subst (λ b. AreMarksWhole script b s.event s.marks more) (sym (append_assoc before (x ∷ []) ss)) n) e.1)

-- LETTERS OF THE COORDINATOR
abbrev IsPosted : List Letter → Mark → Type 0
IsPosted ls (mark.Sent to number m) = (l : Letter) × IsAmong l ls × (l.from ≡ the_coordinator) × (l.to ≡ to) × (l.envelope.message ≡ m)
IsPosted ls _ = Unit {0}

are-posted : (clock : ℕ) (ms : List Mark) (sent : List Letter) → Each (IsPosted (posted the_coordinator clock ms sent)) ms
are-posted clock [] sent = tt
are-posted clock (mark.Sent to number m ∷ ms) sent =
    let l : Letter = record { from = the_coordinator; to = to; envelope = record { number = number; clock = clock; incarnation = 1; message = m } } in
    ((l, among-posted the_coordinator clock ms (l ∷ sent) l (inl refl), refl, refl, refl), are-posted clock ms (l ∷ sent))
are-posted clock (m ∷ ms) sent = (tt, are-posted clock ms sent)

each-behind : {A : Type 0} (P : A → Type 0) (xs ys : List A) → Each P (xs ++ ys) → Each P ys
each-behind P [] ys e = e
each-behind P (x ∷ xs) ys e = each-behind P xs ys e.1

sent-calm : (k : SessionId) (f : ℕ → ℕ) (outs : List Out) → Each (CalmFor k) (numbered f outs)
sent-calm k f [] = tt
sent-calm k f (o ∷ outs) = (tt, sent-calm k (counted f o) outs)

module _ (script : Script) (some : 1 ≤ script.segments) (numbered_lines : AreLinesNumbered [] script.lines) where
  record Known (w : World) : Type 0 where
    both : Both script some w
    holds : stepping.Holds script w

  moves-known : (ms : List Move) → Known (world_by script ms)
  moves-known ms = record { both = moves-both script some ms; holds = histories.moves-holds script some ms }

  -- what the coordinator sends at the end of a world's last step
  module _ (v : World) (n : Known v) (steps : List Step) (s : Step) (last : v.steps ≡ steps ++ s ∷ []) where
    sending-whole : (earlier rest : List Mark) (to : Node) (m : Message) → s.marks ≡ earlier ++ rest → ((k : SessionId) → Each (CalmFor k) rest) → (number : ℕ) → IsPosted v.sent (mark.Sent to number m)
        → IsWhole script (record { steps = steps; event = s.event; earlier = earlier; later = [] }) (mark.Sent to number m)
    sending-whole earlier rest to (message.Exec g c level x h y) is calm number p = λ session table tuples isolation runs. values session table tuples isolation runs
      where
        letter : Letter
        letter = p.0

        order : IsOrder script (marks_in v.steps) letter.to g c level x y
        order = subst (λ (m : Message). Rattle.gx_law_order.proofs.Outs.MessageIs script (marks_in v.steps) letter.to m) p.4 (each-among (IsOrderLetter script (marks_in v.steps)) v.sent letter n.holds.orders p.1 p.2) numbered_lines

        values : (session : SessionId) (table : Table) (tuples : List (List Expr)) (isolation : Level) → RunsCommand script (record { steps = steps; event = s.event; earlier = earlier; later = [] }) session (stmt.Insert table tuples) isolation g c → All HasValues tuples
        values session table tuples isolation runs = order-values script (marks_in v.steps) letter.to g c level x y table tuples order (some-same order.line (stmt.Insert table tuples) (sym order.of ∙ its.of))
          where
            its : IsOf script (marks_in v.steps) (stmt.Insert table tuples) isolation g c
            its =
                command-is script numbered_lines v n.holds.sessions event.Round [] [] session (stmt.Insert table tuples) isolation g c refl tt
                (subst (λ ss. RunsCommand script (point_at ss event.Round [] []) session (stmt.Insert table tuples) isolation g c) (sym last) (runs-on script steps s earlier rest is session (calm session) (stmt.Insert table tuples) isolation g c runs))
    sending-whole earlier rest to (message.Prepare g) is calm number p = tt
    sending-whole earlier rest to (message.Commit g) is calm number p = tt
    sending-whole earlier rest to (message.CommitPrepared g) is calm number p = tt
    sending-whole earlier rest to (message.Abort g) is calm number p = tt
    sending-whole earlier rest to (message.Forget g) is calm number p = tt
    sending-whole earlier rest to (message.Collect round) is calm number p = tt
    sending-whole earlier rest to (message.Answer g r) is calm number p = tt
    sending-whole earlier rest to (message.Graph round graph) is calm number p = tt
    sending-whole earlier rest to message.Up is calm number p = tt

    sendings-whole : (earlier : List Mark) (f : ℕ → ℕ) (outs : List Out) → s.marks ≡ earlier ++ numbered f outs → Each (IsPosted v.sent) (numbered f outs) → AreMarksWhole script steps s.event earlier (numbered f outs)
    sendings-whole earlier f [] is p = tt
    sendings-whole earlier f (o ∷ outs) is p =
        let m : Mark = mark.Sent o.node (f o.node.0 + 1) o.message in (
          sending-whole earlier (m ∷ numbered (counted f o) outs) o.node o.message is (λ k. (tt, sent-calm k (counted f o) outs)) (f o.node.0 + 1) p.0,
          sendings-whole (earlier ++ m ∷ []) (counted f o) outs (is ∙ sym (append_assoc earlier (m ∷ []) (numbered (counted f o) outs))) p.1,
        )

  abbrev All-whole : World → Type 0
  All-whole w = AreSentWhole script [] w.steps

  coord-all : (w : World) → All-whole w → (e : Event) (x : NodeEvent) (fails : Bool) → Known w → Known (coord_did w e (coord_turn script w.coord x fails)) → All-whole (coord_did w e (coord_turn script w.coord x fails))
  coord-all w p e x fails n next =
      let turn : CoordTurn = on_event script w.coord x fails in
      let sent : List Mark = numbered turn.coord.sent turn.outs in
      let step : Step = record { stamp = record { clock = clock_after w.coord.clock x; node = the_coordinator }; event = e; marks = turn.marks ++ sent } in
      whole-push script [] w.steps step p
      (whole-append script w.steps e [] turn.marks sent (plain-whole script the_coordinator w.steps e [] turn.marks (coord_stays script some w.coord x fails n.both.knows.well.coordinator).marks)
      (sendings-whole (coord_did w e (coord_turn script w.coord x fails)) next w.steps step refl turn.marks turn.coord.sent turn.outs refl
      (each-behind (IsPosted (posted the_coordinator (clock_after w.coord.clock x) step.marks w.sent)) turn.marks sent (are-posted (clock_after w.coord.clock x) step.marks w.sent))))

  victim-all : (w : World) → All-whole w → (g : Gxid) → HasNamed w.steps w.coord.clock w.coord.rounds g → Known w → Known (and_cancelled w g) → All-whole (and_cancelled w g)
  victim-all w p g a n next =
      subst (AreSentWhole script []) (sym same)
      (whole-more script [] a.before a.step more
      (whole-append script a.before a.step.event a.step.marks turn.marks sent (plain-whole script the_coordinator a.before a.step.event a.step.marks turn.marks (cancel_stays script some w.coord g n.both.knows.well.coordinator).marks)
      (sendings-whole (and_cancelled w g) next a.before (record a.step { marks = a.step.marks ++ more }) same (a.step.marks ++ turn.marks) turn.coord.sent turn.outs (sym (append_assoc a.step.marks turn.marks sent))
      (each-behind (IsPosted (posted the_coordinator w.coord.clock more w.sent)) turn.marks sent (are-posted w.coord.clock more w.sent))))
      (subst (AreSentWhole script []) a.is p))
    where
      turn : CoordTurn
      turn = cancels w.coord g

      sent : List Mark
      sent = numbered turn.coord.sent turn.outs

      more : List Mark
      more = (cancel_turn w.coord g).marks

      same : (and_cancelled w g).steps ≡ a.before ++ record a.step { marks = a.step.marks ++ more } ∷ []
      same = ap (λ ss. with_more ss more) a.is ∙ with_more-last a.before a.step more

  any-horizon : (m : Message) → OfHorizon (λ h. Unit {0}) m
  any-horizon (message.Exec g c level x h y) = tt
  any-horizon m = tt

  seg-all : (w : World) → All-whole w → (e : Event) (x : NodeEvent) (fails : Bool) (i : ℕ) → IsSegment script (at i) → IsThere script w e (at i) x → seg_can script (w.segs i) x ≡ true → Known w → All-whole (seg_did w (at i) e (seg_rule script (w.segs i) x fails))
  seg-all w p e x fails i place t ok n = whole-push script [] w.steps step p (whole-append script w.steps e [] turn.marks sent (plain-whole script (at i) w.steps e [] turn.marks plain) (answers-whole script w.steps e turn.marks (λ node. turn.seg.sent) turn.outs answers))
    where
      turn : SegTurn
      turn = segment.on_event script (w.segs i) x fails

      sent : List Mark
      sent = numbered (λ node. turn.seg.sent) turn.outs

      step : Step
      step = record { stamp = record { clock = clock_after (w.segs i).clock x; node = at i }; event = e; marks = turn.marks ++ sent }

      plain : Each (PlainAt script (at i)) turn.marks
      plain = subst (λ node. Each (PlainAt script node) turn.marks) (n.both.knows.well.names i) (seg_stays script (w.segs i) (subst (IsSegment script) (sym (n.both.knows.well.names i)) place) x fails).marks

      answers : Each (λ (o : Out). is_answer o.message ≡ true) turn.outs
      answers =
          by-heard script w e i (λ y. Each (λ (o : Out). is_answer o.message ≡ true) (segment.on_event script (w.segs i) y fails).outs)
          (λ from envelope d. (message_keeps script (w.segs i) (λ h. Unit {0}) tt fails envelope.message (any-horizon envelope.message)).outs)
          (λ g able. (resume_keeps script (w.segs i) (λ h. Unit {0}) tt g _ _).outs)
          x (heard-at script w n.both.holds e x i place.0 t ok)

  pub world-whole : (es : List (Event × Bool)) → AreSentWhole script [] (world_of script es).steps
  world-whole es =
      at-events script some Known All-whole moves-known tt (λ w n p e x fails t ok next. coord-all w p e x fails n next) (λ w n p g a next. victim-all w p g a n next)
      (λ w n p e x fails i place t ok next. seg-all w p e x fails i place t ok n) es
