-- Every answer to a command that a segment sends was earned when it was sent first.
use Rattle.std.proofs.Common.{◌≡◌, ◌≤◌, ◌⊎◌, inl, inr, ℕ, List, [], ◌∷◌, ◌++◌, Option, Some, None, Bool, true, false, refl, sym, subst, ap, ◌∙◌, if◌then◌else◌, eqb, arith, append_assoc, append-nil}
use Rattle.std.proofs.lemmas.Bool.{eqb-true}
use Rattle.std.specs.Prelude.{◌+◌, length, slice_get, take}
use Rattle.gx_lemmas.proofs.Options.{some-same}
use Rattle.gx_lemmas.proofs.Numbers.{eqb-self}
use Rattle.gx_ids.specs.declared.ids.Cid.{Cid}
use Rattle.gx_ids.specs.declared.ids.Gxid.{Gxid}
use Rattle.gx_ids.specs.declared.ids.Node.{Node}
use Rattle.gx_ids.specs.declared.ids.Table.{Table}
use Rattle.gx_tree.specs.declared.query.Query.{Query}
use Rattle.gx_tree.specs.declared.row.KeyedRow.{KeyedRow}
use Rattle.gx_tree.specs.declared.slice.Slice.{Slice}
use Rattle.gx_tree.specs.declared.slice.Slice.TheVariants as slice
use Rattle.gx_tree.specs.declared.stmt.Level.{Level}
use Rattle.gx_tree.specs.declared.stmt.Stmt.TheVariants as stmt
use Rattle.gx_dsnap.specs.declared.snapshot.Snapshot.{Snapshot}
use Rattle.gx_meaning.specs.declared.fault.ArithFault.{ArithFault}
use Rattle.gx_msg.specs.declared.message.Message.{Message}
use Rattle.gx_msg.specs.declared.message.Message.TheVariants as message
use Rattle.gx_msg.specs.declared.message.Out.{Out}
use Rattle.gx_msg.specs.declared.reply.Reply.{Reply}
use Rattle.gx_msg.specs.declared.reply.Reply.TheVariants as reply
use Rattle.gx_script.specs.declared.Script.{Script}
use Rattle.gx_store.specs.declared.event.Event.{Event}
use Rattle.gx_store.specs.declared.mark.Mark.{Mark}
use Rattle.gx_store.specs.declared.mark.Mark.TheVariants as mark
use Rattle.gx_store.specs.declared.node.NodeEvent.{NodeEvent}
use Rattle.gx_store.specs.declared.run.Step.{Step}
use Rattle.gx_store.specs.Commands.{IsSnapshotAt}
use Rattle.gx_store.specs.Marks.{is_aborted}
use Rattle.gx_store.specs.Messages.{IsSent}
use Rattle.gx_store.specs.Ordered.{IsSegment}
use Rattle.gx_store.specs.Points.{marks_in}
use Rattle.gx_store.specs.Refusals.{the_coordinator}
use Rattle.gx_store.specs.Waits.{is_held}
use Rattle.gx_waits.specs.Claims.{claim}
use Rattle.gx_waits.specs.declared.claim.Claim.{Claim}
use Rattle.gx_waits.specs.declared.object.Object.{Object}
use Rattle.gx_waits.specs.declared.object.Object.TheVariants.{Relation, Transaction, Tuple}
use Rattle.gx_modes.specs.declared.modes.Mode.{Mode}
use Rattle.gx_rules.specs.Changes.{Change, change_of, changes_rows, goes_through}
use Rattle.gx_rules.specs.Running.{is_granted, unless_end}
use Rattle.gx_rules.specs.AtSegment.{on_event, raised, seg_rule}
use Rattle.gx_rules.specs.Machine.{World, seg_did, world_of}
use Rattle.gx_rules.specs.Segments.{Local, Seg, SegTurn, Suspended, after_marks, local_of, reply as reply_out}
use Rattle.gx_rules.specs.Locks.{hold_mark}
use Rattle.gx_rules.specs.Sending.{numbered}
use Rattle.gx_rules.specs.Shown.{shown}
use Rattle.gx_rules.specs.Slices.{Moved, adds, answers, first_fault, has_written, inserted, inserts, reads, selects}
use Rattle.gx_law_order.proofs.Lists.{each_weaker, get_last}
use Rattle.gx_law_order.specs.Lists.{Each}
use Rattle.gx_law_order.proofs.AtSegments.{PlainAt, seg_stays}
use Rattle.gx_law_order.proofs.Changing.{change-parts}
use Rattle.gx_law_order.proofs.Ordered.{world_well}
use Rattle.gx_law_order.proofs.Waiting.{freed}
use Rattle.gx_law_order.proofs.More.{marks-last}
use Rattle.gx_law_order.specs.Orders.{IsOrder, IsReadBy, IsServed}
use Rattle.gx_store.specs.Language.{AreLinesNumbered}
use Rattle.gx_law_order.proofs.Outs.{order-more}
use Rattle.gx_law_order.specs.Pairs.{IsVote}
use Rattle.gx_law_order.specs.Standings.{at, gx}
use Rattle.gx_law_order.proofs.Journals.{world-hold}
use Rattle.gx_law_locks.specs.Late.{AreReleasesLate}
use Rattle.gx_law_locks.proofs.Lasting.{granted-held}
use Rattle.gx_law_locks.proofs.Marks.{quiet-late}
use Rattle.gx_law_locks.proofs.Orders.{order-still}
use Rattle.gx_law_locks.proofs.HoldsInRuns.{numbered-quiet}
use Rattle.gx_law_writes.specs.Homes.{IsPlacedMark}
use Rattle.gx_law_writes.proofs.Legal.{sent-no-write}
use Rattle.gx_law_writes.proofs.Moves.{own-rows}
use Rattle.gx_law_writes.proofs.Plans.{row-piece}
use Rattle.gx_law_writes.proofs.Rows.{inserted-answers, inserted-written}
use Rattle.gx_law_writes.proofs.Told.{IsWritten, written-more}
use Rattle.gx_law_writes.proofs.Turns.{IsOldReply, IsOldWord, NoWrite, Quiet, base}
use Rattle.gx_law_writes.proofs.World as writes
use Rattle.gx_law_answers.specs.Earned.{Events, IsEarned, IsReplyEarned, RunsAtOnce, RunsBehindWait}
use Rattle.gx_law_writes.specs.Parts.{IsPartOf}
use Rattle.gx_law_answers.specs.OneAnswer.{IsOfCommand}
use Rattle.gx_law_answers.specs.Truth.{AreWritten, IsLocked, IsTruth, SendNothing}
use Rattle.gx_law_writes.proofs.Pieces.{select-line, slice-is}
use Rattle.gx_law_writes.specs.Changes.{IsTrueTurn}
use Rattle.gx_law_answers.proofs.Changed.{AreAnswersOf, Leaves, change-leaves, change-truth, loop-leaves, says-true}
use Rattle.gx_law_answers.proofs.Posts.{Came}
use Rattle.gx_law_answers.proofs.Resumptions.{answer-of, unsuspended}
use Rattle.gx_law_answers.proofs.Running.{AtItsRow, Doings, IsLate, Runs, snapshot-of}
use Rattle.gx_law_writes.proofs.Shown.{shown-part}
use Rattle.gx_law_answers.proofs.Shown.{only-at}
use Rattle.gx_law_answers.proofs.Truths.{aborted-more, marks_of, reply_of, select-truth}

abbrev pub IsKeptEarned : Script → Events → Node → Gxid → Option Reply → Type 0
IsKeptEarned script es node g None = Unit {0}
IsKeptEarned script es node g (Some r) = IsReplyEarned script es node g r

-- what it says if it is an answer
abbrev pub IsWordEarned : Script → Events → Node → Message → Type 0
IsWordEarned script es node m = (g : Gxid) (r : Reply) → m ≡ message.Answer g r → IsReplyEarned script es node g r

abbrev pub IsSentEarned : Script → Events → Node → Mark → Type 0
IsSentEarned script es node m = (to : Node) (number : ℕ) (g : Gxid) (r : Reply) → m ≡ mark.Sent to number (message.Answer g r) → IsReplyEarned script es node g r

abbrev pub IsStepEarned : Script → Events → Step → Type 0
IsStepEarned script es s = 1 ≤ s.stamp.node.0 → Each (IsSentEarned script es s.stamp.node) s.marks

-- MORE EVENTS
module _ (script : Script) (es : Events) (x : Event × Bool) (node : Node) where
  abbrev later : Events
  later = es ++ x ∷ []

  earned-later : (g : Gxid) (c : Cid) (r : Reply) → IsEarned script es node g c r → IsEarned script (es ++ x ∷ []) node g c r
  earned-later g c r t =
      record { upto = t.upto; rest = t.rest ++ x ∷ []; split = ap (λ z. z ++ x ∷ []) t.split ∙ append_assoc t.upto t.rest (x ∷ []); level = t.level; snapshot = t.snapshot; slice = t.slice; given = t.given; number = t.number; sent = t.sent; order = t.order; taken = t.taken; truth = t.truth }

  pub answer-later : (g : Gxid) (r : Reply) → IsReplyEarned script es node g r → IsReplyEarned script (es ++ x ∷ []) node g r
  answer-later g (reply.Done c w n p) t = earned-later g c (reply.Done c w n p) t
  answer-later g (reply.Failed c z) t = earned-later g c (reply.Failed c z) t
  answer-later g reply.Prepared t = tt
  answer-later g reply.Committed t = tt
  answer-later g reply.Jfault t = tt
  answer-later g reply.Again t = tt
  answer-later g reply.Restarted t = tt
  answer-later g reply.Aborted t = tt
  answer-later g reply.Forgotten t = tt

  pub kept-later : (g : Gxid) (o : Option Reply) → IsKeptEarned script es node g o → IsKeptEarned script (es ++ x ∷ []) node g o
  kept-later g None t = tt
  kept-later g (Some r) t = answer-later g r t

pub step-later : (script : Script) (es : Events) (x : Event × Bool) (s : Step) → IsStepEarned script es s → IsStepEarned script (es ++ x ∷ []) s
step-later script es x s t one = each_weaker (IsSentEarned script es s.stamp.node) (IsSentEarned script (es ++ x ∷ []) s.stamp.node) (λ m h to number g r q. answer-later script es x s.stamp.node g r (h to number g r q)) s.marks (t one)

pub record AreEarned (script : Script) (es : Events) (w : World) : Type 0 where
  pub sent : Each (IsStepEarned script es) w.steps
  pub kept : (i h : ℕ) → 1 ≤ i → IsKeptEarned script es (at i) (gx h) ((w.segs i).locals h).answer

-- rows that are written
are-written : (marks : List Mark) (rows : List KeyedRow) → Each (IsWritten marks) rows → AreWritten marks rows
are-written marks [] h = tt
are-written marks (r ∷ rs) h = (h.0, are-written marks rs h.1)

-- a segment's own marks send nothing
plain-silent : (script : Script) (to : Node) (xs : List Mark) → Each (PlainAt script to) xs → SendNothing xs
plain-silent script to [] d = tt
plain-silent script to (mark.Sent n number told ∷ xs) d = absurd d.0
plain-silent script to (m ∷ xs) d = plain-silent script to xs d.1

-- what it has waited for changes no answer
granted-answers : (s : Seg) (g : Gxid) (wanted : Claim) → AreAnswersOf s (is_granted s g wanted).seg
granted-answers s g wanted h = by_object wanted.object ∙ answer-of s g h
  where
    held : Moved
    held = record { seg = freed s g wanted; marks = hold_mark s.node wanted ∷ [] }

    by_object : (o : Object) → ((unless_end wanted o held).seg.locals h).answer ≡ ((unsuspended s g).locals h).answer
    by_object (Transaction other) = refl
    by_object (Relation table) = refl
    by_object (Tuple rid) = refl

-- A SEGMENT'S TURN
module _ (script : Script) (some : 1 ≤ script.segments) (numbered_lines : AreLinesNumbered [] script.lines) (es : Events) (to : Node) (e : Event) (fails : Bool) (x : NodeEvent) (place : IsSegment script to) (is-late : IsLate script es to e fails x) where
  abbrev w : World
  w = world_of script es

  abbrev ms : List Mark
  ms = marks_in (world_of script es).steps

  abbrev s : Seg
  s = (world_of script es).segs to.0

  abbrev turn : SegTurn
  turn = on_event script ((world_of script es).segs to.0) x fails

  abbrev sent : List Mark
  sent = numbered (λ node. turn.seg.sent) turn.outs

  abbrev behind : Events
  behind = es ++ (e, fails) ∷ []

  abbrev late : World
  late = seg_did (world_of script es) to e (seg_rule script ((world_of script es).segs to.0) x fails)

  abbrev late-step : Step
  late-step = record { stamp = record { clock = (seg_rule script ((world_of script es).segs to.0) x fails).seg.clock; node = to }; event = e; marks = turn.marks ++ sent }

  placed : Each (IsPlacedMark script ms) ms
  placed = writes.world-placed script some numbered_lines es

  late-marks : marks_in late.steps ≡ ms ++ (turn.marks ++ sent)
  late-marks = marks-last (world_of script es).steps _

  self : eqb to.0 to.0 ≡ true
  self = eqb-self to.0

  -- a SELECT
  module _ (query : Query) (z : Runs script es to e fails x (slice.Select query)) (v : Snapshot) (has_it : z.snapshot ≡ Some v) where
    abbrev rows : List KeyedRow
    rows = shown (raised z.like z.horizon) v z.g z.c query.table

    pub select-ran : on_event script ((world_of script es).segs to.0) x fails ≡ after_marks (hold_mark ((world_of script es).segs to.0).node z.wanted ∷ []) (selects (base z.like z.horizon z.locks) z.g z.c query (shown (raised z.like z.horizon) v z.g z.c query.table) (first_fault query.cond (shown (raised z.like z.horizon) v z.g z.c query.table)))
    select-ran = z.ran ∙ ap (λ o. after_marks (hold_mark ((world_of script es).segs to.0).node z.wanted ∷ []) (reads (base z.like z.horizon z.locks) z.g z.c query o)) has_it

    pub select-order : IsOrder script ms to z.g z.c z.level z.snapshot (slice.Select query)
    select-order = z.came.order_is numbered_lines

    pub select-is : select-order.line ≡ stmt.Select query
    select-is = select-line select-order.line query (slice-is _ _ z.g z.c select-order.line select-order.pieces _ select-order.plan select-order.among)

    pub served : IsServed ms z.level z.g z.c v
    served = from-read (subst (λ l. IsReadBy ms z.level z.g z.c l z.snapshot) select-is select-order.read)
      where
        from-read : (y : Snapshot) × (z.snapshot ≡ Some y) × IsServed ms z.level z.g z.c y → IsServed ms z.level z.g z.c v
        from-read y = subst (IsServed ms z.level z.g z.c) (sym (some-same v y.0 (sym has_it ∙ y.1))) y.2

    pub snapshot-at : IsSnapshotAt ms z.level z.g z.c served.place
    snapshot-at = record { d = served.d; snapshot = v; taken = served.taken; serves = served.serves }

    pub rows-part : is_aborted ms z.g ≡ false → IsPartOf ms (take served.place ms) to z.g z.c query.table rows
    rows-part unaborted =
        shown-part ms (λ rid first e. only-at script ms first rid ms placed e) served.place to (raised z.like z.horizon) (z.versions ∙ (world-hold script some es to.0 place.0).versions) v z.g z.c query.table
        (λ rid only. z.sight unaborted v has_it served.place served.d served.taken query.table rid only)

  -- an answer that it gives is sent in its step
  answer-sent : (g : Gxid) (r : Reply) → turn.outs ≡ reply_out g r ∷ [] → IsSent late.steps to the_coordinator (turn.seg.sent + 1) (message.Answer g r)
  answer-sent g r given =
      record {
        step = length (world_of script es).steps;
        mark = length turn.marks;
        sending = record {
          sender = late-step;
          at = get_last (world_of script es).steps [] late-step;
          node = refl;
          sent = ap (λ outs. slice_get (turn.marks ++ numbered (λ node. turn.seg.sent) outs) (length turn.marks)) given ∙ get_last turn.marks [] (mark.Sent the_coordinator (turn.seg.sent + 1) (message.Answer g r));
        };
      }

  -- its own marks send nothing
  plain : Each (PlainAt script to) turn.marks
  plain = subst (λ node. Each (PlainAt script node) turn.marks) ((world_well script some es).names to.0) (seg_stays script s (subst (IsSegment script) (sym ((world_well script some es).names to.0)) place) x fails).marks

  silent : SendNothing turn.marks
  silent = plain-silent script to turn.marks plain

  pub record TurnEarned : Type 0 where
    pub kept : (h : ℕ) → IsKeptEarned script behind to (gx h) (turn.seg.locals h).answer
    pub outs : Each (λ (o : Out). IsWordEarned script behind to o.message) turn.outs

  -- a slice runs, or goes on
  new-answer : (g : Gxid) (c : Cid) (level : Level) (snapshot : Option Snapshot) (horizon : Gxid) (y : Slice) → Came script es to (message.Exec g c level snapshot horizon y) → (r : Reply) → turn.outs ≡ reply_out g r ∷ []
      → RunsAtOnce script (world_of script es) e fails to g c level snapshot y r ⊎ RunsBehindWait script (world_of script es) e to g c level snapshot y r → IsTruth ms (ms ++ (turn.marks ++ sent)) to level g c y r → c.0 ≤ (turn.seg.locals g.0).last → IsEarned script behind to g c r
  new-answer g c level snapshot horizon y came r given ran truth taken =
      record {
        upto = behind;
        rest = [];
        split = sym (append-nil behind);
        level = level;
        snapshot = snapshot;
        slice = y;
        given = record {
          before = es;
          event = e;
          fails = fails;
          last = refl;
          step = late-step;
          steps = ap (λ (v : World). v.steps) is-late;
          place = refl;
          ran = ran;
          own = turn.marks;
          number = turn.seg.sent + 1;
          silent = silent;
          marks = ap (λ outs. turn.marks ++ numbered (λ node. turn.seg.sent) outs) given;
        };
        number = turn.seg.sent + 1;
        sent = subst (λ (v : World). IsSent v.steps to the_coordinator (turn.seg.sent + 1) (message.Answer g r)) (sym is-late) (answer-sent g r given);
        order = subst (λ v. IsOrder script (marks_in v.steps) to g c level snapshot y) (sym is-late) (subst (λ m. IsOrder script m to g c level snapshot y) (sym late-marks) (order-more script ms (turn.marks ++ sent) to (message.Exec g c level snapshot horizon y) came.order_is numbered_lines));
        taken = subst (λ v. c.0 ≤ (local_of (v.segs to.0) g).last) (sym is-late) (subst (λ b. c.0 ≤ ((if b then (seg_rule script s x fails).seg else s).locals g.0).last) (sym self) taken);
        truth = subst (λ v. IsTruth ms (marks_in v.steps) to level g c y r) (sym is-late) (subst (λ m. IsTruth ms m to level g c y r) (sym late-marks) truth);
      }

  module _ (y : Slice) (z : Runs script es to e fails x y) where
    new-reply : (r : Reply) (xs : List Mark) → turn.outs ≡ reply_out z.g r ∷ [] → turn.marks ≡ xs → IsTruth ms (ms ++ (xs ++ sent)) to z.level z.g z.c y r → z.c.0 ≤ (turn.seg.locals z.g.0).last → IsEarned script behind to z.g z.c r
    new-reply r xs given same truth taken = new-answer z.g z.c z.level z.snapshot z.horizon y z.came r given (z.given r given) (subst (λ m. IsTruth ms (ms ++ (m ++ sent)) to z.level z.g z.c y r) (sym same) truth) taken

  module _ (kept : (h : ℕ) → IsKeptEarned script es to (gx h) (s.locals h).answer) (votes : (h : ℕ) → IsVote (s.locals h).phase (s.locals h).vote) where
    kept-more : (h : ℕ) → IsKeptEarned script behind to (gx h) (s.locals h).answer
    kept-more h = kept-later script es (e, fails) to (gx h) (s.locals h).answer (kept h)

    -- it repeats
    old-earned : (g : Gxid) (r : Reply) → IsOldReply s g r → IsReplyEarned script behind to g r
    old-earned g (reply.Done c w n p) (inl o) = subst (IsKeptEarned script behind to g) o (kept-more g.0)
    old-earned g (reply.Done c w n p) (inr o) = absurd (subst (IsVote (s.locals g.0).phase) o (votes g.0))
    old-earned g (reply.Failed c x) (inl o) = subst (IsKeptEarned script behind to g) o (kept-more g.0)
    old-earned g (reply.Failed c x) (inr o) = absurd (subst (IsVote (s.locals g.0).phase) o (votes g.0))
    old-earned g reply.Prepared o = tt
    old-earned g reply.Committed o = tt
    old-earned g reply.Jfault o = tt
    old-earned g reply.Again o = tt
    old-earned g reply.Restarted o = tt
    old-earned g reply.Aborted o = tt
    old-earned g reply.Forgotten o = tt

    quiet-earned : Quiet s turn → TurnEarned
    quiet-earned q =
        record {
          kept = λ h. subst (IsKeptEarned script behind to (gx h)) (sym (q.answers h)) (kept-more h);
          outs = each_weaker (λ (o : Out). IsOldWord s o.message) (λ (o : Out). IsWordEarned script behind to o.message) (λ o k g r q. old-earned g r (subst (IsOldWord s) q k)) turn.outs q.outs;
        }

    -- it tells nothing
    waits-earned : turn.outs ≡ [] → ((h : ℕ) → ((turn.seg.locals h).answer ≡ None) ⊎ ((turn.seg.locals h).answer ≡ (s.locals h).answer)) → TurnEarned
    waits-earned outs answers-kept = record { kept = λ h. by_kept h (answers-kept h); outs = subst (λ os. Each (λ (o : Out). IsWordEarned script behind to o.message) os) (sym outs) tt }
      where
        by_kept : (h : ℕ) → ((turn.seg.locals h).answer ≡ None) ⊎ ((turn.seg.locals h).answer ≡ (s.locals h).answer) → IsKeptEarned script behind to (gx h) (turn.seg.locals h).answer
        by_kept h (inl k) = subst (IsKeptEarned script behind to (gx h)) (sym k) tt
        by_kept h (inr k) = subst (IsKeptEarned script behind to (gx h)) (sym k) (kept-more h)

    -- it runs a command
    ran-earned : (g : Gxid) (c : Cid) (r : Reply) (lead : List Mark) (base : Seg) (xs : List Mark) → turn ≡ after_marks lead (answers base g c xs r) → ((h : ℕ) → (base.locals h).answer ≡ (s.locals h).answer) → (c.0 ≤ (turn.seg.locals g.0).last → IsReplyEarned script behind to g r) → TurnEarned
    ran-earned g c r lead base xs ran others now =
        record {
          kept = λ h. subst (λ (t : SegTurn). IsKeptEarned script behind to (gx h) (t.seg.locals h).answer) (sym ran) (by_test h (eqb h g.0) refl);
          outs = subst (λ (t : SegTurn). Each (λ (o : Out). IsWordEarned script behind to o.message) t.outs) (sym ran) (said, tt);
        }
      where
        le-same : (a b : ℕ) → a ≡ b → b ≤ a
        le-same a b q = omega (arith, q)

        after : Local
        after = record (local_of base g) { last = c.0; answer = Some r }

        earned : IsReplyEarned script behind to g r
        earned = now (le-same _ _ (ap (λ (t : SegTurn). (t.seg.locals g.0).last) ran ∙ ap (λ b. (if b then after else base.locals g.0).last) (eqb-self g.0)))

        said : (h : Gxid) (a : Reply) → message.Answer g r ≡ message.Answer h a → IsReplyEarned script behind to h a
        said h a q = subst (IsReplyEarned script behind to h) (same-reply q) (subst (λ k. IsReplyEarned script behind to k r) (same-gxid q) earned)
          where
            same-reply : message.Answer g r ≡ message.Answer h a → r ≡ a
            same-reply q = cc

            same-gxid : message.Answer g r ≡ message.Answer h a → g ≡ h
            same-gxid q = cc

        by_test : (h : ℕ) (b : Bool) → eqb h g.0 ≡ b → IsKeptEarned script behind to (gx h) (if b then after else base.locals h).answer
        by_test h true q = subst (λ k. IsKeptEarned script behind to (gx k) (Some r)) (sym (eqb-true h g.0 q)) earned
        by_test h false q = subst (IsKeptEarned script behind to (gx h)) (sym (others h)) (kept-more h)

    quiet-sent : Each NoWrite sent
    quiet-sent = sent-no-write (λ node. turn.seg.sent) turn.outs

    select-earned : (query : Query) → Runs script es to e fails x (slice.Select query) → TurnEarned
    select-earned query z = by_fault (first_fault query.cond (rows query z v has_it)) refl (select-ran query z v has_it)
      where
        v : Snapshot
        v = (snapshot-of z.snapshot z.reads).0

        has_it : z.snapshot ≡ Some v
        has_it = (snapshot-of z.snapshot z.reads).1

        hold : Mark
        hold = hold_mark s.node z.wanted

        truth : (o : Option (KeyedRow × ArithFault)) → first_fault query.cond (rows query z v has_it) ≡ o → (wrote : Bool) → IsTruth ms (ms ++ (hold ∷ marks_of z.g z.c o ++ sent)) to z.level z.g z.c (slice.Select query) (reply_of z.c wrote query (rows query z v has_it) o)
        truth o q wrote = by_abort o q (is_aborted ms z.g) refl
          where
            by_abort : (o : Option (KeyedRow × ArithFault)) → first_fault query.cond (rows query z v has_it) ≡ o → (b : Bool) → is_aborted ms z.g ≡ b → IsTruth ms (ms ++ (hold ∷ marks_of z.g z.c o ++ sent)) to z.level z.g z.c (slice.Select query) (reply_of z.c wrote query (rows query z v has_it) o)
            by_abort None f true a = inl (aborted-more ms _ z.g a)
            by_abort (Some fault) f true a = inl (aborted-more ms _ z.g a)
            by_abort o f false a = select-truth ms sent quiet-sent to z.level z.g z.c a (served query z v has_it).place (snapshot-at query z v has_it) query (rows query z v has_it) (rows-part query z v has_it a) wrote s.node z.wanted o f

        by_fault : (o : Option (KeyedRow × ArithFault)) → first_fault query.cond (rows query z v has_it) ≡ o → turn ≡ after_marks (hold ∷ []) (selects (base z.like z.horizon z.locks) z.g z.c query (rows query z v has_it) o) → TurnEarned
        by_fault None f ran = ran-earned z.g z.c _ (hold ∷ []) (base z.like z.horizon z.locks) [] ran z.answers (new-reply (slice.Select query) z _ (hold ∷ []) (ap (λ (t : SegTurn). t.outs) ran) (ap (λ (t : SegTurn). t.marks) ran) (truth None f (has_written (local_of z.like z.g).phase)))
        by_fault (Some fault) f ran = ran-earned z.g z.c _ (hold ∷ []) (base z.like z.horizon z.locks) _ ran z.answers (new-reply (slice.Select query) z _ _ (ap (λ (t : SegTurn). t.outs) ran) (ap (λ (t : SegTurn). t.marks) ran) (truth (Some fault) f (has_written (local_of z.like z.g).phase)))

    insert-earned : (table : Table) (rows : List KeyedRow) → Runs script es to e fails x (slice.Insert table rows) → TurnEarned
    insert-earned table rows z =
        ran-earned z.g z.c _ (hold ∷ []) (inserted (base z.like z.horizon z.locks) z.g z.c table rows).seg _ ran (λ h. inserted-answers (base z.like z.horizon z.locks) z.g z.c table rows h ∙ z.answers h)
        (new-reply (slice.Insert table rows) z _ (hold ∷ marks) (ap (λ (t : SegTurn). t.outs) ran) (ap (λ (t : SegTurn). t.marks) ran) truth)
      where
        ran : turn ≡ after_marks (hold_mark s.node z.wanted ∷ []) (inserts z.g z.c (length rows) (inserted (base z.like z.horizon z.locks) z.g z.c table rows))
        ran = z.ran ∙ ap (λ o. after_marks (hold_mark s.node z.wanted ∷ []) (adds (base z.like z.horizon z.locks) z.g z.c table rows o)) (snapshot-of z.snapshot z.reads).1

        hold : Mark
        hold = hold_mark s.node z.wanted

        marks : List Mark
        marks = (inserted (base z.like z.horizon z.locks) z.g z.c table rows).marks

        held : List Mark
        held = ms ++ hold ∷ []

        written : Each (IsWritten (held ++ marks)) rows
        written =
            inserted-written held (base z.like z.horizon z.locks) z.g z.c table rows
            (own-rows script ms to z.g z.c table rows (row-piece script ms to z.g z.c z.level z.snapshot table rows (z.came.order_is numbered_lines)))

        all : List Mark
        all = ms ++ (hold ∷ marks ++ sent)

        seam : (held ++ marks) ++ sent ≡ all
        seam = append_assoc held marks sent ∙ append_assoc ms (hold ∷ []) (marks ++ sent)

        truth : (length rows ≡ length rows) × AreWritten all rows
        truth = (refl, subst (λ m. AreWritten m rows) seam (are-written ((held ++ marks) ++ sent) rows (each_weaker (IsWritten (held ++ marks)) (IsWritten ((held ++ marks) ++ sent)) (λ r k. written-more (held ++ marks) sent r.rid k) rows written)))

    -- what a LOCK TABLE asks for is held
    lock-earned : (table : Table) (mode : Mode) → Runs script es to e fails x (slice.Lock table mode) → TurnEarned
    lock-earned table mode z =
        ran-earned z.g z.c _ (hold ∷ []) (base z.like z.horizon z.locks) [] z.ran z.answers
        (new-reply (slice.Lock table mode) z _ (hold ∷ []) (ap (λ (t : SegTurn). t.outs) z.ran) (ap (λ (t : SegTurn). t.marks) z.ran) (refl, locked))
      where
        hold : Mark
        hold = hold_mark s.node z.wanted

        hold-is : mark.Hold to z.g (Relation table) mode ≡ hold
        hold-is = ap (λ (n : Node). hold_mark n (claim z.g (Relation table) mode)) (sym ((world_well script some es).names to.0)) ∙ ap (hold_mark s.node) z.lock

        late-sent : AreReleasesLate ms (hold ∷ sent)
        late-sent = quiet-late (ms ++ hold ∷ []) sent (numbered-quiet (λ node. turn.seg.sent) turn.outs)

        locked : IsLocked (ms ++ (hold ∷ sent)) to z.g table mode
        locked =
            record {
              segment = subst (λ h. is_held (ms ++ (h ∷ sent)) to z.g (Relation table) mode ≡ true) hold-is (granted-held ms sent to z.g (Relation table) mode (numbered-quiet (λ node. turn.seg.sent) turn.outs));
              coordinator = λ runs. order-still script ms (hold ∷ sent) late-sent (message.Exec z.g z.c z.level z.snapshot z.horizon (slice.Lock table mode)) z.came.locked runs;
            }

    -- AN UPDATE OR DELETE
    -- it answers what is so, or waits
    module _ (g : Gxid) (c : Cid) (level : Level) (snapshot : Option Snapshot) (horizon : Gxid) (y : Slice) (k : Change) (changes : change_of c level snapshot y ≡ Some k) (came : Came script es to (message.Exec g c level snapshot horizon y)) (turned : IsTrueTurn script (world_of script es) e to g k turn)
        (ran : (r : Reply) → turn.outs ≡ reply_out g r ∷ [] → RunsAtOnce script (world_of script es) e fails to g c level snapshot y r ⊎ RunsBehindWait script (world_of script es) e to g c level snapshot y r) where
      cid-is : k.cid ≡ c
      cid-is = (change-parts c level snapshot y k changes).cid

      answer-earned : (r : Reply) → IsOfCommand r c → turn.outs ≡ reply_out g r ∷ [] → c.0 ≤ (turn.seg.locals g.0).last → IsEarned script behind to g c r
      answer-earned r kind given taken =
          new-answer g c level snapshot horizon y came r given (ran r given)
          (change-truth ms (ms ++ (turn.marks ++ sent)) to g c level snapshot y k changes r
          (says-true ms to g k turn sent (turn.seg.sent + 1) r given (ap (numbered (λ node. turn.seg.sent)) given) silent (subst (IsOfCommand r) (sym cid-is) kind) turned.says)) taken

      reply-earned : (r : Reply) → IsOfCommand r c → turn.outs ≡ reply_out g r ∷ [] → c.0 ≤ (turn.seg.locals g.0).last → IsReplyEarned script behind to g r
      reply-earned (reply.Done d w n p) kind given taken = subst (λ b. IsEarned script behind to g b (reply.Done d w n p)) (sym kind) (answer-earned (reply.Done d w n p) kind given taken)
      reply-earned (reply.Failed d x) kind given taken = subst (λ b. IsEarned script behind to g b (reply.Failed d x)) (sym kind) (answer-earned (reply.Failed d x) kind given taken)
      reply-earned reply.Prepared kind given taken = tt
      reply-earned reply.Committed kind given taken = tt
      reply-earned reply.Jfault kind given taken = tt
      reply-earned reply.Again kind given taken = tt
      reply-earned reply.Restarted kind given taken = tt
      reply-earned reply.Aborted kind given taken = tt
      reply-earned reply.Forgotten kind given taken = tt

      left-earned : (lead : List Mark) (t : SegTurn) → turn ≡ after_marks lead t → Leaves s g c t → TurnEarned
      left-earned lead t is (inl a) =
          let so : turn ≡ after_marks lead (answers a.base g c a.marks a.said) = is ∙ ap (after_marks lead) a.is in
          ran-earned g c a.said lead a.base a.marks so a.others (reply-earned a.said a.kind (ap (λ (z : SegTurn). z.outs) so))
      left-earned lead t is (inr w) = waits-earned (ap (λ (z : SegTurn). z.outs) is ∙ w.outs) (λ h. subst (λ (z : SegTurn). ((z.seg.locals h).answer ≡ None) ⊎ ((z.seg.locals h).answer ≡ (s.locals h).answer)) (sym is) (w.kept h))

    change-earned : (y : Slice) (z : Runs script es to e fails x y) (k : Change) → change_of z.c z.level z.snapshot y ≡ Some k → on_event script ((world_of script es).segs to.0) x fails ≡ after_marks (hold_mark s.node z.wanted ∷ []) (changes_rows (base z.like z.horizon z.locks) z.g (Some k)) → TurnEarned
    change-earned y z k changes ran =
        left-earned z.g z.c z.level z.snapshot z.horizon y k changes z.came (z.turned k changes) z.given (hold_mark s.node z.wanted ∷ []) (changes_rows (base z.like z.horizon z.locks) z.g (Some k)) ran
        (subst (λ c. Leaves s z.g c (changes_rows (base z.like z.horizon z.locks) z.g (Some k))) (change-parts z.c z.level z.snapshot y k changes).cid (change-leaves s z.g k (base z.like z.horizon z.locks) z.answers))

    row-earned : AtItsRow script es to e fails x → TurnEarned
    row-earned z =
        left-earned z.g o.cid o.level o.snapshot z.on.waits.horizon o.slice k z.goes.at.changes z.came (z.turned k z.goes.at.changes) (λ r given. inr (z.given r given)) [] (goes_through z.g k (z.goes.at.rid ∷ o.rows) (is_granted s z.g z.on.wanted) o.count) z.goes.is
        (subst (λ c. Leaves s z.g c (goes_through z.g k (z.goes.at.rid ∷ o.rows) (is_granted s z.g z.on.wanted) o.count)) (change-parts o.cid o.level o.snapshot o.slice k z.goes.at.changes).cid
        (loop-leaves s z.g k (z.goes.at.rid ∷ o.rows) (is_granted s z.g z.on.wanted) o.count (granted-answers s z.g z.on.wanted)))
      where
        o : Suspended
        o = z.on.slice

        k : Change
        k = z.goes.at.change

    runs-earned : (y : Slice) → Runs script es to e fails x y → TurnEarned
    runs-earned (slice.Select query) z = select-earned query z
    runs-earned (slice.Insert table keyed) z = insert-earned table keyed z
    runs-earned (slice.Update t a d) z =
        let v = snapshot-of z.snapshot z.reads in
        change-earned (slice.Update t a d) z _ (ap (λ q. change_of z.c z.level q (slice.Update t a d)) v.1)
        (z.ran ∙ ap (λ q. after_marks (hold_mark s.node z.wanted ∷ []) (changes_rows (base z.like z.horizon z.locks) z.g (change_of z.c z.level q (slice.Update t a d)))) v.1)
    runs-earned (slice.Delete t d) z =
        let v = snapshot-of z.snapshot z.reads in
        change-earned (slice.Delete t d) z _ (ap (λ q. change_of z.c z.level q (slice.Delete t d)) v.1)
        (z.ran ∙ ap (λ q. after_marks (hold_mark s.node z.wanted ∷ []) (changes_rows (base z.like z.horizon z.locks) z.g (change_of z.c z.level q (slice.Delete t d)))) v.1)
    runs-earned (slice.Lock t m) z = lock-earned t m z

    pub turn-earned : Doings script es to e fails x → TurnEarned
    turn-earned (inl q) = quiet-earned q
    turn-earned (inr (inl q)) = waits-earned q.outs q.kept
    turn-earned (inr (inr (inl z))) = runs-earned z.0 z.1
    turn-earned (inr (inr (inr z))) = row-earned z
