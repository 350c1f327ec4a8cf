-- Over every run of the machine, who waits for a lock at a node says there neither that its command is done nor that it has failed.
use Rattle.std.proofs.Common.{◌≡◌, ◌≤◌, inl, inr, ℕ, ◌+◌, List, [], ◌∷◌, ◌++◌, Option, Some, None, Bool, true, false, refl, sym, subst, ap, ◌∙◌, if◌then◌else◌, append_assoc, append-nil}
use Rattle.std.proofs.lemmas.Bool.{false_from_ne_true}
use Rattle.std.specs.List.{list_any}
use Rattle.std.specs.Prelude.{filter, is_some, length}
use Rattle.gx_lemmas.proofs.Numbers.{eqb-self}
use Rattle.gx_lemmas.proofs.Tests.{true-false}
use Rattle.gx_ids.specs.declared.ids.Cid.{Cid}
use Rattle.gx_ids.specs.declared.ids.Gxid.{Gxid}
use Rattle.gx_ids.specs.declared.ids.Node.{Node}
use Rattle.gx_tree.specs.declared.part.Part.TheVariants.{Rows}
use Rattle.gx_tree.specs.declared.query.Query.{Query}
use Rattle.gx_tree.specs.declared.row.KeyedRow.{KeyedRow}
use Rattle.gx_waits.specs.Claims.{is_of}
use Rattle.gx_meaning.specs.declared.fault.ArithFault.{ArithFault}
use Rattle.gx_msg.specs.declared.message.Message.{Message}
use Rattle.gx_msg.specs.declared.message.Message.TheVariants as message
use Rattle.gx_msg.specs.declared.message.Out.{Out}
use Rattle.gx_msg.specs.declared.reply.Reply.{Reply}
use Rattle.gx_msg.specs.declared.reply.Reply.TheVariants as reply
use Rattle.gx_script.specs.declared.Script.{Script}
use Rattle.gx_store.specs.declared.event.Event.{Event}
use Rattle.gx_store.specs.declared.mark.Mark.{Mark}
use Rattle.gx_store.specs.declared.mark.Mark.TheVariants as mark
use Rattle.gx_store.specs.declared.node.NodeEvent.{NodeEvent}
use Rattle.gx_store.specs.declared.node.NodeEvent.TheVariants as here
use Rattle.gx_store.specs.declared.run.Step.{Step}
use Rattle.gx_store.specs.Ordered.{IsSegment}
use Rattle.gx_store.specs.Points.{marks_in}
use Rattle.gx_store.specs.Refusals.{the_coordinator}
use Rattle.gx_store.specs.Silent.{AreMarksSilent, AreWaitersSilent, IsSilent}
use Rattle.gx_store.specs.Waits.{waits_at, waits_from}
use Rattle.gx_waits.specs.declared.claim.Claim.{Claim}
use Rattle.gx_rules.specs.AtCoordinator.{cancel_turn, cancels, coord_can, coord_turn, on_event}
use Rattle.gx_rules.specs.AtSegment as segment
use Rattle.gx_rules.specs.AtSegment.{seg_rule, raised}
use Rattle.gx_rules.specs.Changes.{Change, changes_rows, goes_through}
use Rattle.gx_rules.specs.Coordinators.{CoordTurn}
use Rattle.gx_rules.specs.Machine.{World, and_cancelled, coord_did, seg_can, seg_did, with_more, world_of}
use Rattle.gx_rules.specs.Segments.{Local, Phase, Seg, SegTurn, Suspended, local_of}
use Rattle.gx_rules.specs.Locks.{with_hold}
use Rattle.gx_rules.specs.Running.{is_granted}
use Rattle.gx_rules.specs.Shown.{shown}
use Rattle.gx_meaning.specs.Answer.{keeps, part_of}
use Rattle.gx_rules.specs.Sending.{clock_after, counted, numbered}
use Rattle.gx_rules.specs.Slices.{Moved, answers, cause_of, fails_on, first_fault, has_written, inserted, inserts, locks, selects}
use Rattle.gx_rules.proofs.Moving.{Ends, Keeps, loop-keeps}
use Rattle.gx_rules.proofs.Turns.{with_more-last}
use Rattle.gx_law_order.specs.Moves.{Move, world_by}
use Rattle.gx_law_order.specs.Pairs.{IsVote, Pair}
use Rattle.gx_law_order.specs.Said.{is_answer}
use Rattle.gx_law_order.specs.Standings.{Part, at, known_at}
use Rattle.gx_law_order.proofs.Always.{HeardAt, by-heard, heard-at, said-to}
use Rattle.gx_law_order.proofs.AtCoordinators.{CoordStays, cancel_stays, coord_stays}
use Rattle.gx_law_order.proofs.AtSegments.{PlainAt, seg_stays}
use Rattle.gx_law_order.proofs.Changing.{rows-change}
use Rattle.gx_law_order.proofs.Everywhere.{Holds, parts_in}
use Rattle.gx_law_order.proofs.Induction.{IsThere, at-events}
use Rattle.gx_law_order.specs.Lists.{Each}
use Rattle.gx_law_order.proofs.Lists.{each_append}
use Rattle.gx_law_order.proofs.More.{marks-last}
use Rattle.gx_law_order.proofs.Moves.{HasNamed}
use Rattle.gx_law_order.proofs.Steps.{cancel-leads, event-leads}
use Rattle.gx_law_order.proofs.Waiting.{GoesOn, freed, going-on}
use Rattle.gx_law_order.proofs.Whole.{Both, moves-both}
use Rattle.gx_law_order.proofs.World.{Knows}
use Rattle.gx_law_locks.proofs.HoldsInRuns.{Locked, moves-locked}
use Rattle.gx_law_locks.proofs.Legal.{none-listed}
use Rattle.gx_law_locks.proofs.Marks.{waits_from-append}
use Rattle.gx_law_locks.proofs.Single.{single-there}
use Rattle.gx_law_writes.proofs.Turns.{base, Continues, IsOldReply, IsOldWord, Quiet, Turns, message-turns, resumption-turns}

-- WHAT A SEGMENT SAYS IT KEEPS
-- a word on a command is its transaction's kept answer
abbrev IsKept : Seg → Message → Type 0
IsKept s (message.Answer g (reply.Done c w n p)) = is_some (s.locals g.0).answer ≡ true
IsKept s (message.Answer g (reply.Failed c x)) = is_some (s.locals g.0).answer ≡ true
IsKept s m = Unit {0}

abbrev Keeping : SegTurn → Type 0
Keeping turn = Each (λ (o : Out). IsKept turn.seg o.message) turn.outs

answer-kept : (s : Seg) (g : Gxid) (r : Reply) → is_some (s.locals g.0).answer ≡ true → IsKept s (message.Answer g r)
answer-kept s g (reply.Done c w n p) e = e
answer-kept s g (reply.Failed c x) e = e
answer-kept s g reply.Prepared e = tt
answer-kept s g reply.Committed e = tt
answer-kept s g reply.Jfault e = tt
answer-kept s g reply.Again e = tt
answer-kept s g reply.Restarted e = tt
answer-kept s g reply.Aborted e = tt
answer-kept s g reply.Forgotten e = tt

its-answer : (s : Seg) (g : Gxid) (c : Cid) (ms : List Mark) (r : Reply) → Keeping (answers s g c ms r)
its-answer s g c ms r = (answer-kept (answers s g c ms r).seg g r (ap (λ (b : Bool). is_some (if b then now else s.locals g.0).answer) (eqb-self g.0)), tt)
  where
    now : Local
    now = record (local_of s g) { last = c.0; answer = Some r }

its-fault : (s : Seg) (g : Gxid) (c : Cid) (f : KeyedRow × ArithFault) → Keeping (fails_on s g c f)
its-fault s g c f = its-answer s g c (mark.Fault g c f.0.rid (Some f.0.row) ∷ []) (reply.Failed c (cause_of f.1))

its-rows : (s : Seg) (g : Gxid) (c : Cid) (q : Query) (rows : List KeyedRow) (f : Option (KeyedRow × ArithFault)) → Keeping (selects s g c q rows f)
its-rows s g c q rows None = its-answer s g c [] (reply.Done c (has_written (local_of s g).phase) 0 (part_of q (filter (keeps q.cond) rows)))
its-rows s g c q rows (Some f) = its-fault s g c f

its-insert : (g : Gxid) (c : Cid) (count : ℕ) (m : Moved) → Keeping (inserts g c count m)
its-insert g c count m = its-answer m.seg g c m.marks (reply.Done c (has_written (local_of m.seg g).phase) count (Rows []))

its-lock : (s : Seg) (g : Gxid) (c : Cid) → Keeping (locks s g c)
its-lock s g c = its-answer s g c [] (reply.Done c (has_written (local_of s g).phase) 0 (Rows []))

any-moves : (g : Gxid) (k : Change) → Keeps g k (λ m. Unit {0})
any-moves g k = record { takes = λ m rid free e. tt; gives = λ m rid held e. tt; writes = λ m rid image why e. tt; skips = λ m rid why e. tt; faults = λ m rid image e. tt }

its-ends : (g : Gxid) (k : Change) → Ends g k (λ m. Unit {0}) Keeping
its-ends g k = record { done = λ m count e. its-answer m.seg g k.cid m.marks (reply.Done k.cid (has_written (local_of m.seg g).phase) count (Rows [])); stopped = λ m rid rest count t stop e. tt; failed = λ m cause e. its-answer m.seg g k.cid m.marks (reply.Failed k.cid cause) }

its-changes : (s : Seg) (g : Gxid) (k : Change) → Keeping (changes_rows s g (Some k))
its-changes s g k = rows-change g k (λ m. Unit {0}) Keeping (any-moves g k) (its-ends g k) s tt (its-fault s g k.cid)

-- what was kept before and says a word again: no vote is such a word
old-kept : (s : Seg) (turn : SegTurn) → Quiet s turn → ((h : ℕ) → IsVote (s.locals h).phase (s.locals h).vote) → Keeping turn
old-kept s turn q votes = each turn.outs q.outs
  where
    still : (g : Gxid) (r : Reply) → (s.locals g.0).answer ≡ Some r → is_some (turn.seg.locals g.0).answer ≡ true
    still g r e = ap is_some (q.answers g.0 ∙ e)

    one : (m : Message) → IsOldWord s m → IsKept turn.seg m
    one (message.Answer g (reply.Done c w n p)) (inl e) = still g _ e
    one (message.Answer g (reply.Done c w n p)) (inr e) = absurd (subst (IsVote (s.locals g.0).phase) e (votes g.0))
    one (message.Answer g (reply.Failed c x)) (inl e) = still g _ e
    one (message.Answer g (reply.Failed c x)) (inr e) = absurd (subst (IsVote (s.locals g.0).phase) e (votes g.0))
    one (message.Answer g reply.Prepared) e = tt
    one (message.Answer g reply.Committed) e = tt
    one (message.Answer g reply.Jfault) e = tt
    one (message.Answer g reply.Again) e = tt
    one (message.Answer g reply.Restarted) e = tt
    one (message.Answer g reply.Aborted) e = tt
    one (message.Answer g reply.Forgotten) e = tt
    one (message.Exec g c level x h y) e = tt
    one (message.Prepare g) e = tt
    one (message.Commit g) e = tt
    one (message.CommitPrepared g) e = tt
    one (message.Abort g) e = tt
    one (message.Forget g) e = tt
    one (message.Collect round) e = tt
    one (message.Graph round graph) e = tt
    one message.Up e = tt

    each : (outs : List Out) → Each (λ (o : Out). IsOldWord s o.message) outs → Each (λ (o : Out). IsKept turn.seg o.message) outs
    each [] e = tt
    each (o ∷ outs) e = (one o.message e.0, each outs e.1)

turn-kept : (script : Script) (s : Seg) (m : Message) (turn : SegTurn) → ((h : ℕ) → IsVote (s.locals h).phase (s.locals h).vote) → Turns script s m turn → Keeping turn
turn-kept script s m turn votes (inl q) = old-kept s turn q votes
turn-kept script s m turn votes (inr (inl x)) =
    subst Keeping (sym x.ran)
    (its-rows (base s x.horizon x.locks) x.g x.c x.query (shown (raised s x.horizon) x.snapshot x.g x.c x.query.table) (first_fault x.query.cond (shown (raised s x.horizon) x.snapshot x.g x.c x.query.table)))
turn-kept script s m turn votes (inr (inr (inl x))) = subst Keeping (sym x.ran) (its-insert x.g x.c (length x.rows) (inserted (base s x.horizon x.locks) x.g x.c x.table x.rows))
turn-kept script s m turn votes (inr (inr (inr (inl x)))) = subst Keeping (sym x.ran) tt
turn-kept script s m turn votes (inr (inr (inr (inr (inl x))))) = subst Keeping (sym x.ran) (its-lock (base s x.horizon x.locks) x.g x.c)
turn-kept script s m turn votes (inr (inr (inr (inr (inr x))))) = subst Keeping (sym x.ran) (its-changes (base s x.horizon (with_hold s.locks x.wanted)) x.g x.change)

again-kept : (s : Seg) (g : Gxid) (x : Suspended) (turn : SegTurn) → Continues s g x turn → Keeping turn
again-kept s g x turn (inl y) =
    subst Keeping (sym y.ran)
    (its-rows (freed s g y.wanted) g x.cid y.query (shown (freed s g y.wanted) y.snapshot g x.cid y.query.table) (first_fault y.query.cond (shown (freed s g y.wanted) y.snapshot g x.cid y.query.table)))
again-kept s g x turn (inr (inl y)) = subst Keeping (sym y.ran) (its-insert g x.cid (length y.rows) (inserted (freed s g y.wanted) g x.cid y.table y.rows))
again-kept s g x turn (inr (inr (inl y))) = subst Keeping (sym y.ran) (its-lock (freed s g y.wanted) g x.cid)
again-kept s g x turn (inr (inr (inr (inl y)))) = subst Keeping (sym y.ran) (its-changes (freed s g y.wanted) g y.change)
again-kept s g x turn (inr (inr (inr (inr y)))) = subst Keeping (sym y.goes.is) (loop-keeps g y.goes.at.change (λ m. Unit {0}) Keeping (any-moves g y.goes.at.change) (its-ends g y.goes.at.change) (y.goes.at.rid ∷ x.rows) (is_granted s g y.wanted) x.count tt)

heard-kept : (script : Script) (w : World) (n : Knows script w) (v : Holds script w) (e : Event) (i : ℕ) (x : NodeEvent) (fails : Bool) → HeardAt script w e i x → Keeping (segment.on_event script (w.segs i) x fails)
heard-kept script w n v e i x fails h =
    by-heard script w e i (λ y. Keeping (segment.on_event script (w.segs i) y fails))
    (λ from envelope d. turn-kept script (w.segs i) envelope.message _ (λ j. (v.stands.pairs i j).vote) (message-turns script (w.segs i) fails envelope.message))
    (λ g ok. let o = going-on script w n.well i g ok in again-kept (w.segs i) g o.slice _ (resumption-turns script w i g o))
    x h

-- MARKS BEHIND ONE ANOTHER
silent-append : (node : Node) (earlier xs ys : List Mark) → AreMarksSilent node earlier xs → AreMarksSilent node (earlier ++ xs) ys → AreMarksSilent node earlier (xs ++ ys)
silent-append node earlier [] ys e f = subst (λ b. AreMarksSilent node b ys) (append-nil earlier) f
silent-append node earlier (x ∷ xs) ys e f = (e.0, silent-append node (earlier ++ x ∷ []) xs ys e.1 (subst (λ b. AreMarksSilent node b ys) (sym (append_assoc earlier (x ∷ []) xs)) f))

-- marks that send no such word
abbrev NoWord : Mark → Type 0
NoWord (mark.Sent to number (message.Answer g (reply.Done c w n p))) = ⊥
NoWord (mark.Sent to number (message.Answer g (reply.Failed c x))) = ⊥
NoWord _ = Unit {0}

wordless : (node : Node) (earlier ms : List Mark) → Each NoWord ms → AreMarksSilent node earlier ms
wordless node earlier [] e = tt
wordless node earlier (m ∷ ms) e = (one m e.0, wordless node (earlier ++ m ∷ []) ms e.1)
  where
    one : (m : Mark) → NoWord m → IsSilent node earlier m
    one (mark.Sent to number (message.Answer g (reply.Done c w n p))) e = absurd e
    one (mark.Sent to number (message.Answer g (reply.Failed c x))) e = absurd e
    one m e = tt

plain-wordless : (script : Script) (node : Node) (ms : List Mark) → Each (PlainAt script node) ms → Each NoWord ms
plain-wordless script node [] e = tt
plain-wordless script node (mark.Sent to number told ∷ ms) e = absurd e.0
plain-wordless script node (m ∷ ms) e = (tt, plain-wordless script node ms e.1)

orders-wordless : (f : ℕ → ℕ) (outs : List Out) → Each (λ (o : Out). is_answer o.message ≡ false) outs → Each NoWord (numbered f outs)
orders-wordless f [] e = tt
orders-wordless f (o ∷ outs) e = (one o.message e.0, orders-wordless (counted f o) outs e.1)
  where
    one : (m : Message) → is_answer m ≡ false → NoWord (mark.Sent o.node (f o.node.0 + 1) m)
    one (message.Answer g r) e = absurd (cc)
    one m e = tt

-- STEPS BEHIND ONE ANOTHER
silent-push : (before ss : List Step) (s : Step) → AreWaitersSilent before ss → AreMarksSilent s.stamp.node (marks_in (before ++ ss)) s.marks → AreWaitersSilent before (ss ++ s ∷ [])
silent-push before [] s e f = (subst (λ b. AreMarksSilent s.stamp.node (marks_in b) s.marks) (append-nil before) f, tt)
silent-push before (x ∷ ss) s e f = (e.0, silent-push (before ++ x ∷ []) ss s e.1 (subst (λ b. AreMarksSilent s.stamp.node (marks_in b) s.marks) (sym (append_assoc before (x ∷ []) ss)) f))

silent-more : (before ss : List Step) (s : Step) (more : List Mark) → Each NoWord more → AreWaitersSilent before (ss ++ s ∷ []) → AreWaitersSilent before (ss ++ record s { marks = s.marks ++ more } ∷ [])
silent-more before [] s more n e = (silent-append s.stamp.node (marks_in before) s.marks more e.0 (wordless s.stamp.node (marks_in before ++ s.marks) more n), tt)
silent-more before (x ∷ ss) s more n e = (e.0, silent-more (before ++ x ∷ []) ss s more n e.1)

-- SENDINGS OF A SEGMENT
sent-waits : (node : Node) (ws : List Claim) (f : ℕ → ℕ) (outs : List Out) → waits_from node ws (numbered f outs) ≡ ws
sent-waits node ws f [] = refl
sent-waits node ws f (o ∷ outs) = sent-waits node ws (counted f o) outs

-- who has a word sent has none of these waits
abbrev IsFree : List Claim → Message → Type 0
IsFree ws (message.Answer g (reply.Done c w n p)) = list_any (is_of g) ws ≡ false
IsFree ws (message.Answer g (reply.Failed c x)) = list_any (is_of g) ws ≡ false
IsFree ws m = Unit {0}

sent-silent : (node : Node) (earlier : List Mark) (ws : List Claim) (f : ℕ → ℕ) (outs : List Out) → waits_at earlier node ≡ ws → Each (λ (o : Out). IsFree ws o.message) outs → AreMarksSilent node earlier (numbered f outs)
sent-silent node earlier ws f [] same e = tt
sent-silent node earlier ws f (o ∷ outs) same e = (
  one o.message e.0,
  sent-silent node (earlier ++ mark.Sent o.node (f o.node.0 + 1) o.message ∷ []) ws (counted f o) outs (waits_from-append node [] earlier (mark.Sent o.node (f o.node.0 + 1) o.message ∷ []) ∙ same) e.1,
)
  where
    one : (m : Message) → IsFree ws m → IsSilent node earlier (mark.Sent o.node (f o.node.0 + 1) m)
    one (message.Answer g (reply.Done c w n p)) e = subst (λ (x : List Claim). list_any (is_of g) x ≡ false) (sym same) e
    one (message.Answer g (reply.Failed c x)) e = subst (λ (y : List Claim). list_any (is_of g) y ≡ false) (sym same) e
    one (message.Answer g reply.Prepared) e = tt
    one (message.Answer g reply.Committed) e = tt
    one (message.Answer g reply.Jfault) e = tt
    one (message.Answer g reply.Again) e = tt
    one (message.Answer g reply.Restarted) e = tt
    one (message.Answer g reply.Aborted) e = tt
    one (message.Answer g reply.Forgotten) e = tt
    one (message.Exec g c level x h y) e = tt
    one (message.Prepare g) e = tt
    one (message.Commit g) e = tt
    one (message.CommitPrepared g) e = tt
    one (message.Abort g) e = tt
    one (message.Forget g) e = tt
    one (message.Collect round) e = tt
    one (message.Graph round graph) e = tt
    one message.Up e = tt

-- whose answer is kept has no slice that waits, and so no wait
module _ (script : Script) (v : World) (n : Knows script v) (h : Holds script v) (i : ℕ) where
  nobody : (o : Option Suspended) → is_some o ≡ false → o ≡ None
  nobody None e = refl
  nobody (Some x) e = absurd (cc)

  answered-free : (g : Gxid) → is_some ((v.segs i).locals g.0).answer ≡ true → list_any (is_of g) (v.segs i).locks.waits ≡ false
  answered-free g kept = none-listed g (v.segs i).locks.waits ((single-there script v n i).none g (nobody (local_of (v.segs i) g).suspended rests))
    where
      pair : Pair (known_at v.coord (marks_in v.steps) i g.0) (parts_in v i g.0)
      pair = h.stands.pairs i g.0

      rests : (parts_in v i g.0).waits ≡ false
      rests = false_from_ne_true (parts_in v i g.0).waits (λ e. true-false (is_some ((v.segs i).locals g.0).answer) kept (ap is_some (pair.waits e).1))

  kept-free : (m : Message) → IsKept (v.segs i) m → IsFree (v.segs i).locks.waits m
  kept-free (message.Answer g (reply.Done c w n p)) e = answered-free g e
  kept-free (message.Answer g (reply.Failed c x)) e = answered-free g e
  kept-free (message.Answer g reply.Prepared) e = tt
  kept-free (message.Answer g reply.Committed) e = tt
  kept-free (message.Answer g reply.Jfault) e = tt
  kept-free (message.Answer g reply.Again) e = tt
  kept-free (message.Answer g reply.Restarted) e = tt
  kept-free (message.Answer g reply.Aborted) e = tt
  kept-free (message.Answer g reply.Forgotten) e = tt
  kept-free (message.Exec g c level x h y) e = tt
  kept-free (message.Prepare g) e = tt
  kept-free (message.Commit g) e = tt
  kept-free (message.CommitPrepared g) e = tt
  kept-free (message.Abort g) e = tt
  kept-free (message.Forget g) e = tt
  kept-free (message.Collect round) e = tt
  kept-free (message.Graph round graph) e = tt
  kept-free message.Up e = tt

  all-free : (outs : List Out) → Each (λ (o : Out). IsKept (v.segs i) o.message) outs → Each (λ (o : Out). IsFree (v.segs i).locks.waits o.message) outs
  all-free [] e = tt
  all-free (o ∷ outs) e = (kept-free o.message e.0, all-free outs e.1)

-- ALL STEPS
module _ (script : Script) (some : 1 ≤ script.segments) where
  record Known (w : World) : Type 0 where
    both : Both script some w
    locked : Locked script w

  moves-known : (ms : List Move) → Known (world_by script ms)
  moves-known ms = record { both = moves-both script some ms; locked = moves-locked script some ms }

  abbrev All : World → Type 0
  All w = AreWaitersSilent [] w.steps

  orders : (outs : List Out) (P Q : Out → Type 0) → Each (λ (o : Out). (is_answer o.message ≡ false) × P o × Q o) outs → Each (λ (o : Out). is_answer o.message ≡ false) outs
  orders [] P Q e = tt
  orders (o ∷ outs) P Q e = (e.0.0, orders outs P Q e.1)

  coord-all : (w : World) → Known w → All w → (e : Event) (x : NodeEvent) (fails : Bool) → IsThere script w e the_coordinator x → coord_can script w.coord x ≡ true → All (coord_did w e (coord_turn script w.coord x fails))
  coord-all w n p e x fails t ok =
      let turn : CoordTurn = on_event script w.coord x fails in
      let step : Step = record { stamp = record { clock = clock_after w.coord.clock x; node = the_coordinator }; event = e; marks = turn.marks ++ numbered turn.coord.sent turn.outs } in
      let led = event-leads script w n.both.knows n.both.holds x fails ok (said-to script w n.both.holds e x t) in
      silent-push [] w.steps step p
      (wordless the_coordinator (marks_in w.steps) step.marks (each_append NoWord turn.marks (numbered turn.coord.sent turn.outs)
      (plain-wordless script the_coordinator turn.marks (coord_stays script some w.coord x fails n.both.knows.well.coordinator).marks) (orders-wordless turn.coord.sent turn.outs (orders turn.outs _ _ led.outs))))

  victim-all : (w : World) → Known w → All w → (g : Gxid) → HasNamed w.steps w.coord.clock w.coord.rounds g → All (and_cancelled w g)
  victim-all w n p g a =
      let turn : CoordTurn = cancels w.coord g in
      let more : List Mark = (cancel_turn w.coord g).marks in
      let led = cancel-leads script w n.both.knows n.both.holds g in
      subst (AreWaitersSilent []) (sym (ap (λ ss. with_more ss more) a.is ∙ with_more-last a.before a.step more))
      (silent-more [] a.before a.step more
      (each_append NoWord turn.marks (numbered turn.coord.sent turn.outs) (plain-wordless script the_coordinator turn.marks (cancel_stays script some w.coord g n.both.knows.well.coordinator).marks)
      (orders-wordless turn.coord.sent turn.outs (orders turn.outs _ _ led.outs)))
      (subst (AreWaitersSilent []) a.is p))

  seg-all : (w : World) → Known w → All w → (e : Event) (x : NodeEvent) (fails : Bool) (i : ℕ) → IsSegment script (at i) → IsThere script w e (at i) x → seg_can script (w.segs i) x ≡ true
      → Known (seg_did w (at i) e (seg_rule script (w.segs i) x fails)) → All (seg_did w (at i) e (seg_rule script (w.segs i) x fails))
  seg-all w n p e x fails i place t ok next = silent-push [] w.steps step p (silent-append (at i) marks turn.marks sent (wordless (at i) marks turn.marks (plain-wordless script (at i) turn.marks plain)) words)
    where
      turn : SegTurn
      turn = segment.on_event script (w.segs i) x fails

      sent : List Mark
      sent = numbered (λ node. turn.seg.sent) turn.outs

      marks : List Mark
      marks = marks_in w.steps

      step : Step
      step = record { stamp = record { clock = clock_after (w.segs i).clock x; node = at i }; event = e; marks = turn.marks ++ sent }

      v : World
      v = seg_did w (at i) e (seg_rule script (w.segs i) x fails)

      plain : Each (PlainAt script (at i)) turn.marks
      plain = subst (λ node. Each (PlainAt script node) turn.marks) (n.both.knows.well.names i) (seg_stays script (w.segs i) (subst (IsSegment script) (sym (n.both.knows.well.names i)) place) x fails).marks

      now : v.segs i ≡ (seg_rule script (w.segs i) x fails).seg
      now = ap (λ (b : Bool). if b then (seg_rule script (w.segs i) x fails).seg else w.segs i) (eqb-self i)

      kept : Each (λ (o : Out). IsKept (v.segs i) o.message) turn.outs
      kept = subst (λ (s : Seg). Each (λ (o : Out). IsKept s o.message) turn.outs) (sym now) (heard-kept script w n.both.knows n.both.holds e i x fails (heard-at script w n.both.holds e x i place.0 t ok))

      stands : waits_at (marks ++ turn.marks) (at i) ≡ (v.segs i).locks.waits
      stands =
          sym (sent-waits (at i) (waits_at (marks ++ turn.marks) (at i)) (λ node. turn.seg.sent) turn.outs) ∙ sym (waits_from-append (at i) [] (marks ++ turn.marks) sent)
          ∙ ap (λ ms. waits_at ms (at i)) (append_assoc marks turn.marks sent ∙ sym (marks-last w.steps step)) ∙ sym (next.locked.marked.segments i place.0).waits

      words : AreMarksSilent (at i) (marks ++ turn.marks) sent
      words = sent-silent (at i) (marks ++ turn.marks) (v.segs i).locks.waits (λ node. turn.seg.sent) turn.outs stands (all-free script v next.both.knows next.both.holds i turn.outs kept)

  pub world-silent : (es : List (Event × Bool)) → AreWaitersSilent [] (world_of script es).steps
  world-silent es =
      at-events script some Known All moves-known tt (λ w n p e x fails t ok next. coord-all w n p e x fails t ok) (λ w n p g a next. victim-all w n p g a)
      (λ w n p e x fails i place t ok next. seg-all w n p e x fails i place t ok next) es
