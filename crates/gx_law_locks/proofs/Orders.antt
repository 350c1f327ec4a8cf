-- Over every run of the machine, commands go out and rows are written with their table's lock.
use Rattle.std.proofs.Common.{◌≡◌, ◌≤◌, inl, inr, ℕ, List, [], ◌∷◌, ◌++◌, Bool, true, false, refl, sym, subst, ap, ◌∙◌, append_assoc, append-nil}
use Rattle.gx_lemmas.proofs.Numbers.{one-le-none, one-le-zero}
use Rattle.gx_lemmas.proofs.Tests.{true-false}
use Rattle.gx_ids.specs.declared.ids.Gxid.{Gxid}
use Rattle.gx_ids.specs.declared.ids.Node.{Node}
use Rattle.gx_ids.specs.declared.ids.Table.{Table}
use Rattle.gx_waits.specs.declared.claim.Claim.{Claim}
use Rattle.gx_msg.specs.declared.message.Envelope.{Envelope}
use Rattle.gx_msg.specs.declared.message.Message.{Message}
use Rattle.gx_msg.specs.declared.message.Message.TheVariants as message
use Rattle.gx_msg.specs.declared.message.Out.{Out}
use Rattle.gx_script.specs.declared.Script.{Script}
use Rattle.gx_store.proofs.Exclusive.{holds_from-append}
use Rattle.gx_store.specs.declared.event.Event.{Event}
use Rattle.gx_store.specs.declared.mark.Mark.{Mark}
use Rattle.gx_store.specs.declared.mark.Mark.TheVariants as mark
use Rattle.gx_store.specs.declared.node.NodeEvent.{NodeEvent}
use Rattle.gx_store.specs.declared.node.NodeEvent.TheVariants as here
use Rattle.gx_store.specs.declared.run.Step.{Step}
use Rattle.gx_store.specs.Journals.{is_same_node}
use Rattle.gx_store.specs.Marks.{is_ended}
use Rattle.gx_store.specs.Ordered.{IsAtNode, IsLink, IsSegment}
use Rattle.gx_store.specs.Points.{marks_in}
use Rattle.gx_store.specs.Refusals.{the_coordinator}
use Rattle.gx_store.specs.Waits.{holds_at, holds_from}
use Rattle.gx_rules.specs.AtCoordinator.{cancels, coord_can, coord_sends, coord_turn, on_event}
use Rattle.gx_store.specs.Locks.{slice_lock}
use Rattle.gx_rules.specs.AtSegment.{seg_rule}
use Rattle.gx_rules.specs.AtSegment as segment
use Rattle.gx_rules.specs.Coordinators.{CoordTurn}
use Rattle.gx_rules.specs.Machine.{Letter, World, and_cancelled, coord_did, new_world, seg_did, world_of}
use Rattle.gx_rules.specs.Segments.{SegTurn}
use Rattle.gx_rules.specs.Sending.{clock_after, counted, numbered}
use Rattle.gx_law_order.specs.Moves.{Move, world_by}
use Rattle.gx_law_order.proofs.AtCoordinators.{cancel_stays, coord_stays}
use Rattle.gx_law_order.proofs.Induction.{after_turn, marks-by-event, marks-by-victim}
use Rattle.gx_law_order.proofs.Moves.{HasNamed}
use Rattle.gx_law_order.proofs.AtSegments.{PlainAt, seg_stays}
use Rattle.gx_law_order.proofs.Letters.{IsFound, IsLetter}
use Rattle.gx_law_order.proofs.Lists.{each_weaker}
use Rattle.gx_law_order.specs.Lists.{Each}
use Rattle.gx_law_order.proofs.Ordered.{apart-back, at_coordinator, seg_marks, sends-at}
use Rattle.gx_law_order.proofs.Sent.{at}
use Rattle.gx_law_order.proofs.More.{marks-last}
use Rattle.gx_law_order.proofs.World.{Knows}
use Rattle.gx_law_order.proofs.Always.{HeardAt, IsGiven, SaidTo, each-zip}
use Rattle.gx_law_order.proofs.Counts.{NoSent}
use Rattle.gx_law_order.proofs.Everywhere.{Holds, posted-each}
use Rattle.gx_law_order.proofs.Steps.{given-is, moves-keep, world-keeps}
use Rattle.gx_law_locks.specs.Late.{AreReleasesLate}
use Rattle.gx_law_locks.specs.Orders.{AreLockedOrders, AreOrdersLocked, IsLockedOrder}
use Rattle.gx_law_locks.specs.Writes.{AreWritesLocked}
use Rattle.gx_law_locks.proofs.HoldsAtSegments.{Bids}
use Rattle.gx_law_locks.proofs.Moves.{AreWritesHeld, held-append}
use Rattle.gx_law_locks.proofs.Tables.{HasTable, own-gxid, slice-lasts, slice-table}
use Rattle.gx_law_locks.proofs.Going.{AreLocked, Going, GoneOut, Locked, LockedOut, cancel-goes, event-goes}
use Rattle.gx_law_order.proofs.Waiting.{GoesOn, HasCome, each-among, going-on, going-out}
use Rattle.gx_law_locks.proofs.Lasting.{IsIn, late-behind, still-held}
use Rattle.gx_law_locks.proofs.Marks.{ended-more, other-holds}
use Rattle.gx_law_locks.proofs.Claims.{each-of}
use Rattle.gx_law_locks.proofs.HoldsInRuns.{BidsAt, ChangesOf, cancel-keeps, coord-keeps, heard-locks, new-locked, seg-keeps}
use Rattle.gx_law_locks.proofs.HoldsInRuns as world

-- MARKS
pub ended-less : (xs ys : List Mark) (g : Gxid) → is_ended (xs ++ ys) g ≡ false → is_ended xs g ≡ false
ended-less xs ys g e = by_test (is_ended xs g) refl
  where
    by_test : (b : Bool) → is_ended xs g ≡ b → b ≡ false
    by_test true q = absurd (true-false (is_ended (xs ++ ys) g) (ended-more xs ys g q) e)
    by_test false q = refl

writes-append : (script : Script) (before xs ys : List Mark) → AreWritesLocked script before xs → AreWritesLocked script (before ++ xs) ys → AreWritesLocked script before (xs ++ ys)
writes-append script before [] ys e f = subst (λ b. AreWritesLocked script b ys) (append-nil before) f
writes-append script before (mark.Write g c n table rid image ∷ xs) ys e f =
    (e.0, writes-append script (before ++ mark.Write g c n table rid image ∷ []) xs ys e.1 (subst (λ b. AreWritesLocked script b ys) (sym (append_assoc before (mark.Write g c n table rid image ∷ []) xs)) f))
writes-append script before (m ∷ xs) ys e f = writes-append script (before ++ m ∷ []) xs ys e (subst (λ b. AreWritesLocked script b ys) (sym (append_assoc before (m ∷ []) xs)) f)

-- the coordinator writes no row
no-writes : (script : Script) (before ms : List Mark) → Each (IsAtNode script the_coordinator) ms → AreWritesLocked script before ms
no-writes script before [] e = tt
no-writes script before (mark.Write g c n table rid image ∷ ms) e = absurd (one-le-none e.0.1.0)
no-writes script before (m ∷ ms) e = no-writes script (before ++ m ∷ []) ms e.1

none-held : (script : Script) (P : Gxid → Table → Type 0) (node : Node) (f : ℕ → ℕ) (outs : List Out) (holds : List Claim) (xs : List Mark) → AreWritesHeld script P node holds xs
    → AreWritesHeld script P node holds (xs ++ numbered f outs)
none-held script P node f outs holds xs e = held-append script P node holds xs (numbered f outs) e (sent-held f outs (holds_from node holds xs))
  where
    sent-held : (f : ℕ → ℕ) (outs : List Out) (hs : List Claim) → AreWritesHeld script P node hs (numbered f outs)
    sent-held f [] hs = tt
    sent-held f (o ∷ outs) hs = sent-held (counted f o) outs hs

-- ORDERS
abbrev pub LetterLocked : Script → List Mark → Letter → Type 0
LetterLocked script marks l = l.from ≡ the_coordinator → IsLockedOrder script marks l.envelope.message

order-now : (script : Script) (holds : List Claim) (marks : List Mark) → holds ≡ holds_at marks the_coordinator → (m : Message) → Locked script holds m → IsLockedOrder script marks m
order-now script holds marks same (message.Exec g c level x h slice) l = λ run. subst (λ hs. IsIn hs (slice_lock script g slice)) same l
order-now script holds marks same (message.Prepare g) l = tt
order-now script holds marks same (message.Commit g) l = tt
order-now script holds marks same (message.CommitPrepared g) l = tt
order-now script holds marks same (message.Abort g) l = tt
order-now script holds marks same (message.Forget g) l = tt
order-now script holds marks same (message.Collect round) l = tt
order-now script holds marks same (message.Answer g r) l = tt
order-now script holds marks same (message.Graph round graph) l = tt
order-now script holds marks same message.Up l = tt

pub order-still : (script : Script) (marks ms : List Mark) → AreReleasesLate marks ms → (m : Message) → IsLockedOrder script marks m → IsLockedOrder script (marks ++ ms) m
order-still script marks ms late (message.Exec g c level x h slice) l =
    λ run. still-held the_coordinator (slice_lock script g slice) (slice-lasts script the_coordinator g slice) marks ms late
    (subst (λ (k : Gxid). is_ended (marks ++ ms) k ≡ false) (sym (own-gxid script g slice)) run) (l (ended-less marks ms g run))
order-still script marks ms late (message.Prepare g) l = tt
order-still script marks ms late (message.Commit g) l = tt
order-still script marks ms late (message.CommitPrepared g) l = tt
order-still script marks ms late (message.Abort g) l = tt
order-still script marks ms late (message.Forget g) l = tt
order-still script marks ms late (message.Collect round) l = tt
order-still script marks ms late (message.Answer g r) l = tt
order-still script marks ms late (message.Graph round graph) l = tt
order-still script marks ms late message.Up l = tt

all-orders : (script : Script) (marks : List Mark) (ls : List Letter) → Each (LetterLocked script marks) ls → AreLockedOrders script marks ls
all-orders script marks [] e = tt
all-orders script marks (l ∷ ls) e = (e.0, all-orders script marks ls e.1)

plain-unsent : (script : Script) (node : Node) (m : Mark) → PlainAt script node m → NoSent m
plain-unsent script node (mark.Sent to number told) e = e
plain-unsent script node m e = tt

-- WRITES
abbrev HeldThere : Script → List Mark → Gxid → Table → Type 0
HeldThere script marks g table = is_ended marks g ≡ false → HasTable script (holds_at marks the_coordinator) g table

module _ (script : Script) (marks : List Mark) (node : Node) (away : is_same_node node the_coordinator ≡ false) where
  same-there : (before : List Mark) (m : Mark) → IsAtNode script node m → holds_at before the_coordinator ≡ holds_at marks the_coordinator
      → holds_at (before ++ m ∷ []) the_coordinator ≡ holds_at marks the_coordinator
  same-there before m e same = holds_from-append the_coordinator [] before (m ∷ []) ∙ other-holds script node the_coordinator (holds_at before the_coordinator) (m ∷ []) away (e, tt) ∙ same

  runs-less : (before : List Mark) (m : Mark) → ((g : Gxid) → is_ended before g ≡ false → is_ended marks g ≡ false) → (g : Gxid) → is_ended (before ++ m ∷ []) g ≡ false → is_ended marks g ≡ false
  runs-less before m f g e = f g (ended-less before (m ∷ []) g e)

  writes-here : (before ms : List Mark) → holds_at before the_coordinator ≡ holds_at marks the_coordinator → ((g : Gxid) → is_ended before g ≡ false → is_ended marks g ≡ false)
      → Each (IsAtNode script node) ms → AreWritesHeld script (HeldThere script marks) node (holds_at before node) ms → AreWritesLocked script before ms
  writes-here before [] same f e h = tt
  writes-here before (mark.Write g c n table rid image ∷ ms) same f e h = (
    λ run. record {
      coordinator = subst (λ hs. HasTable script hs g table) (sym same) (h.0.1 (f g run));
      segment = subst (λ (k : Node). HasTable script (holds_at before k) g table) (sym e.0.0) h.0.0;
    },
    writes-here (before ++ mark.Write g c n table rid image ∷ []) ms (same-there before (mark.Write g c n table rid image) e.0 same) (runs-less before (mark.Write g c n table rid image) f) e.1
        (subst (λ hs. AreWritesHeld script (HeldThere script marks) node hs ms) (sym (holds_from-append node [] before (mark.Write g c n table rid image ∷ []))) h.1),
  )
  writes-here before (m ∷ ms) same f e h =
      writes-here (before ++ m ∷ []) ms (same-there before m e.0 same) (runs-less before m f) e.1 (subst (λ hs. AreWritesHeld script (HeldThere script marks) node hs ms) (sym (holds_from-append node [] before (m ∷ []))) h)

pub record Ordered (script : Script) (w : World) : Type 0 where
  pub locked : world.Locked script w
  pub going : AreLocked script w.coord.locks.holds w.coord.works
  pub letters : Each (LetterLocked script (marks_in w.steps)) w.sent
  pub writes : AreWritesLocked script [] (marks_in w.steps)

-- ALL STEPS
module _ (script : Script) (some : 1 ≤ script.segments) where
  -- what was sent before, behind more marks
  letters-still : (old ms all : List Mark) → all ≡ old ++ ms → (ls : List Letter) → AreReleasesLate old ms → Each (LetterLocked script old) ls → Each (LetterLocked script all) ls
  letters-still old ms all same ls late e =
      each_weaker (LetterLocked script old) (LetterLocked script all) (λ l f q. subst (λ m. IsLockedOrder script m l.envelope.message) (sym same) (order-still script old ms late l.envelope.message (f q))) ls e

  late-of : (old ms all : List Mark) → all ≡ old ++ ms → AreReleasesLate [] all → AreReleasesLate old ms
  late-of old ms all same late = late-behind [] old ms (subst (AreReleasesLate []) same late)

  -- a single turn of the coordinator, with what it sends
  turn-orders : (w : World) → Ordered script w → (turn : CoordTurn) (clock : ℕ) (steps : List Step) → marks_in steps ≡ marks_in w.steps ++ (coord_sends clock turn).marks → Each (IsAtNode script the_coordinator) (coord_sends clock turn).marks
      → Each (PlainAt script the_coordinator) turn.marks → Going script turn → world.Locked script (after_turn w clock turn steps) → Ordered script (after_turn w clock turn steps)
  turn-orders w q turn clock steps same there plain goes locked =
      record {
        locked = locked;
        going = goes.coord;
        letters = posted-each (LetterLocked script (marks_in steps)) the_coordinator clock turn.marks turn.coord.sent turn.outs w.sent
            (each_weaker (PlainAt script the_coordinator) NoSent (plain-unsent script the_coordinator) turn.marks plain)
            (each_weaker (LockedOut script turn.coord.locks.holds) (λ (o : Out). (n : ℕ) → LetterLocked script (marks_in steps) (record { from = the_coordinator; to = o.node; envelope = record { number = n; clock = clock; incarnation = 1; message = o.message } }))
            (λ o l n f. order-now script turn.coord.locks.holds (marks_in steps) locked.marked.coordinator.holds o.message l) turn.outs goes.outs)
            (letters-still (marks_in w.steps) ms (marks_in steps) same w.sent (late-of (marks_in w.steps) ms (marks_in steps) same locked.late) q.letters);
        writes = subst (AreWritesLocked script []) (sym same) (writes-append script [] (marks_in w.steps) ms q.writes (no-writes script (marks_in w.steps) ms there));
      }
    where
      ms : List Mark
      ms = (coord_sends clock turn).marks

  coord-orders : (w : World) → Knows script w → Holds script w → Ordered script w → (e : Event) (x : NodeEvent) (fails : Bool) → coord_can script w.coord x ≡ true → SaidTo w x
      → Ordered script (coord_did w e (coord_turn script w.coord x fails))
  coord-orders w k v q e x fails ok said =
      turn-orders w q (on_event script w.coord x fails) (clock_after w.coord.clock x) (coord_did w e (coord_turn script w.coord x fails)).steps (marks-by-event script w e x fails) (at_coordinator script some w k.well e x fails)
      (coord_stays script some w.coord x fails k.well.coordinator).marks (event-goes script w.coord x fails (gone x ok) q.going) (coord-keeps script some w k v q.locked e x fails ok said)
    where
      gone : (x : NodeEvent) → coord_can script w.coord x ≡ true → GoneOut script w.coord x
      gone (here.Resume g) ok = going-out script w k g ok
      gone (here.Deliver from envelope) ok = tt
      gone (here.Start s) ok = tt
      gone (here.End s) ok = tt
      gone (here.Resend j g) ok = tt
      gone here.Round ok = tt

  cancel-orders : (w : World) → Knows script w → Holds script w → Ordered script w → (g : Gxid) → HasNamed w.steps w.coord.clock w.coord.rounds g → Ordered script (and_cancelled w g)
  cancel-orders w k v q g h =
      let left = cancel_stays script some w.coord g k.well.coordinator in
      turn-orders w q (cancels w.coord g) w.coord.clock (and_cancelled w g).steps (marks-by-victim w g h) (sends-at script w.coord.sent (cancels w.coord g) w.coord.clock left) left.marks (cancel-goes script w.coord g q.going)
      (cancel-keeps script some w k v q.locked g h)

  -- an EXEC that comes was sent with its lock
  order-given : (w : World) → Knows script w → Ordered script w → (e : Event) (i : ℕ) → 1 ≤ i → (from : Node) (envelope : Envelope) → IsGiven w e i from envelope
      → IsLockedOrder script (marks_in w.steps) envelope.message
  order-given w k q e i one from envelope d = by_link f.is.0.link
    where
      f : IsFound (λ l. IsLetter script w.steps l × LetterLocked script (marks_in w.steps) l) from (at i) d.number envelope
      f = given-is w e i from envelope d (λ l. IsLetter script w.steps l × LetterLocked script (marks_in w.steps) l) (each-zip (IsLetter script w.steps) (LetterLocked script (marks_in w.steps)) w.sent k.well.letters q.letters)

      not-zero : (n : Node) → n ≡ at i → n ≡ the_coordinator → ⊥
      not-zero n a z = one-le-zero i one (ap (λ (m : Node). m.0) (sym a ∙ z))

      by_link : IsLink script f.letter.from f.letter.to → IsLockedOrder script (marks_in w.steps) envelope.message
      by_link (inl l) = subst (λ (a : Envelope). IsLockedOrder script (marks_in w.steps) a.message) f.told (f.is.1 l.0)
      by_link (inr l) = absurd (not-zero f.letter.to f.target l.1)

  -- so was one that has come
  order-come : (w : World) → Ordered script w → (i : ℕ) (m : Message) → HasCome w i m → IsLockedOrder script (marks_in w.steps) m
  order-come w q i m c = subst (IsLockedOrder script (marks_in w.steps)) c.told (each-among (LetterLocked script (marks_in w.steps)) w.sent c.letter q.letters c.among c.source)

  has-lock : (marks : List Mark) (m : Message) → IsLockedOrder script marks m → (g : Gxid) (table : Table) → Bids m g table → HeldThere script marks g table
  has-lock marks (message.Exec h c level x horizon y) l g table b =
      subst (λ k. HeldThere script marks k table) b.0 (λ run. slice-table script (holds_at marks the_coordinator) h y table b.1 (l run))
  has-lock marks (message.Prepare h) l g table b = absurd b
  has-lock marks (message.Commit h) l g table b = absurd b
  has-lock marks (message.CommitPrepared h) l g table b = absurd b
  has-lock marks (message.Abort h) l g table b = absurd b
  has-lock marks (message.Forget h) l g table b = absurd b
  has-lock marks (message.Collect round) l g table b = absurd b
  has-lock marks (message.Answer h r) l g table b = absurd b
  has-lock marks (message.Graph round graph) l g table b = absurd b
  has-lock marks message.Up l g table b = absurd b

  bids-held : (w : World) → Knows script w → Ordered script w → (e : Event) (i : ℕ) → 1 ≤ i → (x : NodeEvent) → HeardAt script w e i x → (g : Gxid) (table : Table) → BidsAt w i x g table
      → HeldThere script (marks_in w.steps) g table
  bids-held w k q e i one (here.Deliver from envelope) h g table b = has-lock (marks_in w.steps) envelope.message (order-given w k q e i one from envelope h) g table b
  bids-held w k q e i one (here.Resume g) h other table b =
      has-lock (marks_in w.steps) exec (order-come w q i exec d.waits.come) other table (b.0, subst (λ o. ChangesOf o table) d.is b.1)
    where
      d : GoesOn script w i g
      d = going-on script w k.well i g h

      exec : Message
      exec = message.Exec g d.slice.cid d.slice.level d.slice.snapshot d.waits.horizon d.slice.slice
  bids-held w k q e i one (here.Start s) h g table b = absurd h
  bids-held w k q e i one (here.End s) h g table b = absurd h
  bids-held w k q e i one (here.Resend j g) h other table b = absurd h
  bids-held w k q e i one here.Round h g table b = absurd h

  seg-orders : (w : World) → Knows script w → Holds script w → Ordered script w → (e : Event) (x : NodeEvent) (fails : Bool) (i : ℕ) → IsSegment script (at i) → HeardAt script w e i x
      → Ordered script (seg_did w (at i) e (seg_rule script (w.segs i) x fails))
  seg-orders w k v q e x fails i place h =
      record {
        locked = locked;
        going = q.going;
        letters = posted-each (LetterLocked script (marks_in (w.steps ++ step ∷ []))) (at i) step.stamp.clock turn.marks (λ node. turn.seg.sent) turn.outs w.sent
            (each_weaker (PlainAt script (at i)) NoSent (plain-unsent script (at i)) turn.marks plain)
            (each-of (λ (o : Out). (n : ℕ) → LetterLocked script (marks_in (w.steps ++ step ∷ [])) (record { from = at i; to = o.node; envelope = record { number = n; clock = step.stamp.clock; incarnation = 1; message = o.message } }))
            (λ o n f. absurd (not-zero f)) turn.outs)
            (letters-still (marks_in w.steps) step.marks (marks_in (w.steps ++ step ∷ [])) (marks-last w.steps step) w.sent (late-of (marks_in w.steps) step.marks (marks_in (w.steps ++ step ∷ [])) (marks-last w.steps step) locked.late) q.letters);
        writes = subst (AreWritesLocked script []) (sym (marks-last w.steps step)) (writes-append script [] (marks_in w.steps) step.marks q.writes
            (writes-here script (marks_in w.steps) (at i) (apart-back i place.0) (marks_in w.steps) step.marks refl (λ g f. f) (seg_marks script w k.well e x fails i place) writes));
      }
    where
      turn : SegTurn
      turn = segment.on_event script (w.segs i) x fails

      step : Step
      step = record { stamp = record { clock = clock_after (w.segs i).clock x; node = at i }; event = e; marks = (seg_rule script (w.segs i) x fails).marks }

      locked : world.Locked script (seg_did w (at i) e (seg_rule script (w.segs i) x fails))
      locked = seg-keeps script some w k v q.locked e x fails i place h

      not-zero : at i ≡ the_coordinator → ⊥
      not-zero z = one-le-zero i place.0 (ap (λ (m : Node). m.0) z)

      plain : Each (PlainAt script (at i)) turn.marks
      plain = subst (λ node. Each (PlainAt script node) turn.marks) (k.well.names i) (seg_stays script (w.segs i) (subst (IsSegment script) (sym (k.well.names i)) place) x fails).marks

      writes : AreWritesHeld script (HeldThere script (marks_in w.steps)) (at i) (holds_at (marks_in w.steps) (at i)) step.marks
      writes =
          none-held script (HeldThere script (marks_in w.steps)) (at i) (λ node. turn.seg.sent) turn.outs (holds_at (marks_in w.steps) (at i)) turn.marks
          (subst (λ hs. AreWritesHeld script (HeldThere script (marks_in w.steps)) (at i) hs turn.marks) (q.locked.marked.segments i place.0).holds
          (heard-locks script (HeldThere script (marks_in w.steps)) w k v e i place.0 (q.locked.rows i) x fails h (bids-held w k q e i place.0 x h)).writes)

  new-orders : Ordered script new_world
  new-orders = record { locked = new-locked script some; going = λ g. tt; letters = tt; writes = tt }

  pub moves-orders : (ms : List Move) → Ordered script (world_by script ms)
  moves-orders = moves-keep script some (Ordered script) coord-orders cancel-orders seg-orders new-orders

  pub world-orders : (es : List (Event × Bool)) → Ordered script (world_of script es)
  world-orders = world-keeps script some (Ordered script) coord-orders cancel-orders seg-orders new-orders

  pub orders-locked : (es : List (Event × Bool)) → AreOrdersLocked script (world_of script es)
  orders-locked es = all-orders script (marks_in (world_of script es).steps) (world_of script es).sent (world-orders es).letters
