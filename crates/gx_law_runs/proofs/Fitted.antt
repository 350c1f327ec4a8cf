-- The part of an answer to a command under way fits the command's statement.
use Rattle.std.proofs.Common.{◌≡◌, ◌≤◌, ◌⊎◌, inl, inr, ℕ, ◌+◌, List, [], ◌∷◌, Option, Some, None, Bool, true, refl, sym, subst, ap, ◌∙◌, if◌then◌else◌, arith}
use Rattle.std.proofs.lemmas.Bool.Decides.{nat_tests}
use Rattle.std.specs.Prelude.{nat_le}
use Rattle.gx_lemmas.proofs.Numbers.{one-le-none}
use Rattle.gx_ids.specs.declared.ids.Cid.{Cid}
use Rattle.gx_ids.specs.declared.ids.Gxid.{Gxid}
use Rattle.gx_ids.specs.declared.ids.Node.{Node}
use Rattle.gx_tree.specs.declared.stmt.Stmt.{Stmt}
use Rattle.gx_msg.specs.declared.message.Envelope.{Envelope}
use Rattle.gx_msg.specs.declared.message.Message.{Message}
use Rattle.gx_msg.specs.declared.message.Message.TheVariants as message
use Rattle.gx_msg.specs.declared.message.Out.{Out}
use Rattle.gx_msg.specs.declared.reply.Reply.{Reply}
use Rattle.gx_msg.specs.declared.reply.Reply.TheVariants as reply
use Rattle.gx_script.specs.declared.Script.{Script}
use Rattle.gx_store.specs.declared.event.Event.{Event}
use Rattle.gx_store.specs.declared.mark.Mark.{Mark}
use Rattle.gx_store.specs.declared.node.NodeEvent.{NodeEvent}
use Rattle.gx_store.specs.declared.node.NodeEvent.TheVariants as here
use Rattle.gx_store.specs.Ordered.{IsSegment}
use Rattle.gx_store.specs.declared.run.Step.{Step}
use Rattle.gx_store.specs.Points.{marks_in}
use Rattle.gx_store.specs.Refusals.{the_coordinator}
use Rattle.gx_rules.specs.AtCoordinator.{cancels, coord_can, coord_sends, coord_turn, on_event}
use Rattle.gx_rules.specs.AtSegment as segment
use Rattle.gx_rules.specs.AtSegment.{resumes, seg_rule}
use Rattle.gx_rules.specs.Coordinators.{Command, Coord, CoordTurn}
use Rattle.gx_rules.specs.Fits.{fits_part}
use Rattle.gx_rules.specs.Machine.{Letter, World, and_cancelled, coord_did, seg_can, seg_did}
use Rattle.gx_rules.specs.Segments.{Seg, local_of}
use Rattle.gx_rules.specs.Sending.{clock_after}
use Rattle.gx_law_order.proofs.AtCoordinators.{CoordStays, cancel_stays, coord_stays}
use Rattle.gx_law_order.proofs.AtSegments.{PlainAt, seg_stays}
use Rattle.gx_law_order.proofs.Induction.{IsThere, after_turn, from-coordinator}
use Rattle.gx_law_order.proofs.Letters.{found_is}
use Rattle.gx_law_order.proofs.Lines.{undrawn}
use Rattle.gx_law_order.proofs.Lists.{each_append, each_weaker}
use Rattle.gx_law_order.specs.Lists.{Each}
use Rattle.gx_law_order.proofs.Ordered.{at-both}
use Rattle.gx_law_order.proofs.Sent.{at}
use Rattle.gx_law_order.specs.Stages.{IsWhole}
use Rattle.gx_law_order.proofs.Waiting.{GoesOn, each-among, going-on, going-out}
use Rattle.gx_law_order.proofs.World.{Knows}
use Rattle.gx_law_order.proofs.Sendings.{SentIs, each-posted, numbered-sent, plain-sent}
use Rattle.gx_law_order.specs.Pairs.{IsKept, IsVote, Pair}
use Rattle.gx_law_order.specs.Said.{SaidAt, SaidIn, is_answer}
use Rattle.gx_law_order.specs.Standings.{Part, known_at, standing, standing_in}
use Rattle.gx_law_order.specs.Standings.Standing.{Live, Unborn}
use Rattle.gx_law_order.proofs.Always.{each-zip}
use Rattle.gx_law_order.proofs.Dispatching.{IsLive}
use Rattle.gx_law_order.proofs.Everywhere.{Holds, parts_in}
use Rattle.gx_law_runs.proofs.Asking.{AreNeat}
use Rattle.gx_law_runs.proofs.Fitting.{IsPartless, KeptSo, LocalSo, RightFor, SaysSo, TurnSo, message-so, resume-so}
use Rattle.gx_law_runs.proofs.Parts.{IsFor}
use Rattle.gx_law_runs.proofs.Ordering.{IsNew, event-serves}
use Rattle.gx_law_runs.proofs.Serving.{AreFor, IsOld, OrdersServe, OutServes, Serves, victim-serves}

-- of the command under way of this number, the part fits the statement
abbrev pub Served : Coord → ℕ → Reply → Type 0
Served c g (reply.Done d wrote count part) = (m : Command) → (c.works g).command ≡ Some m → m.cid ≡ d → fits_part m.stmt part ≡ true
Served c g _ = Unit {0}

pub partless : (c : Coord) (g : ℕ) (r : Reply) → IsPartless r → Served c g r
partless c g (reply.Done d w n p) e = absurd e
partless c g (reply.Failed d x) e = tt
partless c g reply.Prepared e = tt
partless c g reply.Committed e = tt
partless c g reply.Jfault e = tt
partless c g reply.Again e = tt
partless c g reply.Restarted e = tt
partless c g reply.Aborted e = tt
partless c g reply.Forgotten e = tt

-- what the coordinator sent is of its command, and what segments sent fits it
abbrev pub LetterServes : Coord → Letter → Type 0
LetterServes c l = (l.from ≡ the_coordinator → OutServes c l.envelope.message) × (1 ≤ l.from.0 → SaysSo (Served c) (partless c) l.envelope.message)

pub record AreServed (w : World) : Type 0 where
  pub orders : OrdersServe w.coord
  pub locals : (i h : ℕ) → LocalSo (Served w.coord) (partless w.coord) h ((w.segs i).locals h)
  pub letters : Each (LetterServes w.coord) w.sent

-- WHAT STANDS OF A TRANSACTION
live-known : (c : Coord) (ms : List Mark) (i g : ℕ) → IsLive c g → (known_at c ms i g).at ≡ Live
live-known c ms i g l = ap (λ t. standing (nat_le c.table.next.0 g) t i) l.found ∙ ap (λ p. standing_in p i) l.active

unborn-known : (c : Coord) (ms : List Mark) (i : ℕ) → IsWhole c.table → (known_at c ms i c.table.next.0).at ≡ Unborn
unborn-known c ms i whole = ap (λ t. standing (nat_le c.table.next.0 c.table.next.0) t i) (undrawn c.table whole) ∙ ap (λ (b : Bool). standing b None i) (same c.table.next.0)
  where
    same : (a : ℕ) → nat_le a a ≡ true
    same a = grind (arith, nat_tests)

-- a command of this number was sent before
record IsPast (c : Coord) (g : ℕ) (d : Cid) : Type 0 where
  live : IsLive c g → d.0 ≤ (c.works g).last
  fresh : g ≡ c.table.next.0 → d.0 ≡ 1 → ⊥

-- ONE TURN OF THE COORDINATOR
module _ (c d : Coord) (turn : CoordTurn) (serves : Serves c (IsNew c) turn) (same : d.works ≡ turn.coord.works) where
  was-so : (g : ℕ) (k : Cid) (Goal : Stmt → Type 0) → IsPast c g k → ((m : Command) → (c.works g).command ≡ Some m → m.cid ≡ k → Goal m.stmt) → (m : Command) → (d.works g).command ≡ Some m → m.cid ≡ k → Goal m.stmt
  was-so g k Goal past f m e counted = by (serves.commands g m (sym (ap (λ (ws : ℕ → _). (ws g).command) same) ∙ e))
    where
      over : (a b n : ℕ) → a ≡ n + 1 → a ≡ b → b ≤ n → ⊥
      over a b n e f l = omega arith

      by : IsOld c g m ⊎ IsNew c g m → Goal m.stmt
      by (inl o) = subst Goal (sym o.line) (f o.was o.is (sym o.counted ∙ counted))
      by (inr (inl x)) = absurd (over m.cid.0 k.0 (c.works g).last x.1.counted (ap (λ (z : Cid). z.0) counted) (past.live x.0))
      by (inr (inr x)) = absurd (past.fresh x.0 (sym (ap (λ (z : Cid). z.0) counted) ∙ x.1.counted))

  orders-so : OrdersServe c → OrdersServe d
  orders-so own g m e = by (serves.commands g m (sym (ap (λ (ws : ℕ → _). (ws g).command) same) ∙ e))
    where
      by : IsOld c g m ⊎ IsNew c g m → AreFor m.stmt m.orders
      by (inl o) = subst (λ l. AreFor l m.orders) (sym o.line) (subst (AreFor o.was.stmt) (sym o.orders) (own g o.was o.is))
      by (inr (inl x)) = x.1.orders
      by (inr (inr x)) = x.1.orders

  module _ (segs : ℕ → Seg) (ms : List Mark) (whole : IsWhole c.table) where
    past-said : (i g : ℕ) (k : Cid) → ((known_at c ms i g).at ≡ Unborn → ⊥) → ((known_at c ms i g).at ≡ Live → k.0 ≤ (c.works g).last) → IsPast c g k
    past-said i g k drawn last = record { live = λ l. last (live-known c ms i g l); fresh = λ e one. drawn (subst (λ h. (known_at c ms i h).at ≡ Unborn) (sym e) (unborn-known c ms i whole)) }

    out-so : (from to : Node) (m : Message) → SaidAt c segs ms (if is_answer m then from.0 else to.0) m → OutServes c m → OutServes d m
    out-so from to (message.Exec g k level x h slice) said f = was-so g.0 k (λ line. IsFor line slice) (past-said to.0 g.0 k said.drawn said.last) f
    out-so from to (message.Prepare g) said f = tt
    out-so from to (message.Commit g) said f = tt
    out-so from to (message.CommitPrepared g) said f = tt
    out-so from to (message.Abort g) said f = tt
    out-so from to (message.Forget g) said f = tt
    out-so from to (message.Collect round) said f = tt
    out-so from to (message.Answer g r) said f = tt
    out-so from to (message.Graph round graph) said f = tt
    out-so from to message.Up said f = tt

    says-so : (from to : Node) (m : Message) → SaidAt c segs ms (if is_answer m then from.0 else to.0) m → SaysSo (Served c) (partless c) m → SaysSo (Served d) (partless d) m
    says-so from to (message.Answer g (reply.Done k w n part)) said f = was-so g.0 k (λ line. fits_part line part ≡ true) (past-said from.0 g.0 k said.drawn said.last) f
    says-so from to (message.Answer g (reply.Failed k x)) said f = tt
    says-so from to (message.Answer g reply.Prepared) said f = tt
    says-so from to (message.Answer g reply.Committed) said f = tt
    says-so from to (message.Answer g reply.Jfault) said f = tt
    says-so from to (message.Answer g reply.Again) said f = tt
    says-so from to (message.Answer g reply.Restarted) said f = tt
    says-so from to (message.Answer g reply.Aborted) said f = tt
    says-so from to (message.Answer g reply.Forgotten) said f = tt
    says-so from to (message.Exec g k l x h s) said f = tt
    says-so from to (message.Prepare g) said f = tt
    says-so from to (message.Commit g) said f = tt
    says-so from to (message.CommitPrepared g) said f = tt
    says-so from to (message.Abort g) said f = tt
    says-so from to (message.Forget g) said f = tt
    says-so from to (message.Collect round) said f = tt
    says-so from to (message.Graph round graph) said f = tt
    says-so from to message.Up said f = tt

    -- what a segment keeps
    kept-so : (i g : ℕ) (p : Part) → Pair (known_at c ms i g) p → (o : Option Reply) → IsKept p.last p.wrote o → KeptSo (Served c) (partless c) g o → KeptSo (Served d) (partless d) g o
    kept-so i g p pair None k f = tt
    kept-so i g p pair (Some (reply.Done cid w n part)) k f =
        was-so g cid (λ line. fits_part line part ≡ true)
        (record {
          live = λ l. below cid.0 p.last (c.works g).last k.0 (pair.live (live-known c ms i g l)).2;
          fresh = λ e one. absurd (two cid.0 p.last k.0 (pair.unborn (subst (λ h. (known_at c ms i h).at ≡ Unborn) (sym e) (unborn-known c ms i whole))).2 one);
        }) f
      where
        below : (a b n : ℕ) → a ≡ b → b ≤ n → a ≤ n
        below a b n e l = omega arith

        two : (a b : ℕ) → a ≡ b → b ≡ 0 → a ≡ 1 → ⊥
        two a b e f h = omega arith
    kept-so i g p pair (Some (reply.Failed cid x)) k f = tt
    kept-so i g p pair (Some reply.Prepared) k f = tt
    kept-so i g p pair (Some reply.Committed) k f = tt
    kept-so i g p pair (Some reply.Jfault) k f = tt
    kept-so i g p pair (Some reply.Again) k f = tt
    kept-so i g p pair (Some reply.Restarted) k f = tt
    kept-so i g p pair (Some reply.Aborted) k f = tt
    kept-so i g p pair (Some reply.Forgotten) k f = tt

    vote-so : (g : ℕ) (p : Part) (o : Option Reply) → IsVote p.phase o → KeptSo (Served d) (partless d) g o
    vote-so g p None v = tt
    vote-so g p (Some (reply.Done cid w n part)) v = absurd v
    vote-so g p (Some (reply.Failed cid x)) v = tt
    vote-so g p (Some reply.Prepared) v = tt
    vote-so g p (Some reply.Committed) v = tt
    vote-so g p (Some reply.Jfault) v = tt
    vote-so g p (Some reply.Again) v = tt
    vote-so g p (Some reply.Restarted) v = tt
    vote-so g p (Some reply.Aborted) v = tt
    vote-so g p (Some reply.Forgotten) v = tt

module _ (script : Script) (some : 1 ≤ script.segments) (w : World) (n : Knows script w) (v : Holds script w) (q : AreServed w) where
  -- A SINGLE TURN OF THE COORDINATOR
  module _ (turn : CoordTurn) (clock : ℕ) (steps : List Step) (stays : CoordStays script w.coord.sent turn) (serves : Serves w.coord (IsNew w.coord) turn) where
    abbrev d : Coord
    d = (coord_sends clock turn).coord

    sent-so : (outs : List Out) → Each (λ (o : Out). OutServes turn.coord o.message) outs → Each (λ (o : Out). (number : ℕ) → LetterServes d (record { from = the_coordinator; to = o.node; envelope = record { number = number; clock = clock; incarnation = 1; message = o.message } })) outs
    sent-so [] f = tt
    sent-so (o ∷ os) f = (λ number. (λ own. moved o.message f.0, λ one. absurd (one-le-none one)), sent-so os f.1)
      where
        moved : (m : Message) → OutServes turn.coord m → OutServes d m
        moved (message.Exec g k l y h s) f = f
        moved (message.Prepare g) f = tt
        moved (message.Commit g) f = tt
        moved (message.CommitPrepared g) f = tt
        moved (message.Abort g) f = tt
        moved (message.Forget g) f = tt
        moved (message.Collect round) f = tt
        moved (message.Answer g r) f = tt
        moved (message.Graph round graph) f = tt
        moved message.Up f = tt

    turn-served : AreServed (after_turn w clock turn steps)
    turn-served =
        record {
          orders = orders-so w.coord d turn serves refl q.orders;
          locals = λ i h. record {
            answer = kept-so w.coord d turn serves refl w.segs (marks_in w.steps) n.kept.whole i h (parts_in w i h) (v.stands.pairs i h) ((w.segs i).locals h).answer (v.stands.pairs i h).kept (q.locals i h).answer;
            vote = vote-so w.coord d turn serves refl w.segs (marks_in w.steps) n.kept.whole h (parts_in w i h) ((w.segs i).locals h).vote (v.stands.pairs i h).vote;
          };
          letters = each-posted (LetterServes d) the_coordinator clock _ w.sent
              (each_append (SentIs (LetterServes d) the_coordinator clock) _ _ (plain-sent (LetterServes d) script the_coordinator clock _ stays.marks)
              (numbered-sent (LetterServes d) the_coordinator clock _ _ (sent-so turn.outs serves.outs)))
              (each_weaker (λ l. LetterServes w.coord l × SaidIn w l) (LetterServes d)
              (λ l f. (
                λ own. out-so w.coord d turn serves refl w.segs (marks_in w.steps) n.kept.whole l.from l.to l.envelope.message f.1 (f.0.0 own),
                λ one. says-so w.coord d turn serves refl w.segs (marks_in w.steps) n.kept.whole l.from l.to l.envelope.message f.1 (f.0.1 one),
              )) w.sent (each-zip (LetterServes w.coord) (SaidIn w) w.sent q.letters v.said));
        }

  pub coord-served : AreNeat w.coord → (e : Event) (x : NodeEvent) (fails : Bool) → coord_can script w.coord x ≡ true → AreServed (coord_did w e (coord_turn script w.coord x fails))
  coord-served neat e x fails admitted =
      turn-served (on_event script w.coord x fails) (clock_after w.coord.clock x) (coord_did w e (coord_turn script w.coord x fails)).steps (coord_stays script some w.coord x fails n.well.coordinator)
      (event-serves script w.coord n.kept q.orders neat (going-out script w n) x fails admitted)

  pub cancel-served : (g : Gxid) → AreServed (and_cancelled w g)
  cancel-served g = turn-served (cancels w.coord g) w.coord.clock (and_cancelled w g).steps (cancel_stays script some w.coord g n.well.coordinator) (victim-serves (IsNew w.coord) w.coord g)

  -- A STEP OF A SEGMENT
  module _ (e : Event) (x : NodeEvent) (fails : Bool) (i : ℕ) (place : IsSegment script (at i)) where
    abbrev s : Seg
    s = w.segs i

    told-so : (outs : List Out) → Each (λ (o : Out). SaysSo (Served w.coord) (partless w.coord) o.message) outs → Each (λ (o : Out). (number : ℕ) → LetterServes w.coord (record { from = at i; to = o.node; envelope = record { number = number; clock = clock_after s.clock x; incarnation = 1; message = o.message } })) outs
    told-so [] f = tt
    told-so (o ∷ os) f = (λ number. (λ own. absurd (one-le-none (subst (λ (y : Node). 1 ≤ y.0) own place.0)), λ one. f.0), told-so os f.1)

    answer-served : TurnSo (Served w.coord) (partless w.coord) (segment.on_event script (w.segs i) x fails) → AreServed (seg_did w (at i) e (seg_rule script (w.segs i) x fails))
    answer-served so =
        record {
          orders = q.orders;
          locals = λ j h. at-both (λ k (z : Seg). LocalSo (Served w.coord) (partless w.coord) h (z.locals h)) w.segs i _ (so.locals h) (λ k no. q.locals k h) j;
          letters = each-posted (LetterServes w.coord) (at i) (clock_after s.clock x) _ w.sent
              (each_append (SentIs (LetterServes w.coord) (at i) (clock_after s.clock x)) _ _
              (plain-sent (LetterServes w.coord) script (at i) (clock_after s.clock x) _ (subst (λ y. Each (PlainAt script y) (segment.on_event script s x fails).marks) (n.well.names i) (seg_stays script s (subst (IsSegment script) (sym (n.well.names i)) place) x fails).marks))
              (numbered-sent (LetterServes w.coord) (at i) (clock_after s.clock x) _ _ (told-so _ so.outs)))
              q.letters;
        }

  -- a message
  right : (i : ℕ) (m : Message) → OutServes w.coord m → RightFor (Served w.coord) (partless w.coord) (w.segs i) (q.locals i) m
  right i (message.Exec g k level y h slice) f = λ wrote count part is m e counted. f m e counted part is
  right i (message.Prepare g) f = tt
  right i (message.Commit g) f = tt
  right i (message.CommitPrepared g) f = tt
  right i (message.Abort g) f = tt
  right i (message.Forget g) f = tt
  right i (message.Collect round) f = tt
  right i (message.Answer g r) f = tt
  right i (message.Graph round graph) f = tt
  right i message.Up f = tt

  -- a slice that goes on, whose EXEC has come before
  module _ (i : ℕ) (g : Gxid) (fails : Bool) (o : GoesOn script w i g) where
    of-exec : OutServes w.coord (message.Exec g o.slice.cid o.slice.level o.slice.snapshot o.waits.horizon o.slice.slice)
    of-exec = subst (OutServes w.coord) o.waits.come.told ((each-among (LetterServes w.coord) w.sent o.waits.come.letter q.letters o.waits.come.among).0 o.waits.come.source)

    resume-turn : TurnSo (Served w.coord) (partless w.coord) (segment.on_event script (w.segs i) (here.Resume g) fails)
    resume-turn =
        subst (λ y. TurnSo (Served w.coord) (partless w.coord) (resumes (w.segs i) g y (local_of (w.segs i) g).suspended)) (sym o.claims)
        (subst (λ y. TurnSo (Served w.coord) (partless w.coord) (resumes (w.segs i) g (Some o.wanted) y)) (sym o.is)
        (resume-so (Served w.coord) (partless w.coord) (w.segs i) (q.locals i) g o.wanted o.slice (λ wrote count part is m e counted. of-exec m e counted part is)))

  pub seg-served : (e : Event) (x : NodeEvent) (fails : Bool) (i : ℕ) → IsSegment script (at i) → IsThere script w e (at i) x → seg_can script (w.segs i) x ≡ true → AreServed (seg_did w (at i) e (seg_rule script (w.segs i) x fails))
  seg-served e (here.Deliver from envelope) fails i place t ok =
      let d = found_is (LetterServes w.coord) from (at i) t.number w.sent envelope q.letters t.found in
      answer-served e (here.Deliver from envelope) fails i place
      (message-so (Served w.coord) (partless w.coord) (w.segs i) (q.locals i) script fails envelope.message
      (right i envelope.message (subst (λ (y : Envelope). OutServes w.coord y.message) d.told (d.is.0 (d.source ∙ from-coordinator script i from place.0 t.link)))))
  seg-served e (here.Resume g) fails i place t ok = answer-served e (here.Resume g) fails i place (resume-turn i g fails (going-on script w n.well i g ok))
  seg-served e (here.Start s) fails i place t ok = absurd (cc)
  seg-served e (here.End s) fails i place t ok = absurd (cc)
  seg-served e (here.Resend j g) fails i place t ok = absurd (cc)
  seg-served e here.Round fails i place t ok = absurd (cc)
