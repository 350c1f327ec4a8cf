-- In every world what was sent and what is left of transactions is paid by lines, ends, messages sent again and rounds.
use Rattle.std.proofs.Common.{◌≡◌, inl, inr, ◌≤◌, ◌<◌, ℕ, zero, suc, ◌+◌, List, [], ◌∷◌, ◌++◌, Option, Some, None, Bool, true, refl, sym, subst, ap, ◌∙◌, arith, eqb}
use Rattle.std.proofs.lemmas.Bool.{eqb-true}
use Rattle.std.proofs.lemmas.Bool.Decides.{nat_tests}
use Rattle.std.specs.Prelude.{nat_le}
use Rattle.gx_lemmas.proofs.Tests.{and-first}
use Rattle.gx_ids.specs.declared.ids.Cid.{Cid}
use Rattle.gx_ids.specs.declared.ids.Gxid.{Gxid}
use Rattle.gx_ids.specs.declared.ids.Node.{Node}
use Rattle.gx_tree.specs.declared.stmt.Stmt.{Stmt}
use Rattle.gx_dtx.specs.Nodes.{has}
use Rattle.gx_dtx.specs.Table.{find_txn}
use Rattle.gx_dtx.specs.declared.txn.Txn.{Txn}
use Rattle.gx_msg.specs.declared.message.Envelope.{Envelope}
use Rattle.gx_msg.specs.declared.message.Message.{Message}
use Rattle.gx_msg.specs.declared.message.Message.TheVariants as message
use Rattle.gx_msg.specs.declared.reply.Reply.TheVariants as reply
use Rattle.gx_script.specs.declared.Script.{Script}
use Rattle.gx_store.specs.declared.event.Event.{Event}
use Rattle.gx_store.specs.declared.mark.Mark.{Mark}
use Rattle.gx_store.specs.declared.node.NodeEvent.{NodeEvent}
use Rattle.gx_store.specs.declared.node.NodeEvent.TheVariants as here
use Rattle.gx_store.specs.declared.run.Step.{Step}
use Rattle.gx_store.specs.Refusals.{the_coordinator}
use Rattle.gx_rules.specs.AtCoordinator.{awaited, awaited_collect, cancels, coord_can, coord_turn, next_line, on_event, resends}
use Rattle.gx_rules.specs.AtSegment.{seg_rule}
use Rattle.gx_rules.specs.Coordinators.{Command, Coord, CoordTurn}
use Rattle.gx_rules.specs.Machine.{World, and_cancelled, coord_did, new_world, seg_did, with_more, world_of}
use Rattle.gx_rules.specs.Sending.{counted_all}
use Rattle.gx_law_order.specs.Moves.{Move, world_by}
use Rattle.gx_law_order.specs.Sessions.{Kept}
use Rattle.gx_law_order.specs.Stages.{stage}
use Rattle.gx_law_order.specs.Stages.Stage.{Absent, Live}
use Rattle.gx_law_order.specs.Standings.{gx}
use Rattle.gx_law_order.proofs.AtCoordinators.{cancel_stays, coord_stays}
use Rattle.gx_law_order.proofs.Induction.{IsThere, at-events}
use Rattle.gx_law_order.proofs.Letters.{found_is}
use Rattle.gx_law_order.proofs.Ordered.{world_well}
use Rattle.gx_law_order.proofs.Past.{there-drawn}
use Rattle.gx_law_order.proofs.Sent.{at, counted-all}
use Rattle.gx_law_order.proofs.Waiting.{going-out}
use Rattle.gx_law_runs.proofs.Awaited.{DoAsk, IsKnown, moves-ask, moves-known}
use Rattle.gx_law_runs.proofs.Fitted.{LetterServes, Served, partless}
use Rattle.gx_law_runs.proofs.Fitting.{SaysSo}
use Rattle.gx_law_runs.proofs.Reaching.{by-events}
use Rattle.gx_law_runs.proofs.Told.{sends, sent-numbered}
use Rattle.gx_law_runs.proofs.Turning.{FitsEvent, FitsMessage, cancel-asks, event-asks}
use Rattle.gx_law_runs.specs.Reached.{IsReached}
use Rattle.gx_law_orders.specs.Orders.{AreOrdersFew, allowance, allowed_in}
use Rattle.gx_law_orders.proofs.Lowering.{Lowers, Touches, ending-touches, message-lowers, resumption-lowers, starting-touches, victim-lowers}
use Rattle.gx_law_orders.proofs.Ranks.{Falls, command_rank, rank, rank-most, some_left, txn_rank, waiting_rank, work_rank}
use Rattle.gx_law_orders.proofs.Weights.{weight, weight-less, weight-more}

-- WHAT STEPS ALLOW
allowed-push : (ss : List Step) (s : Step) → allowed_in (ss ++ s ∷ []) ≡ allowed_in ss + allowance s.event
allowed-push [] s = sum (allowance s.event)
  where
    sum : (a : ℕ) → a + 0 ≡ 0 + a
    sum a = omega arith
allowed-push (x ∷ xs) s = sum (allowance x.event) (allowed_in xs) _ _ (allowed-push xs s)
  where
    sum : (a b c d : ℕ) → d ≡ b + c → a + d ≡ a + b + c
    sum a b c d e = omega arith

allowed-more : (ss : List Step) (ms : List Mark) → allowed_in (with_more ss ms) ≡ allowed_in ss
allowed-more [] ms = refl
allowed-more (s ∷ []) ms = refl
allowed-more (s ∷ t ∷ ss) ms = ap (λ n. allowance s.event + n) (allowed-more (t ∷ ss) ms)

-- WHO IS AWAY FROM ITS END WAS DRAWN
none-live : {A : Type 0} → Absent ≡ Live → A
none-live e = absurd (cc)

drawn-of : (script : Script) (c : Coord) → Kept script c → (g : ℕ) → 1 ≤ rank c g → (1 ≤ g) × (g < c.table.next.0)
drawn-of script c kept g l = by_found (find_txn c.table (gx g)) refl
  where
    by_work : find_txn c.table (gx g) ≡ None → (o : Option Command) (w : Option Stmt) → (c.works g).command ≡ o → (c.works g).waiting ≡ w → 1 ≤ 0 + (command_rank o + waiting_rank w) → (1 ≤ g) × (g < c.table.next.0)
    by_work none o (Some line) e f h = none-live (sym (ap stage none) ∙ ((kept.tied g).waits line f).0)
    by_work none None None e f h = absurd (no h)
      where
        no : 1 ≤ 0 + (0 + 0) → ⊥
        no h = omega arith
    by_work none (Some k) None e f h = by_list k.awaited refl h
      where
        no : 1 ≤ 0 + (0 + 0) → ⊥
        no h = omega arith

        filled : (is : List Node) (i : Node) → k.awaited ≡ i ∷ is → k.awaited ≡ [] → ⊥
        filled is i a b = clash (sym a ∙ b)
          where
            clash : i ∷ is ≡ [] → ⊥
            clash q = absurd (cc)

        by_list : (is : List Node) → k.awaited ≡ is → 1 ≤ 0 + (some_left is + 0) → (1 ≤ g) × (g < c.table.next.0)
        by_list [] a h = absurd (no h)
        by_list (i ∷ is) a h = none-live (sym (ap stage none) ∙ ((kept.tied g).awaits k e (filled is i a)).0)

    by_found : (o : Option Txn) → find_txn c.table (gx g) ≡ o → (1 ≤ g) × (g < c.table.next.0)
    by_found (Some t) f = there-drawn c.table.next.0 g c.table.txns t kept.whole.drawn f
    by_found None f = by_work f (c.works g).command (c.works g).waiting refl refl (subst (λ (o : Option Txn). 1 ≤ txn_rank o + (command_rank (c.works g).command + waiting_rank (c.works g).waiting)) f l)

-- PAID
abbrev Paid : Coord → (ℕ → ℕ) → ℕ → Type 0
Paid c sent allowed = (n : ℕ) → c.table.next.0 ≤ n + 1 → (i : ℕ) → sent i + weight (rank c) n ≤ allowed

module _ (script : Script) (c : Coord) (kept : Kept script c) (turn : CoordTurn) (same : turn.coord.sent ≡ c.sent) (one : (i : ℕ) → sends (at i) turn.outs ≤ 1) (allowed : ℕ) (paid : Paid c c.sent allowed) where
  sent-now : (i : ℕ) → counted_all turn.coord.sent turn.outs i ≡ c.sent i + sends (at i) turn.outs
  sent-now i = counted-all turn.coord.sent turn.outs i ∙ ap (λ m. turn.coord.sent i + m) (sent-numbered (at i) turn.coord.sent turn.outs) ∙ ap (λ (f : ℕ → ℕ). f i + sends (at i) turn.outs) same

  up : (a b d : ℕ) → a ≤ b → b ≤ d → a ≤ d
  up a b d l h = omega arith

  -- somebody is nearer, or nothing is sent
  lowers-paid : (g : ℕ) → Lowers c g turn → Paid turn.coord (counted_all turn.coord.sent turn.outs) allowed
  lowers-paid g l n within i = by_way l.here
    where
      there : c.table.next.0 ≤ n + 1
      there = up _ _ _ l.touches.next within

      rests-paid : (s k x y w : ℕ) → k ≡ s + 0 → y ≤ x + 0 → s + x ≤ w → k + y ≤ w
      rests-paid s k x y w e l h = omega arith

      nearer-paid : (s k x y w o : ℕ) → k ≡ s + o → o ≤ 1 → y + 1 ≤ x → s + x ≤ w → k + y ≤ w
      nearer-paid s k x y w o e u l h = omega arith

      no-more-here : (a b : ℕ) → a ≤ b → a ≤ b + 0
      no-more-here a b l = omega arith

      some-there : (a b : ℕ) → a + 1 ≤ b → 1 ≤ b
      some-there a b l = omega arith

      below : (a b m : ℕ) → a < b → b ≤ m + 1 → a ≤ m
      below a b m l h = omega arith

      by_way : Falls turn.outs (rank c g) (rank turn.coord g) → counted_all turn.coord.sent turn.outs i + weight (rank turn.coord) n ≤ allowed
      by_way (inl q) =
          rests-paid (c.sent i) _ (weight (rank c) n) (weight (rank turn.coord) n) allowed (sent-now i ∙ ap (λ os. c.sent i + sends (at i) os) q.0)
          (weight-more (rank c) (rank turn.coord) g l.touches.others 0 (no-more-here _ _ q.1) n) (paid n there i)
      by_way (inr q) =
          let d = drawn-of script c kept g (some-there _ _ q) in
          nearer-paid (c.sent i) _ (weight (rank c) n) (weight (rank turn.coord) n) allowed (sends (at i) turn.outs) (sent-now i) (one i)
          (weight-less (rank c) (rank turn.coord) g l.touches.others q d.0 n (below g c.table.next.0 n d.1 there)) (paid n there i)

  -- a line starts, or a session ends
  touches-paid : (g : ℕ) → Touches c g turn → Paid turn.coord (counted_all turn.coord.sent turn.outs) (allowed + 8)
  touches-paid g t n within i =
      all (c.sent i) _ (weight (rank c) n) (weight (rank turn.coord) n) allowed (sends (at i) turn.outs) (sent-now i) (one i)
      (weight-more (rank c) (rank turn.coord) g t.others 7 (most (rank turn.coord g) (rank c g) (rank-most turn.coord g)) n)
      (paid n (up _ _ _ t.next within) i)
    where
      all : (s k x y w o : ℕ) → k ≡ s + o → o ≤ 1 → y ≤ x + 7 → s + x ≤ w → k + y ≤ w + 8
      all s k x y w o e u l h = omega arith

      most : (a b : ℕ) → a ≤ 7 → a ≤ b + 7
      most a b l = omega arith

  -- all stay where they were
  still-paid : turn.coord.table ≡ c.table → turn.coord.works ≡ c.works → Paid turn.coord (counted_all turn.coord.sent turn.outs) (allowed + 1)
  still-paid table works n within i =
      all (c.sent i) _ (weight (rank c) n) (weight (rank turn.coord) n) allowed (sends (at i) turn.outs) (sent-now i) (one i)
      (weight-more (rank c) (rank turn.coord) 0 (λ h e. ranks h) 0 (as_before _ _ (ranks 0)) n) (paid n (subst (λ t. t.next.0 ≤ n + 1) table within) i)
    where
      all : (s k x y w o : ℕ) → k ≡ s + o → o ≤ 1 → y ≤ x + 0 → s + x ≤ w → k + y ≤ w + 1
      all s k x y w o e u l h = omega arith

      as_before : (a b : ℕ) → a ≡ b → a ≤ b + 0
      as_before a b e = omega arith

      ranks : (h : ℕ) → rank turn.coord h ≡ rank c h
      ranks h =
          ap (λ t. txn_rank (find_txn t (gx h)) + work_rank (turn.coord.works h)) table
          ∙ ap (λ w. txn_rank (find_txn c.table (gx h)) + work_rank (w h)) works

-- IN EVERY WORLD
abbrev IsPaid : World → Type 0
IsPaid w = Paid w.coord w.coord.sent (allowed_in w.steps)

new-paid : IsPaid new_world
new-paid n within i = none n
  where
    sum : (a : ℕ) → 0 + a ≤ 0 → 0 + (0 + (0 + 0) + a) ≤ 0
    sum a l = omega arith

    none : (n : ℕ) → 0 + weight (rank new_world.coord) n ≤ 0
    none zero = omega arith
    none (suc n) = sum (weight (rank new_world.coord) n) (none n)

record IsFound (script : Script) (w : World) : Type 0 where
  known : IsKnown script w
  asks : DoAsk w

module _ (script : Script) (some : 1 ≤ script.segments) (w : World) (f : IsFound script w) (p : IsPaid w) where
  abbrev kept : Kept script w.coord
  kept = f.known.knows.kept

  -- what is delivered fits
  message-fits : (from : Node) (m : Message) → SaysSo (Served w.coord) (partless w.coord) m → FitsMessage script w.coord f.known.knows.kept f.asks.neat from m
  message-fits from (message.Answer g (reply.Done cid wrote count part)) s = λ m e waits. s m e (counted m.cid cid (and-first (eqb m.cid.0 cid.0) (has from m.awaited) waits))
    where
      counted : (a b : Cid) → eqb a.0 b.0 ≡ true → a ≡ b
      counted a b e = ap (λ n. let z : Cid = record { 0 = n } in z) (eqb-true a.0 b.0 e)
  message-fits from (message.Answer g (reply.Failed c x)) s = tt
  message-fits from (message.Answer g reply.Prepared) s = tt
  message-fits from (message.Answer g reply.Committed) s = tt
  message-fits from (message.Answer g reply.Jfault) s = tt
  message-fits from (message.Answer g reply.Again) s = tt
  message-fits from (message.Answer g reply.Restarted) s = tt
  message-fits from (message.Answer g reply.Aborted) s = tt
  message-fits from (message.Answer g reply.Forgotten) s = tt
  message-fits from (message.Exec g c l x h y) s = tt
  message-fits from (message.Prepare g) s = tt
  message-fits from (message.Commit g) s = tt
  message-fits from (message.CommitPrepared g) s = tt
  message-fits from (message.Abort g) s = tt
  message-fits from (message.Forget g) s = tt
  message-fits from (message.Collect round) s = tt
  message-fits from (message.Graph round graph) s = tt
  message-fits from message.Up s = tt

  event-fits : (e : Event) (x : NodeEvent) → IsThere script w e the_coordinator x → coord_can script w.coord x ≡ true → FitsEvent script w.coord f.known.knows.kept f.asks.neat x
  event-fits e (here.Deliver from envelope) t ok =
      let d = found_is (LetterServes w.coord) from the_coordinator t.number w.sent envelope f.asks.served.letters t.found in
      message-fits from envelope.message
      (subst (λ (y : Envelope). SaysSo (Served w.coord) (partless w.coord) y.message) d.told (d.is.1 (subst (λ (y : Node). 1 ≤ y.0) (sym d.source) (from-one from.0 (and-first (nat_le 1 from.0) (nat_le from.0 script.segments) ok)))))
    where
      from-one : (a : ℕ) → nat_le 1 a ≡ true → 1 ≤ a
      from-one a e = grind (arith, nat_tests)
  event-fits e (here.Resume g) t ok = tt
  event-fits e (here.Start s) t ok = tt
  event-fits e (here.End s) t ok = tt
  event-fits e (here.Resend i g) t ok = tt
  event-fits e here.Round t ok = tt

  module _ (e : Event) (x : NodeEvent) (fails : Bool) (t : IsThere script w e the_coordinator x) (ok : coord_can script w.coord x ≡ true) where
    same-sent : (on_event script w.coord x fails).coord.sent ≡ w.coord.sent
    same-sent = (coord_stays script some w.coord x fails f.known.knows.well.coordinator).counts

    one-sent : (i : ℕ) → sends (at i) (on_event script w.coord x fails).outs ≤ 1
    one-sent i = (event-asks script w.coord f.known.knows.kept f.asks.neat (going-out script w f.known.knows) x fails ok (event-fits e x t ok)).sends_one (at i)

  abbrev now : ℕ
  now = allowed_in w.steps

  abbrev PaysFor : Event → NodeEvent → Bool → Type 0
  PaysFor e x fails = Paid (on_event script w.coord x fails).coord (counted_all (on_event script w.coord x fails).coord.sent (on_event script w.coord x fails).outs) (now + allowance e)

  grown : (a b : ℕ) → a ≤ a + b
  grown a b = omega arith

  up-to : (a b d : ℕ) → a ≤ b → b ≤ d → a ≤ d
  up-to a b d l h = omega arith

  again : (i : Node) (m : Option Message) → (resends w.coord i m).coord ≡ w.coord
  again i None = refl
  again i (Some told) = refl

  pays : (e : Event) (x : NodeEvent) (fails : Bool) → IsThere script w e the_coordinator x → coord_can script w.coord x ≡ true → PaysFor e x fails
  pays e (here.Deliver from envelope) fails t ok =
      let l = message-lowers script w.coord f.known.knows.kept from fails envelope.message in
      λ n within i. up-to _ _ _
      (lowers-paid script w.coord kept (on_event script w.coord (here.Deliver from envelope) fails) (same-sent e (here.Deliver from envelope) fails t ok) (one-sent e (here.Deliver from envelope) fails t ok) now p l.0 l.1 n within i)
      (grown now (allowance e))
  pays e (here.Resume g) fails t ok =
      let l = resumption-lowers script w.coord f.known.knows.kept g in
      λ n within i. up-to _ _ _
      (lowers-paid script w.coord kept (on_event script w.coord (here.Resume g) fails) (same-sent e (here.Resume g) fails t ok) (one-sent e (here.Resume g) fails t ok) now p l.0 l.1 n within i)
      (grown now (allowance e))
  pays e (here.Start s) fails t ok =
      let l = starting-touches script w.coord f.known.knows.kept.whole s (next_line script w.coord s) in
      subst (λ y. PaysFor y (here.Start s) fails) (sym t)
      (touches-paid script w.coord kept (on_event script w.coord (here.Start s) fails) (same-sent e (here.Start s) fails t ok) (one-sent e (here.Start s) fails t ok) now p l.0 l.1)
  pays e (here.End s) fails t ok =
      let l = ending-touches script w.coord f.known.knows.kept.whole s in
      subst (λ y. PaysFor y (here.End s) fails) (sym t)
      (touches-paid script w.coord kept (on_event script w.coord (here.End s) fails) (same-sent e (here.End s) fails t ok) (one-sent e (here.End s) fails t ok) now p l.0 l.1)
  pays e (here.Resend i (Some g)) fails t ok =
      subst (λ y. PaysFor y (here.Resend i (Some g)) fails) (sym t)
      (still-paid script w.coord kept (on_event script w.coord (here.Resend i (Some g)) fails) (same-sent e (here.Resend i (Some g)) fails t ok) (one-sent e (here.Resend i (Some g)) fails t ok) now p
      (ap (λ (c : Coord). c.table) (again i (awaited w.coord g i))) (ap (λ (c : Coord). c.works) (again i (awaited w.coord g i))))
  pays e (here.Resend i None) fails t ok =
      subst (λ y. PaysFor y (here.Resend i None) fails) (sym t)
      (still-paid script w.coord kept (on_event script w.coord (here.Resend i None) fails) (same-sent e (here.Resend i None) fails t ok) (one-sent e (here.Resend i None) fails t ok) now p
      (ap (λ (c : Coord). c.table) (again i (awaited_collect w.coord i))) (ap (λ (c : Coord). c.works) (again i (awaited_collect w.coord i))))
  pays e here.Round fails t ok =
      subst (λ y. PaysFor y here.Round fails) (sym t)
      (still-paid script w.coord kept (on_event script w.coord here.Round fails) (same-sent e here.Round fails t ok) (one-sent e here.Round fails t ok) now p refl refl)

  turn-paid : (e : Event) (x : NodeEvent) (fails : Bool) → IsThere script w e the_coordinator x → coord_can script w.coord x ≡ true → IsPaid (coord_did w e (coord_turn script w.coord x fails))
  turn-paid e x fails t ok n within i =
      subst (λ a. counted_all (on_event script w.coord x fails).coord.sent (on_event script w.coord x fails).outs i + weight (rank (on_event script w.coord x fails).coord) n ≤ a) (sym (allowed-push w.steps _))
      (pays e x fails t ok n within i)

  victim-paid : (g : Gxid) → IsPaid (and_cancelled w g)
  victim-paid g n within i =
      subst (λ a. counted_all (cancels w.coord g).coord.sent (cancels w.coord g).outs i + weight (rank (cancels w.coord g).coord) n ≤ a) (sym (allowed-more w.steps _))
      (lowers-paid script w.coord f.known.knows.kept (cancels w.coord g) (cancel_stays script some w.coord g f.known.knows.well.coordinator).counts
      (λ j. (cancel-asks script w.coord f.known.knows.kept f.asks.neat g).sends_one (at j)) now p g.0 (victim-lowers script w.coord f.known.knows.kept g.0) n within i)

  seg-paid : (e : Event) (x : NodeEvent) (fails : Bool) (i : ℕ) → IsPaid (seg_did w (at i) e (seg_rule script (w.segs i) x fails))
  seg-paid e x fails i n within j = subst (λ a. w.coord.sent j + weight (rank w.coord) n ≤ a) (sym (allowed-push w.steps _)) (up-to _ _ _ (p n within j) (grown now (allowance e)))

module _ (script : Script) (some : 1 ≤ script.segments) where
  found : (ms : List Move) → IsFound script (world_by script ms)
  found ms = record { known = moves-known script some ms; asks = moves-ask script some ms }

  world-paid : (es : List (Event × Bool)) → IsPaid (world_of script es)
  world-paid =
      at-events script some (IsFound script) IsPaid found new-paid (λ w f p e x fails t ok next. turn-paid script some w f p e x fails t ok) (λ w f p g h next. victim-paid script some w f p g)
      (λ w f p e x fails i place t ok next. seg-paid script some w f p e x fails i)

  events-few : (es : List (Event × Bool)) → AreOrdersFew (world_of script es).steps
  events-few es segment =
      subst (λ n. n ≤ allowed_in (world_of script es).steps) ((world_well script some es).sent segment.0)
      (first ((world_of script es).coord.sent segment.0) _ _ (world-paid es (world_of script es).coord.table.next.0 (one (world_of script es).coord.table.next.0) segment.0))
    where
      one : (a : ℕ) → a ≤ a + 1
      one a = omega arith

      first : (a b c : ℕ) → a + b ≤ c → a ≤ c
      first a b c l = omega arith

  pub orders-few : (steps : List Step) → IsReached script steps → AreOrdersFew steps
  orders-few steps is = by-events script steps is AreOrdersFew events-few
