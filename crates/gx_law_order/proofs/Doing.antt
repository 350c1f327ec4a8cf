-- What each event does at the coordinator.
use Rattle.std.proofs.Common.{◌≡◌, ◌≤◌, inl, inr, ℕ, ◌+◌, ◌++◌, Option, Some, None, Bool, true, false, refl, sym, subst, ap, ◌∙◌, if◌then◌else◌, ◌&&◌, not, arith}
use Rattle.std.proofs.lemmas.Bool.Decides.{nat_tests}
use Rattle.std.specs.Prelude.{IsSome, nat_le}
use Rattle.std.proofs.lemmas.Bool.{and_parts}
use Rattle.gx_ids.specs.declared.ids.Gxid.{Gxid}
use Rattle.gx_ids.specs.declared.ids.Node.{Node}
use Rattle.gx_ids.specs.declared.ids.SessionId.{SessionId}
use Rattle.gx_tree.specs.declared.stmt.Stmt.{Stmt}
use Rattle.gx_dtx.specs.Rules.{awaited_order}
use Rattle.gx_msg.specs.declared.message.Envelope.{Envelope}
use Rattle.gx_msg.specs.declared.message.Message.{Message}
use Rattle.gx_script.specs.declared.Script.{Script}
use Rattle.gx_script.specs.declared.state.Pending.{Pending}
use Rattle.gx_store.specs.declared.event.Event.{Event}
use Rattle.gx_store.specs.declared.event.Event.TheVariants as event
use Rattle.gx_store.specs.declared.node.NodeEvent.{NodeEvent}
use Rattle.gx_store.specs.declared.node.NodeEvent.TheVariants as here
use Rattle.gx_store.specs.Legal.{IsDrawn, LegalEvent}
use Rattle.gx_store.specs.Lines.{next_stmt, stmt_of}
use Rattle.gx_store.specs.Points.{marks_in}
use Rattle.gx_store.specs.Refusals.{the_coordinator}
use Rattle.gx_rules.specs.AtCoordinator.{awaited, awaited_collect, coord_can, is_idle, is_in_block, is_left, is_nothing, next_line, on_event, resends, starts}
use Rattle.gx_rules.specs.Coordinators.{CoordTurn, session_of}
use Rattle.gx_rules.specs.Machine.{World}
use Rattle.gx_rules.specs.Rounds.{awaits_graph}
use Rattle.gx_rules.specs.Sending.{numbered}
use Rattle.gx_law_order.proofs.Dispatches.{resume-ways}
use Rattle.gx_law_order.proofs.Induction.{IsReceipt, IsThere}
use Rattle.gx_law_order.proofs.Letters.{IsFound, found_is}
use Rattle.gx_law_order.proofs.Places.{collects-each}
use Rattle.gx_law_order.specs.Sessions.{is_nothing_in}
use Rattle.gx_law_order.proofs.World.{Knows}
use Rattle.gx_law_order.specs.Rest.{StartsNothing}
use Rattle.gx_law_order.proofs.Awaited.{OutAwaits, resent-awaits}
use Rattle.gx_law_order.proofs.Blocks.{start-counts, start-does}
use Rattle.gx_law_order.proofs.Closed.{end-does, legal-end}
use Rattle.gx_law_order.proofs.OrderAnswers.{IsNoted, message-does}
use Rattle.gx_law_order.proofs.Drawn.{drawn-at}
use Rattle.gx_law_order.proofs.Frame.{Effect, Rests}
use Rattle.gx_law_order.proofs.Outs.{OutIs}
use Rattle.gx_law_order.proofs.Resuming.{resume-does}
use Rattle.gx_law_order.proofs.Sendings.{IsToldOf, command-order-is}
use Rattle.gx_law_order.proofs.Stepping.{Holds}
use Rattle.gx_law_order.proofs.Unsent.{Unsent}

idle-so : (q : Pending) → is_nothing q ≡ true → is_nothing_in q ≡ true
idle-so q e = grind arith

-- it has this effect, may happen there, and draws a transaction where it has to
pub record Happens (script : Script) (w : World) (e : Event) (turn : CoordTurn) : Type 0 where
  pub effect : Effect script w.steps w.coord e turn
  pub legal : LegalEvent script w.steps e (turn.marks ++ numbered turn.coord.sent turn.outs)
  pub drawn : IsDrawn script w.steps e (turn.marks ++ numbered turn.coord.sent turn.outs)

module _ (script : Script) (some : 1 ≤ script.segments) (w : World) (n : Knows script w) (h : Holds script w) (u : Unsent w.coord (marks_in w.steps)) where
  -- a message comes
  heard : (e : Event) (from : Node) (envelope : Envelope) (fails : Bool) → IsReceipt script w e the_coordinator from envelope → coord_can script w.coord (here.Deliver from envelope) ≡ true → Happens script w e (on_event script w.coord (here.Deliver from envelope) fails)
  heard e from envelope fails r can =
      subst (λ q. Happens script w q (on_event script w.coord (here.Deliver from envelope) fails)) (sym r.event) (record {
        effect = message-does script w.steps w.coord n.kept h.sessions h.gathers from one the_coordinator r.number fails envelope.message (subst (λ q. Rattle.gx_store.specs.Messages.Receives w.steps q from the_coordinator envelope.message) r.event r.received)
            (subst (λ (a : Envelope). IsNoted (marks_in w.steps) from a.message) t.told (subst (λ a. IsNoted (marks_in w.steps) a t.letter.envelope.message) t.source (t.is (subst (λ (a : Node). 1 ≤ a.0) (sym t.source) one))));
        legal = tt;
        drawn = tt;
      })
    where
      one : 1 ≤ from.0
      one = at-least from.0 (and_parts _ _ can).0
        where
          at-least : (a : ℕ) → nat_le 1 a ≡ true → 1 ≤ a
          at-least a q = grind (arith, nat_tests)

      t : IsFound (IsToldOf (marks_in w.steps)) from the_coordinator r.number envelope
      t = found_is (IsToldOf (marks_in w.steps)) from the_coordinator r.number w.sent envelope h.letters r.found

  -- a line starts
  line-starts : (s : SessionId) (fails : Bool) → coord_can script w.coord (here.Start s) ≡ true → Happens script w (event.Start s) (on_event script w.coord (here.Start s) fails)
  line-starts s fails can = by_next (next_line script w.coord s) refl (and_parts _ _ can).1
    where
      idle : is_nothing_in (session_of w.coord s).state.pending ≡ true
      idle = idle-so (session_of w.coord s).state.pending (and_parts _ _ can).0

      by_next : (o : Option Stmt) → next_line script w.coord s ≡ o → is_left o ≡ true → Happens script w (event.Start s) (starts script w.coord s o)
      by_next None e q = absurd (cc)
      by_next (Some line) e q =
          let counts = start-counts script w.steps w.coord n.kept n.past h.fresh h.numbers s (h.sessions s) idle u line e in
          let same : next_stmt s script (marks_in w.steps) ≡ Some line = ap (λ i. stmt_of s (i + 1) script.lines) (sym counts ∙ (h.sessions s).starts) ∙ e in
          record {
            effect = inl (start-does script w.steps w.coord n.kept n.past h.fresh h.numbers s (h.sessions s) idle u line e);
            legal = (counts, subst IsSome (sym same) refl);
            drawn = drawn-at script w.steps w.coord s (h.sessions s) line e same (numbered (starts script w.coord s (Some line)).coord.sent (starts script w.coord s (Some line)).outs);
          }

  -- a session ends
  session-ends : (s : SessionId) (fails : Bool) → coord_can script w.coord (here.End s) ≡ true → Happens script w (event.End s) (on_event script w.coord (here.End s) fails)
  session-ends s fails ok =
      let did : CoordTurn = on_event script w.coord (here.End s) fails in
      record {
        effect = inl (end-does script w.steps w.coord s (h.sessions s) idle over b.1 (session_of w.coord s).state.block refl);
        legal = legal-end script w.steps w.coord s (h.sessions s) idle over b.1 (numbered did.coord.sent did.outs);
        drawn = tt;
      }
    where
      a : (is_idle (session_of w.coord s) ≡ true) × ((not (is_left (next_line script w.coord s)) && is_in_block (session_of w.coord s).state.block) ≡ true)
      a = and_parts (is_idle (session_of w.coord s)) (not (is_left (next_line script w.coord s)) && is_in_block (session_of w.coord s).state.block) ok

      b : (not (is_left (next_line script w.coord s)) ≡ true) × (is_in_block (session_of w.coord s).state.block ≡ true)
      b = and_parts (not (is_left (next_line script w.coord s))) (is_in_block (session_of w.coord s).state.block) a.1

      idle : is_nothing_in (session_of w.coord s).state.pending ≡ true
      idle = idle-so (session_of w.coord s).state.pending a.0

      over : next_line script w.coord s ≡ None
      over = none-left (next_line script w.coord s) b.0
        where
          none-left : (o : Option Stmt) → not (is_left o) ≡ true → o ≡ None
          none-left None q = refl
          none-left (Some line) q = absurd (cc)

  -- a message is sent again
  again : (i : Node) (g : Gxid) (m : Option Message) → awaited w.coord g i ≡ m → Rests script w.steps w.coord (event.Resend i (Some g)) (resends w.coord i m)
  again i g None e = record { sessions = λ j. refl; works = λ j. refl; next = refl; quiet = tt; alone = λ j. (refl, refl); outs = λ o. tt; sent = λ o. tt }
  again i g (Some m) e =
      record {
        sessions = λ j. refl;
        works = λ j. refl;
        next = refl;
        quiet = tt;
        alone = λ j. (refl, refl);
        outs = λ o. (command-order-is script (marks_in w.steps ++ _) i g m (w.coord.works g.0).command (awaited_order w.coord.table g i) (o g.0) e, tt);
        sent = λ o. (resent-awaits w.coord g i m (w.coord.works g.0).command (awaited_order w.coord.table g i) refl (o g.0) e, tt);
      }

  again-collect : (i : Node) → Rests script w.steps w.coord (event.Resend i None) (resends w.coord i (awaited_collect w.coord i))
  again-collect i = by_test (awaits_graph w.coord i)
    where
      by_test : (b : Bool) → Rests script w.steps w.coord (event.Resend i None) (resends w.coord i (if b then Some (Rattle.gx_msg.specs.declared.message.Message.TheVariants.Collect w.coord.rounds) else None))
      by_test true = record { sessions = λ j. refl; works = λ j. refl; next = refl; quiet = tt; alone = λ j. (refl, refl); outs = λ o. (λ l. tt, tt); sent = λ o. (tt, tt) }
      by_test false = record { sessions = λ j. refl; works = λ j. refl; next = refl; quiet = tt; alone = λ j. (refl, refl); outs = λ o. tt; sent = λ o. tt }

  sent-again : (i : Node) (g : Option Gxid) (fails : Bool) → Effect script w.steps w.coord (event.Resend i g) (on_event script w.coord (here.Resend i g) fails)
  sent-again i None fails = inr (again-collect i)
  sent-again i (Some g) fails = inr (again i g (awaited w.coord g i) refl)

  -- a statement that has waited goes out
  goes-out : (g : Gxid) (fails : Bool) → Effect script w.steps w.coord (event.Resume the_coordinator g) (on_event script w.coord (here.Resume g) fails)
  goes-out g fails =
      resume-ways (Effect script w.steps w.coord (event.Resume the_coordinator g)) script w.coord g
      (inr (record { sessions = λ j. refl; works = λ j. refl; next = refl; quiet = tt; alone = λ j. (refl, refl); outs = λ o. tt; sent = λ o. tt }))
      (λ wanted line e f. inl (resume-does script w.steps w.coord n.kept n.past h.sessions h.gathers the_coordinator refl g wanted line f u))

  -- a round begins
  round-begins : (fails : Bool) → Effect script w.steps w.coord event.Round (on_event script w.coord here.Round fails)
  round-begins fails =
      inr (record {
        sessions = λ j. refl;
        works = λ j. refl;
        next = refl;
        quiet = tt;
        alone = λ j. (refl, refl);
        outs = λ o. collects-each (OutIs script _) script.segments (w.coord.rounds + 1) (λ i one within l. tt);
        sent = λ o. collects-each (OutAwaits w.coord) script.segments (w.coord.rounds + 1) (λ i one within. tt);
      })

  -- ALL EVENTS
  pub event-does : (e : Event) (x : NodeEvent) (fails : Bool) → IsThere script w e the_coordinator x → coord_can script w.coord x ≡ true → Happens script w e (on_event script w.coord x fails)
  event-does e (here.Deliver from envelope) fails r ok = heard e from envelope fails r ok
  event-does e (here.Resume g) fails r ok = subst (λ q. Happens script w q (on_event script w.coord (here.Resume g) fails)) (sym r) (record { effect = goes-out g fails; legal = tt; drawn = tt })
  event-does e (here.Start s) fails r ok = subst (λ q. Happens script w q (on_event script w.coord (here.Start s) fails)) (sym r) (line-starts s fails ok)
  event-does e (here.End s) fails r ok = subst (λ q. Happens script w q (on_event script w.coord (here.End s) fails)) (sym r) (session-ends s fails ok)
  event-does e (here.Resend i g) fails r ok = subst (λ q. Happens script w q (on_event script w.coord (here.Resend i g) fails)) (sym r) (record { effect = sent-again i g fails; legal = tt; drawn = tt })
  event-does e here.Round fails r ok = subst (λ q. Happens script w q (on_event script w.coord here.Round fails)) (sym r) (record { effect = round-begins fails; legal = tt; drawn = tt })

-- WHAT A SEGMENT'S EVENT STARTS
pub starts-nothing : (script : Script) (w : World) (e : Event) (at : Node) (x : NodeEvent) → Rattle.gx_rules.specs.Machine.seg_can script (w.segs at.0) x ≡ true → IsThere script w e at x → StartsNothing e
starts-nothing script w e at (here.Deliver from envelope) ok r = subst StartsNothing (sym r.event) tt
starts-nothing script w e at (here.Resume g) ok r = subst StartsNothing (sym r) tt
starts-nothing script w e at (here.Start s) ok r = absurd (cc)
starts-nothing script w e at (here.End s) ok r = absurd (cc)
starts-nothing script w e at (here.Resend i g) ok r = absurd (cc)
starts-nothing script w e at here.Round ok r = absurd (cc)
