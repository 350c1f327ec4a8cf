-- Over every run of the machine, no horizon is above a transaction that holds locks at the segment.
use Rattle.std.proofs.Common.{◌≡◌, ◌≤◌, ◌⊎◌, inl, inr, ℕ, List, [], ◌∷◌, Option, Some, None, Bool, true, false, refl, sym, subst, ap, ◌∙◌, if◌then◌else◌, nat_lt, eqb}
use Rattle.std.proofs.lemmas.Bool.{eqb-true, false_from_ne_true}
use Rattle.gx_lemmas.proofs.Numbers.{eqb-self, one-le-none}
use Rattle.gx_lemmas.proofs.Tests.{true-false}
use Rattle.gx_ids.specs.declared.ids.Gxid.{Gxid}
use Rattle.gx_dtx.specs.Table.{Table}
use Rattle.gx_msg.specs.declared.message.Message.{Message}
use Rattle.gx_msg.specs.declared.message.Message.TheVariants as message
use Rattle.gx_msg.specs.declared.message.Out.{Out}
use Rattle.gx_msg.specs.declared.reply.Reply.TheVariants as reply
use Rattle.gx_script.specs.declared.Script.{Script}
use Rattle.gx_store.specs.declared.event.Event.{Event}
use Rattle.gx_store.specs.declared.node.NodeEvent.{NodeEvent}
use Rattle.gx_store.specs.declared.run.Step.{Step}
use Rattle.gx_store.specs.Points.{marks_in}
use Rattle.gx_store.specs.Protocol.{is_writer, local_count, prepared_count}
use Rattle.gx_store.specs.Refusals.{the_coordinator}
use Rattle.gx_rules.specs.AtCoordinator.{cancels, coord_can, coord_turn, on_event}
use Rattle.gx_rules.specs.AtSegment as segment
use Rattle.gx_rules.specs.AtSegment.{seg_rule}
use Rattle.gx_rules.specs.Coordinators.{CoordTurn}
use Rattle.gx_rules.specs.Machine.{Letter, World, and_cancelled, coord_did, seg_did}
use Rattle.gx_rules.specs.Segments.{Local, Seg, SegTurn, has_ended}
use Rattle.gx_rules.specs.Sending.{clock_after}
use Rattle.gx_law_order.proofs.AtCoordinators.{cancel_stays, coord_stays}
use Rattle.gx_law_order.proofs.Induction.{after_turn}
use Rattle.gx_law_order.proofs.Lists.{each_weaker}
use Rattle.gx_law_order.specs.Lists.{Each}
use Rattle.gx_law_order.proofs.Waiting.{going-out}
use Rattle.gx_law_order.proofs.World.{Knows}
use Rattle.gx_law_order.specs.Said.{gxid_in, is_answer}
use Rattle.gx_law_order.specs.Standings.{at, gx, known_at}
use Rattle.gx_law_order.proofs.Counts.{NoSent}
use Rattle.gx_law_order.proofs.Ended.{EndsSo, IsExec, TellsEnd}
use Rattle.gx_law_order.proofs.Everywhere.{Holds, part_then, parts_in, posted-each}
use Rattle.gx_law_order.proofs.Following.{HasReached}
use Rattle.gx_law_order.proofs.Handled.{Does}
use Rattle.gx_law_order.proofs.Held.{held_in}
use Rattle.gx_law_order.proofs.Holding.{HeldFor, HeldOut, Holding, IsEndedIn, OrdersHeld, SaysBy, cancel-holds, event-holds, held-goes}
use Rattle.gx_law_order.proofs.Low.{plain-none}

abbrev pub ended_at : (ℕ → Seg) → ℕ → ℕ → Bool
ended_at segs i g = has_ended ((segs i).locals g).phase

-- what a segment has told of an end
abbrev pub EndTold : (ℕ → Seg) → ℕ → Message → Type 0
EndTold segs i (message.Answer g reply.Aborted) = ended_at segs i g.0 ≡ true
EndTold segs i (message.Answer g reply.Forgotten) = ended_at segs i g.0 ≡ true
EndTold segs i _ = Unit {0}

pub record LetterHeld (w : World) (l : Letter) : Type 0 where
  pub held : HeldFor (ended_at w.segs) w.coord.table l.to.0 l.envelope.message
  pub told : 1 ≤ l.from.0 → EndTold w.segs l.from.0 l.envelope.message

pub record Waits (w : World) : Type 0 where
  pub orders : OrdersHeld (ended_at w.segs) w.coord.table w.coord.works
  pub locals : (i g : ℕ) → nat_lt 0 ((w.segs i).locals g).last ≡ true → ended_at w.segs i g ≡ false → held_in w.coord.table i g ≡ true
  pub sent : Each (LetterHeld w) w.sent

-- A TURN OF THE COORDINATOR
turn-waits : (w : World) → Waits w → (turn : CoordTurn) (clock : ℕ) (steps : List Step) → Holding (ended_at w.segs) w.coord turn → Each NoSent turn.marks → Waits (after_turn w clock turn steps)
turn-waits w v turn clock steps f none =
    record {
      orders = f.orders;
      locals = λ i g a b. either i g b (f.table i g (v.locals i g a b));
      sent = posted-each (LetterHeld (after_turn w clock turn steps)) the_coordinator clock turn.marks turn.coord.sent turn.outs w.sent none
          (each_weaker (HeldOut (ended_at w.segs) turn.coord.table) _ (λ o h number. record { held = h; told = λ z. absurd (one-le-none z) }) turn.outs f.outs)
          (each_weaker (LetterHeld w) (LetterHeld (after_turn w clock turn steps)) (λ l h. record { held = held-goes (ended_at w.segs) w.coord.table turn.coord.table f.table l.to.0 l.envelope.message h.held; told = h.told }) w.sent v.sent);
    }
  where
    either : (i g : ℕ) → ended_at w.segs i g ≡ false → (held_in turn.coord.table i g ≡ true) ⊎ (ended_at w.segs i g ≡ true) → held_in turn.coord.table i g ≡ true
    either i g b (inl y) = y
    either i g b (inr y) = absurd (true-false (ended_at w.segs i g) y b)

module _ (script : Script) (some : 1 ≤ script.segments) (w : World) (n : Knows script w) (v : Waits w) where
  -- by an event
  pub coord-waits : (e : Event) (x : NodeEvent) (fails : Bool) → coord_can script w.coord x ≡ true → IsEndedIn (ended_at w.segs) script w.coord n.kept v.orders x → Waits (coord_did w e (coord_turn script w.coord x fails))
  coord-waits e x fails ok d =
      turn-waits w v (on_event script w.coord x fails) (clock_after w.coord.clock x) (coord_did w e (coord_turn script w.coord x fails)).steps
      (event-holds (ended_at w.segs) script w.coord n.kept v.orders (going-out script w n) x fails ok d)
      (plain-none script the_coordinator (on_event script w.coord x fails).marks (coord_stays script some w.coord x fails n.well.coordinator).marks)

  -- by a victim
  pub victim-waits : (g : Gxid) → Waits (and_cancelled w g)
  victim-waits g =
      turn-waits w v (cancels w.coord g) w.coord.clock (and_cancelled w g).steps (cancel-holds (ended_at w.segs) script w.coord n.kept v.orders g)
      (plain-none script the_coordinator (cancels w.coord g).marks (cancel_stays script some w.coord g n.well.coordinator).marks)

-- A STEP OF A SEGMENT
held-more : (E F : ℕ → ℕ → Bool) (d : Table) (i : ℕ) (m : Message) → ((j h : ℕ) → E j h ≡ true → F j h ≡ true) → HeldFor E d i m → HeldFor F d i m
held-more E F d i (message.Exec g c level x h y) f (inl e) = inl e
held-more E F d i (message.Exec g c level x h y) f (inr e) = inr (f i g.0 e)
held-more E F d i (message.Prepare g) f e = tt
held-more E F d i (message.Commit g) f e = tt
held-more E F d i (message.CommitPrepared g) f e = tt
held-more E F d i (message.Abort g) f e = tt
held-more E F d i (message.Forget g) f e = tt
held-more E F d i (message.Collect round) f e = tt
held-more E F d i (message.Answer g r) f e = tt
held-more E F d i (message.Graph round graph) f e = tt
held-more E F d i message.Up f e = tt

told-more : (a b : ℕ → Seg) (i : ℕ) (m : Message) → ((j h : ℕ) → ended_at a j h ≡ true → ended_at b j h ≡ true) → EndTold a i m → EndTold b i m
told-more a b i (message.Answer g reply.Aborted) f e = f i g.0 e
told-more a b i (message.Answer g reply.Forgotten) f e = f i g.0 e
told-more a b i (message.Answer g (reply.Done c x y z)) f e = tt
told-more a b i (message.Answer g (reply.Failed c x)) f e = tt
told-more a b i (message.Answer g reply.Prepared) f e = tt
told-more a b i (message.Answer g reply.Committed) f e = tt
told-more a b i (message.Answer g reply.Jfault) f e = tt
told-more a b i (message.Answer g reply.Again) f e = tt
told-more a b i (message.Answer g reply.Restarted) f e = tt
told-more a b i (message.Exec g c level x h y) f e = tt
told-more a b i (message.Prepare g) f e = tt
told-more a b i (message.Commit g) f e = tt
told-more a b i (message.CommitPrepared g) f e = tt
told-more a b i (message.Abort g) f e = tt
told-more a b i (message.Forget g) f e = tt
told-more a b i (message.Collect round) f e = tt
told-more a b i (message.Graph round graph) f e = tt
told-more a b i message.Up f e = tt

exec-held : (E : ℕ → ℕ → Bool) (d : Table) (i : ℕ) (m : Message) → IsExec m → HeldFor E d i m → (held_in d i (gxid_in m) ≡ true) ⊎ (E i (gxid_in m) ≡ true)
exec-held E d i (message.Exec g c level x h y) is e = e
exec-held E d i (message.Prepare g) is e = absurd is
exec-held E d i (message.Commit g) is e = absurd is
exec-held E d i (message.CommitPrepared g) is e = absurd is
exec-held E d i (message.Abort g) is e = absurd is
exec-held E d i (message.Forget g) is e = absurd is
exec-held E d i (message.Collect round) is e = absurd is
exec-held E d i (message.Answer g r) is e = absurd is
exec-held E d i (message.Graph round graph) is e = absurd is
exec-held E d i message.Up is e = absurd is

tells-held : (k : Rattle.gx_law_order.specs.Standings.Known) (q : Rattle.gx_law_order.specs.Standings.Part) (i g : ℕ) (marks : List Rattle.gx_store.specs.declared.mark.Mark.Mark) (E : ℕ → ℕ → Bool) (d : Table) (j : ℕ) (m : Message) → Rattle.gx_law_order.proofs.Handled.Tells k q i g marks m → HeldFor E d j m
tells-held k q i g marks E d j (message.Exec h c level x y z) e = absurd e
tells-held k q i g marks E d j m e = tt

module _ (script : Script) (w : World) (n : Knows script w) (v : Holds script w) (u : Waits w) (e : Event) (x : NodeEvent) (fails : Bool) (i : ℕ) (msg : Message) (reached : HasReached w.steps e i msg) (does : Does msg (known_at w.coord (marks_in w.steps) i (gxid_in msg)) (w.segs i) i (gxid_in msg) (n.well.names i) (is_writer (marks_in w.steps) (gx (gxid_in msg)) (at i)) (prepared_count (marks_in w.steps) (at i) (gx (gxid_in msg))) (local_count (marks_in w.steps) (at i) (gx (gxid_in msg))) (v.stands.pairs i (gxid_in msg)) (segment.on_event script (w.segs i) x fails)) (so : EndsSo script msg (w.segs i) (gxid_in msg) (parts_in w i (gxid_in msg)).wrote (v.stands.pairs i (gxid_in msg)).vote (v.stands.pairs i (gxid_in msg)).kept (segment.on_event script (w.segs i) x fails)) (held : HeldFor (ended_at w.segs) w.coord.table i msg) where
  abbrev g : ℕ
  g = gxid_in msg

  abbrev s : Seg
  s = w.segs i

  abbrev seg_turn : SegTurn
  seg_turn = segment.on_event script s x fails

  abbrev seg_now : Seg
  seg_now = (seg_rule script s x fails).seg

  abbrev seg_next : World
  seg_next = seg_did w (at i) e (seg_rule script s x fails)

  other-locals : (h : ℕ) → eqb h g ≡ false → seg_now.locals h ≡ s.locals h
  other-locals h q = does.others h q

  ended-more : (j h : ℕ) → ended_at w.segs j h ≡ true → ended_at seg_next.segs j h ≡ true
  ended-more j h q = by_seg (eqb j i) refl
    where
      by_txn : (b : Bool) → eqb h g ≡ b → has_ended (s.locals h).phase ≡ true → has_ended (seg_now.locals h).phase ≡ true
      by_txn true y z = subst (λ k. has_ended (seg_now.locals k).phase ≡ true) (sym (eqb-true h g y)) (so.ended (subst (λ k. has_ended (s.locals k).phase ≡ true) (eqb-true h g y) z))
      by_txn false y z = ap (λ (l : Local). has_ended l.phase) (other-locals h y) ∙ z

      by_seg : (b : Bool) → eqb j i ≡ b → has_ended ((if b then seg_now else w.segs j).locals h).phase ≡ true
      by_seg true y = by_txn (eqb h g) refl (subst (λ k. ended_at w.segs k h ≡ true) (eqb-true j i y) q)
      by_seg false y = q

  abbrev IsHeldThere : Seg → ℕ → ℕ → Type 0
  IsHeldThere t j h = nat_lt 0 (t.locals h).last ≡ true → has_ended (t.locals h).phase ≡ false → held_in w.coord.table j h ≡ true

  held-here : IsHeldThere seg_now i g
  held-here a b = by_last (so.last a)
    where
      not-before : has_ended (s.locals g).phase ≡ true → ⊥
      not-before z = true-false (has_ended (seg_now.locals g).phase) (so.ended z) b

      by_exec : has_ended (s.locals g).phase ≡ false → (held_in w.coord.table i g ≡ true) ⊎ (ended_at w.segs i g ≡ true) → held_in w.coord.table i g ≡ true
      by_exec o (inl z) = z
      by_exec o (inr z) = absurd (true-false (ended_at w.segs i g) z o)

      by_last : (nat_lt 0 (s.locals g).last ≡ true) ⊎ ((has_ended (s.locals g).phase ≡ false) × IsExec msg) → held_in w.coord.table i g ≡ true
      by_last (inl z) = u.locals i g z (false_from_ne_true (has_ended (s.locals g).phase) not-before)
      by_last (inr z) = by_exec z.0 (exec-held (ended_at w.segs) w.coord.table i msg z.1 held)

  held-next : (j h : ℕ) → IsHeldThere (seg_next.segs j) j h
  held-next j h = by_seg (eqb j i) refl
    where
      by_txn : (b : Bool) → eqb h g ≡ b → IsHeldThere seg_now i h
      by_txn true y = subst (λ k. IsHeldThere seg_now i k) (sym (eqb-true h g y)) held-here
      by_txn false y = λ a b. u.locals i h (ap (λ (l : Local). nat_lt 0 l.last) (sym (other-locals h y)) ∙ a) (ap (λ (l : Local). has_ended l.phase) (sym (other-locals h y)) ∙ b)

      by_seg : (b : Bool) → eqb j i ≡ b → IsHeldThere (if b then seg_now else w.segs j) j h
      by_seg true y = subst (λ k. IsHeldThere seg_now k h) (sym (eqb-true j i y)) (by_txn (eqb h g) refl)
      by_seg false y = u.locals j h

  ended-here : (h : ℕ) → h ≡ g → has_ended (seg_turn.seg.locals g).phase ≡ true → ended_at seg_next.segs i h ≡ true
  ended-here h q z = ap (λ b. has_ended ((if b then seg_now else w.segs i).locals h).phase) (eqb-self i) ∙ subst (λ k. has_ended (seg_now.locals k).phase ≡ true) (sym q) z

  told-next : (m : Message) → (is_answer m ≡ true → gxid_in m ≡ g) → TellsEnd (seg_turn.seg.locals g).phase m → EndTold seg_next.segs i m
  told-next (message.Answer h reply.Aborted) q z = ended-here h.0 (q refl) z
  told-next (message.Answer h reply.Forgotten) q z = ended-here h.0 (q refl) z
  told-next (message.Answer h (reply.Done c a b d)) q z = tt
  told-next (message.Answer h (reply.Failed c a)) q z = tt
  told-next (message.Answer h reply.Prepared) q z = tt
  told-next (message.Answer h reply.Committed) q z = tt
  told-next (message.Answer h reply.Jfault) q z = tt
  told-next (message.Answer h reply.Again) q z = tt
  told-next (message.Answer h reply.Restarted) q z = tt
  told-next (message.Exec h c level a b d) q z = tt
  told-next (message.Prepare h) q z = tt
  told-next (message.Commit h) q z = tt
  told-next (message.CommitPrepared h) q z = tt
  told-next (message.Abort h) q z = tt
  told-next (message.Forget h) q z = tt
  told-next (message.Collect round) q z = tt
  told-next (message.Graph round graph) q z = tt
  told-next message.Up q z = tt

  pub seg-waits : Waits seg_next
  seg-waits =
      record {
        orders = λ h. more-orders (w.coord.works h).command (u.orders h);
        locals = held-next;
        sent = posted-each (LetterHeld seg_next) (at i) (clock_after s.clock x) seg_turn.marks (λ node. seg_turn.seg.sent) seg_turn.outs w.sent (Rattle.gx_law_order.proofs.Everywhere.follows-no-sent msg (known_at w.coord (marks_in w.steps) i g) i g seg_turn.marks does.marks)
            (new-letters seg_turn.outs does.outs so.outs)
            (each_weaker (LetterHeld w) (LetterHeld seg_next) (λ l h. record { held = held-more (ended_at w.segs) (ended_at seg_next.segs) w.coord.table l.to.0 l.envelope.message ended-more h.held; told = λ z. told-more w.segs seg_next.segs l.from.0 l.envelope.message ended-more (h.told z) }) w.sent u.sent);
      }
    where
      more-orders : (o : Option Rattle.gx_rules.specs.Coordinators.Command) → Rattle.gx_law_order.proofs.Holding.OrdersHeldIn (ended_at w.segs) w.coord.table o → Rattle.gx_law_order.proofs.Holding.OrdersHeldIn (ended_at seg_next.segs) w.coord.table o
      more-orders None h = tt
      more-orders (Some k) h = each_weaker (HeldOut (ended_at w.segs) w.coord.table) (HeldOut (ended_at seg_next.segs) w.coord.table) (λ o q. held-more (ended_at w.segs) (ended_at seg_next.segs) w.coord.table o.node.0 o.message ended-more q) k.orders h

      new-letters : (outs : List Out) → Each (λ (o : Out). Rattle.gx_law_order.proofs.Handled.Tells (known_at w.coord (marks_in w.steps) i g) (part_then script w n v e x fails i msg reached does) i g seg_turn.marks o.message) outs → Each (λ (o : Out). TellsEnd (seg_turn.seg.locals g).phase o.message) outs → Each (λ (o : Out). (number : ℕ) → LetterHeld seg_next (record { from = at i; to = o.node; envelope = record { number = number; clock = clock_after s.clock x; incarnation = 1; message = o.message } })) outs
      new-letters [] a b = tt
      new-letters (o ∷ outs) a b = (
        λ number. record { held = tells-held _ _ i g seg_turn.marks (ended_at seg_next.segs) w.coord.table o.node.0 o.message a.0; told = λ z. told-next o.message (λ q. (Rattle.gx_law_order.proofs.Everywhere.told-answer _ _ i g seg_turn.marks o.message a.0).1) b.0 },
        new-letters outs a.1 b.1,
      )
