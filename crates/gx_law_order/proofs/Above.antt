-- Over every run of the machine, whoever holds locks at a segment is waited for, and so no horizon is above it.
use Rattle.std.proofs.Common.{◌≡◌, ◌≤◌, inl, inr, ℕ, List, [], ◌∷◌, Option, Some, None, Bool, true, false, refl, subst, ◌&&◌, nat_lt, arith}
use Rattle.std.proofs.lemmas.Bool.Decides.{nat_tests}
use Rattle.std.specs.Prelude.{is_some, not}
use Rattle.gx_lemmas.proofs.Numbers.{one-le-none}
use Rattle.gx_lemmas.proofs.Tests.{true-false}
use Rattle.gx_ids.specs.declared.ids.Gxid.{Gxid}
use Rattle.gx_ids.specs.declared.ids.Node.{Node}
use Rattle.gx_dtx.specs.Table.{Table, find_txn}
use Rattle.gx_dtx.specs.declared.txn.Txn.{Txn}
use Rattle.gx_locks.specs.Locks.{wait_of}
use Rattle.gx_msg.specs.declared.message.Envelope.{Envelope}
use Rattle.gx_msg.specs.declared.message.Message.{Message}
use Rattle.gx_msg.specs.declared.message.Message.TheVariants as message
use Rattle.gx_msg.specs.declared.reply.Reply.TheVariants as reply
use Rattle.gx_script.specs.declared.Script.{Script}
use Rattle.gx_store.specs.declared.event.Event.{Event}
use Rattle.gx_store.specs.declared.node.NodeEvent.{NodeEvent}
use Rattle.gx_store.specs.declared.node.NodeEvent.TheVariants as here
use Rattle.gx_store.specs.Ordered.{IsLink}
use Rattle.gx_store.specs.Refusals.{the_coordinator}
use Rattle.gx_rules.specs.AtSegment.{seg_rule}
use Rattle.gx_rules.specs.Machine.{Letter, World, found, new_world, seg_did, world_of}
use Rattle.gx_rules.specs.Segments.{Local, Phase, Seg, Suspended, has_ended, local_of}
use Rattle.gx_law_order.proofs.Induction.{IsThere, at-events}
use Rattle.gx_law_order.proofs.Letters.{IsFound, found_is}
use Rattle.gx_law_order.proofs.Waiting.{each-among}
use Rattle.gx_law_order.proofs.World.{Knows}
use Rattle.gx_law_order.specs.Lists.{Each}
use Rattle.gx_law_order.specs.Horizons.{AreBelowIn, AreHorizonsLow, AreHoldersAbove, AreLowIn, IsBelowHolders, IsBelowIn, IsLow, IsLowIn}
use Rattle.gx_law_order.specs.Pairs.{is_open}
use Rattle.gx_law_order.specs.Said.{gxid_in}
use Rattle.gx_law_order.specs.Standings.{at, gx}
use Rattle.gx_law_order.proofs.Always.{HeardAt, IsGiven, Sound, by-heard, heard-at, moves-sound}
use Rattle.gx_law_order.proofs.Everywhere.{Holds, IsResumed, does-it, parts_in, resumed-does}
use Rattle.gx_law_order.proofs.Ended.{ends-so, resumed-so}
use Rattle.gx_law_order.proofs.Held.{held_in, is_held}
use Rattle.gx_law_order.proofs.Holders.{EndTold, LetterHeld, Waits, coord-waits, ended_at, seg-waits, victim-waits}
use Rattle.gx_law_order.proofs.Holding.{HeldFor, IsEndedIn, SaysBy}
use Rattle.gx_law_order.proofs.Low.{world-low}

module _ (script : Script) (some : 1 ≤ script.segments) where
  says-by : (w : World) (k : Knows script w) (u : Waits w) (i : ℕ) (m : Message) → EndTold w.segs i m → SaysBy (ended_at w.segs) w.coord k.kept.whole u.orders i m
  says-by w k u i (message.Answer g reply.Aborted) e = e
  says-by w k u i (message.Answer g reply.Forgotten) e = e
  says-by w k u i (message.Answer g (reply.Done c x y z)) e = tt
  says-by w k u i (message.Answer g (reply.Failed c x)) e = tt
  says-by w k u i (message.Answer g reply.Prepared) e = tt
  says-by w k u i (message.Answer g reply.Committed) e = tt
  says-by w k u i (message.Answer g reply.Jfault) e = tt
  says-by w k u i (message.Answer g reply.Again) e = tt
  says-by w k u i (message.Answer g reply.Restarted) e = tt
  says-by w k u i (message.Exec g c level x h y) e = tt
  says-by w k u i (message.Prepare g) e = tt
  says-by w k u i (message.Commit g) e = tt
  says-by w k u i (message.CommitPrepared g) e = tt
  says-by w k u i (message.Abort g) e = tt
  says-by w k u i (message.Forget g) e = tt
  says-by w k u i (message.Collect round) e = tt
  says-by w k u i (message.Graph round graph) e = tt
  says-by w k u i message.Up e = tt

  -- what is delivered
  found-held : (w : World) (u : Waits w) (from to : Node) (number : ℕ) (envelope : Envelope) → found from to number w.sent ≡ Some envelope
      → HeldFor (ended_at w.segs) w.coord.table to.0 envelope.message × (1 ≤ from.0 → EndTold w.segs from.0 envelope.message)
  found-held w u from to number envelope f = (
    subst (λ (n : Node). HeldFor (ended_at w.segs) w.coord.table n.0 envelope.message) d.target (subst (λ (q : Envelope). HeldFor (ended_at w.segs) w.coord.table d.letter.to.0 q.message) d.told d.is.held),
    subst (λ (n : Node). 1 ≤ n.0 → EndTold w.segs n.0 envelope.message) d.source (subst (λ (q : Envelope). 1 ≤ d.letter.from.0 → EndTold w.segs d.letter.from.0 q.message) d.told d.is.told),
  )
    where
      d : IsFound (LetterHeld w) from to number envelope
      d = found_is (LetterHeld w) from to number w.sent envelope u.sent f

  from-segment : (from : Node) → IsLink script from the_coordinator → 1 ≤ from.0
  from-segment from (inl l) = absurd (one-le-none l.1.0)
  from-segment from (inr l) = l.0.0

  ended-in : (w : World) (k : Knows script w) (u : Waits w) (e : Event) (x : NodeEvent) → IsThere script w e the_coordinator x → IsEndedIn (ended_at w.segs) script w.coord k.kept u.orders x
  ended-in w k u e (here.Deliver from envelope) t = says-by w k u from.0 envelope.message ((found-held w u from the_coordinator t.number envelope t.found).1 (from-segment from t.link))
  ended-in w k u e (here.Resume g) t = tt
  ended-in w k u e (here.Start s) t = tt
  ended-in w k u e (here.End s) t = tt
  ended-in w k u e (here.Resend i g) t = tt
  ended-in w k u e here.Round t = tt

  -- A STEP OF A SEGMENT
  module _ (w : World) (k : Knows script w) (v : Holds script w) (u : Waits w) (e : Event) (fails : Bool) (i : ℕ) where
    given-waits : (from : Node) (envelope : Envelope) → IsGiven w e i from envelope → Waits (seg_did w (at i) e (seg_rule script (w.segs i) (here.Deliver from envelope) fails))
    given-waits from envelope d =
        let pair = v.stands.pairs i (gxid_in envelope.message) in
        seg-waits script w k v u e (here.Deliver from envelope) fails i envelope.message (inl d.received) (does-it script w k v e fails i from envelope d.received d.said)
        (ends-so script fails (w.segs i) envelope.message (parts_in w i (gxid_in envelope.message)).wrote pair.vote pair.kept) (found-held w u from (at i) d.number envelope d.posted).0

    resumed-waits : (g : Gxid) → IsResumed script w k v e i g fails → Waits (seg_did w (at i) e (seg_rule script (w.segs i) (here.Resume g) fails))
    resumed-waits g o =
        let y : Suspended = o.slice in
        let l : Local = local_of (w.segs i) g in
        let m : Message = message.Exec g y.cid y.level y.snapshot o.waits.horizon y.slice in
        let c = o.waits.come in
        let pair = v.stands.pairs i g.0 in
        seg-waits script w k v u e (here.Resume g) fails i m o.reached o.does
        (resumed-so script (w.segs i) g m (wait_of (w.segs i).locks g) l.suspended (parts_in w i g.0).wrote pair.vote pair.kept (not-ended l.phase (pair.waits (is-some l.suspended y o.is)).0) (positive l.last y.cid.0 o.waits.last o.waits.numbered))
        (subst (λ (a : Node). HeldFor (ended_at w.segs) w.coord.table a.0 m) c.target (subst (λ (q : Message). HeldFor (ended_at w.segs) w.coord.table c.letter.to.0 q) c.told (each-among (LetterHeld w) w.sent c.letter u.sent c.among).held))
      where
        not-ended : (a : Phase) → is_open a ≡ true → has_ended a ≡ false
        not-ended a q = grind (arith, nat_tests)

        positive : (a c : ℕ) → a ≡ c → 1 ≤ c → nat_lt 0 a ≡ true
        positive a c q z = grind (arith, nat_tests)

        is-some : (o : Option Suspended) (y : Suspended) → o ≡ Some y → is_some o ≡ true
        is-some o y q = cc

    heard-waits : (x : NodeEvent) → HeardAt script w e i x → Waits (seg_did w (at i) e (seg_rule script (w.segs i) x fails))
    heard-waits =
        by-heard script w e i (λ y. Waits (seg_did w (at i) e (seg_rule script (w.segs i) y fails))) given-waits
        (λ g ok. resumed-waits g (resumed-does script w k v e i g fails ok))

  new-waits : Waits new_world
  new-waits = record { orders = λ g. tt; locals = λ i g a b. absurd (none a); sent = tt }
    where
      none : nat_lt 0 0 ≡ true → ⊥
      none a = grind (arith, nat_tests)

  pub world-waits : (es : List (Event × Bool)) → Waits (world_of script es)
  world-waits =
      at-events script some (Sound script) Waits (moves-sound script some) new-waits
      (λ w k u e x fails t ok next. coord-waits script some w k.knows u e x fails ok (ended-in w k.knows u e x t)) (λ w k u g h next. victim-waits script some w k.knows u g)
      (λ w k u e x fails i place t ok next. heard-waits w k.knows k.holds u e fails i x (heard-at script w k.holds e x i place.0 t ok))

  -- THE LAW
  split : (a b : Bool) → (a && not b) ≡ true → (a ≡ true) × (b ≡ false)
  split a b e = (grind arith, grind arith)

  held-low : (d : Table) (n i g : ℕ) → IsLow n d → held_in d i g ≡ true → n ≤ g
  held-low d n i g l e = by_found (find_txn d (gx g)) refl e
    where
      by_found : (o : Option Txn) → find_txn d (gx g) ≡ o → is_held o i ≡ true → n ≤ g
      by_found None f e = absurd (cc)
      by_found (Some t) f e = l.kept g t f

  below-one : (w : World) → Waits w → (n i : ℕ) → IsLow n w.coord.table → IsBelowHolders (w.segs i) n
  below-one w u n i l g e = let x = split _ _ e in held-low w.coord.table n i g l (u.locals i g x.0 x.1)

  below-in : (w : World) → Waits w → (i : ℕ) (m : Message) → IsLowIn w.coord.table m → IsBelowIn (w.segs i) m
  below-in w u i (message.Exec g c level x h y) l = below-one w u h.0 i l
  below-in w u i (message.Prepare g) l = tt
  below-in w u i (message.Commit g) l = tt
  below-in w u i (message.CommitPrepared g) l = tt
  below-in w u i (message.Abort g) l = tt
  below-in w u i (message.Forget g) l = tt
  below-in w u i (message.Collect round) l = tt
  below-in w u i (message.Answer g r) l = tt
  below-in w u i (message.Graph round graph) l = tt
  below-in w u i message.Up l = tt

  below-all : (w : World) → Waits w → (ls : List Letter) → AreLowIn w.coord.table ls → AreBelowIn w.segs ls
  below-all w u [] e = tt
  below-all w u (l ∷ ls) e = (below-in w u l.to.0 l.envelope.message e.0, below-all w u ls e.1)

  pub world-above : (es : List (Event × Bool)) → AreHoldersAbove (world_of script es)
  world-above es =
      let w : World = world_of script es in
      let low : AreHorizonsLow w = world-low script some es in
      let u : Waits w = world-waits es in
      record { segments = λ i. below-one w u (w.segs i).horizon.0 i (low.segments i); commands = below-all w u w.sent low.commands }

  -- A command's horizon isn't above its own transaction, unless that has ended at the segment.
  abbrev pub IsBelowOwn : (ℕ → Seg) → ℕ → Message → Type 0
  IsBelowOwn segs i (message.Exec g c level snapshot horizon slice) = has_ended ((segs i).locals g.0).phase ≡ false → horizon.0 ≤ g.0
  IsBelowOwn segs i _ = Unit {0}

  own-in : (w : World) (i : ℕ) (m : Message) → HeldFor (ended_at w.segs) w.coord.table i m → IsLowIn w.coord.table m → IsBelowOwn w.segs i m
  own-in w i (message.Exec g c level x h y) (inl held) l = λ live. held-low w.coord.table h.0 i g.0 l held
  own-in w i (message.Exec g c level x h y) (inr ended) l = λ live. absurd (true-false (ended_at w.segs i g.0) ended live)
  own-in w i (message.Prepare g) f l = tt
  own-in w i (message.Commit g) f l = tt
  own-in w i (message.CommitPrepared g) f l = tt
  own-in w i (message.Abort g) f l = tt
  own-in w i (message.Forget g) f l = tt
  own-in w i (message.Collect round) f l = tt
  own-in w i (message.Answer g r) f l = tt
  own-in w i (message.Graph round graph) f l = tt
  own-in w i message.Up f l = tt

  own-all : (w : World) (ls : List Letter) → Each (LetterHeld w) ls → AreLowIn w.coord.table ls → Each (λ (l : Letter). IsBelowOwn w.segs l.to.0 l.envelope.message) ls
  own-all w [] e f = tt
  own-all w (l ∷ ls) e f = (own-in w l.to.0 l.envelope.message e.0.held f.0, own-all w ls e.1 f.1)

  pub world-above-own : (es : List (Event × Bool)) → Each (λ (l : Letter). IsBelowOwn (world_of script es).segs l.to.0 l.envelope.message) (world_of script es).sent
  world-above-own es = own-all (world_of script es) (world_of script es).sent (world-waits es).sent (world-low script some es).commands
