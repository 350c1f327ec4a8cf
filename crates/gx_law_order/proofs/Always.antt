-- Every run of the machine keeps what holds.
use Rattle.std.proofs.Common.{◌≡◌, ◌≤◌, ℕ, List, [], ◌∷◌, Some, Bool, true, false, refl, sym, subst, if◌then◌else◌}
use Rattle.std.specs.Prelude.{nat_le}
use Rattle.gx_ids.specs.declared.ids.Gxid.{Gxid}
use Rattle.gx_ids.specs.declared.ids.Node.{Node}
use Rattle.gx_msg.specs.declared.message.Envelope.{Envelope}
use Rattle.gx_msg.specs.declared.message.Message.{Message}
use Rattle.gx_msg.specs.declared.message.Message.TheVariants as message
use Rattle.gx_script.specs.declared.Script.{Script}
use Rattle.gx_store.specs.declared.event.Event.{Event}
use Rattle.gx_store.specs.declared.node.NodeEvent.{NodeEvent}
use Rattle.gx_store.specs.declared.node.NodeEvent.TheVariants as here
use Rattle.gx_store.specs.Messages.{Receives}
use Rattle.gx_store.specs.Points.{marks_in}
use Rattle.gx_store.specs.Refusals.{the_coordinator}
use Rattle.gx_rules.specs.AtSegment.{seg_rule}
use Rattle.gx_rules.specs.Machine.{Letter, World, found, new_world, seg_can, seg_did, world_of}
use Rattle.gx_law_order.specs.Moves.{Move, world_by}
use Rattle.gx_law_order.proofs.Induction.{IsThere, at-moves, from-coordinator}
use Rattle.gx_law_order.proofs.Letters.{found_is}
use Rattle.gx_law_order.specs.Lists.{Each}
use Rattle.gx_law_order.proofs.Moves.{moves_after, world-moves}
use Rattle.gx_law_order.proofs.World.{Knows, moves_knows}
use Rattle.gx_law_order.specs.Pairs.{Pair}
use Rattle.gx_law_order.specs.Said.{AreMeant, Said, SaidIn, gxid_in, is_answer}
use Rattle.gx_law_order.specs.Standings.{at, known_at}
use Rattle.gx_law_order.specs.Standings.Standing.{Unborn, Over}
use Rattle.gx_law_order.proofs.Events.{IsSaidIn}
use Rattle.gx_law_order.proofs.Everywhere.{Holds, coord-holds, holds-then, parts_in, resumed-does, seg-holds, victim-holds}

pub each-zip : {A : Type 0} (P Q : A → Type 0) (xs : List A) → Each P xs → Each Q xs → Each (λ x. P x × Q x) xs
each-zip P Q [] e f = tt
each-zip P Q (x ∷ xs) e f = ((e.0, f.0), each-zip P Q xs e.1 f.1)

-- WHAT IS DELIVERED WAS SAID
-- to the coordinator by a segment, or to a segment
abbrev pub IsSaid : World → ℕ → Message → Type 0
IsSaid w i m = Said (known_at w.coord (marks_in w.steps) i (gxid_in m)) (parts_in w i (gxid_in m)) m

pub was-said : (script : Script) (w : World) → Holds script w → (from to : Node) (number : ℕ) (envelope : Envelope) → found from to number w.sent ≡ Some envelope → (b : Bool) → is_answer envelope.message ≡ b → IsSaid w (if b then from.0 else to.0) envelope.message
was-said script w v from to number envelope f b e =
    let d = found_is (SaidIn w) from to number w.sent envelope v.said f in
    subst (λ q. IsSaid w (if q then from.0 else to.0) envelope.message) e
    (subst (λ (n : Node). IsSaid w (if is_answer envelope.message then n.0 else to.0) envelope.message) d.source
    (subst (λ (n : Node). IsSaid w (if is_answer envelope.message then d.letter.from.0 else n.0) envelope.message) d.target
    (subst (λ (q : Envelope). IsSaid w (if is_answer q.message then d.letter.from.0 else d.letter.to.0) q.message) d.told d.is)))

-- what the coordinator hears
abbrev pub SaidTo : World → NodeEvent → Type 0
SaidTo w (here.Deliver from envelope) = is_answer envelope.message ≡ true → IsSaid w from.0 envelope.message
SaidTo w _ = Unit {0}

pub said-to : (script : Script) (w : World) → Holds script w → (e : Event) (x : NodeEvent) → IsThere script w e the_coordinator x → SaidTo w x
said-to script w v e (here.Deliver from envelope) t = was-said script w v from the_coordinator t.number envelope t.found true
said-to script w v e (here.Resume g) t = tt
said-to script w v e (here.Start s) t = tt
said-to script w v e (here.End s) t = tt
said-to script w v e (here.Resend i g) t = tt
said-to script w v e here.Round t = tt

pub said-in : (script : Script) (w : World) (k : Knows script w) (v : Holds script w) (x : NodeEvent) → SaidTo w x → IsSaidIn script (parts_in w) w.coord (marks_in w.steps) v.stands k.kept k.past (λ g. (k.well.coordinator.works g).writers) x
said-in script w k v (here.Deliver from envelope) d = d
said-in script w k v (here.Start s) d = tt
said-in script w k v (here.End s) d = tt
said-in script w k v (here.Resend i g) d = tt
said-in script w k v (here.Resume g) d = tt
said-in script w k v here.Round d = tt

-- a message that was sent to a segment, and means what it says
pub record IsGiven (w : World) (e : Event) (i : ℕ) (from : Node) (envelope : Envelope) : Type 0 where
  pub number : ℕ
  pub posted : found from (at i) number w.sent ≡ Some envelope
  pub received : Receives w.steps e the_coordinator (at i) envelope.message
  pub said : is_answer envelope.message ≡ false → IsSaid w i envelope.message

-- what a segment hears in an event that is admitted there: a message, or that a slice may go on
abbrev pub HeardAt : Script → World → Event → ℕ → NodeEvent → Type 0
HeardAt script w e i (here.Deliver from envelope) = IsGiven w e i from envelope
HeardAt script w e i (here.Resume g) = seg_can script (w.segs i) (here.Resume g) ≡ true
HeardAt script w e i _ = ⊥

pub heard-at : (script : Script) (w : World) → Holds script w → (e : Event) (x : NodeEvent) (i : ℕ) → 1 ≤ i → IsThere script w e (at i) x → seg_can script (w.segs i) x ≡ true → HeardAt script w e i x
heard-at script w v e (here.Deliver from envelope) i one t ok =
    record {
      number = t.number;
      posted = t.found;
      received = subst (λ n. Receives w.steps e n (at i) envelope.message) (from-coordinator script i from one t.link) t.received;
      said = was-said script w v from (at i) t.number envelope t.found false;
    }
heard-at script w v e (here.Resume g) i one t ok = ok
heard-at script w v e (here.Start s) i one t ok = absurd (cc)
heard-at script w v e (here.End s) i one t ok = absurd (cc)
heard-at script w v e (here.Resend j g) i one t ok = absurd (cc)
heard-at script w v e here.Round i one t ok = absurd (cc)

-- what holds of both holds of all that it hears
pub by-heard : (script : Script) (w : World) (e : Event) (i : ℕ) → (P : NodeEvent → Type 0) → ((from : Node) (envelope : Envelope) → IsGiven w e i from envelope → P (here.Deliver from envelope)) → ((g : Gxid) → seg_can script (w.segs i) (here.Resume g) ≡ true → P (here.Resume g)) → (x : NodeEvent) → HeardAt script w e i x → P x
by-heard script w e i P f r (here.Deliver from envelope) h = f from envelope h
by-heard script w e i P f r (here.Resume g) h = r g h
by-heard script w e i P f r (here.Start s) h = absurd h
by-heard script w e i P f r (here.End s) h = absurd h
by-heard script w e i P f r (here.Resend j g) h = absurd h
by-heard script w e i P f r here.Round h = absurd h

pub record Sound (script : Script) (w : World) : Type 0 where
  pub knows : Knows script w
  pub holds : Holds script w

-- A STEP OF A SEGMENT
pub heard-holds : (script : Script) (w : World) → Knows script w → Holds script w → (e : Event) (x : NodeEvent) (fails : Bool) (i : ℕ) → HeardAt script w e i x → Holds script (seg_did w (at i) e (seg_rule script (w.segs i) x fails))
heard-holds script w k v e x fails i h =
    by-heard script w e i (λ y. Holds script (seg_did w (at i) e (seg_rule script (w.segs i) y fails)))
    (λ from envelope d. seg-holds script w k v e fails i from envelope d.received d.said)
    (λ g ok. let o = resumed-does script w k v e i g fails ok in
    holds-then script w k v e (here.Resume g) fails i (message.Exec g o.slice.cid o.slice.level o.slice.snapshot o.waits.horizon o.slice.slice) o.reached o.does)
    x h

module _ (script : Script) (some : 1 ≤ script.segments) where
  new-pair : (i g : ℕ) → Pair (known_at new_world.coord [] i g) (parts_in new_world i g)
  new-pair i g = by_test (nat_le 1 g)
    where
      by_test : (b : Bool) → Pair (record { at = (if b then Unborn else Over); writes = false; waits = false; last = 0; decided = 0; aborted = false; committed = false }) (parts_in new_world i g)
      by_test true =
          record {
            promised = refl;
            committed = refl;
            written = λ x. refl;
            unpromised = λ x. refl;
            prepared = λ x. absurd (cc);
            kept = tt;
            vote = refl;
            waits = λ x. absurd (cc);
            awaited = λ x y. absurd (cc);
            aborts = λ x. absurd (cc);
            ends = λ x. absurd (cc);
            either = λ x. refl;
            undecided = λ x. refl;
            decided = λ x. absurd (cc);
            unborn = λ x. (refl, refl, refl, refl, refl);
            live = λ x. absurd (cc);
            learns = λ x y. absurd (cc);
            learned = λ x y. refl;
            closing = λ x. refl;
            asked = λ b x. absurd (cc);
            alone = λ b x. absurd (cc);
            both = λ b x. absurd (cc);
          }
      by_test false =
          record {
            promised = refl;
            committed = refl;
            written = λ x. refl;
            unpromised = λ x. refl;
            prepared = λ x. absurd (cc);
            kept = tt;
            vote = refl;
            waits = λ x. absurd (cc);
            awaited = λ x y. absurd (cc);
            aborts = λ x. refl;
            ends = λ x. refl;
            either = λ x. refl;
            undecided = λ x. refl;
            decided = λ x. absurd (cc);
            unborn = λ x. absurd (cc);
            live = λ x. absurd (cc);
            learns = λ x y. absurd (cc);
            learned = λ x y. refl;
            closing = λ x. refl;
            asked = λ b x. absurd (cc);
            alone = λ b x. absurd (cc);
            both = λ b x. absurd (cc);
          }

  pub new-holds : Holds script new_world
  new-holds =
      record {
        stands = record { pairs = new-pair; works = λ g. record { apart = tt; command = tt }; agrees = λ g. tt; parts = λ i g. record { wrote = refl; promises = refl; commits = refl } };
        said = tt;
        failed = λ i g e. absurd (cc);
        ends = tt;
        tells = tt;
      }

  pub moves-holds : (ms : List Move) → Holds script (world_by script ms)
  moves-holds =
      at-moves script some (Knows script) (Holds script) (moves_knows script some) new-holds
      (λ w k v e x fails t ok next. coord-holds script w k v e x fails ok (said-in script w k v x (said-to script w v e x t)) (λ g. (next.well.coordinator.works g).writers)) (λ w k v g h next. victim-holds script w k v g h (λ j. (next.well.coordinator.works j).writers))
      (λ w k v e x fails i place t ok next. heard-holds script w k v e x fails i (heard-at script w v e x i place.0 t ok))

  pub world-holds : (es : List (Event × Bool)) → Holds script (world_of script es)
  world-holds es = subst (Holds script) (sym (world-moves script es)) (moves-holds (moves_after script new_world es))

  -- what is known of each world, and holds in it
  pub moves-sound : (ms : List Move) → Sound script (world_by script ms)
  moves-sound ms = record { knows = moves_knows script some ms; holds = moves-holds ms }

  each-meant : (w : World) (ls : List Letter) → Each (SaidIn w) ls → AreMeant w ls
  each-meant w [] e = tt
  each-meant w (l ∷ ls) e = (e.0, each-meant w ls e.1)

  pub world-meant : (es : List (Event × Bool)) → AreMeant (world_of script es) (world_of script es).sent
  world-meant es = each-meant (world_of script es) (world_of script es).sent (world-holds es).said
