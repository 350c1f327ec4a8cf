-- One induction for all laws: what the coordinator's single turn, a victim's and a segment's keep holds in every world that single moves
-- lead to, and so in every world of the machine. What is known of all these worlds is at hand before and after each move.
use Rattle.std.proofs.Common.{◌≡◌, ◌≤◌, inl, inr, ℕ, List, [], ◌∷◌, ◌++◌, Some, Bool, true, false, sym, subst, ap, append-nil}
use Rattle.std.proofs.lemmas.List.{append_assoc}
use Rattle.gx_lemmas.proofs.Numbers.{one-le-zero}
use Rattle.gx_ids.specs.declared.ids.Gxid.{Gxid}
use Rattle.gx_ids.specs.declared.ids.Node.{Node}
use Rattle.gx_msg.specs.declared.message.Envelope.{Envelope}
use Rattle.gx_script.specs.declared.Script.{Script}
use Rattle.gx_store.specs.declared.event.Event.{Event}
use Rattle.gx_store.specs.declared.event.Event.TheVariants as event
use Rattle.gx_store.specs.declared.node.NodeEvent.{NodeEvent}
use Rattle.gx_store.specs.declared.node.NodeEvent.TheVariants as here
use Rattle.gx_store.specs.Journals.{is_same_node}
use Rattle.gx_store.specs.Messages.{IsSending, Receives}
use Rattle.gx_store.specs.Ordered.{IsLink, IsSegment}
use Rattle.gx_store.specs.Refusals.{the_coordinator}
use Rattle.gx_rules.specs.AtCoordinator.{cancel_turn, coord_can, coord_rule, coord_sends, coord_turn}
use Rattle.gx_rules.specs.AtSegment.{seg_rule}
use Rattle.gx_rules.specs.Coordinators.{CoordTurn}
use Rattle.gx_rules.specs.Machine.{World, and_cancelled, coord_did, found, happens, new_world, posted, seg_can, seg_did, world_of}
use Rattle.gx_store.specs.declared.run.Step.{Step}
use Rattle.gx_store.specs.Points.{marks_in}
use Rattle.gx_rules.specs.Sending.{clock_after}
use Rattle.gx_law_order.proofs.More.{marks-last, marks-more}
use Rattle.gx_law_order.specs.Moves.{Move, world_by}
use Rattle.gx_law_order.specs.Moves.Move.{Turn, Cancel}
use Rattle.gx_law_order.proofs.Letters.{IsFound, IsLetter, found_is}
use Rattle.gx_law_order.proofs.Moves.{Comes, HasNamed, event-ways, moved-ways, moves_after, next-move, world-moves}
use Rattle.gx_law_order.proofs.Ordered.{Well, link-there, moves_well, resumes_there}
use Rattle.gx_law_order.proofs.Sent.{at}

-- WHAT HAPPENS AT A NODE
-- the event delivers a message that was sent on a link to the node
pub record IsReceipt (script : Script) (w : World) (e : Event) (n from : Node) (envelope : Envelope) : Type 0 where
  pub number : ℕ
  pub event : e ≡ event.Receive from n number
  pub found : found from n number w.sent ≡ Some envelope
  pub link : IsLink script from n
  pub received : Receives w.steps e from n envelope.message

-- what an event is at its node
abbrev pub IsThere : Script → World → Event → Node → NodeEvent → Type 0
IsThere script w e n (here.Deliver from envelope) = IsReceipt script w e n from envelope
IsThere script w e n (here.Resume g) = e ≡ event.Resume n g
IsThere script w e n (here.Start s) = e ≡ event.Start s
IsThere script w e n (here.End s) = e ≡ event.End s
IsThere script w e n (here.Resend i g) = e ≡ event.Resend i g
IsThere script w e n here.Round = e ≡ event.Round

received-is : (script : Script) (w : World) (good : Well script w) (e : Event) (n from : Node) (envelope : Envelope) → Comes w e n (here.Deliver from envelope) → IsReceipt script w e n from envelope
received-is script w good e n from envelope c =
    record {
      number = c.0;
      event = c.1;
      found = c.2;
      link = subst (λ a. IsLink script a n) d.source (subst (λ a. IsLink script d.letter.from a) d.target d.is.link);
      received = record {
        number = c.0;
        is = c.1;
        sent = record {
          step = d.is.step;
          mark = d.is.mark;
          sending =
              subst (λ a. IsSending w.steps d.is.step d.is.mark a n c.0 envelope.message) d.source
              (subst (λ a. IsSending w.steps d.is.step d.is.mark d.letter.from a c.0 envelope.message) d.target
              (subst (λ a. IsSending w.steps d.is.step d.is.mark d.letter.from d.letter.to a envelope.message) d.counted
              (subst (λ (a : Envelope). IsSending w.steps d.is.step d.is.mark d.letter.from d.letter.to d.letter.envelope.number a.message) d.told d.is.sending)));
        };
      };
    }
  where
    d : IsFound (IsLetter script w.steps) from n c.0 envelope
    d = found_is (IsLetter script w.steps) from n c.0 w.sent envelope good.letters c.2

pub is-there : (script : Script) (w : World) (good : Well script w) (e : Event) (n : Node) (x : NodeEvent) → Comes w e n x → IsThere script w e n x
is-there script w good e n (here.Deliver from envelope) c = received-is script w good e n from envelope c
is-there script w good e n (here.Resume g) c = c
is-there script w good e n (here.Start s) c = c
is-there script w good e n (here.End s) c = c
is-there script w good e n (here.Resend i g) c = c
is-there script w good e n here.Round c = c

-- a segment of the script
pub place-of : (script : Script) (w : World) (good : Well script w) (e : Event) (x : NodeEvent) (n : Node) → is_same_node n the_coordinator ≡ false → Comes w e n x → seg_can script (w.segs n.0) x ≡ true → IsSegment script n
place-of script w good e (here.Deliver from envelope) n away c ok = (link-there script w good from n c.0 envelope c.2 away).1
place-of script w good e (here.Resume g) n away c ok = resumes_there script w n g good ok
place-of script w good e (here.Start s) n away c ok = absurd (cc)
place-of script w good e (here.End s) n away c ok = absurd (cc)
place-of script w good e (here.Resend i g) n away c ok = absurd (cc)
place-of script w good e here.Round n away c ok = absurd (cc)

-- a segment hears from the coordinator alone
pub from-coordinator : (script : Script) (i : ℕ) (from : Node) → 1 ≤ i → IsLink script from (at i) → from ≡ the_coordinator
from-coordinator script i from one (inl l) = l.0
from-coordinator script i from one (inr l) = absurd (one-le-zero i one (ap (λ (n : Node). n.0) l.1))

-- A TURN OF THE COORDINATOR
-- The world after a single turn that ends with these steps: what an event does by itself has a step of its own, and a victim's turn
-- stands in the last one.
abbrev pub after_turn : World → ℕ → CoordTurn → List Step → World
after_turn w clock turn steps =
    record w { coord = (coord_sends clock turn).coord; steps = steps; sent = posted the_coordinator clock (coord_sends clock turn).marks w.sent }

-- either way its marks stand behind all others
pub marks-by-event : (script : Script) (w : World) (e : Event) (x : NodeEvent) (fails : Bool) → marks_in (coord_did w e (coord_turn script w.coord x fails)).steps ≡ marks_in w.steps ++ (coord_turn script w.coord x fails).marks
marks-by-event script w e x fails = marks-last w.steps (record { stamp = record { clock = clock_after w.coord.clock x; node = the_coordinator }; event = e; marks = (coord_turn script w.coord x fails).marks })

pub marks-by-victim : (w : World) (g : Gxid) → HasNamed w.steps w.coord.clock w.coord.rounds g → marks_in (and_cancelled w g).steps ≡ marks_in w.steps ++ (cancel_turn w.coord g).marks
marks-by-victim w g h = marks-more w.steps h.before h.step (cancel_turn w.coord g).marks h.is

-- THE INDUCTION
-- of the moves as well, for what looks back on them
module _ (script : Script) (some : 1 ≤ script.segments) (P : List Move → World → Type 0) (start : P [] new_world)
    (rest : (ms : List Move) (m : Move) → P ms (world_by script ms) → P (ms ++ m ∷ []) (world_by script ms))
    (turn : (ms : List Move) → P ms (world_by script ms) → (e : Event) (x : NodeEvent) (fails : Bool) → IsThere script (world_by script ms) e the_coordinator x → coord_can script (world_by script ms).coord x ≡ true
    → world_by script (ms ++ Turn e fails ∷ []) ≡ coord_did (world_by script ms) e (coord_turn script (world_by script ms).coord x fails)
    → P (ms ++ Turn e fails ∷ []) (coord_did (world_by script ms) e (coord_turn script (world_by script ms).coord x fails)))
    (cancel : (ms : List Move) → P ms (world_by script ms) → (g : Gxid) → HasNamed (world_by script ms).steps (world_by script ms).coord.clock (world_by script ms).coord.rounds g
    → world_by script (ms ++ Cancel g ∷ []) ≡ and_cancelled (world_by script ms) g → P (ms ++ Cancel g ∷ []) (and_cancelled (world_by script ms) g))
    (serve : (ms : List Move) → P ms (world_by script ms) → (e : Event) (x : NodeEvent) (fails : Bool) (i : ℕ) → IsSegment script (at i) → IsThere script (world_by script ms) e (at i) x
    → seg_can script ((world_by script ms).segs i) x ≡ true → world_by script (ms ++ Turn e fails ∷ []) ≡ seg_did (world_by script ms) (at i) e (seg_rule script ((world_by script ms).segs i) x fails)
    → P (ms ++ Turn e fails ∷ []) (seg_did (world_by script ms) (at i) e (seg_rule script ((world_by script ms).segs i) x fails)))
  where
    one-more : (ms : List Move) (m : Move) → P ms (world_by script ms) → P (ms ++ m ∷ []) (world_by script (ms ++ m ∷ []))
    one-more ms m p =
        subst (P (ms ++ m ∷ [])) (sym (next-move script ms m))
        (moved-ways script w (λ move v. world_by script (ms ++ move ∷ []) ≡ v → P (ms ++ move ∷ []) v)
        (λ move same. rest ms move p)
        (λ e x fails c ok same. turn ms p e x fails (is-there script w good e the_coordinator x c) ok same)
        (λ g h same. cancel ms p g h same)
        (λ e x fails n away c ok same. serve ms p e x fails n.0 (place-of script w good e x n away c ok) (is-there script w good e n x c) ok same)
        m (next-move script ms m))
      where
        w : World
        w = world_by script ms

        good : Well script w
        good = moves_well script some ms

    all-more : (done ms : List Move) → P done (world_by script done) → P (done ++ ms) (world_by script (done ++ ms))
    all-more done [] p = subst (λ q. P q (world_by script q)) (sym (append-nil done)) p
    all-more done (m ∷ ms) p = subst (λ q. P q (world_by script q)) (append_assoc done (m ∷ []) ms) (all-more (done ++ m ∷ []) ms (one-more done m p))

    pub by-moves : (ms : List Move) → P ms (world_by script ms)
    by-moves ms = all-more [] ms start

-- of the worlds alone, with what is known of each
module _ (script : Script) (some : 1 ≤ script.segments) (K P : World → Type 0) (known : (ms : List Move) → K (world_by script ms)) (start : P new_world)
    (turn : (w : World) → K w → P w → (e : Event) (x : NodeEvent) (fails : Bool) → IsThere script w e the_coordinator x → coord_can script w.coord x ≡ true
    → K (coord_did w e (coord_turn script w.coord x fails)) → P (coord_did w e (coord_turn script w.coord x fails)))
    (cancel : (w : World) → K w → P w → (g : Gxid) → HasNamed w.steps w.coord.clock w.coord.rounds g → K (and_cancelled w g) → P (and_cancelled w g))
    (serve : (w : World) → K w → P w → (e : Event) (x : NodeEvent) (fails : Bool) (i : ℕ) → IsSegment script (at i) → IsThere script w e (at i) x → seg_can script (w.segs i) x ≡ true
    → K (seg_did w (at i) e (seg_rule script (w.segs i) x fails)) → P (seg_did w (at i) e (seg_rule script (w.segs i) x fails)))
  where
    pub at-moves : (ms : List Move) → P (world_by script ms)
    at-moves =
        by-moves script some (λ ms w. P w) start (λ ms m p. p)
        (λ ms p e x fails t ok same. turn (world_by script ms) (known ms) p e x fails t ok (subst K same (known (ms ++ Turn e fails ∷ []))))
        (λ ms p g h same. cancel (world_by script ms) (known ms) p g h (subst K same (known (ms ++ Cancel g ∷ []))))
        (λ ms p e x fails i place t ok same. serve (world_by script ms) (known ms) p e x fails i place t ok (subst K same (known (ms ++ Turn e fails ∷ []))))

    pub at-events : (es : List (Event × Bool)) → P (world_of script es)
    at-events es = subst P (sym (world-moves script es)) (at-moves (moves_after script new_world es))

-- A whole event, where a law speaks of nodes' rules: nothing, or the coordinator's by its whole rule, or a segment's.
module _ (script : Script) (w : World) (good : Well script w) (e : Event) (fails : Bool) (Q : World → Type 0) (rest : Q w)
    (turn : (x : NodeEvent) → IsThere script w e the_coordinator x → coord_can script w.coord x ≡ true → Q (coord_did w e (coord_rule script w.coord x fails)))
    (serve : (x : NodeEvent) (i : ℕ) → IsSegment script (at i) → IsThere script w e (at i) x → seg_can script (w.segs i) x ≡ true → Q (seg_did w (at i) e (seg_rule script (w.segs i) x fails)))
  where
    pub happens-ways : Q (happens script w e fails)
    happens-ways =
        event-ways (coord_rule script) script w e fails Q rest (λ x c ok. turn x (is-there script w good e the_coordinator x c) ok)
        (λ x n away c ok. serve x n.0 (place-of script w good e x n away c ok) (is-there script w good e n x c) ok)
