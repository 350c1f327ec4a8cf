-- Over every run, clocks, numbers of messages and gxids stay below the number of steps.
use Rattle.std.proofs.Common.{◌≡◌, ◌≤◌, ℕ, ◌+◌, List, [], ◌∷◌, ◌++◌, Some, Bool, sym, subst, ap, ◌∙◌, arith, length}
use Rattle.std.proofs.lemmas.Bool.Decides.{nat_tests}
use Rattle.gx_lemmas.proofs.Lists.{length-push}
use Rattle.gx_ids.specs.declared.ids.Gxid.{Gxid}
use Rattle.gx_ids.specs.declared.ids.Node.{Node}
use Rattle.gx_msg.specs.declared.message.Envelope.{Envelope}
use Rattle.gx_script.specs.declared.Script.{Script}
use Rattle.gx_store.specs.declared.event.Event.{Event}
use Rattle.gx_store.specs.declared.mark.Mark.{Mark}
use Rattle.gx_store.specs.declared.mark.Mark.TheVariants as mark
use Rattle.gx_store.specs.declared.node.NodeEvent.{NodeEvent}
use Rattle.gx_store.specs.declared.node.NodeEvent.TheVariants as here
use Rattle.gx_store.specs.declared.run.Step.{Step}
use Rattle.gx_store.specs.Ordered.{IsSegment}
use Rattle.gx_store.specs.Refusals.{the_coordinator}
use Rattle.gx_rules.specs.AtCoordinator.{cancel_turn, cancels, coord_sends, coord_turn, on_event}
use Rattle.gx_rules.specs.AtSegment as segment
use Rattle.gx_rules.specs.AtSegment.{seg_rule}
use Rattle.gx_rules.specs.Coordinators.{CoordTurn}
use Rattle.gx_rules.specs.Machine.{Letter, World, and_cancelled, coord_did, found, new_world, posted, seg_did, with_more, world_of}
use Rattle.gx_rules.specs.Segments.{Seg}
use Rattle.gx_rules.specs.Sending.{clock_after, heard_in}
use Rattle.gx_rules.proofs.Turns.{with_more-last}
use Rattle.gx_law_order.specs.Moves.{Move, world_by}
use Rattle.gx_law_order.proofs.AtSegments.{seg_stays}
use Rattle.gx_law_order.proofs.Induction.{IsThere, after_turn, at-moves}
use Rattle.gx_law_order.proofs.Letters.{found_is}
use Rattle.gx_law_order.proofs.Lists.{each_weaker}
use Rattle.gx_law_order.specs.Lists.{Each}
use Rattle.gx_law_order.proofs.Moves.{HasNamed, moves_after, world-moves}
use Rattle.gx_law_order.proofs.Ordered.{Well, at-both, moves_well}
use Rattle.gx_law_order.proofs.Sent.{at}
use Rattle.gx_law_runs.proofs.Quiet.{event-still, victim-still}
use Rattle.gx_law_runs.proofs.QuietSegs.{seg-still}

abbrev IsBy : ℕ → Letter → Type 0
IsBy n l = l.envelope.clock ≤ n

posted-by : (n clock : ℕ) (from : Node) (ms : List Mark) (sent : List Letter) → clock ≤ n → Each (IsBy n) sent → Each (IsBy n) (posted from clock ms sent)
posted-by n clock from [] sent l e = e
posted-by n clock from (mark.Sent to number told ∷ ms) sent l e = posted-by n clock from ms _ l (l, e)
posted-by n clock from (m ∷ ms) sent l e = posted-by n clock from ms sent l e

-- but for the coordinator's messages
pub record IsBelow (w : World) : Type 0 where
  pub clock : w.coord.clock ≤ length w.steps
  pub clocks : (i : ℕ) → (w.segs i).clock ≤ length w.steps
  pub next : w.coord.table.next.0 ≤ length w.steps + 1
  pub answered : (i : ℕ) → (w.segs i).sent ≤ length w.steps

pub record Stays (w : World) : Type 0 where
  pub room : IsBelow w
  pub letters : Each (IsBy (length w.steps)) w.sent

up : (a n m : ℕ) → a ≤ n → n ≤ m → a ≤ m
up a n m l e = omega arith

least : (n : ℕ) → 0 ≤ n
least n = omega arith

hears : (clock n m : ℕ) (x : NodeEvent) → clock ≤ n → heard_in x ≤ n → m ≡ n + 1 → clock_after clock x ≤ m
hears clock n m x l h e = grind (arith, nat_tests)

longer : (n m : ℕ) → m ≡ n + 1 → n ≤ m
longer n m e = omega arith

-- WHAT IS HEARD WAS SENT
heard-found : (w : World) (from to : Node) (number : ℕ) (envelope : Envelope) → Each (IsBy (length w.steps)) w.sent → found from to number w.sent ≡ Some envelope → envelope.clock ≤ length w.steps
heard-found w from to number envelope e f =
    let d = found_is (IsBy (length w.steps)) from to number w.sent envelope e f in
    subst (λ (x : Envelope). x.clock ≤ length w.steps) d.told d.is

heard : (script : Script) (w : World) (q : Stays w) (e : Event) (n : Node) (x : NodeEvent) → IsThere script w e n x → heard_in x ≤ length w.steps
heard script w q e n (here.Deliver from envelope) t = heard-found w from n t.number envelope q.letters t.found
heard script w q e n (here.Resume g) t = least (length w.steps)
heard script w q e n (here.Start s) t = least (length w.steps)
heard script w q e n (here.End s) t = least (length w.steps)
heard script w q e n (here.Resend i g) t = least (length w.steps)
heard script w q e n here.Round t = least (length w.steps)

-- A TURN OF THE COORDINATOR
turn-stays : (w : World) → Stays w → (turn : CoordTurn) (clock : ℕ) (steps : List Step) → length w.steps ≤ length steps → clock ≤ length steps → turn.coord.table.next.0 ≤ length steps + 1 → Stays (after_turn w clock turn steps)
turn-stays w q turn clock steps more by next =
    record {
      room = record { clock = by; clocks = λ i. up (w.segs i).clock (length w.steps) (length steps) (q.room.clocks i) more; next = next; answered = λ i. up (w.segs i).sent (length w.steps) (length steps) (q.room.answered i) more };
      letters = posted-by (length steps) clock the_coordinator (coord_sends clock turn).marks w.sent by
          (each_weaker (IsBy (length w.steps)) (IsBy (length steps)) (λ l y. up l.envelope.clock (length w.steps) (length steps) y more) w.sent q.letters);
    }

event-stays : (script : Script) (w : World) → Stays w → (e : Event) (x : NodeEvent) (fails : Bool) → IsThere script w e the_coordinator x → Stays (coord_did w e (coord_turn script w.coord x fails))
event-stays script w q e x fails t =
    turn-stays w q (on_event script w.coord x fails) (clock_after w.coord.clock x) (w.steps ++ step ∷ []) (longer (length w.steps) _ more) (hears w.coord.clock (length w.steps) _ x q.room.clock (heard script w q e the_coordinator x t) more)
    (two w.coord.table.next.0 (length w.steps) _ _ (event-still script w.coord x fails) q.room.next more)
  where
    step : Step
    step = record { stamp = record { clock = clock_after w.coord.clock x; node = the_coordinator }; event = e; marks = (coord_turn script w.coord x fails).marks }

    more : length (w.steps ++ step ∷ []) ≡ length w.steps + 1
    more = length-push w.steps step

    two : (a n b m : ℕ) → b ≤ a + 1 → a ≤ n + 1 → m ≡ n + 1 → b ≤ m + 1
    two a n b m x y z = omega arith

-- the steps are as many
pub length-named : (ss : List Step) (clock round : ℕ) (g : Gxid) → HasNamed ss clock round g → (ms : List Mark) → length (with_more ss ms) ≡ length ss
length-named ss clock round g h ms =
    ap (λ q. length (with_more q ms)) h.is ∙ ap (λ q. length q) (with_more-last h.before h.step ms) ∙ length-push h.before (record h.step { marks = h.step.marks ++ ms }) ∙ sym (length-push h.before h.step) ∙ sym (ap (λ q. length q) h.is)

victim-stays : (w : World) → Stays w → (g : Gxid) → HasNamed w.steps w.coord.clock w.coord.rounds g → Stays (and_cancelled w g)
victim-stays w q g h =
    turn-stays w q (cancels w.coord g) w.coord.clock (and_cancelled w g).steps (as-many (length w.steps) _ same) (subst (λ n. w.coord.clock ≤ n) (sym same) q.room.clock)
    (next (cancels w.coord g).coord.table.next.0 w.coord.table.next.0 (length w.steps) _ (victim-still w.coord g) q.room.next same)
  where
    same : length (and_cancelled w g).steps ≡ length w.steps
    same = length-named w.steps w.coord.clock w.coord.rounds g h (cancel_turn w.coord g).marks

    as-many : (n m : ℕ) → m ≡ n → n ≤ m
    as-many n m e = omega arith

    next : (b a n m : ℕ) → b ≤ a → a ≤ n + 1 → m ≡ n → b ≤ m + 1
    next b a n m x y z = omega arith

-- A TURN OF A SEGMENT
module _ (script : Script) (w : World) (well : Well script w) (q : Stays w) (e : Event) (x : NodeEvent) (fails : Bool) (i : ℕ) (place : IsSegment script (at i)) (t : IsThere script w e (at i) x) where
  abbrev s : Seg
  s = w.segs i

  abbrev seg_step : Step
  seg_step = record { stamp = record { clock = clock_after s.clock x; node = at i }; event = e; marks = (seg_rule script s x fails).marks }

  one-more : length (w.steps ++ seg_step ∷ []) ≡ length w.steps + 1
  one-more = length-push w.steps seg_step

  grown : length w.steps ≤ length (w.steps ++ seg_step ∷ [])
  grown = longer (length w.steps) _ one-more

  seg-clock : clock_after s.clock x ≤ length (w.steps ++ seg_step ∷ [])
  seg-clock = hears s.clock (length w.steps) _ x (q.room.clocks i) (heard script w q e (at i) x t) one-more

  seg-stays : Stays (seg_did w (at i) e (seg_rule script s x fails))
  seg-stays =
      record {
        room = record {
          clock = up w.coord.clock (length w.steps) _ q.room.clock grown;
          clocks = at-both (λ j (z : Seg). z.clock ≤ length (w.steps ++ seg_step ∷ [])) w.segs i _ seg-clock (λ j no. up (w.segs j).clock (length w.steps) _ (q.room.clocks j) grown);
          next = next w.coord.table.next.0 (length w.steps) _ q.room.next one-more;
          answered = at-both (λ j (z : Seg). z.sent ≤ length (w.steps ++ seg_step ∷ [])) w.segs i _
              (adds (segment.on_event script s x fails).seg.sent s.sent (length w.steps) _ _ (seg_stays script s (subst (IsSegment script) (sym (well.names i)) place) x fails).sent (seg-still script s x fails).outs (q.room.answered i) one-more)
              (λ j no. up (w.segs j).sent (length w.steps) _ (q.room.answered j) grown);
        };
        letters = posted-by _ (clock_after s.clock x) (at i) seg_step.marks w.sent seg-clock (each_weaker (IsBy (length w.steps)) (IsBy (length (w.steps ++ seg_step ∷ []))) (λ l y. up l.envelope.clock (length w.steps) _ y grown) w.sent q.letters);
      }
    where
      adds : (a b n k m : ℕ) → a ≡ b → k ≤ 1 → b ≤ n → m ≡ n + 1 → a + k ≤ m
      adds a b n k m e l h f = omega arith

      next : (a n m : ℕ) → a ≤ n + 1 → m ≡ n + 1 → a ≤ m + 1
      next a n m l e = omega arith

-- IN EVERY WORLD
new-stays : Stays new_world
new-stays = record { room = record { clock = least 0; clocks = λ i. least 0; next = one; answered = λ i. least 0 }; letters = tt }
  where
    one : 1 ≤ 0 + 1
    one = omega arith

module _ (script : Script) (some : 1 ≤ script.segments) where
  pub moves-stay : (ms : List Move) → Stays (world_by script ms)
  moves-stay =
      at-moves script some (Well script) Stays (moves_well script some) new-stays (λ w k q e x fails t ok next. event-stays script w q e x fails t) (λ w k q g h next. victim-stays w q g h)
      (λ w k q e x fails i place t ok next. seg-stays script w k q e x fails i place t)

  pub world-stays : (es : List (Event × Bool)) → Stays (world_of script es)
  world-stays es = subst Stays (sym (world-moves script es)) (moves-stay (moves_after script new_world es))
