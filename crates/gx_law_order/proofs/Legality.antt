-- Over every run of the machine, sessions stand as the marks tell, and events and marks are legal if the rest is.
use Rattle.std.proofs.Common.{◌≡◌, ◌≤◌, inl, ℕ, List, [], ◌++◌, ◌∷◌, Bool, true, false, refl, sym, subst, arith}
use Rattle.std.proofs.lemmas.Bool.Decides.{nat_tests}
use Rattle.gx_script.specs.declared.Script.{Script}
use Rattle.gx_store.specs.declared.event.Event.{Event}
use Rattle.gx_store.specs.declared.node.NodeEvent.{NodeEvent}
use Rattle.gx_store.specs.declared.node.NodeEvent.TheVariants as here
use Rattle.gx_store.specs.Journals.{is_same_node}
use Rattle.gx_store.specs.Language.{AreLinesNumbered}
use Rattle.gx_store.specs.Legal.{AreLegalSteps}
use Rattle.gx_store.specs.Points.{marks_in}
use Rattle.gx_store.specs.Refusals.{the_coordinator}
use Rattle.gx_rules.specs.Machine.{World, after, happens, new_world, seg_can, world_of}
use Rattle.gx_law_order.specs.Moves.{Move, world_by}
use Rattle.gx_law_order.proofs.Induction.{IsThere, at-moves}
use Rattle.gx_law_order.proofs.Moves.{moves_after, world-moves}
use Rattle.gx_law_order.proofs.Sent.{at}
use Rattle.gx_law_order.proofs.World.{Knows, moves_knows, world_knows}
use Rattle.gx_law_order.specs.Alive.{AreOrdersAlive, HaveOrdersRun}
use Rattle.gx_law_order.specs.Orders.{AreOrdersOf}
use Rattle.gx_law_order.specs.Rest.{AreEventsLegal, AreRestLegal, is_going_out}
use Rattle.gx_law_order.specs.Standing.{AreSessions}
use Rattle.gx_law_order.proofs.Alive.{alive-all}
use Rattle.gx_law_order.proofs.Cancelling.{cancel-said, cancel-turns}
use Rattle.gx_law_order.proofs.Doing.{event-does, starts-nothing}
use Rattle.gx_law_order.proofs.Ran.{have-run}
use Rattle.gx_law_order.proofs.Sendings.{orders-all}
use Rattle.gx_law_order.proofs.Stepping.{Holds, cancel-holds, event-holds, seg-holds}
use Rattle.gx_law_order.proofs.LegalSteps.{given-events, given-steps}
use Rattle.gx_law_order.proofs.Unsent.{Unsent, moves-unsent}

-- one event more
pub after-last : (script : Script) (some : 1 ≤ script.segments) (w : World) (es : List (Event × Bool)) (x : Event × Bool) → after script w (es ++ x ∷ []) ≡ happens script (after script w es) x.0 x.1
after-last script some w [] x = refl
after-last script some w (e ∷ es) x = after-last script some (happens script w e.0 e.1) es x

-- no command goes out at a segment
away : (i : ℕ) → 1 ≤ i → is_same_node (at i) the_coordinator ≡ false
away i one = grind (arith, nat_tests)

none-goes : (script : Script) (w : World) (e : Event) (i : ℕ) (x : NodeEvent) → 1 ≤ i → seg_can script (w.segs i) x ≡ true → IsThere script w e (at i) x → is_going_out e ≡ false
none-goes script w e i (here.Deliver from envelope) one ok r = subst (λ q. is_going_out q ≡ false) (sym r.event) refl
none-goes script w e i (here.Resume g) one ok r = subst (λ q. is_going_out q ≡ false) (sym r) (away i one)
none-goes script w e i (here.Start s) one ok r = absurd (cc)
none-goes script w e i (here.End s) one ok r = absurd (cc)
none-goes script w e i (here.Resend j g) one ok r = absurd (cc)
none-goes script w e i here.Round one ok r = absurd (cc)

module _ (script : Script) (some : 1 ≤ script.segments) where
  -- what is known of each world
  abbrev Known : World → Type 0
  Known w = Knows script w × Unsent w.coord (marks_in w.steps)

  new-holds : Holds script new_world
  new-holds =
      record {
        numbers = refl;
        fresh = record { unended = λ h l. refl; unread = λ h l. refl; unstarted = λ h l. refl };
        sessions = λ k. record { starts = refl; stands = inl (refl, record { commands = 0; answered = refl; state = refl; begun = refl; sound = refl; owns = λ h. absurd (cc) }) };
        given = tt;
        notes = λ i j. record { answer = tt; vote = tt };
        letters = tt;
        commands = λ j. tt;
        orders = tt;
        gathers = λ j. tt;
        owned = λ j m e. absurd (cc);
        alive = tt;
        ran = tt;
      }

  pub moves-holds : (ms : List Move) → Holds script (world_by script ms)
  moves-holds =
      at-moves script some Known (Holds script) (λ ms. (moves_knows script some ms, moves-unsent script some ms)) new-holds
      (λ w n h e x fails t ok next. let d = event-does script some w n.0 h n.1 e x fails t ok in event-holds script some w n.0 h e x fails d.effect d.legal d.drawn)
      (λ w n h g a next. cancel-holds script some w n.0 h g a (cancel-turns script w.steps w.coord n.0.kept h.sessions h.gathers g) (cancel-said script w.steps w.coord n.0.kept h.sessions h.gathers g a.before a.step a.is a.named))
      (λ w n h e x fails i place t ok next. seg-holds script some w n.0 h e x fails i (starts-nothing script w e (at i) x ok t) (none-goes script w e i x place.0 ok t) place)

  pub world-holds : (es : List (Event × Bool)) → Holds script (world_of script es)
  world-holds es = subst (Holds script) (sym (world-moves script es)) (moves-holds (moves_after script new_world es))

  pub sessions-stand : (es : List (Event × Bool)) → AreSessions script (world_of script es)
  sessions-stand es = (world-holds es).sessions

  pub events-legal : (es : List (Event × Bool)) → AreEventsLegal script [] (world_of script es).steps
  events-legal es = given-events script [] (world_of script es).steps (world-holds es).given

  pub legal-with-rest : (es : List (Event × Bool)) → AreRestLegal script [] (world_of script es).steps → AreLegalSteps script [] (world_of script es).steps
  legal-with-rest es r = given-steps script [] (world_of script es).steps (world-holds es).given r

  pub orders-are : (es : List (Event × Bool)) → AreLinesNumbered [] script.lines → AreOrdersOf script (world_of script es)
  orders-are es n = orders-all script (marks_in (world_of script es).steps) (world_of script es).sent n (world-holds es).orders

  pub orders-alive : (es : List (Event × Bool)) → AreOrdersAlive script (world_of script es)
  orders-alive es =
      let h = world-holds es in
      alive-all script (world_of script es) (world_knows script some es).kept h.sessions h.gathers (world_of script es).sent h.alive

  pub orders-ran : (es : List (Event × Bool)) → HaveOrdersRun script (world_of script es)
  orders-ran es =
      let h = world-holds es in
      have-run script (world_of script es).coord (world_of script es).steps (world_knows script some es).kept h.sessions h.gathers (world_of script es).sent h.ran
