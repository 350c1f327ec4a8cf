-- Every system run is a run of the machine.
use Rattle.std.proofs.Common.{◌≡◌, ◌≤◌, ◌⊎◌, inl, inr, ⊎_elim, ℕ, zero, suc, ◌+◌, List, [], ◌∷◌, ◌++◌, Option, Some, Bool, true, false, refl, sym, subst, ap, ◌∙◌, if◌then◌else◌, arith, append-nil}
use Rattle.std.proofs.lemmas.Bool.{and_parts, eqb-true}
use Rattle.std.proofs.lemmas.Bool.Decides.{nat_tests}
use Rattle.std.proofs.lemmas.List.{append_assoc}
use Rattle.std.specs.Prelude.{slice_get}
use Rattle.gx_lemmas.proofs.Options.{some-same}
use Rattle.gx_ids.specs.declared.ids.Node.{Node}
use Rattle.gx_msg.specs.declared.message.Envelope.{Envelope}
use Rattle.gx_msg.specs.declared.message.Message.{Message}
use Rattle.gx_script.specs.declared.Script.{Script}
use Rattle.gx_store.specs.declared.event.Event.{Event}
use Rattle.gx_store.specs.declared.event.Event.TheVariants as event
use Rattle.gx_store.specs.declared.mark.Mark.{Mark}
use Rattle.gx_store.specs.declared.mark.Mark.TheVariants as mark
use Rattle.gx_store.specs.declared.node.NodeEvent.{NodeEvent}
use Rattle.gx_store.specs.declared.node.NodeEvent.TheVariants as here
use Rattle.gx_store.specs.declared.run.Run.{Run}
use Rattle.gx_store.specs.declared.run.Step.{Step}
use Rattle.gx_store.specs.Journals.{is_same_node}
use Rattle.gx_store.specs.Ordered.{AreNumbered, AreOrdered, IsEventAt, IsOrderedStep, IsSegment, sent_count, sent_in}
use Rattle.gx_store.specs.Refusals.{the_coordinator}
use Rattle.gx_rules.specs.AtCoordinator.{coord_can, coord_rule}
use Rattle.gx_rules.specs.AtSegment.{seg_rule}
use Rattle.gx_rules.specs.Machine.{Letter, World, after, at_node, can_here, coord_did, delivered, does, found, happens, is_at, new_world, node_of, posted, seg_can, seg_did}
use Rattle.gx_rules.specs.Segments.{Seg}
use Rattle.gx_rules.specs.System.{AreAtNodes, DoesCoordFollow, DoesSegFollow, Either, IsCoordStep, IsHere, IsPosted, IsSegStep, IsSystemRun}
use Rattle.gx_law_order.specs.Runs.{IsOfMachine}
use Rattle.gx_law_order.proofs.AtSegments.{seg_stays}
use Rattle.gx_law_order.proofs.Letters.{same_node}
use Rattle.gx_law_order.proofs.Ordered.{apart-back, apart-two, at-both, test-self}
use Rattle.gx_law_order.proofs.Sent.{at, sent_count-append, sent_in-last}

-- A MESSAGE IS FOUND BY ITS NUMBER
abbrev letter_at : Node → ℕ → Node → ℕ → Message → Letter
letter_at node clock to number told = record { from = node; to = to; envelope = record { number = number; clock = clock; incarnation = 1; message = told } }

not_at : (from to : Node) (number : ℕ) (l : Letter) → (l.from ≡ from → l.to ≡ to → l.envelope.number ≡ number → ⊥) → is_at from to number l ≡ false
not_at from to number l h = by_test (is_at from to number l) refl
  where
    by_test : (b : Bool) → is_at from to number l ≡ b → b ≡ false
    by_test false e = refl
    by_test true e =
        let x = and_parts _ _ e in
        let y = and_parts _ _ x.1 in
        absurd (h (same_node l.from from x.0) (same_node l.to to y.0) (eqb-true l.envelope.number number y.1))

found-not : (from to : Node) (number : ℕ) (l : Letter) (ls : List Letter) → is_at from to number l ≡ false → found from to number (l ∷ ls) ≡ found from to number ls
found-not from to number l ls e = ap (λ (b : Bool). if b then Some l.envelope else found from to number ls) e

count-grows : (to : Node) (earlier : List Mark) (m : Mark) (a n : ℕ) → n ≤ a + sent_count to earlier → n ≤ a + sent_count to (earlier ++ m ∷ [])
count-grows to earlier m a n h = grind (arith, nat_tests, sent_count-append to earlier (m ∷ []))

-- what a step sends has greater numbers than this, so this is found as before
found-kept : (from to : Node) (number : ℕ) (node : Node) (clock : ℕ) (steps : List Step) (earlier ms : List Mark) (sent : List Letter) → AreNumbered node steps earlier ms → (node ≡ from → number ≤ sent_in node to steps + sent_count to earlier) → found from to number (posted node clock ms sent) ≡ found from to number sent
found-kept from to number node clock steps earlier [] sent e h = refl
found-kept from to number node clock steps earlier (mark.Sent t k told ∷ ms) sent e h =
    found-kept from to number node clock steps (earlier ++ mark.Sent t k told ∷ []) ms (letter_at node clock t k told ∷ sent) e.1 (λ same. count-grows to earlier (mark.Sent t k told) (sent_in node to steps) number (h same))
    ∙ found-not from to number (letter_at node clock t k told) sent (not_at from to number (letter_at node clock t k told) (λ source target counted. greater t k e.0 source target counted))
  where
    greater : (t : Node) (k : ℕ) → k ≡ sent_in node t steps + sent_count t earlier + 1 → node ≡ from → t ≡ to → k ≡ number → ⊥
    greater t k is source target counted = over (sent_in node to steps + sent_count to earlier) k number (subst (λ x. k ≡ sent_in node x steps + sent_count x earlier + 1) target is) (h source) counted
      where
        over : (a k number : ℕ) → k ≡ a + 1 → number ≤ a → k ≡ number → ⊥
        over a k number is under same = absurd (omega arith)
found-kept from to number node clock steps earlier (m ∷ ms) sent e h =
    found-kept from to number node clock steps (earlier ++ m ∷ []) ms sent e (λ same. count-grows to earlier m (sent_in node to steps) number (h same))

-- a step's message is found
module _ (to : Node) (number : ℕ) (told : Message) (node : Node) (clock : ℕ) (steps : List Step) where
  abbrev mine : Mark
  mine = mark.Sent to number told

  abbrev envelope_now : Envelope
  envelope_now = record { number = number; clock = clock; incarnation = 1; message = told }

  own_count : (earlier : List Mark) → number ≡ sent_in node to steps + sent_count to earlier + 1 → number ≤ sent_in node to steps + sent_count to (earlier ++ mine ∷ [])
  own_count earlier h = grind (arith, nat_tests, sent_count-append to earlier (mine ∷ []))

  found-first : (earlier ms : List Mark) (sent : List Letter) → AreNumbered node steps earlier (mine ∷ ms) → found node to number (posted node clock (mine ∷ ms) sent) ≡ Some envelope_now
  found-first earlier ms sent e =
      found-kept node to number node clock steps (earlier ++ mine ∷ []) ms (letter_at node clock to number told ∷ sent) e.1 (λ same. own_count earlier e.0)
      ∙ ap (λ (b : Bool). if b then Some envelope_now else found node to number sent) (self node to number)
    where
      self : (a b : Node) (n : ℕ) → is_at a b n (letter_at a clock b n told) ≡ true
      self a b n = grind (arith, nat_tests)

  found-new : (earlier ms : List Mark) (sent : List Letter) (j : ℕ) → AreNumbered node steps earlier ms → slice_get ms j ≡ Some mine → found node to number (posted node clock ms sent) ≡ Some envelope_now
  found-new earlier [] sent j e is = absurd (cc)
  found-new earlier (m ∷ ms) sent zero e is = at_front m (some-same m mine is) e
    where
      at_front : (x : Mark) → x ≡ mine → AreNumbered node steps earlier (x ∷ ms) → found node to number (posted node clock (x ∷ ms) sent) ≡ Some envelope_now
      at_front x same = subst (λ y. AreNumbered node steps earlier (y ∷ ms) → found node to number (posted node clock (y ∷ ms) sent) ≡ Some envelope_now) (sym same) (found-first earlier ms sent)
  found-new earlier (mark.Sent t k other ∷ ms) sent (suc j) e is = found-new (earlier ++ mark.Sent t k other ∷ []) ms (letter_at node clock t k other ∷ sent) j e.1 is
  found-new earlier (m ∷ ms) sent (suc j) e is = found-new (earlier ++ m ∷ []) ms sent j e is

  count-all : (earlier ms : List Mark) (j : ℕ) → AreNumbered node steps earlier ms → slice_get ms j ≡ Some mine → number ≤ sent_in node to steps + sent_count to (earlier ++ ms)
  count-all earlier [] j e is = absurd (cc)
  count-all earlier (m ∷ ms) zero e is = at_front m (some-same m mine is) e
    where
      first : AreNumbered node steps earlier (mine ∷ ms) → number ≤ sent_in node to steps + sent_count to (earlier ++ mine ∷ ms)
      first e = more (sent_in node to steps) (own_count earlier e.0)
        where
          more : (a : ℕ) → number ≤ a + sent_count to (earlier ++ mine ∷ []) → number ≤ a + sent_count to (earlier ++ mine ∷ ms)
          more a h = grind (arith, nat_tests, sent_count-append to earlier (mine ∷ []), sent_count-append to earlier (mine ∷ ms))

      at_front : (x : Mark) → x ≡ mine → AreNumbered node steps earlier (x ∷ ms) → number ≤ sent_in node to steps + sent_count to (earlier ++ x ∷ ms)
      at_front x same = subst (λ y. AreNumbered node steps earlier (y ∷ ms) → number ≤ sent_in node to steps + sent_count to (earlier ++ y ∷ ms)) (sym same) first
  count-all earlier (mark.Sent t k other ∷ ms) (suc j) e is =
      subst (λ xs. number ≤ sent_in node to steps + sent_count to xs) (append_assoc earlier (mark.Sent t k other ∷ []) ms) (count-all (earlier ++ mark.Sent t k other ∷ []) ms j e.1 is)
  count-all earlier (m ∷ ms) (suc j) e is =
      subst (λ xs. number ≤ sent_in node to steps + sent_count to xs) (append_assoc earlier (m ∷ []) ms) (count-all (earlier ++ m ∷ []) ms j e is)

get_split : {A : Type 0} (xs : List A) (x y : A) (k : ℕ) → slice_get (xs ++ x ∷ []) k ≡ Some y → (slice_get xs k ≡ Some y) ⊎ (y ≡ x)
get_split [] x y zero e = inr (sym (some-same x y e))
get_split [] x y (suc k) e = absurd (cc)
get_split (z ∷ xs) x y zero e = inl e
get_split (z ∷ xs) x y (suc k) e = get_split xs x y k e

-- WHAT WAS SENT IS FOUND
abbrev AreFound : List Step → List Letter → Type 0
AreFound steps sent =
    (from to : Node) (number : ℕ) (envelope : Envelope) → IsPosted steps from to number envelope → (found from to number sent ≡ Some envelope) × (number ≤ sent_in from to steps)

found-step : (script : Script) (steps : List Step) (s : Step) (sent : List Letter) → IsOrderedStep script steps s → AreFound steps sent → AreFound (steps ++ s ∷ []) (posted s.stamp.node s.stamp.clock s.marks sent)
found-step script steps s sent ordered are from to number envelope p =
    ⊎_elim (λ (a : slice_get steps p.step ≡ Some p.sending.sender). old a) (λ (same : p.sending.sender ≡ s). new same) (get_split steps s p.sending.sender p.step p.sending.at)
  where
    wider : (n : ℕ) → n ≤ sent_in from to steps → n ≤ sent_in from to (steps ++ s ∷ [])
    wider n h = grind (arith, nat_tests, sent_in-last from to steps s)

    old : slice_get steps p.step ≡ Some p.sending.sender → (found from to number (posted s.stamp.node s.stamp.clock s.marks sent) ≡ Some envelope) × (number ≤ sent_in from to (steps ++ s ∷ []))
    old a =
        let was = are from to number envelope (record { step = p.step; mark = p.mark; sending = record { sender = p.sending.sender; at = a; node = p.sending.node; sent = p.sending.sent }; counted = p.counted; clock = p.clock; incarnation = p.incarnation }) in (
          found-kept from to number s.stamp.node s.stamp.clock steps [] s.marks sent ordered.numbers (λ same. subst (λ x. number ≤ sent_in x to steps + 0) (sym same) (plus_none number (sent_in from to steps) was.1)) ∙ was.0,
          wider number was.1,
        )
      where
        plus_none : (a b : ℕ) → a ≤ b → a ≤ b + 0
        plus_none a b h = omega arith

    new : p.sending.sender ≡ s → (found from to number (posted s.stamp.node s.stamp.clock s.marks sent) ≡ Some envelope) × (number ≤ sent_in from to (steps ++ s ∷ []))
    new same = (
      subst (λ x. found x to number (posted s.stamp.node s.stamp.clock s.marks sent) ≡ Some envelope) source
          (found-new to number envelope.message s.stamp.node s.stamp.clock steps [] s.marks sent p.mark ordered.numbers told ∙ ap Some (sym (whole envelope p.counted clock p.incarnation))),
      subst (λ x. number ≤ sent_in x to (steps ++ s ∷ [])) source (own (count-all to number envelope.message s.stamp.node s.stamp.clock steps [] s.marks p.mark ordered.numbers told)),
    )
      where
        source : s.stamp.node ≡ from
        source = subst (λ (x : Step). x.stamp.node ≡ from) same p.sending.node

        told : slice_get s.marks p.mark ≡ Some (mark.Sent to number envelope.message)
        told = subst (λ (x : Step). slice_get x.marks p.mark ≡ Some (mark.Sent to number envelope.message)) same p.sending.sent

        clock : envelope.clock ≡ s.stamp.clock
        clock = subst (λ (x : Step). envelope.clock ≡ x.stamp.clock) same p.clock

        whole : (x : Envelope) → x.number ≡ number → x.clock ≡ s.stamp.clock → x.incarnation ≡ 1 → x ≡ record { number = number; clock = s.stamp.clock; incarnation = 1; message = x.message }
        whole x a b d =
            ap (λ n. let y : Envelope = record { number = n; clock = x.clock; incarnation = x.incarnation; message = x.message } in y) a
            ∙ ap (λ c. let y : Envelope = record { number = number; clock = c; incarnation = x.incarnation; message = x.message } in y) b
            ∙ ap (λ k. let y : Envelope = record { number = number; clock = s.stamp.clock; incarnation = k; message = x.message } in y) d

        own : number ≤ sent_in s.stamp.node to steps + sent_count to s.marks → number ≤ sent_in s.stamp.node to (steps ++ s ∷ [])
        own h = grind (arith, nat_tests, sent_in-last s.stamp.node to steps s)

-- A STEP OF THE RUN IS ONE OF THE MACHINE
here_at : (w : World) (e : Event) (x : NodeEvent) → AreFound w.steps w.sent → IsHere w.steps e x → at_node w e ≡ Some x
here_at w (event.Receive from to number) (here.Deliver f envelope) are h =
    ap (delivered from) (are from to number envelope h.1).0 ∙ ap (λ a. Some (here.Deliver a envelope)) (sym h.0)
here_at w (event.Resume n g) (here.Resume a) are h = ap (λ b. Some (here.Resume b)) (sym h)
here_at w (event.Start s) (here.Start t) are h = ap (λ b. Some (here.Start b)) (sym h)
here_at w (event.End s) (here.End t) are h = ap (λ b. Some (here.End b)) (sym h)
here_at w (event.Resend i g) (here.Resend j a) are h = ap (λ b. Some (here.Resend b g)) (sym h.0) ∙ ap (λ b. Some (here.Resend j b)) (sym h.1)
here_at w event.Round here.Round are h = refl
here_at w e x are h = absurd h

node_at : (script : Script) (steps : List Step) (s : Step) (e : Event) → IsEventAt script steps s e → node_of e ≡ s.stamp.node
node_at script steps s (event.Receive from to number) h = sym h.0
node_at script steps s (event.Resume n g) h = sym h
node_at script steps s e h = sym h

same_step : (s : Step) (c : ℕ) (n : Node) (ms : List Mark) → s.stamp.clock ≡ c → s.stamp.node ≡ n → s.marks ≡ ms → s ≡ record { stamp = record { clock = c; node = n }; event = s.event; marks = ms }
same_step s c n ms a b d =
    ap (λ x. let y : Step = record { stamp = record { clock = x; node = s.stamp.node }; event = s.event; marks = s.marks } in y) a
    ∙ ap (λ x. let y : Step = record { stamp = record { clock = c; node = x }; event = s.event; marks = s.marks } in y) b
    ∙ ap (λ x. let y : Step = record { stamp = record { clock = c; node = n }; event = s.event; marks = x } in y) d

module _ (script : Script) (w : World) (e : Event) (fails : Bool) where
  turned : Node → Option NodeEvent → World
  turned at x = if can_here script w at x then does script w e at fails x else w

  same_turn : (at : Node) (x : NodeEvent) → node_of e ≡ at → at_node w e ≡ Some x → happens script w e fails ≡ (if can_here script w at (Some x) then does script w e at fails (Some x) else w)
  same_turn at x a b =
      ap (λ n. if can_here script w n (at_node w e) then does script w e n fails (at_node w e) else w) a
      ∙ ap (λ o. if can_here script w at o then does script w e at fails o else w) b

  happens-coord : (x : NodeEvent) → node_of e ≡ the_coordinator → at_node w e ≡ Some x → coord_can script w.coord x ≡ true → happens script w e fails ≡ coord_did w e (coord_rule script w.coord x fails)
  happens-coord x a b c = same_turn the_coordinator x a b ∙ ap (λ (t : Bool). if t then coord_did w e (coord_rule script w.coord x fails) else w) c

  happens-seg : (x : NodeEvent) (i : Node) → is_same_node i the_coordinator ≡ false → node_of e ≡ i → at_node w e ≡ Some x → seg_can script (w.segs i.0) x ≡ true → happens script w e fails ≡ seg_did w i e (seg_rule script (w.segs i.0) x fails)
  happens-seg x i away a b c =
      same_turn i x a b
      ∙ ap (λ (t : Bool). if (if t then coord_can script w.coord x else seg_can script (w.segs i.0) x) then (if t then coord_did w e (coord_rule script w.coord x fails) else seg_did w i e (seg_rule script (w.segs i.0) x fails)) else w) away
      ∙ ap (λ (t : Bool). if t then seg_did w i e (seg_rule script (w.segs i.0) x fails) else w) c

first_of : (b : Bool) (A B : Type 0) → b ≡ true → Either b A B → A
first_of true A B e a = a
first_of false A B e a = absurd (cc)

second_of : (b : Bool) (A B : Type 0) → b ≡ false → Either b A B → B
second_of true A B e a = absurd (cc)
second_of false A B e a = a

-- THE WHOLE RUN
-- events that lead from a world through these steps
record IsLed (script : Script) (w : World) (ss : List Step) : Type 0 where
  events : List (Event × Bool)
  is : (after script w events).steps ≡ w.steps ++ ss

-- a world that stands where the run stands before these steps
record IsHalfway (script : Script) (w : World) (ss : List Step) : Type 0 where
  found : AreFound w.steps w.sent
  names : (i : ℕ) → (w.segs i).node ≡ at i
  ordered : AreOrdered script w.steps ss
  nodes : AreAtNodes script ss
  coordinator : DoesCoordFollow script w.coord w.steps ss
  segments : (node : Node) → IsSegment script node → DoesSegFollow script (w.segs node.0) w.steps ss

module _ (script : Script) (w : World) (s : Step) (ss : List Step) (half : IsHalfway script w (s ∷ ss)) (rest : (v : World) → IsHalfway script v ss → IsLed script v ss) where
  -- the next step, as a world does it, leads on
  led_by : (fails : Bool) (v : World) (x : Step) → happens script w s.event fails ≡ v → s ≡ x → v.steps ≡ w.steps ++ x ∷ [] → IsHalfway script v ss → IsLed script w (s ∷ ss)
  led_by fails v x happened same pushed halfway =
      let r = rest v halfway in
      record {
        events = (s.event, fails) ∷ r.events;
        is = ap (λ (u : World). (after script u r.events).steps) happened
            ∙ r.is
            ∙ ap (λ (xs : List Step). xs ++ ss) pushed
            ∙ append_assoc w.steps (x ∷ []) ss
            ∙ ap (λ (y : Step). w.steps ++ y ∷ ss) (sym same);
      }

  module _ (at_coord : s.stamp.node ≡ the_coordinator) where
    own_step : (is : IsCoordStep script w.steps w.coord s) × DoesCoordFollow script (coord_rule script w.coord is.here is.fails).coord (w.steps ++ s ∷ []) ss
    own_step = first_of (is_same_node s.stamp.node the_coordinator) _ _ (subst (λ n. is_same_node n the_coordinator ≡ true) (sym at_coord) refl) half.coordinator

    by_coordinator : IsLed script w (s ∷ ss)
    by_coordinator = led_by own_step.0.fails next step (happens-coord script w s.event own_step.0.fails own_step.0.here (node_at script w.steps s s.event half.ordered.0.event ∙ at_coord) (here_at w s.event own_step.0.here half.found own_step.0.is) own_step.0.admitted) same refl
        (record {
          found = subst (λ x. AreFound (w.steps ++ x ∷ []) (posted x.stamp.node x.stamp.clock x.marks w.sent)) same (found-step script w.steps s w.sent half.ordered.0 half.found);
          names = half.names;
          ordered = subst (λ x. AreOrdered script (w.steps ++ x ∷ []) ss) same half.ordered.1;
          nodes = half.nodes.1;
          coordinator = subst (λ x. DoesCoordFollow script next.coord (w.steps ++ x ∷ []) ss) same own_step.1;
          segments = λ node place. subst (λ x. DoesSegFollow script (w.segs node.0) (w.steps ++ x ∷ []) ss) same
              (second_of (is_same_node s.stamp.node (w.segs node.0).node) _ _ (elsewhere node place) (half.segments node place));
        })
      where
        next : World
        next = coord_did w s.event (coord_rule script w.coord own_step.0.here own_step.0.fails)

        step : Step
        step = record { stamp = record { clock = (coord_rule script w.coord own_step.0.here own_step.0.fails).coord.clock; node = the_coordinator }; event = s.event; marks = (coord_rule script w.coord own_step.0.here own_step.0.fails).marks }

        same : s ≡ step
        same = same_step s _ the_coordinator _ own_step.0.clock at_coord own_step.0.marks

        away : (i : ℕ) → 1 ≤ i → is_same_node the_coordinator (at i) ≡ false
        away i k = grind (arith, nat_tests)

        elsewhere : (node : Node) → IsSegment script node → is_same_node s.stamp.node (w.segs node.0).node ≡ false
        elsewhere node place = subst (λ n. is_same_node n (w.segs node.0).node ≡ false) (sym at_coord) (subst (λ n. is_same_node the_coordinator n ≡ false) (sym (half.names node.0)) (away node.0 place.0))

  module _ (at_segment : IsSegment script s.stamp.node) where
    abbrev i : ℕ
    i = s.stamp.node.0

    seg_step : (is : IsSegStep script w.steps (w.segs i) s) × DoesSegFollow script (seg_rule script (w.segs i) is.here is.fails).seg (w.steps ++ s ∷ []) ss
    seg_step = first_of (is_same_node s.stamp.node (w.segs i).node) _ _ (subst (λ n. is_same_node s.stamp.node n ≡ true) (sym (half.names i)) (test-self i)) (half.segments s.stamp.node at_segment)

    by_segment : IsLed script w (s ∷ ss)
    by_segment = led_by seg_step.0.fails next step (happens-seg script w s.event seg_step.0.fails seg_step.0.here s.stamp.node (apart-back i at_segment.0) (node_at script w.steps s s.event half.ordered.0.event) (here_at w s.event seg_step.0.here half.found seg_step.0.is) seg_step.0.admitted) same refl
        (record {
          found = subst (λ x. AreFound (w.steps ++ x ∷ []) (posted x.stamp.node x.stamp.clock x.marks w.sent)) same (found-step script w.steps s w.sent half.ordered.0 half.found);
          names = at-both (λ j (t : Seg). t.node ≡ at j) w.segs i _ (kept_node ∙ half.names i) (λ j no. half.names j);
          ordered = subst (λ x. AreOrdered script (w.steps ++ x ∷ []) ss) same half.ordered.1;
          nodes = half.nodes.1;
          coordinator = subst (λ x. DoesCoordFollow script w.coord (w.steps ++ x ∷ []) ss) same
              (second_of (is_same_node s.stamp.node the_coordinator) _ _ (apart-back i at_segment.0) half.coordinator);
          segments = λ node place. subst (λ x. DoesSegFollow script (next.segs node.0) (w.steps ++ x ∷ []) ss) same
              (at-both (λ j (t : Seg). IsSegment script (at j) → DoesSegFollow script t (w.steps ++ s ∷ []) ss) w.segs i (seg_rule script (w.segs i) seg_step.0.here seg_step.0.fails).seg
              (λ k. seg_step.1)
              (λ j no k. second_of (is_same_node s.stamp.node (w.segs j).node) _ _ (subst (λ n. is_same_node s.stamp.node n ≡ false) (sym (half.names j)) (apart-two i j no)) (half.segments (at j) k))
              node.0 place);
        })
      where
        next : World
        next = seg_did w s.stamp.node s.event (seg_rule script (w.segs i) seg_step.0.here seg_step.0.fails)

        step : Step
        step = record { stamp = record { clock = (seg_rule script (w.segs i) seg_step.0.here seg_step.0.fails).seg.clock; node = s.stamp.node }; event = s.event; marks = (seg_rule script (w.segs i) seg_step.0.here seg_step.0.fails).marks }

        same : s ≡ step
        same = same_step s _ s.stamp.node _ seg_step.0.clock refl seg_step.0.marks

        kept_node : (seg_rule script (w.segs i) seg_step.0.here seg_step.0.fails).seg.node ≡ (w.segs i).node
        kept_node = (seg_stays script (w.segs i) (subst (IsSegment script) (sym (half.names i)) at_segment) seg_step.0.here seg_step.0.fails).node

led : (script : Script) (ss : List Step) (w : World) → IsHalfway script w ss → IsLed script w ss
led script [] w half = record { events = []; is = sym (append-nil w.steps) }
led script (s ∷ ss) w half =
    ⊎_elim (λ (c : s.stamp.node ≡ the_coordinator). by_coordinator script w s ss half (λ v h. led script ss v h) c)
    (λ (p : IsSegment script s.stamp.node). by_segment script w s ss half (λ v h. led script ss v h) p) half.nodes.0

pub system-led : (script : Script) (run : Run) → IsSystemRun script run → IsOfMachine script run
system-led script run is =
    let l = led script run.steps new_world (record { found = λ from to number envelope p. absurd (nothing from to number envelope p); names = λ i. refl; ordered = is.ordered; nodes = is.nodes; coordinator = is.coordinator; segments = is.segments }) in
    record { events = l.events; is = l.is }
  where
    nothing : (from to : Node) (number : ℕ) (envelope : Envelope) → IsPosted [] from to number envelope → ⊥
    nothing from to number envelope p = no_step p.step p.sending.sender p.sending.at
      where
        no_step : (k : ℕ) (x : Step) → slice_get [] k ≡ Some x → ⊥
        no_step k x e = (cc)
