-- An event of the machine is so many single moves, so what each single move keeps holds in every world of the machine.
use Rattle.std.proofs.Common.{◌≡◌, ℕ, List, [], ◌∷◌, ◌++◌, Option, Some, None, Bool, true, false, refl, sym, subst, ap, ◌∙◌, if◌then◌else◌, ◌==◌, ◌&&◌, ◌||◌, arith}
use Rattle.std.proofs.lemmas.Bool.{and_parts, eqb-true}
use Rattle.std.proofs.lemmas.Bool.Decides.{nat_tests}
use Rattle.std.specs.Prelude.{fold, map}
use Rattle.gx_lemmas.proofs.Options.{some-same}
use Rattle.gx_ids.specs.declared.ids.Gxid.{Gxid}
use Rattle.gx_ids.specs.declared.ids.Node.{Node}
use Rattle.gx_detect.specs.Inactive.{is_in}
use Rattle.gx_detect.specs.Rounds.{are_all}
use Rattle.gx_msg.specs.declared.message.Envelope.{Envelope}
use Rattle.gx_msg.specs.declared.message.Message.{Message}
use Rattle.gx_msg.specs.declared.message.Message.TheVariants as message
use Rattle.gx_script.specs.declared.Script.{Script}
use Rattle.gx_store.specs.declared.event.Event.{Event}
use Rattle.gx_store.specs.declared.event.Event.TheVariants as event
use Rattle.gx_store.specs.declared.mark.Mark.{Mark}
use Rattle.gx_store.specs.declared.mark.Mark.TheVariants as mark
use Rattle.gx_store.specs.declared.node.NodeEvent.{NodeEvent}
use Rattle.gx_store.specs.declared.node.NodeEvent.TheVariants as here
use Rattle.gx_store.specs.declared.run.Step.{Step}
use Rattle.gx_store.specs.Journals.{is_same_node}
use Rattle.gx_store.specs.Refusals.{the_coordinator}
use Rattle.gx_waits.specs.declared.graph.LocalGraph.{LocalGraph}
use Rattle.gx_waits.specs.declared.verdict.Verdict.{Verdict}
use Rattle.gx_waits.specs.declared.verdict.Verdict.TheVariants.{Dropped, Nothing, Victims}
use Rattle.gx_rules.specs.AtCoordinator.{cancel_turn, coord_can, coord_rule, coord_turn, on_event, on_message}
use Rattle.gx_rules.specs.AtSegment.{seg_rule}
use Rattle.gx_rules.specs.Coordinators.{Coord, CoordTurn, rests}
use Rattle.gx_rules.specs.Machine.{World, after, and_cancelled, at_node, can, can_here, coord_did, delivered, does, does_by, found, happens, new_world, node_of, seg_can, seg_did, with_more, world_of}
use Rattle.gx_rules.specs.Rounds.{is_report, on_graph, once_all, rechecks, victims_at, victims_in, victims_on_graph, victims_on_message, victims_once_all, verdict_at, with_report}
use Rattle.gx_rules.proofs.Rounds.{cancel-ways}
use Rattle.gx_rules.proofs.Turns.{did-all}
use Rattle.gx_locks.specs.Graphs.{graph_at}
use Rattle.gx_law_order.specs.Moves.{Move, has_named, moved, moved_by, moves_of, names, victims_there, world_by}
use Rattle.gx_law_order.specs.Moves.Move.{Turn, Cancel}
use Rattle.gx_law_order.proofs.Letters.{same_node}
use Rattle.gx_law_order.proofs.Lists.{each_weaker}
use Rattle.gx_law_order.specs.Lists.{Each}

-- WHOM A STEP HAS NAMED
or-before : (a : Bool) {b : Bool} → b ≡ true → (a || b) ≡ true
or-before true e = refl
or-before false e = e

names-front : (xs ys : List Mark) (round : ℕ) (g : Gxid) → names xs round g ≡ true → names (xs ++ ys) round g ≡ true
names-front [] ys round g e = absurd (cc)
names-front (mark.Recheck r own (Victims victims) ∷ xs) ys round g e = by_test ((r == round) && is_in victims g) (names-front xs ys round g) e
  where
    by_test : (b : Bool) → (names xs round g ≡ true → names (xs ++ ys) round g ≡ true) → (b || names xs round g) ≡ true → (b || names (xs ++ ys) round g) ≡ true
    by_test true later e = refl
    by_test false later e = later e
names-front (m ∷ xs) ys round g e = names-front xs ys round g e

named-more : (ss : List Step) (ms : List Mark) (clock round : ℕ) (g : Gxid) → has_named ss clock round g ≡ true → has_named (with_more ss ms) clock round g ≡ true
named-more [] ms clock round g e = absurd (cc)
named-more (s ∷ []) ms clock round g e =
    let a = and_parts (is_same_node s.stamp.node the_coordinator) _ e in
    let b = and_parts (s.stamp.clock == clock) _ a.1 in
    all-true a.0 b.0 (names-front s.marks ms round g b.1)
  where
    all-true : {a b c : Bool} → a ≡ true → b ≡ true → c ≡ true → (a && (b && c)) ≡ true
    all-true e f h = grind arith
named-more (s ∷ t ∷ []) ms clock round g e = named-more (t ∷ []) ms clock round g e
named-more (s ∷ t ∷ u ∷ ss) ms clock round g e = named-more (t ∷ u ∷ ss) ms clock round g e

named-last : (ss : List Step) (s : Step) (round : ℕ) (g : Gxid) → is_same_node s.stamp.node the_coordinator ≡ true → names s.marks round g ≡ true → has_named (ss ++ s ∷ []) s.stamp.clock round g ≡ true
named-last [] s round g here e = both here (self s.stamp.clock) e
  where
    self : (n : ℕ) → (n == n) ≡ true
    self n = grind (arith, nat_tests)

    both : {a b c : Bool} → a ≡ true → b ≡ true → c ≡ true → (a && (b && c)) ≡ true
    both e f h = grind arith
named-last (x ∷ []) s round g here e = named-last [] s round g here e
named-last (x ∷ y ∷ ss) s round g here e = named-last (y ∷ ss) s round g here e

-- the coordinator's last step, by which the transaction may be cancelled
pub record HasNamed (ss : List Step) (clock round : ℕ) (g : Gxid) : Type 0 where
  pub before : List Step
  pub step : Step
  pub is : ss ≡ before ++ step ∷ []
  pub node : step.stamp.node ≡ the_coordinator
  pub clock_is : step.stamp.clock ≡ clock
  pub named : names step.marks round g ≡ true

named-is : (ss : List Step) (clock round : ℕ) (g : Gxid) → has_named ss clock round g ≡ true → HasNamed ss clock round g
named-is [] clock round g e = absurd (cc)
named-is (s ∷ []) clock round g e =
    let a = and_parts (is_same_node s.stamp.node the_coordinator) _ e in
    let b = and_parts (s.stamp.clock == clock) _ a.1 in
    record { before = []; step = s; is = refl; node = same_node s.stamp.node the_coordinator a.0; clock_is = eqb-true s.stamp.clock clock b.0; named = b.1 }
named-is (s ∷ t ∷ ss) clock round g e =
    let h = named-is (t ∷ ss) clock round g e in
    record { before = s ∷ h.before; step = h.step; is = ap (λ q. s ∷ q) h.is; node = h.node; clock_is = h.clock_is; named = h.named }

-- WHOM AN EVENT NAMES
each-in : (gs : List Gxid) → Each (λ g. is_in gs g ≡ true) gs
each-in [] = tt
each-in (h ∷ gs) = (self h.0 (is_in gs h), each_weaker (λ g. is_in gs g ≡ true) (λ g. is_in (h ∷ gs) g ≡ true) (λ g e. or-before (h.0 == g.0) e) gs (each-in gs))
  where
    self : (n : ℕ) (b : Bool) → ((n == n) || b) ≡ true
    self n b = grind (arith, nat_tests)

-- these are named by the turn's marks, in the round that it leaves
abbrev AreNamed : CoordTurn → List Gxid → Type 0
AreNamed turn gs = Each (λ g. names turn.marks turn.coord.rounds g ≡ true) gs

verdict-names : (round : ℕ) (own : LocalGraph) (v : Verdict) → Each (λ g. names (mark.Recheck round own v ∷ []) round g ≡ true) (victims_in v)
verdict-names round own Nothing = tt
verdict-names round own (Dropped g) = tt
verdict-names round own (Victims victims) = each_weaker (λ g. is_in victims g ≡ true) (λ g. (((round == round) && is_in victims g) || false) ≡ true) (λ g e. here round (is_in victims g) e) victims (each-in victims)
  where
    here : (n : ℕ) (b : Bool) → b ≡ true → (((n == n) && b) || false) ≡ true
    here n b e = grind (arith, nat_tests)

graph-names : (c : Coord) (from : Node) (round : ℕ) (graph : LocalGraph) → AreNamed (on_graph c from round graph) (victims_on_graph c from round graph)
graph-names c from round graph = by_report (is_report c from round graph)
  where
    by_all : (b : Bool) → AreNamed (if b then rechecks (with_report c graph) else rests (with_report c graph)) (if b then victims_in (verdict_at (with_report c graph)) else [])
    by_all true = verdict-names c.rounds (graph_at c.locks) (verdict_at (with_report c graph))
    by_all false = tt

    by_report : (b : Bool) → AreNamed (if b then once_all (with_report c graph) else rests c) (if b then victims_once_all (with_report c graph) else [])
    by_report true = by_all (are_all (with_report c graph).reports)
    by_report false = tt

message-names : (c : Coord) (from : Node) (fails : Bool) (m : Message) → AreNamed (on_message c from fails m) (victims_on_message c from m)
message-names c from fails (message.Graph round graph) = graph-names c from round graph
message-names c from fails message.Up = tt
message-names c from fails (message.Answer g r) = tt
message-names c from fails (message.Exec g cid level x h y) = tt
message-names c from fails (message.Prepare g) = tt
message-names c from fails (message.Commit g) = tt
message-names c from fails (message.CommitPrepared g) = tt
message-names c from fails (message.Abort g) = tt
message-names c from fails (message.Forget g) = tt
message-names c from fails (message.Collect round) = tt

event-names : (script : Script) (c : Coord) (x : NodeEvent) (fails : Bool) → AreNamed (on_event script c x fails) (victims_at c x)
event-names script c (here.Deliver from envelope) fails = message-names c from fails envelope.message
event-names script c (here.Resume g) fails = tt
event-names script c (here.Start s) fails = tt
event-names script c (here.End s) fails = tt
event-names script c (here.Resend i g) fails = tt
event-names script c here.Round fails = tt

turn-names : (script : Script) (c : Coord) (x : NodeEvent) (fails : Bool) → AreNamed (coord_turn script c x fails) (victims_at c x)
turn-names script c x fails =
    each_weaker (λ g. names (on_event script c x fails).marks (on_event script c x fails).coord.rounds g ≡ true) (λ g. names (coord_turn script c x fails).marks (coord_turn script c x fails).coord.rounds g ≡ true)
    (λ g e. names-front (on_event script c x fails).marks _ (on_event script c x fails).coord.rounds g e) (victims_at c x) (event-names script c x fails)

-- EVENTS AS MOVES
rounds-stay : (c : Coord) (g : Gxid) → (cancel_turn c g).coord.rounds ≡ c.rounds
rounds-stay c g = cancel-ways (λ turn. turn.coord.rounds ≡ c.rounds) c g refl (λ live busy. refl)

abbrev IsNow : World → Gxid → Type 0
IsNow w g = has_named w.steps w.coord.clock w.coord.rounds g ≡ true

still-named : (w : World) (g h : Gxid) → IsNow w h → IsNow (and_cancelled w g) h
still-named w g h e =
    subst (λ n. has_named (with_more w.steps (cancel_turn w.coord g).marks) w.coord.clock n h ≡ true) (sym (rounds-stay w.coord g))
    (named-more w.steps (cancel_turn w.coord g).marks w.coord.clock w.coord.rounds h e)

all-cancelled : (script : Script) (gs : List Gxid) (w : World) → Each (IsNow w) gs → fold and_cancelled w gs ≡ moved_by script w (map Cancel gs)
all-cancelled script [] w e = refl
all-cancelled script (g ∷ gs) w e =
    all-cancelled script gs (and_cancelled w g) (each_weaker (IsNow w) (IsNow (and_cancelled w g)) (λ h k. still-named w g h k) gs e.1)
    ∙ ap (λ (b : Bool). moved_by script (if b then and_cancelled w g else w) (map Cancel gs)) (sym e.0)

module _ (script : Script) (w : World) (e : Event) (fails : Bool) where
  coordinator-moves : (x : NodeEvent) → coord_did w e (coord_rule script w.coord x fails) ≡ moved_by script (coord_did w e (coord_turn script w.coord x fails)) (map Cancel (victims_at w.coord x))
  coordinator-moves x =
      did-all w e (victims_at w.coord x) (coord_turn script w.coord x fails)
      ∙ all-cancelled script (victims_at w.coord x) (coord_did w e turn)
      (each_weaker (λ g. names turn.marks turn.coord.rounds g ≡ true) (IsNow (coord_did w e turn)) (λ g k. named-last w.steps step turn.coord.rounds g refl k) (victims_at w.coord x) (turn-names script w.coord x fails))
    where
      turn : CoordTurn
      turn = coord_turn script w.coord x fails

      step : Step
      step = record { stamp = record { clock = turn.coord.clock; node = the_coordinator }; event = e; marks = turn.marks }

  there-moves : (at : Node) (o : Option NodeEvent) → does script w e at fails o ≡ moved_by script (does_by (coord_turn script) script w e at fails o) (map Cancel (victims_there w at o))
  there-moves at None = refl
  there-moves at (Some x) = by_test (is_same_node at the_coordinator)
    where
      by_test : (b : Bool) → (if b then coord_did w e (coord_rule script w.coord x fails) else seg_did w at e (seg_rule script (w.segs at.0) x fails))
          ≡ moved_by script (if b then coord_did w e (coord_turn script w.coord x fails) else seg_did w at e (seg_rule script (w.segs at.0) x fails)) (map Cancel (if b then victims_at w.coord x else []))
      by_test true = coordinator-moves x
      by_test false = refl

  pub happens-moves : happens script w e fails ≡ moved_by script w (moves_of script w e fails)
  happens-moves = by_test (can script w e)
    where
      by_test : (b : Bool) → (if b then does script w e (node_of e) fails (at_node w e) else w)
          ≡ moved_by script (if b then does_by (coord_turn script) script w e (node_of e) fails (at_node w e) else w) (if b then map Cancel (victims_there w (node_of e) (at_node w e)) else [])
      by_test true = there-moves (node_of e) (at_node w e)
      by_test false = refl

-- WHAT COMES
-- what an event is at its node, and the message that a receipt delivers
abbrev pub Comes : World → Event → Node → NodeEvent → Type 0
Comes w e at (here.Deliver from envelope) = (number : ℕ) × (e ≡ event.Receive from at number) × (found from at number w.sent ≡ Some envelope)
Comes w e at (here.Resume g) = e ≡ event.Resume at g
Comes w e at (here.Start s) = e ≡ event.Start s
Comes w e at (here.End s) = e ≡ event.End s
Comes w e at (here.Resend i g) = e ≡ event.Resend i g
Comes w e at here.Round = e ≡ event.Round

pub comes : (w : World) (e : Event) (x : NodeEvent) → at_node w e ≡ Some x → Comes w e (node_of e) x
comes w (event.Receive from to number) x q = by_letter (found from to number w.sent) refl q
  where
    by_letter : (o : Option Envelope) → found from to number w.sent ≡ o → delivered from o ≡ Some x → Comes w (event.Receive from to number) to x
    by_letter None f q = absurd (cc)
    by_letter (Some envelope) f q = subst (Comes w (event.Receive from to number) to) (some-same (here.Deliver from envelope) x q) (number, refl, f)
comes w (event.Resume n g) x q = subst (Comes w (event.Resume n g) n) (some-same (here.Resume g) x q) refl
comes w (event.Start s) x q = subst (Comes w (event.Start s) the_coordinator) (some-same (here.Start s) x q) refl
comes w (event.End s) x q = subst (Comes w (event.End s) the_coordinator) (some-same (here.End s) x q) refl
comes w (event.Resend i g) x q = subst (Comes w (event.Resend i g) the_coordinator) (some-same (here.Resend i g) x q) refl
comes w event.Round x q = subst (Comes w event.Round the_coordinator) (some-same here.Round x q) refl
comes w (event.Restart n) x q = absurd (cc)

-- ONE MOVE, AND ALL
-- An event is nothing, or the coordinator's, or a segment's.
module _ (rule : Coord → NodeEvent → Bool → CoordTurn) (script : Script) (w : World) (e : Event) (fails : Bool) (Q : World → Type 0) (rest : Q w)
    (turn : (x : NodeEvent) → Comes w e the_coordinator x → coord_can script w.coord x ≡ true → Q (coord_did w e (rule w.coord x fails)))
    (serve : (x : NodeEvent) (n : Node) → is_same_node n the_coordinator ≡ false → Comes w e n x → seg_can script (w.segs n.0) x ≡ true → Q (seg_did w n e (seg_rule script (w.segs n.0) x fails)))
  where
    there : (o : Option NodeEvent) → at_node w e ≡ o → can_here script w (node_of e) o ≡ true → Q (does_by rule script w e (node_of e) fails o)
    there None q ok = rest
    there (Some x) q ok = by_node (is_same_node (node_of e) the_coordinator) refl ok
      where
        by_node : (b : Bool) → is_same_node (node_of e) the_coordinator ≡ b → (if b then coord_can script w.coord x else seg_can script (w.segs (node_of e).0) x) ≡ true
            → Q (if b then coord_did w e (rule w.coord x fails) else seg_did w (node_of e) e (seg_rule script (w.segs (node_of e).0) x fails))
        by_node true is ok = turn x (subst (λ n. Comes w e n x) (same_node (node_of e) the_coordinator is) (comes w e x q)) ok
        by_node false is ok = serve x (node_of e) is (comes w e x q) ok

    pub event-ways : Q (if can script w e then does_by rule script w e (node_of e) fails (at_node w e) else w)
    event-ways = by_can (can script w e) refl
      where
        by_can : (b : Bool) → can script w e ≡ b → Q (if b then does_by rule script w e (node_of e) fails (at_node w e) else w)
        by_can true ok = there (at_node w e) refl ok
        by_can false ok = rest

-- A move is nothing, or the coordinator's single turn, or a victim's, or a segment's.
module _ (script : Script) (w : World) (Q : Move → World → Type 0) (rest : (m : Move) → Q m w)
    (turn : (e : Event) (x : NodeEvent) (fails : Bool) → Comes w e the_coordinator x → coord_can script w.coord x ≡ true → Q (Turn e fails) (coord_did w e (coord_turn script w.coord x fails)))
    (cancel : (g : Gxid) → HasNamed w.steps w.coord.clock w.coord.rounds g → Q (Cancel g) (and_cancelled w g))
    (serve : (e : Event) (x : NodeEvent) (fails : Bool) (n : Node) → is_same_node n the_coordinator ≡ false → Comes w e n x → seg_can script (w.segs n.0) x ≡ true
    → Q (Turn e fails) (seg_did w n e (seg_rule script (w.segs n.0) x fails)))
  where
    pub moved-ways : (m : Move) → Q m (moved script w m)
    moved-ways (Turn e fails) =
        event-ways (coord_turn script) script w e fails (Q (Turn e fails)) (rest (Turn e fails)) (λ x c ok. turn e x fails c ok) (λ x n away c ok. serve e x fails n away c ok)
    moved-ways (Cancel g) = by_test (has_named w.steps w.coord.clock w.coord.rounds g) refl
      where
        by_test : (b : Bool) → has_named w.steps w.coord.clock w.coord.rounds g ≡ b → Q (Cancel g) (if b then and_cancelled w g else w)
        by_test true is = cancel g (named-is w.steps w.coord.clock w.coord.rounds g is)
        by_test false is = rest (Cancel g)

-- what each move keeps, all of them keep, and so does an event of the machine
pub all-keep : (script : Script) (P : World → Type 0) → ((m : Move) (w : World) → P w → P (moved script w m)) → (ms : List Move) (w : World) → P w → P (moved_by script w ms)
all-keep script P keeps [] w p = p
all-keep script P keeps (m ∷ ms) w p = all-keep script P keeps ms (moved script w m) (keeps m w p)

pub happens-keeps : (script : Script) (P : World → Type 0) → ((m : Move) (w : World) → P w → P (moved script w m)) → (w : World) (e : Event) (fails : Bool) → P w → P (happens script w e fails)
happens-keeps script P keeps w e fails p = subst P (sym (happens-moves script w e fails)) (all-keep script P keeps (moves_of script w e fails) w p)

-- THE MACHINE'S WORLDS
moved_by-append : (script : Script) (w : World) (xs ys : List Move) → moved_by script w (xs ++ ys) ≡ moved_by script (moved_by script w xs) ys
moved_by-append script w [] ys = refl
moved_by-append script w (x ∷ xs) ys = moved_by-append script (moved script w x) xs ys

abbrev pub moves_after : Script → World → List (Event × Bool) → List Move
moves_after script w [] = []
moves_after script w (e ∷ es) = moves_of script w e.0 e.1 ++ moves_after script (happens script w e.0 e.1) es

after-moves : (script : Script) (w : World) (es : List (Event × Bool)) → after script w es ≡ moved_by script w (moves_after script w es)
after-moves script w [] = refl
after-moves script w (e ∷ es) =
    after-moves script (happens script w e.0 e.1) es
    ∙ ap (λ v. moved_by script v (moves_after script (happens script w e.0 e.1) es)) (happens-moves script w e.0 e.1)
    ∙ sym (moved_by-append script w (moves_of script w e.0 e.1) (moves_after script (happens script w e.0 e.1) es))

-- each world of the machine is one that single moves lead to
pub world-moves : (script : Script) (es : List (Event × Bool)) → world_of script es ≡ world_by script (moves_after script new_world es)
world-moves script es = after-moves script new_world es

pub next-move : (script : Script) (ms : List Move) (m : Move) → world_by script (ms ++ m ∷ []) ≡ moved script (world_by script ms) m
next-move script ms m = moved_by-append script new_world ms (m ∷ [])
