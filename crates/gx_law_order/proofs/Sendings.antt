-- What holds of every message that was sent.
use Rattle.std.proofs.Common.{◌≡◌, ◌≤◌, ◌⊎◌, inl, inr, ℕ, List, [], ◌∷◌, ◌++◌, Option, Some, None, Bool, true, false, refl, sym, subst, ap, ◌∙◌, if◌then◌else◌, ◌||◌, arith, eqb}
use Rattle.gx_lemmas.proofs.Options.{some-same}
use Rattle.gx_lemmas.proofs.Numbers.{one-le-none, one-le-zero}
use Rattle.gx_ids.specs.declared.ids.Cid.{Cid}
use Rattle.gx_ids.specs.declared.ids.Gxid.{Gxid}
use Rattle.gx_ids.specs.declared.ids.Node.{Node}
use Rattle.gx_tree.specs.declared.stmt.Level.{Level}
use Rattle.gx_dtx.specs.Nodes.{has}
use Rattle.gx_dtx.specs.Orders.{message_of}
use Rattle.gx_dtx.specs.declared.order.Order.{Order}
use Rattle.gx_dtx.specs.declared.order.Order.TheVariants as order
use Rattle.gx_msg.specs.declared.message.Message.{Message}
use Rattle.gx_msg.specs.declared.message.Message.TheVariants as message
use Rattle.gx_msg.specs.declared.message.Out.{Out}
use Rattle.gx_script.specs.declared.Script.{Script}
use Rattle.gx_store.specs.declared.mark.Mark.{Mark}
use Rattle.gx_store.specs.declared.mark.Mark.TheVariants as mark
use Rattle.gx_store.specs.declared.run.Step.{Step}
use Rattle.gx_store.specs.Marks.{is_aborted}
use Rattle.gx_store.specs.Points.{marks_in}
use Rattle.gx_store.specs.Refusals.{the_coordinator}
use Rattle.gx_rules.specs.AtCoordinator.{command_order, order_to, status_order}
use Rattle.gx_rules.specs.Coordinators.{Command, Coord}
use Rattle.gx_rules.specs.Machine.{Letter, posted}
use Rattle.gx_rules.specs.Sending.{counted, numbered}
use Rattle.gx_law_order.proofs.AtSegments.{PlainAt}
use Rattle.gx_law_order.proofs.Letters.{same_node}
use Rattle.gx_law_order.specs.Lists.{Each}
use Rattle.gx_law_order.proofs.Past.{aborted-append}
use Rattle.gx_law_order.proofs.Sent.{at}
use Rattle.gx_law_order.specs.Orders.{AreOrders}
use Rattle.gx_store.specs.Language.{AreLinesNumbered}
use Rattle.gx_law_order.proofs.Awaited.{IsAwaited, IsAwaitedOut, IsSettled, OutAwaits, StateOf}
use Rattle.gx_law_order.proofs.OrderAnswers.{IsNoted}
use Rattle.gx_law_order.specs.Alive.{IsHeard}
use Rattle.gx_law_order.proofs.Outs.{CommandIs, MessageIs, OutIs}

-- LETTERS
-- what is sent is so
abbrev pub SentIs : (Letter → Type 0) → Node → ℕ → Mark → Type 0
SentIs P from clock (mark.Sent to number told) = P (record { from = from; to = to; envelope = record { number = number; clock = clock; incarnation = 1; message = told } })
SentIs P from clock _ = Unit {0}

pub each-posted : (P : Letter → Type 0) (from : Node) (clock : ℕ) (ms : List Mark) (sent : List Letter) → Each (SentIs P from clock) ms → Each P sent → Each P (posted from clock ms sent)
each-posted P from clock [] sent e h = h
each-posted P from clock (mark.Sent to number told ∷ ms) sent e h = each-posted P from clock ms _ e.1 (e.0, h)
each-posted P from clock (m ∷ ms) sent e h = each-posted P from clock ms sent e.1 h

pub plain-sent : (P : Letter → Type 0) (script : Script) (node : Node) (clock : ℕ) (ms : List Mark) → Each (PlainAt script node) ms → Each (SentIs P node clock) ms
plain-sent P script node clock [] e = tt
plain-sent P script node clock (mark.Sent to number told ∷ ms) e = absurd e.0
plain-sent P script node clock (m ∷ ms) e = (tt, plain-sent P script node clock ms e.1)

pub numbered-sent : (P : Letter → Type 0) (from : Node) (clock : ℕ) (f : ℕ → ℕ) (outs : List Out) → Each (λ (o : Out). (number : ℕ) → P (record { from = from; to = o.node; envelope = record { number = number; clock = clock; incarnation = 1; message = o.message } })) outs → Each (SentIs P from clock) (numbered f outs)
numbered-sent P from clock f [] e = tt
numbered-sent P from clock f (o ∷ outs) e = (e.0 _, numbered-sent P from clock (counted f o) outs e.1)

abbrev pub IsToldOf : List Mark → Letter → Type 0
IsToldOf marks l = 1 ≤ l.from.0 → IsNoted marks l.from l.envelope.message

pub coord-sent : (marks : List Mark) (clock : ℕ) (ms : List Mark) → Each (SentIs (IsToldOf marks) the_coordinator clock) ms
coord-sent marks clock [] = tt
coord-sent marks clock (mark.Sent to number told ∷ ms) = (λ l. absurd (one-le-none l), coord-sent marks clock ms)
coord-sent marks clock (m ∷ ms) = (tt, coord-sent marks clock ms)

pub le-same : (a : ℕ) → a ≤ a
le-same a = omega arith

-- what the coordinator sent is an order
abbrev pub IsOrderLetter : Script → List Mark → Letter → Type 0
IsOrderLetter script marks l = l.from ≡ the_coordinator → MessageIs script marks l.to l.envelope.message

-- whether the command of an EXEC is awaited, answered or aborted
abbrev pub LetterState : Coord → List Step → Letter → Type 0
LetterState c steps l = l.from ≡ the_coordinator → StateOf c (IsHeard steps) (marks_in steps) l.to l.envelope.message

pub state-moves : (c d : Coord) (H K : Node → Message → Type 0) (ms ns : List Mark) (i : Node) (m : Message) → ((g : Gxid) (k : Cid) (level : Level) → IsAwaited (c.works g.0) k i level → IsAwaited (d.works g.0) k i level ⊎ IsSettled K (ms ++ ns) g k i) → ((n : Node) (t : Message) → H n t → K n t) → StateOf c H ms i m → StateOf d K (ms ++ ns) i m
state-moves c d H K ms ns i (message.Exec g k level x h slice) f later (inl a) = f g k level a
state-moves c d H K ms ns i (message.Exec g k level x h slice) f later (inr (inl a)) = inr (inl (a.0, (a.1.0, (a.1.1.0, later i _ a.1.1.1))))
state-moves c d H K ms ns i (message.Exec g k level x h slice) f later (inr (inr a)) = inr (inr (aborted-append ms ns g ∙ ap (λ q. q || is_aborted ns g) a))
state-moves c d H K ms ns i (message.Prepare g) f later a = tt
state-moves c d H K ms ns i (message.Commit g) f later a = tt
state-moves c d H K ms ns i (message.CommitPrepared g) f later a = tt
state-moves c d H K ms ns i (message.Abort g) f later a = tt
state-moves c d H K ms ns i (message.Forget g) f later a = tt
state-moves c d H K ms ns i (message.Collect round) f later a = tt
state-moves c d H K ms ns i (message.Answer g r) f later a = tt
state-moves c d H K ms ns i (message.Graph round graph) f later a = tt
state-moves c d H K ms ns i message.Up f later a = tt

pub awaited-state : (d : Coord) (H : Node → Message → Type 0) (marks : List Mark) (i : Node) (m : Message) → IsAwaitedOut d i m → StateOf d H marks i m
awaited-state d H marks i (message.Exec g k level x h slice) a = inl a
awaited-state d H marks i (message.Prepare g) a = tt
awaited-state d H marks i (message.Commit g) a = tt
awaited-state d H marks i (message.CommitPrepared g) a = tt
awaited-state d H marks i (message.Abort g) a = tt
awaited-state d H marks i (message.Forget g) a = tt
awaited-state d H marks i (message.Collect round) a = tt
awaited-state d H marks i (message.Answer g r) a = tt
awaited-state d H marks i (message.Graph round graph) a = tt
awaited-state d H marks i message.Up a = tt

pub awaited-by : (c d : Coord) → ((j : ℕ) → d.works j ≡ c.works j) → (i : Node) (m : Message) → IsAwaitedOut c i m → IsAwaitedOut d i m
awaited-by c d same i (message.Exec g k level x h slice) a = subst (λ v. IsAwaited v k i level) (sym (same g.0)) a
awaited-by c d same i (message.Prepare g) a = tt
awaited-by c d same i (message.Commit g) a = tt
awaited-by c d same i (message.CommitPrepared g) a = tt
awaited-by c d same i (message.Abort g) a = tt
awaited-by c d same i (message.Forget g) a = tt
awaited-by c d same i (message.Collect round) a = tt
awaited-by c d same i (message.Answer g r) a = tt
awaited-by c d same i (message.Graph round graph) a = tt
awaited-by c d same i message.Up a = tt

pub states-sent : (d : Coord) (steps : List Step) (clock : ℕ) (outs : List Out) → Each (OutAwaits d) outs → Each (λ (o : Out). (number : ℕ) → LetterState d steps (record { from = the_coordinator; to = o.node; envelope = record { number = number; clock = clock; incarnation = 1; message = o.message } })) outs
states-sent d steps clock [] e = tt
states-sent d steps clock (o ∷ outs) e = (λ number same. awaited-state d (IsHeard steps) (marks_in steps) o.node o.message e.0, states-sent d steps clock outs e.1)

-- what a segment sends isn't the coordinator's
pub away-all : (P : Letter → Type 0) (i clock : ℕ) → 1 ≤ i → (ms : List Mark) → Each (SentIs (λ l. l.from ≡ the_coordinator → P l) (at i) clock) ms
away-all P i clock one [] = tt
away-all P i clock one (mark.Sent to number told ∷ ms) = (λ same. absurd (one-le-zero i one (ap (λ (n : Node). n.0) same)), away-all P i clock one ms)
away-all P i clock one (m ∷ ms) = (tt, away-all P i clock one ms)

pub outs-sent : (script : Script) (marks : List Mark) (clock : ℕ) (outs : List Out) → Each (OutIs script marks) outs → Each (λ (o : Out). (number : ℕ) → IsOrderLetter script marks (record { from = the_coordinator; to = o.node; envelope = record { number = number; clock = clock; incarnation = 1; message = o.message } })) outs
outs-sent script marks clock [] e = tt
outs-sent script marks clock (o ∷ outs) e = (λ number same. e.0, outs-sent script marks clock outs e.1)

-- what is sent again was sent for the command, or is for the status
pub order-to-is : (script : Script) (marks : List Mark) (i : Node) (told : Message) (outs : List Out) → Each (OutIs script marks) outs → order_to i outs ≡ Some told → MessageIs script marks i told
order-to-is script marks i told [] e h = absurd (cc)
order-to-is script marks i told (o ∷ outs) e h = by_test (eqb o.node.0 i.0) refl h (λ q. order-to-is script marks i told outs e.1 q)
  where
    here : o.node ≡ i → o.message ≡ told → MessageIs script marks i told
    here a b = subst (λ n. MessageIs script marks n told) a (subst (λ m. MessageIs script marks o.node m) b e.0)

    by_test : (q : Bool) → eqb o.node.0 i.0 ≡ q → (if q then Some o.message else order_to i outs) ≡ Some told → (order_to i outs ≡ Some told → MessageIs script marks i told) → MessageIs script marks i told
    by_test true q f r = here (same_node o.node i q) (some-same o.message told f)
    by_test false q f r = r f

pub status-order-is : (script : Script) (marks : List Mark) (i : Node) (g : Gxid) (told : Message) (order : Option Order) → status_order g order ≡ Some told → MessageIs script marks i told
status-order-is script marks i g told None e = absurd (cc)
status-order-is script marks i g told (Some o) e = subst (λ m. MessageIs script marks i m) (some-same (message_of o g) told e) (by_order o)
  where
    by_order : (o : Order) → MessageIs script marks i (message_of o g)
    by_order order.Prepare n = tt
    by_order order.Commit n = tt
    by_order order.CommitPrepared n = tt
    by_order order.Abort n = tt
    by_order order.Forget n = tt

pub command-order-is : (script : Script) (marks : List Mark) (i : Node) (g : Gxid) (told : Message) (o : Option Command) (order : Option Order) → CommandIs script marks o → command_order o i (status_order g order) ≡ Some told → MessageIs script marks i told
command-order-is script marks i g told None order c e = status-order-is script marks i g told order e
command-order-is script marks i g told (Some m) order c e = by_test (has i m.awaited) e
  where
    by_test : (q : Bool) → (if q then order_to i m.orders else status_order g order) ≡ Some told → MessageIs script marks i told
    by_test true e = order-to-is script marks i told m.orders c e
    by_test false e = status-order-is script marks i g told order e

pub orders-all : (script : Script) (marks : List Mark) (ls : List Letter) → AreLinesNumbered [] script.lines → Each (IsOrderLetter script marks) ls → AreOrders script marks ls
orders-all script marks [] n e = tt
orders-all script marks (l ∷ ls) n e = (λ same. e.0 same n, orders-all script marks ls n e.1)
