-- Which replies answer which messages.
use Rattle.std.proofs.Common.{◌≡◌, ℕ, Option, Some, None, Bool, true, false, refl, ap, ◌∙◌, if◌then◌else◌, ◌&&◌, eqb}
use Rattle.gx_lemmas.proofs.Tests.{and-false, and-true}
use Rattle.gx_lemmas.proofs.Numbers.{eqb-self, eqb-turned}
use Rattle.gx_ids.specs.declared.ids.Cid.{Cid}
use Rattle.gx_ids.specs.declared.ids.Gxid.{Gxid}
use Rattle.gx_ids.specs.declared.ids.Node.{Node}
use Rattle.gx_dtx.specs.Nodes.{has}
use Rattle.gx_dtx.specs.Orders.{message_of}
use Rattle.gx_dtx.specs.Rules.{awaits_found, is_awaited as is_awaited_in, order_found, order_in}
use Rattle.gx_dtx.specs.declared.order.Order.{Order}
use Rattle.gx_dtx.specs.declared.order.Order.TheVariants as order
use Rattle.gx_dtx.specs.declared.phase.Phase.{Phase}
use Rattle.gx_dtx.specs.declared.phase.Phase.TheVariants.{Active, Preparing, CommittingOne, CommittingTwo, Ended, Aborting}
use Rattle.gx_dtx.specs.declared.txn.Txn.{Txn}
use Rattle.gx_msg.specs.declared.message.Message.{Message}
use Rattle.gx_msg.specs.declared.message.Message.TheVariants as message
use Rattle.gx_msg.specs.declared.reply.Reply.{Reply}
use Rattle.gx_msg.specs.declared.reply.Reply.TheVariants as reply
use Rattle.gx_store.specs.declared.node.NodeEvent.{NodeEvent}
use Rattle.gx_store.specs.declared.node.NodeEvent.TheVariants as event
use Rattle.gx_store.specs.Journals.{is_same_node}
use Rattle.gx_store.specs.Schedule.{is_answer_to, is_reply_to}
use Rattle.gx_rules.specs.AtCoordinator.{status_order}
use Rattle.gx_law_order.specs.Standings.{gx}
use Rattle.gx_law_runs.proofs.Neat.{IsExecOf}

-- what a message leaves of what was asked
abbrev pub left_by : Node → Gxid → Option Message → NodeEvent → Option Message
left_by i g asked (event.Deliver from envelope) = if is_same_node from i && is_answer_to asked g (Some envelope.message) then None else asked
left_by i g asked _ = asked

-- NO ANSWER
pub unanswered : (i from : Node) (asked : Option Message) (b : Bool) → b ≡ false → (if is_same_node from i && b then None else asked) ≡ asked
unanswered i from asked b e = plain (is_same_node from i) b e
  where
    plain : (a b : Bool) → b ≡ false → (if a && b then None else asked) ≡ asked
    plain true b e = ap (λ (b : Bool). if b then None else asked) e
    plain false b e = refl

abbrev pub IsNoAnswer : Message → Type 0
IsNoAnswer (message.Answer g r) = ⊥
IsNoAnswer _ = Unit {0}

pub no-answer : (asked : Option Message) (g : Gxid) (m : Message) → IsNoAnswer m → is_answer_to asked g (Some m) ≡ false
no-answer None g m e = refl
no-answer (Some a) g (message.Answer h r) e = absurd e
no-answer (Some a) g (message.Exec h c l x y s) e = refl
no-answer (Some a) g (message.Prepare h) e = refl
no-answer (Some a) g (message.Commit h) e = refl
no-answer (Some a) g (message.CommitPrepared h) e = refl
no-answer (Some a) g (message.Abort h) e = refl
no-answer (Some a) g (message.Forget h) e = refl
no-answer (Some a) g (message.Collect round) e = refl
no-answer (Some a) g (message.Graph round graph) e = refl
no-answer (Some a) g message.Up e = refl

-- an answer about another transaction
pub answer-other : (asked : Option Message) (g h : ℕ) (r : Reply) → eqb h g ≡ false → is_answer_to asked (gx h) (Some (message.Answer (gx g) r)) ≡ false
answer-other None g h r e = refl
answer-other (Some a) g h r e = ap (λ b. b && is_reply_to a r) (eqb-turned h g e)

own-answer : (a : Message) (g : ℕ) (r : Reply) → is_answer_to (Some a) (gx g) (Some (message.Answer (gx g) r)) ≡ is_reply_to a r
own-answer a g r = ap (λ b. b && is_reply_to a r) (eqb-self g)

-- ANSWERS TO ORDERS
-- how the reply meets each order
abbrev pub IsReplyFor : Order → Reply → Bool
IsReplyFor o r = is_reply_to (message_of o (gx 0)) r

same-reply : (o : Order) (g : ℕ) (r : Reply) → is_reply_to (message_of o (gx g)) r ≡ IsReplyFor o r
same-reply order.Prepare g r = by r
  where
    by : (r : Reply) → is_reply_to (message.Prepare (gx g)) r ≡ is_reply_to (message.Prepare (gx 0)) r
    by (reply.Done c w n p) = refl
    by (reply.Failed c x) = refl
    by reply.Prepared = refl
    by reply.Committed = refl
    by reply.Jfault = refl
    by reply.Again = refl
    by reply.Restarted = refl
    by reply.Aborted = refl
    by reply.Forgotten = refl
same-reply order.Commit g r = by r
  where
    by : (r : Reply) → is_reply_to (message.Commit (gx g)) r ≡ is_reply_to (message.Commit (gx 0)) r
    by (reply.Done c w n p) = refl
    by (reply.Failed c x) = refl
    by reply.Prepared = refl
    by reply.Committed = refl
    by reply.Jfault = refl
    by reply.Again = refl
    by reply.Restarted = refl
    by reply.Aborted = refl
    by reply.Forgotten = refl
same-reply order.CommitPrepared g r = by r
  where
    by : (r : Reply) → is_reply_to (message.CommitPrepared (gx g)) r ≡ is_reply_to (message.CommitPrepared (gx 0)) r
    by (reply.Done c w n p) = refl
    by (reply.Failed c x) = refl
    by reply.Prepared = refl
    by reply.Committed = refl
    by reply.Jfault = refl
    by reply.Again = refl
    by reply.Restarted = refl
    by reply.Aborted = refl
    by reply.Forgotten = refl
same-reply order.Abort g r = by r
  where
    by : (r : Reply) → is_reply_to (message.Abort (gx g)) r ≡ is_reply_to (message.Abort (gx 0)) r
    by (reply.Done c w n p) = refl
    by (reply.Failed c x) = refl
    by reply.Prepared = refl
    by reply.Committed = refl
    by reply.Jfault = refl
    by reply.Again = refl
    by reply.Restarted = refl
    by reply.Aborted = refl
    by reply.Forgotten = refl
same-reply order.Forget g r = by r
  where
    by : (r : Reply) → is_reply_to (message.Forget (gx g)) r ≡ is_reply_to (message.Forget (gx 0)) r
    by (reply.Done c w n p) = refl
    by (reply.Failed c x) = refl
    by reply.Prepared = refl
    by reply.Committed = refl
    by reply.Jfault = refl
    by reply.Again = refl
    by reply.Restarted = refl
    by reply.Aborted = refl
    by reply.Forgotten = refl

-- an order that is awaited by a test
answer-if : (b : Bool) (o : Order) (g : ℕ) (r : Reply) → is_answer_to (status_order (gx g) (if b then Some o else None)) (gx g) (Some (message.Answer (gx g) r)) ≡ (b && IsReplyFor o r)
answer-if true o g r = own-answer (message_of o (gx g)) g r ∙ same-reply o g r
answer-if false o g r = refl

-- the status awaits the reply where it is one to the order
abbrev pub IsAboutStatus : Reply → Type 0
IsAboutStatus (reply.Done c w n p) = ⊥
IsAboutStatus (reply.Failed c x) = ⊥
IsAboutStatus _ = Unit {0}

phase-alike : (p : Phase) (j : Node) (g : ℕ) (r : Reply) → IsAboutStatus r → is_answer_to (status_order (gx g) (order_in p j)) (gx g) (Some (message.Answer (gx g) r)) ≡ is_awaited_in p j r
phase-alike p j g (reply.Done c w n q) e = absurd e
phase-alike p j g (reply.Failed c x) e = absurd e
phase-alike Active j g reply.Prepared e = refl
phase-alike Active j g reply.Committed e = refl
phase-alike Active j g reply.Jfault e = refl
phase-alike Active j g reply.Again e = refl
phase-alike Active j g reply.Restarted e = refl
phase-alike Active j g reply.Aborted e = refl
phase-alike Active j g reply.Forgotten e = refl
phase-alike (Preparing ws aw) j g reply.Prepared e = answer-if (has j aw) order.Prepare g reply.Prepared ∙ and-true (has j aw)
phase-alike (Preparing ws aw) j g reply.Jfault e = answer-if (has j aw) order.Prepare g reply.Jfault ∙ and-true (has j aw)
phase-alike (Preparing ws aw) j g reply.Committed e = answer-if (has j aw) order.Prepare g reply.Committed ∙ and-false (has j aw)
phase-alike (Preparing ws aw) j g reply.Again e = answer-if (has j aw) order.Prepare g reply.Again ∙ and-false (has j aw)
phase-alike (Preparing ws aw) j g reply.Restarted e = answer-if (has j aw) order.Prepare g reply.Restarted ∙ and-false (has j aw)
phase-alike (Preparing ws aw) j g reply.Aborted e = answer-if (has j aw) order.Prepare g reply.Aborted ∙ and-false (has j aw)
phase-alike (Preparing ws aw) j g reply.Forgotten e = answer-if (has j aw) order.Prepare g reply.Forgotten ∙ and-false (has j aw)
phase-alike (CommittingOne w) j g reply.Committed e = answer-if (eqb w.0 j.0) order.Commit g reply.Committed ∙ and-true (eqb w.0 j.0)
phase-alike (CommittingOne w) j g reply.Jfault e = answer-if (eqb w.0 j.0) order.Commit g reply.Jfault ∙ and-true (eqb w.0 j.0)
phase-alike (CommittingOne w) j g reply.Prepared e = answer-if (eqb w.0 j.0) order.Commit g reply.Prepared ∙ and-false (eqb w.0 j.0)
phase-alike (CommittingOne w) j g reply.Again e = answer-if (eqb w.0 j.0) order.Commit g reply.Again ∙ and-false (eqb w.0 j.0)
phase-alike (CommittingOne w) j g reply.Restarted e = answer-if (eqb w.0 j.0) order.Commit g reply.Restarted ∙ and-false (eqb w.0 j.0)
phase-alike (CommittingOne w) j g reply.Aborted e = answer-if (eqb w.0 j.0) order.Commit g reply.Aborted ∙ and-false (eqb w.0 j.0)
phase-alike (CommittingOne w) j g reply.Forgotten e = answer-if (eqb w.0 j.0) order.Commit g reply.Forgotten ∙ and-false (eqb w.0 j.0)
phase-alike (CommittingTwo aw) j g reply.Committed e = answer-if (has j aw) order.CommitPrepared g reply.Committed ∙ and-true (has j aw)
phase-alike (CommittingTwo aw) j g reply.Prepared e = answer-if (has j aw) order.CommitPrepared g reply.Prepared ∙ and-false (has j aw)
phase-alike (CommittingTwo aw) j g reply.Jfault e = answer-if (has j aw) order.CommitPrepared g reply.Jfault ∙ and-false (has j aw)
phase-alike (CommittingTwo aw) j g reply.Again e = answer-if (has j aw) order.CommitPrepared g reply.Again ∙ and-false (has j aw)
phase-alike (CommittingTwo aw) j g reply.Restarted e = answer-if (has j aw) order.CommitPrepared g reply.Restarted ∙ and-false (has j aw)
phase-alike (CommittingTwo aw) j g reply.Aborted e = answer-if (has j aw) order.CommitPrepared g reply.Aborted ∙ and-false (has j aw)
phase-alike (CommittingTwo aw) j g reply.Forgotten e = answer-if (has j aw) order.CommitPrepared g reply.Forgotten ∙ and-false (has j aw)
phase-alike (Ended aw) j g reply.Forgotten e = answer-if (has j aw) order.Forget g reply.Forgotten ∙ and-true (has j aw)
phase-alike (Ended aw) j g reply.Prepared e = answer-if (has j aw) order.Forget g reply.Prepared ∙ and-false (has j aw)
phase-alike (Ended aw) j g reply.Committed e = answer-if (has j aw) order.Forget g reply.Committed ∙ and-false (has j aw)
phase-alike (Ended aw) j g reply.Jfault e = answer-if (has j aw) order.Forget g reply.Jfault ∙ and-false (has j aw)
phase-alike (Ended aw) j g reply.Again e = answer-if (has j aw) order.Forget g reply.Again ∙ and-false (has j aw)
phase-alike (Ended aw) j g reply.Restarted e = answer-if (has j aw) order.Forget g reply.Restarted ∙ and-false (has j aw)
phase-alike (Ended aw) j g reply.Aborted e = answer-if (has j aw) order.Forget g reply.Aborted ∙ and-false (has j aw)
phase-alike (Aborting aw) j g reply.Aborted e = answer-if (has j aw) order.Abort g reply.Aborted ∙ and-true (has j aw)
phase-alike (Aborting aw) j g reply.Prepared e = answer-if (has j aw) order.Abort g reply.Prepared ∙ and-false (has j aw)
phase-alike (Aborting aw) j g reply.Committed e = answer-if (has j aw) order.Abort g reply.Committed ∙ and-false (has j aw)
phase-alike (Aborting aw) j g reply.Jfault e = answer-if (has j aw) order.Abort g reply.Jfault ∙ and-false (has j aw)
phase-alike (Aborting aw) j g reply.Again e = answer-if (has j aw) order.Abort g reply.Again ∙ and-false (has j aw)
phase-alike (Aborting aw) j g reply.Restarted e = answer-if (has j aw) order.Abort g reply.Restarted ∙ and-false (has j aw)
phase-alike (Aborting aw) j g reply.Forgotten e = answer-if (has j aw) order.Abort g reply.Forgotten ∙ and-false (has j aw)

pub status-alike : (t : Option Txn) (j : Node) (g : ℕ) (r : Reply) → IsAboutStatus r → is_answer_to (status_order (gx g) (order_found j t)) (gx g) (Some (message.Answer (gx g) r)) ≡ awaits_found j r t
status-alike None j g r e = refl
status-alike (Some t) j g r e = phase-alike t.phase j g r e

-- an EXEC isn't answered by a reply about the status, nor an order by one to a command
pub exec-no-status : (a : Option Message) (g : ℕ) (c : Cid) (r : Reply) → IsExecOf g c a → IsAboutStatus r → is_answer_to a (gx g) (Some (message.Answer (gx g) r)) ≡ false
exec-no-status None g c r e f = absurd e
exec-no-status (Some (message.Exec h d l x y s)) g c r e f = own-answer (message.Exec h d l x y s) g r ∙ none r f
  where
    none : (r : Reply) → IsAboutStatus r → is_reply_to (message.Exec h d l x y s) r ≡ false
    none (reply.Done c w n p) f = absurd f
    none (reply.Failed c x) f = absurd f
    none reply.Prepared f = refl
    none reply.Committed f = refl
    none reply.Jfault f = refl
    none reply.Again f = refl
    none reply.Restarted f = refl
    none reply.Aborted f = refl
    none reply.Forgotten f = refl
exec-no-status (Some (message.Prepare h)) g c r e f = absurd e
exec-no-status (Some (message.Commit h)) g c r e f = absurd e
exec-no-status (Some (message.CommitPrepared h)) g c r e f = absurd e
exec-no-status (Some (message.Abort h)) g c r e f = absurd e
exec-no-status (Some (message.Forget h)) g c r e f = absurd e
exec-no-status (Some (message.Collect h)) g c r e f = absurd e
exec-no-status (Some (message.Answer h x)) g c r e f = absurd e
exec-no-status (Some (message.Graph h x)) g c r e f = absurd e
exec-no-status (Some message.Up) g c r e f = absurd e

-- a reply to the command of this number
abbrev pub IsOfCommand : Cid → Reply → Type 0
IsOfCommand c (reply.Done d w n p) = d ≡ c
IsOfCommand c (reply.Failed d x) = d ≡ c
IsOfCommand c _ = ⊥

pub order-no-command : (o : Option Order) (g : ℕ) (cid : Cid) (r : Reply) → IsOfCommand cid r → is_answer_to (status_order (gx g) o) (gx g) (Some (message.Answer (gx g) r)) ≡ false
order-no-command None g cid r e = refl
order-no-command (Some o) g cid r e = own-answer (message_of o (gx g)) g r ∙ by o r e
  where
    by : (o : Order) (r : Reply) → IsOfCommand cid r → is_reply_to (message_of o (gx g)) r ≡ false
    by order.Prepare (reply.Done d w n p) e = refl
    by order.Prepare (reply.Failed d x) e = refl
    by order.Commit (reply.Done d w n p) e = refl
    by order.Commit (reply.Failed d x) e = refl
    by order.CommitPrepared (reply.Done d w n p) e = refl
    by order.CommitPrepared (reply.Failed d x) e = refl
    by order.Abort (reply.Done d w n p) e = refl
    by order.Abort (reply.Failed d x) e = refl
    by order.Forget (reply.Done d w n p) e = refl
    by order.Forget (reply.Failed d x) e = refl
    by o reply.Prepared e = absurd e
    by o reply.Committed e = absurd e
    by o reply.Jfault e = absurd e
    by o reply.Again e = absurd e
    by o reply.Restarted e = absurd e
    by o reply.Aborted e = absurd e
    by o reply.Forgotten e = absurd e

pub exec-command : (a : Option Message) (g : ℕ) (c cid : Cid) (r : Reply) → IsExecOf g c a → IsOfCommand cid r → is_answer_to a (gx g) (Some (message.Answer (gx g) r)) ≡ eqb cid.0 c.0
exec-command None g c cid r e f = absurd e
exec-command (Some (message.Exec h d l x y s)) g c cid r e f = own-answer (message.Exec h d l x y s) g r ∙ by r f ∙ ap (λ (z : Cid). eqb cid.0 z.0) e.1
  where
    by : (r : Reply) → IsOfCommand cid r → is_reply_to (message.Exec h d l x y s) r ≡ eqb cid.0 d.0
    by (reply.Done z w n p) f = ap (λ (z : Cid). eqb z.0 d.0) f
    by (reply.Failed z x) f = ap (λ (z : Cid). eqb z.0 d.0) f
    by reply.Prepared f = absurd f
    by reply.Committed f = absurd f
    by reply.Jfault f = absurd f
    by reply.Again f = absurd f
    by reply.Restarted f = absurd f
    by reply.Aborted f = absurd f
    by reply.Forgotten f = absurd f
exec-command (Some (message.Prepare h)) g c cid r e f = absurd e
exec-command (Some (message.Commit h)) g c cid r e f = absurd e
exec-command (Some (message.CommitPrepared h)) g c cid r e f = absurd e
exec-command (Some (message.Abort h)) g c cid r e f = absurd e
exec-command (Some (message.Forget h)) g c cid r e f = absurd e
exec-command (Some (message.Collect h)) g c cid r e f = absurd e
exec-command (Some (message.Answer h x)) g c cid r e f = absurd e
exec-command (Some (message.Graph h x)) g c cid r e f = absurd e
exec-command (Some message.Up) g c cid r e f = absurd e
