-- Which EXECs are awaited.
use Rattle.std.proofs.Common.{◌≡◌, ◌⊎◌, List, [], ◌∷◌, Option, Some, None, Bool, true, false, refl, sym, subst, ap, ◌∙◌, if◌then◌else◌, arith, eqb}
use Rattle.gx_lemmas.proofs.Options.{some-same}
use Rattle.gx_ids.specs.declared.ids.Cid.{Cid}
use Rattle.gx_ids.specs.declared.ids.Gxid.{Gxid}
use Rattle.gx_ids.specs.declared.ids.Node.{Node}
use Rattle.gx_tree.specs.declared.stmt.Level.{Level}
use Rattle.gx_dtx.specs.Nodes.{has}
use Rattle.gx_dtx.specs.Orders.{message_of}
use Rattle.gx_dtx.specs.declared.order.Order.{Order}
use Rattle.gx_dtx.specs.declared.order.Order.TheVariants as order
use Rattle.gx_msg.specs.declared.message.Message.{Message}
use Rattle.gx_msg.specs.declared.message.Message.TheVariants as message
use Rattle.gx_msg.specs.declared.message.Out.{Out}
use Rattle.gx_store.specs.declared.mark.Mark.{Mark}
use Rattle.gx_store.specs.Marks.{is_aborted}
use Rattle.gx_rules.specs.AtCoordinator.{command_order, order_to, status_order}
use Rattle.gx_rules.specs.Coordinators.{Command, Coord, Work}
use Rattle.gx_law_order.proofs.Lists.{each_weaker}
use Rattle.gx_law_order.specs.Lists.{Each}
use Rattle.gx_law_order.specs.Alive.{HasAnswered}
use Rattle.gx_law_order.proofs.Outs.{IsBare, NoExec}

-- the work has a command of this number under way, at this level, whose answer from the node is awaited
pub record IsAwaited (w : Work) (c : Cid) (i : Node) (level : Level) : Type 0 where
  pub its : Command
  pub is : w.command ≡ Some its
  pub counted : its.cid ≡ c
  pub awaits : has i its.awaited ≡ true
  pub level_is : level ≡ w.level

-- or the node's answer to it is known, or the transaction has aborted
abbrev pub IsSettled : (Node → Message → Type 0) → List Mark → Gxid → Cid → Node → Type 0
IsSettled Heard marks g c i = HasAnswered Heard i g c ⊎ (is_aborted marks g ≡ true)

abbrev pub StateOf : Coord → (Node → Message → Type 0) → List Mark → Node → Message → Type 0
StateOf d Heard marks i (message.Exec g c level x h slice) = IsAwaited (d.works g.0) c i level ⊎ IsSettled Heard marks g c i
StateOf d Heard marks i _ = Unit {0}

-- what is sent is awaited
abbrev pub IsAwaitedOut : Coord → Node → Message → Type 0
IsAwaitedOut d i (message.Exec g c level x h slice) = IsAwaited (d.works g.0) c i level
IsAwaitedOut d i _ = Unit {0}

abbrev pub OutAwaits : Coord → Out → Type 0
OutAwaits d o = IsAwaitedOut d o.node o.message

bare-awaits : (d : Coord) (i : Node) (m : Message) → NoExec m → IsAwaitedOut d i m
bare-awaits d i (message.Exec g c l x h s) e = absurd e
bare-awaits d i (message.Prepare g) e = tt
bare-awaits d i (message.Commit g) e = tt
bare-awaits d i (message.CommitPrepared g) e = tt
bare-awaits d i (message.Abort g) e = tt
bare-awaits d i (message.Forget g) e = tt
bare-awaits d i (message.Collect round) e = tt
bare-awaits d i (message.Answer g r) e = tt
bare-awaits d i (message.Graph round graph) e = tt
bare-awaits d i message.Up e = tt

pub bare-all : (d : Coord) (outs : List Out) → Each IsBare outs → Each (OutAwaits d) outs
bare-all d outs e = each_weaker IsBare (OutAwaits d) (λ o h. bare-awaits d o.node o.message h) outs e

-- nothing is awaited
pub none-awaited : (w : Work) (c : Cid) (i : Node) (level : Level) → w.command ≡ None → IsAwaited w c i level → ⊥
none-awaited w c i level none a = differ (sym none ∙ a.is)
  where
    differ : (let o : Option Command = None in o) ≡ Some a.its → ⊥
    differ q = cc

pub all-answered : (w : Work) (m : Command) (c : Cid) (i : Node) (level : Level) → w.command ≡ Some m → m.awaited ≡ [] → IsAwaited w c i level → ⊥
all-answered w m c i level it none a = differ (sym (ap (has i) (ap (λ (z : Command). z.awaited) (some-same a.its m (sym a.is ∙ it)) ∙ none)) ∙ a.awaits)
  where
    differ : has i [] ≡ true → ⊥
    differ q = grind arith

-- THE ORDERS OF A COMMAND ARE ITS OWN
abbrev pub IsOwn : Gxid → Cid → Level → Message → Type 0
IsOwn g c level (message.Exec h d other x y slice) = (h ≡ g) × (d ≡ c) × (other ≡ level)
IsOwn g c level _ = Unit {0}

abbrev pub OwnIn : Gxid → Work → Type 0
OwnIn g w = (m : Command) → w.command ≡ Some m → Each (λ (o : Out). IsOwn g m.cid w.level o.message) m.orders

pub own-none : (g : Gxid) (w : Work) → w.command ≡ None → OwnIn g w
own-none g w none m e = absurd (differ (sym none ∙ e))
  where
    differ : (let o : Option Command = None in o) ≡ Some m → ⊥
    differ q = cc

-- what is sent again is awaited
order-awaits : (d : Coord) (g : Gxid) (i : Node) (m : Command) (told : Message) → (d.works g.0).command ≡ Some m → has i m.awaited ≡ true → (outs : List Out) → Each (λ (o : Out). IsOwn g m.cid (d.works g.0).level o.message) outs → order_to i outs ≡ Some told → IsAwaitedOut d i told
order-awaits d g i m told it waits [] e h = absurd (cc)
order-awaits d g i m told it waits (o ∷ outs) e h = by_test (eqb o.node.0 i.0) h (λ q. order-awaits d g i m told it waits outs e.1 q)
  where
    by_message : (t : Message) → IsOwn g m.cid (d.works g.0).level t → IsAwaitedOut d i t
    by_message (message.Exec h c level x y slice) f = record { its = m; is = ap (λ (z : Gxid). (d.works z.0).command) f.0 ∙ it; counted = sym f.1; awaits = waits; level_is = f.2 ∙ sym (ap (λ (z : Gxid). (d.works z.0).level) f.0) }
    by_message (message.Prepare h) f = tt
    by_message (message.Commit h) f = tt
    by_message (message.CommitPrepared h) f = tt
    by_message (message.Abort h) f = tt
    by_message (message.Forget h) f = tt
    by_message (message.Collect round) f = tt
    by_message (message.Answer h r) f = tt
    by_message (message.Graph round graph) f = tt
    by_message message.Up f = tt

    by_test : (q : Bool) → (if q then Some o.message else order_to i outs) ≡ Some told → (order_to i outs ≡ Some told → IsAwaitedOut d i told) → IsAwaitedOut d i told
    by_test true f r = subst (λ t. IsAwaitedOut d i t) (some-same o.message told f) (by_message o.message e.0)
    by_test false f r = r f

status-awaits : (d : Coord) (g : Gxid) (i : Node) (told : Message) (order : Option Order) → status_order g order ≡ Some told → IsAwaitedOut d i told
status-awaits d g i told None e = absurd (cc)
status-awaits d g i told (Some o) e = subst (λ m. IsAwaitedOut d i m) (some-same (message_of o g) told e) (by_order o)
  where
    by_order : (o : Order) → IsAwaitedOut d i (message_of o g)
    by_order order.Prepare = tt
    by_order order.Commit = tt
    by_order order.CommitPrepared = tt
    by_order order.Abort = tt
    by_order order.Forget = tt

pub resent-awaits : (d : Coord) (g : Gxid) (i : Node) (told : Message) (o : Option Command) (order : Option Order) → (d.works g.0).command ≡ o → OwnIn g (d.works g.0) → command_order o i (status_order g order) ≡ Some told → IsAwaitedOut d i told
resent-awaits d g i told None order it own e = status-awaits d g i told order e
resent-awaits d g i told (Some m) order it own e = by_test (has i m.awaited) refl e
  where
    by_test : (q : Bool) → has i m.awaited ≡ q → (if q then order_to i m.orders else status_order g order) ≡ Some told → IsAwaitedOut d i told
    by_test true h e = order-awaits d g i m told it h m.orders (own m it) e
    by_test false h e = status-awaits d g i told order e
