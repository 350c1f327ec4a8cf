-- What is awaited of a transaction's nodes, and how a call on its status changes that with what it sends.
use Rattle.std.proofs.Common.{◌≡◌, ◌≤◌, ℕ, List, [], ◌∷◌, Option, Some, None, Bool, true, false, refl, sym, subst, ap, ◌∙◌, if◌then◌else◌, ◌&&◌, ◌||◌, arith, eqb}
use Rattle.std.proofs.lemmas.Bool.{eqb-true}
use Rattle.std.proofs.lemmas.Bool.Decides.{nat_tests}
use Rattle.gx_lemmas.proofs.Numbers.{eqb-self, eqb-turned}
use Rattle.gx_lemmas.proofs.Tests.{true-false}
use Rattle.gx_ids.specs.declared.ids.Cid.{Cid}
use Rattle.gx_ids.specs.declared.ids.Gxid.{Gxid}
use Rattle.gx_ids.specs.declared.ids.Node.{Node}
use Rattle.gx_dtx.specs.Nodes.{has, to_each, without}
use Rattle.gx_dtx.specs.Rules.{abort_found, aborts, awaits_found, commit_found, commits, decides, ends_committed, finishes, forgets, gives_up, goes_to, is_awaited, leaves, order_found, order_in, prepares, refuses, reply_found, stays, takes}
use Rattle.gx_dtx.specs.Table.{participants_in}
use Rattle.gx_dtx.specs.declared.change.Change.{Change}
use Rattle.gx_dtx.specs.declared.order.Order.TheVariants as order
use Rattle.gx_dtx.specs.declared.outcome.Outcome.{Outcome}
use Rattle.gx_dtx.specs.declared.outcome.Outcome.TheVariants as outcome
use Rattle.gx_dtx.specs.declared.phase.Phase.{Phase}
use Rattle.gx_dtx.specs.declared.phase.Phase.TheVariants.{Active, Preparing, CommittingOne, CommittingTwo, Ended, Aborting}
use Rattle.gx_dtx.specs.declared.txn.Txn.{Txn}
use Rattle.gx_msg.specs.declared.message.Message.{Message}
use Rattle.gx_msg.specs.declared.message.Message.TheVariants as message
use Rattle.gx_msg.specs.declared.message.Out.{Out}
use Rattle.gx_msg.specs.declared.reply.Reply.{Reply}
use Rattle.gx_msg.specs.declared.reply.Reply.TheVariants as reply
use Rattle.gx_store.specs.Schedule.{is_about}
use Rattle.gx_rules.specs.AtCoordinator.{command_order, order_to, status_order}
use Rattle.gx_rules.specs.Coordinators.{Command, Work}
use Rattle.gx_law_order.specs.Lists.{Each}
use Rattle.gx_law_order.proofs.Stages.{left_of}
use Rattle.gx_law_order.specs.Standings.{gx}
use Rattle.gx_law_order.proofs.Nodes.{AreApart, has-without}
use Rattle.gx_law_runs.proofs.Told.{sends, sends-each, told-each, told_by}

-- the message that is awaited of a node
abbrev pub waiting : Option Command → Option Txn → Gxid → Node → Option Message
waiting m t g i = command_order m i (status_order g (order_found i t))

-- WHAT KEEPS IT SO
-- who is awaited takes part
abbrev pub NeatPhase : List Node → List Node → Phase → Type 0
NeatPhase ws ps Active = (i : Node) → has i ws ≡ true → has i ps ≡ true
NeatPhase ws ps (Preparing xs aw) = AreApart xs × ((i : Node) → has i xs ≡ true → has i ps ≡ true) × ((i : Node) → has i aw ≡ true → has i xs ≡ true)
NeatPhase ws ps (CommittingOne x) = has x ps ≡ true
NeatPhase ws ps (CommittingTwo aw) = (i : Node) → has i aw ≡ true → has i ps ≡ true
NeatPhase ws ps (Ended aw) = (i : Node) → has i aw ≡ true → has i ps ≡ true
NeatPhase ws ps (Aborting aw) = (i : Node) → has i aw ≡ true → has i ps ≡ true

abbrev pub NeatTxn : List Node → Option Txn → Type 0
NeatTxn ws None = Unit {0}
NeatTxn ws (Some t) = AreApart t.participants × NeatPhase ws t.participants t.phase

abbrev pub IsExecOf : ℕ → Cid → Option Message → Type 0
IsExecOf g c (Some (message.Exec h d level snapshot horizon slice)) = (h.0 ≡ g) × (d ≡ c)
IsExecOf g c _ = ⊥

abbrev pub NeatCommand : ℕ → List Node → Option Command → Type 0
NeatCommand g ps None = Unit {0}
NeatCommand g ps (Some m) = (i : Node) → has i m.awaited ≡ true → (has i ps ≡ true) × IsExecOf g m.cid (order_to i m.orders)

pub record Neat (g : ℕ) (w : Work) (t : Option Txn) : Type 0 where
  pub writers : AreApart w.writers
  pub txn : NeatTxn w.writers t
  pub command : NeatCommand g (participants_in t) w.command

pub clash : {A : Type 0} (b : Bool) → b ≡ true → b ≡ false → A
clash b e f = absurd (true-false b e f)

-- with fewer writers
phase-less : (ws vs ps : List Node) (p : Phase) → ((i : Node) → has i vs ≡ true → has i ws ≡ true) → NeatPhase ws ps p → NeatPhase vs ps p
phase-less ws vs ps Active f n = λ i e. n i (f i e)
phase-less ws vs ps (Preparing xs aw) f n = n
phase-less ws vs ps (CommittingOne x) f n = n
phase-less ws vs ps (CommittingTwo aw) f n = n
phase-less ws vs ps (Ended aw) f n = n
phase-less ws vs ps (Aborting aw) f n = n

pub txn-less : (ws vs : List Node) (t : Option Txn) → ((i : Node) → has i vs ≡ true → has i ws ≡ true) → NeatTxn ws t → NeatTxn vs t
txn-less ws vs None f n = tt
txn-less ws vs (Some t) f n = (n.0, phase-less ws vs t.participants t.phase f n.1)

-- whoever takes no part is asked nothing
in-phase-none : (g : Gxid) (ws ps : List Node) (p : Phase) (i : Node) → NeatPhase ws ps p → has i ps ≡ false → status_order g (order_in p i) ≡ None
in-phase-none g ws ps Active i n e = refl
in-phase-none g ws ps (Preparing xs aw) i n e = by_test (has i aw) refl
  where
    by_test : (b : Bool) → has i aw ≡ b → status_order g (if b then Some order.Prepare else None) ≡ None
    by_test true q = clash (has i ps) (n.1 i (n.2 i q)) e
    by_test false q = refl
in-phase-none g ws ps (CommittingOne x) i n e = by_test (eqb x.0 i.0) refl
  where
    by_test : (b : Bool) → eqb x.0 i.0 ≡ b → status_order g (if b then Some order.Commit else None) ≡ None
    by_test true q = clash (has i ps) (subst (λ k. has (record { 0 = k }) ps ≡ true) (eqb-true x.0 i.0 q) n) e
    by_test false q = refl
in-phase-none g ws ps (CommittingTwo aw) i n e = by_test (has i aw) refl
  where
    by_test : (b : Bool) → has i aw ≡ b → status_order g (if b then Some order.CommitPrepared else None) ≡ None
    by_test true q = clash (has i ps) (n i q) e
    by_test false q = refl
in-phase-none g ws ps (Ended aw) i n e = by_test (has i aw) refl
  where
    by_test : (b : Bool) → has i aw ≡ b → status_order g (if b then Some order.Forget else None) ≡ None
    by_test true q = clash (has i ps) (n i q) e
    by_test false q = refl
in-phase-none g ws ps (Aborting aw) i n e = by_test (has i aw) refl
  where
    by_test : (b : Bool) → has i aw ≡ b → status_order g (if b then Some order.Abort else None) ≡ None
    by_test true q = clash (has i ps) (n i q) e
    by_test false q = refl

pub status-none : (g : Gxid) (ws : List Node) (t : Option Txn) (i : Node) → NeatTxn ws t → has i (participants_in t) ≡ false → status_order g (order_found i t) ≡ None
status-none g ws None i n e = refl
status-none g ws (Some t) i n e = in-phase-none g ws t.participants t.phase i n.1 e

pub waiting-none : (g : ℕ) (w : Work) (t : Option Txn) (i : Node) → Neat g w t → has i (participants_in t) ≡ false → waiting w.command t (gx g) i ≡ None
waiting-none g w t i n e = by_command w.command n.command
  where
    by_command : (o : Option Command) → NeatCommand g (participants_in t) o → waiting o t (gx g) i ≡ None
    by_command None f = status-none (gx g) w.writers t i n.txn e
    by_command (Some m) f = by_test (has i m.awaited) refl
      where
        by_test : (b : Bool) → has i m.awaited ≡ b → (if b then order_to i m.orders else status_order (gx g) (order_found i t)) ≡ None
        by_test true q = clash (has i (participants_in t)) (f i q).0 e
        by_test false q = status-none (gx g) w.writers t i n.txn e

-- no answer to the command is awaited
abbrev pub IsDone : Option Command → Type 0
IsDone None = Unit {0}
IsDone (Some m) = (i : Node) → has i m.awaited ≡ false

pub done-waiting : (m : Option Command) (t : Option Txn) (g : Gxid) (i : Node) → IsDone m → waiting m t g i ≡ status_order g (order_found i t)
done-waiting None t g i d = refl
done-waiting (Some m) t g i d = ap (λ (b : Bool). if b then order_to i m.orders else status_order g (order_found i t)) (d i)

pub done-neat : (g : ℕ) (ps : List Node) (m : Option Command) → IsDone m → NeatCommand g ps m
done-neat g ps None d = tt
done-neat g ps (Some m) d = λ i e. clash (has i m.awaited) e (d i)

-- CALLS ON THE STATUS
-- what was asked, with what is sent, is what is awaited
pub record CallAsks (g : ℕ) (ws : List Node) (A : Node → Option Message) (t : Option Txn) (ch : Change) : Type 0 where
  pub asked : (i : Node) → status_order (gx g) (order_found i (left_of ch.step t)) ≡ told_by i (gx g) (A i) ch.out.outs
  pub sends_one : (i : Node) → sends i ch.out.outs ≤ 1
  pub neat : NeatTxn ws (left_of ch.step t)
  pub about : (h : ℕ) → eqb h g ≡ false → Each (λ (o : Out). is_about (gx h) o.message ≡ false) ch.out.outs

module _ (g : ℕ) (ws : List Node) (A : Node → Option Message) where
  nothing-sent : 0 ≤ 1
  nothing-sent = omega arith

  -- a message that is about this transaction alone
  pub record IsOwn (m : Message) : Type 0 where
    pub here : is_about (gx g) m ≡ true
    pub there : (h : ℕ) → eqb h g ≡ false → is_about (gx h) m ≡ false

  own-abort : IsOwn (message.Abort (gx g))
  own-abort = record { here = eqb-self g; there = λ h e. eqb-turned h g e }

  own-forget : IsOwn (message.Forget (gx g))
  own-forget = record { here = eqb-self g; there = λ h e. eqb-turned h g e }

  own-commit : IsOwn (message.Commit (gx g))
  own-commit = record { here = eqb-self g; there = λ h e. eqb-turned h g e }

  own-prepare : IsOwn (message.Prepare (gx g))
  own-prepare = record { here = eqb-self g; there = λ h e. eqb-turned h g e }

  own-finish : IsOwn (message.CommitPrepared (gx g))
  own-finish = record { here = eqb-self g; there = λ h e. eqb-turned h g e }

  each-other : (m : Message) → IsOwn m → (h : ℕ) → eqb h g ≡ false → (nodes : List Node) → Each (λ (o : Out). is_about (gx h) o.message ≡ false) (to_each m nodes)
  each-other m own h e [] = tt
  each-other m own h e (x ∷ xs) = (own.there h e, each-other m own h e xs)

  -- the phase awaits the message of these nodes
  goes-asks : (t : Txn) (p : Phase) (m : Message) (nodes : List Node) (o : Outcome) → IsOwn m → ((i : Node) → status_order (gx g) (order_in p i) ≡ (if has i nodes then Some m else None)) → ((i : Node) → has i nodes ≡ false → A i ≡ None) → AreApart nodes → AreApart t.participants → NeatPhase ws t.participants p → CallAsks g ws A (Some t) (goes_to p (to_each m nodes) o)
  goes-asks t p m nodes o own orders outside apart among phase =
      record {
        asked = λ i. orders i ∙ by_test i (has i nodes) refl ∙ sym (told-each i (gx g) (A i) m nodes own.here);
        sends_one = λ i. sends-each i m nodes apart;
        neat = (among, phase);
        about = λ h e. each-other m own h e nodes;
      }
    where
      by_test : (i : Node) (b : Bool) → has i nodes ≡ b → (if b then Some m else None) ≡ (if b then Some m else A i)
      by_test i true q = refl
      by_test i false q = sym (outside i q)

  -- nothing is sent
  on-asks : (t : Txn) (p : Phase) (o : Outcome) → ((i : Node) → status_order (gx g) (order_in p i) ≡ A i) → AreApart t.participants → NeatPhase ws t.participants p → CallAsks g ws A (Some t) (goes_to p [] o)
  on-asks t p o orders among phase = record { asked = orders; sends_one = λ i. nothing-sent; neat = (among, phase); about = λ h e. tt }

  leaves-asks : (t : Option Txn) (o : Outcome) → ((i : Node) → A i ≡ None) → CallAsks g ws A t (leaves o)
  leaves-asks t o none = record { asked = λ i. sym (none i); sends_one = λ i. nothing-sent; neat = tt; about = λ h e. tt }

  stays-asks : (t : Option Txn) → ((i : Node) → status_order (gx g) (order_found i t) ≡ A i) → NeatTxn ws t → CallAsks g ws A t stays
  stays-asks t same neat = record { asked = same; sends_one = λ i. nothing-sent; neat = neat; about = λ h e. tt }

  -- orders by a test
  if-abort : (b : Bool) → status_order (gx g) (if b then Some order.Abort else None) ≡ (if b then Some (message.Abort (gx g)) else None)
  if-abort true = refl
  if-abort false = refl

  if-forget : (b : Bool) → status_order (gx g) (if b then Some order.Forget else None) ≡ (if b then Some (message.Forget (gx g)) else None)
  if-forget true = refl
  if-forget false = refl

  if-prepare : (b : Bool) → status_order (gx g) (if b then Some order.Prepare else None) ≡ (if b then Some (message.Prepare (gx g)) else None)
  if-prepare true = refl
  if-prepare false = refl

  if-finish : (b : Bool) → status_order (gx g) (if b then Some order.CommitPrepared else None) ≡ (if b then Some (message.CommitPrepared (gx g)) else None)
  if-finish true = refl
  if-finish false = refl

  if-commit : (a : Bool) → status_order (gx g) (if a then Some order.Commit else None) ≡ (if a || false then Some (message.Commit (gx g)) else None)
  if-commit true = refl
  if-commit false = refl

  module _ (t : Txn) (apart : AreApart t.participants) (outside : (i : Node) → has i t.participants ≡ false → A i ≡ None) where
    ends-asks : (ps : List Node) → t.participants ≡ ps → CallAsks g ws A (Some t) (ends_committed (gx g) ps)
    ends-asks [] q = leaves-asks (Some t) outcome.Committed (λ i. outside i (ap (has i) q))
    ends-asks (x ∷ xs) q =
        goes-asks t (Ended (x ∷ xs)) (message.Forget (gx g)) (x ∷ xs) outcome.Committed own-forget (λ i. if-forget (has i (x ∷ xs))) (λ i e. outside i (ap (has i) q ∙ e)) (subst AreApart q apart) apart (λ i e. ap (has i) q ∙ e)

    refuses-asks : (j : Node) → CallAsks g ws A (Some t) (refuses (gx g) t.participants j)
    refuses-asks j = goes-asks t (Aborting t.participants) (message.Abort (gx g)) t.participants (outcome.Refused j) own-abort (λ i. if-abort (has i t.participants)) outside apart apart (λ i e. e)

    aborts-asks : (ps : List Node) → t.participants ≡ ps → CallAsks g ws A (Some t) (aborts (gx g) ps)
    aborts-asks [] q = leaves-asks (Some t) outcome.Ended (λ i. outside i (ap (has i) q))
    aborts-asks (x ∷ xs) q =
        goes-asks t (Aborting (x ∷ xs)) (message.Abort (gx g)) (x ∷ xs) outcome.Pending own-abort (λ i. if-abort (has i (x ∷ xs))) (λ i e. outside i (ap (has i) q ∙ e)) (subst AreApart q apart) apart (λ i e. ap (has i) q ∙ e)

    commits-asks : (xs : List Node) → ((i : Node) → A i ≡ None) → AreApart xs → ((i : Node) → has i xs ≡ true → has i t.participants ≡ true) → CallAsks g ws A (Some t) (commits (gx g) xs t)
    commits-asks [] none a f = ends-asks t.participants refl
    commits-asks (x ∷ []) none a f = goes-asks t (CommittingOne x) (message.Commit (gx g)) (x ∷ []) outcome.Pending own-commit (λ i. if-commit (eqb x.0 i.0)) (λ i e. none i) a apart (f x (first x.0))
      where
        first : (a : ℕ) → (eqb a a || false) ≡ true
        first a = grind (arith, nat_tests)
    commits-asks (x ∷ y ∷ xs) none a f = goes-asks t (Preparing (x ∷ y ∷ xs) (x ∷ y ∷ xs)) (message.Prepare (gx g)) (x ∷ y ∷ xs) outcome.Pending own-prepare (λ i. if-prepare (has i (x ∷ y ∷ xs))) (λ i e. none i) a apart (a, f, λ i e. e)

    decides-asks : (xs : List Node) (b : Bool) → ((i : Node) → A i ≡ None) → AreApart xs → ((i : Node) → has i xs ≡ true → has i t.participants ≡ true) → CallAsks g ws A (Some t) (decides (gx g) xs t.participants b)
    decides-asks xs false none a f = goes-asks t (CommittingTwo xs) (message.CommitPrepared (gx g)) xs outcome.Decided own-finish (λ i. if-finish (has i xs)) (λ i e. none i) a apart f
    decides-asks xs true none a f = refuses-asks (record { 0 = 0 })

    prepares-asks : (xs rest : List Node) (b : Bool) → ((i : Node) → A i ≡ (if has i rest then Some (message.Prepare (gx g)) else None)) → AreApart xs → ((i : Node) → has i xs ≡ true → has i t.participants ≡ true) → ((i : Node) → has i rest ≡ true → has i xs ≡ true) → CallAsks g ws A (Some t) (prepares (gx g) xs t.participants rest b)
    prepares-asks xs [] b is a f r = decides-asks xs b is a f
    prepares-asks xs (y ∷ ys) b is a f r = on-asks t (Preparing xs (y ∷ ys)) outcome.Pending (λ i. if-prepare (has i (y ∷ ys)) ∙ sym (is i)) apart (a, f, r)

    finishes-asks : (rest : List Node) → ((i : Node) → A i ≡ (if has i rest then Some (message.CommitPrepared (gx g)) else None)) → ((i : Node) → has i rest ≡ true → has i t.participants ≡ true) → CallAsks g ws A (Some t) (finishes (gx g) t.participants rest)
    finishes-asks [] is r = ends-asks t.participants refl
    finishes-asks (y ∷ ys) is r = on-asks t (CommittingTwo (y ∷ ys)) outcome.Pending (λ i. if-finish (has i (y ∷ ys)) ∙ sym (is i)) apart r

    forgets-asks : (rest : List Node) → ((i : Node) → A i ≡ (if has i rest then Some (message.Forget (gx g)) else None)) → ((i : Node) → has i rest ≡ true → has i t.participants ≡ true) → CallAsks g ws A (Some t) (forgets rest)
    forgets-asks [] is r = leaves-asks (Some t) outcome.Pending is
    forgets-asks (y ∷ ys) is r = on-asks t (Ended (y ∷ ys)) outcome.Pending (λ i. if-forget (has i (y ∷ ys)) ∙ sym (is i)) apart r

    gives-asks : (rest : List Node) → ((i : Node) → A i ≡ (if has i rest then Some (message.Abort (gx g)) else None)) → ((i : Node) → has i rest ≡ true → has i t.participants ≡ true) → CallAsks g ws A (Some t) (gives_up rest)
    gives-asks [] is r = leaves-asks (Some t) outcome.Ended is
    gives-asks (y ∷ ys) is r = on-asks t (Aborting (y ∷ ys)) outcome.Pending (λ i. if-abort (has i (y ∷ ys)) ∙ sym (is i)) apart r

    -- an answer of one node is taken
    module _ (j : Node) where
      left-one : (i : Node) (aw : List Node) (m : Message) (o : Option Message) → o ≡ (if has i aw then Some m else None) → A i ≡ (if eqb j.0 i.0 then None else o) → A i ≡ (if has i (without j aw) then Some m else None)
      left-one i aw m o e is = is ∙ ap (λ x. if eqb j.0 i.0 then None else x) e ∙ plain (eqb j.0 i.0) (has i aw) ∙ ap (λ (b : Bool). if b then Some m else None) (sym (has-without i j aw))
        where
          plain : (a b : Bool) → (if a then None else (if b then Some m else None)) ≡ (if (if a then false else b) then Some m else None)
          plain true b = refl
          plain false b = refl

      less : (aw zs : List Node) → ((i : Node) → has i aw ≡ true → has i zs ≡ true) → (i : Node) → has i (without j aw) ≡ true → has i zs ≡ true
      less aw zs f i e = f i (by_test (eqb j.0 i.0) (sym (has-without i j aw) ∙ e))
        where
          by_test : (b : Bool) → (if b then false else has i aw) ≡ true → has i aw ≡ true
          by_test true e = absurd (cc)
          by_test false e = e

      takes-asks : (b : Bool) (p : Phase) (r : Reply) → t.phase ≡ p → is_awaited p j r ≡ true → NeatPhase ws t.participants p → ((i : Node) → A i ≡ (if eqb j.0 i.0 then None else status_order (gx g) (order_in p i))) → CallAsks g ws A (Some t) (takes (gx g) t.participants j b p r)
      takes-asks b (Preparing xs aw) reply.Prepared e q n is =
          prepares-asks xs (without j aw) b (λ i. left-one i aw (message.Prepare (gx g)) _ (if-prepare (has i aw)) (is i)) n.0 n.1 (less aw xs n.2)
      takes-asks b (Preparing xs aw) reply.Jfault e q n is = refuses-asks j
      takes-asks b (CommittingOne x) reply.Committed e q n is = ends-asks t.participants refl
      takes-asks b (CommittingOne x) reply.Jfault e q n is = refuses-asks j
      takes-asks b (CommittingTwo aw) reply.Committed e q n is = finishes-asks (without j aw) (λ i. left-one i aw (message.CommitPrepared (gx g)) _ (if-finish (has i aw)) (is i)) (less aw t.participants n)
      takes-asks b (Ended aw) reply.Forgotten e q n is = forgets-asks (without j aw) (λ i. left-one i aw (message.Forget (gx g)) _ (if-forget (has i aw)) (is i)) (less aw t.participants n)
      takes-asks b (Aborting aw) reply.Aborted e q n is = gives-asks (without j aw) (λ i. left-one i aw (message.Abort (gx g)) _ (if-abort (has i aw)) (is i)) (less aw t.participants n)
      takes-asks b p r e q n is = absurd (cc)

  -- THE CALLS
  pub abort-asks : (t : Option Txn) → NeatTxn ws t → ((i : Node) → has i (participants_in t) ≡ false → A i ≡ None) → CallAsks g ws A t (abort_found (gx g) t)
  abort-asks None n outside = stays-asks None (λ i. sym (outside i refl)) tt
  abort-asks (Some t) n outside = aborts-asks t n.0 outside t.participants refl

  pub commit-asks : (t : Txn) → t.phase ≡ Active → NeatTxn ws (Some t) → AreApart ws → ((i : Node) → A i ≡ None) → CallAsks g ws A (Some t) (commit_found (gx g) ws (Some t))
  commit-asks t e n a none = commits-asks t n.0 (λ i q. none i) ws none a (subst (NeatPhase ws t.participants) e n.1)

  pub reply-asks : (j : Node) (r : Reply) (b : Bool) (t : Option Txn) → NeatTxn ws t → ((i : Node) → A i ≡ (if eqb j.0 i.0 && awaits_found j r t then None else status_order (gx g) (order_found i t))) → CallAsks g ws A t (reply_found (gx g) j r b t)
  reply-asks j r b None n is = stays-asks None (λ i. sym (is i ∙ none (eqb j.0 i.0))) tt
    where
      none : (a : Bool) → (let o : Option Message = (if a && false then None else None) in o) ≡ None
      none true = refl
      none false = refl
  reply-asks j r b (Some t) n is = by_test (is_awaited t.phase j r) refl is
    where
      out : (a : Bool) (o : Option Message) → (if a && false then None else o) ≡ o
      out true o = refl
      out false o = refl

      here : (a : Bool) (o : Option Message) → (if a && true then None else o) ≡ (if a then None else o)
      here true o = refl
      here false o = refl

      none-out : (a : Bool) (o : Option Message) → o ≡ None → (if a then None else o) ≡ None
      none-out true o e = refl
      none-out false o e = e

      by_test : (q : Bool) → is_awaited t.phase j r ≡ q → ((i : Node) → A i ≡ (if eqb j.0 i.0 && q then None else status_order (gx g) (order_in t.phase i))) → CallAsks g ws A (Some t) (if q then takes (gx g) t.participants j b t.phase r else stays)
      by_test true e is =
          let left : (i : Node) → A i ≡ (if eqb j.0 i.0 then None else status_order (gx g) (order_in t.phase i)) = λ i. is i ∙ here (eqb j.0 i.0) _ in
          takes-asks t n.0 (λ i f. left i ∙ none-out (eqb j.0 i.0) _ (in-phase-none (gx g) ws t.participants t.phase i n.1 f)) j b t.phase r refl e n.1 left
      by_test false e is = stays-asks (Some t) (λ i. sym (is i ∙ out (eqb j.0 i.0) _)) n
