-- That some answer is awaited for a transaction, by its command or by its status.
use Rattle.std.proofs.Common.{◌≡◌, ◌⊎◌, ℕ, List, [], ◌∷◌, Option, Some, None, Bool, true, false, refl, sym, subst, ap, ◌∙◌, if◌then◌else◌, ◌||◌, eqb}
use Rattle.std.proofs.lemmas.Bool.{eqb-true}
use Rattle.std.specs.Prelude.{is_some}
use Rattle.gx_lemmas.proofs.Numbers.{eqb-self}
use Rattle.gx_ids.specs.declared.ids.Cid.{Cid}
use Rattle.gx_ids.specs.declared.ids.Gxid.{Gxid}
use Rattle.gx_ids.specs.declared.ids.Node.{Node}
use Rattle.gx_dtx.specs.Nodes.{has}
use Rattle.gx_dtx.specs.Rules.{awaited_order, order_found, order_in}
use Rattle.gx_dtx.specs.Table.{find_txn}
use Rattle.gx_dtx.specs.declared.order.Order.{Order}
use Rattle.gx_dtx.specs.declared.phase.Phase.{Phase}
use Rattle.gx_dtx.specs.declared.phase.Phase.TheVariants.{Active, Preparing, CommittingOne, CommittingTwo, Ended, Aborting}
use Rattle.gx_dtx.specs.declared.txn.Txn.{Txn}
use Rattle.gx_msg.specs.declared.message.Message.{Message}
use Rattle.gx_script.specs.declared.Script.{Script}
use Rattle.gx_rules.specs.AtCoordinator.{awaited, command_order, order_to, status_order}
use Rattle.gx_rules.specs.Coordinators.{Command, Coord}
use Rattle.gx_law_order.specs.Places.{CoordIn, IsOneOf, PhaseIn, UnderWay}
use Rattle.gx_law_order.specs.Standings.{gx}
use Rattle.gx_law_order.proofs.Tables.{FoundIn, find_in, has_in}
use Rattle.gx_law_runs.proofs.Neat.{IsDone, IsExecOf, done-waiting}
use Rattle.gx_law_runs.proofs.Sparing.{HasWait}

abbrev pub IsAsked : Coord → ℕ → Type 0
IsAsked c g = (i : Node) × (is_some (awaited c (gx g) i) ≡ true)

-- its session has somebody to wait for: an answer is awaited, or it waits for a lock here
abbrev pub IsBusy : Coord → ℕ → Type 0
IsBusy c g = IsAsked c g ⊎ HasWait c g

pub has-first : (x : Node) (xs : List Node) → has x (x ∷ xs) ≡ true
has-first x xs = ap (λ b. b || has x xs) (eqb-self x.0)

-- BY THE STATUS
abbrev pub IsOrdered : Option Txn → Type 0
IsOrdered t = (i : Node) × (is_some (order_found i t) ≡ true)

some-order : (g : Gxid) (o : Option Order) → is_some o ≡ true → is_some (status_order g o) ≡ true
some-order g None e = e
some-order g (Some o) e = refl

order-some : (g : Gxid) (o : Option Order) → is_some (status_order g o) ≡ true → is_some o ≡ true
order-some g None e = e
order-some g (Some o) e = refl

pub ordered-asked : (c : Coord) (g : ℕ) (t : Option Txn) → IsDone (c.works g).command → find_txn c.table (gx g) ≡ t → IsOrdered t → IsAsked c g
ordered-asked c g t done f o = (
  o.0,
  ap is_some (done-waiting (c.works g).command (find_txn c.table (gx g)) (gx g) o.0 done ∙ ap (λ x. status_order (gx g) (order_found o.0 x)) f) ∙ some-order (gx g) (order_found o.0 t) o.1,
)

-- BY A COMMAND
pub exec-some : (g : ℕ) (c : Cid) (o : Option Message) → IsExecOf g c o → is_some o ≡ true
exec-some g c None e = absurd e
exec-some g c (Some m) e = refl

pub command-asked : (c : Coord) (g : ℕ) (m : Command) (i : Node) → (c.works g).command ≡ Some m → has i m.awaited ≡ true → is_some (order_to i m.orders) ≡ true → IsAsked c g
command-asked c g m i e h o = (
  i,
  ap (λ k. is_some (command_order k i (status_order (gx g) (awaited_order c.table (gx g) i)))) e
      ∙ ap (λ (b : Bool). is_some (if b then order_to i m.orders else status_order (gx g) (awaited_order c.table (gx g) i))) h ∙ o,
)

-- no command is awaited where one that awaits somebody can't be
pub done-unless : (o : Option Command) → ((m : Command) → o ≡ Some m → (m.awaited ≡ [] → ⊥) → ⊥) → IsDone o
done-unless None away = tt
done-unless (Some m) away = by_awaited m.awaited refl
  where
    by_awaited : (xs : List Node) → m.awaited ≡ xs → (i : Node) → has i m.awaited ≡ false
    by_awaited [] q i = ap (has i) q
    by_awaited (x ∷ xs) q i = absurd (away m refl (λ z. differ (sym z ∙ q)))
      where
        differ : [] ≡ x ∷ xs → ⊥
        differ z = cc

-- WHO IS ASKED IS A SEGMENT
some-if : (b : Bool) (o : Order) → is_some (if b then Some o else None) ≡ true → b ≡ true
some-if true o e = refl
some-if false o e = absurd (cc)

phase-in : (n : ℕ) (p : Phase) (i : Node) → PhaseIn n p → is_some (order_in p i) ≡ true → IsOneOf n i
phase-in n Active i h e = absurd (cc)
phase-in n (Preparing xs aw) i h e = has_in n i aw h.1 (some-if (has i aw) _ e)
phase-in n (CommittingOne x) i h e = subst (λ k. IsOneOf n (record { 0 = k })) (eqb-true x.0 i.0 (some-if (eqb x.0 i.0) _ e)) h
phase-in n (CommittingTwo aw) i h e = has_in n i aw h (some-if (has i aw) _ e)
phase-in n (Ended aw) i h e = has_in n i aw h (some-if (has i aw) _ e)
phase-in n (Aborting aw) i h e = has_in n i aw h (some-if (has i aw) _ e)

found-in : (n : ℕ) (t : Option Txn) (i : Node) → FoundIn n t → is_some (order_found i t) ≡ true → IsOneOf n i
found-in n None i h e = absurd (cc)
found-in n (Some t) i h e = phase-in n t.phase i h.phase e

pub asked-in : (script : Script) (c : Coord) → CoordIn script c → (g : ℕ) (i : Node) → is_some (awaited c (gx g) i) ≡ true → IsOneOf script.segments i
asked-in script c all g i e = by_command (c.works g).command (all.works g).command e
  where
    by_status : is_some (status_order (gx g) (order_found i (find_txn c.table (gx g)))) ≡ true → IsOneOf script.segments i
    by_status e = found-in script.segments (find_txn c.table (gx g)) i (find_in script.segments c.table (gx g) all.table) (order-some (gx g) (order_found i (find_txn c.table (gx g))) e)

    by_command : (o : Option Command) → UnderWay script.segments o → is_some (command_order o i (status_order (gx g) (order_found i (find_txn c.table (gx g))))) ≡ true → IsOneOf script.segments i
    by_command None w e = by_status e
    by_command (Some m) w e = by_test (has i m.awaited) refl e
      where
        by_test : (b : Bool) → has i m.awaited ≡ b → is_some (if b then order_to i m.orders else status_order (gx g) (order_found i (find_txn c.table (gx g)))) ≡ true → IsOneOf script.segments i
        by_test true h e = has_in script.segments i m.awaited w.awaited h
        by_test false h e = by_status e
