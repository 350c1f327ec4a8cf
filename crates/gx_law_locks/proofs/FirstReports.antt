-- A round has one list of reports, where no two messages of a link have the same number.
use Rattle.std.proofs.Common.{◌≡◌, ◌≤◌, ◌<◌, inl, inr, ℕ, suc, ◌+◌, List, [], ◌∷◌, Some, refl, sym, subst, ap, ◌∙◌, length, arith}
use Rattle.std.specs.Prelude.{slice_get, take}
use Rattle.gx_lemmas.proofs.Options.{some-same}
use Rattle.gx_ids.specs.declared.ids.Node.{Node}
use Rattle.gx_msg.specs.declared.message.Message.{Message}
use Rattle.gx_msg.specs.declared.message.Message.TheVariants as message
use Rattle.gx_script.specs.declared.Script.{Script}
use Rattle.gx_waits.specs.declared.graph.LocalGraph.{LocalGraph}
use Rattle.gx_store.specs.declared.event.Event.{Event}
use Rattle.gx_store.specs.declared.event.Event.TheVariants as event
use Rattle.gx_store.specs.declared.run.Step.{Step}
use Rattle.gx_store.specs.Messages.{IsSent, Receives, ReceivesAt}
use Rattle.gx_store.specs.Points.{Point}
use Rattle.gx_store.specs.Refusals.{the_coordinator}
use Rattle.gx_store.specs.Rounds.{AreReportsOf, IsReportOf}
use Rattle.gx_law_locks.proofs.Gathered.{place-short}
use Rattle.gx_law_locks.proofs.Noted.{sent-by-then}

-- lists with the same at each place are one
same-each : {A : Type 0} (xs ys : List A) → length xs ≡ length ys → ((i : ℕ) (x y : A) → slice_get xs i ≡ Some x → slice_get ys i ≡ Some y → x ≡ y) → xs ≡ ys
same-each [] [] e f = refl
same-each [] (y ∷ ys) e f = let n : 0 ≡ suc (length ys) = e in absurd (omega arith)
same-each (x ∷ xs) [] e f = let n : suc (length xs) ≡ 0 = e in absurd (omega arith)
same-each (x ∷ xs) (y ∷ ys) e f = ap (λ z. z ∷ xs) (f 0 x y refl refl) ∙ ap (λ zs. y ∷ zs) (same-each xs ys (shorter (length xs) (length ys) e) (λ i a b p q. f (suc i) a b p q))
  where
    shorter : (m n : ℕ) → suc m ≡ suc n → m ≡ n
    shorter m n e = omega arith

-- no two messages of a link have the same number
abbrev pub AreSentOnce : List Step → Type 0
AreSentOnce steps = (from to : Node) (number : ℕ) (m n : Message) → IsSent steps from to number m → IsSent steps from to number n → m ≡ n

module _ (point : Point) (once : AreSentOnce point.steps) where
  -- what an event delivers is one message
  one-delivery : (e : Event) (from to : Node) (m n : Message) → Receives point.steps e from to m → Receives point.steps e from to n → m ≡ n
  one-delivery e from to m n r q = once from to q.number m n (subst (λ k. IsSent point.steps from to k m) (same (sym r.is ∙ q.is)) r.sent) q.sent
    where
      same : event.Receive from to r.number ≡ event.Receive from to q.number → r.number ≡ q.number
      same s = cc

  then-delivered : (k : ℕ) (e : Event) (from to : Node) (m : Message) → Receives (take k point.steps) e from to m → Receives point.steps e from to m
  then-delivered k e from to m r = record { number = r.number; is = r.is; sent = sent-by-then point.steps k from to r.number m r.sent }

  one-receipt : (k : ℕ) (from to : Node) (m n : Message) → ReceivesAt point k from to m → ReceivesAt point k from to n → m ≡ n
  one-receipt k from to m n (inl x) (inl y) =
      one-delivery y.0.event from to m n
      (subst (λ (s : Step). Receives point.steps s.event from to m) (some-same x.0 y.0 (sym x.1 ∙ y.1)) (then-delivered k x.0.event from to m x.2)) (then-delivered k y.0.event from to n y.2)
  one-receipt k from to m n (inl x) (inr y) = let s : k < length point.steps = place-short point.steps k x.0 x.1 in let l : k ≡ length point.steps = y.0 in absurd (omega arith)
  one-receipt k from to m n (inr x) (inl y) = let s : k < length point.steps = place-short point.steps k y.0 y.1 in let l : k ≡ length point.steps = x.0 in absurd (omega arith)
  one-receipt k from to m n (inr x) (inr y) = one-delivery point.event from to m n x.1 y.1

  one-report : (round : ℕ) (segment : Node) (a b : LocalGraph) → IsReportOf point round segment a → IsReportOf point round segment b → a ≡ b
  one-report round segment a b r q =
      same
      (one-receipt q.at segment the_coordinator (message.Graph round a) (message.Graph round b)
      (subst (λ k. ReceivesAt point k segment the_coordinator (message.Graph round a)) places r.received) q.received)
    where
      same : message.Graph round a ≡ message.Graph round b → a ≡ b
      same s = cc

      places : r.at ≡ q.at
      places = let x : r.at ≤ q.at = r.first q.at b q.received in let y : q.at ≤ r.at = q.first r.at a r.received in omega arith

  pub one-reports : (script : Script) (round : ℕ) (xs ys : List LocalGraph) → AreReportsOf script point round xs → AreReportsOf script point round ys → xs ≡ ys
  one-reports script round xs ys r q = same-each xs ys (r.all ∙ sym q.all) (λ i a b x y. one-report round (record { 0 = i + 1 }) a b (r.each i a x) (q.each i b y))
