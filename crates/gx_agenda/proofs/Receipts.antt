-- How often a message was received, one step later.
use Rattle.std.proofs.Common.{◌≡◌, ◌≢◌, ℕ, ◌+◌, ◌*◌, Bool, true, false, cond, ◌&&◌, refl, ap, ◌∙◌, eqb, List, [], ◌∷◌, ◌++◌, length, length-append, arith}
use Rattle.std.proofs.lemmas.Bool.Decides.{nat_tests}
use Rattle.std.proofs.lemmas.List.Elements.{filter-append}
use Rattle.std.specs.List.{filter}
use Rattle.gx_ids.specs.declared.ids.Node.{Node}
use Rattle.gx_script.specs.declared.Script.{Script}
use Rattle.gx_store.specs.declared.event.Event.TheVariants.{Receive}
use Rattle.gx_store.specs.declared.run.Step.{Step}
use Rattle.gx_store.specs.Ordered.{IsLink}
use Rattle.gx_store.specs.Schedule.{is_receipt_of, received_count}
use Rattle.gx_agenda.specs.Links.{link_of}
use Rattle.gx_agenda.proofs.Deliveries.{AreEnds, link_ends}

length_one : {X : Type 0} (p : X → Bool) (x : X) (b : Bool) → length (cond b (x ∷ []) []) ≡ cond b 1 0
length_one p x true = refl
length_one p x false = refl

pub count_push : {X : Type 0} (p : X → Bool) (xs : List X) (x : X) → length (filter p (xs ++ x ∷ [])) ≡ length (filter p xs) + cond (p x) 1 0
count_push p xs x = ap length (filter-append p xs (x ∷ [])) ∙ length-append (filter p xs) (filter p (x ∷ [])) ∙ ap (λ n. length (filter p xs) + n) (length_one p x (p x))

pub received_push : (from to : Node) (n : ℕ) (steps : List Step) (step : Step) → received_count from to n (steps ++ step ∷ []) ≡ received_count from to n steps + cond (is_receipt_of from to n step.event) 1 0
received_push from to n steps step = count_push (λ (s : Step). is_receipt_of from to n s.event) steps step

pub received_same : (from to : Node) (n : ℕ) (steps : List Step) (step : Step) → is_receipt_of from to n step.event ≡ false → received_count from to n (steps ++ step ∷ []) ≡ received_count from to n steps
received_same from to n steps step not =
    received_push from to n steps step ∙ ap (λ b. received_count from to n steps + cond b 1 0) not ∙ (grind arith)

ends_differ : (f t from to n m : ℕ) → AreEnds f t → AreEnds from to → cond (eqb f 0) (2 * t) (2 * f + 1) ≢ cond (eqb from 0) (2 * to) (2 * from + 1) → (eqb from f && (eqb to t && eqb m n)) ≡ false
ends_differ f t from to n m a b apart = grind (arith, nat_tests)

ends_same : (f t from to : ℕ) → AreEnds f t → AreEnds from to → cond (eqb f 0) (2 * t) (2 * f + 1) ≡ cond (eqb from 0) (2 * to) (2 * from + 1) → (f ≡ from) × (t ≡ to)
ends_same f t from to a b same = (grind (arith, nat_tests), grind (arith, nat_tests))

module _ (script : Script) (from to : Node) (link : IsLink script from to) where
  -- a step that delivers a message of another link
  pub received_elsewhere : (f t : Node) (n m : ℕ) (steps : List Step) (step : Step) → IsLink script f t → link_of f t ≢ link_of from to → step.event ≡ Receive from to m → received_count f t n (steps ++ step ∷ []) ≡ received_count f t n steps
  received_elsewhere f t n m steps step other apart e =
      received_same f t n steps step (ap (is_receipt_of f t n) e ∙ ends_differ f.0 t.0 from.0 to.0 n m (link_ends script f t other) (link_ends script from to link) apart)

  pub the_link : (f t : Node) → IsLink script f t → link_of f t ≡ link_of from to → (f ≡ from) × (t ≡ to)
  the_link f t other same =
      let p : (f.0 ≡ from.0) × (t.0 ≡ to.0) = ends_same f.0 t.0 from.0 to.0 (link_ends script f t other) (link_ends script from to link) same in
      (ap (λ n. record { 0 = n }) p.0, ap (λ n. record { 0 = n }) p.1)

itself : (a b n m : ℕ) → n ≡ m → (eqb a a && (eqb b b && eqb m n)) ≡ true
itself a b n m e = grind (arith, nat_tests)

another : (a b n m : ℕ) → n ≢ m → (eqb a a && (eqb b b && eqb m n)) ≡ false
another a b n m e = grind (arith, nat_tests)

-- a step that delivers this message
pub received_here : (from to : Node) (n : ℕ) (steps : List Step) (step : Step) → step.event ≡ Receive from to n → received_count from to n (steps ++ step ∷ []) ≡ received_count from to n steps + 1
received_here from to n steps step e =
    received_push from to n steps step ∙ ap (λ b. received_count from to n steps + cond b 1 0) (ap (is_receipt_of from to n) e ∙ itself from.0 to.0 n n refl)

-- a step that delivers another message of the link
pub received_other : (from to : Node) (n m : ℕ) (steps : List Step) (step : Step) → step.event ≡ Receive from to m → n ≢ m → received_count from to n (steps ++ step ∷ []) ≡ received_count from to n steps
received_other from to n m steps step e apart =
    received_same from to n steps step (ap (is_receipt_of from to n) e ∙ another from.0 to.0 n m apart)
