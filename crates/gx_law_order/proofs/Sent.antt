-- How many messages were sent, and how they are numbered.
use Rattle.std.proofs.Common.{◌≡◌, ℕ, suc, ◌+◌, List, [], ◌∷◌, ◌++◌, refl, sym, subst, ap, ◌∙◌, if◌then◌else◌, arith, append-nil}
use Rattle.std.proofs.lemmas.Bool.Decides.{nat_tests}
use Rattle.std.proofs.lemmas.List.{append_assoc}
use Rattle.std.specs.Prelude.{length}
use Rattle.gx_lemmas.proofs.Numbers.{none-plus}
use Rattle.gx_ids.specs.declared.ids.Node.{Node}
use Rattle.gx_msg.specs.declared.message.Out.{Out}
use Rattle.gx_script.specs.declared.Script.{Script}
use Rattle.gx_store.specs.declared.mark.Mark.{Mark}
use Rattle.gx_store.specs.declared.mark.Mark.TheVariants.{Sent}
use Rattle.gx_store.specs.declared.run.Step.{Step}
use Rattle.gx_store.specs.Journals.{is_same_node}
use Rattle.gx_store.specs.Ordered.{AreNumbered, sent_count, sent_in}
use Rattle.gx_store.specs.Refusals.{the_coordinator}
use Rattle.gx_rules.specs.Sending.{counted, counted_all, numbered}
use Rattle.gx_law_order.proofs.AtSegments.{PlainAt}
use Rattle.gx_law_order.specs.Lists.{Each}

abbrev pub at : ℕ → Node
at i = record { 0 = i }

pub sent_count-append : (to : Node) (xs ys : List Mark) → sent_count to (xs ++ ys) ≡ sent_count to xs + sent_count to ys
sent_count-append to [] ys = grind arith
sent_count-append to (Sent t number told ∷ xs) ys = grind (arith, nat_tests, sent_count-append to xs ys)
sent_count-append to (m ∷ xs) ys = sent_count-append to xs ys

-- marks that send nothing
pub plain-count : (script : Script) (node to : Node) (ms : List Mark) → Each (PlainAt script node) ms → sent_count to ms ≡ 0
plain-count script node to [] e = refl
plain-count script node to (Sent t number told ∷ ms) e = absurd e.0
plain-count script node to (m ∷ ms) e = plain-count script node to ms e.1

pub plain-numbered : (script : Script) (node : Node) (steps : List Step) (earlier ms rest : List Mark) → Each (PlainAt script node) ms → AreNumbered node steps (earlier ++ ms) rest → AreNumbered node steps earlier (ms ++ rest)
plain-numbered script node steps earlier [] rest e h = subst (λ x. AreNumbered node steps x rest) (append-nil earlier) h
plain-numbered script node steps earlier (Sent t number told ∷ ms) rest e h = absurd e.0
plain-numbered script node steps earlier (m ∷ ms) rest e h =
    plain-numbered script node steps (earlier ++ m ∷ []) ms rest e.1 (subst (λ x. AreNumbered node steps x rest) (sym (append_assoc earlier (m ∷ []) ms)) h)

-- the next numbers
counted-is : (f : ℕ → ℕ) (o : Out) (number i a b : ℕ) (earlier : List Mark) → (i ≡ o.node.0 → f o.node.0 ≡ a + sent_count (at i) earlier) → f i ≡ a + sent_count (at i) earlier → counted f o i ≡ a + sent_count (at i) (earlier ++ Sent o.node number o.message ∷ [])
counted-is f o number i a b earlier h k = grind (arith, nat_tests, sent_count-append (at i) earlier (Sent o.node number o.message ∷ []))

pub numbered-ok : (node : Node) (steps : List Step) (Q : ℕ → Type 0) (outs : List Out) (f : ℕ → ℕ) (earlier : List Mark) → ((i : ℕ) → Q i → f i ≡ sent_in node (at i) steps + sent_count (at i) earlier) → Each (λ o. Q o.node.0) outs → AreNumbered node steps earlier (numbered f outs)
numbered-ok node steps Q [] f earlier h e = tt
numbered-ok node steps Q (o ∷ outs) f earlier h e = (
  ap (λ x. x + 1) (h o.node.0 e.0),
  numbered-ok node steps Q outs (counted f o) (earlier ++ Sent o.node (f o.node.0 + 1) o.message ∷ [])
      (λ i q. counted-is f o (f o.node.0 + 1) i (sent_in node (at i) steps) 0 earlier (λ same. subst (λ j. f j ≡ sent_in node (at i) steps + sent_count (at i) earlier) same (h i q)) (h i q)) e.1,
)

pub counted-all : (f : ℕ → ℕ) (outs : List Out) (i : ℕ) → counted_all f outs i ≡ f i + sent_count (at i) (numbered f outs)
counted-all f [] i = grind arith
counted-all f (o ∷ outs) i = grind (arith, nat_tests, counted-all (counted f o) outs i)

pub all-counted : (f : ℕ → ℕ) (outs : List Out) → Each (λ o. o.node ≡ the_coordinator) outs → sent_count the_coordinator (numbered f outs) ≡ length outs
all-counted f [] e = refl
all-counted f (o ∷ outs) e = one o (f o.node.0 + 1) (numbered (counted f o) outs) e.0 ∙ ap (λ x. x + 1) (all-counted (counted f o) outs e.1) ∙ next (length outs)
  where
    next : (k : ℕ) → k + 1 ≡ suc k
    next k = omega arith

    one : (o : Out) (number : ℕ) (ms : List Mark) → o.node ≡ the_coordinator → sent_count the_coordinator (Sent o.node number o.message ∷ ms) ≡ sent_count the_coordinator ms + 1
    one o number ms h = subst (λ x. sent_count the_coordinator (Sent x number o.message ∷ ms) ≡ sent_count the_coordinator ms + 1) (sym h) refl

-- what a turn's marks have sent
pub count-both : (script : Script) (node to : Node) (ms ns : List Mark) → Each (PlainAt script node) ms → sent_count to (ms ++ ns) ≡ sent_count to ns
count-both script node to ms ns e = sent_count-append to ms ns ∙ ap (λ x. x + sent_count to ns) (plain-count script node to ms e) ∙ none-plus (sent_count to ns)

-- a step more
pub sent_in-last : (from to : Node) (steps : List Step) (s : Step) → sent_in from to (steps ++ s ∷ []) ≡ sent_in from to steps + (if is_same_node s.stamp.node from then sent_count to s.marks else 0)
sent_in-last from to [] s = grind (arith, nat_tests)
sent_in-last from to (x ∷ steps) s = grind (arith, nat_tests, sent_in-last from to steps s)
