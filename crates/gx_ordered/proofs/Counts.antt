-- What a step more sends, and when.
use Rattle.std.proofs.Common.{◌≡◌, ℕ, suc, ◌+◌, ◌<◌, Bool, true, false, List, [], ◌∷◌, ◌++◌, length, refl, sym, ap, ◌∙◌, if◌then◌else◌, ◌==◌, ◌&&◌, arith, append-nil, length-append}
use Rattle.std.proofs.lemmas.Bool.Decides.{nat_tests}
use Rattle.std.proofs.lemmas.List.{append_assoc}
use Rattle.gx_lemmas.proofs.Numbers.{none-plus}
use Rattle.gx_ids.specs.declared.ids.Node.{Node}
use Rattle.gx_store.specs.declared.mark.Mark.{Mark}
use Rattle.gx_store.specs.declared.mark.Mark.TheVariants.{Sent}
use Rattle.gx_store.specs.declared.run.Step.{Step}
use Rattle.gx_store.specs.Journals.{is_same_node}
use Rattle.gx_store.specs.Ordered.{clock_of, sent_count, sent_in}
use Rattle.gx_ordered.specs.Links.{clocks_in, clocks_sent}

pub sent_count-append : (to : Node) (xs ys : List Mark) → sent_count to (xs ++ ys) ≡ sent_count to xs + sent_count to ys
sent_count-append to [] ys = grind arith
sent_count-append to (Sent t number told ∷ xs) ys = grind (arith, nat_tests, sent_count-append to xs ys)
sent_count-append to (m ∷ xs) ys = sent_count-append to xs ys

pub clocks_in-append : (clock : ℕ) (to : Node) (xs ys : List Mark) → clocks_in clock to (xs ++ ys) ≡ clocks_in clock to xs ++ clocks_in clock to ys
clocks_in-append clock to [] ys = refl
clocks_in-append clock to (Sent t number told ∷ xs) ys = by_test (is_same_node t to) (clocks_in-append clock to xs ys)
  where
    by_test : (b : Bool) → clocks_in clock to (xs ++ ys) ≡ clocks_in clock to xs ++ clocks_in clock to ys
        → (if b then clock ∷ clocks_in clock to (xs ++ ys) else clocks_in clock to (xs ++ ys)) ≡ (if b then clock ∷ clocks_in clock to xs else clocks_in clock to xs) ++ clocks_in clock to ys
    by_test true e = ap (λ cs. clock ∷ cs) e
    by_test false e = e
clocks_in-append clock to (m ∷ xs) ys = clocks_in-append clock to xs ys

-- there are as many as messages
pub clocks-count : (clock : ℕ) (to : Node) (ms : List Mark) → length (clocks_in clock to ms) ≡ sent_count to ms
clocks-count clock to [] = refl
clocks-count clock to (Sent t number told ∷ ms) = by_test (is_same_node t to) (clocks-count clock to ms)
  where
    more : (n : ℕ) → suc n ≡ n + 1
    more n = omega arith

    by_test : (b : Bool) → length (clocks_in clock to ms) ≡ sent_count to ms → length (if b then clock ∷ clocks_in clock to ms else clocks_in clock to ms) ≡ (if b then sent_count to ms + 1 else sent_count to ms)
    by_test true e = more (length (clocks_in clock to ms)) ∙ ap (λ n. n + 1) e
    by_test false e = e
clocks-count clock to (m ∷ ms) = clocks-count clock to ms

pub all-count : (from to : Node) (steps : List Step) → length (clocks_sent from to steps) ≡ sent_in from to steps
all-count from to [] = refl
all-count from to (s ∷ ss) = by_test (is_same_node s.stamp.node from) (all-count from to ss)
  where
    mine : List ℕ
    mine = clocks_in s.stamp.clock to s.marks

    by_test : (b : Bool) → length (clocks_sent from to ss) ≡ sent_in from to ss → length ((if b then mine else []) ++ clocks_sent from to ss) ≡ (if b then sent_count to s.marks + sent_in from to ss else sent_in from to ss)
    by_test true e = length-append mine (clocks_sent from to ss) ∙ ap (λ n. n + length (clocks_sent from to ss)) (clocks-count s.stamp.clock to s.marks) ∙ ap (λ n. sent_count to s.marks + n) e
    by_test false e = e

pub clocks-last : (from to : Node) (steps : List Step) (s : Step) → clocks_sent from to (steps ++ s ∷ []) ≡ clocks_sent from to steps ++ (if is_same_node s.stamp.node from then clocks_in s.stamp.clock to s.marks else [])
clocks-last from to [] s = append-nil (if is_same_node s.stamp.node from then clocks_in s.stamp.clock to s.marks else [])
clocks-last from to (x ∷ steps) s =
    ap (λ cs. (if is_same_node x.stamp.node from then clocks_in x.stamp.clock to x.marks else []) ++ cs) (clocks-last from to steps s)
    ∙ sym (append_assoc (if is_same_node x.stamp.node from then clocks_in x.stamp.clock to x.marks else []) (clocks_sent from to steps) (if is_same_node s.stamp.node from then clocks_in s.stamp.clock to s.marks else []))

-- THE CLOCK OF A NODE'S LAST STEP
stands : (b : Bool) (clock k : ℕ) → 0 < k → (if b && (k == 0) then clock else k) ≡ k
stands b clock k h = grind (arith, nat_tests)

pub clock_of-same : (node : Node) (steps : List Step) (s : Step) → is_same_node s.stamp.node node ≡ true → 0 < s.stamp.clock → clock_of node (steps ++ s ∷ []) ≡ s.stamp.clock
clock_of-same node [] s e h = grind (arith, nat_tests)
clock_of-same node (x ∷ steps) s e h =
    ap (λ later. if is_same_node x.stamp.node node && (later == 0) then x.stamp.clock else later) (clock_of-same node steps s e h) ∙ stands (is_same_node x.stamp.node node) x.stamp.clock s.stamp.clock h

pub clock_of-other : (node : Node) (steps : List Step) (s : Step) → is_same_node s.stamp.node node ≡ false → clock_of node (steps ++ s ∷ []) ≡ clock_of node steps
clock_of-other node [] s e = grind (arith, nat_tests)
clock_of-other node (x ∷ steps) s e = ap (λ later. if is_same_node x.stamp.node node && (later == 0) then x.stamp.clock else later) (clock_of-other node steps s e)
