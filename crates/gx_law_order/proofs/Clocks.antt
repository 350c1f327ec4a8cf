-- The clock of a node's last step.
use Rattle.std.proofs.Common.{◌≡◌, ◌<◌, ℕ, List, [], ◌∷◌, ◌++◌, true, false, ap, ◌∙◌, if◌then◌else◌, ◌==◌, ◌&&◌, arith}
use Rattle.std.proofs.lemmas.Bool.Decides.{nat_tests}
use Rattle.gx_ids.specs.declared.ids.Node.{Node}
use Rattle.gx_store.specs.declared.node.NodeEvent.{NodeEvent}
use Rattle.gx_store.specs.declared.run.Step.{Step}
use Rattle.gx_store.specs.Journals.{is_same_node}
use Rattle.gx_store.specs.Ordered.{clock_of}
use Rattle.gx_rules.specs.Sending.{clock_after, heard_in}

abbrev pub earlier_clock : Node → Step → ℕ → ℕ
earlier_clock node x later = if is_same_node x.stamp.node node && (later == 0) then x.stamp.clock else later

stands : (node : Node) (x : Step) (k : ℕ) → 0 < k → earlier_clock node x k ≡ k
stands node x k h = grind (arith, nat_tests)

pub clock_of-same : (node : Node) (steps : List Step) (s : Step) → is_same_node s.stamp.node node ≡ true → 0 < s.stamp.clock → clock_of node (steps ++ s ∷ []) ≡ s.stamp.clock
clock_of-same node [] s e h = grind (arith, nat_tests)
clock_of-same node (x ∷ steps) s e h = ap (earlier_clock node x) (clock_of-same node steps s e h) ∙ stands node x s.stamp.clock h

pub clock_of-other : (node : Node) (steps : List Step) (s : Step) → is_same_node s.stamp.node node ≡ false → clock_of node (steps ++ s ∷ []) ≡ clock_of node steps
clock_of-other node [] s e = grind (arith, nat_tests)
clock_of-other node (x ∷ steps) s e = ap (earlier_clock node x) (clock_of-other node steps s e)

pub clock_after-above : (clock : ℕ) (e : NodeEvent) → clock < clock_after clock e
clock_after-above clock e = grind (arith, nat_tests)

pub clock_after-hears : (clock : ℕ) (e : NodeEvent) → heard_in e < clock_after clock e
clock_after-hears clock e = grind (arith, nat_tests)

pub clock_after-positive : (clock : ℕ) (e : NodeEvent) → 0 < clock_after clock e
clock_after-positive clock e = grind (arith, nat_tests)
