-- A small run over one segment, as histories of its nodes: a session begins a block and locks a table there.
use Rattle.std.specs.Prelude.{◌≡◌, List, [], ◌∷◌, ◌++◌, get_or, map}
use Rattle.std.specs.List.Sorted.{IsStrictlySortedBy}
use Rattle.std.specs.Ordering.{nat_cmp, ordering_then}
use Rattle.std.specs.declared.cmp.Ordering.{Ordering}
use Rattle.gx_ids.specs.declared.ids.Node.{Node}
use Rattle.gx_ids.specs.declared.stamp.Stamp.{Stamp}
use Rattle.gx_script.specs.declared.Script.{Script}
use Rattle.gx_store.specs.declared.event.Event.TheVariants.{Round}
use Rattle.gx_store.specs.declared.run.Step.{Step}
use Rattle.gx_store.specs.Ordered.{AreOrdered}
use Rattle.gx_store.specs.Refusals.{the_coordinator}
use Rattle.gx_rules.specs.Machine.{new_world}
use Rattle.gx_rules.specs.RoundRuns.{begins, locks_table}
use Rattle.gx_rules.specs.Rows.{at_two, drives, never}
use Rattle.gx_law_merge.specs.Merge.{DoFit, IsMergeOf, history_of, own_steps}

abbrev pub one_lock : Script
one_lock = record (at_two 1 (begins 0 ∷ locks_table 0 2 0 ∷ []) []) { segments = 1 }

-- the coordinator's steps have the clocks 1, 2 and 4, the segment's has 3
abbrev pub locked_run : List Step
locked_run = (drives 4 one_lock never new_world).steps

abbrev pub no_step : Step
no_step = record { stamp = record { clock = 0; node = the_coordinator }; event = Round; marks = [] }

abbrev pub the_segment : Node
the_segment = record { 0 = 1 }

abbrev pub locked_histories : List (List Step)
locked_histories = own_steps the_coordinator locked_run ∷ own_steps the_segment locked_run ∷ []

pub record IsMerged : Type 0 where
  pub fit : DoFit one_lock locked_histories
  pub merge : IsMergeOf locked_histories locked_run

-- BY NODE FIRST
-- the same steps in another order: node by node
abbrev pub node_order : Stamp → Stamp → Ordering
node_order a b = ordering_then (nat_cmp a.node.0 b.node.0) (nat_cmp a.clock b.clock)

pub record IsListOf (histories : List (List Step)) (steps : List Step) : Type 0 where
  pub rising : IsStrictlySortedBy node_order (map (λ s. s.stamp) steps)
  pub own : (node : Node) → own_steps node steps ≡ history_of histories node

abbrev pub by_node_first : List Step
by_node_first = own_steps the_coordinator locked_run ++ own_steps the_segment locked_run

-- These list the histories too, and are no run: the coordinator receives what hasn't been sent.
pub record IsNoRun : Type 0 where
  pub list : IsListOf locked_histories by_node_first
  pub refused : AreOrdered one_lock [] by_node_first → ⊥

-- TOO LOW A CLOCK
-- the segment receives at the clock at which the coordinator has sent
abbrev pub low_receipt : Step
low_receipt = record (get_or (own_steps the_segment locked_run) 0 no_step) { stamp = record { clock = 2; node = the_segment } }

abbrev pub low_histories : List (List Step)
low_histories = own_steps the_coordinator locked_run ∷ (low_receipt ∷ []) ∷ []

-- They don't fit.
pub record IsTooLow : Type 0 where
  pub refused : DoFit one_lock low_histories → ⊥
