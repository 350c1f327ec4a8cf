-- How often messages are received, and how many a segment sends, by what has happened.
use Rattle.std.specs.Prelude.{◌≤◌, ℕ, ◌*◌, Bool, false, ◌&&◌, List, [], ◌∷◌, ◌++◌, length, filter, Contains}
use Rattle.gx_ids.specs.declared.ids.Node.{Node}
use Rattle.gx_script.specs.declared.Script.{Script}
use Rattle.gx_store.specs.Journals.{is_same_node}
use Rattle.gx_store.specs.Ordered.{sent_in}
use Rattle.gx_store.specs.Refusals.{the_coordinator}
use Rattle.gx_store.specs.Schedule.{enabled}
use Rattle.gx_store.specs.declared.event.Event.{Event}
use Rattle.gx_store.specs.declared.event.Event.TheVariants.{Receive}
use Rattle.gx_store.specs.declared.run.Step.{Step}

-- RECEIPTS
abbrev pub is_receipt_on : Node → Node → Event → Bool
is_receipt_on from to (Receive f t number) = is_same_node f from && is_same_node t to
is_receipt_on from to _ = false

abbrev pub receipts_on : Node → Node → List Step → ℕ
receipts_on from to steps = length (filter (λ step. is_receipt_on from to step.event) steps)

-- each step does what was enabled where the steps before it have led
abbrev pub AreEnabled : Script → List Step → List Step → Type 0
AreEnabled script before [] = Unit {0}
AreEnabled script before (s ∷ ss) = Contains (enabled script before) s.event × AreEnabled script (before ++ s ∷ []) ss

-- on each link there are at most two for each message that was sent
abbrev pub AreReceiptsFew : List Step → Type 0
AreReceiptsFew steps = (from to : Node) → receipts_on from to steps ≤ 2 * sent_in from to steps

-- WHAT A SEGMENT SENDS
abbrev pub steps_at : Node → List Step → ℕ
steps_at node steps = length (filter (λ step. is_same_node step.stamp.node node) steps)

-- one message at most for each of its steps
abbrev pub AreAnswersFew : List Step → Type 0
AreAnswersFew steps = (segment : Node) → 1 ≤ segment.0 → sent_in segment the_coordinator steps ≤ steps_at segment steps
