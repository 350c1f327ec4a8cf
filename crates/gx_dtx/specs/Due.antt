-- What an answer asks for, and how a call changes a transaction where it stands.
use Rattle.std.specs.Prelude.{◌≡◌, Bool, true, false, List, [], ◌==◌, if◌then◌else◌}
use Rattle.std.specs.List.{list_all}
use Rattle.gx_ids.specs.declared.ids.Gxid.{Gxid}
use Rattle.gx_ids.specs.declared.ids.Node.{Node}
use Rattle.gx_msg.specs.declared.reply.Reply.{Reply}
use Rattle.gx_dtx.specs.Nodes.{has, without}
use Rattle.gx_dtx.specs.Rules.{with_txn, moved, stays, goes_to, leaves, decides, ends_committed, refuses, is_awaited, takes}
use Rattle.gx_dtx.specs.declared.change.Change.{Change}
use Rattle.gx_dtx.specs.declared.change.Step.{Step}
use Rattle.gx_dtx.specs.declared.change.Step.TheVariants.{Stays, GoesTo, Leaves}
use Rattle.gx_dtx.specs.declared.due.Due.{Due}
use Rattle.gx_dtx.specs.declared.due.Due.TheVariants as due
use Rattle.gx_dtx.specs.declared.outcome.Outcome.TheVariants as outcome
use Rattle.gx_dtx.specs.declared.phase.Phase.{Phase}
use Rattle.gx_dtx.specs.declared.phase.Phase.TheVariants.{Active, Preparing, CommittingOne, CommittingTwo, Ended, Aborting}
use Rattle.gx_dtx.specs.declared.taken.Taken.{Taken}
use Rattle.gx_dtx.specs.declared.txn.Txn.{Txn}

-- the phase without an answer of the node that is awaited
abbrev pub struck : Node → Phase → Phase
struck i Active = Active
struck i (Preparing writers awaited) = Preparing writers (without i awaited)
struck i (CommittingOne w) = CommittingOne w
struck i (CommittingTwo awaited) = CommittingTwo (without i awaited)
struck i (Ended awaited) = Ended (without i awaited)
struck i (Aborting awaited) = Aborting (without i awaited)

-- the writers that are asked to prepare
abbrev pub writers_in : Phase → List Node
writers_in (Preparing writers _) = writers
writers_in _ = []

-- what an answer makes of a transaction of these participants and this phase
abbrev pub answered : Gxid → List Node → Node → Bool → Phase → Reply → Change
answered g participants i refused p answer = if is_awaited p i answer then takes g participants i refused p answer else stays

-- what is due makes this of it
abbrev pub change_due : Due → Gxid → List Node → Node → Bool → Phase → Change
change_due due.Nothing g participants i refused p = stays
change_due due.Wait g participants i refused p = goes_to (struck i p) [] outcome.Pending
change_due due.Decision g participants i refused p = decides g (writers_in p) participants refused
change_due due.Commit g participants i refused p = ends_committed g participants
change_due due.Abort g participants i refused p = refuses g participants i
change_due due.Forgotten g participants i refused p = leaves outcome.Pending
change_due due.Aborted g participants i refused p = leaves outcome.Ended

abbrev pub is_decision : Due → Bool
is_decision due.Decision = true
is_decision _ = false

-- no other node is one of these
abbrev pub is_only : Node → List Node → Bool
is_only i nodes = list_all (λ j. j.0 == i.0) nodes

-- what is due once no answer of another node is awaited
abbrev pub once_all : Node → List Node → Due → Due
once_all i awaited last = if has i awaited then (if is_only i awaited then last else due.Wait) else due.Nothing

-- ---- in place

-- the transaction after a step, as long as it stands in the table
abbrev pub stepped : Step → Txn → Txn
stepped Stays t = t
stepped (GoesTo p) t = moved p t
stepped Leaves t = t

abbrev pub is_leaving : Step → Bool
is_leaving Leaves = true
is_leaving _ = false

-- the change is made of a transaction
pub record IsMade (c : Change) (old new : Txn) (taken : Taken) : Type 0 where
  pub txn : new ≡ stepped c.step old
  pub leaves : taken.leaves ≡ is_leaving c.step
  pub out : taken.out ≡ c.out

-- the change is made of the transaction of this gxid, if there is one
pub record AreMade (c : Change) (old new : List (Gxid × Txn)) (g : Gxid) (taken : Taken) : Type 0 where
  pub txns : new ≡ with_txn old g (stepped c.step)
  pub leaves : taken.leaves ≡ is_leaving c.step
  pub out : taken.out ≡ c.out
