-- A lock that is asked for at a node, and a wait that is resumed there.
use Rattle.std.specs.Prelude.{Bool, true, false, List, [], ◌∷◌, ◌++◌, Some, None}
use Rattle.std.specs.declared.option.Option.{Option}
use Rattle.gx_ids.specs.declared.ids.Gxid.{Gxid}
use Rattle.gx_ids.specs.declared.ids.Node.{Node}
use Rattle.gx_waits.specs.declared.claim.Claim.{Claim}
use Rattle.gx_waits.specs.declared.object.Object.{Object}
use Rattle.gx_waits.specs.declared.object.Object.TheVariants.{Relation, Transaction, Tuple}
use Rattle.gx_locks.specs.Locks.{Locks, resumed}
use Rattle.gx_store.specs.declared.mark.Mark.{Mark}
use Rattle.gx_rules.specs.Locks.{hold_mark, release_mark, wait_mark, with_hold, with_wait, without_hold}

-- a table or a row is claimed, and no transaction
abbrev pub is_on_transaction : Object → Bool
is_on_transaction (Relation table) = false
is_on_transaction (Tuple rid) = false
is_on_transaction (Transaction other) = true

-- a request that is granted or not
abbrev pub asked_locks : Locks → Claim → Bool → Locks
asked_locks locks wanted true = with_hold locks wanted
asked_locks locks wanted false = with_wait locks wanted

abbrev pub asked_mark : Node → Claim → Bool → Mark
asked_mark node wanted true = hold_mark node wanted
asked_mark node wanted false = wait_mark node wanted

-- a wait that is a hold from now on
abbrev pub resumed_marks : Node → Option Claim → List Mark
resumed_marks node None = []
resumed_marks node (Some wait) = hold_mark node wait ∷ []

-- a lock on another transaction's end is given back at once
abbrev pub unless_end : Claim → Object → Locks → Locks
unless_end wait (Transaction other) locks = without_hold locks wait
unless_end wait _ locks = locks

abbrev pub without_end : Locks → Option Claim → Locks
without_end locks None = locks
without_end locks (Some wait) = unless_end wait wait.object locks

abbrev pub marks_on_end : Node → Claim → Object → List Mark
marks_on_end node wait (Transaction other) = release_mark node wait ∷ []
marks_on_end node wait _ = []

abbrev pub end_marks : Node → Option Claim → List Mark
end_marks node None = []
end_marks node (Some wait) = marks_on_end node wait wait.object

-- what was waited for is granted
abbrev pub granted_locks : Locks → Gxid → Option Claim → Locks
granted_locks locks g wait = without_end (resumed locks g wait) wait

abbrev pub granted_marks : Node → Option Claim → List Mark
granted_marks node wait = resumed_marks node wait ++ end_marks node wait
