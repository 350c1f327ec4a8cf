-- Whose locks on transactions stand at a segment, and the one that a writer takes on itself.
use Rattle.std.specs.Prelude.{◌≡◌, ◌==◌, Bool, true, List, [], ◌∷◌}
use Rattle.std.specs.List.{list_all}
use Rattle.gx_ids.specs.declared.ids.Gxid.{Gxid}
use Rattle.gx_ids.specs.declared.ids.Node.{Node}
use Rattle.gx_waits.specs.declared.claim.Claim.{Claim}
use Rattle.gx_waits.specs.declared.object.Object.{Object}
use Rattle.gx_waits.specs.declared.object.Object.TheVariants.{Relation, Transaction, Tuple}
use Rattle.gx_locks.specs.Locks.{Locks}
use Rattle.gx_store.specs.declared.mark.Mark.{Mark}
use Rattle.gx_rules.specs.Locks.{hold_mark, with_hold}
use Rattle.gx_rules.specs.Segments.{Phase, Reading}
use Rattle.gx_rules.specs.Slices.{own_lock}

-- a transaction that is claimed is the claim's own
abbrev pub is_own_on : Gxid → Object → Bool
is_own_on g (Relation table) = true
is_own_on g (Tuple rid) = true
is_own_on g (Transaction other) = other.0 == g.0

abbrev pub is_own : Claim → Bool
is_own claim = is_own_on claim.gxid claim.object

-- a transaction is held by itself alone
abbrev pub AreOwn : List Claim → Type 0
AreOwn holds = list_all is_own holds ≡ true

-- who has written nothing here takes its own lock
abbrev pub own_locks : Gxid → Phase → Locks → Locks
own_locks g Reading locks = with_hold locks (own_lock g)
own_locks g _ locks = locks

abbrev pub own_marks : Node → Gxid → Phase → List Mark
own_marks node g Reading = hold_mark node (own_lock g) ∷ []
own_marks node g _ = []
