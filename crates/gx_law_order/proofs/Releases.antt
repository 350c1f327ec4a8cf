-- What holds of each lock that is given back holds of all that are given back at an end.
use Rattle.std.proofs.Common.{List, [], ◌∷◌}
use Rattle.gx_ids.specs.declared.ids.Gxid.{Gxid}
use Rattle.gx_ids.specs.declared.ids.Node.{Node}
use Rattle.gx_waits.specs.declared.claim.Claim.{Claim}
use Rattle.gx_locks.specs.Locks.{Locks}
use Rattle.gx_store.specs.declared.mark.Mark.{Mark}
use Rattle.gx_rules.specs.Locks.{has_there, release_mark, release_marks}
use Rattle.gx_law_order.proofs.Lists.{each_map}
use Rattle.gx_law_order.specs.Lists.{Each}

each-all : {A : Type 0} (P : A → Type 0) → ((x : A) → P x) → (xs : List A) → Each P xs
each-all P f [] = tt
each-all P f (x ∷ xs) = (f x, each-all P f xs)

pub each-released : (P : Mark → Type 0) (node : Node) (locks : Locks) (g : Gxid) → ((claim : Claim) → P (release_mark node claim)) → Each P (release_marks node locks g)
each-released P node locks g f = each_map P (release_mark node) (has_there locks g) (each-all (λ claim. P (release_mark node claim)) f (has_there locks g))
