-- What the coordinator's table keeps.
use Rattle.std.specs.Prelude.{◌≡◌, ℕ, ◌<◌, true, false, List, [], ◌∷◌, Option, None, Some}
use Rattle.gx_ids.specs.declared.ids.Gxid.{Gxid}
use Rattle.gx_dtx.specs.declared.txn.Txn.{Txn}
use Rattle.gx_dtx.specs.Table.{Table, find_txn, runs}

-- the number is below that of each transaction
abbrev pub IsBelowAll : ℕ → List (Gxid × Txn) → Type 0
IsBelowAll n [] = Unit {0}
IsBelowAll n (e ∷ es) = (n < e.0.0) × IsBelowAll n es

-- each transaction's number is below those after it
abbrev pub AreRisen : List (Gxid × Txn) → Type 0
AreRisen [] = Unit {0}
AreRisen (e ∷ es) = IsBelowAll e.0.0 es × AreRisen es

-- each transaction's number is at least 1 and below the next
abbrev pub AreDrawn : ℕ → List (Gxid × Txn) → Type 0
AreDrawn next [] = Unit {0}
AreDrawn next (e ∷ es) = (0 < e.0.0) × (e.0.0 < next) × AreDrawn next es

-- this is the greatest gxid that has ended: none has, or this one isn't running and all that were drawn later are
abbrev pub IsLatest : Table → Option Gxid → Type 0
IsLatest d None = (g : Gxid) → 0 < g.0 → g.0 < d.next.0 → runs (find_txn d g) ≡ true
IsLatest d (Some e) =
    (0 < e.0) × (e.0 < d.next.0) × (runs (find_txn d e) ≡ false) × ((g : Gxid) → e.0 < g.0 → g.0 < d.next.0 → runs (find_txn d g) ≡ true)

-- the transactions rise and were drawn, and the greatest gxid that has ended is known
pub record IsWhole (d : Table) : Type 0 where
  pub first : 0 < d.next.0
  pub risen : AreRisen d.txns
  pub drawn : AreDrawn d.next.0 d.txns
  pub latest : IsLatest d d.latest_ended
