-- Why a transaction is a victim: it is the youngest of a deadlock.
use Rattle.std.specs.Prelude.{◌≡◌, List, [], ◌∷◌, All, Any, Contains, filter, not}
use Rattle.gx_ids.specs.declared.ids.Gxid.{Gxid}
use Rattle.gx_waits.specs.declared.placed_edge.PlacedEdge.{PlacedEdge}
use Rattle.gx_waits.specs.declared.verdict.Verdict.{Verdict}
use Rattle.gx_waits.specs.declared.verdict.Verdict.TheVariants.{Nothing, Victims}
use Rattle.gx_waits.specs.Closed.{IsClosed, IsNamed, IsWithin}
use Rattle.gx_waits.specs.Edge.{names}
use Rattle.gx_waits.specs.Finish.{CanFinish}
use Rattle.gx_waits.specs.Victims.{IsInCore, IsYoungest}

-- a closed set of waits, all of whose members are waited for, and none of whom can finish; no other wait of the core is
-- left out, so that it holds all deadlocks there are
pub record IsDeadlock (edges set : List PlacedEdge) : Type 0 where
  pub standing : IsWithin set edges
  pub closed : IsClosed set
  pub waited_for : All (λ e. Any (λ f. f.edge.holder ≡ e.edge.waiter) set) set
  pub never : (v : Gxid) → IsNamed set v → CanFinish edges v → ⊥
  pub whole : (e : PlacedEdge) → IsInCore edges e → Contains set e

-- the transaction is the youngest of a deadlock
pub record IsVictim (edges : List PlacedEdge) (v : Gxid) : Type 0 where
  pub set : List PlacedEdge
  pub deadlock : IsDeadlock edges set
  pub youngest : IsYoungest set v

-- each is a victim among the waits that name nobody before it
abbrev pub AreVictimsInTurn : List PlacedEdge → List Gxid → Type 0
AreVictimsInTurn edges [] = Unit {0}
AreVictimsInTurn edges (v ∷ victims) = IsVictim edges v × AreVictimsInTurn (filter (λ e. not (names v e.edge)) edges) victims

-- so are those whom a verdict names
abbrev pub NamesVictims : List PlacedEdge → Verdict → Type 0
NamesVictims edges (Victims victims) = AreVictimsInTurn edges victims
NamesVictims edges _ = Unit {0}

-- the verdict that names these victims, if there are any
abbrev pub naming : List Gxid → Verdict
naming [] = Nothing
naming (v ∷ victims) = Victims (v ∷ victims)
