-- Whom to abort, so that nobody is stuck.
use Rattle.std.specs.Prelude.{◌≡◌, ◌≤◌, ◌<◌, List, [], ◌∷◌, All, Any, Contains, filter, not}
use Rattle.gx_ids.specs.declared.ids.Gxid.{Gxid}
use Rattle.gx_waits.specs.declared.placed_edge.PlacedEdge.{PlacedEdge}
use Rattle.gx_waits.specs.declared.verdict.Verdict.{Verdict}
use Rattle.gx_waits.specs.declared.verdict.Verdict.TheVariants.{Nothing, Dropped, Victims}
use Rattle.gx_waits.specs.Edge.{names}
use Rattle.gx_waits.specs.Closed.{IsNamed, IsNamedIn, IsNamedInStuck, IsStuck}

-- a part of the stuck edges in which each waiter is waited for
pub record IsCorePart (edges part : List PlacedEdge) : Type 0 where
  pub stuck : All (λ e. IsStuck edges e) part
  pub waited_for : All (λ e. Any (λ f. f.edge.holder ≡ e.edge.waiter) part) part

-- the edge is in the largest such part, the union of them all
pub record IsInCore (edges : List PlacedEdge) (e : PlacedEdge) : Type 0 where
  pub part : List PlacedEdge
  pub is_part : IsCorePart edges part
  pub member : Contains part e

abbrev pub IsNamedInCore : List PlacedEdge → Gxid → Type 0
IsNamedInCore edges v = (e : PlacedEdge) × IsInCore edges e × IsNamedIn e v

-- the greatest transaction named in the core
pub record IsGreatestInCore (edges : List PlacedEdge) (v : Gxid) : Type 0 where
  pub named : IsNamedInCore edges v
  pub greatest : (w : Gxid) → IsNamedInCore edges w → w.0 ≤ v.0

-- nobody where nothing is stuck; else the greatest of the core, and then the victims of what is left without it
abbrev pub AreVictims : List PlacedEdge → List Gxid → Type 0
AreVictims edges [] = (e : PlacedEdge) → IsStuck edges e → ⊥
AreVictims edges (v ∷ victims) = IsGreatestInCore edges v × AreVictims (filter (λ e. not (names v e.edge)) edges) victims

-- a stuck transaction that isn't active, and no lesser one is
pub record IsLeastInactive (edges : List PlacedEdge) (active : List Gxid) (v : Gxid) : Type 0 where
  pub stuck : IsNamedInStuck edges v
  pub inactive : Contains active v → ⊥
  pub least : (w : Gxid) → IsNamedInStuck edges w → w.0 < v.0 → Contains active w

-- what a round of the detector decides of the edges, given the active transactions
abbrev pub IsVerdict : List PlacedEdge → List Gxid → Verdict → Type 0
IsVerdict edges active Nothing = (e : PlacedEdge) → IsStuck edges e → ⊥
IsVerdict edges active (Dropped v) = IsLeastInactive edges active v
IsVerdict edges active (Victims victims) = ((e : PlacedEdge) × IsStuck edges e) × ((v : Gxid) → IsNamedInStuck edges v → Contains active v) × AreVictims edges victims

-- the youngest transaction that a set of waits names, since later ones have greater numbers
pub record IsYoungest (set : List PlacedEdge) (v : Gxid) : Type 0 where
  pub member : IsNamed set v
  pub youngest : (w : Gxid) → IsNamed set w → w.0 ≤ v.0
