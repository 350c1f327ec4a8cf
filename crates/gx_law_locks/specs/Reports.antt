-- Reports of different moments: what is stuck in all of them together.
use Rattle.std.specs.Prelude.{◌≡◌, true, List, ◌++◌, All, Contains}
use Rattle.gx_ids.specs.declared.ids.Gxid.{Gxid}
use Rattle.gx_waits.specs.Closed.{IsClosed, IsNamedIn, IsNamedInStuck, IsWithin}
use Rattle.gx_waits.specs.Finish.{CanFinish}
use Rattle.gx_waits.specs.LocalGraph.{edges_of}
use Rattle.gx_waits.specs.declared.graph.LocalGraph.{LocalGraph}
use Rattle.gx_waits.specs.declared.placed_edge.PlacedEdge.{PlacedEdge}
use Rattle.gx_store.specs.declared.mark.Mark.{Mark}
use Rattle.gx_store.specs.Rounds.{IsBlocked, IsGraphAt, StandsAt, is_active}

-- at some point of these marks the graph had just the edges that stood at its node
pub record IsReported (marks : List Mark) (graph : LocalGraph) : Type 0 where
  pub before : List Mark
  pub later : List Mark
  pub point : marks ≡ before ++ later
  pub tells : IsGraphAt before graph.node graph

-- no two are of one node
abbrev pub AreOneANode : List LocalGraph → Type 0
AreOneANode graphs = (a b : LocalGraph) → Contains graphs a → Contains graphs b → a.node ≡ b.node → a ≡ b

-- Of reports of different nodes, whatever their moments: if whoever is stuck in all of them together is active now, each closed set
-- of their edges is blocked now.
abbrev pub IsStuckBlocked : List Mark → Type 0
IsStuckBlocked marks =
    (graphs : List LocalGraph) → All (IsReported marks) graphs → AreOneANode graphs → ((g : Gxid) → IsNamedInStuck (edges_of graphs) g → is_active marks g ≡ true)
    → (set : List PlacedEdge) → IsClosed set → IsWithin set (edges_of graphs) → IsBlocked marks set

-- whoever is named in a blocked set can't finish, given all edges that stand
abbrev pub IsBlockedForGood : List Mark → Type 0
IsBlockedForGood marks =
    (edges set : List PlacedEdge) → ((e : PlacedEdge) → StandsAt marks e → Contains edges e) → IsBlocked marks set
    → (e : PlacedEdge) (g : Gxid) → Contains set e → IsNamedIn e g → CanFinish edges g → ⊥
