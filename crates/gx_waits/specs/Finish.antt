-- Which transactions can finish: plans of lawful moves.
use Rattle.std.specs.Prelude.{◌≡◌, List, [], ◌∷◌, IsTrue, Contains, ◌⊎◌}
use Rattle.gx_ids.specs.declared.ids.Node.{Node}
use Rattle.gx_ids.specs.declared.ids.Gxid.{Gxid}
use Rattle.gx_waits.specs.declared.placed_edge.PlacedEdge.{PlacedEdge}

-- a transaction ends, or gives back its tuple lock on a node
pub data Move : Type 0 where
  End : (v : Gxid) → Move
  Back : (node : Node) (v : Gxid) → Move

-- the moves that came before let the edge's waiter go on: the holder ended, or gave back the tuple lock on that node
abbrev pub IsLet : List Move → PlacedEdge → Type 0
IsLet before e = Contains before (End e.edge.holder) ⊎ (IsTrue e.edge.dotted × Contains before (Back e.node e.edge.holder))

-- a transaction may end where all its edges were let go, and give back a tuple lock on a node where all its edges there were
abbrev pub IsLawful : List PlacedEdge → List Move → Move → Type 0
IsLawful edges before (End v) = (e : PlacedEdge) → Contains edges e → e.edge.waiter ≡ v → IsLet before e
IsLawful edges before (Back node v) = (e : PlacedEdge) → Contains edges e → e.node ≡ node → e.edge.waiter ≡ v → IsLet before e

-- each move is lawful after those before it; the last move stands first
abbrev pub IsPlan : List PlacedEdge → List Move → Type 0
IsPlan edges [] = Unit {0}
IsPlan edges (move ∷ before) = IsLawful edges before move × IsPlan edges before

-- some plan ends the transaction
abbrev pub CanFinish : List PlacedEdge → Gxid → Type 0
CanFinish edges v = (plan : List Move) × IsPlan edges plan × Contains plan (End v)
