-- What makes a command done, part by part.
use Rattle.std.specs.Prelude.{◌↔◌, List, map, Contains}
use Rattle.gx_ids.specs.declared.ids.Cid.{Cid}
use Rattle.gx_ids.specs.declared.ids.Gxid.{Gxid}
use Rattle.gx_ids.specs.declared.ids.Node.{Node}
use Rattle.gx_meaning.specs.declared.piece.Piece.{Piece}
use Rattle.gx_script.specs.declared.Script.{Script}
use Rattle.gx_store.specs.declared.answer.StmtAnswer.{StmtAnswer}
use Rattle.gx_store.specs.Answers.{GoesTo, IsAtItsEnd, Tells}
use Rattle.gx_store.specs.Lines.{BlockState, cid_of, level_of}
use Rattle.gx_store.specs.Points.{Point, before}
use Rattle.gx_store.specs.Protocol.{IsReturned}
use Rattle.gx_tree.specs.declared.stmt.Stmt.{Stmt}

abbrev pub node_of : Piece → Node
node_of piece = piece.node

-- these pieces are for the nodes to which the command goes
abbrev pub AreSent : Script → Gxid → Cid → Stmt → List Piece → Type 0
AreSent script g c line pieces = (node : Node) → GoesTo script g c line node ↔ Contains (map node_of pieces) node

-- the node of the piece has answered that it is done
abbrev pub IsPieceBack : Point → Gxid → Cid → Piece → Type 0
IsPieceBack point g c piece = IsReturned point g c piece.node

-- each node to which the command goes has
abbrev pub IsBack : Script → Point → Gxid → Cid → Stmt → Type 0
IsBack script point g c line = (node : Node) → GoesTo script g c line node → IsReturned point g c node

-- the transaction's command did what its answer says, which stands where it may
abbrev pub HasSucceededBy : Script → Point → BlockState → Gxid → Stmt → StmtAnswer → Type 0
HasSucceededBy script point state g line answer = IsAtItsEnd state point g × Tells script (before point) (level_of state) g (cid_of state) line answer
