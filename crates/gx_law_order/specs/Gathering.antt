-- What the answer of a command is made of: the answers of segments that were taken, one of each node of its plan.
use Rattle.std.specs.Prelude.{◌≡◌, ℕ, ◌+◌, Bool, true, false, List, [], ◌∷◌, map, Ok}
use Rattle.gx_ids.specs.declared.ids.Cid.{Cid}
use Rattle.gx_ids.specs.declared.ids.Gxid.{Gxid}
use Rattle.gx_ids.specs.declared.ids.Node.{Node}
use Rattle.gx_tree.specs.declared.part.Part.{Part}
use Rattle.gx_tree.specs.declared.stmt.Stmt.{Stmt}
use Rattle.gx_tree.specs.declared.stmt.Stmt.TheVariants as stmt
use Rattle.gx_dtx.specs.Nodes.{has}
use Rattle.gx_msg.specs.declared.message.Message.TheVariants as message
use Rattle.gx_msg.specs.declared.reply.Reply.TheVariants as reply
use Rattle.gx_meaning.specs.Plan.{plan_of}
use Rattle.gx_meaning.specs.declared.piece.Piece.{Piece}
use Rattle.gx_script.specs.declared.Script.{Script}
use Rattle.gx_store.specs.declared.answer.StmtAnswer.{StmtAnswer}
use Rattle.gx_store.specs.declared.answer.StmtAnswer.TheVariants as told
use Rattle.gx_store.specs.Messages.{HasReceived}
use Rattle.gx_store.specs.Points.{Point}
use Rattle.gx_store.specs.Refusals.{the_coordinator}
use Rattle.gx_store.specs.Writes.{dist_of}
use Rattle.gx_rules.specs.AtCoordinator.{nodes_in, table_of}
use Rattle.gx_rules.specs.Fits.{fits_part}
use Rattle.gx_meaning.specs.Merged.{merged_answer}

-- a segment's answer to a command
pub record Taken : Type 0 where
  pub node : Node
  pub wrote : Bool
  pub count : ℕ
  pub part : Part

abbrev pub nodes_taken : List Taken → List Node
nodes_taken taken = map (λ t. t.node) taken

abbrev pub parts_taken : List Taken → List Part
parts_taken taken = map (λ t. t.part) taken

abbrev pub total : List Taken → ℕ
total [] = 0
total (t ∷ ts) = t.count + total ts

-- this holds of each
abbrev pub AreAll : (Taken → Type 0) → List Taken → Type 0
AreAll P [] = Unit {0}
AreAll P (t ∷ ts) = P t × AreAll P ts

-- no node has answered twice
abbrev pub AreApart : List Taken → Type 0
AreApart [] = Unit {0}
AreApart (t ∷ ts) = (has t.node (nodes_taken ts) ≡ false) × AreApart ts

-- the answer from the parts and the number of rows
abbrev pub gathered_answer : Stmt → List Part → ℕ → StmtAnswer
gathered_answer (stmt.Select query) parts count = told.Rows (merged_answer query parts)
gathered_answer (stmt.Insert table tuples) parts count = told.Inserted count
gathered_answer (stmt.Update table assigns cond) parts count = told.Updated count
gathered_answer (stmt.Delete table cond) parts count = told.Deleted count
gathered_answer _ parts count = told.Locked

-- each node of the command's plan has answered once, to the coordinator, and the answer is gathered from these
pub record IsGathered (script : Script) (point : Point) (g : Gxid) (c : Cid) (line : Stmt) (answer : StmtAnswer) : Type 0 where
  pub pieces : List Piece
  pub plan : plan_of script.segments (dist_of script.tables (table_of line)) g c line ≡ Ok pieces
  pub taken : List Taken
  pub received : AreAll (λ t. HasReceived point t.node the_coordinator (message.Answer g (reply.Done c t.wrote t.count t.part))) taken
  pub fits : AreAll (λ t. fits_part line t.part ≡ true) taken
  pub apart : AreApart taken
  pub all : (i : Node) → has i (nodes_in pieces) ≡ has i (nodes_taken taken)
  pub is : answer ≡ gathered_answer line (parts_taken taken) (total taken)
