-- What a turn of the rule makes of the coordinator, before its messages are numbered.
use Rattle.std.specs.Prelude.{◌≡◌, ◌≤◌, ℕ, ◌*◌, ◌^◌, ◌==◌, ◌++◌, ◌&&◌, length, Bool, true, false, List, [], ◌∷◌, All, option_map, Some, None}
use Rattle.std.specs.declared.option.Option.{Option}
use Rattle.gx_ids.specs.declared.ids.Cid.{Cid}
use Rattle.gx_ids.specs.declared.ids.Gxid.{Gxid}
use Rattle.gx_ids.specs.declared.ids.Node.{Node}
use Rattle.gx_ids.specs.declared.ids.SessionId.{SessionId}
use Rattle.gx_tree.specs.declared.part.Part.{Part}
use Rattle.gx_tree.specs.declared.stmt.Stmt.{Stmt}
use Rattle.gx_tree.specs.declared.stmt.Stmt.TheVariants as stmt
use Rattle.gx_dtx.specs.Rules.{AreWriters, Turn, nothing}
use Rattle.gx_dtx.specs.Table.{IsActive}
use Rattle.gx_dtx.specs.declared.outcome.DtxOut.{DtxOut}
use Rattle.gx_dtx.specs.declared.outcome.Outcome.{Outcome}
use Rattle.gx_dtx.specs.declared.outcome.Outcome.TheVariants as outcome
use Rattle.gx_dtx.specs.Nodes.{has}
use Rattle.gx_dtx.specs.declared.status.Status.{Status}
use Rattle.gx_dtx.specs.declared.status.Status.TheVariants as status
use Rattle.gx_msg.specs.declared.message.Message.{Message}
use Rattle.gx_msg.specs.declared.message.Out.{Out}
use Rattle.gx_store.specs.declared.answer.StmtAnswer.{StmtAnswer}
use Rattle.gx_store.specs.declared.answer.StmtAnswer.TheVariants as told
use Rattle.gx_store.specs.declared.mark.Mark.{Mark}
use Rattle.gx_script.specs.Session.{IsIdle}
use Rattle.gx_script.specs.declared.state.Block.{Block}
use Rattle.gx_script.specs.declared.state.Block.TheVariants as block
use Rattle.gx_rules.specs.AtCoordinator.{is_awaited, order_to, with_done, writers_with}
use Rattle.gx_rules.specs.Coordinators as rule
use Rattle.gx_rules.specs.Fits.{fits_part}
use Rattle.gx_meaning.specs.Merged.{merged_answer}
use Rattle.gx_coord.specs.declared.coord.Coord.{Coord}
use Rattle.gx_coord.specs.Books.{IsFramed, coord_of}

pub record IsTurn (old new : Coord) (before after : List Mark) (turn : rule.CoordTurn) : Type 0 where
  pub framed : IsFramed old new
  pub coord : coord_of new ≡ turn.coord
  pub marks : after ≡ before ++ turn.marks

-- a call on the transactions that has led to what is held now
abbrev pub called : Coord → DtxOut → Turn
called k out = record { table = k.dtx; out = out }

abbrev pub has_called : Coord → Turn
has_called k = called k nothing

-- the session of a transaction waits for its line's answer
abbrev pub IsBusy : rule.Coord → ℕ → Type 0
IsBusy c g = IsIdle (c.sessions (c.works g).session.0).state → ⊥

-- whether a line has its answer by this outcome
abbrev pub answers_line : Outcome → Bool
answers_line outcome.Committed = true
answers_line (outcome.Refused i) = true
answers_line _ = false

-- what a command is answered with this count and these parts
abbrev pub told_by : Stmt → ℕ → List Part → StmtAnswer
told_by (stmt.Select query) count parts = told.Rows (merged_answer query parts)
told_by (stmt.Insert table tuples) count parts = told.Inserted count
told_by (stmt.Update table assigns cond) count parts = told.Updated count
told_by (stmt.Delete table cond) count parts = told.Deleted count
told_by _ count parts = told.Locked

-- the parts have the form that the statement asks for
abbrev pub AreFit : Stmt → List Part → Type 0
AreFit line parts = All (λ part. fits_part line part ≡ true) parts

-- ANSWERS TO COMMANDS
-- the command awaits this node's answer
abbrev pub asks : Option rule.Command → Node → Cid → Bool
asks None i cid = false
asks (Some k) i cid = is_awaited k i cid

-- and the answer's part fits
abbrev pub takes : Option rule.Command → Node → Cid → Part → Bool
takes None i cid part = false
takes (Some k) i cid part = is_awaited k i cid && fits_part k.stmt part

-- no answer is awaited any more
abbrev pub is_none : List Node → Bool
is_none [] = true
is_none (i ∷ is) = false

abbrev pub is_over : Option rule.Command → Bool
is_over None = true
is_over (Some k) = is_none k.awaited

-- the answer is noted
abbrev pub done_work : rule.Work → Node → Bool → ℕ → Part → rule.Work
done_work w i wrote count part = record w { writers = writers_with wrote i w.writers; command = option_map (λ k. with_done k i count part) w.command }

-- ANSWERS FOR A STATUS
-- the nodes whose answers are awaited
abbrev pub left_in : Option rule.Command → List Node
left_in None = []
left_in (Some k) = k.awaited

-- its parts have the form that its statement asks for
abbrev pub IsFit : Option rule.Command → Type 0
IsFit None = Unit {0}
IsFit (Some k) = AreFit k.stmt k.parts

-- the transaction may commit
pub record IsReady (c : rule.Coord) (g : Gxid) : Type 0 where
  pub active : IsActive c.table g
  pub writers : AreWriters c.table g (c.works g.0).writers
  pub busy : IsBusy c g.0
  pub fits : IsFit (c.works g.0).command

-- MESSAGES SENT AGAIN
abbrev pub has_order : Option rule.Command → Node → Bool
has_order None i = false
has_order (Some k) i = has i k.awaited

abbrev pub order_in : Option rule.Command → Node → Option Message
order_in None i = None
order_in (Some k) i = order_to i k.orders

-- THE END OF A SESSION
-- the transaction of an open block runs
abbrev pub RunsIn : rule.Coord → Gxid → Block → Type 0
RunsIn c g (block.Open level) = IsActive c.table g
RunsIn c g _ = Unit {0}

abbrev pub CanEnd : rule.Coord → SessionId → Type 0
CanEnd c s = RunsIn c (c.sessions s.0).transaction (c.sessions s.0).state.block

-- each part has raised the count by less than 2^64
abbrev pub AreCounted : Option rule.Command → Type 0
AreCounted None = Unit {0}
AreCounted (Some k) = k.count ≤ 2 ^ 64 * length k.parts

-- VICTIMS
abbrev pub is_active : Option Status → Bool
is_active (Some status.Active) = true
is_active _ = false

-- what a step has come to so far; its item stands elsewhere
abbrev pub so_far : rule.Coord → List Mark → List Out → rule.CoordTurn
so_far c marks outs = record { coord = c; marks = marks; outs = outs; item = None }

-- the same without its messages, which its marks tell
abbrev pub untold : rule.CoordTurn → rule.CoordTurn
untold turn = record turn { outs = [] }
