-- What the answers of INSERTs say.
use Rattle.std.specs.Prelude.{ℕ, List, [], ◌∷◌, ◌++◌}
use Rattle.gx_ids.specs.declared.ids.Cid.{Cid}
use Rattle.gx_ids.specs.declared.ids.Gxid.{Gxid}
use Rattle.gx_ids.specs.declared.ids.SessionId.{SessionId}
use Rattle.gx_tree.specs.declared.stmt.Level.{Level}
use Rattle.gx_tree.specs.declared.stmt.Stmt.{Stmt}
use Rattle.gx_script.specs.declared.Script.{Script}
use Rattle.gx_store.specs.declared.answer.StmtAnswer.{StmtAnswer}
use Rattle.gx_store.specs.declared.answer.StmtAnswer.TheVariants as told
use Rattle.gx_store.specs.declared.mark.Mark.{Mark}
use Rattle.gx_store.specs.declared.mark.Mark.TheVariants as mark
use Rattle.gx_store.specs.declared.run.Step.{Step}
use Rattle.gx_store.specs.Answers.{Tells}
use Rattle.gx_store.specs.Commands.{RunsCommand}
use Rattle.gx_store.specs.Points.{Point, before}
use Rattle.gx_law_order.specs.Rest.{EachMark}

-- the command under way at the point has inserted so many rows
abbrev pub HasInserted : Script → Point → SessionId → ℕ → Type 0
HasInserted script point session n =
    (stmt : Stmt) (level : Level) (g : Gxid) (c : Cid) → RunsCommand script point session stmt level g c → Tells script (before point) level g c stmt (told.Inserted n)

-- an INSERT that has succeeded did what its answer says
abbrev pub IsInsertTold : Script → Point → SessionId → StmtAnswer → Type 0
IsInsertTold script point session (told.Inserted n) = HasInserted script point session n
IsInsertTold script point session _ = Unit {0}

abbrev pub InsertTold : Script → Point → Mark → Type 0
InsertTold script point (mark.Answer session number answer) = IsInsertTold script point session answer
InsertTold script point _ = Unit {0}

-- each that is answered in these steps, behind the steps before
abbrev pub AreInsertsTold : Script → List Step → List Step → Type 0
AreInsertsTold script before [] = Unit {0}
AreInsertsTold script before (s ∷ ss) = EachMark (InsertTold script) before s.event [] s.marks [] × AreInsertsTold script (before ++ s ∷ []) ss
