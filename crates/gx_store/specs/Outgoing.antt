-- An INSERT goes out to a segment only where its constants have values.
use Rattle.std.specs.Prelude.{List, [], ◌∷◌, ◌++◌, All}
use Rattle.gx_ids.specs.declared.ids.SessionId.{SessionId}
use Rattle.gx_ids.specs.declared.ids.Table.{Table}
use Rattle.gx_msg.specs.declared.message.Message.TheVariants as message
use Rattle.gx_script.specs.declared.Script.{Script}
use Rattle.gx_tree.specs.declared.expr.Expr.{Expr}
use Rattle.gx_tree.specs.declared.stmt.Level.{Level}
use Rattle.gx_tree.specs.declared.stmt.Stmt.TheVariants.{Insert}
use Rattle.gx_store.specs.declared.event.Event.{Event}
use Rattle.gx_store.specs.declared.mark.Mark.{Mark}
use Rattle.gx_store.specs.declared.mark.Mark.TheVariants.{Sent}
use Rattle.gx_store.specs.declared.run.Step.{Step}
use Rattle.gx_store.specs.Answers.{HasValues}
use Rattle.gx_store.specs.Commands.{RunsCommand}
use Rattle.gx_store.specs.Points.{Point}

-- where the command that is sent is an INSERT, each of its tuples has values
abbrev pub IsWhole : Script → Point → Mark → Type 0
IsWhole script point (Sent to number (message.Exec g c level snapshot horizon slice)) =
    (session : SessionId) (table : Table) (tuples : List (List Expr)) (isolation : Level) → RunsCommand script point session (Insert table tuples) isolation g c → All HasValues tuples
IsWhole script point _ = Unit {0}

-- the marks behind one in its step don't matter
abbrev pub AreMarksWhole : Script → List Step → Event → List Mark → List Mark → Type 0
AreMarksWhole script steps event earlier [] = Unit {0}
AreMarksWhole script steps event earlier (m ∷ ms) = IsWhole script (record { steps = steps; event = event; earlier = earlier; later = [] }) m × AreMarksWhole script steps event (earlier ++ m ∷ []) ms

-- in each of these steps, behind the steps before
abbrev pub AreSentWhole : Script → List Step → List Step → Type 0
AreSentWhole script before [] = Unit {0}
AreSentWhole script before (s ∷ ss) = AreMarksWhole script before s.event [] s.marks × AreSentWhole script (before ++ s ∷ []) ss
