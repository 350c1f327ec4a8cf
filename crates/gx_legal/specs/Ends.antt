-- How transactions end.
use Rattle.std.specs.Prelude.{◌≡◌, Bool, true, Some}
use Rattle.gx_ids.specs.declared.ids.Gxid.{Gxid}
use Rattle.gx_ids.specs.declared.ids.SessionId.{SessionId}
use Rattle.gx_script.specs.declared.Script.{Script}
use Rattle.gx_store.specs.Commands.{RunsLine, state_at}
use Rattle.gx_store.specs.Legal.{may_abort}
use Rattle.gx_store.specs.Lines.{BlockState, may_commit, transaction_of}
use Rattle.gx_store.specs.Marks.{is_answered}
use Rattle.gx_store.specs.Points.{Point, before}
use Rattle.gx_tree.specs.declared.stmt.Stmt.{Stmt}
use Rattle.gx_legal.specs.declared.ends.End.{End}
use Rattle.gx_legal.specs.declared.ends.End.TheVariants as end

-- a transaction may end so with the line
abbrev pub may_end : End → BlockState → Stmt → Bool
may_end end.Commit state line = may_commit state line
may_end end.Abort state line = may_abort state line

-- the session's line, with which its transaction ends so, is answered in this step
pub record EndsWith (script : Script) (point : Point) (g : Gxid) (how : End) (session : SessionId) (line : Stmt) : Type 0 where
  pub transaction : transaction_of (state_at script session point) session (before point) ≡ Some g
  pub ending : may_end how (state_at script session point) line ≡ true
  pub answered : is_answered session point.later ≡ true

abbrev pub EndsIn : Script → Point → Gxid → End → SessionId → Type 0
EndsIn script point g how session = (line : Stmt) × RunsLine script point session line × EndsWith script point g how session line

-- some session's
abbrev pub EndsByLine : Script → Point → Gxid → End → Type 0
EndsByLine script point g how = (session : SessionId) × EndsIn script point g how session
