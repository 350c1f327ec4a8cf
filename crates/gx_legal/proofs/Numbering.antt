-- What the line that a session has under way keeps.
use Rattle.std.proofs.Common.{◌≡◌, ◌∙◌, List, sym, subst, ap, arith}
use Rattle.std.proofs.lemmas.List.Elements.{recursion_from_All}
use Rattle.gx_ids.specs.declared.ids.SessionId.{SessionId}
use Rattle.gx_meaning.specs.Statements.{IsStmtOf}
use Rattle.gx_script.specs.declared.Script.{Script}
use Rattle.gx_store.specs.declared.mark.Mark.{Mark}
use Rattle.gx_store.specs.Commands.{RunsLine, state_at}
use Rattle.gx_store.specs.Language.{IsScript}
use Rattle.gx_store.specs.Limits.{HasTuplesTo, IsLineTo}
use Rattle.gx_store.specs.Lines.{state_of}
use Rattle.gx_store.specs.Points.{Point, before}
use Rattle.gx_tree.specs.declared.stmt.Stmt.{Stmt}
use Rattle.gx_tree.specs.declared.stmt.Stmt.TheVariants as line_is
use Rattle.gx_legal.proofs.Sessions.{number-there, stmt-inside, stmt-keeps}
use Rattle.gx_legal.specs.Standings.{HasNumber, state_in}
use Rattle.gx_legal.specs.Tables.{IsShort}
use Rattle.gx_legal.specs.declared.standing.Block.{Block}

pub number-in : (script : Script) (point : Point) (session : SessionId) (marks : List Mark) (b : Block) → marks ≡ before point → state_in b ≡ state_of script session marks → HasNumber (state_at script session point)
    → HasNumber (state_in b)
number-in script point session marks b whole stands has = subst HasNumber (sym (stands ∙ ap (state_of script session) whole)) has

module _ (script : Script) (is : IsScript script) (point : Point) (session : SessionId) (line : Stmt) (runs : RunsLine script point session line) where
  pub runs-number : HasNumber (state_at script session point)
  runs-number = number-there script session (before point) line is runs.line

  pub runs-stmt : IsStmtOf script.tables line
  runs-stmt = stmt-inside script.tables _ session _ script.lines line is.lines runs.line

  short : (line : Stmt) → HasTuplesTo 4294967295 line → IsShort line
  short (line_is.Insert table tuples) few = omega (arith, few)
  short line few = tt

  pub runs-short : IsShort line
  runs-short = stmt-keeps (IsLineTo 4294967295) IsShort (λ l few. short l.stmt few) session _ script.lines line (recursion_from_All (IsLineTo 4294967295) script.lines is.few_tuples) runs.line
