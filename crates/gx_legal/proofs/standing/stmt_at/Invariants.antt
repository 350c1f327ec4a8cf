use Rattle.std.proofs.Common.{◌≡◌, drop}
use Rattle.gx_store.specs.Lines.{stmt_of}
use Rattle.gx_legal.proofs.standing.stmt_at.Given as goal

abbrev pub invariant-loop-line : goal.invariant-loop-line
invariant-loop-line l = stmt_of l.session l.number (drop l.line-index l.lines) ≡ stmt_of l.session l.number l.lines
