use Rattle.std.proofs.Common.{◌≡◌, ◌+◌, drop}
use Rattle.std.specs.List.{prefix_len}
use Rattle.gx_lex.specs.Lexing.{is_blank}
use Rattle.gx_sql.proofs.split.blanks_len.Given as goal

abbrev pub invariant-loop-count : goal.invariant-loop-count
invariant-loop-count l = l.count + prefix_len is_blank (drop l.count l.line) ≡ prefix_len is_blank l.line
