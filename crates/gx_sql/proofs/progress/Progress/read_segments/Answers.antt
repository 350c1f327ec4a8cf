use Rattle.std.proofs.Common.{Err, subst}
use Rattle.gx_grammar.specs.declared.fault.Limits.{Limits}
use Rattle.gx_grammar.specs.Code.{Judged}
use Rattle.gx_lines.specs.Heads.{segments}
use Rattle.gx_sql.specs.Held.{progress_of}
use Rattle.gx_sql.specs.Progress.{with_segments}
use Rattle.gx_sql.proofs.Saying.{stands_fault}
use Rattle.gx_sql.proofs.progress.Progress.read_segments.Goals as goal

pub returns-in-Err-clause-said : goal.returns-in-Err-clause-said
returns-in-Err-clause-said c = stands_fault segments (with_segments (progress_of c.args.self.now)) c.args.tokens.now c.in-Err.error c.from.result (progress_of c.args.self.now) c.from.ensures (subst (λ (d : Limits). Judged segments d c.args.tokens.now (Err c.in-Err.error)) c.limits.ensures c.in-Err.ensures.verdict)
