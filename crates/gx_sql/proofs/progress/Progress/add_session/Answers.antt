use Rattle.std.proofs.Common.{Err, length, subst}
use Rattle.gx_grammar.specs.declared.fault.Limits.{Limits}
use Rattle.gx_grammar.specs.Code.{Judged}
use Rattle.gx_lines.specs.Heads.{session_line}
use Rattle.gx_sql.specs.Script.{the_limits}
use Rattle.gx_sql.specs.Held.{progress_of, named}
use Rattle.gx_sql.specs.Progress.{with_line_syn}
use Rattle.gx_sql.proofs.Room.{line_room}
use Rattle.gx_sql.proofs.Saying.{stands_fault, stands_read}
use Rattle.gx_sql.proofs.progress.Progress.add_session.Goals as goal

pub add-added-requires-clause-room : goal.add-added-requires-clause-room
add-added-requires-clause-room c = line_room the_limits (length c.args.self.now.tables.entries) (length c.args.self.now.groups.items) (named c.args.self.now.sessions.entries) c.in-Ok.line c.args.tokens.now c.requires.none (subst (λ (d : Limits). session_line d c.in-Ok.line c.args.tokens.now) c.limits.ensures c.in-Ok.ensures.verdict)

pub returns-in-Ok-clause-said : goal.returns-in-Ok-clause-said
returns-in-Ok-clause-said c = stands_read session_line (with_line_syn (progress_of c.args.self.now)) c.args.tokens.now c.in-Ok.line c.add-added.result (progress_of c.add-added.new.self) (subst (λ (d : Limits). session_line d c.in-Ok.line c.args.tokens.now) c.limits.ensures c.in-Ok.ensures.verdict) c.add-added.ensures.said

pub returns-in-Err-clause-said : goal.returns-in-Err-clause-said
returns-in-Err-clause-said c = stands_fault session_line (with_line_syn (progress_of c.args.self.now)) c.args.tokens.now c.in-Err.error c.from.result (progress_of c.args.self.now) c.from.ensures (subst (λ (d : Limits). Judged session_line d c.args.tokens.now (Err c.in-Err.error)) c.limits.ensures c.in-Err.ensures.verdict)
