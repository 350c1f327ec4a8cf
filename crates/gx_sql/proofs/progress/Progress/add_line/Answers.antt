use Rattle.gx_resolve.specs.Resolving.{stmt_of}
use Rattle.gx_sql.specs.Held.{progress_of, named, schemas}
use Rattle.gx_sql.specs.Progress.{with_line}
use Rattle.gx_sql.proofs.Named.{ends_giving, ok_giving, ends_line}
use Rattle.gx_sql.proofs.progress.Progress.add_line.Goals as goal

pub returns-in-Err-clause-said : goal.returns-in-Err-clause-said
returns-in-Err-clause-said c = ends_giving (with_line (progress_of c.args.self.now) c.args.name.now) (progress_of c.args.self.now) (stmt_of (schemas c.args.self.now.tables.entries) c.args.stmt.now) c.in-Err.error c.in-Err.ensures

pub returns-in-Ok-clause-said : goal.returns-in-Ok-clause-said
returns-in-Ok-clause-said c = ends_line (progress_of c.args.self.now) c.args.name.now c.in-Ok.stmt (named c.push_line.new.sessions.entries) c.push_line.new.lines.items (stmt_of (schemas c.args.self.now.tables.entries) c.args.stmt.now) c.push_line.result (ok_giving c.in-Ok.stmt (stmt_of (schemas c.args.self.now.tables.entries) c.args.stmt.now) c.in-Ok.ensures) c.push_line.ensures.never c.push_line.ensures.sessions c.push_line.ensures.lines
