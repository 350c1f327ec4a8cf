use Rattle.std.proofs.Common.{ℕ, List, sym, subst}
use Rattle.gx_lines.specs.declared.syn.LineSyn.{LineSyn}
use Rattle.gx_sql.specs.Held.{progress_of, Ends}
use Rattle.gx_sql.specs.Progress.{with_session, with_line_syn}
use Rattle.gx_sql.proofs.progress.Progress.add.Goals as goal

pub returns-in-Session-clause-said : goal.returns-in-Session-clause-said
returns-in-Session-clause-said c = subst (λ (l : LineSyn). Ends c.add_line.result (progress_of c.add_line.new.self) (with_line_syn (progress_of c.args.self.now) l)) (sym c.in-Session.is) (subst (λ (n : List ℕ). Ends c.add_line.result (progress_of c.add_line.new.self) (with_session (progress_of c.args.self.now) n c.in-Session.stmt)) c.as_slice.ensures c.add_line.ensures.said)
