use Rattle.std.proofs.Common.{◌≡◌, ◌++◌, drop}
use Rattle.gx_report.specs.Text.{sessions_text}
use Rattle.gx_report.proofs.sessions.push_indexed.Given as goal

abbrev pub invariant-loop-session : goal.invariant-loop-session
invariant-loop-session l = l.text.items ++ sessions_text l.steps l.session (drop l.session l.names) ≡ l.initial.text.items ++ sessions_text l.steps 0 l.names
