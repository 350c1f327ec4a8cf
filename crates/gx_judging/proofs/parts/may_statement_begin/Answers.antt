use Rattle.std.proofs.Common.{List, sym, subst}
use Rattle.std.proofs.lemmas.List.{append-nil}
use Rattle.gx_store.specs.declared.mark.Mark.{Mark}
use Rattle.gx_store.specs.Points.{marks_in}
use Rattle.gx_legal.specs.Tallies.{IsTally}
use Rattle.gx_judging.proofs.parts.may_statement_begin.Goals as goal

pub moment_at-moment-requires-clause-tally : goal.moment_at-moment-requires-clause-tally
moment_at-moment-requires-clause-tally c =
    let s = c.args.stretch.now in
    subst (λ (ms : List Mark). IsTally s.script.now s.steps.now ms c.args.tally.now) (sym (append-nil (marks_in s.steps.now))) c.requires
