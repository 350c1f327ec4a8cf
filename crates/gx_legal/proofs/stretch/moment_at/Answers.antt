use Rattle.std.proofs.Common.{◌≡◌, ◌+◌, ◌++◌, List, length, take, sym, subst}
use Rattle.gx_store.specs.declared.mark.Mark.{Mark}
use Rattle.gx_store.specs.Points.{marks_in}
use Rattle.gx_legal.proofs.Stepping.{take-part}
use Rattle.gx_legal.specs.Tallies.{IsTally}
use Rattle.gx_legal.proofs.stretch.moment_at.Goals as goal

pub invariant_of-result : goal.invariant_of-result
invariant_of-result c =
    let s = c.args.stretch.now in
    let k = c.args.count in
    let whole : take (s.start + k) s.all.now ≡ marks_in s.steps.now ++ take k s.marks.now = take-part s.all.now (marks_in s.steps.now) s.marks.now s.start (length s.marks.now) k s.begins s.among c.requires.count in
    record { whole = whole; told = subst (λ (ms : List Mark). IsTally s.script.now s.steps.now ms c.args.tally.now) (sym whole) c.requires.tally }
