use Rattle.std.proofs.Common.{◌≤◌, ◌≡◌, ap, arith}
use Rattle.gx_sql.specs.Held.{progress_of}
use Rattle.gx_sql.specs.Lines.{lines_of}
use Rattle.gx_explain.proofs.Readings.{behind-line, at-fault, at-end, at-limit}
use Rattle.gx_explain.proofs.reading.read_lines.Goals as goal

pub returns-in-None-clause-ends : goal.returns-in-None-clause-ends
returns-in-None-clause-ends c =
    let here = c.loop-number in
    at-end (progress_of c.args.progress.now) (progress_of here.progress) (lines_of c.args.bytes.now) (lines_of here.rest.now) here.tokens.items here.number c.ended.result
    (ap lines_of c.in-None.ensures.cases) c.ended.ensures here.invariant.2

pub returns-in-Some-2-clause-ends : goal.returns-in-Some-2-clause-ends
returns-in-Some-2-clause-ends c =
    let test = c.loop-number-test.true in
    let here = c.loop-number in
    let few : here.number ≤ 100000 = omega arith in
    at-fault (progress_of c.args.progress.now) (progress_of here.progress) (progress_of c.read_line.new.progress) (lines_of c.args.bytes.now)
    here.rest.now c.in-Some.line.now c.in-Some.others.now c.read_line.new.tokens.items here.number c.in_ok-read_line-in-Some.field-0 c.in-Some-2.fault
    few c.in-Some.ensures.cases c.in-Some-2.is c.in_ok-read_line-in-Some.ensures.said here.invariant.2

pub loop-number-preserved : goal.loop-number-preserved
loop-number-preserved c =
    let test = c.loop-number-test.true in
    let here = c.loop-number in
    let few : here.number ≤ 100000 = omega arith in (
      c.in_ok-read_line-in-Some.ensures.held,
      omega (arith, here.invariant.1, c.in_ok-read_line-in-Some.ensures.lines),
      behind-line (progress_of c.args.progress.now) (progress_of here.progress) (progress_of c.read_line.new.progress) (lines_of c.args.bytes.now)
          here.rest.now c.in-Some.line.now c.in-Some.others.now c.read_line.new.tokens.items here.number c.in_ok-read_line-in-Some.field-0
          few c.in-Some.ensures.cases c.in-None-2.is c.in_ok-read_line-in-Some.ensures.said here.invariant.2,
    )

pub returns-clause-ends : goal.returns-clause-ends
returns-clause-ends c =
    let here = c.loop-number in
    let last : here.number ≡ 100001 = omega (arith, here.auto.number-end, c.loop-number-test.false) in
    at-limit (progress_of c.args.progress.now) (progress_of here.progress) (lines_of c.args.bytes.now) (lines_of here.rest.now) c.behind_all.new.tokens.items
    here.number c.in_ok-ending.ending last c.in_ok-ending.ensures here.invariant.2
