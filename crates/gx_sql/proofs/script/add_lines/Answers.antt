use Rattle.std.proofs.Common.{ℕ, List, ◌∷◌, Result, Err, sym, subst, arith}
use Rattle.gx_script.specs.declared.Script.{Script}
use Rattle.gx_sql.specs.declared.refusal.Refusal.{Refusal}
use Rattle.gx_sql.specs.Held.{progress_of}
use Rattle.gx_sql.specs.Lines.{lines_of}
use Rattle.gx_sql.specs.Script.{ReadsOn}
use Rattle.gx_sql.proofs.Steps.{step_read, step_refused, answers_as}
use Rattle.gx_sql.proofs.script.add_lines.Goals as goal

pub loop-number-preserved : goal.loop-number-preserved
loop-number-preserved c =
    let short = c.loop-number.invariant.1 in
    let more = c.in-Ok.ensures.lines in
    let test = c.loop-number-test.true in (
      c.in-Ok.ensures.held,
      omega arith,
      λ (r : Result Script Refusal) h.
          c.loop-number.invariant.2 r (subst (λ (ls : List (List ℕ)). ReadsOn c.loop-number.number (progress_of c.loop-number.progress) ls r) (sym c.in-Some.ensures.cases)
          (step_read c.loop-number.number (progress_of c.loop-number.progress) (progress_of c.read_line.new.progress) c.in-Some.line.now (lines_of c.in-Some.others.now) r (omega arith) c.in-Ok.ensures.said h)),
    )

pub returns-in-Err-clause-added : goal.returns-in-Err-clause-added
returns-in-Err-clause-added c =
    let test = c.loop-number-test.true in
    answers_as (ReadsOn c.loop-number.number (progress_of c.loop-number.progress) (c.in-Some.line.now ∷ lines_of c.in-Some.others.now)) (ReadsOn 1 (progress_of c.args.progress.now) (lines_of c.args.bytes.now)) (Err c.in-Err.refusal)
    (λ r h. c.loop-number.invariant.2 r (subst (λ (ls : List (List ℕ)). ReadsOn c.loop-number.number (progress_of c.loop-number.progress) ls r) (sym c.in-Some.ensures.cases) h))
    (step_refused c.loop-number.number (progress_of c.loop-number.progress) (progress_of c.read_line.new.progress) c.in-Some.line.now (lines_of c.in-Some.others.now) c.in-Err.refusal (omega arith) c.in-Err.ensures.said)

pub returns-in-None-clause-added : goal.returns-in-None-clause-added
returns-in-None-clause-added c = λ (r : Result Script Refusal) h. c.loop-number.invariant.2 r (subst (λ (bs : List ℕ). ReadsOn c.loop-number.number (progress_of c.loop-number.progress) (lines_of bs) r) (sym c.in-None.ensures.cases) h)
