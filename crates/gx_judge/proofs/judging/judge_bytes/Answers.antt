use Rattle.gx_judge.proofs.Answered.{of-script}
use Rattle.gx_judge.proofs.judging.judge_bytes.Goals as goal

pub returns-in-Ok-judge_script : goal.returns-in-Ok-judge_script
returns-in-Ok-judge_script c = of-script c.args.bytes.now c.in-Ok.script c.args.asked _ c.in-Ok.ensures.reads c.in-Ok-judge_script.ensures
