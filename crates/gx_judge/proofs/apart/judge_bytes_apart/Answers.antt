use Rattle.gx_judge.proofs.AnsweredApart.{of-script-apart}
use Rattle.gx_judge.proofs.apart.judge_bytes_apart.Goals as goal

pub returns-in-Ok-judge_script_apart : goal.returns-in-Ok-judge_script_apart
returns-in-Ok-judge_script_apart g c = of-script-apart c.args.bytes.now c.in-Ok.script c.args.options _ c.in-Ok.ensures.reads c.in-Ok-judge_script_apart.ensures
