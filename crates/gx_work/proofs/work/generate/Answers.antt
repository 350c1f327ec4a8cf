use Rattle.std.proofs.Common.{subst, sym, rules}
use Rattle.gx_print.specs.OneLine.{IsReadAs}
use Rattle.gx_work.specs.Work.{work_script}
use Rattle.gx_work.proofs.Lengths.{text-short}
use Rattle.gx_work.proofs.Nexts.{length-drawn, whole}
use Rattle.gx_work.proofs.Whole.{work_read}
use Rattle.gx_work.proofs.work.generate.Goals as goal

pub push_batches-requires : goal.push_batches-requires
push_batches-requires c = length-drawn _ _ c.args.number (search rules) c.in_ok-words.ensures

pub returns : goal.returns
returns c =
    let text = whole c.args.number _ _ _ _ _ (search rules) c.in_ok-push_head.ensures c.in_ok-push_batches.ensures (search rules) c.in_ok-words.ensures in
    record { text = text; script = subst (λ t. IsReadAs t (work_script c.args.number)) (sym text) (work_read c.args.number); short = text-short c.args.number _ text }
