use Rattle.std.proofs.Common.{◌∙◌, List, ap}
use Rattle.std.specs.Map.{lookup}
use Rattle.std.specs.BTreeMap.{is_at}
use Rattle.gx_ids.specs.declared.ids.Gxid.{Gxid}
use Rattle.gx_dsnap.specs.Gxids.{gxid_cmp}
use Rattle.gx_dtx.specs.declared.txn.Txn.{Txn}
use Rattle.gx_dtx.specs.Rules.{with_step, reply_found, is_refused}
use Rattle.gx_dtx.proofs.Settled.{with_step-settled}
use Rattle.gx_dtx.proofs.txns.Txns.reply.Goals as goal

pub returns-clause-txns : goal.returns-clause-txns
returns-clause-txns g c =
    let es = c.self.inside.map.entries in
    with_step-settled es c.args.gxid (reply_found c.args.gxid c.args.node c.args.answer.now (is_refused c.in_ok-taken.taken.out.outcome) (lookup (is_at (gxid_cmp c.args.gxid)) es)) c.reply.new.txns.entries c.settle.new.txns.entries c.in_ok-taken.taken c.in_ok-taken.ensures.value c.settle.ensures
    ∙ ap (λ (es : List (Gxid × Txn)). with_step es c.args.gxid (reply_found c.args.gxid c.args.node c.args.answer.now (is_refused c.in_ok-taken.taken.out.outcome) (lookup (is_at (gxid_cmp c.args.gxid)) es)).step) c.self.view_is
