use Rattle.std.proofs.Common.{◌∙◌, ap, subst, sym}
use Rattle.gx_dtx.specs.Table.{Table, find_txn}
use Rattle.gx_dtx.specs.declared.change.Change.{Change}
use Rattle.gx_dtx.specs.declared.outcome.DtxOut.{DtxOut}
use Rattle.gx_dtx.specs.Rules.{reply_found, on_reply, is_refused, is_deciding, awaits, turns}
use Rattle.gx_dtx.specs.Laws.{HasCause}
use Rattle.gx_dtx.proofs.Fitting.{Fits-reply}
use Rattle.gx_dtx.proofs.Calm.{calm-cause}
use Rattle.gx_dtx.proofs.Causes.{has-cause}
use Rattle.gx_dtx.proofs.Made.{IsWhole-taken, turns-taken, reply-unawaited}
use Rattle.gx_dtx.proofs.dtx.Dtx.reply.Goals as goal

pub returns-in_err-out-clause-untouched : goal.returns-in_err-out-clause-untouched
returns-in_err-out-clause-untouched g c = λ isnt. c.reply.ensures.untouched (ap (λ (d : Table). is_deciding d c.args.gxid c.args.node c.args.answer) c.self.view_is ∙ isnt)

pub invariant_of-self-2 : goal.invariant_of-self-2
invariant_of-self-2 g c =
    let d : Table = record { next = c.self.inside.next; latest_ended = c.self.inside.latest_ended; txns = c.self.inside.txns } in
    let r = is_refused c.in_ok-out.out.outcome in
    IsWhole-taken d c.args.gxid (reply_found c.args.gxid c.args.node c.args.answer r (find_txn d c.args.gxid)) c.in_ok-out.out c.latest_after-self-inside.result c.reply.new.self c.in_ok-out.ensures.txns c.in_ok-out.ensures.out c.latest_after-self-inside.ensures c.self.invariant
    (Fits-reply (find_txn d c.args.gxid) c.args.gxid c.args.node c.args.answer r)

pub returns-clause-table : goal.returns-clause-table
returns-clause-table g c =
    let d : Table = record { next = c.self.inside.next; latest_ended = c.self.inside.latest_ended; txns = c.self.inside.txns } in
    let r = is_refused c.in_ok-out.out.outcome in
    turns-taken d c.args.gxid (reply_found c.args.gxid c.args.node c.args.answer r (find_txn d c.args.gxid)) c.in_ok-out.out c.latest_after-self-inside.result c.reply.new.self c.in_ok-out.ensures.txns c.in_ok-out.ensures.out c.latest_after-self-inside.ensures
    ∙ ap (λ (d : Table). (on_reply d c.args.gxid c.args.node c.args.answer r).table) c.self.view_is

pub returns-clause-cause : goal.returns-clause-cause
returns-clause-cause g c =
    let d : Table = record { next = c.self.inside.next; latest_ended = c.self.inside.latest_ended; txns = c.self.inside.txns } in
    let r = is_refused c.in_ok-out.out.outcome in
    subst (λ (d : Table). HasCause d c.args.gxid c.args.node c.args.answer r c.in_ok-out.out.outcome) c.self.view_is
    (subst (λ (o : DtxOut). HasCause d c.args.gxid c.args.node c.args.answer r o.outcome) (sym c.in_ok-out.ensures.out) (has-cause d c.args.gxid c.args.node c.args.answer r c.self.invariant))

pub returns-clause-unawaited : goal.returns-clause-unawaited
returns-clause-unawaited g c = λ isnt.
    let d : Table = record { next = c.self.inside.next; latest_ended = c.self.inside.latest_ended; txns = c.self.inside.txns } in
    let r = is_refused c.in_ok-out.out.outcome in
    turns-taken d c.args.gxid (reply_found c.args.gxid c.args.node c.args.answer r (find_txn d c.args.gxid)) c.in_ok-out.out c.latest_after-self-inside.result c.reply.new.self c.in_ok-out.ensures.txns c.in_ok-out.ensures.out c.latest_after-self-inside.ensures
    ∙ ap (λ (x : Change). (turns d c.args.gxid x).table) (reply-unawaited c.args.gxid c.args.node c.args.answer r (find_txn d c.args.gxid) (ap (λ (d : Table). awaits d c.args.gxid c.args.node c.args.answer) c.self.view_is ∙ isnt))
    ∙ c.self.view_is

pub returns-clause-calm : goal.returns-clause-calm
returns-clause-calm g c = λ other.
    let d : Table = record { next = c.self.inside.next; latest_ended = c.self.inside.latest_ended; txns = c.self.inside.txns } in
    let r = is_refused c.in_ok-out.out.outcome in
    let cause = subst (λ (o : DtxOut). HasCause d c.args.gxid c.args.node c.args.answer r o.outcome) (sym c.in_ok-out.ensures.out) (has-cause d c.args.gxid c.args.node c.args.answer r c.self.invariant) in
    c.in_ok-out.ensures.decided.calm (calm-cause d c.args.gxid c.args.node c.args.answer r c.in_ok-out.out.outcome cause.reason other)
