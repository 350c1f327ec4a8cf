use Rattle.std.proofs.Common.{◌∙◌, ap, subst, sym}
use Rattle.gx_dtx.specs.Table.{Table, IsActive, find_txn}
use Rattle.gx_dtx.specs.Rules.{on_abort, abort_found, Turn}
use Rattle.gx_dtx.proofs.Fitting.{Fits-abort}
use Rattle.gx_dtx.proofs.Made.{IsWhole-taken, on_abort-alone, turns-taken}
use Rattle.gx_dtx.proofs.dtx.Dtx.abort.Goals as goal

pub invariant_of-self-2 : goal.invariant_of-self-2
invariant_of-self-2 c =
    let d : Table = record { next = c.self.inside.next; latest_ended = c.self.inside.latest_ended; txns = c.self.inside.txns } in
    let active : IsActive d c.args.gxid = subst (λ (d : Table). IsActive d c.args.gxid) (sym c.self.view_is) c.requires in
    IsWhole-taken d c.args.gxid (abort_found c.args.gxid (find_txn d c.args.gxid)) c.in_ok-out.out c.latest_after-self-inside.result c.abort.new.self c.in_ok-out.ensures.txns c.in_ok-out.ensures.out c.latest_after-self-inside.ensures c.self.invariant
    (Fits-abort (find_txn d c.args.gxid) c.args.gxid active)

pub returns-clause-table : goal.returns-clause-table
returns-clause-table c =
    let d : Table = record { next = c.self.inside.next; latest_ended = c.self.inside.latest_ended; txns = c.self.inside.txns } in
    turns-taken d c.args.gxid (abort_found c.args.gxid (find_txn d c.args.gxid)) c.in_ok-out.out c.latest_after-self-inside.result c.abort.new.self c.in_ok-out.ensures.txns c.in_ok-out.ensures.out c.latest_after-self-inside.ensures
    ∙ ap (λ (d : Table). (on_abort d c.args.gxid).table) c.self.view_is

pub returns-clause-out : goal.returns-clause-out
returns-clause-out c = c.in_ok-out.ensures.out ∙ ap (λ (d : Table). (on_abort d c.args.gxid).out) c.self.view_is

pub returns-clause-alone : goal.returns-clause-alone
returns-clause-alone c = λ alone. returns-clause-table c ∙ ap (λ (t : Turn). t.table) (on_abort-alone c.args.self.now c.args.gxid c.requires alone)

pub returns-clause-told : goal.returns-clause-told
returns-clause-told c = λ alone. returns-clause-out c ∙ ap (λ (t : Turn). t.out) (on_abort-alone c.args.self.now c.args.gxid c.requires alone)
