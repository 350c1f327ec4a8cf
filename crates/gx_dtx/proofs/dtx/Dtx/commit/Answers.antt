use Rattle.std.proofs.Common.{◌∙◌, ap, subst, sym}
use Rattle.gx_dtx.specs.Table.{Table, IsActive, find_txn}
use Rattle.gx_dtx.specs.Rules.{on_commit, commit_found, Turn}
use Rattle.gx_dtx.proofs.Fitting.{Fits-commit}
use Rattle.gx_dtx.proofs.Made.{IsWhole-taken, on_commit-alone, turns-taken}
use Rattle.gx_dtx.proofs.dtx.Dtx.commit.Goals as goal

pub invariant_of-self-2 : goal.invariant_of-self-2
invariant_of-self-2 c =
    let d : Table = record { next = c.self.inside.next; latest_ended = c.self.inside.latest_ended; txns = c.self.inside.txns } in
    let active : IsActive d c.args.gxid = subst (λ (d : Table). IsActive d c.args.gxid) (sym c.self.view_is) c.requires.active in
    IsWhole-taken d c.args.gxid (commit_found c.args.gxid c.args.writers.now (find_txn d c.args.gxid)) c.in_ok-out.out c.latest_after-self-inside.result c.commit.new.self c.in_ok-out.ensures.txns c.in_ok-out.ensures.out c.latest_after-self-inside.ensures c.self.invariant
    (Fits-commit (find_txn d c.args.gxid) c.args.gxid c.args.writers.now active)

pub returns-clause-table : goal.returns-clause-table
returns-clause-table c =
    let d : Table = record { next = c.self.inside.next; latest_ended = c.self.inside.latest_ended; txns = c.self.inside.txns } in
    turns-taken d c.args.gxid (commit_found c.args.gxid c.args.writers.now (find_txn d c.args.gxid)) c.in_ok-out.out c.latest_after-self-inside.result c.commit.new.self c.in_ok-out.ensures.txns c.in_ok-out.ensures.out c.latest_after-self-inside.ensures
    ∙ ap (λ (d : Table). (on_commit d c.args.gxid c.args.writers.now).table) c.self.view_is

pub returns-clause-out : goal.returns-clause-out
returns-clause-out c = c.in_ok-out.ensures.out ∙ ap (λ (d : Table). (on_commit d c.args.gxid c.args.writers.now).out) c.self.view_is

pub returns-clause-alone : goal.returns-clause-alone
returns-clause-alone c = λ alone. returns-clause-table c ∙ ap (λ (t : Turn). t.table) (on_commit-alone c.args.self.now c.args.gxid c.args.writers.now c.requires.active c.requires.writers alone)

pub returns-clause-told : goal.returns-clause-told
returns-clause-told c = λ alone. returns-clause-out c ∙ ap (λ (t : Turn). t.out) (on_commit-alone c.args.self.now c.args.gxid c.args.writers.now c.requires.active c.requires.writers alone)
