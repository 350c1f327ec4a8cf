use Rattle.std.proofs.Common.{rules, ◌≡◌, ℕ, List, [], Bool, false, cond, eqb, ◌<◌, ◌≢◌, refl, sym, ◌∙◌, subst, arith}
use Rattle.std.proofs.lemmas.Result.{err_from_is_err_and}
use Rattle.gx_decide.specs.History.{Event, GoesOn, Led, OpenBroken}
use Rattle.gx_decide.specs.Kept.{Kept, Knows}
use Rattle.gx_decide.specs.Calls.{AreMade, AreMadePartly, opening, shutting}
use Rattle.gx_decide.specs.Deciding.{IsBehindRefused}
use Rattle.gx_decide.specs.Disk.{DiskState}
use Rattle.gx_decide.specs.Log.{gate_at, slots_of}
use Rattle.gx_decide.proofs.Settling.{on-err}
use Rattle.gx_decide.proofs.Opening.{broken-goes-on, broken-read, broken-shut, broken-sync, knows-open, made-open, opened-goes-on, refused-behind, refused-front}
use Rattle.gx_decide.proofs.open.open_log.Goals as goal

pub returns-in_err-sync-clause-broken : goal.returns-in_err-sync-clause-broken
returns-in_err-sync-clause-broken g c = on-err _ (broken-sync _ _ c.in_err-sync.ensures.err)

pub returns-in_err-sync-clause-durable_err : goal.returns-in_err-sync-clause-durable_err
returns-in_err-sync-clause-durable_err g c =
    let goes : (events : List Event) (ready : Bool) → Led events (g.D.Disk.state c.args.disk.now) ready → GoesOn OpenBroken events (g.D.Disk.state c.sync.new.self) false =
    broken-goes-on _ _ (broken-sync _ _ c.in_err-sync.ensures.err) in
    on-err _ goes

pub returns-in_err-front-clause-broken : goal.returns-in_err-front-clause-broken
returns-in_err-front-clause-broken g c = on-err _ (broken-read _ _ c.in_ok-sync.ensures.ok _ c.read_front.ensures.state)

pub returns-in_err-front-clause-refused : goal.returns-in_err-front-clause-refused
returns-in_err-front-clause-refused g c =
    let slots : c.min-slots.result ≡ slots_of (g.D.Disk.state c.args.disk.now).size = search rules in
    let p = err_from_is_err_and c.from_residual-in_err-front.result c.from_residual-in_err-front.ensures.1 in
    rw (p.1, p.2) (refused-front _ _ c.in_ok-sync.ensures.ok _ slots _ _ _ _ c.in_err-front.field-0.0 c.read_front.ensures.state c.sync.ensures.cause.later c.in_err-front.ensures.refused)

pub returns-in_err-front-clause-durable_err : goal.returns-in_err-front-clause-durable_err
returns-in_err-front-clause-durable_err g c =
    let goes : (events : List Event) (ready : Bool) → Led events (g.D.Disk.state c.args.disk.now) ready → GoesOn OpenBroken events (g.D.Disk.state c.read_front.new.disk) false =
    broken-goes-on _ _ (broken-read _ _ c.in_ok-sync.ensures.ok _ c.read_front.ensures.state) in
    on-err _ goes

pub returns-in_err-check_behind-clause-refused : goal.returns-in_err-check_behind-clause-refused
returns-in_err-check_behind-clause-refused g c =
    let slots : c.min-slots.result ≡ slots_of (g.D.Disk.state c.args.disk.now).size = search rules in
    let end = c.in_ok-front.front.end in
    let fault = c.in_err-check_behind.field-0.0 in
    let bad : IsBehindRefused c.min-slots.result (g.D.Disk.state c.sync.new.self).seen end (g.D.Disk.fault_count c.read_front.new.disk) (g.D.Disk.fault_count c.check_behind.new.disk) fault =
    subst (λ (d : DiskState). IsBehindRefused c.min-slots.result d.seen end (g.D.Disk.fault_count c.read_front.new.disk) (g.D.Disk.fault_count c.check_behind.new.disk) fault) c.read_front.ensures.state c.in_err-check_behind.ensures.refused in
    let p = err_from_is_err_and c.from_residual-in_err-check_behind.result c.from_residual-in_err-check_behind.ensures.1 in
    rw (p.1, p.2) (refused-behind _ _ c.in_ok-sync.ensures.ok _ slots end c.in_ok-front.front.gate c.in_ok-front.ensures.front _ _ (g.D.Disk.fault_count c.read_front.new.disk) _ fault
    (c.check_behind.ensures.state ∙ c.read_front.ensures.state) (omega (arith, c.sync.ensures.cause.later, c.read_front.ensures.later)) bad)

pub returns-in_err-check_behind-clause-durable_err : goal.returns-in_err-check_behind-clause-durable_err
returns-in_err-check_behind-clause-durable_err g c =
    let goes : (events : List Event) (ready : Bool) → Led events (g.D.Disk.state c.args.disk.now) ready → GoesOn OpenBroken events (g.D.Disk.state c.check_behind.new.disk) false =
    broken-goes-on _ _ (broken-read _ _ c.in_ok-sync.ensures.ok _ (c.check_behind.ensures.state ∙ c.read_front.ensures.state)) in
    on-err _ goes

pub returns-in_err-shut_gate-clause-broken : goal.returns-in_err-shut_gate-clause-broken
returns-in_err-shut_gate-clause-broken g c =
    let slots : c.min-slots.result ≡ slots_of (g.D.Disk.state c.args.disk.now).size = search rules in
    let same = c.check_behind.ensures.state ∙ c.read_front.ensures.state in
    let calls = cond (eqb c.in_ok-front.front.gate 0) [] (shutting c.in_ok-front.front.end) in
    let partly = subst (λ (d : DiskState). AreMadePartly calls d (g.D.Disk.state c.shut_gate.new.disk)) same c.in_err-shut_gate.ensures.err in
    on-err _ (broken-shut _ _ c.in_ok-sync.ensures.ok _ slots _ _ c.in_ok-front.ensures.front _ partly)

pub returns-in_err-shut_gate-clause-durable_err : goal.returns-in_err-shut_gate-clause-durable_err
returns-in_err-shut_gate-clause-durable_err g c =
    let slots : c.min-slots.result ≡ slots_of (g.D.Disk.state c.args.disk.now).size = search rules in
    let same = c.check_behind.ensures.state ∙ c.read_front.ensures.state in
    let calls = cond (eqb c.in_ok-front.front.gate 0) [] (shutting c.in_ok-front.front.end) in
    let partly = subst (λ (d : DiskState). AreMadePartly calls d (g.D.Disk.state c.shut_gate.new.disk)) same c.in_err-shut_gate.ensures.err in
    let goes : (events : List Event) (ready : Bool) → Led events (g.D.Disk.state c.args.disk.now) ready → GoesOn OpenBroken events (g.D.Disk.state c.shut_gate.new.disk) false =
    broken-goes-on _ _ (broken-shut _ _ c.in_ok-sync.ensures.ok _ slots _ _ c.in_ok-front.ensures.front _ partly) in
    on-err _ goes

pub returns-clause-known : goal.returns-clause-known
returns-clause-known g c =
    let slots : c.min-slots.result ≡ slots_of (g.D.Disk.state c.args.disk.now).size = search rules in
    let end = c.in_ok-front.front.end in
    let same = c.check_behind.ensures.state ∙ c.read_front.ensures.state in
    let calls = cond (eqb c.in_ok-front.front.gate 0) [] (shutting end) in
    let made = subst (λ (d : DiskState). AreMade calls d (g.D.Disk.state c.shut_gate.new.disk)) same c.in_ok-shut_gate.ensures.ok in
    let behind = subst (λ (d : DiskState). (slot : ℕ) → end < slot → slot < c.min-slots.result → gate_at d.seen slot ≢ 1) c.read_front.ensures.state c.in_ok-check_behind.ensures.none in
    let decider : Kept = record { slots = c.min-slots.result; used = end; verdicts = c.in_ok-front.front.verdicts.entries } in
    subst (λ (k : Kept). Knows k (g.D.Disk.state c.shut_gate.new.disk)) (sym c.new.ensures)
    (knows-open _ _ c.in_ok-sync.ensures.ok _ slots end _ c.in_ok-front.ensures.front decider _ refl refl behind c.in_ok-front.ensures.verdicts made)

pub returns-clause-made : goal.returns-clause-made
returns-clause-made g c =
    let slots : c.min-slots.result ≡ slots_of (g.D.Disk.state c.args.disk.now).size = search rules in
    let same = c.check_behind.ensures.state ∙ c.read_front.ensures.state in
    let calls = cond (eqb c.in_ok-front.front.gate 0) [] (shutting c.in_ok-front.front.end) in
    let made = subst (λ (d : DiskState). AreMade calls d (g.D.Disk.state c.shut_gate.new.disk)) same c.in_ok-shut_gate.ensures.ok in
    let old = g.D.Disk.state c.args.disk.now in
    subst (λ (k : Kept). AreMade (opening (slots_of old.size) old.seen k.used) old (g.D.Disk.state c.shut_gate.new.disk)) (sym c.new.ensures)
    (made-open _ _ c.in_ok-sync.ensures.ok _ slots _ _ c.in_ok-front.ensures.front _ made)

pub returns-clause-durable : goal.returns-clause-durable
returns-clause-durable g c =
    let slots : c.min-slots.result ≡ slots_of (g.D.Disk.state c.args.disk.now).size = search rules in
    let same = c.check_behind.ensures.state ∙ c.read_front.ensures.state in
    let calls = cond (eqb c.in_ok-front.front.gate 0) [] (shutting c.in_ok-front.front.end) in
    let made = subst (λ (d : DiskState). AreMade calls d (g.D.Disk.state c.shut_gate.new.disk)) same c.in_ok-shut_gate.ensures.ok in
    opened-goes-on _ _ c.in_ok-sync.ensures.ok _ slots _ _ c.in_ok-front.ensures.front _ made
