use Rattle.std.proofs.Common.{rules, ◌≡◌, ◌<◌, ℕ, List, true, false, None, arith, subst}
use Rattle.gx_decide.specs.Calls.{AreMade, settling}
use Rattle.gx_decide.specs.Kept.{verdict_by}
use Rattle.gx_decide.specs.History.{DoesBreak, DoesSettle, Event, GoesOn, Led, SettleBroken}
use Rattle.gx_decide.proofs.Settling.{breaks-new, broken-goes-on, knows-more, on-err, settled-goes-on, settles-new}
use Rattle.gx_decide.proofs.decider.Decider.settle.Goals as goal

pub returns-in-Some-clause-durable : goal.returns-in-Some-clause-durable
returns-in-Some-clause-durable g c =
    let does : DoesSettle c.args.self.used c.args.gxid.0 c.args.wish c.in-Some.kept (verdict_by c.args.self c.args.gxid.0) (g.D.Disk.state c.args.disk.now) (g.D.Disk.state c.args.disk.now) = search rules in
    λ events led. settled-goes-on c.args.self _ _ c.args.gxid.0 c.args.wish c.requires.known c.requires.drawn (search rules) events led c.in-Some.kept does

pub returns-then-slot-slots-clause-durable_err : goal.returns-then-slot-slots-clause-durable_err
returns-then-slot-slots-clause-durable_err g c =
    let does : DoesBreak c.args.self.used c.args.gxid.0 c.args.wish (verdict_by c.args.self c.args.gxid.0) (g.D.Disk.state c.args.disk.now) (g.D.Disk.state c.args.disk.now) = search rules in
    λ events led. broken-goes-on c.args.self _ _ c.args.gxid.0 c.args.wish c.requires.known c.requires.drawn (search rules) events led does

pub returns-in_err-decider-clause-durable_err : goal.returns-in_err-decider-clause-durable_err
returns-in_err-decider-clause-durable_err g c =
    let does : DoesBreak c.args.self.used c.args.gxid.0 c.args.wish (verdict_by c.args.self c.args.gxid.0) (g.D.Disk.state c.args.disk.now) (g.D.Disk.state c.args.disk.now) = search rules in
    let goes : (events : List Event) → Led events (g.D.Disk.state c.args.disk.now) true → GoesOn (SettleBroken c.args.gxid.0 c.args.wish) events (g.D.Disk.state c.args.disk.now) false =
    λ events led. broken-goes-on c.args.self _ _ c.args.gxid.0 c.args.wish c.requires.known c.requires.drawn (search rules) events led does in
    on-err _ goes

pub returns-in_err-write_pair-clause-durable_err : goal.returns-in_err-write_pair-clause-durable_err
returns-in_err-write_pair-clause-durable_err g c =
    let none : verdict_by c.args.self c.args.gxid.0 ≡ None = search rules in
    let room : c.args.self.used < c.args.self.slots = search (rules, arith) in
    let does : DoesBreak c.args.self.used c.args.gxid.0 c.args.wish (verdict_by c.args.self c.args.gxid.0) (g.D.Disk.state c.args.disk.now) (g.D.Disk.state c.write_pair.new.disk) =
    breaks-new c.args.self _ _ c.args.gxid.0 c.args.wish c.requires.known none room c.used-slot.result c.used-slot.ensures c.in_err-write_pair.ensures.err in
    let goes : (events : List Event) → Led events (g.D.Disk.state c.args.disk.now) true → GoesOn (SettleBroken c.args.gxid.0 c.args.wish) events (g.D.Disk.state c.write_pair.new.disk) false =
    λ events led. broken-goes-on c.args.self _ _ c.args.gxid.0 c.args.wish c.requires.known c.requires.drawn (search rules) events led does in
    on-err _ goes

pub returns-clause-known : goal.returns-clause-known
returns-clause-known g c =
    let none : verdict_by c.args.self c.args.gxid.0 ≡ None = search rules in
    let room : c.args.self.used < c.args.self.slots = search (rules, arith) in
    knows-more c.args.self c.in_ok-decider.decider _ _ c.args.gxid.0 c.args.wish c.requires.known (search rules) none room
    (subst (λ (n : ℕ). AreMade (settling n c.args.gxid.0 c.args.wish) (g.D.Disk.state c.args.disk.now) (g.D.Disk.state c.write_pair.new.disk)) c.used-slot.ensures c.in_ok-write_pair.ensures.ok)
    c.in_ok-decider.ensures.slots c.in_ok-decider.ensures.used c.in_ok-decider.ensures.verdicts

pub returns-clause-durable : goal.returns-clause-durable
returns-clause-durable g c =
    let none : verdict_by c.args.self c.args.gxid.0 ≡ None = search rules in
    let room : c.args.self.used < c.args.self.slots = search (rules, arith) in
    let does : DoesSettle c.args.self.used c.args.gxid.0 c.args.wish c.args.wish (verdict_by c.args.self c.args.gxid.0) (g.D.Disk.state c.args.disk.now) (g.D.Disk.state c.write_pair.new.disk) =
    settles-new c.args.self _ _ c.args.gxid.0 c.args.wish c.requires.known none room c.used-slot.result c.used-slot.ensures c.in_ok-write_pair.ensures.ok in
    λ events led. settled-goes-on c.args.self _ _ c.args.gxid.0 c.args.wish c.requires.known c.requires.drawn (search rules) events led c.args.wish does

pub returns-in_err-write_pair-clause-broken : goal.returns-in_err-write_pair-clause-broken
returns-in_err-write_pair-clause-broken g c =
    let none : verdict_by c.args.self c.args.gxid.0 ≡ None = search rules in
    let room : c.args.self.used < c.args.self.slots = search (rules, arith) in
    on-err _ (breaks-new c.args.self _ _ c.args.gxid.0 c.args.wish c.requires.known none room c.used-slot.result c.used-slot.ensures c.in_err-write_pair.ensures.err)

pub returns-clause-made : goal.returns-clause-made
returns-clause-made g c =
    let none : verdict_by c.args.self c.args.gxid.0 ≡ None = search rules in
    let room : c.args.self.used < c.args.self.slots = search (rules, arith) in
    settles-new c.args.self _ _ c.args.gxid.0 c.args.wish c.requires.known none room c.used-slot.result c.used-slot.ensures c.in_ok-write_pair.ensures.ok
