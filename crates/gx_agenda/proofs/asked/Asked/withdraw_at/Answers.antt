use Rattle.std.proofs.Common.{ap, refl, sym}
use Rattle.std.specs.BTreeMap.{is_at}
use Rattle.std.specs.Option.{option_or}
use Rattle.std.specs.Prelude.{None}
use Rattle.gx_agenda.specs.Awaited.{awaited_at, due_of, waits_in}
use Rattle.gx_agenda.specs.Requests.{request_cmp}
use Rattle.gx_agenda.specs.VecMap.{at}
use Rattle.gx_agenda.proofs.Parted.{taken-out}
use Rattle.gx_agenda.proofs.Waiting.{index-one, set-here, set-there}
use Rattle.gx_agenda.proofs.asked.Asked.withdraw_at.Goals as goal

pub returns-clause-awaited : goal.returns-clause-awaited
returns-clause-awaited c = taken-out (is_at (request_cmp c.args.request)) (at request_cmp c.args.self.now.due) (at request_cmp c.args.self.now.withheld) (at request_cmp c.remove_at.new.self) (at request_cmp c.remove.new.self) (λ k. c.remove_at.ensures c.args.request k c.requires) c.remove.ensures

pub returns-clause-due : goal.returns-clause-due
returns-clause-due c =
    let awaited = taken-out (is_at (request_cmp c.args.request)) (at request_cmp c.args.self.now.due) (at request_cmp c.args.self.now.withheld) (at request_cmp c.remove_at.new.self) (at request_cmp c.remove.new.self) (λ k. c.remove_at.ensures c.args.request k c.requires) c.remove.ensures in
    λ index.
    index-one c.args.request (awaited_at c.args.self.now) (λ r. option_or (at request_cmp c.remove_at.new.self r) (at request_cmp c.remove.new.self r)) (at request_cmp c.args.self.now.due) (at request_cmp c.remove_at.new.self)
    (waits_in c.args.self.now.waiting) (waits_in c.args.self.now.waiting) None index
    (set-there c.args.request _ None (awaited_at c.args.self.now) awaited) (λ r e. refl) (λ k. c.remove_at.ensures c.args.request k c.requires)
    (sym (ap (λ o. due_of o (waits_in c.args.self.now.waiting c.args.request)) (set-here c.args.request _ None (awaited_at c.args.self.now) awaited)))
