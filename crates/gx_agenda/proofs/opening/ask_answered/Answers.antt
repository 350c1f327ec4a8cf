use Rattle.std.proofs.Common.{◌∙◌, ◌&&◌, arith, ap, length, sym}
use Rattle.std.specs.Prelude.{map}
use Rattle.gx_store.specs.Marks.{is_answered}
use Rattle.gx_agenda.specs.Slotted.{asking_if, is_due}
use Rattle.gx_agenda.proofs.Asking.{answered-between, next-asks, numbered, range-none}
use Rattle.gx_agenda.proofs.opening.ask_answered.Goals as goal

pub loop-number-init : goal.loop-number-init
loop-number-init c = λ span.
    answered-between (is_due c.args.script.now.lines c.args.queue.now.standings.items c.args.outside.now) c.args.groups.now c.args.marks.now c.args.answered.from c.min-past.result (length c.args.script.now.sessions)
    c.args.answered.past span.past span.from (c.min-past.ensures ∙ ap (Prim.Native.Nat.min c.args.answered.past) c.len.ensures)

pub loop-number-preserved : goal.loop-number-preserved
loop-number-preserved c = λ span.
    next-asks (λ s. is_answered s c.args.marks.now && is_due c.args.script.now.lines c.args.queue.now.standings.items c.args.outside.now s) c.loop-number.groups c.ask_where_answered.new.groups c.loop-number.number c.min-past.result
    c.loop-number-test.true c.ask_where_answered.ensures
    ∙ c.loop-number.invariant span

pub returns : goal.returns
returns c = λ span.
    sym (ap (λ ns. asking_if (λ s. is_answered s c.args.marks.now && is_due c.args.script.now.lines c.args.queue.now.standings.items c.args.outside.now s) c.loop-number.groups (map numbered ns)) (range-none c.loop-number.number c.min-past.result (omega (arith, c.loop-number-test.false))))
    ∙ c.loop-number.invariant span
