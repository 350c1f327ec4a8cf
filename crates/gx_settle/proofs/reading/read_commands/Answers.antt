use Rattle.std.proofs.Common.{◌≡◌, ◌+◌, List, length, sym, ap, ◌∙◌, subst, arith}
use Rattle.std.proofs.lemmas.List.{length-append}
use Rattle.gx_settle.specs.declared.command.Command.{Command}
use Rattle.gx_settle.proofs.Behind.{IsReading, drawn-more, reading-next}
use Rattle.gx_settle.proofs.reading.read_commands.Goals as goal

pub loop-line-preserved : goal.loop-line-preserved
loop-line-preserved c =
    let items = c.in_ok-push.ensures.items in
    let more : length c.push.new.self.items ≡ length c.loop-line.commands.items + 1 = ap length items ∙ length-append _ _ in
    record {
      reading = subst (λ (t : List Command). IsReading c.args.bytes.now c.in-Some.others.now t) (sym items)
          (reading-next c.args.bytes.now c.loop-line.rest.now c.in-Some.line.now c.in-Some.others.now c.loop-line.commands.items c.in-Some-read_command.command c.loop-line.invariant.reading c.in-Some.ensures.cases c.in-Some-read_command.ensures.read);
      drawn = drawn-more c.loop-line.commands.items c.push.new.self.items c.in-Some-read_command.command c.loop-line.invariant.drawn c.in-Some-read_command.ensures.drawn items;
      room = omega (arith, more, c.in-Some.ensures.shorter, c.loop-line.invariant.room);
    }
