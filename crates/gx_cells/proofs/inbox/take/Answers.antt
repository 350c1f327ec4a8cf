use Rattle.std.proofs.Common.{◌≡◌, Some, None, true, sym, ap}
use Rattle.std.specs.Prelude.{is_some}
use Rattle.std.specs.Option.{option_or}
use Rattle.gx_msg.specs.declared.message.Envelope.{Envelope}
use Rattle.std.specs.declared.option.Option.{Option}
use Rattle.gx_cells.proofs.inbox.take.Goals as goal

nothing : (o : Option Envelope) (e : Envelope) → o ≡ None → is_some o ≡ true → Some e ≡ None
nothing None e none some = absurd (cc)
nothing (Some x) e none some = absurd (cc)

pub returns-in-Ok : goal.returns-in-Ok
returns-in-Ok g c =
    let none : c.args.inbox.now.again ≡ None = sym c.in-None.ensures.value in
    record {
      came = Some c.in-Ok.envelope;
      link = c.in-Ok.ensures.link;
      received = c.in-Ok.ensures.next;
      is = ap (λ (o : Option Envelope). option_or o (Some c.in-Ok.envelope)) (sym none);
      once = nothing c.args.inbox.now.again c.in-Ok.envelope none;
      again = c.in-None.ensures.after;
    }
