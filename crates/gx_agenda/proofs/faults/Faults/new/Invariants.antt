use Rattle.std.proofs.Common.{◌≡◌, ℕ, take}
use Rattle.std.specs.List.{list_any}
use Rattle.gx_agenda.specs.Links.{is_loss_of, is_repeat_of}
use Rattle.gx_agenda.specs.Faults.{is_lost, is_repeated}
use Rattle.gx_agenda.proofs.faults.Faults.new.Given as goal

abbrev pub invariant-loop-fault : goal.invariant-loop-fault
invariant-loop-fault l =
    record {
      lost : (link number : ℕ) → is_lost l.known link number ≡ list_any (is_loss_of link number) (take l.fault-index l.faults);
      repeated : (link number : ℕ) → is_repeated l.known link number ≡ list_any (is_repeat_of link number) (take l.fault-index l.faults);
    }
