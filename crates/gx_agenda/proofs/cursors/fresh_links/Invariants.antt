use Rattle.std.proofs.Common.{◌≡◌, length}
use Rattle.gx_agenda.specs.FreshLinks.{AreFresh}
use Rattle.gx_agenda.proofs.cursors.fresh_links.Given as goal

abbrev pub invariant-loop-link : goal.invariant-loop-link
invariant-loop-link l =
    record {
      whole : length l.links.items ≡ l.link;
      fresh : AreFresh l.faults l.links.items;
    }
