use Rattle.std.specs.Prelude.{◌≡◌, ◌+◌, drop, option_map}
use Rattle.gx_store.specs.Groups.{place_in}
use Rattle.gx_agenda.proofs.grouping.place_in.Given as goal

abbrev pub invariant-loop-place : goal.invariant-loop-place
invariant-loop-place l = option_map (λ n. l.place + n) (place_in l.session (drop l.place l.groups)) ≡ place_in l.session l.groups
