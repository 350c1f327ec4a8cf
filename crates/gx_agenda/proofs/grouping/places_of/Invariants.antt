use Rattle.std.specs.Prelude.{◌≡◌, ◌-◌, ◌++◌, length, map}
use Rattle.std.specs.List.{range_with_len}
use Rattle.gx_ids.specs.declared.ids.SessionId.{SessionId}
use Rattle.gx_store.specs.Groups.{place_in}
use Rattle.gx_store.specs.Schedule.{sessions_of}
use Rattle.gx_agenda.proofs.grouping.places_of.Given as goal

abbrev pub invariant-loop-number : goal.invariant-loop-number
invariant-loop-number l =
    l.places.items ++ map (λ s. place_in s l.script.groups) (map (λ n. let s : SessionId = record { 0 = n } in s) (range_with_len l.number (length l.script.sessions - l.number)))
    ≡ map (λ s. place_in s l.script.groups) (sessions_of l.script)
