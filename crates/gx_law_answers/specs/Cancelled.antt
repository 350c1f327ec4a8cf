-- Victims of the detector.
use Rattle.std.specs.Prelude.{Bool, List, []}
use Rattle.gx_script.specs.declared.Script.{Script}
use Rattle.gx_store.specs.declared.event.Event.{Event}
use Rattle.gx_rules.specs.Machine.{world_of}
use Rattle.gx_law_order.specs.Finish.{AreVerdictsLegal}

-- in every run, whoever a recheck names is cancelled in its step
abbrev pub AreVictimsCancelled : Script → Type 0
AreVictimsCancelled script = (events : List (Event × Bool)) → AreVerdictsLegal [] (world_of script events).steps
