-- What may be left to do while nobody who has begun can go on: a round of the detector, and lines that begin transactions.
use Rattle.std.specs.Prelude.{Bool, true, false, not, List}
use Rattle.gx_script.specs.declared.Script.{Script}
use Rattle.gx_store.specs.Legal.{is_in_block}
use Rattle.gx_store.specs.Lines.{state_of}
use Rattle.gx_store.specs.Points.{marks_in}
use Rattle.gx_store.specs.declared.event.Event.{Event}
use Rattle.gx_store.specs.declared.event.Event.TheVariants.{Round, Start}
use Rattle.gx_store.specs.declared.run.Step.{Step}

-- the line of a session that stands in no block, so one that belongs to no transaction yet
abbrev pub is_opening : Script → List Step → Event → Bool
is_opening script steps (Start session) = not (is_in_block (state_of script session (marks_in steps)))
is_opening script steps _ = false

abbrev pub is_round_or_opening : Script → List Step → Event → Bool
is_round_or_opening script steps Round = true
is_round_or_opening script steps event = is_opening script steps event
