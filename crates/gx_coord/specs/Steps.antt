-- The coordinator against its rule, and what a step of it is.
use Rattle.std.specs.Prelude.{◌≡◌, ℕ, ◌+◌, Bool, false, List, length, slice_get, Some}
use Rattle.gx_outside.specs.Shelves.{Shelf}
use Rattle.gx_node.specs.Orders.{Took}
use Rattle.gx_store.specs.declared.node.NodeEvent.{NodeEvent}
use Rattle.gx_store.specs.declared.mark.Mark.{Mark}
use Rattle.gx_rules.specs.AtCoordinator.{coord_rule}
use Rattle.gx_rules.specs.Coordinators as rule
use Rattle.gx_coord.specs.declared.coord.Coord.{Coord}
use Rattle.gx_store.specs.Language.{IsScript}
use Rattle.gx_coord.specs.Books.{coord_of, found, session_of}
use Rattle.gx_coord.specs.Places.{AreIndexed}
use Rattle.gx_coord.specs.Sound.{IsSmall, IsSound}

-- The coordinator holds what the rule's data says, which is sound, for a script that keeps the rules of the language, whose lines
-- are found by their places; it counts what it has sent to each node, and its detector awaits the script's segments.
pub record IsCoord (coord : Coord) (c : rule.Coord) : Type 0 where
  pub table : coord.dtx ≡ c.table
  pub works : (g : ℕ) → found coord.script.value.lines coord.works.items g ≡ c.works g
  pub count : length coord.sessions.items ≡ length coord.script.value.sessions
  pub sessions : (s : ℕ) (session : _) → slice_get coord.sessions.items s ≡ Some session → session_of session ≡ c.sessions s
  pub clock : coord.clock ≡ c.clock
  pub holds : coord_of coord ≡ c
  pub language : IsScript coord.script.value
  pub places : AreIndexed coord.script.value.lines (length coord.script.value.sessions) coord.places.items
  pub sent : length coord.sent.items ≡ coord.script.value.segments + 1
  pub segments : coord.detector.segments ≡ coord.script.value.segments
  pub sound : IsSound coord.script.value c

-- The step is the rule's, for an append that fails or not: the data with the clock, the marks, which tell each message, and what
-- the journal took.
pub record HasStepped (old new : Coord) (c : rule.Coord) (event : NodeEvent) (before after : Shelf) (marks : List Mark) : Type 0 where
  pub fails : Bool
  pub is : IsCoord new (coord_rule old.script.value c event fails).coord
  pub script : new.script ≡ old.script
  pub usable : new.spent ≡ false
  pub told : marks ≡ (coord_rule old.script.value c event fails).marks
  pub took : Took before after fails (coord_rule old.script.value c event fails).item

-- what doesn't change in a step
pub record HasStayed (old new : Coord) : Type 0 where
  pub script : new.script ≡ old.script
  pub places : new.places ≡ old.places
  pub count : length new.sessions.items ≡ length old.sessions.items
  pub links : length new.sent.items ≡ length old.sent.items
  pub segments : new.detector.segments ≡ old.detector.segments

-- The same of the coordinator's fields, before it is known that they are sound.
pub record HasGone (old new : Coord) (event : NodeEvent) (before after : Shelf) (marks : List Mark) : Type 0 where
  pub fails : Bool
  pub small : IsSmall event
  pub coord : coord_of new ≡ (coord_rule old.script.value (coord_of old) event fails).coord
  pub stayed : HasStayed old new
  pub told : marks ≡ (coord_rule old.script.value (coord_of old) event fails).marks
  pub took : Took before after fails (coord_rule old.script.value (coord_of old) event fails).item
