-- Segments of a new network.
use Rattle.std.specs.Prelude.{◌≡◌, ℕ, ◌+◌, List, slice_get, Some}
use Rattle.gx_script.specs.declared.Script.{Script}
use Rattle.gx_rules.specs.Machine.{new_world}
use Rattle.gx_segment.specs.declared.segment.Segment.{Segment}
use Rattle.gx_world.specs.Networks.{IsAt}

-- each has its number, from 1, and nothing has come to it
abbrev pub AreNew : Script → List Segment → Type 0
AreNew script segments = (k : ℕ) (segment : Segment) → slice_get segments k ≡ Some segment → IsAt script new_world (k + 1) segment
