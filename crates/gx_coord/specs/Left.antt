-- What a session has left.
use Rattle.std.specs.Prelude.{if◌then◌else◌}
use Rattle.gx_ids.specs.declared.ids.SessionId.{SessionId}
use Rattle.gx_script.specs.declared.Script.{Script}
use Rattle.gx_rules.specs.AtCoordinator.{is_in_block, is_left, next_line}
use Rattle.gx_rules.specs.Coordinators.{Coord, session_of}
use Rattle.gx_coord.specs.declared.left.Left.{Left}
use Rattle.gx_coord.specs.declared.left.Left.TheVariants.{Lines, OpenBlock, Nothing}

-- lines that haven't started; or none, and a block that is open or failed; or neither
abbrev pub left_of : Script → Coord → SessionId → Left
left_of script c session = if is_left (next_line script c session) then Lines else if is_in_block (session_of c session).state.block then OpenBlock else Nothing
