-- What a lock is taken on, and its mode.
use Rattle.std.specs.Prelude.{ℕ, ◌^◌, ◌==◌, if◌then◌else◌, List, [], ◌∷◌, Option, Some, None, option_and_then, codes}
use Rattle.gx_modes.specs.Table.{number_of}
use Rattle.gx_modes.specs.declared.modes.Mode.{Mode}
use Rattle.gx_modes.specs.declared.modes.Mode.TheVariants.{AccessShare, RowShare, RowExclusive, ShareUpdateExclusive, Share, ShareRowExclusive, Exclusive, AccessExclusive}
use Rattle.gx_script.specs.declared.Script.{Script}
use Rattle.gx_waits.specs.declared.object.Object.{Object}
use Rattle.gx_waits.specs.declared.object.Object.TheVariants.{Relation, Tuple, Transaction}
use Rattle.gx_trace.specs.Fields.{gxid, rid}
use Rattle.gx_trace.specs.Names.{table}
use Rattle.gx_trace.specs.Readers.{Front, behind, either, made, number_below}

abbrev pub object : Script → List ℕ → Front Object
object script bytes =
    either (made (λ t. Relation t) (behind (codes " relation") (table script) bytes))
    (either (made (λ r. Tuple r) (behind (codes " tuple") rid bytes)) (made (λ g. Transaction g) (behind (codes " transaction") gxid bytes)))

abbrev pub all_modes : List Mode
all_modes = AccessShare ∷ RowShare ∷ RowExclusive ∷ ShareUpdateExclusive ∷ Share ∷ ShareRowExclusive ∷ Exclusive ∷ AccessExclusive ∷ []

-- the mode of this number
abbrev pub mode_among : List Mode → ℕ → Option Mode
mode_among [] n = None
mode_among (m ∷ ms) n = if n == number_of m then Some m else mode_among ms n

abbrev pub with_mode : ℕ × List ℕ → Front Mode
with_mode x = option_and_then (λ m. Some (m, x.1)) (mode_among all_modes x.0)

abbrev pub mode : List ℕ → Front Mode
mode bytes = option_and_then with_mode (behind (codes " ") (number_below (2 ^ 8)) bytes)
