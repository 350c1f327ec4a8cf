-- Room for the claims that are waited for.
use Rattle.std.specs.Prelude.{ℕ, Bool, true, false, List, filter, length}
use Rattle.gx_waits.specs.declared.claim.Claim.{Claim}
use Rattle.gx_locks.specs.declared.key.Key.{Key}
use Rattle.gx_locks.specs.Holds.{is_under}

abbrev pub bit : Bool → ℕ
bit true = 1
bit false = 0

-- how many waits stand under the key
abbrev pub awaited : Key → List Claim → ℕ
awaited k waits = length (filter (is_under k) waits)
