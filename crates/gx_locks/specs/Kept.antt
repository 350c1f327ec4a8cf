-- What the table keeps of its lists.
use Rattle.std.specs.Prelude.{◌≡◌, false, List, AllPairs}
use Rattle.gx_waits.specs.declared.claim.Claim.{Claim}
use Rattle.gx_waits.specs.Claim.{meets, same_claim}
use Rattle.gx_waits.specs.Claims.{is_of}

-- no hold meets one that came before it
abbrev pub AreExclusive : List Claim → Type 0
AreExclusive holds = AllPairs (λ earlier later. meets later earlier ≡ false) holds

-- no claim is held twice
abbrev pub AreOnce : List Claim → Type 0
AreOnce holds = AllPairs (λ earlier later. same_claim later earlier ≡ false) holds

-- no transaction waits twice
abbrev pub WaitOnce : List Claim → Type 0
WaitOnce waits = AllPairs (λ a b. is_of a.gxid b ≡ false) waits
