-- What the laws of locks say of each mark, given those before it.
use Rattle.std.proofs.Common.{◌≡◌, ◌⊎◌, true, List, [], ◌∷◌, ◌++◌}
use Rattle.gx_store.specs.declared.mark.Mark.{Mark}
use Rattle.gx_store.specs.declared.mark.Mark.TheVariants as mark
use Rattle.gx_store.specs.Locks.{AreGranted, IsMomentary, LegalHold}
use Rattle.gx_store.specs.Marks.{is_ended}
use Rattle.gx_waits.specs.Claims.{claim}
use Rattle.gx_law_locks.specs.Late.{AreReleasesLate}
use Rattle.gx_law_locks.specs.Waiting.{EachBehind, GetsWhatItWaitsFor, KeepsWhileWaiting, WaitsForEnd}
use Rattle.gx_law_locks.specs.Committing.{CommitsUnlessWaiting}

abbrev pub GrantsLegally : List Mark → Mark → Type 0
GrantsLegally before (mark.Hold n g object mode) = LegalHold before n (claim g object mode)
GrantsLegally before _ = Unit {0}

abbrev pub ReleasesLate : List Mark → Mark → Type 0
ReleasesLate before (mark.Release n g object mode) = IsMomentary n object mode ⊎ (is_ended before g ≡ true)
ReleasesLate before _ = Unit {0}

pub record IsFair (before : List Mark) (m : Mark) : Type 0 where
  pub grants : GrantsLegally before m
  pub late : ReleasesLate before m
  pub keeps : KeepsWhileWaiting before m
  pub gets : GetsWhatItWaitsFor before m
  pub commits : CommitsUnlessWaiting before m
  pub ends : WaitsForEnd before m

-- so it is of marks of which the laws hold
pub each-granted : (before ms : List Mark) → AreGranted before ms → EachBehind GrantsLegally before ms
each-granted before [] e = tt
each-granted before (mark.Hold n g object mode ∷ ms) e = (e.0, each-granted (before ++ mark.Hold n g object mode ∷ []) ms e.1)
each-granted before (m ∷ ms) e = (tt, each-granted (before ++ m ∷ []) ms e)

each-late : (before ms : List Mark) → AreReleasesLate before ms → EachBehind ReleasesLate before ms
each-late before [] e = tt
each-late before (mark.Release n g object mode ∷ ms) e = (e.0, each-late (before ++ mark.Release n g object mode ∷ []) ms e.1)
each-late before (m ∷ ms) e = (tt, each-late (before ++ m ∷ []) ms e)

all-fair : (before ms : List Mark) → EachBehind GrantsLegally before ms → EachBehind ReleasesLate before ms → EachBehind KeepsWhileWaiting before ms → EachBehind GetsWhatItWaitsFor before ms
    → EachBehind CommitsUnlessWaiting before ms → EachBehind WaitsForEnd before ms → EachBehind IsFair before ms
all-fair before [] a b c g d e = tt
all-fair before (m ∷ ms) a b c g d e = (record { grants = a.0; late = b.0; keeps = c.0; gets = g.0; commits = d.0; ends = e.0 }, all-fair (before ++ m ∷ []) ms a.1 b.1 c.1 g.1 d.1 e.1)

pub each-fair : (ms : List Mark) → AreGranted [] ms → AreReleasesLate [] ms → EachBehind KeepsWhileWaiting [] ms → EachBehind GetsWhatItWaitsFor [] ms → EachBehind CommitsUnlessWaiting [] ms
    → EachBehind WaitsForEnd [] ms → EachBehind IsFair [] ms
each-fair ms a b c g d e = all-fair [] ms (each-granted [] ms a) (each-late [] ms b) c g d e
