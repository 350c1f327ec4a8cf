-- Lists of gxids.
use Rattle.std.specs.Prelude.{◌+◌, Bool, List, [], ◌∷◌, ◌==◌, nat_lt, if◌then◌else◌, Option, None, Some}
use Rattle.std.specs.declared.cmp.Ordering.{Ordering}
use Rattle.std.specs.Ordering.{nat_cmp}
use Rattle.std.specs.List.{list_any}
use Rattle.std.specs.List.Sorted.{IsStrictlySortedBy}
use Rattle.gx_ids.specs.declared.ids.Gxid.{Gxid}

-- by number
abbrev pub gxid_cmp : Gxid → Gxid → Ordering
gxid_cmp g h = nat_cmp g.0 h.0

-- each gxid is below those after it
abbrev pub IsRising : List Gxid → Type 0
IsRising gxids = IsStrictlySortedBy gxid_cmp gxids

-- whether g stands in the list
abbrev pub is_listed : Gxid → List Gxid → Bool
is_listed g gxids = list_any (λ h. h.0 == g.0) gxids

-- whether g is below the limit
abbrev pub is_below : Gxid → Gxid → Bool
is_below limit g = nat_lt g.0 limit.0

-- the first of the list, or the other where it is empty
abbrev pub first_or : List Gxid → Gxid → Gxid
first_or [] other = other
first_or (g ∷ _) _ = g

-- one more than the greatest ended gxid, or 1 where none has ended
abbrev pub after_ended : Option Gxid → Gxid
after_ended None = record { 0 = 1 }
after_ended (Some g) = record { 0 = g.0 + 1 }

-- the lesser of two
abbrev pub lesser : Gxid → Gxid → Gxid
lesser g h = if nat_lt g.0 h.0 then g else h

-- the least of the list and one more
abbrev pub least_of : List Gxid → Gxid → Gxid
least_of [] other = other
least_of (g ∷ gs) other = least_of gs (lesser g other)
