-- New tables are whole.
use Rattle.std.proofs.Common.{◌≡◌, ℕ, zero, suc, ◌+◌, ◌<◌, true, List, [], ◌∷◌, ◌++◌, length, arith, refl, get_or, ap, subst}
use Rattle.std.proofs.lemmas.Bool.Decides.{nat_tests}
use Rattle.std.proofs.lemmas.List.Elements.{All-cons, All-nil}
use Rattle.std.proofs.lemmas.Option.{get_or_from_slice_get, slice_get_within}
use Rattle.std.specs.Prelude.{All, Option, None, Some, slice_get, map}
use Rattle.gx_ids.specs.declared.ids.SessionId.{SessionId}
use Rattle.gx_groups.specs.declared.seat.Seat.TheVariants.{Grouped}
use Rattle.gx_groups.specs.Slots.{Slots, fresh, has}
use Rattle.gx_groups.specs.Table.{KeepsLimit, IsWhole, IsWithin, fresh_groups, members_of, new_seat}

limits-fresh : (of : List (Option ℕ)) (place : ℕ) (limits : List ℕ) → All KeepsLimit (fresh_groups of place limits)
limits-fresh of place [] = All-nil KeepsLimit
limits-fresh of place (limit ∷ limits) = All-cons KeepsLimit (fresh limit (members_of place 0 of)) (fresh_groups of (place + 1) limits) (omega arith) (limits-fresh of (place + 1) limits)

length-fresh : (of : List (Option ℕ)) (place : ℕ) (limits : List ℕ) → length (fresh_groups of place limits) ≡ length limits
length-fresh of place [] = refl
length-fresh of place (limit ∷ limits) = ap suc (length-fresh of (place + 1) limits)

-- the group at a place
pub fresh-at : (of : List (Option ℕ)) (from : ℕ) (limits : List ℕ) (k place : ℕ) (d : Slots) → from + k ≡ place → k < length limits → get_or (fresh_groups of from limits) k d ≡ fresh (get_or limits k 0) (members_of place 0 of)
fresh-at of from [] k place d e inside = absurd (omega arith)
fresh-at of from (limit ∷ limits) zero place d e inside = let same : from ≡ place = omega arith in ap (λ q. fresh limit (members_of q 0 of)) same
fresh-at of from (limit ∷ limits) (suc k) place d e inside = fresh-at of (from + 1) limits k place d (omega arith) (omega arith)

pub grouped-of : (of : List (Option ℕ)) (n place : ℕ) → slice_get (map new_seat of) n ≡ Some (Grouped place) → slice_get of n ≡ Some (Some place)
grouped-of [] n place e = cc
grouped-of (None ∷ of) zero place e = cc
grouped-of (Some p ∷ of) zero place e = cc
grouped-of (group ∷ of) (suc n) place e = grouped-of of n place e

pub within-of : (groups : ℕ) (of : List (Option ℕ)) (n place : ℕ) → All (IsWithin groups) of → slice_get of n ≡ Some (Some place) → place < groups
within-of groups of n place within at = subst (IsWithin groups) (get_or_from_slice_get of n (Some place) None at) (within n None (slice_get_within of n (Some place) at))

-- a session is among those of its group
member-of : (place from : ℕ) (of : List (Option ℕ)) (n number : ℕ) → from + n ≡ number → slice_get of n ≡ Some (Some place) → has (record { 0 = number }) (members_of place from of) ≡ true
member-of place from [] n number e at = cc
member-of place from (None ∷ of) zero number e at = cc
member-of place from (Some p ∷ of) zero number e at = grind (arith, nat_tests)
member-of place from (None ∷ of) (suc n) number e at = member-of place (from + 1) of n number (omega arith) at
member-of place from (Some p ∷ of) (suc n) number e at = grind (arith, nat_tests, member-of place (from + 1) of n number (omega arith) at)

pub whole-fresh : (of : List (Option ℕ)) (limits : List ℕ) → All (IsWithin (length limits)) of → IsWhole (fresh_groups of 0 limits) (map new_seat of)
whole-fresh of limits within = record {
  limits = limits-fresh of 0 limits;
  within = λ number place at. rw length-fresh (within-of (length limits) of number place within (grouped-of of number place at));
  members = λ number place at.
      let there = grouped-of of number place at in
      let inside = within-of (length limits) of number place within there in
      rw (fresh-at of 0 limits place place (fresh 0 []) (omega arith) inside) (member-of place 0 of number number (omega arith) there);
}

askers-fresh : (of : List (Option ℕ)) (from : ℕ) (limits : List ℕ) (place : ℕ) → (get_or (fresh_groups of from limits) place (fresh 0 [])).askers ≡ []
askers-fresh of from [] place = refl
askers-fresh of from (limit ∷ limits) zero = refl
askers-fresh of from (limit ∷ limits) (suc place) = askers-fresh of (from + 1) limits place

pub nobody-asks : (of : List (Option ℕ)) (from : ℕ) (limits : List ℕ) (place : ℕ) (asked : List SessionId) → (get_or (fresh_groups of from limits) place (fresh 0 [])).askers ++ asked ≡ asked
nobody-asks of from limits place asked = ap (λ xs. xs ++ asked) (askers-fresh of from limits place)
