-- Tables that stay whole.
use Rattle.std.proofs.Common.{◌≡◌, ◌≢◌, ℕ, zero, suc, ◌<◌, true, false, List, [], ◌∷◌, length, arith, get_or, set, sym, ◌∙◌, ap, subst, ⊎_elim, length-set}
use Rattle.std.proofs.lemmas.Bool.{cases_eq}
use Rattle.std.proofs.lemmas.Grind.{get_or-set_at}
use Rattle.std.proofs.lemmas.List.{get_or-set_other, get_or_default}
use Rattle.std.proofs.lemmas.List.Elements.{All-set}
use Rattle.std.specs.Prelude.{Some, slice_get}
use Rattle.gx_ids.specs.declared.ids.SessionId.{SessionId}
use Rattle.gx_groups.specs.declared.seat.Seat.{Seat}
use Rattle.gx_groups.specs.declared.seat.Seat.TheVariants.{Grouped, Alone}
use Rattle.gx_groups.specs.declared.seat.Standing.{Standing}
use Rattle.gx_groups.specs.Slots.{Slots, fresh, has, is_member, asked, given}
use Rattle.gx_groups.specs.Table.{Table, KeepsLimit, IsWhole, asks, asks_at, holds, holds_at}
use Rattle.gx_groups.proofs.Sessions.{has-idle, length-without, member-asked, member-given}

-- the group at a place changes, and keeps its limit and its sessions
pub whole-group : (groups : List Slots) (seats : List Seat) (place : ℕ) (slots : Slots) → IsWhole groups seats → KeepsLimit slots
    → ((s : SessionId) → is_member s (get_or groups place (fresh 0 [])) ≡ true → is_member s slots ≡ true) → IsWhole (set groups place slots) seats
whole-group groups seats place slots whole limit kept = record {
  limits = All-set KeepsLimit groups place slots limit whole.limits;
  within = λ number at there. rw length-set (whole.within number at there);
  members = λ number at there.
      let s : SessionId = record { 0 = number } in
      ⊎_elim
      (λ (e : at ≡ place). let inside : place < length groups = subst (λ q. q < length groups) e (whole.within number at there) in
      rw (get_or-set_at groups place at slots (fresh 0 []) e inside) (kept s (subst (λ q. is_member s (get_or groups q (fresh 0 [])) ≡ true) e (whole.members number at there))))
      (λ (ne : at ≢ place). rw (get_or-set_other groups place at slots (fresh 0 []) ne) (whole.members number at there))
      (cases_eq at place);
}

grouped-before : (seats : List Seat) (n k place : ℕ) (standing : Standing) → slice_get (set seats n (Alone standing)) k ≡ Some (Grouped place) → slice_get seats k ≡ Some (Grouped place)
grouped-before [] n k place standing e = e
grouped-before (x ∷ xs) zero zero place standing e = cc
grouped-before (x ∷ xs) zero (suc k) place standing e = e
grouped-before (x ∷ xs) (suc n) zero place standing e = e
grouped-before (x ∷ xs) (suc n) (suc k) place standing e = grouped-before xs n k place standing e

-- a session without a group does something else
pub whole-standing : (groups : List Slots) (seats : List Seat) (number : ℕ) (standing : Standing) → IsWhole groups seats → IsWhole groups (set seats number (Alone standing))
whole-standing groups seats number standing whole = record {
  limits = whole.limits;
  within = λ n at there. whole.within n at (grouped-before seats number n at standing there);
  members = λ n at there. whole.members n at (grouped-before seats number n at standing there);
}

-- the seat of a session is in the group at a place, which is this one
module _ (groups : List Slots) (seats : List Seat) (s : SessionId) (place at : ℕ) (was : Slots) (whole : IsWhole groups seats) (e : at ≡ place) (seat : slice_get seats s.0 ≡ Some (Grouped place)) (here : was ≡ get_or groups at was) where
  abbrev table : Table
  table = record { groups = groups; seats = seats }

  inside : at < length groups
  inside = subst (λ q. q < length groups) (sym e) (whole.within s.0 place seat)

  found : was ≡ get_or groups at (fresh 0 [])
  found = here ∙ get_or_default groups at was (fresh 0 []) inside

  pub found-there : was ≡ get_or groups place (fresh 0 [])
  found-there = found ∙ ap (λ q. get_or groups q (fresh 0 [])) e

  member : is_member s was ≡ true
  member = rw found-there (whole.members s.0 place seat)

  pub idle-here : asks table s ≡ false → holds table s ≡ false → has s was.idle ≡ true
  idle-here not_asking no_slot =
      has-idle was s member (ap (λ (g : Slots). has s g.askers) found-there ∙ sym (ap (asks_at table s) seat) ∙ not_asking) (ap (λ (g : Slots). has s g.holders) found-there ∙ sym (ap (holds_at table s) seat) ∙ no_slot)

  limit : KeepsLimit was
  limit = subst KeepsLimit (sym found) (whole.limits at (fresh 0 []) inside)

  pub whole-asked : (is : Slots) → is ≡ asked was s → IsWhole (set groups at is) seats
  whole-asked is made = rw made (whole-group groups seats at (asked was s) whole limit (λ x there. member-asked was s x (subst (λ (g : Slots). is_member x g ≡ true) (sym found) there)))

  pub whole-given : (is : Slots) → is ≡ given was s → IsWhole (set groups at is) seats
  whole-given is made =
      rw made (whole-group groups seats at (given was s) whole (let l = limit in omega (arith, length-without s was.holders)) (λ x there. member-given was s x (subst (λ (g : Slots). is_member x g ≡ true) (sym found) there)))
