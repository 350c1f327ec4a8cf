-- What is noted of each session is what the lists of its group have.
use Rattle.std.proofs.Common.{◌≡◌, ◌≢◌, ℕ, zero, suc, ◌≤◌, ◌<◌, Bool, true, false, List, [], ◌∷◌, length, arith, refl, get_or, set, sym, ◌∙◌, ap, subst}
use Rattle.std.proofs.lemmas.Bool.Decides.{nat_tests}
use Rattle.std.proofs.lemmas.Grind.{get_or-set_at}
use Rattle.std.proofs.lemmas.List.{get_or-set_other, get_or_past, length-set}
use Rattle.std.proofs.lemmas.Option.{slice_get_within}
use Rattle.std.specs.Prelude.{All, Option, None, Some, if◌then◌else◌, map, replicate, slice_get}
use Rattle.gx_ids.specs.declared.ids.SessionId.{SessionId}
use Rattle.gx_groups.specs.declared.seat.Seat.{Seat}
use Rattle.gx_groups.specs.declared.seat.Seat.TheVariants.{Grouped, Alone}
use Rattle.gx_groups.specs.declared.seat.Standing.{Standing}
use Rattle.gx_groups.specs.declared.seat.Standing.TheVariants.{Idle, Asking, Holding}
use Rattle.gx_groups.specs.Slots.{Slots, asked, given, is, taken}
use Rattle.gx_groups.specs.Table.{Table, IsWhole, IsWithin, after_ask, after_give, after_take, asks, asks_at, changed_at, fresh_groups, holds, holds_at, is_asking, is_holding, may, new_seat, seat_of}
use Rattle.gx_groups.specs.Seats.{is_known_at}
use Rattle.gx_groups.specs.Standings.{AreNoted, IsTold, Tells, standing_at}
use Rattle.gx_groups.proofs.Runs.{whole-ask, whole-give, whole-take}
use Rattle.gx_groups.proofs.Sessions.{same-session}
use Rattle.gx_groups.proofs.Whole.{found-there}
use Rattle.gx_groups.proofs.Told.{instead, says-asks, says-holds, told-ask, told-fresh, told-give, told-take}

abbrev Noted : Table → List Standing → Type 0
Noted t standings = AreNoted t.groups t.seats standings

abbrev pub IsKept : Table → List Standing → Type 0
IsKept t standings = IsWhole t.groups t.seats × AreNoted t.groups t.seats standings

-- WHAT IS ASKED
past-last : (seats : List Seat) (n : ℕ) → slice_get seats n ≡ None → length seats ≤ n
past-last [] n e = omega arith
past-last (x ∷ xs) zero e = cc
past-last (x ∷ xs) (suc n) e = let rest = past-last xs n e in omega arith

nobody : (t : Table) (standings : List Standing) (s : SessionId) → Noted t standings → seat_of t s ≡ None → standing_at standings s ≡ Idle
nobody t standings s noted e = let past = past-last t.seats s.0 e in let each = noted.each in get_or_past standings s.0 Idle (omega arith)

asks-at : (t : Table) (standings : List Standing) (s : SessionId) (seat : Option Seat) → Noted t standings → seat_of t s ≡ seat → asks_at t s seat ≡ is_asking (standing_at standings s)
asks-at t standings s None noted e = sym (ap is_asking (nobody t standings s noted e))
asks-at t standings s (Some seat) noted e = says-asks t s (standing_at standings s) seat (noted.told s seat e)

pub asks-noted : (t : Table) (standings : List Standing) (s : SessionId) → Noted t standings → is_asking (standing_at standings s) ≡ asks t s
asks-noted t standings s noted = sym (asks-at t standings s (seat_of t s) noted refl)

holds-at : (t : Table) (standings : List Standing) (s : SessionId) (seat : Option Seat) → Noted t standings → seat_of t s ≡ seat → holds_at t s seat ≡ is_holding (standing_at standings s)
holds-at t standings s None noted e = sym (ap is_holding (nobody t standings s noted e))
holds-at t standings s (Some seat) noted e = says-holds t s (standing_at standings s) seat (noted.told s seat e)

pub holds-noted : (t : Table) (standings : List Standing) (s : SessionId) → Noted t standings → is_holding (standing_at standings s) ≡ holds t s
holds-noted t standings s noted = sym (holds-at t standings s (seat_of t s) noted refl)

-- WHAT IS CHANGED
pub within-noted : (t : Table) (standings : List Standing) (s : SessionId) (seat : Seat) → Noted t standings → seat_of t s ≡ Some seat → s.0 < length standings
within-noted t standings s seat noted e = let inside = slice_get_within t.seats s.0 seat e in let each = noted.each in omega arith

apart : (s x : SessionId) → is x s ≡ false → x.0 ≢ s.0
apart s x other e = grind (arith, nat_tests)

instead-at : (standings : List Standing) (s x : SessionId) (new : Standing) → s.0 < length standings → (b : Bool) → is x s ≡ b → (if b then new else standing_at standings x) ≡ standing_at (set standings s.0 new) x
instead-at standings s x new inside true same = sym (get_or-set_at standings s.0 x.0 new Idle (ap (λ (y : SessionId). y.0) (sym (same-session x s same))) inside)
instead-at standings s x new inside false other = sym (get_or-set_other standings s.0 x.0 new Idle (apart s x other))

told-by : (t : Table) (f g : SessionId → Standing) → ((s : SessionId) → f s ≡ g s) → IsTold t f → IsTold t g
told-by t f g same told s seat at = subst (λ standing. Tells t s standing seat) (same s) (told s seat at)

told-set : (t : Table) (standings : List Standing) (s : SessionId) (new : Standing) → s.0 < length standings → IsTold t (instead s new (standing_at standings)) → IsTold t (standing_at (set standings s.0 new))
told-set t standings s new inside told = told-by t (instead s new (standing_at standings)) (standing_at (set standings s.0 new)) (λ x. instead-at standings s x new inside (is x s) refl) told

seats-changed : (t : Table) (s : SessionId) (change : Slots → SessionId → Slots) (new : Standing) (seat : Option Seat) → length (changed_at t s change new seat).seats ≡ length t.seats
seats-changed t s change new None = refl
seats-changed t s change new (Some (Grouped p)) = refl
seats-changed t s change new (Some (Alone own)) = length-set t.seats s.0 (Alone new)

module _ (t : Table) (standings : List Standing) (s : SessionId) (seat : Seat) (sits : seat_of t s ≡ Some seat) (whole : IsWhole t.groups t.seats) (noted : Noted t standings) where
  inside : s.0 < length standings
  inside = within-noted t standings s seat noted sits

  known : is_known_at (seat_of t s) ≡ true
  known = ap is_known_at sits

  noted-changed : (change : Slots → SessionId → Slots) (new : Standing) → IsTold (changed_at t s change new (seat_of t s)) (instead s new (standing_at standings))
      → Noted (changed_at t s change new (seat_of t s)) (set standings s.0 new)
  noted-changed change new told = record {
    each = length-set standings s.0 new ∙ noted.each ∙ sym (seats-changed t s change new (seat_of t s));
    told = told-set (changed_at t s change new (seat_of t s)) standings s new inside told;
  }

  pub kept-ask : asks t s ≡ false → holds t s ≡ false → IsKept (after_ask t s) (set standings s.0 Asking)
  kept-ask not_asking no_slot = (
    whole-ask t s (seat_of t s) refl whole,
    noted-changed asked Asking (told-ask t s (standing_at standings) (seat_of t s) refl known not_asking no_slot whole noted.told),
  )

  pub kept-take : may t s ≡ true → IsKept (after_take t s) (set standings s.0 Holding)
  kept-take free = (
    whole-take t s (seat_of t s) refl free whole,
    noted-changed taken Holding (told-take t s (standing_at standings) (seat_of t s) refl free whole noted.told),
  )

  pub kept-give : holds t s ≡ true → IsKept (after_give t s) (set standings s.0 Idle)
  kept-give holding = (
    whole-give t s (seat_of t s) refl whole,
    noted-changed given Idle (told-give t s (standing_at standings) (seat_of t s) refl holding whole noted.told),
  )

-- the table whose group at a place was changed, and the table where a session without a group does something else
pub changed-there : (groups : List Slots) (seats : List Seat) (s : SessionId) (place at : ℕ) (was is : Slots) (change : Slots → SessionId → Slots) (new : Standing) → IsWhole groups seats → at ≡ place
    → slice_get seats s.0 ≡ Some (Grouped place) → was ≡ get_or groups at was → is ≡ change was s
    → changed_at (record { groups = groups; seats = seats }) s change new (slice_get seats s.0) ≡ record { groups = set groups at is; seats = seats }
changed-there groups seats s place at was is change new whole e seat here made =
    let table : List Slots → Table = λ gs. record { groups = gs; seats = seats } in
    ap (changed_at (table groups) s change new) seat
    ∙ ap (λ (q : Slots). table (set groups place (change q s))) (sym (found-there groups seats s place at was whole e seat here))
    ∙ ap (λ q. table (set groups q (change was s))) (sym e)
    ∙ ap (λ (q : Slots). table (set groups at q)) (sym made)

pub changed-alone : (groups : List Slots) (seats : List Seat) (s : SessionId) (own : Standing) (change : Slots → SessionId → Slots) (new : Standing) → slice_get seats s.0 ≡ Some (Alone own)
    → changed_at (record { groups = groups; seats = seats }) s change new (slice_get seats s.0) ≡ record { groups = groups; seats = set seats s.0 (Alone new) }
changed-alone groups seats s own change new seat = ap (changed_at (record { groups = groups; seats = seats }) s change new) seat

-- NEW TABLES
idle-at : (n k : ℕ) → get_or (replicate n Idle) k Idle ≡ Idle
idle-at zero k = refl
idle-at (suc n) zero = refl
idle-at (suc n) (suc k) = idle-at n k

seats-fresh : (of : List (Option ℕ)) → length (map new_seat of) ≡ length of
seats-fresh [] = refl
seats-fresh (x ∷ xs) = ap suc (seats-fresh xs)

length-idle : (n : ℕ) → length (replicate n Idle) ≡ n
length-idle zero = refl
length-idle (suc n) = ap suc (length-idle n)

pub noted-fresh : (of : List (Option ℕ)) (limits : List ℕ) → All (IsWithin (length limits)) of → AreNoted (fresh_groups of 0 limits) (map new_seat of) (replicate (length of) Idle)
noted-fresh of limits within = record {
  each = length-idle (length of) ∙ sym (seats-fresh of);
  told = λ s. let idle : Idle ≡ standing_at (replicate (length of) Idle) s = sym (idle-at (length of) s.0) in told-by _ (λ x. Idle) (standing_at (replicate (length of) Idle)) (λ x. sym (idle-at (length of) x.0)) (told-fresh limits of within) s;
}
