-- What sessions do, told by the calls.
use Rattle.std.proofs.Common.{◌≡◌, ◌≢◌, ℕ, zero, suc, ◌+◌, ◌<◌, Bool, true, false, List, [], ◌∷◌, length, arith, refl, set, sym, ◌∙◌, ap, subst, ⊎_elim}
use Rattle.std.proofs.lemmas.Bool.{cases_eq}
use Rattle.std.proofs.lemmas.Bool.Decides.{nat_tests}
use Rattle.std.specs.Prelude.{All, Option, None, Some, slice_get, map, if◌then◌else◌}
use Rattle.gx_ids.specs.declared.ids.SessionId.{SessionId}
use Rattle.gx_groups.specs.declared.seat.Seat.{Seat}
use Rattle.gx_groups.specs.declared.seat.Seat.TheVariants.{Grouped, Alone}
use Rattle.gx_groups.specs.declared.seat.Standing.{Standing}
use Rattle.gx_groups.specs.declared.seat.Standing.TheVariants.{Idle, Asking, Holding}
use Rattle.gx_groups.specs.Slots.{Slots, fresh, has, is, asked, taken, given}
use Rattle.gx_groups.specs.Table.{Table, IsWithin, asks, changed_at, group_at, holds, is_asking, is_holding, is_known, asks_at, holds_at, may_at, members_of, new_seat, seat_of}
use Rattle.gx_groups.specs.Seats.{is_known_at}
use Rattle.gx_groups.specs.Calls.{Call, Ask, Take, Give, IsRun, after, fresh_table, standing_after}
use Rattle.gx_groups.specs.Standings.{Does, IsTold, Tells, one, times}
use Rattle.gx_groups.proofs.Fresh.{fresh-at, grouped-of, within-of, whole-fresh}
use Rattle.gx_groups.proofs.Runs.{Whole, at-other, at-same, whole-after}
use Rattle.gx_groups.proofs.Sessions.{same-session}
use Rattle.gx_groups.proofs.Counts.{has-none, has-some, does-ask, does-take, does-give, other-ask, other-take, other-give}

-- WHAT THE TABLE SAYS OF A SESSION
abbrev pub instead : SessionId → Standing → (SessionId → Standing) → SessionId → Standing
instead s new standing x = if is x s then new else standing x

-- what a call makes of the slots of its session's group
record Makes (s : SessionId) (new : Standing) (slots changed : Slots) (standing : SessionId → Standing) : Type 0 where
  own : Does s (standing s) slots → Does s new changed
  others : (x : SessionId) → is x s ≡ false → Does x (standing x) slots → Does x (standing x) changed

makes : (s x : SessionId) (new : Standing) (slots changed : Slots) (standing : SessionId → Standing) → Makes s new slots changed standing → Does x (standing x) slots → (b : Bool) → is x s ≡ b
    → Does x (if b then new else standing x) changed
makes s x new slots changed standing m does true e =
    let same : s ≡ x = same-session x s e in subst (λ (y : SessionId). Does y new changed) same (m.own (subst (λ (y : SessionId). Does y (standing y) slots) (sym same) does))
makes s x new slots changed standing m does false e = m.others x e does

-- two seats of one session are one
one-seat : (t : Table) (s x : SessionId) (seat other : Seat) → is x s ≡ true → seat_of t s ≡ Some seat → seat_of t x ≡ Some other → Some seat ≡ Some other
one-seat t s x seat other same e at = sym e ∙ ap (seat_of t) (same-session x s same) ∙ at

kept-alone : (t : Table) (s x : SessionId) (p : ℕ) (new own : Standing) (standing : SessionId → Standing) → seat_of t s ≡ Some (Grouped p) → seat_of t x ≡ Some (Alone own) → own ≡ standing x → (b : Bool)
    → is x s ≡ b → own ≡ (if b then new else standing x)
kept-alone t s x p new own standing e at was true same = let both = one-seat t s x (Grouped p) (Alone own) same e at in cc
kept-alone t s x p new own standing e at was false other = was

kept-grouped : (t : Table) (s x : SessionId) (p q : ℕ) (new : Standing) (slots : Slots) (standing : SessionId → Standing) → seat_of t s ≡ Some (Grouped p) → seat_of t x ≡ Some (Grouped q) → (p ≡ q → ⊥)
    → Does x (standing x) slots → (b : Bool) → is x s ≡ b → Does x (if b then new else standing x) slots
kept-grouped t s x p q new slots standing e at ne does true same = let both = one-seat t s x (Grouped p) (Grouped q) same e at in absurd (ne cc)
kept-grouped t s x p q new slots standing e at ne does false other = does

told-grouped : (t : Table) (s : SessionId) (change : Slots → SessionId → Slots) (new : Standing) (p : ℕ) (standing : SessionId → Standing) → seat_of t s ≡ Some (Grouped p) → Whole t
    → Makes s new (group_at t p) (change (group_at t p) s) standing → IsTold t standing → IsTold (changed_at t s change new (Some (Grouped p))) (instead s new standing)
told-grouped t s change new p standing e whole m told x (Alone own) at = kept-alone t s x p new own standing e at (told x (Alone own) at) (is x s) refl
told-grouped t s change new p standing e whole m told x (Grouped q) at =
    let changed : Slots = change (group_at t p) s in
    ⊎_elim
    (λ (same : p ≡ q).
    rw (at-same t p q changed same (whole.within s.0 p e)) (makes s x new (group_at t p) changed standing m (subst (λ r. Does x (standing x) (group_at t r)) (sym same) (told x (Grouped q) at)) (is x s) refl))
    (λ (ne : p ≢ q). rw (at-other t p q changed (λ y. ne (sym y))) (kept-grouped t s x p q new (group_at t q) standing e at ne (told x (Grouped q) at) (is x s) refl))
    (cases_eq p q)

set-here : (seats : List Seat) (n : ℕ) (old new : Seat) → slice_get seats n ≡ Some old → slice_get (set seats n new) n ≡ Some new
set-here [] n old new e = cc
set-here (x ∷ xs) zero old new e = refl
set-here (x ∷ xs) (suc n) old new e = set-here xs n old new e

set-there : (seats : List Seat) (n k : ℕ) (new : Seat) → k ≢ n → slice_get (set seats n new) k ≡ slice_get seats k
set-there [] n k new ne = refl
set-there (x ∷ xs) zero zero new ne = absurd (ne refl)
set-there (x ∷ xs) zero (suc k) new ne = refl
set-there (x ∷ xs) (suc n) zero new ne = refl
set-there (x ∷ xs) (suc n) (suc k) new ne = set-there xs n k new (λ e. ne (ap suc e))

tells-still : (t : Table) (seats : List Seat) (x : SessionId) (standing : Standing) (seat : Seat) → Tells t x standing seat → Tells (record t { seats = seats }) x standing seat
tells-still t seats x standing (Grouped q) tells = tells
tells-still t seats x standing (Alone own) tells = tells

apart : (s x : SessionId) → is x s ≡ false → x.0 ≢ s.0
apart s x other e = grind (arith, nat_tests)

alone-changed : (t : Table) (s x : SessionId) (new own : Standing) (standing : SessionId → Standing) (seat : Seat) → seat_of t s ≡ Some (Alone own) → IsTold t standing
    → slice_get (set t.seats s.0 (Alone new)) x.0 ≡ Some seat → (b : Bool) → is x s ≡ b → Tells (record t { seats = set t.seats s.0 (Alone new) }) x (if b then new else standing x) seat
alone-changed t s x new own standing seat e told at true same =
    let set_seats : List Seat = set t.seats s.0 (Alone new) in
    let both : Some (Alone new) ≡ Some seat = sym (set-here t.seats s.0 (Alone own) (Alone new) e) ∙ ap (λ (y : SessionId). slice_get set_seats y.0) (same-session x s same) ∙ at in
    let is_alone : Alone new ≡ seat = cc in subst (Tells (record t { seats = set_seats }) x new) is_alone refl
alone-changed t s x new own standing seat e told at false other =
    tells-still t (set t.seats s.0 (Alone new)) x (standing x) seat (told x seat (sym (set-there t.seats s.0 x.0 (Alone new) (apart s x other)) ∙ at))

told-alone : (t : Table) (s : SessionId) (change : Slots → SessionId → Slots) (new own : Standing) (standing : SessionId → Standing) → seat_of t s ≡ Some (Alone own)
    → IsTold t standing → IsTold (changed_at t s change new (Some (Alone own))) (instead s new standing)
told-alone t s change new own standing e told x seat at = alone-changed t s x new own standing seat e told at (is x s) refl

pub told-ask : (t : Table) (s : SessionId) (standing : SessionId → Standing) (seat : Option Seat) → seat_of t s ≡ seat → is_known_at seat ≡ true → asks_at t s seat ≡ false → holds_at t s seat ≡ false → Whole t
    → IsTold t standing → IsTold (changed_at t s asked Asking seat) (instead s Asking standing)
told-ask t s standing None e known not_asking no_slot whole told = cc
told-ask t s standing (Some (Alone own)) e known not_asking no_slot whole told = told-alone t s asked Asking own standing e told
told-ask t s standing (Some (Grouped p)) e known not_asking no_slot whole told =
    told-grouped t s asked Asking p standing e whole
    (record { own = does-ask s (standing s) (group_at t p) not_asking no_slot; others = λ x other does. other-ask s x (standing x) (group_at t p) other does })
    told

pub told-take : (t : Table) (s : SessionId) (standing : SessionId → Standing) (seat : Option Seat) → seat_of t s ≡ seat → may_at t s seat ≡ true → Whole t
    → IsTold t standing → IsTold (changed_at t s taken Holding seat) (instead s Holding standing)
told-take t s standing None e free whole told = cc
told-take t s standing (Some (Alone own)) e free whole told = told-alone t s taken Holding own standing e told
told-take t s standing (Some (Grouped p)) e free whole told =
    told-grouped t s taken Holding p standing e whole
    (record { own = does-take s (standing s) (group_at t p) free; others = λ x other does. other-take s x (standing x) (group_at t p) other does free })
    told

pub told-give : (t : Table) (s : SessionId) (standing : SessionId → Standing) (seat : Option Seat) → seat_of t s ≡ seat → holds_at t s seat ≡ true → Whole t
    → IsTold t standing → IsTold (changed_at t s given Idle seat) (instead s Idle standing)
told-give t s standing None e holding whole told = cc
told-give t s standing (Some (Alone own)) e holding whole told = told-alone t s given Idle own standing e told
told-give t s standing (Some (Grouped p)) e holding whole told =
    told-grouped t s given Idle p standing e whole
    (record { own = does-give s (standing s) (group_at t p) holding; others = λ x other does. other-give s x (standing x) (group_at t p) other does })
    told

told-after : (t : Table) (calls : List Call) → IsRun t calls → Whole t → IsTold t (λ s. Idle) → IsTold (after t calls) (λ s. standing_after s calls)
told-after t [] run whole told = told
told-after t (Ask s ∷ before) run whole told =
    let now = after t before in
    told-ask now s (λ x. standing_after x before) (seat_of now s) refl run.1.0 run.1.1 run.1.2 (whole-after t before run.0 whole) (told-after t before run.0 whole told)
told-after t (Take s ∷ before) run whole told =
    let now = after t before in told-take now s (λ x. standing_after x before) (seat_of now s) refl run.1 (whole-after t before run.0 whole) (told-after t before run.0 whole told)
told-after t (Give s ∷ before) run whole told =
    let now = after t before in told-give now s (λ x. standing_after x before) (seat_of now s) refl run.1 (whole-after t before run.0 whole) (told-after t before run.0 whole told)

-- NEW TABLES
before-all : (place from : ℕ) (of : List (Option ℕ)) (number : ℕ) → number < from → times (record { 0 = number }) (members_of place from of) ≡ 0
before-all place from [] number below = refl
before-all place from (None ∷ of) number below = before-all place (from + 1) of number (omega arith)
before-all place from (Some p ∷ of) number below = grind (arith, nat_tests, before-all place (from + 1) of number (omega arith))

times-members : (place from : ℕ) (of : List (Option ℕ)) (n number : ℕ) → from + n ≡ number → slice_get of n ≡ Some (Some place) → times (record { 0 = number }) (members_of place from of) ≡ 1
times-members place from [] n number e at = cc
times-members place from (None ∷ of) zero number e at = cc
times-members place from (Some p ∷ of) zero number e at = grind (arith, nat_tests, before-all place (from + 1) of number (omega arith))
times-members place from (None ∷ of) (suc n) number e at = times-members place (from + 1) of n number (omega arith) at
times-members place from (Some p ∷ of) (suc n) number e at = grind (arith, nat_tests, times-members place (from + 1) of n number (omega arith) at)

alone-of : (of : List (Option ℕ)) (n : ℕ) (own : Standing) → slice_get (map new_seat of) n ≡ Some (Alone own) → own ≡ Idle
alone-of [] n own e = cc
alone-of (None ∷ of) zero own e = cc
alone-of (Some p ∷ of) zero own e = cc
alone-of (group ∷ of) (suc n) own e = alone-of of n own e

pub told-fresh : (limits : List ℕ) (of : List (Option ℕ)) → All (IsWithin (length limits)) of → IsTold (fresh_table limits of) (λ s. Idle)
told-fresh limits of within s (Alone own) at = alone-of of s.0 own at
told-fresh limits of within s (Grouped p) at =
    let there = grouped-of of s.0 p at in
    let inside = within-of (length limits) of s.0 p within there in
    rw (fresh-at of 0 limits p p (fresh 0 []) (omega arith) inside) (record { holders = refl; askers = refl; idle = times-members p 0 of s.0 s.0 (omega arith) there })

-- WHO ASKS AND WHO HOLDS
has-by : (s : SessionId) (sessions : List SessionId) (b there : Bool) → times s sessions ≡ one b → has s sessions ≡ there → has s sessions ≡ b
has-by s sessions true true e is_there = is_there
has-by s sessions false false e is_there = is_there
has-by s sessions true false e is_there = let none = has-none s sessions is_there in absurd (omega arith)
has-by s sessions false true e is_there = let some = has-some s sessions is_there in absurd (omega arith)

has-one : (s : SessionId) (sessions : List SessionId) (b : Bool) → times s sessions ≡ one b → has s sessions ≡ b
has-one s sessions b e = has-by s sessions b (has s sessions) e refl

pub says-asks : (t : Table) (s : SessionId) (standing : Standing) (seat : Seat) → Tells t s standing seat → asks_at t s (Some seat) ≡ is_asking standing
says-asks t s standing (Grouped p) tells = has-one s (group_at t p).askers (is_asking standing) tells.askers
says-asks t s standing (Alone own) tells = ap is_asking tells

pub says-holds : (t : Table) (s : SessionId) (standing : Standing) (seat : Seat) → Tells t s standing seat → holds_at t s (Some seat) ≡ is_holding standing
says-holds t s standing (Grouped p) tells = has-one s (group_at t p).holders (is_holding standing) tells.holders
says-holds t s standing (Alone own) tells = ap is_holding tells

known-set : (seats : List Seat) (n k : ℕ) (seat : Seat) → is_known_at (slice_get (set seats n seat) k) ≡ is_known_at (slice_get seats k)
known-set [] n k seat = refl
known-set (x ∷ xs) zero zero seat = refl
known-set (x ∷ xs) zero (suc k) seat = refl
known-set (x ∷ xs) (suc n) zero seat = refl
known-set (x ∷ xs) (suc n) (suc k) seat = known-set xs n k seat

known-changed : (t : Table) (s x : SessionId) (change : Slots → SessionId → Slots) (new : Standing) (seat : Option Seat) → is_known (changed_at t s change new seat) x ≡ is_known t x
known-changed t s x change new None = refl
known-changed t s x change new (Some (Grouped p)) = refl
known-changed t s x change new (Some (Alone own)) = known-set t.seats s.0 x.0 (Alone new)

known-after : (t : Table) (calls : List Call) (x : SessionId) → is_known (after t calls) x ≡ is_known t x
known-after t [] x = refl
known-after t (Ask s ∷ before) x = let now = after t before in known-changed now s x asked Asking (seat_of now s) ∙ known-after t before x
known-after t (Take s ∷ before) x = let now = after t before in known-changed now s x taken Holding (seat_of now s) ∙ known-after t before x
known-after t (Give s ∷ before) x = let now = after t before in known-changed now s x given Idle (seat_of now s) ∙ known-after t before x

known-asks : (t : Table) (s : SessionId) (standing : Standing) (seat : Option Seat) → is_known_at seat ≡ true → seat_of t s ≡ seat → ((at : Seat) → seat_of t s ≡ Some at → Tells t s standing at)
    → asks_at t s seat ≡ is_asking standing
known-asks t s standing None known e told = cc
known-asks t s standing (Some at) known e told = says-asks t s standing at (told at e)

known-holds : (t : Table) (s : SessionId) (standing : Standing) (seat : Option Seat) → is_known_at seat ≡ true → seat_of t s ≡ seat → ((at : Seat) → seat_of t s ≡ Some at → Tells t s standing at)
    → holds_at t s seat ≡ is_holding standing
known-holds t s standing None known e told = cc
known-holds t s standing (Some at) known e told = says-holds t s standing at (told at e)

module _ (limits : List ℕ) (of : List (Option ℕ)) (calls : List Call) (s : SessionId) (within : All (IsWithin (length limits)) of) (run : IsRun (fresh_table limits of) calls) (known : is_known (fresh_table limits of) s ≡ true) where
  abbrev now : Table
  now = after (fresh_table limits of) calls

  told-now : (at : Seat) → seat_of now s ≡ Some at → Tells now s (standing_after s calls) at
  told-now = told-after (fresh_table limits of) calls run (whole-fresh of limits within) (told-fresh limits of within) s

  pub asks-told : asks now s ≡ is_asking (standing_after s calls)
  asks-told = known-asks now s (standing_after s calls) (seat_of now s) (known-after (fresh_table limits of) calls s ∙ known) refl told-now

  pub holds-told : holds now s ≡ is_holding (standing_after s calls)
  holds-told = known-holds now s (standing_after s calls) (seat_of now s) (known-after (fresh_table limits of) calls s ∙ known) refl told-now
