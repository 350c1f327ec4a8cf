-- What calls change of a group's holders, and what they leave.
use Rattle.std.proofs.Common.{◌≡◌, ◌≢◌, ℕ, zero, suc, true, false, cond, List, [], ◌∷◌, ◌++◌, arith, eqb, refl, set, sym, ◌∙◌, ap, ⊎_elim, append-nil}
use Rattle.std.proofs.lemmas.Bool.{cases_eq}
use Rattle.std.proofs.lemmas.Bool.Decides.{nat_tests}
use Rattle.std.specs.Prelude.{Option, None, Some, slice_get}
use Rattle.gx_ids.specs.declared.ids.SessionId.{SessionId}
use Rattle.gx_groups.specs.declared.seat.Seat.{Seat}
use Rattle.gx_groups.specs.declared.seat.Seat.TheVariants.{Grouped, Alone}
use Rattle.gx_groups.specs.declared.seat.Standing.{Standing}
use Rattle.gx_groups.specs.declared.seat.Standing.TheVariants.{Idle, Asking, Holding}
use Rattle.gx_groups.specs.Slots.{Slots, asked, taken, given, without}
use Rattle.gx_groups.specs.Table.{Table, IsWhole, after_ask, after_give, after_take, changed_at, group_at, seat_of}
use Rattle.gx_groups.specs.Calls.{Call, Ask, Take, Give, after, is_seated, on, only_if}
use Rattle.gx_groups.proofs.Runs.{at-other, at-same}

abbrev pub Whole : Table → Type 0
Whole t = IsWhole t.groups t.seats

-- WHO IS OF WHICH GROUP
seated-set : (seats : List Seat) (n k place : ℕ) (standing other : Standing) → slice_get seats n ≡ Some (Alone other) → is_seated place (slice_get (set seats n (Alone standing)) k) ≡ is_seated place (slice_get seats k)
seated-set [] n k place standing other e = refl
seated-set (x ∷ xs) zero zero place standing other e = let same : x ≡ Alone other = cc in sym (ap (λ y. is_seated place (Some y)) same)
seated-set (x ∷ xs) zero (suc k) place standing other e = refl
seated-set (x ∷ xs) (suc n) zero place standing other e = refl
seated-set (x ∷ xs) (suc n) (suc k) place standing other e = seated-set xs n k place standing other e

seated-changed : (t : Table) (s x : SessionId) (place : ℕ) (change : Slots → SessionId → Slots) (standing : Standing) (seat : Option Seat) → seat_of t s ≡ seat
    → is_seated place (seat_of (changed_at t s change standing seat) x) ≡ is_seated place (seat_of t x)
seated-changed t s x place change standing None e = refl
seated-changed t s x place change standing (Some (Grouped p)) e = refl
seated-changed t s x place change standing (Some (Alone other)) e = seated-set t.seats s.0 x.0 place standing other e

seated-on : (t : Table) (call : Call) (x : SessionId) (place : ℕ) → is_seated place (seat_of (on t call) x) ≡ is_seated place (seat_of t x)
seated-on t (Ask s) x place = seated-changed t s x place asked Asking (seat_of t s) refl
seated-on t (Take s) x place = seated-changed t s x place taken Holding (seat_of t s) refl
seated-on t (Give s) x place = seated-changed t s x place given Idle (seat_of t s) refl

pub seated-after : (t : Table) (calls : List Call) (x : SessionId) (place : ℕ) → is_seated place (seat_of (after t calls) x) ≡ is_seated place (seat_of t x)
seated-after t [] x place = refl
seated-after t (call ∷ before) x place = seated-on (after t before) call x place ∙ seated-after t before x place

-- HOLDERS
pub seated-same : (p place : ℕ) → p ≡ place → eqb p place ≡ true
seated-same p place e = grind (arith, nat_tests)

pub seated-other : (p place : ℕ) → place ≢ p → eqb p place ≡ false
seated-other p place ne = grind (arith, nat_tests)

holders-ask-at : (t : Table) (s : SessionId) (place : ℕ) (seat : Option Seat) → seat_of t s ≡ seat → Whole t → (group_at (changed_at t s asked Asking seat) place).holders ≡ (group_at t place).holders
holders-ask-at t s place None e whole = refl
holders-ask-at t s place (Some (Alone standing)) e whole = refl
holders-ask-at t s place (Some (Grouped p)) e whole =
    ⊎_elim
    (λ (same : p ≡ place). rw (at-same t p place (asked (group_at t p) s) same (whole.within s.0 p e)) (ap (λ q. (group_at t q).holders) same))
    (λ (ne : p ≢ place). rw (at-other t p place (asked (group_at t p) s) (λ x. ne (sym x))) refl)
    (cases_eq p place)

pub holders-ask : (t : Table) (s : SessionId) (place : ℕ) → Whole t → (group_at (after_ask t s) place).holders ≡ (group_at t place).holders
holders-ask t s place whole = holders-ask-at t s place (seat_of t s) refl whole

holders-take-at : (t : Table) (s : SessionId) (place : ℕ) (seat : Option Seat) → seat_of t s ≡ seat → Whole t
    → (group_at (changed_at t s taken Holding seat) place).holders ≡ (group_at t place).holders ++ only_if (is_seated place seat) s
holders-take-at t s place None e whole = sym (append-nil _)
holders-take-at t s place (Some (Alone standing)) e whole = sym (append-nil _)
holders-take-at t s place (Some (Grouped p)) e whole =
    ⊎_elim
    (λ (same : p ≡ place). rw (seated-same p place same, at-same t p place (taken (group_at t p) s) same (whole.within s.0 p e)) (ap (λ q. (group_at t q).holders ++ s ∷ []) same))
    (λ (ne : p ≢ place). rw (seated-other p place (λ x. ne (sym x)), at-other t p place (taken (group_at t p) s) (λ x. ne (sym x))) (sym (append-nil _)))
    (cases_eq p place)

pub holders-take : (t : Table) (s : SessionId) (place : ℕ) → Whole t → (group_at (after_take t s) place).holders ≡ (group_at t place).holders ++ only_if (is_seated place (seat_of t s)) s
holders-take t s place whole = holders-take-at t s place (seat_of t s) refl whole

holders-give-at : (t : Table) (s : SessionId) (place : ℕ) (seat : Option Seat) → seat_of t s ≡ seat → Whole t
    → (group_at (changed_at t s given Idle seat) place).holders ≡ cond (is_seated place seat) (without s (group_at t place).holders) (group_at t place).holders
holders-give-at t s place None e whole = refl
holders-give-at t s place (Some (Alone standing)) e whole = refl
holders-give-at t s place (Some (Grouped p)) e whole =
    ⊎_elim
    (λ (same : p ≡ place). rw (seated-same p place same, at-same t p place (given (group_at t p) s) same (whole.within s.0 p e)) (ap (λ q. without s (group_at t q).holders) same))
    (λ (ne : p ≢ place). rw (seated-other p place (λ x. ne (sym x)), at-other t p place (given (group_at t p) s) (λ x. ne (sym x))) refl)
    (cases_eq p place)

pub holders-give : (t : Table) (s : SessionId) (place : ℕ) → Whole t → (group_at (after_give t s) place).holders ≡ cond (is_seated place (seat_of t s)) (without s (group_at t place).holders) (group_at t place).holders
holders-give t s place whole = holders-give-at t s place (seat_of t s) refl whole

-- LIMITS
limit-changed : (t : Table) (s : SessionId) (place : ℕ) (change : Slots → SessionId → Slots) (standing : Standing) (seat : Option Seat) → seat_of t s ≡ seat → ((slots : Slots) → (change slots s).limit ≡ slots.limit) → Whole t
    → (group_at (changed_at t s change standing seat) place).limit ≡ (group_at t place).limit
limit-changed t s place change standing None e keeps whole = refl
limit-changed t s place change standing (Some (Alone other)) e keeps whole = refl
limit-changed t s place change standing (Some (Grouped p)) e keeps whole =
    ⊎_elim
    (λ (same : p ≡ place). rw (at-same t p place (change (group_at t p) s) same (whole.within s.0 p e)) (keeps (group_at t p) ∙ ap (λ q. (group_at t q).limit) same))
    (λ (ne : p ≢ place). rw (at-other t p place (change (group_at t p) s) (λ x. ne (sym x))) refl)
    (cases_eq p place)

pub limit-on : (t : Table) (call : Call) (place : ℕ) → Whole t → (group_at (on t call) place).limit ≡ (group_at t place).limit
limit-on t (Ask s) place whole = limit-changed t s place asked Asking (seat_of t s) refl (λ slots. refl) whole
limit-on t (Take s) place whole = limit-changed t s place taken Holding (seat_of t s) refl (λ slots. refl) whole
limit-on t (Give s) place whole = limit-changed t s place given Idle (seat_of t s) refl (λ slots. refl) whole
