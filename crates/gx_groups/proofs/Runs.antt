-- Tables after lists of calls.
use Rattle.std.proofs.Common.{◌≡◌, ◌≢◌, ℕ, zero, suc, ◌<◌, true, false, List, [], ◌∷◌, ◌++◌, length, arith, eqb, refl, get_or, set, sym, ◌∙◌, ap, ⊎_elim, length-append, append_assoc, append-nil}
use Rattle.std.proofs.lemmas.Bool.{cases_eq}
use Rattle.std.proofs.lemmas.Bool.Decides.{nat_tests}
use Rattle.std.proofs.lemmas.Grind.{get_or-set_at}
use Rattle.std.proofs.lemmas.List.{get_or-set_other}
use Rattle.std.specs.Prelude.{Option, None, Some, slice_get}
use Rattle.gx_ids.specs.declared.ids.SessionId.{SessionId}
use Rattle.gx_groups.specs.declared.seat.Seat.{Seat}
use Rattle.gx_groups.specs.declared.seat.Seat.TheVariants.{Grouped, Alone}
use Rattle.gx_groups.specs.declared.seat.Standing.{Standing}
use Rattle.gx_groups.specs.declared.seat.Standing.TheVariants.{Idle, Asking, Holding}
use Rattle.gx_groups.specs.Slots.{Slots, fresh, lets, asked, taken, given}
use Rattle.gx_groups.specs.Table.{Table, KeepsLimit, IsWhole, seat_of, may_at, changed_at, group_at, after_take}
use Rattle.gx_groups.specs.Calls.{Call, Ask, Take, Give, Admits, on, after, IsRun, is_seated, only_if, asked_by, taken_by}
use Rattle.gx_groups.proofs.Sessions.{first-asker, length-without, member-asked, member-taken, member-given}
use Rattle.gx_groups.proofs.Whole.{whole-group, whole-standing}

abbrev pub Whole : Table → Type 0
Whole t = IsWhole t.groups t.seats

limit-at : (t : Table) (place : ℕ) → Whole t → place < length t.groups → KeepsLimit (group_at t place)
limit-at t place whole inside = whole.limits place (fresh 0 []) inside

limit-taken : (slots : Slots) (s : SessionId) → lets slots s ≡ true → KeepsLimit (taken slots s)
limit-taken slots s free = grind (arith, nat_tests, length-append slots.holders (s ∷ []))

limit-given : (slots : Slots) (s : SessionId) → KeepsLimit slots → KeepsLimit (given slots s)
limit-given slots s limit = omega (arith, length-without s slots.holders)

pub whole-ask : (t : Table) (s : SessionId) (seat : Option Seat) → seat_of t s ≡ seat → Whole t → Whole (changed_at t s asked Asking seat)
whole-ask t s None e whole = whole
whole-ask t s (Some (Grouped p)) e whole = whole-group t.groups t.seats p (asked (group_at t p) s) whole (limit-at t p whole (whole.within s.0 p e)) (member-asked (group_at t p) s)
whole-ask t s (Some (Alone standing)) e whole = whole-standing t.groups t.seats s.0 Asking whole

pub whole-take : (t : Table) (s : SessionId) (seat : Option Seat) → seat_of t s ≡ seat → may_at t s seat ≡ true → Whole t → Whole (changed_at t s taken Holding seat)
whole-take t s None e free whole = whole
whole-take t s (Some (Grouped p)) e free whole = whole-group t.groups t.seats p (taken (group_at t p) s) whole (limit-taken (group_at t p) s free) (member-taken (group_at t p) s free)
whole-take t s (Some (Alone standing)) e free whole = whole-standing t.groups t.seats s.0 Holding whole

pub whole-give : (t : Table) (s : SessionId) (seat : Option Seat) → seat_of t s ≡ seat → Whole t → Whole (changed_at t s given Idle seat)
whole-give t s None e whole = whole
whole-give t s (Some (Grouped p)) e whole =
    whole-group t.groups t.seats p (given (group_at t p) s) whole (limit-given (group_at t p) s (limit-at t p whole (whole.within s.0 p e))) (member-given (group_at t p) s)
whole-give t s (Some (Alone standing)) e whole = whole-standing t.groups t.seats s.0 Idle whole

whole-on : (t : Table) (call : Call) → Admits t call → Whole t → Whole (on t call)
whole-on t (Ask s) admits whole = whole-ask t s (seat_of t s) refl whole
whole-on t (Take s) admits whole = whole-take t s (seat_of t s) refl admits whole
whole-on t (Give s) admits whole = whole-give t s (seat_of t s) refl whole

pub whole-after : (t : Table) (calls : List Call) → IsRun t calls → Whole t → Whole (after t calls)
whole-after t [] run whole = whole
whole-after t (call ∷ before) run whole = whole-on (after t before) call run.1 (whole-after t before run.0 whole)

-- WHO IS OF WHICH GROUP STAYS
seated-set : (seats : List Seat) (n k place : ℕ) (standing other : Standing) → slice_get seats n ≡ Some (Alone other) → is_seated place (slice_get (set seats n (Alone standing)) k) ≡ is_seated place (slice_get seats k)
seated-set [] n k place standing other e = refl
seated-set (x ∷ xs) zero zero place standing other e = let same : x ≡ Alone other = cc in sym (ap (λ y. is_seated place (Some y)) same)
seated-set (x ∷ xs) zero (suc k) place standing other e = refl
seated-set (x ∷ xs) (suc n) zero place standing other e = refl
seated-set (x ∷ xs) (suc n) (suc k) place standing other e = seated-set xs n k place standing other e

seated-changed : (t : Table) (s x : SessionId) (place : ℕ) (change : Slots → SessionId → Slots) (standing : Standing) (seat : Option Seat) → seat_of t s ≡ seat
    → is_seated place (seat_of (changed_at t s change standing seat) x) ≡ is_seated place (seat_of t x)
seated-changed t s x place change standing None e = refl
seated-changed t s x place change standing (Some (Grouped p)) e = refl
seated-changed t s x place change standing (Some (Alone other)) e = seated-set t.seats s.0 x.0 place standing other e

seated-on : (t : Table) (call : Call) (x : SessionId) (place : ℕ) → is_seated place (seat_of (on t call) x) ≡ is_seated place (seat_of t x)
seated-on t (Ask s) x place = seated-changed t s x place asked Asking (seat_of t s) refl
seated-on t (Take s) x place = seated-changed t s x place taken Holding (seat_of t s) refl
seated-on t (Give s) x place = seated-changed t s x place given Idle (seat_of t s) refl

seated-after : (t : Table) (calls : List Call) (x : SessionId) (place : ℕ) → is_seated place (seat_of (after t calls) x) ≡ is_seated place (seat_of t x)
seated-after t [] x place = refl
seated-after t (call ∷ before) x place = seated-on (after t before) call x place ∙ seated-after t before x place

-- THE ORDER
-- the group at another place stays, and the one at this place is changed
module _ (t : Table) (p place : ℕ) (slots : Slots) where
  pub at-same : p ≡ place → p < length t.groups → get_or (set t.groups p slots) place (fresh 0 []) ≡ slots
  at-same e inside = get_or-set_at t.groups p place slots (fresh 0 []) (sym e) inside

  pub at-other : place ≢ p → get_or (set t.groups p slots) place (fresh 0 []) ≡ group_at t place
  at-other ne = get_or-set_other t.groups p place slots (fresh 0 []) ne

seated-same : (p place : ℕ) → p ≡ place → eqb p place ≡ true
seated-same p place e = grind (arith, nat_tests)

seated-other : (p place : ℕ) → place ≢ p → eqb p place ≡ false
seated-other p place ne = grind (arith, nat_tests)

askers-ask : (t : Table) (s : SessionId) (place : ℕ) (seat : Option Seat) → seat_of t s ≡ seat → Whole t
    → (group_at (changed_at t s asked Asking seat) place).askers ≡ (group_at t place).askers ++ only_if (is_seated place seat) s
askers-ask t s place None e whole = sym (append-nil _)
askers-ask t s place (Some (Alone standing)) e whole = sym (append-nil _)
askers-ask t s place (Some (Grouped p)) e whole =
    ⊎_elim
    (λ (same : p ≡ place). rw (seated-same p place same, at-same t p place (asked (group_at t p) s) same (whole.within s.0 p e)) (ap (λ q. (group_at t q).askers ++ s ∷ []) same))
    (λ (ne : p ≢ place). rw (seated-other p place (λ x. ne (sym x)), at-other t p place (asked (group_at t p) s) (λ x. ne (sym x))) (sym (append-nil _)))
    (cases_eq p place)

askers-take : (t : Table) (s : SessionId) (place : ℕ) (seat : Option Seat) → seat_of t s ≡ seat → may_at t s seat ≡ true → Whole t
    → only_if (is_seated place seat) s ++ (group_at (changed_at t s taken Holding seat) place).askers ≡ (group_at t place).askers
askers-take t s place None e free whole = refl
askers-take t s place (Some (Alone standing)) e free whole = refl
askers-take t s place (Some (Grouped p)) e free whole =
    ⊎_elim
    (λ (same : p ≡ place). rw (seated-same p place same, at-same t p place (taken (group_at t p) s) same (whole.within s.0 p e)) (first-asker (group_at t p) s free ∙ ap (λ q. (group_at t q).askers) same))
    (λ (ne : p ≢ place). rw (seated-other p place (λ x. ne (sym x)), at-other t p place (taken (group_at t p) s) (λ x. ne (sym x))) refl)
    (cases_eq p place)

askers-give : (t : Table) (s : SessionId) (place : ℕ) (seat : Option Seat) → seat_of t s ≡ seat → Whole t → (group_at (changed_at t s given Idle seat) place).askers ≡ (group_at t place).askers
askers-give t s place None e whole = refl
askers-give t s place (Some (Alone standing)) e whole = refl
askers-give t s place (Some (Grouped p)) e whole =
    ⊎_elim
    (λ (same : p ≡ place). rw (at-same t p place (given (group_at t p) s) same (whole.within s.0 p e)) (ap (λ q. (group_at t q).askers) same))
    (λ (ne : p ≢ place). rw (at-other t p place (given (group_at t p) s) (λ x. ne (sym x))) refl)
    (cases_eq p place)

pub in-order : (t : Table) (calls : List Call) (place : ℕ) → IsRun t calls → Whole t → taken_by t place calls ++ (group_at (after t calls) place).askers ≡ (group_at t place).askers ++ asked_by t place calls
in-order t [] place run whole = sym (append-nil _)
in-order t (Ask s ∷ before) place run whole =
    let now = after t before in
    ap (λ xs. taken_by t place before ++ xs) (askers-ask now s place (seat_of now s) refl (whole-after t before run.0 whole) ∙ ap (λ b. (group_at now place).askers ++ only_if b s) (seated-after t before s place))
    ∙ sym (append_assoc (taken_by t place before) (group_at now place).askers _)
    ∙ ap (λ xs. xs ++ only_if (is_seated place (seat_of t s)) s) (in-order t before place run.0 whole)
    ∙ append_assoc (group_at t place).askers (asked_by t place before) _
in-order t (Take s ∷ before) place run whole =
    let now = after t before in
    append_assoc (taken_by t place before) _ (group_at (after_take now s) place).askers
    ∙ ap (λ xs. taken_by t place before ++ xs) (ap (λ b. only_if b s ++ (group_at (after_take now s) place).askers) (sym (seated-after t before s place)) ∙ askers-take now s place (seat_of now s) refl run.1 (whole-after t before run.0 whole))
    ∙ in-order t before place run.0 whole
in-order t (Give s ∷ before) place run whole =
    let now = after t before in
    ap (λ xs. taken_by t place before ++ xs) (askers-give now s place (seat_of now s) refl (whole-after t before run.0 whole)) ∙ in-order t before place run.0 whole
