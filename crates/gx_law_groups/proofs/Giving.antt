-- A slot that is given back takes no other away.
use Rattle.std.proofs.Common.{◌≡◌, ◌≢◌, ℕ, Bool, true, false, ◌&&◌, List, length, arith, refl, set, sym, ◌∙◌, ap, ⊎_elim}
use Rattle.std.proofs.lemmas.Bool.{cases_eq}
use Rattle.std.proofs.lemmas.Bool.Decides.{nat_tests}
use Rattle.std.specs.Prelude.{Option, None, Some, nat_lt, slice_get}
use Rattle.gx_ids.specs.declared.ids.SessionId.{SessionId}
use Rattle.gx_lemmas.proofs.Lists.{get-set-other}
use Rattle.gx_lemmas.proofs.Tests.{and-first, and-second}
use Rattle.gx_groups.specs.declared.seat.Seat.{Seat}
use Rattle.gx_groups.specs.declared.seat.Seat.TheVariants.{Grouped, Alone}
use Rattle.gx_groups.specs.declared.seat.Standing.{Standing}
use Rattle.gx_groups.specs.declared.seat.Standing.TheVariants.{Idle, Asking, Holding}
use Rattle.gx_groups.specs.Slots.{Slots, given, is_first, lets, without}
use Rattle.gx_groups.specs.Table.{Table, after_give, changed_at, group_at, holds, holds_at, is_asking, is_holding, may, may_at, seat_of, with_group, with_standing}
use Rattle.gx_groups.proofs.Runs.{at-other, at-same}
use Rattle.gx_groups.proofs.Sessions.{length-without}
use Rattle.gx_law_groups.proofs.Tables.{Whole}

lets-given : (slots : Slots) (k s : SessionId) → lets slots k ≡ true → lets (given slots s) k ≡ true
lets-given slots k s e =
    both (is_first k slots.askers) (nat_lt (length (without s slots.holders)) slots.limit) (and-first (is_first k slots.askers) (nat_lt (length slots.holders) slots.limit) e)
    (let b = and-second (is_first k slots.askers) (nat_lt (length slots.holders) slots.limit) e in let l = length-without s slots.holders in grind (arith, nat_tests))
  where
    both : (a b : Bool) → a ≡ true → b ≡ true → (a && b) ≡ true
    both true true x y = refl
    both true false x y = absurd (cc)
    both false b x y = absurd (cc)

-- nobody asks and holds
not-both : (st : Standing) → is_asking st ≡ true → is_holding st ≡ true → ⊥
not-both Idle a h = cc
not-both Asking a h = cc
not-both Holding a h = cc

grouped : (t : Table) (s k : SessionId) (p : ℕ) (seat : Option Seat) → Whole t → seat_of t s ≡ Some (Grouped p) → may_at t k seat ≡ true → may_at (with_group t p (given (group_at t p) s)) k seat ≡ true
grouped t s k p None whole e m = m
grouped t s k p (Some (Alone standing)) whole e m = m
grouped t s k p (Some (Grouped q)) whole e m =
    ⊎_elim
    (λ (same : p ≡ q). ap (λ g. lets g k) (at-same t p q (given (group_at t p) s) same (whole.within s.0 p e)) ∙ lets-given (group_at t p) k s (ap (λ r. lets (group_at t r) k) same ∙ m))
    (λ (ne : p ≢ q). ap (λ g. lets g k) (at-other t p q (given (group_at t p) s) (λ x. ne (sym x))) ∙ m)
    (cases_eq p q)

still-at : (t : Table) (seats : List Seat) (k : SessionId) (seat : Option Seat) → may_at t k seat ≡ true → may_at (record t { seats = seats }) k seat ≡ true
still-at t seats k None m = m
still-at t seats k (Some (Alone standing)) m = m
still-at t seats k (Some (Grouped q)) m = m

by_seat : (t : Table) (s k : SessionId) (seat : Option Seat) → seat_of t s ≡ seat → Whole t → may t k ≡ true → holds_at t s seat ≡ true → may (changed_at t s given Idle seat) k ≡ true
by_seat t s k None e whole m h = absurd (cc)
by_seat t s k (Some (Grouped p)) e whole m h = grouped t s k p (seat_of t k) whole e m
by_seat t s k (Some (Alone standing)) e whole m h =
    ⊎_elim
    (λ (same : k.0 ≡ s.0). absurd (not-both standing (sym (ap (may_at t k) (ap (slice_get t.seats) same ∙ e)) ∙ m) h))
    (λ (ne : k.0 ≢ s.0). ap (may_at (with_standing t s Idle) k) (get-set-other t.seats s.0 k.0 (Alone Idle) ne) ∙ still-at t (set t.seats s.0 (Alone Idle)) k (seat_of t k) m)
    (cases_eq k.0 s.0)

pub may-give : (t : Table) (k s : SessionId) → Whole t → may t k ≡ true → holds t s ≡ true → may (after_give t s) k ≡ true
may-give t k s whole m h = by_seat t s k (seat_of t s) refl whole m h
