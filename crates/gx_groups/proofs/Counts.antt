-- How often a session stands in the lists of its group.
use Rattle.std.proofs.Common.{◌≡◌, ◌+◌, ◌<◌, true, false, List, [], ◌∷◌, ◌++◌, drop, arith, refl, sym, ◌∙◌, ap}
use Rattle.std.proofs.lemmas.Bool.Decides.{nat_tests}
use Rattle.gx_ids.specs.declared.ids.SessionId.{SessionId}
use Rattle.gx_groups.specs.declared.seat.Standing.{Standing}
use Rattle.gx_groups.specs.declared.seat.Standing.TheVariants.{Idle, Asking, Holding}
use Rattle.gx_groups.specs.Slots.{Slots, has, is, lets, without, asked, taken, given}
use Rattle.gx_groups.proofs.Sessions.{first-asker}
use Rattle.gx_groups.specs.Standings.{Does, one, times}

pub times-append : (s : SessionId) (xs ys : List SessionId) → times s (xs ++ ys) ≡ times s xs + times s ys
times-append s [] ys = omega arith
times-append s (x ∷ xs) ys = omega (arith, times-append s xs ys)

times-without : (s : SessionId) (sessions : List SessionId) → times s (without s sessions) ≡ 0
times-without s [] = refl
times-without s (x ∷ xs) = grind (arith, nat_tests, times-without s xs)

is-other : (s x y : SessionId) → is x s ≡ false → is s y ≡ true → is x y ≡ false
is-other s x y other same = grind (arith, nat_tests)

times-others : (s x : SessionId) (sessions : List SessionId) → is x s ≡ false → times x (without s sessions) ≡ times x sessions
times-others s x [] other = refl
times-others s x (y ∷ ys) other = grind (arith, nat_tests, times-others s x ys other, is-other s x y other)

pub has-none : (s : SessionId) (sessions : List SessionId) → has s sessions ≡ false → times s sessions ≡ 0
has-none s [] none = refl
has-none s (x ∷ xs) none = grind (arith, nat_tests, has-none s xs)

pub has-some : (s : SessionId) (sessions : List SessionId) → has s sessions ≡ true → 0 < times s sessions
has-some s [] some = cc
has-some s (x ∷ xs) some = grind (arith, nat_tests, has-some s xs)

pub itself : (s : SessionId) → is s s ≡ true
itself s = grind (arith, nat_tests)

-- the session that a call is about
pub does-ask : (s : SessionId) (standing : Standing) (slots : Slots) → has s slots.askers ≡ false → has s slots.holders ≡ false → Does s standing slots → Does s Asking (asked slots s)
does-ask s Idle slots not_asking no_slot does = record {
  holders = does.holders;
  askers = let a = does.askers in grind (arith, nat_tests, itself s, times-append s slots.askers (s ∷ []));
  idle = times-without s slots.idle;
}
does-ask s Asking slots not_asking no_slot does = let none = has-none s slots.askers not_asking in let a = does.askers in absurd (omega arith)
does-ask s Holding slots not_asking no_slot does = let none = has-none s slots.holders no_slot in let a = does.holders in absurd (omega arith)

times-first : (s : SessionId) (slots : Slots) → lets slots s ≡ true → times s slots.askers ≡ 1 + times s (drop 1 slots.askers)
times-first s slots free = sym (ap (times s) (first-asker slots s free)) ∙ ap (λ b. one b + times s (drop 1 slots.askers)) (itself s)

pub does-take : (s : SessionId) (standing : Standing) (slots : Slots) → lets slots s ≡ true → Does s standing slots → Does s Holding (taken slots s)
does-take s Asking slots free does = record {
  holders = let h = does.holders in grind (arith, nat_tests, itself s, times-append s slots.holders (s ∷ []));
  askers = let a = does.askers in omega (arith, times-first s slots free);
  idle = does.idle;
}
does-take s Idle slots free does = let some = times-first s slots free in let a = does.askers in absurd (omega arith)
does-take s Holding slots free does = let some = times-first s slots free in let a = does.askers in absurd (omega arith)

pub does-give : (s : SessionId) (standing : Standing) (slots : Slots) → has s slots.holders ≡ true → Does s standing slots → Does s Idle (given slots s)
does-give s Holding slots holds does = record {
  holders = times-without s slots.holders;
  askers = does.askers;
  idle = let i = does.idle in grind (arith, nat_tests, itself s, times-append s slots.idle (s ∷ []));
}
does-give s Asking slots holds does = let some = has-some s slots.holders holds in let h = does.holders in absurd (omega arith)
does-give s Idle slots holds does = let some = has-some s slots.holders holds in let h = does.holders in absurd (omega arith)

-- and another one of its group
module _ (s x : SessionId) (standing : Standing) (slots : Slots) (other : is x s ≡ false) (does : Does x standing slots) where
  push-other : (xs : List SessionId) → times x (xs ++ s ∷ []) ≡ times x xs
  push-other xs = grind (arith, nat_tests, times-append x xs (s ∷ []))

  pub other-ask : Does x standing (asked slots s)
  other-ask = record { holders = does.holders; askers = push-other slots.askers ∙ does.askers; idle = times-others s x slots.idle other ∙ does.idle }

  pub other-take : lets slots s ≡ true → Does x standing (taken slots s)
  other-take free = record {
    holders = push-other slots.holders ∙ does.holders;
    askers =
        let none : one (is x s) ≡ 0 = ap one other in
        let first : one (is x s) + times x (drop 1 slots.askers) ≡ times x slots.askers = ap (times x) (first-asker slots s free) in
        let was = does.askers in omega arith;
    idle = does.idle;
  }

  pub other-give : Does x standing (given slots s)
  other-give = record { holders = times-others s x slots.holders other ∙ does.holders; askers = does.askers; idle = push-other slots.idle ∙ does.idle }
