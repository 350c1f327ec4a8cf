-- Lists of sessions.
use Rattle.std.proofs.Common.{◌≡◌, ℕ, ◌≤◌, ◌<◌, true, false, List, [], ◌∷◌, ◌++◌, length, drop, arith, ap, sym}
use Rattle.std.proofs.lemmas.List.Folds.{list_any-append}
use Rattle.std.proofs.lemmas.Bool.Decides.{nat_tests}
use Rattle.std.specs.Prelude.{◌||◌}
use Rattle.gx_ids.specs.declared.ids.SessionId.{SessionId}
use Rattle.gx_groups.specs.Slots.{Slots, is, has, without, is_member, is_first, lets, asked, taken, given}

pub length-without : (s : SessionId) (sessions : List SessionId) → length (without s sessions) ≤ length sessions
length-without s [] = omega arith
length-without s (x ∷ xs) = grind (arith, nat_tests, length-without s xs)

pub shorter-without : (s : SessionId) (sessions : List SessionId) → has s sessions ≡ true → length (without s sessions) < length sessions
shorter-without s [] there = cc
shorter-without s (x ∷ xs) there = grind (arith, nat_tests, length-without s xs, shorter-without s xs)

pub has-append : (s : SessionId) (xs ys : List SessionId) → has s (xs ++ ys) ≡ (has s xs || has s ys)
has-append s xs ys = list_any-append (is s) xs ys

-- who was there still is, or is the one who left
pub has-without : (s x : SessionId) (sessions : List SessionId) → has x sessions ≡ true → (has x (without s sessions) || is x s) ≡ true
has-without s x [] there = cc
has-without s x (y ∷ ys) there = grind (arith, nat_tests, has-without s x ys)

-- whoever is of the group stays so
pub member-asked : (slots : Slots) (s x : SessionId) → is_member x slots ≡ true → is_member x (asked slots s) ≡ true
member-asked slots s x member = grind (arith, nat_tests, has-append x slots.askers (s ∷ []), has-without s x slots.idle)

is-same : (s x y : SessionId) → is s x ≡ true → is y x ≡ is y s
is-same s x y e = grind (arith, nat_tests)

drop-first : (s x : SessionId) (askers : List SessionId) → is_first s askers ≡ true → has x askers ≡ (has x (drop 1 askers) || is x s)
drop-first s x [] first = cc
drop-first s x (y ∷ ys) first = grind (arith, nat_tests, is-same s y x)

pub member-taken : (slots : Slots) (s : SessionId) → lets slots s ≡ true → (x : SessionId) → is_member x slots ≡ true → is_member x (taken slots s) ≡ true
member-taken slots s free x member = grind (arith, nat_tests, has-append x slots.holders (s ∷ []), drop-first s x slots.askers)

pub member-given : (slots : Slots) (s x : SessionId) → is_member x slots ≡ true → is_member x (given slots s) ≡ true
member-given slots s x member = grind (arith, nat_tests, has-append x slots.idle (s ∷ []), has-without s x slots.holders)

-- a member that neither holds nor asks is idle
pub has-idle : (slots : Slots) (s : SessionId) → is_member s slots ≡ true → has s slots.askers ≡ false → has s slots.holders ≡ false → has s slots.idle ≡ true
has-idle slots s member asks holds = grind (arith, nat_tests)

pub same-session : (s x : SessionId) → is s x ≡ true → x ≡ s
same-session s x e =
    let number : x.0 ≡ s.0 = grind (arith, nat_tests) in
    let session : ℕ → SessionId = λ n. record { 0 = n } in ap session number

first-of : (s : SessionId) (sessions : List SessionId) → is_first s sessions ≡ true → s ∷ drop 1 sessions ≡ sessions
first-of s [] first = cc
first-of s (x ∷ xs) first = ap (λ y. y ∷ xs) (sym (same-session s x first))

-- whoever may take a slot is the first of those that ask
pub first-asker : (slots : Slots) (s : SessionId) → lets slots s ≡ true → s ∷ drop 1 slots.askers ≡ slots.askers
first-asker slots s free = first-of s slots.askers (grind (arith, nat_tests))
