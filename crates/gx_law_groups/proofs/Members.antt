-- Which group a session is of, by its place and by its sessions.
use Rattle.std.proofs.Common.{◌≡◌, ◌⊎◌, inl, inr, ℕ, zero, suc, ◌+◌, ◌<◌, ◌≤◌, ◌==◌, Bool, true, false, cond, ◌||◌, List, [], ◌∷◌, ◌++◌, length, map, Option, Some, None, slice_get, refl, sym, ap, ◌∙◌, subst, arith}
use Rattle.std.proofs.lemmas.Bool.Decides.{nat_tests}
use Rattle.std.proofs.lemmas.Option.{slice_get_past}
use Rattle.std.specs.Prelude.{All, nat_lt, option_map}
use Rattle.std.specs.List.{flat_map, range_with_len}
use Rattle.gx_ids.specs.declared.ids.SessionId.{SessionId}
use Rattle.gx_script.specs.declared.Script.{Script}
use Rattle.gx_script.specs.declared.group.SlotGroup.{SlotGroup}
use Rattle.gx_meaning.specs.Statements.{AreDistinct, IsOneOf}
use Rattle.gx_groups.specs.Slots.{has, is}
use Rattle.gx_groups.specs.Table.{new_seat}
use Rattle.gx_groups.specs.Calls.{is_seated}
use Rattle.gx_store.specs.Groups.{fresh_slots, place_in}
use Rattle.gx_store.specs.Heads.{AreGroups, group_sessions}
use Rattle.gx_store.specs.Schedule.{sessions_of}
use Rattle.gx_law_groups.proofs.Slots.{is_at, seat-at}

-- SESSIONS IN LISTS
same-at : (s x : SessionId) → is s x ≡ true → x ≡ s
same-at s x e = let m : x.0 ≡ s.0 = grind (arith, nat_tests) in ap (λ (n : ℕ). let y : SessionId = record { 0 = n } in y) m

or-parts : (a b : Bool) → (a || b) ≡ true → (a ≡ true) ⊎ (b ≡ true)
or-parts true b e = inl refl
or-parts false b e = inr e

or-none : (a b : Bool) → a ≡ false → b ≡ false → (a || b) ≡ false
or-none true b x y = absurd (cc)
or-none false b x y = y

one-of : (s : SessionId) (xs : List SessionId) → has s xs ≡ true → IsOneOf s xs
one-of s [] e = absurd (cc)
one-of s (x ∷ xs) e = by_part (or-parts (is s x) (has s xs) e) (one-of s xs)
  where
    by_part : ((is s x) ≡ true) ⊎ (has s xs ≡ true) → (has s xs ≡ true → IsOneOf s xs) → IsOneOf s (x ∷ xs)
    by_part (inl q) rest = inl (sym (same-at s x q))
    by_part (inr q) rest = inr (rest q)

one-append : (s : SessionId) (xs ys : List SessionId) → IsOneOf s ys → IsOneOf s (xs ++ ys)
one-append s [] ys e = e
one-append s (x ∷ xs) ys e = inr (one-append s xs ys e)

one-flat : (s : SessionId) (gs : List SlotGroup) (n : ℕ) (group : SlotGroup) → slice_get gs n ≡ Some group → has s group.sessions ≡ true → IsOneOf s (flat_map group_sessions gs)
one-flat s [] n group e h = absurd (cc)
one-flat s (g ∷ gs) zero group e h = let same : g ≡ group = cc in one-here s g.sessions (flat_map group_sessions gs) (one-of s g.sessions (ap (λ x. has s x.sessions) same ∙ h))
  where
    one-here : (k : SessionId) (xs ys : List SessionId) → IsOneOf k xs → IsOneOf k (xs ++ ys)
    one-here k [] ys o = absurd (o)
    one-here k (x ∷ xs) ys (inl o) = inl o
    one-here k (x ∷ xs) ys (inr o) = inr (one-here k xs ys o)
one-flat s (g ∷ gs) (suc n) group e h = one-append s g.sessions (flat_map group_sessions gs) (one-flat s gs n group e h)

-- a session of the first part is none of the second
apart : (s : SessionId) (xs ys : List SessionId) → AreDistinct (xs ++ ys) → has s xs ≡ true → IsOneOf s ys → ⊥
apart s [] ys d h o = absurd (cc)
apart s (x ∷ xs) ys d h o = by_part (or-parts (is s x) (has s xs) h) (λ q. apart s xs ys d.1 q o)
  where
    by_part : ((is s x) ≡ true) ⊎ (has s xs ≡ true) → (has s xs ≡ true → ⊥) → ⊥
    by_part (inl q) rest = d.0 (subst (λ k. IsOneOf k (xs ++ ys)) (sym (same-at s x q)) (one-append s xs ys o))
    by_part (inr q) rest = rest q

distinct-rest : (xs ys : List SessionId) → AreDistinct (xs ++ ys) → AreDistinct ys
distinct-rest [] ys d = d
distinct-rest (x ∷ xs) ys d = distinct-rest xs ys d.1

-- BY PLACE
abbrev is_place : ℕ → Option ℕ → Bool
is_place n None = false
is_place n (Some p) = p == n

place-is : (s : SessionId) (gs : List SlotGroup) (n : ℕ) (group : SlotGroup) → AreDistinct (flat_map group_sessions gs) → slice_get gs n ≡ Some group → is_place n (place_in s gs) ≡ has s group.sessions
place-is s [] n group d e = absurd (cc)
place-is s (g ∷ gs) zero group d e = by_test (has s g.sessions) refl ∙ ap (λ x. has s x.sessions) same
  where
    same : g ≡ group
    same = cc

    never : (o : Option ℕ) → is_place 0 (option_map (λ m. m + 1) o) ≡ false
    never None = refl
    never (Some p) = grind (arith, nat_tests)

    by_test : (b : Bool) → has s g.sessions ≡ b → is_place 0 (cond b (Some 0) (option_map (λ m. m + 1) (place_in s gs))) ≡ b
    by_test true q = refl
    by_test false q = never (place_in s gs)
place-is s (g ∷ gs) (suc n) group d e = by_test (has s g.sessions) refl (place-is s gs n group (distinct-rest g.sessions (flat_map group_sessions gs) d) e)
  where
    next : (o : Option ℕ) → is_place (suc n) (option_map (λ m. m + 1) o) ≡ is_place n o
    next None = refl
    next (Some p) = grind (arith, nat_tests)

    never : (0 == suc n) ≡ false
    never = grind (arith, nat_tests)

    by_test : (b : Bool) → has s g.sessions ≡ b → is_place n (place_in s gs) ≡ has s group.sessions → is_place (suc n) (cond b (Some 0) (option_map (λ m. m + 1) (place_in s gs))) ≡ has s group.sessions
    by_test true q rest = here (has s group.sessions) refl
      where
        here : (c : Bool) → has s group.sessions ≡ c → (0 == suc n) ≡ c
        here true x = absurd (apart s g.sessions (flat_map group_sessions gs) d q (one-flat s gs n group e x))
        here false x = never
    by_test false q rest = next (place_in s gs) ∙ rest

seated-place : (n : ℕ) (o : Option ℕ) → is_seated n (Some (new_seat o)) ≡ is_place n o
seated-place n None = refl
seated-place n (Some p) = refl

-- SESSIONS THAT THERE AREN'T
none-among : (s : SessionId) (bound : ℕ) (xs : List SessionId) → bound ≤ s.0 → All (λ (x : SessionId). x.0 < bound) xs → has s xs ≡ false
none-among s bound [] l a = refl
none-among s bound (x ∷ xs) l a =
    or-none (is s x) (has s xs) (other (a 0 x (omega arith))) (none-among s bound xs l (λ i d w. a (suc i) d (omega (arith, w))))
  where
    other : x.0 < bound → is s x ≡ false
    other m = grind (arith, nat_tests)

length-range : (first n : ℕ) → length (range_with_len first n) ≡ n
length-range first zero = refl
length-range first (suc n) = ap suc (length-range (first + 1) n)

length-mapped : {A B : Type 0} (f : A → B) (xs : List A) → length (map f xs) ≡ length xs
length-mapped f [] = refl
length-mapped f (x ∷ xs) = ap suc (length-mapped f xs)

seats-length : (script : Script) → length (fresh_slots script).seats ≡ length script.sessions
seats-length script =
    length-mapped new_seat (map (λ s. place_in s script.groups) (sessions_of script))
    ∙ length-mapped (λ s. place_in s script.groups) (sessions_of script)
    ∙ length-mapped (λ n. let x : SessionId = record { 0 = n } in x) (range_with_len 0 (length script.sessions))
    ∙ length-range 0 (length script.sessions)

pub at-is : (script : Script) (groups : AreGroups (length script.sessions) script.groups) (n : ℕ) (group : SlotGroup) (s : SessionId) → slice_get script.groups n ≡ Some group
    → All (λ (x : SessionId). x.0 < length script.sessions) group.sessions → is_at script n s ≡ has s group.sessions
at-is script groups n group s e members = by_test (nat_lt s.0 (length script.sessions)) refl
  where
    inside : nat_lt s.0 (length script.sessions) ≡ true → s.0 < length script.sessions
    inside q = grind (arith, nat_tests)

    outside : nat_lt s.0 (length script.sessions) ≡ false → length script.sessions ≤ s.0
    outside q = grind (arith, nat_tests)

    by_test : (b : Bool) → nat_lt s.0 (length script.sessions) ≡ b → is_at script n s ≡ has s group.sessions
    by_test true q = ap (is_seated n) (seat-at script s (inside q)) ∙ seated-place n (place_in s script.groups) ∙ place-is s script.groups n group groups.once e
    by_test false q =
        ap (is_seated n) (slice_get_past (fresh_slots script).seats s.0 (subst (λ m. m ≤ s.0) (sym (seats-length script)) (outside q)))
        ∙ sym (none-among s (length script.sessions) group.sessions (outside q) members)
