-- The groups of a script that was read.
use Rattle.std.proofs.Common.{◌≡◌, ◌⊎◌, inl, inr, ℕ, suc, ◌+◌, ◌<◌, ◌≤◌, ◌==◌, if◌then◌else◌, Bool, true, false, List, [], ◌∷◌, ◌++◌, length, map, All, Option, Some, None, refl, sym, ◌∙◌, ap, subst, arith, get_or}
use Rattle.std.specs.List.{flat_map}
use Rattle.std.proofs.lemmas.List.Elements.{All-nil, All-cons, All-head, All-tail, All-weaker}
use Rattle.gx_ids.specs.declared.ids.SessionId.{SessionId}
use Rattle.gx_script.specs.declared.group.SlotGroup.{SlotGroup}
use Rattle.gx_meaning.specs.Statements.{IsOneOf, AreDistinct}
use Rattle.gx_store.specs.Language.{IsName}
use Rattle.gx_store.specs.Heads.{AreGroups, IsGroup, group_name, group_sessions}
use Rattle.gx_sql.specs.declared.groups.GroupHead.{GroupHead}
use Rattle.gx_sql.specs.Groups.{groups_by, groups_from, is_at, place_among, places_among, sessions_at, sessions_by}

-- what a head of a group keeps
pub record IsHead (head : GroupHead) : Type 0 where
  pub name : IsName head.name
  pub some_slots : 1 ≤ head.limit
  pub fits : head.limit ≤ 18446744073709551615

abbrev pub head_name : GroupHead → List ℕ
head_name head = head.name

-- LISTS
one-append : {A : Type 0} (x : A) (xs ys : List A) → IsOneOf x (xs ++ ys) → IsOneOf x xs ⊎ IsOneOf x ys
one-append x [] ys h = inr h
one-append x (z ∷ xs) ys (inl e) = inl (inl e)
one-append x (z ∷ xs) ys (inr h) = more (one-append x xs ys h)
  where
    more : IsOneOf x xs ⊎ IsOneOf x ys → IsOneOf x (z ∷ xs) ⊎ IsOneOf x ys
    more (inl h) = inl (inr h)
    more (inr h) = inr h

distinct-append : {A : Type 0} (xs ys : List A) → AreDistinct xs → AreDistinct ys → ((x : A) → IsOneOf x xs → IsOneOf x ys → ⊥) → AreDistinct (xs ++ ys)
distinct-append [] ys a b n = b
distinct-append (x ∷ xs) ys a b n = (λ h. both (one-append x xs ys h), distinct-append xs ys a.1 b (λ z p q. n z (inr p) q))
  where
    both : IsOneOf x xs ⊎ IsOneOf x ys → ⊥
    both (inl h) = a.0 h
    both (inr h) = n x (inl refl) h

pub only-one : (names : List (List ℕ)) (name : List ℕ) → 1 ≤ length names → length names ≤ 1 → name ≡ get_or names 0 name → name ∷ [] ≡ names
only-one [] name low high is = absurd (omega arith)
only-one (x ∷ []) name low high is = ap (λ (n : List ℕ). n ∷ []) is
only-one (x ∷ y ∷ more) name low high is = absurd (omega arith)

-- PLACES THAT ARE LOOKED UP ONCE
pub many-places : (members : List (List ℕ × ℕ)) (names : List (List ℕ)) → length (places_among members names) ≡ length names
many-places members [] = refl
many-places members (name ∷ names) = ap suc (many-places members names)

sessions-by : (members : List (List ℕ × ℕ)) (place number : ℕ) (names : List (List ℕ)) → sessions_by place number (places_among members names) ≡ sessions_at members place number names
sessions-by members place number [] = refl
sessions-by members place number (name ∷ names) =
    ap (λ (rest : List SessionId). if is_at place (place_among name members) then record { 0 = number } ∷ rest else rest) (sessions-by members place (number + 1) names)

pub by-places : (members : List (List ℕ × ℕ)) (names : List (List ℕ)) (place : ℕ) (heads : List GroupHead) → groups_by (places_among members names) place heads ≡ groups_from members names place heads
by-places members names place [] = refl
by-places members names place (g ∷ gs) =
    ap (λ (sessions : List SessionId). record { name = g.name; limit = g.limit; sessions = sessions } ∷ groups_by (places_among members names) (place + 1) gs) (sessions-by members place 0 names)
    ∙ ap (λ (rest : List SlotGroup). record { name = g.name; limit = g.limit; sessions = sessions_at members place 0 names } ∷ rest) (by-places members names (place + 1) gs)

-- SESSIONS OF A GROUP
module _ (members : List (List ℕ × ℕ)) where
  from-number : (place number : ℕ) (names : List (List ℕ)) (x : SessionId) → IsOneOf x (sessions_at members place number names) → number ≤ x.0
  from-number place number [] x h = absurd h
  from-number place number (name ∷ names) x h = pick (is_at place (place_among name members)) (from-number place (number + 1) names x) h
    where
      pick : (b : Bool) → (IsOneOf x (sessions_at members place (number + 1) names) → number + 1 ≤ x.0) → IsOneOf x (if b then record { 0 = number } ∷ sessions_at members place (number + 1) names else sessions_at members place (number + 1) names) → number ≤ x.0
      pick true above (inl e) = let same = ap (λ (s : SessionId). s.0) e in omega (arith, same)
      pick true above (inr h) = let more = above h in omega (arith, more)
      pick false above h = let more = above h in omega (arith, more)

  within : (place number : ℕ) (names : List (List ℕ)) → All (λ (s : SessionId). s.0 < number + length names) (sessions_at members place number names)
  within place number [] = All-nil (λ (s : SessionId). s.0 < number + 0)
  within place number (name ∷ names) = pick (is_at place (place_among name members)) (All-weaker (λ (s : SessionId). s.0 < number + 1 + length names) (λ (s : SessionId). s.0 < number + length (name ∷ names)) (λ (s : SessionId) l. omega (arith, l)) (sessions_at members place (number + 1) names) (within place (number + 1) names))
    where
      pick : (b : Bool) → All (λ (s : SessionId). s.0 < number + length (name ∷ names)) (sessions_at members place (number + 1) names) → All (λ (s : SessionId). s.0 < number + length (name ∷ names)) (if b then record { 0 = number } ∷ sessions_at members place (number + 1) names else sessions_at members place (number + 1) names)
      pick true rest = All-cons (λ (s : SessionId). s.0 < number + length (name ∷ names)) (record { 0 = number }) (sessions_at members place (number + 1) names) (omega arith) rest
      pick false rest = rest

  once : (place number : ℕ) (names : List (List ℕ)) → AreDistinct (sessions_at members place number names)
  once place number [] = tt
  once place number (name ∷ names) = pick (is_at place (place_among name members)) (once place (number + 1) names)
    where
      pick : (b : Bool) → AreDistinct (sessions_at members place (number + 1) names) → AreDistinct (if b then record { 0 = number } ∷ sessions_at members place (number + 1) names else sessions_at members place (number + 1) names)
      pick true rest = (λ h. let more = from-number place (number + 1) names (record { 0 = number }) h in absurd (omega (arith, more)), rest)
      pick false rest = rest

  one-place : (a b : ℕ) (o : Option ℕ) → is_at a o ≡ true → is_at b o ≡ true → a ≡ b
  one-place a b None e f = absurd cc
  one-place a b (Some at) e f = grind (arith, e, f)

  -- a session stands in one group
  same-place : (a b number : ℕ) (names : List (List ℕ)) (x : SessionId) → IsOneOf x (sessions_at members a number names) → IsOneOf x (sessions_at members b number names) → a ≡ b
  same-place a b number [] x h k = absurd h
  same-place a b number (name ∷ names) x h k = pick (is_at a (place_among name members)) (is_at b (place_among name members)) refl refl (same-place a b (number + 1) names x) h k
    where
      If : ℕ → Bool → Type 0
      If place t = IsOneOf x (if t then record { 0 = number } ∷ sessions_at members place (number + 1) names else sessions_at members place (number + 1) names)

      behind : (place : ℕ) → x ≡ record { 0 = number } → IsOneOf x (sessions_at members place (number + 1) names) → ⊥
      behind place e h =
          let more = from-number place (number + 1) names x h in
          let same = ap (λ (s : SessionId). s.0) e in
          absurd (omega (arith, more, same))

      pick : (t u : Bool) → is_at a (place_among name members) ≡ t → is_at b (place_among name members) ≡ u → (IsOneOf x (sessions_at members a (number + 1) names) → IsOneOf x (sessions_at members b (number + 1) names) → a ≡ b) → If a t → If b u → a ≡ b
      pick true true p q more h k = one-place a b (place_among name members) p q
      pick true false p q more (inl e) k = absurd (behind b e k)
      pick true false p q more (inr h) k = more h k
      pick false true p q more h (inl e) = absurd (behind a e h)
      pick false true p q more h (inr k) = more h k
      pick false false p q more h k = more h k

-- GROUPS
module _ (members : List (List ℕ × ℕ)) (names : List (List ℕ)) where
  each : (place : ℕ) (heads : List GroupHead) → All IsHead heads → All (IsGroup (length names)) (groups_from members names place heads)
  each place [] all = All-nil (IsGroup (length names))
  each place (g ∷ gs) all = All-cons (IsGroup (length names)) _ (groups_from members names (place + 1) gs) is (each (place + 1) gs (All-tail IsHead g gs all))
    where
      is : IsGroup (length names) (record { name = g.name; limit = g.limit; sessions = sessions_at members place 0 names })
      is =
          let head = All-head IsHead g gs all in
          record { name = head.name.0; word = head.name.1; some_slots = head.some_slots; fits = head.fits; members = All-weaker (λ (s : SessionId). s.0 < 0 + length names) (λ (s : SessionId). s.0 < length names) (λ (s : SessionId) l. omega (arith, l)) (sessions_at members place 0 names) (within members place 0 names) }

  named : (place : ℕ) (heads : List GroupHead) → map group_name (groups_from members names place heads) ≡ map head_name heads
  named place [] = refl
  named place (g ∷ gs) = ap (λ (ns : List (List ℕ)). g.name ∷ ns) (named (place + 1) gs)

  counted : (place : ℕ) (heads : List GroupHead) → length (groups_from members names place heads) ≡ length heads
  counted place [] = refl
  counted place (g ∷ gs) = let more = counted (place + 1) gs in omega (arith, more)

  -- who stands in one of these groups stands at a place from theirs on
  later : (place : ℕ) (heads : List GroupHead) (x : SessionId) → IsOneOf x (flat_map group_sessions (groups_from members names place heads)) → (at : ℕ) × (place ≤ at) × IsOneOf x (sessions_at members at 0 names)
  later place [] x h = absurd h
  later place (g ∷ gs) x h = pick (later (place + 1) gs x) (one-append x (sessions_at members place 0 names) (flat_map group_sessions (groups_from members names (place + 1) gs)) h)
    where
      pick : (IsOneOf x (flat_map group_sessions (groups_from members names (place + 1) gs)) → (at : ℕ) × (place + 1 ≤ at) × IsOneOf x (sessions_at members at 0 names)) → IsOneOf x (sessions_at members place 0 names) ⊎ IsOneOf x (flat_map group_sessions (groups_from members names (place + 1) gs)) → (at : ℕ) × (place ≤ at) × IsOneOf x (sessions_at members at 0 names)
      pick behind (inl h) = (place, omega arith, h)
      pick behind (inr h) = let more = behind h in let above = more.1 in (more.0, omega (arith, above), more.2)

  apart : (place : ℕ) (heads : List GroupHead) → AreDistinct (flat_map group_sessions (groups_from members names place heads))
  apart place [] = tt
  apart place (g ∷ gs) = distinct-append (sessions_at members place 0 names) (flat_map group_sessions (groups_from members names (place + 1) gs)) (once members place 0 names) (apart (place + 1) gs) two
    where
      two : (x : SessionId) → IsOneOf x (sessions_at members place 0 names) → IsOneOf x (flat_map group_sessions (groups_from members names (place + 1) gs)) → ⊥
      two x h k =
          let more = later (place + 1) gs x k in
          let above = more.1 in
          let same = same-place members place more.0 0 names x h more.2 in
          absurd (omega (arith, above, same))

  pub groups_are : (heads : List GroupHead) → All IsHead heads → AreDistinct (map head_name heads) → length heads ≤ 64 → AreGroups (length names) (groups_from members names 0 heads)
  groups_are heads all distinct few = record {
    each = each 0 heads all;
    names = subst AreDistinct (sym (named 0 heads)) distinct;
    few = subst (λ (n : ℕ). n ≤ 64) (sym (counted 0 heads)) few;
    once = apart 0 heads;
  }
