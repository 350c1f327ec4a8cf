-- Sessions that ask, in their order.
use Rattle.std.proofs.Common.{◌≡◌, ℕ, zero, suc, ◌+◌, ◌-◌, ◌<◌, ◌≤◌, Bool, true, false, cond, ◌&&◌, ◌||◌, List, [], ◌∷◌, map, refl, sym, ap, ◌∙◌, arith}
use Rattle.std.proofs.lemmas.Bool.Decides.{nat_tests}
use Rattle.std.proofs.lemmas.Grind.{common_steps}
use Rattle.std.specs.Prelude.{filter, nat_lt}
use Rattle.std.specs.List.{range_with_len}
use Rattle.gx_ids.specs.declared.ids.SessionId.{SessionId}
use Rattle.gx_groups.specs.Table.{Table}
use Rattle.gx_store.specs.declared.mark.Mark.{Mark}
use Rattle.gx_store.specs.declared.mark.Mark.TheVariants.{Answer}
use Rattle.gx_store.specs.Groups.{all_asking, asking}
use Rattle.gx_store.specs.Marks.{is_answered, is_same_session}
use Rattle.gx_agenda.specs.Slotted.{asking_if, beyond_from, lowest_from}

abbrev pub numbered : ℕ → SessionId
numbered n = record { 0 = n }

-- the sessions from a number on, of so many
pub range-next : (first n : ℕ) → first < n → range_with_len first (n - first) ≡ first ∷ range_with_len (first + 1) (n - (first + 1))
range-next first n l = ap (range_with_len first) (more first n l)
  where
    more : (a b : ℕ) → a < b → b - a ≡ suc (b - (a + 1))
    more a b m = omega (arith, m)

pub range-none : (first n : ℕ) → n ≤ first → range_with_len first (n - first) ≡ []
range-none first n l = ap (range_with_len first) (none first n l)
  where
    none : (a b : ℕ) → b ≤ a → b - a ≡ 0
    none a b m = omega (arith, m)

pub if-all : (p : SessionId → Bool) (t : Table) (ss : List SessionId) → asking_if p t ss ≡ all_asking t (filter p ss)
if-all p t [] = refl
if-all p t (s ∷ ss) = by_test (p s) (if-all p (asking t s) ss) (if-all p t ss)
  where
    by_test : (b : Bool) → asking_if p (asking t s) ss ≡ all_asking (asking t s) (filter p ss) → asking_if p t ss ≡ all_asking t (filter p ss) → asking_if p (cond b (asking t s) t) ss ≡ all_asking t (cond b (s ∷ filter p ss) (filter p ss))
    by_test true e f = e
    by_test false e f = f

-- tests that agree on these sessions
pub if-alike : (p q : SessionId → Bool) (t : Table) (first n all : ℕ) → first + n ≤ all → ((s : SessionId) → s.0 < all → p s ≡ q s) → asking_if p t (map numbered (range_with_len first n)) ≡ asking_if q t (map numbered (range_with_len first n))
if-alike p q t first zero all l e = refl
if-alike p q t first (suc n) all l e =
    if-alike p q (cond (p (numbered first)) (asking t (numbered first)) t) (first + 1) n all (omega (arith, l)) e
    ∙ ap (λ b. asking_if q (cond b (asking t (numbered first)) t) (map numbered (range_with_len (first + 1) n))) (e (numbered first) (omega (arith, l)))

-- nobody asks below a number, or from one on
if-none : (p : SessionId → Bool) (t : Table) (first n : ℕ) → ((s : SessionId) → first ≤ s.0 → s.0 < first + n → p s ≡ false) → asking_if p t (map numbered (range_with_len first n)) ≡ t
if-none p t first zero e = refl
if-none p t first (suc n) e = ap (λ b. asking_if p (cond b (asking t (numbered first)) t) (map numbered (range_with_len (first + 1) n))) (e (numbered first) (omega arith) (omega arith)) ∙ if-none p t (first + 1) n (λ s l m. e s (omega (arith, l)) (omega (arith, m)))

if-past : (p : SessionId → Bool) (t : Table) (first past n : ℕ) → first + past ≤ first + n → ((s : SessionId) → first + past ≤ s.0 → s.0 < first + n → p s ≡ false) → asking_if p t (map numbered (range_with_len first n)) ≡ asking_if p t (map numbered (range_with_len first past))
if-past p t first zero n l e = if-none p t first n (λ s m k. e s (omega (arith, m)) k)
if-past p t first (suc past) zero l e = absurd (omega (arith, l))
if-past p t first (suc past) (suc n) l e = if-past p (cond (p (numbered first)) (asking t (numbered first)) t) (first + 1) past n (omega (arith, l)) (λ s m k. e s (omega (arith, m)) (omega (arith, k)))

if-low : (p : SessionId → Bool) (t : Table) (first gap n : ℕ) → ((s : SessionId) → s.0 < first + gap → p s ≡ false) → asking_if p t (map numbered (range_with_len first (gap + n))) ≡ asking_if p t (map numbered (range_with_len (first + gap) n))
if-low p t first zero n e = ap (λ k. asking_if p t (map numbered (range_with_len first k))) (zero-plus n) ∙ ap (λ k. asking_if p t (map numbered (range_with_len k n))) (plus-zero first)
  where
    zero-plus : (a : ℕ) → 0 + a ≡ a
    zero-plus a = omega arith

    plus-zero : (a : ℕ) → a ≡ a + 0
    plus-zero a = omega arith
if-low p t first (suc gap) n e =
    ap (λ k. asking_if p t (map numbered (range_with_len first k))) (step gap n)
    ∙ ap (λ b. asking_if p (cond b (asking t (numbered first)) t) (map numbered (range_with_len (first + 1) (gap + n)))) (e (numbered first) (omega arith))
    ∙ if-low p t (first + 1) gap n (λ s l. e s (omega (arith, l)))
    ∙ ap (λ k. asking_if p t (map numbered (range_with_len k n))) (over first gap)
  where
    step : (a b : ℕ) → suc a + b ≡ suc (a + b)
    step a b = omega arith

    over : (a b : ℕ) → a + 1 + b ≡ a + suc b
    over a b = omega arith

-- it is enough to ask those between two numbers
pub between-some : (p : SessionId → Bool) (t : Table) (low past n : ℕ) → low ≤ past → past ≤ n → ((s : SessionId) → s.0 < low → p s ≡ false) → ((s : SessionId) → past ≤ s.0 → s.0 < n → p s ≡ false)
    → asking_if p t (map numbered (range_with_len low (past - low))) ≡ asking_if p t (map numbered (range_with_len 0 n))
between-some p t low past n l m below above =
    ap (λ k. asking_if p t (map numbered (range_with_len k (past - low)))) (zero-plus low)
    ∙ sym (if-low p t 0 low (past - low) (λ s h. below s (omega (arith, h))))
    ∙ ap (λ k. asking_if p t (map numbered (range_with_len 0 k))) (back low past l)
    ∙ sym (if-past p t 0 past n (omega (arith, m)) (λ s h k. above s (omega (arith, h)) (omega (arith, k))))
  where
    zero-plus : (a : ℕ) → a ≡ 0 + a
    zero-plus a = omega arith

    back : (a b : ℕ) → a ≤ b → a + (b - a) ≡ b
    back a b h = omega (arith, h)

-- WHO IS ANSWERED
lowest-least : (least : ℕ) (ms : List Mark) → lowest_from least ms ≤ least
lowest-least least [] = omega arith
lowest-least least (Answer s n a ∷ ms) = by_test (nat_lt s.0 least) refl (lowest-least (cond (nat_lt s.0 least) s.0 least) ms)
  where
    by_test : (b : Bool) → nat_lt s.0 least ≡ b → lowest_from (cond (nat_lt s.0 least) s.0 least) ms ≤ cond (nat_lt s.0 least) s.0 least → lowest_from (cond (nat_lt s.0 least) s.0 least) ms ≤ least
    by_test b q h = grind (arith, nat_tests, h)
lowest-least least (_ ∷ ms) = lowest-least least ms

pub lowest-within : (least : ℕ) (ms : List Mark) → lowest_from least ms ≤ least
lowest-within least ms = lowest-least least ms

pub lowest-below : (s : SessionId) (least : ℕ) (ms : List Mark) → s.0 < lowest_from least ms → is_answered s ms ≡ false
lowest-below s least [] l = refl
lowest-below s least (Answer k n a ∷ ms) l = by_test (is_same_session k s) refl (lowest-below s (cond (nat_lt k.0 least) k.0 least) ms l)
  where
    by_test : (b : Bool) → is_same_session k s ≡ b → is_answered s ms ≡ false → (is_same_session k s || is_answered s ms) ≡ false
    by_test true q rest = absurd (let h = lowest-within (cond (nat_lt k.0 least) k.0 least) ms in let w : s.0 < cond (nat_lt k.0 least) k.0 least = omega (arith, l, h) in grind (arith, nat_tests))
    by_test false q rest = ap (λ b. b || is_answered s ms) q ∙ rest
lowest-below s least (_ ∷ ms) l = lowest-below s least ms l

beyond-least : (past : ℕ) (ms : List Mark) → past ≤ beyond_from past ms
beyond-least past [] = omega arith
beyond-least past (Answer s n a ∷ ms) = by_test (nat_lt s.0 past) refl (beyond-least (cond (nat_lt s.0 past) past (s.0 + 1)) ms)
  where
    by_test : (b : Bool) → nat_lt s.0 past ≡ b → cond (nat_lt s.0 past) past (s.0 + 1) ≤ beyond_from (cond (nat_lt s.0 past) past (s.0 + 1)) ms → past ≤ beyond_from (cond (nat_lt s.0 past) past (s.0 + 1)) ms
    by_test b q h = grind (arith, nat_tests, h)
beyond-least past (_ ∷ ms) = beyond-least past ms

pub beyond-above : (s : SessionId) (past : ℕ) (ms : List Mark) → beyond_from past ms ≤ s.0 → is_answered s ms ≡ false
beyond-above s past [] l = refl
beyond-above s past (Answer k n a ∷ ms) l = by_test (is_same_session k s) refl (beyond-above s (cond (nat_lt k.0 past) past (k.0 + 1)) ms l)
  where
    by_test : (b : Bool) → is_same_session k s ≡ b → is_answered s ms ≡ false → (is_same_session k s || is_answered s ms) ≡ false
    by_test true q rest = absurd (let h = beyond-least (cond (nat_lt k.0 past) past (k.0 + 1)) ms in let w : cond (nat_lt k.0 past) past (k.0 + 1) ≤ s.0 = omega (arith, l, h) in grind (arith, nat_tests))
    by_test false q rest = ap (λ b. b || is_answered s ms) q ∙ rest
beyond-above s past (_ ∷ ms) l = beyond-above s past ms l

-- the next session asks, or doesn't
pub next-asks : (p : SessionId → Bool) (t now : Table) (k n : ℕ) → k < n → now ≡ cond (p (numbered k)) (asking t (numbered k)) t
    → asking_if p now (map numbered (range_with_len (k + 1) (n - (k + 1)))) ≡ asking_if p t (map numbered (range_with_len k (n - k)))
next-asks p t now k n l e =
    ap (λ x. asking_if p x (map numbered (range_with_len (k + 1) (n - (k + 1))))) e
    ∙ sym (ap (λ r. asking_if p t (map numbered r)) (range-next k n l))

min-parts : (a b : ℕ) → (Prim.Native.Nat.min a b ≤ b) × ((s : ℕ) → Prim.Native.Nat.min a b ≤ s → s < b → a ≤ s)
min-parts a b = (grind (arith, common_steps), λ s l m. grind (arith, common_steps))

-- those ask whom marks answer, if those between the least and the greatest do
pub answered-between : (p : SessionId → Bool) (t : Table) (ms : List Mark) (low past n most : ℕ) → most ≡ beyond_from 0 ms → low ≡ lowest_from 256 ms → past ≡ Prim.Native.Nat.min most n
    → asking_if (λ s. is_answered s ms && p s) t (map numbered (range_with_len low (past - low))) ≡ asking_if (λ s. is_answered s ms && p s) t (map numbered (range_with_len 0 n))
answered-between p t ms low past n most beyond lowest least = by_test (nat_lt past low) refl
  where
    within : (a b : ℕ) → nat_lt a b ≡ false → b ≤ a
    within a b q = grind (arith, nat_tests)

    beside : (a b : ℕ) → nat_lt a b ≡ true → a ≤ b
    beside a b q = grind (arith, nat_tests)

    below : (s : SessionId) → s.0 < low → (is_answered s ms && p s) ≡ false
    below s l = ap (λ b. b && p s) (lowest-below s 256 ms (let e = lowest in omega (arith, l, e)))

    above : (s : SessionId) → past ≤ s.0 → s.0 < n → (is_answered s ms && p s) ≡ false
    above s l inside = ap (λ b. b && p s) (beyond-above s 0 ms (let h = (min-parts most n).1 s.0 (let e = least in omega (arith, l, e)) inside in let b = beyond in omega (arith, h, b)))

    either : (s : SessionId) → past ≤ low → s.0 < n → (b : Bool) → nat_lt s.0 low ≡ b → (is_answered s ms && p s) ≡ false
    either s h inside true q = below s (let l : s.0 < low = grind (arith, nat_tests) in l)
    either s h inside false q = above s (let k = within s.0 low q in omega (arith, h, k)) inside

    by_test : (b : Bool) → nat_lt past low ≡ b → asking_if (λ s. is_answered s ms && p s) t (map numbered (range_with_len low (past - low))) ≡ asking_if (λ s. is_answered s ms && p s) t (map numbered (range_with_len 0 n))
    by_test true q =
        ap (λ ns. asking_if (λ s. is_answered s ms && p s) t (map numbered ns)) (range-none low past (beside past low q))
        ∙ sym (if-none (λ s. is_answered s ms && p s) t 0 n (λ s h l. either s (beside past low q) (omega (arith, l)) (nat_lt s.0 low) refl))
    by_test false q = between-some (λ s. is_answered s ms && p s) t low past n (within past low q) (let h = (min-parts most n).0 in omega (arith, least, h)) below above
