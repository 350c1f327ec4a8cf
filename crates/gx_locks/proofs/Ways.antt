-- Who stands in the way of a claim: what is held, and who waits ahead of it.
use Rattle.std.proofs.Common.{◌≡◌, ℕ, ◌<◌, ◌+◌, List, [], ◌∷◌, ◌++◌, length, get_or, drop, suc, ◌⊎◌, inl, inr, ⊎_elim, refl, sym, ap, ◌∙◌, Bool, true, false, not, cond, eqb, ◌&&◌, ◌||◌, arith}
use Rattle.std.proofs.lemmas.List.{drop_more, map-append}
use Rattle.std.proofs.lemmas.List.Elements.{filter-append}
use Rattle.std.proofs.lemmas.Bool.Decides.{nat_tests}
use Rattle.std.proofs.lemmas.List.Folds.{list_any-append}
use Rattle.std.proofs.lemmas.List.Sums.{fold-append}
use Rattle.std.specs.Prelude.{All, filter, fold, map}
use Rattle.std.specs.List.{list_any}
use Rattle.gx_modes.specs.Table.{conflict, conflicts_of, is_among, number_of}
use Rattle.gx_modes.specs.declared.modes.Mode.{Mode}
use Rattle.gx_waits.specs.declared.object.Object.{Object}
use Rattle.gx_waits.specs.declared.object.Object.TheVariants.{Relation, Tuple, Transaction}
use Rattle.gx_waits.specs.declared.claim.Claim.{Claim}
use Rattle.gx_waits.specs.declared.edge.Edge.{Edge}
use Rattle.gx_waits.specs.Claim.{ahead, in_the_way, is_ahead, meets, same_claim, same_object}
use Rattle.gx_waits.specs.Claims.{is_clear, is_free}
use Rattle.gx_waits.specs.Graph.{with_hold, with_wait}
use Rattle.gx_locks.specs.declared.key.Key.TheVariants.{On}
use Rattle.gx_locks.specs.Graphs.{with_holds}
use Rattle.gx_locks.specs.Holds.{is_under}
use Rattle.gx_locks.specs.Kept.{AreExclusive}
use Rattle.gx_locks.specs.Locks.{blockers}
use Rattle.gx_locks.specs.Queue.{holds_up, queue_of, with_queue}
use Rattle.gx_locks.proofs.Meets.{parts, same_object-same}

-- LISTS
not-or : (a b : Bool) → not (a || b) ≡ (not a && not b)
not-or true b = refl
not-or false b = refl

pub both : (a b : Bool) → (a && b) ≡ true → (a ≡ true) × (b ≡ true)
both true b e = (refl, e)
both false b e = absurd (cc)

-- what changes only where both tests hold
pub stays-unless : {A : Type 0} (a b : Bool) (new old : A) → (a && b) ≡ false → old ≡ cond b (cond a new old) old
stays-unless true true new old e = absurd (cc)
stays-unless true false new old e = refl
stays-unless false true new old e = refl
stays-unless false false new old e = refl

-- a test of what a test has left
any-kept : {A : Type 0} (p q : A → Bool) (xs : List A) → list_any p (filter q xs) ≡ list_any (λ x. p x && q x) xs
any-kept p q [] = refl
any-kept p q (x ∷ xs) = by_test (q x) (any-kept p q xs)
  where
    kept : (a b c : Bool) → b ≡ c → (a || b) ≡ ((a && true) || c)
    kept true b c e = refl
    kept false b c e = e

    left : (a b c : Bool) → b ≡ c → b ≡ ((a && false) || c)
    left true b c e = e
    left false b c e = e

    by_test : (b : Bool) → list_any p (filter q xs) ≡ list_any (λ y. p y && q y) xs → list_any p (cond b (x ∷ filter q xs) (filter q xs)) ≡ ((p x && b) || list_any (λ y. p y && q y) xs)
    by_test true more = kept (p x) _ _ more
    by_test false more = left (p x) _ _ more

-- a fold over what a test has left
pub fold-kept : {A B : Type 0} (f : B → A → B) (p : A → Bool) (e : B) (x : A) (xs : List A) → fold f e (filter p (x ∷ xs)) ≡ fold f (cond (p x) (f e x) e) (filter p xs)
fold-kept f p e x xs = by_test (p x)
  where
    by_test : (b : Bool) → fold f e (cond b (x ∷ filter p xs) (filter p xs)) ≡ fold f (cond b (f e x) e) (filter p xs)
    by_test true = refl
    by_test false = refl

none-of-all : {A : Type 0} (p q : A → Bool) → ((x : A) → p x ≡ true → q x ≡ true) → (xs : List A) → list_any q xs ≡ false → list_any p xs ≡ false
none-of-all p q sub [] none = refl
none-of-all p q sub (x ∷ xs) none = by_test (p x) refl (q x) refl none (none-of-all p q sub xs)
  where
    by_test : (a : Bool) → p x ≡ a → (b : Bool) → q x ≡ b → (b || list_any q xs) ≡ false → (list_any q xs ≡ false → list_any p xs ≡ false) → (a || list_any p xs) ≡ false
    by_test true is true so n more = absurd (cc)
    by_test true is false so n more = let yes = sub x is in absurd (cc)
    by_test false is true so n more = absurd (cc)
    by_test false is false so n more = more n

-- A CLAIM'S WAY
-- it is clear where the claim meets no hold and no wait holds it up
pub clear-parts : (holds waits : List Claim) (c : Claim) → is_clear holds waits c ≡ (is_free holds c && not (list_any (holds_up holds c) (ahead c waits)))
clear-parts holds waits c =
    ap not (list_any-append (meets c) holds (queue_of holds waits c) ∙ ap (λ b. list_any (meets c) holds || b) (any-kept (meets c) (is_ahead holds c) (ahead c waits)))
    ∙ not-or (list_any (meets c) holds) (list_any (holds_up holds c) (ahead c waits))

front : (a b : Bool) → (a && b) ≡ true → a ≡ true
front true b e = refl
front false b e = absurd (cc)

-- so it meets no hold
pub clear-free : (holds waits : List Claim) (c : Claim) → is_clear holds waits c ≡ true → is_free holds c ≡ true
clear-free holds waits c is = front (is_free holds c) _ (sym (clear-parts holds waits c) ∙ is)

-- from its parts
module _ (holds waits : List Claim) (c : Claim) where
  pub clear-from : is_free holds c ≡ true → list_any (holds_up holds c) (ahead c waits) ≡ false → is_clear holds waits c ≡ true
  clear-from free none = clear-parts holds waits c ∙ ap (λ b. b && not (list_any (holds_up holds c) (ahead c waits))) free ∙ ap not none

  pub unclear-met : is_free holds c ≡ false → is_clear holds waits c ≡ false
  unclear-met met = clear-parts holds waits c ∙ ap (λ b. b && not (list_any (holds_up holds c) (ahead c waits))) met

  pub unclear-up : list_any (holds_up holds c) (ahead c waits) ≡ true → is_clear holds waits c ≡ false
  unclear-up up = clear-parts holds waits c ∙ ap (λ b. is_free holds c && not b) up ∙ none (is_free holds c)
    where
      none : (a : Bool) → (a && false) ≡ false
      none true = refl
      none false = refl

-- nobody waits for its object
module _ (holds : List Claim) (c : Claim) where
  up-on : (q : Claim) → holds_up holds c q ≡ true → is_under (On c.object) q ≡ true
  up-on q is = (parts (eqb c.gxid.0 q.gxid.0) (same_object c.object q.object) (conflict c.mode q.mode) (front (meets c q) _ is)).1.0

  ahead-none : (p : Claim → Bool) (waits : List Claim) → list_any p waits ≡ false → list_any p (ahead c waits) ≡ false
  ahead-none p [] none = none
  ahead-none p (q ∷ waits) none = by_test (same_claim c q) (p q) refl none (ahead-none p waits)
    where
      by_test : (b a : Bool) → p q ≡ a → (a || list_any p waits) ≡ false → (list_any p waits ≡ false → list_any p (ahead c waits) ≡ false) → list_any p (cond b [] (q ∷ ahead c waits)) ≡ false
      by_test true a is n more = refl
      by_test false true is n more = absurd (cc)
      by_test false false is n more = ap (λ b. b || list_any p (ahead c waits)) is ∙ more n

  pub none-up : (waits : List Claim) → list_any (is_under (On c.object)) waits ≡ false → list_any (holds_up holds c) (ahead c waits) ≡ false
  none-up waits none = ahead-none (holds_up holds c) waits (none-of-all (holds_up holds c) (is_under (On c.object)) up-on waits none)

-- ONE WAIT MORE, IN ORDER
module _ (holds waits : List Claim) (c : Claim) (i : ℕ) (d : Claim) (below : i < length waits) (other : same_claim c (get_or waits i d) ≡ false) where
  ahead-next : ahead c (drop i waits) ≡ get_or waits i d ∷ ahead c (drop (i + 1) waits)
  ahead-next = ap (ahead c) (drop_more waits i d below) ∙ ap (λ b. cond b [] (get_or waits i d ∷ ahead c (drop (i + 1) waits))) other

  -- the edges from a wait
  pub queue-next : (edges : List Edge) → with_queue holds (drop i waits) edges c ≡ with_queue holds (drop (i + 1) waits) (cond (is_ahead holds c (get_or waits i d)) (with_hold c edges (get_or waits i d)) edges) c
  queue-next edges = ap (λ (l : List Claim). fold (with_hold c) edges (filter (is_ahead holds c) l)) ahead-next ∙ fold-kept (with_hold c) (is_ahead holds c) edges (get_or waits i d) (ahead c (drop (i + 1) waits))

  -- whom it meets
  blockers-next : (m a : Bool) → meets c (get_or waits i d) ≡ m → is_ahead holds c (get_or waits i d) ≡ a
      → blockers (queue_of holds (drop i waits) c) c ≡ cond (m && a) ((get_or waits i d).gxid ∷ blockers (queue_of holds (drop (i + 1) waits) c) c) (blockers (queue_of holds (drop (i + 1) waits) c) c)
  blockers-next m a is so = ap (λ (l : List Claim). blockers (filter (is_ahead holds c) l) c) ahead-next ∙ ap (λ b. blockers (cond b (get_or waits i d ∷ queue_of holds (drop (i + 1) waits) c) (queue_of holds (drop (i + 1) waits) c)) c) so ∙ by_test m a is
    where
      by_test : (m a : Bool) → meets c (get_or waits i d) ≡ m → blockers (cond a (get_or waits i d ∷ queue_of holds (drop (i + 1) waits) c) (queue_of holds (drop (i + 1) waits) c)) c ≡ cond (m && a) ((get_or waits i d).gxid ∷ blockers (queue_of holds (drop (i + 1) waits) c) c) (blockers (queue_of holds (drop (i + 1) waits) c) c)
      by_test true true is = ap (λ b. map (λ (q : Claim). q.gxid) (cond b (get_or waits i d ∷ filter (meets c) (queue_of holds (drop (i + 1) waits) c)) (filter (meets c) (queue_of holds (drop (i + 1) waits) c)))) is
      by_test true false is = refl
      by_test false true is = ap (λ b. map (λ (q : Claim). q.gxid) (cond b (get_or waits i d ∷ filter (meets c) (queue_of holds (drop (i + 1) waits) c)) (filter (meets c) (queue_of holds (drop (i + 1) waits) c)))) is
      by_test false false is = refl

  pub blockers-step : (b : Bool) → holds_up holds c (get_or waits i d) ≡ b
      → blockers (queue_of holds (drop i waits) c) c ≡ cond b ((get_or waits i d).gxid ∷ blockers (queue_of holds (drop (i + 1) waits) c) c) (blockers (queue_of holds (drop (i + 1) waits) c) c)
  blockers-step b is =
      blockers-next (meets c (get_or waits i d)) (is_ahead holds c (get_or waits i d)) refl refl
      ∙ ap (λ t. cond t ((get_or waits i d).gxid ∷ blockers (queue_of holds (drop (i + 1) waits) c) c) (blockers (queue_of holds (drop (i + 1) waits) c) c)) is

-- whom a claim meets: who holds, and then who waits ahead of it
pub blockers-way : (holds waits : List Claim) (c : Claim) → blockers (in_the_way holds waits c) c ≡ blockers holds c ++ blockers (queue_of holds waits c) c
blockers-way holds waits c = ap (map (λ (q : Claim). q.gxid)) (filter-append (meets c) holds (queue_of holds waits c)) ∙ map-append (λ (q : Claim). q.gxid) (filter (meets c) holds) (filter (meets c) (queue_of holds waits c))

-- the edges of a wait: to who holds, and then to who waits ahead of it
pub wait-edges : (holds waits : List Claim) (edges : List Edge) (wait : Claim) → with_wait holds waits edges wait ≡ with_queue holds waits (with_holds holds edges wait) wait
wait-edges holds waits edges wait = fold-append (with_hold wait) edges holds (queue_of holds waits wait)

-- WHAT IS HELD ALREADY
conflict-turned : (a b : Mode) → conflict a b ≡ conflict b a
conflict-turned a b = grind (arith, nat_tests)

turned : (m n : ℕ) → eqb m n ≡ eqb n m
turned m n = grind (arith, nat_tests)

object-turned : (o p : Object) → same_object o p ≡ same_object p o
object-turned (Relation t) (Relation u) = turned t.0 u.0
object-turned (Relation t) (Tuple q) = refl
object-turned (Relation t) (Transaction h) = refl
object-turned (Tuple r) (Relation u) = refl
object-turned (Tuple r) (Tuple q) = grind (arith, nat_tests)
object-turned (Tuple r) (Transaction h) = refl
object-turned (Transaction g) (Relation u) = refl
object-turned (Transaction g) (Tuple q) = refl
object-turned (Transaction g) (Transaction h) = turned g.0 h.0

-- each of two that meet meets the other
pub meets-turned : (a b : Claim) → meets a b ≡ meets b a
meets-turned a b =
    ap (λ t. not t && (same_object a.object b.object && conflict a.mode b.mode)) (turned a.gxid.0 b.gxid.0)
    ∙ ap (λ t. not (eqb b.gxid.0 a.gxid.0) && (t && conflict a.mode b.mode)) (object-turned a.object b.object)
    ∙ ap (λ t. not (eqb b.gxid.0 a.gxid.0) && (same_object b.object a.object && t)) (conflict-turned a.mode b.mode)

three : (a b c : Bool) → (a && (b && c)) ≡ true → (a ≡ true) × (b ≡ true) × (c ≡ true)
three true true true e = (refl, refl, refl)
three true true false e = absurd (cc)
three true false c e = absurd (cc)
three false b c e = absurd (cc)

same_numbers : (m n : ℕ) → eqb m n ≡ true → m ≡ n
same_numbers m n is = grind (arith, nat_tests)

mode-same : (a b c : Mode) → eqb (number_of a) (number_of b) ≡ true → conflict c a ≡ conflict c b
mode-same a b c is = ap (λ n. is_among n (conflicts_of c)) (same_numbers (number_of a) (number_of b) is)

-- of two claims that are one, whatever meets the one meets the other
module _ (c h : Claim) (same : same_claim c h ≡ true) where
  pub own-gxid : eqb h.gxid.0 c.gxid.0 ≡ true
  own-gxid = turned h.gxid.0 c.gxid.0 ∙ (three (eqb c.gxid.0 h.gxid.0) (same_object c.object h.object) (eqb (number_of c.mode) (number_of h.mode)) same).0

  pub meets-same : (q : Claim) → meets q c ≡ meets q h
  meets-same q =
      let p = three (eqb c.gxid.0 h.gxid.0) (same_object c.object h.object) (eqb (number_of c.mode) (number_of h.mode)) same in
      ap (λ n. not (eqb q.gxid.0 n) && (same_object q.object c.object && conflict q.mode c.mode)) (same_numbers c.gxid.0 h.gxid.0 p.0)
      ∙ ap (λ (o : Object). not (eqb q.gxid.0 h.gxid.0) && (same_object q.object o && conflict q.mode c.mode)) (same_object-same c.object h.object p.1)
      ∙ ap (λ b. not (eqb q.gxid.0 h.gxid.0) && (same_object q.object h.object && b)) (mode-same c.mode h.mode q.mode p.2)

itself : (m : ℕ) → eqb m m ≡ true
itself m = grind (arith, nat_tests)

itself-not : (c : Claim) → meets c c ≡ false
itself-not c = ap (λ b. not b && (same_object c.object c.object && conflict c.mode c.mode)) (itself c.gxid.0)

either : (a b : Bool) → (a || b) ≡ true → (a ≡ true) ⊎ (b ≡ true)
either true b e = inl refl
either false b e = inr e

none-both : (a b : Bool) → a ≡ false → b ≡ false → (a || b) ≡ false
none-both true b e f = e
none-both false b e f = f

clash : (b : Bool) → b ≡ false → b ≡ true → ⊥
clash b f t = cc

module _ (c : Claim) where
  -- who holds the very claim meets nobody who holds
  later-none : (h : Claim) (holds : List Claim) → same_claim c h ≡ true → All (λ later. meets later h ≡ false) holds → list_any (meets c) holds ≡ false
  later-none h [] same all = refl
  later-none h (x ∷ holds) same all =
      none-both (meets c x) (list_any (meets c) holds)
      (meets-turned c x ∙ meets-same c h same x ∙ all 0 x (omega arith))
      (later-none h holds same (λ k d below. all (suc k) d (omega (arith, below))))

  later-met : (h : Claim) → meets c h ≡ true → (hs : List Claim) → list_any (same_claim c) hs ≡ true → All (λ later. meets later h ≡ false) hs → ⊥
  later-met h e [] is all = cc
  later-met h e (x ∷ hs) is all =
      ⊎_elim (λ (same : same_claim c x ≡ true). clash (meets x h) (all 0 x (omega arith)) (meets-turned x h ∙ sym (meets-same c x same h) ∙ meets-turned h c ∙ e))
      (λ (more : list_any (same_claim c) hs ≡ true). later-met h e hs more (λ k d below. all (suc k) d (omega (arith, below)))) (either (same_claim c x) (list_any (same_claim c) hs) is)

  held-free : (holds : List Claim) → AreExclusive holds → list_any (same_claim c) holds ≡ true → list_any (meets c) holds ≡ false
  held-free [] apart is = refl
  held-free (h ∷ holds) apart is = by_test (either (same_claim c h) (list_any (same_claim c) holds) is) (held-free holds (λ i j d before below. apart (suc i) (suc j) d (omega (arith, before)) (omega (arith, below))))
    where
      first : All (λ later. meets later h ≡ false) holds
      first k d below = apart 0 (suc k) d (omega arith) (omega (arith, below))

      by_test : (same_claim c h ≡ true) ⊎ (list_any (same_claim c) holds ≡ true) → (list_any (same_claim c) holds ≡ true → list_any (meets c) holds ≡ false) → (meets c h || list_any (meets c) holds) ≡ false
      by_test (inl same) more = none-both (meets c h) (list_any (meets c) holds) (sym (meets-same c h same c) ∙ itself-not c) (later-none h holds same first)
      by_test (inr is) more = none-both (meets c h) (list_any (meets c) holds) (met (meets c h) refl) (more is)
        where
          met : (b : Bool) → meets c h ≡ b → b ≡ false
          met true e = absurd (later-met h e holds is first)
          met false e = refl

  -- and no wait holds it up: what meets the claim meets the hold
  own-met : (q : Claim) (holds : List Claim) → list_any (same_claim c) holds ≡ true → meets c q ≡ true → list_any (λ hold. eqb hold.gxid.0 c.gxid.0 && meets q hold) holds ≡ true
  own-met q [] is met = is
  own-met q (h ∷ holds) is met = by_test (either (same_claim c h) (list_any (same_claim c) holds) is) (λ is. own-met q holds is met)
    where
      yes : (a b d : Bool) → a ≡ true → b ≡ true → ((a && b) || d) ≡ true
      yes true true d e f = refl
      yes true false d e f = absurd (cc)
      yes false b d e f = absurd (cc)

      later : (a d : Bool) → d ≡ true → (a || d) ≡ true
      later true d e = refl
      later false d e = e

      by_test : (same_claim c h ≡ true) ⊎ (list_any (same_claim c) holds ≡ true) → (list_any (same_claim c) holds ≡ true → list_any (λ hold. eqb hold.gxid.0 c.gxid.0 && meets q hold) holds ≡ true)
          → ((eqb h.gxid.0 c.gxid.0 && meets q h) || list_any (λ hold. eqb hold.gxid.0 c.gxid.0 && meets q hold) holds) ≡ true
      by_test (inl same) more = yes (eqb h.gxid.0 c.gxid.0) (meets q h) _ (own-gxid c h same) (sym (meets-same c h same q) ∙ meets-turned q c ∙ met)
      by_test (inr is) more = later (eqb h.gxid.0 c.gxid.0 && meets q h) _ (more is)

  up-none : (holds : List Claim) → list_any (same_claim c) holds ≡ true → (waits : List Claim) → list_any (holds_up holds c) waits ≡ false
  up-none holds is [] = refl
  up-none holds is (q ∷ waits) = none-both (holds_up holds c q) (list_any (holds_up holds c) waits) (by_test (meets c q) refl) (up-none holds is waits)
    where
      by_test : (b : Bool) → meets c q ≡ b → (b && is_ahead holds c q) ≡ false
      by_test true met = ap not (own-met q holds is met)
      by_test false met = refl

-- who holds the very claim has a clear way
pub held-clear : (holds waits : List Claim) (c : Claim) → AreExclusive holds → list_any (same_claim c) holds ≡ true → is_clear holds waits c ≡ true
held-clear holds waits c apart is =
    clear-parts holds waits c
    ∙ ap (λ b. not b && not (list_any (holds_up holds c) (ahead c waits))) (held-free c holds apart is)
    ∙ ap not (up-none c holds is (ahead c waits))
