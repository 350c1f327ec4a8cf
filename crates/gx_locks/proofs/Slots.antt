-- Slots that are voided and dropped.
use Rattle.std.proofs.Common.{◌≡◌, ◌≢◌, ℕ, ◌<◌, ◌≤◌, List, [], ◌∷◌, length, get_or, set, refl, sym, ap, ◌∙◌, subst, Bool, true, false, not, cond, arith, suc, zero, ⊎_elim}
use Rattle.std.proofs.lemmas.Bool.{cases_lt, cases_eq}
use Rattle.std.proofs.lemmas.Bool.Decides.{nat_tests}
use Rattle.std.specs.Prelude.{All, filter, map, Result, Ok, Err}
use Rattle.std.proofs.lemmas.List.Elements.{All-filter}
use Rattle.std.proofs.lemmas.List.Kept.{AllPairs-filter}
use Rattle.std.specs.List.Sorted.{IsBinarySearchResult, IsSearchInRange, IsNonDecreasingBy}
use Rattle.std.specs.Ordering.{nat_cmp, ordering_index}
use Rattle.std.specs.declared.cmp.Ordering.TheVariants.{Less, Equal, Greater}
use Rattle.gx_locks.specs.declared.hold.Hold.{Hold}
use Rattle.gx_locks.specs.declared.slot.Slot.{Slot}
use Rattle.gx_locks.specs.Holds.{same_hold, standing}
use Rattle.gx_locks.specs.Ledger.{AreBelow, AreRising, IsLedger}

-- holds of other numbers are others
pub other_number : (h o : Hold) → h.number ≢ o.number → same_hold h o ≡ false
other_number h o other = grind (arith, nat_tests)

pub same_number : (h o : Hold) → same_hold h o ≡ true → h.number ≡ o.number
same_number h o same = grind (arith, nat_tests)

none_struck : (h : Hold) (s : Slot) (ss : List Slot) (b : Bool) → same_hold h s.hold ≡ false → filter (λ o. not (same_hold h o)) (standing ss) ≡ standing ss → filter (λ o. not (same_hold h o)) (map (λ t. t.hold) (cond b (s ∷ filter (λ t. t.stands) ss) (filter (λ t. t.stands) ss))) ≡ map (λ t. t.hold) (cond b (s ∷ filter (λ t. t.stands) ss) (filter (λ t. t.stands) ss))
none_struck h s ss true other more = ap (λ b. cond (not b) (s.hold ∷ filter (λ o. not (same_hold h o)) (standing ss)) (filter (λ o. not (same_hold h o)) (standing ss))) other ∙ ap (λ (os : List Hold). s.hold ∷ os) more
none_struck h s ss false other more = more

pub all_tail : (P : Slot → Type 0) (s : Slot) (ss : List Slot) → All P (s ∷ ss) → All P ss
all_tail P s ss all k d inside = all (suc k) d (omega (arith, inside))

-- where no slot has the hold, nothing is taken out
pub standing-struck_none : (h : Hold) (slots : List Slot) → All (λ s. same_hold h s.hold ≡ false) slots → filter (λ o. not (same_hold h o)) (standing slots) ≡ standing slots
standing-struck_none h [] none = refl
standing-struck_none h (s ∷ ss) none = none_struck h s ss s.stands (none 0 s (omega arith)) (standing-struck_none h ss (all_tail (λ s. same_hold h s.hold ≡ false) s ss none))

-- no slot has the next number
pub standing-fresh : (h : Hold) (slots : List Slot) → AreBelow h.number slots → filter (λ o. not (same_hold h o)) (standing slots) ≡ standing slots
standing-fresh h slots below = standing-struck_none h slots (λ k d inside. other_number h (get_or slots k d).hold (λ same. omega (arith, same, below k d inside)))

abbrev pub IsAlone : Hold → List Slot → ℕ → Type 0
IsAlone h slots i = (k : ℕ) (d : Slot) → k < length slots → k ≢ i → same_hold h (get_or slots k d).hold ≡ false

here : (h : Hold) (s v : Slot) (ss : List Slot) (b c : Bool) → v.stands ≡ c → c ≡ false → same_hold h s.hold ≡ true → filter (λ o. not (same_hold h o)) (standing ss) ≡ standing ss → map (λ t. t.hold) (cond c (v ∷ filter (λ t. t.stands) ss) (filter (λ t. t.stands) ss)) ≡ filter (λ o. not (same_hold h o)) (map (λ t. t.hold) (cond b (s ∷ filter (λ t. t.stands) ss) (filter (λ t. t.stands) ss)))
here h s v ss true true gone off same rest = absurd (cc)
here h s v ss false true gone off same rest = absurd (cc)
here h s v ss true false gone off same rest = sym rest ∙ sym (ap (λ b. cond (not b) (s.hold ∷ filter (λ o. not (same_hold h o)) (standing ss)) (filter (λ o. not (same_hold h o)) (standing ss))) same)
here h s v ss false false gone off same rest = sym rest

later : (h : Hold) (s : Slot) (ss ts : List Slot) (b : Bool) → same_hold h s.hold ≡ false → standing ts ≡ filter (λ o. not (same_hold h o)) (standing ss) → map (λ t. t.hold) (cond b (s ∷ filter (λ t. t.stands) ts) (filter (λ t. t.stands) ts)) ≡ filter (λ o. not (same_hold h o)) (map (λ t. t.hold) (cond b (s ∷ filter (λ t. t.stands) ss) (filter (λ t. t.stands) ss)))
later h s ss ts true other more = ap (λ (os : List Hold). s.hold ∷ os) more ∙ sym (ap (λ b. cond (not b) (s.hold ∷ filter (λ o. not (same_hold h o)) (standing ss)) (filter (λ o. not (same_hold h o)) (standing ss))) other)
later h s ss ts false other more = more

-- where one slot alone has the hold, voiding it takes the hold out
voided : (h : Hold) (slots : List Slot) (i : ℕ) (v d : Slot) → i < length slots → v.stands ≡ false → same_hold h (get_or slots i d).hold ≡ true → IsAlone h slots i → standing (set slots i v) ≡ filter (λ o. not (same_hold h o)) (standing slots)
voided h [] i v d inside off same alone = absurd (omega (arith, inside))
voided h (s ∷ ss) zero v d inside off same alone =
    here h s v ss s.stands v.stands refl off same (standing-struck_none h ss (λ k e below. alone (suc k) e (omega (arith, below)) (omega arith)))
voided h (s ∷ ss) (suc i) v d inside off same alone =
    later h s ss (set ss i v) s.stands (alone 0 s (omega arith) (omega arith)) (voided h ss i v d (omega (arith, inside)) off same (λ k e below other. alone (suc k) e (omega (arith, below)) (omega (arith, other))))

-- in rising slots no other slot has the number
pub IsAlone-rising : (h : Hold) (slots : List Slot) (i : ℕ) → AreRising slots → i < length slots → ((d : Slot) → (get_or slots i d).hold.number ≡ h.number) → IsAlone h slots i
IsAlone-rising h slots i rising inside at k d below other =
    ⊎_elim
    (λ before. other_number h (get_or slots k d).hold (λ same. omega (arith, rising k i d before inside, at d, same)))
    (λ after. other_number h (get_or slots k d).hold (λ same. omega (arith, rising i k d (omega (arith, after, other)) below, at d, same)))
    (cases_lt k i)

pub standing-voided : (h : Hold) (slots : List Slot) (i : ℕ) (v : Slot) → v.stands ≡ false → AreRising slots → (i < length slots) × ((d : Slot) → same_hold h (get_or slots i d).hold ≡ true) → standing (set slots i v) ≡ filter (λ o. not (same_hold h o)) (standing slots)
standing-voided h slots i v off rising (inside, at) =
    voided h slots i v v inside off (at v) (IsAlone-rising h slots i rising inside (λ d. sym (same_number h (get_or slots i d).hold (at d))))

pub standing-compact : (slots : List Slot) → standing (filter (λ s. s.stands) slots) ≡ standing slots
standing-compact [] = refl
standing-compact (s ∷ ss) = once s.stands refl (standing-compact ss)
  where
    once : (b : Bool) → s.stands ≡ b → standing (filter (λ s. s.stands) ss) ≡ standing ss → standing (cond b (s ∷ filter (λ s. s.stands) ss) (filter (λ s. s.stands) ss)) ≡ map (λ t. t.hold) (cond b (s ∷ filter (λ t. t.stands) ss) (filter (λ t. t.stands) ss))
    once true is more = ap (λ b. map (λ t. t.hold) (cond b (s ∷ filter (λ t. t.stands) (filter (λ t. t.stands) ss)) (filter (λ t. t.stands) (filter (λ t. t.stands) ss)))) is ∙ ap (λ (os : List Hold). s.hold ∷ os) more
    once false is more = more

index_rises : (a b x : ℕ) → a ≤ b → ordering_index (nat_cmp a x) ≤ ordering_index (nat_cmp b x)
index_rises a b x e = grind (arith, nat_tests)

numbers-rise : (slots : List Slot) (i j : ℕ) (d : Slot) → AreRising slots → i ≤ j → j < length slots → (get_or slots i d).hold.number ≤ (get_or slots j d).hold.number
numbers-rise slots i j d rising upto inside = ⊎_elim (λ e. subst (λ k. (get_or slots i d).hold.number ≤ (get_or slots k d).hold.number) e (omega arith)) (λ ne. omega (arith, rising i j d (omega (arith, upto, ne)) inside)) (cases_eq i j)

-- a search by number among rising slots
pub index-rising : (slots : List Slot) (n : ℕ) → AreRising slots → IsNonDecreasingBy (λ s. ordering_index (nat_cmp s.hold.number n)) slots
index-rising slots n rising i j d upto inside = index_rises (get_or slots i d).hold.number (get_or slots j d).hold.number n (numbers-rise slots i j d rising upto inside)

less_apart : (a b : ℕ) → nat_cmp a b ≡ Less → a ≢ b
less_apart a b e same = grind (arith, nat_tests)

greater_apart : (a b : ℕ) → nat_cmp a b ≡ Greater → a ≢ b
greater_apart a b e same = grind (arith, nat_tests)

pub equal_at : (a b : ℕ) → nat_cmp a b ≡ Equal → a ≡ b
equal_at a b e = grind (arith, nat_tests)

-- a number that isn't found is no slot's
pub absent : (slots : List Slot) (n i : ℕ) (r : Result ℕ ℕ) → r ≡ Err i → AreRising slots → IsBinarySearchResult (λ s. nat_cmp s.hold.number n) slots r → All (λ s. s.hold.number ≢ n) slots
absent slots n i (Ok j) is rising found k d inside = absurd (cc)
absent slots n i (Err j) is rising found k d inside =
    let parts = found (index-rising slots n rising) in
    ⊎_elim
    (λ below. less_apart _ _ (parts.0 k d (omega arith) below))
    (λ above. greater_apart _ _ (parts.1 k d above inside))
    (cases_lt k j)

pub found_at : (slots : List Slot) (n i : ℕ) (r : Result ℕ ℕ) → r ≡ Ok i → IsSearchInRange r (length slots) → IsBinarySearchResult (λ s. nat_cmp s.hold.number n) slots r → (i < length slots) × ((d : Slot) → (get_or slots i d).hold.number ≡ n)
found_at slots n i (Err j) is inside found = absurd (cc)
found_at slots n i (Ok j) is inside found =
    let same : i ≡ j = cc in
    (omega (arith, same, inside), λ d. rw same (equal_at _ _ (found d)))

-- where the number's slot has another claim, no slot has the hold
pub none_has : (h : Hold) (slots : List Slot) (i : ℕ) → AreRising slots → i < length slots → ((d : Slot) → (get_or slots i d).hold.number ≡ h.number) → ((d : Slot) → same_hold h (get_or slots i d).hold ≡ false) → All (λ s. same_hold h s.hold ≡ false) slots
none_has h slots i rising inside at other k d below =
    ⊎_elim (λ (same : k ≡ i). rw same (other d)) (λ (apart : k ≢ i). IsAlone-rising h slots i rising inside at k d below apart) (cases_eq k i)

-- slots that are dropped leave a ledger
pub IsLedger-compact : (slots slots' : List Slot) (next places capacity : ℕ) → IsLedger slots next places capacity → slots' ≡ filter (λ s. s.stands) slots → IsLedger slots' next places capacity
IsLedger-compact slots slots' next places capacity is e =
    subst (λ (ss : List Slot). IsLedger ss next places capacity) (sym e)
    (record {
      rising = AllPairs-filter (λ earlier later. earlier.hold.number < later.hold.number) (λ s. s.stands) slots is.rising;
      below = All-filter (λ s. s.stands) (λ s. s.hold.number < next) slots is.below;
      room = omega (arith, is.room, length-filter_le slots);
      numbers = is.numbers;
    })
  where
    length-filter_le : (ss : List Slot) → length (filter (λ s. s.stands) ss) ≤ length ss
    length-filter_le [] = omega arith
    length-filter_le (s ∷ ss) = grind (arith, length-filter_le ss)
