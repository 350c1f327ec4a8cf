-- The steps so far, as the step that comes first is added.
use Rattle.std.proofs.Common.{◌≡◌, ◌≢◌, ◌≤◌, ◌<◌, ◌+◌, ◌-◌, ◌⊎◌, inl, inr, ℕ, zero, suc, List, [], ◌∷◌, ◌++◌, Bool, true, false, cond, refl, sym, subst, ap, ◌∙◌, arith, IfSome, Some, None, length, drop, take, append-nil, rules}
use Rattle.std.proofs.lemmas.Bool.Decides.{eqb_tells, leb_tells, nat_tests}
use Rattle.std.specs.Prelude.{map, get_or, replicate, slice_get, set}
use Rattle.std.specs.List.{AllByRecursion}
use Rattle.std.specs.List.Sorted.{IsStrictlySortedBy}
use Rattle.std.specs.Ordering.{nat_cmp, ordering_then}
use Rattle.std.specs.declared.cmp.Ordering.TheVariants.{Less}
use Rattle.std.proofs.lemmas.List.{drop_more, get_or-map, get_or_default, get_or-set_other, get_or-set_same, length-map, length-replicate, length-set, take_all, take_more}
use Rattle.std.proofs.lemmas.Option.{get_or_from_slice_get, slice_get_within}
use Rattle.std.specs.Prelude.{◌==◌, filter, eqb, leb}
use Rattle.std.specs.declared.option.Option.{Option}
use Rattle.gx_ids.specs.declared.ids.Node.{Node}
use Rattle.gx_ids.specs.declared.stamp.Stamp.{Stamp}
use Rattle.gx_store.specs.Journals.{is_same_node}
use Rattle.gx_merge.specs.Merging.{AreMerged, ComeBefore, ComesLater, IsEarliest, IsFront, left_in, next_at}
use Rattle.gx_merge.specs.declared.merging.NodeHistory.{NodeHistory}
use Rattle.gx_merge.specs.declared.front.Front.{Front}
use Rattle.gx_store.specs.declared.run.Step.{Step}
use Rattle.gx_law_order.specs.Lists.{Each}
use Rattle.gx_law_merge.specs.Merge.{AreApart, AreRising, IsMergeOf, history_of, own_steps, stamp_order}
use Rattle.gx_law_merge.proofs.Rising.{each-behind, own-append, rest-rises}

abbrev IsBefore : Step → Step → Type 0
IsBefore a b = stamp_order a.stamp b.stamp ≡ Less

before-trans : (a b c x y z : ℕ) → ordering_then (nat_cmp a b) (nat_cmp x y) ≡ Less → ordering_then (nat_cmp b c) (nat_cmp y z) ≡ Less → ordering_then (nat_cmp a c) (nat_cmp x z) ≡ Less
before-trans a b c x y z e f = grind (arith, nat_tests)

before-by : (a b x y : ℕ) → a ≤ b → (y < x → a < b) → x ≢ y → ordering_then (nat_cmp a b) (nat_cmp x y) ≡ Less
before-by a b x y le lt other = grind (arith, nat_tests)

-- RISING STEPS
push-behind : (a : Stamp) (ss : List Step) (s : Step) → AllByRecursion (λ b. stamp_order a b ≡ Less) (map (λ s. s.stamp) ss) → stamp_order a s.stamp ≡ Less → AllByRecursion (λ b. stamp_order a b ≡ Less) (map (λ s. s.stamp) (ss ++ s ∷ []))
push-behind a [] s e f = (f, tt)
push-behind a (x ∷ ss) s e f = (e.0, push-behind a ss s e.1 f)

pub rising-push : (ss : List Step) (s : Step) → AreRising ss → Each (λ a. IsBefore a s) ss → AreRising (ss ++ s ∷ [])
unfolding IsStrictlySortedBy
rising-push [] s r e = (tt, tt)
rising-push (x ∷ ss) s r e = (push-behind x.stamp ss s r.0 e.0, rising-push ss s r.1 e.1)

pub rising-drop : (k : ℕ) (ss : List Step) → AreRising ss → AreRising (drop k ss)
unfolding IsStrictlySortedBy
rising-drop zero ss r = r
rising-drop (suc k) [] r = r
rising-drop (suc k) (s ∷ ss) r = rising-drop k ss r.1

-- of rising steps all come behind what the first comes behind
pub behind-first : (a : Step) (ss : List Step) → AreRising ss → IfSome (slice_get ss 0) (IsBefore a) → Each (IsBefore a) ss
unfolding IsStrictlySortedBy
behind-first a [] r e = tt
behind-first a (s ∷ ss) r e = (e, through ss (each-behind s.stamp ss r.0))
  where
    through : (xs : List Step) → Each (IsBefore s) xs → Each (IsBefore a) xs
    through [] es = tt
    through (x ∷ xs) es = (before-trans a.stamp.clock s.stamp.clock x.stamp.clock a.stamp.node.0 s.stamp.node.0 x.stamp.node.0 e es.0, through xs es.1)

-- ONE STEP MORE
before-push : (ss : List Step) (s : Step) (left : List Step) → ComeBefore ss left → Each (IsBefore s) left → ComeBefore (ss ++ s ∷ []) left
before-push [] s left e f = (f, tt)
before-push (x ∷ ss) s left e f = (e.0, before-push ss s left e.1 f)

before-rest : (ss left : List Step) (s : Step) → ComeBefore ss (s ∷ left) → ComeBefore ss left
before-rest [] left s e = tt
before-rest (x ∷ ss) left s e = (e.0.1, before-rest ss left s e.1)

before-first : (ss left : List Step) (s : Step) → ComeBefore ss (s ∷ left) → Each (λ a. IsBefore a s) ss
before-first [] left s e = tt
before-first (x ∷ ss) left s e = (e.0.0, before-first ss left s e.1)

-- a member's own fact
at-place : (P : Step → Type 0) (ss : List Step) (k : ℕ) (s : Step) → Each P ss → slice_get ss k ≡ Some s → P s
at-place P [] k s e is = absurd (omega (arith, slice_get_within [] k s is))
at-place P (x ∷ ss) zero s e is = subst P (search rules) e.0
at-place P (x ∷ ss) (suc k) s e is = at-place P ss k s e.1 is

drop-of : (ss : List Step) (k : ℕ) (s : Step) → slice_get ss k ≡ Some s → drop k ss ≡ s ∷ drop (k + 1) ss
drop-of ss k s is = drop_more ss k s (slice_get_within ss k s is) ∙ ap (λ x. x ∷ drop (k + 1) ss) (get_or_from_slice_get ss k s s is)

take-of : (ss : List Step) (k : ℕ) (s : Step) → slice_get ss k ≡ Some s → take (k + 1) ss ≡ take k ss ++ s ∷ []
take-of ss k s is = take_more ss k s (slice_get_within ss k s is) ∙ ap (λ x. take k ss ++ x ∷ []) (get_or_from_slice_get ss k s s is)

get-drop : (ss : List Step) (k : ℕ) → slice_get (drop k ss) 0 ≡ slice_get ss k
get-drop [] zero = refl
get-drop [] (suc k) = refl
get-drop (s ∷ ss) zero = refl
get-drop (s ∷ ss) (suc k) = get-drop ss k

in-range : (xs : List (List Step)) (k i : ℕ) (s : Step) → slice_get (get_or xs k []) i ≡ Some s → k < length xs
in-range [] k i s e = absurd (omega (arith, slice_get_within [] i s e))
in-range (x ∷ xs) zero i s e = omega arith
in-range (x ∷ xs) (suc k) i s e = omega (arith, in-range xs k i s e)

-- a step of a node before the next one of another, by clocks and nodes
before-node : (a b c x y k n : ℕ) → a ≡ c → (c ≤ b) × (n < k → c < b) → x ≡ k → y ≡ n → n ≢ k → ordering_then (nat_cmp a b) (nat_cmp x y) ≡ Less
before-node a b c x y k n at later here there other = grind (arith, nat_tests)

module _ (hs : List (List Step)) (apart : AreApart hs) (fs : List ℕ) (ss : List Step) (so : AreMerged hs fs ss) (front : Front) (s : Step) (next : next_at hs fs front.place ≡ Some s) where
  abbrev here : Node
  here = record { 0 = front.place }

  abbrev on : List ℕ
  on = set fs front.place (get_or fs front.place 0 + 1)

  abbrev history : Node → List Step
  history node = history_of hs node

  at-here : s.stamp.node ≡ here
  at-here = at-place (λ t. t.stamp.node ≡ here) (history here) (get_or fs front.place 0) s (apart.here here) next

  within : front.place < length hs
  within = in-range hs front.place (get_or fs front.place 0) s next

  front-here : get_or on front.place 0 ≡ get_or fs front.place 0 + 1
  front-here = get_or-set_same fs front.place (get_or fs front.place 0 + 1) 0 (subst (λ n. front.place < n) (sym so.count) within)

  front-there : (node : Node) → node.0 ≢ front.place → get_or on node.0 0 ≡ get_or fs node.0 0
  front-there node other = get_or-set_other fs front.place node.0 (get_or fs front.place 0 + 1) 0 other

  left-here : drop (get_or fs front.place 0) (history here) ≡ s ∷ drop (get_or on front.place 0) (history here)
  left-here = drop-of (history here) (get_or fs front.place 0) s next ∙ ap (λ k. s ∷ drop k (history here)) (sym front-here)

  rising-left : AreRising (s ∷ drop (get_or on front.place 0) (history here))
  rising-left = subst AreRising left-here (rising-drop (get_or fs front.place 0) (history here) (apart.rising here))

  own-here : own_steps here (ss ++ s ∷ []) ≡ take (get_or on front.place 0) (history here)
  own-here =
      own-append here ss (s ∷ []) ∙ ap (λ xs. xs ++ own_steps here (s ∷ [])) (so.own here) ∙ ap (λ (n : Node). take (get_or fs front.place 0) (history here) ++ cond (is_same_node n here) (s ∷ []) []) at-here
      ∙ ap (λ (b : Bool). take (get_or fs front.place 0) (history here) ++ cond b (s ∷ []) []) (same front.place)
      ∙ sym (take-of (history here) (get_or fs front.place 0) s next) ∙ ap (λ k. take k (history here)) (sym front-here)
    where
      same : (k : ℕ) → (k == k) ≡ true
      same k = grind (arith, nat_tests)

  own-there : (node : Node) → node.0 ≢ front.place → own_steps node (ss ++ s ∷ []) ≡ take (get_or on node.0 0) (history node)
  own-there node other =
      own-append node ss (s ∷ []) ∙ ap (λ (n : Node). own_steps node ss ++ cond (is_same_node n node) (s ∷ []) []) at-here
      ∙ ap (λ (b : Bool). own_steps node ss ++ cond b (s ∷ []) []) (away front.place node.0 other)
      ∙ append-nil (own_steps node ss) ∙ so.own node ∙ ap (λ k. take k (history node)) (sym (front-there node other))
    where
      away : (k n : ℕ) → n ≢ k → (k == n) ≡ false
      away k n other = grind (arith, nat_tests)

  before-here : ComeBefore (ss ++ s ∷ []) (drop (get_or on front.place 0) (history here))
  unfolding IsStrictlySortedBy
  before-here =
      before-push ss s (drop (get_or on front.place 0) (history here)) (before-rest ss (drop (get_or on front.place 0) (history here)) s (subst (ComeBefore ss) left-here (so.before here)))
      (each-behind s.stamp (drop (get_or on front.place 0) (history here)) rising-left.0)

  module _ (clock : s.stamp.clock ≡ front.clock) (least : (other : ℕ) → other < length hs → ComesLater hs fs front other) where
    first-there : (node : Node) → node.0 ≢ front.place → (o : Option Step) → next_at hs fs node.0 ≡ o → IfSome o (IsBefore s)
    first-there node other None is = tt
    first-there node other (Some t) is =
        before-node s.stamp.clock t.stamp.clock front.clock s.stamp.node.0 t.stamp.node.0 front.place node.0 clock
        (subst (λ o. IfSome o (λ u. (front.clock ≤ u.stamp.clock) × (node.0 < front.place → front.clock < u.stamp.clock))) is (least node.0 (in-range hs node.0 (get_or fs node.0 0) t is)))
        (ap (λ (n : Node). n.0) at-here) (ap (λ (n : Node). n.0) (at-place (λ u. u.stamp.node ≡ node) (history node) (get_or fs node.0 0) t (apart.here node) is)) other

    before-there : (node : Node) → node.0 ≢ front.place → ComeBefore (ss ++ s ∷ []) (drop (get_or on node.0 0) (history node))
    before-there node other =
        subst (λ k. ComeBefore (ss ++ s ∷ []) (drop k (history node))) (sym (front-there node other))
        (before-push ss s (drop (get_or fs node.0 0) (history node)) (so.before node)
        (behind-first s (drop (get_or fs node.0 0) (history node)) (rising-drop (get_or fs node.0 0) (history node) (apart.rising node))
        (subst (λ o. IfSome o (IsBefore s)) (sym (get-drop (history node) (get_or fs node.0 0))) (first-there node other (next_at hs fs node.0) refl))))

    by-node : (P : Node → Type 0) → P here → ((node : Node) → node.0 ≢ front.place → P node) → (node : Node) → P node
    by-node P at away node = by_case (eqb_tells node.0 front.place)
      where
        by_case : ((eqb node.0 front.place ≡ true) × (node.0 ≡ front.place)) ⊎ ((eqb node.0 front.place ≡ false) × (node.0 ≢ front.place)) → P node
        by_case (inl same) = subst (λ k. P (record { 0 = k })) (sym same.1) at
        by_case (inr other) = away node other.1

    pub merged-more : AreMerged hs on (ss ++ s ∷ [])
    merged-more =
        record {
          count = length-set fs front.place (get_or fs front.place 0 + 1) ∙ so.count;
          rising = rising-push ss s so.rising (before-first ss (drop (get_or on front.place 0) (history here)) s (subst (ComeBefore ss) left-here (so.before here)));
          own = by-node (λ node. own_steps node (ss ++ s ∷ []) ≡ take (get_or on node.0 0) (history node)) own-here own-there;
          before = by-node (λ node. ComeBefore (ss ++ s ∷ []) (drop (get_or on node.0 0) (history node))) before-here before-there;
        }

-- AT THE ENDS
fresh : (n k : ℕ) → ◌≡◌ {A = ℕ} (get_or (replicate n 0) k 0) 0
fresh zero k = refl
fresh (suc n) zero = refl
fresh (suc n) (suc k) = fresh n k

pub merged-none : (hs : List (List Step)) (fs : List ℕ) → fs ≡ replicate (length hs) 0 → AreMerged hs fs []
unfolding IsStrictlySortedBy
merged-none hs fs new =
    record {
      count = ap length new ∙ length-replicate (length hs) 0;
      rising = tt;
      own = λ node. ap (λ k. take k (history_of hs node)) (sym (ap (λ (xs : List ℕ). get_or xs node.0 0) new ∙ fresh (length hs) node.0));
      before = λ node. tt;
    }

none-within : (xs : List Step) (k : ℕ) → slice_get xs k ≡ None → length xs ≤ k
none-within [] k e = omega arith
none-within (x ∷ xs) zero e = absurd (search rules)
none-within (x ∷ xs) (suc k) e = omega (arith, none-within xs k e)

past : (xs : List (List Step)) (k : ℕ) → length xs ≤ k → get_or xs k [] ≡ []
past [] k h = refl
past (x ∷ xs) zero h = absurd (omega (arith, h))
past (x ∷ xs) (suc k) h = past xs k (omega (arith, h))

take-nil : (k : ℕ) → take {A = Step} k [] ≡ []
take-nil zero = refl
take-nil (suc k) = refl

pub merged-all : (hs : List (List Step)) (fs : List ℕ) (ss : List Step) → AreMerged hs fs ss → IsEarliest hs fs (length hs) None → IsMergeOf hs ss
merged-all hs fs ss so none = record { rising = so.rising; own = λ node. so.own node ∙ whole node (leb_tells (length hs) node.0) }
  where
    whole : (node : Node) → ((leb (length hs) node.0 ≡ true) × (length hs ≤ node.0)) ⊎ ((leb (length hs) node.0 ≡ false) × (node.0 < length hs)) → take (get_or fs node.0 0) (history_of hs node) ≡ history_of hs node
    whole node (inl outside) = ap (take (get_or fs node.0 0)) (past hs node.0 outside.1) ∙ take-nil (get_or fs node.0 0) ∙ sym (past hs node.0 outside.1)
    whole node (inr inside) = take_all (get_or fs node.0 0) (history_of hs node) (none-within (history_of hs node) (get_or fs node.0 0) (none node.0 inside.1))

-- HOW MANY ARE LEFT
pub left-less : (hs : List (List Step)) (fs : List ℕ) (k : ℕ) → length fs ≡ length hs → k < length hs → get_or fs k 0 < length (get_or hs k []) → left_in hs (set fs k (get_or fs k 0 + 1)) < left_in hs fs
left-less [] fs k count inside less = absurd (omega (arith, inside))
left-less (h ∷ hs) [] k count inside less = absurd (omega (arith, count))
left-less (h ∷ hs) (f ∷ fs) zero count inside less = omega (arith, less)
left-less (h ∷ hs) (f ∷ fs) (suc k) count inside less = omega (arith, left-less hs fs k (omega (arith, count)) (omega (arith, inside)) less)

-- WHAT THE LOOP READS
module _ (histories : List NodeHistory) (fs : List ℕ) (ss : List Step) (so : AreMerged (map (λ h. h.steps) histories) fs ss) (front : Front)
    (least : IsEarliest (map (λ h. h.steps) histories) fs (length histories) (Some front)) (h : NodeHistory) (n : ℕ) (read : n ≡ get_or fs front.place n) where
  abbrev all : List (List Step)
  all = map (λ h. h.steps) histories

  many : length all ≡ length histories
  many = length-map histories (λ h. h.steps)

  front-read : n ≡ get_or fs front.place 0
  front-read = read ∙ get_or_default fs front.place n 0 (subst (λ k. front.place < k) (sym (so.count ∙ many)) least.0)

  history-read : get_or all front.place [] ≡ (get_or histories front.place h).steps
  history-read = get_or-map (λ h. h.steps) histories front.place h [] least.0

  step-read : slice_get (get_or histories front.place h).steps n ≡ Some least.1.step
  step-read = ap (λ (xs : List Step). slice_get xs n) (sym history-read) ∙ ap (slice_get (get_or all front.place [])) front-read ∙ least.1.next

  pub step-inside : n < length (get_or histories front.place h).steps
  step-inside = slice_get_within (get_or histories front.place h).steps n least.1.step step-read

  pub loop-more : AreApart all → (m : ℕ) → m ≡ n + 1 → (new : List Step) → ((other : Step) → new ≡ ss ++ get_or (get_or histories front.place h).steps n other ∷ []) → AreMerged all (set fs front.place m) new
  loop-more apart m next new pushed =
      subst (λ k. AreMerged all (set fs front.place k) new) (sym (next ∙ ap (λ k. k + 1) front-read))
      (subst (AreMerged all (set fs front.place (get_or fs front.place 0 + 1)))
      (sym (pushed least.1.step ∙ ap (λ s. ss ++ s ∷ []) (get_or_from_slice_get (get_or histories front.place h).steps n least.1.step least.1.step step-read)))
      (merged-more all apart fs ss so front least.1.step least.1.next least.1.clock (λ other inside. least.2 other (subst (λ k. other < k) many inside))))

  pub loop-less : (m : ℕ) → m ≡ n + 1 → left_in all (set fs front.place m) < left_in all fs
  loop-less m next =
      subst (λ k. left_in all (set fs front.place k) < left_in all fs) (sym (next ∙ ap (λ k. k + 1) front-read))
      (left-less all fs front.place so.count (subst (λ k. front.place < k) (sym many) least.0) (slice_get_within (get_or all front.place []) (get_or fs front.place 0) least.1.step least.1.next))

pub all-ended : (histories : List NodeHistory) (fs : List ℕ) → IsEarliest (map (λ h. h.steps) histories) fs (length histories) None → IsEarliest (map (λ h. h.steps) histories) fs (length (map (λ h. h.steps) histories)) None
all-ended histories fs none other inside = none other (subst (λ k. other < k) (length-map histories (λ h. h.steps)) inside)
