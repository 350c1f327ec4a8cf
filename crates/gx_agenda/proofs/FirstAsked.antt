-- The first of what passes a test at nodes and transactions that are listed by number.
use Rattle.std.proofs.Common.{◌≡◌, ◌≢◌, ℕ, ◌+◌, ◌<◌, ◌≤◌, zero, suc, Bool, true, false, cond, ◌||◌, eqb, refl, ap, ◌∙◌, List, [], ◌∷◌, ◌++◌, take, map, arith, ⊎_elim}
use Rattle.std.proofs.lemmas.Bool.{cases_eq}
use Rattle.std.proofs.lemmas.Bool.Decides.{nat_tests}
use Rattle.std.specs.List.{filter, flat_map, list_any, range_with_len}
use Rattle.gx_ids.specs.declared.ids.Gxid.{Gxid}
use Rattle.gx_ids.specs.declared.ids.Node.{Node}
use Rattle.gx_meaning.specs.Plan.{nodes_from}
use Rattle.gx_store.specs.Marks.{is_same_gxid}

abbrev gxids_from : ℕ → ℕ → List Gxid
gxids_from first count = map (λ n. record { 0 = n }) (range_with_len first count)

-- a listed transaction's number is among theirs
pub gxid-within : (g : Gxid) (first count : ℕ) → list_any (λ h. is_same_gxid h g) (gxids_from first count) ≡ true → (first ≤ g.0) × (g.0 < first + count)
gxid-within g first zero e = absurd (cc)
gxid-within g first (suc count) e = by (eqb first g.0) refl e (gxid-within g (first + 1) count)
  where
    here : (first number count : ℕ) → eqb first number ≡ true → (first ≤ number) × (number < first + suc count)
    here first number count e = (grind (arith, nat_tests), grind (arith, nat_tests))

    more : (first number count : ℕ) → (first + 1 ≤ number) × (number < first + 1 + count) → (first ≤ number) × (number < first + suc count)
    more first number count p = let low = p.0 in let high = p.1 in (omega arith, omega arith)

    by : (b : Bool) → eqb first g.0 ≡ b → (b || list_any (λ h. is_same_gxid h g) (gxids_from (first + 1) count)) ≡ true → (list_any (λ h. is_same_gxid h g) (gxids_from (first + 1) count) ≡ true → (first + 1 ≤ g.0) × (g.0 < first + 1 + count)) → (first ≤ g.0) × (g.0 < first + suc count)
    by true same e rest = here first g.0 count same
    by false apart e rest = more first g.0 count (rest e)

none-passes : {A : Type 0} (test : A → Bool) (xs : List A) → ((x : A) → test x ≡ false) → filter test xs ≡ []
none-passes test [] none = refl
none-passes test (x ∷ xs) none = ap (λ b. cond b (x ∷ filter test xs) (filter test xs)) (none x) ∙ none-passes test xs none

within_first : (first number count : ℕ) → first ≢ number → first ≤ number → number < first + suc count → (first + 1 ≤ number) × (number < first + 1 + count)
within_first first number count apart low high = (grind (arith, nat_tests), omega arith)

-- ONE NODE'S TRANSACTIONS
module _ {X : Type 0} (test : Gxid → Bool) (f : Gxid → X) (g : Gxid) (passes : test g ≡ true) (least : (h : Gxid) → test h ≡ true → g.0 ≤ h.0) where
  abbrev listed : ℕ → ℕ → List X
  listed first count = map f (filter test (gxids_from first count))

  pub first-listed : (first count : ℕ) (ys : List X) → first ≤ g.0 → g.0 < first + count → take 1 (listed first count ++ ys) ≡ f g ∷ []
  first-listed first zero ys low high = absurd (omega arith)
  first-listed first (suc count) ys low high = ⊎_elim here (later (first-listed (first + 1) count ys)) (cases_eq first g.0)
    where
      put : Bool → List X
      put b = take 1 (map f (cond b (record { 0 = first } ∷ filter test (gxids_from (first + 1) count)) (filter test (gxids_from (first + 1) count))) ++ ys)

      here : first ≡ g.0 → put (test (record { 0 = first })) ≡ f g ∷ []
      here same =
          let is : record { 0 = first } ≡ g = ap (λ n. record { 0 = n }) same in
          ap put (ap test is ∙ passes) ∙ ap (λ h. f h ∷ []) is

      fails : (b : Bool) → test (record { 0 = first }) ≡ b → first ≢ g.0 → b ≡ false
      fails true e apart = let under : g.0 ≤ first = least (record { 0 = first }) e in absurd (apart (omega arith))
      fails false e apart = refl

      later : (first + 1 ≤ g.0 → g.0 < first + 1 + count → take 1 (listed (first + 1) count ++ ys) ≡ f g ∷ []) → first ≢ g.0 → put (test (record { 0 = first })) ≡ f g ∷ []
      later more apart =
          let in_rest : (first + 1 ≤ g.0) × (g.0 < first + 1 + count) = within_first first g.0 count apart low high in
          ap put (fails (test (record { 0 = first })) refl apart) ∙ more in_rest.0 in_rest.1

-- ALL NODES
less : (first n : ℕ) → first + 1 ≤ n → first ≤ n
less first n low = omega arith

more : (first count n : ℕ) → n < first + 1 + count → n < first + suc count
more first count n high = omega arith

module _ {X : Type 0} (f : Node → List X) where
  -- nothing stands at any node
  pub nodes-empty : (first count : ℕ) → ((s : Node) → first ≤ s.0 → s.0 < first + count → f s ≡ []) → flat_map f (nodes_from first count) ≡ []
  nodes-empty first zero none = refl
  nodes-empty first (suc count) none =
      ap (λ ys. ys ++ flat_map f (nodes_from (first + 1) count)) (none (record { 0 = first }) (omega arith) (omega arith))
      ∙ nodes-empty (first + 1) count (λ s low high. none s (less first s.0 low) (more first count s.0 high))

  -- the first node at which anything stands
  module _ (s : Node) (x : X) (there : take 1 (f s) ≡ x ∷ []) where
    before-others : (xs ys : List X) → take 1 xs ≡ x ∷ [] → take 1 (xs ++ ys) ≡ x ∷ []
    before-others [] ys e = absurd (cc)
    before-others (z ∷ zs) ys e = e

    pub first-node : (first count : ℕ) → first ≤ s.0 → s.0 < first + count → ((t : Node) → first ≤ t.0 → t.0 < s.0 → f t ≡ []) → take 1 (flat_map f (nodes_from first count)) ≡ x ∷ []
    first-node first zero low high none = absurd (omega arith)
    first-node first (suc count) low high none = ⊎_elim here (later (first-node (first + 1) count)) (cases_eq first s.0)
      where
        rest : List X
        rest = flat_map f (nodes_from (first + 1) count)

        here : first ≡ s.0 → take 1 (f (record { 0 = first }) ++ rest) ≡ x ∷ []
        here same =
            let is : record { 0 = first } ≡ s = ap (λ n. record { 0 = n }) same in
            before-others (f (record { 0 = first })) rest (ap (λ t. take 1 (f t)) is ∙ there)

        under : first ≢ s.0 → first < s.0
        under apart = let w = within_first first s.0 count apart low high in omega (arith, w.0)

        later : (first + 1 ≤ s.0 → s.0 < first + 1 + count → ((t : Node) → first + 1 ≤ t.0 → t.0 < s.0 → f t ≡ []) → take 1 rest ≡ x ∷ []) → first ≢ s.0 → take 1 (f (record { 0 = first }) ++ rest) ≡ x ∷ []
        later further apart =
            let w : (first + 1 ≤ s.0) × (s.0 < first + 1 + count) = within_first first s.0 count apart low high in
            ap (λ ys. take 1 (ys ++ rest)) (none (record { 0 = first }) (omega arith) (under apart))
            ∙ further w.0 w.1 (λ t after below. none t (less first t.0 after) below)

module _ {X : Type 0} (test : Node → Gxid → Bool) (f : Node → Gxid → X) (drawn : ℕ) where
  -- what passes at a node
  abbrev pub row : Node → List X
  row s = map (f s) (filter (test s) (gxids_from 1 drawn))

  pub row-none : (s : Node) → ((g : Gxid) → test s g ≡ false) → row s ≡ []
  row-none s none = ap (map (f s)) (none-passes (test s) (gxids_from 1 drawn) none)

  -- the first that passes there, before others
  pub first-in-row : (s : Node) (g : Gxid) (ys : List X) → test s g ≡ true → ((h : Gxid) → test s h ≡ true → g.0 ≤ h.0) → (1 ≤ g.0) × (g.0 < 1 + drawn) → take 1 (row s ++ ys) ≡ f s g ∷ []
  first-in-row s g ys passes least there = first-listed (test s) (f s) g passes least 1 drawn ys there.0 there.1
