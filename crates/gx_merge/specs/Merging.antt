-- Histories that are merged from their fronts.
use Rattle.std.specs.Prelude.{◌≡◌, ◌≤◌, ◌<◌, ◌+◌, ◌-◌, ℕ, List, [], ◌∷◌, get_or, length, slice_get, drop, take, nat_le, IfSome, Some, None, if◌then◌else◌}
use Rattle.std.specs.declared.option.Option.{Option}
use Rattle.std.specs.declared.cmp.Ordering.TheVariants.{Less}
use Rattle.gx_ids.specs.declared.ids.Node.{Node}
use Rattle.gx_store.specs.declared.run.Step.{Step}
use Rattle.gx_law_order.specs.Lists.{Each}
use Rattle.gx_law_merge.specs.Merge.{AreRising, history_of, own_steps, stamp_order}
use Rattle.gx_merge.specs.declared.front.Front.{Front}

-- THE FRONTS OF HISTORIES
-- the next step of a node, by how many of each are merged
abbrev pub next_at : List (List Step) → List ℕ → ℕ → Option Step
next_at histories fronts place = slice_get (get_or histories place []) (get_or fronts place 0)

-- The other's next step doesn't come before a step of this place and clock: it has no lower clock, and not the same at a lower place.
abbrev pub ComesLater : List (List Step) → List ℕ → Front → ℕ → Type 0
ComesLater histories fronts front other = IfSome (next_at histories fronts other) (λ s. (front.clock ≤ s.stamp.clock) × (other < front.place → front.clock < s.stamp.clock))

-- this is a place's next step
pub record IsFront (histories : List (List Step)) (fronts : List ℕ) (front : Front) : Type 0 where
  pub step : Step
  pub next : next_at histories fronts front.place ≡ Some step
  pub clock : step.stamp.clock ≡ front.clock

-- of the places below a count the one whose next step comes first, with its clock; none where none has a next step
abbrev pub IsEarliest : List (List Step) → List ℕ → ℕ → Option Front → Type 0
IsEarliest histories fronts count None = (other : ℕ) → other < count → next_at histories fronts other ≡ None
IsEarliest histories fronts count (Some front) =
    (front.place < count) × IsFront histories fronts front × ((other : ℕ) → other < count → ComesLater histories fronts front other)

-- of two places, the second the greater, the one whose next step comes first
abbrev pub sooner : Option Front → Front → Option Front
sooner None second = Some second
sooner (Some first) second = Some (if nat_le first.clock second.clock then first else second)

-- how many steps are left
abbrev pub left_in : List (List Step) → List ℕ → ℕ
left_in [] fronts = 0
left_in (h ∷ hs) [] = length h + left_in hs []
left_in (h ∷ hs) (f ∷ fs) = (length h - f) + left_in hs fs

-- THE STEPS SO FAR
-- each comes before all that are left
abbrev pub ComeBefore : List Step → List Step → Type 0
ComeBefore before left = Each (λ a. Each (λ b. stamp_order a.stamp b.stamp ≡ Less) left) before

-- They rise, are the first of each node, as many as its front says, and come before all others.
pub record AreMerged (histories : List (List Step)) (fronts : List ℕ) (steps : List Step) : Type 0 where
  pub count : length fronts ≡ length histories
  pub rising : AreRising steps
  pub own : (node : Node) → own_steps node steps ≡ take (get_or fronts node.0 0) (history_of histories node)
  pub before : (node : Node) → ComeBefore steps (drop (get_or fronts node.0 0) (history_of histories node))
