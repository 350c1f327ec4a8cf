-- The steps of histories that fit stand at their nodes and rise.
use Rattle.std.proofs.Common.{◌≡◌, ◌≤◌, ◌<◌, ◌⊎◌, ◌+◌, inl, inr, ℕ, zero, suc, List, [], ◌∷◌, Bool, true, false, refl, sym, subst, ap, ◌∙◌, arith, Some, None, fold}
use Rattle.std.proofs.lemmas.Bool.Decides.{leb_tells, nat_tests}
use Rattle.std.specs.Prelude.{get_or, leb, length, map}
use Rattle.std.specs.List.{AllByRecursion}
use Rattle.std.specs.List.Sorted.{IsStrictlySortedBy}
use Rattle.std.specs.Ordering.{nat_cmp, ordering_then}
use Rattle.std.specs.declared.cmp.Ordering.TheVariants.{Less}
use Rattle.std.specs.declared.option.Option.{Option}
use Rattle.gx_ids.specs.declared.ids.Gxid.{Gxid}
use Rattle.gx_ids.specs.declared.ids.Node.{Node}
use Rattle.gx_ids.specs.declared.stamp.Stamp.{Stamp}
use Rattle.gx_script.specs.declared.Script.{Script}
use Rattle.gx_store.specs.declared.node.NodeEvent.{NodeEvent}
use Rattle.gx_store.specs.declared.run.Step.{Step}
use Rattle.gx_store.specs.Ordered.{IsSegment}
use Rattle.gx_store.specs.Refusals.{the_coordinator}
use Rattle.gx_rules.specs.AtCoordinator.{and_cancels, and_cancels_all, coord_rule, coord_turn}
use Rattle.gx_rules.specs.AtSegment.{seg_rule}
use Rattle.gx_rules.specs.Coordinators.{Coord, CoordTurn, new_coordinator}
use Rattle.gx_rules.specs.Rounds.{victims_at}
use Rattle.gx_rules.specs.Segments.{Seg, new_segment}
use Rattle.gx_rules.specs.Sending.{clock_after}
use Rattle.gx_law_order.proofs.Clocks.{clock_after-above}
use Rattle.gx_law_order.specs.Lists.{Each}
use Rattle.gx_law_runs.specs.Replays.{has_failed}
use Rattle.gx_law_merge.specs.Apart.{DoesFollow, IsTurn, Post, Rule, coordinators_rule, here_in, holds_by, segments_rule}
use Rattle.gx_law_merge.specs.Merge.{AreApart, AreRising, DoFit, history_of, posted_in, stamp_order}

lower-first : (a b x y : ℕ) → a < b → ordering_then (nat_cmp a b) (nat_cmp x y) ≡ Less
lower-first a b x y less = grind (arith, nat_tests)

-- ONE NODE
-- A rule whose turn takes the clock that the event asks for, whatever the journal does.
module _ {Data : Type 0} (rule : Rule Data) (clock : Data → ℕ) (told : (d : Data) (x : NodeEvent) (fails : Bool) → (rule.turn d x fails).clock ≡ clock_after (clock d) x)
    (kept : (d : Data) (x : NodeEvent) (fails : Bool) → clock (rule.turn d x fails).held ≡ clock_after (clock d) x) (at : Node) (post : Post) where
  each-here : (d : Data) (ss : List Step) → DoesFollow rule at post d ss → Each (λ s. s.stamp.node ≡ at) ss
  each-here d [] follows = tt
  each-here d (s ∷ ss) follows = (follows.0.node, each-here (holds_by rule d (here_in post s) (has_failed s.marks)) ss follows.1)

  -- the clock that a step leaves is its own
  step-clock : (d : Data) (s : Step) → IsTurn rule at d (here_in post s) s → (clock (holds_by rule d (here_in post s) (has_failed s.marks)) ≡ s.stamp.clock) × (clock d < s.stamp.clock)
  step-clock d s turn = (
    ap (λ o. clock (holds_by rule d o (has_failed s.marks))) turn.is ∙ kept d turn.here (has_failed s.marks) ∙ sym (turn.clock ∙ told d turn.here turn.fails),
    subst (λ k. clock d < k) (sym (turn.clock ∙ told d turn.here turn.fails)) (clock_after-above (clock d) turn.here),
  )

  each-above : (d : Data) (ss : List Step) → DoesFollow rule at post d ss → Each (λ s. clock d < s.stamp.clock) ss
  each-above d [] follows = tt
  each-above d (s ∷ ss) follows =
      (here.1, higher ss (each-above (holds_by rule d (here_in post s) (has_failed s.marks)) ss follows.1))
    where
      here : (clock (holds_by rule d (here_in post s) (has_failed s.marks)) ≡ s.stamp.clock) × (clock d < s.stamp.clock)
      here = step-clock d s follows.0

      above : (a b c e : ℕ) → a ≡ b → c < b → a < e → c < e
      above a b c e same less more = omega (arith, same, less, more)

      higher : (xs : List Step) → Each (λ x. clock (holds_by rule d (here_in post s) (has_failed s.marks)) < x.stamp.clock) xs → Each (λ x. clock d < x.stamp.clock) xs
      higher [] e = tt
      higher (x ∷ xs) e = (above (clock (holds_by rule d (here_in post s) (has_failed s.marks))) s.stamp.clock (clock d) x.stamp.clock here.0 here.1 e.0, higher xs e.1)

  all-rise : (d : Data) (ss : List Step) → DoesFollow rule at post d ss → AreRising ss
  unfolding IsStrictlySortedBy
  all-rise d [] follows = tt
  all-rise d (s ∷ ss) follows = (behind ss (each-above (holds_by rule d (here_in post s) (has_failed s.marks)) ss follows.1), all-rise (holds_by rule d (here_in post s) (has_failed s.marks)) ss follows.1)
    where
      behind : (xs : List Step) → Each (λ x. clock (holds_by rule d (here_in post s) (has_failed s.marks)) < x.stamp.clock) xs → AllByRecursion (λ b. stamp_order s.stamp b ≡ Less) (map (λ x. x.stamp) xs)
      behind [] e = tt
      behind (x ∷ xs) e = (lower-first s.stamp.clock x.stamp.clock s.stamp.node.0 x.stamp.node.0 (subst (λ k. k < x.stamp.clock) (step-clock d s follows.0).0 e.0), behind xs e.1)

-- THE RULES
-- victims leave the clock
victims-clock : (gs : List Gxid) (t : CoordTurn) → (and_cancels_all gs t).coord.clock ≡ t.coord.clock
victims-clock [] t = refl
victims-clock (g ∷ gs) t = victims-clock gs (and_cancels t g)

coordinator-clock : (script : Script) (c : Coord) (x : NodeEvent) (fails : Bool) → (coord_rule script c x fails).coord.clock ≡ clock_after c.clock x
coordinator-clock script c x fails = victims-clock (victims_at c x) (coord_turn script c x fails)

-- ALL NODES
past : (histories : List (List Step)) (i : ℕ) → length histories ≤ i → get_or histories i [] ≡ []
past [] i h = refl
past (x ∷ histories) zero h = absurd (omega (arith, h))
past (x ∷ histories) (suc i) h = past histories i (omega (arith, h))

module _ (script : Script) (histories : List (List Step)) (fit : DoFit script histories) where
  abbrev post : Post
  post = posted_in histories

  by-node : (P : Node → List Step → Type 0) → P the_coordinator (history_of histories the_coordinator) → ((node : Node) → IsSegment script node → P node (history_of histories node)) → ((node : Node) → P node []) → (node : Node) → P node (history_of histories node)
  by-node P coordinator segment none node = at node.0
    where
      above : (i : ℕ) → ((leb (suc i) script.segments ≡ true) × (suc i ≤ script.segments)) ⊎ ((leb (suc i) script.segments ≡ false) × (script.segments < suc i)) → P (record { 0 = suc i }) (get_or histories (suc i) [])
      above i (inl inside) = segment (record { 0 = suc i }) (omega arith, inside.1)
      above i (inr outside) = subst (P (record { 0 = suc i })) (sym (past histories (suc i) (subst (λ k. k ≤ suc i) (sym fit.count) (next script.segments (suc i) outside.1)))) (none (record { 0 = suc i }))
        where
          next : (a b : ℕ) → a < b → a + 1 ≤ b
          next a b less = omega (arith, less)

      at : (i : ℕ) → P (record { 0 = i }) (get_or histories i [])
      at zero = coordinator
      at (suc i) = above i (leb_tells (suc i) script.segments)

  pub are-apart : AreApart histories
  unfolding IsStrictlySortedBy
  are-apart =
      record {
        here = by-node (λ node ss. Each (λ s. s.stamp.node ≡ node) ss)
            (each-here (coordinators_rule script) (λ c. c.clock) (coordinator-clock script) (coordinator-clock script) the_coordinator post new_coordinator (history_of histories the_coordinator) fit.coordinator)
            (λ node inside. each-here (segments_rule script) (λ s. s.clock) (λ s x fails. refl) (λ s x fails. refl) node post (new_segment node) (history_of histories node) (fit.segments node inside))
            (λ node. tt);
        rising = by-node (λ node ss. AreRising ss)
            (all-rise (coordinators_rule script) (λ c. c.clock) (coordinator-clock script) (coordinator-clock script) the_coordinator post new_coordinator (history_of histories the_coordinator) fit.coordinator)
            (λ node inside. all-rise (segments_rule script) (λ s. s.clock) (λ s x fails. refl) (λ s x fails. refl) node post (new_segment node) (history_of histories node) (fit.segments node inside))
            (λ node. tt);
      }
