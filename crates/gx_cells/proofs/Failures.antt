-- How often a node's journal has failed in a merge is how often it has in the node's own history.
use Rattle.std.proofs.Common.{◌≡◌, ◌≤◌, ℕ, zero, suc, ◌+◌, List, [], ◌∷◌, ◌++◌, Some, Bool, true, false, if◌then◌else◌, All, refl, sym, subst, ap, ◌∙◌, arith, get_or}
use Rattle.std.specs.Prelude.{map, slice_get}
use Rattle.std.proofs.lemmas.List.Elements.{All-head, All-tail}
use Rattle.gx_ids.specs.declared.ids.Node.{Node}
use Rattle.gx_lemmas.proofs.Options.{some-same}
use Rattle.gx_outside.specs.Shelves.{Shelf}
use Rattle.gx_script.specs.declared.Script.{Script}
use Rattle.gx_store.specs.declared.mark.Mark.{Mark}
use Rattle.gx_store.specs.declared.mark.Mark.TheVariants.{JournalFailed}
use Rattle.gx_store.specs.declared.run.Step.{Step}
use Rattle.gx_store.specs.Journals.{is_same_node}
use Rattle.gx_store.specs.Language.{IsScript}
use Rattle.gx_store.specs.Ordered.{AreOrdered, IsAtNode}
use Rattle.gx_store.specs.Points.{marks_in}
use Rattle.gx_store.specs.Refusals.{the_coordinator}
use Rattle.gx_law_merge.proofs.Laws.{merge-ordered}
use Rattle.gx_law_merge.proofs.Rising.{own-here, own-there}
use Rattle.gx_law_merge.specs.Merge.{DoFit, IsMergeOf, history_of, own_steps}
use Rattle.gx_law_runs.specs.Failures.{failures_in}
use Rattle.gx_cells.proofs.Longer.{failures-append}
use Rattle.gx_cells.specs.Closed.{AreFailuresCounted, AreFailuresFew, AreNew, firsts_of, histories_of}
use Rattle.gx_cells.specs.CoordViews.{CoordView}
use Rattle.gx_cells.specs.Views.{SegmentView}

module _ (script : Script) (node : Node) where
  -- marks that stand in steps of another node don't tell of it
  elsewhere : (at : Node) → is_same_node at node ≡ false → (ms : List Mark) → All (IsAtNode script at) ms → failures_in node ms ≡ 0
  elsewhere at away [] all = refl
  elsewhere at away (JournalFailed n g ∷ ms) all =
      let here : n ≡ at = All-head (IsAtNode script at) (JournalFailed n g) ms all in
      ap (λ (b : Bool). if b then failures_in node ms + 1 else failures_in node ms) (ap (λ (x : Node). is_same_node x node) here ∙ away)
      ∙ elsewhere at away ms (All-tail (IsAtNode script at) (JournalFailed n g) ms all)
  elsewhere at away (m ∷ ms) all = elsewhere at away ms (All-tail (IsAtNode script at) m ms all)

  counted : (before ss : List Step) → AreOrdered script before ss → failures_in node (marks_in ss) ≡ failures_in node (marks_in (own_steps node ss))
  counted before [] ordered = refl
  counted before (s ∷ ss) ordered = failures-append node s.marks (marks_in ss) ∙ by (is_same_node s.stamp.node node) refl (counted (before ++ s ∷ []) ss ordered.1)
    where
      none : (a : ℕ) → 0 + a ≡ a
      none a = omega arith

      by : (b : Bool) → is_same_node s.stamp.node node ≡ b → failures_in node (marks_in ss) ≡ failures_in node (marks_in (own_steps node ss))
          → failures_in node s.marks + failures_in node (marks_in ss) ≡ failures_in node (marks_in (own_steps node (s ∷ ss)))
      by true same rest =
          ap (λ n. failures_in node s.marks + n) rest ∙ sym (failures-append node s.marks (marks_in (own_steps node ss)))
          ∙ ap (λ (xs : List Step). failures_in node (marks_in xs)) (sym (own-here node s ss same))
      by false away rest =
          ap (λ n. n + failures_in node (marks_in ss)) (elsewhere s.stamp.node away s.marks ordered.0.marks) ∙ none (failures_in node (marks_in ss)) ∙ rest
          ∙ ap (λ (xs : List Step). failures_in node (marks_in xs)) (sym (own-there node s ss away))

module _ (script : Script) (language : IsScript script) (histories : List (List Step)) (fit : DoFit script histories) (steps : List Step) (merge : IsMergeOf histories steps) where
  pub failures-own : (node : Node) → failures_in node (marks_in steps) ≡ failures_in node (marks_in (history_of histories node))
  failures-own node =
      counted script node [] steps (merge-ordered script language.some_segments histories fit steps merge)
      ∙ ap (λ (xs : List Step). failures_in node (marks_in xs)) (merge.own node)

-- the count of each node's journal has risen as often at least
module _ (coord : CoordView) (segments : List SegmentView) (some : AreFailuresCounted coord segments) where
  node-of : (n m : Node) → n.0 ≡ m.0 → n ≡ m
  node-of n m e = ap (λ k. record { 0 = k }) e

  turned : (a b c : ℕ) → a + b ≤ c → b + a ≤ c
  turned a b c h = omega (arith, h)

  or-mapped : {A B : Type 0} (f : A → B) (xs : List A) (k : ℕ) (x : A) (other : B) → slice_get xs k ≡ Some x → get_or (map f xs) k other ≡ f x
  or-mapped f [] k x other at = absurd (cc)
  or-mapped f (y ∷ ys) zero x other at = ap f (some-same y x at)
  or-mapped f (y ∷ ys) (suc k) x other at = or-mapped f ys k x other at

  both-mapped : {A B C : Type 0} (f : A → B) (g : A → C) (xs : List A) (k : ℕ) (y : B) (z : C) → slice_get (map f xs) k ≡ Some y → slice_get (map g xs) k ≡ Some z
      → (x : A) × (slice_get xs k ≡ Some x) × (f x ≡ y) × (g x ≡ z)
  both-mapped f g [] k y z a b = absurd (cc)
  both-mapped f g (x ∷ xs) zero y z a b = (x, refl, some-same (f x) y a, some-same (g x) z b)
  both-mapped f g (x ∷ xs) (suc k) y z a b = both-mapped f g xs k y z a b

  own-few : (node : Node) (first : ℕ) (shelf : Shelf) → slice_get (firsts_of coord segments) node.0 ≡ Some first → slice_get (coord.shelf ∷ map (λ s. s.shelf) segments) node.0 ≡ Some shelf
      → failures_in node (marks_in (history_of (histories_of coord segments) node)) + first ≤ shelf.faults
  own-few node first shelf before after = by node.0 refl before after
    where
      by : (k : ℕ) → node.0 ≡ k → slice_get (firsts_of coord segments) k ≡ Some first → slice_get (coord.shelf ∷ map (λ s. s.shelf) segments) k ≡ Some shelf
          → failures_in node (marks_in (history_of (histories_of coord segments) node)) + first ≤ shelf.faults
      by zero is b a =
          let same : node ≡ the_coordinator = node-of node the_coordinator is in
          subst (λ (n : Node). failures_in n (marks_in (history_of (histories_of coord segments) n)) + first ≤ shelf.faults) (sym same)
          (subst (λ (f : ℕ). failures_in the_coordinator (marks_in coord.steps) + f ≤ shelf.faults) (some-same coord.first first b)
          (subst (λ (x : Shelf). failures_in the_coordinator (marks_in coord.steps) + coord.first ≤ x.faults) (some-same coord.shelf shelf a)
          (turned coord.first (failures_in the_coordinator (marks_in coord.steps)) coord.shelf.faults some.0)))
      by (suc k) is b a =
          let s = both-mapped (λ (v : SegmentView). v.first) (λ (v : SegmentView). v.shelf) segments k first shelf b a in
          let v = s.0 in
          let at : slice_get segments k ≡ Some v = s.1 in
          let at-k : Node = record { 0 = k + 1 } in
          let same : at-k ≡ node = node-of at-k node (up k ∙ sym is) in
          let its : history_of (histories_of coord segments) node ≡ v.steps = ap (λ i. get_or (histories_of coord segments) i []) is ∙ or-mapped (λ (u : SegmentView). u.steps) segments k v [] at in
          subst (λ (xs : List Step). failures_in node (marks_in xs) + first ≤ shelf.faults) (sym its)
          (subst (λ (n : Node). failures_in n (marks_in v.steps) + first ≤ shelf.faults) same
          (subst (λ (f : ℕ). failures_in at-k (marks_in v.steps) + f ≤ shelf.faults) s.2
          (subst (λ (x : Shelf). failures_in at-k (marks_in v.steps) + v.first ≤ x.faults) s.3 (turned v.first (failures_in at-k (marks_in v.steps)) v.shelf.faults (some.1 k v at)))))
        where
          up : (k : ℕ) → k + 1 ≡ suc k
          up k = omega arith

  module _ (language : IsScript coord.script) (fit : DoFit coord.script (histories_of coord segments)) (steps : List Step) (merge : IsMergeOf (histories_of coord segments) steps) where
    pub failures-few : (shelves : List Shelf) → shelves ≡ coord.shelf ∷ map (λ s. s.shelf) segments → AreFailuresFew steps (firsts_of coord segments) shelves
    failures-few shelves are node first shelf before after =
        subst (λ n. n + first ≤ shelf.faults) (sym (failures-own coord.script language (histories_of coord segments) fit steps merge node))
        (own-few node first shelf before (subst (λ xs. slice_get xs node.0 ≡ Some shelf) are after))

-- of cells that were closed, whose script is this one
pub ended-few : (coord : CoordView) (segments : List SegmentView) (script : Script) → IsScript script → coord.script ≡ script → AreFailuresCounted coord segments
    → (histories : List (List Step)) → histories ≡ histories_of coord segments → DoFit coord.script histories → (steps : List Step) → IsMergeOf histories steps
    → (shelves : List Shelf) → shelves ≡ coord.shelf ∷ map (λ s. s.shelf) segments → AreFailuresFew steps (firsts_of coord segments) shelves
ended-few coord segments script language of some histories are fit steps merge shelves all =
    failures-few coord segments some (subst IsScript (sym of) language) (subst (DoFit coord.script) are fit) steps (subst (λ h. IsMergeOf h steps) are merge) shelves all

-- FIRST COUNTS
map-twice : {A B C : Type 0} (f : B → C) (g : A → B) (xs : List A) → map f (map g xs) ≡ map (λ x. f (g x)) xs
map-twice f g [] = refl
map-twice f g (x ∷ xs) = ap (λ ys. f (g x) ∷ ys) (map-twice f g xs)

map-by : (f g : SegmentView → ℕ) (ss : List SegmentView) → ((k : ℕ) (s : SegmentView) → slice_get ss k ≡ Some s → f s ≡ g s) → map f ss ≡ map g ss
map-by f g [] each = refl
map-by f g (s ∷ ss) each = λ i. each 0 s refl i ∷ map-by f g ss (λ k t at. each (suc k) t at) i

-- of new cells they are those of the journals that were handed over
pub new-firsts : {A : Type 0} (shelf : A → Shelf) (j : A) (js : List A) (script : Script) (coord : CoordView) (segments : List SegmentView) → AreNew script coord segments
    → coord.shelf ∷ map (λ s. s.shelf) segments ≡ shelf j ∷ map shelf js → firsts_of coord segments ≡ (shelf j).faults ∷ map (λ x. (shelf x).faults) js
new-firsts shelf j js script coord segments new journals =
    (λ i. new.first i ∷ map-by (λ s. s.first) (λ s. s.shelf.faults) segments (λ k s at. (new.each k s at).4) i)
    ∙ ap (λ l. coord.shelf.faults ∷ l) (sym (map-twice (λ (h : Shelf). h.faults) (λ (s : SegmentView). s.shelf) segments))
    ∙ ap (map (λ (h : Shelf). h.faults)) journals
    ∙ ap (λ l. (shelf j).faults ∷ l) (map-twice (λ (h : Shelf). h.faults) shelf js)
