-- A history with one step more, and one to which more has come.
use Rattle.std.proofs.Common.{◌≡◌, ◌≤◌, ◌<◌, ℕ, ◌+◌, List, [], ◌∷◌, ◌++◌, Some, Bool, true, false, if◌then◌else◌, cond, refl, sym, ap, ◌∙◌, arith, append-nil}
use Rattle.std.specs.Prelude.{map}
use Rattle.std.proofs.lemmas.List.{append_assoc, map-append}
use Rattle.gx_ids.specs.declared.ids.Node.{Node}
use Rattle.gx_msg.specs.ItemBytes.{bytes_of_item}
use Rattle.gx_msg.specs.declared.item.JournalItem.{JournalItem}
use Rattle.gx_outside.specs.Shelves.{Shelf}
use Rattle.gx_node.specs.Orders.{Took}
use Rattle.gx_store.specs.declared.mark.Mark.{Mark}
use Rattle.gx_store.specs.declared.mark.Mark.TheVariants.{JournalFailed}
use Rattle.gx_store.specs.declared.node.NodeEvent.{NodeEvent}
use Rattle.gx_store.specs.declared.run.Step.{Step}
use Rattle.gx_store.specs.Journals.{is_same_node}
use Rattle.gx_store.specs.Points.{marks_in}
use Rattle.gx_store.proofs.Runs.{marks_in-push}
use Rattle.gx_rules.specs.Machine.{kept_item}
use Rattle.gx_law_runs.specs.Failures.{failures_in}
use Rattle.gx_law_runs.specs.Replays.{has_failed}
use Rattle.gx_law_merge.specs.Apart.{DoesFollow, HasMore, IsTurn, Post, Rule, here_in, holds_after, holds_by, takes_by, takes_in}
use Rattle.gx_law_merge.proofs.Longer.{same-by}
use Rattle.gx_cells.specs.Kept.{IsHistory}

-- ONE STEP MORE
module _ {Data : Type 0} (rule : Rule Data) (at : Node) (post : Post) where
  follows-next : (held : Data) (ss : List Step) (s : Step) → DoesFollow rule at post held ss → IsTurn rule at (holds_after rule post held ss) (here_in post s) s → DoesFollow rule at post held (ss ++ s ∷ [])
  follows-next held [] s f t = (t, tt)
  follows-next held (x ∷ ss) s f t = (f.0, follows-next (holds_by rule held (here_in post x) (has_failed x.marks)) ss s f.1 t)

  pub holds-next : (held : Data) (ss : List Step) (s : Step) → holds_after rule post held (ss ++ s ∷ []) ≡ holds_by rule (holds_after rule post held ss) (here_in post s) (has_failed s.marks)
  holds-next held [] s = refl
  holds-next held (x ∷ ss) s = holds-next (holds_by rule held (here_in post x) (has_failed x.marks)) ss s

  takes-next : (held : Data) (ss : List Step) (s : Step) → takes_in rule post held (ss ++ s ∷ []) ≡ takes_in rule post held ss ++ takes_by rule (holds_after rule post held ss) (here_in post s) (has_failed s.marks)
  takes-next held [] s = append-nil (takes_by rule held (here_in post s) (has_failed s.marks))
  takes-next held (x ∷ ss) s =
      let next : Data = holds_by rule held (here_in post x) (has_failed x.marks) in
      let first : List JournalItem = takes_by rule held (here_in post x) (has_failed x.marks) in
      ap (λ its. first ++ its) (takes-next next ss s) ∙ sym (append_assoc first (takes_in rule post next ss) (takes_by rule (holds_after rule post next ss) (here_in post s) (has_failed s.marks)))

pub failures-append : (node : Node) (xs ys : List Mark) → failures_in node (xs ++ ys) ≡ failures_in node xs + failures_in node ys
failures-append node [] ys = none (failures_in node ys)
  where
    none : (a : ℕ) → a ≡ 0 + a
    none a = omega arith
failures-append node (JournalFailed n g ∷ xs) ys = by (is_same_node n node) (failures-append node xs ys)
  where
    by : (b : Bool) → failures_in node (xs ++ ys) ≡ failures_in node xs + failures_in node ys
        → (if b then failures_in node (xs ++ ys) + 1 else failures_in node (xs ++ ys)) ≡ (if b then failures_in node xs + 1 else failures_in node xs) + failures_in node ys
    by true e = omega (arith, e)
    by false e = e
failures-append node (m ∷ xs) ys = failures-append node xs ys

-- A step that is a turn of the rule, whose marks tell all of it that counts: what the node then holds, what its journal took, and
-- that it failed.
pub record IsNext {Data : Type 0} (rule : Rule Data) (at : Node) (post : Post) (held : Data) (s : Step) (before after : Shelf) : Type 0 where
  pub here : NodeEvent
  pub fails : Bool
  pub is : here_in post s ≡ Some here
  pub turn : IsTurn rule at held (here_in post s) s
  pub item : kept_item (has_failed s.marks) (rule.turn held here (has_failed s.marks)).item ≡ kept_item fails (rule.turn held here fails).item
  pub took : Took before after fails (rule.turn held here fails).item
  pub few : failures_in at s.marks ≤ cond fails 1 0

pub history-next : {Data : Type 0} (rule : Rule Data) (at : Node) (new : Data) (post : Post) (first : ℕ) (steps : List Step) (before after : Shelf) (s : Step)
    → IsHistory rule at new post first steps before → IsNext rule at post (holds_after rule post new steps) s before after → IsHistory rule at new post first (steps ++ s ∷ []) after
history-next {Data} rule at new post first steps before after s h n =
    record {
      follows = follows-next rule at post new steps s h.follows n.turn;
      items = n.took.items
          ∙ ap (λ its. its ++ map bytes_of_item (kept_item n.fails (rule.turn held n.here n.fails).item)) h.items
          ∙ ap (λ its. map bytes_of_item (takes_in rule post new steps) ++ map bytes_of_item its) (sym (ap (λ o. takes_by rule held o (has_failed s.marks)) n.is ∙ n.item))
          ∙ sym (map-append bytes_of_item (takes_in rule post new steps) (takes_by rule held (here_in post s) (has_failed s.marks)))
          ∙ ap (map bytes_of_item) (sym (takes-next rule at post new steps s));
      failures = grows n.fails first (failures_in at (marks_in steps)) (failures_in at s.marks) _ before.faults after.faults
          (ap (failures_in at) (marks_in-push steps s) ∙ failures-append at (marks_in steps) s.marks) h.failures n.few n.took.later.faults n.took.caused;
    }
  where
    held : Data
    held = holds_after rule post new steps

    grows : (b : Bool) (f a m all x y : ℕ) → all ≡ a + m → f + a ≤ x → m ≤ cond b 1 0 → x ≤ y → (b ≡ true → x < y) → f + all ≤ y
    grows true f a m all x y e old few up rose = omega (arith, e, old, few, rose refl)
    grows false f a m all x y e old few up rose = omega (arith, e, old, few, up)

-- MORE HAS COME
pub history-more : {Data : Type 0} (rule : Rule Data) (at : Node) (new : Data) (post more : Post) (first : ℕ) (steps : List Step) (shelf : Shelf)
    → HasMore post more → IsHistory rule at new post first steps shelf → (IsHistory rule at new more first steps shelf) × (holds_after rule more new steps ≡ holds_after rule post new steps)
history-more rule at new post more first steps shelf has h =
    let same = same-by post more has rule at new steps h.follows in
    (record { follows = same.follows; items = h.items ∙ ap (map bytes_of_item) (sym same.takes); failures = h.failures }, same.holds)
