-- What a map has at each key when a group has been added to it.
use Rattle.std.proofs.Common.{◌≡◌, ◌∙◌, Bool, true, false, cond, List, refl, ap, sym}
use Rattle.std.specs.BTreeMap.{is_at}
use Rattle.std.specs.Map.{lookup}
use Rattle.std.specs.Prelude.{Option, None, Some}
use Rattle.std.specs.Ordering.{is_eq}
use Rattle.gx_tree.specs.declared.cell.Cell.{Cell}
use Rattle.gx_tree.specs.declared.query.Item.{Item}
use Rattle.gx_tree.specs.declared.value.Value.{Value}
use Rattle.gx_meaning.specs.Cells.{combine_all}
use Rattle.gx_meaning.specs.Groups.{is_same_key}
use Rattle.gx_gather.specs.Laws.{rising-equiv, rising-total}
use Rattle.gx_meaning.specs.Order.{rising}
use Rattle.gx_meaning.specs.Tallies.{joined}
use Rattle.gx_gather.proofs.InOrder.{Equal-from}

-- keys that are the same have the same in a map
pub lookup-same : {X : Type 0} (es : List (List Value × X)) (key q : List Value) → is_same_key key q ≡ true → lookup (is_at (rising key)) es ≡ lookup (is_at (rising q)) es
lookup-same es key q same = λ i. lookup (λ x. is_eq (rising-total.congr key q x (Equal-from (rising key q) same) i)) es

pub is_same_key-symm : (a b : List Value) → is_same_key a b ≡ is_same_key b a
is_same_key-symm a b = rising-equiv.symm a b

module _ (items : List Item) (cells : List Cell) where
  new_at : (b : Bool) (at old : Option (List Cell)) → at ≡ cond b (Some cells) old → (b ≡ true → old ≡ None) → at ≡ cond b (joined items old cells) old
  new_at true at old is none = is ∙ ap (λ o. joined items o cells) (sym (none refl))
  new_at false at old is none = is

  more_at : (b : Bool) (at old : Option (List Cell)) (before after : List Cell) → at ≡ cond b (Some after) old → after ≡ combine_all items before cells → (b ≡ true → old ≡ Some before) → at ≡ cond b (joined items old cells) old
  more_at true at old before after is made some = is ∙ ap Some made ∙ ap (λ o. joined items o cells) (sym (some refl))
  more_at false at old before after is made some = is

  turned : (key q : List Value) (at old : Option (List Cell)) → at ≡ cond (is_same_key key q) (joined items old cells) old → at ≡ cond (is_same_key q key) (joined items old cells) old
  turned key q at old is = is ∙ ap (λ b. cond b (joined items old cells) old) (is_same_key-symm key q)

  pub added_new : (key q : List Value) (at old : Option (List Cell)) → at ≡ cond (is_same_key key q) (Some cells) old → (is_same_key key q ≡ true → old ≡ None) → at ≡ cond (is_same_key q key) (joined items old cells) old
  added_new key q at old is none = turned key q at old (new_at (is_same_key key q) at old is none)

  pub added_more : (key q : List Value) (at old : Option (List Cell)) (before after : List Cell) → at ≡ cond (is_same_key key q) (Some after) old → after ≡ combine_all items before cells → (is_same_key key q ≡ true → old ≡ Some before) → at ≡ cond (is_same_key q key) (joined items old cells) old
  added_more key q at old before after is made some = turned key q at old (more_at (is_same_key key q) at old before after is made some)
