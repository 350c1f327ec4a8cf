use Rattle.std.proofs.Common.{cond, refl, ap, List, [], ◌∷◌, map, sym, subst, ◌∙◌}
use Rattle.std.specs.Prelude.{IsSome, Some}
use Rattle.std.specs.BTreeMap.{get}
use Rattle.gx_tree.specs.declared.cell.Cell.{Cell}
use Rattle.gx_tree.specs.declared.value.Value.{Value}
use Rattle.gx_meaning.specs.Aggregates.{aggregate}
use Rattle.gx_meaning.specs.Groups.{is_same_key}
use Rattle.gx_meaning.specs.Order.{rising}
use Rattle.gx_gather.proofs.Adding.{added_more, added_new, lookup-same}
use Rattle.gx_gather.proofs.groups.add_to_group.Goals as goal

pub returns-in_ok-add_row-in-Some : goal.returns-in_ok-add_row-in-Some
returns-in_ok-add_row-in-Some c = λ q.
    let items = c.args.items.now in
    let key = c.args.key.now in
    let there = c.in-Some.ensures.value in
    let after = c.add_row.new.self in
    let writes = (c.get_mut.follows.holds after).3 (subst IsSome there refl) in
    added_more items (map (aggregate (c.args.row.now ∷ [])) items) key q _ _ c.in-Some.found.now after (writes.0 q) c.in_ok-add_row-in-Some.ensures
    (λ same. sym (lookup-same c.args.groups.now.entries key q same) ∙ sym there)

pub returns-in_ok-insert-in-None : goal.returns-in_ok-insert-in-None
returns-in_ok-insert-in-None c = λ q.
    let items = c.args.items.now in
    let key = c.args.key.now in
    let there = c.in-None.ensures.value in
    let at_key = c.in_ok-insert-in-None.ensures.updates.0 q
    ∙ ap (λ m. cond (is_same_key c.in_ok-copy-in-None.field-0 q) (Some c.from_seq.result) (get rising m q)) c.get_mut.follows.holds-at-none
    ∙ ap (λ (k : List Value). cond (is_same_key k q) (Some c.from_seq.result) (get rising c.args.groups.now q)) c.in_ok-copy-in-None.ensures
    ∙ ap (λ (l : List Cell). cond (is_same_key key q) (Some l) (get rising c.args.groups.now q)) (c.from_seq.ensures ∙ c.in_ok-cells-in-None.ensures) in
    added_new items (map (aggregate (c.args.row.now ∷ [])) items) key q _ _ at_key (λ same. sym (lookup-same c.args.groups.now.entries key q same) ∙ sym there)
