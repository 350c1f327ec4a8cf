use Rattle.std.proofs.Common.{◌≡◌, cond, refl, ap, List, sym, subst, ◌∙◌}
use Rattle.std.specs.Prelude.{IsSome, Some}
use Rattle.std.specs.BTreeMap.{get}
use Rattle.gx_tree.specs.declared.cell.Cell.{Cell}
use Rattle.gx_meaning.specs.Cells.{combine_all}
use Rattle.gx_meaning.specs.Groups.{is_same_key}
use Rattle.gx_meaning.specs.Order.{rising}
use Rattle.gx_gather.proofs.Adding.{added_more, added_new, lookup-same}
use Rattle.gx_gather.proofs.groups.add_group.Goals as goal

pub returns-in_ok-after-in-Some : goal.returns-in_ok-after-in-Some
returns-in_ok-after-in-Some c = λ q.
    let there = c.in-Some.ensures.value in
    let after = c.from_seq-in-Some.result in
    let writes = (c.get_mut.follows.holds after).3 (subst IsSome there refl) in
    let made : after ≡ combine_all c.args.items.now c.in-Some.found.now c.args.cells =
    c.from_seq-in-Some.ensures ∙ c.in_ok-after-in-Some.ensures ∙ ap (λ before. combine_all c.args.items.now before c.args.cells) (c.into_seq.ensures ∙ c.replace-before.ensures.value) in
    added_more c.args.items.now c.args.cells c.args.key q _ _ c.in-Some.found.now after (writes.0 q) made
    (λ same. sym (lookup-same c.args.groups.now.entries c.args.key q same) ∙ sym there)

pub returns-in_ok-insert-in-None : goal.returns-in_ok-insert-in-None
returns-in_ok-insert-in-None c = λ q.
    let there = c.in-None.ensures.value in
    let at_key = c.in_ok-insert-in-None.ensures.updates.0 q
    ∙ ap (λ m. cond (is_same_key c.args.key q) (Some c.from_seq-in-None.result) (get rising m q)) c.get_mut.follows.holds-at-none
    ∙ ap (λ (l : List Cell). cond (is_same_key c.args.key q) (Some l) (get rising c.args.groups.now q)) c.from_seq-in-None.ensures in
    added_new c.args.items.now c.args.cells c.args.key q _ _ at_key (λ same. sym (lookup-same c.args.groups.now.entries c.args.key q same) ∙ sym there)
