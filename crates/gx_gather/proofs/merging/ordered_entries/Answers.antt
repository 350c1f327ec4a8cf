use Rattle.std.proofs.Common.{◌∙◌, ap, filter}
use Rattle.gx_meaning.specs.Answer.{group_keys}
use Rattle.gx_meaning.specs.Order.{group_order, in_order}
use Rattle.gx_gather.specs.Answered.{is_answered}
use Rattle.gx_gather.proofs.Listed.{Entry}
use Rattle.gx_gather.proofs.Merges.{entries_ordered}
use Rattle.gx_gather.proofs.merging.ordered_entries.Goals as goal

pub returns : goal.returns
returns c =
    let columns = c.as_slice-columns.ensures in
    entries_ordered c.args.query.now _ c.in_ok-groups.groups.entries c.in_ok-entries.ensures.ordered c.in_ok-groups.ensures
    c.in_ok-entries.entries.items c.sort_entries.new.entries.items c.in_ok-places.places.items
    (c.in_ok-entries.ensures.listed ∙ ap (λ l. filter (λ (e : Entry). is_answered l e.0) c.in_ok-groups.groups.entries) columns)
    (c.in_ok-places.ensures ∙ ap (λ l. group_keys l c.as_slice.result.now) columns ∙ ap (group_keys c.args.query.now.group) c.as_slice.ensures)
    (c.in_ok-sort_entries.ensures ∙ ap (λ places. in_order (λ (a b : Entry). group_order places a.0 b.0) c.in_ok-entries.entries.items) c.as_slice-2.ensures.value)
