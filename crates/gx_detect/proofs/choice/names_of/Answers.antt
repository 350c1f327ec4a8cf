use Rattle.std.proofs.Common.{◌≡◌, ◌∙◌, ap, map, filter}
use Rattle.gx_detect.specs.declared.place.Aim.TheVariants.{Core}
use Rattle.gx_detect.specs.Core.{waiter_is_left}
use Rattle.gx_detect.specs.Settled.{left_in}
use Rattle.gx_detect.specs.Tally.{count_at}
use Rattle.gx_detect.proofs.CoreNames.{if_ok_weaker, are_named, gxid_of, waiter_number}
use Rattle.gx_detect.proofs.Following.{done_backed}
use Rattle.gx_detect.proofs.Marks.{left_of_among}
use Rattle.gx_detect.proofs.choice.names_of.Goals as goal

pub returns : goal.returns
returns c =
    let core = c.args.core.now in
    let s = c.requires in
    let n : c.in_ok-numbers.numbers.items ≡ map waiter_number (filter (waiter_is_left (count_at core.rest.tally)) core.edges.items) =
    c.in_ok-numbers.ensures ∙ ap (λ l. map waiter_number (filter (waiter_is_left (count_at core.rest.tally)) l)) c.deref.ensures.value in
    if_ok_weaker _ _ c.gxids.result
    (λ names g. are_named (left_in core) (done_backed Core core.edges.items core.rest s.counted s.done) (count_at core.rest.tally) s.counted.counts
    core.edges.items (left_of_among core.edges.items core.rest.marks.items) c.in_ok-numbers.numbers.items c.sort_once.new.numbers.items names.items n
    c.in_ok-sort_once.ensures.same c.in_ok-sort_once.ensures.rising (g ∙ ap (map gxid_of) c.deref-2.ensures.value))
    c.gxids.ensures
