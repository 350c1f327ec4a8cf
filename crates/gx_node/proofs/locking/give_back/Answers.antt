use Rattle.std.proofs.Common.{◌∙◌, ◌++◌, List, ap, filter, map, sym}
use Rattle.std.proofs.lemmas.List.{append_assoc, map-append}
use Rattle.gx_waits.specs.Claims.{is_of}
use Rattle.gx_locks.specs.Holds.{claims_of}
use Rattle.gx_meaning.specs.Order.{in_order}
use Rattle.gx_rules.specs.Locks.{claim_order, release_mark}
use Rattle.gx_store.specs.declared.mark.Mark.{Mark}
use Rattle.gx_waits.specs.declared.claim.Claim.{Claim}
use Rattle.gx_node.proofs.locking.give_back.Goals as goal

pub returns-clause-marks : goal.returns-clause-marks
returns-clause-marks c =
    let mark = release_mark c.args.node in
    let waits = filter (is_of c.args.gxid) c.args.locks.now.waits in
    let holds = in_order claim_order (filter (is_of c.args.gxid) c.args.locks.now.holds) in
    let before = c.args.marks.now.items in
    c.in_ok-push_holds.ensures
    ∙ ap (λ (claims : List Claim). c.push_dropped.new.marks.items ++ map mark claims) (ap claims_of c.as_slice.ensures ∙ c.in_ok-sort_holds.ensures ∙ ap (in_order claim_order) c.take_all-given.ensures.taken)
    ∙ ap (λ (ms : List Mark). ms ++ map mark holds) (c.in_ok-push_dropped.ensures ∙ ap (λ (claims : List Claim). before ++ map mark (filter (is_of c.args.gxid) claims)) c.waits.ensures.value)
    ∙ append_assoc before (map mark waits) (map mark holds)
    ∙ ap (λ (ms : List Mark). before ++ ms) (sym (map-append mark waits holds))
