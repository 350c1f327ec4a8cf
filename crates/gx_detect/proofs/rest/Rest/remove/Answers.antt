use Rattle.std.proofs.Common.{◌≡◌, ◌∙◌, ◌+◌, ◌≤◌, ap, sym, subst, get_or, set, false, length, arith}
use Rattle.gx_detect.specs.declared.place.Place.{Place}
use Rattle.gx_detect.specs.declared.place.Place.TheVariants.{Anywhere, At, Awaited}
use Rattle.gx_detect.specs.Place.{bit, waits_in}
use Rattle.gx_detect.specs.Tally.{count_at}
use Rattle.gx_detect.proofs.Marks.{get_at, no_edge}
use Rattle.gx_detect.proofs.Removing.{one_out, still_counted, was_counted}
use Rattle.gx_detect.proofs.rest.Rest.remove.Goals as goal

pub remove-requires : goal.remove-requires
remove-requires c =
    was_counted c.args.edges.now c.args.self.now c.args.index (get_or c.args.edges.now c.args.index no_edge) c.requires.counted
    (get_at c.args.edges.now c.args.index no_edge c.requires.index) c.requires.left

pub returns-clause-counted : goal.returns-clause-counted
returns-clause-counted c =
    let e = get_or c.args.edges.now c.args.index no_edge in
    let new = c.free-3.new.self in
    let marks : new.marks.items ≡ set c.args.self.now.marks.items c.args.index false = ap (λ v. v.items) (c.free-3.ensures.marks ∙ c.free-2.ensures.marks ∙ c.free.ensures.marks) in
    let tally = c.free-3.ensures.tally ∙ c.free-2.ensures.tally ∙ c.free.ensures.tally in
    still_counted c.args.edges.now c.args.self.now new c.args.index e (get_at c.args.edges.now c.args.index no_edge c.requires.index) c.requires.left c.requires.counted marks
    (subst (λ t. (p : Place) → count_at t p + bit (waits_in p e) ≡ count_at c.args.self.now.tally p) (sym tally) c.remove.ensures)

pub returns-clause-out : goal.returns-clause-out
returns-clause-out c =
    let e = get_or c.args.edges.now c.args.index no_edge in
    let new = c.free-3.new.self in
    let marks : new.marks.items ≡ set c.args.self.now.marks.items c.args.index false = ap (λ v. v.items) (c.free-3.ensures.marks ∙ c.free-2.ensures.marks ∙ c.free.ensures.marks) in
    let tally = c.free-3.ensures.tally ∙ c.free-2.ensures.tally ∙ c.free.ensures.tally in
    let anywhere : Place = Anywhere e.edge.waiter in
    let there : Place = At e.node e.edge.waiter in
    let awaited : Place = Awaited e.edge.holder in
    let a = c.in_ok-free.ensures.one in let b = c.in_ok-free-2.ensures.one in let d = c.in_ok-free-3.ensures.one in
    let short : length new.freed.items ≤ length c.args.self.now.freed.items + 3 = omega arith in
    one_out c.args.edges.now c.args.self.now new c.args.index e (get_at c.args.edges.now c.args.index no_edge c.requires.index) c.requires.left c.requires.counted marks
    (subst (λ t. (p : Place) → count_at t p + bit (waits_in p e) ≡ count_at c.args.self.now.tally p) (sym tally) c.remove.ensures)
    (λ p h. c.in_ok-free-3.ensures.still_freed p (c.in_ok-free-2.ensures.still_freed p (c.in_ok-free.ensures.still_freed p h))) short
    (λ z. c.in_ok-free-3.ensures.still_freed anywhere (c.in_ok-free-2.ensures.still_freed anywhere (c.in_ok-free.ensures.there (ap (λ t. count_at t anywhere) (sym tally) ∙ z))))
    (λ z. c.in_ok-free-3.ensures.still_freed there (c.in_ok-free-2.ensures.there (ap (λ t. count_at t there) (c.free.ensures.tally ∙ sym tally) ∙ z)))
    (λ z. c.in_ok-free-3.ensures.there (ap (λ t. count_at t awaited) (c.free-2.ensures.tally ∙ c.free.ensures.tally ∙ sym tally) ∙ z))
