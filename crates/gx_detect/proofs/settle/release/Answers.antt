use Rattle.std.proofs.Common.{◌≡◌, ◌≤◌, ◌∙◌, sym, subst, ℕ, arith}
use Rattle.std.specs.Prelude.{Contains}
use Rattle.gx_detect.specs.Reducing.{AreTakenOut}
use Rattle.gx_detect.specs.Tally.{count_at}
use Rattle.gx_detect.specs.Wants.{needing}
use Rattle.gx_detect.proofs.Following.{noted_after, place_followed}
use Rattle.gx_detect.proofs.Marks.{get_below}
use Rattle.gx_detect.proofs.settle.release.Goals as goal

empty : (k : ℕ) → k ≤ 0 → k ≡ 0
empty k l = omega arith

pub take_out_all-requires-clause-indexes : goal.take_out_all-requires-clause-indexes
take_out_all-requires-clause-indexes c = λ k h. let o = c.requires.listed.no_others c.args.place k (subst (λ l. Contains l k) c.at.ensures h) in get_below c.args.edges.now k o.0 o.1

pub returns-clause-noted : goal.returns-clause-noted
returns-clause-noted c =
    let taken : AreTakenOut c.args.edges.now (needing c.args.wants.now c.args.place) c.args.rest.now c.take_out_all.new.rest =
    subst (λ l. AreTakenOut c.args.edges.now l c.args.rest.now c.take_out_all.new.rest) c.at.ensures c.in_ok-take_out_all.ensures.out in
    noted_after c.args.edges.now c.args.wants.now c.requires.listed c.args.place c.args.rest.now c.take_out_all.new.rest c.requires.counted taken c.requires.noted

pub returns-clause-followed : goal.returns-clause-followed
returns-clause-followed c =
    let taken : AreTakenOut c.args.edges.now (needing c.args.wants.now c.args.place) c.args.rest.now c.take_out_all.new.rest =
    subst (λ l. AreTakenOut c.args.edges.now l c.args.rest.now c.take_out_all.new.rest) c.at.ensures c.in_ok-take_out_all.ensures.out in
    let none : count_at c.args.rest.now.tally c.args.place ≡ 0 = sym c.count.ensures ∙ empty c.count.result c.if-count-gt0.false in
    place_followed c.args.edges.now c.args.wants.now c.requires.listed c.args.place c.args.rest.now c.take_out_all.new.rest c.requires.counted taken none
