use Rattle.std.proofs.Common.{◌≡◌, subst}
use Rattle.gx_detect.specs.Reducing.{IsCounted, IsDone, IsFollowed, rest_of}
use Rattle.gx_detect.proofs.Following.{largest}
use Rattle.gx_detect.proofs.reduced.Reduced.new.Goals as goal

pub returns-clause-largest : goal.returns-clause-largest
returns-clause-largest c =
    let edges = c.args.edges.items in
    let aim = c.args.aim in
    let old = c.in_ok-rest.rest in
    let new = c.follow.new.rest in
    let all : rest_of edges old ≡ edges = subst (λ es. rest_of es old ≡ es) c.deref-2.ensures.value c.in_ok-rest.ensures.all in
    largest aim edges old new all
    (subst (λ es. IsCounted es new) c.deref-3.ensures.value c.in_ok-follow.ensures.counted)
    (subst (λ a. IsDone a edges new) c.in_ok-wants.ensures.aim (subst (λ es. IsDone c.in_ok-wants.wants.aim es new) c.deref-3.ensures.value c.in_ok-follow.ensures.done))
    (subst (λ a. IsFollowed a edges old new) c.in_ok-wants.ensures.aim (subst (λ es. IsFollowed c.in_ok-wants.wants.aim es old new) c.deref-3.ensures.value c.in_ok-follow.ensures.followed))
