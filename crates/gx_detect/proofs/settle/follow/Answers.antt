use Rattle.std.proofs.Common.{◌≡◌, ◌+◌, ◌∙◌, ap, sym, subst, refl, ◌++◌, ◌∷◌, [], length, arith}
use Rattle.std.proofs.lemmas.List.{length-append}
use Rattle.std.specs.Prelude.{IfSome, IfNone}
use Rattle.gx_detect.specs.Reducing.{left_of, rest_of}
use Rattle.gx_detect.proofs.Following.{all_done, more_followed, none_followed, noted_but_last, done_same}
use Rattle.gx_detect.proofs.Removing.{counted_same}
use Rattle.gx_detect.proofs.settle.follow.Goals as goal

pub loop-place-init : goal.loop-place-init
loop-place-init c = record { counted = c.requires.counted; noted = c.requires.noted; followed = none_followed c.args.wants.now.aim c.args.edges.now c.args.rest.now c.args.rest.now refl }

pub release-requires-clause-counted : goal.release-requires-clause-counted
release-requires-clause-counted c = counted_same c.args.edges.now c.loop-place.rest c.next_freed.new.self c.next_freed.ensures.marks c.next_freed.ensures.tally c.loop-place.invariant.counted

pub release-requires-clause-noted : goal.release-requires-clause-noted
release-requires-clause-noted c =
    noted_but_last c.args.wants.now.aim c.args.edges.now c.in-Some.place c.loop-place.rest c.next_freed.new.self c.loop-place.invariant.noted c.next_freed.ensures.marks c.next_freed.ensures.tally
    (subst (λ o. IfSome o (λ place. c.loop-place.rest.freed.items ≡ c.next_freed.new.self.freed.items ++ place ∷ [])) c.in-Some.is c.next_freed.ensures.place)

pub loop-place-preserved : goal.loop-place-preserved
loop-place-preserved c =
    let aim = c.args.wants.now.aim in
    let edges = c.args.edges.now in
    record {
      counted = c.in_ok-release.ensures.counted;
      noted = c.in_ok-release.ensures.noted;
      followed = more_followed aim edges c.args.rest.now c.next_freed.new.self c.release.new.rest
          (more_followed aim edges c.args.rest.now c.loop-place.rest c.next_freed.new.self c.loop-place.invariant.followed
          (none_followed aim edges c.loop-place.rest c.next_freed.new.self (ap (λ m. left_of edges m.items) (sym c.next_freed.ensures.marks))))
          c.in_ok-release.ensures.followed;
    }

pub loop-place-smaller : goal.loop-place-smaller
loop-place-smaller c =
    let edges = c.args.edges.now in
    let mid = c.next_freed.new.self in
    let popped : c.loop-place.rest.freed.items ≡ mid.freed.items ++ c.in-Some.place ∷ [] =
    subst (λ o. IfSome o (λ place. c.loop-place.rest.freed.items ≡ mid.freed.items ++ place ∷ [])) c.in-Some.is c.next_freed.ensures.place in
    let short : length c.loop-place.rest.freed.items ≡ length mid.freed.items + 1 = ap length popped ∙ length-append mid.freed.items (c.in-Some.place ∷ []) in
    let same : length (rest_of edges c.loop-place.rest) ≡ length (rest_of edges mid) = ap (λ m. length (left_of edges m.items)) (sym c.next_freed.ensures.marks) in
    let work = c.in_ok-release.ensures.work in
    omega arith

pub returns-clause-counted : goal.returns-clause-counted
returns-clause-counted c = counted_same c.args.edges.now c.loop-place.rest c.next_freed.new.self c.next_freed.ensures.marks c.next_freed.ensures.tally c.loop-place.invariant.counted

pub returns-clause-done : goal.returns-clause-done
returns-clause-done c =
    done_same c.args.wants.now.aim c.args.edges.now c.loop-place.rest c.next_freed.new.self c.next_freed.ensures.marks c.next_freed.ensures.tally
    (all_done c.args.wants.now.aim c.args.edges.now c.loop-place.rest c.loop-place.invariant.noted
    (subst (λ o. IfNone o (c.loop-place.rest.freed.items ≡ [])) c.in_default.is c.next_freed.ensures.none))

pub returns-clause-followed : goal.returns-clause-followed
returns-clause-followed c =
    let edges = c.args.edges.now in
    more_followed c.args.wants.now.aim edges c.args.rest.now c.loop-place.rest c.next_freed.new.self c.loop-place.invariant.followed
    (none_followed c.args.wants.now.aim edges c.loop-place.rest c.next_freed.new.self (ap (λ m. left_of edges m.items) (sym c.next_freed.ensures.marks)))
