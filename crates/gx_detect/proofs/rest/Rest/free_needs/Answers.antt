use Rattle.std.proofs.Common.{◌≡◌, ◌∙◌, ap, sym, subst, ⊎_elim}
use Rattle.std.specs.Prelude.{Contains}
use Rattle.gx_detect.specs.declared.place.Place.{Place}
use Rattle.gx_detect.specs.declared.place.Place.TheVariants.{Awaited}
use Rattle.gx_detect.specs.Place.{Needs, need_of}
use Rattle.gx_detect.specs.Tally.{count_at}
use Rattle.gx_detect.proofs.Counting.{ok_then}
use Rattle.gx_detect.proofs.rest.Rest.free_needs.Goals as goal

pub returns-in-Stuck-clause-freed : goal.returns-in-Stuck-clause-freed
returns-in-Stuck-clause-freed c = λ p needs none.
    let n : need_of c.args.edge.now ≡ p = subst (λ a. Needs a c.args.edge.now p) c.in-Stuck.is needs in
    let is = c.needed_by.ensures ∙ n in
    subst (λ q. Contains c.free.new.self.freed.items q) is (c.in_ok-free.ensures.there (subst (λ q. count_at c.args.self.now.tally q ≡ 0) (sym is) none))

pub returns-in-Core-clause-freed : goal.returns-in-Core-clause-freed
returns-in-Core-clause-freed c =
    let awaited : Place = Awaited c.args.edge.now.edge.waiter in
    ok_then c.free-in-Core.result (λ still there. λ p needs none.
    ⊎_elim
    (λ (n : need_of c.args.edge.now ≡ p).
    let is = c.needed_by.ensures ∙ n in
    still p (subst (λ q. Contains c.free.new.self.freed.items q) is (c.in_ok-free.ensures.there (subst (λ q. count_at c.args.self.now.tally q ≡ 0) (sym is) none))))
    (λ s. subst (λ q. Contains c.free-in-Core.new.self.freed.items q) s (there (ap (λ t. count_at t awaited) c.free.ensures.tally ∙ subst (λ q. count_at c.args.self.now.tally q ≡ 0) (sym s) none)))
    (subst (λ a. Needs a c.args.edge.now p) c.in-Core.is needs))
    c.free-in-Core.ensures.still_freed c.free-in-Core.ensures.there
