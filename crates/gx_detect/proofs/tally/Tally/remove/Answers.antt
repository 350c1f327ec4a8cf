use Rattle.std.proofs.Common.{◌≡◌, ◌<◌, ◌∙◌, sym, subst}
use Rattle.gx_detect.specs.declared.place.Place.{Place}
use Rattle.gx_detect.specs.declared.place.Place.TheVariants.{Anywhere, At, Awaited}
use Rattle.gx_detect.proofs.Counting.{both-themselves, itself}
use Rattle.gx_detect.proofs.tally.Tally.remove.Goals as goal

pub lower-requires : goal.lower-requires
lower-requires c = let e = c.args.edge.now in c.requires (Anywhere e.edge.waiter) (itself e.edge.waiter.0)

pub lower-requires-2 : goal.lower-requires-2
lower-requires-2 c =
    let e = c.args.edge.now in
    let there : Place = At e.node e.edge.waiter in
    let anywhere : Place = Anywhere e.edge.waiter in
    subst (λ k. 0 < k) (sym (c.lower.ensures.elsewhere there (λ (s : there ≡ anywhere). cc))) (c.requires there (both-themselves e.node.0 e.edge.waiter.0))

pub lower-requires-3 : goal.lower-requires-3
lower-requires-3 c =
    let e = c.args.edge.now in
    let there : Place = At e.node e.edge.waiter in
    let anywhere : Place = Anywhere e.edge.waiter in
    let awaited : Place = Awaited e.edge.holder in
    subst (λ k. 0 < k)
    (sym (c.lower-2.ensures.elsewhere awaited (λ (s : awaited ≡ there). cc) ∙ c.lower.ensures.elsewhere awaited (λ (s : awaited ≡ anywhere). cc)))
    (c.requires awaited (itself e.edge.holder.0))
