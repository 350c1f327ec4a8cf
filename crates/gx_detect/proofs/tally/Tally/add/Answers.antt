use Rattle.std.proofs.Common.{◌≡◌, ◌<◌, ◌+◌, ◌^◌, ◌∙◌, sym, subst}
use Rattle.gx_detect.specs.declared.place.Place.{Place}
use Rattle.gx_detect.specs.declared.place.Place.TheVariants.{Anywhere, At, Awaited}
use Rattle.gx_detect.proofs.tally.Tally.add.Goals as goal

pub raise-requires-2 : goal.raise-requires-2
raise-requires-2 c =
    let e = c.args.edge.now in
    let there : Place = At e.node e.edge.waiter in
    let anywhere : Place = Anywhere e.edge.waiter in
    subst (λ k. k + 1 < 2 ^ 64) (sym (c.in_ok-raise.ensures.elsewhere there (λ (s : there ≡ anywhere). cc))) (c.requires there)

pub raise-requires-3 : goal.raise-requires-3
raise-requires-3 c =
    let e = c.args.edge.now in
    let there : Place = At e.node e.edge.waiter in
    let anywhere : Place = Anywhere e.edge.waiter in
    let awaited : Place = Awaited e.edge.holder in
    subst (λ k. k + 1 < 2 ^ 64)
    (sym (c.in_ok-raise-2.ensures.elsewhere awaited (λ (s : awaited ≡ there). cc) ∙ c.in_ok-raise.ensures.elsewhere awaited (λ (s : awaited ≡ anywhere). cc)))
    (c.requires awaited)
