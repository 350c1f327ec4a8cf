use Rattle.std.proofs.Common.{◌++◌, ◌∷◌, [], refl}
use Rattle.gx_locks.specs.Holds.{is_under}
use Rattle.gx_locks.specs.Index.{holds_at, places_at}
use Rattle.gx_locks.specs.declared.key.Key.TheVariants.{On, Of}
use Rattle.gx_locks.proofs.Keys.{both_apart, both_under, of_isnt_on, of_own, placed, under_own}
use Rattle.gx_locks.proofs.index.Index.file.Goals as goal

pub fill-requires : goal.fill-requires
fill-requires c =
    let claim = c.args.hold.claim in
    placed (is_under (On claim.object) claim) (places_at c.args.self.now (On claim.object)) _ (under_own claim) (c.requires (On claim.object)) refl

pub fill-requires-2 : goal.fill-requires-2
fill-requires-2 c =
    let claim = c.args.hold.claim in
    placed (is_under (Of claim.gxid) claim) (places_at c.args.self.now (Of claim.gxid)) _ (of_own claim) (c.requires (Of claim.gxid)) (c.fill.ensures.places_elsewhere (Of claim.gxid) (of_isnt_on claim.object claim.gxid))

pub returns-clause-there : goal.returns-clause-there
returns-clause-there c =
    both_under c.args.hold.claim (λ holds. holds ++ c.args.hold ∷ []) (holds_at c.args.self.now) (holds_at c.fill.new.self) (holds_at c.fill-2.new.self)
    c.fill.ensures.there c.fill.ensures.elsewhere c.fill-2.ensures.there c.fill-2.ensures.elsewhere

pub returns-clause-elsewhere : goal.returns-clause-elsewhere
returns-clause-elsewhere c =
    both_apart c.args.hold.claim (λ holds. holds ++ c.args.hold ∷ []) (holds_at c.args.self.now) (holds_at c.fill.new.self) (holds_at c.fill-2.new.self)
    c.fill.ensures.there c.fill.ensures.elsewhere c.fill-2.ensures.there c.fill-2.ensures.elsewhere
