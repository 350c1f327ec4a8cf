use Rattle.std.proofs.Common.{◌≡◌, ◌∙◌, false, subst, sym}
use Rattle.gx_ids.specs.declared.ids.SessionId.{SessionId}
use Rattle.gx_coord.specs.Books.{coord_of}
use Rattle.gx_rules.specs.AtCoordinator.{is_unfinished_there}
use Rattle.gx_coord.proofs.Unfinished.{none-up-to}
use Rattle.gx_coord.proofs.finished.unfinished.Goals as goal

pub loop-place-preserved : goal.loop-place-preserved
loop-place-preserved c =
    let k = c.args.coord.now in
    none-up-to (λ id. is_unfinished_there k.script.value (coord_of k) id) c.loop-place.place c.loop-place.invariant
    (subst (λ (id : SessionId). is_unfinished_there k.script.value (coord_of k) id ≡ false) c.id_at.ensures (sym c.has_more.ensures ∙ c.if-has_more.false))
