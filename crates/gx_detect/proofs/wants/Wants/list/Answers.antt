use Rattle.std.proofs.Common.{◌≡◌, ◌≢◌, ◌∙◌, ◌++◌, ◌∷◌, [], sym, subst}
use Rattle.gx_detect.specs.declared.place.Place.{Place}
use Rattle.gx_detect.specs.Wants.{needing}
use Rattle.gx_detect.proofs.Listed.{listed_core, listed_stuck}
use Rattle.gx_detect.proofs.wants.Wants.list.Goals as goal

pub returns-in-Stuck : goal.returns-in-Stuck
returns-in-Stuck c =
    let old = c.args.self.now in
    let new = c.note.new.self in
    listed_stuck c.args.edge.now c.args.index old new (sym c.note.ensures.aim ∙ c.in-Stuck.is) c.note.ensures.aim
    (subst (λ q. needing new q ≡ needing old q ++ c.args.index ∷ []) c.needed_by.ensures c.in_ok-note.ensures.there)
    (subst (λ q. (p : Place) → p ≢ q → needing new p ≡ needing old p) c.needed_by.ensures c.in_ok-note.ensures.elsewhere)

pub returns-in_ok-note-in-Core : goal.returns-in_ok-note-in-Core
returns-in_ok-note-in-Core c =
    let old = c.args.self.now in
    let mid = c.note.new.self in
    let new = c.note-in-Core.new.self in
    listed_core c.args.edge.now c.args.index old mid new (sym c.note.ensures.aim ∙ c.in-Core.is) (c.note-in-Core.ensures.aim ∙ c.note.ensures.aim)
    (subst (λ q. needing mid q ≡ needing old q ++ c.args.index ∷ []) c.needed_by.ensures c.in_ok-note.ensures.there)
    (subst (λ q. (p : Place) → p ≢ q → needing mid p ≡ needing old p) c.needed_by.ensures c.in_ok-note.ensures.elsewhere)
    c.in_ok-note-in-Core.ensures.there c.in_ok-note-in-Core.ensures.elsewhere
