use Rattle.std.proofs.Common.{◌∙◌, ◌++◌, ◌∷◌, [], List, ap, subst, sym}
use Rattle.gx_agenda.specs.OwnSlots.{AreOwnSlots}
use Rattle.gx_store.specs.declared.run.Step.{Step}
use Rattle.gx_cells.proofs.Answers.{on_ok}
use Rattle.gx_cells.proofs.Last.{last-told, none-last}
use Rattle.gx_cells.proofs.spreading.tell_last.Goals as goal

pub returns-in-Some : goal.returns-in-Some
returns-in-Some c =
    on_ok c.note.result _ _ c.note.ensures
    (λ told before step is slots.
    subst (λ (ss : List Step). AreOwnSlots c.args.script.now ss c.note.new.self) (ap (λ (x : Step). before ++ x ∷ []) (last-told c.args.steps.now before step c.in-Some.step is (sym c.last.ensures ∙ c.in-Some.is)) ∙ sym is)
    (told before slots))

pub returns-in-None : goal.returns-in-None
returns-in-None c = λ before step is slots. absurd (none-last c.args.steps.now before step is (sym c.last.ensures ∙ c.in-None.is))
