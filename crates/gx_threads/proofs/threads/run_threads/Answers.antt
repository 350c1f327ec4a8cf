use Rattle.std.proofs.Common.{◌∙◌, subst}
use Rattle.std.specs.Prelude.{map}
use Rattle.std.proofs.lemmas.Result.{IfOk-weaker}
use Rattle.gx_script.specs.declared.Script.{Script}
use Rattle.gx_store.specs.Groups.{AlwaysKeepsSlots, BeginAsAsked}
use Rattle.gx_store.specs.Points.{marks_in}
use Rattle.gx_store.specs.Whole.{AreInsertsWhole}
use Rattle.gx_law_runs.specs.Reached.{IsReached}
use Rattle.gx_threads.proofs.Ending.{reached-system}
use Rattle.gx_cells.proofs.Failures.{new-firsts}
use Rattle.gx_cells.specs.Closed.{AreFailuresFew}
use Rattle.gx_threads.proofs.Failures.{same-firsts}
use Rattle.gx_threads.proofs.threads.run_threads.Goals as goal

pub returns-clause-system : goal.returns-clause-system
returns-clause-system g c = IfOk-weaker c.ended.result _ _ (λ end reached. reached-system c.args.script.value c.requires.language end.run.steps (subst (λ x. IsReached x end.run.steps) c.deref-4.ensures reached)) c.ended.ensures.reached

pub returns-clause-failures : goal.returns-clause-failures
returns-clause-failures g c =
    let old = c.in_ok-cells.cells in
    let new = c.in_ok-cells-2.cells in
    let firsts = same-firsts old.coord new.coord old.segments new.segments c.in_ok-cells-2.ensures.same
    ∙ new-firsts g.J.Journal.shelf c.args.journal c.args.journals.items _ old.coord old.segments c.in_ok-cells.ensures.new c.in_ok-cells.ensures.journals in
    IfOk-weaker c.ended.result _ _ (λ end. subst (λ l. AreFailuresFew end.run.steps l (map g.J.Journal.shelf end.journals.items)) firsts) c.ended.ensures.failures

pub returns-clause-slots : goal.returns-clause-slots
returns-clause-slots g c =
    IfOk-weaker c.ended.result _ _ (λ end kept. subst (λ (x : Script). AreInsertsWhole x.tables x.lines → AlwaysKeepsSlots x (marks_in end.run.steps)) c.deref-4.ensures kept) c.ended.ensures.slots

pub returns-clause-queued : goal.returns-clause-queued
returns-clause-queued g c =
    IfOk-weaker c.ended.result _ _ (λ end kept. subst (λ (x : Script). AreInsertsWhole x.tables x.lines → BeginAsAsked x end.run.steps) c.deref-4.ensures kept) c.ended.ensures.queued
