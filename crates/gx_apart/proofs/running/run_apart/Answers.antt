use Rattle.std.proofs.Common.{◌≡◌, ◌∙◌, List, ap, rules, subst, sym}
use Rattle.std.specs.Prelude.{map}
use Rattle.gx_script.specs.declared.Script.{Script}
use Rattle.gx_store.specs.declared.run.Step.{Step}
use Rattle.gx_law_merge.specs.Merge.{DoFit, IsMergeOf}
use Rattle.gx_law_runs.specs.Reached.{IsReached}
use Rattle.gx_cells.proofs.Failures.{ended-few, new-firsts}
use Rattle.gx_cells.proofs.Tables.{ended-tables}
use Rattle.gx_cells.specs.Closed.{AreFailuresFew}
use Rattle.gx_cells.specs.CoordViews.{CoordView}
use Rattle.gx_apart.proofs.Making.{TellsNone, TellsSome, made-of}
use Rattle.gx_apart.proofs.running.run_apart.Goals as goal

pub returns-clause-made : goal.returns-clause-made
returns-clause-made g c =
    let script : Script = c.args.script.now.value in
    let cells = c.drive.new.cells in
    let b = c.unfinished-unfinished.result in
    let closed = c.in_ok-closed.closed in
    let is = c.in_ok-closed.ensures in
    let steps = c.in_ok-run.run'.steps in
    let histories = map (λ h. h.steps) closed.histories.items in
    let merged = map (λ h. h.steps) c.as_slice.result.now in
    let of : cells.coord.script ≡ script = search rules in
    let same : merged ≡ histories = ap (map (λ h. h.steps)) c.as_slice.ensures.value in
    let reached : IsReached script steps = subst (λ (s : Script). IsReached s steps) c.deref-2.ensures c.in_ok-run.ensures.reached in
    let none : TellsNone cells.coord b = subst (λ (v : CoordView). TellsNone v b) c.coord.ensures c.unfinished-unfinished.ensures.none in
    let some : TellsSome cells.coord b = subst (λ (v : CoordView). TellsSome v b) c.coord.ensures c.unfinished-unfinished.ensures.some in
    made-of script c.requires.language cells.coord cells.segments of steps (map g.J.Journal.shelf closed.journals.items) b
    (record {
      fit = subst (DoFit cells.coord.script) is.histories is.fit;
      merge = subst (λ (hs : List (List Step)). IsMergeOf hs steps) (same ∙ is.histories) c.in_ok-run.ensures.merge;
      reached = subst (λ (s : Script). IsReached s steps) (sym of) reached;
      holds = is.holds.coordinator;
      shelved = is.journals;
      items = is.items;
      starts = is.starts;
      none = none is.unspent.0;
      some = some is.unspent.0;
    })

pub returns-clause-failures : goal.returns-clause-failures
returns-clause-failures g c =
    let script : Script = c.args.script.now.value in
    let first = c.in_ok-cells.cells in
    let cells = c.drive.new.cells in
    let closed = c.in_ok-closed.closed in
    let is = c.in_ok-closed.ensures in
    let steps = c.in_ok-run.run'.steps in
    let shelf = g.J.Journal.shelf in
    let histories = map (λ h. h.steps) closed.histories.items in
    let merged = map (λ h. h.steps) c.as_slice.result.now in
    let of : cells.coord.script ≡ script = search rules in
    let same : merged ≡ histories = ap (map (λ h. h.steps)) c.as_slice.ensures.value in
    let merge = subst (λ (hs : List (List Step)). IsMergeOf hs steps) same c.in_ok-run.ensures.merge in
    let firsts = c.drive.ensures.1 ∙ new-firsts shelf c.args.journal c.args.journals.items _ first.coord first.segments c.in_ok-cells.ensures.new c.in_ok-cells.ensures.journals in
    subst (λ l. AreFailuresFew steps l (map shelf closed.journals.items)) firsts
    (ended-few cells.coord cells.segments script c.requires.language of is.failures histories is.histories is.fit steps merge (map shelf closed.journals.items) is.journals)

pub returns-clause-rows : goal.returns-clause-rows
returns-clause-rows g c =
    let script : Script = c.args.script.now.value in
    let cells = c.drive.new.cells in
    let closed = c.in_ok-closed.closed in
    let is = c.in_ok-closed.ensures in
    let steps = c.in_ok-run.run'.steps in
    let histories = map (λ h. h.steps) closed.histories.items in
    let merged = map (λ h. h.steps) c.as_slice.result.now in
    let of : cells.coord.script ≡ script = search rules in
    let same : merged ≡ histories = ap (map (λ h. h.steps)) c.as_slice.ensures.value in
    let merge = subst (λ (hs : List (List Step)). IsMergeOf hs steps) same c.in_ok-run.ensures.merge in
    ended-tables cells.coord cells.segments script c.requires.language of is.holds histories is.histories is.fit steps merge c.in_ok-tables.tables.items c.in_ok-tables.ensures.rows
