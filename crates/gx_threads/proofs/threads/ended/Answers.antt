use Rattle.std.proofs.Common.{◌∙◌, ap, length, subst, sym}
use Rattle.std.proofs.lemmas.List.{length-map}
use Rattle.std.specs.Prelude.{map}
use Rattle.gx_law_merge.specs.Merge.{IsMergeOf}
use Rattle.gx_script.specs.declared.Script.{Script}
use Rattle.gx_cells.proofs.Failures.{ended-few}
use Rattle.gx_cells.proofs.Tables.{ended-tables}
use Rattle.gx_threads.proofs.Ending.{ended-count, ended-held, ended-others, ended-over, ended-queued, ended-slots, ended-starts}
use Rattle.gx_threads.proofs.threads.ended.Goals as goal

pub returns-clause-finished : goal.returns-clause-finished
returns-clause-finished g c =
    let e = c.in_ok-closed.ensures in
    let merge = subst (λ xs. IsMergeOf (map (λ h. h.steps) xs) c.in_ok-run.run'.steps) c.as_slice.ensures.value c.in_ok-run.ensures.merge in
    ended-over c.args.cells.coord c.args.cells.segments c.args.script.now c.requires.language c.requires.of _ e.histories e.fit c.in_ok-run.run'.steps merge e.holds.coordinator (c.requires.done e.unspent.0)

pub returns-clause-starts : goal.returns-clause-starts
returns-clause-starts g c =
    let e = c.in_ok-closed.ensures in
    let merge = subst (λ xs. IsMergeOf (map (λ h. h.steps) xs) c.in_ok-run.run'.steps) c.as_slice.ensures.value c.in_ok-run.ensures.merge in
    ended-starts c.args.cells.coord c.args.cells.segments c.args.script.now c.requires.language c.requires.of _ e.histories e.fit c.in_ok-run.run'.steps merge e.starts

pub returns-clause-count : goal.returns-clause-count
returns-clause-count g c =
    let e = c.in_ok-closed.ensures in
    let merge = subst (λ xs. IsMergeOf (map (λ h. h.steps) xs) c.in_ok-run.run'.steps) c.as_slice.ensures.value c.in_ok-run.ensures.merge in
    sym (length-map c.in_ok-closed.closed.journals.items g.J.Journal.shelf)
    ∙ ended-count c.args.cells.coord c.args.cells.segments c.args.script.now c.requires.language c.requires.of _ e.histories e.fit c.in_ok-run.run'.steps merge _ e.journals

pub returns-clause-others : goal.returns-clause-others
returns-clause-others g c =
    let e = c.in_ok-closed.ensures in
    let merge = subst (λ xs. IsMergeOf (map (λ h. h.steps) xs) c.in_ok-run.run'.steps) c.as_slice.ensures.value c.in_ok-run.ensures.merge in
    ended-others c.args.cells.coord c.args.cells.segments c.args.script.now c.requires.language c.requires.of _ e.histories e.fit c.in_ok-run.run'.steps merge

pub returns-clause-held : goal.returns-clause-held
returns-clause-held g c =
    let e = c.in_ok-closed.ensures in
    let merge = subst (λ xs. IsMergeOf (map (λ h. h.steps) xs) c.in_ok-run.run'.steps) c.as_slice.ensures.value c.in_ok-run.ensures.merge in
    ended-held c.args.cells.coord c.args.cells.segments c.args.script.now c.requires.language c.requires.of _ e.histories e.fit c.in_ok-run.run'.steps merge _ e.items

pub returns-clause-failures : goal.returns-clause-failures
returns-clause-failures g c =
    let e = c.in_ok-closed.ensures in
    let merge = subst (λ xs. IsMergeOf (map (λ h. h.steps) xs) c.in_ok-run.run'.steps) c.as_slice.ensures.value c.in_ok-run.ensures.merge in
    ended-few c.args.cells.coord c.args.cells.segments c.args.script.now c.requires.language c.requires.of e.failures _ e.histories e.fit c.in_ok-run.run'.steps merge _ e.journals

pub returns-clause-slots : goal.returns-clause-slots
returns-clause-slots g c =
    let e = c.in_ok-closed.ensures in
    let merge = subst (λ xs. IsMergeOf (map (λ h. h.steps) xs) c.in_ok-run.run'.steps) c.as_slice.ensures.value c.in_ok-run.ensures.merge in
    λ inserts. ended-slots c.args.cells.coord c.args.cells.segments c.args.script.now c.requires.language c.requires.of _ e.histories e.fit c.in_ok-run.run'.steps merge e.starts inserts

pub returns-clause-queued : goal.returns-clause-queued
returns-clause-queued g c =
    let e = c.in_ok-closed.ensures in
    let merge = subst (λ xs. IsMergeOf (map (λ h. h.steps) xs) c.in_ok-run.run'.steps) c.as_slice.ensures.value c.in_ok-run.ensures.merge in
    λ inserts. ended-queued c.args.cells.coord c.args.cells.segments c.args.script.now c.requires.language c.requires.of _ e.histories e.fit c.in_ok-run.run'.steps merge e.starts inserts

pub returns-clause-all : goal.returns-clause-all
returns-clause-all g c = c.in-Ok.ensures.all ∙ ap (λ (s : Script). length s.tables) c.requires.of

pub returns-clause-rows : goal.returns-clause-rows
returns-clause-rows g c =
    let e = c.in_ok-closed.ensures in
    let merge = subst (λ xs. IsMergeOf (map (λ h. h.steps) xs) c.in_ok-run.run'.steps) c.as_slice.ensures.value c.in_ok-run.ensures.merge in
    ended-tables c.args.cells.coord c.args.cells.segments c.args.script.now c.requires.language c.requires.of e.holds _ e.histories e.fit c.in_ok-run.run'.steps merge c.in-Ok.tables.items c.in-Ok.ensures.rows
