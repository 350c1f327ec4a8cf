use Rattle.std.proofs.Common.{◌≡◌, ◌∙◌, ap, not, rules, subst, sym, true}
use Rattle.std.proofs.lemmas.List.{length-map}
use Rattle.std.specs.Prelude.{map}
use Rattle.gx_outside.specs.Memory.{shelf_of}
use Rattle.gx_script.specs.declared.Script.{Script}
use Rattle.gx_apart.specs.Made.{IsMade}
use Rattle.gx_judge.proofs.apart.made_in_threads.Goals as goal

pub returns-clause-made : goal.returns-clause-made
returns-clause-made g c =
    let e = c.in_ok-end.ensures in
    let end = c.in_ok-end.end in
    let of : c.in_ok-shared.shared.value ≡ c.args.script.now.value = search rules in
    subst (λ (s : Script). IsMade s end.run.steps true (map shelf_of end.journals.items)) of
    (record {
      histories = map (λ h. h.steps) end.histories.items;
      fit = e.fit;
      merge = e.merge;
      reached = e.reached;
      nodes = length-map end.journals.items shelf_of ∙ e.count;
      held = e.held;
      whole = ap not (sym e.finished);
      starts = e.starts;
      slots = e.slots;
      queued = e.queued;
    })
