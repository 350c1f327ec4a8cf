use Rattle.std.proofs.Common.{rules, ◌≡◌, ◌∙◌, [], ap, subst, sym}
use Rattle.gx_agenda.specs.OwnSlots.{AreOwnSlots}
use Rattle.gx_script.specs.declared.Script.{Script}
use Rattle.gx_cells.proofs.MoreHeard.{new-coord}
use Rattle.gx_cells.proofs.coord_cell.CoordCell.new.Goals as goal

pub invariant_of-result : goal.invariant_of-result
invariant_of-result g c =
    let script = c.args.script in
    let coord = c.in_ok-coord.coord in
    let faults : script.value.faults ≡ c.as_slice.result.now = sym (c.as_slice.ensures ∙ ap (λ (s : Script). s.faults) c.deref.ensures) in
    let same : coord.script.value ≡ script.value = search rules in
    let deref : c.deref-2.result.now ≡ script.value = search rules in (
      c.in_ok-faults.ensures script.value faults,
      λ u.
          new-coord (record { alloc = c.args.alloc; script = script; first = c.faults-first.result; steps = c.new-4.result; outs = c.args.outs; slots = c.in_ok-slots.slots }) c.args.inboxes.items coord (g.J.Journal.shelf c.args.journal) same c.in_ok-coord.ensures.fresh
          c.in_ok-coord.ensures.new c.new-4.ensures c.requires.blank c.faults-first.ensures c.requires.outs c.requires.ins c.requires.sent c.requires.received (subst (λ (s : Script). AreOwnSlots s [] c.in_ok-slots.slots) deref c.in_ok-slots.ensures),
    )
