use Rattle.std.proofs.Common.{◌≡◌, drop}
use Rattle.gx_store.specs.Writes.{set_from}
use Rattle.gx_legal.proofs.setting.set_all.Given as goal

abbrev pub invariant-loop-assign : goal.invariant-loop-assign
invariant-loop-assign l = set_from l.old l.new.items (drop l.assign-index l.assigns) ≡ set_from l.old l.fn.new.items l.assigns
