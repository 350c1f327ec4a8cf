use Rattle.std.proofs.Common.{◌≡◌, drop, length}
use Rattle.gx_store.specs.Writes.{set_from}
use Rattle.gx_slices.specs.Setting.{AreSettable}
use Rattle.gx_slices.proofs.setting.set_all.Given as goal

abbrev pub invariant-loop-assign : goal.invariant-loop-assign
invariant-loop-assign l =
    (set_from l.old l.values.items (drop l.assign-index l.assigns) ≡ set_from l.old l.fn.values.items l.assigns) ×
    (length l.values.items ≡ length l.old) ×
    AreSettable l.old (drop l.assign-index l.assigns)
