use Rattle.std.proofs.Common.{ℕ, arith, length-drop}
use Rattle.std.proofs.Math.Seq.{take-add}
use Rattle.std.proofs.lemmas.List.{take_rest}
use Rattle.std.proofs.KnownBytes.{Appends-trans}
use Rattle.gx_outside.proofs.whole.write_whole.Goals as goal

pub loop-done-preserved : goal.loop-done-preserved
loop-done-preserved g c =
    let written = rw take_rest at c.in_ok-done.ensures.bytes in
    record {
      bytes = rw take-add (Appends-trans _ _ _ _ _ c.loop-done.invariant.bytes written);
      within = omega (arith, rw take_rest at c.in_ok-done.ensures.part, length-drop {A = ℕ});
      later = omega (arith, c.in_ok-done.ensures.cause.later);
    }
