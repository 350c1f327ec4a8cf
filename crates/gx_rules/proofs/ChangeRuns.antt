-- Each run begins as that of the INSERT alone.
use Rattle.std.proofs.Common.{◌≡◌, ℕ, suc, ap, refl, subst, sym}
use Rattle.gx_rules.specs.ChangeRuns.{KeepsImages, RefusesChanged, SecondWaits, SkipsGone, changed_row, changed_row_run, gone_rows, gone_rows_run, old_images, old_images_run, second_update, second_update_run}
use Rattle.gx_rules.specs.Machine.{new_world}
use Rattle.gx_rules.specs.Rows.{drives, never}
use Rattle.gx_rules.proofs.Runs.{first_world, starts-two_rows}

drives-second : (n : ℕ) → drives (suc n) second_update never new_world ≡ drives n second_update never first_world
drives-second n = ap (drives n second_update never) starts-two_rows

pub second_waits : SecondWaits second_update_run
second_waits = subst SecondWaits (sym (drives-second 59)) (record { story = refl; resumed = refl })

drives-gone : (n : ℕ) → drives (suc n) gone_rows never new_world ≡ drives n gone_rows never first_world
drives-gone n = ap (drives n gone_rows never) starts-two_rows

pub skips_gone : SkipsGone gone_rows_run
skips_gone = subst SkipsGone (sym (drives-gone 58)) (record { story = refl; resumed = refl; first = refl; second = refl })

drives-changed : (n : ℕ) → drives (suc n) changed_row never new_world ≡ drives n changed_row never first_world
drives-changed n = ap (drives n changed_row never) starts-two_rows

pub refuses_changed : RefusesChanged changed_row_run
refuses_changed = subst RefusesChanged (sym (drives-changed 56)) (record { story = refl; resumed = refl })

drives-old : (n : ℕ) → drives (suc n) old_images never new_world ≡ drives n old_images never first_world
drives-old n = ap (drives n old_images never) starts-two_rows

pub keeps_images : KeepsImages old_images_run
keeps_images = subst KeepsImages (sym (drives-old 78)) (record { story = refl; resumed = refl })
