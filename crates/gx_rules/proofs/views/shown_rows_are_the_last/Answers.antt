use Rattle.std.proofs.Common.{ap, ◌∙◌}
use Rattle.gx_rules.specs.Last.{counting, row_of}
use Rattle.gx_rules.proofs.KeptImages.{image_in-last_images, in_order-last_images}
use Rattle.gx_rules.proofs.ShownRows.{rising-rows_in, row_at-rows_in}
use Rattle.gx_rules.specs.Shown.{last_images}
use Rattle.gx_rules.proofs.views.shown_rows_are_the_last.Goals as goal

pub returns-clause-rising : goal.returns-clause-rising
returns-clause-rising c = λ s snapshot g n table. rising-rows_in (last_images (counting s snapshot g n table)) (in_order-last_images (counting s snapshot g n table))

pub returns-clause-images : goal.returns-clause-images
returns-clause-images c = λ s snapshot g n table rid.
    row_at-rows_in (last_images (counting s snapshot g n table)) rid (in_order-last_images (counting s snapshot g n table))
    ∙ ap row_of (image_in-last_images (counting s snapshot g n table) rid)
