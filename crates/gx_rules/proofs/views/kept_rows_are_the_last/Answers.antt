use Rattle.std.proofs.Common.{filter}
use Rattle.gx_store.specs.Marks.{is_same_gxid}
use Rattle.gx_rules.proofs.KeptImages.{image_in-last_images, in_order-last_images}
use Rattle.gx_rules.proofs.views.kept_rows_are_the_last.Goals as goal

pub returns-clause-rising : goal.returns-clause-rising
returns-clause-rising c = λ s g. in_order-last_images (filter (λ v. is_same_gxid v.gxid g) s.versions)

pub returns-clause-images : goal.returns-clause-images
returns-clause-images c = λ s g rid. image_in-last_images (filter (λ v. is_same_gxid v.gxid g) s.versions) rid
