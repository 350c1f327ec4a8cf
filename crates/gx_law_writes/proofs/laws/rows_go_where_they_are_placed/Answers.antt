use Rattle.gx_rules.specs.Machine.{world_of}
use Rattle.gx_store.specs.Points.{marks_in}
use Rattle.gx_law_order.proofs.Legality.{orders-are}
use Rattle.gx_law_writes.proofs.Plans.{pieces-are}
use Rattle.gx_law_writes.proofs.laws.rows_go_where_they_are_placed.Goals as goal

pub returns : goal.returns
returns c = λ script events some numbered. pieces-are script (marks_in (world_of script events).steps) (world_of script events).sent (orders-are script some events numbered)
