use Rattle.gx_store.proofs.RefusedAsking.{not-written}
use Rattle.gx_store.proofs.refused_asking.written_behind_done.Goals as goal

pub returns : goal.returns
returns c = λ script assigns cond snapshot rid image. not-written script assigns cond snapshot rid image
