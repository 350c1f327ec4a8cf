use Rattle.gx_locks.proofs.Meets.{Meets_from_test, test_from_Meets}
use Rattle.gx_locks.proofs.laws.meets_is_tested.Goals as goal

pub returns : goal.returns
returns c = λ claim hold. (Meets_from_test claim hold, test_from_Meets claim hold)
