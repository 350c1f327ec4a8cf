use Rattle.std.proofs.Common.{arith, length}
use Rattle.gx_sql.proofs.Limited.{tuples-few}
use Rattle.gx_law_scripts.proofs.laws.inserts_have_no_more_tuples_than_bytes.Goals as goal

pub returns : goal.returns
returns c = λ bytes script read. tuples-few (length bytes) bytes script (omega arith) read
