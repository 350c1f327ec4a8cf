-- Kinds of marks.
use Rattle.std.specs.Prelude.{Bool, true, false}
use Rattle.gx_store.specs.declared.mark.Mark.{Mark}
use Rattle.gx_store.specs.declared.mark.Mark.TheVariants.{Start, Snap, Write, Skip, Fault, Commit, Abort, Answer, Hold, Wait, Release, Prepared, LocalCommit, Decided, JournalFailed, Restart, Sent, Report, Recheck}

-- of a transaction's course
abbrev pub is_of_transaction : Mark → Bool
is_of_transaction (Start g s) = true
is_of_transaction (Snap g c snapshot) = true
is_of_transaction (Skip g c rid) = true
is_of_transaction (Commit g) = true
is_of_transaction (Abort g) = true
is_of_transaction (Answer s number reply) = true
is_of_transaction _ = false

-- with a row's image
abbrev pub is_of_row : Mark → Bool
is_of_row (Write g c node table rid image) = true
is_of_row (Fault g c rid image) = true
is_of_row _ = false

-- of a lock that is granted or waited for
abbrev pub is_of_claim : Mark → Bool
is_of_claim (Hold node g object mode) = true
is_of_claim (Wait node g object mode) = true
is_of_claim _ = false

-- of what a node gives back, promises, decides or loses
abbrev pub is_of_node : Mark → Bool
is_of_node (Release node g object mode) = true
is_of_node (Prepared node g) = true
is_of_node (LocalCommit node g) = true
is_of_node (Decided g) = true
is_of_node (JournalFailed node g) = true
is_of_node (Restart node) = true
is_of_node _ = false

-- of a message or of the detector
abbrev pub is_of_message : Mark → Bool
is_of_message (Sent to number told) = true
is_of_message (Report node round graph) = true
is_of_message (Recheck round own verdict) = true
is_of_message _ = false
