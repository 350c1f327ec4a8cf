-- Two sessions of a group with one slot, of which one follows the other.
use Rattle.std.specs.Prelude.{List, [], ◌∷◌, Some}
use Rattle.gx_ids.specs.declared.ids.Gxid.{Gxid}
use Rattle.gx_ids.specs.declared.ids.SessionId.{SessionId}
use Rattle.gx_groups.specs.Calls.{fresh_table}
use Rattle.gx_groups.specs.Table.{Table}
use Rattle.gx_store.specs.declared.answer.StmtAnswer.TheVariants as answer
use Rattle.gx_store.specs.declared.mark.Mark.{Mark}
use Rattle.gx_store.specs.declared.mark.Mark.TheVariants as mark
use Rattle.gx_store.specs.Groups.{all_asking, slots_through}

abbrev pub first : SessionId
first = record { 0 = 0 }

abbrev pub second : SessionId
second = record { 0 = 1 }

-- the transaction of the first
abbrev pub transaction : Gxid
transaction = record { 0 = 1 }

-- both have asked, the first before the other
abbrev pub asked : Table
asked = all_asking (fresh_table (1 ∷ []) (Some 0 ∷ Some 0 ∷ [])) (first ∷ second ∷ [])

-- what gives the first its slot, and what takes that from it again
abbrev pub beginning : List Mark
beginning = mark.Start transaction first ∷ []

abbrev pub ending : Mark
ending = mark.Commit transaction

abbrev pub failing : Mark
failing = mark.Abort transaction

-- a line of the first is answered
abbrev pub answering : Mark
answering = mark.Answer first 1 answer.Locked

-- where marks lead
abbrev pub behind : List Mark → Table
behind marks = slots_through [] asked marks
