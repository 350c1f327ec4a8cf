-- The name and the numbers of a message.
use Rattle.std.specs.Prelude.{ℕ, Bool, true, false, ◌||◌, if◌then◌else◌, List, [], ◌∷◌, ◌++◌, Option, Some, None, codes}
use Rattle.gx_ids.specs.declared.ids.Cid.{Cid}
use Rattle.gx_ids.specs.declared.ids.Gxid.{Gxid}
use Rattle.gx_trace.specs.Fields.{cid, count, gxid}
use Rattle.gx_trace.specs.Readers.{Front, behind, both, word}

-- something was read, and nothing is left
abbrev pub is_all : {A : Type 0} → Front A → Bool
is_all None = false
is_all (Some (a, [])) = true
is_all (Some (a, b ∷ bs)) = false

abbrev pub numbered : List ℕ → List ℕ → Front ℕ
numbered name = behind name count

abbrev pub commanded : List ℕ → List ℕ → Front (Gxid × Cid)
commanded name = behind name (both gxid cid)

-- a name and a number
abbrev pub is_numbered : List ℕ → List ℕ → Bool
is_numbered name bytes = is_all (numbered name bytes)

-- a name, a transaction and a command
abbrev pub is_of_command : List ℕ → List ℕ → Bool
is_of_command name bytes = is_all (commanded name bytes)

-- a command goes out, is done, or has failed
abbrev pub is_of_slice : List ℕ → Bool
is_of_slice bytes = is_of_command (codes "exec") bytes || (is_of_command (codes "done") bytes || is_of_command (codes "failed") bytes)

-- what the coordinator asks of a transaction or of a round
abbrev pub is_request : List ℕ → Bool
is_request bytes =
    is_numbered (codes "prepare") bytes || (is_numbered (codes "commit") bytes || (is_numbered (codes "commit prepared") bytes
    || (is_numbered (codes "abort") bytes || (is_numbered (codes "forget") bytes || is_numbered (codes "collect") bytes))))

-- what a segment answers to that
abbrev pub is_reply : List ℕ → Bool
is_reply bytes =
    is_numbered (codes "prepared") bytes || (is_numbered (codes "committed") bytes || (is_numbered (codes "jfault") bytes || (is_numbered (codes "again") bytes
    || (is_numbered (codes "aborted") bytes || (is_numbered (codes "forgotten") bytes || is_numbered (codes "graph") bytes)))))

abbrev pub is_up : List ℕ → Bool
is_up bytes = is_all (word (codes "up") bytes)

-- what a segment says that has restarted
abbrev pub is_of_restart : List ℕ → Bool
is_of_restart bytes = is_numbered (codes "restarted") bytes || is_up bytes

abbrev pub is_message : List ℕ → Bool
is_message bytes = is_of_slice bytes || (is_request bytes || (is_reply bytes || is_of_restart bytes))

-- a message, to the end
abbrev pub message_words : List ℕ → Front (List ℕ)
message_words bytes = if is_message bytes then Some (bytes, []) else None

abbrev pub message : List ℕ → Front (List ℕ)
message = behind (codes " ") message_words
