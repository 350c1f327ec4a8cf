-- The line of an answer, behind its session and number.
use Rattle.std.specs.Prelude.{ℕ, ◌^◌, ◌<◌, List, [], ◌∷◌, ◌++◌, codes}
use Rattle.std.specs.Fmt.{decimal}
use Rattle.gx_ids.specs.declared.ids.Gxid.{Gxid}
use Rattle.gx_ids.specs.declared.ids.Node.{Node}
use Rattle.gx_ids.specs.declared.rid.Rid.{Rid}
use Rattle.gx_report.specs.Words.{gxid_text, number_text}
use Rattle.gx_store.specs.declared.answer.Refused.{Refused}
use Rattle.gx_store.specs.declared.answer.Refused.TheVariants as refused
use Rattle.gx_store.specs.declared.answer.StmtAnswer.{StmtAnswer}
use Rattle.gx_store.specs.declared.answer.StmtAnswer.TheVariants as answer
use Rattle.gx_trace.specs.Fields.{count, gxid, node, rid}
use Rattle.gx_trace.specs.Lawful.{IsAnswer, IsRefused}
use Rattle.gx_trace.specs.Readers.{Front, behind, both, made, word}
use Rattle.gx_trace.specs.Texts.{rid_word}
use Rattle.gx_trace_lines.specs.Choices.{just, nothing, on}
use Rattle.gx_trace_lines.specs.declared.heads.AnswerHead.{AnswerHead}
use Rattle.gx_trace_lines.specs.declared.heads.AnswerHead.TheVariants.{Said, Rows}

-- PRINTED
abbrev pub refused_text : Refused → List ℕ
refused_text (refused.Serialization rid newer) = codes "ERROR 1 serialization row" ++ (rid_word rid ++ (codes " changed by" ++ gxid_text newer))
refused_text (refused.Victim round) = codes "ERROR 2 victim of round" ++ number_text round
refused_text refused.Overflow = codes "ERROR 3 overflow"
refused_text refused.DivisionByZero = codes "ERROR 4 division by zero"
refused_text refused.InFailedBlock = codes "ERROR 5 block has failed"
refused_text (refused.JournalFault node) = codes "ERROR 6 journal of node" ++ (number_text node.0 ++ codes " failed")
refused_text refused.NotInBlock = codes "ERROR 7 not in a block"
refused_text (refused.Restarted segment) = codes "ERROR 8 segment" ++ (number_text segment.0 ++ codes " restarted")

-- an answer that has no rows
abbrev pub said_text : StmtAnswer → List ℕ
said_text answer.Begin = codes "BEGIN"
said_text answer.Commit = codes "COMMIT"
said_text answer.Rollback = codes "ROLLBACK"
said_text answer.Locked = codes "LOCK TABLE"
said_text (answer.Inserted n) = codes "INSERT" ++ number_text n
said_text (answer.Updated n) = codes "UPDATE" ++ number_text n
said_text (answer.Deleted n) = codes "DELETE" ++ number_text n
said_text (answer.Rows rows) = []
said_text (answer.Refused why) = refused_text why

abbrev pub head_text : AnswerHead → List ℕ
head_text (Said said) = said_text said
head_text (Rows n) = codes "SELECT" ++ number_text n

abbrev pub HasNoRows : StmtAnswer → Type 0
HasNoRows (answer.Rows rows) = ⊥
HasNoRows said = IsAnswer said

abbrev pub IsHead : AnswerHead → Type 0
IsHead (Said said) = HasNoRows said
IsHead (Rows n) = n < 2 ^ 64

-- READ
abbrev pub serialization_of : Rid × Gxid → Refused
serialization_of x = refused.Serialization x.0 x.1

abbrev pub victim_of : ℕ → Refused
victim_of n = refused.Victim n

abbrev pub journal_of : Node × Unit {0} → Refused
journal_of x = refused.JournalFault x.0

abbrev pub restarted_of : Node × Unit {0} → Refused
restarted_of x = refused.Restarted x.0

abbrev pub serialization : List ℕ → Front Refused
serialization bytes = made serialization_of (both rid (behind (codes " changed by") gxid) bytes)

abbrev pub victim : List ℕ → Front Refused
victim bytes = made victim_of (count bytes)

abbrev pub journal : List ℕ → Front Refused
journal bytes = made journal_of (both node (word (codes " failed")) bytes)

abbrev pub restarted : List ℕ → Front Refused
restarted bytes = made restarted_of (both node (word (codes " restarted")) bytes)

abbrev pub refusal : List ℕ → Front Refused
refusal =
    on (codes "ERROR 1 serialization row") serialization
    (on (codes "ERROR 2 victim of round") victim
    (on (codes "ERROR 3 overflow") (just refused.Overflow)
    (on (codes "ERROR 4 division by zero") (just refused.DivisionByZero)
    (on (codes "ERROR 5 block has failed") (just refused.InFailedBlock)
    (on (codes "ERROR 6 journal of node") journal
    (on (codes "ERROR 7 not in a block") (just refused.NotInBlock)
    (on (codes "ERROR 8 segment") restarted nothing)))))))

abbrev pub refused_of : Refused → AnswerHead
refused_of why = Said (answer.Refused why)

abbrev pub inserted_of : ℕ → AnswerHead
inserted_of n = Said (answer.Inserted n)

abbrev pub updated_of : ℕ → AnswerHead
updated_of n = Said (answer.Updated n)

abbrev pub deleted_of : ℕ → AnswerHead
deleted_of n = Said (answer.Deleted n)

abbrev pub rows_of : ℕ → AnswerHead
rows_of n = Rows n

abbrev pub refused_head : List ℕ → Front AnswerHead
refused_head bytes = made refused_of (refusal bytes)

abbrev pub counted : (ℕ → AnswerHead) → List ℕ → Front AnswerHead
counted f bytes = made f (count bytes)

abbrev pub statement_head : List ℕ → Front AnswerHead
statement_head =
    on (codes "INSERT") (counted inserted_of)
    (on (codes "UPDATE") (counted updated_of) (on (codes "DELETE") (counted deleted_of) (on (codes "SELECT") (counted rows_of) refused_head)))

abbrev pub head : List ℕ → Front AnswerHead
head =
    on (codes "BEGIN") (just (Said answer.Begin))
    (on (codes "COMMIT") (just (Said answer.Commit)) (on (codes "ROLLBACK") (just (Said answer.Rollback)) (on (codes "LOCK TABLE") (just (Said answer.Locked)) statement_head)))
