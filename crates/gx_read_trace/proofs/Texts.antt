-- The lines that show something, each with its line feed, are its text.
use Rattle.std.proofs.Common.{◌≡◌, ℕ, List, [], ◌∷◌, ◌++◌, length, map, codes, refl, sym, ◌∙◌, ap, append_assoc, append-nil}
use Rattle.std.specs.Prelude.{All}
use Rattle.std.specs.List.{flat_map}
use Rattle.std.specs.Fmt.{decimal}
use Rattle.std.proofs.lemmas.List.Elements.{All-head, All-tail}
use Rattle.gx_ids.specs.Rid.{text_of as rid_text}
use Rattle.gx_report.specs.LockText.{edge_text, verdict_text}
use Rattle.gx_report.specs.Text.{answer_text, line_text, row_line}
use Rattle.gx_report.specs.Words.{number_text, session_name, words_text}
use Rattle.gx_script.specs.declared.Script.{Script}
use Rattle.gx_store.specs.declared.answer.Refused.{Refused}
use Rattle.gx_store.specs.declared.answer.Refused.TheVariants as refused
use Rattle.gx_store.specs.declared.answer.StmtAnswer.{StmtAnswer}
use Rattle.gx_store.specs.declared.answer.StmtAnswer.TheVariants as answer
use Rattle.gx_store.specs.declared.mark.Mark.TheVariants as mark
use Rattle.gx_tree.specs.declared.schema.Schema.{Schema}
use Rattle.gx_tree.specs.declared.value.Value.{Value}
use Rattle.gx_trace.specs.Lawful.{IsSeenMark}
use Rattle.gx_report.specs.EventText.{event_text}
use Rattle.gx_trace.specs.Shown.{IsSeenStep, IsShown}
use Rattle.gx_trace.specs.ShownText.{answer_line, rows_text, seen_event_line, seen_mark_line, seen_mark_text, seen_step_lines, seen_steps_text, shown_text, tables_text, value_line}
use Rattle.gx_trace.specs.declared.seen.Seen.{Seen}
use Rattle.gx_trace.specs.declared.seen.SeenAnswer.{SeenAnswer}
use Rattle.gx_trace.specs.declared.seen.SeenMark.{SeenMark}
use Rattle.gx_trace.specs.declared.seen.SeenMark.TheVariants as seen
use Rattle.gx_trace.specs.declared.seen.SeenStep.{SeenStep}
use Rattle.gx_trace_lines.specs.Answers.{answer_head_text}
use Rattle.gx_trace_lines.specs.Cells.{out_row_text}
use Rattle.gx_trace_lines.specs.Events.{moment_text}
use Rattle.gx_trace_lines.specs.Heads.{head_text, refused_text}
use Rattle.gx_trace_lines.specs.Tables.{table_row_text}
use Rattle.gx_trace_lines.specs.declared.heads.AnswerHead.{AnswerHead}
use Rattle.gx_trace_lines.specs.declared.heads.AnswerHead.TheVariants.{Said, Rows}
use Rattle.gx_read_trace.specs.Lines.{answer_lines, blank_line, fed, fed_line, lines_of_answer, lines_of_table, lines_of_tables, mark_lines, moment_of_step, run_line, seen_lines, step_lines}

in-head : (n k d b h f m : List ℕ) → ((n ++ (k ++ (d ++ (b ++ h)))) ++ f) ++ m ≡ n ++ k ++ d ++ b ++ (h ++ f) ++ m
in-head n k d b h f m = simp append_assoc

in-table : (w a b d f r : List ℕ) → ((w ++ (a ++ (b ++ d))) ++ f) ++ r ≡ w ++ a ++ b ++ d ++ f ++ r
in-table w a b d f r = simp append_assoc

in-event : (a k b c f : List ℕ) → ((a ++ (k ++ b)) ++ c) ++ f ≡ a ++ k ++ b ++ c ++ f
in-event a k b c f = simp append_assoc

in-recheck : (b f r k es q v : List ℕ) → ((b ++ (r ++ (k ++ es))) ++ f) ++ (((b ++ (q ++ (k ++ v))) ++ f) ++ []) ≡ (b ++ (r ++ k ++ es ++ (f ++ b) ++ q ++ k ++ v)) ++ f
in-recheck b f r k es q v = simp (append_assoc, append-nil)

pub fed-append : (xs ys : List (List ℕ)) → fed (xs ++ ys) ≡ fed xs ++ fed ys
fed-append [] ys = refl
fed-append (x ∷ xs) ys = ap (λ z. fed_line x ++ z) (fed-append xs ys) ∙ sym (append_assoc (fed_line x) (fed xs) (fed ys))

fed-each : {A : Type 0} (P : A → Type 0) (lines : A → List (List ℕ)) (text : A → List ℕ) → ((a : A) → P a → fed (lines a) ≡ text a) → (xs : List A) → All P xs → fed (flat_map lines xs) ≡ flat_map text xs
fed-each P lines text each [] all = refl
fed-each P lines text each (x ∷ xs) all =
    fed-append (lines x) (flat_map lines xs) ∙ (λ i. each x (All-head P x xs all) i ++ fed-each P lines text each xs (All-tail P x xs all) i)

fed-map : {A : Type 0} (line : A → List ℕ) (text : A → List ℕ) → ((a : A) → fed_line (line a) ≡ text a) → (xs : List A) → fed (map line xs) ≡ flat_map text xs
fed-map line text each [] = refl
fed-map line text each (x ∷ xs) = (λ i. each x i ++ fed-map line text each xs i)

-- ANSWERS
refused-fed : (why : Refused) → refused_text why ++ codes "\n" ≡ answer_text (answer.Refused why)
refused-fed (refused.Serialization rid newer) =
    ap (λ y. codes "ERROR 1 serialization row " ++ y) (append_assoc (rid_text rid) (codes " changed by " ++ decimal newer.0) (codes "\n")) ∙ sym (append_assoc (codes "ERROR 1 serialization row ") (rid_text rid) _)
refused-fed (refused.Victim round) = refl
refused-fed refused.Overflow = refl
refused-fed refused.DivisionByZero = refl
refused-fed refused.InFailedBlock = refl
refused-fed (refused.JournalFault node) = ap (λ y. codes "ERROR 6 journal of node " ++ y) (append_assoc (decimal node.0) (codes " failed") (codes "\n"))
refused-fed refused.NotInBlock = refl
refused-fed (refused.Restarted node) = ap (λ y. codes "ERROR 8 segment " ++ y) (append_assoc (decimal node.0) (codes " restarted") (codes "\n"))

head-fed : (name : List ℕ) (number : ℕ) (h : AnswerHead) (more t : List ℕ) → head_text h ++ codes "\n" ≡ t → fed_line (answer_head_text name number h) ++ more ≡ name ++ codes "." ++ decimal number ++ codes " " ++ t ++ more
head-fed name number h more t e = parted ∙ ap (λ y. name ++ codes "." ++ decimal number ++ codes " " ++ y ++ more) e
  where
    parted : fed_line (answer_head_text name number h) ++ more ≡ name ++ codes "." ++ decimal number ++ codes " " ++ (head_text h ++ codes "\n") ++ more
    parted = in-head name (codes ".") (decimal number) (codes " ") (head_text h) (codes "\n") more

lone : (name : List ℕ) (number : ℕ) (said : StmtAnswer) → head_text (Said said) ++ codes "\n" ≡ answer_text said → fed (answer_head_text name number (Said said) ∷ []) ≡ line_text name number said
lone name number said e = head-fed name number (Said said) [] (answer_text said) e ∙ append-nil (line_text name number said)

answer-fed : (name : List ℕ) (number : ℕ) (said : StmtAnswer) → fed (lines_of_answer name number said) ≡ line_text name number said
answer-fed name number answer.Begin = lone name number answer.Begin refl
answer-fed name number answer.Commit = lone name number answer.Commit refl
answer-fed name number answer.Rollback = lone name number answer.Rollback refl
answer-fed name number answer.Locked = lone name number answer.Locked refl
answer-fed name number (answer.Inserted n) = lone name number (answer.Inserted n) refl
answer-fed name number (answer.Updated n) = lone name number (answer.Updated n) refl
answer-fed name number (answer.Deleted n) = lone name number (answer.Deleted n) refl
answer-fed name number (answer.Refused why) = lone name number (answer.Refused why) (refused-fed why)
answer-fed name number (answer.Rows rows) =
    head-fed name number (Rows (length rows)) (fed (map out_row_text rows)) (codes "SELECT " ++ decimal (length rows) ++ codes "\n") refl
    ∙ ap (λ y. name ++ codes "." ++ decimal number ++ codes " " ++ (codes "SELECT " ++ decimal (length rows) ++ codes "\n") ++ y) (fed-map out_row_text row_line (λ row. refl) rows)
    ∙ append_assoc (name ++ codes "." ++ decimal number ++ codes " ") (codes "SELECT " ++ decimal (length rows) ++ codes "\n") (flat_map row_line rows)

-- TABLES
table-fed : (name : List ℕ) (rows : List (List Value)) → fed (lines_of_table name rows) ≡ rows_text name rows
table-fed name rows = parted ∙ ap (λ y. codes "table " ++ name ++ codes " " ++ decimal (length rows) ++ codes "\n" ++ y) (fed-map table_row_text value_line (λ row. refl) rows)
  where
    parted : fed (lines_of_table name rows) ≡ codes "table " ++ name ++ codes " " ++ decimal (length rows) ++ codes "\n" ++ fed (map table_row_text rows)
    parted = in-table (codes "table ") name (codes " ") (decimal (length rows)) (codes "\n") (fed (map table_row_text rows))

tables-fed : (ss : List Schema) (tables : List (List (List Value))) → fed (lines_of_tables ss tables) ≡ tables_text ss tables
tables-fed [] tables = refl
tables-fed (s ∷ ss) [] = refl
tables-fed (s ∷ ss) (rows ∷ tables) = fed-append (lines_of_table s.name rows) (lines_of_tables ss tables) ∙ (λ i. table-fed s.name rows i ++ tables-fed ss tables i)

-- STEPS
module _ (script : Script) where
  one-line : (text : List ℕ) → fed (blank_line text ∷ []) ≡ codes "  " ++ text ++ codes "\n"
  one-line text = ap (λ y. codes "  " ++ y) (append-nil (text ++ codes "\n"))

  mark-fed : (m : SeenMark) → IsSeenMark script m → fed (mark_lines script m) ≡ seen_mark_line script m
  mark-fed (seen.Whole (mark.Start g who)) is = one-line (seen_mark_text script (seen.Whole (mark.Start g who)))
  mark-fed (seen.Whole (mark.Snap g c shot)) is = one-line (seen_mark_text script (seen.Whole (mark.Snap g c shot)))
  mark-fed (seen.Whole (mark.Write g c k t r i)) is = one-line (seen_mark_text script (seen.Whole (mark.Write g c k t r i)))
  mark-fed (seen.Whole (mark.Skip g c r)) is = one-line (seen_mark_text script (seen.Whole (mark.Skip g c r)))
  mark-fed (seen.Whole (mark.Fault g c r i)) is = one-line (seen_mark_text script (seen.Whole (mark.Fault g c r i)))
  mark-fed (seen.Whole (mark.Commit g)) is = one-line (seen_mark_text script (seen.Whole (mark.Commit g)))
  mark-fed (seen.Whole (mark.Abort g)) is = one-line (seen_mark_text script (seen.Whole (mark.Abort g)))
  mark-fed (seen.Whole (mark.Hold k g o m)) is = one-line (seen_mark_text script (seen.Whole (mark.Hold k g o m)))
  mark-fed (seen.Whole (mark.Wait k g o m)) is = one-line (seen_mark_text script (seen.Whole (mark.Wait k g o m)))
  mark-fed (seen.Whole (mark.Release k g o m)) is = one-line (seen_mark_text script (seen.Whole (mark.Release k g o m)))
  mark-fed (seen.Whole (mark.Prepared k g)) is = one-line (seen_mark_text script (seen.Whole (mark.Prepared k g)))
  mark-fed (seen.Whole (mark.LocalCommit k g)) is = one-line (seen_mark_text script (seen.Whole (mark.LocalCommit k g)))
  mark-fed (seen.Whole (mark.Decided g)) is = one-line (seen_mark_text script (seen.Whole (mark.Decided g)))
  mark-fed (seen.Whole (mark.JournalFailed k g)) is = one-line (seen_mark_text script (seen.Whole (mark.JournalFailed k g)))
  mark-fed (seen.Whole (mark.Restart k)) is = one-line (seen_mark_text script (seen.Whole (mark.Restart k)))
  mark-fed (seen.Whole (mark.Report k r graph)) is = one-line (seen_mark_text script (seen.Whole (mark.Report k r graph)))
  mark-fed (seen.Whole (mark.Answer session number said)) is = absurd is
  mark-fed (seen.Whole (mark.Sent to number message)) is = absurd is
  mark-fed (seen.Sent to number message) is = one-line (seen_mark_text script (seen.Sent to number message))
  mark-fed (seen.Answer session number) is = one-line (seen_mark_text script (seen.Answer session number))
  mark-fed (seen.Whole (mark.Recheck round own v)) is =
      let report = words_text (codes "report") (0 ∷ round ∷ []) in
      let end = words_text (codes "recheck") (round ∷ []) in
      in-recheck (codes "  ") (codes "\n") report (codes ":") (flat_map edge_text own.edges) end (verdict_text v)
      ∙ ap (λ es. (codes "  " ++ (report ++ codes ":" ++ flat_map edge_text es ++ codes "\n  " ++ end ++ codes ":" ++ verdict_text v)) ++ codes "\n") (sym is.1.order)

  step-fed : (step : SeenStep) → IsSeenStep script step → fed (step_lines script step) ≡ seen_step_lines script step
  step-fed step is = (λ i. event i ++ fed-each (IsSeenMark script) (mark_lines script) (seen_mark_line script) mark-fed step.marks is.marks i)
    where
      event : fed_line (moment_text script (moment_of_step step)) ≡ seen_event_line script step
      event = in-event (decimal step.stamp.clock) (codes ".") (decimal step.stamp.node.0) (codes " " ++ event_text script step.event) (codes "\n")

  pub lines-are-text : (s : Seen) → IsShown script s → fed (seen_lines script s) ≡ shown_text script s
  lines-are-text s is =
      fed-append (flat_map (answer_lines script) s.answers) (lines_of_tables script.tables s.tables ++ (run_line (length s.steps) ∷ flat_map (step_lines script) s.steps))
      ∙ (λ i. answers i ++ (fed-append (lines_of_tables script.tables s.tables) (run_line (length s.steps) ∷ flat_map (step_lines script) s.steps) ∙ (λ j. tables-fed script.tables s.tables j ++ trace j)) i)
      ∙ sym (append_assoc (flat_map (answer_line script) s.answers) (tables_text script.tables s.tables) (seen_steps_text script s.steps))
    where
      answers : fed (flat_map (answer_lines script) s.answers) ≡ flat_map (answer_line script) s.answers
      answers = each s.answers
        where
          each : (xs : List SeenAnswer) → fed (flat_map (answer_lines script) xs) ≡ flat_map (answer_line script) xs
          each [] = refl
          each (x ∷ xs) = fed-append (answer_lines script x) (flat_map (answer_lines script) xs) ∙ (λ i. answer-fed (session_name script x.session) x.number x.answer i ++ each xs i)

      trace : fed (run_line (length s.steps) ∷ flat_map (step_lines script) s.steps) ≡ seen_steps_text script s.steps
      trace = ap (λ y. codes "run" ++ number_text (length s.steps) ++ codes "\n" ++ y) (fed-each (IsSeenStep script) (step_lines script) (seen_step_lines script) step-fed s.steps is.steps)
