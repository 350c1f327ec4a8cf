-- What is printed is read: the lines of what may be shown lead the reader from its start to it.
use Rattle.std.proofs.Common.{◌≡◌, ℕ, suc, ◌^◌, ◌<◌, ◌==◌, true, List, [], ◌∷◌, ◌++◌, length, map, codes}
use Rattle.std.proofs.Common.{Some, None, refl, sym, ◌∙◌, ap, subst, arith, append_assoc, append-nil}
use Rattle.std.specs.Prelude.{All, option_and_then}
use Rattle.std.specs.List.{flat_map}
use Rattle.std.specs.Fmt.{decimal}
use Rattle.std.proofs.lemmas.List.Elements.{All-head, All-tail}
use Rattle.gx_report.specs.Words.{session_name}
use Rattle.gx_script.specs.declared.Script.{Script}
use Rattle.gx_store.specs.declared.answer.StmtAnswer.{StmtAnswer}
use Rattle.gx_store.specs.declared.answer.StmtAnswer.TheVariants as answer
use Rattle.gx_store.specs.declared.mark.Mark.TheVariants as mark
use Rattle.gx_tree.specs.declared.cell.Cell.{Cell}
use Rattle.gx_tree.specs.declared.schema.Schema.{Schema}
use Rattle.gx_tree.specs.declared.value.Value.{Value}
use Rattle.gx_trace.specs.Lawful.{IsAnswer, IsOutRow, IsSeenMark}
use Rattle.gx_trace.specs.Names.{session_of}
use Rattle.gx_trace.specs.Readers.{Front, word, IsReaderOf}
use Rattle.gx_trace.specs.Shown.{AreTables, IsRowOf, IsSeenStep, IsShown, all_places, place_of}
use Rattle.gx_trace.specs.declared.seen.Seen.{Seen}
use Rattle.gx_trace.specs.declared.seen.SeenAnswer.{SeenAnswer}
use Rattle.gx_trace.specs.declared.seen.SeenMark.{SeenMark}
use Rattle.gx_trace.specs.declared.seen.SeenMark.TheVariants as seen
use Rattle.gx_trace.specs.declared.seen.SeenStep.{SeenStep}
use Rattle.gx_trace.proofs.ReadFields.{counts}
use Rattle.gx_trace.proofs.Readers.{behind-word}
use Rattle.gx_trace.proofs.Wholes.{not-word}
use Rattle.gx_trace.proofs.Words.{if-true}
use Rattle.gx_trace_lines.specs.Answers.{answer_head_text}
use Rattle.gx_trace_lines.specs.Cells.{out_row_text}
use Rattle.gx_trace_lines.specs.Events.{IsMoment, moment, moment_text}
use Rattle.gx_trace_lines.specs.Heads.{IsHead}
use Rattle.gx_trace_lines.specs.Marks.{IsMarkLine, mark_line_text, own_graph}
use Rattle.gx_trace_lines.specs.Tables.{table_head_text, table_row_text}
use Rattle.gx_trace_lines.specs.declared.heads.AnswerHead.{AnswerHead}
use Rattle.gx_trace_lines.specs.declared.heads.AnswerHead.TheVariants.{Said, Rows}
use Rattle.gx_trace_lines.specs.declared.marks.MarkLine.{MarkLine}
use Rattle.gx_trace_lines.specs.declared.marks.MarkLine.TheVariants.{Alone, Own, Ended}
use Rattle.gx_trace_lines.proofs.ReadCells.{out-rows}
use Rattle.gx_trace_lines.proofs.ReadEvents.{moments}
use Rattle.gx_trace_lines.proofs.ReadHeads.{answer-heads}
use Rattle.gx_trace_lines.proofs.ReadMarks.{mark-lines}
use Rattle.gx_trace_lines.proofs.ReadTables.{table-heads, table-rows}
use Rattle.gx_read_trace.specs.Lines.{answer_lines, blank_line, lines_of_answer, lines_of_table, lines_of_tables, mark_lines, moment_of_step, run_line, seen_lines, step_lines}
use Rattle.gx_read_trace.specs.Machine.{Mid, Where, all_of, answer_begun, answer_row, answered, begun, behind_answers, ended, event_read, listed, mark_read, marked, next_line}
use Rattle.gx_read_trace.specs.Machine.{recheck_read, run, start, step_line, stepped, table_begun, table_row_read}
use Rattle.gx_read_trace.specs.Machine.{Answers, AnswerRows, Tables, TableRows, Steps, Marks, Recheck}

-- a line that stands whole
pub all-read : {A : Type 0} {text : A → List ℕ} {Is : A → Type 0} {Ends : List ℕ → Type 0} {read : List ℕ → Front A} → IsReaderOf text Is Ends read → Ends [] → (a : A) → Is a → all_of (read (text a)) ≡ Some a
all-read {text = text} {read = read} r ends a is = ap (λ y. all_of (read y)) (sym (append-nil (text a))) ∙ ap all_of (r.again a [] is ends)

module _ (script : Script) where
  abbrev pub mid : Seen → Where → Mid
  mid s at = record { so_far = s; next = at }

  -- lines lead from one state to another
  abbrev pub Leads : Mid → List (List ℕ) → Mid → Type 0
  Leads m ls n = (more : List (List ℕ)) → run script (ls ++ more) m ≡ run script more n

  pub one : (m n : Mid) (l : List ℕ) → next_line script m.so_far m.next l ≡ Some n → Leads m (l ∷ []) n
  one m n l e more = ap (option_and_then (run script more)) e

  pub onward : (m n k : Mid) (ls : List (List ℕ)) (ms : List (List ℕ)) → Leads m ls n → Leads n ms k → Leads m (ls ++ ms) k
  onward m n k ls ms first second more = ap (λ x. run script x m) (append_assoc ls ms more) ∙ first (ms ++ more) ∙ second more

  -- ANSWERS
  abbrev pub name_of : ℕ × ℕ → List ℕ
  name_of p = session_name script (session_of p.0)

  head-read : (s : Seen) (p : ℕ × ℕ) (ps : List (ℕ × ℕ)) (h : AnswerHead) → p.1 < 2 ^ 32 → IsHead h → next_line script s (Answers (p ∷ ps)) (answer_head_text (name_of p) p.1 h) ≡ Some (answer_begun script s p ps h)
  head-read s p ps h small is = ap (option_and_then (λ k. Some (answer_begun script s p ps k))) (all-read (answer-heads (name_of p) p.1 small) refl h is)

  pub row-read : (s : Seen) (p : ℕ × ℕ) (acc : List (List Cell)) (n : ℕ) (ps : List (ℕ × ℕ)) (row : List Cell) → IsOutRow row
      → next_line script s (AnswerRows p acc n ps) (out_row_text row) ≡ Some (answer_row script s p acc n ps row)
  row-read s p acc n ps row is = ap (option_and_then (λ k. Some (answer_row script s p acc n ps k))) (all-read out-rows refl row is)

  rows-lead : (s : Seen) (p : ℕ × ℕ) (ps : List (ℕ × ℕ)) (acc : List (List Cell)) (row : List Cell) (rows : List (List Cell)) → All IsOutRow (row ∷ rows)
      → Leads (mid s (AnswerRows p acc (length rows) ps)) (map out_row_text (row ∷ rows)) (answered script s p (answer.Rows (acc ++ row ∷ rows)) ps)
  rows-lead s p ps acc row [] all = one (mid s (AnswerRows p acc 0 ps)) (answered script s p (answer.Rows (acc ++ row ∷ [])) ps) (out_row_text row) (row-read s p acc 0 ps row (All-head IsOutRow row [] all))
  rows-lead s p ps acc row (r ∷ rs) all =
      let n : length (r ∷ rs) ≡ suc (length rs) = omega arith in
      let m = mid s (AnswerRows p (acc ++ row ∷ []) (length rs) ps) in
      onward (mid s (AnswerRows p acc (length (r ∷ rs)) ps)) m (answered script s p (answer.Rows (acc ++ row ∷ r ∷ rs)) ps) (out_row_text row ∷ []) (map out_row_text (r ∷ rs))
      (one (mid s (AnswerRows p acc (length (r ∷ rs)) ps)) m (out_row_text row) (row-read s p acc (length (r ∷ rs)) ps row (All-head IsOutRow row (r ∷ rs) all) ∙ ap (λ k. Some (answer_row script s p acc k ps row)) n))
      (subst (λ all_rows. Leads m (map out_row_text (r ∷ rs)) (answered script s p (answer.Rows all_rows) ps)) (append_assoc acc (row ∷ []) (r ∷ rs)) (rows-lead s p ps (acc ++ row ∷ []) r rs (All-tail IsOutRow row (r ∷ rs) all)))

  lone-head : (s : Seen) (p : ℕ × ℕ) (ps : List (ℕ × ℕ)) (h : AnswerHead) → p.1 < 2 ^ 32 → IsHead h → Leads (mid s (Answers (p ∷ ps))) (answer_head_text (name_of p) p.1 h ∷ []) (answer_begun script s p ps h)
  lone-head s p ps h small is = one (mid s (Answers (p ∷ ps))) (answer_begun script s p ps h) (answer_head_text (name_of p) p.1 h) (head-read s p ps h small is)

  pub answer-leads : (s : Seen) (p : ℕ × ℕ) (ps : List (ℕ × ℕ)) (said : StmtAnswer) → p.1 < 2 ^ 32 → IsAnswer said
      → Leads (mid s (Answers (p ∷ ps))) (lines_of_answer (name_of p) p.1 said) (answered script s p said ps)
  answer-leads s p ps answer.Begin small is = lone-head s p ps (Said answer.Begin) small is
  answer-leads s p ps answer.Commit small is = lone-head s p ps (Said answer.Commit) small is
  answer-leads s p ps answer.Rollback small is = lone-head s p ps (Said answer.Rollback) small is
  answer-leads s p ps answer.Locked small is = lone-head s p ps (Said answer.Locked) small is
  answer-leads s p ps (answer.Inserted n) small is = lone-head s p ps (Said (answer.Inserted n)) small is
  answer-leads s p ps (answer.Updated n) small is = lone-head s p ps (Said (answer.Updated n)) small is
  answer-leads s p ps (answer.Deleted n) small is = lone-head s p ps (Said (answer.Deleted n)) small is
  answer-leads s p ps (answer.Refused why) small is = lone-head s p ps (Said (answer.Refused why)) small is
  answer-leads s p ps (answer.Rows []) small is =
      one (mid s (Answers (p ∷ ps))) (answered script s p (answer.Rows []) ps) (answer_head_text (name_of p) p.1 (Rows (length {A = List Cell} [])))
      (head-read s p ps (Rows (length {A = List Cell} [])) small is.0 ∙ ap (λ k. Some (answer_begun script s p ps (Rows k))) none)
    where
      none : length {A = List Cell} [] ≡ 0
      none = omega arith
  answer-leads s p ps (answer.Rows (row ∷ rows)) small is =
      let n : length (row ∷ rows) ≡ suc (length rows) = omega arith in
      let head = answer_head_text (name_of p) p.1 (Rows (length (row ∷ rows))) in
      let m = mid s (AnswerRows p [] (length rows) ps) in
      onward (mid s (Answers (p ∷ ps))) m (answered script s p (answer.Rows (row ∷ rows)) ps) (head ∷ []) (map out_row_text (row ∷ rows))
      (one (mid s (Answers (p ∷ ps))) m head (head-read s p ps (Rows (length (row ∷ rows))) small is.0 ∙ ap (λ k. Some (answer_begun script s p ps (Rows k))) n))
      (rows-lead s p ps [] row rows is.1)

  abbrev with_answers : Seen → List SeenAnswer → Seen
  with_answers s more = record { answers = s.answers ++ more; tables = s.tables; steps = s.steps }

  answers-lead : (s : Seen) (xs : List SeenAnswer) → All (λ (p : ℕ × ℕ). p.1 < 2 ^ 32) (map place_of xs) → All (λ (said : SeenAnswer). IsAnswer said.answer) xs
      → Leads (mid s (behind_answers script (map place_of xs))) (flat_map (answer_lines script) xs) (mid (with_answers s xs) (Tables script.tables))
  answers-lead s [] small all = λ more. ap (λ x. run script more (mid (record { answers = x; tables = s.tables; steps = s.steps }) (Tables script.tables))) (sym (append-nil s.answers))
  answers-lead s (a ∷ xs) small all =
      let P : ℕ × ℕ → Type 0 = λ p. p.1 < 2 ^ 32 in
      let Q : SeenAnswer → Type 0 = λ said. IsAnswer said.answer in
      let next = answered script s (place_of a) a.answer (map place_of xs) in
      let rest = answers-lead (with_answers s (a ∷ [])) xs (All-tail P (place_of a) (map place_of xs) small) (All-tail Q a xs all) in
      onward (mid s (Answers (place_of a ∷ map place_of xs))) next (mid (with_answers s (a ∷ xs)) (Tables script.tables)) (answer_lines script a) (flat_map (answer_lines script) xs)
      (answer-leads s (place_of a) (map place_of xs) a.answer (All-head P (place_of a) (map place_of xs) small) (All-head Q a xs all))
      (subst (λ x. Leads next (flat_map (answer_lines script) xs) (mid (record { answers = x; tables = s.tables; steps = s.steps }) (Tables script.tables))) (append_assoc s.answers (a ∷ []) xs) rest)

  -- TABLES
  pub table-row-read : (s : Seen) (t : Schema) (acc : List (List Value)) (n : ℕ) (ss : List Schema) (row : List Value) → IsRowOf t row
      → next_line script s (TableRows t acc n ss) (table_row_text row) ≡ Some (table_row_read s t acc n ss row)
  table-row-read s t acc n ss row is = ap (option_and_then (λ k. Some (table_row_read s t acc n ss k))) (all-read (table-rows t) refl row is)

  table-rows-lead : (s : Seen) (t : Schema) (ss : List Schema) (acc : List (List Value)) (row : List Value) (rows : List (List Value)) → All (IsRowOf t) (row ∷ rows)
      → Leads (mid s (TableRows t acc (length rows) ss)) (map table_row_text (row ∷ rows)) (listed s (acc ++ row ∷ rows) ss)
  table-rows-lead s t ss acc row [] all = one (mid s (TableRows t acc 0 ss)) (listed s (acc ++ row ∷ []) ss) (table_row_text row) (table-row-read s t acc 0 ss row (All-head (IsRowOf t) row [] all))
  table-rows-lead s t ss acc row (r ∷ rs) all =
      let n : length (r ∷ rs) ≡ suc (length rs) = omega arith in
      let m = mid s (TableRows t (acc ++ row ∷ []) (length rs) ss) in
      onward (mid s (TableRows t acc (length (r ∷ rs)) ss)) m (listed s (acc ++ row ∷ r ∷ rs) ss) (table_row_text row ∷ []) (map table_row_text (r ∷ rs))
      (one (mid s (TableRows t acc (length (r ∷ rs)) ss)) m (table_row_text row) (table-row-read s t acc (length (r ∷ rs)) ss row (All-head (IsRowOf t) row (r ∷ rs) all) ∙ ap (λ k. Some (table_row_read s t acc k ss row)) n))
      (subst (λ all_rows. Leads m (map table_row_text (r ∷ rs)) (listed s all_rows ss)) (append_assoc acc (row ∷ []) (r ∷ rs)) (table-rows-lead s t ss (acc ++ row ∷ []) r rs (All-tail (IsRowOf t) row (r ∷ rs) all)))

  table-head-read : (s : Seen) (t : Schema) (ss : List Schema) (n : ℕ) → n < 2 ^ 64 → next_line script s (Tables (t ∷ ss)) (table_head_text t.name n) ≡ Some (table_begun s t ss n)
  table-head-read s t ss n small = ap (option_and_then (λ k. Some (table_begun s t ss k))) (all-read (table-heads t.name) tt n small)

  pub table-leads : (s : Seen) (t : Schema) (ss : List Schema) (rows : List (List Value)) → length rows < 2 ^ 64 → All (IsRowOf t) rows → Leads (mid s (Tables (t ∷ ss))) (lines_of_table t.name rows) (listed s rows ss)
  table-leads s t ss [] small all =
      one (mid s (Tables (t ∷ ss))) (listed s [] ss) (table_head_text t.name (length {A = List Value} [])) (table-head-read s t ss (length {A = List Value} []) small ∙ ap (λ k. Some (table_begun s t ss k)) none)
    where
      none : length {A = List Value} [] ≡ 0
      none = omega arith
  table-leads s t ss (row ∷ rows) small all =
      let n : length (row ∷ rows) ≡ suc (length rows) = omega arith in
      let head = table_head_text t.name (length (row ∷ rows)) in
      let m = mid s (TableRows t [] (length rows) ss) in
      onward (mid s (Tables (t ∷ ss))) m (listed s (row ∷ rows) ss) (head ∷ []) (map table_row_text (row ∷ rows))
      (one (mid s (Tables (t ∷ ss))) m head (table-head-read s t ss (length (row ∷ rows)) small ∙ ap (λ k. Some (table_begun s t ss k)) n))
      (table-rows-lead s t ss [] row rows all)

  abbrev with_tables : Seen → List (List (List Value)) → Seen
  with_tables s more = record { answers = s.answers; tables = s.tables ++ more; steps = s.steps }

  tables-lead : (s : Seen) (ss : List Schema) (tables : List (List (List Value))) → AreTables ss tables → Leads (mid s (Tables ss)) (lines_of_tables ss tables) (mid (with_tables s tables) (Tables []))
  tables-lead s [] [] are = λ more. ap (λ x. run script more (mid (record { answers = s.answers; tables = x; steps = s.steps }) (Tables []))) (sym (append-nil s.tables))
  tables-lead s [] (rows ∷ tables) are = absurd are
  tables-lead s (t ∷ ss) [] are = absurd are
  tables-lead s (t ∷ ss) (rows ∷ tables) are =
      let rest = tables-lead (with_tables s (rows ∷ [])) ss tables are.2 in
      onward (mid s (Tables (t ∷ ss))) (listed s rows ss) (mid (with_tables s (rows ∷ tables)) (Tables [])) (lines_of_table t.name rows) (lines_of_tables ss tables)
      (table-leads s t ss rows are.0 are.1)
      (subst (λ x. Leads (listed s rows ss) (lines_of_tables ss tables) (mid (record { answers = s.answers; tables = x; steps = s.steps }) (Tables []))) (append_assoc s.tables (rows ∷ []) tables) rest)

  pub run-line-read : (s : Seen) (n : ℕ) → n < 2 ^ 64 → next_line script s (Tables []) (run_line n) ≡ Some (mid s (Steps n))
  run-line-read s n small = ap (option_and_then (λ k. Some (mid s (Steps k)))) (all-read (behind-word (codes "run") counts) tt n small)

  -- MARKS
  mark-line-read : (s : Seen) (step : SeenStep) (n : ℕ) (m : MarkLine) → IsMarkLine script m → next_line script s (Marks step n) (blank_line (mark_line_text script m)) ≡ mark_read s step n m
  mark-line-read s step n m is = ap (option_and_then (mark_read s step n)) (all-read (mark-lines script) refl m is)

  lone-mark : (s : Seen) (step : SeenStep) (n : ℕ) (m : SeenMark) → IsMarkLine script (Alone m) → Leads (mid s (Marks step n)) (blank_line (mark_line_text script (Alone m)) ∷ []) (mid s (Marks (marked step m) n))
  lone-mark s step n m is = one (mid s (Marks step n)) (mid s (Marks (marked step m) n)) (blank_line (mark_line_text script (Alone m))) (mark-line-read s step n (Alone m) is)

  mark-leads : (s : Seen) (step : SeenStep) (n : ℕ) (m : SeenMark) → IsSeenMark script m → Leads (mid s (Marks step n)) (mark_lines script m) (mid s (Marks (marked step m) n))
  mark-leads s step n (seen.Whole (mark.Start g who)) is = lone-mark s step n (seen.Whole (mark.Start g who)) is
  mark-leads s step n (seen.Whole (mark.Snap g c shot)) is = lone-mark s step n (seen.Whole (mark.Snap g c shot)) is
  mark-leads s step n (seen.Whole (mark.Write g c k t r i)) is = lone-mark s step n (seen.Whole (mark.Write g c k t r i)) is
  mark-leads s step n (seen.Whole (mark.Skip g c r)) is = lone-mark s step n (seen.Whole (mark.Skip g c r)) is
  mark-leads s step n (seen.Whole (mark.Fault g c r i)) is = lone-mark s step n (seen.Whole (mark.Fault g c r i)) is
  mark-leads s step n (seen.Whole (mark.Commit g)) is = lone-mark s step n (seen.Whole (mark.Commit g)) is
  mark-leads s step n (seen.Whole (mark.Abort g)) is = lone-mark s step n (seen.Whole (mark.Abort g)) is
  mark-leads s step n (seen.Whole (mark.Hold k g o m)) is = lone-mark s step n (seen.Whole (mark.Hold k g o m)) is
  mark-leads s step n (seen.Whole (mark.Wait k g o m)) is = lone-mark s step n (seen.Whole (mark.Wait k g o m)) is
  mark-leads s step n (seen.Whole (mark.Release k g o m)) is = lone-mark s step n (seen.Whole (mark.Release k g o m)) is
  mark-leads s step n (seen.Whole (mark.Prepared k g)) is = lone-mark s step n (seen.Whole (mark.Prepared k g)) is
  mark-leads s step n (seen.Whole (mark.LocalCommit k g)) is = lone-mark s step n (seen.Whole (mark.LocalCommit k g)) is
  mark-leads s step n (seen.Whole (mark.Decided g)) is = lone-mark s step n (seen.Whole (mark.Decided g)) is
  mark-leads s step n (seen.Whole (mark.JournalFailed k g)) is = lone-mark s step n (seen.Whole (mark.JournalFailed k g)) is
  mark-leads s step n (seen.Whole (mark.Restart k)) is = lone-mark s step n (seen.Whole (mark.Restart k)) is
  mark-leads s step n (seen.Whole (mark.Report k r graph)) is = lone-mark s step n (seen.Whole (mark.Report k r graph)) is
  mark-leads s step n (seen.Whole (mark.Answer session number said)) is = absurd is
  mark-leads s step n (seen.Whole (mark.Sent to number message)) is = absurd is
  mark-leads s step n (seen.Sent to number message) is = lone-mark s step n (seen.Sent to number message) is
  mark-leads s step n (seen.Answer session number) is = lone-mark s step n (seen.Answer session number) is
  mark-leads s step n (seen.Whole (mark.Recheck round own v)) is =
      let own_line = blank_line (mark_line_text script (Own round own.edges)) in
      let end_line = blank_line (mark_line_text script (Ended round v)) in
      let between = mid s (Recheck step round own.edges n) in
      let after = mid s (Marks (marked step (seen.Whole (mark.Recheck round (own_graph own.edges) v))) n) in
      subst (λ g. Leads (mid s (Marks step n)) (own_line ∷ end_line ∷ []) (mid s (Marks (marked step (seen.Whole (mark.Recheck round (record { node = g; edges = own.edges }) v))) n))) (sym is.1.here)
      (onward (mid s (Marks step n)) between after (own_line ∷ []) (end_line ∷ [])
      (one (mid s (Marks step n)) between own_line (mark-line-read s step n (Own round own.edges) (is.0, record { here = refl; edges = is.1.edges; order = is.1.order })))
      (one between after end_line
      (ap (option_and_then (recheck_read s step round own.edges n)) (all-read (behind-word (codes "  ") (mark-lines script)) refl (Ended round v) (is.0, is.2))
      ∙ if-true (round == round) (Some after) None (same round))))
    where
      same : (k : ℕ) → (k == k) ≡ true
      same k = grind arith

  marks-lead : (s : Seen) (step : SeenStep) (n : ℕ) (ms : List SeenMark) → All (IsSeenMark script) ms
      → Leads (mid s (Marks step n)) (flat_map (mark_lines script) ms) (mid s (Marks (record { stamp = step.stamp; event = step.event; marks = step.marks ++ ms }) n))
  marks-lead s step n [] all = λ more. ap (λ x. run script more (mid s (Marks (record { stamp = step.stamp; event = step.event; marks = x }) n))) (sym (append-nil step.marks))
  marks-lead s step n (m ∷ ms) all =
      let next = mid s (Marks (marked step m) n) in
      onward (mid s (Marks step n)) next (mid s (Marks (record { stamp = step.stamp; event = step.event; marks = step.marks ++ m ∷ ms }) n)) (mark_lines script m) (flat_map (mark_lines script) ms)
      (mark-leads s step n m (All-head (IsSeenMark script) m ms all))
      (subst (λ x. Leads next (flat_map (mark_lines script) ms) (mid s (Marks (record { stamp = step.stamp; event = step.event; marks = x }) n))) (append_assoc step.marks (m ∷ []) ms)
      (marks-lead s (marked step m) n ms (All-tail (IsSeenMark script) m ms all)))

  -- STEPS
  moment-is : (step : SeenStep) → IsSeenStep script step → IsMoment script (moment_of_step step)
  moment-is step is = record { clock = is.clock; node = is.node; event = is.event }

  moment-read : (step : SeenStep) → IsSeenStep script step → all_of (moment script (moment_text script (moment_of_step step))) ≡ Some (moment_of_step step)
  moment-read step is = all-read (moments script) refl (moment_of_step step) (moment-is step is)

  no-blank : (step : SeenStep) → IsSeenStep script step → word (codes "  ") (moment_text script (moment_of_step step)) ≡ None
  no-blank step is =
      ap (word (codes "  ")) (append_assoc (decimal step.stamp.clock) _ _)
      ∙ not-word 32 (codes " ") step.stamp.clock _ (omega (arith, is.clock)) (λ d l. grind arith)

  -- from before the first step, or from behind another
  pub first-leads : (s : Seen) (step : SeenStep) (n : ℕ) → IsSeenStep script step → Leads (mid s (Steps (suc n))) (step_lines script step) (mid s (Marks step n))
  first-leads s step n is =
      let at = moment_of_step step in
      onward (mid s (Steps (suc n))) (mid s (Marks (begun at) n)) (mid s (Marks step n)) (moment_text script at ∷ []) (flat_map (mark_lines script) step.marks)
      (one (mid s (Steps (suc n))) (mid s (Marks (begun at) n)) (moment_text script at) (ap (option_and_then (event_read s (suc n))) (moment-read step is)))
      (marks-lead s (begun at) n step.marks is.marks)

  pub next-leads : (s : Seen) (last step : SeenStep) (n : ℕ) → IsSeenStep script step → Leads (mid s (Marks last (suc n))) (step_lines script step) (mid (stepped s last) (Marks step n))
  next-leads s last step n is =
      let at = moment_of_step step in
      let t = stepped s last in
      onward (mid s (Marks last (suc n))) (mid t (Marks (begun at) n)) (mid t (Marks step n)) (moment_text script at ∷ []) (flat_map (mark_lines script) step.marks)
      (one (mid s (Marks last (suc n))) (mid t (Marks (begun at) n)) (moment_text script at)
      (ap (step_line script s last (suc n) (moment_text script at)) (no-blank step is) ∙ ap (option_and_then (event_read t (suc n))) (moment-read step is)))
      (marks-lead t (begun at) n step.marks is.marks)

  abbrev with_steps : Seen → List SeenStep → Seen
  with_steps s more = record { answers = s.answers; tables = s.tables; steps = s.steps ++ more }

  -- the state at the end tells all steps
  record IsDone (s : Seen) (m : Mid) (ls : List (List ℕ)) (steps : List SeenStep) : Type 0 where
    pub last : Mid
    pub leads : Leads m ls last
    pub all : ended last.so_far last.next ≡ Some (with_steps s steps)

  steps-lead : (s : Seen) (last : SeenStep) (steps : List SeenStep) → All (IsSeenStep script) steps → IsDone s (mid s (Marks last (length steps))) (flat_map (step_lines script) steps) (last ∷ steps)
  steps-lead s last [] all = record { last = mid s (Marks last 0); leads = λ more. refl; all = refl }
  steps-lead s last (step ∷ steps) all =
      let n : length (step ∷ steps) ≡ suc (length steps) = omega arith in
      let rest = steps-lead (stepped s last) step steps (All-tail (IsSeenStep script) step steps all) in
      record {
        last = rest.last;
        leads =
            subst (λ k. Leads (mid s (Marks last k)) (flat_map (step_lines script) (step ∷ steps)) rest.last) (sym n)
            (onward (mid s (Marks last (suc (length steps)))) (mid (stepped s last) (Marks step (length steps))) rest.last (step_lines script step) (flat_map (step_lines script) steps)
            (next-leads s last step (length steps) (All-head (IsSeenStep script) step steps all)) rest.leads);
        all = rest.all ∙ ap (λ x. Some (record { answers = s.answers; tables = s.tables; steps = x })) (append_assoc s.steps (last ∷ []) (step ∷ steps));
      }

  all-steps-lead : (s : Seen) (steps : List SeenStep) → All (IsSeenStep script) steps → IsDone s (mid s (Steps (length steps))) (flat_map (step_lines script) steps) steps
  all-steps-lead s [] all =
      record { last = mid s (Steps 0); leads = λ more. refl; all = ap (λ x. Some (record { answers = s.answers; tables = s.tables; steps = x })) (sym (append-nil s.steps)) }
  all-steps-lead s (step ∷ steps) all =
      let n : length (step ∷ steps) ≡ suc (length steps) = omega arith in
      let rest = steps-lead s step steps (All-tail (IsSeenStep script) step steps all) in
      record {
        last = rest.last;
        leads =
            subst (λ k. Leads (mid s (Steps k)) (flat_map (step_lines script) (step ∷ steps)) rest.last) (sym n)
            (onward (mid s (Steps (suc (length steps)))) (mid s (Marks step (length steps))) rest.last (step_lines script step) (flat_map (step_lines script) steps)
            (first-leads s step (length steps) (All-head (IsSeenStep script) step steps all)) rest.leads);
        all = rest.all;
      }

  -- A TEXT
  abbrev nothing : Seen
  nothing = record { answers = []; tables = []; steps = [] }

  pub written : (s : Seen) → IsShown script s → All (λ (p : ℕ × ℕ). p.1 < 2 ^ 32) (all_places script.lines 0 script.sessions)
      → (last : Mid) × (run script (seen_lines script s) (start script) ≡ Some last) × (ended last.so_far last.next ≡ Some s)
  written s is small =
      let P : List (ℕ × ℕ) → Type 0 = All (λ (p : ℕ × ℕ). p.1 < 2 ^ 32) in
      let a : Seen = record { answers = s.answers; tables = []; steps = [] } in
      let t : Seen = record { answers = s.answers; tables = s.tables; steps = [] } in
      let steps = all-steps-lead t s.steps is.steps in
      let answers = flat_map (answer_lines script) s.answers in
      let tables = lines_of_tables script.tables s.tables in
      let trace = flat_map (step_lines script) s.steps in
      let from : Leads (start script) answers (mid a (Tables script.tables)) =
      subst (λ ps. Leads (mid nothing (behind_answers script ps)) answers (mid a (Tables script.tables))) is.whole (answers-lead nothing s.answers (subst P (sym is.whole) small) is.answers) in
      let to_run : Leads (mid t (Tables [])) (run_line (length s.steps) ∷ []) (mid t (Steps (length s.steps))) =
      one (mid t (Tables [])) (mid t (Steps (length s.steps))) (run_line (length s.steps)) (run-line-read t (length s.steps) is.count) in
      let to_end = onward (mid t (Tables [])) (mid t (Steps (length s.steps))) steps.last (run_line (length s.steps) ∷ []) trace to_run steps.leads in
      let to_trace = onward (mid a (Tables script.tables)) (mid t (Tables [])) steps.last tables (run_line (length s.steps) ∷ trace) (tables-lead a script.tables s.tables is.tables) to_end in
      let all = onward (start script) (mid a (Tables script.tables)) steps.last answers (tables ++ run_line (length s.steps) ∷ trace) from to_trace in
      (steps.last, ap (λ ls. run script ls (start script)) (sym (append-nil (seen_lines script s))) ∙ all [], steps.all)
