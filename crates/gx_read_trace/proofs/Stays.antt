-- A line that is read adds itself to what the state prints, and keeps what holds.
use Rattle.std.proofs.Common.{◌≡◌, ℕ, zero, suc, ◌+◌, ◌^◌, ◌<◌, ◌==◌, Bool, true, false, if◌then◌else◌, List, [], ◌∷◌, ◌++◌, length, map, codes}
use Rattle.std.proofs.Common.{Option, Some, None, refl, sym, ◌∙◌, ap, subst, arith, append_assoc, append-nil}
use Rattle.std.specs.Prelude.{All, option_and_then}
use Rattle.std.specs.List.{flat_map}
use Rattle.std.proofs.lemmas.List.Elements.{All-head, All-nil}
use Rattle.std.proofs.lemmas.Option.{none-some, same_Some}
use Rattle.gx_report.specs.Words.{session_name}
use Rattle.gx_script.specs.declared.Script.{Script}
use Rattle.gx_store.specs.Refusals.{the_coordinator}
use Rattle.gx_store.specs.declared.answer.StmtAnswer.{StmtAnswer}
use Rattle.gx_store.specs.declared.answer.StmtAnswer.TheVariants as answer
use Rattle.gx_store.specs.declared.mark.Mark.TheVariants as mark
use Rattle.gx_tree.specs.declared.cell.Cell.{Cell}
use Rattle.gx_tree.specs.declared.schema.Schema.{Schema}
use Rattle.gx_tree.specs.declared.value.Value.{Value}
use Rattle.gx_waits.specs.declared.edge.Edge.{Edge}
use Rattle.gx_trace.specs.Lawful.{IsAnswer, IsGraph, IsOutRow, IsSeenMark}
use Rattle.gx_trace.specs.Names.{session_of}
use Rattle.gx_trace.specs.Readers.{Front, word}
use Rattle.gx_trace.specs.Shown.{AreTables, IsRowOf, IsSeenStep, IsShown, all_places, place_of}
use Rattle.gx_trace.specs.declared.seen.Seen.{Seen}
use Rattle.gx_trace.specs.declared.seen.SeenAnswer.{SeenAnswer}
use Rattle.gx_trace.specs.declared.seen.SeenMark.{SeenMark}
use Rattle.gx_trace.specs.declared.seen.SeenMark.TheVariants as seen
use Rattle.gx_trace.specs.declared.seen.SeenStep.{SeenStep}
use Rattle.gx_trace.proofs.ReadFields.{counts}
use Rattle.gx_trace.proofs.Readers.{behind-word}
use Rattle.gx_trace.proofs.Words.{word-sound}
use Rattle.gx_trace_lines.specs.Answers.{answer_head_text}
use Rattle.gx_trace_lines.specs.Cells.{out_row_text}
use Rattle.gx_trace_lines.specs.Events.{IsMoment, moment_text}
use Rattle.gx_trace_lines.specs.Heads.{IsHead}
use Rattle.gx_trace_lines.specs.Marks.{IsMarkLine, mark_line_text, own_graph}
use Rattle.gx_trace_lines.specs.Tables.{table_head_text, table_row_text}
use Rattle.gx_trace_lines.specs.declared.events.Moment.{Moment}
use Rattle.gx_trace_lines.specs.declared.heads.AnswerHead.{AnswerHead}
use Rattle.gx_trace_lines.specs.declared.heads.AnswerHead.TheVariants.{Said, Rows}
use Rattle.gx_trace_lines.specs.declared.marks.MarkLine.{MarkLine}
use Rattle.gx_trace_lines.specs.declared.marks.MarkLine.TheVariants.{Alone, Own, Ended}
use Rattle.gx_trace_lines.proofs.ReadCells.{out-rows}
use Rattle.gx_trace_lines.proofs.ReadEvents.{moments}
use Rattle.gx_trace_lines.proofs.ReadHeads.{answer-heads}
use Rattle.gx_trace_lines.proofs.ReadMarks.{mark-lines}
use Rattle.gx_trace_lines.proofs.ReadTables.{table-heads, table-rows}
use Rattle.gx_read_trace.specs.Lines.{answer_lines, blank_line, lines_of_answer, lines_of_table, lines_of_tables, mark_lines, moment_of_step, run_line, seen_lines, step_lines}
use Rattle.gx_read_trace.specs.Machine.{Mid, Where, answer_begun, answer_row, answered, begun, behind_answers, ended, event_read, listed, mark_read, marked, next_line}
use Rattle.gx_read_trace.specs.Machine.{recheck_read, run, start, step_line, stepped, table_begun, table_row_read}
use Rattle.gx_read_trace.specs.Machine.{Answers, AnswerRows, Tables, TableRows, Steps, Marks, Recheck}
use Rattle.gx_read_trace.proofs.Alone.{alone}
use Rattle.gx_read_trace.proofs.Longer.{all-behind, all-more, are-more, flat-more, length-more, map-more, no-tables, of-line, rows-more, tables-more}

module _ (script : Script) where
  abbrev pub places : List (ℕ × ℕ)
  places = all_places script.lines 0 script.sessions

  abbrev pub name_of : ℕ × ℕ → List ℕ
  name_of p = session_name script (session_of p.0)

  abbrev pub answers_of : Seen → List (List ℕ)
  answers_of s = flat_map (answer_lines script) s.answers

  abbrev pub before_run : Seen → List (List ℕ)
  before_run s = answers_of s ++ lines_of_tables script.tables s.tables

  -- with so many steps still to come
  abbrev pub behind_steps : Seen → ℕ → List (List ℕ)
  behind_steps s n = before_run s ++ (run_line (length s.steps + n) ∷ flat_map (step_lines script) s.steps)

  abbrev pub within : Seen → SeenStep → ℕ → List (List ℕ)
  within s step n = before_run s ++ (run_line (length s.steps + suc n) ∷ (flat_map (step_lines script) s.steps ++ step_lines script step))

  -- the lines that lead to a state
  abbrev pub printed : Seen → Where → List (List ℕ)
  printed s (Answers ps) = answers_of s
  printed s (AnswerRows p rows others ps) = answers_of s ++ (answer_head_text (name_of p) p.1 (Rows (length rows + suc others)) ∷ map out_row_text rows)
  printed s (Tables ss) = before_run s
  printed s (TableRows t rows others ss) = before_run s ++ (table_head_text t.name (length rows + suc others) ∷ map table_row_text rows)
  printed s (Steps n) = before_run s ++ run_line n ∷ []
  printed s (Marks step n) = within s step n
  printed s (Recheck step round edges n) = within s step n ++ blank_line (mark_line_text script (Own round edges)) ∷ []

  -- the answers before these places
  pub record AreAnswers (s : Seen) (ps : List (ℕ × ℕ)) : Type 0 where
    pub places_are : map place_of s.answers ++ ps ≡ places
    pub lawful : All (λ (said : SeenAnswer). IsAnswer said.answer) s.answers

  -- all answers, and the tables before these
  pub record AreListed (s : Seen) (ss : List Schema) : Type 0 where
    pub answers : AreAnswers s []
    pub done : List Schema
    pub parts : script.tables ≡ done ++ ss
    pub tables : AreTables done s.tables

  pub record AreStepped (s : Seen) (last : SeenStep) (n : ℕ) : Type 0 where
    pub listed : AreListed s []
    pub steps : All (IsSeenStep script) s.steps
    pub step : IsSeenStep script last
    pub count : length s.steps + suc n < 2 ^ 64

  abbrev pub IsMid : Seen → Where → Type 0
  IsMid s (Answers []) = ⊥
  IsMid s (Answers (p ∷ ps)) = AreAnswers s (p ∷ ps) × (s.tables ≡ []) × (s.steps ≡ [])
  IsMid s (AnswerRows p rows others ps) = AreAnswers s (p ∷ ps) × (s.tables ≡ []) × (s.steps ≡ []) × (length rows + suc others < 2 ^ 64) × All IsOutRow rows
  IsMid s (Tables ss) = AreListed s ss × (s.steps ≡ [])
  IsMid s (TableRows t rows others ss) = AreListed s (t ∷ ss) × (s.steps ≡ []) × (length rows + suc others < 2 ^ 64) × All (IsRowOf t) rows
  IsMid s (Steps n) = AreListed s [] × (s.steps ≡ []) × (n < 2 ^ 64)
  IsMid s (Marks step n) = AreStepped s step n
  IsMid s (Recheck step round edges n) = AreStepped s step n × (round < 2 ^ 64) × IsGraph the_coordinator (own_graph edges)

  -- a state to which these lines lead
  abbrev pub IsAt : Mid → List (List ℕ) → Type 0
  IsAt m before = IsMid m.so_far m.next × (printed m.so_far m.next ≡ before)

  -- what a line makes of a state with these lines before it
  abbrev pub Keeps : List (List ℕ) → List ℕ → Option Mid → Type 0
  Keeps before line None = Unit {0}
  Keeps before line (Some m) = IsAt m (before ++ line ∷ [])

  -- ANSWERS
  behind-answers : (s : Seen) (ps : List (ℕ × ℕ)) → AreAnswers s ps → s.tables ≡ [] → s.steps ≡ [] → IsMid s (behind_answers script ps) × (printed s (behind_answers script ps) ≡ answers_of s)
  behind-answers s [] are nt ns = (
    (record { answers = are; done = []; parts = refl; tables = subst (AreTables []) (sym nt) tt }, ns),
    ap (λ x. answers_of s ++ lines_of_tables script.tables x) nt ∙ ap (λ z. answers_of s ++ z) (no-tables script.tables) ∙ append-nil (answers_of s),
  )
  behind-answers s (p ∷ ps) are nt ns = ((are, nt, ns), refl)

  answered-at : (s : Seen) (p : ℕ × ℕ) (ps : List (ℕ × ℕ)) (said : StmtAnswer) → AreAnswers s (p ∷ ps) → s.tables ≡ [] → s.steps ≡ [] → IsAnswer said
      → IsAt (answered script s p said ps) (answers_of s ++ lines_of_answer (name_of p) p.1 said)
  answered-at s p ps said are nt ns is =
      let a : SeenAnswer = record { session = session_of p.0; number = p.1; answer = said } in
      let t : Seen = record { answers = s.answers ++ a ∷ []; tables = s.tables; steps = s.steps } in
      let more : AreAnswers t ps = record {
        places_are = ap (λ x. x ++ ps) (map-more place_of s.answers a) ∙ append_assoc (map place_of s.answers) (p ∷ []) ps ∙ are.places_are;
        lawful = all-more (λ (said : SeenAnswer). IsAnswer said.answer) s.answers a are.lawful is;
      } in
      let (here, shows) = behind-answers t ps more nt ns in
      (here, shows ∙ flat-more (answer_lines script) s.answers a)

  head-at : (s : Seen) (p : ℕ × ℕ) (ps : List (ℕ × ℕ)) (h : AnswerHead) → AreAnswers s (p ∷ ps) → s.tables ≡ [] → s.steps ≡ [] → IsHead h
      → IsAt (answer_begun script s p ps h) (answers_of s ++ answer_head_text (name_of p) p.1 h ∷ [])
  head-at s p ps (Said answer.Begin) are nt ns is = answered-at s p ps answer.Begin are nt ns is
  head-at s p ps (Said answer.Commit) are nt ns is = answered-at s p ps answer.Commit are nt ns is
  head-at s p ps (Said answer.Rollback) are nt ns is = answered-at s p ps answer.Rollback are nt ns is
  head-at s p ps (Said answer.Locked) are nt ns is = answered-at s p ps answer.Locked are nt ns is
  head-at s p ps (Said (answer.Inserted n)) are nt ns is = answered-at s p ps (answer.Inserted n) are nt ns is
  head-at s p ps (Said (answer.Updated n)) are nt ns is = answered-at s p ps (answer.Updated n) are nt ns is
  head-at s p ps (Said (answer.Deleted n)) are nt ns is = answered-at s p ps (answer.Deleted n) are nt ns is
  head-at s p ps (Said (answer.Refused why)) are nt ns is = answered-at s p ps (answer.Refused why) are nt ns is
  head-at s p ps (Said (answer.Rows rows)) are nt ns is = absurd is
  head-at s p ps (Rows zero) are nt ns is =
      subst (λ k. IsAt (answered script s p (answer.Rows []) ps) (answers_of s ++ answer_head_text (name_of p) p.1 (Rows k) ∷ [])) none
      (answered-at s p ps (answer.Rows []) are nt ns (omega (arith, none), All-nil IsOutRow))
    where
      none : length {A = List Cell} [] ≡ 0
      none = omega arith
  head-at s p ps (Rows (suc n)) are nt ns is = ((are, nt, ns, omega (arith, none, is), All-nil IsOutRow), ap (λ k. answers_of s ++ answer_head_text (name_of p) p.1 (Rows k) ∷ []) none)
    where
      none : length {A = List Cell} [] + suc n ≡ suc n
      none = omega arith

  row-at : (s : Seen) (p : ℕ × ℕ) (rows : List (List Cell)) (n : ℕ) (ps : List (ℕ × ℕ)) (row : List Cell) → IsMid s (AnswerRows p rows n ps) → IsOutRow row
      → IsAt (answer_row script s p rows n ps row) (printed s (AnswerRows p rows n ps) ++ out_row_text row ∷ [])
  row-at s p rows zero ps row is lawful =
      let k : length (rows ++ row ∷ []) ≡ length rows + suc zero = omega (arith, length-more rows row) in
      let (here, shows) = answered-at s p ps (answer.Rows (rows ++ row ∷ [])) is.0 is.1 is.2 (omega (arith, is.3, k), all-more IsOutRow rows row is.4 lawful) in
      (here, shows ∙ rows-more out_row_text (answers_of s) (λ j. answer_head_text (name_of p) p.1 (Rows j)) rows row (length (rows ++ row ∷ [])) (length rows + suc zero) k)
  row-at s p rows (suc n) ps row is lawful =
      let k : length (rows ++ row ∷ []) + suc n ≡ length rows + suc (suc n) = omega (arith, length-more rows row) in (
        (is.0, is.1, is.2, omega (arith, is.3, k), all-more IsOutRow rows row is.4 lawful),
        rows-more out_row_text (answers_of s) (λ j. answer_head_text (name_of p) p.1 (Rows j)) rows row (length (rows ++ row ∷ []) + suc n) (length rows + suc (suc n)) k,
      )

  number-fits : (s : Seen) (p : ℕ × ℕ) (ps : List (ℕ × ℕ)) → All (λ (q : ℕ × ℕ). q.1 < 2 ^ 32) places → AreAnswers s (p ∷ ps) → p.1 < 2 ^ 32
  number-fits s p ps small are =
      let P : ℕ × ℕ → Type 0 = λ q. q.1 < 2 ^ 32 in
      All-head P p ps (all-behind P (map place_of s.answers) (p ∷ ps) (subst (All P) (sym are.places_are) small))

  -- TABLES
  listed-at : (s : Seen) (t : Schema) (ss : List Schema) (rows : List (List Value)) → AreListed s (t ∷ ss) → s.steps ≡ [] → length rows < 2 ^ 64 → All (IsRowOf t) rows
      → IsAt (listed s rows ss) (before_run s ++ lines_of_table t.name rows)
  listed-at s t ss rows are ns small all = (
    (
      record {
        answers = record { places_are = are.answers.places_are; lawful = are.answers.lawful };
        done = are.done ++ t ∷ [];
        parts = are.parts ∙ sym (append_assoc are.done (t ∷ []) ss);
        tables = are-more are.done t s.tables rows are.tables small all;
      },
      ns,
    ),
    ap (λ z. answers_of s ++ z) (ap (λ x. lines_of_tables x (s.tables ++ rows ∷ [])) are.parts ∙ tables-more are.done ss t s.tables rows are.tables ∙ ap (λ x. lines_of_tables x s.tables ++ lines_of_table t.name rows) (sym are.parts))
        ∙ sym (append_assoc (answers_of s) (lines_of_tables script.tables s.tables) (lines_of_table t.name rows)),
  )

  table-at : (s : Seen) (t : Schema) (ss : List Schema) (n : ℕ) → AreListed s (t ∷ ss) → s.steps ≡ [] → n < 2 ^ 64 → IsAt (table_begun s t ss n) (before_run s ++ table_head_text t.name n ∷ [])
  table-at s t ss zero are ns small =
      subst (λ k. IsAt (listed s [] ss) (before_run s ++ table_head_text t.name k ∷ [])) none (listed-at s t ss [] are ns (omega (arith, none)) (All-nil (IsRowOf t)))
    where
      none : length {A = List Value} [] ≡ 0
      none = omega arith
  table-at s t ss (suc n) are ns small = ((are, ns, omega (arith, none, small), All-nil (IsRowOf t)), ap (λ k. before_run s ++ table_head_text t.name k ∷ []) none)
    where
      none : length {A = List Value} [] + suc n ≡ suc n
      none = omega arith

  table-row-at : (s : Seen) (t : Schema) (rows : List (List Value)) (n : ℕ) (ss : List Schema) (row : List Value) → IsMid s (TableRows t rows n ss) → IsRowOf t row
      → IsAt (table_row_read s t rows n ss row) (printed s (TableRows t rows n ss) ++ table_row_text row ∷ [])
  table-row-at s t rows zero ss row is lawful =
      let k : length (rows ++ row ∷ []) ≡ length rows + suc zero = omega (arith, length-more rows row) in
      let (here, shows) = listed-at s t ss (rows ++ row ∷ []) is.0 is.1 (omega (arith, is.2, k)) (all-more (IsRowOf t) rows row is.3 lawful) in
      (here, shows ∙ rows-more table_row_text (before_run s) (table_head_text t.name) rows row (length (rows ++ row ∷ [])) (length rows + suc zero) k)
  table-row-at s t rows (suc n) ss row is lawful =
      let k : length (rows ++ row ∷ []) + suc n ≡ length rows + suc (suc n) = omega (arith, length-more rows row) in (
        (is.0, is.1, omega (arith, is.2, k), all-more (IsRowOf t) rows row is.3 lawful),
        rows-more table_row_text (before_run s) (table_head_text t.name) rows row (length (rows ++ row ∷ []) + suc n) (length rows + suc (suc n)) k,
      )

  -- STEPS
  begun-at : (s : Seen) (n : ℕ) (at : Moment) → AreListed s [] → All (IsSeenStep script) s.steps → length s.steps + suc n < 2 ^ 64 → IsMoment script at
      → IsAt (record { so_far = s; next = Marks (begun at) n }) (behind_steps s (suc n) ++ moment_text script at ∷ [])
  begun-at s n at listed all small is = (
    record { listed = listed; steps = all; step = record { clock = is.clock; node = is.node; event = is.event; marks = All-nil (IsSeenMark script) }; count = small },
    sym (append_assoc (before_run s) (run_line (length s.steps + suc n) ∷ flat_map (step_lines script) s.steps) (moment_text script at ∷ [])),
  )

  no-steps : (steps : List SeenStep) (n : ℕ) → steps ≡ [] → run_line (length steps + n) ∷ flat_map (step_lines script) steps ≡ run_line n ∷ []
  no-steps steps n e = subst (λ x. run_line (length x + n) ∷ flat_map (step_lines script) x ≡ run_line n ∷ []) (sym e) (ap (λ k. run_line k ∷ []) none)
    where
      none : length {A = SeenStep} [] + n ≡ n
      none = omega arith

  few-steps : (steps : List SeenStep) (n : ℕ) → steps ≡ [] → n < 2 ^ 64 → length steps + n < 2 ^ 64
  few-steps steps n e small = subst (λ x. length x + n < 2 ^ 64) (sym e) (omega (arith, small))

  first-at : (s : Seen) (n : ℕ) (at : Moment) → IsMid s (Steps n) → IsMoment script at → Keeps (printed s (Steps n)) (moment_text script at) (event_read s n at)
  first-at s zero at is lawful = tt
  first-at s (suc n) at is lawful =
      let (here, shows) = begun-at s n at is.0 (subst (All (IsSeenStep script)) (sym is.1) (All-nil (IsSeenStep script))) (few-steps s.steps (suc n) is.1 is.2) lawful in
      (here, shows ∙ ap (λ x. (before_run s ++ x) ++ moment_text script at ∷ []) (no-steps s.steps (suc n) is.1))

  is-listed : (s : Seen) (step : SeenStep) → AreListed s [] → AreListed (stepped s step) []
  is-listed s step are = record { answers = record { places_are = are.answers.places_are; lawful = are.answers.lawful }; done = are.done; parts = are.parts; tables = are.tables }

  next-at : (s : Seen) (step : SeenStep) (n : ℕ) (at : Moment) → AreStepped s step n → IsMoment script at → Keeps (within s step n) (moment_text script at) (event_read (stepped s step) n at)
  next-at s step zero at is lawful = tt
  next-at s step (suc n) at is lawful =
      let k : length (s.steps ++ step ∷ []) + suc n ≡ length s.steps + suc (suc n) = omega (arith, length-more s.steps step) in
      let (here, shows) = begun-at (stepped s step) n at (is-listed s step is.listed) (all-more (IsSeenStep script) s.steps step is.steps is.step) (omega (arith, is.count, k)) lawful in
      (here, shows ∙ (λ i. (before_run s ++ (run_line (k i) ∷ flat-more (step_lines script) s.steps step i)) ++ moment_text script at ∷ []))

  -- MARKS
  marks-more : (s : Seen) (step : SeenStep) (n : ℕ) (m : SeenMark) → within s (marked step m) n ≡ within s step n ++ mark_lines script m
  marks-more s step n m =
      let r = run_line (length s.steps + suc n) in
      let steps = flat_map (step_lines script) s.steps in
      let event = moment_text script (moment_of_step step) in
      let marks = flat_map (mark_lines script) step.marks in
      ap (λ z. before_run s ++ (r ∷ (steps ++ (event ∷ z)))) (flat-more (mark_lines script) step.marks m)
      ∙ ap (λ z. before_run s ++ (r ∷ z)) (sym (append_assoc steps (event ∷ marks) (mark_lines script m)))
      ∙ sym (append_assoc (before_run s) (r ∷ (steps ++ (event ∷ marks))) (mark_lines script m))

  marked-at : (s : Seen) (step : SeenStep) (n : ℕ) (m : SeenMark) → AreStepped s step n → IsSeenMark script m → IsAt (record { so_far = s; next = Marks (marked step m) n }) (within s step n ++ mark_lines script m)
  marked-at s step n m is lawful = (
    record {
      listed = is.listed;
      steps = is.steps;
      step = record { clock = is.step.clock; node = is.step.node; event = is.step.event; marks = all-more (IsSeenMark script) step.marks m is.step.marks lawful };
      count = is.count;
    },
    marks-more s step n m,
  )

  mark-at : (s : Seen) (step : SeenStep) (n : ℕ) (m : MarkLine) → AreStepped s step n → IsMarkLine script m → Keeps (within s step n) (blank_line (mark_line_text script m)) (mark_read s step n m)
  mark-at s step n (Alone m) is lawful =
      let (good, one) = alone script m lawful in
      subst (λ x. IsAt (record { so_far = s; next = Marks (marked step m) n }) (within s step n ++ x)) one (marked-at s step n m is good)
  mark-at s step n (Own round edges) is lawful = ((is, lawful.0, lawful.1), refl)
  mark-at s step n (Ended round verdict) is lawful = tt

  recheck-at : (s : Seen) (step : SeenStep) (round : ℕ) (edges : List Edge) (n : ℕ) (m : MarkLine) → IsMid s (Recheck step round edges n) → IsMarkLine script m
      → Keeps (printed s (Recheck step round edges n)) (blank_line (mark_line_text script m)) (recheck_read s step round edges n m)
  recheck-at s step round edges n (Alone m) is lawful = tt
  recheck-at s step round edges n (Own other more) is lawful = tt
  recheck-at s step round edges n (Ended other verdict) is lawful = by (other == round) refl
    where
      by : (c : Bool) → (other == round) ≡ c
          → Keeps (printed s (Recheck step round edges n)) (blank_line (mark_line_text script (Ended other verdict)))
          (if c then Some (record { so_far = s; next = Marks (marked step (seen.Whole (mark.Recheck round (own_graph edges) verdict))) n }) else None)
      by false e = tt
      by true e =
          let same : round ≡ other = grind (arith, e) in
          let first = blank_line (mark_line_text script (Own round edges)) in
          let m : SeenMark = seen.Whole (mark.Recheck round (own_graph edges) verdict) in
          let (here, shows) = marked-at s step n m is.0 (is.1, is.2, lawful.1) in (
            here,
            shows ∙ ap (λ k. within s step n ++ (first ∷ blank_line (mark_line_text script (Ended k verdict)) ∷ [])) same
                ∙ sym (append_assoc (within s step n) (first ∷ []) (blank_line (mark_line_text script (Ended other verdict)) ∷ [])),
          )

  step-line-stays : (s : Seen) (step : SeenStep) (n : ℕ) (line : List ℕ) → AreStepped s step n → Keeps (within s step n) line (step_line script s step n line (word (codes "  ") line))
  step-line-stays s step n line is = by (word (codes "  ") line) refl
    where
      by : (o : Front (Unit {0})) → word (codes "  ") line ≡ o → Keeps (within s step n) line (step_line script s step n line o)
      by None e = of-line (Keeps (within s step n)) (moments script) (event_read (stepped s step) n) line tt (λ at lawful. next-at s step n at is lawful)
      by (Some x) e =
          subst (λ l. Keeps (within s step n) l (step_line script s step n line (Some x))) (sym (word-sound (codes "  ") line x.1 e))
          (of-line (λ l. Keeps (within s step n) (blank_line l)) (mark-lines script) (mark_read s step n) x.1 tt (λ m lawful. mark-at s step n m is lawful))

  -- LINES
  stays : (s : Seen) (at : Where) (line : List ℕ) → All (λ (p : ℕ × ℕ). p.1 < 2 ^ 32) places → IsMid s at → Keeps (printed s at) line (next_line script s at line)
  stays s (Answers []) line small is = tt
  stays s (Answers (p ∷ ps)) line small is =
      of-line (Keeps (answers_of s)) (answer-heads (name_of p) p.1 (number-fits s p ps small is.0)) (λ h. Some (answer_begun script s p ps h)) line tt (λ h lawful. head-at s p ps h is.0 is.1 is.2 lawful)
  stays s (AnswerRows p rows n ps) line small is =
      of-line (Keeps (printed s (AnswerRows p rows n ps))) out-rows (λ row. Some (answer_row script s p rows n ps row)) line tt (λ row lawful. row-at s p rows n ps row is lawful)
  stays s (Tables []) line small is =
      of-line (Keeps (before_run s)) (behind-word (codes "run") counts) (λ n. Some (record { so_far = s; next = Steps n })) line tt (λ n lawful. ((is.0, is.1, lawful), refl))
  stays s (Tables (t ∷ ss)) line small is =
      of-line (Keeps (before_run s)) (table-heads t.name) (λ n. Some (table_begun s t ss n)) line tt (λ n lawful. table-at s t ss n is.0 is.1 lawful)
  stays s (TableRows t rows n ss) line small is =
      of-line (Keeps (printed s (TableRows t rows n ss))) (table-rows t) (λ row. Some (table_row_read s t rows n ss row)) line tt (λ row lawful. table-row-at s t rows n ss row is lawful)
  stays s (Steps n) line small is = of-line (Keeps (printed s (Steps n))) (moments script) (event_read s n) line tt (λ at lawful. first-at s n at is lawful)
  stays s (Marks step n) line small is = step-line-stays s step n line is
  stays s (Recheck step round edges n) line small is =
      of-line (Keeps (printed s (Recheck step round edges n))) (behind-word (codes "  ") (mark-lines script)) (recheck_read s step round edges n) line tt (λ m lawful. recheck-at s step round edges n m is lawful)

  pub led : (ls : List (List ℕ)) (m last : Mid) (before : List (List ℕ)) → All (λ (p : ℕ × ℕ). p.1 < 2 ^ 32) places → IsAt m before → run script ls m ≡ Some last → IsAt last (before ++ ls)
  led [] m last before small is e = subst (λ x. IsAt x (before ++ [])) (same_Some m last e) (is.0, is.1 ∙ sym (append-nil before))
  led (l ∷ ls) m last before small is e =
      by (next_line script m.so_far m.next l) (subst (λ b. Keeps b l (next_line script m.so_far m.next l)) is.1 (stays m.so_far m.next l small is.0)) e
      (λ n here q. led ls n last (before ++ l ∷ []) small here q)
    where
      by : (o : Option Mid) → Keeps before l o → option_and_then (run script ls) o ≡ Some last
          → ((n : Mid) → IsAt n (before ++ l ∷ []) → run script ls n ≡ Some last → IsAt last ((before ++ l ∷ []) ++ ls)) → IsAt last (before ++ (l ∷ ls))
      by None here q rest = absurd (none-some last q)
      by (Some n) here q rest = subst (IsAt last) (append_assoc before (l ∷ []) ls) (rest n here q)

  -- ENDS
  shown-of : (s : Seen) → AreListed s [] → length s.steps < 2 ^ 64 → All (IsSeenStep script) s.steps → IsShown script s
  shown-of s are small all = record {
    whole = sym (append-nil (map place_of s.answers)) ∙ are.answers.places_are;
    answers = are.answers.lawful;
    tables = subst (λ x. AreTables x s.tables) (sym (are.parts ∙ append-nil are.done)) are.tables;
    count = small;
    steps = all;
  }

  lines-of : (s : Seen) (k : ℕ) (steps : List (List ℕ)) → k ≡ length s.steps → steps ≡ flat_map (step_lines script) s.steps → before_run s ++ (run_line k ∷ steps) ≡ seen_lines script s
  lines-of s k steps a b = (λ i. before_run s ++ (run_line (a i) ∷ b i)) ∙ append_assoc (answers_of s) (lines_of_tables script.tables s.tables) (run_line (length s.steps) ∷ flat_map (step_lines script) s.steps)

  abbrev IsSeen : List (List ℕ) → Seen → Type 0
  IsSeen ls s = IsShown script s × (ls ≡ seen_lines script s)

  at-end : (s : Seen) (at : Where) (tells : Seen) → IsMid s at → ended s at ≡ Some tells → IsSeen (printed s at) tells
  at-end s (Answers ps) tells is e = absurd (none-some tells e)
  at-end s (AnswerRows p rows n ps) tells is e = absurd (none-some tells e)
  at-end s (Tables ss) tells is e = absurd (none-some tells e)
  at-end s (TableRows t rows n ss) tells is e = absurd (none-some tells e)
  at-end s (Steps (suc n)) tells is e = absurd (none-some tells e)
  at-end s (Marks step (suc n)) tells is e = absurd (none-some tells e)
  at-end s (Recheck step round edges n) tells is e = absurd (none-some tells e)
  at-end s (Steps zero) tells is e =
      let none : length s.steps ≡ 0 = ap (λ x. length x) is.1 ∙ nothing in
      subst (IsSeen (printed s (Steps zero))) (same_Some s tells e)
      (shown-of s is.0 (omega (arith, none)) (subst (All (IsSeenStep script)) (sym is.1) (All-nil (IsSeenStep script))), lines-of s 0 [] (sym none) (ap (flat_map (step_lines script)) (sym is.1)))
    where
      nothing : length {A = SeenStep} [] ≡ 0
      nothing = omega arith
  at-end s (Marks step zero) tells is e =
      let k : length (s.steps ++ step ∷ []) ≡ length s.steps + suc zero = omega (arith, length-more s.steps step) in
      subst (IsSeen (within s step zero)) (same_Some (stepped s step) tells e) (
        shown-of (stepped s step) (is-listed s step is.listed) (omega (arith, is.count, k)) (all-more (IsSeenStep script) s.steps step is.steps is.step),
        lines-of (stepped s step) (length s.steps + suc zero) (flat_map (step_lines script) s.steps ++ step_lines script step) (sym k) (sym (flat-more (step_lines script) s.steps step)),
      )

  pub from-start : IsAt (start script) []
  from-start = behind-answers (record { answers = []; tables = []; steps = [] }) places (record { places_are = refl; lawful = All-nil (λ (said : SeenAnswer). IsAnswer said.answer) }) refl refl

  -- what is read of lines is shown by them
  pub read-back : (ls : List (List ℕ)) (last : Mid) (tells : Seen) → All (λ (p : ℕ × ℕ). p.1 < 2 ^ 32) places → run script ls (start script) ≡ Some last → ended last.so_far last.next ≡ Some tells
      → IsShown script tells × (ls ≡ seen_lines script tells)
  read-back ls last tells small leads e =
      let (here, shows) = led ls (start script) last [] small from-start leads in
      let (lawful, same) = at-end last.so_far last.next tells here e in
      (lawful, sym shows ∙ same)
