-- From each state some lines lead to an end, so lines that are taken are those that a text begins with.
use Rattle.std.proofs.Common.{◌≡◌, ◌≢◌, ℕ, zero, suc, ◌^◌, ◌<◌, ◌==◌, true, List, [], ◌∷◌, ◌++◌, length, map, codes, Option, Some, None, refl, sym, ◌∙◌, ap, subst, arith}
use Rattle.std.specs.Prelude.{All, option_and_then, pos}
use Rattle.std.proofs.lemmas.List.Elements.{All-cons, All-head, All-nil, All-tail}
use Rattle.std.proofs.lemmas.Option.{none-some}
use Rattle.gx_meaning.specs.Kinds.{kinds_of}
use Rattle.gx_script.specs.declared.Script.{Script}
use Rattle.gx_store.specs.declared.answer.StmtAnswer.TheVariants as answer
use Rattle.gx_store.specs.declared.event.Event.TheVariants as event
use Rattle.gx_store.specs.declared.mark.Mark.TheVariants as mark
use Rattle.gx_tree.specs.declared.cell.Cell.{Cell}
use Rattle.gx_tree.specs.declared.cell.Cell.TheVariants as cell
use Rattle.gx_tree.specs.declared.schema.Column.{Column}
use Rattle.gx_tree.specs.declared.schema.Kind.{Kind}
use Rattle.gx_tree.specs.declared.schema.Kind.TheVariants as kind
use Rattle.gx_tree.specs.declared.schema.Schema.{Schema}
use Rattle.gx_tree.specs.declared.value.Value.{Value}
use Rattle.gx_tree.specs.declared.value.Value.TheVariants as value
use Rattle.gx_waits.specs.declared.edge.Edge.{Edge}
use Rattle.gx_waits.specs.declared.verdict.Verdict.TheVariants as verdict
use Rattle.gx_trace.specs.Fields.{node_of}
use Rattle.gx_trace.specs.Lawful.{IsCell, IsSeenMark, IsValue}
use Rattle.gx_trace.specs.Shown.{IsRowOf, IsSeenStep, all_places, kind_of, place_of}
use Rattle.gx_trace.specs.declared.seen.Seen.{Seen}
use Rattle.gx_trace.specs.declared.seen.SeenMark.TheVariants as seen
use Rattle.gx_trace.specs.declared.seen.SeenStep.{SeenStep}
use Rattle.gx_trace.proofs.Readers.{behind-word}
use Rattle.gx_trace.proofs.Words.{if-true}
use Rattle.gx_trace_lines.specs.Cells.{out_row_text}
use Rattle.gx_trace_lines.specs.Marks.{mark_line_text, own_graph}
use Rattle.gx_trace_lines.specs.Tables.{table_row_text}
use Rattle.gx_trace_lines.specs.declared.marks.MarkLine.TheVariants.{Ended}
use Rattle.gx_trace_lines.proofs.ReadMarks.{mark-lines}
use Rattle.gx_read_trace.specs.Lines.{blank_line, lines_of_answer, lines_of_table, run_line, step_lines}
use Rattle.gx_read_trace.specs.Machine.{Mid, Where, answered, behind_answers, ended, listed, marked, next_line, recheck_read, run, start, stepped}
use Rattle.gx_read_trace.specs.Machine.{Answers, AnswerRows, Tables, TableRows, Steps, Marks, Recheck}
use Rattle.gx_read_trace.specs.Reading.{AreTaken, BeginText}
use Rattle.gx_read_trace.proofs.Longer.{all-behind}
use Rattle.gx_read_trace.proofs.Stays.{AreAnswers, IsMid, from-start, led, read-back}
use Rattle.gx_read_trace.proofs.Written.{Leads, all-read, answer-leads, first-leads, mid, name_of, next-leads, one, row-read, run-line-read, table-leads, table-row-read, written}

-- a row for these columns
abbrev some_value : Kind → Value
some_value kind.Int = value.Int (pos 0)
some_value kind.Text = value.Text []

abbrev some_row : List Column → List Value
some_row [] = []
some_row (c ∷ cs) = some_value c.kind ∷ some_row cs

its-kinds : (cs : List Column) → kinds_of (some_row cs) ≡ map kind_of cs
its-kinds [] = refl
its-kinds (c ∷ cs) = by c.kind (its-kinds cs)
  where
    by : (k : Kind) → kinds_of (some_row cs) ≡ map kind_of cs → kinds_of (some_value k ∷ some_row cs) ≡ k ∷ map kind_of cs
    by kind.Int rest = ap (λ z. kind.Int ∷ z) rest
    by kind.Text rest = ap (λ z. kind.Text ∷ z) rest

some-is : (k : Kind) → IsValue (some_value k)
some-is kind.Int = omega arith
some-is kind.Text = All-nil (λ byte. byte ≢ 10)

its-values : (cs : List Column) → All IsValue (some_row cs)
its-values [] = All-nil IsValue
its-values (c ∷ cs) = All-cons IsValue (some_value c.kind) (some_row cs) (some-is c.kind) (its-values cs)

abbrev some_step : SeenStep
some_step = record { stamp = record { clock = 0; node = node_of 0 }; event = event.Round; marks = [] }

module _ (script : Script) where
  -- lines that lead to an end
  record Goes (m : Mid) : Type 0 where
    pub lines : List (List ℕ)
    pub last : Mid
    pub tells : Seen
    pub leads : run script lines m ≡ Some last
    pub all : ended last.so_far last.next ≡ Some tells

  further : (m n : Mid) (ls : List (List ℕ)) → Leads script m ls n → Goes n → Goes m
  further m n ls leads goes = record { lines = ls ++ goes.lines; last = goes.last; tells = goes.tells; leads = leads goes.lines ∙ goes.leads; all = goes.all }

  step-is : IsSeenStep script some_step
  step-is = record { clock = omega arith; node = omega arith; event = tt; marks = All-nil (IsSeenMark script) }

  marks-go : (n : ℕ) (s : Seen) (step : SeenStep) → Goes (mid script s (Marks step n))
  marks-go zero s step = record { lines = []; last = mid script s (Marks step 0); tells = stepped s step; leads = refl; all = refl }
  marks-go (suc n) s step =
      further (mid script s (Marks step (suc n))) (mid script (stepped s step) (Marks some_step n)) (step_lines script some_step) (next-leads script s step some_step n step-is) (marks-go n (stepped s step) some_step)

  steps-go : (n : ℕ) (s : Seen) → Goes (mid script s (Steps n))
  steps-go zero s = record { lines = []; last = mid script s (Steps 0); tells = s; leads = refl; all = refl }
  steps-go (suc n) s = further (mid script s (Steps (suc n))) (mid script s (Marks some_step n)) (step_lines script some_step) (first-leads script s some_step n step-is) (marks-go n s some_step)

  recheck-goes : (s : Seen) (step : SeenStep) (round : ℕ) (edges : List Edge) (n : ℕ) → round < 2 ^ 64 → Goes (mid script s (Recheck step round edges n))
  recheck-goes s step round edges n small =
      let line = blank_line (mark_line_text script (Ended round verdict.Nothing)) in
      let after = mid script s (Marks (marked step (seen.Whole (mark.Recheck round (own_graph edges) verdict.Nothing))) n) in
      further (mid script s (Recheck step round edges n)) after (line ∷ [])
      (one script (mid script s (Recheck step round edges n)) after line
      (ap (option_and_then (recheck_read s step round edges n)) (all-read (behind-word (codes "  ") (mark-lines script)) refl (Ended round verdict.Nothing) (small, tt))
      ∙ if-true (round == round) (Some after) None (same round)))
      (marks-go n s (marked step (seen.Whole (mark.Recheck round (own_graph edges) verdict.Nothing))))
    where
      same : (k : ℕ) → (k == k) ≡ true
      same k = grind arith

  tables-go : (ss : List Schema) (s : Seen) → Goes (mid script s (Tables ss))
  tables-go [] s =
      further (mid script s (Tables [])) (mid script s (Steps 0)) (run_line 0 ∷ []) (one script (mid script s (Tables [])) (mid script s (Steps 0)) (run_line 0) (run-line-read script s 0 (omega arith))) (steps-go 0 s)
  tables-go (t ∷ ss) s =
      further (mid script s (Tables (t ∷ ss))) (listed s [] ss) (lines_of_table t.name []) (table-leads script s t ss [] (omega (arith, none)) (All-nil (IsRowOf t)))
      (tables-go ss (record { answers = s.answers; tables = s.tables ++ [] ∷ []; steps = s.steps }))
    where
      none : length {A = List Value} [] ≡ 0
      none = omega arith

  table-rows-go : (n : ℕ) (s : Seen) (t : Schema) (rows : List (List Value)) (ss : List Schema) → Goes (mid script s (TableRows t rows n ss))
  table-rows-go zero s t rows ss =
      let row = some_row t.columns in
      further (mid script s (TableRows t rows 0 ss)) (listed s (rows ++ row ∷ []) ss) (table_row_text row ∷ [])
      (one script (mid script s (TableRows t rows 0 ss)) (listed s (rows ++ row ∷ []) ss) (table_row_text row) (table-row-read script s t rows 0 ss row (record { kinds = its-kinds t.columns; values = its-values t.columns })))
      (tables-go ss (record { answers = s.answers; tables = s.tables ++ (rows ++ row ∷ []) ∷ []; steps = s.steps }))
  table-rows-go (suc n) s t rows ss =
      let row = some_row t.columns in
      let next = mid script s (TableRows t (rows ++ row ∷ []) n ss) in
      further (mid script s (TableRows t rows (suc n) ss)) next (table_row_text row ∷ [])
      (one script (mid script s (TableRows t rows (suc n) ss)) next (table_row_text row) (table-row-read script s t rows (suc n) ss row (record { kinds = its-kinds t.columns; values = its-values t.columns })))
      (table-rows-go n s t (rows ++ row ∷ []) ss)

  abbrev IsSmall : ℕ × ℕ → Type 0
  IsSmall p = p.1 < 2 ^ 32

  answers-go : (ps : List (ℕ × ℕ)) (s : Seen) → All IsSmall ps → Goes (mid script s (behind_answers script ps))
  answers-go [] s small = tables-go script.tables s
  answers-go (p ∷ ps) s small =
      let after = answered script s p answer.Begin ps in
      further (mid script s (Answers (p ∷ ps))) after (lines_of_answer (name_of script p) p.1 answer.Begin) (answer-leads script s p ps answer.Begin (All-head IsSmall p ps small) tt)
      (answers-go ps after.so_far (All-tail IsSmall p ps small))

  rows-go : (n : ℕ) (s : Seen) (p : ℕ × ℕ) (rows : List (List Cell)) (ps : List (ℕ × ℕ)) → All IsSmall ps → Goes (mid script s (AnswerRows p rows n ps))
  rows-go zero s p rows ps small =
      let row : List Cell = cell.Null ∷ [] in
      let after = answered script s p (answer.Rows (rows ++ row ∷ [])) ps in
      further (mid script s (AnswerRows p rows 0 ps)) after (out_row_text row ∷ [])
      (one script (mid script s (AnswerRows p rows 0 ps)) after (out_row_text row) (row-read script s p rows 0 ps row (All-cons IsCell cell.Null [] tt (All-nil IsCell))))
      (answers-go ps after.so_far small)
  rows-go (suc n) s p rows ps small =
      let row : List Cell = cell.Null ∷ [] in
      let next = mid script s (AnswerRows p (rows ++ row ∷ []) n ps) in
      further (mid script s (AnswerRows p rows (suc n) ps)) next (out_row_text row ∷ [])
      (one script (mid script s (AnswerRows p rows (suc n) ps)) next (out_row_text row) (row-read script s p rows (suc n) ps row (All-cons IsCell cell.Null [] tt (All-nil IsCell))))
      (rows-go n s p (rows ++ row ∷ []) ps small)

  left-small : (s : Seen) (ps : List (ℕ × ℕ)) → All IsSmall (all_places script.lines 0 script.sessions) → AreAnswers script s ps → All IsSmall ps
  left-small s ps small are = all-behind IsSmall (map place_of s.answers) ps (subst (All IsSmall) (sym are.places_are) small)

  goes : (s : Seen) (at : Where) → All IsSmall (all_places script.lines 0 script.sessions) → IsMid script s at → Goes (mid script s at)
  goes s (Answers []) small is = absurd is
  goes s (Answers (p ∷ ps)) small is = answers-go (p ∷ ps) s (left-small s (p ∷ ps) small is.0)
  goes s (AnswerRows p rows n ps) small is = rows-go n s p rows ps (All-tail IsSmall p ps (left-small s (p ∷ ps) small is.0))
  goes s (Tables ss) small is = tables-go ss s
  goes s (TableRows t rows n ss) small is = table-rows-go n s t rows ss
  goes s (Steps n) small is = steps-go n s
  goes s (Marks step n) small is = marks-go n s step
  goes s (Recheck step round edges n) small is = recheck-goes s step round edges n is.1

  -- LINES
  pub on-behind : (ls more : List (List ℕ)) (m n : Mid) → run script ls m ≡ Some n → run script (ls ++ more) m ≡ run script more n
  on-behind [] more m n e = ap (λ o. option_and_then (run script more) o) e
  on-behind (l ∷ ls) more m n e = by (next_line script m.so_far m.next l) e (λ k q. on-behind ls more k n q)
    where
      by : (o : Option Mid) → option_and_then (run script ls) o ≡ Some n → ((k : Mid) → run script ls k ≡ Some n → run script (ls ++ more) k ≡ run script more n)
          → option_and_then (run script (ls ++ more)) o ≡ run script more n
      by None q rest = absurd (none-some n q)
      by (Some k) q rest = rest k q

  pub begins : (ls : List (List ℕ)) → All IsSmall (all_places script.lines 0 script.sessions) → AreTaken script ls → BeginText script ls
  begins ls small at =
      let (here, shows) = led script ls (start script) at.state [] small (from-start script) at.leads in
      let on = goes at.state.so_far at.state.next small here in
      let (lawful, same) = read-back script (ls ++ on.lines) on.last on.tells small (on-behind ls on.lines (start script) at.state at.leads ∙ on.leads) on.all in
      record { seen = on.tells; others = on.lines; is = lawful; parts = sym same }

  front-taken : (ls more : List (List ℕ)) (m last : Mid) → run script (ls ++ more) m ≡ Some last → (n : Mid) × (run script ls m ≡ Some n)
  front-taken [] more m last e = (m, refl)
  front-taken (l ∷ ls) more m last e = by (next_line script m.so_far m.next l) e (λ k q. front-taken ls more k last q)
    where
      by : (o : Option Mid) → option_and_then (run script (ls ++ more)) o ≡ Some last → ((k : Mid) → run script (ls ++ more) k ≡ Some last → (n : Mid) × (run script ls k ≡ Some n))
          → (n : Mid) × (option_and_then (run script ls) o ≡ Some n)
      by None q rest = absurd (none-some last q)
      by (Some k) q rest = rest k q

  pub taken : (ls : List (List ℕ)) → All IsSmall (all_places script.lines 0 script.sessions) → BeginText script ls → AreTaken script ls
  taken ls small text =
      let (last, leads, tells) = written script text.seen text.is small in
      let (n, e) = front-taken ls text.others (start script) last (ap (λ x. run script x (start script)) (sym text.parts) ∙ leads) in
      record { state = n; leads = e }
