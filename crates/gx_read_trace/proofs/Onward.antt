-- Reading on by a line.
use Rattle.std.proofs.Common.{◌≡◌, ℕ, zero, suc, ◌+◌, ◌-◌, ◌<◌, List, [], ◌∷◌, ◌++◌, length, get_or, Option, Some, None, refl, sym, ◌∙◌, ap, subst, arith}
use Rattle.std.specs.Prelude.{Result, Ok, Err, drop, option_and_then}
use Rattle.std.proofs.Math.Nat.{sub-zero}
use Rattle.std.proofs.lemmas.List.{drop_more}
use Rattle.gx_report.specs.Words.{session_name}
use Rattle.gx_script.specs.declared.Script.{Script}
use Rattle.gx_store.specs.declared.answer.StmtAnswer.{StmtAnswer}
use Rattle.gx_store.specs.declared.answer.StmtAnswer.TheVariants as answer
use Rattle.gx_tree.specs.declared.cell.Cell.{Cell}
use Rattle.gx_tree.specs.declared.schema.Schema.{Schema}
use Rattle.gx_tree.specs.declared.value.Value.{Value}
use Rattle.gx_trace.specs.declared.seen.Seen.{Seen}
use Rattle.gx_trace.specs.declared.seen.SeenAnswer.{SeenAnswer}
use Rattle.gx_trace_lines.specs.Answers.{answer_head}
use Rattle.gx_trace_lines.specs.Cells.{out_row}
use Rattle.gx_trace_lines.specs.Tables.{table_head, table_row}
use Rattle.gx_trace_lines.specs.declared.heads.AnswerHead.{AnswerHead}
use Rattle.gx_trace_lines.specs.declared.heads.AnswerHead.TheVariants.{Said, Rows}
use Rattle.gx_read_trace.specs.GoingOn.{GoesOn, ReadsAnswer, ReadsRows, ReadsTable, ReadsTables, at_answer, at_rows, at_table, at_table_rows, at_tables, goes}
use Rattle.gx_read_trace.specs.Machine.{Mid, all_of, answer_begun, answer_row, answered, ended, listed, next_line, table_begun, table_row_read}
use Rattle.gx_read_trace.specs.ReadText.{cut, read_lines, told}
use Rattle.gx_read_trace.specs.Rests.{IsBehind, IsReadAs, IsTaken, IsWhole, Rest, Takes, first_read, lines_left}
use Rattle.gx_read_trace.specs.declared.fault.TraceFault.{TraceFault}
use Rattle.gx_read_trace.specs.declared.fault.TraceFault.TheVariants.{NotATrace, OutOfMemory}

-- LINES
pub whole_takes : {A : Type 0} (read : List ℕ → Option A) (old new : Rest) (line : List ℕ) (r : Result A TraceFault) → IsBehind old line new → IsWhole (read line) new r → Takes read old new r
whole_takes read old new line (Ok a) b is = record { line = line; behind = b; is = is }
whole_takes read old new line (Err (NotATrace n)) b is = (ap (λ (c : List (List ℕ) × List ℕ). first_read read c.0) b.cuts ∙ is.0, is.1 ∙ b.taken)
whole_takes read old new line (Err OutOfMemory) b is = absurd is

pub missing_takes : {A : Type 0} (read : List ℕ → Option A) (old new : Rest) (f : TraceFault) → IsTaken (Err f) old new → Takes read old new (Err f)
missing_takes read old new (NotATrace n) is = (ap (first_read read) is.0, is.1)
missing_takes read old new OutOfMemory is = absurd is

pub taken_shorter : {A : Type 0} (read : List ℕ → Option A) (old new : Rest) (a : A) → IsReadAs read old new a → lines_left new < lines_left old
taken_shorter read old new a is = less (ap (λ (c : List (List ℕ) × List ℕ). length c.0) is.behind.cuts)
  where
    less : length (cut old.left).0 ≡ length (is.line ∷ (cut new.left).0) → length (cut new.left).0 < length (cut old.left).0
    less e = omega (arith, e)

-- NOTHING MORE
pub none-lines : (script : Script) (n : ℕ) (ls : List (List ℕ)) (left : List ℕ) → read_lines script n ls left None ≡ Err n
none-lines script n [] left = refl
none-lines script n (l ∷ ls) left = refl

none-told : (n : ℕ) (left : List ℕ) → told n left None ≡ Err n
none-told n [] = refl
none-told n (b ∷ bs) = refl

pub goes-none : (script : Script) (rest : Rest) → goes script rest None ≡ Err rest.taken
goes-none script rest = none-lines script rest.taken (cut rest.left).0 (cut rest.left).1

-- A LINE
-- what a state makes of the first line that is left
abbrev pub Follows : {A : Type 0} → Script → Mid → Rest → (List ℕ → Option A) → (A → Option Mid) → Type 0
Follows script m rest read f = (l : List ℕ) (ls : List (List ℕ)) → (cut rest.left).0 ≡ l ∷ ls → next_line script m.so_far m.next l ≡ option_and_then f (read l)

pub took : {A : Type 0} (script : Script) (m : Mid) (read : List ℕ → Option A) (f : A → Option Mid) (old new : Rest) (a : A)
    → Follows script m old read f → IsReadAs read old new a → goes script old (Some m) ≡ goes script new (f a)
took script m read f old new a follows is =
    let first : (cut old.left).0 ≡ is.line ∷ (cut new.left).0 = ap (λ (c : List (List ℕ) × List ℕ). c.0) is.behind.cuts in
    ap (λ (c : List (List ℕ) × List ℕ). read_lines script old.taken c.0 c.1 (Some m)) is.behind.cuts
    ∙ ap (read_lines script (old.taken + 1) (cut new.left).0 (cut new.left).1) (follows is.line (cut new.left).0 first ∙ ap (option_and_then f) is.is)
    ∙ ap (λ n. read_lines script n (cut new.left).0 (cut new.left).1 (f a)) (sym is.behind.taken)

-- where no line ends any more
abbrev pub Stops : Mid → Rest → Type 0
Stops m rest = (cut rest.left).0 ≡ [] → told (rest.taken + 1) (cut rest.left).1 (ended m.so_far m.next) ≡ Err (rest.taken + 1)

pub stops : (m : Mid) (rest : Rest) → ended m.so_far m.next ≡ None → Stops m rest
stops m rest none e = ap (told (rest.taken + 1) (cut rest.left).1) none ∙ none-told (rest.taken + 1) (cut rest.left).1

pub stopped : {A : Type 0} (script : Script) (m : Mid) (read : List ℕ → Option A) (f : A → Option Mid) (old : Rest) (n : ℕ)
    → Follows script m old read f → Stops m old → first_read read (cut old.left).0 ≡ None → n ≡ old.taken + 1 → goes script old (Some m) ≡ Err n
stopped script m read f old n follows ends missing is = by (cut old.left).0 refl missing ∙ ap Err (sym is)
  where
    by : (ls : List (List ℕ)) → (cut old.left).0 ≡ ls → first_read read ls ≡ None → read_lines script old.taken ls (cut old.left).1 (Some m) ≡ Err (old.taken + 1)
    by [] at e = ends at
    by (l ∷ ls) at e = ap (read_lines script (old.taken + 1) ls (cut old.left).1) (follows l ls at ∙ ap (option_and_then f) e) ∙ none-lines script (old.taken + 1) ls (cut old.left).1

-- a line is missing, or isn't read
pub stopped-on : {A B : Type 0} (script : Script) (m : Mid) (read : List ℕ → Option A) (f : A → Option Mid) (old new : Rest) (to : B → Mid) (fault : TraceFault)
    → Follows script m old read f → Stops m old → Takes {A = A} read old new (Err fault) → GoesOn {A = B} script old m new to (Err fault)
stopped-on script m read f old new to (NotATrace n) follows ends is = stopped script m read f old n follows ends is.0 is.1
stopped-on script m read f old new to OutOfMemory follows ends is = tt

-- a line is taken in a state that isn't the last
pub on-line : {A : Type 0} (script : Script) (from : Mid) (read : List ℕ → Option A) (f : A → Option Mid) (to : A → Mid) (old new : Rest) (r : Result A TraceFault)
    → Follows script from old read f → ended from.so_far from.next ≡ None → ((a : A) → f a ≡ Some (to a)) → Takes read old new r → GoesOn script old from new to r
on-line script from read f to old new (Ok a) follows none same is = took script from read f old new a follows is ∙ ap (goes script new) (same a)
on-line script from read f to old new (Err fault) follows none same is = stopped-on script from read f old new to fault follows (stops from old none) is

-- a fault is the same, whatever was to be read
pub fails-on : {A B : Type 0} (script : Script) (old : Rest) (from : Mid) (new other : Rest) (to : A → Mid) (next : B → Mid) (f : TraceFault)
    → GoesOn {A = A} script old from new to (Err f) → GoesOn {A = B} script old from other next (Err f)
fails-on script old from new other to next (NotATrace n) is = is
fails-on script old from new other to next OutOfMemory is = tt

-- what is read behind something else
pub then-on : {A B : Type 0} (script : Script) (old mid : Rest) (from between : Mid) (new other : Rest) (to : A → Mid) (next : B → Mid) (f : TraceFault)
    → goes script old (Some from) ≡ goes script mid (Some between) → GoesOn {A = A} script mid between new to (Err f) → GoesOn {A = B} script old from other next (Err f)
then-on script old mid from between new other to next (NotATrace n) e is = e ∙ is
then-on script old mid from between new other to next OutOfMemory e is = tt

-- a line that is read, and with which no text goes on
pub taken-bad : {A B : Type 0} (script : Script) (m : Mid) (read : List ℕ → Option A) (f : A → Option Mid) (old new other : Rest) (to : B → Mid) (a : A) (fault : TraceFault)
    → Follows script m old read f → IsReadAs read old new a → f a ≡ None → fault ≡ NotATrace new.taken → GoesOn {A = B} script old m other to (Err fault)
taken-bad script m read f old new other to a fault follows is none said =
    subst (λ (x : TraceFault). GoesOn script old m other to (Err x)) (sym said) (took script m read f old new a follows is ∙ ap (goes script new) none ∙ goes-none script new)

-- ROWS OF ANSWERS
rows-begun : (script : Script) (s : Seen) (p : ℕ × ℕ) (ps : List (ℕ × ℕ)) (n : ℕ) → answer_begun script s p ps (Rows n) ≡ at_rows script s p [] n ps
rows-begun script s p ps zero = refl
rows-begun script s p ps (suc n) = refl

row-more : (script : Script) (s : Seen) (p : ℕ × ℕ) (rows : List (List Cell)) (n : ℕ) (ps : List (ℕ × ℕ)) (row : List Cell) → answer_row script s p rows n ps row ≡ at_rows script s p (rows ++ row ∷ []) n ps
row-more script s p rows zero ps row = refl
row-more script s p rows (suc n) ps row = refl

pub one-less : (count at : ℕ) → at < count → count - at ≡ suc (count - (at + 1))
one-less count at l = omega (arith, l)

-- the rows so far, and so many to come
abbrev pub RowsSoFar : Rest → ℕ → ℕ → Rest → List (List Cell) → Type 0
RowsSoFar old count at now rows =
    (script : Script) (s : Seen) (p : ℕ × ℕ) (ps : List (ℕ × ℕ)) → goes script old (Some (at_rows script s p [] count ps)) ≡ goes script now (Some (at_rows script s p rows (count - at) ps))

pub rows_more : (old : Rest) (count at : ℕ) (now new : Rest) (rows : List (List Cell)) (row : List Cell)
    → at < count → RowsSoFar old count at now rows → IsReadAs (λ line. all_of (out_row line)) now new row → RowsSoFar old count (at + 1) new (rows ++ row ∷ [])
rows_more old count at now new rows row l so is script s p ps =
    let n = count - (at + 1) in
    let from : Mid = at_rows script s p rows (suc n) ps in
    so script s p ps ∙ ap (λ k. goes script now (Some (at_rows script s p rows k ps))) (one-less count at l)
    ∙ took script from (λ line. all_of (out_row line)) (λ r. Some (answer_row script s p rows n ps r)) now new row (λ l ls e. refl) is
    ∙ ap (λ m. goes script new (Some m)) (row-more script s p rows n ps row)

pub rows_fail : (old : Rest) (count at : ℕ) (now new : Rest) (rows : List (List Cell)) (f : TraceFault)
    → at < count → RowsSoFar old count at now rows → Takes (λ line. all_of (out_row line)) now new (Err f) → ReadsRows count old new (Err f)
rows_fail old count at now new rows f l so is script s p ps =
    let n = count - (at + 1) in
    let from : Mid = at_rows script s p rows (suc n) ps in
    let to : List Cell → Mid = λ r. answer_row script s p rows n ps r in
    then-on script old now (at_rows script s p [] count ps) from new new to (λ (rows : List (List Cell)). answered script s p (answer.Rows rows) ps) f
    (so script s p ps ∙ ap (λ k. goes script now (Some (at_rows script s p rows k ps))) (one-less count at l))
    (on-line script from (λ line. all_of (out_row line)) (λ r. Some (to r)) to now new (Err f) (λ l ls e. refl) refl (λ r. refl) is)

pub rows_end : (old : Rest) (count at : ℕ) (now : Rest) (rows : List (List Cell)) → count - at ≡ 0 → RowsSoFar old count at now rows → ReadsRows count old now (Ok rows)
rows_end old count at now rows e so script s p ps = so script s p ps ∙ ap (λ k. goes script now (Some (at_rows script s p rows k ps))) e

-- AN ANSWER
abbrev pub head_of : List ℕ → ℕ → List ℕ → Option AnswerHead
head_of name number line = all_of (answer_head name number line)

head-follows : (script : Script) (s : Seen) (session number : ℕ) (ps : List (ℕ × ℕ)) (name : List ℕ) (rest : Rest) → session_name script (record { 0 = session }) ≡ name
    → Follows script (at_answer s (session, number) ps) rest (head_of name number) (λ h. Some (answer_begun script s (session, number) ps h))
head-follows script s session number ps name rest named l ls e =
    ap (λ n. option_and_then (λ h. Some (answer_begun script s (session, number) ps h)) (head_of n number l)) named

pub answer_fails : (name : List ℕ) (number : ℕ) (old new : Rest) (f : TraceFault) → Takes (head_of name number) old new (Err f) → ReadsAnswer name number old new (Err f)
answer_fails name number old new f is script s session ps named =
    let p : ℕ × ℕ = (session, number) in
    let to : AnswerHead → Mid = λ h. answer_begun script s p ps h in
    fails-on script old (at_answer s p ps) new new to (λ (said : StmtAnswer). answered script s p said ps) f
    (on-line script (at_answer s p ps) (head_of name number) (λ h. Some (to h)) to old new (Err f) (head-follows script s session number ps name old named) refl (λ h. refl) is)

pub answer_said : (name : List ℕ) (number : ℕ) (old new : Rest) (said : StmtAnswer) → IsReadAs (head_of name number) old new (Said said) → ReadsAnswer name number old new (Ok said)
answer_said name number old new said is script s session ps named =
    let p : ℕ × ℕ = (session, number) in
    took script (at_answer s p ps) (head_of name number) (λ h. Some (answer_begun script s p ps h)) old new (Said said) (head-follows script s session number ps name old named) is

to-rows : (script : Script) (s : Seen) (session number : ℕ) (ps : List (ℕ × ℕ)) (name : List ℕ) (old mid : Rest) (count : ℕ) → session_name script (record { 0 = session }) ≡ name
    → IsReadAs (head_of name number) old mid (Rows count) → goes script old (Some (at_answer s (session, number) ps)) ≡ goes script mid (Some (at_rows script s (session, number) [] count ps))
to-rows script s session number ps name old mid count named is =
    let p : ℕ × ℕ = (session, number) in
    took script (at_answer s p ps) (head_of name number) (λ h. Some (answer_begun script s p ps h)) old mid (Rows count) (head-follows script s session number ps name old named) is
    ∙ ap (λ m. goes script mid (Some m)) (rows-begun script s p ps count)

pub answer_rows : (name : List ℕ) (number : ℕ) (old mid new : Rest) (count : ℕ) (rows : List (List Cell))
    → IsReadAs (head_of name number) old mid (Rows count) → ReadsRows count mid new (Ok rows) → ReadsAnswer name number old new (Ok (answer.Rows rows))
answer_rows name number old mid new count rows is read script s session ps named =
    to-rows script s session number ps name old mid count named is ∙ read script s (session, number) ps

pub answer_rows_fail : (name : List ℕ) (number : ℕ) (old mid new : Rest) (count : ℕ) (f : TraceFault)
    → IsReadAs (head_of name number) old mid (Rows count) → ReadsRows count mid new (Err f) → ReadsAnswer name number old new (Err f)
answer_rows_fail name number old mid new count f is read script s session ps named =
    let p : ℕ × ℕ = (session, number) in
    then-on script old mid (at_answer s p ps) (at_rows script s p [] count ps) new new (λ (rows : List (List Cell)). answered script s p (answer.Rows rows) ps) (λ (said : StmtAnswer). answered script s p said ps) f
    (to-rows script s session number ps name old mid count named is) (read script s p ps)

-- A TABLE
table-begun : (s : Seen) (t : Schema) (ss : List Schema) (n : ℕ) → table_begun s t ss n ≡ at_table_rows s t [] n ss
table-begun s t ss zero = refl
table-begun s t ss (suc n) = refl

table-more : (s : Seen) (t : Schema) (rows : List (List Value)) (n : ℕ) (ss : List Schema) (row : List Value) → table_row_read s t rows n ss row ≡ at_table_rows s t (rows ++ row ∷ []) n ss
table-more s t rows zero ss row = refl
table-more s t rows (suc n) ss row = refl

abbrev pub table_head_of : Schema → List ℕ → Option ℕ
table_head_of t line = all_of (table_head t.name line)

abbrev pub table_row_of : Schema → List ℕ → Option (List Value)
table_row_of t line = all_of (table_row t.columns line)

abbrev pub TableSoFar : Schema → Rest → ℕ → ℕ → Rest → List (List Value) → Type 0
TableSoFar t old count at now rows =
    (script : Script) (s : Seen) (ss : List Schema) → goes script old (Some (at_table s t ss)) ≡ goes script now (Some (at_table_rows s t rows (count - at) ss))

pub table_start : (t : Schema) (old new : Rest) (count : ℕ) → IsReadAs (table_head_of t) old new count → TableSoFar t old count 0 new []
table_start t old new count is script s ss =
    took script (at_table s t ss) (table_head_of t) (λ n. Some (table_begun s t ss n)) old new count (λ l ls e. refl) is
    ∙ ap (λ m. goes script new (Some m)) (table-begun s t ss count) ∙ ap (λ k. goes script new (Some (at_table_rows s t [] k ss))) (sym (sub-zero count))

pub table_fails : (t : Schema) (old new : Rest) (f : TraceFault) → Takes (table_head_of t) old new (Err f) → ReadsTable t old new (Err f)
table_fails t old new f is script s ss =
    let to : ℕ → Mid = λ n. table_begun s t ss n in
    fails-on script old (at_table s t ss) new new to (λ (rows : List (List Value)). listed s rows ss) f
    (on-line script (at_table s t ss) (table_head_of t) (λ n. Some (to n)) to old new (Err f) (λ l ls e. refl) refl (λ n. refl) is)

pub table_row_more : (t : Schema) (old : Rest) (count at : ℕ) (now new : Rest) (rows : List (List Value)) (row : List Value)
    → at < count → TableSoFar t old count at now rows → IsReadAs (table_row_of t) now new row → TableSoFar t old count (at + 1) new (rows ++ row ∷ [])
table_row_more t old count at now new rows row l so is script s ss =
    let n = count - (at + 1) in
    so script s ss ∙ ap (λ k. goes script now (Some (at_table_rows s t rows k ss))) (one-less count at l)
    ∙ took script (at_table_rows s t rows (suc n) ss) (table_row_of t) (λ r. Some (table_row_read s t rows n ss r)) now new row (λ l ls e. refl) is
    ∙ ap (λ m. goes script new (Some m)) (table-more s t rows n ss row)

pub table_row_fails : (t : Schema) (old : Rest) (count at : ℕ) (now new : Rest) (rows : List (List Value)) (f : TraceFault)
    → at < count → TableSoFar t old count at now rows → Takes (table_row_of t) now new (Err f) → ReadsTable t old new (Err f)
table_row_fails t old count at now new rows f l so is script s ss =
    let n = count - (at + 1) in
    let from : Mid = at_table_rows s t rows (suc n) ss in
    let to : List Value → Mid = λ r. table_row_read s t rows n ss r in
    then-on script old now (at_table s t ss) from new new to (λ (rows : List (List Value)). listed s rows ss) f
    (so script s ss ∙ ap (λ k. goes script now (Some (at_table_rows s t rows k ss))) (one-less count at l))
    (on-line script from (table_row_of t) (λ r. Some (to r)) to now new (Err f) (λ l ls e. refl) refl (λ r. refl) is)

pub table_end : (t : Schema) (old : Rest) (count at : ℕ) (now : Rest) (rows : List (List Value)) → count - at ≡ 0 → TableSoFar t old count at now rows → ReadsTable t old now (Ok rows)
table_end t old count at now rows e so script s ss = so script s ss ∙ ap (λ k. goes script now (Some (at_table_rows s t rows k ss))) e

-- TABLES
pub next_of : {X : Type 0} (xs : List X) (i : ℕ) (x : X) → i < length xs → x ≡ get_or xs i x → drop i xs ≡ x ∷ drop (i + 1) xs
next_of xs i x low is = drop_more xs i x low ∙ ap (λ y. y ∷ drop (i + 1) xs) (sym is)

abbrev pub TablesSoFar : Script → Rest → ℕ → Rest → List (List (List Value)) → Type 0
TablesSoFar script old at now tables =
    (answers : List SeenAnswer) → goes script old (Some (at_tables answers [] script.tables)) ≡ goes script now (Some (at_tables answers tables (drop at script.tables)))

pub tables_more : (script : Script) (old : Rest) (at : ℕ) (now new : Rest) (tables : List (List (List Value))) (t : Schema) (rows : List (List Value)) → drop at script.tables ≡ t ∷ drop (at + 1) script.tables
    → TablesSoFar script old at now tables → ReadsTable t now new (Ok rows) → TablesSoFar script old (at + 1) new (tables ++ rows ∷ [])
tables_more script old at now new tables t rows e so is answers =
    so answers ∙ ap (λ ss. goes script now (Some (at_tables answers tables ss))) e ∙ is script (record { answers = answers; tables = tables; steps = [] }) (drop (at + 1) script.tables)

pub tables_fail : (script : Script) (old : Rest) (at : ℕ) (now new : Rest) (tables : List (List (List Value))) (t : Schema) (f : TraceFault) → drop at script.tables ≡ t ∷ drop (at + 1) script.tables
    → TablesSoFar script old at now tables → ReadsTable t now new (Err f) → ReadsTables script old new (Err f)
tables_fail script old at now new tables t f e so is answers =
    let s : Seen = record { answers = answers; tables = tables; steps = [] } in
    let ss = drop (at + 1) script.tables in
    then-on script old now (at_tables answers [] script.tables) (at_table s t ss) new new (λ (rows : List (List Value)). listed s rows ss) (λ (tables : List (List (List Value))). at_tables answers tables []) f
    (so answers ∙ ap (λ ss. goes script now (Some (at_tables answers tables ss))) e) (is script s ss)

pub tables_end : (script : Script) (old : Rest) (at : ℕ) (now : Rest) (tables : List (List (List Value))) → drop at script.tables ≡ [] → TablesSoFar script old at now tables → ReadsTables script old now (Ok tables)
tables_end script old at now tables e so answers = so answers ∙ ap (λ ss. goes script now (Some (at_tables answers tables ss))) e
