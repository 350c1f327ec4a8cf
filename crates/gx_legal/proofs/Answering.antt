-- The test of what a SELECT has answered decides the definition.
use Rattle.std.proofs.Common.{◌≡◌, ◌∙◌, ℕ, ◌==◌, Bool, true, false, if◌then◌else◌, cond, take, List, [], ◌∷◌, length, filter, Option, Some, None, Result, Ok, Err, refl, sym, ap, nat_eq}
use Rattle.std.proofs.lemmas.Bool.{and_from}
use Rattle.std.proofs.lemmas.Bool.Decides.{Decides-int_eq}
use Rattle.std.proofs.lemmas.List.Elements.{filter_passes}
use Rattle.std.proofs.lemmas.Slice.Eq.{slice_eq-Decides}
use Rattle.std.specs.Bool.{Decides}
use Rattle.std.specs.Cmp.Lexicographic.{pointwise}
use Rattle.std.specs.Cmp.{unsigned_Decides}
use Rattle.std.specs.List.{list_all, zip}
use Rattle.std.specs.Prelude.{ℤ}
use Rattle.gx_ids.specs.declared.ids.Gxid.{Gxid}
use Rattle.gx_ids.specs.declared.ids.Cid.{Cid}
use Rattle.gx_lemmas.proofs.Numbers.{eqb-of, same-of}
use Rattle.gx_lemmas.proofs.Tests.{and-first, and-second}
use Rattle.gx_meaning.specs.Answer.{answer_of, grouped_answer, keeps, limited, part_of, plain_answer}
use Rattle.gx_meaning.specs.Expressions.{truth_of}
use Rattle.gx_meaning.specs.Merged.{merged_answer}
use Rattle.gx_meaning.specs.declared.fault.ArithFault.{ArithFault}
use Rattle.gx_tree.specs.declared.cell.Cell.{Cell}
use Rattle.gx_tree.specs.declared.cell.Cell.TheVariants.{Int, Text, Null}
use Rattle.gx_tree.specs.declared.cond.Cond.{Cond}
use Rattle.gx_tree.specs.declared.query.Query.{Query}
use Rattle.gx_tree.specs.declared.row.KeyedRow.{KeyedRow}
use Rattle.gx_tree.specs.declared.stmt.Level.{Level}
use Rattle.gx_store.specs.declared.mark.Mark.{Mark}
use Rattle.gx_store.specs.Answers.{Shows}
use Rattle.gx_store.specs.Commands.{condition_on}
use Rattle.gx_legal.specs.RowsDone.{faults_on_none}
use Rattle.gx_legal.specs.Selected.{is_met}
use Rattle.gx_legal.specs.Told.{are_same_cells, has_shown, is_same_answer, is_same_cell, is_shown_by, whole_answer}
use Rattle.gx_legal.specs.Viewed.{view_rows}
use Rattle.gx_legal.proofs.RowsTreated.{faults-none, none-faults}
use Rattle.gx_legal.proofs.OnePart.{one-part}
use Rattle.gx_legal.proofs.Snapshots.{any-snapshot, snapshot-any}
use Rattle.gx_legal.proofs.Views.{view-is, view-same}

-- WHETHER TWO ANSWERS ARE ONE
cell-decided : (a b : Cell) → Decides (is_same_cell a b) (a ≡ b)
cell-decided (Int m) (Int n) = (λ e. ap Int ((Decides-int_eq m n).0 e), λ e. (Decides-int_eq m n).1 (inner m n e))
  where
    inner : (m n : ℤ) → Int m ≡ Int n → m ≡ n
    inner m n e = cc
cell-decided (Text s) (Text t) = (λ e. ap Text ((texts s t).0 e), λ e. (texts s t).1 (inner s t e))
  where
    texts : (s t : List ℕ) → Decides (pointwise nat_eq s t) (s ≡ t)
    texts s t = slice_eq-Decides unsigned_Decides s t (pointwise nat_eq s t) refl

    inner : (s t : List ℕ) → Text s ≡ Text t → s ≡ t
    inner s t e = cc
cell-decided Null Null = (λ e. refl, λ e. refl)
cell-decided (Int m) (Text t) = (λ e. absurd (cc), λ e. absurd (cc))
cell-decided (Int m) Null = (λ e. absurd (cc), λ e. absurd (cc))
cell-decided (Text s) (Int n) = (λ e. absurd (cc), λ e. absurd (cc))
cell-decided (Text s) Null = (λ e. absurd (cc), λ e. absurd (cc))
cell-decided Null (Int n) = (λ e. absurd (cc), λ e. absurd (cc))
cell-decided Null (Text t) = (λ e. absurd (cc), λ e. absurd (cc))

pub cells-decided : (a b : List Cell) → Decides (are_same_cells a b) (a ≡ b)
cells-decided a b = slice_eq-Decides cell-decided a b (are_same_cells a b) refl

rows-same : (rows others : List (List Cell)) → length rows ≡ length others → list_all (λ p. are_same_cells p.0 p.1) (zip rows others) ≡ true → rows ≡ others
rows-same [] [] long e = refl
rows-same [] (o ∷ os) long e = absurd (cc)
rows-same (r ∷ rs) [] long e = absurd (cc)
rows-same (r ∷ rs) (o ∷ os) long e =
    ap (λ x. x ∷ rs) ((cells-decided r o).0 (and-first (are_same_cells r o) _ e)) ∙ ap (λ xs. o ∷ xs) (rows-same rs os (cc) (and-second (are_same_cells r o) _ e))

same-rows : (rows : List (List Cell)) → list_all (λ p. are_same_cells p.0 p.1) (zip rows rows) ≡ true
same-rows [] = refl
same-rows (r ∷ rs) = and_from (are_same_cells r r) _ ((cells-decided r r).1 refl) (same-rows rs)

answer-same : (rows others : List (List Cell)) → is_same_answer rows others ≡ true → rows ≡ others
answer-same rows others e =
    rows-same rows others (same-of (length rows) (length others) (and-first (length rows == length others) _ e)) (and-second (length rows == length others) _ e)

same-answer : (rows others : List (List Cell)) → rows ≡ others → is_same_answer rows others ≡ true
same-answer rows others e =
    sym (ap (is_same_answer rows) e) ∙ and_from (length rows == length rows) _ (eqb-of (length rows) (length rows) refl) (same-rows rows)

-- THE ANSWER ON ALL ROWS
met-keeps : (c : Option Cond) (row : KeyedRow) → is_met (condition_on c row.row) ≡ keeps c row
met-keeps None row = refl
met-keeps (Some c) row = by_truth (truth_of row.row c) refl
  where
    by_truth : (o : Result Bool ArithFault) → truth_of row.row c ≡ o → is_met (truth_of row.row c) ≡ keeps (Some c) row
    by_truth (Ok truth) e = rw e refl
    by_truth (Err fault) e = rw e refl

filter-same : (p q : KeyedRow → Bool) → ((row : KeyedRow) → p row ≡ q row) → (rows : List KeyedRow) → filter p rows ≡ filter q rows
filter-same p q same [] = refl
filter-same p q same (x ∷ xs) = ap (λ b. cond b (x ∷ filter p xs) (filter p xs)) (same x) ∙ ap (λ l. cond (q x) (x ∷ l) l) (filter-same p q same xs)

filter-twice : (p : KeyedRow → Bool) (rows : List KeyedRow) → filter p (filter p rows) ≡ filter p rows
filter-twice p [] = refl
filter-twice p (x ∷ xs) = by_test (p x) refl (filter-twice p xs)
  where
    by_test : (b : Bool) → p x ≡ b → filter p (filter p xs) ≡ filter p xs → filter p (cond b (x ∷ filter p xs) (filter p xs)) ≡ cond b (x ∷ filter p xs) (filter p xs)
    by_test true e more = ap (λ b. cond b (x ∷ filter p (filter p xs)) (filter p (filter p xs))) e ∙ ap (λ l. x ∷ l) more
    by_test false e more = more

pub whole-is : (query : Query) (rows : List KeyedRow) → whole_answer query rows ≡ answer_of query rows
whole-is query rows =
    ap (λ met. merged_answer query (part_of query met ∷ [])) (filter-same (λ row. is_met (condition_on query.cond row.row)) (keeps query.cond) (met-keeps query.cond) rows)
    ∙ one-part query (filter (keeps query.cond) rows) (filter_passes (keeps query.cond) rows)
    ∙ ap (λ l. limited query.limit (if query.grouped then grouped_answer query l else plain_answer query l)) (filter-twice (keeps query.cond) rows)

-- SELECT
module _ (marks : List Mark) (level : Level) (g : Gxid) (c : Cid) (query : Query) (answer : List (List Cell)) where
  abbrev by_view : ℕ → Bool
  by_view place = is_shown_by query answer (view_rows marks (take place marks) (Some (g, c)) query.table)

  pub shown-is : has_shown marks level g c query answer ≡ true → Shows marks level g c query answer
  shown-is e =
      let by = any-snapshot marks level g c by_view e in
      let rows = view_rows marks (take by.0 marks) (Some (g, c)) query.table in
      let view = view-is marks (take by.0 marks) (Some (g, c)) query.table in
      record {
        rows = rows;
        sees = record { place = by.0; taken = by.1; view = view };
        whole = none-faults query.cond rows (and-first (faults_on_none query.cond rows) _ by.2);
        answered = answer-same answer (whole_answer query rows) (and-second (faults_on_none query.cond rows) _ by.2) ∙ whole-is query rows;
      }

  pub is-shown : Shows marks level g c query answer → has_shown marks level g c query answer ≡ true
  is-shown s =
      let at = s.sees in
      snapshot-any marks level g c by_view at.place at.taken
      (ap (is_shown_by query answer) (sym (view-same marks (take at.place marks) (Some (g, c)) query.table s.rows at.view))
      ∙ and_from (faults_on_none query.cond s.rows) _ (faults-none query.cond s.rows s.whole) (same-answer answer (whole_answer query s.rows) (s.answered ∙ sym (whole-is query s.rows))))
