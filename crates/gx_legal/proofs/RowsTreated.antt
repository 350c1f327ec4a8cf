-- The test of what an UPDATE or DELETE has done decides the definition.
use Rattle.std.proofs.Common.{◌≡◌, ◌∙◌, ℕ, ◌==◌, ◌||◌, Bool, true, false, not, cond, take, List, [], ◌∷◌, Option, Some, None, Result, Ok, Err, refl, sym, ap, subst}
use Rattle.std.proofs.lemmas.Bool.{and_from}
use Rattle.std.proofs.lemmas.List.Elements.{All-nil, All-cons, All-head, All-tail}
use Rattle.std.specs.List.{AllByRecursion}
use Rattle.std.specs.List.Sorted.{IsStrictlySortedBy}
use Rattle.gx_ids.specs.declared.ids.Gxid.{Gxid}
use Rattle.gx_ids.specs.declared.ids.Cid.{Cid}
use Rattle.gx_ids.specs.declared.ids.Table.{Table}
use Rattle.gx_ids.specs.declared.rid.Rid.{Rid}
use Rattle.gx_lemmas.proofs.Numbers.{eqb-of, same-of}
use Rattle.gx_lemmas.proofs.Tests.{and-first, and-second}
use Rattle.gx_meaning.specs.Answer.{AreRising}
use Rattle.gx_meaning.specs.declared.fault.ArithFault.{ArithFault}
use Rattle.gx_tree.specs.declared.cond.Cond.{Cond}
use Rattle.gx_tree.specs.declared.row.KeyedRow.{KeyedRow}
use Rattle.gx_tree.specs.declared.stmt.Level.{Level}
use Rattle.gx_tree.specs.declared.value.Value.{Value}
use Rattle.gx_store.proofs.Rows.{is_same_rid-refl, same_rid}
use Rattle.gx_store.specs.declared.mark.Mark.{Mark}
use Rattle.gx_store.specs.Answers.{Changes, FaultsOnNone}
use Rattle.gx_store.specs.Commands.{condition_on}
use Rattle.gx_store.specs.Marks.{is_processed, is_same_rid, write_count}
use Rattle.gx_store.specs.Rows.{row_at}
use Rattle.gx_legal.specs.RowsDone.{are_done, faults_on_none, has_changed, is_done_by}
use Rattle.gx_legal.specs.Faulted.{is_whole}
use Rattle.gx_legal.specs.Selected.{is_met}
use Rattle.gx_legal.specs.Viewed.{view_rows}
use Rattle.gx_legal.proofs.Decided.{no_more}
use Rattle.gx_legal.proofs.Snapshots.{any-snapshot, snapshot-any}
use Rattle.gx_legal.proofs.Views.{none_above, view-is, view-same}

truth-is : (o : Result Bool ArithFault) → is_whole o ≡ true → (truth : Bool) × (o ≡ Ok truth)
truth-is (Ok truth) e = (truth, refl)
truth-is (Err fault) e = no_more _ e

pub none-faults : (c : Option Cond) (rows : List KeyedRow) → faults_on_none c rows ≡ true → FaultsOnNone c rows
none-faults c [] e = All-nil (λ row. (truth : Bool) × (condition_on c row.row ≡ Ok truth))
none-faults c (x ∷ xs) e =
    All-cons (λ row. (truth : Bool) × (condition_on c row.row ≡ Ok truth)) x xs (truth-is (condition_on c x.row) (and-first (is_whole (condition_on c x.row)) _ e)) (none-faults c xs (and-second (is_whole (condition_on c x.row)) _ e))

pub faults-none : (c : Option Cond) (rows : List KeyedRow) → FaultsOnNone c rows → faults_on_none c rows ≡ true
faults-none c [] all = refl
faults-none c (x ∷ xs) all =
    and_from (is_whole (condition_on c x.row)) _ (ap is_whole (All-head (λ row. (truth : Bool) × (condition_on c row.row ≡ Ok truth)) x xs all).1) (faults-none c xs (All-tail (λ row. (truth : Bool) × (condition_on c row.row ≡ Ok truth)) x xs all))

nothing : (row : List Value) → None ≡ Some row → ⊥
nothing row e = cc

-- what holds of the row at each identity holds of each row
each-at : (P : KeyedRow → Type 0) (xs : List KeyedRow) → AreRising xs → ((rid : Rid) (row : List Value) → row_at xs rid ≡ Some row → P (record { rid = rid; row = row })) → AllByRecursion P xs
unfolding IsStrictlySortedBy
each-at P [] rising h = tt
each-at P (x ∷ xs) rising h =
    (h x.rid x.row (ap (λ (b : Bool). cond b (Some x.row) (row_at xs x.rid)) (is_same_rid-refl x.rid)), each-at P xs rising.1 (λ rid row e. later rid row e (is_same_rid x.rid rid) refl))
  where
    later : (rid : Rid) (row : List Value) → row_at xs rid ≡ Some row → (b : Bool) → is_same_rid x.rid rid ≡ b → P (record { rid = rid; row = row })
    later rid row e true s = absurd (nothing row (sym (subst (λ r. row_at xs r ≡ None) (same_rid x.rid rid s) (none_above x.rid xs rising.0)) ∙ e))
    later rid row e false s = h rid row (ap (λ (b : Bool). cond b (Some x.row) (row_at xs rid)) s ∙ e)

-- EACH SELECTED ROW IS DONE
module _ (marks : List Mark) (g : Gxid) (n : Cid) (c : Option Cond) where
  abbrev IsDone : KeyedRow → Type 0
  IsDone row = (not (is_met (condition_on c row.row)) || is_processed marks g n row.rid) ≡ true

  by-met : (o : Result Bool ArithFault) (b : Bool) → (not (is_met o) || b) ≡ true → o ≡ Ok true → b ≡ true
  by-met o true e met = refl
  by-met o false e met = no_more _ (sym (ap (λ r. not (is_met r) || false) met) ∙ e)

  met-by : (o : Result Bool ArithFault) (b : Bool) → (o ≡ Ok true → b ≡ true) → (not (is_met o) || b) ≡ true
  met-by (Ok true) b h = h refl
  met-by (Ok false) b h = refl
  met-by (Err fault) b h = refl

  done-are : (rows : List KeyedRow) → are_done marks g n c rows ≡ true → (rid : Rid) (row : List Value) → row_at rows rid ≡ Some row → condition_on c row ≡ Ok true → is_processed marks g n rid ≡ true
  done-are [] e rid row there met = absurd (cc)
  done-are (x ∷ xs) e rid row there met =
      by_place (is_same_rid x.rid rid) refl there (done-are xs (and-second (not (is_met (condition_on c x.row)) || is_processed marks g n x.rid) _ e) rid row)
    where
      by_place : (b : Bool) → is_same_rid x.rid rid ≡ b → cond b (Some x.row) (row_at xs rid) ≡ Some row
          → (row_at xs rid ≡ Some row → condition_on c row ≡ Ok true → is_processed marks g n rid ≡ true) → is_processed marks g n rid ≡ true
      by_place true same at later =
          let is : x.row ≡ row = cc (at) in
          ap (is_processed marks g n) (sym (same_rid x.rid rid same))
          ∙ by-met (condition_on c x.row) (is_processed marks g n x.rid) (and-first (not (is_met (condition_on c x.row)) || is_processed marks g n x.rid) _ e) (ap (condition_on c) is ∙ met)
      by_place false same at later = later at met

  all-are : (rows : List KeyedRow) → AllByRecursion IsDone rows → are_done marks g n c rows ≡ true
  all-are [] all = refl
  all-are (x ∷ xs) all = and_from (not (is_met (condition_on c x.row)) || is_processed marks g n x.rid) _ all.0 (all-are xs all.1)

  are-done : (rows : List KeyedRow) → AreRising rows → ((rid : Rid) (row : List Value) → row_at rows rid ≡ Some row → condition_on c row ≡ Ok true → is_processed marks g n rid ≡ true) → are_done marks g n c rows ≡ true
  are-done rows rising h = all-are rows (each-at IsDone rows rising (λ rid row there. met-by (condition_on c row) (is_processed marks g n rid) (h rid row there)))

-- UPDATE AND DELETE
module _ (marks : List Mark) (level : Level) (g : Gxid) (c : Cid) (table : Table) (k : Option Cond) (n : ℕ) where
  abbrev by_view : ℕ → Bool
  by_view place = is_done_by marks g c k (view_rows marks (take place marks) (Some (g, c)) table)

  pub changed-is : has_changed marks level g c table k n ≡ true → Changes marks level g c table k n
  changed-is e =
      let by = any-snapshot marks level g c by_view (and-second (n == write_count marks g c) _ e) in
      let rows = view_rows marks (take by.0 marks) (Some (g, c)) table in
      record {
        rows = rows;
        sees = record { place = by.0; taken = by.1; view = view-is marks (take by.0 marks) (Some (g, c)) table };
        whole = none-faults k rows (and-first (faults_on_none k rows) _ by.2);
        count = same-of n (write_count marks g c) (and-first (n == write_count marks g c) _ e);
        each = done-are marks g c k rows (and-second (faults_on_none k rows) _ by.2);
      }

  pub is-changed : Changes marks level g c table k n → has_changed marks level g c table k n ≡ true
  is-changed d =
      let s = d.sees in
      and_from (n == write_count marks g c) _ (eqb-of n (write_count marks g c) d.count)
      (snapshot-any marks level g c by_view s.place s.taken
      (ap (is_done_by marks g c k) (sym (view-same marks (take s.place marks) (Some (g, c)) table d.rows s.view))
      ∙ and_from (faults_on_none k d.rows) _ (faults-none k d.rows d.whole) (are-done marks g c k d.rows s.view.rising d.each)))
