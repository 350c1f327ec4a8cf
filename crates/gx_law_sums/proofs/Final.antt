-- The table of the accounts as a reader sees it: it is empty, or its balances sum to 6400.
use Rattle.std.proofs.Common.{◌≡◌, ◌⊎◌, inl, inr, ◌≤◌, ℕ, pos, Bool, true, false, List, [], ◌∷◌, Option, Some, None, refl, sym, ap, ◌∙◌, subst, append-nil}
use Rattle.std.specs.Prelude.{length}
use Rattle.gx_ids.specs.declared.ids.Gxid.{Gxid}
use Rattle.gx_ids.specs.declared.ids.Table.{Table}
use Rattle.gx_ids.specs.declared.rid.Rid.{Rid}
use Rattle.gx_tree.specs.declared.row.KeyedRow.{KeyedRow}
use Rattle.gx_tree.specs.declared.value.Value.{Value}
use Rattle.gx_script.specs.declared.Script.{Script}
use Rattle.gx_work.specs.declared.transfer.Transfer.{Transfer}
use Rattle.gx_work.specs.Text.{words_of}
use Rattle.gx_lemmas.proofs.Tests.{true-false}
use Rattle.gx_report.specs.Summary.{total_balance}
use Rattle.gx_store.specs.declared.mark.Mark.{Mark}
use Rattle.gx_store.specs.Marks.{is_aborted, is_committed}
use Rattle.gx_store.specs.Points.{marks_of}
use Rattle.gx_store.specs.Rows.{row_at}
use Rattle.gx_store.specs.View.{IsView, image_after, is_shown_to}
use Rattle.gx_work.specs.Work.{drawn_script, work_script}
use Rattle.gx_law_sums.specs.Sums.{EndsWithTheSum, HasWrittenNothing, IsLoaded, IsSumKept, KeepsTheSum, the_accounts}
use Rattle.gx_law_sums.specs.Transfers.{AreTransfers}
use Rattle.gx_law_sums.proofs.Answered.{IsThere, account-there}
use Rattle.gx_law_sums.proofs.Books.{IsLoader}
use Rattle.gx_law_sums.proofs.Ledger.{total, total-hundred, total-same}
use Rattle.gx_law_sums.proofs.Neat.{AreAccounts, row_of, same-gxid}
use Rattle.gx_law_sums.proofs.Points.{view-before, viewed}
use Rattle.gx_law_sums.proofs.Rows.{IsOf, count_at, found-first, hundred_of, length-sum, no-row, total-rows, total_balance-sum}
use Rattle.gx_law_sums.proofs.Shape.{drawn-transfers, transfer_of}
use Rattle.gx_law_sums.proofs.Shows.{IsGood, balance_by, number_of}
use Rattle.gx_law_sums.proofs.Totals.{AreBalanced, in_all}
use Rattle.gx_law_sums.proofs.Writes.{IsAccount, IsBehind, IsNeat, IsShown, image-each}

-- PLAIN FACTS
false-of : (b : Bool) → (b ≡ true → ⊥) → b ≡ false
false-of true f = absurd (f refl)
false-of false f = refl

some-gxid : (a b : Gxid) → Some a ≡ Some b → a ≡ b
some-gxid a b e = cc

hundred-there : (i : Option (List Value)) → IsThere i → hundred_of i ≡ pos 100
hundred-there (Some row) there = refl
hundred-there None there = absurd there

no-rows : (rows : List KeyedRow) → ((rid : Rid) (row : List Value) → row_at rows rid ≡ Some row → ⊥) → rows ≡ []
no-rows [] f = refl
no-rows (r ∷ rs) f = absurd (f r.rid r.row (found-first r rs))

module _ (script : Script) (transfer : ℕ → ℕ → Option Transfer) (N : List Mark) (accounts : AreAccounts script transfer N) (balanced : (L : Gxid) → IsLoader N L → AreBalanced script transfer N L)
    (rows : List KeyedRow) (view : IsView N N None the_accounts rows) where
  -- a row is an account that somebody left who has committed
  record IsLeft (rid : Rid) (row : List Value) : Type 0 where
    by : Gxid
    table : Table
    account : IsAccount N by table rid (Some row)
    committed : is_committed N by ≡ true

  left : (rid : Rid) (row : List Value) → row_at rows rid ≡ Some row → IsLeft rid row
  left rid row e = by_case (image-each (IsNeat N) (is_shown_to None N) the_accounts rid None N (Some row) accounts.neat (sym (view.images rid) ∙ e))
    where
      by_case : (let o : Option (List Value) = None in o ≡ Some row) ⊎ IsShown (IsNeat N) (is_shown_to None N) rid (Some row) → IsLeft rid row
      by_case (inl f) = absurd (no-row row f)
      by_case (inr s) = record { by = s.g; table = s.t; account = s.so (accounts.standing.once s.g s.seen); committed = s.seen }

  loaded-by : (rid : Rid) (row : List Value) → IsLeft rid row → IsLoaded N
  loaded-by rid row l = record { gxid = rid.gxid; started = l.account.loaded; committed = by_case l.account.behind }
    where
      by_case : (l.by.0 ≡ rid.gxid.0) ⊎ IsBehind N l.by rid.gxid → is_committed N rid.gxid ≡ true
      by_case (inl e) = subst (λ g. is_committed N g ≡ true) (same-gxid l.by rid.gxid e) l.committed
      by_case (inr b) = b.loaded

  module _ (l : IsLoaded N) where
    abbrev L : Gxid
    L = l.gxid

    of : (rid : Rid) (row : List Value) → row_at rows rid ≡ Some row → IsOf L rid
    of rid row e =
        let a = (left rid row e).account in
        (own (some-gxid rid.gxid L (sym a.loaded ∙ l.started)) a.command, a.low, a.high)
      where
        own : rid.gxid ≡ L → rid.cid.0 ≡ 1 → rid ≡ row_of L rid.ordinal
        own e f = ap (λ (g : Gxid). let r : Rid = record { gxid = g; cid = rid.cid; ordinal = rid.ordinal } in r) e ∙ ap (λ (c : ℕ). let r : Rid = record { gxid = L; cid = record { 0 = c }; ordinal = rid.ordinal } in r) f

    good : IsGood L N (is_committed N)
    good = record { unaborted = λ g e. false-of (is_committed N g) (λ f. true-false (is_aborted N g) e (accounts.standing.once g f)); closed = λ g h e f k. k }

    books : AreBalanced script transfer N L
    books = balanced L (inl l.started)

    sum-is : total (balance_by (is_committed N) L N) 64 ≡ pos 6400
    sum-is = books.books.shows (is_committed N) good ∙ books.sum ∙ ap in_all l.committed

    balances : total_balance rows ≡ pos 6400
    balances =
        total_balance-sum rows ∙ sym (total-rows number_of refl L rows view.rising of)
        ∙ total-same (balance_by (is_committed N) L N) (count_at number_of refl L rows) 64 (λ k low high. ap number_of (view.images (row_of L k))) ∙ sum-is

    there : (o : ℕ) → 1 ≤ o → o ≤ 64 → IsThere (image_after (λ g c. is_committed N g) the_accounts (row_of L o) None N)
    there = account-there script transfer N accounts L (inl l.started) (λ g c. is_committed N g) (λ g c e. accounts.standing.once g e) l.committed l.committed

    whole : length rows ≡ 64
    whole =
        length-sum rows
        (sym (total-rows hundred_of refl L rows view.rising of)
        ∙ total-hundred (count_at hundred_of refl L rows) 64 (λ o low high. ap hundred_of (view.images (row_of L o)) ∙ hundred-there (image_after (λ g c. is_committed N g) the_accounts (row_of L o) None N) (there o low high)))

  pub kept : IsSumKept N rows
  kept = record {
    loaded = λ l. (whole l, balances l);
    empty = λ f. no-rows rows (λ rid row e. f (loaded-by rid row (left rid row e)));
  }

pub drawn-kept : (words : List ℕ) → KeepsTheSum (drawn_script words)
drawn-kept words steps legal before after split reader nothing rows view =
    let p = viewed script transfer are steps legal before after split in
    kept script transfer before p.0.0 p.0.1 rows (view-before before after reader rows p.1 (subst (λ N. HasWrittenNothing N reader) split nothing) (subst (λ N. IsView N before reader the_accounts rows) split view))
  where
    script : Script
    script = drawn_script words

    transfer : ℕ → ℕ → Option Transfer
    transfer = transfer_of words

    are : AreTransfers script transfer
    are = drawn-transfers words

pub work-kept : (number : ℕ) → KeepsTheSum (work_script number)
work-kept number = drawn-kept (words_of number)

pub work-ends : (number : ℕ) → EndsWithTheSum (work_script number)
work-ends number run legal [] one final = absurd (none one)
  where
    none : (let n : ℕ = 0 in n ≡ 1) → ⊥
    none e = cc
work-ends number run legal (rows ∷ tables) one final = work-kept number run.steps legal (marks_of run) [] (sym (append-nil (marks_of run))) None tt rows.items final.0
