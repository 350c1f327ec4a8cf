-- What the writes of some transactions show is what these have changed.
use Rattle.std.proofs.Common.{◌≡◌, ◌≢◌, ◌≤◌, ℕ, ◌+◌, ℤ, pos, ◌+ℤ◌, Bool, true, false, if◌then◌else◌, ◌||◌, ◌&&◌, ◌==◌, List, [], ◌∷◌, ◌++◌, Option, Some, None, refl, sym, ap, ◌∙◌, subst, arith}
use Rattle.std.proofs.lemmas.Int.{ints}
use Rattle.std.specs.Prelude.{slice_get}
use Rattle.gx_ids.specs.declared.ids.Cid.{Cid}
use Rattle.gx_ids.specs.declared.ids.Gxid.{Gxid}
use Rattle.gx_ids.specs.declared.ids.Node.{Node}
use Rattle.gx_ids.specs.declared.ids.Table.{Table}
use Rattle.gx_ids.specs.declared.rid.Rid.{Rid}
use Rattle.gx_tree.specs.declared.value.Value.{Value}
use Rattle.gx_report.specs.Summary.{number_in}
use Rattle.gx_lemmas.proofs.Options.{some-same}
use Rattle.gx_lemmas.proofs.Tests.{false-true, true-false}
use Rattle.gx_store.specs.declared.mark.Mark.{Mark}
use Rattle.gx_store.specs.declared.mark.Mark.TheVariants.{Write}
use Rattle.gx_store.specs.Marks.{is_aborted, is_committed, is_same_rid, is_written}
use Rattle.gx_store.specs.View.{image_after}
use Rattle.gx_store.specs.Writes.{Written, last_write}
use Rattle.gx_store.proofs.Marks.{image_after-append, is_aborted-append, is_committed-append}
use Rattle.gx_store.proofs.Rows.{is_same_rid-refl, same_rid}
use Rattle.gx_law_sums.specs.Sums.{the_accounts}
use Rattle.gx_law_sums.proofs.Ledger.{Change, sum_of, total, total-one, total-same}
use Rattle.gx_law_sums.proofs.Neat.{row_of}
use Rattle.gx_law_sums.proofs.Writes.{EachWrite}

-- what a row's image has in its second column
abbrev pub number_of : Option (List Value) → ℤ
number_of None = pos 0
number_of (Some row) = number_in (slice_get row 1)

-- the balance of an account, as those see it that see these transactions
abbrev pub image_by : (Gxid → Bool) → List Mark → Rid → Option (List Value)
image_by C N rid = image_after (λ g c. C g) the_accounts rid None N

abbrev pub balance_by : (Gxid → Bool) → Gxid → List Mark → ℕ → ℤ
balance_by C L N o = number_of (image_by C N (row_of L o))

-- nobody of them has aborted, and with a transfer they have all that had committed
pub record IsGood (L : Gxid) (N : List Mark) (C : Gxid → Bool) : Type 0 where
  pub unaborted : (g : Gxid) → is_aborted N g ≡ true → C g ≡ false
  pub closed : (g h : Gxid) → C g ≡ true → (g.0 ≡ L.0 → ⊥) → is_committed N h ≡ true → C h ≡ true

abbrev pub DoesShow : Gxid → List Mark → List Change → Type 0
DoesShow L N ds = (C : Gxid → Bool) → IsGood L N C → total (balance_by C L N) 64 ≡ sum_of C ds

pub good-before : (L : Gxid) (N : List Mark) (m : Mark) (C : Gxid → Bool) → IsGood L (N ++ m ∷ []) C → IsGood L N C
good-before L N m C good = record {
  unaborted = λ g e. good.unaborted g (is_aborted-append N (m ∷ []) g ∙ left (is_aborted N g) (is_aborted (m ∷ []) g) e);
  closed = λ g h e f k. good.closed g h e f (is_committed-append N (m ∷ []) h ∙ left (is_committed N h) (is_committed (m ∷ []) h) k);
}
  where
    left : (a b : Bool) → a ≡ true → (a || b) ≡ true
    left true b e = refl
    left false b e = absurd (false-true e)

-- A MARK THAT SHOWS NOTHING
abbrev pub IsHidden : (Gxid → Bool) → Mark → Type 0
IsHidden C m = (rid : Rid) (i : Option (List Value)) → image_after (λ g c. C g) the_accounts rid i (m ∷ []) ≡ i

pub hidden-shows : (L : Gxid) (N : List Mark) (m : Mark) (ds : List Change) → ((C : Gxid → Bool) → IsGood L (N ++ m ∷ []) C → IsHidden C m) → DoesShow L N ds → DoesShow L (N ++ m ∷ []) ds
hidden-shows L N m ds hidden shows C good =
    total-same (balance_by C L N) (balance_by C L (N ++ m ∷ [])) 64 (λ k l h. ap number_of (image_after-append (λ g c. C g) the_accounts (row_of L k) None N (m ∷ []) ∙ hidden C good (row_of L k) (image_by C N (row_of L k))))
    ∙ shows C (good-before L N m C good)

pub unseen-hidden : (C : Gxid → Bool) (g : Gxid) (c : Cid) (node : Node) (t : Table) (rid : Rid) (image : Option (List Value)) → C g ≡ false → IsHidden C (Write g c node t rid image)
unseen-hidden C g c node t rid image e q i = ap (λ (b : Bool). if b && ((t.0 == 0) && is_same_rid rid q) then image else i) e

turned : (a b d : ℤ) → a ≡ b → a +ℤ d ≡ d +ℤ b
turned a b d e = omega (arith, ints)

-- A WRITE THAT CHANGES AN ACCOUNT
module _ (L : Gxid) (N : List Mark) (g : Gxid) (c : Cid) (node : Node) (t : Table) (rid : Rid) (image : Option (List Value)) (table_is : t.0 ≡ 0) (rid_is : rid ≡ row_of L rid.ordinal) where
  abbrev m : Mark
  m = Write g c node t rid image

  now-is : (C : Gxid → Bool) → C g ≡ true → (q : Rid) → image_by C (N ++ m ∷ []) q ≡ (if is_same_rid rid q then image else image_by C N q)
  now-is C e q =
      image_after-append (λ g c. C g) the_accounts q None N (m ∷ [])
      ∙ ap (λ (b : Bool). if b && ((t.0 == 0) && is_same_rid rid q) then image else image_by C N q) e
      ∙ ap (λ (k : ℕ). if (k == 0) && is_same_rid rid q then image else image_by C N q) table_is

  away : (k : ℕ) → k ≢ rid.ordinal → is_same_rid rid (row_of L k) ≡ false
  away k f = by_test (is_same_rid rid (row_of L k)) refl
    where
      by_test : (b : Bool) → is_same_rid rid (row_of L k) ≡ b → b ≡ false
      by_test true e = absurd (f (sym (ap (λ (r : Rid). r.ordinal) (same_rid rid (row_of L k) e))))
      by_test false e = refl

  pub write-shows : (C : Gxid → Bool) (ds : List Change) (d z : ℤ) → 1 ≤ rid.ordinal → rid.ordinal ≤ 64 → (C g ≡ true → number_of (image_by C N rid) ≡ z) → number_of image ≡ z +ℤ d → total (balance_by C L N) 64 ≡ sum_of C ds
      → total (balance_by C L (N ++ m ∷ [])) 64 ≡ sum_of C (record { by = g; amount = d } ∷ ds)
  write-shows C ds d z low high old new sum = by_test (C g) refl
    where
      by_test : (b : Bool) → C g ≡ b → total (balance_by C L (N ++ m ∷ [])) 64 ≡ (if b then d +ℤ sum_of C ds else sum_of C ds)
      by_test true e =
          total-one (balance_by C L N) (balance_by C L (N ++ m ∷ [])) rid.ordinal d 64 low high
          (ap number_of (now-is C e (row_of L rid.ordinal)) ∙ ap (λ (q : Rid). number_of (if is_same_rid rid q then image else image_by C N q)) (sym rid_is) ∙ ap (λ (b : Bool). number_of (if b then image else image_by C N rid)) (is_same_rid-refl rid)
          ∙ new ∙ ap (λ x. x +ℤ d) (sym (old e)) ∙ ap (λ (q : Rid). number_of (image_by C N q) +ℤ d) rid_is)
          (λ k f. ap number_of (now-is C e (row_of L k)) ∙ ap (λ (b : Bool). number_of (if b then image else image_by C N (row_of L k))) (away k f))
          ∙ turned (total (balance_by C L N) 64) (sum_of C ds) d sum
      by_test false e =
          total-same (balance_by C L N) (balance_by C L (N ++ m ∷ [])) 64 (λ k l h. ap number_of (image_after-append (λ g c. C g) the_accounts (row_of L k) None N (m ∷ []) ∙ unseen-hidden C g c node t rid image e (row_of L k) (image_by C N (row_of L k))))
          ∙ sum

-- WHAT WAS SHOWN BEFORE
-- to a row that nobody has written
pub unwritten-image : (shown : Gxid → Cid → Bool) (table : Table) (rid : Rid) (i : Option (List Value)) (N : List Mark) → is_written N rid ≡ false → image_after shown table rid i N ≡ i
unwritten-image shown table rid i [] e = refl
unwritten-image shown table rid i (Write g c node t r written ∷ N) e = by_test (is_same_rid r rid) e (λ b. unwritten-image shown table rid (if b then written else i) N)
  where
    step : (a b : Bool) → (a && (b && false)) ≡ false
    step true true = refl
    step true false = refl
    step false b = refl

    by_test : (q : Bool) → (q || is_written N rid) ≡ false → ((b : Bool) → is_written N rid ≡ false → image_after shown table rid (if b then written else i) N ≡ (if b then written else i)) → image_after shown table rid (if shown g c && ((t.0 == table.0) && q) then written else i) N ≡ i
    by_test true f more = absurd (true-false true refl f)
    by_test false f more = ap (λ (b : Bool). image_after shown table rid (if b then written else i) N) (step (shown g c) (t.0 == table.0)) ∙ more false f
unwritten-image shown table rid i (m ∷ N) e = unwritten-image shown table rid i N e

-- the current write is shown to whom its writer is
module _ (A : Gxid → Bool) (C : Gxid → Bool) (less : (g : Gxid) → C g ≡ true → A g ≡ true) (rid : Rid) (w : Written) (seen : C w.gxid ≡ true) where
  abbrev AtTable : Gxid → Cid → Table → Rid → Option (List Value) → Type 0
  AtTable g c t r image = C g ≡ true → t.0 ≡ 0

  pub last-image : (place : ℕ) (last : Option Written) (i : Option (List Value)) (N : List Mark) → EachWrite AtTable N → ((x : Written) → last ≡ Some x → C x.gxid ≡ true → i ≡ x.image) → last_write (λ g c. A g) rid place last N ≡ Some w
      → image_after (λ g c. C g) the_accounts rid i N ≡ w.image
  last-image place last i [] each so e = so w e seen
  last-image place last i (Write g c node t r written ∷ N) each so e =
      by_test (is_same_rid r rid) (A g) refl (C g) refl (λ x j. last-image (place + 1) x j N each.1) e
    where
      new : Written
      new = record { place = place; gxid = g; cid = c; image = written }

      newest : (C g ≡ true → (if ((t.0 == 0) && true) then written else i) ≡ written)
      newest f = ap (λ (k : ℕ). if (k == 0) && true then written else i) (each.0 f)

      by_test : (s a : Bool) → A g ≡ a → (q : Bool) → C g ≡ q
          → ((x : Option Written) (j : Option (List Value)) → ((y : Written) → x ≡ Some y → C y.gxid ≡ true → j ≡ y.image) → last_write (λ g c. A g) rid (place + 1) x N ≡ Some w → image_after (λ g c. C g) the_accounts rid j N ≡ w.image)
          → last_write (λ g c. A g) rid (place + 1) (if a && s then Some new else last) N ≡ Some w → image_after (λ g c. C g) the_accounts rid (if q && ((t.0 == 0) && s) then written else i) N ≡ w.image
      by_test true true f true h more k = more (Some new) (if (t.0 == 0) && true then written else i) (λ y e p. newest h ∙ ap (λ (z : Written). z.image) (some-same new y e)) k
      by_test true true f false h more k = more (Some new) i (λ y e p. absurd (true-false (C g) (subst (λ (z : Written). C z.gxid ≡ true) (sym (some-same new y e)) p) h)) k
      by_test true false f true h more k = absurd (true-false (A g) (less g h) f)
      by_test true false f false h more k = more last i so k
      by_test false true f q h more k = ap (λ (b : Bool). image_after (λ g c. C g) the_accounts rid (if b then written else i) N) (off q (t.0 == 0)) ∙ more last i so k
        where
          off : (a b : Bool) → (a && (b && false)) ≡ false
          off true true = refl
          off true false = refl
          off false b = refl
      by_test false false f q h more k = ap (λ (b : Bool). image_after (λ g c. C g) the_accounts rid (if b then written else i) N) (off q (t.0 == 0)) ∙ more last i so k
        where
          off : (a b : Bool) → (a && (b && false)) ≡ false
          off true true = refl
          off true false = refl
          off false b = refl
  last-image place last i (_ ∷ N) each so e = last-image (place + 1) last i N each.1 so e
