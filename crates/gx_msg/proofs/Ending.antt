-- From each state some bytes lead to an item.
use Rattle.std.proofs.Common.{◌≡◌, ℕ, zero, suc, ◌+◌, ◌-◌, ◌^◌, ◌<◌, ◌==◌, nat_lt, true, false, List, [], ◌∷◌, ◌++◌, length, drop, length-drop, Option, Some, None, refl, sym, ◌∙◌, ap, subst, arith, ℤ, pos, negsuc}
use Rattle.gx_ids.specs.declared.ids.Gxid.{Gxid}
use Rattle.gx_ids.specs.declared.ids.Cid.{Cid}
use Rattle.gx_ids.specs.declared.rid.Rid.{Rid}
use Rattle.gx_tree.specs.declared.value.Value.{Value}
use Rattle.gx_tree.specs.declared.value.Value.TheVariants as value
use Rattle.gx_msg.specs.declared.item.JournalItem.{JournalItem}
use Rattle.gx_msg.specs.declared.item.Kept.{Kept}
use Rattle.gx_msg.specs.declared.mid.Listed.{Listed}
use Rattle.gx_msg.specs.declared.mid.Rows.{Rows}
use Rattle.gx_msg.specs.declared.mid.Spot.{Spot}
use Rattle.gx_msg.specs.declared.mid.Word.{Word}
use Rattle.gx_msg.specs.declared.mid.Word.TheVariants as word
use Rattle.gx_msg.specs.declared.mid.Field.{Field}
use Rattle.gx_msg.specs.declared.mid.Field.TheVariants as field
use Rattle.gx_msg.specs.declared.mid.Lone.TheVariants as lone
use Rattle.std.specs.Prelude.{slice_get}
use Rattle.gx_msg.specs.declared.mid.Mid.{Mid}
use Rattle.gx_msg.specs.declared.mid.Mid.TheVariants as mid
use Rattle.gx_msg.specs.Steps.{letters_of, word_ended, letter_is, listed_item, lone_item, rows_from, line_ended, int_ended}
use Rattle.gx_msg.proofs.Choices.{if_true, if_false}
use Rattle.gx_msg.proofs.Printed.{IsMid}
use Rattle.gx_msg.proofs.Runs.{onward, run, run-append}

-- some bytes lead on to an item
pub record Ends (m : Mid) : Type 0 where
  pub bytes : List ℕ
  pub item : JournalItem
  pub leads : run bytes m ≡ Some (mid.Done item)

ends_after : (bs : List ℕ) (m n : Mid) → run bs m ≡ Some n → Ends n → Ends m
ends_after bs m n e h = record {
  bytes = bs ++ h.bytes;
  item = h.item;
  leads = run-append bs h.bytes m ∙ ap (λ (o : Option Mid). onward (run h.bytes) o) e ∙ h.leads;
}

ends_here : (i : JournalItem) → Ends (mid.Done i)
ends_here i = record { bytes = []; item = i; leads = refl }

abbrev spot_of : Listed → Gxid → List Kept → ℕ → Spot
spot_of k g kept m = record { rows = record { listed = k; gxid = g; kept = kept; others = m }; rid = record { gxid = record { 0 = 0 }; cid = record { 0 = 0 }; ordinal = 0 }; table = record { 0 = 0 } }

abbrev gone : Spot → Kept
gone spot = record { rid = spot.rid; table = spot.table; image = None }

pub rows_more : (m : ℕ) (k : Listed) (g : Gxid) (kept : List Kept) → rows_from k g kept (suc m) ≡ mid.Digits (field.RidGxid (record { listed = k; gxid = g; kept = kept; others = m })) None
rows_more m k g kept =
    let some : (suc m == 0) ≡ false = grind arith in
    let fewer : suc m - 1 ≡ m = omega arith in
    if_false (suc m == 0) _ _ some ∙ ap (λ (n : ℕ). mid.Digits (field.RidGxid (record { listed = k; gxid = g; kept = kept; others = n })) None) fewer

-- the rows that are missing may be any
rows_end : (left : ℕ) (k : Listed) (g : Gxid) (kept : List Kept) → Ends (rows_from k g kept left)
rows_end zero k g kept = ends_here (listed_item k g kept)
rows_end (suc m) k g kept =
    let spot : Spot = spot_of k g kept m in
    subst Ends (sym (rows_more m k g kept)) (ends_after (48 ∷ 46 ∷ 48 ∷ 46 ∷ 48 ∷ 32 ∷ 48 ∷ 32 ∷ 103 ∷ 111 ∷ 110 ∷ 101 ∷ 10 ∷ []) (mid.Digits (field.RidGxid spot.rows) None) (line_ended spot None) refl (rows_end m k g (kept ++ gone spot ∷ [])))

line_ends : (spot : Spot) (image : Option (List Value)) → Ends (line_ended spot image)
line_ends spot image = rows_end spot.rows.others spot.rows.listed spot.rows.gxid (spot.rows.kept ++ record { rid = spot.rid; table = spot.table; image = image } ∷ [])

value_ends : (spot : Spot) (values : List Value) → Ends (mid.Value spot values)
value_ends spot values = ends_after (39 ∷ 39 ∷ 10 ∷ []) _ (line_ended spot (Some (values ++ value.Text [] ∷ []))) refl (line_ends spot _)

table_ends : (rows : Rows) (rid : Rid) → Ends (mid.Digits (field.Table rows rid) None)
table_ends rows rid = ends_after (48 ∷ 32 ∷ []) _ (mid.Value (record { rows = rows; rid = rid; table = record { 0 = 0 } }) []) refl (value_ends _ _)

ordinal_ends : (rows : Rows) (g : Gxid) (c : Cid) → Ends (mid.Digits (field.RidOrdinal rows g c) None)
ordinal_ends rows g c = ends_after (48 ∷ 32 ∷ []) _ (mid.Digits (field.Table rows (record { gxid = g; cid = c; ordinal = 0 })) None) refl (table_ends rows _)

cid_ends : (rows : Rows) (g : Gxid) → Ends (mid.Digits (field.RidCid rows g) None)
cid_ends rows g = ends_after (48 ∷ 46 ∷ []) _ (mid.Digits (field.RidOrdinal rows g (record { 0 = 0 })) None) refl (ordinal_ends rows g _)

pub below : (n limit : ℕ) → n < limit → nat_lt n limit ≡ true
below n limit l = grind arith

-- behind a number that is as large as it may be or smaller
number_ends : (f : Field) (n : ℕ) → IsMid (mid.Digits f (Some n)) → Ends (mid.Digits f (Some n))
number_ends (field.Listed k) n is = ends_after (32 ∷ 48 ∷ 10 ∷ []) _ (mid.Done (listed_item k (record { 0 = n }) [])) refl (ends_here _)
number_ends (field.Lone k) n is = ends_after (10 ∷ []) _ (mid.Done (lone_item k (record { 0 = n }))) refl (ends_here _)
number_ends (field.Count k g) n is = ends_after (10 ∷ []) _ (rows_from k g [] n) refl (rows_end n k g [])
number_ends (field.RidGxid rows) n is = ends_after (46 ∷ []) _ (mid.Digits (field.RidCid rows (record { 0 = n })) None) refl (cid_ends rows _)
number_ends (field.RidCid rows g) n is = ends_after (46 ∷ []) _ (mid.Digits (field.RidOrdinal rows g (record { 0 = n })) None) (ap (onward (run [])) (if_true (nat_lt n (2 ^ 32)) _ _ (below n (2 ^ 32) (omega (arith, is.1.0))))) (ordinal_ends rows g _)
number_ends (field.RidOrdinal rows g c) n is = ends_after (32 ∷ []) _ (mid.Digits (field.Table rows (record { gxid = g; cid = c; ordinal = n })) None) (ap (onward (run [])) (if_true (nat_lt n (2 ^ 32)) _ _ (below n (2 ^ 32) (omega (arith, is.1.0))))) (table_ends rows _)
number_ends (field.Table rows rid) n is = ends_after (32 ∷ []) _ (mid.Value (record { rows = rows; rid = rid; table = record { 0 = n } }) []) (ap (onward (run [])) (if_true (nat_lt n (2 ^ 8)) _ _ (below n (2 ^ 8) (omega (arith, is.1.0))))) (value_ends _ _)
number_ends (field.Int spot values false) n is = ends_after (10 ∷ []) _ (line_ended spot (Some (values ++ value.Int (pos n) ∷ []))) (ap (λ (o : Option ℤ). onward (run []) (int_ended spot values o 10)) (if_true (nat_lt n (2 ^ 63)) _ _ (below n (2 ^ 63) (omega (arith, is.1.0))))) (line_ends spot _)
number_ends (field.Int spot values true) zero is = absurd (omega (arith, is.1.1 refl))
number_ends (field.Int spot values true) (suc m) is = ends_after (10 ∷ []) _ (line_ended spot (Some (values ++ value.Int (negsuc m) ∷ []))) (ap (λ (o : Option ℤ). onward (run []) (int_ended spot values o 10)) (if_true (nat_lt m (2 ^ 63)) _ _ (below m (2 ^ 63) (omega (arith, is.1.0))))) (line_ends spot _)

digits_end : (f : Field) (n : Option ℕ) → IsMid (mid.Digits f n) → Ends (mid.Digits f n)
digits_end f (Some n) is = number_ends f n is
digits_end (field.Listed k) None is = ends_after (48 ∷ 32 ∷ 48 ∷ 10 ∷ []) _ (mid.Done (listed_item k (record { 0 = 0 }) [])) refl (ends_here _)
digits_end (field.Lone k) None is = ends_after (48 ∷ 10 ∷ []) _ (mid.Done (lone_item k (record { 0 = 0 }))) refl (ends_here _)
digits_end (field.Count k g) None is = ends_after (48 ∷ 10 ∷ []) _ (mid.Done (listed_item k g [])) refl (ends_here _)
digits_end (field.RidGxid rows) None is = ends_after (48 ∷ 46 ∷ []) _ (mid.Digits (field.RidCid rows (record { 0 = 0 })) None) refl (cid_ends rows _)
digits_end (field.RidCid rows g) None is = cid_ends rows g
digits_end (field.RidOrdinal rows g c) None is = ordinal_ends rows g c
digits_end (field.Table rows rid) None is = table_ends rows rid
digits_end (field.Int spot values false) None is = ends_after (48 ∷ 10 ∷ []) _ (line_ended spot (Some (values ++ value.Int (pos 0) ∷ []))) refl (line_ends spot _)
digits_end (field.Int spot values true) None is = ends_after (49 ∷ 10 ∷ []) _ (line_ended spot (Some (values ++ value.Int (negsuc 0) ∷ []))) refl (line_ends spot _)

-- letters
same : (c : ℕ) → (c == c) ≡ true
same c = grind arith

abbrev head_or : List ℕ → ℕ → ℕ
head_or [] d = d
head_or (x ∷ xs) d = x

get_first : (xs : List ℕ) (i x : ℕ) (rest : List ℕ) → drop i xs ≡ x ∷ rest → slice_get xs i ≡ Some x
get_first [] zero x rest e = absurd (omega (arith, ap length e))
get_first [] (suc i) x rest e = absurd (omega (arith, ap length e))
get_first (y ∷ ys) zero x rest e = ap Some (ap (λ (l : List ℕ). head_or l y) e)
get_first (y ∷ ys) (suc i) x rest e = get_first ys i x rest e

drop_suc : (xs : List ℕ) (i x : ℕ) (rest : List ℕ) → drop i xs ≡ x ∷ rest → drop (suc i) xs ≡ rest
drop_suc [] zero x rest e = absurd (omega (arith, ap length e))
drop_suc [] (suc i) x rest e = absurd (omega (arith, ap length e))
drop_suc (y ∷ ys) zero x rest e = ap (λ (l : List ℕ). drop (suc zero) l) e
drop_suc (y ∷ ys) (suc i) x rest e = drop_suc ys i x rest e

next_drop : (xs : List ℕ) (i x : ℕ) (rest : List ℕ) → drop i xs ≡ x ∷ rest → drop (i + 1) xs ≡ rest
next_drop xs i x rest e = let next : i + 1 ≡ suc i = omega arith in ap (λ (n : ℕ). drop n xs) next ∙ drop_suc xs i x rest e

last : (xs : List ℕ) (i x : ℕ) → drop i xs ≡ x ∷ [] → nat_lt (i + 1) (length xs) ≡ false
last xs i x e = let l : length xs - i ≡ 1 = sym (length-drop i xs) ∙ ap length e in grind (arith, l)

more : (xs : List ℕ) (i x y : ℕ) (rest : List ℕ) → drop i xs ≡ x ∷ y ∷ rest → nat_lt (i + 1) (length xs) ≡ true
more xs i x y rest e = let l : length xs - i ≡ length (x ∷ y ∷ rest) = sym (length-drop i xs) ∙ ap length e in below (i + 1) (length xs) (omega (arith, l))

-- a word ends from each of its letters on; behind them it has no place
word_ends : (w : Word) → Ends (word_ended w)
word_ends (word.Listed k) = digits_end (field.Listed k) None (tt, tt)
word_ends (word.Lone k) = digits_end (field.Lone k) None (tt, tt)
word_ends (word.Gone spot) = line_ends spot None

letter_ends : (w : Word) (place : ℕ) (left : List ℕ) → drop place (letters_of w) ≡ left → 0 < length left → Ends (mid.Word w place)
letter_ends w place [] e some = absurd (omega arith)
letter_ends w place (c ∷ []) e some = ends_after (c ∷ []) (mid.Word w place) (word_ended w)
    (ap (onward (run [])) (ap (λ (o : Option ℕ). letter_is w place o c) (get_first (letters_of w) place c [] e) ∙ if_true (c == c) _ _ (same c) ∙ ap Some (if_false (nat_lt (place + 1) (length (letters_of w))) _ _ (last (letters_of w) place c e))))
    (word_ends w)
letter_ends w place (c ∷ d ∷ left) e some = ends_after (c ∷ []) (mid.Word w place) (mid.Word w (place + 1))
    (ap (onward (run [])) (ap (λ (o : Option ℕ). letter_is w place o c) (get_first (letters_of w) place c (d ∷ left) e) ∙ if_true (c == c) _ _ (same c) ∙ ap Some (if_true (nat_lt (place + 1) (length (letters_of w))) _ _ (more (letters_of w) place c d left e))))
    (letter_ends w (place + 1) (d ∷ left) (next_drop (letters_of w) place c (d ∷ left) e) (omega arith))

pub ends : (m : Mid) → IsMid m → Ends m
ends mid.Fork is = ends_after (105 ∷ 110 ∷ 105 ∷ 115 ∷ 104 ∷ 32 ∷ []) mid.Fork (mid.Digits (field.Lone lone.Finish) None) refl (digits_end (field.Lone lone.Finish) None (tt, tt))
ends mid.Start is = ends_after (102 ∷ 105 ∷ 110 ∷ 105 ∷ 115 ∷ 104 ∷ 32 ∷ []) mid.Start (mid.Digits (field.Lone lone.Finish) None) refl (digits_end (field.Lone lone.Finish) None (tt, tt))
ends (mid.Word w place) is = letter_ends w place (drop place (letters_of w)) refl is.1
ends (mid.Digits f n) is = digits_end f n is
ends (mid.Value spot values) is = value_ends spot values
ends (mid.Text spot values text) is = ends_after (39 ∷ 10 ∷ []) _ (line_ended spot (Some (values ++ value.Text text ∷ []))) refl (line_ends spot _)
ends (mid.Quoted spot values text) is = ends_after (10 ∷ []) _ (line_ended spot (Some (values ++ value.Text text ∷ []))) refl (line_ends spot _)
ends (mid.Done i) is = ends_here i
