-- What is written is read.
use Rattle.std.proofs.Common.{◌≡◌, ℕ, suc, ◌+◌, ◌-◌, ◌*◌, ◌/◌, ◌%◌, ◌^◌, ◌<◌, ◌≤◌, ◌==◌, nat_le, nat_lt, Bool, true, false, ◌&&◌, List, [], ◌∷◌, ◌++◌, length, codes, Option, Some, None, refl, sym, ◌∙◌, ap, arith, append_assoc, append-nil, ℤ, pos, negsuc}
use Rattle.std.specs.Prelude.{if◌then◌else◌}
use Rattle.std.specs.List.{flat_map}
use Rattle.std.specs.Fmt.{decimal}
use Rattle.std.proofs.lemmas.Fmt.{decimal_by_steps}
use Rattle.gx_ids.specs.declared.ids.Gxid.{Gxid}
use Rattle.gx_tree.specs.declared.value.Value.{Value}
use Rattle.gx_tree.specs.declared.value.Value.TheVariants as value
use Rattle.gx_msg.specs.declared.item.JournalItem.{JournalItem}
use Rattle.gx_msg.specs.declared.item.JournalItem.TheVariants as item
use Rattle.gx_msg.specs.declared.item.Kept.{Kept}
use Rattle.gx_msg.specs.declared.mid.Listed.{Listed}
use Rattle.gx_msg.specs.declared.mid.Listed.TheVariants as listed
use Rattle.gx_msg.specs.declared.mid.Lone.{Lone}
use Rattle.gx_msg.specs.declared.mid.Lone.TheVariants as lone
use Rattle.gx_msg.specs.declared.mid.Rows.{Rows}
use Rattle.gx_msg.specs.declared.mid.Spot.{Spot}
use Rattle.gx_msg.specs.declared.mid.Field.{Field}
use Rattle.gx_msg.specs.declared.mid.Field.TheVariants as field
use Rattle.gx_msg.specs.declared.mid.Mid.{Mid}
use Rattle.gx_msg.specs.declared.mid.Mid.TheVariants as mid
use Rattle.gx_text.specs.Quoted.{quoted_byte}
use Rattle.gx_msg.specs.ItemBytes.{bytes_of_value, behind_bar, bytes_of_image, line_of_kept, lines_of_rows, bytes_of_item}
use Rattle.gx_msg.specs.Reading.{Each, IsValue, IsImage, IsKept, IsItem}
use Rattle.gx_msg.specs.Steps as Steps
use Rattle.gx_msg.specs.Steps.{listed_item, lone_item, rows_from, line_ended, value_ended, number_ended, int_ended, is_negative, most, within, grown, is_digit, digits_on, next}
use Rattle.gx_msg.proofs.Choices.{if_true, if_false, same_number}
use Rattle.gx_msg.proofs.Runs.{onward, run, run-append}
use Rattle.gx_msg.proofs.Ending.{below, rows_more}

-- one stretch of bytes behind another
join : (us vs : List ℕ) (m n o : Mid) → run us m ≡ Some n → run vs n ≡ Some o → run (us ++ vs) m ≡ Some o
join us vs m n o p q = run-append us vs m ∙ ap (λ (x : Option Mid). onward (run vs) x) p ∙ q

one_step : (b : ℕ) (m n : Mid) → next m b ≡ Some n → run (b ∷ []) m ≡ Some n
one_step b m n e = ap (onward (run [])) e

at_most : (n limit : ℕ) → n ≤ limit → nat_le n limit ≡ true
at_most n limit l = grind arith

not_none : (n : ℕ) → 0 < n → (n == 0) ≡ false
not_none n l = grind arith

is_digit_of : (d : ℕ) → d < 10 → is_digit (48 + d) ≡ true
is_digit_of d l = grind arith

unsigned_or_some : (s : Bool) (d : ℕ) → (s ≡ true → 0 < d) → (s && (d == 0)) ≡ false
unsigned_or_some true d some = grind (arith, some refl)
unsigned_or_some false d some = refl

-- A number's digits.
module _ (f : Field) where
  abbrev IsFed : ℕ → List ℕ → Type 0
  IsFed m ds = m ≤ most f → (is_negative f ≡ true → 0 < m) → run ds (mid.Digits f None) ≡ Some (mid.Digits f (Some m))

  fed_one : (m : ℕ) → m < 10 → IsFed m ((48 + m) ∷ [])
  fed_one m l most some =
      let d : (48 + m) - 48 ≡ m = omega arith in
      one_step (48 + m) (mid.Digits f None) (mid.Digits f (Some m)) (if_true (is_digit (48 + m)) _ (Steps.digits_over f None (48 + m)) (is_digit_of m l)
      ∙ ap (λ (n : ℕ). digits_on f (grown (is_negative f) (Steps.most f) None n)) d
      ∙ ap (digits_on f) (if_false (is_negative f && (m == 0)) _ _ (unsigned_or_some (is_negative f) m some)))

  fed_more : (m : ℕ) (ds : List ℕ) → 10 ≤ m → IsFed (m / 10) ds → IsFed m (ds ++ ((48 + m % 10) ∷ []))
  fed_more m ds l ih small some =
      let d : (48 + m % 10) - 48 ≡ m % 10 = omega arith in
      let whole : (m / 10) * 10 + m % 10 ≡ m = omega arith in
      join ds ((48 + m % 10) ∷ []) (mid.Digits f None) (mid.Digits f (Some (m / 10))) (mid.Digits f (Some m)) (ih (omega arith) (λ e. omega arith)) (one_step (48 + m % 10) (mid.Digits f (Some (m / 10))) (mid.Digits f (Some m)) (if_true (is_digit (48 + m % 10)) _ (Steps.digits_over f (Some (m / 10)) (48 + m % 10)) (is_digit_of (m % 10) (omega arith))
      ∙ ap (λ (n : ℕ). digits_on f (grown (is_negative f) (Steps.most f) (Some (m / 10)) n)) d
      ∙ ap (digits_on f) (if_false (m / 10 == 0) _ _ (not_none (m / 10) (omega arith)) ∙ ap (within (Steps.most f)) whole ∙ if_true (nat_le m (Steps.most f)) _ _ (at_most m (Steps.most f) small))))

  pub fed : (n : ℕ) → n < 2 ^ 64 → IsFed n (decimal n)
  fed = decimal_by_steps IsFed fed_one fed_more

-- a number and the byte behind it
fed_then : (f : Field) (n stop : ℕ) (rest : List ℕ) (m o : Mid) → n < 2 ^ 64 → n ≤ most f → (is_negative f ≡ true → 0 < n) → is_digit stop ≡ false → number_ended f n stop ≡ Some m → run rest m ≡ Some o → run (decimal n ++ stop ∷ rest) (mid.Digits f None) ≡ Some o
fed_then f n stop rest m o small few some end e q = join (decimal n) (stop ∷ rest) (mid.Digits f None) (mid.Digits f (Some n)) o (fed f n small few some) (ap (onward (run rest)) (if_false (is_digit stop) (digits_on f (grown (is_negative f) (most f) (Some n) (stop - 48))) (number_ended f n stop) end ∙ e) ∙ q)

no_sign : (x : ℕ) → false ≡ true → 0 < x
no_sign x e = absurd (grind arith)

then_some : (o : Option Mid) → onward (run []) o ≡ o
then_some None = refl
then_some (Some m) = refl

parted : (a b c : List ℕ) → (a ++ ((124 ∷ b) ++ c)) ++ 10 ∷ [] ≡ (a ++ 124 ∷ []) ++ ((b ++ c) ++ 10 ∷ [])
parted a b c = simp append_assoc

-- A line.
module _ (spot : Spot) where
  byte_by : (values : List Value) (acc : List ℕ) (b : ℕ) (c : Bool) → (b == 39) ≡ c → run (if c then 39 ∷ 39 ∷ [] else b ∷ []) (mid.Text spot values acc) ≡ Some (mid.Text spot values (acc ++ b ∷ []))
  byte_by values acc b true e = ap (λ (x : ℕ). Some (mid.Text spot values (acc ++ x ∷ []))) (sym (same_number b 39 e))
  byte_by values acc b false e = one_step b (mid.Text spot values acc) (mid.Text spot values (acc ++ b ∷ [])) (if_false (b == 39) _ _ e)

  text_fed : (values : List Value) (t acc : List ℕ) → run (flat_map quoted_byte t) (mid.Text spot values acc) ≡ Some (mid.Text spot values (acc ++ t))
  text_fed values [] acc = ap (λ (x : List ℕ). Some (mid.Text spot values x)) (sym (append-nil acc))
  text_fed values (b ∷ t) acc =
      join (quoted_byte b) (flat_map quoted_byte t) (mid.Text spot values acc) (mid.Text spot values (acc ++ b ∷ [])) (mid.Text spot values ((acc ++ b ∷ []) ++ t)) (byte_by values acc b (b == 39) refl) (text_fed values t (acc ++ b ∷ []))
      ∙ ap (λ (x : List ℕ). Some (mid.Text spot values x)) (append_assoc acc (b ∷ []) t)

  -- a value that begins with a digit is a number
  abbrev Begun : List Value → ℕ → List ℕ → Type 0
  Begun values m ds = run ds (mid.Value spot values) ≡ run ds (mid.Digits (field.Int spot values false) None)

  begun_one : (values : List Value) (m : ℕ) → m < 10 → Begun values m ((48 + m) ∷ [])
  begun_one values m l =
      let a : ((48 + m) == 39) ≡ false = grind arith in
      let b : ((48 + m) == 45) ≡ false = grind arith in
      let c : (((48 + m) == 103) && (length values == 0)) ≡ false = grind arith in
      ap (onward (run [])) (if_false ((48 + m) == 39) _ _ a ∙ if_false ((48 + m) == 45) _ _ b ∙ if_false (((48 + m) == 103) && (length values == 0)) _ _ c)

  begun_more : (values : List Value) (m : ℕ) (ds : List ℕ) → 10 ≤ m → Begun values (m / 10) ds → Begun values m (ds ++ ((48 + m % 10) ∷ []))
  begun_more values m ds l ih = run-append ds ((48 + m % 10) ∷ []) (mid.Value spot values) ∙ ap (onward (run ((48 + m % 10) ∷ []))) ih ∙ sym (run-append ds ((48 + m % 10) ∷ []) (mid.Digits (field.Int spot values false) None))

  begun : (values : List Value) (n : ℕ) → n < 2 ^ 64 → Begun values n (decimal n)
  begun values = decimal_by_steps (Begun values) (begun_one values) (begun_more values)

  -- a value and the byte behind it
  value_fed : (values : List Value) (v : Value) (e : ℕ) → IsValue v → (e == 39) ≡ false → is_digit e ≡ false → run (bytes_of_value v ++ e ∷ []) (mid.Value spot values) ≡ value_ended spot (values ++ v ∷ []) e
  value_fed values (value.Text t) e is q d =
      run-append (bytes_of_value (value.Text t)) (e ∷ []) (mid.Value spot values)
      ∙ ap (onward (run (e ∷ []))) (join (39 ∷ flat_map quoted_byte t) (39 ∷ []) (mid.Value spot values) (mid.Text spot values t) (mid.Quoted spot values t) (text_fed values t []) refl)
      ∙ then_some (next (mid.Quoted spot values t) e)
      ∙ if_false (e == 39) _ _ q
  value_fed values (value.Int (pos n)) e is q d =
      run-append (decimal n) (e ∷ []) (mid.Value spot values)
      ∙ ap (onward (run (e ∷ []))) (begun values n (omega arith) ∙ fed (field.Int spot values false) n (omega arith) (omega arith) (no_sign n))
      ∙ then_some (next (mid.Digits (field.Int spot values false) (Some n)) e)
      ∙ if_false (is_digit e) _ _ d
      ∙ ap (λ (z : Option ℤ). int_ended spot values z e) (if_true (nat_lt n (2 ^ 63)) _ _ (below n (2 ^ 63) is))
  value_fed values (value.Int (negsuc m)) e is q d =
      run-append (decimal (suc m)) (e ∷ []) (mid.Digits (field.Int spot values true) None)
      ∙ ap (onward (run (e ∷ []))) (fed (field.Int spot values true) (suc m) (omega arith) (omega arith) (λ t. omega arith))
      ∙ then_some (next (mid.Digits (field.Int spot values true) (Some (suc m))) e)
      ∙ if_false (is_digit e) _ _ d
      ∙ ap (λ (z : Option ℤ). int_ended spot values z e) (if_true (nat_lt m (2 ^ 63)) _ _ (below m (2 ^ 63) is))

  row_fed : (values : List Value) (u : Value) (vs : List Value) → IsValue u → Each IsValue vs → run ((bytes_of_value u ++ flat_map behind_bar vs) ++ 10 ∷ []) (mid.Value spot values) ≡ Some (line_ended spot (Some (values ++ u ∷ vs)))
  row_fed values u [] is all = ap (λ (x : List ℕ). run (x ++ 10 ∷ []) (mid.Value spot values)) (append-nil (bytes_of_value u)) ∙ value_fed values u 10 is refl refl
  row_fed values u (w ∷ ws) is all =
      ap (λ (x : List ℕ). run x (mid.Value spot values)) (parted (bytes_of_value u) (bytes_of_value w) (flat_map behind_bar ws))
      ∙ join (bytes_of_value u ++ 124 ∷ []) ((bytes_of_value w ++ flat_map behind_bar ws) ++ 10 ∷ []) (mid.Value spot values) (mid.Value spot (values ++ u ∷ [])) (line_ended spot (Some ((values ++ u ∷ []) ++ w ∷ ws))) (value_fed values u 124 is refl refl) (row_fed (values ++ u ∷ []) w ws all.0 all.1)
      ∙ ap (λ (x : List Value). Some (line_ended spot (Some x))) (append_assoc values (u ∷ []) (w ∷ ws))

  image_fed : (image : Option (List Value)) → IsImage image → run (bytes_of_image image ++ 10 ∷ []) (mid.Value spot []) ≡ Some (line_ended spot image)
  image_fed None is = refl
  image_fed (Some []) is = absurd is
  image_fed (Some (u ∷ vs)) is = row_fed [] u vs is.0 is.1

regroup : (a b c d e : List ℕ) → (a ++ codes "." ++ b ++ codes "." ++ c) ++ codes " " ++ d ++ codes " " ++ e ++ codes "\n" ≡ a ++ 46 ∷ (b ++ 46 ∷ (c ++ 32 ∷ (d ++ 32 ∷ (e ++ 10 ∷ []))))
regroup a b c d e = simp append_assoc

head_parts : (a b c : List ℕ) → a ++ codes " " ++ b ++ codes "\n" ++ c ≡ a ++ 32 ∷ (b ++ 10 ∷ c)
head_parts a b c = simp append_assoc

line_fed : (rows : Rows) (kept : Kept) → IsKept kept → run (line_of_kept kept) (mid.Digits (field.RidGxid rows) None) ≡ Some (rows_from rows.listed rows.gxid (rows.kept ++ kept ∷ []) rows.others)
line_fed rows kept is =
    let g = kept.rid.gxid in
    let c = kept.rid.cid in
    let spot : Spot = record { rows = rows; rid = kept.rid; table = kept.table } in
    let o : Mid = line_ended spot kept.image in
    let image : run (bytes_of_image kept.image ++ 10 ∷ []) (mid.Value spot []) ≡ Some o = image_fed spot kept.image is.image in
    let table = fed_then (field.Table rows kept.rid) kept.table.0 32 (bytes_of_image kept.image ++ 10 ∷ []) (mid.Value spot []) o (omega (arith, is.table)) (omega (arith, is.table)) (no_sign _) refl (if_true (nat_lt kept.table.0 (2 ^ 8)) _ _ (below kept.table.0 (2 ^ 8) is.table)) image in
    let ordinal = fed_then (field.RidOrdinal rows g c) kept.rid.ordinal 32 _ (mid.Digits (field.Table rows kept.rid) None) o (omega (arith, is.ordinal)) (omega (arith, is.ordinal)) (no_sign _) refl (if_true (nat_lt kept.rid.ordinal (2 ^ 32)) _ _ (below kept.rid.ordinal (2 ^ 32) is.ordinal)) table in
    let cid = fed_then (field.RidCid rows g) c.0 46 _ (mid.Digits (field.RidOrdinal rows g c) None) o (omega (arith, is.cid)) (omega (arith, is.cid)) (no_sign _) refl (if_true (nat_lt c.0 (2 ^ 32)) _ _ (below c.0 (2 ^ 32) is.cid)) ordinal in
    let gxid = fed_then (field.RidGxid rows) g.0 46 _ (mid.Digits (field.RidCid rows g) None) o is.gxid (omega (arith, is.gxid)) (no_sign _) refl refl cid in
    ap (λ (x : List ℕ). run x (mid.Digits (field.RidGxid rows) None)) (regroup (decimal g.0) (decimal c.0) (decimal kept.rid.ordinal) (decimal kept.table.0) (bytes_of_image kept.image)) ∙ gxid

rows_fed : (k : Listed) (g : Gxid) (kept ks : List Kept) → Each IsKept ks → run (flat_map line_of_kept ks) (rows_from k g kept (length ks)) ≡ Some (mid.Done (listed_item k g (kept ++ ks)))
rows_fed k g kept [] all = ap (λ (x : List Kept). Some (mid.Done (listed_item k g x))) (sym (append-nil kept))
rows_fed k g kept (x ∷ xs) all =
    let rows : Rows = record { listed = k; gxid = g; kept = kept; others = length xs } in
    ap (λ (m : Mid). run (line_of_kept x ++ flat_map line_of_kept xs) m) (rows_more (length xs) k g kept)
    ∙ join (line_of_kept x) (flat_map line_of_kept xs) (mid.Digits (field.RidGxid rows) None) (rows_from k g (kept ++ x ∷ []) (length xs)) (mid.Done (listed_item k g ((kept ++ x ∷ []) ++ xs))) (line_fed rows x all.0) (rows_fed k g (kept ++ x ∷ []) xs all.1)
    ∙ ap (λ (l : List Kept). Some (mid.Done (listed_item k g l))) (append_assoc kept (x ∷ []) xs)

listed_fed : (k : Listed) (g : Gxid) (rows : List Kept) → g.0 < 2 ^ 64 → length rows < 2 ^ 64 → Each IsKept rows → run (lines_of_rows g rows) (mid.Digits (field.Listed k) None) ≡ Some (mid.Done (listed_item k g rows))
listed_fed k g rows a b all =
    let o : Mid = mid.Done (listed_item k g rows) in
    let count = fed_then (field.Count k g) (length rows) 10 (flat_map line_of_kept rows) (rows_from k g [] (length rows)) o b (omega arith) (no_sign _) refl refl (rows_fed k g [] rows all) in
    let gxid = fed_then (field.Listed k) g.0 32 (decimal (length rows) ++ 10 ∷ flat_map line_of_kept rows) (mid.Digits (field.Count k g) None) o a (omega arith) (no_sign _) refl refl count in
    ap (λ (x : List ℕ). run x (mid.Digits (field.Listed k) None)) (head_parts (decimal g.0) (decimal (length rows)) (flat_map line_of_kept rows)) ∙ gxid

lone_fed : (k : Lone) (g : Gxid) → g.0 < 2 ^ 64 → run (decimal g.0 ++ 10 ∷ []) (mid.Digits (field.Lone k) None) ≡ Some (mid.Done (lone_item k g))
lone_fed k g a = fed_then (field.Lone k) g.0 10 [] (mid.Done (lone_item k g)) (mid.Done (lone_item k g)) a (omega arith) (no_sign _) refl refl refl

pub complete : (i : JournalItem) → IsItem i → run (bytes_of_item i) mid.Start ≡ Some (mid.Done i)
complete (item.Prepare g rows) is = listed_fed listed.Prepare g rows is.0 is.1 is.2
complete (item.Commit g rows) is = listed_fed listed.Commit g rows is.0 is.1 is.2
complete (item.Finish g) is = lone_fed lone.Finish g is
complete (item.Decide g) is = lone_fed lone.Decide g is
complete (item.Abort g) is = lone_fed lone.Abort g is
complete (item.Forget g) is = lone_fed lone.Forget g is
