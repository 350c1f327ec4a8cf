-- A step of the reader reads its byte and keeps what holds.
use Rattle.std.proofs.Common.{◌≡◌, ℕ, ◌+◌, ◌-◌, ◌*◌, ◌^◌, ◌<◌, ◌≤◌, ◌==◌, nat_lt, nat_le, Bool, true, false, ◌&&◌, List, [], ◌∷◌, ◌++◌, length, take, Option, Some, None, refl, sym, ◌∙◌, ap, subst, arith, append_assoc, append-nil, length-append, length-drop, ℤ, pos, negsuc, zero, suc}
use Rattle.std.specs.Prelude.{if◌then◌else◌, slice_get}
use Rattle.std.specs.List.{flat_map}
use Rattle.std.specs.Fmt.{decimal}
use Rattle.gx_tree.specs.declared.value.Value.{Value}
use Rattle.gx_tree.specs.declared.value.Value.TheVariants as value
use Rattle.gx_msg.specs.declared.item.Kept.{Kept}
use Rattle.gx_msg.specs.declared.mid.Field.{Field}
use Rattle.gx_msg.specs.declared.mid.Field.TheVariants as field
use Rattle.gx_msg.specs.declared.mid.Mid.{Mid}
use Rattle.gx_msg.specs.declared.mid.Mid.TheVariants as mid
use Rattle.gx_ids.specs.declared.ids.Gxid.{Gxid}
use Rattle.gx_msg.specs.declared.mid.Listed.{Listed}
use Rattle.gx_msg.specs.declared.mid.Listed.TheVariants as listed
use Rattle.gx_msg.specs.declared.mid.Lone.{Lone}
use Rattle.gx_msg.specs.declared.mid.Lone.TheVariants as lone
use Rattle.gx_msg.specs.declared.mid.Spot.{Spot}
use Rattle.gx_msg.specs.declared.mid.Word.{Word}
use Rattle.gx_msg.specs.declared.mid.Word.TheVariants as word
use Rattle.std.proofs.lemmas.Grind.{flat_map-append}
use Rattle.std.proofs.lemmas.List.{take_all}
use Rattle.std.proofs.lemmas.Option.{none-some, same_Some}
use Rattle.gx_text.specs.Quoted.{quoted_byte}
use Rattle.gx_msg.specs.ItemBytes.{bytes_of_value, behind_bar, bytes_of_row, bytes_of_image}
use Rattle.gx_msg.specs.Reading.{Each, IsValue, IsImage, IsKept}
use Rattle.gx_msg.specs.Steps.{letters_of, listed_item, lone_item, rows_from, line_ended, value_ended, int_ended, signed, at, grown, within, is_digit, is_negative, most, digits_on, number_ended, next_digit, word_ended, letter_is, next_letter, begin, fork, begin_value, next}
use Rattle.gx_msg.proofs.Choices.{pick, if_false, same_number, by_le, by_lt, digit_bounds, decimal-more, decimal-first}
use Rattle.gx_msg.proofs.Printed.{rows_front, front_of_spot, followed, front_of_values, front_of, front_of_word, sign, digits_of, printed, IsSpot, IsField, IsWord, IsNumber, IsMid, Keeps}

-- a state that comes at one byte
keeps_at : (front : List ℕ) (stop b : ℕ) (m : Mid) → IsMid m → printed m ≡ front ++ stop ∷ [] → Keeps front b (at stop b m)
keeps_at front stop b m is p = pick (λ (x : Option Mid). Keeps front b x) (b == stop) (Some m) None
    (λ e. (is, p ∙ ap (λ (x : ℕ). front ++ x ∷ []) (sym (same_number b stop e))))
    (λ e. tt)

most-small : (f : Field) → most f < 2 ^ 64
most-small (field.Listed k) = omega arith
most-small (field.Lone k) = omega arith
most-small (field.Count k g) = omega arith
most-small (field.RidGxid rows) = omega arith
most-small (field.RidCid rows g) = omega arith
most-small (field.RidOrdinal rows g c) = omega arith
most-small (field.Table rows rid) = omega arith
most-small (field.Int spot values false) = omega arith
most-small (field.Int spot values true) = omega arith

nine-most : (f : Field) → 9 ≤ most f
nine-most (field.Listed k) = omega arith
nine-most (field.Lone k) = omega arith
nine-most (field.Count k g) = omega arith
nine-most (field.RidGxid rows) = omega arith
nine-most (field.RidCid rows g) = omega arith
nine-most (field.RidOrdinal rows g c) = omega arith
nine-most (field.Table rows rid) = omega arith
nine-most (field.Int spot values false) = omega arith
nine-most (field.Int spot values true) = omega arith

not_zero : (s : Bool) (d : ℕ) → (s && (d == 0)) ≡ false → s ≡ true → 0 < d
not_zero s d e t = grind arith

above : (n : ℕ) → (n == 0) ≡ false → 0 < n
above n e = grind arith

-- one more digit
keeps_first : (f : Field) (b : ℕ) → IsField f → is_digit b ≡ true → Keeps (front_of f ++ []) b (digits_on f (grown (is_negative f) (most f) None (b - 48)))
keeps_first f b is e =
    let (low, high) = digit_bounds b e in
    let same : 48 + (b - 48) ≡ b = omega arith in
    pick (λ (x : Option ℕ). Keeps (front_of f ++ []) b (digits_on f x)) (is_negative f && (b - 48 == 0)) None (Some (b - 48))
    (λ z. tt)
    (λ z. ((is, (omega (arith, nine-most f), λ t. not_zero (is_negative f) (b - 48) z t)), ap (λ (x : List ℕ). front_of f ++ x) (decimal-first (b - 48) (omega arith) ∙ ap (λ (x : ℕ). x ∷ []) same) ∙ ap (λ (x : List ℕ). x ++ b ∷ []) (sym (append-nil (front_of f)))))

keeps_more : (f : Field) (n b : ℕ) → IsField f → IsNumber f (Some n) → is_digit b ≡ true → Keeps (front_of f ++ decimal n) b (digits_on f (grown (is_negative f) (most f) (Some n) (b - 48)))
keeps_more f n b is num e =
    let (low, high) = digit_bounds b e in
    let same : 48 + (b - 48) ≡ b = omega arith in
    let m : ℕ = n * 10 + (b - 48) in
    pick (λ (x : Option ℕ). Keeps (front_of f ++ decimal n) b (digits_on f x)) (n == 0) None (within (most f) m)
    (λ z. tt)
    (λ z. pick (λ (x : Option ℕ). Keeps (front_of f ++ decimal n) b (digits_on f x)) (nat_le m (most f)) (Some m) None
    (λ l. ((is, (by_le m (most f) l, λ t. omega (arith, above n z))), ap (λ (x : List ℕ). front_of f ++ x) (decimal-more n (b - 48) (above n z) (omega arith) (omega (arith, by_le m (most f) l, most-small f)) ∙ ap (λ (x : ℕ). decimal n ++ x ∷ []) same) ∙ sym (append_assoc (front_of f) (decimal n) (b ∷ []))))
    (λ l. tt))

-- lists with one more
all_more : {A : Type 0} (P : A → Type 0) (xs : List A) (x : A) → Each P xs → P x → Each P (xs ++ x ∷ [])
all_more P [] x all is = (is, tt)
all_more P (y ∷ ys) x all is = (all.0, all_more P ys x all.1 is)

bars_moved : (us : List Value) (v : Value) → flat_map behind_bar (us ++ v ∷ []) ≡ 124 ∷ (flat_map followed us ++ bytes_of_value v)
bars_moved [] v = ap (λ (x : List ℕ). 124 ∷ x) (append-nil (bytes_of_value v))
bars_moved (u ∷ us) v =
    ap (λ (x : List ℕ). 124 ∷ (bytes_of_value u ++ x)) (bars_moved us v)
    ∙ ap (λ (x : List ℕ). 124 ∷ x) (sym (append_assoc (bytes_of_value u) (124 ∷ []) (flat_map followed us ++ bytes_of_value v)) ∙ sym (append_assoc (followed u) (flat_map followed us) (bytes_of_value v)))

-- the last value has no bar behind it
row_bytes : (values : List Value) (v : Value) → bytes_of_row (values ++ v ∷ []) ≡ flat_map followed values ++ bytes_of_value v
row_bytes [] v = append-nil (bytes_of_value v)
row_bytes (u ∷ us) v =
    ap (λ (x : List ℕ). bytes_of_value u ++ x) (bars_moved us v)
    ∙ sym (append_assoc (bytes_of_value u) (124 ∷ []) (flat_map followed us ++ bytes_of_value v))
    ∙ sym (append_assoc (followed u) (flat_map followed us) (bytes_of_value v))

image_is : (values : List Value) (v : Value) → Each IsValue values → IsValue v → IsImage (Some (values ++ v ∷ []))
image_is [] v all is = (is, tt)
image_is (u ∷ us) v all is = (all.0, all_more IsValue us v all.1 is)

-- Rows.
listed_is : (k : Listed) (g : Gxid) (kept : List Kept) → g.0 < 2 ^ 64 → length kept < 2 ^ 64 → Each IsKept kept → IsMid (mid.Done (listed_item k g kept)) × (printed (mid.Done (listed_item k g kept)) ≡ rows_front k g (length kept) kept)
listed_is listed.Prepare g kept a b c = ((a, b, c), refl)
listed_is listed.Commit g kept a b c = ((a, b, c), refl)

abbrev IsRowsFrom : Listed → Gxid → List Kept → ℕ → Mid → Type 0
IsRowsFrom k g kept left m = IsMid m × (printed m ≡ rows_front k g (length kept + left) kept)

rows_from_is : (k : Listed) (g : Gxid) (kept : List Kept) (left : ℕ) → g.0 < 2 ^ 64 → Each IsKept kept → length kept + left < 2 ^ 64 → IsRowsFrom k g kept left (rows_from k g kept left)
rows_from_is k g kept left a c l = pick (λ (m : Mid). IsRowsFrom k g kept left m) (left == 0) _ _
    (λ z. let none : left ≡ 0 = same_number left 0 z in
    let same : length kept ≡ length kept + left = omega (arith, none) in
    let done = listed_is k g kept a (omega arith) c in
    (done.0, done.1 ∙ ap (λ (n : ℕ). rows_front k g n kept) same))
    (λ z. let some = above left z in
    let same : length kept + ((left - 1) + 1) ≡ length kept + left = omega arith in
    ((record { gxid = a; kept = c; count = subst (λ (n : ℕ). n < 2 ^ 64) (sym same) l }, tt), append-nil _ ∙ ap (λ (n : ℕ). rows_front k g n kept) same))

abbrev kept_of : Spot → Option (List Value) → Kept
kept_of spot image = record { rid = spot.rid; table = spot.table; image = image }

line_is : (spot : Spot) (image : Option (List Value)) → IsSpot spot → IsImage image → IsMid (line_ended spot image) × (printed (line_ended spot image) ≡ front_of_spot spot ++ (bytes_of_image image ++ 10 ∷ []))
line_is spot image is im =
    let rows = spot.rows in
    let kept : List Kept = rows.kept ++ kept_of spot image ∷ [] in
    let same : length kept + rows.others ≡ length rows.kept + (rows.others + 1) = omega (arith, length-append rows.kept (kept_of spot image ∷ [])) in
    let one : IsKept (kept_of spot image) = record { gxid = is.gxid; cid = is.cid; ordinal = is.ordinal; table = is.table; image = im } in
    let next = rows_from_is rows.listed rows.gxid kept rows.others is.rows.gxid (all_more IsKept rows.kept (kept_of spot image) is.rows.kept one) (subst (λ (n : ℕ). n < 2 ^ 64) (sym same) is.rows.count) in
    (next.0, next.1 ∙ ap (λ (n : ℕ). rows_front rows.listed rows.gxid n kept) same ∙ simp (flat_map-append, append_assoc, append-nil))

-- The byte behind a value, and behind a number.
keeps_value : (spot : Spot) (values : List Value) (v : Value) (b : ℕ) → IsSpot spot → Each IsValue values → IsValue v → Keeps (front_of_values spot values ++ bytes_of_value v) b (value_ended spot (values ++ v ∷ []) b)
keeps_value spot values v b is all val =
    let front : List ℕ = front_of_values spot values ++ bytes_of_value v in
    let line = line_is spot (Some (values ++ v ∷ [])) is (image_is values v all val) in
    let row : printed (line_ended spot (Some (values ++ v ∷ []))) ≡ front ++ 10 ∷ [] = line.1 ∙ ap (λ (x : List ℕ). front_of_spot spot ++ (x ++ 10 ∷ [])) (row_bytes values v) ∙ regroup (front_of_spot spot) (flat_map followed values) (bytes_of_value v) (10 ∷ []) in
    let more : printed (mid.Value spot (values ++ v ∷ [])) ≡ front ++ 124 ∷ [] = ap (λ (x : List ℕ). front_of_spot spot ++ x) (flat_map-append followed values (v ∷ []) ∙ ap (λ (x : List ℕ). flat_map followed values ++ x) (append-nil (followed v)) ∙ sym (append_assoc (flat_map followed values) (bytes_of_value v) (124 ∷ []))) ∙ regroup (front_of_spot spot) (flat_map followed values) (bytes_of_value v) (124 ∷ []) in
    pick (λ (x : Option Mid). Keeps front b x) (b == 124) _ _
    (λ e. ((is, all_more IsValue values v all val), more ∙ ap (λ (x : ℕ). front ++ x ∷ []) (sym (same_number b 124 e))))
    (λ z. pick (λ (x : Option Mid). Keeps front b x) (b == 10) _ _
    (λ e. (line.0, row ∙ ap (λ (x : ℕ). front ++ x ∷ []) (sym (same_number b 10 e))))
    (λ e. tt))
  where
    regroup : (a b c d : List ℕ) → a ++ ((b ++ c) ++ d) ≡ ((a ++ b) ++ c) ++ d
    regroup a b c d = simp append_assoc

keeps_int : (spot : Spot) (values : List Value) (negative : Bool) (n b : ℕ) → IsSpot spot → Each IsValue values → (negative ≡ true → 0 < n) → Keeps ((front_of_values spot values ++ sign negative) ++ decimal n) b (int_ended spot values (signed negative n) b)
keeps_int spot values false n b is all some = pick (λ (x : Option ℤ). Keeps ((front_of_values spot values ++ []) ++ decimal n) b (int_ended spot values x b)) (nat_lt n (2 ^ 63)) _ _
    (λ l. subst (λ (x : List ℕ). Keeps (x ++ decimal n) b (value_ended spot (values ++ value.Int (pos n) ∷ []) b)) (sym (append-nil (front_of_values spot values))) (keeps_value spot values (value.Int (pos n)) b is all (by_lt n (2 ^ 63) l)))
    (λ l. tt)
keeps_int spot values true zero b is all some = absurd (omega (arith, some refl))
keeps_int spot values true (suc m) b is all some = pick (λ (x : Option ℤ). Keeps ((front_of_values spot values ++ 45 ∷ []) ++ decimal (suc m)) b (int_ended spot values x b)) (nat_lt m (2 ^ 63)) _ _
    (λ l. subst (λ (x : List ℕ). Keeps x b (value_ended spot (values ++ value.Int (negsuc m) ∷ []) b)) (sym (append_assoc (front_of_values spot values) (45 ∷ []) (decimal (suc m)))) (keeps_value spot values (value.Int (negsuc m)) b is all (by_lt m (2 ^ 63) l)))
    (λ l. tt)

keeps_narrow : (front : List ℕ) (stop b n limit : ℕ) (m : Mid) → (n < limit → IsMid m) → printed m ≡ front ++ stop ∷ [] → Keeps front b (if nat_lt n limit then at stop b m else None)
keeps_narrow front stop b n limit m is p = pick (λ (x : Option Mid). Keeps front b x) (nat_lt n limit) _ _ (λ l. keeps_at front stop b m (is (by_lt n limit l)) p) (λ l. tt)

lone_is : (k : Lone) (n : ℕ) → n < 2 ^ 64 → IsMid (mid.Done (lone_item k (record { 0 = n }))) × (printed (mid.Done (lone_item k (record { 0 = n }))) ≡ (front_of (field.Lone k) ++ decimal n) ++ 10 ∷ [])
lone_is lone.Finish n l = (l, refl)
lone_is lone.Decide n l = (l, refl)
lone_is lone.Abort n l = (l, refl)
lone_is lone.Forget n l = (l, refl)

keeps_over : (f : Field) (n b : ℕ) → IsField f → IsNumber f (Some n) → Keeps (front_of f ++ decimal n) b (number_ended f n b)
keeps_over (field.Listed k) n b is num = keeps_at _ 32 b (mid.Digits (field.Count k (record { 0 = n })) None) (omega (arith, num.0), tt) (simp (append_assoc, append-nil))
keeps_over (field.Lone k) n b is num = let (i, p) = lone_is k n (omega (arith, num.0)) in keeps_at _ 10 b (mid.Done (lone_item k (record { 0 = n }))) i p
keeps_over (field.Count k g) n b is num =
    let (i, p) = rows_from_is k g [] n is tt (omega (arith, num.0)) in
    let same : length {A = Kept} [] + n ≡ n = omega arith in
    keeps_at _ 10 b (rows_from k g [] n) i (p ∙ ap (λ (x : ℕ). rows_front k g x []) same ∙ simp append_assoc)
keeps_over (field.RidGxid rows) n b is num = keeps_at _ 46 b (mid.Digits (field.RidCid rows (record { 0 = n })) None) ((is, omega (arith, num.0)), tt) (simp (append_assoc, append-nil))
keeps_over (field.RidCid rows g) n b is num = keeps_narrow _ 46 b n (2 ^ 32) (mid.Digits (field.RidOrdinal rows g (record { 0 = n })) None) (λ l. ((is.0, is.1, l), tt)) (simp (append_assoc, append-nil))
keeps_over (field.RidOrdinal rows g c) n b is num = keeps_narrow _ 32 b n (2 ^ 32) (mid.Digits (field.Table rows (record { gxid = g; cid = c; ordinal = n })) None) (λ l. ((is.0, is.1, is.2, l), tt)) (simp (append_assoc, append-nil))
keeps_over (field.Table rows rid) n b is num = keeps_narrow _ 32 b n (2 ^ 8) (mid.Value (record { rows = rows; rid = rid; table = record { 0 = n } }) []) (λ l. (record { rows = is.0; gxid = is.1; cid = is.2; ordinal = is.3; table = l }, tt)) (simp (append_assoc, append-nil))
keeps_over (field.Int spot values negative) n b is num = keeps_int spot values negative n b is.0 is.1 num.1

keeps_digit : (f : Field) (n : Option ℕ) (b : ℕ) → IsField f → IsNumber f n → Keeps (front_of f ++ digits_of n) b (next_digit f n b)
keeps_digit f None b is num = pick (λ (x : Option Mid). Keeps (front_of f ++ []) b x) (is_digit b) _ _ (keeps_first f b is) (λ e. tt)
keeps_digit f (Some n) b is num = pick (λ (x : Option Mid). Keeps (front_of f ++ decimal n) b x) (is_digit b) _ _ (keeps_more f n b is num) (λ e. keeps_over f n b is num)

-- Letters.
take-next : (xs : List ℕ) (i x : ℕ) → slice_get xs i ≡ Some x → take (suc i) xs ≡ take i xs ++ x ∷ []
take-next [] i x e = absurd (none-some x e)
take-next (y ∷ ys) zero x e = ap (λ (z : ℕ). z ∷ []) (same_Some y x e)
take-next (y ∷ ys) (suc i) x e = ap (λ (z : List ℕ). y ∷ z) (take-next ys i x e)

word_is : (w : Word) → IsWord w → IsMid (word_ended w) × (printed (word_ended w) ≡ front_of_word w ++ letters_of w)
word_is (word.Listed k) is = ((tt, tt), append-nil _)
word_is (word.Lone k) is = ((tt, tt), append-nil _)
word_is (word.Gone spot) is = line_is spot None is tt

one_more : (n : ℕ) → n + 1 ≡ suc n
one_more n = omega arith

not_lt : (a c : ℕ) → nat_lt a c ≡ false → c ≤ a
not_lt a c e = grind arith

keeps_letter : (w : Word) (place b : ℕ) → IsWord w → Keeps (front_of_word w ++ take place (letters_of w)) b (next_letter w place b)
keeps_letter w place b is = by (slice_get (letters_of w) place) refl
  where
    front : List ℕ
    front = front_of_word w ++ take place (letters_of w)

    by : (o : Option ℕ) → slice_get (letters_of w) place ≡ o → Keeps front b (letter_is w place o b)
    by None e = tt
    by (Some c) e = pick (λ (x : Option Mid). Keeps front b x) (c == b) _ _
        (λ t.
        let next : take (place + 1) (letters_of w) ≡ take place (letters_of w) ++ b ∷ [] = ap (λ (n : ℕ). take n (letters_of w)) (one_more place) ∙ take-next (letters_of w) place c e ∙ ap (λ (x : ℕ). take place (letters_of w) ++ x ∷ []) (same_number c b t) in
        let told : front_of_word w ++ take (place + 1) (letters_of w) ≡ front ++ b ∷ [] = ap (λ (x : List ℕ). front_of_word w ++ x) next ∙ sym (append_assoc (front_of_word w) (take place (letters_of w)) (b ∷ [])) in
        pick (λ (m : Mid). IsMid m × (printed m ≡ front ++ b ∷ [])) (nat_lt (place + 1) (length (letters_of w))) _ _
        (λ l. ((is, omega (arith, length-drop (place + 1) (letters_of w), by_lt (place + 1) (length (letters_of w)) l)), told))
        (λ l. let (i, p) = word_is w is in (i, p ∙ ap (λ (x : List ℕ). front_of_word w ++ x) (sym (take_all (place + 1) (letters_of w) (not_lt (place + 1) (length (letters_of w)) l))) ∙ told)))
        (λ t. tt)

keeps_begin : (b : ℕ) → Keeps [] b (begin b)
keeps_begin b =
    pick (λ (x : Option Mid). Keeps [] b x) (b == 112) _ _ (λ e. ((tt, omega arith), ap (λ (x : ℕ). x ∷ []) (sym (same_number b 112 e))))
    (λ e. pick (λ (x : Option Mid). Keeps [] b x) (b == 99) _ _ (λ e. ((tt, omega arith), ap (λ (x : ℕ). x ∷ []) (sym (same_number b 99 e))))
    (λ e. pick (λ (x : Option Mid). Keeps [] b x) (b == 102) _ _ (λ e. (tt, ap (λ (x : ℕ). x ∷ []) (sym (same_number b 102 e))))
    (λ e. pick (λ (x : Option Mid). Keeps [] b x) (b == 97) _ _ (λ e. ((tt, omega arith), ap (λ (x : ℕ). x ∷ []) (sym (same_number b 97 e))))
    (λ e. keeps_at [] 100 b (mid.Word (word.Lone lone.Decide) 1) (tt, omega arith) refl))))

keeps_fork : (b : ℕ) → Keeps (102 ∷ []) b (fork b)
keeps_fork b =
    pick (λ (x : Option Mid). Keeps (102 ∷ []) b x) (b == 105) _ _ (λ e. ((tt, omega arith), ap (λ (x : ℕ). 102 ∷ x ∷ []) (sym (same_number b 105 e))))
    (λ e. keeps_at (102 ∷ []) 111 b (mid.Word (word.Lone lone.Forget) 2) (tt, omega arith) refl)

-- Values.
keeps_begun : (spot : Spot) (values : List Value) (b : ℕ) → IsSpot spot → Each IsValue values → Keeps (front_of_values spot values) b (begin_value spot values b)
keeps_begun spot values b is all =
    let front : List ℕ = front_of_values spot values in
    let told = λ (c : ℕ) (e : (b == c) ≡ true). ap (λ (x : ℕ). front ++ x ∷ []) (sym (same_number b c e)) in
    pick (λ (x : Option Mid). Keeps front b x) (b == 39) _ _ (λ e. ((is, all), told 39 e))
    (λ e. pick (λ (x : Option Mid). Keeps front b x) (b == 45) _ _ (λ e. (((is, all), tt), append-nil _ ∙ told 45 e))
    (λ e. pick (λ (x : Option Mid). Keeps front b x) ((b == 103) && (length values == 0)) _ _
    (λ e. ((is, omega arith), ap (λ (x : List ℕ). x ++ 103 ∷ []) (sym (append-nil (front_of_spot spot)) ∙ ap (λ (x : List Value). front_of_spot spot ++ flat_map followed x) (sym (none values (and_right (b == 103) (length values == 0) e)))) ∙ told 103 (and_left (b == 103) (length values == 0) e)))
    (λ e. subst (λ (x : List ℕ). Keeps x b (next_digit (field.Int spot values false) None b)) (append-nil _ ∙ append-nil front) (keeps_digit (field.Int spot values false) None b (is, all) tt))))
  where
    none : (values : List Value) → (length values == 0) ≡ true → values ≡ []
    none [] e = refl
    none (v ∷ vs) e = absurd (omega (arith, same_number (length (v ∷ vs)) 0 e))

    and_left : (a c : Bool) → (a && c) ≡ true → a ≡ true
    and_left a c e = grind arith

    and_right : (a c : Bool) → (a && c) ≡ true → c ≡ true
    and_right a c e = grind arith

text_more : (front text : List ℕ) (b : ℕ) (bs : List ℕ) → quoted_byte b ≡ bs → front ++ (39 ∷ flat_map quoted_byte (text ++ b ∷ [])) ≡ (front ++ (39 ∷ flat_map quoted_byte text)) ++ bs
text_more front text b bs e =
    ap (λ (x : List ℕ). front ++ (39 ∷ x)) (flat_map-append quoted_byte text (b ∷ []) ∙ ap (λ (x : List ℕ). flat_map quoted_byte text ++ x) (append-nil (quoted_byte b) ∙ e))
    ∙ sym (append_assoc front (39 ∷ flat_map quoted_byte text) bs)

pub keeps : (m : Mid) (b : ℕ) → IsMid m → Keeps (printed m) b (next m b)
keeps mid.Start b is = keeps_begin b
keeps mid.Fork b is = keeps_fork b
keeps (mid.Word w place) b is = keeps_letter w place b is.0
keeps (mid.Digits f n) b is = keeps_digit f n b is.0 is.1
keeps (mid.Value spot values) b is = keeps_begun spot values b is.0 is.1
keeps (mid.Text spot values text) b is =
    let front : List ℕ = front_of_values spot values ++ (39 ∷ flat_map quoted_byte text) in
    pick (λ (x : Option Mid). Keeps front b x) (b == 39) _ _
    (λ e. (is, sym (append_assoc (front_of_values spot values) (39 ∷ flat_map quoted_byte text) (39 ∷ [])) ∙ ap (λ (x : ℕ). front ++ x ∷ []) (sym (same_number b 39 e))))
    (λ e. (is, text_more (front_of_values spot values) text b (b ∷ []) (if_false (b == 39) _ _ e)))
keeps (mid.Quoted spot values text) b is =
    let front : List ℕ = front_of_values spot values ++ (39 ∷ (flat_map quoted_byte text ++ 39 ∷ [])) in
    pick (λ (x : Option Mid). Keeps front b x) (b == 39) _ _
    (λ e. (is, text_more (front_of_values spot values) text 39 (39 ∷ 39 ∷ []) refl ∙ quotes (front_of_values spot values) (flat_map quoted_byte text) ∙ ap (λ (x : ℕ). front ++ x ∷ []) (sym (same_number b 39 e))))
    (λ e. keeps_value spot values (value.Text text) b is.0 is.1 tt)
  where
    quotes : (a t : List ℕ) → (a ++ (39 ∷ t)) ++ 39 ∷ 39 ∷ [] ≡ (a ++ (39 ∷ (t ++ 39 ∷ []))) ++ 39 ∷ []
    quotes a t = simp append_assoc
keeps (mid.Done i) b is = tt
