-- The rows of each segment: none at first, and one more for each row that is dealt.
use Rattle.std.proofs.Common.{ℕ, zero, suc, ◌≡◌, ◌≢◌, ◌∙◌, ◌+◌, ◌-◌, ◌<◌, ◌≤◌, ◌==◌, sym, ap, refl, arith, List, [], ◌∷◌, ◌++◌, length, get_or, set, cond, append_assoc, append-nil, Bool, true, false, Ok}
use Rattle.std.specs.Prelude.{replicate, filter, map}
use Rattle.std.specs.List.{flat_map}
use Rattle.std.proofs.lemmas.Bool.Decides.{nat_tests}
use Rattle.gx_ids.specs.declared.ids.Node.{Node}
use Rattle.gx_ids.specs.declared.ids.Table.{Table}
use Rattle.gx_tree.specs.declared.expr.Expr.{Expr}
use Rattle.gx_tree.specs.declared.row.KeyedRow.{KeyedRow}
use Rattle.gx_tree.specs.declared.slice.Slice.TheVariants as slice
use Rattle.gx_tree.specs.declared.schema.Dist.{Dist}
use Rattle.gx_tree.specs.declared.schema.Dist.TheVariants.{By, Randomly}
use Rattle.gx_tree.specs.declared.value.Value.{Value}
use Rattle.gx_meaning.specs.Place.{row_place, IsWithin}
use Rattle.gx_meaning.specs.Constants.{HasKey, constant, values_of}
use Rattle.gx_meaning.specs.Plan.{nodes_from, rows_at, dealt, put_at, row_pieces, bucket_pieces, piece, insert_pieces}
use Rattle.gx_meaning.specs.declared.piece.Piece.{Piece}
use Rattle.gx_plan.proofs.Each.{length-each_from}

pub replicate-more : {A : Type 0} (n : ℕ) (x : A) → replicate (n + 1) x ≡ replicate n x ++ x ∷ []
replicate-more zero x = refl
replicate-more (suc n) x =
    let one : suc n + 1 ≡ suc (n + 1) = omega arith in
    ap (λ k. replicate k x) one ∙ ap (λ l. x ∷ l) (replicate-more n x)

pub within : (dist : Dist) (tuple : List Expr) (row : List Value) → HasKey dist tuple → values_of tuple ≡ Ok row → IsWithin dist row
within (By column) tuple row h is = let same : length row ≡ length tuple = length-each_from constant 0 tuple row is in omega (arith, h, same)
within Randomly tuple row h is = tt

abbrev dealt_from : ℕ → Dist → List KeyedRow → ℕ → ℕ → List (List KeyedRow)
dealt_from n dist rows k count = map (λ node. rows_at n dist rows node.0) (nodes_from k count)

none_from : (n : ℕ) (dist : Dist) (k count : ℕ) → replicate count [] ≡ dealt_from n dist [] k count
none_from n dist k zero = refl
none_from n dist k (suc count) = ap (λ l. [] ∷ l) (none_from n dist (k + 1) count)

pub dealt-none : (n : ℕ) (dist : Dist) → replicate n [] ≡ dealt n dist []
dealt-none n dist = none_from n dist 1 n

filter-yes : {A : Type 0} (p : A → Bool) (xs : List A) (x : A) → p x ≡ true → filter p (xs ++ x ∷ []) ≡ filter p xs ++ x ∷ []
filter-yes p [] x h = ap (λ b. cond b (x ∷ []) []) h
filter-yes p (y ∷ xs) x h = by_test (p y) (filter-yes p xs x h) where
  by_test : (b : Bool) → filter p (xs ++ x ∷ []) ≡ filter p xs ++ x ∷ [] → cond b (y ∷ filter p (xs ++ x ∷ [])) (filter p (xs ++ x ∷ [])) ≡ cond b (y ∷ filter p xs) (filter p xs) ++ x ∷ []
  by_test true e = ap (λ l. y ∷ l) e
  by_test false e = e

filter-no : {A : Type 0} (p : A → Bool) (xs : List A) (x : A) → p x ≡ false → filter p (xs ++ x ∷ []) ≡ filter p xs
filter-no p [] x h = ap (λ b. cond b (x ∷ []) []) h
filter-no p (y ∷ xs) x h = ap (λ l. cond (p y) (y ∷ l) l) (filter-no p xs x h)

abbrev place_of : ℕ → Dist → KeyedRow → ℕ
place_of n dist row = row_place n dist row.row row.rid

others : (n : ℕ) (dist : Dist) (rows : List KeyedRow) (row : KeyedRow) (k count : ℕ) → place_of n dist row < k → dealt_from n dist rows k count ≡ dealt_from n dist (rows ++ row ∷ []) k count
others n dist rows row k zero below = refl
others n dist rows row k (suc count) below =
    let apart : (place_of n dist row == k) ≡ false = grind (arith, nat_tests) in
    let here : rows_at n dist (rows ++ row ∷ []) k ≡ rows_at n dist rows k = filter-no (λ r. row_place n dist r.row r.rid == k) rows row apart in
    let rest : dealt_from n dist rows (k + 1) count ≡ dealt_from n dist (rows ++ row ∷ []) (k + 1) count = others n dist rows row (k + 1) count (omega (arith, below)) in
    ap (λ l. l ∷ dealt_from n dist rows (k + 1) count) (sym here) ∙ ap (λ l. rows_at n dist (rows ++ row ∷ []) k ∷ l) rest

put_from : (n : ℕ) (dist : Dist) (rows : List KeyedRow) (row : KeyedRow) (k count i : ℕ) → place_of n dist row ≡ k + i → i < count → set (dealt_from n dist rows k count) i (get_or (dealt_from n dist rows k count) i [] ++ row ∷ []) ≡ dealt_from n dist (rows ++ row ∷ []) k count
put_from n dist rows row k zero i at lt = absurd (omega (arith, lt))
put_from n dist rows row k (suc count) zero at lt =
    let same : (place_of n dist row == k) ≡ true = grind (arith, nat_tests) in
    let here : rows_at n dist (rows ++ row ∷ []) k ≡ rows_at n dist rows k ++ row ∷ [] = filter-yes (λ r. row_place n dist r.row r.rid == k) rows row same in
    ap (λ l. l ∷ dealt_from n dist rows (k + 1) count) (sym here) ∙ ap (λ l. rows_at n dist (rows ++ row ∷ []) k ∷ l) (others n dist rows row (k + 1) count (omega (arith, at)))
put_from n dist rows row k (suc count) (suc i) at lt =
    let apart : (place_of n dist row == k) ≡ false = grind (arith, nat_tests) in
    let here : rows_at n dist (rows ++ row ∷ []) k ≡ rows_at n dist rows k = filter-no (λ r. row_place n dist r.row r.rid == k) rows row apart in
    let rest = put_from n dist rows row (k + 1) count i (omega (arith, at)) (omega (arith, lt)) in
    ap (λ l. rows_at n dist rows k ∷ l) rest ∙ ap (λ l. l ∷ dealt_from n dist (rows ++ row ∷ []) (k + 1) count) (sym here)

-- a row put at its place is dealt
pub put_at-dealt : (n : ℕ) (dist : Dist) (rows : List KeyedRow) (row : KeyedRow) → 1 ≤ row_place n dist row.row row.rid → row_place n dist row.row row.rid ≤ n → put_at (dealt n dist rows) (row_place n dist row.row row.rid) row ≡ dealt n dist (rows ++ row ∷ [])
put_at-dealt n dist rows row low high = put_from n dist rows row 1 n (place_of n dist row - 1) (omega (arith, low)) (omega (arith, low, high))

pieces_from : (n : ℕ) (dist : Dist) (table : Table) (rows : List KeyedRow) (k count : ℕ) → bucket_pieces table k (dealt_from n dist rows k count) ≡ flat_map (λ node. row_pieces table node (rows_at n dist rows node.0)) (nodes_from k count)
pieces_from n dist table rows k zero = refl
pieces_from n dist table rows k (suc count) = ap (λ l. row_pieces table (record { 0 = k }) (rows_at n dist rows k) ++ l) (pieces_from n dist table rows (k + 1) count)

pub bucket_pieces-dealt : (n : ℕ) (dist : Dist) (table : Table) (rows : List KeyedRow) → bucket_pieces table 1 (dealt n dist rows) ≡ insert_pieces n dist table rows
bucket_pieces-dealt n dist table rows = pieces_from n dist table rows 1 n

bucket_pieces-more : (table : Table) (k : ℕ) (xs : List (List KeyedRow)) (x : List KeyedRow) → bucket_pieces table k (xs ++ x ∷ []) ≡ bucket_pieces table k xs ++ row_pieces table (record { 0 = k + length xs }) x
bucket_pieces-more table k [] x = let same : k ≡ k + 0 = omega arith in append-nil (row_pieces table (record { 0 = k }) x) ∙ ap (λ j. row_pieces table (record { 0 = j }) x) same
bucket_pieces-more table k (y ∷ xs) x =
    let same : (k + 1) + length xs ≡ k + suc (length xs) = omega arith in
    ap (λ l. row_pieces table (record { 0 = k }) y ++ l) (bucket_pieces-more table (k + 1) xs x ∙ ap (λ j. bucket_pieces table (k + 1) xs ++ row_pieces table (record { 0 = j }) x) same)
    ∙ sym (append_assoc (row_pieces table (record { 0 = k }) y) (bucket_pieces table (k + 1) xs) (row_pieces table (record { 0 = k + suc (length xs) }) x))

row_pieces-some : (table : Table) (node : Node) (rows : List KeyedRow) → rows ≢ [] → row_pieces table node rows ≡ piece (slice.Insert table rows) node ∷ []
row_pieces-some table node [] h = absurd (h refl)
row_pieces-some table node (r ∷ rows) h = refl

-- a loop's step over the rows of the next segment: a piece where there are any
pub bucket_pieces-some : (table : Table) (number : ℕ) (xs : List (List KeyedRow)) (x : List KeyedRow) (old new : List Piece) → old ≡ bucket_pieces table 1 xs → number ≡ length xs → x ≢ [] → new ≡ old ++ piece (slice.Insert table x) (record { 0 = number + 1 }) ∷ [] → new ≡ bucket_pieces table 1 (xs ++ x ∷ [])
bucket_pieces-some table number xs x old new is at some added =
    let same : number + 1 ≡ 1 + length xs = omega (arith, at) in
    added ∙ ap (λ l. l ++ piece (slice.Insert table x) (record { 0 = number + 1 }) ∷ []) is
    ∙ ap (λ l. bucket_pieces table 1 xs ++ l) (sym (row_pieces-some table (record { 0 = number + 1 }) x some) ∙ ap (λ j. row_pieces table (record { 0 = j }) x) same)
    ∙ sym (bucket_pieces-more table 1 xs x)

-- and none where there are none
pub bucket_pieces-none : (table : Table) (xs : List (List KeyedRow)) (x : List KeyedRow) (old : List Piece) → old ≡ bucket_pieces table 1 xs → x ≡ [] → old ≡ bucket_pieces table 1 (xs ++ x ∷ [])
bucket_pieces-none table xs x old is none =
    is ∙ sym (append-nil (bucket_pieces table 1 xs)) ∙ ap (λ l. bucket_pieces table 1 xs ++ row_pieces table (record { 0 = 1 + length xs }) l) (sym none) ∙ sym (bucket_pieces-more table 1 xs x)

pub length-dealt : (n : ℕ) (dist : Dist) (rows : List KeyedRow) → length (dealt n dist rows) ≡ n
length-dealt n dist rows = from 1 n where
  from : (k count : ℕ) → length (dealt_from n dist rows k count) ≡ count
  from k zero = refl
  from k (suc count) = ap suc (from (k + 1) count)
