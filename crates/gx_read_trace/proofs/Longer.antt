-- Lists that have one more at their end, and lines that are read whole.
use Rattle.std.proofs.Common.{◌≡◌, ℕ, ◌+◌, ◌^◌, ◌<◌, List, [], ◌∷◌, ◌++◌, length, map, Option, Some, None, refl, sym, ◌∙◌, ap, subst, arith, append_assoc, append-nil}
use Rattle.std.specs.Prelude.{All, option_and_then}
use Rattle.std.specs.List.{flat_map}
use Rattle.std.proofs.lemmas.List.Elements.{All-append, All-cons, All-nil, All-tail}
use Rattle.std.proofs.lemmas.Option.{none-some, same_Some}
use Rattle.gx_tree.specs.declared.schema.Schema.{Schema}
use Rattle.gx_tree.specs.declared.value.Value.{Value}
use Rattle.gx_trace.specs.Readers.{Front, IsReaderOf}
use Rattle.gx_trace.specs.Shown.{AreTables, IsRowOf}
use Rattle.gx_read_trace.specs.Lines.{lines_of_table, lines_of_tables}
use Rattle.gx_read_trace.specs.Machine.{all_of}

pub all-behind : {X : Type 0} (P : X → Type 0) (xs ys : List X) → All P (xs ++ ys) → All P ys
all-behind P [] ys all = all
all-behind P (x ∷ xs) ys all = all-behind P xs ys (All-tail P x (xs ++ ys) all)

pub all-more : {X : Type 0} (P : X → Type 0) (xs : List X) (x : X) → All P xs → P x → All P (xs ++ x ∷ [])
all-more P xs x all is = All-append P xs (x ∷ []) all (All-cons P x [] is (All-nil P))

pub map-more : {X Y : Type 0} (f : X → Y) (xs : List X) (x : X) → map f (xs ++ x ∷ []) ≡ map f xs ++ f x ∷ []
map-more f [] x = refl
map-more f (y ∷ ys) x = ap (λ z. f y ∷ z) (map-more f ys x)

pub flat-more : {X Y : Type 0} (f : X → List Y) (xs : List X) (x : X) → flat_map f (xs ++ x ∷ []) ≡ flat_map f xs ++ f x
flat-more f [] x = append-nil (f x)
flat-more f (y ∷ ys) x = ap (λ z. f y ++ z) (flat-more f ys x) ∙ sym (append_assoc (f y) (flat_map f ys) (f x))

pub length-more : {X : Type 0} (xs : List X) (x : X) → length (xs ++ x ∷ []) ≡ length xs + 1
length-more [] x = omega arith
length-more (y ∷ ys) x = omega (arith, length-more ys x)

-- a row more below the line that counts them
pub rows-more : {X : Type 0} (text : X → List ℕ) (before : List (List ℕ)) (head : ℕ → List ℕ) (xs : List X) (x : X) (k m : ℕ) → k ≡ m
    → before ++ (head k ∷ map text (xs ++ x ∷ [])) ≡ (before ++ (head m ∷ map text xs)) ++ text x ∷ []
rows-more text before head xs x k m e = (λ i. before ++ (head (e i) ∷ map-more text xs x i)) ∙ sym (append_assoc before (head m ∷ map text xs) (text x ∷ []))

pub no-tables : (ss : List Schema) → lines_of_tables ss [] ≡ []
no-tables [] = refl
no-tables (s ∷ ss) = refl

pub tables-more : (done ss : List Schema) (t : Schema) (tables : List (List (List Value))) (rows : List (List Value)) → AreTables done tables
    → lines_of_tables (done ++ t ∷ ss) (tables ++ rows ∷ []) ≡ lines_of_tables (done ++ t ∷ ss) tables ++ lines_of_table t.name rows
tables-more [] ss t [] rows are = ap (λ z. lines_of_table t.name rows ++ z) (no-tables ss) ∙ append-nil (lines_of_table t.name rows)
tables-more [] ss t (r ∷ rs) rows are = absurd are
tables-more (d ∷ ds) ss t [] rows are = absurd are
tables-more (d ∷ ds) ss t (r ∷ rs) rows are =
    ap (λ z. lines_of_table d.name r ++ z) (tables-more ds ss t rs rows are.2) ∙ sym (append_assoc (lines_of_table d.name r) (lines_of_tables (ds ++ t ∷ ss) rs) (lines_of_table t.name rows))

pub are-more : (done : List Schema) (t : Schema) (tables : List (List (List Value))) (rows : List (List Value)) → AreTables done tables → length rows < 2 ^ 64 → All (IsRowOf t) rows
    → AreTables (done ++ t ∷ []) (tables ++ rows ∷ [])
are-more [] t [] rows are small all = (small, all, tt)
are-more [] t (r ∷ rs) rows are small all = absurd are
are-more (d ∷ ds) t [] rows are small all = absurd are
are-more (d ∷ ds) t (r ∷ rs) rows are small all = (are.0, are.1, are-more ds t rs rows are.2 small all)

-- what is read of a whole line is lawful, and the line is its text
whole-sound : {A : Type 0} {text : A → List ℕ} {Is : A → Type 0} {Ends : List ℕ → Type 0} {read : List ℕ → Front A} → IsReaderOf text Is Ends read
    → (line : List ℕ) (a : A) → all_of (read line) ≡ Some a → Is a × (line ≡ text a)
whole-sound {A = A} {text = text} {Is = Is} {read = read} r line a e = by (read line) refl e
  where
    by : (o : Front A) → read line ≡ o → all_of o ≡ Some a → Is a × (line ≡ text a)
    by None is q = absurd (none-some a q)
    by (Some (b, [])) is q =
        let (lawful, stands) = r.sound line [] b is in
        subst (λ x. Is x × (line ≡ text x)) (same_Some b a q) (lawful, stands ∙ append-nil (text b))
    by (Some (b, c ∷ cs)) is q = absurd (none-some a q)

-- so what holds of nothing, and of each text with what is made of it, holds of a line and what is read of it
pub of-line : {A B : Type 0} {text : A → List ℕ} {Is : A → Type 0} {Ends : List ℕ → Type 0} {read : List ℕ → Front A} (K : List ℕ → Option B → Type 0) → IsReaderOf text Is Ends read
    → (f : A → Option B) (line : List ℕ) → K line None → ((a : A) → Is a → K (text a) (f a)) → K line (option_and_then f (all_of (read line)))
of-line {A = A} {read = read} K r f line none each = by (all_of (read line)) refl
  where
    by : (o : Option A) → all_of (read line) ≡ o → K line (option_and_then f o)
    by None is = none
    by (Some a) is = let (lawful, same) = whole-sound r line a is in subst (λ l. K l (f a)) (sym same) (each a lawful)
