-- Texts that have no line feed, put together as they are printed.
use Rattle.std.proofs.Common.{◌≡◌, ◌≢◌, ℕ, zero, suc, ◌+◌, ◌%◌, ◌^◌, ◌<◌, ◌==◌, Bool, true, false, if◌then◌else◌, ℤ, pos, negsuc}
use Rattle.std.proofs.Common.{List, [], ◌∷◌, ◌++◌, map, codes, Some, refl, sym, ◌∙◌, subst, arith}
use Rattle.std.specs.Prelude.{All, slice_get, unwrap_or}
use Rattle.std.specs.List.{flat_map}
use Rattle.std.specs.Fmt.{decimal, signed_decimal}
use Rattle.std.proofs.lemmas.Fmt.{decimal_by_steps_wide}
use Rattle.std.proofs.lemmas.List.Elements.{All-append, All-cons, All-head, All-nil, All-tail}
use Rattle.std.proofs.lemmas.Option.{none-some, same_Some}
use Rattle.gx_lex.specs.Lexing.{every}
use Rattle.gx_report.specs.Words.{name_of_schema}
use Rattle.gx_store.specs.Language.{IsName, table_name}
use Rattle.gx_store.specs.Limits.{is_name_byte, is_small_letter}
use Rattle.gx_text.specs.Quoted.{quoted_byte}
use Rattle.gx_tree.specs.declared.schema.Schema.{Schema}
use Rattle.gx_trace.specs.Lawful.{IsLine, IsNamed, IsSigned, names_of}

clash : false ≡ true → ⊥
clash e = cc

abbrev pub NoFeed : ℕ → Type 0
NoFeed b = b ≢ 10

abbrev pub unfed : List ℕ → Bool
unfed [] = true
unfed (b ∷ bs) = if b == 10 then false else unfed bs

pub differs : (b : ℕ) → (b == 10) ≡ false → b ≢ 10
differs b e = λ same. clash (sym e ∙ e_at same)
  where
    e_at : b ≡ 10 → (b == 10) ≡ true
    e_at same = grind (arith, same)

pub from-test : (bs : List ℕ) → unfed bs ≡ true → IsLine bs
from-test [] e = All-nil NoFeed
from-test (b ∷ bs) e = by (b == 10) refl e (from-test bs)
  where
    by : (c : Bool) → (b == 10) ≡ c → (if c then false else unfed bs) ≡ true → (unfed bs ≡ true → IsLine bs) → IsLine (b ∷ bs)
    by true is q rest = absurd (clash q)
    by false is q rest = All-cons NoFeed b bs (differs b is) (rest q)

digit : (d : ℕ) → d < 10 → (48 + d) ≢ 10
digit d small = λ e. omega (arith, e)

digits : (n : ℕ) → n < 10 ^ 64 → IsLine (decimal n)
digits =
    decimal_by_steps_wide (λ n ds. IsLine ds) (λ n l. All-cons NoFeed (48 + n) [] (digit n l) (All-nil NoFeed))
    (λ n ds l all. All-append NoFeed ds ((48 + n % 10) ∷ []) all (All-cons NoFeed (48 + n % 10) [] (digit (n % 10) (omega arith)) (All-nil NoFeed)))

-- a text that has none
abbrev pub Plain : Type 0
Plain = (text : List ℕ) × IsLine text

abbrev pub lit : (bs : List ℕ) → unfed bs ≡ true → Plain
lit bs e = (bs, from-test bs e)

abbrev pub nil : Plain
nil = ([], All-nil NoFeed)

abbrev pub cat : Plain → Plain → Plain
cat a b = (a.0 ++ b.0, All-append NoFeed a.0 b.0 a.1 b.1)

pub is-number : (n : ℕ) → n < 2 ^ 64 → IsLine (decimal n)
is-number n small = digits n (omega (arith, small))

abbrev pub num : (n : ℕ) → n < 2 ^ 64 → Plain
num n small = (decimal n, is-number n small)

abbrev pub number : (n : ℕ) → n < 2 ^ 64 → Plain
number n small = cat (lit (codes " ") refl) (num n small)

pub of-32 : (n : ℕ) → n < 2 ^ 32 → n < 2 ^ 64
of-32 n small = omega (arith, small)

pub of-8 : (n : ℕ) → n < 2 ^ 8 → n < 2 ^ 64
of-8 n small = omega (arith, small)

pub each-in : {A : Type 0} (P : A → Type 0) (f : A → List ℕ) → ((a : A) → P a → IsLine (f a)) → (xs : List A) → All P xs → IsLine (flat_map f xs)
each-in P f each [] all = All-nil NoFeed
each-in P f each (x ∷ xs) all = All-append NoFeed (f x) (flat_map f xs) (each x (All-head P x xs all)) (each-in P f each xs (All-tail P x xs all))

pub mapped : {A B : Type 0} (P : A → Type 0) (Q : B → Type 0) (f : A → B) → ((a : A) → P a → Q (f a)) → (xs : List A) → All P xs → All Q (map f xs)
mapped P Q f each [] all = All-nil Q
mapped P Q f each (x ∷ xs) all = All-cons Q (f x) (map f xs) (each x (All-head P x xs all)) (mapped P Q f each xs (All-tail P x xs all))

-- NAMES
name-byte : (b : ℕ) → is_name_byte b ≡ true → b ≢ 10
name-byte b e = λ same. clash (subst (λ x. is_name_byte x ≡ true) same e)

letters : (name : List ℕ) → every is_name_byte name → IsLine name
letters [] all = All-nil NoFeed
letters (b ∷ bs) all = All-cons NoFeed b bs (name-byte b all.0) (letters bs all.1)

small-letter : (b : ℕ) → is_small_letter b ≡ true → b ≢ 10
small-letter b e = λ same. clash (subst (λ x. is_small_letter x ≡ true) same e)

-- names of the language
pub name-plain : (name : List ℕ) → IsName name → IsLine name
name-plain [] is = absurd is.1.0
name-plain (b ∷ bs) is = All-cons NoFeed b bs (small-letter b is.1.0.0) (letters bs is.1.0.1)

pub names-plain : (names : List (List ℕ)) → All IsName names → All IsLine names
names-plain [] all = All-nil IsLine
names-plain (n ∷ ns) all = All-cons IsLine n ns (name-plain n (All-head IsName n ns all)) (names-plain ns (All-tail IsName n ns all))

pub named : (names : List (List ℕ)) (place : ℕ) → IsNamed names place → IsLine (unwrap_or (slice_get names place) [])
named names place is = subst (λ o. IsLine (unwrap_or o [])) (sym is.here) (letters is.name is.letters)

pub named-table : (ss : List Schema) (place : ℕ) → IsNamed (names_of ss) place → IsLine (name_of_schema (slice_get ss place))
named-table ss place is = subst IsLine (sym (same ss place is.name is.here)) (letters is.name is.letters)
  where
    same : (ss : List Schema) (place : ℕ) (name : List ℕ) → slice_get (names_of ss) place ≡ Some name → name_of_schema (slice_get ss place) ≡ name
    same [] place name e = absurd (none-some name e)
    same (s ∷ ss) zero name e = same_Some (table_name s) name e
    same (s ∷ ss) (suc k) name e = same ss k name e

-- a name of no place is empty
pub among : (names : List (List ℕ)) (place : ℕ) → All IsLine names → IsLine (unwrap_or (slice_get names place) [])
among [] place all = All-nil NoFeed
among (n ∷ ns) zero all = All-head IsLine n ns all
among (n ∷ ns) (suc k) all = among ns k (All-tail IsLine n ns all)

-- VALUES
pub signed : (z : ℤ) → IsSigned 127 z → IsLine (signed_decimal z)
signed (pos n) small = digits n (omega (arith, small))
signed (negsuc n) small = All-cons NoFeed 45 (decimal (suc n)) (λ e. omega (arith, e)) (digits (suc n) (omega (arith, small)))

pub wider : (z : ℤ) → IsSigned 63 z → IsSigned 127 z
wider (pos n) small = omega (arith, small)
wider (negsuc n) small = omega (arith, small)

pub quoted-byte : (b : ℕ) → b ≢ 10 → IsLine (quoted_byte b)
quoted-byte b ne = by (b == 39)
  where
    by : (c : Bool) → IsLine (if c then codes "''" else b ∷ [])
    by true = from-test (codes "''") refl
    by false = All-cons NoFeed b [] ne (All-nil NoFeed)

abbrev pub quote : Plain
quote = lit (codes "'") refl

abbrev pub text : (t : List ℕ) → IsLine t → Plain
text t line = cat (cat quote (flat_map quoted_byte t, each-in NoFeed quoted_byte quoted-byte t line)) quote
