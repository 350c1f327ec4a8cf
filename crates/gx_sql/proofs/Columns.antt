-- The columns of a table's line, three tokens each but for the last.
use Rattle.std.proofs.Common.{◌≡◌, ◌↔◌, IsTrue, IfOk, nat_eq, ℕ, ◌+◌, ◌*◌, ◌≤◌, ◌<◌, Bool, true, false, List, [], ◌∷◌, ◌++◌, length, take, drop, refl, sym, ◌∙◌, ap, subst, arith, Result, Ok, Err}
use Rattle.std.proofs.lemmas.List.{take-append-drop}
use Rattle.gx_lex.specs.declared.token.Token.{Token}
use Rattle.gx_lex.specs.declared.token.Token.TheVariants as token
use Rattle.gx_lex.specs.declared.word.Word.TheVariants as word
use Rattle.gx_lex.specs.declared.symbol.Symbol.TheVariants as symbol
use Rattle.gx_grammar.specs.declared.fault.Limits.{Limits}
use Rattle.gx_grammar.specs.declared.fault.Fault.{Fault}
use Rattle.gx_grammar.specs.declared.fault.ReadError.{ReadError}
use Rattle.gx_grammar.specs.declared.fault.ReadError.TheVariants as errors
use Rattle.gx_grammar.specs.Code.{Says}
use Rattle.gx_grammar.proofs.Lines.{verdict, whole_complete}
use Rattle.gx_grammar.specs.Rules.{Verdict, one, both, many, behind, one_at, both_at, behind_at, whole_at}
use Rattle.gx_grammar.specs.Tokens.{is_word, is_sign, is_comma, listed, listed_at}
use Rattle.gx_grammar.proofs.Good.{Good, Always}
use Rattle.gx_grammar.proofs.Parts.{one_good, both_good, made_good, behind_good}
use Rattle.gx_lines.specs.declared.syn.ColumnSyn.{ColumnSyn}
use Rattle.gx_lines.specs.Classes.{kind_of}
use Rattle.gx_lines.specs.Queries.{name, name_at}
use Rattle.gx_lines.specs.Heads.{to_column, column, column_at}
use Rattle.gx_lines.proofs.Told.{sign_is}
use Rattle.gx_lines.proofs.Classing.{kind_class}
use Rattle.gx_lines.proofs.Follow.{Next, anywhere, listed_good}
use Rattle.gx_lines.proofs.QueryGood.{name_good}
use Rattle.gx_sql.specs.Counts.{begun_table, PassesColumns}
use Rattle.gx_sql.specs.Begun.{begun_table_at, IsFull, goes_on}

column_good : Good column Always column_at
column_good = made_good to_column (λ d. both (name d) (one kind_of)) Always (λ d. both_at (name_at d) (one_at kind_of)) (both_good name (λ d. one kind_of) Always Always name_at (λ d. one_at kind_of) name_good (one_good (λ d. kind_of) kind_class) (λ d b us rest q n. tt))

pub begun_good : Good begun_table (Next []) begun_table_at
begun_good = both_good (λ d. behind (is_word word.Table) (name d)) (λ d. behind (is_sign symbol.Open) (listed (column d))) Always (Next []) (λ d. behind_at (is_word word.Table) (name_at d)) (λ d. behind_at (is_sign symbol.Open) (listed_at (column_at d)))
    (behind_good (is_word word.Table) (token.Word word.Table) refl name Always name_at name_good)
    (behind_good (is_sign symbol.Open) (token.Symbol symbol.Open) refl (λ d. listed (column d)) (Next []) (λ d. listed_at (column_at d)) (listed_good column column_at [] (anywhere column column_at (Next (token.Symbol symbol.Comma ∷ [])) column_good) tt))
    (λ d b us rest q n. tt)

-- LENGTHS
length-append : (us vs : List Token) → length (us ++ vs) ≡ length us + length vs
length-append [] vs = omega arith
length-append (u ∷ us) vs = let e = length-append us vs in omega arith

column_len : (d : Limits) (c : ColumnSyn) (us : List Token) → column d c us → length us ≡ 2
column_len d c us (a, e, (vs, ws, (y, k, p), (z, m, q), r)) = ap length (r ∙ ap (λ (t : List Token). t ++ ws) p ∙ ap (λ (t : List Token). y ∷ t) q)

behind_len : (n : ℕ) {A : Type 0} (is : Token → Bool) (g : A → List Token → Type 0) → ((a : A) (us : List Token) → g a us → length us ≡ n) → (a : A) (us : List Token) → behind is g a us → length us ≡ n + 1
behind_len n is g f a us (p, e, (vs, ws, (y, k, o), q, r)) =
    let l = f p.1 ws q in
    let whole : us ≡ y ∷ ws = r ∙ ap (λ (t : List Token). t ++ ws) o in
    let len = ap length whole in
    omega arith

many_len : (d : Limits) (cs : List ColumnSyn) (us : List Token) → many (behind is_comma (column d)) cs us → length us ≡ 3 * length cs
many_len d [] us q = ap length q
many_len d (c ∷ cs) us (vs, ws, p, q, r) =
    let one = behind_len 2 is_comma (column d) (column_len d) c vs p in
    let more = many_len d cs ws q in
    let len = ap length r in
    let sum = length-append vs ws in
    omega arith

listed_len : (d : Limits) (cs : List ColumnSyn) (us : List Token) → listed (column d) cs us → length us + 1 ≡ 3 * length cs
listed_len d cs us (p, e, (vs, ws, q, m, r)) =
    let one = column_len d p.0 vs q in
    let more = many_len d p.1 ws m in
    let len = ap length r in
    let sum = length-append vs ws in
    let all = ap length e in
    omega arith

pub begun_len : (d : Limits) (t : List ℕ × List ColumnSyn) (us : List Token) → begun_table d t us → length us ≡ 3 * length t.1 + 2
begun_len d t us (vs, ws, (p, e, (zs, bs, (y, k, o), (z, l, n), r)), (h, f, (cs, ds, (w, m, i), q, j)), s) =
    let list = listed_len d h.1 ds q in
    let all = ap length f in
    let a = ap length (r ∙ ap (λ (t : List Token). t ++ bs) o ∙ ap (λ (t : List Token). y ∷ t) n) in
    let b = ap length (j ∙ ap (λ (t : List Token). t ++ ds) i) in
    let len = ap length s in
    let sum = length-append vs ws in
    omega arith

-- THE LIMIT
one_ok : {X Y : Type 0} (a : Result X Y) (x y : X) → a ≡ Ok x → a ≡ Ok y → x ≡ y
one_ok a x y p q = cc

no_both : {X Y : Type 0} (a : Result X Y) (x : X) (y : Y) → a ≡ Ok x → a ≡ Err y → ⊥
no_both a x y p q = cc

is-nat_eq : (n m : ℕ) → IsTrue (nat_eq n m) → n ≡ m
is-nat_eq n m e = grind arith

nat_eq-is : (n m : ℕ) → n ≡ m → IsTrue (nat_eq n m)
nat_eq-is n m e = grind arith

pub full_read : (d : Limits) (ts : List Token) (t : List ℕ × List ColumnSyn) (n : ℕ) → whole_at (begun_table_at d) ts ≡ Ok t → n ≡ length t.1 → IsTrue (nat_eq n 32) ↔ IsFull d ts
full_read d ts t n e l = (there, back)
  where
    same : (s : List ℕ × List ColumnSyn) → begun_table d s ts → t ≡ s
    same s q = one_ok (whole_at (begun_table_at d) ts) t s e (whole_complete begun_table (Next []) begun_table_at begun_good tt d s ts q)

    there : IsTrue (nat_eq n 32) → IsFull d ts
    there h = (t, subst (λ (a : Result (List ℕ × List ColumnSyn) Fault). Verdict begun_table d ts a) e (verdict begun_table (Next []) begun_table_at begun_good tt d ts), sym l ∙ is-nat_eq n 32 h)

    back : IsFull d ts → IsTrue (nat_eq n 32)
    back (s, q, k) = nat_eq-is n 32 (l ∙ ap (λ (t : List ℕ × List ColumnSyn). length t.1) (same s q) ∙ k)

pub full_fault : (d : Limits) (ts : List Token) (f : Fault) → whole_at (begun_table_at d) ts ≡ Err f → IsFull d ts → ⊥
full_fault d ts f e (s, q, k) = no_both (whole_at (begun_table_at d) ts) s f (whole_complete begun_table (Next []) begun_table_at begun_good tt d s ts q) e

passes_len : (d : Limits) (ts : List Token) → PassesColumns d ts → 100 ≤ length ts
passes_len d ts p =
    let begun = begun_len d p.table p.begun p.written in
    let full = p.full in
    let len = ap length p.tokens in
    let sum = length-append p.begun (token.Symbol symbol.Comma ∷ token.Name p.further ∷ p.rest) in
    omega arith

pub passes_short : (d : Limits) (ts : List Token) → length ts < 100 → PassesColumns d ts → ⊥
passes_short d ts l p = let long = passes_len d ts p in omega arith

-- two fronts of one length are one
fronts : (us vs rest more : List Token) → length us ≡ length vs → us ++ rest ≡ vs ++ more → (us ≡ vs) × (rest ≡ more)
fronts [] [] rest more l e = (refl, e)
fronts [] (v ∷ vs) rest more l e = absurd (differ l)
  where
    differ : 0 ≡ length (v ∷ vs) → ⊥
    differ l = omega arith
fronts (u ∷ us) [] rest more l e = absurd (differ l)
  where
    differ : length (u ∷ us) ≡ 0 → ⊥
    differ l = omega arith
fronts (u ∷ us) (v ∷ vs) rest more l e =
    let head : u ≡ v = cc in
    let tail : us ++ rest ≡ vs ++ more = cc in
    let len : length us ≡ length vs = omega arith in
    let both = fronts us vs rest more len tail in
    (ap (λ (t : Token). t ∷ us) head ∙ ap (λ (t : List Token). v ∷ t) both.0, both.1)

at_98 : (d : Limits) (begun rest : List Token) → length begun ≡ 98 → (p : PassesColumns d (begun ++ rest)) → (begun ≡ p.begun) × (rest ≡ token.Symbol symbol.Comma ∷ token.Name p.further ∷ p.rest)
at_98 d begun rest l p =
    let len = begun_len d p.table p.begun p.written in
    let full = p.full in
    let same : length begun ≡ length p.begun = omega arith in
    fronts begun p.begun rest (token.Symbol symbol.Comma ∷ token.Name p.further ∷ p.rest) same p.tokens

named_next : (rest : List Token) → goes_on rest ≡ true → (name : List ℕ) × (more : List Token) × (rest ≡ token.Symbol symbol.Comma ∷ token.Name name ∷ more)
named_next [] e = absurd cc
named_next (y ∷ []) e = absurd cc
named_next (y ∷ token.Word w ∷ rest) e = absurd cc
named_next (y ∷ token.Name name ∷ rest) e = (name, rest, ap (λ (t : Token). t ∷ token.Name name ∷ rest) (sign_is symbol.Comma y e))
named_next (y ∷ token.Number n ∷ rest) e = absurd cc
named_next (y ∷ token.Text t ∷ rest) e = absurd cc
named_next (y ∷ token.Symbol s ∷ rest) e = absurd cc
named_next (y ∷ token.Bad ∷ rest) e = absurd cc

pub passes_full : (d : Limits) (begun rest : List Token) → length begun ≡ 98 → goes_on rest ≡ true → IsFull d begun ↔ PassesColumns d (begun ++ rest)
passes_full d begun rest l g = (there, back)
  where
    there : IsFull d begun → PassesColumns d (begun ++ rest)
    there (t, q, k) =
        let next = named_next rest g in
        record { begun = begun; table = t; written = q; full = k; further = next.0; rest = next.1; tokens = ap (λ (t : List Token). begun ++ t) next.2 }

    back : PassesColumns d (begun ++ rest) → IsFull d begun
    back p = (p.table, subst (λ (t : List Token). begun_table d p.table t) (sym (at_98 d begun rest l p).0) p.written, p.full)

pub passes_not : (d : Limits) (begun rest : List Token) → length begun ≡ 98 → goes_on rest ≡ false → PassesColumns d (begun ++ rest) → ⊥
passes_not d begun rest l g p = clash (sym g ∙ ap goes_on (at_98 d begun rest l p).1)
  where
    clash : false ≡ true → ⊥
    clash e = cc

ok_as : {X E : Type 0} (P Q : X → Type 0) (r : Result X E) → ((x : X) → P x → Q x) → IfOk r P → IfOk r Q
ok_as P Q (Ok x) f h = f x h
ok_as P Q (Err e) f h = h

pub passes_behind : {E : Type 0} (d : Limits) (ts begun rest : List Token) → begun ≡ take 98 ts → rest ≡ drop 98 ts → length begun ≡ 98 → goes_on rest ≡ true → (r : Result Bool E)
    → IfOk r (λ b. IsTrue b ↔ IsFull d begun) → IfOk r (λ b. IsTrue b ↔ PassesColumns d ts)
passes_behind d ts begun rest e f l g r h =
    let whole = ap (λ (t : List Token). t ++ rest) e ∙ ap (λ (t : List Token). take 98 ts ++ t) f ∙ take-append-drop 98 ts in
    let both = subst (λ (t : List Token). IsFull d begun ↔ PassesColumns d t) whole (passes_full d begun rest l g) in
    ok_as (λ b. IsTrue b ↔ IsFull d begun) (λ b. IsTrue b ↔ PassesColumns d ts) r (λ b k. (λ x. both.0 (k.0 x), λ x. k.1 (both.1 x))) h

pub passes_other : (d : Limits) (ts begun rest : List Token) → begun ≡ take 98 ts → rest ≡ drop 98 ts → length begun ≡ 98 → goes_on rest ≡ false → PassesColumns d ts → ⊥
passes_other d ts begun rest e f l g p =
    let whole = ap (λ (t : List Token). t ++ rest) e ∙ ap (λ (t : List Token). take 98 ts ++ t) f ∙ take-append-drop 98 ts in
    passes_not d begun rest l g (subst (λ (t : List Token). PassesColumns d t) (sym whole) p)

pub never : {P : Type 0} → (P → ⊥) → IsTrue false ↔ P
never n = (λ h. absurd cc, λ p. absurd (n p))

pub full_said : (d : Limits) (ts : List Token) (e : ReadError) (f : Fault) (left : ℕ) → e ≡ errors.Fault f left → Says {X = List ℕ × List ColumnSyn} (Err e) (whole_at (begun_table_at d) ts) → IsFull d ts → ⊥
full_said d ts e f left is h = full_fault d ts f (subst (λ (e : ReadError). Says {X = List ℕ × List ColumnSyn} (Err e) (whole_at (begun_table_at d) ts)) is h)
