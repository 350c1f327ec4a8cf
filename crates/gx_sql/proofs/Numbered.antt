-- Lines and names that one more follows.
use Rattle.std.proofs.Common.{◌≡◌, ◌⊎◌, inl, inr, ℕ, zero, suc, ◌+◌, ◌<◌, ◌≤◌, ◌==◌, nat_eq, Bool, true, false, if◌then◌else◌, ◌||◌, List, [], ◌∷◌, ◌++◌, length, map, slice_get, Option, Some, None, MatchOption, is_some, refl, sym, ◌∙◌, ap, subst, append_assoc, append-nil, arith}
use Rattle.std.specs.Cmp.Lexicographic.{pointwise, other_text}
use Rattle.gx_ids.specs.declared.ids.Table.{Table}
use Rattle.gx_tree.specs.declared.schema.Schema.{Schema}
use Rattle.gx_tree.specs.declared.stmt.Stmt.{Stmt}
use Rattle.gx_script.specs.declared.Line.{Line}
use Rattle.gx_meaning.specs.Statements.{IsOneOf, AreDistinct, IsAt, IsOver, IsStmtOf, table_of}
use Rattle.gx_resolve.specs.Resolving.{table_after}
use Rattle.gx_sql.specs.Counts.{is_session}
use Rattle.gx_sql.specs.Progress.{place_of, count_of, counted}
use Rattle.gx_store.specs.Language.{table_name, lines_in, AreLinesNumbered, BeginInOrder}

-- NAMES
one_snoc : {A : Type 0} (x y : A) (xs : List A) → IsOneOf x (xs ++ y ∷ []) → IsOneOf x xs ⊎ (x ≡ y)
one_snoc x y [] (inl e) = inr e
one_snoc x y [] (inr n) = absurd n
one_snoc x y (z ∷ xs) (inl e) = inl (inl e)
one_snoc x y (z ∷ xs) (inr h) = more (one_snoc x y xs h)
  where
    more : IsOneOf x xs ⊎ (x ≡ y) → IsOneOf x (z ∷ xs) ⊎ (x ≡ y)
    more (inl h) = inl (inr h)
    more (inr e) = inr e

pub distinct_snoc : {A : Type 0} (xs : List A) (y : A) → AreDistinct xs → ¬ (IsOneOf y xs) → AreDistinct (xs ++ y ∷ [])
distinct_snoc [] y d n = (λ h. none h, tt)
  where
    none : IsOneOf y [] → ⊥
    none h = h
distinct_snoc (x ∷ xs) y d n = (λ h. at (one_snoc x y xs h), distinct_snoc xs y d.1 (λ h. n (inr h)))
  where
    at : IsOneOf x xs ⊎ (x ≡ y) → ⊥
    at (inl h) = d.0 h
    at (inr e) = n (inl (sym e))

pub unknown_apart : (name : List ℕ) (ts : List Schema) (n : ℕ) → is_some (table_after n name ts) ≡ false → ¬ (IsOneOf name (map table_name ts))
unknown_apart name [] n e h = h
unknown_apart name (t ∷ ts) n e h = at (pointwise nat_eq t.name name) refl (table_after (n + 1) name ts) e (unknown_apart name ts (n + 1)) h
  where
    at : (b : Bool) → pointwise nat_eq t.name name ≡ b → (o : Option (Table × Schema)) → is_some (if b then Some (record { 0 = n }, t) else o) ≡ false → (is_some o ≡ false → ¬ (IsOneOf name (map table_name ts))) → IsOneOf name (t.name ∷ map table_name ts) → ⊥
    at true q o e rest h = cc
    at false q o e rest (inl s) = other_text t.name name (sym q) (sym s)
    at false q o e rest (inr h) = rest e h

pub tables_snoc : (ts : List Schema) (t : Schema) → map table_name (ts ++ t ∷ []) ≡ map table_name ts ++ t.name ∷ []
tables_snoc [] t = refl
tables_snoc (s ∷ ts) t = ap (λ (ns : List (List ℕ)). s.name ∷ ns) (tables_snoc ts t)

-- STATEMENTS
get_more : (ts : List Schema) (t : Schema) (i : ℕ) (s : Schema) → slice_get ts i ≡ Some s → slice_get (ts ++ t ∷ []) i ≡ Some s
get_more [] t i s e = absurd cc
get_more (u ∷ ts) t zero s e = e
get_more (u ∷ ts) t (suc i) s e = get_more ts t i s e

pub stmt_more : (ts : List Schema) (t : Schema) (s : Stmt) → IsStmtOf ts s → IsStmtOf (ts ++ t ∷ []) s
stmt_more ts t s h = at (table_of s) h
  where
    at : (o : Option Table) → MatchOption o (Unit {0}) (λ (table : Table). (schema : Schema) × IsAt ts table schema × IsOver schema s) → MatchOption o (Unit {0}) (λ (table : Table). (schema : Schema) × IsAt (ts ++ t ∷ []) table schema × IsOver schema s)
    at None h = tt
    at (Some table) (schema, found, over) = (schema, get_more ts t table.0 schema found, over)

-- SESSIONS
abbrev pub names : List (List ℕ × ℕ) → List (List ℕ)
names ss = map (λ (s : List ℕ × ℕ). s.0) ss

pub other_apart : (name : List ℕ) (ss : List (List ℕ × ℕ)) → is_session name ss ≡ false → ¬ (IsOneOf name (names ss))
other_apart name [] e h = h
other_apart name (s ∷ ss) e h = at (pointwise nat_eq name s.0) refl e (other_apart name ss) h
  where
    at : (b : Bool) → pointwise nat_eq name s.0 ≡ b → (b || is_session name ss) ≡ false → (is_session name ss ≡ false → ¬ (IsOneOf name (names ss))) → IsOneOf name (s.0 ∷ names ss) → ⊥
    at true q e rest h = cc
    at false q e rest (inl i) = other_text name s.0 (sym q) i
    at false q e rest (inr h) = rest e h

pub names_known : (name : List ℕ) (n : ℕ) (ss : List (List ℕ × ℕ)) → is_session name ss ≡ true → names (counted name n ss) ≡ names ss
names_known name n [] e = absurd cc
names_known name n (s ∷ ss) e = at (pointwise nat_eq name s.0) e (names_known name n ss)
  where
    at : (b : Bool) → (b || is_session name ss) ≡ true → (is_session name ss ≡ true → names (counted name n ss) ≡ names ss) → names (if b then (s.0, n) ∷ ss else s ∷ counted name n ss) ≡ s.0 ∷ names ss
    at true e rest = refl
    at false e rest = ap (λ (t : List (List ℕ)). s.0 ∷ t) (rest e)

pub names_new : (name : List ℕ) (n : ℕ) (ss : List (List ℕ × ℕ)) → is_session name ss ≡ false → names (counted name n ss) ≡ names ss ++ name ∷ []
names_new name n [] e = refl
names_new name n (s ∷ ss) e = at (pointwise nat_eq name s.0) e (names_new name n ss)
  where
    at : (b : Bool) → (b || is_session name ss) ≡ false → (is_session name ss ≡ false → names (counted name n ss) ≡ names ss ++ name ∷ []) → names (if b then (s.0, n) ∷ ss else s ∷ counted name n ss) ≡ s.0 ∷ (names ss ++ name ∷ [])
    at true e rest = absurd cc
    at false e rest = ap (λ (t : List (List ℕ)). s.0 ∷ t) (rest e)

pub length_names : (ss : List (List ℕ × ℕ)) → length (names ss) ≡ length ss
length_names [] = refl
length_names (s ∷ ss) = let more = length_names ss in omega arith

pub place_known : (name : List ℕ) (ss : List (List ℕ × ℕ)) → is_session name ss ≡ true → place_of name ss < length ss
place_known name [] e = absurd cc
place_known name (s ∷ ss) e = at (pointwise nat_eq name s.0) e (place_known name ss)
  where
    at : (b : Bool) → (b || is_session name ss) ≡ true → (is_session name ss ≡ true → place_of name ss < length ss) → (if b then 0 else place_of name ss + 1) < length (s ∷ ss)
    at true e rest = omega arith
    at false e rest = let less = rest e in omega arith

pub place_new : (name : List ℕ) (ss : List (List ℕ × ℕ)) → is_session name ss ≡ false → place_of name ss ≡ length ss
place_new name [] e = refl
place_new name (s ∷ ss) e = at (pointwise nat_eq name s.0) e (place_new name ss)
  where
    at : (b : Bool) → (b || is_session name ss) ≡ false → (is_session name ss ≡ false → place_of name ss ≡ length ss) → (if b then 0 else place_of name ss + 1) ≡ length (s ∷ ss)
    at true e rest = absurd cc
    at false e rest = let same = rest e in omega arith

-- COUNTS
is_same : (n m : ℕ) → n ≡ m → (n == m) ≡ true
is_same n m e = grind arith

is_below : (n m : ℕ) → n < m → (n == m) ≡ false
is_below n m l = grind arith

is_above : (n m : ℕ) → m < n → (n == m) ≡ false
is_above n m l = grind arith

lines_snoc : (i : ℕ) (ls : List Line) (l : Line) → lines_in i (ls ++ l ∷ []) ≡ (if l.session.0 == i then lines_in i ls + 1 else lines_in i ls)
lines_snoc i [] l = refl
lines_snoc i (k ∷ ls) l = at (k.session.0 == i) (l.session.0 == i) (lines_snoc i ls l)
  where
    at : (a b : Bool) → lines_in i (ls ++ l ∷ []) ≡ (if b then lines_in i ls + 1 else lines_in i ls)
        → (if a then lines_in i (ls ++ l ∷ []) + 1 else lines_in i (ls ++ l ∷ [])) ≡ (if b then (if a then lines_in i ls + 1 else lines_in i ls) + 1 else (if a then lines_in i ls + 1 else lines_in i ls))
    at true true q = ap (λ (n : ℕ). n + 1) q
    at true false q = ap (λ (n : ℕ). n + 1) q
    at false true q = q
    at false false q = q

lines_by : (i : ℕ) (ls : List Line) (l : Line) (b : Bool) → (l.session.0 == i) ≡ b → lines_in i (ls ++ l ∷ []) ≡ (if b then lines_in i ls + 1 else lines_in i ls)
lines_by i ls l b e = lines_snoc i ls l ∙ ap (λ (b : Bool). if b then lines_in i ls + 1 else lines_in i ls) e

-- each session from this place on has the number of its lines
abbrev pub AreCounted : ℕ → List (List ℕ × ℕ) → List Line → Type 0
AreCounted i [] ls = Unit {0}
AreCounted i (s ∷ ss) ls = (s.1 ≡ lines_in i ls) × AreCounted (i + 1) ss ls

counted_before : (i : ℕ) (ss : List (List ℕ × ℕ)) (ls : List Line) (l : Line) → l.session.0 < i → AreCounted i ss ls → AreCounted i ss (ls ++ l ∷ [])
counted_before i [] ls l less h = tt
counted_before i (s ∷ ss) ls l less h = (h.0 ∙ sym (lines_by i ls l false (is_below l.session.0 i less)), counted_before (i + 1) ss ls l (omega arith) h.1)

pub counted_next : (i n : ℕ) (name : List ℕ) (ss : List (List ℕ × ℕ)) (ls : List Line) (l : Line) → l.session.0 ≡ i + place_of name ss → n ≡ lines_in l.session.0 ls + 1 → AreCounted i ss ls → AreCounted i (counted name n ss) (ls ++ l ∷ [])
counted_next i n name [] ls l e m h =
    let same : l.session.0 ≡ i = omega arith in
    (m ∙ ap (λ (k : ℕ). lines_in k ls + 1) same ∙ sym (lines_by i ls l true (is_same l.session.0 i same)), tt)
counted_next i n name (s ∷ ss) ls l e m h = at (pointwise nat_eq name s.0) e (λ e. counted_next (i + 1) n name ss ls l e m h.1)
  where
    at : (b : Bool) → l.session.0 ≡ i + (if b then 0 else place_of name ss + 1) → (l.session.0 ≡ (i + 1) + place_of name ss → AreCounted (i + 1) (counted name n ss) (ls ++ l ∷ [])) → AreCounted i (if b then (s.0, n) ∷ ss else s ∷ counted name n ss) (ls ++ l ∷ [])
    at true e rest =
        let same : l.session.0 ≡ i = omega arith in
        (m ∙ ap (λ (k : ℕ). lines_in k ls + 1) same ∙ sym (lines_by i ls l true (is_same l.session.0 i same)), counted_before (i + 1) ss ls l (omega arith) h.1)
    at false e rest = (h.0 ∙ sym (lines_by i ls l false (is_above l.session.0 i (omega arith))), rest (omega arith))

pub count_is : (i k m : ℕ) (name : List ℕ) (ss : List (List ℕ × ℕ)) (ls : List Line) → AreCounted i ss ls → m ≡ i + length ss → lines_in m ls ≡ 0 → k ≡ i + place_of name ss → count_of name ss ≡ lines_in k ls
count_is i k m name [] ls h p z e =
    let same : m ≡ k = omega arith in
    sym z ∙ ap (λ (k : ℕ). lines_in k ls) same
count_is i k m name (s ∷ ss) ls h p z e = at (pointwise nat_eq name s.0) e (λ e. count_is (i + 1) k m name ss ls h.1 (next p) z e)
  where
    next : m ≡ i + length (s ∷ ss) → m ≡ (i + 1) + length ss
    next p = omega arith

    at : (b : Bool) → k ≡ i + (if b then 0 else place_of name ss + 1) → (k ≡ (i + 1) + place_of name ss → count_of name ss ≡ lines_in k ls) → (if b then s.1 else count_of name ss) ≡ lines_in k ls
    at true e rest =
        let same : i ≡ k = omega arith in
        h.0 ∙ ap (λ (k : ℕ). lines_in k ls) same
    at false e rest = rest (omega arith)

-- ORDER
order_to : (b : ℕ) (ls : List Line) (n : ℕ) → BeginInOrder b ls n → b ≤ n
order_to b [] n e = omega arith
order_to b (l ∷ ls) n (inl (less, h)) = order_to b ls n h
order_to b (l ∷ ls) n (inr (same, h)) = let to = order_to (b + 1) ls n h in omega arith

-- the next session has no line yet
pub none_next : (b : ℕ) (ls : List Line) (n : ℕ) → BeginInOrder b ls n → lines_in n ls ≡ 0
none_next b [] n h = refl
none_next b (l ∷ ls) n (inl (less, h)) =
    let to = order_to b ls n h in
    ap (λ (t : Bool). if t then lines_in n ls + 1 else lines_in n ls) (is_below l.session.0 n (omega arith)) ∙ none_next b ls n h
none_next b (l ∷ ls) n (inr (same, h)) =
    let to = order_to (b + 1) ls n h in
    ap (λ (t : Bool). if t then lines_in n ls + 1 else lines_in n ls) (is_below l.session.0 n (omega arith)) ∙ none_next (b + 1) ls n h

pub order_known : (b : ℕ) (ls : List Line) (n : ℕ) (l : Line) → l.session.0 < n → BeginInOrder b ls n → BeginInOrder b (ls ++ l ∷ []) n
order_known b [] n l less e = inl (omega arith, e)
order_known b (k ∷ ls) n l less (inl (a, h)) = inl (a, order_known b ls n l less h)
order_known b (k ∷ ls) n l less (inr (a, h)) = inr (a, order_known (b + 1) ls n l less h)

pub order_new : (b : ℕ) (ls : List Line) (n : ℕ) (l : Line) → l.session.0 ≡ n → BeginInOrder b ls n → BeginInOrder b (ls ++ l ∷ []) (n + 1)
order_new b [] n l same e = inr (omega arith, omega arith)
order_new b (k ∷ ls) n l same (inl (a, h)) = inl (a, order_new b ls n l same h)
order_new b (k ∷ ls) n l same (inr (a, h)) = inr (a, order_new (b + 1) ls n l same h)

pub numbered_snoc : (before ls : List Line) (l : Line) → l.number ≡ lines_in l.session.0 (before ++ ls) + 1 → AreLinesNumbered before ls → AreLinesNumbered before (ls ++ l ∷ [])
numbered_snoc before [] l e h = (subst (λ (t : List Line). l.number ≡ lines_in l.session.0 t + 1) (append-nil before) e, tt)
numbered_snoc before (k ∷ ls) l e h = (h.0, numbered_snoc (before ++ k ∷ []) ls l (subst (λ (t : List Line). l.number ≡ lines_in l.session.0 t + 1) (sym (append_assoc before (k ∷ []) ls)) e) h.1)
