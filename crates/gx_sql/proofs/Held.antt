-- What the maps by names hold.
use Rattle.std.proofs.Common.{◌≡◌, ℕ, zero, suc, ◌+◌, ◌≤◌, ◌<◌, nat_eq, nat_lt, nat_le, Bool, true, false, not, cond, if◌then◌else◌, ◌||◌, ◌&&◌, List, [], ◌∷◌, ◌++◌, length, map, position, Option, Some, None, Vec, refl, sym, ◌∙◌, ap, subst, arith}
use Rattle.std.specs.Option.{is_some, unwrap_or}
use Rattle.std.specs.List.{position_or_len}
use Rattle.std.specs.Map.{lookup, keys_of}
use Rattle.std.specs.Cmp.Lexicographic.{pointwise}
use Rattle.std.specs.declared.alloc.Global.{Global}
use Rattle.indexmap.specs.IndexMap.{insert_entry, set_value_at}
use Rattle.gx_ids.specs.declared.ids.Table.{Table}
use Rattle.gx_tree.specs.declared.schema.Schema.{Schema}
use Rattle.gx_resolve.specs.Resolving.{table_after}
use Rattle.gx_sql.specs.Progress.{place_of, count_of, counted, is_known}
use Rattle.gx_sql.specs.Counts.{is_session}
use Rattle.gx_sql.specs.Held.{named, schemas, AreTables, AreCounts}

-- a key is this name
abbrev pub is_key : List ℕ → Vec ℕ Global → Bool
is_key name key = pointwise nat_eq name key.items

-- two keys are one
abbrev pub same_key : Vec ℕ Global → Vec ℕ Global → Bool
same_key x y = pointwise nat_eq x.items y.items

pub length_named : (es : List (Vec ℕ Global × ℕ)) → length (named es) ≡ length es
length_named [] = refl
length_named (e ∷ es) = let more = length_named es in omega arith

either : (b x : Bool) (v : ℕ) (o : Option ℕ) → x ≡ is_some o → (b || x) ≡ is_some (cond b (Some v) o)
either true x v o e = refl
either false x v o e = e

pub is_session_named : (name : List ℕ) (es : List (Vec ℕ Global × ℕ)) → is_session name (named es) ≡ is_some (lookup (is_key name) es)
is_session_named name [] = refl
is_session_named name (e ∷ es) = either (pointwise nat_eq name e.0.items) (is_session name (named es)) e.1 (lookup (is_key name) es) (is_session_named name es)

-- PLACES
some_position : {X : Type 0} (p : X → Bool) (xs : List X) (i : ℕ) → position p xs ≡ Some i → i ≡ position_or_len p xs
some_position p xs i e = pick (nat_lt (position_or_len p xs) (length xs)) refl
  where
    pick : (b : Bool) → nat_lt (position_or_len p xs) (length xs) ≡ b → i ≡ position_or_len p xs
    pick true q = cc
    pick false q = absurd cc

none_position : {X : Type 0} (p : X → Bool) (xs : List X) → position p xs ≡ None → length xs ≤ position_or_len p xs
none_position p xs e = pick (nat_lt (position_or_len p xs) (length xs)) refl
  where
    pick : (b : Bool) → nat_lt (position_or_len p xs) (length xs) ≡ b → length xs ≤ position_or_len p xs
    pick true q = absurd cc
    pick false q = grind arith

pub place_of_named : (name : List ℕ) (es : List (Vec ℕ Global × ℕ)) → place_of name (named es) ≡ position_or_len (is_key name) (keys_of es)
place_of_named name [] = refl
place_of_named name (e ∷ es) = at (pointwise nat_eq name e.0.items) (place_of name (named es)) (position_or_len (is_key name) (keys_of es)) (place_of_named name es)
  where
    at : (b : Bool) (n m : ℕ) → n ≡ m → (if b then 0 else n + 1) ≡ cond (not b) (1 + m) 0
    at true n m q = refl
    at false n m q = omega arith

position_to : {X : Type 0} (p : X → Bool) (xs : List X) → position_or_len p xs ≤ length xs
position_to p [] = omega arith
position_to p (x ∷ xs) = at (p x) (position_to p xs)
  where
    at : (b : Bool) → position_or_len p xs ≤ length xs → cond (not b) (1 + position_or_len p xs) 0 ≤ length (x ∷ xs)
    at true q = omega arith
    at false q = omega arith

keys_len : {X : Type 0} (es : List (Vec ℕ Global × X)) → length (keys_of es) ≡ length es
keys_len [] = refl
keys_len (e ∷ es) = let more = keys_len es in omega arith

pub place_found : (name : List ℕ) (es : List (Vec ℕ Global × ℕ)) (i : ℕ) → position (is_key name) (keys_of es) ≡ Some i → i ≡ place_of name (named es)
place_found name es i e = some_position (is_key name) (keys_of es) i e ∙ sym (place_of_named name es)

pub place_absent : (name : List ℕ) (es : List (Vec ℕ Global × ℕ)) → position (is_key name) (keys_of es) ≡ None → length es ≡ place_of name (named es)
place_absent name es e =
    let from = none_position (is_key name) (keys_of es) e in
    let to = position_to (is_key name) (keys_of es) in
    let len = keys_len es in
    let place = place_of_named name es in
    omega arith

count_at : (b : Bool) (v n : ℕ) (o : Option ℕ) → n ≡ unwrap_or o 0 → (if b then v else n) ≡ unwrap_or (cond b (Some v) o) 0
count_at true v n o e = refl
count_at false v n o e = e

pub count_of_named : (name : List ℕ) (es : List (Vec ℕ Global × ℕ)) → count_of name (named es) ≡ unwrap_or (lookup (is_key name) es) 0
count_of_named name [] = refl
count_of_named name (e ∷ es) = count_at (pointwise nat_eq name e.0.items) e.1 (count_of name (named es)) (lookup (is_key name) es) (count_of_named name es)

-- TABLES
nat_eq_swap : (n m : ℕ) → nat_eq n m ≡ nat_eq m n
nat_eq_swap n m = grind arith

pub swap : (us vs : List ℕ) → pointwise nat_eq us vs ≡ pointwise nat_eq vs us
swap [] [] = refl
swap [] (v ∷ vs) = refl
swap (u ∷ us) [] = refl
swap (u ∷ us) (v ∷ vs) = ap (λ (b : Bool). b && pointwise nat_eq us vs) (nat_eq_swap u v) ∙ ap (λ (b : Bool). nat_eq v u && b) (swap us vs)

table_at : (b : Bool) (n k : ℕ) (t s : Schema) (o : Option Schema) (r : Option (Table × Schema)) → ((s : Schema) → o ≡ Some s → r ≡ Some (record { 0 = n + 1 + k }, s)) → cond b (Some t) o ≡ Some s
    → (if b then Some (record { 0 = n }, t) else r) ≡ Some (record { 0 = n + cond (not b) (1 + k) 0 }, s)
table_at true n k t s o r f e = let same : t ≡ s = cc in ap (λ (s : Schema). Some (record { 0 = n }, s)) same ∙ ap (λ (i : ℕ). Some (record { 0 = i }, s)) (zero_sum n)
  where
    zero_sum : (n : ℕ) → n ≡ n + 0
    zero_sum n = omega arith
table_at false n k t s o r f e = f s e ∙ ap (λ (i : ℕ). Some (record { 0 = i }, s)) (sum n k)
  where
    sum : (n k : ℕ) → n + 1 + k ≡ n + (1 + k)
    sum n k = omega arith

key_test : (name : List ℕ) (e : Vec ℕ Global × Schema) → e.0.items ≡ e.1.name → pointwise nat_eq e.1.name name ≡ is_key name e.0
key_test name e q = swap e.1.name name ∙ ap (λ (k : List ℕ). pointwise nat_eq name k) (sym q)

pub table_found : (n : ℕ) (name : List ℕ) (es : List (Vec ℕ Global × Schema)) (s : Schema) → AreTables es → lookup (is_key name) es ≡ Some s → table_after n name (schemas es) ≡ Some (record { 0 = n + position_or_len (is_key name) (keys_of es) }, s)
table_found n name [] s h e = absurd cc
table_found n name (e ∷ es) s h q =
    ap (λ (b : Bool). if b then Some (record { 0 = n }, e.1) else table_after (n + 1) name (schemas es)) (key_test name e h.0)
    ∙ table_at (is_key name e.0) n (position_or_len (is_key name) (keys_of es)) e.1 s (lookup (is_key name) es) (table_after (n + 1) name (schemas es)) (λ s. table_found (n + 1) name es s h.2) q

none_at : (b : Bool) (n : ℕ) (t : Schema) (o : Option Schema) (r : Option (Table × Schema)) → (o ≡ None → r ≡ None) → cond b (Some t) o ≡ None → (if b then Some (record { 0 = n }, t) else r) ≡ None
none_at true n t o r f e = absurd cc
none_at false n t o r f e = f e

pub table_absent : (n : ℕ) (name : List ℕ) (es : List (Vec ℕ Global × Schema)) → AreTables es → lookup (is_key name) es ≡ None → table_after n name (schemas es) ≡ None
table_absent n name [] h e = refl
table_absent n name (e ∷ es) h q =
    ap (λ (b : Bool). if b then Some (record { 0 = n }, e.1) else table_after (n + 1) name (schemas es)) (key_test name e h.0)
    ∙ none_at (is_key name e.0) n e.1 (lookup (is_key name) es) (table_after (n + 1) name (schemas es)) (table_absent (n + 1) name es h.2) q

pub named_found : (name : List ℕ) (es : List (Vec ℕ Global × Schema)) (i : ℕ) (s : Schema) → AreTables es → position (is_key name) (keys_of es) ≡ Some i → lookup (is_key name) es ≡ Some s → table_after 0 name (schemas es) ≡ Some (record { 0 = i }, s)
named_found name es i s h p l = table_found 0 name es s h l ∙ ap (λ (i : ℕ). Some (record { 0 = i }, s)) (zero_sum (position_or_len (is_key name) (keys_of es)) ∙ sym (some_position (is_key name) (keys_of es) i p))
  where
    zero_sum : (n : ℕ) → 0 + n ≡ n
    zero_sum n = omega arith

pub found_to : {X : Type 0} (name : List ℕ) (es : List (Vec ℕ Global × X)) (i : ℕ) → position (is_key name) (keys_of es) ≡ Some i → i < length es
found_to name es i e = at (nat_lt (position_or_len (is_key name) (keys_of es)) (length (keys_of es))) refl
  where
    at : (b : Bool) → nat_lt (position_or_len (is_key name) (keys_of es)) (length (keys_of es)) ≡ b → i < length es
    at true q =
        let same : i ≡ position_or_len (is_key name) (keys_of es) = some_position (is_key name) (keys_of es) i e in
        let less : position_or_len (is_key name) (keys_of es) < length (keys_of es) = grind arith in
        let len = keys_len es in
        omega arith
    at false q = absurd cc

known_at : (b : Bool) (n : ℕ) (t : Schema) (o : Option Schema) (r : Option (Table × Schema)) → is_some r ≡ is_some o → is_some (if b then Some (record { 0 = n }, t) else r) ≡ is_some (cond b (Some t) o)
known_at true n t o r e = refl
known_at false n t o r e = e

known_from : (n : ℕ) (name : List ℕ) (es : List (Vec ℕ Global × Schema)) → AreTables es → is_some (table_after n name (schemas es)) ≡ is_some (lookup (is_key name) es)
known_from n name [] h = refl
known_from n name (e ∷ es) h =
    ap (λ (b : Bool). is_some (if b then Some (record { 0 = n }, e.1) else table_after (n + 1) name (schemas es))) (key_test name e h.0)
    ∙ known_at (is_key name e.0) n e.1 (lookup (is_key name) es) (table_after (n + 1) name (schemas es)) (known_from (n + 1) name es h.2)

pub is_known_schemas : (name : List ℕ) (es : List (Vec ℕ Global × Schema)) → AreTables es → is_some (lookup (is_key name) es) ≡ is_known name (schemas es)
is_known_schemas name es h = sym (known_from 0 name es h)

none_of : {X : Type 0} (o : Option X) → is_some o ≡ false → o ≡ None
none_of (Some x) e = absurd cc
none_of None e = refl

pub new_key : (name : List ℕ) (es : List (Vec ℕ Global × Schema)) (key : Vec ℕ Global) → AreTables es → is_known name (schemas es) ≡ false → key.items ≡ name → lookup (same_key key) es ≡ None
new_key name es key h e q = none_of (lookup (same_key key) es) (ap (λ (n : List ℕ). is_some (lookup (is_key n) es)) q ∙ is_known_schemas name es h ∙ e)

pub schemas_snoc : (es : List (Vec ℕ Global × Schema)) (key : Vec ℕ Global) (s : Schema) → schemas (es ++ (key, s) ∷ []) ≡ schemas es ++ s ∷ []
schemas_snoc [] key s = refl
schemas_snoc (e ∷ es) key s = ap (λ (t : List Schema). e.1 ∷ t) (schemas_snoc es key s)

pub tables_snoc : (es : List (Vec ℕ Global × Schema)) (key : Vec ℕ Global) (s : Schema) → AreTables es → key.items ≡ s.name → length s.columns ≤ 32 → AreTables (es ++ (key, s) ∷ [])
tables_snoc [] key s h q l = (q, l, tt)
tables_snoc (e ∷ es) key s h q l = (h.0, h.1, tables_snoc es key s h.2 q l)

pub length_snoc : {X : Type 0} (xs : List X) (x : X) → length (xs ++ x ∷ []) ≡ length xs + 1
length_snoc [] x = omega arith
length_snoc (y ∷ xs) x = let more = length_snoc xs x in omega arith

pub some_as : {X : Type 0} (P : X → Type 0) (a b : X) → Some a ≡ Some b → P a → P b
some_as P a b e p = let same : a ≡ b = cc in subst P same p

narrow_at : (b : Bool) (t s : Schema) (o : Option Schema) → length t.columns ≤ 32 → (o ≡ Some s → length s.columns ≤ 32) → cond b (Some t) o ≡ Some s → length s.columns ≤ 32
narrow_at true t s o l f e = let same : t ≡ s = cc in subst (λ (s : Schema). length s.columns ≤ 32) same l
narrow_at false t s o l f e = f e

pub found_narrow : (name : List ℕ) (es : List (Vec ℕ Global × Schema)) (s : Schema) → AreTables es → lookup (is_key name) es ≡ Some s → length s.columns ≤ 32
found_narrow name [] s h e = absurd cc
found_narrow name (e ∷ es) s h q = narrow_at (is_key name e.0) e.1 s (lookup (is_key name) es) h.1 (found_narrow name es s h.2) q

-- COUNTS
pub counts_to : (n : ℕ) (name : List ℕ) (es : List (Vec ℕ Global × ℕ)) → AreCounts n es → count_of name (named es) ≤ n
counts_to n name [] h = omega arith
counts_to n name (e ∷ es) h = at (pointwise nat_eq name e.0.items) (counts_to n name es h.1)
  where
    at : (b : Bool) → count_of name (named es) ≤ n → (if b then e.1 else count_of name (named es)) ≤ n
    at true q = h.0
    at false q = q

-- the same of the sessions' names with their counts
abbrev AreNumbers : ℕ → List (List ℕ × ℕ) → Type 0
AreNumbers n [] = Unit {0}
AreNumbers n (s ∷ ss) = (s.1 ≤ n) × AreNumbers n ss

numbers_named : (n : ℕ) (es : List (Vec ℕ Global × ℕ)) → AreCounts n es → AreNumbers n (named es)
numbers_named n [] h = tt
numbers_named n (e ∷ es) h = (h.0, numbers_named n es h.1)

counts_named : (n : ℕ) (es : List (Vec ℕ Global × ℕ)) → AreNumbers n (named es) → AreCounts n es
counts_named n [] h = tt
counts_named n (e ∷ es) h = (h.0, counts_named n es h.1)

numbers_more : (n m : ℕ) (ss : List (List ℕ × ℕ)) → n ≤ m → AreNumbers n ss → AreNumbers m ss
numbers_more n m [] l h = tt
numbers_more n m (s ∷ ss) l h = let first = h.0 in (omega arith, numbers_more n m ss l h.1)

numbers_counted : (n m v : ℕ) (name : List ℕ) (ss : List (List ℕ × ℕ)) → AreNumbers n ss → n ≤ m → v ≤ m → AreNumbers m (counted name v ss)
numbers_counted n m v name [] h l k = (k, tt)
numbers_counted n m v name (s ∷ ss) h l k = at (pointwise nat_eq name s.0) (numbers_counted n m v name ss h.1 l k)
  where
    at : (b : Bool) → AreNumbers m (counted name v ss) → AreNumbers m (if b then (s.0, v) ∷ ss else s ∷ counted name v ss)
    at true q = (k, numbers_more n m ss l h.1)
    at false q = let first = h.0 in (omega arith, q)

pub counts_counted : (n m v : ℕ) (name : List ℕ) (es fs : List (Vec ℕ Global × ℕ)) → AreCounts n es → n ≤ m → v ≤ m → named fs ≡ counted name v (named es) → AreCounts m fs
counts_counted n m v name es fs h l k e = counts_named m fs (subst (λ (ss : List (List ℕ × ℕ)). AreNumbers m ss) (sym e) (numbers_counted n m v name (named es) (numbers_named n es h) l k))

-- the place of a name is that of its count
pub named_set : (name : List ℕ) (v : ℕ) (es : List (Vec ℕ Global × ℕ)) (i : ℕ) → i ≡ place_of name (named es) → i < length es → named (set_value_at es i v) ≡ counted name v (named es)
named_set name v [] i q l = absurd (omega (arith, l))
named_set name v (e ∷ es) i q l = at (pointwise nat_eq name e.0.items) i q l (named_set name v es)
  where
    at : (b : Bool) (i : ℕ) → i ≡ (if b then 0 else place_of name (named es) + 1) → i < length (e ∷ es)
        → ((i : ℕ) → i ≡ place_of name (named es) → i < length es → named (set_value_at es i v) ≡ counted name v (named es))
        → named (set_value_at (e ∷ es) i v) ≡ (if b then (e.0.items, v) ∷ named es else (e.0.items, e.1) ∷ counted name v (named es))
    at true zero q l more = refl
    at true (suc i) q l more = absurd (omega (arith, q))
    at false zero q l more = absurd (omega (arith, q))
    at false (suc i) q l more = ap (λ (t : List (List ℕ × ℕ)). (e.0.items, e.1) ∷ t) (more i (omega (arith, q)) (omega (arith, l)))

pub named_insert : (es : List (Vec ℕ Global × ℕ)) (key : Vec ℕ Global) (v : ℕ) → named (insert_entry same_key es key v) ≡ counted key.items v (named es)
named_insert [] key v = refl
named_insert (e ∷ es) key v = at (pointwise nat_eq key.items e.0.items) (named_insert es key v)
  where
    at : (b : Bool) → named (insert_entry same_key es key v) ≡ counted key.items v (named es)
        → named (if b then (e.0, v) ∷ es else e ∷ insert_entry same_key es key v) ≡ (if b then (e.0.items, v) ∷ named es else (e.0.items, e.1) ∷ counted key.items v (named es))
    at true q = refl
    at false q = ap (λ (t : List (List ℕ × ℕ)). (e.0.items, e.1) ∷ t) q

-- there is room for the session's line
abbrev pub HasRoom : List ℕ → List (List ℕ × ℕ) → Type 0
HasRoom name ss = (nat_le 64 (length ss) && not (is_session name ss)) ≡ false

place_in : (name : List ℕ) (ss : List (List ℕ × ℕ)) → is_session name ss ≡ true → place_of name ss < length ss
place_in name [] e = absurd cc
place_in name (s ∷ ss) e = at (pointwise nat_eq name s.0) e (place_in name ss)
  where
    at : (b : Bool) → (b || is_session name ss) ≡ true → (is_session name ss ≡ true → place_of name ss < length ss) → (if b then 0 else place_of name ss + 1) < length (s ∷ ss)
    at true q f = omega arith
    at false q f = let less = f q in omega arith

place_to : (name : List ℕ) (ss : List (List ℕ × ℕ)) → place_of name ss ≤ length ss
place_to name [] = omega arith
place_to name (s ∷ ss) = at (pointwise nat_eq name s.0) (place_to name ss)
  where
    at : (b : Bool) → place_of name ss ≤ length ss → (if b then 0 else place_of name ss + 1) ≤ length (s ∷ ss)
    at true q = omega arith
    at false q = omega arith

pub place_room : (name : List ℕ) (ss : List (List ℕ × ℕ)) → length ss ≤ 64 → HasRoom name ss → place_of name ss < 64
place_room name ss l h = at (is_session name ss) refl
  where
    at : (b : Bool) → is_session name ss ≡ b → place_of name ss < 64
    at true e = let less = place_in name ss e in omega arith
    at false e =
        let to = place_to name ss in
        let room : nat_le 64 (length ss) ≡ false = grind arith in
        let few : length ss < 64 = grind arith in
        omega arith

length_counted : (name : List ℕ) (v : ℕ) (ss : List (List ℕ × ℕ)) → length (counted name v ss) ≡ (if is_session name ss then length ss else length ss + 1)
length_counted name v [] = refl
length_counted name v (s ∷ ss) = at (pointwise nat_eq name s.0) (is_session name ss) (length_counted name v ss)
  where
    at : (b c : Bool) → length (counted name v ss) ≡ (if c then length ss else length ss + 1)
        → length (if b then (s.0, v) ∷ ss else s ∷ counted name v ss) ≡ (if (b || c) then length (s ∷ ss) else length (s ∷ ss) + 1)
    at true c q = refl
    at false true q = omega (arith, q)
    at false false q = omega (arith, q)

counted_room : (name : List ℕ) (v : ℕ) (ss : List (List ℕ × ℕ)) → length ss ≤ 64 → HasRoom name ss → length (counted name v ss) ≤ 64
counted_room name v ss l h = at (is_session name ss) refl
  where
    at : (b : Bool) → is_session name ss ≡ b → length (counted name v ss) ≤ 64
    at true e =
        let len : length (counted name v ss) ≡ length ss = length_counted name v ss ∙ ap (λ (b : Bool). if b then length ss else length ss + 1) e in
        omega arith
    at false e =
        let len : length (counted name v ss) ≡ length ss + 1 = length_counted name v ss ∙ ap (λ (b : Bool). if b then length ss else length ss + 1) e in
        let room : nat_le 64 (length ss) ≡ false = grind arith in
        let few : length ss < 64 = grind arith in
        omega arith

pub few_counted : (name : List ℕ) (v : ℕ) (es fs : List (Vec ℕ Global × ℕ)) → length es ≤ 64 → HasRoom name (named es) → named fs ≡ counted name v (named es) → length fs ≤ 64
few_counted name v es fs l h e =
    let was = length_named es in
    let now = length_named fs in
    let room = counted_room name v (named es) (omega arith) h in
    let same = ap length e in
    omega arith

pub length_schemas : (es : List (Vec ℕ Global × Schema)) → length (schemas es) ≡ length es
length_schemas [] = refl
length_schemas (e ∷ es) = let more = length_schemas es in omega arith

pub names_named : (es : List (Vec ℕ Global × ℕ)) → map (λ (s : List ℕ × ℕ). s.0) (named es) ≡ map (λ (e : Vec ℕ Global × ℕ). e.0.items) es
names_named [] = refl
names_named (e ∷ es) = ap (λ (t : List (List ℕ)). e.0.items ∷ t) (names_named es)
