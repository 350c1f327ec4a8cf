-- Names are read as they are printed.
use Rattle.std.proofs.Common.{◌≡◌, ◌≢◌, ℕ, zero, suc, ◌+◌, ◌^◌, ◌<◌, nat_eq, nat_lt, Bool, true, false, if◌then◌else◌, List, [], ◌∷◌, ◌++◌, length, take, drop, codes, Option, Some, None, refl, sym, ◌∙◌, ap, subst, arith}
use Rattle.std.specs.Prelude.{option_and_then, slice_get, unwrap_or}
use Rattle.std.specs.List.{prefix_len}
use Rattle.std.specs.Cmp.Lexicographic.{pointwise}
use Rattle.std.proofs.lemmas.Option.{none-some, same_Some, some_pair_parts, option_and_then_some}
use Rattle.std.proofs.lemmas.List.{take-append-drop}
use Rattle.std.proofs.lemmas.Slice.Eq.{slice_eq-Decides}
use Rattle.std.proofs.lemmas.Grind.{common_steps}
use Rattle.std.specs.Cmp.{unsigned_Decides}
use Rattle.gx_lex.specs.Lexing.{every}
use Rattle.gx_ids.specs.declared.ids.SessionId.{SessionId}
use Rattle.gx_ids.specs.declared.ids.Table.{Table}
use Rattle.gx_report.specs.Words.{session_name, table_name, name_of_schema, word_text}
use Rattle.gx_script.specs.declared.Script.{Script}
use Rattle.gx_store.specs.Limits.{is_name_byte}
use Rattle.gx_tree.specs.declared.schema.Schema.{Schema}
use Rattle.gx_trace.specs.Lawful.{IsNamed, IsSession, IsTable, names_of}
use Rattle.gx_trace.specs.Names.{found, kept_small, named, name_at, session, session_of, table, table_of}
use Rattle.gx_trace.specs.Readers.{Front, EndsName, IsReaderOf}
use Rattle.gx_trace.proofs.Words.{if-true, if-false}
use Rattle.gx_trace.proofs.Readers.{behind-word, made-into}

-- equal lists
same-self : (n : List ℕ) → pointwise nat_eq n n ≡ true
same-self [] = refl
same-self (b ∷ bs) = grind (arith, same-self bs)

same-of : (m n : List ℕ) → pointwise nat_eq m n ≡ true → m ≡ n
same-of m n e = (slice_eq-Decides unsigned_Decides m n (pointwise nat_eq m n) refl).0 e

other-of : (m n : List ℕ) → m ≢ n → pointwise nat_eq m n ≡ false
other-of m n apart = by (pointwise nat_eq m n) refl
  where
    by : (c : Bool) → pointwise nat_eq m n ≡ c → c ≡ false
    by true e = absurd (apart (same-of m n e))
    by false e = refl

-- the first place with a name is found
found-again : (start : ℕ) (names : List (List ℕ)) (name : List ℕ) (place : ℕ) → slice_get names place ≡ Some name → ((earlier : ℕ) → earlier < place → slice_get names earlier ≢ Some name) → found start names name ≡ Some (start + place)
found-again start [] name place here first = absurd (none-some name here)
found-again start (n ∷ ns) name zero here first =
    if-true (pointwise nat_eq n name) (Some start) (found (start + 1) ns name) (subst (λ x. pointwise nat_eq n x ≡ true) (same_Some n name here) (same-self n)) ∙ ap Some (omega arith)
found-again start (n ∷ ns) name (suc place) here first =
    if-false (pointwise nat_eq n name) (Some start) (found (start + 1) ns name) (other-of n name (λ e. first zero (omega arith) (ap Some e)))
    ∙ found-again (start + 1) ns name place here (λ earlier below. first (suc earlier) (omega arith))
    ∙ ap Some (omega arith)

record IsFound (start : ℕ) (names : List (List ℕ)) (name : List ℕ) (at : ℕ) : Type 0 where
  pub place : ℕ
  pub is : start + place ≡ at
  pub here : slice_get names place ≡ Some name
  pub first : (earlier : ℕ) → earlier < place → slice_get names earlier ≢ Some name

found-first : (start : ℕ) (n : List ℕ) (ns : List (List ℕ)) (name : List ℕ) (at : ℕ) → n ≢ name → IsFound (start + 1) ns name at → IsFound start (n ∷ ns) name at
found-first start n ns name at apart f = record {
  place = suc f.place;
  is = omega (arith, f.is);
  here = f.here;
  first = earlier;
}
  where
    earlier : (k : ℕ) → k < suc f.place → slice_get (n ∷ ns) k ≢ Some name
    earlier zero l e = apart (same_Some n name e)
    earlier (suc k) l e = f.first k (omega arith) e

found-sound : (start : ℕ) (names : List (List ℕ)) (name : List ℕ) (at : ℕ) → found start names name ≡ Some at → IsFound start names name at
found-sound start [] name at e = absurd (none-some at e)
found-sound start (n ∷ ns) name at e = by (λ f. found-sound (start + 1) ns name at f) (pointwise nat_eq n name) refl e
  where
    by : (found (start + 1) ns name ≡ Some at → IsFound (start + 1) ns name at) → (c : Bool) → pointwise nat_eq n name ≡ c
        → ◌≡◌ {A = Option ℕ} (if c then Some start else found (start + 1) ns name) (Some at) → IsFound start (n ∷ ns) name at
    by ih true c e = record { place = zero; is = omega (arith, same_Some start at e); here = ap Some (same-of n name c); first = λ k l. absurd (omega arith) }
    by ih false c e = found-first start n ns name at (λ same. absurd (grind (arith, c, subst (λ x. pointwise nat_eq n x ≡ true) same (same-self n)))) (ih e)

-- the letters of a name
prefix-of : (name rest : List ℕ) → every is_name_byte name → EndsName rest → prefix_len is_name_byte (name ++ rest) ≡ length name
prefix-of [] [] letters ends = refl
prefix-of [] (b ∷ bs) letters ends = if-false (is_name_byte b) (1 + prefix_len is_name_byte bs) 0 ends
prefix-of (a ∷ name) rest letters ends =
    if-true (is_name_byte a) (1 + prefix_len is_name_byte (name ++ rest)) 0 letters.0 ∙ ap (λ x. 1 + x) (prefix-of name rest letters.1 ends) ∙ omega arith

take_more : (n b : ℕ) (bs : List ℕ) → take (1 + n) (b ∷ bs) ≡ b ∷ take n bs
take_more n b bs = grind arith

every-first : (bs : List ℕ) → every is_name_byte (take (prefix_len is_name_byte bs) bs)
every-first [] = tt
every-first (b ∷ bs) = first (is_name_byte b) refl (every-first bs)
  where
    first : (c : Bool) → is_name_byte b ≡ c → every is_name_byte (take (prefix_len is_name_byte bs) bs) → every is_name_byte (take (if c then 1 + prefix_len is_name_byte bs else 0) (b ∷ bs))
    first true e more = subst (λ (x : List ℕ). every is_name_byte x) (sym (take_more (prefix_len is_name_byte bs) b bs)) (e, more)
    first false e more = tt

take-front : (name rest : List ℕ) → take (length name) (name ++ rest) ≡ name
take-front name rest = grind (arith, common_steps)

drop-front : (name rest : List ℕ) → drop (length name) (name ++ rest) ≡ rest
drop-front name rest = grind (arith, common_steps)

name-here : (names : List (List ℕ)) (place : ℕ) (name : List ℕ) → slice_get names place ≡ Some name → name_at names place ≡ name
name-here names place name e = ap (λ x. unwrap_or x []) e

pub names-read : (names : List (List ℕ)) → IsReaderOf (name_at names) (IsNamed names) EndsName (named names)
names-read names = record {
  again = λ place rest is ends.
      let text : name_at names place ≡ is.name = name-here names place is.name is.here in
      let n : prefix_len is_name_byte (is.name ++ rest) ≡ length is.name = prefix-of is.name rest is.letters ends in
      let small : nat_lt place (2 ^ 8) ≡ true = grind (arith, is.small) in
      ap (λ x. named names (x ++ rest)) text
      ∙ ap (λ k. option_and_then (kept_small (drop k (is.name ++ rest))) (found 0 names (take k (is.name ++ rest)))) n
      ∙ (λ i. option_and_then (kept_small (drop-front is.name rest i)) (found 0 names (take-front is.name rest i)))
      ∙ ap (option_and_then (kept_small rest)) (found-again 0 names is.name place is.here is.first ∙ ap Some (omega arith))
      ∙ if-true (nat_lt place (2 ^ 8)) (Some (place, rest)) None small;
  sound = λ bytes rest place e.
      let front = take (prefix_len is_name_byte bytes) bytes in
      let back = drop (prefix_len is_name_byte bytes) bytes in
      option_and_then_some (kept_small back) (found 0 names front) (place, rest) e (λ at is kept. stands bytes rest place at is (nat_lt at (2 ^ 8)) refl kept);
}
  where
    stands : (bytes rest : List ℕ) (place at : ℕ) → found 0 names (take (prefix_len is_name_byte bytes) bytes) ≡ Some at → (c : Bool) → nat_lt at (2 ^ 8) ≡ c
        → ◌≡◌ {A = Front ℕ} (if c then Some (at, drop (prefix_len is_name_byte bytes) bytes) else None) (Some (place, rest)) → IsNamed names place × (bytes ≡ name_at names place ++ rest)
    stands bytes rest place at is false c e = absurd (none-some _ e)
    stands bytes rest place at is true c e =
        let front = take (prefix_len is_name_byte bytes) bytes in
        let (p, q) = some_pair_parts at place (drop (prefix_len is_name_byte bytes) bytes) rest e in
        let f = found-sound 0 names front at is in
        let same : f.place ≡ place = omega (arith, f.is, p) in
        let here : slice_get names place ≡ Some front = subst (λ k. slice_get names k ≡ Some front) same f.here in (
          record {
            name = front;
            here = here;
            letters = every-first bytes;
            first = subst (λ k. (earlier : ℕ) → earlier < k → slice_get names earlier ≢ Some front) same f.first;
            small = grind (arith, c, p);
          },
          sym (take-append-drop (prefix_len is_name_byte bytes) bytes) ∙ (λ i. sym (name-here names place front here) i ++ q i),
        )

pub sessions : (script : Script) → IsReaderOf (λ (s : SessionId). word_text (session_name script s)) (IsSession script) EndsName (session script)
sessions script = made-into (λ (s : SessionId). word_text (session_name script s)) (IsSession script) session_of (behind-word (codes " ") (names-read script.sessions)) (λ b is. (b.0, refl, is)) (λ a is. (is, refl))

name-of-table : (tables : List Schema) (place : ℕ) → name_of_schema (slice_get tables place) ≡ name_at (names_of tables) place
name-of-table [] place = refl
name-of-table (s ∷ ss) zero = refl
name-of-table (s ∷ ss) (suc place) = name-of-table ss place

pub tables : (script : Script) → IsReaderOf (λ (t : Table). word_text (table_name script t)) (IsTable script) EndsName (table script)
tables script =
    made-into (λ (t : Table). word_text (table_name script t)) (IsTable script) table_of (behind-word (codes " ") (names-read (names_of script.tables)))
    (λ b is. (b.0, refl, is)) (λ a is. (is, ap (λ x. word_text x) (name-of-table script.tables a)))
