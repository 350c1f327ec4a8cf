-- The first line feed ends the first line.
use Rattle.std.proofs.Common.{◌≡◌, ◌≢◌, ℕ, ◌+◌, ◌<◌, ◌==◌, Bool, true, false, not, cond, if◌then◌else◌, List, [], ◌∷◌, ◌++◌, length, get_or, take, drop, Some, None, refl, sym, ◌∙◌, ap, subst, arith, append_assoc, append-nil, length-append}
use Rattle.std.specs.Prelude.{is_some}
use Rattle.std.specs.List.{prefix_len}
use Rattle.std.proofs.lemmas.List.{take-append-drop}
use Rattle.std.proofs.lemmas.List.Elements.{All-cons, All-head, All-nil, All-tail}
use Rattle.std.proofs.lemmas.List.Sums.{prefix_len_is}
use Rattle.memchr.specs.Find.{IsFirstByte, is_byte}
use Rattle.gx_trace.specs.Lawful.{IsLine}
use Rattle.gx_trace.specs.Readers.{word}
use Rattle.gx_read_trace.specs.Lines.{fed, fed_line}
use Rattle.gx_read_trace.specs.ReadText.{by_feed, cut}
use Rattle.gx_read_trace.specs.Rests.{BeginWith, IsBehind, Rest, is_within}
use Rattle.gx_read_trace.proofs.Cutting.{cut-is, no-feed}
use Rattle.gx_read_trace.proofs.Plain.{NoFeed, differs}

not-true : (b : Bool) → (b ≡ true → ⊥) → not b ≡ true
not-true true h = absurd (h refl)
not-true false h = refl

pub to-feed : (bs : List ℕ) (k : ℕ) → IsFirstByte (is_byte 10) bs (Some k) → k ≡ prefix_len is_within bs
to-feed bs k h = sym (prefix_len_is is_within bs k 0 (omega (arith, h.0.high)) (λ j l. not-true (get_or bs j 0 == 10) (h.0.before j (omega arith) l)) (λ l. ap not h.1))

pub to-end : (bs : List ℕ) → IsFirstByte (is_byte 10) bs None → length bs ≡ prefix_len is_within bs
to-end bs h = sym (prefix_len_is is_within bs (length bs) 0 (omega arith) (λ j l. not-true (get_or bs j 0 == 10) (h j (omega arith) l)) (λ l. absurd (omega (arith, l))))

-- nothing, or a line feed and more
abbrev pub IsFed : List ℕ → Type 0
IsFed [] = Unit {0}
IsFed (b ∷ bs) = (b == 10) ≡ true

-- what stands before the first line feed is a line
parts-prefix : (us vs : List ℕ) → length us ≡ prefix_len is_within (us ++ vs) → IsLine us × IsFed vs
parts-prefix [] [] e = (All-nil NoFeed, tt)
parts-prefix [] (v ∷ vs) e = (All-nil NoFeed, by (v == 10) refl)
  where
    by : (c : Bool) → (v == 10) ≡ c → (v == 10) ≡ true
    by true q = q
    by false q = absurd (clash (e ∙ ap (λ (c : Bool). cond (not c) (1 + prefix_len is_within vs) 0) q))
      where
        clash : 0 ≡ 1 + prefix_len is_within vs → ⊥
        clash e = omega arith
parts-prefix (u ∷ us) vs e = by (parts-prefix us vs) (u == 10) refl
  where
    by : (length us ≡ prefix_len is_within (us ++ vs) → IsLine us × IsFed vs) → (c : Bool) → (u == 10) ≡ c → IsLine (u ∷ us) × IsFed vs
    by more true q = absurd (clash (e ∙ ap (λ (c : Bool). cond (not c) (1 + prefix_len is_within (us ++ vs)) 0) q))
      where
        clash : length (u ∷ us) ≡ 0 → ⊥
        clash e = omega arith
    by more false q =
        let one = e ∙ ap (λ (c : Bool). cond (not c) (1 + prefix_len is_within (us ++ vs)) 0) q in
        let less : length us ≡ prefix_len is_within (us ++ vs) = omega arith in
        let r = more less in
        (All-cons NoFeed u us (differs u q) r.0, r.1)

-- CUT
cut-feed : (line rest : List ℕ) → IsLine line → cut (line ++ (10 ∷ rest)) ≡ (line ∷ (cut rest).0, (cut rest).1)
cut-feed [] rest a = refl
cut-feed (b ∷ bs) rest a =
    ap (by_feed b) (cut-feed bs rest (All-tail NoFeed b bs a))
    ∙ ap (λ c. if c then ([] ∷ (bs ∷ (cut rest).0), (cut rest).1) else ((b ∷ bs) ∷ (cut rest).0, (cut rest).1)) (no-feed b (All-head NoFeed b bs a))

cut-alone : (left : List ℕ) → IsLine left → cut left ≡ ([], left)
cut-alone [] a = refl
cut-alone (b ∷ bs) a =
    ap (by_feed b) (cut-alone bs (All-tail NoFeed b bs a)) ∙ ap (λ c. if c then ([] ∷ [], bs) else ([], b ∷ bs)) (no-feed b (All-head NoFeed b bs a))

-- bytes that were parted at their first line feed
module _ (bytes line rest : List ℕ) (n : ℕ) (at : n ≡ prefix_len is_within bytes) (front : line ≡ take n bytes) (back : rest ≡ drop n bytes) (len : length line ≡ n) where
  whole : bytes ≡ line ++ rest
  whole = sym (take-append-drop n bytes) ∙ ap (λ (t : List ℕ). t ++ drop n bytes) (sym front) ∙ ap (λ (t : List ℕ). line ++ t) (sym back)

  parts : IsLine line × IsFed rest
  parts = parts-prefix line rest (len ∙ at ∙ ap (prefix_len is_within) whole)

  pub no-first : length rest ≡ 0 → IsLine bytes
  no-first e = subst IsLine (sym (whole ∙ ap (λ (t : List ℕ). line ++ t) (none rest e) ∙ append-nil line)) parts.0
    where
      none : (xs : List ℕ) → length xs ≡ 0 → xs ≡ []
      none [] e = refl
      none (x ∷ xs) e = absurd (some e)
        where
          some : length (x ∷ xs) ≡ 0 → ⊥
          some e = omega arith

  pub first : (b : ℕ) (more : List ℕ) → rest ≡ b ∷ more → BeginWith bytes line more
  first b more e = record { line_alone = parts.0; parts = whole ∙ ap (λ (t : List ℕ). line ++ t) (e ∙ ap (λ (x : ℕ). x ∷ more) (is-ten b more (subst IsFed e parts.1))) }
    where
      is-ten : (b : ℕ) (more : List ℕ) → IsFed (b ∷ more) → b ≡ 10
      is-ten b more q = grind (arith, q)

-- TAKEN
pub is_behind : (old new : Rest) (line : List ℕ) → BeginWith old.left line new.left → new.taken ≡ old.taken + 1 → IsBehind old line new
is_behind old new line is more = record { cuts = ap cut is.parts ∙ cut-feed line new.left is.line_alone; taken = more }

pub none_there : (bytes : List ℕ) → IsLine bytes → (cut bytes).0 ≡ []
none_there bytes is = ap (λ (c : List (List ℕ) × List ℕ). c.0) (cut-alone bytes is)

pub shorter : (bytes line rest : List ℕ) → BeginWith bytes line rest → length rest < length bytes
shorter bytes line rest is = subst (λ (t : List ℕ). length rest < length t) (sym is.parts) (less line rest)
  where
    less : (l more : List ℕ) → length more < length (l ++ (10 ∷ more))
    less l more = omega (arith, length-append l (10 ∷ more))

-- WORDS
-- a word without a line feed stands at the front of the bytes where it does so in their first line
word-front : (w l rest : List ℕ) → IsLine w → is_some (word w (l ++ (10 ∷ rest))) ≡ is_some (word w l)
word-front [] l rest a = refl
word-front (c ∷ w) [] rest a = ap (λ t. is_some (if t then word w rest else None)) (other c (All-head NoFeed c w a))
  where
    other : (c : ℕ) → c ≢ 10 → (10 == c) ≡ false
    other c ne = by (10 == c) refl
      where
        by : (t : Bool) → (10 == c) ≡ t → t ≡ false
        by true e = absurd (ne (grind (arith, e)))
        by false e = refl
word-front (c ∷ w) (b ∷ bs) rest a = by (b == c) (word-front w bs rest (All-tail NoFeed c w a))
  where
    by : (t : Bool) → is_some (word w (bs ++ (10 ∷ rest))) ≡ is_some (word w bs) → is_some (if t then word w (bs ++ (10 ∷ rest)) else None) ≡ is_some (if t then word w bs else None)
    by true e = e
    by false e = refl

pub in_first : (w bytes l : List ℕ) (ls : List (List ℕ)) → IsLine w → (cut bytes).0 ≡ l ∷ ls → is_some (word w bytes) ≡ is_some (word w l)
in_first w bytes l ls a e =
    let all : bytes ≡ l ++ (10 ∷ (fed ls ++ (cut bytes).1)) = sym (cut-is bytes).0 ∙ ap (λ (x : List (List ℕ)). fed x ++ (cut bytes).1) e ∙ append_assoc (fed_line l) (fed ls) (cut bytes).1 ∙ append_assoc l (10 ∷ []) (fed ls ++ (cut bytes).1) in
    ap (λ (t : List ℕ). is_some (word w t)) all ∙ word-front w l (fed ls ++ (cut bytes).1) a
