-- Characters of bytes, counted and left out; blanks that are pushed one after the other.
use Rattle.std.proofs.Common.{◌≡◌, ℕ, zero, suc, ◌+◌, ◌-◌, ◌<◌, ◌≤◌, ◌==◌, nat_le, Bool, true, false, not, cond, if◌then◌else◌}
use Rattle.std.proofs.Common.{List, [], ◌∷◌, ◌++◌, length, length-append, take, drop, arith, ap, sym, ◌∙◌, subst, refl}
use Rattle.std.specs.Prelude.{filter}
use Rattle.std.proofs.lemmas.Bool.Decides.{nat_tests}
use Rattle.std.proofs.lemmas.List.{length-drop, take-append-drop}
use Rattle.std.proofs.lemmas.List.Elements.{filter-append}
use Rattle.std.proofs.Math.Seq.{take-add, take-length}
use Rattle.gx_explain.specs.Windows.{behind_chars, blanks, chars, is_first, is_inner, left_out}

pub blanks-next : (n : ℕ) → 0 < n → blanks n ≡ 32 ∷ blanks (n - 1)
blanks-next zero l = absurd (omega arith)
blanks-next (suc n) l =
    let e : suc n - 1 ≡ n = omega arith in
    ap (λ (m : ℕ). 32 ∷ blanks m) (sym e)

-- nothing is left behind as many characters as there are, or more
pub behind-none : (n : ℕ) (xs : List ℕ) → (length (behind_chars n xs) == 0) ≡ nat_le (chars xs) n
behind-none n [] = grind (arith, nat_tests)
behind-none n (b ∷ xs) = by_test (is_inner b) (behind-none n xs) (λ m. behind-none m xs)
  where
    longer : (k : ℕ) → (suc k == 0) ≡ false
    longer k = grind (arith, nat_tests)

    more : (k : ℕ) → false ≡ nat_le (suc k) 0
    more k = grind (arith, nat_tests)

    less : (k m : ℕ) → (m == 0) ≡ false → nat_le k (m - 1) ≡ nat_le (suc k) m
    less k m e = grind (arith, nat_tests)

    same : (m : ℕ) → (m == 0) ≡ true → m ≡ 0
    same m e = grind (arith, nat_tests)

    by_count : (t : Bool) → (n == 0) ≡ t → ((m : ℕ) → (length (behind_chars m xs) == 0) ≡ nat_le (chars xs) m)
        → (length (if t then b ∷ xs else behind_chars (n - 1) xs) == 0) ≡ nat_le (suc (chars xs)) n
    by_count true e h = longer (length xs) ∙ subst (λ m. false ≡ nat_le (suc (chars xs)) m) (sym (same n e)) (more (chars xs))
    by_count false e h = h (n - 1) ∙ less (chars xs) n e

    by_test : (t : Bool) → (length (behind_chars n xs) == 0) ≡ nat_le (chars xs) n → ((m : ℕ) → (length (behind_chars m xs) == 0) ≡ nat_le (chars xs) m)
        → (length (if t then behind_chars n xs else if n == 0 then b ∷ xs else behind_chars (n - 1) xs) == 0) ≡ nat_le (length (cond (not t) (b ∷ filter is_first xs) (filter is_first xs))) n
    by_test true e h = e
    by_test false e h = by_count (n == 0) refl h

-- behind the characters of a front and more are those behind as many of the rest
pub behind-append : (n : ℕ) (xs ys : List ℕ) → behind_chars (chars xs + n) (xs ++ ys) ≡ behind_chars n ys
behind-append n [] ys = ap (λ (m : ℕ). behind_chars m ys) (none n)
  where
    none : (n : ℕ) → 0 + n ≡ n
    none n = omega arith
behind-append n (b ∷ xs) ys = by_test (is_inner b) (behind-append n xs ys)
  where
    more : (k m : ℕ) → ((suc k + m) == 0) ≡ false
    more k m = grind (arith, nat_tests)

    less : (k m : ℕ) → (suc k + m) - 1 ≡ k + m
    less k m = omega arith

    by_test : (t : Bool) → behind_chars (chars xs + n) (xs ++ ys) ≡ behind_chars n ys
        → (if t then behind_chars (length (cond (not t) (b ∷ filter is_first xs) (filter is_first xs)) + n) (xs ++ ys)
        else if (length (cond (not t) (b ∷ filter is_first xs) (filter is_first xs)) + n) == 0 then b ∷ (xs ++ ys)
        else behind_chars (length (cond (not t) (b ∷ filter is_first xs) (filter is_first xs)) + n - 1) (xs ++ ys)) ≡ behind_chars n ys
    by_test true e = e
    by_test false e =
        ap (λ (z : Bool). if z then b ∷ (xs ++ ys) else behind_chars (suc (chars xs) + n - 1) (xs ++ ys)) (more (chars xs) n)
        ∙ ap (λ (m : ℕ). behind_chars m (xs ++ ys)) (less (chars xs) n)
        ∙ e

chars-append : (xs ys : List ℕ) → chars (xs ++ ys) ≡ chars xs + chars ys
chars-append xs ys = ap length (filter-append is_first xs ys) ∙ length-append (filter is_first xs) (filter is_first ys)

-- the characters before a byte, of which those from an earlier one on are a part
near-chars : (line : List ℕ) (near at : ℕ) → near ≤ at → chars (take near line) + chars (take (at - near) (drop near line)) ≡ chars (take at line)
near-chars line near at before =
    sym (chars-append (take near line) (take (at - near) (drop near line)))
    ∙ ap chars (sym (ap (λ (n : ℕ). take n line) (back near at before) ∙ take-add near (at - near) line))
  where
    back : (n m : ℕ) → n ≤ m → m ≡ n + (m - n)
    back n m h = omega (arith, h)

pub near-within : (line : List ℕ) (near at : ℕ) → near ≤ at → chars (take (at - near) (drop near line)) ≤ chars (take at line)
near-within line near at before = part (chars (take near line)) (chars (take (at - near) (drop near line))) (chars (take at line)) (near-chars line near at before)
  where
    part : (n m k : ℕ) → n + m ≡ k → m ≤ k
    part n m k e = omega (arith, e)

-- of a long line no more than 50 characters are shown before a place
pub shown-long : (line : List ℕ) (place : ℕ) → nat_le (chars line) 100 ≡ false → 50 ≤ place → 50 ≡ place - left_out line place
shown-long line place long many = subst (λ (t : Bool). 50 ≡ place - (if t then 0 else place - 50)) (sym long) (last place many)
  where
    last : (n : ℕ) → 50 ≤ n → 50 ≡ n - (n - 50)
    last n h = omega (arith, h)

-- from a byte of a line on that stands before a place of it, behind which stand as many characters as lie between what is left out and the place
pub behind-near : (line : List ℕ) (near at out place gap count : ℕ) → near ≤ at → chars (take at line) ≡ place → count ≡ chars (take (at - near) (drop near line)) → gap ≡ place - out → out ≤ place → gap ≤ count
    → behind_chars (count - gap) (take (length line - near) (drop near line)) ≡ behind_chars out line
behind-near line near at out place gap count before stands counted left within few =
    ap (behind_chars (count - gap)) whole
    ∙ sym (
    ap (λ (xs : List ℕ). behind_chars out xs) (sym (take-append-drop near line))
    ∙ ap (λ (n : ℕ). behind_chars n (take near line ++ drop near line)) split
    ∙ behind-append (count - gap) (take near line) (drop near line))
  where
    whole : take (length line - near) (drop near line) ≡ drop near line
    whole = ap (λ (n : ℕ). take n (drop near line)) (sym (length-drop near line)) ∙ take-length (drop near line)

    cut : chars (take near line) + chars (take (at - near) (drop near line)) ≡ place
    cut = near-chars line near at before ∙ stands

    sum : (f m : ℕ) → f + m ≡ place → count ≡ m → gap ≡ place - out → out ≤ place → gap ≤ count → out ≡ f + (count - gap)
    sum f m a b c d e = omega (arith, a, b, c, d, e)

    split : out ≡ chars (take near line) + (count - gap)
    split = sum (chars (take near line)) (chars (take (at - near) (drop near line))) cut counted left within few
