-- Lines that have no line feed in them are known from their text.
use Rattle.std.proofs.Common.{◌≡◌, ◌≢◌, ℕ, ◌+◌, ◌==◌, Bool, true, false, if◌then◌else◌, List, [], ◌∷◌, ◌++◌, length, filter, refl, sym, ◌∙◌, ap, arith, append_assoc}
use Rattle.std.specs.Prelude.{All, drop, get_or}
use Rattle.std.proofs.lemmas.List.Elements.{All-cons, All-head, All-nil, All-tail}
use Rattle.gx_trace.specs.Lawful.{IsLine}
use Rattle.gx_read_trace.specs.FirstBad.{feeds, is_feed}
use Rattle.gx_read_trace.specs.Lines.{fed, fed_line}
use Rattle.gx_read_trace.specs.ReadText.{cut, put}
use Rattle.gx_read_trace.proofs.Plain.{NoFeed, differs}

pub first-same : (a b : ℕ) (xs ys : List ℕ) → a ∷ xs ≡ b ∷ ys → a ≡ b
first-same a b xs ys e = ap (λ l. get_or l 0 0) e

pub others-same : (a b : ℕ) (xs ys : List ℕ) → a ∷ xs ≡ b ∷ ys → xs ≡ ys
others-same a b xs ys e = ap (λ l. drop 1 l) e

cut-line : (x y r s : List ℕ) → IsLine x → IsLine y → x ++ (10 ∷ r) ≡ y ++ (10 ∷ s) → (x ≡ y) × (r ≡ s)
cut-line [] [] r s a b e = (refl, others-same 10 10 r s e)
cut-line [] (y ∷ ys) r s a b e = absurd (All-head NoFeed y ys b (sym (first-same 10 y r (ys ++ (10 ∷ s)) e)))
cut-line (x ∷ xs) [] r s a b e = absurd (All-head NoFeed x xs a (first-same x 10 (xs ++ (10 ∷ r)) s e))
cut-line (x ∷ xs) (y ∷ ys) r s a b e =
    let (front, back) = cut-line xs ys r s (All-tail NoFeed x xs a) (All-tail NoFeed y ys b) (others-same x y (xs ++ (10 ∷ r)) (ys ++ (10 ∷ s)) e) in
    ((λ i. first-same x y (xs ++ (10 ∷ r)) (ys ++ (10 ∷ s)) e i ∷ front i), back)

ends : (x r : List ℕ) → fed_line x ++ r ≡ x ++ (10 ∷ r)
ends x r = append_assoc x (10 ∷ []) r

not-nothing : (x r : List ℕ) → x ++ (10 ∷ r) ≡ [] → ⊥
not-nothing [] r e = cc
not-nothing (x ∷ xs) r e = cc

ends-more : (x r s : List ℕ) → (fed_line x ++ r) ++ s ≡ x ++ (10 ∷ (r ++ s))
ends-more x r s = ap (λ z. z ++ s) (ends x r) ∙ append_assoc x (10 ∷ r) s

pub same-lines : (xs ys : List (List ℕ)) → All IsLine xs → All IsLine ys → fed xs ≡ fed ys → xs ≡ ys
same-lines [] [] a b e = refl
same-lines [] (y ∷ ys) a b e = absurd (not-nothing y (fed ys) (sym (ends y (fed ys)) ∙ sym e))
same-lines (x ∷ xs) [] a b e = absurd (not-nothing x (fed xs) (sym (ends x (fed xs)) ∙ e))
same-lines (x ∷ xs) (y ∷ ys) a b e =
    let (line, rest) = cut-line x y (fed xs) (fed ys) (All-head IsLine x xs a) (All-head IsLine y ys b) (sym (ends x (fed xs)) ∙ e ∙ ends y (fed ys)) in
    (λ i. line i ∷ same-lines xs ys (All-tail IsLine x xs a) (All-tail IsLine y ys b) rest i)

not-in : (left y r : List ℕ) → IsLine left → left ≡ y ++ (10 ∷ r) → ⊥
not-in [] y r a e = not-nothing y r (sym e)
not-in (b ∷ bs) [] r a e = All-head NoFeed b bs a (first-same b 10 bs r e)
not-in (b ∷ bs) (y ∷ ys) r a e = not-in bs ys r (All-tail NoFeed b bs a) (others-same b y bs (ys ++ (10 ∷ r)) e)

-- so is what stands behind the last line feed
pub same-parts : (xs ys : List (List ℕ)) (left : List ℕ) → All IsLine xs → All IsLine ys → IsLine left → fed xs ++ left ≡ fed ys → (xs ≡ ys) × (left ≡ [])
same-parts [] [] left a b c e = (refl, e)
same-parts [] (y ∷ ys) left a b c e = absurd (not-in left y (fed ys) c (e ∙ ends y (fed ys)))
same-parts (x ∷ xs) [] left a b c e = absurd (not-nothing x (fed xs ++ left) (sym (ends-more x (fed xs) left) ∙ e))
same-parts (x ∷ xs) (y ∷ ys) left a b c e =
    let (line, rest) = cut-line x y (fed xs ++ left) (fed ys) (All-head IsLine x xs a) (All-head IsLine y ys b) (sym (ends-more x (fed xs) left) ∙ e ∙ ends y (fed ys)) in
    let (lines, none) = same-parts xs ys left (All-tail IsLine x xs a) (All-tail IsLine y ys b) c rest in
    ((λ i. line i ∷ lines i), none)

-- and which lines stand in front
pub front-lines : (xs ys : List (List ℕ)) (r : List ℕ) → All IsLine xs → All IsLine ys → fed xs ≡ fed ys ++ r → (zs : List (List ℕ)) × (xs ≡ ys ++ zs)
front-lines xs [] r a b e = (xs, refl)
front-lines [] (y ∷ ys) r a b e = absurd (not-nothing y (fed ys ++ r) (sym (ends-more y (fed ys) r) ∙ sym e))
front-lines (x ∷ xs) (y ∷ ys) r a b e =
    let (line, rest) = cut-line x y (fed xs) (fed ys ++ r) (All-head IsLine x xs a) (All-head IsLine y ys b) (sym (ends x (fed xs)) ∙ e ∙ ends-more y (fed ys) r) in
    let (zs, same) = front-lines xs ys r (All-tail IsLine x xs a) (All-tail IsLine y ys b) rest in
    (zs, (λ i. line i ∷ same i))

-- CUT
abbrev pub IsCut : List ℕ → List (List ℕ) × List ℕ → Type 0
IsCut bs x = (fed x.0 ++ x.1 ≡ bs) × All IsLine x.0 × IsLine x.1

pub cut-is : (bs : List ℕ) → IsCut bs (cut bs)
cut-is [] = (refl, All-nil IsLine, All-nil NoFeed)
cut-is (b ∷ bs) = by (b == 10) refl (cut bs) (cut-is bs)
  where
    by : (t : Bool) → (b == 10) ≡ t → (x : List (List ℕ) × List ℕ) → IsCut bs x → IsCut (b ∷ bs) (if t then ([] ∷ x.0, x.1) else put b x)
    by true e x is =
        let same : 10 ≡ b = grind (arith, e) in
        ((λ i. same i ∷ is.0 i), All-cons IsLine [] x.0 (All-nil NoFeed) is.1, is.2)
    by false e ([], left) is = (ap (λ l. b ∷ l) is.0, All-nil IsLine, All-cons NoFeed b left (differs b e) is.2)
    by false e (l ∷ ls, left) is =
        (ap (λ z. b ∷ z) is.0, All-cons IsLine (b ∷ l) ls (All-cons NoFeed b l (differs b e) (All-head IsLine l ls is.1)) (All-tail IsLine l ls is.1), is.2)

-- FEEDS
pub no-feed : (b : ℕ) → b ≢ 10 → (b == 10) ≡ false
no-feed b ne = by (b == 10) refl
  where
    by : (c : Bool) → (b == 10) ≡ c → c ≡ false
    by true e = absurd (ne (grind (arith, e)))
    by false e = refl

feeds-line : (l r : List ℕ) → IsLine l → feeds (l ++ (10 ∷ r)) ≡ feeds r + 1
feeds-line [] r a = omega arith
feeds-line (b ∷ bs) r a =
    ap (λ c. length (if c then b ∷ filter is_feed (bs ++ (10 ∷ r)) else filter is_feed (bs ++ (10 ∷ r)))) (no-feed b (All-head NoFeed b bs a)) ∙ feeds-line bs r (All-tail NoFeed b bs a)

pub feeds-lines : (ls : List (List ℕ)) → All IsLine ls → feeds (fed ls) ≡ length ls
feeds-lines [] a = refl
feeds-lines (l ∷ ls) a =
    ap feeds (ends l (fed ls)) ∙ feeds-line l (fed ls) (All-head IsLine l ls a) ∙ ap (λ k. k + 1) (feeds-lines ls (All-tail IsLine l ls a)) ∙ more
  where
    more : length ls + 1 ≡ length (l ∷ ls)
    more = omega arith
