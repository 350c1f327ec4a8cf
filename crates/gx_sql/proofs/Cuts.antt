-- The first line of the bytes.
use Rattle.std.proofs.Common.{◌≡◌, ℕ, ◌+◌, ◌==◌, Bool, true, false, not, cond, List, [], ◌∷◌, ◌++◌, length, refl, sym, ◌∙◌, ap, subst, append-nil, take, drop, arith}
use Rattle.std.proofs.lemmas.List.{take-append-drop}
use Rattle.std.specs.List.{prefix_len}
use Rattle.gx_sql.specs.Lines.{begins, without_returns, fed_lines, lines_of}
use Rattle.gx_sql.specs.Cutting.{is_within, without_return}

-- no byte is a line feed
abbrev pub Unfed : List ℕ → Type 0
Unfed [] = Unit {0}
Unfed (b ∷ bs) = ((b == 10) ≡ false) × Unfed bs

-- nothing, or a line feed and more
abbrev pub Fed : List ℕ → Type 0
Fed [] = Unit {0}
Fed (b ∷ bs) = (b == 10) ≡ true

-- what stands before the first line feed, and what begins with it
pub parts-prefix_len : (us vs : List ℕ) → length us ≡ prefix_len is_within (us ++ vs) → Unfed us × Fed vs
parts-prefix_len [] [] e = (tt, tt)
parts-prefix_len [] (v ∷ vs) e = (tt, pick (v == 10) refl)
  where
    pick : (c : Bool) → (v == 10) ≡ c → (v == 10) ≡ true
    pick true q = q
    pick false q = absurd (clash (e ∙ ap (λ (c : Bool). cond (not c) (1 + prefix_len is_within vs) 0) q))
      where
        clash : 0 ≡ 1 + prefix_len is_within vs → ⊥
        clash e = omega arith
parts-prefix_len (u ∷ us) vs e = pick (parts-prefix_len us vs) (u == 10) refl
  where
    pick : (length us ≡ prefix_len is_within (us ++ vs) → Unfed us × Fed vs) → (c : Bool) → (u == 10) ≡ c → Unfed (u ∷ us) × Fed vs
    pick more true q = absurd (clash (e ∙ ap (λ (c : Bool). cond (not c) (1 + prefix_len is_within (us ++ vs)) 0) q))
      where
        clash : length (u ∷ us) ≡ 0 → ⊥
        clash e = omega arith
    pick more false q =
        let one = e ∙ ap (λ (c : Bool). cond (not c) (1 + prefix_len is_within (us ++ vs)) 0) q in
        let less : length us ≡ prefix_len is_within (us ++ vs) = omega arith in
        let r = more less in
        ((q, r.0), r.1)

unfed_without : (us : List ℕ) → Unfed us → without_returns us ≡ us
unfed_without [] u = refl
unfed_without (a ∷ []) u = grind arith
unfed_without (a ∷ b ∷ us) u =
    let rest = unfed_without (b ∷ us) u.1 in
    let at : begins 10 (b ∷ us) ≡ false = u.1.0 in
    grind arith

unfed_lines : (a : ℕ) (us : List ℕ) → Unfed (a ∷ us) → fed_lines (a ∷ us) ≡ (a ∷ us) ∷ []
unfed_lines a [] u = grind arith
unfed_lines a (b ∷ us) u =
    let rest = unfed_lines b us u.1 in
    grind arith

-- a last line without a line feed
pub lines_of-unfed : (a : ℕ) (us : List ℕ) → Unfed (a ∷ us) → lines_of (a ∷ us) ≡ (a ∷ us) ∷ []
lines_of-unfed a us u = ap fed_lines (unfed_without (a ∷ us) u) ∙ unfed_lines a us u

feed_head : (rest : List ℕ) → lines_of (10 ∷ rest) ≡ [] ∷ lines_of rest
feed_head rest = refl

-- a line with its line feed
pub lines_of-fed : (us rest : List ℕ) → Unfed us → lines_of (us ++ 10 ∷ rest) ≡ without_return us ∷ lines_of rest
lines_of-fed [] rest u = refl
lines_of-fed (a ∷ []) rest u = pick (a == 13) refl
  where
    pick : (c : Bool) → (a == 13) ≡ c → lines_of (a ∷ 10 ∷ rest) ≡ without_return (a ∷ []) ∷ lines_of rest
    pick true q = grind arith
    pick false q = grind arith
lines_of-fed (a ∷ b ∷ us) rest u =
    let at : begins 10 (b ∷ us ++ 10 ∷ rest) ≡ false = u.1.0 in
    let more = lines_of-fed (b ∷ us) rest u.1 in
    grind arith

pub without_return-return : (us : List ℕ) (b : ℕ) → b ≡ 13 → without_return (us ++ b ∷ []) ≡ us
without_return-return [] b e = grind arith
without_return-return (u ∷ []) b e = grind arith
without_return-return (u ∷ v ∷ us) b e = ap (λ (t : List ℕ). u ∷ t) (without_return-return (v ∷ us) b e)

pub without_return-other : (us : List ℕ) (b : ℕ) → (b ≡ 13 → ⊥) → without_return (us ++ b ∷ []) ≡ us ++ b ∷ []
without_return-other [] b n = grind arith
without_return-other (u ∷ []) b n = grind arith
without_return-other (u ∷ v ∷ us) b n = ap (λ (t : List ℕ). u ∷ t) (without_return-other (v ∷ us) b n)

none_left : (xs : List ℕ) → length xs ≡ 0 → xs ≡ []
none_left [] e = refl
none_left (x ∷ xs) e = absurd (some e)
  where
    some : length (x ∷ xs) ≡ 0 → ⊥
    some e = omega arith

-- bytes that were parted at their first line feed
module _ (bytes line rest : List ℕ) (n : ℕ) (at : n ≡ prefix_len is_within bytes) (front : line ≡ take n bytes) (back : rest ≡ drop n bytes) (len : length line ≡ n) where
  whole : bytes ≡ line ++ rest
  whole = sym (take-append-drop n bytes) ∙ ap (λ (t : List ℕ). t ++ drop n bytes) (sym front) ∙ ap (λ (t : List ℕ). line ++ t) (sym back)

  parts : Unfed line × Fed rest
  parts = parts-prefix_len line rest (len ∙ at ∙ ap (prefix_len is_within) whole)

  last_line : (us vs : List ℕ) → Unfed us → vs ≡ [] → (us ++ vs ≡ [] → ⊥) → lines_of (us ++ vs) ≡ us ∷ lines_of vs
  last_line [] vs u e n = absurd (n e)
  last_line (a ∷ us) vs u e n = subst (λ (t : List ℕ). lines_of (a ∷ us ++ t) ≡ (a ∷ us) ∷ lines_of t) (sym e) (ap lines_of (append-nil (a ∷ us)) ∙ lines_of-unfed a us u)

  fed_line : (us vs more : List ℕ) (b : ℕ) → Unfed us → Fed vs → vs ≡ b ∷ more → lines_of (us ++ vs) ≡ without_return us ∷ lines_of more
  fed_line us [] more b u f e = absurd cc
  fed_line us (c ∷ vs) more b u f e =
      let ten : c ≡ 10 = grind arith in
      let same : vs ≡ more = cc in
      ap (λ (t : List ℕ). lines_of (us ++ t)) (ap (λ (x : ℕ). x ∷ vs) ten) ∙ lines_of-fed us vs u ∙ ap (λ (t : List ℕ). without_return us ∷ lines_of t) same

  pub lines_of-last : length rest ≡ 0 → (bytes ≡ [] → ⊥) → lines_of bytes ≡ line ∷ lines_of rest
  lines_of-last e n = ap lines_of whole ∙ last_line line rest parts.0 (none_left rest e) (λ h. n (whole ∙ h))

  pub lines_of-first : (b : ℕ) (more : List ℕ) → rest ≡ b ∷ more → lines_of bytes ≡ without_return line ∷ lines_of more
  lines_of-first b more e = ap lines_of whole ∙ fed_line line rest more b parts.0 parts.1 e
