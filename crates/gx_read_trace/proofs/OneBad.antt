-- One line at most is the first with which no text goes on, and it is named.
use Rattle.std.proofs.Common.{◌≡◌, ℕ, ◌+◌, ◌^◌, ◌<◌, ◌==◌, nat_lt, Bool, true, false, if◌then◌else◌, List, [], ◌∷◌, ◌++◌, length, filter, refl, sym, ◌∙◌, ap, arith, append_assoc}
use Rattle.std.specs.Prelude.{All, Result, Ok, Err}
use Rattle.std.proofs.lemmas.List.Elements.{All-head, All-tail}
use Rattle.gx_script.specs.declared.Script.{Script}
use Rattle.gx_trace.specs.Lawful.{IsLine}
use Rattle.gx_trace.specs.Shown.{all_places}
use Rattle.gx_trace.specs.declared.seen.Seen.{Seen}
use Rattle.gx_read_trace.specs.FirstBad.{AtEnd, AtLine}
use Rattle.gx_read_trace.specs.FirstBad.{EndsThere, IsFirstBad, feeds, is_feed}
use Rattle.gx_read_trace.specs.ReadText.{read_text}
use Rattle.gx_read_trace.specs.Reading.{HasPlainNames}
use Rattle.gx_read_trace.proofs.Cutting.{first-same, no-feed, others-same}
use Rattle.gx_read_trace.proofs.Deciding.{bad-is, seen-is}
use Rattle.gx_read_trace.proofs.Plain.{NoFeed}

abbrev weight : ℕ → ℕ
weight b = if b == 10 then 1 else 0

counted : (c : Bool) (b : ℕ) (l : List ℕ) → length (if c then b ∷ l else l) ≡ (if c then 1 else 0) + length l
counted true b l = omega arith
counted false b l = omega arith

feeds-head : (b : ℕ) (bs : List ℕ) → feeds (b ∷ bs) ≡ weight b + feeds bs
feeds-head b bs = counted (b == 10) b (filter is_feed bs)

none-fed : feeds [] ≡ 0
none-fed = omega arith

feeds-app : (xs ys : List ℕ) → feeds (xs ++ ys) ≡ feeds xs + feeds ys
feeds-app [] ys = omega (arith, none-fed)
feeds-app (b ∷ bs) ys = omega (arith, feeds-head b (bs ++ ys), feeds-head b bs, feeds-app bs ys)

feeds-none : (l : List ℕ) → IsLine l → feeds l ≡ 0
feeds-none [] a = none-fed
feeds-none (b ∷ bs) a =
    let light : weight b ≡ 0 = ap (λ c. if c then 1 else 0) (no-feed b (All-head NoFeed b bs a)) in
    omega (arith, feeds-head b bs, light, feeds-none bs (All-tail NoFeed b bs a))

-- of two fronts of the same bytes the one with more feeds goes past the next feed
front-of : (a b r s : List ℕ) → a ++ (10 ∷ r) ≡ b ++ s → feeds a < feeds b → (t : List ℕ) × (b ≡ a ++ (10 ∷ t))
front-of [] [] r s e more = absurd (omega (arith, more))
front-of (x ∷ xs) [] r s e more = absurd (omega (arith, more, none-fed))
front-of [] (y ∷ ys) r s e more = (ys, ap (λ x. x ∷ ys) (sym (first-same 10 y r (ys ++ s) e)))
front-of (x ∷ xs) (y ∷ ys) r s e more =
    let same : x ≡ y = first-same x y (xs ++ (10 ∷ r)) (ys ++ s) e in
    let less : feeds xs < feeds ys = omega (arith, more, feeds-head x xs, feeds-head y ys, ap weight same) in
    let (t, rest) = front-of xs ys r s (others-same x y (xs ++ (10 ∷ r)) (ys ++ s) e) less in
    (t, (λ i. sym same i ∷ rest i))

regroup : (a l f t o : List ℕ) → ((a ++ l) ++ (f ++ t)) ++ o ≡ (a ++ (l ++ f)) ++ (t ++ o)
regroup a l f t o = simp append_assoc

gathered : (a l f m : List ℕ) → a ++ (l ++ (f ++ m)) ≡ (a ++ (l ++ f)) ++ m
gathered a l f m = simp append_assoc

-- none is later than another
none-later : (script : Script) (bytes : List ℕ) (j k : ℕ) → IsFirstBad script bytes j → IsFirstBad script bytes k → j < k → ⊥
none-later script bytes j k a b less = by a.ends
  where
    by : EndsThere script a.front a.rest → ⊥
    by (AtLine line more stands is none) =
        let whole : (a.front ++ line) ++ (10 ∷ more) ≡ b.front ++ b.rest = append_assoc a.front line (10 ∷ more) ∙ ap (λ z. a.front ++ z) (sym stands) ∙ sym a.parts ∙ b.parts in
        let (t, goes) = front-of (a.front ++ line) b.front more b.rest whole (omega (arith, less, a.at, b.at, feeds-app a.front line, feeds-none line is)) in
        none (record {
          seen = b.begins.seen;
          others = t ++ b.begins.others;
          is = b.begins.is;
          text = b.begins.text ∙ ap (λ z. z ++ b.begins.others) goes ∙ regroup a.front line (10 ∷ []) t b.begins.others;
        })
    by (AtEnd is none) =
        let all : feeds a.front + feeds a.rest ≡ feeds b.front + feeds b.rest = sym (feeds-app a.front a.rest) ∙ ap feeds (sym a.parts ∙ b.parts) ∙ feeds-app b.front b.rest in
        omega (arith, less, a.at, b.at, all, feeds-none a.rest is)

same-number : (j k : ℕ) → (j < k → ⊥) → (k < j → ⊥) → j ≡ k
same-number j k a b = by (nat_lt j k) refl (nat_lt k j) refl
  where
    by : (c : Bool) → nat_lt j k ≡ c → (d : Bool) → nat_lt k j ≡ d → j ≡ k
    by true e d f = absurd (a (grind (arith, e)))
    by false e true f = absurd (b (grind (arith, f)))
    by false e false f = grind (arith, e, f)

pub is-bad : (script : Script) → HasPlainNames script → All (λ (p : ℕ × ℕ). p.1 < 2 ^ 32) (all_places script.lines 0 script.sessions)
    → (bytes : List ℕ) (k : ℕ) → IsFirstBad script bytes k → read_text script bytes ≡ Err k
is-bad script names small bytes k bad = by (read_text script bytes) refl
  where
    none-seen : (s : Seen) → read_text script bytes ≡ Ok s → EndsThere script bad.front bad.rest → ⊥
    none-seen s e (AtLine line more stands is none) =
        let (lawful, same) = seen-is script names small bytes s e in
        none (record { seen = s; others = more; is = lawful; text = sym same ∙ bad.parts ∙ ap (λ z. bad.front ++ z) stands ∙ gathered bad.front line (10 ∷ []) more })
    none-seen s e (AtEnd is none) =
        let (lawful, same) = seen-is script names small bytes s e in
        none s lawful (sym bad.parts ∙ same)

    by : (r : Result Seen ℕ) → read_text script bytes ≡ r → r ≡ Err k
    by (Ok s) e = absurd (none-seen s e bad.ends)
    by (Err j) e =
        let other = bad-is script names small bytes j e in
        ap Err (same-number j k (none-later script bytes j k other bad) (none-later script bytes k j bad other))
