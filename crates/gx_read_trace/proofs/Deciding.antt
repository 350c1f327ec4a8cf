-- Bytes are read as what they show, or the first line is named with which no text goes on.
use Rattle.std.proofs.Common.{◌≡◌, ℕ, ◌+◌, ◌^◌, ◌<◌, List, [], ◌∷◌, ◌++◌, length, Option, Some, None, refl, sym, ◌∙◌, ap, subst, arith, append_assoc, append-nil}
use Rattle.std.specs.Prelude.{All, Result, Ok, Err, option_and_then}
use Rattle.std.proofs.lemmas.List.Elements.{All-head, All-nil, All-tail}
use Rattle.std.proofs.lemmas.Option.{none-some, same_Some}
use Rattle.gx_script.specs.declared.Script.{Script}
use Rattle.gx_trace.specs.Lawful.{IsLine}
use Rattle.gx_trace.specs.Shown.{IsShown, all_places}
use Rattle.gx_trace.specs.ShownText.{shown_text}
use Rattle.gx_trace.specs.declared.seen.Seen.{Seen}
use Rattle.gx_read_trace.specs.FirstBad.{BeginsText, IsFirstBad}
use Rattle.gx_read_trace.specs.FirstBad.{AtEnd, AtLine}
use Rattle.gx_read_trace.specs.Lines.{fed, fed_line, seen_lines}
use Rattle.gx_read_trace.specs.Machine.{Mid, ended, next_line, run, start}
use Rattle.gx_read_trace.specs.ReadText.{cut, read_lines, read_text, told}
use Rattle.gx_read_trace.specs.Reading.{AreTaken, HasPlainNames}
use Rattle.gx_read_trace.proofs.Cutting.{cut-is, feeds-lines, front-lines, same-parts}
use Rattle.gx_read_trace.proofs.Ending.{begins, on-behind, taken}
use Rattle.gx_read_trace.proofs.Feedless.{lines-plain}
use Rattle.gx_read_trace.proofs.Longer.{all-more, length-more}
use Rattle.gx_read_trace.proofs.Stays.{read-back}
use Rattle.gx_read_trace.proofs.Texts.{fed-append, lines-are-text}
use Rattle.gx_read_trace.proofs.Written.{written}

err-ok : {A E : Type 0} (e : E) (a : A) → ◌≡◌ {A = Result A E} (Err e) (Ok a) → ⊥
err-ok e a same = cc

same-ok : {A E : Type 0} (a b : A) → ◌≡◌ {A = Result A E} (Ok a) (Ok b) → a ≡ b
same-ok a b e = cc

same-err : {A E : Type 0} (a b : E) → ◌≡◌ {A = Result A E} (Err a) (Err b) → a ≡ b
same-err a b e = cc

told-ok : (n : ℕ) (left : List ℕ) (o : Option Seen) (s : Seen) → told n left o ≡ Ok s → (left ≡ []) × (o ≡ Some s)
told-ok n [] None s e = absurd (err-ok n s e)
told-ok n [] (Some t) s e = (refl, ap Some (same-ok t s e))
told-ok n (b ∷ bs) o s e = absurd (err-ok n s e)

told-err : (n : ℕ) (left : List ℕ) (o : Option Seen) (k : ℕ) → told n left o ≡ Err k → n ≡ k
told-err n [] None k e = same-err n k e
told-err n [] (Some t) k e = absurd (err-ok k t (sym e))
told-err n (b ∷ bs) o k e = same-err n k e

module _ (script : Script) (names : HasPlainNames script) (small : All (λ (p : ℕ × ℕ). p.1 < 2 ^ 32) (all_places script.lines 0 script.sessions)) where
  plain : (s : Seen) → IsShown script s → All IsLine (seen_lines script s)
  plain s is = lines-plain script s names.sessions names.tables small is

  -- SEEN
  record IsSeenBehind (ls : List (List ℕ)) (left : List ℕ) (o : Option Mid) (s : Seen) : Type 0 where
    pub first : Mid
    pub is : o ≡ Some first
    pub last : Mid
    pub leads : run script ls first ≡ Some last
    pub all : ended last.so_far last.next ≡ Some s
    pub none : left ≡ []

  seen-behind : (ls : List (List ℕ)) (left : List ℕ) (n : ℕ) (o : Option Mid) (s : Seen) → read_lines script n ls left o ≡ Ok s → IsSeenBehind ls left o s
  seen-behind [] left n None s e = absurd (err-ok n s e)
  seen-behind (l ∷ ls) left n None s e = absurd (err-ok n s e)
  seen-behind [] left n (Some m) s e = let (none, all) = told-ok (n + 1) left (ended m.so_far m.next) s e in record { first = m; is = refl; last = m; leads = refl; all = all; none = none }
  seen-behind (l ∷ ls) left n (Some m) s e =
      let r = seen-behind ls left (n + 1) (next_line script m.so_far m.next l) s e in
      record { first = m; is = refl; last = r.last; leads = ap (option_and_then (run script ls)) r.is ∙ r.leads; all = r.all; none = r.none }

  pub seen-is : (bytes : List ℕ) (s : Seen) → read_text script bytes ≡ Ok s → IsShown script s × (bytes ≡ shown_text script s)
  seen-is bytes s e =
      let (parts, lines, left) = cut-is bytes in
      let r = seen-behind (cut bytes).0 (cut bytes).1 0 (Some (start script)) s e in
      let leads : run script (cut bytes).0 (start script) ≡ Some r.last = ap (λ m. run script (cut bytes).0 m) (same_Some (start script) r.first r.is) ∙ r.leads in
      let (lawful, same) = read-back script (cut bytes).0 r.last s small leads r.all in
      (lawful, sym parts ∙ (λ i. fed (same i) ++ r.none i) ∙ append-nil (fed (seen_lines script s)) ∙ lines-are-text script s lawful)

  leads-ok : (ls : List (List ℕ)) (n : ℕ) (m last : Mid) (s : Seen) → run script ls m ≡ Some last → ended last.so_far last.next ≡ Some s → read_lines script n ls [] (Some m) ≡ Ok s
  leads-ok [] n m last s e all = ap (told (n + 1) []) (ap (λ (x : Mid). ended x.so_far x.next) (same_Some m last e) ∙ all)
  leads-ok (l ∷ ls) n m last s e all = by (next_line script m.so_far m.next l) e (λ k q. leads-ok ls (n + 1) k last s q all)
    where
      by : (o : Option Mid) → option_and_then (run script ls) o ≡ Some last → ((k : Mid) → run script ls k ≡ Some last → read_lines script (n + 1) ls [] (Some k) ≡ Ok s) → read_lines script (n + 1) ls [] o ≡ Ok s
      by None q rest = absurd (none-some last q)
      by (Some k) q rest = rest k q

  pub is-seen : (bytes : List ℕ) (s : Seen) → IsShown script s → bytes ≡ shown_text script s → read_text script bytes ≡ Ok s
  is-seen bytes s is same =
      let (parts, lines, left) = cut-is bytes in
      let (a, b) = same-parts (cut bytes).0 (seen_lines script s) (cut bytes).1 lines (plain s is) left (parts ∙ same ∙ sym (lines-are-text script s is)) in
      let (last, leads, tells) = written script s is small in
      (λ i. read_lines script 0 (a i) (b i) (Some (start script))) ∙ leads-ok (seen_lines script s) 0 (start script) last s leads tells

  -- THE FIRST BAD LINE
  begins-text : (ls : List (List ℕ)) → AreTaken script ls → BeginsText script (fed ls)
  begins-text ls at =
      let text = begins script ls small at in
      record { seen = text.seen; others = fed text.others; is = text.is; text = sym (lines-are-text script text.seen text.is) ∙ ap fed text.parts ∙ fed-append ls text.others }

  lines-taken : (ls : List (List ℕ)) (front : List ℕ) → All IsLine ls → front ≡ fed ls → BeginsText script front → AreTaken script ls
  lines-taken ls front all same text =
      let (zs, parts) = front-lines (seen_lines script text.seen) ls text.others (plain text.seen text.is) all (lines-are-text script text.seen text.is ∙ text.text ∙ ap (λ x. x ++ text.others) same) in
      taken script ls small (record { seen = text.seen; others = zs; is = text.is; parts = parts })

  one-taken : (ls : List (List ℕ)) (l : List ℕ) (m : Mid) → run script ls (start script) ≡ Some m → run script (ls ++ l ∷ []) (start script) ≡ next_line script m.so_far m.next l
  one-taken ls l m e = on-behind script ls (l ∷ []) (start script) m e ∙ by (next_line script m.so_far m.next l)
    where
      by : (o : Option Mid) → option_and_then (run script []) o ≡ o
      by None = refl
      by (Some k) = refl

  fed-one : (ls : List (List ℕ)) (l : List ℕ) → fed ls ++ (l ++ 10 ∷ []) ≡ fed (ls ++ l ∷ [])
  fed-one ls l = ap (λ z. fed ls ++ z) (sym (append-nil (fed_line l))) ∙ sym (fed-append ls (l ∷ []))

  bad-at-end : (left : List ℕ) (before : List (List ℕ)) (m : Mid) (n k : ℕ) → All IsLine before → IsLine left → n ≡ length before → run script before (start script) ≡ Some m
      → told (n + 1) left (ended m.so_far m.next) ≡ Err k → IsFirstBad script (fed before ++ left) k
  bad-at-end left before m n k all line count at e = record {
    front = fed before;
    rest = left;
    parts = refl;
    at = ap (λ j. j + 1) (feeds-lines before all ∙ sym count) ∙ told-err (n + 1) left (ended m.so_far m.next) k e;
    begins = begins-text before (record { state = m; leads = at });
    ends = AtEnd line none;
  }
    where
      none : (s : Seen) → IsShown script s → fed before ++ left ≡ shown_text script s → ⊥
      none s is same =
          let (a, b) = same-parts before (seen_lines script s) left all (plain s is) line (same ∙ sym (lines-are-text script s is)) in
          let (last, leads, tells) = written script s is small in
          let here : m ≡ last = same_Some m last (sym at ∙ ap (λ ls. run script ls (start script)) a ∙ leads) in
          let all_is : ended m.so_far m.next ≡ Some s = ap (λ (x : Mid). ended x.so_far x.next) here ∙ tells in
          err-ok k s (sym e ∙ (λ i. told (n + 1) (b i) (all_is i)))

  bad-at-line : (l : List ℕ) (more : List ℕ) (before : List (List ℕ)) (m : Mid) (n k : ℕ) → All IsLine before → IsLine l → n ≡ length before → run script before (start script) ≡ Some m
      → next_line script m.so_far m.next l ≡ None → n + 1 ≡ k → IsFirstBad script (fed before ++ (l ++ 10 ∷ more)) k
  bad-at-line l more before m n k all line count at stops e = record {
    front = fed before;
    rest = l ++ 10 ∷ more;
    parts = refl;
    at = ap (λ j. j + 1) (feeds-lines before all ∙ sym count) ∙ e;
    begins = begins-text before (record { state = m; leads = at });
    ends = AtLine l more refl line none;
  }
    where
      none : BeginsText script (fed before ++ (l ++ 10 ∷ [])) → ⊥
      none text =
          let on = lines-taken (before ++ l ∷ []) (fed before ++ (l ++ 10 ∷ [])) (all-more IsLine before l all line) (fed-one before l) text in
          none-some on.state (sym stops ∙ sym (one-taken before l m at) ∙ on.leads)

  bad-behind : (ls : List (List ℕ)) (left : List ℕ) (before : List (List ℕ)) (m : Mid) (n k : ℕ) → All IsLine before → All IsLine ls → IsLine left → n ≡ length before
      → run script before (start script) ≡ Some m → read_lines script n ls left (Some m) ≡ Err k → IsFirstBad script (fed before ++ (fed ls ++ left)) k
  bad-behind [] left before m n k all lines line count at e = bad-at-end left before m n k all line count at e
  bad-behind (l ∷ ls) left before m n k all lines line count at e =
      by (next_line script m.so_far m.next l) refl e
      (λ q on rest. bad-behind ls left (before ++ l ∷ []) q (n + 1) k (all-more IsLine before l all (All-head IsLine l ls lines)) (All-tail IsLine l ls lines) line (omega (arith, count, length-more before l)) on rest)
    where
      whole : fed (before ++ l ∷ []) ++ (fed ls ++ left) ≡ fed before ++ (fed (l ∷ ls) ++ left)
      whole = ap (λ z. z ++ (fed ls ++ left)) (sym (fed-one before l)) ∙ append_assoc (fed before) (l ++ 10 ∷ []) (fed ls ++ left) ∙ ap (λ z. fed before ++ z) (sym (append_assoc (l ++ 10 ∷ []) (fed ls) left))

      here : l ++ 10 ∷ (fed ls ++ left) ≡ fed (l ∷ ls) ++ left
      here = sym (append_assoc l (10 ∷ []) (fed ls ++ left)) ∙ sym (append_assoc (l ++ 10 ∷ []) (fed ls) left)

      by : (o : Option Mid) → next_line script m.so_far m.next l ≡ o → read_lines script (n + 1) ls left o ≡ Err k
          → ((q : Mid) → run script (before ++ l ∷ []) (start script) ≡ Some q → read_lines script (n + 1) ls left (Some q) ≡ Err k → IsFirstBad script (fed (before ++ l ∷ []) ++ (fed ls ++ left)) k)
          → IsFirstBad script (fed before ++ (fed (l ∷ ls) ++ left)) k
      by None stops q rest =
          subst (λ z. IsFirstBad script (fed before ++ z) k) here (bad-at-line l (fed ls ++ left) before m n k all (All-head IsLine l ls lines) count at stops (same-err (n + 1) k (sym (stopped ls) ∙ q)))
        where
          stopped : (ms : List (List ℕ)) → read_lines script (n + 1) ms left None ≡ Err (n + 1)
          stopped [] = refl
          stopped (x ∷ xs) = refl
      by (Some p) goes q rest = subst (λ z. IsFirstBad script z k) whole (rest p (one-taken before l m at ∙ goes) q)

  pub bad-is : (bytes : List ℕ) (k : ℕ) → read_text script bytes ≡ Err k → IsFirstBad script bytes k
  bad-is bytes k e =
      let (parts, lines, left) = cut-is bytes in
      subst (λ z. IsFirstBad script z k) parts (bad-behind (cut bytes).0 (cut bytes).1 [] (start script) 0 k (All-nil IsLine) lines left refl refl e)
