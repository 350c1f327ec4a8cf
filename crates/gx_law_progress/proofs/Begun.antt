-- No more transactions begin than the script has lines.
use Rattle.std.proofs.Common.{◌≡◌, ◌⊎◌, inl, inr, ◌≤◌, ℕ, suc, ◌+◌, ◌==◌, ◌||◌, Bool, true, false, if◌then◌else◌, List, [], ◌∷◌, ◌++◌, length, refl, sym, ap, ◌∙◌, subst, append_assoc, arith}
use Rattle.std.proofs.lemmas.Bool.{eqb-true}
use Rattle.gx_ids.specs.declared.ids.Gxid.{Gxid}
use Rattle.gx_ids.specs.declared.ids.SessionId.{SessionId}
use Rattle.gx_script.specs.declared.Line.{Line}
use Rattle.gx_script.specs.declared.Script.{Script}
use Rattle.gx_lemmas.proofs.Numbers.{eqb-self, one-le-none}
use Rattle.gx_lemmas.proofs.Tests.{true-false}
use Rattle.gx_store.specs.declared.answer.StmtAnswer.{StmtAnswer}
use Rattle.gx_store.specs.declared.event.Event.{Event}
use Rattle.gx_store.specs.declared.event.Event.TheVariants as event
use Rattle.gx_store.specs.declared.mark.Mark.{Mark}
use Rattle.gx_store.specs.declared.mark.Mark.TheVariants.{Answer, Start}
use Rattle.gx_store.specs.declared.run.Step.{Step}
use Rattle.gx_store.specs.Language.{AreLinesNumbered}
use Rattle.gx_store.specs.Legal.{AreLegalMarks, AreLegalSteps, LegalMark}
use Rattle.gx_store.specs.Lines.{line_count}
use Rattle.gx_store.specs.Marks.{answer_count, is_begun, is_begun_after, is_same_session, start_count}
use Rattle.gx_store.specs.Points.{Point, marks_in, starts_at, starts_by, starts_in}
use Rattle.gx_store.proofs.Marks.{answer_count-append, is_begun_after-append}
use Rattle.gx_law_groups.proofs.Marks.{start_count-append}
use Rattle.gx_law_order.specs.Rest.{AreEventsLegal}
use Rattle.gx_law_runs.proofs.Started.{starts-counted}

-- HOW OFTEN A NUMBER STANDS IN A LIST
abbrev times : ℕ → List ℕ → ℕ
times k [] = 0
times k (x ∷ xs) = if x == k then times k xs + 1 else times k xs

least : (a : ℕ) → 0 ≤ a
least a = omega arith

-- one that is there is taken out
record Without (k : ℕ) (ys : List ℕ) : Type 0 where
  rest : List ℕ
  shorter : length ys ≡ length rest + 1
  others : (j : ℕ) → times j ys ≡ (if k == j then times j rest + 1 else times j rest)

without : (k : ℕ) (ys : List ℕ) → 1 ≤ times k ys → Without k ys
without k [] l = absurd (one-le-none l)
without k (y ∷ ys) l = by_test (y == k) refl l (without k ys)
  where
    one : (a : ℕ) → suc a ≡ a + 1
    one a = omega arith

    two : (a b : ℕ) → a ≡ b + 1 → suc a ≡ suc b + 1
    two a b e = omega arith

    swap : (b c : Bool) (n t : ℕ) → n ≡ (if c then t + 1 else t) → (if b then n + 1 else n) ≡ (if c then (if b then t + 1 else t) + 1 else (if b then t + 1 else t))
    swap true true n t e = ap (λ x. x + 1) e
    swap true false n t e = ap (λ x. x + 1) e
    swap false true n t e = e
    swap false false n t e = e

    by_test : (b : Bool) → (y == k) ≡ b → 1 ≤ (if b then times k ys + 1 else times k ys) → (1 ≤ times k ys → Without k ys) → Without k (y ∷ ys)
    by_test true e h f = record { rest = ys; shorter = one (length ys); others = λ j. ap (λ x. if x == j then times j ys + 1 else times j ys) (eqb-true y k e) }
    by_test false e h f =
        let w = f h in
        record { rest = y ∷ w.rest; shorter = two (length ys) (length w.rest) w.shorter; others = λ j. swap (y == j) (k == j) (times j ys) (times j w.rest) (w.others j) }

-- a list with each number no more often is no longer
no-longer : (xs ys : List ℕ) → ((k : ℕ) → times k xs ≤ times k ys) → length xs ≤ length ys
no-longer [] ys f = least (length ys)
no-longer (x ∷ xs) ys f =
    let w = without x ys (first (x == x) (eqb-self x) (f x)) in
    longer (length xs) (length w.rest) (length ys) w.shorter (no-longer xs w.rest (λ k. fewer (x == k) (times k xs) (times k w.rest) (times k ys) (w.others k) (f k)))
  where
    some : (a b : ℕ) → a + 1 ≤ b → 1 ≤ b
    some a b l = omega arith

    first : (b : Bool) → b ≡ true → (if b then times x xs + 1 else times x xs) ≤ times x ys → 1 ≤ times x ys
    first true e l = some (times x xs) (times x ys) l
    first false e l = absurd (true-false false e refl)

    longer : (a b c : ℕ) → c ≡ b + 1 → a ≤ b → suc a ≤ c
    longer a b c e l = omega arith

    fewer : (b : Bool) (n t m : ℕ) → m ≡ (if b then t + 1 else t) → (if b then n + 1 else n) ≤ m → n ≤ t
    fewer true n t m e l = omega arith
    fewer false n t m e l = omega arith

-- LINES AND STARTS
-- whose lines were started, one for each
abbrev started_then : Event → List ℕ → List ℕ
started_then (event.Start session) rest = session.0 ∷ rest
started_then _ rest = rest

abbrev started : List Step → List ℕ
started [] = []
started (s ∷ ss) = started_then s.event (started ss)

abbrev homes : List Line → List ℕ
homes [] = []
homes (l ∷ ls) = l.session.0 ∷ homes ls

times-started : (k : SessionId) (ss : List Step) → times k.0 (started ss) ≡ starts_in k ss
times-started k [] = refl
times-started k (s ∷ ss) = by_event s.event (times-started k ss)
  where
    bumped : (b : Bool) (n t : ℕ) → n ≡ t → (if b then n + 1 else n) ≡ (if b then 1 else 0) + t
    bumped true n t e = omega arith
    bumped false n t e = omega arith

    none : (n t : ℕ) → n ≡ t → n ≡ 0 + t
    none n t e = omega arith

    by_event : (e : Event) → times k.0 (started ss) ≡ starts_in k ss → times k.0 (started_then e (started ss)) ≡ starts_by k e + starts_in k ss
    by_event (event.Start session) h = bumped (session.0 == k.0) (times k.0 (started ss)) (starts_in k ss) h
    by_event e h = none (times k.0 (started ss)) (starts_in k ss) h

times-homes : (k : SessionId) (ls : List Line) → times k.0 (homes ls) ≡ line_count k ls
times-homes k [] = refl
times-homes k (l ∷ ls) = ap (λ n. if l.session.0 == k.0 then n + 1 else n) (times-homes k ls)

length-homes : (ls : List Line) → length (homes ls) ≡ length ls
length-homes [] = refl
length-homes (l ∷ ls) = ap suc (length-homes ls)

legal-events : (script : Script) (before ss : List Step) → AreLegalSteps script before ss → AreEventsLegal script before ss
legal-events script before [] legal = tt
legal-events script before (s ∷ ss) legal = (legal.0.event, legal-events script (before ++ s ∷ []) ss legal.1)

starts-few : (script : Script) → AreLinesNumbered [] script.lines → (steps : List Step) → AreLegalSteps script [] steps → length (started steps) ≤ length script.lines
starts-few script numbered steps legal = subst (λ n. length (started steps) ≤ n) (length-homes script.lines) (no-longer (started steps) (homes script.lines) each)
  where
    each : (k : ℕ) → times k (started steps) ≤ times k (homes script.lines)
    each k =
        let s : SessionId = record { 0 = k } in
        subst (λ n. n ≤ times k (homes script.lines)) (sym (times-started s steps))
        (subst (λ n. starts_in s steps ≤ n) (sym (times-homes s script.lines)) (starts-counted script numbered s [] steps (legal-events script [] steps legal) (least (line_count s script.lines))))

-- ONE TRANSACTION A START
abbrev is_start : Event → Bool
is_start (event.Start session) = true
is_start _ = false

module _ (script : Script) (steps : List Step) where
  abbrev told : List Mark → List Mark
  told earlier = marks_in steps ++ earlier

  none-begun : (e : Event) (earlier ms later : List Mark) → AreLegalMarks script steps e earlier ms later → is_start e ≡ false → start_count ms ≡ 0
  none-begun e earlier [] later legal other = refl
  none-begun e earlier (Start h s ∷ ms) later legal other = absurd (true-false (is_start e) (ap is_start legal.0.event) other)
  none-begun e earlier (m ∷ ms) later legal other = none-begun e (earlier ++ m ∷ []) ms later legal.1 other

  module _ (k : SessionId) where
    abbrev at : List Mark → List Mark → Point
    at earlier later = record { steps = steps; event = event.Start k; earlier = earlier; later = later }

    abbrev begun_count : ℕ
    begun_count = starts_in k steps + starts_by k (event.Start k)

    -- the session has begun a transaction since its last answer, or is answered
    abbrev IsSpent : List Mark → Type 0
    IsSpent earlier = (is_begun k (told earlier) ≡ true) ⊎ (begun_count ≤ answer_count k (told earlier))

    next-told : (earlier : List Mark) (m : Mark) → told (earlier ++ m ∷ []) ≡ told earlier ++ m ∷ []
    next-told earlier m = sym (append_assoc (marks_in steps) earlier (m ∷ []))

    begun-next : (earlier : List Mark) (m : Mark) → is_begun k (told (earlier ++ m ∷ [])) ≡ is_begun_after k (is_begun k (told earlier)) (m ∷ [])
    begun-next earlier m = ap (is_begun k) (next-told earlier m) ∙ is_begun_after-append k false (told earlier) (m ∷ [])

    answers-next : (earlier : List Mark) (m : Mark) → answer_count k (told (earlier ++ m ∷ [])) ≡ answer_count k (told earlier) + answer_count k (m ∷ [])
    answers-next earlier m = ap (answer_count k) (next-told earlier m) ∙ answer_count-append k (told earlier) (m ∷ [])

    wider : (a b c d : ℕ) → d ≡ b + c → a ≤ b → a ≤ d
    wider a b c d e l = omega arith

    -- a mark that begins and answers nothing
    quiet : (earlier : List Mark) (m : Mark) → ((b : Bool) → is_begun_after k b (m ∷ []) ≡ b) → IsSpent earlier → IsSpent (earlier ++ m ∷ [])
    quiet earlier m same (inl b) = inl (begun-next earlier m ∙ same (is_begun k (told earlier)) ∙ b)
    quiet earlier m same (inr l) = inr (wider begun_count (answer_count k (told earlier)) (answer_count k (m ∷ [])) _ (answers-next earlier m) l)

    answered : (earlier later : List Mark) (s : SessionId) (n : ℕ) (a : StmtAnswer) → LegalMark script (at earlier later) (Answer s n a) → IsSpent earlier → IsSpent (earlier ++ Answer s n a ∷ [])
    answered earlier later s n a legal (inr l) = inr (wider begun_count (answer_count k (told earlier)) (answer_count k (Answer s n a ∷ [])) _ (answers-next earlier (Answer s n a)) l)
    answered earlier later s n a legal (inl b) = by_test (is_same_session s k) refl
      where
        same : is_same_session s k ≡ true → s ≡ k
        same e = ap (λ (x : ℕ). let y : SessionId = record { 0 = x } in y) (eqb-true s.0 k.0 e)

        one-more : (a b d : ℕ) → a ≡ b + 1 → d ≡ b + (0 + 1) → a ≤ d
        one-more a b d e f = omega arith

        by_test : (t : Bool) → is_same_session s k ≡ t → IsSpent (earlier ++ Answer s n a ∷ [])
        by_test true e =
            inr (one-more begun_count (answer_count k (told earlier)) _
            (subst (λ (x : SessionId). starts_at x (at earlier later) ≡ answer_count x (told earlier) + 1) (same e) legal.runs.started)
            (answers-next earlier (Answer s n a) ∙ ap (λ (t : Bool). answer_count k (told earlier) + (if t then 0 + 1 else 0)) e))
        by_test false e = inl (begun-next earlier (Answer s n a) ∙ ap (λ (t : Bool). if t then false else is_begun k (told earlier)) e ∙ b)

    its : (h : Gxid) (s : SessionId) (earlier later : List Mark) → LegalMark script (at earlier later) (Start h s) → k ≡ s
    its h s earlier later legal = same legal.event
      where
        same : event.Start k ≡ event.Start s → k ≡ s
        same e = cc

    taken : (h : Gxid) (s : SessionId) (earlier later : List Mark) → LegalMark script (at earlier later) (Start h s) → IsSpent earlier → ⊥
    taken h s earlier later legal (inl b) = true-false (is_begun k (told earlier)) b (subst (λ (x : SessionId). is_begun x (told earlier) ≡ false) (sym (its h s earlier later legal)) legal.once)
    taken h s earlier later legal (inr l) =
        no begun_count (answer_count k (told earlier)) l (subst (λ (x : SessionId). starts_at x (at earlier later) ≡ answer_count x (told earlier) + 1) (sym (its h s earlier later legal)) legal.runs.started)
      where
        no : (a b : ℕ) → a ≤ b → a ≡ b + 1 → ⊥
        no a b l e = omega arith

    none-more : (earlier ms later : List Mark) → AreLegalMarks script steps (event.Start k) earlier ms later → IsSpent earlier → start_count ms ≡ 0
    none-more earlier [] later legal spent = refl
    none-more earlier (Start h s ∷ ms) later legal spent = absurd (taken h s earlier (ms ++ later) legal.0 spent)
    none-more earlier (Answer s n a ∷ ms) later legal spent = none-more (earlier ++ Answer s n a ∷ []) ms later legal.1 (answered earlier (ms ++ later) s n a legal.0 spent)
    none-more earlier (m ∷ ms) later legal spent = none-more (earlier ++ m ∷ []) ms later legal.1 (quiet earlier m (λ b. refl) spent)

    one-begun : (earlier ms later : List Mark) → AreLegalMarks script steps (event.Start k) earlier ms later → start_count ms ≤ 1
    one-begun earlier [] later legal = least 1
    one-begun earlier (Start h s ∷ ms) later legal = one (start_count ms) (none-more (earlier ++ Start h s ∷ []) ms later legal.1 (inl begun))
      where
        one : (a : ℕ) → a ≡ 0 → a + 1 ≤ 1
        one a e = omega arith

        begun : is_begun k (told (earlier ++ Start h s ∷ [])) ≡ true
        begun =
            begun-next earlier (Start h s)
            ∙ ap (λ (x : SessionId). is_same_session x k || is_begun k (told earlier)) (sym (its h s earlier (ms ++ later) legal.0))
            ∙ ap (λ b. b || is_begun k (told earlier)) (eqb-self k.0)
    one-begun earlier (m ∷ ms) later legal = one-begun (earlier ++ m ∷ []) ms later legal.1

begun-started : (script : Script) (before ss : List Step) → AreLegalSteps script before ss → start_count (marks_in ss) ≤ length (started ss)
begun-started script before [] legal = least 0
begun-started script before (s ∷ ss) legal =
    subst (λ n. n ≤ length (started (s ∷ ss))) (sym (start_count-append s.marks (marks_in ss))) (by_event s.event legal.0.marks (begun-started script (before ++ s ∷ []) ss legal.1))
  where
    none : (a b c : ℕ) → a ≡ 0 → b ≤ c → a + b ≤ c
    none a b c e l = omega arith

    one : (a b c : ℕ) → a ≤ 1 → b ≤ c → a + b ≤ suc c
    one a b c e l = omega arith

    by_event : (e : Event) → AreLegalMarks script before e [] s.marks [] → start_count (marks_in ss) ≤ length (started ss) → start_count s.marks + start_count (marks_in ss) ≤ length (started_then e (started ss))
    by_event (event.Start k) l rest = one (start_count s.marks) (start_count (marks_in ss)) (length (started ss)) (one-begun script before k [] s.marks [] l) rest
    by_event e l rest = none (start_count s.marks) (start_count (marks_in ss)) (length (started ss)) (none-begun script before e [] s.marks [] l refl) rest

pub begun-few : (script : Script) → AreLinesNumbered [] script.lines → (steps : List Step) → AreLegalSteps script [] steps → start_count (marks_in steps) ≤ length script.lines
begun-few script numbered steps legal = both (start_count (marks_in steps)) (length (started steps)) (length script.lines) (begun-started script [] steps legal) (starts-few script numbered steps legal)
  where
    both : (a b c : ℕ) → a ≤ b → b ≤ c → a ≤ c
    both a b c l h = omega arith
