-- Reading on from answer to answer, and from session to session.
use Rattle.std.proofs.Common.{◌≡◌, ◌≢◌, ℕ, zero, suc, ◌+◌, ◌-◌, ◌<◌, ◌≤◌, ◌==◌, nat_lt, Bool, true, false, if◌then◌else◌, List, [], ◌∷◌, ◌++◌, length, drop, get_or, Some, refl, sym, ◌∙◌, ap, subst, arith}
use Rattle.std.specs.Prelude.{Ok, Err, slice_get, unwrap_or}
use Rattle.std.proofs.lemmas.List.{get_or_past}
use Rattle.std.proofs.Math.Nat.{sub-zero}
use Rattle.gx_ids.specs.declared.ids.SessionId.{SessionId}
use Rattle.gx_report.specs.Words.{session_name}
use Rattle.gx_script.specs.declared.Line.{Line}
use Rattle.gx_script.specs.declared.Script.{Script}
use Rattle.gx_store.specs.Language.{lines_in}
use Rattle.gx_store.specs.declared.answer.StmtAnswer.{StmtAnswer}
use Rattle.gx_trace.specs.Shown.{all_places}
use Rattle.gx_trace.specs.declared.seen.Seen.{Seen}
use Rattle.gx_trace.specs.declared.seen.SeenAnswer.{SeenAnswer}
use Rattle.gx_read_trace.specs.GoingOn.{AddsAnswers, AreCounts, ReadsAnswer, ReadsAnswers, at_answer, at_answers, at_tables, goes, places_from}
use Rattle.gx_read_trace.specs.Machine.{answered, start}
use Rattle.gx_read_trace.specs.Rests.{Rest}
use Rattle.gx_read_trace.specs.declared.fault.TraceFault.{TraceFault}
use Rattle.gx_read_trace.proofs.Onward.{one-less, then-on}

-- the answers of a session so far
abbrev pub SessionSoFar : SessionId → List ℕ → ℕ → Rest → List SeenAnswer → ℕ → Rest → List SeenAnswer → Type 0
SessionSoFar session name count old before at now answers =
    (script : Script) (ps : List (ℕ × ℕ)) → session_name script session ≡ name
    → goes script old (Some (at_answers script before (places_from session.0 1 count ++ ps))) ≡ goes script now (Some (at_answers script answers (places_from session.0 (at + 1) (count - at) ++ ps)))

abbrev pub seen_answer : SessionId → ℕ → StmtAnswer → SeenAnswer
seen_answer session number said = record { session = session; number = number; answer = said }

next-answer : (session : SessionId) (script : Script) (answers : List SeenAnswer) (count at : ℕ) (ps : List (ℕ × ℕ)) → at < count
    → at_answers script answers (places_from session.0 (at + 1) (count - at) ++ ps)
    ≡ at_answer (record { answers = answers; tables = []; steps = [] }) (session.0, at + 1) (places_from session.0 (at + 1 + 1) (count - (at + 1)) ++ ps)
next-answer session script answers count at ps l = ap (λ k. at_answers script answers (places_from session.0 (at + 1) k ++ ps)) (one-less count at l)

pub session_start : (session : SessionId) (name : List ℕ) (count : ℕ) (old : Rest) (before : List SeenAnswer) → SessionSoFar session name count old before 0 old before
session_start session name count old before script ps named = ap (λ k. goes script old (Some (at_answers script before (places_from session.0 1 k ++ ps)))) (sym (sub-zero count))

pub session_more : (session : SessionId) (name : List ℕ) (count : ℕ) (old : Rest) (before : List SeenAnswer) (at : ℕ) (now new : Rest) (answers : List SeenAnswer) (said : StmtAnswer)
    → at < count → SessionSoFar session name count old before at now answers → ReadsAnswer name (at + 1) now new (Ok said)
    → SessionSoFar session name count old before (at + 1) new (answers ++ seen_answer session (at + 1) said ∷ [])
session_more session name count old before at now new answers said l so is script ps named =
    so script ps named ∙ ap (λ m. goes script now (Some m)) (next-answer session script answers count at ps l)
    ∙ is script (record { answers = answers; tables = []; steps = [] }) session.0 (places_from session.0 (at + 1 + 1) (count - (at + 1)) ++ ps) named

pub session_fails : (session : SessionId) (name : List ℕ) (count : ℕ) (old : Rest) (before : List SeenAnswer) (at : ℕ) (now new : Rest) (answers more : List SeenAnswer) (f : TraceFault)
    → at < count → SessionSoFar session name count old before at now answers → ReadsAnswer name (at + 1) now new (Err f) → AddsAnswers session name count old before new more (Err f)
session_fails session name count old before at now new answers more f l so is script ps named =
    let s : Seen = record { answers = answers; tables = []; steps = [] } in
    let rest = places_from session.0 (at + 1 + 1) (count - (at + 1)) ++ ps in
    let p : ℕ × ℕ = (session.0, at + 1) in
    then-on script old now (at_answers script before (places_from session.0 1 count ++ ps)) (at_answer s p rest) new new (λ (said : StmtAnswer). answered script s p said rest) (λ (x : Unit {0}). at_answers script more ps) f
    (so script ps named ∙ ap (λ m. goes script now (Some m)) (next-answer session script answers count at ps l)) (is script s session.0 rest named)

pub session_end : (session : SessionId) (name : List ℕ) (count : ℕ) (old : Rest) (before : List SeenAnswer) (at : ℕ) (now : Rest) (answers : List SeenAnswer) (x : Unit {0})
    → count - at ≡ 0 → SessionSoFar session name count old before at now answers → AddsAnswers session name count old before now answers (Ok x)
session_end session name count old before at now answers x e so script ps named =
    so script ps named ∙ ap (λ k. goes script now (Some (at_answers script answers (places_from session.0 (at + 1) k ++ ps)))) e

-- SESSIONS
pub named_at : (names : List (List ℕ)) (i : ℕ) (name : List ℕ) → i < length names → name ≡ get_or names i name → unwrap_or (slice_get names i) [] ≡ name
named_at [] i name low is = absurd (omega (arith, low))
named_at (n ∷ ns) zero name low is = sym is
named_at (n ∷ ns) (suc i) name low is = named_at ns i name (omega (arith, low)) is

abbrev pub AnswersSoFar : Script → Rest → ℕ → Rest → List SeenAnswer → Type 0
AnswersSoFar script old at now answers = goes script old (Some (start script)) ≡ goes script now (Some (at_answers script answers (all_places script.lines at (drop at script.sessions))))

next-session : (script : Script) (at : ℕ) (name : List ℕ) (count : ℕ) → drop at script.sessions ≡ name ∷ drop (at + 1) script.sessions → count ≡ lines_in at script.lines
    → all_places script.lines at (drop at script.sessions) ≡ places_from at 1 count ++ all_places script.lines (at + 1) (drop (at + 1) script.sessions)
next-session script at name count e c =
    ap (all_places script.lines at) e ∙ ap (λ k. places_from at 1 k ++ all_places script.lines (at + 1) (drop (at + 1) script.sessions)) (sym c)

pub sessions_more : (script : Script) (old : Rest) (at : ℕ) (now new : Rest) (answers more : List SeenAnswer) (name : List ℕ) (count : ℕ) (x : Unit {0})
    → drop at script.sessions ≡ name ∷ drop (at + 1) script.sessions → session_name script (record { 0 = at }) ≡ name → count ≡ lines_in at script.lines
    → AnswersSoFar script old at now answers → AddsAnswers (record { 0 = at }) name count now answers new more (Ok x) → AnswersSoFar script old (at + 1) new more
sessions_more script old at now new answers more name count x e named c so is =
    so ∙ ap (λ ps. goes script now (Some (at_answers script answers ps))) (next-session script at name count e c)
    ∙ is script (all_places script.lines (at + 1) (drop (at + 1) script.sessions)) named

pub sessions_fail : (script : Script) (old : Rest) (at : ℕ) (now new : Rest) (answers more : List SeenAnswer) (name : List ℕ) (count : ℕ) (f : TraceFault)
    → drop at script.sessions ≡ name ∷ drop (at + 1) script.sessions → session_name script (record { 0 = at }) ≡ name → count ≡ lines_in at script.lines
    → AnswersSoFar script old at now answers → AddsAnswers (record { 0 = at }) name count now answers new more (Err f) → ReadsAnswers script old new (Err f)
sessions_fail script old at now new answers more name count f e named c so is =
    let ps = all_places script.lines (at + 1) (drop (at + 1) script.sessions) in
    then-on script old now (start script) (at_answers script answers (places_from at 1 count ++ ps)) new new (λ (x : Unit {0}). at_answers script more ps) (λ (answers : List SeenAnswer). at_tables answers [] script.tables) f
    (so ∙ ap (λ ps. goes script now (Some (at_answers script answers ps))) (next-session script at name count e c)) (is script ps named)

pub sessions_end : (script : Script) (old : Rest) (at : ℕ) (now : Rest) (answers : List SeenAnswer) → drop at script.sessions ≡ [] → AnswersSoFar script old at now answers → ReadsAnswers script old now (Ok answers)
sessions_end script old at now answers e so = so ∙ ap (λ names. goes script now (Some (at_answers script answers (all_places script.lines at names)))) e

-- COUNTS
counted : (k : ℕ) (xs : List Line) (x : Line) → lines_in k (xs ++ x ∷ []) ≡ (if x.session.0 == k then lines_in k xs + 1 else lines_in k xs)
counted k [] x = refl
counted k (y ∷ ys) x = by (y.session.0 == k) (x.session.0 == k) (counted k ys x)
  where
    by : (a b : Bool) → lines_in k (ys ++ x ∷ []) ≡ (if b then lines_in k ys + 1 else lines_in k ys)
        → (if a then lines_in k (ys ++ x ∷ []) + 1 else lines_in k (ys ++ x ∷ []))
        ≡ (if b then (if a then lines_in k ys + 1 else lines_in k ys) + 1 else (if a then lines_in k ys + 1 else lines_in k ys))
    by true true e = ap (λ n. n + 1) e
    by true false e = ap (λ n. n + 1) e
    by false true e = e
    by false false e = e

few : (k : ℕ) (xs : List Line) → lines_in k xs ≤ length xs
few k [] = omega arith
few k (y ∷ ys) = by (y.session.0 == k) (few k ys)
  where
    by : (a : Bool) → lines_in k ys ≤ length ys → (if a then lines_in k ys + 1 else lines_in k ys) ≤ length (y ∷ ys)
    by true l = omega (arith, l)
    by false l = omega (arith, l)

-- a count is below the number of lines
pub count_small : (n : ℕ) (xs : List Line) (counts : List ℕ) (k : ℕ) → AreCounts n xs counts → k < n → get_or counts k 0 ≤ length xs
count_small n xs counts k are l = subst (λ c. c ≤ length xs) (sym (are.each k l)) (few k xs)

-- and so is what stands at any place, where behind the last is nothing
pub count_of : (n : ℕ) (xs : List Line) (counts : List ℕ) (k : ℕ) → AreCounts n xs counts → get_or counts k 0 ≤ length xs
count_of n xs counts k are = by (nat_lt k n) refl
  where
    by : (t : Bool) → nat_lt k n ≡ t → get_or counts k 0 ≤ length xs
    by true e =
        let low : k < n = grind (arith, e) in
        count_small n xs counts k are low
    by false e =
        let high : n ≤ k = grind (arith, e) in
        subst (λ c. c ≤ length xs) (sym (get_or_past counts k 0 (subst (λ m. m ≤ k) (sym are.all) high))) (omega arith)

test : (a b : ℕ) → a ≢ b → (a == b) ≡ false
test a b ne = by (a == b) refl
  where
    by : (t : Bool) → (a == b) ≡ t → t ≡ false
    by true e = absurd (ne (grind (arith, e)))
    by false e = refl

same-test : (a : ℕ) → (a == a) ≡ true
same-test a = grind arith

-- a line more, of a session that counts
pub counts_more : (n : ℕ) (xs : List Line) (x : Line) (counts : List ℕ) → AreCounts n xs counts → x.session.0 < n → (more : List ℕ) → length more ≡ length counts → get_or more x.session.0 0 ≡ get_or counts x.session.0 0 + 1
    → ((k : ℕ) → k ≢ x.session.0 → get_or more k 0 ≡ get_or counts k 0) → AreCounts n (xs ++ x ∷ []) more
counts_more n xs x counts are l more len here elsewhere = record { all = len ∙ are.all; each = λ k less. by k less (x.session.0 == k) refl ∙ sym (counted k xs x) }
  where
    by : (k : ℕ) → k < n → (t : Bool) → (x.session.0 == k) ≡ t → get_or more k 0 ≡ (if x.session.0 == k then lines_in k xs + 1 else lines_in k xs)
    by k less true e =
        let same : x.session.0 ≡ k = grind (arith, e) in
        subst (λ j. get_or more j 0 ≡ get_or counts j 0 + 1) same here ∙ ap (λ c. c + 1) (are.each k less) ∙ ap (λ t. if t then lines_in k xs + 1 else lines_in k xs) (sym e)
    by k less false e =
        let other : k ≢ x.session.0 = λ q. false-true (sym e ∙ ap (λ j. x.session.0 == j) q ∙ same-test x.session.0) in
        elsewhere k other ∙ are.each k less ∙ ap (λ t. if t then lines_in k xs + 1 else lines_in k xs) (sym e)
      where
        false-true : false ≡ true → ⊥
        false-true q = cc

-- a line more, of none of the sessions
pub counts_other : (n : ℕ) (xs : List Line) (x : Line) (counts : List ℕ) → AreCounts n xs counts → n ≤ x.session.0 → AreCounts n (xs ++ x ∷ []) counts
counts_other n xs x counts are l =
    record {
      all = are.all;
      each = λ k less. are.each k less ∙ ap (λ t. if t then lines_in k xs + 1 else lines_in k xs) (sym (test x.session.0 k (λ q. more k less q))) ∙ sym (counted k xs x);
    }
  where
    more : (k : ℕ) → k < n → x.session.0 ≡ k → ⊥
    more k less q = omega (arith, l, less, q)

-- a line more
pub counts_line : (n : ℕ) (xs : List Line) (x : Line) (counts more : List ℕ) → AreCounts n xs counts → length more ≡ length counts → (x.session.0 < length counts → get_or more x.session.0 0 ≡ get_or counts x.session.0 0 + 1)
    → ((k : ℕ) → k ≢ x.session.0 → get_or more k 0 ≡ get_or counts k 0) → AreCounts n (xs ++ x ∷ []) more
counts_line n xs x counts more are len here elsewhere = by (nat_lt x.session.0 n) refl
  where
    by : (t : Bool) → nat_lt x.session.0 n ≡ t → AreCounts n (xs ++ x ∷ []) more
    by true e =
        let low : x.session.0 < n = grind (arith, e) in
        counts_more n xs x counts are low more len (here (subst (λ m. x.session.0 < m) (sym are.all) low)) elsewhere
    by false e = counts_other n xs x more (record { all = len ∙ are.all; each = λ k less. elsewhere k (other k less) ∙ are.each k less }) high
      where
        high : n ≤ x.session.0
        high = grind (arith, e)

        other : (k : ℕ) → k < n → k ≢ x.session.0
        other k less q = omega (arith, high, less, q)
