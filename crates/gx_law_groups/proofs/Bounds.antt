-- Open transactions and slots between steps.
use Rattle.std.proofs.Common.{◌≡◌, ℕ, zero, suc, ◌+◌, ◌<◌, ◌≤◌, ◌==◌, Bool, true, false, cond, ◌||◌, ◌&&◌, List, [], ◌∷◌, ◌++◌, length, map, Option, Some, None, refl, sym, ap, ◌∙◌, subst, arith, append_assoc, append-nil}
use Rattle.std.proofs.lemmas.Bool.Decides.{nat_tests}
use Rattle.std.specs.Prelude.{IsSome, filter, not}
use Rattle.std.specs.List.{list_any, range_with_len}
use Rattle.gx_ids.specs.declared.ids.SessionId.{SessionId}
use Rattle.gx_tree.specs.declared.stmt.Stmt.{Stmt}
use Rattle.gx_script.specs.declared.Line.{Line}
use Rattle.gx_script.specs.declared.Script.{Script}
use Rattle.gx_groups.specs.Slots.{has, is}
use Rattle.gx_groups.specs.Table.{Table, after_ask, asks, holds, may}
use Rattle.gx_groups.specs.Calls.{only_if}
use Rattle.gx_lemmas.proofs.Tests.{and-first, and-second, and-true, or-assoc, or-false}
use Rattle.gx_store.specs.declared.event.Event.{Event}
use Rattle.gx_store.specs.declared.event.Event.TheVariants as event
use Rattle.gx_store.specs.declared.mark.Mark.{Mark}
use Rattle.gx_store.specs.declared.run.Step.{Step}
use Rattle.gx_store.specs.Groups.{all_asking, asking, draws_next, is_to_open, lets, open_in, slots_after}
use Rattle.gx_store.specs.Legal.{LegalEvent}
use Rattle.gx_store.specs.Lines.{BlockState, Failed, InBlock, Outside, next_stmt, state_of}
use Rattle.gx_store.specs.Marks.{answer_count, is_begun, is_same_session, started_after}
use Rattle.gx_store.specs.Points.{marks_in, starts_by, starts_in}
use Rattle.gx_store.specs.Schedule.{is_idle, sessions_of}
use Rattle.gx_law_groups.specs.Openers.{is_of}
use Rattle.gx_law_groups.proofs.Slots.{Slotted, begun_at, is_at, slotted-ask, slotted-same}
use Rattle.gx_law_groups.proofs.Through.{Stands, has-line, none-open, same-of}
use Rattle.gx_law_groups.proofs.Tidy.{Each, Tidy, held, none-held, own}

pub record Bound (script : Script) (steps : List Step) (t : Table) (asked : ℕ → List SessionId) : Type 0 where
  pub tidy : Tidy script (marks_in steps) (λ k. starts_in k steps)
  pub slotted : Slotted script t (marks_in steps) asked (is_to_open script steps)

pub tidy-started : (script : Script) (marks : List Mark) (started others : SessionId → ℕ) → Tidy script marks started → ((k : SessionId) → started k ≡ answer_count k marks + 1 → others k ≡ started k) → Tidy script marks others
tidy-started script marks started others t e = record {
  unended = t.unended;
  unbegun = t.unbegun;
  home = t.home;
  each = t.each;
  found = t.found;
  begun = λ k b. let was = t.begun k b in (was.0, e k was.1 ∙ was.1);
}

-- WHO IS TO OPEN
draws-next-outside : (st : BlockState) (o : Option Stmt) → draws_next st o ≡ true → st ≡ Outside
draws-next-outside Outside o e = refl
draws-next-outside (InBlock level commands) None e = absurd (cc)
draws-next-outside (InBlock level commands) (Some line) e = absurd (cc)
draws-next-outside Failed None e = absurd (cc)
draws-next-outside Failed (Some line) e = absurd (cc)

pub opens-apart : (script : Script) (steps : List Step) → Tidy script (marks_in steps) (λ k. starts_in k steps) → (k : SessionId) → is_to_open script steps k ≡ true → list_any (is_of k) (open_in (marks_in steps)) ≡ false
opens-apart script steps t k e = none-open script (marks_in steps) k (open_in (marks_in steps)) t.each (none (is_begun k (marks_in steps)) refl)
  where
    idle : is_idle steps k ≡ true
    idle = and-first (is_idle steps k) (draws_next (state_of script k (marks_in steps)) (next_stmt k script (marks_in steps))) e

    outside : state_of script k (marks_in steps) ≡ Outside
    outside = draws-next-outside (state_of script k (marks_in steps)) (next_stmt k script (marks_in steps)) (and-second (is_idle steps k) (draws_next (state_of script k (marks_in steps)) (next_stmt k script (marks_in steps))) e)

    same : (a b : ℕ) → (a == b) ≡ true → a ≡ b + 1 → ⊥
    same a b x y = let z : a ≡ b = grind (arith, nat_tests) in omega (arith, y, z)

    none : (b : Bool) → is_begun k (marks_in steps) ≡ b → own script (marks_in steps) k ≡ None
    none true q = absurd (same (starts_in k steps) (answer_count k (marks_in steps)) idle (t.begun k q).1)
    none false q = ap (λ b. held (state_of script k (marks_in steps)) b (started_after k None (marks_in steps))) q ∙ none-held (state_of script k (marks_in steps)) (started_after k None (marks_in steps)) outside

-- A STEP BEGINS
some-of : (o : Option Stmt) → IsSome o → (line : Stmt) × (o ≡ Some line)
some-of None x = absurd (cc)
some-of (Some line) x = (line, refl)

module _ (script : Script) (lines : Each (λ (l : Line). l.session.0 < length script.sessions) script.lines) (steps : List Step) (t : Table) (asked : ℕ
    → List SessionId) (b : Bound script steps t asked) (is : t ≡ slots_after script steps) where
  itself : (k : SessionId) → is_same_session k k ≡ true
  itself k = grind (arith, nat_tests)

  -- a session that is busy is not started
  not-again : (e : Event) (marks : List Mark) → LegalEvent script steps e marks → (k : SessionId) → starts_in k steps ≡ answer_count k (marks_in steps) + 1 → starts_in k steps + starts_by k e ≡ starts_in k steps
  not-again (event.Start s) marks legal k busy = by_test (is_same_session s k) refl
    where
      by_test : (c : Bool) → is_same_session s k ≡ c → starts_in k steps + cond c 1 0 ≡ starts_in k steps
      by_test true q = absurd (let idle = subst (λ x. starts_in x steps ≡ answer_count x (marks_in steps)) (same-of s k q) legal.0 in omega (arith, idle, busy))
      by_test false q = omega arith
  not-again _ marks legal k busy = omega arith

  lets-may : (a c : Bool) → not (a && not c) ≡ true → a ≡ true → c ≡ true
  lets-may true true e f = refl
  lets-may true false e f = e
  lets-may false c e f = absurd (cc)

  free-at : (e : Event) (marks : List Mark) → LegalEvent script steps e marks → lets script steps e ≡ true → (k : SessionId) → e ≡ event.Start k → is_to_open script steps k ≡ true → may t k ≡ true
  free-at e marks legal let_in k q opening =
      let there = some-of (next_stmt k script (marks_in steps)) (subst (λ x. LegalEvent script steps x marks) q legal).1 in
      let known : k.0 < length script.sessions = has-line k (answer_count k (marks_in steps) + 1) (length script.sessions) script.lines there.0 lines there.1 in
      let asking_now : asks (slots_after script steps) k ≡ true = ap (λ x. asks x k) (sym is) ∙ b.slotted.who_asks k known ∙ opening in
      ap (λ x. may x k) is ∙ lets-may (asks (slots_after script steps) k) (may (slots_after script steps) k) (subst (λ x. lets script steps x ≡ true) q let_in) asking_now

  pub begins : (e : Event) (marks : List Mark) → LegalEvent script steps e marks → lets script steps e ≡ true → Stands script steps e asked t []
  begins e marks legal let_in = record {
    tidy = subst (λ ms. Tidy script ms (λ k. starts_in k steps + starts_by k e)) (sym (append-nil (marks_in steps))) (tidy-started script (marks_in steps) (λ k. starts_in k steps)
        (λ k. starts_in k steps + starts_by k e) b.tidy (not-again e marks legal));
    slotted = slotted-same script t (marks_in steps) (marks_in steps ++ []) asked asked (is_to_open script steps) (λ k. is_to_open script steps k && true)
        (ap open_in (append-nil (marks_in steps))) (λ place. ap (begun_at script place) (append-nil (marks_in steps))) (λ place. refl) (λ k l. and-true (is_to_open script steps k)) b.slotted;
    free = λ k q opening none. free-at e marks legal let_in k q opening;
    apart = λ k q. ap (λ ms. list_any (is_of k) (open_in ms)) (append-nil (marks_in steps)) ∙ opens-apart script steps b.tidy k (and-first (is_to_open script steps k) true q);
  }

-- ALL OF SOME SESSIONS ASK
abbrev pub Distinct : List SessionId → Type 0
Distinct [] = Unit {0}
Distinct (s ∷ ss) = Each (λ x. is x s ≡ false) ss × Distinct ss

module _ (script : Script) (marks : List Mark) where
  abbrev MayAsk : (SessionId → Bool) → SessionId → Type 0
  MayAsk before s = (s.0 < length script.sessions) × (before s ≡ false) × (list_any (is_of s) (open_in marks) ≡ false)

  still-may : (before : SessionId → Bool) (s : SessionId) (ss : List SessionId) → Each (λ x. is x s ≡ false) ss → Each (MayAsk before) ss → Each (MayAsk (λ x. before x || is x s)) ss
  still-may before s [] d e = tt
  still-may before s (x ∷ xs) d e = ((e.0.0, ap (λ c. c || is x s) e.0.1 ∙ d.0, e.0.2), still-may before s xs d.1 e.1)

  filter-cons : (place : ℕ) (s : SessionId) (ss : List SessionId) (c : Bool) → cond c (s ∷ filter (is_at script place) ss) (filter (is_at script place) ss) ≡ only_if c s ++ filter (is_at script place) ss
  filter-cons place s ss true = refl
  filter-cons place s ss false = refl

  asks-now : (t : Table) (s : SessionId) → asks t s ≡ false → holds t s ≡ false → asking t s ≡ after_ask t s
  asks-now t s a h = ap (λ c. cond (c || holds t s) t (after_ask t s)) a ∙ ap (λ c. cond c t (after_ask t s)) h

  pub all-ask : (ss : List SessionId) (t : Table) (asked : ℕ → List SessionId) (before : SessionId → Bool) → Distinct ss → Each (MayAsk before) ss → Slotted script t marks asked before
      → Slotted script (all_asking t ss) marks (λ place. asked place ++ filter (is_at script place) ss) (λ k. before k || has k ss)
  all-ask [] t asked before d e k = slotted-same script t marks marks asked _ before _ refl (λ place. refl) (λ place. append-nil (asked place)) (λ x l. or-false (before x)) k
  all-ask (s ∷ ss) t asked before d e k =
      let now : asking t s ≡ after_ask t s = asks-now t s (k.who_asks s e.0.0 ∙ e.0.1) (k.who_holds s e.0.0 ∙ e.0.2) in
      let one = slotted-ask script t marks asked before k s e.0.0 e.0.1 e.0.2 in
      let rest = all-ask ss (after_ask t s) (λ place. asked place ++ only_if (is_at script place s) s) (λ x. before x || is x s) d.1 (still-may before s ss d.0 e.1) one in
      subst (λ x. Slotted script (all_asking x ss) marks (λ place. asked place ++ filter (is_at script place) (s ∷ ss)) (λ x. before x || has x (s ∷ ss))) (sym now)
      (slotted-same script (all_asking (after_ask t s) ss) marks marks _ (λ place. asked place ++ filter (is_at script place) (s ∷ ss)) _ (λ x. before x || has x (s ∷ ss)) refl (λ place. refl)
      (λ place. ap (λ xs. asked place ++ xs) (filter-cons place s ss (is_at script place s)) ∙ sym (append_assoc (asked place) (only_if (is_at script place s) s) (filter (is_at script place) ss)))
      (λ x l. or-assoc (before x) (is x s) (has x ss)) rest)

-- THE SESSIONS OF A SCRIPT
abbrev numbered : ℕ → SessionId
numbered n = record { 0 = n }

each-above : (p : SessionId → Bool) (bound first n : ℕ) → bound < first → Each (λ x. is x (numbered bound) ≡ false) (filter p (map numbered (range_with_len first n)))
each-above p bound first zero l = tt
each-above p bound first (suc n) l = by_test (p (numbered first)) (each-above p bound (first + 1) n (omega (arith, l)))
  where
    apart : (bound == first) ≡ false
    apart = grind (arith, nat_tests)

    by_test : (c : Bool) → Each (λ x. is x (numbered bound) ≡ false) (filter p (map numbered (range_with_len (first + 1) n)))
        → Each (λ x. is x (numbered bound) ≡ false) (cond c (numbered first ∷ filter p (map numbered (range_with_len (first + 1) n))) (filter p (map numbered (range_with_len (first + 1) n))))
    by_test true e = (apart, e)
    by_test false e = e

distinct-from : (p : SessionId → Bool) (first n : ℕ) → Distinct (filter p (map numbered (range_with_len first n)))
distinct-from p first zero = tt
distinct-from p first (suc n) = by_test (p (numbered first)) (distinct-from p (first + 1) n)
  where
    by_test : (c : Bool) → Distinct (filter p (map numbered (range_with_len (first + 1) n)))
        → Distinct (cond c (numbered first ∷ filter p (map numbered (range_with_len (first + 1) n))) (filter p (map numbered (range_with_len (first + 1) n))))
    by_test true e = (each-above p first (first + 1) n (omega arith), e)
    by_test false e = e

each-from : (p : SessionId → Bool) (Q : SessionId → Type 0) (first n all : ℕ) → first + n ≡ all → ((s : SessionId) → s.0 < all → p s ≡ true → Q s) → Each Q (filter p (map numbered (range_with_len first n)))
each-from p Q first zero all e f = tt
each-from p Q first (suc n) all e f = by_test (p (numbered first)) refl (each-from p Q (first + 1) n all (omega (arith, e)) f)
  where
    by_test : (c : Bool) → p (numbered first) ≡ c → Each Q (filter p (map numbered (range_with_len (first + 1) n)))
        → Each Q (cond c (numbered first ∷ filter p (map numbered (range_with_len (first + 1) n))) (filter p (map numbered (range_with_len (first + 1) n))))
    by_test true q r = (f (numbered first) (omega (arith, e)) q, r)
    by_test false q r = r

has-if : (k s : SessionId) (ss : List SessionId) (c : Bool) → has k (cond c (s ∷ ss) ss) ≡ ((c && is k s) || has k ss)
has-if k s ss true = refl
has-if k s ss false = refl

has-below : (p : SessionId → Bool) (k : SessionId) (first n : ℕ) → k.0 < first → has k (filter p (map numbered (range_with_len first n))) ≡ false
has-below p k first zero l = refl
has-below p k first (suc n) l =
    has-if k (numbered first) (filter p (map numbered (range_with_len (first + 1) n))) (p (numbered first))
    ∙ ap (λ c. (p (numbered first) && c) || has k (filter p (map numbered (range_with_len (first + 1) n)))) apart
    ∙ off (p (numbered first)) (has k (filter p (map numbered (range_with_len (first + 1) n)))) (has-below p k (first + 1) n (omega (arith, l)))
  where
    apart : (first == k.0) ≡ false
    apart = grind (arith, nat_tests)

    off : (a c : Bool) → c ≡ false → ((a && false) || c) ≡ false
    off true c e = e
    off false c e = e

has-from : (p : SessionId → Bool) (k : SessionId) (first n : ℕ) → first ≤ k.0 → k.0 < first + n → has k (filter p (map numbered (range_with_len first n))) ≡ p k
has-from p k first zero l m = absurd (omega (arith, l, m))
has-from p k first (suc n) l m =
    has-if k (numbered first) (filter p (map numbered (range_with_len (first + 1) n))) (p (numbered first)) ∙ by_test (first == k.0) refl (λ g. has-from p k (first + 1) n g (omega (arith, m)))
  where
    here : (first == k.0) ≡ true → first ≡ k.0
    here q = grind (arith, nat_tests)

    past : (first == k.0) ≡ false → first + 1 ≤ k.0
    past q = let ne : (first ≡ k.0 → ⊥) = λ e. grind (arith, nat_tests) in grind (arith, nat_tests)

    or-both : (a c : Bool) → c ≡ false → ((a && true) || c) ≡ a
    or-both true c e = refl
    or-both false c e = e

    or-off : (a c : Bool) → ((a && false) || c) ≡ c
    or-off true c = refl
    or-off false c = refl

    by_test : (c : Bool) → (first == k.0) ≡ c → (first + 1 ≤ k.0 → has k (filter p (map numbered (range_with_len (first + 1) n))) ≡ p k)
        → ((p (numbered first) && (first == k.0)) || has k (filter p (map numbered (range_with_len (first + 1) n)))) ≡ p k
    by_test true q rest =
        ap (λ c. (p (numbered first) && c) || has k (filter p (map numbered (range_with_len (first + 1) n)))) q
        ∙ or-both (p (numbered first)) (has k (filter p (map numbered (range_with_len (first + 1) n)))) (has-below p k (first + 1) n (let e = here q in omega (arith, e)))
        ∙ ap (λ x. p (numbered x)) (here q)
    by_test false q rest =
        ap (λ c. (p (numbered first) && c) || has k (filter p (map numbered (range_with_len (first + 1) n)))) q
        ∙ or-off (p (numbered first)) (has k (filter p (map numbered (range_with_len (first + 1) n))))
        ∙ rest (past q)

pub has-filter : (script : Script) (p : SessionId → Bool) (k : SessionId) → k.0 < length script.sessions → has k (filter p (sessions_of script)) ≡ p k
has-filter script p k l = has-from p k 0 (length script.sessions) (omega arith) (omega (arith, l))

pub each-session : (script : Script) (p : SessionId → Bool) (Q : SessionId → Type 0) → ((s : SessionId) → s.0 < length script.sessions → p s ≡ true → Q s) → Each Q (filter p (sessions_of script))
each-session script p Q f = each-from p Q 0 (length script.sessions) (length script.sessions) (omega arith) f

pub distinct-sessions : (script : Script) (p : SessionId → Bool) → Distinct (filter p (sessions_of script))
distinct-sessions script p = distinct-from p 0 (length script.sessions)
