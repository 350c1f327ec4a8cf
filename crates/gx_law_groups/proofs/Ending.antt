-- A step ends: those of whom a line was answered ask, where their next one begins a transaction.
use Rattle.std.proofs.Common.{◌≡◌, ◌⊎◌, inl, inr, ℕ, ◌+◌, ◌<◌, ◌≤◌, ◌==◌, Bool, true, false, cond, ◌||◌, ◌&&◌, List, [], ◌∷◌, ◌++◌, length, Option, Some, None, refl, sym, ap, ◌∙◌, subst, arith, append-nil}
use Rattle.std.proofs.lemmas.Bool.Decides.{nat_tests}
use Rattle.std.proofs.lemmas.Grind.{flat_map-append}
use Rattle.std.specs.Prelude.{IsSome, filter, is_some, not}
use Rattle.std.specs.List.{list_any}
use Rattle.gx_ids.specs.declared.ids.SessionId.{SessionId}
use Rattle.gx_tree.specs.declared.stmt.Stmt.{Stmt}
use Rattle.gx_script.specs.declared.Script.{Script}
use Rattle.gx_groups.specs.Slots.{has}
use Rattle.gx_groups.specs.Table.{Table}
use Rattle.gx_lemmas.proofs.Tests.{and-first, and-second, or-false}
use Rattle.gx_store.specs.declared.event.Event.{Event}
use Rattle.gx_store.specs.declared.event.Event.TheVariants as event
use Rattle.gx_store.specs.declared.mark.Mark.{Mark}
use Rattle.gx_store.specs.declared.mark.Mark.TheVariants.{Answer, Start}
use Rattle.gx_store.specs.declared.run.Step.{Step}
use Rattle.gx_store.specs.Groups.{all_asking, asks_in, draws_next, is_to_open, open_in}
use Rattle.gx_store.specs.Legal.{AreLegalMarks, IsDrawn, IsLegalStep, LegalEvent, draws}
use Rattle.gx_store.specs.Lines.{BlockState, Outside, next_stmt, state_of, stmt_of}
use Rattle.gx_store.specs.Marks.{answer_count, is_answered, is_same_session, started_after}
use Rattle.gx_store.specs.Points.{marks_in, starts_by, starts_in}
use Rattle.gx_store.specs.Schedule.{is_idle, sessions_of}
use Rattle.gx_store.proofs.Lines.{state_from-append}
use Rattle.gx_store.proofs.Marks.{answer_count-append}
use Rattle.gx_store.proofs.Points.{starts_in-append}
use Rattle.gx_law_groups.specs.Openers.{is_of}
use Rattle.gx_law_groups.proofs.Bounds.{Bound, all-ask, distinct-sessions, each-session, has-filter, opens-apart, tidy-started}
use Rattle.gx_law_groups.proofs.Slots.{Slotted, is_at, slotted-same}
use Rattle.gx_law_groups.proofs.Through.{Stands, same-of, unanswered-state}
use Rattle.gx_law_groups.proofs.Tidy.{Tidy}

-- WHAT A STEP'S MARKS TELL
unanswered-count : (k : SessionId) (ms : List Mark) → is_answered k ms ≡ false → answer_count k ms ≡ 0
unanswered-count k [] e = refl
unanswered-count k (Answer s n a ∷ ms) e = by_test (is_same_session s k) refl (unanswered-count k ms)
  where
    by_test : (b : Bool) → is_same_session s k ≡ b → (is_answered k ms ≡ false → answer_count k ms ≡ 0) → cond (is_same_session s k) (answer_count k ms + 1) (answer_count k ms) ≡ 0
    by_test true q rest = let on : true ≡ false = sym (ap (λ b. b || is_answered k ms) q) ∙ e in absurd (cc)
    by_test false q rest = ap (λ b. cond b (answer_count k ms + 1) (answer_count k ms)) q ∙ rest (sym (ap (λ b. b || is_answered k ms) q) ∙ e)
unanswered-count k (_ ∷ ms) e = unanswered-count k ms e

module _ (script : Script) (steps : List Step) (happens : Event) (k : SessionId) where
  -- whose line is answered was busy
  pub answered-busy : (ms later earlier : List Mark) → AreLegalMarks script steps happens earlier ms later → is_answered k ms ≡ true → answer_count k (marks_in steps) + 1 ≤ starts_in k steps + starts_by k happens
  answered-busy [] later earlier l e = absurd (cc)
  answered-busy (Answer s n a ∷ ms) later earlier l e = by_test (is_same_session s k) refl (answered-busy ms later (earlier ++ Answer s n a ∷ []) l.1)
    where
      by_test : (b : Bool) → is_same_session s k ≡ b → (is_answered k ms ≡ true → answer_count k (marks_in steps) + 1 ≤ starts_in k steps + starts_by k happens) → answer_count k (marks_in steps) + 1 ≤ starts_in k steps + starts_by k happens
      by_test true q rest =
          let busy = subst (λ x. starts_in x steps + starts_by x happens ≡ answer_count x (marks_in steps ++ earlier) + 1) (same-of s k q) l.0.runs.started in
          omega (arith, busy, answer_count-append k (marks_in steps) earlier)
      by_test false q rest = rest (sym (ap (λ b. b || is_answered k ms) q) ∙ e)
  answered-busy (_ ∷ ms) later earlier l e = answered-busy ms later _ l.1 e

  -- who is not started begins nothing
  pub never-started : (ms later earlier : List Mark) → AreLegalMarks script steps happens earlier ms later → starts_by k happens ≡ 0 → started_after k None ms ≡ None
  never-started [] later earlier l e = refl
  never-started (Start g s ∷ ms) later earlier l e = by_test (is_same_session s k) refl (never-started ms later (earlier ++ Start g s ∷ []) l.1 e)
    where
      by_test : (b : Bool) → is_same_session s k ≡ b → started_after k None ms ≡ None → started_after k (cond (is_same_session s k) (Some g) None) ms ≡ None
      by_test true q rest =
          let one : starts_by k happens ≡ 1 = ap (starts_by k) l.0.event ∙ ap (λ b. cond b 1 0) q in absurd (omega (arith, e, one))
      by_test false q rest = ap (λ b. started_after k (cond b (Some g) None) ms) q ∙ rest
  never-started (_ ∷ ms) later earlier l e = never-started ms later _ l.1 e

  -- whose opening line was started has begun a transaction
  module _ (marks : List Mark) (legal : LegalEvent script steps happens marks) (drawn : IsDrawn script steps happens marks) where
    abbrev mid : Bool
    mid = is_to_open script steps k && not (is_some (started_after k None marks))

    abbrev opening : Bool
    opening = draws_next (state_of script k (marks_in steps)) (next_stmt k script (marks_in steps))

    draws-some : (st : BlockState) (o : Option Stmt) → draws_next st o ≡ true → (line : Stmt) × (o ≡ Some line) × (draws st line ≡ true)
    draws-some st None e = absurd (cc)
    draws-some st (Some line) e = (line, refl, e)

    started-case : (e : Event) (s : SessionId) → e ≡ event.Start s → IsDrawn script steps e marks → is_same_session s k ≡ true → mid ≡ false
    started-case e s q d same = by_test (is_to_open script steps k) refl
      where
        off : (b : Bool) → b ≡ true → (true && not b) ≡ false
        off true x = refl
        off false x = absurd (cc)

        by_test : (b : Bool) → is_to_open script steps k ≡ b → (b && not (is_some (started_after k None marks))) ≡ false
        by_test true x =
            let found = draws-some (state_of script k (marks_in steps)) (next_stmt k script (marks_in steps)) (and-second (is_idle steps k) opening x) in
            off (is_some (started_after k None marks)) (subst (λ y. (line : Stmt) → next_stmt y script (marks_in steps) ≡ Some line → draws (state_of script y (marks_in steps)) line ≡ true
            → IsSome (started_after y None marks)) (same-of s k same) (subst (λ y. IsDrawn script steps y marks) q d) found.0 found.1 found.2)
        by_test false x = refl

    busy-off : (a b : ℕ) (c d : Bool) → b + 1 ≤ a → (((a == b) && c) && d) ≡ false
    busy-off a b c d l = let n : (a == b) ≡ false = differ a b l in ap (λ x. (x && c) && d) n
      where
        differ : (x y : ℕ) → y + 1 ≤ x → (x == y) ≡ false
        differ x y m = grind (arith, nat_tests)

    -- the session is the one whose line is started, or another one
    by-event : (e : Event) → ((s : SessionId) × (e ≡ event.Start s) × (is_same_session s k ≡ true)) ⊎ (starts_by k e ≡ 0)
    by-event (event.Start s) = by_test (is_same_session s k) refl
      where
        by_test : (b : Bool) → is_same_session s k ≡ b → ((x : SessionId) × (event.Start s ≡ event.Start x) × (is_same_session x k ≡ true)) ⊎ (starts_by k (event.Start s) ≡ 0)
        by_test true q = inl (s, refl, q)
        by_test false q = inr (ap (λ b. cond b 1 0) q)
    by-event _ = inr refl

    pub answered-off : AreLegalMarks script steps happens [] marks [] → is_answered k marks ≡ true → mid ≡ false
    answered-off l e = by_case (by-event happens)
      where
        by_case : ((s : SessionId) × (happens ≡ event.Start s) × (is_same_session s k ≡ true)) ⊎ (starts_by k happens ≡ 0) → mid ≡ false
        by_case (inl x) = started-case happens x.0 x.1 drawn x.2
        by_case (inr x) = busy-off (starts_in k steps) (answer_count k (marks_in steps)) _ _ (let b = answered-busy marks [] [] l e in omega (arith, b, x))

    -- who isn't answered is to open as before, unless it has begun
    abbrev more : List Step → List Step
    more rest = steps ++ rest

    pub unanswered-same : (step : Step) → step.event ≡ happens → step.marks ≡ marks → AreLegalMarks script steps happens [] marks [] → is_answered k marks ≡ false → is_to_open script (steps ++ step ∷ []) k ≡ mid
    unanswered-same step is_event is_marks l e = by_case (by-event happens)
      where
        all-marks : marks_in (steps ++ step ∷ []) ≡ marks_in steps ++ marks
        all-marks = flat_map-append (λ (x : Step). x.marks) steps (step ∷ []) ∙ ap (λ ms. marks_in steps ++ ms) (append-nil step.marks ∙ is_marks)

        none : answer_count k marks ≡ 0
        none = unanswered-count k marks e

        same-answers : answer_count k (marks_in (steps ++ step ∷ [])) ≡ answer_count k (marks_in steps)
        same-answers = ap (answer_count k) all-marks ∙ answer_count-append k (marks_in steps) marks ∙ plus (answer_count k (marks_in steps)) (answer_count k marks) none
          where
            plus : (a b : ℕ) → b ≡ 0 → a + b ≡ a
            plus a b x = omega (arith, x)

        same-state : state_of script k (marks_in (steps ++ step ∷ [])) ≡ state_of script k (marks_in steps)
        same-state = ap (state_of script k) all-marks ∙ state_from-append script k Outside (marks_in steps) marks ∙ unanswered-state script k (state_of script k (marks_in steps)) marks none

        starts-more : starts_in k (steps ++ step ∷ []) ≡ starts_in k steps + starts_by k happens
        starts-more = starts_in-append k steps (step ∷ []) ∙ ap (λ n. starts_in k steps + (n + 0)) (ap (starts_by k) is_event) ∙ plus-none (starts_in k steps) (starts_by k happens)
          where
            plus-none : (a b : ℕ) → a + (b + 0) ≡ a + b
            plus-none a b = omega arith

        by-counts : is_to_open script (steps ++ step ∷ []) k ≡ ((starts_in k steps + starts_by k happens == answer_count k (marks_in steps)) && opening)
        by-counts =
            ap (λ n. (n == answer_count k (marks_in (steps ++ step ∷ []))) && draws_next (state_of script k (marks_in (steps ++ step ∷ []))) (next_stmt k script (marks_in (steps ++ step ∷ [])))) starts-more
            ∙ ap (λ n. (starts_in k steps + starts_by k happens == n) && draws_next (state_of script k (marks_in (steps ++ step ∷ []))) (stmt_of k (n + 1) script.lines)) same-answers
            ∙ ap (λ st. (starts_in k steps + starts_by k happens == answer_count k (marks_in steps)) && draws_next st (next_stmt k script (marks_in steps))) same-state

        off : (a b : ℕ) (c : Bool) → b + 1 ≤ a → ((a == b) && c) ≡ false
        off a b c m = let n : (a == b) ≡ false = grind (arith, nat_tests) in ap (λ x. x && c) n

        started : (s : SessionId) → happens ≡ event.Start s → is_same_session s k ≡ true → answer_count k (marks_in steps) + 1 ≤ starts_in k steps + starts_by k happens
        started s q same =
            let idle = subst (λ x. starts_in x steps ≡ answer_count x (marks_in steps)) (same-of s k same) (subst (λ y. LegalEvent script steps y marks) q legal).0 in
            let one : starts_by k happens ≡ 1 = ap (starts_by k) q ∙ ap (λ b. cond b 1 0) same in omega (arith, idle, one)

        and-on : (a b : Bool) → b ≡ false → a ≡ (a && not b)
        and-on true b x = sym (ap not x)
        and-on false b x = refl

        by_case : ((s : SessionId) × (happens ≡ event.Start s) × (is_same_session s k ≡ true)) ⊎ (starts_by k happens ≡ 0) → is_to_open script (steps ++ step ∷ []) k ≡ mid
        by_case (inl x) = by-counts ∙ off (starts_in k steps + starts_by k happens) (answer_count k (marks_in steps)) opening (started x.0 x.1 x.2) ∙ sym (started-case happens x.0 x.1 drawn x.2)
        by_case (inr x) =
            by-counts ∙ ap (λ n. (n == answer_count k (marks_in steps)) && opening) (ap (λ n. starts_in k steps + n) x ∙ plus-zero (starts_in k steps))
            ∙ and-on (is_to_open script steps k) (is_some (started_after k None marks)) (ap is_some (never-started marks [] [] l x))
          where
            plus-zero : (n : ℕ) → n + 0 ≡ n
            plus-zero n = omega arith

-- THE STEP IS OVER
module _ (script : Script) (steps : List Step) (step : Step) (legal : IsLegalStep script steps step) (t : Table) (asked : ℕ → List SessionId) (now : Stands script steps step.event asked t step.marks) where
  abbrev after : List Step
  after = steps ++ step ∷ []

  all-marks : marks_in after ≡ marks_in steps ++ step.marks
  all-marks = flat_map-append (λ (x : Step). x.marks) steps (step ∷ []) ∙ ap (λ ms. marks_in steps ++ ms) (append-nil step.marks)

  starts-all : (k : SessionId) → starts_in k after ≡ starts_in k steps + starts_by k step.event
  starts-all k = starts_in-append k steps (step ∷ []) ∙ plus-none (starts_in k steps) (starts_by k step.event)
    where
      plus-none : (a b : ℕ) → a + (b + 0) ≡ a + b
      plus-none a b = omega arith

  tidy-after : Tidy script (marks_in after) (λ k. starts_in k after)
  tidy-after = subst (λ ms. Tidy script ms (λ k. starts_in k after)) (sym all-marks) (tidy-started script (marks_in steps ++ step.marks) (λ k. starts_in k steps + starts_by k step.event) (λ k. starts_in k after) now.tidy
      (λ k e. starts-all k))

  abbrev asking_mid : SessionId → Bool
  asking_mid k = is_to_open script steps k && not (is_some (started_after k None step.marks))

  abbrev who : List SessionId
  who = filter (asks_in script steps step) (sessions_of script)

  may-ask : (s : SessionId) → s.0 < length script.sessions → asks_in script steps step s ≡ true → (s.0 < length script.sessions) × (asking_mid s ≡ false) × (list_any (is_of s) (open_in (marks_in after)) ≡ false)
  may-ask s l e = (
    l,
    answered-off script steps step.event s step.marks legal.event legal.drawn legal.marks (and-first (is_answered s step.marks) (is_to_open script after s) e),
    opens-apart script after tidy-after s (and-second (is_answered s step.marks) (is_to_open script after s) e),
  )

  to-open-after : (k : SessionId) → k.0 < length script.sessions → is_to_open script after k ≡ (asking_mid k || has k who)
  to-open-after k l = by_test (is_answered k step.marks) refl ∙ ap (λ b. asking_mid k || b) (sym (has-filter script (asks_in script steps step) k l))
    where
      by_test : (b : Bool) → is_answered k step.marks ≡ b → is_to_open script after k ≡ (asking_mid k || (is_answered k step.marks && is_to_open script after k))
      by_test true q =
          sym (ap (λ b. asking_mid k || (b && is_to_open script after k)) q ∙ ap (λ b. b || is_to_open script after k) (answered-off script steps step.event k step.marks legal.event legal.drawn legal.marks q))
      by_test false q =
          unanswered-same script steps step.event k step.marks legal.event legal.drawn step refl refl legal.marks q
          ∙ sym (ap (λ b. asking_mid k || (b && is_to_open script after k)) q ∙ or-false (asking_mid k))

  pub ends : Bound script after (all_asking t who) (λ place. asked place ++ filter (is_at script place) who)
  ends = record {
    tidy = tidy-after;
    slotted = slotted-same script (all_asking t who) (marks_in after) (marks_in after) _ (λ place. asked place ++ filter (is_at script place) who) (λ k. asking_mid k || has k who) (is_to_open script after) refl
        (λ place. refl) (λ place. refl) to-open-after
        (all-ask script (marks_in after) who t asked asking_mid (distinct-sessions script (asks_in script steps step)) (each-session script (asks_in script steps step) _ may-ask)
        (subst (λ ms. Slotted script t ms asked asking_mid) (sym all-marks) now.slotted));
  }
