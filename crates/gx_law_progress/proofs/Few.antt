-- A lone round that comes to its recheck cancels somebody, before the next begins.
use Rattle.std.proofs.Common.{◌≡◌, ◌≤◌, ◌<◌, ℕ, ◌+◌, ◌&&◌, ◌||◌, Bool, true, false, if◌then◌else◌, List, [], ◌∷◌, ◌++◌, Option, Some, None, length, refl, sym, ap, subst, append_assoc, append-nil, arith}
use Rattle.std.specs.List.{list_all, list_any}
use Rattle.gx_ids.specs.declared.ids.Gxid.{Gxid}
use Rattle.gx_script.specs.declared.Script.{Script}
use Rattle.gx_lemmas.proofs.Tests.{and-first, and-second, false-true, true-false}
use Rattle.gx_waits.specs.declared.verdict.Verdict.{Verdict}
use Rattle.gx_store.specs.declared.event.Event.{Event}
use Rattle.gx_store.specs.declared.event.Event.TheVariants as event
use Rattle.gx_store.specs.declared.mark.Mark.{Mark}
use Rattle.gx_store.specs.declared.mark.Mark.TheVariants.{Recheck}
use Rattle.gx_store.specs.declared.run.Step.{Step}
use Rattle.gx_store.specs.Legal.{AreLegalSteps, IsLegalStep}
use Rattle.gx_store.specs.Marks.{is_aborted, start_count}
use Rattle.gx_store.specs.Points.{marks_in}
use Rattle.gx_store.specs.Schedule.{is_recheck, is_round}
use Rattle.gx_store.proofs.Runs.{marks_in-push}
use Rattle.gx_law_groups.proofs.Marks.{start_count-append}
use Rattle.gx_law_lone.specs.Victims.{ComesToVictims, DoLoneRoundsFindVictims, NamesOrGoesOn, NamesSomebody, is_of_round, let_in, verdict_in}
use Rattle.gx_law_progress.specs.LoneRounds.{begins_lone_round, cancelled, is_rechecked, is_victim, lone_rounds_from}
use Rattle.gx_law_progress.proofs.Named.{AreNumbered, aborts-anew, cancelled-back, cancelled-front, is_cancelled, names-somebody, not-cancelled, numbered-behind}
use Rattle.gx_law_progress.proofs.Passing.{passing-few, passing-more, passing-new}

-- MARKS MORE
more-cancelled : (ms ns : List Mark) → length (cancelled ms) ≤ length (cancelled (ms ++ ns))
more-cancelled ms ns = passing-more (is_cancelled ms) (is_cancelled (ms ++ ns)) (cancelled-front ms ns) 1 (start_count ms) (start_count (ms ++ ns)) (wide (start_count ms) (start_count ns) _ (start_count-append ms ns))
  where
    wide : (a b c : ℕ) → c ≡ a + b → a ≤ c
    wide a b c e = omega arith

-- a step whose marks name somebody
one-cancelled : (script : Script) (steps : List Step) (s : Step) (verdict : Verdict) → IsLegalStep script steps s → AreNumbered (marks_in steps) → verdict_in s.marks ≡ Some verdict → NamesSomebody verdict
    → length (cancelled (marks_in steps)) + 1 ≤ length (cancelled (marks_in steps ++ s.marks))
one-cancelled script steps s verdict legal known is names =
    let n = names-somebody script steps s.event [] s.marks [] verdict legal.marks (subst AreNumbered (sym (append-nil (marks_in steps))) known) is names in
    new (marks_in steps) n.who (λ a. aborts-anew script steps s.event n.who [] s.marks [] legal.marks a) n.named (subst (λ x. is_aborted x n.who ≡ true) (append-nil s.marks) n.aborted) n.first n.last
  where
    below : (a b : ℕ) → a ≤ b → a < 1 + b
    below a b l = omega arith

    wide : (a b c : ℕ) → c ≡ a + b → a ≤ c
    wide a b c e = omega arith

    new : (ms : List Mark) (g : Gxid) → (is_aborted s.marks g ≡ true → is_aborted ms g ≡ false) → is_victim s.marks g ≡ true → is_aborted s.marks g ≡ true → 1 ≤ g.0 → g.0 ≤ start_count (ms ++ s.marks)
        → length (cancelled ms) + 1 ≤ length (cancelled (ms ++ s.marks))
    new ms g old named aborted one last =
        passing-new (is_cancelled ms) (is_cancelled (ms ++ s.marks)) (cancelled-front ms s.marks) g.0 (not-cancelled ms g (old aborted)) (cancelled-back ms s.marks g named aborted)
        1 (start_count ms) (start_count (ms ++ s.marks)) one (below g.0 _ last) (wide (start_count ms) (start_count s.marks) _ (start_count-append ms s.marks))

-- NO RECHECK YET
undecided : (ms : List Mark) → verdict_in ms ≡ None → list_any is_recheck ms ≡ false
undecided [] e = refl
undecided (Recheck round own verdict ∷ ms) e = absurd (cc)
undecided (_ ∷ ms) e = undecided ms e

any-append : (p : Mark → Bool) (xs ys : List Mark) → list_any p xs ≡ false → list_any p (xs ++ ys) ≡ true → list_any p ys ≡ true
any-append p [] ys e f = f
any-append p (x ∷ xs) ys e f = by_test (p x) e f (any-append p xs ys)
  where
    by_test : (b : Bool) → (b || list_any p xs) ≡ false → (b || list_any p (xs ++ ys)) ≡ true → (list_any p xs ≡ false → list_any p (xs ++ ys) ≡ true → list_any p ys ≡ true) → list_any p ys ≡ true
    by_test true e f rest = absurd (true-false true refl e)
    by_test false e f rest = rest e f

-- what is of a round begins none
begins-none : (steps : List Step) (e : Event) → is_of_round steps e ≡ true → is_round e ≡ false
begins-none steps event.Round is = absurd (false-true is)
begins-none steps (event.Receive from to number) is = refl
begins-none steps (event.Resend segment g) is = refl
begins-none steps (event.Resume node g) is = refl
begins-none steps (event.Restart node) is = refl
begins-none steps (event.Start session) is = refl
begins-none steps (event.End session) is = refl

-- STEP BY STEP
module _ (script : Script) (lets : List Step → Event → Bool) where
  abbrev many : List Step → ℕ
  many steps = length (cancelled (marks_in steps))

  pub record AreFew (before ss : List Step) : Type 0 where
    pub all : lone_rounds_from script lets before ss + many before ≤ many (before ++ ss)
    pub in_round : ComesToVictims before ss → is_rechecked ss ≡ true → lone_rounds_from script lets before ss + many before + 1 ≤ many (before ++ ss)

  numbered-push : (before : List Step) (s : Step) → IsLegalStep script before s → AreNumbered (marks_in before) → AreNumbered (marks_in (before ++ s ∷ []))
  numbered-push before s legal known = subst AreNumbered (sym (marks_in-push before s)) (numbered-behind script before s.event [] s.marks [] legal.marks (subst AreNumbered (sym (append-nil (marks_in before))) known))

  module _ (before : List Step) (s : Step) (ss : List Step) (legal : IsLegalStep script before s) (known : AreNumbered (marks_in before)) (r : AreFew (before ++ s ∷ []) ss) where
    abbrev rest : ℕ
    rest = lone_rounds_from script lets (before ++ s ∷ []) ss

    whole : many ((before ++ s ∷ []) ++ ss) ≡ many (before ++ s ∷ ss)
    whole = ap many (append_assoc before (s ∷ []) ss)

    grown : many before ≤ many (before ++ s ∷ [])
    grown = subst (λ ms. many before ≤ length (cancelled ms)) (sym (marks_in-push before s)) (more-cancelled (marks_in before) s.marks)

    -- it begins a lone round, or not
    few-all : ((begins_lone_round script lets before s && is_rechecked ss) ≡ true → ComesToVictims (before ++ s ∷ []) ss) → lone_rounds_from script lets before (s ∷ ss) + many before ≤ many (before ++ s ∷ ss)
    few-all comes = by_test (begins_lone_round script lets before s && is_rechecked ss) refl
      where
        with_it : (a b c d : ℕ) → a + c + 1 ≤ d → b ≤ c → a + 1 + b ≤ d
        with_it a b c d l h = omega arith

        without : (a b c d : ℕ) → a + c ≤ d → b ≤ c → a + b ≤ d
        without a b c d l h = omega arith

        by_test : (t : Bool) → (begins_lone_round script lets before s && is_rechecked ss) ≡ t → (if t then rest + 1 else rest) + many before ≤ many (before ++ s ∷ ss)
        by_test true e =
            with_it rest (many before) (many (before ++ s ∷ [])) _ (subst (λ n. rest + many (before ++ s ∷ []) + 1 ≤ n) whole (r.in_round (comes e) (and-second (begins_lone_round script lets before s) (is_rechecked ss) e))) grown
        by_test false e = without rest (many before) (many (before ++ s ∷ [])) _ (subst (λ n. rest + many (before ++ s ∷ []) ≤ n) whole r.all) grown

    -- while one runs
    few-within : ComesToVictims before (s ∷ ss) → is_rechecked (s ∷ ss) ≡ true → lone_rounds_from script lets before (s ∷ ss) + many before + 1 ≤ many (before ++ s ∷ ss)
    few-within comes decided = by_test (begins_lone_round script lets before s && is_rechecked ss) none (by_verdict (verdict_in s.marks) refl comes.1)
      where
        none : (begins_lone_round script lets before s && is_rechecked ss) ≡ false
        none = ap (λ b. (b && list_all is_round (let_in script lets before)) && is_rechecked ss) (begins-none before s.event comes.0)

        goes : (a b c d : ℕ) → a + c + 1 ≤ d → b ≤ c → a + b + 1 ≤ d
        goes a b c d l h = omega arith

        ends : (a b c d : ℕ) → a + c ≤ d → b + 1 ≤ c → a + b + 1 ≤ d
        ends a b c d l h = omega arith

        by_test : (t : Bool) → t ≡ false → rest + many before + 1 ≤ many (before ++ s ∷ ss) → (if t then rest + 1 else rest) + many before + 1 ≤ many (before ++ s ∷ ss)
        by_test true e l = absurd (true-false true refl e)
        by_test false e l = l

        by_verdict : (o : Option Verdict) → verdict_in s.marks ≡ o → NamesOrGoesOn o (ComesToVictims (before ++ s ∷ []) ss) → rest + many before + 1 ≤ many (before ++ s ∷ ss)
        by_verdict None is later =
            goes rest (many before) (many (before ++ s ∷ [])) _ (subst (λ n. rest + many (before ++ s ∷ []) + 1 ≤ n) whole (r.in_round later (any-append is_recheck s.marks (marks_in ss) (undecided s.marks is) decided))) grown
        by_verdict (Some verdict) is names =
            ends rest (many before) (many (before ++ s ∷ [])) _ (subst (λ n. rest + many (before ++ s ∷ []) ≤ n) whole r.all)
            (subst (λ ms. many before + 1 ≤ length (cancelled ms)) (sym (marks_in-push before s)) (one-cancelled script before s verdict legal known is names))

  few : (before ss : List Step) → AreLegalSteps script before ss → AreNumbered (marks_in before) → DoLoneRoundsFindVictims script lets before ss → AreFew before ss
  few before [] legal known finds = record { all = subst (λ x. 0 + many before ≤ many x) (sym (append-nil before)) (same (many before)); in_round = λ comes e. absurd (false-true e) }
    where
      same : (a : ℕ) → 0 + a ≤ a
      same a = omega arith
  few before (s ∷ ss) legal known finds =
      let r = few (before ++ s ∷ []) ss legal.1 (numbered-push before s legal.0 known) finds.1 in
      record {
        all = few-all before s ss legal.0 known r (λ e. finds.0 (and-second (is_round s.event) _ (and-first (begins_lone_round script lets before s) (is_rechecked ss) e)));
        in_round = few-within before s ss legal.0 known r;
      }

  pub lone-few : (steps : List Step) → AreLegalSteps script [] steps → DoLoneRoundsFindVictims script lets [] steps → lone_rounds_from script lets [] steps ≤ length (cancelled (marks_in steps))
  lone-few steps legal finds = first (lone_rounds_from script lets [] steps) (many []) (many steps) (few [] steps legal (λ g session e. absurd (cc)) finds).all
    where
      first : (a b c : ℕ) → a + b ≤ c → a ≤ c
      first a b c l = omega arith

-- of those who have begun
pub cancelled-begun : (ms : List Mark) → length (cancelled ms) ≤ start_count ms
cancelled-begun ms = passing-few (is_cancelled ms) 1 (start_count ms)
