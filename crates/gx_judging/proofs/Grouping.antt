-- The answers of each session, one answer more; and functions that agree.
use Rattle.std.proofs.Common.{◌≡◌, ◌≢◌, ℕ, zero, suc, ◌+◌, ◌<◌, Bool, true, false, List, [], ◌∷◌, ◌++◌, Option, None, Some, length, drop, get_or, map, replicate, refl, sym, ap, ◌∙◌, if◌then◌else◌, ◌==◌, nat_eq, eqb}
use Rattle.std.proofs.lemmas.List.{append_assoc, drop_more}
use Rattle.gx_lemmas.proofs.Numbers.{eqb-of, eqb-swap, same-of}
use Rattle.gx_ids.specs.declared.ids.Gxid.{Gxid}
use Rattle.gx_ids.specs.declared.ids.SessionId.{SessionId}
use Rattle.gx_msg.specs.declared.reply.Cause.{Cause}
use Rattle.gx_store.specs.declared.answer.StmtAnswer.{StmtAnswer}
use Rattle.gx_store.specs.declared.run.Step.{Step}
use Rattle.gx_trace.specs.declared.seen.Seen.{Seen}
use Rattle.gx_trace.specs.declared.seen.SeenAnswer.{SeenAnswer}
use Rattle.gx_judging.specs.Answers.{answer_at, answers_at, cause_at}
use Rattle.gx_judging.specs.Filled.{answer_to, answers_of, cause_from, cause_in, filled, filled_step, marks_seen, nth_answer, with_refusal}
use Rattle.gx_judging.specs.declared.answers.Answers.{Answers}
use Rattle.gx_judging.specs.declared.causes.Causes.{Causes}

pub group-next : (old new : List (List StmtAnswer)) (all : List SeenAnswer) (n : ℕ) (said : SeenAnswer) (copy : StmtAnswer) (k : ℕ) → n < length all → said ≡ get_or all n said → copy ≡ said.answer
    → answers_at new said.session.0 ≡ answers_at old said.session.0 ++ copy ∷ [] → (nat_eq k said.session.0 ≡ false → answers_at new k ≡ answers_at old k)
    → answers_at new k ++ answers_of k (drop (n + 1) all) ≡ answers_at old k ++ answers_of k (drop n all)
group-next old new all n said copy k inside is same here others =
    by_test (said.session.0 == k) refl ∙ ap (λ xs. answers_at old k ++ answers_of k xs) (sym left)
  where
    rest : List StmtAnswer
    rest = answers_of k (drop (n + 1) all)

    left : drop n all ≡ said ∷ drop (n + 1) all
    left = drop_more all n said inside ∙ ap (λ x. x ∷ drop (n + 1) all) (sym is)

    by_test : (b : Bool) → (said.session.0 == k) ≡ b → answers_at new k ++ rest ≡ answers_at old k ++ (if b then said.answer ∷ rest else rest)
    by_test true e =
        ap (λ j. answers_at new j ++ rest) (sym (same-of said.session.0 k e)) ∙ ap (λ xs. xs ++ rest) here ∙ append_assoc (answers_at old said.session.0) (copy ∷ []) rest
        ∙ ap (λ j. answers_at old j ++ copy ∷ rest) (same-of said.session.0 k e) ∙ ap (λ x. answers_at old k ++ x ∷ rest) same
    by_test false e = ap (λ xs. xs ++ rest) (others (eqb-swap k said.session.0 ∙ e))

-- THE RUN
pub filled-is : (answers : Answers) (causes : Causes) (shown : Seen) (steps : List Step) → ((k : ℕ) → answers_at answers.by_session.items k ≡ answers_of k shown.answers)
    → ((g : Gxid) → cause_at causes g ≡ cause_from (answer_at answers) g None None (marks_seen shown.steps)) → steps ≡ map (filled_step (answer_at answers) (cause_at causes)) shown.steps → steps ≡ filled shown
filled-is answers causes shown steps lists kept is = is ∙ ap (λ (f : SessionId → ℕ → Option StmtAnswer). map (filled_step f (cause_at causes)) shown.steps) said ∙ ap (λ (f : Gxid → Option Cause). map (filled_step (answer_to shown.answers) f) shown.steps) why
  where
    said : answer_at answers ≡ answer_to shown.answers
    said = λ i session number. nth_answer (lists session.0 i) number

    why : cause_at causes ≡ cause_in shown
    why = λ i g. (kept g ∙ ap (λ (f : SessionId → ℕ → Option StmtAnswer). cause_from f g None None (marks_seen shown.steps)) said) i

-- NONE YET
nth-none : (n k : ℕ) → answers_at (replicate n []) k ≡ []
nth-none zero k = refl
nth-none (suc n) zero = refl
nth-none (suc n) (suc k) = nth-none n k

pub none-at : (lists : List (List StmtAnswer)) (k : ℕ) → lists ≡ replicate 256 [] → answers_at lists k ≡ []
none-at lists k is = ap (λ ls. answers_at ls k) is ∙ nth-none 256 k

-- A CAUSE MORE
pub caused : (old new : Causes) (gxid g : Gxid) (why : Cause) → cause_at new gxid ≡ Some why → (g.0 ≢ gxid.0 → cause_at new g ≡ cause_at old g) → cause_at new g ≡ with_refusal g (cause_at old g) (Some (gxid, why))
caused old new gxid g why there elsewhere = by_test (gxid.0 == g.0) refl
  where
    by_test : (b : Bool) → (gxid.0 == g.0) ≡ b → cause_at new g ≡ (if b then Some why else cause_at old g)
    by_test true e = ap (λ (n : ℕ). let h : Gxid = record { 0 = n } in cause_at new h) (sym (same-of gxid.0 g.0 e)) ∙ there
    by_test false e = elsewhere (λ same. apart (sym e ∙ eqb-of gxid.0 g.0 (sym same)))
      where
        apart : false ≡ true → ⊥
        apart f = cc
