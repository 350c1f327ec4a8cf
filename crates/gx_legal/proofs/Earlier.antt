-- Earlier points of a run, and the commands under way there.
use Rattle.std.proofs.Common.{◌≡◌, ◌↔◌, ◌<◌, ◌+◌, ℕ, suc, Bool, true, false, IsTrue, List, [], ◌∷◌, ◌++◌, Some, length, take, drop, slice_get, refl, sym, subst, ap, ◌∙◌, eqb, arith, length-append}
use Rattle.std.proofs.lemmas.Bool.{eqb-true}
use Rattle.std.proofs.lemmas.List.{take-append-drop}
use Rattle.std.proofs.Math.Seq.{take-append_seam}
use Rattle.gx_ids.specs.declared.ids.Cid.{Cid}
use Rattle.gx_ids.specs.declared.ids.Gxid.{Gxid}
use Rattle.gx_ids.specs.declared.ids.SessionId.{SessionId}
use Rattle.gx_lemmas.proofs.Numbers.{lt-next}
use Rattle.gx_lemmas.proofs.Options.{some-same}
use Rattle.gx_script.specs.declared.Script.{Script}
use Rattle.gx_store.specs.declared.event.Event.{Event}
use Rattle.gx_store.specs.declared.mark.Mark.{Mark}
use Rattle.gx_store.specs.declared.run.Step.{Step}
use Rattle.gx_store.specs.Commands.{IsUnderWay}
use Rattle.gx_store.specs.Points.{IsBeforeInStep, IsPointOf, Point}
use Rattle.gx_tree.specs.declared.stmt.Level.{Level}
use Rattle.gx_tree.specs.declared.stmt.Stmt.{Stmt}
use Rattle.gx_legal.proofs.Sessions.{no-longer}
use Rattle.gx_legal.specs.Deeds.{Doing, IsByCommand, IsByEarlierInStep, IsByEarlierStep}
use Rattle.gx_legal.specs.Moments.{behind, in_step}

-- the marks behind a point don't count
under-later : (script : Script) (p : Point) (later : List Mark) (session : SessionId) (stmt : Stmt) (level : Level) (g : Gxid) (c : Cid)
    → IsUnderWay script p session stmt level g c → IsUnderWay script (record { steps = p.steps; event = p.event; earlier = p.earlier; later = later }) session stmt level g c
under-later script p later session stmt level g c u = record {
  runs = record {
    line = record { started = u.runs.line.started; line = u.runs.line.line };
    command = u.runs.command;
    transaction = u.runs.transaction;
    number = u.runs.number;
    isolation = u.runs.isolation;
  };
  running = u.running;
}

pub by-command-like : (script : Script) (p q : Point) (doing : Doing) → p.steps ≡ q.steps → p.event ≡ q.event → p.earlier ≡ q.earlier → IsByCommand script p doing → IsByCommand script q doing
by-command-like script p q doing s e m by =
    let P : List Step → Event → List Mark → Type 0 = λ ss ev ms. IsUnderWay script (record { steps = ss; event = ev; earlier = ms; later = q.later }) by.0 by.1.0 by.1.1 doing.g doing.c in
    let a : P p.steps p.event p.earlier = under-later script p q.later by.0 by.1.0 by.1.1 doing.g doing.c by.1.2 in
    let b : P q.steps p.event p.earlier = subst (λ ss. P ss p.event p.earlier) s a in
    let d : P q.steps q.event p.earlier = subst (λ ev. P q.steps ev p.earlier) e b in
    (by.0, (by.1.0, by.1.1, subst (λ ms. P q.steps q.event ms) m d, by.1.3))

pub in-step-like : (script : Script) (p q : Point) (doing : Doing) → p.steps ≡ q.steps → p.event ≡ q.event → p.earlier ≡ q.earlier → IsByEarlierInStep script p doing → IsByEarlierInStep script q doing
in-step-like script p q doing s e m by = (by.0, record { steps = by.1.steps ∙ s; event = by.1.event ∙ e; between = by.1.between; marks = sym m ∙ by.1.marks }, by.2)

module _ (script : Script) (point : Point) (doing : Doing) where
  -- IN THE POINT'S STEP
  pub in-step-none : (count : ℕ) → ((early : Point) → IsBeforeInStep early point → length early.earlier < count → IsByCommand script early doing → ⊥)
      → (IsByCommand script (in_step point count) doing → ⊥)
      → (early : Point) → IsBeforeInStep early point → length early.earlier < count + 1 → IsByCommand script early doing → ⊥
  in-step-none count below here early is inside by = by_test (eqb (length early.earlier) count) refl
    where
      by_test : (b : Bool) → eqb (length early.earlier) count ≡ b → ⊥
      by_test true e = here (by-command-like script early (in_step point count) doing is.steps is.event
          (sym (take-append_seam early.earlier is.between) ∙ ap (λ ms. take (length early.earlier) ms) (sym is.marks) ∙ ap (λ k. take k point.earlier) (eqb-true (length early.earlier) count e)) by)
      by_test false e = below early is (lt-next (length early.earlier) count inside e) by

  pub in-step-some : (count : ℕ) → IsByCommand script (in_step point count) doing → IsByEarlierInStep script point doing
  in-step-some count by = (in_step point count, record { steps = refl; event = refl; between = drop count point.earlier; marks = sym (take-append-drop count point.earlier) }, by)

  pub in-step-inside : (early : Point) → IsBeforeInStep early point → length early.earlier < length point.earlier + 1
  in-step-inside early is = inside (length early.earlier) (length is.between) (length point.earlier) (ap length is.marks ∙ length-append early.earlier is.between)
    where
      inside : (a b d : ℕ) → d ≡ a + b → a < d + 1
      inside a b d e = omega arith

  pub in-step-last : (b : Bool) → ((early : Point) → IsBeforeInStep early point → length early.earlier < length point.earlier → IsByCommand script early doing → ⊥)
      → IsTrue b ↔ IsByCommand script (in_step point (length point.earlier)) doing → IsTrue b ↔ IsByEarlierInStep script point doing
  in-step-last b below is = (λ t. in-step-some (length point.earlier) (is.0 t), λ by. by_test b refl by)
    where
      by_test : (x : Bool) → b ≡ x → IsByEarlierInStep script point doing → IsTrue b
      by_test true e by = e
      by_test false e by = absurd (in-step-none (length point.earlier) below (no-longer b is e) by.0 by.1 (in-step-inside by.0 by.1) by.2)

  -- IN EARLIER STEPS
  pub behind-some : (number : ℕ) (step : Step) → point.steps ≡ take number point.steps ++ step ∷ drop (number + 1) point.steps → IsByEarlierInStep script (behind point number step) doing
      → IsByEarlierStep script point doing
  behind-some number step split by =
      let early : Point = by.0 in
      let is : IsBeforeInStep early (behind point number step) = by.1 in (
        record { steps = early.steps; event = early.event; earlier = early.earlier; later = is.between },
        record { step = step; rest = drop (number + 1) point.steps; among = split ∙ ap (λ ss. ss ++ step ∷ drop (number + 1) point.steps) (sym is.steps); event = is.event; marks = is.marks },
        by-command-like script early (record { steps = early.steps; event = early.event; earlier = early.earlier; later = is.between }) doing refl refl refl by.2,
      )

  pub behind-none : (number : ℕ) (step : Step) → slice_get point.steps number ≡ Some step
      → ((early : Point) → IsPointOf point.steps early → length early.steps < number → IsByCommand script early doing → ⊥)
      → (IsByEarlierInStep script (behind point number step) doing → ⊥) → (early : Point) → IsPointOf point.steps early → length early.steps < number + 1 → IsByCommand script early doing → ⊥
  behind-none number step at below here early is inside by = by_test (eqb (length early.steps) number) refl
    where
      same : (ss : List Step) (k : ℕ) (t : Step) (rest : List Step) → k ≡ length ss → slice_get (ss ++ t ∷ rest) k ≡ Some t
      same [] k t rest e = rw e refl
      same (s ∷ ss) k t rest e = rw e (same ss (length ss) t rest refl)

      by_test : (b : Bool) → eqb (length early.steps) number ≡ b → ⊥
      by_test true e =
          let n : length early.steps ≡ number = eqb-true (length early.steps) number e in
          let t : is.step ≡ step = some-same _ _ (sym (same early.steps number is.step is.rest (sym n)) ∙ ap (λ ss. slice_get ss number) (sym is.among) ∙ at) in
          here (
            early,
            record {
              steps = sym (take-append_seam early.steps (is.step ∷ is.rest)) ∙ ap (λ ss. take (length early.steps) ss) (sym is.among) ∙ ap (λ k. take k point.steps) n;
              event = is.event ∙ ap (λ (s : Step). s.event) t;
              between = early.later;
              marks = ap (λ (s : Step). s.marks) (sym t) ∙ is.marks;
            },
            by,
          )
      by_test false e = below early is (lt-next (length early.steps) number inside e) by

  pub behind-inside : (early : Point) → IsPointOf point.steps early → length early.steps < length point.steps
  behind-inside early is = inside (length early.steps) (length is.rest) (length point.steps) (ap length is.among ∙ length-append early.steps (is.step ∷ is.rest))
    where
      inside : (a b d : ℕ) → d ≡ a + suc b → a < d
      inside a b d e = omega arith
