-- What marks say of one session: how many of its lines were answered, where it stands, and its transaction.
use Rattle.std.proofs.Common.{◌≡◌, ℕ, ◌+◌, List, [], ◌∷◌, ◌++◌, Option, Some, None, Bool, true, false, refl, ap, ◌∙◌, if◌then◌else◌, ◌||◌, arith}
use Rattle.gx_lemmas.proofs.Numbers.{eqb-self}
use Rattle.gx_ids.specs.declared.ids.Gxid.{Gxid}
use Rattle.gx_ids.specs.declared.ids.SessionId.{SessionId}
use Rattle.gx_script.specs.declared.Script.{Script}
use Rattle.gx_store.specs.declared.answer.StmtAnswer.{StmtAnswer}
use Rattle.gx_store.specs.declared.mark.Mark.{Mark}
use Rattle.gx_store.specs.declared.mark.Mark.TheVariants as mark
use Rattle.gx_store.specs.Lines.{BlockState, Outside, state_after_line, state_from, state_of, stmt_of}
use Rattle.gx_store.specs.Marks.{answer_count, is_begun, is_begun_after, is_same_session, started_after}
use Rattle.gx_store.proofs.Lines.{state_from-append}
use Rattle.gx_store.proofs.Marks.{answer_count-append, is_begun_after-append, started_after-append}
use Rattle.gx_law_order.specs.Lists.{Each}

pub record Said (script : Script) (k : SessionId) (ms : List Mark) (n : ℕ) (b : BlockState) (u : Bool) (g : Option Gxid) : Type 0 where
  pub answered : answer_count k ms ≡ n
  pub state : state_of script k ms ≡ b
  pub begun : is_begun k ms ≡ u
  pub started : started_after k None ms ≡ g

-- marks that start and answer nothing of the session
abbrev pub CalmFor : SessionId → Mark → Type 0
CalmFor k (mark.Start g s) = is_same_session s k ≡ false
CalmFor k (mark.Answer s n a) = is_same_session s k ≡ false
CalmFor k _ = Unit {0}

calm-count : (k : SessionId) (ms : List Mark) → Each (CalmFor k) ms → answer_count k ms ≡ 0
calm-count k [] e = refl
calm-count k (mark.Answer s n a ∷ ms) e = ap (λ q. if q then answer_count k ms + 1 else answer_count k ms) e.0 ∙ calm-count k ms e.1
calm-count k (m ∷ ms) e = calm-count k ms e.1

calm-state : (script : Script) (k : SessionId) (b : BlockState) (ms : List Mark) → Each (CalmFor k) ms → state_from script k b ms ≡ b
calm-state script k b [] e = refl
calm-state script k b (mark.Answer s n a ∷ ms) e =
    ap (λ q. state_from script k (if q then state_after_line b (stmt_of k n script.lines) a else b) ms) e.0 ∙ calm-state script k b ms e.1
calm-state script k b (m ∷ ms) e = calm-state script k b ms e.1

calm-begun : (k : SessionId) (u : Bool) (ms : List Mark) → Each (CalmFor k) ms → is_begun_after k u ms ≡ u
calm-begun k u [] e = refl
calm-begun k u (mark.Start g s ∷ ms) e = ap (λ q. is_begun_after k (q || u) ms) e.0 ∙ calm-begun k u ms e.1
calm-begun k u (mark.Answer s n a ∷ ms) e = ap (λ q. is_begun_after k (if q then false else u) ms) e.0 ∙ calm-begun k u ms e.1
calm-begun k u (m ∷ ms) e = calm-begun k u ms e.1

calm-started : (k : SessionId) (g : Option Gxid) (ms : List Mark) → Each (CalmFor k) ms → started_after k g ms ≡ g
calm-started k g [] e = refl
calm-started k g (mark.Start h s ∷ ms) e = ap (λ q. started_after k (if q then Some h else g) ms) e.0 ∙ calm-started k g ms e.1
calm-started k g (m ∷ ms) e = calm-started k g ms e.1

plus-none : (a n : ℕ) → a ≡ n → a + 0 ≡ n
plus-none a n e = omega arith

plus-one : (a n : ℕ) → a ≡ n → a + 1 ≡ n + 1
plus-one a n e = omega arith

pub said-calm : (script : Script) (k : SessionId) (ms ns : List Mark) (n : ℕ) (b : BlockState) (u : Bool) (g : Option Gxid) → Said script k ms n b u g → Each (CalmFor k) ns → Said script k (ms ++ ns) n b u g
said-calm script k ms ns n b u g h e =
    record {
      answered = answer_count-append k ms ns ∙ ap (λ i. answer_count k ms + i) (calm-count k ns e) ∙ plus-none (answer_count k ms) n h.answered;
      state = state_from-append script k Outside ms ns ∙ calm-state script k (state_of script k ms) ns e ∙ h.state;
      begun = is_begun_after-append k false ms ns ∙ calm-begun k (is_begun k ms) ns e ∙ h.begun;
      started = started_after-append k None ms ns ∙ calm-started k (started_after k None ms) ns e ∙ h.started;
    }

pub said-start : (script : Script) (k : SessionId) (ms : List Mark) (n : ℕ) (b : BlockState) (u : Bool) (g : Option Gxid) (h : Gxid) → Said script k ms n b u g → Said script k (ms ++ mark.Start h k ∷ []) n b true (Some h)
said-start script k ms n b u g h e =
    record {
      answered = answer_count-append k ms (mark.Start h k ∷ []) ∙ plus-none (answer_count k ms) n e.answered;
      state = state_from-append script k Outside ms (mark.Start h k ∷ []) ∙ e.state;
      begun = is_begun_after-append k false ms (mark.Start h k ∷ []) ∙ ap (λ q. q || is_begun k ms) (eqb-self k.0);
      started = started_after-append k None ms (mark.Start h k ∷ []) ∙ ap (λ q. if q then Some h else started_after k None ms) (eqb-self k.0);
    }

pub said-answer : (script : Script) (k : SessionId) (ms : List Mark) (n : ℕ) (b : BlockState) (u : Bool) (g : Option Gxid) (i : ℕ) (a : StmtAnswer) → Said script k ms n b u g → Said script k (ms ++ mark.Answer k i a ∷ []) (n + 1) (state_after_line b (stmt_of k i script.lines) a) false g
said-answer script k ms n b u g i a e =
    record {
      answered = answer_count-append k ms (mark.Answer k i a ∷ []) ∙ ap (λ q. answer_count k ms + (if q then 1 else 0)) (eqb-self k.0) ∙ plus-one (answer_count k ms) n e.answered;
      state = state_from-append script k Outside ms (mark.Answer k i a ∷ []) ∙ ap (λ q. if q then state_after_line (state_of script k ms) (stmt_of k i script.lines) a else state_of script k ms) (eqb-self k.0)
          ∙ ap (λ s. state_after_line s (stmt_of k i script.lines) a) e.state;
      begun = is_begun_after-append k false ms (mark.Answer k i a ∷ []) ∙ ap (λ q. if q then false else is_begun k ms) (eqb-self k.0);
      started = started_after-append k None ms (mark.Answer k i a ∷ []) ∙ e.started;
    }
