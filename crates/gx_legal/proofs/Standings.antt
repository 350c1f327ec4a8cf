-- Where a session stands behind one more mark.
use Rattle.std.proofs.Common.{◌≡◌, ℕ, ◌+◌, ◌<◌, List, [], ◌∷◌, ◌++◌, get_or, length, take, subst, sym, ap, ◌∙◌, arith}
use Rattle.gx_legal.proofs.MarkPlaces.{take-next}
use Rattle.gx_ids.specs.declared.ids.SessionId.{SessionId}
use Rattle.gx_script.specs.declared.Script.{Script}
use Rattle.gx_store.specs.declared.mark.Mark.{Mark}
use Rattle.gx_store.specs.Lines.{state_from}
use Rattle.gx_store.specs.Marks.{is_begun_after, started_after}
use Rattle.gx_store.proofs.Lines.{state_from-append}
use Rattle.gx_store.proofs.Marks.{answer_count-append, is_begun_after-append, started_after-append}
use Rattle.gx_legal.specs.declared.standing.Standing.{Standing}
use Rattle.gx_legal.specs.Standings.{IsMoved}

pub moved-append : (script : Script) (session : SessionId) (old mid new : Standing) (xs ys : List Mark) → IsMoved script session old xs mid → IsMoved script session mid ys new
    → IsMoved script session old (xs ++ ys) new
moved-append script session old mid new xs ys m n = record {
  state = n.state ∙ ap (λ s. state_from script session s ys) m.state ∙ sym (state_from-append script session _ xs ys);
  begun = n.begun ∙ ap (λ b. is_begun_after session b ys) m.begun ∙ sym (is_begun_after-append session old.begun xs ys);
  started = n.started ∙ ap (λ g. started_after session g ys) m.started ∙ sym (started_after-append session old.started xs ys);
  answered = omega (arith, m.answered, n.answered, answer_count-append session xs ys);
}

pub moved-next : (script : Script) (session : SessionId) (old mid new : Standing) (xs : List Mark) (k : ℕ) (m : Mark) → k < length xs → m ≡ get_or xs k m
    → IsMoved script session old (take k xs) mid → IsMoved script session mid (m ∷ []) new → IsMoved script session old (take (k + 1) xs) new
moved-next script session old mid new xs k m inside is before here =
    subst (λ ms. IsMoved script session old ms new) (take-next xs k m inside is) (moved-append script session old mid new (take k xs) (m ∷ []) before here)
