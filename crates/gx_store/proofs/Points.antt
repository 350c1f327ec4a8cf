-- Earlier points of a run.
use Rattle.std.proofs.Common.{◌≡◌, ℕ, ◌+◌, ◌≤◌, List, [], ◌∷◌, ◌++◌, inl, inr, ap, ◌∙◌, arith}
use Rattle.gx_ids.specs.declared.ids.SessionId.{SessionId}
use Rattle.gx_store.specs.declared.run.Step.{Step}
use Rattle.gx_store.specs.Points.{IsNoLater, Point, starts_at, starts_by, starts_in}

pub starts_in-append : (session : SessionId) (xs ys : List Step) → starts_in session (xs ++ ys) ≡ starts_in session xs + starts_in session ys
starts_in-append session [] ys = omega arith
starts_in-append session (x ∷ xs) ys = omega (arith, starts_in-append session xs ys)

-- no more lines were started by then
pub starts_at-earlier : (session : SessionId) (early point : Point) → IsNoLater early point → starts_at session early ≤ starts_at session point
starts_at-earlier session early point (inl h) =
    within (starts_in session early.steps) (starts_by session early.event) (starts_by session h.step.event) (starts_in session h.rest) (starts_in session point.steps) (starts_by session point.event) (ap (starts_by session) h.event) (ap (starts_in session) h.among ∙ starts_in-append session early.steps (h.step ∷ h.rest))
  where
    within : (a b d r all e : ℕ) → b ≡ d → all ≡ a + (d + r) → a + b ≤ all + e
    within a b d r all e p q = omega arith
starts_at-earlier session early point (inr h) = same (starts_in session early.steps) (starts_by session early.event) _ _ (ap (starts_in session) h.steps) (ap (starts_by session) h.event)
  where
    same : (a b d e : ℕ) → a ≡ d → b ≡ e → a + b ≤ d + e
    same a b d e p q = omega arith
