-- Runs that grow by a step.
use Rattle.std.proofs.Common.{◌≡◌, ◌+◌, List, [], ◌∷◌, ◌++◌, ap, ◌∙◌, arith, append-nil}
use Rattle.std.proofs.lemmas.List.Concat.{flat_map-append}
use Rattle.gx_store.specs.declared.mark.Mark.{Mark}
use Rattle.gx_store.specs.declared.run.Step.{Step}
use Rattle.gx_ids.specs.declared.ids.SessionId.{SessionId}
use Rattle.gx_store.specs.Points.{ends_by, ends_in, marks_in, starts_by, starts_in}

pub marks_in-push : (steps : List Step) (step : Step) → marks_in (steps ++ step ∷ []) ≡ marks_in steps ++ step.marks
marks_in-push steps step = flat_map-append (λ (s : Step). s.marks) steps (step ∷ []) ∙ ap (λ (m : List Mark). marks_in steps ++ m) (append-nil step.marks)

pub starts_in-push : (session : SessionId) (steps : List Step) (step : Step) → starts_in session (steps ++ step ∷ []) ≡ starts_in session steps + starts_by session step.event
starts_in-push session [] step = omega arith
starts_in-push session (s ∷ ss) step = omega (arith, starts_in-push session ss step)

pub ends_in-push : (session : SessionId) (steps : List Step) (step : Step) → ends_in session (steps ++ step ∷ []) ≡ ends_in session steps + ends_by session step.event
ends_in-push session [] step = omega arith
ends_in-push session (s ∷ ss) step = omega (arith, ends_in-push session ss step)
