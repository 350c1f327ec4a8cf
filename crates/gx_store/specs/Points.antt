-- A point of a run: a place between two marks, with the steps before it and its own step.
use Rattle.std.specs.Prelude.{◌≡◌, ◌⊎◌, ℕ, ◌+◌, if◌then◌else◌, List, [], ◌∷◌, ◌++◌}
use Rattle.std.specs.List.{flat_map}
use Rattle.gx_ids.specs.declared.ids.SessionId.{SessionId}
use Rattle.gx_store.specs.declared.event.Event.{Event}
use Rattle.gx_store.specs.declared.event.Event.TheVariants as event
use Rattle.gx_store.specs.declared.mark.Mark.{Mark}
use Rattle.gx_store.specs.declared.run.Run.{Run}
use Rattle.gx_store.specs.declared.run.Step.{Step}
use Rattle.gx_store.specs.Marks.{is_same_session}

-- the marks of steps as one list
abbrev pub marks_in : List Step → List Mark
marks_in steps = flat_map (λ step. step.marks) steps

abbrev pub marks_of : Run → List Mark
marks_of run = marks_in run.steps

-- The steps before the point's own, the event of that step, and the marks of that step before the point and behind it. At a mark's
-- own point, at which it is judged, the marks behind don't hold that mark itself.
pub record Point : Type 0 where
  pub steps : List Step
  pub event : Event
  pub earlier : List Mark
  pub later : List Mark

-- all marks before the point
abbrev pub before : Point → List Mark
before point = marks_in point.steps ++ point.earlier

-- how many lines of a session an event starts
abbrev pub starts_by : SessionId → Event → ℕ
starts_by session (event.Start s) = if is_same_session s session then 1 else 0
starts_by session _ = 0

-- how many lines of the session were started in steps, and up to a point
abbrev pub starts_in : SessionId → List Step → ℕ
starts_in session [] = 0
starts_in session (s ∷ ss) = starts_by session s.event + starts_in session ss

abbrev pub starts_at : SessionId → Point → ℕ
starts_at session point = starts_in session point.steps + starts_by session point.event

-- how often the session was ended
abbrev pub ends_by : SessionId → Event → ℕ
ends_by session (event.End s) = if is_same_session s session then 1 else 0
ends_by session _ = 0

abbrev pub ends_in : SessionId → List Step → ℕ
ends_in session [] = 0
ends_in session (s ∷ ss) = ends_by session s.event + ends_in session ss

-- EARLIER POINTS
-- a point between the marks of one of these steps, before them or behind them: the marks before and behind are all its marks
pub record IsPointOf (steps : List Step) (point : Point) : Type 0 where
  pub step : Step
  pub rest : List Step
  pub among : steps ≡ point.steps ++ step ∷ rest
  pub event : point.event ≡ step.event
  pub marks : step.marks ≡ point.earlier ++ point.later

-- a point of the same step, before the other or the same
pub record IsBeforeInStep (early point : Point) : Type 0 where
  pub steps : early.steps ≡ point.steps
  pub event : early.event ≡ point.event
  pub between : List Mark
  pub marks : point.earlier ≡ early.earlier ++ between

abbrev pub IsNoLater : Point → Point → Type 0
IsNoLater early point = IsPointOf point.steps early ⊎ IsBeforeInStep early point
