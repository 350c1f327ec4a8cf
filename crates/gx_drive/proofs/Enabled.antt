-- What is first of all that is enabled, piece by piece.
use Rattle.std.proofs.Common.{◌≡◌, ◌≤◌, List, [], ◌∷◌, ◌++◌, Bool, true, false, if◌then◌else◌, ◌&&◌, not, sym, refl, ap, ◌∙◌}
use Rattle.gx_ids.specs.declared.ids.SessionId.{SessionId}
use Rattle.gx_script.specs.declared.Script.{Script}
use Rattle.gx_store.specs.declared.event.Event.{Event}
use Rattle.gx_store.specs.declared.event.Event.TheVariants as event
use Rattle.gx_store.specs.declared.run.Step.{Step}
use Rattle.gx_store.specs.Points.{marks_in}
use Rattle.gx_store.specs.Schedule.{first_of, is_any_wait, is_round_running, is_to_end, rounds}
use Rattle.gx_rules.specs.Machine.{world_of}
use Rattle.gx_law_order.proofs.Legality.{sessions-stand}
use Rattle.gx_law_runs.proofs.Sessions.{end-alike}
use Rattle.gx_law_runs.specs.Reached.{IsReached}
use Rattle.gx_law_runs.specs.Replays.{is_admitted}
use Rattle.gx_law_runs.proofs.Reaching.{by-events}
use Rattle.gx_law_runs.proofs.Replaying.{world-replayed}
use Rattle.gx_law_runs.proofs.Telling.{can-told}
use Rattle.gx_drive.proofs.Firsts.{first-none, some-first}

-- WHAT IS FIRST
module _ (e : Event) (moves again starts ends rounds : List Event) where
  pub end-first : e ∷ [] ≡ first_of ends → e ∷ [] ≡ first_of (ends ++ rounds)
  end-first h = some-first e ends rounds h

  pub start-first : e ∷ [] ≡ first_of starts → e ∷ [] ≡ first_of (starts ++ ends ++ rounds)
  start-first h = some-first e (starts ++ ends) rounds (some-first e starts ends h)

  pub resend-first : e ∷ [] ≡ first_of again → e ∷ [] ≡ first_of (again ++ starts ++ ends ++ rounds)
  resend-first h = some-first e (again ++ starts ++ ends) rounds (some-first e (again ++ starts) ends (some-first e again starts h))

  pub move-first : e ∷ [] ≡ first_of moves → e ∷ [] ≡ first_of (moves ++ again ++ starts ++ ends ++ rounds)
  move-first h = some-first e (moves ++ again ++ starts ++ ends) rounds (some-first e (moves ++ again ++ starts) ends (some-first e (moves ++ again) starts (some-first e moves again h)))

-- behind nothing
pub past-ends : (script : Script) (steps : List Step) (ends : List Event) → [] ≡ first_of ends → rounds script steps ≡ first_of (ends ++ rounds script steps)
past-ends script steps ends none = by (script.detector && (not (is_round_running steps) && is_any_wait script (marks_in steps))) ∙ sym (ap (λ xs. first_of (xs ++ rounds script steps)) (first-none ends (sym none)))
  where
    by : (b : Bool) → (if b then event.Round ∷ [] else []) ≡ first_of (if b then event.Round ∷ [] else [])
    by true = refl
    by false = refl

pub past-starts : (starts ends rounds : List Event) → [] ≡ first_of starts → first_of (ends ++ rounds) ≡ first_of (starts ++ ends ++ rounds)
past-starts starts ends rounds none = sym (ap (λ xs. first_of (xs ++ ends ++ rounds)) (first-none starts (sym none)))

pub past-resends : (again starts ends rounds : List Event) → [] ≡ first_of again → first_of (starts ++ ends ++ rounds) ≡ first_of (again ++ starts ++ ends ++ rounds)
past-resends again starts ends rounds none = sym (ap (λ xs. first_of (xs ++ starts ++ ends ++ rounds)) (first-none again (sym none)))

pub past-moves : (moves again starts ends rounds : List Event) → [] ≡ first_of moves → first_of (again ++ starts ++ ends ++ rounds) ≡ first_of (moves ++ again ++ starts ++ ends ++ rounds)
past-moves moves again starts ends rounds none = sym (ap (λ xs. first_of (xs ++ again ++ starts ++ ends ++ rounds)) (first-none moves (sym none)))

-- a session is to be ended where the machine admits its end
pub end-admitted : (script : Script) → 1 ≤ script.segments → (steps : List Step) → IsReached script steps → (session : SessionId)
    → is_to_end script steps session ≡ is_admitted script steps (event.End session)
end-admitted script some steps is session =
    by-events script steps is (λ ss. is_to_end script ss session ≡ is_admitted script ss (event.End session))
    (λ es.
    end-alike script session (world_of script es).steps (world_of script es).coord (sessions-stand script some es session)
    ∙ can-told script (world_of script es).steps (world_of script es) (world-replayed script es) refl (event.End session))
