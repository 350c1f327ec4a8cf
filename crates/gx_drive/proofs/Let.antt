-- What the groups let of what is enabled: everything but some of the lines that start.
use Rattle.std.proofs.Common.{◌≡◌, ℕ, List, [], ◌∷◌, ◌++◌, Bool, true, false, ◌&&◌, if◌then◌else◌, cond, not, refl, ap, ◌∙◌}
use Rattle.std.proofs.lemmas.List.Elements.{filter-append}
use Rattle.std.specs.List.{AllByRecursion, flat_map, list_any}
use Rattle.std.specs.Prelude.{Some, None, filter, map}
use Rattle.gx_ids.specs.declared.ids.Node.{Node}
use Rattle.gx_script.specs.declared.Script.{Script}
use Rattle.gx_store.specs.declared.event.Event.{Event}
use Rattle.gx_store.specs.declared.event.Event.TheVariants.{Receive, End, Resend, Resume, Round}
use Rattle.gx_store.specs.declared.run.Step.{Step}
use Rattle.gx_store.specs.Groups.{enabled_in, lets}
use Rattle.gx_store.specs.Points.{marks_in}
use Rattle.gx_store.specs.Refusals.{the_coordinator}
use Rattle.gx_store.specs.Schedule.{at_segment, ends, first_of, gxids_of, is_any_wait, is_graph_awaited, is_quiet, is_round_running, is_to_end, left_on, may_resend, resends, resumptions, rounds, segments_of, sessions_of, starts, waits_of}
use Rattle.gx_store.specs.Waits.{holds_at, waits_at}
use Rattle.gx_waits.specs.Claims.{is_clear}
use Rattle.gx_drive.proofs.Draws.{all-append, all-first, all-map, all-nodes}

module _ (script : Script) (steps : List Step) where
  abbrev Passes : Event → Type 0
  Passes e = lets script steps e ≡ true

  abbrev AllPass : List Event → Type 0
  AllPass events = AllByRecursion Passes events

  -- those that all pass are left as they are
  passing : (xs : List Event) → AllPass xs → filter (lets script steps) xs ≡ xs
  passing [] all = refl
  passing (x ∷ xs) all = ap (λ (b : Bool). cond b (x ∷ filter (lets script steps) xs) (filter (lets script steps) xs)) all.0 ∙ ap (λ ys. x ∷ ys) (passing xs all.1)

  received : (from to : Node) → AllPass (first_of (left_on script steps from to))
  received from to = all-first Passes (left_on script steps from to) (all-map Passes (Receive from to) (λ n. refl) _)

  resumed : (node : Node) → AllPass (resumptions (marks_in steps) node)
  resumed node =
      all-first Passes _
      (all-map Passes (Resume node) (λ g. refl) (filter (λ g. list_any (is_clear (holds_at (marks_in steps) node) (waits_at (marks_in steps) node)) (waits_of (marks_in steps) node g)) (gxids_of (marks_in steps))))

  moved : (segment : Node) → AllPass (at_segment script steps segment)
  moved segment =
      all-first Passes _ (all-append Passes (resumptions (marks_in steps) segment) (first_of (left_on script steps the_coordinator segment)) (resumed segment) (received the_coordinator segment))

  resent : (segment : Node) → AllPass (resends script steps segment)
  resent segment = by (is_quiet script steps segment) (is_graph_awaited steps segment)
    where
      again : List Event
      again = map (λ g. Resend segment (Some g)) (filter (may_resend steps segment) (gxids_of (marks_in steps)))

      all-again : AllPass again
      all-again = all-map Passes (λ g. Resend segment (Some g)) (λ g. refl) (filter (may_resend steps segment) (gxids_of (marks_in steps)))

      by : (quiet graph : Bool) → AllPass (if quiet then again ++ (if graph then Resend segment None ∷ [] else []) else [])
      by true true = all-append Passes again (Resend segment None ∷ []) all-again (refl, tt)
      by true false = all-append Passes again [] all-again tt
      by false graph = tt

  ended : AllPass (ends script steps)
  ended = all-map Passes End (λ session. refl) (filter (is_to_end script steps) (sessions_of script))

  begun : AllPass (rounds script steps)
  begun = by (script.detector && (not (is_round_running steps) && is_any_wait script (marks_in steps)))
    where
      by : (b : Bool) → AllPass (if b then Round ∷ [] else [])
      by true = (refl, tt)
      by false = tt

  -- what stands before the lines that start
  abbrev before_starts : List Event
  before_starts =
      flat_map (λ segment. first_of (left_on script steps segment the_coordinator)) (segments_of script)
      ++ flat_map (at_segment script steps) (segments_of script)
      ++ resumptions (marks_in steps) the_coordinator
      ++ flat_map (resends script steps) (segments_of script)

  all-before : AllPass before_starts
  all-before =
      all-append Passes _ (flat_map (resends script steps) (segments_of script))
      (all-append Passes _ (resumptions (marks_in steps) the_coordinator)
      (all-append Passes (flat_map (λ segment. first_of (left_on script steps segment the_coordinator)) (segments_of script)) (flat_map (at_segment script steps) (segments_of script))
      (all-nodes Passes (λ segment. first_of (left_on script steps segment the_coordinator)) 1 script.segments (λ i low high. received i the_coordinator))
      (all-nodes Passes (at_segment script steps) 1 script.segments (λ i low high. moved i)))
      (resumed the_coordinator))
      (all-nodes Passes (resends script steps) 1 script.segments (λ i low high. resent i))

  pub let-parts : enabled_in script steps ≡ before_starts ++ filter (lets script steps) (starts script steps) ++ ends script steps ++ rounds script steps
  let-parts =
      filter-append (lets script steps) (before_starts ++ starts script steps ++ ends script steps) (rounds script steps)
      ∙ ap (λ xs. xs ++ filter (lets script steps) (rounds script steps)) (filter-append (lets script steps) (before_starts ++ starts script steps) (ends script steps))
      ∙ ap (λ xs. (xs ++ filter (lets script steps) (ends script steps)) ++ filter (lets script steps) (rounds script steps)) (filter-append (lets script steps) before_starts (starts script steps))
      ∙ ap (λ xs. ((xs ++ filter (lets script steps) (starts script steps)) ++ filter (lets script steps) (ends script steps)) ++ filter (lets script steps) (rounds script steps)) (passing before_starts all-before)
      ∙ ap (λ xs. ((before_starts ++ filter (lets script steps) (starts script steps)) ++ xs) ++ filter (lets script steps) (rounds script steps)) (passing (ends script steps) ended)
      ∙ ap (λ xs. ((before_starts ++ filter (lets script steps) (starts script steps)) ++ ends script steps) ++ xs) (passing (rounds script steps) begun)
