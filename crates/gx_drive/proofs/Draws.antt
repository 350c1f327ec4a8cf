-- Whatever is enabled is due and admitted, so whatever is first, or drawn, of what the groups let of it.
use Rattle.std.proofs.Common.{◌≡◌, ◌≤◌, ◌<◌, ℕ, zero, suc, ◌+◌, List, [], ◌∷◌, ◌++◌, Bool, true, false, ◌&&◌, if◌then◌else◌, cond, not, inl, inr, Option, None, Some, refl, sym, ap, subst, arith, slice_get}
use Rattle.std.proofs.lemmas.Option.{same_Some}
use Rattle.std.specs.List.{AllByRecursion, flat_map, list_all, list_any, range_with_len}
use Rattle.std.specs.Option.{option_to_list}
use Rattle.std.specs.Prelude.{IfNone, IfSome, filter, map}
use Rattle.gx_lemmas.proofs.Tests.{and-first, and-second}
use Rattle.gx_ids.specs.declared.ids.Node.{Node}
use Rattle.gx_meaning.specs.Plan.{nodes_from}
use Rattle.gx_script.specs.declared.Script.{Script}
use Rattle.gx_store.specs.declared.event.Event.{Event}
use Rattle.gx_store.specs.declared.event.Event.TheVariants.{Receive, End, Resend, Resume, Round, Start}
use Rattle.gx_store.specs.declared.run.Step.{Step}
use Rattle.gx_store.specs.Groups.{enabled_in, lets}
use Rattle.gx_store.specs.Ordered.{IsLink, IsSegment, sent_in}
use Rattle.gx_store.specs.Points.{marks_in}
use Rattle.gx_store.specs.Refusals.{the_coordinator}
use Rattle.gx_store.specs.Schedule.{at_segment, enabled, ends, first_of, gxids_of, is_any_unfinished, is_any_wait, is_graph_awaited, is_left, is_next, is_quiet, is_round_running, is_to_end, left_on, may_resend, resends, resumptions, rounds, segments_of, sessions_of, starts, waits_of}
use Rattle.gx_waits.specs.Claims.{is_clear}
use Rattle.gx_store.specs.Waits.{holds_at, waits_at}
use Rattle.gx_law_runs.specs.Reached.{IsReached}
use Rattle.gx_law_runs.specs.Replays.{is_admitted}
use Rattle.gx_law_runs.proofs.Reaching.{all-are-admitted, by-events}
use Rattle.gx_drive.specs.Agrees.{IsDue}
use Rattle.gx_drive.specs.Ordered.{IsFirst}
use Rattle.gx_drive.proofs.Firsts.{first-none}

module _ (P : Event → Type 0) where
  pub all-append : (xs ys : List Event) → AllByRecursion P xs → AllByRecursion P ys → AllByRecursion P (xs ++ ys)
  all-append [] ys h k = k
  all-append (x ∷ xs) ys h k = (h.0, all-append xs ys h.1 k)

  pub all-map : {X : Type 0} (f : X → Event) → ((x : X) → P (f x)) → (xs : List X) → AllByRecursion P (map f xs)
  all-map f each [] = tt
  all-map f each (x ∷ xs) = (each x, all-map f each xs)

  pub all-first : (xs : List Event) → AllByRecursion P xs → AllByRecursion P (first_of xs)
  all-first [] h = tt
  all-first (x ∷ xs) h = (h.0, tt)

  pub all-nodes : (f : Node → List Event) (k n : ℕ) → ((i : Node) → k ≤ i.0 → i.0 < k + n → AllByRecursion P (f i)) → AllByRecursion P (flat_map f (nodes_from k n))
  all-nodes f k zero each = tt
  all-nodes f k (suc n) each =
      all-append (f (record { 0 = k })) (flat_map f (nodes_from (k + 1) n)) (each (record { 0 = k }) (at k) (below k n))
      (all-nodes f (k + 1) n (λ i low high. each i (less k i.0 low) (more k n i.0 high)))
    where
      at : (a : ℕ) → a ≤ a
      at a = omega arith

      below : (a b : ℕ) → a < a + suc b
      below a b = omega arith

      less : (a b : ℕ) → a + 1 ≤ b → a ≤ b
      less a b h = omega (arith, h)

      more : (a n b : ℕ) → b < a + 1 + n → b < a + suc n
      more a n b h = omega (arith, h)

  at-place : (xs : List Event) (k : ℕ) (x : Event) → AllByRecursion P xs → slice_get xs k ≡ Some x → P x
  at-place [] k x all there = absurd (cc)
  at-place (y ∷ ys) zero x all there = subst P (same_Some y x there) all.0
  at-place (y ∷ ys) (suc k) x all there = at-place ys k x all.1 there

passes-at : (p : Event → Bool) (xs : List Event) (k : ℕ) (x : Event) → list_all p xs ≡ true → slice_get xs k ≡ Some x → p x ≡ true
passes-at p [] k x all there = absurd (cc)
passes-at p (y ∷ ys) zero x all there = subst (λ z. p z ≡ true) (same_Some y x there) (and-first (p y) (list_all p ys) all)
passes-at p (y ∷ ys) (suc k) x all there = passes-at p ys k x (and-second (p y) (list_all p ys) all) there

-- what stands at a place among those that pass a test stands at some place among all
at-filtered : (q : Event → Bool) (xs : List Event) (k : ℕ) (x : Event) → slice_get (filter q xs) k ≡ Some x → (j : ℕ) × (slice_get xs j ≡ Some x)
at-filtered q [] k x there = absurd (cc)
at-filtered q (y ∷ ys) k x there = by_test (q y) k there (λ k there. at-filtered q ys k x there)
  where
    later : (j : ℕ) × (slice_get ys j ≡ Some x) → (j : ℕ) × (slice_get (y ∷ ys) j ≡ Some x)
    later (j, at) = (suc j, at)

    by_test : (b : Bool) (k : ℕ) → slice_get (cond b (y ∷ filter q ys) (filter q ys)) k ≡ Some x → ((k : ℕ) → slice_get (filter q ys) k ≡ Some x → (j : ℕ) × (slice_get ys j ≡ Some x)) → (j : ℕ) × (slice_get (y ∷ ys) j ≡ Some x)
    by_test true zero there f = (0, there)
    by_test true (suc k) there f = later (f k there)
    by_test false k there f = later (f k there)

module _ (script : Script) (steps : List Step) where
  abbrev AreDue : List Event → Type 0
  AreDue events = AllByRecursion (IsDue script steps) events

  receipt-due : (from to : Node) → IsLink script from to → AreDue (first_of (left_on script steps from to))
  receipt-due from to link = by (filter (is_left script steps from to) (range_with_len 1 (sent_in from to steps))) refl
    where
      by : (ns : List ℕ) → left_on script steps from to ≡ map (Receive from to) ns → AreDue (first_of (map (Receive from to) ns))
      by [] is = tt
      by (n ∷ ns) is = ((link, ap first_of is), tt)

  resumptions-due : (node : Node) → AreDue (resumptions (marks_in steps) node)
  resumptions-due node =
      all-first (IsDue script steps) _ (all-map (IsDue script steps) (Resume node) (λ g. tt) (filter (λ g. list_any (is_clear (holds_at (marks_in steps) node) (waits_at (marks_in steps) node)) (waits_of (marks_in steps) node g)) (gxids_of (marks_in steps))))

  segment-due : (segment : Node) → IsSegment script segment → AreDue (at_segment script steps segment)
  segment-due segment there =
      all-first (IsDue script steps) _
      (all-append (IsDue script steps) (resumptions (marks_in steps) segment) (first_of (left_on script steps the_coordinator segment)) (resumptions-due segment) (receipt-due the_coordinator segment (inl (refl, there))))

  resends-due : (segment : Node) → AreDue (resends script steps segment)
  resends-due segment = by (is_quiet script steps segment) (is_graph_awaited steps segment)
    where
      again : List Event
      again = map (λ g. Resend segment (Some g)) (filter (may_resend steps segment) (gxids_of (marks_in steps)))

      all-again : AreDue again
      all-again = all-map (IsDue script steps) (λ g. Resend segment (Some g)) (λ g. tt) (filter (may_resend steps segment) (gxids_of (marks_in steps)))

      by : (quiet graph : Bool) → AreDue (if quiet then again ++ (if graph then Resend segment None ∷ [] else []) else [])
      by true true = all-append (IsDue script steps) again (Resend segment None ∷ []) all-again (tt, tt)
      by true false = all-append (IsDue script steps) again [] all-again tt
      by false graph = tt

  -- and so is what is sent again first
  pub again-due : (e : Event) → e ∷ [] ≡ first_of (flat_map (resends script steps) (segments_of script)) → IsDue script steps e
  again-due e first = by (flat_map (resends script steps) (segments_of script)) (all-nodes (IsDue script steps) (resends script steps) 1 script.segments (λ i low high. resends-due i)) first
    where
      by : (xs : List Event) → AreDue xs → e ∷ [] ≡ first_of xs → IsDue script steps e
      by [] all is = absurd (cc)
      by (x ∷ xs) all is = let same : x ≡ e = cc in subst (IsDue script steps) same all.0

  rounds-due : AreDue (rounds script steps)
  rounds-due = by (script.detector && (not (is_round_running steps) && is_any_wait script (marks_in steps)))
    where
      by : (b : Bool) → AreDue (if b then Round ∷ [] else [])
      by true = (tt, tt)
      by false = tt

  all-due : AreDue (enabled script steps)
  all-due =
      all-append (IsDue script steps) (from ++ at ++ here ++ again ++ starts script steps ++ ends script steps) (rounds script steps)
      (all-append (IsDue script steps) (from ++ at ++ here ++ again ++ starts script steps) (ends script steps)
      (all-append (IsDue script steps) (from ++ at ++ here ++ again) (starts script steps)
      (all-append (IsDue script steps) (from ++ at ++ here) again
      (all-append (IsDue script steps) (from ++ at) here
      (all-append (IsDue script steps) from at
      (all-nodes (IsDue script steps) (λ segment. first_of (left_on script steps segment the_coordinator)) 1 script.segments (λ i low high. receipt-due i the_coordinator (inr ((low, within i.0 script.segments high), refl))))
      (all-nodes (IsDue script steps) (at_segment script steps) 1 script.segments (λ i low high. segment-due i (low, within i.0 script.segments high))))
      (resumptions-due the_coordinator))
      (all-nodes (IsDue script steps) (resends script steps) 1 script.segments (λ i low high. resends-due i)))
      (all-map (IsDue script steps) (λ line. Start line.session) (λ line. tt) (filter (is_next steps) script.lines)))
      (all-map (IsDue script steps) End (λ session. tt) (filter (is_to_end script steps) (sessions_of script))))
      rounds-due
    where
      from : List Event
      from = flat_map (λ segment. first_of (left_on script steps segment the_coordinator)) (segments_of script)

      at : List Event
      at = flat_map (at_segment script steps) (segments_of script)

      here : List Event
      here = resumptions (marks_in steps) the_coordinator

      again : List Event
      again = flat_map (resends script steps) (segments_of script)

      within : (a n : ℕ) → a < 1 + n → a ≤ n
      within a n h = omega (arith, h)

  -- what the groups let is enabled
  place-of : (k : ℕ) (e : Event) → slice_get (enabled_in script steps) k ≡ Some e → (j : ℕ) × (slice_get (enabled script steps) j ≡ Some e)
  place-of k e there = at-filtered (lets script steps) (enabled script steps) k e there

  pub drawn-due : (k : ℕ) (e : Event) → slice_get (enabled_in script steps) k ≡ Some e → IsDue script steps e
  drawn-due k e there = let found = place-of k e there in at-place (IsDue script steps) (enabled script steps) found.0 e all-due found.1

  pub drawn-is : (o : Option Event) (k : ℕ) → o ≡ slice_get (enabled_in script steps) k → IfSome o (λ e. slice_get (enabled_in script steps) k ≡ Some e)
  drawn-is None k is = tt
  drawn-is (Some e) k is = sym is

  -- WHAT IS FIRST
  pub first-is : (o : Option Event) → is_any_unfinished script steps ≡ true → option_to_list o ≡ first_of (enabled_in script steps) → IfSome o (IsFirst script steps)
  first-is None unfinished first = tt
  first-is (Some e) unfinished first = record { unfinished = unfinished; first = sym first }

  pub first-nothing : (o : Option Event) → option_to_list o ≡ first_of (enabled_in script steps) → IfNone o (enabled_in script steps ≡ [])
  first-nothing None first = first-none (enabled_in script steps) (sym first)
  first-nothing (Some e) first = tt

  module _ (some : 1 ≤ script.segments) (is : IsReached script steps) where
    pub drawn-admitted : (k : ℕ) (e : Event) → slice_get (enabled_in script steps) k ≡ Some e → is_admitted script steps e ≡ true
    drawn-admitted k e there =
        let found = place-of k e there in
        passes-at (is_admitted script steps) (enabled script steps) found.0 e
        (by-events script steps is (λ ss. list_all (is_admitted script ss) (enabled script ss) ≡ true) (all-are-admitted script some)) found.1

    pub first-admitted : (o : Option Event) → option_to_list o ≡ first_of (enabled_in script steps) → IfSome o (λ e. is_admitted script steps e ≡ true)
    first-admitted None first = tt
    first-admitted (Some e) first = drawn-admitted 0 e (place (enabled_in script steps) (sym first))
      where
        place : (xs : List Event) → first_of xs ≡ e ∷ [] → slice_get xs 0 ≡ Some e
        place [] h = absurd (cc)
        place (x ∷ xs) h = cc
