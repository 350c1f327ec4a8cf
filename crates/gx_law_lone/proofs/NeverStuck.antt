-- A run that can't go on beside groups has no detector.
use Rattle.std.proofs.Common.{◌≡◌, ◌⊎◌, inl, inr, ℕ, zero, suc, ◌+◌, ◌<◌, ◌≤◌, ◌==◌, ◌&&◌, ◌||◌, not, Bool, true, false, cond, List, [], ◌∷◌, ◌++◌, length, map, Option, Some, None, slice_get, get_or, refl, sym, ap, ◌∙◌, subst, arith, All}
use Rattle.std.proofs.lemmas.Bool.{or_right}
use Rattle.std.proofs.lemmas.Bool.Decides.{nat_tests}
use Rattle.std.proofs.lemmas.List.FromFn.{length-range_with_len}
use Rattle.std.proofs.lemmas.Option.{slice_get_past}
use Rattle.std.specs.List.{list_all, range_with_len}
use Rattle.std.specs.Prelude.{filter, nat_lt}
use Rattle.gx_lemmas.proofs.Numbers.{le-of, lt-of}
use Rattle.gx_lemmas.proofs.Tests.{and-first, and-second, true-false}
use Rattle.gx_groups.proofs.Counts.{itself}
use Rattle.gx_groups.proofs.Fresh.{nobody-asks}
use Rattle.gx_groups.proofs.Runs.{in-order, whole-after}
use Rattle.gx_groups.specs.Calls.{Ask, Call, Give, IsRun, Take, after, asked_by, is_seated, only_if, taken_by}
use Rattle.gx_groups.specs.Slots.{Slots, fresh, has, is_first, lets as lets_in}
use Rattle.gx_groups.specs.Table.{Table, asks, asks_at, fresh_groups, group_at, is_asking, is_held_up, may, may_at, new_seat, seat_of}
use Rattle.gx_groups.specs.declared.seat.Seat.{Seat}
use Rattle.gx_groups.specs.declared.seat.Seat.TheVariants.{Alone, Grouped}
use Rattle.gx_ids.specs.declared.ids.Gxid.{Gxid}
use Rattle.gx_ids.specs.declared.ids.SessionId.{SessionId}
use Rattle.gx_script.specs.declared.Line.{Line}
use Rattle.gx_script.specs.declared.Script.{Script}
use Rattle.gx_script.specs.declared.group.SlotGroup.{SlotGroup}
use Rattle.gx_store.specs.Groups.{draws_next, enabled_in, fresh_slots, group_limit, is_to_open, lets, open_in, place_in, slots_after}
use Rattle.gx_store.specs.Heads.{IsGroup}
use Rattle.gx_store.specs.Language.{AreLinesNumbered, IsScript}
use Rattle.gx_store.specs.Lines.{BlockState, next_stmt, state_of, stmt_of}
use Rattle.gx_store.specs.Marks.{answer_count, is_aborted, is_committed, is_ended, is_same_gxid, is_same_session, session_of, start_count}
use Rattle.gx_store.specs.Points.{marks_in, starts_in}
use Rattle.gx_store.specs.Rounds.{is_started}
use Rattle.gx_store.specs.Schedule.{enabled, ends, is_idle, is_next, rounds, sessions_of, starts}
use Rattle.gx_store.specs.Whole.{AreInsertsWhole}
use Rattle.gx_store.specs.declared.event.Event.{Event}
use Rattle.gx_store.specs.declared.event.Event.TheVariants as event
use Rattle.gx_store.specs.declared.mark.Mark.{Mark}
use Rattle.gx_store.specs.declared.mark.Mark.TheVariants as mark
use Rattle.gx_store.specs.declared.opened.Opened.{Opened}
use Rattle.gx_store.specs.declared.run.Step.{Step}
use Rattle.gx_waits.proofs.Members.{Has, contains_from_has}
use Rattle.gx_rules.specs.AtCoordinator.{is_unfinished_there}
use Rattle.gx_rules.specs.Machine.{World, world_of}
use Rattle.gx_law_order.proofs.Lists.{each_append}
use Rattle.gx_law_order.proofs.Numbered.{starts-numbered}
use Rattle.gx_law_order.proofs.World.{Knows, world_knows}
use Rattle.gx_law_order.specs.Lists.{Each}
use Rattle.gx_law_order.specs.Stages.{Stage, is_running, stage_of}
use Rattle.gx_law_order.specs.Stages.Stage.{Absent, Closing, Dropped, Finished, Live}
use Rattle.gx_law_locks.proofs.Starts.{started-within}
use Rattle.gx_law_locks.proofs.Told.{world-told}
use Rattle.gx_law_runs.proofs.Going.{anybody-waits, openings-pass, stuck-without, stuck-without-detector}
use Rattle.gx_law_runs.proofs.Nothing.{nil-filter}
use Rattle.gx_law_runs.specs.Openings.{is_opening}
use Rattle.gx_law_runs.specs.Reached.{IsReached}
use Rattle.gx_law_runs.specs.Replays.{coordinator_after}
use Rattle.gx_law_groups.proofs.Bounds.{Bound}
use Rattle.gx_law_groups.proofs.Runs.{asked_at, bound-after}
use Rattle.gx_law_groups.proofs.Slots.{is_open_at, limits, places, session_in, whole-new}
use Rattle.gx_law_groups.proofs.Tables.{limit-on, seated-after}
use Rattle.gx_law_groups.proofs.Through.{same-of}
use Rattle.gx_law_groups.proofs.Tidy as tidy
use Rattle.gx_law_groups.proofs.Tidy.{IsOwn, own-home}
use Rattle.gx_law_lone.specs.Alone.{WaitsSomewhere}
use Rattle.gx_law_lone.specs.Victims.{AreLet}
use Rattle.gx_law_lone.proofs.Alone.{runner-waits}
use Rattle.gx_law_lone.proofs.Askers.{groups-open, legal-steps, lines-inside}
use Rattle.gx_law_lone.proofs.Choices.{each-has, filter-has, has-all, has-before, has-behind, has-filter}
use Rattle.gx_law_lone.proofs.Grouped.{starts-let}

-- WHO HAS BEGUN AND NOT ENDED WAITS
started-of : (ms : List Mark) (g : Gxid) (s : SessionId) → session_of ms g ≡ Some s → is_started ms g ≡ true
started-of [] g s e = absurd (cc)
started-of (mark.Start h x ∷ ms) g s e = by_test (is_same_gxid h g) e (started-of ms g s)
  where
    by_test : (b : Bool) → cond b (Some x) (session_of ms g) ≡ Some s → (session_of ms g ≡ Some s → is_started ms g ≡ true) → (b || is_started ms g) ≡ true
    by_test true q later = refl
    by_test false q later = later q
started-of (_ ∷ ms) g s e = started-of ms g s e

module _ (script : Script) (some : 1 ≤ script.segments) (inserts : AreInsertsWhole script.tables script.lines) (es : List (Event × Bool)) (openings : list_all (is_opening script (world_of script es).steps) (enabled script (world_of script es).steps) ≡ true) where
  abbrev w : World
  w = world_of script es

  abbrev marks : List Mark
  marks = marks_in (world_of script es).steps

  module _ (g : Gxid) (begun : is_started (marks_in (world_of script es).steps) g ≡ true) (unended : is_ended (marks_in (world_of script es).steps) g ≡ false) where
    drawn : (1 ≤ g.0) × (g.0 < w.coord.table.next.0)
    drawn = let d = started-within [] marks g (starts-numbered script some es) begun in (above g.0 d.0, within g.0 (start_count marks) w.coord.table.next.0 (world-told script some es).next d.1)
      where
        above : (a : ℕ) → 0 < a → 1 ≤ a
        above a l = omega arith

        within : (a n k : ℕ) → k ≡ n + 1 → a ≤ 0 + n → a < k
        within a n k e l = omega arith

    knows : Knows script w
    knows = world_knows script some es

    over : is_running (stage_of w.coord g.0) ≡ false → ⊥
    over q = true-false (is_ended marks g) (knows.past.ended g.0 drawn.0 drawn.1 q) unended

    runs : (a : Stage) → stage_of (world_of script es).coord g.0 ≡ a → (stage_of (world_of script es).coord g.0 ≡ Live) ⊎ (stage_of (world_of script es).coord g.0 ≡ Closing)
    runs Live q = inl q
    runs Closing q = inr q
    runs Absent q = absurd (over (ap is_running q))
    runs Finished q = absurd (over (ap is_running q))
    runs Dropped q = absurd (true-false (is_ended marks g) (or_right (is_committed marks g) (is_aborted marks g) (knows.past.dropped g.0 q)) unended)

    -- so there is no detector
    pub open-without : AreLinesNumbered [] script.lines → All (λ line. line.session.0 < length script.sessions) script.lines → script.detector ≡ false
    open-without numbered sessions = stuck-without script some inserts es openings (anybody-waits script w x.at g x.within x.waits)
      where
        x : WaitsSomewhere script (world_of script es) g
        x = runner-waits script some inserts es (openings-pass script some inserts es openings) numbered sessions g (runs (stage_of (world_of script es).coord g.0) refl)

-- TABLES
-- whose seat is a group's place
seat-of : (place : ℕ) (o : Option Seat) → is_seated place o ≡ true → o ≡ Some (Grouped place)
seat-of place None e = absurd (cc)
seat-of place (Some (Alone standing)) e = absurd (cc)
seat-of place (Some (Grouped p)) e = ap (λ n. Some (Grouped n)) (same p place e)
  where
    same : (a b : ℕ) → (a == b) ≡ true → a ≡ b
    same a b e = grind (arith, nat_tests)

-- each group of a new table has a slot
fresh-slots : (n : ℕ) (of : List (Option ℕ)) (from : ℕ) (gs : List SlotGroup) → All (IsGroup n) gs → (place : ℕ)
    → place < length (fresh_groups of from (map group_limit gs)) → 1 ≤ (get_or (fresh_groups of from (map group_limit gs)) place (fresh 0 [])).limit
fresh-slots n of from [] all place l = absurd (omega arith)
fresh-slots n of from (g ∷ gs) all zero l = (all 0 g (omega arith)).some_slots
fresh-slots n of from (g ∷ gs) all (suc place) l = fresh-slots n of (from + 1) gs (λ i d k. all (suc i) d (omega (arith, k))) place (omega (arith, l))

-- whoever asked in a group is one of it
asked-seated : (t : Table) (place : ℕ) (calls : List Call) → Each (λ s. is_seated place (seat_of t s) ≡ true) (asked_by t place calls)
asked-seated t place [] = tt
asked-seated t place (Ask s ∷ before) =
    each_append (λ x. is_seated place (seat_of t x) ≡ true) (asked_by t place before) (only_if (is_seated place (seat_of t s)) s) (asked-seated t place before) (by_test (is_seated place (seat_of t s)) refl)
  where
    by_test : (b : Bool) → is_seated place (seat_of t s) ≡ b → Each (λ x. is_seated place (seat_of t x) ≡ true) (only_if b s)
    by_test true e = (e, tt)
    by_test false e = tt
asked-seated t place (Take s ∷ before) = asked-seated t place before
asked-seated t place (Give s ∷ before) = asked-seated t place before

length-mapped : {A B : Type 0} (f : A → B) (xs : List A) → length (map f xs) ≡ length xs
length-mapped f [] = refl
length-mapped f (x ∷ xs) = ap suc (length-mapped f xs)

own-in : {A : Type 0} (P : A → Type 0) (xs : List A) (x : A) → tidy.Each P xs → Has x xs → P x
own-in P [] x e h = absurd h
own-in P (y ∷ xs) x e (inl q) = subst P q e.0
own-in P (y ∷ xs) x e (inr h) = own-in P xs x e.1 h

-- of a group of which somebody has to wait: a transaction of it is open, or the first that asks may begin
data Reason (script : Script) (steps : List Step) : Type 0 where
  IsFull : (o : Opened) → Has o (open_in (marks_in steps)) → Reason script steps
  MayBegin : (first : SessionId) → is_to_open script steps first ≡ true → may (slots_after script steps) first ≡ true → Reason script steps

module _ (script : Script) (language : IsScript script) (steps : List Step) (b : Bound script steps (slots_after script steps) (λ place. asked_at script place steps)) where
  abbrev t : Table
  t = slots_after script steps

  abbrev new : Table
  new = fresh_slots script

  abbrev at_place : ℕ → Slots
  at_place place = group_at (slots_after script steps) place

  seats-length : length (fresh_slots script).seats ≡ length script.sessions
  seats-length =
      length-mapped new_seat (map (λ s. place_in s script.groups) (sessions_of script))
      ∙ length-mapped (λ s. place_in s script.groups) (sessions_of script)
      ∙ length-mapped (λ n. let x : SessionId = record { 0 = n } in x) (range_with_len 0 (length script.sessions))
      ∙ length-range_with_len 0 (length script.sessions)

  -- whoever is seated is a session
  is-session : (s : SessionId) (seat : Seat) → seat_of (fresh_slots script) s ≡ Some seat → s.0 < length script.sessions
  is-session s seat e = by_test (nat_lt s.0 (length script.sessions)) refl
    where
      none : slice_get (fresh_slots script).seats s.0 ≡ None → ⊥
      none q = cc

      by_test : (b : Bool) → nat_lt s.0 (length script.sessions) ≡ b → s.0 < length script.sessions
      by_test true q = lt-of s.0 (length script.sessions) q
      by_test false q = absurd (none (slice_get_past (fresh_slots script).seats s.0 (subst (λ m. m ≤ s.0) (sym seats-length) (le-of s.0 (length script.sessions) q))))

  seated : (s : SessionId) (place : ℕ) → is_seated place (seat_of (slots_after script steps) s) ≡ is_seated place (seat_of (fresh_slots script) s)
  seated s place = ap (λ x. is_seated place (seat_of x s)) b.slotted.is ∙ seated-after new b.slotted.calls s place

  limit-kept : (calls : List Call) (place : ℕ) → IsRun (fresh_slots script) calls → (group_at (after (fresh_slots script) calls) place).limit ≡ (group_at (fresh_slots script) place).limit
  limit-kept [] place run = refl
  limit-kept (c ∷ cs) place run = limit-on (after new cs) c place (whole-after new cs run.0 (whole-new script)) ∙ limit-kept cs place run.0

  -- A SESSION OF THE GROUP AT A PLACE
  module _ (s : SessionId) (place : ℕ) (sits : seat_of (slots_after script steps) s ≡ Some (Grouped place)) where
    was-seated : seat_of (fresh_slots script) s ≡ Some (Grouped place)
    was-seated = seat-of place (seat_of new s) (sym (seated s place) ∙ ap (is_seated place) sits ∙ same place)
      where
        same : (n : ℕ) → (n == n) ≡ true
        same n = grind (arith, nat_tests)

    some-slots : 1 ≤ (group_at (slots_after script steps) place).limit
    some-slots =
        subst (λ n. 1 ≤ n) (sym (ap (λ x. (group_at x place).limit) b.slotted.is ∙ limit-kept b.slotted.calls place b.slotted.run))
        (fresh-slots (length script.sessions) (places script) 0 script.groups language.groups.each place ((whole-new script).within s.0 place was-seated))

    -- the group is full
    full : nat_lt (length (group_at (slots_after script steps) place).holders) (group_at (slots_after script steps) place).limit ≡ false → Reason script steps
    full q = by_open (filter (is_open_at script place) (open_in (marks_in steps))) refl
      where
        many : (n m : ℕ) → m ≤ n → 1 ≤ m → n ≡ 0 → ⊥
        many n m l k e = omega arith

        by_open : (os : List Opened) → filter (is_open_at script place) (open_in (marks_in steps)) ≡ os → Reason script steps
        by_open [] e =
            absurd (many (length (at_place place).holders) (at_place place).limit (le-of (length (at_place place).holders) (at_place place).limit q) some-slots
            (ap length (b.slotted.holders place) ∙ ap (λ os. length (map session_in os)) e))
        by_open (o ∷ os) e = IsFull o (filter-has (is_open_at script place) (open_in (marks_in steps)) o (subst (Has o) (sym e) (inl refl))).0

    -- a slot is free, and this one asked first
    first-begins : (f : SessionId) (rest : List SessionId) → (group_at (slots_after script steps) place).askers ≡ f ∷ rest
        → nat_lt (length (group_at (slots_after script steps) place).holders) (group_at (slots_after script steps) place).limit ≡ true → Reason script steps
    first-begins f rest e q = MayBegin f (sym (b.slotted.who_asks f (is-session f (Grouped place) own-seat)) ∙ asking) may-take
      where
        listed : taken_by (fresh_slots script) place b.slotted.calls ++ (group_at (slots_after script steps) place).askers ≡ asked_by (fresh_slots script) place b.slotted.calls
        listed =
            ap (λ x. taken_by new place b.slotted.calls ++ (group_at x place).askers) b.slotted.is
            ∙ in-order new b.slotted.calls place b.slotted.run (whole-new script)
            ∙ nobody-asks (places script) 0 (limits script) place (asked_by new place b.slotted.calls)

        inside : Has f (asked_by (fresh_slots script) place b.slotted.calls)
        inside = subst (Has f) listed (has-behind f (taken_by new place b.slotted.calls) (at_place place).askers (subst (Has f) (sym e) (inl refl)))

        its : is_seated place (seat_of (fresh_slots script) f) ≡ true
        its = each-has (λ x. is_seated place (seat_of new x) ≡ true) (asked_by new place b.slotted.calls) f (asked-seated new place b.slotted.calls) inside

        own-seat : seat_of (fresh_slots script) f ≡ Some (Grouped place)
        own-seat = seat-of place (seat_of new f) its

        now-seat : seat_of (slots_after script steps) f ≡ Some (Grouped place)
        now-seat = seat-of place (seat_of t f) (seated f place ∙ its)

        either : (a c : Bool) → a ≡ true → (a || c) ≡ true
        either a c e = grind arith

        both : (a c : Bool) → a ≡ true → c ≡ true → (a && c) ≡ true
        both a c e f = grind arith

        asking : asks (slots_after script steps) f ≡ true
        asking = ap (asks_at t f) now-seat ∙ ap (has f) e ∙ either _ (has f rest) (itself f)

        may-take : may (slots_after script steps) f ≡ true
        may-take = ap (may_at t f) now-seat ∙ both _ _ (ap (is_first f) e ∙ itself f) q

    waits-for : has s (group_at (slots_after script steps) place).askers ≡ true → Reason script steps
    waits-for a = by_free (nat_lt (length (at_place place).holders) (at_place place).limit) refl
      where
        by_askers : (xs : List SessionId) → (group_at (slots_after script steps) place).askers ≡ xs → has s xs ≡ true
            → nat_lt (length (group_at (slots_after script steps) place).holders) (group_at (slots_after script steps) place).limit ≡ true → Reason script steps
        by_askers [] e h q = absurd (cc)
        by_askers (f ∷ rest) e h q = first-begins f rest e q

        by_free : (b : Bool) → nat_lt (length (group_at (slots_after script steps) place).holders) (group_at (slots_after script steps) place).limit ≡ b → Reason script steps
        by_free true q = by_askers (at_place place).askers refl a q
        by_free false q = full q

  never : (a : Bool) → (a && not a) ≡ true → ⊥
  never true e = cc
  never false e = cc

  held-up : (s : SessionId) → is_held_up (slots_after script steps) s ≡ true → Reason script steps
  held-up s e = by_seat (seat_of t s) refl e
    where
      by_seat : (o : Option Seat) → seat_of (slots_after script steps) s ≡ o → (asks_at (slots_after script steps) s o && not (may_at (slots_after script steps) s o)) ≡ true → Reason script steps
      by_seat None q h = absurd (cc)
      by_seat (Some (Alone standing)) q h = absurd (never (is_asking standing) h)
      by_seat (Some (Grouped place)) q h = waits-for s place q (and-first (has s (at_place place).askers) (not (lets_in (at_place place) s)) h)

-- WHO IS TO OPEN MAY START
-- the line of a session of a number
has-line : (k : SessionId) (number : ℕ) (ls : List Line) (st : BlockState) → draws_next st (stmt_of k number ls) ≡ true → (line : Line) × Has line ls × (line.session ≡ k) × (line.number ≡ number)
has-line k number [] st e = absurd (none st e)
  where
    none : (st : BlockState) → draws_next st None ≡ true → ⊥
    none st e = cc
has-line k number (l ∷ ls) st e = by_test (is_same_session l.session k && (l.number == number)) refl e (has-line k number ls st)
  where
    same : (a c : ℕ) → (a == c) ≡ true → a ≡ c
    same a c e = grind (arith, nat_tests)

    by_test : (b : Bool) → (is_same_session l.session k && (l.number == number)) ≡ b → draws_next st (cond b (Some l.stmt) (stmt_of k number ls)) ≡ true
        → (draws_next st (stmt_of k number ls) ≡ true → (line : Line) × Has line ls × (line.session ≡ k) × (line.number ≡ number)) → (line : Line) × Has line (l ∷ ls) × (line.session ≡ k) × (line.number ≡ number)
    by_test true q f later = (l, inl refl, same-of l.session k (and-first (is_same_session l.session k) (l.number == number) q), same l.number number (and-second (is_same_session l.session k) (l.number == number) q))
    by_test false q f later = let x = later f in (x.0, inr x.1, x.2, x.3)

has-map : {A B : Type 0} (f : A → B) (xs : List A) (x : A) → Has x xs → Has (f x) (map f xs)
has-map f [] x h = absurd h
has-map f (y ∷ xs) x (inl e) = inl (ap f e)
has-map f (y ∷ xs) x (inr h) = inr (has-map f xs x h)

opens-enabled : (script : Script) (steps : List Step) (k : SessionId) → is_to_open script steps k ≡ true → Has (event.Start k) (enabled script steps)
opens-enabled script steps k e = has-before (event.Start k) _ (rounds script steps) (has-before (event.Start k) _ (ends script steps) (has-behind (event.Start k) _ (starts script steps) started))
  where
    idle : is_idle steps k ≡ true
    idle = and-first (is_idle steps k) (draws_next (state_of script k (marks_in steps)) (next_stmt k script (marks_in steps))) e

    x : (line : Line) × Has line script.lines × (line.session ≡ k) × (line.number ≡ answer_count k (marks_in steps) + 1)
    x = has-line k (answer_count k (marks_in steps) + 1) script.lines (state_of script k (marks_in steps)) (and-second (is_idle steps k) (draws_next (state_of script k (marks_in steps)) (next_stmt k script (marks_in steps))) e)

    both : (a c n : ℕ) → (a == c) ≡ true → n ≡ c + 1 → ((a == c) && (n == a + 1)) ≡ true
    both a c n e f = grind (arith, nat_tests)

    next : is_next steps x.0 ≡ true
    next = subst (λ (s : SessionId). (is_idle steps s && (x.0.number == starts_in s steps + 1)) ≡ true) (sym x.2) (both (starts_in k steps) (answer_count k (marks_in steps)) x.0.number idle x.3)

    started : Has (event.Start k) (starts script steps)
    started = subst (λ (s : SessionId). Has (event.Start s) (starts script steps)) x.2 (has-map (λ (line : Line). event.Start line.session) (filter (is_next steps) script.lines) x.0 (has-filter (is_next steps) script.lines x.0 x.1 next))

-- NOTHING IS LET
module _ (script : Script) (language : IsScript script) (inserts : AreInsertsWhole script.tables script.lines) (steps : List Step) (is : IsReached script steps) (let_so : AreLet script (lets script) [] steps) (nothing : enabled_in script steps ≡ []) where
  all-held : (e : Event) → Has e (enabled script steps) → lets script steps e ≡ false
  all-held e h = each-has (λ x. lets script steps x ≡ false) (enabled script steps) e (nil-filter (lets script steps) (enabled script steps) nothing) h

  openings : list_all (is_opening script steps) (enabled script steps) ≡ true
  openings = has-all (is_opening script steps) (enabled script steps) (λ e h. (groups-open script language inserts).openings steps e is let_so (contains_from_has e (enabled script steps) h) (all-held e h))

  b : Bound script steps (slots_after script steps) (λ place. asked_at script place steps)
  b = bound-after script language steps (legal-steps script language inserts steps is) (starts-let script [] steps let_so)

  full-without : (o : Opened) → Has o (open_in (marks_in steps)) → script.detector ≡ false
  full-without o h =
      open-without script language.some_segments inserts is.events (subst (λ ss. list_all (is_opening script ss) (enabled script ss) ≡ true) (sym is.is) openings) o.gxid
      (subst (λ ss. is_started (marks_in ss) o.gxid ≡ true) (sym is.is) (started-of (marks_in steps) o.gxid o.session (own-home script (marks_in steps) (λ k. starts_in k steps) b.tidy o.session o.gxid its.0)))
      (subst (λ ss. is_ended (marks_in ss) o.gxid ≡ false) (sym is.is) its.1)
      language.numbers (lines-inside script language)
    where
      its : IsOwn script (marks_in steps) o
      its = own-in (IsOwn script (marks_in steps)) (open_in (marks_in steps)) o b.tidy.each h

  by-reason : Reason script steps → script.detector ≡ false
  by-reason (IsFull o h) = full-without o h
  by-reason (MayBegin f opens free) =
      absurd (true-false (lets script steps (event.Start f)) (not-held (asks (slots_after script steps) f) (may (slots_after script steps) f) free) (all-held (event.Start f) (opens-enabled script steps f opens)))
    where
      not-held : (a m : Bool) → m ≡ true → not (a && not m) ≡ true
      not-held a m e = grind arith

  pub held-without : (e : Event) → Has e (enabled script steps) → lets script steps e ≡ false → script.detector ≡ false
  held-without (event.Start s) h q = by-reason (held-up script language steps b s (held (is_held_up (slots_after script steps) s) q))
    where
      held : (a : Bool) → not a ≡ false → a ≡ true
      held true e = refl
      held false e = absurd (cc)
  held-without (event.Receive from to number) h q = absurd (cc)
  held-without (event.Resume n g) h q = absurd (cc)
  held-without (event.End s) h q = absurd (cc)
  held-without (event.Resend segment g) h q = absurd (cc)
  held-without event.Round h q = absurd (cc)
  held-without (event.Restart n) h q = absurd (cc)

  pub without-detector : (session : SessionId) → session.0 < length script.sessions → is_unfinished_there script (coordinator_after script steps) session ≡ true → script.detector ≡ false
  without-detector session l unfinished = by_enabled (enabled script steps) refl
    where
      by_enabled : (xs : List Event) → enabled script steps ≡ xs → script.detector ≡ false
      by_enabled [] e = stuck-without-detector script steps session language.some_segments inserts is l unfinished e
      by_enabled (x ∷ xs) e = let h : Has x (enabled script steps) = subst (Has x) (sym e) (inl refl) in held-without x h (all-held x h)

pub stuck-beside-groups : (script : Script) (steps : List Step) (session : SessionId) → IsScript script → AreInsertsWhole script.tables script.lines → IsReached script steps → AreLet script (lets script) [] steps
    → session.0 < length script.sessions → is_unfinished_there script (coordinator_after script steps) session ≡ true → enabled_in script steps ≡ [] → script.detector ≡ false
stuck-beside-groups script steps session language inserts is let_so l unfinished nothing = without-detector script language inserts steps is let_so nothing session l unfinished
