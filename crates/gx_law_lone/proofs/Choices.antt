-- What may be chosen while a round runs that has begun where nothing else was: the receipt of a message that was left, or that a segment
-- is asked for its graph again.
use Rattle.std.proofs.Common.{◌≡◌, ◌≤◌, ◌<◌, ◌⊎◌, inl, inr, ℕ, suc, ◌+◌, ◌-◌, List, [], ◌∷◌, ◌++◌, Option, Some, None, Bool, true, false, not, refl, sym, subst, ap, ◌∙◌, if◌then◌else◌, cond, ◌&&◌, ◌||◌, ◌==◌, nat_lt, arith, length, Contains}
use Rattle.std.proofs.lemmas.Bool.{and_from, and_parts}
use Rattle.std.proofs.lemmas.Bool.Decides.{nat_tests}
use Rattle.std.proofs.lemmas.List.{length-append}
use Rattle.std.proofs.lemmas.List.Elements.{filter-append}
use Rattle.std.specs.List.{flat_map, list_all, range_with_len}
use Rattle.std.specs.Prelude.{filter, is_none, is_some, map, nat_le}
use Rattle.gx_lemmas.proofs.Tests.{false-true, true-false}
use Rattle.gx_ids.specs.declared.ids.Gxid.{Gxid}
use Rattle.gx_ids.specs.declared.ids.Node.{Node}
use Rattle.gx_ids.specs.declared.ids.SessionId.{SessionId}
use Rattle.gx_dtx.specs.Rules.{awaited_order}
use Rattle.gx_dtx.specs.Table.{Table}
use Rattle.gx_locks.specs.Locks.{Locks, may_take, wait_of}
use Rattle.gx_msg.specs.declared.message.Envelope.{Envelope}
use Rattle.gx_script.specs.declared.Line.{Line}
use Rattle.gx_script.specs.declared.Script.{Script}
use Rattle.gx_store.specs.Lines.{stmt_of}
use Rattle.gx_store.specs.Ordered.{IsLink, IsSegment, sent_in}
use Rattle.gx_store.specs.Refusals.{the_coordinator}
use Rattle.gx_store.specs.Schedule.{deliveries, enabled, first_of, is_exec, is_left, is_quiet, is_receipt_of, is_round, left_on, received_count, segments_of}
use Rattle.gx_store.specs.Whole.{AreInsertsWhole}
use Rattle.gx_store.specs.declared.event.Event.{Event}
use Rattle.gx_store.specs.declared.event.Event.TheVariants as event
use Rattle.gx_store.specs.declared.node.NodeEvent.TheVariants as here
use Rattle.gx_store.specs.declared.run.Step.{Step}
use Rattle.gx_waits.proofs.Members.{Has, contains_from_has, has_from_contains}
use Rattle.gx_waits.specs.declared.graph.LocalGraph.{LocalGraph}
use Rattle.gx_rules.specs.AtCoordinator.{command_order, coord_can, is_idle, is_in_block, is_left as is_line_left, is_segment, status_order}
use Rattle.gx_rules.specs.Coordinators.{Coord, Session, Work}
use Rattle.gx_rules.specs.Machine.{World, found, world_of}
use Rattle.gx_rules.specs.Rounds.{awaits_graph, can_begin}
use Rattle.gx_rules.specs.Segments.{Seg}
use Rattle.gx_law_order.proofs.Dispatching.{each-unmap}
use Rattle.gx_law_order.proofs.Lists.{each_append, each_flat, each_map, each_weaker}
use Rattle.gx_law_order.specs.Lists.{Each}
use Rattle.gx_law_locks.proofs.Claims.{each-of}
use Rattle.gx_law_runs.proofs.Enabled.{all-segments, enabled-there}
use Rattle.gx_law_runs.proofs.Going.{four-parts, no-ends, no-resumption, none-due, none-there, quiet}
use Rattle.gx_law_runs.proofs.Nothing.{in-range, nil-filter, nil-left, nil-map}
use Rattle.gx_law_runs.proofs.World.{world-letters}
use Rattle.gx_law_runs.specs.Enabled.{at_segment_by, drawn, enabled_there, ends_by, is_anybody_waiting, is_due, is_next_by, resends_due, resumes_by, rounds_by, sessions_of, starts_by}
use Rattle.gx_law_runs.specs.Links.{is_number}
use Rattle.gx_law_runs.specs.Openings.{is_opening, is_round_or_opening}
use Rattle.gx_law_runs.specs.Reached.{IsReached}
use Rattle.gx_law_lone.specs.Victims.{AreLet, HoldsUpOpenings, let_in}
use Rattle.gx_law_lone.proofs.InRound.{AreReported, IsInRound}

-- LISTS
pub all-has : {A : Type 0} (p : A → Bool) (xs : List A) → list_all p xs ≡ true → (x : A) → Has x xs → p x ≡ true
all-has p [] e x h = absurd h
all-has p (y ∷ xs) e x (inl s) = ap p (sym s) ∙ (and_parts (p y) (list_all p xs) e).0
all-has p (y ∷ xs) e x (inr h) = all-has p xs (and_parts (p y) (list_all p xs) e).1 x h

pub has-all : {A : Type 0} (p : A → Bool) (xs : List A) → ((x : A) → Has x xs → p x ≡ true) → list_all p xs ≡ true
has-all p [] f = refl
has-all p (x ∷ xs) f = and_from (p x) (list_all p xs) (f x (inl refl)) (has-all p xs (λ y h. f y (inr h)))

pub has-filter : {A : Type 0} (t : A → Bool) (xs : List A) (x : A) → Has x xs → t x ≡ true → Has x (filter t xs)
has-filter t [] x h e = absurd h
has-filter t (y ∷ xs) x h e = by_test (t y) refl h (λ k. has-filter t xs x k e)
  where
    by_test : (b : Bool) → t y ≡ b → Has x (y ∷ xs) → (Has x xs → Has x (filter t xs)) → Has x (cond b (y ∷ filter t xs) (filter t xs))
    by_test true q (inl s) later = inl s
    by_test true q (inr k) later = inr (later k)
    by_test false q (inl s) later = absurd (true-false (t x) e (ap t (sym s) ∙ q))
    by_test false q (inr k) later = later k

pub filter-has : {A : Type 0} (t : A → Bool) (xs : List A) (x : A) → Has x (filter t xs) → Has x xs × (t x ≡ true)
filter-has t [] x h = absurd h
filter-has t (y ∷ xs) x h = by_test (t y) refl h (filter-has t xs x)
  where
    by_test : (b : Bool) → t y ≡ b → Has x (cond b (y ∷ filter t xs) (filter t xs)) → (Has x (filter t xs) → Has x xs × (t x ≡ true)) → Has x (y ∷ xs) × (t x ≡ true)
    by_test true q (inl s) later = (inl s, ap t (sym s) ∙ q)
    by_test true q (inr k) later = let a = later k in (inr a.0, a.1)
    by_test false q k later = let a = later k in (inr a.0, a.1)

pub each-has : {A : Type 0} (P : A → Type 0) (xs : List A) (x : A) → Each P xs → Has x xs → P x
each-has P [] x e h = absurd h
each-has P (y ∷ xs) x e (inl s) = subst P s e.0
each-has P (y ∷ xs) x e (inr k) = each-has P xs x e.1 k

has-each : {A : Type 0} (P : A → Type 0) (xs : List A) → ((x : A) → Has x xs → P x) → Each P xs
has-each P [] f = tt
has-each P (x ∷ xs) f = (f x (inl refl), has-each P xs (λ y h. f y (inr h)))

pub has-behind : {A : Type 0} (x : A) (xs ys : List A) → Has x ys → Has x (xs ++ ys)
has-behind x [] ys h = h
has-behind x (y ∷ xs) ys h = inr (has-behind x xs ys h)

pub has-before : {A : Type 0} (x : A) (xs ys : List A) → Has x xs → Has x (xs ++ ys)
has-before x [] ys h = absurd h
has-before x (y ∷ xs) ys (inl e) = inl e
has-before x (y ∷ xs) ys (inr h) = inr (has-before x xs ys h)

each-first : (P : Event → Type 0) (xs : List Event) → Each P xs → Each P (first_of xs)
each-first P [] e = tt
each-first P (x ∷ xs) e = (e.0, tt)

none-long : (xs : List Event) → (length xs == 0) ≡ true → xs ≡ []
none-long [] e = refl
none-long (x ∷ xs) e = absurd (more (length xs) e)
  where
    more : (n : ℕ) → (suc n == 0) ≡ true → ⊥
    more n e = grind (arith, nat_tests)

both-nil : (xs ys : List Event) → ((length xs == 0) && (length ys == 0)) ≡ true → (xs ≡ []) × (ys ≡ [])
both-nil xs ys e = let a = and_parts (length xs == 0) (length ys == 0) e in (none-long xs a.0, none-long ys a.1)

-- WHERE JUST A ROUND IS LEFT TO CHOOSE
module _ (script : Script) (lets : List Step → Event → Bool) (holds : HoldsUpOpenings script lets) (es : List (Event × Bool)) (run : AreLet script lets [] (world_of script es).steps) (lone : list_all is_round (let_in script lets (world_of script es).steps) ≡ true) where
  abbrev now : List Step
  now = (world_of script es).steps

  -- what is let is a round
  let-round : (e : Event) → Has e (enabled script now) → lets now e ≡ true → is_round e ≡ true
  let-round e h l = all-has is_round (let_in script lets now) lone e (has-filter (lets now) (enabled script now) e h l)

  pub but-openings : list_all (is_round_or_opening script (world_of script es).steps) (enabled script (world_of script es).steps) ≡ true
  but-openings = has-all (is_round_or_opening script now) (enabled script now) (λ e h. by_let e h (lets now e) refl)
    where
      round-is : (e : Event) → is_round e ≡ true → is_round_or_opening script now e ≡ true
      round-is event.Round q = refl
      round-is (event.Start s) q = absurd (cc)
      round-is (event.Receive from to number) q = absurd (cc)
      round-is (event.Resume n g) q = absurd (cc)
      round-is (event.Restart n) q = absurd (cc)
      round-is (event.End s) q = absurd (cc)
      round-is (event.Resend segment g) q = absurd (cc)

      opening-is : (e : Event) → is_opening script now e ≡ true → is_round_or_opening script now e ≡ true
      opening-is (event.Start s) q = q
      opening-is event.Round q = refl
      opening-is (event.Receive from to number) q = absurd (cc)
      opening-is (event.Resume n g) q = absurd (cc)
      opening-is (event.Restart n) q = absurd (cc)
      opening-is (event.End s) q = absurd (cc)
      opening-is (event.Resend segment g) q = absurd (cc)

      by_let : (e : Event) → Has e (enabled script now) → (b : Bool) → lets now e ≡ b → is_round_or_opening script now e ≡ true
      by_let e h true q = round-is e (let-round e h q)
      by_let e h false q = opening-is e (holds.openings now e (record { events = es; is = refl }) run (contains_from_has e (enabled script now) h) q)

  pub chosen-round : (e : Event) → Contains (let_in script lets (world_of script es).steps) e → e ≡ event.Round
  chosen-round e c = round-is e (all-has is_round (let_in script lets now) lone e (has_from_contains e (let_in script lets now) c))
    where
      round-is : (x : Event) → is_round x ≡ true → x ≡ event.Round
      round-is event.Round q = refl
      round-is (event.Start s) q = absurd (cc)
      round-is (event.Receive from to number) q = absurd (cc)
      round-is (event.Resume n g) q = absurd (cc)
      round-is (event.Restart n) q = absurd (cc)
      round-is (event.End s) q = absurd (cc)
      round-is (event.Resend segment g) q = absurd (cc)

-- WHILE THE ROUND RUNS
-- what may be chosen then
abbrev pub MayBe : Script → List Step → Event → Type 0
MayBe script steps (event.Receive from to number) = is_left script steps from to number ≡ true
MayBe script steps (event.Resend segment None) = Unit {0}
MayBe script steps _ = ⊥

module _ (script : Script) (some : 1 ≤ script.segments) (inserts : AreInsertsWhole script.tables script.lines) (lets : List Step → Event → Bool) (holds : HoldsUpOpenings script lets)
    (es0 : List (Event × Bool)) (run0 : AreLet script lets [] (world_of script es0).steps) (lone : list_all is_round (let_in script lets (world_of script es0).steps) ≡ true) (es : List (Event × Bool)) (r : IsInRound script lets (world_of script es0) (world_of script es))
  where
    abbrev w0 : World
    w0 = world_of script es0

    abbrev w : World
    w = world_of script es

    nothing : list_all (is_round_or_opening script (world_of script es0).steps) (enabled script (world_of script es0).steps) ≡ true
    nothing = but-openings script lets holds es0 run0 lone

    abbrev May : Event → Type 0
    May = MayBe script (world_of script es).steps

    left-may : (from to : Node) → Each May (left_on script w.steps from to)
    left-may from to =
        each_map May (event.Receive from to) _ (has-each (λ n. is_left script w.steps from to n ≡ true) (filter (is_left script w.steps from to) (range_with_len 1 (sent_in from to w.steps))) (λ n h. (filter-has (is_left script w.steps from to) (range_with_len 1 (sent_in from to w.steps)) n h).1))

    -- who resumes is as it was
    abbrev resumes-on : Table → Node → Locks → List Event
    resumes-on t node l = first_of (map (event.Resume node) (filter (λ g. may_take l g) (map (λ n. let g : Gxid = record { 0 = n } in g) (range_with_len 1 (t.next.0 - 1)))))

    no-resumes-here : resumes_by w.coord the_coordinator w.coord.locks ≡ []
    no-resumes-here = ap (λ t. resumes-on t the_coordinator w.coord.locks) r.coord.table ∙ ap (resumes-on w0.coord.table the_coordinator) r.coord.locks ∙ no-resumption script some inserts es0 nothing

    no-resumes-there : (i : Node) → (1 ≤ i.0) × (i.0 ≤ script.segments) → resumes_by w.coord i (w.segs i.0).locks ≡ []
    no-resumes-there i there = ap (λ t. resumes-on t i (w.segs i.0).locks) r.coord.table ∙ ap (resumes-on w0.coord.table i) (r.segs i.0).locks ∙ nil-left _ _ (none-there script some inserts es0 nothing i there)

    -- what is due is as it was
    abbrev due-on : Node → Table → (ℕ → Work) → Locks → List Gxid
    due-on i t works l =
        filter (λ (g : Gxid). is_some (command_order (works g.0).command i (status_order g (awaited_order t g i))) && (not (is_exec (command_order (works g.0).command i (status_order g (awaited_order t g i)))) || not (is_some (wait_of l g))))
        (map (λ n. let g : Gxid = record { 0 = n } in g) (range_with_len 1 (t.next.0 - 1)))

    no-due : (i : Node) → (1 ≤ i.0) × (i.0 ≤ script.segments) → filter (is_due w i) (drawn w.coord) ≡ []
    no-due i there =
        ap (λ t. due-on i t w.coord.works (w.segs i.0).locks) r.coord.table ∙ ap (λ works. due-on i w0.coord.table works (w.segs i.0).locks) r.coord.works ∙ ap (due-on i w0.coord.table w0.coord.works) (r.segs i.0).locks
        ∙ none-due script some inserts es0 nothing i there

    -- lines and ends are as they were
    abbrev starts-on : (ℕ → Session) → List Event
    starts-on sessions = map (λ (line : Line). event.Start line.session) (filter (λ (line : Line). is_idle (sessions line.session.0) && (line.number == (sessions line.session.0).lines + 1)) script.lines)

    same-starts : starts_by script w.coord ≡ starts_by script w0.coord
    same-starts = ap starts-on r.coord.sessions

    abbrev ends-on : (ℕ → Session) → List Event
    ends-on sessions =
        map event.End
        (filter (λ (s : SessionId). is_idle (sessions s.0) && (not (is_line_left (stmt_of s ((sessions s.0).lines + 1) script.lines)) && is_in_block (sessions s.0).state.block)) (sessions_of script))

    no-ends-now : ends_by script w.coord ≡ []
    no-ends-now = ap ends-on r.coord.sessions ∙ no-ends script some inserts es0 nothing

    -- and no round begins
    no-rounds-now : rounds_by script w ≡ []
    no-rounds-now = by_reports w.coord.reports r.reports script.detector
      where
        by_reports : (o : Option (List (Option LocalGraph))) → AreReported script w0 o → (d : Bool) → (if (d && is_none o) && is_anybody_waiting script w then event.Round ∷ [] else []) ≡ []
        by_reports None k d = absurd k
        by_reports (Some rs) k true = refl
        by_reports (Some rs) k false = refl

    abbrev Chosen : Event → Type 0
    Chosen e = lets (world_of script es).steps e ≡ true → MayBe script (world_of script es).steps e

    any : (xs : List Event) → Each May xs → Each Chosen xs
    any xs e = each_weaker May Chosen (λ x m l. m) xs e

    nobody : (xs : List Event) → xs ≡ [] → Each Chosen xs
    nobody xs e = subst (Each Chosen) (sym e) tt

    starts-chosen : Each Chosen (starts_by script w0.coord)
    starts-chosen =
        each_map Chosen (λ (line : Line). event.Start line.session) (filter (is_next_by w0.coord) script.lines)
        (each_weaker (λ (line : Line). lets w.steps (event.Start line.session) ≡ true → is_round (event.Start line.session) ≡ true) (λ (line : Line). Chosen (event.Start line.session)) (λ line h l. absurd (false-true (h l))) (filter (is_next_by w0.coord) script.lines)
        (each-unmap (λ e. lets w.steps e ≡ true → is_round e ≡ true) (λ (line : Line). event.Start line.session) (filter (is_next_by w0.coord) script.lines)
        (has-each (λ e. lets w.steps e ≡ true → is_round e ≡ true) (starts_by script w0.coord) (λ e h l.
        let-round script lets holds es0 run0 lone e
        (subst (Has e) (sym (enabled-there script some es0)) (has-before e _ (rounds_by script w0) (has-before e _ (ends_by script w0.coord) (has-behind e (receipts-then ++ segments-then ++ resumes_by w0.coord the_coordinator w0.coord.locks ++ again-then) (starts_by script w0.coord) h))))
        (sym (r.same e) ∙ l)))))
      where
        receipts-then : List Event
        receipts-then = flat_map (λ segment. first_of (left_on script (world_of script es0).steps segment the_coordinator)) (segments_of script)

        segments-then : List Event
        segments-then = flat_map (at_segment_by script (world_of script es0)) (segments_of script)

        again-then : List Event
        again-then = flat_map (resends_due script (world_of script es0)) (segments_of script)

    again-may : (i : Node) → (1 ≤ i.0) × (i.0 ≤ script.segments) → Each May (resends_due script w i)
    again-may i there = by_quiet (is_quiet script w.steps i) (awaits_graph w.coord i)
      where
        by_quiet : (a b : Bool) → Each May (if a then map (λ g. event.Resend i (Some g)) (filter (is_due w i) (drawn w.coord)) ++ (if b then event.Resend i None ∷ [] else []) else [])
        by_quiet true true = subst (λ gs. Each May (map (λ g. event.Resend i (Some g)) gs ++ (event.Resend i None ∷ []))) (sym (no-due i there)) (tt, tt)
        by_quiet true false = subst (λ gs. Each May (map (λ g. event.Resend i (Some g)) gs ++ [])) (sym (no-due i there)) tt
        by_quiet false b = tt

    within : (i n : ℕ) → (nat_le 1 i && nat_le i n) ≡ true → (1 ≤ i) × (i ≤ n)
    within i n e = (grind (arith, nat_tests), grind (arith, nat_tests))

    each-segment : (f : Node → List Event) → ((i : Node) → (1 ≤ i.0) × (i.0 ≤ script.segments) → Each May (f i)) → Each Chosen (flat_map f (segments_of script))
    each-segment f g =
        any (flat_map f (segments_of script))
        (each_flat May f (segments_of script) (each_weaker (λ (i : Node). is_segment script i ≡ true) (λ i. Each May (f i)) (λ i s. g i (within i.0 script.segments s)) (segments_of script) (all-segments script some es)))

    at-segment : (i : Node) → (1 ≤ i.0) × (i.0 ≤ script.segments) → Each May (at_segment_by script w i)
    at-segment i there =
        each-first May _ (each_append May (resumes_by w.coord i (w.segs i.0).locks) _ (subst (Each May) (sym (no-resumes-there i there)) tt) (each-first May _ (left-may the_coordinator i)))

    all-chosen : Each Chosen (enabled_there script (world_of script es))
    all-chosen =
        each_append Chosen _ (rounds_by script w)
        (each_append Chosen _ (ends_by script w.coord)
        (each_append Chosen _ (starts_by script w.coord)
        (each_append Chosen _ (flat_map (resends_due script w) (segments_of script))
        (each_append Chosen _ (resumes_by w.coord the_coordinator w.coord.locks)
        (each_append Chosen (flat_map (λ segment. first_of (left_on script w.steps segment the_coordinator)) (segments_of script)) (flat_map (at_segment_by script w) (segments_of script))
        (each-segment (λ segment. first_of (left_on script w.steps segment the_coordinator)) (λ i there. each-first May _ (left-may i the_coordinator)))
        (each-segment (at_segment_by script w) at-segment))
        (nobody _ no-resumes-here))
        (each-segment (resends_due script w) again-may))
        (subst (Each Chosen) (sym same-starts) starts-chosen)) (nobody _ no-ends-now)) (nobody _ no-rounds-now)

    pub chosen-is : (e : Event) → Contains (let_in script lets (world_of script es).steps) e → MayBe script (world_of script es).steps e
    chosen-is e c =
        let a = filter-has (lets w.steps) (enabled script w.steps) e (has_from_contains e (let_in script lets w.steps) c) in
        each-has Chosen (enabled_there script w) e all-chosen (subst (Has e) (enabled-there script some es) a.0) a.1

    -- WHAT WAS SENT BEFORE ISN'T LEFT
    nothing-left : (from to : Node) → IsLink script from to → left_on script w0.steps from to ≡ []
    nothing-left from to (inl l) = subst (λ n. left_on script w0.steps n to ≡ []) (sym l.0) (both-nil (left_on script w0.steps the_coordinator to) (left_on script w0.steps to the_coordinator) (quiet script some inserts es0 nothing to l.1)).0
    nothing-left from to (inr l) = subst (λ n. left_on script w0.steps from n ≡ []) (sym l.1) (both-nil (left_on script w0.steps the_coordinator from) (left_on script w0.steps from the_coordinator) (quiet script some inserts es0 nothing from l.0)).1

    pub not-left : (from to : Node) (n : ℕ) (envelope : Envelope) → IsLink script from to → found from to n (world_of script es0).sent ≡ Some envelope → is_left script (world_of script es).steps from to n ≡ false
    not-left from to n envelope link f = later (received_count from to n w0.steps) (received_count from to n w.steps) (deliveries script from to n) more done
      where
        some-is : (o : Option Envelope) → o ≡ Some envelope → is_some o ≡ true
        some-is o e = cc

        counted : is_number n (sent_in from to w0.steps) ≡ true
        counted = sym (world-letters script some es0 from to n).counted ∙ some-is (found from to n w0.sent) f

        low : (a b : ℕ) → (nat_le 1 a && nat_le a b) ≡ true → 1 ≤ a
        low a b e = grind (arith, nat_tests)

        high : (a b : ℕ) → (nat_le 1 a && nat_le a b) ≡ true → a < 1 + b
        high a b e = grind (arith, nat_tests)

        done : is_left script w0.steps from to n ≡ false
        done =
            in-range (λ k. is_left script w0.steps from to k ≡ false) 1 (sent_in from to w0.steps) n
            (nil-filter (is_left script w0.steps from to) (range_with_len 1 (sent_in from to w0.steps)) (nil-map (event.Receive from to) _ (nothing-left from to link)))
            (low n (sent_in from to w0.steps) counted) (high n (sent_in from to w0.steps) counted)

        more : (m : ℕ) × (received_count from to n w.steps ≡ received_count from to n w0.steps + m)
        more =
            let t : Step → Bool = λ step. is_receipt_of from to n step.event in
            (length (filter t r.more), ap (λ ss. length (filter t ss)) r.steps ∙ ap length (filter-append t w0.steps r.more) ∙ length-append (filter t w0.steps) (filter t r.more))

        later : (a b d : ℕ) → ((m : ℕ) × (b ≡ a + m)) → nat_lt a d ≡ false → nat_lt b d ≡ false
        later a b d m e = still a b d m.0 m.1 e
          where
            still : (a b d k : ℕ) → b ≡ a + k → nat_lt a d ≡ false → nat_lt b d ≡ false
            still a b d k f e = grind (arith, nat_tests)
