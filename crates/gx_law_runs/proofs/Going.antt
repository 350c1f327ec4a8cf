-- While a session is unfinished something else than a round is enabled, or the session waits for a lock that meets somebody.
use Rattle.std.proofs.lemmas.Bool.Decides.{nat_tests}
use Rattle.std.proofs.Common.{◌≡◌, ◌≤◌, ◌<◌, ◌⊎◌, inl, inr, ℕ, suc, ◌+◌, ◌-◌, List, [], ◌∷◌, ◌++◌, Option, None, Some, Bool, true, false, refl, sym, subst, ap, ◌∙◌, if◌then◌else◌, ◌&&◌, ◌||◌, not, arith, length}
use Rattle.std.specs.Prelude.{◌==◌, cond, filter, find, is_none, is_some, map, nat_le}
use Rattle.std.specs.List.{flat_map, list_all, list_any}
use Rattle.std.proofs.lemmas.Bool.{and_from, and_parts, eqb-true}
use Rattle.gx_lemmas.proofs.Tests.{and-first, true-false}
use Rattle.gx_ids.specs.declared.ids.Gxid.{Gxid}
use Rattle.gx_ids.specs.declared.ids.Node.{Node}
use Rattle.gx_ids.specs.declared.ids.SessionId.{SessionId}
use Rattle.gx_script.specs.declared.Line.{Line}
use Rattle.gx_script.specs.declared.Script.{Script}
use Rattle.gx_store.specs.declared.event.Event.{Event}
use Rattle.gx_store.specs.declared.event.Event.TheVariants as event
use Rattle.gx_store.specs.declared.node.NodeEvent.TheVariants as here
use Rattle.gx_store.specs.declared.run.Step.{Step}
use Rattle.gx_store.specs.Legal as legal
use Rattle.gx_store.specs.Lines.{state_of}
use Rattle.gx_store.specs.Marks.{is_same_session}
use Rattle.gx_store.specs.Points.{marks_in}
use Rattle.gx_store.specs.Refusals.{the_coordinator}
use Rattle.gx_store.specs.Schedule.{enabled, first_of, is_exec, is_graph_awaited, is_next, is_quiet, is_round, is_round_running, left_on, segments_of}
use Rattle.gx_waits.specs.Claims.{is_of}
use Rattle.gx_rules.specs.AtCoordinator.{awaited, coord_can, is_idle, is_in_block, is_left, is_segment, is_unfinished_there, next_line}
use Rattle.gx_rules.specs.Coordinators.{Coord, session_of}
use Rattle.gx_rules.specs.Machine.{World, world_of}
use Rattle.gx_rules.specs.Rounds.{awaits_graph}
use Rattle.gx_store.specs.Whole.{AreInsertsWhole}
use Rattle.gx_law_order.proofs.Legality.{sessions-stand}
use Rattle.gx_law_order.proofs.Dispatching.{each-unmap}
use Rattle.gx_law_order.proofs.Lists.{each_weaker}
use Rattle.gx_law_order.specs.Lists.{Each}
use Rattle.gx_law_runs.specs.Reached.{IsReached}
use Rattle.gx_law_runs.specs.Replays.{AreReplayed, coordinator_after, segment_after, world_behind}
use Rattle.gx_law_runs.proofs.Reaching.{replayed}
use Rattle.gx_waits.specs.declared.claim.Claim.{Claim}
use Rattle.gx_locks.specs.Locks.{Locks, may_take, wait_of}
use Rattle.gx_rules.specs.Segments.{Seg}
use Rattle.gx_law_order.proofs.Past.{there-drawn}
use Rattle.gx_law_order.proofs.Waiting.{has-statement}
use Rattle.gx_law_order.proofs.World.{world_knows}
use Rattle.gx_law_order.proofs.Events.{live-stage}
use Rattle.gx_law_runs.specs.Enabled.{at_segment_by, drawn, ends_by, is_anybody_waiting, is_due, is_next_by, resends_due, resumes_by, rounds_by, sessions_of, starts_by}
use Rattle.gx_law_runs.proofs.Enabled.{all-segments, each-other, enabled-there, ends-other, is_start_or_round}
use Rattle.gx_law_runs.proofs.Neat.{clash}
use Rattle.gx_law_runs.proofs.RoundsEnabled.{AreRoundsTold, world-told}
use Rattle.gx_law_runs.proofs.Sessions.{block-alike, next-alike, start-alike}
use Rattle.gx_law_runs.specs.Openings.{is_opening, is_round_or_opening}
use Rattle.gx_law_runs.specs.Awaiting.{IsAwaiting, IsBlocked, locks_at}
use Rattle.gx_law_runs.proofs.Busy.{busy-awaits}
use Rattle.gx_law_runs.proofs.Nothing.{any-none, in-nodes, in-range, nil-filter, nil-first, nil-flat, nil-left, nil-map, nil-right, none-any, or-neither}

-- what passes in a row passes in its parts
all-left : (p : Event → Bool) (xs ys : List Event) → list_all p (xs ++ ys) ≡ true → list_all p xs ≡ true
all-left p [] ys e = refl
all-left p (x ∷ xs) ys e = let a = and_parts (p x) (list_all p (xs ++ ys)) e in and_from (p x) (list_all p xs) a.0 (all-left p xs ys a.1)

all-right : (p : Event → Bool) (xs ys : List Event) → list_all p (xs ++ ys) ≡ true → list_all p ys ≡ true
all-right p [] ys e = e
all-right p (x ∷ xs) ys e = all-right p xs ys (and_parts (p x) (list_all p (xs ++ ys)) e).1

pub all-filtered : {A : Type 0} (p : Event → Bool) (f : A → Event) (t : A → Bool) (xs : List A) → list_all p (map f (filter t xs)) ≡ true → Each (λ x. t x ≡ true → p (f x) ≡ true) xs
all-filtered p f t [] e = tt
all-filtered p f t (x ∷ xs) e = by_test (t x) refl e (λ g. all-filtered p f t xs g)
  where
    by_test : (b : Bool) → t x ≡ b → list_all p (map f (cond b (x ∷ filter t xs) (filter t xs))) ≡ true → (list_all p (map f (filter t xs)) ≡ true → Each (λ x. t x ≡ true → p (f x) ≡ true) xs)
        → (t x ≡ true → p (f x) ≡ true) × Each (λ x. t x ≡ true → p (f x) ≡ true) xs
    by_test true q e later = let a = and_parts (p (f x)) (list_all p (map f (filter t xs))) e in (λ k. a.0, later a.1)
    by_test false q e later = (λ k. absurd (true-false (t x) k q), later e)

-- a row without starts and rounds in which nothing else passes is empty
none-passes : (script : Script) (steps : List Step) (xs : List Event) → Each (λ e. is_start_or_round e ≡ false) xs → list_all (is_round_or_opening script steps) xs ≡ true → xs ≡ []
none-passes script steps [] a e = refl
none-passes script steps (x ∷ xs) a e = clash (is_start_or_round x) (either x (and-first (is_round_or_opening script steps x) (list_all (is_round_or_opening script steps) xs) e)) a.0
  where
    either : (e : Event) → is_round_or_opening script steps e ≡ true → is_start_or_round e ≡ true
    either (event.Start s) p = refl
    either event.Round p = refl
    either (event.Receive from to number) p = absurd (cc)
    either (event.Resume n g) p = absurd (cc)
    either (event.Restart n) p = absurd (cc)
    either (event.End s) p = absurd (cc)
    either (event.Resend segment g) p = absurd (cc)

-- a round is a round, or an opening line
pub round-passes : (script : Script) (steps : List Step) (xs : List Event) → list_all is_round xs ≡ true → list_all (is_round_or_opening script steps) xs ≡ true
round-passes script steps [] e = refl
round-passes script steps (x ∷ xs) e =
    let a = and_parts (is_round x) (list_all is_round xs) e in and_from (is_round_or_opening script steps x) (list_all (is_round_or_opening script steps) xs) (one x a.0) (round-passes script steps xs a.1)
  where
    one : (e : Event) → is_round e ≡ true → is_round_or_opening script steps e ≡ true
    one event.Round p = refl
    one (event.Start s) p = absurd (cc)
    one (event.Receive from to number) p = absurd (cc)
    one (event.Resume n g) p = absurd (cc)
    one (event.Restart n) p = absurd (cc)
    one (event.End s) p = absurd (cc)
    one (event.Resend segment g) p = absurd (cc)

-- NOTHING BUT A ROUND AND OPENING LINES IS ENABLED
module _ (script : Script) (some : 1 ≤ script.segments) (inserts : AreInsertsWhole script.tables script.lines) (es : List (Event × Bool)) (nothing : list_all (is_round_or_opening script (world_of script es).steps) (enabled script (world_of script es).steps) ≡ true) where
  abbrev w : World
  w = world_of script es

  abbrev c : Coord
  c = (world_of script es).coord

  abbrev receipts : List Event
  receipts = flat_map (λ segment. first_of (left_on script w.steps segment the_coordinator)) (segments_of script)

  abbrev deliveries : List Event
  deliveries = flat_map (at_segment_by script w) (segments_of script)

  abbrev resumptions-here : List Event
  resumptions-here = resumes_by c the_coordinator c.locks

  abbrev again : List Event
  again = flat_map (resends_due script w) (segments_of script)

  abbrev passes : Event → Bool
  passes = is_round_or_opening script (world_of script es).steps

  abbrev four : List Event
  four = receipts ++ deliveries ++ resumptions-here ++ again

  abbrev five : List Event
  five = receipts ++ deliveries ++ resumptions-here ++ again ++ starts_by script c

  abbrev six : List Event
  six = receipts ++ deliveries ++ resumptions-here ++ again ++ starts_by script c ++ ends_by script c

  six-pass : list_all passes (receipts ++ deliveries ++ resumptions-here ++ again ++ starts_by script c ++ ends_by script c) ≡ true
  six-pass = all-left passes six (rounds_by script w) (sym (ap (list_all passes) (enabled-there script some es)) ∙ nothing)

  pub no-ends : ends_by script c ≡ []
  no-ends = none-passes script w.steps (ends_by script c) (ends-other script some es) (all-right passes five (ends_by script c) six-pass)

  five-pass : list_all passes (receipts ++ deliveries ++ resumptions-here ++ again ++ starts_by script c) ≡ true
  five-pass = all-left passes five (ends_by script c) six-pass

  pub starts-pass : list_all passes (starts_by script c) ≡ true
  starts-pass = all-right passes four (starts_by script c) five-pass

  pub four-parts : receipts ++ deliveries ++ resumptions-here ++ again ≡ []
  four-parts = none-passes script w.steps four (each-other script some es) (all-left passes four (starts_by script c) five-pass)

  no-resends : again ≡ []
  no-resends = nil-right (receipts ++ deliveries ++ resumptions-here) again four-parts

  three-parts : receipts ++ deliveries ++ resumptions-here ≡ []
  three-parts = nil-left _ again four-parts

  pub no-resumption : resumptions-here ≡ []
  no-resumption = nil-right (receipts ++ deliveries) resumptions-here three-parts

  two-parts : receipts ++ deliveries ≡ []
  two-parts = nil-left (receipts ++ deliveries) resumptions-here three-parts

  -- SESSIONS THAT WAIT
  at-segment : (P : Node → Type 0) → Each P (segments_of script) → (i : Node) → (1 ≤ i.0) × (i.0 ≤ script.segments) → P i
  at-segment P e i r = in-nodes P 1 script.segments i e r.0 (below i.0 script.segments r.1)
    where
      below : (a n : ℕ) → a ≤ n → a < 1 + n
      below a n l = omega arith

  pub none-there : (i : Node) → (1 ≤ i.0) × (i.0 ≤ script.segments) → resumes_by c i (w.segs i.0).locks ++ first_of (left_on script w.steps the_coordinator i) ≡ []
  none-there i r = nil-first _ (at-segment (λ j. at_segment_by script w j ≡ []) (nil-flat _ (segments_of script) (nil-right receipts deliveries two-parts)) i r)

  pub quiet : (i : Node) → (1 ≤ i.0) × (i.0 ≤ script.segments) → is_quiet script w.steps i ≡ true
  quiet i r =
      ap (λ (xs : List Event). (length xs == 0) && (length (left_on script w.steps i the_coordinator) == 0)) (nil-first _ (nil-right (resumes_by c i (w.segs i.0).locks) _ (none-there i r)))
      ∙ ap (λ (xs : List Event). length xs == 0) (nil-first _ (at-segment (λ j. first_of (left_on script w.steps j the_coordinator) ≡ []) (nil-flat _ (segments_of script) (nil-left receipts deliveries two-parts)) i r))

  pub none-due : (i : Node) → (1 ≤ i.0) × (i.0 ≤ script.segments) → filter (is_due w i) (drawn c) ≡ []
  none-due i r =
      nil-map (λ g. event.Resend i (Some g)) (filter (is_due w i) (drawn c))
      (nil-left _ (if awaits_graph c i then event.Resend i None ∷ [] else [])
      (ap (λ (b : Bool). if b then map (λ g. event.Resend i (Some g)) (filter (is_due w i) (drawn c)) ++ (if awaits_graph c i then event.Resend i None ∷ [] else []) else []) (sym (quiet i r)) ∙ at-segment (λ j. resends_due script w j ≡ []) (nil-flat (resends_due script w) (segments_of script) no-resends) i r))

  -- no graph is awaited, so no round runs
  none-awaited : (i : Node) → (1 ≤ i.0) × (i.0 ≤ script.segments) → awaits_graph c i ≡ false
  none-awaited i r =
      by_test (awaits_graph c i)
      (nil-right (map (λ g. event.Resend i (Some g)) (filter (is_due w i) (drawn c))) (if awaits_graph c i then event.Resend i None ∷ [] else [])
      (ap (λ (b : Bool). if b then map (λ g. event.Resend i (Some g)) (filter (is_due w i) (drawn c)) ++ (if awaits_graph c i then event.Resend i None ∷ [] else []) else []) (sym (quiet i r)) ∙ at-segment (λ j. resends_due script w j ≡ []) (nil-flat (resends_due script w) (segments_of script) no-resends) i r))
    where
      by_test : (b : Bool) → (if b then event.Resend i None ∷ [] else []) ≡ [] → b ≡ false
      by_test true e = absurd (cc)
      by_test false e = refl

  told : AreRoundsTold script (world_of script es)
  told = world-told script some es

  pub no-round-runs : is_round_running (world_of script es).steps ≡ false
  no-round-runs = by_test (is_round_running w.steps) refl
    where
      within : (a n : ℕ) → (nat_le 1 a && nat_le a n) ≡ true → (1 ≤ a) × (a ≤ n)
      within a n e = (grind (arith, nat_tests), grind (arith, nat_tests))

      all-there : list_any (is_graph_awaited w.steps) (segments_of script) ≡ false
      all-there =
          none-any (is_graph_awaited w.steps) (segments_of script)
          (each_weaker (λ (i : Node). is_segment script i ≡ true) (λ (i : Node). is_graph_awaited w.steps i ≡ false) (λ i s. told.awaited i s ∙ none-awaited i (within i.0 script.segments s)) (segments_of script) (all-segments script some es))

      by_test : (b : Bool) → is_round_running (world_of script es).steps ≡ b → is_round_running (world_of script es).steps ≡ false
      by_test true e = clash (list_any (is_graph_awaited w.steps) (segments_of script)) (told.lacks e) all-there
      by_test false e = e

  -- of all that were drawn
  pub of-drawn : (p : Gxid → Bool) → filter p (drawn c) ≡ [] → (g : Gxid) → (1 ≤ g.0) × (g.0 < c.table.next.0) → p g ≡ false
  of-drawn p e g d =
      in-range (λ n. p (record { 0 = n }) ≡ false) 1 (c.table.next.0 - 1) g.0
      (each-unmap (λ h. p h ≡ false) (λ n. let h : Gxid = record { 0 = n } in h) _ (nil-filter p (drawn c) e))
      d.0 (below g.0 c.table.next.0 d.1 d.0)
    where
      below : (g n : ℕ) → g < n → 1 ≤ g → g < 1 + (n - 1)
      below g n l h = omega arith

  pub not-ready : (node : Node) (l : Locks) → resumes_by c node l ≡ [] → (g : Gxid) → (1 ≤ g.0) × (g.0 < c.table.next.0) → may_take l g ≡ false
  not-ready node l e = of-drawn (λ g. may_take l g) (nil-map (event.Resume node) _ (nil-first _ e))

  -- what isn't due is an EXEC of who waits there
  held-back : (k : SessionId) (a : IsAwaiting script c k) → is_some (wait_of (w.segs a.at.0).locks a.g) ≡ true
  held-back k a = last (is_some (awaited c a.g a.at)) (is_exec (awaited c a.g a.at)) _ a.answer (of-drawn (is_due w a.at) (none-due a.at a.segment) a.g a.drawn)
    where
      last : (a b d : Bool) → a ≡ true → (a && (not b || not d)) ≡ false → d ≡ true
      last a b d e f = grind arith

  pub drawn-waits : (g : Gxid) → is_some (wait_of c.locks g) ≡ true → (1 ≤ g.0) × (g.0 < c.table.next.0)
  drawn-waits g e = by_wait (wait_of c.locks g) refl e
    where
      by_wait : (o : Option Claim) → wait_of (world_of script es).coord.locks g ≡ o → is_some o ≡ true → (1 ≤ g.0) × (g.0 < (world_of script es).coord.table.next.0)
      by_wait None q f = absurd (cc)
      by_wait (Some wanted) q f =
          let live = live-stage (world_of script es).coord g.0 (has-statement script (world_of script es) (world_knows script some es) g wanted q).live in
          there-drawn (world_of script es).coord.table.next.0 g.0 (world_of script es).coord.table.txns live.txn (world_knows script some es).kept.whole.drawn live.found

  pub all-blocked : (k : SessionId) → is_idle (session_of c k) ≡ false → IsBlocked script w k
  all-blocked k e = by_kind (busy-awaits script some inserts es k e)
    where
      away : (i : ℕ) → 1 ≤ i → (i == 0) ≡ false
      away i l = grind (arith, nat_tests)

      least : (n : ℕ) → 0 ≤ n
      least n = omega arith

      by_kind : IsAwaiting script (world_of script es).coord k ⊎ (is_some (wait_of (world_of script es).coord.locks (session_of (world_of script es).coord k).transaction) ≡ true) → IsBlocked script (world_of script es) k
      by_kind (inl a) =
          let there : locks_at w a.at ≡ (w.segs a.at.0).locks = ap (λ (b : Bool). if b then c.locks else (w.segs a.at.0).locks) (away a.at.0 a.segment.0) in
          record {
            at = a.at;
            node = a.segment.1;
            waits = subst (λ (l : Locks). is_some (wait_of l (session_of c k).transaction) ≡ true) (sym there) (subst (λ g. is_some (wait_of (w.segs a.at.0).locks g) ≡ true) a.own (held-back k a));
            meets = subst (λ (l : Locks). may_take l (session_of c k).transaction ≡ false) (sym there)
                (subst (λ g. may_take (w.segs a.at.0).locks g ≡ false) a.own (not-ready a.at (w.segs a.at.0).locks (nil-left _ _ (none-there a.at a.segment)) a.g a.drawn));
          }
      by_kind (inr x) = record { at = the_coordinator; node = least script.segments; waits = x; meets = not-ready the_coordinator c.locks no-resumption (session_of c k).transaction (drawn-waits (session_of c k).transaction x) }

  -- SESSIONS THAT ARE IDLE
  none-next : (k : SessionId) → is_in_block (session_of c k).state.block ≡ true → coord_can script c (here.Start k) ≡ false
  none-next k inside =
      sym (start-alike script k w.steps c (sessions-stand script some es k))
      ∙ none-any (λ line. is_same_session line.session k && is_next w.steps line) script.lines
      (each_weaker (λ (l : Line). is_next_by c l ≡ true → passes (event.Start l.session) ≡ true) (λ l. (is_same_session l.session k && is_next w.steps l) ≡ false)
      (λ l e. neither (is_same_session l.session k) (is_next w.steps l) (λ same next. shut l same (e (sym (next-alike script l.session w.steps c (sessions-stand script some es l.session) l refl) ∙ next)))) script.lines
      (all-filtered passes (λ (line : Line). event.Start line.session) (is_next_by c) script.lines starts-pass))
    where
      neither : (a b : Bool) → (a ≡ true → b ≡ true → ⊥) → (a && b) ≡ false
      neither true true f = absurd (f refl refl)
      neither true false f = refl
      neither false b f = refl

      not-both : (b : Bool) → b ≡ true → not b ≡ true → ⊥
      not-both b e f = true-false (not b) f (ap not e)

      shut : (l : Line) → is_same_session l.session k ≡ true → not (legal.is_in_block (state_of script l.session (marks_in w.steps))) ≡ true → ⊥
      shut l same free =
          not-both (legal.is_in_block (state_of script l.session (marks_in w.steps)))
          (ap (λ n. legal.is_in_block (state_of script (record { 0 = n }) (marks_in w.steps))) (eqb-true l.session.0 k.0 same) ∙ block-alike script k w.steps c (sessions-stand script some es k) inside) free

  none-ends : (k : SessionId) → k.0 < length script.sessions → coord_can script c (here.End k) ≡ false
  none-ends k l =
      in-range (λ n. coord_can script c (here.End (record { 0 = n })) ≡ false) 0 (length script.sessions) k.0
      (each-unmap (λ s. coord_can script c (here.End s) ≡ false) (λ n. let s : SessionId = record { 0 = n } in s) _ (nil-filter (λ s. coord_can script c (here.End s)) (sessions_of script) (nil-map event.End _ no-ends)))
      (least k.0) (above k.0 (length script.sessions) l)
    where
      least : (a : ℕ) → 0 ≤ a
      least a = omega arith

      above : (a n : ℕ) → a < n → a < 0 + n
      above a n l = omega arith

  -- whose session stands in a block waits for a lock, and so does whoever has a line under way
  pub inside-blocked : (k : SessionId) → k.0 < length script.sessions → is_in_block (session_of c k).state.block ≡ true → IsBlocked script w k
  inside-blocked k l inside = by_test (is_idle (session_of c k)) refl
    where
      plain : (i l b : Bool) → i ≡ true → b ≡ true → (i && l) ≡ false → (i && (not l && b)) ≡ false → ⊥
      plain i l b e f g h = grind arith

      by_test : (b : Bool) → is_idle (session_of (world_of script es).coord k) ≡ b → IsBlocked script (world_of script es) k
      by_test true e = absurd (plain (is_idle (session_of c k)) (is_left (next_line script c k)) (is_in_block (session_of c k).state.block) e inside (none-next k inside) (none-ends k l))
      by_test false e = all-blocked k e

-- NOTHING BUT A ROUND IS ENABLED
module _ (script : Script) (some : 1 ≤ script.segments) (inserts : AreInsertsWhole script.tables script.lines) (es : List (Event × Bool)) (nothing : list_all is_round (enabled script (world_of script es).steps) ≡ true) where
  abbrev u : World
  u = world_of script es

  but-openings : list_all (is_round_or_opening script (world_of script es).steps) (enabled script (world_of script es).steps) ≡ true
  but-openings = round-passes script (world_of script es).steps (enabled script (world_of script es).steps) nothing

  -- no line starts
  none-starts : (k : SessionId) → coord_can script u.coord (here.Start k) ≡ false
  none-starts k =
      sym (start-alike script k u.steps u.coord (sessions-stand script some es k))
      ∙ none-any (λ line. is_same_session line.session k && is_next u.steps line) script.lines
      (each_weaker (λ (l : Line). is_next_by u.coord l ≡ true → is_round (event.Start l.session) ≡ true) (λ l. (is_same_session l.session k && is_next u.steps l) ≡ false)
      (λ l e. neither (is_same_session l.session k) (is_next u.steps l) (λ next. true-false (is_round (event.Start l.session)) (e (sym (next-alike script l.session u.steps u.coord (sessions-stand script some es l.session) l refl) ∙ next)) refl)) script.lines
      (all-filtered is_round (λ (line : Line). event.Start line.session) (is_next_by u.coord) script.lines
      (all-right is_round (four script some inserts es but-openings) (starts_by script u.coord)
      (all-left is_round (five script some inserts es but-openings) (ends_by script u.coord)
      (all-left is_round (six script some inserts es but-openings) (rounds_by script u) (sym (ap (list_all is_round) (enabled-there script some es)) ∙ nothing))))))
    where
      neither : (a b : Bool) → (b ≡ true → ⊥) → (a && b) ≡ false
      neither true true f = absurd (f refl)
      neither true false f = refl
      neither false b f = refl

  pub unfinished-blocked : (k : SessionId) → k.0 < length script.sessions → is_unfinished_there script u.coord k ≡ true → IsBlocked script u k
  unfinished-blocked k l u = by_test (is_idle (session_of (world_of script es).coord k)) refl
    where
      inside : (i l b : Bool) → i ≡ true → (i && l) ≡ false → (not i || (b || l)) ≡ true → b ≡ true
      inside i l b e f h = grind arith

      by_test : (b : Bool) → is_idle (session_of (world_of script es).coord k) ≡ b → IsBlocked script (world_of script es) k
      by_test true e =
          inside-blocked script some inserts es but-openings k l
          (inside (is_idle (session_of (world_of script es).coord k)) (is_left (next_line script (world_of script es).coord k)) (is_in_block (session_of (world_of script es).coord k).state.block) e (none-starts k) u)
      by_test false e = all-blocked script some inserts es but-openings k e

-- WHO WAITS
-- who waits has a wait among those of a node
waits-there : (l : Locks) (g : Gxid) → is_some (wait_of l g) ≡ true → not (length l.waits == 0) ≡ true
waits-there l g e = by_waits l.waits e
  where
    more : (n : ℕ) → not (suc n == 0) ≡ true
    more n = grind (arith, nat_tests)

    by_waits : (ws : List Claim) → is_some (find (is_of g) ws) ≡ true → not (length ws == 0) ≡ true
    by_waits [] e = absurd (cc)
    by_waits (x ∷ ws) e = more (length ws)

-- whoever waits waits at a node
pub anybody-waits : (script : Script) (w : World) (node : Node) (g : Gxid) → node.0 ≤ script.segments → is_some (wait_of (locks_at w node) g) ≡ true → is_anybody_waiting script w ≡ true
anybody-waits script w node g within waits = by_test (is_anybody_waiting script w) refl
  where
    one : (i : ℕ) → (i == 0) ≡ false → 1 ≤ i
    one i e = grind (arith, nat_tests)

    below : (a n : ℕ) → a ≤ n → a < 1 + n
    below a n l = omega arith

    by_node : (here : Bool) → (node.0 == 0) ≡ here → is_some (wait_of (if here then w.coord.locks else (w.segs node.0).locks) g) ≡ true → is_anybody_waiting script w ≡ false → ⊥
    by_node true e waits off = true-false _ (waits-there w.coord.locks g waits) (or-neither _ _ off).0
    by_node false e waits off =
        true-false _ (waits-there (w.segs node.0).locks g waits)
        (in-nodes (λ i. not (length (w.segs i.0).locks.waits == 0) ≡ false) 1 script.segments node (any-none (λ segment. not (length (w.segs segment.0).locks.waits == 0)) (segments_of script) (or-neither _ _ off).1) (one node.0 e) (below node.0 script.segments within))

    by_test : (a : Bool) → is_anybody_waiting script w ≡ a → is_anybody_waiting script w ≡ true
    by_test true e = e
    by_test false e = absurd (by_node (node.0 == 0) refl waits e)

-- an opening line is a round, or an opening line
opening-passes : (script : Script) (steps : List Step) (xs : List Event) → list_all (is_opening script steps) xs ≡ true → list_all (is_round_or_opening script steps) xs ≡ true
opening-passes script steps [] e = refl
opening-passes script steps (x ∷ xs) e =
    let a = and_parts (is_opening script steps x) (list_all (is_opening script steps) xs) e in and_from (is_round_or_opening script steps x) (list_all (is_round_or_opening script steps) xs) (one x a.0) (opening-passes script steps xs a.1)
  where
    one : (e : Event) → is_opening script steps e ≡ true → is_round_or_opening script steps e ≡ true
    one (event.Start s) p = p
    one event.Round p = refl
    one (event.Receive from to number) p = absurd (cc)
    one (event.Resume n g) p = absurd (cc)
    one (event.Restart n) p = absurd (cc)
    one (event.End s) p = absurd (cc)
    one (event.Resend segment g) p = absurd (cc)

-- NOTHING BUT OPENING LINES IS ENABLED
module _ (script : Script) (some : 1 ≤ script.segments) (inserts : AreInsertsWhole script.tables script.lines) (es : List (Event × Bool)) (openings : list_all (is_opening script (world_of script es).steps) (enabled script (world_of script es).steps) ≡ true) where
  abbrev v : World
  v = world_of script es

  abbrev opens : Event → Bool
  opens = is_opening script (world_of script es).steps

  pub openings-pass : list_all (is_round_or_opening script (world_of script es).steps) (enabled script (world_of script es).steps) ≡ true
  openings-pass = opening-passes script (world_of script es).steps (enabled script (world_of script es).steps) openings

  rounds-open : list_all opens (rounds_by script (world_of script es)) ≡ true
  rounds-open = all-right opens (six script some inserts es openings-pass) (rounds_by script v) (sym (ap (list_all opens) (enabled-there script some es)) ∙ openings)

  -- while anybody waits, a detector would begin a round
  pub stuck-without : is_anybody_waiting script (world_of script es) ≡ true → script.detector ≡ false
  stuck-without waiting = plain script.detector v.coord.reports (is_anybody_waiting script v) waiting (sym told.runs ∙ no-round-runs script some inserts es openings-pass) rounds-open
    where
      told : AreRoundsTold script (world_of script es)
      told = world-told script some es

      plain : {A : Type 0} (d : Bool) (o : Option A) (a : Bool) → a ≡ true → is_some o ≡ false → list_all (is_opening script (world_of script es).steps) (if (d && is_none o) && a then event.Round ∷ [] else []) ≡ true → d ≡ false
      plain true None true e f h = absurd (cc)
      plain true None false e f h = absurd (cc)
      plain true (Some x) a e f h = absurd (cc)
      plain false o a e f h = refl

-- IN EVERY RUN THAT IS REACHED
-- it is so of what the steps tell
module _ (script : Script) (steps : List Step) (w : World) (r : AreReplayed script steps w) where
  pub locks-alike : (at : Node) → locks_at w at ≡ locks_at (world_behind script steps) at
  locks-alike at = by_node (at.0 == 0) refl
    where
      one : (i : ℕ) → (i == 0) ≡ false → 1 ≤ i
      one i e = grind (arith, nat_tests)

      by_node : (b : Bool) → (at.0 == 0) ≡ b → (if b then w.coord.locks else (w.segs at.0).locks) ≡ (if b then (coordinator_after script steps).locks else (segment_after script at steps).locks)
      by_node true e = ap (λ (c : Coord). c.locks) r.coordinator
      by_node false e = ap (λ (s : Seg). s.locks) (r.segments at.0 (one at.0 e))

  blocked-alike : (k : SessionId) → IsBlocked script w k → IsBlocked script (world_behind script steps) k
  blocked-alike k b =
      record {
        at = b.at;
        node = b.node;
        waits = subst (λ (l : Locks). is_some (wait_of l (session_of (coordinator_after script steps) k).transaction) ≡ true) (locks-alike b.at) (subst (λ (c : Coord). is_some (wait_of (locks_at w b.at) (session_of c k).transaction) ≡ true) r.coordinator b.waits);
        meets = subst (λ (l : Locks). may_take l (session_of (coordinator_after script steps) k).transaction ≡ false) (locks-alike b.at) (subst (λ (c : Coord). may_take (locks_at w b.at) (session_of c k).transaction ≡ false) r.coordinator b.meets);
      }

pub goes-on-or-blocked : (script : Script) (steps : List Step) (session : SessionId) → 1 ≤ script.segments → AreInsertsWhole script.tables script.lines → (is : IsReached script steps) → session.0 < length script.sessions → is_unfinished_there script (coordinator_after script steps) session ≡ true → list_all is_round (enabled script steps) ≡ true → IsBlocked script (world_behind script steps) session
goes-on-or-blocked script steps session some inserts is l unfinished nothing =
    blocked-alike script steps (world_of script is.events) (replayed script steps is) session
    (unfinished-blocked script some inserts is.events (subst (λ ss. list_all is_round (enabled script ss) ≡ true) (sym is.is) nothing) session l
    (subst (λ (c : Coord). is_unfinished_there script c session ≡ true) (sym (replayed script steps is).coordinator) unfinished))

pub stuck-without-detector : (script : Script) (steps : List Step) (session : SessionId) → 1 ≤ script.segments → AreInsertsWhole script.tables script.lines → (is : IsReached script steps) → session.0 < length script.sessions → is_unfinished_there script (coordinator_after script steps) session ≡ true → enabled script steps ≡ [] → script.detector ≡ false
stuck-without-detector script steps session some inserts is l unfinished nothing = stuck-without script some inserts is.events (ap (list_all (is_opening script (world_of script is.events).steps)) now) (anybody-waits script (world_of script is.events) b.at _ b.node b.waits)
  where
    now : enabled script (world_of script is.events).steps ≡ []
    now = ap (enabled script) is.is ∙ nothing

    b : IsBlocked script (world_of script is.events) session
    b = unfinished-blocked script some inserts is.events (ap (list_all is_round) now) session l (subst (λ (c : Coord). is_unfinished_there script c session ≡ true) (sym (replayed script steps is).coordinator) unfinished)
