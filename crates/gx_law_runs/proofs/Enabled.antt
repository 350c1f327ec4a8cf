-- What is enabled by the steps is what is enabled by the nodes' data, and the machine admits it.
use Rattle.std.proofs.Common.{◌≡◌, ◌≤◌, ◌<◌, ℕ, zero, suc, ◌+◌, ◌-◌, List, [], ◌∷◌, ◌++◌, Option, Some, None, Bool, true, false, refl, sym, subst, ap, ◌∙◌, if◌then◌else◌, ◌&&◌, ◌||◌, not, arith, cond, eqb, length}
use Rattle.std.proofs.lemmas.Bool.Decides.{nat_tests}
use Rattle.std.proofs.lemmas.List.{append_assoc}
use Rattle.std.specs.Prelude.{◌==◌, filter, find, is_none, is_some, map, nat_le}
use Rattle.std.specs.List.{flat_map, list_all, list_any, range_with_len}
use Rattle.std.proofs.lemmas.Bool.{or_right}
use Rattle.gx_lemmas.proofs.Numbers.{le-apart}
use Rattle.gx_lemmas.proofs.Tests.{or-false, true-false}
use Rattle.gx_ids.specs.declared.ids.Gxid.{Gxid}
use Rattle.gx_ids.specs.declared.ids.Node.{Node}
use Rattle.gx_msg.specs.declared.message.Envelope.{Envelope}
use Rattle.gx_meaning.specs.Plan.{nodes_from}
use Rattle.gx_script.specs.declared.Line.{Line}
use Rattle.gx_script.specs.declared.Script.{Script}
use Rattle.gx_store.specs.declared.event.Event.{Event}
use Rattle.gx_store.specs.declared.event.Event.TheVariants as event
use Rattle.gx_store.specs.declared.mark.Mark.{Mark}
use Rattle.gx_store.specs.declared.node.NodeEvent.TheVariants as here
use Rattle.gx_store.specs.Journals.{is_same_node}
use Rattle.gx_store.specs.Marks.{is_same_gxid, is_same_session, start_count}
use Rattle.gx_store.specs.Ordered.{sent_in}
use Rattle.gx_store.specs.Points.{marks_in}
use Rattle.gx_store.specs.Refusals.{the_coordinator}
use Rattle.gx_store.specs.Schedule.{asked, at_segment, enabled, ends, first_of, gxids_of, is_any_wait, is_exec, is_left, is_next, is_quiet, is_to_end, left_on, may_resend, resends, resumptions, rounds, segments_of, starts, waits_of}
use Rattle.gx_waits.specs.Claims.{is_clear, is_of}
use Rattle.gx_store.specs.Waits.{holds_at, waits_at}
use Rattle.gx_waits.specs.declared.claim.Claim.{Claim}
use Rattle.gx_locks.specs.Locks.{Locks, is_ready, may_take, wait_of}
use Rattle.gx_rules.specs.AtCoordinator.{awaited, coord_can, is_segment}
use Rattle.gx_rules.specs.Machine.{World, can, can_here, delivered, found, world_of}
use Rattle.gx_rules.specs.Rounds.{awaits_graph, can_begin}
use Rattle.gx_law_order.proofs.Lists.{each_append, each_flat, each_map, each_weaker}
use Rattle.gx_law_order.specs.Lists.{Each}
use Rattle.gx_law_order.proofs.World.{Knows, world_knows}
use Rattle.gx_law_order.proofs.Legality.{sessions-stand, world-holds}
use Rattle.gx_law_runs.specs.Enabled.{at_segment_by, drawn, enabled_there, ends_by, is_anybody_waiting, is_due, is_next_by, resends_due, resumes_by, rounds_by, sessions_of, starts_by}
use Rattle.gx_law_locks.specs.Marked.{AreLocksMarked, IsMarked}
use Rattle.gx_law_runs.specs.Links.{is_number}
use Rattle.gx_law_runs.proofs.Awaited.{undrawn-none, world-asks}
use Rattle.gx_law_runs.proofs.RoundsEnabled.{AreRoundsTold, world-told}
use Rattle.gx_law_runs.proofs.Sessions.{end-alike, next-alike, start-alike}
use Rattle.gx_law_locks.proofs.Single.{single-here, single-there}
use Rattle.gx_law_locks.proofs.HoldsInRuns.{world-locked}
use Rattle.gx_law_runs.proofs.World.{world-letters}

-- LISTS
abbrev pub is_start_or_round : Event → Bool
is_start_or_round (event.Start session) = true
is_start_or_round event.Round = true
is_start_or_round _ = false

flat-each : {A B : Type 0} (f g : A → List B) (xs : List A) → Each (λ x. f x ≡ g x) xs → flat_map f xs ≡ flat_map g xs
flat-each f g [] e = refl
flat-each f g (x ∷ xs) e = ap (λ ys. ys ++ flat_map f xs) e.0 ∙ ap (λ ys. g x ++ ys) (flat-each f g xs e.1)

pub any-each : {A : Type 0} (p q : A → Bool) (xs : List A) → Each (λ x. p x ≡ q x) xs → list_any p xs ≡ list_any q xs
any-each p q [] e = refl
any-each p q (x ∷ xs) e = ap (λ b. b || list_any p xs) e.0 ∙ ap (λ b. q x || b) (any-each p q xs e.1)

filter-unfound : (p : Claim → Bool) (xs : List Claim) → find p xs ≡ None → filter p xs ≡ []
filter-unfound p [] e = refl
filter-unfound p (x ∷ xs) e = by_test (p x) e (filter-unfound p xs)
  where
    by_test : (b : Bool) → (if b then Some x else find p xs) ≡ None → (find p xs ≡ None → filter p xs ≡ []) → cond b (x ∷ filter p xs) (filter p xs) ≡ []
    by_test true q f = absurd (cc)
    by_test false q f = f q

pub filter-same : {A : Type 0} (f g : A → Bool) → ((x : A) → f x ≡ g x) → (xs : List A) → filter f xs ≡ filter g xs
filter-same f g e [] = refl
filter-same f g e (x ∷ xs) = ap (λ b. cond b (x ∷ filter f xs) (filter f xs)) (e x) ∙ ap (λ ys. cond (g x) (x ∷ ys) ys) (filter-same f g e xs)

pub each-first : (P : Event → Type 0) (xs : List Event) → Each P xs → Each P (first_of xs)
each-first P [] e = tt
each-first P (x ∷ xs) e = (e.0, tt)

-- of those that pass a test
pub each-passing : {A : Type 0} (P : A → Type 0) (t : A → Bool) (xs : List A) → Each (λ x. t x ≡ true → P x) xs → Each P (filter t xs)
each-passing P t [] e = tt
each-passing P t (x ∷ xs) e = by_test (t x) refl (each-passing P t xs e.1)
  where
    by_test : (b : Bool) → t x ≡ b → Each P (filter t xs) → Each P (cond b (x ∷ filter t xs) (filter t xs))
    by_test true q f = (e.0 q, f)
    by_test false q f = f

pub each-every : {A : Type 0} (P : A → Type 0) → ((x : A) → P x) → (xs : List A) → Each P xs
each-every P f [] = tt
each-every P f (x ∷ xs) = (f x, each-every P f xs)

pub all-each : (t : Event → Bool) (xs : List Event) → Each (λ x. t x ≡ true) xs → list_all t xs ≡ true
all-each t [] e = refl
all-each t (x ∷ xs) e = both (t x) (list_all t xs) e.0 (all-each t xs e.1)
  where
    both : (a b : Bool) → a ≡ true → b ≡ true → (a && b) ≡ true
    both a b e f = grind arith

pub each-range : (P : ℕ → Type 0) (a n : ℕ) → ((k : ℕ) → a ≤ k → k < a + n → P k) → Each P (range_with_len a n)
each-range P a zero f = tt
each-range P a (suc n) f = (f a (same a) (first a n), each-range P (a + 1) n (λ k l h. f k (less a k l) (more a n k h)))
  where
    same : (a : ℕ) → a ≤ a
    same a = omega arith

    first : (a n : ℕ) → a < a + suc n
    first a n = omega arith

    less : (a k : ℕ) → a + 1 ≤ k → a ≤ k
    less a k l = omega arith

    more : (a n k : ℕ) → k < a + 1 + n → k < a + suc n
    more a n k h = omega arith

any-there : {A : Type 0} (t : A → Bool) (xs : List A) (x : A) (ys : List A) → t x ≡ true → list_any t (xs ++ x ∷ ys) ≡ true
any-there t [] x ys e = ap (λ b. b || list_any t ys) e
any-there t (z ∷ xs) x ys e = or_right (t z) (list_any t (xs ++ x ∷ ys)) (any-there t xs x ys e)

-- THE GXIDS THAT WERE DRAWN
module _ (script : Script) (some : 1 ≤ script.segments) (es : List (Event × Bool)) where
  abbrev w : World
  w = world_of script es

  abbrev ms : List Mark
  ms = marks_in w.steps

  pub drawn-alike : gxids_of (marks_in (world_of script es).steps) ≡ drawn (world_of script es).coord
  drawn-alike = ap (λ n. map (λ k. let g : Gxid = record { 0 = k } in g) (range_with_len 1 n)) (less (start_count ms) w.coord.table.next.0 (world-holds script some es).numbers)
    where
      less : (a b : ℕ) → b ≡ a + 1 → a ≡ b - 1
      less a b e = omega arith

  -- STARTS AND ENDS
  next-same : (line : Line) → is_next w.steps line ≡ is_next_by w.coord line
  next-same line = next-alike script line.session w.steps w.coord (sessions-stand script some es line.session) line refl

  starts-same : starts script w.steps ≡ starts_by script w.coord
  starts-same = ap (map (λ (line : Line). event.Start line.session)) (filter-same (is_next w.steps) (is_next_by w.coord) next-same script.lines)

  ends-same : ends script w.steps ≡ ends_by script w.coord
  ends-same = ap (map event.End) (filter-same (is_to_end script w.steps) (λ s. coord_can script w.coord (here.End s)) (λ s. end-alike script s w.steps w.coord (sessions-stand script some es s)) (sessions_of script))

  -- THE SEGMENTS
  segments-are : (a n : ℕ) → 1 ≤ a → a + n ≤ script.segments + 1 → Each (λ (i : Node). is_segment script i ≡ true) (nodes_from a n)
  segments-are a zero l h = tt
  segments-are a (suc n) l h = (is a n script.segments l h, segments-are (a + 1) n (up a) (on a n script.segments h))
    where
      is : (a n k : ℕ) → 1 ≤ a → a + suc n ≤ k + 1 → (nat_le 1 a && nat_le a k) ≡ true
      is a n k l h = grind (arith, nat_tests)

      up : (a : ℕ) → 1 ≤ a + 1
      up a = omega arith

      on : (a n k : ℕ) → a + suc n ≤ k + 1 → a + 1 + n ≤ k + 1
      on a n k h = omega arith

  pub all-segments : Each (λ (i : Node). is_segment script i ≡ true) (segments_of script)
  all-segments = segments-are 1 script.segments (same 1) (first script.segments)
    where
      same : (a : ℕ) → a ≤ a
      same a = omega arith

      first : (a : ℕ) → 1 + a ≤ a + 1
      first a = omega arith

  from-one : (segment : Node) → is_segment script segment ≡ true → 1 ≤ segment.0
  from-one segment e = above segment.0 script.segments e
    where
      above : (a k : ℕ) → (nat_le 1 a && nat_le a k) ≡ true → 1 ≤ a
      above a k e = grind (arith, nat_tests)

  pub segments-first : Each (λ (i : Node). 1 ≤ i.0) (segments_of script)
  segments-first = each_weaker (λ (i : Node). is_segment script i ≡ true) (λ (i : Node). 1 ≤ i.0) from-one (segments_of script) all-segments

  marked : AreLocksMarked (world_of script es)
  marked = (world-locked script some es).marked

  n : Knows script (world_of script es)
  n = world_knows script some es

  -- WHO RESUMES
  -- what stands by the marks at a node of these locks
  module _ (node : Node) (l : Locks) (m : IsMarked ms node l) (once : (g : Gxid) (wanted : Claim) → wait_of l g ≡ Some wanted → filter (is_of g) l.waits ≡ wanted ∷ []) where
    own-waits : (g : Gxid) → waits_of ms node g ≡ filter (is_of g) l.waits
    own-waits g = ap (filter (is_of g)) (sym m.waits)

    ready-so : (g : Gxid) → list_any (is_clear (holds_at ms node) (waits_at ms node)) (waits_of ms node g) ≡ may_take l g
    ready-so g =
        ap (λ ws. list_any (is_clear (holds_at ms node) ws) (filter (is_of g) ws)) (sym m.waits) ∙ ap (λ holds. list_any (is_clear holds l.waits) (filter (is_of g) l.waits)) (sym m.holds)
        ∙ by_wait (wait_of l g) refl
      where
        by_wait : (o : Option Claim) → wait_of l g ≡ o → list_any (is_clear l.holds l.waits) (filter (is_of g) l.waits) ≡ is_ready l o
        by_wait None e = ap (list_any (is_clear l.holds l.waits)) (filter-unfound (is_of g) l.waits e)
        by_wait (Some wanted) e = ap (list_any (is_clear l.holds l.waits)) (once g wanted e) ∙ or-false (is_clear l.holds l.waits wanted)

    count-so : (g : Gxid) → (length (waits_of ms node g) == 0) ≡ not (is_some (wait_of l g))
    count-so g = ap (λ (xs : List Claim). length xs == 0) (own-waits g) ∙ by_wait (wait_of l g) refl
      where
        by_wait : (o : Option Claim) → wait_of l g ≡ o → (length (filter (is_of g) l.waits) == 0) ≡ not (is_some o)
        by_wait None e = ap (λ (xs : List Claim). length xs == 0) (filter-unfound (is_of g) l.waits e)
        by_wait (Some wanted) e = ap (λ (xs : List Claim). length xs == 0) (once g wanted e)

    resumes-so : resumptions ms node ≡ resumes_by w.coord node l
    resumes-so =
        ap (λ gs. first_of (map (event.Resume node) gs))
        (filter-same (λ g. list_any (is_clear (holds_at ms node) (waits_at ms node)) (waits_of ms node g)) (λ g. may_take l g) ready-so (gxids_of ms) ∙ ap (filter (λ g. may_take l g)) drawn-alike)

  resumes-here : resumptions ms the_coordinator ≡ resumes_by w.coord the_coordinator w.coord.locks
  resumes-here = resumes-so the_coordinator w.coord.locks marked.coordinator (single-here script w n).once

  resumes-there : (segment : Node) → 1 ≤ segment.0 → resumptions ms segment ≡ resumes_by w.coord segment (w.segs segment.0).locks
  resumes-there segment one = resumes-so segment (w.segs segment.0).locks (marked.segments segment.0 one) (single-there script w n segment.0).once

  at-same : (segment : Node) → 1 ≤ segment.0 → at_segment script w.steps segment ≡ at_segment_by script w segment
  at-same segment one = ap (λ xs. first_of (xs ++ first_of (left_on script w.steps the_coordinator segment))) (resumes-there segment one)

  -- MESSAGES SENT AGAIN
  due-same : (segment : Node) → 1 ≤ segment.0 → (g : Gxid) → may_resend w.steps segment g ≡ is_due w segment g
  due-same segment one g =
      ap (λ b. is_some (asked w.steps segment g) && (not (is_exec (asked w.steps segment g)) || b))
      (count-so segment (w.segs segment.0).locks (marked.segments segment.0 one) (single-there script w n segment.0).once g)
      ∙ ap (λ o. is_some o && (not (is_exec o) || not (is_some (wait_of (w.segs segment.0).locks g)))) ((world-asks script some es).asks segment g.0)

  told : AreRoundsTold script (world_of script es)
  told = world-told script some es

  resends-same : (segment : Node) → is_segment script segment ≡ true → resends script w.steps segment ≡ resends_due script w segment
  resends-same segment here =
      ap (λ (b : Bool). if is_quiet script w.steps segment then map (λ g. event.Resend segment (Some g)) (filter (may_resend w.steps segment) (gxids_of ms)) ++ (if b then event.Resend segment None ∷ [] else []) else [])
      (told.awaited segment here)
      ∙ ap (λ gs. if is_quiet script w.steps segment then map (λ g. event.Resend segment (Some g)) gs ++ (if awaits_graph w.coord segment then event.Resend segment None ∷ [] else []) else [])
      (filter-same (may_resend w.steps segment) (is_due w segment) (due-same segment (from-one segment here)) (gxids_of ms) ∙ ap (filter (is_due w segment)) drawn-alike)

  -- ROUNDS
  pub any-same : is_any_wait script (marks_in (world_of script es).steps) ≡ is_anybody_waiting script (world_of script es)
  any-same =
      ap (λ (xs : List Claim). not (length xs == 0) || list_any (λ node. not (length (waits_at ms node) == 0)) (segments_of script)) (sym marked.coordinator.waits)
      ∙ ap (λ b. not (length w.coord.locks.waits == 0) || b)
      (any-each (λ node. not (length (waits_at ms node) == 0)) (λ segment. not (length (w.segs segment.0).locks.waits == 0)) (segments_of script)
      (each_weaker (λ (i : Node). 1 ≤ i.0) (λ (i : Node). not (length (waits_at ms i) == 0) ≡ not (length (w.segs i.0).locks.waits == 0)) (λ i one. ap (λ (xs : List Claim). not (length xs == 0)) (sym (marked.segments i.0 one).waits)) (segments_of script) segments-first))

  pub rounds-begin : rounds script (world_of script es).steps ≡ (if can_begin script (world_of script es).coord && is_any_wait script (marks_in (world_of script es).steps) then event.Round ∷ [] else [])
  rounds-begin =
      ap (λ (b : Bool). if b then event.Round ∷ [] else [])
      (ap (λ b. script.detector && (not b && is_any_wait script ms)) told.runs ∙ may-begin script.detector w.coord.reports (is_any_wait script ms))
    where
      may-begin : {A : Type 0} (a : Bool) (o : Option A) (b : Bool) → (a && (not (is_some o) && b)) ≡ ((a && is_none o) && b)
      may-begin true None b = refl
      may-begin true (Some x) b = refl
      may-begin false o b = refl

  rounds-same : rounds script w.steps ≡ rounds_by script w
  rounds-same = rounds-begin ∙ ap (λ b. if can_begin script w.coord && b then event.Round ∷ [] else []) any-same

  -- ALL
  pub enabled-there : enabled script (world_of script es).steps ≡ enabled_there script (world_of script es)
  enabled-there =
      ap (λ xs. receipts ++ xs ++ resumptions ms the_coordinator ++ again ++ starts script w.steps ++ ends script w.steps ++ rounds script w.steps) (flat-each (at_segment script w.steps) (at_segment_by script w) (segments_of script) (each_weaker (λ (i : Node). 1 ≤ i.0) _ at-same (segments_of script) segments-first))
      ∙ ap (λ xs. receipts ++ there ++ xs ++ again ++ starts script w.steps ++ ends script w.steps ++ rounds script w.steps) resumes-here
      ∙ ap (λ xs. receipts ++ there ++ here-too ++ xs ++ starts script w.steps ++ ends script w.steps ++ rounds script w.steps) (flat-each (resends script w.steps) (resends_due script w) (segments_of script) (each_weaker (λ (i : Node). is_segment script i ≡ true) _ resends-same (segments_of script) all-segments))
      ∙ ap (λ xs. receipts ++ there ++ here-too ++ flat_map (resends_due script w) (segments_of script) ++ xs ++ ends script w.steps ++ rounds script w.steps) starts-same
      ∙ ap (λ xs. receipts ++ there ++ here-too ++ flat_map (resends_due script w) (segments_of script) ++ starts_by script w.coord ++ xs ++ rounds script w.steps) ends-same
      ∙ ap (λ xs. receipts ++ there ++ here-too ++ flat_map (resends_due script w) (segments_of script) ++ starts_by script w.coord ++ ends_by script w.coord ++ xs) rounds-same
    where
      receipts : List Event
      receipts = flat_map (λ segment. first_of (left_on script (world_of script es).steps segment the_coordinator)) (segments_of script)

      there : List Event
      there = flat_map (at_segment_by script (world_of script es)) (segments_of script)

      here-too : List Event
      here-too = resumes_by (world_of script es).coord the_coordinator (world_of script es).coord.locks

      again : List Event
      again = flat_map (resends script (world_of script es).steps) (segments_of script)

  -- WHAT IS ENABLED IS ADMITTED
  abbrev Admits : Event → Type 0
  Admits e = can script w e ≡ true

  -- a message of the link is found
  receipt-admitted : (from to : Node) (number : ℕ) → (is_segment script from ≡ true) × (to ≡ the_coordinator) → 1 ≤ number → number ≤ sent_in from to w.steps → Admits (event.Receive from to number)
  receipt-admitted from to number link one most = by_found (found from to number w.sent) (counted ∙ within number (sent_in from to w.steps) one most)
    where
      counted : is_some (found from to number w.sent) ≡ is_number number (sent_in from to w.steps)
      counted = (world-letters script some es from to number).counted

      within : (n k : ℕ) → 1 ≤ n → n ≤ k → is_number n k ≡ true
      within n k l h = grind (arith, nat_tests)

      by_found : (o : Option Envelope) → is_some o ≡ true → can_here script w to (delivered from o) ≡ true
      by_found None e = absurd (cc)
      by_found (Some envelope) e = subst (λ n. (if is_same_node n the_coordinator then is_segment script from else true) ≡ true) (sym link.1) link.0

  delivery-admitted : (from to : Node) (number : ℕ) → is_segment script to ≡ true → 1 ≤ number → number ≤ sent_in from to w.steps → Admits (event.Receive from to number)
  delivery-admitted from to number link one most = by_found (found from to number w.sent) (counted ∙ within number (sent_in from to w.steps) one most)
    where
      counted : is_some (found from to number w.sent) ≡ is_number number (sent_in from to w.steps)
      counted = (world-letters script some es from to number).counted

      within : (n k : ℕ) → 1 ≤ n → n ≤ k → is_number n k ≡ true
      within n k l h = grind (arith, nat_tests)

      away : (a k : ℕ) → (nat_le 1 a && nat_le a k) ≡ true → (a == 0) ≡ false
      away a k e = grind (arith, nat_tests)

      by_found : (o : Option Envelope) → is_some o ≡ true → can_here script w to (delivered from o) ≡ true
      by_found None e = absurd (cc)
      by_found (Some envelope) e = ap (λ (b : Bool). if b then is_segment script from else true) (away to.0 script.segments link)

  left-admitted : (from to : Node) → ((number : ℕ) → 1 ≤ number → number ≤ sent_in from to w.steps → Admits (event.Receive from to number)) → Each Admits (left_on script w.steps from to)
  left-admitted from to f =
      each_map Admits (event.Receive from to) (filter (is_left script w.steps from to) (range_with_len 1 (sent_in from to w.steps)))
      (each-passing (λ n. Admits (event.Receive from to n)) (is_left script w.steps from to) (range_with_len 1 (sent_in from to w.steps))
      (each-range (λ n. is_left script w.steps from to n ≡ true → Admits (event.Receive from to n)) 1 (sent_in from to w.steps) (λ k l h t. f k l (up-to k (sent_in from to w.steps) h))))
    where
      up-to : (k n : ℕ) → k < 1 + n → k ≤ n
      up-to k n h = omega arith

  -- who is ready may resume
  resumption-admitted : (node : Node) (l : Locks) → ((g : Gxid) → may_take l g ≡ true → Admits (event.Resume node g)) → Each Admits (resumes_by w.coord node l)
  resumption-admitted node l f =
      each-first Admits _
      (each_map Admits (event.Resume node) (filter (λ g. may_take l g) (drawn w.coord))
      (each-passing (λ g. Admits (event.Resume node g)) (λ g. may_take l g) (drawn w.coord) (each-every (λ g. may_take l g ≡ true → Admits (event.Resume node g)) f (drawn w.coord))))

  resumption-there : (segment : Node) → is_segment script segment ≡ true → (g : Gxid) → may_take (w.segs segment.0).locks g ≡ true → Admits (event.Resume segment g)
  resumption-there segment s g ok =
      ap (λ (b : Bool). if b then may_take w.coord.locks g else is_segment script (w.segs segment.0).node && may_take (w.segs segment.0).locks g) (away segment.0 script.segments s)
      ∙ both (is_segment script (w.segs segment.0).node) _ (ap (is_segment script) (n.well.names segment.0) ∙ s) ok
    where
      away : (a k : ℕ) → (nat_le 1 a && nat_le a k) ≡ true → (a == 0) ≡ false
      away a k e = grind (arith, nat_tests)

      both : (a b : Bool) → a ≡ true → b ≡ true → (a && b) ≡ true
      both a b e f = grind arith

  -- so who resumes may do so
  pub resumes-here-admitted : Each (λ e. can script (world_of script es) e ≡ true) (resumptions (marks_in (world_of script es).steps) the_coordinator)
  resumes-here-admitted = subst (Each Admits) (sym resumes-here) (resumption-admitted the_coordinator w.coord.locks (λ g ok. ok))

  pub resumes-there-admitted : (segment : Node) → is_segment script segment ≡ true → Each (λ e. can script (world_of script es) e ≡ true) (resumptions (marks_in (world_of script es).steps) segment)
  resumes-there-admitted segment s = subst (Each Admits) (sym (resumes-there segment (from-one segment.0 script.segments s))) (resumption-admitted segment (w.segs segment.0).locks (resumption-there segment s))
    where
      from-one : (a k : ℕ) → (nat_le 1 a && nat_le a k) ≡ true → 1 ≤ a
      from-one a k e = grind (arith, nat_tests)

  again-admitted : (segment : Node) → Each Admits (resends_due script w segment)
  again-admitted segment = by_quiet (is_quiet script w.steps segment)
    where
      first : (a b : Bool) → (a && b) ≡ true → a ≡ true
      first a b e = grind arith

      some-there : Each Admits (map (λ g. event.Resend segment (Some g)) (filter (is_due w segment) (drawn w.coord)))
      some-there =
          each_map Admits (λ g. event.Resend segment (Some g)) (filter (is_due w segment) (drawn w.coord))
          (each-passing (λ g. Admits (event.Resend segment (Some g))) (is_due w segment) (drawn w.coord) (each-every (λ g. is_due w segment g ≡ true → Admits (event.Resend segment (Some g))) (λ g e. first _ _ e) (drawn w.coord)))

      graph-there : (b : Bool) → awaits_graph w.coord segment ≡ b → Each Admits (if b then event.Resend segment None ∷ [] else [])
      graph-there true e = (e, tt)
      graph-there false e = tt

      by_quiet : (b : Bool) → Each Admits (if b then map (λ g. event.Resend segment (Some g)) (filter (is_due w segment) (drawn w.coord)) ++ (if awaits_graph w.coord segment then event.Resend segment None ∷ [] else []) else [])
      by_quiet true = each_append Admits _ _ some-there (graph-there (awaits_graph w.coord segment) refl)
      by_quiet false = tt

  start-admitted : (xs : List Line) (line : Line) (ys : List Line) → script.lines ≡ xs ++ line ∷ ys → is_next_by w.coord line ≡ true → coord_can script w.coord (here.Start line.session) ≡ true
  start-admitted xs line ys e next =
      sym (start-alike script line.session w.steps w.coord (sessions-stand script some es line.session))
      ∙ ap (list_any (λ l. is_same_session l.session line.session && is_next w.steps l)) e
      ∙ any-there (λ l. is_same_session l.session line.session && is_next w.steps l) xs line ys (both line.session.0 (is_next w.steps line) (next-same line ∙ next))
    where
      both : (a : ℕ) (b : Bool) → b ≡ true → ((a == a) && b) ≡ true
      both a b e = grind (arith, nat_tests)

  lines-admitted : (xs ls : List Line) → script.lines ≡ xs ++ ls → Each (λ (l : Line). is_next_by w.coord l ≡ true → Admits (event.Start l.session)) ls
  lines-admitted xs [] e = tt
  lines-admitted xs (l ∷ ls) e = (λ next. start-admitted xs l ls e next, lines-admitted (xs ++ l ∷ []) ls (e ∙ sym (append_assoc xs (l ∷ []) ls)))

  abbrev receipts-now : List Event
  receipts-now = flat_map (λ segment. first_of (left_on script w.steps segment the_coordinator)) (segments_of script)

  abbrev at-segments : List Event
  at-segments = flat_map (at_segment_by script w) (segments_of script)

  abbrev resumes-now : List Event
  resumes-now = resumes_by w.coord the_coordinator w.coord.locks

  abbrev again-now : List Event
  again-now = flat_map (resends_due script w) (segments_of script)

  starts-admitted : Each Admits (starts_by script w.coord)
  starts-admitted = each_map Admits (λ (l : Line). event.Start l.session) (filter (is_next_by w.coord) script.lines) (each-passing (λ (l : Line). Admits (event.Start l.session)) (is_next_by w.coord) script.lines (lines-admitted [] script.lines refl))

  ends-admitted : Each Admits (ends_by script w.coord)
  ends-admitted =
      each_map Admits event.End (filter (λ s. coord_can script w.coord (here.End s)) (sessions_of script))
      (each-passing (λ s. Admits (event.End s)) (λ s. coord_can script w.coord (here.End s)) (sessions_of script) (each-every (λ s. coord_can script w.coord (here.End s) ≡ true → Admits (event.End s)) (λ s e. e) (sessions_of script)))

  rounds-admitted : Each Admits (rounds_by script w)
  rounds-admitted = by_test (can_begin script w.coord) (is_anybody_waiting script w) refl
    where
      by_test : (a b : Bool) → can_begin script w.coord ≡ a → Each Admits (if a && b then event.Round ∷ [] else [])
      by_test true true e = (e, tt)
      by_test true false e = tt
      by_test false b e = tt

  pub each-admitted : Each Admits (receipts-now ++ at-segments ++ resumes-now ++ again-now ++ starts_by script w.coord ++ ends_by script w.coord ++ rounds_by script w)
  each-admitted =
      each_append Admits _ (rounds_by script w)
      (each_append Admits _ (ends_by script w.coord)
      (each_append Admits _ (starts_by script w.coord)
      (each_append Admits _ again-now
      (each_append Admits _ resumes-now
      (each_append Admits receipts-now at-segments
      (each_flat Admits _ (segments_of script) (each_weaker (λ (i : Node). is_segment script i ≡ true) _ (λ i s. each-first Admits _ (left-admitted i the_coordinator (λ n l h. receipt-admitted i the_coordinator n (s, refl) l h))) (segments_of script) all-segments))
      (each_flat Admits _ (segments_of script)
      (each_weaker (λ (i : Node). is_segment script i ≡ true) _
      (λ i s. each-first Admits _ (each_append Admits _ _ (resumption-admitted i (w.segs i.0).locks (resumption-there i s)) (each-first Admits _ (left-admitted the_coordinator i (λ n l h. delivery-admitted the_coordinator i n s l h)))))
      (segments_of script) all-segments)))
      (resumption-admitted the_coordinator w.coord.locks (λ g ok. ok)))
      (each_flat Admits (resends_due script w) (segments_of script) (each-every (λ (i : Node). Each Admits (resends_due script w i)) again-admitted (segments_of script))))
      starts-admitted) ends-admitted) rounds-admitted

  -- none of them but starts and the last is a start or a round
  abbrev IsOther : Event → Type 0
  IsOther e = is_start_or_round e ≡ false

  first-other : (xs : List Event) → Each IsOther xs → Each IsOther (first_of xs)
  first-other xs e = each-first IsOther xs e

  left-other : (from to : Node) → Each IsOther (left_on script w.steps from to)
  left-other from to = each_map IsOther (event.Receive from to) _ (each-every (λ n. IsOther (event.Receive from to n)) (λ n. refl) _)

  resumes-other : (node : Node) (l : Locks) → Each IsOther (resumes_by w.coord node l)
  resumes-other node l = first-other _ (each_map IsOther (event.Resume node) _ (each-every (λ g. IsOther (event.Resume node g)) (λ g. refl) _))

  again-other : (segment : Node) → Each IsOther (resends_due script w segment)
  again-other segment = by_quiet (is_quiet script w.steps segment) (awaits_graph w.coord segment)
    where
      graph-there : (b : Bool) → Each IsOther (if b then event.Resend segment None ∷ [] else [])
      graph-there true = (refl, tt)
      graph-there false = tt

      by_quiet : (a b : Bool) → Each IsOther (if a then map (λ g. event.Resend segment (Some g)) (filter (is_due w segment) (drawn w.coord)) ++ (if b then event.Resend segment None ∷ [] else []) else [])
      by_quiet true b =
          each_append IsOther _ _ (each_map IsOther (λ g. event.Resend segment (Some g)) (filter (is_due w segment) (drawn w.coord)) (each-every (λ g. IsOther (event.Resend segment (Some g))) (λ g. refl) (filter (is_due w segment) (drawn w.coord)))) (graph-there b)
      by_quiet false b = tt

  pub each-other : Each (λ e. is_start_or_round e ≡ false) (receipts-now ++ at-segments ++ resumes-now ++ again-now)
  each-other =
      each_append IsOther _ again-now
      (each_append IsOther _ resumes-now
      (each_append IsOther receipts-now at-segments
      (each_flat IsOther _ (segments_of script) (each-every (λ (i : Node). Each IsOther (first_of (left_on script w.steps i the_coordinator))) (λ i. first-other _ (left-other i the_coordinator)) (segments_of script)))
      (each_flat IsOther _ (segments_of script)
      (each-every (λ (i : Node). Each IsOther (at_segment_by script w i)) (λ i. first-other _ (each_append IsOther _ _ (resumes-other i (w.segs i.0).locks) (first-other _ (left-other the_coordinator i)))) (segments_of script))))
      (resumes-other the_coordinator w.coord.locks))
      (each_flat IsOther (resends_due script w) (segments_of script) (each-every (λ (i : Node). Each IsOther (resends_due script w i)) again-other (segments_of script)))

  pub ends-other : Each (λ e. is_start_or_round e ≡ false) (ends_by script w.coord)
  ends-other = each_map IsOther event.End (filter (λ s. coord_can script w.coord (here.End s)) (sessions_of script)) (each-every (λ s. IsOther (event.End s)) (λ s. refl) (filter (λ s. coord_can script w.coord (here.End s)) (sessions_of script)))

  pub all-admitted : list_all (can script (world_of script es)) (enabled script (world_of script es).steps) ≡ true
  all-admitted = ap (list_all (can script w)) enabled-there ∙ all-each (can script w) (enabled_there script w) each-admitted

  -- who wasn't drawn
  among : (a n g : ℕ) → a ≤ g → g < a + n → list_any (λ h. is_same_gxid h (record { 0 = g })) (map (λ k. let h : Gxid = record { 0 = k } in h) (range_with_len a n)) ≡ true
  among a zero g l h = absurd (none a g l h)
    where
      none : (a g : ℕ) → a ≤ g → g < a + 0 → ⊥
      none a g l h = omega arith
  among a (suc n) g l h = by_first (eqb a g) refl (λ m. among (a + 1) n g m (on a n g h))
    where
      on : (a n g : ℕ) → g < a + suc n → g < a + 1 + n
      on a n g h = omega arith

      by_first : (b : Bool) → eqb a g ≡ b → (a + 1 ≤ g → list_any (λ h. is_same_gxid h (record { 0 = g })) (map (λ k. let h : Gxid = record { 0 = k } in h) (range_with_len (a + 1) n)) ≡ true) → (b || list_any (λ h. is_same_gxid h (record { 0 = g })) (map (λ k. let h : Gxid = record { 0 = k } in h) (range_with_len (a + 1) n))) ≡ true
      by_first true e f = refl
      by_first false e f = f (le-apart a g l e)

  pub unknown-none : (segment : Node) (g : Gxid) → list_any (λ h. is_same_gxid h g) (gxids_of (marks_in (world_of script es).steps)) ≡ false → awaited (world_of script es).coord g segment ≡ None
  unknown-none segment g e =
      undrawn-none script some es segment g.0
      (λ one below. true-false (list_any (λ h. is_same_gxid h g) (drawn w.coord)) (among 1 (w.coord.table.next.0 - 1) g.0 one (in-range g.0 w.coord.table.next.0 one below)) (sym (ap (list_any (λ h. is_same_gxid h g)) drawn-alike) ∙ e))
    where
      in-range : (a b : ℕ) → 1 ≤ a → a < b → a < 1 + (b - 1)
      in-range a b l h = omega arith
