-- Who resumes at a node by the steps is the least of those whose waits in its locks are ready.
use Rattle.std.proofs.Common.{◌≡◌, ◌≢◌, ◌≤◌, ◌<◌, ℕ, zero, suc, ◌+◌, ◌-◌, List, [], ◌∷◌, Option, Some, None, Bool, true, false, cond, eqb, refl, sym, ap, ◌∙◌, subst, ◌||◌, take, map, get_or, arith, ⊎_elim}
use Rattle.std.proofs.lemmas.Bool.{cases_eq}
use Rattle.std.proofs.lemmas.Bool.Decides.{nat_tests}
use Rattle.std.proofs.lemmas.List.Elements.{recursion_from_All}
use Rattle.std.proofs.lemmas.List.Folds.{list_any_at}
use Rattle.std.specs.List.{AllByRecursion, filter, list_any, range_with_len}
use Rattle.std.specs.Option.{option_to_list}
use Rattle.std.specs.Prelude.{Contains, find, nat_le, option_map}
use Rattle.gx_ids.specs.declared.ids.Gxid.{Gxid}
use Rattle.gx_ids.specs.declared.ids.Node.{Node}
use Rattle.gx_waits.specs.declared.claim.Claim.{Claim}
use Rattle.gx_waits.specs.Claims.{is_clear, is_of}
use Rattle.gx_locks.specs.Locks.{IsLeast, Locks, next_ready, ready_ones, wait_of}
use Rattle.gx_locks.proofs.Least.{IsLeast-least_with}
use Rattle.gx_dtx.specs.Table.{find_txn}
use Rattle.gx_dtx.specs.declared.txn.Txn.{Txn}
use Rattle.gx_script.specs.declared.Script.{Script}
use Rattle.gx_store.specs.declared.event.Event.{Event}
use Rattle.gx_store.specs.declared.event.Event.TheVariants.{Resume}
use Rattle.gx_store.specs.declared.run.Step.{Step}
use Rattle.gx_store.specs.Points.{marks_in}
use Rattle.gx_store.specs.Refusals.{the_coordinator}
use Rattle.gx_store.specs.Schedule.{first_of, gxids_of, resumptions, waits_of}
use Rattle.gx_store.specs.Waits.{holds_at, waits_at}
use Rattle.gx_rules.specs.Coordinators.{Coord}
use Rattle.gx_rules.specs.Segments.{Seg}
use Rattle.gx_rules.specs.Machine.{Letter, World, world_of}
use Rattle.gx_law_order.proofs.Past.{there-drawn}
use Rattle.gx_law_order.proofs.Sent.{at}
use Rattle.gx_law_order.proofs.Waiting.{HasSlice, Waits, each-among, has-slice, has-statement, waiting}
use Rattle.gx_law_order.proofs.World.{Knows, world_knows}
use Rattle.gx_law_order.proofs.Always.{world-holds}
use Rattle.gx_law_order.proofs.Events.{live-stage}
use Rattle.gx_law_order.proofs.WaitingParts.{awaited}
use Rattle.gx_law_order.specs.Standings.{gx, standing}
use Rattle.gx_law_order.specs.Standings.Standing.{Unborn}
use Rattle.gx_law_reads.proofs.Ends.{TakenAt, world-facts}
use Rattle.gx_law_locks.specs.Marked.{IsMarked}
use Rattle.gx_law_runs.proofs.Enabled.{drawn-alike}
use Rattle.gx_law_locks.proofs.HoldsInRuns.{world-locked}
use Rattle.gx_law_runs.specs.Reached.{IsReached}
use Rattle.gx_law_runs.specs.Replays.{coordinator_after, segment_after}
use Rattle.gx_law_runs.proofs.Reaching.{replayed}

-- THE LEAST OF A LIST
abbrev gxids_from : ℕ → ℕ → List Gxid
gxids_from first count = map (λ n. record { 0 = n }) (range_with_len first count)

abbrev is_among : List Gxid → Gxid → Bool
is_among gs g = list_any (λ h. eqb h.0 g.0) gs

none-passes : {A : Type 0} (test : A → Bool) (xs : List A) → ((x : A) → test x ≡ false) → filter test xs ≡ []
none-passes test [] none = refl
none-passes test (x ∷ xs) none = ap (λ b. cond b (x ∷ filter test xs) (filter test xs)) (none x) ∙ none-passes test xs none

within_first : (first number count : ℕ) → first ≢ number → first ≤ number → number < first + suc count → (first + 1 ≤ number) × (number < first + 1 + count)
within_first first number count apart low high = (grind (arith, nat_tests), omega arith)

module _ {X : Type 0} (test : Gxid → Bool) (f : Gxid → X) (g : Gxid) (passes : test g ≡ true) (least : (h : Gxid) → test h ≡ true → g.0 ≤ h.0) where
  first-listed : (first count : ℕ) → first ≤ g.0 → g.0 < first + count → take 1 (map f (filter test (gxids_from first count))) ≡ f g ∷ []
  first-listed first zero low high = absurd (omega arith)
  first-listed first (suc count) low high = ⊎_elim here (later (first-listed (first + 1) count)) (cases_eq first g.0)
    where
      put : Bool → List X
      put b = take 1 (map f (cond b (record { 0 = first } ∷ filter test (gxids_from (first + 1) count)) (filter test (gxids_from (first + 1) count))))

      here : first ≡ g.0 → put (test (record { 0 = first })) ≡ f g ∷ []
      here same =
          let is : record { 0 = first } ≡ g = ap (λ n. record { 0 = n }) same in
          ap put (ap test is ∙ passes) ∙ ap (λ h. f h ∷ []) is

      fails : (b : Bool) → test (record { 0 = first }) ≡ b → first ≢ g.0 → b ≡ false
      fails true e apart = let under : g.0 ≤ first = least (record { 0 = first }) e in absurd (apart (omega arith))
      fails false e apart = refl

      later : (first + 1 ≤ g.0 → g.0 < first + 1 + count → take 1 (map f (filter test (gxids_from (first + 1) count))) ≡ f g ∷ []) → first ≢ g.0 → put (test (record { 0 = first })) ≡ f g ∷ []
      later more apart =
          let in_rest : (first + 1 ≤ g.0) × (g.0 < first + 1 + count) = within_first first g.0 count apart low high in
          ap put (fails (test (record { 0 = first })) refl apart) ∙ more in_rest.0 in_rest.1

among-listed : (g : Gxid) (gs : List Gxid) → Contains gs g → is_among gs g ≡ true
among-listed g gs (k, inside, there) = list_any_at (λ h. eqb h.0 g.0) gs k g inside (itself (get_or gs k g) there)
  where
    itself : (h : Gxid) → h ≡ g → eqb h.0 g.0 ≡ true
    itself h same = grind (arith, nat_tests)

under-all : (g h : Gxid) (gs : List Gxid) → AllByRecursion (λ (k : Gxid). g.0 ≤ k.0) gs → is_among gs h ≡ true → g.0 ≤ h.0
under-all g h [] all there = absurd (cc)
under-all g h (k ∷ gs) all there = by (eqb k.0 h.0) refl there (under-all g h gs all.1)
  where
    same : (a b c : ℕ) → a ≤ b → eqb b c ≡ true → a ≤ c
    same a b c l e = grind (arith, nat_tests)

    by : (b : Bool) → eqb k.0 h.0 ≡ b → (b || is_among gs h) ≡ true → (is_among gs h ≡ true → g.0 ≤ h.0) → g.0 ≤ h.0
    by true e there more = same g.0 k.0 h.0 all.0 e
    by false e there more = more there

-- the first of the listed ones that are among some is the least of these
least-first : {X : Type 0} (f : Gxid → X) (gs : List Gxid) (o : Option Gxid) → IsLeast o gs → (first count : ℕ) → ((g : Gxid) → is_among gs g ≡ true → (first ≤ g.0) × (g.0 < first + count))
    → take 1 (map f (filter (is_among gs) (gxids_from first count))) ≡ option_to_list (option_map f o)
least-first f gs None none first count within = ap (λ xs. take 1 (map f xs)) (none-passes (is_among gs) (gxids_from first count) (λ g. ap (λ hs. is_among hs g) none))
least-first f gs (Some g) least first count within =
    let is : is_among gs g ≡ true = among-listed g gs least.0 in
    first-listed (is_among gs) f g is (λ h there. under-all g h gs (recursion_from_All (λ (k : Gxid). g.0 ≤ k.0) gs least.1) there) first count (within g is).0 (within g is).1

-- READY WAITS
any-ready : (p : Claim → Bool) (g : Gxid) (ws : List Claim) → list_any p (filter (is_of g) ws) ≡ is_among (map (λ wait. wait.gxid) (filter p ws)) g
any-ready p g [] = refl
any-ready p g (w ∷ ws) = by (p w) (is_of g w) refl refl (any-ready p g ws)
  where
    own : List Claim
    own = filter (is_of g) ws

    free : List Claim
    free = filter p ws

    by : (f b : Bool) → p w ≡ f → is_of g w ≡ b → list_any p own ≡ is_among (map (λ wait. wait.gxid) free) g
        → list_any p (cond (is_of g w) (w ∷ own) own) ≡ is_among (map (λ wait. wait.gxid) (cond (p w) (w ∷ free) free)) g
    by true true e h more = ap (λ b. list_any p (cond b (w ∷ own) own)) h ∙ ap (λ b. b || list_any p own) e ∙ sym (ap (λ b. is_among (map (λ wait. wait.gxid) (cond b (w ∷ free) free)) g) e ∙ ap (λ b. b || is_among (map (λ wait. wait.gxid) free) g) h)
    by true false e h more = ap (λ b. list_any p (cond b (w ∷ own) own)) h ∙ more ∙ sym (ap (λ b. is_among (map (λ wait. wait.gxid) (cond b (w ∷ free) free)) g) e ∙ ap (λ b. b || is_among (map (λ wait. wait.gxid) free) g) h)
    by false true e h more = ap (λ b. list_any p (cond b (w ∷ own) own)) h ∙ ap (λ b. b || list_any p own) e ∙ more ∙ sym (ap (λ b. is_among (map (λ wait. wait.gxid) (cond b (w ∷ free) free)) g) e)
    by false false e h more = ap (λ b. list_any p (cond b (w ∷ own) own)) h ∙ more ∙ sym (ap (λ b. is_among (map (λ wait. wait.gxid) (cond b (w ∷ free) free)) g) e)

-- whose wait is among the ready ones has one
finds : (p : Claim → Bool) (q : Claim → Bool) (ws : List Claim) → list_any p (filter q ws) ≡ true → (wanted : Claim) × (find q ws ≡ Some wanted)
finds p q [] there = absurd (cc)
finds p q (w ∷ ws) there = by (q w) refl there (finds p q ws)
  where
    by : (b : Bool) → q w ≡ b → list_any p (cond b (w ∷ filter q ws) (filter q ws)) ≡ true → (list_any p (filter q ws) ≡ true → (wanted : Claim) × (find q ws ≡ Some wanted)) → (wanted : Claim) × (cond b (Some w) (find q ws) ≡ Some wanted)
    by true e there more = (w, refl)
    by false e there more = more there

-- AT A NODE
module _ (script : Script) (some : 1 ≤ script.segments) (es : List (Event × Bool)) where
  abbrev w : World
  w = world_of script es

  n : Knows script (world_of script es)
  n = world_knows script some es

  module _ (node : Node) (l : Locks) (m : IsMarked (marks_in w.steps) node l) (drawn : (g : Gxid) (wanted : Claim) → wait_of l g ≡ Some wanted → (1 ≤ g.0) × (g.0 < w.coord.table.next.0)) where
    ready-so : (g : Gxid) → list_any (is_clear (holds_at (marks_in w.steps) node) (waits_at (marks_in w.steps) node)) (waits_of (marks_in w.steps) node g) ≡ is_among (ready_ones l) g
    ready-so g =
        ap (λ ws. list_any (is_clear (holds_at (marks_in w.steps) node) ws) (filter (is_of g) ws)) (sym m.waits)
        ∙ ap (λ holds. list_any (is_clear holds l.waits) (filter (is_of g) l.waits)) (sym m.holds)
        ∙ any-ready (is_clear l.holds l.waits) g l.waits

    within : (g : Gxid) → is_among (ready_ones l) g ≡ true → (1 ≤ g.0) × (g.0 < 1 + (w.coord.table.next.0 - 1))
    within g there =
        let found = finds (is_clear l.holds l.waits) (is_of g) l.waits (any-ready (is_clear l.holds l.waits) g l.waits ∙ there) in
        let d = drawn g found.0 found.1 in
        (d.0, below g.0 w.coord.table.next.0 d.0 d.1)
      where
        below : (a b : ℕ) → 1 ≤ a → a < b → a < 1 + (b - 1)
        below a b low high = omega (arith, low, high)

    filter-same : (f h : Gxid → Bool) → ((g : Gxid) → f g ≡ h g) → (gs : List Gxid) → filter f gs ≡ filter h gs
    filter-same f h e [] = refl
    filter-same f h e (g ∷ gs) = ap (λ b. cond b (g ∷ filter f gs) (filter f gs)) (e g) ∙ ap (λ xs. cond (h g) (g ∷ xs) xs) (filter-same f h e gs)

    resumes-least : resumptions (marks_in w.steps) node ≡ option_to_list (option_map (Resume node) (next_ready l))
    resumes-least =
        ap (λ gs. first_of (map (Resume node) gs))
        (filter-same (λ g. list_any (is_clear (holds_at (marks_in w.steps) node) (waits_at (marks_in w.steps) node)) (waits_of (marks_in w.steps) node g)) (is_among (ready_ones l)) ready-so (gxids_of (marks_in w.steps))
        ∙ ap (filter (is_among (ready_ones l))) (drawn-alike script some es))
        ∙ least-first (Resume node) (ready_ones l) (next_ready l) (IsLeast-least_with (ready_ones l)) 1 (w.coord.table.next.0 - 1) within

  drawn-here : (g : Gxid) (wanted : Claim) → wait_of w.coord.locks g ≡ Some wanted → (1 ≤ g.0) × (g.0 < w.coord.table.next.0)
  drawn-here g wanted e =
      let l = live-stage (world_of script es).coord g.0 (has-statement script (world_of script es) n g wanted e).live in
      there-drawn (world_of script es).coord.table.next.0 g.0 (world_of script es).coord.table.txns l.txn n.kept.whole.drawn l.found

  drawn-there : (i : ℕ) (g : Gxid) (wanted : Claim) → wait_of (w.segs i).locks g ≡ Some wanted → (1 ≤ g.0) × (g.0 < w.coord.table.next.0)
  drawn-there i g wanted e = (low, by_found (find_txn (world_of script es).coord.table (gx g.0)) refl (awaited script (world_of script es) n (world-holds script some es) i g has.slice has.is).drawn)
    where
      has : HasSlice script (w.segs i) g wanted
      has = has-slice script (world_of script es) n.well i g wanted e

      x : Waits script (world_of script es) i g has.slice
      x = waiting script (world_of script es) n.well i g has.slice has.is

      taken : TakenAt (world_of script es) x.come.letter.to x.come.letter.envelope.message
      taken = each-among (λ (l : Letter). TakenAt (world_of script es) l.to l.envelope.message) (world_of script es).sent x.come.letter (world-facts script some es).ends.taken x.come.among

      low : 1 ≤ g.0
      low = (subst (TakenAt (world_of script es) x.come.letter.to) x.come.told taken).0

      by_found : (o : Option Txn) → find_txn (world_of script es).coord.table (gx g.0) ≡ o → (standing (nat_le w.coord.table.next.0 g.0) o i ≡ Unborn → ⊥) → g.0 < w.coord.table.next.0
      by_found None f born = by_test (nat_le w.coord.table.next.0 g.0) refl born
        where
          below : (a b : ℕ) → nat_le a b ≡ false → b < a
          below a b q = grind (arith, nat_tests)

          by_test : (b : Bool) → nat_le w.coord.table.next.0 g.0 ≡ b → (standing b None i ≡ Unborn → ⊥) → g.0 < w.coord.table.next.0
          by_test true q born = absurd (born refl)
          by_test false q born = below w.coord.table.next.0 g.0 q
      by_found (Some t) f born = (there-drawn (world_of script es).coord.table.next.0 g.0 (world_of script es).coord.table.txns t n.kept.whole.drawn f).1

  pub least-here : resumptions (marks_in (world_of script es).steps) the_coordinator ≡ option_to_list (option_map (Resume the_coordinator) (next_ready (world_of script es).coord.locks))
  least-here = resumes-least the_coordinator w.coord.locks (world-locked script some es).marked.coordinator drawn-here

  pub least-there : (i : ℕ) → 1 ≤ i → resumptions (marks_in (world_of script es).steps) (at i) ≡ option_to_list (option_map (Resume (at i)) (next_ready ((world_of script es).segs i).locks))
  least-there i one = resumes-least (at i) (w.segs i).locks ((world-locked script some es).marked.segments i one) (drawn-there i)

-- WHERE STEPS HAVE LED
module _ (script : Script) (some : 1 ≤ script.segments) (steps : List Step) (is : IsReached script steps) where
  pub reached-here : resumptions (marks_in steps) the_coordinator ≡ option_to_list (option_map (Resume the_coordinator) (next_ready (coordinator_after script steps).locks))
  reached-here =
      ap (λ ss. resumptions (marks_in ss) the_coordinator) (sym is.is) ∙ least-here script some is.events
      ∙ ap (λ (c : Coord). option_to_list (option_map (Resume the_coordinator) (next_ready c.locks))) (replayed script steps is).coordinator

  pub reached-there : (i : ℕ) → 1 ≤ i → resumptions (marks_in steps) (at i) ≡ option_to_list (option_map (Resume (at i)) (next_ready (segment_after script (at i) steps).locks))
  reached-there i one =
      ap (λ ss. resumptions (marks_in ss) (at i)) (sym is.is) ∙ least-there script some is.events i one
      ∙ ap (λ (s : Seg). option_to_list (option_map (Resume (at i)) (next_ready s.locks))) ((replayed script steps is).segments i one)
