-- Who waits at a network's nodes, and who may resume there.
use Rattle.std.proofs.Common.{◌≡◌, ◌≢◌, ◌≤◌, ◌<◌, inl, inr, ⊎_elim, ℕ, zero, suc, ◌+◌, ◌-◌, ◌==◌, List, [], ◌∷◌, Option, Some, None, Bool, true, false, cond, refl, sym, subst, ap, ◌∙◌, ◌&&◌, ◌||◌, not, arith, length, map, filter}
use Rattle.std.proofs.lemmas.Bool.{cases_eq}
use Rattle.std.proofs.lemmas.Bool.Decides.{nat_tests}
use Rattle.std.specs.List.{list_any}
use Rattle.std.specs.Option.{option_to_list}
use Rattle.std.specs.Prelude.{find, nat_le, option_map, slice_get}
use Rattle.gx_lemmas.proofs.Numbers.{eqb-self, plus-none}
use Rattle.gx_lemmas.proofs.Tests.{or-false}
use Rattle.gx_ids.specs.declared.ids.Gxid.{Gxid}
use Rattle.gx_ids.specs.declared.ids.Node.{Node}
use Rattle.gx_waits.specs.declared.claim.Claim.{Claim}
use Rattle.gx_waits.specs.Claims.{is_clear, is_of}
use Rattle.gx_locks.specs.Locks.{least_with, may_take, next_ready, wait_of}
use Rattle.gx_meaning.specs.Plan.{nodes_from}
use Rattle.gx_script.specs.declared.Script.{Script}
use Rattle.gx_store.specs.declared.event.Event.TheVariants.{Resume}
use Rattle.gx_store.specs.declared.run.Step.{Step}
use Rattle.gx_store.specs.Ordered.{IsLink}
use Rattle.gx_store.specs.Points.{marks_in}
use Rattle.gx_store.specs.Refusals.{the_coordinator}
use Rattle.gx_store.specs.Schedule.{is_any_wait, resumptions, segments_of}
use Rattle.gx_rules.specs.Machine as machine
use Rattle.gx_rules.specs.Machine.{world_of}
use Rattle.gx_rules.specs.Segments.{Seg}
use Rattle.gx_law_order.proofs.Letters.{IsLetter}
use Rattle.gx_law_order.proofs.Ordered.{Well, world_well}
use Rattle.gx_law_order.proofs.Sent.{at}
use Rattle.gx_law_order.proofs.Waiting.{HasSlice, Waits, each-among, has-slice, waiting}
use Rattle.gx_law_runs.specs.Reached.{IsReached}
use Rattle.gx_law_runs.specs.Replays.{coordinator_after, is_admitted, segment_after}
use Rattle.gx_law_runs.proofs.Reaching.{replayed}
use Rattle.gx_law_runs.proofs.Resuming.{reached-here, reached-there}
use Rattle.gx_law_runs.proofs.Waiters.{may-resume-there, waits-now}
use Rattle.gx_segment.specs.declared.segment.Segment.{Segment}
use Rattle.gx_segment.specs.Steps.{IsSegment}
use Rattle.gx_world.specs.declared.network.Network.{Network}
use Rattle.gx_world.specs.Networks.{IsNetwork}
use Rattle.gx_world.specs.Waiting.{waits_there}
use Rattle.gx_world.proofs.Journals.{at-zero}
use Rattle.gx_world.proofs.Segs.{seg-inside, seg-is}

-- BEYOND THE LAST SEGMENT
none-of-any : (ws : List Claim) → ((g : Gxid) (wanted : Claim) → find (is_of g) ws ≡ Some wanted → ⊥) → ws ≡ []
none-of-any [] none = refl
none-of-any (x ∷ ws) none = absurd (none x.gxid x (ap (λ b. cond b (Some x) (find (is_of x.gxid) ws)) (eqb-self x.gxid.0)))

-- whoever waits at a segment was sent there
module _ (script : Script) (w : machine.World) (good : Well script w) (i : ℕ) (past : script.segments < i) where
  not-linked : (from to : Node) → to ≡ at i → IsLink script from to → ⊥
  not-linked from to here (inl h) = apart to.0 (ap (λ (n : Node). n.0) here) h.1.1
    where
      apart : (k : ℕ) → k ≡ i → k ≤ script.segments → ⊥
      apart k same few = omega (arith, same, few, past)
  not-linked from to here (inr h) = apart (ap (λ (n : Node). n.0) (sym here ∙ h.1))
    where
      apart : i ≡ 0 → ⊥
      apart same = omega (arith, same, past)

  not-waiting : (g : Gxid) (wanted : Claim) → wait_of (w.segs i).locks g ≡ Some wanted → ⊥
  not-waiting g wanted e = not-linked x.come.letter.from x.come.letter.to x.come.target (each-among (IsLetter script w.steps) w.sent x.come.letter good.letters x.come.among).link
    where
      has : HasSlice script (w.segs i) g wanted
      has = has-slice script w good i g wanted e

      x : Waits script w i g has.slice
      x = waiting script w good i g has.slice has.is

  none-past : (w.segs i).locks.waits ≡ []
  none-past = none-of-any (w.segs i).locks.waits not-waiting

module _ (script : Script) (some : 1 ≤ script.segments) (steps : List Step) (is : IsReached script steps) (i : ℕ) (past : script.segments < i) where
  above : 1 ≤ i
  above = omega (arith, past)

  nobody-past : resumptions (marks_in steps) (at i) ≡ []
  nobody-past =
      reached-there script some steps is i above
      ∙ ap (λ (s : Seg). option_to_list (option_map (Resume (at i)) (next_ready s.locks))) (sym ((replayed script steps is).segments i above))
      ∙ ap (λ ws. option_to_list (option_map (Resume (at i)) (least_with None (map (λ (wait : Claim). wait.gxid) (filter (is_clear ((world_of script is.events).segs i).locks.holds ws) ws)))))
      (none-past script (world_of script is.events) (world_well script some is.events) i past)

-- IN A NETWORK
module _ (network : Network) (is : IsNetwork network) where
  abbrev script : Script
  script = network.script.value

  abbrev steps : List Step
  steps = network.run.steps

  some : 1 ≤ network.script.value.segments
  some = is.language.some_segments

  -- the segment of a number
  pub stands-there : network.spent ≡ false → (n : Node) → 1 ≤ n.0 → n.0 ≤ network.script.value.segments
      → (1 ≤ n.0) × ((n.0 ≤ length network.segments.items) × ((s : Segment) → slice_get network.segments.items (n.0 - 1) ≡ Some s → IsSegment s (segment_after script n steps)))
  stands-there usable n one few = (one, (seg-inside script _ network (is.stands usable) n one few, seg-is script _ network (is.stands usable) n one))

  -- who resumes
  pub resumes-here : (n : Node) (o : Option Gxid) → n.0 ≡ 0 → o ≡ next_ready (coordinator_after script steps).locks → option_to_list (option_map (Resume n) o) ≡ resumptions (marks_in steps) n
  resumes-here n o first same =
      subst (λ k. option_to_list (option_map (Resume k) o) ≡ resumptions (marks_in steps) k) (sym (at-zero n first))
      (ap (λ x. option_to_list (option_map (Resume the_coordinator) x)) same ∙ sym (reached-here script some steps is.reached))

  pub resumes-there : (n : Node) (o : Option Gxid) → 1 ≤ n.0 → o ≡ next_ready (segment_after script n steps).locks → option_to_list (option_map (Resume n) o) ≡ resumptions (marks_in steps) n
  resumes-there n o one same = ap (λ x. option_to_list (option_map (Resume n) x)) same ∙ sym (reached-there script some steps is.reached n.0 one)

  pub nobody-resumes : (n : Node) → network.script.value.segments < n.0 → [] ≡ resumptions (marks_in steps) n
  nobody-resumes n past = sym (nobody-past script some steps is.reached n.0 past)

  -- who may resume
  pub may-there : (n : Node) (g : Gxid) (b : Bool) → 1 ≤ n.0 → n.0 ≤ network.script.value.segments → b ≡ may_take (segment_after script n steps).locks g → b ≡ is_admitted script steps (Resume n g)
  may-there n g b one few same = same ∙ sym (may-resume-there script steps some is.reached n one g ∙ ap (λ x. x && may_take (segment_after script n steps).locks g) (inside n.0 script.segments one few))
    where
      inside : (a k : ℕ) → 1 ≤ a → a ≤ k → (nat_le 1 a && nat_le a k) ≡ true
      inside a k one few = grind (arith, nat_tests)

  pub may-not : (n : Node) (g : Gxid) → network.script.value.segments < n.0 → false ≡ is_admitted script steps (Resume n g)
  may-not n g past = sym (may-resume-there script steps some is.reached n (low n.0 script.segments past) g ∙ ap (λ x. x && may_take (segment_after script n steps).locks g) (outside n.0 script.segments past))
    where
      low : (a k : ℕ) → k < a → 1 ≤ a
      low a k past = omega (arith, past)

      outside : (a k : ℕ) → k < a → (nat_le 1 a && nat_le a k) ≡ false
      outside a k past = grind (arith, nat_tests)

  -- who waits
  abbrev elsewhere : Bool
  elsewhere = list_any (waits_there script steps) (segments_of script)

  pub waits-here : (b : Bool) → b ≡ not (length (coordinator_after script steps).locks.waits == 0) → b ≡ true → b ≡ is_any_wait script (marks_in steps)
  waits-here b same some_wait = some_wait ∙ sym (waits-now script steps some is.reached ∙ ap (λ x. x || elsewhere) (sym same ∙ some_wait))

  pub waits-there : (b c : Bool) → b ≡ not (length (coordinator_after script steps).locks.waits == 0) → b ≡ false → c ≡ list_any (waits_there script steps) (segments_of script) → c ≡ is_any_wait script (marks_in steps)
  waits-there b c same none others = others ∙ sym (waits-now script steps some is.reached ∙ ap (λ x. x || elsewhere) (sym same ∙ none))

-- SEGMENT BY SEGMENT
or-true : (b c : Bool) → c ≡ true → (b || c) ≡ true
or-true true c e = refl
or-true false c e = e

none-last : (p : Node → Bool) (first count : ℕ) → list_any p (nodes_from first count) ≡ false → p (record { 0 = first + count }) ≡ false → list_any p (nodes_from first (suc count)) ≡ false
none-last p first zero none here = or-false (p (record { 0 = first })) ∙ subst (λ k. p (record { 0 = k }) ≡ false) (plus-none first) here
none-last p first (suc count) none here = by_first (p (record { 0 = first })) none (λ rest. none-last p (first + 1) count rest (subst (λ k. p (record { 0 = k }) ≡ false) (shifted first count) here))
  where
    shifted : (a b : ℕ) → a + suc b ≡ a + 1 + b
    shifted a b = omega arith

    by_first : (b : Bool) → (b || list_any p (nodes_from (first + 1) count)) ≡ false → (list_any p (nodes_from (first + 1) count) ≡ false → list_any p (nodes_from (first + 1) (suc count)) ≡ false) → (b || list_any p (nodes_from (first + 1) (suc count))) ≡ false
    by_first true none more = absurd (cc)
    by_first false none more = more none

-- none so far, nor at the next
pub none-more : (p : Node → Bool) (count : ℕ) → list_any p (nodes_from 1 count) ≡ false → p (record { 0 = count + 1 }) ≡ false → list_any p (nodes_from 1 (count + 1)) ≡ false
none-more p count none here = ap (λ n. list_any p (nodes_from 1 n)) (next count) ∙ none-last p 1 count none (subst (λ k. p (record { 0 = k }) ≡ false) (turned count) here)
  where
    next : (n : ℕ) → n + 1 ≡ suc n
    next n = omega arith

    turned : (n : ℕ) → n + 1 ≡ 1 + n
    turned n = omega arith

-- one of them
pub any-inside : (p : Node → Bool) (first count k : ℕ) → first ≤ k → k < first + count → p (record { 0 = k }) ≡ true → list_any p (nodes_from first count) ≡ true
any-inside p first zero k low high here = absurd (omega (arith, low, high))
any-inside p first (suc count) k low high here = ⊎_elim at_first (later (any-inside p (first + 1) count k)) (cases_eq first k)
  where
    at_first : first ≡ k → (p (record { 0 = first }) || list_any p (nodes_from (first + 1) count)) ≡ true
    at_first same = ap (λ b. b || list_any p (nodes_from (first + 1) count)) (subst (λ n. p (record { 0 = n }) ≡ true) (sym same) here)

    above : (a b : ℕ) → a ≤ b → a ≢ b → a + 1 ≤ b
    above a b low apart = omega (arith, low, apart)

    inside : (a b c : ℕ) → c < a + suc b → c < a + 1 + b
    inside a b c high = omega (arith, high)

    later : (first + 1 ≤ k → k < first + 1 + count → p (record { 0 = k }) ≡ true → list_any p (nodes_from (first + 1) count) ≡ true) → first ≢ k → (p (record { 0 = first }) || list_any p (nodes_from (first + 1) count)) ≡ true
    later more apart = or-true (p (record { 0 = first })) (list_any p (nodes_from (first + 1) count)) (more (above first k low apart) (inside first count k high) here)
