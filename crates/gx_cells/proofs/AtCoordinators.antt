-- A coordinator apart, one step further.
use Rattle.std.proofs.Common.{◌≡◌, ◌≤◌, ◌<◌, ℕ, zero, suc, ◌+◌, ◌∙◌, List, [], ◌∷◌, ◌++◌, Some, Bool, true, cond, ◌^◌, All, refl, sym, subst, ap, arith, append-nil, length}
use Rattle.std.specs.Prelude.{nat_lt, slice_get}
use Rattle.std.specs.List.{list_all}
use Rattle.std.proofs.lemmas.List.{append_assoc, length-map}
use Rattle.gx_lemmas.proofs.Numbers.{lt-of}
use Rattle.gx_lemmas.proofs.Tests.{and-first, and-second}
use Rattle.std.specs.declared.alloc.Global.{Global}
use Rattle.std.specs.declared.vec.Vec.{Vec}
use Rattle.gx_agenda.specs.OwnSlots.{AreOwnSlots}
use Rattle.gx_agenda.specs.declared.own_slots.OwnSlots.{OwnSlots}
use Rattle.gx_ids.specs.declared.ids.Gxid.{Gxid}
use Rattle.gx_ids.specs.declared.ids.Node.{Node}
use Rattle.gx_coord.proofs.Counts.{read-all}
use Rattle.gx_coord.specs.Room.{has_room}
use Rattle.gx_coord.specs.Steps.{HasStepped, IsCoord}
use Rattle.gx_coord.specs.declared.coord.Coord.{Coord as CoordNode}
use Rattle.gx_links.specs.Ends.{OutEnd}
use Rattle.gx_node.specs.Orders.{Took}
use Rattle.gx_outside.specs.Shelves.{Shelf}
use Rattle.gx_script.specs.declared.Script.{Script}
use Rattle.gx_store.specs.declared.event.Event.{Event}
use Rattle.gx_store.specs.declared.mark.Mark.{Mark}
use Rattle.gx_store.specs.declared.node.NodeEvent.{NodeEvent}
use Rattle.gx_store.specs.declared.node.NodeEvent.TheVariants as node
use Rattle.gx_store.specs.declared.run.Step.{Step}
use Rattle.gx_store.specs.Groups.{AreLetBehind, lets}
use Rattle.gx_store.specs.Language.{IsScript}
use Rattle.gx_store.specs.Refusals.{the_coordinator}
use Rattle.gx_rules.specs.AtCoordinator.{and_cancels, cancels, coord_can, coord_rule, coord_turn}
use Rattle.gx_rules.specs.Coordinators.{Coord, CoordTurn, new_coordinator}
use Rattle.gx_rules.specs.Machine.{kept_item, node_of}
use Rattle.gx_rules.specs.Rounds.{victims_at}
use Rattle.gx_rules.specs.Sending.{clock_after, heard_in}
use Rattle.gx_rules.proofs.Turns.{cancels_all-each}
use Rattle.gx_law_order.proofs.Clocks.{clock_after-above}
use Rattle.gx_law_runs.proofs.AtCoordinators.{coordinator-may}
use Rattle.gx_law_runs.proofs.Failing.{coordinator-tells}
use Rattle.gx_law_runs.proofs.Marks.{MayFail, count-may}
use Rattle.gx_law_runs.proofs.Quiet.{event-still, victim-still}
use Rattle.gx_law_runs.specs.Failures.{failures_in}
use Rattle.gx_law_runs.specs.Replays.{has_failed}
use Rattle.gx_law_merge.proofs.Places.{sent-append}
use Rattle.gx_law_merge.proofs.Taking.{coordinator-takes}
use Rattle.gx_law_merge.specs.Apart.{IsTurn, Post, coordinators_rule, event_in, here_in, holds_by, sent_in_step, sent_to}
use Rattle.gx_cells.specs.CoordKept.{IsCoordApart, coordinator_apart, coordinator_by, post_at_coordinator}
use Rattle.gx_cells.specs.CoordActs.{AreSentOn, HasCoordGoneOn, links_of}
use Rattle.gx_cells.specs.CoordAnswers.{event_of, is_own}
use Rattle.gx_cells.specs.declared.coord_history.CoordHistory.{CoordHistory}
use Rattle.gx_cells.specs.declared.inbox.Inbox.{Inbox}
use Rattle.gx_cells.proofs.AtSegments.{told}
use Rattle.gx_cells.proofs.Longer.{IsNext, history-next, holds-next}

-- NUMBERS
rules-clock : (script : Script) (c : Coord) (x : NodeEvent) (fails : Bool) → (coord_rule script c x fails).coord.clock ≡ clock_after c.clock x
rules-clock script c x fails = cancels_all-each (λ (t : CoordTurn). t.coord.clock ≡ clock_after c.clock x) (λ turn g e. e) (victims_at c x) (coord_turn script c x fails) refl

-- a step draws a transaction at most
rules-next : (script : Script) (c : Coord) (x : NodeEvent) (fails : Bool) → (coord_rule script c x fails).coord.table.next.0 ≤ c.table.next.0 + 1
rules-next script c x fails =
    cancels_all-each (λ (t : CoordTurn). t.coord.table.next.0 ≤ c.table.next.0 + 1) each (victims_at c x) (coord_turn script c x fails) (event-still script c x fails)
  where
    up : (a b n : ℕ) → a ≤ b → b ≤ n → a ≤ n
    up a b n l h = omega (arith, l, h)

    each : (turn : CoordTurn) (g : Gxid) → turn.coord.table.next.0 ≤ c.table.next.0 + 1 → (and_cancels turn g).coord.table.next.0 ≤ c.table.next.0 + 1
    each turn g h = up (cancels turn.coord g).coord.table.next.0 turn.coord.table.next.0 (c.table.next.0 + 1) (victim-still turn.coord g) h

pub next-early : (script : Script) (c : Coord) (x : NodeEvent) (fails : Bool) → c.table.next.0 ≤ c.clock + 1 → (coord_rule script c x fails).coord.table.next.0 ≤ (coord_rule script c x fails).coord.clock + 1
next-early script c x fails early =
    still (coord_rule script c x fails).coord.table.next.0 c.table.next.0 c.clock (clock_after c.clock x) _ (rules-next script c x fails) early (clock_after-above c.clock x) (rules-clock script c x fails)
  where
    still : (a b k l m : ℕ) → a ≤ b + 1 → b ≤ k + 1 → k < l → m ≡ l → a ≤ m + 1
    still a b k l m f g h e = omega (arith, f, g, h, e)

-- WHAT THE GROUPS LET
starts-next : (script : Script) (before steps : List Step) (step : Step) → AreLetBehind script before steps → lets script (before ++ steps) step.event ≡ true → AreLetBehind script before (steps ++ step ∷ [])
starts-next script before [] step starts is = (subst (λ ss. lets script ss step.event ≡ true) (append-nil before) is, tt)
starts-next script before (s ∷ ss) step starts is = (starts.0, starts-next script (before ++ s ∷ []) ss step starts.1 (subst (λ xs. lets script xs step.event ≡ true) (sym (append_assoc before (s ∷ []) ss)) is))

-- ONE STEP MORE
module _ (history : CoordHistory) (inboxes : List Inbox) (old new : CoordNode) (here : NodeEvent) (before after : Shelf) (marks : List Mark) (event : Event) (apart : IsCoordApart history inboxes old before) where
  abbrev script : Script
  script = history.script.value

  abbrev post : Post
  post = post_at_coordinator inboxes

  abbrev c : Coord
  c = coordinator_apart history inboxes

  abbrev step : Step
  step = told new.clock the_coordinator event marks

  module _ (may : coord_can script c here ≡ true) (place : node_of event ≡ the_coordinator) (is : event_in post event ≡ Some here) (h : HasStepped old new c here before after marks) where
    marks-told : marks ≡ (coord_rule script c here h.fails).marks
    marks-told = h.told ∙ ap (λ (x : Script). (coord_rule x c here h.fails).marks) apart.of

    now-is : IsCoord new (coord_rule script c here h.fails).coord
    now-is = subst (λ (x : Script). IsCoord new (coord_rule x c here h.fails).coord) apart.of h.is

    took : Took before after h.fails (coord_rule script c here h.fails).item
    took = subst (λ (x : Script). Took before after h.fails (coord_rule x c here h.fails).item) apart.of h.took

    same-turn : coord_rule script c here (has_failed marks) ≡ coord_rule script c here h.fails
    same-turn = ap (λ ms. coord_rule script c here (has_failed ms)) marks-told ∙ coordinator-tells script c here h.fails

    turns : IsTurn (coordinators_rule script) the_coordinator c (here_in post step) step
    turns = record { node = refl; place = place; here = here; fails = h.fails; is = is; admitted = may; marks = marks-told; clock = now-is.clock }

    few : failures_in the_coordinator marks ≤ cond h.fails 1 0
    few = count-may the_coordinator the_coordinator h.fails marks (subst (MayFail the_coordinator h.fails) (sym marks-told) (coordinator-may h.fails script c here may))

    next : IsNext (coordinators_rule script) the_coordinator post c step before after
    next =
        record {
          here = here;
          fails = h.fails;
          is = is;
          turn = turns;
          item = ap (λ (t : CoordTurn). kept_item (has_failed marks) t.item) same-turn ∙ ap (λ ms. kept_item (has_failed ms) (coord_rule script c here h.fails).item) marks-told ∙ coordinator-takes script c here h.fails;
          took = took;
          few = few;
        }

    -- what it then holds
    leads : coordinator_by script (history.steps ++ step ∷ []) inboxes ≡ (coord_rule script c here h.fails).coord
    leads = holds-next (coordinators_rule script) the_coordinator post new_coordinator history.steps step ∙ ap (λ o. holds_by (coordinators_rule script) c o (has_failed marks)) is ∙ ap (λ (t : CoordTurn). t.coord) same-turn

    module _ (outs : Vec OutEnd Global) (slots : OwnSlots) (let-there : lets script history.steps event ≡ true) (told-slots : AreOwnSlots script (history.steps ++ step ∷ []) slots) (all : AreSentOn new.clock marks history.outs.items outs.items) (same : links_of outs.items ≡ links_of history.outs.items) where
      sent-now : (k : ℕ) (out : OutEnd) → slice_get outs.items k ≡ Some out → out.sent ≡ sent_to (record { 0 = k + 1 }) (history.steps ++ step ∷ [])
      sent-now k out at =
          let was = all k out at in
          let to : Node = record { 0 = k + 1 } in
          was.2 ∙ ap (λ es. es ++ sent_in_step to new.clock marks) (apart.sent k was.0 was.1) ∙ ap (λ es. sent_to to history.steps ++ es) (sym (append-nil (sent_in_step to new.clock marks))) ∙ sym (sent-append to history.steps (step ∷ []))

      gone-on : IsCoordApart (record history { steps = history.steps ++ step ∷ []; outs = outs; slots = slots }) inboxes new after
      gone-on =
          record {
            of = ap (λ a. a.value) h.script ∙ apart.of;
            usable = h.usable;
            holds = subst (IsCoord new) (sym leads) now-is;
            next = subst (λ (x : Coord). x.table.next.0 ≤ x.clock + 1) (sym leads) (next-early script c here h.fails apart.next);
            steps = history-next (coordinators_rule script) the_coordinator new_coordinator post history.first history.steps before after step apart.steps next;
            outs = sym (length-map outs.items (λ (o : OutEnd). o.link)) ∙ ap length same ∙ length-map history.outs.items (λ (o : OutEnd). o.link) ∙ apart.outs;
            ins = apart.ins;
            sent = sent-now;
            again = apart.again;
            starts = starts-next script [] history.steps step apart.starts let-there;
            slots = told-slots;
          }

    pub coord-next : (history' : CoordHistory) → HasCoordGoneOn history history' → AreSentOn new.clock marks history.outs.items history'.outs.items → history'.steps ≡ history.steps ++ step ∷ [] → lets script history.steps event ≡ true
        → (AreOwnSlots script history.steps history.slots → AreOwnSlots script history'.steps history'.slots) → IsCoordApart history' inboxes new after
    coord-next history' gone all steps lets-it slots =
        subst (λ x. IsCoordApart x inboxes new after) (sym (gone.0 ∙ ap (λ ss. record history { steps = ss; outs = history'.outs; slots = history'.slots }) steps))
        (gone-on history'.outs history'.slots lets-it (subst (λ ss. AreOwnSlots script ss history'.slots) steps (slots apart.slots)) all gone.1)

-- NUMBERS THAT ARE LEFT
all-low : (xs : List ℕ) → list_all (λ n. nat_lt n (2 ^ 62)) xs ≡ true → All (λ n. n < 2 ^ 62) xs
all-low [] low i x inside = absurd (omega (arith, inside))
all-low (y ∷ ys) low zero x inside = lt-of y (2 ^ 62) (and-first (nat_lt y (2 ^ 62)) (list_all (λ n. nat_lt n (2 ^ 62)) ys) low)
all-low (y ∷ ys) low (suc i) x inside = all-low ys (and-second (nat_lt y (2 ^ 62)) (list_all (λ n. nat_lt n (2 ^ 62)) ys) low) i x (below i (length ys) inside)
  where
    below : (i n : ℕ) → suc i < suc n → i < n
    below i n h = omega (arith, h)

pub record AreLeft (coord : CoordNode) : Type 0 where
  pub clock : coord.clock < 2 ^ 62
  pub sent : All (λ n. n < 2 ^ 62) coord.sent.items
  pub next : coord.dtx.next.0 < 2 ^ 62
  pub rounds : coord.detector.begun < 2 ^ 62

pub numbers-left : (coord : CoordNode) (c : Coord) → IsCoord coord c → c.table.next.0 ≤ c.clock + 1 → has_room coord.script.value c ≡ true → AreLeft coord
numbers-left coord c is early room =
    record {
      clock = subst (λ n. n < 2 ^ 62) (sym is.clock) (below c.clock clock);
      sent = all-low coord.sent.items (subst (λ xs. list_all (λ n. nat_lt n (2 ^ 62)) xs ≡ true) (read-all c.sent coord.sent.items (coord.script.value.segments + 1) is.sent (λ i. ap (λ (x : Coord). x.sent i) (sym is.holds))) (and-second _ _ (and-second _ _ room)));
      next = subst (λ n. n < 2 ^ 62) (sym (ap (λ t. t.next.0) is.table)) (between c.table.next.0 c.clock early clock);
      rounds = subst (λ n. n < 2 ^ 62) (sym (ap (λ (x : Coord). x.rounds) is.holds)) (lt-of c.rounds (2 ^ 62) (and-first _ _ (and-second _ _ room)));
    }
  where
    clock : c.clock + 1 < 2 ^ 62
    clock = lt-of (c.clock + 1) (2 ^ 62) (and-first _ _ room)

    below : (a : ℕ) → a + 1 < 2 ^ 62 → a < 2 ^ 62
    below a h = omega (arith, h)

    between : (a b : ℕ) → a ≤ b + 1 → b + 1 < 2 ^ 62 → a < 2 ^ 62
    between a b l h = omega (arith, l, h)

-- it has few links
pub few-links : (history : CoordHistory) (inboxes : List Inbox) (coord : CoordNode) (shelf : Shelf) → IsCoordApart history inboxes coord shelf → length history.outs.items < 256
few-links history inboxes coord shelf apart = few (length history.outs.items) history.script.value.segments coord.script.value.segments apart.outs (ap (λ (x : Script). x.segments) apart.of) apart.holds.language.few_segments
  where
    few : (n a b : ℕ) → n ≡ a → b ≡ a → b ≤ 16 → n < 256
    few n a b same as-many low = omega (arith, same, as-many, low)

-- WHAT IT DOES BY ITSELF
pub own-here : (inboxes : List Inbox) (here : NodeEvent) → is_own here ≡ true → event_in (post_at_coordinator inboxes) (event_of here) ≡ Some here
own-here inboxes (node.Deliver from envelope) own = absurd (cc)
own-here inboxes (node.Resume g) own = refl
own-here inboxes (node.Start s) own = refl
own-here inboxes (node.End s) own = refl
own-here inboxes (node.Resend i g) own = refl
own-here inboxes node.Round own = refl

pub own-place : (here : NodeEvent) → node_of (event_of here) ≡ the_coordinator
own-place (node.Deliver from envelope) = refl
own-place (node.Resume g) = refl
own-place (node.Start s) = refl
own-place (node.End s) = refl
own-place (node.Resend i g) = refl
own-place node.Round = refl

pub own-heard : (here : NodeEvent) → is_own here ≡ true → heard_in here < 2 ^ 62
own-heard (node.Deliver from envelope) own = absurd (cc)
own-heard (node.Resume g) own = omega arith
own-heard (node.Start s) own = omega arith
own-heard (node.End s) own = omega arith
own-heard (node.Resend i g) own = omega arith
own-heard node.Round own = omega arith

-- the coordinator's script is one of the language
pub apart-language : (history : CoordHistory) (inboxes : List Inbox) (coord : CoordNode) (shelf : Shelf) → IsCoordApart history inboxes coord shelf → IsScript history.script.value
apart-language history inboxes coord shelf apart = subst IsScript apart.of apart.holds.language
