-- A graph that comes to the coordinator: it changes the first graphs as it changes the reports.
use Rattle.std.proofs.Common.{◌≡◌, ◌≤◌, ◌<◌, ℕ, ◌+◌, List, [], ◌∷◌, ◌++◌, Option, Some, None, Bool, true, false, refl, sym, ap, ◌∙◌, if◌then◌else◌, ◌==◌, ◌&&◌, arith}
use Rattle.std.proofs.lemmas.Bool.{and_parts}
use Rattle.std.proofs.lemmas.Bool.Decides.{nat_tests}
use Rattle.std.specs.Option.{option_or}
use Rattle.std.specs.Prelude.{map, unwrap_or}
use Rattle.gx_ids.specs.declared.ids.Node.{Node}
use Rattle.gx_detect.specs.Reports.{lacks_from, noted}
use Rattle.gx_detect.specs.Rounds.{are_all, lacks}
use Rattle.gx_meaning.specs.Plan.{nodes_from}
use Rattle.gx_script.specs.declared.Script.{Script}
use Rattle.gx_store.specs.declared.event.Event.{Event}
use Rattle.gx_store.specs.declared.mark.Mark.{Mark}
use Rattle.gx_store.specs.declared.run.Step.{Step}
use Rattle.gx_store.specs.Journals.{is_same_node}
use Rattle.gx_store.specs.Points.{marks_in}
use Rattle.gx_store.specs.Schedule.{is_round, recheck_count, round_count}
use Rattle.gx_waits.specs.declared.graph.LocalGraph.{LocalGraph}
use Rattle.gx_rules.specs.AtCoordinator.{coord_sends}
use Rattle.gx_rules.specs.Coordinators.{Coord, CoordTurn, rests}
use Rattle.gx_rules.specs.Machine.{World}
use Rattle.gx_rules.specs.Rounds.{awaits_graph, is_report, noted_in, on_graph, once_all, rechecks, with_report}
use Rattle.gx_law_order.proofs.Sent.{at}
use Rattle.gx_law_locks.specs.Held.{first_graph, graph_by}
use Rattle.gx_law_locks.proofs.Places.{lacks-none, map-same, noted-is, with_first}
use Rattle.gx_law_locks.proofs.Rounded.{AreFirst, CoordMade, IsRunning, Rounded, first_now, running}
use Rattle.gx_law_locks.proofs.Steps.{bit, first-last, rechecks-more, rechecks_of, rounds-last}

-- the event brings this graph from the segment
pub record Brings (w : World) (e : Event) (from : Node) (round : ℕ) (graph : LocalGraph) : Type 0 where
  pub by : (i : Node) (k : ℕ) → graph_by w.steps i k e ≡ (if is_same_node from i then (if round == k then Some graph else None) else None)
  pub quiet : is_round e ≡ false
  pub within : round ≤ w.coord.rounds
  pub own : graph.node ≡ from

module _ (script : Script) (w : World) (r : Rounded script w) (e : Event) (from : Node) (round : ℕ) (graph : LocalGraph) (b : Brings w e from round graph) (s : Step) (is : s.event ≡ e) where
  abbrev c : Coord
  c = w.coord

  abbrev more : List Step
  more = w.steps ++ s ∷ []

  pub same-count : round_count more ≡ round_count w.steps
  same-count = rounds-last w.steps s ∙ ap (λ q. round_count w.steps + bit (is_round q)) is ∙ ap (λ q. round_count w.steps + bit q) b.quiet ∙ none (round_count w.steps)
    where
      none : (n : ℕ) → n + 0 ≡ n
      none n = omega arith

  first-is : (i : Node) (k : ℕ) → first_graph [] i k more ≡ option_or (first_graph [] i k w.steps) (if is_same_node from i then (if round == k then Some graph else None) else None)
  first-is i k = first-last w.steps i k s ∙ ap (λ q. option_or (first_graph [] i k w.steps) (graph_by w.steps i k q)) is ∙ ap (option_or (first_graph [] i k w.steps)) (b.by i k)

  none-of-it : (o : Option LocalGraph) (own : Bool) → option_or o (if own then None else None) ≡ o
  none-of-it None true = refl
  none-of-it None false = refl
  none-of-it (Some x) own = refl

  first-of-it : (o : Option LocalGraph) (own : Bool) → option_or o (if own then Some graph else None) ≡ (if own then Some (unwrap_or o graph) else o)
  first-of-it None true = refl
  first-of-it None false = refl
  first-of-it (Some x) true = refl
  first-of-it (Some x) false = refl

  -- it is of another round
  other-first : (i : Node) (k : ℕ) → (round == k) ≡ false → first_graph [] i k more ≡ first_graph [] i k w.steps
  other-first i k differs = first-is i k ∙ ap (λ (q : Bool). option_or (first_graph [] i k w.steps) (if is_same_node from i then (if q then Some graph else None) else None)) differs ∙ none-of-it (first_graph [] i k w.steps) (is_same_node from i)

  -- it is of this one
  this-first : (i : Node) (k : ℕ) → (round == k) ≡ true → first_graph [] i k more ≡ with_first (λ j. first_graph [] j k w.steps) from graph i
  this-first i k agrees = first-is i k ∙ ap (λ (q : Bool). option_or (first_graph [] i k w.steps) (if is_same_node from i then (if q then Some graph else None) else None)) agrees ∙ first-of-it (first_graph [] i k w.steps) (is_same_node from i)

  abbrev now : ℕ
  now = round_count w.steps

  first-now : (i : Node) → first_now more i ≡ first_graph [] i now more
  first-now i = ap (λ k. first_graph [] i k more) same-count

  all-other : (round == now) ≡ false → map (first_now w.steps) (nodes_from 1 script.segments) ≡ map (first_now more) (nodes_from 1 script.segments)
  all-other differs = map-same (first_now w.steps) (first_now more) 1 script.segments (λ i one. sym (first-now (at i) ∙ other-first (at i) now differs))

  all-this : (round == now) ≡ true → map (with_first (first_now w.steps) from graph) (nodes_from 1 script.segments) ≡ map (first_now more) (nodes_from 1 script.segments)
  all-this agrees = map-same (with_first (first_now w.steps) from graph) (first_now more) 1 script.segments (λ i one. sym (first-now (at i) ∙ this-first (at i) now agrees))

  ahead-of : (k i : ℕ) → 1 ≤ i → c.rounds < k → first_graph [] (at i) k more ≡ None
  ahead-of k i one h = other-first (at i) k (apart round c.rounds k b.within h) ∙ r.coord.ahead k i one h
    where
      apart : (a n k : ℕ) → a ≤ n → n < k → (a == k) ≡ false
      apart a n k l h = grind (arith, nat_tests)

  -- what these reports become, where it isn't taken
  unmoved : (o : Option (List (Option LocalGraph))) → (round == now) ≡ true → lacks o from ≡ false → AreFirst script w.steps o → AreFirst script more o
  unmoved None agrees differs f = tt
  unmoved (Some reports) agrees differs f =
      f ∙ sym (lacks-none (first_now w.steps) from graph 1 script.segments (ap (λ rs. lacks_from 1 rs from) (sym f) ∙ differs)) ∙ all-this agrees

  pub not-taken : (o : Option (List (Option LocalGraph))) → AreFirst script w.steps o → ((round == now) && lacks o from) ≡ false → AreFirst script more o
  not-taken o f differs = by_round (round == now) refl differs
    where
      others : (o : Option (List (Option LocalGraph))) → (round == now) ≡ false → AreFirst script w.steps o → AreFirst script more o
      others None q f = tt
      others (Some reports) q f = f ∙ all-other q

      by_round : (q : Bool) → (round == now) ≡ q → (q && lacks o from) ≡ false → AreFirst script more o
      by_round true q differs = unmoved o q differs f
      by_round false q differs = others o q f

  -- and where it is
  pub taken : (o : Option (List (Option LocalGraph))) → AreFirst script w.steps o → (round == now) ≡ true → AreFirst script more (noted_in o graph)
  taken None f agrees = tt
  taken (Some reports) f agrees =
      ap (λ rs. noted rs graph) f ∙ noted-is (first_now w.steps) from graph (ap (λ (n : Node). n.0) b.own) 1 script.segments ∙ all-this agrees

  still-running : (o : Option (List (Option LocalGraph))) → running (noted_in o graph) ≡ running o
  still-running None = refl
  still-running (Some reports) = refl

  self-least : (n : ℕ) → n ≤ n
  self-least n = omega arith

  -- THE TURNS
  module _ (ms : List Mark) (marks : marks_in more ≡ marks_in w.steps ++ ms) where
    same-ends : rechecks_of ms ≡ 0 → (o : Option (List (Option LocalGraph))) → running o ≡ running c.reports → recheck_count more + running o ≡ round_count more
    same-ends none o e = counts (recheck_count w.steps) (running c.reports) (round_count w.steps) (rechecks-more w.steps more ms marks ∙ ap (λ n. recheck_count w.steps + n) none) e r.coord.counted same-count
      where
        counts : (a x n : ℕ) {b y k : ℕ} → b ≡ a + 0 → y ≡ x → a + x ≡ n → k ≡ n → b + y ≡ k
        counts a x n e f g h = omega arith

    stays-running : (o : Option (List (Option LocalGraph))) → rechecks_of ms ≡ 0 → running o ≡ running c.reports → AreFirst script more o → are_all o ≡ false → IsRunning script more (record c { reports = o })
    stays-running o none e f a =
        record { rounds = r.coord.rounds ∙ sym same-count; counted = same-ends none o e; reports = f; missing = a; own = r.coord.own; works = r.coord.works; ahead = ahead-of }

    rests-made : rechecks_of ms ≡ 0 → ((round == now) && awaits_graph c from) ≡ false → CoordMade script w more (rests c)
    rests-made none differs =
        let k = stays-running c.reports none refl (not-taken c.reports r.coord.reports differs) r.coord.missing in
        record { marks = tt; sends = tt; coord = record { rounds = k.rounds; counted = k.counted; reports = k.reports; missing = k.missing; own = k.own; works = k.works; ahead = k.ahead }; rising = self-least c.rounds; outs = tt }

    noted-made : rechecks_of ms ≡ 0 → (round == now) ≡ true → are_all (with_report c graph).reports ≡ false → CoordMade script w more (rests (with_report c graph))
    noted-made none agrees a =
        let k = stays-running (noted_in c.reports graph) none (still-running c.reports) (taken c.reports r.coord.reports agrees) a in
        record { marks = tt; sends = tt; coord = record { rounds = k.rounds; counted = k.counted; reports = k.reports; missing = k.missing; own = k.own; works = k.works; ahead = k.ahead }; rising = self-least c.rounds; outs = tt }

    decided-made : rechecks_of ms ≡ 1 → running c.reports ≡ 1 → CoordMade script w more (rechecks (with_report c graph))
    decided-made once runs =
        record {
          marks = (tt, tt);
          sends = (tt, tt);
          coord = record {
            rounds = r.coord.rounds ∙ sym same-count;
            counted = counts (recheck_count w.steps) (running c.reports) (round_count w.steps) (rechecks-more w.steps more ms marks ∙ ap (λ n. recheck_count w.steps + n) once) runs r.coord.counted same-count;
            reports = tt;
            missing = refl;
            own = r.coord.own;
            works = r.coord.works;
            ahead = ahead-of;
          };
          rising = self-least c.rounds;
          outs = tt;
        }
      where
        counts : (a x n : ℕ) {b k : ℕ} → b ≡ a + 1 → x ≡ 1 → a + x ≡ n → k ≡ n → b + 0 ≡ k
        counts a x n e f g h = omega arith

  lacks-running : (o : Option (List (Option LocalGraph))) → lacks o from ≡ true → running o ≡ 1
  lacks-running None e = absurd (cc)
  lacks-running (Some reports) e = refl

  same-node : (graph.node.0 == from.0) ≡ true
  same-node = ap (λ (n : Node). n.0 == from.0) b.own ∙ self from.0
    where
      self : (n : ℕ) → (n == n) ≡ true
      self n = grind (arith, nat_tests)

  pub fits : is_report c from round graph ≡ ((round == now) && awaits_graph c from)
  fits = ap (λ q. q && ((round == c.rounds) && awaits_graph c from)) same-node ∙ ap (λ n. (round == n) && awaits_graph c from) r.coord.rounds

  -- BY WHAT THE COORDINATOR DOES WITH IT
  module _ (clock : ℕ) (marks : (turn : CoordTurn) → on_graph c from round graph ≡ turn → marks_in more ≡ marks_in w.steps ++ (coord_sends clock turn).marks) where
    pub graph-made : CoordMade script w more (on_graph c from round graph)
    graph-made = by_report (is_report c from round graph) refl
      where
        turned : (q : Bool) → is_report c from round graph ≡ q → on_graph c from round graph ≡ (if q then once_all (with_report c graph) else rests c)
        turned q e = ap (λ (q : Bool). if q then once_all (with_report c graph) else rests c) e

        by_all : is_report c from round graph ≡ true → (q : Bool) → are_all (with_report c graph).reports ≡ q → CoordMade script w more (if q then rechecks (with_report c graph) else rests (with_report c graph))
        by_all e true a =
            let parts = and_parts (round == now) (awaits_graph c from) (sym fits ∙ e) in
            decided-made _ (marks (rechecks (with_report c graph)) (turned true e ∙ ap (λ (q : Bool). if q then rechecks (with_report c graph) else rests (with_report c graph)) a)) refl (lacks-running c.reports parts.1)
        by_all e false a =
            let parts = and_parts (round == now) (awaits_graph c from) (sym fits ∙ e) in
            noted-made _ (marks (rests (with_report c graph)) (turned true e ∙ ap (λ (q : Bool). if q then rechecks (with_report c graph) else rests (with_report c graph)) a)) refl parts.0 a

        by_report : (q : Bool) → is_report c from round graph ≡ q → CoordMade script w more (if q then once_all (with_report c graph) else rests c)
        by_report true e = by_all e (are_all (with_report c graph).reports) refl
        by_report false e = rests-made _ (marks (rests c) (turned false e)) refl (sym fits ∙ e)
