-- What steps tell of rounds, one step more and one victim more.
use Rattle.std.proofs.Common.{◌≡◌, ℕ, suc, ◌+◌, List, [], ◌∷◌, ◌++◌, Option, Some, None, Bool, true, false, refl, sym, ap, ◌∙◌, if◌then◌else◌, cond, ◌==◌, ◌&&◌, ◌||◌, length, append-nil}
use Rattle.std.proofs.lemmas.List.{append_assoc, length-append}
use Rattle.std.proofs.lemmas.List.Elements.{filter-append}
use Rattle.std.specs.Option.{option_or}
use Rattle.std.specs.Prelude.{filter, is_some}
use Rattle.gx_lemmas.proofs.Options.{option_or-none}
use Rattle.gx_ids.specs.declared.ids.Node.{Node}
use Rattle.gx_msg.specs.declared.message.Message.{Message}
use Rattle.gx_msg.specs.declared.message.Message.TheVariants as message
use Rattle.gx_store.specs.declared.event.Event.{Event}
use Rattle.gx_store.specs.declared.event.Event.TheVariants as event
use Rattle.gx_store.specs.declared.mark.Mark.{Mark}
use Rattle.gx_store.specs.declared.mark.Mark.TheVariants as mark
use Rattle.gx_store.specs.declared.run.Step.{Step}
use Rattle.gx_store.specs.Journals.{is_same_node}
use Rattle.gx_store.specs.Points.{marks_in}
use Rattle.gx_store.specs.Rounds.{last_report, last_round}
use Rattle.gx_store.specs.Schedule.{is_graph_of, is_graph_received, is_recheck, is_round, round_count, recheck_count, sent_message}
use Rattle.gx_rules.specs.Machine.{with_more}
use Rattle.gx_waits.specs.declared.graph.LocalGraph.{LocalGraph}
use Rattle.gx_law_order.specs.Lists.{Each}
use Rattle.gx_law_locks.specs.Held.{first_graph, graph_by, graph_in}
use Rattle.gx_law_locks.proofs.Silent.{NoRecheck, NoReport}

abbrev pub bit : Bool → ℕ
bit true = 1
bit false = 0

-- ROUNDS THAT HAVE BEGUN
pub rounds-last : (steps : List Step) (s : Step) → round_count (steps ++ s ∷ []) ≡ round_count steps + bit (is_round s.event)
rounds-last steps s =
    ap length (filter-append (λ (x : Step). is_round x.event) steps (s ∷ []))
    ∙ length-append (filter (λ (x : Step). is_round x.event) steps) (cond (is_round s.event) (s ∷ []) [])
    ∙ ap (λ n. round_count steps + n) (one (is_round s.event))
  where
    one : (b : Bool) → length (cond b (s ∷ []) []) ≡ bit b
    one true = refl
    one false = refl

pub rounds-more : (steps : List Step) (ms : List Mark) → round_count (with_more steps ms) ≡ round_count steps
rounds-more [] ms = refl
rounds-more (s ∷ []) ms = by_test (is_round s.event)
  where
    by_test : (b : Bool) → length (cond b (record s { marks = s.marks ++ ms } ∷ []) []) ≡ length (cond b (s ∷ []) [])
    by_test true = refl
    by_test false = refl
rounds-more (s ∷ t ∷ ss) ms = by_test (is_round s.event) (rounds-more (t ∷ ss) ms)
  where
    by_test : (b : Bool) → round_count (with_more (t ∷ ss) ms) ≡ round_count (t ∷ ss)
        → length (cond b (s ∷ filter (λ (x : Step). is_round x.event) (with_more (t ∷ ss) ms)) (filter (λ (x : Step). is_round x.event) (with_more (t ∷ ss) ms)))
        ≡ length (cond b (s ∷ filter (λ (x : Step). is_round x.event) (t ∷ ss)) (filter (λ (x : Step). is_round x.event) (t ∷ ss)))
    by_test true e = ap suc e
    by_test false e = e

-- AND HAVE ENDED
abbrev pub rechecks_of : List Mark → ℕ
rechecks_of ms = length (filter is_recheck ms)

pub rechecks-more : (steps more : List Step) (ms : List Mark) → marks_in more ≡ marks_in steps ++ ms → recheck_count more ≡ recheck_count steps + rechecks_of ms
rechecks-more steps more ms e = ap rechecks_of e ∙ ap length (filter-append is_recheck (marks_in steps) ms) ∙ length-append (filter is_recheck (marks_in steps)) (filter is_recheck ms)

pub none-ends : (ms : List Mark) → Each NoRecheck ms → rechecks_of ms ≡ 0
none-ends [] e = refl
none-ends (mark.Recheck round own verdict ∷ ms) e = absurd e.0
none-ends (mark.Report node round graph ∷ ms) e = none-ends ms e.1
none-ends (mark.Sent to number told ∷ ms) e = none-ends ms e.1
none-ends (m ∷ ms) e = none-ends ms e.1

-- THE FIRST GRAPH OF A SEGMENT
or-assoc : (a b c : Option LocalGraph) → option_or (option_or a b) c ≡ option_or a (option_or b c)
or-assoc None b c = refl
or-assoc (Some x) b c = refl

first-from : (before : List Step) (segment : Node) (round : ℕ) (ss : List Step) (s : Step)
    → first_graph before segment round (ss ++ s ∷ []) ≡ option_or (first_graph before segment round ss) (graph_by (before ++ ss) segment round s.event)
first-from before segment round [] s = option_or-none (graph_by before segment round s.event) ∙ ap (λ q. graph_by q segment round s.event) (sym (append-nil before))
first-from before segment round (x ∷ ss) s =
    ap (option_or (graph_by before segment round x.event)) (first-from (before ++ x ∷ []) segment round ss s ∙ ap (λ q. option_or (first_graph (before ++ x ∷ []) segment round ss) (graph_by q segment round s.event)) (append_assoc before (x ∷ []) ss))
    ∙ sym (or-assoc (graph_by before segment round x.event) (first_graph (before ++ x ∷ []) segment round ss) (graph_by (before ++ x ∷ ss) segment round s.event))

pub first-last : (steps : List Step) (segment : Node) (round : ℕ) (s : Step) → first_graph [] segment round (steps ++ s ∷ []) ≡ option_or (first_graph [] segment round steps) (graph_by steps segment round s.event)
first-last steps segment round s = first-from [] segment round steps s

-- a step that receives none for it
pub first-same : (steps : List Step) (segment : Node) (round : ℕ) (s : Step) → graph_by steps segment round s.event ≡ None → first_graph [] segment round (steps ++ s ∷ []) ≡ first_graph [] segment round steps
first-same steps segment round s e = first-last steps segment round s ∙ ap (option_or (first_graph [] segment round steps)) e ∙ option_or-none (first_graph [] segment round steps)

-- more marks of the last step come too late for any receipt
pub first-more : (before : List Step) (segment : Node) (round : ℕ) (ss : List Step) (ms : List Mark) → first_graph before segment round (with_more ss ms) ≡ first_graph before segment round ss
first-more before segment round [] ms = refl
first-more before segment round (s ∷ []) ms = refl
first-more before segment round (s ∷ t ∷ ss) ms = ap (option_or (graph_by before segment round s.event)) (first-more (before ++ s ∷ []) segment round (t ∷ ss) ms)

-- a graph was received where there is a first one
pub received-is : (before : List Step) (segment : Node) (round : ℕ) (ss : List Step) → is_graph_received before segment round ss ≡ is_some (first_graph before segment round ss)
received-is before segment round [] = refl
received-is before segment round (s ∷ ss) = by_event s.event (received-is (before ++ s ∷ []) segment round ss)
  where
    of-message : (o : Option Message) → is_graph_of round o ≡ is_some (graph_in round o)
    of-message None = refl
    of-message (Some (message.Graph r graph)) = by_test (r == round)
      where
        by_test : (b : Bool) → b ≡ is_some (if b then Some graph else None)
        by_test true = refl
        by_test false = refl
    of-message (Some message.Up) = refl
    of-message (Some (message.Exec g c level x h y)) = refl
    of-message (Some (message.Prepare g)) = refl
    of-message (Some (message.Commit g)) = refl
    of-message (Some (message.CommitPrepared g)) = refl
    of-message (Some (message.Abort g)) = refl
    of-message (Some (message.Forget g)) = refl
    of-message (Some (message.Collect r)) = refl
    of-message (Some (message.Answer g r)) = refl

    either : (a b : Option LocalGraph) → (is_some a || is_some b) ≡ is_some (option_or a b)
    either None b = refl
    either (Some x) b = refl

    received : (own : Bool) (o : Option Message) (rest : Bool) (later : Option LocalGraph) → rest ≡ is_some later
        → ((own && is_graph_of round o) || rest) ≡ is_some (option_or (if own then graph_in round o else None) later)
    received true o rest later e = ap (λ b. b || rest) (of-message o) ∙ ap (λ b. is_some (graph_in round o) || b) e ∙ either (graph_in round o) later
    received false o rest later e = e

    by_event : (x : Event) → is_graph_received (before ++ record s { event = x } ∷ []) segment round ss ≡ is_some (first_graph (before ++ record s { event = x } ∷ []) segment round ss)
        → is_graph_received before segment round (record s { event = x } ∷ ss) ≡ is_some (first_graph before segment round (record s { event = x } ∷ ss))
    by_event (event.Receive from to number) e = received (is_same_node from segment) (sent_message from to number before) _ _ e
    by_event (event.Resume n g) e = e
    by_event (event.Start x) e = e
    by_event (event.End x) e = e
    by_event (event.Resend i g) e = e
    by_event event.Round e = e
    by_event (event.Restart n) e = e

-- WHAT A SEGMENT HAS REPORTED
pub round-append : (node : Node) (round : ℕ) (xs ys : List Mark) → last_round node round (xs ++ ys) ≡ last_round node (last_round node round xs) ys
round-append node round [] ys = refl
round-append node round (mark.Report n r graph ∷ xs) ys = round-append node (if n.0 == node.0 then r else round) xs ys
round-append node round (m ∷ xs) ys = round-append node round xs ys

pub report-append : (node : Node) (round : ℕ) (graph : Option LocalGraph) (xs ys : List Mark) → last_report node round graph (xs ++ ys) ≡ last_report node round (last_report node round graph xs) ys
report-append node round graph [] ys = refl
report-append node round graph (mark.Report n r noted ∷ xs) ys = report-append node round (if (n.0 == node.0) && (r == round) then Some noted else graph) xs ys
report-append node round graph (m ∷ xs) ys = report-append node round graph xs ys

-- a report of another node is none of it
abbrev pub NoReportOf : Node → Mark → Type 0
NoReportOf node (mark.Report n round graph) = is_same_node n node ≡ false
NoReportOf node _ = Unit {0}

pub round-same : (node : Node) (round : ℕ) (ms : List Mark) → Each (NoReportOf node) ms → last_round node round ms ≡ round
round-same node round [] e = refl
round-same node round (mark.Report n r graph ∷ ms) e = ap (λ (b : Bool). last_round node (if b then r else round) ms) e.0 ∙ round-same node round ms e.1
round-same node round (m ∷ ms) e = round-same node round ms e.1

pub report-same : (node : Node) (round : ℕ) (graph : Option LocalGraph) (ms : List Mark) → Each (NoReportOf node) ms → last_report node round graph ms ≡ graph
report-same node round graph [] e = refl
report-same node round graph (mark.Report n r noted ∷ ms) e = ap (λ (b : Bool). last_report node round (if b && (r == round) then Some noted else graph) ms) e.0 ∙ report-same node round graph ms e.1
report-same node round graph (m ∷ ms) e = report-same node round graph ms e.1

pub none-of : (node : Node) (ms : List Mark) → Each NoReport ms → Each (NoReportOf node) ms
none-of node [] e = tt
none-of node (mark.Report n r graph ∷ ms) e = absurd e.0
none-of node (m ∷ ms) e = (tt, none-of node ms e.1)
