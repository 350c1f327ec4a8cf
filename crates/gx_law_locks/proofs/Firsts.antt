-- The first graph of a segment is the first that was received from it: the reports of a round.
use Rattle.std.proofs.Common.{◌≡◌, ◌≤◌, ◌<◌, ◌⊎◌, inl, inr, ℕ, zero, suc, ◌+◌, List, [], ◌∷◌, ◌++◌, Option, Some, None, Bool, true, false, refl, sym, subst, ap, ◌∙◌, if◌then◌else◌, ◌==◌, ◌&&◌, nat_lt, length, arith, append-nil}
use Rattle.std.proofs.lemmas.Bool.{and_parts, eqb-true}
use Rattle.std.proofs.lemmas.Bool.Decides.{nat_tests}
use Rattle.std.proofs.lemmas.List.{append_assoc, take-append-le}
use Rattle.std.proofs.Math.Seq.{take-append_seam}
use Rattle.std.specs.Option.{option_or}
use Rattle.std.specs.List.{filter_map, list_all}
use Rattle.std.specs.Prelude.{is_some, map, slice_get, take}
use Rattle.gx_lemmas.proofs.Lists.{get-append, place-below}
use Rattle.gx_lemmas.proofs.Numbers.{eqb-self, le-of, lt-of, one-le-zero}
use Rattle.gx_lemmas.proofs.Options.{none-some, some-same}
use Rattle.gx_ids.specs.declared.ids.Node.{Node}
use Rattle.gx_msg.specs.declared.message.Message.{Message}
use Rattle.gx_msg.specs.declared.message.Message.TheVariants as message
use Rattle.gx_script.specs.declared.Script.{Script}
use Rattle.gx_store.specs.declared.event.Event.{Event}
use Rattle.gx_store.specs.declared.event.Event.TheVariants as event
use Rattle.gx_store.specs.declared.mark.Mark.{Mark}
use Rattle.gx_store.specs.declared.mark.Mark.TheVariants as mark
use Rattle.gx_store.specs.declared.run.Step.{Step}
use Rattle.gx_store.specs.Journals.{is_same_node}
use Rattle.gx_store.specs.Messages.{IsSent, Receives, ReceivesAt}
use Rattle.gx_store.specs.Ordered.{AreOrdered, IsEventAt, IsLink, IsOrderedStep}
use Rattle.gx_store.specs.Points.{Point}
use Rattle.gx_store.specs.Refusals.{the_coordinator}
use Rattle.gx_store.specs.Rounds.{AreReportsOf, IsReportOf}
use Rattle.gx_store.specs.Schedule.{message_in, sent_message}
use Rattle.gx_waits.specs.declared.graph.LocalGraph.{LocalGraph}
use Rattle.gx_law_order.proofs.Letters.{same_node}
use Rattle.gx_meaning.specs.Plan.{nodes_from}
use Rattle.gx_law_order.proofs.Lists.{get_last}
use Rattle.gx_law_order.proofs.Sent.{at}
use Rattle.gx_law_locks.specs.Held.{first_graph, graph_by, graph_in}
use Rattle.gx_law_locks.proofs.Sendings.{message-is, test-self}

-- WHERE IT WAS RECEIVED
module _ (segment : Node) (round : ℕ) where
  record FoundAt (before ss : List Step) (graph : LocalGraph) : Type 0 where
    place : ℕ
    step : Step
    at : slice_get ss place ≡ Some step
    by : graph_by (before ++ take place ss) segment round step.event ≡ Some graph
    none : (k : ℕ) (x : Step) → slice_get ss k ≡ Some x → k < place → graph_by (before ++ take k ss) segment round x.event ≡ None

  found-at : (before ss : List Step) (graph : LocalGraph) → first_graph before segment round ss ≡ Some graph → FoundAt before ss graph
  found-at before [] graph e = absurd (cc)
  found-at before (s ∷ ss) graph e = by_here (graph_by before segment round s.event) refl e (λ q. found-at (before ++ s ∷ []) ss graph q)
    where
      never : (k : ℕ) → k < 0 → ⊥
      never k h = omega arith

      lower : (k p : ℕ) → suc k < suc p → k < p
      lower k p h = omega arith

      here : (x : Step) (o : Option LocalGraph) → s ≡ x → graph_by before segment round s.event ≡ o → graph_by (before ++ []) segment round x.event ≡ o
      here x o same f = ap (λ q. graph_by q segment round x.event) (append-nil before) ∙ ap (λ (y : Step). graph_by before segment round y.event) (sym same) ∙ f

      by_here : (o : Option LocalGraph) → graph_by before segment round s.event ≡ o → option_or o (first_graph (before ++ s ∷ []) segment round ss) ≡ Some graph
          → (first_graph (before ++ s ∷ []) segment round ss ≡ Some graph → FoundAt (before ++ s ∷ []) ss graph) → FoundAt before (s ∷ ss) graph
      by_here (Some g) f e rest = record { place = 0; step = s; at = refl; by = here s (Some graph) refl (f ∙ e); none = λ k x q h. absurd (never k h) }
      by_here None f e rest =
          let r = rest e in
          record {
            place = suc r.place;
            step = r.step;
            at = r.at;
            by = ap (λ q. graph_by q segment round r.step.event) (sym (append_assoc before (s ∷ []) (take r.place ss))) ∙ r.by;
            none = later r;
          }
        where
          later : (r : FoundAt (before ++ s ∷ []) ss graph) (k : ℕ) (x : Step) → slice_get (s ∷ ss) k ≡ Some x → k < suc r.place → graph_by (before ++ take k (s ∷ ss)) segment round x.event ≡ None
          later r zero x q h = here x None (some-same s x q) f
          later r (suc k) x q h = ap (λ y. graph_by y segment round x.event) (sym (append_assoc before (s ∷ []) (take k ss))) ∙ r.none k x q (lower k r.place h)

-- WHAT IT SAYS
ordered-at : (script : Script) (before ss : List Step) (k : ℕ) (s : Step) → AreOrdered script before ss → slice_get ss k ≡ Some s → IsOrderedStep script (before ++ take k ss) s
ordered-at script before [] k s a e = absurd (cc)
ordered-at script before (x ∷ ss) zero s a e = subst (λ q. IsOrderedStep script q s) (sym (append-nil before)) (subst (IsOrderedStep script before) (some-same x s e) a.0)
ordered-at script before (x ∷ ss) (suc k) s a e = subst (λ q. IsOrderedStep script q s) (append_assoc before (x ∷ []) (take k ss)) (ordered-at script (before ++ x ∷ []) ss k s a.1 e)

ordered-front : (script : Script) (before ss : List Step) (k : ℕ) → AreOrdered script before ss → AreOrdered script before (take k ss)
ordered-front script before [] zero a = tt
ordered-front script before [] (suc k) a = tt
ordered-front script before (x ∷ ss) zero a = tt
ordered-front script before (x ∷ ss) (suc k) a = (a.0, ordered-front script (before ++ x ∷ []) ss k a.1)

-- what the steps find under a number was sent under it
record IsInMarks (to : Node) (number : ℕ) (m : Message) (ms : List Mark) : Type 0 where
  place : ℕ
  at : slice_get ms place ≡ Some (mark.Sent to number m)

marks-hold : (to : Node) (number : ℕ) (m : Message) (ms : List Mark) → message_in to number ms ≡ Some m → IsInMarks to number m ms
marks-hold to number m [] e = absurd (cc)
marks-hold to number m (mark.Sent t k told ∷ ms) e = by_test (is_same_node t to && (k == number)) refl e (λ q. marks-hold to number m ms q)
  where
    by_test : (b : Bool) → (is_same_node t to && (k == number)) ≡ b → (if b then Some told else message_in to number ms) ≡ Some m
        → (message_in to number ms ≡ Some m → IsInMarks to number m ms) → IsInMarks to number m (mark.Sent t k told ∷ ms)
    by_test true f e rest =
        let z = and_parts (is_same_node t to) (k == number) f in
        record {
          place = 0;
          at = ap (λ n. Some (mark.Sent n k told)) (same_node t to z.0) ∙ ap (λ n. Some (mark.Sent to n told)) (eqb-true k number z.1) ∙ ap (λ x. Some (mark.Sent to number x)) (some-same told m e);
        }
    by_test false f e rest = let r = rest e in record { place = suc r.place; at = r.at }
marks-hold to number m (x ∷ ms) e = let r = marks-hold to number m ms e in record { place = suc r.place; at = r.at }

steps-hold : (from to : Node) (number : ℕ) (m : Message) (ss : List Step) → sent_message from to number ss ≡ Some m → IsSent ss from to number m
steps-hold from to number m [] e = absurd (cc)
steps-hold from to number m (s ∷ ss) e = by_node (is_same_node s.stamp.node from) refl (message_in to number s.marks) refl (λ q. steps-hold from to number m ss q)
  where
    here : (o : Option Message) → is_same_node s.stamp.node from ≡ true → message_in to number s.marks ≡ Some m → IsSent (s ∷ ss) from to number m
    here o q f = let r = marks-hold to number m s.marks f in record { step = 0; mark = r.place; sending = record { sender = s; at = refl; node = same_node s.stamp.node from q; sent = r.at } }

    further : IsSent ss from to number m → IsSent (s ∷ ss) from to number m
    further r =
        record { step = suc r.step; mark = r.mark; sending = record { sender = r.sending.sender; at = r.sending.at; node = r.sending.node; sent = r.sending.sent } }

    own-first : (x : Message) → is_same_node s.stamp.node from ≡ true → message_in to number s.marks ≡ Some x → x ≡ m
    own-first x q f = grind (arith, nat_tests, e)

    own-later : is_same_node s.stamp.node from ≡ true → message_in to number s.marks ≡ None → sent_message from to number ss ≡ Some m
    own-later q f = grind (arith, nat_tests, e)

    other-later : is_same_node s.stamp.node from ≡ false → sent_message from to number ss ≡ Some m
    other-later q = grind (arith, nat_tests, e)

    by_node : (b : Bool) → is_same_node s.stamp.node from ≡ b → (o : Option Message) → message_in to number s.marks ≡ o → (sent_message from to number ss ≡ Some m → IsSent ss from to number m) → IsSent (s ∷ ss) from to number m
    by_node true q (Some x) f rest = here (Some x) q (f ∙ ap Some (own-first x q f))
    by_node true q None f rest = further (rest (own-later q f))
    by_node false q o f rest = further (rest (other-later q))

-- THE RECEIPT
module _ (script : Script) (all : List Step) (ordered : AreOrdered script [] all) (segment : Node) (one : 1 ≤ segment.0) (round : ℕ) where
  -- a graph that a step brings from the segment was received at the coordinator
  received-from : (k : ℕ) (s : Step) (graph : LocalGraph) → slice_get all k ≡ Some s → graph_by (take k all) segment round s.event ≡ Some graph → Receives (take k all) s.event segment the_coordinator (message.Graph round graph)
  received-from k s graph at = by_event s.event (ordered-at script [] all k s ordered at).event
    where
      of-message : (from to : Node) (number : ℕ) (o : Option Message) → sent_message from to number (take k all) ≡ o → graph_in round o ≡ Some graph → sent_message from to number (take k all) ≡ Some (message.Graph round graph)
      of-message from to number None f e = absurd (cc)
      of-message from to number (Some (message.Graph r g)) f e = by_round (r == round) refl e
        where
          by_round : (b : Bool) → (r == round) ≡ b → (if b then Some g else None) ≡ Some graph → sent_message from to number (take k all) ≡ Some (message.Graph round graph)
          by_round true q e = f ∙ ap (λ n. Some (message.Graph n g)) (eqb-true r round q) ∙ ap (λ x. Some (message.Graph round x)) (some-same g graph e)
          by_round false q e = absurd (cc)
      of-message from to number (Some message.Up) f e = absurd (cc)
      of-message from to number (Some (message.Exec g c level x h y)) f e = absurd (cc)
      of-message from to number (Some (message.Prepare g)) f e = absurd (cc)
      of-message from to number (Some (message.Commit g)) f e = absurd (cc)
      of-message from to number (Some (message.CommitPrepared g)) f e = absurd (cc)
      of-message from to number (Some (message.Abort g)) f e = absurd (cc)
      of-message from to number (Some (message.Forget g)) f e = absurd (cc)
      of-message from to number (Some (message.Collect r)) f e = absurd (cc)
      of-message from to number (Some (message.Answer g r)) f e = absurd (cc)

      to-here : (from to : Node) → from ≡ segment → IsLink script from to → to ≡ the_coordinator
      to-here from to same (inl l) = absurd (one-le-zero segment.0 one (ap (λ (n : Node). n.0) (sym same ∙ l.0)))
      to-here from to same (inr l) = l.1

      by_source : (from to : Node) (number : ℕ) (b : Bool) → is_same_node from segment ≡ b → IsEventAt script (take k all) s (event.Receive from to number)
          → (if b then graph_in round (sent_message from to number (take k all)) else None) ≡ Some graph → Receives (take k all) (event.Receive from to number) segment the_coordinator (message.Graph round graph)
      by_source from to number false q a e = absurd (cc)
      by_source from to number true q a e =
          let same : from ≡ segment = same_node from segment q in
          let here : to ≡ the_coordinator = to-here from to same a.1.link in
          let sent = steps-hold from to number (message.Graph round graph) (take k all) (of-message from to number (sent_message from to number (take k all)) refl e) in
          record {
            number = number;
            is = ap (λ n. event.Receive n to number) same ∙ ap (λ n. event.Receive segment n number) here;
            sent = subst (λ n. IsSent (take k all) segment n number (message.Graph round graph)) here (subst (λ n. IsSent (take k all) n to number (message.Graph round graph)) same sent);
          }

      by_event : (e : Event) → IsEventAt script (take k all) s e → graph_by (take k all) segment round e ≡ Some graph → Receives (take k all) e segment the_coordinator (message.Graph round graph)
      by_event (event.Receive from to number) a e = by_source from to number (is_same_node from segment) refl a e
      by_event (event.Resume n g) a e = absurd (cc)
      by_event (event.Start x) a e = absurd (cc)
      by_event (event.End x) a e = absurd (cc)
      by_event (event.Resend i g) a e = absurd (cc)
      by_event event.Round a e = absurd (cc)
      by_event (event.Restart n) a e = absurd (cc)

  -- and the other way round
  brought-from : (k : ℕ) (e : Event) (graph : LocalGraph) → Receives (take k all) e segment the_coordinator (message.Graph round graph) → graph_by (take k all) segment round e ≡ Some graph
  brought-from k e graph h =
      subst (λ x. graph_by (take k all) segment round x ≡ Some graph) (sym h.is)
      (ap (λ (b : Bool). if b then graph_in round (sent_message segment the_coordinator h.number (take k all)) else None) (test-self segment)
      ∙ ap (graph_in round) (message-is script (take k all) segment the_coordinator h.number (message.Graph round graph) (ordered-front script [] all k ordered) h.sent)
      ∙ ap (λ (b : Bool). if b then Some graph else None) (eqb-self round))

-- THE REPORT
split : (xs : List Step) (y : Step) (k : ℕ) (x : Step) → slice_get (xs ++ y ∷ []) k ≡ Some x → (slice_get xs k ≡ Some x) ⊎ ((k ≡ length xs) × (y ≡ x))
split [] y zero x e = inr (refl, some-same y x e)
split [] y (suc k) x e = absurd (cc)
split (z ∷ xs) y zero x e = inl e
split (z ∷ xs) y (suc k) x e = by_case (split xs y k x e)
  where
    by_case : (slice_get xs k ≡ Some x) ⊎ ((k ≡ length xs) × (y ≡ x)) → (slice_get xs k ≡ Some x) ⊎ ((suc k ≡ suc (length xs)) × (y ≡ x))
    by_case (inl f) = inl f
    by_case (inr f) = inr (ap suc f.0, f.1)

-- the first graph of a segment, behind the point's own step, is its report
module _ (script : Script) (point : Point) (s : Step) (is : s.event ≡ point.event) (ordered : AreOrdered script [] (point.steps ++ s ∷ [])) (segment : Node) (one : 1 ≤ segment.0) (round : ℕ) where
  abbrev all : List Step
  all = point.steps ++ s ∷ []

  abbrev Told : LocalGraph → Message
  Told graph = message.Graph round graph

  front : (k : ℕ) (x : Step) → slice_get point.steps k ≡ Some x → take k all ≡ take k point.steps
  front k x e = take-append-le k point.steps (s ∷ []) (less k (length point.steps) (place-below point.steps k x e))
    where
      less : (a b : ℕ) → a < b → a ≤ b
      less a b h = omega arith

  seam : (k : ℕ) → k ≡ length point.steps → take k all ≡ point.steps
  seam k e = ap (λ n. take n all) e ∙ take-append_seam point.steps (s ∷ [])

  received-then : (graph : LocalGraph) (r : FoundAt segment round [] all graph) → ReceivesAt point r.place segment the_coordinator (Told graph)
  received-then graph r = by_place (split point.steps s r.place r.step r.at)
    where
      received : Receives (take r.place all) r.step.event segment the_coordinator (Told graph)
      received = received-from script all ordered segment one round r.place r.step graph r.at r.by

      by_place : (slice_get point.steps r.place ≡ Some r.step) ⊎ ((r.place ≡ length point.steps) × (s ≡ r.step)) → ReceivesAt point r.place segment the_coordinator (Told graph)
      by_place (inl e) = inl (r.step, e, subst (λ q. Receives q r.step.event segment the_coordinator (Told graph)) (front r.place r.step e) received)
      by_place (inr e) =
          inr (
            e.0,
            subst (λ x. Receives point.steps x segment the_coordinator (Told graph)) (ap (λ (y : Step). y.event) (sym e.1) ∙ is)
                (subst (λ q. Receives q r.step.event segment the_coordinator (Told graph)) (seam r.place e.0) received),
          )

  not-before : (graph : LocalGraph) (r : FoundAt segment round [] all graph) (k : ℕ) (other : LocalGraph) → ReceivesAt point k segment the_coordinator (Told other) → k < r.place → ⊥
  not-before graph r k other (inl (x, e, h)) less =
      none-some (graph_by (take k all) segment round x.event) other (r.none k x (get-append point.steps (s ∷ []) k x e) less)
      (brought-from script all ordered segment one round k x.event other (subst (λ q. Receives q x.event segment the_coordinator (Told other)) (sym (front k x e)) h))
  not-before graph r k other (inr (e, h)) less =
      none-some (graph_by (take k all) segment round s.event) other
      (r.none k s (ap (λ n. slice_get all n) e ∙ get_last point.steps [] s) less)
      (brought-from script all ordered segment one round k s.event other
      (subst (λ q. Receives q s.event segment the_coordinator (Told other)) (sym (seam k e)) (subst (λ x. Receives point.steps x segment the_coordinator (Told other)) (sym is) h)))

  pub report-of : (graph : LocalGraph) → first_graph [] segment round all ≡ Some graph → IsReportOf point round segment graph
  report-of graph e =
      record {
        at = r.place;
        received = received-then graph r;
        first = λ k other h. le-of k r.place (by_test k other h (nat_lt k r.place) refl);
      }
    where
      r : FoundAt segment round [] (point.steps ++ s ∷ []) graph
      r = found-at segment round [] (point.steps ++ s ∷ []) graph e

      by_test : (k : ℕ) (other : LocalGraph) → ReceivesAt point k segment the_coordinator (message.Graph round other) → (b : Bool) → nat_lt k r.place ≡ b → nat_lt k r.place ≡ false
      by_test k other h true q = absurd (not-before graph r k other h (lt-of k r.place q))
      by_test k other h false q = q

-- THE REPORTS OF A ROUND
-- where each has one, there is one a segment, in their order
module _ (f : Node → Option LocalGraph) where
  all-there : (k n : ℕ) → list_all is_some (map f (nodes_from k n)) ≡ true → length (filter_map (λ report. report) (map f (nodes_from k n))) ≡ n
  all-there k zero e = refl
  all-there k (suc n) e = by_first (f (at k)) e (all-there (k + 1) n)
    where
      by_first : (o : Option LocalGraph) → (is_some o && list_all is_some (map f (nodes_from (k + 1) n))) ≡ true
          → (list_all is_some (map f (nodes_from (k + 1) n)) ≡ true → length (filter_map (λ report. report) (map f (nodes_from (k + 1) n))) ≡ n)
          → length (filter_map (λ report. report) (o ∷ map f (nodes_from (k + 1) n))) ≡ suc n
      by_first None e later = absurd (cc)
      by_first (Some x) e later = ap suc (later e)

  each-there : (k n : ℕ) → list_all is_some (map f (nodes_from k n)) ≡ true → (i : ℕ) (graph : LocalGraph) → slice_get (filter_map (λ report. report) (map f (nodes_from k n))) i ≡ Some graph → f (at (k + i)) ≡ Some graph
  each-there k zero e i graph q = absurd (cc)
  each-there k (suc n) e i graph q = by_first (f (at k)) refl e i q (λ a j g. each-there (k + 1) n a j graph g)
    where
      first : (k : ℕ) → k ≡ k + 0
      first k = omega arith

      next : (k i : ℕ) → k + 1 + i ≡ k + suc i
      next k i = omega arith

      by_first : (o : Option LocalGraph) → f (at k) ≡ o → (is_some o && list_all is_some (map f (nodes_from (k + 1) n))) ≡ true → (i : ℕ) → slice_get (filter_map (λ report. report) (o ∷ map f (nodes_from (k + 1) n))) i ≡ Some graph
          → (list_all is_some (map f (nodes_from (k + 1) n)) ≡ true → (i : ℕ) → slice_get (filter_map (λ report. report) (map f (nodes_from (k + 1) n))) i ≡ Some graph → f (at (k + 1 + i)) ≡ Some graph) → f (at (k + i)) ≡ Some graph
      by_first None h e i q later = absurd (cc)
      by_first (Some x) h e zero q later = ap (λ j. f (at j)) (sym (first k)) ∙ h ∙ q
      by_first (Some x) h e (suc i) q later = ap (λ j. f (at j)) (sym (next k i)) ∙ later e i q

pub reports-of : (script : Script) (point : Point) (s : Step) → s.event ≡ point.event → AreOrdered script [] (point.steps ++ s ∷ []) → (round : ℕ) (reports : List (Option LocalGraph))
    → reports ≡ map (λ i. first_graph [] i round (point.steps ++ s ∷ [])) (nodes_from 1 script.segments) → list_all is_some reports ≡ true → AreReportsOf script point round (filter_map (λ report. report) reports)
reports-of script point s is ordered round reports same there =
    subst (λ rs. AreReportsOf script point round (filter_map (λ report. report) rs)) (sym same)
    (record {
      all = all-there first 1 script.segments every;
      each = λ i graph q. report-of script point s is ordered (at (i + 1)) (least i) round graph (ap (λ j. first (at j)) (turned i) ∙ each-there first 1 script.segments every i graph q);
    })
  where
    first : Node → Option LocalGraph
    first i = first_graph [] i round (point.steps ++ s ∷ [])

    every : list_all is_some (map first (nodes_from 1 script.segments)) ≡ true
    every = ap (λ rs. list_all is_some rs) (sym same) ∙ there

    least : (i : ℕ) → 1 ≤ i + 1
    least i = omega arith

    turned : (i : ℕ) → i + 1 ≡ 1 + i
    turned i = omega arith
