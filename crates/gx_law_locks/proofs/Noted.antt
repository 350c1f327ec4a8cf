-- A graph that a segment sends is one that it has reported at an earlier point, where it had just the edges that stood there.
use Rattle.std.proofs.Common.{◌≡◌, ◌==◌, ◌&&◌, ◌⊎◌, inl, inr, ℕ, zero, suc, List, [], ◌∷◌, ◌++◌, Option, Some, None, Bool, true, false, refl, sym, subst, ap, ◌∙◌, if◌then◌else◌, append_assoc, append-nil, arith}
use Rattle.std.proofs.lemmas.Bool.{and_parts}
use Rattle.std.proofs.lemmas.Bool.Decides.{nat_tests}
use Rattle.std.specs.Prelude.{slice_get, take}
use Rattle.gx_lemmas.proofs.Options.{some-same}
use Rattle.gx_ids.specs.declared.ids.Node.{Node}
use Rattle.gx_waits.specs.declared.graph.LocalGraph.{LocalGraph}
use Rattle.gx_msg.specs.declared.message.Message.{Message}
use Rattle.gx_msg.specs.declared.message.Message.TheVariants as message
use Rattle.gx_store.specs.declared.event.Event.{Event}
use Rattle.gx_store.specs.declared.mark.Mark.{Mark}
use Rattle.gx_store.specs.declared.mark.Mark.TheVariants as mark
use Rattle.gx_store.specs.declared.run.Step.{Step}
use Rattle.gx_store.specs.Messages.{IsSent}
use Rattle.gx_store.specs.Points.{marks_in}
use Rattle.gx_store.specs.Rounds.{AreReports, IsGraphAt, SendNoted, last_report}
use Rattle.gx_law_order.proofs.More.{marks-last}
use Rattle.gx_law_locks.specs.Waiting.{EachBehind}
use Rattle.gx_law_locks.proofs.Lets.{behind-append, behind-rest}
use Rattle.gx_law_locks.specs.Gathered.{AreNoted}
use Rattle.gx_law_locks.specs.Reports.{IsReported}

-- WHAT REPORTS TELL
abbrev pub Tells : List Mark → Mark → Type 0
Tells before (mark.Report node round graph) = IsGraphAt before node graph
Tells before _ = Unit {0}

each-tells : (steps : List Step) (event : Event) (earlier ms : List Mark) → AreReports steps event earlier ms → EachBehind Tells (marks_in steps ++ earlier) ms
each-tells steps event earlier [] e = tt
each-tells steps event earlier (mark.Report node round graph ∷ ms) e =
    let m : Mark = mark.Report node round graph in
    (e.0.tells, subst (λ b. EachBehind Tells b ms) (sym (append_assoc (marks_in steps) earlier (m ∷ []))) (each-tells steps event (earlier ++ m ∷ []) ms e.1))
each-tells steps event earlier (m ∷ ms) e = (tt, subst (λ b. EachBehind Tells b ms) (sym (append_assoc (marks_in steps) earlier (m ∷ []))) (each-tells steps event (earlier ++ m ∷ []) ms e))

all-tell : (done ss : List Step) → AreNoted done ss → EachBehind Tells (marks_in done) (marks_in ss)
all-tell done [] e = tt
all-tell done (s ∷ ss) e =
    behind-append Tells (marks_in done) s.marks (marks_in ss) (subst (λ b. EachBehind Tells b s.marks) (append-nil (marks_in done)) (each-tells done s.event [] s.marks e.0))
    (subst (λ b. EachBehind Tells b (marks_in ss)) (marks-last done s) (all-tell (done ++ s ∷ []) ss e.2))

-- WHAT WAS NOTED LAST
record IsNotedIn (node : Node) (graph : LocalGraph) (ms : List Mark) : Type 0 where
  before : List Mark
  later : List Mark
  round : ℕ
  split : ms ≡ before ++ mark.Report node round graph ∷ later

later-on : (node : Node) (graph : LocalGraph) (m : Mark) (ms : List Mark) → IsNotedIn node graph ms → IsNotedIn node graph (m ∷ ms)
later-on node graph m ms n = record { before = m ∷ n.before; later = n.later; round = n.round; split = ap (λ q. m ∷ q) n.split }

same-node : (a b : Node) → (a.0 == b.0) ≡ true → a ≡ b
same-node a b e = grind (arith, nat_tests)

noted : (node : Node) (round : ℕ) (start : Option LocalGraph) (ms : List Mark) (graph : LocalGraph) → last_report node round start ms ≡ Some graph → (start ≡ Some graph) ⊎ IsNotedIn node graph ms
noted node round start [] graph e = inl e
noted node round start (mark.Report n r told ∷ ms) graph e = by_later (noted node round (if (n.0 == node.0) && (r == round) then Some told else start) ms graph e)
  where
    here : n ≡ node → told ≡ graph → IsNotedIn node graph (mark.Report n r told ∷ ms)
    here same is = record { before = []; later = ms; round = r; split = ap (λ k. mark.Report k r told ∷ ms) same ∙ ap (λ g. mark.Report node r g ∷ ms) is }

    by_test : (b : Bool) → ((n.0 == node.0) && (r == round)) ≡ b → (if b then Some told else start) ≡ Some graph → (start ≡ Some graph) ⊎ IsNotedIn node graph (mark.Report n r told ∷ ms)
    by_test true t is = inr (here (same-node n node (and_parts (n.0 == node.0) (r == round) t).0) (some-same told graph is))
    by_test false t is = inl is

    by_later : ((if (n.0 == node.0) && (r == round) then Some told else start) ≡ Some graph) ⊎ IsNotedIn node graph ms → (start ≡ Some graph) ⊎ IsNotedIn node graph (mark.Report n r told ∷ ms)
    by_later (inl is) = by_test ((n.0 == node.0) && (r == round)) refl is
    by_later (inr k) = inr (later-on node graph (mark.Report n r told) ms k)
noted node round start (m ∷ ms) graph e = by_later (noted node round start ms graph e)
  where
    by_later : (start ≡ Some graph) ⊎ IsNotedIn node graph ms → (start ≡ Some graph) ⊎ IsNotedIn node graph (m ∷ ms)
    by_later (inl is) = inl is
    by_later (inr k) = inr (later-on node graph m ms k)

-- WHAT IS SENT
-- a graph that is sent is the last that was noted by marks before
record IsSentNoted (node : Node) (round : ℕ) (graph : LocalGraph) (ms : List Mark) : Type 0 where
  before : List Mark
  later : List Mark
  split : ms ≡ before ++ later
  last : last_report node round None before ≡ Some graph

send-rest : (node : Node) (marks : List Mark) (m : Mark) (ms : List Mark) → SendNoted node marks (m ∷ ms) → SendNoted node (marks ++ m ∷ []) ms
send-rest node marks (mark.Sent to number (message.Graph round graph)) ms e = e.1
send-rest node marks m ms e = e

sent-noted : (node : Node) (marks ms : List Mark) (j : ℕ) (to : Node) (number round : ℕ) (graph : LocalGraph) → SendNoted node marks ms → slice_get ms j ≡ Some (mark.Sent to number (message.Graph round graph))
    → IsSentNoted node round graph (marks ++ ms)
sent-noted node marks [] j to number round graph e is = absurd (cc)
sent-noted node marks (m ∷ ms) zero to number round graph e is =
    let sent : SendNoted node marks (mark.Sent to number (message.Graph round graph) ∷ ms) = subst (λ x. SendNoted node marks (x ∷ ms)) (some-same m (mark.Sent to number (message.Graph round graph)) is) e in
    record { before = marks; later = m ∷ ms; split = refl; last = sent.0 }
sent-noted node marks (m ∷ ms) (suc j) to number round graph e is =
    subst (IsSentNoted node round graph) (append_assoc marks (m ∷ []) ms) (sent-noted node (marks ++ m ∷ []) ms j to number round graph (send-rest node marks m ms e) is)

sent-more : (node : Node) (round : ℕ) (graph : LocalGraph) (ms ns : List Mark) → IsSentNoted node round graph ms → IsSentNoted node round graph (ms ++ ns)
sent-more node round graph ms ns k = record { before = k.before; later = k.later ++ ns; split = ap (λ q. q ++ ns) k.split ∙ append_assoc k.before k.later ns; last = k.last }

sent-there : (done ss : List Step) (k j : ℕ) (sender : Step) (from to : Node) (number round : ℕ) (graph : LocalGraph) → AreNoted done ss → slice_get ss k ≡ Some sender → sender.stamp.node ≡ from
    → slice_get sender.marks j ≡ Some (mark.Sent to number (message.Graph round graph)) → IsSentNoted from round graph (marks_in done ++ marks_in ss)
sent-there done [] k j sender from to number round graph e at node is = absurd (cc)
sent-there done (s ∷ ss) zero j sender from to number round graph e at node is =
    let same : s ≡ sender = some-same s sender at in
    subst (IsSentNoted from round graph) (append_assoc (marks_in done) s.marks (marks_in ss))
    (sent-more from round graph (marks_in done ++ s.marks) (marks_in ss)
    (sent-noted from (marks_in done) s.marks j to number round graph (subst (λ n. SendNoted n (marks_in done) s.marks) (ap (λ (x : Step). x.stamp.node) same ∙ node) e.1)
    (subst (λ (x : Step). slice_get x.marks j ≡ Some (mark.Sent to number (message.Graph round graph))) (sym same) is)))
sent-there done (s ∷ ss) (suc k) j sender from to number round graph e at node is =
    subst (IsSentNoted from round graph) (ap (λ q. q ++ marks_in ss) (marks-last done s) ∙ append_assoc (marks_in done) s.marks (marks_in ss))
    (sent-there (done ++ s ∷ []) ss k j sender from to number round graph e.2 at node is)

-- so it was reported
was-reported : (ms : List Mark) → EachBehind Tells [] ms → (node : Node) (round : ℕ) (graph : LocalGraph) → IsSentNoted node round graph ms → (graph.node ≡ node) × IsReported ms graph
was-reported ms tells node round graph k = by_note (noted node round None k.before graph k.last)
  where
    by_note : (None ≡ Some graph) ⊎ IsNotedIn node graph k.before → (graph.node ≡ node) × IsReported ms graph
    by_note (inl none) = absurd (cc)
    by_note (inr n) = (told.place, record { before = n.before; later = mark.Report node n.round graph ∷ n.later ++ k.later; point = all; tells = subst (λ m. IsGraphAt n.before m graph) (sym told.place) told })
      where
        all : ms ≡ n.before ++ (mark.Report node n.round graph ∷ n.later ++ k.later)
        all = k.split ∙ ap (λ q. q ++ k.later) n.split ∙ append_assoc n.before (mark.Report node n.round graph ∷ n.later) k.later

        told : IsGraphAt n.before node graph
        told = (behind-rest Tells [] n.before (mark.Report node n.round graph ∷ n.later ++ k.later) (subst (EachBehind Tells []) all tells)).0

pub sent-reported : (steps : List Step) → AreNoted [] steps → (from to : Node) (number round : ℕ) (graph : LocalGraph) → IsSent steps from to number (message.Graph round graph)
    → (graph.node ≡ from) × IsReported (marks_in steps) graph
sent-reported steps e from to number round graph s =
    was-reported (marks_in steps) (all-tell [] steps e) from round graph (sent-there [] steps s.step s.mark s.sending.sender from to number round graph e s.sending.at s.sending.node s.sending.sent)

-- WHAT WAS SENT BY AN EARLIER STEP
get-take : {A : Type 0} (xs : List A) (n i : ℕ) (x : A) → slice_get (take n xs) i ≡ Some x → slice_get xs i ≡ Some x
get-take [] zero i x e = e
get-take [] (suc n) i x e = e
get-take (y ∷ ys) zero i x e = absurd (cc)
get-take (y ∷ ys) (suc n) zero x e = e
get-take (y ∷ ys) (suc n) (suc i) x e = get-take ys n i x e

pub sent-by-then : (steps : List Step) (n : ℕ) (from to : Node) (number : ℕ) (m : Message) → IsSent (take n steps) from to number m → IsSent steps from to number m
sent-by-then steps n from to number m s =
    record {
      step = s.step;
      mark = s.mark;
      sending = record { sender = s.sending.sender; at = get-take steps n s.step s.sending.sender s.sending.at; node = s.sending.node; sent = s.sending.sent };
    }
