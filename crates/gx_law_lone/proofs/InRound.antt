-- A round that has begun where nothing else was enabled: what stays as it was while it runs, event by event.
use Rattle.std.proofs.Common.{◌≡◌, ◌≤◌, ◌⊎◌, inl, inr, ℕ, suc, ◌+◌, List, [], ◌∷◌, ◌++◌, Option, Some, None, Bool, true, false, refl, sym, subst, ap, ◌∙◌, if◌then◌else◌, ◌&&◌, ◌==◌, arith, eqb, length, append_assoc}
use Rattle.std.proofs.lemmas.Bool.{and_from, and_parts, eqb-true}
use Rattle.std.proofs.lemmas.Bool.Decides.{nat_tests}
use Rattle.std.specs.List.{filter_map, list_all}
use Rattle.std.specs.Prelude.{fold, is_some, nat_lt, unwrap_or}
use Rattle.gx_ids.specs.declared.ids.Gxid.{Gxid}
use Rattle.gx_ids.specs.declared.ids.Node.{Node}
use Rattle.gx_detect.specs.Reports.{noted_from}
use Rattle.gx_detect.specs.Rounds.{are_all, collects, graphs_in}
use Rattle.gx_detect.specs.Verdicts.{verdict_of}
use Rattle.gx_dtx.specs.Table.{Table}
use Rattle.gx_locks.specs.Graphs.{graph_at}
use Rattle.gx_locks.specs.Locks.{Locks}
use Rattle.gx_msg.specs.declared.message.Envelope.{Envelope}
use Rattle.gx_msg.specs.declared.message.Message.{Message}
use Rattle.gx_msg.specs.declared.message.Message.TheVariants as message
use Rattle.gx_msg.specs.declared.message.Out.{Out}
use Rattle.gx_script.specs.declared.Script.{Script}
use Rattle.gx_store.specs.Refusals.{the_coordinator}
use Rattle.gx_store.specs.declared.event.Event.{Event}
use Rattle.gx_store.specs.declared.mark.Mark.{Mark}
use Rattle.gx_store.specs.declared.mark.Mark.TheVariants as mark
use Rattle.gx_store.specs.declared.run.Step.{Step}
use Rattle.gx_waits.specs.LocalGraph.{edges_of}
use Rattle.gx_waits.specs.declared.graph.LocalGraph.{LocalGraph}
use Rattle.gx_waits.specs.declared.verdict.Verdict.{Verdict}
use Rattle.gx_rules.specs.AtCoordinator.{and_cancels, and_cancels_all, awaited_collect, coord_sends, on_message, resends}
use Rattle.gx_rules.specs.AtSegment as segment
use Rattle.gx_rules.specs.AtSegment.{on_collect, reports, reports_again, seg_sends}
use Rattle.gx_rules.specs.Coordinators.{Coord, CoordTurn, rests}
use Rattle.gx_rules.specs.Machine.{Letter, World, coord_did, found, is_at, posted, seg_did, world_of}
use Rattle.gx_rules.specs.Rounds.{active_in, awaits_graph, is_report, noted_in, once_all, rechecks, verdict_at, victims_in, victims_on_message, victims_once_all, with_report}
use Rattle.gx_rules.specs.Segments.{Seg, SegTurn, stays}
use Rattle.gx_rules.specs.Sending.{counted, numbered}
use Rattle.gx_rules.proofs.Rounds.{collect-ways}
use Rattle.gx_law_order.proofs.Letters.{same_node}
use Rattle.gx_law_order.proofs.Ordered.{at-both}
use Rattle.gx_law_order.specs.Lists.{Each}
use Rattle.gx_law_order.specs.Standings.{at}
use Rattle.gx_law_locks.proofs.Silent.{NoSent}
use Rattle.gx_law_runs.specs.Reached.{IsReached}
use Rattle.gx_law_lone.specs.Frame.{IsCoordLeft, IsSegLeft}
use Rattle.gx_law_lone.specs.Victims.{HoldsUpOpenings, NamesOrGoesOn, NamesSomebody, is_of_none, verdict_in}

-- WHAT STAYS
-- the number of the round, and a segment's graph where it began
abbrev pub number : World → ℕ
number w0 = w0.coord.rounds + 1

abbrev pub graph_then : World → ℕ → LocalGraph
graph_then w0 i = graph_at (w0.segs i).locks

-- a message of the round, which tells that graph
abbrev pub ToldIn : World → Node → Message → Type 0
ToldIn w0 from (message.Collect round) = round ≡ number w0
ToldIn w0 from (message.Graph round graph) = (round ≡ number w0) × (graph ≡ graph_then w0 from.0)
ToldIn w0 from _ = ⊥

abbrev pub IsThat : World → ℕ → Option LocalGraph → Type 0
IsThat w0 k None = Unit {0}
IsThat w0 k (Some graph) = graph ≡ graph_then w0 k

-- the reports of the segments from a number on
abbrev pub AreFrom : World → ℕ → List (Option LocalGraph) → Type 0
AreFrom w0 k [] = Unit {0}
AreFrom w0 k (r ∷ rs) = IsThat w0 k r × AreFrom w0 (k + 1) rs

abbrev pub AreReported : Script → World → Option (List (Option LocalGraph)) → Type 0
AreReported script w0 None = ⊥
AreReported script w0 (Some rs) = (length rs ≡ script.segments) × AreFrom w0 1 rs

-- what a segment has kept of the round
abbrev pub IsKept : World → ℕ → Seg → Type 0
IsKept w0 i s = s.round ≡ number w0 → (graph : LocalGraph) → s.graph ≡ Some graph → graph ≡ graph_then w0 i

-- what was sent since
pub record AreMore (w0 : World) (base now : List Letter) : Type 0 where
  pub new : List Letter
  pub is : now ≡ new ++ base
  pub told : Each (λ l. ToldIn w0 l.from l.envelope.message) new

pub record IsInRound (script : Script) (lets : List Step → Event → Bool) (w0 w : World) : Type 0 where
  pub coord : IsCoordLeft w0.coord w.coord
  pub rounds : w.coord.rounds ≡ number w0
  pub reports : AreReported script w0 w.coord.reports
  pub segs : (i : ℕ) → IsSegLeft (w0.segs i) (w.segs i)
  pub kept : (i : ℕ) → 1 ≤ i → IsKept w0 i (w.segs i)
  pub letters : AreMore w0 w0.sent w.sent
  pub more : List Step
  pub steps : w.steps ≡ w0.steps ++ more
  pub same : (e : Event) → lets w.steps e ≡ lets w0.steps e

-- LETTERS
posted-more : (w0 : World) (base : List Letter) (from : Node) (clock : ℕ) (f : ℕ → ℕ) (outs : List Out) (now : List Letter) → Each (λ (o : Out). ToldIn w0 from o.message) outs → AreMore w0 base now → AreMore w0 base (posted from clock (numbered f outs) now)
posted-more w0 base from clock f [] now e m = m
posted-more w0 base from clock f (o ∷ outs) now e m =
    posted-more w0 base from clock (counted f o) outs _ e.1
    (record { new = record { from = from; to = o.node; envelope = record { number = f o.node.0 + 1; clock = clock; incarnation = 1; message = o.message } } ∷ m.new; is = ap (λ ls. record { from = from; to = o.node; envelope = record { number = f o.node.0 + 1; clock = clock; incarnation = 1; message = o.message } } ∷ ls) m.is; told = (e.0, m.told) })

pub all-more : (w0 : World) (base : List Letter) (from : Node) (clock : ℕ) (ms : List Mark) (f : ℕ → ℕ) (outs : List Out) (now : List Letter) → Each NoSent ms → Each (λ (o : Out). ToldIn w0 from o.message) outs → AreMore w0 base now → AreMore w0 base (posted from clock (ms ++ numbered f outs) now)
all-more w0 base from clock [] f outs now none e m = posted-more w0 base from clock f outs now e m
all-more w0 base from clock (mark.Sent to number told ∷ ms) f outs now none e m = absurd none.0
all-more w0 base from clock (x ∷ ms) f outs now none e m = all-more w0 base from clock ms f outs now none.1 e m

pub told-found : (w0 : World) (base new : List Letter) (from to : Node) (n : ℕ) (envelope : Envelope) → Each (λ (l : Letter). ToldIn w0 l.from l.envelope.message) new → found from to n (new ++ base) ≡ Some envelope
    → ToldIn w0 from envelope.message ⊎ (found from to n base ≡ Some envelope)
told-found w0 base [] from to n envelope e f = inr f
told-found w0 base (l ∷ ls) from to n envelope e f = by_test (is_at from to n l) refl f (told-found w0 base ls from to n envelope e.1)
  where
    same : (a b : Envelope) → Some a ≡ Some b → a ≡ b
    same a b q = cc

    by_test : (b : Bool) → is_at from to n l ≡ b → (if b then Some l.envelope else found from to n (ls ++ base)) ≡ Some envelope
        → (found from to n (ls ++ base) ≡ Some envelope → ToldIn w0 from envelope.message ⊎ (found from to n base ≡ Some envelope)) → ToldIn w0 from envelope.message ⊎ (found from to n base ≡ Some envelope)
    by_test true q g later = inl (subst (λ (x : Envelope). ToldIn w0 from x.message) (same l.envelope envelope g) (subst (λ (x : Node). ToldIn w0 x l.envelope.message) (same_node l.from from (and_parts (l.from.0 == from.0) _ q).0) e.0))
    by_test false q g later = later g

-- MARKS
none-numbered : (f : ℕ → ℕ) (outs : List Out) → list_all is_of_none (numbered f outs) ≡ true
none-numbered f [] = refl
none-numbered f (o ∷ outs) = none-numbered (counted f o) outs

pub none-sent : (ms : List Mark) (f : ℕ → ℕ) (outs : List Out) → list_all is_of_none ms ≡ true → list_all is_of_none (ms ++ numbered f outs) ≡ true
none-sent [] f outs e = none-numbered f outs
none-sent (x ∷ ms) f outs e = let a = and_parts (is_of_none x) (list_all is_of_none ms) e in and_from (is_of_none x) (list_all is_of_none (ms ++ numbered f outs)) a.0 (none-sent ms f outs a.1)

undecided : (ms : List Mark) → list_all is_of_none ms ≡ true → verdict_in ms ≡ None
undecided [] e = refl
undecided (x ∷ ms) e = by_mark x (and_parts (is_of_none x) (list_all is_of_none ms) e).0 (undecided ms (and_parts (is_of_none x) (list_all is_of_none ms) e).1)
  where
    by_mark : (m : Mark) → is_of_none m ≡ true → verdict_in ms ≡ None → verdict_in (m ∷ ms) ≡ None
    by_mark (mark.Recheck round own verdict) f g = absurd (cc)
    by_mark m f g = g

verdict-front : (ms more : List Mark) (v : Verdict) → verdict_in ms ≡ Some v → verdict_in (ms ++ more) ≡ Some v
verdict-front [] more v e = absurd (cc)
verdict-front (mark.Recheck round own verdict ∷ ms) more v e = e
verdict-front (m ∷ ms) more v e = verdict-front ms more v e

verdict-cancels : (victims : List Gxid) (turn : CoordTurn) (v : Verdict) → verdict_in turn.marks ≡ Some v → verdict_in (and_cancels_all victims turn).marks ≡ Some v
verdict-cancels [] turn v e = e
verdict-cancels (g ∷ gs) turn v e = verdict-cancels gs (and_cancels turn g) v (verdict-front turn.marks _ v e)

-- REPORTS
noted-length : (k : ℕ) (rs : List (Option LocalGraph)) (graph : LocalGraph) → length (noted_from k rs graph) ≡ length rs
noted-length k [] graph = refl
noted-length k (r ∷ rs) graph = ap suc (noted-length (k + 1) rs graph)

noted-that : (w0 : World) (k : ℕ) (rs : List (Option LocalGraph)) (graph : LocalGraph) → graph ≡ graph_then w0 graph.node.0 → AreFrom w0 k rs → AreFrom w0 k (noted_from k rs graph)
noted-that w0 k [] graph is e = tt
noted-that w0 k (r ∷ rs) graph is e = (by_test (graph.node.0 == k) refl, noted-that w0 (k + 1) rs graph is e.1)
  where
    by_report : graph ≡ graph_then w0 k → (o : Option LocalGraph) → IsThat w0 k o → unwrap_or o graph ≡ graph_then w0 k
    by_report q None h = q
    by_report q (Some x) h = h

    by_test : (b : Bool) → (graph.node.0 == k) ≡ b → IsThat w0 k (if b then Some (unwrap_or r graph) else r)
    by_test true q = by_report (is ∙ ap (graph_then w0) (eqb-true graph.node.0 k q)) r e.0
    by_test false q = e.0

-- WHAT A ROUND IS DECIDED OVER
-- the graphs of where it began give a verdict that names somebody
abbrev pub Decided : Script → World → Type 0
Decided script w0 =
    (rs : List (Option LocalGraph)) → length rs ≡ script.segments → AreFrom w0 1 rs → list_all is_some rs ≡ true
    → NamesSomebody (verdict_of (edges_of (graph_at w0.coord.locks ∷ filter_map (λ r. r) rs)) (active_in w0.coord.table))

module _ (script : Script) (lets : List Step → Event → Bool) (holds : HoldsUpOpenings script lets) (w0 : World) (decided : Decided script w0) (es : List (Event × Bool)) (r : IsInRound script lets w0 (world_of script es)) where
  abbrev w : World
  w = world_of script es

  reached : IsReached script (world_of script es).steps
  reached = record { events = es; is = refl }

  left-on : (c : Coord) → IsCoordLeft w.coord c → IsCoordLeft w0.coord c
  left-on c l = record { table = l.table ∙ r.coord.table; works = l.works ∙ r.coord.works; sessions = l.sessions ∙ r.coord.sessions; locks = l.locks ∙ r.coord.locks }

  -- A TURN OF THE COORDINATOR
  coord-on : (e : Event) (turn : CoordTurn) (clock : ℕ) → IsCoordLeft w.coord turn.coord → turn.coord.rounds ≡ w.coord.rounds → AreReported script w0 turn.coord.reports → turn.marks ≡ [] → Each (λ (o : Out). ToldIn w0 the_coordinator o.message) turn.outs
      → IsInRound script lets w0 (coord_did w e (coord_sends clock turn))
  coord-on e turn clock left rounds reports none told =
      let step : Step = record { stamp = record { clock = clock; node = the_coordinator }; event = e; marks = (coord_sends clock turn).marks } in
      let l = left-on turn.coord left in
      record {
        coord = record { table = l.table; works = l.works; sessions = l.sessions; locks = l.locks };
        rounds = rounds ∙ r.rounds;
        reports = reports;
        segs = r.segs;
        kept = r.kept;
        letters = all-more w0 w0.sent the_coordinator clock turn.marks turn.coord.sent turn.outs w.sent (subst (Each NoSent) (sym none) tt) told r.letters;
        more = r.more ++ step ∷ [];
        steps = ap (λ ss. ss ++ step ∷ []) r.steps ∙ append_assoc w0.steps r.more (step ∷ []);
        same = λ x. holds.lasting w.steps step x reached (none-sent turn.marks turn.coord.sent turn.outs (ap (list_all is_of_none) none)) ∙ r.same x;
      }

  abbrev pub Comes : Event → CoordTurn → Type 0
  Comes e turn = NamesOrGoesOn (verdict_in turn.marks) (IsInRound script lets w0 (coord_did w e turn))

  goes : (e : Event) (turn : CoordTurn) → verdict_in turn.marks ≡ None → IsInRound script lets w0 (coord_did w e turn) → Comes e turn
  goes e turn none k = subst (λ v. NamesOrGoesOn v (IsInRound script lets w0 (coord_did w e turn))) (sym none) k

  plain : (e : Event) (turn : CoordTurn) (clock : ℕ) → IsCoordLeft w.coord turn.coord → turn.coord.rounds ≡ w.coord.rounds → AreReported script w0 turn.coord.reports → turn.marks ≡ [] → Each (λ (o : Out). ToldIn w0 the_coordinator o.message) turn.outs
      → Comes e (coord_sends clock turn)
  plain e turn clock left rounds reports none told =
      goes e (coord_sends clock turn) (undecided (coord_sends clock turn).marks (none-sent turn.marks turn.coord.sent turn.outs (ap (list_all is_of_none) none))) (coord-on e turn clock left rounds reports none told)

  rest : (e : Event) (clock : ℕ) → Comes e (coord_sends clock (rests w.coord))
  rest e clock = plain e (rests w.coord) clock (record { table = refl; works = refl; sessions = refl; locks = refl }) refl r.reports refl tt

  -- a segment is asked again
  pub asks-again : (e : Event) (clock : ℕ) (i : Node) → Comes e (coord_sends clock (resends w.coord i (awaited_collect w.coord i)))
  asks-again e clock i = by_test (awaits_graph w.coord i)
    where
      by_test : (b : Bool) → Comes e (coord_sends clock (resends w.coord i (if b then Some (message.Collect w.coord.rounds) else None)))
      by_test true = plain e (resends w.coord i (Some (message.Collect w.coord.rounds))) clock (record { table = refl; works = refl; sessions = refl; locks = refl }) refl r.reports refl (r.rounds, tt)
      by_test false = rest e clock

  -- a graph comes
  module _ (e : Event) (clock : ℕ) (from : Node) (round : ℕ) (graph : LocalGraph) (is : graph ≡ graph_then w0 from.0) where
    abbrev c : Coord
    c = with_report (world_of script es).coord graph

    own : is_report w.coord from round graph ≡ true → graph ≡ graph_then w0 graph.node.0
    own q = is ∙ ap (graph_then w0) (sym (eqb-true graph.node.0 from.0 (and_parts (graph.node.0 == from.0) _ q).0))

    noted-on : graph ≡ graph_then w0 graph.node.0 → (o : Option (List (Option LocalGraph))) → AreReported script w0 o → AreReported script w0 (noted_in o graph)
    noted-on q None k = k
    noted-on q (Some rs) k = (noted-length 1 rs graph ∙ k.0, noted-that w0 1 rs graph q k.1)

    names : (o : Option (List (Option LocalGraph))) → AreReported script w0 o → are_all o ≡ true → NamesSomebody (verdict_of (edges_of (graph_at c.locks ∷ graphs_in o)) (active_in c.table))
    names None k a = absurd k
    names (Some rs) k a =
        subst (λ (l : Locks). NamesSomebody (verdict_of (edges_of (graph_at l ∷ filter_map (λ x. x) rs)) (active_in c.table))) (sym r.coord.locks)
        (subst (λ (t : Table). NamesSomebody (verdict_of (edges_of (graph_at w0.coord.locks ∷ filter_map (λ x. x) rs)) (active_in t))) (sym r.coord.table) (decided rs k.0 k.1 a))

    by_all : graph ≡ graph_then w0 graph.node.0 → (b : Bool) → are_all c.reports ≡ b → Comes e (and_cancels_all (if b then victims_in (verdict_at c) else []) (coord_sends clock (if b then rechecks c else rests c)))
    by_all q false a = plain e (rests c) clock (record { table = refl; works = refl; sessions = refl; locks = refl }) refl (noted-on q w.coord.reports r.reports) refl tt
    by_all q true a =
        let turn : CoordTurn = and_cancels_all (victims_in (verdict_at c)) (coord_sends clock (rechecks c)) in
        subst (λ v. NamesOrGoesOn v (IsInRound script lets w0 (coord_did w e turn))) (sym (verdict-cancels (victims_in (verdict_at c)) (coord_sends clock (rechecks c)) (verdict_at c) refl)) (names c.reports (noted-on q w.coord.reports r.reports) a)

    by_report : (b : Bool) → is_report w.coord from round graph ≡ b → Comes e (and_cancels_all (if b then victims_once_all c else []) (coord_sends clock (if b then once_all c else rests w.coord)))
    by_report true q = by_all (own q) (are_all c.reports) refl
    by_report false q = rest e clock

    graph-comes : Comes e (and_cancels_all (victims_on_message w.coord from (message.Graph round graph)) (coord_sends clock (on_message w.coord from false (message.Graph round graph))))
    graph-comes = by_report (is_report w.coord from round graph) refl

  pub message-comes : (e : Event) (clock : ℕ) (from : Node) (fails : Bool) (m : Message) → ToldIn w0 from m → Comes e (and_cancels_all (victims_on_message w.coord from m) (coord_sends clock (on_message w.coord from fails m)))
  message-comes e clock from fails (message.Collect round) t = rest e clock
  message-comes e clock from fails (message.Graph round graph) t = graph-comes e clock from round graph t.1
  message-comes e clock from fails message.Up t = rest e clock
  message-comes e clock from fails (message.Answer g x) t = absurd t
  message-comes e clock from fails (message.Exec g d level x h y) t = absurd t
  message-comes e clock from fails (message.Prepare g) t = absurd t
  message-comes e clock from fails (message.Commit g) t = absurd t
  message-comes e clock from fails (message.CommitPrepared g) t = absurd t
  message-comes e clock from fails (message.Abort g) t = absurd t
  message-comes e clock from fails (message.Forget g) t = absurd t

  -- A TURN OF A SEGMENT
  record Serves (i : ℕ) (turn : SegTurn) : Type 0 where
    left : IsSegLeft (w.segs i) turn.seg
    kept : IsKept w0 i turn.seg
    marks : list_all is_of_none turn.marks ≡ true
    sends : Each NoSent turn.marks
    told : Each (λ (o : Out). ToldIn w0 (at i) o.message) turn.outs

  seg-on : (e : Event) (i : ℕ) (turn : SegTurn) (clock : ℕ) → Serves i turn → IsInRound script lets w0 (seg_did w (at i) e (seg_sends clock turn))
  seg-on e i turn clock s =
      let step : Step = record { stamp = record { clock = clock; node = at i }; event = e; marks = (seg_sends clock turn).marks } in
      let l = s.left in
      let now : Seg = (seg_sends clock turn).seg in
      record {
        coord = r.coord;
        rounds = r.rounds;
        reports = r.reports;
        segs = at-both (λ j (x : Seg). IsSegLeft (w0.segs j) x) w.segs i now (record { horizon = l.horizon ∙ (r.segs i).horizon; locals = l.locals ∙ (r.segs i).locals; versions = l.versions ∙ (r.segs i).versions; locks = l.locks ∙ (r.segs i).locks }) (λ j differs. r.segs j);
        kept = at-both (λ j (x : Seg). 1 ≤ j → IsKept w0 j x) w.segs i now (λ one. s.kept) (λ j differs one. r.kept j one);
        letters = all-more w0 w0.sent (at i) clock turn.marks (λ node. turn.seg.sent) turn.outs w.sent s.sends s.told r.letters;
        more = r.more ++ step ∷ [];
        steps = ap (λ ss. ss ++ step ∷ []) r.steps ∙ append_assoc w0.steps r.more (step ∷ []);
        same = λ x. holds.lasting w.steps step x reached (none-sent turn.marks (λ node. turn.seg.sent) turn.outs s.marks) ∙ r.same x;
      }

  stay : (i : ℕ) → 1 ≤ i → Serves i (stays (w.segs i))
  stay i one = record { left = record { horizon = refl; locals = refl; versions = refl; locks = refl }; kept = r.kept i one; marks = refl; sends = tt; told = tt }

  some-same : (a b : LocalGraph) → Some a ≡ Some b → a ≡ b
  some-same a b q = cc

  collected : (i round : ℕ) → 1 ≤ i → round ≡ number w0 → Serves i (on_collect (w.segs i) round)
  collected i round one is =
      collect-ways (Serves i) (w.segs i) round (stay i one)
      (λ new. record {
        left = record { horizon = refl; locals = refl; versions = refl; locks = refl };
        kept = λ q graph f. sym (some-same (graph_at (w.segs i).locks) graph f) ∙ ap graph_at (r.segs i).locks;
        marks = refl;
        sends = (tt, tt);
        told = ((is, ap graph_at (r.segs i).locks), tt);
      })
      (λ same graph f. record { left = record { horizon = refl; locals = refl; versions = refl; locks = refl }; kept = r.kept i one; marks = refl; sends = tt; told = ((is, r.kept i one (eqb-true (w.segs i).round round same ∙ is) graph f), tt) })

  served : (i : ℕ) (one : 1 ≤ i) (from : Node) (fails : Bool) (m : Message) → ToldIn w0 from m → Serves i (segment.on_message script (w.segs i) fails m)
  served i one from fails (message.Collect round) t = collected i round one t
  served i one from fails (message.Graph round graph) t = stay i one
  served i one from fails message.Up t = stay i one
  served i one from fails (message.Answer g x) t = absurd t
  served i one from fails (message.Exec g d level x h y) t = absurd t
  served i one from fails (message.Prepare g) t = absurd t
  served i one from fails (message.Commit g) t = absurd t
  served i one from fails (message.CommitPrepared g) t = absurd t
  served i one from fails (message.Abort g) t = absurd t
  served i one from fails (message.Forget g) t = absurd t

  pub segment-goes : (e : Event) (i : ℕ) (one : 1 ≤ i) (clock : ℕ) (from : Node) (fails : Bool) (m : Message) → ToldIn w0 from m
      → NamesOrGoesOn (verdict_in (seg_sends clock (segment.on_message script (w.segs i) fails m)).marks) (IsInRound script lets w0 (seg_did w (at i) e (seg_sends clock (segment.on_message script (w.segs i) fails m))))
  segment-goes e i one clock from fails m t =
      let turn : SegTurn = segment.on_message script (w.segs i) fails m in
      let s = served i one from fails m t in
      subst (λ v. NamesOrGoesOn v (IsInRound script lets w0 (seg_did w (at i) e (seg_sends clock turn)))) (sym (undecided (seg_sends clock turn).marks (none-sent turn.marks (λ node. turn.seg.sent) turn.outs s.marks)))
      (seg-on e i turn clock s)
