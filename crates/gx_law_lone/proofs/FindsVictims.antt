-- Where a round began while nothing else was left to choose, each step does something of it up to its recheck, and that names victims.
use Rattle.std.proofs.Common.{◌≡◌, ◌≤◌, ◌<◌, ◌⊎◌, inl, inr, ℕ, zero, suc, ◌+◌, List, [], ◌∷◌, ◌++◌, Option, Some, None, Bool, true, false, not, refl, sym, subst, ap, ◌∙◌, if◌then◌else◌, ◌&&◌, ◌||◌, ◌==◌, arith, length, All, Contains, append_assoc, append-nil}
use Rattle.std.proofs.lemmas.List.{length-replicate}
use Rattle.std.proofs.lemmas.Bool.Decides.{nat_tests}
use Rattle.std.specs.List.{flat_map, list_all, list_any, range_with_len}
use Rattle.std.specs.Prelude.{map, nat_le, replicate}
use Rattle.gx_lemmas.proofs.Numbers.{eqb-self}
use Rattle.gx_lemmas.proofs.Tests.{or-cases, true-false}
use Rattle.gx_ids.specs.declared.ids.Node.{Node}
use Rattle.gx_detect.specs.Rounds.{collects}
use Rattle.gx_meaning.specs.Plan.{nodes_from}
use Rattle.gx_msg.specs.declared.message.Envelope.{Envelope}
use Rattle.gx_msg.specs.declared.message.Message.{Message}
use Rattle.gx_msg.specs.declared.message.Message.TheVariants as message
use Rattle.gx_msg.specs.declared.message.Out.{Out}
use Rattle.gx_script.specs.declared.Line.{Line}
use Rattle.gx_script.specs.declared.Script.{Script}
use Rattle.gx_store.specs.Language.{AreLinesNumbered}
use Rattle.gx_store.specs.Ordered.{IsSegment}
use Rattle.gx_store.specs.Refusals.{the_coordinator}
use Rattle.gx_store.specs.Schedule.{enabled, first_of, is_left, is_round, left_on, round_count, segments_of}
use Rattle.gx_store.specs.Whole.{AreInsertsWhole}
use Rattle.gx_store.specs.declared.event.Event.{Event}
use Rattle.gx_store.specs.declared.event.Event.TheVariants as event
use Rattle.gx_store.specs.declared.mark.Mark.{Mark}
use Rattle.gx_store.specs.declared.node.NodeEvent.{NodeEvent}
use Rattle.gx_store.specs.declared.node.NodeEvent.TheVariants as here
use Rattle.gx_store.specs.declared.run.Step.{Step}
use Rattle.gx_waits.proofs.Members.{Has, has_from_contains}
use Rattle.gx_waits.specs.declared.claim.Claim.{Claim}
use Rattle.gx_waits.specs.declared.graph.LocalGraph.{LocalGraph}
use Rattle.gx_waits.specs.declared.verdict.Verdict.{Verdict}
use Rattle.gx_rules.specs.AtCoordinator.{coord_can, coord_rule, coord_sends, is_segment}
use Rattle.gx_rules.specs.AtSegment.{seg_rule}
use Rattle.gx_rules.specs.Coordinators.{CoordTurn}
use Rattle.gx_rules.specs.Machine.{World, after, coord_did, found, happens, new_world, seg_can, seg_did, world_of}
use Rattle.gx_rules.specs.Rounds.{begins_round, can_begin}
use Rattle.gx_rules.specs.Segments.{Seg, SegTurn}
use Rattle.gx_rules.specs.Sending.{clock_after}
use Rattle.gx_law_order.proofs.Induction.{IsThere, happens-ways}
use Rattle.gx_law_order.proofs.Lists.{each_map}
use Rattle.gx_law_order.proofs.World.{world_knows}
use Rattle.gx_law_order.specs.Lists.{Each}
use Rattle.gx_law_order.specs.Standings.{at}
use Rattle.gx_law_locks.proofs.Claims.{each-of}
use Rattle.gx_law_locks.proofs.Rounded.{Rounded}
use Rattle.gx_law_locks.proofs.RoundsInRuns.{world-rounded}
use Rattle.gx_law_runs.proofs.Enabled.{all-segments, enabled-there}
use Rattle.gx_law_runs.proofs.Going.{four-parts, no-ends}
use Rattle.gx_law_runs.proofs.Leading.{after-last}
use Rattle.gx_law_runs.proofs.World.{world-letters}
use Rattle.gx_law_runs.specs.Awaiting.{locks_at}
use Rattle.gx_law_runs.specs.Enabled.{at_segment_by, ends_by, is_anybody_waiting, resends_due, resumes_by, rounds_by, starts_by}
use Rattle.gx_law_runs.specs.Links.{message_of}
use Rattle.gx_law_runs.specs.Openings.{is_round_or_opening}
use Rattle.gx_law_runs.specs.Reached.{IsReached}
use Rattle.gx_law_lone.specs.Victims.{AreLet, ComesToVictims, DoLoneRoundsFindVictims, HoldsUpOpenings, NamesOrGoesOn, NamesSomebody, is_message_of, is_of_round, let_in, verdict_in}
use Rattle.gx_law_lone.proofs.AllWait.{any-has}
use Rattle.gx_law_lone.proofs.Choices.{MayBe, but-openings, chosen-is, chosen-round, each-has, filter-has, not-left}
use Rattle.gx_law_lone.proofs.Decides.{decided-then}
use Rattle.gx_law_lone.proofs.InRound.{AreFrom, Decided, IsInRound, ToldIn, all-more, asks-again, message-comes, none-sent, number, segment-goes, told-found}

-- WHO WAITS
-- somebody waits at a node of the script
record HasWait (script : Script) (w : World) : Type 0 where
  node : Node
  within : node.0 ≤ script.segments
  wait : Claim
  among : Has wait (locks_at w node).waits

first-of : (xs : List Claim) → not (length xs == 0) ≡ true → (x : Claim) × Has x xs
first-of [] e = absurd (cc)
first-of (x ∷ xs) e = (x, inl refl)

anybody : (script : Script) (some : 1 ≤ script.segments) (es : List (Event × Bool)) → is_anybody_waiting script (world_of script es) ≡ true → HasWait script (world_of script es)
anybody script some es e = by_way (or-cases (not (length w.coord.locks.waits == 0)) (list_any (λ segment. not (length (w.segs segment.0).locks.waits == 0)) (segments_of script)) e)
  where
    w : World
    w = world_of script es

    least : (n : ℕ) → 0 ≤ n
    least n = omega arith

    away : (i n : ℕ) → (nat_le 1 i && nat_le i n) ≡ true → ((i == 0) ≡ false) × (i ≤ n)
    away i n e = (grind (arith, nat_tests), grind (arith, nat_tests))

    by_way : (not (length (world_of script es).coord.locks.waits == 0) ≡ true) ⊎ (list_any (λ segment. not (length ((world_of script es).segs segment.0).locks.waits == 0)) (segments_of script) ≡ true) → HasWait script (world_of script es)
    by_way (inl q) = let x = first-of w.coord.locks.waits q in record { node = the_coordinator; within = least script.segments; wait = x.0; among = x.1 }
    by_way (inr q) =
        let i = any-has (λ (segment : Node). not (length (w.segs segment.0).locks.waits == 0)) (segments_of script) q in
        let x = first-of (w.segs i.0.0).locks.waits i.2 in
        let a = away i.0.0 script.segments (each-has (λ (n : Node). is_segment script n ≡ true) (segments_of script) i.0 (all-segments script some es) i.1) in
        record { node = i.0; within = a.1; wait = x.0; among = subst (λ (b : Bool). Has x.0 (if b then w.coord.locks else (w.segs i.0.0).locks).waits) (sym a.0) x.1 }

-- ONE EVENT
-- it isn't admitted; or the coordinator does it; or a segment
record CoordCame (script : Script) (w : World) (e : Event) (fails : Bool) (v : World) : Type 0 where
  event : NodeEvent
  there : IsThere script w e the_coordinator event
  is : v ≡ coord_did w e (coord_rule script w.coord event fails)

record SegCame (script : Script) (w : World) (e : Event) (fails : Bool) (v : World) : Type 0 where
  node : ℕ
  one : 1 ≤ node
  event : NodeEvent
  there : IsThere script w e (at node) event
  can : seg_can script (w.segs node) event ≡ true
  is : v ≡ seg_did w (at node) e (seg_rule script (w.segs node) event fails)

abbrev Came : Script → World → Event → Bool → World → Type 0
Came script w e fails v = (v ≡ w) ⊎ CoordCame script w e fails v ⊎ SegCame script w e fails v

came : (script : Script) (some : 1 ≤ script.segments) (es : List (Event × Bool)) (e : Event) (fails : Bool) → Came script (world_of script es) e fails (happens script (world_of script es) e fails)
came script some es e fails =
    happens-ways script (world_of script es) (world_knows script some es).well e fails (Came script (world_of script es) e fails) (inl refl)
    (λ x t ok. inr (inl (record { event = x; there = t; is = refl }))) (λ x i place t ok. inr (inr (record { node = i; one = place.0; event = x; there = t; can = ok; is = refl })))

map-goes : (o : Option Verdict) {A B : Type 0} → (A → B) → NamesOrGoesOn o A → NamesOrGoesOn o B
map-goes None f a = f a
map-goes (Some v) f a = a

module _ (script : Script) (some : 1 ≤ script.segments) (numbered : AreLinesNumbered [] script.lines) (sessions : All (λ line. line.session.0 < length script.sessions) script.lines) (inserts : AreInsertsWhole script.tables script.lines)
    (lets : List Step → Event → Bool) (holds : HoldsUpOpenings script lets)
  where
    abbrev IsLone : List (Event × Bool) → Type 0
    IsLone es = (list_all is_round (let_in script lets (world_of script es).steps) ≡ true) × AreLet script lets [] (world_of script es).steps

    abbrev In : World → World → Type 0
    In w0 w = IsInRound script lets w0 w

    -- a step more that was let
    let-more : (before ss : List Step) (s : Step) → AreLet script lets before ss → Contains (let_in script lets (before ++ ss)) s.event → AreLet script lets before (ss ++ s ∷ [])
    let-more before [] s a c = (subst (λ xs. Contains (let_in script lets xs) s.event) (append-nil before) c, tt)
    let-more before (x ∷ ss) s a c = (a.0, let-more (before ++ x ∷ []) ss s a.1 (subst (λ xs. Contains (let_in script lets xs) s.event) (sym (append_assoc before (x ∷ []) ss)) c))

    -- THE ROUND BEGINS
    module _ (es : List (Event × Bool)) (lone : IsLone es) (round-there : Has event.Round (enabled script (world_of script es).steps)) where
      abbrev w : World
      w = world_of script es

      nothing : list_all (is_round_or_opening script (world_of script es).steps) (enabled script (world_of script es).steps) ≡ true
      nothing = but-openings script lets holds es lone.1 lone.0

      waits : is_anybody_waiting script (world_of script es) ≡ true
      waits = by_round (can_begin script w.coord) (is_anybody_waiting script w) last
        where
          four-then : List Event
          four-then =
              flat_map (λ segment. first_of (left_on script (world_of script es).steps segment the_coordinator)) (segments_of script)
              ++ flat_map (at_segment_by script (world_of script es)) (segments_of script)
              ++ resumes_by (world_of script es).coord the_coordinator (world_of script es).coord.locks
              ++ flat_map (resends_due script (world_of script es)) (segments_of script)

          no-start : (xs : List Line) → Has event.Round (map (λ (line : Line). event.Start line.session) xs) → ⊥
          no-start [] h = h
          no-start (x ∷ xs) (inl q) = absurd (cc)
          no-start (x ∷ xs) (inr h) = no-start xs h

          behind : (xs ys : List Event) → (Has event.Round xs → ⊥) → Has event.Round (xs ++ ys) → Has event.Round ys
          behind [] ys f h = h
          behind (x ∷ xs) ys f (inl q) = absurd (f (inl q))
          behind (x ∷ xs) ys f (inr h) = behind xs ys (λ k. f (inr k)) h

          none-of : (xs : List Event) → xs ≡ [] → Has event.Round xs → ⊥
          none-of [] e h = h
          none-of (x ∷ xs) e h = absurd (cc)

          last : Has event.Round (rounds_by script w)
          last =
              behind (four-then ++ starts_by script w.coord ++ ends_by script w.coord) (rounds_by script w)
              (λ h. none-of (ends_by script w.coord) (no-ends script some inserts es nothing)
              (behind (four-then ++ starts_by script w.coord) (ends_by script w.coord)
              (λ k. no-start _ (behind four-then (starts_by script w.coord) (none-of four-then (four-parts script some inserts es nothing)) k)) h))
              (subst (Has event.Round) (enabled-there script some es) round-there)

          by_round : (a b : Bool) → Has event.Round (if a && b then event.Round ∷ [] else []) → b ≡ true
          by_round true true h = refl
          by_round true false h = absurd h
          by_round false b h = absurd h

      pub decided : Decided script (world_of script es)
      decided = let x = anybody script some es waits in decided-then script some inserts es nothing numbered sessions x.node x.within x.wait x.among

    begun : (es : List (Event × Bool)) (fails : Bool) → In (world_of script es) (coord_did (world_of script es) event.Round (coord_rule script (world_of script es).coord here.Round fails))
    begun es fails =
        let w : World = world_of script es in
        let turn : CoordTurn = begins_round script w.coord in
        let clock : ℕ = clock_after w.coord.clock here.Round in
        let step : Step = record { stamp = record { clock = clock; node = the_coordinator }; event = event.Round; marks = (coord_sends clock turn).marks } in
        record {
          coord = record { table = refl; works = refl; sessions = refl; locks = refl };
          rounds = refl;
          reports = (size script.segments, none 1 script.segments);
          segs = λ i. record { horizon = refl; locals = refl; versions = refl; locks = refl };
          kept = λ i one q graph f. absurd (early i one q);
          letters = all-more w w.sent the_coordinator clock [] w.coord.sent turn.outs w.sent tt (each_map (λ (o : Out). ToldIn w the_coordinator o.message) _ (range_with_len 1 script.segments) (told (range_with_len 1 script.segments))) (record { new = []; is = refl; told = tt });
          more = step ∷ [];
          steps = refl;
          same = λ e. holds.lasting w.steps step e (record { events = es; is = refl }) (none-sent [] w.coord.sent turn.outs refl);
        }
      where
        size : (n : ℕ) → length (replicate n (let o : Option LocalGraph = None in o)) ≡ n
        size n = length-replicate n None

        none : (k n : ℕ) → AreFrom (world_of script es) k (replicate n None)
        none k zero = tt
        none k (suc n) = (tt, none (k + 1) n)

        told : (ks : List ℕ) → Each (λ (k : ℕ). (world_of script es).coord.rounds + 1 ≡ number (world_of script es)) ks
        told [] = tt
        told (k ∷ ks) = (refl, told ks)

        early : (i : ℕ) → 1 ≤ i → ((world_of script es).segs i).round ≡ number (world_of script es) → ⊥
        early i one q = below ((world_of script es).segs i).round (world_of script es).coord.rounds ((world-rounded script some es).segments i one).within q
          where
            below : (a n : ℕ) → a ≤ n → a ≡ n + 1 → ⊥
            below a n l e = omega arith

    -- WHILE IT RUNS
    module _ (es0 : List (Event × Bool)) (lone : IsLone es0) (decided0 : Decided script (world_of script es0)) (es : List (Event × Bool)) (r : In (world_of script es0) (world_of script es)) where
      abbrev w0 : World
      w0 = world_of script es0

      abbrev u : World
      u = world_of script es

      -- what comes is of the round
      told-here : (n from : Node) (e : Event) (envelope : Envelope) → MayBe script u.steps e → IsThere script u e n (here.Deliver from envelope) → ToldIn w0 from envelope.message
      told-here n from e envelope may t =
          by_way (told-found w0 w0.sent r.letters.new from n t.number envelope r.letters.told (subst (λ ls. found from n t.number ls ≡ Some envelope) r.letters.is t.found))
        where
          left : is_left script (world_of script es).steps from n t.number ≡ true
          left = subst (MayBe script (world_of script es).steps) t.event may

          by_way : ToldIn (world_of script es0) from envelope.message ⊎ (found from n t.number (world_of script es0).sent ≡ Some envelope) → ToldIn (world_of script es0) from envelope.message
          by_way (inl x) = x
          by_way (inr f) = absurd (true-false (is_left script (world_of script es).steps from n t.number) left (not-left script some inserts lets holds es0 lone.1 lone.0 es r from n t.number envelope t.link f))

      of-round : (n from : Node) (e : Event) (envelope : Envelope) → IsThere script u e n (here.Deliver from envelope) → ToldIn w0 from envelope.message → is_of_round u.steps e ≡ true
      of-round n from e envelope t told =
          ap (is_of_round u.steps) t.event
          ∙ ap (is_message_of (round_count u.steps)) ((world-letters script some es from n t.number).message ∙ ap message_of t.found)
          ∙ ap (λ k. is_message_of k (Some envelope.message)) (sym (world-rounded script some es).coord.rounds ∙ r.rounds)
          ∙ by_message envelope.message told
        where
          by_message : (m : Message) → ToldIn (world_of script es0) from m → is_message_of (number (world_of script es0)) (Some m) ≡ true
          by_message (message.Collect round) q = ap (λ k. k == number (world_of script es0)) q ∙ eqb-self (number (world_of script es0))
          by_message (message.Graph round graph) q = ap (λ k. k == number (world_of script es0)) q.0 ∙ eqb-self (number (world_of script es0))
          by_message message.Up q = absurd q
          by_message (message.Answer g x) q = absurd q
          by_message (message.Exec g d level x h y) q = absurd q
          by_message (message.Prepare g) q = absurd q
          by_message (message.Commit g) q = absurd q
          by_message (message.CommitPrepared g) q = absurd q
          by_message (message.Abort g) q = absurd q
          by_message (message.Forget g) q = absurd q

      abbrev Goes : Event → List Mark → World → Type 0
      Goes e marks v = (is_of_round (world_of script es).steps e ≡ true) × NamesOrGoesOn (verdict_in marks) (In (world_of script es0) v)

      coord-goes : (e : Event) (fails : Bool) (x : NodeEvent) → MayBe script (world_of script es).steps e → IsThere script (world_of script es) e the_coordinator x → Goes e (coord_rule script (world_of script es).coord x fails).marks (coord_did (world_of script es) e (coord_rule script (world_of script es).coord x fails))
      coord-goes e fails (here.Deliver from envelope) may t =
          let told = told-here the_coordinator from e envelope may t in
          (of-round the_coordinator from e envelope t told, message-comes script lets holds w0 decided0 es r e (clock_after u.coord.clock (here.Deliver from envelope)) from fails envelope.message told)
      coord-goes e fails (here.Resend i None) may t = (ap (is_of_round u.steps) t, asks-again script lets holds w0 decided0 es r e (clock_after u.coord.clock (here.Resend i None)) i)
      coord-goes e fails (here.Resend i (Some g)) may t = absurd (subst (MayBe script u.steps) t may)
      coord-goes e fails (here.Resume g) may t = absurd (subst (MayBe script u.steps) t may)
      coord-goes e fails (here.Start s) may t = absurd (subst (MayBe script u.steps) t may)
      coord-goes e fails (here.End s) may t = absurd (subst (MayBe script u.steps) t may)
      coord-goes e fails here.Round may t = absurd (subst (MayBe script u.steps) t may)

      seg-goes : (e : Event) (fails : Bool) (i : ℕ) (one : 1 ≤ i) (x : NodeEvent) → MayBe script (world_of script es).steps e → IsThere script (world_of script es) e (at i) x → seg_can script ((world_of script es).segs i) x ≡ true
          → Goes e (seg_rule script ((world_of script es).segs i) x fails).marks (seg_did (world_of script es) (at i) e (seg_rule script ((world_of script es).segs i) x fails))
      seg-goes e fails i one (here.Deliver from envelope) may t ok =
          let told = told-here (at i) from e envelope may t in
          (of-round (at i) from e envelope t told, segment-goes script lets holds w0 decided0 es r e i one (clock_after (u.segs i).clock (here.Deliver from envelope)) from fails envelope.message told)
      seg-goes e fails i one (here.Resume g) may t ok = absurd (subst (MayBe script u.steps) t may)
      seg-goes e fails i one (here.Resend j g) may t ok = absurd (cc)
      seg-goes e fails i one (here.Start s) may t ok = absurd (cc)
      seg-goes e fails i one (here.End s) may t ok = absurd (cc)
      seg-goes e fails i one here.Round may t ok = absurd (cc)

    -- AN EVENT MORE
    -- of a world and of what comes behind it
    record Finds (w : World) (later : List Step) : Type 0 where
      lone : AreLet script lets [] w.steps → AreLet script lets w.steps later → DoLoneRoundsFindVictims script lets w.steps later
      runs : (es0 : List (Event × Bool)) → IsLone es0 → Decided script (world_of script es0) → In (world_of script es0) w → AreLet script lets w.steps later → ComesToVictims w.steps later

    module _ (es : List (Event × Bool)) (e : Event) (fails : Bool) (later : List Step) where
      abbrev o : World
      o = world_of script es

      round-begins : IsLone es → Contains (let_in script lets o.steps) e → e ≡ event.Round
      round-begins lone c = chosen-round script lets holds es lone.1 lone.0 e c

      round-enabled : IsLone es → Contains (let_in script lets o.steps) e → Has event.Round (enabled script o.steps)
      round-enabled lone c = subst (λ x. Has x (enabled script o.steps)) (round-begins lone c) (filter-has (lets o.steps) (enabled script o.steps) e (has_from_contains e (let_in script lets o.steps) c)).0

      coord-finds : (x : NodeEvent) → IsThere script o e the_coordinator x → Finds (coord_did o e (coord_rule script o.coord x fails)) later
          → Finds o (record { stamp = record { clock = (coord_rule script o.coord x fails).coord.clock; node = the_coordinator }; event = e; marks = (coord_rule script o.coord x fails).marks } ∷ later)
      coord-finds x t f =
          record {
            lone = λ p a. (λ l. f.runs es (l, p) (decided es (l, p) (round-enabled (l, p) a.0)) (began (l, p) a.0) a.1, f.lone (let-more [] o.steps _ p a.0) a.1);
            runs = λ es0 lone dec r a.
                let g = coord-goes es0 lone dec es r e fails x (chosen-is script some inserts lets holds es0 lone.1 lone.0 es r e a.0) t in
                (g.0, map-goes (verdict_in (coord_rule script o.coord x fails).marks) (λ q. f.runs es0 lone dec q a.1) g.1);
          }
        where
          by_event : (y : NodeEvent) → IsThere script o event.Round the_coordinator y → In o (coord_did o event.Round (coord_rule script o.coord y fails))
          by_event here.Round q = begun es fails
          by_event (here.Deliver from envelope) q = let k : event.Round ≡ event.Receive from the_coordinator q.number = q.event in absurd (cc)
          by_event (here.Resume g) q = absurd (cc)
          by_event (here.Start s) q = absurd (cc)
          by_event (here.End s) q = absurd (cc)
          by_event (here.Resend i g) q = absurd (cc)

          began : IsLone es → Contains (let_in script lets o.steps) e → In o (coord_did o e (coord_rule script o.coord x fails))
          began lone c =
              let is = round-begins lone c in
              subst (λ y. In o (coord_did o y (coord_rule script o.coord x fails))) (sym is) (by_event x (subst (λ y. IsThere script o y the_coordinator x) is t))

      seg-finds : (i : ℕ) (one : 1 ≤ i) (x : NodeEvent) → IsThere script o e (at i) x → seg_can script (o.segs i) x ≡ true → Finds (seg_did o (at i) e (seg_rule script (o.segs i) x fails)) later
          → Finds o (record { stamp = record { clock = (seg_rule script (o.segs i) x fails).seg.clock; node = at i }; event = e; marks = (seg_rule script (o.segs i) x fails).marks } ∷ later)
      seg-finds i one x t ok f =
          record {
            lone = λ p a. (λ l. absurd (never (l, p) a.0), f.lone (let-more [] o.steps _ p a.0) a.1);
            runs = λ es0 lone dec r a.
                let g = seg-goes es0 lone dec es r e fails i one x (chosen-is script some inserts lets holds es0 lone.1 lone.0 es r e a.0) t ok in
                (g.0, map-goes (verdict_in (seg_rule script (o.segs i) x fails).marks) (λ q. f.runs es0 lone dec q a.1) g.1);
          }
        where
          by_event : (y : NodeEvent) → IsThere script o event.Round (at i) y → seg_can script (o.segs i) y ≡ true → ⊥
          by_event here.Round q k = absurd (cc)
          by_event (here.Deliver from envelope) q k = let p : event.Round ≡ event.Receive from (at i) q.number = q.event in absurd (cc)
          by_event (here.Resume g) q k = absurd (cc)
          by_event (here.Start s) q k = absurd (cc)
          by_event (here.End s) q k = absurd (cc)
          by_event (here.Resend j g) q k = absurd (cc)

          never : IsLone es → Contains (let_in script lets o.steps) e → ⊥
          never lone c = by_event x (subst (λ y. IsThere script o y (at i) x) (round-begins lone c) t) ok

    -- ALL THAT COME
    record Ahead (w : World) (rest : List (Event × Bool)) : Type 0 where
      later : List Step
      steps : (after script w rest).steps ≡ w.steps ++ later
      finds : Finds w later

    next-ahead : (es : List (Event × Bool)) (e : Event) (fails : Bool) (rest : List (Event × Bool)) (v : World) → Came script (world_of script es) e fails v → Ahead v rest
        → (later : List Step) × ((after script v rest).steps ≡ (world_of script es).steps ++ later) × Finds (world_of script es) later
    next-ahead es e fails rest v (inl q) a = (a.later, a.steps ∙ ap (λ (x : World). x.steps ++ a.later) q, subst (λ x. Finds x a.later) q a.finds)
    next-ahead es e fails rest v (inr (inl q)) a =
        let step : Step = record { stamp = record { clock = (coord_rule script (world_of script es).coord q.event fails).coord.clock; node = the_coordinator }; event = e; marks = (coord_rule script (world_of script es).coord q.event fails).marks } in
        (step ∷ a.later, a.steps ∙ ap (λ (x : World). x.steps ++ a.later) q.is ∙ append_assoc (world_of script es).steps (step ∷ []) a.later, coord-finds es e fails a.later q.event q.there (subst (λ x. Finds x a.later) q.is a.finds))
    next-ahead es e fails rest v (inr (inr q)) a =
        let step : Step = record { stamp = record { clock = (seg_rule script ((world_of script es).segs q.node) q.event fails).seg.clock; node = at q.node }; event = e; marks = (seg_rule script ((world_of script es).segs q.node) q.event fails).marks } in
        (step ∷ a.later, a.steps ∙ ap (λ (x : World). x.steps ++ a.later) q.is ∙ append_assoc (world_of script es).steps (step ∷ []) a.later, seg-finds es e fails a.later q.node q.one q.event q.there q.can (subst (λ x. Finds x a.later) q.is a.finds))

    ahead : (rest es : List (Event × Bool)) → Ahead (world_of script es) rest
    ahead [] es = record { later = []; steps = sym (append-nil (world_of script es).steps); finds = record { lone = λ p a. tt; runs = λ es0 lone dec r a. tt } }
    ahead (x ∷ rest) es =
        let n = next-ahead es x.0 x.1 rest (happens script (world_of script es) x.0 x.1) (came script some es x.0 x.1) (subst (λ w. Ahead w rest) (after-last script new_world es x) (ahead rest (es ++ x ∷ []))) in
        record { later = n.0; steps = n.1; finds = n.2 }

    pub find-victims : (steps : List Step) → IsReached script steps → AreLet script lets [] steps → DoLoneRoundsFindVictims script lets [] steps
    find-victims steps is a =
        let x = ahead is.events [] in
        let same : steps ≡ x.later = sym is.is ∙ x.steps in
        subst (DoLoneRoundsFindVictims script lets []) (sym same) (x.finds.lone tt (subst (AreLet script lets []) same a))
