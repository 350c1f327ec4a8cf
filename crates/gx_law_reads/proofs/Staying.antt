-- What a command sees at a node stays, whatever comes later.
use Rattle.std.proofs.Common.{◌≡◌, ◌≤◌, ℕ, zero, suc, List, [], ◌∷◌, ◌++◌, Option, Some, None, Bool, true, false, refl, sym, subst, ap, ◌∙◌, if◌then◌else◌, ◌==◌, ◌&&◌, ◌||◌, nat_lt, arith, eqb, append-nil}
use Rattle.std.proofs.lemmas.Bool.Decides.{nat_tests}
use Rattle.std.proofs.lemmas.List.{append_assoc}
use Rattle.std.specs.Prelude.{slice_get, take}
use Rattle.std.proofs.lemmas.Bool.{or_left}
use Rattle.gx_lemmas.proofs.Tests.{and-last, true-false}
use Rattle.gx_ids.specs.declared.ids.Cid.{Cid}
use Rattle.gx_ids.specs.declared.ids.Gxid.{Gxid}
use Rattle.gx_ids.specs.declared.ids.Node.{Node}
use Rattle.gx_ids.specs.declared.ids.Table.{Table}
use Rattle.gx_ids.specs.declared.rid.Rid.{Rid}
use Rattle.gx_tree.specs.declared.value.Value.{Value}
use Rattle.gx_script.specs.declared.Script.{Script}
use Rattle.gx_store.specs.declared.event.Event.{Event}
use Rattle.gx_store.specs.declared.mark.Mark.{Mark}
use Rattle.gx_store.specs.declared.mark.Mark.TheVariants as mark
use Rattle.gx_store.specs.declared.node.NodeEvent.{NodeEvent}
use Rattle.gx_store.specs.declared.run.Step.{Step}
use Rattle.gx_store.specs.Journals.{is_same_node}
use Rattle.gx_store.specs.Marks.{is_committed, is_same_gxid, is_same_rid}
use Rattle.gx_store.specs.Ordered.{IsSegment}
use Rattle.gx_store.specs.Points.{marks_in}
use Rattle.gx_store.specs.View.{image, image_after, is_shown_to}
use Rattle.gx_rules.specs.AtCoordinator as coordinator
use Rattle.gx_rules.specs.AtCoordinator.{coord_can, coord_sends, coord_turn}
use Rattle.gx_rules.specs.AtSegment.{on_event, seg_rule}
use Rattle.gx_rules.specs.Coordinators.{CoordTurn}
use Rattle.gx_rules.specs.Machine.{World, after, and_cancelled, coord_did, seg_did, world_of}
use Rattle.gx_rules.specs.Sending.{clock_after, numbered}
use Rattle.gx_law_order.specs.Moves.{Move, moved_by, world_by}
use Rattle.gx_law_order.proofs.Induction.{after_turn, marks-by-event, marks-by-victim}
use Rattle.gx_law_order.proofs.Lists.{each_append, each_weaker}
use Rattle.gx_law_order.specs.Lists.{Each}
use Rattle.gx_law_order.proofs.Moves.{HasNamed}
use Rattle.gx_law_order.proofs.Past.{committed-append}
use Rattle.gx_law_order.proofs.More.{marks-last}
use Rattle.gx_law_order.proofs.World.{Knows}
use Rattle.gx_law_order.specs.Standings.{at, gx}
use Rattle.gx_law_order.proofs.Always.{HeardAt, SaidTo}
use Rattle.gx_law_order.proofs.Counts.{NoPart, sent-no-part}
use Rattle.gx_law_order.proofs.Everywhere.{Holds, parts_in}
use Rattle.gx_law_order.proofs.Steps.{cancel-leads, event-leads, keeps-on, moves-keep-on}
use Rattle.gx_law_order.proofs.Ways.{Led}
use Rattle.gx_dtx.specs.Table.{horizon_of}
use Rattle.gx_law_reads.specs.Horizons.{HasRisen}
use Rattle.gx_law_reads.specs.Sights.{DoViewsStay, IsOnlyAt}
use Rattle.gx_law_reads.proofs.Low.{event-by, victim-by}
use Rattle.gx_law_reads.proofs.Ends.{Facts, MadeOf, NewMark, coord-facts, heard-made, last-late, moves-facts, no-part, seg-facts, victim-facts, world-facts}

take-kept : {A : Type 0} (xs ys : List A) (k : ℕ) (x : A) → slice_get xs k ≡ Some x → take k (xs ++ ys) ≡ take k xs
take-kept [] ys k x e = absurd (cc)
take-kept (y ∷ xs) ys zero x e = refl
take-kept (y ∷ xs) ys (suc k) x e = ap (λ zs. y ∷ zs) (take-kept xs ys k x e)

taken-whole : {A : Type 0} (k : ℕ) (xs : List A) → (ys : List A) × (xs ≡ take k xs ++ ys)
taken-whole zero xs = (xs, refl)
taken-whole (suc k) [] = ([], refl)
taken-whole (suc k) (x ∷ xs) = let r = taken-whole k xs in (r.0, ap (λ z. x ∷ z) r.1)

only-right : (node : Node) (rid : Rid) (xs ys : List Mark) → IsOnlyAt node rid (xs ++ ys) → IsOnlyAt node rid ys
only-right node rid [] ys o = o
only-right node rid (mark.Write g c n t r x ∷ xs) ys o = only-right node rid xs ys o.1
only-right node rid (m ∷ xs) ys o = only-right node rid xs ys o

module _ (node : Node) (g : Gxid) (c : Cid) (before : List Mark) where
  -- a write that the command isn't shown
  abbrev Unseen : Mark → Type 0
  Unseen (mark.Write h d n t r x) = is_same_node n node ≡ true → (is_committed before h ≡ false) × (is_same_gxid g h ≡ true → c.0 ≤ d.0)
  Unseen _ = Unit {0}

  unseen-image : (table : Table) (rid : Rid) (xs ys : List Mark) (start : Option (List Value)) → IsOnlyAt node rid ys → Each Unseen ys → image_after (is_shown_to (Some (g, c)) before) table rid start (xs ++ ys) ≡ image_after (is_shown_to (Some (g, c)) before) table rid start xs
  unseen-image table rid (mark.Write h d n t r x ∷ xs) ys start o e = unseen-image table rid xs ys _ o e
  unseen-image table rid (m ∷ xs) ys start o e = unseen-image table rid xs ys start o e
  unseen-image table rid [] ys start o e = alone ys o e
    where
      hidden : (a s : Bool) (m n : ℕ) → a ≡ false → (s ≡ true → m ≤ n) → (a || (s && nat_lt n m)) ≡ false
      hidden a s m n e f = by_same s refl
        where
          not-less : (m n : ℕ) → m ≤ n → nat_lt n m ≡ false
          not-less m n l = grind (arith, nat_tests)

          by_same : (b : Bool) → s ≡ b → (a || (s && nat_lt n m)) ≡ false
          by_same true q = none a s (nat_lt n m) e (not-less m n (f q))
            where
              none : (a s l : Bool) → a ≡ false → l ≡ false → (a || (s && l)) ≡ false
              none a s l e f = grind arith
          by_same false q = none a s (nat_lt n m) e q
            where
              none : (a s l : Bool) → a ≡ false → s ≡ false → (a || (s && l)) ≡ false
              none a s l e f = grind arith

      elsewhere : (a b : Bool) → (a ≡ true → b ≡ true) → b ≡ false → a ≡ false
      elsewhere a b f e = grind arith

      off-shown : (s t d : Bool) → s ≡ false → (s && (t && d)) ≡ false
      off-shown s t d e = grind arith

      alone : (ys : List Mark) → IsOnlyAt node rid ys → Each Unseen ys → image_after (is_shown_to (Some (g, c)) before) table rid start ys ≡ start
      alone [] o e = refl
      alone (mark.Write h d n t r x ∷ ys) o e =
          ap (λ b. image_after (is_shown_to (Some (g, c)) before) table rid (if b then x else start) ys) (by_node (is_same_node n node) refl)
          ∙ alone ys o.1 e.1
        where
          by_node : (b : Bool) → is_same_node n node ≡ b → (is_shown_to (Some (g, c)) before h d && ((t.0 == table.0) && is_same_rid r rid)) ≡ false
          by_node true q = off-shown (is_shown_to (Some (g, c)) before h d) (eqb t.0 table.0) (is_same_rid r rid) (let u = e.0 q in hidden (is_committed before h) (is_same_gxid g h) c.0 d.0 u.0 u.1)
          by_node false q = and-last (is_shown_to (Some (g, c)) before h d) (eqb t.0 table.0) (is_same_rid r rid) (elsewhere (is_same_rid r rid) (is_same_node n node) o.0 q)
      alone (m ∷ ys) o e = alone ys o e.1

-- FROM A WORLD ON
module _ (w0 : World) (node : Node) (g : Gxid) (c : Cid) (place : ℕ) where
  abbrev ms0 : List Mark
  ms0 = marks_in w0.steps

  abbrev Quiet : Mark → Type 0
  Quiet m = Unseen node g c (take place (marks_in w0.steps)) m

  record Stayed (w : World) : Type 0 where
    facts : Facts w
    more : List Mark
    are : marks_in w.steps ≡ marks_in w0.steps ++ more
    unseen : Each (λ m. Unseen node g c (take place (marks_in w0.steps)) m) more
    taken : c.0 ≤ ((w.segs node.0).locals g.0).last

  no-part-quiet : (m : Mark) → NoPart m → Quiet m
  no-part-quiet (mark.Write h d n t r x) e = absurd e
  no-part-quiet (mark.Start h s) e = tt
  no-part-quiet (mark.Snap h d x) e = tt
  no-part-quiet m e = tt

  -- who had committed before has committed
  still-committed : (w : World) → Stayed w → (h : Gxid) → is_committed (take place (marks_in w0.steps)) h ≡ true → is_committed (marks_in w.steps) h ≡ true
  still-committed w s h e =
      let r = taken-whole place (marks_in w0.steps) in
      ap (λ z. is_committed z h) (s.are ∙ ap (λ z. z ++ s.more) r.1) ∙ committed-append (take place (marks_in w0.steps) ++ r.0) s.more h
      ∙ or_left (is_committed (take place (marks_in w0.steps) ++ r.0) h) (is_committed s.more h) (committed-append (take place (marks_in w0.steps)) r.0 h ∙ or_left (is_committed (take place (marks_in w0.steps)) h) (is_committed r.0 h) e)

  new-quiet : (w : World) → Stayed w → (i its : ℕ) (m : Mark) → NewMark w i its m → Quiet m
  new-quiet w s i its (mark.Write h d n t r x) e = λ at_node. (not-committed (is_committed (take place (marks_in w0.steps)) h) refl, λ same. le-trans c.0 ((w.segs i).locals its).last d.0 (subst (λ j. c.0 ≤ ((w.segs j).locals its).last) (same-node n.0 node.0 i e.1 at_node) (subst (λ j. c.0 ≤ ((w.segs node.0).locals j).last) (same-gxid g.0 h.0 its same e.0) s.taken)) e.2)
    where
      same-node : (n m i : ℕ) → n ≡ i → eqb n m ≡ true → m ≡ i
      same-node n m i e f = grind (arith, nat_tests)

      same-gxid : (g h i : ℕ) → eqb g h ≡ true → h ≡ i → g ≡ i
      same-gxid g h i e f = grind (arith, nat_tests)

      le-trans : (a b c : ℕ) → a ≤ b → b ≤ c → a ≤ c
      le-trans a b c l m = omega arith

      not-committed : (b : Bool) → is_committed (take place (marks_in w0.steps)) h ≡ b → b ≡ false
      not-committed false q = refl
      not-committed true q = absurd (true-false (is_committed (marks_in w.steps) h) (still-committed w s h q) (ap (λ j. is_committed (marks_in w.steps) (gx j)) e.0 ∙ e.3))
  new-quiet w s i its (mark.Start h z) e = tt
  new-quiet w s i its m e = tt

  module _ (script : Script) (some : 1 ≤ script.segments) where
    turn-stays : (w : World) → Knows script w → Holds script w → Stayed w → (turn : CoordTurn) (clock : ℕ) (steps : List Step) → marks_in steps ≡ marks_in w.steps ++ (coord_sends clock turn).marks
        → Led script (parts_in w) w.coord (marks_in w.steps) turn → Facts (after_turn w clock turn steps) → Stayed (after_turn w clock turn steps)
    turn-stays w k v s turn clock steps all f facts =
        let ns : List Mark = (coord_sends clock turn).marks in
        record {
          facts = facts;
          more = s.more ++ ns;
          are = all ∙ ap (λ z. z ++ ns) s.are ∙ append_assoc (marks_in w0.steps) s.more ns;
          unseen = each_append Quiet s.more ns s.unseen (each_weaker NoPart Quiet no-part-quiet ns (no-part script w k v s.facts.lows s.facts.ends turn clock steps all f));
          taken = s.taken;
        }

    coord-stays : (w : World) → Knows script w → Holds script w → Stayed w → (e : Event) (x : NodeEvent) (fails : Bool) → coord_can script w.coord x ≡ true → SaidTo w x → Stayed (coord_did w e (coord_turn script w.coord x fails))
    coord-stays w k v s e x fails ok d =
        turn-stays w k v s (coordinator.on_event script w.coord x fails) (clock_after w.coord.clock x) (coord_did w e (coord_turn script w.coord x fails)).steps (marks-by-event script w e x fails)
        (event-leads script w k v x fails ok d) (coord-facts script some w k v s.facts e x fails ok d)

    victim-stays : (w : World) → Knows script w → Holds script w → Stayed w → (h : Gxid) → HasNamed w.steps w.coord.clock w.coord.rounds h → Stayed (and_cancelled w h)
    victim-stays w k v s h named =
        turn-stays w k v s (coordinator.cancels w.coord h) w.coord.clock (and_cancelled w h).steps (marks-by-victim w h named) (cancel-leads script w k v h) (victim-facts script some w k v s.facts h named)

    seg-stays : (w : World) → Knows script w → Holds script w → Stayed w → (e : Event) (x : NodeEvent) (fails : Bool) (i : ℕ) → IsSegment script (at i) → HeardAt script w e i x → Stayed (seg_did w (at i) e (seg_rule script (w.segs i) x fails))
    seg-stays w k v s e x fails i place2 h =
        record {
          facts = seg-facts script some w k v s.facts e x fails i place2 h;
          more = s.more ++ ns;
          are = marks-last w.steps step ∙ ap (λ z. z ++ ns) s.are ∙ append_assoc (marks_in w0.steps) s.more ns;
          unseen = each_append Quiet s.more ns s.unseen (each_append Quiet ms2 sent (each_weaker (NewMark w i d.txn) Quiet (new-quiet w s i d.txn) ms2 d.made.marks) (each_weaker NoPart Quiet no-part-quiet sent (sent-no-part (λ n. (on_event script (w.segs i) x fails).seg.sent) (on_event script (w.segs i) x fails).outs)));
          taken = le-trans c.0 _ _ s.taken (last-late script w s.facts.ends e x fails i d.txn d.made node.0 g.0);
        }
      where
        d : MadeOf w i (on_event script (w.segs i) x fails)
        d = heard-made script w k v s.facts.ends e x fails i h

        ms2 : List Mark
        ms2 = (on_event script (w.segs i) x fails).marks

        sent : List Mark
        sent = numbered (λ n. (on_event script (w.segs i) x fails).seg.sent) (on_event script (w.segs i) x fails).outs

        ns : List Mark
        ns = ms2 ++ sent

        step : Step
        step = record { stamp = record { clock = clock_after (w.segs i).clock x; node = at i }; event = e; marks = ns }

        le-trans : (a b c : ℕ) → a ≤ b → b ≤ c → a ≤ c
        le-trans a b c l m = omega arith

-- where marks have come that the command isn't shown
stayed-views : (w : World) (node : Node) (g : Gxid) (c : Cid) (place : ℕ) (m : Mark) (late : World) → Stayed w node g c place late → slice_get (marks_in w.steps) place ≡ Some m → (table : Table) (rid : Rid) → IsOnlyAt node rid (marks_in late.steps)
    → image (marks_in late.steps) (take place (marks_in late.steps)) (Some (g, c)) table rid ≡ image (marks_in w.steps) (take place (marks_in w.steps)) (Some (g, c)) table rid
stayed-views w node g c place m late s there table rid only =
    ap (λ z. image z (take place z) (Some (g, c)) table rid) s.are
    ∙ ap (λ z. image (marks_in w.steps ++ s.more) z (Some (g, c)) table rid) (take-kept (marks_in w.steps) s.more place m there)
    ∙ unseen-image node g c (take place (marks_in w.steps)) table rid (marks_in w.steps) s.more None (only-right node rid (marks_in w.steps) s.more (subst (IsOnlyAt node rid) s.are only)) s.unseen

module _ (script : Script) (some : 1 ≤ script.segments) where
  stayed-first : (w : World) (node : Node) (g : Gxid) (c : Cid) (place : ℕ) → Facts w → c.0 ≤ ((w.segs node.0).locals g.0).last → Stayed w node g c place w
  stayed-first w node g c place facts taken = record { facts = facts; more = []; are = sym (append-nil (marks_in w.steps)); unseen = tt; taken = taken }

  pub views-stay : (es later : List (Event × Bool)) → DoViewsStay (world_of script es) (after script (world_of script es) later)
  views-stay es later node g c place m table rid taken there only =
      let w : World = world_of script es in
      let s = keeps-on script some (Stayed w node g c place) (coord-stays w node g c place script some) (victim-stays w node g c place script some) (seg-stays w node g c place script some) es later (stayed-first w node g c place (world-facts script some es) taken) in
      stayed-views w node g c place m (after script w later) s there table rid only

  pub moved-views-stay : (done more : List Move) → DoViewsStay (world_by script done) (moved_by script (world_by script done) more)
  moved-views-stay done more node g c place m table rid taken there only =
      let w : World = world_by script done in
      let s = moves-keep-on script some (Stayed w node g c place) (coord-stays w node g c place script some) (victim-stays w node g c place script some) (seg-stays w node g c place script some) done more (stayed-first w node g c place (moves-facts script some done) taken) in
      stayed-views w node g c place m (moved_by script w more) s there table rid only

-- the horizon rises
record Risen (n : ℕ) (w : World) : Type 0 where
  facts : Facts w
  low : n ≤ (horizon_of w.coord.table).0

module _ (script : Script) (some : 1 ≤ script.segments) where
  pub has-risen : (es later : List (Event × Bool)) → HasRisen (world_of script es) (after script (world_of script es) later)
  has-risen es later =
      (keeps-on script some (Risen start) (λ w k v s e x fails ok d. record { facts = coord-facts script some w k v s.facts e x fails ok d; low = le-trans start _ _ s.low (event-by script w k v s.facts.lows x fails).went.low })
      (λ w k v s g h. record { facts = victim-facts script some w k v s.facts g h; low = le-trans start _ _ s.low (victim-by script w k v s.facts.lows g).went.low })
      (λ w k v s e x fails i place h. record { facts = seg-facts script some w k v s.facts e x fails i place h; low = s.low })
      es later (record { facts = world-facts script some es; low = le-refl start })).low
    where
      start : ℕ
      start = (horizon_of (world_of script es).coord.table).0

      le-trans : (a b c : ℕ) → a ≤ b → b ≤ c → a ≤ c
      le-trans a b c l m = omega arith

      le-refl : (a : ℕ) → a ≤ a
      le-refl a = omega arith
