-- What counts for a reader at a segment is what the marks before its point say.
use Rattle.std.proofs.Common.{◌≡◌, ◌≤◌, ℕ, ◌+◌, zero, suc, List, [], ◌∷◌, ◌++◌, Option, Some, None, Bool, true, false, refl, sym, subst, ap, ◌∙◌, ◌==◌, ◌&&◌, ◌||◌, nat_lt, arith, eqb, append-nil}
use Rattle.std.proofs.lemmas.Bool.Decides.{nat_tests}
use Rattle.std.proofs.lemmas.List.{append_assoc}
use Rattle.std.specs.Prelude.{filter, slice_get, take}
use Rattle.std.proofs.lemmas.Bool.{and_from, or_left}
use Rattle.gx_lemmas.proofs.Tests.{or-other, true-false}
use Rattle.gx_ids.specs.declared.ids.Cid.{Cid}
use Rattle.gx_ids.specs.declared.ids.Gxid.{Gxid}
use Rattle.gx_ids.specs.declared.ids.Node.{Node}
use Rattle.gx_ids.specs.declared.ids.Table.{Table}
use Rattle.gx_ids.specs.declared.rid.Rid.{Rid}
use Rattle.gx_dsnap.specs.Gxids.{is_below}
use Rattle.gx_dsnap.specs.Snapshot.{sees}
use Rattle.gx_dsnap.specs.declared.snapshot.Snapshot.{Snapshot}
use Rattle.gx_dtx.specs.Table.{horizon_of, xmin_of}
use Rattle.gx_msg.specs.declared.message.Message.{Message}
use Rattle.gx_msg.specs.declared.message.Message.TheVariants as message
use Rattle.gx_script.specs.declared.Script.{Script}
use Rattle.gx_store.specs.declared.event.Event.{Event}
use Rattle.gx_store.specs.declared.mark.Mark.{Mark}
use Rattle.gx_store.specs.declared.mark.Mark.TheVariants as mark
use Rattle.gx_store.specs.Marks.{is_aborted, is_committed, is_same_gxid}
use Rattle.gx_store.specs.Points.{marks_in}
use Rattle.gx_store.specs.Protocol.{is_writer}
use Rattle.gx_store.specs.Rows.{row_at}
use Rattle.gx_store.specs.View.{AreFinalFrom, image, is_shown_to}
use Rattle.std.specs.declared.alloc.Global.{Global}
use Rattle.std.specs.declared.vec.Vec.{Vec}
use Rattle.gx_tree.specs.declared.row.KeyedRow.{KeyedRow}
use Rattle.gx_rules.specs.AtSegment.{raised}
use Rattle.gx_rules.specs.Machine.{Letter, World, world_of}
use Rattle.gx_rules.specs.Segments.{Version, has_committed}
use Rattle.gx_rules.specs.Shown.{counts, last_images, rows_in, shown}
use Rattle.gx_rules.specs.Snapshots.{snapshot_of}
use Rattle.gx_law_order.specs.Seen.{AreEndedSeen, SeesEnded}
use Rattle.gx_law_order.proofs.Journals.{Hold, world-hold}
use Rattle.gx_law_order.proofs.Lists.{each_weaker}
use Rattle.gx_law_order.proofs.Past.{aborted-append, committed-append, seen-now}
use Rattle.gx_law_order.proofs.SegItems.{writes_at}
use Rattle.gx_law_order.proofs.World.{Knows, world_knows}
use Rattle.gx_law_order.specs.Standings.{at}
use Rattle.gx_law_order.proofs.Always.{world-holds}
use Rattle.gx_law_order.proofs.Everywhere.{Holds}
use Rattle.gx_rules.specs.Last.{last_image, row_of}
use Rattle.gx_rules.proofs.KeptImages.{image_in-last_images, in_order-last_images}
use Rattle.gx_rules.proofs.ShownRows.{rising-rows_in, row_at-rows_in}
use Rattle.gx_law_reads.specs.Horizons.{IsNobodyDropped, IsSeenBelow}
use Rattle.gx_law_reads.specs.Sights.{AreAtHome, AreRowsOfAll, AreShownViews, DoesEndAt, IsOnlyAt, IsShownView, ShowsCommitted, counts_for_all}
use Rattle.gx_law_reads.proofs.Ends.{Ends, Facts, world-facts}
use Rattle.gx_law_reads.proofs.Held.{held-now, horizon-xmin}
use Rattle.gx_law_reads.proofs.Images.{row-is, versions-written}
use Rattle.gx_law_reads.proofs.Below.{low-seen, nobody-dropped}
use Rattle.gx_law_reads.proofs.Low.{latest}

-- a snapshot at its place
seen-at : (before ms : List Mark) (k : ℕ) (g : Gxid) (d : Cid) (x : Snapshot) → AreEndedSeen before ms → slice_get ms k ≡ Some (mark.Snap g d x) → SeesEnded (before ++ take k ms) x
seen-at before [] k g d x e f = absurd (cc)
seen-at before (mark.Snap h c y ∷ ms) zero g d x e f = subst (SeesEnded (before ++ [])) (same y x f) (subst (λ b. SeesEnded b y) (sym (append-nil before)) e.0)
  where
    same : (y x : Snapshot) → (let o : Option Mark = Some (mark.Snap h c y) in o) ≡ Some (mark.Snap g d x) → y ≡ x
    same y x f = let t : (h ≡ g) × (c ≡ d) × (y ≡ x) = (cc, cc, cc) in t.2
seen-at before (mark.Snap h c y ∷ ms) (suc k) g d x e f = subst (λ b. SeesEnded b x) (append_assoc before (mark.Snap h c y ∷ []) (take k ms)) (seen-at (before ++ mark.Snap h c y ∷ []) ms k g d x e.1 f)
seen-at before (m ∷ ms) zero g d x e f = absurd (cc)
seen-at before (m ∷ ms) (suc k) g d x e f = subst (λ b. SeesEnded b x) (append_assoc before (m ∷ []) (take k ms)) (seen-at (before ++ m ∷ []) ms k g d x e f)

take-rest : {A : Type 0} (k : ℕ) (xs : List A) → (ys : List A) × (xs ≡ take k xs ++ ys)
take-rest zero xs = (xs, refl)
take-rest (suc k) [] = ([], refl)
take-rest (suc k) (x ∷ xs) = let r = take-rest k xs in (r.0, ap (λ z. x ∷ z) r.1)

-- WHO COUNTS
module _ (w : World) (q : Ends w) (i : ℕ) (before : List Mark) (x : Snapshot) (seen : SeesEnded before x) (committed-later : (h : Gxid) → is_committed before h ≡ true → is_committed (marks_in w.steps) h ≡ true) (aborted-later : (h : Gxid) → is_aborted before h ≡ true → is_aborted (marks_in w.steps) h ≡ true) where
  counts-is : (h : Gxid) → is_writer (marks_in w.steps) h (at i) ≡ true → (has_committed ((w.segs i).locals h.0).phase && sees x h) ≡ is_committed before h
  counts-is h wrote = by_committed (is_committed before h) refl
    where
      neither : (a b : Bool) → (a ≡ true → b ≡ true → ⊥) → (a && b) ≡ false
      neither true true f = absurd (f refl refl)
      neither true false f = refl
      neither false b f = refl

      by_committed : (b : Bool) → is_committed before h ≡ b → (has_committed ((w.segs i).locals h.0).phase && sees x h) ≡ b
      by_committed true e = and_from (has_committed ((w.segs i).locals h.0).phase) (sees x h) ((q.ended i h.0).committed (committed-later h e) ∙ wrote) (seen.committed h e)
      by_committed false e =
          neither (has_committed ((w.segs i).locals h.0).phase) (sees x h)
          (λ c s. true-false (has_committed ((w.segs i).locals h.0).phase) c ((q.ended i h.0).aborted (aborted-later h (or-other (is_committed before h) (is_aborted before h) e (seen.ended h (q.drawn i h.0 wrote) s)))))

-- THE ROWS
shown-row : (vs : List Version) (rid : Rid) → row_at (rows_in (last_images vs)) rid ≡ row_of (last_image rid vs)
shown-row vs rid = row_at-rows_in (last_images vs) rid (in_order-last_images vs) ∙ ap row_of (image_in-last_images vs rid)

module _ (script : Script) (w : World) (k : Knows script w) (v : Holds script w) (f : Facts w) (hold : Hold w) where
  abbrev ms : List Mark
  ms = marks_in w.steps

  pub ends-at : (node : Node) (g : Gxid) → DoesEndAt w node g
  ends-at node g = record { committed = (f.ends.ended node.0 g.0).committed; aborted = (f.ends.ended node.0 g.0).aborted }

  -- to nobody's transaction
  module _ (node : Node) (one : 1 ≤ node.0) (table : Table) where
    abbrev x : Snapshot
    x = snapshot_of w.coord.table

    below-seen : (h : Gxid) → 1 ≤ h.0 → (is_below (w.segs node.0).horizon h || sees x h) ≡ sees x h
    below-seen = low-seen script w k v f (w.segs node.0).horizon x (xmin_of w.coord.table).0 (le-trans (w.segs node.0).horizon.0 (horizon_of w.coord.table).0 (xmin_of w.coord.table).0 (f.lows.segs node.0) (horizon-xmin w.coord.table (latest script w k))) (held-now w.coord.table f.lows.stood.sorted)
      where
        le-trans : (a b c : ℕ) → a ≤ b → b ≤ c → a ≤ c
        le-trans a b c l m = omega arith

    all-count : (h : Gxid) → is_writer ms h node ≡ true → (has_committed ((w.segs node.0).locals h.0).phase && (is_below (w.segs node.0).horizon h || sees x h)) ≡ is_committed ms h
    all-count h e =
        ap (λ b. has_committed ((w.segs node.0).locals h.0).phase && b) (below-seen h (f.ends.drawn node.0 h.0 e))
        ∙ counts-is w f.ends node.0 ms x (seen-now w.coord ms k.past) (λ h c. c) (λ h c. c) h e

    shows-committed : ShowsCommitted w node table
    shows-committed =
        record {
          rising = rising-rows_in _ (in_order-last_images (filter (λ (y : Version). (y.table.0 == table.0) && counts_for_all (w.segs node.0) x y) (w.segs node.0).versions));
          images = λ rid only. shown-row (filter (λ (y : Version). (y.table.0 == table.0) && counts_for_all (w.segs node.0) x y) (w.segs node.0).versions) rid
              ∙ ap (λ ys. row_of (last_image rid (filter (λ (y : Version). (y.table.0 == table.0) && counts_for_all (w.segs node.0) x y) ys))) (hold node.0 one).versions
              ∙ row-is node table rid (counts_for_all (w.segs node.0) x) (is_shown_to None ms) ms only (each_weaker (λ (y : Version). is_writer ms y.gxid node ≡ true) (λ (y : Version). counts_for_all (w.segs node.0) x y ≡ is_shown_to None ms y.gxid y.cid) (λ y e. all-count y.gxid e) (writes_at node ms) (versions-written node ms));
        }

  -- to a command
  module _ (node : Node) (one : 1 ≤ node.0) (g : Gxid) (c : Cid) (x : Snapshot) (horizon : Gxid) (below : (h : Gxid) → 1 ≤ h.0 → (is_below (raised (w.segs node.0) horizon).horizon h || sees x h) ≡ sees x h) (place : ℕ) (d : Cid) (taken : slice_get (marks_in w.steps) place ≡ Some (mark.Snap g d x)) where
    abbrev before : List Mark
    before = take place ms

    rest : (ys : List Mark) × (ms ≡ take place ms ++ ys)
    rest = take-rest place ms

    committed-later : (h : Gxid) → is_committed (take place ms) h ≡ true → is_committed ms h ≡ true
    committed-later h e = ap (λ z. is_committed z h) rest.1 ∙ committed-append (take place ms) rest.0 h ∙ or_left (is_committed (take place ms) h) (is_committed rest.0 h) e

    aborted-later : (h : Gxid) → is_aborted (take place ms) h ≡ true → is_aborted ms h ≡ true
    aborted-later h e = ap (λ z. is_aborted z h) rest.1 ∙ aborted-append (take place ms) rest.0 h ∙ or_left (is_aborted (take place ms) h) (is_aborted rest.0 h) e

    -- who counts for the command is who is shown to it
    pub one-counts : (y : Version) → is_writer ms y.gxid node ≡ true → counts (raised (w.segs node.0) horizon) x g c y ≡ is_shown_to (Some (g, c)) (take place ms) y.gxid y.cid
    one-counts y e =
        ap (λ b. (is_same_gxid y.gxid g && nat_lt y.cid.0 c.0) || (has_committed ((w.segs node.0).locals y.gxid.0).phase && b)) (below y.gxid (f.ends.drawn node.0 y.gxid.0 e))
        ∙ ap (λ b. (is_same_gxid y.gxid g && nat_lt y.cid.0 c.0) || b) (counts-is w f.ends node.0 (take place ms) x (seen-at [] ms place g d x k.seen taken) committed-later aborted-later y.gxid e)
        ∙ swap y.gxid.0 g.0 (nat_lt y.cid.0 c.0) (is_committed (take place ms) y.gxid)
      where
        swap : (a b : ℕ) (t u : Bool) → ((eqb a b && t) || u) ≡ (u || (eqb b a && t))
        swap a b t u = grind (arith, nat_tests)

    module _ (table : Table) (rid : Rid) (only : IsOnlyAt node rid (marks_in w.steps)) where
      view-row : row_at (shown (raised (w.segs node.0) horizon) x g c table) rid ≡ image (marks_in w.steps) (take place (marks_in w.steps)) (Some (g, c)) table rid
      view-row =
          shown-row (filter (λ (y : Version). (y.table.0 == table.0) && counts (raised (w.segs node.0) horizon) x g c y) (w.segs node.0).versions) rid
          ∙ ap (λ ys. row_of (last_image rid (filter (λ (y : Version). (y.table.0 == table.0) && counts (raised (w.segs node.0) horizon) x g c y) ys))) (hold node.0 one).versions
          ∙ row-is node table rid (counts (raised (w.segs node.0) horizon) x g c) (is_shown_to (Some (g, c)) (take place ms)) ms only
          (each_weaker (λ (y : Version). is_writer ms y.gxid node ≡ true) (λ (y : Version). counts (raised (w.segs node.0) horizon) x g c y ≡ is_shown_to (Some (g, c)) (take place ms) y.gxid y.cid) one-counts (writes_at node ms) (versions-written node ms))

  one-view : (node : Node) (m : Message) → IsSeenBelow w node m → IsShownView w node m
  one-view node (message.Exec g c level (Some x) horizon slice) s = λ one run place d taken table rid only. view-row node one g c x horizon (s run) place d taken table rid only
  one-view node (message.Exec g c level None horizon slice) s = tt
  one-view node (message.Prepare g) s = tt
  one-view node (message.Commit g) s = tt
  one-view node (message.CommitPrepared g) s = tt
  one-view node (message.Abort g) s = tt
  one-view node (message.Forget g) s = tt
  one-view node (message.Answer g r) s = tt
  one-view node (message.Collect round) s = tt
  one-view node (message.Graph round graph) s = tt
  one-view node message.Up s = tt

  each-view : (ls : List Letter) → IsNobodyDropped w ls → AreShownViews w ls
  each-view [] e = tt
  each-view (l ∷ ls) e = (one-view l.to l.envelope.message e.0, each-view ls e.1)

  pub shown-views : AreShownViews w w.sent
  shown-views = each-view w.sent (nobody-dropped script w k v f)

-- IN EVERY RUN
module _ (script : Script) (some : 1 ≤ script.segments) (es : List (Event × Bool)) where
  pub world-ends : (node : Node) (g : Gxid) → DoesEndAt (world_of script es) node g
  world-ends node g = ends-at script (world_of script es) (world_knows script some es) (world-holds script some es) (world-facts script some es) (world-hold script some es) node g

  pub world-shows : (node : Node) (table : Table) → 1 ≤ node.0 → ShowsCommitted (world_of script es) node table
  world-shows node table one = shows-committed script (world_of script es) (world_knows script some es) (world-holds script some es) (world-facts script some es) (world-hold script some es) node one table

  pub world-views : AreShownViews (world_of script es) (world_of script es).sent
  world-views = shown-views script (world_of script es) (world_knows script some es) (world-holds script some es) (world-facts script some es) (world-hold script some es)

  pub world-tables : (tables : List (Vec KeyedRow Global)) (k : ℕ) → AreAtHome (marks_in (world_of script es).steps) → AreRowsOfAll k (world_of script es) tables → AreFinalFrom k (marks_in (world_of script es).steps) tables
  world-tables [] k homes e = tt
  world-tables (rows ∷ tables) k homes e = (
    record { rising = e.0.rising; images = λ rid. let h = homes rid in e.0.shown h.0 rid h.1 h.2 ∙ (world-shows h.0 (record { 0 = k }) h.1).images rid h.2 },
    world-tables tables (k + 1) homes e.1,
  )
