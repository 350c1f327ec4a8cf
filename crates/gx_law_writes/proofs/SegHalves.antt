-- Slices that wait at rows behind a segment's step.
use Rattle.std.proofs.Common.{◌≡◌, ◌≤◌, ◌<◌, ◌⊎◌, inl, inr, ℕ, List, [], ◌∷◌, ◌++◌, Option, Some, None, Bool, true, false, refl, sym, subst, ap, ◌∙◌, ◌||◌, arith, eqb, take, append-nil}
use Rattle.std.proofs.lemmas.Bool.{eqb-true}
use Rattle.std.proofs.lemmas.List.{append_assoc, take-append-le}
use Rattle.std.specs.Prelude.{slice_get}
use Rattle.gx_lemmas.proofs.Lists.{place-below}
use Rattle.gx_lemmas.proofs.Numbers.{eqb-turned}
use Rattle.gx_ids.specs.declared.ids.Cid.{Cid}
use Rattle.gx_ids.specs.declared.ids.Gxid.{Gxid}
use Rattle.gx_ids.specs.declared.ids.Node.{Node}
use Rattle.gx_ids.specs.declared.ids.Table.{Table}
use Rattle.gx_ids.specs.declared.rid.Rid.{Rid}
use Rattle.gx_tree.specs.declared.value.Value.{Value}
use Rattle.gx_dsnap.specs.declared.snapshot.Snapshot.{Snapshot}
use Rattle.gx_script.specs.declared.Script.{Script}
use Rattle.gx_store.proofs.Marks.{image_after-append, is_processed-append}
use Rattle.gx_store.specs.declared.mark.Mark.{Mark}
use Rattle.gx_store.specs.declared.mark.Mark.TheVariants as mark
use Rattle.gx_store.specs.Marks.{is_aborted, is_processed, node_of}
use Rattle.gx_store.specs.Points.{marks_in}
use Rattle.gx_store.specs.View.{image, image_after, is_shown_to}
use Rattle.gx_rules.specs.Machine.{World}
use Rattle.gx_rules.specs.Segments.{SegTurn, Suspended, Version}
use Rattle.gx_law_order.proofs.Lists.{each_weaker}
use Rattle.gx_law_order.specs.Lists.{Each}
use Rattle.gx_law_order.proofs.Ordered.{Well}
use Rattle.gx_law_order.specs.Standings.{at, gx}
use Rattle.gx_law_reads.specs.Sights.{DoViewsStay, IsOnlyAt}
use Rattle.gx_law_writes.proofs.Half.{IsHalf}
use Rattle.gx_law_writes.proofs.Parts.{node-still}
use Rattle.gx_law_writes.proofs.SelectedRows.{HaveHomes}
use Rattle.gx_law_writes.proofs.Staying.{half-stays}
use Rattle.gx_law_writes.proofs.Undone.{alive-front, undone}
use Rattle.gx_law_writes.proofs.RowWalk.{own_count}
use Rattle.gx_law_writes.proofs.Halves.{away-free, kept-on, no-write-free, only-behind, only-front, other-free, others-count, waits-on}
use Rattle.gx_law_writes.proofs.Turns.{NoWrite}
use Rattle.gx_law_writes.proofs.Works.{IsIdle, IsIts, Works}

-- MARKS THAT WRITE NOTHING
no-write-image : (shown : Gxid → Cid → Bool) (table : Table) (rid : Rid) (old : Option (List Value)) (ms : List Mark) → Each NoWrite ms → image_after shown table rid old ms ≡ old
no-write-image shown table rid old [] e = refl
no-write-image shown table rid old (mark.Write g c n t r x ∷ ms) e = absurd e.0
no-write-image shown table rid old (m ∷ ms) e = no-write-image shown table rid old ms e.1

le-of : {a b : ℕ} → a < b → a ≤ b
le-of x = omega arith

both-none : (a b : Bool) → a ≡ false → b ≡ false → (a || b) ≡ false
both-none a b e f = grind arith

its-more : (all more : List Mark) (node : Node) (actor : Gxid) (first : ℕ) (m : Mark) → IsIts all node actor first m → IsIts (all ++ more) node actor first m
its-more all more node actor first (mark.Write g c n t r x) e = e
its-more all more node actor first (mark.Skip g c r) e = (e.0, e.1, λ alive. node-still all more r node (e.2 (alive-front all more g alive)))
its-more all more node actor first m e = tt

-- what is sent leaves a slice that waits as it is
module _ (ms sent : List Mark) (quiet : Each NoWrite sent) (homes : HaveHomes (ms ++ sent)) (node : Node) (g : Gxid) (vs : List Version) where
  sent-leaves : (o : Option Suspended) → IsHalf ms vs node g o → IsHalf (ms ++ sent) vs node g o
  sent-leaves None h = tt
  sent-leaves (Some x) h = half-stays ms sent homes node g vs vs x views (λ alive rid z. no-write-free sent g x.cid rid quiet) refl h
    where
      views : (place : ℕ) (d : Cid) (y : Snapshot) (table : Table) (rid : Rid) → slice_get ms place ≡ Some (mark.Snap g d y) → IsOnlyAt node rid (ms ++ sent)
          → image (ms ++ sent) (take place (ms ++ sent)) (Some (g, x.cid)) table rid ≡ image ms (take place ms) (Some (g, x.cid)) table rid
      views place d y table rid there only =
          ap (λ b. image (ms ++ sent) b (Some (g, x.cid)) table rid) (take-append-le place ms sent (le-of (place-below ms place _ there)))
          ∙ image_after-append (is_shown_to (Some (g, x.cid)) (take place ms)) table rid None ms sent
          ∙ no-write-image (is_shown_to (Some (g, x.cid)) (take place ms)) table rid _ sent quiet

module _ (script : Script) (w v : World) (good : Well script w) (stay : DoViewsStay w v) (i : ℕ) (turn : SegTurn) (sent : List Mark) (quiet : Each NoWrite sent) (is : marks_in v.steps ≡ marks_in w.steps ++ (turn.marks ++ sent)) (works : Works (marks_in w.steps) (at i) (w.segs i) turn)
    (homes : HaveHomes (marks_in w.steps ++ (turn.marks ++ sent))) where
  abbrev ms : List Mark
  ms = marks_in w.steps

  abbrev new : List Mark
  new = turn.marks ++ sent

  abbrev first : ℕ
  first = undone (turn.seg.locals works.actor.0)

  -- each of its marks, behind them all
  pub its-all : Each (IsIts (marks_in w.steps ++ (turn.marks ++ sent)) (at i) works.actor (undone (turn.seg.locals works.actor.0))) turn.marks
  its-all =
      each_weaker (IsIts (ms ++ turn.marks) (at i) works.actor first) (IsIts (ms ++ new) (at i) works.actor first)
      (λ m e. subst (λ z. IsIts z (at i) works.actor first m) (append_assoc ms turn.marks sent) (its-more (ms ++ turn.marks) sent (at i) works.actor first m e)) turn.marks works.marks

  -- AT ANOTHER SEGMENT
  pub half-away : (j g : ℕ) → eqb j i ≡ false → IsHalf (marks_in w.steps) (w.segs j).versions (at j) (gx g) ((w.segs j).locals g).suspended → IsHalf (marks_in w.steps ++ (turn.marks ++ sent)) (w.segs j).versions (at j) (gx g) ((w.segs j).locals g).suspended
  half-away j g apart h = waits-on script w v good stay new is homes j (gx g) (w.segs j).versions free (λ c. refl) ((w.segs j).locals g).suspended refl h
    where
      free : is_aborted (ms ++ new) (gx g) ≡ false → (c : Cid) (rid : Rid) → node_of (ms ++ new) rid ≡ Some (at j) → is_processed new (gx g) c rid ≡ false
      free alive c rid home =
          is_processed-append turn.marks sent (gx g) c rid
          ∙ both-none (is_processed turn.marks (gx g) c rid) (is_processed sent (gx g) c rid)
          (away-free (ms ++ new) (at i) (at j) works.actor first (gx g) c rid (eqb-turned j i apart) home alive turn.marks (only-front (at j) rid turn.marks sent (only-behind (at j) rid ms new (homes.nodes rid (at j) home))) its-all)
          (no-write-free sent (gx g) c rid quiet)

  -- AT THIS ONE
  other-half : (g : ℕ) → eqb g works.actor.0 ≡ false → IsHalf (marks_in w.steps) (w.segs i).versions (at i) (gx g) ((w.segs i).locals g).suspended → IsHalf (marks_in w.steps ++ (turn.marks ++ sent)) turn.seg.versions (at i) (gx g) (turn.seg.locals g).suspended
  other-half g q h = kept-on script w v good stay new is homes i (gx g) turn.seg.versions free same (turn.seg.locals g).suspended (works.others g q) h
    where
      apart : eqb works.actor.0 g ≡ false
      apart = eqb-turned g works.actor.0 q

      free : is_aborted (ms ++ new) (gx g) ≡ false → (c : Cid) (rid : Rid) → node_of (ms ++ new) rid ≡ Some (at i) → is_processed new (gx g) c rid ≡ false
      free alive c rid home =
          is_processed-append turn.marks sent (gx g) c rid
          ∙ both-none (is_processed turn.marks (gx g) c rid) (is_processed sent (gx g) c rid) (other-free (ms ++ new) (at i) works.actor first (gx g) c rid apart turn.marks its-all) (no-write-free sent (gx g) c rid quiet)

      same : (c : Cid) → own_count (gx g) c turn.seg.versions ≡ own_count (gx g) c (w.segs i).versions
      same c = ap (own_count (gx g) c) works.versions ∙ others-count (gx g) works.actor c apart (w.segs i).versions works.own works.mine

  own-half : IsIdle ((w.segs i).locals works.actor.0).suspended (turn.seg.locals works.actor.0).suspended turn.marks works.own ⊎ IsHalf (marks_in w.steps ++ turn.marks) turn.seg.versions (at i) works.actor (turn.seg.locals works.actor.0).suspended
      → IsHalf (marks_in w.steps) (w.segs i).versions (at i) works.actor ((w.segs i).locals works.actor.0).suspended → IsHalf (marks_in w.steps ++ (turn.marks ++ sent)) turn.seg.versions (at i) works.actor (turn.seg.locals works.actor.0).suspended
  own-half (inl idle) h = kept-on script w v good stay new is homes i works.actor turn.seg.versions free same (turn.seg.locals works.actor.0).suspended idle.waits h
    where
      free : is_aborted (ms ++ new) works.actor ≡ false → (c : Cid) (rid : Rid) → node_of (ms ++ new) rid ≡ Some (at i) → is_processed new works.actor c rid ≡ false
      free alive c rid home =
          is_processed-append turn.marks sent works.actor c rid
          ∙ both-none (is_processed turn.marks works.actor c rid) (is_processed sent works.actor c rid) (no-write-free turn.marks works.actor c rid idle.none) (no-write-free sent works.actor c rid quiet)

      same : (c : Cid) → own_count works.actor c turn.seg.versions ≡ own_count works.actor c (w.segs i).versions
      same c = ap (own_count works.actor c) (works.versions ∙ ap (λ vs. (w.segs i).versions ++ vs) idle.same ∙ append-nil (w.segs i).versions)
  own-half (inr half) h =
      subst (λ z. IsHalf z turn.seg.versions (at i) works.actor (turn.seg.locals works.actor.0).suspended) (append_assoc ms turn.marks sent)
      (sent-leaves (ms ++ turn.marks) sent quiet (subst HaveHomes (sym (append_assoc ms turn.marks sent)) homes) (at i) works.actor turn.seg.versions (turn.seg.locals works.actor.0).suspended half)

  pub half-here : (g : ℕ) → IsHalf (marks_in w.steps) (w.segs i).versions (at i) (gx g) ((w.segs i).locals g).suspended → IsHalf (marks_in w.steps ++ (turn.marks ++ sent)) turn.seg.versions (at i) (gx g) (turn.seg.locals g).suspended
  half-here g h = by_test (eqb g works.actor.0) refl
    where
      by_test : (b : Bool) → eqb g works.actor.0 ≡ b → IsHalf (ms ++ new) turn.seg.versions (at i) (gx g) (turn.seg.locals g).suspended
      by_test true q =
          subst (λ n. IsHalf (ms ++ new) turn.seg.versions (at i) (gx n) (turn.seg.locals n).suspended) (sym (eqb-true g works.actor.0 q))
          (own-half works.its (subst (λ n. IsHalf ms (w.segs i).versions (at i) (gx n) ((w.segs i).locals n).suspended) (eqb-true g works.actor.0 q) h))
      by_test false q = other-half g q h
