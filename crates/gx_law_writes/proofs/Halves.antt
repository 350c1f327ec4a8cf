-- Slices that wait at rows stay as they are behind the steps of all nodes, but for the transaction whose turn it is.
use Rattle.std.proofs.Common.{◌≡◌, ◌≤◌, inl, inr, ℕ, ◌+◌, List, [], ◌∷◌, ◌++◌, Option, Some, None, Bool, true, false, refl, sym, subst, ap, ◌∙◌, if◌then◌else◌, ◌&&◌, ◌||◌, arith, eqb, take}
use Rattle.std.proofs.lemmas.Bool.Decides.{nat_tests}
use Rattle.std.specs.Prelude.{slice_get}
use Rattle.gx_lemmas.proofs.Options.{some-same}
use Rattle.gx_lemmas.proofs.Tests.{true-false}
use Rattle.gx_ids.specs.declared.ids.Cid.{Cid}
use Rattle.gx_ids.specs.declared.ids.Gxid.{Gxid}
use Rattle.gx_ids.specs.declared.ids.Node.{Node}
use Rattle.gx_ids.specs.declared.ids.Table.{Table}
use Rattle.gx_ids.specs.declared.rid.Rid.{Rid}
use Rattle.gx_dsnap.specs.declared.snapshot.Snapshot.{Snapshot}
use Rattle.gx_script.specs.declared.Script.{Script}
use Rattle.gx_store.specs.declared.mark.Mark.{Mark}
use Rattle.gx_store.specs.declared.mark.Mark.TheVariants as mark
use Rattle.gx_store.specs.Journals.{is_same_node}
use Rattle.gx_store.specs.Marks.{is_aborted, is_command_of, is_processed, is_same_gxid, is_same_rid, node_of}
use Rattle.gx_store.specs.Points.{marks_in}
use Rattle.gx_store.specs.View.{image}
use Rattle.gx_store.proofs.Rows.{same_rid}
use Rattle.gx_rules.specs.Machine.{World}
use Rattle.gx_rules.specs.Segments.{Suspended, Version, local_of}
use Rattle.gx_law_order.specs.Lists.{Each}
use Rattle.gx_law_order.proofs.Ordered.{Well}
use Rattle.gx_law_order.proofs.Waiting.{waiting}
use Rattle.gx_law_order.specs.Standings.{at}
use Rattle.gx_law_reads.specs.Sights.{DoViewsStay, IsOnlyAt}
use Rattle.gx_law_writes.proofs.Half.{IsHalf}
use Rattle.gx_law_writes.proofs.SelectedRows.{HaveHomes}
use Rattle.gx_law_writes.proofs.Staying.{half-stays}
use Rattle.gx_law_writes.proofs.RowWalk.{own_count}
use Rattle.gx_law_writes.proofs.Turns.{IsKeptOrDropped, NoWrite}
use Rattle.gx_law_writes.proofs.Works.{IsIts}

-- MARKS THAT DO NOTHING TO A ROW
pub no-write-free : (ms : List Mark) (g : Gxid) (c : Cid) (rid : Rid) → Each NoWrite ms → is_processed ms g c rid ≡ false
no-write-free [] g c rid e = refl
no-write-free (mark.Write h d n t r x ∷ ms) g c rid e = absurd e.0
no-write-free (mark.Skip h d r ∷ ms) g c rid e = absurd e.0
no-write-free (m ∷ ms) g c rid e = no-write-free ms g c rid e.1

neither : (a b d : Bool) → (a ≡ true → b ≡ true → ⊥) → d ≡ false → ((a && b) || d) ≡ false
neither true true d f e = absurd (f refl refl)
neither true false d f e = e
neither false b d f e = e

gxid-first : (a b : Bool) → (a && b) ≡ true → a ≡ true
gxid-first a b e = grind arith

unlike : (h actor g : Gxid) → h ≡ actor → is_same_gxid actor g ≡ false → is_same_gxid h g ≡ true → ⊥
unlike h actor g e f q = true-false (is_same_gxid actor g) (ap (λ z. is_same_gxid z g) (sym e) ∙ q) f

-- another transaction's
pub other-free : (all : List Mark) (node : Node) (actor : Gxid) (first : ℕ) (g : Gxid) (c : Cid) (rid : Rid) → is_same_gxid actor g ≡ false → (ms : List Mark) → Each (IsIts all node actor first) ms → is_processed ms g c rid ≡ false
other-free all node actor first g c rid apart [] e = refl
other-free all node actor first g c rid apart (mark.Write h d n t r x ∷ ms) e =
    neither (is_command_of g c h d) (is_same_rid r rid) (is_processed ms g c rid) (λ p q. unlike h actor g e.0.0 apart (gxid-first (is_same_gxid h g) (eqb d.0 c.0) p)) (other-free all node actor first g c rid apart ms e.1)
other-free all node actor first g c rid apart (mark.Skip h d r ∷ ms) e =
    neither (is_command_of g c h d) (is_same_rid r rid) (is_processed ms g c rid) (λ p q. unlike h actor g e.0.0 apart (gxid-first (is_same_gxid h g) (eqb d.0 c.0) p)) (other-free all node actor first g c rid apart ms e.1)
other-free all node actor first g c rid apart (m ∷ ms) e = other-free all node actor first g c rid apart ms e.1

-- at another node
gxid-is : (a b : Gxid) → is_same_gxid a b ≡ true → a ≡ b
gxid-is a b e = grind (arith, nat_tests)

node-self : (n : Node) → is_same_node n n ≡ true
node-self n = grind (arith, nat_tests)

pub away-free : (all : List Mark) (node other : Node) (actor : Gxid) (first : ℕ) (g : Gxid) (c : Cid) (rid : Rid) → is_same_node node other ≡ false → node_of all rid ≡ Some other → is_aborted all g ≡ false → (ms : List Mark) → IsOnlyAt other rid ms → Each (IsIts all node actor first) ms → is_processed ms g c rid ≡ false
away-free all node other actor first g c rid apart home alive [] o e = refl
away-free all node other actor first g c rid apart home alive (mark.Write h d n t r x ∷ ms) o e =
    neither (is_command_of g c h d) (is_same_rid r rid) (is_processed ms g c rid) (λ p q. true-false (is_same_node node other) (ap (λ z. is_same_node z other) (sym e.0.2) ∙ o.0 q) apart) (away-free all node other actor first g c rid apart home alive ms o.1 e.1)
away-free all node other actor first g c rid apart home alive (mark.Skip h d r ∷ ms) o e =
    neither (is_command_of g c h d) (is_same_rid r rid) (is_processed ms g c rid) by_both (away-free all node other actor first g c rid apart home alive ms o e.1)
  where
    by_both : is_command_of g c h d ≡ true → is_same_rid r rid ≡ true → ⊥
    by_both p q =
        let there = e.0.2 (subst (λ z. is_aborted all z ≡ false) (sym (gxid-is h g (gxid-first (is_same_gxid h g) (eqb d.0 c.0) p))) alive) in
        true-false (is_same_node node other) (ap (λ z. is_same_node z other) (some-same node other (sym there ∙ ap (node_of all) (same_rid r rid q) ∙ home)) ∙ node-self other) apart
away-free all node other actor first g c rid apart home alive (m ∷ ms) o e = away-free all node other actor first g c rid apart home alive ms o e.1

-- VERSIONS OF ANOTHER
pub others-count : (g actor : Gxid) (c : Cid) → is_same_gxid actor g ≡ false → (vs own : List Version) → Each (λ (v : Version). v.gxid ≡ actor) own → own_count g c (vs ++ own) ≡ own_count g c vs
others-count g actor c apart [] [] e = refl
others-count g actor c apart [] (v ∷ own) e = ap (λ b. if b then own_count g c own + 1 else own_count g c own) (not-its (is_command_of g c v.gxid v.cid) refl) ∙ others-count g actor c apart [] own e.1
  where
    not-its : (b : Bool) → is_command_of g c v.gxid v.cid ≡ b → b ≡ false
    not-its true q = absurd (unlike v.gxid actor g e.0 apart (gxid-first (is_same_gxid v.gxid g) (eqb v.cid.0 c.0) q))
    not-its false q = refl
others-count g actor c apart (v ∷ vs) own e = ap (λ n. if is_command_of g c v.gxid v.cid then n + 1 else n) (others-count g actor c apart vs own e)

-- ONLY THERE
pub only-front : (node : Node) (rid : Rid) (xs ys : List Mark) → IsOnlyAt node rid (xs ++ ys) → IsOnlyAt node rid xs
only-front node rid [] ys o = tt
only-front node rid (mark.Write g c n t r x ∷ xs) ys o = (o.0, only-front node rid xs ys o.1)
only-front node rid (m ∷ xs) ys o = only-front node rid xs ys o

pub only-behind : (node : Node) (rid : Rid) (xs ys : List Mark) → IsOnlyAt node rid (xs ++ ys) → IsOnlyAt node rid ys
only-behind node rid [] ys o = o
only-behind node rid (mark.Write g c n t r x ∷ xs) ys o = only-behind node rid xs ys o.1
only-behind node rid (m ∷ xs) ys o = only-behind node rid xs ys o

-- FROM A WORLD TO THE NEXT
module _ (script : Script) (w v : World) (good : Well script w) (stay : DoViewsStay w v) (new : List Mark) (is : marks_in v.steps ≡ marks_in w.steps ++ new) (homes : HaveHomes (marks_in w.steps ++ new)) (i : ℕ) (g : Gxid) (vs : List Version)
    (free : is_aborted (marks_in w.steps ++ new) g ≡ false → (c : Cid) (rid : Rid) → node_of (marks_in w.steps ++ new) rid ≡ Some (at i) → is_processed new g c rid ≡ false) (same : (c : Cid) → own_count g c vs ≡ own_count g c (w.segs i).versions) where
  abbrev ms : List Mark
  ms = marks_in w.steps

  pub waits-on : (o : Option Suspended) → (local_of (w.segs i) g).suspended ≡ o → IsHalf (marks_in w.steps) (w.segs i).versions (at i) g o → IsHalf (marks_in w.steps ++ new) vs (at i) g o
  waits-on None e h = tt
  waits-on (Some x) e h = half-stays ms new homes (at i) g (w.segs i).versions vs x views (λ alive rid z. free alive x.cid rid z) (same x.cid) h
    where
      low-of : (a b : ℕ) → a ≡ b → b ≤ a
      low-of a b z = omega arith

      low : x.cid.0 ≤ (local_of (w.segs i) g).last
      low = low-of (local_of (w.segs i) g).last x.cid.0 (waiting script w good i g x e).last

      views : (place : ℕ) (d : Cid) (y : Snapshot) (table : Table) (rid : Rid) → slice_get ms place ≡ Some (mark.Snap g d y) → IsOnlyAt (at i) rid (ms ++ new)
          → image (ms ++ new) (take place (ms ++ new)) (Some (g, x.cid)) table rid ≡ image ms (take place ms) (Some (g, x.cid)) table rid
      views place d y table rid there only =
          subst (λ z. image z (take place z) (Some (g, x.cid)) table rid ≡ image ms (take place ms) (Some (g, x.cid)) table rid) is
          (stay (at i) g x.cid place (mark.Snap g d y) table rid low there (subst (IsOnlyAt (at i) rid) (sym is) only))

  -- where it is kept, or dropped
  pub kept-on : (o : Option Suspended) → IsKeptOrDropped (local_of (w.segs i) g).suspended o → IsHalf (marks_in w.steps) (w.segs i).versions (at i) g (local_of (w.segs i) g).suspended → IsHalf (marks_in w.steps ++ new) vs (at i) g o
  kept-on o (inl e) h = subst (IsHalf (ms ++ new) vs (at i) g) (sym e) (waits-on (local_of (w.segs i) g).suspended refl h)
  kept-on o (inr e) h = subst (IsHalf (ms ++ new) vs (at i) g) (sym e) tt
