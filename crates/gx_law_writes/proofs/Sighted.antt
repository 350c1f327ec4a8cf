-- By its snapshot the command sees what it should, on the segment as it runs, behind marks of locks alone.
use Rattle.std.proofs.Common.{◌≡◌, ◌∙◌, ℕ, ◌≤◌, ◌<◌, List, ◌++◌, Some, true, false, refl, ap, sym, subst, ◌||◌, arith, length, take}
use Rattle.std.proofs.lemmas.Bool.{or_left}
use Rattle.std.proofs.lemmas.List.{take-append-drop, take-append-le}
use Rattle.std.specs.Prelude.{drop}
use Rattle.gx_ids.specs.declared.ids.Cid.{Cid}
use Rattle.gx_ids.specs.declared.ids.Gxid.{Gxid}
use Rattle.gx_ids.specs.declared.ids.Node.{Node}
use Rattle.gx_dsnap.specs.Gxids.{is_below}
use Rattle.gx_dsnap.specs.Snapshot.{sees}
use Rattle.gx_lemmas.proofs.Lists.{get-append, place-below}
use Rattle.gx_script.specs.declared.Script.{Script}
use Rattle.gx_store.proofs.Marks.{is_committed-append}
use Rattle.gx_store.specs.declared.mark.Mark.{Mark}
use Rattle.gx_store.specs.declared.mark.Mark.TheVariants as mark
use Rattle.gx_store.specs.Marks.{is_aborted, is_committed}
use Rattle.gx_store.specs.Points.{marks_in}
use Rattle.gx_store.specs.View.{is_shown_to}
use Rattle.gx_rules.specs.AtSegment.{raised}
use Rattle.gx_rules.specs.Changes.{Change}
use Rattle.gx_rules.specs.Machine.{World}
use Rattle.gx_rules.specs.Segments.{Seg, Version}
use Rattle.gx_law_order.proofs.Lists.{each_weaker}
use Rattle.gx_law_order.specs.Lists.{Each}
use Rattle.gx_law_order.specs.Standings.{at}
use Rattle.gx_law_order.specs.Orders.{IsServed}
use Rattle.gx_law_writes.proofs.Chosen.{Sight}
use Rattle.gx_law_writes.proofs.Frames.{IsWork}
use Rattle.gx_law_writes.proofs.Path.{IsLock}
use Rattle.gx_law_writes.proofs.Sound.{IsToldOf, aborted-still, committed-still}
use Rattle.gx_law_writes.proofs.VersionsTold.{IsOn, Known, told-all}
use Rattle.gx_law_writes.proofs.Views.{view-is, view_rows}

-- MARKS OF LOCKS
lock-work : (node : Node) (g : Gxid) (c : Cid) (m : Mark) → IsLock m → IsWork node g c m
lock-work node g c (mark.Hold n h o x) e = tt
lock-work node g c (mark.Wait n h o x) e = tt
lock-work node g c (mark.Release n h o x) e = tt
lock-work node g c (mark.Write h d n t r x) e = absurd e
lock-work node g c (mark.Skip h d r) e = absurd e
lock-work node g c (mark.Fault h d r x) e = absurd e
lock-work node g c (mark.Start h t) e = absurd e
lock-work node g c (mark.Snap h d x) e = absurd e
lock-work node g c (mark.Commit h) e = absurd e
lock-work node g c (mark.Abort h) e = absurd e
lock-work node g c (mark.Decided h) e = absurd e
lock-work node g c (mark.Prepared n h) e = absurd e
lock-work node g c (mark.LocalCommit n h) e = absurd e
lock-work node g c (mark.JournalFailed n h) e = absurd e
lock-work node g c (mark.Restart n) e = absurd e
lock-work node g c (mark.Sent to number told) e = absurd e
lock-work node g c (mark.Answer session number told) e = absurd e
lock-work node g c (mark.Report n round graph) e = absurd e
lock-work node g c (mark.Recheck round graph verdict) e = absurd e

pub locks-work : (node : Node) (g : Gxid) (c : Cid) (ms : List Mark) → Each IsLock ms → Each (IsWork node g c) ms
locks-work node g c ms e = each_weaker IsLock (IsWork node g c) (lock-work node g c) ms e

-- who has committed in front has committed behind
pub committed-front : (place : ℕ) (ms : List Mark) (h : Gxid) → is_committed (take place ms) h ≡ true → is_committed ms h ≡ true
committed-front place ms h e =
    ap (λ ns. is_committed ns h) (sym (take-append-drop place ms)) ∙ is_committed-append (take place ms) (drop place ms) h ∙ or_left (is_committed (take place ms) h) (is_committed (drop place ms) h) e

le-of : {a b : ℕ} → a < b → a ≤ b
le-of x = omega arith

module _ (script : Script) (w : World) (a : Known script w) (i : ℕ) (one : 1 ≤ i) (g : Gxid) (k : Change) (horizon : Gxid) (below : (h : Gxid) → 1 ≤ h.0 → (is_below (raised (w.segs i) horizon).horizon h || sees k.snapshot h) ≡ sees k.snapshot h)
    (served : IsServed (marks_in w.steps) k.level g k.cid k.snapshot) (b : Seg) (on : IsOn (w.segs i) g horizon b) (pre : List Mark) (locks : Each IsLock pre)
    (alive : is_aborted (marks_in w.steps) g ≡ false) (running : is_committed (marks_in w.steps) g ≡ false) (early : Each (λ (v : Version). v.gxid ≡ g → v.cid.0 ≤ k.cid.0) (w.segs i).versions) where
  abbrev ms : List Mark
  ms = marks_in w.steps

  abbrev before : List Mark
  before = ms ++ pre

  work : Each (IsWork (at i) g k.cid) pre
  work = locks-work (at i) g k.cid pre locks

  aborted-same : (h : Gxid) → is_aborted before h ≡ is_aborted ms h
  aborted-same h = aborted-still (at i) g h k.cid ms pre work

  committed-same : (h : Gxid) → is_committed before h ≡ is_committed ms h
  committed-same h = committed-still (at i) g h k.cid ms pre work

  inside : served.place < length ms
  inside = place-below ms served.place _ served.taken

  taken-same : take served.place before ≡ take served.place ms
  taken-same = take-append-le served.place ms pre (le-of inside)

  told-behind : (v : Version) → IsToldOf ms served.place k.snapshot g k.cid b v → IsToldOf before served.place k.snapshot g k.cid b v
  told-behind v t =
      record {
        lost = λ e. aborted-same v.gxid ∙ t.lost e;
        ended = λ other e free. committed-same v.gxid ∙ t.ended other e free;
        counted = t.counted ∙ ap (λ ns. is_shown_to (Some (g, k.cid)) ns v.gxid v.cid) (sym taken-same);
      }

  pub sight : Sight (marks_in w.steps ++ pre) b g k
  sight =
      record {
        place = served.place;
        inside = place-below before served.place _ (get-append ms pre served.place _ served.taken);
        taken = record { d = served.d; snapshot = k.snapshot; taken = get-append ms pre served.place _ served.taken; serves = served.serves };
        rows = view_rows before (take served.place before) (Some (g, k.cid)) k.table;
        view = view-is before (take served.place before) (Some (g, k.cid)) k.table;
        told = each_weaker (IsToldOf ms served.place k.snapshot g k.cid b) (IsToldOf before served.place k.snapshot g k.cid b) told-behind b.versions (told-all script w a i one g k.cid k.snapshot horizon below served.place served.d served.taken b on);
        alive = aborted-same g ∙ alive;
        running = committed-same g ∙ running;
        either = λ h e. aborted-same h ∙ (a.holds.stands.pairs i h.0).either (sym (committed-same h) ∙ e);
        early = subst (Each (λ (v : Version). v.gxid ≡ g → v.cid.0 ≤ k.cid.0)) (sym on.versions) early;
        first = λ h e. committed-front served.place before h e;
      }

  -- it is the snapshot that serves it
  pub sight-place : sight.place ≡ served.place
  unfolding sight
  sight-place = refl
