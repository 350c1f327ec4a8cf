-- The loop over rows, taken apart: the rows that were done, one behind the other, and how it ended.
use Rattle.std.proofs.Common.{◌≡◌, ◌∙◌, inl, inr, ℕ, ◌+◌, Bool, true, false, List, [], ◌∷◌, ap, refl, sym, subst, arith}
use Rattle.gx_ids.specs.declared.ids.Gxid.{Gxid}
use Rattle.gx_ids.specs.declared.rid.Rid.{Rid}
use Rattle.gx_rules.specs.Changes.{Change, RowEnd, RowTurn, after_row, does_row, ended, goes_through, is_done, suspended_at, suspends_at}
use Rattle.gx_rules.specs.Changes.RowEnd.{Failing, Skipped, Waiting, Written}
use Rattle.gx_rules.specs.Segments.{SegTurn}
use Rattle.gx_rules.specs.Slices.{Moved}
use Rattle.gx_rules.specs.Visits.{GoesThrough, Visit, end_of, one_if, written_in}

plus-none : (n : ℕ) → n + 0 ≡ n
plus-none n = omega arith

plus-assoc : (a b c : ℕ) → (a + b) + c ≡ a + (b + c)
plus-assoc a b c = omega arith

module _ (g : Gxid) (k : Change) (rid : Rid) (rids : List Rid) (m n : Moved) (count : ℕ) (wrote : Bool) (row : does_row m g k rid ≡ ended n (end_of wrote)) where
  abbrev first : Visit
  first = record { before = m; rid = rid; wrote = wrote; after = n }

  abbrev now : ℕ
  now = count + one_if wrote

  -- a loop that goes on behind a row that is done
  more : (turn : SegTurn) → GoesThrough g k rids n now turn → GoesThrough g k (rid ∷ rids) m count turn
  more turn (inl h) =
      inl (record {
        visits = first ∷ h.visits;
        last = h.last;
        path = (refl, row, h.path);
        all = ap (λ rest. rid ∷ rest) h.all;
        is = h.is ∙ ap (is_done h.last g k.cid) (plus-assoc count (one_if wrote) (written_in h.visits));
      })
  more turn (inr (inl h)) =
      inr (inl (record {
        visits = first ∷ h.visits;
        last = h.last;
        path = (refl, row, h.path);
        rid = h.rid;
        rest = h.rest;
        split = ap (λ rest. rid ∷ rest) h.split;
        stopped = h.stopped;
        waits = h.waits;
        is = h.is ∙ ap (λ n. suspends_at h.stopped g k (suspended_at k h.rid h.rest n)) (plus-assoc count (one_if wrote) (written_in h.visits));
      }))
  more turn (inr (inr h)) =
      inr (inr (record {
        visits = first ∷ h.visits;
        last = h.last;
        path = (refl, row, h.path);
        rid = h.rid;
        rest = h.rest;
        split = ap (λ rest. rid ∷ rest) h.split;
        failed = h.failed;
        cause = h.cause;
        fails = h.fails;
        is = h.is;
      }))

module _ (g : Gxid) (k : Change) (rid : Rid) (rids : List Rid) (m : Moved) (count : ℕ) (behind : (n : Moved) (now : ℕ) → GoesThrough g k rids n now (goes_through g k rids n now)) where
  by-end : (t : RowTurn) (end : RowEnd) → does_row m g k rid ≡ t → t.end ≡ end → GoesThrough g k (rid ∷ rids) m count (after_row (goes_through g k rids) g k rid rids count t.moved end)
  by-end t Written e f = more g k rid rids m t.moved count true (e ∙ ap (ended t.moved) f) _ (behind t.moved (count + 1))
  by-end t Skipped e f =
      more g k rid rids m t.moved count false (e ∙ ap (ended t.moved) f) _
      (subst (λ n. GoesThrough g k rids t.moved (count + 0) (goes_through g k rids t.moved n)) (plus-none count) (behind t.moved (count + 0)))
  by-end t Waiting e f =
      inr (inl (record {
        visits = [];
        last = m;
        path = refl;
        rid = rid;
        rest = rids;
        split = refl;
        stopped = t.moved;
        waits = e ∙ ap (ended t.moved) f;
        is = ap (λ n. suspends_at t.moved g k (suspended_at k rid rids n)) (sym (plus-none count));
      }))
  by-end t (Failing cause) e f =
      inr (inr (record { visits = []; last = m; path = refl; rid = rid; rest = rids; split = refl; failed = t.moved; cause = cause; fails = e ∙ ap (ended t.moved) f; is = refl }))

-- whatever the rows, the loop comes to one of its three ends
pub goes : (g : Gxid) (k : Change) (rids : List Rid) (m : Moved) (count : ℕ) → GoesThrough g k rids m count (goes_through g k rids m count)
goes g k [] m count = inl (record { visits = []; last = m; path = refl; all = refl; is = ap (is_done m g k.cid) (sym (plus-none count)) })
goes g k (rid ∷ rids) m count = by-end g k rid rids m count (goes g k rids) (does_row m g k rid) (does_row m g k rid).end refl refl
