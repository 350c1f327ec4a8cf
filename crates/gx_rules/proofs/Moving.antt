-- What every small move of the loop over rows keeps, the whole loop keeps.
use Rattle.std.proofs.Common.{◌≡◌, ◌∙◌, ◌⊎◌, inl, inr, ℕ, Bool, true, false, List, [], ◌∷◌, Option, ap, refl, sym, subst, if◌then◌else◌}
use Rattle.gx_ids.specs.declared.ids.Gxid.{Gxid}
use Rattle.gx_ids.specs.declared.rid.Rid.{Rid}
use Rattle.gx_tree.specs.declared.value.Value.{Value}
use Rattle.gx_waits.specs.Claims.{is_clear}
use Rattle.gx_store.specs.declared.mark.Mark.TheVariants as mark
use Rattle.gx_rules.specs.Changes.{Change, RowTurn, does_row, ended, gives_back_if_held, goes_through, is_done, suspended_at, suspends_at, tuple_lock}
use Rattle.gx_rules.specs.Changes.RowEnd.{Failing, Skipped, Waiting, Written}
use Rattle.gx_msg.specs.declared.reply.Reply.TheVariants as reply
use Rattle.gx_rules.specs.Segments.{SegTurn}
use Rattle.gx_rules.specs.Slices.{Moved, answers, gives_back, is_holding, noted, takes_lock, writes_row}
use Rattle.gx_msg.specs.declared.reply.Cause.{Cause}
use Rattle.gx_rules.specs.Visits.{DidStop, Does, GoesThrough, IsPath, IsUnshown, SkipsIt, Visit, WritesIt, end_of}
use Rattle.gx_rules.proofs.Loop.{goes}
use Rattle.gx_rules.proofs.RowEnds.{does}

-- Kept by each move: a lock of its own is granted, where it is free, or given back, where it is held; a row is written, skipped or
-- faulted on, for its reason; the command waits for a lock.
pub record Keeps (g : Gxid) (k : Change) (P : Moved → Type 0) : Type 0 where
  pub takes : (m : Moved) (rid : Rid) → is_clear m.seg.locks.holds m.seg.locks.waits (tuple_lock g rid) ≡ true → P m → P (takes_lock (tuple_lock g rid) m)
  pub gives : (m : Moved) (rid : Rid) → is_holding m (tuple_lock g rid) ≡ true → P m → P (gives_back (tuple_lock g rid) m)
  pub writes : (m : Moved) (rid : Rid) (image : Option (List Value)) → WritesIt m g k rid image → P m → P (writes_row g k.cid k.table m rid image)
  pub skips : (m : Moved) (rid : Rid) → SkipsIt m g k rid ⊎ IsUnshown m g k rid → P m → P (noted m (mark.Skip g k.cid rid))
  pub faults : (m : Moved) (rid : Rid) (image : Option (List Value)) → P m → P (noted m (mark.Fault g k.cid rid image))

no-failing : (cause : Cause) → Failing cause ≡ Written → ⊥
no-failing cause e = cc

no-failing-skip : (cause : Cause) → Failing cause ≡ Skipped → ⊥
no-failing-skip cause e = cc

no-failing-wait : (cause : Cause) → Failing cause ≡ Waiting → ⊥
no-failing-wait cause e = cc

no-waiting : Waiting ≡ Written → ⊥
no-waiting e = cc

no-waiting-skip : Waiting ≡ Skipped → ⊥
no-waiting-skip e = cc

module _ (g : Gxid) (k : Change) (P : Moved → Type 0) (keeps : Keeps g k P) where
  given : (m : Moved) (rid : Rid) (b : Bool) → is_holding m (tuple_lock g rid) ≡ b → P m → P (if b then gives_back (tuple_lock g rid) m else m)
  given m rid true e p = keeps.gives m rid e p
  given m rid false e p = p

  back : (m : Moved) (rid : Rid) → P m → P (gives_back_if_held (tuple_lock g rid) m)
  back m rid p = given m rid (is_holding m (tuple_lock g rid)) refl p

  by-does : (m : Moved) (rid : Rid) (t : RowTurn) (n : Moved) (wrote : Bool) → P m → Does m g k rid t → t ≡ ended n (end_of wrote) → P n
  by-does m rid t n wrote p (inl h) e = subst P (ap (λ (x : RowTurn). x.moved) (sym h.is ∙ e)) (back _ rid (keeps.writes m rid h.image h.why p))
  by-does m rid t n wrote p (inr (inl h)) e = subst P (ap (λ (x : RowTurn). x.moved) (sym h.is ∙ e)) (back _ rid (keeps.skips m rid h.why p))
  by-does m rid t n true p (inr (inr (inl h))) e = absurd (no-failing _ (ap (λ (x : RowTurn). x.end) (sym h.is ∙ e)))
  by-does m rid t n false p (inr (inr (inl h))) e = absurd (no-failing-skip _ (ap (λ (x : RowTurn). x.end) (sym h.is ∙ e)))
  by-does m rid t n true p (inr (inr (inr (inl h)))) e = absurd (no-failing _ (ap (λ (x : RowTurn). x.end) (sym h.is ∙ e)))
  by-does m rid t n false p (inr (inr (inr (inl h)))) e = absurd (no-failing-skip _ (ap (λ (x : RowTurn). x.end) (sym h.is ∙ e)))
  by-does m rid t n true p (inr (inr (inr (inr h)))) e = absurd (no-waiting (ap (λ (x : RowTurn). x.end) (sym h.is ∙ e)))
  by-does m rid t n false p (inr (inr (inr (inr h)))) e = absurd (no-waiting-skip (ap (λ (x : RowTurn). x.end) (sym h.is ∙ e)))

  -- a row that is done, and many
  pub row-keeps : (m : Moved) (rid : Rid) (n : Moved) (wrote : Bool) → P m → does_row m g k rid ≡ ended n (end_of wrote) → P n
  row-keeps m rid n wrote p e = by-does m rid (does_row m g k rid) n wrote p (does m g k rid) e

  pub path-keeps : (m : Moved) (visits : List Visit) (last : Moved) → P m → IsPath g k m visits last → P last
  path-keeps m [] last p e = subst P e p
  path-keeps m (v ∷ vs) last p e = path-keeps v.after vs last (row-keeps m v.rid v.after v.wrote p e.1) e.2

-- What holds of the three ends of the loop behind moves that keep P, holds of the loop.
pub record Ends (g : Gxid) (k : Change) (P : Moved → Type 0) (Q : SegTurn → Type 0) : Type 0 where
  pub done : (m : Moved) (count : ℕ) → P m → Q (is_done m g k.cid count)
  pub stopped : (m : Moved) (rid : Rid) (rest : List Rid) (count : ℕ) (t : RowTurn) (stop : DidStop m g k rid t) → P m → Q (suspends_at stop.stopped g k (suspended_at k rid rest count))
  pub failed : (m : Moved) (cause : Cause) → P m → Q (answers m.seg g k.cid m.marks (reply.Failed k.cid cause))

module _ (g : Gxid) (k : Change) (P : Moved → Type 0) (Q : SegTurn → Type 0) (keeps : Keeps g k P) (ends : Ends g k P Q) where
  by-stop : (m : Moved) (rid : Rid) (rest : List Rid) (count : ℕ) (t : RowTurn) (stopped : Moved) → P m → Does m g k rid t → t ≡ ended stopped Waiting → Q (suspends_at stopped g k (suspended_at k rid rest count))
  by-stop m rid rest count t stopped p (inl h) e = absurd (no-waiting (sym (ap (λ (x : RowTurn). x.end) (sym h.is ∙ e))))
  by-stop m rid rest count t stopped p (inr (inl h)) e = absurd (no-waiting-skip (sym (ap (λ (x : RowTurn). x.end) (sym h.is ∙ e))))
  by-stop m rid rest count t stopped p (inr (inr (inl h))) e = absurd (no-failing-wait _ (ap (λ (x : RowTurn). x.end) (sym h.is ∙ e)))
  by-stop m rid rest count t stopped p (inr (inr (inr (inl h)))) e = absurd (no-failing-wait _ (ap (λ (x : RowTurn). x.end) (sym h.is ∙ e)))
  by-stop m rid rest count t stopped p (inr (inr (inr (inr h)))) e = subst (λ n. Q (suspends_at n g k (suspended_at k rid rest count))) (ap (λ (x : RowTurn). x.moved) (sym h.is ∙ e)) (ends.stopped m rid rest count t h p)

  by-fail : (m : Moved) (rid : Rid) (t : RowTurn) (n : Moved) (cause : Cause) → P m → Does m g k rid t → t ≡ ended n (Failing cause) → P n
  by-fail m rid t n cause p (inl h) e = absurd (no-failing cause (sym (ap (λ (x : RowTurn). x.end) (sym h.is ∙ e))))
  by-fail m rid t n cause p (inr (inl h)) e = absurd (no-failing-skip cause (sym (ap (λ (x : RowTurn). x.end) (sym h.is ∙ e))))
  by-fail m rid t n cause p (inr (inr (inl h))) e = subst P (ap (λ (x : RowTurn). x.moved) (sym h.is ∙ e)) (keeps.faults m rid h.image p)
  by-fail m rid t n cause p (inr (inr (inr (inl h)))) e = subst P (ap (λ (x : RowTurn). x.moved) (sym h.is ∙ e)) p
  by-fail m rid t n cause p (inr (inr (inr (inr h)))) e = absurd (no-failing-wait cause (sym (ap (λ (x : RowTurn). x.end) (sym h.is ∙ e))))

  by-end : (rids : List Rid) (m : Moved) (count : ℕ) (turn : SegTurn) → P m → GoesThrough g k rids m count turn → Q turn
  by-end rids m count turn p (inl h) = subst Q (sym h.is) (ends.done h.last _ (path-keeps g k P keeps m h.visits h.last p h.path))
  by-end rids m count turn p (inr (inl h)) =
      subst Q (sym h.is) (by-stop h.last h.rid h.rest _ (does_row h.last g k h.rid) h.stopped (path-keeps g k P keeps m h.visits h.last p h.path) (does h.last g k h.rid) h.waits)
  by-end rids m count turn p (inr (inr h)) =
      subst Q (sym h.is)
      (ends.failed h.failed h.cause (by-fail h.last h.rid (does_row h.last g k h.rid) h.failed h.cause (path-keeps g k P keeps m h.visits h.last p h.path) (does h.last g k h.rid) h.fails))

  pub loop-keeps : (rids : List Rid) (m : Moved) (count : ℕ) → P m → Q (goes_through g k rids m count)
  loop-keeps rids m count p = by-end rids m count (goes_through g k rids m count) p (goes g k rids m count)
