-- What a turn of the command comes to: it is done with all rows, or waits at one, or fails at one; each mark is legal at its point.
use Rattle.std.proofs.Common.{◌≡◌, ◌∙◌, ◌⊎◌, inl, inr, ℕ, ◌+◌, Bool, true, false, not, ◌&&◌, ◌||◌, List, [], ◌∷◌, ◌++◌, Option, Some, None, ap, refl, sym, subst, if◌then◌else◌, arith}
use Rattle.std.proofs.lemmas.List.{append-nil, append_assoc}
use Rattle.gx_ids.specs.declared.ids.Cid.{Cid}
use Rattle.gx_ids.specs.declared.ids.Gxid.{Gxid}
use Rattle.gx_ids.specs.declared.rid.Rid.{Rid}
use Rattle.gx_tree.specs.declared.value.Value.{Value}
use Rattle.gx_meaning.specs.declared.fault.ArithFault.{ArithFault}
use Rattle.gx_msg.specs.declared.reply.Cause.{Cause}
use Rattle.gx_msg.specs.declared.reply.Cause.TheVariants.{Serialization}
use Rattle.gx_msg.specs.declared.reply.Reply.TheVariants as reply
use Rattle.gx_store.specs.declared.mark.Mark.{Mark}
use Rattle.gx_store.specs.declared.mark.Mark.TheVariants as mark
use Rattle.gx_rules.specs.Changes.{Change, RowEnd, RowTurn, does_row, ended, goes_through, is_done, suspended_at, suspends_at, tuple_lock, end_lock, waits}
use Rattle.gx_rules.specs.Changes.RowEnd.{Failing, Skipped, Waiting, Written}
use Rattle.gx_rules.specs.Segments.{Seg, SegTurn, Version}
use Rattle.gx_rules.specs.Slices.{Moved, answers, cause_of, noted, takes_lock}
use Rattle.gx_rules.specs.Visits.{DidStop, Does, FaultsAt, GoesThrough, IsOvertakenAt, Visit, WaitsAt, visited, written_in}
use Rattle.gx_rules.proofs.Loop.{goes as taken-apart}
use Rattle.gx_rules.proofs.RowEnds.{does}
use Rattle.gx_law_order.specs.Lists.{Each}
use Rattle.gx_law_writes.proofs.Frames.{Inv}
use Rattle.gx_law_writes.proofs.Path.{AreApart, IsLock, Legals, legals-append, legals-locks}
use Rattle.gx_law_writes.proofs.RowWalk.{Done, Free, HasGone, Rules, goes, own_count}

module _ (old pre : List Mark) (s : Seg) (g : Gxid) (k : Change) (Chosen : Rid → Type 0) (Ok : List Mark → Mark → Type 0) (rules : Rules old pre s g k Chosen Ok) where
  abbrev Gone : Moved → Moved → List Visit → List Rid → Type 0
  Gone m last visits rest = HasGone old pre s g k Chosen Ok rules m last visits rest

  -- all rows are done, and the answer counts what the command has written here
  pub record HasFinished (m : Moved) (rids : List Rid) (turn : SegTurn) : Type 0 where
    pub visits : List Visit
    pub last : Moved
    pub gone : Gone m last visits []
    pub all : visited visits ≡ rids
    pub is : turn ≡ is_done last g k.cid (own_count g k.cid last.seg.versions)

  -- it waits at a row
  pub record HasHalted (m : Moved) (rids : List Rid) (turn : SegTurn) : Type 0 where
    pub visits : List Visit
    pub last : Moved
    pub rid : Rid
    pub rest : List Rid
    pub split : rids ≡ visited visits ++ rid ∷ rest
    pub gone : Gone m last visits (rid ∷ rest)
    pub row : RowTurn
    pub stop : DidStop last g k rid row
    pub is : turn ≡ suspends_at stop.stopped g k (suspended_at k rid rest (own_count g k.cid last.seg.versions))

  -- it fails at a row, for a fault that it notes, or since the row was overtaken
  pub record HasFailed (m : Moved) (rids : List Rid) (turn : SegTurn) : Type 0 where
    pub visits : List Visit
    pub last : Moved
    pub rid : Rid
    pub rest : List Rid
    pub split : rids ≡ visited visits ++ rid ∷ rest
    pub gone : Gone m last visits (rid ∷ rest)
    pub image : Option (List Value)
    pub fault : ArithFault
    pub why : FaultsAt last g k rid image fault
    pub is : turn ≡ answers last.seg g k.cid (last.marks ++ mark.Fault g k.cid rid image ∷ []) (reply.Failed k.cid (cause_of fault))

  pub record HasLost (m : Moved) (rids : List Rid) (turn : SegTurn) : Type 0 where
    pub visits : List Visit
    pub last : Moved
    pub rid : Rid
    pub rest : List Rid
    pub split : rids ≡ visited visits ++ rid ∷ rest
    pub gone : Gone m last visits (rid ∷ rest)
    pub writer : Gxid
    pub why : IsOvertakenAt last g k rid writer
    pub is : turn ≡ answers last.seg g k.cid last.marks (reply.Failed k.cid (Serialization rid writer))

  abbrev pub ComesTo : Moved → List Rid → SegTurn → Type 0
  ComesTo m rids turn = HasFinished m rids turn ⊎ HasHalted m rids turn ⊎ HasFailed m rids turn ⊎ HasLost m rids turn

  module _ (m : Moved) (rids : List Rid) (count : ℕ) (counted : count ≡ own_count g k.cid m.seg.versions) (i : Inv s (old ++ pre) g k.cid k.table m) (apart : AreApart rids) (chosen : Each Chosen rids) (free : Each (Free old pre s g k Chosen Ok rules m) rids) where
    gone-by : (visits : List Visit) (last : Moved) (rest : List Rid) → rids ≡ visited visits ++ rest → Rattle.gx_rules.specs.Visits.IsPath g k m visits last → Gone m last visits rest
    gone-by visits last rest split path = goes old pre s g k Chosen Ok rules visits rest m last i path (subst AreApart split apart) (subst (Each Chosen) split chosen) (subst (Each (Free old pre s g k Chosen Ok rules m)) split free)

    count-by : (visits : List Visit) (last : Moved) (rest : List Rid) → Gone m last visits rest → count + written_in visits ≡ own_count g k.cid last.seg.versions
    count-by visits last rest gone = ap (λ n. n + written_in visits) counted ∙ sym gone.counts

    no-written : Written ≡ Waiting → ⊥
    no-written e = cc

    no-skipped : Skipped ≡ Waiting → ⊥
    no-skipped e = cc

    no-failing : (c : Cause) → Failing c ≡ Waiting → ⊥
    no-failing c e = cc

    written-fails : (c : Cause) → Written ≡ Failing c → ⊥
    written-fails c e = cc

    skipped-fails : (c : Cause) → Skipped ≡ Failing c → ⊥
    skipped-fails c e = cc

    waiting-fails : (c : Cause) → Waiting ≡ Failing c → ⊥
    waiting-fails c e = cc

    cause-same : (a b : Cause) → Failing a ≡ Failing b → a ≡ b
    cause-same a b e = cc

    -- the row at which it stops
    stops : (last : Moved) (rid : Rid) (stopped : Moved) → does_row last g k rid ≡ ended stopped Waiting → (row : RowTurn) × (stop : DidStop last g k rid row) × (stop.stopped ≡ stopped)
    stops last rid stopped e = by_does (does_row last g k rid) (does last g k rid) e
      where
        by_does : (t : RowTurn) → Does last g k rid t → t ≡ ended stopped Waiting → (row : RowTurn) × (stop : DidStop last g k rid row) × (stop.stopped ≡ stopped)
        by_does t (inl h) e = absurd (no-written (ap (λ (x : RowTurn). x.end) (sym h.is ∙ e)))
        by_does t (inr (inl h)) e = absurd (no-skipped (ap (λ (x : RowTurn). x.end) (sym h.is ∙ e)))
        by_does t (inr (inr (inl h))) e = absurd (no-failing _ (ap (λ (x : RowTurn). x.end) (sym h.is ∙ e)))
        by_does t (inr (inr (inr (inl h)))) e = absurd (no-failing _ (ap (λ (x : RowTurn). x.end) (sym h.is ∙ e)))
        by_does t (inr (inr (inr (inr h)))) e = (t, h, ap (λ (x : RowTurn). x.moved) (sym h.is ∙ e))

    -- the row at which it fails
    fails : (turn : SegTurn) (visits : List Visit) (last : Moved) (rid : Rid) (rest : List Rid) (failed : Moved) (cause : Cause) → rids ≡ visited visits ++ rid ∷ rest → Gone m last visits (rid ∷ rest) → does_row last g k rid ≡ ended failed (Failing cause)
        → turn ≡ answers failed.seg g k.cid failed.marks (reply.Failed k.cid cause) → HasFailed m rids turn ⊎ HasLost m rids turn
    fails turn visits last rid rest failed cause split gone e is = by_does (does_row last g k rid) (does last g k rid) e
      where
        told : (n : Moved) (c : Cause) (t : RowTurn) → t ≡ ended n (Failing c) → t ≡ ended failed (Failing cause) → turn ≡ answers n.seg g k.cid n.marks (reply.Failed k.cid c)
        told n c t p q =
            is ∙ ap (λ (z : Moved). answers z.seg g k.cid z.marks (reply.Failed k.cid cause)) (ap (λ (x : RowTurn). x.moved) (sym q ∙ p))
            ∙ ap (λ z. answers n.seg g k.cid n.marks (reply.Failed k.cid z)) (cause-same cause c (ap (λ (x : RowTurn). x.end) (sym q ∙ p)))

        by_does : (t : RowTurn) → Does last g k rid t → t ≡ ended failed (Failing cause) → HasFailed m rids turn ⊎ HasLost m rids turn
        by_does t (inl h) e = absurd (written-fails _ (ap (λ (x : RowTurn). x.end) (sym h.is ∙ e)))
        by_does t (inr (inl h)) e = absurd (skipped-fails _ (ap (λ (x : RowTurn). x.end) (sym h.is ∙ e)))
        by_does t (inr (inr (inl h))) e =
            inl (record { visits = visits; last = last; rid = rid; rest = rest; split = split; gone = gone; image = h.image; fault = h.fault; why = h.why; is = told (noted last (mark.Fault g k.cid rid h.image)) (cause_of h.fault) t h.is e })
        by_does t (inr (inr (inr (inl h)))) e =
            inr (record { visits = visits; last = last; rid = rid; rest = rest; split = split; gone = gone; writer = h.writer; why = h.why; is = told last (Serialization rid h.writer) t h.is e })
        by_does t (inr (inr (inr (inr h)))) e = absurd (waiting-fails _ (ap (λ (x : RowTurn). x.end) (sym h.is ∙ e)))

    by-loop : (turn : SegTurn) → GoesThrough g k rids m count turn → ComesTo m rids turn
    by-loop turn (inl h) =
        let gone = gone-by h.visits h.last [] (sym h.all ∙ sym (append-nil (visited h.visits))) h.path in
        inl (record { visits = h.visits; last = h.last; gone = gone; all = h.all; is = h.is ∙ ap (is_done h.last g k.cid) (count-by h.visits h.last [] gone) })
    by-loop turn (inr (inl h)) =
        let gone = gone-by h.visits h.last (h.rid ∷ h.rest) h.split h.path in
        let stop = stops h.last h.rid h.stopped h.waits in
        inr (inl (record {
          visits = h.visits;
          last = h.last;
          rid = h.rid;
          rest = h.rest;
          split = h.split;
          gone = gone;
          row = stop.0;
          stop = stop.1;
          is = h.is
              ∙ ap (λ n. suspends_at h.stopped g k (suspended_at k h.rid h.rest n)) (count-by h.visits h.last (h.rid ∷ h.rest) gone)
              ∙ ap (λ n. suspends_at n g k (suspended_at k h.rid h.rest (own_count g k.cid h.last.seg.versions))) (sym stop.2);
        }))
    by-loop turn (inr (inr h)) = by_end (fails turn h.visits h.last h.rid h.rest h.failed h.cause h.split (gone-by h.visits h.last (h.rid ∷ h.rest) h.split h.path) h.fails h.is)
      where
        by_end : HasFailed m rids turn ⊎ HasLost m rids turn → ComesTo m rids turn
        by_end (inl x) = inr (inr (inl x))
        by_end (inr x) = inr (inr (inr x))

    -- whatever the rows
    pub comes : ComesTo m rids (goes_through g k rids m count)
    comes = by-loop (goes_through g k rids m count) (taken-apart g k rids m count)
