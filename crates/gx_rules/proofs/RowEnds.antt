-- One row: what was so where it is written, skipped, faulted on or overtaken.
use Rattle.std.proofs.Common.{◌≡◌, ◌∙◌, ◌⊎◌, inl, inr, Bool, true, false, List, Option, Some, None, Result, Ok, Err, ap, refl, sym, subst, if◌then◌else◌}
use Rattle.gx_ids.specs.declared.ids.Gxid.{Gxid}
use Rattle.gx_ids.specs.declared.rid.Rid.{Rid}
use Rattle.gx_tree.specs.declared.stmt.Level.{Level}
use Rattle.gx_tree.specs.declared.stmt.Level.TheVariants.{ReadCommitted, RepeatableRead}
use Rattle.gx_tree.specs.declared.value.Value.{Value}
use Rattle.gx_meaning.specs.declared.fault.ArithFault.{ArithFault}
use Rattle.gx_msg.specs.declared.reply.Cause.TheVariants.{Serialization}
use Rattle.gx_store.specs.declared.mark.Mark.TheVariants as mark
use Rattle.gx_store.specs.Commands.{condition_on}
use Rattle.gx_rules.specs.Changes.{Change, RowTurn, at_current, changes_shown, does_row, end_lock, ended, is_settled, looked_at, looks_again, new_image, processes, skips, tested, tuple_lock, waits, waits_at, without_tuple, writes}
use Rattle.gx_rules.specs.Changes.RowEnd.{Failing, Waiting, Written}
use Rattle.gx_rules.specs.Segments.{Version}
use Rattle.gx_rules.specs.Shown.{counts, current_of}
use Rattle.gx_rules.specs.Slices.{Moved, cause_of, is_holding, noted, takes_lock, writes_row}
use Rattle.gx_waits.specs.Claims.{is_clear}
use Rattle.gx_rules.specs.Visits.{Does, FaultsAt, IsNow, IsOvertakenAt, IsSettled, IsUnshown, SkipsIt, WaitsAt, WritesIt}

-- what may have come of a row that is looked at
record Wrote (m : Moved) (g : Gxid) (k : Change) (rid : Rid) (t : RowTurn) : Type 0 where
  pub image : Option (List Value)
  pub why : WritesIt m g k rid image
  pub is : t ≡ ended (writes_row g k.cid k.table m rid image) Written

record Left (m : Moved) (g : Gxid) (k : Change) (rid : Rid) (t : RowTurn) : Type 0 where
  pub why : SkipsIt m g k rid ⊎ IsUnshown m g k rid
  pub is : t ≡ skips m g k rid

record Faulted (m : Moved) (g : Gxid) (k : Change) (rid : Rid) (t : RowTurn) : Type 0 where
  pub image : Option (List Value)
  pub fault : ArithFault
  pub why : FaultsAt m g k rid image fault
  pub is : t ≡ ended (noted m (mark.Fault g k.cid rid image)) (Failing (cause_of fault))

record Overtaken (m : Moved) (g : Gxid) (k : Change) (rid : Rid) (t : RowTurn) : Type 0 where
  pub writer : Gxid
  pub why : IsOvertakenAt m g k rid writer
  pub is : t ≡ ended m (Failing (Serialization rid writer))

record Stopped (m : Moved) (g : Gxid) (k : Change) (rid : Rid) (t : RowTurn) : Type 0 where
  pub version : Version
  pub current : current_of m.seg k.table rid ≡ Some version
  pub unsettled : is_settled m g version.gxid ≡ false
  pub is : t ≡ waits_at m g rid version.gxid

abbrev Looked : Moved → Gxid → Change → Rid → RowTurn → Type 0
Looked m g k rid t = Wrote m g k rid t ⊎ Left m g k rid t ⊎ Faulted m g k rid t ⊎ Overtaken m g k rid t ⊎ Stopped m g k rid t

module _ (m : Moved) (g : Gxid) (k : Change) (rid : Rid) (v : Version) (s : IsSettled m g k rid v) where
  written : (level : Level) (old : List Value) (made : Result (Option (List Value)) ArithFault) → k.level ≡ level → v.image ≡ Some old → IsNow k.level m g k v old → new_image k.set old ≡ made
      → Looked m g k rid (writes m g k rid old made)
  written level old (Ok image) l e now made = inl (record { image = image; why = record { version = v; settled = s; old = old; before = e; now = now; made = made }; is = refl })
  written level old (Err fault) l e now made =
      inr (inr (inl (record { image = Some old; fault = fault; why = record { version = v; settled = s; old = old; before = e; noted = refl; faults = inr (now, made) }; is = refl })))

  again : (old : List Value) (truth : Result Bool ArithFault) → k.level ≡ ReadCommitted → v.image ≡ Some old → condition_on k.cond old ≡ truth → Looked m g k rid (tested m g k rid old truth)
  again old (Ok true) l e is = written ReadCommitted old (new_image k.set old) l e (subst (λ level. IsNow level m g k v old) (sym l) is) refl
  again old (Ok false) l e is = inr (inl (record { why = inl (record { version = v; settled = s; isolation = l; left = inr (old, e, is) }); is = refl }))
  again old (Err fault) l e is =
      inr (inr (inl (record { image = Some old; fault = fault; why = record { version = v; settled = s; old = old; before = e; noted = refl; faults = inl (l, is) }; is = refl })))

  looked-again : (image : Option (List Value)) → k.level ≡ ReadCommitted → v.image ≡ image → Looked m g k rid (looks_again m g k rid image)
  looked-again None l e = inr (inl (record { why = inl (record { version = v; settled = s; isolation = l; left = inl e }); is = refl }))
  looked-again (Some old) l e = again old (condition_on k.cond old) l e refl

  shown-changed : (image : Option (List Value)) → k.level ≡ RepeatableRead → counts m.seg k.snapshot g k.cid v ≡ true → v.image ≡ image → Looked m g k rid (changes_shown m g k rid image)
  shown-changed None l c e = inr (inl (record { why = inr (inr (v, s.current, l, c, e)); is = refl }))
  shown-changed (Some old) l c e = written RepeatableRead old (new_image k.set old) l e (subst (λ level. IsNow level m g k v old) (sym l) c) refl

  counted : (b : Bool) → k.level ≡ RepeatableRead → counts m.seg k.snapshot g k.cid v ≡ b
      → Looked m g k rid (if b then changes_shown m g k rid v.image else ended m (Failing (Serialization rid v.gxid)))
  counted true l c = shown-changed v.image l c refl
  counted false l c = inr (inr (inr (inl (record { writer = v.gxid; why = record { version = v; settled = s; isolation = l; uncounted = c; is = refl }; is = refl }))))

  processed : (level : Level) → k.level ≡ level → Looked m g k rid (processes m g k rid v level)
  processed ReadCommitted l = looked-again v.image l refl
  processed RepeatableRead l = counted (counts m.seg k.snapshot g k.cid v) l refl

at-version : (m : Moved) (g : Gxid) (k : Change) (rid : Rid) (v : Version) (b : Bool) → current_of m.seg k.table rid ≡ Some v → is_settled m g v.gxid ≡ b
    → Looked m g k rid (if b then processes m g k rid v k.level else waits_at m g rid v.gxid)
at-version m g k rid v true e s = processed m g k rid v (record { current = e; settled = s }) k.level refl
at-version m g k rid v false e s = inr (inr (inr (inr (record { version = v; current = e; unsettled = s; is = refl }))))

at-current : (m : Moved) (g : Gxid) (k : Change) (rid : Rid) (o : Option Version) → current_of m.seg k.table rid ≡ o → Looked m g k rid (at_current m g k rid o)
at-current m g k rid None e = inr (inl (record { why = inr (inl e); is = refl }))
at-current m g k rid (Some v) e = at-version m g k rid v (is_settled m g v.gxid) e refl

looks : (m : Moved) (g : Gxid) (k : Change) (rid : Rid) → Looked m g k rid (looked_at m g k rid)
looks m g k rid = at-current m g k rid (current_of m.seg k.table rid) refl

-- WITH ITS LOCK
module _ (m : Moved) (g : Gxid) (rid : Rid) (writer : Gxid) where
  with-free : (b : Bool) → is_clear m.seg.locks.holds m.seg.locks.waits (tuple_lock g rid) ≡ b
      → (stopped : Moved) × WaitsAt m g rid writer stopped × ((if b then waits (end_lock g writer) (takes_lock (tuple_lock g rid) m) else waits (tuple_lock g rid) m) ≡ ended stopped Waiting)
  with-free true f = ((waits (end_lock g writer) (takes_lock (tuple_lock g rid) m)).moved, inr (inl (f, refl)), refl)
  with-free false f = ((waits (tuple_lock g rid) m).moved, inr (inr (f, refl)), refl)

  with-holding : (b : Bool) → is_holding m (tuple_lock g rid) ≡ b
      → (stopped : Moved) × WaitsAt m g rid writer stopped
      × ((if b then waits (end_lock g writer) m
      else (if is_clear m.seg.locks.holds m.seg.locks.waits (tuple_lock g rid) then waits (end_lock g writer) (takes_lock (tuple_lock g rid) m) else waits (tuple_lock g rid) m)) ≡ ended stopped Waiting)
  with-holding true h = ((waits (end_lock g writer) m).moved, inl (h, refl), refl)
  with-holding false h = with-free (is_clear m.seg.locks.holds m.seg.locks.waits (tuple_lock g rid)) refl

  stops : (stopped : Moved) × WaitsAt m g rid writer stopped × (waits_at m g rid writer ≡ ended stopped Waiting)
  stops = with-holding (is_holding m (tuple_lock g rid)) refl

module _ (m : Moved) (g : Gxid) (k : Change) (rid : Rid) where
  locked : (t : RowTurn) → Looked m g k rid t → Does m g k rid (without_tuple g rid t t.end)
  locked t (inl h) = inl (record { image = h.image; why = h.why; is = ap (λ (x : RowTurn). without_tuple g rid x x.end) h.is })
  locked t (inr (inl h)) = inr (inl (record { why = h.why; is = ap (λ (x : RowTurn). without_tuple g rid x x.end) h.is }))
  locked t (inr (inr (inl h))) = inr (inr (inl (record { image = h.image; fault = h.fault; why = h.why; is = ap (λ (x : RowTurn). without_tuple g rid x x.end) h.is })))
  locked t (inr (inr (inr (inl h)))) = inr (inr (inr (inl (record { writer = h.writer; why = h.why; is = ap (λ (x : RowTurn). without_tuple g rid x x.end) h.is }))))
  locked t (inr (inr (inr (inr h)))) =
      let w = stops m g rid h.version.gxid in
      inr (inr (inr (inr (record {
        version = h.version;
        current = h.current;
        unsettled = h.unsettled;
        stopped = w.0;
        how = w.1;
        is = ap (λ (x : RowTurn). without_tuple g rid x x.end) (h.is ∙ w.2);
      }))))

  -- each row comes to one of these
  pub does : Does m g k rid (does_row m g k rid)
  does = locked (looked_at m g k rid) (looks m g k rid)
