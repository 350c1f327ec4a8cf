-- What comes of a row, in what is held.
use Rattle.std.proofs.Common.{◌≡◌, ◌≢◌, ◌≤◌, Bool, true, false, if◌then◌else◌, ltb, List, [], ◌∷◌, ◌++◌, Option, Some, None, slice_get, append-nil, refl, sym, ap, ◌∙◌, subst, arith}
use Rattle.std.proofs.lemmas.Bool.Decides.{nat_tests}
use Rattle.std.proofs.lemmas.List.Elements.{recursion_from_All}
use Rattle.std.specs.List.{AllByRecursion, list_any}
use Rattle.std.specs.Option.{ForSome}
use Rattle.std.specs.Prelude.{IsTrue, find, option_map, unwrap_or}
use Rattle.gx_ids.specs.declared.ids.Cid.{Cid}
use Rattle.gx_ids.specs.declared.ids.Gxid.{Gxid}
use Rattle.gx_ids.specs.declared.ids.Node.{Node}
use Rattle.gx_ids.specs.declared.ids.Table.{Table}
use Rattle.gx_ids.specs.declared.rid.Rid.{Rid}
use Rattle.gx_tree.specs.declared.stmt.Level.TheVariants.{RepeatableRead}
use Rattle.gx_tree.specs.declared.value.Value.{Value}
use Rattle.gx_dsnap.specs.declared.snapshot.Snapshot.{Snapshot}
use Rattle.gx_waits.specs.Claims.{is_free, is_of}
use Rattle.gx_locks.specs.Locks.{Locks, wait_of}
use Rattle.gx_rows.specs.Xids.{kept}
use Rattle.gx_meaning.specs.declared.fault.ArithFault.{ArithFault}
use Rattle.gx_msg.specs.declared.reply.Cause.TheVariants.{Serialization}
use Rattle.gx_store.specs.declared.mark.Mark.{Mark}
use Rattle.gx_store.specs.declared.mark.Mark.TheVariants as mark
use Rattle.gx_rules.specs.Changes as rule
use Rattle.gx_rules.specs.Changes.RowEnd.{Failing, Skipped, Waiting, Written}
use Rattle.gx_rules.specs.Segments.{Version}
use Rattle.gx_rules.specs.Shown.{counts, current_of, is_current}
use Rattle.gx_rules.specs.Slices.{Moved, cause_of, noted, own_lock, writes_row}
use Rattle.gx_slices.specs.Agrees.{AreWriters, is_right_image, is_right_version}
use Rattle.gx_slices.specs.Apart.{IsApart}
use Rattle.gx_slices.specs.Changing.{Came, IsAt, IsFree, IsRightImage, Stage, awaited_in, end_of, is_done_at, newest_as, newest_in, overtaker_in, waits_then}
use Rattle.gx_slices.specs.Inserts.{IsPut}
use Rattle.gx_slices.specs.Owning.{AreOwn}
use Rattle.gx_slices.specs.Stopping.{left_locks, left_marks, locks_after, marks_after, stop_locks, stop_marks}
use Rattle.gx_slices.specs.Store.{newest_of}
use Rattle.gx_slices.specs.declared.changing_row.RowEnd.{RowEnd}
use Rattle.gx_slices.specs.declared.changing_row.RowEnd.TheVariants as end
use Rattle.gx_slices.specs.declared.held.Entry.{Entry}
use Rattle.gx_slices.specs.declared.held.Held.{Held}
use Rattle.gx_slices.specs.declared.newest.Newest.{Newest}
use Rattle.gx_slices.proofs.Adding.{IsApart-written, free-written, told-written}
use Rattle.gx_slices.proofs.Awaiting.{awaited_in-is_settled, found-last_passing, has-current, overtaker_in-counts}
use Rattle.gx_slices.proofs.Gxids.{same_table}
use Rattle.gx_slices.proofs.Lists.{and_parts}
use Rattle.gx_slices.proofs.NewestOf.{newest_of-current_of}
use Rattle.gx_slices.proofs.OwnMoves.{IsApart-locks}
use Rattle.gx_slices.proofs.Owning.{free-own}
use Rattle.gx_slices.proofs.Rightness.{typed-written}
use Rattle.gx_slices.proofs.RowMoves.{AreOwn-stop, AreWriters-stop, AreOwn-left, AreWriters-left, waits-left, others-stop, waits-stop}
use Rattle.gx_slices.proofs.Stops.{gives_back_if_held-leaves, moved_on, waits_at-stops}

module _ (stage : Stage) (g : Gxid) (held : Held) (entry : Entry) (marks : List Mark) (at : IsAt stage g held entry marks) where
  abbrev m : Moved
  m = stage.moved

  -- what writing a row asks for
  pub alive-at : held.store.horizon.0 ≤ g.0
  alive-at = subst (λ (h : Gxid). h.0 ≤ g.0) (sym at.apart.stored.horizon) at.apart.alive

  pub own-free-at : is_free held.locks.holds (own_lock g) ≡ true
  own-free-at = ap (λ (l : Locks). is_free l.holds (own_lock g)) at.apart.locks ∙ free-own g m.seg.locks.holds at.apart.owned

  -- other locks, and marks behind those so far
  IsAt-moved_on : (locks now : Locks) (more marks' : List Mark) → AreOwn locks.holds → AreWriters (record m.seg { locks = locks }) → ((h : Gxid) → h.0 ≢ g.0 → wait_of locks h ≡ wait_of m.seg.locks h) → now ≡ locks → marks' ≡ marks ++ more
      → IsAt (record stage { moved = moved_on m locks more }) g (record held { locks = now }) entry marks'
  IsAt-moved_on locks now more marks' owned writers waits is told = record {
    apart = subst (λ (l : Locks). let h : Held = record held { locks = l } in IsApart stage.found.start stage.first h entry g (record m.seg { locks = locks })) (sym is) (IsApart-locks stage.found.start stage.first held entry g m.seg at.apart locks owned writers waits);
    told = told ∙ ap (λ (ms : List Mark). ms ++ more) at.told;
    typed = at.typed;
  }

  -- ITS CURRENT VERSION
  module _ (table : Table) (rid : Rid) where
    abbrev newest_at : Version → Newest
    newest_at v = newest_in held.store.horizon v

    newest-current : (o : Option Newest) → o ≡ option_map newest_as (newest_of held.store table rid) → o ≡ option_map newest_at (current_of m.seg table rid)
    newest-current o e = e ∙ newest_of-current_of held.store m.seg at.apart.stored table rid ∙ ap (λ (h : Gxid). option_map (newest_in h) (current_of m.seg table rid)) (sym at.apart.stored.horizon)

    pub no-current : (o : Option Newest) → o ≡ option_map newest_as (newest_of held.store table rid) → o ≡ None → current_of m.seg table rid ≡ None
    no-current o e none = either (current_of m.seg table rid) (sym none ∙ newest-current o e)
      where
        either : (c : Option Version) → None ≡ option_map newest_at c → c ≡ None
        either None f = refl
        either (Some v) f = absurd (cc)

    -- the newest version that the store knows, and the current one
    pub record IsNewest (n : Newest) (d : Version) : Type 0 where
      pub newest : n ≡ newest_at (unwrap_or (current_of m.seg table rid) d)
      pub current : current_of m.seg table rid ≡ Some (unwrap_or (current_of m.seg table rid) d)

    pub one-current : (o : Option Newest) (n : Newest) (d : Version) → o ≡ option_map newest_as (newest_of held.store table rid) → o ≡ Some n → IsNewest n d
    one-current o n d e some = either (current_of m.seg table rid) refl (sym some ∙ newest-current o e)
      where
        same : (a b : Newest) → Some a ≡ Some b → a ≡ b
        same a b f = cc

        either : (c : Option Version) → current_of m.seg table rid ≡ c → Some n ≡ option_map newest_at c → IsNewest n d
        either None p f = absurd (cc)
        either (Some v) p f = record {
          newest = same n (newest_at v) f ∙ ap (λ (x : Option Version). newest_at (unwrap_or x d)) (sym p);
          current = p ∙ ap (λ (x : Option Version). Some (unwrap_or x d)) (sym p);
        }

    module _ (v : Version) (current : current_of m.seg table rid ≡ Some v) where
      -- its image is of the table's kinds
      pub right-current : IsRightImage stage.found.tables table v.image
      right-current =
          let is = found-last_passing (λ (u : Version). IsTrue (is_right_version stage.found.tables u) × (is_current m.seg table rid u ≡ true)) (is_current m.seg table rid) m.seg.versions
          (all_with m.seg.versions (recursion_from_All (λ u. IsTrue (is_right_version stage.found.tables u)) m.seg.versions at.typed)) v current in
          subst (λ (t : Table). IsTrue (is_right_image (slice_get stage.found.tables t.0) v.image)) (same_table v.table table (and_parts _ _ is.1).0) is.0
        where
          all_with : (vs : List Version) → AllByRecursion (λ u. IsTrue (is_right_version stage.found.tables u)) vs → AllByRecursion (λ u. is_current m.seg table rid u ≡ true → IsTrue (is_right_version stage.found.tables u) × (is_current m.seg table rid u ≡ true)) vs
          all_with [] all = tt
          all_with (u ∷ us) all = ((λ is. (all.0, is)), all_with us all.1)

      -- who is awaited, and who has overtaken
      pub awaited-at : awaited_in held.locks.holds g (kept held.store.horizon v.gxid) ≡ (if rule.is_settled m g v.gxid then None else Some v.gxid)
      awaited-at =
          ap (λ (l : Locks). awaited_in l.holds g (kept held.store.horizon v.gxid)) at.apart.locks
          ∙ ap (λ (h : Gxid). awaited_in m.seg.locks.holds g (kept h v.gxid)) at.apart.stored.horizon
          ∙ awaited_in-is_settled m g at.apart.writers v.gxid (has-current m.seg table rid v current).0

      pub overtaker-at : (snap : Snapshot) (c : Cid) → overtaker_in held.store snap g c (kept held.store.horizon v.gxid) v.cid ≡ (if counts m.seg snap g c v then None else Some v.gxid)
      overtaker-at snap c = overtaker_in-counts held.store m.seg at.apart.stored at.apart.writers snap g c at.apart.open_here table rid v current

      -- by what the store knows of it
      module _ (n : Newest) (is : n ≡ newest_in held.store.horizon v) where
        pub right-newest : IsRightImage stage.found.tables table n.image
        right-newest = subst (IsRightImage stage.found.tables table) (sym (ap (λ (x : Newest). x.image) is)) right-current

        same_writer : (a b : Gxid) → Some a ≡ Some b → a ≡ b
        same_writer a b f = cc

        awaited-newest : (o : Option Gxid) → o ≡ awaited_in held.locks.holds g n.writer → o ≡ (if rule.is_settled m g v.gxid then None else Some v.gxid)
        awaited-newest o e = e ∙ ap (λ (x : Newest). awaited_in held.locks.holds g x.writer) is ∙ awaited-at

        pub settled-newest : (o : Option Gxid) → o ≡ awaited_in held.locks.holds g n.writer → o ≡ None → rule.is_settled m g v.gxid ≡ true
        settled-newest o e none = either (rule.is_settled m g v.gxid) refl (sym none ∙ awaited-newest o e)
          where
            either : (b : Bool) → rule.is_settled m g v.gxid ≡ b → None ≡ (if b then None else Some v.gxid) → rule.is_settled m g v.gxid ≡ true
            either true p f = p
            either false p f = absurd (cc)

        pub record IsUnsettled (w : Gxid) : Type 0 where
          pub unsettled : rule.is_settled m g v.gxid ≡ false
          pub writer : w ≡ v.gxid

        pub unsettled-newest : (o : Option Gxid) → o ≡ awaited_in held.locks.holds g n.writer → (w : Gxid) → o ≡ Some w → IsUnsettled w
        unsettled-newest o e w some = either (rule.is_settled m g v.gxid) refl (sym some ∙ awaited-newest o e)
          where
            either : (b : Bool) → rule.is_settled m g v.gxid ≡ b → Some w ≡ (if b then None else Some v.gxid) → IsUnsettled w
            either true p f = absurd (cc)
            either false p f = record { unsettled = p; writer = same_writer w v.gxid f }

        module _ (k : rule.Change) (at_level : k.level ≡ RepeatableRead) (o : Option Gxid) (told_of : o ≡ overtaker_in held.store k.snapshot g k.cid n.writer n.cid) where
          abbrev counted : Bool
          counted = counts m.seg k.snapshot g k.cid v

          overtaker-newest : o ≡ (if counted then None else Some v.gxid)
          overtaker-newest = told_of ∙ ap (λ (x : Newest). overtaker_in held.store k.snapshot g k.cid x.writer x.cid) is ∙ overtaker-at k.snapshot k.cid

          abbrev by_counts : Bool → rule.RowTurn
          by_counts b = if b then rule.changes_shown m g k rid v.image else rule.ended m (Failing (Serialization rid v.gxid))

          pub refused-turn : (w : Gxid) → o ≡ Some w → rule.processes m g k rid v k.level ≡ rule.ended m (Failing (Serialization rid w))
          refused-turn w some = ap (rule.processes m g k rid v) at_level ∙ either counted refl (sym some ∙ overtaker-newest)
            where
              either : (b : Bool) → counted ≡ b → Some w ≡ (if b then None else Some v.gxid) → by_counts counted ≡ rule.ended m (Failing (Serialization rid w))
              either true p f = absurd (cc)
              either false p f = ap by_counts p ∙ ap (λ (x : Gxid). rule.ended m (Failing (Serialization rid x))) (sym (same_writer w v.gxid f))

          pub shown-turn : o ≡ None → rule.processes m g k rid v k.level ≡ rule.changes_shown m g k rid n.image
          shown-turn none = ap (rule.processes m g k rid v) at_level ∙ either counted refl (sym none ∙ overtaker-newest) ∙ ap (λ (x : Newest). rule.changes_shown m g k rid x.image) (sym is)
            where
              either : (b : Bool) → counted ≡ b → None ≡ (if b then None else Some v.gxid) → by_counts counted ≡ rule.changes_shown m g k rid v.image
              either true p f = ap by_counts p
              either false p f = absurd (cc)

  module _ (free : IsFree stage g) where
    pub waits-at : list_any (is_of g) held.locks.waits ≡ false
    waits-at = ap (λ (l : Locks). list_any (is_of g) l.waits) at.apart.locks ∙ free

    -- NOTHING BUT A MARK
    Came-noted : (mark : Mark) (marks' : List Mark) (e : RowEnd) (last : rule.RowEnd) → marks' ≡ marks ++ mark ∷ [] → last ≡ end_of e → waits_then last ≡ false → Came stage g held entry marks' (rule.ended (noted m mark) last) e
    Came-noted mark marks' e last told is waits = record {
      at = record { apart = at.apart; told = told ∙ ap (λ (ms : List Mark). ms ++ mark ∷ []) at.told; typed = at.typed };
      end = is;
      waits = free ∙ sym waits;
    }

    pub Came-skips : (k : rule.Change) (rid : Rid) (marks' : List Mark) (e : RowEnd) → e ≡ end.Skipped → marks' ≡ marks ++ mark.Skip g k.cid rid ∷ [] → Came stage g held entry marks' (rule.skips m g k rid) e
    Came-skips k rid marks' e is told = Came-noted (mark.Skip g k.cid rid) marks' e Skipped told (sym (ap end_of is)) refl

    pub Came-faults : (k : rule.Change) (rid : Rid) (old : List Value) (fault : ArithFault) (marks' : List Mark) (e : RowEnd) → e ≡ end.Failing (cause_of fault) → marks' ≡ marks ++ mark.Fault g k.cid rid (Some old) ∷ [] → Came stage g held entry marks' (rule.faults m g k rid old fault) e
    Came-faults k rid old fault marks' e is told = Came-noted (mark.Fault g k.cid rid (Some old)) marks' e (Failing (cause_of fault)) told (sym (ap end_of is)) refl

    -- IT IS WRITTEN
    pub Came-writes : (k : rule.Change) (node : Node) (rid : Rid) (image : Option (List Value)) (held' : Held) (entry' : Entry) (marks' : List Mark) → IsPut g k.cid node k.table rid image held held' entry entry' marks marks' → node ≡ stage.found.start.node → IsRightImage stage.found.tables k.table image
        → Came stage g held' entry' marks' (rule.ended (writes_row g k.cid k.table m rid image) Written) end.Written
    Came-writes k node rid image held' entry' marks' put at_node right = record {
      at =
          record {
            apart = IsApart-written stage.found.start stage.first held held' g k.cid node k.table rid image m entry entry' marks marks' at.apart put;
            told = told-written stage.found.start stage.first held held' g k.cid node k.table rid image m entry entry' marks marks' at.apart put at_node at.told;
            typed = typed-written stage.found.tables g k.cid k.table m rid image at.typed right;
          };
      end = refl;
      waits = free-written stage.found.start stage.first held held' g k.cid node k.table rid image m entry entry' marks marks' at.apart put free;
    }

    -- THE COMMAND FAILS, OR WAITS
    pub Came-overtaken : (rid : Rid) (writer : Gxid) → Came stage g held entry marks (rule.ended m (Failing (Serialization rid writer))) (end.Failing (Serialization rid writer))
    Came-overtaken rid writer = record { at = at; end = refl; waits = free }

    pub Came-waits : (k : rule.Change) (rid : Rid) (v : Version) (writer : Gxid) (node : Node) (now : Locks) (marks' : List Mark) → rule.is_settled m g v.gxid ≡ false → writer ≡ v.gxid → node ≡ stage.found.start.node → now ≡ stop_locks g rid writer held.locks → marks' ≡ marks ++ stop_marks node g rid writer held.locks
        → Came stage g (record held { locks = now }) entry marks' (rule.at_current m g k rid (Some v)) end.Waiting
    Came-waits k rid v writer node now marks' unsettled is at_node locks told =
        subst (λ (t : rule.RowTurn). let h : Held = record held { locks = now } in Came stage g h entry marks' t end.Waiting) (sym turn) (record {
          at =
              IsAt-moved_on (stop_locks g rid v.gxid m.seg.locks) now (stop_marks m.seg.node g rid v.gxid m.seg.locks) marks' (AreOwn-stop g rid v.gxid m.seg.locks at.apart.owned) (AreWriters-stop g rid v.gxid m.seg at.apart.writers) (others-stop g rid v.gxid m.seg.locks)
              (locks ∙ ap (λ (w : Gxid). stop_locks g rid w held.locks) is ∙ ap (stop_locks g rid v.gxid) at.apart.locks)
              (told
              ∙ ap (λ (w : Gxid). marks ++ stop_marks node g rid w held.locks) is
              ∙ ap (λ (n : Node). marks ++ stop_marks n g rid v.gxid held.locks) (at_node ∙ sym at.apart.node)
              ∙ ap (λ (l : Locks). marks ++ stop_marks m.seg.node g rid v.gxid l) at.apart.locks);
          end = refl;
          waits = waits-stop g rid v.gxid m.seg.locks;
        })
      where
        turn : rule.at_current m g k rid (Some v) ≡ rule.ended (moved_on m (stop_locks g rid v.gxid m.seg.locks) (stop_marks m.seg.node g rid v.gxid m.seg.locks)) Waiting
        turn = ap (λ (b : Bool). if b then rule.processes m g k rid v k.level else rule.waits_at m g rid v.gxid) unsettled ∙ waits_at-stops m g rid v.gxid

-- ITS LOCK IS GIVEN BACK
module _ (stage : Stage) (g : Gxid) (rid : Rid) (held : Held) (entry : Entry) (marks : List Mark) (turn : rule.RowTurn) (e : RowEnd) (came : Came stage g held entry marks turn e) (node : Node) (at_node : node ≡ stage.found.start.node) (now : Locks) (marks' : List Mark) where
  abbrev reached : Stage
  reached = record stage { moved = turn.moved }

  abbrev after_row : Held
  after_row = record held { locks = now }

  given_back : now ≡ left_locks g rid held.locks → marks' ≡ marks ++ left_marks node g rid held.locks → IsAt (record stage { moved = rule.gives_back_if_held (rule.tuple_lock g rid) turn.moved }) g after_row entry marks'
  given_back locks told =
      let at = came.at in
      let m : Moved = turn.moved in
      subst (λ (n : Moved). IsAt (record stage { moved = n }) g after_row entry marks') (sym (gives_back_if_held-leaves m g rid))
      (IsAt-moved_on reached g held entry marks at (left_locks g rid m.seg.locks) now (left_marks m.seg.node g rid m.seg.locks) marks' (AreOwn-left g rid m.seg.locks at.apart.owned) (AreWriters-left g rid m.seg at.apart.writers) (λ h other. ap (find (is_of h)) (waits-left g rid m.seg.locks))
      (locks ∙ ap (left_locks g rid) at.apart.locks)
      (told ∙ ap (λ (n : Node). marks ++ left_marks n g rid held.locks) (at_node ∙ sym at.apart.node) ∙ ap (λ (l : Locks). marks ++ left_marks m.seg.node g rid l) at.apart.locks))

  still_free : (b : Bool) → waits_then turn.end ≡ b → list_any (is_of g) (rule.gives_back_if_held (rule.tuple_lock g rid) turn.moved).seg.locks.waits ≡ b
  still_free b e = ap (λ (n : Moved). list_any (is_of g) n.seg.locks.waits) (gives_back_if_held-leaves turn.moved g rid) ∙ ap (list_any (is_of g)) (waits-left g rid turn.moved.seg.locks) ∙ came.waits ∙ e

  unchanged : now ≡ held.locks → marks' ≡ marks ++ [] → IsAt reached g after_row entry marks'
  unchanged locks told =
      subst (λ (l : Locks). let h : Held = record held { locks = l } in IsAt reached g h entry marks') (sym locks) (subst (λ (ms : List Mark). IsAt reached g held entry ms) (sym (told ∙ append-nil marks)) came.at)

  by_end : (x : RowEnd) → e ≡ x → now ≡ locks_after (is_done_at (end_of x)) g rid held.locks → marks' ≡ marks ++ marks_after (is_done_at (end_of x)) node g rid held.locks → (p : rule.RowEnd) → p ≡ end_of x → turn.end ≡ p → Came stage g after_row entry marks' (rule.without_tuple g rid turn p) e
  by_end end.Written is locks told Written f p = record { at = given_back locks told; end = p ∙ ap end_of (sym is); waits = still_free false (ap waits_then p) ∙ sym (ap waits_then p) }
  by_end end.Skipped is locks told Skipped f p = record { at = given_back locks told; end = p ∙ ap end_of (sym is); waits = still_free false (ap waits_then p) ∙ sym (ap waits_then p) }
  by_end end.Waiting is locks told Waiting f p = record { at = unchanged locks told; end = came.end; waits = came.waits }
  by_end (end.Failing cause) is locks told (Failing other) f p = record { at = unchanged locks told; end = came.end; waits = came.waits }
  by_end end.Written is locks told Skipped f p = absurd (cc)
  by_end end.Written is locks told Waiting f p = absurd (cc)
  by_end end.Written is locks told (Failing other) f p = absurd (cc)
  by_end end.Skipped is locks told Written f p = absurd (cc)
  by_end end.Skipped is locks told Waiting f p = absurd (cc)
  by_end end.Skipped is locks told (Failing other) f p = absurd (cc)
  by_end end.Waiting is locks told Written f p = absurd (cc)
  by_end end.Waiting is locks told Skipped f p = absurd (cc)
  by_end end.Waiting is locks told (Failing other) f p = absurd (cc)
  by_end (end.Failing cause) is locks told Written f p = absurd (cc)
  by_end (end.Failing cause) is locks told Skipped f p = absurd (cc)
  by_end (end.Failing cause) is locks told Waiting f p = absurd (cc)

  pub Came-left : now ≡ locks_after (is_done_at (end_of e)) g rid held.locks → marks' ≡ marks ++ marks_after (is_done_at (end_of e)) node g rid held.locks → Came stage g after_row entry marks' (rule.without_tuple g rid turn turn.end) e
  Came-left locks told = by_end e refl locks told turn.end came.end refl
