-- What is held after an order was taken.
use Rattle.std.proofs.Common.{◌≡◌, ◌≢◌, ℕ, ◌<◌, ◌≤◌, Bool, true, false, if◌then◌else◌, Option, Some, None, List, [], ◌∷◌, ◌||◌, map, refl, sym, ap, ◌∙◌, subst, eqb, ltb, arith}
use Rattle.std.proofs.lemmas.Bool.Decides.{nat_tests}
use Rattle.std.specs.BTreeSet.{contains}
use Rattle.std.specs.List.{list_all, list_any}
use Rattle.std.specs.Prelude.{◌&&◌, not, nat_lt, is_some, option_map, filter, All, IsTrue}
use Rattle.gx_ids.specs.declared.ids.Gxid.{Gxid}
use Rattle.gx_ids.specs.declared.ids.Table.{Table}
use Rattle.gx_ids.specs.declared.rid.Rid.{Rid}
use Rattle.gx_tree.specs.declared.schema.Schema.{Schema}
use Rattle.gx_dsnap.specs.Gxids.{gxid_cmp, is_below}
use Rattle.gx_slices.specs.Store.{Write, is_by, passes, status_of, with_status, writes_of}
use Rattle.gx_waits.specs.Claim.{same_claim}
use Rattle.gx_waits.specs.declared.claim.Claim.{Claim}
use Rattle.gx_waits.specs.Claims.{is_of}
use Rattle.gx_locks.specs.Locks.{Locks, wait_of}
use Rattle.gx_node.specs.Changes.{Change, Makes, left_locks}
use Rattle.gx_node.specs.Outcomes.{Outcome}
use Rattle.gx_rules.specs.Fits.{holds_locks, is_waiting}
use Rattle.gx_rules.specs.Segments as rule
use Rattle.gx_rules.specs.Segments.{Local, Phase, Reading, Writing, Prepared, Committed, Forgotten, Aborted, Seg, SegTurn, Suspended, Version, has_committed, has_ended}
use Rattle.gx_rules.specs.Shown.{last_images}
use Rattle.gx_rules.specs.Slices.{own_lock}
use Rattle.gx_store.specs.Marks.{is_same_gxid}
use Rattle.gx_slices.specs.Agrees.{AreWriters, IsHeld, entry_at, has_version, is_right_version, local_in}
use Rattle.gx_slices.specs.Left.{AreLeft, IsLeft, IsOf, has_aborted, is_of_row, is_settled}
use Rattle.gx_slices.specs.Owning.{AreOwn, is_own}
use Rattle.gx_slices.specs.Waiting.{AreWaits, IsRightWait, is_open}
use Rattle.gx_slices.specs.declared.held.Held.{Held}
use Rattle.gx_slices.proofs.Gxids.{itself}
use Rattle.gx_slices.proofs.Left.{left-mapped}
use Rattle.gx_slices.proofs.Owning.{AreOwn-filter}
use Rattle.gx_slices.proofs.Waiting.{AreWaits-one, find-others, waits-without}
use Rattle.gx_rows.specs.Counts.{is_committed}
use Rattle.gx_rows.specs.Rows.{is_unaborted}
use Rattle.gx_rows.specs.Xids.{kept}
use Rattle.gx_rows.specs.declared.status.LocalStatus.{LocalStatus}
use Rattle.gx_segment.specs.Moves.{HasMoved, status_in}
use Rattle.gx_segment.proofs.Following.{Follows}
use Rattle.gx_segment.proofs.Lasting.{Lasts}
use Rattle.gx_segment.proofs.Gxids.{apart, below, same_gxid}

still_there : (status : LocalStatus) (old : Option LocalStatus) → is_some (option_map (λ _. status) old) ≡ is_some old
still_there status None = refl
still_there status (Some s) = refl

in_phase : (p : Phase) → is_committed (status_in p) ≡ has_committed p
in_phase Reading = refl
in_phase Writing = refl
in_phase Prepared = refl
in_phase Committed = refl
in_phase (Forgotten true) = refl
in_phase (Forgotten false) = refl
in_phase Aborted = refl

unaborted_phase : (p : Phase) → is_unaborted (status_in p) ≡ rule.is_unaborted p
unaborted_phase Reading = refl
unaborted_phase Writing = refl
unaborted_phase Prepared = refl
unaborted_phase Committed = refl
unaborted_phase (Forgotten true) = refl
unaborted_phase (Forgotten false) = refl
unaborted_phase Aborted = refl

by_phase : (test : LocalStatus → Bool) (is : Phase → Bool) → ((p : Phase) → test (status_in p) ≡ is p) → (p : Phase) (old : Option LocalStatus) → passes test (option_map (λ _. status_in p) old) ≡ (is_some old && is p)
by_phase test is same p None = refl
by_phase test is same p (Some s) = same p

-- who has ended leaves the holders
left : (ended was : Bool) (n m : ℕ) → m ≡ n → (ended ≡ false → was ≡ false) → (if ended && true then false else (nat_lt 0 n && not was)) ≡ (nat_lt 0 m && not ended)
left true was n m e f = grind (arith, nat_tests)
left false was n m e f = let w : was ≡ false = f refl in grind (arith, nat_tests)

-- WHO HOLDS ITSELF
any-filter : (p q : Claim → Bool) (holds : List Claim) → list_any p (filter q holds) ≡ true → list_any p holds ≡ true
any-filter p q [] e = e
any-filter p q (x ∷ xs) e = either (q x) (any-filter p q xs) e
  where
    or-right : (a b : Bool) → b ≡ true → (a || b) ≡ true
    or-right true b e = refl
    or-right false b e = e

    or-same : (a b c : Bool) → (b ≡ true → c ≡ true) → (a || b) ≡ true → (a || c) ≡ true
    or-same true b c f e = refl
    or-same false b c f e = f e

    either : (b : Bool) → (list_any p (filter q xs) ≡ true → list_any p xs ≡ true) → list_any p (if b then x ∷ filter q xs else filter q xs) ≡ true → (p x || list_any p xs) ≡ true
    either true more e = or-same (p x) (list_any p (filter q xs)) (list_any p xs) more e
    either false more e = or-right (p x) (list_any p xs) (more e)

-- who has given all back doesn't hold itself
own-without : (g : Gxid) (holds : List Claim) → list_any (same_claim (own_lock g)) (filter (λ claim. not (is_of g claim)) holds) ≡ false
own-without g [] = refl
own-without g (claim ∷ holds) = by_test (is_of g claim) refl (own-without g holds)
  where
    another : (a b : ℕ) (c : Bool) → eqb b a ≡ false → (eqb a b && c) ≡ false
    another a b c e = grind (arith, nat_tests)

    by_test : (b : Bool) → is_of g claim ≡ b → list_any (same_claim (own_lock g)) (filter (λ claim. not (is_of g claim)) holds) ≡ false
        → list_any (same_claim (own_lock g)) (if not b then claim ∷ filter (λ claim. not (is_of g claim)) holds else filter (λ claim. not (is_of g claim)) holds) ≡ false
    by_test true e more = more
    by_test false e more =
        ap (λ (b : Bool). b || list_any (same_claim (own_lock g)) (filter (λ claim. not (is_of g claim)) holds)) (another g.0 claim.gxid.0 _ e) ∙ more

module _ (tables : List Schema) (held held' : Held) (s : Seg) (g : Gxid) (change : Change) (taken : Outcome) (turn : SegTurn) (was : IsHeld tables held s) (alive : s.horizon.0 ≤ g.0) (moved : HasMoved held held' g change taken) (makes : Makes s g turn change) where
  abbrev now : Seg
  now = turn.seg

  versions : now.versions ≡ s.versions
  versions = ap (λ (x : Seg). x.versions) makes.others

  horizon : now.horizon ≡ s.horizon
  horizon = ap (λ (x : Seg). x.horizon) makes.others

  high : (h : Gxid) → now.horizon.0 ≤ h.0 → s.horizon.0 ≤ h.0
  high h up = subst (λ (x : Gxid). x.0 ≤ h.0) horizon up

  its : (h : Gxid) → eqb h.0 g.0 ≡ true → now.locals h.0 ≡ change.now
  its h e = makes.locals h.0 ∙ ap (λ (b : Bool). if b then change.now else s.locals h.0) e

  others : (h : Gxid) → eqb h.0 g.0 ≡ false → now.locals h.0 ≡ s.locals h.0
  others h e = makes.locals h.0 ∙ ap (λ (b : Bool). if b then change.now else s.locals h.0) e

  not_same : (h : Gxid) → h.0 ≢ g.0 → eqb h.0 g.0 ≡ false
  not_same h other = grind (arith, nat_tests, other)

  dropped : (h : Gxid) → h.0 < s.horizon.0 → entry_at held' h ≡ None
  dropped h under = moved.entries h (below g h s.horizon under alive) ∙ was.dropped h under

  locals-moved : (h : Gxid) → s.horizon.0 ≤ h.0 → (b : Bool) → eqb h.0 g.0 ≡ b → local_in (entry_at held' h) ≡ now.locals h.0
  locals-moved h up true e = subst (λ (x : Gxid). local_in (entry_at held' x) ≡ change.now) (same_gxid g h e) moved.local ∙ sym (its h e)
  locals-moved h up false e = ap local_in (moved.entries h (apart g h e)) ∙ was.locals h up ∙ sym (others h e)

  wrote-moved : (h : Gxid) (b : Bool) → eqb h.0 g.0 ≡ b → is_some (status_of held'.store h) ≡ is_some (status_of held.store h)
  wrote-moved h true e =
      subst (λ (x : Gxid). is_some (status_of held'.store x) ≡ is_some (status_of held.store x)) (same_gxid g h e)
      (ap (λ (o : Option LocalStatus). is_some o) moved.status ∙ still_there (status_in change.now.phase) (status_of held.store g))
  wrote-moved h false e = ap (λ (o : Option LocalStatus). is_some o) (moved.statuses h (apart g h e))

  -- what is told of who has written
  passes-moved : (test : LocalStatus → Bool) (is : Phase → Bool) → ((p : Phase) → test (status_in p) ≡ is p) → ((h : Gxid) → s.horizon.0 ≤ h.0 → passes test (status_of held.store h) ≡ (has_version s h && is (s.locals h.0).phase)) → (h : Gxid) → s.horizon.0 ≤ h.0 → (b : Bool) → eqb h.0 g.0 ≡ b → passes test (status_of held'.store h) ≡ (has_version s h && is (now.locals h.0).phase)
  passes-moved test is same before h up true e =
      subst (λ (x : Gxid). passes test (status_of held'.store x) ≡ (is_some (status_of held.store x) && is change.now.phase)) (same_gxid g h e)
      (ap (passes test) moved.status ∙ by_phase test is same change.now.phase (status_of held.store g))
      ∙ ap (λ (b : Bool). b && is change.now.phase) (was.wrote h up)
      ∙ ap (λ (l : Local). has_version s h && is l.phase) (sym (its h e))
  passes-moved test is same before h up false e =
      ap (passes test) (moved.statuses h (apart g h e)) ∙ before h up ∙ ap (λ (l : Local). has_version s h && is l.phase) (sym (others h e))

  has_version-moved : (h : Gxid) → has_version s h ≡ has_version now h
  has_version-moved h = ap (λ (x : Seg). has_version x h) (sym makes.others)

  holders-moved : Follows (s.locals g.0) change → (h : Gxid) (b : Bool) → eqb h.0 g.0 ≡ b → contains gxid_cmp held'.holders h ≡ holds_locks (now.locals h.0)
  holders-moved follows h true e =
      moved.holders h
      ∙ ap (λ (b : Bool). if has_ended change.now.phase && b then false else contains gxid_cmp held.holders h) e
      ∙ ap (λ (b : Bool). if has_ended change.now.phase && true then false else b) (was.holders h ∙ ap (λ (x : Gxid). holds_locks (s.locals x.0)) (sym (same_gxid g h e)))
      ∙ left (has_ended change.now.phase) (has_ended (s.locals g.0).phase) (s.locals g.0).last change.now.last follows.last follows.ended
      ∙ ap holds_locks (sym (its h e))
  holders-moved follows h false e =
      moved.holders h
      ∙ ap (λ (b : Bool). if has_ended change.now.phase && b then false else contains gxid_cmp held.holders h) e
      ∙ stays (has_ended change.now.phase) (contains gxid_cmp held.holders h)
      ∙ was.holders h
      ∙ ap holds_locks (sym (others h e))
    where
      stays : (a b : Bool) → (if a && false then false else b) ≡ b
      stays true b = refl
      stays false b = refl

  -- WHO HAS WRITTEN
  came-moved : Follows (s.locals g.0) change → (h : Gxid) (b : Bool) → eqb h.0 g.0 ≡ b → has_version s h ≡ true → nat_lt 0 (now.locals h.0).last ≡ true
  came-moved follows h true e there =
      ap (λ (l : Local). nat_lt 0 l.last) (its h e) ∙ ap (λ (n : ℕ). nat_lt 0 n) follows.last ∙ ap (λ (x : Gxid). nat_lt 0 (s.locals x.0).last) (same_gxid g h e) ∙ was.came h there
  came-moved follows h false e there = ap (λ (l : Local). nat_lt 0 l.last) (others h e) ∙ was.came h there

  low-moved : (h : Gxid) → h.0 < s.horizon.0 → has_version s h ≡ true → has_ended (now.locals h.0).phase ≡ true
  low-moved h under there = ap (λ (l : Local). has_ended l.phase) (others h (not_same h (below g h s.horizon under alive))) ∙ was.writers.low h under there

  -- who holds itself still
  held-before : (h : Gxid) (a : Bool) → list_any (same_claim (own_lock h)) (left_locks a s.locks g).holds ≡ true → list_any (same_claim (own_lock h)) s.locks.holds ≡ true
  held-before h true e = any-filter (same_claim (own_lock h)) (λ claim. not (is_of g claim)) s.locks.holds e
  held-before h false e = e

  unended : Follows (s.locals g.0) change → (a : Bool) → change.ends ≡ a → list_any (same_claim (own_lock g)) (left_locks a s.locks g).holds ≡ true → has_ended (s.locals g.0).phase ≡ false → has_ended change.now.phase ≡ false
  unended follows true e held not_ended = absurd (differ (sym (own-without g s.locks.holds) ∙ held))
    where
      differ : false ≡ true → ⊥
      differ f = cc
  unended follows false e held not_ended = follows.lasts e not_ended

  own-moved : Follows (s.locals g.0) change → (h : Gxid) (b : Bool) → eqb h.0 g.0 ≡ b → list_any (same_claim (own_lock h)) (left_locks change.ends s.locks g).holds ≡ true → (has_version s h && not (has_ended (now.locals h.0).phase)) ≡ true
  own-moved follows h false e held =
      ap (λ (l : Local). has_version s h && not (has_ended l.phase)) (others h e) ∙ was.writers.own h (held-before h change.ends held)
  own-moved follows h true e held =
      ap (λ (l : Local). has_version s h && not (has_ended l.phase)) (its h e)
      ∙ subst (λ (x : Gxid). list_any (same_claim (own_lock x)) (left_locks change.ends s.locks g).holds ≡ true → (has_version s x && not (has_ended change.now.phase)) ≡ true) (same_gxid g h e)
      (λ its_held. it_is (has_version s g) (has_ended (s.locals g.0).phase) (has_ended change.now.phase) (was.writers.own g (held-before g change.ends its_held)) (unended follows change.ends refl its_held)) held
    where
      it_is : (wrote was_ended ended : Bool) → (wrote && not was_ended) ≡ true → (was_ended ≡ false → ended ≡ false) → (wrote && not ended) ≡ true
      it_is true false ended e f = ap not (f refl)
      it_is true true ended e f = absurd (cc)
      it_is false was_ended ended e f = absurd (cc)

  writers-moved : Follows (s.locals g.0) change → AreWriters now
  writers-moved follows = record {
    low = λ h under there. low-moved h (subst (λ (x : Gxid). h.0 < x.0) horizon under) (has_version-moved h ∙ there);
    own = λ h held.
        sym (ap (λ (b : Bool). b && not (has_ended (now.locals h.0).phase)) (has_version-moved h))
        ∙ own-moved follows h (eqb h.0 g.0) refl (sym (ap (λ (x : Locks). list_any (same_claim (own_lock h)) x.holds) makes.locks) ∙ held);
  }

  -- THOSE WHO WAIT
  own : now.locals g.0 ≡ change.now
  own = its g (itself g.0)

  left-waits : (h : Gxid) → h.0 ≢ g.0 → wait_of now.locks h ≡ wait_of s.locks h
  left-waits h other = ap (λ (x : Locks). wait_of x h) makes.locks ∙ either change.ends
    where
      either : (a : Bool) → wait_of (left_locks a s.locks g) h ≡ wait_of s.locks h
      either true = find-others g h s.locks.waits other
      either false = refl

  left-own : AreOwn now.locks.holds
  left-own = ap (λ (x : Locks). list_all is_own x.holds) makes.locks ∙ either change.ends
    where
      either : (a : Bool) → AreOwn (left_locks a s.locks g).holds
      either true = AreOwn-filter (λ claim. not (is_of g claim)) s.locks.holds was.owned
      either false = was.owned

  own-waits : Follows (s.locals g.0) change → list_any (is_of g) now.locks.waits ≡ is_waiting (now.locals g.0)
  own-waits follows = ap (λ (x : Locks). list_any (is_of g) x.waits) makes.locks ∙ either change.ends ∙ sym follows.waits ∙ ap is_waiting (sym own)
    where
      either : (a : Bool) → list_any (is_of g) (left_locks a s.locks g).waits ≡ (if a then false else is_waiting (s.locals g.0))
      either true = waits-without g s.locks.waits
      either false = was.waits.standing g

  still-right : Follows (s.locals g.0) change → (w : Suspended) → (now.locals g.0).suspended ≡ Some w → IsRightWait tables now g w
  still-right follows w e = by_old (s.locals g.0).suspended refl
    where
      waiting : is_waiting change.now ≡ true
      waiting = ap (λ (l : Local). is_some l.suspended) (sym own) ∙ ap (λ (o : Option Suspended). is_some o) e

      was_waiting : (a b : Bool) → true ≡ (if a then false else b) → b ≡ true
      was_waiting true b f = absurd (cc)
      was_waiting false b f = sym f

      by_old : (o : Option Suspended) → (s.locals g.0).suspended ≡ o → IsRightWait tables now g w
      by_old None f = absurd (not_none (ap (λ (x : Option Suspended). is_some x) (sym f) ∙ was_waiting change.ends (is_waiting (s.locals g.0)) (sym waiting ∙ follows.waits)))
        where
          not_none : false ≡ true → ⊥
          not_none e = cc
      by_old (Some v) f =
          let same : now.locals g.0 ≡ s.locals g.0 = own ∙ follows.stays_so (was.waits.right g v f).open_here waiting in
          let right = was.waits.right g w (ap (λ (l : Local). l.suspended) (sym same) ∙ e) in
          record {
            alive = subst (λ (x : Gxid). x.0 ≤ g.0) (sym horizon) right.alive;
            open_here = ap (λ (l : Local). is_open l.phase) same ∙ right.open_here;
            came = ap (λ (l : Local). nat_lt 0 l.last) same ∙ right.came;
            reads = right.reads;
            right = right.right;
            new = right.new;
            room = right.room;
          }

  waits-moved : Follows (s.locals g.0) change → AreWaits tables now
  waits-moved follows =
      AreWaits-one tables s now g was.waits horizon (λ h other. others h (not_same h other)) left-waits (own-waits follows) (still-right follows)

  -- WHAT IS LEFT OF EACH ROW
  aborted-moved : Lasts (s.locals g.0) change → (v : Version) (b : Bool) → eqb v.gxid.0 g.0 ≡ b → has_aborted s v ≡ true → has_aborted now v ≡ true
  aborted-moved lasts v true e was_so =
      ap (λ (l : Local). not (rule.is_unaborted l.phase)) (its v.gxid e)
      ∙ lasts.aborted (subst (λ (h : Gxid). not (rule.is_unaborted (s.locals h.0).phase) ≡ true) (sym (same_gxid g v.gxid e)) was_so)
  aborted-moved lasts v false e was_so = ap (λ (l : Local). not (rule.is_unaborted l.phase)) (others v.gxid e) ∙ was_so

  committed-moved : Lasts (s.locals g.0) change → (v : Version) (b : Bool) → eqb v.gxid.0 g.0 ≡ b → has_committed (s.locals v.gxid.0).phase ≡ true → has_committed (now.locals v.gxid.0).phase ≡ true
  committed-moved lasts v true e was_so =
      ap (λ (l : Local). has_committed l.phase) (its v.gxid e) ∙ lasts.committed (subst (λ (h : Gxid). has_committed (s.locals h.0).phase ≡ true) (sym (same_gxid g v.gxid e)) was_so)
  committed-moved lasts v false e was_so = ap (λ (l : Local). has_committed l.phase) (others v.gxid e) ∙ was_so

  settled-moved : Lasts (s.locals g.0) change → (v : Version) → is_settled s v ≡ true → is_settled now v ≡ true
  settled-moved lasts v is =
      ap (λ (h : Gxid). has_committed (now.locals v.gxid.0).phase && is_below h v.gxid) horizon
      ∙ left_part (has_committed (s.locals v.gxid.0).phase) (has_committed (now.locals v.gxid.0).phase) (is_below s.horizon v.gxid) (committed-moved lasts v (eqb v.gxid.0 g.0) refl) is
    where
      left_part : (a b c : Bool) → (a ≡ true → b ≡ true) → (a && c) ≡ true → (b && c) ≡ true
      left_part true b c more e = ap (λ (x : Bool). x && c) (more refl) ∙ e
      left_part false b c more e = absurd (cc)

  -- What is left of each row says what it said, but for what became of the one who moved.
  by-is_by : (o : Option Gxid) → (b : Bool) → is_by o g ≡ b → (status : LocalStatus) → (w : Write) → w.writer ≡ o → with_status g status w ≡ (if b then record w { status = status } else w)
  by-is_by o b e status w at = ap (λ (x : Option Gxid). if is_by x g then record w { status = status } else w) at ∙ ap (λ (c : Bool). if c then record w { status = status } else w) e

  told-moved : (w : Write) (v : Version) → IsOf s w v → IsOf now (with_status g (status_in change.now.phase) w) v
  told-moved w v say = by_mine (eqb v.gxid.0 g.0) refl
    where
      not_below : (h : Gxid) → s.horizon.0 ≤ h.0 → ltb h.0 s.horizon.0 ≡ false
      not_below h up = grind (arith, nat_tests)

      mine : eqb v.gxid.0 g.0 ≡ true → is_by (kept s.horizon v.gxid) g ≡ true
      mine e = ap (λ (b : Bool). is_by (if b then None else Some v.gxid) g) (not_below v.gxid (subst (λ (h : Gxid). s.horizon.0 ≤ h.0) (same_gxid g v.gxid e) alive)) ∙ e

      not_mine : (b : Bool) → ltb v.gxid.0 s.horizon.0 ≡ b → eqb v.gxid.0 g.0 ≡ false → is_by (if b then None else Some v.gxid) g ≡ false
      not_mine true low e = refl
      not_mine false low e = e

      writer_now : (w.writer ≡ kept s.horizon v.gxid) → w.writer ≡ kept now.horizon v.gxid
      writer_now at = at ∙ ap (λ (h : Gxid). kept h v.gxid) (sym horizon)

      by_mine : (b : Bool) → eqb v.gxid.0 g.0 ≡ b → IsOf now (with_status g (status_in change.now.phase) w) v
      by_mine true e =
          subst (λ (x : Write). IsOf now x v) (sym (by-is_by (kept s.horizon v.gxid) true (mine e) (status_in change.now.phase) w say.writer))
          (record {
            writer = writer_now say.writer;
            cid = say.cid;
            image = say.image;
            committed = in_phase change.now.phase ∙ ap (λ (l : Local). has_committed l.phase) (sym (its_local e));
            unaborted = unaborted_phase change.now.phase ∙ ap (λ (l : Local). rule.is_unaborted l.phase) (sym (its_local e));
          })
        where
          its_local : eqb v.gxid.0 g.0 ≡ true → now.locals v.gxid.0 ≡ change.now
          its_local e = its v.gxid e
      by_mine false e =
          subst (λ (x : Write). IsOf now x v) (sym (by-is_by (kept s.horizon v.gxid) false (not_mine (ltb v.gxid.0 s.horizon.0) refl e) (status_in change.now.phase) w say.writer))
          (record {
            writer = writer_now say.writer;
            cid = say.cid;
            image = say.image;
            committed = say.committed ∙ ap (λ (l : Local). has_committed l.phase) (sym (others v.gxid e));
            unaborted = say.unaborted ∙ ap (λ (l : Local). rule.is_unaborted l.phase) (sym (others v.gxid e));
          })

  left-moved : Lasts (s.locals g.0) change → (table : Table) (rid : Rid) → AreLeft now table rid (writes_of held'.store table rid)
  left-moved lasts table rid =
      subst (λ (vs : List Version). IsLeft (IsOf now) (has_aborted now) (is_settled now) (writes_of held'.store table rid) (filter (is_of_row table rid) vs)) (sym versions)
      (subst (λ (ws : List Write). IsLeft (IsOf now) (has_aborted now) (is_settled now) ws (filter (is_of_row table rid) s.versions)) (sym (moved.writes table rid))
      (left-mapped (IsOf s) (IsOf now) (has_aborted s) (is_settled s) (has_aborted now) (is_settled now) (λ v. aborted-moved lasts v (eqb v.gxid.0 g.0) refl) (settled-moved lasts) (with_status g (status_in change.now.phase)) told-moved (writes_of held.store table rid) (filter (is_of_row table rid) s.versions) (was.writes table rid)))

  pub IsHeld-moved : Follows (s.locals g.0) change → Lasts (s.locals g.0) change → (locks : Locks) → locks ≡ left_locks change.ends held'.locks g → IsHeld tables (record held' { locks = locks }) turn.seg
  IsHeld-moved follows lasts locks left = record {
    horizon = moved.horizon ∙ was.horizon ∙ sym horizon;
    locals = λ h up. locals-moved h (high h up) (eqb h.0 g.0) refl;
    kept = λ h up. moved.rows h ∙ was.kept h (high h up) ∙ ap (λ (vs : List Version). last_images (filter (λ v. is_same_gxid v.gxid h) vs)) (sym versions);
    dropped = λ h under. dropped h (subst (λ (x : Gxid). h.0 < x.0) horizon under);
    holders = λ h. holders-moved follows h (eqb h.0 g.0) refl;
    writes = left-moved lasts;
    wrote = λ h up. wrote-moved h (eqb h.0 g.0) refl ∙ was.wrote h (high h up) ∙ has_version-moved h;
    committed = λ h up. passes-moved is_committed has_committed in_phase was.committed h (high h up) (eqb h.0 g.0) refl ∙ ap (λ (b : Bool). b && has_committed (now.locals h.0).phase) (has_version-moved h);
    unaborted = λ h up. passes-moved is_unaborted rule.is_unaborted unaborted_phase was.unaborted h (high h up) (eqb h.0 g.0) refl ∙ ap (λ (b : Bool). b && rule.is_unaborted (now.locals h.0).phase) (has_version-moved h);
    came = λ h there. came-moved follows h (eqb h.0 g.0) refl (has_version-moved h ∙ there);
    writers = writers-moved follows;
    typed = subst (λ (vs : List Version). All (λ v. IsTrue (is_right_version tables v)) vs) (sym versions) was.typed;
    locks = left ∙ ap (λ (x : Locks). left_locks change.ends x g) (moved.locks ∙ was.locks) ∙ sym makes.locks;
    owned = left-own;
    waits = waits-moved follows;
  }
