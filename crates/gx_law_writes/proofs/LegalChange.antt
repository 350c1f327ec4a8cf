-- What the command does to a row is legal at its point.
use Rattle.std.proofs.Common.{◌≡◌, ◌∙◌, ◌⊎◌, inl, inr, ℕ, ◌<◌, ◌≤◌, ◌==◌, Bool, true, false, not, ◌&&◌, ◌||◌, List, [], ◌∷◌, ◌++◌, Option, Some, None, Result, Ok, Err, ap, refl, sym, subst, if◌then◌else◌, arith, nat_lt, take}
use Rattle.std.proofs.lemmas.Bool.Decides.{nat_tests}
use Rattle.std.specs.Prelude.{find, reverse}
use Rattle.gx_ids.specs.declared.ids.Cid.{Cid}
use Rattle.gx_ids.specs.declared.ids.Gxid.{Gxid}
use Rattle.gx_ids.specs.declared.ids.Node.{Node}
use Rattle.gx_ids.specs.declared.ids.SessionId.{SessionId}
use Rattle.gx_ids.specs.declared.rid.Rid.{Rid}
use Rattle.gx_tree.specs.declared.stmt.Assign.{Assign}
use Rattle.gx_tree.specs.declared.stmt.Level.{Level}
use Rattle.gx_tree.specs.declared.stmt.Level.TheVariants.{ReadCommitted, RepeatableRead}
use Rattle.gx_tree.specs.declared.stmt.Stmt.{Stmt}
use Rattle.gx_tree.specs.declared.stmt.Stmt.TheVariants.{Delete, Update}
use Rattle.gx_tree.specs.declared.value.Value.{Value}
use Rattle.gx_meaning.specs.Expressions.{and_then}
use Rattle.gx_meaning.specs.declared.fault.ArithFault.{ArithFault}
use Rattle.gx_script.specs.declared.Script.{Script}
use Rattle.gx_store.specs.declared.mark.Mark.{Mark}
use Rattle.gx_store.specs.declared.mark.Mark.TheVariants as mark
use Rattle.gx_store.specs.Commands.{condition_on}
use Rattle.gx_store.specs.Faults.{FaultsInSet, FaultsOnCurrent, IsFaultOf}
use Rattle.gx_store.specs.Journals.{is_same_node}
use Rattle.gx_store.specs.Refusals.{IsOvertakenRow}
use Rattle.gx_store.specs.Marks.{is_command_of, is_committed, is_processed, is_same_gxid, is_same_rid, is_written, node_of}
use Rattle.gx_store.specs.Writes.{IsDeleted, IsSkipOf, IsSkipped, IsUpdated, IsWriteOf, set_row}
use Rattle.gx_rules.specs.Changes.{Change, new_image}
use Rattle.gx_lemmas.proofs.Tests.{true-false}
use Rattle.gx_rules.specs.Segments.{Seg, Version}
use Rattle.gx_rules.specs.Shown.{counts}
use Rattle.gx_rules.specs.Slices.{Moved}
use Rattle.gx_rules.specs.Visits.{FaultsAt, IsLeft, IsNow, IsOvertakenAt, IsSettled, SkipsIt, WritesIt}
use Rattle.gx_law_order.proofs.Lists.{each_append}
use Rattle.gx_law_order.specs.Lists.{Each}
use Rattle.gx_law_order.proofs.SegItems.{writes_at}
use Rattle.gx_law_reads.specs.Sights.{IsOnlyAt}
use Rattle.gx_law_writes.proofs.Chosen.{IsChosen, Sight, current-for, its-told, its-write, selected, told-now}
use Rattle.gx_law_writes.proofs.Current.{IsAtHome, one-of, only-append, settled-ends, work-here}
use Rattle.gx_law_writes.proofs.Frames.{Inv, IsWork}
use Rattle.gx_law_writes.proofs.Sound.{IsToldOf}

-- the statement that the change is
abbrev pub IsStatement : Change → Option (List Assign) → Stmt → Type 0
IsStatement k (Some assigns) stmt = stmt ≡ Update k.table assigns k.cond
IsStatement k None stmt = stmt ≡ Delete k.table k.cond

-- WHERE THE ROW STANDS
same-node : (a b : Node) → is_same_node a b ≡ true → a ≡ b
same-node a b e = grind (arith, nat_tests)

pub only-node : (node : Node) (rid : Rid) (ms : List Mark) → IsOnlyAt node rid ms → is_written ms rid ≡ true → node_of ms rid ≡ Some node
only-node node rid [] o e = absurd cc
only-node node rid (mark.Write g c n t r x ∷ ms) o e = by_test (is_same_rid r rid) refl e (only-node node rid ms o.1)
  where
    by_test : (b : Bool) → is_same_rid r rid ≡ b → (b || is_written ms rid) ≡ true → (is_written ms rid ≡ true → node_of ms rid ≡ Some node) → (if b then Some n else node_of ms rid) ≡ Some node
    by_test true f e more = ap (λ z. Some z) (same-node n node (o.0 f))
    by_test false f e more = more e
only-node node rid (m ∷ ms) o e = only-node node rid ms o e

-- rows with versions are written
each-written : (node : Node) (ms : List Mark) → Each (λ (v : Version). is_written ms v.rid ≡ true) (writes_at node ms)
each-written node [] = tt
each-written node (mark.Write g c n t r x ∷ ms) = by_node (is_same_node n node) (each-more (writes_at node ms) (each-written node ms))
  where
    each-more : (vs : List Version) → Each (λ (v : Version). is_written ms v.rid ≡ true) vs → Each (λ (v : Version). (is_same_rid r v.rid || is_written ms v.rid) ≡ true) vs
    each-more [] e = tt
    each-more (v ∷ vs) e = (or-second (is_same_rid r v.rid) (is_written ms v.rid) e.0, each-more vs e.1)
      where
        or-second : (a b : Bool) → b ≡ true → (a || b) ≡ true
        or-second a b e = grind arith

    self : (a : Rid) (b : Bool) → (is_same_rid a a || b) ≡ true
    self a b = grind (arith, nat_tests)

    by_node : (b : Bool) → Each (λ (v : Version). (is_same_rid r v.rid || is_written ms v.rid) ≡ true) (writes_at node ms)
        → Each (λ (v : Version). (is_same_rid r v.rid || is_written ms v.rid) ≡ true) (if b then record { gxid = g; cid = c; table = t; rid = r; image = x } ∷ writes_at node ms else writes_at node ms)
    by_node true e = (self r (is_written ms r), e)
    by_node false e = e
each-written node (m ∷ ms) = each-written node ms

-- and processed by who has written them
each-processed : (node : Node) (ms : List Mark) → Each (λ (v : Version). is_processed ms v.gxid v.cid v.rid ≡ true) (writes_at node ms)
each-processed node [] = tt
each-processed node (mark.Write g c n t r x ∷ ms) = by_node (is_same_node n node) (each-more (writes_at node ms) (each-processed node ms))
  where
    each-more : (vs : List Version) → Each (λ (v : Version). is_processed ms v.gxid v.cid v.rid ≡ true) vs → Each (λ (v : Version). is_processed (mark.Write g c n t r x ∷ ms) v.gxid v.cid v.rid ≡ true) vs
    each-more [] e = tt
    each-more (v ∷ vs) e = (or-second (is_command_of v.gxid v.cid g c && is_same_rid r v.rid) (is_processed ms v.gxid v.cid v.rid) e.0, each-more vs e.1)
      where
        or-second : (a b : Bool) → b ≡ true → (a || b) ≡ true
        or-second a b e = grind arith

    self : (b : Bool) → ((is_command_of g c g c && is_same_rid r r) || b) ≡ true
    self b = grind (arith, nat_tests)

    by_node : (b : Bool) → Each (λ (v : Version). is_processed (mark.Write g c n t r x ∷ ms) v.gxid v.cid v.rid ≡ true) (writes_at node ms) → Each (λ (v : Version). is_processed (mark.Write g c n t r x ∷ ms) v.gxid v.cid v.rid ≡ true) (if b then record { gxid = g; cid = c; table = t; rid = r; image = x } ∷ writes_at node ms else writes_at node ms)
    by_node true e = (self (is_processed ms g c r), e)
    by_node false e = e
each-processed node (mark.Skip h d r ∷ ms) = each-skip (writes_at node ms) (each-processed node ms)
  where
    each-skip : (vs : List Version) → Each (λ (v : Version). is_processed ms v.gxid v.cid v.rid ≡ true) vs → Each (λ (v : Version). is_processed (mark.Skip h d r ∷ ms) v.gxid v.cid v.rid ≡ true) vs
    each-skip [] e = tt
    each-skip (v ∷ vs) e = (or-second (is_command_of v.gxid v.cid h d && is_same_rid r v.rid) (is_processed ms v.gxid v.cid v.rid) e.0, each-skip vs e.1)
      where
        or-second : (a b : Bool) → b ≡ true → (a || b) ≡ true
        or-second a b e = grind arith
each-processed node (m ∷ ms) = each-processed node ms

same-gxids : (a b : Gxid) → is_same_gxid a b ≡ true → a ≡ b
same-gxids a b e = grind (arith, nat_tests)

both : (a b d : Bool) → a ≡ true → b ≡ true → ((a && b) || d) ≡ true
both a b d e f = grind arith

le-same : (n : ℕ) → n ≤ n
le-same n = omega arith

not-less : (a b : ℕ) → nat_lt a b ≡ false → a ≤ b → a ≡ b
not-less a b e l = grind (arith, nat_tests)

same-rids : (a b : Rid) → is_same_rid a b ≡ true → a ≡ b
same-rids a b e = grind (arith, nat_tests)

-- AND_THEN, TAKEN APART
abbrev the_result : Result (Option (List Value)) ArithFault → Result (Option (List Value)) ArithFault
the_result r = r

ok-same : (x y : Option (List Value)) → the_result (Ok x) ≡ Ok y → x ≡ y
ok-same x y e = cc

set-made : (row : Result (List Value) ArithFault) (image : Option (List Value)) → and_then row (λ new. Ok (Some new)) ≡ Ok image → (new : List Value) × (row ≡ Ok new) × (image ≡ Some new)
set-made (Ok new) image e = (new, refl, sym (ok-same (Some new) image e))
set-made (Err fault) image e = absurd cc

set-failed : (row : Result (List Value) ArithFault) (fault : ArithFault) → and_then row (λ new. Ok (Some new)) ≡ Err fault → row ≡ Err fault
set-failed (Ok new) fault e = absurd cc
set-failed (Err other) fault e = cc

module _ (before : List Mark) (s : Seg) (g : Gxid) (k : Change) (sight : Sight before s g k) (m : Moved) (i : Inv s before g k.cid k.table m) (rid : Rid) (chosen : IsChosen sight.rows k rid) (home : IsAtHome before s k.table rid)
    (new : is_processed (before ++ m.marks) g k.cid rid ≡ false) where
  abbrev marks : List Mark
  marks = before ++ m.marks

  its-node : (v : Version) → IsSettled m g k rid v → node_of marks rid ≡ Some s.node
  its-node v settled =
      let found = one-of before g k s m i sight.place (told-now before s g k sight m i) sight.alive sight.either rid home v settled.current (λ (v : Version). is_written marks v.rid ≡ true)
      (subst (Each (λ (v : Version). is_written marks v.rid ≡ true)) (sym i.versions) (each-written s.node marks)) in
      only-node s.node rid marks (only-append s.node rid before m.marks home.home (work-here s.node rid g k.cid m.marks i.work)) (subst (λ r. is_written marks r ≡ true) (same-rids v.rid rid found.1) found.0)

  module _ (script : Script) where
    -- A WRITE
    updates : (assigns : List Assign) (image : Option (List Value)) (w : WritesIt m g k rid image) → k.set ≡ Some assigns → IsUpdated marks k.level g k.cid k.table assigns k.cond rid image
    updates assigns image w set =
        let made = set-made (set_row assigns w.old) image (sym (ap (λ x. new_image x w.old) set) ∙ w.made) in
        record {
          selected = selected before s g k sight m i rid chosen home w.version w.settled;
          old = w.old;
          new = made.0;
          image_before = (its-write before s g k sight m i rid chosen home w.version w.settled).image ∙ w.before;
          current = current-for before s g k sight m i rid chosen home w.version w.settled k.level w.old refl w.now;
          set = made.1;
          written = made.2;
        }

    deletes : (image : Option (List Value)) (w : WritesIt m g k rid image) → k.set ≡ None → IsDeleted marks k.level g k.cid k.table k.cond rid image
    deletes image w set =
        record {
          selected = selected before s g k sight m i rid chosen home w.version w.settled;
          old = w.old;
          image_before = (its-write before s g k sight m i rid chosen home w.version w.settled).image ∙ w.before;
          current = current-for before s g k sight m i rid chosen home w.version w.settled k.level w.old refl w.now;
          written = ok-same image None (sym w.made ∙ ap (λ x. new_image x w.old) set);
        }

    pub writes-so : (set : Option (List Assign)) (stmt : Stmt) (image : Option (List Value)) → k.set ≡ set → IsStatement k set stmt → WritesIt m g k rid image → IsWriteOf script marks k.level g k.cid stmt s.node k.table rid image
    writes-so (Some assigns) stmt image set of w = subst (λ q. IsWriteOf script marks k.level g k.cid q s.node k.table rid image) (sym of) (refl, its-node w.version w.settled, new, updates assigns image w set)
    writes-so None stmt image set of w = subst (λ q. IsWriteOf script marks k.level g k.cid q s.node k.table rid image) (sym of) (refl, its-node w.version w.settled, new, deletes image w set)

    -- A SKIP
    left-by : (v : Version) (old : Option (List Value)) → old ≡ v.image → IsLeft k v → (old ≡ None) ⊎ ((row : List Value) × (old ≡ Some row) × (condition_on k.cond row ≡ Ok false))
    left-by v old e (inl gone) = inl (e ∙ gone)
    left-by v old e (inr x) = inr (x.0, e ∙ x.1, x.2)

    pub skips-so : (set : Option (List Assign)) (stmt : Stmt) → IsStatement k set stmt → SkipsIt m g k rid → IsSkipOf marks k.level g k.cid stmt rid
    skips-so set stmt of w = by_set set of
      where
        skipped : IsSkipped marks k.level g k.cid k.table k.cond rid
        skipped =
            record {
              isolation = w.isolation;
              selected = selected before s g k sight m i rid chosen home w.version w.settled;
              left = left-by w.version _ (its-write before s g k sight m i rid chosen home w.version w.settled).image w.left;
            }

        by_set : (set : Option (List Assign)) → IsStatement k set stmt → IsSkipOf marks k.level g k.cid stmt rid
        by_set (Some assigns) of = subst (λ q. IsSkipOf marks k.level g k.cid q rid) (sym of) (new, skipped)
        by_set None of = subst (λ q. IsSkipOf marks k.level g k.cid q rid) (sym of) (new, skipped)

    -- A FAULT
    in-set : (assigns : List Assign) (image : Option (List Value)) (fault : ArithFault) (f : FaultsAt m g k rid image fault) → k.set ≡ Some assigns → IsNow k.level m g k f.version f.old → new_image k.set f.old ≡ Err fault
        → FaultsInSet marks k.level g k.cid k.table assigns k.cond rid image fault
    in-set assigns image fault f set now failed =
        record {
          selected = selected before s g k sight m i rid chosen home f.version f.settled;
          old = f.old;
          image_before = (its-write before s g k sight m i rid chosen home f.version f.settled).image ∙ f.before;
          current = current-for before s g k sight m i rid chosen home f.version f.settled k.level f.old refl now;
          meant = f.noted;
          faults = set-failed (set_row assigns f.old) fault (sym (ap (λ x. new_image x f.old) set) ∙ failed);
        }

    on-current : (image : Option (List Value)) (fault : ArithFault) (f : FaultsAt m g k rid image fault) → k.level ≡ ReadCommitted → condition_on k.cond f.old ≡ Err fault → FaultsOnCurrent marks k.level g k.cid k.table k.cond rid image fault
    on-current image fault f level failed =
        record {
          isolation = level;
          selected = selected before s g k sight m i rid chosen home f.version f.settled;
          old = f.old;
          image_before = (its-write before s g k sight m i rid chosen home f.version f.settled).image ∙ f.before;
          meant = f.noted;
          faults = failed;
        }

    no-delete-fault : (old : List Value) (fault : ArithFault) → new_image None old ≡ Err fault → ⊥
    no-delete-fault old fault e = cc

    pub faults-so : (set : Option (List Assign)) (stmt : Stmt) (image : Option (List Value)) (fault : ArithFault) → k.set ≡ set → IsStatement k set stmt → FaultsAt m g k rid image fault → IsFaultOf marks k.level g k.cid stmt rid image fault
    faults-so set stmt image fault at of f = by_set set at of f.faults
      where
        by_set : (set : Option (List Assign)) → k.set ≡ set → IsStatement k set stmt
            → ((k.level ≡ ReadCommitted) × (condition_on k.cond f.old ≡ Err fault)) ⊎ (IsNow k.level m g k f.version f.old × (new_image k.set f.old ≡ Err fault))
            → IsFaultOf marks k.level g k.cid stmt rid image fault
        by_set (Some assigns) at of (inl x) = subst (λ q. IsFaultOf marks k.level g k.cid q rid image fault) (sym of) (inr (inl (on-current image fault f x.0 x.1)))
        by_set (Some assigns) at of (inr x) = subst (λ q. IsFaultOf marks k.level g k.cid q rid image fault) (sym of) (inr (inr (in-set assigns image fault f at x.0 x.1)))
        by_set None at of (inl x) = subst (λ q. IsFaultOf marks k.level g k.cid q rid image fault) (sym of) (inr (on-current image fault f x.0 x.1))
        by_set None at of (inr x) = absurd (no-delete-fault f.old fault (sym (ap (λ y. new_image y f.old) at) ∙ x.1))

  -- AN OVERTAKEN ROW
  own-early : (vs : List Version) → Each (λ (v : Version). (v.gxid ≡ g) × (v.cid ≡ k.cid) × (v.table ≡ k.table)) vs → Each (λ (v : Version). v.gxid ≡ g → v.cid.0 ≤ k.cid.0) vs
  own-early [] e = tt
  own-early (v ∷ vs) e = (λ mine. subst (λ d. d.0 ≤ k.cid.0) (sym e.0.1) (le-same k.cid.0), own-early vs e.1)

  early-now : Each (λ (v : Version). v.gxid ≡ g → v.cid.0 ≤ k.cid.0) m.seg.versions
  early-now = subst (Each (λ (v : Version). v.gxid ≡ g → v.cid.0 ≤ k.cid.0)) (sym i.added.is) (each_append _ s.versions i.added.own sight.early (own-early i.added.own i.added.mine))

  -- its current write is of a transaction that committed after the snapshot
  pub overtaken-so : (writer : Gxid) → IsOvertakenAt m g k rid writer → IsOvertakenRow marks k.level g k.cid k.table k.cond rid writer
  overtaken-so writer o =
      record {
        selected = selected before s g k sight m i rid chosen home o.version o.settled;
        writer = (its-write before s g k sight m i rid chosen home o.version o.settled).gxid ∙ sym o.is;
        committed = ap (is_committed marks) o.is ∙ its-commit;
        unseen = ap (is_committed (take sight.place marks)) o.is ∙ or-first (is_committed (take sight.place marks) o.version.gxid) _ (sym told.counted ∙ o.uncounted);
      }
    where
      told : IsToldOf marks sight.place k.snapshot g k.cid m.seg o.version
      told = its-told before s g k sight m i rid chosen home o.version o.settled

      or-first : (a b : Bool) → (a || b) ≡ false → a ≡ false
      or-first a b e = grind arith

      -- its own earlier writes count, and this command has not written the row
      not-own : is_same_gxid o.version.gxid g ≡ true → ⊥
      not-own mine = by_test (nat_lt o.version.cid.0 k.cid.0) refl
        where
          same : o.version.gxid ≡ g
          same = same-gxids o.version.gxid g mine

          found : (o.version.gxid ≡ g → o.version.cid.0 ≤ k.cid.0) × (is_same_rid o.version.rid rid ≡ true)
          found = one-of before g k s m i sight.place (told-now before s g k sight m i) sight.alive sight.either rid home o.version o.settled.current (λ (v : Version). v.gxid ≡ g → v.cid.0 ≤ k.cid.0) early-now

          done : (is_processed marks o.version.gxid o.version.cid o.version.rid ≡ true) × (is_same_rid o.version.rid rid ≡ true)
          done = one-of before g k s m i sight.place (told-now before s g k sight m i) sight.alive sight.either rid home o.version o.settled.current (λ (v : Version). is_processed marks v.gxid v.cid v.rid ≡ true)
              (subst (Each (λ (v : Version). is_processed marks v.gxid v.cid v.rid ≡ true)) (sym i.versions) (each-processed s.node marks))

          counts-own : nat_lt o.version.cid.0 k.cid.0 ≡ true → counts m.seg k.snapshot g k.cid o.version ≡ true
          counts-own less = both (is_same_gxid o.version.gxid g) (nat_lt o.version.cid.0 k.cid.0) _ mine less

          by_test : (b : Bool) → nat_lt o.version.cid.0 k.cid.0 ≡ b → ⊥
          by_test true less = true-false (counts m.seg k.snapshot g k.cid o.version) (counts-own less) o.uncounted
          by_test false less =
              let equal : o.version.cid ≡ k.cid = ap (λ n. let d : Cid = record { 0 = n } in d) (not-less o.version.cid.0 k.cid.0 less (found.0 same)) in
              true-false (is_processed marks g k.cid rid) (subst (λ h. is_processed marks h k.cid rid ≡ true) same (subst (λ d. is_processed marks o.version.gxid d rid ≡ true) equal (subst (λ r. is_processed marks o.version.gxid o.version.cid r ≡ true) (same-rids o.version.rid rid found.1) done.0))) new

      its-commit : is_committed marks o.version.gxid ≡ true
      its-commit = by_ends (settled-ends before g k s m i sight.place (told-now before s g k sight m i) sight.alive sight.either rid home o.version o.settled.current o.settled.settled)
        where
          by_ends : (is_same_gxid o.version.gxid g ≡ true) ⊎ (is_committed marks o.version.gxid ≡ true) → is_committed marks o.version.gxid ≡ true
          by_ends (inl mine) = absurd (not-own mine)
          by_ends (inr e) = e
