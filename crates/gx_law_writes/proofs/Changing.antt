-- What an UPDATE or DELETE keeps, row by row: each write stands where its row was inserted, behind the row's INSERT, and leaves the
-- row's key where the script does.
use Rattle.std.proofs.Common.{◌≡◌, ◌<◌, inl, inr, ℕ, List, [], ◌∷◌, ◌++◌, Option, Some, None, Result, Ok, Err, Bool, true, refl, sym, subst, ap, ◌∙◌, ◌==◌, ◌&&◌, arith, append-nil}
use Rattle.std.proofs.lemmas.Bool.Decides.{nat_tests}
use Rattle.std.proofs.lemmas.List.{append_assoc}
use Rattle.std.specs.Prelude.{map, slice_get, slice_set}
use Rattle.gx_lemmas.proofs.Lists.{get-set-other}
use Rattle.gx_lemmas.proofs.Options.{some-same}
use Rattle.gx_lemmas.proofs.Tests.{true-false}
use Rattle.gx_ids.specs.declared.ids.Cid.{Cid}
use Rattle.gx_ids.specs.declared.ids.Gxid.{Gxid}
use Rattle.gx_ids.specs.declared.ids.Node.{Node}
use Rattle.gx_ids.specs.declared.ids.Table.{Table}
use Rattle.gx_ids.specs.declared.rid.Rid.{Rid}
use Rattle.gx_tree.specs.declared.schema.Dist.{Dist}
use Rattle.gx_tree.specs.declared.schema.Dist.TheVariants.{By, Randomly}
use Rattle.gx_tree.specs.declared.slice.Slice.{Slice}
use Rattle.gx_tree.specs.declared.slice.Slice.TheVariants as slice
use Rattle.gx_tree.specs.declared.stmt.Assign.{Assign}
use Rattle.gx_tree.specs.declared.stmt.Level.{Level}
use Rattle.gx_tree.specs.declared.stmt.Stmt.{Stmt}
use Rattle.gx_tree.specs.declared.value.Value.{Value}
use Rattle.gx_dsnap.specs.declared.snapshot.Snapshot.{Snapshot}
use Rattle.gx_waits.specs.declared.claim.Claim.{Claim}
use Rattle.gx_waits.specs.declared.object.Object.{Object}
use Rattle.gx_waits.specs.declared.object.Object.TheVariants.{Relation, Transaction, Tuple}
use Rattle.gx_locks.proofs.Filed.{find-passes}
use Rattle.gx_meaning.specs.Expressions.{and_then, value_of}
use Rattle.gx_meaning.specs.Statements.{IsOneOf, KeepsKey as LeavesKey, assigned_column}
use Rattle.gx_meaning.specs.declared.fault.ArithFault.{ArithFault}
use Rattle.gx_script.specs.declared.Script.{Script}
use Rattle.gx_store.specs.declared.mark.Mark.{Mark}
use Rattle.gx_store.specs.declared.mark.Mark.TheVariants as mark
use Rattle.gx_store.specs.Lines.{is_on_rows}
use Rattle.gx_store.specs.Marks.{is_same_rid, is_written}
use Rattle.gx_store.specs.Writes.{dist_of, set_from, set_row}
use Rattle.gx_store.proofs.Rows.{same_rid}
use Rattle.gx_rules.specs.Changes.{Change, change_of, new_image}
use Rattle.gx_rules.specs.Locks.{hold_mark, release_mark}
use Rattle.gx_rules.specs.Running.{is_granted, unless_end}
use Rattle.gx_rules.specs.Segments.{Seg, Version, is_unaborted, local_of}
use Rattle.gx_rules.specs.Shown.{is_current}
use Rattle.gx_rules.specs.Slices.{Moved, gives_back, noted, own_lock, starts_from, takes_lock, version, writes_row}
use Rattle.gx_rules.specs.Visits.{WritesIt}
use Rattle.gx_rules.proofs.Moving.{Keeps}
use Rattle.gx_law_order.proofs.Lists.{each_append, each_weaker}
use Rattle.gx_law_order.specs.Lists.{Each}
use Rattle.gx_law_order.proofs.Waiting.{freed}
use Rattle.gx_law_order.specs.Scanned.{stmt_of_command}
pub use Rattle.gx_law_writes.specs.Says.{changing_stmt, stmt_of_change}
use Rattle.gx_law_writes.specs.Homes.{IsPlaced, IsSameKey, KeepsItsKey, KeepsKey}
use Rattle.gx_law_writes.proofs.Pieces.{IsSliceOf, delete-line, update-line}
use Rattle.gx_law_writes.proofs.Rows.{MayFollow, SoFar, by-own, given-so-far, locked-so-far, marked-so-far, none-so-far, still-added, wrote}
use Rattle.gx_law_writes.proofs.Versions.{IsHomeVersion, each-newest, version-more}

-- THE STATEMENT
pub change-on-rows : (k : Change) → is_on_rows (stmt_of_change k) ≡ true
change-on-rows k = by_set k.set
  where
    by_set : (set : Option (List Assign)) → is_on_rows (changing_stmt k.table k.cond set) ≡ true
    by_set (Some assigns) = refl
    by_set None = refl

pub change-line : (c : Cid) (level : Level) (snapshot : Option Snapshot) (x : Slice) (k : Change) → change_of c level snapshot x ≡ Some k → (line : Stmt) → IsSliceOf line x → line ≡ stmt_of_change k
change-line c level (Some s) (slice.Update t a d) k e line is = subst (λ (z : Change). line ≡ stmt_of_change z) (some-same _ k e) (update-line line t a d is)
change-line c level (Some s) (slice.Delete t d) k e line is = subst (λ (z : Change). line ≡ stmt_of_change z) (some-same _ k e) (delete-line line t d is)
change-line c level (Some s) (slice.Select q) k e line is = absurd (cc)
change-line c level (Some s) (slice.Insert t rows) k e line is = absurd (cc)
change-line c level (Some s) (slice.Lock t m) k e line is = absurd (cc)
change-line c level None (slice.Update t a d) k e line is = absurd (cc)
change-line c level None (slice.Delete t d) k e line is = absurd (cc)
change-line c level None (slice.Select q) k e line is = absurd (cc)
change-line c level None (slice.Insert t rows) k e line is = absurd (cc)
change-line c level None (slice.Lock t m) k e line is = absurd (cc)

-- THE KEY
-- SET leaves each column that it doesn't write
set-leaves : (column : ℕ) (assigns : List Assign) (old new made : List Value) → (IsOneOf column (map assigned_column assigns) → ⊥) → set_from old new assigns ≡ Ok made → slice_get made column ≡ slice_get new column
set-leaves column [] old new made none e = ap (λ row. slice_get row column) (same new made e)
  where
    same : (a b : List Value) → (let o : Result (List Value) ArithFault = Ok a in o) ≡ Ok b → b ≡ a
    same a b q = cc
set-leaves column (a ∷ rest) old new made none e = by_value (value_of old a.expr) e (λ value f. set-leaves column rest old (slice_set new a.col value) made (λ one. none (inr one)) f)
  where
    by_value : (o : Result Value ArithFault) → and_then o (λ value. set_from old (slice_set new a.col value) rest) ≡ Ok made
        → ((value : Value) → set_from old (slice_set new a.col value) rest ≡ Ok made → slice_get made column ≡ slice_get (slice_set new a.col value) column) → slice_get made column ≡ slice_get new column
    by_value (Ok value) f more = more value f ∙ get-set-other new a.col column value (λ same. none (inl same))
    by_value (Err fault) f more = absurd (cc)

same-key-set : (dist : Dist) (assigns : List Assign) (values old new : List Value) → LeavesKey dist assigns → set_row assigns old ≡ Ok new → IsSameKey dist values old → IsSameKey dist values new
same-key-set (By column) assigns values old new leaves set same = set-leaves column assigns old old new leaves set ∙ same
same-key-set Randomly assigns values old new leaves set same = tt

key-set : (dist : Dist) (set : Option (List Assign)) (values old : List Value) (image : Option (List Value)) → ((assigns : List Assign) → set ≡ Some assigns → LeavesKey dist assigns) → new_image set old ≡ Ok image → IsSameKey dist values old → KeepsKey dist values image
key-set dist None values old image leaves made same = subst (KeepsKey dist values) (gone image made) tt
  where
    gone : (image : Option (List Value)) → (let o : Result (Option (List Value)) ArithFault = Ok None in o) ≡ Ok image → None ≡ image
    gone image e = cc
key-set dist (Some assigns) values old image leaves made same = by_row (set_row assigns old) refl made
  where
    made-same : (x y : Option (List Value)) → (let o : Result (Option (List Value)) ArithFault = Ok x in o) ≡ Ok y → x ≡ y
    made-same x y e = cc

    by_row : (o : Result (List Value) ArithFault) → set_row assigns old ≡ o → and_then o (λ new. Ok (Some new)) ≡ Ok image → KeepsKey dist values image
    by_row (Ok new) e f = subst (KeepsKey dist values) (made-same (Some new) image f) (same-key-set dist assigns values old new (leaves assigns refl) e same)
    by_row (Err fault) e f = absurd (cc)

-- ROW BY ROW
-- The command runs on this segment, behind these marks of its turn.
module _ (script : Script) (ms : List Mark) (node : Node) (nexts : ℕ → ℕ) (g : Gxid) (k : Change) (line : stmt_of_command script ms g k.cid ≡ Some (stmt_of_change k)) (b : Seg) (named : b.node ≡ node) (lead : List Mark) where
  abbrev IsHome : List Mark → Version → Type 0
  IsHome xs v = IsHomeVersion script ms node nexts ((ms ++ lead) ++ xs) v

  pub record ChangedSoFar (m : Moved) : Type 0 where
    pub rows : SoFar script ms b g nexts lead m
    pub versions : Each (IsHome m.marks) m.seg.versions

  home-behind : (m : Moved) (x : Mark) (v : Version) → IsHome m.marks v → IsHome (m.marks ++ x ∷ []) v
  home-behind m x v h = subst (λ xs. IsHomeVersion script ms node nexts xs v) (append_assoc (ms ++ lead) m.marks (x ∷ [])) (version-more script ms node nexts ((ms ++ lead) ++ m.marks) (x ∷ []) v h)

  all-behind : (m : Moved) (x : Mark) (vs : List Version) → Each (IsHome m.marks) vs → Each (IsHome (m.marks ++ x ∷ [])) vs
  all-behind m x vs e = each_weaker (IsHome m.marks) (IsHome (m.marks ++ x ∷ [])) (λ v h. home-behind m x v h) vs e

  -- a lock is granted, or given back
  pub locked-changed : (wanted : Claim) (m : Moved) → ChangedSoFar m → ChangedSoFar (takes_lock wanted m)
  locked-changed wanted m f = record { rows = locked-so-far script ms b g nexts lead wanted m f.rows; versions = all-behind m (hold_mark m.seg.node wanted) m.seg.versions f.versions }

  pub given-changed : (old : Claim) (m : Moved) → ChangedSoFar m → ChangedSoFar (gives_back old m)
  given-changed old m f = record { rows = given-so-far script ms b g nexts lead old m f.rows; versions = all-behind m (release_mark m.seg.node old) m.seg.versions f.versions }

  -- a row is skipped, or faulted on
  noted-changed : (m : Moved) (x : Mark) → MayFollow script ms b g nexts lead m x → ChangedSoFar m → ChangedSoFar (noted m x)
  noted-changed m x may f = record { rows = marked-so-far script ms b g nexts lead m m.seg x f.rows f.rows.still may; versions = all-behind m x m.seg.versions f.versions }

  table-is : (a c : Table) → (a.0 == c.0) ≡ true → a ≡ c
  table-is a c e = grind (arith, nat_tests)

  first : (a c d : Bool) → (a && (c && d)) ≡ true → a ≡ true
  first a c d e = grind arith

  second : (a c d : Bool) → (a && (c && d)) ≡ true → c ≡ true
  second a c d e = grind arith

  -- what it writes of a row is at home as what it has found there
  module _ (m : Moved) (rid : Rid) (image : Option (List Value)) (why : WritesIt m g k rid image) (f : ChangedSoFar m) where
    passes : is_current m.seg k.table rid why.version ≡ true
    passes = find-passes (is_current m.seg k.table rid) _ why.version why.settled.current

    found : IsHome m.marks why.version
    found = each-newest (IsHome m.marks) (is_current m.seg k.table rid) m.seg.versions why.version f.versions why.settled.current

    its-rid : why.version.rid ≡ rid
    its-rid = same_rid why.version.rid rid (second (why.version.table.0 == k.table.0) (is_same_rid why.version.rid rid) (is_unaborted (local_of m.seg why.version.gxid).phase) passes)

    its-table : why.version.table ≡ k.table
    its-table = table-is why.version.table k.table (first (why.version.table.0 == k.table.0) (is_same_rid why.version.rid rid) (is_unaborted (local_of m.seg why.version.gxid).phase) passes)

    was : IsPlaced script ms node k.table rid (Some why.old)
    was =
        subst (IsPlaced script ms node k.table rid) why.before
        (subst (λ t. IsPlaced script ms node t rid why.version.image) its-table (subst (λ r. IsPlaced script ms node why.version.table r why.version.image) its-rid found.placed))

    leaves : KeepsItsKey script k.table → (assigns : List Assign) → k.set ≡ Some assigns → LeavesKey (dist_of script.tables k.table.0) assigns
    leaves keeps assigns e = keeps ms g k.cid assigns k.cond (line ∙ ap (λ set. Some (changing_stmt k.table k.cond set)) e)

    new-home : IsHome m.marks (version g k.cid k.table rid image)
    new-home =
        record {
          placed = record {
            values = was.values;
            row_of = was.row_of;
            place = was.place;
            key = λ keeps. key-set (dist_of script.tables k.table.0) k.set was.values why.old image (leaves keeps) why.made (was.key keeps);
          };
          written = subst (λ r. is_written ((ms ++ lead) ++ m.marks) r ≡ true) its-rid found.written;
          past = subst (λ (r : Rid). r.cid.0 < nexts r.gxid.0) its-rid found.past;
        }

    may-write : MayFollow script ms b g nexts lead m (mark.Write g k.cid m.seg.node k.table rid image)
    may-write =
        subst (λ n. MayFollow script ms b g nexts lead m (mark.Write g k.cid n k.table rid image)) (sym (f.rows.still.node ∙ named))
        (record { home = (new-home.placed, λ none. absurd (true-false _ new-home.written none)); past = (sym named, new-home.past) })

    now : ChangedSoFar (wrote g k.cid k.table m rid image)
    now =
        record {
          rows = marked-so-far script ms b g nexts lead m (wrote g k.cid k.table m rid image).seg x f.rows (still-added b g k.cid k.table m rid image f.rows.still) may-write;
          versions = each_append (IsHome (m.marks ++ x ∷ [])) m.seg.versions (version g k.cid k.table rid image ∷ []) (all-behind m x m.seg.versions f.versions) (home-behind m x (version g k.cid k.table rid image) new-home, tt);
        }
      where
        x : Mark
        x = mark.Write g k.cid m.seg.node k.table rid image

    wrote-changed : ChangedSoFar (writes_row g k.cid k.table m rid image)
    wrote-changed = by-own ChangedSoFar g (local_of m.seg g).phase (wrote g k.cid k.table m rid image) (locked-changed (own_lock g) (wrote g k.cid k.table m rid image) now) now

  -- each move of the loop keeps it
  pub rows-kept : Keeps g k ChangedSoFar
  rows-kept =
      record {
        takes = λ m rid free f. locked-changed _ m f;
        gives = λ m rid held f. given-changed _ m f;
        writes = λ m rid image why f. wrote-changed m rid image why f;
        skips = λ m rid why f. noted-changed m (mark.Skip g k.cid rid) (record { home = tt; past = tt }) f;
        faults = λ m rid image f. noted-changed m (mark.Fault g k.cid rid image) (record { home = tt; past = tt }) f;
      }

  -- at its beginning
  pub none-changed : Each (IsHomeVersion script ms node nexts ms) b.versions → ChangedSoFar (starts_from b)
  none-changed e =
      record {
        rows = none-so-far script ms b g nexts lead;
        versions = each_weaker (IsHomeVersion script ms node nexts ms) (IsHome [])
            (λ v h. subst (λ xs. IsHomeVersion script ms node nexts xs v) (sym (append-nil (ms ++ lead))) (version-more script ms node nexts ms lead v h)) b.versions e;
      }

-- a lock that it has waited for is granted, and given back where it is another's end
pub granted-changed : (script : Script) (ms : List Mark) (node : Node) (nexts : ℕ → ℕ) (g : Gxid) (k : Change) (line : stmt_of_command script ms g k.cid ≡ Some (stmt_of_change k)) (s : Seg) (wanted : Claim) (named : (freed s g wanted).node ≡ node)
    → ChangedSoFar script ms node nexts g k line (freed s g wanted) named [] (starts_from (freed s g wanted)) → ChangedSoFar script ms node nexts g k line (freed s g wanted) named [] (is_granted s g wanted)
granted-changed script ms node nexts g k line s wanted named f =
    by_object wanted.object (noted-changed script ms node nexts g k line (freed s g wanted) named [] (starts_from (freed s g wanted)) (hold_mark s.node wanted) (record { home = tt; past = tt }) f)
  where
    held : Moved
    held = noted (starts_from (freed s g wanted)) (hold_mark s.node wanted)

    Changed : Moved → Type 0
    Changed m = ChangedSoFar script ms node nexts g k line (freed s g wanted) named [] m

    by_object : (o : Object) → Changed held → Changed (unless_end wanted o held)
    by_object (Transaction other) h = given-changed script ms node nexts g k line (freed s g wanted) named [] wanted held h
    by_object (Relation table) h = h
    by_object (Tuple rid) h = h
