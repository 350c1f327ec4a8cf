-- The command goes through its rows.
use Rattle.std.proofs.Common.{◌≡◌, ◌∙◌, ◌⊎◌, inl, inr, ℕ, ◌+◌, Bool, true, false, not, ◌&&◌, ◌||◌, List, [], ◌∷◌, ◌++◌, Option, Some, None, ap, refl, sym, subst, if◌then◌else◌, arith}
use Rattle.std.proofs.lemmas.Bool.Decides.{nat_tests}
use Rattle.std.proofs.lemmas.List.{append-nil, append_assoc}
use Rattle.gx_ids.specs.declared.ids.Cid.{Cid}
use Rattle.gx_ids.specs.declared.ids.Gxid.{Gxid}
use Rattle.gx_ids.specs.declared.ids.Node.{Node}
use Rattle.gx_ids.specs.declared.ids.Table.{Table}
use Rattle.gx_ids.specs.declared.rid.Rid.{Rid}
use Rattle.gx_tree.specs.declared.row.KeyedRow.{KeyedRow}
use Rattle.gx_tree.specs.declared.value.Value.{Value}
use Rattle.gx_msg.specs.declared.reply.Cause.{Cause}
use Rattle.gx_lemmas.proofs.Tests.{or-false}
use Rattle.gx_store.specs.declared.mark.Mark.{Mark}
use Rattle.gx_store.specs.declared.mark.Mark.TheVariants as mark
use Rattle.gx_store.specs.Marks.{is_command_of, is_processed, is_same_rid}
use Rattle.gx_rules.specs.Changes.{Change, RowEnd, RowTurn, does_row, ended, gives_back_if_held, tuple_lock}
use Rattle.gx_rules.specs.Changes.RowEnd.{Failing, Skipped, Waiting, Written}
use Rattle.gx_rules.specs.Segments.{Phase, Seg, Version, local_of}
use Rattle.gx_rules.specs.Segments.Phase.{Aborted, Committed, Forgotten, Prepared, Reading, Writing}
use Rattle.gx_rules.specs.Slices.{Moved, adds_version, gives_back, is_holding, noted, takes_own, version, writes_row}
use Rattle.gx_rules.specs.Visits.{Does, FaultsAt, IsPath, IsUnshown, SkipsIt, Visit, WritesIt, end_of, one_if, visited, written_in}
use Rattle.gx_rules.proofs.Moving.{row-keeps}
use Rattle.gx_rules.proofs.RowEnds.{does}
use Rattle.gx_law_order.specs.Lists.{Each}
use Rattle.gx_law_writes.proofs.Frames.{Inv, stays-so}
use Rattle.gx_law_writes.proofs.Path.{Adds, AreApart, IsLock, Legals, adds-legals, adds-processed, note-adds, processes_in, write-adds}

-- how many of the versions are the command's
abbrev pub own_count : Gxid → Cid → List Version → ℕ
own_count g c [] = 0
own_count g c (v ∷ vs) = if is_command_of g c v.gxid v.cid then own_count g c vs + 1 else own_count g c vs

own-count-append : (g : Gxid) (c : Cid) (xs ys : List Version) → own_count g c (xs ++ ys) ≡ own_count g c xs + own_count g c ys
own-count-append g c [] ys = omega arith
own-count-append g c (v ∷ vs) ys = by_test (is_command_of g c v.gxid v.cid) (own-count-append g c vs ys)
  where
    moved : (a b : ℕ) → (a + b) + 1 ≡ (a + 1) + b
    moved a b = omega arith

    by_test : (b : Bool) → own_count g c (vs ++ ys) ≡ own_count g c vs + own_count g c ys
        → (if b then own_count g c (vs ++ ys) + 1 else own_count g c (vs ++ ys)) ≡ (if b then own_count g c vs + 1 else own_count g c vs) + own_count g c ys
    by_test true e = ap (λ n. n + 1) e ∙ moved (own_count g c vs) (own_count g c ys)
    by_test false e = e

-- What the rows must be for each mark to be so: `Chosen` is what is known of a row; `Ok` of a mark at its point.
pub record Rules (old pre : List Mark) (s : Seg) (g : Gxid) (k : Change) (Chosen : Rid → Type 0) (Ok : List Mark → Mark → Type 0) : Type 0 where
  pub locks : (earlier : List Mark) (x : Mark) → IsLock x → Ok earlier x
  pub write : (m : Moved) (rid : Rid) (image : Option (List Value)) → Inv s (old ++ pre) g k.cid k.table m → Chosen rid → is_processed ((old ++ pre) ++ m.marks) g k.cid rid ≡ false → WritesIt m g k rid image → Ok (pre ++ m.marks) (mark.Write g k.cid m.seg.node k.table rid image)
  pub skip : (m : Moved) (rid : Rid) → Inv s (old ++ pre) g k.cid k.table m → Chosen rid → is_processed ((old ++ pre) ++ m.marks) g k.cid rid ≡ false → SkipsIt m g k rid → Ok (pre ++ m.marks) (mark.Skip g k.cid rid)
  pub shown : (m : Moved) (rid : Rid) → Inv s (old ++ pre) g k.cid k.table m → Chosen rid → IsUnshown m g k rid → ⊥

module _ (old pre : List Mark) (s : Seg) (g : Gxid) (k : Change) (Chosen : Rid → Type 0) (Ok : List Mark → Mark → Type 0) (rules : Rules old pre s g k Chosen Ok) where
  abbrev before : List Mark
  before = old ++ pre

  abbrev pub Free : Moved → Rid → Type 0
  Free m rid = is_processed (before ++ m.marks) g k.cid rid ≡ false

  abbrev pub Done : Moved → Rid → Type 0
  Done m rid = is_processed (before ++ m.marks) g k.cid rid ≡ true

  -- a row that is done: its mark is legal, it is processed, the others aren't, and what it wrote is counted
  pub record IsDone (m n : Moved) (rid : Rid) (wrote : Bool) : Type 0 where
    pub legal : Legals Ok pre m.marks → Legals Ok pre n.marks
    pub done : Done n rid
    pub others : (q : Rid) → is_same_rid rid q ≡ false → Free m q → Free n q
    pub stays : (q : Rid) → Done m q → Done n q
    pub counts : own_count g k.cid n.seg.versions ≡ own_count g k.cid m.seg.versions + one_if wrote

  self-command : (r : Rid) → (is_command_of g k.cid g k.cid && is_same_rid r r) ≡ true
  self-command r = grind (arith, nat_tests)

  or-right : (a b : Bool) → b ≡ true → (a || b) ≡ true
  or-right a b e = grind arith

  or-left : (a b : Bool) → a ≡ true → (a || b) ≡ true
  or-left a b e = grind arith

  or-neither : (a b : Bool) → a ≡ false → b ≡ false → (a || b) ≡ false
  or-neither a b e f = grind arith

  and-no : (a b : Bool) → b ≡ false → ((a && b) || false) ≡ false
  and-no a b e = grind arith

  module _ (m n : Moved) (rid : Rid) (x : Mark) (a : Adds m n x) (its : (q : Rid) → processes_in x g k.cid q ≡ ((is_command_of g k.cid g k.cid && is_same_rid rid q) || false)) where
    done-it : Done n rid
    done-it = adds-processed before m n x g k.cid rid a ∙ or-right (is_processed (before ++ m.marks) g k.cid rid) _ (its rid ∙ or-left _ false (self-command rid))

    others-free : (q : Rid) → is_same_rid rid q ≡ false → Free m q → Free n q
    others-free q apart free = adds-processed before m n x g k.cid q a ∙ or-neither _ _ free (its q ∙ and-no (is_command_of g k.cid g k.cid) (is_same_rid rid q) apart)

    done-stays : (q : Rid) → Done m q → Done n q
    done-stays q e = adds-processed before m n x g k.cid q a ∙ or-left _ _ e

    done-by : (wrote : Bool) → Ok (pre ++ m.marks) x → own_count g k.cid n.seg.versions ≡ own_count g k.cid m.seg.versions + one_if wrote → IsDone m n rid wrote
    done-by wrote ok count = record { legal = λ l. adds-legals Ok rules.locks pre m n x a l ok; done = done-it; others = others-free; stays = done-stays; counts = count }

  back-versions : (n : Moved) (rid : Rid) → (gives_back_if_held (tuple_lock g rid) n).seg.versions ≡ n.seg.versions
  back-versions n rid = by_test (is_holding n (tuple_lock g rid))
    where
      by_test : (b : Bool) → (if b then gives_back (tuple_lock g rid) n else n).seg.versions ≡ n.seg.versions
      by_test true = refl
      by_test false = refl

  own-versions : (n : Moved) (phase : Phase) → (takes_own g phase n).seg.versions ≡ n.seg.versions
  own-versions n Reading = refl
  own-versions n Writing = refl
  own-versions n Prepared = refl
  own-versions n Committed = refl
  own-versions n (Forgotten b) = refl
  own-versions n Aborted = refl

  its-own : (table : Table) (rid : Rid) (image : Option (List Value)) → own_count g k.cid (version g k.cid table rid image ∷ []) ≡ 1
  its-own table rid image = one (is_command_of g k.cid g k.cid) self
    where
      self : is_command_of g k.cid g k.cid ≡ true
      self = grind (arith, nat_tests)

      one : (b : Bool) → b ≡ true → (if b then 0 + 1 else 0) ≡ 1
      one b e = rw e refl

  none-more : (n : ℕ) → n ≡ n + 0
  none-more n = omega arith

  module _ (m n : Moved) (rid : Rid) (i : Inv s before g k.cid k.table m) (chosen : Chosen rid) (free : Free m rid) where
    abbrev writes-to : Option (List Value) → Moved
    writes-to image = gives_back_if_held (tuple_lock g rid) (writes_row g k.cid k.table m rid image)

    wrote-it : (image : Option (List Value)) → WritesIt m g k rid image → IsDone m (writes-to image) rid true
    wrote-it image why =
        done-by m (writes-to image) rid (mark.Write g k.cid m.seg.node k.table rid image) (write-adds m g k.cid k.table rid image (tuple_lock g rid)) (λ q. refl) true (rules.write m rid image i chosen free why)
        (ap (own_count g k.cid) (back-versions (writes_row g k.cid k.table m rid image) rid ∙ own-versions written (local_of m.seg g).phase)
        ∙ own-count-append g k.cid m.seg.versions (version g k.cid k.table rid image ∷ [])
        ∙ ap (λ x. own_count g k.cid m.seg.versions + x) (its-own k.table rid image))
      where
        written : Moved
        written = record { seg = adds_version m.seg g (version g k.cid k.table rid image); marks = m.marks ++ mark.Write g k.cid m.seg.node k.table rid image ∷ [] }

    abbrev skips-to : Moved
    skips-to = gives_back_if_held (tuple_lock g rid) (noted m (mark.Skip g k.cid rid))

    skipped-it : SkipsIt m g k rid → IsDone m skips-to rid false
    skipped-it why =
        done-by m skips-to rid (mark.Skip g k.cid rid) (note-adds m (mark.Skip g k.cid rid) (tuple_lock g rid)) (λ q. refl) false (rules.skip m rid i chosen free why)
        (ap (own_count g k.cid) (back-versions (noted m (mark.Skip g k.cid rid)) rid) ∙ none-more (own_count g k.cid m.seg.versions))

    end-same : (a b : Moved) (e f : RowEnd) → ended a e ≡ ended b f → (a ≡ b) × (e ≡ f)
    end-same a b e f p = (ap (λ (t : RowTurn). t.moved) p, ap (λ (t : RowTurn). t.end) p)

    one-row : (t : RowTurn) (wrote : Bool) → Does m g k rid t → t ≡ ended n (end_of wrote) → IsDone m n rid wrote
    one-row t true (inl h) e = subst (λ z. IsDone m z rid true) (end-same _ _ _ _ (sym h.is ∙ e)).0 (wrote-it h.image h.why)
    one-row t false (inl h) e = absurd (no (end-same _ _ _ _ (sym h.is ∙ e)).1)
      where
        no : Written ≡ Skipped → ⊥
        no z = cc
    one-row t true (inr (inl h)) e = absurd (no (end-same _ _ _ _ (sym h.is ∙ e)).1)
      where
        no : Skipped ≡ Written → ⊥
        no z = cc
    one-row t false (inr (inl h)) e = by_why h.why
      where
        by_why : SkipsIt m g k rid ⊎ IsUnshown m g k rid → IsDone m n rid false
        by_why (inl why) = subst (λ z. IsDone m z rid false) (end-same _ _ _ _ (sym h.is ∙ e)).0 (skipped-it why)
        by_why (inr why) = absurd (rules.shown m rid i chosen why)
    one-row t true (inr (inr (inl h))) e = absurd (no-fail _ (end-same _ _ _ _ (sym h.is ∙ e)).1)
      where
        no-fail : (c : Cause) → Failing c ≡ Written → ⊥
        no-fail c z = cc
    one-row t false (inr (inr (inl h))) e = absurd (no-fail _ (end-same _ _ _ _ (sym h.is ∙ e)).1)
      where
        no-fail : (c : Cause) → Failing c ≡ Skipped → ⊥
        no-fail c z = cc
    one-row t true (inr (inr (inr (inl h)))) e = absurd (no-fail _ (end-same _ _ _ _ (sym h.is ∙ e)).1)
      where
        no-fail : (c : Cause) → Failing c ≡ Written → ⊥
        no-fail c z = cc
    one-row t false (inr (inr (inr (inl h)))) e = absurd (no-fail _ (end-same _ _ _ _ (sym h.is ∙ e)).1)
      where
        no-fail : (c : Cause) → Failing c ≡ Skipped → ⊥
        no-fail c z = cc
    one-row t true (inr (inr (inr (inr h)))) e = absurd (no (end-same _ _ _ _ (sym h.is ∙ e)).1)
      where
        no : Waiting ≡ Written → ⊥
        no z = cc
    one-row t false (inr (inr (inr (inr h)))) e = absurd (no (end-same _ _ _ _ (sym h.is ∙ e)).1)
      where
        no : Waiting ≡ Skipped → ⊥
        no z = cc

  -- ALL ROWS
  pub record HasGone (m last : Moved) (visits : List Visit) (rest : List Rid) : Type 0 where
    pub inv : Inv s before g k.cid k.table last
    pub legal : Legals Ok pre m.marks → Legals Ok pre last.marks
    pub done : Each (Done last) (visited visits)
    pub stays : (q : Rid) → Done m q → Done last q
    pub left : Each (Free last) rest
    pub counts : own_count g k.cid last.seg.versions ≡ own_count g k.cid m.seg.versions + written_in visits

  each-apart : (P Q : Rid → Type 0) (rid : Rid) → ((q : Rid) → is_same_rid rid q ≡ false → P q → Q q) → (rs : List Rid) → Each (λ q. is_same_rid rid q ≡ false) rs → Each P rs → Each Q rs
  each-apart P Q rid more [] a e = tt
  each-apart P Q rid more (r ∷ rs) a e = (more r a.0 e.0, each-apart P Q rid more rs a.1 e.1)

  plus-assoc : (a b c : ℕ) → (a + b) + c ≡ a + (b + c)
  plus-assoc a b c = omega arith

  pub goes : (visits : List Visit) (rest : List Rid) (m last : Moved) → Inv s before g k.cid k.table m → IsPath g k m visits last → AreApart (visited visits ++ rest) → Each Chosen (visited visits ++ rest) → Each (Free m) (visited visits ++ rest)
      → HasGone m last visits rest
  goes [] rest m last i path apart chosen free =
      subst (λ z. HasGone m z [] rest) path (record { inv = i; legal = λ l. l; done = tt; stays = λ q e. e; left = free; counts = none-more (own_count g k.cid m.seg.versions) })
  goes (v ∷ vs) rest m last i path apart chosen free =
      let one = one-row m v.after v.rid i chosen.0 free.0 (does_row m g k v.rid) v.wrote (does m g k v.rid) path.1 in
      let next = row-keeps g k (Inv s before g k.cid k.table) (stays-so s before g k.cid k.table k refl refl) m v.rid v.after v.wrote i path.1 in
      let more = goes vs rest v.after last next path.2 apart.1 chosen.1 (each-apart (Free m) (Free v.after) v.rid one.others (visited vs ++ rest) apart.0 free.1) in
      record {
        inv = more.inv;
        legal = λ l. more.legal (one.legal l);
        done = (more.stays v.rid one.done, more.done);
        stays = λ q e. more.stays q (one.stays q e);
        left = more.left;
        counts = more.counts ∙ ap (λ n. n + written_in vs) one.counts ∙ plus-assoc (own_count g k.cid m.seg.versions) (one_if v.wrote) (written_in vs);
      }
