-- What a slice does row by row: behind each of its small moves its segment stands as it stood, but for its transaction's phase, and
-- its marks are at home, past and legal. An INSERT is such a row of writes.
use Rattle.std.proofs.Common.{◌≡◌, ◌≤◌, ◌<◌, ℕ, ◌+◌, List, [], ◌∷◌, ◌++◌, Option, Some, Bool, true, false, refl, sym, subst, ap, ◌∙◌, if◌then◌else◌, ◌&&◌, arith, eqb}
use Rattle.std.proofs.lemmas.Bool.{eqb-true, or_left, or_right}
use Rattle.std.proofs.lemmas.Bool.Decides.{nat_tests}
use Rattle.std.proofs.lemmas.List.{append_assoc}
use Rattle.std.specs.Prelude.{fold}
use Rattle.gx_lemmas.proofs.Numbers.{eqb-self}
use Rattle.gx_ids.specs.declared.ids.Cid.{Cid}
use Rattle.gx_ids.specs.declared.ids.Gxid.{Gxid}
use Rattle.gx_ids.specs.declared.ids.Node.{Node}
use Rattle.gx_ids.specs.declared.ids.Table.{Table}
use Rattle.gx_ids.specs.declared.rid.Rid.{Rid}
use Rattle.gx_tree.specs.declared.row.KeyedRow.{KeyedRow}
use Rattle.gx_tree.specs.declared.value.Value.{Value}
use Rattle.gx_waits.specs.declared.claim.Claim.{Claim}
use Rattle.gx_locks.specs.Locks.{Locks}
use Rattle.gx_msg.specs.declared.message.Message.{Message}
use Rattle.gx_script.specs.declared.Script.{Script}
use Rattle.gx_store.specs.declared.event.Event.{Event}
use Rattle.gx_store.specs.declared.mark.Mark.{Mark}
use Rattle.gx_store.specs.declared.mark.Mark.TheVariants as mark
use Rattle.gx_store.specs.declared.run.Step.{Step}
use Rattle.gx_store.specs.Marks.{is_command_of, is_same_rid}
use Rattle.gx_store.proofs.Marks.{is_processed-append}
use Rattle.gx_rules.specs.Locks.{hold_mark, release_mark}
use Rattle.gx_rules.specs.Segments.{Local, Phase, Seg, SegTurn, Suspended, local_of}
use Rattle.gx_rules.specs.Segments.Phase.{Reading, Writing}
use Rattle.gx_rules.specs.Slices.{Moved, adds_version, gives_back, inserted, inserts_row, own_lock, starts_from, takes_lock, takes_own, version, writes_row}
use Rattle.gx_law_order.proofs.Lists.{each_append, each_weaker}
use Rattle.gx_law_order.specs.Lists.{Each}
use Rattle.gx_law_order.proofs.Waiting.{freed}
use Rattle.gx_law_order.specs.Rest.{EachMark}
use Rattle.gx_law_order.proofs.Given.{marks-append}
use Rattle.gx_law_writes.specs.Homes.{AreRowsHome, IsHomeMark}
use Rattle.gx_law_writes.specs.Rows.{is_own_written}
use Rattle.gx_law_writes.specs.Writes.{WriteLegal}
use Rattle.gx_law_writes.proofs.Homes.{homes-append}
use Rattle.gx_law_writes.proofs.Legal.{Behind, IsPastHere, behind-hold, behind-next}
use Rattle.gx_law_writes.proofs.Told.{IsWritten, written-more}
use Rattle.gx_law_writes.proofs.Turns.{InsertGoesOn, Inserted, NoFault, NoWrite, base}

-- a write takes its transaction's own lock, or nothing more
pub by-own : (P : Moved → Type 0) (g : Gxid) (p : Phase) (m : Moved) → P (takes_lock (own_lock g) m) → P m → P (takes_own g p m)
by-own P g Reading m held free = held
by-own P g p m held free = free

-- the write alone
abbrev pub wrote : Gxid → Cid → Table → Moved → Rid → Option (List Value) → Moved
wrote g c table m rid image = record { seg = adds_version m.seg g (version g c table rid image); marks = m.marks ++ mark.Write g c m.seg.node table rid image ∷ [] }

-- THE TRANSACTION AT THE SEGMENT
-- behind its small moves only the transaction's phase is another
pub record IsStillAt (b : Seg) (g : Gxid) (s : Seg) : Type 0 where
  pub node : s.node ≡ b.node
  pub last : (s.locals g.0).last ≡ (b.locals g.0).last
  pub answer : (s.locals g.0).answer ≡ (b.locals g.0).answer
  pub suspended : (s.locals g.0).suspended ≡ (b.locals g.0).suspended
  pub others : (h : ℕ) → eqb h g.0 ≡ false → s.locals h ≡ b.locals h

pub still-itself : (b : Seg) (g : Gxid) → IsStillAt b g b
still-itself b g = record { node = refl; last = refl; answer = refl; suspended = refl; others = λ h e. refl }

pub still-locked : (b : Seg) (g : Gxid) (s : Seg) (locks : Locks) → IsStillAt b g s → IsStillAt b g (record s { locks = locks })
still-locked b g s locks f = record { node = f.node; last = f.last; answer = f.answer; suspended = f.suspended; others = f.others }

module _ (b : Seg) (g : Gxid) (c : Cid) (table : Table) where
  -- a row's write, and behind it the transaction's own lock
  pub still-added : (m : Moved) (rid : Rid) (image : Option (List Value)) → IsStillAt b g m.seg → IsStillAt b g (adds_version m.seg g (version g c table rid image))
  still-added m rid image f =
      record {
        node = f.node;
        last = ap (λ q. (if q then writing else m.seg.locals g.0).last) (eqb-self g.0) ∙ f.last;
        answer = ap (λ q. (if q then writing else m.seg.locals g.0).answer) (eqb-self g.0) ∙ f.answer;
        suspended = ap (λ q. (if q then writing else m.seg.locals g.0).suspended) (eqb-self g.0) ∙ f.suspended;
        others = λ h e. ap (λ q. if q then writing else m.seg.locals h) e ∙ f.others h e;
      }
    where
      writing : Local
      writing = record (m.seg.locals g.0) { phase = Writing }

  still-wrote : (m : Moved) (rid : Rid) (image : Option (List Value)) → IsStillAt b g m.seg → IsStillAt b g (writes_row g c table m rid image).seg
  still-wrote m rid image f =
      by-own (λ (x : Moved). IsStillAt b g x.seg) g (local_of m.seg g).phase (wrote g c table m rid image) (still-locked b g (wrote g c table m rid image).seg _ (still-added m rid image f)) (still-added m rid image f)

  still-inserts : (rows : List KeyedRow) (m : Moved) → IsStillAt b g m.seg → IsStillAt b g (fold (inserts_row g c table) m rows).seg
  still-inserts [] m f = f
  still-inserts (r ∷ rs) m f = still-inserts rs (inserts_row g c table m r) (still-wrote m r.rid (Some r.row) f)

-- what was kept as an answer is kept
pub inserted-answers : (b : Seg) (g : Gxid) (c : Cid) (table : Table) (rows : List KeyedRow) (h : ℕ) → ((inserted b g c table rows).seg.locals h).answer ≡ (b.locals h).answer
inserted-answers b g c table rows h = by_test (eqb h g.0) refl
  where
    still : IsStillAt b g (inserted b g c table rows).seg
    still = still-inserts b g c table rows (starts_from b) (still-itself b g)

    by_test : (q : Bool) → eqb h g.0 ≡ q → ((inserted b g c table rows).seg.locals h).answer ≡ (b.locals h).answer
    by_test true e = subst (λ j. ((inserted b g c table rows).seg.locals j).answer ≡ (b.locals j).answer) (sym (eqb-true h g.0 e)) still.answer
    by_test false e = ap (λ (l : Local). l.answer) (still.others h e)

-- MARKS
-- what holds of each
each-wrote : (P : Mark → Type 0) (g : Gxid) (c : Cid) (table : Table) (m : Moved) (rid : Rid) (image : Option (List Value)) → Each P m.marks → P (mark.Write g c m.seg.node table rid image) → P (hold_mark m.seg.node (own_lock g)) → Each P (writes_row g c table m rid image).marks
each-wrote P g c table m rid image e w h =
    by-own (λ (x : Moved). Each P x.marks) g (local_of m.seg g).phase (wrote g c table m rid image) (each_append P (m.marks ++ write ∷ []) (hold_mark m.seg.node (own_lock g) ∷ []) now (h, tt)) now
  where
    write : Mark
    write = mark.Write g c m.seg.node table rid image

    now : Each P (m.marks ++ write ∷ [])
    now = each_append P m.marks (write ∷ []) e (w, tt)

-- it faults on no row
rows-no-fault : (g : Gxid) (c : Cid) (table : Table) (rows : List KeyedRow) (m : Moved) → Each NoFault m.marks → Each NoFault (fold (inserts_row g c table) m rows).marks
rows-no-fault g c table [] m e = e
rows-no-fault g c table (r ∷ rs) m e = rows-no-fault g c table rs (inserts_row g c table m r) (each-wrote NoFault g c table m r.rid (Some r.row) e tt tt)

pub inserted-no-fault : (b : Seg) (g : Gxid) (c : Cid) (table : Table) (rows : List KeyedRow) → Each NoFault (inserted b g c table rows).marks
inserted-no-fault b g c table rows = rows-no-fault g c table rows (starts_from b) tt

pub insert-no-fault : (script : Script) (s : Seg) (m : Message) (turn : SegTurn) → Inserted script s m turn → Each NoFault turn.marks
insert-no-fault script s m turn x = subst (λ (y : SegTurn). Each NoFault y.marks) (sym x.ran) (tt, inserted-no-fault (base s x.horizon x.locks) x.g x.c x.table x.rows)

pub resumption-no-fault : (s : Seg) (g : Gxid) (x : Suspended) (turn : SegTurn) → InsertGoesOn s g x turn → Each NoFault turn.marks
resumption-no-fault s g x turn y = subst (λ (z : SegTurn). Each NoFault z.marks) (sym y.ran) (tt, inserted-no-fault (freed s g y.wanted) g x.cid y.table y.rows)

-- what more marks keep
module _ (Q : List Mark → Type 0) (more : (xs ys : List Mark) → Q xs → Q (xs ++ ys)) (g : Gxid) (c : Cid) (table : Table) where
  pub wrote-more : (m : Moved) (rid : Rid) (image : Option (List Value)) → Q (m.marks ++ mark.Write g c m.seg.node table rid image ∷ []) → Q (writes_row g c table m rid image).marks
  wrote-more m rid image q = by-own (λ (x : Moved). Q x.marks) g (local_of m.seg g).phase (wrote g c table m rid image) (more _ (hold_mark m.seg.node (own_lock g) ∷ []) q) q

  inserts-more : (rows : List KeyedRow) (m : Moved) → Q m.marks → Q (fold (inserts_row g c table) m rows).marks
  inserts-more [] m q = q
  inserts-more (r ∷ rs) m q = inserts-more rs (inserts_row g c table m r) (wrote-more m r.rid (Some r.row) (more m.marks _ q))

-- AN INSERT'S ROWS ARE WRITTEN
-- they have the command's identity
abbrev pub IsOwnRow : Gxid → Cid → KeyedRow → Type 0
IsOwnRow g c row = (row.rid.gxid ≡ g) × (row.rid.cid ≡ c)

module _ (before : List Mark) (g : Gxid) (c : Cid) (table : Table) where
  wrote-it : (xs : List Mark) (node : Node) (row : KeyedRow) → IsOwnRow g c row → is_own_written (xs ++ mark.Write g c node table row.rid (Some row.row) ∷ []) row.rid ≡ true
  wrote-it xs node row own =
      is_processed-append xs (mark.Write g c node table row.rid (Some row.row) ∷ []) row.rid.gxid row.rid.cid row.rid
      ∙ or_right (is_own_written xs row.rid) _ (or_left (is_command_of row.rid.gxid row.rid.cid g c && is_same_rid row.rid row.rid) false (own-mark row.rid own))
    where
      five : (a b c : ℕ) → ((eqb a a && eqb b b) && (eqb a a && (eqb b b && eqb c c))) ≡ true
      five a b c = grind (arith, nat_tests)

      own-mark : (r : Rid) → (r.gxid ≡ g) × (r.cid ≡ c) → (is_command_of r.gxid r.cid g c && is_same_rid r r) ≡ true
      own-mark r own =
          subst (λ (h : Gxid). (is_command_of r.gxid r.cid h c && is_same_rid r r) ≡ true) own.0
          (subst (λ (d : Cid). (is_command_of r.gxid r.cid r.gxid d && is_same_rid r r) ≡ true) own.1 (five r.gxid.0 r.cid.0 r.ordinal))

  abbrev Has : Rid → List Mark → Type 0
  Has rid xs = is_own_written (before ++ xs) rid ≡ true

  has-more : (rid : Rid) (xs ys : List Mark) → Has rid xs → Has rid (xs ++ ys)
  has-more rid xs ys e = subst (λ zs. is_own_written zs rid ≡ true) (append_assoc before xs ys) (written-more (before ++ xs) ys rid e)

  rows-written : (rows : List KeyedRow) (m : Moved) → Each (IsOwnRow g c) rows → Each (IsWritten (before ++ (fold (inserts_row g c table) m rows).marks)) rows
  rows-written [] m own = tt
  rows-written (r ∷ rs) m own = (
    inserts-more (Has r.rid) (has-more r.rid) g c table rs (inserts_row g c table m r)
        (wrote-more (Has r.rid) (has-more r.rid) g c table m r.rid (Some r.row) (subst (λ zs. is_own_written zs r.rid ≡ true) (append_assoc before m.marks _) (wrote-it (before ++ m.marks) m.seg.node r own.0))),
    rows-written rs (inserts_row g c table m r) own.1,
  )

pub inserted-written : (before : List Mark) (b : Seg) (g : Gxid) (c : Cid) (table : Table) (rows : List KeyedRow) → Each (IsOwnRow g c) rows → Each (IsWritten (before ++ (inserted b g c table rows).marks)) rows
inserted-written before b g c table rows own = rows-written before g c table rows (starts_from b) own

-- behind one of its rows the next may be written
pub behind-wrote : (g : Gxid) (c : Cid) (k : ℕ) (lead : List Mark) (table : Table) (m : Moved) (row : KeyedRow) → Behind g c k (lead ++ m.marks) → k ≤ row.rid.ordinal → Behind g c (row.rid.ordinal + 1) (lead ++ (inserts_row g c table m row).marks)
behind-wrote g c k lead table m row b l =
    by-own (λ (x : Moved). Behind g c (row.rid.ordinal + 1) (lead ++ x.marks)) g (local_of m.seg g).phase n
    (subst (Behind g c (row.rid.ordinal + 1)) (append_assoc lead n.marks _) (behind-hold g c (row.rid.ordinal + 1) (lead ++ n.marks) m.seg.node (own_lock g) now)) now
  where
    n : Moved
    n = wrote g c table m row.rid (Some row.row)

    now : Behind g c (row.rid.ordinal + 1) (lead ++ n.marks)
    now = subst (Behind g c (row.rid.ordinal + 1)) (append_assoc lead m.marks _) (behind-next g c k (lead ++ m.marks) m.seg.node table row b l)

-- HOME AND PAST
-- The slice runs on this segment, behind these marks of its turn.
module _ (script : Script) (ms : List Mark) (b : Seg) (g : Gxid) (nexts : ℕ → ℕ) (lead : List Mark) where
  pub record SoFar (m : Moved) : Type 0 where
    pub still : IsStillAt b g m.seg
    pub homes : AreRowsHome script ms (ms ++ lead) m.marks
    pub past : Each (IsPastHere nexts b.node) m.marks

  -- a mark that may come next
  pub record MayFollow (m : Moved) (x : Mark) : Type 0 where
    pub home : IsHomeMark script ms ((ms ++ lead) ++ m.marks) x
    pub past : IsPastHere nexts b.node x

  -- one that writes nothing may
  pub no-write-follows : (m : Moved) (x : Mark) → NoWrite x → MayFollow m x
  no-write-follows m (mark.Write h d n t r y) e = absurd e
  no-write-follows m x e = record { home = tt; past = tt }

  pub none-so-far : SoFar (starts_from b)
  none-so-far = record { still = still-itself b g; homes = tt; past = tt }

  pub marked-so-far : (m : Moved) (s : Seg) (x : Mark) → SoFar m → IsStillAt b g s → MayFollow m x → SoFar (record { seg = s; marks = m.marks ++ x ∷ [] })
  marked-so-far m s x f still k =
      record {
        still = still;
        homes = homes-append script ms (ms ++ lead) m.marks (x ∷ []) f.homes (k.home, tt);
        past = each_append (IsPastHere nexts b.node) m.marks (x ∷ []) f.past (k.past, tt);
      }

  pub locked-so-far : (wanted : Claim) (m : Moved) → SoFar m → SoFar (takes_lock wanted m)
  locked-so-far wanted m f = marked-so-far m (takes_lock wanted m).seg (hold_mark m.seg.node wanted) f (still-locked b g m.seg _ f.still) (no-write-follows m (hold_mark m.seg.node wanted) tt)

  pub given-so-far : (old : Claim) (m : Moved) → SoFar m → SoFar (gives_back old m)
  given-so-far old m f = marked-so-far m (gives_back old m).seg (release_mark m.seg.node old) f (still-locked b g m.seg _ f.still) (no-write-follows m (release_mark m.seg.node old) tt)

  pub wrote-so-far : (c : Cid) (table : Table) (m : Moved) (rid : Rid) (image : Option (List Value)) → SoFar m → MayFollow m (mark.Write g c m.seg.node table rid image) → SoFar (writes_row g c table m rid image)
  wrote-so-far c table m rid image f k = by-own SoFar g (local_of m.seg g).phase (wrote g c table m rid image) (locked-so-far (own_lock g) (wrote g c table m rid image) now) now
    where
      now : SoFar (wrote g c table m rid image)
      now = marked-so-far m (wrote g c table m rid image).seg (mark.Write g c m.seg.node table rid image) f (still-added b g c table m rid image f.still) k

-- where more commands have run
pub so-far-later : (script : Script) (ms : List Mark) (b : Seg) (g : Gxid) (f h : ℕ → ℕ) (lead : List Mark) → ((i : ℕ) → f i ≤ h i) → (m : Moved) → SoFar script ms b g f lead m → SoFar script ms b g h lead m
so-far-later script ms b g f h lead later m s =
    record { still = s.still; homes = s.homes; past = each_weaker (IsPastHere f b.node) (IsPastHere h b.node) past-later m.marks s.past }
  where
    lt-le : {a b c : ℕ} → a < b → b ≤ c → a < c
    lt-le x y = omega arith

    past-later : (x : Mark) → IsPastHere f b.node x → IsPastHere h b.node x
    past-later (mark.Write k d n t r y) p = (p.0, lt-le p.1 (later r.gxid.0))
    past-later x p = tt

-- LEGAL
module _ (script : Script) (steps : List Step) (e : Event) (lead : List Mark) where
  -- each of the marks so far, whatever comes behind it
  abbrev pub IsLegalSoFar : Moved → Type 0
  IsLegalSoFar m = (later : List Mark) → EachMark (WriteLegal script) steps e lead m.marks later

  legal-marked : (m : Moved) (s : Seg) (x : Mark) → IsLegalSoFar m → ((later : List Mark) → WriteLegal script (record { steps = steps; event = e; earlier = lead ++ m.marks; later = later }) x) → IsLegalSoFar (record { seg = s; marks = m.marks ++ x ∷ [] })
  legal-marked m s x f k later = marks-append (WriteLegal script) steps e lead m.marks (x ∷ []) later (f (x ∷ later)) (k later, tt)

  pub legal-wrote : (g : Gxid) (c : Cid) (table : Table) (m : Moved) (rid : Rid) (image : Option (List Value)) → IsLegalSoFar m
      → ((later : List Mark) → WriteLegal script (record { steps = steps; event = e; earlier = lead ++ m.marks; later = later }) (mark.Write g c m.seg.node table rid image)) → IsLegalSoFar (writes_row g c table m rid image)
  legal-wrote g c table m rid image f k =
      by-own IsLegalSoFar g (local_of m.seg g).phase (wrote g c table m rid image)
      (legal-marked (wrote g c table m rid image) (takes_lock (own_lock g) (wrote g c table m rid image)).seg (hold_mark m.seg.node (own_lock g)) now (λ later. tt)) now
    where
      now : IsLegalSoFar (wrote g c table m rid image)
      now = legal-marked m (wrote g c table m rid image).seg (mark.Write g c m.seg.node table rid image) f k
