-- What the loop over rows leaves as it was: whatever is of other transactions.
use Rattle.std.proofs.Common.{◌≡◌, ◌∙◌, Bool, true, false, not, ◌||◌, List, [], ◌∷◌, ◌++◌, Option, None, ap, refl, sym, if◌then◌else◌, arith}
use Rattle.std.proofs.lemmas.Bool.Decides.{nat_tests}
use Rattle.std.specs.Prelude.{filter}
use Rattle.std.specs.List.{list_any}
use Rattle.std.proofs.lemmas.List.{append-nil, append_assoc}
use Rattle.gx_ids.specs.declared.ids.Cid.{Cid}
use Rattle.gx_ids.specs.declared.ids.Gxid.{Gxid}
use Rattle.gx_ids.specs.declared.ids.Node.{Node}
use Rattle.gx_ids.specs.declared.ids.Table.{Table}
use Rattle.gx_ids.specs.declared.rid.Rid.{Rid}
use Rattle.gx_tree.specs.declared.value.Value.{Value}
use Rattle.gx_waits.specs.Claim.{same_claim}
use Rattle.gx_waits.specs.declared.claim.Claim.{Claim}
use Rattle.gx_waits.specs.Claims.{with_claim, without_claim}
use Rattle.gx_lemmas.proofs.Tests.{true-false}
use Rattle.gx_store.specs.declared.mark.Mark.{Mark}
use Rattle.gx_store.specs.declared.mark.Mark.TheVariants as mark
use Rattle.gx_store.specs.Journals.{is_same_node}
use Rattle.gx_store.specs.Marks.{is_same_gxid}
use Rattle.gx_rules.specs.Changes.{Change, tuple_lock}
use Rattle.gx_rules.specs.Segments.{Local, Phase, Seg, Version, local_of, with_local}
use Rattle.gx_rules.specs.Segments.Phase.{Aborted, Committed, Forgotten, Prepared, Reading, Writing}
use Rattle.gx_rules.specs.Slices.{Moved, adds_version, gives_back, is_holding, noted, own_lock, takes_lock, takes_own, version}
use Rattle.gx_rules.proofs.Moving.{Keeps}
use Rattle.gx_law_order.proofs.Lists.{each_append}
use Rattle.gx_law_order.specs.Lists.{Each}
use Rattle.gx_law_order.proofs.SegItems.{writes_at, writes-append}
use Rattle.gx_law_order.specs.Pairs.{is_open}

-- CLAIMS OF ANOTHER
other-claim : (own other : Claim) → is_same_gxid other.gxid own.gxid ≡ false → same_claim other own ≡ false
other-claim own other e = rw e refl

pub held-other : (claim other : Claim) (holds : List Claim) → is_same_gxid other.gxid claim.gxid ≡ false → list_any (same_claim other) (with_claim claim holds) ≡ list_any (same_claim other) holds
held-other claim other holds e = by_test (list_any (same_claim claim) holds)
  where
    behind : (hs : List Claim) → list_any (same_claim other) (hs ++ claim ∷ []) ≡ list_any (same_claim other) hs
    behind [] = ap (λ b. b || false) (other-claim claim other e)
    behind (h ∷ hs) = ap (λ b. same_claim other h || b) (behind hs)

    by_test : (b : Bool) → list_any (same_claim other) (if b then holds else holds ++ claim ∷ []) ≡ list_any (same_claim other) holds
    by_test true = refl
    by_test false = behind holds

gxids : (claim h other : Claim) → same_claim claim h ≡ true → same_claim other h ≡ true → is_same_gxid other.gxid claim.gxid ≡ true
gxids claim h other s t = grind (arith, nat_tests)

unlike-first : (a b : Bool) → a ≡ false → (b ≡ true → a ≡ true) → b ≡ false
unlike-first a true e f = absurd (true-false a (f refl) e)
unlike-first a false e f = refl

pub without-other : (claim other : Claim) (holds : List Claim) → is_same_gxid other.gxid claim.gxid ≡ false → list_any (same_claim other) (without_claim claim holds) ≡ list_any (same_claim other) holds
without-other claim other [] e = refl
without-other claim other (h ∷ hs) e = by_test (same_claim claim h) refl (without-other claim other hs e)
  where
    unlike : same_claim claim h ≡ true → same_claim other h ≡ false
    unlike s = unlike-first (is_same_gxid other.gxid claim.gxid) (same_claim other h) e (λ z. gxids claim h other s z)

    by_test : (b : Bool) → same_claim claim h ≡ b → list_any (same_claim other) (without_claim claim hs) ≡ list_any (same_claim other) hs
        → list_any (same_claim other) (filter (λ x. not (same_claim claim x)) (h ∷ hs)) ≡ same_claim other h || list_any (same_claim other) hs
    by_test true s more = rw s (more ∙ ap (λ b. b || list_any (same_claim other) hs) (sym (unlike s)))
    by_test false s more = rw s (ap (λ b. same_claim other h || b) more)

pub unlike-owner : (h a g : Gxid) → is_same_gxid h g ≡ false → is_same_gxid a g ≡ true → is_same_gxid h a ≡ false
unlike-owner h a g e f = grind (arith, nat_tests)

-- WHAT STAYS
-- marks of a command's work on rows, and of locks
abbrev pub IsWork : Node → Gxid → Cid → Mark → Type 0
IsWork node g c (mark.Write h d n t r x) = (h ≡ g) × (d ≡ c) × (n ≡ node)
IsWork node g c (mark.Skip h d r) = (h ≡ g) × (d ≡ c)
IsWork node g c (mark.Fault h d r x) = (h ≡ g) × (d ≡ c)
IsWork node g c (mark.Hold n h o m) = Unit {0}
IsWork node g c (mark.Wait n h o m) = Unit {0}
IsWork node g c (mark.Release n h o m) = Unit {0}
IsWork node g c _ = ⊥

-- a write is of the table
abbrev pub IsOfIts : Table → Mark → Type 0
IsOfIts table (mark.Write g c n t r x) = t ≡ table
IsOfIts table _ = Unit {0}

-- the versions are these and then some of the transaction's own
pub record AddsOwn (g : Gxid) (c : Cid) (table : Table) (old new : List Version) : Type 0 where
  pub own : List Version
  pub is : new ≡ old ++ own
  pub mine : Each (λ (v : Version). (v.gxid ≡ g) × (v.cid ≡ c) × (v.table ≡ table)) own

-- Behind some moves of the transaction's command, from a segment on, whose marks stand behind those before.
pub record Inv (s : Seg) (before : List Mark) (g : Gxid) (c : Cid) (table : Table) (m : Moved) : Type 0 where
  pub node : m.seg.node ≡ s.node
  pub horizon : m.seg.horizon ≡ s.horizon
  pub versions : m.seg.versions ≡ writes_at s.node (before ++ m.marks)
  pub added : AddsOwn g c table s.versions m.seg.versions
  pub others : (h : Gxid) → is_same_gxid h g ≡ false → local_of m.seg h ≡ local_of s h
  pub opens : is_open (local_of m.seg g).phase ≡ true
  pub alone : (local_of m.seg g).suspended ≡ None
  pub holds : (h : Gxid) → is_same_gxid h g ≡ false → is_holding m (own_lock h) ≡ list_any (same_claim (own_lock h)) s.locks.holds
  pub work : Each (IsWork s.node g c) m.marks
  pub rows : Each (IsOfIts table) m.marks

-- a mark that writes no row leaves the versions that the marks tell
pub no-version : (node : Node) (before ms : List Mark) (x : Mark) → writes_at node (x ∷ []) ≡ [] → writes_at node (before ++ ms) ≡ writes_at node (before ++ (ms ++ x ∷ []))
no-version node before ms x e =
    sym (ap (writes_at node) (sym (append_assoc before ms (x ∷ []))) ∙ writes-append node (before ++ ms) (x ∷ []) ∙ ap (λ vs. writes_at node (before ++ ms) ++ vs) e ∙ append-nil (writes_at node (before ++ ms)))

module _ (s : Seg) (before : List Mark) (g : Gxid) (c : Cid) (table : Table) where
  pub lock-more : (m : Moved) (wanted : Claim) → is_same_gxid wanted.gxid g ≡ true → Inv s before g c table m → Inv s before g c table (takes_lock wanted m)
  lock-more m wanted mine i =
      record {
        node = i.node;
        horizon = i.horizon;
        versions = i.versions ∙ no-version s.node before m.marks _ refl;
        added = i.added;
        others = i.others;
        opens = i.opens;
        alone = i.alone;
        holds = λ h e. held-other wanted (own_lock h) m.seg.locks.holds (unlike-owner h wanted.gxid g e mine) ∙ i.holds h e;
        work = each_append (IsWork s.node g c) m.marks _ i.work (tt, tt);
        rows = each_append (IsOfIts table) m.marks _ i.rows (tt, tt);
      }

  pub lock-less : (m : Moved) (old : Claim) → is_same_gxid old.gxid g ≡ true → Inv s before g c table m → Inv s before g c table (gives_back old m)
  lock-less m old mine i =
      record {
        node = i.node;
        horizon = i.horizon;
        versions = i.versions ∙ no-version s.node before m.marks _ refl;
        added = i.added;
        others = i.others;
        opens = i.opens;
        alone = i.alone;
        holds = λ h e. without-other old (own_lock h) m.seg.locks.holds (unlike-owner h old.gxid g e mine) ∙ i.holds h e;
        work = each_append (IsWork s.node g c) m.marks _ i.work (tt, tt);
        rows = each_append (IsOfIts table) m.marks _ i.rows (tt, tt);
      }

  note-more : (m : Moved) (x : Mark) → writes_at s.node (x ∷ []) ≡ [] → IsWork s.node g c x → IsOfIts table x → Inv s before g c table m → Inv s before g c table (noted m x)
  note-more m x none work row i =
      record {
        node = i.node;
        horizon = i.horizon;
        versions = i.versions ∙ no-version s.node before m.marks x none;
        added = i.added;
        others = i.others;
        opens = i.opens;
        alone = i.alone;
        holds = i.holds;
        work = each_append (IsWork s.node g c) m.marks _ i.work (work, tt);
        rows = each_append (IsOfIts table) m.marks _ i.rows (row, tt);
      }

-- A WRITE
same-gxid : (g : Gxid) → is_same_gxid g g ≡ true
same-gxid g = grind (arith, nat_tests)

pub local-other : (s : Seg) (g h : Gxid) (l : Local) → is_same_gxid h g ≡ false → local_of (with_local s g l) h ≡ local_of s h
local-other s g h l e = ap (λ b. if b then l else s.locals h.0) e

pub local-own : (s : Seg) (g : Gxid) (l : Local) → local_of (with_local s g l) g ≡ l
local-own s g l = ap (λ b. if b then l else s.locals g.0) (same-gxid g)

node-self : (n : Node) → is_same_node n n ≡ true
node-self n = grind (arith, nat_tests)

module _ (s : Seg) (before : List Mark) (g : Gxid) (c : Cid) (table : Table) where
  add-version : (m : Moved) (k : Change) → k.cid ≡ c → k.table ≡ table → (rid : Rid) (image : Option (List Value)) → Inv s before g c table m
      → Inv s before g c table (record { seg = adds_version m.seg g (version g k.cid k.table rid image); marks = m.marks ++ mark.Write g k.cid m.seg.node k.table rid image ∷ [] })
  add-version m k same at rid image i =
      record {
        node = i.node;
        horizon = i.horizon;
        versions = ap (λ vs. vs ++ v ∷ []) i.versions ∙ ap (λ ws. writes_at s.node (before ++ m.marks) ++ ws) (sym (here (is_same_node m.seg.node s.node) (ap (λ n. is_same_node n s.node) i.node ∙ node-self s.node)))
            ∙ sym (writes-append s.node (before ++ m.marks) (x ∷ [])) ∙ ap (writes_at s.node) (append_assoc before m.marks (x ∷ []));
        added = record { own = i.added.own ++ v ∷ []; is = ap (λ vs. vs ++ v ∷ []) i.added.is ∙ append_assoc s.versions i.added.own (v ∷ []); mine = each_append (λ (v : Version). (v.gxid ≡ g) × (v.cid ≡ c) × (v.table ≡ table)) i.added.own (v ∷ []) i.added.mine ((refl, same, at), tt) };
        others = λ h e. local-other m.seg g h _ e ∙ i.others h e;
        opens = ap (λ (l : Local). is_open l.phase) (local-own m.seg g _);
        alone = ap (λ (l : Local). l.suspended) (local-own m.seg g _) ∙ i.alone;
        holds = i.holds;
        work = each_append (IsWork s.node g c) m.marks (x ∷ []) i.work ((refl, same, i.node), tt);
        rows = each_append (IsOfIts table) m.marks (x ∷ []) i.rows (at, tt);
      }
    where
      v : Version
      v = version g k.cid k.table rid image

      x : Mark
      x = mark.Write g k.cid m.seg.node k.table rid image

      here : (b : Bool) → b ≡ true → (if b then v ∷ [] else []) ≡ v ∷ []
      here b e = rw e refl

  own-more : (m : Moved) (phase : Phase) → Inv s before g c table m → Inv s before g c table (takes_own g phase m)
  own-more m Reading i = lock-more s before g c table m (own_lock g) (same-gxid g) i
  own-more m Writing i = i
  own-more m Prepared i = i
  own-more m Committed i = i
  own-more m (Forgotten b) i = i
  own-more m Aborted i = i

  -- each move of the loop leaves what is of others
  pub stays-so : (k : Change) → k.cid ≡ c → k.table ≡ table → Keeps g k (Inv s before g c table)
  stays-so k same at =
      record {
        takes = λ m rid free i. lock-more s before g c table m (tuple_lock g rid) (same-gxid g) i;
        gives = λ m rid held i. lock-less s before g c table m (tuple_lock g rid) (same-gxid g) i;
        writes = λ m rid image why i. own-more _ (local_of m.seg g).phase (add-version m k same at rid image i);
        skips = λ m rid why i. note-more s before g c table m (mark.Skip g k.cid rid) refl (refl, same) tt i;
        faults = λ m rid image i. note-more s before g c table m (mark.Fault g k.cid rid image) refl (refl, same) tt i;
      }
