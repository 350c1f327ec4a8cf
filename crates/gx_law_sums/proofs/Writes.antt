-- The writes of a legal history of transfers: who wrote which account, and what of.
use Rattle.std.proofs.Common.{◌≡◌, ◌⊎◌, inl, inr, ◌≤◌, ◌<◌, ℕ, zero, suc, ◌+◌, ◌-◌, ℤ, pos, ◌+ℤ◌, Bool, true, false, if◌then◌else◌, not, ◌||◌, ◌&&◌, ◌==◌, List, [], ◌∷◌, ◌++◌, Option, Some, None, Ok, take, refl, sym, ap, ◌∙◌, subst, arith}
use Rattle.std.proofs.lemmas.Bool.{eqb-true}
use Rattle.std.proofs.lemmas.Int.{ints}
use Rattle.std.specs.Prelude.{neg_ℤ, ◌-ℤ◌, nat_lt}
use Rattle.gx_ids.specs.declared.ids.Cid.{Cid}
use Rattle.gx_ids.specs.declared.ids.Gxid.{Gxid}
use Rattle.gx_ids.specs.declared.ids.Node.{Node}
use Rattle.gx_ids.specs.declared.ids.SessionId.{SessionId}
use Rattle.gx_ids.specs.declared.ids.Table.{Table}
use Rattle.gx_ids.specs.declared.rid.Rid.{Rid}
use Rattle.gx_tree.specs.declared.expr.ArithOp.{ArithOp}
use Rattle.gx_tree.specs.declared.expr.ArithOp.TheVariants as arith_op
use Rattle.gx_tree.specs.declared.stmt.Level.{Level}
use Rattle.gx_tree.specs.declared.stmt.Level.TheVariants.{RepeatableRead}
use Rattle.gx_tree.specs.declared.stmt.Stmt.{Stmt}
use Rattle.gx_tree.specs.declared.value.Value.{Value}
use Rattle.gx_script.specs.declared.Script.{Script}
use Rattle.gx_work.specs.declared.transfer.Transfer.{Transfer}
use Rattle.gx_meaning.specs.Constants.{values_of}
use Rattle.gx_lemmas.proofs.Numbers.{none-plus}
use Rattle.gx_lemmas.proofs.Options.{some-same}
use Rattle.gx_lemmas.proofs.Tests.{and-first, and-second, false-true, or-cases, true-false}
use Rattle.gx_store.specs.declared.mark.Mark.{Mark}
use Rattle.gx_store.specs.declared.mark.Mark.TheVariants.{Start, Write, Commit, Answer}
use Rattle.gx_store.specs.Commands.{IsSnapshotAt, IsUnderWay, condition_on}
use Rattle.gx_store.specs.Legal.{LegalMark}
use Rattle.gx_store.specs.Lines.{stmt_of}
use Rattle.gx_store.specs.Marks.{answer_count, is_aborted, is_begun, is_begun_after, is_committed, is_processed, is_same_gxid, is_same_rid, is_same_session, is_written, started_after}
use Rattle.gx_store.specs.Points.{Point, before}
use Rattle.gx_store.specs.View.{image, image_after, is_shown_to}
use Rattle.gx_store.specs.Writes.{IsCurrentFor, IsWriteOf, set_row, Written, current, is_free_for, last_write, shown_write}
use Rattle.gx_store.proofs.Marks.{started_after-append}
use Rattle.gx_store.proofs.Rows.{same_rid}
use Rattle.gx_work.specs.Work.{changing, literal}
use Rattle.gx_law_sums.specs.Transfers.{AreTransfers, loader}
use Rattle.gx_law_sums.proofs.Meaning.{account_image, changes, chosen-own, given, loaded-values, on_account, taken, tuple-at}
use Rattle.gx_law_sums.proofs.Standing.{Standing}
use Rattle.gx_law_sums.proofs.Under.{IsIn, IsLoading, IsUpdateOf, IsUpdating, is-loading, under-way}

-- LISTS OF WRITES
abbrev pub OnWrite : (Gxid → Cid → Table → Rid → Option (List Value) → Type 0) → Mark → Type 0
OnWrite P (Write g c node t rid image) = P g c t rid image
OnWrite P _ = Unit {0}

abbrev pub EachWrite : (Gxid → Cid → Table → Rid → Option (List Value) → Type 0) → List Mark → Type 0
EachWrite P [] = Unit {0}
EachWrite P (m ∷ ms) = OnWrite P m × EachWrite P ms

module _ (P : Gxid → Cid → Table → Rid → Option (List Value) → Type 0) where
  pub each-append : (xs ys : List Mark) → EachWrite P xs → EachWrite P ys → EachWrite P (xs ++ ys)
  each-append [] ys a b = b
  each-append (x ∷ xs) ys a b = (a.0, each-append xs ys a.1 b)

  pub each-weaker : (Q : Gxid → Cid → Table → Rid → Option (List Value) → Type 0) → ((g : Gxid) (c : Cid) (t : Table) (rid : Rid) (image : Option (List Value)) → P g c t rid image → Q g c t rid image) → (xs : List Mark) → EachWrite P xs → EachWrite Q xs
  each-weaker Q f [] a = tt
  each-weaker Q f (Write g c node t rid image ∷ xs) a = (f g c t rid image a.0, each-weaker Q f xs a.1)
  each-weaker Q f (x ∷ xs) a = (tt, each-weaker Q f xs a.1)

  -- the last write that counts is one of them
  pub record IsLast (counts : Gxid → Cid → Bool) (rid : Rid) (w : Written) : Type 0 where
    pub t : Table
    pub so : P w.gxid w.cid t rid w.image
    pub counted : counts w.gxid w.cid ≡ true

  pub last-each : (counts : Gxid → Cid → Bool) (rid : Rid) (place : ℕ) (last : Option Written) (N : List Mark) (w : Written) → EachWrite P N → last_write counts rid place last N ≡ Some w → (last ≡ Some w) ⊎ IsLast counts rid w
  last-each counts rid place last [] w each e = inl e
  last-each counts rid place last (Write g c node t r written ∷ ms) w each e = by_test (counts g c && is_same_rid r rid) refl (last-each counts rid (place + 1) (if counts g c && is_same_rid r rid then Some new else last) ms w each.1 e)
    where
      new : Written
      new = record { place = place; gxid = g; cid = c; image = written }

      by_test : (b : Bool) → (counts g c && is_same_rid r rid) ≡ b → ((if b then Some new else last) ≡ Some w) ⊎ IsLast counts rid w → (last ≡ Some w) ⊎ IsLast counts rid w
      by_test true f (inl h) =
          let here : IsLast counts rid new = record { t = t; so = subst (λ x. P g c t x written) (same_rid r rid (and-second (counts g c) (is_same_rid r rid) f)) each.0; counted = and-first (counts g c) (is_same_rid r rid) f } in
          inr (subst (IsLast counts rid) (some-same new w h) here)
      by_test false f (inl h) = inl h
      by_test b f (inr h) = inr h
  last-each counts rid place last (m ∷ ms) w each e = last-each counts rid (place + 1) last ms w each.1 e

  -- what is shown is what one of them left
  pub record IsShown (shown : Gxid → Cid → Bool) (rid : Rid) (image : Option (List Value)) : Type 0 where
    pub g : Gxid
    pub c : Cid
    pub t : Table
    pub so : P g c t rid image
    pub seen : shown g c ≡ true

  pub image-each : (shown : Gxid → Cid → Bool) (table : Table) (rid : Rid) (old : Option (List Value)) (N : List Mark) (image : Option (List Value)) → EachWrite P N → image_after shown table rid old N ≡ image → (old ≡ image) ⊎ IsShown shown rid image
  image-each shown table rid old [] image each e = inl e
  image-each shown table rid old (Write g c node t r written ∷ ms) image each e =
      by_test (shown g c && ((t.0 == table.0) && is_same_rid r rid)) refl (image-each shown table rid (if shown g c && ((t.0 == table.0) && is_same_rid r rid) then written else old) ms image each.1 e)
    where
      by_test : (b : Bool) → (shown g c && ((t.0 == table.0) && is_same_rid r rid)) ≡ b → ((if b then written else old) ≡ image) ⊎ IsShown shown rid image → (old ≡ image) ⊎ IsShown shown rid image
      by_test true f (inl h) =
          let same = same_rid r rid (and-second (t.0 == table.0) (is_same_rid r rid) (and-second (shown g c) ((t.0 == table.0) && is_same_rid r rid) f)) in
          let here : IsShown shown rid written = record { g = g; c = c; t = t; so = subst (λ x. P g c t x written) same each.0; seen = and-first (shown g c) ((t.0 == table.0) && is_same_rid r rid) f } in
          inr (subst (IsShown shown rid) h here)
      by_test false f (inl h) = inl h
      by_test b f (inr h) = inr h
  image-each shown table rid old (m ∷ ms) image each e = image-each shown table rid old ms image each.1 e

-- who had committed by then has committed
pub committed-take : (p : ℕ) (N : List Mark) (g : Gxid) → is_committed (take p N) g ≡ true → is_committed N g ≡ true
committed-take zero N g e = absurd (false-true e)
committed-take (suc p) [] g e = absurd (false-true e)
committed-take (suc p) (Commit h ∷ N) g e = by_test (is_same_gxid h g) e (committed-take p N g)
  where
    by_test : (b : Bool) → (b || is_committed (take p N) g) ≡ true → (is_committed (take p N) g ≡ true → is_committed N g ≡ true) → (b || is_committed N g) ≡ true
    by_test true f k = refl
    by_test false f k = k f
committed-take (suc p) (m ∷ N) g e = committed-take p N g e

-- THE LOADER STARTS ONCE
begun-since : (s : SessionId) (b : Bool) (o : Option Gxid) (N : List Mark) (g : Gxid) → answer_count s N ≡ 0 → started_after s o N ≡ Some g → (o ≡ None) ⊎ (b ≡ true) → is_begun_after s b N ≡ true
begun-since s b o [] g none e (inl f) = absurd (clash o g f e)
  where
    clash : (o : Option Gxid) (g : Gxid) → o ≡ None → o ≡ Some g → ⊥
    clash o g e f = cc
begun-since s b o [] g none e (inr f) = f
begun-since s b o (Start h t ∷ N) g none e k = by_test (is_same_session t s) e (λ c x. begun-since s c x N g none)
  where
    by_test : (q : Bool) → started_after s (if q then Some h else o) N ≡ Some g → ((c : Bool) (x : Option Gxid) → started_after s x N ≡ Some g → (x ≡ None) ⊎ (c ≡ true) → is_begun_after s c N ≡ true) → is_begun_after s (q || b) N ≡ true
    by_test true f more = more true (Some h) f (inr refl)
    by_test false f more = more b o f k
begun-since s b o (Answer t n a ∷ N) g none e k = by_test (is_same_session t s) none (λ q. begun-since s b o N g q e k)
  where
    more-than-none : (a : ℕ) → a + 1 ≡ 0 → ⊥
    more-than-none a e = omega arith

    by_test : (q : Bool) → (if q then answer_count s N + 1 else answer_count s N) ≡ 0 → (answer_count s N ≡ 0 → is_begun_after s b N ≡ true) → is_begun_after s (if q then false else b) N ≡ true
    by_test true f more = absurd (more-than-none (answer_count s N) f)
    by_test false f more = more f
begun-since s b o (m ∷ N) g none e k = begun-since s b o N g none e k

module _ (script : Script) (transfer : ℕ → ℕ → Option Transfer) (are : AreTransfers script transfer) (point : Point) (known : Standing script transfer (before point)) where
  pub load-stays : (m : Mark) (L : Gxid) → LegalMark script point m → started_after loader None (before point) ≡ Some L → started_after loader None (before point ++ m ∷ []) ≡ Some L
  load-stays m L legal e = started_after-append loader None (before point) (m ∷ []) ∙ by_mark m legal
    where
      again : (s : SessionId) → is_same_session s loader ≡ true → s ≡ loader
      again s f = ap (λ n. let x : SessionId = record { 0 = n } in x) (eqb-true s.0 0 f)

      by_mark : (x : Mark) → LegalMark script point x → started_after loader (started_after loader None (before point)) (x ∷ []) ≡ Some L
      by_mark (Start h s) l = by_test (is_same_session s loader) refl
        where
          by_test : (b : Bool) → is_same_session s loader ≡ b → (if b then Some h else started_after loader None (before point)) ≡ Some L
          by_test true f =
              let none = (is-loading script transfer are (answer_count loader (before point)) l.line known.placed.load.1 (subst (λ x. stmt_of x (answer_count x (before point) + 1) script.lines ≡ Some l.line) (again s f) l.runs.line)).0 in
              absurd (true-false (is_begun loader (before point)) (begun-since loader false None (before point) L none e (inl refl)) (subst (λ x. is_begun x (before point) ≡ false) (again s f) l.once))
          by_test false f = e
      by_mark x l = e

-- the load has committed, and did so before this transaction
pub record IsBehind (N : List Mark) (g L : Gxid) : Type 0 where
  pub loaded : is_committed N L ≡ true
  pub before : (p : ℕ) → is_committed (take p N) g ≡ true → is_committed (take p N) L ≡ true

-- ACCOUNTS
-- an unaborted write left an account with some balance; the load with a hundred
pub record IsAccount (N : List Mark) (g : Gxid) (t : Table) (rid : Rid) (image : Option (List Value)) : Type 0 where
  pub loaded : started_after loader None N ≡ Some rid.gxid
  pub table : t.0 ≡ 0
  pub command : rid.cid.0 ≡ 1
  pub low : 1 ≤ rid.ordinal
  pub high : rid.ordinal ≤ 64
  pub balance : ℤ
  pub is : image ≡ Some (account_image (rid.ordinal - 1) balance)
  pub first : g.0 ≡ rid.gxid.0 → balance ≡ pos 100
  pub behind : (g.0 ≡ rid.gxid.0) ⊎ IsBehind N g rid.gxid

abbrev pub IsNeat : List Mark → Gxid → Cid → Table → Rid → Option (List Value) → Type 0
IsNeat N g c t rid image = is_aborted N g ≡ false → IsAccount N g t rid image

-- what a transfer's command adds
abbrev pub moved : Transfer → ℕ → ℤ
moved t zero = neg_ℤ (pos t.amount)
moved t (suc k) = pos t.amount

-- the account of a transfer's command
abbrev pub account_of : Transfer → ℕ → ℕ
account_of t zero = t.from
account_of t (suc k) = t.to

-- an unaborted write of the load
pub record IsPut (N : List Mark) (g : Gxid) (c : Cid) (t : Table) (rid : Rid) (image : Option (List Value)) : Type 0 where
  pub own : started_after loader None N ≡ Some g
  pub command : c ≡ record { 0 = 1 }
  pub table : t.0 ≡ 0
  pub is : (rid.gxid ≡ g) × (rid.cid ≡ c)
  pub low : 1 ≤ rid.ordinal
  pub high : rid.ordinal ≤ 64
  pub image_is : image ≡ Some (account_image (rid.ordinal - 1) (pos 100))
  pub once : is_written N rid ≡ false

-- an unaborted write of a transfer's command
pub record IsMove (script : Script) (transfer : ℕ → ℕ → Option Transfer) (N : List Mark) (g : Gxid) (c : Cid) (table : Table) (rid : Rid) (image : Option (List Value)) : Type 0 where
  pub t : Transfer
  pub k : ℕ
  pub few : k ≤ 1
  pub within : IsIn script transfer N g t k
  pub command : c ≡ record { 0 = k + 1 }
  pub table_is : table.0 ≡ 0
  pub once : is_processed N g c rid ≡ false
  pub account : rid.ordinal ≡ account_of t k + 1
  pub place : ℕ
  pub taken : IsSnapshotAt N RepeatableRead g c place
  pub write : Written
  pub now : current N rid ≡ Some write
  pub free : is_free_for N g write ≡ true
  pub shown : shown_write N (take place N) g c rid ≡ Some write
  pub written_in : Table
  pub old : IsAccount N write.gxid written_in rid write.image
  pub image_is : image ≡ Some (account_image (rid.ordinal - 1) (old.balance +ℤ moved t k))

-- a row of its account
record Row (o : ℕ) (r : List Value) : Type 0 where
  balance : ℤ
  is : Some r ≡ Some (account_image (o - 1) balance)

-- PLAIN FACTS
minus : (z : ℤ) (a : ℕ) → z -ℤ pos a ≡ z +ℤ neg_ℤ (pos a)
minus z a = omega (arith, ints)

one-more : (o a : ℕ) → 1 ≤ o → o - 1 ≡ a → o ≡ a + 1
one-more o a l e = omega arith

below : (o : ℕ) → 1 ≤ o → o - 1 < 64 → o ≤ 64
below o l m = omega arith

not-true : (b : Bool) → not b ≡ true → b ≡ false
not-true true e = absurd (false-true e)
not-true false e = refl

second-none : (a b : Bool) → (a || b) ≡ false → b ≡ false
second-none true b e = absurd (true-false true refl e)
second-none false b e = e

first-none : (a b : Bool) → (a || b) ≡ false → a ≡ false
first-none true b e = absurd (true-false true refl e)
first-none false b e = refl

no-last : (w : Written) → (let o : Option Written = None in o ≡ Some w) → ⊥
no-last w e = cc

no-image : (row : List Value) → (let o : Option (List Value) = None in o ≡ Some row) → ⊥
no-image row e = cc

module _ (script : Script) (transfer : ℕ → ℕ → Option Transfer) (are : AreTransfers script transfer) (point : Point) (known : Standing script transfer (before point)) (neat : EachWrite (IsNeat (before point)) (before point)) where
  abbrev N : List Mark
  N = before point

  -- who is shown to a running transaction has not aborted
  pub unaborted-shown : (p : ℕ) (g h : Gxid) (c d : Cid) → is_aborted N g ≡ false → is_shown_to (Some (g, c)) (take p N) h d ≡ true → is_aborted N h ≡ false
  unaborted-shown p g h c d running seen = by_case (or-cases (is_committed (take p N) h) (is_same_gxid g h && nat_lt d.0 c.0) seen)
    where
      by_case : (is_committed (take p N) h ≡ true) ⊎ ((is_same_gxid g h && nat_lt d.0 c.0) ≡ true) → is_aborted N h ≡ false
      by_case (inl e) = known.once h (committed-take p N h e)
      by_case (inr e) = subst (λ n. is_aborted N (record { 0 = n }) ≡ false) (eqb-true g.0 h.0 (and-first (is_same_gxid g h) (nat_lt d.0 c.0) e)) running

  module _ (g : Gxid) (c : Cid) (running : is_aborted N g ≡ false) (node : Node) (table : Table) (rid : Rid) (image : Option (List Value)) where
    put-is : (level : Level) (line : Stmt) → IsLoading N g c line → IsWriteOf script N level g c line node table rid image → IsPut N g c table rid image
    put-is level line l w =
        let made = subst (λ x. IsWriteOf script N level g c x node table rid image) l.load w in
        let tuple = tuple-at 0 64 (rid.ordinal - 1) made.1.tuple made.1.among in
        record {
          own = l.own;
          command = l.command;
          table = ap (λ (t : Table). t.0) made.0;
          is = made.1.own;
          low = made.1.counted;
          high = below rid.ordinal made.1.counted tuple.0;
          image_is = made.1.written ∙ ap (λ v. Some v) (loaded-values (rid.ordinal - 1) made.1.values (subst (λ x. values_of x ≡ Ok made.1.values) (tuple.1 ∙ ap (λ k. literal k ∷ literal 100 ∷ []) (none-plus (rid.ordinal - 1))) made.1.constants));
          once = made.1.once;
        }

    module _ (level : Level) (op : ArithOp) (t : Transfer) (k amount account : ℕ) (level_is : level ≡ RepeatableRead) (within : IsIn script transfer N g t k) (few : k ≤ 1) (command : c ≡ record { 0 = k + 1 })
        (account_is : account ≡ account_of t k) (moves : (z : ℤ) (i : ℕ) (new : List Value) → set_row (changes op amount) (account_image i z) ≡ Ok new → new ≡ account_image i (z +ℤ moved t k)) where
      move-is : IsWriteOf script N level g c (changing op amount account) node table rid image → IsMove script transfer N g c table rid image
      move-is w =
          let u = w.3 in
          let s = u.selected in
          let taken' : IsSnapshotAt N RepeatableRead g c s.place = subst (λ l. IsSnapshotAt N l g c s.place) level_is s.taken in
          let now : IsCurrentFor N RepeatableRead g c (Some (on_account account)) rid s.place s.write u.old = subst (λ l. IsCurrentFor N l g c (Some (on_account account)) rid s.place s.write u.old) level_is u.current in
          let last = of-last s.write (last-each (IsNeat N) (λ h d. not (is_aborted N h)) rid 0 None N s.write neat s.current) in
          let row = of-row s.place s.row (image-each (IsNeat N) (is_shown_to (Some (g, c)) (take s.place N)) (record { 0 = 0 }) rid None N (Some s.row) neat (sym (s.view.images rid) ∙ s.shown)) in
          let row_is = some-same s.row (account_image (rid.ordinal - 1) row.balance) row.is in
          let old_is = some-same u.old (account_image (rid.ordinal - 1) last.1.balance) (sym u.image_before ∙ last.1.is) in
          record {
            t = t;
            k = k;
            few = few;
            within = within;
            command = command;
            table_is = ap (λ (x : Table). x.0) w.0;
            once = w.2;
            account = one-more rid.ordinal (account_of t k) last.1.low (chosen-own account (rid.ordinal - 1) row.balance (subst (λ x. condition_on (Some (on_account account)) x ≡ Ok true) row_is s.chosen) ∙ account_is);
            place = s.place;
            taken = taken';
            write = s.write;
            now = s.current;
            free = s.free;
            shown = now;
            written_in = last.0;
            old = last.1;
            image_is = u.written ∙ ap (λ v. Some v) (moves last.1.balance (rid.ordinal - 1) u.new (subst (λ x. set_row (changes op amount) x ≡ Ok u.new) old_is u.set));
          }
        where
          of-last : (x : Written) → (let o : Option Written = None in o ≡ Some x) ⊎ IsLast (IsNeat N) (λ h d. not (is_aborted N h)) rid x → (y : Table) × IsAccount N x.gxid y rid x.image
          of-last x (inl e) = absurd (no-last x e)
          of-last x (inr l) = (l.t, l.so (not-true (is_aborted N x.gxid) l.counted))

          of-row : (p : ℕ) (r : List Value) → (let o : Option (List Value) = None in o ≡ Some r) ⊎ IsShown (IsNeat N) (is_shown_to (Some (g, c)) (take p N)) rid (Some r) → Row rid.ordinal r
          of-row p r (inl e) = absurd (no-image r e)
          of-row p r (inr l) = let a = l.so (unaborted-shown p g l.g c l.c running l.seen) in record { balance = a.balance; is = a.is }

    -- a write of a running transaction is one of both
    pub live-write : (s : SessionId) (line : Stmt) (level : Level) → IsUnderWay script point s line level g c → IsWriteOf script N level g c line node table rid image → IsPut N g c table rid image ⊎ IsMove script transfer N g c table rid image
    live-write s line level u w = by_case (under-way script transfer are point known s line level g c u)
      where
        by_update : (x : IsUpdating script transfer N g c level line) → IsUpdateOf x.t x.k line → IsMove script transfer N g c table rid image
        by_update x (inl e) =
            move-is level arith_op.Sub x.t 0 x.t.amount x.t.from x.level_is (subst (λ k. IsIn script transfer N g x.t k) e.0 x.within) (omega arith) (x.command ∙ ap (λ k. let y : Cid = record { 0 = k + 1 } in y) e.0) refl
            (λ z i new h. taken x.t.amount i z new h ∙ ap (account_image i) (minus z x.t.amount)) (subst (λ l. IsWriteOf script N level g c l node table rid image) e.1 w)
        by_update x (inr e) =
            move-is level arith_op.Add x.t 1 x.t.amount x.t.to x.level_is (subst (λ k. IsIn script transfer N g x.t k) e.0 x.within) (omega arith) (x.command ∙ ap (λ k. let y : Cid = record { 0 = k + 1 } in y) e.0) refl
            (λ z i new h. given x.t.amount i z new h) (subst (λ l. IsWriteOf script N level g c l node table rid image) e.1 w)

        by_case : IsLoading N g c line ⊎ IsUpdating script transfer N g c level line → IsPut N g c table rid image ⊎ IsMove script transfer N g c table rid image
        by_case (inl l) = inl (put-is level line l w)
        by_case (inr x) = inr (by_update x x.update)
