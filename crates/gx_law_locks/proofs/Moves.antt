-- What a slice that runs makes of its segment's locks, move by move: a lock is granted, or given back, a row is written, or noted.
use Rattle.std.proofs.Common.{◌≡◌, ◌==◌, ◌&&◌, ◌||◌, List, [], ◌∷◌, ◌++◌, Option, Some, None, Bool, true, false, not, refl, sym, subst, ap, ◌∙◌, if◌then◌else◌, eqb, arith}
use Rattle.std.proofs.lemmas.Bool.{eqb-true}
use Rattle.std.specs.List.{list_any}
use Rattle.std.specs.Prelude.{filter, find}
use Rattle.gx_lemmas.proofs.Numbers.{eqb-self}
use Rattle.gx_lemmas.proofs.Tests.{and-false, false-true, true-false}
use Rattle.gx_ids.specs.declared.ids.Cid.{Cid}
use Rattle.gx_ids.specs.declared.ids.Gxid.{Gxid}
use Rattle.gx_ids.specs.declared.ids.Node.{Node}
use Rattle.gx_ids.specs.declared.ids.Table.{Table}
use Rattle.gx_ids.specs.declared.rid.Rid.{Rid}
use Rattle.gx_tree.specs.declared.value.Value.{Value}
use Rattle.gx_waits.specs.Claim.{meets, same_claim}
use Rattle.gx_waits.specs.declared.claim.Claim.{Claim}
use Rattle.gx_waits.specs.declared.object.Object.{Object}
use Rattle.gx_waits.specs.declared.object.Object.TheVariants.{Relation, Transaction, Tuple}
use Rattle.gx_waits.specs.Claims.{is_clear, is_free, is_of, with_claim, without}
use Rattle.gx_locks.specs.Locks.{Locks, resumed, wait_of}
use Rattle.gx_script.specs.declared.Script.{Script}
use Rattle.gx_store.specs.declared.mark.Mark.{Mark}
use Rattle.gx_store.specs.declared.mark.Mark.TheVariants as mark
use Rattle.gx_store.specs.Locks.{IsMomentary}
use Rattle.gx_store.specs.Refusals.{the_coordinator}
use Rattle.gx_store.specs.Waits.{holds_from}
use Rattle.gx_rules.specs.Changes.{end_lock}
use Rattle.gx_rules.specs.Locks.{hold_mark, release_mark, with_hold, without_hold}
use Rattle.gx_rules.specs.Segments.{Local, Phase, Seg, has_ended, local_of, with_local}
use Rattle.gx_rules.specs.Segments.Phase.{Aborted, Committed, Forgotten, Prepared, Reading, Writing}
use Rattle.gx_rules.specs.Running.{is_granted}
use Rattle.gx_rules.specs.Slices.{Moved, adds_version, gives_back, noted, own_lock, starts_from, takes_lock, takes_own, version, writes_row}
use Rattle.gx_law_order.proofs.Lists.{each_append, each_filter, each_weaker}
use Rattle.gx_law_order.specs.Lists.{Each}
use Rattle.gx_law_order.proofs.OwnLocks.{IsAwaited, IsOwn, IsOwnOn, SaysWritten, WritersLock, each-held, end-back, has_version}
use Rattle.gx_law_order.proofs.Suspended.{is_open_phase}
use Rattle.gx_law_order.proofs.Waiting.{freed}
use Rattle.gx_law_locks.specs.Lasting.{IsLasting}
use Rattle.gx_law_locks.proofs.AtRows.{AtRows, rows-later, rows-with}
use Rattle.gx_law_locks.proofs.Claims.{find-without, gxid-of}
use Rattle.gx_law_locks.proofs.Lasting.{IsIn, in-added, in-given, in-new}
use Rattle.gx_law_locks.proofs.Tables.{HasTable}
use Rattle.gx_law_locks.proofs.Queues.{clear-of}
use Rattle.gx_law_locks.proofs.Marks.{Locking, NoLock, both, give, grant, no-lock, resumption}

-- A TRANSACTION'S OWN LOCK
-- where each hold on a transaction is that one's own, no hold meets the own lock of any
own-apart : (g : Gxid) (hold : Claim) (o : Object) → hold.object ≡ o → IsOwnOn hold o → meets (own_lock g) hold ≡ false
own-apart g hold (Relation table) e own = ap (λ o. meets (own_lock g) (record hold { object = o })) e ∙ and-false (not (g.0 == hold.gxid.0))
own-apart g hold (Tuple rid) e own = ap (λ o. meets (own_lock g) (record hold { object = o })) e ∙ and-false (not (g.0 == hold.gxid.0))
own-apart g hold (Transaction h) e own = ap (meets (own_lock g)) own ∙ either (g.0 == h.0) _
  where
    either : (a b : Bool) → (not a && (a && b)) ≡ false
    either a b = grind arith

pub own-free : (g : Gxid) (holds : List Claim) → Each IsOwn holds → is_free holds (own_lock g) ≡ true
own-free g [] e = refl
own-free g (h ∷ hs) e = ap (λ b. not (b || list_any (meets (own_lock g)) hs)) (own-apart g h h.object refl e.0) ∙ own-free g hs e.1

-- who hasn't written is waited for by nobody
abbrev pub IsUnawaited : Seg → Gxid → Type 0
IsUnawaited s g = (local_of s g).phase ≡ Reading → Each (λ wait. meets (own_lock g) wait ≡ false) s.locks.waits

pub unawaited-of : (s : Seg) (g : Gxid) → WritersLock s → IsUnawaited s g
unawaited-of s g k e =
    each_weaker (λ (wait : Claim). IsAwaited s.versions wait.object) (λ wait. meets (own_lock g) wait ≡ false) (λ wait. by_object wait wait.object refl) s.locks.waits k.awaited
  where
    none : (p : Phase) → p ≡ Reading → (written : Bool) → SaysWritten p written → written ≡ false
    none p e written = subst (λ q. SaysWritten q written → written ≡ false) (sym e) (λ w. w)

    unwritten : has_version g.0 s.versions ≡ false
    unwritten = none (local_of s g).phase e (has_version g.0 s.versions) (k.each g.0).says

    apart : (h : Gxid) → has_version h.0 s.versions ≡ true → (b : Bool) → (g.0 == h.0) ≡ b → b ≡ false
    apart h w true q = absurd (true-false (has_version g.0 s.versions) (subst (λ n. has_version n s.versions ≡ true) (sym (eqb-true g.0 h.0 q)) w) unwritten)
    apart h w false q = refl

    last : (a b d : Bool) → b ≡ false → (not a && (b && d)) ≡ false
    last a b d e = grind arith

    by_object : (wait : Claim) (o : Object) → wait.object ≡ o → IsAwaited s.versions o → meets (own_lock g) wait ≡ false
    by_object wait (Relation table) q w = ap (λ o. meets (own_lock g) (record wait { object = o })) q ∙ and-false (not (g.0 == wait.gxid.0))
    by_object wait (Tuple rid) q w = ap (λ o. meets (own_lock g) (record wait { object = o })) q ∙ and-false (not (g.0 == wait.gxid.0))
    by_object wait (Transaction h) q w = ap (λ o. meets (own_lock g) (record wait { object = o })) q ∙ last (g.0 == wait.gxid.0) (g.0 == h.0) _ (apart h w (g.0 == h.0) refl)

pub own-lasts : (node : Node) (g : Gxid) → IsLasting node (own_lock g)
own-lasts node g m = cc

-- WRITES
-- each write among these marks of a node has its table's lock there, and of its transaction and table this holds
abbrev pub AreWritesHeld : Script → (Gxid → Table → Type 0) → Node → List Claim → List Mark → Type 0
AreWritesHeld script P node holds [] = Unit {0}
AreWritesHeld script P node holds (mark.Write g c n table rid image ∷ ms) = (HasTable script holds g table × P g table) × AreWritesHeld script P node holds ms
AreWritesHeld script P node holds (m ∷ ms) = AreWritesHeld script P node (holds_from node holds (m ∷ [])) ms

pub held-append : (script : Script) (P : Gxid → Table → Type 0) (node : Node) (holds : List Claim) (xs ys : List Mark) → AreWritesHeld script P node holds xs
    → AreWritesHeld script P node (holds_from node holds xs) ys
    → AreWritesHeld script P node holds (xs ++ ys)
held-append script P node holds [] ys e f = f
held-append script P node holds (mark.Write g c n table rid image ∷ xs) ys e f = (e.0, held-append script P node holds xs ys e.1 f)
held-append script P node holds (mark.Hold n g object mode ∷ xs) ys e f = held-append script P node (holds_from node holds (mark.Hold n g object mode ∷ [])) xs ys e f
held-append script P node holds (mark.Release n g object mode ∷ xs) ys e f = held-append script P node (holds_from node holds (mark.Release n g object mode ∷ [])) xs ys e f
held-append script P node holds (m ∷ xs) ys e f = held-append script P node holds xs ys e f

-- who writes holds its own lock in the end
abbrev pub WritesOwn : List Claim → Mark → Type 0
WritesOwn holds (mark.Write g c n table rid image) = IsIn holds (own_lock g)
WritesOwn holds _ = Unit {0}

-- where own locks stay
written-later : (holds more : List Claim) (ms : List Mark) → ((g : Gxid) → IsIn holds (own_lock g) → IsIn more (own_lock g)) → Each (WritesOwn holds) ms → Each (WritesOwn more) ms
written-later holds more ms f e = each_weaker (WritesOwn holds) (WritesOwn more) one ms e
  where
    one : (m : Mark) → WritesOwn holds m → WritesOwn more m
    one (mark.Write g c n table rid image) i = f g i
    one m i = tt

-- PHASES
pub open-lives : (p : Phase) → is_open_phase p ≡ true → has_ended p ≡ false
open-lives Reading e = refl
open-lives Writing e = refl
open-lives Prepared e = refl
open-lives Committed e = refl
open-lives (Forgotten b) e = absurd (cc)
open-lives Aborted e = absurd (cc)

-- a change of a transaction's record that leaves its phase leaves all phases
pub phase-at : (s : Seg) (g : Gxid) (l : Local) → l.phase ≡ (local_of s g).phase → (h : Gxid) → (local_of (with_local s g l) h).phase ≡ (local_of s h).phase
phase-at s g l e h = by_test (eqb h.0 g.0) refl
  where
    by_test : (b : Bool) → eqb h.0 g.0 ≡ b → (if b then l else s.locals h.0).phase ≡ (s.locals h.0).phase
    by_test true q = e ∙ ap (λ k. (s.locals k).phase) (sym (eqb-true h.0 g.0 q))
    by_test false q = refl

-- whoever is writing at a segment holds its own lock there
abbrev pub IsWriting : Seg → Gxid → Type 0
IsWriting s g = (local_of s g).phase ≡ Writing → IsIn s.locks.holds (own_lock g)

pub writing-of : (s : Seg) (g : Gxid) → WritersLock s → IsWriting s g
writing-of s g k e = (k.each g.0).holds ∙ by_phase (local_of s g).phase e (has_version g.0 s.versions) (k.each g.0).says
  where
    by_phase : (p : Phase) → p ≡ Writing → (written : Bool) → SaysWritten p written → (written && not (has_ended p)) ≡ true
    by_phase p e written = subst (λ q. SaysWritten q written → (written && not (has_ended q)) ≡ true) (sym e) (λ w. ap (λ b. b && true) w)

-- MOVES
-- What the moves of a transaction's slice have made of the segment so far: their marks lead from the locks before to those now;
-- lasting locks stay, whoever holds them; the transaction waits for nothing there; it goes on, and nobody ends; whoever waits at a
-- row holds its table; each of its writes has the table's lock, and its own behind it.
module _ (script : Script) (P : Gxid → Table → Type 0) (here : Node) (before : List Mark) (s : Seg) (g : Gxid) where
  pub record Runs (m : Moved) : Type 0 where
    pub node : m.seg.node ≡ here
    pub locking : Locking here before s.locks m.marks m.seg.locks
    pub owns : Each IsOwn m.seg.locks.holds
    pub writing : IsWriting m.seg g
    pub unawaited : IsUnawaited m.seg g
    pub lasting : (c : Claim) → IsLasting here c → IsIn s.locks.holds c → IsIn m.seg.locks.holds c
    pub alone : wait_of m.seg.locks g ≡ None
    pub opens : is_open_phase (local_of m.seg g).phase ≡ true
    pub ended : (h : Gxid) → has_ended (local_of m.seg h).phase ≡ has_ended (local_of s h).phase
    pub rows : AtRows script m.seg m.seg.locks.holds
    pub writes : AreWritesHeld script P here s.locks.holds m.marks
    pub written : Each (WritesOwn m.seg.locks.holds) m.marks

  -- it starts, whatever the horizon has become
  pub started : (horizon : Gxid) → s.node ≡ here → Each IsOwn s.locks.holds → IsWriting s g → IsUnawaited s g → wait_of s.locks g ≡ None
      → is_open_phase (local_of s g).phase ≡ true → AtRows script s s.locks.holds → Runs (starts_from (record s { horizon = horizon }))
  started horizon n owns writing unawaited alone opens rows =
      record {
        node = n;
        locking = no-lock here before s.locks [] tt;
        owns = owns;
        writing = writing;
        unawaited = unawaited;
        lasting = λ c l i. i;
        alone = alone;
        opens = opens;
        ended = λ h. refl;
        rows = rows;
        writes = tt;
        written = tt;
      }

  -- it goes on behind its wait, with these locks
  module _ (n : s.node ≡ here) (writing : IsWriting s g) (unawaited : IsUnawaited s g) (opens : is_open_phase (local_of s g).phase ≡ true) (rows : AtRows script s s.locks.holds) where
    freed-so : (k : Locks) (ms : List Mark) → Locking here before s.locks ms k → Each IsOwn k.holds → ((c : Claim) → IsLasting here c → IsIn s.locks.holds c → IsIn k.holds c)
        → k.waits ≡ without g s.locks.waits → AreWritesHeld script P here s.locks.holds ms → Each (WritesOwn k.holds) ms
        → Runs (record { seg = record (with_local s g (record (local_of s g) { suspended = None })) { locks = k }; marks = ms })
    freed-so k ms l owns more left writes written =
        record {
          node = n;
          locking = l;
          owns = owns;
          writing = λ e. more (own_lock g) (own-lasts here g) (writing (sym (same g) ∙ e));
          unawaited = λ e.
              subst (Each (λ wait. meets (own_lock g) wait ≡ false)) (sym left)
              (each_filter (λ wait. meets (own_lock g) wait ≡ false) (λ wait. not (is_of g wait)) s.locks.waits (unawaited (sym (same g) ∙ e)));
          lasting = more;
          alone = ap (find (is_of g)) left ∙ find-without g s.locks.waits;
          opens = ap is_open_phase (same g) ∙ opens;
          ended = λ h. ap has_ended (same h);
          rows = rows-with script s g (record (local_of s g) { suspended = None }) k.holds tt (rows-later script here s s.locks.holds k.holds more rows);
          writes = writes;
          written = written;
        }
      where
        same : (h : Gxid) → (local_of (with_local s g (record (local_of s g) { suspended = None })) h).phase ≡ (local_of s h).phase
        same = phase-at s g (record (local_of s g) { suspended = None }) refl

    -- with the lock that it has waited for, which was its only wait
    pub resumed-so : (wanted : Claim) → Each IsOwn s.locks.holds → IsOwn wanted → is_clear s.locks.holds s.locks.waits wanted ≡ true → filter (is_of g) s.locks.waits ≡ wanted ∷ []
        → Runs (record { seg = freed s g wanted; marks = hold_mark s.node wanted ∷ [] })
    resumed-so wanted owns own free once =
        freed-so (resumed s.locks g (Some wanted)) (hold_mark s.node wanted ∷ [])
        (subst (λ k. Locking here before s.locks (hold_mark k wanted ∷ []) (resumed s.locks g (Some wanted))) (sym n) (resumption here before s.locks g wanted free once))
        (each-held s.locks.holds wanted owns own) (λ c l i. in-added wanted c s.locks.holds i) refl tt (tt, tt)

    -- or at another's end, whose lock is given back at once
    pub resumed-end : (here ≡ the_coordinator → ⊥) → (writer : Gxid) → Each IsOwn s.locks.holds → is_clear s.locks.holds s.locks.waits (end_lock g writer) ≡ true
        → filter (is_of g) s.locks.waits ≡ end_lock g writer ∷ []
        → Runs (is_granted s g (end_lock g writer))
    resumed-end away writer owns free once =
        freed-so (without_hold k (end_lock g writer)) (hold_mark s.node (end_lock g writer) ∷ release_mark s.node (end_lock g writer) ∷ [])
        (subst (λ j. Locking here before s.locks (hold_mark j (end_lock g writer) ∷ release_mark j (end_lock g writer) ∷ []) (without_hold k (end_lock g writer))) (sym n)
        (both here before s.locks (hold_mark here (end_lock g writer) ∷ []) k (release_mark here (end_lock g writer) ∷ []) (without_hold k (end_lock g writer))
        (resumption here before s.locks g (end_lock g writer) free once)
        (give here (before ++ hold_mark here (end_lock g writer) ∷ []) k (end_lock g writer) (away, refl) (find-without g s.locks.waits))))
        (subst (Each IsOwn) (sym same) owns) (λ c l i. subst (λ hs. IsIn hs c) (sym same) i) refl tt (tt, (tt, tt))
      where
        k : Locks
        k = resumed s.locks g (Some (end_lock g writer))

        same : (without_hold k (end_lock g writer)).holds ≡ s.locks.holds
        same = end-back g writer s.locks.holds owns

  -- its locks change by one mark, or a mark tells of no lock
  relocked : (k : Locks) (x : Mark) (m : Moved) → ((hs : List Claim) → AreWritesHeld script P here hs (x ∷ [])) → WritesOwn k.holds x
      → Locking here (before ++ m.marks) m.seg.locks (x ∷ []) k → Each IsOwn k.holds
      → ((c : Claim) → IsLasting here c → IsIn m.seg.locks.holds c → IsIn k.holds c) → k.waits ≡ m.seg.locks.waits → Runs m
      → Runs (record { seg = record m.seg { locks = k }; marks = m.marks ++ x ∷ [] })
  relocked k x m unheld unwritten l owns more waits f =
      record {
        node = f.node;
        locking = both here before s.locks m.marks m.seg.locks (x ∷ []) k f.locking l;
        owns = owns;
        writing = λ e. more (own_lock g) (own-lasts here g) (f.writing e);
        unawaited = λ e. subst (Each (λ wait. meets (own_lock g) wait ≡ false)) (sym waits) (f.unawaited e);
        lasting = λ c q i. more c q (f.lasting c q i);
        alone = ap (find (is_of g)) waits ∙ f.alone;
        opens = f.opens;
        ended = f.ended;
        rows = rows-later script here m.seg m.seg.locks.holds k.holds more f.rows;
        writes = held-append script P here s.locks.holds m.marks (x ∷ []) f.writes (unheld (holds_from here s.locks.holds m.marks));
        written = each_append (WritesOwn k.holds) m.marks (x ∷ []) (written-later m.seg.locks.holds k.holds m.marks (λ h i. more (own_lock h) (own-lasts here h) i) f.written) (unwritten, tt);
      }

  -- a lock is granted to it
  pub granted : (wanted : Claim) (m : Moved) → wanted.gxid ≡ g → IsOwn wanted → is_clear m.seg.locks.holds m.seg.locks.waits wanted ≡ true → Runs m → Runs (takes_lock wanted m)
  granted wanted m is own free f =
      relocked (with_hold m.seg.locks wanted) (hold_mark m.seg.node wanted) m (λ hs. tt) tt
      (subst (λ k. Locking here (before ++ m.marks) m.seg.locks (hold_mark k wanted ∷ []) (with_hold m.seg.locks wanted)) (sym f.node)
      (grant here (before ++ m.marks) m.seg.locks wanted free (subst (λ h. wait_of m.seg.locks h ≡ None) (sym is) f.alone)))
      (each-held m.seg.locks.holds wanted f.owns own) (λ c l i. in-added wanted c m.seg.locks.holds i) refl f

  -- it gives one back that doesn't last
  pub given-back : (old : Claim) (m : Moved) → old.gxid ≡ g → IsMomentary here old.object old.mode → Runs m → Runs (gives_back old m)
  given-back old m is brief f =
      relocked (without_hold m.seg.locks old) (release_mark m.seg.node old) m (λ hs. tt) tt
      (subst (λ k. Locking here (before ++ m.marks) m.seg.locks (release_mark k old ∷ []) (without_hold m.seg.locks old)) (sym f.node)
      (give here (before ++ m.marks) m.seg.locks old brief (subst (λ h. wait_of m.seg.locks h ≡ None) (sym is) f.alone)))
      (each_filter IsOwn (λ other. not (same_claim old other)) m.seg.locks.holds f.owns) (λ c l i. in-given here old c m.seg.locks.holds brief l i) refl f

  -- a mark tells of no lock and no row that is written
  pub told-so : (x : Mark) (m : Moved) → NoLock x → ((hs : List Claim) → AreWritesHeld script P here hs (x ∷ [])) → WritesOwn m.seg.locks.holds x → Runs m → Runs (noted m x)
  told-so x m still unheld unwritten f = relocked m.seg.locks x m unheld unwritten (no-lock here (before ++ m.marks) m.seg.locks (x ∷ []) (still, tt)) f.owns (λ c l i. i) refl f

  -- it writes a row, and takes its own lock if that is its first
  pub row-written : (c : Cid) (table : Table) (m : Moved) (rid : Rid) (image : Option (List Value)) → HasTable script m.seg.locks.holds g table → P g table → Runs m
      → Runs (writes_row g c table m rid image)
  row-written c table m rid image has p f = by_phase (local_of m.seg g).phase refl
    where
      write : Mark
      write = mark.Write g c m.seg.node table rid image

      one : Moved
      one = record { seg = adds_version m.seg g (version g c table rid image); marks = m.marks ++ write ∷ [] }

      locking : Locking here before s.locks one.marks m.seg.locks
      locking = both here before s.locks m.marks m.seg.locks (write ∷ []) m.seg.locks f.locking (no-lock here (before ++ m.marks) m.seg.locks (write ∷ []) (tt, tt))

      writes : AreWritesHeld script P here s.locks.holds one.marks
      writes = held-append script P here s.locks.holds m.marks (write ∷ []) f.writes ((subst (λ hs. HasTable script hs g table) (sym f.locking.holds) has, p), tt)

      -- with its own lock
      so : (k : Locks) (all : List Mark) → Locking here before s.locks all k → AreWritesHeld script P here s.locks.holds all → Each (WritesOwn k.holds) all → Each IsOwn k.holds
          → IsIn k.holds (own_lock g)
          → ((x : Claim) → IsIn m.seg.locks.holds x → IsIn k.holds x) → k.waits ≡ m.seg.locks.waits → Runs (record { seg = record one.seg { locks = k }; marks = all })
      so k all l w each own has_own more waits =
          record {
            node = f.node;
            locking = l;
            owns = own;
            writing = λ e. has_own;
            unawaited = λ e. absurd (reads-not (local_of m.seg g) (eqb g.0 g.0) (eqb-self g.0) e);
            lasting = λ x l i. more x (f.lasting x l i);
            alone = ap (find (is_of g)) waits ∙ f.alone;
            opens = ap (λ (b : Bool). is_open_phase (if b then record (local_of m.seg g) { phase = Writing } else local_of m.seg g).phase) (eqb-self g.0);
            ended = λ h. ended-so h (eqb h.0 g.0) refl;
            rows = rows-with script m.seg g (record (local_of m.seg g) { phase = Writing }) k.holds (stay g) stay;
            writes = w;
            written = each;
          }
        where
          reads-not : (l : Local) (b : Bool) → b ≡ true → (if b then record l { phase = Writing } else l).phase ≡ Reading → ⊥
          reads-not l true q e = absurd (cc)
          reads-not l false q e = absurd (cc)

          stay : AtRows script m.seg k.holds
          stay = rows-later script here m.seg m.seg.locks.holds k.holds (λ x l i. more x i) f.rows

          ended-so : (h : Gxid) (b : Bool) → eqb h.0 g.0 ≡ b → has_ended (if b then record (local_of m.seg g) { phase = Writing } else m.seg.locals h.0).phase ≡ has_ended (local_of s h).phase
          ended-so h true q = subst (λ j. false ≡ has_ended (local_of s j).phase) (sym (gxid-of h g q)) (sym (open-lives (local_of m.seg g).phase f.opens) ∙ f.ended g)
          ended-so h false q = f.ended h

      -- its first write takes the lock, which is free
      first : (local_of m.seg g).phase ≡ Reading → Runs (takes_lock (own_lock g) one)
      first reads =
          so (record m.seg.locks { holds = with_claim (own_lock g) m.seg.locks.holds }) (one.marks ++ hold_mark m.seg.node (own_lock g) ∷ [])
          (both here before s.locks one.marks m.seg.locks (hold_mark m.seg.node (own_lock g) ∷ []) (record m.seg.locks { holds = with_claim (own_lock g) m.seg.locks.holds }) locking
          (subst (λ k. Locking here (before ++ one.marks) m.seg.locks (hold_mark k (own_lock g) ∷ []) (record m.seg.locks { holds = with_claim (own_lock g) m.seg.locks.holds })) (sym f.node)
          (grant here (before ++ one.marks) m.seg.locks (own_lock g) (clear-of m.seg.locks.holds m.seg.locks.waits (own_lock g) (own-free g m.seg.locks.holds f.owns) (f.unawaited reads)) f.alone)))
          (held-append script P here s.locks.holds one.marks (hold_mark m.seg.node (own_lock g) ∷ []) writes tt)
          (each_append (WritesOwn (with_claim (own_lock g) m.seg.locks.holds)) one.marks (hold_mark m.seg.node (own_lock g) ∷ [])
          (each_append (WritesOwn (with_claim (own_lock g) m.seg.locks.holds)) m.marks (write ∷ [])
          (written-later m.seg.locks.holds (with_claim (own_lock g) m.seg.locks.holds) m.marks (λ h i. in-added (own_lock g) (own_lock h) m.seg.locks.holds i) f.written)
          (in-new (own_lock g) m.seg.locks.holds, tt)) (tt, tt))
          (each-held m.seg.locks.holds (own_lock g) f.owns refl) (in-new (own_lock g) m.seg.locks.holds) (λ x i. in-added (own_lock g) x m.seg.locks.holds i) refl

      -- a later one has it
      later : IsIn m.seg.locks.holds (own_lock g) → Runs one
      later i =
          so m.seg.locks one.marks locking writes (each_append (WritesOwn m.seg.locks.holds) m.marks (write ∷ []) f.written (i, tt)) f.owns i (λ x j. j) refl

      by_phase : (q : Phase) → (local_of m.seg g).phase ≡ q → Runs (takes_own g q one)
      by_phase Reading e = first e
      by_phase Writing e = later (f.writing e)
      by_phase Prepared e = absurd (false-true (sym (ap is_open_phase e) ∙ f.opens))
      by_phase Committed e = absurd (false-true (sym (ap is_open_phase e) ∙ f.opens))
      by_phase (Forgotten b) e = absurd (false-true (sym (ap is_open_phase e) ∙ f.opens))
      by_phase Aborted e = absurd (false-true (sym (ap is_open_phase e) ∙ f.opens))
