-- How an UPDATE or DELETE leaves its turn: it answers, or it waits and tells nothing; and what its answer says.
use Rattle.std.proofs.Common.{◌≡◌, ◌≤◌, ◌+◌, ◌⊎◌, inl, inr, ℕ, List, [], ◌∷◌, ◌++◌, length, Option, Some, None, Bool, true, false, refl, sym, subst, ap, ◌∙◌, if◌then◌else◌, ◌&&◌, eqb, arith, append_assoc, suc}
use Rattle.std.proofs.Math.Seq.{take-append_seam}
use Rattle.std.proofs.lemmas.Bool.{eqb-true, or_left}
use Rattle.std.specs.Prelude.{slice_get, take}
use Rattle.gx_lemmas.proofs.Options.{some-same}
use Rattle.gx_ids.specs.declared.ids.Cid.{Cid}
use Rattle.gx_ids.specs.declared.ids.Gxid.{Gxid}
use Rattle.gx_ids.specs.declared.ids.Node.{Node}
use Rattle.gx_ids.specs.declared.ids.Table.{Table}
use Rattle.gx_ids.specs.declared.rid.Rid.{Rid}
use Rattle.gx_tree.specs.declared.cond.Cond.{Cond}
use Rattle.gx_tree.specs.declared.row.KeyedRow.{KeyedRow}
use Rattle.gx_tree.specs.declared.slice.Slice.{Slice}
use Rattle.gx_tree.specs.declared.slice.Slice.TheVariants as slice
use Rattle.gx_tree.specs.declared.stmt.Level.{Level}
use Rattle.gx_tree.specs.declared.value.Value.{Value}
use Rattle.gx_dsnap.specs.declared.snapshot.Snapshot.{Snapshot}
use Rattle.gx_meaning.specs.declared.fault.ArithFault.{ArithFault}
use Rattle.gx_msg.specs.declared.message.Message.TheVariants as message
use Rattle.gx_msg.specs.declared.message.Out.{Out}
use Rattle.gx_msg.specs.declared.reply.Reply.{Reply}
use Rattle.gx_msg.specs.declared.reply.Reply.TheVariants as reply
use Rattle.gx_store.specs.declared.mark.Mark.{Mark}
use Rattle.gx_store.specs.declared.mark.Mark.TheVariants as mark
use Rattle.gx_store.specs.Faults.{IsFaultOf}
use Rattle.gx_store.specs.Marks.{is_aborted, is_processed}
use Rattle.gx_store.specs.Refusals.{the_coordinator}
use Rattle.gx_store.proofs.Marks.{is_processed-append}
use Rattle.gx_rules.specs.Changes.{Change, change_of, changes_rows, goes_through, selected, shown_to, suspended_at, suspends_at, unless_fault}
use Rattle.gx_rules.specs.Segments.{Local, Phase, Seg, SegTurn, Suspended, local_of, reply as reply_out}
use Rattle.gx_rules.specs.Segments.Phase.{Aborted, Committed, Forgotten, Prepared, Reading, Writing}
use Rattle.gx_rules.specs.Slices.{Moved, adds_version, answers, first_fault, starts_from, takes_own, version}
use Rattle.gx_rules.specs.Visits.{WaitsAt}
use Rattle.gx_rules.proofs.Moving.{Ends, Keeps, loop-keeps}
use Rattle.gx_law_order.proofs.Lists.{get_last}
use Rattle.gx_law_order.specs.Lists.{Each}
use Rattle.gx_law_writes.proofs.Turns.{NoWrite}
use Rattle.gx_law_writes.specs.Says.{IsPartDone, Says, SaysDone, SaysFault, SaysOvertaken, count_at, stmt_of_change}
use Rattle.gx_law_answers.specs.OneAnswer.{IsOfCommand}
use Rattle.gx_law_answers.specs.Truth.{IsTrueFailure, IsTruth, SendNothing}
use Rattle.gx_law_answers.proofs.Truths.{aborted-more, part-more, snapshot-more}

-- HOW IT LEAVES ITS TURN
-- what was answered before on the segment s, is so
abbrev pub AreAnswersOf : Seg → Seg → Type 0
AreAnswersOf s t = (h : ℕ) → (t.locals h).answer ≡ (s.locals h).answer

pub record Answers (s : Seg) (g : Gxid) (c : Cid) (turn : SegTurn) : Type 0 where
  pub base : Seg
  pub marks : List Mark
  pub said : Reply
  pub kind : IsOfCommand said c
  pub is : turn ≡ answers base g c marks said
  pub others : AreAnswersOf s base

pub record Waits (s : Seg) (turn : SegTurn) : Type 0 where
  pub outs : turn.outs ≡ []
  pub kept : (h : ℕ) → ((turn.seg.locals h).answer ≡ None) ⊎ ((turn.seg.locals h).answer ≡ (s.locals h).answer)

abbrev pub Leaves : Seg → Gxid → Cid → SegTurn → Type 0
Leaves s g c turn = Answers s g c turn ⊎ Waits s turn

module _ (s : Seg) (g : Gxid) (k : Change) where
  abbrev So : Moved → Type 0
  So m = AreAnswersOf s m.seg

  abbrev Left : SegTurn → Type 0
  Left t = Leaves s g k.cid t

  own-so : (phase : Phase) (m : Moved) → So m → So (takes_own g phase m)
  own-so Reading m e = e
  own-so Writing m e = e
  own-so Prepared m e = e
  own-so Committed m e = e
  own-so (Forgotten b) m e = e
  own-so Aborted m e = e

  -- a version more changes the phase alone
  version-so : (m : Moved) (rid : Rid) (image : Option (List Value)) → So m → AreAnswersOf s (adds_version m.seg g (version g k.cid k.table rid image))
  version-so m rid image e h = by_test (eqb h g.0) refl ∙ e h
    where
      by_test : (b : Bool) → eqb h g.0 ≡ b → (if b then record (local_of m.seg g) { phase = Writing } else m.seg.locals h).answer ≡ (m.seg.locals h).answer
      by_test true q = ap (λ j. (m.seg.locals j).answer) (sym (eqb-true h g.0 q))
      by_test false q = refl

  keeps : Keeps g k So
  keeps =
      record {
        takes = λ m rid free e. e;
        gives = λ m rid held e. e;
        writes = λ m rid image why e.
            own-so (local_of m.seg g).phase (record { seg = adds_version m.seg g (version g k.cid k.table rid image); marks = m.marks ++ mark.Write g k.cid m.seg.node k.table rid image ∷ [] }) (version-so m rid image e);
        skips = λ m rid why e. e;
        faults = λ m rid image e. e;
      }

  stopped-locals : (last : Moved) (rid : Rid) (writer : Gxid) (stopped : Moved) → WaitsAt last g rid writer stopped → (h : ℕ) → stopped.seg.locals h ≡ last.seg.locals h
  stopped-locals last rid writer stopped (inl w) h = ap (λ (n : Moved). n.seg.locals h) w.1
  stopped-locals last rid writer stopped (inr (inl w)) h = ap (λ (n : Moved). n.seg.locals h) w.1
  stopped-locals last rid writer stopped (inr (inr w)) h = ap (λ (n : Moved). n.seg.locals h) w.1

  suspended-left : (m : Moved) (stopped : Moved) (x : Suspended) → ((h : ℕ) → stopped.seg.locals h ≡ m.seg.locals h) → So m → Left (suspends_at stopped g k x)
  suspended-left m stopped x same e = inr (record { outs = refl; kept = λ h. by_test h (eqb h g.0) })
    where
      by_test : (h : ℕ) (b : Bool)
          → ((if b then record (local_of stopped.seg g) { last = k.cid.0; answer = None; suspended = Some x } else stopped.seg.locals h).answer ≡ None)
          ⊎ ((if b then record (local_of stopped.seg g) { last = k.cid.0; answer = None; suspended = Some x } else stopped.seg.locals h).answer ≡ (s.locals h).answer)
      by_test h true = inl refl
      by_test h false = inr (ap (λ (l : Local). l.answer) (same h) ∙ e h)

  ends : Ends g k So Left
  ends =
      record {
        done = λ m count e. inl (record { base = m.seg; marks = m.marks; said = _; kind = refl; is = refl; others = e });
        stopped = λ m rid rest count t stop e. suspended-left m stop.stopped (suspended_at k rid rest count) (stopped-locals m rid stop.version.gxid stop.stopped stop.how) e;
        failed = λ m cause e. inl (record { base = m.seg; marks = m.marks; said = reply.Failed k.cid cause; kind = refl; is = refl; others = e });
      }

  pub loop-leaves : (rids : List Rid) (m : Moved) (count : ℕ) → AreAnswersOf s m.seg → Leaves s g k.cid (goes_through g k rids m count)
  loop-leaves rids m count e = loop-keeps g k So Left keeps ends rids m count e

  pub change-leaves : (b : Seg) → AreAnswersOf s b → Leaves s g k.cid (changes_rows b g (Some k))
  change-leaves b e = by_fault (first_fault k.cond (shown_to b g k))
    where
      by_fault : (o : Option (KeyedRow × ArithFault)) → Left (unless_fault b g k (shown_to b g k) o)
      by_fault None = loop-leaves (selected k.cond (shown_to b g k)) (starts_from b) 0 e
      by_fault (Some fault) = inl (record { base = b; marks = _; said = _; kind = refl; is = refl; others = e })

-- WHAT IT SAYS
pub count-none : (node : Node) (g : Gxid) (c : Cid) (extra : List Mark) → Each NoWrite extra → count_at node g c extra ≡ 0
count-none node g c [] e = refl
count-none node g c (mark.Write h d n t r x ∷ ms) e = absurd e.0
count-none node g c (m ∷ ms) e = count-none node g c ms e.1

pub count-append : (node : Node) (g : Gxid) (c : Cid) (xs ys : List Mark) → count_at node g c (xs ++ ys) ≡ count_at node g c xs + count_at node g c ys
count-append node g c [] ys = omega arith
count-append node g c (mark.Write h d n t r x ∷ xs) ys = by_test (Rattle.gx_store.specs.Journals.is_same_node n node && Rattle.gx_store.specs.Marks.is_command_of g c h d) (count-append node g c xs ys)
  where
    moved : (a b : ℕ) → (a + b) + 1 ≡ (a + 1) + b
    moved a b = omega arith

    by_test : (b : Bool) → count_at node g c (xs ++ ys) ≡ count_at node g c xs + count_at node g c ys
        → (if b then count_at node g c (xs ++ ys) + 1 else count_at node g c (xs ++ ys)) ≡ (if b then count_at node g c xs + 1 else count_at node g c xs) + count_at node g c ys
    by_test true e = ap (λ n. n + 1) e ∙ moved (count_at node g c xs) (count_at node g c ys)
    by_test false e = e
count-append node g c (m ∷ xs) ys = count-append node g c xs ys

plus-none : (a b : ℕ) → b ≡ 0 → a + b ≡ a
plus-none a b e = omega (arith, e)

pub processed-more : (ms extra : List Mark) (g : Gxid) (c : Cid) (rid : Rid) → is_processed ms g c rid ≡ true → is_processed (ms ++ extra) g c rid ≡ true
processed-more ms extra g c rid e = is_processed-append ms extra g c rid ∙ or_left (is_processed ms g c rid) (is_processed extra g c rid) e

pub done-more : (ms extra : List Mark) → Each NoWrite extra → (node : Node) (level : Level) (g : Gxid) (c : Cid) (table : Table) (cond : Option Cond) (count : ℕ) → IsPartDone ms node level g c table cond count → IsPartDone (ms ++ extra) node level g c table cond count
done-more ms extra quiet node level g c table cond count d =
    record {
      place = d.place;
      taken = snapshot-more ms extra level g c d.place d.taken;
      rows = d.rows;
      of = part-more ms extra quiet level g c d.place d.taken node table d.rows d.of;
      whole = d.whole;
      each = λ rid row there chosen. processed-more ms extra g c rid (d.each rid row there chosen);
      counted = d.counted ∙ sym (count-append node g c ms extra ∙ plus-none (count_at node g c ms) (count_at node g c extra) (count-none node g c extra quiet));
    }

abbrev pub ChangeTruth : List Mark → List Mark → Node → Gxid → Change → Reply → Type 0
ChangeTruth before marks node g k (reply.Done d wrote count part) = (is_aborted marks g ≡ true) ⊎ IsPartDone marks node k.level g k.cid k.table k.cond count
ChangeTruth before marks node g k (reply.Failed d cause) = IsTrueFailure before marks k.level g k.cid (stmt_of_change k) k.table k.cond cause
ChangeTruth before marks node g k _ = ⊥

pub change-truth : (before marks : List Mark) (node : Node) (g : Gxid) (c : Cid) (level : Level) (snapshot : Option Snapshot) (y : Slice) (k : Change) → change_of c level snapshot y ≡ Some k → (r : Reply) → ChangeTruth before marks node g k r → IsTruth before marks node level g c y r
change-truth before marks node g c level (Some v) (slice.Update t a d) k e r truth = by_reply r (subst (λ (z : Change). ChangeTruth before marks node g z r) (sym (some-same _ k e)) truth)
  where
    its : Change
    its = record { cid = c; level = level; snapshot = v; slice = slice.Update t a d; table = t; set = Some a; cond = d }

    by_reply : (r : Reply) → ChangeTruth before marks node g its r → IsTruth before marks node level g c (slice.Update t a d) r
    by_reply (reply.Done d' w n p) z = z
    by_reply (reply.Failed d' x) z = z
    by_reply reply.Prepared z = z
    by_reply reply.Committed z = z
    by_reply reply.Jfault z = z
    by_reply reply.Again z = z
    by_reply reply.Restarted z = z
    by_reply reply.Aborted z = z
    by_reply reply.Forgotten z = z
change-truth before marks node g c level (Some v) (slice.Delete t d) k e r truth = by_reply r (subst (λ (z : Change). ChangeTruth before marks node g z r) (sym (some-same _ k e)) truth)
  where
    its : Change
    its = record { cid = c; level = level; snapshot = v; slice = slice.Delete t d; table = t; set = None; cond = d }

    by_reply : (r : Reply) → ChangeTruth before marks node g its r → IsTruth before marks node level g c (slice.Delete t d) r
    by_reply (reply.Done d' w n p) z = z
    by_reply (reply.Failed d' x) z = z
    by_reply reply.Prepared z = z
    by_reply reply.Committed z = z
    by_reply reply.Jfault z = z
    by_reply reply.Again z = z
    by_reply reply.Restarted z = z
    by_reply reply.Aborted z = z
    by_reply reply.Forgotten z = z
change-truth before marks node g c level (Some v) (slice.Select q) k e r truth = absurd (cc)
change-truth before marks node g c level (Some v) (slice.Insert t rows) k e r truth = absurd (cc)
change-truth before marks node g c level (Some v) (slice.Lock t m) k e r truth = absurd (cc)
change-truth before marks node g c level None (slice.Update t a d) k e r truth = absurd (cc)
change-truth before marks node g c level None (slice.Delete t d) k e r truth = absurd (cc)
change-truth before marks node g c level None (slice.Select q) k e r truth = absurd (cc)
change-truth before marks node g c level None (slice.Insert t rows) k e r truth = absurd (cc)
change-truth before marks node g c level None (slice.Lock t m) k e r truth = absurd (cc)

-- THE ANSWER'S TRUTH
-- behind the turn's marks its answer is sent
module _ (ms : List Mark) (node : Node) (g : Gxid) (k : Change) (turn : SegTurn) (sent : List Mark) (number : ℕ) (r : Reply) (given : turn.outs ≡ reply_out g r ∷ []) (sent-is : sent ≡ mark.Sent the_coordinator number (message.Answer g r) ∷ []) (silent : SendNothing turn.marks) where
  abbrev all : List Mark
  all = ms ++ (turn.marks ++ sent)

  quiet : Each NoWrite sent
  quiet = subst (Each NoWrite) (sym sent-is) (tt, tt)

  seam : (ms ++ turn.marks) ++ sent ≡ all
  seam = append_assoc ms turn.marks sent

  same-reply : (q : Reply) → turn.outs ≡ reply_out g q ∷ [] → q ≡ r
  same-reply q e = by_message (ap (λ (o : Out). o.message) (ap (first (reply_out g q)) (sym e ∙ given)))
    where
      first : Out → List Out → Out
      first o [] = o
      first o (p ∷ ps) = p

      by_message : message.Answer g q ≡ message.Answer g r → q ≡ r
      by_message z = cc

  so : (q : Reply) → turn.outs ≡ reply_out g q ∷ [] → ChangeTruth ms all node g k q → ChangeTruth ms all node g k r
  so q e t = subst (ChangeTruth ms all node g k) (same-reply q e) t

  by-done : SaysDone ms node g k turn → ChangeTruth ms all node g k r
  by-done d =
      so (reply.Done k.cid d.wrote d.count _) d.outs
      (inr (subst (λ m. IsPartDone m node k.level g k.cid k.table k.cond d.count) seam (done-more (ms ++ turn.marks) sent quiet node k.level g k.cid k.table k.cond d.count d.done)))

  by-fault : SaysFault ms g k turn → ChangeTruth ms all node g k r
  by-fault f =
      so (reply.Failed k.cid _) f.outs
      (inr (inl (record {
        place = length (ms ++ f.earlier);
        behind = longer ms f.earlier;
        rid = f.rid;
        image = f.image;
        fault = f.fault;
        noted = subst (λ b. slice_get b (length (ms ++ f.earlier)) ≡ Some fault) there (get_last (ms ++ f.earlier) sent fault);
        unaborted = subst (λ b. is_aborted (take (length (ms ++ f.earlier)) b) g ≡ false) there (ap (λ b. is_aborted b g) taken ∙ f.unaborted);
        faults = subst (λ b. IsFaultOf (take (length (ms ++ f.earlier)) b) k.level g k.cid (stmt_of_change k) f.rid f.image f.fault) there (subst (λ b. IsFaultOf b k.level g k.cid (stmt_of_change k) f.rid f.image f.fault) (sym taken) f.faults);
        is = refl;
      })))
    where
      fault : Mark
      fault = mark.Fault g k.cid f.rid f.image

      longer : (xs ys : List Mark) → length xs ≤ length (xs ++ ys)
      longer [] ys = omega arith
      longer (x ∷ xs) ys = next _ _ (longer xs ys)
        where
          next : (a b : ℕ) → a ≤ b → suc a ≤ suc b
          next a b l = omega (arith, l)

      taken : take (length (ms ++ f.earlier)) ((ms ++ f.earlier) ++ fault ∷ sent) ≡ ms ++ f.earlier
      taken = take-append_seam (ms ++ f.earlier) (fault ∷ sent)

      there : (ms ++ f.earlier) ++ fault ∷ sent ≡ all
      there = append_assoc ms f.earlier (fault ∷ sent) ∙ ap (λ z. ms ++ z) (sym (append_assoc f.earlier (fault ∷ []) sent)) ∙ ap (λ z. ms ++ (z ++ sent)) (sym f.noted)

  by-loss : SaysOvertaken ms g k turn → ChangeTruth ms all node g k r
  by-loss o =
      so (reply.Failed k.cid _) o.outs
      (inr (inr (record {
        own = turn.marks;
        number = number;
        are = ap (λ z. ms ++ (turn.marks ++ z)) sent-is ∙ ap (λ q. ms ++ (turn.marks ++ mark.Sent the_coordinator number (message.Answer g q) ∷ [])) (sym (same-reply (reply.Failed k.cid _) o.outs));
        silent = silent;
        isolation = o.isolation;
        rid = o.rid;
        writer = o.writer;
        is = refl;
        row = o.rows;
      })))

  by-abort : IsOfCommand r k.cid → is_aborted ms g ≡ true → ChangeTruth ms all node g k r
  by-abort kind a = by_reply r kind
    where
      by_reply : (q : Reply) → IsOfCommand q k.cid → ChangeTruth ms all node g k q
      by_reply (reply.Done d w n p) z = inl (aborted-more ms (turn.marks ++ sent) g a)
      by_reply (reply.Failed d x) z = inl (aborted-more ms (turn.marks ++ sent) g a)
      by_reply reply.Prepared z = z
      by_reply reply.Committed z = z
      by_reply reply.Jfault z = z
      by_reply reply.Again z = z
      by_reply reply.Restarted z = z
      by_reply reply.Aborted z = z
      by_reply reply.Forgotten z = z

  pub says-true : IsOfCommand r k.cid → Says ms node g k turn → ChangeTruth ms all node g k r
  says-true kind (inl a) = by-abort kind a
  says-true kind (inr (inl d)) = by-done d
  says-true kind (inr (inr (inl f))) = by-fault f
  says-true kind (inr (inr (inr (inl o)))) = by-loss o
  says-true kind (inr (inr (inr (inr none)))) = absurd (nothing (sym none ∙ given))
    where
      nothing : (let os : List Out = [] in os) ≡ reply_out g r ∷ [] → ⊥
      nothing z = cc
