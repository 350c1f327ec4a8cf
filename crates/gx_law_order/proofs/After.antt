-- All sessions after a turn.
use Rattle.std.proofs.Common.{◌≡◌, ◌<◌, ◌≤◌, ◌⊎◌, inl, inr, ℕ, ◌+◌, List, [], ◌∷◌, ◌++◌, Bool, true, false, refl, sym, subst, ap, ◌∙◌, if◌then◌else◌, arith, eqb}
use Rattle.std.proofs.lemmas.Bool.{eqb-true}
use Rattle.std.proofs.lemmas.Bool.Decides.{nat_tests}
use Rattle.std.proofs.lemmas.List.{append_assoc}
use Rattle.gx_lemmas.proofs.Numbers.{eqb-self}
use Rattle.gx_ids.specs.declared.ids.Gxid.{Gxid}
use Rattle.gx_ids.specs.declared.ids.SessionId.{SessionId}
use Rattle.gx_msg.specs.declared.message.Out.{Out}
use Rattle.gx_script.specs.declared.Script.{Script}
use Rattle.gx_script.specs.declared.state.Block.{Block}
use Rattle.gx_script.specs.declared.state.Block.TheVariants as block
use Rattle.gx_script.specs.declared.state.Pending.{Pending}
use Rattle.gx_script.specs.declared.state.Pending.TheVariants as pending
use Rattle.gx_store.specs.declared.event.Event.{Event}
use Rattle.gx_store.specs.declared.mark.Mark.{Mark}
use Rattle.gx_store.specs.declared.mark.Mark.TheVariants as mark
use Rattle.gx_store.specs.declared.run.Step.{Step}
use Rattle.gx_store.specs.Marks.{has_snapshot, is_ended}
use Rattle.gx_store.specs.Points.{ends_by, ends_in, marks_in, starts_by, starts_in}
use Rattle.gx_rules.specs.Coordinators.{Coord, CoordTurn, Session, Work, session_of, work_of}
use Rattle.gx_rules.specs.Sending.{counted, numbered}
use Rattle.gx_law_order.proofs.Lists.{each_append}
use Rattle.gx_law_order.specs.Lists.{Each}
use Rattle.gx_law_order.specs.Alive.{IsSilent}
use Rattle.gx_law_order.specs.Standing.{IsSession, IsStanding, is_busy}
use Rattle.gx_law_order.proofs.Others.{Fresh, IsOf, ended-more, of-calm, of-ended, of-snapshot, of-unstarted, snapshot-more}
use Rattle.gx_law_order.proofs.Frame.{Alters, Quiet, sid, standing-by}
use Rattle.gx_law_order.proofs.Becoming.{Becomes}
use Rattle.gx_law_order.proofs.Said.{CalmFor}

pub silent-of : (s g : ℕ) (ms : List Mark) → Each IsSilent ms → Each (IsOf s g) ms
silent-of s g [] e = tt
silent-of s g (mark.Start h t ∷ ms) e = absurd e.0
silent-of s g (mark.Snap h c x ∷ ms) e = absurd e.0
silent-of s g (mark.Commit h ∷ ms) e = absurd e.0
silent-of s g (mark.Abort h ∷ ms) e = absurd e.0
silent-of s g (mark.Answer t n a ∷ ms) e = absurd e.0
silent-of s g (m ∷ ms) e = (tt, silent-of s g ms e.1)

pub sent-silent : (f : ℕ → ℕ) (outs : List Out) → Each IsSilent (numbered f outs)
sent-silent f [] = tt
sent-silent f (o ∷ outs) = (tt, sent-silent (counted f o) outs)

pub quiet-silent : (ms : List Mark) → Each Quiet ms → Each IsSilent ms
quiet-silent [] e = tt
quiet-silent (mark.Decided g ∷ ms) e = (tt, quiet-silent ms e.1)
quiet-silent (mark.Recheck round own verdict ∷ ms) e = (tt, quiet-silent ms e.1)
quiet-silent (m ∷ ms) e = absurd e.0

other-number : (a : ℕ) → eqb a (a + 1) ≡ false
other-number a = grind (arith, nat_tests)

pub silent-calm : (k : SessionId) (ms : List Mark) → Each IsSilent ms → Each (CalmFor k) ms
silent-calm k ms e = of-calm (k.0 + 1) 0 k ms (other-number k.0) (silent-of (k.0 + 1) 0 ms e)

pub silent-ended : (h : Gxid) (ms : List Mark) → Each IsSilent ms → is_ended ms h ≡ false
silent-ended h ms e = of-ended 0 (h.0 + 1) h ms (other-number h.0) (silent-of 0 (h.0 + 1) ms e)

pub silent-snapshot : (h : Gxid) (ms : List Mark) → Each IsSilent ms → has_snapshot ms h ≡ false
silent-snapshot h ms e = of-snapshot 0 (h.0 + 1) h ms (other-number h.0) (silent-of 0 (h.0 + 1) ms e)

pub silent-fresh : (next : ℕ) (ms : List Mark) → Each IsSilent ms → Fresh ms next
silent-fresh next ms e = record { unended = λ h l. silent-ended h ms e; unread = λ h l. silent-snapshot h ms e; unstarted = λ h l. of-unstarted 0 (h.0 + 1) h ms (other-number h.0) (silent-of 0 (h.0 + 1) ms e) }

le-same : (a : ℕ) → a ≤ a
le-same a = omega arith

plus-zero : (a b c : ℕ) → a ≡ b + c → c ≡ 0 → a ≡ b
plus-zero a b c e f = omega arith

module _ (script : Script) (steps : List Step) (c : Coord) (all : (k : SessionId) → IsSession script k steps c) (e : Event) (new : List Step) (ns : List Mark) (b : Becomes steps new e ns) where
  -- a session whose line is not of the turn
  other : (k : SessionId) (next : ℕ) (y : Session) (v : Work) → y ≡ session_of c k → (starts_by k e ≡ 0) × (ends_by k e ≡ 0) → Each (CalmFor k) ns → c.table.next.0 ≤ next
      → (is_busy (session_of c k).state.block (session_of c k).state.pending ≡ true → (v ≡ work_of c (session_of c k).transaction) × (is_ended ns (session_of c k).transaction ≡ false) × (has_snapshot ns (session_of c k).transaction ≡ false))
      → (starts_in k new ≡ y.lines) × IsStanding script k (marks_in new) next y.state.block y.state.pending y.lines y.transaction v (ends_in k new)
  other k next y v same none calm l busy = (
    plus-zero _ _ _ (b.starts k) none.0 ∙ (all k).starts ∙ ap (λ (z : Session). z.lines) (sym same),
    subst (λ i. IsStanding script k (marks_in new) next y.state.block y.state.pending y.lines y.transaction v i) (sym (plus-zero _ _ _ (b.ends k) none.1))
        (subst (λ m. IsStanding script k m next y.state.block y.state.pending y.lines y.transaction v (ends_in k steps)) (sym b.marks)
        (subst (λ (z : Session). IsStanding script k (marks_in steps ++ ns) next z.state.block z.state.pending z.lines z.transaction v (ends_in k steps)) (sym same)
        (standing-by script k (marks_in steps) ns c.table.next.0 next _ _ _ _ (work_of c (session_of c k).transaction) v (ends_in k steps) (all k).stands calm l busy))),
  )

  -- a busy session has a transaction of its own
  busy-apart : (k : SessionId) (s g : ℕ) → eqb k.0 s ≡ false → (((c.works g).session.0 ≡ s) ⊎ (c.table.next.0 ≤ g)) → is_busy (session_of c k).state.block (session_of c k).state.pending ≡ true → eqb (session_of c k).transaction.0 g ≡ false
  busy-apart k s g n whose busy = by_standing (all k).stands
    where
      not-over : (b : Block) (p : Pending) → b ≡ block.Outside → p ≡ pending.Nothing → is_busy b p ≡ true → ⊥
      not-over b p e f h = grind arith

      below : (a : ℕ) → a < c.table.next.0 → c.table.next.0 ≤ g → eqb a g ≡ false
      below a l m = grind (arith, nat_tests)

      away : (a : ℕ) → (c.works a).session ≡ k → (c.works g).session.0 ≡ s → eqb a g ≡ false
      away a h w = by_test (eqb a g) refl
        where
          two : (i j : ℕ) → i ≡ j → eqb i j ≡ false → ⊥
          two i j q f = grind (arith, nat_tests)

          by_test : (q : Bool) → eqb a g ≡ q → q ≡ false
          by_test false q = refl
          by_test true q = absurd (two k.0 s (sym (ap (λ (i : SessionId). i.0) h) ∙ ap (λ i. (c.works i).session.0) (eqb-true a g q) ∙ w) n)

      by_whose : (a : ℕ) → (c.works a).session ≡ k → a < c.table.next.0 → (((c.works g).session.0 ≡ s) ⊎ (c.table.next.0 ≤ g)) → eqb a g ≡ false
      by_whose a h l (inl w) = away a h w
      by_whose a h l (inr m) = below a l m

      by_standing : IsStanding script k (marks_in steps) c.table.next.0 (session_of c k).state.block (session_of c k).state.pending (session_of c k).lines (session_of c k).transaction (work_of c (session_of c k).transaction) (ends_in k steps) → eqb (session_of c k).transaction.0 g ≡ false
      by_standing (inl x) = by_whose (session_of c k).transaction.0 (x.1.owns busy).0.home (x.1.owns busy).0.drawn whose
      by_standing (inr x) = absurd (not-over _ _ x.1.outside x.1.idle busy)

  -- A TURN OF ONE SESSION
  module _ (turn : CoordTurn) (m : Alters script steps c e turn) (sent : List Mark) (silent : Each IsSilent sent) (f : ℕ → ℕ) (clock : ℕ) (mk : ns ≡ turn.marks ++ sent) where
    abbrev d : Coord
    d = record turn.coord { sent = f; clock = clock }

    its : IsSession script (sid m.s) new d
    its =
        record {
          starts = b.starts (sid m.s) ∙ m.starts ∙ ap (λ (z : Session). z.lines) (sym now);
          stands = subst (λ i. At (d.sessions m.s) (marks_in new) i) (sym (b.ends (sid m.s)))
              (subst (λ x. At (d.sessions m.s) x (ends_in (sid m.s) steps + ends_by (sid m.s) e)) (append_assoc (marks_in steps) turn.marks sent ∙ ap (λ x. marks_in steps ++ x) (sym mk) ∙ sym b.marks)
              (subst (λ z. At z ((marks_in steps ++ turn.marks) ++ sent) (ends_in (sid m.s) steps + ends_by (sid m.s) e)) (sym now)
              (standing-by script (sid m.s) (marks_in steps ++ turn.marks) sent turn.coord.table.next.0 turn.coord.table.next.0 _ _ _ _ (turn.coord.works m.x.transaction.0) (turn.coord.works m.x.transaction.0) _ m.stands
              (silent-calm (sid m.s) sent silent) (le-same turn.coord.table.next.0) (λ h. (refl, silent-ended _ sent silent, silent-snapshot _ sent silent)))));
        }
      where
        now : d.sessions m.s ≡ m.x
        now = m.sessions m.s ∙ ap (λ q. if q then m.x else c.sessions m.s) (eqb-self m.s)

        At : Session → List Mark → ℕ → Type 0
        At y marks ends = IsStanding script (sid m.s) marks turn.coord.table.next.0 y.state.block y.state.pending y.lines y.transaction (turn.coord.works y.transaction.0) ends

    theirs : (k : SessionId) → eqb k.0 m.s ≡ false → IsSession script k new d
    theirs k n =
        let r = other k turn.coord.table.next.0 (d.sessions k.0) (d.works (d.sessions k.0).transaction.0) same (m.alone k n)
        (subst (Each (CalmFor k)) (sym mk) (each_append (CalmFor k) turn.marks sent (of-calm m.s m.g k turn.marks n m.of) (silent-calm k sent silent))) m.next (λ h. (work-same h, unended h, unread h)) in
        record { starts = r.0; stands = r.1 }
      where
        same : d.sessions k.0 ≡ c.sessions k.0
        same = m.sessions k.0 ∙ ap (λ q. if q then m.x else c.sessions k.0) n

        apart : is_busy (session_of c k).state.block (session_of c k).state.pending ≡ true → eqb (session_of c k).transaction.0 m.g ≡ false
        apart h = busy-apart k m.s m.g n m.whose h

        work-same : is_busy (session_of c k).state.block (session_of c k).state.pending ≡ true → d.works (d.sessions k.0).transaction.0 ≡ work_of c (session_of c k).transaction
        work-same h = ap (λ (z : Session). d.works z.transaction.0) same ∙ m.works (session_of c k).transaction.0 (apart h)

        unended : is_busy (session_of c k).state.block (session_of c k).state.pending ≡ true → is_ended ns (session_of c k).transaction ≡ false
        unended h = subst (λ q. is_ended q (session_of c k).transaction ≡ false) (sym mk) (ended-more turn.marks sent _ (of-ended m.s m.g _ turn.marks (apart h) m.of) (silent-ended _ sent silent))

        unread : is_busy (session_of c k).state.block (session_of c k).state.pending ≡ true → has_snapshot ns (session_of c k).transaction ≡ false
        unread h = subst (λ q. has_snapshot q (session_of c k).transaction ≡ false) (sym mk) (snapshot-more turn.marks sent _ (of-snapshot m.s m.g _ turn.marks (apart h) m.of) (silent-snapshot _ sent silent))

    pub alters-sessions : (k : SessionId) → IsSession script k new d
    alters-sessions k = by_test (eqb k.0 m.s) refl
      where
        by_test : (q : Bool) → eqb k.0 m.s ≡ q → IsSession script k new d
        by_test true q = subst (λ i. IsSession script (sid i) new d) (sym (eqb-true k.0 m.s q)) its
        by_test false q = theirs k q

  -- A TURN OF NO SESSION
  pub silent-sessions : (d : Coord) → ((j : ℕ) → d.sessions j ≡ c.sessions j) → ((j : ℕ) → d.works j ≡ c.works j) → d.table.next.0 ≡ c.table.next.0 → Each IsSilent ns → ((k : SessionId) → (starts_by k e ≡ 0) × (ends_by k e ≡ 0)) → (k : SessionId) → IsSession script k new d
  silent-sessions d sessions works next silent alone k =
      let r = other k d.table.next.0 (d.sessions k.0) (d.works (d.sessions k.0).transaction.0) (sessions k.0) (alone k) (silent-calm k ns silent) (le-of next)
      (λ h. (ap (λ (z : Session). d.works z.transaction.0) (sessions k.0) ∙ works _, silent-ended _ ns silent, silent-snapshot _ ns silent)) in
      record { starts = r.0; stands = r.1 }
    where
      le-of : {a b : ℕ} → a ≡ b → b ≤ a
      le-of q = omega arith
