-- A session that ends.
use Rattle.std.proofs.Common.{◌≡◌, ◌≤◌, inl, inr, ℕ, ◌+◌, List, [], ◌∷◌, ◌++◌, Some, None, true, false, refl, sym, subst, ap, ◌∙◌, if◌then◌else◌, ◌||◌, arith, eqb, append-nil}
use Rattle.gx_lemmas.proofs.Numbers.{eqb-self, eqb-turned}
use Rattle.gx_lemmas.proofs.Tests.{false-true}
use Rattle.gx_ids.specs.declared.ids.Gxid.{Gxid}
use Rattle.gx_ids.specs.declared.ids.SessionId.{SessionId}
use Rattle.gx_lemmas.proofs.Options.{some-same}
use Rattle.gx_script.specs.declared.Script.{Script}
use Rattle.gx_script.specs.Session.{idle_outside}
use Rattle.gx_script.specs.declared.state.Block.{Block}
use Rattle.gx_script.specs.declared.state.Block.TheVariants as block
use Rattle.gx_script.specs.declared.state.Pending.{Pending}
use Rattle.gx_script.specs.declared.state.Pending.TheVariants as pending
use Rattle.gx_dtx.specs.Rules.{on_abort}
use Rattle.gx_store.specs.declared.event.Event.TheVariants as event
use Rattle.gx_store.specs.declared.mark.Mark.{Mark}
use Rattle.gx_store.specs.declared.mark.Mark.TheVariants as mark
use Rattle.gx_store.specs.declared.run.Step.{Step}
use Rattle.gx_store.specs.Legal.{LegalEnd, is_in_block}
use Rattle.gx_store.specs.Lines.{state_of, stmt_of, transaction_of}
use Rattle.gx_store.specs.Marks.{answer_count, is_ended, started_after, is_aborted}
use Rattle.gx_store.specs.Points.{ends_by, ends_in, marks_in, starts_by, starts_in}
use Rattle.gx_rules.specs.AtCoordinator.{ends_in as ends_session, is_in_block as is_block, next_line, rolls_back}
use Rattle.gx_rules.specs.Coordinators.{Coord, Session, Work, no_work, session_of, with_state, work_of}
use Rattle.gx_law_order.specs.Sessions.{is_nothing_in}
use Rattle.gx_law_order.specs.Standing.{IsOver, IsSession, IsStanding, Owns, Stands, is_busy, state_in}
use Rattle.gx_law_order.proofs.Awaited.{bare-all, own-none}
use Rattle.gx_law_order.proofs.Others.{of-fresh}
use Rattle.gx_law_order.proofs.Frame.{Does}
use Rattle.gx_law_order.proofs.Gathers.{GathersIn, HeardNow}
use Rattle.gx_law_order.proofs.Outs.{CommandIs, abort-bare, bare-outs}
use Rattle.gx_law_order.proofs.Said.{Said, said-calm}
use Rattle.gx_rules.specs.Locks.{release_marks}
use Rattle.gx_store.specs.Refusals.{the_coordinator}
use Rattle.gx_law_order.specs.Lists.{Each}
use Rattle.gx_law_order.proofs.Locked.{LockMark, back-locks, lock-for, lock-given, lock-of, lock-rest}

le-same : (a : ℕ) → a ≤ a
le-same a = omega arith

plus-none : (a n : ℕ) → a + 0 ≡ n → a ≡ n
plus-none a n h = omega arith

idle-is : (q : Pending) → is_nothing_in q ≡ true → q ≡ pending.Nothing
idle-is q e = grind arith

module _ (script : Script) (steps : List Step) (c : Coord) (s : SessionId) (all : IsSession script s steps c) (idle : is_nothing_in (session_of c s).state.pending ≡ true) (none : next_line script c s ≡ None) (inside : is_block (session_of c s).state.block ≡ true) where
  abbrev y : Session
  y = session_of c s

  abbrev ms : List Mark
  ms = marks_in steps

  abbrev next : ℕ
  next = c.table.next.0

  not-over : IsStanding script s ms next y.state.block y.state.pending y.lines y.transaction (work_of c y.transaction) (ends_in s steps) → (ends_in s steps ≡ 0) × Stands script s ms next y.state.block pending.Nothing y.lines y.transaction (work_of c y.transaction)
  not-over (inl z) = (z.0, subst (λ q. Stands script s ms next y.state.block q y.lines y.transaction (work_of c y.transaction)) (idle-is y.state.pending idle) z.1)
  not-over (inr z) = absurd (false-true (sym (ap is_block z.1.outside) ∙ inside))

  st : (ends_in s steps ≡ 0) × Stands script s ms next y.state.block pending.Nothing y.lines y.transaction (work_of c y.transaction)
  st = not-over all.stands

  answered : answer_count s ms ≡ y.lines
  answered = plus-none _ _ st.1.answered

  -- its open block's transaction aborts
  aborts : (b : Block) → b ≡ y.state.block → (ns : List Mark) (g : Gxid) → transaction_of (state_in b st.1.commands) s ms ≡ Some g → is_aborted ((ends_session c s b).marks ++ ns) g ≡ true
  aborts block.Outside e ns g t = absurd (false-true (ap is_block e ∙ inside))
  aborts (block.Open l) e ns g t =
      ap (λ q. q || is_aborted (release_marks the_coordinator c.locks y.transaction ++ ns) g)
      (ap (λ (h : Gxid). eqb h.0 g.0) (some-same y.transaction g (sym ((st.1.owns (subst (λ q. is_busy q pending.Nothing ≡ true) e refl)).0).started ∙ t)) ∙ eqb-self g.0)
  aborts block.Failed e ns g t = absurd (cc)

  pub legal-end : (ns : List Mark) → LegalEnd script steps s ((ends_session c s y.state.block).marks ++ ns)
  legal-end ns =
      record {
        idle = all.starts ∙ sym answered;
        over = ap (λ i. stmt_of s (i + 1) script.lines) answered ∙ none;
        block = subst (λ q. is_in_block q ≡ true) (sym st.1.state) (by_block y.state.block inside);
        once = st.0;
        rolled_back = λ g t. aborts y.state.block refl ns g (subst (λ q. transaction_of q s ms ≡ Some g) st.1.state t);
      }
    where
      by_block : (b : Block) → is_block b ≡ true → is_in_block (state_in b st.1.commands) ≡ true
      by_block block.Outside h = h
      by_block (block.Open l) h = refl
      by_block block.Failed h = refl

  others : (j : SessionId) → eqb j.0 s.0 ≡ false → (starts_by j (event.End s) ≡ 0) × (ends_by j (event.End s) ≡ 0)
  others j h = (refl, ap (λ q. if q then 1 else 0) (eqb-turned j.0 s.0 h))

  started : starts_in s steps + starts_by s (event.End s) ≡ y.lines
  started = back (starts_in s steps) y.lines all.starts
    where
      back : (a n : ℕ) → a ≡ n → a + 0 ≡ n
      back a n h = omega arith

  ended : ends_in s steps + ends_by s (event.End s) ≡ 1
  ended = ap (λ q. ends_in s steps + (if q then 1 else 0)) (eqb-self s.0) ∙ ap (λ i. i + 1) st.0

  over : (ns : List Mark) → Rattle.gx_law_order.specs.Lists.Each (Rattle.gx_law_order.proofs.Said.CalmFor s) ns → IsOver script s (ms ++ ns) block.Outside pending.Nothing y.lines
  over ns calm =
      record {
        outside = refl;
        idle = refl;
        answered = (said-calm script s ms ns (answer_count s ms) (state_of script s ms) (Rattle.gx_store.specs.Marks.is_begun s ms) (started_after s None ms) (record { answered = refl; state = refl; begun = refl; started = refl }) calm).answered ∙ answered;
        none = none;
      }

  open-does : (l : Rattle.gx_tree.specs.declared.stmt.Level.Level) → block.Open l ≡ y.state.block → Does script steps c (event.End s) (rolls_back (with_state c s idle_outside) y.transaction [] (on_abort c.table y.transaction))
  open-does l eb =
      record {
        alters = record {
          s = s.0;
          g = y.transaction.0;
          x = record y { state = idle_outside };
          sessions = λ j. refl;
          works = λ j h. ap (λ q. if q then no_work else c.works j) h;
          next = le-same next;
          whose = inl (ap (λ (i : SessionId). i.0) own.home);
          of = (refl, lock-of s.0 y.transaction.0 tail back);
          fresh = of-fresh s.0 y.transaction.0 next (mark.Abort y.transaction ∷ tail) own.drawn (refl, lock-of s.0 y.transaction.0 tail back);
          alone = others;
          starts = started;
          stands = inr (ended, over (mark.Abort y.transaction ∷ tail) (tt, lock-for s tail back));
          outs = bare-outs script (ms ++ mark.Abort y.transaction ∷ tail) _ (abort-bare c.table y.transaction);
          owned = λ h. own-none y.transaction ((rolls_back (with_state c s idle_outside) y.transaction [] (on_abort c.table y.transaction)).coord.works y.transaction.0) (ap (λ (z : Work). z.command) (ap (λ q. if q then no_work else c.works y.transaction.0) (eqb-self y.transaction.0)));
          sent = bare-all (rolls_back (with_state c s idle_outside) y.transaction [] (on_abort c.table y.transaction)).coord _ (abort-bare c.table y.transaction);
          keeps = λ k i level a. inr (inr (ap (λ q. q || is_aborted tail y.transaction) (eqb-self y.transaction.0)));
          orders = λ h. subst (CommandIs script (ms ++ mark.Abort y.transaction ∷ tail)) (sym (ap (λ (z : Work). z.command) (ap (λ q. if q then no_work else c.works y.transaction.0) (eqb-self y.transaction.0)))) tt;
          gathers = λ h. subst (GathersIn script (HeardNow steps (event.End s)) y.transaction) (sym (ap (λ (z : Work). z.command) (ap (λ q. if q then no_work else c.works y.transaction.0) (eqb-self y.transaction.0)))) tt;
        };
        legal = λ later. (λ q. record { running = subst (λ m. is_ended m y.transaction ≡ false) (sym (append-nil ms)) own.running; cause = inr (record { session = s; event = refl; transaction = transaction }) }, lock-given script steps (event.End s) (mark.Abort y.transaction ∷ []) tail later back);
        rest = λ t later. (tt, lock-rest script steps (event.End s) (mark.Abort y.transaction ∷ []) tail later back);
      }
    where
      tail : List Mark
      tail = release_marks the_coordinator c.locks y.transaction

      back : Each LockMark tail
      back = back-locks c.locks y.transaction

      own : Owns s st.1.commands ms next y.state.block y.transaction (work_of c y.transaction)
      own = (st.1.owns (subst (λ q. is_busy q pending.Nothing ≡ true) eb refl)).0

      transaction : transaction_of (state_of script s (ms ++ [])) s (ms ++ []) ≡ Some y.transaction
      transaction =
          subst (λ m. transaction_of (state_of script s m) s m ≡ Some y.transaction) (sym (append-nil ms))
          (subst (λ q. transaction_of q s ms ≡ Some y.transaction) (sym st.1.state) (subst (λ q. transaction_of (state_in q st.1.commands) s ms ≡ Some y.transaction) eb own.started))

  failed-does : Does script steps c (event.End s) (Rattle.gx_rules.specs.Coordinators.rests (with_state c s idle_outside))
  failed-does =
      record {
        alters = record {
          s = s.0;
          g = next;
          x = record y { state = idle_outside };
          sessions = λ j. refl;
          works = λ j h. refl;
          next = le-same next;
          whose = inr (le-same next);
          of = tt;
          fresh = record { unended = λ h l. refl; unread = λ h l. refl; unstarted = λ h l. refl };
          alone = others;
          starts = started;
          stands = inr (ended, over [] tt);
          outs = tt;
          owned = λ h. h;
          sent = tt;
          keeps = λ k i level a. inl a;
          orders = λ h. h;
          gathers = λ h. h;
        };
        legal = λ later. tt;
        rest = λ t later. tt;
      }

  pub end-does : (b : Block) → b ≡ y.state.block → Does script steps c (event.End s) (ends_session c s b)
  end-does (block.Open l) e = open-does l e
  end-does block.Failed e = failed-does
  end-does block.Outside e = absurd (false-true (ap is_block e ∙ inside))
