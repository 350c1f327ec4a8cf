-- Lines that start, and sessions that end.
use Rattle.std.proofs.Common.{◌≡◌, ◌<◌, ◌≤◌, inl, inr, ℕ, ◌+◌, List, [], ◌∷◌, ◌++◌, Option, Some, None, true, false, refl, sym, subst, ap, ◌∙◌, if◌then◌else◌, arith, eqb, append-nil}
use Rattle.std.proofs.lemmas.List.{append_assoc}
use Rattle.gx_lemmas.proofs.Numbers.{eqb-self, eqb-turned}
use Rattle.gx_lemmas.proofs.Tests.{false-true}
use Rattle.gx_ids.specs.declared.ids.Cid.{Cid}
use Rattle.gx_ids.specs.declared.ids.Node.{Node}
use Rattle.gx_ids.specs.declared.ids.SessionId.{SessionId}
use Rattle.gx_tree.specs.declared.stmt.Level.{Level}
use Rattle.gx_tree.specs.declared.stmt.Level.TheVariants.{ReadCommitted, RepeatableRead}
use Rattle.gx_tree.specs.declared.stmt.Stmt.{Stmt}
use Rattle.gx_tree.specs.declared.stmt.Stmt.TheVariants as stmt
use Rattle.gx_dtx.specs.Nodes.{has}
use Rattle.gx_script.specs.declared.Script.{Script}
use Rattle.gx_script.specs.Session.{after_line, block_after, pending_after}
use Rattle.gx_script.specs.declared.line_step.LineStep.{LineStep}
use Rattle.gx_script.specs.declared.line_step.LineStep.TheVariants as step
use Rattle.gx_script.specs.declared.state.Block.{Block}
use Rattle.gx_script.specs.declared.state.Block.TheVariants as block
use Rattle.gx_script.specs.declared.state.Pending.{Pending}
use Rattle.gx_script.specs.declared.state.Pending.TheVariants as pending
use Rattle.gx_store.specs.declared.answer.StmtAnswer.{StmtAnswer}
use Rattle.gx_store.specs.declared.answer.StmtAnswer.TheVariants as told
use Rattle.gx_store.specs.declared.event.Event.TheVariants as event
use Rattle.gx_store.specs.declared.mark.Mark.{Mark}
use Rattle.gx_store.specs.declared.mark.Mark.TheVariants as mark
use Rattle.gx_store.specs.declared.run.Step.{Step}
use Rattle.gx_store.specs.Answers.{IsAnswer}
use Rattle.gx_store.specs.Lines.{Outside, InBlock, is_command, is_on_rows, state_after}
use Rattle.gx_store.specs.Marks.{answer_count, is_committed, is_ended, is_sent, start_count, started_after}
use Rattle.gx_store.specs.Points.{ends_by, ends_in, marks_in, starts_by, starts_in}
use Rattle.gx_rules.specs.AtCoordinator.{answer_mark, answers_at_once, begins, behind, dispatches, next_cid, next_line, starts_line}
use Rattle.gx_rules.specs.Coordinators.{Command, Coord, Session, Work, new_work, session_of, work_of}
use Rattle.gx_law_order.proofs.Ends.{past-begun}
use Rattle.gx_law_order.proofs.Past.{running-drawn}
use Rattle.gx_law_order.specs.Past.{Past}
use Rattle.gx_law_order.specs.Sessions.{Kept, is_nothing_in}
use Rattle.gx_law_order.specs.Stages.{is_running}
use Rattle.gx_law_order.proofs.Turns.{merged}
use Rattle.gx_law_order.specs.Scanned.{began_from, closes_block}
use Rattle.gx_law_order.specs.Rest.{RestAnswer}
use Rattle.gx_law_order.specs.Standing.{HasSnapshot, IsSession, IsStanding, Owns, Roots, Stands, is_alone, is_busy, is_open, is_sound, level_in, state_in}
use Rattle.gx_law_order.proofs.AtLine.{AtLine, answered-now, at-start, legal-answer, legal-start}
use Rattle.gx_law_order.proofs.Awaited.{IsAwaited, own-none}
use Rattle.gx_law_order.proofs.Dispatch.{dispatch-does}
use Rattle.gx_law_order.proofs.Others.{Fresh, began-behind, ended-more, of-fresh, snapped-more, snapshot-more, unsnapped}
use Rattle.gx_law_order.proofs.Frame.{Does, owns-more}
use Rattle.gx_law_order.proofs.Gathers.{GathersIn, HeardNow}
use Rattle.gx_law_order.proofs.Outs.{CommandIs}
use Rattle.gx_law_order.proofs.Roots.{roots-alone, roots-alone-held-up, roots-begin, roots-other}
use Rattle.gx_law_order.proofs.Said.{Said}
use Rattle.gx_law_order.proofs.Under.{Under}
use Rattle.gx_law_order.proofs.Unsent.{unsent-more}

le-same : (a : ℕ) → a ≤ a
le-same a = omega arith

idle-is : (q : Pending) → is_nothing_in q ≡ true → q ≡ pending.Nothing
idle-is q e = grind arith

not-alone : (q : Block) → is_alone q pending.Nothing ≡ false
not-alone block.Outside = refl
not-alone (block.Open l) = refl
not-alone block.Failed = refl

is-sound : (q : Block) → is_sound q pending.Nothing ≡ true
is-sound block.Outside = refl
is-sound (block.Open l) = refl
is-sound block.Failed = refl

module _ (script : Script) (steps : List Step) (c : Coord) (k : Kept script c) (p : Past c (marks_in steps)) (fr : Fresh (marks_in steps) c.table.next.0) (number : c.table.next.0 ≡ start_count (marks_in steps) + 1) (s : SessionId) (all : IsSession script s steps c) (idle : is_nothing_in (session_of c s).state.pending ≡ true) where
  abbrev y : Session
  y = session_of c s

  abbrev ms : List Mark
  ms = marks_in steps

  abbrev next : ℕ
  next = c.table.next.0

  abbrev moved : LineStep → Session
  moved asked = record y { lines = y.lines + 1; state = after_line y.state.block asked }

  module _ (line : Stmt) (is_next : next_line script c s ≡ Some line) where
    abbrev e : Rattle.gx_store.specs.declared.event.Event.Event
    e = event.Start s

    open-line : IsStanding script s ms next y.state.block y.state.pending y.lines y.transaction (work_of c y.transaction) (ends_in s steps) → (ends_in s steps ≡ 0) × Stands script s ms next y.state.block pending.Nothing y.lines y.transaction (work_of c y.transaction)
    open-line (inl z) = (z.0, subst (λ q. Stands script s ms next y.state.block q y.lines y.transaction (work_of c y.transaction)) (idle-is y.state.pending idle) z.1)
    open-line (inr z) = absurd (none-some (sym z.1.none ∙ is_next))
      where
        none-some : (let o : Option Stmt = None in o) ≡ Some line → ⊥
        none-some h = cc

    pub st : (ends_in s steps ≡ 0) × Stands script s ms next y.state.block pending.Nothing y.lines y.transaction (work_of c y.transaction)
    st = open-line all.stands

    commands : ℕ
    commands = st.1.commands

    pub plus-none : (a n : ℕ) → a + 0 ≡ n → a ≡ n
    plus-none a n h = omega arith

    pub started : starts_in s steps + starts_by s e ≡ y.lines + 1
    started = ap (λ q. starts_in s steps + (if q then 1 else 0)) (eqb-self s.0) ∙ ap (λ i. i + 1) all.starts

    pub ended : ends_in s steps + ends_by s e ≡ 0
    ended = more (ends_in s steps) st.0
      where
        more : (a : ℕ) → a ≡ 0 → a + 0 ≡ 0
        more a h = omega arith

    pub others : (j : SessionId) → eqb j.0 s.0 ≡ false → (starts_by j e ≡ 0) × (ends_by j e ≡ 0)
    others j h = (ap (λ q. if q then 1 else 0) (eqb-turned j.0 s.0 h), refl)

    pub at-zero : AtLine script steps e s line y.lines (state_in y.state.block st.1.commands) false (started_after s None ms) []
    at-zero =
        record {
          said = subst (λ m. Said script s m y.lines (state_in y.state.block st.1.commands) false (started_after s None ms)) (sym (append-nil ms))
              (record { answered = plus-none _ _ st.1.answered; state = st.1.state; begun = st.1.begun ∙ not-alone y.state.block; started = refl });
          starts = started;
          is_line = is_next;
        }

    pub session-now : (asked : LineStep) → session_of (starts_line c s asked) s ≡ moved asked
    session-now asked = ap (λ q. if q then moved asked else y) (eqb-self s.0)

    -- ANSWERED AT ONCE
    pub at-once : (asked : LineStep) (r : StmtAnswer) (B : Block) → pending_after asked ≡ pending.Nothing → block_after y.state.block asked ≡ B → (is_open B ≡ true → y.state.block ≡ B) → (is_open B ≡ true → (is_command (InBlock ReadCommitted 0) line ≡ false) × (closes_block line ≡ false)) → ((later : List Mark) → IsAnswer script (record { steps = steps; event = e; earlier = []; later = later }) s (state_in y.state.block st.1.commands) line r) → state_after (state_in y.state.block st.1.commands) line r ≡ state_in B st.1.commands → ((later : List Mark) → RestAnswer script (record { steps = steps; event = e; earlier = []; later = later }) s r) → Does script steps c e (answers_at_once (starts_line c s asked) s r)
    at-once asked r B waiting stays same quiet is after rest =
        record {
          alters = record {
            s = s.0;
            g = next;
            x = moved asked;
            sessions = λ j. refl;
            works = λ j h. refl;
            next = le-same next;
            whose = inr (le-same next);
            of = (refl, tt);
            fresh = record { unended = λ h l. refl; unread = λ h l. refl; unstarted = λ h l. refl };
            alone = others;
            starts = started;
            stands = inl (ended, subst (λ q. Stands script s late next q (pending_after asked) (y.lines + 1) y.transaction (work_of c y.transaction)) (sym stays) (subst (λ q. Stands script s late next B q (y.lines + 1) y.transaction (work_of c y.transaction)) (sym waiting) there));
            outs = tt;
            owned = λ h. h;
            sent = tt;
            keeps = λ a i level q. inl q;
            orders = λ h. h;
            gathers = λ h. h;
          };
          legal = λ later. (λ q. legal-answer script steps e s line y.lines (state_in y.state.block st.1.commands) false (started_after s None ms) [] at-zero later lines r numbered (is later), tt);
          rest = λ t later. (rest later, tt);
        }
      where
        lines : ℕ
        lines = (session_of (starts_line c s asked) s).lines

        numbered : (session_of (starts_line c s asked) s).lines ≡ y.lines + 1
        numbered = ap (λ (z : Session). z.lines) (session-now asked)

        late : List Mark
        late = ms ++ answer_mark (starts_line c s asked) s r ∷ []

        said : Said script s (ms ++ answer_mark (starts_line c s asked) s r ∷ []) (y.lines + 1) (state_after (state_in y.state.block st.1.commands) line r) false (started_after s None ms)
        said = answered-now script steps e s line y.lines (state_in y.state.block st.1.commands) false (started_after s None ms) [] at-zero (session_of (starts_line c s asked) s).lines r numbered

        same-plus : (a n : ℕ) → a ≡ n → a + 0 ≡ n
        same-plus a n h = omega arith

        busy-open : (q : Block) → is_busy q pending.Nothing ≡ true → is_open q ≡ true
        busy-open block.Outside h = absurd (false-true h)
        busy-open (block.Open l) h = refl
        busy-open block.Failed h = absurd (false-true h)

        owns : is_busy B pending.Nothing ≡ true → Owns s st.1.commands (ms ++ answer_mark (starts_line c s asked) s r ∷ []) next B y.transaction (work_of c y.transaction) × ((work_of c y.transaction).command ≡ None) × Roots script s (ms ++ answer_mark (starts_line c s asked) s r ∷ []) B pending.Nothing (y.lines + 1) y.transaction (work_of c y.transaction)
        owns h =
            let old = st.1.owns (subst (λ q. is_busy q pending.Nothing ≡ true) (sym (same (busy-open B h))) h) in (
              subst (λ q. Owns s st.1.commands (ms ++ answer_mark (starts_line c s asked) s r ∷ []) next q y.transaction (work_of c y.transaction)) (same (busy-open B h)) (owns-more script s st.1.commands ms (answer_mark (starts_line c s asked) s r ∷ []) next next y.state.block y.transaction (work_of c y.transaction) old.0 (le-same next) said.started refl refl),
              old.1,
              subst (λ q. Roots script s (ms ++ answer_mark (starts_line c s asked) s r ∷ []) q pending.Nothing (y.lines + 1) y.transaction (work_of c y.transaction)) (same (busy-open B h))
                  (roots-other script s ms (answer_mark (starts_line c s asked) s r ∷ []) y.state.block y.lines y.transaction (work_of c y.transaction) line (subst (λ q. is_open q ≡ true) (sym (same (busy-open B h))) (busy-open B h)) old.2 is_next (quiet (busy-open B h)).0 (quiet (busy-open B h)).1),
            )

        there : Stands script s (ms ++ answer_mark (starts_line c s asked) s r ∷ []) next B pending.Nothing (y.lines + 1) y.transaction (work_of c y.transaction)
        there =
            record { commands = st.1.commands; answered = same-plus _ _ said.answered; state = said.state ∙ after; begun = said.begun ∙ sym (not-alone B); sound = is-sound B; owns = owns }

    -- A NEW TRANSACTION
    abbrev fresh : LineStep → Session
    fresh asked = record (moved asked) { transaction = c.table.next }

    fresh-sessions : (asked : LineStep) (level : Level) (j : ℕ) → (begins (starts_line c s asked) s level).sessions j ≡ (if eqb j s.0 then fresh asked else c.sessions j)
    fresh-sessions asked level j =
        ap (λ (z : Session). if eqb j s.0 then record z { transaction = c.table.next } else (starts_line c s asked).sessions j) (session-now asked) ∙ merged (eqb j s.0) (fresh asked) (moved asked) (c.sessions j) _ refl

    fresh-work : (asked : LineStep) (level : Level) → work_of (begins (starts_line c s asked) s level) c.table.next ≡ new_work s level
    fresh-work asked level = ap (λ q. if q then new_work s level else c.works c.table.next.0) (eqb-self c.table.next.0)

    abbrev begun : Mark
    begun = mark.Start c.table.next s

    at-begun : block.Outside ≡ y.state.block → AtLine script steps e s line y.lines Outside true (Some c.table.next) (begun ∷ [])
    at-begun outside =
        subst (λ q. AtLine script steps e s line y.lines (state_in q st.1.commands) true (Some c.table.next) (begun ∷ [])) (sym outside)
        (at-start script steps e s line y.lines (state_in y.state.block st.1.commands) false (started_after s None ms) c.table.next [] at-zero)

    start-given : (later : List Mark) → block.Outside ≡ y.state.block → Rattle.gx_store.specs.Legal.draws Outside line ≡ true → Rattle.gx_store.specs.Legal.LegalStart script (record { steps = steps; event = e; earlier = []; later = later }) c.table.next s
    start-given later outside d =
        legal-start script steps e s line y.lines (state_in y.state.block st.1.commands) false (started_after s None ms) [] at-zero later c.table.next refl (subst (λ q. Rattle.gx_store.specs.Legal.draws (state_in q st.1.commands) line ≡ true) outside d) refl
        (number ∙ ap (λ m. start_count m + 1) (sym (append-nil ms)))

    more : (a : ℕ) → a < a + 1
    more a = omega arith

    le-more : (a : ℕ) → a ≤ a + 1
    le-more a = omega arith

    fresh-owns : (level : Level) (B : Block) (n : ℕ) (ns : List Mark) → level_in B ≡ level → n ≡ 0 → started_after s None (ms ++ ns) ≡ Some c.table.next → is_ended ns c.table.next ≡ false → Rattle.gx_store.specs.Marks.has_snapshot ns c.table.next ≡ false → Owns s n (ms ++ ns) (next + 1) B c.table.next (new_work s level)
    fresh-owns level B n ns lev zero started unended unread =
        record {
          home = refl;
          started = started;
          level = sym lev;
          drawn = more next;
          running = ended-more ms ns c.table.next (fr.unended c.table.next (le-same next)) unended;
          counted = λ h. plus-none-too n zero;
          unsnapped = λ d l. snapped-more ms ns c.table.next d (unsnapped ms c.table.next d (fr.unread c.table.next (le-same next))) (unsnapped ns c.table.next d unread);
          snapshot = by_level level;
        }
      where
        plus-none-too : (a : ℕ) → a ≡ 0 → a + 0 ≡ 0
        plus-none-too a h = omega arith

        by_level : (l : Level) → HasSnapshot l (ms ++ ns) c.table.next None
        by_level ReadCommitted = refl
        by_level RepeatableRead = snapshot-more ms ns c.table.next (fr.unread c.table.next (le-same next)) unread

    -- nothing is awaited of a transaction that isn't drawn
    undrawn-unawaited : (a : Cid) (i : Node) (level : Level) → IsAwaited (c.works c.table.next.0) a i level → ⊥
    undrawn-unawaited a i level q = not-less (running-drawn c c.table.next.0 k.whole (ap is_running ((k.tied c.table.next.0).awaits q.its q.is some-left).0)).1
      where
        none-has : has i [] ≡ true → ⊥
        none-has z = grind arith

        some-left : q.its.awaited ≡ [] → ⊥
        some-left z = none-has (sym (ap (has i) z) ∙ q.awaits)

        not-less : c.table.next.0 < c.table.next.0 → ⊥
        not-less l = omega arith

    fresh-began : (ns : List Mark) → began_from [] (ms ++ begun ∷ ns) c.table.next ≡ Some (s, y.lines + 1)
    fresh-began ns =
        began-behind [] ms (begun ∷ ns) c.table.next (fr.unstarted c.table.next (le-same next))
        ∙ ap (λ q. if q then (let o : Option (SessionId × ℕ) = Some (s, answer_count s ms + 1) in o) else began_from (ms ++ begun ∷ []) ns c.table.next) (eqb-self c.table.next.0)
        ∙ ap (λ i. let o : Option (SessionId × ℕ) = Some (s, i + 1) in o) (plus-none _ _ st.1.answered)

    pub begin-does : (level : Level) → line ≡ stmt.Begin level → block.Outside ≡ y.state.block → Does script steps c e (behind (begun ∷ []) (answers_at_once (begins (starts_line c s (step.BeginBlock level)) s level) s told.Begin))
    begin-does level is outside =
        record {
          alters = record {
            s = s.0;
            g = next;
            x = fresh asked;
            sessions = fresh-sessions asked level;
            works = λ j h. ap (λ q. if q then new_work s level else c.works j) h;
            next = le-more next;
            whose = inr (le-same next);
            of = ((refl, refl), (refl, tt));
            fresh = of-fresh s.0 next (next + 1) (begun ∷ answer_mark c1 s told.Begin ∷ []) (more next) ((refl, refl), (refl, tt));
            alone = others;
            starts = started;
            stands = inl (ended, subst (λ q. Stands script s late (next + 1) (block_after q asked) pending.Nothing (y.lines + 1) c.table.next (c1.works next)) outside (subst (λ v. Stands script s late (next + 1) (block.Open level) pending.Nothing (y.lines + 1) c.table.next v) (sym (fresh-work asked level)) there));
            outs = tt;
            owned = λ h. own-none c.table.next (c1.works c.table.next.0) (ap (λ (v : Work). v.command) (fresh-work asked level));
            sent = tt;
            keeps = λ a i level q. absurd (undrawn-unawaited a i level q);
            orders = λ h. subst (CommandIs script late) (sym (ap (λ (v : Work). v.command) (fresh-work asked level))) tt;
            gathers = λ h. subst (GathersIn script (HeardNow steps e) c.table.next) (sym (ap (λ (v : Work). v.command) (fresh-work asked level))) tt;
          };
          legal = λ later. (λ q. start-given _ outside (ap (Rattle.gx_store.specs.Legal.draws Outside) is), (λ q. legal-answer script steps e s line y.lines Outside true (Some c.table.next) (begun ∷ []) (at-begun outside) later _ told.Begin numbered (subst (λ l. IsAnswer script (record { steps = steps; event = e; earlier = begun ∷ []; later = later }) s Outside l told.Begin) (sym is) (at-begun outside).said.begun), tt));
          rest = λ t later. (tt, (tt, tt));
        }
      where
        asked : LineStep
        asked = step.BeginBlock level

        c1 : Coord
        c1 = begins (starts_line c s (step.BeginBlock level)) s level

        numbered : (session_of (begins (starts_line c s (step.BeginBlock level)) s level) s).lines ≡ y.lines + 1
        numbered = ap (λ (z : Session). z.lines) (fresh-sessions (step.BeginBlock level) level s.0 ∙ ap (λ q. if q then fresh (step.BeginBlock level) else y) (eqb-self s.0))

        late : List Mark
        late = ms ++ begun ∷ answer_mark (begins (starts_line c s (step.BeginBlock level)) s level) s told.Begin ∷ []

        said : Said script s (ms ++ begun ∷ answer_mark (begins (starts_line c s (step.BeginBlock level)) s level) s told.Begin ∷ []) (y.lines + 1) (InBlock level 0) false (Some c.table.next)
        said =
            subst (λ l. Said script s (ms ++ begun ∷ answer_mark (begins (starts_line c s (step.BeginBlock level)) s level) s told.Begin ∷ []) (y.lines + 1) (state_after Outside l told.Begin) false (Some c.table.next)) is
            (answered-now script steps e s line y.lines Outside true (Some c.table.next) (begun ∷ []) (at-begun outside) _ told.Begin numbered)

        same-plus : (a n : ℕ) → a ≡ n → a + 0 ≡ n
        same-plus a n h = omega arith

        there : Stands script s (ms ++ begun ∷ answer_mark (begins (starts_line c s (step.BeginBlock level)) s level) s told.Begin ∷ []) (next + 1) (block.Open level) pending.Nothing (y.lines + 1) c.table.next (new_work s level)
        there =
            record {
              commands = 0;
              answered = same-plus _ _ said.answered;
              state = said.state;
              begun = said.begun;
              sound = refl;
              owns = λ h. (
                fresh-owns level (block.Open level) 0 (begun ∷ answer_mark (begins (starts_line c s (step.BeginBlock level)) s level) s told.Begin ∷ []) refl refl said.started refl refl,
                refl,
                roots-begin script s (ms ++ begun ∷ answer_mark (begins (starts_line c s (step.BeginBlock level)) s level) s told.Begin ∷ []) level (y.lines + 1) c.table.next (new_work s level) (fresh-began _) (is_next ∙ ap (λ q. Some q) is) refl refl,
              );
            }

    -- A COMMAND OUTSIDE A BLOCK
    pub alone-does : ((d : Cid) → is_sent ms c.table.next d ≡ false) → block.Outside ≡ y.state.block → is_command Outside line ≡ true → Rattle.gx_store.specs.Legal.draws Outside line ≡ true → Does script steps c e (behind (begun ∷ []) (dispatches script (begins (starts_line c s (step.Command true)) s ReadCommitted) c.table.next line))
    alone-does unsent outside cmd d =
        dispatch-does script steps e (λ A. tt) c c1 s c.table.next (fresh asked) y.lines block.Outside 0 line (begun ∷ []) under (ap (λ q. block_after q asked) (sym outside)) refl refl cmd
        (subst (λ v. Owns s 0 (ms ++ begun ∷ []) (next + 1) block.Outside c.table.next v) (sym (fresh-work asked ReadCommitted)) (fresh-owns ReadCommitted block.Outside 0 (begun ∷ []) refl refl (at-begun outside).said.started refl refl))
        (ap (λ (v : Work). v.command) (fresh-work asked ReadCommitted)) (ap (λ (v : Work). v.waiting) (fresh-work asked ReadCommitted)) (ap (λ (v : Work). next_cid v) (sym (fresh-work asked ReadCommitted)))
        (past-begun c c1 ms (begun ∷ []) p k.whole refl (tt, tt)) (unsent-more ms (begun ∷ []) c.table.next _ (unsent _) refl) roots undrawn-unawaited held_up
      where
        asked : LineStep
        asked = step.Command true

        c1 : Coord
        c1 = begins (starts_line c s (step.Command true)) s ReadCommitted

        under : Under script steps c e (begins (starts_line c s (step.Command true)) s ReadCommitted) s c.table.next (work_of (begins (starts_line c s (step.Command true)) s ReadCommitted) c.table.next) (fresh (step.Command true)) y.lines Outside true line (begun ∷ [])
        under =
            record {
              work = refl;
              works = λ j h. ap (λ q. if q then new_work s ReadCommitted else c.works j) h;
              sessions = fresh-sessions (step.Command true) ReadCommitted;
              home = ap (λ (v : Work). v.session) (fresh-work (step.Command true) ReadCommitted);
              its = refl;
              lines = refl;
              next = le-more next;
              drawn = more next;
              whose = inr (le-same next);
              ends = ended;
              alone = others;
              at = at-begun outside;
              has = refl;
              running = ended-more ms (begun ∷ []) c.table.next (fr.unended c.table.next (le-same next)) refl;
              of = ((refl, refl), tt);
              legal = λ later. (λ q. start-given _ outside d, tt);
              rests = λ later. (tt, tt);
            }

        one : (a : ℕ) → a ≡ 0 → a + 1 ≡ 1
        one a e = omega arith

        roots : (m : Command) (v : Work) (ns : List Mark) → m.stmt ≡ line → m.cid ≡ next_cid (work_of (begins (starts_line c s (step.Command true)) s ReadCommitted) c.table.next) → v.last ≡ (work_of (begins (starts_line c s (step.Command true)) s ReadCommitted) c.table.next).last + 1 → v.command ≡ Some m → v.waiting ≡ None → Roots script s ((ms ++ begun ∷ []) ++ ns) block.Outside pending.Command (y.lines + 1) c.table.next v
        roots m v ns same number last has out =
            roots-alone script s ((ms ++ begun ∷ []) ++ ns) (y.lines + 1) c.table.next v m (ap (λ z. began_from [] z c.table.next) (append_assoc ms (begun ∷ []) ns) ∙ fresh-began ns) (is_next ∙ ap (λ q. Some q) (sym same)) (ap is_on_rows same ∙ cmd) has out
            (ap (λ (z : Cid). z.0) number ∙ one _ (ap (λ (z : Work). z.last) (fresh-work (step.Command true) ReadCommitted)))

        held_up : (v : Work) (ns : List Mark) → v.last ≡ (work_of (begins (starts_line c s (step.Command true)) s ReadCommitted) c.table.next).last → v.command ≡ None → v.waiting ≡ Some line → Roots script s ((ms ++ begun ∷ []) ++ ns) block.Outside pending.Command (y.lines + 1) c.table.next v
        held_up v ns last none has =
            roots-alone-held-up script s ((ms ++ begun ∷ []) ++ ns) (y.lines + 1) c.table.next v line (ap (λ z. began_from [] z c.table.next) (append_assoc ms (begun ∷ []) ns) ∙ fresh-began ns) is_next cmd
            (last ∙ ap (λ (z : Work). z.last) (fresh-work (step.Command true) ReadCommitted)) none has
