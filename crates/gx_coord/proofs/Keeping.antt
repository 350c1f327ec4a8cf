-- Ends, answers and lines keep what is known of transactions.
use Rattle.std.proofs.Common.{◌≡◌, ◌⊎◌, inl, inr, ℕ, List, [], ◌∷◌, Option, Some, None, Bool, false, refl, sym, subst, ap, ◌∙◌, if◌then◌else◌, eqb, le_refl}
use Rattle.std.specs.Prelude.{option_map}
use Rattle.gx_ids.specs.declared.ids.Gxid.{Gxid}
use Rattle.gx_ids.specs.declared.ids.Node.{Node}
use Rattle.gx_ids.specs.declared.ids.SessionId.{SessionId}
use Rattle.gx_tree.specs.declared.stmt.Level.{Level}
use Rattle.gx_tree.specs.declared.stmt.Level.TheVariants.{ReadCommitted, RepeatableRead}
use Rattle.gx_dtx.specs.Rules.{commit_found, commits as commit_change, ends_committed, is_awaited as is_awaited_in, on_reply, reply_found, stays, takes, turns, with_live}
use Rattle.gx_dtx.specs.Table.{Table, find_txn}
use Rattle.gx_dtx.specs.declared.change.Change.{Change}
use Rattle.gx_dtx.specs.declared.outcome.Outcome.{Outcome}
use Rattle.gx_dtx.specs.declared.outcome.Outcome.TheVariants as outcome
use Rattle.gx_dtx.specs.declared.phase.Phase.{Phase}
use Rattle.gx_dtx.specs.declared.phase.Phase.TheVariants.{Active, Preparing, CommittingOne, CommittingTwo, Ended, Aborting}
use Rattle.gx_dtx.specs.declared.txn.Txn.{Txn}
use Rattle.gx_msg.specs.declared.reply.Reply.{Reply}
use Rattle.gx_script.specs.declared.state.SessionState.{SessionState}
use Rattle.gx_script.specs.declared.state.Block.{Block}
use Rattle.gx_script.specs.declared.state.Block.TheVariants as block
use Rattle.gx_store.specs.declared.answer.Refused.{Refused}
use Rattle.gx_store.specs.declared.mark.Mark.{Mark}
use Rattle.gx_store.specs.declared.answer.Refused.TheVariants as refused
use Rattle.gx_rules.specs.AtCoordinator.{answers, commits, completes, failure_marks, follows, is_committed, is_refused, rolls_back, unless_kept}
use Rattle.gx_rules.specs.Coordinators.{Coord, Session, Work, no_work, session_of, with_state, with_work}
use Rattle.gx_rules.specs.Maps.{with_at}
use Rattle.gx_law_order.proofs.Closings.{live-at, set_live}
use Rattle.gx_law_order.proofs.Stages.{At, changed-at, left_of}
use Rattle.gx_law_order.specs.Stages.{IsWhole, Stage, stage, stage_in}
use Rattle.gx_law_order.specs.Standings.{gx}
use Rattle.gx_law_order.proofs.Statuses.{Moves, reply-turns}
use Rattle.gx_law_order.specs.Stages.Stage.{Absent, Dropped, Finished, Live}
use Rattle.gx_coord.specs.Sound.{AreSound, IsSoundWork}
use Rattle.gx_coord.proofs.Sound.{itself, moved-sound, none-sound, others, session-lines, sound-after, with_at-other, with_at-same}

-- WHAT CALLS LEAVE OF A TRANSACTION WHOSE COMMANDS RUN
abbrev pub IsStill : Option Txn → Option Txn → Type 0
IsStill t now = stage now ≡ Live → now ≡ t

alone-still : (g : Gxid) (is : List Node) (t : Txn) → IsStill (Some t) (left_of (ends_committed g is).step (Some t))
alone-still g [] t l = absurd (cc)
alone-still g (i ∷ is) t l = absurd (cc)

commits-still : (g : Gxid) (writers : List Node) (t : Txn) → IsStill (Some t) (left_of (commit_change g writers t).step (Some t))
commits-still g [] t l = alone-still g t.participants t l
commits-still g (i ∷ []) t l = absurd (cc)
commits-still g (i ∷ j ∷ is) t l = absurd (cc)

pub commit-still : (g : Gxid) (writers : List Node) (t : Option Txn) → IsStill t (left_of (commit_found g writers t).step t)
commit-still g writers None l = refl
commit-still g writers (Some t) l = commits-still g writers t l

moves-live : (a b : Stage) (o : Outcome) → Moves a b o → b ≡ Live → a ≡ Live
moves-live a b outcome.Pending (inl e) l = sym e ∙ l
moves-live a b outcome.Pending (inr e) l = absurd (differ (sym e.1 ∙ l))
  where
    differ : Absent ≡ Live → ⊥
    differ z = cc
moves-live a b outcome.Decided e l = e.0 ∙ sym e.1 ∙ l
moves-live a b outcome.Committed e l = absurd (clash e.1)
  where
    one : Finished ≡ Live → ⊥
    one z = cc

    two : Absent ≡ Live → ⊥
    two z = cc

    clash : (b ≡ Finished) ⊎ (b ≡ Absent) → ⊥
    clash (inl f) = one (sym f ∙ l)
    clash (inr f) = two (sym f ∙ l)
moves-live a b (outcome.Refused i) e l = absurd (differ (sym e.1 ∙ l))
  where
    differ : Dropped ≡ Live → ⊥
    differ z = cc
moves-live a b outcome.Ended e l = absurd (differ (sym e.1 ∙ l))
  where
    differ : Absent ≡ Live → ⊥
    differ z = cc

active-still : (g : Gxid) (i : Node) (r : Reply) (b : Bool) (t : Txn) (p : Phase) → t.phase ≡ p → stage_in p ≡ Live → left_of (reply_found g i r b (Some t)).step (Some t) ≡ Some t
active-still g i r b t Active e l = ap (λ q. left_of (if is_awaited_in q i r then takes g t.participants i b q r else stays).step (Some t)) e
active-still g i r b t (Preparing x y) e l = absurd (cc)
active-still g i r b t (CommittingOne x) e l = absurd (cc)
active-still g i r b t (CommittingTwo x) e l = absurd (cc)
active-still g i r b t (Ended x) e l = absurd (cc)
active-still g i r b t (Aborting x) e l = absurd (cc)

found-still : (g : Gxid) (i : Node) (r : Reply) (b : Bool) (t : Option Txn) → stage t ≡ Live → left_of (reply_found g i r b t).step t ≡ t
found-still g i r b None l = refl
found-still g i r b (Some t) l = active-still g i r b t t.phase refl l

pub reply-still : (d : Table) (g : ℕ) (i : Node) (r : Reply) (b : Bool) → IsWhole d → IsStill (find_txn d (gx g)) (left_of (reply_found (gx g) i r b (find_txn d (gx g))).step (find_txn d (gx g)))
reply-still d g i r b w l =
    let t = reply-turns d g i r b w in
    let now = left_of (reply_found (gx g) i r b (find_txn d (gx g))).step (find_txn d (gx g)) in
    let same : now ≡ t.now = sym (itself d _ g now (changed-at d g (reply_found (gx g) i r b (find_txn d (gx g))) w)) ∙ itself d _ g t.now t.at in
    found-still (gx g) i r b (find_txn d (gx g)) (moves-live (stage (find_txn d (gx g))) (stage t.now) (reply_found (gx g) i r b (find_txn d (gx g))).out.outcome t.how (sym (ap stage same) ∙ l))

module _ (c : Coord) (whole : IsWhole c.table) (e : AreSound c) (g : ℕ) where
  -- ENDS
  ended-sound : (s : SessionId) (x : SessionState) (u : Table) → ((j : ℕ) → eqb j g ≡ false → find_txn u (gx j) ≡ find_txn c.table (gx j)) → AreSound (record (with_state (with_work c (gx g) no_work) s x) { table = u })
  ended-sound s x u finds =
      sound-after c (record (with_state (with_work c (gx g) no_work) s x) { table = u }) g e
      (record {
        finds = finds;
        works = λ j q. with_at-other c.works g no_work j q;
        lines = session-lines c.sessions s.0 (record (session_of c s) { state = x }) (le_refl _);
        here = subst (λ (w : Work). IsSoundWork w (with_at c.sessions s.0 (record (session_of c s) { state = x }) w.session.0).lines (find_txn u (gx g))) (sym (with_at-same c.works g no_work)) (none-sound _ _ _ _);
      })

  pub rolled-sound : (marks : List Mark) (ch : Change) → AreSound (rolls_back c (gx g) marks (turns c.table (gx g) ch)).coord
  rolled-sound marks ch =
      sound-after c (rolls_back c (gx g) marks (turns c.table (gx g) ch)).coord g e
      (record {
        finds = others c.table _ g _ (changed-at c.table g ch whole);
        works = λ j q. with_at-other c.works g no_work j q;
        lines = λ s. le_refl _;
        here = subst (λ (w : Work). IsSoundWork w (c.sessions w.session.0).lines (find_txn (turns c.table (gx g) ch).table (gx g))) (sym (with_at-same c.works g no_work)) (none-sound _ _ _ _);
      })

  pub refused-sound : (ch : Change) (why : List Mark) (reason : Refused) → AreSound (is_refused c (gx g) (turns c.table (gx g) ch) why reason).coord
  refused-sound ch why reason = ended-sound _ _ (turns c.table (gx g) ch).table (others c.table (turns c.table (gx g) ch).table g _ (changed-at c.table g ch whole))

  committed-sound : (ch : Change) → AreSound (is_committed c (gx g) (turns c.table (gx g) ch)).coord
  committed-sound ch = ended-sound _ _ (turns c.table (gx g) ch).table (others c.table (turns c.table (gx g) ch).table g _ (changed-at c.table g ch whole))

  table-sound : (u : Table) (now : Option Txn) → At c.table u g now → IsStill (find_txn c.table (gx g)) now → AreSound (record c { table = u })
  table-sound u now a still =
      sound-after c (record c { table = u }) g e
      (record {
        finds = others c.table u g now a;
        works = λ j q. refl;
        lines = λ s. le_refl _;
        here = subst (λ t. IsSoundWork (c.works g) (c.sessions (c.works g).session.0).lines t) (sym (itself c.table u g now a)) (moved-sound (c.works g) _ (find_txn c.table (gx g)) now still (e g));
      })

  pub follows-sound : (ch : Change) (o : Outcome) → IsStill (find_txn c.table (gx g)) (left_of ch.step (find_txn c.table (gx g))) → AreSound (follows c (gx g) (turns c.table (gx g) ch) o).coord
  follows-sound ch outcome.Pending still = table-sound _ _ (changed-at c.table g ch whole) still
  follows-sound ch outcome.Decided still = table-sound _ _ (changed-at c.table g ch whole) still
  follows-sound ch outcome.Committed still = committed-sound ch
  follows-sound ch (outcome.Refused i) still = refused-sound ch (failure_marks i (gx g)) (refused.JournalFault i)
  follows-sound ch outcome.Ended still = table-sound _ _ (changed-at c.table g ch whole) still

  pub commits-sound : AreSound (commits c (gx g)).coord
  commits-sound = follows-sound (commit_found (gx g) (c.works g).writers (find_txn c.table (gx g))) _ (commit-still (gx g) (c.works g).writers (find_txn c.table (gx g)))

  pub replies-sound : (i : Node) (r : Reply) (b : Bool) → AreSound (follows c (gx g) (on_reply c.table (gx g) i r b) (on_reply c.table (gx g) i r b).out.outcome).coord
  replies-sound i r b = follows-sound (reply_found (gx g) i r b (find_txn c.table (gx g))) _ (reply-still c.table g i r b whole)

  -- ANSWERS IN A BLOCK
  pub live-sound : (w : Work) (lines : ℕ) (x : Option Gxid) (t : Option Txn) → IsSoundWork w lines t → IsSoundWork w lines (option_map (set_live x) t)
  live-sound w lines x None h = h
  live-sound w lines x (Some t) h = record { writers = h.writers; among = h.among; command = h.command; last = h.last; room = h.room }

  without-sound : (w : Work) (lines : ℕ) (t : Option Txn) → IsSoundWork w lines t → IsSoundWork (record w { command = None }) lines t
  without-sound w lines t h = record { writers = h.writers; among = h.among; command = tt; last = h.last; room = h.room }

  answered-sound : (u : Table) (now : Option Txn) (x : SessionState) → At c.table u g now → IsSoundWork (c.works g) (c.sessions (c.works g).session.0).lines now → AreSound (record (with_state (with_work c (gx g) (record (c.works g) { command = None })) (c.works g).session x) { table = u })
  answered-sound u now x a h =
      let s : SessionId = (c.works g).session in
      let w : Work = record (c.works g) { command = None } in
      sound-after c (record (with_state (with_work c (gx g) w) s x) { table = u }) g e
      (record {
        finds = others c.table u g now a;
        works = λ j q. with_at-other c.works g w j q;
        lines = session-lines c.sessions s.0 (record (session_of c s) { state = x }) (le_refl _);
        here = subst (λ (v : Work). IsSoundWork v (with_at c.sessions s.0 (record (session_of c s) { state = x }) v.session.0).lines (find_txn u (gx g))) (sym (with_at-same c.works g w))
            (subst (λ n. IsSoundWork w n (find_txn u (gx g))) (sym (ap (λ (y : Session). y.lines) (with_at-same c.sessions s.0 (record (session_of c s) { state = x }))))
            (subst (λ t. IsSoundWork w (session_of c s).lines t) (sym (itself c.table u g now a)) (without-sound (c.works g) _ now h)));
      })

  same-at : At c.table c.table g (find_txn c.table (gx g))
  same-at = changed-at c.table g stays whole

  pub answers-sound : AreSound (answers c (gx g) (c.works g)).coord
  answers-sound = by_level (c.works g).level
    where
      by_level : (level : Level) → AreSound (record (answers c (gx g) (c.works g)).coord { table = unless_kept level c.table (gx g) })
      by_level ReadCommitted = answered-sound (with_live c.table (gx g) None) _ _ (live-at c.table g None whole) (live-sound (c.works g) _ None (find_txn c.table (gx g)) (e g))
      by_level RepeatableRead = answered-sound c.table _ _ same-at (e g)

  pub completes-sound : (b : Block) → AreSound (completes c (gx g) b).coord
  completes-sound block.Outside = commits-sound
  completes-sound (block.Open level) = answers-sound
  completes-sound block.Failed = answers-sound
