-- Who is active by the marks is whom the coordinator holds active, in every run.
use Rattle.std.proofs.Common.{◌≡◌, ◌≤◌, ◌<◌, ◌⊎◌, inl, inr, ℕ, ◌+◌, List, [], Option, Some, None, Bool, true, false, not, refl, sym, subst, ap, ◌∙◌, ◌&&◌, arith, eqb}
use Rattle.std.proofs.lemmas.Bool.{eqb-true, false_from_ne_true, or_right}
use Rattle.std.specs.Prelude.{Contains, nat_le}
use Rattle.gx_lemmas.proofs.Tests.{or-cases, true-false}
use Rattle.gx_ids.specs.declared.ids.Gxid.{Gxid}
use Rattle.gx_dtx.specs.Table.{find_txn}
use Rattle.gx_dtx.specs.declared.phase.Phase.{Phase as Status}
use Rattle.gx_dtx.specs.declared.phase.Phase.TheVariants as status
use Rattle.gx_dtx.specs.declared.txn.Txn.{Txn}
use Rattle.gx_msg.specs.declared.message.Message.{Message}
use Rattle.gx_msg.specs.declared.message.Message.TheVariants as message
use Rattle.gx_script.specs.declared.Script.{Script}
use Rattle.gx_store.specs.declared.event.Event.{Event}
use Rattle.gx_store.specs.declared.mark.Mark.{Mark}
use Rattle.gx_store.specs.Marks.{is_aborted, is_committed, is_ended, start_count}
use Rattle.gx_store.specs.Points.{marks_in}
use Rattle.gx_store.specs.Rounds as store
use Rattle.gx_store.specs.Rounds.{is_committing, is_started}
use Rattle.gx_waits.proofs.Members.{contains_from_has, has_from_contains}
use Rattle.gx_rules.specs.Machine.{World, world_of}
use Rattle.gx_rules.specs.Rounds.{active_in, is_active, is_live}
use Rattle.gx_law_order.specs.Numbers.{AreStartsNumbered}
use Rattle.gx_law_order.proofs.Numbered.{starts-numbered}
use Rattle.gx_law_order.proofs.Past.{running-drawn}
use Rattle.gx_law_order.specs.Stages.{Stage, is_running, stage, stage_in, stage_of}
use Rattle.gx_law_order.specs.Stages.Stage.{Absent, Closing, Dropped, Finished, Live}
use Rattle.gx_law_order.proofs.World.{Knows}
use Rattle.gx_law_order.specs.Pairs.{Pair}
use Rattle.gx_law_order.specs.Said.{Said, SaidIn, gxid_in, segment_of}
use Rattle.gx_law_order.specs.Standings.{Known, Part, gx, known_at, standing, standing_in}
use Rattle.gx_law_order.specs.Standings.Standing.{One, Over, Preparing, Live as LiveStanding}
use Rattle.gx_law_order.proofs.Everywhere.{Holds, parts_in}
use Rattle.gx_law_locks.proofs.Starts.{HasAsked, asks_for, has-asked, started-has, started-within}
use Rattle.gx_law_locks.proofs.Listed.{listed-live, live-listed}
use Rattle.gx_law_locks.proofs.Told.{IsTold, world-told}

live-stage : (o : Option Txn) → is_live o ≡ true → stage o ≡ Live
live-stage None e = absurd (cc)
live-stage (Some t) e = by_phase t.phase e
  where
    by_phase : (p : Status) → is_active p ≡ true → stage_in p ≡ Live
    by_phase status.Active e = refl
    by_phase (status.Preparing ws a) e = absurd (cc)
    by_phase (status.CommittingOne w) e = absurd (cc)
    by_phase (status.CommittingTwo a) e = absurd (cc)
    by_phase (status.Ended a) e = absurd (cc)
    by_phase (status.Aborting a) e = absurd (cc)

stage-live : (o : Option Txn) → stage o ≡ Live → is_live o ≡ true
stage-live None e = absurd (cc)
stage-live (Some t) e = by_phase t.phase e
  where
    by_phase : (p : Status) → stage_in p ≡ Live → is_active p ≡ true
    by_phase status.Active e = refl
    by_phase (status.Preparing ws a) e = absurd (cc)
    by_phase (status.CommittingOne w) e = absurd (cc)
    by_phase (status.CommittingTwo a) e = absurd (cc)
    by_phase (status.Ended a) e = absurd (cc)
    by_phase (status.Aborting a) e = absurd (cc)

live-standing : (undrawn : Bool) (o : Option Txn) (i : ℕ) → is_live o ≡ true → standing undrawn o i ≡ LiveStanding
live-standing undrawn None i e = absurd (cc)
live-standing undrawn (Some t) i e = by_phase t.phase e
  where
    by_phase : (p : Status) → is_active p ≡ true → standing_in p i ≡ LiveStanding
    by_phase status.Active e = refl
    by_phase (status.Preparing ws a) e = absurd (cc)
    by_phase (status.CommittingOne w) e = absurd (cc)
    by_phase (status.CommittingTwo a) e = absurd (cc)
    by_phase (status.Ended a) e = absurd (cc)
    by_phase (status.Aborting a) e = absurd (cc)

-- nobody is asked to prepare or to commit who is live
live-not-over : (k : Known) → k.at ≡ LiveStanding → k.at ≡ Over → ⊥
live-not-over k l o = apart (sym l ∙ o)
  where
    apart : LiveStanding ≡ Over → ⊥
    apart q = cc

live-unasked : (k : Known) (p : Part) → Pair k p → k.at ≡ LiveStanding → (p.vote ≡ None → (k.at ≡ Preparing true) ⊎ (k.at ≡ One true) ⊎ (k.aborted ≡ true)) → ⊥
live-unasked k p pair l says = by_way (says (pair.live l).1)
  where
    by_way : (k.at ≡ Preparing true) ⊎ (k.at ≡ One true) ⊎ (k.aborted ≡ true) → ⊥
    by_way (inl q) = apart (sym l ∙ q)
      where
        apart : LiveStanding ≡ Preparing true → ⊥
        apart q = cc
    by_way (inr (inl q)) = apart (sym l ∙ q)
      where
        apart : LiveStanding ≡ One true → ⊥
        apart q = cc
    by_way (inr (inr a)) = live-not-over k l (pair.aborts a)

module _ (script : Script) (w : World) (k : Knows script w) (v : Holds script w) (t : IsTold w) (numbered_so : AreStartsNumbered [] (marks_in w.steps)) where
  marks : List Mark
  marks = marks_in w.steps

  is-live-at : (g : Gxid) (i : ℕ) → is_live (find_txn w.coord.table g) ≡ true → (known_at w.coord (marks_in w.steps) i g.0).at ≡ LiveStanding
  is-live-at g i e = live-standing (nat_le w.coord.table.next.0 g.0) (find_txn w.coord.table g) i e

  same-gxid : (h g : Gxid) → eqb h.0 g.0 ≡ true → h ≡ g
  same-gxid h g e = ap gx (eqb-true h.0 g.0 e)

  -- what asks says that its transaction isn't live
  asking : (g : Gxid) (i : ℕ) (m : Message) → asks_for m g ≡ true → Said (known_at w.coord (marks_in w.steps) i (gxid_in m)) (parts_in w i (gxid_in m)) m
      → is_live (find_txn w.coord.table g) ≡ true → ⊥
  asking g i (message.Prepare h) q said e =
      let live = is-live-at h i (subst (λ x. is_live (find_txn w.coord.table x) ≡ true) (sym (same-gxid h g q)) e) in
      live-unasked (known_at w.coord (marks_in w.steps) i h.0) (parts_in w i h.0) (v.stands.pairs i h.0) live (λ n. by_way i h (said.1 n))
    where
      by_way : (i : ℕ) (h : Gxid) → ((known_at w.coord (marks_in w.steps) i h.0).at ≡ Preparing true) ⊎ ((known_at w.coord (marks_in w.steps) i h.0).aborted ≡ true)
          → ((known_at w.coord (marks_in w.steps) i h.0).at ≡ Preparing true) ⊎ ((known_at w.coord (marks_in w.steps) i h.0).at ≡ One true) ⊎ ((known_at w.coord (marks_in w.steps) i h.0).aborted ≡ true)
      by_way i h (inl p) = inl p
      by_way i h (inr a) = inr (inr a)
  asking g i (message.Commit h) q said e =
      let live = is-live-at h i (subst (λ x. is_live (find_txn w.coord.table x) ≡ true) (sym (same-gxid h g q)) e) in
      live-unasked (known_at w.coord (marks_in w.steps) i h.0) (parts_in w i h.0) (v.stands.pairs i h.0) live (λ n. inr (inl (said n)))
  asking g i (message.Exec h c level x y z) q said e = absurd (cc)
  asking g i (message.CommitPrepared h) q said e = absurd (cc)
  asking g i (message.Abort h) q said e = absurd (cc)
  asking g i (message.Forget h) q said e = absurd (cc)
  asking g i (message.Collect round) q said e = absurd (cc)
  asking g i (message.Answer h r) q said e = absurd (cc)
  asking g i (message.Graph round graph) q said e = absurd (cc)
  asking g i message.Up q said e = absurd (cc)

  live-uncommitting : (g : Gxid) → is_live (find_txn w.coord.table g) ≡ true → is_committing (marks_in w.steps) g ≡ false
  live-uncommitting g e = false_from_ne_true (is_committing (marks_in w.steps) g) (λ q. by_letter (has-asked (SaidIn w) g w.sent v.said (t.asked g q)))
    where
      by_letter : HasAsked (SaidIn w) g → ⊥
      by_letter a = asking g (segment_of a.letter) a.letter.envelope.message a.asks a.is e

  live-unended : (g : Gxid) → is_live (find_txn w.coord.table g) ≡ true → is_ended (marks_in w.steps) g ≡ false
  live-unended g e = false_from_ne_true (is_ended (marks_in w.steps) g) (λ q. by_case (or-cases (is_committed (marks_in w.steps) g) (is_aborted (marks_in w.steps) g) q))
    where
      by_case : (is_committed (marks_in w.steps) g ≡ true) ⊎ (is_aborted (marks_in w.steps) g ≡ true) → ⊥
      by_case (inl c) = live-not-over (known_at w.coord (marks_in w.steps) 0 g.0) (is-live-at g 0 e) ((v.stands.pairs 0 g.0).ends c)
      by_case (inr a) = live-not-over (known_at w.coord (marks_in w.steps) 0 g.0) (is-live-at g 0 e) ((v.stands.pairs 0 g.0).aborts a)

  live-started : (g : Gxid) → is_live (find_txn w.coord.table g) ≡ true → is_started (marks_in w.steps) g ≡ true
  live-started g e =
      let d = running-drawn w.coord g.0 k.kept.whole (ap is_running (live-stage (find_txn w.coord.table g) e)) in
      started-has [] (marks_in w.steps) g numbered_so (above g.0 d.0) (within g.0 (start_count (marks_in w.steps)) w.coord.table.next.0 t.next d.1)
    where
      above : (a : ℕ) → 1 ≤ a → 0 < a
      above a l = omega arith

      within : (a n k : ℕ) → k ≡ n + 1 → a < k → a ≤ 0 + n
      within a n k e l = omega arith

  live-active : (g : Gxid) → is_live (find_txn w.coord.table g) ≡ true → store.is_active (marks_in w.steps) g ≡ true
  live-active g e = all (is_started (marks_in w.steps) g) (is_ended (marks_in w.steps) g) (is_committing (marks_in w.steps) g) (live-started g e) (live-unended g e) (live-uncommitting g e)
    where
      all : (a b c : Bool) → a ≡ true → b ≡ false → c ≡ false → (a && (not b && not c)) ≡ true
      all a b c e f g = grind arith

  -- AND THE OTHER WAY ROUND
  parts : (a b c : Bool) → (a && (not b && not c)) ≡ true → (a ≡ true) × (b ≡ false) × (c ≡ false)
  parts true false false e = (refl, refl, refl)
  parts true true c e = absurd (cc)
  parts true false true e = absurd (cc)
  parts false b c e = absurd (cc)

  active-live : (g : Gxid) → store.is_active (marks_in w.steps) g ≡ true → is_live (find_txn w.coord.table g) ≡ true
  active-live g e = stage-live (find_txn w.coord.table g) (by_stage (stage_of w.coord g.0) refl)
    where
      its : (is_started (marks_in w.steps) g ≡ true) × (is_ended (marks_in w.steps) g ≡ false) × (is_committing (marks_in w.steps) g ≡ false)
      its = parts (is_started (marks_in w.steps) g) (is_ended (marks_in w.steps) g) (is_committing (marks_in w.steps) g) e

      drawn : (1 ≤ g.0) × (g.0 < w.coord.table.next.0)
      drawn = let d = started-within [] (marks_in w.steps) g numbered_so its.0 in (above g.0 d.0, within g.0 (start_count (marks_in w.steps)) w.coord.table.next.0 t.next d.1)
        where
          above : (a : ℕ) → 0 < a → 1 ≤ a
          above a l = omega arith

          within : (a n k : ℕ) → k ≡ n + 1 → a ≤ 0 + n → a < k
          within a n k e l = omega arith

      ended : is_running (stage_of w.coord g.0) ≡ false → ⊥
      ended q = true-false (is_ended (marks_in w.steps) g) (k.past.ended g.0 drawn.0 drawn.1 q) its.1

      by_stage : (a : Stage) → stage_of w.coord g.0 ≡ a → stage_of w.coord g.0 ≡ Live
      by_stage Live q = q
      by_stage Absent q = absurd (ended (ap is_running q))
      by_stage Finished q = absurd (ended (ap is_running q))
      by_stage Closing q = absurd (true-false (is_committing (marks_in w.steps) g) (t.closing g.0 q) its.2)
      by_stage Dropped q = absurd (true-false (is_ended (marks_in w.steps) g) (or_right (is_committed (marks_in w.steps) g) (is_aborted (marks_in w.steps) g) (k.past.dropped g.0 q)) its.1)

-- IN EVERY RUN
-- the list of the table has just those who are active by the marks
pub record AreActive (w : World) : Type 0 where
  pub listed : (g : Gxid) → Contains (active_in w.coord.table) g → store.is_active (marks_in w.steps) g ≡ true
  pub all : (g : Gxid) → store.is_active (marks_in w.steps) g ≡ true → Contains (active_in w.coord.table) g

pub world-active : (script : Script) (some : 1 ≤ script.segments) (es : List (Event × Bool)) → Knows script (world_of script es) → Holds script (world_of script es) → AreActive (world_of script es)
world-active script some es k v =
    let w : World = world_of script es in
    let t : IsTold (world_of script es) = world-told script some es in
    let n : AreStartsNumbered [] (marks_in (world_of script es).steps) = starts-numbered script some es in
    record {
      listed = λ g c. live-active script (world_of script es) k v t n g (listed-live w.coord.table.txns g k.kept.whole.apart (has_from_contains g (active_in w.coord.table) c));
      all = λ g a. contains_from_has g (active_in w.coord.table) (live-listed w.coord.table.txns g (active-live script (world_of script es) k v t n g a));
    }
