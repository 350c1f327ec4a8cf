-- A command that a segment has still to run, one that is new there or one that waits, sees whoever is below the horizon.
use Rattle.std.proofs.Common.{◌≡◌, ◌⊎◌, inl, inr, ◌≤◌, ◌<◌, ℕ, List, [], ◌∷◌, Option, Some, None, Bool, true, false, refl, sym, subst, ap, ◌∙◌, if◌then◌else◌, ◌||◌, ltb, arith}
use Rattle.std.proofs.lemmas.Bool.Decides.{nat_tests}
use Rattle.std.specs.Prelude.{nat_le}
use Rattle.std.proofs.lemmas.Bool.{both_ways}
use Rattle.gx_lemmas.proofs.Tests.{false-true}
use Rattle.gx_lemmas.proofs.Numbers.{lt-le}
use Rattle.gx_ids.specs.declared.ids.Cid.{Cid}
use Rattle.gx_ids.specs.declared.ids.Gxid.{Gxid}
use Rattle.gx_ids.specs.declared.ids.Node.{Node}
use Rattle.gx_dsnap.specs.Gxids.{is_below}
use Rattle.gx_dsnap.specs.Snapshot.{sees}
use Rattle.gx_dsnap.specs.declared.snapshot.Snapshot.{Snapshot}
use Rattle.gx_dtx.specs.Lives.{live_of}
use Rattle.gx_dtx.specs.Table.{find_txn, horizon_of}
use Rattle.gx_dtx.specs.declared.phase.Phase.{Phase as Status}
use Rattle.gx_dtx.specs.declared.txn.Txn.{Txn}
use Rattle.gx_dtx.proofs.Low.{live_found-low}
use Rattle.gx_msg.specs.declared.message.Message.{Message}
use Rattle.gx_msg.specs.declared.message.Message.TheVariants as message
use Rattle.gx_script.specs.declared.Script.{Script}
use Rattle.gx_store.specs.Points.{marks_in}
use Rattle.gx_rules.specs.AtSegment.{raised}
use Rattle.gx_rules.specs.Coordinators.{Command}
use Rattle.gx_rules.specs.Machine.{Letter, World}
use Rattle.gx_rules.specs.Segments.{Suspended}
use Rattle.gx_law_order.specs.Lists.{Each}
use Rattle.gx_law_order.specs.Stages.{Stage, is_running, stage, stage_in, stage_of}
use Rattle.gx_law_order.specs.Stages.Stage.{Absent, Closing, Dropped, Finished, Live as Running}
use Rattle.gx_law_order.proofs.World.{Knows}
use Rattle.gx_law_order.specs.Said.{IsCommand, Said, SaidIn, gxid_in, is_answer}
use Rattle.gx_law_order.specs.Standings.{Known, gx, known_at, standing, standing_in, waits_in}
use Rattle.gx_law_order.specs.Standings.Standing.{Live}
use Rattle.gx_law_order.proofs.Everywhere.{Holds, parts_in}
use Rattle.gx_law_order.proofs.WaitingParts.{IsAwaited, awaited}
use Rattle.gx_law_order.proofs.Ways.{CommandOf}
use Rattle.gx_law_reads.specs.Horizons.{IsLowIn, IsNewOrWaits, IsNobodyDropped, IsSeenBelow, IsWaitingAs}
use Rattle.gx_law_reads.proofs.Held.{Held}
use Rattle.gx_law_reads.proofs.Reading.{FineIn}
use Rattle.gx_law_reads.proofs.Low.{LetterLow, Lows, drawn-is, live-standing, raised-under}
use Rattle.gx_law_reads.proofs.Taken.{closing-taken}
use Rattle.gx_law_reads.proofs.Ends.{Facts, TakenAt}
use Rattle.gx_store.specs.Marks.{is_aborted, is_committed}

-- a command that its segment has still to run is the one under way, and its snapshot's xmin lives
module _ (script : Script) (w : World) (k : Knows script w) (v : Holds script w) (facts : Facts w) where
  abbrev q : Lows w
  q = facts.lows

  -- a transaction that isn't aborted, of which a command is still to run, runs its commands
  runs-still : (i : ℕ) (g : Gxid) (c : Cid) → IsCommand (known_at w.coord (marks_in w.steps) i g.0) (parts_in w i g.0) c.0 → 1 ≤ g.0 → (is_committed (marks_in w.steps) (gx g.0) ≡ true → c.0 ≤ ((w.segs i).locals g.0).last) → is_aborted (marks_in w.steps) g ≡ false → ((w.segs i).locals g.0).last < c.0 → stage (find_txn w.coord.table (gx g.0)) ≡ Running
  runs-still i g c s one taken unaborted new = by_stage (stage (find_txn w.coord.table (gx g.0))) refl
    where
      left : (a b : Bool) → b ≡ false → (a || b) ≡ true → a ≡ true
      left a b e f = grind arith

      drawn : g.0 < w.coord.table.next.0
      drawn = drawn-is script w k g.0 i s.drawn

      over-now : is_running (stage_of w.coord g.0) ≡ false → ⊥
      over-now e = lt-le ((w.segs i).locals g.0).last c.0 new (taken (left (is_committed (marks_in w.steps) g) (is_aborted (marks_in w.steps) g) unaborted (k.past.ended g.0 one drawn e)))

      by_stage : (a : Stage) → stage (find_txn w.coord.table (gx g.0)) ≡ a → a ≡ Running
      by_stage Running e = refl
      by_stage Closing e = absurd (lt-le ((w.segs i).locals g.0).last c.0 new (closing-taken script w k v q g.0 e i c.0 s))
      by_stage Finished e = absurd (over-now (ap is_running e))
      by_stage Absent e = absurd (over-now (ap is_running e))
      by_stage Dropped e = absurd (both_ways (is_aborted (marks_in w.steps) g) unaborted (k.past.dropped g.0 e))

  -- its commands run, and this one is under way
  record IsUnderWay (g : ℕ) (c : Cid) : Type 0 where
    live : stage (find_txn w.coord.table (gx g)) ≡ Running
    command : Command
    is : (w.coord.works g).command ≡ Some command
    numbered : command.cid.0 ≡ c.0

  module _ (i : ℕ) (g : Gxid) (c : Cid) (s : IsCommand (known_at w.coord (marks_in w.steps) i g.0) (parts_in w i g.0) c.0) (live : stage (find_txn w.coord.table (gx g.0)) ≡ Running) (new : ((w.segs i).locals g.0).last < c.0) where
    abbrev kn : Known
    kn = known_at w.coord (marks_in w.steps) i g.0

    standing-is : kn.at ≡ Live
    standing-is = live-standing script w k g.0 i live (nat_le w.coord.table.next.0 g.0)

    is-last : c.0 ≡ (w.coord.works g.0).last
    is-last = equal c.0 (w.coord.works g.0).last (s.last standing-is) (λ l. lt-le ((w.segs i).locals g.0).last c.0 new (s.older standing-is l))
      where
        equal : (a b : ℕ) → a ≤ b → (a < b → ⊥) → a ≡ b
        equal a b l n = by_test (ltb a b) refl
          where
            less : (a b : ℕ) → ltb a b ≡ true → a < b
            less a b e = grind (arith, nat_tests)

            same : (a b : ℕ) → a ≤ b → ltb a b ≡ false → a ≡ b
            same a b l e = grind (arith, nat_tests)

            by_test : (t : Bool) → ltb a b ≡ t → a ≡ b
            by_test true e = absurd (n (less a b e))
            by_test false e = same a b l e

    -- and its command is under way
    under-way : (m : Option Command) → (w.coord.works g.0).command ≡ m → IsUnderWay g.0 c
    under-way None e = absurd (lt-le ((w.segs i).locals g.0).last c.0 new (s.taken standing-is (ap (λ o. waits_in o i) e)))
    under-way (Some z) e = record { live = live; command = z; is = e; numbered = (subst (CommandOf g.0 (w.coord.works g.0).last) e (v.stands.works g.0).command).0 ∙ sym is-last }

  -- so is that of a slice that waits
  module _ (i : ℕ) (g : Gxid) (c : Cid) (unaborted : is_aborted (marks_in w.steps) g ≡ false) where
    standing-runs : (b : Bool) (o : Option Txn) → standing b o i ≡ Live → stage o ≡ Running
    standing-runs true None e = absurd (cc)
    standing-runs false None e = absurd (cc)
    standing-runs b (Some t) e = by_phase t.phase e
      where
        by_phase : (p : Status) → standing_in p i ≡ Live → stage_in p ≡ Running
        by_phase p e = grind arith

    is-live : ((known_at w.coord (marks_in w.steps) i g.0).at ≡ Live) ⊎ (is_aborted (marks_in w.steps) g ≡ true) → (known_at w.coord (marks_in w.steps) i g.0).at ≡ Live
    is-live (inl l) = l
    is-live (inr a) = absurd (both_ways (is_aborted (marks_in w.steps) g) unaborted a)

    waits-way : (x : Suspended) → ((w.segs i).locals g.0).suspended ≡ Some x → x.cid.0 ≡ c.0 → IsUnderWay g.0 c
    waits-way x e same = by_command (w.coord.works g.0).command refl
      where
        z : IsAwaited (known_at w.coord (marks_in w.steps) i g.0) x
        z = awaited script w k v i g x e

        live : (known_at w.coord (marks_in w.steps) i g.0).at ≡ Live
        live = is-live z.stands

        none : (o : Option Command) → o ≡ None → waits_in o i ≡ true → ⊥
        none o e f = false-true (sym (ap (λ o. waits_in o i) e) ∙ f)

        by_command : (m : Option Command) → (w.coord.works g.0).command ≡ m → IsUnderWay g.0 c
        by_command None f = absurd (none (w.coord.works g.0).command f (z.waits live))
        by_command (Some m) f =
            record {
              live = standing-runs (nat_le w.coord.table.next.0 g.0) (find_txn w.coord.table (gx g.0)) live;
              command = m;
              is = f;
              numbered = (subst (CommandOf g.0 (w.coord.works g.0).last) f (v.stands.works g.0).command).0 ∙ z.last live ∙ same;
            }

    by-wait : (o : Option Suspended) → ((w.segs i).locals g.0).suspended ≡ o → IsWaitingAs c o → IsUnderWay g.0 c
    by-wait None e h = absurd h
    by-wait (Some x) e h = waits-way x e h

  runs-way : (i : ℕ) (g : Gxid) (c : Cid) → IsCommand (known_at w.coord (marks_in w.steps) i g.0) (parts_in w i g.0) c.0 → 1 ≤ g.0 → (is_committed (marks_in w.steps) (gx g.0) ≡ true → c.0 ≤ ((w.segs i).locals g.0).last) → is_aborted (marks_in w.steps) g ≡ false → IsNewOrWaits ((w.segs i).locals g.0) c → IsUnderWay g.0 c
  runs-way i g c s one taken unaborted (inl new) = under-way i g c s (runs-still i g c s one taken unaborted new) new (w.coord.works g.0).command refl
  runs-way i g c s one taken unaborted (inr h) = by-wait i g c unaborted ((w.segs i).locals g.0).suspended refl h

  pub low-seen : (limit : Gxid) (x : Snapshot) (y : ℕ) → limit.0 ≤ y → ((h : ℕ) → 1 ≤ h → h < y → sees x (gx h) ≡ true) → (h : Gxid) → 1 ≤ h.0 → (is_below limit h || sees x h) ≡ sees x h
  low-seen limit x y l f h one = by_test (is_below limit h) refl
    where
      less : (a b c : ℕ) → ltb a b ≡ true → b ≤ c → a < c
      less a b c e l = grind (arith, nat_tests)

      by_test : (b : Bool) → is_below limit h ≡ b → (b || sees x h) ≡ sees x h
      by_test true e = sym (f h.0 one (less h.0 limit.0 y e l))
      by_test false e = refl

  held-seen : (g : Gxid) (limit : Gxid) (x : Snapshot) → limit.0 ≤ (horizon_of w.coord.table).0 → (o : Option Txn) → find_txn w.coord.table g ≡ o → Held (live_of o) x → (h : Gxid) → 1 ≤ h.0 → (is_below limit h || sees x h) ≡ sees x h
  held-seen g limit x l None e held = absurd held
  held-seen g limit x l (Some t) e held = by_live t.live refl held
    where
      le-trans : (a b c : ℕ) → a ≤ b → b ≤ c → a ≤ c
      le-trans a b c l m = omega arith

      by_live : (y : Option Gxid) → t.live ≡ y → Held y x → (h : Gxid) → 1 ≤ h.0 → (is_below limit h || sees x h) ≡ sees x h
      by_live None f held = absurd held
      by_live (Some y) f held = low-seen limit x y.0 (le-trans limit.0 (horizon_of w.coord.table).0 y.0 l (live_found-low g t y w.coord.table.txns f e w.coord.table.next)) held

  seen-one : (from to : Node) (m : Message) → Said (known_at w.coord (marks_in w.steps) (if is_answer m then from.0 else to.0) (gxid_in m)) (parts_in w (if is_answer m then from.0 else to.0) (gxid_in m)) m → IsLowIn (horizon_of w.coord.table) m → FineIn w.coord.table w.coord.works m → TakenAt w to m → IsSeenBelow w to m
  seen-one from to (message.Exec g c level (Some x) horizon slice) s low fine taken =
      λ run. let z = runs-way to.0 g c s taken.0 taken.1 run.unaborted run.new in
      held-seen g (raised (w.segs to.0) horizon).horizon x (raised-under script (horizon_of w.coord.table).0 (w.segs to.0) horizon (q.segs to.0) low) (find_txn w.coord.table g) refl (fine z.live z.command z.is z.numbered)
  seen-one from to (message.Exec g c level None horizon slice) s low fine taken = tt
  seen-one from to (message.Prepare g) s low fine taken = tt
  seen-one from to (message.Commit g) s low fine taken = tt
  seen-one from to (message.CommitPrepared g) s low fine taken = tt
  seen-one from to (message.Abort g) s low fine taken = tt
  seen-one from to (message.Forget g) s low fine taken = tt
  seen-one from to (message.Answer g r) s low fine taken = tt
  seen-one from to (message.Collect round) s low fine taken = tt
  seen-one from to (message.Graph round graph) s low fine taken = tt
  seen-one from to message.Up s low fine taken = tt

  each-seen : (ls : List Letter) → Each (SaidIn w) ls → Each (LetterLow w.coord.table w.coord.works) ls → Each (λ (l : Letter). TakenAt w l.to l.envelope.message) ls → IsNobodyDropped w ls
  each-seen [] a b d = tt
  each-seen (l ∷ ls) a b d = (seen-one l.from l.to l.envelope.message a.0 b.0.0 b.0.1 d.0, each-seen ls a.1 b.1 d.1)

  pub nobody-dropped : IsNobodyDropped w w.sent
  nobody-dropped = each-seen w.sent v.said q.sent facts.ends.taken
