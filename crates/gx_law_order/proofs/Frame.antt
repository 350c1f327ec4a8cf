-- What an event leaves of the sessions that it isn't of.
use Rattle.std.proofs.Common.{◌≡◌, ◌<◌, ◌≤◌, ◌⊎◌, inl, inr, ℕ, ◌+◌, List, [], ◌∷◌, ◌++◌, None, true, false, refl, sym, subst, ap, ◌∙◌, if◌then◌else◌, arith, eqb}
use Rattle.gx_ids.specs.declared.ids.Cid.{Cid}
use Rattle.gx_ids.specs.declared.ids.Gxid.{Gxid}
use Rattle.gx_ids.specs.declared.ids.Node.{Node}
use Rattle.gx_ids.specs.declared.ids.SessionId.{SessionId}
use Rattle.gx_tree.specs.declared.stmt.Level.{Level}
use Rattle.gx_script.specs.declared.Script.{Script}
use Rattle.gx_script.specs.declared.state.Block.{Block}
use Rattle.gx_script.specs.declared.state.Pending.{Pending}
use Rattle.gx_store.specs.declared.event.Event.{Event}
use Rattle.gx_store.specs.declared.mark.Mark.{Mark}
use Rattle.gx_store.specs.declared.mark.Mark.TheVariants as mark
use Rattle.gx_store.specs.declared.run.Step.{Step}
use Rattle.gx_store.specs.Lines.{state_of}
use Rattle.gx_store.specs.Marks.{answer_count, has_snapshot, is_begun, is_ended, started_after}
use Rattle.gx_store.specs.Points.{ends_by, ends_in, marks_in, starts_by, starts_in}
use Rattle.gx_rules.specs.Coordinators.{Coord, CoordTurn, Session, Work}
use Rattle.gx_law_order.specs.Lists.{Each}
use Rattle.gx_law_order.specs.Standings.{gx}
use Rattle.gx_law_order.specs.Finish.{AreCommandsTold}
use Rattle.gx_law_order.specs.Rest.{EachMark, Rest}
use Rattle.gx_law_order.specs.Standing.{IsLineOf, IsOver, IsStanding, Owns, Roots, Stands, is_busy, waits}
use Rattle.gx_law_order.proofs.Awaited.{IsAwaited, IsSettled, OutAwaits, OwnIn}
use Rattle.gx_law_order.proofs.Others.{Fresh, IsOf, ended-more, keeps-snapshot, snapped-more, unsnapped}
use Rattle.gx_law_order.proofs.Gathers.{GathersIn, HeardNow}
use Rattle.gx_law_order.proofs.Given.{Given}
use Rattle.gx_law_order.proofs.Outs.{CommandIs, OutIs}
use Rattle.gx_law_order.proofs.Roots.{roots-more}
use Rattle.gx_law_order.proofs.Said.{CalmFor, Said, said-calm}

abbrev pub sid : ℕ → SessionId
sid s = record { 0 = s }

-- the marks say nothing more of a session's transaction
pub owns-more : (script : Script) (k : SessionId) (n : ℕ) (ms ns : List Mark) (next later : ℕ) (b : Block) (g : Gxid) (w : Work) → Owns k n ms next b g w → next ≤ later → started_after k None (ms ++ ns) ≡ started_after k None ms → is_ended ns g ≡ false → has_snapshot ns g ≡ false → Owns k n (ms ++ ns) later b g w
owns-more script k n ms ns next later b g w o l same running unread =
    record {
      home = o.home;
      started = same ∙ o.started;
      level = o.level;
      drawn = lt-le o.drawn l;
      running = ended-more ms ns g o.running running;
      counted = o.counted;
      unsnapped = λ c m. snapped-more ms ns g c (o.unsnapped c m) (unsnapped ns g c unread);
      snapshot = keeps-snapshot w.level ms ns g w.snapshot o.snapshot unread;
    }
  where
    lt-le : {a b d : ℕ} → a < b → b ≤ d → a < d
    lt-le x y = omega arith

-- what a session says that has no transaction, whatever the work
pub stands-by : (script : Script) (k : SessionId) (ms ns : List Mark) (next later : ℕ) (b : Block) (p : Pending) (lines : ℕ) (g : Gxid) (w v : Work) → Stands script k ms next b p lines g w → Each (CalmFor k) ns → next ≤ later → (is_busy b p ≡ true → (v ≡ w) × (is_ended ns g ≡ false) × (has_snapshot ns g ≡ false)) → Stands script k (ms ++ ns) later b p lines g v
stands-by script k ms ns next later b p lines g w v s calm l busy =
    record {
      commands = s.commands;
      answered = ap (λ i. i + waits p) said.answered ∙ s.answered;
      state = said.state ∙ s.state;
      begun = said.begun ∙ s.begun;
      sound = s.sound;
      owns = λ h. subst (λ q. Owns k s.commands (ms ++ ns) later b g q × IsLineOf script k lines b s.commands q p × Roots script k (ms ++ ns) b p lines g q) (sym (busy h).0)
          (owns-more script k s.commands ms ns next later b g w (s.owns h).0 l said.started (busy h).1 (busy h).2, (s.owns h).1, roots-more script k ms ns b p lines g w (s.owns h).2);
    }
  where
    said : Said script k (ms ++ ns) (answer_count k ms) (state_of script k ms) (is_begun k ms) (started_after k None ms)
    said = said-calm script k ms ns (answer_count k ms) (state_of script k ms) (is_begun k ms) (started_after k None ms) (record { answered = refl; state = refl; begun = refl; started = refl }) calm

pub over-by : (script : Script) (k : SessionId) (ms ns : List Mark) (b : Block) (p : Pending) (lines : ℕ) → IsOver script k ms b p lines → Each (CalmFor k) ns → IsOver script k (ms ++ ns) b p lines
over-by script k ms ns b p lines o calm = record { outside = o.outside; idle = o.idle; answered = said.answered ∙ o.answered; none = o.none }
  where
    said : Said script k (ms ++ ns) (answer_count k ms) (state_of script k ms) (is_begun k ms) (started_after k None ms)
    said = said-calm script k ms ns (answer_count k ms) (state_of script k ms) (is_begun k ms) (started_after k None ms) (record { answered = refl; state = refl; begun = refl; started = refl }) calm

pub standing-by : (script : Script) (k : SessionId) (ms ns : List Mark) (next later : ℕ) (b : Block) (p : Pending) (lines : ℕ) (g : Gxid) (w v : Work) (ends : ℕ) → IsStanding script k ms next b p lines g w ends → Each (CalmFor k) ns → next ≤ later → (is_busy b p ≡ true → (v ≡ w) × (is_ended ns g ≡ false) × (has_snapshot ns g ≡ false)) → IsStanding script k (ms ++ ns) later b p lines g v ends
standing-by script k ms ns next later b p lines g w v ends (inl s) calm l busy = inl (s.0, stands-by script k ms ns next later b p lines g w v s.1 calm l busy)
standing-by script k ms ns next later b p lines g w v ends (inr s) calm l busy = inr (s.0, over-by script k ms ns b p lines s.1 calm)

-- A TURN OF ONE SESSION
-- what a turn changes, with an event that starts and ends what it may
pub record Alters (script : Script) (steps : List Step) (c : Coord) (e : Event) (turn : CoordTurn) : Type 0 where
  pub s : ℕ
  pub g : ℕ
  pub x : Session
  pub sessions : (j : ℕ) → turn.coord.sessions j ≡ (if eqb j s then x else c.sessions j)
  pub works : (j : ℕ) → eqb j g ≡ false → turn.coord.works j ≡ c.works j
  pub next : c.table.next.0 ≤ turn.coord.table.next.0
  pub whose : ((c.works g).session.0 ≡ s) ⊎ (c.table.next.0 ≤ g)
  pub of : Each (IsOf s g) turn.marks
  pub fresh : Fresh turn.marks turn.coord.table.next.0
  pub alone : (k : SessionId) → eqb k.0 s ≡ false → (starts_by k e ≡ 0) × (ends_by k e ≡ 0)
  pub starts : starts_in (sid s) steps + starts_by (sid s) e ≡ x.lines
  pub stands : IsStanding script (sid s) (marks_in steps ++ turn.marks) turn.coord.table.next.0 x.state.block x.state.pending x.lines x.transaction (turn.coord.works x.transaction.0) (ends_in (sid s) steps + ends_by (sid s) e)
  pub outs : Each (OutIs script (marks_in steps ++ turn.marks)) turn.outs
  pub orders : CommandIs script (marks_in steps ++ turn.marks) (c.works g).command → CommandIs script (marks_in steps ++ turn.marks) (turn.coord.works g).command
  pub gathers : GathersIn script (HeardNow steps e) (gx g) (c.works g).command → GathersIn script (HeardNow steps e) (gx g) (turn.coord.works g).command
  pub owned : OwnIn (gx g) (c.works g) → OwnIn (gx g) (turn.coord.works g)
  pub sent : Each (OutAwaits turn.coord) turn.outs
  pub keeps : (k : Cid) (i : Node) (level : Level) → IsAwaited (c.works g) k i level → IsAwaited (turn.coord.works g) k i level ⊎ IsSettled (HeardNow steps e) turn.marks (gx g) k i

-- and its marks, in a step of its own
pub record Does (script : Script) (steps : List Step) (c : Coord) (e : Event) (turn : CoordTurn) : Type 0 where
  pub alters : Alters script steps c e turn
  pub legal : (later : List Mark) → EachMark (Given script) steps e [] turn.marks later
  pub rest : AreCommandsTold script steps → (later : List Mark) → EachMark (Rest script) steps e [] turn.marks later

-- A TURN OF NO SESSION
abbrev pub Quiet : Mark → Type 0
Quiet (mark.Decided g) = Unit {0}
Quiet (mark.Recheck round own verdict) = Unit {0}
Quiet _ = ⊥

pub record Rests (script : Script) (steps : List Step) (c : Coord) (e : Event) (turn : CoordTurn) : Type 0 where
  pub sessions : (j : ℕ) → turn.coord.sessions j ≡ c.sessions j
  pub works : (j : ℕ) → turn.coord.works j ≡ c.works j
  pub next : turn.coord.table.next.0 ≡ c.table.next.0
  pub quiet : Each Quiet turn.marks
  pub alone : (k : SessionId) → (starts_by k e ≡ 0) × (ends_by k e ≡ 0)
  pub outs : ((j : ℕ) → CommandIs script (marks_in steps ++ turn.marks) (c.works j).command) → Each (OutIs script (marks_in steps ++ turn.marks)) turn.outs
  pub sent : ((j : ℕ) → OwnIn (gx j) (c.works j)) → Each (OutAwaits c) turn.outs

abbrev pub Effect : Script → List Step → Coord → Event → CoordTurn → Type 0
Effect script steps c e turn = Does script steps c e turn ⊎ Rests script steps c e turn

abbrev pub Turns : Script → List Step → Coord → Event → CoordTurn → Type 0
Turns script steps c e turn = Alters script steps c e turn ⊎ Rests script steps c e turn

pub turns : (script : Script) (steps : List Step) (c : Coord) (e : Event) (turn : CoordTurn) → Effect script steps c e turn → Turns script steps c e turn
turns script steps c e turn (inl d) = inl d.alters
turns script steps c e turn (inr r) = inr r

pub quiet-calm : (k : SessionId) (ms : List Mark) → Each Quiet ms → Each (CalmFor k) ms
quiet-calm k [] e = tt
quiet-calm k (mark.Decided g ∷ ms) e = (tt, quiet-calm k ms e.1)
quiet-calm k (mark.Recheck round own verdict ∷ ms) e = (tt, quiet-calm k ms e.1)
quiet-calm k (mark.Start g s ∷ ms) e = absurd e.0
quiet-calm k (mark.Answer s n a ∷ ms) e = absurd e.0
quiet-calm k (m ∷ ms) e = (tt, quiet-calm k ms e.1)

pub quiet-of : (s g : ℕ) (ms : List Mark) → Each Quiet ms → Each (IsOf s g) ms
quiet-of s g [] e = tt
quiet-of s g (mark.Decided h ∷ ms) e = (tt, quiet-of s g ms e.1)
quiet-of s g (mark.Recheck round own verdict ∷ ms) e = (tt, quiet-of s g ms e.1)
quiet-of s g (m ∷ ms) e = absurd e.0
