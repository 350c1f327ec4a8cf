-- What a message that was ever sent says, of its sender and of its receiver.
use Rattle.std.specs.Prelude.{◌≡◌, ◌⊎◌, ◌≤◌, ◌<◌, ℕ, Bool, true, false, if◌then◌else◌, List, [], ◌∷◌, None, Some}
use Rattle.gx_msg.specs.declared.message.Message.{Message}
use Rattle.gx_msg.specs.declared.message.Message.TheVariants as message
use Rattle.gx_msg.specs.declared.reply.Reply.{Reply}
use Rattle.gx_msg.specs.declared.reply.Reply.TheVariants as reply
use Rattle.gx_store.specs.declared.mark.Mark.{Mark}
use Rattle.gx_store.specs.Points.{marks_in}
use Rattle.gx_rules.specs.AtSegment.{was_prepared}
use Rattle.gx_rules.specs.Coordinators.{Coord}
use Rattle.gx_rules.specs.Machine.{Letter, World}
use Rattle.gx_rules.specs.Segments.{Seg, has_committed}
use Rattle.gx_law_order.specs.Standings.{Known, Part, is_closing, known_at, part_at}
use Rattle.gx_law_order.specs.Standings.Standing.{Unborn, Live, Preparing, One, Two, Over}

-- an answer to a command that still counts: no slice of that command waits
pub record IsDone (k : Known) (p : Part) (c : ℕ) (wrote : Bool) : Type 0 where
  pub drawn : k.at ≡ Unborn → ⊥
  pub last : k.at ≡ Live → c ≤ k.last
  pub same : k.at ≡ Live → c ≡ k.last → (p.last ≡ c) × (wrote ≡ p.wrote) × (p.waits ≡ false)

-- an answer, by the segment that gave it
abbrev pub Answers : Known → Part → Reply → Type 0
Answers k p (reply.Done c wrote count part) = IsDone k p c.0 wrote
Answers k p reply.Prepared = was_prepared p.vote ≡ true
Answers k p reply.Jfault = p.vote ≡ Some reply.Jfault
Answers k p reply.Committed = has_committed p.phase ≡ true
Answers k p _ = Unit {0}

-- a command that was sent to the segment; whoever is on the way to a commit, or has committed, has had all of them taken there
pub record IsCommand (k : Known) (p : Part) (c : ℕ) : Type 0 where
  pub drawn : k.at ≡ Unborn → ⊥
  pub last : k.at ≡ Live → c ≤ k.last
  pub taken : k.at ≡ Live → k.waits ≡ false → c ≤ p.last
  pub older : k.at ≡ Live → c < k.last → c ≤ p.last
  pub closed : is_closing k.at ≡ true → c ≤ p.last
  pub over : k.at ≡ Over → k.aborted ≡ false → c ≤ p.last

abbrev pub Said : Known → Part → Message → Type 0
Said k p (message.Exec g c level snapshot horizon slice) = IsCommand k p c.0
Said k p (message.Prepare g) = (p.wrote ≡ true) × (p.vote ≡ None → (k.at ≡ Preparing true) ⊎ (k.aborted ≡ true))
Said k p (message.Commit g) = p.vote ≡ None → k.at ≡ One true
Said k p (message.CommitPrepared g) = (k.at ≡ Two true) ⊎ (has_committed p.phase ≡ true)
Said k p (message.Abort g) = k.aborted ≡ true
Said k p (message.Forget g) = k.committed ≡ true
Said k p (message.Answer g r) = Answers k p r
Said k p _ = Unit {0}

-- the transaction of a message, and the segment that sent it or that it was sent to
abbrev pub gxid_in : Message → ℕ
gxid_in (message.Exec g c level snapshot horizon slice) = g.0
gxid_in (message.Prepare g) = g.0
gxid_in (message.Commit g) = g.0
gxid_in (message.CommitPrepared g) = g.0
gxid_in (message.Abort g) = g.0
gxid_in (message.Forget g) = g.0
gxid_in (message.Answer g r) = g.0
gxid_in _ = 0

abbrev pub is_answer : Message → Bool
is_answer (message.Answer g r) = true
is_answer (message.Graph round graph) = true
is_answer message.Up = true
is_answer _ = false

abbrev pub segment_of : Letter → ℕ
segment_of letter = if is_answer letter.envelope.message then letter.from.0 else letter.to.0

-- the two sides, by segment and transaction
abbrev pub SaidAt : Coord → (ℕ → Seg) → List Mark → ℕ → Message → Type 0
SaidAt c segs ms i m = Said (known_at c ms i (gxid_in m)) (part_at (segs i) ms i (gxid_in m)) m

abbrev pub SaidIn : World → Letter → Type 0
SaidIn w letter = SaidAt w.coord w.segs (marks_in w.steps) (segment_of letter) letter.envelope.message

-- each of these messages means what it says, as the nodes stand and by the marks so far
abbrev pub AreMeant : World → List Letter → Type 0
AreMeant w [] = Unit {0}
AreMeant w (letter ∷ letters) = SaidIn w letter × AreMeant w letters
