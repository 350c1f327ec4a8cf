-- What always holds of a transaction at a segment and what the coordinator knows of both.
use Rattle.std.specs.Prelude.{◌≡◌, ◌⊎◌, ◌≤◌, ℕ, Bool, true, false, None, Some}
use Rattle.std.specs.declared.option.Option.{Option}
use Rattle.gx_msg.specs.declared.reply.Reply.{Reply}
use Rattle.gx_msg.specs.declared.reply.Reply.TheVariants as reply
use Rattle.gx_store.specs.Points.{marks_in}
use Rattle.gx_rules.specs.AtSegment.{was_prepared}
use Rattle.gx_rules.specs.Machine.{World}
use Rattle.gx_rules.specs.Segments.{Phase, has_committed}
use Rattle.gx_rules.specs.Segments.Phase.{Prepared, Reading, Writing}
use Rattle.gx_rules.specs.Slices.{has_written}
use Rattle.gx_law_order.specs.Standings.{Known, Part, is_closing, is_undecided, is_decided, known_at, part_at}
use Rattle.gx_law_order.specs.Standings.Standing.{Unborn, Live, Preparing, One, Two, Over}

-- a count of what happens once or not at all
abbrev pub bit : Bool → ℕ
bit true = 1
bit false = 0

-- commands run there
abbrev pub is_open : Phase → Bool
is_open Reading = true
is_open Writing = true
is_open _ = false

-- what was answered to the last command, which is kept
abbrev pub IsKept : ℕ → Bool → Option Reply → Type 0
IsKept last wrote None = Unit {0}
IsKept last wrote (Some (reply.Done c w count part)) = (c.0 ≡ last) × (w ≡ wrote)
IsKept last wrote (Some (reply.Failed c cause)) = c.0 ≡ last
IsKept last wrote (Some _) = ⊥

-- what was answered to PREPARE or COMMIT
abbrev pub IsVote : Phase → Option Reply → Type 0
IsVote phase None = has_committed phase ≡ false
IsVote phase (Some reply.Prepared) = Unit {0}
IsVote phase (Some reply.Jfault) = has_committed phase ≡ false
IsVote phase (Some reply.Committed) = has_committed phase ≡ true
IsVote phase (Some _) = ⊥

pub record Pair (k : Known) (p : Part) : Type 0 where
  -- the marks say what the segment's record says
  pub promised : p.promises ≡ bit (was_prepared p.vote)
  pub committed : p.commits ≡ bit (has_committed p.phase)
  pub written : is_open p.phase ≡ true → has_written p.phase ≡ p.wrote
  -- the segment's own
  pub unpromised : is_open p.phase ≡ true → was_prepared p.vote ≡ false
  pub prepared : p.phase ≡ Prepared → was_prepared p.vote ≡ true
  pub kept : IsKept p.last p.wrote p.answer
  pub vote : IsVote p.phase p.vote
  -- a slice that waits is of its last command there, of which nothing is kept yet and which the coordinator awaits; who is on the way
  -- to a commit, or has committed, has none
  pub waits : p.waits ≡ true → (is_open p.phase ≡ true) × (p.answer ≡ None) × ((k.at ≡ Live) ⊎ (k.aborted ≡ true))
  pub awaited : k.at ≡ Live → p.waits ≡ true → (k.waits ≡ true) × (p.last ≡ k.last)
  -- ends
  pub aborts : k.aborted ≡ true → k.at ≡ Over
  pub ends : k.committed ≡ true → k.at ≡ Over
  pub either : k.committed ≡ true → k.aborted ≡ false
  pub undecided : is_undecided k.at ≡ true → k.decided ≡ 0
  pub decided : is_decided k.at ≡ true → k.decided ≡ 1
  -- before it is drawn, and while its commands run
  pub unborn : k.at ≡ Unborn → (p.phase ≡ Reading) × (p.vote ≡ None) × (p.last ≡ 0) × (p.wrote ≡ false) × (k.waits ≡ false)
  pub live : k.at ≡ Live → (is_open p.phase ≡ true) × (p.vote ≡ None) × (p.last ≤ k.last)
  pub learns : k.at ≡ Live → k.writes ≡ true → p.wrote ≡ true
  pub learned : k.at ≡ Live → k.waits ≡ false → k.writes ≡ p.wrote
  -- on the way to a commit
  pub closing : is_closing k.at ≡ true → k.writes ≡ p.wrote
  pub asked : (b : Bool) → k.at ≡ Preparing b → (b ≡ true → k.writes ≡ true) × (b ≡ false → was_prepared p.vote ≡ k.writes) × (k.writes ≡ false → p.vote ≡ None) × (has_committed p.phase ≡ false)
  pub alone : (b : Bool) → k.at ≡ One b → (b ≡ k.writes) × (was_prepared p.vote ≡ false) × (b ≡ false → p.vote ≡ None)
  pub both : (b : Bool) → k.at ≡ Two b → (b ≡ true → k.writes ≡ true) × (was_prepared p.vote ≡ k.writes) × (b ≡ false → has_committed p.phase ≡ k.writes)

-- of every transaction at every segment
abbrev pub DoAgree : World → Type 0
DoAgree w = (i g : ℕ) → Pair (known_at w.coord (marks_in w.steps) i g) (part_at (w.segs i) (marks_in w.steps) i g)
