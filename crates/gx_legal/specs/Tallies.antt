-- What the steps and marks of a run so far come to.
use Rattle.std.specs.Prelude.{◌≡◌, ◌≢◌, ◌||◌, ◌⊎◌, true, ◌+◌, ◌<◌, ◌≤◌, ◌^◌, List, [], ◌∷◌, length, slice_get, Some, None}
use Rattle.std.specs.declared.option.Option.{Option}
use Rattle.std.specs.BTreeMap.{get}
use Rattle.std.specs.BTreeSet.{contains}
use Rattle.gx_dsnap.specs.Gxids.{gxid_cmp}
use Rattle.gx_ids.specs.declared.ids.Gxid.{Gxid}
use Rattle.gx_ids.specs.declared.ids.SessionId.{SessionId}
use Rattle.gx_script.specs.declared.Script.{Script}
use Rattle.gx_store.specs.declared.event.Event.{Event}
use Rattle.gx_store.specs.declared.mark.Mark.{Mark}
use Rattle.gx_store.specs.declared.mark.Mark.TheVariants.{Answer, Start}
use Rattle.gx_store.specs.declared.run.Step.{Step}
use Rattle.gx_store.specs.Marks.{is_aborted, is_committed, is_ended, start_count}
use Rattle.gx_store.specs.Points.{ends_by, ends_in, starts_by, starts_in}
use Rattle.gx_legal.specs.declared.standing.Standing.{Standing}
use Rattle.gx_legal.specs.declared.tally.Seat.{Seat}
use Rattle.gx_legal.specs.declared.tally.Tally.{Tally}
use Rattle.gx_legal.specs.Own.{AreFirsts, first_with}
use Rattle.gx_legal.specs.Standings.{HasRoom, IsMoved, IsStanding, commands_in}

-- the seat of a session behind these steps and marks
pub record IsSeat (script : Script) (session : SessionId) (steps : List Step) (marks : List Mark) (seat : Seat) : Type 0 where
  pub standing : IsStanding script session marks seat.standing
  pub answers : seat.standing.answered ≤ length marks
  pub commands : commands_in seat.standing.block ≤ length marks
  pub started : seat.started ≡ starts_in session steps
  pub ended : seat.ended ≡ ends_in session steps

-- each seat is that of the session of its place
abbrev pub AreSeats : Script → List Step → List Mark → List Seat → Type 0
AreSeats script steps marks seats = (session : SessionId) (seat : Seat) → slice_get seats session.0 ≡ Some seat → IsSeat script session steps marks seat

pub record IsTally (script : Script) (steps : List Step) (marks : List Mark) (tally : Tally) : Type 0 where
  pub seats : AreSeats script steps marks tally.seats.items
  pub committed : (g : Gxid) → contains gxid_cmp tally.committed g ≡ is_committed marks g
  pub aborted : (g : Gxid) → contains gxid_cmp tally.aborted g ≡ is_aborted marks g
  pub count : tally.count ≡ length marks
  pub starts : tally.starts ≡ start_count marks
  pub firsts : AreFirsts marks tally.firsts
  pub unsettled : (g : Gxid) → 1 ≤ g.0 → g.0 < tally.unsettled → is_ended marks g ≡ true

-- the counts of each seat have room for one more mark
abbrev pub CanMove : List Seat → Type 0
CanMove seats =
    (session : SessionId) (seat : Seat) → slice_get seats session.0 ≡ Some seat → (commands_in seat.standing.block + 1 < 2 ^ 64) × (seat.standing.answered + 1 < 2 ^ 64)

-- and those of the marks
abbrev pub CanCount : Tally → Type 0
CanCount tally = CanMove tally.seats.items × (tally.count + 1 < 2 ^ 64) × (tally.starts + 1 < 2 ^ 64)

-- and for one more step
abbrev pub CanStep : List Seat → Type 0
CanStep seats = (session : SessionId) (seat : Seat) → slice_get seats session.0 ≡ Some seat → (seat.started + 1 < 2 ^ 64) × (seat.ended + 1 < 2 ^ 64)

-- ONE MORE MARK
-- the session that the mark moves
abbrev pub mover : Mark → Option SessionId
mover (Start g s) = Some s
mover (Answer s number reply) = Some s
mover _ = None

-- the mark moves no session but this one
abbrev pub IsUnmoved : Script → Mark → SessionId → Type 0
IsUnmoved script mark session = (other : SessionId) (standing : Standing) → other.0 ≢ session.0 → IsMoved script other standing (mark ∷ []) standing

pub record IsSeatMoved (script : Script) (session : SessionId) (mark : Mark) (old new : Seat) : Type 0 where
  pub moved : IsMoved script session old.standing (mark ∷ []) new.standing
  pub room : HasRoom old.standing new.standing
  pub started : new.started ≡ old.started
  pub ended : new.ended ≡ old.ended

abbrev pub AreMoved : Script → Mark → List Seat → List Seat → Type 0
AreMoved script mark old new =
    (session : SessionId) (seat : Seat) → slice_get new session.0 ≡ Some seat → (was : Seat) × (slice_get old session.0 ≡ Some was) × IsSeatMoved script session mark was seat

-- it is kept as one that has committed or aborted
abbrev pub HasEndedIn : Tally → Gxid → Type 0
HasEndedIn tally g = (contains gxid_cmp tally.committed g || contains gxid_cmp tally.aborted g) ≡ true

pub record IsCounted (script : Script) (mark : Mark) (old new : Tally) : Type 0 where
  pub seats : AreMoved script mark old.seats.items new.seats.items
  pub committed : (g : Gxid) → contains gxid_cmp new.committed g ≡ (contains gxid_cmp old.committed g || is_committed (mark ∷ []) g)
  pub aborted : (g : Gxid) → contains gxid_cmp new.aborted g ≡ (contains gxid_cmp old.aborted g || is_aborted (mark ∷ []) g)
  pub count : new.count ≡ old.count + 1
  pub starts : new.starts ≡ old.starts + start_count (mark ∷ [])
  pub firsts : (g : Gxid) → get gxid_cmp new.firsts g ≡ first_with g mark old.count (get gxid_cmp old.firsts g)
  pub unsettled : (g : Gxid) → g.0 < new.unsettled → (g.0 < old.unsettled) ⊎ HasEndedIn new g

-- ONE MORE STEP
pub record IsSeatStepped (session : SessionId) (event : Event) (old new : Seat) : Type 0 where
  pub standing : new.standing ≡ old.standing
  pub started : new.started ≡ old.started + starts_by session event
  pub ended : new.ended ≡ old.ended + ends_by session event

abbrev pub AreStepped : Event → List Seat → List Seat → Type 0
AreStepped event old new =
    (session : SessionId) (seat : Seat) → slice_get new session.0 ≡ Some seat → (was : Seat) × (slice_get old session.0 ≡ Some was) × IsSeatStepped session event was seat

pub record IsStepped (event : Event) (old new : Tally) : Type 0 where
  pub seats : AreStepped event old.seats.items new.seats.items
  pub committed : new.committed ≡ old.committed
  pub aborted : new.aborted ≡ old.aborted
  pub count : new.count ≡ old.count
  pub starts : new.starts ≡ old.starts
  pub firsts : new.firsts ≡ old.firsts
  pub unsettled : new.unsettled ≡ old.unsettled
