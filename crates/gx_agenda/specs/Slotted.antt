-- Slots that agree with the steps of a run.
use Rattle.std.specs.Prelude.{◌≡◌, ◌<◌, ◌+◌, ◌-◌, ◌==◌, ℕ, Bool, true, false, if◌then◌else◌, List, [], ◌∷◌, length, slice_get, slice_set, Some, None, nat_lt}
use Rattle.std.specs.declared.option.Option.{Option}
use Rattle.gx_ids.specs.declared.ids.SessionId.{SessionId}
use Rattle.gx_tree.specs.declared.stmt.Stmt.{Stmt}
use Rattle.gx_tree.specs.declared.stmt.Stmt.TheVariants as stmt
use Rattle.gx_script.specs.declared.Line.{Line}
use Rattle.gx_script.specs.declared.Script.{Script}
use Rattle.gx_store.specs.declared.mark.Mark.{Mark}
use Rattle.gx_store.specs.declared.mark.Mark.TheVariants as mark
use Rattle.gx_store.specs.declared.mark.Mark.TheVariants.{Answer}
use Rattle.gx_store.specs.declared.run.Step.{Step}
use Rattle.gx_groups.specs.Table.{Table}
use Rattle.gx_store.specs.Groups.{asking, open_from, open_in, slots_after, slots_through}
use Rattle.gx_store.specs.Legal.{draws}
use Rattle.gx_store.specs.Lines.{BlockState, Outside, state_of, stmt_of}
use Rattle.gx_store.specs.Marks.{is_same_session}
use Rattle.gx_store.specs.Points.{marks_in}
use Rattle.gx_agenda.specs.Moves.{next_place}
use Rattle.gx_agenda.specs.declared.slots.Slots.{Slots}
use Rattle.gx_agenda.specs.declared.span.Span.{Span}
use Rattle.gx_agenda.specs.declared.standing.Standing.{Standing}

-- OUTSIDE A BLOCK
abbrev pub is_outside : BlockState → Bool
is_outside Outside = true
is_outside _ = false

-- behind a statement, whatever its answer
abbrev pub outside_behind : Bool → Stmt → Bool
outside_behind outside (stmt.Begin level) = false
outside_behind outside stmt.Commit = true
outside_behind outside stmt.Rollback = true
outside_behind outside _ = outside

abbrev pub outside_line : Bool → Option Line → Bool
outside_line outside None = outside
outside_line outside (Some line) = outside_behind outside line.stmt

abbrev pub outside_stmt : Bool → Option Stmt → Bool
outside_stmt outside None = outside
outside_stmt outside (Some line) = outside_behind outside line

-- behind marks, where it is told whether the session stood outside before them
abbrev pub outside_from : Script → SessionId → Bool → List Mark → Bool
outside_from script session outside [] = outside
outside_from script session outside (Answer s n reply ∷ ms) =
    outside_from script session (if is_same_session s session then outside_stmt outside (stmt_of session n script.lines) else outside) ms
outside_from script session outside (_ ∷ ms) = outside_from script session outside ms

-- LINES
abbrev pub line_in : List Line → Option ℕ → Option Line
line_in lines None = None
line_in lines (Some place) = slice_get lines place

abbrev pub opens_line : Option Line → Bool
opens_line None = false
opens_line (Some line) = draws Outside line.stmt

-- the place of a session's line of a number, where its lines stand at these places
abbrev pub place_of : List ℕ → ℕ → Option ℕ
place_of places number = if number == 0 then None else slice_get places (number - 1)

-- whether the next line of a session begins a transaction, by whether it stands outside a block and by where it stands in the file
abbrev pub opens_there : List Line → Option Bool → Option Standing → Bool
opens_there lines (Some true) (Some standing) = opens_line (line_in lines (next_place standing))
opens_there lines _ _ = false

abbrev pub is_due : List Line → List Standing → List Bool → SessionId → Bool
is_due lines standings outside session = opens_there lines (slice_get outside session.0) (slice_get standings session.0)

-- those of these sessions ask for whom this holds
abbrev pub asking_if : (SessionId → Bool) → Table → List SessionId → Table
asking_if test t [] = t
asking_if test t (s ∷ ss) = asking_if test (if test s then asking t s else t) ss

-- a session's line of a number was answered
abbrev pub noted_at : List Line → List Bool → SessionId → ℕ → Option Bool → Option Standing → List Bool
noted_at lines outside session number (Some was) (Some standing) = slice_set outside session.0 (outside_line was (line_in lines (place_of standing.places number)))
noted_at lines outside session number _ _ = outside

abbrev pub noted : List Line → List Standing → List Bool → List Mark → List Bool
noted lines standings outside [] = outside
noted lines standings outside (Answer s n reply ∷ ms) = noted lines standings (noted_at lines outside s n (slice_get outside s.0) (slice_get standings s.0)) ms
noted lines standings outside (_ ∷ ms) = noted lines standings outside ms

-- WHO IS ANSWERED
abbrev pub lowest_from : ℕ → List Mark → ℕ
lowest_from least [] = least
lowest_from least (Answer s n reply ∷ ms) = lowest_from (if nat_lt s.0 least then s.0 else least) ms
lowest_from least (_ ∷ ms) = lowest_from least ms

abbrev pub beyond_from : ℕ → List Mark → ℕ
beyond_from past [] = past
beyond_from past (Answer s n reply ∷ ms) = beyond_from (if nat_lt s.0 past then past else s.0 + 1) ms
beyond_from past (_ ∷ ms) = beyond_from past ms

-- the sessions of whom these marks answer lines are those from the least of them to the greatest, or some of these
pub record IsSpan (marks : List Mark) (span : Span) : Type 0 where
  pub from : span.from ≡ lowest_from 256 marks
  pub past : span.past ≡ beyond_from 0 marks

-- MARKS OF SLOTS
-- a transaction begins or ends by the mark
abbrev pub is_of_slots : Mark → Bool
is_of_slots (mark.Start g s) = true
is_of_slots (mark.Commit g) = true
is_of_slots (mark.Abort g) = true
is_of_slots _ = false

-- slots were taken and given back as these marks say, and it is known of whom they answer lines
pub record HasTaken (marks : List Mark) (old new : Slots) : Type 0 where
  pub groups : new.groups ≡ slots_through old.begun.items old.groups marks
  pub begun : new.begun.items ≡ open_from old.begun.items marks
  pub outside : new.outside.items ≡ old.outside.items
  pub from : new.answered.from ≡ lowest_from old.answered.from marks
  pub past : new.answered.past ≡ beyond_from old.answered.past marks

abbrev pub HasGone : List Mark → Option Slots → Option Slots → Type 0
HasGone marks None None = Unit {0}
HasGone marks (Some old) (Some new) = HasTaken marks old new
HasGone marks _ _ = ⊥

-- WHAT IS KEPT
-- which sessions stand outside a block
abbrev pub AreOutside : Script → List Step → List Bool → Type 0
AreOutside script steps outside = (session : SessionId) → session.0 < length script.sessions → slice_get outside session.0 ≡ Some (is_outside (state_of script session (marks_in steps)))

-- the slots, the open transactions, and which sessions stand outside a block; of no step it is noted of whom it answers lines
pub record AreAsTold (script : Script) (steps : List Step) (slots : Slots) : Type 0 where
  pub groups : slots.groups ≡ slots_after script steps
  pub begun : slots.begun.items ≡ open_in (marks_in steps)
  pub outside : AreOutside script steps slots.outside.items
  pub from : slots.answered.from ≡ 256
  pub past : slots.answered.past ≡ 0

-- nothing is kept of a script without groups
abbrev pub AreSlots : Script → List Step → Option Slots → Type 0
AreSlots script steps None = script.groups ≡ []
AreSlots script steps (Some slots) = AreAsTold script steps slots
