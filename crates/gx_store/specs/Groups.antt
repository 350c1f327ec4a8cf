-- The slots of a script's resource groups where the steps of a run have led: who asks for one, who holds one, and which lines they let start.
use Rattle.std.specs.Prelude.{◌≡◌, ℕ, ◌+◌, ◌≤◌, Bool, true, false, not, if◌then◌else◌, ◌&&◌, ◌||◌, List, [], ◌∷◌, ◌++◌, All, Some, None, filter, length, map, option_map}
use Rattle.std.specs.declared.option.Option.{Option}
use Rattle.gx_ids.specs.declared.ids.Gxid.{Gxid}
use Rattle.gx_ids.specs.declared.ids.SessionId.{SessionId}
use Rattle.gx_tree.specs.declared.stmt.Stmt.{Stmt}
use Rattle.gx_script.specs.declared.Script.{Script}
use Rattle.gx_script.specs.declared.group.SlotGroup.{SlotGroup}
use Rattle.gx_groups.specs.Calls.{fresh_table}
use Rattle.gx_groups.specs.Slots.{has}
use Rattle.gx_groups.specs.Table.{Table, after_ask, after_give, after_take, asks, holds, is_held_up, may}
use Rattle.gx_store.specs.declared.event.Event.{Event}
use Rattle.gx_store.specs.declared.event.Event.TheVariants as event
use Rattle.gx_store.specs.declared.mark.Mark.{Mark}
use Rattle.gx_store.specs.declared.mark.Mark.TheVariants as mark
use Rattle.gx_store.specs.declared.opened.Opened.{Opened}
use Rattle.gx_store.specs.declared.run.Step.{Step}
use Rattle.gx_store.specs.Legal.{draws}
use Rattle.gx_store.specs.Lines.{BlockState, next_stmt, state_of}
use Rattle.gx_store.specs.Marks.{is_answered, is_same_gxid}
use Rattle.gx_store.specs.Points.{marks_in}
use Rattle.gx_store.specs.Schedule.{enabled, is_idle, sessions_of}

-- OPEN TRANSACTIONS
abbrev pub without : Gxid → List Opened → List Opened
without g ongoing = filter (λ t. not (is_same_gxid t.gxid g)) ongoing

abbrev pub open_after : List Opened → Mark → List Opened
open_after ongoing (mark.Start g s) = ongoing ++ record { gxid = g; session = s } ∷ []
open_after ongoing (mark.Commit g) = without g ongoing
open_after ongoing (mark.Abort g) = without g ongoing
open_after ongoing _ = ongoing

abbrev pub open_from : List Opened → List Mark → List Opened
open_from ongoing [] = ongoing
open_from ongoing (m ∷ ms) = open_from (open_after ongoing m) ms

-- those that have begun and have neither committed nor aborted, with their sessions, in the order in which they began
abbrev pub open_in : List Mark → List Opened
open_in marks = open_from [] marks

abbrev pub opener : List Opened → Gxid → Option SessionId
opener [] g = None
opener (t ∷ ts) g = if is_same_gxid t.gxid g then Some t.session else opener ts g

-- WHO ASKS
abbrev pub draws_next : BlockState → Option Stmt → Bool
draws_next state None = false
draws_next state (Some line) = draws state line

-- the session is idle, and its next line begins a transaction
abbrev pub is_to_open : Script → List Step → SessionId → Bool
is_to_open script steps session = is_idle steps session && draws_next (state_of script session (marks_in steps)) (next_stmt session script (marks_in steps))

-- a line of the session is answered in the step, and behind it the next one begins a transaction
abbrev pub asks_in : Script → List Step → Step → SessionId → Bool
asks_in script before step session = is_answered session step.marks && is_to_open script (before ++ step ∷ []) session

-- SLOTS
-- a session asks, unless it asks already or holds a slot; it takes one where it may, and gives back the one that it holds
abbrev pub asking : Table → SessionId → Table
asking t s = if asks t s || holds t s then t else after_ask t s

abbrev pub taking : Table → SessionId → Table
taking t s = if may t s then after_take t s else t

abbrev pub giving : Table → Option SessionId → Table
giving t None = t
giving t (Some s) = if holds t s then after_give t s else t

abbrev pub all_asking : Table → List SessionId → Table
all_asking t [] = t
all_asking t (s ∷ ss) = all_asking (asking t s) ss

-- a slot is taken with a transaction's beginning and given back with its end, where these are open before the mark
abbrev pub slots_by : List Opened → Table → Mark → Table
slots_by ongoing t (mark.Start g s) = taking t s
slots_by ongoing t (mark.Commit g) = giving t (opener ongoing g)
slots_by ongoing t (mark.Abort g) = giving t (opener ongoing g)
slots_by ongoing t _ = t

abbrev pub slots_through : List Opened → Table → List Mark → Table
slots_through ongoing t [] = t
slots_through ongoing t (m ∷ ms) = slots_through (open_after ongoing m) (slots_by ongoing t m) ms

-- behind a step; who asks in it asks behind its marks, in the order of the sessions
abbrev pub slots_behind : Script → List Step → Table → Step → Table
slots_behind script before t step =
    all_asking (slots_through (open_in (marks_in before)) t step.marks) (filter (asks_in script before step) (sessions_of script))

abbrev pub slots_from : Script → List Step → Table → List Step → Table
slots_from script before t [] = t
slots_from script before t (s ∷ ss) = slots_from script (before ++ s ∷ []) (slots_behind script before t s) ss

-- the place of a session's group
abbrev pub place_in : SessionId → List SlotGroup → Option ℕ
place_in session [] = None
place_in session (g ∷ gs) = if has session g.sessions then Some 0 else option_map (λ n. n + 1) (place_in session gs)

abbrev pub group_limit : SlotGroup → ℕ
group_limit group = group.limit

abbrev pub fresh_slots : Script → Table
fresh_slots script = fresh_table (map group_limit script.groups) (map (λ s. place_in s script.groups) (sessions_of script))

-- at the beginning all ask whose first line begins a transaction
abbrev pub first_slots : Script → Table
first_slots script = all_asking (fresh_slots script) (filter (is_to_open script []) (sessions_of script))

abbrev pub slots_after : Script → List Step → Table
slots_after script steps = slots_from script [] (first_slots script) steps

-- WHAT MAY START
-- all but the lines of those who ask and may not take a slot yet
abbrev pub lets : Script → List Step → Event → Bool
lets script steps (event.Start s) = not (is_held_up (slots_after script steps) s)
lets script steps _ = true

-- what is enabled, of which the groups let the starts
abbrev pub enabled_in : Script → List Step → List Event
enabled_in script steps = filter (lets script steps) (enabled script steps)

-- each step's event is one that the groups let where the steps before it have led
abbrev pub AreLetBehind : Script → List Step → List Step → Type 0
AreLetBehind script before [] = Unit {0}
AreLetBehind script before (s ∷ ss) = (lets script before s.event ≡ true) × AreLetBehind script (before ++ s ∷ []) ss

abbrev pub AreStartsLet : Script → List Step → Type 0
AreStartsLet script steps = AreLetBehind script [] steps

-- WHAT HOLDS OF RUNS
abbrev pub is_in_group : SlotGroup → Opened → Bool
is_in_group group opened = has opened.session group.sessions

-- no group has more open transactions than slots
abbrev pub KeepsSlots : Script → List Mark → Type 0
KeepsSlots script marks = All (λ (group : SlotGroup). length (filter (is_in_group group) (open_in marks)) ≤ group.limit) script.groups

-- at every point
abbrev pub AlwaysKeepsSlots : Script → List Mark → Type 0
AlwaysKeepsSlots script marks = (earlier later : List Mark) → marks ≡ earlier ++ later → KeepsSlots script earlier

-- the sessions of a group that have begun transactions, in the order in which they did
abbrev pub begun_in : SlotGroup → List Mark → List SessionId
begun_in group [] = []
begun_in group (mark.Start g s ∷ ms) = if has s group.sessions then s ∷ begun_in group ms else begun_in group ms
begun_in group (_ ∷ ms) = begun_in group ms

-- and those that asked
abbrev pub asked_behind : Script → SlotGroup → List Step → List Step → List SessionId
asked_behind script group before [] = []
asked_behind script group before (s ∷ ss) =
    filter (λ session. has session group.sessions && asks_in script before s session) (sessions_of script) ++ asked_behind script group (before ++ s ∷ []) ss

abbrev pub asked_in : Script → SlotGroup → List Step → List SessionId
asked_in script group steps = filter (λ session. has session group.sessions && is_to_open script [] session) (sessions_of script) ++ asked_behind script group [] steps

-- those of a group that have begun are the first of those that asked, in the order in which they asked
abbrev pub BeginAsAsked : Script → List Step → Type 0
BeginAsAsked script steps = All (λ (group : SlotGroup). (waiting : List SessionId) × (asked_in script group steps ≡ begun_in group (marks_in steps) ++ waiting)) script.groups
