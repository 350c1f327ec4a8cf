-- The starts that the groups let.
use Rattle.std.proofs.Common.{◌≡◌, ℕ, zero, suc, Bool, true, false, cond, ◌&&◌, ◌||◌, List, [], ◌∷◌, ◌++◌, map, Option, Some, None, slice_get, set, refl, sym, ap, ◌∙◌, subst}
use Rattle.std.specs.Prelude.{filter, not}
use Rattle.gx_ids.specs.declared.ids.SessionId.{SessionId}
use Rattle.gx_script.specs.declared.Script.{Script}
use Rattle.gx_script.specs.declared.group.SlotGroup.{SlotGroup}
use Rattle.gx_groups.specs.declared.seat.Seat.{Seat}
use Rattle.gx_groups.specs.declared.seat.Seat.TheVariants.{Alone, Grouped}
use Rattle.gx_groups.specs.declared.seat.Standing.{Standing}
use Rattle.gx_groups.specs.declared.seat.Standing.TheVariants.{Asking, Holding, Idle}
use Rattle.gx_groups.specs.Slots.{Slots, asked, given, taken}
use Rattle.gx_groups.specs.Table.{Table, after_ask, after_give, after_take, asks, asks_at, changed_at, holds, is_asking, is_held_up, may, may_at, new_seat, seat_of}
use Rattle.gx_store.specs.declared.event.Event.{Event}
use Rattle.gx_store.specs.declared.event.Event.TheVariants.{Start}
use Rattle.gx_store.specs.declared.mark.Mark.{Mark}
use Rattle.gx_store.specs.declared.mark.Mark.TheVariants as mark
use Rattle.gx_store.specs.declared.opened.Opened.{Opened}
use Rattle.gx_store.specs.declared.run.Step.{Step}
use Rattle.gx_store.specs.Groups.{all_asking, asking, asks_in, first_slots, fresh_slots, giving, is_to_open, lets, open_after, open_in, opener, place_in, slots_after, slots_behind, slots_by, slots_from, slots_through}
use Rattle.gx_store.specs.Points.{marks_in}
use Rattle.gx_store.specs.Schedule.{sessions_of}

-- EVENTS THAT ARE LET
pub filter-mapped : {A B : Type 0} (p : B → Bool) (q : A → Bool) (f : A → B) (xs : List A) → ((x : A) → p (f x) ≡ q x) → filter p (map f xs) ≡ map f (filter q xs)
filter-mapped p q f [] e = refl
filter-mapped p q f (x ∷ xs) e = ap (λ b. cond b (f x ∷ filter p (map f xs)) (filter p (map f xs))) (e x) ∙ by_test (q x) (filter-mapped p q f xs e)
  where
    by_test : (b : Bool) → filter p (map f xs) ≡ map f (filter q xs) → cond b (f x ∷ filter p (map f xs)) (filter p (map f xs)) ≡ map f (cond b (x ∷ filter q xs) (filter q xs))
    by_test true r = ap (λ ys. f x ∷ ys) r
    by_test false r = r

pub filter-all : {A : Type 0} (p : A → Bool) (xs : List A) → ((x : A) → p x ≡ true) → filter p xs ≡ xs
filter-all p [] e = refl
filter-all p (x ∷ xs) e = ap (λ b. cond b (x ∷ filter p xs) (filter p xs)) (e x) ∙ ap (λ ys. x ∷ ys) (filter-all p xs e)

-- WITHOUT GROUPS
abbrev AreAlone : List Seat → Type 0
AreAlone [] = Unit {0}
AreAlone (Alone standing ∷ xs) = AreAlone xs
AreAlone (Grouped place ∷ xs) = ⊥

alone-set : (xs : List Seat) (i : ℕ) (standing : Standing) → AreAlone xs → AreAlone (set xs i (Alone standing))
alone-set [] i standing a = a
alone-set (Alone own ∷ xs) zero standing a = a
alone-set (Alone own ∷ xs) (suc i) standing a = alone-set xs i standing a
alone-set (Grouped place ∷ xs) i standing a = absurd (a)

alone-changed : (t : Table) (s : SessionId) (change : Slots → SessionId → Slots) (standing : Standing) (seat : Option Seat) → AreAlone t.seats → AreAlone (changed_at t s change standing seat).seats
alone-changed t s change standing None a = a
alone-changed t s change standing (Some (Grouped place)) a = a
alone-changed t s change standing (Some (Alone own)) a = alone-set t.seats s.0 standing a

alone-if : (b : Bool) (t u : Table) → AreAlone t.seats → AreAlone u.seats → AreAlone (cond b t u).seats
alone-if true t u a c = a
alone-if false t u a c = c

alone-asking : (t : Table) (s : SessionId) → AreAlone t.seats → AreAlone (asking t s).seats
alone-asking t s a = alone-if (asks t s || holds t s) t (after_ask t s) a (alone-changed t s asked Asking (seat_of t s) a)

alone-giving : (t : Table) (o : Option SessionId) → AreAlone t.seats → AreAlone (giving t o).seats
alone-giving t None a = a
alone-giving t (Some s) a = alone-if (holds t s) (after_give t s) t (alone-changed t s given Idle (seat_of t s) a) a

alone-by : (os : List Opened) (t : Table) (m : Mark) → AreAlone t.seats → AreAlone (slots_by os t m).seats
alone-by os t (mark.Start g s) a = alone-if (may t s) (after_take t s) t (alone-changed t s taken Holding (seat_of t s) a) a
alone-by os t (mark.Commit g) a = alone-giving t (opener os g) a
alone-by os t (mark.Abort g) a = alone-giving t (opener os g) a
alone-by os t _ a = a

alone-through : (os : List Opened) (t : Table) (ms : List Mark) → AreAlone t.seats → AreAlone (slots_through os t ms).seats
alone-through os t [] a = a
alone-through os t (m ∷ ms) a = alone-through (open_after os m) (slots_by os t m) ms (alone-by os t m a)

alone-all : (t : Table) (ss : List SessionId) → AreAlone t.seats → AreAlone (all_asking t ss).seats
alone-all t [] a = a
alone-all t (s ∷ ss) a = alone-all (asking t s) ss (alone-asking t s a)

alone-from : (script : Script) (before : List Step) (t : Table) (ss : List Step) → AreAlone t.seats → AreAlone (slots_from script before t ss).seats
alone-from script before t [] a = a
alone-from script before t (s ∷ ss) a =
    alone-from script (before ++ s ∷ []) (slots_behind script before t s) ss (alone-all (slots_through (open_in (marks_in before)) t s.marks) (filter (asks_in script before s) (sessions_of script)) (alone-through (open_in (marks_in before)) t s.marks a))

alone-new : (groups : List SlotGroup) (ss : List SessionId) → groups ≡ [] → AreAlone (map new_seat (map (λ s. place_in s groups) ss))
alone-new groups [] e = tt
alone-new groups (s ∷ ss) e = subst (λ gs. AreAlone (new_seat (place_in s gs) ∷ map new_seat (map (λ x. place_in x groups) ss))) (sym e) (alone-new groups ss e)

seat-alone : (xs : List Seat) (i place : ℕ) → AreAlone xs → slice_get xs i ≡ Some (Grouped place) → ⊥
seat-alone [] i place a e = cc
seat-alone (Alone own ∷ xs) zero place a e = cc
seat-alone (Alone own ∷ xs) (suc i) place a e = seat-alone xs i place a e
seat-alone (Grouped p ∷ xs) i place a e = absurd (a)

pub nobody-held-up : (script : Script) (steps : List Step) → script.groups ≡ [] → (s : SessionId) → is_held_up (slots_after script steps) s ≡ false
nobody-held-up script steps e s = by_seat (seat_of t s) refl
  where
    t : Table
    t = slots_after script steps

    alone : AreAlone t.seats
    alone = alone-from script [] (first_slots script) steps (alone-all (fresh_slots script) (filter (is_to_open script []) (sessions_of script)) (alone-new script.groups (sessions_of script) e))

    and-not : (b : Bool) → (b && not b) ≡ false
    and-not true = refl
    and-not false = refl

    by_seat : (seat : Option Seat) → seat_of t s ≡ seat → (asks_at t s seat && not (may_at t s seat)) ≡ false
    by_seat None q = refl
    by_seat (Some (Alone standing)) q = and-not (is_asking standing)
    by_seat (Some (Grouped place)) q = absurd (seat-alone t.seats s.0 place alone q)

pub all-let : (script : Script) (steps : List Step) → script.groups ≡ [] → (e : Event) → lets script steps e ≡ true
all-let script steps none (Start s) = ap not (nobody-held-up script steps none s)
all-let script steps none _ = refl
