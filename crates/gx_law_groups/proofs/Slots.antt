-- What slots hold while marks come, by the calls that led there.
use Rattle.std.proofs.Common.{◌≡◌, ℕ, zero, suc, ◌+◌, ◌<◌, Bool, true, false, cond, ◌||◌, ◌&&◌, List, [], ◌∷◌, ◌++◌, length, map, Option, Some, None, slice_get, get_or, set, refl, sym, ap, ◌∙◌, subst, arith, append_assoc}
use Rattle.std.proofs.lemmas.Bool.Decides.{nat_tests}
use Rattle.std.proofs.lemmas.List.Elements.{All-map}
use Rattle.std.proofs.lemmas.Option.{slice_get-map}
use Rattle.std.specs.Prelude.{All, filter, not, option_map}
use Rattle.std.specs.List.{list_any, range_with_len}
use Rattle.gx_ids.specs.declared.ids.Gxid.{Gxid}
use Rattle.gx_ids.specs.declared.ids.SessionId.{SessionId}
use Rattle.gx_script.specs.declared.Script.{Script}
use Rattle.gx_script.specs.declared.group.SlotGroup.{SlotGroup}
use Rattle.gx_groups.specs.declared.seat.Seat.{Seat}
use Rattle.gx_groups.specs.declared.seat.Seat.TheVariants.{Alone, Grouped}
use Rattle.gx_groups.specs.declared.seat.Standing.{Standing}
use Rattle.gx_groups.specs.declared.seat.Standing.TheVariants.{Idle, Asking, Holding}
use Rattle.gx_groups.specs.Seats.{is_known_at}
use Rattle.gx_groups.specs.Slots.{Slots, asked, given, has, is, taken, without as without-session}
use Rattle.gx_groups.specs.Table.{IsWithin, Table, after_ask, after_give, after_take, asks, changed_at, group_at, holds, is_asking, is_holding, is_known, may, new_seat, seat_of}
use Rattle.gx_groups.specs.Calls.{Ask, Call, Give, IsRun, Take, after, asked_by, is_seated, only_if, standing_after, taken_by}
use Rattle.gx_groups.proofs.Fresh.{whole-fresh}
use Rattle.gx_groups.proofs.Runs.{whole-after}
use Rattle.gx_groups.proofs.Sessions.{same-session}
use Rattle.gx_groups.proofs.Told.{asks-told, holds-told}
use Rattle.gx_store.specs.declared.mark.Mark.{Mark}
use Rattle.gx_store.specs.declared.mark.Mark.TheVariants.{Start}
use Rattle.gx_store.specs.declared.opened.Opened.{Opened}
use Rattle.gx_store.specs.Groups.{fresh_slots, group_limit, open_in, place_in, without}
use Rattle.gx_store.specs.Marks.{is_same_gxid}
use Rattle.gx_store.specs.Schedule.{sessions_of}
use Rattle.gx_law_groups.specs.Openers.{is_of}
use Rattle.gx_law_groups.proofs.Tables.{Whole, holders-ask, holders-give, holders-take, seated-after}
use Rattle.gx_law_groups.proofs.Tidy.{Each, each-push}

-- two sessions that are one
same-one : {s : SessionId} (x : SessionId) → is x s ≡ true → s ≡ x
same-one {s} x e = same-session x s e

keep-if : {A : Type 0} (P : A → Type 0) (b : Bool) (x : A) (xs : List A) → P x → Each P xs → Each P (cond (not b) (x ∷ xs) xs)
keep-if P true x xs p e = e
keep-if P false x xs p e = (p, e)

each-left : (P : Opened → Type 0) (g : Gxid) (os : List Opened) → Each P os → Each P (without g os)
each-left P g [] e = tt
each-left P g (o ∷ os) e = keep-if P (is_same_gxid o.gxid g) o (without g os) e.0 (each-left P g os e.1)

known-set : (seats : List Seat) (n k : ℕ) (seat : Seat) → is_known_at (slice_get (set seats n seat) k) ≡ is_known_at (slice_get seats k)
known-set [] n k seat = refl
known-set (x ∷ xs) zero zero seat = refl
known-set (x ∷ xs) zero (suc k) seat = refl
known-set (x ∷ xs) (suc n) zero seat = refl
known-set (x ∷ xs) (suc n) (suc k) seat = known-set xs n k seat

known-changed : (t : Table) (s x : SessionId) (change : Slots → SessionId → Slots) (new : Standing) (seat : Option Seat) → is_known (changed_at t s change new seat) x ≡ is_known t x
known-changed t s x change new None = refl
known-changed t s x change new (Some (Grouped p)) = refl
known-changed t s x change new (Some (Alone own)) = known-set t.seats s.0 x.0 (Alone new)

after-known : (script : Script) (calls : List Call) (x : SessionId) → is_known (after (fresh_slots script) calls) x ≡ is_known (fresh_slots script) x
after-known script [] x = refl
after-known script (Ask s ∷ before) x = let now = after (fresh_slots script) before in known-changed now s x asked Asking (seat_of now s) ∙ after-known script before x
after-known script (Take s ∷ before) x = let now = after (fresh_slots script) before in known-changed now s x taken Holding (seat_of now s) ∙ after-known script before x
after-known script (Give s ∷ before) x = let now = after (fresh_slots script) before in known-changed now s x given Idle (seat_of now s) ∙ after-known script before x

-- THE TABLE OF WHICH NOTHING WAS ASKED
within-more : (n : ℕ) (o : Option ℕ) → IsWithin n o → IsWithin (suc n) (option_map (λ m. m + 1) o)
within-more n None w = tt
within-more n (Some p) w = omega arith

within-place : (s : SessionId) (gs : List SlotGroup) → IsWithin (length gs) (place_in s gs)
within-place s [] = tt
within-place s (g ∷ gs) = by_test (has s g.sessions) (within-more (length gs) (place_in s gs) (within-place s gs))
  where
    by_test : (b : Bool) → IsWithin (suc (length gs)) (option_map (λ m. m + 1) (place_in s gs)) → IsWithin (suc (length gs)) (cond b (Some 0) (option_map (λ m. m + 1) (place_in s gs)))
    by_test true w = omega arith
    by_test false w = w

length-limits : (gs : List SlotGroup) → length (map group_limit gs) ≡ length gs
length-limits [] = refl
length-limits (g ∷ gs) = ap suc (length-limits gs)

range-at : (first n k : ℕ) → k < n → slice_get (range_with_len first n) k ≡ Some (first + k)
range-at first zero k l = absurd (omega arith)
range-at first (suc n) zero l = ap Some (omega arith)
range-at first (suc n) (suc k) l = range-at (first + 1) n k (omega arith) ∙ ap Some (omega arith)

module _ (script : Script) where
  abbrev fresh : Table
  fresh = fresh_slots script

  abbrev pub limits : List ℕ
  limits = map group_limit script.groups

  abbrev pub places : List (Option ℕ)
  places = map (λ s. place_in s script.groups) (sessions_of script)

  pub within : All (IsWithin (length limits)) places
  within = All-map (IsWithin (length limits)) (λ s. place_in s script.groups) (sessions_of script) (λ i d l. let s = get_or (sessions_of script) i d in subst (λ n. IsWithin n (place_in s script.groups)) (sym
      (length-limits script.groups)) (within-place s script.groups))

  pub whole-new : Whole fresh
  whole-new = whole-fresh places limits within

  pub session-at : (s : SessionId) → s.0 < length script.sessions → slice_get (sessions_of script) s.0 ≡ Some s
  session-at s l =
      slice_get-map (λ n. let x : SessionId = record { 0 = n } in x) (range_with_len 0 (length script.sessions)) s.0
      ∙ ap (option_map (λ n. let x : SessionId = record { 0 = n } in x)) (range-at 0 (length script.sessions) s.0 l)
      ∙ ap (λ n. let x : SessionId = record { 0 = n } in Some x) (zero-plus s.0)
    where
      zero-plus : (n : ℕ) → 0 + n ≡ n
      zero-plus n = omega arith

  pub seat-at : (s : SessionId) → s.0 < length script.sessions → seat_of fresh s ≡ Some (new_seat (place_in s script.groups))
  seat-at s l =
      slice_get-map new_seat places s.0
      ∙ ap (option_map new_seat) (slice_get-map (λ x. place_in x script.groups) (sessions_of script) s.0 ∙ ap (option_map (λ x. place_in x script.groups)) (session-at s l))

  pub known-at : (s : SessionId) → s.0 < length script.sessions → is_known fresh s ≡ true
  known-at s l = ap is_known_at (seat-at s l)

  -- the session is one of the group at a place
  abbrev pub is_at : ℕ → SessionId → Bool
  is_at place s = is_seated place (seat_of fresh s)

  abbrev pub is_open_at : ℕ → Opened → Bool
  is_open_at place o = is_at place o.session

abbrev pub session_in : Opened → SessionId
session_in o = o.session

-- the sessions of the group at a place that have begun transactions
abbrev pub begun_at : Script → ℕ → List Mark → List SessionId
begun_at script place [] = []
begun_at script place (Start g s ∷ ms) = only_if (is_at script place s) s ++ begun_at script place ms
begun_at script place (_ ∷ ms) = begun_at script place ms

pub begun_at-append : (script : Script) (place : ℕ) (xs ys : List Mark) → begun_at script place (xs ++ ys) ≡ begun_at script place xs ++ begun_at script place ys
begun_at-append script place [] ys = refl
begun_at-append script place (Start g s ∷ xs) ys = ap (λ r. only_if (is_at script place s) s ++ r) (begun_at-append script place xs ys)
    ∙ sym (append_assoc (only_if (is_at script place s) s) (begun_at script place xs) (begun_at script place ys))
begun_at-append script place (_ ∷ xs) ys = begun_at-append script place xs ys

pub record Slotted (script : Script) (t : Table) (marks : List Mark) (asked : ℕ → List SessionId) (asking : SessionId → Bool) : Type 0 where
  pub calls : List Call
  pub run : IsRun (fresh_slots script) calls
  pub is : t ≡ after (fresh_slots script) calls
  pub who_asks : (k : SessionId) → k.0 < length script.sessions → asks t k ≡ asking k
  pub who_holds : (k : SessionId) → k.0 < length script.sessions → holds t k ≡ list_any (is_of k) (open_in marks)
  pub holders : (place : ℕ) → (group_at t place).holders ≡ map session_in (filter (is_open_at script place) (open_in marks))
  pub known : Each (λ o. o.session.0 < length script.sessions) (open_in marks)
  pub order : (place : ℕ) → taken_by (fresh_slots script) place calls ≡ begun_at script place marks
  pub asked_so : (place : ℕ) → asked_by (fresh_slots script) place calls ≡ asked place

-- marks that neither begin nor end a transaction
pub slotted-same : (script : Script) (t : Table) (marks more : List Mark) (asked others : ℕ → List SessionId) (asking also : SessionId → Bool) → open_in more ≡ open_in marks → ((place : ℕ)
    → begun_at script place more ≡ begun_at script place marks)
    → ((place : ℕ) → others place ≡ asked place) → ((k : SessionId) → k.0 < length script.sessions → also k ≡ asking k) → Slotted script t marks asked asking → Slotted script t more others also
slotted-same script t marks more asked others asking also o b a w s = record {
  calls = s.calls;
  run = s.run;
  is = s.is;
  who_asks = λ k l. s.who_asks k l ∙ sym (w k l);
  who_holds = λ k l. s.who_holds k l ∙ ap (list_any (is_of k)) (sym o);
  holders = λ place. s.holders place ∙ ap (λ os. map session_in (filter (is_open_at script place) os)) (sym o);
  known = subst (Each (λ x. x.session.0 < length script.sessions)) (sym o) s.known;
  order = λ place. s.order place ∙ sym (b place);
  asked_so = λ place. s.asked_so place ∙ sym (a place);
}

module _ (script : Script) (t : Table) (marks : List Mark) (asked : ℕ → List SessionId) (asking : SessionId → Bool) (k : Slotted script t marks asked asking) where
  pub whole : Whole t
  whole = subst Whole (sym k.is) (whole-after (fresh_slots script) k.calls k.run (whole-new script))

  seated : (s : SessionId) (place : ℕ) → is_seated place (seat_of t s) ≡ is_at script place s
  seated s place = ap (λ x. is_seated place (seat_of x s)) k.is ∙ seated-after (fresh_slots script) k.calls s place

  told-asks : (calls : List Call) (s : SessionId) → IsRun (fresh_slots script) calls → s.0 < length script.sessions → asks (after (fresh_slots script) calls) s ≡ is_asking (standing_after s calls)
  told-asks calls s run l = asks-told (limits script) (places script) calls s (within script) run (known-at script s l)

  told-holds : (calls : List Call) (s : SessionId) → IsRun (fresh_slots script) calls → s.0 < length script.sessions → holds (after (fresh_slots script) calls) s ≡ is_holding (standing_after s calls)
  told-holds calls s run l = holds-told (limits script) (places script) calls s (within script) run (known-at script s l)

  was-asking : (s : SessionId) → s.0 < length script.sessions → is_asking (standing_after s k.calls) ≡ asking s
  was-asking s l = sym (told-asks k.calls s k.run l) ∙ ap (λ x. asks x s) (sym k.is) ∙ k.who_asks s l

  was-holding : (s : SessionId) → s.0 < length script.sessions → is_holding (standing_after s k.calls) ≡ list_any (is_of s) (open_in marks)
  was-holding s l = sym (told-holds k.calls s k.run l) ∙ ap (λ x. holds x s) (sym k.is) ∙ k.who_holds s l

  asking-if : (b : Bool) (x y : Standing) → is_asking (cond b x y) ≡ cond b (is_asking x) (is_asking y)
  asking-if true x y = refl
  asking-if false x y = refl

  holding-if : (b : Bool) (x y : Standing) → is_holding (cond b x y) ≡ cond b (is_holding x) (is_holding y)
  holding-if true x y = refl
  holding-if false x y = refl

  -- A SESSION ASKS
  module _ (s : SessionId) (there : s.0 < length script.sessions) (not-asking : asking s ≡ false) (no-slot : list_any (is_of s) (open_in marks) ≡ false) where
    abbrev ask-calls : List Call
    ask-calls = Ask s ∷ k.calls

    ask-run : IsRun (fresh_slots script) ask-calls
    ask-run = (k.run, (known-after, ap (λ x. asks x s) (sym k.is) ∙ k.who_asks s there ∙ not-asking, ap (λ x. holds x s) (sym k.is) ∙ k.who_holds s there ∙ no-slot))
      where
        known-after : is_known (after (fresh_slots script) k.calls) s ≡ true
        known-after = after-known script k.calls s ∙ known-at script s there

    ask-is : after_ask t s ≡ after (fresh_slots script) ask-calls
    ask-is = ap (λ x. after_ask x s) k.is

    or-if : (b c : Bool) → cond b true c ≡ (c || b)
    or-if true true = refl
    or-if true false = refl
    or-if false true = refl
    or-if false false = refl

    off-if : (b : Bool) (x : SessionId) → is x s ≡ b → x.0 < length script.sessions → cond b false (list_any (is_of x) (open_in marks)) ≡ list_any (is_of x) (open_in marks)
    off-if true x e l = sym (subst (λ y. list_any (is_of y) (open_in marks) ≡ false) (same-one x e) no-slot)
    off-if false x e l = refl

    pub slotted-ask : Slotted script (after_ask t s) marks (λ place. asked place ++ only_if (is_at script place s) s) (λ x. asking x || is x s)
    slotted-ask = record {
      calls = ask-calls;
      run = ask-run;
      is = ask-is;
      who_asks = λ x l. ap (λ y. asks y x) ask-is ∙ told-asks ask-calls x ask-run l ∙ asking-if (is x s) Asking (standing_after x k.calls) ∙ ap (cond (is x s) true) (was-asking x l) ∙ or-if (is x s) (asking x);
      who_holds = λ x l. ap (λ y. holds y x) ask-is ∙ told-holds ask-calls x ask-run l ∙ holding-if (is x s) Asking (standing_after x k.calls) ∙ ap (cond (is x s) false) (was-holding x l) ∙ off-if (is x s) x refl l;
      holders = λ place. holders-ask t s place whole ∙ k.holders place;
      known = k.known;
      order = k.order;
      asked_so = λ place. ap (λ xs. xs ++ only_if (is_at script place s) s) (k.asked_so place);
    }

  -- A SLOT IS TAKEN
  module _ (g : Gxid) (s : SessionId) (there : s.0 < length script.sessions) (free : may t s ≡ true) where
    abbrev take-calls : List Call
    take-calls = Take s ∷ k.calls

    take-run : IsRun (fresh_slots script) take-calls
    take-run = (k.run, subst (λ x. may x s ≡ true) k.is free)

    take-is : after_take t s ≡ after (fresh_slots script) take-calls
    take-is = ap (λ x. after_take x s) k.is

    abbrev opened : Opened
    opened = record { gxid = g; session = s }

    not-if : (b c : Bool) → cond b false c ≡ (c && not b)
    not-if true true = refl
    not-if true false = refl
    not-if false true = refl
    not-if false false = refl

    pub any-push : (x : SessionId) (os : List Opened) → list_any (is_of x) (os ++ opened ∷ []) ≡ cond (is x s) true (list_any (is_of x) os)
    any-push x [] = by_test (is x s)
      where
        by_test : (b : Bool) → (b || false) ≡ cond b true false
        by_test true = refl
        by_test false = refl
    any-push x (o ∷ os) = ap (λ b. is x o.session || b) (any-push x os) ∙ by_test (is x o.session) (is x s) (list_any (is_of x) os)
      where
        by_test : (a b c : Bool) → (a || cond b true c) ≡ cond b true (a || c)
        by_test true true c = refl
        by_test true false c = refl
        by_test false b c = refl

    map-push : (place : ℕ) (os : List Opened) → map session_in (filter (is_open_at script place) (os ++ opened ∷ [])) ≡ map session_in (filter (is_open_at script place) os) ++ only_if (is_at script place s) s
    map-push place [] = by_test (is_at script place s)
      where
        by_test : (b : Bool) → map session_in (cond b (opened ∷ []) []) ≡ only_if b s
        by_test true = refl
        by_test false = refl
    map-push place (o ∷ os) = by_test (is_at script place o.session) (map-push place os)
      where
        by_test : (b : Bool) → map session_in (filter (is_open_at script place) (os ++ opened ∷ [])) ≡ map session_in (filter (is_open_at script place) os) ++ only_if (is_at script place s) s
            → map session_in (cond b (o ∷ filter (is_open_at script place) (os ++ opened ∷ [])) (filter (is_open_at script place) (os ++ opened ∷ [])))
            ≡ map session_in (cond b (o ∷ filter (is_open_at script place) os) (filter (is_open_at script place) os)) ++ only_if (is_at script place s) s
        by_test true e = ap (λ xs. o.session ∷ xs) e
        by_test false e = e

    pub slotted-take : (more : List Mark) → open_in more ≡ open_in marks ++ opened ∷ [] → ((place : ℕ) → begun_at script place more ≡ begun_at script place marks ++ only_if (is_at script place s) s)
        → Slotted script (after_take t s) more asked (λ x. asking x && not (is x s))
    slotted-take more o b = record {
      calls = take-calls;
      run = take-run;
      is = take-is;
      who_asks = λ x l. ap (λ y. asks y x) take-is ∙ told-asks take-calls x take-run l ∙ asking-if (is x s) Holding (standing_after x k.calls) ∙ ap (cond (is x s) false) (was-asking x l) ∙ not-if (is x s) (asking x);
      who_holds = λ x l.
          ap (λ y. holds y x) take-is ∙ told-holds take-calls x take-run l ∙ holding-if (is x s) Holding (standing_after x k.calls) ∙ ap (cond (is x s) true) (was-holding x l)
          ∙ sym (ap (list_any (is_of x)) o ∙ any-push x (open_in marks));
      holders = λ place.
          holders-take t s place whole ∙ ap (λ r. r ++ only_if (is_seated place (seat_of t s)) s) (k.holders place) ∙ ap (λ z. map session_in (filter (is_open_at script place) (open_in marks)) ++ only_if z s) (seated s place)
          ∙ sym (ap (λ os. map session_in (filter (is_open_at script place) os)) o ∙ map-push place (open_in marks));
      known = subst (Each (λ x. x.session.0 < length script.sessions)) (sym o) (each-push (λ x. x.session.0 < length script.sessions) (open_in marks) opened k.known there);
      order = λ place. ap (λ xs. xs ++ only_if (is_at script place s) s) (k.order place) ∙ sym (b place);
      asked_so = k.asked_so;
    }

  -- A SLOT IS GIVEN BACK
  module _ (g : Gxid) (s : SessionId) (there : s.0 < length script.sessions) (slot : list_any (is_of s) (open_in marks) ≡ true) (not-asking : asking s ≡ false) (own : Each (λ o. is s o.session ≡ is_same_gxid o.gxid g) (open_in marks)) where
    abbrev give-calls : List Call
    give-calls = Give s ∷ k.calls

    holding : holds t s ≡ true
    holding = k.who_holds s there ∙ slot

    give-run : IsRun (fresh_slots script) give-calls
    give-run = (k.run, subst (λ x. holds x s ≡ true) k.is holding)

    give-is : after_give t s ≡ after (fresh_slots script) give-calls
    give-is = ap (λ x. after_give x s) k.is

    still-asking : (x : SessionId) (b : Bool) → is x s ≡ b → cond b false (asking x) ≡ asking x
    still-asking x true e = sym (subst (λ y. asking y ≡ false) (same-one x e) not-asking)
    still-asking x false e = refl

    any-one : (x : SessionId) (o : Opened) (a b c : Bool) (rest was : Bool) → is x s ≡ a → is s o.session ≡ b → is x o.session ≡ c → rest ≡ cond a false was → (cond (not b) (c || rest) rest) ≡ cond a false (c || was)
    any-one x o true true c rest was p q r e = e
    any-one x o true false true rest was p q r e = absurd (let h : is s o.session ≡ true = grind (arith, nat_tests) in cc)
    any-one x o true false false rest was p q r e = e
    any-one x o false true true rest was p q r e = absurd (let h : is x s ≡ true = grind (arith, nat_tests) in cc)
    any-one x o false true false rest was p q r e = e
    any-one x o false false c rest was p q r e = ap (λ z. c || z) e

    any-if : (x : SessionId) (o : Opened) (os : List Opened) (b : Bool) → list_any (is_of x) (cond (not b) (o ∷ os) os) ≡ cond (not b) (is x o.session || list_any (is_of x) os) (list_any (is_of x) os)
    any-if x o os true = refl
    any-if x o os false = refl

    pub any-left : (x : SessionId) (os : List Opened) → Each (λ o. is s o.session ≡ is_same_gxid o.gxid g) os → list_any (is_of x) (without g os) ≡ cond (is x s) false (list_any (is_of x) os)
    any-left x [] e = by_test (is x s)
      where
        by_test : (b : Bool) → false ≡ cond b false false
        by_test true = refl
        by_test false = refl
    any-left x (o ∷ os) e =
        any-if x o (without g os) (is_same_gxid o.gxid g)
        ∙ any-one x o (is x s) (is_same_gxid o.gxid g) (is x o.session) (list_any (is_of x) (without g os)) (list_any (is_of x) os) refl e.0 refl (any-left x os e.1)

    kept-one : (place : ℕ) (o : Opened) (os : List Opened) (a b c : Bool) → is_at script place s ≡ a → is s o.session ≡ b → is_at script place o.session ≡ c
        → map session_in (filter (is_open_at script place) (without g os)) ≡ cond a (without-session s (map session_in (filter (is_open_at script place) os))) (map session_in (filter (is_open_at script place) os))
        → map session_in (filter (is_open_at script place) (cond (not b) (o ∷ without g os) (without g os)))
        ≡ cond a (without-session s (map session_in (cond c (o ∷ filter (is_open_at script place) os) (filter (is_open_at script place) os)))) (map session_in (cond c (o ∷ filter (is_open_at script place) os) (filter
        (is_open_at script place) os)))
    kept-one place o os true true true p q r e = e
        ∙ sym (ap (λ z. cond (not z) (o.session ∷ without-session s (map session_in (filter (is_open_at script place) os))) (without-session s (map session_in (filter (is_open_at script place) os)))) q)
    kept-one place o os true true false p q r e = e
    kept-one place o os true false true p q r e =
        ap (λ z. map session_in (cond z (o ∷ filter (is_open_at script place) (without g os)) (filter (is_open_at script place) (without g os)))) r
        ∙ ap (λ xs. o.session ∷ xs) e
        ∙ sym (ap (λ z. cond (not z) (o.session ∷ without-session s (map session_in (filter (is_open_at script place) os))) (without-session s (map session_in (filter (is_open_at script place) os)))) q)
    kept-one place o os true false false p q r e = ap (λ z. map session_in (cond z (o ∷ filter (is_open_at script place) (without g os)) (filter (is_open_at script place) (without g os)))) r ∙ e
    kept-one place o os false true true p q r e = absurd (let h : is_at script place s ≡ is_at script place o.session = ap (is_at script place) (sym (same-one s q)) in cc)
    kept-one place o os false true false p q r e = e
    kept-one place o os false false true p q r e = ap (λ z. map session_in (cond z (o ∷ filter (is_open_at script place) (without g os)) (filter (is_open_at script place) (without g os)))) r ∙ ap (λ xs. o.session ∷ xs) e
    kept-one place o os false false false p q r e = ap (λ z. map session_in (cond z (o ∷ filter (is_open_at script place) (without g os)) (filter (is_open_at script place) (without g os)))) r ∙ e

    kept : (place : ℕ) (os : List Opened) → Each (λ o. is s o.session ≡ is_same_gxid o.gxid g) os
        → map session_in (filter (is_open_at script place) (without g os)) ≡ cond (is_at script place s) (without-session s (map session_in (filter (is_open_at script place) os))) (map session_in (filter (is_open_at script place) os))
    kept place [] e = by_test (is_at script place s)
      where
        by_test : (b : Bool) → [] ≡ cond b (without-session s []) []
        by_test true = refl
        by_test false = refl
    kept place (o ∷ os) e = kept-one place o os (is_at script place s) (is_same_gxid o.gxid g) (is_at script place o.session) refl e.0 refl (kept place os e.1)

    pub slotted-give : (more : List Mark) → open_in more ≡ without g (open_in marks) → ((place : ℕ) → begun_at script place more ≡ begun_at script place marks) → Slotted script (after_give t s) more asked asking
    slotted-give more o b = record {
      calls = give-calls;
      run = give-run;
      is = give-is;
      who_asks = λ x l. ap (λ y. asks y x) give-is ∙ told-asks give-calls x give-run l ∙ asking-if (is x s) Idle (standing_after x k.calls) ∙ ap (cond (is x s) false) (was-asking x l) ∙ still-asking x (is x s) refl;
      who_holds = λ x l.
          ap (λ y. holds y x) give-is ∙ told-holds give-calls x give-run l ∙ holding-if (is x s) Idle (standing_after x k.calls) ∙ ap (cond (is x s) false) (was-holding x l)
          ∙ sym (ap (list_any (is_of x)) o ∙ any-left x (open_in marks) own);
      holders = λ place.
          holders-give t s place whole
          ∙ ap (λ r. cond (is_seated place (seat_of t s)) (without-session s r) r) (k.holders place)
          ∙ ap (λ z. cond z (without-session s (map session_in (filter (is_open_at script place) (open_in marks)))) (map session_in (filter (is_open_at script place) (open_in marks)))) (seated s place)
          ∙ sym (ap (λ os. map session_in (filter (is_open_at script place) os)) o ∙ kept place (open_in marks) own);
      known = subst (Each (λ x. x.session.0 < length script.sessions)) (sym o) (each-left (λ x. x.session.0 < length script.sessions) g (open_in marks) k.known);
      order = λ place. k.order place ∙ sym (b place);
      asked_so = k.asked_so;
    }
