-- A tally behind one more mark, and behind one more step.
use Rattle.std.proofs.Common.{◌≡◌, ◌≢◌, ◌∙◌, ◌⊎◌, ◌≤◌, ◌<◌, ◌+◌, ◌^◌, ◌++◌, ◌||◌, ◌==◌, if◌then◌else◌, ℕ, zero, suc, eqb, Bool, true, false, List, [], ◌∷◌, Some, None}
use Rattle.std.proofs.Common.{inl, inr, length, take, get_or, slice_get, slice_set, refl, sym, subst, ap, arith, append_assoc}
use Rattle.std.specs.BTreeMap.{get}
use Rattle.std.specs.BTreeSet.{contains}
use Rattle.gx_dsnap.specs.Gxids.{gxid_cmp}
use Rattle.gx_ids.specs.declared.ids.Gxid.{Gxid}
use Rattle.gx_ids.specs.declared.ids.SessionId.{SessionId}
use Rattle.gx_lemmas.proofs.Lists.{get-set, get-set-other, length-push, place-below}
use Rattle.gx_lemmas.proofs.Numbers.{eqb-of, eqb-self}
use Rattle.gx_lemmas.proofs.Options.{some-same}
use Rattle.gx_lemmas.proofs.Tests.{true-false}
use Rattle.std.proofs.lemmas.Bool.{eqb-true}
use Rattle.std.proofs.lemmas.Bool.Decides.{nat_tests}
use Rattle.std.proofs.lemmas.Option.{get_or_from_slice_get, slice_get_read}
use Rattle.gx_script.specs.declared.Script.{Script}
use Rattle.gx_store.specs.declared.event.Event.{Event}
use Rattle.gx_store.specs.declared.event.Event.TheVariants as event
use Rattle.gx_store.specs.declared.mark.Mark.{Mark}
use Rattle.gx_store.specs.declared.mark.Mark.TheVariants.{Answer, Start}
use Rattle.gx_store.specs.declared.run.Step.{Step}
use Rattle.gx_store.specs.Lines as lines
use Rattle.gx_store.specs.Lines.{state_after_line, state_from, stmt_of}
use Rattle.gx_store.specs.Marks.{answer_count, is_aborted, is_begun_after, is_committed, is_ended, is_same_session, start_count, started_after}
use Rattle.gx_store.specs.Points.{ends_by, ends_in, marks_in, starts_by, starts_in}
use Rattle.gx_store.proofs.Lines.{state_from-append}
use Rattle.gx_store.proofs.Marks.{answer_count-append, is_aborted-append, is_begun_after-append, is_committed-append, started_after-append}
use Rattle.gx_store.proofs.Runs.{ends_in-push, marks_in-push, starts_in-push}
use Rattle.gx_legal.proofs.MarkPlaces.{take-next}
use Rattle.gx_legal.specs.declared.standing.Block.TheVariants as block
use Rattle.gx_legal.specs.declared.standing.Standing.{Standing}
use Rattle.gx_legal.specs.declared.tally.Seat.{Seat}
use Rattle.gx_legal.specs.declared.tally.Tally.{Tally}
use Rattle.gx_legal.proofs.OwnRows.{first-next}
use Rattle.gx_legal.specs.Own.{AreFirsts, IsFirst, first_with}
use Rattle.gx_legal.specs.Standings.{IsMoved, state_in}
use Rattle.gx_legal.specs.Tallies.{AreSeats, CanCount, CanMove, CanStep, HasEndedIn, IsCounted, IsSeat, IsSeatMoved, IsSeatStepped, IsStepped, IsTally, IsUnmoved, mover}

-- SEATS
get-push : {A : Type 0} (xs : List A) (y : A) (i : ℕ) (x : A) → slice_get (xs ++ y ∷ []) i ≡ Some x → (slice_get xs i ≡ Some x) ⊎ (x ≡ y)
get-push [] y zero x e = inr (sym (some-same y x e))
get-push [] y (suc i) x e = absurd (cc)
get-push (z ∷ zs) y zero x e = inl e
get-push (z ∷ zs) y (suc i) x e = get-push zs y i x e

pub first-seat : (script : Script) (session : SessionId) (standing : Standing) → standing ≡ record { block = block.Outside; begun = false; started = None; answered = 0 }
    → IsSeat script session [] [] (record { standing = standing; started = 0; ended = 0 })
first-seat script session standing e = subst (λ (s : Standing). IsSeat script session [] [] (record { standing = s; started = 0; ended = 0 })) (sym e) (record {
  standing = record { state = refl; begun = refl; started = refl; answered = refl };
  answers = omega arith;
  commands = omega arith;
  started = refl;
  ended = refl;
})

pub seats-push : (script : Script) (seats : List Seat) (seat : Seat) → AreSeats script [] [] seats → ((session : SessionId) → IsSeat script session [] [] seat) → AreSeats script [] [] (seats ++ seat ∷ [])
seats-push script seats seat are is session found e = by_place (get-push seats seat session.0 found e)
  where
    by_place : (slice_get seats session.0 ≡ Some found) ⊎ (found ≡ seat) → IsSeat script session [] [] found
    by_place (inl at) = are session found at
    by_place (inr same) = subst (λ (s : Seat). IsSeat script session [] [] s) (sym same) (is session)

pub seat-at : (seats slice : List Seat) (place : ℕ) (seat : Seat) → slice ≡ seats → place < length slice → seat ≡ get_or slice place seat → slice_get seats place ≡ Some seat
seat-at seats slice place seat same inside is = subst (λ (l : List Seat). slice_get l place ≡ Some seat) same (slice_get_read slice (length slice) place seat refl inside is)

-- one seat changes, and the others stay
module _ (P : SessionId → Seat → Seat → Type 0) (seats : List Seat) (s : SessionId) (others : (other : SessionId) (seat : Seat) → other.0 ≢ s.0 → P other seat seat) where
  apart : (session : SessionId) → eqb session.0 s.0 ≡ false → session.0 ≢ s.0
  apart session e same = true-false (eqb session.0 s.0) (eqb-of session.0 s.0 same) e

  pub seats-set : (was new : Seat) → slice_get seats s.0 ≡ Some was → P s was new → (session : SessionId) (seat : Seat) → slice_get (slice_set seats s.0 new) session.0 ≡ Some seat
      → (x : Seat) × (slice_get seats session.0 ≡ Some x) × P session x seat
  seats-set was new at here session seat e = by_test (eqb session.0 s.0) refl
    where
      by_test : (b : Bool) → eqb session.0 s.0 ≡ b → (x : Seat) × (slice_get seats session.0 ≡ Some x) × P session x seat
      by_test true same =
          let n : session.0 ≡ s.0 = eqb-true session.0 s.0 same in
          let is : new ≡ seat = some-same new seat (sym (get-set seats s.0 was new at) ∙ ap (slice_get (slice_set seats s.0 new)) (sym n) ∙ e) in
          (was, ap (slice_get seats) n ∙ at, subst (λ (k : ℕ). P (record { 0 = k }) was seat) (sym n) (subst (λ (x : Seat). P s was x) is here))
      by_test false other = (seat, sym (get-set-other seats s.0 session.0 new (apart session other)) ∙ e, others session seat (apart session other))

  pub seats-kept : length seats ≤ s.0 → (session : SessionId) (seat : Seat) → slice_get seats session.0 ≡ Some seat → (x : Seat) × (slice_get seats session.0 ≡ Some x) × P session x seat
  seats-kept past session seat e = (
    seat,
    e,
    others session seat (λ same. let inside : session.0 < length seats = place-below seats session.0 seat e in absurd (omega (arith, same, inside, past))),
  )

-- ENDS
or-more : (a b x y : Bool) → (a || b) ≡ true → ((a || x) || (b || y)) ≡ true
or-more true b x y e = refl
or-more false true true y e = refl
or-more false true false y e = refl
or-more false false x y e = absurd (cc)

below-next : (a n next : ℕ) → next ≤ n + 1 → a < next → (a == n) ≡ false → a < n
below-next a n next few below other = grind (arith, nat_tests)

pub next-ended : (tally : Tally) (n next : ℕ) → next ≤ n + 1 → HasEndedIn tally (record { 0 = n }) → (g : Gxid) → g.0 < next → (g.0 < n) ⊎ HasEndedIn tally g
next-ended tally n next few ended g below = by_test (g.0 == n) refl
  where
    by_test : (b : Bool) → (g.0 == n) ≡ b → (g.0 < n) ⊎ HasEndedIn tally g
    by_test true same = inr (subst (λ (k : ℕ). HasEndedIn tally (record { 0 = k })) (sym (eqb-true g.0 n same)) ended)
    by_test false other = inl (below-next g.0 n next few below other)

pub either-on : {A B C : Type 0} → (A → B ⊎ C) → A ⊎ C → B ⊎ C
either-on f (inl a) = f a
either-on f (inr c) = inr c

-- STARTS
starts-append : (xs ys : List Mark) → start_count (xs ++ ys) ≡ start_count xs + start_count ys
starts-append [] ys = omega arith
starts-append (Start g s ∷ xs) ys = omega (arith, starts-append xs ys)
starts-append (_ ∷ xs) ys = starts-append xs ys

pub starts-fit : (ms : List Mark) → start_count ms ≤ length ms
starts-fit [] = omega arith
starts-fit (Start g s ∷ ms) = omega (arith, starts-fit ms)
starts-fit (_ ∷ ms) = omega (arith, starts-fit ms)

not-same : (s session other : SessionId) → s ≡ session → other.0 ≢ session.0 → is_same_session s other ≡ false
not-same s session other e ne = by_test (is_same_session s other) refl
  where
    by_test : (b : Bool) → is_same_session s other ≡ b → b ≡ false
    by_test true t = absurd (ne (sym (eqb-true s.0 other.0 t) ∙ ap (λ (x : SessionId). x.0) e))
    by_test false t = refl

-- A LINE STARTS, A SESSION ENDS
module _ (s : SessionId) where
  pub start-here : (seat : Seat) → IsSeatStepped s (event.Start s) seat (record { standing = seat.standing; started = seat.started + 1; ended = seat.ended })
  start-here seat = let one : starts_by s (event.Start s) ≡ 1 = ap (λ b. if b then 1 else 0) (eqb-self s.0) in record { standing = refl; started = omega (arith, one); ended = omega arith }

  pub start-elsewhere : (other : SessionId) (seat : Seat) → other.0 ≢ s.0 → IsSeatStepped other (event.Start s) seat seat
  start-elsewhere other seat ne =
      let none : starts_by other (event.Start s) ≡ 0 = ap (λ b. if b then 1 else 0) (not-same s s other refl ne) in
      record { standing = refl; started = omega (arith, none); ended = omega arith }

  pub end-here : (seat : Seat) → IsSeatStepped s (event.End s) seat (record { standing = seat.standing; started = seat.started; ended = seat.ended + 1 })
  end-here seat = let one : ends_by s (event.End s) ≡ 1 = ap (λ b. if b then 1 else 0) (eqb-self s.0) in record { standing = refl; started = omega arith; ended = omega (arith, one) }

  pub end-elsewhere : (other : SessionId) (seat : Seat) → other.0 ≢ s.0 → IsSeatStepped other (event.End s) seat seat
  end-elsewhere other seat ne =
      let none : ends_by other (event.End s) ≡ 0 = ap (λ b. if b then 1 else 0) (not-same s s other refl ne) in
      record { standing = refl; started = omega arith; ended = omega (arith, none) }

-- ONE MORE MARK
module _ (script : Script) where
  pub unmoved : (mark : Mark) (session : SessionId) → mover mark ≡ Some session → IsUnmoved script mark session
  unmoved (Start g s) session e other standing ne =
      let f = not-same s session other (some-same s session e) ne in
      record { state = refl; begun = sym (ap (λ b. b || standing.begun) f); started = sym (ap (λ b. if b then Some g else standing.started) f); answered = omega arith }
  unmoved (Answer s number reply) session e other standing ne =
      let f = not-same s session other (some-same s session e) ne in
      let none : answer_count other (Answer s number reply ∷ []) ≡ 0 = ap (λ b. if b then 0 + 1 else 0) f in
      record {
        state = sym (ap (λ b. if b then state_after_line (state_in standing.block) (stmt_of other number script.lines) reply else state_in standing.block) f);
        begun = sym (ap (λ b. if b then false else standing.begun) f);
        started = refl;
        answered = omega (arith, none);
      }
  unmoved _ session e other standing ne = absurd (cc)

  module _ (mark : Mark) where
    pub seat-stays : (session : SessionId) (seat : Seat) → IsMoved script session seat.standing (mark ∷ []) seat.standing → IsSeatMoved script session mark seat seat
    seat-stays session seat is = record { moved = is; room = record { commands = omega arith; answers = omega arith }; started = refl; ended = refl }

    seat-next : (session : SessionId) (steps : List Step) (marks : List Mark) (was new : Seat) → IsSeat script session steps marks was → IsSeatMoved script session mark was new
        → IsSeat script session steps (marks ++ mark ∷ []) new
    seat-next session steps marks was new is m = record {
      standing = record {
        state = m.moved.state ∙ ap (λ s. state_from script session s (mark ∷ [])) is.standing.state ∙ sym (state_from-append script session lines.Outside marks (mark ∷ []));
        begun = m.moved.begun ∙ ap (λ b. is_begun_after session b (mark ∷ [])) is.standing.begun ∙ sym (is_begun_after-append session false marks (mark ∷ []));
        started = m.moved.started ∙ ap (λ g. started_after session g (mark ∷ [])) is.standing.started ∙ sym (started_after-append session None marks (mark ∷ []));
        answered = omega (arith, m.moved.answered, is.standing.answered, answer_count-append session marks (mark ∷ []));
      };
      answers = omega (arith, is.answers, m.room.answers, length-push marks mark);
      commands = omega (arith, is.commands, m.room.commands, length-push marks mark);
      started = m.started ∙ is.started;
      ended = m.ended ∙ is.ended;
    }

    -- who has ended by then, and at one mark more
    kept-in : (marks : List Mark) (new : Tally) (g : Gxid) → contains gxid_cmp new.committed g ≡ is_committed marks g → contains gxid_cmp new.aborted g ≡ is_aborted marks g
        → HasEndedIn new g → is_ended marks g ≡ true
    kept-in marks new g c a h = sym (ap (λ b. b || contains gxid_cmp new.aborted g) c ∙ ap (λ b. is_committed marks g || b) a) ∙ h

    ended-still : (marks : List Mark) (g : Gxid) → is_ended marks g ≡ true → is_ended (marks ++ mark ∷ []) g ≡ true
    ended-still marks g e =
        ap (λ b. b || is_aborted (marks ++ mark ∷ []) g) (is_committed-append marks (mark ∷ []) g) ∙ ap (λ b. (is_committed marks g || is_committed (mark ∷ []) g) || b) (is_aborted-append marks (mark ∷ []) g)
        ∙ or-more (is_committed marks g) (is_aborted marks g) (is_committed (mark ∷ []) g) (is_aborted (mark ∷ []) g) e

    pub tally-next : (steps : List Step) (marks : List Mark) (old new : Tally) → IsTally script steps marks old → IsCounted script mark old new → IsTally script steps (marks ++ mark ∷ []) new
    tally-next steps marks old new is m = record {
      seats = λ session seat e. let was = m.seats session seat e in seat-next session steps marks was.0 seat (is.seats session was.0 was.1) was.2;
      committed = λ g. m.committed g ∙ ap (λ b. b || is_committed (mark ∷ []) g) (is.committed g) ∙ sym (is_committed-append marks (mark ∷ []) g);
      aborted = λ g. m.aborted g ∙ ap (λ b. b || is_aborted (mark ∷ []) g) (is.aborted g) ∙ sym (is_aborted-append marks (mark ∷ []) g);
      unsettled = λ g one below. elim (m.unsettled g below) [
        | inl before ↦ ended-still marks g (is.unsettled g one before)
        | inr ended ↦ kept-in (marks ++ mark ∷ []) new g (m.committed g ∙ ap (λ b. b || is_committed (mark ∷ []) g) (is.committed g) ∙ sym (is_committed-append marks (mark ∷ []) g))
            (m.aborted g ∙ ap (λ b. b || is_aborted (mark ∷ []) g) (is.aborted g) ∙ sym (is_aborted-append marks (mark ∷ []) g)) ended
      ];
      count = omega (arith, m.count, is.count, length-push marks mark);
      starts = omega (arith, m.starts, is.starts, starts-append marks (mark ∷ []));
      firsts = λ g. subst (IsFirst g (marks ++ mark ∷ [])) (ap (λ n. first_with g mark n (get gxid_cmp old.firsts g)) (sym is.count) ∙ sym (m.firsts g)) (first-next g marks mark (get gxid_cmp old.firsts g) (is.firsts g));
    }

  pub tally-through : (steps : List Step) (before marks : List Mark) (k : ℕ) (mark : Mark) (old new : Tally) → slice_get marks k ≡ Some mark → IsTally script steps (before ++ take k marks) old
      → IsCounted script mark old new
      → IsTally script steps (before ++ take (k + 1) marks) new
  tally-through steps before marks k mark old new at is m =
      subst (λ ms. IsTally script steps ms new) (append_assoc before (take k marks) (mark ∷ []) ∙ ap (λ ms. before ++ ms) (take-next marks k mark (place-below marks k mark at) (sym (get_or_from_slice_get marks k mark mark at))))
      (tally-next mark steps (before ++ take k marks) old new is m)

  -- ONE MORE STEP
  module _ (step : Step) where
    seat-step : (session : SessionId) (steps : List Step) (marks : List Mark) (was new : Seat) → IsSeat script session steps marks was → IsSeatStepped session step.event was new
        → IsSeat script session (steps ++ step ∷ []) marks new
    seat-step session steps marks was new is m = subst (λ (s : Standing). IsSeat script session (steps ++ step ∷ []) marks (record { standing = s; started = new.started; ended = new.ended })) (sym m.standing) (record {
      standing = is.standing;
      answers = is.answers;
      commands = is.commands;
      started = m.started ∙ ap (λ n. n + starts_by session step.event) is.started ∙ sym (starts_in-push session steps step);
      ended = m.ended ∙ ap (λ n. n + ends_by session step.event) is.ended ∙ sym (ends_in-push session steps step);
    })

    tally-step : (steps : List Step) (marks : List Mark) (old new : Tally) → IsTally script steps marks old → IsStepped step.event old new → IsTally script (steps ++ step ∷ []) marks new
    tally-step steps marks old new is m = record {
      seats = λ session seat e. let was = m.seats session seat e in seat-step session steps marks was.0 seat (is.seats session was.0 was.1) was.2;
      committed = λ g. ap (λ s. contains gxid_cmp s g) m.committed ∙ is.committed g;
      aborted = λ g. ap (λ s. contains gxid_cmp s g) m.aborted ∙ is.aborted g;
      count = m.count ∙ is.count;
      starts = m.starts ∙ is.starts;
      firsts = subst (AreFirsts marks) (sym m.firsts) is.firsts;
      unsettled = λ g one below. is.unsettled g one (omega (arith, m.unsettled, below));
    }

    pub tally-steps : (steps : List Step) (k : ℕ) (old new : Tally) → slice_get steps k ≡ Some step → IsTally script (take k steps) (marks_in (take k steps) ++ step.marks) old
        → IsStepped step.event old new
        → IsTally script (take (k + 1) steps) (marks_in (take (k + 1) steps)) new
    tally-steps steps k old new at is m =
        let next : take k steps ++ step ∷ [] ≡ take (k + 1) steps = take-next steps k step (place-below steps k step at) (sym (get_or_from_slice_get steps k step step at)) in
        subst (λ ss. IsTally script ss (marks_in ss) new) next
        (subst (λ ms. IsTally script (take k steps ++ step ∷ []) ms new) (sym (marks_in-push (take k steps) step)) (tally-step (take k steps) (marks_in (take k steps) ++ step.marks) old new is m))

  -- ROOM
  starts-one : (session : SessionId) (e : Event) → starts_by session e ≤ 1
  starts-one session (event.Start s) = by_test (is_same_session s session)
    where
      by_test : (b : Bool) → (if b then 1 else 0) ≤ 1
      by_test true = omega arith
      by_test false = omega arith
  starts-one session _ = omega arith

  ends-one : (session : SessionId) (e : Event) → ends_by session e ≤ 1
  ends-one session (event.End s) = by_test (is_same_session s session)
    where
      by_test : (b : Bool) → (if b then 1 else 0) ≤ 1
      by_test true = omega arith
      by_test false = omega arith
  ends-one session _ = omega arith

  starts-inside : (session : SessionId) (steps : List Step) → starts_in session steps ≤ length steps
  starts-inside session [] = omega arith
  starts-inside session (s ∷ ss) = omega (arith, starts-one session s.event, starts-inside session ss)

  ends-inside : (session : SessionId) (steps : List Step) → ends_in session steps ≤ length steps
  ends-inside session [] = omega arith
  ends-inside session (s ∷ ss) = omega (arith, ends-one session s.event, ends-inside session ss)

  module _ (steps : List Step) (marks : List Mark) (tally : Tally) (is : IsTally script steps marks tally) where
    can-move : length marks + 1 < 2 ^ 64 → CanMove tally.seats.items
    can-move room session seat e = let s = is.seats session seat e in (omega (arith, s.commands, room), omega (arith, s.answers, room))

    pub can-count : length marks + 1 < 2 ^ 64 → CanCount tally
    can-count room = (can-move room, omega (arith, is.count, room), let few = starts-fit marks in omega (arith, is.starts, few, room))

    pub can-step : length steps + 1 < 2 ^ 64 → CanStep tally.seats.items
    can-step room session seat e =
        let s = is.seats session seat e in
        let starts = starts-inside session steps in
        let ends = ends-inside session steps in
        (omega (arith, s.started, starts, room), omega (arith, s.ended, ends, room))
