-- What holds of every run of the machine once no session is unfinished.
use Rattle.std.proofs.Common.{◌≡◌, ◌≤◌, ◌<◌, ℕ, ◌+◌, ◌==◌, List, [], ◌∷◌, Bool, true, false, refl, sym, subst, ap, ◌∙◌, if◌then◌else◌, ◌&&◌, ◌||◌, not, nat_lt, length, get_or, arith, All}
use Rattle.std.proofs.lemmas.Bool.{eqb-true}
use Rattle.std.proofs.lemmas.Bool.Decides.{nat_tests}
use Rattle.std.proofs.lemmas.List.Folds.{list_any_at}
use Rattle.std.proofs.lemmas.List.FromFn.{get_or-map-range_with_len, length-map-range_with_len}
use Rattle.gx_lemmas.proofs.Numbers.{le-of, lt-of}
use Rattle.gx_lemmas.proofs.Tests.{true-false}
use Rattle.gx_ids.specs.declared.ids.SessionId.{SessionId}
use Rattle.gx_script.specs.declared.Script.{Script}
use Rattle.gx_store.specs.declared.event.Event.{Event}
use Rattle.gx_store.specs.declared.mark.Mark.{Mark}
use Rattle.gx_store.specs.declared.mark.Mark.TheVariants as mark
use Rattle.gx_store.specs.Legal as legal
use Rattle.gx_store.specs.Lines.{BlockState, Outside, line_count, state_after_line, state_from, stmt_of}
use Rattle.gx_store.specs.Marks.{answer_count, start_count}
use Rattle.gx_store.specs.Points.{marks_in, starts_in}
use Rattle.gx_rules.specs.Coordinators.{Coord}
use Rattle.gx_rules.specs.Machine.{World, world_of}
use Rattle.gx_law_order.proofs.World.{world_knows}
use Rattle.gx_store.specs.Language.{AreLinesNumbered}
use Rattle.gx_law_order.proofs.Legality.{events-legal, sessions-stand, world-holds}
use Rattle.gx_law_runs.specs.Replays.{coordinator_after}
use Rattle.gx_law_runs.proofs.Replaying.{world-replayed}
use Rattle.gx_rules.specs.AtCoordinator.{is_unfinished_there}
use Rattle.gx_store.specs.Schedule.{is_any_unfinished, is_unfinished, sessions_of}
use Rattle.gx_law_runs.specs.Endings.{IsFinished}
use Rattle.gx_law_runs.proofs.Alike.{answers-room, closed-if, unfinished-alike}
use Rattle.gx_law_runs.proofs.Lines.{line_count-past}
use Rattle.gx_law_runs.proofs.Running.{all-ended}
use Rattle.gx_law_runs.proofs.Started.{starts-counted, starts-room}

-- a session without an answer stands where it stood
unanswered-stays : (script : Script) (k : SessionId) (b : BlockState) (ms : List Mark) → answer_count k ms ≡ 0 → state_from script k b ms ≡ b
unanswered-stays script k b [] e = refl
unanswered-stays script k b (mark.Answer s n a ∷ ms) e = by_test (s.0 == k.0) e (unanswered-stays script k b ms)
  where
    by_test : (t : Bool) → (if t then answer_count k ms + 1 else answer_count k ms) ≡ 0 → (answer_count k ms ≡ 0 → state_from script k b ms ≡ b) → state_from script k (if t then state_after_line b (stmt_of k n script.lines) a else b) ms ≡ b
    by_test true e rest = absurd (more (answer_count k ms) e)
      where
        more : (n : ℕ) → n + 1 ≡ 0 → ⊥
        more n e = omega (arith, e)
    by_test false e rest = rest e
unanswered-stays script k b (m ∷ ms) e = unanswered-stays script k b ms e

module _ (script : Script) (some : 1 ≤ script.segments) where
  pub room : (k : SessionId) (es : List (Event × Bool)) → (answer_count k (marks_in (world_of script es).steps) ≤ starts_in k (world_of script es).steps) × (starts_in k (world_of script es).steps ≤ length (world_of script es).steps)
  room k es = (answers-room script k (world_of script es).steps (world_of script es).coord (sessions-stand script some es k), starts-room k (world_of script es).steps)

  module _ (numbered : AreLinesNumbered [] script.lines) where
    started : (k : SessionId) (es : List (Event × Bool)) → starts_in k (world_of script es).steps ≤ line_count k script.lines
    started k es = starts-counted script numbered k [] (world_of script es).steps (events-legal script some es) (omega arith)

    pub alike : (k : SessionId) (es : List (Event × Bool)) → is_unfinished script (world_of script es).steps k ≡ is_unfinished_there script (world_of script es).coord k
    alike k es = unfinished-alike script k (world_of script es).steps (world_of script es).coord (sessions-stand script some es k) numbered (started k es)

    pub replayed-alike : (k : SessionId) (es : List (Event × Bool)) → is_unfinished script (world_of script es).steps k ≡ is_unfinished_there script (coordinator_after script (world_of script es).steps) k
    replayed-alike k es = alike k es ∙ ap (λ (c : Coord). is_unfinished_there script c k) (world-replayed script es).coordinator

    -- of a session that the script lacks nothing starts
    pub beyond-finished : All (λ line. line.session.0 < length script.sessions) script.lines → (es : List (Event × Bool)) (k : SessionId) → length script.sessions ≤ k.0 → is_unfinished script (world_of script es).steps k ≡ false
    beyond-finished inside es k past =
        nothing (answer_count k (marks_in (world_of script es).steps)) (line_count k script.lines) _ _ unanswered none (ap legal.is_in_block (unanswered-stays script k Outside (marks_in (world_of script es).steps) unanswered))
      where
        nothing : (a t : ℕ) (x y : Bool) → a ≡ 0 → t ≡ 0 → x ≡ false → (not (a == t) || (x && y)) ≡ false
        nothing a t x y e f q = grind (arith, nat_tests)

        none : line_count k script.lines ≡ 0
        none = line_count-past k (length script.sessions) script.lines inside past

        unanswered : answer_count k (marks_in (world_of script es).steps) ≡ 0
        unanswered = omega (arith, (room k es).0, started k es, none)

    module _ (inside : All (λ line. line.session.0 < length script.sessions) script.lines) (es : List (Event × Bool)) (over : is_any_unfinished script (world_of script es).steps ≡ false) where
      abbrev w : World
      w = world_of script es

      abbrev count : ℕ
      count = length script.sessions

      among-finished : (k : SessionId) → k.0 < count → is_unfinished script w.steps k ≡ false
      among-finished k l = by_test (is_unfinished script w.steps k) refl
        where
          at : get_or (sessions_of script) k.0 k ≡ k
          at = get_or-map-range_with_len (λ n. let x : SessionId = record { 0 = n } in x) 0 count k.0 k.0 k l (omega arith)

          found : is_unfinished script w.steps k ≡ true → is_any_unfinished script w.steps ≡ true
          found e =
              list_any_at (is_unfinished script w.steps) (sessions_of script) k.0 k
              (subst (λ n. k.0 < n) (sym (length-map-range_with_len (λ n. let x : SessionId = record { 0 = n } in x) 0 count)) l) (ap (is_unfinished script w.steps) at ∙ e)

          by_test : (b : Bool) → is_unfinished script w.steps k ≡ b → b ≡ false
          by_test true e = absurd (true-false (is_any_unfinished script w.steps) (found e) over)
          by_test false e = refl

      finished : (k : SessionId) → is_unfinished script w.steps k ≡ false
      finished k = by_test (nat_lt k.0 count) refl
        where
          by_test : (b : Bool) → nat_lt k.0 count ≡ b → is_unfinished script w.steps k ≡ false
          by_test true e = among-finished k (lt-of k.0 count e)
          by_test false e = beyond-finished inside es k (le-of k.0 count e)

      all-answered : (k : SessionId) → answer_count k (marks_in w.steps) ≡ line_count k script.lines
      all-answered k = eqb-true (answer_count k (marks_in w.steps)) (line_count k script.lines) (same _ _ (finished k))
        where
          same : (t x : Bool) → (not t || x) ≡ false → t ≡ true
          same t x e = grind arith

      drawn : (g : ℕ) → g ≤ start_count (marks_in w.steps) → g < w.coord.table.next.0
      drawn g l = omega (arith, l, (world-holds script some es).numbers)

      pub whole : IsFinished script (record { steps = (world_of script es).steps })
      whole =
          record {
            whole = all-answered;
            closed = λ k. closed-if script k w.steps w.coord (sessions-stand script some es k) (finished k);
            ended = λ g one l. all-ended script w.coord (marks_in w.steps) (world_knows script some es).kept (world_knows script some es).past (λ s. sym (alike s es) ∙ finished s) g.0 one (drawn g.0 l);
          }
