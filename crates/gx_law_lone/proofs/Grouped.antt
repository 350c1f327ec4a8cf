-- Resource groups hold up nothing but lines that open a transaction, each until something other than a round is done.
use Rattle.std.proofs.Common.{◌≡◌, ◌≤◌, ◌<◌, ℕ, ◌+◌, List, [], ◌∷◌, ◌++◌, Option, Some, None, Bool, true, false, not, refl, sym, subst, ap, ◌∙◌, if◌then◌else◌, cond, ◌&&◌, ◌||◌, ◌==◌, length, All, Contains, append_assoc, append-nil}
use Rattle.std.proofs.lemmas.Bool.{and_parts}
use Rattle.std.proofs.lemmas.List.Elements.{All-head, All-tail}
use Rattle.std.specs.List.{flat_map, list_all, list_any, range_with_len}
use Rattle.std.specs.Prelude.{filter, is_some, map, take}
use Rattle.gx_lemmas.proofs.Tests.{true-false}
use Rattle.gx_groups.specs.Table.{Table, asks, is_held_up, may}
use Rattle.gx_ids.specs.declared.ids.Gxid.{Gxid}
use Rattle.gx_ids.specs.declared.ids.Node.{Node}
use Rattle.gx_ids.specs.declared.ids.SessionId.{SessionId}
use Rattle.gx_tree.specs.declared.stmt.Stmt.{Stmt}
use Rattle.gx_script.specs.declared.Line.{Line}
use Rattle.gx_script.specs.declared.Script.{Script}
use Rattle.gx_store.specs.Groups.{AreLetBehind, AreStartsLet, all_asking, asks_in, draws_next, is_to_open, lets, slots_after, slots_behind, slots_from, slots_through}
use Rattle.gx_store.specs.Legal.{draws, is_in_block}
use Rattle.gx_store.specs.Lines.{BlockState, Failed, InBlock, Outside, next_stmt, state_of}
use Rattle.gx_store.specs.Marks.{is_answered}
use Rattle.gx_store.specs.Ordered.{sent_in}
use Rattle.gx_store.specs.Points.{marks_in}
use Rattle.gx_store.specs.Refusals.{the_coordinator}
use Rattle.gx_store.specs.Schedule.{at_segment, enabled, ends, first_of, gxids_of, is_any_wait, is_graph_awaited, is_idle, is_next, is_quiet, is_round_running, is_to_end, left_on, may_resend, resends, resumptions, rounds, segments_of, sessions_of, starts}
use Rattle.gx_store.specs.declared.event.Event.{Event}
use Rattle.gx_store.specs.declared.event.Event.TheVariants as event
use Rattle.gx_store.specs.declared.mark.Mark.{Mark}
use Rattle.gx_store.specs.declared.mark.Mark.TheVariants as mark
use Rattle.gx_store.specs.declared.opened.Opened.{Opened}
use Rattle.gx_store.specs.declared.run.Step.{Step}
use Rattle.gx_waits.proofs.Members.{Has, has_from_contains}
use Rattle.gx_law_order.proofs.Lists.{each_append, each_filter, each_flat, each_map}
use Rattle.gx_law_order.specs.Lists.{Each}
use Rattle.gx_law_locks.proofs.Claims.{each-of}
use Rattle.gx_law_runs.specs.Openings.{is_opening}
use Rattle.gx_law_runs.specs.Reached.{IsReached}
use Rattle.gx_law_lone.specs.Grouped.{DoAskersOpen}
use Rattle.gx_law_lone.specs.Victims.{AreLet, HoldsUpOpenings, is_of_none, let_in}
use Rattle.gx_law_lone.proofs.Choices.{each-has, filter-has}

-- SLOTS STAY
slots-last : (script : Script) (before : List Step) (t : Table) (ss : List Step) (s : Step) → slots_from script before t (ss ++ s ∷ []) ≡ slots_behind script (before ++ ss) (slots_from script before t ss) s
slots-last script before t [] s = ap (λ b. slots_behind script b t s) (sym (append-nil before))
slots-last script before t (x ∷ ss) s = slots-last script (before ++ x ∷ []) (slots_behind script before t x) ss s ∙ ap (λ b. slots_behind script b (slots_from script (before ++ x ∷ []) (slots_behind script before t x) ss) s) (append_assoc before (x ∷ []) ss)

through-none : (o : List Opened) (t : Table) (ms : List Mark) → list_all is_of_none ms ≡ true → slots_through o t ms ≡ t
through-none o t [] e = refl
through-none o t (x ∷ ms) e = by_mark x (and_parts (is_of_none x) (list_all is_of_none ms) e).0 (through-none o t ms (and_parts (is_of_none x) (list_all is_of_none ms) e).1)
  where
    by_mark : (m : Mark) → is_of_none m ≡ true → slots_through o t ms ≡ t → slots_through o t (m ∷ ms) ≡ t
    by_mark (mark.Start g s) f h = absurd (cc)
    by_mark (mark.Commit g) f h = absurd (cc)
    by_mark (mark.Abort g) f h = absurd (cc)
    by_mark m f g = g

unanswered : (s : SessionId) (ms : List Mark) → list_all is_of_none ms ≡ true → is_answered s ms ≡ false
unanswered s [] e = refl
unanswered s (x ∷ ms) e = by_mark x (and_parts (is_of_none x) (list_all is_of_none ms) e).0 (unanswered s ms (and_parts (is_of_none x) (list_all is_of_none ms) e).1)
  where
    by_mark : (m : Mark) → is_of_none m ≡ true → is_answered s ms ≡ false → is_answered s (m ∷ ms) ≡ false
    by_mark (mark.Answer k n a) f g = absurd (cc)
    by_mark m f g = g

none-asks : (script : Script) (steps : List Step) (step : Step) → list_all is_of_none step.marks ≡ true → (ss : List SessionId) → filter (asks_in script steps step) ss ≡ []
none-asks script steps step e [] = refl
none-asks script steps step e (s ∷ ss) = ap (λ b. cond (b && is_to_open script (steps ++ step ∷ []) s) (s ∷ filter (asks_in script steps step) ss) (filter (asks_in script steps step) ss)) (unanswered s step.marks e) ∙ none-asks script steps step e ss

slots-stay : (script : Script) (steps : List Step) (step : Step) → list_all is_of_none step.marks ≡ true → slots_after script (steps ++ step ∷ []) ≡ slots_after script steps
slots-stay script steps step e =
    slots-last script [] _ steps step
    ∙ ap (all_asking _) (none-asks script steps step e (sessions_of script))
    ∙ through-none _ (slots_after script steps) step.marks e

lets-stay : (script : Script) (steps : List Step) (step : Step) (e : Event) → list_all is_of_none step.marks ≡ true → lets script (steps ++ step ∷ []) e ≡ lets script steps e
lets-stay script steps step (event.Start s) q = ap (λ t. not (is_held_up t s)) (slots-stay script steps step q)
lets-stay script steps step (event.Receive from to number) q = refl
lets-stay script steps step (event.Resume n g) q = refl
lets-stay script steps step (event.End s) q = refl
lets-stay script steps step (event.Resend segment g) q = refl
lets-stay script steps step event.Round q = refl
lets-stay script steps step (event.Restart n) q = refl

-- WHO MAY START
-- a line that is enabled is of one of the script's sessions
abbrev IsWithin : Script → Event → Type 0
IsWithin script (event.Start s) = s.0 < length script.sessions
IsWithin script _ = Unit {0}

module _ (script : Script) (sessions : All (λ line. line.session.0 < length script.sessions) script.lines) (steps : List Step) where
  abbrev In : Event → Type 0
  In = IsWithin script

  each-line : (ls : List Line) → All (λ line. line.session.0 < length script.sessions) ls → Each (λ (line : Line). In (event.Start line.session)) ls
  each-line [] e = tt
  each-line (l ∷ ls) e = (All-head (λ (line : Line). line.session.0 < length script.sessions) l ls e, each-line ls (All-tail (λ (line : Line). line.session.0 < length script.sessions) l ls e))

  firsts : (xs : List Event) → Each In xs → Each In (first_of xs)
  firsts [] e = tt
  firsts (x ∷ xs) e = (e.0, tt)

  left-in : (from to : Node) → Each In (left_on script steps from to)
  left-in from to = each_map In (event.Receive from to) _ (each-of (λ n. In (event.Receive from to n)) (λ n. tt) _)

  resumes-in : (node : Node) → Each In (resumptions (marks_in steps) node)
  resumes-in node = firsts _ (each_map In (event.Resume node) _ (each-of (λ g. In (event.Resume node g)) (λ g. tt) _))

  again-in : (node : Node) → Each In (resends script steps node)
  again-in node = by_quiet (is_quiet script steps node) (is_graph_awaited steps node)
    where
      by_quiet : (a b : Bool) → Each In (if a then map (λ g. event.Resend node (Some g)) (filter (may_resend steps node) (gxids_of (marks_in steps))) ++ (if b then event.Resend node None ∷ [] else []) else [])
      by_quiet true true = each_append In _ _ (each_map In (λ g. event.Resend node (Some g)) (filter (may_resend steps node) (gxids_of (marks_in steps))) (each-of (λ g. In (event.Resend node (Some g))) (λ g. tt) _)) (tt, tt)
      by_quiet true false = each_append In _ _ (each_map In (λ g. event.Resend node (Some g)) (filter (may_resend steps node) (gxids_of (marks_in steps))) (each-of (λ g. In (event.Resend node (Some g))) (λ g. tt) _)) tt
      by_quiet false b = tt

  rounds-in : Each In (rounds script steps)
  rounds-in = by_test (script.detector && (not (is_round_running steps) && is_any_wait script (marks_in steps)))
    where
      by_test : (b : Bool) → Each In (if b then event.Round ∷ [] else [])
      by_test true = (tt, tt)
      by_test false = tt

  enabled-in : Each (IsWithin script) (enabled script steps)
  enabled-in =
      each_append In _ (rounds script steps)
      (each_append In _ (ends script steps)
      (each_append In _ (starts script steps)
      (each_append In _ (flat_map (resends script steps) (segments_of script))
      (each_append In _ (resumptions (marks_in steps) the_coordinator)
      (each_append In (flat_map (λ segment. first_of (left_on script steps segment the_coordinator)) (segments_of script)) (flat_map (at_segment script steps) (segments_of script))
      (each_flat In (λ segment. first_of (left_on script steps segment the_coordinator)) (segments_of script) (each-of (λ (i : Node). Each In (first_of (left_on script steps i the_coordinator))) (λ i. firsts _ (left-in i the_coordinator)) (segments_of script)))
      (each_flat In (at_segment script steps) (segments_of script)
      (each-of (λ (i : Node). Each In (at_segment script steps i)) (λ i. firsts _ (each_append In (resumptions (marks_in steps) i) (first_of (left_on script steps the_coordinator i)) (resumes-in i) (firsts _ (left-in the_coordinator i)))) (segments_of script))))
      (resumes-in the_coordinator))
      (each_flat In (resends script steps) (segments_of script) (each-of (λ (i : Node). Each In (resends script steps i)) again-in (segments_of script))))
      (each_map In (λ (line : Line). event.Start line.session) (filter (is_next steps) script.lines) (each_filter (λ (line : Line). In (event.Start line.session)) (is_next steps) script.lines (each-line script.lines sessions))))
      (each_map In event.End (filter (is_to_end script steps) (sessions_of script)) (each-of (λ s. In (event.End s)) (λ s. tt) _)))
      rounds-in

-- who is about to open stands in no block
opens-outside : (state : BlockState) (next : Option Stmt) → draws_next state next ≡ true → is_in_block state ≡ false
opens-outside Outside next e = refl
opens-outside (InBlock level commands) None e = absurd (cc)
opens-outside (InBlock level commands) (Some line) e = absurd (cc)
opens-outside Failed None e = absurd (cc)
opens-outside Failed (Some line) e = absurd (cc)

pub starts-let : (script : Script) (before steps : List Step) → AreLet script (lets script) before steps → AreLetBehind script before steps
starts-let script before [] a = tt
starts-let script before (s ∷ ss) a = ((filter-has (lets script before) (enabled script before) s.event (has_from_contains s.event (let_in script (lets script) before) a.0)).1, starts-let script (before ++ s ∷ []) ss a.1)

pub groups-hold : (script : Script) → All (λ line. line.session.0 < length script.sessions) script.lines → DoAskersOpen script → HoldsUpOpenings script (lets script)
groups-hold script sessions askers =
    record {
      openings = λ steps e reached a c held. opening steps e reached a (each-has (IsWithin script) (enabled script steps) e (enabled-in script sessions steps) (has_from_contains e (enabled script steps) c)) held;
      lasting = λ steps step e reached none. lets-stay script steps step e none;
    }
  where
    held-asks : (a m : Bool) → not (a && not m) ≡ false → a ≡ true
    held-asks true m e = refl
    held-asks false m e = absurd (cc)

    opening : (steps : List Step) (e : Event) → IsReached script steps → AreLet script (lets script) [] steps → IsWithin script e → lets script steps e ≡ false → is_opening script steps e ≡ true
    opening steps (event.Start s) reached a inside held =
        let o = askers steps s reached (starts-let script [] steps a) inside (held-asks (asks (slots_after script steps) s) (may (slots_after script steps) s) held) in
        ap not (opens-outside (state_of script s (marks_in steps)) (next_stmt s script (marks_in steps)) (and_parts (is_idle steps s) (draws_next (state_of script s (marks_in steps)) (next_stmt s script (marks_in steps))) o).1)
    opening steps (event.Receive from to number) reached a inside held = absurd (cc)
    opening steps (event.Resume n g) reached a inside held = absurd (cc)
    opening steps (event.End s) reached a inside held = absurd (cc)
    opening steps (event.Resend segment g) reached a inside held = absurd (cc)
    opening steps event.Round reached a inside held = absurd (cc)
    opening steps (event.Restart n) reached a inside held = absurd (cc)

-- without groups nothing is held up
pub nothing-held : (script : Script) → HoldsUpOpenings script (λ steps event. true)
nothing-held script = record { openings = λ steps e reached a c held. absurd (true-false true refl held); lasting = λ steps step e reached none. refl }
