-- The slots of groups are told by the coordinator's own steps.
use Rattle.std.proofs.Common.{◌≡◌, ◌≤◌, ℕ, ◌+◌, ◌&&◌, ◌==◌, List, [], ◌∷◌, ◌++◌, All, Bool, true, false, cond, refl, sym, subst, ap, ◌∙◌, arith}
use Rattle.std.proofs.lemmas.List.Elements.{All-head, All-tail}
use Rattle.std.specs.Prelude.{filter, not}
use Rattle.gx_ids.specs.declared.ids.Node.{Node}
use Rattle.gx_ids.specs.declared.ids.SessionId.{SessionId}
use Rattle.gx_script.specs.declared.Script.{Script}
use Rattle.gx_groups.specs.Table.{Table, is_held_up}
use Rattle.gx_store.specs.declared.event.Event.{Event}
use Rattle.gx_store.specs.declared.event.Event.TheVariants as event
use Rattle.gx_store.specs.declared.mark.Mark.{Mark}
use Rattle.gx_store.specs.declared.mark.Mark.TheVariants as mark
use Rattle.gx_store.specs.declared.opened.Opened.{Opened}
use Rattle.gx_store.specs.declared.run.Step.{Step}
use Rattle.gx_store.proofs.Lines.{state_from-append}
use Rattle.gx_store.proofs.Marks.{answer_count-append}
use Rattle.gx_store.proofs.Runs.{marks_in-push, starts_in-push}
use Rattle.gx_store.specs.Groups.{AlwaysKeepsSlots, AreLetBehind, AreStartsLet, BeginAsAsked, all_asking, asks_in, draws_next, is_to_open, lets, open_from, open_in, slots_after, slots_behind, slots_through}
use Rattle.gx_store.specs.Journals.{is_same_node}
use Rattle.gx_store.specs.Language.{IsScript}
use Rattle.gx_store.specs.Legal.{AreLegalSteps}
use Rattle.gx_store.specs.Lines.{BlockState, Outside, state_from, state_of, stmt_of}
use Rattle.gx_store.specs.Marks.{answer_count, is_answered}
use Rattle.gx_store.specs.Ordered.{AreOrdered, IsAtNode, IsEventAt, IsOrderedStep}
use Rattle.gx_store.specs.Points.{marks_in, starts_by, starts_in}
use Rattle.gx_store.specs.Refusals.{the_coordinator}
use Rattle.gx_store.specs.Schedule.{sessions_of}
use Rattle.gx_store.specs.Whole.{AreInsertsWhole}
use Rattle.gx_law_groups.proofs.Marks.{is_key, open_from-append}
use Rattle.gx_law_groups.proofs.Runs.{begin-as-asked, keeps-slots, slots-more}
use Rattle.gx_law_merge.specs.Merge.{DoFit, IsMergeOf, history_of, own_steps}
use Rattle.gx_law_merge.proofs.Laws.{merge-legal, merge-ordered}
use Rattle.gx_law_merge.proofs.Rising.{own-here, own-there}

-- MARKS THAT TELL NOTHING OF SESSIONS
abbrev AreStill : List Mark → Type 0
AreStill [] = Unit {0}
AreStill (m ∷ ms) = (is_key m ≡ false) × AreStill ms

still-answers : (k : SessionId) (ms : List Mark) → AreStill ms → answer_count k ms ≡ 0
still-answers k [] e = refl
still-answers k (mark.Answer s n reply ∷ ms) e = absurd (cc)
still-answers k (_ ∷ ms) e = still-answers k ms e.1

still-answered : (k : SessionId) (ms : List Mark) → AreStill ms → is_answered k ms ≡ false
still-answered k [] e = refl
still-answered k (mark.Answer s n reply ∷ ms) e = absurd (cc)
still-answered k (_ ∷ ms) e = still-answered k ms e.1

still-state : (script : Script) (k : SessionId) (state : BlockState) (ms : List Mark) → AreStill ms → state_from script k state ms ≡ state
still-state script k state [] e = refl
still-state script k state (mark.Answer s n reply ∷ ms) e = absurd (cc)
still-state script k state (_ ∷ ms) e = still-state script k state ms e.1

still-open : (ongoing : List Opened) (ms : List Mark) → AreStill ms → open_from ongoing ms ≡ ongoing
still-open ongoing [] e = refl
still-open ongoing (mark.Start g s ∷ ms) e = absurd (cc)
still-open ongoing (mark.Commit g ∷ ms) e = absurd (cc)
still-open ongoing (mark.Abort g ∷ ms) e = absurd (cc)
still-open ongoing (_ ∷ ms) e = still-open ongoing ms e.1

still-slots : (ongoing : List Opened) (t : Table) (ms : List Mark) → AreStill ms → slots_through ongoing t ms ≡ t
still-slots ongoing t [] e = refl
still-slots ongoing t (mark.Start g s ∷ ms) e = absurd (cc)
still-slots ongoing t (mark.Commit g ∷ ms) e = absurd (cc)
still-slots ongoing t (mark.Abort g ∷ ms) e = absurd (cc)
still-slots ongoing t (_ ∷ ms) e = still-slots ongoing t ms e.1

-- a segment makes no others
elsewhere : (n : Node) → is_same_node n the_coordinator ≡ false → n ≡ the_coordinator → ⊥
elsewhere n away same = differ (is_same_node n the_coordinator) (ap (λ (x : Node). is_same_node x the_coordinator) same) away
  where
    differ : (b : Bool) → b ≡ true → b ≡ false → ⊥
    differ b x y = absurd (cc)

still-mark : (script : Script) (node : Node) → is_same_node node the_coordinator ≡ false → (m : Mark) → IsAtNode script node m → is_key m ≡ false
still-mark script node away (mark.Start g s) at = absurd (elsewhere node away at)
still-mark script node away (mark.Commit g) at = absurd (elsewhere node away at)
still-mark script node away (mark.Abort g) at = absurd (elsewhere node away at)
still-mark script node away (mark.Answer s n reply) at = absurd (elsewhere node away at)
still-mark script node away _ at = refl

still-marks : (script : Script) (node : Node) → is_same_node node the_coordinator ≡ false → (ms : List Mark) → All (IsAtNode script node) ms → AreStill ms
still-marks script node away [] all = tt
still-marks script node away (m ∷ ms) all =
    (still-mark script node away m (All-head (IsAtNode script node) m ms all), still-marks script node away ms (All-tail (IsAtNode script node) m ms all))

-- and starts no line
starts-nothing : (script : Script) (before : List Step) (s : Step) → is_same_node s.stamp.node the_coordinator ≡ false → IsOrderedStep script before s → (k : SessionId) → starts_by k s.event ≡ 0
starts-nothing script before s away is k = by s.event is.event
  where
    by : (e : Event) → IsEventAt script before s e → starts_by k e ≡ 0
    by (event.Start session) at = absurd (elsewhere s.stamp.node away at)
    by _ at = refl

lets-it : (script : Script) (before : List Step) (s : Step) → is_same_node s.stamp.node the_coordinator ≡ false → IsOrderedStep script before s → lets script before s.event ≡ true
lets-it script before s away is = by s.event is.event
  where
    by : (e : Event) → IsEventAt script before s e → lets script before e ≡ true
    by (event.Start session) at = absurd (elsewhere s.stamp.node away at)
    by _ at = refl

-- STEPS THAT TELL THE SAME OF SESSIONS
record AreAlike (script : Script) (a b : List Step) : Type 0 where
  starts : (k : SessionId) → starts_in k a ≡ starts_in k b
  answers : (k : SessionId) → answer_count k (marks_in a) ≡ answer_count k (marks_in b)
  states : (k : SessionId) → state_of script k (marks_in a) ≡ state_of script k (marks_in b)
  ongoing : open_in (marks_in a) ≡ open_in (marks_in b)
  slots : slots_after script a ≡ slots_after script b

module _ (script : Script) (a : List Step) (s : Step) where
  answers-more : (k : SessionId) → answer_count k (marks_in (a ++ s ∷ [])) ≡ answer_count k (marks_in a) + answer_count k s.marks
  answers-more k = ap (answer_count k) (marks_in-push a s) ∙ answer_count-append k (marks_in a) s.marks

  states-more : (k : SessionId) → state_of script k (marks_in (a ++ s ∷ [])) ≡ state_from script k (state_of script k (marks_in a)) s.marks
  states-more k = ap (state_of script k) (marks_in-push a s) ∙ state_from-append script k Outside (marks_in a) s.marks

  ongoing-more : open_in (marks_in (a ++ s ∷ [])) ≡ open_from (open_in (marks_in a)) s.marks
  ongoing-more = ap open_in (marks_in-push a s) ∙ open_from-append [] (marks_in a) s.marks

filter-alike : (p q : SessionId → Bool) (ks : List SessionId) → ((k : SessionId) → p k ≡ q k) → filter p ks ≡ filter q ks
filter-alike p q [] e = refl
filter-alike p q (k ∷ ks) e = ap (λ (b : Bool). cond b (k ∷ filter p ks) (filter p ks)) (e k) ∙ ap (λ xs. cond (q k) (k ∷ xs) xs) (filter-alike p q ks e)

filter-none : (p : SessionId → Bool) (ks : List SessionId) → ((k : SessionId) → p k ≡ false) → filter p ks ≡ []
filter-none p [] e = refl
filter-none p (k ∷ ks) e = ap (λ (b : Bool). cond b (k ∷ filter p ks) (filter p ks)) (e k) ∙ filter-none p ks e

-- a step of the coordinator on both sides
both-more : (script : Script) (a b : List Step) (s : Step) → AreAlike script a b → AreAlike script (a ++ s ∷ []) (b ++ s ∷ [])
both-more script a b s same =
    record {
      starts = starts;
      answers = answers;
      states = states;
      ongoing = ongoing-more script a s ∙ ap (λ os. open_from os s.marks) same.ongoing ∙ sym (ongoing-more script b s);
      slots = slots-more script a s ∙ ap (λ t. slots_behind script a t s) same.slots ∙ behind ∙ sym (slots-more script b s);
    }
  where
    starts : (k : SessionId) → starts_in k (a ++ s ∷ []) ≡ starts_in k (b ++ s ∷ [])
    starts k = starts_in-push k a s ∙ ap (λ n. n + starts_by k s.event) (same.starts k) ∙ sym (starts_in-push k b s)

    answers : (k : SessionId) → answer_count k (marks_in (a ++ s ∷ [])) ≡ answer_count k (marks_in (b ++ s ∷ []))
    answers k = answers-more script a s k ∙ ap (λ n. n + answer_count k s.marks) (same.answers k) ∙ sym (answers-more script b s k)

    states : (k : SessionId) → state_of script k (marks_in (a ++ s ∷ [])) ≡ state_of script k (marks_in (b ++ s ∷ []))
    states k = states-more script a s k ∙ ap (λ st. state_from script k st s.marks) (same.states k) ∙ sym (states-more script b s k)

    asks : (k : SessionId) → asks_in script a s k ≡ asks_in script b s k
    asks k =
        ap (λ n. is_answered k s.marks && ((n == answer_count k (marks_in (a ++ s ∷ []))) && draws_next (state_of script k (marks_in (a ++ s ∷ []))) (stmt_of k (answer_count k (marks_in (a ++ s ∷ [])) + 1) script.lines))) (starts k)
        ∙ ap (λ n. is_answered k s.marks && ((starts_in k (b ++ s ∷ []) == n) && draws_next (state_of script k (marks_in (a ++ s ∷ []))) (stmt_of k (n + 1) script.lines))) (answers k)
        ∙ ap (λ st. is_answered k s.marks && ((starts_in k (b ++ s ∷ []) == answer_count k (marks_in (b ++ s ∷ []))) && draws_next st (stmt_of k (answer_count k (marks_in (b ++ s ∷ [])) + 1) script.lines))) (states k)

    behind : slots_behind script a (slots_after script b) s ≡ slots_behind script b (slots_after script b) s
    behind =
        ap (λ os. all_asking (slots_through os (slots_after script b) s.marks) (filter (asks_in script a s) (sessions_of script))) same.ongoing
        ∙ ap (all_asking (slots_through (open_in (marks_in b)) (slots_after script b) s.marks)) (filter-alike (asks_in script a s) (asks_in script b s) (sessions_of script) asks)

-- a step of a segment on one
one-more : (script : Script) (a b : List Step) (s : Step) → AreAlike script a b → AreStill s.marks → ((k : SessionId) → starts_by k s.event ≡ 0) → AreAlike script (a ++ s ∷ []) b
one-more script a b s same still nothing =
    record {
      starts = λ k. starts_in-push k a s ∙ none (starts_in k a) (starts_by k s.event) (nothing k) ∙ same.starts k;
      answers = λ k. answers-more script a s k ∙ none (answer_count k (marks_in a)) (answer_count k s.marks) (still-answers k s.marks still) ∙ same.answers k;
      states = λ k. states-more script a s k ∙ still-state script k (state_of script k (marks_in a)) s.marks still ∙ same.states k;
      ongoing = ongoing-more script a s ∙ still-open (open_in (marks_in a)) s.marks still ∙ same.ongoing;
      slots = slots-more script a s
          ∙ ap (λ t. all_asking t (filter (asks_in script a s) (sessions_of script))) (still-slots (open_in (marks_in a)) (slots_after script a) s.marks still)
          ∙ ap (all_asking (slots_after script a)) (filter-none (asks_in script a s) (sessions_of script) (λ k. ap (λ b. b && is_to_open script (a ++ s ∷ []) k) (still-answered k s.marks still)))
          ∙ same.slots;
    }
  where
    none : (n m : ℕ) → m ≡ 0 → n + m ≡ n
    none n m e = omega (arith, e)

-- WHAT THE GROUPS LET
lets-alike : (script : Script) (a b : List Step) (e : Event) → slots_after script a ≡ slots_after script b → lets script b e ≡ true → lets script a e ≡ true
lets-alike script a b (event.Start k) same is = ap (λ (t : Table). not (is_held_up t k)) same ∙ is
lets-alike script a b _ same is = refl

all-let : (script : Script) (before own steps : List Step) → AreAlike script before own → AreOrdered script before steps → AreLetBehind script own (own_steps the_coordinator steps) → AreLetBehind script before steps
all-let script before own [] same ordered is = tt
all-let script before own (s ∷ ss) same ordered is =
    by (is_same_node s.stamp.node the_coordinator) refl (λ more rest. all-let script (before ++ s ∷ []) (own ++ s ∷ []) ss more ordered.1 rest) (λ more rest. all-let script (before ++ s ∷ []) own ss more ordered.1 rest)
  where
    by : (b : Bool) → is_same_node s.stamp.node the_coordinator ≡ b
        → (AreAlike script (before ++ s ∷ []) (own ++ s ∷ []) → AreLetBehind script (own ++ s ∷ []) (own_steps the_coordinator ss) → AreLetBehind script (before ++ s ∷ []) ss)
        → (AreAlike script (before ++ s ∷ []) own → AreLetBehind script own (own_steps the_coordinator ss) → AreLetBehind script (before ++ s ∷ []) ss)
        → AreLetBehind script before (s ∷ ss)
    by true here both one =
        let own-is = subst (AreLetBehind script own) (own-here the_coordinator s ss here) is in
        (lets-alike script before own s.event same.slots own-is.0, both (both-more script before own s same) own-is.1)
    by false there both one = (
      lets-it script before s there ordered.0,
      one (one-more script before own s same (still-marks script s.stamp.node there s.marks ordered.0.marks) (starts-nothing script before s there ordered.0)) (subst (AreLetBehind script own) (own-there the_coordinator s ss there) is),
    )

-- THE MERGE
module _ (script : Script) (some : 1 ≤ script.segments) (histories : List (List Step)) (fit : DoFit script histories) (steps : List Step) (merge : IsMergeOf histories steps) where
  pub starts-merged : AreStartsLet script (history_of histories the_coordinator) → AreStartsLet script steps
  starts-merged is =
      all-let script [] [] steps (record { starts = λ k. refl; answers = λ k. refl; states = λ k. refl; ongoing = refl; slots = refl }) (merge-ordered script some histories fit steps merge)
      (subst (AreStartsLet script) (sym (merge.own the_coordinator)) is)

module _ (script : Script) (language : IsScript script) (inserts : AreInsertsWhole script.tables script.lines) (histories : List (List Step)) (fit : DoFit script histories) (steps : List Step) (merge : IsMergeOf histories steps) where
  abbrev legal-steps : AreLegalSteps script [] steps
  legal-steps = merge-legal script language.some_segments histories fit steps merge language.numbers inserts

  pub slots-merged : AreStartsLet script (history_of histories the_coordinator) → AlwaysKeepsSlots script (marks_in steps)
  slots-merged is = keeps-slots script language steps legal-steps (starts-merged script language.some_segments histories fit steps merge is)

  pub queued-merged : AreStartsLet script (history_of histories the_coordinator) → BeginAsAsked script steps
  queued-merged is = begin-as-asked script language steps legal-steps (starts-merged script language.some_segments histories fit steps merge is)
