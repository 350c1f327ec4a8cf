-- Reading on in steps: an event, its marks, and what comes behind them.
use Rattle.std.proofs.Common.{◌≡◌, ℕ, zero, suc, ◌+◌, ◌-◌, ◌<◌, ◌==◌, true, false, if◌then◌else◌, List, [], ◌∷◌, ◌++◌, Option, Some, None, refl, sym, ◌∙◌, ap}
use Rattle.std.specs.Prelude.{Result, Ok, Err, codes, is_some, option_and_then}
use Rattle.std.proofs.Math.Nat.{sub-zero}
use Rattle.gx_script.specs.declared.Script.{Script}
use Rattle.gx_tree.specs.declared.value.Value.{Value}
use Rattle.gx_waits.specs.declared.edge.Edge.{Edge}
use Rattle.gx_waits.specs.declared.verdict.Verdict.{Verdict}
use Rattle.gx_trace.specs.Fields.{count}
use Rattle.gx_trace.specs.Lawful.{IsLine}
use Rattle.gx_trace.specs.Readers.{Front, behind, word}
use Rattle.gx_trace.specs.declared.seen.Seen.{Seen}
use Rattle.gx_trace.specs.declared.seen.SeenAnswer.{SeenAnswer}
use Rattle.gx_trace.specs.declared.seen.SeenMark.{SeenMark}
use Rattle.gx_trace.specs.declared.seen.SeenStep.{SeenStep}
use Rattle.gx_trace_lines.specs.Events.{moment}
use Rattle.gx_trace_lines.specs.Marks.{mark_line}
use Rattle.gx_trace_lines.specs.declared.events.Moment.{Moment}
use Rattle.gx_trace_lines.specs.declared.marks.MarkLine.{MarkLine}
use Rattle.gx_trace_lines.specs.declared.marks.MarkLine.TheVariants.{Alone, Own, Ended}
use Rattle.gx_read_trace.specs.GoingOn.{GoesOn, ReadsMark, ReadsMarks, ReadsRecheck, ReadsStep, ReadsSteps, ReadsVerdict, at_marks, at_recheck, at_steps, at_tables, goes, recheck_of, with_marks, with_steps}
use Rattle.gx_read_trace.specs.Lines.{fed}
use Rattle.gx_read_trace.specs.Machine.{Marks, Steps, all_of, begun, ended, event_read, mark_read, marked, recheck_read, step_line, stepped}
use Rattle.gx_read_trace.specs.ReadText.{cut, read_lines, told}
use Rattle.gx_read_trace.specs.Rests.{IsReadAs, Rest, Takes, begins_with_blanks}
use Rattle.gx_read_trace.specs.declared.fault.TraceFault.{TraceFault}
use Rattle.gx_read_trace.specs.declared.fault.TraceFault.TheVariants.{NotATrace, OutOfMemory}
use Rattle.gx_read_trace.proofs.Cutting.{cut-is}
use Rattle.gx_read_trace.proofs.Feeds.{in_first}
use Rattle.gx_read_trace.proofs.Onward.{Follows, Stops, fails-on, none-lines, one-less, stopped-on, stops, taken-bad, then-on, took}
use Rattle.gx_read_trace.proofs.Plain.{from-test}

two-blanks : IsLine (codes "  ")
two-blanks = from-test (codes "  ") refl

abbrev pub mark_of : Script → List ℕ → Option MarkLine
mark_of script line = all_of (behind (codes "  ") (mark_line script) line)

-- A RECHECK
pub verdict_fails : (script : Script) (round : ℕ) (old new : Rest) (f : TraceFault) → Takes (mark_of script) old new (Err f) → ReadsVerdict script round old new (Err f)
verdict_fails script round old new f is s step edges n =
    let from = at_recheck s step round edges n in
    stopped-on script from (mark_of script) (recheck_read s step round edges n) old new (λ (verdict : Verdict). at_marks s (marked step (recheck_of round edges verdict)) n) f
    (λ l ls e. refl) (stops from old refl) is

pub verdict_ended : (script : Script) (round : ℕ) (old new : Rest) (other : ℕ) (verdict : Verdict) → IsReadAs (mark_of script) old new (Ended other verdict) → (other == round) ≡ true → ReadsVerdict script round old new (Ok verdict)
verdict_ended script round old new other verdict is same s step edges n =
    took script (at_recheck s step round edges n) (mark_of script) (recheck_read s step round edges n) old new (Ended other verdict) (λ l ls e. refl) is
    ∙ ap (λ t. goes script new (if t then Some (at_marks s (marked step (recheck_of round edges verdict)) n) else None)) same

pub verdict_bad : (script : Script) (round : ℕ) (old new : Rest) (line : MarkLine) (fault : TraceFault) → IsReadAs (mark_of script) old new line
    → ((s : Seen) (step : SeenStep) (edges : List Edge) (n : ℕ) → recheck_read s step round edges n line ≡ None) → fault ≡ NotATrace new.taken → ReadsVerdict script round old new (Err fault)
verdict_bad script round old new line fault is none said s step edges n =
    taken-bad script (at_recheck s step round edges n) (mark_of script) (recheck_read s step round edges n) old new new (λ (verdict : Verdict). at_marks s (marked step (recheck_of round edges verdict)) n) line fault
    (λ l ls e. refl) is (none s step edges n) said

pub other_round : (round other : ℕ) (verdict : Verdict) → (other == round) ≡ false → (s : Seen) (step : SeenStep) (edges : List Edge) (n : ℕ) → recheck_read s step round edges n (Ended other verdict) ≡ None
other_round round other verdict e s step edges n =
    ap (λ t. if t then Some (at_marks s (marked step (recheck_of round edges verdict)) n) else None) e

-- A MARK
mark-follows : (script : Script) (s : Seen) (step : SeenStep) (n : ℕ) (rest : Rest) → begins_with_blanks rest ≡ true → Follows script (at_marks s step n) rest (mark_of script) (mark_read s step n)
mark-follows script s step n rest blank l ls e =
    by (word (codes "  ") l) (sym (in_first (codes "  ") rest.left l ls two-blanks e) ∙ blank)
  where
    by : (o : Front (Unit {0})) → is_some o ≡ true → step_line script s step n l o ≡ option_and_then (mark_read s step n) (all_of (option_and_then (λ x. mark_line script x.1) o))
    by None e = absurd cc
    by (Some x) e = refl

-- blanks stand there, so that the bytes don't end
mark-stops : (s : Seen) (step : SeenStep) (n : ℕ) (rest : Rest) → begins_with_blanks rest ≡ true → Stops (at_marks s step n) rest
mark-stops s step n rest blank none =
    let all : (cut rest.left).1 ≡ rest.left = ap (λ (x : List (List ℕ)). fed x ++ (cut rest.left).1) (sym none) ∙ (cut-is rest.left).0 in
    ap (λ x. told (rest.taken + 1) x (ended s (Marks step n))) all ∙ by rest.left blank
  where
    by : (left : List ℕ) → is_some (word (codes "  ") left) ≡ true → told (rest.taken + 1) left (ended s (Marks step n)) ≡ Err (rest.taken + 1)
    by [] e = absurd cc
    by (b ∷ bs) e = refl

pub mark_fails : (script : Script) (old new : Rest) (f : TraceFault) → begins_with_blanks old ≡ true → Takes (mark_of script) old new (Err f) → ReadsMark script old new (Err f)
mark_fails script old new f blank is s step n =
    stopped-on script (at_marks s step n) (mark_of script) (mark_read s step n) old new (λ (m : SeenMark). at_marks s (marked step m) n) f (mark-follows script s step n old blank) (mark-stops s step n old blank) is

pub mark_alone : (script : Script) (old new : Rest) (m : SeenMark) → begins_with_blanks old ≡ true → IsReadAs (mark_of script) old new (Alone m) → ReadsMark script old new (Ok m)
mark_alone script old new m blank is s step n = took script (at_marks s step n) (mark_of script) (mark_read s step n) old new (Alone m) (mark-follows script s step n old blank) is

pub mark_bad : (script : Script) (old new : Rest) (round : ℕ) (verdict : Verdict) (fault : TraceFault) → begins_with_blanks old ≡ true → IsReadAs (mark_of script) old new (Ended round verdict)
    → fault ≡ NotATrace new.taken → ReadsMark script old new (Err fault)
mark_bad script old new round verdict fault blank is said s step n =
    taken-bad script (at_marks s step n) (mark_of script) (mark_read s step n) old new new (λ (m : SeenMark). at_marks s (marked step m) n) (Ended round verdict) fault
    (mark-follows script s step n old blank) is refl said

-- the first line of a recheck, and what is read behind it
pub mark_own : (script : Script) (old mid new : Rest) (round : ℕ) (edges : List Edge) (r : Result SeenMark TraceFault) → begins_with_blanks old ≡ true → IsReadAs (mark_of script) old mid (Own round edges)
    → ReadsRecheck script round edges mid new r → ReadsMark script old new r
mark_own script old mid new round edges r blank is read s step n = by r (read s step n)
  where
    led : goes script old (Some (at_marks s step n)) ≡ goes script mid (Some (at_recheck s step round edges n))
    led = took script (at_marks s step n) (mark_of script) (mark_read s step n) old mid (Own round edges) (mark-follows script s step n old blank) is

    by : (r : Result SeenMark TraceFault) → GoesOn script mid (at_recheck s step round edges n) new (λ m. at_marks s (marked step m) n) r → GoesOn script old (at_marks s step n) new (λ m. at_marks s (marked step m) n) r
    by (Ok m) g = led ∙ g
    by (Err (NotATrace k)) g = led ∙ g
    by (Err OutOfMemory) g = tt

pub recheck_ok : (script : Script) (round : ℕ) (edges : List Edge) (old new : Rest) (verdict : Verdict) → ReadsVerdict script round old new (Ok verdict) → ReadsRecheck script round edges old new (Ok (recheck_of round edges verdict))
recheck_ok script round edges old new verdict is s step n = is s step edges n

pub recheck_fails : (script : Script) (round : ℕ) (edges : List Edge) (old new : Rest) (f : TraceFault) → ReadsVerdict script round old new (Err f) → ReadsRecheck script round edges old new (Err f)
recheck_fails script round edges old new f is s step n =
    fails-on script old (at_recheck s step round edges n) new new (λ (verdict : Verdict). at_marks s (marked step (recheck_of round edges verdict)) n) (λ (m : SeenMark). at_marks s (marked step m) n) f (is s step edges n)

-- MARKS
-- the marks so far
abbrev pub MarksSoFar : Script → Rest → Rest → List SeenMark → Type 0
MarksSoFar script old now marks =
    (s : Seen) (step : SeenStep) (n : ℕ) → goes script old (Some (at_marks s (with_marks step []) n)) ≡ goes script now (Some (at_marks s (with_marks step marks) n))

pub marks_more : (script : Script) (old now new : Rest) (marks : List SeenMark) (m : SeenMark) → MarksSoFar script old now marks → ReadsMark script now new (Ok m) → MarksSoFar script old new (marks ++ m ∷ [])
marks_more script old now new marks m so is s step n = so s step n ∙ is s (with_marks step marks) n

pub marks_fail : (script : Script) (old now new : Rest) (marks : List SeenMark) (f : TraceFault) → MarksSoFar script old now marks → ReadsMark script now new (Err f) → ReadsMarks script old new (Err f)
marks_fail script old now new marks f so is s step n =
    let st = with_marks step marks in
    then-on script old now (at_marks s (with_marks step []) n) (at_marks s st n) new new (λ (m : SeenMark). at_marks s (marked st m) n) (λ (marks : List SeenMark). at_steps (stepped s (with_marks step marks)) n) f
    (so s step n) (is s st n)

-- behind the marks nothing is left, or another event
behind-marks : (script : Script) (s : Seen) (step : SeenStep) (n : ℕ) (rest : Rest) → begins_with_blanks rest ≡ false → goes script rest (Some (at_marks s step n)) ≡ goes script rest (Some (at_steps (stepped s step) n))
behind-marks script s step n rest blank = by (cut rest.left).0 refl
  where
    same-end : (n : ℕ) → ended s (Marks step n) ≡ ended (stepped s step) (Steps n)
    same-end zero = refl
    same-end (suc n) = refl

    on-event : (l : List ℕ) (o : Front (Unit {0})) → is_some o ≡ false → step_line script s step n l o ≡ option_and_then (event_read (stepped s step) n) (all_of (moment script l))
    on-event l None e = refl
    on-event l (Some x) e = absurd cc

    by : (ls : List (List ℕ)) → (cut rest.left).0 ≡ ls → read_lines script rest.taken ls (cut rest.left).1 (Some (at_marks s step n)) ≡ read_lines script rest.taken ls (cut rest.left).1 (Some (at_steps (stepped s step) n))
    by [] at = ap (told (rest.taken + 1) (cut rest.left).1) (same-end n)
    by (l ∷ ls) at = ap (read_lines script (rest.taken + 1) ls (cut rest.left).1) (on-event l (word (codes "  ") l) (sym (in_first (codes "  ") rest.left l ls two-blanks at) ∙ blank))

pub marks_end : (script : Script) (old now : Rest) (marks : List SeenMark) → MarksSoFar script old now marks → begins_with_blanks now ≡ false → ReadsMarks script old now (Ok marks)
marks_end script old now marks so blank s step n = so s step n ∙ behind-marks script s (with_marks step marks) n now blank

-- A STEP
abbrev pub moment_at : Script → List ℕ → Option Moment
moment_at script line = all_of (moment script line)

abbrev pub step_of : Moment → List SeenMark → SeenStep
step_of at marks = with_marks (begun at) marks

pub step_fails : (script : Script) (old new : Rest) (f : TraceFault) → Takes (moment_at script) old new (Err f) → ReadsStep script old new (Err f)
step_fails script old new f is s n =
    let from = at_steps s (suc n) in
    stopped-on script from (moment_at script) (event_read s (suc n)) old new (λ (step : SeenStep). at_steps (stepped s step) n) f (λ l ls e. refl) (stops from old refl) is

step-begun : (script : Script) (s : Seen) (n : ℕ) (old mid : Rest) (at : Moment) → IsReadAs (moment_at script) old mid at → goes script old (Some (at_steps s (suc n))) ≡ goes script mid (Some (at_marks s (begun at) n))
step-begun script s n old mid at is = took script (at_steps s (suc n)) (moment_at script) (event_read s (suc n)) old mid at (λ l ls e. refl) is

pub step_ok : (script : Script) (old mid new : Rest) (at : Moment) (marks : List SeenMark) → IsReadAs (moment_at script) old mid at → ReadsMarks script mid new (Ok marks) → ReadsStep script old new (Ok (step_of at marks))
step_ok script old mid new at marks is read s n = step-begun script s n old mid at is ∙ read s (begun at) n

pub step_marks_fail : (script : Script) (old mid new : Rest) (at : Moment) (f : TraceFault) → IsReadAs (moment_at script) old mid at → ReadsMarks script mid new (Err f) → ReadsStep script old new (Err f)
step_marks_fail script old mid new at f is read s n =
    then-on script old mid (at_steps s (suc n)) (at_marks s (begun at) n) new new (λ (marks : List SeenMark). at_steps (stepped s (step_of at marks)) n) (λ (step : SeenStep). at_steps (stepped s step) n) f
    (step-begun script s n old mid at is) (read s (begun at) n)

-- STEPS
abbrev pub run_of : List ℕ → Option ℕ
run_of line = all_of (behind (codes "run") count line)

abbrev pub StepsSoFar : Script → Rest → ℕ → ℕ → Rest → List SeenStep → Type 0
StepsSoFar script old count at now steps =
    (answers : List SeenAnswer) (tables : List (List (List Value))) → goes script old (Some (at_tables answers tables [])) ≡ goes script now (Some (at_steps (with_steps answers tables steps) (count - at)))

pub steps_start : (script : Script) (old new : Rest) (n : ℕ) → IsReadAs run_of old new n → StepsSoFar script old n 0 new []
steps_start script old new n is answers tables =
    took script (at_tables answers tables []) run_of (λ n. Some (at_steps (with_steps answers tables []) n)) old new n (λ l ls e. refl) is ∙ ap (λ k. goes script new (Some (at_steps (with_steps answers tables []) k))) (sym (sub-zero n))

pub run_fails : (script : Script) (old new : Rest) (f : TraceFault) → Takes run_of old new (Err f) → ReadsSteps script old new (Err f)
run_fails script old new f is answers tables =
    let from = at_tables answers tables [] in
    stopped-on script from run_of (λ n. Some (at_steps (with_steps answers tables []) n)) old new (λ (steps : List SeenStep). at_steps (with_steps answers tables steps) zero) f (λ l ls e. refl) (stops from old refl) is

pub steps_more : (script : Script) (old : Rest) (count at : ℕ) (now new : Rest) (steps : List SeenStep) (step : SeenStep)
    → at < count → StepsSoFar script old count at now steps → ReadsStep script now new (Ok step) → StepsSoFar script old count (at + 1) new (steps ++ step ∷ [])
steps_more script old count at now new steps step l so is answers tables =
    let s = with_steps answers tables steps in
    so answers tables ∙ ap (λ k. goes script now (Some (at_steps s k))) (one-less count at l) ∙ is s (count - (at + 1))

pub steps_fail : (script : Script) (old : Rest) (count at : ℕ) (now new : Rest) (steps : List SeenStep) (f : TraceFault)
    → at < count → StepsSoFar script old count at now steps → ReadsStep script now new (Err f) → ReadsSteps script old new (Err f)
steps_fail script old count at now new steps f l so is answers tables =
    let s = with_steps answers tables steps in
    let n = count - (at + 1) in
    then-on script old now (at_tables answers tables []) (at_steps s (suc n)) new new (λ (step : SeenStep). at_steps (stepped s step) n) (λ (steps : List SeenStep). at_steps (with_steps answers tables steps) zero) f
    (so answers tables ∙ ap (λ k. goes script now (Some (at_steps s k))) (one-less count at l)) (is s n)

pub steps_end : (script : Script) (old : Rest) (count at : ℕ) (now : Rest) (steps : List SeenStep) → count - at ≡ 0 → StepsSoFar script old count at now steps → ReadsSteps script old now (Ok steps)
steps_end script old count at now steps e so answers tables = so answers tables ∙ ap (λ k. goes script now (Some (at_steps (with_steps answers tables steps) k))) e

-- THE END
pub ends_ok : (script : Script) (s : Seen) (rest : Rest) → rest.left ≡ [] → goes script rest (Some (at_steps s zero)) ≡ Ok s
ends_ok script s rest e = ap (λ (left : List ℕ). read_lines script rest.taken (cut left).0 (cut left).1 (Some (at_steps s zero))) e

pub ends_bad : (script : Script) (s : Seen) (rest : Rest) → (rest.left ≡ [] → ⊥) → goes script rest (Some (at_steps s zero)) ≡ Err (rest.taken + 1)
ends_bad script s rest more = by (cut rest.left).0 refl
  where
    no-event : (o : Option Moment) → option_and_then (event_read s zero) o ≡ None
    no-event None = refl
    no-event (Some at) = refl

    some-left : (left : List ℕ) → (left ≡ [] → ⊥) → told (rest.taken + 1) left (Some s) ≡ Err (rest.taken + 1)
    some-left [] ne = absurd (ne refl)
    some-left (b ∷ bs) ne = refl

    by : (ls : List (List ℕ)) → (cut rest.left).0 ≡ ls → read_lines script rest.taken ls (cut rest.left).1 (Some (at_steps s zero)) ≡ Err (rest.taken + 1)
    by [] at =
        let all : (cut rest.left).1 ≡ rest.left = ap (λ (x : List (List ℕ)). fed x ++ (cut rest.left).1) (sym at) ∙ (cut-is rest.left).0 in
        some-left (cut rest.left).1 (λ e. more (sym all ∙ e))
    by (l ∷ ls) at = ap (read_lines script (rest.taken + 1) ls (cut rest.left).1) (no-event (all_of (moment script l))) ∙ none-lines script (rest.taken + 1) ls (cut rest.left).1
