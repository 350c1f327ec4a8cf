-- A run that is reached and driven is one of the script.
use Rattle.std.proofs.Common.{◌≡◌, ◌<◌, ◌≤◌, ◌∙◌, ℕ, List, [], ◌∷◌, false, true, subst, sym, length, Some, None, true≢false}
use Rattle.std.proofs.lemmas.List.Elements.{All-from_recursion, recursion_from_All}
use Rattle.std.specs.List.{AllByRecursion}
use Rattle.std.specs.declared.option.Option.{Option}
use Rattle.gx_words.specs.declared.options.Options.{Options}
use Rattle.gx_script.specs.declared.Script.{Script}
use Rattle.gx_script.specs.declared.Line.{Line}
use Rattle.gx_store.specs.Language.{IsLine, IsScript}
use Rattle.gx_tree.specs.declared.schema.Schema.{Schema}
use Rattle.gx_store.specs.declared.run.Run.{Run}
use Rattle.gx_store.specs.declared.run.Step.{Step}
use Rattle.gx_store.specs.OneAnswer.{DoSegmentsAnswerOnce}
use Rattle.gx_store.specs.Ordered.{AreOrdered}
use Rattle.gx_store.specs.Protocol.{DoStepsFollow}
use Rattle.gx_store.specs.Stands.{DoRowsStand}
use Rattle.gx_store.specs.Runs.{IsLegalHistory}
use Rattle.gx_rules.specs.System.{IsSystemRun}
use Rattle.gx_law_order.proofs.Follows.{world_follows}
use Rattle.gx_law_order.proofs.Ordered.{world_well}
use Rattle.gx_law_order.specs.Told.{DoStepsTell}
use Rattle.gx_law_order.proofs.Always.{world-holds}
use Rattle.gx_law_order.proofs.Whole.{world-follows}
use Rattle.gx_store.specs.Whole.{AreInsertsWhole}
use Rattle.gx_law_answers.proofs.Join.{legal}
use Rattle.gx_law_answers.proofs.OneAnswer.{run-once}
use Rattle.gx_store.specs.Points.{marks_in}
use Rattle.gx_law_locks.specs.Blocked.{DoStayBlocked}
use Rattle.gx_law_locks.proofs.Lawful.{run-stays-blocked}
use Rattle.gx_law_writes.specs.Legal.{AreLocksLegal}
use Rattle.gx_law_writes.proofs.LegalLocks.{locks-legal}
use Rattle.gx_law_writes.proofs.Stands.{world-stands}
use Rattle.gx_law_locks.proofs.Whole.{world-rounds}
use Rattle.gx_law_locks.specs.Legal.{AreRoundsLegal}
use Rattle.gx_law_locks.proofs.EachVictim.{world-cancels, world-legal}
use Rattle.gx_law_answers.proofs.Snaps.{snapshots-one}
use Rattle.gx_law_answers.proofs.Whole.{filled, keyed}
use Rattle.gx_law_runs.specs.Reached.{IsReached}
use Rattle.gx_law_runs.proofs.Reaching.{by-events}
use Rattle.gx_store.specs.Schedule.{is_any_unfinished}
use Rattle.gx_law_runs.specs.Endings.{IsFinished}
use Rattle.gx_law_runs.proofs.Finishing.{whole}
use Rattle.gx_world.specs.Worlds.{WorldState}
use Rattle.gx_store.specs.Groups.{AreStartsLet, lets}
use Rattle.gx_law_groups.proofs.Runs.{begin-as-asked, keeps-slots}
use Rattle.gx_law_lone.proofs.Askers.{grouped-victims}
use Rattle.gx_law_lone.specs.Victims.{AreLet}
use Rattle.gx_law_progress.proofs.Runs.{grouped-few}
use Rattle.gx_drive.proofs.Lone.{drawn-let, first-let, starts-let}
use Rattle.gx.specs.Top.{AreDriven, IsByDriver, IsMerged, IsRunOf}

-- whichever order was asked for, the groups let each event
pub driven-let : (script : Script) (seed : Option ℕ) (steps : List Step) → AreDriven seed script steps → AreLet script (lets script) [] steps
driven-let script None steps driven = first-let script steps driven
driven-let script (Some seed) steps driven = drawn-let script seed steps driven

history : (script : Script) (run : Run) → IsScript script → AreInsertsWhole script.tables script.lines → IsReached script run.steps → IsLegalHistory script run
history script run language inserts is =
    by-events script run.steps is (λ ss. IsLegalHistory script (record { steps = ss }))
    (legal script language.some_segments language.numbers (keyed script inserts) (snapshots-one script language.some_segments) (filled script inserts) (world-cancels script language.some_segments (world-rounds script language.some_segments)))

-- what is reached, and whose starts the groups let, is a run, whoever has made it
pub run-reached : (script : Script) (options : Options) (run : Run) → IsScript script → AreInsertsWhole script.tables script.lines → IsReached script run.steps → AreStartsLet script run.steps
    → (options.threads ≡ false → IsByDriver script options run) → (options.threads ≡ true → IsMerged script run) → IsRunOf script options run
run-reached script options run language inserts is starts made merged =
    record {
      legal = history script run language inserts is;
      ordered = by-events script run.steps is (AreOrdered script []) (λ es. (world_well script language.some_segments es).steps);
      system = by-events script run.steps is (λ ss. IsSystemRun script (record { steps = ss })) (world_follows script language.some_segments);
      protocol = by-events script run.steps is (DoStepsFollow script []) (world-follows script language.some_segments);
      tells = by-events script run.steps is (DoStepsTell []) (λ es. (world-holds script language.some_segments es).tells);
      standing = by-events script run.steps is (DoRowsStand []) (world-stands script language.some_segments language.numbers);
      answers = by-events script run.steps is (DoSegmentsAnswerOnce script) (run-once script language.some_segments language.numbers);
      locks = by-events script run.steps is (AreLocksLegal script) (locks-legal script language.some_segments language.numbers);
      blocked = by-events script run.steps is (λ ss. DoStayBlocked (marks_in ss)) (run-stays-blocked script language.some_segments);
      rounds = by-events script run.steps is (AreRoundsLegal script) (world-legal script language.some_segments (world-rounds script language.some_segments));
      slots = keeps-slots script language run.steps (history script run language inserts is) starts;
      queued = begin-as-asked script language run.steps (history script run language inserts is) starts;
      alone = made;
      threads = merged;
    }

pub run-of : (script : Script) (options : Options) (run : Run) → options.threads ≡ false → IsScript script → AreInsertsWhole script.tables script.lines → IsReached script run.steps → AreDriven options.seed script run.steps
    → length run.steps ≤ options.turns → IsRunOf script options run
run-of script options run alone language inserts is driven within =
    run-reached script options run language inserts is (starts-let script run.steps let_in) (λ _. record {
      driven = driven;
      lone = grouped-victims script language inserts run.steps is let_in;
      few = grouped-few script language inserts run.steps is let_in;
      within = within;
    }) (λ on. absurd (true≢false (sym on ∙ alone)))
  where
    let_in : AreLet script (lets script) [] run.steps
    let_in = driven-let script options.seed run.steps driven

-- so is the run of a world that has the script
pub run-in : (script : Script) (options : Options) (world : WorldState) (run : Run) → options.threads ≡ false → world.script ≡ script → run ≡ world.run → IsScript script → AreInsertsWhole script.tables script.lines
    → IsReached world.script world.run.steps → AreDriven options.seed script world.run.steps → length world.run.steps ≤ options.turns → IsRunOf script options run
run-in script options world run alone of is language inserts reached driven within =
    run-of script options run alone language inserts (subst (λ (r : Run). IsReached script r.steps) (sym is) (subst (λ (s : Script). IsReached s world.run.steps) of reached)) (subst (λ (r : Run). AreDriven options.seed script r.steps) (sym is) driven)
    (subst (λ (r : Run). length r.steps ≤ options.turns) (sym is) within)

sessions-there : (tables : List Schema) (n : ℕ) (ls : List Line) → AllByRecursion (IsLine tables n) ls → AllByRecursion (λ line. line.session.0 < n) ls
sessions-there tables n [] all = tt
sessions-there tables n (l ∷ ls) all = (all.0.0, sessions-there tables n ls all.1)

-- a run in which no session is unfinished is whole
pub finished : (script : Script) (steps : List Step) → IsScript script → IsReached script steps → is_any_unfinished script steps ≡ false → IsFinished script (record { steps = steps })
finished script steps language is over =
    by-events script steps is (λ ss. is_any_unfinished script ss ≡ false → IsFinished script (record { steps = ss }))
    (whole script language.some_segments language.numbers
    (All-from_recursion (λ line. line.session.0 < length script.sessions) script.lines
    (sessions-there script.tables (length script.sessions) script.lines (recursion_from_All (IsLine script.tables (length script.sessions)) script.lines language.lines)))) over
