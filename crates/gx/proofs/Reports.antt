-- What each status of a report tells, from what the work before the writing came to and what was told of it.
use Rattle.std.proofs.Common.{◌≡◌, ◌⊎◌, inl, inr, ℕ, nat_eq, List, Option, Bool, true, false, arith, refl, sym, ◌∙◌, subst, true≢false}
use Rattle.std.specs.declared.alloc.Global.{Global}
use Rattle.std.specs.declared.string.String.{String}
use Rattle.gx_words.specs.Asked.{AreAsked}
use Rattle.gx_words.specs.declared.options.Options.{Options}
use Rattle.gx_store.specs.declared.run.Run.{Run}
use Rattle.gx_outside.specs.Shelves.{Shelf}
use Rattle.gx_drive.specs.Ordered.{AreFailuresFew, AreHeld, AreHeldSoFar}
use Rattle.gx_store.specs.declared.attempt.Attempt.{Attempt}
use Rattle.gx_store.specs.declared.attempt.Attempt.TheVariants.{Done, Stopped, Stuck, Usage, Refused, ReadFault, TooLarge, OutOfMemory}
use Rattle.gx_store.specs.declared.told.Report.{Report}
use Rattle.gx_store.specs.Told.{IsTold, IsToldOf, is_over, run_in, status_in, text_in}
use Rattle.gx.specs.Top.{AreKept, IsAttempt, IsCutShort, IsDone, IsDue, IsPartRun, IsReadFault, IsRefused, IsStatus, IsStopped, IsStuck, IsTooLarge, IsUsage, IsWritten}

abbrev pub pick : Bool → Type 0 → Type 0 → Type 0
pick true A B = A
pick false A B = B

module _ (written shown : Option (List ℕ)) (faults more : ℕ) (report : Report) where
  -- an end has its text, and want of memory has none
  told : (a : Attempt) → IsToldOf a written shown faults more report → (is_over a ≡ true × IsTold (status_in a) (run_in a) (text_in a) written shown faults more report)
      ⊎ ((is_over a ≡ false) × (report.status ≡ 6) × (report.run ≡ run_in a) × (shown ≡ written) × (more ≡ faults))
  told (Done run text) is = inl (refl, is)
  told (Stopped run text) is = inl (refl, is)
  told (Stuck run text) is = inl (refl, is)
  told Usage is = inl (refl, is)
  told (Refused text) is = inl (refl, is)
  told ReadFault is = inl (refl, is)
  told TooLarge is = inl (refl, is)
  told (OutOfMemory run) is = inr (refl, is.0, is.1, is.2, is.3)

  status : (a : Attempt) → IsStatus (status_in a)
  status (Done run text) = inl (inl (inl (inl (inl (inl (inl (inl refl)))))))
  status Usage = inl (inl (inl (inl (inl (inl (inl (inr refl)))))))
  status (Refused text) = inl (inl (inl (inl (inl (inl (inr refl))))))
  status ReadFault = inl (inl (inl (inl (inl (inr refl)))))
  status (OutOfMemory run) = inl (inl (inl (inr refl)))
  status (Stopped run text) = inl (inl (inr refl))
  status (Stuck run text) = inl (inr refl)
  status TooLarge = inr refl

  pub known : (a : Attempt) → IsToldOf a written shown faults more report → IsStatus report.status
  known a is = elim (told a is) [
    | inl end ↦ elim end.1.ended [
      | inl whole ↦ subst IsStatus (sym whole.0) (status a)
      | inr cut ↦ subst IsStatus (sym cut.0) (inl (inl (inl (inl (inr refl)))))
    ]
    | inr out ↦ subst IsStatus (sym out.1) (inl (inl (inl (inr refl))))
  ]

  pub run : (a : Attempt) → IsToldOf a written shown faults more report → report.run ≡ run_in a
  run a is = elim (told a is) [
    | inl end ↦ end.1.same
    | inr out ↦ out.2
  ]

  -- a run that came to its end has neither status
  ended : (a : Attempt) → is_over a ≡ true → (status_in a ≡ 5 → ⊥) × (status_in a ≡ 6 → ⊥)
  ended (Done run text) over = (λ e. cc, λ e. cc)
  ended (Stopped run text) over = (λ e. cc, λ e. cc)
  ended (Stuck run text) over = (λ e. cc, λ e. cc)
  ended Usage over = (λ e. cc, λ e. cc)
  ended (Refused text) over = (λ e. cc, λ e. cc)
  ended ReadFault over = (λ e. cc, λ e. cc)
  ended TooLarge over = (λ e. cc, λ e. cc)
  ended (OutOfMemory run) over = absurd (cc)

  pub over : (a : Attempt) → IsToldOf a written shown faults more report → (report.status ≡ 6 → ⊥) → is_over a ≡ true
  over a is other = elim (told a is) [
    | inl end ↦ end.0
    | inr out ↦ absurd (other out.1)
  ]

  -- where it came to its end, the journals hold what they did then
  pub held : (before after : List Shelf) (a : Attempt) → IsToldOf a written shown faults more report → AreKept (run_in a).steps (is_over a) before after → (report.status ≡ 6 → ⊥) → AreHeld report.run.steps after
  held before after a is kept other = subst (λ (r : Run). AreHeld r.steps after) (sym (run a is)) (kept.held (over a is other))

  pub so_far : (before after : List Shelf) (a : Attempt) → IsToldOf a written shown faults more report → AreKept (run_in a).steps (is_over a) before after → AreHeldSoFar report.run.steps after
  so_far before after a is kept = subst (λ (r : Run). AreHeldSoFar r.steps after) (sym (run a is)) kept.so_far

  pub failures : (before after : List Shelf) (a : Attempt) → IsToldOf a written shown faults more report → AreKept (run_in a).steps (is_over a) before after → AreFailuresFew report.run.steps before after
  failures before after a is kept = subst (λ (r : Run). AreFailuresFew r.steps before after) (sym (run a is)) kept.failures

module _ (words : List (String Global)) (left after : Option (List ℕ)) (before now : ℕ) (written shown : Option (List ℕ)) (faults more : ℕ) (report : Report) where
  -- the text that is due at a status
  abbrev pub IsDueAt : ℕ → Run → List ℕ → Type 0
  IsDueAt n run text =
      pick (nat_eq n 0) (IsDone words left after run text)
      (pick (nat_eq n 2) (IsUsage words run text)
      (pick (nat_eq n 3) (IsRefused words left after run text)
      (pick (nat_eq n 4) (IsReadFault words before now run text)
      (pick (nat_eq n 7) (IsStopped words left after run text)
      (pick (nat_eq n 8) (IsStuck words left after run text)
      (pick (nat_eq n 9) (IsTooLarge words left after run text) ⊥))))))

  due : (a : Attempt) → IsAttempt words left after before now a → is_over a ≡ true → IsDueAt (status_in a) (run_in a) (text_in a)
  due (Done run text) is over = is
  due (Stopped run text) is over = is
  due (Stuck run text) is over = is
  due Usage is over = record { unknown = is; empty = refl; told = refl }
  due (Refused text) is over = is
  due ReadFault is over = record { asked = is.0; rose = is.1; empty = refl; told = refl }
  due TooLarge is over = record { asked = is.0; much = is.1; empty = refl; told = refl }
  due (OutOfMemory run) is over = absurd (cc)

  -- so it's one of those that may be cut short
  at-any : (a : Attempt) → IsAttempt words left after before now a → is_over a ≡ true → IsDue words left after before now (run_in a) (text_in a)
  at-any (Done run text) is over = inl (inl (inl (inl (inl (inl is)))))
  at-any (Stopped run text) is over = inl (inl (inl (inl (inl (inr is)))))
  at-any (Stuck run text) is over = inl (inl (inl (inl (inr is))))
  at-any Usage is over = inl (inl (inl (inr (due Usage is over))))
  at-any (Refused text) is over = inl (inl (inr is))
  at-any ReadFault is over = inl (inr (due ReadFault is over))
  at-any TooLarge is over = inr (due TooLarge is over)
  at-any (OutOfMemory run) is over = absurd (cc)

  calm : (a : Attempt) → IsAttempt words left after before now a → is_over a ≡ false → now ≡ before
  calm (OutOfMemory run) of out = of.1
  calm (Done run text) of out = absurd (cc)
  calm (Stopped run text) of out = absurd (cc)
  calm (Stuck run text) of out = absurd (cc)
  calm Usage of out = absurd (cc)
  calm (Refused text) of out = absurd (cc)
  calm ReadFault of out = absurd (cc)
  calm TooLarge of out = absurd (cc)

  part : (a : Attempt) → IsAttempt words left after before now a → is_over a ≡ false → IsPartRun words left after (run_in a)
  part (OutOfMemory run) of out = of.0
  part (Done run text) of out = absurd (cc)
  part (Stopped run text) of out = absurd (cc)
  part (Stuck run text) of out = absurd (cc)
  part Usage of out = absurd (cc)
  part (Refused text) of out = absurd (cc)
  part ReadFault of out = absurd (cc)
  part TooLarge of out = absurd (cc)

  -- a status other than a write fault and want of memory has its text
  pub at_status : (n : ℕ) (a : Attempt) → IsAttempt words left after before now a → IsToldOf a written shown faults more report → report.status ≡ n → (n ≡ 5 → ⊥) → (n ≡ 6 → ⊥)
      → IsWritten (IsDueAt n report.run) written shown
  at_status n a of is here five six = elim (told written shown faults more report a is) [
    | inl end ↦ elim end.1.ended [
      | inl whole ↦ record {
        text = text_in a;
        is = subst (λ s. IsDueAt s report.run (text_in a)) (sym whole.0 ∙ here) (subst (λ (r : Run). IsDueAt (status_in a) r (text_in a)) (sym end.1.same) (due a of end.0));
        all = whole.1;
      }
      | inr cut ↦ absurd (five (sym here ∙ cut.0))
    ]
    | inr out ↦ absurd (six (sym here ∙ out.1))
  ]

  pub cut_short : (a : Attempt) → IsAttempt words left after before now a → IsToldOf a written shown faults more report → report.status ≡ 5
      → IsCutShort (IsDue words left after before now report.run) written shown faults more
  cut_short a of is here = elim (told written shown faults more report a is) [
    | inl end ↦ elim end.1.ended [
      | inl whole ↦ absurd ((ended written shown faults more report a end.0).0 (sym whole.0 ∙ here))
      | inr cut ↦ record {
        text = text_in a;
        is = subst (λ (r : Run). IsDue words left after before now r (text_in a)) (sym end.1.same) (at-any a of end.0);
        rose = cut.1.0;
        part = cut.1.1;
      }
    ]
    | inr out ↦ absurd (omega (arith, out.1, here))
  ]

  pub memory : (a : Attempt) → IsAttempt words left after before now a → IsToldOf a written shown faults more report → report.status ≡ 6
      → (shown ≡ written) × IsPartRun words left after report.run
  memory a of is here = elim (told written shown faults more report a is) [
    | inl end ↦ elim end.1.ended [
      | inl whole ↦ absurd ((ended written shown faults more report a end.0).1 (sym whole.0 ∙ here))
      | inr cut ↦ absurd (omega (arith, cut.0, here))
    ]
    | inr out ↦ (out.3, subst (λ (r : Run). IsPartRun words left after r) (sym out.2) (part a of out.0))
  ]

  pub unfailed : (a : Attempt) → IsAttempt words left after before now a → IsToldOf a written shown faults more report → report.status ≡ 6 → (now ≡ before) × (more ≡ faults)
  unfailed a of is here = elim (told written shown faults more report a is) [
    | inl end ↦ elim end.1.ended [
      | inl whole ↦ absurd ((ended written shown faults more report a end.0).1 (sym whole.0 ∙ here))
      | inr cut ↦ absurd (omega (arith, cut.0, here))
    ]
    | inr out ↦ (calm a of out.0, out.4)
  ]

-- whatever the words ask for, they ask for threads
abbrev pub AreAllForThreads : List (String Global) → Type 0
AreAllForThreads words = (options : Options) → AreAsked words options → options.threads ≡ true

module _ (words : List (String Global)) (left after : Option (List ℕ)) (run : Run) (written shown : Option (List ℕ)) (asks : AreAllForThreads words) where
  pub never-stopped : IsWritten (IsStopped words left after run) written shown → ⊥
  never-stopped is = true≢false (sym (asks is.is.options is.is.asked) ∙ is.is.is.alone)

  pub never-stuck : IsWritten (IsStuck words left after run) written shown → ⊥
  never-stuck is = true≢false (sym (asks is.is.options is.is.asked) ∙ is.is.is.alone)
