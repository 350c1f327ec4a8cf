-- What the work comes to, by what running comes to.
use Rattle.std.proofs.Common.{inl, inr, ℕ, List, ◌∷◌, false}
use Rattle.std.specs.Prelude.{Option}
use Rattle.gx_decide.specs.declared.decide_fault.DecideFault.{DecideFault}
use Rattle.gx_decide.specs.declared.decide_fault.DecideFault.TheVariants as fault
use Rattle.gx_decide.specs.Disk.{DiskState}
use Rattle.gx_settle.specs.declared.attempt.Attempt.{Attempt}
use Rattle.gx_settle.specs.declared.attempt.Attempt.TheVariants as attempt
use Rattle.gx_settle.specs.declared.command.Command.{Command}
use Rattle.gx_settle.specs.Running.{IsCut, IsPart, IsStopped}
use Rattle.gx_settle.proofs.Runs.{up-to}
use Rattle.gx_settle.specs.Top.{IsAttempt, IsRan, IsRead, IsStoppedText, work}

part-of : (fault : DecideFault) (commands : List Command) (old new : DiskState) (before now : ℕ) (answers : List ℕ) → IsStopped fault commands old new before now answers → IsPart commands old new
part-of fault commands old new before now answers is = record {
  events = is.failed ∷ is.events;
  rest = is.rest;
  parts = is.parts;
  answered = up-to is.failed is.events is.command is.asked is.answered;
  went = λ was. (false, (is.mid, (is.went was).0, (is.went was).1, (is.went was).2));
  lasts = λ earlier ready led. (false, is.lasts earlier ready led);
}

module _ (commands : List Command) (old new : DiskState) (before now : ℕ) (answers : List ℕ) where
  disk-ran : (attempt : Attempt) → IsStopped fault.Disk commands old new before now answers → IsStoppedText answers fault.Disk attempt → IsRan commands old new before now attempt
  disk-ran (attempt.Done text) is said = absurd said
  disk-ran (attempt.DiskFailed text) is said = (answers, is, said)
  disk-ran (attempt.Full text) is said = absurd said
  disk-ran (attempt.NotLog text) is said = absurd said
  disk-ran (attempt.Refused text) is said = absurd said
  disk-ran attempt.ReadFault is said = absurd said
  disk-ran attempt.TooLarge is said = absurd said
  disk-ran attempt.OutOfMemory is said = inr (part-of fault.Disk commands old new before now answers is)

  full-ran : (most : ℕ) → (attempt : Attempt) → IsStopped (fault.Full most) commands old new before now answers → IsStoppedText answers (fault.Full most) attempt → IsRan commands old new before now attempt
  full-ran most (attempt.Done text) is said = absurd said
  full-ran most (attempt.DiskFailed text) is said = absurd said
  full-ran most (attempt.Full text) is said = (most, answers, is, said)
  full-ran most (attempt.NotLog text) is said = absurd said
  full-ran most (attempt.Refused text) is said = absurd said
  full-ran most attempt.ReadFault is said = absurd said
  full-ran most attempt.TooLarge is said = absurd said
  full-ran most attempt.OutOfMemory is said = inr (part-of (fault.Full most) commands old new before now answers is)

  not-log-ran : (bad : ℕ) → (attempt : Attempt) → IsStopped (fault.NotLog bad) commands old new before now answers → IsStoppedText answers (fault.NotLog bad) attempt → IsRan commands old new before now attempt
  not-log-ran bad (attempt.Done text) is said = absurd said
  not-log-ran bad (attempt.DiskFailed text) is said = absurd said
  not-log-ran bad (attempt.Full text) is said = absurd said
  not-log-ran bad (attempt.NotLog text) is said = (bad, answers, is, said)
  not-log-ran bad (attempt.Refused text) is said = absurd said
  not-log-ran bad attempt.ReadFault is said = absurd said
  not-log-ran bad attempt.TooLarge is said = absurd said
  not-log-ran bad attempt.OutOfMemory is said = inr (part-of (fault.NotLog bad) commands old new before now answers is)

  lost-ran : (attempt : Attempt) → IsPart commands old new → IsStoppedText answers fault.OutOfMemory attempt → IsRan commands old new before now attempt
  lost-ran (attempt.Done text) is said = absurd said
  lost-ran (attempt.DiskFailed text) is said = absurd said
  lost-ran (attempt.Full text) is said = absurd said
  lost-ran (attempt.NotLog text) is said = absurd said
  lost-ran (attempt.Refused text) is said = absurd said
  lost-ran attempt.ReadFault is said = absurd said
  lost-ran attempt.TooLarge is said = absurd said
  lost-ran attempt.OutOfMemory is said = inr is

  pub stopped-ran : (why : DecideFault) (attempt : Attempt) → IsCut why commands old new before now answers → IsStoppedText answers why attempt → IsRan commands old new before now attempt
  stopped-ran fault.Disk attempt is said = disk-ran attempt is said
  stopped-ran (fault.Full most) attempt is said = full-ran most attempt is said
  stopped-ran (fault.NotLog bad) attempt is said = not-log-ran bad attempt is said
  stopped-ran fault.OutOfMemory attempt is said = lost-ran attempt is said

pub ran-attempt : (left after : Option (List ℕ)) (reads more : ℕ) (old new : DiskState) (before now : ℕ) (commands : List Command) → IsRead left after commands → (attempt : Attempt) → IsRan commands old new before now attempt
    → IsAttempt (work left after reads more old new before now) attempt
ran-attempt left after reads more old new before now commands read (attempt.Done text) is = record { commands = commands; read = read; events = is.0; is = is.1; told = is.2 }
ran-attempt left after reads more old new before now commands read (attempt.DiskFailed text) is = record { commands = commands; read = read; answers = is.0; is = is.1; told = is.2 }
ran-attempt left after reads more old new before now commands read (attempt.Full text) is = (is.0, record { commands = commands; read = read; answers = is.1; is = is.2; told = is.3 })
ran-attempt left after reads more old new before now commands read (attempt.NotLog text) is = (is.0, record { commands = commands; read = read; answers = is.1; is = is.2; told = is.3 })
ran-attempt left after reads more old new before now commands read (attempt.Refused text) is = absurd is
ran-attempt left after reads more old new before now commands read attempt.ReadFault is = absurd is
ran-attempt left after reads more old new before now commands read attempt.TooLarge is = absurd is
ran-attempt left after reads more old new before now commands read attempt.OutOfMemory is = elim is [
  | inl same ↦ inl same
  | inr part ↦ inr (record { commands = commands; read = read; is = part })
]
