-- What the work came to, once bytes were there.
use Rattle.std.proofs.Common.{◌≡◌, ◌≤◌, inl, inr, ℕ, List, Option, None, Some, Result, Ok, Err, length, refl, subst, sym}
use Rattle.std.specs.declared.alloc.Global.{Global}
use Rattle.std.specs.declared.string.String.{String}
use Rattle.gx_words.specs.declared.options.Options.{Options}
use Rattle.gx_script.specs.declared.Script.{Script}
use Rattle.gx_sql.specs.Answering.{Answers}
use Rattle.gx_sql.specs.Script.{Reads}
use Rattle.gx_sql.specs.declared.refusal.Refusal.{Refusal}
use Rattle.gx_store.specs.declared.attempt.Attempt.{Attempt}
use Rattle.gx_store.specs.declared.attempt.Attempt.TheVariants.{Done, Stopped, Stuck, Usage, Refused, ReadFault, TooLarge, OutOfMemory}
use Rattle.gx_store.specs.Told.{no_run, run_in}
use Rattle.gx_words.specs.Asked.{AreAsked, AreGiven, limit}
use Rattle.gx_work.specs.Work.{work_script}
use Rattle.gx_work.proofs.Whole.{work_read}
use Rattle.gx.specs.Top.{HasScript, IsAttempt, IsGiven, IsNoScript, IsRan, IsRefusedFor}
use Rattle.gx.proofs.Refusals.{read_as}

-- BYTES
pub refused : (bytes : List ℕ) (refusal : Refusal) → Answers (Reads bytes) (Err refusal) → (a : Attempt) → IsRefusedFor refusal a → IsNoScript bytes a
refused bytes refusal read (Refused text) is = (refusal, read_as (Reads bytes) refusal text.items read is, is)
refused bytes refusal read (OutOfMemory run) is = is
refused bytes refusal read (Done run text) is = absurd is
refused bytes refusal read (Stopped run text) is = absurd is
refused bytes refusal read (Stuck run text) is = absurd is
refused bytes refusal read Usage is = absurd is
refused bytes refusal read ReadFault is = absurd is
refused bytes refusal read TooLarge is = absurd is

pub none-of-none : (bytes : List ℕ) (a : Attempt) → IsNoScript bytes a → run_in a ≡ no_run
none-of-none bytes (Refused text) is = refl
none-of-none bytes (OutOfMemory run) is = is
none-of-none bytes (Done run text) is = absurd is
none-of-none bytes (Stopped run text) is = absurd is
none-of-none bytes (Stuck run text) is = absurd is
none-of-none bytes Usage is = absurd is
none-of-none bytes ReadFault is = absurd is
none-of-none bytes TooLarge is = absurd is

-- generated work is a script, so bytes that are none were read
no_ok : (refusal : Refusal) (script : Script) → ◌≡◌ {A = Result Script Refusal} (Err refusal) (Ok script) → ⊥
no_ok refusal script e = cc

pub none_generated : (work : Option ℕ) (left after : Option (List ℕ)) (bytes : List ℕ) (refusal : Refusal) → AreGiven work left after bytes → Reads bytes (Err refusal) → work ≡ None
none_generated None left after bytes refusal given read = refl
none_generated (Some number) left after bytes refusal given read =
    absurd (no_ok refusal (work_script number) ((work_read number).only (Err refusal) (subst (λ (b : List ℕ). Reads b (Err refusal)) given.0 read)))

-- WORDS
module _ (words : List (String Global)) (left after : Option (List ℕ)) (before now : ℕ) (options : Options) where
  module _ (asked : AreAsked words options) (bytes : List ℕ) (given : AreGiven options.work left after bytes) (few : length bytes ≤ limit) (calm : now ≡ before) where
    pub script-given : (r : Options × Script) → (r.0 ≡ options) × Reads bytes (Ok r.1) → IsGiven words left after before now r.0 r.1
    script-given (o, script) is =
        subst (λ (x : Options). IsGiven words left after before now x script) (sym is.0)
        (record { asked = asked; read = record { bytes = bytes; given = given; few = few; is = is.1 }; calm = calm })

    pub none-given : (a : Attempt) → IsNoScript bytes a → IsAttempt words left after before now a
    none-given (Refused text) (refusal, read, told) = record {
      options = options;
      asked = asked;
      plain = none_generated options.work left after bytes refusal given read;
      refusal = refusal;
      read = record { bytes = bytes; given = given; few = few; is = read };
      empty = refl;
      told = told;
    }
    none-given (OutOfMemory run) is = (inl is, calm)
    none-given (Done run text) is = absurd is
    none-given (Stopped run text) is = absurd is
    none-given (Stuck run text) is = absurd is
    none-given Usage is = absurd is
    none-given ReadFault is = absurd is
    none-given TooLarge is = absurd is

  module _ (script : Script) (given : IsGiven words left after before now options script) where
    with_script : (Is : Script → Options → Type 0) → Is script options → HasScript words left after Is
    with_script Is is = record { options = options; asked = given.asked; script = script; read = given.read; is = is }

    pub ran : (a : Attempt) → IsRan script options a → IsAttempt words left after before now a
    ran (Done run text) is = with_script _ is
    ran (Stopped run text) is = with_script _ is
    ran (Stuck run text) is = with_script _ is
    ran (OutOfMemory run) (inl none) = (inl none, given.calm)
    ran (OutOfMemory run) (inr is) = (inr (with_script _ is), given.calm)
    ran Usage is = absurd is
    ran (Refused text) is = absurd is
    ran ReadFault is = absurd is
    ran TooLarge is = absurd is
