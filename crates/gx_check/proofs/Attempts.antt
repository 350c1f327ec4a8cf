-- What the work comes to, by what the bytes are.
use Rattle.std.proofs.Common.{◌≡◌, inl, inr, ℕ, List, Some, Result, Ok, Err, IfOk, refl}
use Rattle.std.specs.Prelude.{Option}
use Rattle.std.specs.declared.alloc.Global.{Global}
use Rattle.std.specs.declared.vec.Vec.{Vec}
use Rattle.gx_script.specs.declared.Script.{Script}
use Rattle.gx_sql.specs.Answering.{Answers}
use Rattle.gx_sql.specs.Script.{Reads}
use Rattle.gx_sql.specs.declared.refusal.Refusal.{Refusal}
use Rattle.gx_sql.specs.declared.refusal.Refusal.TheVariants as refusal
use Rattle.gx_refusals.specs.Refused.{refusal_text}
use Rattle.gx_read_trace.specs.FirstBad.{IsFirstBad}
use Rattle.gx_judging.specs.declared.verdicts.Definition.{Definition}
use Rattle.gx_judging.specs.declared.verdicts.Verdict.TheVariants as verdict
use Rattle.gx_check.specs.declared.attempt.Attempt.{Attempt}
use Rattle.gx_check.specs.declared.attempt.Attempt.TheVariants.{Legal, Usage, Refused, ReadFault, TooLarge, NotATrace, NotLegal, OutOfMemory}
use Rattle.gx_check.specs.Parts.{IsJudged, IsNoTraceAt, IsNotLegalBy, IsOfFront, IsOfParts, IsOfTrace, IsRefusal, refused_as}
use Rattle.gx_split.specs.Splitting.{IsSplit, IsUnsplit}
use Rattle.gx_check.specs.Top.{IsAttempt, IsOfBytes, IsRead, work}

pub of_bytes : {A : Type 0} (words : List A) (left after : Option (List ℕ)) (before now : ℕ) (bytes : List ℕ) → IsRead left after bytes → now ≡ before → (a : Attempt) → IsOfBytes bytes a → IsAttempt (work words left after before now) a
of_bytes words left after before now bytes read calm Legal is = record { bytes = bytes; read = read; are = is; told = refl }
of_bytes words left after before now bytes read calm Usage is = absurd is
of_bytes words left after before now bytes read calm (Refused text) is = record { bytes = bytes; read = read; refusal = is.0; are = is.1; told = is.2 }
of_bytes words left after before now bytes read calm ReadFault is = absurd is
of_bytes words left after before now bytes read calm TooLarge is = absurd is
of_bytes words left after before now bytes read calm (NotATrace text) is = record { bytes = bytes; read = read; line = is.0; are = is.1; told = is.2 }
of_bytes words left after before now bytes read calm (NotLegal text) is = record { bytes = bytes; read = read; least = is.0; are = is.1; told = is.2 }
of_bytes words left after before now bytes read calm OutOfMemory is = calm

pub split_is : (bytes front trace : List ℕ) → IsSplit bytes front trace → (a : Attempt) → IsOfParts front trace a → IsOfBytes bytes a
split_is bytes front trace split Legal (script, reads, judged) =
    let (seen, lawful, shown, said) = judged in
    record { script = script; seen = seen; show = record { front = front; trace = trace; split = split; reads = reads; lawful = lawful; shown = shown }; meets = said }
split_is bytes front trace split Usage (script, reads, none) = absurd none
split_is bytes front trace split (Refused text) (why, reads, told) = (why, record { front = front; is = inl (trace, split); reads = reads }, told)
split_is bytes front trace split ReadFault (script, reads, none) = absurd none
split_is bytes front trace split TooLarge (script, reads, none) = absurd none
split_is bytes front trace split (NotATrace text) (script, reads, bad) =
    let (line, first, told) = bad in
    (line, record { script = script; front = front; reads = reads; why = inl (trace, split, first) }, told)
split_is bytes front trace split (NotLegal text) (script, reads, bad) =
    let (least, judged, told) = bad in
    let (seen, lawful, shown, said) = judged in
    (least, record { script = script; seen = seen; show = record { front = front; trace = trace; split = split; reads = reads; lawful = lawful; shown = shown }; fails = said }, told)
split_is bytes front trace split OutOfMemory is = tt

pub unsplit_is : (bytes : List ℕ) → IsUnsplit bytes → (a : Attempt) → IsOfFront bytes a → IsOfBytes bytes a
unsplit_is bytes unsplit Legal is = absurd is
unsplit_is bytes unsplit Usage is = absurd is
unsplit_is bytes unsplit (Refused text) (why, reads, told) = (why, record { front = bytes; is = inr (unsplit, refl); reads = reads }, told)
unsplit_is bytes unsplit ReadFault is = absurd is
unsplit_is bytes unsplit TooLarge is = absurd is
unsplit_is bytes unsplit (NotATrace text) (script, reads, told) = (0, record { script = script; front = bytes; reads = reads; why = inr (unsplit, refl, refl) }, told)
unsplit_is bytes unsplit (NotLegal text) is = absurd is
unsplit_is bytes unsplit OutOfMemory is = tt

-- what a script with its trace comes to, and what bytes that are none do
pub with_script : (front trace : List ℕ) (script : Script) (a : Attempt) → Reads front (Ok script) → IsOfTrace script trace a → IsOfParts front trace a
with_script front trace script Legal reads is = (script, reads, is)
with_script front trace script Usage reads is = absurd is
with_script front trace script (Refused text) reads is = absurd is
with_script front trace script ReadFault reads is = absurd is
with_script front trace script TooLarge reads is = absurd is
with_script front trace script (NotATrace text) reads is = (script, reads, is)
with_script front trace script (NotLegal text) reads is = (script, reads, is)
with_script front trace script OutOfMemory reads is = tt

pub refused_with : (front trace : List ℕ) (a : Attempt) → IsRefusal front a → IsOfParts front trace a
refused_with front trace Legal is = absurd is
refused_with front trace Usage is = absurd is
refused_with front trace (Refused text) is = is
refused_with front trace ReadFault is = absurd is
refused_with front trace TooLarge is = absurd is
refused_with front trace (NotATrace text) is = absurd is
refused_with front trace (NotLegal text) is = absurd is
refused_with front trace OutOfMemory is = tt

pub refused_without : (front : List ℕ) (a : Attempt) → IsRefusal front a → IsOfFront front a
refused_without front Legal is = is
refused_without front Usage is = is
refused_without front (Refused text) is = is
refused_without front ReadFault is = is
refused_without front TooLarge is = is
refused_without front (NotATrace text) is = absurd is
refused_without front (NotLegal text) is = is
refused_without front OutOfMemory is = is

-- a refusal that has a text is what the bytes are read as
read_as : (may : Result Script Refusal → Type 0) (e : Refusal) (text : List ℕ) → Answers may (Err e) → refusal_text e ≡ Some text → may (Err e)
read_as may (refusal.Syntax n) text a t = a
read_as may (refusal.UnknownTable n) text a t = a
read_as may (refusal.UnknownColumn n) text a t = a
read_as may (refusal.TableExists n) text a t = a
read_as may (refusal.TypeMismatch n) text a t = a
read_as may (refusal.KeyUpdate n) text a t = a
read_as may (refusal.TooMany n l) text a t = a
read_as may (refusal.NotUtf8 p) text a t = a
read_as may refusal.OutOfMemory text a t = cc

pub refusal_is : {E : Type 0} (front : List ℕ) (e : Refusal) (r : Result (Vec ℕ Global) E) → Answers (Reads front) (Err e) → IfOk r (λ text. refusal_text e ≡ Some text.items) → IsRefusal front (refused_as r)
refusal_is front e (Ok text) a t = (e, read_as (Reads front) e text.items a t, t)
refusal_is front e (Err x) a t = tt

-- a line, or a definition, with its text
pub bad_line : (script : Script) (trace : List ℕ) (line : ℕ) (a : Attempt) → IsFirstBad script trace line → IsNoTraceAt line a → IsOfTrace script trace a
bad_line script trace line Legal bad is = absurd is
bad_line script trace line Usage bad is = absurd is
bad_line script trace line (Refused text) bad is = absurd is
bad_line script trace line ReadFault bad is = absurd is
bad_line script trace line TooLarge bad is = absurd is
bad_line script trace line (NotATrace text) bad is = (line, bad, is)
bad_line script trace line (NotLegal text) bad is = absurd is
bad_line script trace line OutOfMemory bad is = tt

pub bad_run : (script : Script) (trace : List ℕ) (least : Definition) (a : Attempt) → IsJudged script trace (verdict.NotLegal least) → IsNotLegalBy least a → IsOfTrace script trace a
bad_run script trace least Legal bad is = absurd is
bad_run script trace least Usage bad is = absurd is
bad_run script trace least (Refused text) bad is = absurd is
bad_run script trace least ReadFault bad is = absurd is
bad_run script trace least TooLarge bad is = absurd is
bad_run script trace least (NotATrace text) bad is = absurd is
bad_run script trace least (NotLegal text) bad is = (least, bad, is)
bad_run script trace least OutOfMemory bad is = tt

pub no_trace_is : (bytes : List ℕ) (script : Script) (a : Attempt) → Reads bytes (Ok script) → IsNoTraceAt 0 a → IsOfFront bytes a
no_trace_is bytes script Legal reads is = absurd is
no_trace_is bytes script Usage reads is = absurd is
no_trace_is bytes script (Refused text) reads is = absurd is
no_trace_is bytes script ReadFault reads is = absurd is
no_trace_is bytes script TooLarge reads is = absurd is
no_trace_is bytes script (NotATrace text) reads is = (script, reads, is)
no_trace_is bytes script (NotLegal text) reads is = absurd is
no_trace_is bytes script OutOfMemory reads is = tt
