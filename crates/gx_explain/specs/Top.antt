-- What the top call answers, and when.
use Rattle.std.specs.Prelude.{◌≡◌, ⊤, ℕ, ◌<◌, ◌≤◌, List, [], ◌∷◌, ◌++◌, length, ◌⊎◌, Result, Ok, Err, codes}
use Rattle.std.specs.declared.alloc.Global.{Global}
use Rattle.std.specs.declared.option.Option.{Option}
use Rattle.std.specs.declared.vec.Vec.{Vec}
use Rattle.std.specs.Io.KnownBytes.{Consumes, Appends, IsAtEnd}
use Rattle.gx_outside.specs.Causes.{Rose, WritesPrefix}
use Rattle.gx_lex.specs.declared.token.Token.{Token}
use Rattle.gx_lex.specs.Lexing.{Lexes}
use Rattle.gx_script.specs.declared.Script.{Script}
use Rattle.gx_sql.specs.declared.refusal.LineFault.{LineFault}
use Rattle.gx_sql.specs.declared.refusal.LineFault.TheVariants as fault
use Rattle.gx_sql.specs.declared.refusal.Refusal.{Refusal}
use Rattle.gx_sql.specs.declared.refusal.Refusal.TheVariants as refusal
use Rattle.gx_sql.specs.Lines.{lines_of}
use Rattle.gx_sql.specs.Progress.{Progress, start}
use Rattle.gx_sql.specs.Script.{Reads}
use Rattle.gx_explain.specs.Reading.{Comes}
use Rattle.gx_explain.specs.Places.{IsPlace}
use Rattle.gx_explain.specs.Reasons.{reason_at, reason_utf8}
use Rattle.gx_explain.specs.Tails.{IsTail}
use Rattle.gx_explain.specs.Windows.{chars_before, window}
use Rattle.gx_explain.specs.declared.attempt.Attempt.{Attempt}
use Rattle.gx_explain.specs.declared.attempt.Attempt.TheVariants.{IsScript, Refused, ReadFault, TooLarge, OutOfMemory}

-- the most bytes of a script
abbrev pub limit : ℕ
limit = 16777216

-- the source was read to its end, and these are its bytes
pub record IsRead (left after : Option (List ℕ)) (bytes : List ℕ) : Type 0 where
  pub taken : Consumes left after bytes
  pub ended : IsAtEnd after
  pub few : length bytes ≤ limit

-- of a line its characters about the place of its fault, and a caret under that
pub record IsShown (p : Progress) (f : LineFault) (line shown : List ℕ) : Type 0 where
  pub tokens : List Token
  pub cut : Lexes tokens line
  pub place : ℕ
  pub is : IsPlace p f tokens place
  pub tail : List ℕ
  pub from : IsTail place line tail
  pub told : shown ≡ window line (chars_before line tail)

-- nothing is shown of a line that is missing
abbrev pub AreShown : Progress → LineFault → List (List ℕ) → List ℕ → Type 0
AreShown p f [] shown = shown ≡ []
AreShown p f (line ∷ lines) shown = IsShown p f line shown

-- of bytes whose line of this number has this fault, that line is shown; words that nothing is said of follow
pub record IsLineTold (bytes : List ℕ) (number : ℕ) (f : LineFault) (text : List ℕ) : Type 0 where
  pub said : Progress
  pub lines : List (List ℕ)
  pub before : Comes 1 start (lines_of bytes) number said lines
  pub shown : List ℕ
  pub is : AreShown said f lines shown
  pub words : List ℕ
  pub told : text ≡ reason_at number f ++ (shown ++ words)

-- the text that tells why bytes are refused; of bytes that aren't UTF-8 nothing is shown
abbrev pub IsTold : List ℕ → Refusal → List ℕ → Type 0
IsTold bytes (refusal.Syntax n) text = IsLineTold bytes n fault.Syntax text
IsTold bytes (refusal.UnknownTable n) text = IsLineTold bytes n fault.UnknownTable text
IsTold bytes (refusal.UnknownColumn n) text = IsLineTold bytes n fault.UnknownColumn text
IsTold bytes (refusal.TableExists n) text = IsLineTold bytes n fault.TableExists text
IsTold bytes (refusal.TypeMismatch n) text = IsLineTold bytes n fault.TypeMismatch text
IsTold bytes (refusal.KeyUpdate n) text = IsLineTold bytes n fault.KeyUpdate text
IsTold bytes (refusal.TooMany n l) text = IsLineTold bytes n (fault.TooMany l) text
IsTold bytes (refusal.NotUtf8 place) text = text ≡ reason_utf8 place
IsTold bytes refusal.OutOfMemory text = ⊥

-- bytes are a script, and the text says so
pub record IsDone (left after : Option (List ℕ)) (text : List ℕ) : Type 0 where
  pub bytes : List ℕ
  pub read : IsRead left after bytes
  pub script : Script
  pub is : Reads bytes (Ok script)
  pub told : text ≡ codes "a script\n"

-- bytes are no script, and the text says why and where
pub record IsRefused (left after : Option (List ℕ)) (text : List ℕ) : Type 0 where
  pub bytes : List ℕ
  pub read : IsRead left after bytes
  pub refusal : Refusal
  pub is : Reads bytes (Err refusal)
  pub told : IsTold bytes refusal text

-- the source failed, and the text says so
pub record IsReadFault (before now : ℕ) (text : List ℕ) : Type 0 where
  pub rose : Rose before now
  pub told : text ≡ codes "read fault\n"

-- more bytes came than a script may have, and the text says so
pub record IsTooLarge (left after : Option (List ℕ)) (text : List ℕ) : Type 0 where
  pub bytes : List ℕ
  pub taken : Consumes left after bytes
  pub more : limit < length bytes
  pub told : text ≡ codes "too large\n"

-- a text of this kind was written
pub record IsWritten (IsText : List ℕ → Type 0) (written after : Option (List ℕ)) : Type 0 where
  pub text : List ℕ
  pub is : IsText text
  pub all : Appends written after text

-- the sink failed, and a part of the text that was due stands there, from its front
pub record IsCutShort (IsText : List ℕ → Type 0) (written after : Option (List ℕ)) (before now : ℕ) : Type 0 where
  pub text : List ℕ
  pub is : IsText text
  pub rose : Rose before now
  pub part : WritesPrefix written after text

-- what became of the bytes that were read
abbrev pub IsOfBytes : List ℕ → Attempt → Type 0
IsOfBytes bytes IsScript = (script : Script) × Reads bytes (Ok script)
IsOfBytes bytes (Refused text) = (refusal : Refusal) × Reads bytes (Err refusal) × IsTold bytes refusal text.items
IsOfBytes bytes OutOfMemory = ⊤
IsOfBytes bytes _ = ⊥

-- the work where bytes are refused, by the text that tells why
abbrev pub refused_as : {E : Type 0} → Result (Vec ℕ Global) E → Attempt
refused_as (Ok text) = Refused text
refused_as (Err e) = OutOfMemory

-- what was read, before anything is written
pub record Work : Type 0 where
  pub left : Option (List ℕ)
  pub after : Option (List ℕ)
  pub before : ℕ
  pub now : ℕ

abbrev pub work : Option (List ℕ) → Option (List ℕ) → ℕ → ℕ → Work
work left after before now = record { left = left; after = after; before = before; now = now }

-- the text that is due at some end
abbrev pub IsDue : Work → List ℕ → Type 0
IsDue w text = ((IsDone w.left w.after text ⊎ IsRefused w.left w.after text) ⊎ IsReadFault w.before w.now text) ⊎ IsTooLarge w.left w.after text

-- what the work came to is so
abbrev pub IsAttempt : Work → Attempt → Type 0
IsAttempt w IsScript = IsDone w.left w.after (codes "a script\n")
IsAttempt w (Refused text) = IsRefused w.left w.after text.items
IsAttempt w ReadFault = IsReadFault w.before w.now (codes "read fault\n")
IsAttempt w TooLarge = IsTooLarge w.left w.after (codes "too large\n")
IsAttempt w OutOfMemory = w.now ≡ w.before

-- the status that tells what the work came to, and the text; none where memory ran out
abbrev pub status_in : Attempt → ℕ
status_in IsScript = 0
status_in (Refused text) = 3
status_in ReadFault = 4
status_in OutOfMemory = 6
status_in TooLarge = 9

abbrev pub text_in : Attempt → List ℕ
text_in IsScript = codes "a script\n"
text_in (Refused text) = text.items
text_in ReadFault = codes "read fault\n"
text_in OutOfMemory = []
text_in TooLarge = codes "too large\n"

-- a text was written, or it was a write fault and a part of the text from its front was
abbrev pub IsSaid : ℕ → List ℕ → Option (List ℕ) → Option (List ℕ) → ℕ → ℕ → ℕ → Type 0
IsSaid status text written after before now said = ((said ≡ status) × Appends written after text) ⊎ ((said ≡ 5) × (Rose before now × WritesPrefix written after text))

-- what the work came to was told: by its text, or by its status alone where memory ran out, and then the sink has counted no fault
abbrev pub IsSaidOf : Attempt → Option (List ℕ) → Option (List ℕ) → ℕ → ℕ → ℕ → Type 0
IsSaidOf OutOfMemory written after before now said = (said ≡ 6) × (after ≡ written) × (now ≡ before)
IsSaidOf attempt written after before now said = IsSaid (status_in attempt) (text_in attempt) written after before now said

abbrev pub IsStatus : ℕ → Type 0
IsStatus n = (((((n ≡ 0) ⊎ (n ≡ 3)) ⊎ (n ≡ 4)) ⊎ (n ≡ 5)) ⊎ (n ≡ 6)) ⊎ (n ≡ 9)
