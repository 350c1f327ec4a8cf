-- What the work comes to, by what the bytes are.
use Rattle.std.proofs.Common.{◌≡◌, inl, inr, ℕ, List, ◌++◌, Result, Ok, Err, IfOk, refl, subst}
use Rattle.std.proofs.lemmas.Result.{IfOk-weaker}
use Rattle.std.specs.Prelude.{Option}
use Rattle.std.specs.Str.{IsUtf8}
use Rattle.std.specs.Str.Lossy.{utf8_valid_len}
use Rattle.std.specs.declared.alloc.Global.{Global}
use Rattle.std.specs.declared.vec.Vec.{Vec}
use Rattle.gx_lex.specs.declared.token.Token.{Token}
use Rattle.gx_sql.specs.declared.refusal.LineFault.{LineFault}
use Rattle.gx_sql.specs.declared.refusal.LineFault.TheVariants as fault
use Rattle.gx_sql.specs.declared.refusal.Refusal.TheVariants as refusal
use Rattle.gx_sql.specs.Lines.{lines_of}
use Rattle.gx_sql.specs.Progress.{Progress, start}
use Rattle.gx_sql.specs.Script.{ReadsOn, refused}
use Rattle.gx_explain.specs.declared.attempt.Attempt.{Attempt}
use Rattle.gx_explain.specs.declared.attempt.Attempt.TheVariants as attempt
use Rattle.gx_explain.specs.declared.reading.Ending.TheVariants as ending
use Rattle.gx_explain.specs.Reading.{Comes, IsEnding}
use Rattle.gx_explain.specs.Reasons.{reason_at, reason_utf8}
use Rattle.gx_explain.specs.Top.{AreShown, IsAttempt, IsLineTold, IsOfBytes, IsRead, IsTold, refused_as, work}

pub of-bytes : (left after : Option (List ℕ)) (before now : ℕ) (bytes : List ℕ) → IsRead left after bytes → now ≡ before → (a : Attempt) → IsOfBytes bytes a → IsAttempt (work left after before now) a
of-bytes left after before now bytes read calm attempt.IsScript is = record { bytes = bytes; read = read; script = is.0; is = is.1; told = refl }
of-bytes left after before now bytes read calm (attempt.Refused text) is = record { bytes = bytes; read = read; refusal = is.0; is = is.1; told = is.2 }
of-bytes left after before now bytes read calm attempt.ReadFault is = absurd is
of-bytes left after before now bytes read calm attempt.TooLarge is = absurd is
of-bytes left after before now bytes read calm attempt.OutOfMemory is = calm

-- by what is wrong with the line
told_of : (bytes text : List ℕ) (n : ℕ) (f : LineFault) → IsLineTold bytes n f text → IsTold bytes (refused n f) text
told_of bytes text n fault.Syntax h = h
told_of bytes text n fault.UnknownTable h = h
told_of bytes text n fault.UnknownColumn h = h
told_of bytes text n fault.TableExists h = h
told_of bytes text n fault.TypeMismatch h = h
told_of bytes text n fault.KeyUpdate h = h
told_of bytes text n (fault.TooMany l) h = h

-- what is told of a line, and before that why it is refused
abbrev pub Says : Progress → ℕ → LineFault → List (List ℕ) → List ℕ → Type 0
Says q n f rest text = (shown : List ℕ) × (words : List ℕ) × AreShown q f rest shown × (text ≡ reason_at n f ++ (shown ++ words))

of_line : (bytes : List ℕ) (q : Progress) (rest : List (List ℕ)) (n : ℕ) (f : LineFault) (text : Vec ℕ Global) → IsUtf8 bytes → ReadsOn 1 start (lines_of bytes) (Err (refused n f)) → Comes 1 start (lines_of bytes) n q rest
    → Says q n f rest text.items → IsOfBytes bytes (attempt.Refused text)
of_line bytes q rest n f text utf8 reads comes (shown, words, is, told) =
    (refused n f, inl (utf8, reads), told_of bytes text.items n f (record { said = q; lines = rest; before = comes; shown = shown; is = is; words = words; told = told }))

of_text : {E : Type 0} (bytes : List ℕ) (r : Result (Vec ℕ Global) E) → IfOk r (λ text. IsOfBytes bytes (attempt.Refused text)) → IsOfBytes bytes (refused_as r)
of_text bytes (Ok text) h = h
of_text bytes (Err e) h = tt

-- a line that is refused, behind nothing
pub of-line : {E : Type 0} (bytes : List ℕ) (p q : Progress) (rest : List (List ℕ)) (ts : List Token) (n : ℕ) (f : LineFault) (r : Result (Vec ℕ Global) E)
    → p ≡ start → IsUtf8 bytes → IsEnding p (lines_of bytes) q rest ts (ending.Refused n f) → IfOk r (λ text. Says q n f rest text.items) → IsOfBytes bytes (refused_as r)
of-line bytes p q rest ts n f r e utf8 is told =
    let is = subst (λ (p : Progress). IsEnding p (lines_of bytes) q rest ts (ending.Refused n f)) e is in
    of_text bytes r (IfOk-weaker r _ _ (λ text h. of_line bytes q rest n f text utf8 is.0 is.1 h) told)

pub of-utf8 : {E : Type 0} (bytes : List ℕ) (r : Result (Vec ℕ Global) E) → (IsUtf8 bytes → ⊥) → IfOk r (λ text. text.items ≡ reason_utf8 (utf8_valid_len bytes)) → IsOfBytes bytes (refused_as r)
of-utf8 bytes r h told = of_text bytes r (IfOk-weaker r _ _ (λ text e. (refusal.NotUtf8 (utf8_valid_len bytes), inr (h, refl), e)) told)
