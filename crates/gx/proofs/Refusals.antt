use Rattle.std.proofs.Common.{◌≡◌, ℕ, List, Some, Result, Err}
use Rattle.gx_script.specs.declared.Script.{Script}
use Rattle.gx_sql.specs.Answering.{Answers}
use Rattle.gx_sql.specs.declared.refusal.Refusal.{Refusal}
use Rattle.gx_sql.specs.declared.refusal.Refusal.TheVariants as refusal
use Rattle.gx_refusals.specs.Refused.{refusal_text}

-- a refusal that has a text is what the bytes are read as
pub read_as : (may : Result Script Refusal → Type 0) (e : Refusal) (text : List ℕ) → Answers may (Err e) → refusal_text e ≡ Some text → may (Err e)
read_as may (refusal.Syntax n) text a t = a
read_as may (refusal.UnknownTable n) text a t = a
read_as may (refusal.UnknownColumn n) text a t = a
read_as may (refusal.TableExists n) text a t = a
read_as may (refusal.TypeMismatch n) text a t = a
read_as may (refusal.KeyUpdate n) text a t = a
read_as may (refusal.TooMany n l) text a t = a
read_as may (refusal.NotUtf8 p) text a t = a
read_as may refusal.OutOfMemory text a t = cc
