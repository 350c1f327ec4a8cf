-- The laws of the reader, for its code.
use Rattle.std.proofs.Common.{◌≡◌, ℕ, List, sym, ◌∙◌, subst, Result, Ok, Err, OnOk}
use Rattle.gx_ids.specs.declared.memory.OutOfMemory.{OutOfMemory}
use Rattle.gx_lex.specs.declared.token.Token.{Token}
use Rattle.gx_lex.specs.Lexing.{Lexes}
use Rattle.gx_lex.specs.Reader.{lex}
use Rattle.gx_lex.proofs.Lexed.{lexed}
use Rattle.gx_lex.proofs.Written.{lex_sound}

pub cut_ok : (bs : List ℕ) (out : List Token) (r : Result (Unit {0}) OutOfMemory) → OnOk r (out ≡ lex bs) → OnOk r (Lexes out bs)
cut_ok bs out (Ok u) h = subst (λ (x : List Token). Lexes x bs) (sym h) (lex_sound bs)
cut_ok bs out (Err e) h = tt

pub only_ok : (bs : List ℕ) (out ts : List Token) (r : Result (Unit {0}) OutOfMemory) → Lexes ts bs → OnOk r (out ≡ lex bs) → OnOk r (out ≡ ts)
only_ok bs out ts (Ok u) w h = h ∙ lexed ts bs w
only_ok bs out ts (Err e) w h = tt
