-- A number that no operator follows is read as an expression.
use Rattle.std.proofs.Common.{◌≡◌, ℕ, Bool, true, false, if◌then◌else◌, List, [], ◌∷◌, Option, Some, None, is_some, Ok, refl, ap}
use Rattle.gx_lex.specs.declared.token.Token.{Token}
use Rattle.gx_lex.specs.declared.token.Token.TheVariants as token
use Rattle.gx_grammar.specs.declared.fault.Limits.{Limits}
use Rattle.gx_grammar.specs.declared.syn.Op.{Op}
use Rattle.gx_grammar.specs.declared.syn.Syn.{Syn}
use Rattle.gx_grammar.specs.declared.syn.Syn.TheVariants.{Number}
use Rattle.gx_grammar.specs.Rules.{starts}
use Rattle.gx_grammar.specs.Machine.{Step, Done, after_step, expr_at, is_close, op_of, operator_by, run}

either_way : (t : Syn) (c : Bool) → (if c then Done t else Done t) ≡ Done t
either_way t true = refl
either_way t false = refl

ends : (d : Limits) (t : Syn) (x : Token) (o : Option Op) → is_some o ≡ false → operator_by d 0 t [] x o ≡ Done t
ends d t x (Some op) e = absurd cc
ends d t x None e = either_way t (is_close x)

pub number_alone : (d : Limits) (n : Option ℕ) (ts : List Token) → starts (λ x. is_some (op_of x)) ts ≡ false → expr_at d (token.Number n ∷ ts) ≡ Ok (Number false n, ts)
number_alone d n [] e = refl
number_alone d n (x ∷ xs) e = ap (λ (s : Step). after_step s (λ m. run d xs m) (x ∷ xs)) (ends d (Number false n) x (op_of x) e)
