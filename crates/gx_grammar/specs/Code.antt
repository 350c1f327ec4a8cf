-- What the readers' values stand for.
use Rattle.std.specs.Prelude.{◌≡◌, List, ◌++◌, length, reverse, Result, Ok, Err}
use Rattle.std.specs.declared.vec.Vec.{Vec}
use Rattle.std.specs.declared.alloc.Global.{Global}
use Rattle.gx_lex.specs.declared.token.Token.{Token}
use Rattle.gx_grammar.specs.declared.fault.Limits.{Limits}
use Rattle.gx_grammar.specs.declared.fault.Fault.{Fault}
use Rattle.gx_grammar.specs.declared.fault.ReadError.{ReadError}
use Rattle.gx_grammar.specs.declared.fault.ReadError.TheVariants as errors
use Rattle.gx_grammar.specs.declared.expr.Frame.{Frame}
use Rattle.gx_grammar.specs.declared.expr.Wait.{Wait}
use Rattle.gx_grammar.specs.declared.expr.Wait.TheVariants.{Operand, Operator}
use Rattle.gx_grammar.specs.declared.expr.Turn.{Turn}
use Rattle.gx_grammar.specs.declared.expr.Turn.TheVariants as turn
use Rattle.gx_grammar.specs.Machine.{Mode, Want, Have, Step, Go, Stop, Done}
use Rattle.gx_grammar.specs.declared.class.Picked.{Picked}
use Rattle.gx_grammar.specs.declared.class.Picked.TheVariants as picked
use Rattle.gx_grammar.specs.Rules.{Pick, Is, Isnt, Passes, Reading, Verdict, Stops}

-- the innermost first
abbrev pub stack : Vec Frame Global → List Frame
stack v = reverse v.items

abbrev pub mode_of : Wait → List Frame → Mode
mode_of (Operand c) k = Want c k
mode_of (Operator c t) k = Have c t k

abbrev pub turn_of : Turn → List Frame → Step
turn_of (turn.Stop e) k = Stop e
turn_of (turn.Go w) k = Go (mode_of w k)
turn_of (turn.Done t) k = Done t

abbrev pub pick_of : {T : Type 0} → Picked T → Pick T
pick_of (picked.Is x) = Is x
pick_of picked.Isnt = Isnt
pick_of (picked.Passes l) = Passes l

-- a result is this answer, unless memory ran out
abbrev pub Fails : {X : Type 0} → ReadError → Reading X → Type 0
Fails errors.OutOfMemory answer = Unit {0}
Fails (errors.Fault f left) answer = (rest : List Token) × (answer ≡ Err (f, rest)) × (left ≡ length rest)

abbrev pub Gives : {X Y : Type 0} → (X → Y × List Token) → Result X ReadError → Reading Y → Type 0
Gives view (Ok x) answer = answer ≡ Ok (view x)
Gives view (Err e) answer = Fails e answer

-- the same of a whole line
abbrev pub Says : {X : Type 0} → Result X ReadError → Result X Fault → Type 0
Says (Ok x) answer = answer ≡ Ok x
Says (Err errors.OutOfMemory) answer = Unit {0}
Says (Err (errors.Fault f left)) answer = answer ≡ Err f

-- the verdict on the tokens, unless memory ran out
abbrev pub Judged : {X : Type 0} → (Limits → X → List Token → Type 0) → Limits → List Token → Result X ReadError → Type 0
Judged g d ts (Ok x) = Verdict g d ts (Ok x)
Judged g d ts (Err errors.OutOfMemory) = Unit {0}
Judged g d ts (Err (errors.Fault f left)) = Verdict g d ts (Err f)

-- the tokens that are left
abbrev pub rest_of : {X : Type 0} → Reading X → List Token
rest_of (Ok (x, rest)) = rest
rest_of (Err (e, rest)) = rest

-- a fault tells how many tokens there are from the bad one on
abbrev pub Leaves : {X : Type 0} → Result X ReadError → Reading X → Type 0
Leaves (Ok x) reading = Unit {0}
Leaves (Err errors.OutOfMemory) reading = Unit {0}
Leaves (Err (errors.Fault f left)) reading = left ≡ length (rest_of reading)

-- a fault is that of the token from which on there are so many, or of the end where none is
abbrev pub Placed : {X : Type 0} → (Limits → X → List Token → Type 0) → Limits → List Token → Result X ReadError → Type 0
Placed g d ts (Ok x) = Unit {0}
Placed g d ts (Err errors.OutOfMemory) = Unit {0}
Placed g d ts (Err (errors.Fault f left)) = (us : List Token) × (rest : List Token) × (ts ≡ us ++ rest) × (left ≡ length rest) × Stops g d us rest f
