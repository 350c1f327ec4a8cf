-- What the statements of generated work mean on an account.
use Rattle.std.proofs.Common.{◌≡◌, ◌<◌, ℕ, zero, suc, ◌+◌, ℤ, pos, ◌+ℤ◌, Bool, true, false, cond, List, [], ◌∷◌, Result, Ok, Err, Some, refl, sym, ap, ◌∙◌, arith}
use Rattle.std.proofs.lemmas.Bool.Decides.{nat_tests}
use Rattle.std.specs.Ordering.{int_cmp, is_eq}
use Rattle.std.specs.Prelude.{◌-ℤ◌, slice_get}
use Rattle.gx_tree.specs.declared.cond.CmpOp.TheVariants as cmp
use Rattle.gx_tree.specs.declared.cond.Cond.{Cond}
use Rattle.gx_tree.specs.declared.cond.Cond.TheVariants as cond
use Rattle.gx_tree.specs.declared.expr.ArithOp.{ArithOp}
use Rattle.gx_tree.specs.declared.expr.ArithOp.TheVariants as arith_op
use Rattle.gx_tree.specs.declared.expr.Expr.{Expr}
use Rattle.gx_tree.specs.declared.expr.Expr.TheVariants as expr
use Rattle.gx_tree.specs.declared.stmt.Assign.{Assign}
use Rattle.gx_tree.specs.declared.value.Value.{Value}
use Rattle.gx_tree.specs.declared.value.Value.TheVariants.{Int}
use Rattle.gx_tree.specs.Value.{value_order}
use Rattle.gx_meaning.proofs.Nodes.{truth_of-cmp, value_of-bin, value_of-col, value_of-lit}
use Rattle.gx_meaning.specs.Constants.{constant, each_from, values_of}
use Rattle.gx_meaning.specs.Expressions.{and_then, arithmetic, compared, in_range, is_in_range, number_in, truth_of, value_of}
use Rattle.gx_meaning.specs.declared.fault.ArithFault.{ArithFault}
use Rattle.gx_meaning.specs.declared.fault.ArithFault.TheVariants.{Overflow}
use Rattle.gx_store.specs.Writes.{set_row}
use Rattle.gx_work.specs.Work.{accounts_from, literal}

-- an account's row
abbrev pub account_image : ℕ → ℤ → List Value
account_image account balance = Int (pos account) ∷ Int balance ∷ []

abbrev pub on_account : ℕ → Cond
on_account account = cond.Cmp cmp.Eq (expr.Col 0) (literal account)

abbrev pub changes : ArithOp → ℕ → List Assign
changes op amount = record { col = 1; expr = expr.Bin op (expr.Col 1) (literal amount) } ∷ []

same-ok : {A : Type 0} (x y : A) → let r : Result A ArithFault = Ok x in r ≡ Ok y → x ≡ y
same-ok x y e = cc

-- the condition is the account's own
pub chosen-is : (account k : ℕ) (z : ℤ) → truth_of (account_image k z) (on_account account) ≡ Ok (is_eq (int_cmp (pos k) (pos account)))
chosen-is account k z =
    truth_of-cmp (account_image k z) cmp.Eq (expr.Col 0) (literal account)
    ∙ ap (λ r. and_then (and_then r (λ a. and_then (value_of (account_image k z) (literal account)) (λ b. Ok (value_order a b)))) (λ order. Ok (compared cmp.Eq order))) (value_of-col (account_image k z) 0)
    ∙ ap (λ r. and_then (and_then r (λ b. Ok (value_order (Int (pos k)) b))) (λ order. Ok (compared cmp.Eq order))) (value_of-lit (account_image k z) (Int (pos account)))

eq-is : (k account : ℕ) → is_eq (int_cmp (pos k) (pos account)) ≡ true → k ≡ account
eq-is k account e = grind (arith, nat_tests)

is-eq : (k : ℕ) → is_eq (int_cmp (pos k) (pos k)) ≡ true
is-eq k = grind (arith, nat_tests)

pub chosen-own : (account k : ℕ) (z : ℤ) → truth_of (account_image k z) (on_account account) ≡ Ok true → k ≡ account
chosen-own account k z e = eq-is k account (same-ok (is_eq (int_cmp (pos k) (pos account))) true (sym (chosen-is account k z) ∙ e))

pub own-chosen : (account : ℕ) (z : ℤ) → truth_of (account_image account z) (on_account account) ≡ Ok true
own-chosen account z = chosen-is account account z ∙ ap (λ b. Ok b) (is-eq account)

-- what an operation makes of a balance
abbrev pub changed : ArithOp → ℤ → ℕ → ℤ
changed arith_op.Sub z amount = z -ℤ pos amount
changed op z amount = z +ℤ pos amount

in-range : (z : ℤ) (v : Value) → in_range z ≡ Ok v → v ≡ Int z
in-range z v e = by_test (is_in_range z) e
  where
    by_test : (b : Bool) → (let r : Result Value ArithFault = cond b (Ok (Int z)) (Err Overflow) in r ≡ Ok v) → v ≡ Int z
    by_test true f = cc
    by_test false f = absurd (cc)

abbrev Set : ℕ → ℤ → Result Value ArithFault → Result (List Value) ArithFault
Set k z r = and_then r (λ value. Ok (Int (pos k) ∷ value ∷ []))

set-is : (op : ArithOp) (amount k : ℕ) (z : ℤ) → set_row (changes op amount) (account_image k z) ≡ Set k z (arithmetic op z (pos amount))
set-is op amount k z =
    ap (Set k z)
    (value_of-bin (account_image k z) op (expr.Col 1) (literal amount)
    ∙ ap (λ r. and_then r (λ a. and_then (value_of (account_image k z) (literal amount)) (λ b. arithmetic op (number_in a) (number_in b)))) (value_of-col (account_image k z) 1)
    ∙ ap (λ r. and_then r (λ b. arithmetic op z (number_in b))) (value_of-lit (account_image k z) (Int (pos amount))))

set-value : (k : ℕ) (z y : ℤ) (r : Result Value ArithFault) (new : List Value) → ((v : Value) → r ≡ Ok v → v ≡ Int y) → Set k z r ≡ Ok new → new ≡ account_image k y
set-value k z y (Ok v) new f e = sym (same-ok (Int (pos k) ∷ v ∷ []) new e) ∙ ap (λ x. Int (pos k) ∷ x ∷ []) (f v refl)
set-value k z y (Err fault) new f e = absurd (cc)

pub taken : (amount k : ℕ) (z : ℤ) (new : List Value) → set_row (changes arith_op.Sub amount) (account_image k z) ≡ Ok new → new ≡ account_image k (z -ℤ pos amount)
taken amount k z new e = set-value k z (z -ℤ pos amount) (arithmetic arith_op.Sub z (pos amount)) new (in-range (z -ℤ pos amount)) (sym (set-is arith_op.Sub amount k z) ∙ e)

pub given : (amount k : ℕ) (z : ℤ) (new : List Value) → set_row (changes arith_op.Add amount) (account_image k z) ≡ Ok new → new ≡ account_image k (z +ℤ pos amount)
given amount k z new e = set-value k z (z +ℤ pos amount) (arithmetic arith_op.Add z (pos amount)) new (in-range (z +ℤ pos amount)) (sym (set-is arith_op.Add amount k z) ∙ e)

-- THE LOAD
pub loaded-values : (k : ℕ) (values : List Value) → values_of (literal k ∷ literal 100 ∷ []) ≡ Ok values → values ≡ account_image k (pos 100)
loaded-values k values e = same-ok values (account_image k (pos 100)) (sym e ∙ made)
  where
    made : values_of (literal k ∷ literal 100 ∷ []) ≡ Ok (account_image k (pos 100))
    made =
        ap (λ x. and_then x (λ u. and_then (each_from constant 1 (literal 100 ∷ [])) (λ ys. Ok (u ∷ ys)))) (value_of-lit [] (Int (pos k)))
        ∙ ap (λ y. and_then (and_then y (λ v. and_then (Ok []) (λ ys. Ok (v ∷ ys)))) (λ ys. Ok (Int (pos k) ∷ ys))) (value_of-lit [] (Int (pos 100)))

-- the tuple at a place
pub tuple-at : (first n i : ℕ) (tuple : List Expr) → slice_get (accounts_from first n) i ≡ Some tuple → (i < n) × (tuple ≡ literal (first + i) ∷ literal 100 ∷ [])
tuple-at first zero i tuple e = absurd (cc)
tuple-at first (suc n) zero tuple e = (omega arith, head (literal first ∷ literal 100 ∷ []) tuple e ∙ ap (λ k. literal k ∷ literal 100 ∷ []) (plain first))
  where
    head : (x y : List Expr) → Some x ≡ Some y → y ≡ x
    head x y e = cc

    plain : (a : ℕ) → a ≡ a + 0
    plain a = omega arith
tuple-at first (suc n) (suc i) tuple e =
    let more = tuple-at (first + 1) n i tuple e in
    (up i n more.0, more.1 ∙ ap (λ k. literal k ∷ literal 100 ∷ []) (next first i))
  where
    up : (i n : ℕ) → i < n → suc i < suc n
    up i n l = omega arith

    next : (a i : ℕ) → a + 1 + i ≡ a + suc i
    next a i = omega arith
