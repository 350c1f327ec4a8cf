use Rattle.std.proofs.Common.{◌≡◌, ◌∙◌, ◌⊎◌, inl, inr, ◌==◌, ◌&&◌, Bool, true, false, List, [], ◌∷◌, length, refl, sym, ap, arith}
use Rattle.std.proofs.lemmas.Bool.Decides.{nat_tests}
use Rattle.std.specs.List.{list_all, zip}
use Rattle.gx_legal.specs.Told.{are_same_cells}
use Rattle.gx_legal.proofs.shown.is_same_answer.Goals as goal

-- where one of two lists is at its end
none_left : {X Y : Type 0} (P Q : Type 0) (xs : List X) (ys : List Y) → (P → length xs ≡ 0) → (Q → length ys ≡ 0) → P ⊎ Q → zip xs ys ≡ []
none_left P Q [] ys first second end = refl
none_left P Q (x ∷ xs) [] first second end = refl
none_left P Q (x ∷ xs) (y ∷ ys) first second (inl p) = absurd (omega (arith, first p))
none_left P Q (x ∷ xs) (y ∷ ys) first second (inr q) = absurd (omega (arith, second q))

both : (a b : Bool) → a ≡ true → true ≡ b → true ≡ (a && b)
both true b e f = f
both false b e f = sym e

pub returns : goal.returns
returns c =
    let long : (length c.args.rows.now == length c.args.others.now) ≡ true = grind (arith, nat_tests, c.if-rows-others.false) in
    both (length c.args.rows.now == length c.args.others.now) _ long
    (ap (list_all (λ p. are_same_cells p.0 p.1)) (sym (none_left _ _ c.loop-row.row-iterator.a.rest.now c.loop-row.row-iterator.b.rest.now (λ p. p.1.0) (λ p. p.1.0) c.in-None.ensures.steps))
    ∙ c.loop-row.invariant)
