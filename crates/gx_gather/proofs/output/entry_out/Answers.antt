use Rattle.std.proofs.Common.{◌≡◌, ◌∙◌, ◌⊎◌, inl, inr, ◌++◌, List, [], ◌∷◌, length, map, refl, ap, sym, arith, append-nil}
use Rattle.std.specs.List.{zip}
use Rattle.gx_meaning.specs.Tallies.{out_cell}
use Rattle.gx_gather.proofs.output.entry_out.Goals as goal

-- where one of two lists is at its end
none_left : {X Y : Type 0} (P Q : Type 0) (xs : List X) (ys : List Y) → (P → length xs ≡ 0) → (Q → length ys ≡ 0) → P ⊎ Q → zip xs ys ≡ []
none_left P Q [] ys first second end = refl
none_left P Q (x ∷ xs) [] first second end = refl
none_left P Q (x ∷ xs) (y ∷ ys) first second (inl p) = absurd (omega (arith, first p))
none_left P Q (x ∷ xs) (y ∷ ys) first second (inr q) = absurd (omega (arith, second q))

pub returns : goal.returns
returns c =
    c.from_vec.ensures ∙ sym (append-nil c.loop-item.out.items)
    ∙ ap (λ l. c.loop-item.out.items ++ map (λ p. out_cell c.args.query.now.group c.args.entry.now.0 p.0 p.1) l)
    (sym (none_left _ _ c.loop-item.item-iterator.a.rest.now c.loop-item.item-iterator.b.rest.now (λ p. p.1.0) (λ p. p.1.0) c.in-None.ensures.steps))
    ∙ c.loop-item.invariant
