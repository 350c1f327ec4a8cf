-- A fault is among those of its message.
use Rattle.std.proofs.Common.{◌≡◌, ℕ, Bool, true, false, cond, ◌&&◌, ◌||◌, refl, sym, ap, ◌∙◌, eqb, arith}
use Rattle.std.proofs.lemmas.Bool.Decides.{nat_tests}
use Rattle.std.specs.BTreeMap.{is_at}
use Rattle.gx_agenda.specs.Links.{message_cmp}

-- the message of a number on a link is another one's, where both numbers are
pub is_same_message : (l n link number : ℕ) → is_at (message_cmp (record { link = l; number = n })) (record { link = link; number = number }) ≡ (eqb l link && eqb n number)
is_same_message l n link number = grind (arith, nat_tests)

there_or : (here old : Bool) → cond here true old ≡ (old || (here && true))
there_or true true = refl
there_or true false = refl
there_or false true = refl
there_or false false = refl

-- what a set has once a message was added
pub added_there : (has had : Bool) (l n link number f : ℕ) (is : Bool) → has ≡ cond (is_at (message_cmp (record { link = l; number = n })) (record { link = link; number = number })) true had → l ≡ f → is ≡ true → has ≡ (had || ((eqb f link && eqb n number) && is))
added_there has had l n link number f is e same holds =
    e ∙ ap (λ b. cond b true had) (is_same_message l n link number) ∙ there_or (eqb l link && eqb n number) had
    ∙ ap (λ k. had || ((eqb k link && eqb n number) && true)) same ∙ ap (λ b. had || ((eqb f link && eqb n number) && b)) (sym holds)
