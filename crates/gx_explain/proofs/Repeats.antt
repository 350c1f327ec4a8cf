-- The first name that is repeated, a token further.
use Rattle.std.proofs.Common.{◌≡◌, ℕ, ◌+◌, ◌<◌, Bool, false, if◌then◌else◌, List, ◌∷◌, length, drop, get_or, arith, sym, ◌∙◌, ap}
use Rattle.std.proofs.lemmas.List.{drop_more}
use Rattle.gx_lex.specs.declared.token.Token.{Token}
use Rattle.gx_explain.specs.Parts.{before_repeated, is_repeated, opens, with_name}

-- behind a token that repeats nothing
pub repeated-next : (assigned : Bool) (names more : List (List ℕ)) (opened after : Bool) (place n : ℕ) (ts : List Token) (y : Token) → place < length ts → y ≡ get_or ts place y
    → is_repeated names opened y ≡ false → more ≡ with_name names opened y → after ≡ opens assigned y
    → place + before_repeated assigned names opened (drop place ts) ≡ n → (place + 1) + before_repeated assigned more after (drop (place + 1) ts) ≡ n
repeated-next assigned names more opened after place n ts y within here new named opening sum =
    let rest = drop (place + 1) ts in
    let split : drop place ts ≡ y ∷ rest = drop_more ts place y within ∙ ap (λ (z : Token). z ∷ rest) (sym here) in
    let step : before_repeated assigned names opened (drop place ts) ≡ before_repeated assigned (with_name names opened y) (opens assigned y) rest + 1 =
    ap (λ (xs : List Token). before_repeated assigned names opened xs) split
    ∙ ap (λ (b : Bool). if b then 0 else before_repeated assigned (with_name names opened y) (opens assigned y) rest + 1) new in
    let same : before_repeated assigned more after rest ≡ before_repeated assigned (with_name names opened y) (opens assigned y) rest =
    ap (λ (ns : List (List ℕ)). before_repeated assigned ns after rest) named ∙ ap (λ (b : Bool). before_repeated assigned (with_name names opened y) b rest) opening in
    omega (arith, step, same, sum)
