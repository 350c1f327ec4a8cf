-- From each state some bytes lead to an item.
use Rattle.std.proofs.Common.{◌≡◌, ℕ, List, [], ◌∷◌, ◌++◌, Option, Some, None, refl}
use Rattle.gx_msg.specs.declared.mid.Mid.{Mid}
use Rattle.gx_msg.specs.Steps.{next}

-- the state behind these bytes, where the reader goes on so far
abbrev pub onward : (Mid → Option Mid) → Option Mid → Option Mid
onward f None = None
onward f (Some m) = f m

abbrev pub run : List ℕ → Mid → Option Mid
run [] m = Some m
run (b ∷ bs) m = onward (run bs) (next m b)

append_by : (us vs : List ℕ) → ((n : Mid) → run (us ++ vs) n ≡ onward (run vs) (run us n)) → (o : Option Mid) → onward (run (us ++ vs)) o ≡ onward (run vs) (onward (run us) o)
append_by us vs ih None = refl
append_by us vs ih (Some n) = ih n

pub run-append : (us vs : List ℕ) (m : Mid) → run (us ++ vs) m ≡ onward (run vs) (run us m)
run-append [] vs m = refl
run-append (b ∷ us) vs m = append_by us vs (λ n. run-append us vs n) (next m b)
