-- Lists and tests.
use Rattle.std.proofs.Common.{◌≡◌, Bool, true, false, cond, ◌&&◌, ◌||◌, List, [], ◌∷◌, Option, Some, None, refl, ap, ◌∙◌}
use Rattle.std.proofs.lemmas.List.{reverse-append}
use Rattle.std.proofs.lemmas.List.Folds.{find-append}
use Rattle.std.specs.Prelude.{find, option_map, reverse}
use Rattle.std.specs.List.{AllByRecursion}
use Rattle.std.specs.Option.{option_or}
use Rattle.gx_rows.specs.Rows.{last_passing}

pub all_map : {X : Type 0} {P Q : X → Type 0} → ((x : X) → P x → Q x) → (xs : List X) → AllByRecursion P xs → AllByRecursion Q xs
all_map more [] all = tt
all_map more (x ∷ xs) all = (more x all.0, all_map more xs all.1)

pub and_parts : (a b : Bool) → (a && b) ≡ true → (a ≡ true) × (b ≡ true)
and_parts true b e = (refl, e)
and_parts false b e = absurd (cc)

pub or_any : (a : Bool) → (a || true) ≡ true
or_any true = refl
or_any false = refl

pub last_passing-cons : {X : Type 0} (p : X → Bool) (x : X) (xs : List X) → last_passing p (x ∷ xs) ≡ option_or (last_passing p xs) (cond (p x) (Some x) None)
last_passing-cons p x xs = ap (find p) (reverse-append (x ∷ []) xs) ∙ find-append p (reverse xs) (x ∷ [])

pub or_none : {A : Type 0} (o : Option A) → option_or o None ≡ o
or_none None = refl
or_none (Some x) = refl

-- the last of a list, mapped
pub or_mapped : {X Y : Type 0} (f : X → Y) (x : X) (o : Option X) (b : Bool) → option_map f (option_or o (cond b (Some x) None)) ≡ option_or (option_map f o) (cond b (Some (f x)) None)
or_mapped f x None true = refl
or_mapped f x None false = refl
or_mapped f x (Some y) b = refl
