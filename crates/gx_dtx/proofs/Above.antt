-- A node above all of a list.
use Rattle.std.proofs.Common.{◌≡◌, ◌∙◌, List, [], ◌∷◌, ◌++◌, refl, sym, ap, Bool, true, false, cond, ltb, arith, filter}
use Rattle.std.proofs.lemmas.Bool.Decides.{nat_tests}
use Rattle.std.proofs.lemmas.List.{append-nil}
use Rattle.std.specs.Prelude.{Result, Ok, Err, OnOk}
use Rattle.std.specs.List.{list_all}
use Rattle.gx_ids.specs.declared.ids.Node.{Node}
use Rattle.gx_ids.specs.declared.memory.OutOfMemory.{OutOfMemory}
use Rattle.gx_dtx.specs.Nodes.{has, with_node}

module _ (i : Node) where
  has-above : (ns : List Node) → list_all (λ j. ltb j.0 i.0) ns ≡ true → has i ns ≡ false
  has-above [] all = refl
  has-above (j ∷ ns) all = grind (arith, nat_tests, has-above ns)

  below-above : (ns : List Node) → list_all (λ j. ltb j.0 i.0) ns ≡ true → filter (λ j. ltb j.0 i.0) ns ≡ ns
  below-above [] all = refl
  below-above (j ∷ ns) all = grind (arith, nat_tests, below-above ns)

  none-above : (ns : List Node) → list_all (λ j. ltb j.0 i.0) ns ≡ true → filter (λ j. ltb i.0 j.0) ns ≡ []
  none-above [] all = refl
  none-above (j ∷ ns) all = grind (arith, nat_tests, none-above ns)

  with_at : (ns low high : List Node) (b : Bool) → b ≡ false → low ≡ ns → high ≡ [] → ns ++ i ∷ [] ≡ cond b ns (low ++ i ∷ [] ++ high)
  with_at ns low high true is are none = absurd (cc)
  with_at ns low high false is are none = sym (ap (λ l. l ++ i ∷ [] ++ high) are ∙ ap (λ l. (ns ++ i ∷ []) ++ l) none ∙ append-nil (ns ++ i ∷ []))

  -- it goes to the end
  with-above : (ns : List Node) → list_all (λ j. ltb j.0 i.0) ns ≡ true → ns ++ i ∷ [] ≡ with_node i ns
  with-above ns all = with_at ns (filter (λ j. ltb j.0 i.0) ns) (filter (λ j. ltb i.0 j.0) ns) (has i ns) (has-above ns all) (below-above ns all) (none-above ns all)

  pub put-above : (ns new : List Node) (r : Result (Unit {0}) OutOfMemory) (b : Bool) → b ≡ list_all (λ j. ltb j.0 i.0) ns → b ≡ true → OnOk r (new ≡ ns ++ i ∷ []) → OnOk r (new ≡ with_node i ns)
  put-above ns new (Ok u) b are all is = is ∙ with-above ns (sym are ∙ all)
  put-above ns new (Err e) b are all is = tt
