-- Which transaction is found after a change of the entries.
use Rattle.std.proofs.Common.{◌≡◌, ℕ, ◌<◌, ◌≤◌, List, [], ◌∷◌, ◌++◌, refl, ap, ◌∙◌, true, cond, eqb, arith}
use Rattle.std.proofs.lemmas.Bool.Decides.{nat_tests}
use Rattle.std.specs.Prelude.{Option, None, Some, option_map}
use Rattle.std.specs.Map.{lookup, set_value, remove_entry}
use Rattle.std.specs.BTreeMap.{is_at, insert_entry}
use Rattle.gx_ids.specs.declared.ids.Gxid.{Gxid}
use Rattle.gx_dsnap.specs.Gxids.{gxid_cmp}
use Rattle.gx_dtx.specs.declared.txn.Txn.{Txn}
use Rattle.gx_dtx.specs.Table.{runs}
use Rattle.gx_dtx.specs.Rules.{with_txn, with_found}
use Rattle.gx_dtx.specs.Whole.{IsBelowAll, AreRisen, AreDrawn}

-- nothing is found at or below what is below all
pub find-below : (n : ℕ) (q : Gxid) (es : List (Gxid × Txn)) → IsBelowAll n es → q.0 ≤ n → lookup (is_at (gxid_cmp q)) es ≡ None
find-below n q [] below low = refl
find-below n q (e ∷ es) below low = grind (arith, nat_tests, find-below n q es below.1 low)

module _ (g q : Gxid) where
  find-set : (w : Txn) (es : List (Gxid × Txn)) → lookup (is_at (gxid_cmp q)) (set_value (is_at (gxid_cmp g)) es w) ≡ cond (eqb q.0 g.0) (option_map (λ _. w) (lookup (is_at (gxid_cmp g)) es)) (lookup (is_at (gxid_cmp q)) es)
  find-set w [] = grind (arith, nat_tests)
  find-set w (e ∷ es) = grind (arith, nat_tests, find-set w es)

  find-found : (f : Txn → Txn) (es : List (Gxid × Txn)) (o : Option Txn) → lookup (is_at (gxid_cmp g)) es ≡ o → lookup (is_at (gxid_cmp q)) (with_found es g f o) ≡ cond (eqb q.0 g.0) (option_map f o) (lookup (is_at (gxid_cmp q)) es)
  find-found f es None found = grind (arith, nat_tests)
  find-found f es (Some t) found = find-set (f t) es ∙ ap (λ o. cond (eqb q.0 g.0) (option_map (λ _. f t) o) (lookup (is_at (gxid_cmp q)) es)) found

  -- after a transaction was written
  pub find-with : (f : Txn → Txn) (es : List (Gxid × Txn)) → lookup (is_at (gxid_cmp q)) (with_txn es g f) ≡ cond (eqb q.0 g.0) (option_map f (lookup (is_at (gxid_cmp g)) es)) (lookup (is_at (gxid_cmp q)) es)
  find-with f es = find-found f es (lookup (is_at (gxid_cmp g)) es) refl

  -- after one was added behind the others
  pub find-push : (t : Txn) (es : List (Gxid × Txn)) → AreDrawn g.0 es → lookup (is_at (gxid_cmp q)) (es ++ (g, t) ∷ []) ≡ cond (eqb q.0 g.0) (Some t) (lookup (is_at (gxid_cmp q)) es)
  find-push t [] drawn = grind (arith, nat_tests)
  find-push t (e ∷ es) drawn = grind (arith, nat_tests, find-push t es drawn.2)

  -- after one was taken out
  pub find-remove : (es : List (Gxid × Txn)) → AreRisen es → lookup (is_at (gxid_cmp q)) (remove_entry (is_at (gxid_cmp g)) es) ≡ cond (eqb q.0 g.0) None (lookup (is_at (gxid_cmp q)) es)
  find-remove [] risen = grind (arith, nat_tests)
  find-remove (e ∷ es) risen = grind (arith, nat_tests, find-remove es risen.1, find-below e.0.0 q es risen.0)

-- a transaction that runs was drawn
pub running-drawn : (n : ℕ) (q : Gxid) (es : List (Gxid × Txn)) → AreDrawn n es → runs (lookup (is_at (gxid_cmp q)) es) ≡ true → (0 < q.0) × (q.0 < n)
running-drawn n q [] drawn is = grind arith
running-drawn n q (e ∷ es) drawn is = grind (arith, nat_tests, running-drawn n q es drawn.2)

-- the greatest number goes to the end
pub insert_entry-last : (g : Gxid) (t : Txn) (es : List (Gxid × Txn)) → AreDrawn g.0 es → insert_entry gxid_cmp es g t ≡ es ++ (g, t) ∷ []
insert_entry-last g t [] drawn = refl
insert_entry-last g t (e ∷ es) drawn = grind (arith, nat_tests, insert_entry-last g t es drawn.2)

-- the next number isn't there yet
pub find-next : (g : Gxid) (es : List (Gxid × Txn)) → AreDrawn g.0 es → lookup (is_at (gxid_cmp g)) es ≡ None
find-next g [] drawn = refl
find-next g (e ∷ es) drawn = grind (arith, nat_tests, find-next g es drawn.2)
