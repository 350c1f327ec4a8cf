-- The order of the entries after a change.
use Rattle.std.proofs.Common.{ℕ, ◌+◌, ◌<◌, List, [], ◌∷◌, ◌++◌, Bool, arith}
use Rattle.std.proofs.lemmas.Bool.Decides.{nat_tests}
use Rattle.std.specs.Prelude.{Option, None, Some}
use Rattle.std.specs.Map.{lookup, set_value, remove_entry}
use Rattle.std.specs.BTreeMap.{is_at}
use Rattle.gx_ids.specs.declared.ids.Gxid.{Gxid}
use Rattle.gx_dsnap.specs.Gxids.{gxid_cmp}
use Rattle.gx_dtx.specs.declared.txn.Txn.{Txn}
use Rattle.gx_dtx.specs.Rules.{with_txn, with_found}
use Rattle.gx_dtx.specs.Whole.{IsBelowAll, AreRisen, AreDrawn}

below-set : (n : ℕ) (t : Gxid → Bool) (w : Txn) (es : List (Gxid × Txn)) → IsBelowAll n es → IsBelowAll n (set_value t es w)
below-set n t w [] below = tt
below-set n t w (e ∷ es) below = grind (arith, nat_tests, below-set n t w es below.1)

risen-set : (t : Gxid → Bool) (w : Txn) (es : List (Gxid × Txn)) → AreRisen es → AreRisen (set_value t es w)
risen-set t w [] risen = tt
risen-set t w (e ∷ es) risen = grind (arith, nat_tests, risen-set t w es risen.1, below-set e.0.0 t w es risen.0)

drawn-set : (n : ℕ) (t : Gxid → Bool) (w : Txn) (es : List (Gxid × Txn)) → AreDrawn n es → AreDrawn n (set_value t es w)
drawn-set n t w [] drawn = tt
drawn-set n t w (e ∷ es) drawn = grind (arith, nat_tests, drawn-set n t w es drawn.2)

risen-found : (g : Gxid) (f : Txn → Txn) (es : List (Gxid × Txn)) (o : Option Txn) → AreRisen es → AreRisen (with_found es g f o)
risen-found g f es None risen = risen
risen-found g f es (Some t) risen = risen-set (is_at (gxid_cmp g)) (f t) es risen

drawn-found : (n : ℕ) (g : Gxid) (f : Txn → Txn) (es : List (Gxid × Txn)) (o : Option Txn) → AreDrawn n es → AreDrawn n (with_found es g f o)
drawn-found n g f es None drawn = drawn
drawn-found n g f es (Some t) drawn = drawn-set n (is_at (gxid_cmp g)) (f t) es drawn

pub risen-with : (g : Gxid) (f : Txn → Txn) (es : List (Gxid × Txn)) → AreRisen es → AreRisen (with_txn es g f)
risen-with g f es risen = risen-found g f es (lookup (is_at (gxid_cmp g)) es) risen

pub drawn-with : (n : ℕ) (g : Gxid) (f : Txn → Txn) (es : List (Gxid × Txn)) → AreDrawn n es → AreDrawn n (with_txn es g f)
drawn-with n g f es drawn = drawn-found n g f es (lookup (is_at (gxid_cmp g)) es) drawn

below-remove : (n : ℕ) (t : Gxid → Bool) (es : List (Gxid × Txn)) → IsBelowAll n es → IsBelowAll n (remove_entry t es)
below-remove n t [] below = tt
below-remove n t (e ∷ es) below = grind (arith, nat_tests, below-remove n t es below.1)

pub risen-remove : (t : Gxid → Bool) (es : List (Gxid × Txn)) → AreRisen es → AreRisen (remove_entry t es)
risen-remove t [] risen = tt
risen-remove t (e ∷ es) risen = grind (arith, nat_tests, risen-remove t es risen.1, below-remove e.0.0 t es risen.0)

pub drawn-remove : (n : ℕ) (t : Gxid → Bool) (es : List (Gxid × Txn)) → AreDrawn n es → AreDrawn n (remove_entry t es)
drawn-remove n t [] drawn = tt
drawn-remove n t (e ∷ es) drawn = grind (arith, nat_tests, drawn-remove n t es drawn.2)

below-push : (n : ℕ) (g : Gxid) (t : Txn) (es : List (Gxid × Txn)) → n < g.0 → IsBelowAll n es → IsBelowAll n (es ++ (g, t) ∷ [])
below-push n g t [] under below = (under, tt)
below-push n g t (e ∷ es) under below = (below.0, below-push n g t es under below.1)

pub risen-push : (g : Gxid) (t : Txn) (es : List (Gxid × Txn)) → AreDrawn g.0 es → AreRisen es → AreRisen (es ++ (g, t) ∷ [])
risen-push g t [] drawn risen = (tt, tt)
risen-push g t (e ∷ es) drawn risen = (below-push e.0.0 g t es drawn.1 risen.0, risen-push g t es drawn.2 risen.1)

pub drawn-push : (g : Gxid) (t : Txn) (es : List (Gxid × Txn)) → 0 < g.0 → AreDrawn g.0 es → AreDrawn (g.0 + 1) (es ++ (g, t) ∷ [])
drawn-push g t [] first drawn = (first, omega arith, tt)
drawn-push g t (e ∷ es) first drawn = (drawn.0, omega (arith, drawn.1), drawn-push g t es first drawn.2)
