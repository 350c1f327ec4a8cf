-- What a snapshot sees.
use Rattle.std.proofs.Common.{◌≡◌, ℕ, ◌<◌, ◌≤◌, List, [], ◌∷◌, refl, ap, ◌∙◌, false, arith, map, filter}
use Rattle.std.proofs.lemmas.Bool.Decides.{nat_tests}
use Rattle.std.specs.Prelude.{Option, None, Some, ◌&&◌, not}
use Rattle.std.specs.Map.{lookup}
use Rattle.std.specs.BTreeMap.{is_at}
use Rattle.gx_ids.specs.declared.ids.Gxid.{Gxid}
use Rattle.gx_dsnap.specs.Gxids.{gxid_cmp, is_listed, is_below, after_ended}
use Rattle.gx_dsnap.specs.Snapshot.{sees}
use Rattle.gx_dsnap.specs.declared.snapshot.Snapshot.{Snapshot}
use Rattle.gx_dtx.specs.declared.txn.Txn.{Txn}
use Rattle.gx_dtx.specs.Table.{Table, runs, is_running, find_txn, running_of, listed_of, xmax_of, has_ended}
use Rattle.gx_dtx.specs.Whole.{IsBelowAll, AreRisen, IsLatest, IsWhole}

running_in : List (Gxid × Txn) → List Gxid
running_in es = map (λ e. e.0) (filter (λ e. is_running e.1.phase) es)

-- what is below all isn't among those that run
not-listed : (n : ℕ) (g : Gxid) (es : List (Gxid × Txn)) → IsBelowAll n es → g.0 ≤ n → is_listed g (map (λ e. e.0) (filter (λ e. is_running e.1.phase) es)) ≡ false
not-listed n g [] below low = refl
not-listed n g (e ∷ es) below low = grind (arith, nat_tests, not-listed n g es below.1 low)

-- those that run are those that are found running
listed-runs : (g : Gxid) (es : List (Gxid × Txn)) → AreRisen es → is_listed g (map (λ e. e.0) (filter (λ e. is_running e.1.phase) es)) ≡ runs (lookup (is_at (gxid_cmp g)) es)
listed-runs g [] risen = refl
listed-runs g (e ∷ es) risen = grind (arith, nat_tests, listed-runs g es risen.1, not-listed e.0.0 g es risen.0)

-- of those below a limit
listed-below : (limit g : Gxid) (gs : List Gxid) → is_listed g (filter (is_below limit) gs) ≡ (is_below limit g && is_listed g gs)
listed-below limit g [] = grind (arith, nat_tests)
listed-below limit g (h ∷ gs) = grind (arith, nat_tests, listed-below limit g gs)

ended-below : (d : Table) (l : Option Gxid) (g : Gxid) → IsLatest d l → 0 < g.0 → (is_below (after_ended l) g && not (is_below (after_ended l) g && runs (find_txn d g))) ≡ has_ended d g
ended-below d None g is first = grind (arith, nat_tests, is g first)
ended-below d (Some e) g is first = grind (arith, nat_tests, is.1, is.3 g)

-- a snapshot of these transactions sees just those that have ended
pub sees-ended : (d : Table) (snap : Snapshot) (g : Gxid) → IsWhole d → snap.xmax ≡ xmax_of d → snap.running ≡ listed_of d → 0 < g.0 → sees snap g ≡ has_ended d g
sees-ended d snap g w xmax running first =
    ap (λ (x : Gxid). is_below x g && not (is_listed g snap.running)) xmax
    ∙ ap (λ gs. is_below (xmax_of d) g && not (is_listed g gs)) running
    ∙ ap (λ b. is_below (xmax_of d) g && not b) (listed-below (xmax_of d) g (running_of d) ∙ ap (λ b. is_below (xmax_of d) g && b) (listed-runs g d.txns w.risen))
    ∙ ended-below d d.latest_ended g w.latest first
