-- Each rule keeps the table whole.
use Rattle.std.proofs.Common.{◌≡◌, ℕ, ◌+◌, ◌<◌, List, refl, sym, ap, subst, ◌∙◌, Bool, true, false, cond, eqb, ltb, arith}
use Rattle.std.proofs.lemmas.Bool.Decides.{nat_tests}
use Rattle.std.specs.Prelude.{Option, None, Some, option_map, ◌&&◌, not}
use Rattle.std.specs.Map.{lookup}
use Rattle.std.specs.BTreeMap.{is_at}
use Rattle.gx_ids.specs.declared.ids.Gxid.{Gxid}
use Rattle.gx_dsnap.specs.Gxids.{gxid_cmp}
use Rattle.gx_dtx.specs.declared.change.Change.{Change}
use Rattle.gx_dtx.specs.declared.change.Step.{Step}
use Rattle.gx_dtx.specs.declared.change.Step.TheVariants.{Stays, GoesTo, Leaves}
use Rattle.gx_dtx.specs.declared.phase.Phase.{Phase}
use Rattle.gx_dtx.specs.declared.txn.Txn.{Txn}
use Rattle.gx_dtx.specs.Table.{Table, new_table, new_txn, find_txn, runs, is_running}
use Rattle.gx_dtx.specs.Rules.{begun, with_txn, with_step, with_ended, moved, ends, changed}
use Rattle.gx_dtx.specs.Whole.{IsLatest, IsWhole, AreRisen, AreDrawn}
use Rattle.gx_dtx.specs.Fits.{Fits, runs_after}
use Rattle.gx_dtx.proofs.Finds.{find-with, find-push, find-remove, running-drawn}
use Rattle.gx_dtx.proofs.Entries.{risen-with, drawn-with, risen-remove, drawn-remove, risen-push, drawn-push}

pub IsWhole-new : IsWhole new_table
IsWhole-new = record { first = omega arith; risen = tt; drawn = tt; latest = λ g a b. absurd (omega arith) }

-- ---- a transaction begins

runs-cond : (b : Bool) (o u : Option Txn) → runs (cond b o u) ≡ cond b (runs o) (runs u)
runs-cond true o u = refl
runs-cond false o u = refl

pub runs-begun : (d : Table) (q : Gxid) → AreDrawn d.next.0 d.txns → runs (find_txn (begun d) q) ≡ cond (eqb q.0 d.next.0) true (runs (find_txn d q))
runs-begun d q drawn = ap runs (find-push d.next q new_txn d.txns drawn) ∙ runs-cond (eqb q.0 d.next.0) (Some new_txn) (find_txn d q)

latest-begun : (n : ℕ) (f h : Gxid → Bool) (q : Gxid) → ((g : Gxid) → h g ≡ cond (eqb g.0 n) true (f g)) → (q.0 < n → f q ≡ true) → q.0 < n + 1 → h q ≡ true
latest-begun n f h q are old under = grind (arith, nat_tests, are q)

IsLatest-begun : (d : Table) (l : Option Gxid) → AreDrawn d.next.0 d.txns → IsLatest d l → IsLatest (begun d) l
IsLatest-begun d None drawn is = λ g first under. latest-begun d.next.0 (λ g. runs (find_txn d g)) (λ g. runs (find_txn (begun d) g)) g (λ g. runs-begun d g drawn) (is g first) under
IsLatest-begun d (Some e) drawn is =
    (is.0, omega (arith, is.1), runs-begun d e drawn ∙ grind (arith, nat_tests, is.1, is.2), λ g over under. latest-begun d.next.0 (λ g. runs (find_txn d g)) (λ g. runs (find_txn (begun d) g)) g (λ g. runs-begun d g drawn) (is.3 g over) under)

pub IsWhole-begun : (d : Table) → IsWhole d → IsWhole (begun d)
IsWhole-begun d w = record {
  first = omega arith;
  risen = risen-push d.next new_txn d.txns w.drawn w.risen;
  drawn = drawn-push d.next new_txn d.txns w.first w.drawn;
  latest = IsLatest-begun d d.latest_ended w.drawn w.latest;
}

-- ---- the same transactions run

IsLatest-same : (d c : Table) (l : Option Gxid) → c.next ≡ d.next → ((q : Gxid) → runs (find_txn c q) ≡ runs (find_txn d q)) → IsLatest d l → IsLatest c l
IsLatest-same d c None next same is = λ g first under. same g ∙ is g first (subst (λ (n : Gxid). g.0 < n.0) next under)
IsLatest-same d c (Some e) next same is =
    (is.0, subst (λ (n : Gxid). e.0 < n.0) (sym next) is.1, same e ∙ is.2, λ g over under. same g ∙ is.3 g over (subst (λ (n : Gxid). g.0 < n.0) next under))

runs-map : (f : Txn → Txn) (o : Option Txn) → ((t : Txn) → (f t).phase ≡ t.phase) → runs (option_map f o) ≡ runs o
runs-map f None same = refl
runs-map f (Some t) same = ap is_running (same t)

same_gxid : (g q : Gxid) → eqb q.0 g.0 ≡ true → g ≡ q
same_gxid g q same = grind (arith, nat_tests)

runs-with_at : (es : List (Gxid × Txn)) (g q : Gxid) (f : Txn → Txn) (b : Bool) → eqb q.0 g.0 ≡ b → ((t : Txn) → (f t).phase ≡ t.phase) → runs (cond b (option_map f (lookup (is_at (gxid_cmp g)) es)) (lookup (is_at (gxid_cmp q)) es)) ≡ runs (lookup (is_at (gxid_cmp q)) es)
runs-with_at es g q f true is same = runs-map f (lookup (is_at (gxid_cmp g)) es) same ∙ ap (λ (h : Gxid). runs (lookup (is_at (gxid_cmp h)) es)) (same_gxid g q is)
runs-with_at es g q f false is same = refl

pub runs-with : (es : List (Gxid × Txn)) (g q : Gxid) (f : Txn → Txn) → ((t : Txn) → (f t).phase ≡ t.phase) → runs (lookup (is_at (gxid_cmp q)) (with_txn es g f)) ≡ runs (lookup (is_at (gxid_cmp q)) es)
runs-with es g q f same = ap runs (find-with g q f es) ∙ runs-with_at es g q f (eqb q.0 g.0) refl same

pub IsWhole-with : (d : Table) (g : Gxid) (f : Txn → Txn) → ((t : Txn) → (f t).phase ≡ t.phase) → IsWhole d → IsWhole (record d { txns = with_txn d.txns g f })
IsWhole-with d g f same w = record {
  first = w.first;
  risen = risen-with g f d.txns w.risen;
  drawn = drawn-with d.next.0 g f d.txns w.drawn;
  latest = IsLatest-same d (record d { txns = with_txn d.txns g f }) d.latest_ended refl (λ q. runs-with d.txns g q f same) w.latest;
}

-- ---- a change of one transaction

runs_after-of : (o : Option Txn) (p : Phase) → runs (option_map (moved p) o) ≡ runs_after (GoesTo p) o
runs_after-of None p = refl
runs_after-of (Some t) p = refl

cond-same : (b : Bool) (x : Bool) → cond b x x ≡ x
cond-same true x = refl
cond-same false x = refl

runs-stays : (es : List (Gxid × Txn)) (g q : Gxid) (b : Bool) → eqb q.0 g.0 ≡ b → runs (lookup (is_at (gxid_cmp q)) es) ≡ cond b (runs (lookup (is_at (gxid_cmp g)) es)) (runs (lookup (is_at (gxid_cmp q)) es))
runs-stays es g q true is = ap (λ (h : Gxid). runs (lookup (is_at (gxid_cmp h)) es)) (sym (same_gxid g q is))
runs-stays es g q false is = refl

pub runs-step : (es : List (Gxid × Txn)) (g q : Gxid) (s : Step) → AreRisen es → runs (lookup (is_at (gxid_cmp q)) (with_step es g s)) ≡ cond (eqb q.0 g.0) (runs_after s (lookup (is_at (gxid_cmp g)) es)) (runs (lookup (is_at (gxid_cmp q)) es))
runs-step es g q Stays risen = runs-stays es g q (eqb q.0 g.0) refl
runs-step es g q (GoesTo p) risen =
    ap runs (find-with g q (moved p) es)
    ∙ runs-cond (eqb q.0 g.0) (option_map (moved p) (lookup (is_at (gxid_cmp g)) es)) (lookup (is_at (gxid_cmp q)) es)
    ∙ ap (λ b. cond (eqb q.0 g.0) b (runs (lookup (is_at (gxid_cmp q)) es))) (runs_after-of (lookup (is_at (gxid_cmp g)) es) p)
runs-step es g q Leaves risen = ap runs (find-remove g q es risen) ∙ runs-cond (eqb q.0 g.0) None (lookup (is_at (gxid_cmp q)) es)

risen-step : (es : List (Gxid × Txn)) (g : Gxid) (s : Step) → AreRisen es → AreRisen (with_step es g s)
risen-step es g Stays risen = risen
risen-step es g (GoesTo p) risen = risen-with g (moved p) es risen
risen-step es g Leaves risen = risen-remove (is_at (gxid_cmp g)) es risen

drawn-step : (n : ℕ) (es : List (Gxid × Txn)) (g : Gxid) (s : Step) → AreDrawn n es → AreDrawn n (with_step es g s)
drawn-step n es g Stays drawn = drawn
drawn-step n es g (GoesTo p) drawn = drawn-with n g (moved p) es drawn
drawn-step n es g Leaves drawn = drawn-remove n (is_at (gxid_cmp g)) es drawn

-- whether a transaction runs after a change: as before, unless it is the one that has ended
pub runs-changed : (d : Table) (g q : Gxid) (c : Change) → AreRisen d.txns → Fits (find_txn d g) c → runs (find_txn (changed d g c) q) ≡ (runs (find_txn d q) && not (ends c.out.outcome && eqb q.0 g.0))
runs-changed d g q c risen fits =
    runs-step d.txns g q c.step risen ∙ ap (λ b. cond (eqb q.0 g.0) b (runs (find_txn d q))) fits.after ∙ same-at d.txns g q (ends c.out.outcome) (eqb q.0 g.0) refl
  where
    same-at : (es : List (Gxid × Txn)) (g q : Gxid) (e b : Bool) → eqb q.0 g.0 ≡ b → cond b (runs (lookup (is_at (gxid_cmp g)) es) && not e) (runs (lookup (is_at (gxid_cmp q)) es)) ≡ (runs (lookup (is_at (gxid_cmp q)) es) && not (e && b))
    same-at es g q e true is = ap (λ (h : Gxid). runs (lookup (is_at (gxid_cmp h)) es) && not e) (same_gxid g q is) ∙ grind (arith, nat_tests)
    same-at es g q e false is = grind (arith, nat_tests)

-- the greatest that has ended, after this one has or hasn't
latest-changed : (d c : Table) (g : Gxid) (e : Bool) (l : Option Gxid) → c.next ≡ d.next → (e ≡ true → (0 < g.0) × (g.0 < d.next.0)) → ((q : Gxid) → runs (find_txn c q) ≡ (runs (find_txn d q) && not (e && eqb q.0 g.0))) → IsLatest d l → IsLatest c (with_ended e g l)
latest-changed d c g false l next drawn are is = IsLatest-same d c l next (λ q. are q ∙ grind (arith, nat_tests)) is
latest-changed d c g true None next drawn are is =
    ((drawn refl).0, subst (λ (n : Gxid). g.0 < n.0) (sym next) (drawn refl).1, are g ∙ grind (arith, nat_tests), λ q over under. are q ∙ grind (arith, nat_tests, is q, ap (λ (n : Gxid). n.0) next))
latest-changed d c g true (Some e) next drawn are is = greater (ltb e.0 g.0) refl
  where
    greater : (b : Bool) → ltb e.0 g.0 ≡ b → IsLatest c (Some (cond b g e))
    greater true over =
        ((drawn refl).0, subst (λ (n : Gxid). g.0 < n.0) (sym next) (drawn refl).1, are g ∙ grind (arith, nat_tests), λ q above under. are q ∙ grind (arith, nat_tests, is.3 q, ap (λ (n : Gxid). n.0) next))
    greater false over = (is.0, subst (λ (n : Gxid). e.0 < n.0) (sym next) is.1, are e ∙ grind (arith, nat_tests, is.2), λ q above under. are q ∙ grind (arith, nat_tests, is.3 q, ap (λ (n : Gxid). n.0) next))

pub IsWhole-changed : (d : Table) (g : Gxid) (c : Change) → IsWhole d → Fits (find_txn d g) c → IsWhole (changed d g c)
IsWhole-changed d g c w fits = record {
  first = w.first;
  risen = risen-step d.txns g c.step w.risen;
  drawn = drawn-step d.next.0 d.txns g c.step w.drawn;
  latest = latest-changed d (changed d g c) g (ends c.out.outcome) d.latest_ended refl (λ is. running-drawn d.next.0 g d.txns w.drawn (fits.ran is)) (λ q. runs-changed d g q c w.risen fits) w.latest;
}
