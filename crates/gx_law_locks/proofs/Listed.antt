-- The table's list of active transactions has just those that a look-up finds active.
use Rattle.std.proofs.Common.{◌≡◌, inl, inr, ℕ, List, [], ◌∷◌, Some, Bool, true, false, refl, sym, subst, ap, ◌∙◌, if◌then◌else◌, arith, eqb}
use Rattle.std.proofs.lemmas.Bool.{eqb-true}
use Rattle.std.proofs.lemmas.Bool.Decides.{nat_tests}
use Rattle.std.specs.Prelude.{cond, filter, map}
use Rattle.gx_lemmas.proofs.Numbers.{eqb-self}
use Rattle.gx_ids.specs.declared.ids.Gxid.{Gxid}
use Rattle.gx_dtx.specs.declared.txn.Txn.{Txn}
use Rattle.gx_waits.proofs.Members.{Has}
use Rattle.gx_rules.specs.Rounds.{is_active, is_live}
use Rattle.gx_law_order.specs.Lists.{Each}
use Rattle.gx_law_order.proofs.Stages.{at_gxid, first-at}
use Rattle.gx_law_order.specs.Stages.{Apart}
use Rattle.gx_law_order.specs.Standings.{gx}

abbrev pub Txns : Type 0
Txns = List (Gxid × Txn)

abbrev pub live_of : Txns → List Gxid
live_of es = map (λ e. e.0) (filter (λ e. is_active e.1.phase) es)

apart-from : (h k : ℕ) (es : Txns) → is_live (at_gxid h es) ≡ true → Each (λ (x : Gxid × Txn). eqb k x.0.0 ≡ false) es → eqb h k ≡ false
apart-from h k [] e f = absurd (cc)
apart-from h k (x ∷ es) e f = by_test (eqb h x.0.0) refl (sym (ap is_live (first-at h x es)) ∙ e) (λ q. apart-from h k es q f.1)
  where
    other : (h j k : ℕ) → eqb h j ≡ true → eqb k j ≡ false → eqb h k ≡ false
    other h j k e f = grind (arith, nat_tests)

    by_test : (b : Bool) → eqb h x.0.0 ≡ b → is_live (if b then Some x.1 else at_gxid h es) ≡ true → (is_live (at_gxid h es) ≡ true → eqb h k ≡ false) → eqb h k ≡ false
    by_test true q e later = other h x.0.0 k q f.0
    by_test false q e later = later e

pub listed-live : (es : Txns) (g : Gxid) → Apart es → Has g (live_of es) → is_live (at_gxid g.0 es) ≡ true
listed-live [] g e h = absurd h
listed-live (x ∷ es) g e h = ap is_live (first-at g.0 x es) ∙ by_phase (is_active x.1.phase) refl h (λ m. later (listed-live es g e.1 m))
  where
    later : is_live (at_gxid g.0 es) ≡ true → is_live (if eqb g.0 x.0.0 then Some x.1 else at_gxid g.0 es) ≡ true
    later l = ap (λ b. is_live (if b then Some x.1 else at_gxid g.0 es)) (apart-from g.0 x.0.0 es l e.0) ∙ l

    first : is_active x.1.phase ≡ true → x.0 ≡ g → is_live (if eqb g.0 x.0.0 then Some x.1 else at_gxid g.0 es) ≡ true
    first a s = ap (λ b. is_live (if b then Some x.1 else at_gxid g.0 es)) (subst (λ (y : Gxid). eqb g.0 y.0 ≡ true) (sym s) (eqb-self g.0)) ∙ a

    by_phase : (b : Bool) → is_active x.1.phase ≡ b → Has g (map (λ (e : Gxid × Txn). e.0) (cond b (x ∷ filter (λ (e : Gxid × Txn). is_active e.1.phase) es) (filter (λ (e : Gxid × Txn). is_active e.1.phase) es)))
        → (Has g (live_of es) → is_live (if eqb g.0 x.0.0 then Some x.1 else at_gxid g.0 es) ≡ true) → is_live (if eqb g.0 x.0.0 then Some x.1 else at_gxid g.0 es) ≡ true
    by_phase true a (inl s) behind = first a s
    by_phase true a (inr m) behind = behind m
    by_phase false a m behind = behind m

pub live-listed : (es : Txns) (g : Gxid) → is_live (at_gxid g.0 es) ≡ true → Has g (live_of es)
live-listed [] g e = absurd (cc)
live-listed (x ∷ es) g e = by_test (eqb g.0 x.0.0) refl (sym (ap is_live (first-at g.0 x es)) ∙ e) (λ q. live-listed es g q)
  where
    here : (b : Bool) → is_active x.1.phase ≡ b → b ≡ true → x.0 ≡ g → Has g (map (λ (e : Gxid × Txn). e.0) (cond b (x ∷ filter (λ (e : Gxid × Txn). is_active e.1.phase) es) (filter (λ (e : Gxid × Txn). is_active e.1.phase) es)))
    here true a q s = inl s
    here false a q s = absurd (cc)

    behind : (b : Bool) → Has g (live_of es) → Has g (map (λ (e : Gxid × Txn). e.0) (cond b (x ∷ filter (λ (e : Gxid × Txn). is_active e.1.phase) es) (filter (λ (e : Gxid × Txn). is_active e.1.phase) es)))
    behind true m = inr m
    behind false m = m

    by_test : (b : Bool) → eqb g.0 x.0.0 ≡ b → is_live (if b then Some x.1 else at_gxid g.0 es) ≡ true → (is_live (at_gxid g.0 es) ≡ true → Has g (live_of es)) → Has g (live_of (x ∷ es))
    by_test true q e later = here (is_active x.1.phase) refl e (ap gx (sym (eqb-true g.0 x.0.0 q)))
    by_test false q e later = behind (is_active x.1.phase) (later e)
