-- What the coordinator's calls make of a transaction's status, for every gxid.
use Rattle.std.proofs.Common.{◌≡◌, ◌≤◌, ◌<◌, ℕ, [], ◌∷◌, ◌++◌, Option, Some, None, Bool, true, false, refl, sym, subst, ap, ◌∙◌, cond, if◌then◌else◌, arith, eqb, ltb}
use Rattle.std.proofs.lemmas.Bool.{eqb-true, ltb-true}
use Rattle.std.proofs.lemmas.Bool.Decides.{nat_tests}
use Rattle.std.specs.Prelude.{option_map}
use Rattle.std.specs.BTreeMap.{is_at}
use Rattle.std.specs.Cmp.{nat_cmp_is}
use Rattle.std.specs.Map.{lookup, remove_entry, set_value}
use Rattle.std.specs.Ordering.{is_eq, nat_cmp}
use Rattle.std.specs.declared.cmp.Ordering.TheVariants.{Less, Equal, Greater}
use Rattle.gx_ids.specs.declared.ids.Gxid.{Gxid}
use Rattle.gx_dsnap.specs.Gxids.{gxid_cmp}
use Rattle.gx_dtx.specs.Rules.{changed, with_found, with_step, with_txn}
use Rattle.gx_dtx.specs.Table.{Table, find_txn}
use Rattle.gx_dtx.specs.declared.change.Change.{Change}
use Rattle.gx_dtx.specs.declared.change.Step.{Step}
use Rattle.gx_dtx.specs.declared.change.Step.TheVariants.{GoesTo, Leaves, Stays}
use Rattle.gx_dtx.specs.declared.txn.Txn.{Txn}
use Rattle.gx_law_order.specs.Lists.{Each}
use Rattle.gx_law_order.specs.Stages.{Apart, Below, IsWhole, Txns}
use Rattle.gx_law_order.specs.Standings.{gx}

-- one key
is_eq-same : (a b : ℕ) → eqb a b ≡ true → is_eq (nat_cmp a b) ≡ true
is_eq-same a b e = ap is_eq (sym (nat_cmp_is a b Equal (eqb-true a b e)))

is_eq-apart : (a b : ℕ) → eqb a b ≡ false → is_eq (nat_cmp a b) ≡ false
is_eq-apart a b e = by_order (ltb a b) refl
  where
    above : (a b : ℕ) → eqb a b ≡ false → ltb a b ≡ false → b < a
    above a b e h = grind (arith, nat_tests)

    by_order : (t : Bool) → ltb a b ≡ t → is_eq (nat_cmp a b) ≡ false
    by_order true h = ap is_eq (sym (nat_cmp_is a b Less (ltb-true a b h)))
    by_order false h = ap is_eq (sym (nat_cmp_is a b Greater (above a b e h)))

is_at-eqb : (a b : ℕ) → is_eq (nat_cmp a b) ≡ eqb a b
is_at-eqb a b = by_test (eqb a b) refl
  where
    by_test : (t : Bool) → eqb a b ≡ t → is_eq (nat_cmp a b) ≡ t
    by_test true h = is_eq-same a b h
    by_test false h = is_eq-apart a b h

-- THE LIST OF TRANSACTIONS
abbrev pub at_gxid : ℕ → Txns → Option Txn
at_gxid h es = lookup (is_at (gxid_cmp (gx h))) es

pub first-at : (h : ℕ) (e : Gxid × Txn) (es : Txns) → at_gxid h (e ∷ es) ≡ (if eqb h e.0.0 then Some e.1 else at_gxid h es)
first-at h e es = ap (λ b. cond b (Some e.1) (at_gxid h es)) (is_at-eqb h e.0.0)

pub none-at : (h : ℕ) (es : Txns) → Each (λ (x : Gxid × Txn). eqb h x.0.0 ≡ false) es → at_gxid h es ≡ None
none-at h [] e = refl
none-at h (x ∷ xs) e = first-at h x xs ∙ ap (λ b. if b then Some x.1 else at_gxid h xs) e.0 ∙ none-at h xs e.1

set-first : (g : ℕ) (t : Txn) (e : Gxid × Txn) (es : Txns) → set_value (is_at (gxid_cmp (gx g))) (e ∷ es) t ≡ (if eqb g e.0.0 then (e.0, t) ∷ es else e ∷ set_value (is_at (gxid_cmp (gx g))) es t)
set-first g t e es = ap (λ b. cond b ((e.0, t) ∷ es) (e ∷ set_value (is_at (gxid_cmp (gx g))) es t)) (is_at-eqb g e.0.0)

remove-first : (g : ℕ) (e : Gxid × Txn) (es : Txns) → remove_entry (is_at (gxid_cmp (gx g))) (e ∷ es) ≡ (if eqb g e.0.0 then es else e ∷ remove_entry (is_at (gxid_cmp (gx g))) es)
remove-first g e es = ap (λ b. cond b es (e ∷ remove_entry (is_at (gxid_cmp (gx g))) es)) (is_at-eqb g e.0.0)

-- look-ups after a change
abbrev changes-at : ℕ → ℕ → Option Txn → Option Txn → Option Txn
changes-at g h here there = if eqb h g then here else there

is-there : Option Txn → Bool
is-there None = false
is-there (Some t) = true

set-at : (g h : ℕ) (t u : Txn) (es : Txns) → at_gxid g es ≡ Some u → at_gxid h (set_value (is_at (gxid_cmp (gx g))) es t) ≡ (if eqb h g then Some t else at_gxid h es)
set-at g h t u [] e = absurd (cc)
set-at g h t u (x ∷ xs) e = ap (at_gxid h) (set-first g t x xs) ∙ by_test (eqb g x.0.0) refl (sym (first-at g x xs) ∙ e) (λ f. set-at g h t u xs f)
  where
    by_test : (b : Bool) → eqb g x.0.0 ≡ b → (if b then Some x.1 else at_gxid g xs) ≡ Some u → (at_gxid g xs ≡ Some u → at_gxid h (set_value (is_at (gxid_cmp (gx g))) xs t) ≡ (if eqb h g then Some t else at_gxid h xs)) → at_gxid h (if b then (x.0, t) ∷ xs else x ∷ set_value (is_at (gxid_cmp (gx g))) xs t) ≡ (if eqb h g then Some t else at_gxid h (x ∷ xs))
    by_test true k e f = first-at h (x.0, t) xs ∙ same h g x.0.0 k ∙ ap (λ o. if eqb h g then Some t else o) (sym (first-at h x xs))
      where
        same : (h g k : ℕ) → eqb g k ≡ true → (if eqb h k then Some t else at_gxid h xs) ≡ (if eqb h g then Some t else (if eqb h k then Some x.1 else at_gxid h xs))
        same h g k e = grind (arith, nat_tests)
    by_test false k e f =
        first-at h x (set_value (is_at (gxid_cmp (gx g))) xs t) ∙ ap (λ o. if eqb h x.0.0 then Some x.1 else o) (f e)
        ∙ other h g x.0.0 k ∙ ap (λ o. if eqb h g then Some t else o) (sym (first-at h x xs))
      where
        other : (h g k : ℕ) → eqb g k ≡ false → (if eqb h k then Some x.1 else (if eqb h g then Some t else at_gxid h xs)) ≡ (if eqb h g then Some t else (if eqb h k then Some x.1 else at_gxid h xs))
        other h g k e = grind (arith, nat_tests)

remove-at : (g h : ℕ) (es : Txns) → Apart es → at_gxid h (remove_entry (is_at (gxid_cmp (gx g))) es) ≡ (if eqb h g then None else at_gxid h es)
remove-at g h [] e = none-both (eqb h g)
  where
    none-both : (b : Bool) → at_gxid h [] ≡ (if b then None else at_gxid h [])
    none-both true = refl
    none-both false = refl
remove-at g h (x ∷ xs) e = ap (at_gxid h) (remove-first g x xs) ∙ by_test (eqb g x.0.0) refl (remove-at g h xs e.1)
  where
    none-here : (k : ℕ) → eqb g x.0.0 ≡ true → at_gxid k xs ≡ (if eqb k g then None else at_gxid k xs)
    none-here k s = by_same (eqb k g) refl
      where
        by_same : (b : Bool) → eqb k g ≡ b → at_gxid k xs ≡ (if b then None else at_gxid k xs)
        by_same true q = subst (λ y. at_gxid y xs ≡ None) (sym (eqb-true k g q ∙ eqb-true g x.0.0 s)) (none-at x.0.0 xs e.0)
        by_same false q = refl

    by_test : (b : Bool) → eqb g x.0.0 ≡ b → at_gxid h (remove_entry (is_at (gxid_cmp (gx g))) xs) ≡ (if eqb h g then None else at_gxid h xs) → at_gxid h (if b then xs else x ∷ remove_entry (is_at (gxid_cmp (gx g))) xs) ≡ (if eqb h g then None else at_gxid h (x ∷ xs))
    by_test true k f = none-here h k ∙ same h g x.0.0 k ∙ ap (λ o. if eqb h g then None else o) (sym (first-at h x xs))
      where
        same : (h g k : ℕ) → eqb g k ≡ true → (if eqb h g then None else at_gxid h xs) ≡ (if eqb h g then None else (if eqb h k then Some x.1 else at_gxid h xs))
        same h g k e = grind (arith, nat_tests)
    by_test false k f =
        first-at h x (remove_entry (is_at (gxid_cmp (gx g))) xs) ∙ ap (λ o. if eqb h x.0.0 then Some x.1 else o) f
        ∙ other h g x.0.0 k ∙ ap (λ o. if eqb h g then None else o) (sym (first-at h x xs))
      where
        other : (h g k : ℕ) → eqb g k ≡ false → (if eqb h k then Some x.1 else (if eqb h g then None else at_gxid h xs)) ≡ (if eqb h g then None else (if eqb h k then Some x.1 else at_gxid h xs))
        other h g k e = grind (arith, nat_tests)

pub append-at : (h : ℕ) (es : Txns) (g : ℕ) (t : Txn) → Below g es → at_gxid h (es ++ (gx g, t) ∷ []) ≡ (if eqb h g then Some t else at_gxid h es)
append-at h [] g t e = first-at h (gx g, t) []
append-at h (x ∷ xs) g t e = first-at h x (xs ++ (gx g, t) ∷ []) ∙ ap (λ o. if eqb h x.0.0 then Some x.1 else o) (append-at h xs g t e.1) ∙ other h g x.0.0 e.0.1 ∙ ap (λ o. if eqb h g then Some t else o) (sym (first-at h x xs))
  where
    other : (h g k : ℕ) → k < g → (if eqb h k then Some x.1 else (if eqb h g then Some t else at_gxid h xs)) ≡ (if eqb h g then Some t else (if eqb h k then Some x.1 else at_gxid h xs))
    other h g k e = grind (arith, nat_tests)

-- THE TABLE STAYS WHOLE
each-set : (P : ℕ → Type 0) (test : Gxid → Bool) (t : Txn) (es : Txns) → Each (λ (x : Gxid × Txn). P x.0.0) es → Each (λ (x : Gxid × Txn). P x.0.0) (set_value test es t)
each-set P test t [] e = tt
each-set P test t (x ∷ xs) e = by_test (test x.0) (each-set P test t xs e.1)
  where
    by_test : (b : Bool) → Each (λ (x : Gxid × Txn). P x.0.0) (set_value test xs t) → Each (λ (x : Gxid × Txn). P x.0.0) (cond b ((x.0, t) ∷ xs) (x ∷ set_value test xs t))
    by_test true f = (e.0, e.1)
    by_test false f = (e.0, f)

apart-set : (test : Gxid → Bool) (t : Txn) (es : Txns) → Apart es → Apart (set_value test es t)
apart-set test t [] e = tt
apart-set test t (x ∷ xs) e = by_test (test x.0) (apart-set test t xs e.1)
  where
    by_test : (b : Bool) → Apart (set_value test xs t) → Apart (cond b ((x.0, t) ∷ xs) (x ∷ set_value test xs t))
    by_test true f = (e.0, e.1)
    by_test false f = (each-set (λ k. eqb x.0.0 k ≡ false) test t xs e.0, f)

each-remove : (P : ℕ → Type 0) (test : Gxid → Bool) (es : Txns) → Each (λ (x : Gxid × Txn). P x.0.0) es → Each (λ (x : Gxid × Txn). P x.0.0) (remove_entry test es)
each-remove P test [] e = tt
each-remove P test (x ∷ xs) e = by_test (test x.0) (each-remove P test xs e.1)
  where
    by_test : (b : Bool) → Each (λ (x : Gxid × Txn). P x.0.0) (remove_entry test xs) → Each (λ (x : Gxid × Txn). P x.0.0) (cond b xs (x ∷ remove_entry test xs))
    by_test true f = e.1
    by_test false f = (e.0, f)

apart-remove : (test : Gxid → Bool) (es : Txns) → Apart es → Apart (remove_entry test es)
apart-remove test [] e = tt
apart-remove test (x ∷ xs) e = by_test (test x.0) (apart-remove test xs e.1)
  where
    by_test : (b : Bool) → Apart (remove_entry test xs) → Apart (cond b xs (x ∷ remove_entry test xs))
    by_test true f = e.1
    by_test false f = (each-remove (λ k. eqb x.0.0 k ≡ false) test xs e.0, f)

-- A CHANGE AT ONE GXID
-- the transactions but g are as before
pub record At (d u : Table) (g : ℕ) (now : Option Txn) : Type 0 where
  pub whole : IsWhole u
  pub next : u.next ≡ d.next
  pub finds : (h : ℕ) → find_txn u (gx h) ≡ (if eqb h g then now else find_txn d (gx h))

with-at : (d : Table) (g : ℕ) (f : Txn → Txn) (found : Option Txn) → find_txn d (gx g) ≡ found → IsWhole d → At d (record d { txns = with_found d.txns (gx g) f found }) g (option_map f found)
with-at d g f None e w = record { whole = record { first = w.first; apart = w.apart; drawn = w.drawn }; next = refl; finds = λ h. by_test h (eqb h g) refl }
  where
    by_test : (h : ℕ) (b : Bool) → eqb h g ≡ b → find_txn d (gx h) ≡ (if b then None else find_txn d (gx h))
    by_test h true k = ap (λ y. find_txn d (gx y)) (eqb-true h g k) ∙ e
    by_test h false k = refl
with-at d g f (Some t) e w =
    record {
      whole = record { first = w.first; apart = apart-set (is_at (gxid_cmp (gx g))) (f t) d.txns w.apart; drawn = each-set (λ k. (1 ≤ k) × (k < d.next.0)) (is_at (gxid_cmp (gx g))) (f t) d.txns w.drawn };
      next = refl;
      finds = λ h. set-at g h (f t) t d.txns e;
    }

pub txn-at : (d : Table) (g : ℕ) (f : Txn → Txn) → IsWhole d → At d (record d { txns = with_txn d.txns (gx g) f }) g (option_map f (find_txn d (gx g)))
txn-at d g f w = with-at d g f (find_txn d (gx g)) refl w

-- what a step leaves of a transaction
abbrev pub left_of : Step → Option Txn → Option Txn
left_of Stays t = t
left_of (GoesTo p) t = option_map (Rattle.gx_dtx.specs.Rules.moved p) t
left_of Leaves t = None

pub changed-at : (d : Table) (g : ℕ) (c : Change) → IsWhole d → At d (changed d (gx g) c) g (left_of c.step (find_txn d (gx g)))
changed-at d g c w = by_step c.step
  where
    same_at : (h : ℕ) (b : Bool) → eqb h g ≡ b → find_txn d (gx h) ≡ (if b then find_txn d (gx g) else find_txn d (gx h))
    same_at h true k = ap (λ y. find_txn d (gx y)) (eqb-true h g k)
    same_at h false k = refl

    by_step : (s : Step) → At d (record (changed d (gx g) c) { txns = with_step d.txns (gx g) s }) g (left_of s (find_txn d (gx g)))
    by_step Stays = record { whole = record { first = w.first; apart = w.apart; drawn = w.drawn }; next = refl; finds = λ h. same_at h (eqb h g) refl }
    by_step (GoesTo p) = let x = txn-at d g (Rattle.gx_dtx.specs.Rules.moved p) w in record { whole = record { first = x.whole.first; apart = x.whole.apart; drawn = x.whole.drawn }; next = refl; finds = x.finds }
    by_step Leaves =
        record {
          whole = record { first = w.first; apart = apart-remove (is_at (gxid_cmp (gx g))) d.txns w.apart; drawn = each-remove (λ k. (1 ≤ k) × (k < d.next.0)) (is_at (gxid_cmp (gx g))) d.txns w.drawn };
          next = refl;
          finds = λ h. remove-at g h d.txns w.apart;
        }
