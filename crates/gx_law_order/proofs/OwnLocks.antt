-- Locks of writers on themselves, among all that are held at a segment.
use Rattle.std.proofs.Common.{◌≡◌, ℕ, List, [], ◌∷◌, ◌++◌, Bool, true, false, not, refl, sym, subst, ap, ◌∙◌, if◌then◌else◌, cond, ◌&&◌, ◌||◌, ◌==◌, arith, eqb, append-nil}
use Rattle.std.proofs.lemmas.Bool.{eqb-true}
use Rattle.std.proofs.lemmas.Bool.Decides.{nat_tests}
use Rattle.std.proofs.lemmas.List.Folds.{list_any-append}
use Rattle.std.specs.List.{list_any}
use Rattle.std.proofs.lemmas.List.Elements.{filter-append}
use Rattle.gx_lemmas.proofs.Numbers.{eqb-self}
use Rattle.gx_lemmas.proofs.Tests.{and-false, and-last, or-false, true-false}
use Rattle.gx_ids.specs.declared.ids.Gxid.{Gxid}
use Rattle.gx_tree.specs.declared.slice.Slice.{Slice}
use Rattle.gx_tree.specs.declared.slice.Slice.TheVariants as slice
use Rattle.gx_waits.specs.Claim.{same_claim}
use Rattle.gx_waits.specs.declared.claim.Claim.{Claim}
use Rattle.gx_waits.specs.declared.object.Object.{Object}
use Rattle.gx_waits.specs.declared.object.Object.TheVariants.{Relation, Transaction, Tuple}
use Rattle.gx_waits.specs.Claims.{is_of, with_claim, without, without_claim}
use Rattle.gx_locks.proofs.Filed.{list_any-weaker}
use Rattle.gx_script.specs.declared.Script.{Script}
use Rattle.gx_store.specs.Marks.{is_same_gxid}
use Rattle.gx_rules.specs.Changes.{end_lock}
use Rattle.gx_store.specs.Locks.{slice_lock}
use Rattle.gx_rules.specs.Segments.{Phase, Seg, Version, has_ended}
use Rattle.gx_rules.specs.Segments.Phase.{Reading, Writing}
use Rattle.gx_rules.specs.Slices.{own_lock}
use Rattle.gx_law_order.proofs.Lists.{each_append, each_weaker}
use Rattle.gx_law_order.specs.Lists.{Each}
use Rattle.gx_law_order.specs.Standings.{gx}

-- WHAT STANDS
-- a hold on a transaction is that one's own lock
abbrev pub IsOwnOn : Claim → Object → Type 0
IsOwnOn claim (Transaction h) = claim ≡ own_lock h
IsOwnOn claim _ = Unit {0}

abbrev pub IsOwn : Claim → Type 0
IsOwn claim = IsOwnOn claim claim.object

abbrev pub holds_own : ℕ → List Claim → Bool
holds_own h holds = list_any (same_claim (own_lock (gx h))) holds

-- whether a transaction has written there
abbrev pub has_version : ℕ → List Version → Bool
has_version h versions = list_any (λ (v : Version). is_same_gxid v.gxid (gx h)) versions

abbrev pub SaysWritten : Phase → Bool → Type 0
SaysWritten Reading written = written ≡ false
SaysWritten Writing written = written ≡ true
SaysWritten _ written = Unit {0}

-- it holds its own lock exactly if it has written there and hasn't ended there
pub record LocksItself (phase : Phase) (written held : Bool) : Type 0 where
  pub says : SaysWritten phase written
  pub holds : held ≡ written && not (has_ended phase)

-- so with these holds
abbrev pub LocksIn : Seg → ℕ → List Claim → Type 0
LocksIn s h holds = LocksItself (s.locals h).phase (has_version h s.versions) (holds_own h holds)

-- whose end is waited for has written there
abbrev pub IsAwaited : List Version → Object → Type 0
IsAwaited versions (Transaction h) = has_version h.0 versions ≡ true
IsAwaited versions _ = Unit {0}

abbrev pub AreAwaited : List Version → List Claim → Type 0
AreAwaited versions waits = Each (λ wait. IsAwaited versions wait.object) waits

pub record WritersLock (s : Seg) : Type 0 where
  pub owns : Each IsOwn s.locks.holds
  pub each : (h : ℕ) → LocksIn s h s.locks.holds
  pub awaited : AreAwaited s.versions s.locks.waits

-- HOLDS
pub each-held : (holds : List Claim) (wanted : Claim) → Each IsOwn holds → IsOwn wanted → Each IsOwn (with_claim wanted holds)
each-held holds wanted e f = by_test (list_any (same_claim wanted) holds)
  where
    by_test : (b : Bool) → Each IsOwn (if b then holds else holds ++ wanted ∷ [])
    by_test true = e
    by_test false = each_append IsOwn holds (wanted ∷ []) e (f, tt)

-- a lock that is no transaction's
abbrev pub IsOfRows : Object → Type 0
IsOfRows (Transaction h) = ⊥
IsOfRows _ = Unit {0}

pub rows-own : (wanted : Claim) → IsOfRows wanted.object → IsOwn wanted
rows-own wanted e = by_object wanted.object e
  where
    by_object : (o : Object) → IsOfRows o → IsOwnOn wanted o
    by_object (Relation t) e = tt
    by_object (Tuple r) e = tt
    by_object (Transaction h) e = absurd e

rows-other : (h : ℕ) (wanted : Claim) → IsOfRows wanted.object → same_claim (own_lock (gx h)) wanted ≡ false
rows-other h wanted e = by_object wanted.object refl e
  where
    by_object : (o : Object) → wanted.object ≡ o → IsOfRows o → same_claim (own_lock (gx h)) wanted ≡ false
    by_object (Relation t) f e = ap (λ o. same_claim (own_lock (gx h)) (record wanted { object = o })) f ∙ and-false _
    by_object (Tuple r) f e = ap (λ o. same_claim (own_lock (gx h)) (record wanted { object = o })) f ∙ and-false _
    by_object (Transaction g) f e = absurd e

pub held-rows : (h : ℕ) (holds : List Claim) (wanted : Claim) → IsOfRows wanted.object → holds_own h (with_claim wanted holds) ≡ holds_own h holds
held-rows h holds wanted e = by_test (list_any (same_claim wanted) holds)
  where
    by_test : (b : Bool) → holds_own h (if b then holds else holds ++ wanted ∷ []) ≡ holds_own h holds
    by_test true = refl
    by_test false = list_any-append (same_claim (own_lock (gx h))) holds (wanted ∷ []) ∙ ap (λ b. holds_own h holds || (b || false)) (rows-other h wanted e) ∙ or-false (holds_own h holds)

pub held-own : (h g : ℕ) (holds : List Claim) → holds_own h (with_claim (own_lock (gx g)) holds) ≡ holds_own h holds || eqb h g
held-own h g holds = by_both (holds_own g holds) (eqb h g) refl refl
  where
    or-true : (a : Bool) → true ≡ (a || true)
    or-true true = refl
    or-true false = refl

    same : (q : Bool) → eqb h g ≡ q → same_claim (own_lock (gx h)) (own_lock (gx g)) ≡ q
    same true e = grind (arith, nat_tests)
    same false e = grind (arith, nat_tests)

    by_both : (b q : Bool) → holds_own g holds ≡ b → eqb h g ≡ q → holds_own h (if b then holds else holds ++ own_lock (gx g) ∷ []) ≡ holds_own h holds || q
    by_both true true e f = subst (λ i. holds_own i holds ≡ true) (sym (eqb-true h g f)) e ∙ or-true (holds_own h holds)
    by_both true false e f = sym (or-false (holds_own h holds))
    by_both false q e f =
        list_any-append (same_claim (own_lock (gx h))) holds (own_lock (gx g) ∷ [])
        ∙ ap (λ b. holds_own h holds || b) (or-false (same_claim (own_lock (gx h)) (own_lock (gx g))) ∙ same q f)

-- so it is of a wait for no transaction's end, and where more is written
pub awaited-rows : (versions : List Version) (o : Object) → IsOfRows o → IsAwaited versions o
awaited-rows versions (Relation t) e = tt
awaited-rows versions (Tuple r) e = tt
awaited-rows versions (Transaction h) e = absurd e

pub awaited-more : (old new : List Version) → ((h : ℕ) → has_version h old ≡ true → has_version h new ≡ true) → (waits : List Claim) → AreAwaited old waits → AreAwaited new waits
awaited-more old new f waits e = each_weaker (λ wait. IsAwaited old wait.object) (λ wait. IsAwaited new wait.object) (λ wait a. by_object wait.object a) waits e
  where
    by_object : (o : Object) → IsAwaited old o → IsAwaited new o
    by_object (Relation t) a = tt
    by_object (Tuple r) a = tt
    by_object (Transaction h) a = f h.0 a

-- a lock that is no transaction's is given back
pub left-rows : (h : ℕ) (holds : List Claim) (old : Claim) → IsOfRows old.object → holds_own h (without_claim old holds) ≡ holds_own h holds
left-rows h holds old e = list_any-weaker (same_claim (own_lock (gx h))) (λ other. not (same_claim old other)) (λ x f. by_object old.object x x.object refl refl e f) holds
  where
    on : Claim → Object → Claim
    on c o = record c { object = o }

    by_object : (o : Object) (x : Claim) (p : Object) → old.object ≡ o → x.object ≡ p → IsOfRows o → same_claim (own_lock (gx h)) x ≡ true → not (same_claim old x) ≡ true
    by_object o x (Relation t) f q e s = absurd (true-false _ s (ap (λ p. same_claim (own_lock (gx h)) (on x p)) q ∙ and-false _))
    by_object o x (Tuple r) f q e s = absurd (true-false _ s (ap (λ p. same_claim (own_lock (gx h)) (on x p)) q ∙ and-false _))
    by_object (Relation t) x (Transaction j) f q e s = ap not (ap (λ p. same_claim old (on x p)) q ∙ ap (λ o. same_claim (on old o) (on x (Transaction j))) f ∙ and-false _)
    by_object (Tuple r) x (Transaction j) f q e s = ap not (ap (λ p. same_claim old (on x p)) q ∙ ap (λ o. same_claim (on old o) (on x (Transaction j))) f ∙ and-false _)
    by_object (Transaction i) x (Transaction j) f q e s = absurd e

-- A lock on another's end is none of these holds; so taken, and given back at once, it leaves them as they were.
module _ (g writer : Gxid) where
  not-end : (x : Claim) → IsOwn x → same_claim (end_lock g writer) x ≡ false
  not-end x e = by_object x.object refl e
    where
      by_object : (o : Object) → x.object ≡ o → IsOwnOn x o → same_claim (end_lock g writer) x ≡ false
      by_object (Relation t) f e = ap (λ o. same_claim (end_lock g writer) (record x { object = o })) f ∙ and-false _
      by_object (Tuple r) f e = ap (λ o. same_claim (end_lock g writer) (record x { object = o })) f ∙ and-false _
      by_object (Transaction h) f e = ap (same_claim (end_lock g writer)) e ∙ and-last _ _ _ refl

  not-held : (holds : List Claim) → Each IsOwn holds → list_any (same_claim (end_lock g writer)) holds ≡ false
  not-held [] e = refl
  not-held (x ∷ xs) e = ap (λ b. b || list_any (same_claim (end_lock g writer)) xs) (not-end x e.0) ∙ not-held xs e.1

  all-left : (holds : List Claim) → Each IsOwn holds → without_claim (end_lock g writer) holds ≡ holds
  all-left [] e = refl
  all-left (x ∷ xs) e = ap (λ b. cond (not b) (x ∷ without_claim (end_lock g writer) xs) (without_claim (end_lock g writer) xs)) (not-end x e.0) ∙ ap (λ q. x ∷ q) (all-left xs e.1)

  itself : same_claim (end_lock g writer) (end_lock g writer) ≡ true
  itself = ap (λ b. b && (eqb writer.0 writer.0 && true)) (eqb-self g.0) ∙ ap (λ b. b && true) (eqb-self writer.0)

  pub end-back : (holds : List Claim) → Each IsOwn holds → without_claim (end_lock g writer) (with_claim (end_lock g writer) holds) ≡ holds
  end-back holds e =
      ap (λ b. without_claim (end_lock g writer) (if b then holds else holds ++ end_lock g writer ∷ [])) (not-held holds e)
      ∙ filter-append (λ other. not (same_claim (end_lock g writer) other)) holds (end_lock g writer ∷ [])
      ∙ ap (λ b. without_claim (end_lock g writer) holds ++ cond (not b) (end_lock g writer ∷ []) []) itself
      ∙ append-nil (without_claim (end_lock g writer) holds) ∙ all-left holds e

-- another's claim
not-own : (h : ℕ) (x : Claim) → (h == x.gxid.0) ≡ false → same_claim (own_lock (gx h)) x ≡ false
not-own h x e = and-none (h == x.gxid.0) _ e
  where
    and-none : (a b : Bool) → a ≡ false → (a && b) ≡ false
    and-none true b e = absurd (cc)
    and-none false b e = refl

pub none-left : (g : ℕ) (holds : List Claim) → holds_own g (without (gx g) holds) ≡ false
none-left g [] = refl
none-left g (x ∷ xs) = by_test (is_of (gx g) x) refl (none-left g xs)
  where
    other : (a b : ℕ) → (a == b) ≡ false → (b == a) ≡ false
    other a b e = grind (arith, nat_tests)

    by_test : (b : Bool) → is_of (gx g) x ≡ b → holds_own g (without (gx g) xs) ≡ false → holds_own g (cond (not b) (x ∷ without (gx g) xs) (without (gx g) xs)) ≡ false
    by_test true e f = f
    by_test false e f = ap (λ b. b || holds_own g (without (gx g) xs)) (not-own g x (other x.gxid.0 g e)) ∙ f

pub others-left : (h g : ℕ) (holds : List Claim) → eqb h g ≡ false → holds_own h (without (gx g) holds) ≡ holds_own h holds
others-left h g [] n = refl
others-left h g (x ∷ xs) n = by_test (is_of (gx g) x) refl (others-left h g xs n)
  where
    apart : (a : ℕ) → (a == g) ≡ true → (h == a) ≡ false
    apart a e = grind (arith, nat_tests)

    by_test : (b : Bool) → is_of (gx g) x ≡ b → holds_own h (without (gx g) xs) ≡ holds_own h xs → holds_own h (cond (not b) (x ∷ without (gx g) xs) (without (gx g) xs)) ≡ holds_own h (x ∷ xs)
    by_test true e f = f ∙ sym (ap (λ b. b || holds_own h xs) (not-own h x (apart x.gxid.0 e)))
    by_test false e f = ap (λ b. same_claim (own_lock (gx h)) x || b) f

-- a slice's lock is its table's
pub slice-rows : (script : Script) (g : Gxid) (x : Slice) → IsOfRows (slice_lock script g x).object
slice-rows script g (slice.Select query) = tt
slice-rows script g (slice.Insert table rows) = tt
slice-rows script g (slice.Update table assigns cond) = tt
slice-rows script g (slice.Delete table cond) = tt
slice-rows script g (slice.Lock table mode) = tt
