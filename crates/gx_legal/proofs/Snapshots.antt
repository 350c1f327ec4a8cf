-- The places that pass a test, and the snapshots among them.
use Rattle.std.proofs.Common.{◌≡◌, ◌∙◌, ℕ, zero, suc, ◌+◌, ◌==◌, ◌||◌, Bool, true, false, if◌then◌else◌, List, [], ◌∷◌, Some, slice_get, refl, sym, ap, arith}
use Rattle.std.proofs.lemmas.Bool.{and_from}
use Rattle.std.specs.List.{list_any}
use Rattle.gx_ids.specs.declared.ids.Gxid.{Gxid}
use Rattle.gx_ids.specs.declared.ids.Cid.{Cid}
use Rattle.gx_dsnap.specs.declared.snapshot.Snapshot.{Snapshot}
use Rattle.gx_lemmas.proofs.Numbers.{eqb-of, same-of}
use Rattle.gx_lemmas.proofs.Tests.{and-first, and-second}
use Rattle.gx_tree.specs.declared.stmt.Level.{Level}
use Rattle.gx_tree.specs.declared.stmt.Level.TheVariants.{ReadCommitted, RepeatableRead}
use Rattle.gx_store.specs.declared.mark.Mark.{Mark}
use Rattle.gx_store.specs.declared.mark.Mark.TheVariants.{Snap}
use Rattle.gx_store.specs.Commands.{IsSnapshotAt, Serves}
use Rattle.gx_store.specs.Marks.{is_same_gxid}
use Rattle.gx_legal.specs.Places.{is_snapshot, places_from, serves, snapshots}
use Rattle.gx_legal.proofs.Decided.{no_more}

-- one of the marks passes the test, at this place
pub record Passes (test : Mark → Bool) (marks : List Mark) (place : ℕ) : Type 0 where
  pub mark : Mark
  pub there : slice_get marks place ≡ Some mark
  pub passed : test mark ≡ true

pub or-either : (a b : Bool) (P : Type 0) → (a || b) ≡ true → (a ≡ true → P) → (b ≡ true → P) → P
or-either true b P e first later = first refl
or-either false b P e first later = later e

pub or-second : (a b : Bool) → b ≡ true → (a || b) ≡ true
or-second true b e = refl
or-second false b e = e

pub or-first : (a b : Bool) → a ≡ true → (a || b) ≡ true
or-first true b e = refl
or-first false b e = no_more _ e

moved : (k p : ℕ) → k + suc p ≡ k + 1 + p
moved k p = omega arith

at-start : (k : ℕ) → k + 0 ≡ k
at-start k = omega arith

module _ (q : ℕ → Bool) (test : Mark → Bool) where
  abbrev Found : ℕ → List Mark → Type 0
  Found k ms = (p : ℕ) × (Passes test ms p) × (q (k + p) ≡ true)

  later : (k : ℕ) (m : Mark) (ms : List Mark) → Found (k + 1) ms → Found k (m ∷ ms)
  later k m ms (p, passes, passed) =
      (suc p, record { mark = passes.mark; there = passes.there; passed = passes.passed }, ap q (moved k p) ∙ passed)

  -- a place that the tests pass, from a search over the places
  any-found : (k : ℕ) (ms : List Mark) → list_any q (places_from test k ms) ≡ true → Found k ms
  any-found k [] e = no_more _ e
  any-found k (m ∷ ms) e = either (test m) refl (any-found (k + 1) ms) e
    where
      either : (b : Bool) → test m ≡ b → (list_any q (places_from test (k + 1) ms) ≡ true → Found (k + 1) ms) → list_any q (if b then k ∷ places_from test (k + 1) ms else places_from test (k + 1) ms) ≡ true → Found k (m ∷ ms)
      either true f more h =
          or-either (q k) (list_any q (places_from test (k + 1) ms)) (Found k (m ∷ ms)) h
          (λ here. (0, record { mark = m; there = refl; passed = f }, ap q (at-start k) ∙ here))
          (λ rest. later k m ms (more rest))
      either false f more h = later k m ms (more h)

  any-from : (k : ℕ) (ms : List Mark) (p : ℕ) → Passes test ms p → q (k + p) ≡ true → list_any q (places_from test k ms) ≡ true
  any-from k [] p passes e = absurd (none p passes.mark passes.there)
    where
      none : (p : ℕ) (m : Mark) → slice_get [] p ≡ Some m → ⊥
      none p m h = cc
  any-from k (m ∷ ms) zero passes e = here (test m) (ap test (the_first m passes.mark passes.there) ∙ passes.passed)
    where
      the_first : (m n : Mark) → Some m ≡ Some n → m ≡ n
      the_first m n h = cc

      here : (b : Bool) → b ≡ true → list_any q (if b then k ∷ places_from test (k + 1) ms else places_from test (k + 1) ms) ≡ true
      here true h = or-first (q k) _ (ap q (sym (at-start k)) ∙ e)
      here false h = no_more _ h
  any-from k (m ∷ ms) (suc p) passes e =
      behind (test m) (any-from (k + 1) ms p (record { mark = passes.mark; there = passes.there; passed = passes.passed }) (ap q (sym (moved k p)) ∙ e))
    where
      behind : (b : Bool) → list_any q (places_from test (k + 1) ms) ≡ true → list_any q (if b then k ∷ places_from test (k + 1) ms else places_from test (k + 1) ms) ≡ true
      behind true h = or-second (q k) _ h
      behind false h = h

-- SNAPSHOTS
pub gxid-same : (g h : Gxid) → is_same_gxid g h ≡ true → g ≡ h
gxid-same g h e = ap (λ (n : ℕ). let x : Gxid = record { 0 = n } in x) (same-of g.0 h.0 e)

pub cid-same : (c d : Cid) → (c.0 == d.0) ≡ true → c ≡ d
cid-same c d e = ap (λ (n : ℕ). let x : Cid = record { 0 = n } in x) (same-of c.0 d.0 e)

serves-from : (level : Level) (d c : Cid) → serves level d c ≡ true → Serves level d c
serves-from ReadCommitted d c e = cid-same d c e
serves-from RepeatableRead d c e = tt

serves-is : (level : Level) (d c : Cid) → Serves level d c → serves level d c ≡ true
serves-is ReadCommitted d c e = eqb-of d.0 c.0 (ap (λ (x : Cid). x.0) e)
serves-is RepeatableRead d c e = refl

module _ (marks : List Mark) (level : Level) (g : Gxid) (c : Cid) where
  own-snapshot : (place : ℕ) (h : Gxid) (d : Cid) (s : Snapshot) → slice_get marks place ≡ Some (Snap h d s) → is_same_gxid h g ≡ true → serves level d c ≡ true → IsSnapshotAt marks level g c place
  own-snapshot place h d s at same serving = record {
    d = d;
    snapshot = s;
    taken = at ∙ ap (λ (x : Gxid). Some (Snap x d s)) (gxid-same h g same);
    serves = serves-from level d c serving;
  }

  snapshot-of : (place : ℕ) (m : Mark) → slice_get marks place ≡ Some m → is_snapshot level g c m ≡ true → IsSnapshotAt marks level g c place
  snapshot-of place (Snap h d s) at e = own-snapshot place h d s at (and-first (is_same_gxid h g) (serves level d c) e) (and-second (is_same_gxid h g) (serves level d c) e)
  snapshot-of place _ at e = no_more _ e

  pub snapshot-passes : (place : ℕ) → IsSnapshotAt marks level g c place → Passes (is_snapshot level g c) marks place
  snapshot-passes place taken = record {
    mark = Snap g taken.d taken.snapshot;
    there = taken.taken;
    passed = and_from (is_same_gxid g g) (serves level taken.d c) (eqb-of g.0 g.0 refl) (serves-is level taken.d c taken.serves);
  }

  -- a test passes at a snapshot's place just where a search over the snapshots finds it
  pub any-snapshot : (q : ℕ → Bool) → list_any q (snapshots marks level g c) ≡ true → (p : ℕ) × (IsSnapshotAt marks level g c p) × (q p ≡ true)
  any-snapshot q e = from (any-found q (is_snapshot level g c) 0 marks e)
    where
      from : Found q (is_snapshot level g c) 0 marks → (p : ℕ) × (IsSnapshotAt marks level g c p) × (q p ≡ true)
      from (p, passes, passed) = (p, snapshot-of p passes.mark passes.there passes.passed, ap q (whole p) ∙ passed)
        where
          whole : (p : ℕ) → p ≡ 0 + p
          whole p = omega arith

  pub snapshot-any : (q : ℕ → Bool) (p : ℕ) → IsSnapshotAt marks level g c p → q p ≡ true → list_any q (snapshots marks level g c) ≡ true
  snapshot-any q p taken e = any-from q (is_snapshot level g c) 0 marks p (snapshot-passes p taken) (ap q (whole p) ∙ e)
    where
      whole : (p : ℕ) → 0 + p ≡ p
      whole p = omega arith
