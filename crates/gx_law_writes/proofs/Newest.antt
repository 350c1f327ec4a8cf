-- The newest write that passes a test, by a segment's versions and by the marks.
use Rattle.std.proofs.Common.{◌≡◌, ◌∙◌, ◌⊎◌, inl, inr, ℕ, ◌+◌, Bool, true, false, not, ◌&&◌, List, [], ◌∷◌, ◌++◌, Option, Some, None, ap, refl, sym, subst, if◌then◌else◌}
use Rattle.std.specs.Prelude.{find, reverse}
use Rattle.std.specs.Option.{option_or}
use Rattle.std.proofs.lemmas.List.Folds.{find-append}
use Rattle.std.proofs.lemmas.List.{reverse-append}
use Rattle.gx_ids.specs.declared.ids.Cid.{Cid}
use Rattle.gx_ids.specs.declared.ids.Gxid.{Gxid}
use Rattle.gx_ids.specs.declared.ids.Node.{Node}
use Rattle.gx_ids.specs.declared.rid.Rid.{Rid}
use Rattle.gx_tree.specs.declared.value.Value.{Value}
use Rattle.gx_lemmas.proofs.Options.{none-some, some-same}
use Rattle.gx_lemmas.proofs.Tests.{true-false}
use Rattle.gx_store.specs.declared.mark.Mark.{Mark}
use Rattle.gx_store.specs.declared.mark.Mark.TheVariants as mark
use Rattle.gx_store.specs.Journals.{is_same_node}
use Rattle.gx_store.specs.Marks.{is_same_rid}
use Rattle.gx_store.specs.Writes.{Written, last_write}
use Rattle.gx_rules.specs.Segments.{Version}
use Rattle.gx_law_order.specs.Lists.{Each}
use Rattle.gx_law_order.proofs.SegItems.{writes_at}
use Rattle.gx_law_reads.specs.Sights.{IsOnlyAt}

-- the last that passes, or the one given
abbrev pub newest : (Version → Bool) → Option Version → List Version → Option Version
newest p old [] = old
newest p old (v ∷ vs) = newest p (if p v then Some v else old) vs

option-or-assoc : (o : Option Version) (b : Bool) (v : Version) (old : Option Version) → option_or o (if b then Some v else old) ≡ option_or (option_or o (if b then Some v else None)) old
option-or-assoc None true v old = refl
option-or-assoc None false v old = refl
option-or-assoc (Some u) b v old = refl

find-one : (p : Version → Bool) (v : Version) → find p (v ∷ []) ≡ (if p v then Some v else None)
find-one p v = by_test (p v) refl
  where
    by_test : (b : Bool) → p v ≡ b → find p (v ∷ []) ≡ (if b then Some v else None)
    by_test true e = rw e refl
    by_test false e = rw e refl

newest-find : (p : Version → Bool) (old : Option Version) (vs : List Version) → newest p old vs ≡ option_or (find p (reverse vs)) old
newest-find p old [] = refl
newest-find p old (v ∷ vs) =
    newest-find p (if p v then Some v else old) vs
    ∙ option-or-assoc (find p (reverse vs)) (p v) v old
    ∙ ap (λ o. option_or o old) (sym (ap (find p) (reverse-append (v ∷ []) vs) ∙ find-append p (reverse vs) (v ∷ []) ∙ ap (option_or (find p (reverse vs))) (find-one p v)))

option-none : (o : Option Version) → option_or o None ≡ o
option-none None = refl
option-none (Some v) = refl

-- the first from behind is the newest
pub find-reverse : (p : Version → Bool) (vs : List Version) → find p (reverse vs) ≡ newest p None vs
find-reverse p vs = sym (newest-find p None vs ∙ option-none (find p (reverse vs)))

-- THE SAME BY THE MARKS
-- the write that the marks have is the one that the version is
pub record IsWriteOf (v : Version) (o : Option Written) : Type 0 where
  pub write : Written
  pub is : o ≡ Some write
  pub gxid : write.gxid ≡ v.gxid
  pub cid : write.cid ≡ v.cid
  pub image : write.image ≡ v.image

none-is-some : (v : Version) → None ≡ Some v → ⊥
none-is-some v e = cc

and-not : (a b : Bool) → (b ≡ true → ⊥) → (a && b) ≡ false
and-not a true f = absurd (f refl)
and-not true false f = refl
and-not false false f = refl

module _ (node : Node) (rid : Rid) (r : Version → Bool) (q : Gxid → Cid → Bool) where
  abbrev pub is_row : Version → Bool
  is_row u = is_same_rid u.rid rid && r u

  -- who fails the one test of the row's versions fails the other
  abbrev pub FailsBoth : Version → Type 0
  FailsBoth u = is_same_rid u.rid rid ≡ true → r u ≡ false → q u.gxid u.cid ≡ false

  module _ (v : Version) (passes : q v.gxid v.cid ≡ true) where
    -- one write of the row
    by-write : (place : ℕ) (u : Version) (last : Option Written) (old : Option Version) (d b : Bool) → is_same_rid u.rid rid ≡ d → r u ≡ b → FailsBoth u → (old ≡ Some v → IsWriteOf v last)
        → (if d && b then Some u else old) ≡ Some v
        → IsWriteOf v (if q u.gxid u.cid && d then Some (record { place = place; gxid = u.gxid; cid = u.cid; image = u.image }) else last)
    by-write place u last old true true d e f same new = by_version (some-same u v new)
      where
        now : Written
        now = record { place = place; gxid = u.gxid; cid = u.cid; image = u.image }

        by_version : u ≡ v → IsWriteOf v (if q u.gxid u.cid && true then Some now else last)
        by_version i =
            let passed : q u.gxid u.cid ≡ true = ap (λ (w : Version). q w.gxid w.cid) i ∙ passes in
            record {
              write = now;
              is = ap (λ t. if t && true then Some now else last) passed;
              gxid = ap (λ (w : Version). w.gxid) i;
              cid = ap (λ (w : Version). w.cid) i;
              image = ap (λ (w : Version). w.image) i;
            }
    by-write place u last old true false d e f same new = subst (λ t. IsWriteOf v (if t && true then Some (record { place = place; gxid = u.gxid; cid = u.cid; image = u.image }) else last)) (sym (f d e)) (same new)
    by-write place u last old false b d e f same new = subst (λ t. IsWriteOf v (if t then Some (record { place = place; gxid = u.gxid; cid = u.cid; image = u.image }) else last)) (sym (no-and (q u.gxid u.cid))) (same new)
      where
        no-and : (t : Bool) → t && false ≡ false
        no-and true = refl
        no-and false = refl

    -- the marks' last write of the row that passes is the newest version that does
    pub newest-write : (ms : List Mark) (place : ℕ) (last : Option Written) (old : Option Version) → IsOnlyAt node rid ms → Each FailsBoth (writes_at node ms) → (old ≡ Some v → IsWriteOf v last)
        → newest is_row old (writes_at node ms) ≡ Some v → IsWriteOf v (last_write q rid place last ms)
    newest-write [] place last old o e same new = same new
    newest-write (mark.Write g c n t x image ∷ ms) place last old o e same new = by_node (is_same_node n node) refl e new (λ later older f i w. newest-write ms (place + 1) later older o.1 f i w)
      where
        u : Version
        u = record { gxid = g; cid = c; table = t; rid = x; image = image }

        now : Written
        now = record { place = place; gxid = g; cid = c; image = image }

        elsewhere : is_same_node n node ≡ false → (q g c && is_same_rid x rid) ≡ false
        elsewhere f = and-not (q g c) (is_same_rid x rid) (λ d. true-false (is_same_node n node) (o.0 d) f)

        by_node : (a : Bool) → is_same_node n node ≡ a → Each FailsBoth (if a then u ∷ writes_at node ms else writes_at node ms)
            → newest is_row old (if a then u ∷ writes_at node ms else writes_at node ms) ≡ Some v
            → ((later : Option Written) (older : Option Version) → Each FailsBoth (writes_at node ms) → (older ≡ Some v → IsWriteOf v later) → newest is_row older (writes_at node ms) ≡ Some v
            → IsWriteOf v (last_write q rid (place + 1) later ms))
            → IsWriteOf v (last_write q rid (place + 1) (if q g c && is_same_rid x rid then Some now else last) ms)
        by_node true a e new more = more _ _ e.1 (by-write place u last old (is_same_rid x rid) (r u) refl refl e.0 same) new
        by_node false a e new more = more _ old e (λ i. subst (λ b. IsWriteOf v (if b then Some now else last)) (sym (elsewhere a)) (same i)) new
    newest-write (m ∷ ms) place last old o e same new = newest-write ms (place + 1) last old o e same new

-- A stricter test has the same last write, where that passes it.
module _ (rid : Rid) (q strict : Gxid → Cid → Bool) (weaker : (g : Gxid) (c : Cid) → strict g c ≡ true → q g c ≡ true) (w : Written) (passes : strict w.gxid w.cid ≡ true) where
  by-strict : (place : ℕ) (g : Gxid) (c : Cid) (image : Option (List Value)) (d a b : Bool) (last other : Option Written) → q g c ≡ a → strict g c ≡ b → (last ≡ Some w → other ≡ Some w)
      → (if a && d then Some (record { place = place; gxid = g; cid = c; image = image }) else last) ≡ Some w
      → (if b && d then Some (record { place = place; gxid = g; cid = c; image = image }) else other) ≡ Some w
  by-strict place g c image d a true last other e f same new = by_row d (subst (λ t. (if t && d then Some (record { place = place; gxid = g; cid = c; image = image }) else last) ≡ Some w) (sym e ∙ weaker g c f) new)
    where
      by_row : (d : Bool) → (if true && d then Some (record { place = place; gxid = g; cid = c; image = image }) else last) ≡ Some w
          → (if true && d then Some (record { place = place; gxid = g; cid = c; image = image }) else other) ≡ Some w
      by_row true new = new
      by_row false new = same new
  by-strict place g c image true true false last other e f same new = absurd (true-false (strict g c) (ap (λ (x : Written). strict x.gxid x.cid) (some-same _ w new) ∙ passes) f)
  by-strict place g c image true false false last other e f same new = same new
  by-strict place g c image false true false last other e f same new = same new
  by-strict place g c image false false false last other e f same new = same new

  pub stricter-write : (ms : List Mark) (place : ℕ) (last other : Option Written) → (last ≡ Some w → other ≡ Some w) → last_write q rid place last ms ≡ Some w → last_write strict rid place other ms ≡ Some w
  stricter-write [] place last other same new = same new
  stricter-write (mark.Write g c n t x image ∷ ms) place last other same new =
      stricter-write ms (place + 1) _ _ (by-strict place g c image (is_same_rid x rid) (q g c) (strict g c) last other refl refl same) new
  stricter-write (m ∷ ms) place last other same new = stricter-write ms (place + 1) last other same new
