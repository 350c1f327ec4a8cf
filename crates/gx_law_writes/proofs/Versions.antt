-- The versions at a segment: each is a write there, where its row was inserted, and the row's INSERT has run there.
use Rattle.std.proofs.Common.{◌≡◌, ◌<◌, ℕ, List, [], ◌∷◌, ◌++◌, Option, Some, None, Bool, true, false, refl, sym, subst, ◌∙◌, cond, if◌then◌else◌, arith}
use Rattle.std.proofs.lemmas.Bool.Decides.{nat_tests}
use Rattle.std.proofs.lemmas.Bool.{or_left, or_right}
use Rattle.std.proofs.lemmas.List.{reverse-append}
use Rattle.std.specs.Prelude.{find, reverse}
use Rattle.gx_lemmas.proofs.Options.{some-same}
use Rattle.gx_ids.specs.declared.ids.Node.{Node}
use Rattle.gx_ids.specs.declared.rid.Rid.{Rid}
use Rattle.gx_script.specs.declared.Script.{Script}
use Rattle.gx_store.specs.declared.mark.Mark.{Mark}
use Rattle.gx_store.specs.declared.mark.Mark.TheVariants as mark
use Rattle.gx_store.specs.Journals.{is_same_node}
use Rattle.gx_store.specs.Marks.{is_same_rid, is_written}
use Rattle.gx_store.proofs.Marks.{is_written-append}
use Rattle.gx_rules.specs.Segments.{Version}
use Rattle.gx_law_order.proofs.Letters.{same_node}
use Rattle.gx_law_order.proofs.Lists.{each_append, each_weaker}
use Rattle.gx_law_order.specs.Lists.{Each}
use Rattle.gx_law_order.proofs.SegItems.{writes_at}
use Rattle.gx_law_writes.specs.Homes.{IsPlaced, IsPlacedMark}
use Rattle.gx_law_writes.proofs.Legal.{IsPastMark}

-- with these marks behind it
pub record IsHomeVersion (script : Script) (ms : List Mark) (node : Node) (nexts : ℕ → ℕ) (before : List Mark) (v : Version) : Type 0 where
  pub placed : IsPlaced script ms node v.table v.rid v.image
  pub written : is_written before v.rid ≡ true
  pub past : v.rid.cid.0 < nexts v.rid.gxid.0

pub version-more : (script : Script) (ms : List Mark) (node : Node) (nexts : ℕ → ℕ) (before more : List Mark) (v : Version) → IsHomeVersion script ms node nexts before v → IsHomeVersion script ms node nexts (before ++ more) v
version-more script ms node nexts before more v h =
    record { placed = h.placed; written = subst (λ b. b ≡ true) (sym (is_written-append before more v.rid)) (or_left (is_written before v.rid) (is_written more v.rid) h.written); past = h.past }

module _ (script : Script) (ms : List Mark) (node : Node) (nexts : ℕ → ℕ → ℕ) where
  abbrev Home : List Mark → Version → Type 0
  Home before v = IsHomeVersion script ms node (nexts node.0) before v

  self : (r : Rid) → is_same_rid r r ≡ true
  self r = grind (arith, nat_tests)

  in-front : (m : Mark) (before : List Mark) → ((rid : Rid) → is_written before rid ≡ true → is_written (m ∷ before) rid ≡ true) → (vs : List Version) → Each (Home before) vs → Each (Home (m ∷ before)) vs
  in-front m before more vs e = each_weaker (Home before) (Home (m ∷ before)) (λ v h. record { placed = h.placed; written = more v.rid h.written; past = h.past }) vs e

  -- those of marks that are so
  pub home-versions : (xs : List Mark) → Each (IsPlacedMark script ms) xs → Each (IsPastMark nexts) xs → Each (Home xs) (writes_at node xs)
  home-versions [] e f = tt
  home-versions (mark.Write g c n t r x ∷ xs) e f = by_node (is_same_node n node) refl (in-front (mark.Write g c n t r x) xs (λ rid w. or_right (is_same_rid r rid) (is_written xs rid) w) (writes_at node xs) (home-versions xs e.1 f.1))
    where
      all : List Mark
      all = mark.Write g c n t r x ∷ xs

      here : is_same_node n node ≡ true → Home all (record { gxid = g; cid = c; table = t; rid = r; image = x })
      here same =
          record {
            placed = subst (λ (k : Node). IsPlaced script ms k t r x) (same_node n node same) e.0;
            written = or_left (is_same_rid r r) (is_written xs r) (self r);
            past = subst (λ (k : Node). r.cid.0 < nexts k.0 r.gxid.0) (same_node n node same) f.0;
          }

      by_node : (b : Bool) → is_same_node n node ≡ b → Each (Home all) (writes_at node xs) → Each (Home all) (if b then record { gxid = g; cid = c; table = t; rid = r; image = x } ∷ writes_at node xs else writes_at node xs)
      by_node true same rest = (here same, rest)
      by_node false same rest = rest
  home-versions (m ∷ xs) e f = in-front m xs (λ rid w. is_written-append (m ∷ []) xs rid ∙ or_right (is_written (m ∷ []) rid) (is_written xs rid) w) (writes_at node xs) (home-versions xs e.1 f.1)

-- FOUND
each-reverse : {A : Type 0} (P : A → Type 0) (xs : List A) → Each P xs → Each P (reverse xs)
each-reverse P [] e = tt
each-reverse P (x ∷ xs) e = subst (Each P) (sym (reverse-append (x ∷ []) xs)) (each_append P (reverse xs) (x ∷ []) (each-reverse P xs e.1) (e.0, tt))

each-found : {A : Type 0} (P : A → Type 0) (p : A → Bool) (xs : List A) (y : A) → Each P xs → find p xs ≡ Some y → P y
each-found P p [] y e f = absurd (cc)
each-found P p (x ∷ xs) y e f = by_test (p x) f (each-found P p xs y e.1)
  where
    by_test : (b : Bool) → cond b (Some x) (find p xs) ≡ Some y → (find p xs ≡ Some y → P y) → P y
    by_test true f more = subst P (some-same x y f) e.0
    by_test false f more = more f

-- what holds of each holds of the newest that passes
pub each-newest : {A : Type 0} (P : A → Type 0) (p : A → Bool) (xs : List A) (y : A) → Each P xs → find p (reverse xs) ≡ Some y → P y
each-newest P p xs y e f = each-found P p (reverse xs) y (each-reverse P xs e) f
