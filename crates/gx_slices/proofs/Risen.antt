-- A row above all others goes behind them.
use Rattle.std.proofs.Common.{◌≡◌, Bool, true, false, if◌then◌else◌, List, [], ◌∷◌, ◌++◌, refl, sym, ap, ◌∙◌, arith}
use Rattle.std.proofs.lemmas.Bool.Decides.{nat_tests}
use Rattle.std.specs.List.{AllByRecursion}
use Rattle.std.specs.Ordering.{is_lt}
use Rattle.gx_ids.specs.declared.rid.Rid.{Rid}
use Rattle.gx_meaning.specs.Order.{rid_order}
use Rattle.gx_msg.specs.declared.item.Kept.{Kept}
use Rattle.gx_store.specs.Journals.{kept_with}
use Rattle.gx_store.specs.Marks.{is_same_rid}
use Rattle.gx_slices.specs.Kept.{IsRising, kept_in, listed, put_all}
use Rattle.gx_slices.specs.declared.kept.Last.{Last}

apart : (top rid r : Rid) → is_lt (rid_order top rid) ≡ true → is_lt (rid_order top r) ≡ false → is_same_rid r rid ≡ false
apart top rid r above up = grind (arith, nat_tests)

over : (top rid r : Rid) → is_lt (rid_order top rid) ≡ true → is_lt (rid_order top r) ≡ false → is_lt (rid_order rid r) ≡ false
over top rid r above up = grind (arith, nat_tests)

itself : (r : Rid) → is_lt (rid_order r r) ≡ false
itself r = grind (arith, nat_tests)

module _ (top rid : Rid) (last : Last) (above : is_lt (rid_order top rid) ≡ true) where
  behind : (es : List (Rid × Last)) → AllByRecursion (λ e. is_lt (rid_order top e.0) ≡ false) es → kept_with (kept_in (rid, last)) (listed es) ≡ listed es ++ kept_in (rid, last) ∷ []
  behind [] all = refl
  behind (e ∷ es) all =
      let new = kept_in (rid, last) in
      let k = kept_in e in
      let ks = listed es in
      ap (λ (b : Bool). if b then new ∷ ks else (if is_lt (rid_order rid e.0) then new ∷ k ∷ ks else k ∷ kept_with new ks)) (apart top rid e.0 above all.0)
      ∙ ap (λ (b : Bool). if b then new ∷ k ∷ ks else k ∷ kept_with new ks) (over top rid e.0 above all.0)
      ∙ ap (λ (l : List Kept). k ∷ l) (behind es all.1)

  listed-last : (es : List (Rid × Last)) → listed (es ++ (rid, last) ∷ []) ≡ listed es ++ kept_in (rid, last) ∷ []
  listed-last [] = refl
  listed-last (e ∷ es) = ap (λ (l : List Kept). kept_in e ∷ l) (listed-last es)

  put-last : (kept : List Kept) (es : List (Rid × Last)) → put_all kept (es ++ (rid, last) ∷ []) ≡ kept_with (kept_in (rid, last)) (put_all kept es)
  put-last kept [] = refl
  put-last kept (e ∷ es) = put-last (kept_with (kept_in e) kept) es

  all-below : (es : List (Rid × Last)) → AllByRecursion (λ e. is_lt (rid_order top e.0) ≡ false) es → AllByRecursion (λ e. is_lt (rid_order rid e.0) ≡ false) (es ++ (rid, last) ∷ [])
  all-below [] all = (itself rid, tt)
  all-below (e ∷ es) all = (over top rid e.0 above all.0, all-below es all.1)

  module _ (es : List (Rid × Last)) (rising : IsRising top es) where
    -- the list with the row is what it is to be
    pub kept-behind : listed (es ++ (rid, last) ∷ []) ≡ kept_with (kept_in (rid, last)) (listed es)
    kept-behind = listed-last es ∙ sym (behind es rising.below)

    pub rises-on : IsRising rid (es ++ (rid, last) ∷ [])
    rises-on = record {
      below = all-below es rising.below;
      put = put-last [] es ∙ ap (kept_with (kept_in (rid, last))) rising.put ∙ sym kept-behind;
    }
