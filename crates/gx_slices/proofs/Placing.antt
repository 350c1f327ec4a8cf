-- A row among those that are kept, as an ordered map puts it in.
use Rattle.std.proofs.Common.{◌≡◌, Bool, true, false, if◌then◌else◌, List, [], ◌∷◌, refl, sym, ap, ◌∙◌, arith}
use Rattle.std.proofs.lemmas.Bool.Decides.{nat_tests}
use Rattle.std.specs.BTreeMap.{insert_entry}
use Rattle.std.specs.Ordering.{is_lt, match_ordering}
use Rattle.std.specs.declared.cmp.Ordering.{Ordering}
use Rattle.std.specs.declared.cmp.Ordering.TheVariants.{Less, Equal, Greater}
use Rattle.gx_ids.specs.declared.rid.Rid.{Rid}
use Rattle.gx_meaning.specs.Order.{rid_order}
use Rattle.gx_store.specs.Journals.{kept_with}
use Rattle.gx_store.specs.Marks.{is_same_rid}
use Rattle.gx_slices.specs.Kept.{kept_in, listed}
use Rattle.gx_slices.specs.declared.kept.Last.{Last}

less_apart : (q r : Rid) → rid_order q r ≡ Less → is_same_rid r q ≡ false
less_apart q r e = grind (arith, nat_tests)

greater_apart : (q r : Rid) → rid_order q r ≡ Greater → is_same_rid r q ≡ false
greater_apart q r e = grind (arith, nat_tests)

equal_same : (q r : Rid) → rid_order q r ≡ Equal → is_same_rid r q ≡ true
equal_same q r e = grind (arith, nat_tests)

equal_is : (q r : Rid) → rid_order q r ≡ Equal → r ≡ q
equal_is q r e = grind (arith, nat_tests)

module _ (rid : Rid) (last : Last) where
  -- where it stands against the first of the rows
  placed : (e : Rid × Last) (es : List (Rid × Last)) (o : Ordering) → rid_order rid e.0 ≡ o → listed (insert_entry rid_order es rid last) ≡ kept_with (kept_in (rid, last)) (listed es) → listed (match_ordering o ((rid, last) ∷ e ∷ es) ((e.0, last) ∷ es) (e ∷ insert_entry rid_order es rid last)) ≡ kept_with (kept_in (rid, last)) (listed (e ∷ es))
  placed e es Less is more =
      let new = kept_in (rid, last) in
      let ks = listed es in
      let k = kept_in e in
      ap (λ (b : Bool). if b then new ∷ k ∷ ks else k ∷ kept_with new ks) (sym (ap is_lt is))
      ∙ ap (λ (b : Bool). if b then new ∷ ks else (if is_lt (rid_order rid e.0) then new ∷ k ∷ ks else k ∷ kept_with new ks)) (sym (less_apart rid e.0 is))
  placed e es Equal is more =
      let new = kept_in (rid, last) in
      let ks = listed es in
      let k = kept_in e in
      ap (λ (r : Rid). kept_in (r, last) ∷ ks) (equal_is rid e.0 is)
      ∙ ap (λ (b : Bool). if b then new ∷ ks else (if is_lt (rid_order rid e.0) then new ∷ k ∷ ks else k ∷ kept_with new ks)) (sym (equal_same rid e.0 is))
  placed e es Greater is more =
      let new = kept_in (rid, last) in
      let ks = listed es in
      let k = kept_in e in
      ap (λ l. k ∷ l) more
      ∙ ap (λ (b : Bool). if b then new ∷ k ∷ ks else k ∷ kept_with new ks) (sym (ap is_lt is))
      ∙ ap (λ (b : Bool). if b then new ∷ ks else (if is_lt (rid_order rid e.0) then new ∷ k ∷ ks else k ∷ kept_with new ks)) (sym (greater_apart rid e.0 is))

  -- the map with the row more is the list with it
  pub listed-insert_entry : (es : List (Rid × Last)) → listed (insert_entry rid_order es rid last) ≡ kept_with (kept_in (rid, last)) (listed es)
  listed-insert_entry [] = refl
  listed-insert_entry (e ∷ es) = placed e es (rid_order rid e.0) refl (listed-insert_entry es)
