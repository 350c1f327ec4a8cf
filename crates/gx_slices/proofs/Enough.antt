-- A condition makes of the rows that are looked at what it makes of all.
use Rattle.std.proofs.Common.{◌≡◌, ⊎_elim, Bool, true, false, cond, List, [], ◌∷◌, Option, Some, None, map, filter, refl, sym, ap, ◌∙◌, subst}
use Rattle.std.proofs.lemmas.List.Kept.{IsStrictlySortedBy-filter}
use Rattle.std.specs.Prelude.{Ok, is_some}
use Rattle.std.specs.List.{AllByRecursion}
use Rattle.std.specs.List.Sorted.{IsStrictlySortedBy}
use Rattle.std.specs.declared.cmp.Ordering.TheVariants.{Less}
use Rattle.gx_ids.specs.declared.ids.Cid.{Cid}
use Rattle.gx_ids.specs.declared.rid.Rid.{Rid}
use Rattle.gx_tree.specs.declared.cond.Cond.{Cond}
use Rattle.gx_tree.specs.declared.query.Query.{Query}
use Rattle.gx_tree.specs.declared.row.KeyedRow.{KeyedRow}
use Rattle.gx_tree.specs.declared.value.Value.{Value}
use Rattle.gx_meaning.specs.Answer.{AreRising, keeps, part_of}
use Rattle.gx_meaning.specs.Expressions.{truth_of}
use Rattle.gx_meaning.specs.Order.{rid_order}
use Rattle.gx_meaning.specs.declared.fault.ArithFault.{ArithFault}
use Rattle.gx_msg.specs.declared.reply.Reply.TheVariants.{Done}
use Rattle.gx_store.proofs.Rows.{is_same_rid-refl, same_rid}
use Rattle.gx_store.specs.Marks.{is_same_rid}
use Rattle.gx_store.specs.Rows.{row_at}
use Rattle.gx_rules.specs.Slices.{first_fault, or_fault}
use Rattle.gx_rules.proofs.RowOrder.{less_apart_back}
use Rattle.gx_rules.proofs.ShownRows.{rows-same}
use Rattle.gx_slices.specs.Keyed.{IsDenied, IsShownFor}
use Rattle.gx_slices.specs.Picked.{AreEnough, AreTypedOn, IsPicked, IsTypedOn, select_reply}
use Rattle.gx_slices.specs.declared.picking.Picked.{Picked}
use Rattle.gx_slices.specs.declared.picking.Picked.TheVariants as picked

-- ROWS BY A TEST OF THEIR IDENTITY
one_either_way : (o : Option (List Value)) (b : Bool) → o ≡ cond b o o
one_either_way o true = refl
one_either_way o false = refl

module _ (t : Rid → Bool) where
  abbrev left : List KeyedRow → List KeyedRow
  left xs = filter (λ row. t row.rid) xs

  row_once : (x : KeyedRow) (xs : List KeyedRow) (q : Rid) (b c : Bool) → is_same_rid x.rid q ≡ b → t x.rid ≡ c → row_at (left xs) q ≡ cond (t q) (row_at xs q) None → row_at (cond c (x ∷ left xs) (left xs)) q ≡ cond (t q) (cond b (Some x.row) (row_at xs q)) None
  row_once x xs q true true is at more =
      ap (λ (d : Bool). cond d (Some x.row) (row_at (left xs) q)) is ∙ sym (ap (λ (d : Bool). cond d (Some x.row) None) (sym (ap t (same_rid x.rid q is)) ∙ at))
  row_once x xs q true false is at more =
      let here : t q ≡ false = sym (ap t (same_rid x.rid q is)) ∙ at in
      more ∙ ap (λ (d : Bool). cond d (row_at xs q) None) here ∙ sym (ap (λ (d : Bool). cond d (Some x.row) None) here)
  row_once x xs q false true is at more = ap (λ (d : Bool). cond d (Some x.row) (row_at (left xs) q)) is ∙ more
  row_once x xs q false false is at more = more

  row_at-left : (xs : List KeyedRow) (q : Rid) → row_at (left xs) q ≡ cond (t q) (row_at xs q) None
  row_at-left [] q = one_either_way None (t q)
  row_at-left (x ∷ xs) q = row_once x xs q (is_same_rid x.rid q) (t x.rid) refl refl (row_at-left xs q)

  rids_once : (x : KeyedRow) (xs : List KeyedRow) (b : Bool) → map (λ row. row.rid) (cond b (x ∷ xs) xs) ≡ cond b (x.rid ∷ map (λ row. row.rid) xs) (map (λ row. row.rid) xs)
  rids_once x xs true = refl
  rids_once x xs false = refl

  rids_left : (xs : List KeyedRow) → map (λ row. row.rid) (left xs) ≡ filter t (map (λ row. row.rid) xs)
  rids_left [] = refl
  rids_left (x ∷ xs) = rids_once x (left xs) (t x.rid) ∙ ap (λ (rs : List Rid). cond (t x.rid) (x.rid ∷ rs) rs) (rids_left xs)

  rising-left : (xs : List KeyedRow) → AreRising xs → AreRising (left xs)
  rising-left xs rising = subst (IsStrictlySortedBy rid_order) (sym (rids_left xs)) (IsStrictlySortedBy-filter rid_order t (map (λ row. row.rid) xs) rising)

-- ROWS THAT ARE LEFT OUT
module _ (c : Cond) (p : KeyedRow → Bool) where
  -- on a row that is left out the condition is false, without a fault
  abbrev IsFalse : KeyedRow → Type 0
  IsFalse row = p row ≡ false → truth_of row.row c ≡ Ok false

  keeps-not : (row : KeyedRow) → truth_of row.row c ≡ Ok false → keeps (Some c) row ≡ false
  keeps-not row e = rw e refl

  fault_once : (x : KeyedRow) (xs : List KeyedRow) (b : Bool) → p x ≡ b → IsFalse x → first_fault (Some c) (filter p xs) ≡ first_fault (Some c) xs → first_fault (Some c) (cond b (x ∷ filter p xs) (filter p xs)) ≡ first_fault (Some c) (x ∷ xs)
  fault_once x xs true is law more = ap (or_fault x (truth_of x.row c)) more
  fault_once x xs false is law more = more ∙ ap (λ r. or_fault x r (first_fault (Some c) xs)) (sym (law is))

  faults-left : (xs : List KeyedRow) → AllByRecursion IsFalse xs → first_fault (Some c) (filter p xs) ≡ first_fault (Some c) xs
  faults-left [] all = refl
  faults-left (x ∷ xs) all = fault_once x xs (p x) refl all.0 (faults-left xs all.1)

  kept_once : (x : KeyedRow) (xs : List KeyedRow) (b : Bool) → p x ≡ b → IsFalse x → filter (keeps (Some c)) (filter p xs) ≡ filter (keeps (Some c)) xs → filter (keeps (Some c)) (cond b (x ∷ filter p xs) (filter p xs)) ≡ filter (keeps (Some c)) (x ∷ xs)
  kept_once x xs true is law more = ap (λ (l : List KeyedRow). cond (keeps (Some c) x) (x ∷ l) l) more
  kept_once x xs false is law more = more ∙ ap (λ (b : Bool). cond b (x ∷ filter (keeps (Some c)) xs) (filter (keeps (Some c)) xs)) (sym (keeps-not x (law is)))

  kept-left : (xs : List KeyedRow) → AllByRecursion IsFalse xs → filter (keeps (Some c)) (filter p xs) ≡ filter (keeps (Some c)) xs
  kept-left [] all = refl
  kept-left (x ∷ xs) all = kept_once x xs (p x) refl all.0 (kept-left xs all.1)

  typed_once : (x : KeyedRow) (xs : List KeyedRow) (b : Bool) → IsTypedOn c x → AllByRecursion (IsTypedOn c) xs → AllByRecursion (IsTypedOn c) (cond b (x ∷ xs) xs)
  typed_once x xs true first rest = (first, rest)
  typed_once x xs false first rest = rest

  typed-left : (xs : List KeyedRow) → AllByRecursion (IsTypedOn c) xs → AllByRecursion (IsTypedOn c) (filter p xs)
  typed-left [] all = tt
  typed-left (x ∷ xs) all = typed_once x (filter p xs) (p x) all.0 (typed-left xs all.1)

-- A ROW OF RISING ROWS STANDS AT ITS IDENTITY

behind : (x : KeyedRow) (all ys : List KeyedRow) → AllByRecursion (λ r. rid_order x.rid r ≡ Less) (map (λ row. row.rid) ys) → AllByRecursion (λ row. row_at all row.rid ≡ Some row.row) ys → AllByRecursion (λ row. row_at (x ∷ all) row.rid ≡ Some row.row) ys
behind x all [] above at = tt
behind x all (y ∷ ys) above at = (ap (λ (b : Bool). cond b (Some x.row) (row_at all y.rid)) (less_apart_back x.rid y.rid above.0) ∙ at.0, behind x all ys above.1 at.1)

each_at : (xs : List KeyedRow) → AreRising xs → AllByRecursion (λ row. row_at xs row.rid ≡ Some row.row) xs
unfolding IsStrictlySortedBy
each_at [] rising = tt
each_at (x ∷ xs) rising = (ap (λ (b : Bool). cond b (Some x.row) (row_at xs x.rid)) (is_same_rid-refl x.rid), behind x xs xs rising.0 (each_at xs rising.1))

-- ENOUGH ROWS
left_or : (c : Option Cond) (shown row : Option (List Value)) → IsShownFor c shown row → row ≡ cond (is_some row) shown None
left_or c shown None is = refl
left_or c shown (Some r) is = ⊎_elim (λ (e : Some r ≡ shown). e) (λ (both : (Some r ≡ None) × IsDenied c shown). absurd (cc (both.0))) is

module _ (c : Cond) (all rows : List KeyedRow) (at : (rid : Rid) → IsShownFor (Some c) (row_at all rid) (row_at rows rid)) where
  abbrev is_there : Rid → Bool
  is_there rid = is_some (row_at rows rid)

  out : (row : KeyedRow) → row_at all row.rid ≡ Some row.row → IsTypedOn c row → is_there row.rid ≡ false → truth_of row.row c ≡ Ok false
  out row here typed missing =
      ⊎_elim
      (λ (e : row_at rows row.rid ≡ row_at all row.rid). absurd (cc (sym missing ∙ ap is_some (e ∙ here))))
      (λ (both : (row_at rows row.rid ≡ None) × IsDenied (Some c) (row_at all row.rid)). subst (IsDenied (Some c)) here both.1 typed)
      (at row.rid)

  all_out : (xs : List KeyedRow) → AllByRecursion (λ row. row_at all row.rid ≡ Some row.row) xs → AllByRecursion (IsTypedOn c) xs → AllByRecursion (IsFalse c (λ row. is_there row.rid)) xs
  all_out [] here typed = tt
  all_out (x ∷ xs) here typed = (out x here.0 typed.0, all_out xs here.1 typed.1)

  enough_by : AreRising all → AreRising rows → AllByRecursion (IsTypedOn c) all → AreEnough (Some c) all rows
  enough_by rising-all rising typed =
      let same : rows ≡ left is_there all = rows-same rows (left is_there all) rising (rising-left is_there all rising-all) (λ rid. left_or (Some c) (row_at all rid) (row_at rows rid) (at rid) ∙ sym (row_at-left is_there all rid)) in
      let false-out = all_out all (each_at all rising-all) typed in record {
        typed = subst (AllByRecursion (IsTypedOn c)) (sym same) (typed-left c (λ row. is_there row.rid) all typed);
        faults = ap (first_fault (Some c)) same ∙ faults-left c (λ row. is_there row.rid) all false-out;
        kept = ap (filter (keeps (Some c))) same ∙ kept-left c (λ row. is_there row.rid) all false-out;
      }

-- the rows that are shown without some on which the condition is false are enough
pub enough : (c : Option Cond) (all rows : List KeyedRow) → AreRising all → AreRising rows → ((rid : Rid) → IsShownFor c (row_at all rid) (row_at rows rid)) → AreTypedOn c all → AreEnough c all rows
enough (Some c) all rows rising-all rising at typed = enough_by c all rows at rising-all rising typed
enough None all rows rising-all rising at typed =
    let same : rows ≡ all = rows-same rows all rising rising-all (λ rid. ⊎_elim (λ (e : row_at rows rid ≡ row_at all rid). e) (λ (both : (row_at rows rid ≡ None) × IsDenied None (row_at all rid)). absurd both.1) (at rid)) in
    record { typed = tt; faults = ap (first_fault None) same; kept = ap (filter (keeps None)) same }

-- WHAT A COMMAND MAKES OF THEM
module _ (all rows : List KeyedRow) where
  pub IsPicked-enough : (c : Option Cond) (p : Picked) → AreEnough c all rows → IsPicked c rows p → IsPicked c all p
  IsPicked-enough c (picked.Rows kept) is made = (sym is.faults ∙ made.0, made.1 ∙ is.kept)
  IsPicked-enough c (picked.Fault row fault) is made = sym is.faults ∙ made

  pub select_reply-enough : (c : Cid) (wrote : Bool) (query : Query) (fault : Option (KeyedRow × ArithFault)) → AreEnough query.cond all rows → select_reply c wrote query rows fault ≡ select_reply c wrote query all fault
  select_reply-enough c wrote query None is = ap (λ (kept : List KeyedRow). Done c wrote 0 (part_of query kept)) is.kept
  select_reply-enough c wrote query (Some fault) is = refl
