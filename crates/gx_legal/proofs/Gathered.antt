-- What sets that were gathered of marks contain.
use Rattle.std.proofs.Common.{◌≡◌, ◌∙◌, ℕ, ◌+◌, ◌==◌, ◌&&◌, ◌||◌, Bool, true, false, cond, not, List, [], ◌∷◌, Option, Some, None, refl, ap, sym, arith}
use Rattle.std.proofs.Math.Path.{fun_ext}
use Rattle.std.proofs.lemmas.Bool.Decides.{nat_tests}
use Rattle.std.specs.BTreeMap.{is_at}
use Rattle.std.specs.BTreeSet.{BTreeSet, contains, insert_key}
use Rattle.std.specs.List.{list_all, list_any}
use Rattle.std.specs.Ordering.{is_eq, match_ordering, nat_cmp}
use Rattle.std.specs.declared.cmp.Ordering.{Ordering}
use Rattle.std.specs.declared.cmp.Ordering.TheVariants.{Less, Equal, Greater}
use Rattle.gx_dsnap.specs.Gxids.{gxid_cmp}
use Rattle.gx_ids.specs.declared.ids.Gxid.{Gxid}
use Rattle.gx_ids.specs.declared.ids.Cid.{Cid}
use Rattle.gx_ids.specs.declared.rid.Rid.{Rid}
use Rattle.gx_lemmas.proofs.Tests.{or-assoc, or-false}
use Rattle.gx_meaning.specs.Order.{rid_order}
use Rattle.gx_tree.specs.declared.cond.Cond.{Cond}
use Rattle.gx_tree.specs.declared.expr.Expr.{Expr}
use Rattle.gx_tree.specs.declared.row.KeyedRow.{KeyedRow}
use Rattle.gx_store.specs.declared.mark.Mark.{Mark}
use Rattle.gx_store.specs.declared.mark.Mark.TheVariants.{Commit, Skip, Write}
use Rattle.gx_store.specs.Commands.{condition_on}
use Rattle.gx_store.specs.Marks.{is_command_of, is_committed, is_processed, is_same_gxid, is_same_rid}
use Rattle.gx_legal.specs.RowsDone.{are_done, are_done_in}
use Rattle.gx_legal.specs.Gathered.{committed_from, ordinals_from, own_ordinal, processed_from, row_of, with_ordinal, with_row}
use Rattle.gx_legal.specs.Selected.{is_met}
use Rattle.gx_legal.proofs.Turned.{or-across, or-twice}
use Rattle.gx_legal.specs.Told.{are_ordinals_in, are_own_done, own_row}

-- A KEY MORE
-- a set has a key that is put in, and what it had before
module _ {K : Type 0} (compare : K → K → Ordering) (alike : (k x q : K) → compare k x ≡ Equal → is_eq (compare q k) ≡ is_eq (compare q x)) (q : K) where
  abbrev has : List K → Bool
  has ks = list_any (is_at (compare q)) ks

  has-insert : (ks : List K) (k : K) → has (insert_key compare ks k) ≡ (is_eq (compare q k) || has ks)
  has-insert [] k = refl
  has-insert (x ∷ xs) k = by_order (compare k x) refl (has-insert xs k)
    where
      by_order : (o : Ordering) → compare k x ≡ o → has (insert_key compare xs k) ≡ (is_eq (compare q k) || has xs) → has (match_ordering o (k ∷ x ∷ xs) (x ∷ xs) (x ∷ insert_key compare xs k)) ≡ (is_eq (compare q k) || (is_eq (compare q x) || has xs))
      by_order Less is more = refl
      by_order Equal is more =
          let same = alike k x q is in
          ap (λ b. b || has xs) (sym same) ∙ sym (or-twice (is_eq (compare q k)) (is_eq (compare q x)) (has xs) same)
      by_order Greater is more = ap (λ b. is_eq (compare q x) || b) more ∙ or-across (is_eq (compare q x)) (is_eq (compare q k)) (has xs)

-- WHO HAS COMMITTED
gxids-alike : (g h q : Gxid) → gxid_cmp g h ≡ Equal → is_eq (gxid_cmp q g) ≡ is_eq (gxid_cmp q h)
gxids-alike g h q e = grind (arith, nat_tests)

gxid-test : (q g : Gxid) → is_eq (gxid_cmp q g) ≡ is_same_gxid g q
gxid-test q g = grind (arith, nat_tests)

abbrev has_gxid : Gxid → List Gxid → Bool
has_gxid q gxids = has gxid_cmp gxids-alike q gxids

has-committed : (q : Gxid) (gxids : List Gxid) (ms : List Mark) → has_gxid q (committed_from gxids ms) ≡ (has_gxid q gxids || is_committed ms q)
has-committed q gxids [] = sym (or-false (has_gxid q gxids))
has-committed q gxids (Commit g ∷ ms) =
    has-committed q (insert_key gxid_cmp gxids g) ms
    ∙ ap (λ b. b || is_committed ms q) (has-insert gxid_cmp gxids-alike q gxids g ∙ ap (λ b. b || has_gxid q gxids) (gxid-test q g))
    ∙ sym (or-assoc (is_same_gxid g q) (has_gxid q gxids) (is_committed ms q))
    ∙ or-across (is_same_gxid g q) (has_gxid q gxids) (is_committed ms q)
has-committed q gxids (_ ∷ ms) = has-committed q gxids ms

pub committed-gathered : (set : BTreeSet Gxid) (marks : List Mark) → set.keys ≡ committed_from [] marks → (q : Gxid) → contains gxid_cmp set q ≡ is_committed marks q
committed-gathered set marks gathered q = ap (has_gxid q) gathered ∙ has-committed q [] marks

-- WHAT A COMMAND HAS PROCESSED
rids-alike : (r s q : Rid) → rid_order r s ≡ Equal → is_eq (rid_order q r) ≡ is_eq (rid_order q s)
rids-alike r s q e = grind (arith, nat_tests)

rid-test : (q r : Rid) → is_eq (rid_order q r) ≡ is_same_rid r q
rid-test q r = grind (arith, nat_tests)

abbrev has_rid : Rid → List Rid → Bool
has_rid q rids = has rid_order rids-alike q rids

-- whether the row that a mark has processed is this one
abbrev is_row : Option Rid → Rid → Bool
is_row None q = false
is_row (Some r) q = is_same_rid r q

own-row : (b : Bool) (r q : Rid) → (b && is_same_rid r q) ≡ is_row (cond b (Some r) None) q
own-row true r q = refl
own-row false r q = refl

processed-next : (m : Mark) (ms : List Mark) (g : Gxid) (c : Cid) (q : Rid) → is_processed (m ∷ ms) g c q ≡ (is_row (row_of g c m) q || is_processed ms g c q)
processed-next (Write h d n t r image) ms g c q = ap (λ b. b || is_processed ms g c q) (own-row (is_command_of g c h d) r q)
processed-next (Skip h d r) ms g c q = ap (λ b. b || is_processed ms g c q) (own-row (is_command_of g c h d) r q)
processed-next _ ms g c q = refl

has-with : (q : Rid) (rids : List Rid) (o : Option Rid) → has_rid q (with_row rids o) ≡ (is_row o q || has_rid q rids)
has-with q rids None = refl
has-with q rids (Some r) = has-insert rid_order rids-alike q rids r ∙ ap (λ b. b || has_rid q rids) (rid-test q r)

has-processed : (g : Gxid) (c : Cid) (q : Rid) (rids : List Rid) (ms : List Mark) → has_rid q (processed_from g c rids ms) ≡ (has_rid q rids || is_processed ms g c q)
has-processed g c q rids [] = sym (or-false (has_rid q rids))
has-processed g c q rids (m ∷ ms) =
    has-processed g c q (with_row rids (row_of g c m)) ms
    ∙ ap (λ b. b || is_processed ms g c q) (has-with q rids (row_of g c m))
    ∙ sym (or-assoc (is_row (row_of g c m) q) (has_rid q rids) (is_processed ms g c q))
    ∙ or-across (is_row (row_of g c m) q) (has_rid q rids) (is_processed ms g c q)
    ∙ ap (λ b. has_rid q rids || b) (sym (processed-next m ms g c q))

-- all are done that are to be
pub all-done : (marks : List Mark) (g : Gxid) (c : Cid) (done : BTreeSet Rid) (cond : Option Cond) (rows : List KeyedRow) → done.keys ≡ processed_from g c [] marks → are_done_in done cond rows ≡ are_done marks g c cond rows
all-done marks g c done cond rows gathered =
    ap (λ (among : Rid → Bool). list_all (λ row. not (is_met (condition_on cond row.row)) || among row.rid) rows) (fun_ext (λ q. ap (has_rid q) gathered ∙ has-processed g c q [] marks))

-- THE ORDINALS OF ITS OWN ROWS
numbers-alike : (m n q : ℕ) → nat_cmp m n ≡ Equal → is_eq (nat_cmp q m) ≡ is_eq (nat_cmp q n)
numbers-alike m n q e = grind (arith, nat_tests)

number-test : (q n : ℕ) → is_eq (nat_cmp q n) ≡ (n == q)
number-test q n = grind (arith, nat_tests)

abbrev has_number : ℕ → List ℕ → Bool
has_number q ns = has nat_cmp numbers-alike q ns

module _ (g : Gxid) (c : Cid) (q : ℕ) where
  abbrev row : Rid
  row = record { gxid = g; cid = c; ordinal = q }

  abbrev is_number : Option ℕ → Bool
  is_number None = false
  is_number (Some n) = n == q

  has-number : (ns : List ℕ) (o : Option ℕ) → has_number q (with_ordinal ns o) ≡ (is_number o || has_number q ns)
  has-number ns None = refl
  has-number ns (Some n) = has-insert nat_cmp numbers-alike q ns n ∙ ap (λ b. b || has_number q ns) (number-test q n)

  of-number : (a b : Bool) (n : ℕ) → is_number (cond (a && b) (Some n) None) ≡ (a && (b && (n == q)))
  of-number true true n = refl
  of-number true false n = refl
  of-number false b n = refl

  number-row : (o : Option Rid) → is_number (own_ordinal g c o) ≡ is_row o row
  number-row None = refl
  number-row (Some r) = of-number (is_same_gxid r.gxid g) (r.cid.0 == c.0) r.ordinal

  has-ordinals : (ns : List ℕ) (ms : List Mark) → has_number q (ordinals_from g c ns ms) ≡ (has_number q ns || is_processed ms g c row)
  has-ordinals ns [] = sym (or-false (has_number q ns))
  has-ordinals ns (m ∷ ms) =
      has-ordinals (with_ordinal ns (own_ordinal g c (row_of g c m))) ms
      ∙ ap (λ b. b || is_processed ms g c row) (has-number ns (own_ordinal g c (row_of g c m)) ∙ ap (λ b. b || has_number q ns) (number-row (row_of g c m)))
      ∙ sym (or-assoc (is_row (row_of g c m) row) (has_number q ns) (is_processed ms g c row))
      ∙ or-across (is_row (row_of g c m) row) (has_number q ns) (is_processed ms g c row)
      ∙ ap (λ b. has_number q ns || b) (sym (processed-next m ms g c row))

-- each tuple's row is done
pub all-own : (marks : List Mark) (g : Gxid) (c : Cid) (ordinals : BTreeSet ℕ) (place : ℕ) (tuples : List (List Expr)) → ordinals.keys ≡ ordinals_from g c [] marks → are_ordinals_in ordinals place tuples ≡ are_own_done marks g c place tuples
all-own marks g c ordinals place [] gathered = refl
all-own marks g c ordinals place (tuple ∷ tuples) gathered =
    ap (λ b. b && are_ordinals_in ordinals (place + 1) tuples) (ap (has_number (place + 1)) gathered ∙ has-ordinals g c (place + 1) [] marks)
    ∙ ap (λ b. is_processed marks g c (own_row g c place) && b) (all-own marks g c ordinals (place + 1) tuples gathered)
