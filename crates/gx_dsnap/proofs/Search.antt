-- A search by halves in a rising list.
use Rattle.std.proofs.Common.{◌≡◌, ℕ, ◌≤◌, List, length, get_or, sym, true, false, arith, eqb, ⊎_elim}
use Rattle.std.proofs.lemmas.Bool.{cases_lt, cases_eq}
use Rattle.std.proofs.lemmas.Bool.Decides.{nat_tests}
use Rattle.std.proofs.lemmas.List.Folds.{list_any_at, list_any_none}
use Rattle.std.proofs.lemmas.Map.Keys.{Less-from_sorted}
use Rattle.std.specs.Prelude.{Result, Ok, Err, All, is_ok}
use Rattle.std.specs.List.Sorted.{IsBinarySearchResult, IsSearchInRange, IsNonDecreasingBy, IsPartitionPoint}
use Rattle.std.specs.Ordering.{nat_cmp, ordering_index}
use Rattle.std.specs.declared.cmp.Ordering.TheVariants.{Less, Equal, Greater}
use Rattle.gx_ids.specs.declared.ids.Gxid.{Gxid}
use Rattle.gx_dsnap.specs.Gxids.{gxid_cmp, IsRising, is_listed}

equal_is : (a b : ℕ) → nat_cmp a b ≡ Equal → eqb a b ≡ true
equal_is a b e = grind (arith, nat_tests)

less_is_not : (a b : ℕ) → nat_cmp a b ≡ Less → eqb a b ≡ false
less_is_not a b e = grind (arith, nat_tests)

greater_is_not : (a b : ℕ) → nat_cmp a b ≡ Greater → eqb a b ≡ false
greater_is_not a b e = grind (arith, nat_tests)

index_rises : (a b x : ℕ) → nat_cmp a b ≡ Less → ordering_index (nat_cmp a x) ≤ ordering_index (nat_cmp b x)
index_rises a b x e = grind (arith, nat_tests)

same_index : (gxids : List Gxid) (x : Gxid) (i j : ℕ) (d : Gxid) → i ≡ j → ordering_index (gxid_cmp (get_or gxids i d) x) ≤ ordering_index (gxid_cmp (get_or gxids j d) x)
same_index gxids x i j d e = rw e (omega arith)

-- the answers of a rising list rise
index-rising : (gxids : List Gxid) (x : Gxid) → IsRising gxids → IsNonDecreasingBy (λ y. ordering_index (gxid_cmp y x)) gxids
index-rising gxids x rising i j d upto inside =
    ⊎_elim (λ e. same_index gxids x i j d e) (λ ne. index_rises _ _ x.0 (Less-from_sorted gxid_cmp gxids i j d rising (omega arith) inside)) (cases_eq i j)

apart : (gxids : List Gxid) (x : Gxid) (i : ℕ) → IsPartitionPoint (λ y. gxid_cmp y x ≡ Less) (λ y. gxid_cmp y x ≡ Greater) gxids i → All (λ y. eqb y.0 x.0 ≡ false) gxids
apart gxids x i parts k d inside =
    ⊎_elim (λ below. less_is_not _ _ (parts.0 k d (omega arith) below)) (λ above. greater_is_not _ _ (parts.1 k d above inside)) (cases_lt k i)

-- a search succeeds exactly where the gxid is listed
pub is_ok-search : (gxids : List Gxid) (x : Gxid) (r : Result ℕ ℕ) → IsRising gxids → IsSearchInRange r (length gxids) → IsBinarySearchResult (λ y. gxid_cmp y x) gxids r → is_ok r ≡ is_listed x gxids
is_ok-search gxids x (Ok i) rising inside found = sym (list_any_at (λ h. eqb h.0 x.0) gxids i x inside (equal_is _ _ (found x)))
is_ok-search gxids x (Err i) rising inside found = sym (list_any_none (λ h. eqb h.0 x.0) gxids (apart gxids x i (found (index-rising gxids x rising))))
