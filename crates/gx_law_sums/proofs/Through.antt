-- Each mark of a legal history of transfers leaves balanced books.
use Rattle.std.proofs.Common.{◌≡◌, inl, inr, ◌≤◌, ℕ, ◌+◌, Bool, true, false, if◌then◌else◌, List, [], ◌∷◌, ◌++◌, Option, Some, None, refl, sym, ap, ◌∙◌, arith}
use Rattle.gx_ids.specs.declared.ids.Gxid.{Gxid}
use Rattle.gx_script.specs.declared.Script.{Script}
use Rattle.gx_work.specs.declared.transfer.Transfer.{Transfer}
use Rattle.gx_lemmas.proofs.Options.{some-same}
use Rattle.gx_store.specs.declared.event.Event.{Event}
use Rattle.gx_store.specs.declared.mark.Mark.{Mark}
use Rattle.gx_store.specs.declared.mark.Mark.TheVariants.{Start}
use Rattle.gx_store.specs.declared.run.Step.{Step}
use Rattle.gx_store.specs.Legal.{AreLegalMarks, LegalMark}
use Rattle.gx_store.specs.Marks.{is_same_session, start_count, started_after}
use Rattle.gx_store.specs.Points.{Point, before, marks_in}
use Rattle.gx_store.proofs.Marks.{started_after-append}
use Rattle.gx_law_groups.proofs.Marks.{start_count-append}
use Rattle.gx_law_sums.specs.Transfers.{AreTransfers, loader}
use Rattle.gx_law_sums.proofs.Books.{IsLoader}
use Rattle.gx_law_sums.proofs.Loads.{accounts-first, accounts-next}
use Rattle.gx_law_sums.proofs.Neat.{AreAccounts}
use Rattle.gx_law_sums.proofs.Rows.{total-none}
use Rattle.gx_law_sums.proofs.Shows.{balance_by}
use Rattle.gx_law_sums.proofs.Standing.{Standing}
use Rattle.gx_law_sums.proofs.Totals.{AreBalanced, balanced-next}
use Rattle.gx_law_sums.proofs.Writes.{load-stays}

-- PLAIN FACTS
none-is : (x : Gxid) (o : Option Gxid) → o ≡ None → o ≡ Some x → ⊥
none-is x o e f = cc

wider : (a b c g : ℕ) → c ≡ a + b → c + 1 ≤ g → a + 1 ≤ g
wider a b c g e l = omega arith

newest : (a b g : ℕ) → a ≡ b + 1 → g ≡ a → b + 1 ≤ g
newest a b g e f = omega arith

abbrev pub IsInOrder : Script → (ℕ → ℕ → Option Transfer) → List Mark → Type 0
IsInOrder script transfer N = AreAccounts script transfer N × ((L : Gxid) → IsLoader N L → AreBalanced script transfer N L)

module _ (script : Script) (transfer : ℕ → ℕ → Option Transfer) (are : AreTransfers script transfer) where
  -- whoever is the load, or may be it, was so before a mark
  module _ (point : Point) (standing : Standing script transfer (before point)) (m : Mark) (legal : LegalMark script point m) (L : Gxid) where
    abbrev N : List Mark
    N = before point

    module _ (none : started_after loader None N ≡ None) where
      starts : (x : Mark) → LegalMark script point x → started_after loader None (N ++ x ∷ []) ≡ Some L → start_count N + 1 ≤ L.0
      starts (Start g s) z f = by_test (is_same_session s loader) (sym (started_after-append loader None N (Start g s ∷ [])) ∙ f)
        where
          by_test : (b : Bool) → (if b then Some g else started_after loader None N) ≡ Some L → start_count N + 1 ≤ L.0
          by_test true t = newest g.0 (start_count N) L.0 z.number (ap (λ (x : Gxid). x.0) (sym (some-same g L t)))
          by_test false t = absurd (none-is L (started_after loader None N) none t)
      starts x z f = absurd (none-is L (started_after loader None N) none (sym (started_after-append loader None N (x ∷ [])) ∙ f))

      from-none : IsLoader (N ++ m ∷ []) L → IsLoader N L
      from-none (inl f) = inr (none, starts m legal f)
      from-none (inr f) = inr (none, wider (start_count N) (start_count (m ∷ [])) (start_count (N ++ m ∷ [])) L.0 (start_count-append N (m ∷ [])) f.1)

    from-some : (x : Gxid) → started_after loader None N ≡ Some x → IsLoader (N ++ m ∷ []) L → IsLoader N L
    from-some x e (inl f) = inl (e ∙ sym (load-stays script transfer are point standing m x legal e) ∙ f)
    from-some x e (inr f) = absurd (none-is x (started_after loader None (N ++ m ∷ [])) f.0 (load-stays script transfer are point standing m x legal e))

    pub loader-before : IsLoader (N ++ m ∷ []) L → IsLoader N L
    loader-before now = by_old (started_after loader None N) refl
      where
        by_old : (o : Option Gxid) → started_after loader None N ≡ o → IsLoader N L
        by_old (Some x) e = from-some x e now
        by_old None e = from-none e now

  -- nothing has been done
  pub balanced-first : (L : Gxid) → AreBalanced script transfer [] L
  balanced-first L =
      record {
        changes = [];
        books = record {
          shows = λ C good. total-none (balance_by C L []) 64 (λ k. refl);
          own = λ g t k i e. absurd (nobody g i.own);
          begun = λ s g l out start own e. absurd (nobody g own);
          fresh = λ g l e. record { none = refl; unsnapped = refl; undone = λ c rid. refl };
        };
        sum = refl;
      }
    where
      nobody : (g : Gxid) → (let o : Option Gxid = None in o ≡ Some g) → ⊥
      nobody g e = cc

  pub in-order-next : (steps : List Step) (e : Event) (earlier : List Mark) (m : Mark) (ms : List Mark) → LegalMark script (record { steps = steps; event = e; earlier = earlier; later = ms ++ [] }) m
      → AreLegalMarks script steps e (earlier ++ m ∷ []) ms [] → IsInOrder script transfer (marks_in steps ++ earlier) → IsInOrder script transfer ((marks_in steps ++ earlier) ++ m ∷ [])
  in-order-next steps e earlier m ms legal rest p =
      (after, λ L loads. let old = loader-before point p.0.standing m legal L loads in balanced-next script transfer are point p.0 L old (p.1 L old) m legal after)
    where
      point : Point
      point = record { steps = steps; event = e; earlier = earlier; later = ms ++ [] }

      after : AreAccounts script transfer ((marks_in steps ++ earlier) ++ m ∷ [])
      after = accounts-next script transfer are steps e earlier m ms legal rest p.0

  pub in-order-first : IsInOrder script transfer []
  in-order-first = (accounts-first script transfer are, λ L loads. balanced-first L)
