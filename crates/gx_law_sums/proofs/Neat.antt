-- Every unaborted write left an account, and the load wrote all of them once it has committed.
use Rattle.std.proofs.Common.{◌≡◌, ◌⊎◌, inl, inr, ◌≤◌, ℕ, zero, suc, ◌+◌, pos, ◌+ℤ◌, Bool, true, false, if◌then◌else◌, ◌||◌, List, [], ◌∷◌, ◌++◌, Option, Some, None, take, refl, sym, ap, ◌∙◌, subst, arith}
use Rattle.std.proofs.lemmas.Bool.{eqb-true}
use Rattle.gx_ids.specs.declared.ids.Cid.{Cid}
use Rattle.gx_ids.specs.declared.ids.Gxid.{Gxid}
use Rattle.gx_ids.specs.declared.ids.SessionId.{SessionId}
use Rattle.gx_ids.specs.declared.ids.Table.{Table}
use Rattle.gx_ids.specs.declared.rid.Rid.{Rid}
use Rattle.gx_tree.specs.declared.value.Value.{Value}
use Rattle.gx_tree.specs.declared.stmt.Level.TheVariants.{ReadCommitted, RepeatableRead}
use Rattle.gx_script.specs.declared.Script.{Script}
use Rattle.gx_work.specs.declared.transfer.Transfer.{Transfer}
use Rattle.gx_lemmas.proofs.Options.{some-same}
use Rattle.gx_lemmas.proofs.Tests.{false-true, or-cases, or-false, true-false}
use Rattle.gx_store.specs.declared.mark.Mark.{Mark}
use Rattle.gx_store.specs.declared.mark.Mark.TheVariants.{Skip, Write, Commit}
use Rattle.gx_store.specs.Legal.{LegalMark}
use Rattle.gx_store.specs.Lines.{BlockState, Outside, InBlock, Failed, state_of, transaction_of}
use Rattle.gx_store.specs.Marks.{is_aborted, is_begun, is_committed, is_processed, is_same_gxid, start_count, started_after}
use Rattle.gx_store.specs.Points.{Point, before}
use Rattle.gx_store.specs.Writes.{IsSkipOf}
use Rattle.gx_store.proofs.Marks.{is_aborted-append, is_committed-append}
use Rattle.gx_law_groups.proofs.Marks.{start_count-append}
use Rattle.gx_law_sums.specs.Transfers.{AreTransfers, loader}
use Rattle.gx_law_sums.proofs.Standing.{Standing}
use Rattle.gx_law_sums.proofs.Under.{IsLoading, IsUpdateOf, IsUpdating, under-way}
use Rattle.gx_law_sums.proofs.Writes.{EachWrite, IsAccount, IsBehind, IsMove, IsNeat, IsPut, OnWrite, committed-take, each-append, each-weaker, live-write, load-stays, moved}

-- PLAIN FACTS
second-none : (a b : Bool) → (a || b) ≡ false → b ≡ false
second-none true b e = absurd (true-false true refl e)
second-none false b e = e

first-none : (a b : Bool) → (a || b) ≡ false → a ≡ false
first-none true b e = absurd (true-false true refl e)
first-none false b e = refl

or-left : (a b : Bool) → a ≡ true → (a || b) ≡ true
or-left true b e = refl
or-left false b e = absurd (false-true e)

pub same-gxid : (a b : Gxid) → a.0 ≡ b.0 → a ≡ b
same-gxid a b e = ap (λ n. let x : Gxid = record { 0 = n } in x) e

pub committed-stays : (N : List Mark) (m : Mark) (g : Gxid) → is_committed N g ≡ true → is_committed (N ++ m ∷ []) g ≡ true
committed-stays N m g e = is_committed-append N (m ∷ []) g ∙ or-left (is_committed N g) (is_committed (m ∷ []) g) e

pub unaborted-before : (N : List Mark) (m : Mark) (g : Gxid) → is_aborted (N ++ m ∷ []) g ≡ false → is_aborted N g ≡ false
unaborted-before N m g e = first-none (is_aborted N g) (is_aborted (m ∷ []) g) (sym (is_aborted-append N (m ∷ []) g) ∙ e)

-- one mark more
take-more : (p : ℕ) (N : List Mark) (m : Mark) → (take p (N ++ m ∷ []) ≡ take p N) ⊎ (take p (N ++ m ∷ []) ≡ N ++ m ∷ [])
take-more zero N m = inl refl
take-more (suc p) [] m = inr (by_place p)
  where
    by_place : (q : ℕ) → m ∷ take q [] ≡ m ∷ []
    by_place zero = refl
    by_place (suc q) = refl
take-more (suc p) (x ∷ N) m = by_case (take-more p N m)
  where
    by_case : (take p (N ++ m ∷ []) ≡ take p N) ⊎ (take p (N ++ m ∷ []) ≡ N ++ m ∷ []) → (x ∷ take p (N ++ m ∷ []) ≡ x ∷ take p N) ⊎ (x ∷ take p (N ++ m ∷ []) ≡ x ∷ (N ++ m ∷ []))
    by_case (inl e) = inl (ap (λ z. x ∷ z) e)
    by_case (inr e) = inr (ap (λ z. x ∷ z) e)

behind-more : (N : List Mark) (m : Mark) (g L : Gxid) → is_committed (N ++ m ∷ []) L ≡ true → ((p : ℕ) → is_committed (take p N) g ≡ true → is_committed (take p N) L ≡ true) → IsBehind (N ++ m ∷ []) g L
behind-more N m g L now old = record { loaded = now; before = λ p e. by_case p e (take-more p N m) }
  where
    by_case : (p : ℕ) → is_committed (take p (N ++ m ∷ [])) g ≡ true → (take p (N ++ m ∷ []) ≡ take p N) ⊎ (take p (N ++ m ∷ []) ≡ N ++ m ∷ []) → is_committed (take p (N ++ m ∷ [])) L ≡ true
    by_case p e (inl f) = ap (λ z. is_committed z L) f ∙ old p (ap (λ z. is_committed z g) (sym f) ∙ e)
    by_case p e (inr f) = ap (λ z. is_committed z L) f ∙ now

-- an account of the load
abbrev pub row_of : Gxid → ℕ → Rid
row_of L o = record { gxid = L; cid = record { 0 = 1 }; ordinal = o }

-- only who has aborted skips a row
abbrev pub OnSkip : (Gxid → Type 0) → Mark → Type 0
OnSkip P (Skip g c rid) = P g
OnSkip P _ = Unit {0}

abbrev pub EachSkip : (Gxid → Type 0) → List Mark → Type 0
EachSkip P [] = Unit {0}
EachSkip P (m ∷ ms) = OnSkip P m × EachSkip P ms

skip-append : (P : Gxid → Type 0) (xs ys : List Mark) → EachSkip P xs → EachSkip P ys → EachSkip P (xs ++ ys)
skip-append P [] ys a b = b
skip-append P (x ∷ xs) ys a b = (a.0, skip-append P xs ys a.1 b)

skip-weaker : (P Q : Gxid → Type 0) → ((g : Gxid) → P g → Q g) → (xs : List Mark) → EachSkip P xs → EachSkip Q xs
skip-weaker P Q f [] a = tt
skip-weaker P Q f (Skip g c rid ∷ xs) a = (f g a.0, skip-weaker P Q f xs a.1)
skip-weaker P Q f (x ∷ xs) a = (tt, skip-weaker P Q f xs a.1)

abbrev pub AreSkipsLate : List Mark → Type 0
AreSkipsLate N = EachSkip (λ g. is_aborted N g ≡ true) N

-- who has committed was started
abbrev pub AreKnown : List Mark → Type 0
AreKnown N = (g : Gxid) → is_committed N g ≡ true → g.0 ≤ start_count N

-- the load, once committed, has written each account
abbrev pub IsWhole : List Mark → Type 0
IsWhole N = (L : Gxid) → started_after loader None N ≡ Some L → is_committed N L ≡ true → (o : ℕ) → 1 ≤ o → o ≤ 64 → is_processed N L (record { 0 = 1 }) (row_of L o) ≡ true

pub record AreAccounts (script : Script) (transfer : ℕ → ℕ → Option Transfer) (N : List Mark) : Type 0 where
  pub standing : Standing script transfer N
  pub neat : EachWrite (IsNeat N) N
  pub skips : AreSkipsLate N
  pub known : AreKnown N
  pub whole : IsWhole N

module _ (script : Script) (transfer : ℕ → ℕ → Option Transfer) (are : AreTransfers script transfer) where
  module _ (point : Point) (standing : Standing script transfer (before point)) where
    abbrev N : List Mark
    N = before point

    -- whose transaction a session is in
    pub of-session : (s : SessionId) (g : Gxid) (state : BlockState) → transaction_of state s N ≡ Some g → started_after s None N ≡ Some g
    of-session s g Outside e = by_test (is_begun s N) e
      where
        by_test : (b : Bool) → (if b then started_after s None N else None) ≡ Some g → started_after s None N ≡ Some g
        by_test true f = f
        by_test false f = absurd (cc)
    of-session s g (InBlock level k) e = e
    of-session s g Failed e = absurd (cc)

    pub sessions-same : (s u : SessionId) (g : Gxid) → started_after s None N ≡ Some g → started_after u None N ≡ Some g → s ≡ u
    sessions-same s u g e f = some-same s u (sym (standing.owned.starters s g e) ∙ standing.owned.starters u g f)

    -- a transfer isn't the load
    not-loader : (s : SessionId) (g L : Gxid) → 1 ≤ s.0 → started_after s None N ≡ Some g → started_after loader None N ≡ Some L → g.0 ≡ L.0 → ⊥
    not-loader s g L other e f same = none s.0 other (ap (λ (x : SessionId). x.0) (sessions-same s loader g e (subst (λ x. started_after loader None N ≡ Some x) (sym (same-gxid g L same)) f)))
      where
        none : (a : ℕ) → 1 ≤ a → a ≡ 0 → ⊥
        none a l e = omega arith

    account-stays : (m : Mark) → LegalMark script point m → (g : Gxid) (c : Cid) (t : Table) (rid : Rid) (image : Option (List Value)) → IsNeat N g c t rid image → IsNeat (N ++ m ∷ []) g c t rid image
    account-stays m legal g c t rid image neat e =
        let a = neat (unaborted-before N m g e) in
        record {
          loaded = load-stays script transfer are point standing m rid.gxid legal a.loaded;
          table = a.table;
          command = a.command;
          low = a.low;
          high = a.high;
          balance = a.balance;
          is = a.is;
          first = a.first;
          behind = by_case a.behind;
        }
      where
        by_case : (g.0 ≡ rid.gxid.0) ⊎ IsBehind N g rid.gxid → (g.0 ≡ rid.gxid.0) ⊎ IsBehind (N ++ m ∷ []) g rid.gxid
        by_case (inl e) = inl e
        by_case (inr e) = inr (behind-more N m g rid.gxid (committed-stays N m rid.gxid e.loaded) e.before)

    module _ (neat : EachWrite (IsNeat N) N) where
      on-mark : (m : Mark) → LegalMark script point m → OnWrite (IsNeat (N ++ m ∷ [])) m
      on-mark (Write g c node t rid image) legal = by_case legal
        where
          m : Mark
          m = Write g c node t rid image

          put : IsPut N g c t rid image → IsAccount (N ++ m ∷ []) g t rid image
          put p = record {
            loaded = load-stays script transfer are point standing m g legal p.own ∙ ap (λ x. Some x) (sym p.is.0);
            table = p.table;
            command = ap (λ (x : Cid). x.0) (p.is.1 ∙ p.command);
            low = p.low;
            high = p.high;
            balance = pos 100;
            is = p.image_is;
            first = λ e. refl;
            behind = inl (ap (λ (x : Gxid). x.0) (sym p.is.0));
          }

          move : is_committed N g ≡ false → IsMove script transfer N g c t rid image → IsAccount (N ++ m ∷ []) g t rid image
          move uncommitted p = record {
            loaded = load-stays script transfer are point standing m rid.gxid legal p.old.loaded;
            table = p.table_is;
            command = p.old.command;
            low = p.old.low;
            high = p.old.high;
            balance = p.old.balance +ℤ moved p.t p.k;
            is = p.image_is;
            first = λ e. absurd (not-loader p.within.session g rid.gxid p.within.other p.within.own p.old.loaded e);
            behind = seen p.old.behind (or-cases (is_same_gxid p.write.gxid g) (is_committed N p.write.gxid) p.free);
          }
            where
              now : is_committed N rid.gxid ≡ true → IsBehind (N ++ m ∷ []) g rid.gxid
              now e = behind-more N m g rid.gxid (committed-stays N m rid.gxid e) (λ p f. absurd (true-false (is_committed N g) (committed-take p N g f) uncommitted))

              seen : (p.write.gxid.0 ≡ rid.gxid.0) ⊎ IsBehind N p.write.gxid rid.gxid → (is_same_gxid p.write.gxid g ≡ true) ⊎ (is_committed N p.write.gxid ≡ true) → (g.0 ≡ rid.gxid.0) ⊎ IsBehind (N ++ m ∷ []) g rid.gxid
              seen (inr e) f = inr (now e.loaded)
              seen (inl e) (inl f) = inl (sym (eqb-true p.write.gxid.0 g.0 f) ∙ e)
              seen (inl e) (inr f) = inr (now (subst (λ x. is_committed N x ≡ true) (same-gxid p.write.gxid rid.gxid e) f))

          by_case : LegalMark script point m → is_aborted (N ++ m ∷ []) g ≡ false → IsAccount (N ++ m ∷ []) g t rid image
          by_case (inl live) e = by_kind (live-write script transfer are point standing neat g c (unaborted-before N m g e) node t rid image live.session live.stmt live.level live.runs live.writes)
            where
              by_kind : IsPut N g c t rid image ⊎ IsMove script transfer N g c t rid image → IsAccount (N ++ m ∷ []) g t rid image
              by_kind (inl p) = put p
              by_kind (inr p) = move (first-none (is_committed N g) (is_aborted N g) live.runs.running) p
          by_case (inr late) e = absurd (true-false (is_aborted N g) late.late.aborted (unaborted-before N m g e))
      on-mark m legal = tt

      pub neat-next : (m : Mark) → LegalMark script point m → EachWrite (IsNeat (N ++ m ∷ [])) (N ++ m ∷ [])
      neat-next m legal = each-append (IsNeat (N ++ m ∷ [])) N (m ∷ []) (each-weaker (IsNeat N) (IsNeat (N ++ m ∷ [])) (account-stays m legal) N neat) (on-mark m legal, tt)

    -- SKIPS
    abbrev Gone : List Mark → Gxid → Type 0
    Gone M g = is_aborted M g ≡ true

    gone-stays : (m : Mark) (g : Gxid) → Gone N g → Gone (N ++ m ∷ []) g
    gone-stays m g e = is_aborted-append N (m ∷ []) g ∙ or-left (is_aborted N g) (is_aborted (m ∷ []) g) e

    pub skip-mark : (m : Mark) → LegalMark script point m → OnSkip (Gone (N ++ m ∷ [])) m
    skip-mark (Skip g c rid) (inl live) = absurd (by_case (under-way script transfer are point standing live.session live.stmt live.level g c live.runs) live.skips)
      where
        levels : ReadCommitted ≡ RepeatableRead → ⊥
        levels e = cc

        by_update : (x : IsUpdating script transfer N g c live.level live.stmt) → IsUpdateOf x.t x.k live.stmt → IsSkipOf N live.level g c live.stmt rid → ⊥
        by_update x (inl e) k = let s = subst (λ l. IsSkipOf N live.level g c l rid) e.1 k in levels (sym s.1.isolation ∙ x.level_is)
        by_update x (inr e) k = let s = subst (λ l. IsSkipOf N live.level g c l rid) e.1 k in levels (sym s.1.isolation ∙ x.level_is)

        by_case : IsLoading N g c live.stmt ⊎ IsUpdating script transfer N g c live.level live.stmt → IsSkipOf N live.level g c live.stmt rid → ⊥
        by_case (inl l) k = subst (λ x. IsSkipOf N live.level g c x rid) l.load k
        by_case (inr x) k = by_update x x.update k
    skip-mark (Skip g c rid) (inr late) = gone-stays (Skip g c rid) g late.late.aborted
    skip-mark m legal = tt

    pub skips-next : AreSkipsLate N → (m : Mark) → LegalMark script point m → AreSkipsLate (N ++ m ∷ [])
    skips-next skips m legal = skip-append (Gone (N ++ m ∷ [])) N (m ∷ []) (skip-weaker (Gone N) (Gone (N ++ m ∷ [])) (gone-stays m) N skips) (skip-mark m legal, tt)

    -- WHO IS KNOWN
    pub known-next : AreKnown N → (m : Mark) → LegalMark script point m → AreKnown (N ++ m ∷ [])
    known-next known m legal g e = wider (start_count N) (start_count (m ∷ [])) (start_count (N ++ m ∷ [])) g.0 (start_count-append N (m ∷ [])) (by_mark m legal (is_committed N g) refl (sym (is_committed-append N (m ∷ []) g) ∙ e))
      where
        wider : (a b c g : ℕ) → c ≡ a + b → g ≤ a → g ≤ c
        wider a b c g e l = omega arith

        by_mark : (x : Mark) → LegalMark script point x → (b : Bool) → is_committed N g ≡ b → (b || is_committed (x ∷ []) g) ≡ true → g.0 ≤ start_count N
        by_mark x l true f t = known g f
        by_mark (Commit h) l false f t =
            let own = of-session l.session h (state_of script l.session N) l.transaction in
            subst (λ n. n ≤ start_count N) (eqb-true h.0 g.0 (sym (or-false (is_same_gxid h g)) ∙ t)) (standing.owned.numbered h l.session (standing.owned.starters l.session h own))
        by_mark x l false f t = absurd (false-true t)
