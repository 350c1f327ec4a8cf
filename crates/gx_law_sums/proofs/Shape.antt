-- The lines of generated work, session by session.
use Rattle.std.proofs.Common.{◌≡◌, ◌≤◌, ◌<◌, ℕ, zero, suc, ◌+◌, ◌*◌, ◌%◌, ◌==◌, Bool, true, false, if◌then◌else◌, ◌&&◌, List, [], ◌∷◌, ◌++◌, Option, Some, None, take, drop, refl, ap, ◌∙◌, subst, arith}
use Rattle.std.proofs.lemmas.Bool.Decides.{nat_tests}
use Rattle.gx_ids.specs.declared.ids.SessionId.{SessionId}
use Rattle.gx_tree.specs.declared.stmt.Stmt.{Stmt}
use Rattle.gx_script.specs.declared.Line.{Line}
use Rattle.gx_lemmas.proofs.Numbers.{eqb-self}
use Rattle.gx_lemmas.proofs.Tests.{and-false, and-true}
use Rattle.gx_store.specs.Lines.{stmt_of}
use Rattle.gx_store.specs.Marks.{is_same_session}
use Rattle.gx_work.specs.declared.transfer.Transfer.{Transfer}
use Rattle.gx_work.specs.Text.{transfers_from}
use Rattle.gx_work.specs.Work.{batch_lines, batches_lines, drawn_script, ending, giving, loading, opening, pass_lines, taking}
use Rattle.gx_law_sums.specs.Transfers.{AreTransfers, does_in, loader}

-- the session's transfer among these
abbrev pub transfer_by : ℕ → List Transfer → Option Transfer
transfer_by s [] = None
transfer_by s (t ∷ ts) = if t.session == s then Some t else transfer_by s ts

-- its transfer in the batch of this number
abbrev pub transfer_in : ℕ → List ℕ → ℕ → ℕ → Option Transfer
transfer_in zero words s b = None
transfer_in (suc more) words s zero = transfer_by s (transfers_from 1 (take 24 words))
transfer_in (suc more) words s (suc b) = transfer_in more (drop 24 words) s b

-- PLAIN FACTS
abbrev or_else : Option Stmt → Option Stmt → Option Stmt
or_else (Some x) other = Some x
or_else None other = other

or-none : (o : Option Stmt) → or_else o None ≡ o
or-none (Some x) = refl
or-none None = refl

unlike : (a b : ℕ) → (a ≡ b → ⊥) → (a == b) ≡ false
unlike a b f = grind (arith, nat_tests)

pub stmt_of-append : (s : SessionId) (n : ℕ) (xs ys : List Line) → stmt_of s n (xs ++ ys) ≡ or_else (stmt_of s n xs) (stmt_of s n ys)
stmt_of-append s n [] ys = refl
stmt_of-append s n (l ∷ xs) ys = by_test (is_same_session l.session s && (l.number == n)) (stmt_of-append s n xs ys)
  where
    by_test : (b : Bool) → stmt_of s n (xs ++ ys) ≡ or_else (stmt_of s n xs) (stmt_of s n ys) → (if b then Some l.stmt else stmt_of s n (xs ++ ys)) ≡ or_else (if b then Some l.stmt else stmt_of s n xs) (stmt_of s n ys)
    by_test true e = refl
    by_test false e = e

-- A PASS
module _ (s : SessionId) (does : Transfer → Stmt) where
  pub pass-at : (n : ℕ) (ts : List Transfer) → stmt_of s n (pass_lines n does ts) ≡ does_in does (transfer_by s.0 ts)
  pass-at n [] = refl
  pass-at n (t ∷ ts) =
      ap (λ (b : Bool). if (t.session == s.0) && b then Some (does t) else stmt_of s n (pass_lines n does ts)) (eqb-self n)
      ∙ ap (λ (b : Bool). if b then Some (does t) else stmt_of s n (pass_lines n does ts)) (and-true (t.session == s.0))
      ∙ by_test (t.session == s.0) (pass-at n ts)
    where
      by_test : (b : Bool) → stmt_of s n (pass_lines n does ts) ≡ does_in does (transfer_by s.0 ts) → (if b then Some (does t) else stmt_of s n (pass_lines n does ts)) ≡ does_in does (if b then Some t else transfer_by s.0 ts)
      by_test true e = refl
      by_test false e = e

  pub pass-none : (n m : ℕ) (ts : List Transfer) → (m ≡ n → ⊥) → stmt_of s n (pass_lines m does ts) ≡ None
  pass-none n m [] apart = refl
  pass-none n m (t ∷ ts) apart =
      ap (λ (b : Bool). if (t.session == s.0) && b then Some (does t) else stmt_of s n (pass_lines m does ts)) (unlike m n apart)
      ∙ ap (λ (b : Bool). if b then Some (does t) else stmt_of s n (pass_lines m does ts)) (and-false (t.session == s.0)) ∙ pass-none n m ts apart

-- A BATCH
module _ (s : SessionId) (before : ℕ) (ts : List Transfer) where
  abbrev Four : Option Stmt → Option Stmt → Option Stmt → Option Stmt → Option Stmt
  Four a b c d = or_else (or_else (or_else a b) c) d

  split : (n : ℕ) → stmt_of s n (batch_lines before ts)
      ≡ Four (stmt_of s n (pass_lines (before + 1) opening ts)) (stmt_of s n (pass_lines (before + 2) taking ts)) (stmt_of s n (pass_lines (before + 3) giving ts)) (stmt_of s n (pass_lines (before + 4) ending ts))
  split n =
      stmt_of-append s n (pass_lines (before + 1) opening ts ++ pass_lines (before + 2) taking ts ++ pass_lines (before + 3) giving ts) (pass_lines (before + 4) ending ts)
      ∙ ap (λ o. or_else o (stmt_of s n (pass_lines (before + 4) ending ts)))
      (stmt_of-append s n (pass_lines (before + 1) opening ts ++ pass_lines (before + 2) taking ts) (pass_lines (before + 3) giving ts)
      ∙ ap (λ o. or_else o (stmt_of s n (pass_lines (before + 3) giving ts))) (stmt_of-append s n (pass_lines (before + 1) opening ts) (pass_lines (before + 2) taking ts)))

  joined : (n : ℕ) (a b c d : Option Stmt) → stmt_of s n (pass_lines (before + 1) opening ts) ≡ a → stmt_of s n (pass_lines (before + 2) taking ts) ≡ b → stmt_of s n (pass_lines (before + 3) giving ts) ≡ c
      → stmt_of s n (pass_lines (before + 4) ending ts) ≡ d → stmt_of s n (batch_lines before ts) ≡ Four a b c d
  joined n a b c d e f g h =
      split n
      ∙ ap (λ x. Four x (stmt_of s n (pass_lines (before + 2) taking ts)) (stmt_of s n (pass_lines (before + 3) giving ts)) (stmt_of s n (pass_lines (before + 4) ending ts))) e
      ∙ ap (λ x. Four a x (stmt_of s n (pass_lines (before + 3) giving ts)) (stmt_of s n (pass_lines (before + 4) ending ts))) f
      ∙ ap (λ x. Four a b x (stmt_of s n (pass_lines (before + 4) ending ts))) g
      ∙ ap (λ x. Four a b c x) h

  pub batch-none : (n : ℕ) → ((i : ℕ) → 1 ≤ i → i ≤ 4 → before + i ≡ n → ⊥) → stmt_of s n (batch_lines before ts) ≡ None
  batch-none n apart =
      joined n None None None None (pass-none s opening n (before + 1) ts (apart 1 (omega arith) (omega arith))) (pass-none s taking n (before + 2) ts (apart 2 (omega arith) (omega arith)))
      (pass-none s giving n (before + 3) ts (apart 3 (omega arith) (omega arith))) (pass-none s ending n (before + 4) ts (apart 4 (omega arith) (omega arith)))

  own : (does : Transfer → Stmt) → Option Stmt
  own does = does_in does (transfer_by s.0 ts)

  pub batch-opens : stmt_of s (before + 1) (batch_lines before ts) ≡ does_in opening (transfer_by s.0 ts)
  batch-opens =
      joined (before + 1) (does_in opening (transfer_by s.0 ts)) None None None (pass-at s opening (before + 1) ts) (pass-none s taking (before + 1) (before + 2) ts (λ e. omega arith))
      (pass-none s giving (before + 1) (before + 3) ts (λ e. omega arith)) (pass-none s ending (before + 1) (before + 4) ts (λ e. omega arith))
      ∙ or-none (or_else (or_else (does_in opening (transfer_by s.0 ts)) None) None) ∙ or-none (or_else (does_in opening (transfer_by s.0 ts)) None) ∙ or-none (does_in opening (transfer_by s.0 ts))

  pub batch-takes : stmt_of s (before + 2) (batch_lines before ts) ≡ does_in taking (transfer_by s.0 ts)
  batch-takes =
      joined (before + 2) None (does_in taking (transfer_by s.0 ts)) None None (pass-none s opening (before + 2) (before + 1) ts (λ e. omega arith)) (pass-at s taking (before + 2) ts)
      (pass-none s giving (before + 2) (before + 3) ts (λ e. omega arith)) (pass-none s ending (before + 2) (before + 4) ts (λ e. omega arith))
      ∙ or-none (or_else (does_in taking (transfer_by s.0 ts)) None) ∙ or-none (does_in taking (transfer_by s.0 ts))

  pub batch-gives : stmt_of s (before + 3) (batch_lines before ts) ≡ does_in giving (transfer_by s.0 ts)
  batch-gives =
      joined (before + 3) None None (does_in giving (transfer_by s.0 ts)) None (pass-none s opening (before + 3) (before + 1) ts (λ e. omega arith)) (pass-none s taking (before + 3) (before + 2) ts (λ e. omega arith))
      (pass-at s giving (before + 3) ts) (pass-none s ending (before + 3) (before + 4) ts (λ e. omega arith))
      ∙ or-none (does_in giving (transfer_by s.0 ts))

  pub batch-ends : stmt_of s (before + 4) (batch_lines before ts) ≡ does_in ending (transfer_by s.0 ts)
  batch-ends =
      joined (before + 4) None None None (does_in ending (transfer_by s.0 ts)) (pass-none s opening (before + 4) (before + 1) ts (λ e. omega arith)) (pass-none s taking (before + 4) (before + 2) ts (λ e. omega arith))
      (pass-none s giving (before + 4) (before + 3) ts (λ e. omega arith)) (pass-at s ending (before + 4) ts)

-- ALL BATCHES
batches-zero : (before : ℕ) (words : List ℕ) → batches_lines before 0 words ≡ []
unfolding batches_lines
batches-zero before words = refl

batches-suc : (before more : ℕ) (words : List ℕ) → batches_lines before (suc more) words ≡ batch_lines before (transfers_from 1 (take 24 words)) ++ batches_lines (before + 4) more (drop 24 words)
unfolding batches_lines
batches-suc before more words = refl

module _ (s : SessionId) where
  early : (before more : ℕ) (words : List ℕ) (n : ℕ) → n ≤ before → stmt_of s n (batches_lines before more words) ≡ None
  early before zero words n l = ap (stmt_of s n) (batches-zero before words)
  early before (suc more) words n l =
      ap (stmt_of s n) (batches-suc before more words)
      ∙ stmt_of-append s n (batch_lines before (transfers_from 1 (take 24 words))) (batches_lines (before + 4) more (drop 24 words))
      ∙ ap (λ o. or_else o (stmt_of s n (batches_lines (before + 4) more (drop 24 words)))) (batch-none s before (transfers_from 1 (take 24 words)) n (λ i h k e. apart before i n l h e))
      ∙ early (before + 4) more (drop 24 words) n (wider n before l)
    where
      apart : (a i n : ℕ) → n ≤ a → 1 ≤ i → a + i ≡ n → ⊥
      apart a i n l h e = omega arith

      wider : (a b : ℕ) → a ≤ b → a ≤ b + 4
      wider a b l = omega arith

  module _ (does : Transfer → Stmt) (i : ℕ) (low : 1 ≤ i) (high : i ≤ 4) (one : (before : ℕ) (ts : List Transfer) → stmt_of s (before + i) (batch_lines before ts) ≡ does_in does (transfer_by s.0 ts)) where
    pub batches-at : (before more : ℕ) (words : List ℕ) (b n : ℕ) → n ≡ before + 4 * b + i → stmt_of s n (batches_lines before more words) ≡ does_in does (transfer_in more words s.0 b)
    batches-at before zero words b n e = ap (stmt_of s n) (batches-zero before words)
    batches-at before (suc more) words zero n e =
        ap (stmt_of s n) (batches-suc before more words)
        ∙ stmt_of-append s n (batch_lines before (transfers_from 1 (take 24 words))) (batches_lines (before + 4) more (drop 24 words))
        ∙ ap (or_else (stmt_of s n (batch_lines before (transfers_from 1 (take 24 words))))) (early (before + 4) more (drop 24 words) n (within n before e))
        ∙ or-none (stmt_of s n (batch_lines before (transfers_from 1 (take 24 words))))
        ∙ ap (λ k. stmt_of s k (batch_lines before (transfers_from 1 (take 24 words)))) (here n before e)
        ∙ one before (transfers_from 1 (take 24 words))
      where
        within : (n a : ℕ) → n ≡ a + 4 * 0 + i → n ≤ a + 4
        within n a e = omega (arith, high)

        here : (n a : ℕ) → n ≡ a + 4 * 0 + i → n ≡ a + i
        here n a e = omega arith
    batches-at before (suc more) words (suc b) n e =
        ap (stmt_of s n) (batches-suc before more words)
        ∙ stmt_of-append s n (batch_lines before (transfers_from 1 (take 24 words))) (batches_lines (before + 4) more (drop 24 words))
        ∙ ap (λ o. or_else o (stmt_of s n (batches_lines (before + 4) more (drop 24 words)))) (batch-none s before (transfers_from 1 (take 24 words)) n (λ j h k f. apart n before b j e low k f))
        ∙ batches-at (before + 4) more (drop 24 words) b n (next n before b e)
      where
        apart : (n a b j : ℕ) → n ≡ a + 4 * suc b + i → 1 ≤ i → j ≤ 4 → a + j ≡ n → ⊥
        apart n a b j e l k f = omega arith

        next : (n a b : ℕ) → n ≡ a + 4 * suc b + i → n ≡ a + 4 + 4 * b + i
        next n a b e = omega arith

-- WHO AND WHICH
module _ (s : ℕ) where
  abbrev IsRight : Option Transfer → Type 0
  IsRight None = Unit {0}
  IsRight (Some t) = (1 ≤ s) × (t.from < 64) × (t.to < 64)

  right-by : (first : ℕ) (words : List ℕ) → 1 ≤ first → IsRight (transfer_by s (transfers_from first words))
  right-by first [] l = tt
  right-by first (a ∷ []) l = tt
  right-by first (a ∷ b ∷ []) l = tt
  right-by first (a ∷ b ∷ c ∷ words) l = by_test (first == s) refl (right-by (first + 1) words (next first))
    where
      next : (a : ℕ) → 1 ≤ a + 1
      next a = omega arith

      some : (first == s) ≡ true → 1 ≤ s
      some e = grind (arith, nat_tests)

      bound : (a : ℕ) → a % 64 < 64
      bound a = omega arith

      by_test : (q : Bool) → (first == s) ≡ q → IsRight (transfer_by s (transfers_from (first + 1) words)) → IsRight (if q then Some (record { session = first; from = a % 64; to = b % 64; amount = 1 + c % 9 }) else transfer_by s (transfers_from (first + 1) words))
      by_test true e r = (some e, bound a, bound b)
      by_test false e r = r

  pub right-in : (more : ℕ) (words : List ℕ) (b : ℕ) → IsRight (transfer_in more words s b)
  right-in zero words b = tt
  right-in (suc more) words zero = right-by 1 (take 24 words) (omega arith)
  right-in (suc more) words (suc b) = right-in more (drop 24 words) b

-- THE SCRIPT
abbrev pub transfer_of : List ℕ → ℕ → ℕ → Option Transfer
transfer_of words s b = transfer_in 100 words s b

module _ (words : List ℕ) where
  -- the first line is the loader's
  others : (s : SessionId) (n : ℕ) → ((0 == s.0) && (1 == n)) ≡ false → stmt_of s n (drawn_script words).lines ≡ stmt_of s n (batches_lines 0 100 words)
  others s n e = ap (λ (b : Bool). if b then Some loading else stmt_of s n (batches_lines 0 100 words)) e

  another : (s n : ℕ) → 1 ≤ s → ((0 == s) && (1 == n)) ≡ false
  another s n l = ap (λ b. b && (1 == n)) (none s l)
    where
      none : (s : ℕ) → 1 ≤ s → (0 == s) ≡ false
      none s l = grind (arith, nat_tests)

  plain : (n b i : ℕ) → n ≡ 4 * b + i → n ≡ 0 + 4 * b + i
  plain n b i e = omega arith

  nobody : (o : Option Transfer) → IsRight 0 o → does_in taking o ≡ None
  nobody None r = refl
  nobody (Some t) r = absurd (never r.0)
    where
      never : 1 ≤ 0 → ⊥
      never l = omega arith

  within : (s : ℕ) (o : Option Transfer) (t : Transfer) → IsRight s o → o ≡ Some t → (t.from < 64) × (t.to < 64)
  within s None t r e = absurd (cc)
  within s (Some u) t r e = subst (λ x. (x.from < 64) × (x.to < 64)) (same u t e) (r.1, r.2)
    where
      same : (u t : Transfer) → Some u ≡ Some t → u ≡ t
      same u t e = cc

  pub drawn-transfers : AreTransfers (drawn_script words) (transfer_of words)
  drawn-transfers = record {
    load = refl;
    once = others loader 2 refl ∙ batches-at loader taking 2 (omega arith) (omega arith) (batch-takes loader) 0 100 words 0 2 refl ∙ nobody (transfer_in 100 words 0 0) (right-in 0 100 words 0);
    opens = λ s b l. others s (4 * b + 1) (another s.0 (4 * b + 1) l) ∙ batches-at s opening 1 (omega arith) (omega arith) (batch-opens s) 0 100 words b (4 * b + 1) (plain (4 * b + 1) b 1 refl);
    takes = λ s b l. others s (4 * b + 2) (another s.0 (4 * b + 2) l) ∙ batches-at s taking 2 (omega arith) (omega arith) (batch-takes s) 0 100 words b (4 * b + 2) (plain (4 * b + 2) b 2 refl);
    gives = λ s b l. others s (4 * b + 3) (another s.0 (4 * b + 3) l) ∙ batches-at s giving 3 (omega arith) (omega arith) (batch-gives s) 0 100 words b (4 * b + 3) (plain (4 * b + 3) b 3 refl);
    ends = λ s b l. others s (4 * b + 4) (another s.0 (4 * b + 4) l) ∙ batches-at s ending 4 (omega arith) (omega arith) (batch-ends s) 0 100 words b (4 * b + 4) (plain (4 * b + 4) b 4 refl);
    accounts = λ s b t e. within s (transfer_of words s b) t (right-in s 100 words b) e;
  }
