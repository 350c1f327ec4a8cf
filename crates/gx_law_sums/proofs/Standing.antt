-- Where sessions stand in a legal history of transfers, and whose transactions there are.
use Rattle.std.proofs.Common.{◌≡◌, ◌⊎◌, inl, inr, ◌≤◌, ℕ, zero, suc, ◌+◌, ◌*◌, Bool, true, false, if◌then◌else◌, ◌||◌, List, [], ◌∷◌, ◌++◌, Option, Some, None, refl, sym, ap, ◌∙◌, subst, arith}
use Rattle.std.proofs.lemmas.Bool.{eqb-true}
use Rattle.gx_ids.specs.declared.ids.Gxid.{Gxid}
use Rattle.gx_ids.specs.declared.ids.SessionId.{SessionId}
use Rattle.gx_tree.specs.declared.stmt.Level.TheVariants.{RepeatableRead}
use Rattle.gx_tree.specs.declared.stmt.Stmt.{Stmt}
use Rattle.gx_script.specs.declared.Script.{Script}
use Rattle.gx_work.specs.declared.transfer.Transfer.{Transfer}
use Rattle.gx_lemmas.proofs.Numbers.{eqb-self}
use Rattle.gx_lemmas.proofs.Options.{some-same}
use Rattle.gx_lemmas.proofs.Tests.{false-true, or-false, true-false}
use Rattle.gx_store.specs.declared.answer.StmtAnswer.{StmtAnswer}
use Rattle.gx_store.specs.declared.answer.StmtAnswer.TheVariants as answer
use Rattle.gx_store.specs.declared.mark.Mark.{Mark}
use Rattle.gx_store.specs.declared.mark.Mark.TheVariants.{Start, Commit, Abort, Answer}
use Rattle.gx_store.specs.Legal.{LegalMark}
use Rattle.gx_store.specs.Lines.{BlockState, Outside, InBlock, Failed, state_after, state_after_line, state_from, state_of, stmt_of}
use Rattle.gx_store.specs.Marks.{answer_count, is_aborted, is_committed, is_same_gxid, is_same_session, session_of, start_count, started_after}
use Rattle.gx_store.specs.Points.{Point, before}
use Rattle.gx_store.proofs.Lines.{state_from-append}
use Rattle.gx_store.proofs.Marks.{answer_count-append, is_aborted-append, is_committed-append, started_after-append}
use Rattle.gx_law_groups.proofs.Marks.{or_else, session_of-append, start_count-append}
use Rattle.gx_work.specs.Work.{ending, giving, loading, opening, taking}
use Rattle.gx_law_sums.specs.Transfers.{AreTransfers, does_in, loader}

-- where a session stands that has had so many answers: outside a block after whole transfers, in one after so many commands of one
abbrev pub IsPlaced : (ℕ → ℕ → Option Transfer) → SessionId → BlockState → ℕ → Type 0
IsPlaced transfer s Outside a = (b : ℕ) × (a ≡ 4 * b)
IsPlaced transfer s (InBlock level k) a = (b : ℕ) × (t : Transfer) × (transfer s.0 b ≡ Some t) × (level ≡ RepeatableRead) × (a ≡ 4 * b + 1 + k) × (k ≤ 2)
IsPlaced transfer s Failed a = (b : ℕ) × (t : Transfer) × (transfer s.0 b ≡ Some t) × ((a ≡ 4 * b + 2) ⊎ (a ≡ 4 * b + 3))

-- transactions are numbered, and each is of the session that started it
pub record AreOwned (N : List Mark) : Type 0 where
  pub numbered : (g : Gxid) (s : SessionId) → session_of N g ≡ Some s → g.0 ≤ start_count N
  pub starters : (s : SessionId) (g : Gxid) → started_after s None N ≡ Some g → session_of N g ≡ Some s

pub record ArePlaced (script : Script) (transfer : ℕ → ℕ → Option Transfer) (N : List Mark) : Type 0 where
  pub load : (state_of script loader N ≡ Outside) × (answer_count loader N ≤ 1)
  pub sessions : (s : SessionId) → 1 ≤ s.0 → IsPlaced transfer s (state_of script s N) (answer_count s N)

-- nobody ends twice
abbrev pub EndOnce : List Mark → Type 0
EndOnce N = (g : Gxid) → is_committed N g ≡ true → is_aborted N g ≡ false

-- PLAIN FACTS
none-is : {A : Type 0} (o : Option A) (x : A) → o ≡ None → o ≡ Some x → ⊥
none-is o x e f = cc

up : (a b : ℕ) → a ≤ b → a ≤ b + 1
up a b l = omega arith

same-count : (a b : ℕ) → b ≡ 0 → a + b ≡ a
same-count a b e = omega arith

one-up : (a b : ℕ) → b ≡ 1 → a + b ≡ a + 1
one-up a b e = omega arith

-- WHOSE THEY ARE
module _ (N : List Mark) (owned : AreOwned N) where
  same-owned : (m : Mark) → ((g : Gxid) → session_of (m ∷ []) g ≡ None) → ((s : SessionId) (g : Option Gxid) → started_after s g (m ∷ []) ≡ g) → AreOwned (N ++ m ∷ [])
  same-owned m none kept =
      record {
        numbered = λ g s e. wider (start_count N) (start_count (m ∷ [])) (start_count (N ++ m ∷ [])) g.0 (start_count-append N (m ∷ [])) (owned.numbered g s (back g s e));
        starters = λ s g e. session_of-append N (m ∷ []) g ∙ front (session_of N g) (session_of (m ∷ []) g) s (owned.starters s g (sym (started_after-append s None N (m ∷ []) ∙ kept s (started_after s None N)) ∙ e));
      }
    where
      wider : (a b c g : ℕ) → c ≡ a + b → g ≤ a → g ≤ c
      wider a b c g e l = omega arith

      front : (x y : Option SessionId) (s : SessionId) → x ≡ Some s → or_else x y ≡ Some s
      front (Some t) y s e = e
      front None y s e = absurd (cc)

      back-of : (x y : Option SessionId) (s : SessionId) → y ≡ None → or_else x y ≡ Some s → x ≡ Some s
      back-of (Some t) y s e f = f
      back-of None y s e f = absurd (none-is y s e f)

      back : (g : Gxid) (s : SessionId) → session_of (N ++ m ∷ []) g ≡ Some s → session_of N g ≡ Some s
      back g s e = back-of (session_of N g) (session_of (m ∷ []) g) s (none g) (sym (session_of-append N (m ∷ []) g) ∙ e)

  started-owned : (h : Gxid) (t : SessionId) → h.0 ≡ start_count N + 1 → AreOwned (N ++ Start h t ∷ [])
  started-owned h t new =
      record {
        numbered = λ g s e. subst (λ n. g.0 ≤ n) (sym (start_count-append N (Start h t ∷ []))) (old-or-new g s (session_of N g) refl (is_same_gxid h g) refl (sym (session_of-append N (Start h t ∷ []) g) ∙ e));
        starters = λ s g e. session_of-append N (Start h t ∷ []) g ∙ starter s g (is_same_session t s) refl (sym (started_after-append s None N (Start h t ∷ [])) ∙ e);
      }
    where
      unknown : (o : Option SessionId) → session_of N h ≡ o → o ≡ None
      unknown None e = refl
      unknown (Some s) e = absurd (above h.0 (start_count N) (owned.numbered h s e) new)
        where
          above : (a b : ℕ) → a ≤ b → a ≡ b + 1 → ⊥
          above a b l e = omega arith

      old-or-new : (g : Gxid) (s : SessionId) (o : Option SessionId) → session_of N g ≡ o → (b : Bool) → is_same_gxid h g ≡ b → or_else o (if b then Some t else None) ≡ Some s → g.0 ≤ start_count N + 1
      old-or-new g s (Some x) e b f k = up g.0 (start_count N) (owned.numbered g x e)
      old-or-new g s None e true f k = newest h.0 g.0 (start_count N) (eqb-true h.0 g.0 f) new
        where
          newest : (a b c : ℕ) → a ≡ b → a ≡ c + 1 → b ≤ c + 1
          newest a b c e f = omega arith
      old-or-new g s None e false f k = absurd (none-is None s refl k)

      starter : (s : SessionId) (g : Gxid) (b : Bool) → is_same_session t s ≡ b → (if b then Some h else started_after s None N) ≡ Some g → or_else (session_of N g) (if is_same_gxid h g then Some t else None) ≡ Some s
      starter s g true e f =
          subst (λ x. or_else (session_of N x) (if is_same_gxid h x then Some t else None) ≡ Some s) (some-same h g f)
          (ap (λ o. or_else o (if is_same_gxid h h then Some t else None)) (unknown (session_of N h) refl) ∙ ap (λ b. let o : Option SessionId = if b then Some t else None in o) (eqb-self h.0) ∙ ap (λ n. let x : SessionId = record { 0 = n } in Some x) (eqb-true t.0 s.0 e))
      starter s g false e f = front (session_of N g) (if is_same_gxid h g then Some t else None) s (owned.starters s g f)
        where
          front : (x y : Option SessionId) (s : SessionId) → x ≡ Some s → or_else x y ≡ Some s
          front (Some t) y s e = e
          front None y s e = absurd (cc)

-- WHERE THEY STAND
module _ (script : Script) (transfer : ℕ → ℕ → Option Transfer) (are : AreTransfers script transfer) where
  said : (does : Transfer → Stmt) (o : Option Transfer) (line : Stmt) (t : Transfer) (u : Option Stmt) → u ≡ Some line → u ≡ does_in does o → o ≡ Some t → line ≡ does t
  said does o line t u e f is = some-same line (does t) (sym e ∙ f ∙ ap (does_in does) is)

  -- the line that follows
  module _ (s : SessionId) (other : 1 ≤ s.0) (line : Stmt) where
    pub at-line : (n m : ℕ) → n ≡ m → stmt_of s n script.lines ≡ Some line → stmt_of s m script.lines ≡ Some line
    at-line n m e f = subst (λ k. stmt_of s k script.lines ≡ Some line) e f

    pub is-opened : (b n : ℕ) → n ≡ 4 * b + 1 → stmt_of s n script.lines ≡ Some line → (t : Transfer) × (transfer s.0 b ≡ Some t) × (line ≡ opening t)
    is-opened b n e f = by_case (transfer s.0 b) refl
      where
        by_case : (o : Option Transfer) → transfer s.0 b ≡ o → (t : Transfer) × (transfer s.0 b ≡ Some t) × (line ≡ opening t)
        by_case (Some t) is = (t, is, said opening (transfer s.0 b) line t (stmt_of s (4 * b + 1) script.lines) (at-line n (4 * b + 1) e f) (are.opens s b other) is)
        by_case None is = absurd (none-is (stmt_of s (4 * b + 1) script.lines) line (are.opens s b other ∙ ap (does_in opening) is) (at-line n (4 * b + 1) e f))

    module _ (b n : ℕ) (t : Transfer) (is : transfer s.0 b ≡ Some t) (f : stmt_of s n script.lines ≡ Some line) where
      pub is-taking : n ≡ 4 * b + 2 → line ≡ taking t
      is-taking e = said taking (transfer s.0 b) line t (stmt_of s (4 * b + 2) script.lines) (at-line n (4 * b + 2) e f) (are.takes s b other) is

      pub is-giving : n ≡ 4 * b + 3 → line ≡ giving t
      is-giving e = said giving (transfer s.0 b) line t (stmt_of s (4 * b + 3) script.lines) (at-line n (4 * b + 3) e f) (are.gives s b other) is

      pub is-ending : n ≡ 4 * b + 4 → line ≡ ending t
      is-ending e = said ending (transfer s.0 b) line t (stmt_of s (4 * b + 4) script.lines) (at-line n (4 * b + 4) e f) (are.ends s b other) is

    next-placed : (state : BlockState) (a : ℕ) (reply : StmtAnswer) → IsPlaced transfer s state a → stmt_of s (a + 1) script.lines ≡ Some line → IsPlaced transfer s (state_after state line reply) (a + 1)
    next-placed Outside a reply p f =
        let x = is-opened p.0 (a + 1) (one a p.0 p.1) f in
        subst (λ l. IsPlaced transfer s (state_after Outside l reply) (a + 1)) (sym x.2) (p.0, x.0, x.1, refl, into a p.0 p.1, least 2)
      where
        one : (a b : ℕ) → a ≡ 4 * b → a + 1 ≡ 4 * b + 1
        one a b e = omega arith

        into : (a b : ℕ) → a ≡ 4 * b → a + 1 ≡ 4 * b + 1 + 0
        into a b e = omega arith

        least : (a : ℕ) → 0 ≤ a
        least a = omega arith
    next-placed (InBlock level zero) a reply p f =
        subst (λ l. IsPlaced transfer s (state_after (InBlock level 0) l reply) (a + 1)) (sym (is-taking p.0 (a + 1) p.1 p.2 f (two a p.0 p.4)))
        (by_reply reply)
      where
        two : (a b : ℕ) → a ≡ 4 * b + 1 + 0 → a + 1 ≡ 4 * b + 2
        two a b e = omega arith

        into : (a b : ℕ) → a ≡ 4 * b + 1 + 0 → a + 1 ≡ 4 * b + 1 + 1
        into a b e = omega arith

        by_reply : (r : StmtAnswer) → IsPlaced transfer s (state_after (InBlock level 0) (taking p.1) r) (a + 1)
        by_reply (answer.Refused reason) = (p.0, p.1, p.2, inl (two a p.0 p.4))
        by_reply r = (p.0, p.1, p.2, p.3, into a p.0 p.4, omega arith)
    next-placed (InBlock level (suc zero)) a reply p f =
        subst (λ l. IsPlaced transfer s (state_after (InBlock level 1) l reply) (a + 1)) (sym (is-giving p.0 (a + 1) p.1 p.2 f (three a p.0 p.4)))
        (by_reply reply)
      where
        three : (a b : ℕ) → a ≡ 4 * b + 1 + 1 → a + 1 ≡ 4 * b + 3
        three a b e = omega arith

        into : (a b : ℕ) → a ≡ 4 * b + 1 + 1 → a + 1 ≡ 4 * b + 1 + 2
        into a b e = omega arith

        by_reply : (r : StmtAnswer) → IsPlaced transfer s (state_after (InBlock level 1) (giving p.1) r) (a + 1)
        by_reply (answer.Refused reason) = (p.0, p.1, p.2, inr (three a p.0 p.4))
        by_reply r = (p.0, p.1, p.2, p.3, into a p.0 p.4, omega arith)
    next-placed (InBlock level (suc (suc zero))) a reply p f =
        subst (λ l. IsPlaced transfer s (state_after (InBlock level 2) l reply) (a + 1)) (sym (is-ending p.0 (a + 1) p.1 p.2 f (four a p.0 p.4)))
        (p.0 + 1, whole a p.0 p.4)
      where
        four : (a b : ℕ) → a ≡ 4 * b + 1 + 2 → a + 1 ≡ 4 * b + 4
        four a b e = omega arith

        whole : (a b : ℕ) → a ≡ 4 * b + 1 + 2 → a + 1 ≡ 4 * (b + 1)
        whole a b e = omega arith
    next-placed (InBlock level (suc (suc (suc k)))) a reply p f = absurd (many k p.5)
      where
        many : (k : ℕ) → suc (suc (suc k)) ≤ 2 → ⊥
        many k l = omega arith
    next-placed Failed a reply p f = by_case p.3
      where
        three : (a b : ℕ) → a ≡ 4 * b + 2 → a + 1 ≡ 4 * b + 3
        three a b e = omega arith

        four : (a b : ℕ) → a ≡ 4 * b + 3 → a + 1 ≡ 4 * b + 4
        four a b e = omega arith

        whole : (a b : ℕ) → a ≡ 4 * b + 3 → a + 1 ≡ 4 * (b + 1)
        whole a b e = omega arith

        by_case : (a ≡ 4 * p.0 + 2) ⊎ (a ≡ 4 * p.0 + 3) → IsPlaced transfer s (state_after Failed line reply) (a + 1)
        by_case (inl e) = subst (λ l. IsPlaced transfer s (state_after Failed l reply) (a + 1)) (sym (is-giving p.0 (a + 1) p.1 p.2 f (three a p.0 e))) (p.0, p.1, p.2, inr (three a p.0 e))
        by_case (inr e) = subst (λ l. IsPlaced transfer s (state_after Failed l reply) (a + 1)) (sym (is-ending p.0 (a + 1) p.1 p.2 f (four a p.0 e))) (p.0 + 1, whole a p.0 e)

  module _ (N : List Mark) (placed : ArePlaced script transfer N) where
    same-placed : (m : Mark) → ((s : SessionId) (b : BlockState) → state_from script s b (m ∷ []) ≡ b) → ((s : SessionId) → answer_count s (m ∷ []) ≡ 0) → ArePlaced script transfer (N ++ m ∷ [])
    same-placed m kept none =
        record {
          load = (state loader ∙ placed.load.0, subst (λ n. n ≤ 1) (sym (count loader)) placed.load.1);
          sessions = λ s l. subst (λ b. IsPlaced transfer s b (answer_count s (N ++ m ∷ []))) (sym (state s)) (subst (λ n. IsPlaced transfer s (state_of script s N) n) (sym (count s)) (placed.sessions s l));
        }
      where
        state : (s : SessionId) → state_of script s (N ++ m ∷ []) ≡ state_of script s N
        state s = state_from-append script s Outside N (m ∷ []) ∙ kept s (state_of script s N)

        count : (s : SessionId) → answer_count s (N ++ m ∷ []) ≡ answer_count s N
        count s = answer_count-append s N (m ∷ []) ∙ same-count (answer_count s N) (answer_count s (m ∷ [])) (none s)

    answered-placed : (t : SessionId) (n : ℕ) (reply : StmtAnswer) (line : Stmt) → n ≡ answer_count t N + 1 → stmt_of t (answer_count t N + 1) script.lines ≡ Some line → ArePlaced script transfer (N ++ Answer t n reply ∷ [])
    answered-placed t n reply line order is = record { load = loads (is_same_session t loader) refl; sessions = λ s l. other s l (is_same_session t s) refl }
      where
        m : Mark
        m = Answer t n reply

        to-next : stmt_of t n script.lines ≡ Some line
        to-next = ap (λ k. stmt_of t k script.lines) order ∙ is

        state : (s : SessionId) → state_of script s (N ++ m ∷ []) ≡ (if is_same_session t s then state_after_line (state_of script s N) (stmt_of s n script.lines) reply else state_of script s N)
        state s = state_from-append script s Outside N (m ∷ [])

        turned : (s : SessionId) → is_same_session t s ≡ true → t ≡ s
        turned s e = ap (λ k. let x : SessionId = record { 0 = k } in x) (eqb-true t.0 s.0 e)

        state-own : (s : SessionId) → is_same_session t s ≡ true → state_of script s (N ++ m ∷ []) ≡ state_after (state_of script s N) line reply
        state-own s e =
            state s ∙ ap (λ b. if b then state_after_line (state_of script s N) (stmt_of s n script.lines) reply else state_of script s N) e
            ∙ ap (λ o. state_after_line (state_of script s N) o reply) (subst (λ x. stmt_of x n script.lines ≡ Some line) (turned s e) to-next)

        state-other : (s : SessionId) → is_same_session t s ≡ false → state_of script s (N ++ m ∷ []) ≡ state_of script s N
        state-other s e = state s ∙ ap (λ b. if b then state_after_line (state_of script s N) (stmt_of s n script.lines) reply else state_of script s N) e

        count-own : (s : SessionId) → is_same_session t s ≡ true → answer_count s (N ++ m ∷ []) ≡ answer_count s N + 1
        count-own s e = answer_count-append s N (m ∷ []) ∙ ap (λ (b : Bool). answer_count s N + (if b then 0 + 1 else 0)) e ∙ one-up (answer_count s N) (0 + 1) (omega arith)

        count-other : (s : SessionId) → is_same_session t s ≡ false → answer_count s (N ++ m ∷ []) ≡ answer_count s N
        count-other s e = answer_count-append s N (m ∷ []) ∙ ap (λ (b : Bool). answer_count s N + (if b then 0 + 1 else 0)) e ∙ same-count (answer_count s N) 0 refl

        loads : (b : Bool) → is_same_session t loader ≡ b → (state_of script loader (N ++ m ∷ []) ≡ Outside) × (answer_count loader (N ++ m ∷ []) ≤ 1)
        loads true e =
            let here = subst (λ x. stmt_of x (answer_count x N + 1) script.lines ≡ Some line) (turned loader e) is in
            let first = by_count (answer_count loader N) refl placed.load.1 here in
            (state-own loader e ∙ ap (λ b. state_after b line reply) placed.load.0 ∙ ap (λ l. state_after Outside l reply) first.1, subst (λ k. k ≤ 1) (sym (count-own loader e ∙ ap (λ k. k + 1) first.0)) (omega arith))
          where
            by_count : (a : ℕ) → answer_count loader N ≡ a → a ≤ 1 → stmt_of loader (a + 1) script.lines ≡ Some line → (a ≡ 0) × (line ≡ loading)
            by_count zero e l f = (refl, some-same line loading (sym f ∙ are.load))
            by_count (suc zero) e l f = absurd (none-is (stmt_of loader 2 script.lines) line are.once f)
            by_count (suc (suc a)) e l f = absurd (many a l)
              where
                many : (a : ℕ) → suc (suc a) ≤ 1 → ⊥
                many a l = omega arith
        loads false e = (state-other loader e ∙ placed.load.0, subst (λ k. k ≤ 1) (sym (count-other loader e)) placed.load.1)

        other : (s : SessionId) → 1 ≤ s.0 → (b : Bool) → is_same_session t s ≡ b → IsPlaced transfer s (state_of script s (N ++ m ∷ [])) (answer_count s (N ++ m ∷ []))
        other s l true e =
            let here = subst (λ x. stmt_of x (answer_count x N + 1) script.lines ≡ Some line) (turned s e) is in
            subst (λ b. IsPlaced transfer s b (answer_count s (N ++ m ∷ []))) (sym (state-own s e))
            (subst (λ k. IsPlaced transfer s (state_after (state_of script s N) line reply) k) (sym (count-own s e)) (next-placed s l line (state_of script s N) (answer_count s N) reply (placed.sessions s l) here))
        other s l false e =
            subst (λ b. IsPlaced transfer s b (answer_count s (N ++ m ∷ []))) (sym (state-other s e))
            (subst (λ k. IsPlaced transfer s (state_of script s N) k) (sym (count-other s e)) (placed.sessions s l))

-- WHO HAS ENDED
module _ (N : List Mark) (once : EndOnce N) where
  same-ended : (m : Mark) → ((g : Gxid) → is_committed (m ∷ []) g ≡ false) → ((g : Gxid) → is_aborted (m ∷ []) g ≡ false) → EndOnce (N ++ m ∷ [])
  same-ended m c a g e = still is_aborted (is_aborted-append N (m ∷ []) g) (a g) ∙ once g (sym (still is_committed (is_committed-append N (m ∷ []) g) (c g)) ∙ e)
    where
      still : (test : List Mark → Gxid → Bool) → test (N ++ m ∷ []) g ≡ (test N g || test (m ∷ []) g) → test (m ∷ []) g ≡ false → test (N ++ m ∷ []) g ≡ test N g
      still test e f = e ∙ ap (λ b. test N g || b) f ∙ or-false (test N g)

  committed-ended : (h : Gxid) → (is_committed N h || is_aborted N h) ≡ false → EndOnce (N ++ Commit h ∷ [])
  committed-ended h running g e = is_aborted-append N (Commit h ∷ []) g ∙ or-false (is_aborted N g) ∙ by_test (is_committed N g) refl (is_same_gxid h g) refl (sym (is_committed-append N (Commit h ∷ []) g) ∙ e)
    where
      second : (a b : Bool) → (a || b) ≡ false → b ≡ false
      second true b e = absurd (true-false true refl e)
      second false b e = e

      by_test : (a : Bool) → is_committed N g ≡ a → (b : Bool) → is_same_gxid h g ≡ b → (a || (b || false)) ≡ true → is_aborted N g ≡ false
      by_test true f b k t = once g f
      by_test false f true k t = subst (λ n. is_aborted N (record { 0 = n }) ≡ false) (eqb-true h.0 g.0 k) (second (is_committed N h) (is_aborted N h) running)
      by_test false f false k t = absurd (false-true t)

  aborted-ended : (h : Gxid) → (is_committed N h || is_aborted N h) ≡ false → EndOnce (N ++ Abort h ∷ [])
  aborted-ended h running g e = is_aborted-append N (Abort h ∷ []) g ∙ by_test (is_same_gxid h g) refl (sym (is_committed-append N (Abort h ∷ []) g ∙ or-false (is_committed N g)) ∙ e)
    where
      first : (a b : Bool) → (a || b) ≡ false → a ≡ true → ⊥
      first true b e f = true-false true refl e
      first false b e f = false-true f

      by_test : (b : Bool) → is_same_gxid h g ≡ b → is_committed N g ≡ true → (is_aborted N g || (b || false)) ≡ false
      by_test true k c = absurd (first (is_committed N h) (is_aborted N h) running (subst (λ n. is_committed N (record { 0 = n }) ≡ true) (sym (eqb-true h.0 g.0 k)) c))
      by_test false k c = or-false (is_aborted N g) ∙ once g c

-- EACH MARK KEEPS IT
pub record Standing (script : Script) (transfer : ℕ → ℕ → Option Transfer) (N : List Mark) : Type 0 where
  pub owned : AreOwned N
  pub placed : ArePlaced script transfer N
  pub once : EndOnce N

module _ (script : Script) (transfer : ℕ → ℕ → Option Transfer) (are : AreTransfers script transfer) where
  pub standing-first : Standing script transfer []
  standing-first = record {
    owned = record { numbered = λ g s e. absurd (none-is None s refl e); starters = λ s g e. absurd (none-is None g refl e) };
    placed = record { load = (refl, omega arith); sessions = λ s l. (0, refl) };
    once = λ g e. absurd (false-true e);
  }

  pub standing-next : (point : Point) (m : Mark) → LegalMark script point m → Standing script transfer (before point) → Standing script transfer (before point ++ m ∷ [])
  standing-next point (Start h s) legal k = record {
    owned = started-owned (before point) k.owned h s legal.number;
    placed = same-placed script transfer are (before point) k.placed (Start h s) (λ s b. refl) (λ s. refl);
    once = same-ended (before point) k.once (Start h s) (λ g. refl) (λ g. refl);
  }
  standing-next point (Commit h) legal k = record {
    owned = same-owned (before point) k.owned (Commit h) (λ g. refl) (λ s g. refl);
    placed = same-placed script transfer are (before point) k.placed (Commit h) (λ s b. refl) (λ s. refl);
    once = committed-ended (before point) k.once h legal.running;
  }
  standing-next point (Abort h) legal k = record {
    owned = same-owned (before point) k.owned (Abort h) (λ g. refl) (λ s g. refl);
    placed = same-placed script transfer are (before point) k.placed (Abort h) (λ s b. refl) (λ s. refl);
    once = aborted-ended (before point) k.once h legal.running;
  }
  standing-next point (Answer s n a) legal k = record {
    owned = same-owned (before point) k.owned (Answer s n a) (λ g. refl) (λ s g. refl);
    placed = answered-placed script transfer are (before point) k.placed s n a legal.line legal.order legal.runs.line;
    once = same-ended (before point) k.once (Answer s n a) (λ g. refl) (λ g. refl);
  }
  standing-next point m legal k = record {
    owned = same-owned (before point) k.owned m (λ g. refl) (λ s g. refl);
    placed = same-placed script transfer are (before point) k.placed m (λ s b. refl) (λ s. refl);
    once = same-ended (before point) k.once m (λ g. refl) (λ g. refl);
  }
