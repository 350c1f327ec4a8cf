-- The commands of a block among the lines of its session.
use Rattle.std.proofs.Common.{◌≡◌, ◌<◌, ◌≤◌, ℕ, ◌+◌, List, [], ◌∷◌, ◌++◌, Option, Some, None, Bool, true, false, refl, sym, subst, ap, ◌∙◌, if◌then◌else◌, ◌&&◌, ◌==◌, arith, eqb}
use Rattle.std.proofs.lemmas.Bool.{eqb-true}
use Rattle.std.proofs.lemmas.Bool.Decides.{nat_tests}
use Rattle.std.specs.Prelude.{nat_le, ◌-◌}
use Rattle.gx_lemmas.proofs.Options.{some-same}
use Rattle.gx_ids.specs.declared.ids.Gxid.{Gxid}
use Rattle.gx_ids.specs.declared.ids.SessionId.{SessionId}
use Rattle.gx_tree.specs.declared.stmt.Level.{Level}
use Rattle.gx_tree.specs.declared.stmt.Level.TheVariants.{ReadCommitted}
use Rattle.gx_tree.specs.declared.stmt.Stmt.{Stmt}
use Rattle.gx_tree.specs.declared.stmt.Stmt.TheVariants as stmt
use Rattle.gx_script.specs.declared.Line.{Line}
use Rattle.gx_script.specs.declared.Script.{Script}
use Rattle.gx_script.specs.declared.state.Block.{Block}
use Rattle.gx_script.specs.declared.state.Block.TheVariants as block
use Rattle.gx_script.specs.declared.state.Pending.{Pending}
use Rattle.gx_script.specs.declared.state.Pending.TheVariants as pending
use Rattle.gx_store.specs.declared.mark.Mark.{Mark}
use Rattle.gx_store.specs.Lines.{InBlock, is_command, is_on_rows, stmt_of}
use Rattle.gx_store.specs.Marks.{is_same_session}
use Rattle.gx_rules.specs.Coordinators.{Command, Work}
use Rattle.gx_law_order.specs.Orders.{level_by, level_of_began}
use Rattle.gx_store.specs.Language.{AreLinesNumbered, lines_in}
use Rattle.gx_law_order.specs.Scanned.{began_from, closes_block, command_at, command_from, nth_command}
use Rattle.gx_law_order.specs.Standing.{AreLeft, IsNow, Roots, held_up, is_open, level_in, state_in}
use Rattle.gx_law_order.proofs.Others.{began-kept}

lines-more : (k : ℕ) (before : List Line) (l : Line) → lines_in k (before ++ l ∷ []) ≡ (if eqb l.session.0 k then lines_in k before + 1 else lines_in k before)
lines-more k [] l = refl
lines-more k (x ∷ before) l = by_test (eqb x.session.0 k) (eqb l.session.0 k) (lines_in k before) (lines_in k (before ++ l ∷ [])) (lines-more k before l)
  where
    by_test : (p q : Bool) (a b : ℕ) → b ≡ (if q then a + 1 else a) → (if p then b + 1 else b) ≡ (if q then (if p then a + 1 else a) + 1 else (if p then a + 1 else a))
    by_test true true a b e = ap (λ i. i + 1) e
    by_test true false a b e = ap (λ i. i + 1) e
    by_test false true a b e = e
    by_test false false a b e = e

-- what a line gives to the command of a number
abbrev step : Bool → SessionId → ℕ → ℕ → Line → List Line → Option Stmt
step b k first c l ls = if b then (if is_command (InBlock ReadCommitted 0) l.stmt then (if c == 1 then Some l.stmt else nth_command k first (c - 1) ls) else (if closes_block l.stmt then None else nth_command k first c ls)) else nth_command k first c ls

module _ (k : SessionId) where
  -- numbers that no line has any more
  nth-passed : (L c : ℕ) (before ls : List Line) → AreLinesNumbered before ls → L ≤ lines_in k.0 before → nth_command k L c ls ≡ nth_command k (L + 1) c ls
  nth-passed L c before [] n h = refl
  nth-passed L c before (l ∷ ls) n h =
      ap (λ b. step b k L c l ls) (both-tests (eqb l.session.0 k.0) refl) ∙ by_test (λ d. nth-passed L d (before ++ l ∷ []) ls n.1 grows) (is_same_session l.session k && nat_le (L + 1) l.number) (is_command (InBlock ReadCommitted 0) l.stmt) (c == 1) (closes_block l.stmt)
    where
      grows : L ≤ lines_in k.0 (before ++ l ∷ [])
      grows = subst (λ i. L ≤ i) (sym (lines-more k.0 before l)) (at (eqb l.session.0 k.0) (lines_in k.0 before) h)
        where
          at : (b : Bool) (a : ℕ) → L ≤ a → L ≤ (if b then a + 1 else a)
          at true a h = omega arith
          at false a h = h

      both-tests : (b : Bool) → eqb l.session.0 k.0 ≡ b → (b && nat_le L l.number) ≡ (b && nat_le (L + 1) l.number)
      both-tests true e = beyond L l.number (lines_in k.0 before) h (n.0 ∙ ap (λ i. lines_in i before + 1) (eqb-true l.session.0 k.0 e))
        where
          beyond : (a d i : ℕ) → a ≤ i → d ≡ i + 1 → (true && nat_le a d) ≡ (true && nat_le (a + 1) d)
          beyond a d i h e = grind (arith, nat_tests)
      both-tests false e = refl

      by_test : ((d : ℕ) → nth_command k L d ls ≡ nth_command k (L + 1) d ls) → (b p q r : Bool) → (if b then (if p then (if q then Some l.stmt else nth_command k L (c - 1) ls) else (if r then None else nth_command k L c ls)) else nth_command k L c ls) ≡ (if b then (if p then (if q then Some l.stmt else nth_command k (L + 1) (c - 1) ls) else (if r then None else nth_command k (L + 1) c ls)) else nth_command k (L + 1) c ls)
      by_test later true true true r = refl
      by_test later true true false r = later (c - 1)
      by_test later true false q true = refl
      by_test later true false q false = later c
      by_test later false p q r = later c

  -- the line of a number is the first that is left
  module _ (L : ℕ) (st : Stmt) where
    abbrev Holds : (List Line → Type 0) → Type 0
    Holds P = (before ls : List Line) → AreLinesNumbered before ls → lines_in k.0 before < L → stmt_of k L ls ≡ Some st → P ls

    -- one line: it is the one, or it is an earlier one or another session's
    reach : (P : List Line → Type 0) → ((before ls : List Line) (l : Line) → AreLinesNumbered (before ++ l ∷ []) ls → l.session.0 ≡ k.0 → l.number ≡ L → l.stmt ≡ st → L ≤ lines_in k.0 (before ++ l ∷ []) → P (l ∷ ls)) → ((l : Line) (ls : List Line) → (is_same_session l.session k && nat_le L l.number) ≡ false → (is_same_session l.session k && nat_le (L + 1) l.number) ≡ false → P ls → P (l ∷ ls)) → Holds P
    reach P at-it skips before [] n h e = absurd (none e)
      where
        none : (let o : Option Stmt = None in o) ≡ Some st → ⊥
        none q = cc
    reach P at-it skips before (l ∷ ls) n h e = by_session (λ i f. reach P at-it skips (before ++ l ∷ []) ls n.1 i f) (eqb l.session.0 k.0) refl e
      where
        counted : eqb l.session.0 k.0 ≡ true → l.number ≡ lines_in k.0 before + 1
        counted s = n.0 ∙ ap (λ i. lines_in i before + 1) (eqb-true l.session.0 k.0 s)

        more : eqb l.session.0 k.0 ≡ true → lines_in k.0 (before ++ l ∷ []) ≡ lines_in k.0 before + 1
        more s = lines-more k.0 before l ∙ ap (λ b. if b then lines_in k.0 before + 1 else lines_in k.0 before) s

        same-le : (a b c : ℕ) → a ≡ b → c ≡ a → b ≤ c
        same-le a b c e f = omega arith

        here : eqb l.session.0 k.0 ≡ true → eqb l.number L ≡ true → Some l.stmt ≡ Some st → P (l ∷ ls)
        here s m f = at-it before ls l n.1 (eqb-true l.session.0 k.0 s) (eqb-true l.number L m) (some-same l.stmt st f) (same-le l.number L _ (eqb-true l.number L m) (more s ∙ sym (counted s)))

        earlier : (lines_in k.0 (before ++ l ∷ []) < L → stmt_of k L ls ≡ Some st → P ls) → eqb l.session.0 k.0 ≡ true → eqb l.number L ≡ false → stmt_of k L ls ≡ Some st → P (l ∷ ls)
        earlier rest s m f =
            skips l ls (below (eqb l.session.0 k.0) l.number L (lines_in k.0 before) (counted s) h m) (below-more (eqb l.session.0 k.0) l.number L (lines_in k.0 before) (counted s) h m)
            (rest (still l.number L (lines_in k.0 before) (lines_in k.0 (before ++ l ∷ [])) (counted s) h m (more s)) f)
          where
            below : (b : Bool) (d a i : ℕ) → d ≡ i + 1 → i < a → eqb d a ≡ false → (b && nat_le a d) ≡ false
            below b d a i e h m = grind (arith, nat_tests)

            below-more : (b : Bool) (d a i : ℕ) → d ≡ i + 1 → i < a → eqb d a ≡ false → (b && nat_le (a + 1) d) ≡ false
            below-more b d a i e h m = grind (arith, nat_tests)

            still : (d a i j : ℕ) → d ≡ i + 1 → i < a → eqb d a ≡ false → j ≡ i + 1 → j < a
            still d a i j e h m f = grind (arith, nat_tests)

        by_number : (lines_in k.0 (before ++ l ∷ []) < L → stmt_of k L ls ≡ Some st → P ls) → eqb l.session.0 k.0 ≡ true → (b : Bool) → eqb l.number L ≡ b → (if b then Some l.stmt else stmt_of k L ls) ≡ Some st → P (l ∷ ls)
        by_number rest s true m f = here s m f
        by_number rest s false m f = earlier rest s m f

        by_session : (lines_in k.0 (before ++ l ∷ []) < L → stmt_of k L ls ≡ Some st → P ls) → (b : Bool) → eqb l.session.0 k.0 ≡ b → (if b && (l.number == L) then Some l.stmt else stmt_of k L ls) ≡ Some st → P (l ∷ ls)
        by_session rest true s f = by_number rest s (eqb l.number L) refl f
        by_session rest false s f =
            skips l ls (ap (λ b. b && nat_le L l.number) s) (ap (λ b. b && nat_le (L + 1) l.number) s)
            (rest (subst (λ i. i < L) (sym (lines-more k.0 before l ∙ ap (λ b. if b then lines_in k.0 before + 1 else lines_in k.0 before) s)) h) f)

    same-test : (l : Line) → l.session.0 ≡ k.0 → l.number ≡ L → (is_same_session l.session k && nat_le L l.number) ≡ true
    same-test l s m = grind (arith, nat_tests)

    past-test : (l : Line) → l.session.0 ≡ k.0 → l.number ≡ L → (is_same_session l.session k && nat_le (L + 1) l.number) ≡ false
    past-test l s m = grind (arith, nat_tests)

    -- it is the first command
    nth-first : is_command (InBlock ReadCommitted 0) st ≡ true → Holds (λ ls. nth_command k L 1 ls ≡ Some st)
    nth-first cmd =
        reach (λ ls. nth_command k L 1 ls ≡ Some st)
        (λ before ls l n s m f h. ap (λ b. step b k L 1 l ls) (same-test l s m) ∙ ap (λ (b : Bool). if b then Some l.stmt else (if closes_block l.stmt then None else nth_command k L 1 ls)) (ap (is_command (InBlock ReadCommitted 0)) f ∙ cmd) ∙ ap (λ z. Some z) f)
        (λ l ls a b p. ap (λ q. step q k L 1 l ls) a ∙ p)

    -- and the others stand behind it
    nth-later : is_command (InBlock ReadCommitted 0) st ≡ true → (c : ℕ) → 1 ≤ c → Holds (λ ls. nth_command k L (c + 1) ls ≡ nth_command k (L + 1) c ls)
    nth-later cmd c one =
        reach (λ ls. nth_command k L (c + 1) ls ≡ nth_command k (L + 1) c ls)
        (λ before ls l n s m f h. ap (λ b. step b k L (c + 1) l ls) (same-test l s m) ∙ ap (λ (b : Bool). if b then (if (c + 1) == 1 then Some l.stmt else nth_command k L ((c + 1) - 1) ls) else (if closes_block l.stmt then None else nth_command k L (c + 1) ls)) (ap (is_command (InBlock ReadCommitted 0)) f ∙ cmd)
        ∙ ap (λ (b : Bool). if b then Some l.stmt else nth_command k L ((c + 1) - 1) ls) (not-one c one) ∙ ap (λ i. nth_command k L i ls) (back c) ∙ nth-passed L c (before ++ l ∷ []) ls n h ∙ sym (ap (λ b. step b k (L + 1) c l ls) (past-test l s m)))
        (λ l ls a b p. ap (λ q. step q k L (c + 1) l ls) a ∙ p ∙ sym (ap (λ q. step q k (L + 1) c l ls) b))
      where
        not-one : (c : ℕ) → 1 ≤ c → ((c + 1) == 1) ≡ false
        not-one c h = grind (arith, nat_tests)

        back : (c : ℕ) → (c + 1) - 1 ≡ c
        back c = omega arith

    -- or it is no command, and closes nothing
    nth-other : is_command (InBlock ReadCommitted 0) st ≡ false → closes_block st ≡ false → (c : ℕ) → Holds (λ ls. nth_command k L c ls ≡ nth_command k (L + 1) c ls)
    nth-other cmd open_still c =
        reach (λ ls. nth_command k L c ls ≡ nth_command k (L + 1) c ls)
        (λ before ls l n s m f h. ap (λ b. step b k L c l ls) (same-test l s m) ∙ ap (λ (b : Bool). if b then (if c == 1 then Some l.stmt else nth_command k L (c - 1) ls) else (if closes_block l.stmt then None else nth_command k L c ls)) (ap (is_command (InBlock ReadCommitted 0)) f ∙ cmd)
        ∙ ap (λ (b : Bool). if b then None else nth_command k L c ls) (ap closes_block f ∙ open_still) ∙ nth-passed L c (before ++ l ∷ []) ls n h ∙ sym (ap (λ b. step b k (L + 1) c l ls) (past-test l s m)))
        (λ l ls a b p. ap (λ q. step q k L c l ls) a ∙ p ∙ sym (ap (λ q. step q k (L + 1) c l ls) b))

-- MORE MARKS
pub roots-more : (script : Script) (k : SessionId) (ms ns : List Mark) (b : Block) (p : Pending) (lines : ℕ) (g : Gxid) (w : Work) → Roots script k ms b p lines g w → Roots script k (ms ++ ns) b p lines g w
roots-more script k ms ns b p lines g w r = record { first = r.first; began = began-kept [] ms ns g (k, r.first) r.began; opening = r.opening; left = r.left; now = r.now }

at-least-one : (a : ℕ) → 0 < a + 1
at-least-one a = omega arith

-- A LINE THAT IS NO COMMAND AND CLOSES NOTHING
pub roots-other : (script : Script) (k : SessionId) (ms ns : List Mark) (b : Block) (lines : ℕ) (g : Gxid) (w : Work) (line : Stmt) → is_open b ≡ true → Roots script k ms b pending.Nothing lines g w → stmt_of k (lines + 1) script.lines ≡ Some line → is_command (InBlock ReadCommitted 0) line ≡ false → closes_block line ≡ false → Roots script k (ms ++ ns) b pending.Nothing (lines + 1) g w
roots-other script k ms ns (block.Open l) lines g w line o r next cmd closes =
    record {
      first = r.first;
      began = began-kept [] ms ns g (k, r.first) r.began;
      opening = r.opening;
      left = λ n c one. r.left n c one ∙ nth-other k (lines + 1) line cmd closes c [] script.lines n (at-least-one lines) next;
      now = λ n. tt;
    }
roots-other script k ms ns block.Outside lines g w line o r next cmd closes = absurd (cc)
roots-other script k ms ns block.Failed lines g w line o r next cmd closes = absurd (cc)

no-line : (o : Option Stmt) (l : Stmt) → o ≡ None → o ≡ Some l → ⊥
no-line o l e f = cc

no-command : (o : Option Command) (m : Command) → o ≡ None → o ≡ Some m → ⊥
no-command o m e f = cc

plus-none : (a d : ℕ) → d ≡ 0 → a + 1 ≡ a + d + 1
plus-none a d e = omega arith

-- A COMMAND IN A BLOCK
pub roots-command : (script : Script) (k : SessionId) (ms ns : List Mark) (l : Level) (lines : ℕ) (g : Gxid) (w v : Work) (m : Command) → Roots script k ms (block.Open l) pending.Nothing lines g w → w.waiting ≡ None → stmt_of k (lines + 1) script.lines ≡ Some m.stmt → is_command (InBlock ReadCommitted 0) m.stmt ≡ true → v.last ≡ w.last + 1 → v.command ≡ Some m → v.waiting ≡ None → m.cid.0 ≡ w.last + 1 → Roots script k (ms ++ ns) (block.Open l) pending.Command (lines + 1) g v
roots-command script k ms ns l lines g w v m r free next cmd last has out cid =
    record {
      first = r.first;
      began = began-kept [] ms ns g (k, r.first) r.began;
      opening = r.opening;
      left = λ n c one. ap (λ i. nth_command k (r.first + 1) i script.lines) (further v.last w.last (held_up v.waiting) (held_up w.waiting) c last (ap held_up out) (ap held_up free)) ∙ r.left n (c + 1) (more c)
          ∙ nth-later k (lines + 1) m.stmt cmd c one [] script.lines n (at-least-one lines) next;
      now = λ n. (λ z e. subst (λ (y : Command). command_at script (Some (k, r.first)) y.cid.0 ≡ Some y.stmt) (some-same m z (sym has ∙ e)) (here n), λ z e. absurd (no-line v.waiting z out e));
    }
  where
    further : (a d x y c : ℕ) → a ≡ d + 1 → x ≡ 0 → y ≡ 0 → a + x + c ≡ d + y + (c + 1)
    further a d x y c e f h = omega arith

    more : (c : ℕ) → 1 ≤ c + 1
    more c = omega arith

    one-one : 1 ≤ 1
    one-one = omega arith

    here : AreLinesNumbered [] script.lines → command_at script (Some (k, r.first)) m.cid.0 ≡ Some m.stmt
    here n =
        ap (λ o. command_from script k r.first o m.cid.0) r.opening ∙ ap (λ i. nth_command k (r.first + 1) i script.lines) (cid ∙ plus-none w.last (held_up w.waiting) (ap held_up free)) ∙ r.left n 1 one-one
        ∙ nth-first k (lines + 1) m.stmt cmd [] script.lines n (at-least-one lines) next

-- it waits to go out
pub roots-held-up : (script : Script) (k : SessionId) (ms ns : List Mark) (l : Level) (lines : ℕ) (g : Gxid) (w v : Work) (line : Stmt) → Roots script k ms (block.Open l) pending.Nothing lines g w → w.waiting ≡ None → stmt_of k (lines + 1) script.lines ≡ Some line → is_command (InBlock ReadCommitted 0) line ≡ true → v.last ≡ w.last → v.command ≡ None → v.waiting ≡ Some line → Roots script k (ms ++ ns) (block.Open l) pending.Command (lines + 1) g v
roots-held-up script k ms ns l lines g w v line r free next cmd last none has =
    record {
      first = r.first;
      began = began-kept [] ms ns g (k, r.first) r.began;
      opening = r.opening;
      left = λ n c one. ap (λ i. nth_command k (r.first + 1) i script.lines) (further v.last w.last (held_up v.waiting) (held_up w.waiting) c last (ap held_up has) (ap held_up free)) ∙ r.left n (c + 1) (more c)
          ∙ nth-later k (lines + 1) line cmd c one [] script.lines n (at-least-one lines) next;
      now = λ n. (λ z e. absurd (no-command v.command z none e), λ z e. subst (λ y. command_at script (Some (k, r.first)) (v.last + 1) ≡ Some y) (some-same line z (sym has ∙ e)) (here n));
    }
  where
    further : (a d x y c : ℕ) → a ≡ d → x ≡ 1 → y ≡ 0 → a + x + c ≡ d + y + (c + 1)
    further a d x y c e f h = omega arith

    more : (c : ℕ) → 1 ≤ c + 1
    more c = omega arith

    one-one : 1 ≤ 1
    one-one = omega arith

    here : AreLinesNumbered [] script.lines → command_at script (Some (k, r.first)) (v.last + 1) ≡ Some line
    here n =
        ap (λ o. command_from script k r.first o (v.last + 1)) r.opening ∙ ap (λ i. nth_command k (r.first + 1) i script.lines) (ap (λ i. i + 1) last ∙ plus-none w.last (held_up w.waiting) (ap held_up free)) ∙ r.left n 1 one-one
        ∙ nth-first k (lines + 1) line cmd [] script.lines n (at-least-one lines) next

-- what has waited goes out
pub roots-out : (script : Script) (k : SessionId) (ms ns : List Mark) (b : Block) (lines : ℕ) (g : Gxid) (w v : Work) (line : Stmt) (m : Command) → Roots script k ms b pending.Command lines g w → w.waiting ≡ Some line → m.stmt ≡ line → v.last ≡ w.last + 1 → v.command ≡ Some m → v.waiting ≡ None → m.cid.0 ≡ w.last + 1 → Roots script k (ms ++ ns) b pending.Command lines g v
roots-out script k ms ns b lines g w v line m r waits same last has out cid =
    record {
      first = r.first;
      began = began-kept [] ms ns g (k, r.first) r.began;
      opening = r.opening;
      left = λ n. by_block b (r.left n);
      now = λ n. (λ z e. subst (λ (y : Command). command_at script (Some (k, r.first)) y.cid.0 ≡ Some y.stmt) (some-same m z (sym has ∙ e)) (here n), λ z e. absurd (no-line v.waiting z out e));
    }
  where
    further : (a d x y c : ℕ) → a ≡ d + 1 → x ≡ 0 → y ≡ 1 → a + x + c ≡ d + y + c
    further a d x y c e f h = omega arith

    here : AreLinesNumbered [] script.lines → command_at script (Some (k, r.first)) m.cid.0 ≡ Some m.stmt
    here n = ap (command_at script (Some (k, r.first))) cid ∙ (r.now n).1 line waits ∙ ap (λ z. Some z) (sym same)

    by_block : (q : Block) → AreLeft script k lines w q pending.Command r.first → AreLeft script k lines v q pending.Command r.first
    by_block block.Outside h = tt
    by_block block.Failed h = tt
    by_block (block.Open l) h = λ c one. ap (λ i. nth_command k (r.first + 1) i script.lines) (further v.last w.last (held_up v.waiting) (held_up w.waiting) c last (ap held_up out) (ap held_up waits)) ∙ h c one

-- A COMMAND OUTSIDE A BLOCK
from-alone : (script : Script) (k : SessionId) (n : ℕ) (line : Stmt) → is_on_rows line ≡ true → command_from script k n (Some line) 1 ≡ Some line
from-alone script k n (stmt.Select q) e = refl
from-alone script k n (stmt.Insert t x) e = refl
from-alone script k n (stmt.Update t x y) e = refl
from-alone script k n (stmt.Delete t x) e = refl
from-alone script k n (stmt.Begin level) e = absurd (cc)
from-alone script k n stmt.Commit e = absurd (cc)
from-alone script k n stmt.Rollback e = absurd (cc)
from-alone script k n (stmt.Lock t m) e = absurd (cc)

pub roots-alone : (script : Script) (k : SessionId) (ms : List Mark) (lines : ℕ) (g : Gxid) (v : Work) (m : Command) → began_from [] ms g ≡ Some (k, lines) → stmt_of k lines script.lines ≡ Some m.stmt → is_on_rows m.stmt ≡ true → v.command ≡ Some m → v.waiting ≡ None → m.cid.0 ≡ 1 → Roots script k ms block.Outside pending.Command lines g v
roots-alone script k ms lines g v m began next rows has out cid =
    record {
      first = lines;
      began = began;
      opening = refl;
      left = λ n. tt;
      now = λ n. (λ z e. subst (λ (y : Command). command_at script (Some (k, lines)) y.cid.0 ≡ Some y.stmt) (some-same m z (sym has ∙ e)) (ap (λ o. command_from script k lines o m.cid.0) next ∙ ap (command_from script k lines (Some m.stmt)) cid ∙ from-alone script k lines m.stmt rows), λ z e. absurd (no-line v.waiting z out e));
    }

pub roots-alone-held-up : (script : Script) (k : SessionId) (ms : List Mark) (lines : ℕ) (g : Gxid) (v : Work) (line : Stmt) → began_from [] ms g ≡ Some (k, lines) → stmt_of k lines script.lines ≡ Some line → is_on_rows line ≡ true → v.last ≡ 0 → v.command ≡ None → v.waiting ≡ Some line → Roots script k ms block.Outside pending.Command lines g v
roots-alone-held-up script k ms lines g v line began next rows last none has =
    record {
      first = lines;
      began = began;
      opening = refl;
      left = λ n. tt;
      now = λ n. (λ z e. absurd (no-command v.command z none e), λ z e. subst (λ y. command_at script (Some (k, lines)) (v.last + 1) ≡ Some y) (some-same line z (sym has ∙ e)) (ap (λ o. command_from script k lines o (v.last + 1)) next ∙ ap (λ i. command_from script k lines (Some line) (i + 1)) last ∙ from-alone script k lines line rows));
    }

-- BEGIN
pub roots-begin : (script : Script) (k : SessionId) (ms : List Mark) (l : Level) (lines : ℕ) (g : Gxid) (w : Work) → began_from [] ms g ≡ Some (k, lines) → stmt_of k lines script.lines ≡ Some (stmt.Begin l) → w.last ≡ 0 → w.waiting ≡ None → Roots script k ms (block.Open l) pending.Nothing lines g w
roots-begin script k ms l lines g w began next last free =
    record { first = lines; began = began; opening = next; left = λ n c one. ap (λ i. nth_command k (lines + 1) i script.lines) (none w.last (held_up w.waiting) c last (ap held_up free)); now = λ n. tt }
  where
    none : (a x c : ℕ) → a ≡ 0 → x ≡ 0 → a + x + c ≡ c
    none a x c e f = omega arith

-- COMMIT
pub roots-commit : (script : Script) (k : SessionId) (ms ns : List Mark) (l : Level) (lines : ℕ) (g : Gxid) (w : Work) → Roots script k ms (block.Open l) pending.Nothing lines g w → Roots script k (ms ++ ns) (block.Open l) pending.Commit (lines + 1) g w
roots-commit script k ms ns l lines g w r = record { first = r.first; began = began-kept [] ms ns g (k, r.first) r.began; opening = r.opening; left = λ n. tt; now = λ n. tt }

-- THE LINE GOES ON, AND IS ANSWERED
left-same : (script : Script) (k : SessionId) (lines : ℕ) (w v : Work) (b : Block) (p : Pending) (first : ℕ) → v.last + held_up v.waiting ≡ w.last + held_up w.waiting → AreLeft script k lines w b p first → AreLeft script k lines v b p first
left-same script k lines w v block.Outside p first e h = tt
left-same script k lines w v block.Failed p first e h = tt
left-same script k lines w v (block.Open l) pending.Commit first e h = tt
left-same script k lines w v (block.Open l) pending.Nothing first e h = λ c one. ap (λ i. nth_command k (first + 1) (i + c) script.lines) e ∙ h c one
left-same script k lines w v (block.Open l) pending.Command first e h = λ c one. ap (λ i. nth_command k (first + 1) (i + c) script.lines) e ∙ h c one

same-sum : (w v : Work) → v.last ≡ w.last → v.waiting ≡ w.waiting → v.last + held_up v.waiting ≡ w.last + held_up w.waiting
same-sum w v e f = ap (λ i. i + held_up v.waiting) e ∙ ap (λ o. w.last + held_up o) f

pub roots-on : (script : Script) (k : SessionId) (ms ns : List Mark) (b : Block) (p : Pending) (lines : ℕ) (g : Gxid) (w v : Work) → Roots script k ms b p lines g w → v.last ≡ w.last → v.waiting ≡ w.waiting → ((first : ℕ) → IsNow script k w p first → IsNow script k v p first) → Roots script k (ms ++ ns) b p lines g v
roots-on script k ms ns b p lines g w v r last waits now =
    record { first = r.first; began = began-kept [] ms ns g (k, r.first) r.began; opening = r.opening; left = λ n. left-same script k lines w v b p r.first (same-sum w v last waits) (r.left n); now = λ n. now r.first (r.now n) }

pub roots-answered : (script : Script) (k : SessionId) (ms ns : List Mark) (l : Level) (lines : ℕ) (g : Gxid) (w v : Work) → Roots script k ms (block.Open l) pending.Command lines g w → v.last ≡ w.last → v.waiting ≡ w.waiting → Roots script k (ms ++ ns) (block.Open l) pending.Nothing lines g v
roots-answered script k ms ns l lines g w v r last waits =
    record { first = r.first; began = began-kept [] ms ns g (k, r.first) r.began; opening = r.opening; left = λ n c one. ap (λ i. nth_command k (r.first + 1) (i + c) script.lines) (same-sum w v last waits) ∙ r.left n c one; now = λ n. tt }

-- THE LEVEL
level-rows : (line : Stmt) → is_on_rows line ≡ true → level_by (Some line) ≡ ReadCommitted
level-rows (stmt.Select q) e = refl
level-rows (stmt.Insert t x) e = refl
level-rows (stmt.Update t x y) e = refl
level-rows (stmt.Delete t x) e = refl
level-rows (stmt.Begin level) e = absurd (cc)
level-rows stmt.Commit e = refl
level-rows stmt.Rollback e = refl
level-rows (stmt.Lock t m) e = refl

pub roots-level : (script : Script) (k : SessionId) (ms : List Mark) (b : Block) (lines : ℕ) (g : Gxid) (w : Work) (line : Stmt) (n : ℕ) → Roots script k ms b pending.Command lines g w → stmt_of k lines script.lines ≡ Some line → is_command (state_in b n) line ≡ true → level_in b ≡ level_of_began script (began_from [] ms g)
roots-level script k ms block.Outside lines g w line n r is cmd =
    sym (ap (level_of_began script) r.began ∙ ap (λ i. level_by (stmt_of k i script.lines)) r.opening ∙ ap level_by is ∙ level-rows line cmd)
roots-level script k ms (block.Open l) lines g w line n r is cmd = sym (ap (level_of_began script) r.began ∙ ap level_by r.opening)
roots-level script k ms block.Failed lines g w line n r is cmd = absurd (cc)
