-- Batches of transfers, pass by pass.
use Rattle.std.proofs.Common.{◌≡◌, ℕ, zero, suc, ◌+◌, ◌*◌, ◌-◌, ◌<◌, ◌≤◌, nat_le, Bool, true, false, List, [], ◌∷◌, ◌++◌, length, take, drop, refl, sym, ◌∙◌, ap, append_assoc, append-nil, arith, codes}
use Rattle.std.specs.Fmt.{decimal}
use Rattle.std.specs.List.{flat_map}
use Rattle.std.proofs.lemmas.Fmt.{decimal_digit}
use Rattle.std.proofs.lemmas.List.{length-append, length-map, length-take, length-drop}
use Rattle.gx_tree.specs.declared.stmt.Stmt.{Stmt}
use Rattle.gx_grammar.specs.declared.syn.Op.TheVariants as op
use Rattle.gx_script.specs.declared.Line.{Line}
use Rattle.gx_sql.specs.Progress.{count_of, counted, next_line}
use Rattle.gx_sql.specs.Script.{the_limits}
use Rattle.gx_print.specs.OneLine.{line_of}
use Rattle.gx_print.specs.Reading.{IsNamed}
use Rattle.gx_print.specs.Reprinting.{ReadsAs}
use Rattle.gx_work.specs.declared.transfer.Transfer.{Transfer}
use Rattle.gx_work.specs.Text.{account_text, amount_text, batches_text, begin_line, commit_line, give_line, passes_text, session_text, take_line, transfers_from, update_text}
use Rattle.gx_work.proofs.Nexts.{batches-none, batches-suc}
use Rattle.gx_work.specs.Work.{batch_lines, batches_lines, ending, giving, line_in, opening, pass_lines, taking}
use Rattle.gx_work.proofs.Bytes.{IsPlain, is_plain, decimal_plain, plain, plain_also}
use Rattle.gx_work.proofs.Leading.{Leads, at, join, leads_as, nowhere, session_line}
use Rattle.gx_work.proofs.Statements.{Tables, begin_read, change_text, commit_read, give_read, take_read}

-- SESSIONS
abbrev name_of : ℕ → List ℕ
name_of session = 115 ∷ (48 + session) ∷ []

abbrev entries : ℕ → ℕ → ℕ → List (List ℕ × ℕ)
entries session zero number = []
entries session (suc more) number = (name_of session, number) ∷ entries (session + 1) more number

-- the sessions from this one on, each with so many lines; none where these have no line yet
abbrev before_pass : ℕ → ℕ → ℕ → List (List ℕ × ℕ)
before_pass session more zero = []
before_pass session more (suc number) = entries session more (suc number)

-- in the pass behind so many lines of each session, once the line of so many is there
abbrev pub part : ℕ → ℕ → List (List ℕ × ℕ)
part sessions before = (codes "load", 1) ∷ (entries 1 sessions (before + 1) ++ before_pass (sessions + 1) (8 - sessions) before)

-- what the next session's line does, and that it is no further session than there may be
abbrev After : ℕ → ℕ → Stmt → List (List ℕ × ℕ) × (Line × Bool)
After i k x = (counted (name_of (i + 1)) (count_of (name_of (i + 1)) (part i k) + 1) (part i k), (next_line (name_of (i + 1)) (part i k) x, nat_le 64 (length (part i k))))

abbrev IsNext : ℕ → ℕ → Stmt → Type 0
IsNext i k x = After i k x ≡ (part (i + 1) k, (line_in (i + 1) (k + 1) x, false))

-- one of eight numbers
eight : (P : ℕ → Type 0) → P 0 → P 1 → P 2 → P 3 → P 4 → P 5 → P 6 → P 7 → (i : ℕ) → i < 8 → P i
eight P a b c d e f g h zero l = a
eight P a b c d e f g h (suc zero) l = b
eight P a b c d e f g h (suc (suc zero)) l = c
eight P a b c d e f g h (suc (suc (suc zero))) l = d
eight P a b c d e f g h (suc (suc (suc (suc zero)))) l = e
eight P a b c d e f g h (suc (suc (suc (suc (suc zero))))) l = f
eight P a b c d e f g h (suc (suc (suc (suc (suc (suc zero)))))) l = g
eight P a b c d e f g h (suc (suc (suc (suc (suc (suc (suc zero))))))) l = h
eight P a b c d e f g h (suc (suc (suc (suc (suc (suc (suc (suc i)))))))) l = absurd (omega (arith, l))

next : (k i : ℕ) (x : Stmt) → i < 8 → IsNext i k x
next zero i x l = eight (λ i. IsNext i 0 x) refl refl refl refl refl refl refl refl i l
next (suc k) i x l = eight (λ i. IsNext i (suc k) x) refl refl refl refl refl refl refl refl i l

named : (i : ℕ) → i < 8 → IsNamed the_limits (name_of (i + 1))
named = eight (λ i. IsNamed the_limits (name_of (i + 1)))
    (((refl, (refl, tt)), refl), omega arith) (((refl, (refl, tt)), refl), omega arith) (((refl, (refl, tt)), refl), omega arith) (((refl, (refl, tt)), refl), omega arith)
    (((refl, (refl, tt)), refl), omega arith) (((refl, (refl, tt)), refl), omega arith) (((refl, (refl, tt)), refl), omega arith) (((refl, (refl, tt)), refl), omega arith)

-- behind a pass
round : (k : ℕ) → part 8 k ≡ part 0 (k + 1)
round zero = refl
round (suc k) =
    let same : suc k + 1 ≡ suc (suc k) = omega arith in
    ap (λ (n : ℕ). (codes "load", 1) ∷ entries 1 8 n) same ∙ ap (λ (n : ℕ). part 0 n) (sym same)

-- KINDS OF LINES
record IsSmall (t : Transfer) : Type 0 where
  pub from : t.from < 64
  pub to : t.to < 64
  pub amount : t.amount < 10

-- a line of a session that is read back
record IsRead (session : ℕ) (text : List ℕ) (x : Stmt) : Type 0 where
  pub body : List ℕ
  pub is : text ≡ line_of (name_of session) body ++ 10 ∷ []
  pub reads : ReadsAs Tables x body
  pub plain : IsPlain body

-- a line's text begins with its session
begun : (session : ℕ) (body text : List ℕ) → session < 10 → text ≡ body ++ 10 ∷ [] → session_text session ++ text ≡ line_of (name_of session) body ++ 10 ∷ []
begun session body text l e =
    ap (λ (t : List ℕ). (codes "s" ++ t ++ codes ": ") ++ text) (decimal_digit session l)
    ∙ ap (λ (t : List ℕ). line_of (name_of session) t) e

opening_read : (t : Transfer) → t.session < 10 → IsSmall t → IsRead t.session (begin_line t) (opening t)
opening_read t l s = record {
  body = codes "BEGIN ISOLATION LEVEL REPEATABLE READ";
  is = begun t.session (codes "BEGIN ISOLATION LEVEL REPEATABLE READ") _ l refl;
  reads = begin_read;
  plain = plain (codes "BEGIN ISOLATION LEVEL REPEATABLE READ") refl;
}

ending_read : (t : Transfer) → t.session < 10 → IsSmall t → IsRead t.session (commit_line t) (ending t)
ending_read t l s = record { body = codes "COMMIT"; is = begun t.session (codes "COMMIT") _ l refl; reads = commit_read; plain = plain (codes "COMMIT") refl }

regroup : (a w b c : List ℕ) → (a ++ w) ++ (b ++ c) ≡ (a ++ (w ++ b)) ++ c
regroup a w b c = append_assoc a w (b ++ c) ∙ ap (λ (t : List ℕ). a ++ t) (sym (append_assoc w b c)) ∙ sym (append_assoc a (w ++ b) c)

update_is : (session : ℕ) (sign : List ℕ) (amount account : ℕ) → update_text session sign amount account
    ≡ session_text session ++ (codes "UPDATE acct SET bal = bal " ++ (sign ++ ((decimal amount ++ (codes " WHERE id = " ++ decimal account)) ++ 10 ∷ [])))
update_is session sign amount account =
    append_assoc (session_text session ++ codes "UPDATE acct SET bal = bal " ++ sign) (amount_text amount) (account_text account)
    ∙ append_assoc (session_text session ++ codes "UPDATE acct SET bal = bal ") sign (amount_text amount ++ account_text account)
    ∙ append_assoc (session_text session) (codes "UPDATE acct SET bal = bal ") (sign ++ (amount_text amount ++ account_text account))
    ∙ ap (λ (t : List ℕ). session_text session ++ (codes "UPDATE acct SET bal = bal " ++ (sign ++ t))) (regroup (decimal amount) (codes " WHERE id = ") (decimal account) (10 ∷ []))

change_plain : (amount account : ℕ) → amount < 10 → account < 64 → IsPlain (decimal amount ++ (codes " WHERE id = " ++ decimal account))
change_plain amount account l m = plain_also (decimal amount) (codes " WHERE id = " ++ decimal account) (decimal_plain amount (omega (arith, l)))
    (plain_also (codes " WHERE id = ") (decimal account) (plain (codes " WHERE id = ") refl) (decimal_plain account (omega (arith, m))))

taking_read : (t : Transfer) → t.session < 10 → IsSmall t → IsRead t.session (take_line t) (taking t)
taking_read t l s = record {
  body = change_text op.Sub t.amount t.from;
  is = update_is t.session (codes "- ") t.amount t.from ∙ begun t.session (change_text op.Sub t.amount t.from) _ l refl;
  reads = take_read t.amount t.from (omega (arith, s.amount)) (omega (arith, s.from));
  plain = plain_also (codes "UPDATE acct SET bal = bal - ") _ (plain (codes "UPDATE acct SET bal = bal - ") refl) (change_plain t.amount t.from s.amount s.from);
}

giving_read : (t : Transfer) → t.session < 10 → IsSmall t → IsRead t.session (give_line t) (giving t)
giving_read t l s = record {
  body = change_text op.Add t.amount t.to;
  is = update_is t.session (codes "+ ") t.amount t.to ∙ begun t.session (change_text op.Add t.amount t.to) _ l refl;
  reads = give_read t.amount t.to (omega (arith, s.amount)) (omega (arith, s.to));
  plain = plain_also (codes "UPDATE acct SET bal = bal + ") _ (plain (codes "UPDATE acct SET bal = bal + ") refl) (change_plain t.amount t.to s.amount s.to);
}

-- the transfers of the sessions behind so many
abbrev AreFrom : ℕ → List Transfer → Type 0
AreFrom i [] = Unit {0}
AreFrom i (t ∷ ts) = (t.session ≡ i + 1) × (IsSmall t × AreFrom (i + 1) ts)

shown : (n : ℕ) → n < 10 → is_plain (48 + n) ≡ true
shown n l = grind arith

-- PASSES
module _ (text : Transfer → List ℕ) (does : Transfer → Stmt) (each : (t : Transfer) → t.session < 10 → IsSmall t → IsRead t.session (text t) (does t)) (k : ℕ) where
  one : (i : ℕ) (first : Line) (lines : List Line) (body : List ℕ) (x : Stmt) → i < 8 → ReadsAs Tables x body → IsPlain body
      → Leads 1 (line_of (name_of (i + 1)) body ++ 10 ∷ []) (at (part i k) (first ∷ lines)) (at (part (i + 1) k) (first ∷ (lines ++ line_in (i + 1) (k + 1) x ∷ [])))
  one i first lines body x l reads body_plain =
      let after = next k i x l in
      leads_as refl refl (ap (λ (a : List (List ℕ × ℕ) × (Line × Bool)). at a.0 (first ∷ (lines ++ a.1.0 ∷ []))) after)
      (session_line (part i k) first lines (name_of (i + 1)) x body (ap (λ (a : List (List ℕ × ℕ) × (Line × Bool)). a.1.1) after) (named i l) reads
      (plain_also (name_of (i + 1) ++ codes ": ") body (refl, (shown (i + 1) (omega (arith, l)), (refl, (refl, tt)))) body_plain))

  turn : (i : ℕ) (t : Transfer) (first : Line) (lines : List Line) → i < 8 → t.session ≡ i + 1 → IsSmall t
      → Leads 1 (text t) (at (part i k) (first ∷ lines)) (at (part (i + 1) k) (first ∷ (lines ++ line_in t.session (k + 1) (does t) ∷ [])))
  turn i t first lines l same small =
      let read = each t (omega (arith, l, same)) small in
      leads_as refl (ap (λ (n : ℕ). line_of (name_of n) read.body ++ 10 ∷ []) (sym same) ∙ sym read.is) (ap (λ (n : ℕ). at (part (i + 1) k) (first ∷ (lines ++ line_in n (k + 1) (does t) ∷ []))) (sym same))
      (one i first lines read.body (does t) l read.reads read.plain)

  pass : (i m : ℕ) (ts : List Transfer) (first : Line) (lines : List Line) → m ≡ i + length ts → m ≤ 8 → AreFrom i ts
      → Leads (length ts) (flat_map text ts) (at (part i k) (first ∷ lines)) (at (part m k) (first ∷ (lines ++ pass_lines (k + 1) does ts)))
  pass i m [] first lines e l all =
      leads_as refl refl (ap (λ (n : ℕ). at (part n k) (first ∷ lines)) (omega (arith, e)) ∙ ap (λ (ls : List Line). at (part m k) (first ∷ ls)) (sym (append-nil lines)))
      (nowhere (at (part i k) (first ∷ lines)))
  pass i m (t ∷ ts) first lines e l (same, (small, all)) =
      leads_as (omega arith) refl (ap (λ (ls : List Line). at (part m k) (first ∷ ls)) (append_assoc lines (line_in t.session (k + 1) (does t) ∷ []) (pass_lines (k + 1) does ts)))
      (join (turn i t first lines (omega (arith, e, l)) same small) (pass (i + 1) m ts first (lines ++ line_in t.session (k + 1) (does t) ∷ []) (omega (arith, e)) l all))

  whole_pass : (ts : List Transfer) (first : Line) (lines : List Line) → length ts ≡ 8 → AreFrom 0 ts
      → Leads 8 (flat_map text ts) (at (part 0 k) (first ∷ lines)) (at (part 0 (k + 1)) (first ∷ (lines ++ pass_lines (k + 1) does ts)))
  whole_pass ts first lines e all =
      leads_as e refl (ap (λ (ss : List (List ℕ × ℕ)). at ss (first ∷ (lines ++ pass_lines (k + 1) does ts))) (round k))
      (pass 0 8 ts first lines (omega (arith, e)) (omega arith) all)

-- BATCHES
same_end : (lines a b c d a' b' c' d' : List Line) → a ≡ a' → b ≡ b' → c ≡ c' → d ≡ d' → (((lines ++ a) ++ b) ++ c) ++ d ≡ lines ++ (((a' ++ b') ++ c') ++ d')
same_end lines a b c d a' b' c' d' e f g h =
    ap (λ (x : List Line). (((lines ++ x) ++ b) ++ c) ++ d) e ∙ ap (λ (x : List Line). (((lines ++ a') ++ x) ++ c) ++ d) f
    ∙ ap (λ (x : List Line). (((lines ++ a') ++ b') ++ x) ++ d) g ∙ ap (λ (x : List Line). (((lines ++ a') ++ b') ++ c') ++ x) h
    ∙ ap (λ (x : List Line). (x ++ c') ++ d') (append_assoc lines a' b') ∙ ap (λ (x : List Line). x ++ d') (append_assoc lines (a' ++ b') c') ∙ append_assoc lines ((a' ++ b') ++ c') d'

batch : (k : ℕ) (ts : List Transfer) (first : Line) (lines : List Line) → length ts ≡ 8 → AreFrom 0 ts
    → Leads 32 (passes_text ts) (at (part 0 k) (first ∷ lines)) (at (part 0 (k + 4)) (first ∷ (lines ++ batch_lines k ts)))
batch k ts first lines e all =
    let a = pass_lines (k + 1) opening ts in
    let b = pass_lines (k + 1 + 1) taking ts in
    let c = pass_lines (k + 1 + 1 + 1) giving ts in
    let d = pass_lines (k + 1 + 1 + 1 + 1) ending ts in
    let two : k + 1 + 1 ≡ k + 2 = omega arith in
    let three : k + 1 + 1 + 1 ≡ k + 3 = omega arith in
    let four : k + 1 + 1 + 1 + 1 ≡ k + 4 = omega arith in
    leads_as refl refl
    (ap (λ (n : ℕ). at (part 0 n) (first ∷ ((((lines ++ a) ++ b) ++ c) ++ d))) four
    ∙ ap (λ (ls : List Line). at (part 0 (k + 4)) (first ∷ ls))
    (same_end lines a b c d a (pass_lines (k + 2) taking ts) (pass_lines (k + 3) giving ts) (pass_lines (k + 4) ending ts)
    refl (ap (λ (n : ℕ). pass_lines n taking ts) two) (ap (λ (n : ℕ). pass_lines n giving ts) three) (ap (λ (n : ℕ). pass_lines n ending ts) four)))
    (join
    (join
    (join (whole_pass begin_line opening opening_read k ts first lines e all) (whole_pass take_line taking taking_read (k + 1) ts first (lines ++ a) e all))
    (whole_pass give_line giving giving_read (k + 1 + 1) ts first ((lines ++ a) ++ b) e all))
    (whole_pass commit_line ending ending_read (k + 1 + 1 + 1) ts first (((lines ++ a) ++ b) ++ c) e all))

-- the transfers of 24 words
transfers_are : (n i : ℕ) (words : List ℕ) → length words ≡ 3 * n → AreFrom i (transfers_from (i + 1) words) × (length (transfers_from (i + 1) words) ≡ n)
transfers_are zero i [] e = (tt, refl)
transfers_are zero i (a ∷ words) e = absurd (omega (arith, e))
transfers_are (suc n) i [] e = absurd (omega (arith, e))
transfers_are (suc n) i (a ∷ []) e = absurd (omega (arith, e))
transfers_are (suc n) i (a ∷ b ∷ []) e = absurd (omega (arith, e))
transfers_are (suc n) i (a ∷ b ∷ c ∷ words) e =
    let more = transfers_are n (i + 1) words (omega (arith, e)) in
    ((refl, (record { from = omega arith; to = omega arith; amount = omega arith }, more.0)), ap suc more.1)

batch_transfers : (words : List ℕ) → 24 ≤ length words → AreFrom 0 (transfers_from 1 (take 24 words)) × (length (transfers_from 1 (take 24 words)) ≡ 8)
batch_transfers words l = let taken = length-take 24 words in transfers_are 8 0 (take 24 words) (grind (arith, taken))

lines-none : (k : ℕ) (words : List ℕ) → batches_lines k 0 words ≡ []
unfolding batches_lines
lines-none k words = refl

lines-suc : (k more : ℕ) (words : List ℕ) → batches_lines k (suc more) words ≡ batch_lines k (transfers_from 1 (take 24 words)) ++ batches_lines (k + 4) more (drop 24 words)
unfolding batches_lines
lines-suc k more words = refl

pub batches : (more k : ℕ) (words : List ℕ) (first : Line) (lines : List Line) → length words ≡ 24 * more
    → Leads (32 * more) (batches_text more words) (at (part 0 k) (first ∷ lines)) (at (part 0 (k + 4 * more)) (first ∷ (lines ++ batches_lines k more words)))
batches zero k words first lines e =
    leads_as (omega arith) (sym (batches-none words))
    (ap (λ (n : ℕ). at (part 0 n) (first ∷ lines)) (omega arith) ∙ ap (λ (ls : List Line). at (part 0 (k + 4 * 0)) (first ∷ ls)) (sym (append-nil lines) ∙ ap (λ (ls : List Line). lines ++ ls) (sym (lines-none k words))))
    (nowhere (at (part 0 k) (first ∷ lines)))
batches (suc more) k words first lines e =
    let these = batch_lines k (transfers_from 1 (take 24 words)) in
    let others = batches_lines (k + 4) more (drop 24 words) in
    let eight_of = batch_transfers words (omega (arith, e)) in
    let behind = length-drop 24 words in
    let count : k + 4 + 4 * more ≡ k + 4 * suc more = omega arith in
    leads_as (omega arith) (sym (batches-suc more words))
    (ap (λ (n : ℕ). at (part 0 n) (first ∷ ((lines ++ these) ++ others))) count
    ∙ ap (λ (ls : List Line). at (part 0 (k + 4 * suc more)) (first ∷ ls)) (append_assoc lines these others ∙ ap (λ (ls : List Line). lines ++ ls) (sym (lines-suc k more words))))
    (join (batch k (transfers_from 1 (take 24 words)) first lines eight_of.1 eight_of.0) (batches more (k + 4) (drop 24 words) first (lines ++ these) (omega (arith, e, behind))))

-- HOW MANY
batch_count : (k : ℕ) (ts : List Transfer) → length ts ≡ 8 → length (batch_lines k ts) ≡ 32
batch_count k ts e =
    length-append (pass_lines (k + 1) opening ts ++ pass_lines (k + 2) taking ts ++ pass_lines (k + 3) giving ts) (pass_lines (k + 4) ending ts)
    ∙ ap (λ (n : ℕ). n + length (pass_lines (k + 4) ending ts)) (length-append (pass_lines (k + 1) opening ts ++ pass_lines (k + 2) taking ts) (pass_lines (k + 3) giving ts)
    ∙ ap (λ (n : ℕ). n + length (pass_lines (k + 3) giving ts)) (length-append (pass_lines (k + 1) opening ts) (pass_lines (k + 2) taking ts)))
    ∙ counted_all (length (pass_lines (k + 1) opening ts)) (length (pass_lines (k + 2) taking ts)) (length (pass_lines (k + 3) giving ts)) (length (pass_lines (k + 4) ending ts))
    (mapped (k + 1) opening) (mapped (k + 2) taking) (mapped (k + 3) giving) (mapped (k + 4) ending)
  where
    mapped : (n : ℕ) (does : Transfer → Stmt) → length (pass_lines n does ts) ≡ 8
    mapped n does = length-map ts (λ (t : Transfer). line_in t.session n (does t)) ∙ e

    counted_all : (a b c d : ℕ) → a ≡ 8 → b ≡ 8 → c ≡ 8 → d ≡ 8 → a + b + c + d ≡ 32
    counted_all a b c d e f g h = omega (arith, e, f, g, h)

pub batches_count : (more k : ℕ) (words : List ℕ) → length words ≡ 24 * more → length (batches_lines k more words) ≡ 32 * more
batches_count zero k words e = ap length (lines-none k words)
batches_count (suc more) k words e =
    let eight_of = batch_transfers words (omega (arith, e)) in
    let behind = length-drop 24 words in
    let one_batch = batch_count k (transfers_from 1 (take 24 words)) eight_of.1 in
    let others = batches_count more (k + 4) (drop 24 words) (omega (arith, e, behind)) in
    let whole = ap length (lines-suc k more words) ∙ length-append (batch_lines k (transfers_from 1 (take 24 words))) (batches_lines (k + 4) more (drop 24 words)) in
    omega (arith, one_batch, others, whole)
