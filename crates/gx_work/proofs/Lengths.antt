-- How long a generated script is.
use Rattle.std.proofs.Common.{◌≡◌, ◌∙◌, ◌<◌, ◌≤◌, ℕ, ◌+◌, ◌*◌, zero, suc, List, [], ◌∷◌, ◌++◌, length, take, drop, refl, sym, ap, subst, arith, codes}
use Rattle.std.specs.Fmt.{decimal}
use Rattle.std.specs.List.{flat_map, AllByRecursion}
use Rattle.std.proofs.lemmas.Fmt.{length-decimal-le}
use Rattle.std.proofs.lemmas.List.{length-append, length-take}
use Rattle.gx_work.specs.Text.{account_text, amount_text, batch_text, batches_text, begin_line, commit_line, give_line, head_text, load_text, opening_text, pair_text, pairs_from, passes_text, session_text, take_line, transfers_from, update_text, words_of, work_text}
use Rattle.gx_work.specs.declared.transfer.Transfer.{Transfer}
use Rattle.gx_work.proofs.Nexts.{batches-none, batches-suc, pairs-none, pairs-suc}

-- ---- numbers, and the texts of lines

digit : (n : ℕ) → n < 10 → length (decimal n) ≤ 1
digit n small = length-decimal-le 1 n (omega arith) small (omega (arith, small))

digits : (n : ℕ) → n < 100 → length (decimal n) ≤ 2
digits n small = length-decimal-le 2 n (omega arith) small (omega (arith, small))

-- its numbers are those of eight sessions, 64 accounts and amounts to 9
record IsSmall (t : Transfer) : Type 0 where
  pub session : t.session < 10
  pub from : t.from < 100
  pub to : t.to < 100
  pub amount : t.amount < 10

session-short : (n : ℕ) → n < 10 → length (session_text n) ≤ 4
session-short n small =
    let d = digit n small in
    let whole = length-append (codes "s") (decimal n ++ codes ": ") in
    let behind = length-append (decimal n) (codes ": ") in
    omega (arith, d, whole, behind)

opening-short : (session : ℕ) → session < 10 → length (opening_text session) ≤ 30
opening-short session small =
    let first = session-short session small in
    let whole = length-append (session_text session) (codes "UPDATE acct SET bal = bal ") in
    omega (arith, first, whole)

amount-short : (amount : ℕ) → amount < 10 → length (amount_text amount) ≤ 13
amount-short amount small =
    let d = digit amount small in
    let whole = length-append (decimal amount) (codes " WHERE id = ") in
    omega (arith, d, whole)

account-short : (account : ℕ) → account < 100 → length (account_text account) ≤ 3
account-short account small =
    let d = digits account small in
    let whole = length-append (decimal account) (codes "\n") in
    omega (arith, d, whole)

length-four : (a b c d : List ℕ) → length (a ++ b ++ c ++ d) ≡ length a + length b + length c + length d
length-four a b c d =
    length-append (a ++ b ++ c) d
    ∙ ap (λ (n : ℕ). n + length d) (length-append (a ++ b) c ∙ ap (λ (n : ℕ). n + length c) (length-append a b))

update-short : (session : ℕ) (sign : List ℕ) (amount account : ℕ) → session < 10 → amount < 10 → account < 100 → length sign ≡ 2 → length (update_text session sign amount account) ≤ 48
update-short session sign amount account s a b two =
    subst (λ (n : ℕ). n ≤ 48) (sym (length-four (opening_text session) sign (amount_text amount) (account_text account)))
    (sum (length (opening_text session)) (length sign) (length (amount_text amount)) (length (account_text account)) (opening-short session s) two (amount-short amount a) (account-short account b))
  where
    sum : (w x y z : ℕ) → w ≤ 30 → x ≡ 2 → y ≤ 13 → z ≤ 3 → w + x + y + z ≤ 48
    sum w x y z a b c d = omega (arith, a, b, c, d)

begin-short : (t : Transfer) → IsSmall t → length (begin_line t) ≤ 48
begin-short t is =
    let first = session-short t.session is.session in
    let whole = length-append (session_text t.session) (codes "BEGIN ISOLATION LEVEL REPEATABLE READ\n") in
    omega (arith, first, whole)

take-short : (t : Transfer) → IsSmall t → length (take_line t) ≤ 48
take-short t is = update-short t.session (codes "- ") t.amount t.from is.session is.amount is.from refl

give-short : (t : Transfer) → IsSmall t → length (give_line t) ≤ 48
give-short t is = update-short t.session (codes "+ ") t.amount t.to is.session is.amount is.to refl

commit-short : (t : Transfer) → IsSmall t → length (commit_line t) ≤ 48
commit-short t is =
    let first = session-short t.session is.session in
    let whole = length-append (session_text t.session) (codes "COMMIT\n") in
    omega (arith, first, whole)

-- ---- batches

lines-short : (line : Transfer → List ℕ) → ((t : Transfer) → IsSmall t → length (line t) ≤ 48) → (ts : List Transfer) → AllByRecursion IsSmall ts → length (flat_map line ts) ≤ length ts * 48
lines-short line short [] all = omega arith
lines-short line short (t ∷ ts) all =
    let first = short t all.0 in
    let rest = lines-short line short ts all.1 in
    let whole = length-append (line t) (flat_map line ts) in
    omega (arith, first, rest, whole)

passes-short : (ts : List Transfer) → AllByRecursion IsSmall ts → length (passes_text ts) ≤ length ts * 192
passes-short ts all =
    let a = lines-short begin_line begin-short ts all in
    let b = lines-short take_line take-short ts all in
    let c = lines-short give_line give-short ts all in
    let d = lines-short commit_line commit-short ts all in
    let whole = length-four (flat_map begin_line ts) (flat_map take_line ts) (flat_map give_line ts) (flat_map commit_line ts) in
    omega (arith, a, b, c, d, whole)

-- 24 words give eight transfers at most
transfers-small : (session : ℕ) (words : List ℕ) → session * 3 + length words ≤ 29 → AllByRecursion IsSmall (transfers_from session words) × (length (transfers_from session words) * 3 ≤ length words)
transfers-small session [] few = (tt, omega arith)
transfers-small session (a ∷ []) few = (tt, omega arith)
transfers-small session (a ∷ b ∷ []) few = (tt, omega arith)
transfers-small session (a ∷ b ∷ d ∷ words) few =
    let rest = transfers-small (session + 1) words (omega (arith, few)) in
    let short = rest.1 in
    ((record { session = omega (arith, few); from = grind arith; to = grind arith; amount = grind arith }, rest.0), omega (arith, short))

batch-short : (words : List ℕ) → length (batch_text (take 24 words)) ≤ 1536
batch-short words =
    let long = length-take 24 words in
    let is = transfers-small 1 (take 24 words) (grind (arith, long)) in
    let few = is.1 in
    let short = passes-short (transfers_from 1 (take 24 words)) is.0 in
    grind (arith, long, few, short)

batches-short : (count : ℕ) (words : List ℕ) → length (batches_text count words) ≤ count * 1536
batches-short zero words = subst (λ (t : List ℕ). length t ≤ 0) (sym (batches-none words)) (omega arith)
batches-short (suc more) words =
    let first = batch-short words in
    let rest = batches-short more (drop 24 words) in
    let whole = ap length (batches-suc more words) ∙ length-append (batch_text (take 24 words)) (batches_text more (drop 24 words)) in
    omega (arith, first, rest, whole)

-- ---- the head

pair-short : (account : ℕ) → account < 100 → length (pair_text account) ≤ 9
pair-short account small =
    let d = digits account small in
    let front = length-append (codes "(") (decimal account) in
    let whole = length-append (codes "(" ++ decimal account) (codes ", 100)") in
    omega (arith, d, front, whole)

pairs-short : (count account : ℕ) → account + count < 100 → length (pairs_from account count) ≤ count * 11
pairs-short zero account small = subst (λ (t : List ℕ). length t ≤ 0) (sym (pairs-none account)) (omega arith)
pairs-short (suc more) account small =
    let first = pair-short (account + 1) (omega (arith, small)) in
    let rest = pairs-short more (account + 1) (omega (arith, small)) in
    let front = length-append (codes ", ") (pair_text (account + 1)) in
    let whole = ap length (pairs-suc account more) ∙ length-append (codes ", " ++ pair_text (account + 1)) (pairs_from (account + 1) more) in
    omega (arith, first, rest, front, whole)

load-short : length load_text ≤ 703
load-short =
    let first = pair-short 0 (omega arith) in
    let rest = pairs-short 63 0 (omega arith) in
    let front = length-append (pair_text 0) (pairs_from 0 63) in
    let whole = length-append (pair_text 0 ++ pairs_from 0 63) (codes "\n") in
    omega (arith, first, rest, front, whole)

head-short : length head_text ≤ 1000
head-short =
    let load = load-short in
    let whole = length-append (codes "segments 4\ntable acct (id bigint, bal bigint) distributed by (id)\nload: INSERT INTO acct VALUES ") load_text in
    omega (arith, load, whole)

-- ---- the whole

work-short : (number : ℕ) → length (work_text number) ≤ 160000
work-short number =
    let first = head-short in
    let rest = batches-short 100 (words_of number) in
    let whole = length-append head_text (batches_text 100 (words_of number)) in
    omega (arith, first, rest, whole)

pub text-short : (number : ℕ) (text : List ℕ) → text ≡ work_text number → length text ≤ 160000
text-short number text is = subst (λ (t : List ℕ). length t ≤ 160000) (sym is) (work-short number)
