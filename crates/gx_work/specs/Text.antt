-- The script that is generated from a number: 64 accounts of 100 each, and transfers between them by eight sessions at a time.
use Rattle.std.specs.Prelude.{ℕ, ◌+◌, ◌%◌, zero, suc, List, [], ◌∷◌, ◌++◌, take, drop, codes}
use Rattle.std.specs.List.{flat_map}
use Rattle.std.specs.Fmt.{decimal}
use Rattle.rand_core.specs.Steps.{first_words}
use Rattle.rand_xoshiro.specs.SplitMix64.{splitmix_seed}
use Rattle.rand_xoshiro.specs.Xoshiro256.{of_seed, plus_plus}
use Rattle.gx_work.specs.declared.transfer.Transfer.{Transfer}

-- the generator's state of a number
unfoldable pub seeded : ℕ → List ℕ
seeded number = of_seed (splitmix_seed 32 number)

-- the words that are drawn: three for each of eight sessions, in each of a hundred batches
unfoldable pub words_of : ℕ → List ℕ
words_of number = first_words plus_plus 2400 (seeded number)

-- the transfers of the sessions from this one on: three words each
abbrev pub transfers_from : ℕ → List ℕ → List Transfer
transfers_from session (from ∷ to ∷ amount ∷ words) =
    record { session = session; from = from % 64; to = to % 64; amount = 1 + amount % 9 } ∷ transfers_from (session + 1) words
transfers_from session _ = []

-- an account with what it has
abbrev pub pair_text : ℕ → List ℕ
pair_text account = codes "(" ++ decimal account ++ codes ", 100)"

-- the accounts behind this one, so many of them
unfoldable pub pairs_from : ℕ → ℕ → List ℕ
pairs_from account zero = []
pairs_from account (suc more) = codes ", " ++ pair_text (account + 1) ++ pairs_from (account + 1) more

abbrev pub load_text : List ℕ
load_text = pair_text 0 ++ pairs_from 0 63 ++ codes "\n"

-- the heads, and the line that loads the accounts
abbrev pub head_text : List ℕ
head_text = codes "segments 4\ntable acct (id bigint, bal bigint) distributed by (id)\nload: INSERT INTO acct VALUES " ++ load_text

-- how a line of a session begins
abbrev pub session_text : ℕ → List ℕ
session_text session = codes "s" ++ decimal session ++ codes ": "

abbrev pub opening_text : ℕ → List ℕ
opening_text session = session_text session ++ codes "UPDATE acct SET bal = bal "

abbrev pub amount_text : ℕ → List ℕ
amount_text amount = decimal amount ++ codes " WHERE id = "

abbrev pub account_text : ℕ → List ℕ
account_text account = decimal account ++ codes "\n"

abbrev pub update_text : ℕ → List ℕ → ℕ → ℕ → List ℕ
update_text session sign amount account = opening_text session ++ sign ++ amount_text amount ++ account_text account

abbrev pub begin_line : Transfer → List ℕ
begin_line t = session_text t.session ++ codes "BEGIN ISOLATION LEVEL REPEATABLE READ\n"

abbrev pub take_line : Transfer → List ℕ
take_line t = update_text t.session (codes "- ") t.amount t.from

abbrev pub give_line : Transfer → List ℕ
give_line t = update_text t.session (codes "+ ") t.amount t.to

abbrev pub commit_line : Transfer → List ℕ
commit_line t = session_text t.session ++ codes "COMMIT\n"

-- four passes over the sessions
abbrev pub passes_text : List Transfer → List ℕ
passes_text ts = flat_map begin_line ts ++ flat_map take_line ts ++ flat_map give_line ts ++ flat_map commit_line ts

abbrev pub batch_text : List ℕ → List ℕ
batch_text words = passes_text (transfers_from 1 words)

-- so many batches of 24 words
unfoldable pub batches_text : ℕ → List ℕ → List ℕ
batches_text zero words = []
batches_text (suc more) words = batch_text (take 24 words) ++ batches_text more (drop 24 words)

-- the whole script
abbrev pub work_text : ℕ → List ℕ
work_text number = head_text ++ batches_text 100 (words_of number)
