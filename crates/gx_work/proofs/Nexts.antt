-- One more account, word and batch.
use Rattle.std.proofs.Common.{◌≡◌, ◌∙◌, ◌<◌, ◌≤◌, ℕ, ◌+◌, ◌-◌, ◌%◌, zero, suc, List, [], ◌∷◌, ◌++◌, length, take, drop, refl, sym, ap, arith, append_assoc, append-nil, codes}
use Rattle.rand_core.specs.Steps.{first_words}
use Rattle.rand_xoshiro.specs.Xoshiro256.{plus_plus}
use Rattle.gx_work.specs.Text.{head_text, load_text, pair_text, pairs_from, batch_text, batches_text, seeded, transfers_from, words_of, work_text}
use Rattle.gx_work.specs.declared.transfer.Transfer.{Transfer}
use Rattle.std.specs.Prelude.{slice_index}

pub pairs-suc : (at more : ℕ) → pairs_from at (suc more) ≡ codes ", " ++ pair_text (at + 1) ++ pairs_from (at + 1) more
unfolding pairs_from
pairs-suc at more = refl

pub pairs-none : (at : ℕ) → pairs_from at 0 ≡ []
unfolding pairs_from
pairs-none at = refl

pub pairs-start : (at count : ℕ) (old : List ℕ) → old ++ pairs_from at (count - 0) ≡ old ++ pairs_from at count
pairs-start at count old = ap (λ (n : ℕ). old ++ pairs_from at n) (omega arith)

pub pairs-next : (at count : ℕ) (old new all : List ℕ) → at < count → new ≡ (old ++ codes ", ") ++ pair_text (at + 1)
    → old ++ pairs_from at (count - at) ≡ all → new ++ pairs_from (at + 1) (count - (at + 1)) ≡ all
pairs-next at count old new all inside added before =
    ap (λ (t : List ℕ). t ++ rest) added
    ∙ append_assoc (old ++ codes ", ") (pair_text (at + 1)) rest
    ∙ append_assoc old (codes ", ") (pair_text (at + 1) ++ rest)
    ∙ ap (λ (t : List ℕ). old ++ t)
    (sym (append_assoc (codes ", ") (pair_text (at + 1)) rest) ∙ sym (pairs-suc at (count - (at + 1))) ∙ ap (pairs_from at) fewer)
    ∙ before
  where
    rest : List ℕ
    rest = pairs_from (at + 1) (count - (at + 1))

    fewer : suc (count - (at + 1)) ≡ count - at
    fewer = omega arith

pub pairs-end : (at count : ℕ) (old all : List ℕ) → count ≤ at → old ++ pairs_from at (count - at) ≡ all → old ≡ all
pairs-end at count old all past before = sym (append-nil old) ∙ ap (λ (t : List ℕ). old ++ t) (sym (pairs-none at) ∙ ap (pairs_from at) none) ∙ before
  where
    none : 0 ≡ count - at
    none = omega arith

module _ (step : List ℕ → ℕ × List ℕ) where
  words-suc : (more : ℕ) (s : List ℕ) → first_words step (suc more) s ≡ (step s).0 ∷ first_words step more (step s).1
  unfolding first_words
  words-suc more s = refl

  words-none : (s : List ℕ) → first_words step 0 s ≡ []
  unfolding first_words
  words-none s = refl

  pub length-words : (count : ℕ) (s : List ℕ) → length (first_words step count s) ≡ count
  length-words zero s = ap length (words-none s)
  length-words (suc count) s = ap length (words-suc count s) ∙ ap suc (length-words count (step s).1)

  pub words-start : (count : ℕ) (s old : List ℕ) → old ≡ [] → old ++ first_words step (count - 0) s ≡ first_words step count s
  words-start count s old none = ap (λ (l : List ℕ). l ++ first_words step (count - 0) s) none ∙ ap (λ (n : ℕ). first_words step n s) (omega arith)

  pub words-next : (at count word : ℕ) (s t old new all : List ℕ) → at < count → (word, t) ≡ step s → new ≡ old ++ word ∷ []
      → old ++ first_words step (count - at) s ≡ all → new ++ first_words step (count - (at + 1)) t ≡ all
  words-next at count word s t old new all inside drawn added before =
      ap (λ (l : List ℕ). l ++ first_words step (count - (at + 1)) t) added
      ∙ append_assoc old (word ∷ []) (first_words step (count - (at + 1)) t)
      ∙ ap (λ (p : ℕ × List ℕ). old ++ (p.0 ∷ first_words step (count - (at + 1)) p.1)) drawn
      ∙ ap (λ (l : List ℕ). old ++ l) (sym (words-suc (count - (at + 1)) s) ∙ ap (λ (n : ℕ). first_words step n s) fewer)
      ∙ before
    where
      fewer : suc (count - (at + 1)) ≡ count - at
      fewer = omega arith

  pub words-end : (at count : ℕ) (s old all : List ℕ) → count ≤ at → old ++ first_words step (count - at) s ≡ all → old ≡ all
  words-end at count s old all past before = sym (append-nil old)
      ∙ ap (λ (l : List ℕ). old ++ l) (sym (words-none s) ∙ ap (λ (n : ℕ). first_words step n s) none) ∙ before
    where
      none : 0 ≡ count - at
      none = omega arith

pub length-words_of : (number : ℕ) → length (words_of number) ≡ 2400
unfolding words_of
length-words_of number = length-words plus_plus 2400 (seeded number)

pub batches-suc : (more : ℕ) (words : List ℕ) → batches_text (suc more) words ≡ batch_text (take 24 words) ++ batches_text more (drop 24 words)
unfolding batches_text
batches-suc more words = refl

pub batches-none : (words : List ℕ) → batches_text 0 words ≡ []
unfolding batches_text
batches-none words = refl

pub batches-start : (count : ℕ) (words old : List ℕ) → old ++ batches_text (count - 0) words ≡ old ++ batches_text count words
batches-start count words old = ap (λ (n : ℕ). old ++ batches_text n words) (omega arith)

pub batches-next : (at count : ℕ) (words left old new all : List ℕ) → at < count → left ≡ drop 24 words → new ≡ old ++ batch_text (take 24 words)
    → old ++ batches_text (count - at) words ≡ all
    → new ++ batches_text (count - (at + 1)) left ≡ all
batches-next at count words left old new all inside back added before =
    ap (λ (t : List ℕ). t ++ batches_text more left) added
    ∙ append_assoc old (batch_text (take 24 words)) (batches_text more left)
    ∙ ap (λ (l : List ℕ). old ++ (batch_text (take 24 words) ++ batches_text more l)) back
    ∙ ap (λ (t : List ℕ). old ++ t) (sym (batches-suc more words) ∙ ap (λ (n : ℕ). batches_text n words) fewer)
    ∙ before
  where
    more : ℕ
    more = count - (at + 1)

    fewer : suc (count - (at + 1)) ≡ count - at
    fewer = omega arith

pub batches-end : (at count : ℕ) (words old all : List ℕ) → count ≤ at → old ++ batches_text (count - at) words ≡ all → old ≡ all
batches-end at count words old all past before = sym (append-nil old)
    ∙ ap (λ (t : List ℕ). old ++ t) (sym (batches-none words) ∙ ap (λ (n : ℕ). batches_text n words) none) ∙ before
  where
    none : 0 ≡ count - at
    none = omega arith

-- ---- a session more

pub transfers-next : (session : ℕ) (words : List ℕ) (old mid new : List Transfer) → 3 ≤ length words
    → mid ≡ old
    ++ record { session = session; from = slice_index words 0 % 64; to = slice_index words 1 % 64; amount = 1 + slice_index words 2 % 9 } ∷ []
    → new ≡ mid ++ transfers_from (session + 1) (drop 3 words) → new ≡ old ++ transfers_from session words
transfers-next session [] old mid new low added more = absurd (omega arith)
transfers-next session (a ∷ []) old mid new low added more = absurd (omega arith)
transfers-next session (a ∷ b ∷ []) old mid new low added more = absurd (omega arith)
transfers-next session (a ∷ b ∷ d ∷ words) old mid new low added more = more
    ∙ ap (λ (l : List Transfer). l ++ transfers_from (session + 1) words) added ∙ append_assoc old _ (transfers_from (session + 1) words)

-- ---- the whole

pub length-drawn : (ws items : List ℕ) (number : ℕ) → ws ≡ items → items ≡ words_of number → length ws ≡ 2400
length-drawn ws items number same is = ap length (same ∙ is) ∙ length-words_of number

pub whole : (number : ℕ) (first second third ws items : List ℕ) → first ≡ [] → second ≡ first ++ head_text → third ≡ second ++ batches_text 100 ws
    → ws ≡ items → items ≡ words_of number → third ≡ work_text number
whole number first second third ws items empty head batches same is =
    batches
    ∙ ap (λ (l : List ℕ). second ++ batches_text 100 l) (same ∙ is)
    ∙ ap (λ (l : List ℕ). l ++ batches_text 100 (words_of number)) (head ∙ ap (λ (l : List ℕ). l ++ head_text) empty)

pub headed : (old mid new : List ℕ)
    → mid ≡ old ++ codes "segments 4\ntable acct (id bigint, bal bigint) distributed by (id)\nload: INSERT INTO acct VALUES "
    → new ≡ mid ++ load_text → new ≡ old ++ head_text
headed old mid new first second = second ∙ ap (λ (l : List ℕ). l ++ load_text) first ∙ append_assoc old _ load_text
