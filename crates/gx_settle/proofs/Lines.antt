-- The first line of bytes.
use Rattle.std.proofs.Common.{◌≡◌, ℕ, ◌+◌, ◌==◌, Bool, true, false, not, cond, List, [], ◌∷◌, suc, sym, ◌∙◌, ap, take, drop, arith}
use Rattle.std.specs.List.{prefix_len}
use Rattle.gx_settle.specs.Commands.{is_within, lines_of, with_byte}

-- how long the first line is, and which lines there are, of bytes that begin with this one
abbrev len : List ℕ → Bool → ℕ
len cs feed = cond (not feed) (1 + prefix_len is_within cs) 0

abbrev lines : ℕ → List ℕ → Bool → List (List ℕ)
lines c cs feed = cond feed ([] ∷ lines_of cs) (with_byte c (lines_of cs))

one-more : (n : ℕ) → 1 + n ≡ suc n
one-more n = grind arith

drop-next : (n c : ℕ) (cs : List ℕ) → drop (1 + n) (c ∷ cs) ≡ drop n cs
drop-next n c cs = ap (λ (k : ℕ). drop k (c ∷ cs)) (one-more n)

take-next : (n c : ℕ) (cs : List ℕ) → c ∷ take n cs ≡ take (1 + n) (c ∷ cs)
take-next n c cs = ap (λ (k : ℕ). take k (c ∷ cs)) (sym (one-more n))

-- a line that has its line feed
pub lines_of-first : (bytes : List ℕ) (b : ℕ) (more : List ℕ) → drop (prefix_len is_within bytes) bytes ≡ b ∷ more → lines_of bytes ≡ take (prefix_len is_within bytes) bytes ∷ lines_of more
lines_of-first [] b more e = absurd (cc)
lines_of-first (c ∷ cs) b more e = at (c == 10) (lines_of-first cs b more) e
  where
    at : (feed : Bool) → (drop (prefix_len is_within cs) cs ≡ b ∷ more → lines_of cs ≡ take (prefix_len is_within cs) cs ∷ lines_of more)
        → drop (len cs feed) (c ∷ cs) ≡ b ∷ more → lines c cs feed ≡ take (len cs feed) (c ∷ cs) ∷ lines_of more
    at true rec e =
        let same : cs ≡ more = cc in
        ap (λ (t : List ℕ). [] ∷ lines_of t) same
    at false rec e = ap (with_byte c) (rec (sym (drop-next (prefix_len is_within cs) c cs) ∙ e)) ∙ ap (λ (t : List ℕ). t ∷ lines_of more) (take-next (prefix_len is_within cs) c cs)

-- the last line, which lacks it
pub lines_of-last : (c : ℕ) (cs : List ℕ) → drop (prefix_len is_within (c ∷ cs)) (c ∷ cs) ≡ [] → lines_of (c ∷ cs) ≡ take (prefix_len is_within (c ∷ cs)) (c ∷ cs) ∷ []
lines_of-last c [] e = at (c == 10) e
  where
    at : (feed : Bool) → drop (len [] feed) (c ∷ []) ≡ [] → lines c [] feed ≡ take (len [] feed) (c ∷ []) ∷ []
    at true e = absurd (cc)
    at false e = ap (λ (t : List ℕ). t ∷ []) (take-next 0 c [])
lines_of-last c (d ∷ ds) e = at (c == 10) (lines_of-last d ds) e
  where
    at : (feed : Bool) → (drop (prefix_len is_within (d ∷ ds)) (d ∷ ds) ≡ [] → lines_of (d ∷ ds) ≡ take (prefix_len is_within (d ∷ ds)) (d ∷ ds) ∷ [])
        → drop (len (d ∷ ds) feed) (c ∷ d ∷ ds) ≡ [] → lines c (d ∷ ds) feed ≡ take (len (d ∷ ds) feed) (c ∷ d ∷ ds) ∷ []
    at true rec e = absurd (cc)
    at false rec e = ap (with_byte c) (rec (sym (drop-next (prefix_len is_within (d ∷ ds)) c (d ∷ ds)) ∙ e)) ∙ ap (λ (t : List ℕ). t ∷ []) (take-next (prefix_len is_within (d ∷ ds)) c (d ∷ ds))
