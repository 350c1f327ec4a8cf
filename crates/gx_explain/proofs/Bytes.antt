-- The bytes behind a lexeme.
use Rattle.std.proofs.Common.{◌≡◌, ℕ, suc, ◌+◌, ◌≤◌, Bool, true, false, if◌then◌else◌, List, [], ◌∷◌, ◌++◌, length, take, drop, Some, None, arith, refl, sym, ◌∙◌, ap, subst, append_assoc, append-nil}
use Rattle.std.proofs.lemmas.List.{take-append-drop}
use Rattle.std.specs.List.{prefix_len}
use Rattle.gx_lex.specs.declared.symbol.Symbol.{Symbol}
use Rattle.gx_lex.specs.declared.symbol.Symbol.TheVariants.{Less, NotEqual, LessEqual, Greater, GreaterEqual}
use Rattle.gx_lex.specs.Symbols.{symbol_of}
use Rattle.gx_lex.specs.Lexing.{word, digits, text, sign, open_text, stray, is_blank, is_letter, is_digit, is_word_byte, is_quote, is_less, is_greater, is_equal, is_either, every, Without, doubled}
use Rattle.gx_lex.proofs.Tools.{symbol_is}
use Rattle.gx_sql.specs.Lines.{behind_blanks}
use Rattle.gx_explain.specs.Tails.{IsBehindFirst, IsTail}

none_left : (xs : List ℕ) → length xs ≡ 0 → xs ≡ []
none_left [] e = refl
none_left (x ∷ xs) e = absurd (some e)
  where
    some : length (x ∷ xs) ≡ 0 → ⊥
    some e = omega arith

pub shorter : (bytes rest others : List ℕ) (b : ℕ) → rest ≡ b ∷ others → length rest ≤ length bytes → length others ≤ length bytes
shorter bytes rest others b e l =
    let n = ap (λ (x : List ℕ). length x) e in
    let m : length (b ∷ others) ≡ suc (length others) = refl in
    omega arith

take_more : (n b : ℕ) (bs : List ℕ) → take (1 + n) (b ∷ bs) ≡ b ∷ take n bs
take_more n b bs = grind arith

drop_more : (n b : ℕ) (bs : List ℕ) → drop (1 + n) (b ∷ bs) ≡ drop n bs
drop_more n b bs = grind arith

every_first : (p : ℕ → Bool) (bs : List ℕ) → every p (take (prefix_len p bs) bs)
every_first p [] = tt
every_first p (b ∷ bs) = first (p b) refl (every_first p bs)
  where
    first : (c : Bool) → p b ≡ c → every p (take (prefix_len p bs) bs) → every p (take (if c then 1 + prefix_len p bs else 0) (b ∷ bs))
    first true e more = subst (λ (x : List ℕ). every p x) (sym (take_more (prefix_len p bs) b bs)) (e, more)
    first false e more = tt

-- the bytes behind a run of one class
abbrev pub behind_run : (ℕ → Bool) → List ℕ → List ℕ
behind_run p bs = drop (prefix_len p bs) bs

run_more : (p : ℕ → Bool) (b : ℕ) (bs : List ℕ) → p b ≡ true → behind_run p (b ∷ bs) ≡ behind_run p bs
run_more p b bs e = ap (λ (c : Bool). drop (if c then 1 + prefix_len p bs else 0) (b ∷ bs)) e ∙ drop_more (prefix_len p bs) b bs

run_end : (p : ℕ → Bool) (b : ℕ) (bs : List ℕ) → p b ≡ false → behind_run p (b ∷ bs) ≡ b ∷ bs
run_end p b bs e = ap (λ (c : Bool). drop (if c then 1 + prefix_len p bs else 0) (b ∷ bs)) e

without_behind : (p : ℕ → Bool) (bs : List ℕ) → Without p (behind_run p bs)
without_behind p [] = tt
without_behind p (b ∷ bs) = behind (p b) refl (without_behind p bs)
  where
    behind : (c : Bool) → p b ≡ c → Without p (behind_run p bs) → Without p (drop (if c then 1 + prefix_len p bs else 0) (b ∷ bs))
    behind true e more = subst (λ (x : List ℕ). Without p x) (sym (drop_more (prefix_len p bs) b bs)) more
    behind false e more = e

-- a loop over a run: what is left of the bytes has the same behind it, and is no longer than they
abbrev pub IsInRun : (ℕ → Bool) → List ℕ → List ℕ → Type 0
IsInRun p bytes rest = (behind_run p rest ≡ behind_run p bytes) × (length rest ≤ length bytes)

pub run-next : (p : ℕ → Bool) (bytes rest others : List ℕ) (b : ℕ) → rest ≡ b ∷ others → p b ≡ true → IsInRun p bytes rest → IsInRun p bytes others
run-next p bytes rest others b e is (same, within) = (
  sym (run_more p b others is) ∙ ap (behind_run p) (sym e) ∙ same,
  shorter bytes rest others b e within,
)

pub run-ends : (p : ℕ → Bool) (bytes rest others : List ℕ) (b : ℕ) → rest ≡ b ∷ others → p b ≡ false → IsInRun p bytes rest → rest ≡ behind_run p bytes
run-ends p bytes rest others b e is (same, within) = e ∙ sym (run_end p b others is) ∙ ap (behind_run p) (sym e) ∙ same

pub run-ended : (p : ℕ → Bool) (bytes rest : List ℕ) → length rest ≡ 0 → IsInRun p bytes rest → rest ≡ behind_run p bytes
run-ended p bytes rest none (same, within) = let e = none_left rest none in e ∙ ap (behind_run p) (sym e) ∙ same

parted : (n b : ℕ) (bs : List ℕ) → b ∷ bs ≡ (b ∷ take n bs) ++ drop n bs
parted n b bs = ap (λ (x : List ℕ). b ∷ x) (sym (take-append-drop n bs))

pub behind-word : (b : ℕ) (bs rest : List ℕ) → is_letter b ≡ true → rest ≡ behind_run is_word_byte bs → IsBehindFirst (b ∷ bs) rest
behind-word b bs rest e r =
    let n = prefix_len is_word_byte bs in
    subst (λ (x : List ℕ). IsBehindFirst (b ∷ bs) x) (sym r)
    (word (b ∷ take n bs), ((e, every_first is_word_byte bs), without_behind is_word_byte bs), parted n b bs)

pub behind-digits : (b : ℕ) (bs rest : List ℕ) → is_digit b ≡ true → rest ≡ behind_run is_digit bs → IsBehindFirst (b ∷ bs) rest
behind-digits b bs rest e r =
    let n = prefix_len is_digit bs in
    subst (λ (x : List ℕ). IsBehindFirst (b ∷ bs) x) (sym r)
    (digits (b ∷ take n bs), ((e, every_first is_digit bs), without_behind is_digit bs), parted n b bs)

-- what was read of a text, and what is left
abbrev pub IsWithin : List ℕ → List ℕ → Type 0
IsWithin bytes rest = (t : List ℕ) × (bytes ≡ doubled t ++ rest)

doubled-append : (s t : List ℕ) → doubled (s ++ t) ≡ doubled s ++ doubled t
doubled-append [] t = refl
doubled-append (b ∷ s) t = grind (arith, doubled-append s t)

plain : (b : ℕ) → (b ≡ 39 → ⊥) → doubled (b ∷ []) ≡ b ∷ []
plain b n = grind arith

pub within-byte : (bytes rest others : List ℕ) (b : ℕ) → IsWithin bytes rest → rest ≡ b ∷ others → (b ≡ 39 → ⊥) → IsWithin bytes others
within-byte bytes rest others b (t, e) r n =
    let plainly : (doubled t ++ b ∷ []) ++ others ≡ (doubled t ++ doubled (b ∷ [])) ++ others = ap (λ (x : List ℕ). (doubled t ++ x) ++ others) (sym (plain b n)) in
    let together = ap (λ (x : List ℕ). x ++ others) (sym (doubled-append t (b ∷ []))) in
    (t ++ b ∷ [], e ∙ ap (λ (x : List ℕ). doubled t ++ x) r ∙ sym (append_assoc (doubled t) (b ∷ []) others) ∙ plainly ∙ together)

pub within-quotes : (bytes rest others more : List ℕ) (b : ℕ) → IsWithin bytes rest → rest ≡ b ∷ others → b ≡ 39 → others ≡ 39 ∷ more → IsWithin bytes more
within-quotes bytes rest others more b (t, e) r q o =
    let here : rest ≡ 39 ∷ 39 ∷ more = r ∙ ap (λ (b : ℕ). b ∷ others) q ∙ ap (λ (x : List ℕ). 39 ∷ x) o in
    let together = ap (λ (x : List ℕ). x ++ more) (sym (doubled-append t (39 ∷ []))) in
    (t ++ 39 ∷ [], e ∙ ap (λ (x : List ℕ). doubled t ++ x) here ∙ sym (append_assoc (doubled t) (39 ∷ 39 ∷ []) more) ∙ together)

pub within-ended : (bytes rest others : List ℕ) (b : ℕ) → IsWithin bytes rest → rest ≡ b ∷ others → b ≡ 39 → Without is_quote others → IsBehindFirst (39 ∷ bytes) others
within-ended bytes rest others b (t, e) r q w =
    (text t, w, ap (λ (x : List ℕ). 39 ∷ x) (e ∙ ap (λ (x : List ℕ). doubled t ++ x) (r ∙ ap (λ (b : ℕ). b ∷ others) q) ∙ sym (append_assoc (doubled t) (39 ∷ []) others)))

pub within-open : (bytes rest : List ℕ) → IsWithin bytes rest → length rest ≡ 0 → IsBehindFirst (39 ∷ bytes) rest
within-open bytes rest (t, e) r = (open_text t, none_left rest r, ap (λ (x : List ℕ). 39 ∷ x) e)

neither : (b : ℕ) → (b ≡ 61 → ⊥) → (b ≡ 62 → ⊥) → is_either b ≡ false
neither b e f = grind arith

not_equal : (b : ℕ) → (b ≡ 61 → ⊥) → is_equal b ≡ false
not_equal b e = grind arith

-- by the byte behind the sign
pub less-alone : (bytes : List ℕ) → length bytes ≡ 0 → IsBehindFirst (60 ∷ bytes) bytes
less-alone bytes e = (sign Less, subst (λ (x : List ℕ). Without is_either x) (sym (none_left bytes e)) tt, refl)

pub less-other : (bytes rest : List ℕ) (b : ℕ) → bytes ≡ b ∷ rest → (b ≡ 61 → ⊥) → (b ≡ 62 → ⊥) → IsBehindFirst (60 ∷ bytes) bytes
less-other bytes rest b e p q = (sign Less, subst (λ (x : List ℕ). Without is_either x) (sym e) (neither b p q), refl)

pub less-equal : (bytes rest : List ℕ) (b : ℕ) → bytes ≡ b ∷ rest → b ≡ 61 → IsBehindFirst (60 ∷ bytes) rest
less-equal bytes rest b e p = (sign LessEqual, tt, ap (λ (x : List ℕ). 60 ∷ x) (e ∙ ap (λ (b : ℕ). b ∷ rest) p))

pub less-greater : (bytes rest : List ℕ) (b : ℕ) → bytes ≡ b ∷ rest → b ≡ 62 → IsBehindFirst (60 ∷ bytes) rest
less-greater bytes rest b e p = (sign NotEqual, tt, ap (λ (x : List ℕ). 60 ∷ x) (e ∙ ap (λ (b : ℕ). b ∷ rest) p))

pub greater-alone : (bytes : List ℕ) → length bytes ≡ 0 → IsBehindFirst (62 ∷ bytes) bytes
greater-alone bytes e = (sign Greater, subst (λ (x : List ℕ). Without is_equal x) (sym (none_left bytes e)) tt, refl)

pub greater-other : (bytes rest : List ℕ) (b : ℕ) → bytes ≡ b ∷ rest → (b ≡ 61 → ⊥) → IsBehindFirst (62 ∷ bytes) bytes
greater-other bytes rest b e p = (sign Greater, subst (λ (x : List ℕ). Without is_equal x) (sym e) (not_equal b p), refl)

pub greater-equal : (bytes rest : List ℕ) (b : ℕ) → bytes ≡ b ∷ rest → b ≡ 61 → IsBehindFirst (62 ∷ bytes) rest
greater-equal bytes rest b e p = (sign GreaterEqual, tt, ap (λ (x : List ℕ). 62 ∷ x) (e ∙ ap (λ (b : ℕ). b ∷ rest) p))

pub behind-lone : (b : ℕ) (rest : List ℕ) (s : Symbol) → Some s ≡ symbol_of b → IsBehindFirst (b ∷ rest) rest
behind-lone b rest s e =
    let alone = symbol_is b s (sym e) in
    (sign s, alone.1 rest, ap (λ (x : List ℕ). x ++ rest) (sym alone.0))

pub behind-stray : (b : ℕ) (bytes rest : List ℕ) → is_blank b ≡ false → is_letter b ≡ false → is_digit b ≡ false → is_quote b ≡ false
    → is_less b ≡ false → is_greater b ≡ false → None ≡ symbol_of b → rest ≡ [] → IsBehindFirst (b ∷ bytes) rest
behind-stray b bytes rest e f g h i j k r =
    (stray b bytes, ((e, f, g, h, i, j, sym k), r), sym (append-nil (b ∷ bytes)) ∙ ap (λ (x : List ℕ). (b ∷ bytes) ++ x) (sym r))

pub tail-next : (k m : ℕ) (bytes rest tail : List ℕ) → k ≡ suc m → IsBehindFirst (behind_blanks bytes) rest → IsTail m rest tail → IsTail k bytes tail
tail-next k m bytes rest tail e f h = subst (λ (k : ℕ). IsTail k bytes tail) (sym e) (rest, f, h)

pub shorter-twice : (bytes rest others more : List ℕ) (b : ℕ) → rest ≡ b ∷ others → others ≡ 39 ∷ more → length rest ≤ length bytes → length more ≤ length bytes
shorter-twice bytes rest others more b e f l =
    let n = ap (λ (x : List ℕ). length x) e in
    let m : length (b ∷ others) ≡ suc (length others) = refl in
    let k = ap (λ (x : List ℕ). length x) f in
    let j : length (39 ∷ more) ≡ suc (length more) = refl in
    omega arith
