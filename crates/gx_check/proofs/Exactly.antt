-- Which ending comes, by what the bytes are: each kind of bytes has one.
use Rattle.std.proofs.Common.{◌≡◌, ◌≢◌, ◌⊎◌, inl, inr, ℕ, ◌≤◌, ◌<◌, ◌+◌, ◌^◌, List, [], ◌∷◌, ◌++◌, length, Some, None, Ok, Err, Result, refl, sym, ◌∙◌, ap, subst, arith, append_assoc, append-nil, length-append}
use Rattle.std.specs.Prelude.{All, Option, codes, drop, get_or}
use Rattle.std.specs.Io.KnownBytes.{Consumes}
use Rattle.std.proofs.lemmas.List.Elements.{All-head, All-tail}
use Rattle.gx_script.specs.declared.Script.{Script}
use Rattle.gx_sql.specs.declared.refusal.Refusal.{Refusal}
use Rattle.gx_sql.specs.Script.{Reads}
use Rattle.gx_sql.proofs.Limited.{script-is}
use Rattle.gx_sql.proofs.Unique.{reads_one}
use Rattle.gx_store.specs.Language.{IsScript, IsTable, table_name}
use Rattle.gx_trace.specs.Lawful.{IsLine}
use Rattle.gx_trace.specs.Shown.{IsShown, all_places}
use Rattle.gx_trace.specs.ShownText.{shown_text}
use Rattle.gx_trace.specs.declared.seen.Seen.{Seen}
use Rattle.gx_read_trace.specs.FirstBad.{IsFirstBad}
use Rattle.gx_read_trace.specs.Lines.{fed, fed_line}
use Rattle.gx_read_trace.specs.ReadText.{read_text}
use Rattle.gx_read_trace.proofs.Deciding.{is-seen}
use Rattle.gx_read_trace.proofs.OneBad.{is-bad}
use Rattle.gx_read_trace.proofs.Places.{few-places}
use Rattle.gx_read_trace.proofs.Plain.{from-test, mapped, name-plain, names-plain}
use Rattle.gx_read_trace.specs.Reading.{HasPlainNames}
use Rattle.gx_judging.specs.Verdicts.{IsVerdictOf}
use Rattle.gx_judging.specs.declared.verdicts.Definition.{Definition}
use Rattle.gx_judging.specs.declared.verdicts.Definition.TheVariants.{Rows, Statements, Refusals, Order, Victims}
use Rattle.gx_judging.specs.declared.verdicts.Verdict.TheVariants as verdict
use Rattle.gx_check.specs.declared.attempt.Attempt.{Attempt}
use Rattle.gx_check.specs.declared.attempt.Attempt.TheVariants.{Legal, Usage, Refused, ReadFault, TooLarge, NotATrace, NotLegal, OutOfMemory}
use Rattle.gx_check.specs.Splitting.{IsOther, IsSplit, IsUnsplit}
use Rattle.gx_check.specs.Top.{AreLegal, AreNoTrace, AreNotLegal, AreRefused, IsAttempt, IsFront, IsRead, IsSaid, IsSaidOf, IsToldAs, ShowRun, Work, limit, status_in, text_in}

-- SCRIPTS
plain-names : (script : Script) → IsScript script → HasPlainNames script
plain-names script is = record {
  sessions = names-plain script.sessions is.sessions;
  tables = mapped IsTable IsLine table_name (λ table of_language. name-plain table.name of_language.name) script.tables is.tables;
}

few : (script : Script) → IsScript script → All (λ (p : ℕ × ℕ). p.1 < 2 ^ 32) (all_places script.lines 0 script.sessions)
few script is = few-places script.lines 0 script.sessions (2 ^ 32) (omega (arith, is.few_lines))

-- LINES
first-same : (a b : ℕ) (xs ys : List ℕ) → a ∷ xs ≡ b ∷ ys → a ≡ b
first-same a b xs ys e = ap (λ l. get_or l 0 0) e

others-same : (a b : ℕ) (xs ys : List ℕ) → a ∷ xs ≡ b ∷ ys → xs ≡ ys
others-same a b xs ys e = ap (λ l. drop 1 l) e

cut-line : (x y r s : List ℕ) → IsLine x → IsLine y → x ++ (10 ∷ r) ≡ y ++ (10 ∷ s) → (x ≡ y) × (r ≡ s)
cut-line [] [] r s a b e = (refl, others-same 10 10 r s e)
cut-line [] (y ∷ ys) r s a b e = absurd (All-head (λ byte. byte ≢ 10) y ys b (sym (first-same 10 y r (ys ++ (10 ∷ s)) e)))
cut-line (x ∷ xs) [] r s a b e = absurd (All-head (λ byte. byte ≢ 10) x xs a (first-same x 10 (xs ++ (10 ∷ r)) s e))
cut-line (x ∷ xs) (y ∷ ys) r s a b e =
    let (front, back) = cut-line xs ys r s (All-tail (λ byte. byte ≢ 10) x xs a) (All-tail (λ byte. byte ≢ 10) y ys b) (others-same x y (xs ++ (10 ∷ r)) (ys ++ (10 ∷ s)) e) in
    ((λ i. first-same x y (xs ++ (10 ∷ r)) (ys ++ (10 ∷ s)) e i ∷ front i), back)

-- a line of which no feed follows isn't one that has a feed behind it
no-feed : (x y s : List ℕ) → IsLine x → x ≡ y ++ (10 ∷ s) → ⊥
no-feed [] [] s a e = cc
no-feed [] (y ∷ ys) s a e = cc
no-feed (x ∷ xs) [] s a e = All-head (λ byte. byte ≢ 10) x xs a (first-same x 10 xs s e)
no-feed (x ∷ xs) (y ∷ ys) s a e = no-feed xs ys s (All-tail (λ byte. byte ≢ 10) x xs a) (others-same x y xs (ys ++ (10 ∷ s)) e)

-- `trace:` is a line
abbrev the-word : List ℕ
the-word = codes "trace:"

word-line : IsLine the-word
word-line = from-test the-word refl

fed-next : (x : List ℕ) (xs : List (List ℕ)) (r : List ℕ) → fed (x ∷ xs) ++ r ≡ x ++ (10 ∷ (fed xs ++ r))
fed-next x xs r = append_assoc (fed_line x) (fed xs) r ∙ append_assoc x (10 ∷ []) (fed xs ++ r)

-- what stands before the first line `trace:` is one
fronts : (ls ms : List (List ℕ)) (t u : List ℕ) → All IsOther ls → All IsOther ms → fed ls ++ (the-word ++ (10 ∷ t)) ≡ fed ms ++ (the-word ++ (10 ∷ u)) → (ls ≡ ms) × (t ≡ u)
fronts [] [] t u a b e = (refl, (cut-line the-word the-word t u word-line word-line e).1)
fronts [] (m ∷ ms) t u a b e =
    let (line, is) = All-head IsOther m ms b in
    absurd (is (sym (cut-line the-word m t (fed ms ++ (the-word ++ (10 ∷ u))) word-line line (e ∙ fed-next m ms (the-word ++ (10 ∷ u)))).0))
fronts (l ∷ ls) [] t u a b e =
    let (line, is) = All-head IsOther l ls a in
    absurd (is (cut-line l the-word (fed ls ++ (the-word ++ (10 ∷ t))) u line word-line (sym (fed-next l ls (the-word ++ (10 ∷ t))) ∙ e)).0)
fronts (l ∷ ls) (m ∷ ms) t u a b e =
    let (line, rest) = cut-line l m (fed ls ++ (the-word ++ (10 ∷ t))) (fed ms ++ (the-word ++ (10 ∷ u))) (All-head IsOther l ls a).0 (All-head IsOther m ms b).0
    (sym (fed-next l ls (the-word ++ (10 ∷ t))) ∙ e ∙ fed-next m ms (the-word ++ (10 ∷ u))) in
    let (lines, traces) = fronts ls ms t u (All-tail IsOther l ls a) (All-tail IsOther m ms b) rest in
    (λ i. line i ∷ lines i, traces)

no-front : (ls ms : List (List ℕ)) (t rest : List ℕ) → All IsOther ls → All IsOther ms → IsLine rest → fed ls ++ (the-word ++ (10 ∷ t)) ≡ fed ms ++ rest → ⊥
no-front [] [] t rest a b c e = no-feed rest the-word t c (sym e)
no-front [] (m ∷ ms) t rest a b c e =
    let (line, is) = All-head IsOther m ms b in
    is (sym (cut-line the-word m t (fed ms ++ rest) word-line line (e ∙ fed-next m ms rest)).0)
no-front (l ∷ ls) [] t rest a b c e = no-feed rest l (fed ls ++ (the-word ++ (10 ∷ t))) c (sym e ∙ fed-next l ls (the-word ++ (10 ∷ t)))
no-front (l ∷ ls) (m ∷ ms) t rest a b c e =
    no-front ls ms t rest (All-tail IsOther l ls a) (All-tail IsOther m ms b) c
    (cut-line l m (fed ls ++ (the-word ++ (10 ∷ t))) (fed ms ++ rest) (All-head IsOther l ls a).0 (All-head IsOther m ms b).0 (sym (fed-next l ls (the-word ++ (10 ∷ t))) ∙ e ∙ fed-next m ms rest)).1

-- KINDS OF BYTES
abbrev value : {A E : Type 0} → Result A E → A → A
value (Ok a) other = a
value (Err e) other = other

ok-same : {A E : Type 0} (r : Result A E) (x y : A) → r ≡ Ok x → r ≡ Ok y → x ≡ y
ok-same r x y e f = sym (ap (λ o. value o x) e) ∙ ap (λ o. value o x) f

module _ (bytes : List ℕ) where
  split-one : (f g t u : List ℕ) → IsSplit bytes f t → IsSplit bytes g u → (f ≡ g) × (t ≡ u)
  split-one f g t u a b =
      let (lines, traces) = fronts a.lines b.lines t u a.others b.others
      (sym (ap (λ z. z ++ (the-word ++ (10 ∷ t))) a.before) ∙ sym a.parts ∙ b.parts ∙ ap (λ z. z ++ (the-word ++ (10 ∷ u))) b.before) in
      (a.before ∙ ap fed lines ∙ sym b.before, traces)

  split-or : (f t : List ℕ) → IsSplit bytes f t → IsUnsplit bytes → ⊥
  split-or f t a b = no-front a.lines b.lines t b.rest a.others b.others b.last (sym (ap (λ z. z ++ (the-word ++ (10 ∷ t))) a.before) ∙ sym a.parts ∙ b.parts)

  front-one : (f g : List ℕ) → IsFront bytes f → IsFront bytes g → f ≡ g
  front-one f g (inl (t, a)) (inl (u, b)) = (split-one f g t u a b).0
  front-one f g (inl (t, a)) (inr (b, is)) = absurd (split-or f t a b)
  front-one f g (inr (a, is)) (inl (u, b)) = absurd (split-or g u b a)
  front-one f g (inr (a, is)) (inr (b, same)) = is ∙ sym same

  script-one : (f g : List ℕ) (s r : Script) → IsFront bytes f → IsFront bytes g → Reads f (Ok s) → Reads g (Ok r) → s ≡ r
  script-one f g s r a b h k = ok-same (Ok s) s r refl (reads_one f (Ok s) (Ok r) h (subst (λ (z : List ℕ). Reads z (Ok r)) (front-one g f b a) k))

  front-of : (line : ℕ) (n : AreNoTrace bytes line) → IsFront bytes n.front
  front-of line n = by n.why
    where
      by : ((trace : List ℕ) × IsSplit bytes n.front trace × IsFirstBad n.script trace line) ⊎ (IsUnsplit bytes × (n.front ≡ bytes) × (line ≡ 0)) → IsFront bytes n.front
      by (inl (trace, split, bad)) = inl (trace, split)
      by (inr (unsplit, same, none)) = inr (unsplit, same)

  pub not-refused : (s : Script) (f : List ℕ) (r : Refusal) → IsFront bytes f → Reads f (Ok s) → AreRefused bytes r → ⊥
  not-refused s f r a h refused =
      ok-err (reads_one f (Ok s) (Err r) h (subst (λ (z : List ℕ). Reads z (Err r)) (front-one refused.front f refused.is a) refused.reads))
    where
      ok-err : Ok s ≡ Err r → ⊥
      ok-err e = cc

  module _ (small : length bytes < 2 ^ 32) where
    front-small : (f t : List ℕ) → IsSplit bytes f t → length f < 2 ^ 32
    front-small f t a = omega (arith, small, ap length a.parts, length-append f (codes "trace:\n" ++ t))

    module _ (s : Script) (seen : Seen) (run : ShowRun bytes s seen) where
      is-script : IsScript s
      is-script = script-is run.front s (front-small run.front run.trace run.split) run.reads

      read : read_text s run.trace ≡ Ok seen
      read = is-seen s (plain-names s is-script) (few s is-script) run.trace seen run.lawful run.shown

      pub not-bad : (line : ℕ) → AreNoTrace bytes line → ⊥
      not-bad line n = by n.why
        where
          ok-err : Ok seen ≡ Err line → ⊥
          ok-err e = cc

          by : ((trace : List ℕ) × IsSplit bytes n.front trace × IsFirstBad n.script trace line) ⊎ (IsUnsplit bytes × (n.front ≡ bytes) × (line ≡ 0)) → ⊥
          by (inl (trace, split, bad)) =
              let same : n.script ≡ s = script-one n.front run.front n.script s (front-of line n) (inl (run.trace, run.split)) n.reads run.reads in
              let (front, behind) = split-one n.front run.front trace run.trace split run.split in
              ok-err (sym read ∙ is-bad s (plain-names s is-script) (few s is-script) run.trace line
              (subst (λ (z : List ℕ). IsFirstBad s z line) behind (subst (λ (x : Script). IsFirstBad x trace line) same bad)))
          by (inr (unsplit, same, none)) = split-or run.front run.trace run.split unsplit

      pub not-other : (r : Script) (other : Seen) → ShowRun bytes r other → (r ≡ s) × (other ≡ seen)
      not-other r other more =
          let same : r ≡ s = script-one more.front run.front r s (inl (more.trace, more.split)) (inl (run.trace, run.split)) more.reads run.reads in
          let (front, behind) = split-one more.front run.front more.trace run.trace more.split run.split in
          let lawful : IsShown s other = subst (λ (x : Script). IsShown x other) same more.lawful in
          let shown : run.trace ≡ shown_text s other = sym behind ∙ more.shown ∙ ap (λ (x : Script). shown_text x other) same in
          (same, ok-same (read_text s run.trace) other seen (is-seen s (plain-names s is-script) (few s is-script) run.trace other lawful shown) read)

    pub not-both : (least : Definition) → AreLegal bytes → AreNotLegal bytes least → ⊥
    not-both least a n =
        let (same, seen) = not-other a.script a.seen a.show n.script n.seen n.show in
        fails least a.script a.seen a.meets (subst (λ (x : Seen). IsVerdictOf a.script x (verdict.NotLegal least)) seen (subst (λ (x : Script). IsVerdictOf x n.seen (verdict.NotLegal least)) same n.fails))
      where
        fails : (least : Definition) (s : Script) (x : Seen) → IsVerdictOf s x verdict.Legal → IsVerdictOf s x (verdict.NotLegal least) → ⊥
        fails Rows s x all none = none.1 all.0
        fails Statements s x all none = none.1 all.1
        fails Refusals s x all none = none.1 all.2
        fails Order s x all none = none.1 all.3
        fails Victims s x all none = none.1 all.4

-- ALL OF THEM WERE READ
taken : (bytes others : List ℕ) (after : Option (List ℕ)) → IsRead (Some bytes) after others → others ≡ bytes
taken bytes others None read = absurd read.taken
taken bytes others (Some rest) read = sym (read.taken ∙ ap (λ z. others ++ z) read.ended ∙ append-nil others)

too-many : (bytes others : List ℕ) (after : Option (List ℕ)) → Consumes (Some bytes) after others → limit < length others → limit < length bytes
too-many bytes others None is more = absurd is
too-many bytes others (Some rest) is more = omega (arith, more, ap length is, length-append others rest)

-- an ending that isn't of the bytes
abbrev pub IsBeside : Attempt → Type 0
IsBeside a = (a ≡ ReadFault) ⊎ (a ≡ OutOfMemory)

module _ {A : Type 0} (words : List A) (none : words ≡ []) (bytes : List ℕ) (after : Option (List ℕ)) (before now : ℕ) where
  abbrev done : Work A
  done = record { words = words; left = Some bytes; after = after; before = before; now = now }

  module _ (few-bytes : length bytes ≤ limit) where
    small : length bytes < 2 ^ 32
    small = omega (arith, few-bytes)

    not-large : IsAttempt done TooLarge → ⊥
    not-large is = let more = too-many bytes is.bytes after is.taken is.more in omega (arith, more, few-bytes)

    refusal-of : (r : Refusal) (others : List ℕ) → IsRead (Some bytes) after others → AreRefused others r → AreRefused bytes r
    refusal-of r others read are = subst (λ (z : List ℕ). AreRefused z r) (taken bytes others after read) are

    pub legal-ends : AreLegal bytes → (a : Attempt) → IsAttempt done a → (status_in a ≡ 0) ⊎ IsBeside a
    legal-ends legal Legal is = inl refl
    legal-ends legal Usage is = absurd (is.some none)
    legal-ends legal (Refused text) is =
        absurd (not-refused bytes legal.script legal.show.front is.refusal (inl (legal.show.trace, legal.show.split)) legal.show.reads (refusal-of is.refusal is.bytes is.read is.are))
    legal-ends legal ReadFault is = inr (inl refl)
    legal-ends legal TooLarge is = absurd (not-large is)
    legal-ends legal (NotATrace text) is =
        absurd (not-bad bytes small legal.script legal.seen legal.show is.line (subst (λ (z : List ℕ). AreNoTrace z is.line) (taken bytes is.bytes after is.read) is.are))
    legal-ends legal (NotLegal text) is =
        absurd (not-both bytes small is.least legal (subst (λ (z : List ℕ). AreNotLegal z is.least) (taken bytes is.bytes after is.read) is.are))
    legal-ends legal OutOfMemory is = inr (inr refl)

    pub unlawful-ends : (least : Definition) → AreNotLegal bytes least → (a : Attempt) → IsAttempt done a → (status_in a ≡ 12) ⊎ IsBeside a
    unlawful-ends least cause Legal is =
        absurd (not-both bytes small least (subst AreLegal (taken bytes is.bytes after is.read) is.are) cause)
    unlawful-ends least cause Usage is = absurd (is.some none)
    unlawful-ends least cause (Refused text) is =
        absurd (not-refused bytes cause.script cause.show.front is.refusal (inl (cause.show.trace, cause.show.split)) cause.show.reads (refusal-of is.refusal is.bytes is.read is.are))
    unlawful-ends least cause ReadFault is = inr (inl refl)
    unlawful-ends least cause TooLarge is = absurd (not-large is)
    unlawful-ends least cause (NotATrace text) is =
        absurd (not-bad bytes small cause.script cause.seen cause.show is.line (subst (λ (z : List ℕ). AreNoTrace z is.line) (taken bytes is.bytes after is.read) is.are))
    unlawful-ends least cause (NotLegal text) is = inl refl
    unlawful-ends least cause OutOfMemory is = inr (inr refl)

    pub untraced-ends : (line : ℕ) → AreNoTrace bytes line → (a : Attempt) → IsAttempt done a → (status_in a ≡ 11) ⊎ IsBeside a
    untraced-ends line cause Legal is =
        let legal = subst AreLegal (taken bytes is.bytes after is.read) is.are in
        absurd (not-bad bytes small legal.script legal.seen legal.show line cause)
    untraced-ends line cause Usage is = absurd (is.some none)
    untraced-ends line cause (Refused text) is =
        absurd (not-refused bytes cause.script cause.front is.refusal (front-of bytes line cause) cause.reads (refusal-of is.refusal is.bytes is.read is.are))
    untraced-ends line cause ReadFault is = inr (inl refl)
    untraced-ends line cause TooLarge is = absurd (not-large is)
    untraced-ends line cause (NotATrace text) is = inl refl
    untraced-ends line cause (NotLegal text) is =
        let other = subst (λ (z : List ℕ). AreNotLegal z is.least) (taken bytes is.bytes after is.read) is.are in
        absurd (not-bad bytes small other.script other.seen other.show line cause)
    untraced-ends line cause OutOfMemory is = inr (inr refl)

    pub refused-ends : (r : Refusal) → AreRefused bytes r → (a : Attempt) → IsAttempt done a → (status_in a ≡ 3) ⊎ IsBeside a
    refused-ends r cause Legal is =
        let legal = subst AreLegal (taken bytes is.bytes after is.read) is.are in
        absurd (not-refused bytes legal.script legal.show.front r (inl (legal.show.trace, legal.show.split)) legal.show.reads cause)
    refused-ends r cause Usage is = absurd (is.some none)
    refused-ends r cause (Refused text) is = inl refl
    refused-ends r cause ReadFault is = inr (inl refl)
    refused-ends r cause TooLarge is = absurd (not-large is)
    refused-ends r cause (NotATrace text) is =
        let bad = subst (λ (z : List ℕ). AreNoTrace z is.line) (taken bytes is.bytes after is.read) is.are in
        absurd (not-refused bytes bad.script bad.front r (front-of bytes is.line bad) bad.reads cause)
    refused-ends r cause (NotLegal text) is =
        let other = subst (λ (z : List ℕ). AreNotLegal z is.least) (taken bytes is.bytes after is.read) is.are in
        absurd (not-refused bytes other.script other.show.front r (inl (other.show.trace, other.show.split)) other.show.reads cause)
    refused-ends r cause OutOfMemory is = inr (inr refl)

  pub large-ends : limit < length bytes → (a : Attempt) → IsAttempt done a → (status_in a ≡ 9) ⊎ IsBeside a
  large-ends more Legal is = absurd (not-few (taken bytes is.bytes after is.read) is.read.few more)
    where
      not-few : {others : List ℕ} → others ≡ bytes → length others ≤ limit → limit < length bytes → ⊥
      not-few same few more = omega (arith, ap length same, few, more)
  large-ends more Usage is = absurd (is.some none)
  large-ends more (Refused text) is = absurd (let same = ap length (taken bytes is.bytes after is.read) in omega (arith, same, is.read.few, more))
  large-ends more ReadFault is = inr (inl refl)
  large-ends more TooLarge is = inl refl
  large-ends more (NotATrace text) is = absurd (let same = ap length (taken bytes is.bytes after is.read) in omega (arith, same, is.read.few, more))
  large-ends more (NotLegal text) is = absurd (let same = ap length (taken bytes is.bytes after is.read) in omega (arith, same, is.read.few, more))
  large-ends more OutOfMemory is = inr (inr refl)

pub left-is : {A : Type 0} (words : List A) (left known after : Option (List ℕ)) (before now : ℕ) (a : Attempt) → left ≡ known
    → IsAttempt (record { words = words; left = left; after = after; before = before; now = now }) a
    → IsAttempt (record { words = words; left = known; after = after; before = before; now = now }) a
left-is words left known after before now a e is = subst (λ (l : Option (List ℕ)). IsAttempt (record { words = words; left = l; after = after; before = before; now = now }) a) e is

-- so is what was told
pub told-as : (n : ℕ) (written shown : Option (List ℕ)) (faults more said : ℕ) (a : Attempt) → (status_in a ≡ n) ⊎ IsBeside a → IsSaidOf a written shown faults more said → IsToldAs n said
told-as n written shown faults more said a (inr (inl e)) is = by (subst (λ (x : Attempt). IsSaidOf x written shown faults more said) e is)
  where
    by : IsSaid 4 (codes "read fault\n") written shown faults more said → IsToldAs n said
    by (inl (four, all)) = inl (inr four)
    by (inr (five, cut)) = inr (inl five)
told-as n written shown faults more said a (inr (inr e)) is = inr (inr (subst (λ (x : Attempt). IsSaidOf x written shown faults more said) e is).0)
told-as n written shown faults more said a (inl e) is = by a e is
  where
    whole : (a : Attempt) → status_in a ≡ n → IsSaid (status_in a) (text_in a) written shown faults more said → IsToldAs n said
    whole a e (inl (same, all)) = inl (inl (same ∙ e))
    whole a e (inr (five, cut)) = inr (inl five)

    by : (a : Attempt) → status_in a ≡ n → IsSaidOf a written shown faults more said → IsToldAs n said
    by Legal e is = whole Legal e is
    by Usage e is = whole Usage e is
    by (Refused text) e is = whole (Refused text) e is
    by ReadFault e is = whole ReadFault e is
    by TooLarge e is = whole TooLarge e is
    by (NotATrace text) e is = whole (NotATrace text) e is
    by (NotLegal text) e is = whole (NotLegal text) e is
    by OutOfMemory e is = inr (inr is.0)

pub usage_as : (written shown : Option (List ℕ)) (faults more said : ℕ) (a : Attempt) → a ≡ Usage → IsSaidOf a written shown faults more said → (said ≡ 2) ⊎ (said ≡ 5)
usage_as written shown faults more said a e is = by (subst (λ (x : Attempt). IsSaidOf x written shown faults more said) e is)
  where
    by : IsSaid 2 (codes "usage: gx_check\n") written shown faults more said → (said ≡ 2) ⊎ (said ≡ 5)
    by (inl (two, all)) = inl two
    by (inr (five, cut)) = inr five
