-- The laws of the classes of tokens.
use Rattle.std.proofs.Common.{◌≡◌, ℕ, ◌<◌, ◌≤◌, ◌==◌, nat_le, true, false, ◌&&◌, if◌then◌else◌, List, [], length, Option, Some, None, max, refl, sym, ◌∙◌, ap, subst, arith}
use Rattle.gx_lex.specs.declared.word.Word.{Word}
use Rattle.gx_lex.specs.declared.word.Word.TheVariants as word
use Rattle.gx_lex.specs.declared.token.Token.{Token}
use Rattle.gx_lex.specs.declared.token.Token.TheVariants as token
use Rattle.gx_grammar.specs.declared.fault.Limits.{Limits}
use Rattle.gx_grammar.specs.declared.fault.LineLimit.{LineLimit}
use Rattle.gx_grammar.specs.declared.fault.LineLimit.TheVariants as limit
use Rattle.gx_grammar.specs.Limiting.{Below, Keeps, KeepsBefore}
use Rattle.gx_grammar.specs.Rules.{Pick, Is, Isnt, Passes}
use Rattle.gx_grammar.specs.Tokens.{name_of}
use Rattle.gx_grammar.proofs.Tools.{by_le, by_not_le, pick, pick_le, by_true, by_false}
use Rattle.gx_grammar.proofs.Good.{Class}
use Rattle.gx_grammar.proofs.Parts.{plain_class}
use Rattle.gx_lines.specs.declared.classes.Size.{Size}
use Rattle.gx_lines.specs.declared.classes.Segments.{Segments}
use Rattle.gx_lines.specs.Classes.{pick_some, word_of, size_of, segments_in, segments_of, in_range, number_in, agg_word, agg_of, direction_word, direction_of, strength_word, strength_of, switch_word, switch_of, kind_word, kind_of, fate_word, fate_of, way_word, way_of}
use Rattle.gx_lines.specs.declared.classes.Agg.{Agg}
use Rattle.gx_lines.specs.declared.classes.Agg.TheVariants as agg
use Rattle.gx_lines.specs.declared.classes.Direction.{Direction}
use Rattle.gx_lines.specs.declared.classes.Direction.TheVariants as direction
use Rattle.gx_lines.specs.declared.classes.Strength.TheVariants as strength
use Rattle.gx_lines.specs.declared.classes.Switch.TheVariants as switch
use Rattle.gx_lines.specs.declared.classes.KindSyn.TheVariants as kind
use Rattle.gx_lines.specs.declared.classes.Fate.{Fate}
use Rattle.gx_lines.specs.declared.classes.Fate.TheVariants as fate
use Rattle.gx_lines.specs.declared.classes.Way.TheVariants as way

isnt_is : {X P : Type 0} (x : X) → Isnt ≡ Is x → P
isnt_is x e = absurd (no_value x e) where
  no_value : {X : Type 0} (x : X) → Isnt ≡ Is x → ⊥
  no_value x e = cc

isnt_passes : (X : Type 0) (l : LineLimit) (p : Pick X) → p ≡ Isnt → p ≡ Passes l → ⊥
isnt_passes X l p a e = cc

is_passes : (X : Type 0) (l : LineLimit) (x : X) (p : Pick X) → p ≡ Is x → p ≡ Passes l → ⊥
is_passes X l x p a e = cc

passes_is : (X : Type 0) (l : LineLimit) (x : X) (p : Pick X) → p ≡ Passes l → p ≡ Is x → ⊥
passes_is X l x p a e = cc

passes_isnt : (X : Type 0) (l : LineLimit) (p : Pick X) → p ≡ Passes l → p ≡ Isnt → ⊥
passes_isnt X l p a e = cc

same_limit : (X : Type 0) (l m : LineLimit) (p : Pick X) → p ≡ Passes l → p ≡ Passes m → l ≡ m
same_limit X l m p a e = cc

some_passes : (X : Type 0) (l : LineLimit) (o : Option X) → pick_some o ≡ Passes l → ⊥
some_passes X l (Some x) e = is_passes X l x (pick_some (Some x)) refl e
some_passes X l None e = isnt_passes X l (pick_some None) refl e

-- WORDS of which one stands
word_never : {X : Type 0} (f : Word → Option X) (y : Token) (l : LineLimit) → word_of f y ≡ Passes l → ⊥
word_never {X = X} f (token.Word w) l e = some_passes X l (f w) e
word_never {X = X} f (token.Name m) l e = isnt_passes X l (word_of f (token.Name m)) refl e
word_never {X = X} f (token.Number m) l e = isnt_passes X l (word_of f (token.Number m)) refl e
word_never {X = X} f (token.Text m) l e = isnt_passes X l (word_of f (token.Text m)) refl e
word_never {X = X} f (token.Symbol m) l e = isnt_passes X l (word_of f (token.Symbol m)) refl e
word_never {X = X} f token.Bad l e = isnt_passes X l (word_of f token.Bad) refl e

-- one of the words, with its value
word_class : {X : Type 0} (f : Word → Option X) (w : Word) (x : X) → f w ≡ Some x → Class (λ d. word_of f)
word_class f w x e = plain_class (word_of f) (token.Word w) x (ap pick_some e) (word_never f)

pub agg_class : Class (λ d. agg_of)
agg_class = word_class agg_word word.Sum agg.Sum refl

pub direction_class : Class (λ d. direction_of)
direction_class = word_class direction_word word.Asc direction.Asc refl

pub strength_class : Class (λ d. strength_of)
strength_class = word_class strength_word word.Share strength.Share refl

pub switch_class : Class (λ d. switch_of)
switch_class = word_class switch_word word.On switch.On refl

pub kind_class : Class (λ d. kind_of)
kind_class = word_class kind_word word.Bigint kind.Bigint refl

pub fate_class : Class (λ d. fate_of)
fate_class = word_class fate_word word.Lose fate.Lose refl

pub way_class : Class (λ d. way_of)
way_class = word_class way_word word.To way.To refl

size_never : (y : Token) (l : LineLimit) → size_of y ≡ Passes l → ⊥
size_never (token.Number m) l e = is_passes Size l (record { 0 = m }) (size_of (token.Number m)) refl e
size_never (token.Word m) l e = isnt_passes Size l (size_of (token.Word m)) refl e
size_never (token.Name m) l e = isnt_passes Size l (size_of (token.Name m)) refl e
size_never (token.Text m) l e = isnt_passes Size l (size_of (token.Text m)) refl e
size_never (token.Symbol m) l e = isnt_passes Size l (size_of (token.Symbol m)) refl e
size_never token.Bad l e = isnt_passes Size l (size_of token.Bad) refl e

pub size_class : Class (λ d. size_of)
size_class = plain_class size_of (token.Number None) (record { 0 = None }) refl size_never

range_never : (a b n : ℕ) (l : LineLimit) → in_range a b n ≡ Passes l → ⊥
range_never a b n l = pick (λ (p : Pick ℕ). p ≡ Passes l → ⊥) (nat_le a n && nat_le n b) _ _ (λ z e. is_passes ℕ l n (Is n) refl e) (λ z e. isnt_passes ℕ l Isnt refl e)

number_never : (a b : ℕ) (y : Token) (l : LineLimit) → number_in a b y ≡ Passes l → ⊥
number_never a b (token.Number (Some n)) l e = range_never a b n l e
number_never a b (token.Number None) l e = isnt_passes ℕ l (number_in a b (token.Number None)) refl e
number_never a b (token.Word m) l e = isnt_passes ℕ l (number_in a b (token.Word m)) refl e
number_never a b (token.Name m) l e = isnt_passes ℕ l (number_in a b (token.Name m)) refl e
number_never a b (token.Text m) l e = isnt_passes ℕ l (number_in a b (token.Text m)) refl e
number_never a b (token.Symbol m) l e = isnt_passes ℕ l (number_in a b (token.Symbol m)) refl e
number_never a b token.Bad l e = isnt_passes ℕ l (number_in a b token.Bad) refl e

least_in : (a b : ℕ) → a ≤ b → (nat_le a a && nat_le a b) ≡ true
least_in a b l = grind arith

pub number_class : (a b : ℕ) → a ≤ b → Class (λ d. number_in a b)
number_class a b l = plain_class (number_in a b) (token.Number (Some a)) a (by_true (nat_le a a && nat_le a b) _ _ (least_in a b l)) (number_never a b)

-- NAMES
abbrev Named : Limits → List ℕ → Pick (List ℕ)
Named d n = if nat_le (length n) d.name then Is n else Passes limit.Name

named_more : (d e : Limits) (n x : List ℕ) → Below d e → Named d n ≡ Is x → Named e n ≡ Is x
named_more d e n x l = pick_le (λ (p : Pick (List ℕ)). p ≡ Is x → Named e n ≡ Is x) (length n) d.name _ _ (λ a q. by_le (length n) e.name _ _ (omega arith) ∙ q) (λ a q. absurd (passes_is (List ℕ) limit.Name x (Passes limit.Name) refl q))

named_isnt : (d : Limits) (n : List ℕ) → Named d n ≡ Isnt → ⊥
named_isnt d n = pick_le (λ (p : Pick (List ℕ)). p ≡ Isnt → ⊥) (length n) d.name _ _ (λ a q. is_isnt (Is n) refl q) (λ a q. passes_isnt (List ℕ) limit.Name (Passes limit.Name) refl q) where
  is_isnt : (p : Pick (List ℕ)) → p ≡ Is n → p ≡ Isnt → ⊥
  is_isnt p a e = cc

named_limit : (d : Limits) (n : List ℕ) (l : LineLimit) → Named d n ≡ Passes l → (d.name < length n) × (limit.Name ≡ l)
named_limit d n l = pick_le (λ (p : Pick (List ℕ)). p ≡ Passes l → (d.name < length n) × (limit.Name ≡ l)) (length n) d.name _ _ (λ a q. absurd (is_passes (List ℕ) l n (Is n) refl q)) (λ a q. (a, same_limit (List ℕ) limit.Name l (Passes limit.Name) refl q))

name_enough : Limits → ℕ → Limits
name_enough d n = record d { name = max d.name n }

name_below : (d : Limits) (n : ℕ) → Below d (name_enough d n)
unfolding name_enough
name_below d n = record { segments = omega arith; name = omega arith; text = omega arith; depth = omega arith; operators = omega arith }

name_more : (d e : Limits) (y : Token) (x : List ℕ) → Below d e → name_of d y ≡ Is x → name_of e y ≡ Is x
name_more d e (token.Name n) x l q = named_more d e n x l q
name_more d e (token.Word n) x l q = q
name_more d e (token.Number n) x l q = q
name_more d e (token.Text n) x l q = q
name_more d e (token.Symbol n) x l q = q
name_more d e token.Bad x l q = q

name_isnt : (d e : Limits) (y : Token) → Below d e → name_of d y ≡ Isnt → name_of e y ≡ Isnt
name_isnt d e (token.Name n) l q = absurd (named_isnt d n q)
name_isnt d e (token.Word n) l q = q
name_isnt d e (token.Number n) l q = q
name_isnt d e (token.Text n) l q = q
name_isnt d e (token.Symbol n) l q = q
name_isnt d e token.Bad l q = q

name_passes : (d e : Limits) (y : Token) (l : LineLimit) → Below d e → Keeps l d e → name_of d y ≡ Passes l → name_of e y ≡ Passes l
name_passes d e (token.Name n) l b k q =
    let (a, m) = named_limit d n l q in
    let same : Keeps limit.Name d e = subst (λ (l : LineLimit). Keeps l d e) (sym m) k in
    by_not_le (length n) e.name _ _ (omega arith) ∙ ap (λ (l : LineLimit). Passes l) m
name_passes d e (token.Word n) l b k q = absurd (isnt_passes (List ℕ) l (name_of d (token.Word n)) refl q)
name_passes d e (token.Number n) l b k q = absurd (isnt_passes (List ℕ) l (name_of d (token.Number n)) refl q)
name_passes d e (token.Text n) l b k q = absurd (isnt_passes (List ℕ) l (name_of d (token.Text n)) refl q)
name_passes d e (token.Symbol n) l b k q = absurd (isnt_passes (List ℕ) l (name_of d (token.Symbol n)) refl q)
name_passes d e token.Bad l b k q = absurd (isnt_passes (List ℕ) l (name_of d token.Bad) refl q)

name_raised : (d : Limits) (y : Token) (l : LineLimit) → name_of d y ≡ Passes l → (e : Limits) × Below d e × KeepsBefore l d e × ((x : List ℕ) × (name_of e y ≡ Is x))
unfolding name_enough
name_raised d (token.Name n) l q =
    let (a, m) = named_limit d n l q in
    (name_enough d (length n), name_below d (length n), subst (λ (l : LineLimit). KeepsBefore l d (name_enough d (length n))) m refl, (n, by_le (length n) (max d.name (length n)) _ _ (omega arith)))
name_raised d (token.Word n) l q = absurd (isnt_passes (List ℕ) l (name_of d (token.Word n)) refl q)
name_raised d (token.Number n) l q = absurd (isnt_passes (List ℕ) l (name_of d (token.Number n)) refl q)
name_raised d (token.Text n) l q = absurd (isnt_passes (List ℕ) l (name_of d (token.Text n)) refl q)
name_raised d (token.Symbol n) l q = absurd (isnt_passes (List ℕ) l (name_of d (token.Symbol n)) refl q)
name_raised d token.Bad l q = absurd (isnt_passes (List ℕ) l (name_of d token.Bad) refl q)

pub name_class : Class name_of
name_class = record {
  sample = λ d. (token.Name [], [], by_le 0 d.name _ _ (omega arith));
  more = name_more;
  isnt = name_isnt;
  passes = name_passes;
  raised = name_raised;
}

-- a name is a name
pub name_first : (P : Token → Type 0) → ((n : List ℕ) → P (token.Name n)) → (d : Limits) (y : Token) (x : List ℕ) → name_of d y ≡ Is x → P y
name_first P f d (token.Name n) x e = f n
name_first P f d (token.Word n) x e = isnt_is x e
name_first P f d (token.Number n) x e = isnt_is x e
name_first P f d (token.Text n) x e = isnt_is x e
name_first P f d (token.Symbol n) x e = isnt_is x e
name_first P f d token.Bad x e = isnt_is x e

-- what the tokens of a class are

pub agg_first : (P : Token → Type 0) → P (token.Word word.Sum) → P (token.Word word.Min) → P (token.Word word.Max) → (y : Token) (x : Agg) → agg_of y ≡ Is x → P y
agg_first P e0 e1 e2 (token.Word word.Sum) x q = e0
agg_first P e0 e1 e2 (token.Word word.Min) x q = e1
agg_first P e0 e1 e2 (token.Word word.Max) x q = e2
agg_first P e0 e1 e2 (token.Word w) x q = isnt_is x q
agg_first P e0 e1 e2 (token.Name m) x q = isnt_is x q
agg_first P e0 e1 e2 (token.Number m) x q = isnt_is x q
agg_first P e0 e1 e2 (token.Text m) x q = isnt_is x q
agg_first P e0 e1 e2 (token.Symbol m) x q = isnt_is x q
agg_first P e0 e1 e2 token.Bad x q = isnt_is x q

pub direction_first : (P : Token → Type 0) → P (token.Word word.Asc) → P (token.Word word.Desc) → (y : Token) (x : Direction) → direction_of y ≡ Is x → P y
direction_first P e0 e1 (token.Word word.Asc) x q = e0
direction_first P e0 e1 (token.Word word.Desc) x q = e1
direction_first P e0 e1 (token.Word w) x q = isnt_is x q
direction_first P e0 e1 (token.Name m) x q = isnt_is x q
direction_first P e0 e1 (token.Number m) x q = isnt_is x q
direction_first P e0 e1 (token.Text m) x q = isnt_is x q
direction_first P e0 e1 (token.Symbol m) x q = isnt_is x q
direction_first P e0 e1 token.Bad x q = isnt_is x q

pub fate_first : (P : Token → Type 0) → P (token.Word word.Lose) → P (token.Word word.Repeat) → (y : Token) (x : Fate) → fate_of y ≡ Is x → P y
fate_first P e0 e1 (token.Word word.Lose) x q = e0
fate_first P e0 e1 (token.Word word.Repeat) x q = e1
fate_first P e0 e1 (token.Word w) x q = isnt_is x q
fate_first P e0 e1 (token.Name m) x q = isnt_is x q
fate_first P e0 e1 (token.Number m) x q = isnt_is x q
fate_first P e0 e1 (token.Text m) x q = isnt_is x q
fate_first P e0 e1 (token.Symbol m) x q = isnt_is x q
fate_first P e0 e1 token.Bad x q = isnt_is x q

-- SEGMENTS
seg_is : (d : Limits) (n : ℕ) (x : Segments) → segments_in d n ≡ Is x → ((n == 0) ≡ false) × (n ≤ max d.segments 1) × (Is (record { 0 = n }) ≡ Is x)
seg_is d n x = pick (λ (p : Pick Segments). p ≡ Is x → ((n == 0) ≡ false) × (n ≤ max d.segments 1) × (Is (record { 0 = n }) ≡ Is x)) (n == 0) _ _ (λ z q. isnt_is x q)
    (λ z. pick_le (λ (p : Pick Segments). p ≡ Is x → ((n == 0) ≡ false) × (n ≤ max d.segments 1) × (Is (record { 0 = n }) ≡ Is x)) n (max d.segments 1) _ _ (λ a q. (z, a, q)) (λ a q. absurd (passes_is Segments limit.Segments x (Passes limit.Segments) refl q)))

seg_isnt : (d : Limits) (n : ℕ) → segments_in d n ≡ Isnt → (n == 0) ≡ true
seg_isnt d n = pick (λ (p : Pick Segments). p ≡ Isnt → (n == 0) ≡ true) (n == 0) _ _ (λ z q. z)
    (λ z. pick_le (λ (p : Pick Segments). p ≡ Isnt → (n == 0) ≡ true) n (max d.segments 1) _ _ (λ a q. absurd (is_isnt (Is (record { 0 = n })) refl q)) (λ a q. absurd (passes_isnt Segments limit.Segments (Passes limit.Segments) refl q))) where
      is_isnt : (p : Pick Segments) → p ≡ Is (record { 0 = n }) → p ≡ Isnt → ⊥
      is_isnt p a e = cc

seg_passes : (d : Limits) (n : ℕ) (l : LineLimit) → segments_in d n ≡ Passes l → ((n == 0) ≡ false) × (max d.segments 1 < n) × (limit.Segments ≡ l)
seg_passes d n l = pick (λ (p : Pick Segments). p ≡ Passes l → ((n == 0) ≡ false) × (max d.segments 1 < n) × (limit.Segments ≡ l)) (n == 0) _ _ (λ z q. absurd (isnt_passes Segments l Isnt refl q))
    (λ z. pick_le (λ (p : Pick Segments). p ≡ Passes l → ((n == 0) ≡ false) × (max d.segments 1 < n) × (limit.Segments ≡ l)) n (max d.segments 1) _ _ (λ a q. absurd (is_passes Segments l (record { 0 = n }) (Is (record { 0 = n })) refl q)) (λ a q. (z, a, same_limit Segments limit.Segments l (Passes limit.Segments) refl q)))

in_more : (d e : Limits) (n : ℕ) (x : Segments) → Below d e → segments_in d n ≡ Is x → segments_in e n ≡ Is x
in_more d e n x l q = let (z, a, k) = seg_is d n x q in by_false (n == 0) _ _ z ∙ by_le n (max e.segments 1) _ _ (omega arith) ∙ k

in_isnt : (d e : Limits) (n : ℕ) → segments_in d n ≡ Isnt → segments_in e n ≡ Isnt
in_isnt d e n q = by_true (n == 0) _ _ (seg_isnt d n q)

in_passes : (d e : Limits) (n : ℕ) (l : LineLimit) → Keeps l d e → segments_in d n ≡ Passes l → segments_in e n ≡ Passes l
in_passes d e n l k q =
    let (z, a, m) = seg_passes d n l q in
    let same : Keeps limit.Segments d e = subst (λ (l : LineLimit). Keeps l d e) (sym m) k in
    by_false (n == 0) _ _ z ∙ by_not_le n (max e.segments 1) _ _ (omega arith) ∙ ap (λ (l : LineLimit). Passes l) m

abbrev seg_enough : Limits → ℕ → Limits
seg_enough d n = record d { segments = max d.segments n }

seg_below : (d : Limits) (n : ℕ) → Below d (seg_enough d n)
seg_below d n = record { segments = omega arith; name = omega arith; text = omega arith; depth = omega arith; operators = omega arith }

abbrev SegRaised : Limits → LineLimit → Token → Type 0
SegRaised d l y = (e : Limits) × Below d e × KeepsBefore l d e × ((x : Segments) × (segments_of e y ≡ Is x))

in_raised : (d : Limits) (n : ℕ) (l : LineLimit) (y : Token) → ((e : Limits) → segments_of e y ≡ segments_in e n) → segments_in d n ≡ Passes l → SegRaised d l y
in_raised d n l y f q =
    let (z, a, m) = seg_passes d n l q in
    (seg_enough d n, seg_below d n, subst (λ (l : LineLimit). KeepsBefore l d (seg_enough d n)) m tt, (record { 0 = n }, f (seg_enough d n) ∙ by_false (n == 0) _ _ z ∙ by_le n (max (max d.segments n) 1) _ _ (omega arith)))

segments_more : (d e : Limits) (y : Token) (x : Segments) → Below d e → segments_of d y ≡ Is x → segments_of e y ≡ Is x
segments_more d e (token.Number (Some n)) x l q = in_more d e n x l q
segments_more d e (token.Number None) x l q = in_more d e 18446744073709551616 x l q
segments_more d e (token.Name n) x l q = q
segments_more d e (token.Word n) x l q = q
segments_more d e (token.Text n) x l q = q
segments_more d e (token.Symbol n) x l q = q
segments_more d e token.Bad x l q = q

segments_isnt : (d e : Limits) (y : Token) → Below d e → segments_of d y ≡ Isnt → segments_of e y ≡ Isnt
segments_isnt d e (token.Number (Some n)) l q = in_isnt d e n q
segments_isnt d e (token.Number None) l q = in_isnt d e 18446744073709551616 q
segments_isnt d e (token.Name n) l q = q
segments_isnt d e (token.Word n) l q = q
segments_isnt d e (token.Text n) l q = q
segments_isnt d e (token.Symbol n) l q = q
segments_isnt d e token.Bad l q = q

segments_passes : (d e : Limits) (y : Token) (l : LineLimit) → Below d e → Keeps l d e → segments_of d y ≡ Passes l → segments_of e y ≡ Passes l
segments_passes d e (token.Number (Some n)) l b k q = in_passes d e n l k q
segments_passes d e (token.Number None) l b k q = in_passes d e 18446744073709551616 l k q
segments_passes d e (token.Name n) l b k q = q
segments_passes d e (token.Word n) l b k q = q
segments_passes d e (token.Text n) l b k q = q
segments_passes d e (token.Symbol n) l b k q = q
segments_passes d e token.Bad l b k q = q

segments_raised : (d : Limits) (y : Token) (l : LineLimit) → segments_of d y ≡ Passes l → SegRaised d l y
segments_raised d (token.Number (Some n)) l q = in_raised d n l (token.Number (Some n)) (λ e. refl) q
segments_raised d (token.Number None) l q = in_raised d 18446744073709551616 l (token.Number None) (λ e. refl) q
segments_raised d (token.Word n) l q = absurd (isnt_passes Segments l (segments_of d (token.Word n)) refl q)
segments_raised d (token.Name n) l q = absurd (isnt_passes Segments l (segments_of d (token.Name n)) refl q)
segments_raised d (token.Text n) l q = absurd (isnt_passes Segments l (segments_of d (token.Text n)) refl q)
segments_raised d (token.Symbol n) l q = absurd (isnt_passes Segments l (segments_of d (token.Symbol n)) refl q)
segments_raised d token.Bad l q = absurd (isnt_passes Segments l (segments_of d token.Bad) refl q)

one_segment : (d : Limits) → segments_in d 1 ≡ Is (record { 0 = 1 })
one_segment d = by_le 1 (max d.segments 1) _ _ (omega arith)

pub segments_class : Class segments_of
segments_class = record {
  sample = λ d. (token.Number (Some 1), record { 0 = 1 }, one_segment d);
  more = segments_more;
  isnt = segments_isnt;
  passes = segments_passes;
  raised = segments_raised;
}
