-- Readers of one thing or another.
use Rattle.std.proofs.Common.{◌≡◌, ℕ, ◌==◌, ◌<◌, ◌^◌, Bool, true, false, if◌then◌else◌, List, [], ◌∷◌, ◌++◌, length, codes, Option, Some, None, refl, ◌∙◌, ap, inl, inr, arith, append_assoc, append-nil}
use Rattle.std.specs.Prelude.{option_and_then, All, ◌⊎◌}
use Rattle.std.specs.List.{flat_map}
use Rattle.std.specs.Fmt.{decimal}
use Rattle.std.proofs.lemmas.List.{length-append}
use Rattle.std.proofs.lemmas.Option.{none-some, same_Some, some_pair_parts, option_and_then_some}
use Rattle.gx_ids.specs.declared.ids.Gxid.{Gxid}
use Rattle.gx_ids.specs.declared.ids.Table.{Table}
use Rattle.gx_ids.specs.declared.rid.Rid.{Rid}
use Rattle.gx_lex.specs.Lexing.{is_digit}
use Rattle.gx_modes.specs.Table.{number_of}
use Rattle.gx_modes.specs.declared.modes.Mode.{Mode}
use Rattle.gx_modes.specs.declared.modes.Mode.TheVariants.{AccessShare, RowShare, RowExclusive, ShareUpdateExclusive, Share, ShareRowExclusive, Exclusive, AccessExclusive}
use Rattle.gx_report.specs.LockText.{edge_text, object_text}
use Rattle.gx_report.specs.Words.{gxid_text, number_text}
use Rattle.gx_script.specs.declared.Script.{Script}
use Rattle.gx_store.specs.Limits.{is_name_byte}
use Rattle.gx_waits.specs.declared.edge.Edge.{Edge}
use Rattle.gx_waits.specs.declared.object.Object.{Object}
use Rattle.gx_waits.specs.declared.object.Object.TheVariants as object
use Rattle.gx_trace.specs.Fields.{gxid, rid}
use Rattle.gx_trace.specs.Lawful.{IsEdge, IsGxid, IsObject, IsRid, IsTable}
use Rattle.gx_trace.specs.Lists.{dotting, edge, edge_of, edges, is_dotted}
use Rattle.gx_trace.specs.Names.{table}
use Rattle.gx_trace.specs.Objects.{all_modes, mode, mode_among, object as read_object, with_mode}
use Rattle.gx_trace.specs.Readers.{Front, behind, both, either, made, number_below, word, EndsName, EndsNumber, IsEnd, IsReaderOf}
use Rattle.gx_trace.proofs.Many.{ends-read}
use Rattle.gx_trace.proofs.Names.{tables}
use Rattle.gx_trace.proofs.ReadFields.{gxids, one-blank, rids}
use Rattle.gx_trace.proofs.Readers.{behind-word, made-into, numbers-below, one-behind-other}
use Rattle.gx_trace.proofs.Words.{if-false, word-again, word-sound}

-- EDGES
-- what is neither a digit nor the sign of a dotted edge
abbrev EndsEdge : List ℕ → Type 0
EndsEdge [] = Unit {0}
EndsEdge (b ∷ bs) = (is_digit b ≡ false) × ((b == 126) ≡ false)

abbrev sign_of : Bool → List ℕ
sign_of d = if d then codes "~" else []

no-sign : (rest : List ℕ) → EndsEdge rest → word (codes "~") rest ≡ None
no-sign [] ends = refl
no-sign (b ∷ bs) ends = if-false (b == 126) (word [] bs) None ends.1

signs-again : (d : Bool) (rest : List ℕ) → EndsEdge rest → dotting (sign_of d ++ rest) ≡ Some (d, rest)
signs-again true rest ends = ap (λ o. either (made is_dotted o) (Some (false, (codes "~") ++ rest))) (word-again (codes "~") rest)
signs-again false rest ends = ap (λ o. either (made is_dotted o) (Some (false, rest))) (no-sign rest ends)

signs-sound : (bytes rest : List ℕ) (d : Bool) (o : Front (Unit {0})) → word (codes "~") bytes ≡ o → either (made is_dotted o) (Some (false, bytes)) ≡ Some (d, rest) → Unit {0} × (bytes ≡ sign_of d ++ rest)
signs-sound bytes rest d None is e = let (p, q) = some_pair_parts false d bytes rest e in (tt, q ∙ ap (λ x. sign_of x ++ rest) p)
signs-sound bytes rest d (Some x) is e =
    let (p, q) = some_pair_parts true d x.1 rest e in
    (tt, word-sound (codes "~") bytes x.1 is ∙ ap (λ y. codes "~" ++ y) q ∙ ap (λ y. sign_of y ++ rest) p)

signs : IsReaderOf sign_of (λ _. Unit {0}) EndsEdge dotting
signs = record { again = λ d rest is ends. signs-again d rest ends; sound = λ bytes rest d e. signs-sound bytes rest d (word (codes "~") bytes) refl e }

sign-behind : (d : Bool) (rest : List ℕ) → Unit {0} → EndsEdge rest → EndsNumber (sign_of d ++ rest)
sign-behind true rest is ends = refl
sign-behind false [] is ends = tt
sign-behind false (b ∷ bs) is ends = ends.0

edge-parts : IsReaderOf (λ x. gxid_text x.0 ++ ((codes ">" ++ decimal x.1.0) ++ sign_of x.1.1)) (λ x. IsGxid x.0 × ((x.1.0 < 2 ^ 64) × Unit {0})) EndsEdge
    (both gxid (both (behind (codes ">") (number_below (2 ^ 64))) dotting))
edge-parts = one-behind-other gxids (one-behind-other (behind-word (codes ">") (numbers-below (2 ^ 64) (omega arith))) signs sign-behind) (λ b rest is ends. refl)

edges-one : IsReaderOf edge_text IsEdge EndsEdge edge
edges-one =
    made-into edge_text IsEdge edge_of edge-parts (λ e is. ((e.waiter, (e.holder.0, e.dotted)), refl, (is.0, (is.1, tt)))) (λ x is. ((is.0, is.1.0), simp append_assoc))

edge-some : (e : Edge) → 0 < length (edge_text e)
edge-some e =
    let waiter = gxid_text e.waiter in
    let holder = decimal e.holder.0 in
    omega (arith, one-blank e.waiter.0, length-append (waiter ++ codes ">" ++ holder) (sign_of e.dotted), length-append (waiter ++ codes ">") holder, length-append waiter (codes ">"))

pub edge-lists : IsReaderOf (flat_map edge_text) (All IsEdge) IsEnd edges
edge-lists = ends-read edges-one (record { begins = λ e is. edge-some e; follows = λ e rest is. (refl, refl); last = tt })

-- ONE OR THE OTHER
-- Two readers of parts of a type, where what the second reads the first doesn't.
either-sound : {A : Type 0} (text : A → List ℕ) (IsA IsB : A → Type 0) (o p : Front A) (bytes rest : List ℕ) (a : A)
    → (o ≡ Some (a, rest) → IsA a × (bytes ≡ text a ++ rest)) → (p ≡ Some (a, rest) → IsB a × (bytes ≡ text a ++ rest))
    → either o p ≡ Some (a, rest) → (IsA a ⊎ IsB a) × (bytes ≡ text a ++ rest)
either-sound text IsA IsB None p bytes rest a f g e = let (is, t) = g e in (inr is, t)
either-sound text IsA IsB (Some x) p bytes rest a f g e = let (is, t) = f e in (inl is, t)

pub one-or-other : {A : Type 0} (text : A → List ℕ) (IsA IsB : A → Type 0) {Ends : List ℕ → Type 0} {ra rb : List ℕ → Front A}
    → IsReaderOf text IsA Ends ra → IsReaderOf text IsB Ends rb → ((a : A) (rest : List ℕ) → IsB a → ra (text a ++ rest) ≡ None)
    → IsReaderOf text (λ a. IsA a ⊎ IsB a) Ends (λ bytes. either (ra bytes) (rb bytes))
one-or-other text IsA IsB {ra = ra} {rb = rb} a b apart = record {
  again = λ x rest is ends.
      elim is as (λ _. either (ra (text x ++ rest)) (rb (text x ++ rest)) ≡ Some (x, rest))
      [ inl h ↦ ap (λ o. either o (rb (text x ++ rest))) (a.again x rest h ends) | inr h ↦ ap (λ o. either o (rb (text x ++ rest))) (apart x rest h) ∙ b.again x rest h ends ];
  sound = λ bytes rest x e. either-sound text IsA IsB (ra bytes) (rb bytes) bytes rest x (a.sound bytes rest x) (b.sound bytes rest x) e;
}

-- the same values and endings, said otherwise
pub said-as : {A : Type 0} {text : A → List ℕ} {Is : A → Type 0} {Ends : List ℕ → Type 0} {read : List ℕ → Front A} (Other : A → Type 0) (Stops : List ℕ → Type 0)
    → IsReaderOf text Is Ends read → ((a : A) → Other a → Is a) → ((a : A) → Is a → Other a) → ((rest : List ℕ) → Stops rest → Ends rest) → IsReaderOf text Other Stops read
said-as Other Stops r to from ends = record {
  again = λ a rest is stops. r.again a rest (to a is) (ends rest stops);
  sound = λ bytes rest a e. let (is, t) = r.sound bytes rest a e in (from a is, t);
}

-- MODES
mode-of : (m : Mode) (rest : List ℕ) → with_mode (number_of m, rest) ≡ Some (m, rest)
mode-of AccessShare rest = refl
mode-of RowShare rest = refl
mode-of RowExclusive rest = refl
mode-of ShareUpdateExclusive rest = refl
mode-of Share rest = refl
mode-of ShareRowExclusive rest = refl
mode-of Exclusive rest = refl
mode-of AccessExclusive rest = refl

mode-small : (m : Mode) → number_of m < 2 ^ 8
mode-small AccessShare = omega arith
mode-small RowShare = omega arith
mode-small RowExclusive = omega arith
mode-small ShareUpdateExclusive = omega arith
mode-small Share = omega arith
mode-small ShareRowExclusive = omega arith
mode-small Exclusive = omega arith
mode-small AccessExclusive = omega arith

mode-by : (n : ℕ) (m k : Mode) (ms : List Mode) (c : Bool) → (n == number_of k) ≡ c → (mode_among ms n ≡ Some m → n ≡ number_of m) → ◌≡◌ {A = Option Mode} (if c then Some k else mode_among ms n) (Some m) → n ≡ number_of m
mode-by n m k ms true c ih e = let same : n ≡ number_of k = grind (arith, c) in same ∙ ap number_of (same_Some k m e)
mode-by n m k ms false c ih e = ih e

mode-sound : (ms : List Mode) (n : ℕ) (m : Mode) → mode_among ms n ≡ Some m → n ≡ number_of m
mode-sound [] n m e = absurd (none-some m e)
mode-sound (k ∷ ms) n m e = mode-by n m k ms (n == number_of k) refl (mode-sound ms n m) e

number-field : IsReaderOf number_text (λ n. n < 2 ^ 8) EndsNumber (behind (codes " ") (number_below (2 ^ 8)))
number-field = behind-word (codes " ") (numbers-below (2 ^ 8) (omega arith))

pub modes : IsReaderOf (λ (m : Mode). number_text (number_of m)) (λ _. Unit {0}) EndsNumber mode
modes = record {
  again = λ m rest is ends. ap (option_and_then with_mode) (number-field.again (number_of m) rest (mode-small m) ends) ∙ mode-of m rest;
  sound = λ bytes rest m e. option_and_then_some with_mode (behind (codes " ") (number_below (2 ^ 8)) bytes) (m, rest) e (λ x is found.
      option_and_then_some (λ k. Some (k, x.1)) (mode_among all_modes x.0) (m, rest) found (λ k among same.
      let (p, q) = some_pair_parts k m x.1 rest same in
      let (small, text) = number-field.sound bytes x.1 x.0 is in
      (tt, text ∙ (λ i. number_text ((mode-sound all_modes x.0 k among ∙ ap number_of p) i) ++ q i))));
}

-- OBJECTS
module _ (script : Script) where
  abbrev IsOfTable : Object → Type 0
  IsOfTable (object.Relation t) = IsTable script t
  IsOfTable _ = ⊥

  abbrev IsOfRow : Object → Type 0
  IsOfRow (object.Tuple r) = IsRid r
  IsOfRow _ = ⊥

  abbrev IsOfTransaction : Object → Type 0
  IsOfTransaction (object.Transaction g) = IsGxid g
  IsOfTransaction _ = ⊥

  relation-parts : (o : Object) → IsOfTable o → (t : Table) × (object.Relation t ≡ o) × IsTable script t
  relation-parts (object.Relation t) is = (t, refl, is)
  relation-parts (object.Tuple r) is = absurd is
  relation-parts (object.Transaction g) is = absurd is

  tuple-parts : (o : Object) → IsOfRow o → (r : Rid) × (object.Tuple r ≡ o) × IsRid r
  tuple-parts (object.Relation t) is = absurd is
  tuple-parts (object.Tuple r) is = (r, refl, is)
  tuple-parts (object.Transaction g) is = absurd is

  transaction-parts : (o : Object) → IsOfTransaction o → (g : Gxid) × (object.Transaction g ≡ o) × IsGxid g
  transaction-parts (object.Relation t) is = absurd is
  transaction-parts (object.Tuple r) is = absurd is
  transaction-parts (object.Transaction g) is = (g, refl, is)

  not-transaction : (o : Object) (rest : List ℕ) → IsOfTransaction o → made (λ r. object.Tuple r) (behind (codes " tuple") rid (object_text script o ++ rest)) ≡ None
  not-transaction (object.Relation t) rest is = absurd is
  not-transaction (object.Tuple r) rest is = absurd is
  not-transaction (object.Transaction g) rest is = refl

  not-others : (o : Object) (rest : List ℕ) → IsOfRow o ⊎ IsOfTransaction o → made (λ t. object.Relation t) (behind (codes " relation") (table script) (object_text script o ++ rest)) ≡ None
  not-others (object.Relation t) rest is = elim is [ inl h ↦ absurd h | inr h ↦ absurd h ]
  not-others (object.Tuple r) rest is = refl
  not-others (object.Transaction g) rest is = refl

  is-object : (o : Object) → IsOfTable o ⊎ (IsOfRow o ⊎ IsOfTransaction o) → IsObject script o
  is-object (object.Relation t) is = elim is [ inl h ↦ h | inr h ↦ elim h [ inl k ↦ absurd k | inr k ↦ absurd k ] ]
  is-object (object.Tuple r) is = elim is [ inl h ↦ absurd h | inr h ↦ elim h [ inl k ↦ k | inr k ↦ absurd k ] ]
  is-object (object.Transaction g) is = elim is [ inl h ↦ absurd h | inr h ↦ elim h [ inl k ↦ absurd k | inr k ↦ k ] ]

  object-is : (o : Object) → IsObject script o → IsOfTable o ⊎ (IsOfRow o ⊎ IsOfTransaction o)
  object-is (object.Relation t) is = inl is
  object-is (object.Tuple r) is = inr (inl is)
  object-is (object.Transaction g) is = inr (inr is)

  no-digit : (b : ℕ) → is_name_byte b ≡ false → is_digit b ≡ false
  no-digit b e = none (is_digit b) refl
    where
      none : (c : Bool) → is_digit b ≡ c → c ≡ false
      none true d = absurd (grind (arith, d, e))
      none false d = refl

  ends-number : (rest : List ℕ) → EndsName rest → EndsNumber rest
  ends-number [] ends = tt
  ends-number (b ∷ bs) ends = no-digit b ends

  relations : IsReaderOf (object_text script) IsOfTable EndsName (λ bytes. made (λ t. object.Relation t) (behind (codes " relation") (table script) bytes))
  relations = made-into (object_text script) IsOfTable (λ t. object.Relation t) (behind-word (codes " relation") (tables script)) relation-parts (λ t is. (is, refl))

  tuples : IsReaderOf (object_text script) IsOfRow EndsNumber (λ bytes. made (λ r. object.Tuple r) (behind (codes " tuple") rid bytes))
  tuples = made-into (object_text script) IsOfRow (λ r. object.Tuple r) (behind-word (codes " tuple") rids) tuple-parts (λ r is. (is, refl))

  transactions : IsReaderOf (object_text script) IsOfTransaction EndsNumber (λ bytes. made (λ g. object.Transaction g) (behind (codes " transaction") gxid bytes))
  transactions = made-into (object_text script) IsOfTransaction (λ g. object.Transaction g) (behind-word (codes " transaction") gxids) transaction-parts (λ g is. (is, ap (λ x. codes " transaction" ++ x) (append-nil (gxid_text g))))

  pub objects : IsReaderOf (object_text script) (IsObject script) EndsName (read_object script)
  objects =
      said-as (IsObject script) EndsName
      (one-or-other (object_text script) IsOfTable (λ o. IsOfRow o ⊎ IsOfTransaction o) relations
      (said-as (λ o. IsOfRow o ⊎ IsOfTransaction o) EndsName (one-or-other (object_text script) IsOfRow IsOfTransaction tuples transactions not-transaction) (λ o is. is) (λ o is. is) ends-number) not-others)
      object-is is-object (λ rest ends. ends)
