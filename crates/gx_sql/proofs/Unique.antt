-- Bytes are read as one thing.
use Rattle.std.proofs.Common.{◌≡◌, ◌⊎◌, inl, inr, ℕ, ◌+◌, ◌≤◌, nat_le, nat_lt, ◌==◌, max, if◌then◌else◌, is_some, Bool, true, false, ◌&&◌, List, [], ◌∷◌, ◌++◌, length, Option, Some, None, Result, Ok, Err, refl, sym, ◌∙◌, ap, subst, arith}
use Rattle.gx_lex.specs.declared.token.Token.{Token}
use Rattle.gx_lex.specs.declared.token.Token.TheVariants as token
use Rattle.gx_lex.specs.declared.word.Word.TheVariants as word
use Rattle.gx_lex.specs.declared.symbol.Symbol.TheVariants as symbol
use Rattle.gx_grammar.specs.declared.fault.Limits.{Limits}
use Rattle.gx_grammar.specs.declared.fault.Fault.{Fault}
use Rattle.gx_grammar.specs.declared.fault.LineLimit.TheVariants as line_limit_of
use Rattle.gx_lines.specs.declared.classes.Segments.{Segments}
use Rattle.gx_lines.specs.declared.classes.Switch.{Switch}
use Rattle.gx_lines.specs.declared.syn.GroupSyn.{GroupSyn}
use Rattle.gx_lines.specs.declared.syn.LineSyn.{LineSyn}
use Rattle.gx_lines.specs.declared.syn.LineSyn.TheVariants as line_syn
use Rattle.gx_lines.specs.Classes.{segments_of}
use Rattle.gx_tree.specs.declared.schema.Schema.{Schema}
use Rattle.gx_resolve.specs.Results.{Answer}
use Rattle.gx_resolve.specs.Resolving.{stmt_of, table_from}
use Rattle.gx_lex.proofs.Lexed.{lexed}
use Rattle.gx_grammar.specs.Tokens.{is_word}
use Rattle.gx_grammar.specs.Rules.{Is, Isnt, Passes, Reading, whole_at}
use Rattle.gx_grammar.proofs.Good.{Good, Always}
use Rattle.gx_grammar.proofs.Lines.{whole_complete}
use Rattle.gx_lines.specs.Heads.{segments, segments_at, head_line, head_at, session_line, session_at}
use Rattle.gx_lines.specs.declared.syn.ColumnSyn.{ColumnSyn}
use Rattle.gx_lines.proofs.Told.{word_is}
use Rattle.gx_lines.proofs.HeadGood.{Nothing, segments_good, head_good, session_good}
use Rattle.gx_script.specs.declared.Line.{Line}
use Rattle.gx_script.specs.declared.Script.{Script}
use Rattle.gx_sql.specs.declared.refusal.Limit.{Limit}
use Rattle.gx_sql.specs.declared.refusal.Limit.TheVariants as limit
use Rattle.gx_sql.specs.declared.refusal.LineFault.{LineFault}
use Rattle.gx_sql.specs.declared.refusal.LineFault.TheVariants as fault
use Rattle.gx_sql.specs.declared.refusal.Refusal.{Refusal}
use Rattle.gx_sql.specs.declared.refusal.Refusal.TheVariants as refusal
use Rattle.gx_sql.specs.Lines.{lines_of, is_skipped}
use Rattle.gx_sql.specs.Answering.{Answers, Is as IsAnswer}
use Rattle.gx_sql.specs.Progress.{Progress, start, giving, is_on, is_known, link_fault, with_detector, with_fault, with_group, with_line, with_segments, with_sessions, with_line_syn}
use Rattle.gx_sql.specs.Groups.{is_group, with_members}
use Rattle.gx_sql.specs.Counts.{passes_sessions, passes_tables, passes_groups, begun_table, PassesColumns, PassesInHead, PassesInLine}
use Rattle.gx_sql.specs.Script.{the_limits, fault_of_tokens, Follows, Counts, Told, TokensSay, LineSays, Goes, Where, ReadsOn, Reads}
use Rattle.gx_sql.proofs.Room.{behind_name}
use Rattle.gx_sql.proofs.Verdicts.{read_fault, one_fault}

one_value : {X Y : Type 0} (a : Result X Y) (x y : X) → a ≡ Ok x → a ≡ Ok y → x ≡ y
one_value a x y p q = cc

-- by a rule with a reader
module _ {X : Type 0} (rule : Limits → X → List Token → Type 0) (ends : List Token → Type 0) (reader : Limits → List Token → Reading X) (R : Good rule ends reader) (last : ends []) (go : X → Result Progress LineFault) (ts : List Token) where
  follows_one : (r s : Result Progress LineFault) → Follows rule go ts r → Follows rule go ts s → r ≡ s
  follows_one r s (inl (x, q, e)) (inl (y, h, f)) =
      e ∙ ap go (one_value (whole_at (reader the_limits) ts) x y (whole_complete rule ends reader R last the_limits x ts q) (whole_complete rule ends reader R last the_limits y ts h)) ∙ sym f
  follows_one r s (inl (x, q, e)) (inr (k, v, f)) = absurd (read_fault rule the_limits ts x k q v)
  follows_one r s (inr (k, v, e)) (inl (x, q, f)) = absurd (read_fault rule the_limits ts x k q v)
  follows_one r s (inr (k, v, e)) (inr (m, w, f)) = e ∙ ap (λ (k : Fault). Err (fault_of_tokens k)) (one_fault rule the_limits ts k m v w) ∙ sym f

counts_one : (passes : Limit → Type 0) (follows : Result Progress LineFault → Type 0) → ((l m : Limit) → passes l → passes m → l ≡ m) → ((r s : Result Progress LineFault) → follows r → follows s → r ≡ s)
    → (r s : Result Progress LineFault) → Counts passes follows r → Counts passes follows s → r ≡ s
counts_one passes follows one same r s (inl (l, p, e)) (inl (m, q, f)) = e ∙ ap (λ (l : Limit). Err (fault.TooMany l)) (one l m p q) ∙ sym f
counts_one passes follows one same r s (inl (l, p, e)) (inr (n, h)) = absurd (n l p)
counts_one passes follows one same r s (inr (n, h)) (inl (l, p, e)) = absurd (n l p)
counts_one passes follows one same r s (inr (n, h)) (inr (m, k)) = same r s h k

-- a line passes one count
line_limit : (ss : List (List ℕ × ℕ)) (ts : List Token) (l : Limit) → PassesInLine ss ts l → l ≡ limit.Sessions
line_limit ss ts limit.Sessions h = refl
line_limit ss ts limit.Tables h = absurd h
line_limit ss ts limit.Groups h = absurd h
line_limit ss ts limit.Columns h = absurd h
line_limit ss ts limit.Segments h = absurd h
line_limit ss ts limit.Lines h = absurd h
line_limit ss ts limit.Name h = absurd h
line_limit ss ts limit.Text h = absurd h
line_limit ss ts limit.Depth h = absurd h

table_first : (d : Limits) (t : List ℕ × List ColumnSyn) (us rest : List Token) (ss : List (List ℕ × ℕ)) → begun_table d t us → passes_sessions ss (us ++ rest) ≡ false
table_first d t us rest ss (vs, ws, q, r, e) =
    let first = behind_name word.Table d t.0 vs q in
    ap (λ (us : List Token). passes_sessions ss (us ++ rest)) (e ∙ ap (λ (vs : List Token). vs ++ ws) first.3)
    ∙ ap (λ (k : Token). passes_sessions ss (k ∷ token.Name first.1 ∷ (ws ++ rest))) (word_is word.Table first.0 first.2)

columns_session : (d : Limits) (ss : List (List ℕ × ℕ)) (ts : List Token) → PassesColumns d ts → passes_sessions ss ts ≡ false
columns_session d ss ts p = ap (passes_sessions ss) p.tokens ∙ table_first d p.table p.begun (token.Symbol symbol.Comma ∷ token.Name p.further ∷ p.rest) ss p.written

tables_session : (n : ℕ) (ss : List (List ℕ × ℕ)) (ts : List Token) → passes_tables n ts ≡ true → passes_sessions ss ts ≡ true → ⊥
tables_session n ss [] p q = cc
tables_session n ss (y ∷ []) p q = cc
tables_session n ss (token.Name m ∷ z ∷ ts) p q = named z p
  where
    no_word : (b : Bool) → (b && false) ≡ true → ⊥
    no_word true e = cc
    no_word false e = cc

    named : (z : Token) → passes_tables n (token.Name m ∷ z ∷ ts) ≡ true → ⊥
    named (token.Name k) p = no_word (nat_le 64 n) p
    named (token.Word w) p = cc
    named (token.Number k) p = cc
    named (token.Text t) p = cc
    named (token.Symbol s) p = cc
    named token.Bad p = cc
tables_session n ss (token.Word w ∷ z ∷ ts) p q = cc
tables_session n ss (token.Number k ∷ z ∷ ts) p q = cc
tables_session n ss (token.Text t ∷ z ∷ ts) p q = cc
tables_session n ss (token.Symbol s ∷ z ∷ ts) p q = cc
tables_session n ss (token.Bad ∷ z ∷ ts) p q = cc

-- a line begins with one word
group_first : (k : ℕ) (d : Limits) (t : List ℕ × List ColumnSyn) (us rest : List Token) → begun_table d t us → passes_groups k (us ++ rest) ≡ false
group_first k d t us rest (vs, ws, q, r, e) =
    let first = behind_name word.Table d t.0 vs q in
    ap (λ (us : List Token). passes_groups k (us ++ rest)) (e ∙ ap (λ (vs : List Token). vs ++ ws) first.3)
    ∙ ap (λ (y : Token). passes_groups k (y ∷ token.Name first.1 ∷ (ws ++ rest))) (word_is word.Table first.0 first.2)
    ∙ none (nat_le 64 k)
  where
    none : (b : Bool) → (b && false) ≡ false
    none true = refl
    none false = refl

columns_groups : (k : ℕ) (d : Limits) (ts : List Token) → PassesColumns d ts → passes_groups k ts ≡ false
columns_groups k d ts p = ap (passes_groups k) p.tokens ∙ group_first k d p.table p.begun (token.Symbol symbol.Comma ∷ token.Name p.further ∷ p.rest) p.written

-- a line of a 65th group is no other's
passes-groups : (k : ℕ) (ts : List Token) → passes_groups k ts ≡ true → (m : List ℕ) × (rest : List Token) × (ts ≡ token.Word word.Group ∷ token.Name m ∷ rest)
passes-groups k [] p = absurd cc
passes-groups k (y ∷ []) p = absurd cc
passes-groups k (y ∷ token.Name m ∷ ts) p = (m, ts, ap (λ (y : Token). y ∷ token.Name m ∷ ts) (word_is word.Group y (second (nat_le 64 k) (is_word word.Group y) p)))
  where
    second : (b c : Bool) → (b && c) ≡ true → c ≡ true
    second true c e = e
    second false c e = absurd cc
passes-groups k (y ∷ token.Word w ∷ ts) p = absurd cc
passes-groups k (y ∷ token.Number w ∷ ts) p = absurd cc
passes-groups k (y ∷ token.Text w ∷ ts) p = absurd cc
passes-groups k (y ∷ token.Symbol w ∷ ts) p = absurd cc
passes-groups k (y ∷ token.Bad ∷ ts) p = absurd cc

no_word : (b : Bool) → (b && false) ≡ true → ⊥
no_word true e = cc
no_word false e = cc

groups_session : (k : ℕ) (ss : List (List ℕ × ℕ)) (ts : List Token) → passes_groups k ts ≡ true → passes_sessions ss ts ≡ true → ⊥
groups_session k ss ts p q = let is = passes-groups k ts p in absurd (false_true (sym (ap (passes_sessions ss) is.2) ∙ q))
  where
    false_true : false ≡ true → ⊥
    false_true e = cc

groups_tables : (k n : ℕ) (ts : List Token) → passes_groups k ts ≡ true → passes_tables n ts ≡ true → ⊥
groups_tables k n ts p q = let is = passes-groups k ts p in no_word (nat_le 64 n) (sym (ap (passes_tables n) is.2) ∙ q)

-- which count a head passes
abbrev InHead : Limits → ℕ → ℕ → List (List ℕ × ℕ) → List Token → Limit → Type 0
InHead d n k ss ts l = ((l ≡ limit.Sessions) × (passes_sessions ss ts ≡ true)) ⊎ (((l ≡ limit.Tables) × (passes_tables n ts ≡ true)) ⊎ (((l ≡ limit.Columns) × (passes_tables n ts ≡ false) × PassesColumns d ts) ⊎ ((l ≡ limit.Groups) × (passes_groups k ts ≡ true))))

in_head : (d : Limits) (n k : ℕ) (ss : List (List ℕ × ℕ)) (ts : List Token) (l : Limit) → PassesInHead d n k ss ts l → InHead d n k ss ts l
in_head d n k ss ts limit.Sessions h = inl (refl, h)
in_head d n k ss ts limit.Tables h = inr (inl (refl, h))
in_head d n k ss ts limit.Groups h = inr (inr (inr (refl, h)))
in_head d n k ss ts limit.Columns h = inr (inr (inl (refl, h.0, h.1)))
in_head d n k ss ts limit.Segments h = absurd h
in_head d n k ss ts limit.Lines h = absurd h
in_head d n k ss ts limit.Name h = absurd h
in_head d n k ss ts limit.Text h = absurd h
in_head d n k ss ts limit.Depth h = absurd h

head_one : (d : Limits) (n k : ℕ) (ss : List (List ℕ × ℕ)) (ts : List Token) (l m : Limit) → InHead d n k ss ts l → InHead d n k ss ts m → l ≡ m
head_one d n k ss ts l m (inl (e, p)) (inl (f, q)) = e ∙ sym f
head_one d n k ss ts l m (inl (e, p)) (inr (inl (f, q))) = absurd (tables_session n ss ts q p)
head_one d n k ss ts l m (inl (e, p)) (inr (inr (inl (f, t, q)))) = let other = columns_session d ss ts q in absurd cc
head_one d n k ss ts l m (inl (e, p)) (inr (inr (inr (f, q)))) = absurd (groups_session k ss ts q p)
head_one d n k ss ts l m (inr (inl (e, p))) (inl (f, q)) = absurd (tables_session n ss ts p q)
head_one d n k ss ts l m (inr (inl (e, p))) (inr (inl (f, q))) = e ∙ sym f
head_one d n k ss ts l m (inr (inl (e, p))) (inr (inr (inl (f, t, q)))) = absurd cc
head_one d n k ss ts l m (inr (inl (e, p))) (inr (inr (inr (f, q)))) = absurd (groups_tables k n ts q p)
head_one d n k ss ts l m (inr (inr (inl (e, t, p)))) (inl (f, q)) = let other = columns_session d ss ts p in absurd cc
head_one d n k ss ts l m (inr (inr (inl (e, t, p)))) (inr (inl (f, q))) = absurd cc
head_one d n k ss ts l m (inr (inr (inl (e, t, p)))) (inr (inr (inl (f, u, q)))) = e ∙ sym f
head_one d n k ss ts l m (inr (inr (inl (e, t, p)))) (inr (inr (inr (f, q)))) = let other = columns_groups k d ts p in absurd cc
head_one d n k ss ts l m (inr (inr (inr (e, p)))) (inl (f, q)) = absurd (groups_session k ss ts p q)
head_one d n k ss ts l m (inr (inr (inr (e, p)))) (inr (inl (f, q))) = absurd (groups_tables k n ts p q)
head_one d n k ss ts l m (inr (inr (inr (e, p)))) (inr (inr (inl (f, u, q)))) = let other = columns_groups k d ts q in absurd cc
head_one d n k ss ts l m (inr (inr (inr (e, p)))) (inr (inr (inr (f, q)))) = e ∙ sym f

-- LINES
told_one : (n : ℕ) (some : 1 ≤ n) (p : Progress) (ls : List Line) (ts : List Token) (r s : Result Progress LineFault) → Told n p ls ts r → Told n p ls ts s → r ≡ s
told_one n some p [] ts r s h k =
    counts_one (PassesInHead the_limits (length p.tables) (length p.groups) p.sessions ts) (Follows (head_line n) (with_line_syn p) ts) (λ l m a b. head_one the_limits (length p.tables) (length p.groups) p.sessions ts l m (in_head the_limits (length p.tables) (length p.groups) p.sessions ts l a) (in_head the_limits (length p.tables) (length p.groups) p.sessions ts m b))
    (follows_one (head_line n) Nothing (head_at n) (head_good n some) tt (with_line_syn p) ts) r s h k
told_one n some p (l ∷ ls) ts r s h k =
    counts_one (PassesInLine p.sessions ts) (Follows session_line (with_line_syn p) ts) (λ l m a b. line_limit p.sessions ts l a ∙ sym (line_limit p.sessions ts m b))
    (follows_one session_line Nothing session_at session_good tt (with_line_syn p) ts) r s h k

-- there is a segment where they were told
abbrev pub SomeSegments : Option ℕ → Type 0
SomeSegments None = Unit {0}
SomeSegments (Some n) = 1 ≤ n

tokens_one : (o : Option ℕ) (p : Progress) (ts : List Token) (r s : Result Progress LineFault) → SomeSegments o → TokensSay o p ts r → TokensSay o p ts s → r ≡ s
tokens_one None p ts r s o h k = follows_one segments Always segments_at segments_good tt (with_segments p) ts r s h k
tokens_one (Some n) p ts r s o h k = told_one n o p p.lines ts r s h k

-- SEGMENTS STAY
number_some : (k m : ℕ) (x : Segments) → (if k == 0 then Isnt else (if nat_le k m then Is (record { 0 = k }) else Passes line_limit_of.Segments)) ≡ Is x → 1 ≤ x.0
number_some k m x h = pick (k == 0) (nat_le k m) refl refl
  where
    pick : (b c : Bool) → (k == 0) ≡ b → nat_le k m ≡ c → 1 ≤ x.0
    pick true c p q = absurd cc
    pick false true p q =
        let same : k ≡ x.0 = cc in
        let some : 1 ≤ k = grind arith in
        omega arith
    pick false false p q = absurd cc

token_some : (d : Limits) (y : Token) (x : Segments) → segments_of d y ≡ Is x → 1 ≤ x.0
token_some d (token.Number (Some k)) x h = number_some k (max d.segments 1) x h
token_some d (token.Number None) x h = number_some 18446744073709551616 (max d.segments 1) x h
token_some d (token.Word w) x h = absurd cc
token_some d (token.Name n) x h = absurd cc
token_some d (token.Text t) x h = absurd cc
token_some d (token.Symbol s) x h = absurd cc
token_some d token.Bad x h = absurd cc

segments_some : (d : Limits) (n : Segments) (ts : List Token) → segments d n ts → 1 ≤ n.0
segments_some d n ts (p, e, (us, vs, q, (y, m, f), r)) = subst (λ (n : Segments). 1 ≤ n.0) (sym e) (token_some d y p.1 m)

giving_keeps : {A : Type 0} (p : Progress) (f : A → Progress) (answer : Answer A) (q : Progress) → ((a : A) → (f a).segments ≡ p.segments) → giving f answer ≡ Ok q → q.segments ≡ p.segments
giving_keeps p f (Ok a) q k e = let same : q ≡ f a = cc in ap (λ (q : Progress). q.segments) same ∙ k a
giving_keeps p f (Err x) q k e = absurd cc

detector_keeps : (p : Progress) (s : Switch) (q : Progress) → with_detector p s ≡ Ok q → q.segments ≡ p.segments
detector_keeps p s q e = pick (is_some p.detector) refl
  where
    pick : (b : Bool) → is_some p.detector ≡ b → q.segments ≡ p.segments
    pick true h = absurd cc
    pick false h = let same : q ≡ record p { detector = Some (is_on s) } = cc in ap (λ (q : Progress). q.segments) same

sessions_keep : (p : Progress) (g : GroupSyn) (q : Progress) (r : Result (List (List ℕ × ℕ)) LineFault) → with_sessions p g r ≡ Ok q → q.segments ≡ p.segments
sessions_keep p g q (Ok members) e = let same : q ≡ record p { groups = p.groups ++ record { name = g.name; limit = g.limit } ∷ []; members = members } = cc in ap (λ (q : Progress). q.segments) same
sessions_keep p g q (Err f) e = absurd cc

group_keeps : (p : Progress) (g : GroupSyn) (q : Progress) → with_group p g ≡ Ok q → q.segments ≡ p.segments
group_keeps p g q e = pick (is_group g.name p.groups) e
  where
    pick : (b : Bool) → (if b then Err fault.Syntax else with_sessions p g (with_members (length p.groups) g.sessions (Ok p.members))) ≡ Ok q → q.segments ≡ p.segments
    pick true e = absurd cc
    pick false e = sessions_keep p g q (with_members (length p.groups) g.sessions (Ok p.members)) e

syn_keeps : (p : Progress) (l : LineSyn) (q : Progress) → with_line_syn p l ≡ Ok q → q.segments ≡ p.segments
syn_keeps p (line_syn.Detector s) q e = detector_keeps p s q e
syn_keeps p (line_syn.Table t) q e = giving_keeps p (λ (schema : Schema). record p { tables = p.tables ++ schema ∷ [] }) (table_from (is_known t.name p.tables) t) q (λ schema. refl) e
syn_keeps p (line_syn.Link l) q e = let same : q ≡ record p { faults = with_fault (link_fault l) p.faults } = cc in ap (λ (q : Progress). q.segments) same
syn_keeps p (line_syn.Group g) q e = group_keeps p g q e
syn_keeps p (line_syn.Session n s) q e = giving_keeps p (with_line p n) (stmt_of p.tables s) q (λ stmt. refl) e

follows_keeps : (rule : Limits → LineSyn → List Token → Type 0) (p : Progress) (ts : List Token) (q : Progress) → Follows rule (with_line_syn p) ts (Ok q) → q.segments ≡ p.segments
follows_keeps rule p ts q (inl (x, h, e)) = syn_keeps p x q (sym e)
follows_keeps rule p ts q (inr (f, v, e)) = absurd cc

counts_keep : (passes : Limit → Type 0) (rule : Limits → LineSyn → List Token → Type 0) (p : Progress) (ts : List Token) (q : Progress) → Counts passes (Follows rule (with_line_syn p) ts) (Ok q) → q.segments ≡ p.segments
counts_keep passes rule p ts q (inl (l, h, e)) = absurd cc
counts_keep passes rule p ts q (inr (n, h)) = follows_keeps rule p ts q h

told_keeps : (n : ℕ) (p : Progress) (ls : List Line) (ts : List Token) (q : Progress) → Told n p ls ts (Ok q) → q.segments ≡ p.segments
told_keeps n p [] ts q h = counts_keep (PassesInHead the_limits (length p.tables) (length p.groups) p.sessions ts) (head_line n) p ts q h
told_keeps n p (l ∷ ls) ts q h = counts_keep (PassesInLine p.sessions ts) session_line p ts q h

tokens_some : (o : Option ℕ) (p : Progress) (ts : List Token) (q : Progress) → o ≡ p.segments → SomeSegments o → TokensSay o p ts (Ok q) → SomeSegments q.segments
tokens_some None p ts q s h (inl (n, r, e)) =
    let same : q ≡ record p { segments = Some n.0 } = cc in
    subst (λ (q : Progress). SomeSegments q.segments) (sym same) (segments_some the_limits n ts r)
tokens_some None p ts q s h (inr (f, v, e)) = absurd cc
tokens_some (Some n) p ts q s h k = subst SomeSegments (s ∙ sym (told_keeps n p p.lines ts q k)) h

line_some : (p : Progress) (line : List ℕ) (q : Progress) → SomeSegments p.segments → LineSays p line (Ok q) → SomeSegments q.segments
line_some p line q h (ts, l, k) = tokens_some p.segments p ts q refl h k

line_one : (p : Progress) (line : List ℕ) (r s : Result Progress LineFault) → SomeSegments p.segments → LineSays p line r → LineSays p line s → r ≡ s
line_one p line r s o (ts, l, h) (us, m, k) =
    let same : us ≡ ts = sym (lexed us line m) ∙ lexed ts line l in
    tokens_one p.segments p ts r s o h (subst (λ (ts : List Token). TokensSay p.segments p ts s) same k)

-- SCRIPTS
goes_one : (n : ℕ) (go : Progress → Result Script Refusal → Type 0) (q : Result Progress LineFault) (r s : Result Script Refusal) → ((p : Progress) → q ≡ Ok p → go p r → go p s → r ≡ s) → Goes n (λ (p : Progress). go p r) q r → Goes n (λ (p : Progress). go p s) q s → r ≡ s
goes_one n go (Ok p) r s f h k = f p refl h k
goes_one n go (Err e) r s f h k = h ∙ sym k

where_one : (b : Bool) (P Q P' Q' R : Type 0) → (P → P' → R) → (Q → Q' → R) → Where b P Q → Where b P' Q' → R
where_one true P Q P' Q' R f g h k = f h k
where_one false P Q P' Q' R f g h k = g h k

abbrev Said : ℕ → Progress → List ℕ → List (List ℕ) → Result Script Refusal → Type 0
Said n p line ls r = (q : Result Progress LineFault) × LineSays p line q × Goes n (λ (p : Progress). ReadsOn (n + 1) p ls r) q r

said_one : (n : ℕ) (p : Progress) (line : List ℕ) (ls : List (List ℕ)) (r s : Result Script Refusal) → SomeSegments p.segments → ((q : Progress) → SomeSegments q.segments → ReadsOn (n + 1) q ls r → ReadsOn (n + 1) q ls s → r ≡ s) → Said n p line ls r → Said n p line ls s → r ≡ s
said_one n p line ls r s o f (q, l, h) (t, m, k) =
    let same = line_one p line t q o m l in
    goes_one n (λ (p : Progress) (r : Result Script Refusal). ReadsOn (n + 1) p ls r) q r s (λ u e a b. f u (line_some p line u o (subst (λ (q : Result Progress LineFault). LineSays p line q) e l)) a b) h (subst (λ (q : Result Progress LineFault). Goes n (λ (p : Progress). ReadsOn (n + 1) p ls s) q s) same k)

pub reads_on_one : (n : ℕ) (p : Progress) (ls : List (List ℕ)) (r s : Result Script Refusal) → SomeSegments p.segments → ReadsOn n p ls r → ReadsOn n p ls s → r ≡ s
reads_on_one n p [] r s o h k = h ∙ sym k
reads_on_one n p (line ∷ ls) r s o h k =
    where_one (nat_lt 100000 n) (r ≡ Err (refusal.TooMany n limit.Lines)) (Where (is_skipped line) (ReadsOn (n + 1) p ls r) (Said n p line ls r)) (s ≡ Err (refusal.TooMany n limit.Lines)) (Where (is_skipped line) (ReadsOn (n + 1) p ls s) (Said n p line ls s)) (r ≡ s)
    (λ a b. a ∙ sym b)
    (λ a b. where_one (is_skipped line) (ReadsOn (n + 1) p ls r) (Said n p line ls r) (ReadsOn (n + 1) p ls s) (Said n p line ls s) (r ≡ s) (reads_on_one (n + 1) p ls r s o) (said_one n p line ls r s o (λ q. reads_on_one (n + 1) q ls r s)) a b)
    h k

pub reads_one : (bytes : List ℕ) (r s : Result Script Refusal) → Reads bytes r → Reads bytes s → r ≡ s
reads_one bytes r s (inl (u, h)) (inl (v, k)) = reads_on_one 1 start (lines_of bytes) r s tt h k
reads_one bytes r s (inl (u, h)) (inr (n, k)) = absurd (n u)
reads_one bytes r s (inr (n, h)) (inl (u, k)) = absurd (n u)
reads_one bytes r s (inr (n, h)) (inr (m, k)) = h ∙ sym k

-- what may be answered is what is read, unless memory ran out
pub answered_is : (bytes : List ℕ) (a r : Result Script Refusal) → Answers (Reads bytes) a → Reads bytes r → IsAnswer a r
answered_is bytes (Ok s) r h k = reads_one bytes (Ok s) r h k
answered_is bytes (Err (refusal.Syntax n)) r h k = reads_one bytes (Err (refusal.Syntax n)) r h k
answered_is bytes (Err (refusal.UnknownTable n)) r h k = reads_one bytes (Err (refusal.UnknownTable n)) r h k
answered_is bytes (Err (refusal.UnknownColumn n)) r h k = reads_one bytes (Err (refusal.UnknownColumn n)) r h k
answered_is bytes (Err (refusal.TableExists n)) r h k = reads_one bytes (Err (refusal.TableExists n)) r h k
answered_is bytes (Err (refusal.TypeMismatch n)) r h k = reads_one bytes (Err (refusal.TypeMismatch n)) r h k
answered_is bytes (Err (refusal.KeyUpdate n)) r h k = reads_one bytes (Err (refusal.KeyUpdate n)) r h k
answered_is bytes (Err (refusal.TooMany n l)) r h k = reads_one bytes (Err (refusal.TooMany n l)) r h k
answered_is bytes (Err (refusal.NotUtf8 n)) r h k = reads_one bytes (Err (refusal.NotUtf8 n)) r h k
answered_is bytes (Err refusal.OutOfMemory) r h k = tt
