-- A script that was read keeps the rules and the limits of the language.
use Rattle.std.proofs.Common.{◌≡◌, inl, inr, ℕ, ◌+◌, ◌<◌, ◌≤◌, nat_eq, nat_le, nat_lt, ◌==◌, max, if◌then◌else◌, is_some, Bool, true, false, not, ◌&&◌, ◌||◌, List, [], ◌∷◌, ◌++◌, length, map, All, Option, Some, None, Result, Ok, Err, refl, sym, ◌∙◌, ap, subst, arith}
use Rattle.std.specs.List.{list_any}
use Rattle.std.specs.Cmp.Lexicographic.{pointwise, other_text}
use Rattle.std.proofs.lemmas.Bool.{eq-eqb}
use Rattle.std.proofs.lemmas.List.Elements.{All-nil, All-push, All-map, All-weaker, All-from_recursion}
use Rattle.gx_lex.specs.declared.word.Word.TheVariants as word
use Rattle.gx_lex.specs.declared.symbol.Symbol.TheVariants as symbol
use Rattle.gx_lex.specs.declared.token.Token.{Token}
use Rattle.gx_lex.specs.declared.token.Token.TheVariants as token
use Rattle.gx_grammar.specs.declared.fault.Limits.{Limits}
use Rattle.gx_grammar.specs.declared.fault.LineLimit.TheVariants as line_limit
use Rattle.gx_grammar.specs.Rules.{Is, Isnt, Passes}
use Rattle.gx_grammar.specs.Tokens.{is_word, is_sign, listed}
use Rattle.gx_lines.specs.declared.classes.Segments.{Segments}
use Rattle.gx_lines.specs.declared.classes.Switch.{Switch}
use Rattle.gx_lines.specs.declared.syn.ColumnSyn.{ColumnSyn}
use Rattle.gx_lines.specs.declared.syn.GroupSyn.{GroupSyn}
use Rattle.gx_lines.specs.declared.syn.LinkSyn.{LinkSyn}
use Rattle.gx_lines.specs.declared.syn.StmtSyn.{StmtSyn}
use Rattle.gx_lines.specs.declared.syn.TableSyn.{TableSyn}
use Rattle.gx_lines.specs.declared.syn.LineSyn.{LineSyn}
use Rattle.gx_lines.specs.declared.syn.LineSyn.TheVariants as line_syn
use Rattle.gx_lines.specs.Classes.{segments_of, in_range, number_in}
use Rattle.gx_lines.specs.Queries.{name}
use Rattle.gx_lines.specs.Statements.{stmt as spelled}
use Rattle.gx_lines.specs.Heads.{segments, column, table, link, group, session_line, head_line}
use Rattle.gx_tree.specs.declared.schema.Column.{Column}
use Rattle.gx_tree.specs.declared.schema.Schema.{Schema}
use Rattle.gx_tree.specs.declared.stmt.Stmt.{Stmt}
use Rattle.gx_script.specs.declared.Line.{Line}
use Rattle.gx_script.specs.declared.LinkFault.{LinkFault}
use Rattle.gx_script.specs.declared.Script.{Script}
use Rattle.gx_resolve.specs.Results.{Answer}
use Rattle.gx_meaning.specs.Statements.{IsOneOf, AreDistinct, column_text, IsStmtOf}
use Rattle.gx_resolve.specs.Resolving.{column_as, stmt_of, table_from}
use Rattle.gx_resolve.proofs.Promised.{table_promise, stmt_of-keeps}
use Rattle.gx_sql.specs.declared.refusal.Limit.TheVariants as limit
use Rattle.gx_sql.specs.declared.refusal.LineFault.{LineFault}
use Rattle.gx_sql.specs.declared.refusal.LineFault.TheVariants as fault
use Rattle.gx_sql.specs.declared.refusal.Refusal.TheVariants as refusal
use Rattle.gx_sql.specs.Lines.{lines_of, is_skipped}
use Rattle.gx_sql.specs.Counts.{is_session}
use Rattle.gx_sql.specs.Held.{HasRoom}
use Rattle.gx_sql.specs.Progress.{Progress, start, giving, is_on, is_known, same_way, same_fault, with_fault, link_fault, place_of, count_of, counted, next_line, with_detector, with_table, with_link, with_group, with_line, with_session, with_sessions, with_line_syn}
use Rattle.gx_sql.specs.Groups.{is_group, with_members}
use Rattle.gx_sql.specs.declared.groups.GroupHead.{GroupHead}
use Rattle.gx_sql.specs.Script.{the_limits, Told, TokensSay, LineSays, Goes, Where, ReadsOn, script_of, ended}
use Rattle.gx_store.specs.Limits.{IsBoundedLine, IsBoundedStmt}
use Rattle.gx_store.specs.Language.{table_name, IsName, IsTable, IsLine, lines_in, AreLinesNumbered, BeginInOrder, IsFault, HasFaultsOnce}
use Rattle.gx_store.specs.Heads.{AreGroups}
use Rattle.gx_sql.proofs.Grouping.{IsHead, groups_are, head_name}
use Rattle.gx_sql.proofs.Held.{length_snoc}
use Rattle.gx_sql.proofs.Having.{AreProper, Has, AreSome, IsNamed, tokens_proper, front, back, behind_has, list_has, parens_have, name_named}
use Rattle.gx_sql.proofs.Small.{IsSmallStmt, stmt_small}
use Rattle.gx_sql.proofs.Bounded.{some_long, stmt_kept}
use Rattle.gx_sql.proofs.Named.{made_columns, table_made}
use Rattle.gx_sql.proofs.Room.{head_room, line_room}
use Rattle.gx_sql.proofs.Numbered.{distinct_snoc, unknown_apart, tables_snoc, stmt_more, names, other_apart, names_known, names_new, length_names, place_known, place_new, AreCounted, counted_next, count_is, none_next, order_known, order_new, numbered_snoc}

-- TOKENS
range_both : (a b n m : ℕ) → in_range a b n ≡ Is m → (a ≤ m) × (m ≤ b)
range_both a b n m e = pick (nat_le a n) (nat_le n b) refl refl
  where
    pick : (c f : Bool) → nat_le a n ≡ c → nat_le n b ≡ f → (a ≤ m) × (m ≤ b)
    pick true true p q =
        let same : n ≡ m = cc in
        let from : a ≤ n = grind arith in
        let to : n ≤ b = grind arith in
        (omega arith, omega arith)
    pick true false p q = absurd cc
    pick false f p q = absurd cc

number_both : (a b : ℕ) (y : Token) (m : ℕ) → number_in a b y ≡ Is m → (a ≤ m) × (m ≤ b)
number_both a b (token.Number (Some n)) m e = range_both a b n m e
number_both a b (token.Number None) m e = absurd cc
number_both a b (token.Word w) m e = absurd cc
number_both a b (token.Name n) m e = absurd cc
number_both a b (token.Text t) m e = absurd cc
number_both a b (token.Symbol s) m e = absurd cc
number_both a b token.Bad m e = absurd cc

segments_both : (k m : ℕ) (x : Segments) → (if k == 0 then Isnt else (if nat_le k m then Is (record { 0 = k }) else Passes line_limit.Segments)) ≡ Is x → (1 ≤ x.0) × (x.0 ≤ m)
segments_both k m x h = pick (k == 0) (nat_le k m) refl refl
  where
    pick : (b c : Bool) → (k == 0) ≡ b → nat_le k m ≡ c → (1 ≤ x.0) × (x.0 ≤ m)
    pick true c p q = absurd cc
    pick false true p q =
        let same : k ≡ x.0 = cc in
        let some : 1 ≤ k = grind arith in
        let few : k ≤ m = grind arith in
        (omega arith, omega arith)
    pick false false p q = absurd cc

token_both : (d : Limits) (y : Token) (x : Segments) → segments_of d y ≡ Is x → (1 ≤ x.0) × (x.0 ≤ max d.segments 1)
token_both d (token.Number (Some k)) x h = segments_both k (max d.segments 1) x h
token_both d (token.Number None) x h = segments_both 18446744073709551616 (max d.segments 1) x h
token_both d (token.Word w) x h = absurd cc
token_both d (token.Name n) x h = absurd cc
token_both d (token.Text t) x h = absurd cc
token_both d (token.Symbol s) x h = absurd cc
token_both d token.Bad x h = absurd cc

told_both : (d : Limits) (n : Segments) (ts : List Token) → segments d n ts → (1 ≤ n.0) × (n.0 ≤ max d.segments 1)
told_both d n ts (p, e, (us, vs, q, (y, m, f), r)) = subst (λ (n : Segments). (1 ≤ n.0) × (n.0 ≤ max d.segments 1)) (sym e) (token_both d y p.1 m)

-- COLUMNS
abbrev IsColumn : Limits → ColumnSyn → Type 0
IsColumn d c = IsNamed d c.name

column_named : (d : Limits) → Has (column d) (IsColumn d)
column_named d c ts e (p, q, (us, vs, w, m, k)) = subst (IsColumn d) (sym q) (name_named d p.0 us (front us vs (subst AreProper k e)) w)

-- LINES BY THEIR RULES
abbrev Fits : Limits → ℕ → LineSyn → Type 0
Fits d n (line_syn.Table t) = IsNamed d t.name × AreSome (IsColumn d) t.columns
Fits d n (line_syn.Link l) = (1 ≤ l.segment) × (l.segment ≤ n) × (1 ≤ l.number)
Fits d n (line_syn.Group g) = IsNamed d g.name × (1 ≤ g.limit) × (g.limit ≤ 18446744073709551615)
Fits d n (line_syn.Session name s) = IsNamed d name × IsSmallStmt s
Fits d n (line_syn.Detector s) = Unit {0}

table_fits : (d : Limits) (n : ℕ) (line : LineSyn) (ts : List Token) → AreProper ts → table d line ts → Fits d n line
table_fits d n line ts e (p, q, (us, vs, w, (us1, vs1, cs, m, k1), k)) =
    let both = subst AreProper k e in
    let rest = subst AreProper k1 (back us vs both) in
    subst (Fits d n) (sym q) (
      behind_has (is_word word.Table) (name d) (IsNamed d) (name_named d) p.0 us (front us vs both) w,
      parens_have (listed (column d)) (AreSome (IsColumn d)) (list_has (column d) (IsColumn d) (column_named d)) p.1.0 us1 (front us1 vs1 rest) cs,
    )

link_fits : (d : Limits) (n : ℕ) (line : LineSyn) (ts : List Token) → link n line ts → Fits d n line
link_fits d n line ts (p, e, (us, vs, q, (us2, vs2, q2, (us3, vs3, (y, ny, oy), (p4, e4, (ks, ls, k, (z, nz, oz), r4)), r3), r2), r1)) =
    let segment = number_both 1 n y p.1.1.0 ny in
    let number = number_both 1 18446744073709551615 z p4.1 nz in
    subst (Fits d n) (sym e) (segment.0, segment.1, subst (λ (m : ℕ). 1 ≤ m) (sym e4) number.0)

group_fits : (d : Limits) (n : ℕ) (line : LineSyn) (ts : List Token) → AreProper ts → group d line ts → Fits d n line
group_fits d n line ts e (p, q, (us, vs, w, (ws, xs, (p2, q2, (ls, ms, l, (y, ny, oy), t)), i, k1), k)) =
    let limit = number_both 1 18446744073709551615 y p2.1 ny in
    subst (Fits d n) (sym q) (
      behind_has (is_word word.Group) (name d) (IsNamed d) (name_named d) p.0 us (front us vs (subst AreProper k e)) w,
      subst (λ (m : ℕ). 1 ≤ m) (sym q2) limit.0,
      subst (λ (m : ℕ). m ≤ 18446744073709551615) (sym q2) limit.1,
    )

session_fits : (n : ℕ) (line : LineSyn) (ts : List Token) → AreProper ts → session_line the_limits line ts → Fits the_limits n line
session_fits n line ts e (p, q, (us, vs, w, (us1, vs1, s, m, k1), k)) =
    let both = subst AreProper k e in
    let rest = subst AreProper k1 (back us vs both) in
    subst (Fits the_limits n) (sym q) (
      name_named the_limits p.0 us (front us vs both) w,
      behind_has (is_sign symbol.Colon) (spelled the_limits) IsSmallStmt stmt_small p.1.0 us1 (front us1 vs1 rest) s,
    )

head_fits : (n : ℕ) (line : LineSyn) (ts : List Token) → AreProper ts → head_line n the_limits line ts → Fits the_limits n line
head_fits n line ts e (inl (a, q, w)) = subst (Fits the_limits n) (sym q) tt
head_fits n line ts e (inr (inl w)) = table_fits the_limits n line ts e w
head_fits n line ts e (inr (inr (inl w))) = link_fits the_limits n line ts w
head_fits n line ts e (inr (inr (inr (inl w)))) = group_fits the_limits n line ts e w
head_fits n line ts e (inr (inr (inr (inr w)))) = session_fits n line ts e w

-- WHAT LINES KEEP
abbrev KeepsFaults : Option ℕ → List LinkFault → Type 0
KeepsFaults None fs = fs ≡ []
KeepsFaults (Some n) fs = (1 ≤ n) × (n ≤ 16) × All (IsFault n) fs × AreDistinct fs

-- what lines before this number said keeps the rules
record Keeps (number : ℕ) (p : Progress) : Type 0 where
  pub tables : All IsTable p.tables
  pub table_names : AreDistinct (map table_name p.tables)
  pub few_tables : length p.tables ≤ 64
  pub sessions : All IsName (names p.sessions)
  pub session_names : AreDistinct (names p.sessions)
  pub few_sessions : length p.sessions ≤ 64
  pub lines : All (IsLine p.tables (length p.sessions)) p.lines
  pub limits : All IsBoundedLine p.lines
  pub few_lines : length p.lines < number
  pub numbers : AreLinesNumbered [] p.lines
  pub order : BeginInOrder 0 p.lines (length p.sessions)
  pub counts : AreCounted 0 p.sessions p.lines
  pub groups : All IsHead p.groups
  pub group_names : AreDistinct (map head_name p.groups)
  pub few_groups : length p.groups ≤ 64
  pub faults : KeepsFaults p.segments p.faults

keeps_more : (number : ℕ) (p : Progress) → Keeps number p → Keeps (number + 1) p
keeps_more number p k =
    let few = k.few_lines in
    record { tables = k.tables; table_names = k.table_names; few_tables = k.few_tables; sessions = k.sessions; session_names = k.session_names; few_sessions = k.few_sessions; lines = k.lines; limits = k.limits; few_lines = omega arith; numbers = k.numbers; order = k.order; counts = k.counts; groups = k.groups; group_names = k.group_names; few_groups = k.few_groups; faults = k.faults }

detector_keeps : (number : ℕ) (p : Progress) (s : Switch) (q : Progress) → Keeps number p → with_detector p s ≡ Ok q → Keeps number q
detector_keeps number p s q k e = pick (is_some p.detector) refl
  where
    pick : (b : Bool) → is_some p.detector ≡ b → Keeps number q
    pick true h = absurd cc
    pick false h =
        let same : q ≡ record p { detector = Some (is_on s) } = cc in
        subst (Keeps number) (sym same) (record { tables = k.tables; table_names = k.table_names; few_tables = k.few_tables; sessions = k.sessions; session_names = k.session_names; few_sessions = k.few_sessions; lines = k.lines; limits = k.limits; few_lines = k.few_lines; numbers = k.numbers; order = k.order; counts = k.counts; groups = k.groups; group_names = k.group_names; few_groups = k.few_groups; faults = k.faults })

way_is : (b : Bool) → same_way b b ≡ true
way_is true = refl
way_is false = refl

number_is : (n : ℕ) → (n == n) ≡ true
number_is n = eq-eqb n n refl

all_is : (a b c d : Bool) → a ≡ true → b ≡ true → c ≡ true → d ≡ true → (a && (b && (c && d))) ≡ true
all_is a b c d e f g h = cc

fault_is : (f : LinkFault) → same_fault f f ≡ true
fault_is f =
    all_is (same_way f.to_segment f.to_segment) (f.segment.0 == f.segment.0) (f.number == f.number) (same_way f.repeat f.repeat)
    (way_is f.to_segment) (number_is f.segment.0) (number_is f.number) (way_is f.repeat)

fault_apart : (f : LinkFault) (fs : List LinkFault) → list_any (same_fault f) fs ≡ false → ¬ (IsOneOf f fs)
fault_apart f [] e h = h
fault_apart f (g ∷ gs) e (inl s) =
    let same : same_fault f g ≡ true = subst (λ (g : LinkFault). same_fault f g ≡ true) s (fault_is f) in
    absurd (grind (arith, same, e))
fault_apart f (g ∷ gs) e (inr h) = fault_apart f gs (right (same_fault f g) (list_any (same_fault f) gs) e) h
  where
    right : (a b : Bool) → (a || b) ≡ false → b ≡ false
    right true b e = absurd cc
    right false b e = e

fault_kept : (n : ℕ) (fs : List LinkFault) (f : LinkFault) → IsFault n f → All (IsFault n) fs → AreDistinct fs
    → All (IsFault n) (with_fault f fs) × AreDistinct (with_fault f fs)
fault_kept n fs f is all once = pick (list_any (same_fault f) fs) refl
  where
    pick : (b : Bool) → list_any (same_fault f) fs ≡ b → All (IsFault n) (if b then fs else fs ++ f ∷ []) × AreDistinct (if b then fs else fs ++ f ∷ [])
    pick true e = (all, once)
    pick false e = (All-push (IsFault n) fs f all is, distinct_snoc fs f once (fault_apart f fs e))

faults_snoc : (o : Option ℕ) (n : ℕ) (fs : List LinkFault) (f : LinkFault) → o ≡ Some n → IsFault n f → KeepsFaults o fs → KeepsFaults o (with_fault f fs)
faults_snoc None n fs f e h k = absurd cc
faults_snoc (Some m) n fs f e h k =
    let same : n ≡ m = cc in
    let kept = fault_kept m fs f (subst (λ (n : ℕ). IsFault n f) same h) k.2 k.3 in
    (k.0, k.1, kept.0, kept.1)

link_keeps : (number n : ℕ) (p : Progress) (l : LinkSyn) (q : Progress) → p.segments ≡ Some n → Fits the_limits n (line_syn.Link l) → Keeps number p → with_link p l ≡ Ok q → Keeps number q
link_keeps number n p l q s f k e =
    let same : q ≡ record p { faults = with_fault (link_fault l) p.faults } = cc in
    subst (Keeps number) (sym same) (record { tables = k.tables; table_names = k.table_names; few_tables = k.few_tables; sessions = k.sessions; session_names = k.session_names; few_sessions = k.few_sessions; lines = k.lines; limits = k.limits; few_lines = k.few_lines; numbers = k.numbers; order = k.order; counts = k.counts; groups = k.groups; group_names = k.group_names; few_groups = k.few_groups; faults = faults_snoc p.segments n p.faults (link_fault l) s f k.faults })

-- a group more
group_apart : (name : List ℕ) (gs : List GroupHead) → is_group name gs ≡ false → ¬ (IsOneOf name (map head_name gs))
group_apart name [] e h = h
group_apart name (g ∷ gs) e h = at (pointwise nat_eq g.name name) refl (group_apart name gs) e h
  where
    at : (b : Bool) → pointwise nat_eq g.name name ≡ b → (is_group name gs ≡ false → ¬ (IsOneOf name (map head_name gs))) → (b || is_group name gs) ≡ false → IsOneOf name (g.name ∷ map head_name gs) → ⊥
    at true q rest e h = cc
    at false q rest e (inl s) = other_text g.name name (sym q) (sym s)
    at false q rest e (inr h) = rest e h

heads_snoc : (gs : List GroupHead) (g : GroupHead) → map head_name (gs ++ g ∷ []) ≡ map head_name gs ++ g.name ∷ []
heads_snoc [] g = refl
heads_snoc (h ∷ gs) g = ap (λ (ns : List (List ℕ)). h.name ∷ ns) (heads_snoc gs g)

sessions_keep : (number : ℕ) (p : Progress) (g : GroupSyn) (q : Progress) (r : Result (List (List ℕ × ℕ)) LineFault) → IsName g.name → 1 ≤ g.limit → g.limit ≤ 18446744073709551615 → length p.groups < 64 → is_group g.name p.groups ≡ false → Keeps number p → with_sessions p g r ≡ Ok q → Keeps number q
sessions_keep number p g q (Err f) short some fits few apart k e = absurd cc
sessions_keep number p g q (Ok members) short some fits few apart k e =
    let head : GroupHead = record { name = g.name; limit = g.limit } in
    let same : q ≡ record p { groups = p.groups ++ head ∷ []; members = members } = cc in
    let len = length_snoc p.groups head in
    subst (Keeps number) (sym same) (record {
      tables = k.tables;
      table_names = k.table_names;
      few_tables = k.few_tables;
      sessions = k.sessions;
      session_names = k.session_names;
      few_sessions = k.few_sessions;
      lines = k.lines;
      limits = k.limits;
      few_lines = k.few_lines;
      numbers = k.numbers;
      order = k.order;
      counts = k.counts;
      groups = All-push IsHead p.groups head k.groups (record { name = short; some_slots = some; fits = fits });
      group_names = subst AreDistinct (sym (heads_snoc p.groups head)) (distinct_snoc (map head_name p.groups) g.name k.group_names (group_apart g.name p.groups apart));
      few_groups = omega arith;
      faults = k.faults;
    })

group_keeps : (number n : ℕ) (p : Progress) (g : GroupSyn) (q : Progress) → Fits the_limits n (line_syn.Group g) → length p.groups < 64 → Keeps number p → with_group p g ≡ Ok q → Keeps number q
group_keeps number n p g q f room k e = pick (is_group g.name p.groups) refl e
  where
    pick : (b : Bool) → is_group g.name p.groups ≡ b → (if b then Err fault.Syntax else with_sessions p g (with_members (length p.groups) g.sessions (Ok p.members))) ≡ Ok q → Keeps number q
    pick true h e = absurd cc
    pick false h e = sessions_keep number p g q (with_members (length p.groups) g.sessions (Ok p.members)) f.0 f.1 f.2 room h k e

given : {A : Type 0} (f : A → Progress) (answer : Answer A) (q : Progress) → giving f answer ≡ Ok q → (a : A) × (answer ≡ Ok a) × (q ≡ f a)
given f (Ok a) q e = (a, refl, cc)
given f (Err x) q e = absurd cc

-- a table more
table_keeps : (number : ℕ) (p : Progress) (s : Schema) → IsTable s → ¬ (IsOneOf s.name (map table_name p.tables)) → length p.tables < 64 → Keeps number p → Keeps number (record p { tables = p.tables ++ s ∷ [] })
table_keeps number p s is apart few k =
    let len = length_snoc p.tables s in
    record {
      tables = All-push IsTable p.tables s k.tables is;
      table_names = subst AreDistinct (sym (tables_snoc p.tables s)) (distinct_snoc (map table_name p.tables) s.name k.table_names apart);
      few_tables = omega arith;
      sessions = k.sessions;
      session_names = k.session_names;
      few_sessions = k.few_sessions;
      lines = All-weaker (IsLine p.tables (length p.sessions)) (IsLine (p.tables ++ s ∷ []) (length p.sessions)) (λ (l : Line) h. (h.0, stmt_more p.tables s l.stmt h.1)) p.lines k.lines;
      limits = k.limits;
      few_lines = k.few_lines;
      numbers = k.numbers;
      order = k.order;
      counts = k.counts;
      groups = k.groups;
      group_names = k.group_names;
      few_groups = k.few_groups;
      faults = k.faults;
    }

declared_keeps : (number n : ℕ) (p : Progress) (t : TableSyn) (q : Progress) → Fits the_limits n (line_syn.Table t) → HasRoom (length p.tables) (length p.groups) p.sessions (line_syn.Table t) → Keeps number p → with_table p t ≡ Ok q → Keeps number q
declared_keeps number n p t q f room k e =
    let g = given (λ (schema : Schema). record p { tables = p.tables ++ schema ∷ [] }) (table_from (is_known t.name p.tables) t) q e in
    let made = table_made (is_known t.name p.tables) t g.0 g.1 in
    let columns = made.2 in
    let narrow = room.1 in
    let is : IsTable g.0 = record {
      name = subst IsName (sym made.1) f.0;
      schema = table_promise (is_known t.name p.tables) t (Ok g.0) g.1 (some_long t.columns f.1.0);
      few_columns = omega arith;
      column_names = subst (λ (cs : List Column). All IsName (map column_text cs)) (sym (made_columns (is_known t.name p.tables) t g.0 g.1)) (All-map IsName column_text (map column_as t.columns) (All-map (λ (c : Column). IsName c.name) column_as t.columns (All-from_recursion (IsColumn the_limits) t.columns f.1.1)));
    } in
    subst (Keeps number) (sym g.2) (table_keeps number p g.0 is (subst (λ (name : List ℕ). ¬ (IsOneOf name (map table_name p.tables))) (sym made.1) (unknown_apart t.name p.tables 0 made.0)) room.0 k)

-- a line more
module _ (number : ℕ) (p : Progress) (name : List ℕ) (stmt : Stmt) (k : Keeps number p) (short : IsName name) (is : IsStmtOf p.tables stmt) (bounded : IsBoundedStmt stmt) where
  abbrev Then : List (List ℕ × ℕ)
  Then = counted name (count_of name p.sessions + 1) p.sessions

  abbrev The : Line
  The = next_line name p.sessions stmt

  count : count_of name p.sessions ≡ lines_in (place_of name p.sessions) p.lines
  count = count_is 0 (place_of name p.sessions) (length p.sessions) name p.sessions p.lines k.counts (omega arith) (none_next 0 p.lines (length p.sessions) k.order) (omega arith)

  line_keeps : All IsName (names Then) → AreDistinct (names Then) → length Then ≤ 64 → length p.sessions ≤ length Then → place_of name p.sessions < length Then → BeginInOrder 0 (p.lines ++ The ∷ []) (length Then) → Keeps (number + 1) (with_line p name stmt)
  line_keeps all distinct few more less order =
      let len = length_snoc p.lines The in
      let before = k.few_lines in
      record {
        tables = k.tables;
        table_names = k.table_names;
        few_tables = k.few_tables;
        sessions = all;
        session_names = distinct;
        few_sessions = few;
        lines = All-push (IsLine p.tables (length Then)) p.lines The (All-weaker (IsLine p.tables (length p.sessions)) (IsLine p.tables (length Then)) (λ (l : Line) h. (longer l.session.0 h.0 more, h.1)) p.lines k.lines) (less, is);
        limits = All-push IsBoundedLine p.lines The k.limits bounded;
        few_lines = omega arith;
        numbers = numbered_snoc [] p.lines The (ap (λ (n : ℕ). n + 1) count) k.numbers;
        order = order;
        counts = counted_next 0 (count_of name p.sessions + 1) name p.sessions p.lines The (omega arith) (ap (λ (n : ℕ). n + 1) count) k.counts;
        groups = k.groups;
        group_names = k.group_names;
        few_groups = k.few_groups;
        faults = k.faults;
      }
    where
      longer : (i : ℕ) → i < length p.sessions → length p.sessions ≤ length Then → i < length Then
      longer i a b = omega arith

  known_keeps : is_session name p.sessions ≡ true → Keeps (number + 1) (with_line p name stmt)
  known_keeps e =
      let same = names_known name (count_of name p.sessions + 1) p.sessions e in
      let len : length Then ≡ length p.sessions = sym (length_names Then) ∙ ap length same ∙ length_names p.sessions in
      let place = place_known name p.sessions e in
      let few = k.few_sessions in
      line_keeps (subst (All IsName) (sym same) k.sessions) (subst AreDistinct (sym same) k.session_names) (omega arith) (omega arith) (omega arith) (subst (BeginInOrder 0 (p.lines ++ The ∷ [])) (sym len) (order_known 0 p.lines (length p.sessions) The place k.order))

  new_keeps : is_session name p.sessions ≡ false → length p.sessions < 64 → Keeps (number + 1) (with_line p name stmt)
  new_keeps e few =
      let more = names_new name (count_of name p.sessions + 1) p.sessions e in
      let len : length Then ≡ length p.sessions + 1 = sym (length_names Then) ∙ ap length more ∙ length_snoc (names p.sessions) name ∙ ap (λ (n : ℕ). n + 1) (length_names p.sessions) in
      let place = place_new name p.sessions e in
      line_keeps (subst (All IsName) (sym more) (All-push IsName (names p.sessions) name k.sessions short)) (subst AreDistinct (sym more) (distinct_snoc (names p.sessions) name k.session_names (other_apart name p.sessions e))) (omega arith) (omega arith) (omega arith) (subst (BeginInOrder 0 (p.lines ++ The ∷ [])) (sym len) (order_new 0 p.lines (length p.sessions) The place k.order))

  next_keeps : (nat_le 64 (length p.sessions) && not (is_session name p.sessions)) ≡ false → Keeps (number + 1) (with_line p name stmt)
  next_keeps room = pick (is_session name p.sessions) refl
    where
      pick : (b : Bool) → is_session name p.sessions ≡ b → Keeps (number + 1) (with_line p name stmt)
      pick true e = known_keeps e
      pick false e =
          let less : nat_le 64 (length p.sessions) ≡ false = grind arith in
          let few : length p.sessions < 64 = grind arith in
          new_keeps e few

session_keeps : (number : ℕ) (p : Progress) (name : List ℕ) (s : StmtSyn) (q : Progress) → IsName name → IsSmallStmt s → HasRoom (length p.tables) (length p.groups) p.sessions (line_syn.Session name s) → Keeps number p → with_session p name s ≡ Ok q → Keeps (number + 1) q
session_keeps number p name s q short small room k e =
    let g = given (with_line p name) (stmt_of p.tables s) q e in
    subst (Keeps (number + 1)) (sym g.2) (next_keeps number p name g.0 k short (stmt_of-keeps p.tables s g.0 g.1) (stmt_kept p.tables s g.0 k.tables small g.1) room)

syn_keeps : (number n : ℕ) (p : Progress) (l : LineSyn) (q : Progress) → p.segments ≡ Some n → Fits the_limits n l → HasRoom (length p.tables) (length p.groups) p.sessions l → Keeps number p → with_line_syn p l ≡ Ok q → Keeps (number + 1) q
syn_keeps number n p (line_syn.Detector s) q o f room k e = keeps_more number q (detector_keeps number p s q k e)
syn_keeps number n p (line_syn.Table t) q o f room k e = keeps_more number q (declared_keeps number n p t q f room k e)
syn_keeps number n p (line_syn.Link l) q o f room k e = keeps_more number q (link_keeps number n p l q o f k e)
syn_keeps number n p (line_syn.Group g) q o f room k e = keeps_more number q (group_keeps number n p g q f room k e)
syn_keeps number n p (line_syn.Session name s) q o f room k e = session_keeps number p name s q f.0 f.1 room k e

few_of : (o : Option ℕ) (n : ℕ) (fs : List LinkFault) → o ≡ Some n → KeepsFaults o fs → n ≤ 16
few_of None n fs e k = absurd cc
few_of (Some m) n fs e k = let same : m ≡ n = cc in subst (λ (n : ℕ). n ≤ 16) same k.1

told_keeps : (number n : ℕ) (p : Progress) (ls : List Line) (ts : List Token) (q : Progress) → AreProper ts → p.segments ≡ Some n → Keeps number p → Told n p ls ts (Ok q) → Keeps (number + 1) q
told_keeps number n p [] ts q proper o k (inl (l, h, e)) = absurd cc
told_keeps number n p [] ts q proper o k (inr (none, inl (x, h, e))) =
    syn_keeps number n p x q o (head_fits n x ts proper h) (head_room the_limits n (length p.tables) (length p.groups) p.sessions x ts (few_of p.segments n p.faults o k.faults) none h) k (sym e)
told_keeps number n p [] ts q proper o k (inr (none, inr (f, v, e))) = absurd cc
told_keeps number n p (l ∷ ls) ts q proper o k (inl (m, h, e)) = absurd cc
told_keeps number n p (l ∷ ls) ts q proper o k (inr (none, inl (x, h, e))) =
    syn_keeps number n p x q o (session_fits n x ts proper h) (line_room the_limits (length p.tables) (length p.groups) p.sessions x ts none h) k (sym e)
told_keeps number n p (l ∷ ls) ts q proper o k (inr (none, inr (f, v, e))) = absurd cc

no_faults : (o : Option ℕ) (fs : List LinkFault) → o ≡ None → KeepsFaults o fs → fs ≡ []
no_faults None fs e k = k
no_faults (Some n) fs e k = absurd cc

tokens_keep : (number : ℕ) (o : Option ℕ) (p : Progress) (ts : List Token) (q : Progress) → AreProper ts → p.segments ≡ o → Keeps number p → TokensSay o p ts (Ok q) → Keeps (number + 1) q
tokens_keep number None p ts q proper o k (inl (n, r, e)) =
    let same : q ≡ record p { segments = Some n.0 } = cc in
    let both = told_both the_limits n ts r in
    let none = no_faults p.segments p.faults o k.faults in
    subst (Keeps (number + 1)) (sym same) (keeps_more number (record p { segments = Some n.0 }) (record { tables = k.tables; table_names = k.table_names; few_tables = k.few_tables; sessions = k.sessions; session_names = k.session_names; few_sessions = k.few_sessions; lines = k.lines; limits = k.limits; few_lines = k.few_lines; numbers = k.numbers; order = k.order; counts = k.counts; groups = k.groups; group_names = k.group_names; few_groups = k.few_groups; faults = (both.0, both.1, subst (All (IsFault n.0)) (sym none) (All-nil (IsFault n.0)), subst AreDistinct (sym none) tt) }))
tokens_keep number None p ts q proper o k (inr (f, v, e)) = absurd cc
tokens_keep number (Some n) p ts q proper o k h = told_keeps number n p p.lines ts q proper o k h

-- SCRIPTS
-- what a script keeps however many bytes it has
pub record IsKept (script : Script) : Type 0 where
  pub some_segments : 1 ≤ script.segments
  pub few_segments : script.segments ≤ 16
  pub tables : All IsTable script.tables
  pub table_names : AreDistinct (map table_name script.tables)
  pub few_tables : length script.tables ≤ 64
  pub sessions : All IsName script.sessions
  pub session_names : AreDistinct script.sessions
  pub few_sessions : length script.sessions ≤ 64
  pub lines : All (IsLine script.tables (length script.sessions)) script.lines
  pub limits : All IsBoundedLine script.lines
  pub few_lines : length script.lines ≤ 100000
  pub numbers : AreLinesNumbered [] script.lines
  pub order : BeginInOrder 0 script.lines (length script.sessions)
  pub groups : AreGroups (length script.sessions) script.groups
  pub restarts : script.restarts ≡ []
  pub faults : All (IsFault script.segments) script.faults
  pub once : HasFaultsOnce script

ended_keeps : (number : ℕ) (o : Option ℕ) (p : Progress) (s : Script) → p.segments ≡ o → number ≤ 100001 → Keeps number p → Ok s ≡ ended number p o → IsKept s
ended_keeps number None p s o l k e = absurd cc
ended_keeps number (Some n) p s o l k e =
    let same : s ≡ script_of n p = cc in
    let faults : KeepsFaults (Some n) p.faults = subst (λ (o : Option ℕ). KeepsFaults o p.faults) o k.faults in
    let few = k.few_lines in
    subst IsKept (sym same) (record {
      some_segments = faults.0;
      few_segments = faults.1;
      tables = k.tables;
      table_names = k.table_names;
      few_tables = k.few_tables;
      sessions = k.sessions;
      session_names = k.session_names;
      few_sessions = subst (λ (n : ℕ). n ≤ 64) (sym (length_names p.sessions)) k.few_sessions;
      lines = subst (λ (n : ℕ). All (IsLine p.tables n) p.lines) (sym (length_names p.sessions)) k.lines;
      limits = k.limits;
      few_lines = omega arith;
      numbers = k.numbers;
      order = subst (BeginInOrder 0 p.lines) (sym (length_names p.sessions)) k.order;
      groups = groups_are p.members (names p.sessions) p.groups k.groups k.group_names k.few_groups;
      restarts = refl;
      faults = faults.2;
      once = faults.3;
    })

goes_keep : (number : ℕ) (go : Progress → Type 0) (q : Result Progress LineFault) (s : Script) → ((p : Progress) → q ≡ Ok p → go p → IsKept s) → Goes number go q (Ok s) → IsKept s
goes_keep number go (Ok p) s f h = f p refl h
goes_keep number go (Err e) s f h = absurd cc

reads_keep : (number : ℕ) (p : Progress) (ls : List (List ℕ)) (s : Script) → number ≤ 100001 → Keeps number p → ReadsOn number p ls (Ok s) → IsKept s
reads_keep number p [] s l k h = ended_keeps number p.segments p s refl l k h
reads_keep number p (line ∷ ls) s l k h = within (nat_lt 100000 number) refl (λ q m k h. reads_keep (number + 1) q ls s m k h) h
  where
    says : ((q : Progress) → Keeps (number + 1) q → ReadsOn (number + 1) q ls (Ok s) → IsKept s) → (b : Bool) → Where b (ReadsOn (number + 1) p ls (Ok s)) ((q : Result Progress LineFault) × LineSays p line q × Goes number (λ (p : Progress). ReadsOn (number + 1) p ls (Ok s)) q (Ok s)) → IsKept s
    says rest true h = rest p (keeps_more number p k) h
    says rest false (q, (ts, lexed, t), g) =
        goes_keep number (λ (p : Progress). ReadsOn (number + 1) p ls (Ok s)) q s (λ u e h. rest u (tokens_keep number p.segments p ts u (tokens_proper ts line lexed) refl k (subst (TokensSay p.segments p ts) e t)) h) g

    within : (b : Bool) → nat_lt 100000 number ≡ b → ((q : Progress) → number + 1 ≤ 100001 → Keeps (number + 1) q → ReadsOn (number + 1) q ls (Ok s) → IsKept s)
        → Where b (Ok s ≡ Err (refusal.TooMany number limit.Lines)) (Where (is_skipped line) (ReadsOn (number + 1) p ls (Ok s)) ((q : Result Progress LineFault) × LineSays p line q × Goes number (λ (p : Progress). ReadsOn (number + 1) p ls (Ok s)) q (Ok s))) → IsKept s
    within true e rest h = absurd cc
    within false e rest h =
        let few : number ≤ 100000 = grind arith in
        says (λ q. rest q (omega arith)) (is_skipped line) h

start_keeps : Keeps 1 start
start_keeps = record { tables = All-nil IsTable; table_names = tt; few_tables = omega arith; sessions = All-nil IsName; session_names = tt; few_sessions = omega arith; lines = All-nil (IsLine [] 0); limits = All-nil IsBoundedLine; few_lines = omega arith; numbers = tt; order = refl; counts = tt; groups = All-nil IsHead; group_names = tt; few_groups = omega arith; faults = refl }

pub read_kept : (bytes : List ℕ) (s : Script) → ReadsOn 1 start (lines_of bytes) (Ok s) → IsKept s
read_kept bytes s h = reads_keep 1 start (lines_of bytes) s (omega arith) start_keeps h
