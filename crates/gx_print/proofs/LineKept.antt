-- What each line of a script was read from.
use Rattle.std.proofs.Common.{◌≡◌, inl, inr, ℕ, ◌+◌, ◌≤◌, Bool, true, false, List, [], ◌∷◌, ◌++◌, length, Option, Some, None, Result, Ok, Err, nat_lt, IfOk, Vec, is_some, if◌then◌else◌, refl, sym, ◌∙◌, ap, subst, arith}
use Rattle.std.specs.declared.alloc.Global.{Global}
use Rattle.gx_lex.specs.declared.token.Token.{Token}
use Rattle.gx_lex.specs.Lexing.{Lexes}
use Rattle.gx_tree.specs.declared.schema.Schema.{Schema}
use Rattle.gx_grammar.specs.declared.fault.Limits.{Limits}
use Rattle.gx_lines.specs.declared.syn.StmtSyn.{StmtSyn}
use Rattle.gx_lines.specs.declared.syn.TableSyn.{TableSyn}
use Rattle.gx_lines.specs.declared.syn.GroupSyn.{GroupSyn}
use Rattle.gx_lines.specs.declared.syn.LinkSyn.{LinkSyn}
use Rattle.gx_lines.specs.declared.syn.LineSyn.{LineSyn}
use Rattle.gx_lines.specs.declared.syn.LineSyn.TheVariants as line_syn
use Rattle.gx_lines.specs.declared.classes.Switch.{Switch}
use Rattle.gx_lines.specs.Statements.{stmt}
use Rattle.gx_lines.specs.Heads.{segments, head_line, session_line, detector, table}
use Rattle.gx_resolve.specs.Results.{Answer}
use Rattle.gx_resolve.specs.Resolving.{stmt_of, table_from, new_table}
use Rattle.gx_resolve.proofs.Promised.{table_promise}
use Rattle.gx_print.specs.Limited.{Each, IsWithin, StmtClear}
use Rattle.gx_print.specs.Reading.{IsTable, AreTables, HasSize}
use Rattle.gx_print.specs.Written.{written, printed}
use Rattle.gx_print.proofs.TableNames.{declared_table}
use Rattle.gx_print.proofs.StmtWithin.{stmt_within}
use Rattle.gx_print.proofs.Printed.{text_again}
use Rattle.gx_print.proofs.StmtResolved.{read_again}
use Rattle.gx_script.specs.declared.Line.{Line}
use Rattle.gx_script.specs.declared.Script.{Script}
use Rattle.gx_sql.specs.declared.refusal.Limit.{Limit}
use Rattle.gx_sql.specs.declared.refusal.Limit.TheVariants as limit
use Rattle.gx_sql.specs.declared.refusal.LineFault.{LineFault}
use Rattle.gx_sql.specs.declared.refusal.LineFault.TheVariants as fault
use Rattle.gx_sql.specs.declared.refusal.Refusal.TheVariants as refusal
use Rattle.gx_sql.specs.Lines.{lines_of, is_skipped}
use Rattle.gx_sql.specs.Progress.{Progress, start, giving, is_known, is_on, link_fault, with_detector, with_fault, with_table, with_group, with_link, with_line, with_session, with_sessions, with_segments, with_line_syn}
use Rattle.gx_sql.specs.Groups.{is_group, with_members}
use Rattle.gx_sql.specs.Counts.{PassesInHead, PassesInLine}
use Rattle.gx_sql.specs.Script.{the_limits, Follows, Counts, Told, TokensSay, LineSays, Goes, Where, ended, script_of, ReadsOn, Reads}
use Rattle.gx_print.specs.Reprinting.{Among, ReadsAs}
use Rattle.gx_print.specs.OneLine.{IsOneLine}
use Rattle.gx_print.proofs.Coded.{lines_one, tokens_one}
use Rattle.gx_print.proofs.Texts.{AreOne, front, back, StmtOne, stmt_one}
use Rattle.gx_print.proofs.Printing.{stmt_line}

-- a statement was read over these tables, with texts that may stand in a line
abbrev WasRead : List Schema → Line → Type 0
WasRead tables l = (ts : List Token) × (s : StmtSyn) × stmt the_limits s ts × (stmt_of tables s ≡ Ok l.stmt) × StmtOne s

-- the tables so far are the language's, and each line was read over them
record Kept (p : Progress) : Type 0 where
  tables : AreTables the_limits p.tables
  lines : Each (WasRead p.tables) p.lines

each_snoc : {A : Type 0} (P : A → Type 0) (xs : List A) (x : A) → Each P xs → P x → Each P (xs ++ x ∷ [])
each_snoc P [] x h q = (q, tt)
each_snoc P (y ∷ xs) x h q = (h.0, each_snoc P xs x h.1 q)

given : {A X : Type 0} (f : A → X) (answer : Answer A) (x : X) → giving f answer ≡ Ok x → (a : A) × (answer ≡ Ok a) × (x ≡ f a)
given f (Ok a) x e = (a, refl, cc)
given f (Err k) x e = absurd cc

-- TABLES
some_column : (d : Limits) (t : TableSyn) (ts : List Token) → table d (line_syn.Table t) ts → 1 ≤ length t.columns
some_column d t ts (p, e, (us, vs, q, (ws, xs, (w, e2, (zs, bs, (x, e3, (os, ls, on, (y, e4, li), r3)), cl, r2)), di, r1), r0)) =
    let columns : t.columns ≡ y.0 ∷ y.1 = same_columns t e ∙ e2 ∙ e3 ∙ e4 in
    let len = ap length columns in
    omega arith
  where
    same_columns : (t : TableSyn) → line_syn.Table t ≡ line_syn.Table (record { name = p.0; columns = p.1.0; dist = p.1.1 }) → t.columns ≡ p.1.0
    same_columns t e = cc

made_new : (known : Bool) (t : TableSyn) (s : Schema) → table_from known t ≡ Ok s → new_table t ≡ Ok s
made_new true t s e = absurd cc
made_new false t s e = e

table_kept : (p : Progress) (t : TableSyn) (q : Progress) (line : List ℕ) (ts : List Token) → p.lines ≡ [] → Kept p → Lexes ts line → table the_limits (line_syn.Table t) ts → with_table p t ≡ Ok q → Kept q
table_kept p t q line ts none k l h e =
    let made = given (λ (schema : Schema). record p { tables = p.tables ++ schema ∷ [] }) (table_from (is_known t.name p.tables) t) q e in
    let rules = table_promise (is_known t.name p.tables) t (Ok made.0) made.1 (some_column the_limits t ts h) in
    let is = declared_table the_limits t made.0 ts line l h (made_new (is_known t.name p.tables) t made.0 made.1) rules in
    let tables = each_snoc (IsTable the_limits) p.tables made.0 k.tables is in
    subst Kept (sym made.2) (record { tables = tables; lines = subst (λ (ls : List Line). Each (WasRead (p.tables ++ made.0 ∷ [])) ls) (sym none) tt })

-- LINES
session_kept : (p : Progress) (name : List ℕ) (s : StmtSyn) (q : Progress) (ts : List Token) → Kept p → stmt the_limits s ts → AreOne ts → with_session p name s ≡ Ok q → Kept q
session_kept p name s q ts k h one e =
    let made = given (with_line p name) (stmt_of p.tables s) q e in
    subst Kept (sym made.2) (record { tables = k.tables; lines = each_snoc (WasRead p.tables) p.lines _ k.lines (ts, s, h, made.1, stmt_one the_limits s ts one h) })

detector_kept : (p : Progress) (s : Switch) (q : Progress) → Kept p → with_detector p s ≡ Ok q → Kept q
detector_kept p s q k e = pick p.detector e
  where
    pick : (o : Option Bool) → (if is_some o then Err fault.Syntax else Ok (record p { detector = Some (is_on s) })) ≡ Ok q → Kept q
    pick (Some b) h = absurd cc
    pick None h = let same : q ≡ record p { detector = Some (is_on s) } = cc in subst Kept (sym same) (record { tables = k.tables; lines = k.lines })

link_kept : (p : Progress) (l : LinkSyn) (q : Progress) → Kept p → with_link p l ≡ Ok q → Kept q
link_kept p l q k e = let same : q ≡ record p { faults = with_fault (link_fault l) p.faults } = cc in subst Kept (sym same) (record { tables = k.tables; lines = k.lines })

sessions_kept : (p : Progress) (g : GroupSyn) (q : Progress) (r : Result (List (List ℕ × ℕ)) LineFault) → Kept p → with_sessions p g r ≡ Ok q → Kept q
sessions_kept p g q (Ok members) k e = let same : q ≡ record p { groups = p.groups ++ record { name = g.name; limit = g.limit } ∷ []; members = members } = cc in subst Kept (sym same) (record { tables = k.tables; lines = k.lines })
sessions_kept p g q (Err f) k e = absurd cc

group_kept : (p : Progress) (g : GroupSyn) (q : Progress) → Kept p → with_group p g ≡ Ok q → Kept q
group_kept p g q k e = pick (is_group g.name p.groups) e
  where
    pick : (b : Bool) → (if b then Err fault.Syntax else with_sessions p g (with_members (length p.groups) g.sessions (Ok p.members))) ≡ Ok q → Kept q
    pick true e = absurd cc
    pick false e = sessions_kept p g q (with_members (length p.groups) g.sessions (Ok p.members)) k e

-- a session's line holds a statement of the rule
line_kept : (p : Progress) (x : LineSyn) (q : Progress) (ts : List Token) → Kept p → AreOne ts → session_line the_limits x ts → with_line_syn p x ≡ Ok q → Kept q
line_kept p x q ts k one (a, e, (us, vs, n, (ws, xs, (b, f, (os, ls, on, st, r3)), en, r1), r0)) h =
    session_kept p a.0 a.1.0 q ls k (subst (λ (s : StmtSyn). stmt the_limits s ls) (sym f) st) (back ws os ls r3 (front vs ws xs r1 (back ts us vs r0 one))) (ap (with_line_syn p) (sym e) ∙ h)

head_kept : (n : ℕ) (p : Progress) (x : LineSyn) (q : Progress) (line : List ℕ) (ts : List Token) → p.lines ≡ [] → Kept p → Lexes ts line → AreOne ts → head_line n the_limits x ts → with_line_syn p x ≡ Ok q → Kept q
head_kept n p x q line ts none k l one (inl (s, e, w)) h = detector_kept p s q k (ap (with_line_syn p) (sym e) ∙ h)
head_kept n p x q line ts none k l one (inr (inl w)) h = tabled x h w
  where
    tabled : (x : LineSyn) → with_line_syn p x ≡ Ok q → table the_limits x ts → Kept q
    tabled (line_syn.Table t) h w = table_kept p t q line ts none k l w h
    tabled (line_syn.Detector s) h w = absurd (let e = w.1 in cc)
    tabled (line_syn.Link s) h w = absurd (let e = w.1 in cc)
    tabled (line_syn.Group s) h w = absurd (let e = w.1 in cc)
    tabled (line_syn.Session n s) h w = absurd (let e = w.1 in cc)
head_kept n p x q line ts none k l one (inr (inr (inl (a, e, w)))) h = link_kept p _ q k (ap (with_line_syn p) (sym e) ∙ h)
head_kept n p x q line ts none k l one (inr (inr (inr (inl (a, e, w))))) h = group_kept p _ q k (ap (with_line_syn p) (sym e) ∙ h)
head_kept n p x q line ts none k l one (inr (inr (inr (inr w)))) h = line_kept p x q ts k one w h

read_of : {X : Type 0} (rule : Limits → X → List Token → Type 0) (go : X → Result Progress LineFault) (ts : List Token) (q : Progress) → Follows rule go ts (Ok q) → (x : X) × rule the_limits x ts × (go x ≡ Ok q)
read_of rule go ts q (inl (x, h, e)) = (x, h, sym e)
read_of rule go ts q (inr (f, v, e)) = absurd cc

uncounted : (passes : Limit → Type 0) (follows : Result Progress LineFault → Type 0) (q : Progress) → Counts passes follows (Ok q) → follows (Ok q)
uncounted passes follows q (inl (l, h, e)) = absurd cc
uncounted passes follows q (inr (n, h)) = h

told_kept : (n : ℕ) (p : Progress) (ls : List Line) (q : Progress) (line : List ℕ) (ts : List Token) → ls ≡ p.lines → Kept p → Lexes ts line → AreOne ts → Told n p ls ts (Ok q) → Kept q
told_kept n p [] q line ts s k l one h =
    let r = read_of (head_line n) (with_line_syn p) ts q (uncounted (PassesInHead the_limits (length p.tables) (length p.groups) p.sessions ts) (Follows (head_line n) (with_line_syn p) ts) q h) in
    head_kept n p r.0 q line ts (sym s) k l one r.1 r.2
told_kept n p (m ∷ ls) q line ts s k l one h =
    let r = read_of session_line (with_line_syn p) ts q (uncounted (PassesInLine p.sessions ts) (Follows session_line (with_line_syn p) ts) q h) in
    line_kept p r.0 q ts k one r.1 r.2

tokens_kept : (o : Option ℕ) (p : Progress) (q : Progress) (line : List ℕ) (ts : List Token) → Kept p → Lexes ts line → AreOne ts → TokensSay o p ts (Ok q) → Kept q
tokens_kept None p q line ts k l one h =
    let r = read_of segments (with_segments p) ts q h in
    let same : q ≡ record p { segments = Some r.0.0 } = cc in
    subst Kept (sym same) (record { tables = k.tables; lines = k.lines })
tokens_kept (Some n) p q line ts k l one h = told_kept n p p.lines q line ts refl k l one h

says_kept : (p : Progress) (line : List ℕ) (q : Progress) → Kept p → IsOneLine line → LineSays p line (Ok q) → Kept q
says_kept p line q k one (ts, l, h) = tokens_kept p.segments p q line ts k l (tokens_one ts line one l) h

-- SCRIPTS
abbrev Whole : Script → Type 0
Whole s = AreTables the_limits s.tables × Each (WasRead s.tables) s.lines

ended_whole : (n : ℕ) (p : Progress) (o : Option ℕ) (s : Script) → Kept p → Ok s ≡ ended n p o → Whole s
ended_whole n p None s k e = absurd cc
ended_whole n p (Some m) s k e = let same : s ≡ script_of m p = cc in subst Whole (sym same) (k.tables, k.lines)

lines_whole : (n : ℕ) (p : Progress) (ls : List (List ℕ)) (s : Script) → Kept p → Each IsOneLine ls → ReadsOn n p ls (Ok s) → Whole s
lines_whole n p [] s k one h = ended_whole n p p.segments s k h
lines_whole n p (line ∷ ls) s k one h = counted (nat_lt 100000 n) (lines_whole (n + 1) p ls s k one.1) (λ q g. lines_whole (n + 1) q ls s g one.1) h
  where
    goes : ((q : Progress) → Kept q → ReadsOn (n + 1) q ls (Ok s) → Whole s) → (q : Result Progress LineFault) → LineSays p line q → Goes n (λ (p : Progress). ReadsOn (n + 1) p ls (Ok s)) q (Ok s) → Whole s
    goes f (Ok q) l g = f q (says_kept p line q k one.0 l) g
    goes f (Err e) l g = absurd cc

    skipped : (b : Bool) → (ReadsOn (n + 1) p ls (Ok s) → Whole s) → ((q : Progress) → Kept q → ReadsOn (n + 1) q ls (Ok s) → Whole s) → Where b (ReadsOn (n + 1) p ls (Ok s)) ((q : Result Progress LineFault) × LineSays p line q × Goes n (λ (p : Progress). ReadsOn (n + 1) p ls (Ok s)) q (Ok s)) → Whole s
    skipped true f g h = f h
    skipped false f g (q, l, h) = goes g q l h

    counted : (b : Bool) → (ReadsOn (n + 1) p ls (Ok s) → Whole s) → ((q : Progress) → Kept q → ReadsOn (n + 1) q ls (Ok s) → Whole s) → Where b (Ok s ≡ Err (refusal.TooMany n limit.Lines)) (Where (is_skipped line) (ReadsOn (n + 1) p ls (Ok s)) ((q : Result Progress LineFault) × LineSays p line q × Goes n (λ (p : Progress). ReadsOn (n + 1) p ls (Ok s)) q (Ok s))) → Whole s
    counted true f g h = absurd cc
    counted false f g h = skipped (is_skipped line) f g h

script_whole : (bytes : List ℕ) (s : Script) → Reads bytes (Ok s) → Whole s
script_whole bytes s (inl (u, h)) = lines_whole 1 start (lines_of bytes) s (record { tables = tt; lines = tt }) (lines_one bytes u) h
script_whole bytes s (inr (n, e)) = absurd cc

among_each : {A : Type 0} (P : A → Type 0) (x : A) (xs : List A) → Each P xs → Among x xs → P x
among_each P x [] h a = absurd a
among_each P x (y ∷ xs) h (inl e) = subst P (sym e) h.0
among_each P x (y ∷ xs) h (inr a) = among_each P x xs h.1 a

-- a line of a script that was read is written within the limits, with the language's names and numbers
pub line_written : (bytes : List ℕ) (s : Script) (l : Line) → Reads bytes (Ok s) → Among l s.lines → HasSize l.stmt → IsWithin the_limits (written s.tables l.stmt) × StmtClear (written s.tables l.stmt)
line_written bytes s l h a size =
    let whole = script_whole bytes s h in
    let read = among_each (WasRead s.tables) l s.lines whole.1 a in
    let again = read_again the_limits s.tables read.1 l.stmt whole.0 (stmt_within the_limits read.1 read.0 read.2) size read.3 in
    (again.within, again.clear)

-- the printed form of a line of a script that was read
pub line_again : (bytes : List ℕ) (s : Script) (l : Line) → Reads bytes (Ok s) → Among l s.lines → HasSize l.stmt → ReadsAs s.tables l.stmt (printed s.tables l.stmt) × IsOneLine (printed s.tables l.stmt)
line_again bytes s l h a size =
    let whole = script_whole bytes s h in
    let read = among_each (WasRead s.tables) l s.lines whole.1 a in
    let again = read_again the_limits s.tables read.1 l.stmt whole.0 (stmt_within the_limits read.1 read.0 read.2) size read.3 in
    let text = text_again the_limits (written s.tables l.stmt) again.clear again.within in
    ((text.0, written s.tables l.stmt, text.1, text.2, again.again), stmt_line (written s.tables l.stmt) again.clear (again.texts read.4))

-- what holds of the text that was pushed
pub text_ok : {E : Type 0} (P : List ℕ → Type 0) (bs : List ℕ) (r : Result (Vec ℕ Global) E) → IfOk r (λ v. v.items ≡ bs) → P bs → IfOk r (λ v. P v.items)
text_ok P bs (Ok v) e h = subst P (sym e) h
text_ok P bs (Err k) e h = tt
