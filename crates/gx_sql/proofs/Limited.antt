-- A script that was read keeps the rules and the limits of the language; no INSERT of it has more tuples than the script has bytes.
use Rattle.std.proofs.Common.{◌≡◌, inl, inr, ℕ, ◌+◌, ◌<◌, ◌≤◌, ◌^◌, nat_lt, Bool, true, false, if◌then◌else◌, is_some, List, [], ◌∷◌, ◌++◌, length, Option, Some, None, Result, Ok, Err, IfOk, refl, sym, ◌∙◌, ap, subst, arith}
use Rattle.std.specs.List.{AllByRecursion}
use Rattle.std.specs.Str.{IsUtf8}
use Rattle.std.proofs.lemmas.List.{length-append}
use Rattle.std.proofs.lemmas.List.Elements.{All-from_recursion}
use Rattle.gx_lex.specs.declared.token.Token.{Token}
use Rattle.gx_tree.specs.declared.schema.Schema.{Schema}
use Rattle.gx_grammar.specs.declared.fault.Limits.{Limits}
use Rattle.gx_lines.specs.declared.syn.GroupSyn.{GroupSyn}
use Rattle.gx_lines.specs.declared.syn.LineSyn.{LineSyn}
use Rattle.gx_lines.specs.declared.syn.LineSyn.TheVariants as line_syn
use Rattle.gx_lines.specs.Heads.{segments, head_line, session_line}
use Rattle.gx_resolve.specs.Results.{Answer}
use Rattle.gx_resolve.specs.Resolving.{stmt_of, table_from}
use Rattle.gx_script.specs.declared.Line.{Line}
use Rattle.gx_script.specs.declared.Script.{Script}
use Rattle.gx_sql.specs.declared.refusal.Limit.{Limit}
use Rattle.gx_sql.specs.declared.refusal.Limit.TheVariants as limit
use Rattle.gx_sql.specs.declared.refusal.LineFault.{LineFault}
use Rattle.gx_sql.specs.declared.refusal.LineFault.TheVariants as fault
use Rattle.gx_sql.specs.declared.refusal.Refusal.{Refusal}
use Rattle.gx_sql.specs.declared.refusal.Refusal.TheVariants as refusal
use Rattle.gx_sql.specs.Answering.{Answers}
use Rattle.gx_sql.specs.Counts.{PassesInHead, PassesInLine}
use Rattle.gx_store.specs.Language.{HasFaultsOnce, IsScript}
use Rattle.gx_store.specs.Limits.{HasTuplesTo, IsLineTo, HaveTuplesTo}
use Rattle.gx_sql.specs.Lines.{lines_of, is_skipped}
use Rattle.gx_sql.specs.Progress.{Progress, start, giving, is_known, is_on, with_line, with_segments, with_sessions, with_line_syn}
use Rattle.gx_sql.specs.Groups.{is_group, with_members}
use Rattle.gx_sql.specs.Script.{the_limits, Follows, Counts, Told, TokensSay, LineSays, Goes, Where, ended, script_of, ReadsOn, Reads}
use Rattle.gx_sql.proofs.Language.{IsKept, read_kept}
use Rattle.gx_sql.proofs.Filled.{IsWritten, more-written, stmt-written, stmt_of-filled}
use Rattle.gx_sql.proofs.Sizes.{AreShort, lines-short, tokens-few}

module _ (most : ℕ) where
  abbrev AreFilled : List Line → Type 0
  AreFilled ls = AllByRecursion (IsLineTo most) ls

  one-more : (ls : List Line) (l : Line) → AreFilled ls → HasTuplesTo most l.stmt → AreFilled (ls ++ l ∷ [])
  one-more [] l h one = (one, tt)
  one-more (k ∷ ls) l h one = (h.0, one-more ls l h.1 one)

  -- LINES BY THEIR RULES
  abbrev IsLineWritten : LineSyn → Type 0
  IsLineWritten (line_syn.Session name s) = IsWritten most s
  IsLineWritten _ = Unit {0}

  session-written : (d : Limits) (x : LineSyn) (ts : List Token) → length ts ≤ most → session_line d x ts → IsLineWritten x
  session-written d x ts few (a, e, (us, vs, name, (ws, xs, (b, f, (os, ls, colon, s, cut)), end, rest), all)) =
      let whole = ap length all ∙ length-append us vs in
      let behind = ap length rest ∙ length-append ws xs in
      let last = ap length cut ∙ length-append os ls in
      subst IsLineWritten (sym e) (subst (IsWritten most) (sym f) (more-written (length ls) most b.1 (omega (arith, few, whole, behind, last)) (stmt-written d b.1 ls s)))

  head-written : (n : ℕ) (d : Limits) (x : LineSyn) (ts : List Token) → length ts ≤ most → head_line n d x ts → IsLineWritten x
  head-written n d x ts few (inl (s, e, w)) = subst IsLineWritten (sym e) tt
  head-written n d x ts few (inr (inl (p, e, w))) = subst IsLineWritten (sym e) tt
  head-written n d x ts few (inr (inr (inl (p, e, w)))) = subst IsLineWritten (sym e) tt
  head-written n d x ts few (inr (inr (inr (inl (p, e, w))))) = subst IsLineWritten (sym e) tt
  head-written n d x ts few (inr (inr (inr (inr w)))) = session-written d x ts few w

  -- WHAT LINES ADD
  abbrev Fills : Progress → Type 0
  Fills p = AreFilled p.lines

  given : {A : Type 0} (f : A → Progress) (answer : Answer A) (q : Progress) → giving f answer ≡ Ok q → (a : A) × (answer ≡ Ok a) × (q ≡ f a)
  given f (Ok a) q e = (a, refl, cc)
  given f (Err k) q e = absurd cc

  detector-fills : (p q : Progress) (b on : Bool) → Fills p → (if b then Err fault.Syntax else Ok (record p { detector = Some on })) ≡ Ok q → Fills q
  detector-fills p q true on k e = absurd cc
  detector-fills p q false on k e = let same : record p { detector = Some on } ≡ q = cc in subst Fills same k

  sessions-fill : (p : Progress) (g : GroupSyn) (q : Progress) (r : Result (List (List ℕ × ℕ)) LineFault) → Fills p → with_sessions p g r ≡ Ok q → Fills q
  sessions-fill p g q (Ok members) k e = let same : q ≡ record p { groups = q.groups; members = q.members } = cc in subst Fills (sym same) k
  sessions-fill p g q (Err f) k e = absurd cc

  group-fills : (p : Progress) (g : GroupSyn) (q : Progress) (b : Bool) → Fills p → (if b then Err fault.Syntax else with_sessions p g (with_members (length p.groups) g.sessions (Ok p.members))) ≡ Ok q → Fills q
  group-fills p g q true k e = absurd cc
  group-fills p g q false k e = sessions-fill p g q (with_members (length p.groups) g.sessions (Ok p.members)) k e

  line-fills : (p : Progress) (x : LineSyn) (q : Progress) → Fills p → IsLineWritten x → with_line_syn p x ≡ Ok q → Fills q
  line-fills p (line_syn.Detector s) q k w e = detector-fills p q (is_some p.detector) (is_on s) k e
  line-fills p (line_syn.Table t) q k w e =
      let made = given (λ (schema : Schema). record p { tables = p.tables ++ schema ∷ [] }) (table_from (is_known t.name p.tables) t) q e in
      subst Fills (sym made.2) k
  line-fills p (line_syn.Link l) q k w e =
      let same : q ≡ record p { faults = q.faults } = cc in
      subst Fills (sym same) k
  line-fills p (line_syn.Group g) q k w e = group-fills p g q (is_group g.name p.groups) k e
  line-fills p (line_syn.Session name s) q k w e =
      let made = given (with_line p name) (stmt_of p.tables s) q e in
      subst Fills (sym made.2) (one-more p.lines _ k (stmt_of-filled most p.tables s made.0 made.1 w))

  read_of : {X : Type 0} (rule : Limits → X → List Token → Type 0) (go : X → Result Progress LineFault) (ts : List Token) (q : Progress) → Follows rule go ts (Ok q) → (x : X) × rule the_limits x ts × (go x ≡ Ok q)
  read_of rule go ts q (inl (x, h, e)) = (x, h, sym e)
  read_of rule go ts q (inr (f, v, e)) = absurd cc

  uncounted : (passes : Limit → Type 0) (follows : Result Progress LineFault → Type 0) (q : Progress) → Counts passes follows (Ok q) → follows (Ok q)
  uncounted passes follows q (inl (l, h, e)) = absurd cc
  uncounted passes follows q (inr (n, h)) = h

  told-fills : (n : ℕ) (p : Progress) (ls : List Line) (q : Progress) (ts : List Token) → length ts ≤ most → Fills p → Told n p ls ts (Ok q) → Fills q
  told-fills n p [] q ts few k h =
      let r = read_of (head_line n) (with_line_syn p) ts q (uncounted (PassesInHead the_limits (length p.tables) (length p.groups) p.sessions ts) (Follows (head_line n) (with_line_syn p) ts) q h) in
      line-fills p r.0 q k (head-written n the_limits r.0 ts few r.1) r.2
  told-fills n p (l ∷ ls) q ts few k h =
      let r = read_of session_line (with_line_syn p) ts q (uncounted (PassesInLine p.sessions ts) (Follows session_line (with_line_syn p) ts) q h) in
      line-fills p r.0 q k (session-written the_limits r.0 ts few r.1) r.2

  tokens-fill : (o : Option ℕ) (p q : Progress) (ts : List Token) → length ts ≤ most → Fills p → TokensSay o p ts (Ok q) → Fills q
  tokens-fill None p q ts few k h =
      let r = read_of segments (with_segments p) ts q h in
      let same : record p { segments = Some r.0.0 } ≡ q = cc in
      subst Fills same k
  tokens-fill (Some n) p q ts few k h = told-fills n p p.lines q ts few k h

  says-fills : (p : Progress) (line : List ℕ) (q : Progress) → length line ≤ most → Fills p → LineSays p line (Ok q) → Fills q
  says-fills p line q short k (ts, lexed, h) = let few = tokens-few ts line lexed in tokens-fill p.segments p q ts (omega (arith, short, few)) k h

  -- SCRIPTS
  ended-filled : (n : ℕ) (p : Progress) (o : Option ℕ) (s : Script) → Fills p → Ok s ≡ ended n p o → AreFilled s.lines
  ended-filled n p None s k e = absurd cc
  ended-filled n p (Some m) s k e = let same : script_of m p ≡ s = cc in subst (λ (s : Script). AreFilled s.lines) same k

  module _ (s : Script) where
    abbrev Rest : ℕ → List (List ℕ) → Type 0
    Rest n ls = (q : Progress) → Fills q → ReadsOn n q ls (Ok s) → AreFilled s.lines

    goes : (n : ℕ) (p : Progress) (line : List ℕ) (ls : List (List ℕ)) → length line ≤ most → Fills p → Rest (n + 1) ls → (q : Result Progress LineFault) → LineSays p line q → Goes n (λ (p : Progress). ReadsOn (n + 1) p ls (Ok s)) q (Ok s) → AreFilled s.lines
    goes n p line ls short k rest (Ok q) l g = rest q (says-fills p line q short k l) g
    goes n p line ls short k rest (Err e) l g = absurd cc

    skips : (b : Bool) (n : ℕ) (p : Progress) (line : List ℕ) (ls : List (List ℕ)) → length line ≤ most → Fills p → Rest (n + 1) ls → Where b (ReadsOn (n + 1) p ls (Ok s)) ((q : Result Progress LineFault) × LineSays p line q × Goes n (λ (p : Progress). ReadsOn (n + 1) p ls (Ok s)) q (Ok s)) → AreFilled s.lines
    skips true n p line ls short k rest h = rest p k h
    skips false n p line ls short k rest (q, l, g) = goes n p line ls short k rest q l g

    counts : (b : Bool) (n : ℕ) (p : Progress) (line : List ℕ) (ls : List (List ℕ)) → length line ≤ most → Fills p → Rest (n + 1) ls
        → Where b (Ok s ≡ Err (refusal.TooMany n limit.Lines)) (Where (is_skipped line) (ReadsOn (n + 1) p ls (Ok s)) ((q : Result Progress LineFault) × LineSays p line q × Goes n (λ (p : Progress). ReadsOn (n + 1) p ls (Ok s)) q (Ok s))) → AreFilled s.lines
    counts true n p line ls short k rest h = absurd cc
    counts false n p line ls short k rest h = skips (is_skipped line) n p line ls short k rest h

    lines-filled : (ls : List (List ℕ)) (n : ℕ) → AreShort most ls → Rest n ls
    lines-filled [] n short p k h = ended-filled n p p.segments s k h
    lines-filled (line ∷ ls) n short p k h = counts (nat_lt 100000 n) n p line ls short.0 k (lines-filled ls (n + 1) short.1) h

pub tuples-few : (most : ℕ) (bytes : List ℕ) (s : Script) → length bytes ≤ most → Reads bytes (Ok s) → HaveTuplesTo most s.lines
tuples-few most bytes s few (inl (u, h)) = All-from_recursion (IsLineTo most) s.lines (lines-filled most s (lines_of bytes) 1 (lines-short most bytes few) start tt h)
tuples-few most bytes s few (inr (n, e)) = absurd cc

pub script-kept : (bytes : List ℕ) (s : Script) → Reads bytes (Ok s) → IsKept s
script-kept bytes s (inl (u, h)) = read_kept bytes s h
script-kept bytes s (inr (n, e)) = absurd cc

pub script-is : (bytes : List ℕ) (s : Script) → length bytes < 2 ^ 32 → Reads bytes (Ok s) → IsScript s
script-is bytes s few h =
    let k = script-kept bytes s h in
    record {
      some_segments = k.some_segments;
      few_segments = k.few_segments;
      tables = k.tables;
      table_names = k.table_names;
      few_tables = k.few_tables;
      sessions = k.sessions;
      session_names = k.session_names;
      few_sessions = k.few_sessions;
      lines = k.lines;
      limits = k.limits;
      few_tuples = tuples-few 4294967295 bytes s (omega (arith, few)) h;
      few_lines = k.few_lines;
      numbers = k.numbers;
      order = k.order;
      groups = k.groups;
      restarts = k.restarts;
      faults = k.faults;
    }

pub faults-once : (bytes : List ℕ) (s : Script) → Reads bytes (Ok s) → HasFaultsOnce s
faults-once bytes s h = (script-kept bytes s h).once

pub read-is : (bytes : List ℕ) (r : Result Script Refusal) → length bytes < 2 ^ 32 → IsUtf8 bytes → Answers (ReadsOn 1 start (lines_of bytes)) r → IfOk r IsScript
read-is bytes (Ok s) few u h = script-is bytes s few (inl (u, h))
read-is bytes (Err e) few u h = tt
