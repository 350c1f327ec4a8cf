-- Texts that lead a reader from what was said before them to what was said behind them.
use Rattle.std.proofs.Common.{◌≡◌, inl, inr, ℕ, ◌+◌, ◌≤◌, nat_le, Bool, true, false, not, ◌&&◌, List, [], ◌∷◌, ◌++◌, length, Some, Result, Ok, sym, ◌∙◌, ap, subst, append_assoc, arith}
use Rattle.std.specs.Prelude.{IsUtf8}
use Rattle.std.proofs.lemmas.Str.{IsUtf8-append, IsUtf8-from_ascii}
use Rattle.gx_lex.specs.declared.symbol.Symbol.TheVariants as symbol
use Rattle.gx_lex.specs.declared.token.Token.{Token}
use Rattle.gx_lex.specs.declared.token.Token.TheVariants as token
use Rattle.gx_tree.specs.declared.stmt.Stmt.{Stmt}
use Rattle.gx_script.specs.declared.Line.{Line}
use Rattle.gx_script.specs.declared.Script.{Script}
use Rattle.gx_lines.specs.declared.syn.LineSyn.TheVariants.{Session}
use Rattle.gx_sql.specs.declared.refusal.Limit.{Limit}
use Rattle.gx_sql.specs.declared.refusal.Limit.TheVariants as limit
use Rattle.gx_sql.specs.declared.refusal.Refusal.{Refusal}
use Rattle.gx_sql.specs.Counts.{PassesInLine, is_session}
use Rattle.gx_sql.specs.Lines.{lines_of, is_skipped}
use Rattle.gx_sql.specs.Progress.{Progress, start, giving, with_line}
use Rattle.gx_sql.specs.Script.{the_limits, LineSays, ReadsOn, Where}
use Rattle.gx_sql.proofs.Steps.{step_read}
use Rattle.gx_print.specs.OneLine.{line_of}
use Rattle.gx_print.specs.Reading.{IsNamed}
use Rattle.gx_print.specs.Reprinting.{ReadsAs}
use Rattle.gx_print.proofs.Cuts.{name_before_colon}
use Rattle.gx_print.proofs.OneLine.{spelled, unskipped}
use Rattle.gx_work.proofs.Bytes.{IsPlain, ascii, lines_of-plain}
use Rattle.gx_work.proofs.Statements.{Tables}

-- a text of so many lines, behind which the rest is read on
pub record Leads (count : ℕ) (text : List ℕ) (p q : Progress) : Type 0 where
  pub coded : IsUtf8 text
  pub reads : (number : ℕ) (rest : List ℕ) (r : Result Script Refusal) → number + count ≤ 100001 → ReadsOn (number + count) q (lines_of rest) r → ReadsOn number p (lines_of (text ++ rest)) r

pub nowhere : (p : Progress) → Leads 0 [] p p
nowhere p = record {
  coded = IsUtf8-from_ascii [] (λ i. omega arith);
  reads = λ number rest r few h. subst (λ (n : ℕ). ReadsOn n p (lines_of rest) r) (omega arith) h;
}

pub leads_as : {j k : ℕ} {s t : List ℕ} {p q o : Progress} → j ≡ k → s ≡ t → q ≡ o → Leads j s p q → Leads k t p o
leads_as {j = j} {k = k} {s = s} {t = t} {p = p} {q = q} {o = o} e f g l = subst (λ (k : ℕ). Leads k t p o) e (subst (λ (t : List ℕ). Leads j t p o) f (subst (λ (q : Progress). Leads j s p q) g l))

pub join : {j k : ℕ} {s t : List ℕ} {p q o : Progress} → Leads j s p q → Leads k t q o → Leads (j + k) (s ++ t) p o
join {j = j} {k = k} {s = s} {t = t} {p = p} {q = q} {o = o} a b = record {
  coded = IsUtf8-append s t a.coded b.coded;
  reads = reads;
}
  where
    reads : (number : ℕ) (rest : List ℕ) (r : Result Script Refusal) → number + (j + k) ≤ 100001 → ReadsOn (number + (j + k)) o (lines_of rest) r → ReadsOn number p (lines_of ((s ++ t) ++ rest)) r
    reads number rest r few h =
        let same : number + (j + k) ≡ number + j + k = omega arith in
        subst (λ (u : List ℕ). ReadsOn number p (lines_of u) r) (sym (append_assoc s t rest))
        (a.reads number (t ++ rest) r (omega (arith, few)) (b.reads (number + j) rest r (omega (arith, few)) (subst (λ (n : ℕ). ReadsOn n o (lines_of rest) r) same h)))

-- one line, by what it says
pub line : (bytes : List ℕ) (p q : Progress) → IsPlain bytes → is_skipped bytes ≡ false → LineSays p bytes (Ok q) → Leads 1 (bytes ++ 10 ∷ []) p q
line bytes p q plain unskipped says = record { coded = IsUtf8-from_ascii (bytes ++ 10 ∷ []) (ascii bytes plain); reads = reads }
  where
    said : Where (is_skipped bytes) (q ≡ p) (LineSays p bytes (Ok q))
    said = subst (λ (b : Bool). Where b (q ≡ p) (LineSays p bytes (Ok q))) (sym unskipped) says

    reads : (number : ℕ) (rest : List ℕ) (r : Result Script Refusal) → number + 1 ≤ 100001 → ReadsOn (number + 1) q (lines_of rest) r → ReadsOn number p (lines_of ((bytes ++ 10 ∷ []) ++ rest)) r
    reads number rest r few h =
        subst (λ (ls : List (List ℕ)). ReadsOn number p ls r) (sym (ap lines_of (append_assoc bytes (10 ∷ []) rest) ∙ lines_of-plain bytes rest plain))
        (step_read number p q bytes (lines_of rest) r (omega (arith, few)) said h)

-- what was said behind the heads of generated work, by these sessions and lines
abbrev pub headed : Progress
headed = record start { segments = Some 4; tables = Tables }

abbrev pub at : List (List ℕ × ℕ) → List Line → Progress
at sessions lines = record headed { sessions = sessions; lines = lines }

no_further : (few known : Bool) → few ≡ false → (few && known) ≡ true → ⊥
no_further true known e h = absurd cc
no_further false known e h = absurd cc

within_limits : (sessions : List (List ℕ × ℕ)) (name : List ℕ) (ts : List Token) (l : Limit) → nat_le 64 (length sessions) ≡ false → PassesInLine sessions (token.Name name ∷ ts) l → ⊥
within_limits sessions name ts limit.Sessions few h = no_further (nat_le 64 (length sessions)) (not (is_session name sessions)) few h
within_limits sessions name ts limit.Tables few h = h
within_limits sessions name ts limit.Groups few h = h
within_limits sessions name ts limit.Columns few h = h
within_limits sessions name ts limit.Segments few h = h
within_limits sessions name ts limit.Lines few h = h
within_limits sessions name ts limit.Name few h = h
within_limits sessions name ts limit.Text few h = h
within_limits sessions name ts limit.Depth few h = h

module _ (sessions : List (List ℕ × ℕ)) (first : Line) (lines : List Line) (name : List ℕ) (x : Stmt) (text : List ℕ) (few : nat_le 64 (length sessions) ≡ false) (named : IsNamed the_limits name) where
  abbrev Before : Progress
  Before = at sessions (first ∷ lines)

  line_says : ReadsAs Tables x text → LineSays Before (line_of name text) (Ok (with_line Before name x))
  line_says (ts, s, cut, written, resolved) = (
    token.Name name ∷ token.Symbol symbol.Colon ∷ ts,
    name_before_colon name ts text named.0 cut,
    inr (λ l. within_limits sessions name (token.Symbol symbol.Colon ∷ ts) l few, inl (Session name s, spelled name s ts named.1 written, sym (ap (giving (with_line Before name)) resolved))),
  )

  -- a session's line behind others
  pub session_line : ReadsAs Tables x text → IsPlain (line_of name text) → Leads 1 (line_of name text ++ 10 ∷ []) Before (with_line Before name x)
  session_line reads plain = line (line_of name text) Before (with_line Before name x) plain (unskipped name (58 ∷ 32 ∷ text) named.0) (line_says reads)
