-- The heads of generated work, and the line that loads the accounts.
use Rattle.std.proofs.Common.{inl, inr, ℕ, zero, suc, ◌+◌, ◌<◌, List, [], ◌∷◌, ◌++◌, Some, Ok, refl, sym, ◌∙◌, subst, append-nil, arith, codes}
use Rattle.std.specs.Fmt.{decimal}
use Rattle.std.proofs.lemmas.Fmt.{decimal_digit}
use Rattle.gx_lex.specs.declared.word.Word.TheVariants as word
use Rattle.gx_lex.specs.declared.symbol.Symbol.TheVariants as symbol
use Rattle.gx_lex.specs.declared.token.Token.{Token}
use Rattle.gx_lex.specs.declared.token.Token.TheVariants as token
use Rattle.gx_lex.specs.Lexing.{Lexes}
use Rattle.gx_lines.specs.declared.classes.KindSyn.TheVariants as kind_syn
use Rattle.gx_lines.specs.declared.syn.DistSyn.TheVariants as dist_syn
use Rattle.gx_lines.specs.declared.syn.TableSyn.{TableSyn}
use Rattle.gx_lines.specs.declared.syn.LineSyn.TheVariants as line_syn
use Rattle.gx_lines.specs.Heads.{head_line, segments}
use Rattle.gx_lines.proofs.HeadGood.{head_good, segments_good}
use Rattle.gx_sql.specs.declared.refusal.Limit.{Limit}
use Rattle.gx_sql.specs.declared.refusal.Limit.TheVariants as limit
use Rattle.gx_sql.specs.Counts.{PassesInHead}
use Rattle.gx_sql.specs.Progress.{Progress, start, with_line}
use Rattle.gx_sql.specs.Script.{the_limits, LineSays}
use Rattle.gx_sql.proofs.Columns.{passes_short}
use Rattle.gx_print.specs.OneLine.{line_of}
use Rattle.gx_print.specs.Shapes.{IsName}
use Rattle.gx_print.proofs.Cuts.{Cuts, Follows, behind, also, spaced, comma, enclosed, keyword, name_cuts, number_cuts}
use Rattle.gx_print.proofs.OneLine.{line_says, unskipped}
use Rattle.gx_work.specs.Text.{head_text, pair_text, pairs_from}
use Rattle.gx_work.proofs.Nexts.{pairs-none, pairs-suc}
use Rattle.gx_work.specs.Work.{line_in, loading}
use Rattle.gx_work.proofs.Bytes.{IsPlain, decimal_plain, plain, plain_also}
use Rattle.gx_work.proofs.Leading.{Leads, at, headed, join, line}
use Rattle.gx_work.proofs.Statements.{acct_name, bal_name, id_name, inserting_text, load_read}

-- SEGMENTS
abbrev four : Progress
four = record start { segments = Some 4 }

abbrev four_tokens : List Token
four_tokens = token.Word word.Segments ∷ token.Number (Some 4) ∷ []

four_cut : Lexes four_tokens (codes "segments 4")
four_cut = subst (λ (t : List ℕ). Lexes four_tokens (codes "segments " ++ (t ++ []))) (decimal_digit 4 (omega arith))
    ((behind (keyword word.Segments (codes "segments") refl refl) (spaced (number_cuts (Some 4) (omega arith)))).holds [] [] tt tt)

four_written : segments the_limits (record { 0 = 4 }) four_tokens
four_written =
    let told = segments_good.tells the_limits four_tokens in
    subst (segments the_limits (record { 0 = 4 })) (sym (told.1 ∙ append-nil told.0)) told.2

four_says : LineSays start (codes "segments 4") (Ok four)
four_says = (four_tokens, four_cut, inl (record { 0 = 4 }, four_written, refl))

four_leads : Leads 1 (codes "segments 4" ++ 10 ∷ []) start four
four_leads = line (codes "segments 4") start four (plain (codes "segments 4") refl) refl four_says

-- THE TABLE
abbrev acct_tokens : List Token
acct_tokens = token.Word word.Table ∷ token.Name (codes "acct") ∷ token.Symbol symbol.Open ∷ token.Name (codes "id") ∷ token.Word word.Bigint ∷ token.Symbol symbol.Comma ∷ token.Name (codes "bal") ∷ token.Word word.Bigint
    ∷ token.Symbol symbol.Close ∷ token.Word word.Distributed ∷ token.Word word.By ∷ token.Symbol symbol.Open ∷ token.Name (codes "id") ∷ token.Symbol symbol.Close ∷ []

abbrev acct_text : List ℕ
acct_text = codes "table acct (id bigint, bal bigint) distributed by (id)"

acct_cut : Lexes acct_tokens acct_text
acct_cut = (behind (keyword word.Table (codes "table") refl refl) (also (spaced (name_cuts (codes "acct") acct_name)) (also columns spread))).holds [] [] tt tt
  where
    bigint : Cuts (token.Word word.Bigint ∷ []) (codes "bigint")
    bigint = keyword word.Bigint (codes "bigint") refl refl

    columns : Follows
        (token.Symbol symbol.Open ∷ token.Name (codes "id") ∷ token.Word word.Bigint ∷ token.Symbol symbol.Comma ∷ token.Name (codes "bal") ∷ token.Word word.Bigint ∷ token.Symbol symbol.Close ∷ [])
        (codes " (id bigint, bal bigint)")
    columns = spaced (enclosed (behind (name_cuts (codes "id") id_name) (also (spaced bigint) (comma (behind (name_cuts (codes "bal") bal_name) (spaced bigint))))))

    spread : Follows (token.Word word.Distributed ∷ token.Word word.By ∷ token.Symbol symbol.Open ∷ token.Name (codes "id") ∷ token.Symbol symbol.Close ∷ []) (codes " distributed by (id)")
    spread = also (spaced (keyword word.Distributed (codes "distributed") refl refl)) (also (spaced (keyword word.By (codes "by") refl refl)) (spaced (enclosed (name_cuts (codes "id") id_name))))

abbrev acct_syn : TableSyn
acct_syn = record {
  name = codes "acct";
  columns = record { name = codes "id"; kind = kind_syn.Bigint } ∷ record { name = codes "bal"; kind = kind_syn.Bigint } ∷ [];
  dist = dist_syn.By (codes "id");
}

acct_written : head_line 4 the_limits (line_syn.Table acct_syn) acct_tokens
acct_written =
    let told = (head_good 4 (omega arith)).tells the_limits acct_tokens in
    subst (head_line 4 the_limits (line_syn.Table acct_syn)) (sym (told.1 ∙ append-nil told.0)) told.2

acct_alone : (l : Limit) → PassesInHead the_limits 0 0 [] acct_tokens l → ⊥
acct_alone limit.Sessions h = absurd cc
acct_alone limit.Tables h = absurd cc
acct_alone limit.Groups h = absurd cc
acct_alone limit.Columns h = passes_short the_limits acct_tokens (omega arith) h.1
acct_alone limit.Segments h = h
acct_alone limit.Lines h = h
acct_alone limit.Name h = h
acct_alone limit.Text h = h
acct_alone limit.Depth h = h

acct_says : LineSays four acct_text (Ok headed)
acct_says = (acct_tokens, acct_cut, inr (acct_alone, inl (line_syn.Table acct_syn, acct_written, refl)))

acct_leads : Leads 1 (acct_text ++ 10 ∷ []) four headed
acct_leads = line acct_text four headed (plain acct_text refl) refl acct_says

-- THE LOAD
load_name : IsName (codes "load")
load_name = ((refl, (refl, (refl, (refl, tt)))), refl)

pair_plain : (account : ℕ) → account < 100 → IsPlain (pair_text account)
pair_plain account l = plain_also (codes "(" ++ decimal account) (codes ", 100)") (refl, decimal_plain account l) (plain (codes ", 100)") refl)

pairs_plain : (more account : ℕ) → account + more < 100 → IsPlain (pairs_from account more)
pairs_plain zero account l = subst IsPlain (sym (pairs-none account)) tt
pairs_plain (suc more) account l = subst IsPlain (sym (pairs-suc account more))
    (plain_also (codes ", " ++ pair_text (account + 1)) (pairs_from (account + 1) more)
    (refl, (refl, pair_plain (account + 1) (omega (arith, l)))) (pairs_plain more (account + 1) (omega (arith, l))))

load_plain : IsPlain (line_of (codes "load") inserting_text)
load_plain = plain_also (codes "load: INSERT INTO acct VALUES ") (pair_text 0 ++ pairs_from 0 63) (plain (codes "load: INSERT INTO acct VALUES ") refl)
    (plain_also (pair_text 0) (pairs_from 0 63) (pair_plain 0 (omega arith)) (pairs_plain 63 0 (omega arith)))

load_leads : Leads 1 (line_of (codes "load") inserting_text ++ 10 ∷ []) headed (at ((codes "load", 1) ∷ []) (line_in 0 1 loading ∷ []))
load_leads = line (line_of (codes "load") inserting_text) headed (with_line headed (codes "load") loading) load_plain (unskipped (codes "load") (codes ": " ++ inserting_text) load_name)
    (line_says headed 4 (codes "load") loading inserting_text refl refl refl (load_name, omega arith) load_read)

pub heads_lead : Leads 3 head_text start (at ((codes "load", 1) ∷ []) (line_in 0 1 loading ∷ []))
heads_lead = join four_leads (join acct_leads load_leads)
