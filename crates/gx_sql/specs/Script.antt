-- Which script the bytes are, or which refusal they get.
use Rattle.std.specs.Prelude.{◌≡◌, ◌⊎◌, ℕ, ◌+◌, nat_lt, Bool, true, false, List, [], ◌∷◌, Option, Some, None, Result, Ok, Err, map, length}
use Rattle.std.specs.Str.{IsUtf8}
use Rattle.std.specs.Str.Lossy.{utf8_valid_len}
use Rattle.std.specs.Option.{unwrap_or}
use Rattle.gx_lex.specs.Lexing.{Lexes}
use Rattle.gx_lex.specs.declared.token.Token.{Token}
use Rattle.gx_grammar.specs.declared.fault.Limits.{Limits}
use Rattle.gx_grammar.specs.declared.fault.LineLimit.{LineLimit}
use Rattle.gx_grammar.specs.declared.fault.LineLimit.TheVariants as line_limit
use Rattle.gx_grammar.specs.declared.fault.Fault.{Fault}
use Rattle.gx_grammar.specs.declared.fault.Fault.TheVariants as wrong
use Rattle.gx_grammar.specs.Rules.{Verdict}
use Rattle.gx_lines.specs.Heads.{segments, head_line, session_line}
use Rattle.gx_script.specs.declared.Line.{Line}
use Rattle.gx_script.specs.declared.Script.{Script}
use Rattle.gx_sql.specs.declared.refusal.Limit.{Limit}
use Rattle.gx_sql.specs.declared.refusal.Limit.TheVariants as limit
use Rattle.gx_sql.specs.declared.refusal.LineFault.{LineFault}
use Rattle.gx_sql.specs.declared.refusal.LineFault.TheVariants as fault
use Rattle.gx_sql.specs.declared.refusal.Refusal.{Refusal}
use Rattle.gx_sql.specs.declared.refusal.Refusal.TheVariants as refusal
use Rattle.gx_sql.specs.Lines.{lines_of, is_skipped}
use Rattle.gx_sql.specs.Groups.{groups_from}
use Rattle.gx_sql.specs.Progress.{Progress, start, with_segments, with_line_syn}
use Rattle.gx_sql.specs.Counts.{PassesInHead, PassesInLine}

-- 16 segments; names of 63 bytes, texts of 1,000; 100 open around a token, 1,000 operators in an expression
abbrev pub the_limits : Limits
the_limits = record { segments = 16; name = 63; text = 1000; depth = 100; operators = 1000 }

abbrev pub limit_of : LineLimit → Limit
limit_of line_limit.Segments = limit.Segments
limit_of line_limit.Name = limit.Name
limit_of line_limit.Text = limit.Text
limit_of line_limit.Depth = limit.Depth

abbrev pub fault_of_tokens : Fault → LineFault
fault_of_tokens wrong.Syntax = fault.Syntax
fault_of_tokens (wrong.TooMany l) = fault.TooMany (limit_of l)

-- the tokens are written by the rule, and it goes on with what they mean; or they get the verdict of the rule
abbrev pub Follows : {X : Type 0} → (Limits → X → List Token → Type 0) → (X → Result Progress LineFault) → List Token → Result Progress LineFault → Type 0
Follows {X = X} rule go ts r = ((x : X) × rule the_limits x ts × (r ≡ go x)) ⊎ ((e : Fault) × Verdict rule the_limits ts (Err e) × (r ≡ Err (fault_of_tokens e)))

-- a count that is passed decides before the rule
abbrev pub Counts : (Limit → Type 0) → (Result Progress LineFault → Type 0) → Result Progress LineFault → Type 0
Counts passes follows r = ((l : Limit) × passes l × (r ≡ Err (fault.TooMany l))) ⊎ (((l : Limit) → passes l → ⊥) × follows r)

-- a line where n segments were told: a head where no session's line came before
abbrev pub Told : ℕ → Progress → List Line → List Token → Result Progress LineFault → Type 0
Told n p [] ts r = Counts (PassesInHead the_limits (length p.tables) (length p.groups) p.sessions ts) (Follows (head_line n) (with_line_syn p) ts) r
Told n p (_ ∷ _) ts r = Counts (PassesInLine p.sessions ts) (Follows session_line (with_line_syn p) ts) r

-- the first line tells the segments
abbrev pub TokensSay : Option ℕ → Progress → List Token → Result Progress LineFault → Type 0
TokensSay None p ts r = Follows segments (with_segments p) ts r
TokensSay (Some n) p ts r = Told n p p.lines ts r

-- what a line's bytes say
abbrev pub LineSays : Progress → List ℕ → Result Progress LineFault → Type 0
LineSays p line r = (ts : List Token) × Lexes ts line × TokensSay p.segments p ts r

abbrev pub refused : ℕ → LineFault → Refusal
refused number fault.Syntax = refusal.Syntax number
refused number fault.UnknownTable = refusal.UnknownTable number
refused number fault.UnknownColumn = refusal.UnknownColumn number
refused number fault.TableExists = refusal.TableExists number
refused number fault.TypeMismatch = refusal.TypeMismatch number
refused number fault.KeyUpdate = refusal.KeyUpdate number
refused number (fault.TooMany l) = refusal.TooMany number l

-- the script of all lines; the detector is on where no line says more
abbrev pub script_of : ℕ → Progress → Script
script_of n p = record { segments = n; detector = unwrap_or p.detector true; tables = p.tables; sessions = map (λ s. s.0) p.sessions; lines = p.lines; faults = p.faults; groups = groups_from p.members (map (λ s. s.0) p.sessions) 0 p.groups; restarts = [] }

-- at the end; a script that doesn't tell its segments is wrong behind its last line
abbrev pub ended : ℕ → Progress → Option ℕ → Result Script Refusal
ended number p None = Err (refusal.Syntax number)
ended number p (Some n) = Ok (script_of n p)

-- what follows a line: the first line with a fault decides
abbrev pub Goes : ℕ → (Progress → Type 0) → Result Progress LineFault → Result Script Refusal → Type 0
Goes number go (Ok p) r = go p
Goes number go (Err f) r = r ≡ Err (refused number f)

abbrev pub Where : Bool → Type 0 → Type 0 → Type 0
Where true P Q = P
Where false P Q = Q

-- what the lines say behind those before this number
abbrev pub ReadsOn : ℕ → Progress → List (List ℕ) → Result Script Refusal → Type 0
ReadsOn number p [] r = r ≡ ended number p p.segments
ReadsOn number p (line ∷ lines) r =
    Where (nat_lt 100000 number) (r ≡ Err (refusal.TooMany number limit.Lines))
    (Where (is_skipped line) (ReadsOn (number + 1) p lines r)
    ((q : Result Progress LineFault) × LineSays p line q × Goes number (λ p'. ReadsOn (number + 1) p' lines r) q r))

-- what the bytes of a script are
abbrev pub Reads : List ℕ → Result Script Refusal → Type 0
Reads bytes r = (IsUtf8 bytes × ReadsOn 1 start (lines_of bytes) r) ⊎ ((IsUtf8 bytes → ⊥) × (r ≡ Err (refusal.NotUtf8 (utf8_valid_len bytes))))
