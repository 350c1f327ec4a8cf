-- What the words of an option do to a parse.
use Rattle.std.proofs.Common.{◌≡◌, ◌∙◌, ℕ, ◌==◌, ◌&&◌, ◌||◌, Bool, true, false, cond, List, [], ◌∷◌, ◌++◌, Option, Some, None, refl, ap, ap₂, codes}
use Rattle.std.specs.List.{fold}
use Rattle.std.specs.Option.{option_map_or}
use Rattle.std.specs.Prelude.{option_and_then}
use Rattle.std.specs.Str.{bytes_eq}
use Rattle.clap.specs.Lexer.{long_of, long_of_rest, short_of, short_of_rest, strip_byte}
use Rattle.clap.specs.Kinds.{Kinds, or_else}
use Rattle.clap.specs.Walk.{Held, Row, Rule, Step, Waiting, Walk, after_step, finished, has_row, idle, long_or_other, option, plain_word, reacted, settled, short_or_plain, subcommand_or_other, trailing, walked, with_default}
use Rattle.clap.specs.Simple.{Shape, built}
use Rattle.clap.specs.Faults.{bundle_fault, check_fault, defaults_fault, flag_word_fault, other_fault, settle_fault, step_fault, use_fault, walk_fault}
use Rattle.clap.specs.declared.error.kind.ErrorKind.TheVariants.{InvalidValue, UnknownArgument}
use Rattle.clap.proofs.OnLiterals.{clap_on_literals}
use Rattle.gx_words.specs.Words.{Flag, Name, seed, turns, gen, trace, threads, flag_text, name_text}
use Rattle.gx_words.specs.Command.{command}
use Rattle.gx_words.specs.Found.{flag_rule, rule, with_flags}

abbrev pub shape : Shape
shape = (built command).top

-- a walk between two words
abbrev pub standing : Waiting → Held → Walk
standing waiting h = record { held = h; waiting = waiting; position = 1; is_trailing = false; stopped = None }

abbrev pub held_behind : Waiting → Held → List (List ℕ) → Held
held_behind waiting h ws = (fold (walked shape.rules []) (standing waiting h) ws).held

abbrev pub end_fault : Held → Kinds
end_fault h =
    or_else []
    (or_else (settle_fault shape.rules false h)
    (or_else (defaults_fault (settled shape.rules h).rows shape.rules) (check_fault shape (finished shape.rules h) false)))

-- the kinds of error of words from there on, and the rows at their end
abbrev pub fault : Waiting → Held → List (List ℕ) → Kinds
fault waiting h ws = or_else (walk_fault shape [] (standing waiting h) ws) (end_fault (held_behind waiting h ws))

abbrev pub found : Waiting → Held → List (List ℕ) → List Row
found waiting h ws = finished shape.rules (held_behind waiting h ws)

-- the kinds of error of what is pending, and the rows with it
abbrev pub due : Held → Kinds
due h = settle_fault shape.rules false h

abbrev pub rows : Held → List Row
rows h = (settled shape.rules h).rows

abbrev pub behind_flag : Flag → Held → Held
behind_flag f h = reacted shape.rules (flag_rule f) [] h

abbrev pub behind_joined : Name → List ℕ → Held → Held
behind_joined name t h = reacted shape.rules (rule name) (t ∷ []) h

abbrev pub opened : Name → Held → Held
opened name h = record (settled shape.rules h) { pending = Some (name_text name, []) }

abbrev pub behind_apart : Name → List ℕ → Held → Held
behind_apart name t h = record (settled shape.rules h) { pending = Some (name_text name, t ∷ []) }

-- ---- lists of kinds

or_else-nil : (a : Kinds) → or_else a [] ≡ a
or_else-nil [] = refl
or_else-nil (k ∷ ks) = refl

or_else-assoc : (a b c : Kinds) → or_else (or_else a b) c ≡ or_else a (or_else b c)
or_else-assoc [] b c = refl
or_else-assoc (k ∷ ks) b c = refl

-- a turn of two parts, the words behind it and the end
turn-used : (a b x t : Kinds) → or_else (or_else (or_else (or_else a b) []) x) t ≡ or_else a (or_else b (or_else x t))
turn-used a b x t = ap (λ (k : Kinds). or_else (or_else k x) t) (or_else-nil (or_else a b)) ∙ or_else-assoc (or_else a b) x t
    ∙ or_else-assoc a b (or_else x t)

turn-opened : (a x t : Kinds) → or_else (or_else (or_else a []) x) t ≡ or_else a (or_else x t)
turn-opened a x t = ap (λ (k : Kinds). or_else (or_else k x) t) (or_else-nil a) ∙ or_else-assoc a x t

-- ---- a word

pub fault-flag : (f : Flag) (h : Held) (ws : List (List ℕ))
    → fault idle h ((codes "--" ++ flag_text f) ∷ ws) ≡ or_else (due h) (or_else (use_fault false (flag_rule f) [] (rows h)) (fault idle (behind_flag f h) ws))
unfolding clap_on_literals
fault-flag trace h ws = turn-used (due h) (use_fault false (flag_rule trace) [] (rows h)) _ _
fault-flag threads h ws = turn-used (due h) (use_fault false (flag_rule threads) [] (rows h)) _ _

pub fault-flag_awaited : (f : Flag) (id : List ℕ) (h : Held) (ws : List (List ℕ))
    → fault (option id) h ((codes "--" ++ flag_text f) ∷ ws)
    ≡ or_else (due h) (or_else (use_fault false (flag_rule f) [] (rows h)) (fault idle (behind_flag f h) ws))
unfolding clap_on_literals
fault-flag_awaited trace id h ws = turn-used (due h) (use_fault false (flag_rule trace) [] (rows h)) _ _
fault-flag_awaited threads id h ws = turn-used (due h) (use_fault false (flag_rule threads) [] (rows h)) _ _

pub fault-joined : (name : Name) (t : List ℕ) (h : Held) (ws : List (List ℕ))
    → fault idle h ((codes "--" ++ name_text name ++ codes "=" ++ t) ∷ ws)
    ≡ or_else (due h) (or_else (use_fault false (rule name) (t ∷ []) (rows h)) (fault idle (behind_joined name t h) ws))
unfolding clap_on_literals
fault-joined seed t h ws = turn-used (due h) (use_fault false (rule seed) (t ∷ []) (rows h)) _ _
fault-joined turns t h ws = turn-used (due h) (use_fault false (rule turns) (t ∷ []) (rows h)) _ _
fault-joined gen t h ws = turn-used (due h) (use_fault false (rule gen) (t ∷ []) (rows h)) _ _

pub fault-joined_awaited : (name : Name) (t id : List ℕ) (h : Held) (ws : List (List ℕ))
    → fault (option id) h ((codes "--" ++ name_text name ++ codes "=" ++ t) ∷ ws)
    ≡ or_else (due h) (or_else (use_fault false (rule name) (t ∷ []) (rows h)) (fault idle (behind_joined name t h) ws))
unfolding clap_on_literals
fault-joined_awaited seed t id h ws = turn-used (due h) (use_fault false (rule seed) (t ∷ []) (rows h)) _ _
fault-joined_awaited turns t id h ws = turn-used (due h) (use_fault false (rule turns) (t ∷ []) (rows h)) _ _
fault-joined_awaited gen t id h ws = turn-used (due h) (use_fault false (rule gen) (t ∷ []) (rows h)) _ _

pub fault-option : (name : Name) (h : Held) (ws : List (List ℕ))
    → fault idle h ((codes "--" ++ name_text name) ∷ ws) ≡ or_else (due h) (fault (option (name_text name)) (opened name h) ws)
unfolding clap_on_literals
fault-option seed h ws = turn-opened (due h) _ _
fault-option turns h ws = turn-opened (due h) _ _
fault-option gen h ws = turn-opened (due h) _ _

pub fault-option_awaited : (name : Name) (id : List ℕ) (h : Held) (ws : List (List ℕ))
    → fault (option id) h ((codes "--" ++ name_text name) ∷ ws) ≡ or_else (due h) (fault (option (name_text name)) (opened name h) ws)
unfolding clap_on_literals
fault-option_awaited seed id h ws = turn-opened (due h) _ _
fault-option_awaited turns id h ws = turn-opened (due h) _ _
fault-option_awaited gen id h ws = turn-opened (due h) _ _

-- ---- a number

-- a word that is no option
pub record IsPlain (word : List ℕ) : Type 0 where
  pub dashes : bytes_eq word (45 ∷ 45 ∷ []) ≡ false
  pub long : long_of word ≡ None
  pub short : short_of word ≡ None

pub plain-word : (d : ℕ) (ds : List ℕ) → (d == 45) ≡ false → IsPlain (d ∷ ds)
plain-word d ds e = record {
  dashes = ap (λ (b : Bool). b && bytes_eq ds (45 ∷ [])) e;
  long = ap (λ (b : Bool). option_and_then long_of_rest (option_and_then (strip_byte 45) (cond b (Some ds) None))) e;
  short = ap (λ (b : Bool). option_and_then short_of_rest (cond b (Some ds) None)) e;
}

fine-plain : (word : List ℕ) (h : Held) → IsPlain word → other_fault shape None word h ≡ []
fine-plain word h plain =
    ap (λ (b : Bool). let k : Kinds = cond b [] (flag_word_fault shape.rules shape.args_override_self (long_of word) word h) in k) plain.dashes
    ∙ ap (λ (o : Option (List ℕ × Option (List ℕ))). flag_word_fault shape.rules shape.args_override_self o word h) plain.long
    ∙ ap (λ (o : Option (List ℕ)). option_map_or (λ flags. bundle_fault shape.rules shape.args_override_self flags h) o []) plain.short

met-plain : (waiting : Waiting) (word : List ℕ) (h : Held) → IsPlain word
    → subcommand_or_other shape.rules None waiting 1 word h ≡ plain_word shape.rules waiting word h
met-plain waiting word h plain =
    ap (λ (b : Bool). let met : Held × Step = cond b (h, trailing 1) (long_or_other shape.rules waiting word (long_of word) h) in met) plain.dashes
    ∙ ap (λ (o : Option (List ℕ × Option (List ℕ))). long_or_other shape.rules waiting word o h) plain.long
    ∙ ap (λ (o : Option (List ℕ)). short_or_plain shape.rules waiting word o h) plain.short

-- the walk behind a word that was met so
abbrev walk_met : Waiting → Held → List ℕ → Held × Step → Walk
walk_met waiting h word met = after_step shape.rules word (standing waiting h) met.0 met.1

abbrev fault_met : Waiting → Held → List ℕ → List (List ℕ) → Kinds → Held × Step → Kinds
fault_met waiting h word ws k met =
    or_else (or_else (or_else k (step_fault shape 1 met.0 met.1)) (walk_fault shape [] (walk_met waiting h word met) ws))
    (end_fault (fold (walked shape.rules []) (walk_met waiting h word met) ws).held)

abbrev found_met : Waiting → Held → List ℕ → List (List ℕ) → Held × Step → List Row
found_met waiting h word ws met = finished shape.rules (fold (walked shape.rules []) (walk_met waiting h word met) ws).held

fault-awaited : (id word : List ℕ) (h : Held) (ws : List (List ℕ))
    → fault (option id) h (word ∷ ws)
    ≡ fault_met (option id) h word ws (other_fault shape None word h) (subcommand_or_other shape.rules None (option id) 1 word h)
unfolding clap_on_literals
fault-awaited id word h ws = refl

fault-idle : (word : List ℕ) (h : Held) (ws : List (List ℕ))
    → fault idle h (word ∷ ws) ≡ fault_met idle h word ws (other_fault shape None word h) (subcommand_or_other shape.rules None idle 1 word h)
unfolding clap_on_literals
fault-idle word h ws = refl

found-awaited : (id word : List ℕ) (h : Held) (ws : List (List ℕ))
    → found (option id) h (word ∷ ws) ≡ found_met (option id) h word ws (subcommand_or_other shape.rules None (option id) 1 word h)
unfolding clap_on_literals
found-awaited id word h ws = refl

number-met : (name : Name) (word : List ℕ) (h : Held) (ws : List (List ℕ))
    → fault_met (option (name_text name)) (opened name h) word ws [] (plain_word shape.rules (option (name_text name)) word (opened name h))
    ≡ fault idle (behind_apart name word h) ws
number-met seed word h ws = refl
number-met turns word h ws = refl
number-met gen word h ws = refl

number-found : (name : Name) (word : List ℕ) (h : Held) (ws : List (List ℕ))
    → found_met (option (name_text name)) (opened name h) word ws (plain_word shape.rules (option (name_text name)) word (opened name h))
    ≡ found idle (behind_apart name word h) ws
number-found seed word h ws = refl
number-found turns word h ws = refl
number-found gen word h ws = refl

-- behind its option
pub fault-number : (name : Name) (word : List ℕ) (h : Held) (ws : List (List ℕ)) → IsPlain word
    → fault (option (name_text name)) (opened name h) (word ∷ ws) ≡ fault idle (behind_apart name word h) ws
fault-number name word h ws plain =
    fault-awaited (name_text name) word (opened name h) ws
    ∙ ap₂ (fault_met (option (name_text name)) (opened name h) word ws) (fine-plain word (opened name h) plain)
    (met-plain (option (name_text name)) word (opened name h) plain)
    ∙ number-met name word h ws

-- and elsewhere
pub fault-stray : (word : List ℕ) (h : Held) (ws : List (List ℕ)) → IsPlain word → fault idle h (word ∷ ws) ≡ UnknownArgument ∷ []
fault-stray word h ws plain = fault-idle word h ws ∙ ap₂ (fault_met idle h word ws) (fine-plain word h plain) (met-plain idle word h plain)

-- ---- what is pending

pub due-opened : (name : Name) (h : Held) → due (opened name h) ≡ InvalidValue ∷ []
due-opened seed h = refl
due-opened turns h = refl
due-opened gen h = refl

pub due-apart : (name : Name) (t : List ℕ) (h : Held) → due (behind_apart name t h) ≡ use_fault false (rule name) (t ∷ []) (rows h)
due-apart seed t h = refl
due-apart turns t h = refl
due-apart gen t h = refl

-- ---- the end

no-default : (name : Name) (rs : List Row) (rest : List Rule) → defaults_fault rs (rule name ∷ rest) ≡ defaults_fault rs rest
unfolding clap_on_literals
no-default name rs rest = at (has_row (name_text name) rs)
  where
    at : (b : Bool) → or_else (cond (b || true) [] []) (defaults_fault (cond b rs rs) rest) ≡ defaults_fault rs rest
    at true = refl
    at false = refl

flag-default : (f : Flag) (rs : List Row) (rest : List Rule) → defaults_fault rs (flag_rule f ∷ rest) ≡ defaults_fault (with_default rs (flag_rule f)) rest
unfolding clap_on_literals
flag-default f rs rest = at (has_row (flag_text f) rs)
  where
    at : (b : Bool) → or_else (cond (b || false) [] []) (defaults_fault (with_default rs (flag_rule f)) rest) ≡ defaults_fault (with_default rs (flag_rule f)) rest
    at true = refl
    at false = refl

no-rule : (rs : List Row) → defaults_fault rs [] ≡ []
unfolding clap_on_literals
no-rule rs = refl

defaults-none : (rs : List Row) → defaults_fault rs shape.rules ≡ []
defaults-none rs =
    no-default seed rs _ ∙ no-default turns rs _ ∙ no-default gen rs _ ∙ flag-default trace rs _
    ∙ flag-default threads (with_default rs (flag_rule trace)) []
    ∙ no-rule (with_flags rs)

pub fault-end : (h : Held) → fault idle h [] ≡ due h
unfolding clap_on_literals
fault-end h = ap (λ (k : Kinds). or_else (due h) (or_else k [])) (defaults-none (rows h)) ∙ or_else-nil (due h)

pub fault-open : (name : Name) (h : Held) → fault (option (name_text name)) (opened name h) [] ≡ InvalidValue ∷ []
unfolding clap_on_literals
fault-open seed h = refl
fault-open turns h = refl
fault-open gen h = refl

same-rows : (name : Name) (rs : List Row) → with_default rs (rule name) ≡ rs
same-rows name rs = at (has_row (name_text name) rs)
  where
    at : (b : Bool) → cond b rs rs ≡ rs
    at true = refl
    at false = refl

pub found-end : (h : Held) → found idle h [] ≡ with_flags (rows h)
found-end h =
    ap (λ (rs : List Row). with_flags (with_default (with_default rs (rule turns)) (rule gen))) (same-rows seed (rows h))
    ∙ ap (λ (rs : List Row). with_flags (with_default rs (rule gen))) (same-rows turns (rows h))
    ∙ ap (λ (rs : List Row). with_flags rs) (same-rows gen (rows h))

pub found-flag : (f : Flag) (h : Held) (ws : List (List ℕ)) → found idle h ((codes "--" ++ flag_text f) ∷ ws) ≡ found idle (behind_flag f h) ws
unfolding clap_on_literals
found-flag trace h ws = refl
found-flag threads h ws = refl

pub found-joined : (name : Name) (t : List ℕ) (h : Held) (ws : List (List ℕ))
    → found idle h ((codes "--" ++ name_text name ++ codes "=" ++ t) ∷ ws) ≡ found idle (behind_joined name t h) ws
unfolding clap_on_literals
found-joined seed t h ws = refl
found-joined turns t h ws = refl
found-joined gen t h ws = refl

found-option : (name : Name) (h : Held) (ws : List (List ℕ))
    → found idle h ((codes "--" ++ name_text name) ∷ ws) ≡ found (option (name_text name)) (opened name h) ws
unfolding clap_on_literals
found-option seed h ws = refl
found-option turns h ws = refl
found-option gen h ws = refl

pub found-apart : (name : Name) (word : List ℕ) (h : Held) (ws : List (List ℕ)) → IsPlain word
    → found idle h ((codes "--" ++ name_text name) ∷ word ∷ ws) ≡ found idle (behind_apart name word h) ws
found-apart name word h ws plain =
    found-option name h (word ∷ ws)
    ∙ found-awaited (name_text name) word (opened name h) ws
    ∙ ap (found_met (option (name_text name)) (opened name h) word ws) (met-plain (option (name_text name)) word (opened name h) plain)
    ∙ number-found name word h ws
