-- What a parse finds of the options that were given.
use Rattle.std.specs.Prelude.{ℕ, List, [], ◌∷◌, map, Some, None, codes}
use Rattle.clap.specs.Walk.{Row, Rule, reading_by, with_default}
use Rattle.clap.specs.Simple.{filled}
use Rattle.clap.specs.declared.parser.matches.ValueSource.TheVariants.{CommandLine}
use Rattle.gx_words.specs.Words.{Flag, Name, Part, flag, apart, joined, flag_text, label, name_text, threads, trace}
use Rattle.gx_words.specs.Command.{flagged, valued}

-- the rule of an option with a number, and that of a flag
abbrev pub rule : Name → Rule
rule name = filled (valued (name_text name))

abbrev pub flag_rule : Flag → Rule
flag_rule f = filled (flagged (flag_text f))

abbrev pub rule_in : Part → Rule
rule_in (flag f) = flag_rule f
rule_in (apart name number) = rule name
rule_in (joined name number) = rule name

-- the values of a use, and the text that is found
abbrev pub values_in : Part → List (List ℕ)
values_in (flag f) = []
values_in (apart name number) = number ∷ []
values_in (joined name number) = number ∷ []

abbrev pub text_in : Part → List ℕ
text_in (flag f) = codes "true"
text_in (apart name number) = number
text_in (joined name number) = number

abbrev pub row : Part → Row
row p = record { id = label p; values = text_in p ∷ []; count = None; source = Some CommandLine; reading = reading_by (rule_in p) }

-- the flags are found in any case
abbrev pub with_flags : List Row → List Row
with_flags rows = with_default (with_default rows (flag_rule trace)) (flag_rule threads)

abbrev pub found_of_parts : List Part → List Row
found_of_parts parts = with_flags (map row parts)
