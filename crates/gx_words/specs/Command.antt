-- The command that the words are read by, and the program's own look at a word.
use Rattle.std.specs.Prelude.{ℕ, ◌&&◌, ◌||◌, Bool, true, List, [], length, take, drop, is_some, Some, codes}
use Rattle.std.specs.Str.{bytes_eq}
use Rattle.clap.specs.Walk.{Rule}
use Rattle.clap.specs.Simple.{App, new_app, new_rule, with_rule}
use Rattle.clap.specs.declared.builder.action.ArgAction.TheVariants.{SetTrue}
use Rattle.gx_words.specs.Words.{number_of}

-- an option with a value
abbrev pub valued : List ℕ → Rule
valued name = record (new_rule name) { long = Some name }

-- a flag
abbrev pub flagged : List ℕ → Rule
flagged name = record (new_rule name) { long = Some name; action = Some SetTrue }

-- no word is the program's name, and there is no help
abbrev pub bare : App
bare = record { top = record (new_app (codes "gx")).top { no_binary_name = true; disable_help_flag = true }; subs = [] }

abbrev pub command : App
command =
    with_rule (with_rule (with_rule (with_rule (with_rule bare (valued (codes "seed"))) (valued (codes "turns"))) (valued (codes "gen"))) (flagged (codes "trace")))
    (flagged (codes "threads"))

-- the word is this text with a number behind
abbrev pub is_joined : List ℕ → List ℕ → Bool
is_joined text word = bytes_eq (take (length text) word) text && is_some (number_of (drop (length text) word))

-- the word is the option's, alone or with its number
abbrev pub is_option : List ℕ → List ℕ → List ℕ → Bool
is_option alone before word = bytes_eq word alone || is_joined before word

-- the word asks for threads
abbrev pub is_threads : List ℕ → Bool
is_threads word = bytes_eq word (codes "--threads")

-- the word may stand in a command
abbrev pub is_known : List ℕ → Bool
is_known word =
    bytes_eq word (codes "--trace")
    || (is_threads word
    || (is_option (codes "--seed") (codes "--seed=") word
    || (is_option (codes "--turns") (codes "--turns=") word || (is_option (codes "--gen") (codes "--gen=") word || is_some (number_of word)))))
