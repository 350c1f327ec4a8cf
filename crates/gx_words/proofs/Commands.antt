-- The command that is built, and what its parse says of the words.
use Rattle.std.proofs.Common.{◌≡◌, ◌≢◌, ◌∙◌, ℕ, inl, inr, true, List, [], ◌∷◌, refl, sym, ap, ap₂, codes}
use Rattle.clap.specs.Kinds.{HasKind, Kinds}
use Rattle.clap.specs.Walk.{Rule, rows_of}
use Rattle.clap.specs.Matches.{found_of}
use Rattle.clap.specs.Simple.{App, HasMatchesOf, app_of, app_of_fields, is_simple, matches_of, new_app, with_rule}
use Rattle.clap.specs.Faults.{fault_of, is_simple_and_free}
use Rattle.clap.specs.Values.{kind_of}
use Rattle.clap.specs.declared.builder.command.Command.{Command}
use Rattle.clap.specs.declared.builder.command.Command.TheViews.{out-Command}
use Rattle.clap.specs.declared.error.Error.{Error}
use Rattle.clap.specs.declared.error.kind.ErrorKind.TheVariants as kind
use Rattle.clap.specs.declared.parser.matches.ArgMatches.{ArgMatches}
use Rattle.clap.proofs.OnLiterals.{clap_on_literals}
use Rattle.gx_words.specs.Command.{bare, command, flagged, valued}
use Rattle.gx_words.specs.declared.command.WordsFault.{WordsFault}
use Rattle.gx_words.specs.declared.command.WordsFault.TheVariants as words_fault

pub bare-is : (first second third : Command) → app_of first ≡ new_app (codes "gx")
    → out-Command second ≡ record (out-Command first) { no_binary_name = true }
    → out-Command third ≡ record (out-Command second) { disable_help_flag = true } → app_of third ≡ bare
bare-is first second third new unnamed helpless =
    ap app_of_fields helpless
    ∙ ap (λ (a : App). record { top = record a.top { disable_help_flag = true }; subs = a.subs }) (
    ap app_of_fields unnamed
    ∙ ap (λ (a : App). record { top = record a.top { no_binary_name = true }; subs = a.subs }) new)

pub command-is : (start one two three four all : Command) (a b d e f : Rule) → app_of start ≡ bare → a ≡ valued (codes "seed") → b ≡ valued (codes "turns")
    → d ≡ valued (codes "gen") → e ≡ flagged (codes "trace") → f ≡ flagged (codes "threads")
    → app_of one ≡ with_rule (app_of start) a → app_of two ≡ with_rule (app_of one) b → app_of three ≡ with_rule (app_of two) d
    → app_of four ≡ with_rule (app_of three) e → app_of all ≡ with_rule (app_of four) f
    → app_of all ≡ command
command-is start one two three four all a b d e f begins seed turns gen trace threads first second third fourth last =
    last
    ∙ ap₂ with_rule (fourth ∙ ap₂ with_rule (third ∙ ap₂ with_rule (second ∙ ap₂ with_rule (first ∙ ap₂ with_rule begins seed) turns) gen) trace) threads

simple : is_simple_and_free command ≡ true
unfolding clap_on_literals
simple = refl

simple_words : is_simple command ≡ true
unfolding clap_on_literals
simple_words = refl

pub fine-at : (a : App) (ws : List (List ℕ)) → a ≡ command → (is_simple_and_free a ≡ true → fault_of a ws ≡ []) → fault_of command ws ≡ []
fine-at a ws is none = ap (λ (x : App). fault_of x ws) (sym is) ∙ none (ap is_simple_and_free is ∙ simple)

pub found-at : (a : App) (ws : List (List ℕ)) (m : ArgMatches) → a ≡ command → HasMatchesOf a ws m → rows_of (found_of m) ≡ matches_of command ws
found-at a ws m is has = (has (ap is_simple is ∙ simple_words)).0 ∙ ap (λ (x : App). matches_of x ws) is

only-memory : (kinds : Kinds) (e : Error) → kinds ≡ [] → HasKind kinds e → kind_of e ≡ kind.OutOfMemory
only-memory [] e none (inl memory) = memory
only-memory [] e none (inr among) = absurd among
only-memory (k ∷ ks) e none has = absurd (cc)

pub refused-at : (a : App) (ws : List (List ℕ)) (e : Error) (f : WordsFault) → a ≡ command → (is_simple_and_free a ≡ true → HasKind (fault_of a ws) e)
    → (f ≡ words_fault.Usage → kind_of e ≢ kind.OutOfMemory) → fault_of command ws ≡ [] → f ≢ words_fault.Usage
refused-at a ws e f is kinds usage none said =
    usage said (only-memory (fault_of a ws) e (ap (λ (x : App). fault_of x ws) is ∙ none) (kinds (ap is_simple_and_free is ∙ simple)))
