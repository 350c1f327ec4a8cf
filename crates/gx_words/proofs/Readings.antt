-- Whether words are in the language, by what a parse made of them.
use Rattle.std.proofs.Common.{◌≡◌, ◌∙◌, ℕ, true, false, List, [], map, Result, Err, sym, ap, true≢false}
use Rattle.std.proofs.lemmas.List.Folds.{list_all-map}
use Rattle.std.specs.Prelude.{string_bytes}
use Rattle.std.specs.declared.alloc.Global.{Global}
use Rattle.std.specs.declared.string.String.{String}
use Rattle.std.specs.List.{list_all}
use Rattle.clap.specs.Walk.{Row}
use Rattle.clap.specs.Simple.{matches_of}
use Rattle.clap.specs.Faults.{fault_of}
use Rattle.gx_words.specs.Words.{IsCommand, IsOf, Part}
use Rattle.gx_words.specs.Command.{command, is_known}
use Rattle.gx_words.specs.Found.{found_of_parts}
use Rattle.gx_words.specs.declared.options.Options.{Options}
use Rattle.gx_words.specs.declared.command.WordsFault.{WordsFault}
use Rattle.gx_words.specs.declared.command.WordsFault.TheVariants.{Usage}
use Rattle.gx_words.proofs.Written.{parts-known}
use Rattle.gx_words.proofs.Splits.{AreParts, are-parts, parts-fine, parts-found}

-- the options are those that are asked for by whatever parts have these rows
abbrev pub Tells : List Row → Options → Type 0
Tells rows options = (parts : List Part) → rows ≡ found_of_parts parts → IsOf parts options

pub reads : (ws : List (List ℕ)) (rows : List Row) (options : Options) → list_all is_known ws ≡ true → fault_of command ws ≡ []
    → rows ≡ matches_of command ws → Tells rows options → IsCommand ws options
reads ws rows options known fine found tells = record {
  parts = are.parts;
  written = are.written;
  once = are.once;
  numbered = are.numbered;
  of = tells are.parts (found ∙ ap (matches_of command) are.written ∙ parts-found are.parts are.once are.numbered);
}
  where
    are : AreParts ws
    are = are-parts ws known fine

-- the rows are those of the command's parts
rows-of : (ws : List (List ℕ)) (rows : List Row) (options : Options) → rows ≡ matches_of command ws → (is : IsCommand ws options) → rows ≡ found_of_parts is.parts
rows-of ws rows options found is = found ∙ ap (matches_of command) is.written ∙ parts-found is.parts is.once is.numbered

pub reads-alone : (ws : List (List ℕ)) (rows : List Row) (options : Options) → rows ≡ matches_of command ws → Tells rows options
    → (others : Options) → IsCommand ws others → others ≡ options
reads-alone ws rows options found tells others is = is.of.are ∙ sym (tells is.parts (rows-of ws rows others found is)).are

reads-known : (ws : List (List ℕ)) (options : Options) → IsCommand ws options → list_all is_known ws ≡ true
reads-known ws options is = ap (list_all is_known) is.written ∙ parts-known is.parts is.numbered

reads-fine : (ws : List (List ℕ)) (options : Options) → IsCommand ws options → fault_of command ws ≡ []
reads-fine ws options is = ap (fault_of command) is.written ∙ parts-fine is.parts is.once is.numbered

-- ---- words that are refused

pub refused-matches : (ws : List (List ℕ)) (rows : List Row) → rows ≡ matches_of command ws → (r : Result Options WordsFault)
    → (r ≡ Err Usage → (parts : List Part) → rows ≡ found_of_parts parts → (options : Options) → IsOf parts options → ⊥)
    → r ≡ Err Usage → (others : Options) → IsCommand ws others → ⊥
refused-matches ws rows found r refused said others is = refused said is.parts (rows-of ws rows others found is) others is.of

pub refused-fault : (ws : List (List ℕ)) (f : WordsFault) → (fault_of command ws ≡ [] → f ≡ Usage → ⊥)
    → (let r : Result Options WordsFault = Err f in r) ≡ Err Usage → (others : Options) → IsCommand ws others → ⊥
refused-fault ws f refused said others is =
    let usage : f ≡ Usage = cc in
    refused (reads-fine ws others is) usage

-- ---- words as strings

pub known-texts : (words : List (String Global)) → list_all (λ w. is_known (string_bytes w)) words ≡ true
    → list_all is_known (map string_bytes words) ≡ true
known-texts words e = list_all-map is_known string_bytes words ∙ e

pub unknown-texts : (words : List (String Global)) → list_all (λ w. is_known (string_bytes w)) words ≡ false → (options : Options)
    → IsCommand (map string_bytes words) options → ⊥
unknown-texts words e options is = true≢false (sym (reads-known (map string_bytes words) options is) ∙ list_all-map is_known string_bytes words ∙ e)
