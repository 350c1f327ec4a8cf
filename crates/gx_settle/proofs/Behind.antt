-- Reading a line more.
use Rattle.std.proofs.Common.{◌≡◌, ℕ, ◌+◌, zero, suc, List, [], ◌∷◌, ◌++◌, map, length, Some, None, refl, sym, ap, ◌∙◌, subst, arith, append_assoc, append-nil}
use Rattle.std.specs.declared.option.Option.{Option}
use Rattle.std.specs.Prelude.{All}
use Rattle.std.proofs.lemmas.List.{map-append, length-map}
use Rattle.std.proofs.lemmas.List.Elements.{All-append}
use Rattle.gx_settle.specs.declared.command.Command.{Command}
use Rattle.gx_settle.specs.Commands.{AreLinesOf, IsDrawn, IsFirstOther, command_of, lines_of}

-- the lines in front of the rest have these commands
pub record IsReading (bytes rest : List ℕ) (commands : List Command) : Type 0 where
  pub front : List (List ℕ)
  pub parts : lines_of bytes ≡ front ++ lines_of rest
  pub read : AreLinesOf front commands

pub reading-first : (bytes : List ℕ) (commands : List Command) → commands ≡ [] → IsReading bytes bytes commands
reading-first bytes commands e = record { front = []; parts = refl; read = ap (map Some) (sym e) }

pub reading-next : (bytes rest line others : List ℕ) (commands : List Command) (command : Command) → IsReading bytes rest commands → lines_of rest ≡ line ∷ lines_of others → Some command ≡ command_of line
    → IsReading bytes others (commands ++ command ∷ [])
reading-next bytes rest line others commands command is first at = record {
  front = is.front ++ line ∷ [];
  parts = is.parts ∙ ap (λ (t : List (List ℕ)). is.front ++ t) first ∙ sym (append_assoc is.front (line ∷ []) (lines_of others));
  read = map-append command_of is.front (line ∷ []) ∙ ap (λ (t : List (Option Command)). t ++ command_of line ∷ []) is.read ∙ ap (λ (t : Option Command). map Some commands ++ t ∷ []) (sym at) ∙ sym (map-append Some commands (command ∷ []));
}

pub reading-last : (bytes rest : List ℕ) (commands : List Command) → IsReading bytes rest commands → rest ≡ [] → AreLinesOf (lines_of bytes) commands
reading-last bytes rest commands is none = ap (map command_of) (is.parts ∙ ap (λ (t : List ℕ). is.front ++ lines_of t) none ∙ append-nil is.front) ∙ is.read

pub reading-other : (bytes rest line others : List ℕ) (commands : List Command) (n : ℕ) → IsReading bytes rest commands → lines_of rest ≡ line ∷ lines_of others → command_of line ≡ None → n ≡ length commands + 1
    → IsFirstOther (lines_of bytes) n
reading-other bytes rest line others commands n is first none at = record {
  front = is.front;
  line = line;
  rest = lines_of others;
  commands = commands;
  parts = is.parts ∙ ap (λ (t : List (List ℕ)). is.front ++ t) first;
  read = is.read;
  is = none;
  at = at ∙ ap (λ (k : ℕ). k + 1) (sym (length-map commands Some) ∙ ap length (sym is.read) ∙ length-map is.front command_of);
}

drawn-one : (command : Command) → IsDrawn command → All IsDrawn (command ∷ [])
drawn-one command drawn zero d inside = drawn
drawn-one command drawn (suc k) d inside = absurd (omega (arith, inside))

pub drawn-more : (commands more : List Command) (command : Command) → All IsDrawn commands → IsDrawn command → more ≡ commands ++ command ∷ [] → All IsDrawn more
drawn-more commands more command all drawn is = subst (λ (t : List Command). All IsDrawn t) (sym is) (All-append IsDrawn commands (command ∷ []) all (drawn-one command drawn))
