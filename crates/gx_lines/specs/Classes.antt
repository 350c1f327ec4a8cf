-- Classes of tokens: words of which one stands, and numbers.
use Rattle.std.specs.Prelude.{ℕ, ◌==◌, nat_le, ◌&&◌, if◌then◌else◌, Option, Some, None, max}
use Rattle.gx_lex.specs.declared.word.Word.{Word}
use Rattle.gx_lex.specs.declared.word.Word.TheVariants as word
use Rattle.gx_lex.specs.declared.token.Token.{Token}
use Rattle.gx_lex.specs.declared.token.Token.TheVariants as token
use Rattle.gx_grammar.specs.declared.fault.Limits.{Limits}
use Rattle.gx_grammar.specs.declared.fault.LineLimit.TheVariants as limit
use Rattle.gx_grammar.specs.Rules.{Pick, Is, Isnt, Passes}
use Rattle.gx_lines.specs.declared.classes.Size.{Size}
use Rattle.gx_lines.specs.declared.classes.Segments.{Segments}
use Rattle.gx_lines.specs.declared.classes.Agg.{Agg}
use Rattle.gx_lines.specs.declared.classes.Agg.TheVariants as agg
use Rattle.gx_lines.specs.declared.classes.Direction.{Direction}
use Rattle.gx_lines.specs.declared.classes.Direction.TheVariants as direction
use Rattle.gx_lines.specs.declared.classes.Strength.{Strength}
use Rattle.gx_lines.specs.declared.classes.Strength.TheVariants as strength
use Rattle.gx_lines.specs.declared.classes.Switch.{Switch}
use Rattle.gx_lines.specs.declared.classes.Switch.TheVariants as switch
use Rattle.gx_lines.specs.declared.classes.KindSyn.{KindSyn}
use Rattle.gx_lines.specs.declared.classes.KindSyn.TheVariants as kind
use Rattle.gx_lines.specs.declared.classes.Fate.{Fate}
use Rattle.gx_lines.specs.declared.classes.Fate.TheVariants as fate
use Rattle.gx_lines.specs.declared.classes.Way.{Way}
use Rattle.gx_lines.specs.declared.classes.Way.TheVariants as way

abbrev pub agg_word : Word → Option Agg
agg_word word.Sum = Some agg.Sum
agg_word word.Min = Some agg.Min
agg_word word.Max = Some agg.Max
agg_word _ = None

abbrev pub direction_word : Word → Option Direction
direction_word word.Asc = Some direction.Asc
direction_word word.Desc = Some direction.Desc
direction_word _ = None

abbrev pub strength_word : Word → Option Strength
strength_word word.Share = Some strength.Share
strength_word word.Exclusive = Some strength.Exclusive
strength_word _ = None

abbrev pub switch_word : Word → Option Switch
switch_word word.On = Some switch.On
switch_word word.Off = Some switch.Off
switch_word _ = None

abbrev pub kind_word : Word → Option KindSyn
kind_word word.Bigint = Some kind.Bigint
kind_word word.Text = Some kind.Text
kind_word _ = None

abbrev pub fate_word : Word → Option Fate
fate_word word.Lose = Some fate.Lose
fate_word word.Repeat = Some fate.Repeat
fate_word _ = None

abbrev pub way_word : Word → Option Way
way_word word.To = Some way.To
way_word word.From = Some way.From
way_word _ = None

abbrev pub pick_some : {X : Type 0} → Option X → Pick X
pick_some (Some x) = Is x
pick_some None = Isnt

-- a word that has a value
abbrev pub word_of : {X : Type 0} → (Word → Option X) → Token → Pick X
word_of f (token.Word w) = pick_some (f w)
word_of f _ = Isnt

abbrev pub agg_of : Token → Pick Agg
agg_of = word_of agg_word

abbrev pub direction_of : Token → Pick Direction
direction_of = word_of direction_word

abbrev pub strength_of : Token → Pick Strength
strength_of = word_of strength_word

abbrev pub switch_of : Token → Pick Switch
switch_of = word_of switch_word

abbrev pub kind_of : Token → Pick KindSyn
kind_of = word_of kind_word

abbrev pub fate_of : Token → Pick Fate
fate_of = word_of fate_word

abbrev pub way_of : Token → Pick Way
way_of = word_of way_word

-- a number of any size
abbrev pub size_of : Token → Pick Size
size_of (token.Number n) = Is (record { 0 = n })
size_of _ = Isnt

abbrev pub segments_in : Limits → ℕ → Pick Segments
segments_in d n = if n == 0 then Isnt else (if nat_le n (max d.segments 1) then Is (record { 0 = n }) else Passes limit.Segments)

-- the number of segments, from 1 to the limit, which is at least 1; a number of more than 64 bits is above the limit
abbrev pub segments_of : Limits → Token → Pick Segments
segments_of d (token.Number (Some n)) = segments_in d n
segments_of d (token.Number None) = segments_in d 18446744073709551616
segments_of d _ = Isnt

abbrev pub in_range : ℕ → ℕ → ℕ → Pick ℕ
in_range least greatest n = if nat_le least n && nat_le n greatest then Is n else Isnt

-- a number of a range
abbrev pub number_in : ℕ → ℕ → Token → Pick ℕ
number_in least greatest (token.Number (Some n)) = in_range least greatest n
number_in least greatest _ = Isnt
