-- Limits above limits.
use Rattle.std.proofs.Common.{max, arith}
use Rattle.gx_grammar.specs.declared.fault.Limits.{Limits}
use Rattle.gx_grammar.specs.declared.fault.LineLimit.{LineLimit}
use Rattle.gx_grammar.specs.declared.fault.LineLimit.TheVariants.{Segments, Name, Text, Depth}
use Rattle.gx_grammar.specs.Limiting.{Below, Keeps}

pub below_self : (d : Limits) → Below d d
below_self d = record { segments = omega arith; name = omega arith; text = omega arith; depth = omega arith; operators = omega arith }

pub below_trans : (d e f : Limits) → Below d e → Below e f → Below d f
below_trans d e f a b = record { segments = omega arith; name = omega arith; text = omega arith; depth = omega arith; operators = omega arith }

-- the higher of two limits, each
abbrev pub join : Limits → Limits → Limits
join d e = record { segments = max d.segments e.segments; name = max d.name e.name; text = max d.text e.text; depth = max d.depth e.depth; operators = max d.operators e.operators }

pub join_left : (d e : Limits) → Below d (join d e)
join_left d e = record { segments = omega arith; name = omega arith; text = omega arith; depth = omega arith; operators = omega arith }

pub join_right : (d e : Limits) → Below e (join d e)
join_right d e = record { segments = omega arith; name = omega arith; text = omega arith; depth = omega arith; operators = omega arith }

pub join_keeps : (l : LineLimit) (d e : Limits) → Keeps l d e → Keeps l d (join d e)
join_keeps Segments d e k = omega arith
join_keeps Name d e k = omega arith
join_keeps Text d e k = omega arith
join_keeps Depth d e k = (omega arith, omega arith)
