-- Limits, and which of them differ.
use Rattle.std.specs.Prelude.{◌≡◌, ◌≤◌}
use Rattle.gx_grammar.specs.declared.fault.Limits.{Limits}
use Rattle.gx_grammar.specs.declared.fault.LineLimit.{LineLimit}
use Rattle.gx_grammar.specs.declared.fault.LineLimit.TheVariants.{Segments, Name, Text, Depth}

-- the second limits are the higher, or the same
pub record Below (d e : Limits) : Type 0 where
  pub segments : d.segments ≤ e.segments
  pub name : d.name ≤ e.name
  pub text : d.text ≤ e.text
  pub depth : d.depth ≤ e.depth
  pub operators : d.operators ≤ e.operators

-- this limit is the same; the operators of an expression count as depth
abbrev pub Keeps : LineLimit → Limits → Limits → Type 0
Keeps Segments d e = e.segments ≡ d.segments
Keeps Name d e = e.name ≡ d.name
Keeps Text d e = e.text ≡ d.text
Keeps Depth d e = (e.depth ≡ d.depth) × (e.operators ≡ d.operators)

-- those before this limit are the same
abbrev pub KeepsBefore : LineLimit → Limits → Limits → Type 0
KeepsBefore Segments d e = Unit {0}
KeepsBefore Name d e = e.segments ≡ d.segments
KeepsBefore Text d e = (e.segments ≡ d.segments) × (e.name ≡ d.name)
KeepsBefore Depth d e = (e.segments ≡ d.segments) × (e.name ≡ d.name) × (e.text ≡ d.text)
