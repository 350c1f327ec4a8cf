-- What a message came to, against a turn of the rule.
use Rattle.std.specs.Prelude.{◌≡◌, Bool, false, List, [], ◌∷◌, Some, None}
use Rattle.std.specs.declared.option.Option.{Option}
use Rattle.gx_ids.specs.declared.ids.Gxid.{Gxid}
use Rattle.gx_tree.specs.declared.schema.Schema.{Schema}
use Rattle.gx_msg.specs.declared.message.Message.{Message}
use Rattle.gx_msg.specs.declared.message.Message.TheVariants.{Answer}
use Rattle.gx_msg.specs.declared.message.Out.{Out}
use Rattle.gx_msg.specs.declared.reply.Reply.{Reply}
use Rattle.gx_store.specs.declared.mark.Mark.{Mark}
use Rattle.gx_store.specs.Refusals.{the_coordinator}
use Rattle.gx_rules.specs.Segments.{SegTurn}
use Rattle.gx_slices.specs.Agrees.{IsHeld}
use Rattle.gx_slices.specs.declared.held.Held.{Held}
use Rattle.gx_segment.specs.declared.done.Done.{Done}

abbrev pub answer_of : Gxid → Option Reply → Option Message
answer_of g None = None
answer_of g (Some r) = Some (Answer g r)

abbrev pub to_coordinator : Option Message → List Out
to_coordinator None = []
to_coordinator (Some m) = record { node = the_coordinator; message = m } ∷ []

-- what a message came to, with its marks
pub record Came : Type 0 where
  pub marks : List Mark
  pub answer : Option Message
  pub fails : Bool

abbrev pub came : List Mark → Done → Came
came marks done = record { marks = marks; answer = done.answer; fails = done.fails }

-- what is held, the marks and the answer are the turn's
pub record HasDone (tables : List Schema) (now : Held) (low : Gxid) (done : Came) (turn : SegTurn) : Type 0 where
  pub held : IsHeld tables now turn.seg
  pub horizon : low ≡ turn.seg.horizon
  pub marks : done.marks ≡ turn.marks
  pub outs : to_coordinator done.answer ≡ turn.outs

-- and the journal has nothing to take
pub record IsQuiet (failed : Bool) (turn : SegTurn) : Type 0 where
  pub fails : failed ≡ false
  pub item : turn.item ≡ None
