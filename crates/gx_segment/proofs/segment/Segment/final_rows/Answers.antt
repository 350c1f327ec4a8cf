use Rattle.gx_segment.proofs.Final.{rows-final}
use Rattle.gx_segment.proofs.segment.Segment.final_rows.Goals as goal

pub returns : goal.returns
returns g c = record {
  rows = rows-final c.args.self.now.script.value.tables c.args.self.now.held g.s c.requires.held c.args.snapshot.now c.args.table c.in_ok-rows.rows.items c.in_ok-rows.ensures.rising c.in_ok-rows.ensures.images;
}
