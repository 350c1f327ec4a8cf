use Rattle.std.proofs.Common.{◌<◌, sym, subst, length}
use Rattle.std.specs.Prelude.{Contains}
use Rattle.gx_detect.specs.declared.place.Place.TheVariants.{Awaited}
use Rattle.gx_detect.specs.Reducing.{AreNoted, AreTakenOut, IsCounted, IsDone, IsFollowed}
use Rattle.gx_detect.specs.Wants.{needing}
use Rattle.gx_detect.proofs.Following.{largest_without, noted_after, noted_if_done}
use Rattle.gx_detect.proofs.Marks.{get_below}
use Rattle.gx_detect.proofs.reduced.Reduced.cancel.Goals as goal

pub take_out_all-requires-clause-indexes : goal.take_out_all-requires-clause-indexes
take_out_all-requires-clause-indexes c = λ k h.
    let self = c.args.self.now in
    let o = c.requires.listed.no_others (Awaited c.args.gxid) k (subst (λ l. Contains l k) c.at.ensures h) in
    subst (λ es. k < length es) (sym c.deref.ensures.value) (get_below self.edges.items k o.0 o.1)

pub follow-requires-clause-noted : goal.follow-requires-clause-noted
follow-requires-clause-noted c =
    let self = c.args.self.now in
    let s = c.requires in
    let mid = c.take_out_all.new.rest in
    let taken : AreTakenOut self.edges.items (needing self.wants (Awaited c.args.gxid)) self.rest mid =
    subst (λ es. AreTakenOut es (needing self.wants (Awaited c.args.gxid)) self.rest mid) c.deref.ensures.value
    (subst (λ l. AreTakenOut c.deref.result.now l self.rest mid) c.at.ensures c.in_ok-take_out_all.ensures.out) in
    subst (λ es. AreNoted self.wants.aim es mid) (sym c.deref-2.ensures.value)
    (noted_after self.edges.items self.wants s.listed (Awaited c.args.gxid) self.rest mid s.counted taken
    (noted_if_done self.wants.aim self.edges.items self.rest (Awaited c.args.gxid) (subst (λ a. IsDone a self.edges.items self.rest) (sym s.aims) s.done)))

pub returns-clause-settled : goal.returns-clause-settled
returns-clause-settled c =
    let self = c.args.self.now in
    let s = c.requires in
    let new = c.follow.new.rest in
    record {
      aims = s.aims;
      counted = subst (λ es. IsCounted es new) c.deref-2.ensures.value c.in_ok-follow.ensures.counted;
      listed = s.listed;
      done = subst (λ a. IsDone a self.edges.items new) s.aims (subst (λ es. IsDone self.wants.aim es new) c.deref-2.ensures.value c.in_ok-follow.ensures.done);
    }

pub returns-clause-largest : goal.returns-clause-largest
returns-clause-largest c =
    let self = c.args.self.now in
    let s = c.requires in
    let mid = c.take_out_all.new.rest in
    let new = c.follow.new.rest in
    let taken : AreTakenOut self.edges.items (needing self.wants (Awaited c.args.gxid)) self.rest mid =
    subst (λ es. AreTakenOut es (needing self.wants (Awaited c.args.gxid)) self.rest mid) c.deref.ensures.value
    (subst (λ l. AreTakenOut c.deref.result.now l self.rest mid) c.at.ensures c.in_ok-take_out_all.ensures.out) in
    λ edges was. largest_without edges self.edges.items self.wants s.aims s.listed c.args.gxid self.rest mid new s.counted taken
    (subst (λ es. IsFollowed self.wants.aim es mid new) c.deref-2.ensures.value c.in_ok-follow.ensures.followed)
    (subst (λ es. IsCounted es new) c.deref-2.ensures.value c.in_ok-follow.ensures.counted)
    (subst (λ es. IsDone self.wants.aim es new) c.deref-2.ensures.value c.in_ok-follow.ensures.done) was
