use Rattle.std.proofs.Common.{rules, arith, ◌≡◌, ◌<◌, ◌≤◌, ◌-◌, ◌++◌, ◌||◌, true, false, Bool, List, take, drop, length, ap, sym, refl, ◌∙◌}
use Rattle.std.proofs.Math.ListN.{get_or}
use Rattle.std.proofs.lemmas.List.{get_or_default}
use Rattle.std.specs.List.{list_any}
use Rattle.gx_rows.specs.Xids.{gxid_of, status_of}
use Rattle.gx_rows.specs.declared.version.Version.{Version}
use Rattle.gx_sweep.specs.Swept.{has_aborted, is_past, is_settled, swept}
use Rattle.gx_sweep.proofs.Removed.{falls, last-inside, last-read, settles-none, unsettled, without-last}
use Rattle.gx_sweep.proofs.sweeping.drop_dead.Goals as goal
use Rattle.gx_sweep.proofs.sweeping.drop_dead.Goals.{then-overtaken, else-overtaken}

or_true : (b : Bool) → (b || true) ≡ true
or_true true = refl
or_true false = refl

pub loop-place-preserved-then-has_aborted : goal.loop-place-preserved-then-has_aborted
loop-place-preserved-then-has_aborted c =
    let all = c.args.versions.now in
    let place = c.loop-place.place in
    let x = c.args.map.now in
    let h = c.args.horizon in
    let more : 0 < place = search rules in
    let i = c.loop-place.invariant in
    let read = last-read all (swept x h (drop place all)) place more i.0 c.loop-place.versions c.remove.result i.1 in
    let seen : (c.loop-place.overtaken || has_aborted x (get_or c.loop-place.versions (place - 1) c.remove.result)) ≡ true =
    (elim c.if-overtaken.branch [
      | then-overtaken w ↦ search rules
      | else-overtaken w ↦
          let there : place - 1 < length c.loop-place.versions = last-inside all (swept x h (drop place all)) place more i.0 c.loop-place.versions i.1 in
          let same = get_or_default c.loop-place.versions (place - 1) c.remove.result w.index-as_slice-place.result there in
          let is : w.index-as_slice-place.result ≡ get_or c.loop-place.versions (place - 1) w.index-as_slice-place.result = search rules in
          let dead : has_aborted x w.index-as_slice-place.result ≡ true = search rules in
          ap (λ (b : Bool). c.loop-place.overtaken || b) (ap (has_aborted x) (same ∙ sym is) ∙ dead) ∙ or_true c.loop-place.overtaken
    ]) in
    let dead : (list_any (is_settled x h) (drop place all) || has_aborted x (get_or all (place - 1) c.remove.result)) ≡ true =
    ap (λ (b : Bool). b || has_aborted x (get_or all (place - 1) c.remove.result)) (sym i.2)
    ∙ ap (λ (v : Version). c.loop-place.overtaken || has_aborted x v) (sym read)
    ∙ seen in
    let never = λ (v : Version). unsettled (status_of x v.lxid) (is_past h (gxid_of x v.lxid)) in
    let left = without-last all (swept x h (drop place all)) place more i.0 c.loop-place.versions c.remove.new.self i.1 c.remove.ensures in
    let inside : place - 1 ≤ length all = let a = i.0 in omega arith in (
      inside,
      left ∙ ap (λ (vs : List Version). take (place - 1) all ++ vs) (falls (has_aborted x) (is_settled x h) never all place more i.0 c.remove.result dead),
      i.2 ∙ settles-none (has_aborted x) (is_settled x h) never all place more i.0 c.remove.result dead,
    )
