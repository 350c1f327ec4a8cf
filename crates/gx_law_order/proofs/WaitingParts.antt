-- What the coordinator knows of a transaction of which a slice waits at a segment.
use Rattle.std.proofs.Common.{◌≡◌, ◌⊎◌, inl, inr, ℕ, Option, Some, true, false, sym, ◌∙◌}
use Rattle.std.specs.Prelude.{is_some}
use Rattle.std.proofs.lemmas.Bool.{false_from_ne_true}
use Rattle.gx_ids.specs.declared.ids.Gxid.{Gxid}
use Rattle.gx_script.specs.declared.Script.{Script}
use Rattle.gx_store.specs.Points.{marks_in}
use Rattle.gx_rules.specs.Machine.{World}
use Rattle.gx_rules.specs.Segments.{Suspended, local_of}
use Rattle.gx_law_order.proofs.Waiting.{waiting}
use Rattle.gx_law_order.proofs.World.{Knows}
use Rattle.gx_law_order.specs.Pairs.{Pair}
use Rattle.gx_law_order.specs.Standings.{Known, Part, is_closing, known_at}
use Rattle.gx_law_order.specs.Standings.Standing.{Unborn, Live, Over}
use Rattle.gx_law_order.proofs.Everywhere.{Holds, parts_in}
use Rattle.gx_law_order.proofs.Parts.{drawn-waits, quiet-waits, unclosed-waits}

-- where it is live, the answer of that segment is awaited, to the last command, which is the slice's; else it is aborted: it is
-- neither undrawn, nor on its way to a commit, nor committed
pub record IsAwaited (k : Known) (x : Suspended) : Type 0 where
  pub stands : (k.at ≡ Live) ⊎ (k.aborted ≡ true)
  pub waits : k.at ≡ Live → k.waits ≡ true
  pub last : k.at ≡ Live → k.last ≡ x.cid.0
  pub drawn : k.at ≡ Unborn → ⊥
  pub opens : is_closing k.at ≡ false
  pub uncommitted : k.committed ≡ false

-- so it is of each slice that waits
pub awaited : (script : Script) (w : World) → Knows script w → Holds script w → (i : ℕ) (g : Gxid) (x : Suspended) → (local_of (w.segs i) g).suspended ≡ Some x → IsAwaited (known_at w.coord (marks_in w.steps) i g.0) x
awaited script w n v i g x e =
    let k : Known = known_at w.coord (marks_in w.steps) i g.0 in
    let p : Part = parts_in w i g.0 in
    let pair : Pair k p = v.stands.pairs i g.0 in
    let y : p.waits ≡ true = is-some (local_of (w.segs i) g).suspended e in
    record {
      stands = (pair.waits y).2;
      waits = λ l. (pair.awaited l y).0;
      last = λ l. sym (pair.awaited l y).1 ∙ (waiting script w n.well i g x e).last;
      drawn = drawn-waits k p pair y;
      opens = false_from_ne_true (is_closing k.at) (unclosed-waits k p pair y);
      uncommitted = false_from_ne_true k.committed (uncommitted-waits k p pair y);
    }
  where
    is-some : (o : Option Suspended) → o ≡ Some x → is_some o ≡ true
    is-some o q = cc

    uncommitted-waits : (k : Known) (p : Part) → Pair k p → p.waits ≡ true → k.committed ≡ true → ⊥
    uncommitted-waits k p pair y c = by_place (pair.waits y).2
      where
        not-over : Over ≡ Live → ⊥
        not-over q = cc

        by_place : (k.at ≡ Live) ⊎ (k.aborted ≡ true) → ⊥
        by_place (inl q) = not-over (sym (pair.ends c) ∙ q)
        by_place (inr q) = quiet-waits k.aborted (pair.either c) q
