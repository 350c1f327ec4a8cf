-- A command that changes rows has found the segment, and its transaction's entry is taken out.
use Rattle.std.proofs.Common.{◌≡◌, ◌≢◌, ◌≤◌, false, true, List, refl, ap, ◌∙◌, subst}
use Rattle.std.specs.BTreeMap.{BTreeMap}
use Rattle.gx_ids.specs.declared.ids.Gxid.{Gxid}
use Rattle.gx_node.specs.Phases.{local_of}
use Rattle.gx_store.specs.declared.mark.Mark.{Mark}
use Rattle.gx_rules.specs.Fits.{is_waiting}
use Rattle.gx_rules.specs.Segments as rule
use Rattle.gx_rules.specs.Slices.{Moved}
use Rattle.gx_slices.specs.Agrees.{IsHeld, entry_at, local_in, rows_in}
use Rattle.gx_slices.specs.Changing.{Found, IsAt, IsFree, IsTaken, Stage}
use Rattle.gx_slices.specs.Waiting.{is_open}
use Rattle.gx_slices.specs.declared.held.Entry.{Entry}
use Rattle.gx_slices.specs.declared.held.Held.{Held}
use Rattle.gx_slices.proofs.Closing.{IsApart-taken, no-wait}

module _ (found : Found) (held : Held) (entries : BTreeMap Gxid Entry) (entry : Entry) (g : Gxid) (was : held ≡ found.was) (is : IsHeld found.tables held found.start) where
  abbrev pub first : Held
  first = record held { entries = entries }

  abbrev pub stage_of : Moved → Stage
  stage_of m = record { found = found; first = first; moved = m }

  pub IsTaken-start : (m : Moved) → is_waiting (rule.local_of found.start g) ≡ false → ((h : Gxid) → h.0 ≢ g.0 → entry_at first h ≡ entry_at held h) → IsTaken (stage_of m) g
  IsTaken-start m free others = record {
    held = subst (λ (h : Held). IsHeld found.tables h found.start) was is;
    free = free;
    others = λ h other. others h other ∙ ap (λ (x : Held). entry_at x h) was;
    holders = ap (λ (x : Held). x.holders) was;
  }

  pub IsAt-start : (marks : List Mark) → found.start.horizon.0 ≤ g.0 → is_open (rule.local_of found.start g).phase ≡ true → local_of entry.local ≡ local_in (entry_at held g) → entry.kept ≡ rows_in (entry_at held g)
      → IsAt (stage_of (record { seg = found.start; marks = marks })) g first entry marks
  IsAt-start marks alive open_here local kept = record {
    apart = IsApart-taken found.tables held entries found.start g entry is alive open_here local kept;
    told = refl;
    typed = is.typed;
  }

  pub IsFree-start : (marks : List Mark) → is_waiting (rule.local_of found.start g) ≡ false → IsFree (stage_of (record { seg = found.start; marks = marks })) g
  IsFree-start marks free = no-wait found.tables held found.start g is free
