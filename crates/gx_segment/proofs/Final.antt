-- What a reader without a transaction is shown.
use Rattle.std.proofs.Common.{◌≡◌, ℕ, Bool, false, cond, ◌&&◌, ◌||◌, eqb, ltb, List, [], ◌∷◌, Option, Some, None, refl, ap, ◌∙◌, arith}
use Rattle.std.proofs.lemmas.Bool.Decides.{nat_tests}
use Rattle.std.specs.Prelude.{find, option_and_then, reverse}
use Rattle.gx_ids.specs.declared.ids.Table.{Table}
use Rattle.gx_ids.specs.declared.rid.Rid.{Rid}
use Rattle.gx_tree.specs.declared.row.KeyedRow.{KeyedRow}
use Rattle.gx_tree.specs.declared.schema.Schema.{Schema}
use Rattle.gx_dsnap.specs.declared.snapshot.Snapshot.{Snapshot}
use Rattle.gx_meaning.specs.Answer.{AreRising}
use Rattle.gx_slices.specs.Store.{Write, is_by, is_shown, shown_row, writes_of}
use Rattle.gx_store.specs.Rows.{row_at}
use Rattle.gx_rules.specs.Segments.{Seg}
use Rattle.gx_rules.specs.Shown.{shown}
use Rattle.gx_slices.specs.Agrees.{IsHeld}
use Rattle.gx_slices.specs.Apart.{IsStored}
use Rattle.gx_slices.specs.declared.held.Held.{Held}
use Rattle.gx_slices.proofs.Counting.{rows-shown}
use Rattle.gx_segment.specs.Steps.{no_command, nobody}

find-same : (p q : Write → Bool) → ((w : Write) → p w ≡ q w) → (ws : List Write) → find p ws ≡ find q ws
find-same p q same [] = refl
find-same p q same (w ∷ ws) = ap (λ (b : Bool). cond b (Some w) (find p ws)) (same w) ∙ ap (cond (q w) (Some w)) (find-same p q same ws)

-- no command is before the first
never_own : (a : Bool) (n : ℕ) (b : Bool) → b ≡ ((a && ltb n 0) || b)
never_own a n b = grind (arith, nat_tests)

none_before : (a : Bool) (n : ℕ) → (a && ltb n 0) ≡ false
none_before a n = grind (arith, nat_tests)

module _ (tables : List Schema) (held : Held) (s : Seg) (is : IsHeld tables held s) (snap : Snapshot) (table : Table) where
  stored : IsStored held.store s
  stored = record { horizon = is.horizon; writes = is.writes; wrote = is.wrote; committed = is.committed; unaborted = is.unaborted }

  by_nobody : (rid : Rid) → shown_row held.store snap None no_command table rid ≡ shown_row held.store snap (Some nobody) no_command table rid
  by_nobody rid =
      ap (λ (o : Option Write). option_and_then (λ w. w.image) o)
      (find-same (is_shown snap None no_command) (is_shown snap (Some nobody) no_command) (λ w. never_own (is_by w.writer nobody) w.cid.0 (is_shown snap None no_command w)) (reverse (writes_of held.store table rid)))

  pub rows-final : (rows : List KeyedRow) → AreRising rows → ((rid : Rid) → row_at rows rid ≡ shown_row held.store snap None no_command table rid) → rows ≡ shown s snap nobody no_command table
  rows-final rows rising images = rows-shown held.store s stored snap nobody no_command (λ v e. none_before (eqb v.gxid.0 0) v.cid.0) (λ v e. none_before (eqb v.gxid.0 0) v.cid.0) table rows rising (λ rid. images rid ∙ by_nobody rid)
