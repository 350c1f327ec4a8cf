-- Which way a command goes.
use Rattle.std.proofs.Common.{◌≡◌, ◌≤◌, Bool, true, false, if◌then◌else◌, List, refl, sym, ap, ◌∙◌, eqb, arith, subst}
use Rattle.std.proofs.lemmas.Bool.Decides.{nat_tests}
use Rattle.std.specs.Prelude.{◌&&◌, ◌||◌, is_some, not, nat_le, nat_lt, slice_get}
use Rattle.gx_ids.specs.declared.ids.Cid.{Cid}
use Rattle.gx_ids.specs.declared.ids.Gxid.{Gxid}
use Rattle.gx_tree.specs.declared.schema.Schema.{Schema}
use Rattle.gx_tree.specs.declared.slice.Slice.{Slice}
use Rattle.gx_dsnap.specs.Gxids.{is_below}
use Rattle.gx_node.specs.Right.{IsRightFor}
use Rattle.gx_node.specs.declared.local.Suspended.{Suspended}
use Rattle.gx_script.specs.declared.Script.{Script}
use Rattle.gx_rules.specs.AtSegment.{if_fits, on_exec, raised, repeats}
use Rattle.gx_rules.specs.Fits.{holds_locks, is_right_on, is_right_slice, is_waiting, reads_nothing, table_of}
use Rattle.gx_rules.specs.Maps.{each_below}
use Rattle.gx_rules.specs.Segments.{Local, Phase, Reading, Writing, Prepared, Committed, Forgotten, Aborted, Seg, SegTurn, local_of, stays}
use Rattle.gx_slices.specs.Agrees.{IsHeld}
use Rattle.gx_slices.specs.Waiting.{is_open}
use Rattle.gx_slices.specs.declared.held.Held.{Held}
use Rattle.gx_segment.specs.Ways.{Goes, IsWay, again_at, exec_turn, fits_here, turn_by, way_in, way_of}
use Rattle.gx_segment.proofs.Raised.{AreWaits-raised, AreWriters-raised}
use Rattle.gx_segment.specs.declared.commands.Way.{Way}
use Rattle.gx_segment.specs.declared.commands.Way.TheVariants.{Runs, Repeats, Nothing}

-- what is right is right for each script of these tables
right-tables : (script other : Script) (g : Gxid) (c : Cid) (sl : Slice) → other.tables ≡ script.tables → is_right_slice script g c sl ≡ is_right_slice other g c sl
right-tables script other g c sl e = ap (λ (ts : List Schema). is_right_on g c (slice_get ts (table_of sl)) sl) (sym e)

third : (a b c : Bool) → (a && (b && c)) ≡ true → c ≡ true
third true true c e = e
third true false c e = absurd (cc)
third false b c e = absurd (cc)

second : (a b : Bool) → (a && b) ≡ true → b ≡ true
second true b e = e
second false b e = absurd (cc)

first : (a b : Bool) → (a && b) ≡ true → a ≡ true
first true b e = refl
first false b e = e

module _ (script : Script) (s : Seg) (g : Gxid) (w : Suspended) (h : Gxid) where
  abbrev c : Cid
  c = w.cid

  abbrev l : Local
  l = local_of s g

  abbrev unless_waits : Bool
  unless_waits = not (nat_lt l.last c.0 && is_waiting l)

  abbrev after : Phase → SegTurn
  after p = on_exec script s g c w.level w.snapshot h w.slice l p

  again-turn : (b : Bool) → eqb c.0 l.last ≡ b → repeats s g c l ≡ turn_by (if b then Repeats else Nothing) script s g w h
  again-turn true e = rw e refl
  again-turn false e = rw e refl

  takes-turn : (b : Bool) → nat_lt l.last c.0 ≡ b → after Reading ≡ turn_by (if b then Runs else again_at l.last c) script s g w h
  takes-turn true e = rw e refl
  takes-turn false e = rw e (again-turn (eqb c.0 l.last) refl)

  way-turn : (p : Phase) → after p ≡ turn_by (way_in l.last c p) script s g w h
  way-turn Reading = takes-turn (nat_lt l.last c.0) refl
  way-turn Writing = takes-turn (nat_lt l.last c.0) refl
  way-turn Prepared = again-turn (eqb c.0 l.last) refl
  way-turn Committed = again-turn (eqb c.0 l.last) refl
  way-turn (Forgotten committed) = refl
  way-turn Aborted = refl

  low-raised : s.horizon.0 ≤ g.0 → h.0 ≤ g.0 → (raised s h).horizon.0 ≤ g.0
  low-raised alive e = grind (arith, nat_tests)

  abbrev nobody : Bool
  nobody = each_below h.0 (λ n. not (holds_locks (s.locals n)))

  abbrev reads_it : Bool
  reads_it = is_some w.snapshot || reads_nothing w.slice

  abbrev is_right : Bool
  is_right = is_right_slice script g c w.slice

  low : fits_here script s g w h ≡ true → h.0 ≤ g.0
  low fits = let t : nat_le h.0 g.0 ≡ true = first (nat_le h.0 g.0) (nobody && (reads_it && (is_right && unless_waits))) fits in grind (arith, nat_tests)

  slice-fits : fits_here script s g w h ≡ true → (reads_it && (is_right && unless_waits)) ≡ true
  slice-fits fits = third (nat_le h.0 g.0) nobody (reads_it && (is_right && unless_waits)) fits

  reads : fits_here script s g w h ≡ true → reads_it ≡ true
  reads fits = first reads_it (is_right && unless_waits) (slice-fits fits)

  right : fits_here script s g w h ≡ true → IsRightFor script.tables g c w.slice true
  right fits = λ other e. sym (first is_right unless_waits (second reads_it (is_right && unless_waits) (slice-fits fits))) ∙ right-tables script other g c w.slice e

  -- a new command's transaction waits for nothing
  free : fits_here script s g w h ≡ true → nat_lt l.last c.0 ≡ true → is_waiting l ≡ false
  free fits new = waits_not (nat_lt l.last c.0) (is_waiting l) new (third reads_it is_right unless_waits (slice-fits fits))
    where
      waits_not : (a b : Bool) → a ≡ true → not (a && b) ≡ true → b ≡ false
      waits_not true true e f = absurd (cc)
      waits_not true false e f = refl
      waits_not false b e f = absurd (cc)

  nobody_below : fits_here script s g w h ≡ true → nobody ≡ true
  nobody_below fits = first nobody (reads_it && (is_right && unless_waits)) (second (nat_le h.0 g.0) (nobody && (reads_it && (is_right && unless_waits))) fits)

  module _ (alive : s.horizon.0 ≤ g.0) (held : Held) (is_held : IsHeld script.tables held s) (fits : fits_here script s g w h ≡ true) where
    again-goes : (b : Bool) → Goes script s g w h (if b then Repeats else Nothing)
    again-goes true = alive
    again-goes false = tt

    first_is_new : nat_lt l.last c.0 ≡ true → nat_lt 0 c.0 ≡ true
    first_is_new e = grind (arith, nat_tests)

    takes-goes : is_open l.phase ≡ true → (b : Bool) → nat_lt l.last c.0 ≡ b → Goes script s g w h (if b then Runs else again_at l.last c)
    takes-goes is true e = record {
      may = record { alive = low-raised alive (low fits); open_here = is; free = free fits e; reads = reads fits; right = right fits; new = first_is_new e };
      waits = AreWaits-raised script.tables s h is_held.waits (nobody_below fits);
      writers = AreWriters-raised s h is_held.writers is_held.came (nobody_below fits);
    }
    takes-goes is false e = again-goes (eqb c.0 l.last)

    way-goes : (p : Phase) → is_open l.phase ≡ is_open p → Goes script s g w h (way_in l.last c p)
    way-goes Reading e = takes-goes e (nat_lt l.last c.0) refl
    way-goes Writing e = takes-goes e (nat_lt l.last c.0) refl
    way-goes Prepared e = again-goes (eqb c.0 l.last)
    way-goes Committed e = again-goes (eqb c.0 l.last)
    way-goes (Forgotten committed) e = tt
    way-goes Aborted e = tt

  not_below : s.horizon.0 ≤ g.0 → is_below s.horizon g ≡ false
  not_below alive = grind (arith, nat_tests)

  past : is_below s.horizon g ≡ false → (b : Bool) → fits_here script s g w h ≡ b → exec_turn script s g w h ≡ if_fits s b (after l.phase)
  past e b f =
      ap (λ (x : Bool). if x then stays s else if_fits s (fits_here script s g w h) (after l.phase)) e
      ∙ ap (λ (x : Bool). if_fits s x (after l.phase)) f

  -- it goes by the transaction's record
  pub way-held : s.horizon.0 ≤ g.0 → (held : Held) → IsHeld script.tables held s → fits_here script s g w h ≡ true → (way : Way) → way ≡ way_of l c → IsWay script s g w h way
  way-held alive held is fits way e = subst (IsWay script s g w h) (sym e) (record {
    turn = past (not_below alive) true fits ∙ way-turn l.phase;
    goes = way-goes alive held is fits l.phase refl;
  })
