-- The runs that the machine reaches.
use Rattle.std.proofs.Common.{◌≡◌, ◌≤◌, ℕ, ◌+◌, ◌*◌, List, [], ◌∷◌, ◌++◌, Bool, true, refl, sym, subst, ap, ◌∙◌, ◌&&◌, length}
use Rattle.std.specs.List.{list_all}
use Rattle.std.specs.declared.alloc.Global.{Global}
use Rattle.std.specs.declared.vec.Vec.{Vec}
use Rattle.gx_ids.specs.declared.ids.Table.{Table}
use Rattle.gx_msg.specs.declared.message.Envelope.{Envelope}
use Rattle.gx_script.specs.declared.Script.{Script}
use Rattle.gx_tree.specs.declared.row.KeyedRow.{KeyedRow}
use Rattle.gx_store.specs.declared.event.Event.{Event}
use Rattle.gx_store.specs.declared.run.Step.{Step}
use Rattle.gx_store.specs.Points.{marks_in}
use Rattle.gx_store.specs.Rows.{row_at}
use Rattle.gx_store.specs.Schedule.{enabled}
use Rattle.gx_rules.specs.Coordinators.{Coord}
use Rattle.gx_rules.specs.Machine.{Letter, World, can, happens, new_world, world_of}
use Rattle.gx_rules.specs.Segments.{Seg}
use Rattle.gx_rules.specs.Snapshots.{snapshot_of}
use Rattle.gx_law_order.proofs.Letters.{found_is}
use Rattle.gx_law_order.specs.Lists.{Each}
use Rattle.gx_law_reads.specs.Sights.{AreRowsOf, AreRowsOfAll, IsOnlyAt, shown_to_all}
use Rattle.gx_law_runs.proofs.Awaited.{sent-room, world-asks}
use Rattle.gx_law_runs.proofs.Enabled.{all-admitted}
use Rattle.gx_law_runs.proofs.Room.{Stays, world-stays}
use Rattle.gx_law_runs.specs.Reached.{HasRoomAfter, IsReached}
use Rattle.gx_law_runs.specs.Replays.{AreReplayed, IsNextAtCoordinator, IsNextAtSegment, coordinator_after, is_admitted, letters_after, world_behind}
use Rattle.gx_law_runs.proofs.Leading.{after-last, coordinator-leads, segment-leads}
use Rattle.gx_law_runs.proofs.Replaying.{world-replayed}
use Rattle.gx_law_runs.proofs.Telling.{can-told, happens-alike}

module _ (script : Script) (steps : List Step) (is : IsReached script steps) where
  abbrev pub w : World
  w = world_of script is.events

  -- what holds after every list of events
  pub by-events : (P : List Step → Type 0) → ((es : List (Event × Bool)) → P (world_of script es).steps) → P steps
  by-events P all = subst P is.is (all is.events)

  pub replayed : AreReplayed script steps w
  replayed = subst (λ ss. AreReplayed script ss w) is.is (world-replayed script is.events)

  -- one step more
  pub coordinator-reached : (step : Step) → IsNextAtCoordinator script steps step → IsReached script (steps ++ step ∷ [])
  coordinator-reached step next =
      let n : IsNextAtCoordinator script w.steps step = subst (λ ss. IsNextAtCoordinator script ss step) (sym is.is) next in
      record { events = is.events ++ (step.event, n.fails) ∷ []; is = coordinator-leads script is.events step n ∙ ap (λ ss. ss ++ step ∷ []) is.is }

  pub segment-reached : (step : Step) → IsNextAtSegment script steps step → IsReached script (steps ++ step ∷ [])
  segment-reached step next =
      let n : IsNextAtSegment script w.steps step = subst (λ ss. IsNextAtSegment script ss step) (sym is.is) next in
      record { events = is.events ++ (step.event, n.fails) ∷ []; is = segment-leads script is.events step n ∙ ap (λ ss. ss ++ step ∷ []) is.is }

  pub event-reached : (e : Event) (fails : Bool) → IsReached script (happens script (world_behind script steps) e fails).steps
  event-reached e fails =
      record { events = is.events ++ (e, fails) ∷ []; is = ap (λ (v : World). v.steps) (after-last script new_world is.events (e, fails)) ∙ happens-alike script steps w replayed is.is e fails }

-- WHAT IS ENABLED
pub all-same : (p q : Event → Bool) (xs : List Event) → ((x : Event) → p x ≡ q x) → list_all p xs ≡ list_all q xs
all-same p q [] same = refl
all-same p q (x ∷ xs) same = ap (λ b. b && list_all p xs) (same x) ∙ ap (λ b. q x && b) (all-same p q xs same)

module _ (script : Script) (some : 1 ≤ script.segments) (es : List (Event × Bool)) where
  told : (e : Event) → can script (world_of script es) e ≡ is_admitted script (world_of script es).steps e
  told = can-told script (world_of script es).steps (world_of script es) (world-replayed script es) refl

  pub all-are-admitted : list_all (is_admitted script (world_of script es).steps) (enabled script (world_of script es).steps) ≡ true
  all-are-admitted = sym (all-same (can script (world_of script es)) (is_admitted script (world_of script es).steps) (enabled script (world_of script es).steps) told) ∙ all-admitted script some es

-- COUNTS
pub room-after : (script : Script) (some : 1 ≤ script.segments) (es : List (Event × Bool)) → HasRoomAfter script (world_of script es).steps
room-after script some es =
    record {
      clock = subst (λ (c : Coord). c.clock ≤ length w.steps) r.coordinator stays.room.clock;
      clocks = λ i one. subst (λ (s : Seg). s.clock ≤ length w.steps) (r.segments i one) (stays.room.clocks i);
      heard = λ from to number envelope f.
          let d = found_is (λ (l : Letter). l.envelope.clock ≤ length w.steps) from to number (letters_after w.steps) envelope (subst (λ ls. Each (λ (l : Letter). l.envelope.clock ≤ length w.steps) ls) r.sent stays.letters) f in
          subst (λ (x : Envelope). x.clock ≤ length w.steps) d.told d.is;
      next = subst (λ (c : Coord). c.table.next.0 ≤ length w.steps + 1) r.coordinator stays.room.next;
      sent = λ i. subst (λ (c : Coord). c.sent i ≤ 64 * length w.steps) r.coordinator (sent-room w (world-asks script some es) i);
      answered = λ i one. subst (λ (s : Seg). s.sent ≤ length w.steps) (r.segments i one) (stays.room.answered i);
    }
  where
    w : World
    w = world_of script es

    r : AreReplayed script w.steps w
    r = world-replayed script es

    stays : Stays w
    stays = world-stays script some es

-- THE FINAL TABLES
module _ (script : Script) (steps : List Step) (w : World) (r : AreReplayed script steps w) (same : w.steps ≡ steps) where
  rows-of : (table : Table) (rows : List KeyedRow) → AreRowsOf (world_behind script steps) table rows → AreRowsOf w table rows
  rows-of table rows a =
      record {
        rising = a.rising;
        shown = λ node rid one only.
            a.shown node rid one (subst (λ ss. IsOnlyAt node rid (marks_in ss)) same only)
            ∙ ap (λ s. row_at (shown_to_all s (snapshot_of (coordinator_after script steps).table) table) rid) (sym (r.segments node.0 one))
            ∙ ap (λ (c : Coord). row_at (shown_to_all (w.segs node.0) (snapshot_of c.table) table) rid) (sym r.coordinator);
      }

  pub rows-of-all : (k : ℕ) (tables : List (Vec KeyedRow Global)) → AreRowsOfAll k (world_behind script steps) tables → AreRowsOfAll k w tables
  rows-of-all k [] a = tt
  rows-of-all k (rows ∷ tables) a = (rows-of (record { 0 = k }) rows.items a.0, rows-of-all (k + 1) tables a.1)
