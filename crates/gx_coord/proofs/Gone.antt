-- A step of the coordinator's parts is a step of its rule.
use Rattle.std.proofs.Common.{◌≡◌, ◌<◌, ◌≤◌, ◌+◌, ◌∙◌, ℕ, List, [], ◌∷◌, Bool, true, false, All, refl, sym, subst, ap, arith, length}
use Rattle.std.proofs.lemmas.List.Elements.{All-nil, All-cons}
use Rattle.gx_ids.specs.declared.ids.Gxid.{Gxid}
use Rattle.gx_msg.specs.declared.message.Out.{Out}
use Rattle.gx_outside.specs.Shelves.{Shelf}
use Rattle.gx_script.specs.declared.Script.{Script}
use Rattle.gx_store.specs.Language.{IsScript}
use Rattle.gx_store.specs.declared.node.NodeEvent.{NodeEvent}
use Rattle.gx_store.specs.declared.mark.Mark.{Mark}
use Rattle.gx_rules.specs.AtCoordinator.{cancels, coord_can, coord_rule, on_event}
use Rattle.gx_rules.specs.Coordinators as rule
use Rattle.gx_law_order.proofs.AtCoordinators.{cancel_stays, coord_stays}
use Rattle.gx_law_order.specs.Places.{OutIn}
use Rattle.gx_law_order.specs.Lists.{Each}
use Rattle.gx_coord.specs.Books.{coord_of}
use Rattle.gx_coord.specs.Places.{AreIndexed}
use Rattle.gx_coord.specs.Sound.{IsSound}
use Rattle.gx_coord.specs.Steps.{HasGone, HasStepped, IsCoord}
use Rattle.gx_coord.specs.declared.coord.Coord.{Coord}
use Rattle.gx_coord.proofs.Made.{is-coord}
use Rattle.gx_coord.proofs.Stays.{sound-stays}

-- each message goes to a segment
links-of : (n m : ℕ) (outs : List Out) → m ≡ n + 1 → Each (OutIn n) outs → All (λ (out : Out). out.node.0 < m) outs
links-of n m [] e h = All-nil (λ (out : Out). out.node.0 < m)
links-of n m (x ∷ xs) e h = All-cons (λ (out : Out). out.node.0 < m) x xs (below x.node.0 n m e h.0) (links-of n m xs e h.1)
  where
    below : (i n m : ℕ) → m ≡ n + 1 → (1 ≤ i) × (i ≤ n) → i < m
    below i n m e h = omega (arith, e, h.1)

pub links-sent : (p q : Script) (k : rule.Coord) (x : NodeEvent) (fails : Bool) (outs : List Out) (m : ℕ) → p ≡ q → IsSound q k → 1 ≤ q.segments → outs ≡ (on_event p k x fails).outs → m ≡ q.segments + 1 → All (λ (out : Out). out.node.0 < m) outs
links-sent p q k x fails outs m e h some o l =
    links-of q.segments m outs l
    (subst (λ (xs : List Out). Each (OutIn q.segments) xs) (sym (o ∙ ap (λ (s : Script). (on_event s k x fails).outs) e)) (coord_stays q some k x fails h.inside).outs)

pub links-cancelled : (script : Script) (k : rule.Coord) (g : Gxid) (outs : List Out) (m : ℕ) → IsSound script k → 1 ≤ script.segments → outs ≡ (cancels k g).outs → m ≡ script.segments + 1 → All (λ (out : Out). out.node.0 < m) outs
links-cancelled script k g outs m h some o l = links-of script.segments m outs l (subst (λ (xs : List Out). Each (OutIn script.segments) xs) (sym o) (cancel_stays script some k g h.inside).outs)

-- the step keeps all that is asked of a coordinator
module _ (old mid : Coord) (x : NodeEvent) (before after : Shelf) (marks : List Mark) where
  pub is-after : IsCoord old (coord_of old) → coord_can old.script.value (coord_of old) x ≡ true → (h : HasGone old mid x before after marks) → IsCoord (record mid { spent = false }) (coord_rule old.script.value (coord_of old) x h.fails).coord
  is-after k ok h =
      let same : mid.script.value ≡ old.script.value = ap (λ a. a.value) h.stayed.script in
      is-coord (record mid { spent = false }) (coord_rule old.script.value (coord_of old) x h.fails).coord
      h.coord
      (h.stayed.count ∙ k.count ∙ ap (λ (s : Script). length s.sessions) (sym same))
      (subst (λ (s : Script). IsScript s) (sym same) k.language)
      (subst (λ (ps : List (List ℕ)). AreIndexed mid.script.value.lines (length mid.script.value.sessions) ps) (sym (ap (λ v. v.items) h.stayed.places)) (subst (λ (s : Script). AreIndexed s.lines (length s.sessions) old.places.items) (sym same) k.places))
      (h.stayed.links ∙ k.sent ∙ ap (λ (s : Script). s.segments + 1) (sym same))
      (h.stayed.segments ∙ k.segments ∙ ap (λ (s : Script). s.segments) (sym same))
      (subst (λ (s : Script). IsSound s (coord_rule old.script.value (coord_of old) x h.fails).coord) (sym same) (sound-stays old.script.value (coord_of old) k.language.some_segments k.sound x h.fails h.small ok))

  stepped-own : IsCoord old (coord_of old) → coord_can old.script.value (coord_of old) x ≡ true → HasGone old mid x before after marks → HasStepped old (record mid { spent = false }) (coord_of old) x before after marks
  stepped-own k ok h = record { fails = h.fails; is = is-after k ok h; script = h.stayed.script; usable = refl; told = h.told; took = h.took }

  pub has-stepped : (c : rule.Coord) → IsCoord old c → coord_can old.script.value c x ≡ true → HasGone old mid x before after marks → HasStepped old (record mid { spent = false }) c x before after marks
  has-stepped c k ok h =
      subst (λ (d : rule.Coord). HasStepped old (record mid { spent = false }) d x before after marks) k.holds
      (stepped-own (subst (λ (d : rule.Coord). IsCoord old d) (sym k.holds) k) (subst (λ (d : rule.Coord). coord_can old.script.value d x ≡ true) (sym k.holds) ok) h)
