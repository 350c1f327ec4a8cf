-- A change at one gxid, or at one session.
use Rattle.std.proofs.Common.{◌≡◌, ◌<◌, ◌≤◌, ◌*◌, ◌^◌, IfSome, ℕ, zero, suc, List, [], ◌∷◌, Option, Some, None, Bool, true, false, refl, sym, subst, ap, ◌∙◌, cond, if◌then◌else◌, length, get_or, slice_set, arith, eqb, ltb, option_map}
use Rattle.std.proofs.Math.Path.{fun_ext}
use Rattle.std.proofs.lemmas.Bool.{eqb-true, ltb-true}
use Rattle.std.proofs.lemmas.Bool.Decides.{nat_tests}
use Rattle.std.specs.BTreeMap.{is_at}
use Rattle.std.specs.Map.{lookup}
use Rattle.std.specs.Cmp.{nat_cmp_is}
use Rattle.std.specs.Ordering.{is_eq, nat_cmp}
use Rattle.std.specs.declared.cmp.Ordering.TheVariants.{Less, Equal, Greater}
use Rattle.gx_ids.specs.declared.ids.Gxid.{Gxid}
use Rattle.gx_dsnap.specs.Gxids.{gxid_cmp}
use Rattle.gx_entries.specs.Standing.{IsUpdated, StandsAt}
use Rattle.gx_entries.proofs.Gxids.{is_at-eqb}
use Rattle.gx_entries.proofs.Stood.{found-there}
use Rattle.gx_entries.proofs.Updated.{set-updates}
use Rattle.gx_script.specs.declared.Line.{Line}
use Rattle.gx_rules.specs.Coordinators as rule
use Rattle.gx_rules.specs.Maps.{with_at}
use Rattle.gx_ids.specs.declared.ids.Node.{Node}
use Rattle.gx_tree.specs.declared.part.Part.{Part}
use Rattle.gx_rules.specs.AtCoordinator.{with_done, writers_with}
use Rattle.gx_coord.specs.Books.{add_to, command_of, found, session_at, session_of, work_in, work_of}
use Rattle.gx_coord.specs.Turns.{AreCounted, done_work}
use Rattle.gx_coord.specs.declared.work.Command.{Command}
use Rattle.gx_coord.specs.declared.work.Session.{Session}
use Rattle.gx_coord.specs.declared.work.Work.{Work}

abbrev pub gx : ℕ → Gxid
gx h = record { 0 = h }

-- what is known of a transaction changes
pub found-with : (lines : List Line) (es fs : List (Gxid × Work)) (g : Gxid) (w : Option Work) → IsUpdated es fs g w → found lines fs ≡ with_at (found lines es) g.0 (work_in lines w)
found-with lines es fs g w u = fun_ext (λ j. ap (work_in lines) (u (gx j)) ∙ by_test j (eqb j g.0) (is_at-eqb g.0 j))
  where
    by_test : (j : ℕ) (b : Bool) → is_at (gxid_cmp g) (gx j) ≡ b → work_in lines (cond (is_at (gxid_cmp g) (gx j)) w (lookup (is_at (gxid_cmp (gx j))) es)) ≡ (if b then work_in lines w else found lines es j)
    by_test j true e = ap (λ b. work_in lines (cond b w (lookup (is_at (gxid_cmp (gx j))) es))) e
    by_test j false e = ap (λ b. work_in lines (cond b w (lookup (is_at (gxid_cmp (gx j))) es))) e

-- a session changes
session-set : (sessions : List Session) (k : ℕ) (s : Session) (j : ℕ) (b : Bool) → eqb j k ≡ b → k < length sessions → session_at (slice_set sessions k s) j ≡ (if b then session_of s else session_at sessions j)
session-set [] k s j b e l = absurd (omega (arith, l))
session-set (x ∷ xs) zero s zero true e l = refl
session-set (x ∷ xs) zero s zero false e l = absurd (clash e)
  where
    clash : eqb 0 0 ≡ false → ⊥
    clash e = grind (arith, nat_tests)
session-set (x ∷ xs) zero s (suc j) true e l = absurd (clash j e)
  where
    clash : (j : ℕ) → eqb (suc j) 0 ≡ true → ⊥
    clash j e = grind (arith, nat_tests)
session-set (x ∷ xs) zero s (suc j) false e l = refl
session-set (x ∷ xs) (suc k) s zero true e l = absurd (clash k e)
  where
    clash : (k : ℕ) → eqb 0 (suc k) ≡ true → ⊥
    clash k e = grind (arith, nat_tests)
session-set (x ∷ xs) (suc k) s zero false e l = refl
session-set (x ∷ xs) (suc k) s (suc j) b e l = session-set xs k s j b (same j k ∙ e) (omega (arith, l))
  where
    same : (j k : ℕ) → eqb j k ≡ eqb (suc j) (suc k)
    same j k = grind (arith, nat_tests)

pub session_at-set : (sessions : List Session) (k : ℕ) (s : Session) → k < length sessions → session_at (slice_set sessions k s) ≡ with_at (session_at sessions) k (session_of s)
session_at-set sessions k s l = fun_ext (λ j. session-set sessions k s j (eqb j k) refl l)

-- what is found is known
pub found-as : (lines : List Line) (es : List (Gxid × Work)) (g : Gxid) (w : Work) → Some w ≡ lookup (is_at (gxid_cmp g)) es → found lines es g.0 ≡ work_of lines w
found-as lines es g w e = ap (work_in lines) (sym e)

pub counted-some : (lines : List Line) (k : Option Command) → AreCounted (option_map (command_of lines) k) → IfSome k (λ k. k.count ≤ 2 ^ 64 * length k.parts)
counted-some lines None h = tt
counted-some lines (Some k) h = h

-- WHAT IS WRITTEN WHERE IT STANDS
module _ (lines : List Line) (es : List (Gxid × Work)) (g : Gxid) (place : ℕ) (e : Gxid × Work) (stands : StandsAt (is_at (gxid_cmp g)) es place) (is : e ≡ get_or es place e) where
  pub found-at : found lines es g.0 ≡ work_of lines e.1
  found-at = ap (work_in lines) (found-there (is_at (gxid_cmp g)) es place e stands) ∙ ap (λ (x : Gxid × Work). work_of lines x.1) (sym is)

  pub found-through : (w : Work) → found lines (slice_set es place (e.0, w)) ≡ with_at (found lines es) g.0 (work_of lines w)
  found-through w =
      subst (λ (x : Gxid × Work). found lines (slice_set es place (x.0, w)) ≡ with_at (found lines es) g.0 (work_of lines w)) (sym is)
      (found-with lines es (slice_set es place ((get_or es place e).0, w)) g (Some w) (set-updates es g place e w stands))

-- an answer is noted
pub done-noted : (lines : List Line) (w : Work) (i : Node) (wrote : Bool) (count : ℕ) (part : Part) → work_of lines (record w { writers = writers_with wrote i w.writers; command = option_map (add_to i count part) w.command }) ≡ done_work (work_of lines w) i wrote count part
done-noted lines w i wrote count part = ap (λ k. record (done_work (work_of lines w) i wrote count part) { command = k }) (by_command w.command)
  where
    by_command : (k : Option Command) → option_map (command_of lines) (option_map (add_to i count part) k) ≡ option_map (λ (x : rule.Command). with_done x i count part) (option_map (command_of lines) k)
    by_command None = refl
    by_command (Some k) = refl
