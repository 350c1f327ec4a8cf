-- A grant that meets nobody passes nobody.
use Rattle.std.proofs.Common.{◌≡◌, ◌==◌, ◌&&◌, inl, inr, Bool, true, false, not, List, [], ◌∷◌, ◌++◌, refl, sym, subst, if◌then◌else◌, arith}
use Rattle.std.proofs.lemmas.Bool.Decides.{nat_tests}
use Rattle.std.proofs.lemmas.List.Elements.{All-contains}
use Rattle.std.proofs.lemmas.List.Folds.{Any-from_list_any}
use Rattle.std.specs.Prelude.{Any, Contains}
use Rattle.gx_ids.specs.declared.ids.Gxid.{Gxid}
use Rattle.gx_ids.specs.declared.ids.Node.{Node}
use Rattle.gx_modes.specs.declared.modes.Mode.{Mode}
use Rattle.gx_waits.specs.declared.object.Object.{Object}
use Rattle.gx_waits.proofs.Members.{Has, contains_from_has, has_from_contains}
use Rattle.gx_waits.specs.Claim.{Meets, ahead, in_the_way, is_ahead, meets, same_claim}
use Rattle.gx_waits.specs.Claims.{claim}
use Rattle.gx_waits.specs.declared.claim.Claim.{Claim}
use Rattle.gx_locks.proofs.Meets.{Meets_from_test}
use Rattle.gx_store.specs.declared.mark.Mark.{Mark}
use Rattle.gx_store.specs.declared.mark.Mark.TheVariants as mark
use Rattle.gx_store.specs.Locks.{AreGranted, LegalHold}
use Rattle.gx_store.specs.Waits.{holds_at, waits_at}
use Rattle.gx_law_locks.specs.Queue.{PassesNobody}
use Rattle.gx_law_locks.specs.Waiting.{EachBehind}
use Rattle.gx_law_locks.proofs.Fair.{GrantsLegally, each-granted}
use Rattle.gx_law_locks.proofs.Lets.{behind-weaker}
use Rattle.gx_law_locks.proofs.Queues.{awaited-in-way}
use Rattle.gx_law_locks.proofs.SameClaims.{claim-same}

-- an earlier wait is ahead
earlier-ahead : (wanted wait : Claim) (front back : List Claim) → (Contains front wanted → ⊥) → (wanted ≡ wait → ⊥) → Has wait (ahead wanted (front ++ wait ∷ back))
earlier-ahead wanted wait [] back none other = by_test (same_claim wanted wait) refl
  where
    by_test : (b : Bool) → same_claim wanted wait ≡ b → Has wait (if b then [] else wait ∷ ahead wanted back)
    by_test true e = absurd (other (claim-same wanted wait e))
    by_test false e = inl refl
earlier-ahead wanted wait (x ∷ xs) back none other =
    by_test (same_claim wanted x) refl (earlier-ahead wanted wait xs back (λ c. none (more c)) other)
  where
    more : Contains xs wanted → Contains (x ∷ xs) wanted
    more c = contains_from_has wanted (x ∷ xs) (inr (has_from_contains wanted xs c))

    by_test : (b : Bool) → same_claim wanted x ≡ b → Has wait (ahead wanted (xs ++ wait ∷ back)) → Has wait (if b then [] else x ∷ ahead wanted (xs ++ wait ∷ back))
    by_test true e h = absurd (none (contains_from_has wanted (x ∷ xs) (inl (sym (claim-same wanted x e)))))
    by_test false e h = inr h

grant-passes : (before : List Mark) (node : Node) (g : Gxid) (object : Object) (mode : Mode) → LegalHold before node (claim g object mode) → PassesNobody before (mark.Hold node g object mode)
grant-passes before node g object mode legal wait earlier met = by_test (is_ahead holds wanted wait) refl
  where
    wanted : Claim
    wanted = claim g object mode

    holds : List Claim
    holds = holds_at before node

    waits : List Claim
    waits = waits_at before node

    there : Has wait (ahead wanted waits)
    there = subst (λ ws. Has wait (ahead wanted ws)) (sym earlier.split) (earlier-ahead wanted wait earlier.front earlier.back earlier.none (λ e. met.other (subst (λ (c : Claim). g ≡ c.gxid) e refl)))

    parts : (a b : Bool) → (a && b) ≡ true → (a ≡ true) × (b ≡ true)
    parts a b e = (grind arith, grind arith)

    same-gxid : (h k : Gxid) → (h.0 == k.0) ≡ true → h ≡ k
    same-gxid h k e = grind (arith, nat_tests)

    flipped : (b : Bool) → not b ≡ false → b ≡ true
    flipped b e = grind arith

    by_test : (b : Bool) → is_ahead holds wanted wait ≡ b → Any (λ hold. (hold.gxid ≡ g) × Meets wait hold) holds
    by_test true e =
        absurd (All-contains (λ other. Meets wanted other → ⊥) (in_the_way holds waits wanted) wait legal (contains_from_has wait (in_the_way holds waits wanted) (awaited-in-way holds waits wanted wait there e)) met)
    by_test false e =
        let a = Any-from_list_any (λ hold. (hold.gxid.0 == g.0) && meets wait hold) holds (flipped _ e) in
        let p = parts (a.1.gxid.0 == g.0) (meets wait a.1) a.4 in
        (a.0, a.1, a.2, a.3, (same-gxid a.1.gxid g p.0, Meets_from_test wait a.1 p.1))

passes-none : (before : List Mark) (m : Mark) → GrantsLegally before m → PassesNobody before m
passes-none before (mark.Hold node g object mode) legal = grant-passes before node g object mode legal
passes-none before m legal = tt

pub passing : (marks : List Mark) → AreGranted [] marks → EachBehind PassesNobody [] marks
passing marks e = behind-weaker GrantsLegally PassesNobody passes-none [] marks (each-granted [] marks e)
