-- The test of a wait against a hold and its meaning.
use Rattle.std.proofs.Common.{◌≡◌, ◌≢◌, refl, subst, Bool, true, false, not, eqb, arith, ◌&&◌}
use Rattle.std.proofs.lemmas.Bool.Decides.{nat_tests}
use Rattle.std.specs.Prelude.{IsTrue}
use Rattle.gx_ids.specs.declared.ids.Gxid.{Gxid}
use Rattle.gx_modes.specs.Table.{conflict}
use Rattle.gx_waits.specs.declared.object.Object.{Object}
use Rattle.gx_waits.specs.declared.object.Object.TheVariants.{Relation, Tuple, Transaction}
use Rattle.gx_waits.specs.declared.claim.Claim.{Claim}
use Rattle.gx_waits.specs.Claim.{Meets, meets, same_object}

pub parts : (a b c : Bool) → (not a && (b && c)) ≡ true → (a ≡ false) × ((b ≡ true) × (c ≡ true))
parts true b c e = absurd (cc)
parts false true true e = (refl, (refl, refl))
parts false true false e = absurd (cc)
parts false false c e = absurd (cc)

joined : (a b c : Bool) → a ≡ false → b ≡ true → c ≡ true → (not a && (b && c)) ≡ true
joined a b c e f g = rw (e, f, g) refl

pub same_object-same : (a b : Object) → same_object a b ≡ true → a ≡ b
same_object-same (Relation t) (Relation u) e = grind (arith, nat_tests)
same_object-same (Relation t) (Tuple q) e = absurd (cc)
same_object-same (Relation t) (Transaction h) e = absurd (cc)
same_object-same (Tuple r) (Relation u) e = absurd (cc)
same_object-same (Tuple r) (Tuple q) e = grind (arith, nat_tests)
same_object-same (Tuple r) (Transaction h) e = absurd (cc)
same_object-same (Transaction g) (Relation u) e = absurd (cc)
same_object-same (Transaction g) (Tuple q) e = absurd (cc)
same_object-same (Transaction g) (Transaction h) e = grind (arith, nat_tests)

pub same_object-itself : (a : Object) → same_object a a ≡ true
same_object-itself (Relation t) = grind (arith, nat_tests)
same_object-itself (Tuple r) = grind (arith, nat_tests)
same_object-itself (Transaction g) = grind (arith, nat_tests)

gxids_apart : (g h : Gxid) → eqb g.0 h.0 ≡ false → g ≢ h
gxids_apart g h other same = grind (arith, nat_tests)

gxids_differ : (g h : Gxid) → g ≢ h → eqb g.0 h.0 ≡ false
gxids_differ g h other = grind (arith, nat_tests)

pub Meets_from_test : (claim hold : Claim) → IsTrue (meets claim hold) → Meets claim hold
Meets_from_test claim hold test =
    let p = parts (eqb claim.gxid.0 hold.gxid.0) (same_object claim.object hold.object) (conflict claim.mode hold.mode) test in
    record {
      other = gxids_apart claim.gxid hold.gxid p.0;
      same_object = same_object-same claim.object hold.object p.1.0;
      conflicting = p.1.1;
    }

pub test_from_Meets : (claim hold : Claim) → Meets claim hold → IsTrue (meets claim hold)
test_from_Meets claim hold m =
    let one : same_object claim.object hold.object ≡ true = subst (λ (o : Object). same_object claim.object o ≡ true) m.same_object (same_object-itself claim.object) in
    joined (eqb claim.gxid.0 hold.gxid.0) (same_object claim.object hold.object) (conflict claim.mode hold.mode) (gxids_differ claim.gxid hold.gxid m.other) one m.conflicting
