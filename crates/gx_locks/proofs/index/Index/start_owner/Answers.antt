use Rattle.std.proofs.Common.{◌≡◌, ◌∙◌, ◌++◌, ◌∷◌, [], List, Some, position, slice_set, is_some, not, ap, sym, refl}
use Rattle.std.specs.Vec.{with_item}
use Rattle.gx_locks.specs.declared.owner.Owner.{Owner}
use Rattle.gx_locks.specs.Owners.{owner_in}
use Rattle.gx_locks.proofs.Owned.{no_owner, pushed-other, pushed-own, taken-other, taken-own}
use Rattle.gx_locks.proofs.Written.{owner_made}
use Rattle.gx_locks.proofs.Tidy.{owners_left}
use Rattle.gx_locks.proofs.index.Index.start_owner.Goals as goal

pub returns-in-Some-clause-same : goal.returns-in-Some-clause-same
returns-in-Some-clause-same c =
    let os = c.args.self.now.owners.items in
    let g = c.args.gxid in
    let o = no_owner g in
    let i = c.in-Some.place in
    let at : position (λ (owner : Owner). not owner.is_live) os ≡ Some i = sym (c.in-Some.ensures ∙ ap (position (λ (owner : Owner). not owner.is_live)) c.as_slice.ensures.value) in
    let items = ap (λ (p : Owner). slice_set os i p) c.new.ensures in
    owner_made g c.args.self.now (record { alloc = c.args.self.now.alloc; tables = c.args.self.now.tables; owners = with_item c.args.self.now.owners i c.new.result; others = c.args.self.now.others }) o refl refl
    (λ h other. ap (λ (ps : List Owner). owner_in ps h) items ∙ taken-other os o refl c.requires i o at h other)
    (ap (λ (ps : List Owner). owner_in ps g) items ∙ taken-own os o refl c.requires i o at) refl refl c.requires

pub returns-in-Some-clause-there : goal.returns-in-Some-clause-there
returns-in-Some-clause-there c =
    let os = c.args.self.now.owners.items in
    let g = c.args.gxid in
    let o = no_owner g in
    let i = c.in-Some.place in
    let at : position (λ (owner : Owner). not owner.is_live) os ≡ Some i = sym (c.in-Some.ensures ∙ ap (position (λ (owner : Owner). not owner.is_live)) c.as_slice.ensures.value) in
    ap (λ (p : Owner). is_some (owner_in (slice_set os i p) g)) c.new.ensures ∙ ap is_some (taken-own os o refl c.requires i o at)

pub returns-in_ok-push-in-None-clause-same : goal.returns-in_ok-push-in-None-clause-same
returns-in_ok-push-in-None-clause-same c =
    let os = c.args.self.now.owners.items in
    let g = c.args.gxid in
    let o = no_owner g in
    let items = c.in_ok-push-in-None.ensures.items ∙ ap (λ (p : Owner). os ++ p ∷ []) c.new-in-None.ensures in
    owner_made g c.args.self.now (record { alloc = c.args.self.now.alloc; tables = c.args.self.now.tables; owners = c.push.new.self; others = c.args.self.now.others }) o refl refl
    (λ h other. ap (λ (ps : List Owner). owner_in ps h) items ∙ pushed-other os o refl c.requires h other)
    (ap (λ (ps : List Owner). owner_in ps g) items ∙ pushed-own os o refl c.requires) refl refl c.requires

pub returns-in_ok-push-in-None-clause-there : goal.returns-in_ok-push-in-None-clause-there
returns-in_ok-push-in-None-clause-there c =
    let os = c.args.self.now.owners.items in
    let g = c.args.gxid in
    let o = no_owner g in
    let items = c.in_ok-push-in-None.ensures.items ∙ ap (λ (p : Owner). os ++ p ∷ []) c.new-in-None.ensures in
    ap (λ (ps : List Owner). is_some (owner_in ps g)) items ∙ ap is_some (pushed-own os o refl c.requires)

pub returns-in-Some-clause-left : goal.returns-in-Some-clause-left
returns-in-Some-clause-left c =
    let os = c.args.self.now.owners.items in
    let g = c.args.gxid in
    let o = no_owner g in
    let i = c.in-Some.place in
    let at : position (λ (owner : Owner). not owner.is_live) os ≡ Some i = sym (c.in-Some.ensures ∙ ap (position (λ (owner : Owner). not owner.is_live)) c.as_slice.ensures.value) in
    let items = ap (λ (p : Owner). slice_set os i p) c.new.ensures in
    owners_left g c.args.self.now (record { alloc = c.args.self.now.alloc; tables = c.args.self.now.tables; owners = with_item c.args.self.now.owners i c.new.result; others = c.args.self.now.others }) refl
    (λ h other. ap (λ (ps : List Owner). owner_in ps h) items ∙ taken-other os o refl c.requires i o at h other)

pub returns-in_ok-push-in-None-clause-left : goal.returns-in_ok-push-in-None-clause-left
returns-in_ok-push-in-None-clause-left c =
    let os = c.args.self.now.owners.items in
    let g = c.args.gxid in
    let o = no_owner g in
    let items = c.in_ok-push-in-None.ensures.items ∙ ap (λ (p : Owner). os ++ p ∷ []) c.new-in-None.ensures in
    owners_left g c.args.self.now (record { alloc = c.args.self.now.alloc; tables = c.args.self.now.tables; owners = c.push.new.self; others = c.args.self.now.others }) refl
    (λ h other. ap (λ (ps : List Owner). owner_in ps h) items ∙ pushed-other os o refl c.requires h other)
