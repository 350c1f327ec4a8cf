use Rattle.std.proofs.Common.{rules, ap, refl, subst, sym, ◌∙◌, []}
use Rattle.gx_store.specs.declared.run.Run.{Run}
use Rattle.gx_world.specs.Links.{ArePosted}
use Rattle.gx_world.specs.Made.{AreNew}
use Rattle.gx_world.specs.Networks.{ArePlaced}
use Rattle.gx_world.proofs.Doing.{new-network}
use Rattle.gx_world.proofs.Starting.{none-long, none-placed, none-posted}
use Rattle.gx_world.proofs.network.Network.new.Goals as goal

pub returns-clause-is : goal.returns-clause-is
returns-clause-is c =
    new-network c.args.script _ c.requires
    (record {
      language = c.requires;
      of = c.in_ok-script.ensures.ok;
      coord = c.in_ok-coord.ensures.new;
      coord_script = ap (λ a. a.value) c.in_ok-coord.ensures.script ∙ (search rules) ∙ c.in_ok-script.ensures.ok;
      coord_usable = c.in_ok-coord.ensures.fresh;
      count = c.in_ok-segments.ensures.count;
      segments = subst (λ s. AreNew s c.in_ok-segments.segments.items) c.in_ok-script.ensures.ok c.in_ok-segments.ensures.new;
      run = c.new-4.ensures;
      long = none-long c.in_ok-letters.letters _ c.in_ok-letters.ensures.to c.in_ok-letters.ensures.from _ refl;
      letters = subst (λ (r : Run). ArePosted c.in_ok-letters.letters r.steps []) (sym c.new-4.ensures) (none-posted c.in_ok-letters.letters _ c.in_ok-letters.ensures.to c.in_ok-letters.ensures.from);
      placed = subst (λ (r : Run). ArePlaced c.in_ok-letters.letters r.steps) (sym c.new-4.ensures) (none-placed c.in_ok-letters.letters _ c.in_ok-letters.ensures.to c.in_ok-letters.ensures.from);
      usable = refl;
    })
