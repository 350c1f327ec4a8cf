use Rattle.std.proofs.Common.{◌≡◌, subst, sym, eqb}
use Rattle.std.specs.List.{Contains, dedup}
use Rattle.std.specs.List.Sorted.{IsStrictlyIncreasing}
use Rattle.std.proofs.lemmas.List.Filters.{dedup_is}
use Rattle.std.proofs.lemmas.List.Kept.{Contains-dedup_nat, Contains-from_dedup}
use Rattle.std.proofs.lemmas.List.Sorted.{Contains-permutation, IsPermutation-sym}
use Rattle.std.proofs.lemmas.Map.Keys.{IsStrictlyIncreasing-dedup}
use Rattle.gx_detect.proofs.names.sort_once.Goals as goal

pub returns-clause-same : goal.returns-clause-same
returns-clause-same c =
    let d : c.dedup.new.self.items ≡ dedup eqb c.sort.new.self.items = dedup_is eqb c.sort.new.self.items c.dedup.new.self.items c.dedup.ensures.filtered in
    λ n. (
      λ h. Contains-permutation c.sort.new.self.items c.args.numbers.now.items n (IsPermutation-sym c.args.numbers.now.items c.sort.new.self.items c.sort.ensures.permutation)
          (Contains-from_dedup eqb c.sort.new.self.items n (subst (λ l. Contains l n) d h)),
      λ h. subst (λ l. Contains l n) (sym d) (Contains-dedup_nat c.sort.new.self.items n (Contains-permutation c.args.numbers.now.items c.sort.new.self.items n c.sort.ensures.permutation h)),
    )

pub returns-clause-rising : goal.returns-clause-rising
returns-clause-rising c =
    let d : c.dedup.new.self.items ≡ dedup eqb c.sort.new.self.items = dedup_is eqb c.sort.new.self.items c.dedup.new.self.items c.dedup.ensures.filtered in
    subst IsStrictlyIncreasing (sym d) (IsStrictlyIncreasing-dedup c.sort.new.self.items c.in_ok-sort.ensures.sorted)
