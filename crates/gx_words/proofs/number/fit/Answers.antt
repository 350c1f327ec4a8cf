use Rattle.std.proofs.Common.{◌<◌, arith, lt-ltb, refl}
use Rattle.gx_words.proofs.number.fit.Goals as goal

pub returns : goal.returns
returns c =
    let fits : c.args.number < 18446744073709551616 = omega (arith, c.ranges.number.fits) in
    rw (lt-ltb c.args.number 18446744073709551616 fits) refl
