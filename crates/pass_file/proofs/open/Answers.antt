-- `pass_file::open` meets its contract: the literal is 1,000,000 rounded, and that is exact.
use mathlib.Core.Path.{◌≡◌, refl}
use lib.IntN.{pos}
use lib.Ieee.{binary64, of_bits, of_int}
use Rattle.float_order.specs.Interval.{floats}
use Rattle.pass_file.proofs.open.Goals as goal

million : of_bits binary64 0x412e_8480_0000_0000 ≡ of_int binary64 (pos 1000000)
million = unfold floats in refl

pub returns : goal.returns
returns c = rw (c.new-acked.ensures, c.new-control.ensures, million)
