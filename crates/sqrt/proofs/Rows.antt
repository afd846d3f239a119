-- The root of 2, a row of document 01, and the roots of the smallest and the largest float, by computing them.
use Rattle.std.proofs.Common.{◌≡◌, refl}
use lib.Ieee.{binary64, of_bits}
use Rattle.sqrt.specs.Sqrt.{sqrt}

pub root-of-2 : sqrt (of_bits binary64 0x4000000000000000) ≡ of_bits binary64 0x3ff6a09e667f3bcd
unfolding sqrt of_bits
root-of-2 = refl

pub root-of-smallest : sqrt (of_bits binary64 1) ≡ of_bits binary64 0x1e60000000000000
unfolding sqrt of_bits
root-of-smallest = refl

pub root-of-largest : sqrt (of_bits binary64 0x7fefffffffffffff) ≡ of_bits binary64 0x5fefffffffffffff
unfolding sqrt of_bits
root-of-largest = refl
