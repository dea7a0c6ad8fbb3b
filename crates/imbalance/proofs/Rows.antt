-- Some values of the definitions, computed. Assumes nothing.
use Rattle.std.proofs.Common.{◌≡◌, true, false, refl}
use lib.Ieee.{binary64, nan, of_bits, add, div, of_int, mul, le}
use Rattle.imbalance.specs.Limit.{most_weight}
use Rattle.imbalance.specs.Ceiling.{legal_e, limit_of, ceiling_of}

-- total 8 over two parts, e = 0.25
eight : ceiling_of 8 2 (of_bits binary64 0x3fd0_0000_0000_0000) ≡ 5
unfolding ceiling_of limit_of of_bits add div of_int mul
eight = refl

-- total 7 over two parts, e = 0.1
seven : ceiling_of 7 2 (of_bits binary64 0x3fb9_9999_9999_999a) ≡ 3
unfolding ceiling_of limit_of of_bits add div of_int mul
seven = refl

-- the largest total over two parts, e = 64.0
largest : ceiling_of most_weight 2 (of_bits binary64 0x4050_0000_0000_0000) ≡ 69793218527
unfolding ceiling_of limit_of of_bits add div of_int mul
largest = refl

-- total 2 over seven parts, e = 2.5: exactly it would be 1, and the rounded sum is below that
below_one : ceiling_of 2 7 (of_bits binary64 0x4004_0000_0000_0000) ≡ 0
unfolding ceiling_of limit_of of_bits add div of_int mul
below_one = refl

-- total 5 over two parts, e = 0.6, an f64 below six tenths: the rounded sum is 4 all the same
up-to-four : ceiling_of 5 2 (of_bits binary64 0x3fe3_3333_3333_3333) ≡ 4
unfolding ceiling_of limit_of of_bits add div of_int mul
up-to-four = refl

-- total 50 over two parts, e = 0.16
fifty : ceiling_of 50 2 (of_bits binary64 0x3fc4_7ae1_47ae_147b) ≡ 29
unfolding ceiling_of limit_of of_bits add div of_int mul
fifty = refl

-- -0.0, 64.0, the next f64, and no number
negative-zero : legal_e (of_bits binary64 0x8000_0000_0000_0000) ≡ true
unfolding legal_e of_bits le
negative-zero = refl

most : legal_e (of_bits binary64 0x4050_0000_0000_0000) ≡ true
unfolding legal_e of_bits le
most = refl

next : legal_e (of_bits binary64 0x4050_0000_0000_0001) ≡ false
unfolding legal_e of_bits le
next = refl

no_number : legal_e nan ≡ false
unfolding legal_e le
no_number = refl
