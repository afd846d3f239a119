-- What a moving average keeps: with values from 0 to L, the average stays from 0 to L, the variance from 0 to 10 ^ 30, and the deviation is the variance's root.
use Rattle.std.specs.Prelude.{◌≡◌, ◌&&◌, ◌*◌, ◌^◌, negsuc, T, Float, Option, Some, None}
use Rattle.std.proofs.Math.Path.{refl}
use Rattle.std.proofs.Math.Bool.{false}
use Rattle.std.specs.Float.{fin}
use Rattle.std.specs.Float.Ieee.{binary64, le, lt, of_bits, fits}
use Rattle.std.specs.Float.Ieee.Bits.{of_bits-fits}
use Rattle.std.specs.Float.Ieee.Fits.{add-fits, mul-fits}
use Rattle.float_order.specs.Binary64.{add, sub, mul, lit, decimal, one}
use Rattle.float_order.specs.Order.{le_trans}
use Rattle.float_order.specs.Ops.{zero₊}
use Rattle.float_order.specs.Range.{In, nat, -nat, in-finite, in-wider, in-closed, lit-in, add-in, sub_in, mul_in, square-in}
use Rattle.float_order.specs.Interval.{floats}
use Rattle.sqrt.specs.Sqrt.{sqrt}
use Rattle.sqrt.specs.Laws.{sqrt-at}
use Rattle.average.specs.Average.{new, new_variance, update, update_from, reset}
use Rattle.average.specs.Step.{below_one, step_in}
use Rattle.average.specs.declared.MovingAverage.{MovingAverage}

-- the factors and the limits for which it is shown: a factor from 0.125 to 1 - 2 ^ -52, an L of 10 ^ 14 at most
abbrev pub eighth : Float
eighth = fin false 1 (negsuc 2)

pub record Limits (factor L : Float) : Type 0 where
  pub factor-in : In eighth below_one factor
  pub limit-in : In zero₊ (nat (10 ^ 14)) L
  pub limit-fits : T (fits binary64 L)

-- the largest float that is not above 10 ^ 30
abbrev pub most_variance : Float
most_variance = lit 0x4629_3e59_39a0_8ce9

pub most_variance-is : most_variance ≡ decimal 999_999_999_999_999_879_147_136_483_328 1
most_variance-is = unfold floats in refl

pub most-variance : T (le most_variance (nat (10 ^ 30)) && lt (nat (10 ^ 30)) (lit 0x4629_3e59_39a0_8cea))
most-variance = unfold floats in tt

-- none, or from 0 to L
abbrev pub AverageIn : Float → Option Float → Type 0
AverageIn L None = Unit
AverageIn L (Some a) = In zero₊ L a × T (fits binary64 a)

pub record Kept (factor L : Float) (m : MovingAverage) : Type 0 where
  pub factor-is : m.smoothing_factor ≡ factor
  pub average-in : AverageIn L m.average
  pub variance-in : In zero₊ most_variance m.variance
  pub variance-fits : T (fits binary64 m.variance)
  pub std-is : m.std ≡ sqrt m.variance

pub std-in : {factor L : Float} {m : MovingAverage} → Kept factor L m → In zero₊ (nat (10 ^ 15)) m.std
std-in k = rw k.std-is (in-wider (sqrt-at k.variance-in (unfold floats in tt)) (unfold floats sqrt in tt))

pub new-kept : (factor L : Float) → Kept factor L (new factor)
new-kept factor L = record {
  factor-is = refl;
  average-in = tt;
  variance-in = in-closed (unfold floats in tt);
  variance-fits = of_bits-fits binary64 0;
  std-is = unfold of_bits sqrt in refl;
}

pub reset-kept : {factor L : Float} {m : MovingAverage} → Kept factor L m → Kept factor L (reset m)
reset-kept {factor} {L} k = rw k.factor-is (new-kept factor L)

variance-step : {factor L : Float} (variance d : Float) → Limits factor L → In zero₊ most_variance variance → In (-nat (10 ^ 14)) (nat (10 ^ 14)) d
    → In zero₊ most_variance (new_variance factor variance d)
variance-step {factor} variance d l h k =
    let q : In zero₊ (nat (10 ^ 28)) (mul d d) = square-in k (unfold floats in tt) in
    let p : In zero₊ (nat (10 ^ 28)) (mul factor (mul d d)) = mul_in l.factor-in q (unfold floats in tt) in
    let s : In zero₊ (nat (102 * 10 ^ 28)) (add variance (mul factor (mul d d))) = add-in h p (unfold floats in tt) in
    let r : In zero₊ (fin false 7 (negsuc 2)) (sub one factor) = sub_in (lit-in one (unfold floats in tt)) l.factor-in (unfold floats in tt) in
    mul_in r s (unfold floats in tt)

pub update-kept : {factor L : Float} {m : MovingAverage} {value : Float} → Limits factor L → In zero₊ L value → T (fits binary64 value) → Kept factor L m
    → Kept factor L (update m value)
unfolding update
update-kept {factor} {L} {m} {value} limits h t k = go m.average k.average-in
  where
    own : Limits m.smoothing_factor L
    own = rw k.factor-is limits

    wide : (x : Float) → In zero₊ L x → In zero₊ (nat (10 ^ 14)) x
    wide x i = record { low = i.low; high = le_trans x L (nat (10 ^ 14)) i.high limits.limit-in.high }

    go : (a : Option Float) → AverageIn L a → Kept factor L (update_from a m value)
    go None i = record { factor-is = k.factor-is; average-in = (h, t); variance-in = k.variance-in; variance-fits = k.variance-fits; std-is = k.std-is }
    go (Some a) i = record {
      factor-is = k.factor-is;
      average-in = (
        step_in m.smoothing_factor L a value (in-wider own.factor-in (unfold floats in tt)) (in-finite limits.limit-in tt) limits.limit-fits i.1 i.0 h,
        add-fits binary64 a (mul m.smoothing_factor (sub value a)),
      );
      variance-in = variance-step m.variance (sub value a) own k.variance-in (sub_in (wide value h) (wide a i.0) (unfold floats in tt));
      variance-fits = mul-fits binary64 _ _;
      std-is = refl;
    }
