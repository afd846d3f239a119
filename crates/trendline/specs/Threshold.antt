-- The threshold of the delay trend stays from 6 to 600 ms, whatever the modified trend is, an infinity included, as long as it is no NaN.
use Rattle.std.specs.Prelude.{Bool, true, false, cond, ℕ, ◌/◌, ◌≤◌, min, T, eqb, pos, negsuc, Float}
use Rattle.std.proofs.Common.{arith, eqb→eq, ltb→lt}
use Rattle.std.specs.Float.Ieee as Ieee
use Rattle.std.specs.Float.{nan, inf, fin}
use Rattle.std.specs.Float.Ieee.{binary64, of_int, unlike, le, lt}
use Rattle.std.specs.Float.Ieee.Positive.{positive, positive-finite}
use Rattle.float_order.specs.Binary64 as F
use Rattle.float_order.specs.Binary64.{sub, mul}
use Rattle.float_order.specs.Order.{ordered, le_trans, le-top, le-ordered-r, lt-left→le}
use Rattle.float_order.specs.Ops.{zero₊, mul_comm, mul-ordered}
use Rattle.float_order.specs.Range.{In, nat, -nat, in-wider, in-ordered, in-positive, in-closed, lit-in, add-in, sub_in, mul_in}
use Rattle.float_order.specs.Interval.{floats, cond_either}
use Rattle.float_order.specs.Casts.{of_int-in, of_int-mono}
use Rattle.float.specs.Float as Float
use Rattle.float.specs.MinMax.{min-in, clamp-in, abs-nonneg}
use Rattle.trendline.specs.declared.Delays.{Delays}
use Rattle.bool_laws.specs.Bools.{cases}
use Rattle.trendline.specs.Trendline.{max_adopt_offset_ms, threshold_gain, k_up, k_down, max_time_delta_ms, min_threshold_ms, max_threshold_ms, gain, moved, threshold, modified_trend}

abbrev pub ThresholdIn : Float → Type 0
ThresholdIn x = In (nat 6) (nat 600) x

-- ---- the modified trend: a product by a value that is finite and above zero is no NaN
inf-ordered : (b s : Bool) → (T b → ⊥) → T (ordered (cond b nan (inf s)))
inf-ordered true s h = absurd (h tt)
inf-ordered false s h = tt

times-inf : (c : Float) (t : Bool) → T (positive c) → T (ordered (mul c (inf t)))
unfolding Ieee.mul
times-inf nan t p = absurd p
times-inf (inf s) t p = absurd p
times-inf (fin true m e) t p = absurd p
times-inf (fin false m e) t p = inf-ordered (eqb m 0) (unlike false t) (λ z. let l = ltb→lt 0 m p in let k = eqb→eq m 0 z in omega arith)

times-ordered : (c y : Float) → T (positive c) → T (ordered y) → T (ordered (mul c y))
times-ordered c nan p o = absurd o
times-ordered c (inf t) p o = times-inf c t p
times-ordered c (fin t n d) p o = mul-ordered binary64 c (fin t n d) (positive-finite c p) tt

pub modified-ordered : (d : Delays) (trend : Float) → 1 ≤ d.num_delay_variations → T (ordered trend) → T (ordered (modified_trend d trend))
unfolding modified_trend
modified-ordered d trend h o =
    let n = of_int binary64 (pos (min d.num_delay_variations 60)) in
    let k : In (nat 1) (nat 60) n = of_int-in 1 60 (min d.num_delay_variations 60) (omega arith) (omega arith) (unfold floats in tt) in
    rw (mul_comm binary64 (mul n trend) threshold_gain)
    (times-ordered threshold_gain (mul n trend) (unfold floats in tt) (times-ordered n trend (in-positive k tt) o))

-- ---- the threshold
elapsed-nonneg : (elapsed : ℕ) → T (le zero₊ (of_int binary64 (pos (elapsed / 1000000))))
elapsed-nonneg elapsed = le_trans zero₊ (of_int binary64 (pos 0)) (of_int binary64 (pos (elapsed / 1000000))) (unfold floats in tt) (of_int-mono binary64 0 (elapsed / 1000000) (omega arith))

gain-in : (a d : Float) → In zero₊ (fin false 1 (negsuc 3)) (gain a d)
gain-in a d = cond_either (In zero₊ (fin false 1 (negsuc 3))) (lt a d) k_down k_up (in-closed (unfold floats in tt)) (in-closed (unfold floats in tt))

moved_in : (a d : Float) (elapsed : ℕ) → ThresholdIn d → In zero₊ (nat 615) a → In (-nat 3894) (nat 4500) (moved a d elapsed)
moved_in a d elapsed h k =
    let ms = of_int binary64 (pos (elapsed / 1000000)) in
    let z = elapsed-nonneg elapsed in
    let s : In (-nat 600) (nat 609) (sub a d) = sub_in k h (unfold floats in tt) in
    let g : In (-nat 39) (nat 39) (mul (gain a d) (sub a d)) = mul_in (gain-in a d) s (unfold floats in tt) in
    let t : In zero₊ (inf false) ms = record { low = z; high = le-top ms (le-ordered-r zero₊ ms z) } in
    let l : In zero₊ (nat 100) (Float.min ms max_time_delta_ms) = min-in t (lit-in max_time_delta_ms (unfold floats in tt)) (unfold floats in tt) in
    let m : In (-nat 3900) (nat 3900) (mul (mul (gain a d) (sub a d)) (Float.min ms max_time_delta_ms)) = mul_in g l (unfold floats in tt) in
    add-in h m (unfold floats in tt)

pub threshold-in : (d : Delays) (modified : Float) (elapsed : ℕ) → ThresholdIn d.delay_threshold → T (ordered modified)
    → ThresholdIn (threshold d modified elapsed)
unfolding threshold
threshold-in d modified elapsed h o =
    let a = Float.abs modified in
    let old = d.delay_threshold in
    let z : T (le zero₊ a) = abs-nonneg modified o in
    let s : In (nat 21) (nat 615) (F.add old max_adopt_offset_ms) = add-in h (lit-in max_adopt_offset_ms (unfold floats in tt)) (unfold floats in tt) in
    cases ThresholdIn (lt (F.add old max_adopt_offset_ms) a) (λ e. h)
    (λ e.
    let small : In zero₊ (nat 615) a =
    record { low = z; high = le_trans a (F.add old max_adopt_offset_ms) (nat 615) (lt-left→le (F.add old max_adopt_offset_ms) a (in-ordered s) (le-ordered-r zero₊ a z) e) s.high } in
    in-wider (clamp-in (moved a old elapsed) min_threshold_ms max_threshold_ms (in-ordered (moved_in a old elapsed h small)) (unfold floats in tt)) (unfold floats in tt))
