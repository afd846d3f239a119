-- Rows of document 01, computed from the definitions.
use Rattle.std.specs.Prelude.{ℕ, ◌≡◌, refl, true, Float}
use Rattle.std.specs.Float.Ieee.{lt}
use Rattle.float_order.specs.Binary64 as F
use Rattle.float_order.specs.Binary64.{lit}
use Rattle.float_order.specs.Interval.{floats}
use Rattle.float.specs.Float.{abs, helpers}
use Rattle.trendline.specs.Trendline.{threshold, new_delays, over_use_threshold_default_ms, max_adopt_offset_ms}

-- modified trend 27.5 adapts: after 100 ms the threshold is 25.55
pub adapts-at-offset : threshold new_delays (lit 0x403b_8000_0000_0000) 100000000 ≡ lit 0x4039_8ccc_cccc_cccd
unfolding helpers threshold
adapts-at-offset = refl

offset : F.add over_use_threshold_default_ms max_adopt_offset_ms ≡ lit 0x403b_8000_0000_0000
unfolding floats
offset = refl

-- anything above 27.5 does not
pub stays-past-offset : (modified : Float) (elapsed : ℕ) → lt (lit 0x403b_8000_0000_0000) (abs modified) ≡ true
    → threshold new_delays modified elapsed ≡ over_use_threshold_default_ms
unfolding threshold
stays-past-offset modified elapsed h = simp (offset, h)
