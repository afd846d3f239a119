-- Worked examples: a rate control that is fresh at 1,000,000 bps, and what is added to an estimate near convergence.
use Rattle.std.specs.Prelude.{◌^◌, Bool, true, List, [], ◌∷◌, T, Float}
use Rattle.std.specs.Float.Ieee as Ieee
use Rattle.float_order.specs.Binary64.{lit, decimal}
use Rattle.float.specs.Float.{helpers}
use Rattle.growth.specs.Growth.{growth_factor, growth}
use Rattle.average.specs.Average as Average
use Rattle.bandwidth.specs.Bandwidth as B
use Rattle.rate_control.specs.declared.RateControl.{RateControl}
use Rattle.rate_control.specs.RateControl.{increase, is_near_convergence, multiplicative_increase, new, raised, reset_above, update_estimate, with_average, with_estimate}

abbrev pub fresh : RateControl
fresh = new (B.bps 1000000) (B.bps 40000) (B.bps (10 ^ 10))

-- what the examples compute through
unfoldable steps : Bool
unfolding with_average with_estimate update_estimate increase reset_above raised is_near_convergence multiplicative_increase growth_factor growth Average.upper_range Average.within_std B.clamp helpers
steps = true

-- an increase may give a lower estimate: one and a half times the observed rate
pub increase-falls : T (Ieee.lt (increase fresh (B.bps 661000) 0).estimated_bitrate.0 fresh.estimated_bitrate.0)
increase-falls = unfold steps in tt

-- ---- the step near convergence, 100 ms after the last update and without a round trip: half a packet, but at least 1,000 bps
pub record Row : Type 0 where
  pub estimate : Float
  pub step : Float

abbrev row : Float → Float → Row
row e s = record { estimate = e; step = s }

unfoldable pub rows : List Row
rows =
    row (decimal 40000 1) (decimal 1000 1)
    ∷ row (decimal 60000 1) (decimal 1000 1)
    -- from the next float on half a packet is more
    ∷ row (lit 0x40ed_4c00_0000_0001) (lit 0x408f_4000_0000_0001)
    -- a frame of one whole packet, and of two halves
    ∷ row (decimal 288000 1) (decimal 4800 1)
    ∷ row (lit 0x4111_9400_0000_0001) (lit 0x40a2_c000_0000_0001)
    ∷ row (decimal 1000000 1) (decimal 12500 3)
    -- 4,799.892482408393
    ∷ row (decimal (10 ^ 10) 1) (lit 0x40b2_bfe4_79ba_244e)
    ∷ []
