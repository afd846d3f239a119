-- std's sum has the definition's whole seconds and rest.
use Rattle.std.proofs.Common.{◌≡◌, ◌∙◌, refl, sym, ℕ, ◌+◌, ◌/◌, ◌%◌, min, pos, arith}
use Rattle.std.specs.Float.{binary64}
use Rattle.std.specs.Float.Ieee.{of_int, of_bits}
use Rattle.std.specs.Duration as Std
use Rattle.std.specs.declared.time.Duration.{Duration}
use Rattle.seconds.specs.Seconds.{as_secs_f64}
use Rattle.rate_control.specs.RateControl.{response_time, default_backoff_time}
use Rattle.rate_control.proofs.response_time.Goals as goal

whole : (d : Duration) → Std.as_nanos d / 1000000000 ≡ d.secs
whole d = omega arith

rest : (d : Duration) → Std.as_nanos d % 1000000000 ≡ min d.nanos 999999999
rest d = omega arith

billion : of_int binary64 (pos 1000000000) ≡ of_bits binary64 0x41cd_cd65_0000_0000
unfolding of_int of_bits
billion = refl

secs : (d : Duration) (n : ℕ) → Std.as_nanos d ≡ n → Std.as_secs_f64 d ≡ as_secs_f64 n
unfolding as_secs_f64
secs d n e = rw (sym e, whole d, rest d, billion) refl

pub returns : goal.returns
unfolding response_time
returns c = c.as_secs_f64.ensures ∙ secs c.add.result (c.args.rtt + default_backoff_time) (omega arith)
