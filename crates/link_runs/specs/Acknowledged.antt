-- The acknowledged-rate estimator of a reached link, and that a report's packets keep it so.
use Rattle.std.specs.Prelude.{ℕ, ◌^◌, ◌-◌, ◌≤◌, min, ◌≡◌, true, List, [], ◌∷◌}
use Rattle.std.proofs.Common.{arith}
use Rattle.std.specs.Int.Signed.{lt_z_no}
use Rattle.bool_laws.specs.Bools.{both, holds}
use Rattle.bandwidth.specs.Bandwidth.{most_bytes}
use Rattle.rate_control.specs.Laws.{InstantAtMost}
use Rattle.acked_bitrate_estimator.specs.AckedBitrateEstimator.{new, update}
use Rattle.acked_bitrate_estimator.specs.Laws.{Reached, ValidWindow, new-reached, update-reached, update-last}
use Rattle.acked_bitrate_estimator.specs.declared.AckedBitrateEstimator.{AckedBitrateEstimator}
use Rattle.receive_order.specs.Lists.{All}
use Rattle.questions.specs.Questions.{bytes_in, most_instant}
use Rattle.link.specs.Link.{acknowledge, data_size, sums_in}

pub record GoodAcked (a : AckedBitrateEstimator) : Type 0 where
  pub reached : Reached a
  pub last : InstantAtMost most_instant a.last_update

pub new-good : (initial window : ℕ) → ValidWindow initial → ValidWindow window → GoodAcked (new initial window)
new-good initial window i w = record { reached = new-reached initial window i w; last = tt }

update-good : (a : AckedBitrateEstimator) (t n : ℕ) → t ≤ most_instant → 1 ≤ n → bytes_in (update a t (data_size n)).sum ≡ true → GoodAcked a
    → GoodAcked (update a t (data_size n))
update-good a t n h l e g =
    record {
      reached = update-reached a t (min n (2 ^ 63 - 1)) g.reached (omega arith) (lt_z_no {a = most_bytes.0} {b = (update a t (data_size n)).sum.0} (holds e)).le;
      last = rw (update-last a t (data_size n)) h;
    }

pub acknowledge-good : (a : AckedBitrateEstimator) (remotes sizes : List ℕ) → All (λ t. t ≤ most_instant) remotes → All (λ n. 1 ≤ n) sizes
    → sums_in a remotes sizes ≡ true → GoodAcked a → GoodAcked (acknowledge a remotes sizes)
unfolding acknowledge sums_in
acknowledge-good a [] sizes h k e g = g
acknowledge-good a (t ∷ remotes) [] h k e g = g
acknowledge-good a (t ∷ remotes) (n ∷ sizes) h k e g =
    let next = update a t (data_size n) in
    let q = both (bytes_in next.sum) (sums_in next remotes sizes) e in
    acknowledge-good next remotes sizes h.1 k.1 q.1 (update-good a t n h.0 k.0 q.0 g)
