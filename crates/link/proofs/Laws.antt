-- The loops over a report's lists, lists gathered in the order of receipt, and a report's first no.
use Rattle.std.specs.Prelude.{Option, Some, None, Ok, Err, min}
use Rattle.std.specs.Option.{ok_or}
use Rattle.std.proofs.lemmas.Result.{err_from_is_err_and}
use Prim.Native.Nat.{ℕ, zero, suc, ◌+◌, ◌<◌, ◌≤◌}
use native.Mathlib.Numerals.{add-one}
use native.Mathlib.Omega.{arith}
use mathlib.Core.Path.{◌≡◌, refl, ap, sym, ◌∙◌}
use mathlib.Core.Bool.{Bool, true, false, cond, ◌&&◌}
use mathlib.Core.List.{List, [], ◌∷◌}
use lib.ListN.{length, take, drop, length-drop, get_or}
use lib.Seq.{drop-cons, length-take-le}
use Rattle.bandwidth.specs.declared.Bitrate.{Bitrate}
use Rattle.bandwidth.specs.declared.DataSize.{DataSize}
use Rattle.control.specs.Control as Control
use Rattle.control.specs.declared.DelayController.{DelayController}
use Rattle.link_state.specs.declared.Link.{Link}
use Rattle.acked_bitrate_estimator.specs.AckedBitrateEstimator as Acked
use Rattle.acked_bitrate_estimator.specs.declared.AckedBitrateEstimator.{AckedBitrateEstimator}
use Rattle.receive_order.specs.ReceiveOrder.{count, receive_order, order_by_receive_time, entries, gather}
use Rattle.receive_order.specs.Laws.{gather-length, ordered-front}
use Rattle.questions.specs.Questions.{Report, bytes_in, first_no, lists_in, number, of_opening, of_report, of_timeout}
use Rattle.questions.specs.Laws.{first_of, first-append, first-of, lengths, number-above, report-numbered}
use Rattle.questions.specs.declared.Refusal.{Refusal}
use Rattle.link.specs.Link.{
  Judgement,
  acknowledge,
  acknowledged,
  accepted_with,
  data_size,
  first_no_in_order,
  judge_report,
  judged,
  judged_by,
  new,
  opened,
  opening,
  outcome_unless,
  question9,
  refused_by,
  started_unless,
  sums_in,
  timed_out,
  turned_down,
}
use Rattle.link.specs.Laws.{judged-number, judged-taken, outcome-refused, report-1, report-4, report-sorted, timeout-1, timeout-from-7}

-- ---- packets to the acknowledged rate
module _ (a : AckedBitrateEstimator) (remotes sizes : List ℕ) (i : ℕ) (hr : i < length remotes) (hs : i < length sizes) where
  abbrev next : AckedBitrateEstimator
  next = Acked.update a (get_or remotes i 0) (data_size (get_or sizes i 0))

  acknowledged-turn : acknowledged a (drop i remotes) (drop i sizes) ≡ cond (bytes_in next.sum) (acknowledged next (drop (i + 1) remotes) (drop (i + 1) sizes)) None
  unfolding acknowledged acknowledge sums_in
  acknowledged-turn = rw (add-one, drop-cons remotes i 0, drop-cons sizes i 0) (go (bytes_in next.sum) _ _)
    where
      go : (b t : Bool) (x : Option AckedBitrateEstimator) → cond (b && t) x None ≡ cond b (cond t x None) None
      go true t x = refl
      go false t x = refl

-- one packet more, of which the estimator and question 9 were asked
module _ (remotes sizes : List ℕ) (a : AckedBitrateEstimator) {whole : Option AckedBitrateEstimator} {i : ℕ}
    (left : acknowledged a (drop i remotes) (drop i sizes) ≡ whole) (hr : i < length remotes) (hs : i < length sizes)
    {t n : ℕ} (et : t ≡ get_or remotes i 0) (en : n ≡ get_or sizes i 0)
    {size : DataSize} {after : AckedBitrateEstimator} {here : Bool} (es : size ≡ data_size n) (ea : after ≡ Acked.update a t size) (eh : here ≡ bytes_in after.sum) where
  turn : cond here (acknowledged after (drop (i + 1) remotes) (drop (i + 1) sizes)) None ≡ whole
  turn = rw (eh, ea, es, et, en) (sym (acknowledged-turn a remotes sizes i hr hs) ∙ left)

  pub acknowledged-more : here ≡ true → acknowledged after (drop (i + 1) remotes) (drop (i + 1) sizes) ≡ whole
  acknowledged-more h = rw h at turn

  pub acknowledged-none : here ≡ false → None ≡ whole
  acknowledged-none h = rw h at turn

pub acknowledged-end : (remotes sizes : List ℕ) {a : AckedBitrateEstimator} {whole : Option AckedBitrateEstimator} {i : ℕ}
    → acknowledged a (drop i remotes) (drop i sizes) ≡ whole → i ≡ min (length remotes) (length sizes) → Some a ≡ whole
unfolding acknowledged acknowledge sums_in
acknowledged-end remotes sizes {a} {whole} {i} left e = sym (go (drop i remotes) (drop i sizes) (omega (arith, length-drop i remotes, length-drop i sizes))) ∙ left
  where
    go : (r s : List ℕ) → min (length r) (length s) ≡ 0 → acknowledged a r s ≡ Some a
    go [] s h = refl
    go (t ∷ r) [] h = refl
    go (t ∷ r) (n ∷ s) h = absurd (omega arith)

-- what is gathered of a list by the order of receipt: room for all packets, and its front
module _ (sequences sizes sends remotes receives : List ℕ) (y4 : lists_in sequences sizes sends remotes receives ≡ true)
    (xs order : List ℕ) {result : List ℕ} (er : result ≡ gather xs order (length remotes)) where
  counted : length remotes ≡ count remotes sends sequences
  counted = let n = lengths sequences sizes sends remotes receives y4 in omega (arith, n.few, n.sends-length, n.remotes-length)

  pub gathered-room : length remotes ≤ length result
  gathered-room = omega (arith, counted, ap length er, gather-length xs order (length remotes))

  pub gathered-length : length remotes ≡ length (take (length remotes) result)
  gathered-length = sym (length-take-le (length remotes) result gathered-room)

  pub gathered : order ≡ order_by_receive_time remotes sends sequences → take (length remotes) result ≡ entries xs (receive_order remotes sends sequences)
  gathered eo = front counted er
    where
      front : {n : ℕ} → n ≡ count remotes sends sequences → result ≡ gather xs order n → take n result ≡ entries xs (receive_order remotes sends sequences)
      front {n} en eg = rw (eg, eo, en) (ordered-front remotes sends sequences xs)

-- ---- an opening by its first no
module _ (start : Bitrate) (initial window : ℕ) where
  by_first : (n : ℕ) (l : Link) → 0 < n → turned_down n ≡ started_unless n l
  by_first zero l h = absurd (omega arith)
  by_first (suc n) l h = refl

  pub opening-refused : (q : Refusal) → number q ≡ first_no (of_opening start initial window) → turned_down (number q) ≡ opening start initial window
  unfolding opening
  opening-refused q e = rw (sym e) (by_first (number q) (new start initial window) (number-above q))

  pub opening-taken : 0 ≡ first_no (of_opening start initial window) → opened (new start initial window) ≡ opening start initial window
  unfolding opening
  opening-taken e = rw (sym e)

-- ---- a judgement by what questions 4 to 8 say, then by question 9
module _ (a : AckedBitrateEstimator) (r : Report) where
  first-no : first_no_in_order a r ≡ first_of (first_no (of_report r)) (first_no (question9 a r ∷ []))
  unfolding first_no_in_order
  first-no = first-append (of_report r) (question9 a r ∷ []) (report-numbered r)

  pub no-before-9 : (q : Refusal) → number q ≡ first_no (of_report r) → first_no_in_order a r ≡ number q
  no-before-9 q e = first-no ∙ rw (sym e) (first-of (number q) (first_no (question9 a r ∷ [])) (number-above q))

  module _ (y8 : 0 ≡ first_no (of_report r)) where
    pub no_9 : sums_in a r.remotes r.sizes ≡ false → first_no_in_order a r ≡ 9
    unfolding first_no
    no_9 n9 = first-no ∙ rw (sym y8, n9)

    pub no_none : sums_in a r.remotes r.sizes ≡ true → first_no_in_order a r ≡ 0
    unfolding first_no
    no_none y9 = first-no ∙ rw (sym y8, y9)

  -- ---- the judgement
  by-no : (n : ℕ) (after : AckedBitrateEstimator) → 0 < n → record { number = n; acked = a } ≡ judged_by n a after
  by-no zero after h = absurd (omega arith)
  by-no (suc n) after h = refl

  pub judged-before-9 : (q : Refusal) → number q ≡ first_no (of_report r) → record { number = number q; acked = a } ≡ judge_report a r
  unfolding judge_report
  judged-before-9 q e = rw (no-before-9 q e) (by-no (number q) _ (number-above q))

  pub judged-9 : {after : Option AckedBitrateEstimator} → 0 ≡ first_no (of_report r) → after ≡ acknowledged a r.remotes r.sizes
      → judged a (ok_or after Refusal.TooManyBytes) ≡ judge_report a r
  unfolding judge_report acknowledged
  judged-9 y8 e = rw e (go (sums_in a r.remotes r.sizes) refl)
    where
      go : (t : Bool) → sums_in a r.remotes r.sizes ≡ t
          → judged a (ok_or (cond t (Some (acknowledge a r.remotes r.sizes)) None) Refusal.TooManyBytes) ≡ judged_by (first_no_in_order a r) a (acknowledge a r.remotes r.sizes)
      go true y9 = rw (no_none y8 y9)
      go false n9 = rw (no_9 y8 n9)

  -- read off what was judged
  pub judged-no : (q : Refusal) → judged a (Err q) ≡ judge_report a r → first_no_in_order a r ≡ number q
  judged-no q e = sym (judged-number a r) ∙ sym (ap (λ (g : Judgement). g.number) e)

  module _ {after : AckedBitrateEstimator} (e : judged a (Ok after) ≡ judge_report a r) where
    pub judged-none : first_no_in_order a r ≡ 0
    judged-none = sym (judged-number a r) ∙ sym (ap (λ (g : Judgement). g.number) e)

    pub judged-acked : after ≡ acknowledge a r.remotes r.sizes
    judged-acked = ap (λ (g : Judgement). g.acked) e ∙ judged-taken a r judged-none

-- ---- a timeout by its first no
module _ (l : Link) (now : ℕ) where
  pub timed-refused : (q : Refusal) → number q ≡ first_no (of_timeout now) → refused_by (number q) l ≡ outcome_unless (first_no (of_timeout now)) l (timed_out l now)
  timed-refused q e = rw (sym e) (sym (outcome-refused l (timed_out l now) (number q) (number-above q)))

  pub timed-taken : {rate : Option Bitrate} {control : DelayController} → 0 ≡ first_no (of_timeout now) → rate ≡ l.acked.estimate
      → control ≡ Control.handle_timeout l.control rate now → accepted_with (record { acked = l.acked; control = control }) ≡ outcome_unless (first_no (of_timeout now)) l (timed_out l now)
  unfolding outcome_unless timed_out
  timed-taken e er ec = rw (sym e, ec, er)

-- ---- what the functions go by: the first no, and the room for what is gathered
pub ruleset by_first_no =
    (err_from_is_err_and, opening-refused, opening-taken, judged-before-9, judged-9, report-1, report-sorted, timeout-1, timeout-from-7, timed-refused, timed-taken)

pub ruleset gathering = (report-4, gathered-room, gathered-length)
