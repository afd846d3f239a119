-- Codes as i64, what C gets for an answer, and question 1 of lent words.
use Prim.Native.Nat.{ℕ, zero, suc, ◌<◌, ◌^◌}
use native.Mathlib.Omega.{arith}
use mathlib.Core.Path.{◌≡◌, sym, ap, ◌∙◌}
use mathlib.Core.Bool.{true, false, ◌&&◌}
use mathlib.Core.List.{List}
use lib.IntN.{ℤ, pos, neg_ℤ, ◌-ℤ◌, +ℤ_idl}
use lib.Signed.{mag}
use lib.Ieee.{Float}
use mir.Facts.{to_z-of_z, to_z_pos}
use mir.Syntax.{w64}
use mir.Val.{SFits, of_z, to_z}
use Rattle.bool_laws.specs.Bools.{both}
use Rattle.questions.specs.Questions.{number}
use Rattle.questions.specs.declared.Refusal.{Refusal}
use Rattle.link_state.specs.State.{in_range}
use Rattle.link_state.specs.declared.Link.{Link}
use Rattle.link_words.specs.LinkWords.{formed, hypothesis_tag, of_words, timeout_words, to_words}
use Rattle.link.specs.Link.{Outcome, Reply, accepted, accepted_with, estimate, hypothesis, next_timeout, refused}
use Rattle.link_runs.specs.Statement.{Call, call, threshold}
use Rattle.lent_calls.proofs.AnyWords.{question-1}
use Rattle.lent_calls.specs.LentCalls.{after, bitrate_after, code, hypothesis_after, next_timeout_after, read, reply_to, stored, threshold_after, words_after}

-- what an accepted call shows of the link that it hands back
abbrev pub shown : Link → Reply
shown l = accepted (estimate l) (hypothesis l) (next_timeout l)

-- ---- codes
pub number-below : (q : Refusal) → number q < 10
number-below Refusal.OutOfRange = omega arith
number-below Refusal.BadStartBitrate = omega arith
number-below Refusal.BadWindow = omega arith
number-below Refusal.BadLists = omega arith
number-below Refusal.BadInstant = omega arith
number-below Refusal.BadSize = omega arith
number-below Refusal.BadMoment = omega arith
number-below Refusal.BadProbe = omega arith
number-below Refusal.TooManyBytes = omega arith

pub opposite-fits : (n : ℕ) → n < 10 → SFits w64 (neg_ℤ (pos n))
opposite-fits zero h = record { sfits = omega arith }
opposite-fits (suc n) h = record { sfits = omega (arith, h) }

module _ (n : ℕ) (below : n < 10) where
  pub fits : SFits w64 (pos n)
  fits = record { sfits = omega (arith, below) }

  pub opposite : pos 0 -ℤ to_z w64 n ≡ neg_ℤ (pos n)
  opposite = ap (λ z. pos 0 -ℤ z) (to_z_pos w64 {n = n} (omega (arith, below))) ∙ +ℤ_idl (neg_ℤ (pos n))

-- what a call returned is an i64
pub kept : {z : ℤ} → mag z < 2 ^ 63 → to_z w64 (of_z w64 z) ≡ z
kept h = to_z-of_z {w = w64} (record { sfits = h })

-- ---- a refusal leaves the lent places
module _ {p : Reply} (q : Refusal) (no : p ≡ refused (number q)) where
  pub code-no : {z : ℤ} → mag z < 2 ^ 63 → z ≡ neg_ℤ (pos (number q)) → to_z w64 (of_z w64 z) ≡ code p
  code-no ok e = kept ok ∙ e ∙ ap code (sym no)

  pub words-no : (v w : List ℕ) → w ≡ words_after p v w
  words-no v w = ap (λ (r : Reply). words_after r v w) (sym no)

  pub bitrate-no : (b : Float) → b ≡ bitrate_after p b
  bitrate-no b = ap (λ (r : Reply). bitrate_after r b) (sym no)

  pub hypothesis-no : (h : ℕ) → h ≡ hypothesis_after p h
  hypothesis-no h = ap (λ (r : Reply). hypothesis_after r h) (sym no)

  pub next-timeout-no : (t : ℕ) → t ≡ next_timeout_after p t
  next-timeout-no t = ap (λ (r : Reply). next_timeout_after r t) (sym no)

  pub threshold-no : (w : List ℕ) (x : Float) → x ≡ threshold_after p w x
  threshold-no w x = ap (λ (r : Reply). threshold_after r w x) (sym no)

-- ---- an accepted call's link is told and stored
module _ (l : Link) {p : Reply} (yes : shown l ≡ p) where
  pub code-yes : pos 0 ≡ code p
  code-yes = ap code yes

  pub bitrate-yes : (b : Float) → estimate l ≡ bitrate_after p b
  bitrate-yes b = ap (λ (r : Reply). bitrate_after r b) yes

  pub hypothesis-yes : (h : ℕ) → hypothesis_tag (hypothesis l) ≡ hypothesis_after p h
  hypothesis-yes h = ap (λ (r : Reply). hypothesis_after r h) yes

  pub next-timeout-yes : (t : ℕ) → next_timeout l ≡ next_timeout_after p t
  next-timeout-yes t = ap (λ (r : Reply). next_timeout_after r t) yes

  pub threshold-yes : (w : List ℕ) → l ≡ of_words w → (x : Float) → threshold l ≡ threshold_after p w x
  threshold-yes w loaded x = ap threshold loaded ∙ ap (λ (r : Reply). threshold_after r w x) yes

-- of an outcome
module _ (l : Link) {o : Outcome} (taken : o ≡ accepted_with l) where
  pub shown-is : shown l ≡ o.reply
  unfolding accepted_with
  shown-is = ap (λ (x : Outcome). x.reply) (sym taken)

  pub words-taken : (w : List ℕ) → to_words l ≡ words_after o.reply (to_words o.link) w
  unfolding accepted_with
  words-taken w = ap (λ (x : Outcome). words_after x.reply (to_words x.link) w) (sym taken)

  pub timeout-taken : (w : List ℕ) → timeout_words l.control w ≡ words_after o.reply (timeout_words o.link.control w) w
  unfolding accepted_with
  timeout-taken w = ap (λ (x : Outcome). words_after x.reply (timeout_words x.link.control w) w) (sym taken)

-- ---- question 1, of words and of the link that was loaded from them
module _ (w : List ℕ) {l : Link} (loaded : l ≡ of_words w) where
  -- words that stand for no link in range
  unread : (formed w && in_range l) ≡ false → ((k : Call) → reply_to w k ≡ refused 1) × (read w ≡ refused 1)
  unread out = question-1 w (ap (λ (m : Link). formed w && in_range m) (sym loaded) ∙ out)

  pub read_out : (formed w && in_range l) ≡ false → read w ≡ refused 1
  read_out out = (unread out).1

  pub read-in : (formed w && in_range l) ≡ true → shown l ≡ read w
  unfolding read
  read-in good = let b = both (formed w) (in_range l) good in rw (b.0, sym loaded, b.1)

  module _ (k : Call) where
    pub call-out : (formed w && in_range l) ≡ false → reply_to w k ≡ refused 1
    call-out out = (unread out).0 k

    -- of what a call gives
    module _ (e : formed w ≡ true) {o : Outcome} (told : o ≡ call l k) where
      outcome-is : o ≡ call (of_words w) k
      outcome-is = told ∙ ap (λ (m : Link). call m k) loaded

      pub reply-is : o.reply ≡ reply_to w k
      unfolding reply_to
      reply-is = ap (λ (x : Outcome). x.reply) outcome-is ∙ simp (e)

      pub words-is : words_after o.reply (stored k o.link w) w ≡ after w k
      unfolding after
      words-is = ap (λ (r : Reply). words_after r (stored k o.link w) w) reply-is ∙ ap (λ (x : Outcome). words_after (reply_to w k) (stored k x.link w) w) outcome-is

      pub code_is : {z : ℤ} → mag z < 2 ^ 63 → z ≡ code o.reply → to_z w64 (of_z w64 z) ≡ code (reply_to w k)
      code_is ok r = kept ok ∙ r ∙ ap code reply-is

      pub bitrate-is : (b : Float) → bitrate_after o.reply b ≡ bitrate_after (reply_to w k) b
      bitrate-is b = ap (λ (r : Reply). bitrate_after r b) reply-is

      pub hypothesis-is : (h : ℕ) → hypothesis_after o.reply h ≡ hypothesis_after (reply_to w k) h
      hypothesis-is h = ap (λ (r : Reply). hypothesis_after r h) reply-is

      pub next-timeout-is : (t : ℕ) → next_timeout_after o.reply t ≡ next_timeout_after (reply_to w k) t
      next-timeout-is t = ap (λ (r : Reply). next_timeout_after r t) reply-is

-- a refused call leaves the words
pub words-kept : (w : List ℕ) (k : Call) (q : Refusal) → reply_to w k ≡ refused (number q) → w ≡ after w k
unfolding after
words-kept w k q e = words-no q e _ w

-- ---- what the functions go by: codes that fit, and what C gets for an answer
pub ruleset codes = (to_z-of_z, fits, number-below, opposite, opposite-fits, kept)

pub ruleset told =
    (bitrate-no, bitrate-yes, code-no, code-yes, hypothesis-no, hypothesis-yes, next-timeout-no, next-timeout-yes, threshold-no, threshold-yes, words-no, read-in, read_out)
