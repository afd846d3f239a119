-- The packets that a reader's next steps hand out, where it is after them, and lists that they are handed out to.
use Rattle.std.specs.Prelude.{ℕ, zero, suc, min, List, [], ◌∷◌, ◌++◌, map, length, drop, ℤ, pos, Option, Some, None, is_some, unwrap_or}
use Rattle.std.specs.Int.{from_bool}
use Rattle.twcc.specs.declared.Packet.{Packet}
use Rattle.feedback_reader.specs.Reader.{step}
use Rattle.feedback_reader.specs.declared.Cursor.{Cursor}

-- what a step gave and what the steps after it give; nothing after none
abbrev pub followed_by : Option Packet → List Packet → List Packet
followed_by None packets = []
followed_by (Some packet) packets = packet ∷ packets

-- the packets of the next n steps, up to the first that gives none
unfoldable pub next_packets : ℕ → List ℕ → Cursor → List Packet
next_packets zero message cursor = []
next_packets (suc n) message cursor = followed_by (step message cursor).packet (next_packets n message (step message cursor).cursor)

-- the cursor after them: a step that gives none leaves it as it is
unfoldable pub cursor_after : ℕ → List ℕ → Cursor → Cursor
cursor_after zero message cursor = cursor
cursor_after (suc n) message cursor = cursor_after n message (step message cursor).cursor

-- ---- a packet, and the lists
-- how many packets two lists have room for
abbrev pub room : List ℕ → List ℤ → ℕ
room statuses ticks = min (length statuses) (length ticks)

-- 1 for a packet that was received, 0 for one that was not
abbrev pub status : Packet → ℕ
status packet = from_bool (is_some packet.ticks)

-- the time of a packet that was received
abbrev pub ticks_of : Packet → ℤ
ticks_of packet = unwrap_or packet.ticks (pos 0)

-- a list's first places written over
unfoldable pub over : {A : Type 0} → List A → List A → List A
over new old = new ++ drop (length new) old

abbrev pub statuses_over : List Packet → List ℕ → List ℕ
statuses_over packets old = over (map status packets) old

abbrev pub ticks_over : List Packet → List ℤ → List ℤ
ticks_over packets old = over (map ticks_of packets) old
