-- `twcc::read_header` meets its contract: its four numbers.
use Rattle.std.proofs.Common.{◌≡◌, ◌*◌, ap, ◌∙◌, arith, of_z, to_z, to_z-of_z, w32}
use mir.ValLaws.{sfits_le}
use Rattle.std.specs.Int.Signed.{mag_shr}
use borrow.Author.Rules.{sfits_of}
use Rattle.std.specs.Int.{int_shr}
use Rattle.twcc.specs.Feedback.{signed, read_u24}
use Rattle.twcc.specs.Numbers.{header_is, shift-signed}
use Rattle.twcc.proofs.read_header.Goals as goal
use Rattle.twcc.proofs.read_header.Goals.{After-from_be_bytes}

-- the bytes of the reference time, above a byte of zeros
joined : (c : After-from_be_bytes) → c.from_be_bytes.result ≡ to_z w32 (read_u24 c.args.message.now 4 * 256)
joined c = c.from_be_bytes.ensures ∙ ap (to_z w32) (omega (arith, c.read_u8.ensures, c.read_u8-2.ensures, c.read_u8-3.ensures))

-- of its 24 bits
signed-is : (c : After-from_be_bytes) → int_shr c.from_be_bytes.result 8 ≡ signed 0x80_0000 (read_u24 c.args.message.now 4)
signed-is c = rw (joined c) (shift-signed _ (omega (arith, c.read_u8.ensures, c.read_u8-2.ensures, c.read_u8-3.ensures)))

-- the shift is of a number that fits, and so does what it gives
number-is : (c : After-from_be_bytes) → let z = c.from_be_bytes.result in to_z w32 (of_z w32 (int_shr (to_z w32 (of_z w32 z)) 8)) ≡ signed 0x80_0000 (read_u24 c.args.message.now 4)
number-is c =
    let fits = sfits_of {w = w32} {z = c.from_be_bytes.result} c.from_be_bytes.type_inv in
    rw (to_z-of_z fits, to_z-of_z (sfits_le (mag_shr c.from_be_bytes.result 256) fits)) (signed-is c)

pub returns : goal.returns
returns c =
    header_is c.args.message.now _ _ _ _ c.read_u16.ensures c.read_u16-2.ensures (number-is (goal.at.returns c).After-from_be_bytes) c.read_u8-4.ensures
