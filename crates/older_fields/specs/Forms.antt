-- The form of field that document 001 has beside those of message_fields.
use Rattle.std.specs.Prelude.{ℕ, Bool, ℤ}
use Rattle.message_fields.specs.Fields.{kilohms_of, has_kilohms, kilohms_raw}

-- Battery_Capacity is twice the raw number in kWh, as insulation is in kOhm: an odd number has no raw number
abbrev pub capacity_of : ℤ → ℕ
capacity_of z = kilohms_of z

abbrev pub has_capacity : ℕ → Bool
has_capacity x = has_kilohms x

abbrev pub capacity_raw : ℕ → ℤ
capacity_raw x = kilohms_raw x
