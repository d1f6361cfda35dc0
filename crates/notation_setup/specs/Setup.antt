-- A post's set-up as a line tells it. desk.md: `setup POST CHANNEL VOLT CHG DIS W [SENSOR [IFACE]]`, "missing: 0".
use Rattle.std.specs.Prelude.{ℕ, cond, List, leb, length, Option, Some, None}
use Rattle.text_lines.specs.Lines.{field_of}
use Rattle.notation_read.specs.Fields.{last_of}
use Rattle.rule_limits.specs.declared.PlainLimits.{PlainLimits}
use Rattle.notation_setup.specs.declared.setup.Setup.{Setup}

-- ---- `[SENSOR [IFACE]]`: the line may end before either

unfoldable pub interface_of : List ℕ → ℕ → Option ℕ
interface_of s at = cond (leb at (length s)) (last_of s at) (Some 0)

abbrev pub with_interface : ℕ → Option ℕ → Option (ℕ × ℕ)
with_interface n None = None
with_interface n (Some i) = Some (n, i)

abbrev pub with_sensor : List ℕ → Option (ℕ × ℕ) → Option (ℕ × ℕ)
with_sensor s None = None
with_sensor s (Some (n, next)) = with_interface n (interface_of s next)

unfoldable pub choices_of : List ℕ → ℕ → Option (ℕ × ℕ)
choices_of s at = cond (leb at (length s)) (with_sensor s (field_of 10 s at)) (Some (0, 0))

-- ---- `VOLT CHG DIS W [SENSOR [IFACE]]`, field by field

abbrev pub with_choices : ℕ → ℕ → ℕ → ℕ → Option (ℕ × ℕ) → Option PlainLimits
with_choices v c d w None = None
with_choices v c d w (Some (n, i)) = Some (record { voltage = v; charge = c; discharge = d; silence = w; sensor = n; interface = i })

abbrev pub with_silence : List ℕ → ℕ → ℕ → ℕ → Option (ℕ × ℕ) → Option PlainLimits
with_silence s v c d None = None
with_silence s v c d (Some (w, next)) = with_choices v c d w (choices_of s next)

abbrev pub with_discharge : List ℕ → ℕ → ℕ → Option (ℕ × ℕ) → Option PlainLimits
with_discharge s v c None = None
with_discharge s v c (Some (d, next)) = with_silence s v c d (field_of 10 s next)

abbrev pub with_charge : List ℕ → ℕ → Option (ℕ × ℕ) → Option PlainLimits
with_charge s v None = None
with_charge s v (Some (c, next)) = with_discharge s v c (field_of 10 s next)

abbrev pub with_voltage : List ℕ → Option (ℕ × ℕ) → Option PlainLimits
with_voltage s None = None
with_voltage s (Some (v, next)) = with_charge s v (field_of 10 s next)

unfoldable pub limits_of : List ℕ → ℕ → Option PlainLimits
limits_of s at = with_voltage s (field_of 10 s at)

-- ---- `POST CHANNEL` before them

abbrev pub with_limits : ℕ → ℕ → Option PlainLimits → Option Setup
with_limits p ch None = None
with_limits p ch (Some l) = Some (record { post = p; channel = ch; limits = l })

abbrev pub on_channel : List ℕ → ℕ → Option (ℕ × ℕ) → Option Setup
on_channel s p None = None
on_channel s p (Some (ch, next)) = with_limits p ch (limits_of s next)

abbrev pub for_post : List ℕ → Option (ℕ × ℕ) → Option Setup
for_post s None = None
for_post s (Some (p, next)) = on_channel s p (field_of 10 s next)

unfoldable pub setup_of : List ℕ → ℕ → Option Setup
setup_of s at = for_post s (field_of 10 s at)
