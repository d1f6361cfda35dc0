-- 02, Req 04: readings of a probe and limited duties from both sides of each edge, computed.
use Rattle.std.specs.Prelude.{◌≡◌, refl, List, [], ◌∷◌, map, ℕ, ℤ, pos, negsuc}
use Rattle.std.specs.Float.{binary32}
use Rattle.std.specs.Float.Ieee.{of_bits, round}
use Rattle.service.specs.declared.Probe.{Probe}
use Rattle.service.specs.declared.Probe.TheVariants.{NotUsed, Degrees}
use Rattle.service.specs.Probes.{degrees_of, probe_of}
use Rattle.service.specs.Duty.{limited_duty}

-- degrees by the 32 bits of their float
abbrev shown : ℕ → Probe
shown b = Degrees (of_bits binary32 b)

-- raw numbers, and what the screen shows of them
abbrev pub edges : List (ℤ × Probe)
edges =
    -- -10.0, 0.0 and 25.0 °C, which a float holds exactly
    (negsuc 99, shown 0xc1200000)
    ∷ (pos 0, shown 0x00000000)
    ∷ (pos 250, shown 0x41c80000)
    -- all bits of the signal set is -0.1 °C; the float next to it
    ∷ (negsuc 0, shown 0xbdcccccd)
    -- 0.1 and 0.3 °C: the last bit rounded up
    ∷ (pos 1, shown 0x3dcccccd)
    ∷ (pos 3, shown 0x3e99999a)
    -- 0x1FFF, and one less, 819.0 °C
    ∷ (pos 8191, NotUsed)
    ∷ (pos 8190, shown 0x444cc000)
    -- the coldest, -819.2 °C
    ∷ (negsuc 8191, shown 0xc44ccccd)
    ∷ []

pub readings : map (λ e. probe_of e.0) edges ≡ map (λ e. e.1) edges
unfolding degrees_of probe_of round of_bits
readings = refl

-- 53.3 %, 100.0 %, and above
pub duties : map limited_duty (0 ∷ 533 ∷ 1000 ∷ 1001 ∷ 1023 ∷ []) ≡ 0 ∷ 533 ∷ 1000 ∷ 1000 ∷ 1000 ∷ []
duties = refl
