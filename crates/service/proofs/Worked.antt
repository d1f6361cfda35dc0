-- The laws of a probe on -10.0 °C, which is used, and on 0x1FFF, which is not.
use mathlib.Core.Path.{◌≡◌, ap}
use mathlib.Core.Bool.{true}
use native.Mathlib.Omega.{arith}
use lib.IntN.{pos, negsuc, nat_abs}
use Rattle.service.specs.declared.Probe.TheVariants.{Degrees}
use Rattle.service.specs.Nearness.{Nearest}
use Rattle.service.specs.Probes.{degrees_of, probe_of}
use Rattle.service.proofs.Rounded.{nearest}
use Rattle.service.proofs.Unused.{unused, only_unused, used}

pub ten_below : probe_of (negsuc 99) ≡ Degrees (degrees_of (negsuc 99))
ten_below = used (negsuc 99) (λ e. omega (arith, ap nat_abs e))

-- no other f32 is as near to 100 tenths below 0
pub nearest_below : Nearest true 100 (degrees_of (negsuc 99))
nearest_below = nearest (negsuc 99) (omega arith)

pub the_one : pos 0x1fff ≡ pos 0x1fff
the_one = only_unused (pos 0x1fff) unused
