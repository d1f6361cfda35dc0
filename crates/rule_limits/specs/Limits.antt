-- 01 on a post's limits: the ranges that set-up takes, and what a received number makes of a default.
use Rattle.std.specs.Prelude.{ℕ, min, Bool, cond, ◌&&◌, eqb, leb}
use Rattle.rule_limits.specs.declared.PlainLimits.{PlainLimits}

-- 01: "default voltage 1 to 65,535 tenths of a volt, default charge current 1 to 32,767 tenths of an ampere, default discharge current 0 to 32,767,
-- power module silence W 100 to 60,000 ms"; 02, Req 03: a sensor kind by its number;
-- Req 11: an interface by its number
unfoldable pub limits_fit : PlainLimits → Bool
limits_fit lim =
    leb 1 lim.voltage && (leb lim.voltage 65535
    && (leb 1 lim.charge && (leb lim.charge 32767
    && (leb lim.discharge 32767
    && (leb 100 lim.silence && (leb lim.silence 60000
    && (leb lim.sensor 1 && leb lim.interface 1)))))))

-- "A limit is the smaller of the default and the latest DC_Power_Parameters number since set-up; 0 .. means the default"
abbrev pub capped : ℕ → ℕ → ℕ
capped most got = cond (eqb got 0) most (min most got)
