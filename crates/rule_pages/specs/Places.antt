-- Where a post keeps the latest frame of a kind: a post has the kinds of one interface, so that a kind of 001 has a place that a kind of 000 has on another
-- post, and those of 004 have places of their own.
use Rattle.std.specs.Prelude.{ℕ, ◌+◌, ◌-◌, cond, ltb}
use Rattle.older_types.specs.message_types.specs.KindNumbers.{safety_control_kind, sequence_kind}
use Rattle.older_types.specs.KindNumbers as older

abbrev pub place_count : ℕ
place_count = 25

-- 000's base messages and 004 at their kinds, and the rest of 000's behind them; 001's first nine at the places of 000, and its other nine behind those of 004
unfoldable pub place_by : ℕ → ℕ
place_by k =
    cond (ltb k older.status_kind) k
    (cond (ltb k older.stop_kind) (k - older.status_kind)
    (cond (ltb k sequence_kind) (k - safety_control_kind)
    (older.status_kind + (k - sequence_kind))))
