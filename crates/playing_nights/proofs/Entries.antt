-- An entry of a log: feeding it is feeding the record that it stands for.
use mathlib.Core.Path.{◌≡◌, refl}
use mathlib.Core.Bool.{Bool, true, false, cond}
use mathlib.Core.List.{List, []}
use Prim.Native.Nat.{ℕ, ◌+◌, ◌-◌, ◌≤◌}
use native.Mathlib.Omega.{arith}
use lib.Dec.{ltb, leb}
use lib.ListN.{length, take, drop}
use borrow.Author.Tests.{leb-true, le-ltb}
use Rattle.log_records.specs.declared.Entry.{Entry}
use Rattle.log_records.specs.Record.{tick, frame}
use Rattle.log_records.specs.Reading.{payload_of, rec_of}
use Rattle.watch_rules.specs.declared.Table.{Table}
use Rattle.watch_rules.specs.Table.{framing, ticking, feed_of}
use Rattle.playing_nights.specs.Fed.{fed_with, channel_of}
use Rattle.playing_nights.specs.Call.{Within}

pub channel_of_lem : (s : List ℕ) (e : Entry) → channel_of (rec_of s e) ≡ e.channel
channel_of_lem s e = go e.tick
  where
    go : (b : Bool) → channel_of (cond b (tick e.time e.channel) (frame e.time e.channel e.extended e.id (take e.length (drop e.start s)))) ≡ e.channel
    go true = refl
    go false = refl

payload_is : (s : List ℕ) (i l : ℕ) → i + l ≤ length s → payload_of s i l ≡ take l (drop i s)
payload_is s i l h = go (leb (length s) i) refl
  where
    go : (b : Bool) → leb (length s) i ≡ b → cond b [] (cond (ltb (length s - i) l) [] (take l (drop i s))) ≡ take l (drop i s)
    go true e = let z : l ≡ 0 = omega (arith, leb-true (length s) i e) in rw z
    go false e = rw (le-ltb (length s - i) l (omega arith))

module _ (t : Table) (s : List ℕ) (e : Entry) where
  pub fed_tick : e.tick ≡ true → feed_of t e.channel e.time ticking ≡ fed_with t (rec_of s e)
  fed_tick h = rw h

  pub fed_frame : e.tick ≡ false → Within s e
      → feed_of t e.channel e.time (framing e.id e.extended (payload_of s e.start e.length)) ≡ fed_with t (rec_of s e)
  fed_frame h w = rw (h, payload_is s e.start e.length w)
