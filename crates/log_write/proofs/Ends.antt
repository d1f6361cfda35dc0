-- The ends of the writers: at each `return` the tests that led there say what `written_of` answers and `buffer_after` holds.
use Rattle.std.specs.Prelude.{Ok, Err}
use mathlib.Core.Path.{◌≡◌, sym, ap, ◌∙◌}
use mathlib.Core.Bool.{Bool}
use mathlib.Core.List.{List}
use Prim.Native.Nat.{ℕ, ◌≤◌, ◌<◌}
use native.Mathlib.Omega.{arith}
use lib.ListN.{length}
use lib.Seq.{sets}
use borrow.Author.Tests.{lt-ltb, le-ltb, le-leb, lt-leb}
use Rattle.refusals.specs.declared.Refusal.{Refusal}
use Rattle.refusals.specs.declared.Refusal.TheVariants.{LogChannel, LogLength, ShortBuffer}
use Rattle.log_write.specs.Logged.{Logged}
use Rattle.log_records.specs.Record.{Rec, tick, frame, identifiers, record_bytes, Loggable}
use Rattle.log_records.specs.Reading.{above_of}
use Rattle.log_write.specs.Writing.{written_of, buffer_after}
use Rattle.log_write.proofs.Writings.{loggable_written, short_last, buffer_refused, buffer_accepted}

abbrev pub Ends : Rec → List ℕ → Logged → List ℕ → Type 0
Ends x out r out' = (r ≡ written_of x out) × (out' ≡ buffer_after x out)

refused : (x : Rec) (out : List ℕ) (w : Refusal) → written_of x out ≡ Err w → Ends x out (Err w) out
refused x out w e = (sym e, sym (buffer_refused x out w e))

pub tick_channel : (t c : ℕ) (out : List ℕ) → 31 < c → Ends (tick t c) out (Err LogChannel) out
unfolding written_of
tick_channel t c out h = refused (tick t c) out LogChannel (rw (lt-ltb 31 c h))

module _ (t c : ℕ) (x : Bool) (i : ℕ) (p out : List ℕ) where
  pub frame_channel : 31 < c → Ends (frame t c x i p) out (Err LogChannel) out
  unfolding written_of
  frame_channel h = refused (frame t c x i p) out LogChannel (rw (lt-ltb 31 c h))

  pub frame_above : c ≤ 31 → identifiers x ≤ i → Ends (frame t c x i p) out (Err (above_of x)) out
  unfolding written_of
  frame_above h g = refused (frame t c x i p) out (above_of x) (rw (le-ltb 31 c h, le-leb (identifiers x) i g))

  pub frame_long : c ≤ 31 → i < identifiers x → 8 < length p → Ends (frame t c x i p) out (Err LogLength) out
  unfolding written_of
  frame_long h g l = refused (frame t c x i p) out LogLength (rw (le-ltb 31 c h, lt-leb (identifiers x) i g, lt-ltb 8 (length p) l))

-- n is the record's size
module _ (x : Rec) (out : List ℕ) (n : ℕ) (can : Loggable x) (size : length (record_bytes x) ≡ n) where
  pub short : length out < n → Ends x out (Err ShortBuffer) out
  short h = refused x out ShortBuffer (short_last x out can (omega arith))

  pub logged : (out' : List ℕ) → n ≤ length out → out' ≡ sets out 0 (record_bytes x) → Ends x out (Ok n) out'
  logged out' h s =
      let e : written_of x out ≡ Ok n = loggable_written x out can (omega arith) ∙ ap Ok size in
      (sym e, s ∙ sym (buffer_accepted x out n e))
