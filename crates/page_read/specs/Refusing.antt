-- 01, "Numbers given back": the case of each refusal that reading gives, over the lists of messages and rows.
use Rattle.std.specs.Prelude.{ℕ, ◌*◌, ◌≤◌, ◌<◌, ◌≡◌, Bool, true, List, length, Err}
use Rattle.refusals.specs.declared.Refusal.{Refusal}
use Rattle.refusals.specs.Refusals as refusals
use Rattle.payload.specs.Payload.{number_of, bit_at}
use Rattle.page_search.specs.page_table.specs.declared.Interface.{Interface}
use Rattle.page_search.specs.page_table.specs.declared.Row.{Row}
use Rattle.page_search.specs.page_table.specs.Messages.{message_of}
use Rattle.page_search.specs.page_table.specs.Table.{rows_of, bits_at, takes, HasBit}
use Rattle.page_search.specs.page_table.specs.Interfaces.{Has}
use Rattle.page_search.specs.page_table.specs.Listed.{Among, SignalAt}
use Rattle.page_read.specs.Judged.{Judged}
use Rattle.page_read.specs.Judge.{offends}

-- the answer is the refusal with the number c
abbrev pub Gives : ℕ → Judged → Type 0
Gives c a = (w : Refusal) × (a ≡ Err w) × (refusals.number_of w ≡ c)

-- the frame has identifier, form and length of message k of the interface
pub record OfKind (iface : Interface) (m : ℕ) (x : Bool) (bs : List ℕ) (k : ℕ) : Type 0 where
  pub has : Has iface m x k
  pub sized : length bs ≡ (message_of k).2

-- the payload number of such a frame, in the message's byte order
abbrev pub number_in : ℕ → List ℕ → ℕ
number_in k bs = number_of (message_of k).3 bs

-- 5: "a label signal holds a number without a label"
pub record SomeOffence (iface : Interface) (m : ℕ) (x : Bool) (bs : List ℕ) : Type 0 where
  pub kind : ℕ
  pub frame : OfKind iface m x bs kind
  pub signal : Row
  pub is_signal : Among signal (rows_of kind)
  pub offending : offends (number_in kind bs) signal ≡ true

-- 02, Req 02: "the start bit of the first offending signal, lowest start first": such a signal starts at s, and none that starts lower
pub record FirstOffence (iface : Interface) (m : ℕ) (x : Bool) (bs : List ℕ) (s : ℕ) : Type 0 where
  pub kind : ℕ
  pub frame : OfKind iface m x bs kind
  pub signal : Row
  pub is_signal : SignalAt kind s signal
  pub offending : offends (number_in kind bs) signal ≡ true
  pub lowest : (q : Row) → Among q (rows_of kind) → offends (number_in kind bs) q ≡ true → s ≤ q.start

-- 6: "a bit that no signal covers is 1", where each label signal holds a number with a label
pub record Uncovered (iface : Interface) (m : ℕ) (x : Bool) (bs : List ℕ) : Type 0 where
  pub kind : ℕ
  pub frame : OfKind iface m x bs kind
  pub labelled : (q : Row) → Among q (rows_of kind) → takes q.labels (bits_at (number_in kind bs) q) ≡ true
  pub bit : ℕ
  pub inside : bit < 8 * length bs
  pub no_signal : (r : Row) → Among r (rows_of kind) → HasBit r bit → ⊥
  pub is_one : bit_at bs bit ≡ 1
