-- Turns of `split`.
use mathlib.Core.Path.{◌≡◌, refl, sym, ap, ◌∙◌, subst}
use mathlib.Core.Bool.{Bool, true, false, cond}
use mathlib.Core.Logic.{◌⊎◌, inl, inr}
use mathlib.Core.Option.{none, some}
use mathlib.Core.List.{List, ◌∷◌, ◌++◌}
use Prim.Native.Nat.{ℕ, ◌+◌, ◌*◌, ◌-◌, ◌/◌, ◌≤◌, ◌<◌}
use native.Mathlib.Omega.{arith}
use lib.ListN.{length, get_or, take, drop, set, length-set}
use lib.Seq.{drop-drop, get_or-drop, take-add, drop-append_seam, get_or-set_same, get_or-set_other}
use borrow.Author.Count.{below_more}
use Rattle.std.specs.Prelude.{Result, Ok, Err}
use Rattle.refusals.specs.declared.Refusal.{Refusal}
use Rattle.log_records.specs.declared.Entry.{Entry}
use Rattle.log_records.specs.declared.Found.{Found}
use Rattle.log_records.specs.declared.Found.TheVariants as found
use Rattle.log_records.specs.Record.{Rec, tick, frame, Loggable, record_bytes}
use Rattle.log_records.specs.Reading.{rec_of, found_at, Log, ends, then, clean, piece, refused, onward, log_of, records_in}
use Rattle.log_records.proofs.Wholes.{Bytes}
use Rattle.log_records.proofs.Logs.{turn_end}
use Rattle.log_read.specs.declared.Ending.{Ending}
use Rattle.log_read.specs.declared.Ending.TheVariants as ending
use Rattle.log_read.specs.Records.{ended}
use Rattle.log_read.proofs.Scans.{log_at, found_turn, found_exact}
use Rattle.compare_rules.specs.Records.{channel_of, at}
use Rattle.compare_rules.specs.Compare.{most, records_of, broken_at}
use Rattle.compare_logs.specs.Held.{key_of, split_of, Holds, Held}

-- ---- lists
drop_head : (xs : List Rec) (n : ℕ) (y : Rec) (ys : List Rec) → drop n xs ≡ y ∷ ys → (at xs n ≡ y) × (drop (n + 1) xs ≡ ys)
drop_head xs n y ys e =
    let z : n + 0 ≡ n = omega arith in
    (ap (at xs) (sym z) ∙ sym (get_or-drop n xs 0 (tick 0 0)) ∙ ap (λ (l : List Rec). at l 0) e, sym (drop-drop 1 n xs) ∙ ap (drop 1) e)

part_of : (s y : List ℕ) (i e : ℕ) → i ≤ e → take e s ≡ take i s ++ y → take (e - i) (drop i s) ≡ y
part_of s y i e h f =
    let sum : i + (e - i) ≡ e = omega arith in
    sym (drop-append_seam (take i s) (take (e - i) (drop i s)))
    ∙ ap (drop (length (take i s))) (sym (take-add i (e - i) s) ∙ ap (λ (k : ℕ). take k s) sum ∙ f)
    ∙ drop-append_seam (take i s) y

-- ---- the key of an entry
key_of_lem : (s : List ℕ) (e : Entry) → e.channel * 4294967296 + e.time ≡ key_of (rec_of s e)
key_of_lem s e = by e.tick where
  by : (t : Bool) → e.channel * 4294967296 + e.time ≡ key_of (cond t (tick e.time e.channel) (frame e.time e.channel e.extended e.id (take e.length (drop e.start s))))
  by true = refl
  by false = refl

key_channel : (r : Rec) → Loggable r → key_of r / 4294967296 ≡ channel_of r
key_channel (tick t c) h = omega (arith, h.0)
key_channel (frame t c x i p) h = omega (arith, h.0)

-- ---- one more record in the arrays
held_more : (s : List ℕ) (rs : List Rec) (starts keys : List ℕ) (n e k : ℕ) → n + 1 < length starts → n < length keys
    → Held s rs starts keys n → Holds s (at rs n) (get_or starts n 0) e k → Held s rs (set starts (n + 1) e) (set keys n k) (n + 1)
held_more s rs starts keys n e k hs hk w here = below_more P n before now' where
  P : ℕ → Type 0
  P i = Holds s (at rs i) (get_or (set starts (n + 1) e) i 0) (get_or (set starts (n + 1) e) (i + 1) 0) (get_or (set keys n k) i 0)

  before : (i : ℕ) → i < n → Holds s (at rs i) (get_or (set starts (n + 1) e) i 0) (get_or (set starts (n + 1) e) (i + 1) 0) (get_or (set keys n k) i 0)
  before i h = rw (get_or-set_other starts (n + 1) i e 0 (λ z. omega arith), get_or-set_other starts (n + 1) (i + 1) e 0 (λ z. omega arith), get_or-set_other keys n i k 0 (λ z. omega arith)) (w i h)

  now' : Holds s (at rs n) (get_or (set starts (n + 1) e) n 0) (get_or (set starts (n + 1) e) (n + 1) 0) (get_or (set keys n k) n 0)
  now' = rw (get_or-set_other starts (n + 1) n e 0 (λ z. omega arith), get_or-set_same starts (n + 1) e 0 hs, get_or-set_same keys n k 0 hk) here

-- ---- `split` at byte `i`, after n records
abbrev pub Told : List ℕ → List ℕ → List ℕ → ℕ → ℕ → Type 0
Told s starts keys i n =
    (i ≤ length s) × (n ≤ i) × (split_of n (log_at s i) ≡ split_of 0 (log_of s)) × (drop n (records_of s) ≡ records_in (log_at s i))
    × (length starts ≡ 513) × (length keys ≡ 512) × (n ≤ most → get_or starts n 0 ≡ i) × (n ≤ most → Held s (records_of s) starts keys n)

-- what `split` ensures
abbrev pub Leaves : List ℕ → List ℕ → List ℕ → Result ℕ ℕ → Type 0
Leaves s starts keys r = (r ≡ split_of 0 (log_of s)) × ((n : ℕ) → r ≡ Ok n → n ≤ most → Held s (records_of s) starts keys n)

pub told_start : (s starts keys : List ℕ) → length starts ≡ 513 → length keys ≡ 512 → Told s (set starts 0 0) keys 0 0
told_start s starts keys hs hk =
    (omega arith, omega arith, refl, refl, length-set starts 0 0 ∙ hs, hk, λ le. get_or-set_same starts 0 0 0 (omega arith), λ le i h. absurd (omega arith))

module _ (s starts keys : List ℕ) (i n : ℕ) (w : Told s starts keys i n) where
  pub told_more : (e : Entry) → Bytes s → found_at s i ≡ found.Record e
      → Told s (set starts (n + 1) e.next) (set keys n (e.channel * 4294967296 + e.time)) e.next (n + 1)
  unfolding split_of records_in
  told_more e b f =
      let x = (found_exact s i e f).1 in
      let y = x.2 b in
      let l : log_at s i ≡ then (rec_of s e) (log_at s e.next) = found_turn s i ∙ ap (onward s (log_at s)) f in
      let d = drop_head (records_of s) n (rec_of s e) (records_in (log_at s e.next)) (w.3 ∙ ap records_in l) in
      let k : ℕ = e.channel * 4294967296 + e.time in
      let kr : k ≡ key_of (rec_of s e) = key_of_lem s e in
      let here : Holds s (rec_of s e) i e.next k = (omega (arith, x.0), x.1, kr, ap (λ (z : ℕ). z / 4294967296) kr ∙ key_channel (rec_of s e) y.0, y.0, part_of s (record_bytes (rec_of s e)) i e.next (omega (arith, x.0)) y.1) in (
        x.1,
        omega (arith, x.0, w.1),
        sym (ap (split_of n) l) ∙ w.2,
        d.1,
        length-set starts (n + 1) e.next ∙ w.4,
        length-set keys n k ∙ w.5,
        λ le. get_or-set_same starts (n + 1) e.next 0 (omega (arith, w.4)),
        λ le. held_more s (records_of s) starts keys n e.next k (omega (arith, w.4)) (omega (arith, w.5)) (w.7 (omega arith))
            (subst (λ (z : Rec). Holds s z (get_or starts n 0) e.next k) (sym d.0) (subst (λ (z : ℕ). Holds s (rec_of s e) z e.next k) (sym (w.6 (omega arith))) here)),
      )

  stopped : (x : Ending) → log_at s i ≡ ended x → split_of n (ended x) ≡ split_of 0 (log_of s)
  stopped x f = sym (ap (split_of n) f) ∙ w.2

  pub told_all : log_at s i ≡ ended ending.Clean → Leaves s starts keys (Ok n)
  unfolding split_of
  told_all f = (stopped ending.Clean f, λ m z le. let same : n ≡ m = cc in subst (Held s (records_of s) starts keys) same (w.7 (omega arith)))

  told_cut : (byte : ℕ) → log_at s i ≡ ended (ending.Cut byte) → Leaves s starts keys (Err byte)
  unfolding split_of
  told_cut byte f = (stopped (ending.Cut byte) f, λ m z le. absurd (let b : ◌≡◌ {A = ℕ} 0 1 = cc in omega arith))

  told_refused : (why : Refusal) (byte : ℕ) → log_at s i ≡ ended (ending.Refused why byte) → Leaves s starts keys (Err byte)
  unfolding split_of
  told_refused why byte f = (stopped (ending.Refused why byte) f, λ m z le. absurd (let b : ◌≡◌ {A = ℕ} 0 1 = cc in omega arith))

  pub told_broken : (byte : ℕ) (x : Ending) → log_at s i ≡ ended x → (x ≡ ending.Cut byte) ⊎ ((why : Refusal) × (x ≡ ending.Refused why byte)) → Leaves s starts keys (Err byte)
  told_broken byte x f (inl e) = told_cut byte (f ∙ ap ended e)
  told_broken byte x f (inr e) = told_refused e.0 byte (f ∙ ap ended e.1)

-- ---- what it comes to
abbrev pub Split : ℕ → Log → Result ℕ ℕ → Type 0
Split k l (Ok n) = (broken_at l ≡ none) × (n ≡ k + length (records_in l))
Split k l (Err byte) = broken_at l ≡ some byte

split_then : (k : ℕ) (r : Rec) (l : Log) (x : Result ℕ ℕ) → Split (k + 1) l x → Split k (then r l) x
unfolding broken_at records_in
split_then k r l (Ok n) h = (h.0, omega (arith, h.1))
split_then k r l (Err byte) h = h

split_by : (k : ℕ) (l : Log) → Split k l (split_of k l)
unfolding split_of broken_at records_in
split_by k (ends clean) = (refl, omega arith)
split_by k (ends (piece byte)) = refl
split_by k (ends (refused why byte)) = refl
split_by k (then r l) = split_then k r l (split_of (k + 1) l) (split_by (k + 1) l)

pub split_is : (s : List ℕ) {r : Result ℕ ℕ} (x : Result ℕ ℕ) → r ≡ split_of 0 (log_of s) → r ≡ x → Split 0 (log_of s) x
split_is s x w e = subst (Split 0 (log_of s)) (sym w ∙ e) (split_by 0 (log_of s))

-- the arrays as calls left them
pub told_by_lem : (s : List ℕ) (i n : ℕ) {starts starts' keys keys' : List ℕ} → starts' ≡ starts → keys' ≡ keys → Told s starts keys i n → Told s starts' keys' i n
told_by_lem s i n e f w = rw (e, f) w
