-- A log read in pieces: what a piece shows as a record, or as refused, stands so in the log; only an end or a cut may change with the bytes that follow,
-- and in the log's last piece not even these.
use mathlib.Core.Path.{◌≡◌, refl, sym, ap, ◌∙◌, subst}
use mathlib.Core.Logic.{◌⊎◌, inl, inr, ⊎_elim}
use mathlib.Core.Bool.{Bool, true, false, cond, true≢false}
use mathlib.Core.List.{List, [], ◌∷◌, ◌++◌, append-nil}
use Prim.Native.Nat.{ℕ, zero, suc, ◌+◌, ◌-◌, ◌/◌, ◌%◌, ◌≤◌, ◌<◌}
use native.Mathlib.Omega.{arith}
use lib.ListN.{length, take, drop, length-append, length-drop, drop_of_length-le, take-append-drop}
use lib.Seq.{drop-drop, drop-append-le, take-append-le}
use lib.Dec.{ltb, leb, eqb}
use borrow.Author.Tests.{ltb-true, ltb-false, lt-ltb, le-ltb, leb-true, leb-false, le-leb, lt-leb}
use Rattle.std.specs.Prelude.{Ok, Err}
use Rattle.log_numbers.specs.declared.NumberError.TheVariants as num
use Rattle.log_records.specs.declared.Entry.{Entry}
use Rattle.log_records.specs.declared.RecordError.TheVariants.{Cut, Bad}
use Rattle.log_records.specs.declared.Found.{Found}
use Rattle.log_records.specs.declared.Found.TheVariants as found
use Rattle.log_numbers.specs.Number.{Num, more_of, read_groups, read_number, top}
use Rattle.log_records.specs.Record.{identifiers, frame}
use Rattle.log_records.specs.Reading.{Taken, on_number, part, frame_entry, rec_of, length_part, identifier_part, channel_part, time_part, record_at, placed, found_at}
use Rattle.log_records.specs.Pieces.{piece_of, moved_entry, moved, is_firm}
use Rattle.log_numbers.proofs.Numbers.{Under, within}

-- ---- a number: more bytes change nothing but a cut
steady_by : (k b : ℕ) (bs r : List ℕ) (t : Bool) → (read_groups k bs ≡ Err num.Cut) ⊎ (read_groups k (bs ++ r) ≡ read_groups k bs)
    → (cond t (Ok (b, 1)) (more_of b (read_groups k bs)) ≡ Err num.Cut)
    ⊎ (cond t (Ok (b, 1)) (more_of b (read_groups k (bs ++ r))) ≡ cond t (Ok (b, 1)) (more_of b (read_groups k bs)))
steady_by k b bs r true h = inr refl
steady_by k b bs r false h = ⊎_elim (λ e. inl (ap (more_of b) e)) (λ e. inr (ap (more_of b) e)) h

steady : (k : ℕ) (s r : List ℕ) → (read_groups k s ≡ Err num.Cut) ⊎ (read_groups k (s ++ r) ≡ read_groups k s)
unfolding read_groups
steady zero [] r = inl refl
steady (suc k) [] r = inl refl
steady zero (b ∷ bs) r = inr refl
steady (suc k) (b ∷ bs) r = steady_by k b bs r (ltb b 128) (steady k bs r)

-- ---- a record: what the piece v shows (x), and the log s from its byte b on (y); r stands behind the piece
abbrev Seen : List ℕ → List ℕ → ℕ → List ℕ → Taken → Taken → Type 0
Seen v s b r (Ok d) y = (y ≡ Ok (moved_entry b d)) × (rec_of s (moved_entry b d) ≡ rec_of v d)
Seen v s b r (Err Cut) y = r ≡ [] → y ≡ Err Cut
Seen v s b r (Err (Bad w)) y = y ≡ Err (Bad w)

module _ (v s : List ℕ) (b : ℕ) (r : List ℕ) (h : drop b s ≡ v ++ r) where
  behind : (i : ℕ) → i ≤ length v → drop (b + i) s ≡ drop i v ++ r
  behind i le = sym (drop-drop i b s) ∙ ap (drop i) h ∙ drop-append-le i v r le

  -- no piece has bytes behind the log's end
  long : b + length v ≤ length s ⊎ (length v ≡ 0)
  long = by (length v) refl where
    by : (n : ℕ) → length v ≡ n → b + length v ≤ length s ⊎ (length v ≡ 0)
    by zero e = inr e
    by (suc n) e = inl (omega (arith, length-drop b s, ap length h, length-append v r))

  seen-number : (i : ℕ) (f g : ℕ → ℕ → Taken) (x : Num) → Under (top 4) (length (drop i v)) x → i ≤ length v
      → ((n j : ℕ) → j ≤ length v → Seen v s b r (f n j) (g n (b + j))) → Seen v s b r (on_number i f x) (on_number (b + i) g x)
  seen-number i f g (Ok (n, j)) u le k =
      let sum : b + (i + j) ≡ b + i + j = omega arith in
      subst (λ (z : ℕ). Seen v s b r (f n (i + j)) (g n z)) sum (k n (i + j) (omega (arith, u.1, length-drop i v)))
  seen-number i f g (Err num.Cut) u le k = λ none. refl
  seen-number i f g (Err num.Ill) u le k = refl

  -- a number that the last piece cuts is cut
  cut-last : (i : ℕ) (g : ℕ → ℕ → Taken) → i ≤ length v → read_number (drop i v) ≡ Err num.Cut → r ≡ [] → part s (b + i) g ≡ Err Cut
  cut-last i g le e none =
      ap (on_number (b + i) g) (ap read_number (behind i le ∙ ap (λ (x : List ℕ). drop i v ++ x) none ∙ append-nil (drop i v)) ∙ e)

  seen-part : (i : ℕ) (f g : ℕ → ℕ → Taken) → i ≤ length v → ((n j : ℕ) → j ≤ length v → Seen v s b r (f n j) (g n (b + j)))
      → Seen v s b r (part v i f) (part s (b + i) g)
  seen-part i f g le k =
      ⊎_elim (λ e. subst (λ (x : Num). Seen v s b r (on_number i f x) (part s (b + i) g)) (sym e) (cut-last i g le e))
      (λ e.
      let same : read_number (drop (b + i) s) ≡ read_number (drop i v) = ap read_number (behind i le) ∙ e in
      subst (λ (x : Num). Seen v s b r (part v i f) (on_number (b + i) g x)) (sym same) (seen-number i f g (read_number (drop i v)) (within 4 (drop i v)) le k))
      (steady 4 (drop i v) r)

  seen_test : (t : Bool) (x x' y y' : Taken) → (t ≡ true → Seen v s b r x y) → (t ≡ false → Seen v s b r x' y') → Seen v s b r (cond t x x') (cond t y y')
  seen_test true x x' y y' p q = p refl
  seen_test false x x' y y' p q = q refl

  payload_same : (i l : ℕ) → i ≤ length v → l ≤ length v - i → take l (drop (b + i) s) ≡ take l (drop i v)
  payload_same i l le f = ap (take l) (behind i le) ∙ take-append-le l (drop i v) r (omega (arith, length-drop i v))

  room-same : (i l : ℕ) → i ≤ length v → l ≤ length v - i → l ≤ length s - (b + i)
  room-same i l le f = ⊎_elim (λ e. omega arith) (λ e. omega arith) long

  room-last : (i l : ℕ) → length v - i < l → r ≡ [] → length s - (b + i) < l
  room-last i l f none = omega (arith, length-drop b s, ap length h, length-append v r, ap length none)

  seen-payload : (t c p l i : ℕ) (z : Bool) → ltb (length v - i) l ≡ z → i ≤ length v
      → Seen v s b r (cond z (Err Cut) (Ok (frame_entry t c p l i))) (cond (ltb (length s - (b + i)) l) (Err Cut) (Ok (frame_entry t c p l (b + i))))
  seen-payload t c p l i true e le = λ none. rw (lt-ltb (length s - (b + i)) l (room-last i l (ltb-true (length v - i) l e) none))
  seen-payload t c p l i false e le =
      let f : l ≤ length v - i = ltb-false (length v - i) l e in
      let sum : b + i + l ≡ b + (i + l) = omega arith in
      (rw (le-ltb (length s - (b + i)) l (room-same i l le f), sum), ap (frame t c (eqb (p % 2) 1) (p / 2)) (payload_same i l le f))

  seen-length : (t c p l i : ℕ) → i ≤ length v → Seen v s b r (length_part v t c p l i) (length_part s t c p l (b + i))
  unfolding length_part
  seen-length t c p l i le =
      seen_test (ltb 9 l) _ _ _ _ (λ e. refl)
      (λ e. seen_test (eqb l 9) _ _ _ _
      (λ e. seen_test (eqb p 0) _ _ _ _ (λ e. (refl, refl)) (λ e. refl))
      (λ e. seen-payload t c p l i (ltb (length v - i) l) refl le))

  seen-identifier : (t c p i : ℕ) → i ≤ length v → Seen v s b r (identifier_part v t c p i) (identifier_part s t c p (b + i))
  unfolding identifier_part
  seen-identifier t c p i le =
      seen_test (leb (identifiers (eqb (p % 2) 1)) (p / 2)) _ _ _ _ (λ e. refl)
      (λ e. seen-part i (length_part v t c p) (length_part s t c p) le (λ l j k. seen-length t c p l j k))

  seen-channel : (t c i : ℕ) → i ≤ length v → Seen v s b r (channel_part v t c i) (channel_part s t c (b + i))
  unfolding channel_part
  seen-channel t c i le =
      seen_test (ltb 31 c) _ _ _ _ (λ e. refl) (λ e. seen-part i (identifier_part v t c) (identifier_part s t c) le (λ p j k. seen-identifier t c p j k))

  seen-record : (i : ℕ) → i ≤ length v → Seen v s b r (record_at v i) (record_at s (b + i))
  unfolding record_at time_part
  seen-record i le =
      seen-part i (time_part v) (time_part s) le
      (λ t j k. seen-part j (channel_part v t) (channel_part s t) k (λ c j k. seen-channel t c j k))

  -- ---- what stands at byte i of the piece
  abbrev Shown : ℕ → Found → Type 0
  Shown i x = (is_firm x ≡ true ⊎ r ≡ [] → found_at s (b + i) ≡ moved b x) × ((e : Entry) → x ≡ found.Record e → rec_of s (moved_entry b e) ≡ rec_of v e)

  shown-end : (i : ℕ) → length v ≤ i → Shown i found.End
  shown-end i le = (⊎_elim (λ e. absurd (true≢false (sym e))) (λ none. rw (le-leb (length s) (b + i) (past none))), λ e z. cc)
    where
      past : r ≡ [] → length s ≤ b + i
      past none = omega (arith, length-drop b s, ap length h, length-append v r, ap length none)

  shown-some : (i : ℕ) (x : Taken) → i < length v → Seen v s b r x (record_at s (b + i)) → Shown i (placed i x)
  shown-some i x lt = go x
    where
      here : found_at s (b + i) ≡ placed (b + i) (record_at s (b + i))
      here = rw (lt-leb (length s) (b + i) (⊎_elim (λ e. omega arith) (λ e. omega arith) long))

      go : (x : Taken) → Seen v s b r x (record_at s (b + i)) → Shown i (placed i x)
      go (Ok d) w = (λ z. here ∙ ap (placed (b + i)) w.0, λ e z. let same : d ≡ e = cc in subst (λ (x : Entry). rec_of s (moved_entry b x) ≡ rec_of v x) same w.1)
      go (Err Cut) w = (⊎_elim (λ e. absurd (true≢false (sym e))) (λ none. here ∙ ap (placed (b + i)) (w none)), λ e z. cc)
      go (Err (Bad k)) w = (λ z. here ∙ ap (placed (b + i)) w, λ e z. cc)

  shown : (i : ℕ) → Shown i (found_at v i)
  shown i = go (leb (length v) i) refl
    where
      go : (t : Bool) → leb (length v) i ≡ t → Shown i (cond t found.End (placed i (record_at v i)))
      go true e = shown-end i (leb-true (length v) i e)
      go false e = shown-some i (record_at v i) (leb-false (length v) i e) (seen-record i (omega (arith, leb-false (length v) i e)))

-- ---- a piece of the log s: at most k bytes from its byte a on
module _ (s : List ℕ) (a k i : ℕ) where
  piece-seen : Shown (piece_of s a k) s a (drop k (drop a s)) (sym (take-append-drop k (drop a s))) i (found_at (piece_of s a k) i)
  piece-seen = shown (piece_of s a k) s a (drop k (drop a s)) (sym (take-append-drop k (drop a s))) i

  -- the log has at byte a + i what the piece shows at its byte i: a record or a refusal in any piece, and everything in the log's last piece
  pub in_pieces : is_firm (found_at (piece_of s a k) i) ≡ true ⊎ length s ≤ a + k → found_at s (a + i) ≡ moved a (found_at (piece_of s a k) i)
  in_pieces h = piece-seen.0 (⊎_elim inl (λ le. inr (nothing le)) h)
    where
      nothing : length s ≤ a + k → drop k (drop a s) ≡ []
      nothing le = let all : length (drop a s) ≤ k = omega (arith, length-drop a s) in drop_of_length-le (drop a s) all

  -- and the record is the same
  pub same_record : (e : Entry) → found_at (piece_of s a k) i ≡ found.Record e → rec_of s (moved_entry a e) ≡ rec_of (piece_of s a k) e
  same_record e h = piece-seen.1 e h
