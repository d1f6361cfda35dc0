-- Numbers: what is written reads back, a piece of it reads as cut, and no number has two forms.
use mathlib.Core.Path.{◌≡◌, refl, sym, ap, ◌∙◌, subst}
use mathlib.Core.Bool.{Bool, true, false, cond}
use mathlib.Core.List.{List, [], ◌∷◌, ◌++◌}
use Prim.Native.Nat.{ℕ, zero, suc, ◌+◌, ◌*◌, ◌/◌, ◌%◌, ◌≤◌, ◌<◌}
use native.Mathlib.Nat.{div-add-mod', mod-lt, zero-lt-suc}
use native.Mathlib.Omega.{arith}
use native.Mathlib.Numerals.{add-one}
use lib.ListN.{length, take, drop, get_or, length-drop}
use lib.Seq.{drop-append_seam}
use lib.Dec.{ltb, eqb}
use borrow.Author.Tests.{ltb-true, ltb-false, lt-ltb, le-ltb, ne_eqb, eqb-false}
use Rattle.std.specs.Prelude.{Ok, Err}
use Rattle.log_numbers.specs.declared.NumberError.TheVariants.{Cut, Ill}
use Rattle.log_numbers.specs.Number.{Num, groups, number_bytes, size_of, more_of, read_groups, read_number, top}

-- the low seven bits of a group whose high bit is set
low_of : (x : ℕ) → x < 128 → (x + 128) % 128 ≡ x
low_of x h = omega arith

-- one group, then those of n / 128
written_more : (k n : ℕ) (r : List ℕ) (t : Bool) → ltb n 128 ≡ t
    → (128 ≤ n → read_groups k (groups k (n / 128) ++ r) ≡ Ok (n / 128, length (groups k (n / 128))))
    → read_groups (suc k) (cond t (n ∷ []) ((n % 128 + 128) ∷ groups k (n / 128)) ++ r)
    ≡ Ok (n, length (cond t (n ∷ []) ((n % 128 + 128) ∷ groups k (n / 128))))
unfolding read_groups
written_more k n r true e ih = rw e
written_more k n r false e ih =
    let big : 128 ≤ n = ltb-false n 128 e in
    let high : ltb (n % 128 + 128) 128 ≡ false = le-ltb (n % 128 + 128) 128 (omega arith) in
    let some : eqb (n / 128) 0 ≡ false = ne_eqb (n / 128) 0 (λ z. omega arith) in
    let low : (n % 128 + 128) % 128 ≡ n % 128 = low_of (n % 128) (mod-lt n (zero-lt-suc 127)) in
    let all : n / 128 * 128 + n % 128 ≡ n = div-add-mod' n 128 in
    rw (high, ih big, some, low, all, add-one)

-- what is written reads back, followed by anything
pub written : (k n : ℕ) (r : List ℕ) → n < top k → read_groups k (groups k n ++ r) ≡ Ok (n, length (groups k n))
unfolding groups read_groups top
written zero n r h = rw (lt-ltb n 16 h)
written (suc k) n r h = written_more k n r (ltb n 128) refl (λ big. written k (n / 128) r (omega arith))

cut_more : (k n i : ℕ) (t : Bool) → ltb n 128 ≡ t
    → ((j : ℕ) → j < length (groups k (n / 128)) → read_groups k (take j (groups k (n / 128))) ≡ Err Cut)
    → i < length (cond t (n ∷ []) ((n % 128 + 128) ∷ groups k (n / 128)))
    → read_groups (suc k) (take i (cond t (n ∷ []) ((n % 128 + 128) ∷ groups k (n / 128)))) ≡ Err Cut
unfolding read_groups
cut_more k n zero true e ih h = refl
cut_more k n (suc i) true e ih h = absurd (omega arith)
cut_more k n zero false e ih h = refl
cut_more k n (suc i) false e ih h =
    let high : ltb (n % 128 + 128) 128 ≡ false = le-ltb (n % 128 + 128) 128 (omega arith) in
    rw (high, ih i (omega arith))

-- a proper prefix of a written number reads as cut
pub cut_short : (k n i : ℕ) → i < length (groups k n) → read_groups k (take i (groups k n)) ≡ Err Cut
unfolding groups read_groups
cut_short zero n zero h = refl
cut_short zero n (suc i) h = absurd (omega arith)
cut_short (suc k) n i h = cut_more k n i (ltb n 128) refl (cut_short k (n / 128)) h

-- ---- what was read is small
abbrev pub Under : ℕ → ℕ → Num → Type 0
Under m l (Ok (n, j)) = (n < m) × (j ≤ l)
Under m l (Err e) = Unit {0}

under_cond : (t : Bool) (m l : ℕ) (x y : Num) → (t ≡ true → Under m l x) → (t ≡ false → Under m l y) → Under m l (cond t x y)
under_cond true m l x y p q = p refl
under_cond false m l x y p q = q refl

under_more : (b m l : ℕ) (r : Num) → Under m l r → Under (m * 128) (suc l) (more_of b r)
under_more b m l (Ok (x, y)) h =
    under_cond (eqb x 0) (m * 128) (suc l) (Err Ill) (Ok (x * 128 + b % 128, y + 1)) (λ e. tt)
    (λ e. (omega (arith, mod-lt b (zero-lt-suc 127), h.0), omega (arith, h.1)))
under_more b m l (Err e) h = tt

pub top_some : (k : ℕ) → 16 ≤ top k
unfolding top
top_some zero = omega arith
top_some (suc k) = omega (arith, top_some k)

-- ---- two numbers never write the same bytes, whatever follows
pub prefix_free : (a b : ℕ) (x y : List ℕ) → a < 4294967296 → b < 4294967296 → number_bytes a ++ x ≡ number_bytes b ++ y → (a ≡ b) × (x ≡ y)
unfolding top
prefix_free a b x y ha hb e =
    let ra : read_groups 4 (groups 4 a ++ x) ≡ Ok (a, length (groups 4 a)) = written 4 a x ha in
    let rb : read_groups 4 (groups 4 b ++ y) ≡ Ok (b, length (groups 4 b)) = written 4 b y hb in
    let same : (a, length (groups 4 a)) ≡ (b, length (groups 4 b)) = (cc (ap (read_groups 4) e)) in
    let ab : a ≡ b = ap (λ (p : ℕ × ℕ). p.0) same in
    let lab : length (groups 4 a) ≡ length (groups 4 b) = ap (λ (p : ℕ × ℕ). p.1) same in
    (ab, sym (drop-append_seam (groups 4 a) x) ∙ ap (drop (length (groups 4 a))) e ∙ ap (λ (n : ℕ). drop n (groups 4 b ++ y)) lab ∙ drop-append_seam (groups 4 b) y)

-- ---- whatever reads as a number is what is written for it: no two forms of one number
abbrev pub Sound : ℕ → List ℕ → Num → Type 0
Sound k s (Ok (n, j)) = groups k n ++ drop j s ≡ s
Sound k s (Err e) = Unit {0}

sound_cond : (t : Bool) (k : ℕ) (s : List ℕ) (x y : Num) → (t ≡ true → Sound k s x) → (t ≡ false → Sound k s y) → Sound k s (cond t x y)
sound_cond true k s x y p q = p refl
sound_cond false k s x y p q = q refl

sound_more : (k b : ℕ) (bs : List ℕ) (r : Num) → 128 ≤ b → b < 256 → Sound k bs r → Sound (suc k) (b ∷ bs) (more_of b r)
unfolding groups
sound_more k b bs (Ok (x, y)) h g ih =
    sound_cond (eqb x 0) (suc k) (b ∷ bs) (Err Ill) (Ok (x * 128 + b % 128, y + 1)) (λ e. tt)
    (λ e.
    let some : x ≡ 0 → ⊥ = eqb-false x 0 e in
    let big : ltb (x * 128 + b % 128) 128 ≡ false = le-ltb (x * 128 + b % 128) 128 (omega arith) in
    let low : (x * 128 + b % 128) % 128 + 128 ≡ b = omega arith in
    let rest : (x * 128 + b % 128) / 128 ≡ x = omega arith in
    rw (big, low, rest, add-one y) (ap (λ (l : List ℕ). b ∷ l) ih))
sound_more k b bs (Err e) h g ih = tt

pub sound : (k : ℕ) (s : List ℕ) → ((i : ℕ) → get_or s i 0 < 256) → Sound k s (read_groups k s)
unfolding read_groups groups
sound zero [] f = tt
sound (suc k) [] f = tt
sound zero (b ∷ bs) f = sound_cond (ltb b 16) zero (b ∷ bs) (Ok (b, 1)) (Err Ill) (λ e. refl) (λ e. tt)
sound (suc k) (b ∷ bs) f =
    sound_cond (ltb b 128) (suc k) (b ∷ bs) (Ok (b, 1)) (more_of b (read_groups k bs)) (λ e. rw e)
    (λ e. sound_more k b bs (read_groups k bs) (ltb-false b 128 e) (f 0) (sound k bs (λ i. f (suc i))))

-- ---- one group more, with no count of groups in sight
more_room : (k n : ℕ) → n < top k → groups (suc k) n ≡ groups k n
unfolding groups top
more_room zero n h = rw (lt-ltb n 128 (omega arith))
more_room (suc k) n h = ap (λ (l : List ℕ). cond (ltb n 128) (n ∷ []) ((n % 128 + 128) ∷ l)) (more_room k (n / 128) (omega arith))

pub bytes_one : (n : ℕ) → n < 128 → number_bytes n ≡ n ∷ []
unfolding groups
bytes_one n h = rw (lt-ltb n 128 h)

pub bytes_more : (n : ℕ) → 128 ≤ n → n < 4294967296 → number_bytes n ≡ (n % 128 + 128) ∷ number_bytes (n / 128)
unfolding groups top
bytes_more n h u =
    let l : groups 4 (n / 128) ≡ groups 3 (n / 128) = more_room 3 (n / 128) (omega arith) in
    rw (l, le-ltb n 128 h)

-- a turn of `number_size`
pub size_more : (n : ℕ) → 128 ≤ n → n < 4294967296 → size_of n ≡ suc (size_of (n / 128))
size_more n h u = ap length (bytes_more n h u)

pub size_one : (n : ℕ) → n < 128 → size_of n ≡ 1
size_one n h = ap length (bytes_one n h)

pub size_le : (k n : ℕ) → length (groups k n) ≤ suc k
unfolding groups
size_le zero n = omega arith
size_le (suc k) n = size-pick (ltb n 128) (size_le k (n / 128)) where
  size-pick : (t : Bool) → length (groups k (n / 128)) ≤ suc k → length (cond t (n ∷ []) ((n % 128 + 128) ∷ groups k (n / 128))) ≤ suc (suc k)
  size-pick true h = omega arith
  size-pick false h = omega arith

-- ---- a number takes a byte at least
abbrev pub Some : Num → Type 0
Some (Ok (n, j)) = 0 < j
Some (Err e) = Unit {0}

some_cond : (t : Bool) (x y : Num) → Some x → Some y → Some (cond t x y)
some_cond true x y p q = p
some_cond false x y p q = q

some_more : (b : ℕ) (r : Num) → Some (more_of b r)
some_more b (Ok (n, j)) = some_cond (eqb n 0) (Err Ill) (Ok (n * 128 + b % 128, j + 1)) tt (omega arith)
some_more b (Err e) = tt

pub some : (k : ℕ) (s : List ℕ) → Some (read_groups k s)
unfolding read_groups
some zero [] = tt
some (suc k) [] = tt
some zero (b ∷ bs) = some_cond (ltb b 16) (Ok (b, 1)) (Err Ill) (omega arith) tt
some (suc k) (b ∷ bs) = some_cond (ltb b 128) (Ok (b, 1)) (more_of b (read_groups k bs)) (omega arith) (some_more b (read_groups k bs))

-- a number that was read lies within the bytes
pub within : (k : ℕ) (s : List ℕ) → Under (top k) (length s) (read_groups k s)
unfolding read_groups top
within zero [] = tt
within (suc k) [] = tt
within zero (b ∷ bs) = under_cond (ltb b 16) 16 (length (b ∷ bs)) (Ok (b, 1)) (Err Ill) (λ e. (ltb-true b 16 e, omega arith)) (λ e. tt)
within (suc k) (b ∷ bs) =
    under_cond (ltb b 128) (top k * 128) (length (b ∷ bs)) (Ok (b, 1)) (more_of b (read_groups k bs))
    (λ e. (omega (arith, ltb-true b 128 e, top_some k), omega arith)) (λ e. under_more b (top k) (length bs) (read_groups k bs) (within k bs))

pub within_at : (s : List ℕ) (i n j : ℕ) (r : Num) → r ≡ read_number (drop i s) → r ≡ Ok (n, j) → i ≤ length s → i + j ≤ length s
within_at s i n j r p e h =
    let u : Under (top 4) (length (drop i s)) (Ok (n, j)) = subst (Under (top 4) (length (drop i s))) (sym p ∙ e) (within 4 (drop i s)) in
    omega (arith, u.1, length-drop i s)
