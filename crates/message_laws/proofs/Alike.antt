-- Kinds whose signals are alike: the same lowest bits, widths, signs and labels, in order, under whatever identifiers. What one of them shows of itself
-- (`Ways`), the other does (`alike`). Assumes nothing.
use mathlib.Core.Path.{◌≡◌, refl, sym, ap, ◌∙◌, subst}
use mathlib.Core.Bool.{Bool, true, false, not, ◌&&◌, ◌||◌}
use mathlib.Core.List.{List, [], ◌∷◌}
use Prim.Native.Nat.{ℕ, suc}
use lib.ListN.{length}
use lib.IntN.{ℤ}
use Rattle.signal.specs.Raw.{bits_in}
use Rattle.page_change.specs.page_table.specs.declared.Row.{Row}
use Rattle.page_change.specs.page_table.specs.Table.{rows_of, bits_at, takes}
use Rattle.page_change.specs.page_read.specs.Judge.{unlabelled}
use Rattle.page_change.specs.page_write.specs.Raws.{row_takes, whole_at, wholes_of, all_take}
use Rattle.message_fields.specs.Fields.{at}
use Rattle.message_laws.proofs.Fitting.{labels_at}
use Rattle.message_laws.proofs.Ways.{Ways}

-- a row's signal, in no message
abbrev pub bare : Row → Row
bare r =
    record { kind = 0; id = 0; extended = false; bytes = 0; big = false; start = 0; width = r.width; low = r.low; signed = r.signed; labels = r.labels }

abbrev pub bares : List Row → List Row
bares [] = []
bares (r ∷ rs) = bare r ∷ bares rs

-- ---- of its rows, a kind's ways read the signals alone

length_bare : (rs : List Row) → length (bares rs) ≡ length rs
length_bare [] = refl
length_bare (r ∷ rs) = ap suc (length_bare rs)

labels_bare : (rs : List Row) (zs : List ℤ) → labels_at (bares rs) zs ≡ labels_at rs zs
labels_bare [] zs = refl
labels_bare (r ∷ rs) [] = refl
labels_bare (r ∷ rs) (z ∷ zs) = ap (λ (b : Bool). takes r.labels (bits_in r.signed r.width z) && b) (labels_bare rs zs)

take_bare : (rs : List Row) (zs : List ℤ) → all_take (bares rs) zs ≡ all_take rs zs
unfolding all_take
take_bare [] zs = refl
take_bare (r ∷ rs) [] = refl
take_bare (r ∷ rs) (z ∷ zs) = ap (λ (b : Bool). row_takes r z && b) (take_bare rs zs)

unlabelled_bare : (n : ℕ) (rs : List Row) → unlabelled n (bares rs) ≡ unlabelled n rs
unfolding unlabelled
unlabelled_bare n [] = refl
unlabelled_bare n (r ∷ rs) = ap (λ (b : Bool). not (takes r.labels (bits_at n r)) || b) (unlabelled_bare n rs)

wholes_bare : (n : ℕ) (rs : List Row) → wholes_of n (bares rs) ≡ wholes_of n rs
unfolding wholes_of
wholes_bare n [] = refl
wholes_bare n (r ∷ rs) = ap (λ (zs : List ℤ). whole_at n r ∷ zs) (wholes_bare n rs)

-- ---- and so kinds with the same signals have the same ways

pub alike : {A : Type 0} {raws : A → List ℤ} {valued : A → Bool} {of : (ℕ → ℤ) → A} (k j : ℕ) → bares (rows_of k) ≡ bares (rows_of j)
    → Ways k raws valued of → Ways j raws valued of
alike {raws} {valued} {of} k j e w =
    record {
      counted = λ s. w.counted s ∙ by length length_bare;
      labelled = λ s. sym (by (λ rs. labels_at rs (raws s)) (λ rs. labels_bare rs (raws s))) ∙ w.labelled s;
      there = λ s h t. w.there s h (by (λ rs. all_take rs (raws s)) (λ rs. take_bare rs (raws s)) ∙ t);
      back = λ n u. subst (λ zs. raws (of (at zs)) ≡ zs) (numbers n) (w.back n (by (unlabelled n) (unlabelled_bare n) ∙ u));
      backed = λ n. subst (λ zs. valued (of (at zs)) ≡ true) (numbers n) (w.backed n);
    }
  where
    by : {B : Type 0} (f : List Row → B) → ((rs : List Row) → f (bares rs) ≡ f rs) → f (rows_of k) ≡ f (rows_of j)
    by f g = sym (g (rows_of k)) ∙ ap f e ∙ g (rows_of j)

    numbers : (n : ℕ) → wholes_of n (rows_of k) ≡ wholes_of n (rows_of j)
    numbers n = by (wholes_of n) (wholes_bare n)
