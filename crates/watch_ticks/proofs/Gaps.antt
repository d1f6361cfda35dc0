-- Two histories with the same events and the same gaps between them are one history at two times.
use Prim.Native.Nat.{ℕ, ◌+◌, ◌-◌, ◌≤◌}
use native.Mathlib.Omega.{arith}
use mathlib.Core.Path.{◌≡◌, refl, sym, ap, ap₂, ◌∙◌}
use mathlib.Core.List.{List, [], ◌∷◌}
use Rattle.rules.specs.History.{History, time_of}
use Rattle.rules.specs.Times.{latest_time}
use Rattle.watch_clock.specs.Later.{delayed, Rising}
use Rattle.watch_clock.specs.Differences.{said_by, said}
use Rattle.watch_clock.proofs.Rising.{rising}
use Rattle.watch_clock.proofs.Differences.{on_both, crossed}
use Rattle.watch_ticks.specs.Marks.{Mark, kept, extra, whole, without}
use Rattle.watch_ticks.specs.Gaps.{since_last, gaps, Alike}

same_gaps : (u v : History) → Rising u → Rising v → said u ≡ said v → gaps u ≡ gaps v → delayed (latest_time v) u ≡ delayed (latest_time u) v
same_gaps [] [] p q what between = refl
same_gaps [] (f ∷ v) p q what between = cc
same_gaps (e ∷ u) [] p q what between = cc
same_gaps (e ∷ u) (f ∷ v) p q what between =
    let w : said_by e ≡ said_by f = cc in
    let ws : said u ≡ said v = cc in
    let g : since_last u (time_of e) ≡ since_last v (time_of f) = cc in
    let gs : gaps u ≡ gaps v = cc in
    ap₂ ◌∷◌ (crossed e f w) (older u v p.0 q.0 gs g (same_gaps u v p.1 q.1 ws gs))
  where
    older : (u v : History) → latest_time u ≤ time_of e → latest_time v ≤ time_of f → gaps u ≡ gaps v → since_last u (time_of e) ≡ since_last v (time_of f)
        → delayed (latest_time v) u ≡ delayed (latest_time u) v → delayed (time_of f) u ≡ delayed (time_of e) v
    older [] [] p q gs g same = refl
    older [] (x ∷ v) p q gs g same = cc
    older (y ∷ u) [] p q gs g same = cc
    older (y ∷ u) (x ∷ v) p q gs g same =
        let mine : time_of e ≡ time_of y + (time_of e - time_of y) = omega (arith, p) in
        let its : time_of f ≡ time_of x + (time_of e - time_of y) = omega (arith, g, p, q) in
        ap (λ (n : ℕ). delayed n (y ∷ u)) its ∙ on_both (time_of y) (time_of x) (time_of e - time_of y) (y ∷ u) (x ∷ v) same ∙ ap (λ (n : ℕ). delayed n (x ∷ v)) (sym mine)

-- ---- the kept events of a list that was accepted whole

without_latest : (m : List Mark) → Rising (whole m) → latest_time (without m) ≤ latest_time (whole m)
without_latest [] p = omega arith
without_latest (kept e ∷ m) p = omega arith
without_latest (extra t ∷ m) p = omega (arith, without_latest m p.1, p.0)

without_rising : (m : List Mark) → Rising (whole m) → Rising (without m)
without_rising [] p = tt
without_rising (kept e ∷ m) p = (omega (arith, without_latest m p.1, p.0), without_rising m p.1)
without_rising (extra t ∷ m) p = without_rising m p.1

-- as much later as each of the two lists' kept events end
pub alike_delayed : (m n : List Mark) → Alike m n → delayed (latest_time (without n)) (without m) ≡ delayed (latest_time (without m)) (without n)
alike_delayed m n a =
    same_gaps (without m) (without n) (without_rising m (rising (whole m) a.one)) (without_rising n (rising (whole n) a.other)) a.same a.between
