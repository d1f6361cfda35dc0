-- Two accepted answers that are the same, of two values each, have the same values. Assumes nothing.
use Rattle.std.specs.Prelude.{Ok, Result}
use mathlib.Core.Path.{◌≡◌, ap}

pub ok_pair : {A B E : Type 0} {a a' : A} {b b' : B} → ◌≡◌ {A = Result (A × B) E} (Ok (a, b)) (Ok (a', b')) → (a ≡ a') × (b ≡ b')
ok_pair {A} {B} {E} {a} {a'} {b} {b'} e =
    let p : ◌≡◌ {A = A × B} (a, b) (a', b') = cc in
    (ap (λ (q : A × B). q.0) p, ap (λ (q : A × B). q.1) p)
