-- Which findings exclude each other: with no session open the rules that ask for one find nothing, and with one open the rules that ask for none.
use mathlib.Core.Path.{◌≡◌, refl}
use mathlib.Core.Bool.{Bool, true, false, ◌&&◌}
use mathlib.Core.Option.{Option, none, some}
use Rattle.rule_limits.specs.declared.PlainLimits.{PlainLimits}
use Rattle.rules.specs.History.{Event, History, Said, opening}
use Rattle.rules.specs.Rules.{ask, is_open, f1, f3, f4, f5, f8, f9, f10, f11, f12}

none_open : (o : Option Said) → is_open o ≡ false → o ≡ none
none_open none closed = refl
none_open (some o) closed = cc

pub ask_false : (o : Option Said) → ask o (λ a. false) ≡ false
ask_false none = refl
ask_false (some a) = refl

pub and_false : (b : Bool) → (b && false) ≡ false
and_false true = refl
and_false false = refl

pub excludes : (lim : PlainLimits) (h : History) (e : Event)
    → (is_open (opening h) ≡ false → (f1 lim h e ≡ false) × (f5 lim h e ≡ false) × (f8 lim h e ≡ false) × (f9 lim h e ≡ false) × (f10 lim h e ≡ false) × (f12 lim h e ≡ false))
    × (is_open (opening h) ≡ true → (f3 lim h e ≡ false) × (f4 lim h e ≡ false) × (f11 lim h e ≡ false))
unfolding f1 f3 f4 f5 f8 f9 f10 f11 f12
excludes lim h e = (
  λ closed. let no : opening h ≡ none = none_open (opening h) closed in
      (simp no, simp (no, and_false, ask_false), simp (no, ask_false), simp (no, ask_false), simp (no, ask_false), simp (no, and_false, ask_false)),
  λ opened. (simp (opened, and_false, ask_false), simp (opened, and_false, ask_false), simp (opened, ask_false)),
)
