-- 01, 7: "a raw number does not fit its signal".
use Rattle.std.specs.Prelude.{Bool, List, ℤ}
use Rattle.signal.specs.Raw.{fits_in}
use Rattle.page_change.specs.page_table.specs.declared.Row.{Row}
use Rattle.page_change.specs.page_write.specs.Raws.{all_by}

abbrev pub row_fits : Row → ℤ → Bool
row_fits r z = fits_in r.signed r.width z

-- each number fits its signal
abbrev pub all_fit : List Row → List ℤ → Bool
all_fit rs zs = all_by row_fits rs zs
