-- What stands past the end of these rows: a signal of no bits.
use Rattle.std.specs.Prelude.{false}
use Rattle.page_table.specs.declared.Row.{Row}
use Rattle.page_table.specs.Layout.{line}

abbrev pub past : Row
past = line 0 0 0 false 0
