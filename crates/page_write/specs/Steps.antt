-- An inner step: what the loop that packs raw numbers computes. The promises of Raws do not speak of it.
use Rattle.std.specs.Prelude.{ℕ, cond, List, ℤ, Option, Some, None}
use Rattle.page_read.specs.page_table.specs.declared.Row.{Row}
use Rattle.page_write.specs.Raws.{all_take, packed_on}

unfoldable pub pack_of : List Row → List ℤ → Option ℕ
pack_of rs zs = cond (all_take rs zs) (Some (packed_on 0 rs zs)) None
