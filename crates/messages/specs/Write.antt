-- Writing: 01, "Writing a message gives 7 or 8."
use Rattle.std.specs.Prelude.{ℕ, cond, List, Err}
use Rattle.refusals.specs.declared.Refusal.TheVariants.{NoRawNumber}
use Rattle.page_write.specs.Written.{Written}
use Rattle.page_write.specs.Raws as pages
use Rattle.message_types.specs.declared.Message.{Message}
use Rattle.message_types.specs.KindNumbers.{kind_of}
use Rattle.message_take.specs.Take.{has_raws, padded}

-- 7 for a value without a raw number, and for one that does not fit; then 8
unfoldable pub write_of : Message → List ℕ → Written
write_of m buf = cond (has_raws m) (pages.write_raws_of (kind_of m) (padded m) buf) (Err NoRawNumber)

unfoldable pub buffer_after : Message → List ℕ → List ℕ
buffer_after m buf = cond (has_raws m) (pages.buffer_after (kind_of m) (padded m) buf) buf
