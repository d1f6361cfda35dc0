-- What a look-up shows of a post that is set up.
use Rattle.std.specs.Prelude.{Ok}
use Rattle.watch_rules.specs.rules.specs.declared.Post.{Post}
use Rattle.watch_rules.specs.rules.specs.After.{post_record}
use Rattle.watch_rules.specs.declared.LookedUp.{LookedUp}

abbrev pub found : Post → LookedUp
found p = record { answer = Ok tt; shown = post_record p }
