use Rattle.std.proofs.Common.{sym, ◌∙◌, ltb, rules, tests}
use Rattle.std.proofs.lemmas.Iterator.{YieldsList-from_slice}
use Rattle.std.proofs.lemmas.Iterator.Search.{all_from_yields_List}
use Rattle.text_numbers.specs.Numbers.{digit_of}
use Rattle.text_bytes.proofs.Pairs.{digits_each}
use Rattle.text_bytes.proofs.are_digits.Goals as goal

pub returns : goal.returns
returns c =
    all_from_yields_List (λ x. ltb (digit_of x) 16) _ _ _ c.all.ensures.ran (YieldsList-from_slice c.args.s.now cc) (λ x b q k. search (rules, tests))
    ∙ sym (digits_each c.args.s.now)
