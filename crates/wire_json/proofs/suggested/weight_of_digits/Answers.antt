-- Digits that aren't read as a number are no weight.
use Rattle.std.proofs.Common.{sym}
use Rattle.wire_json.proofs.SuggestedLemmas.{digits_over}
use Rattle.wire_json.proofs.suggested.weight_of_digits.Goals as goal

pub returns-in-Err : goal.returns-in-Err
returns-in-Err c =
    digits_over c.args.text.now (sym c.if-not-are_digits.ensures) c.in-Err.ensures.value.0
